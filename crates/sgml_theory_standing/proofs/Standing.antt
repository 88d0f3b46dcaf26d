-- What is kept after a piece stands for what was read with it.
use Rattle.std.specs.Prelude.{◌≡◌, ℕ, ◌+◌, ◌≤◌, true, IsFalse, None, List, [], ◌∷◌, ◌++◌, reverse, length, map}
use Rattle.std.specs.Option.{option_or}
use Rattle.std.proofs.Common.{refl, sym, ap, ◌∙◌, subst}
use Rattle.std.proofs.lemmas.List.{reverse-reverse}
use Rattle.sgml_theory_spelling.specs.text.declared.place.Place.{Place}
use Rattle.sgml_theory_spelling.specs.entity.declared.kinds.Entity.{Entity}
use Rattle.sgml_theory_spelling.specs.entity.Stack.{moved}
use Rattle.sgml_theory_spelling.specs.theory_reading.Names.{Text}
use Rattle.sgml_theory_spelling.specs.theory_reading.Pieces.{Piece, History}
use Rattle.sgml_theory_spelling.specs.theory_reading.Facets.{Turn, turn, border, declares, stage_after, subset_named}
use Rattle.sgml_theory_spelling.specs.theory_reading.Nest.{types}
use Rattle.sgml_theory_spelling.specs.theory_reading.Unread.{Input, Outside, Sources, sources, external_subset, turned, unread, texts, rest_moved, rest_turned, Rest, rests, opened_length, spent, text_of, opening}
use Rattle.sgml_theory_spelling.specs.theory_reading.Sections.{sections, sections_after}
use Rattle.sgml_theory_spelling.specs.theory_reading.State.{stage}
use Rattle.sgml_theory_spelling.specs.theory_reading.Reads.{Move, moved_on, Reads, ReadsFromStart, after_moves, read_by, length_of_first, ends_in_finish}
use Rattle.sgml_theory_spelling.proofs.theory_reading.Cutting.{read-append}
use Rattle.sgml_theory_spelling.proofs.theory_reading.Stack.{length-unread}
use Rattle.sgml_theory_spelling.specs.Asked.{ArePlacesOf}
use Rattle.sgml_theory_spelling.specs.Spelled.{forms}
use Rattle.sgml_theory_standing.specs.Supplied.{AreSuppliedSoFar}
use Rattle.sgml_theory_standing.specs.Kept.{Kept, Stands, AreDeclared, AreWithin, rest_of, given, kept_after, sources_of}
use Rattle.sgml_theory_standing.specs.Prologs.{alone}
use Rattle.sgml_theory_standing.specs.Next.{sources_after, text_after, after, IsThere}
use Rattle.sgml_theory_standing.specs.Laws.{StandsOn}
use Rattle.sgml_theory_standing.proofs.Prologs.{plain}
use Rattle.sgml_theory_standing.proofs.First.{says_doctype, reads-first, no-subset}
use Rattle.sgml_theory_standing.proofs.Entities.{Longer, longer, AreOpened, declared-more, within-more, places-more, declared-moved, within-moved, places-moved, declared-turned, within-turned, places-turned}
use Rattle.sgml_theory_standing.proofs.Supplied.{supplied-on, opens}

-- THE MOVES

after-one : (h : History) (ms : List Move) (m : Move) → after_moves h (ms ++ m ∷ []) ≡ moved_on (after_moves h ms) m
after-one h [] m = refl
after-one h (n ∷ ms) m = after-one (moved_on h n) ms m

pub read-one : (I : Input) (h : History) (m : Move) → (ms : List Move) × ReadsFromStart forms I ms × (h ≡ read_by I ms) → Reads forms I h m
    → (ms : List Move) × ReadsFromStart forms I ms × (moved_on h m ≡ read_by I ms)
read-one I h m x r =
    let ms = x.0 in (
      ms ++ m ∷ [],
      (read-append forms I (opening I.outside) ms (m ∷ [])).1 (x.1, (subst (λ (z : History). Reads forms I z m) x.2 r, tt)),
      ap (λ (z : History). moved_on z m) x.2 ∙ sym (after-one (opening I.outside) ms m),
    )

-- THE TEXTS

pub record TextsOn (es : List Entity) (texts : List (ℕ × Text)) (more : Text) (ps : List Place) (rs : List Rest) : Type 0 where
  pub declared : AreDeclared es ps
  pub within : AreWithin es texts ps
  pub unread : ArePlacesOf es texts more ps rs

texts-more : (es new : List Entity) (texts : List (ℕ × Text)) (more : Text) (ps : List Place) (rs : List Rest) → Longer es new → TextsOn es texts more ps rs → TextsOn new texts more ps rs
texts-more es new texts more ps rs x t =
    subst (λ zs. TextsOn zs texts more ps rs) (sym x.same)
    (record {
      declared = declared-more es x.added ps t.declared;
      within = within-more es x.added texts ps t.declared t.within;
      unread = places-more es x.added texts more ps rs t.declared t.unread;
    })

texts-moved : (es : List Entity) (texts : List (ℕ × Text)) (more : Text) (n : ℕ) (ps : List Place) (rs : List Rest) → n ≤ length_of_first (map (rest_of es texts) ps)
    → TextsOn es texts more ps rs → TextsOn es texts more (moved n ps) (rest_moved n rs)
texts-moved es texts more n ps rs l t = record {
  declared = declared-moved es n ps t.declared;
  within = within-moved es texts n ps l t.within;
  unread = places-moved es texts more n ps rs l t.unread;
}

texts-turned : (es : List Entity) (texts : List (ℕ × Text)) (text : ℕ → Text) (more : Text) (t : Turn) (ps : List Place) (rs : List Rest) → AreOpened es texts text t
    → TextsOn es texts more ps rs → TextsOn es texts more (turned t ps) (rest_turned text t rs)
texts-turned es texts text more t ps rs o x = record {
  declared = declared-turned es texts text t ps o x.declared;
  within = within-turned es texts t ps x.within;
  unread = places-turned es texts text more t ps rs o x.unread;
}

-- WHAT IS KEPT agrees with what was read, whether that reads or not
pub record Keeps (k : Kept) (texts : List (ℕ × Text)) (I : Input) (more : Text) (h : History) : Type 0 where
  pub doctype_is : k.doctype ≡ types h
  pub places_are : k.stack.places ≡ unread h
  pub open_are : AreDeclared k.doctype.entities k.stack.places
  pub within : AreWithin k.doctype.entities texts k.stack.places
  pub unread_is : ArePlacesOf k.doctype.entities texts more k.stack.places (rests I h)
  pub levels_are : k.stack.levels ≡ k.doctype.syntax.quantities.entlvl
  pub expand_is : k.stack.expand ≡ I.outside.expand
  pub spent_is : k.stack.spent ≡ spent I.outside h
  pub sections_are : reverse k.sections ≡ sections h
  pub stage_is : k.stage ≡ stage h
  pub subset_is : k.subset ≡ external_subset h
  pub supplied : AreSuppliedSoFar I.outside (sources_of k) texts

texts-on : (k : Kept) (texts : List (ℕ × Text)) (I : Input) (more : Text) (h : History) (p : Piece) → Keeps k texts I more h → IsThere I.outside k texts p
    → TextsOn (declares p.kind k.doctype).entities texts more (turned (turn p.kind) (moved p.size k.stack.places)) (rest_turned (text_after I.outside p k) (turn p.kind) (rest_moved p.size (rests I h)))
unfolding given
texts-on k texts I more h p s there =
    let es = k.doctype.entities in
    let ps = k.stack.places in
    texts-turned (declares p.kind k.doctype).entities texts (text_after I.outside p k) more (turn p.kind) (moved p.size ps) (rest_moved p.size (rests I h))
    (opens I.outside k texts p s.supplied there)
    (texts-more es (declares p.kind k.doctype).entities texts more (moved p.size ps) (rest_moved p.size (rests I h)) (longer p.kind k.doctype)
    (texts-moved es texts more p.size ps (rests I h) there.within (record { declared = s.open_are; within = s.within; unread = s.unread_is })))

-- ALL OF IT

sources-on : (k : Kept) (p : Piece) (h : History) → k.doctype ≡ types h → k.subset ≡ external_subset h → sources_after p k ≡ sources (p ∷ h)
unfolding types external_subset
sources-on k p h d s = λ i. record { doctype = declares p.kind (d i); subset = option_or (subset_named p.kind) (s i) }

rests-on : (I : Input) (k : Kept) (p : Piece) (h : History) → k.doctype ≡ types h → k.subset ≡ external_subset h
    → rest_turned (text_after I.outside p k) (turn p.kind) (rest_moved p.size (rests I h)) ≡ rests I (p ∷ h)
unfolding rests
rests-on I k p h d s = ap (λ (z : Sources). rest_turned (text_of I.outside z) (turn p.kind) (rest_moved p.size (rests I h))) (sources-on k p h d s)

spent-on : (outside : Outside) (k : Kept) (p : Piece) (h : History) → k.doctype ≡ types h → k.subset ≡ external_subset h → k.stack.spent ≡ spent outside h
    → k.stack.spent + (p.spent + opened_length (text_after outside p k) (turn p.kind)) ≡ spent outside (p ∷ h)
unfolding spent
spent-on outside k p h d s e = λ i. e i + (p.spent + opened_length (text_of outside (sources-on k p h d s i)) (turn p.kind))

sections-on : (k : Kept) (p : Piece) (h : History) → k.stack.places ≡ unread h → reverse k.sections ≡ sections h
    → reverse (reverse (sections_after (border p.kind) (length k.stack.places) (reverse k.sections))) ≡ sections (p ∷ h)
unfolding sections
sections-on k p h e f =
    reverse-reverse (sections_after (border p.kind) (length k.stack.places) (reverse k.sections))
    ∙ (λ i. sections_after (border p.kind) ((ap length e ∙ length-unread h) i) (f i))

-- of each piece, where no second document type is said
pub keeps-on : (k : Kept) (texts : List (ℕ × Text)) (I : Input) (more : Text) (h : History) (p : Piece) → Keeps k texts I more h → (says_doctype p.kind ≡ true → k.subset ≡ None)
    → IsThere I.outside k texts p → Keeps (after I.outside p k) texts I more (p ∷ h)
unfolding kept_after types unread stage external_subset
keeps-on k texts I more h p s first there =
    let t = texts-on k texts I more h p s there in
    record {
      doctype_is = ap (declares p.kind) s.doctype_is;
      places_are = ap (λ ps. turned (turn p.kind) (moved p.size ps)) s.places_are;
      open_are = t.declared;
      within = t.within;
      unread_is = subst (λ (rs : List Rest). ArePlacesOf (declares p.kind k.doctype).entities texts more (turned (turn p.kind) (moved p.size k.stack.places)) rs) (rests-on I k p h s.doctype_is s.subset_is) t.unread;
      levels_are = refl;
      expand_is = s.expand_is;
      spent_is = spent-on I.outside k p h s.doctype_is s.subset_is s.spent_is;
      sections_are = sections-on k p h s.places_are s.sections_are;
      stage_is = ap (stage_after p.kind) s.stage_is;
      subset_is = ap (option_or (subset_named p.kind)) s.subset_is;
      supplied = supplied-on I.outside k texts p first s.supplied there;
    }

pub stands-keeps : (k : Kept) (texts : List (ℕ × Text)) (I : Input) (more : Text) (h : History) → Stands k texts I more h → Keeps k texts I more h
stands-keeps k texts I more h s = record {
  doctype_is = s.doctype_is;
  places_are = s.places_are;
  open_are = s.open_are;
  within = s.within;
  unread_is = s.unread_is;
  levels_are = s.levels_are;
  expand_is = s.expand_is;
  spent_is = s.spent_is;
  sections_are = s.sections_are;
  stage_is = s.stage_is;
  subset_is = s.subset_is;
  supplied = s.supplied;
}

pub keeps-stands : (k : Kept) (texts : List (ℕ × Text)) (I : Input) (more : Text) (h : History) → ((ms : List Move) × ReadsFromStart forms I ms × (h ≡ read_by I ms)) → IsFalse (ends_in_finish h)
    → Keeps k texts I more h → Stands k texts I more h
keeps-stands k texts I more h read goes s = record {
  read = read;
  goes_on = goes;
  doctype_is = s.doctype_is;
  places_are = s.places_are;
  open_are = s.open_are;
  within = s.within;
  unread_is = s.unread_is;
  levels_are = s.levels_are;
  expand_is = s.expand_is;
  spent_is = s.spent_is;
  sections_are = s.sections_are;
  stage_is = s.stage_is;
  subset_is = s.subset_is;
  supplied = s.supplied;
}

pub stands-on : StandsOn
stands-on k texts I more h p s e r there =
    keeps-stands (after I.outside p k) texts I more (p ∷ h) (read-one I h (alone p) s.read r) (plain p.kind e).5
    (keeps-on k texts I more h p (stands-keeps k texts I more h s) (λ says. s.subset_is ∙ no-subset h (reads-first I h p r says)) there)
