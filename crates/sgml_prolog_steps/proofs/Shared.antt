-- What all steps share: the piece that stands next, what is kept after it, and that less is left to read.
use Rattle.std.proofs.Common.{◌≡◌, ℕ, ◌+◌, ◌-◌, ◌*◌, ◌<◌, ◌≤◌, ◌==◌, ◌||◌, Bool, true, false, List, [], ◌∷◌, Option, None, Some, Ok, Err, length, map, drop, refl, sym, ◌∙◌, ap, subst, arith, length-drop}
use Rattle.std.specs.Prelude.{reverse}
use Rattle.std.specs.Option.{option_or}
use Rattle.std.proofs.lemmas.List.{reverse-reverse}
use Rattle.sgml_text.specs.declared.place.Place.{Place}
use Rattle.sgml_text.specs.declared.reason.Reason.{Reason}
use Rattle.sgml_entity.specs.declared.kinds.Entity.{Entity}
use Rattle.sgml_entity.specs.Stack.{is_on, moved, offset_of, place_at}
use Rattle.sgml_decl_lexemes.specs.Sources.{text_at, or_empty}
use Rattle.sgml_decl_lexemes.specs.Readings.{entity_of}
use Rattle.sgml_declared.specs.sgml_dtd.Doctypes.{Doctype}
use Rattle.sgml_declared.specs.theory_reading.Names.{Name, Text}
use Rattle.sgml_declared.specs.theory_reading.Pieces.{Piece, Kind, Sep, Skipped, Pi, Comment}
use Rattle.sgml_declared.specs.theory_reading.Facets.{Stage, BeforeSyntax, AtBeginning, BeforeDoctype, InSubset, AfterSubset, OpensText, StaysInText, turn, NoBorder, border, declares, subset_named, subset_number, stage_after, stage_begun}
use Rattle.sgml_declared.specs.theory_reading.Unread.{Outside, turned, opened_length}
use Rattle.sgml_declared.specs.theory_reading.Sections.{sections_after}
use Rattle.sgml_declared.specs.theory_reading.State.{State}
use Rattle.sgml_declared.specs.theory_reading.Characters.{kind_noted}
use Rattle.sgml_declared.specs.theory_reading.Reads.{length_of_first, is_after_subset}
use Rattle.sgml_declared.specs.theory_spelling.Decided.{is_before}
use Rattle.sgml_declared.specs.theory_standing.Kept.{Kept, rest_of, given, kept_after}
use Rattle.sgml_declared.specs.theory_standing.Prologs.{is_of_prolog, state_in_prolog, is_over}
use Rattle.sgml_declared.specs.theory_standing.Next.{after, text_after, IsThere, IsNext, IsRefused, unread_length, left_to_read}
use Rattle.sgml_declared.proofs.theory_standing.Entities.{declared-moved}
use Rattle.sgml_declared.specs.Files.{Choices}
use Rattle.sgml_prolog_steps.specs.Standing.{LiesUnder, SubsetLiesUnder, IsKept}
use Rattle.sgml_prolog_steps.specs.Found.{rest_in, moved_on, IsSpelled}
use Rattle.sgml_prolog_steps.specs.declared.stepping.Turn.TheVariants as turns
use Rattle.sgml_prolog_steps.specs.declared.stepping.Stop.TheVariants as stop
use Rattle.sgml_prolog_steps.specs.Steps.{AreSilentNext, IsInstructionNext, IsOutside, IsStep, begun_on}

-- MOVED over so many bytes

pub add-none : (n : ℕ) → n + 0 ≡ n
add-none n = omega arith

moved-none : (ps : List Place) → moved 0 ps ≡ ps
moved-none [] = refl
moved-none (p ∷ ps) = ap (λ at. record { entity = p.entity; at = at } ∷ ps) (add-none p.at)

pub moved-zero : (k : Kept) → moved_on 0 k ≡ k
moved-zero k = λ i. record k { stack = record k.stack { places = moved-none k.stack.places i } }

moved-twice : (m n : ℕ) (ps : List Place) → moved n (moved m ps) ≡ moved (m + n) ps
moved-twice m n [] = refl
moved-twice m n (p ∷ ps) = let e : p.at + m + n ≡ p.at + (m + n) = omega arith in ap (λ at. record { entity = p.entity; at = at } ∷ ps) e

pub moved-on-twice : (m n : ℕ) (k : Kept) → moved_on n (moved_on m k) ≡ moved_on (m + n) k
moved-on-twice m n k = λ i. record k { stack = record k.stack { places = moved-twice m n k.stack.places i } }

pub length-moved : (n : ℕ) (ps : List Place) → length (moved n ps) ≡ length ps
length-moved n [] = refl
length-moved n (p ∷ ps) = refl

lies-moved : (n : ℕ) (ps : List Place) → LiesUnder ps → LiesUnder (moved n ps)
lies-moved n [] l = absurd l
lies-moved n (p ∷ []) l = l
lies-moved n (p ∷ q ∷ ps) l = l

subset-moved : (n : ℕ) (ps : List Place) → SubsetLiesUnder ps → SubsetLiesUnder (moved n ps)
subset-moved n [] l = tt
subset-moved n (p ∷ []) l = tt
subset-moved n (p ∷ q ∷ []) l = l
subset-moved n (p ∷ q ∷ r ∷ ps) l = l

-- the external subset lies alone over the document, or nothing does
pub alone-under : (ps : List Place) → length ps ≡ 1 → SubsetLiesUnder ps
alone-under [] e = tt
alone-under (p ∷ []) e = tt
alone-under (p ∷ q ∷ ps) e = absurd (cc)

pub subset-over : (ps : List Place) → length ps ≡ 1 → SubsetLiesUnder (place_at subset_number 0 ∷ ps)
subset-over [] e = tt
subset-over (p ∷ []) e = refl
subset-over (p ∷ q ∷ ps) e = absurd (cc)

-- and isn't being read where the document alone is
pub subset-unread : (ps : List Place) → length ps ≡ 1 → LiesUnder ps → is_on subset_number ps ≡ false
subset-unread [] e l = refl
subset-unread (p ∷ []) e l = ap (λ n. (n == subset_number) || false) l
subset-unread (p ∷ q ∷ ps) e l = absurd (cc)

pub kept-moved : (n : ℕ) (k : Kept) → IsKept k → IsKept (moved_on n k)
kept-moved n k h = record {
  levels = h.levels;
  document = lies-moved n k.stack.places h.document;
  declared = declared-moved k.doctype.entities n k.stack.places h.declared;
  nested = subst (λ m. Rattle.sgml_declared.specs.theory_spelling.Nested.AreNested m (reverse k.sections)) (sym (length-moved n k.stack.places)) h.nested;
  after = λ e. subset-moved n k.stack.places (h.after e);
  before = λ e. let u = h.before e in record {
    doctype = u.doctype;
    one_text = length-moved n k.stack.places ∙ u.one_text;
    none_opened = u.none_opened;
    no_section = u.no_section;
    no_subset = u.no_subset;
  };
  named = h.named;
}

pub kept-staged : (k : Kept) (g : Stage) → is_after_subset g ≡ is_after_subset k.stage → is_before g ≡ is_before k.stage → IsKept k → IsKept (record k { stage = g })
kept-staged k g a b h = record {
  levels = h.levels;
  document = h.document;
  declared = h.declared;
  nested = h.nested;
  after = λ e. h.after (sym a ∙ e);
  before = λ e. let u = h.before (sym b ∙ e) in record {
    doctype = u.doctype;
    one_text = u.one_text;
    none_opened = u.none_opened;
    no_section = u.no_section;
    no_subset = u.no_subset;
  };
  named = h.named;
}

pub begun-after : (g : Stage) → is_after_subset (stage_begun g) ≡ is_after_subset g
begun-after BeforeSyntax = refl
begun-after AtBeginning = refl
begun-after BeforeDoctype = refl
begun-after InSubset = refl
begun-after AfterSubset = refl

pub begun-before : (g : Stage) → is_before (stage_begun g) ≡ is_before g
begun-before BeforeSyntax = refl
begun-before AtBeginning = refl
begun-before BeforeDoctype = refl
begun-before InSubset = refl
begun-before AfterSubset = refl

-- in the document type the beginning is over
pub inside-begun : (g : Stage) → is_before g ≡ false → stage_begun g ≡ g
inside-begun BeforeSyntax e = absurd (never e)
  where
    never : true ≡ false → ⊥
    never e = cc
inside-begun AtBeginning e = absurd (never e)
  where
    never : true ≡ false → ⊥
    never e = cc
inside-begun BeforeDoctype e = absurd (never e)
  where
    never : true ≡ false → ⊥
    never e = cc
inside-begun InSubset e = refl
inside-begun AfterSubset e = refl

pub kept-begun : (n : ℕ) (k : Kept) → IsKept k → IsKept (begun_on n k)
kept-begun n k h = kept-staged (moved_on n k) (stage_begun k.stage) (begun-after k.stage) (begun-before k.stage) (kept-moved n k h)

pub some-places : (ps : List Place) → LiesUnder ps → 0 < length ps
some-places [] l = absurd l
some-places (p ∷ ps) l = omega arith

pub some-texts : (k : Kept) → IsKept k → 0 < length k.stack.places
some-texts k h = some-places k.stack.places h.document

-- WHAT IS UNREAD at the top

pub first-length : (es : List Entity) (texts : List (ℕ × Text)) (ps : List Place) → LiesUnder ps
    → length_of_first (map (rest_of es texts) ps) ≡ length (drop (offset_of ps) (or_empty (text_at es texts (entity_of ps))))
first-length es texts [] l = absurd l
first-length es texts (p ∷ ps) l = refl

pub length-first : (k : Kept) (texts : List (ℕ × Text)) → IsKept k → length_of_first (given k texts).rests ≡ length (rest_in k texts)
unfolding given
length-first k texts h = first-length k.doctype.entities texts k.stack.places h.document

rest-moved : (es : List Entity) (texts : List (ℕ × Text)) (n : ℕ) (ps : List Place) → LiesUnder ps
    → n ≤ length (drop (offset_of ps) (or_empty (text_at es texts (entity_of ps))))
    → length (drop (offset_of (moved n ps)) (or_empty (text_at es texts (entity_of (moved n ps))))) + n
    ≡ length (drop (offset_of ps) (or_empty (text_at es texts (entity_of ps))))
rest-moved es texts n [] l m = absurd l
rest-moved es texts n (p ∷ ps) l m =
    let text = or_empty (text_at es texts p.entity) in
    let a = length-drop p.at text in
    let b = length-drop (p.at + n) text in
    omega (arith, m, a, b)

pub rest-moved-on : (n : ℕ) (k : Kept) (texts : List (ℕ × Text)) → IsKept k → n ≤ length (rest_in k texts) → length (rest_in (moved_on n k) texts) + n ≡ length (rest_in k texts)
rest-moved-on n k texts h m = rest-moved k.doctype.entities texts n k.stack.places h.document m

pub unread-moved : (es : List Entity) (texts : List (ℕ × Text)) (n : ℕ) (ps : List Place) → n ≤ length_of_first (map (rest_of es texts) ps)
    → unread_length (map (rest_of es texts) (moved n ps)) + n ≡ unread_length (map (rest_of es texts) ps)
unread-moved es texts n [] l = omega (arith, l)
unread-moved es texts n (p ∷ ps) l =
    let text = or_empty (text_at es texts p.entity) in
    let a = length-drop p.at text in
    let b = length-drop (p.at + n) text in
    omega (arith, l, a, b)

pub falls-places : (es : List Entity) (texts : List (ℕ × Text)) (n expand spent : ℕ) (ps : List Place) → LiesUnder ps → 0 < n
    → n ≤ length (drop (offset_of ps) (or_empty (text_at es texts (entity_of ps))))
    → 2 * (unread_length (map (rest_of es texts) (moved n ps)) + (expand - spent)) + length (moved n ps) < 2 * (unread_length (map (rest_of es texts) ps) + (expand - spent)) + length ps
falls-places es texts n expand spent ps l some m =
    let a = unread-moved es texts n ps (subst (λ x. n ≤ x) (sym (first-length es texts ps l)) m) in
    let b = length-moved n ps in omega (arith, some, a, b)

-- so less is left to read, whatever the sections and the stage are then
pub falls-moved : (k : Kept) (texts : List (ℕ × Text)) (n : ℕ) (g : Stage) → IsKept k → 0 < n → n ≤ length (rest_in k texts)
    → left_to_read (record (moved_on n k) { stage = g }) texts < left_to_read k texts
unfolding left_to_read given
falls-moved k texts n g h some m = falls-places k.doctype.entities texts n k.stack.expand k.stack.spent k.stack.places h.document some m

-- PLAIN PIECES change neither the texts, nor the sections, nor the document type

pub record IsPlain (x : Kind) : Type 0 where
  pub turn_is : turn x ≡ StaysInText
  pub border_is : border x ≡ NoBorder
  pub declares_none : (d : Doctype) → declares x d ≡ d
  pub names_none : subset_named x ≡ None
  pub of_prolog : is_of_prolog x ≡ true
  pub noted : (s : State) → kind_noted s x ≡ x

pub sep-plain : (b : ℕ) → IsPlain (Sep b)
unfolding turn border declares subset_named kind_noted
sep-plain b = record { turn_is = refl; border_is = refl; declares_none = λ d. refl; names_none = refl; of_prolog = refl; noted = λ s. refl }

pub skipped-plain : (b : ℕ) → IsPlain (Skipped b)
unfolding turn border declares subset_named kind_noted
skipped-plain b = record { turn_is = refl; border_is = refl; declares_none = λ d. refl; names_none = refl; of_prolog = refl; noted = λ s. refl }

pub comment-plain : IsPlain Comment
unfolding turn border declares subset_named kind_noted
comment-plain = record { turn_is = refl; border_is = refl; declares_none = λ d. refl; names_none = refl; of_prolog = refl; noted = λ s. refl }

pub pi-plain : (text : Text) (entity : Option ℕ) → IsPlain (Pi text entity)
unfolding turn border declares subset_named kind_noted
pi-plain text entity = record { turn_is = refl; border_is = refl; declares_none = λ d. refl; names_none = refl; of_prolog = refl; noted = λ s. refl }

no-turn : (n : ℕ) → StaysInText ≡ OpensText n → ⊥
no-turn n e = cc

none-some : {A : Type 0} (a : A) → None ≡ Some a → ⊥
none-some a e = cc

pub there-plain : (outside : Outside) (k : Kept) (texts : List (ℕ × Text)) (p : Piece) → IsPlain p.kind → p.size ≤ length_of_first (given k texts).rests → IsThere outside k texts p
there-plain outside k texts p x l = record {
  within = l;
  opened = λ n e. absurd (no-turn n (sym x.turn_is ∙ e));
  subset = λ named text e g. absurd (none-some named (sym x.names_none ∙ e));
}

pub next-plain : (outside : Outside) (k : Kept) (texts : List (ℕ × Text)) (ended : Bool) (p : Piece) → IsKept k → is_over k ≡ false → IsPlain p.kind
    → p.size ≤ length (rest_in k texts) → IsSpelled outside k texts ended (Ok p) → IsNext outside k texts ended p
next-plain outside k texts ended p h g x l s = record {
  going_on = g;
  of_prolog = x.of_prolog;
  decided = s.decided;
  spelled = s.spelled;
  noted = λ i. record { kind = x.noted (state_in_prolog k) i; size = p.size; spent = p.spent };
  there = there-plain outside k texts p x (subst (λ n. p.size ≤ n) (sym (length-first k texts h)) l);
}

pub after-plain-in : (outside : Outside) (k : Kept) (p : Piece) (n : ℕ) (g : Stage) → k.stack.levels ≡ k.doctype.syntax.quantities.entlvl → IsPlain p.kind
    → p.spent ≡ 0 → p.size ≡ n → stage_after p.kind k.stage ≡ g → after outside p k ≡ record (moved_on n k) { stage = g }
unfolding kept_after
after-plain-in outside k p n g levels x e s a = λ i. record {
  doctype = x.declares_none k.doctype i;
  stack = record {
    levels = (ap (λ (d : Doctype). d.syntax.quantities.entlvl) (x.declares_none k.doctype) ∙ sym levels) i;
    expand = k.stack.expand;
    spent = (ap (λ t. k.stack.spent + (p.spent + opened_length (text_after outside p k) t)) x.turn_is ∙ (ap (λ m. k.stack.spent + (m + 0)) e ∙ add-none k.stack.spent)) i;
    places = (ap (λ t. turned t (moved p.size k.stack.places)) x.turn_is ∙ ap (λ m. moved m k.stack.places) s) i;
  };
  sections = (ap (λ b. reverse (sections_after b (length k.stack.places) (reverse k.sections))) x.border_is ∙ reverse-reverse k.sections) i;
  stage = a i;
  subset = ap (λ o. option_or o k.subset) x.names_none i;
}

pub after-plain : (outside : Outside) (k : Kept) (p : Piece) (n : ℕ) (g : Stage) → IsKept k → IsPlain p.kind → p.spent ≡ 0 → p.size ≡ n → stage_after p.kind k.stage ≡ g
    → after outside p k ≡ record (moved_on n k) { stage = g }
after-plain outside k p n g h x e s a = after-plain-in outside k p n g h.levels x e s a

-- REFUSED
pub refused : (outside : Outside) (k : Kept) (texts : List (ℕ × Text)) (ended : Bool) (r : Reason) → is_over k ≡ false → IsSpelled outside k texts ended (Err r) → IsRefused outside k texts ended r
refused outside k texts ended r g s = record { going_on = g; decided = s.decided; spelled = s.spelled }

-- STEPS

pub silent-step : (c : Choices) (texts : List (ℕ × Text)) (ended : Bool) (asked : Option Name) (old new : Kept)
    → ((outside : Outside) → IsOutside c outside old texts asked → AreSilentNext outside texts ended old new)
    → left_to_read new texts < left_to_read old texts → IsKept new → new.stack.expand ≡ old.stack.expand → IsStep c texts ended asked old new (Ok turns.Silent)
silent-step c texts ended asked old new s f k x = record { steps = s; falls = f; kept = k; expand = x; left = tt }

pub instruction-step : (c : Choices) (texts : List (ℕ × Text)) (ended : Bool) (asked : Option Name) (old new : Kept) (text : Text) (entity : Option ℕ)
    → ((outside : Outside) → IsOutside c outside old texts asked → IsInstructionNext outside texts ended old new text entity)
    → IsKept new → new.stack.expand ≡ old.stack.expand → IsStep c texts ended asked old new (Ok (turns.Instruction text entity))
instruction-step c texts ended asked old new text entity s k x = record { steps = s; falls = tt; kept = k; expand = x; left = tt }

pub refused-step : (c : Choices) (texts : List (ℕ × Text)) (ended : Bool) (asked : Option Name) (old new : Kept) (r : Reason)
    → ((outside : Outside) → IsOutside c outside old texts asked → IsRefused outside old texts ended r)
    → new ≡ old → IsStep c texts ended asked old new (Err (stop.Refused r))
refused-step c texts ended asked old new r s e = record { steps = s; falls = tt; kept = tt; expand = tt; left = e }

pub memory-step : (c : Choices) (texts : List (ℕ × Text)) (ended : Bool) (asked : Option Name) (old new : Kept)
    → new ≡ old → IsStep c texts ended asked old new (Err stop.Memory)
memory-step c texts ended asked old new e = record { steps = λ outside o. tt; falls = tt; kept = tt; expand = tt; left = e }
