-- Each place on the stack, and of each start, is in a text that has a name.
use Rattle.std.proofs.Common.{◌≡◌, ℕ, zero, suc, Bool, true, false, ◌==◌, inl, inr, ◌≤◌, List, [], ◌∷◌, ◌++◌, Option, None, Some, is_some, unwrap_or, Ok, length, drop, drop-drop, length-drop, refl, sym, ap, ◌∙◌, subst, if◌then◌else◌, arith}
use Rattle.std.specs.Option.{option_or}
use Rattle.std.specs.List.{slice_get}
use Rattle.std.proofs.lemmas.Bool.{eqb-true}
use Rattle.sgml_io.specs.text.declared.place.Place.{Place}
use Rattle.sgml_theory_spelling.specs.entity.declared.kinds.Entity.{Entity}
use Rattle.sgml_theory_spelling.specs.entity.Stack.{place_at, moved}
use Rattle.sgml_theory_spelling.specs.decl_forms.declared.declaration.Declaration.{Declaration}
use Rattle.sgml_theory_spelling.specs.decl_forms.declared.declaration.Declaration.TheVariants as form
use Rattle.sgml_theory_spelling.specs.catalog.declared.catalog.Kind.TheVariants as catalog
use Rattle.sgml_theory_spelling.specs.dtd.Doctypes.{Doctype, with_declared}
use Rattle.sgml_theory_spelling.specs.theory_reading.Names.{Name, Text}
use Rattle.sgml_theory_spelling.specs.theory_reading.Types.{entity}
use Rattle.sgml_theory_spelling.specs.theory_reading.Pieces.{Piece, Kind, Sgml, Head, Declare, History}
use Rattle.sgml_theory_spelling.specs.theory_reading.Facets.{Turn, OpensText, EndsText, StaysInText, turn, declares, subset_named, ExternalSubset, is_start}
use Rattle.sgml_theory_spelling.specs.theory_reading.Nest.{types}
use Rattle.sgml_theory_spelling.specs.theory_reading.Context.{Context, context}
use Rattle.sgml_theory_spelling.specs.theory_reading.Omission.{omitted_end, omitted_start, MayStand}
use Rattle.sgml_theory_spelling.specs.theory_reading.Runs.{LongestRun, after_run}
use Rattle.sgml_theory_spelling.specs.theory_reading.Unread.{Outside, Input, Sources, Rest, sources, external_subset, file_of, file_of_subset, file_of_entity, fetched_text, text_of, turned, unread, rests, rest_moved, rest_turned, standing, opening}
use Rattle.sgml_theory_spelling.specs.theory_reading.State.{state, sources_in}
use Rattle.sgml_theory_spelling.specs.theory_reading.Characters.{kind_noted, piece_noted}
use Rattle.sgml_theory_spelling.specs.theory_reading.Reads.{Move, Moves, Reads, ReadOn, moved_on, after_moves, read_by, length_of_first, top_place, stop_place, with_place, start_places}
use Rattle.sgml_theory_spelling.proofs.theory_reading.Cutting.{run-stays}
use Rattle.sgml_theory_spelling.proofs.theory_reading.Numbered.{number-stays}
use Rattle.sgml_theory_spelling.proofs.theory_reading.Texts.{text-stays}
use Rattle.sgml_theory_spelling.specs.Stacked.{stacked}
use Rattle.sgml_theory_spelling.specs.Spelled.{forms, spelled}
use Rattle.sgml_theory_spelling.proofs.Taken.{takes-its-bytes}
use Rattle.sgml_theory_ending.specs.Places.{IsNamed, text_in, IsThere}
use Rattle.sgml_theory_ending.specs.Laws.{PlacesAreThere}
use Rattle.sgml_theory_ending.proofs.Says.{sources_with, spelled-says}
use Rattle.sgml_theory_ending.proofs.Steps.{Names, SameNames, steps}
use Rattle.sgml_theory_ending.proofs.Falling.{visible, run-same, sources-state, sources-after, move-spelled}

-- A DOCUMENT TYPE with an external subset has a name

declaration-names : (base : Text) (d : Doctype) (x : Declaration) → is_some d.name ≡ true → is_some (with_declared base d x).name ≡ true
declaration-names base d (form.Doctype head) e = refl
declaration-names base d (form.Element x) e = e
declaration-names base d (form.Attlist x) e = e
declaration-names base d (form.Entity x) e = e
declaration-names base d (form.Notation x) e = e
declaration-names base d (form.Shortref x) e = e
declaration-names base d (form.Usemap x) e = e

kind-names : (k : Kind) (d : Doctype) (o : Option ExternalSubset) → (is_some o ≡ true → is_some d.name ≡ true)
    → is_some (option_or (subset_named k) o) ≡ true → is_some (declares k d).name ≡ true
unfolding declares subset_named
kind-names (Head head base) d o f e = refl
kind-names (Declare lexemes says base) d o f e = declaration-names base d says (f e)
kind-names (Sgml syntax) d o f e = f e
kind-names _ d o f e = f e

subset-names : (h : History) → is_some (external_subset h) ≡ true → is_some (types h).name ≡ true
unfolding types external_subset
subset-names [] e = absurd (cc)
subset-names (p ∷ h) e = kind-names p.kind (types h) (external_subset h) (subset-names h) e

-- WHAT A PIECE LEAVES AS IT IS
pub record Keeps (I : Input) (p : Piece) (h : History) : Type 0 where
  pub within : p.size ≤ length_of_first (rests I h)
  pub names : Names I.outside (sources (p ∷ h)) (turn p.kind)
  pub stays : is_some (types h).name ≡ true → SameNames (sources (p ∷ h)) (sources h)

-- a text with a name keeps it, and stays the same
record Stays (I : Input) (p : Piece) (h : History) (n : ℕ) : Type 0 where
  named : IsNamed I.outside (sources (p ∷ h)) n
  text_is : text_in I (p ∷ h) n ≡ text_in I h n

is-some : {A : Type 0} (o : Option A) → is_some o ≡ true → (x : A) × (o ≡ Some x)
is-some (Some x) e = (x, refl)
is-some None e = absurd (cc)

declared-stays : (I : Input) (p : Piece) (h : History) (n : ℕ) → is_some (entity (types h) n) ≡ true → Stays I p h n
unfolding types
declared-stays I p h n e =
    let x = is-some (entity (types h) n) e in record {
      named = inr (ap is_some (number-stays (types h) p.kind n x.0 x.1));
      text_is = λ i. if n == 0 then I.document else text-stays I.outside p h n x.0 x.1 i;
    }

document-stays : (I : Input) (p : Piece) (h : History) → Stays I p h 0
unfolding file_of
document-stays I p h = record { named = inl refl; text_is = refl }

subset-file : (outside : Outside) (k : Sources) → file_of outside k 1 ≡ file_of_subset outside k.doctype k.subset
unfolding file_of
subset-file outside k = refl

file-by-name : (outside : Outside) (d e : Doctype) (o : Option ExternalSubset) → d.name ≡ e.name → file_of_subset outside d o ≡ file_of_subset outside e o
file-by-name outside d e None f = refl
file-by-name outside d e (Some x) f = ap (λ (m : Option Name). outside.resolved catalog.Doctype (unwrap_or m []) x.external x.base) f

file-is-named : (outside : Outside) (d : Doctype) (o : Option ExternalSubset) → is_some (file_of_subset outside d o) ≡ true → is_some o ≡ true
file-is-named outside d None e = e
file-is-named outside d (Some x) e = refl

same-file : (outside : Outside) (new old : Sources) → SameNames new old → file_of outside new 1 ≡ file_of outside old 1
same-file outside new old s =
    subset-file outside new
    ∙ (file-by-name outside new.doctype old.doctype new.subset s.name_is
    ∙ (ap (file_of_subset outside old.doctype) s.subset_is ∙ sym (subset-file outside old)))

same-text : (outside : Outside) (new old : Sources) → file_of outside new 1 ≡ file_of outside old 1 → text_of outside new 1 ≡ text_of outside old 1
unfolding text_of entity
same-text outside new old e = ap (fetched_text outside) e

subset-stays : (I : Input) (p : Piece) (h : History) → Keeps I p h → is_some (file_of I.outside (sources h) 1) ≡ true → Stays I p h 1
subset-stays I p h k e =
    let named = subset-names h (file-is-named I.outside (types h) (external_subset h) (ap is_some (sym (subset-file I.outside (sources h))) ∙ e)) in
    let f = same-file I.outside (sources (p ∷ h)) (sources h) (k.stays named) in
    record { named = inl (ap is_some f ∙ e); text_is = same-text I.outside (sources (p ∷ h)) (sources h) f }

other-file : (outside : Outside) (k : Sources) (n : ℕ) → (n == 0) ≡ false → (n == 1) ≡ false → file_of outside k n ≡ file_of_entity outside (entity k.doctype n)
unfolding file_of
other-file outside k n a b =
    ap (λ (t : Bool). if t then Some outside.file else (if n == 1 then file_of_subset outside k.doctype k.subset else file_of_entity outside (entity k.doctype n))) a
    ∙ ap (λ (t : Bool). if t then file_of_subset outside k.doctype k.subset else file_of_entity outside (entity k.doctype n)) b

file-is-declared : (outside : Outside) (o : Option Entity) → is_some (file_of_entity outside o) ≡ true → is_some o ≡ true
file-is-declared outside None e = e
file-is-declared outside (Some x) e = refl

file-stays : (I : Input) (p : Piece) (h : History) (n : ℕ) (a b : Bool) → (n == 0) ≡ a → (n == 1) ≡ b → Keeps I p h
    → is_some (file_of I.outside (sources h) n) ≡ true → Stays I p h n
file-stays I p h n true b e f k s = subst (Stays I p h) (sym (eqb-true n 0 e)) (document-stays I p h)
file-stays I p h n false true e f k s =
    let is : n ≡ 1 = eqb-true n 1 f in
    subst (Stays I p h) (sym is) (subset-stays I p h k (subst (λ m. is_some (file_of I.outside (sources h) m) ≡ true) is s))
file-stays I p h n false false e f k s =
    declared-stays I p h n (file-is-declared I.outside (entity (types h) n) (ap is_some (sym (other-file I.outside (sources h) n e f)) ∙ s))

stays : (I : Input) (p : Piece) (h : History) (n : ℕ) → Keeps I p h → IsNamed I.outside (sources h) n → Stays I p h n
stays I p h n k (inl s) = file-stays I p h n (n == 0) (n == 1) refl refl k s
stays I p h n k (inr s) = declared-stays I p h n s

there-stays : (I : Input) (p : Piece) (h : History) (x : Place) → Keeps I p h → IsThere I h x → IsThere I (p ∷ h) x
there-stays I p h x k t =
    let s = stays I p h x.entity k t.named in
    record { named = s.named; within = subst (λ (text : Text). x.at ≤ length text) (sym s.text_is) t.within }

-- ON THE STACK each rest is what stands behind its place
abbrev pub AreHere : Input → History → List Place → List Rest → Type 0
AreHere I h [] [] = Unit {0}
AreHere I h (p ∷ ps) (r ∷ rs) = IsThere I h p × (r.bytes ≡ drop p.at (text_in I h p.entity)) × AreHere I h ps rs
AreHere I h _ _ = ⊥

here-stays : (I : Input) (x : Piece) (h : History) (ps : List Place) (rs : List Rest) → Keeps I x h → AreHere I h ps rs → AreHere I (x ∷ h) ps rs
here-stays I x h [] [] k a = tt
here-stays I x h (p ∷ ps) (r ∷ rs) k a = (
  there-stays I x h p k a.0,
  a.1 ∙ ap (drop p.at) (sym (stays I x h p.entity k a.0.named).text_is),
  here-stays I x h ps rs k a.2,
)
here-stays I x h [] (r ∷ rs) k a = absurd a
here-stays I x h (p ∷ ps) [] k a = absurd a

here-moved : (I : Input) (h : History) (n : ℕ) (ps : List Place) (rs : List Rest) → n ≤ length_of_first rs → AreHere I h ps rs → AreHere I h (moved n ps) (rest_moved n rs)
here-moved I h n [] [] l a = tt
here-moved I h n (p ∷ ps) (r ∷ rs) l a =
    let text = text_in I h p.entity in
    let e = ap length a.1 in
    let f = length-drop p.at text in
    let g = a.0.within in
    (record { named = a.0.named; within = omega (arith, l, e, f, g) }, ap (drop n) a.1 ∙ drop-drop n p.at text, a.2)
here-moved I h n [] (r ∷ rs) l a = absurd a
here-moved I h n (p ∷ ps) [] l a = absurd a

here-turned : (I : Input) (k : History) (t : Turn) (ps : List Place) (rs : List Rest) → Names I.outside (sources k) t → AreHere I k ps rs
    → AreHere I k (turned t ps) (rest_turned (text_of I.outside (sources k)) t rs)
here-turned I k (OpensText e) ps rs n a =
    let is : text_in I k e ≡ text_of I.outside (sources k) e = ap (λ (b : Bool). if b then I.document else text_of I.outside (sources k) e) n.0 in
    (record { named = n.1; within = omega arith }, sym is, a)
here-turned I k EndsText [] [] n a = tt
here-turned I k EndsText (p ∷ ps) (r ∷ rs) n a = a.2
here-turned I k EndsText [] (r ∷ rs) n a = absurd a
here-turned I k EndsText (p ∷ ps) [] n a = absurd a
here-turned I k StaysInText ps rs n a = a

-- THE PLACES OF STARTS
abbrev AllThere : Input → History → List Place → Type 0
AllThere I h [] = Unit {0}
AllThere I h (p ∷ ps) = IsThere I h p × AllThere I h ps

all-stay : (I : Input) (x : Piece) (h : History) (ps : List Place) → Keeps I x h → AllThere I h ps → AllThere I (x ∷ h) ps
all-stay I x h [] k a = tt
all-stay I x h (p ∷ ps) k a = (there-stays I x h p k a.0, all-stay I x h ps k a.1)

all-append : (I : Input) (h : History) (ps : List Place) (p : Place) → AllThere I h ps → IsThere I h p → AllThere I h (ps ++ p ∷ [])
all-append I h [] p a t = (t, tt)
all-append I h (q ∷ ps) p a t = (a.0, all-append I h ps p a.1 t)

all-with : (I : Input) (h : History) (b : Bool) (p : Place) (ps : List Place) → AllThere I h ps → IsThere I h p → AllThere I h (with_place b p ps)
all-with I h true p ps a t = all-append I h ps p a t
all-with I h false p ps a t = a

all-get : (I : Input) (h : History) (ps : List Place) (n : ℕ) (p : Place) → AllThere I h ps → slice_get ps n ≡ Some p → IsThere I h p
all-get I h [] n p a e = absurd (cc)
all-get I h (q ∷ ps) zero p a e = subst (IsThere I h) (let f : q ≡ p = cc in f) a.0
all-get I h (q ∷ ps) (suc n) p a e = all-get I h ps n p a.1 e

document-there : (I : Input) (h : History) → IsThere I h (place_at 0 0)
unfolding file_of
document-there I h = record { named = inl refl; within = omega arith }

top-there : (I : Input) (h : History) (ps : List Place) (rs : List Rest) → AreHere I h ps rs → IsThere I h (top_place ps)
top-there I h [] rs a = document-there I h
top-there I h (p ∷ ps) (r ∷ rs) a = a.0
top-there I h (p ∷ ps) [] a = absurd a

here-get : (I : Input) (h : History) (ps : List Place) (rs : List Rest) (n : ℕ) (p : Place) → AreHere I h ps rs → slice_get ps n ≡ Some p → IsThere I h p
here-get I h [] rs n p a e = absurd (cc)
here-get I h (q ∷ ps) [] n p a e = absurd a
here-get I h (q ∷ ps) (r ∷ rs) zero p a e = subst (IsThere I h) (let f : q ≡ p = cc in f) a.0
here-get I h (q ∷ ps) (r ∷ rs) (suc n) p a e = here-get I h ps rs n p a.2 e

-- AFTER WHAT READS
pub record Good (I : Input) (h : History) : Type 0 where
  pub stack : AreHere I h (unread h) (rests I h)
  pub starts : AllThere I h (start_places h)

good-piece : (I : Input) (x : Piece) (h : History) → Keeps I x h → Good I h → Good I (x ∷ h)
unfolding unread rests
good-piece I x h k g = record {
  stack = here-turned I (x ∷ h) (turn x.kind) (moved x.size (unread h)) (rest_moved x.size (rests I h)) k.names
      (here-moved I (x ∷ h) x.size (unread h) (rests I h) k.within (here-stays I x h (unread h) (rests I h) k g.stack));
  starts = all-with I (x ∷ h) (is_start x.kind) (stop_place h) (start_places h) (all-stay I x h (start_places h) k g.starts)
      (there-stays I x h (stop_place h) k (top-there I h (unread h) (rests I h) g.stack));
}

-- a tag that is left out
end-keeps : (I : Input) (n : Name) (h : History) → Keeps I (omitted_end n) h
unfolding types external_subset turn declares subset_named
end-keeps I n h = record { within = omega arith; names = tt; stays = λ e. record { name_is = refl; subset_is = refl } }

start-keeps : (I : Input) (n : Name) (h : History) → Keeps I (omitted_start n) h
unfolding types external_subset turn declares subset_named
start-keeps I n h = record { within = omega arith; names = tt; stays = λ e. record { name_is = refl; subset_is = refl } }

pub one-keeps : (I : Input) (c : Context) (o : Piece) (x : Kind) (h : History) → MayStand c o x → Keeps I o h
one-keeps I c o x h (inl m) = subst (λ (p : Piece). Keeps I p h) (sym m.1) (end-keeps I m.0 h)
one-keeps I c o x h (inr m) = subst (λ (p : Piece). Keeps I p h) (sym m.1) (start-keeps I m.0 h)

good-run : (I : Input) (h : History) (x : Kind) (os : List Piece) → LongestRun h x os → Good I h → Good I (after_run h os)
good-run I h x [] r g = g
good-run I h x (o ∷ os) r g = good-run I (o ∷ h) x os r.1 (good-piece I o h (one-keeps I (context h) o x h r.0) g)

-- the visible piece, by what stood before the ones that are left out
pub visible-keeps : (I : Input) (h : History) (m : Move) (q : Piece) → spelled I.outside (state h) (standing I h) ≡ Ok q → Moves forms h (piece_noted (state h) q) m
    → Keeps I m.visible (after_run h m.omitted)
visible-keeps I h m q e a =
    let k = kind_noted (state h) q.kind in
    let old = after_run h m.omitted in
    let v = visible I h m q a in
    let says = spelled-says I.outside (state h) (standing I h) q e in
    let step = steps I.outside (state h) (stacked (standing I h)) q.spent q.kind says.0 in
    let takes = takes-its-bytes I.outside (state h) (standing I h) q e in
    let x = run-same I h k m.omitted a.longest in
    let y = run-stays I h k m.omitted a.longest in
    let new : sources (m.visible ∷ old) ≡ sources_with (sources_in (state h)) k = sources-after I h m q a in
    let before : sources old ≡ sources_in (state h) = (λ i. record { doctype = x.types_are i; subset = x.subset_is i }) ∙ sym (sources-state h) in record {
      within = subst (λ n. n ≤ length_of_first (rests I old)) (sym v.size_is) (subst (λ (rs : List Rest). q.size ≤ length_of_first rs) (sym y) takes.within);
      names = subst (λ (t : Turn). Names I.outside (sources (m.visible ∷ old)) t) (sym v.alike.turn_is)
          (subst (λ (z : Sources). Names I.outside z (turn k)) (sym new) step.names);
      stays = λ f. subst (λ (z : Sources). SameNames (sources (m.visible ∷ old)) z) (sym before)
          (subst (λ (z : Sources). SameNames z (sources_in (state h))) (sym new)
          (step.stays (subst (λ (z : Sources). is_some z.doctype.name ≡ true) before f)));
    }

good-move : (I : Input) (h : History) (m : Move) → Reads forms I h m → Good I h → Good I (moved_on h m)
good-move I h m r g =
    let x = move-spelled I h m r in
    good-piece I m.visible (after_run h m.omitted) (visible-keeps I h m x.piece x.is_spelled x.moves)
    (good-run I h (kind_noted (state h) x.piece.kind) m.omitted x.moves.longest g)

pub good-moves : (I : Input) (h : History) (ms : List Move) → ReadOn forms I h ms → Good I h → Good I (after_moves h ms)
good-moves I h [] r g = g
good-moves I h (m ∷ ms) r g = good-moves I (moved_on h m) ms r.1 (good-move I h m r.0 g)

pub good-start : (I : Input) → Good I (opening I.outside)
unfolding unread rests turn is_start file_of
good-start I = record { stack = (record { named = inl refl; within = omega arith }, refl, tt); starts = tt }

pub places-are-there : PlacesAreThere
places-are-there I ms r =
    let h = read_by I ms in
    let g = good-moves I (opening I.outside) ms r (good-start I) in (
      λ n p e. here-get I h (unread h) (rests I h) n p g.stack e,
      top-there I h (unread h) (rests I h) g.stack,
      λ n p e. all-get I h (start_places h) n p g.starts e,
    )
