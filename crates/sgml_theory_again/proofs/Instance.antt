-- What is read in the instance, after the tags that were left out before it; and that the instance goes on.
use Rattle.std.proofs.Common.{◌≡◌, ℕ, Bool, true, false, not, ◌==◌, ◌&&◌, ◌||◌, List, [], ◌∷◌, map, Option, Some, None, Result, Ok, Err, refl, sym, ap, ◌∙◌, inl, inr, subst, if◌then◌else◌}
use Rattle.std.specs.List.{list_any}
use Rattle.sgml_theory_full.specs.text.declared.reason.Reason.{Reason}
use Rattle.sgml_theory_full.specs.delim.declared.delim.Mode.TheVariants as mode
use Rattle.sgml_theory_full.specs.records.Facts.{takes_end}
use Rattle.sgml_theory_full.specs.dtd.Doctypes.{Doctype}
use Rattle.sgml_theory_full.specs.theory_reading.Pieces.{Piece, Meaning, Ordinary, ToText, ToData, ToExternalData, ToInstruction, Kind, Sgml, Head, Declare, SubsetEnd, Start, Data, DataRef, Re, ShortRef, Ref, EntityEnd, Pi, History}
use Rattle.sgml_theory_full.specs.theory_reading.Facets.{token, Stage, BeforeSyntax, AtBeginning, BeforeDoctype, InSubset, AfterSubset, stage_after, OpensText, StaysInText, turn, turn_of_meaning, subset_number, declares}
use Rattle.sgml_theory_full.specs.theory_reading.Nest.{types, without_first}
use Rattle.sgml_theory_full.specs.theory_reading.Context.{Context, context}
use Rattle.sgml_theory_full.specs.theory_reading.Omission.{MayStand, leaves, misfits}
use Rattle.sgml_theory_full.specs.theory_reading.Runs.{LongestRun, after_run}
use Rattle.sgml_theory_full.specs.theory_reading.Unread.{Input, Rest, rest_moved, rest_turned, rests, standing, sources, text_of}
use Rattle.sgml_theory_full.specs.theory_reading.State.{State, state, stage}
use Rattle.sgml_theory_full.specs.theory_reading.Characters.{facts_in, ordinary, meaning_noted, kind_noted}
use Rattle.sgml_theory_full.specs.theory_reading.Reads.{Move, MovesTo, Reads, judged, answer_noted, unless_undecided}
use Rattle.sgml_theory_full.specs.theory_spelling.Places.{in_doctype, element_mode}
use Rattle.sgml_theory_full.specs.theory_spelling.Decided.{decided}
use Rattle.sgml_theory_full.specs.theory_spelling.Spelled.{forms, spelled}
use Rattle.sgml_theory_full.specs.Conforming.{mode_in}
use Rattle.sgml_theory_full.specs.Standing.{PieceStands}
use Rattle.sgml_theory_full.specs.Named.{is_external_data}
use Rattle.sgml_theory_again.specs.Content.{HasCome, ReferredIs, is_data_body, IsInstructionOf, IsMapped, IsOfInstance}
use Rattle.sgml_theory_again.proofs.Texts.{true-false}
use Rattle.sgml_theory_again.proofs.Standing.{EachIs, read-stands}
use Rattle.sgml_theory_again.proofs.Content.{spelled-of-instance}
use Rattle.sgml_theory_again.proofs.Nested.{IsNested, run-mode}
use Rattle.sgml_theory_again.proofs.Found.{not-subset}

-- WHAT IS SPELLED, and becomes the visible piece of the move
pub record Spelt (I : Input) (h : History) (m : Move) : Type 0 where
  pub p : Piece
  pub is : spelled I.outside (state h) (standing I h) ≡ Ok p
  pub longest : LongestRun h (kind_noted (state h) p.kind) m.omitted
  pub visible : m.visible.kind ≡ judged (context (after_run h m.omitted)) (kind_noted (state h) p.kind)
  pub size : m.visible.size ≡ p.size

spelt-by : (I : Input) (h : History) (m : Move) (cut : Bool) (x : Result Piece Reason) → spelled I.outside (state h) (standing I h) ≡ x
    → MovesTo forms h (unless_undecided cut (answer_noted (state h) x)) m → Spelt I h m
spelt-by I h m true x is moves = absurd moves
spelt-by I h m false (Err r) is moves = absurd moves
spelt-by I h m false (Ok p) is moves =
    record { p = p; is = is; longest = moves.longest; visible = ap (λ (q : Piece). q.kind) moves.visible; size = ap (λ (q : Piece). q.size) moves.visible }

pub spelt : (I : Input) (h : History) (m : Move) → Reads forms I h m → Spelt I h m
spelt I h m r =
    spelt-by I h m (I.was_cut && not (decided I.outside (state h) (standing I h))) (spelled I.outside (state h) (standing I h)) refl r.moves

-- OMITTED TAGS before it
omitted-type : (h : History) (o : Piece) (x : Kind) → MayStand (context h) o x → types (o ∷ h) ≡ types h
unfolding types declares
omitted-type h o x (inl m) = ap (λ (p : Piece). declares p.kind (types h)) m.1
omitted-type h o x (inr m) = ap (λ (p : Piece). declares p.kind (types h)) m.1

run-type : (h : History) (x : Kind) (os : List Piece) → LongestRun h x os → types (after_run h os) ≡ types h
run-type h x [] run = refl
run-type h x (o ∷ os) run = run-type (o ∷ h) x os run.1 ∙ omitted-type h o x run.0

doctype-is : (h : History) → (state h).context.doctype ≡ types h
unfolding state context
doctype-is h = refl

pub same-type : (h : History) (x : Kind) (os : List Piece) → LongestRun h x os → (state (after_run h os)).context.doctype ≡ (state h).context.doctype
same-type h x os r = doctype-is (after_run h os) ∙ run-type h x os r ∙ sym (doctype-is h)

none-before : {A : Type 0} (c : Context) (o : Piece) (x : Kind) → token x ≡ None → leaves c x ≡ false → MayStand c o x → A
none-before c o x t l (inl m) = true-false (sym m.2.before ∙ l)
none-before c o x t l (inr m) = true-false (sym m.2.before ∙ ap (misfits c) t)

pub no-run : (h : History) (x : Kind) (os : List Piece) → token x ≡ None → leaves (context h) x ≡ false → LongestRun h x os → os ≡ []
no-run h x [] t l r = refl
no-run h x (o ∷ os) t l r = none-before (context h) o x t l r.0

instruction-token : (text : List ℕ) (e : Option ℕ) → token (Pi text e) ≡ None
unfolding token
instruction-token text e = refl

instruction-leaves : (c : Context) (text : List ℕ) (e : Option ℕ) → leaves c (Pi text e) ≡ false
unfolding leaves token
instruction-leaves c text e = refl

mode-is : (h : History) → mode_in (state h) ≡ element_mode (context h).doctype (context h).levels
unfolding state
mode-is h = refl

instruction-mode : (h : History) (os : List Piece) (text : List ℕ) (e : Option ℕ) → LongestRun h (Pi text e) os → mode_in (state h) ≡ mode.Con → mode_in (state (after_run h os)) ≡ mode.Con
instruction-mode h os text e r m =
    subst (λ qs. mode_in (state (after_run h qs)) ≡ mode.Con)
    (sym (no-run h (Pi text e) os (instruction-token text e) (instruction-leaves (context h) text e) r)) m

external-mode : (h : History) (os : List Piece) (v : Piece) (x : Kind) → LongestRun h x os → EachIs PieceStands h os v → IsNested (context h)
    → mode_in (state h) ≡ mode.Con → mode_in (state (after_run h os)) ≡ mode.Con
external-mode h os v x r e t m = mode-is (after_run h os) ∙ run-mode h x os v r e t (sym (mode-is h) ∙ m)

noted-mapped : (d : Doctype) (s : State) (string : List ℕ) (meaning : Meaning) → IsMapped d meaning → IsMapped d (meaning_noted s string meaning)
unfolding ordinary
noted-mapped d s string (Ordinary has_items content) a = tt
noted-mapped d s string (ToText e) a = a
noted-mapped d s string (ToData e) a = a
noted-mapped d s string (ToExternalData e) a = a
noted-mapped d s string (ToInstruction e text) a = a

after-omitted : (h : History) (os : List Piece) (v : Piece) (k : Kind) → LongestRun h (kind_noted (state h) k) os → EachIs PieceStands h os v → IsNested (context h)
    → IsOfInstance (state h) k → IsOfInstance (state (after_run h os)) (judged (context (after_run h os)) (kind_noted (state h) k))
unfolding kind_noted
after-omitted h os v (Data n) r e t a = subst (λ d. ReferredIs d n is_data_body) (sym (same-type h (Data n) os r)) a
after-omitted h os v (Ref n) r e t a = subst (λ d. ReferredIs d n (λ b. true)) (sym (same-type h (Ref n) os r)) a
after-omitted h os v (DataRef n) r e t a =
    (external-mode h os v (DataRef n) r e t a.0, subst (λ d. ReferredIs d n is_external_data) (sym (same-type h (DataRef n) os r)) a.1)
after-omitted h os v (Pi text None) r e t a = instruction-mode h os text None r a
after-omitted h os v (Pi text (Some n)) r e t a =
    (instruction-mode h os text (Some n) r a.0, subst (λ d. IsInstructionOf d text n) (sym (same-type h (Pi text (Some n)) os r)) a.1)
after-omitted h os v (ShortRef string meaning) r e t a = (
  external-mode h os v (ShortRef string (meaning_noted (state h) string meaning)) r e t a.0,
  subst (λ d. IsMapped d (meaning_noted (state h) string meaning)) (sym (same-type h (ShortRef string (meaning_noted (state h) string meaning)) os r))
      (noted-mapped (state h).context.doctype (state h) string meaning a.1),
)
after-omitted h os v (Sgml syntax) r e t a = absurd a
after-omitted h os v (Head head base) r e t a = absurd a
after-omitted h os v (Declare lexemes says base) r e t a = absurd a
after-omitted h os v (SubsetEnd reads) r e t a = absurd a
after-omitted h os v (Re live) r e t a = tt
after-omitted h os v (Start n ss how p b) r e t a = tt
after-omitted h os v k r e t a = tt

-- EACH PIECE
omitted-of : (s : State) (c : Context) (o : Piece) (x : Kind) → MayStand c o x → IsOfInstance s o.kind
omitted-of s c o x (inl m) = subst (λ (p : Piece). IsOfInstance s p.kind) (sym m.1) tt
omitted-of s c o x (inr m) = subst (λ (p : Piece). IsOfInstance s p.kind) (sym m.1) tt

each-of : (h : History) (x : Kind) (os : List Piece) (v : Piece) → LongestRun h x os → IsOfInstance (state (after_run h os)) v.kind → EachIs IsOfInstance h os v
each-of h x [] v r a = a
each-of h x (o ∷ os) v r a = (omitted-of (state h) (context h) o x r.0, each-of (o ∷ h) x os v r.1 a)

pub read-of-instance : (I : Input) (h : History) (m : Move) → Reads forms I h m → HasCome I h → IsNested (context h) → EachIs IsOfInstance h m.omitted m.visible
read-of-instance I h m r come nested =
    let s = spelt I h m r in
    let old = after_run h m.omitted in
    let a = spelled-of-instance I.outside (state h) (standing I h) s.p come s.is in
    each-of h (kind_noted (state h) s.p.kind) m.omitted m.visible s.longest
    (subst (IsOfInstance (state old)) (sym s.visible) (after-omitted h m.omitted m.visible s.p.kind s.longest (read-stands I h m r) nested a))

-- THE INSTANCE GOES ON
abbrev numbers : List Rest → List ℕ
numbers rs = map (λ (r : Rest). r.entity) rs

abbrev has_subset : List ℕ → Bool
has_subset ns = list_any (λ n. n == subset_number) ns

moved-numbers : (n : ℕ) (rs : List Rest) → numbers (rest_moved n rs) ≡ numbers rs
moved-numbers n [] = refl
moved-numbers n (r ∷ rs) = refl

fewer : (rs : List Rest) → has_subset (numbers rs) ≡ false → has_subset (numbers (without_first rs)) ≡ false
fewer [] h = h
fewer (r ∷ rs) h = second (r.entity == subset_number) (has_subset (numbers rs)) h
  where
    second : (a b : Bool) → (a || b) ≡ false → b ≡ false
    second true b e = true-false e
    second false b e = e

opened-by : (text : ℕ → List ℕ) (t : Bool) (n : ℕ) (rs : List Rest) → (n == subset_number) ≡ false → has_subset (numbers rs) ≡ false
    → has_subset (numbers (rest_turned text (if t then StaysInText else OpensText n) rs)) ≡ false
opened-by text true n rs e h = h
opened-by text false n rs e h = ap (λ b. b || has_subset (numbers rs)) e ∙ h

keeps : (s : State) (k : Kind) (text : ℕ → List ℕ) (rs : List Rest) → IsOfInstance s k → has_subset (numbers rs) ≡ false
    → in_doctype (stage_after k AfterSubset) (numbers (rest_turned text (turn k) rs)) ≡ false
unfolding stage_after turn
keeps s (Ref n) text rs a h = opened-by text (n == 0) n rs (not-subset s.context.doctype n a.b a.referred) h
keeps s (ShortRef string meaning) text rs a h = by meaning a.1
  where
    by : (m : Meaning) → IsMapped s.context.doctype m → has_subset (numbers (rest_turned text (turn_of_meaning m) rs)) ≡ false
    by (ToText n) b = opened-by text (n == 0) n rs (not-subset s.context.doctype n b.b b.referred) h
    by (Ordinary has_items content) b = h
    by (ToData n) b = h
    by (ToExternalData n) b = h
    by (ToInstruction n words) b = h
keeps s (Sgml syntax) text rs a h = absurd a
keeps s (Head head base) text rs a h = absurd a
keeps s (Declare lexemes says base) text rs a h = absurd a
keeps s (SubsetEnd reads) text rs a h = absurd a
keeps s EntityEnd text rs a h = fewer rs h
keeps s k text rs a h = h

come-at : (s : State) (g : Stage) (k : Kind) (size : ℕ) (text : ℕ → List ℕ) (rs : List Rest) → IsOfInstance s k → in_doctype g (numbers rs) ≡ false
    → in_doctype (stage_after k g) (numbers (rest_turned text (turn k) (rest_moved size rs))) ≡ false
come-at s AfterSubset k size text rs a h = keeps s k text (rest_moved size rs) a (ap has_subset (moved-numbers size rs) ∙ h)
come-at s BeforeSyntax k size text rs a h = true-false h
come-at s AtBeginning k size text rs a h = true-false h
come-at s BeforeDoctype k size text rs a h = true-false h
come-at s InSubset k size text rs a h = true-false h

come-next : (I : Input) (p : Piece) (h : History) → IsOfInstance (state h) p.kind → HasCome I h → HasCome I (p ∷ h)
unfolding state stage rests
come-next I p h a c = come-at (state h) (stage h) p.kind p.size (text_of I.outside (sources (p ∷ h))) (rests I h) a c

pub come-run : (I : Input) (h : History) (os : List Piece) (v : Piece) → EachIs IsOfInstance h os v → HasCome I h → HasCome I (v ∷ after_run h os)
come-run I h [] v e c = come-next I v h e c
come-run I h (o ∷ os) v e c = come-run I (o ∷ h) os v e.1 (come-next I o h e.0 c)
