-- Where the document alone is open, its place tells what of it is unread.
use Rattle.std.proofs.Common.{◌≡◌, ℕ, ◌+◌, ◌-◌, ◌≤◌, true, false, ◌==◌, List, [], ◌∷◌, length, drop, refl, sym, ap, ◌∙◌, subst, arith}
use Rattle.std.proofs.lemmas.List.{length-append, length-drop}
use Rattle.sgml_storage.specs.text.declared.place.Place.{Place}
use Rattle.sgml_conversion.specs.theory_reading.Names.{Text}
use Rattle.sgml_conversion.specs.theory_reading.Pieces.{History}
use Rattle.sgml_conversion.specs.theory_reading.Facets.{Turn, OpensText, EndsText, StaysInText, turn}
use Rattle.sgml_conversion.specs.theory_reading.Nest.{without_first}
use Rattle.sgml_conversion.specs.theory_reading.Unread.{Input, Standing, unread, rests, opened, opened_turned, opened_number, number_opened, text_opened, AreAlong}
use Rattle.sgml_conversion.specs.theory_reading.Reads.{Move, read_by, top_place, stop_place}
use Rattle.sgml_conversion.proofs.theory_reading.Stack.{unread-along}
use Rattle.sgml_conversion.specs.theory_ending.Places.{text_in}
use Rattle.sgml_conversion.proofs.theory_ending.There.{places-are-there}
use Rattle.sgml_theory_prologs.specs.Prologs.{ReadsProlog}
use Rattle.sgml_theory_round.proofs.Alone.{OpensAnother, opens-another}

-- each text on the stack was opened there, but the document's
abbrev IsOpening : History → Type 0
IsOpening [] = Unit {0}
IsOpening (p ∷ h) = (e : ℕ) × (turn p.kind ≡ OpensText e)

abbrev AreOpenings : List History → Type 0
AreOpenings [] = Unit {0}
AreOpenings (k ∷ ks) = IsOpening k × AreOpenings ks

without-one : (ks : List History) → AreOpenings ks → AreOpenings (without_first ks)
without-one [] a = tt
without-one (k ∷ ks) a = a.1

turned-openings : (t : Turn) (h : History) (ks : List History) → ((e : ℕ) → t ≡ OpensText e → IsOpening h) → AreOpenings ks → AreOpenings (opened_turned t h ks)
turned-openings (OpensText e) h ks f a = (f e refl, a)
turned-openings EndsText h ks f a = without-one ks a
turned-openings StaysInText h ks f a = a

are-openings : (h : History) → AreOpenings (opened h)
unfolding opened
are-openings [] = (tt, tt)
are-openings (p ∷ h) = turned-openings (turn p.kind) (p ∷ h) (opened h) (λ e is. (e, is)) (are-openings h)

never : {A : Type 0} → true ≡ false → A
never e = absurd (cc)

another : {A : Type 0} (t : Turn) (e : ℕ) → OpensAnother t → t ≡ OpensText e → opened_number t ≡ 0 → A
another t e o is n =
    let zero_is : e ≡ 0 = sym (ap opened_number is) ∙ n in
    let other : (e == 0) ≡ false = subst OpensAnother is o in
    never (sym (ap (λ (i : ℕ). i == 0) zero_is) ∙ other)

-- so the one whose number is 0 is the document's
document-opened : (I : Input) (k : History) → IsOpening k → number_opened k ≡ 0 → text_opened I k ≡ I.document
document-opened I [] o n = refl
document-opened I (p ∷ h) o n = another (turn p.kind) o.0 (opens-another p.kind) o.1 n

-- WHAT IS UNREAD of the document, where it alone is open, stands behind its place
record IsPlaced (I : Input) (h : History) (rest : Text) : Type 0 where
  number : (stop_place h).entity ≡ 0
  left : rest ≡ drop (stop_place h).at I.document

placed-by : (I : Input) (ks : List History) (ps : List Place) (rest : Text) → AreOpenings ks → AreAlong I ks ps (record { entity = 0; bytes = rest } ∷ [])
    → ((top_place ps).entity ≡ 0) × (rest ≡ drop (top_place ps).at I.document)
placed-by I (k ∷ []) (p ∷ []) rest o a =
    let number : p.entity ≡ 0 = sym a.1 in
    (number, a.2 ∙ ap (drop p.at) (document-opened I k o.0 (sym a.0 ∙ number)))
placed-by I [] [] rest o a = absurd a
placed-by I [] (p ∷ ps) rest o a = absurd a
placed-by I (k ∷ ks) [] rest o a = absurd a
placed-by I (k ∷ l ∷ ks) (p ∷ []) rest o a = absurd a.3
placed-by I (k ∷ []) (p ∷ q ∷ ps) rest o a = absurd a.3
placed-by I (k ∷ l ∷ ks) (p ∷ q ∷ ps) rest o a = absurd a.3

is-placed : (I : Input) (h : History) (rest : Text) → rests I h ≡ record { entity = 0; bytes = rest } ∷ [] → IsPlaced I h rest
is-placed I h rest e =
    let x = placed-by I (opened h) (unread h) rest (are-openings h) (subst (AreAlong I (opened h) (unread h)) e (unread-along I h)) in
    record { number = x.0; left = x.1 }

-- HOW LONG A PROLOG IS
pub prolog-long : (I : Input) (ms : List Move) (prolog rest : Text) → ReadsProlog I ms prolog rest → (stop_place (read_by I ms)).at ≡ length prolog
prolog-long I ms prolog rest p =
    let h = read_by I ms in
    let x = is-placed I h rest (ap (λ (t : Standing). t.rests) p.left) in
    let within : (stop_place h).at ≤ length I.document =
    subst (λ (n : ℕ). (stop_place h).at ≤ length (text_in I h n)) x.number ((places-are-there I ms p.reads).1).within in
    let all : length I.document ≡ length prolog + length rest = ap length p.document ∙ length-append prolog rest in
    let left : length rest ≡ length I.document - (stop_place h).at = ap length x.left ∙ length-drop (stop_place h).at I.document in
    omega (arith, within, all, left)
