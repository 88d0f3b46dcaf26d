-- Element types by their number and by their name.
use Rattle.std.specs.Prelude.{◌≡◌, ℕ, Bool, true, false, [], ◌∷◌, map, Option, Some, None, is_some, option_and_then, slice_get, if◌then◌else◌}
use Rattle.std.specs.Str.{bytes_eq}
use Rattle.std.proofs.Common.{refl, sym, ap, ◌∙◌}
use Rattle.std.proofs.lemmas.Slice.Eq.{bytes_eq-Decides}
use Rattle.std.proofs.lemmas.Option.{slice_get_within}
use Rattle.sgml_text.specs.declared.reason.Reason.{Reason}
use Rattle.sgml_text.specs.declared.reason.Reason.TheVariants.{Undefined}
use Rattle.sgml_names.specs.Naming.{cased, cased_character}
use Rattle.sgml_dtd.specs.dtd_elements.Types.{ElementType, types, number_of}
use Rattle.sgml_dtd.specs.dtd_elements.Laws.{AreDistinct}
use Rattle.sgml_dtd.specs.Doctypes.{Doctype}
use Rattle.sgml_theory_spelling.specs.theory_reading.Names.{Name, Text}
use Rattle.sgml_theory_spelling.specs.theory_reading.Types.{element_type, is_declared}
use Rattle.sgml_theory_spelling.specs.theory_reading.Reads.{unless_declared}
use Rattle.sgml_infer.specs.Tables.{name_in, name_at, IsNumber}
use Rattle.sgml_infer.proofs.Numbers.{stands-at, number-at, found-at}
use Rattle.sgml_content_tags.specs.Named.{number_named}
use Rattle.sgml_content_steps.specs.said.Told as told

-- the name by which it is told
said-in : (o : Option ElementType) → told.name_in o ≡ name_in o
said-in None = refl
said-in (Some t) = refl

pub name-said : (d : Doctype) (i : ℕ) → told.name_at d i ≡ name_at d i
name-said d i = said-in (slice_get (types d.elements) i)

-- THE NUMBER OF A NAME
pub name-of-number : (d : Doctype) (n : Name) (i : ℕ) → number_of d.elements n ≡ Some i → name_at d i ≡ n
name-of-number d n i e = let a = stands-at d.elements n i e in ap name_in a.stands ∙ a.name

pub number-within : (d : Doctype) (n : Name) (i : ℕ) → number_of d.elements n ≡ Some i → IsNumber d i
number-within d n i e = let a = stands-at d.elements n i e in slice_get_within (types d.elements) i a.type a.stands

abbrev declared-by : Doctype → Option ℕ → Bool
declared-by d o = is_some (option_and_then (λ j. slice_get (types d.elements) j) o)

pub number-declared : (d : Doctype) (n : Name) (i : ℕ) → number_of d.elements n ≡ Some i → is_declared d n ≡ true
unfolding element_type
number-declared d n i e = let a = stands-at d.elements n i e in ap (declared-by d) e ∙ ap is_some a.stands

pub none-declared : (d : Doctype) (n : Name) → number_of d.elements n ≡ None → is_declared d n ≡ false
unfolding element_type
none-declared d n e = ap (declared-by d) e

-- THE NAME OF A NUMBER
pub number-of-name : (d : Doctype) (i : ℕ) → AreDistinct d.elements → IsNumber d i → number_of d.elements (name_at d i) ≡ Some i
number-of-name d i a h =
    let f = found-at (types d.elements) i h in
    ap (λ (o : Option ElementType). number_of d.elements (name_in o)) f.1 ∙ number-at d.elements i f.0 a f.1

pub name-declared : (d : Doctype) (i : ℕ) → AreDistinct d.elements → IsNumber d i → is_declared d (name_at d i) ≡ true
name-declared d i a h = number-declared d (name_at d i) i (number-of-name d i a h)

-- a name that is that of a type
pub number-as : (d : Doctype) (i : ℕ) (n : Name) → AreDistinct d.elements → IsNumber d i → bytes_eq n (name_at d i) ≡ true → Some i ≡ number_of d.elements n
number-as d i n a h e = sym (ap (number_of d.elements) ((bytes_eq-Decides n (name_at d i)).0 e) ∙ number-of-name d i a h)

-- folded in one way
pub same-cased : (folded : Bool) (name : Text) → cased folded name ≡ map (cased_character folded) name
same-cased true name = refl
same-cased false name = sym (map-same name)
  where
    map-same : (bs : Text) → map (cased_character false) bs ≡ bs
    map-same [] = refl
    map-same (b ∷ bs) = ap (λ (cs : Text). b ∷ cs) (map-same bs)

-- a tag that stands somewhere
pub named-there : (d : Doctype) (tag there : Text) (o : Option ℕ) → tag ≡ there → number_named d tag ≡ o → number_named d there ≡ o
named-there d tag there o same e = sym (ap (number_named d) same) ∙ e

-- WHETHER A TAG'S TYPE IS DECLARED
abbrev reason-by : Bool → Option Reason
reason-by b = if b then None else Some Undefined

pub defined : (d : Doctype) (n : Name) → is_declared d n ≡ true → unless_declared d n ≡ None
defined d n e = ap reason-by e

pub undefined-name : (d : Doctype) (n : Name) → is_declared d n ≡ false → unless_declared d n ≡ Some Undefined
undefined-name d n e = ap reason-by e
