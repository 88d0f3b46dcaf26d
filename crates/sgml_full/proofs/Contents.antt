-- What may stand in the elements of a type, by its number and by its name.
use Rattle.std.proofs.Common.{◌≡◌, ℕ, ◌<◌, ◌≤◌, ◌==◌, Bool, false, Option, Some, None, List, [], ◌∷◌, option_map, option_and_then, slice_get, length, refl, sym, ap, ◌∙◌, arith}
use Rattle.std.proofs.lemmas.Option.{slice_get_past}
use Rattle.sgml_dtd_elements.specs.sgml_decl_forms.declared.element.ContentForm.{ContentForm}
use Rattle.std.specs.Option.{IsSomeAnd}
use Rattle.sgml_dtd_elements.specs.Types.{ElementType, types, IsContentOf}
use Rattle.sgml_dtd_elements.specs.declared.content.Content.{Content}
use Rattle.sgml_dtd_elements.specs.Laws.{AreDistinct}
use Rattle.sgml_dtd.specs.Doctypes.{Doctype}
use Rattle.sgml_said.specs.theory_reading.Names.{Name}
use Rattle.sgml_said.specs.theory_reading.Types.{element_type}
use Rattle.sgml_said.proofs.theory_reading.ElementNumbers.{number-at}
use Rattle.sgml_said.specs.Told.{name_in, name_at}
use Rattle.sgml_full.specs.declared.inside.Inside.{Inside}
use Rattle.sgml_full.specs.declared.inside.Inside.TheVariants as inside
use Rattle.sgml_full.specs.Full.{content_of, inside_of}
use Rattle.sgml_full.specs.Events.{inside_at}

pub nameless : (d : Doctype) (n : ℕ) → name_at d n ≡ [] → inside.Mixed ≡ inside_at d n false
nameless d n e = ap (λ x. inside_of false (content_of d x)) (sym e)

pub past : (d : Doctype) (n : ℕ) → length (types d.elements) ≤ n → inside.Mixed ≡ inside_at d n false
past d n p = nameless d n (ap name_in (slice_get_past (types d.elements) n p))

content-named : (d : Doctype) (name : Name) → 0 < length name → content_of d name ≡ option_map (λ (t : ElementType). t.body.content) (element_type d name)
content-named d [] p = absurd (omega (arith, p))
content-named d (b ∷ bs) p = refl

type-at : (d : Doctype) (n : ℕ) (t : ElementType) → AreDistinct d.elements → slice_get (types d.elements) n ≡ Some t → element_type d t.name ≡ Some t
unfolding element_type
type-at d n t a s = ap (option_and_then (λ (i : ℕ). slice_get (types d.elements) i)) (number-at d.elements n t a s) ∙ s

pub standing : (d : Doctype) (n : ℕ) (t : ElementType) → AreDistinct d.elements → slice_get (types d.elements) n ≡ Some t → 0 < length (name_at d n) → content_of d (name_at d n) ≡ Some t.body.content
standing d n t a s p =
    let name : name_at d n ≡ t.name = ap name_in s in
    content-named d (name_at d n) p ∙ (ap (λ x. option_map (λ (t : ElementType). t.body.content) (element_type d x)) name ∙ ap (option_map (λ (t : ElementType). t.body.content)) (type-at d n t a s))

pub some-length : (name : Name) → (length name == 0) ≡ false → 0 < length name
some-length [] e = absurd (cc)
some-length (b ∷ bs) e = omega arith

pub by-content : (d : Doctype) (n : ℕ) (o : Option ElementType) (content : Content) (result : Inside) → slice_get (types d.elements) n ≡ o → IsSomeAnd o (λ (t : ElementType). IsContentOf t.body.content content)
    → ((form : ContentForm) → IsContentOf form content → result ≡ inside_of false (Some form)) → AreDistinct d.elements → 0 < length (name_at d n) → result ≡ inside_at d n false
by-content d n None content result s i f a p = absurd i
by-content d n (Some t) content result s i f a p = f t.body.content i ∙ ap (inside_of false) (sym (standing d n t a s p))
