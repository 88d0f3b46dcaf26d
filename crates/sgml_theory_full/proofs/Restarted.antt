-- A start that is written again: what the laws of values say of it.
use Rattle.std.proofs.Common.{◌≡◌, ℕ, Bool, true, false, ◌||◌, List, [], ◌∷◌, Option, Some, None, is_some, refl, sym, ◌∙◌, ap, subst, inl, inr, if◌then◌else◌}
use Rattle.std.specs.Prelude.{option_map, unwrap_or}
use Rattle.std.specs.List.{list_any}
use Rattle.sgml_theory_values.specs.delim.declared.delim.Mode.TheVariants as mode
use Rattle.sgml_theory_values.specs.decl_forms.declared.element.ContentForm.{ContentForm}
use Rattle.sgml_theory_values.specs.decl_forms.declared.element.ContentForm.TheVariants as form
use Rattle.sgml_theory_values.specs.dtd_elements.Types.{ElementType}
use Rattle.sgml_theory_values.specs.dtd.Doctypes.{Doctype}
use Rattle.sgml_theory_values.specs.theory_reading.Names.{Name}
use Rattle.sgml_theory_values.specs.theory_reading.Types.{Content, Cdata, Rcdata, Any, content_in, content_of, element_type, type_of, undeclared, is_declared, attributes}
use Rattle.sgml_theory_values.specs.theory_reading.Pieces.{Specification, How, Start, Tag}
use Rattle.sgml_theory_values.specs.theory_reading.State.{State}
use Rattle.sgml_theory_values.specs.theory_reading.Characters.{is_void, is_conref_of, ends_at_once}
use Rattle.sgml_theory_values.specs.theory_reading.Events.{Started}
use Rattle.sgml_theory_values.specs.theory_spelling.Attributes.{unvalued, valued}
use Rattle.sgml_theory_values.specs.theory_spelling.Places.{content_mode}
use Rattle.sgml_theory_values.specs.full.declared.inside.Inside.{Inside}
use Rattle.sgml_theory_values.specs.full.declared.inside.Inside.TheVariants as inside
use Rattle.sgml_theory_values.specs.full.Full as full
use Rattle.sgml_theory_values.specs.full.Full.{inside_of, after_said}
use Rattle.sgml_theory_values.specs.Full.{value_read}
use Rattle.sgml_theory_values.specs.Starts.{specifications}
use Rattle.sgml_theory_values.specs.Laws.{HasValues, WrittenStartsHaveTheirValues, EndsAtOnceStay, FullDocumentsSpellValues, ReferencesStay}
use Rattle.sgml_theory_full.specs.Named.{IsGeneralName}
use Rattle.sgml_theory_full.specs.Points.{HasReferences}
use Rattle.sgml_theory_full.specs.Conforming.{start_kind}
use Rattle.sgml_theory_full.proofs.Plain.{true-false}

-- the laws
pub record ValuesStay : Type 0 where
  pub values : WrittenStartsHaveTheirValues
  pub at_once : EndsAtOnceStay
  pub spell : FullDocumentsSpellValues
  pub refer : ReferencesStay

-- IT HAS ITS VALUES in each state with the same document type
pub again-valued : ValuesStay → (a s : State) (n : Name) (ss : List Specification) (how : How) (proper once : Bool) → HasValues a (Start n ss how proper once)
    → s.context.doctype ≡ a.context.doctype → let vs = valued a (Start n ss how proper once) in
    (unvalued s (start_kind s.context.doctype n vs) ≡ None) × (valued s (start_kind s.context.doctype n vs) ≡ vs)
again-valued l a s n ss how proper once h t =
    let d = a.context.doctype in
    let vs = valued a (Start n ss how proper once) in
    subst (λ d. (unvalued s (start_kind d n vs) ≡ None) × (valued s (start_kind d n vs) ≡ vs)) (sym t)
    (l.values (value_read d) a s n ss how Tag proper true once false (l.spell d) h t)

-- IT ENDS AT ONCE where it did
pub again-at-once : ValuesStay → (a : State) (n : Name) (ss : List Specification) (how : How) (proper once : Bool) → HasValues a (Start n ss how proper once)
    → ends_at_once a.context.doctype n ss ≡ once
    → ends_at_once a.context.doctype n (specifications (value_read a.context.doctype) (valued a (Start n ss how proper once))) ≡ once
again-at-once l a n ss how proper once h o =
    l.at_once (value_read a.context.doctype) a n ss how proper once (l.spell a.context.doctype) h ∙ o

abbrev is_other : Content → Bool
is_other Cdata = false
is_other _ = true

-- WHAT STANDS INSIDE IT: nothing, or references
some-type : (d : Doctype) (n : Name) → is_declared d n ≡ true → (t : ElementType) × (element_type d n ≡ Some t)
some-type d n h = by (element_type d n) h
  where
    by : (o : Option ElementType) → is_some o ≡ true → (t : ElementType) × (o ≡ Some t)
    by None h = true-false (sym h)
    by (Some t) h = (t, refl)

pub no-references : {A : Type 0} → HasReferences mode.Cdt → A
no-references (inl e) = absurd (never e)
  where
    never : mode.Cdt ≡ mode.Con → ⊥
    never e = cc
no-references (inr e) = absurd (never e)
  where
    never : mode.Cdt ≡ mode.Rcd → ⊥
    never e = cc

abbrev pub unless_once : Bool → Inside
unless_once once = if once then inside.Nothing else inside.Mixed

inside-by : (c : ContentForm) (r once : Bool) → (is_void (content_in c) || r) ≡ once → (once ≡ false → HasReferences (content_mode (content_in c))) → inside_of r (Some c) ≡ unless_once once
inside-by form.Empty true once e m = ap unless_once e
inside-by form.Cdata true once e m = ap unless_once e
inside-by form.Rcdata true once e m = ap unless_once e
inside-by form.Any true once e m = ap unless_once e
inside-by (form.Model ts) true once e m = ap unless_once e
inside-by form.Empty false once e m = ap unless_once e
inside-by form.Cdata false once e m = no-references (m (sym e))
inside-by form.Rcdata false once e m = ap unless_once e
inside-by form.Any false once e m = ap unless_once e
inside-by (form.Model ts) false once e m = ap unless_once e

inside-declared : (d : Doctype) (b : ℕ) (bs : Name) (r once : Bool) → is_declared d (b ∷ bs) ≡ true → (is_void (content_of (type_of d (b ∷ bs))) || r) ≡ once
    → (once ≡ false → HasReferences (content_mode (content_of (type_of d (b ∷ bs))))) → inside_of r (full.content_of d (b ∷ bs)) ≡ unless_once once
unfolding type_of
inside-declared d b bs r once h e m =
    let t = some-type d (b ∷ bs) h in
    ap (λ o. inside_of r (option_map (λ (u : ElementType). u.body.content) o)) t.1
    ∙ inside-by t.0.body.content r once (sym (ap (λ o. is_void (content_of (unwrap_or o undeclared)) || r) t.1) ∙ e)
    (λ k. subst (λ o. HasReferences (content_mode (content_of (unwrap_or o undeclared)))) t.1 (m k))

pub again-inside : ValuesStay → (a : State) (n : Name) (ss : List Specification) (how : How) (proper once : Bool) → HasValues a (Start n ss how proper once)
    → IsGeneralName a.context.doctype.syntax n → is_declared a.context.doctype n ≡ true → ends_at_once a.context.doctype n ss ≡ once
    → (once ≡ false → HasReferences (content_mode (content_of (type_of a.context.doctype n))))
    → after_said a.context.doctype inside.Mixed (Started n (valued a (Start n ss how proper once))) ≡ unless_once once
unfolding attributes ends_at_once
again-inside l a [] ss how proper once h w k o m = true-false (sym w.is_name)
again-inside l a (b ∷ bs) ss how proper once h w k o m =
    let d = a.context.doctype in
    let n = b ∷ bs in
    ap (λ r. inside_of r (full.content_of d n)) (l.refer a n ss how proper once h)
    ∙ inside-declared d b bs (list_any (λ (u : Specification). is_conref_of d n u.attribute) ss) once k o m

-- or data as it stands
not-cdata : {A : Type 0} (c : Content) → c ≡ Cdata → is_other c ≡ true → A
not-cdata c e h = true-false (sym h ∙ ap is_other e)

cdata-by : (c : ContentForm) (r : Bool) → (is_void (content_in c) || r) ≡ false → content_in c ≡ Cdata → inside_of r (Some c) ≡ inside.Characters
cdata-by form.Cdata false e k = refl
cdata-by form.Cdata true e k = true-false e
cdata-by form.Empty r e k = true-false e
cdata-by form.Rcdata r e k = not-cdata Rcdata k refl
cdata-by form.Any r e k = not-cdata Any k refl
cdata-by (form.Model ts) r e k = not-cdata (content_in (form.Model ts)) k refl

cdata-declared : (d : Doctype) (b : ℕ) (bs : Name) (r : Bool) → is_declared d (b ∷ bs) ≡ true → (is_void (content_of (type_of d (b ∷ bs))) || r) ≡ false → content_of (type_of d (b ∷ bs)) ≡ Cdata
    → inside_of r (full.content_of d (b ∷ bs)) ≡ inside.Characters
unfolding type_of
cdata-declared d b bs r h e k =
    let t = some-type d (b ∷ bs) h in
    ap (λ o. inside_of r (option_map (λ (u : ElementType). u.body.content) o)) t.1
    ∙ cdata-by t.0.body.content r (sym (ap (λ o. is_void (content_of (unwrap_or o undeclared)) || r) t.1) ∙ e) (sym (ap (λ o. content_of (unwrap_or o undeclared)) t.1) ∙ k)

pub again-cdata : ValuesStay → (a : State) (n : Name) (ss : List Specification) (how : How) (proper : Bool) → HasValues a (Start n ss how proper false)
    → IsGeneralName a.context.doctype.syntax n → is_declared a.context.doctype n ≡ true → ends_at_once a.context.doctype n ss ≡ false → content_of (type_of a.context.doctype n) ≡ Cdata
    → after_said a.context.doctype inside.Mixed (Started n (valued a (Start n ss how proper false))) ≡ inside.Characters
unfolding attributes ends_at_once
again-cdata l a [] ss how proper h w k o m = true-false (sym w.is_name)
again-cdata l a (b ∷ bs) ss how proper h w k o m =
    let d = a.context.doctype in
    let n = b ∷ bs in
    ap (λ r. inside_of r (full.content_of d n)) (l.refer a n ss how proper false h)
    ∙ cdata-declared d b bs (list_any (λ (u : Specification). is_conref_of d n u.attribute) ss) k o m
