-- Attribute definitions one after another.
use Rattle.std.proofs.Common.{◌≡◌, ◌≤◌, ℕ, zero, suc, List, [], ◌∷◌, ◌++◌, length, Option, None, Some, refl, sym, ap, ◌∙◌, subst, arith}
use Rattle.std.proofs.lemmas.List.{append-nil, append_assoc}
use Rattle.sgml_decl_lexemes.specs.declared.lexeme.Lexeme.{Lexeme}
use Rattle.sgml_decl_forms.specs.declared.attlist.AttributeForm.{AttributeForm}
use Rattle.sgml_decl_forms.specs.Words.{◌>>=◌}
use Rattle.sgml_decl_forms.specs.Attributes.{attribute_at, attributes_at, AreAttributes, StandOneAfterAnother}

bind-some : {A B : Type 0} (o : Option A) (f : A → Option B) (r : B) → (o >>= f) ≡ Some r
    → (x : A) × (o ≡ Some x) × (f x ≡ Some r)
bind-some None f r e = absurd (cc e)
bind-some (Some x) f r e = (x, refl, e)

abbrev Behind : List AttributeForm → List AttributeForm → List Lexeme → Type 0
Behind done all ds = (more : List AttributeForm) × (all ≡ done ++ more) × AreAttributes more ds

-- what is read stands there
read-stands : (n : ℕ) (done all : List AttributeForm) (ds : List Lexeme) → attributes_at n done ds ≡ Some all → Behind done all ds
read-stands n done all [] e = ([], cc e ∙ sym (append-nil done), refl)
read-stands zero done all (d ∷ ds) e = absurd (cc e)
read-stands (suc n) done all (d ∷ ds) e =
    let b = bind-some (attribute_at (d ∷ ds)) (λ a. attributes_at n (done ++ a.0 ∷ []) a.1) all e in
    let h = read-stands n (done ++ b.0.0 ∷ []) all b.0.1 b.2 in
    (b.0.0 ∷ h.0, h.1 ∙ append_assoc done (b.0.0 ∷ []) h.0, (b.0.1, b.1, h.2))

attribute-some : (a : AttributeForm) (rest : List Lexeme) → attribute_at [] ≡ Some (a, rest) → ⊥
unfolding attribute_at
attribute-some a rest e = cc e

-- what stands there is read
stands-read : (more done : List AttributeForm) (n : ℕ) (ds : List Lexeme) → AreAttributes more ds → length more ≤ n
    → attributes_at n done ds ≡ Some (done ++ more)
stands-read [] done n ds h l = ap (attributes_at n done) h ∙ ap Some (sym (append-nil done))
stands-read (a ∷ more) done n [] h l = absurd (attribute-some a h.0 h.1)
stands-read (a ∷ more) done zero (d ∷ ds) h l = absurd (omega (arith, l))
stands-read (a ∷ more) done (suc n) (d ∷ ds) h l =
    ap (λ o. o >>= (λ x. attributes_at n (done ++ x.0 ∷ []) x.1)) h.1
    ∙ stands-read more (done ++ a ∷ []) n h.0 h.2 (omega (arith, l))
    ∙ ap Some (append_assoc done (a ∷ []) more)

pub one-after-another : StandOneAfterAnother
one-after-another n first more ds = (
  λ e.
      let h = read-stands n (first ∷ []) (first ∷ more) ds e in
      let same : more ≡ h.0 = cc h.1 in
      subst (λ m. AreAttributes m ds) (sym same) h.2,
  λ a l. stands-read more (first ∷ []) n ds a l,
)
