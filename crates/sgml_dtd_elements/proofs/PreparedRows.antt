-- Rows of which one has another content of the same form.
use Rattle.std.proofs.Common.{◌≡◌, ℕ, zero, suc, ◌<◌, List, [], ◌∷◌, refl, ap, ◌∙◌, length, map, subst, sym, arith, get_or, slice_set}
use Rattle.sgml_dtd_elements.specs.declared.content.Content.{Content}
use Rattle.sgml_dtd_elements.specs.declared.row.Row.{Row}
use Rattle.sgml_decl_forms.specs.declared.element.ContentForm.{ContentForm}
use Rattle.sgml_decl_forms.specs.declared.element.ElementDeclaration.{ElementDeclaration}
use Rattle.sgml_dtd_elements.specs.Kept.{declared, form_of, IsRead, AreRead}

abbrev pub with_content : Row → Content → Row
with_content r x = record { names = r.names; omits = r.omits; content = x; exceptions = r.exceptions }

-- a row of this content
abbrev said : Row → ContentForm → ElementDeclaration
said r f = record {
  names = r.names;
  omits = r.omits;
  body = record { content = f; excluded = r.exceptions.excluded; included = r.exceptions.included };
}

pub declared_still : (rows : List Row) (at : ℕ) (r : Row) (x : Content) → at < length rows → r ≡ get_or rows at r → form_of x ≡ form_of r.content →
    map declared (slice_set rows at (with_content r x)) ≡ map declared rows
declared_still [] at r x within is same = absurd (omega arith)
declared_still (s ∷ rows) zero r x within is same =
    ap (λ (d : ElementDeclaration). d ∷ map declared rows) (ap (said r) same ∙ ap declared is)
declared_still (s ∷ rows) (suc i) r x within is same = ap (λ (ds : List ElementDeclaration). declared s ∷ ds) (declared_still rows i r x (omega arith) is same)

pub read_still : (rows : List Row) (at : ℕ) (r : Row) (x : Content) → at < length rows → r ≡ get_or rows at r → (IsRead r.content → IsRead x) →
    AreRead rows → AreRead (slice_set rows at (with_content r x))
read_still [] at r x within is read all = absurd (omega arith)
read_still (s ∷ rows) zero r x within is read all = (read (subst (λ (y : Row). IsRead y.content) (sym is) all.0), all.1)
read_still (s ∷ rows) (suc i) r x within is read all = (all.0, read_still rows i r x (omega arith) is read all.1)
