-- What the tables tell of a declaration is what is spelled.
use Rattle.std.proofs.Common.{◌≡◌, ℕ, true, false, ◌-◌, List, map, Option, Some, None, is_some, Ok, Err, refl, sym, ap, ◌∙◌, if◌then◌else◌}
use Rattle.std.specs.Option.{option_or}
use Rattle.sgml_scan.specs.text.declared.reason.Reason.{Reason}
use Rattle.sgml_scan.specs.text.declared.reason.Reason.TheVariants as reason
use Rattle.sgml_theory_reading.specs.model.Term.{Term}
use Rattle.sgml_theory_reading.specs.model.Group.{Sign}
use Rattle.sgml_theory_reading.specs.model.ReaderView.{sign}
use Rattle.sgml_theory_reading.specs.model.Reading.{reading}
use Rattle.sgml_theory_reading.proofs.model.Grammar.{read_spelled}
use Rattle.sgml_theory_reading.specs.ambiguity.Ambiguity.{IsAmbiguous, IsUnambiguous}
use Rattle.sgml_theory_reading.specs.ambiguity.Scan.{clash}
use Rattle.sgml_theory_reading.proofs.ambiguity.Judged.{pair-where-ambiguous}
use Rattle.sgml_theory_reading.specs.model.Term.{Token}
use Rattle.sgml_theory_reading.specs.decl_forms.declared.element.ContentForm.{ContentForm}
use Rattle.sgml_theory_reading.specs.decl_forms.declared.element.ContentForm.TheVariants as content
use Rattle.sgml_theory_reading.specs.decl_forms.declared.declaration.Declaration.{Declaration}
use Rattle.sgml_theory_reading.specs.decl_forms.declared.declaration.Declaration.TheVariants as form
use Rattle.sgml_theory_reading.specs.decl_forms.Declarations.{declaration_at}
use Rattle.sgml_theory_reading.specs.dtd_elements.Folded.{folded}
use Rattle.sgml_theory_reading.specs.dtd_elements.Errors.{IsFirst}
use Rattle.sgml_theory_reading.specs.dtd_elements.Rows.{IsAmbiguousContent, IsUnambiguousContent}
use Rattle.sgml_theory_reading.specs.dtd.Doctypes.{Doctype}
use Rattle.sgml_theory_reading.specs.dtd.Errors.{IsAdded, IsAgainst}
use Rattle.sgml_theory_reading.specs.dtd.Rows.{declared_reason, IsAmbiguousIn, IsUnambiguousIn}
use Rattle.sgml_theory_reading.specs.Pieces.{Declare}
use Rattle.sgml_theory_reading.specs.Facets.{declares}
use Rattle.sgml_theory_reading.specs.Unread.{Outside, Sources, base_in}
use Rattle.sgml_theory_spelling.specs.Stacked.{Stacked}
use Rattle.sgml_theory_spelling.specs.Sized.{sized_spent, unless_reason}
use Rattle.sgml_theory_spelling.specs.Declared.{Lexed, model_in, is_ambiguous, ambiguity}
use Rattle.sgml_theory_spelling.specs.Prolog.{declared_by}
use Rattle.sgml_theory_spelling.specs.Judged.{AddedIsUnopposed, FirstIsAgainst, AddedIsSpelled, RefusedIsSpelled}

-- A MODEL IS AMBIGUOUS exactly where a clash is found

no-clash : (ts : List Sign) (x : Term) → reading ts ≡ Some x → IsUnambiguous x → is_some (clash x) ≡ false
no-clash ts x h u = let m = read_spelled ts x h in let p = pair-where-ambiguous x m.1 m.0.numbered in p.1.1 u

some-clash : (ts : List Sign) (x : Term) (a b : Token) → reading ts ≡ Some x → IsAmbiguous x a b → is_some (clash x) ≡ true
some-clash ts x a b h i = let m = read_spelled ts x h in let p = pair-where-ambiguous x m.1 m.0.numbered in p.0.1 (a, b, i)

content-unambiguous : (c : ContentForm) → IsUnambiguousContent c → is_ambiguous (model_in c) ≡ false
content-unambiguous content.Empty h = refl
content-unambiguous content.Cdata h = refl
content-unambiguous content.Rcdata h = refl
content-unambiguous content.Any h = refl
content-unambiguous (content.Model ts) h = by (reading (map sign ts)) refl
  where
    by : (o : Option Term) → reading (map sign ts) ≡ o → is_ambiguous o ≡ false
    by None e = refl
    by (Some x) e = no-clash (map sign ts) x e (h x e)

content-ambiguous : (c : ContentForm) → IsAmbiguousContent c → is_ambiguous (model_in c) ≡ true
content-ambiguous content.Empty h = absurd h
content-ambiguous content.Cdata h = absurd h
content-ambiguous content.Rcdata h = absurd h
content-ambiguous content.Any h = absurd h
content-ambiguous (content.Model ts) h =
    ap is_ambiguous h.read ∙ some-clash (map sign ts) h.model h.clash.first h.clash.second h.read h.clash.ambiguous

ambiguity-none : (d : Doctype) (x : Declaration) → IsUnambiguousIn d x → ambiguity d x ≡ None
ambiguity-none d (form.Element e) h = ap (λ t. if t then Some reason.Ambiguous else None) (content-unambiguous (folded d.syntax e).body.content h)
ambiguity-none d (form.Attlist l) h = refl
ambiguity-none d (form.Entity e) h = refl
ambiguity-none d (form.Notation n) h = refl
ambiguity-none d (form.Shortref m) h = refl
ambiguity-none d (form.Usemap u) h = refl
ambiguity-none d (form.Doctype h') h = refl

ambiguity-some : (d : Doctype) (x : Declaration) → IsAmbiguousIn d x → ambiguity d x ≡ Some reason.Ambiguous
ambiguity-some d (form.Element e) h = ap (λ t. if t then Some reason.Ambiguous else None) (content-ambiguous (folded d.syntax e).body.content h)
ambiguity-some d (form.Attlist l) h = absurd h
ambiguity-some d (form.Entity e) h = absurd h
ambiguity-some d (form.Notation n) h = absurd h
ambiguity-some d (form.Shortref m) h = absurd h
ambiguity-some d (form.Usemap u) h = absurd h
ambiguity-some d (form.Doctype h') h = absurd h

-- THE REASON

pub added-is-unopposed : AddedIsUnopposed
added-is-unopposed base ds d e x h = ap (λ o. option_or o (ambiguity d x)) h.none ∙ ambiguity-none d x h.unambiguous

first-by : (d : Doctype) (x : Declaration) (r : Reason) (o : Option Reason) → IsFirst r o (IsAmbiguousIn d x) → option_or o (ambiguity d x) ≡ Some r
first-by d x r (Some first) h = ap Some (sym h)
first-by d x r None h = ambiguity-some d x h.1 ∙ ap Some (sym h.0)

pub first-is-against : FirstIsAgainst
first-is-against ds d x r h = first-by d x r (declared_reason d ds x) h

-- THE PIECE

abbrev AddedBy : Outside → Sources → Stacked → ℕ → Lexed → Doctype → Option Declaration → Type 0
AddedBy outside k t size x e o =
    (says : Declaration) × (declared_by outside k t size x o ≡ Ok (sized_spent size (x.spent - t.spent) (Declare x.lexemes says (base_in outside k t.entities))))
    × (e ≡ declares (Declare x.lexemes says (base_in outside k t.entities)) k.doctype)

added-by : (outside : Outside) (k : Sources) (t : Stacked) (size : ℕ) (x : Lexed) (e : Doctype) (o : Option Declaration)
    → IsAdded (base_in outside k t.entities) x.lexemes k.doctype e o → AddedBy outside k t size x e o
unfolding declares
added-by outside k t size x e None h = absurd h
added-by outside k t size x e (Some says) h = (
  says,
  ap (λ r. unless_reason r (sized_spent size (x.spent - t.spent) (Declare x.lexemes says (base_in outside k t.entities))))
      (added-is-unopposed (base_in outside k t.entities) x.lexemes k.doctype e says h),
  h.is,
)

pub added-is-spelled : AddedIsSpelled
added-is-spelled outside k t size x e h =
    let a = added-by outside k t size x e (declaration_at x.lexemes) h in record { says = a.0; spelled = a.1; types = a.2 }

refused-by : (outside : Outside) (k : Sources) (t : Stacked) (size : ℕ) (x : Lexed) (r : Reason) (o : Option Declaration)
    → IsAgainst x.lexemes k.doctype r o → declared_by outside k t size x o ≡ Err r
refused-by outside k t size x r None h = ap Err (sym h)
refused-by outside k t size x r (Some says) h =
    ap (λ q. unless_reason q (sized_spent size (x.spent - t.spent) (Declare x.lexemes says (base_in outside k t.entities))))
    (first-is-against x.lexemes k.doctype says r h)

pub refused-is-spelled : RefusedIsSpelled
refused-is-spelled outside k t size x r h = refused-by outside k t size x r (declaration_at x.lexemes) h
