use Rattle.std.proofs.Common.{ap, sym, ◌∙◌, ◌≡◌, Option, Some, map, subst, List}
use Rattle.sgml_model.specs.Term.{Term}
use Rattle.sgml_model.specs.Reading.{reading}
use Rattle.sgml_model.specs.ReaderView.{sign}
use Rattle.sgml_model.specs.declared.token.GroupToken.{GroupToken}
use Rattle.sgml_automaton.specs.ambiguity.Ambiguity.{IsUnambiguous}
use Rattle.sgml_automaton.specs.Automaton.{whole_of}
use Rattle.sgml_decl_forms.specs.declared.element.ContentForm.{ContentForm}
use Rattle.sgml_decl_forms.specs.declared.element.ContentForm.TheVariants as form
use Rattle.sgml_dtd_elements.specs.Folded.{folded_token, folded_content}
use Rattle.sgml_dtd_elements.specs.Kept.{token}
use Rattle.sgml_dtd_elements.proofs.Groups.{tokens_of_signs}
use Rattle.sgml_dtd_elements.proofs.judging.content_of.Goals as goal

one_model : (o : Option Term) (x y : Term) → o ≡ Some x → o ≡ Some y → y ≡ x
one_model o x y a b = cc

pub returns-in-Ok-clause-form : goal.returns-in-Ok-clause-form
returns-in-Ok-clause-form c =
    ap (λ ss. form.Model (map token ss)) c.in-Ok.ensures.spelled
    ∙ ap form.Model (tokens_of_signs (map (folded_token c.args.syntax.now) c.items.result.now))
    ∙ ap (λ (ts : List GroupToken). form.Model (map (folded_token c.args.syntax.now) ts)) c.items.ensures
    ∙ ap (folded_content c.args.syntax.now) (sym c.in-Model.is)

pub returns-in-Ok-clause-unambiguous : goal.returns-in-Ok-clause-unambiguous
returns-in-Ok-clause-unambiguous c =
    rw c.in-Model.is (λ x is.
    subst IsUnambiguous
    (one_model (reading (map sign (map (folded_token c.args.syntax.now) c.in-Model.tokens))) x (whole_of c.in-Ok.automaton) is
    (ap (λ (ts : List GroupToken). reading (map sign (map (folded_token c.args.syntax.now) ts))) (sym c.items.ensures) ∙ c.in-Ok.ensures.read))
    c.in-Ok.ensures.unambiguous)
