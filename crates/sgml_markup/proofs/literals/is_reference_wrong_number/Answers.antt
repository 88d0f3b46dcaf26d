use Rattle.std.proofs.Common.{◌∙◌, ap, sym}
use Rattle.sgml_markup.specs.References.{wrong_number}
use Rattle.sgml_markup.proofs.Quiet.{literal-found, literal-plain, literal-length}
use Rattle.sgml_markup.proofs.literals.is_reference_wrong_number.Goals as goal

pub number_wrong_at-requires : goal.number_wrong_at-requires
number_wrong_at-requires c =
    literal-length c.args.syntax.now c.args.text.now c.in-Found.delim
    (literal-found c.args.syntax.now c.args.text.now c.in-Found.delim c.in-Found.field-1 c.in-Found.ensures)

pub returns-in-Found : goal.returns-in-Found
returns-in-Found c =
    c.number_wrong_at.ensures
    ∙ ap (λ o. wrong_number c.args.syntax.now o c.args.text.now)
    (sym (literal-found c.args.syntax.now c.args.text.now c.in-Found.delim c.in-Found.field-1 c.in-Found.ensures))

pub returns-in-Plain : goal.returns-in-Plain
returns-in-Plain c =
    ap (λ o. wrong_number c.args.syntax.now o c.args.text.now) (sym (literal-plain c.args.syntax.now c.args.text.now c.in-Plain.ensures))
