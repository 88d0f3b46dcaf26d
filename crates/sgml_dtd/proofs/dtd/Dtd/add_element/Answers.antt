use Rattle.std.proofs.Common.{ap, subst}
use Rattle.sgml_syntax.specs.declared.syntax.Syntax.{Syntax}
use Rattle.sgml_dtd_elements.specs.Folded.{folded_content}
use Rattle.sgml_dtd_elements.specs.Rows.{IsUnambiguousContent}
use Rattle.sgml_dtd.proofs.dtd.Dtd.add_element.Goals as goal

pub returns-clause-unambiguous : goal.returns-clause-unambiguous
returns-clause-unambiguous c =
    subst (λ (s : Syntax). IsUnambiguousContent (folded_content s c.args.element.now.body.content)) (ap (λ t. t.syntax) c.self.view_is) c.in_ok-add.ensures.unambiguous
