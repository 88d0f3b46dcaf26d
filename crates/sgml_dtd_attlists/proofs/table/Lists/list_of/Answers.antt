use Rattle.std.proofs.Common.{◌∙◌, ap}
use Rattle.sgml_names.specs.Index.{found}
use Rattle.sgml_dtd_attlists.specs.Tables.{list_of}
use Rattle.sgml_dtd_attlists.proofs.Numbering.{found-numbered, of_list_within}
use Rattle.sgml_dtd_attlists.proofs.table.Lists.list_of.Goals as goal

pub returns-clause-of : goal.returns-clause-of
returns-clause-of c =
    c.number.ensures ∙ ap (found c.self.inside.index) c.items.ensures.list
    ∙ ap (λ t. found t c.args.element.now) c.self.invariant.are
    ∙ found-numbered 0 c.self.inside.lists.items c.args.element.now
    ∙ ap (λ ls. list_of ls c.args.element.now) c.self.view_is

pub returns-clause-within : goal.returns-clause-within
returns-clause-within c =
    of_list_within c.number.result c.args.self.now c.args.element.now
    (c.number.ensures ∙ ap (found c.self.inside.index) c.items.ensures.list
    ∙ ap (λ t. found t c.args.element.now) c.self.invariant.are
    ∙ found-numbered 0 c.self.inside.lists.items c.args.element.now
    ∙ ap (λ ls. list_of ls c.args.element.now) c.self.view_is)
