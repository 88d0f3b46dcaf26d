use Rattle.std.proofs.Common.{◌++◌, ◌∷◌, [], ◌∙◌, ap, List, ℕ, arith}
use Rattle.sgml_names.specs.Index.{names_of}
use Rattle.sgml_names.specs.Lists.{repeats, with_number}
use Rattle.sgml_dtd_attlists.specs.declared.list.AttributeList.{AttributeList}
use Rattle.sgml_dtd_attlists.specs.Rows.{lists_twice}
use Rattle.sgml_dtd_attlists.proofs.Numbering.{names-numbered, one_more}
use Rattle.sgml_dtd_attlists.proofs.table.Lists.insert.Goals as goal

pub add_names-requires : goal.add_names-requires
add_names-requires c =
    ap (λ (names : List (List ℕ)). repeats (names_of c.self.inside.index) names) c.items.ensures
    ∙ ap (λ t. repeats (names_of t) c.args.list.names) c.self.invariant.are
    ∙ ap (λ (b : List (List ℕ)). repeats b c.args.list.names) (names-numbered 0 c.self.inside.lists.items)
    ∙ ap (λ ls. lists_twice ls c.args.list) c.self.view_is
    ∙ c.requires

pub invariant_of-self-in-Ok : goal.invariant_of-self-in-Ok
invariant_of-self-in-Ok c =
    one_more c.self.inside.lists.items c.push_reserved.new.self.items c.args.list c.self.inside.index c.add_names.new.index c.len-number.result c.self.invariant
    (c.push_reserved.ensures.items ∙ ap (λ (ls : List AttributeList). ls ++ c.args.list ∷ []) c.in_ok-reserve.ensures.items)
    (omega arith)
    (c.in-Ok.ensures.ok ∙ ap (λ (names : List (List ℕ)). c.self.inside.index ++ with_number c.len-number.result names) c.items.ensures)
    (omega arith)
