use Rattle.std.proofs.Common.{◌≡◌, ◌∙◌, ap, sym, List, [], ℕ, is_some}
use Rattle.std.specs.List.{list_any}
use Rattle.sgml_names.proofs.Repeating.{any_has, if_ok, none_before, one_before}
use Rattle.sgml_names.specs.Index.{found, names_of}
use Rattle.sgml_names.specs.Lists.{has, repeats}
use Rattle.sgml_dtd_attlists.specs.Rows.{lists_twice}
use Rattle.sgml_dtd_attlists.specs.Tables.{listed}
use Rattle.sgml_dtd_attlists.proofs.Numbering.{names-numbered}
use Rattle.sgml_dtd_attlists.proofs.table.Lists.lists_twice.Goals as goal

pub returns-then-any_found : goal.returns-then-any_found
returns-then-any_found c =
    let seen : c.any_found.result ≡ list_any (has (listed c.args.self.now)) c.args.list.now.names =
    c.any_found.ensures
    ∙ ap (λ (names : List (List ℕ)). list_any (λ name. is_some (found c.self.inside.index name)) names) c.items.ensures
    ∙ any_has c.self.inside.index c.args.list.now.names
    ∙ ap (λ t. list_any (has (names_of t)) c.args.list.now.names) c.self.invariant.are
    ∙ ap (λ (b : List (List ℕ)). list_any (has b) c.args.list.now.names) (names-numbered 0 c.self.inside.lists.items)
    ∙ ap (λ ls. list_any (has (listed ls)) c.args.list.now.names) c.self.view_is in
    one_before (listed c.args.self.now) c.args.list.now.names (sym c.if-any_found.true ∙ seen)

pub returns : goal.returns
returns c =
    let seen : c.any_found.result ≡ list_any (has (listed c.args.self.now)) c.args.list.now.names =
    c.any_found.ensures
    ∙ ap (λ (names : List (List ℕ)). list_any (λ name. is_some (found c.self.inside.index name)) names) c.items.ensures
    ∙ any_has c.self.inside.index c.args.list.now.names
    ∙ ap (λ t. list_any (has (names_of t)) c.args.list.now.names) c.self.invariant.are
    ∙ ap (λ (b : List (List ℕ)). list_any (has b) c.args.list.now.names) (names-numbered 0 c.self.inside.lists.items)
    ∙ ap (λ ls. list_any (has (listed ls)) c.args.list.now.names) c.self.view_is in
    let same : repeats [] c.args.list.now.names ≡ lists_twice c.args.self.now c.args.list.now =
    none_before (listed c.args.self.now) c.args.list.now.names (sym c.if-any_found.false ∙ seen) in
    if_ok c.repeats.result _ _ c.repeats.ensures (ap (λ (names : List (List ℕ)). repeats [] names) c.items-2.ensures ∙ same)
