use Rattle.std.proofs.Common.{◌∙◌, ◌++◌, ap, List, ℕ}
use Rattle.sgml_names.specs.Index.{names_of}
use Rattle.sgml_names.specs.Lists.{repeats}
use Rattle.sgml_dtd_attlists.proofs.Grouping.{tokens_step}
use Rattle.sgml_dtd_attlists.proofs.twice.token_again.Goals as goal

pub definitions-preserved : goal.definitions-preserved
definitions-preserved c =
    tokens_step (names_of c.definitions.seen) (names_of c.any_seen.new.seen) c.definitions.rest.now c.definition-item.result c.in_ok-any_seen.field-0
    c.in-len1-up.len_at_least c.definition-item.is
    (c.in_ok-any_seen.ensures.again ∙ ap (λ (names : List (List ℕ)). repeats (names_of c.definitions.seen) names) c.group_of.ensures)
    c.if-branch.false
    (c.in_ok-any_seen.ensures.seen c.if-branch.false ∙ ap (λ (names : List (List ℕ)). names_of c.definitions.seen ++ names) c.group_of.ensures)
    ∙ c.definitions.invariant
