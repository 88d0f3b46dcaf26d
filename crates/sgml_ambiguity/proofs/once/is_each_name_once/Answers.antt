use Rattle.std.proofs.Common.{ap, ◌∙◌, subst, List, ℕ, ◌++◌}
use Rattle.std.proofs.lemmas.Bool.{OnTrue_from, OnTrue_at}
use Rattle.sgml_model.specs.View.{view}
use Rattle.sgml_hashes.specs.Hashes.{AllDiffer}
use Rattle.sgml_ambiguity.specs.Once.{EachNameOnce, hashes_in}
use Rattle.sgml_ambiguity.proofs.Naming.{differing_once}
use Rattle.sgml_ambiguity.proofs.once.is_each_name_once.Goals as goal

pub returns : goal.returns
returns c =
    let term = view c.args.term.now in
    OnTrue_from c.all_differ-once.result (EachNameOnce term) (λ h.
    differing_once term
    (subst AllDiffer (c.in_ok-note.ensures ∙ ap (λ (ns : List ℕ). ns ++ hashes_in term) c.new-hashes.ensures) (OnTrue_at h c.all_differ-once.ensures)))
