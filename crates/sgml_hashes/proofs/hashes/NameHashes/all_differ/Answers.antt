use Rattle.std.proofs.Common.{ap, sym, ◌∙◌, subst}
use Rattle.std.proofs.lemmas.Bool.{OnTrue_from}
use Rattle.sgml_hashes.specs.Hashes.{AllDiffer, rises}
use Rattle.sgml_hashes.proofs.Differing.{rising_differ, differ_in_order}
use Rattle.sgml_hashes.proofs.hashes.NameHashes.all_differ.Goals as goal

pub returns : goal.returns
returns c =
    OnTrue_from c.is_rising.result (AllDiffer c.args.self) (λ h.
    subst AllDiffer c.self.view_is
    (differ_in_order c.self.inside.hashes.items c.sort_unstable.new.self.items c.sort_unstable.ensures.permutation (rising_differ c.sort_unstable.new.self.items (ap rises (sym c.deref.ensures.value) ∙ sym c.is_rising.ensures ∙ h))))
