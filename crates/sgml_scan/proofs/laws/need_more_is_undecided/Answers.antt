use Rattle.sgml_scan.proofs.Unique.{decided-is-told, undecided-needs-more}
use Rattle.sgml_scan.proofs.laws.need_more_is_undecided.Goals as goal

pub returns : goal.returns
returns c = λ s st bytes scanned h. (
  λ e n. decided-is-told s st bytes scanned h n e,
  λ n. undecided-needs-more s st bytes scanned h n,
)
