use Rattle.std.proofs.Common.{rules, ◌≡◌, ◌<◌, length, drop, false}
use Rattle.sgml_catalog.specs.Tokens.{begins_comment}
use Rattle.sgml_catalog.proofs.Items.{dashes_later}
use Rattle.sgml_catalog.proofs.item.before_dashes.Goals as goal

pub loop-at-preserved : goal.loop-at-preserved
loop-at-preserved c =
    let lt : c.loop-at.at < length c.args.text.now = search rules in
    let bare : begins_comment (drop c.loop-at.at c.args.text.now) ≡ false = search rules in
    dashes_later c.loop-at.at c.args.text.now _ lt bare c.loop-at.invariant
