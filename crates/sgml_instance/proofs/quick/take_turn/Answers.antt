use Rattle.std.proofs.Common.{true, subst}
use Rattle.sgml_scan.specs.declared.state.ScanState.{ScanState}
use Rattle.sgml_content_tags.specs.sgml_content_steps.Plainly.{IsScannedIn}
use Rattle.sgml_instance.proofs.Running.{runs-none, tag-runs, tag-falls, mapped-runs, mapped-falls}
use Rattle.sgml_instance.specs.Quick.{IsReach}
use Rattle.sgml_instance.proofs.quick.take_turn.Goals as goal

pub take_plain-requires-clause-plain : goal.take_plain-requires-clause-plain
take_plain-requires-clause-plain g c =
    subst (λ (z : ScanState). IsScannedIn z c.args.content.now) (subst (IsReach c.scan_state-state.result) c.in-All.is c.reach_of.ensures)
    c.scan_state-state.ensures.held

pub returns-in-Tags-clause-runs : goal.returns-in-Tags-clause-runs
returns-in-Tags-clause-runs g c = λ ended.
    tag-runs c.args.options.now c.scan_state-state.result c.args.texts.now ended c.args.content.now c.try_tag.new.content c.args.told.now.items c.try_tag.new.told.items c.try_tag.result
    (subst (IsReach c.scan_state-state.result) c.in-Tags.is c.reach_of.ensures) c.scan_state-state.ensures.held c.try_tag.ensures.takes

pub returns-in-Tags-clause-falls : goal.returns-in-Tags-clause-falls
returns-in-Tags-clause-falls g c some =
    tag-falls c.args.options.now c.scan_state-state.result c.args.texts.now true c.args.content.now c.try_tag.new.content c.args.told.now.items c.try_tag.new.told.items c.try_tag.result
    (subst (IsReach c.scan_state-state.result) c.in-Tags.is c.reach_of.ensures) c.scan_state-state.ensures.held some c.try_tag.ensures.takes

pub try_mapped-requires-clause-scanned : goal.try_mapped-requires-clause-scanned
try_mapped-requires-clause-scanned g c =
    subst (λ (z : ScanState). IsScannedIn z c.args.content.now) (subst (IsReach c.scan_state-state.result) c.in-Mapped.is c.reach_of.ensures)
    c.scan_state-state.ensures.held

pub returns-in-Mapped-clause-runs : goal.returns-in-Mapped-clause-runs
returns-in-Mapped-clause-runs g c = λ ended.
    mapped-runs c.args.options.now c.scan_state-state.result c.args.texts.now ended c.args.content.now c.try_mapped.new.content c.args.told.now.items c.try_mapped.new.told.items c.try_mapped.result
    (subst (IsReach c.scan_state-state.result) c.in-Mapped.is c.reach_of.ensures) c.scan_state-state.ensures.held c.try_mapped.ensures.takes

pub returns-in-Mapped-clause-falls : goal.returns-in-Mapped-clause-falls
returns-in-Mapped-clause-falls g c some =
    mapped-falls c.args.options.now c.scan_state-state.result c.args.texts.now true c.args.content.now c.try_mapped.new.content c.args.told.now.items c.try_mapped.new.told.items c.try_mapped.result
    (subst (IsReach c.scan_state-state.result) c.in-Mapped.is c.reach_of.ensures) c.scan_state-state.ensures.held some c.try_mapped.ensures.takes

pub returns-in-Nothing-clause-runs : goal.returns-in-Nothing-clause-runs
returns-in-Nothing-clause-runs g c = λ ended. runs-none c.args.options.now c.args.texts.now ended c.args.content.now c.args.told.now.items
