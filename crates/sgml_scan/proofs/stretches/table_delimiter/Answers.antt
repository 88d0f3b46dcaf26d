use Rattle.sgml_scan.proofs.Quick.{start-found, end-found, reference-found}
use Rattle.sgml_scan.proofs.stretches.table_delimiter.Goals as goal

pub returns-then-begins_start : goal.returns-then-begins_start
returns-then-begins_start c =
    start-found c.args.syntax.now c.args.state.mode c.args.state.net c.args.ended c.args.text.now (c.begins_start.ensures c.if-begins_start.true)

pub returns-then-begins_end : goal.returns-then-begins_end
returns-then-begins_end c =
    end-found c.args.syntax.now c.args.state.mode c.args.state.net c.args.ended c.args.text.now (c.begins_end.ensures c.if-begins_end.true)

pub returns-then-begins_reference : goal.returns-then-begins_reference
returns-then-begins_reference c =
    reference-found c.args.syntax.now c.args.state.mode c.args.state.net c.args.ended c.args.text.now (c.begins_reference.ensures c.if-begins_reference.true)
