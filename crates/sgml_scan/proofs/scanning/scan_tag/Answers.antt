use Rattle.std.proofs.Common.{arith}
use Rattle.sgml_delim.specs.declared.delim.Delim.TheVariants as d
use Rattle.sgml_delim.specs.declared.delim.Recognised.TheVariants.{Found}
use Rattle.sgml_scan.proofs.Quick.{start-found, end-found}
use Rattle.sgml_scan.proofs.scanning.scan_tag.Goals as goal

pub of_form-requires : goal.of_form-requires
of_form-requires c = let l = (c.begins_start.ensures c.if-begins_start.true).long in omega (arith, l)

pub returns-then-begins_start : goal.returns-then-begins_start
returns-then-begins_start c = record {
  recognised = Found d.Stago 1;
  answers = start-found c.args.syntax.now c.args.state.mode c.args.state.net c.args.ended c.args.text.now (c.begins_start.ensures c.if-begins_start.true);
  token = c.of_form.ensures;
}

pub of_form-requires-then-begins_end : goal.of_form-requires-then-begins_end
of_form-requires-then-begins_end c = let l = (c.begins_end.ensures c.if-begins_end.true).long in omega (arith, l)

pub returns-then-begins_end : goal.returns-then-begins_end
returns-then-begins_end c = record {
  recognised = Found d.Etago 2;
  answers = end-found c.args.syntax.now c.args.state.mode c.args.state.net c.args.ended c.args.text.now (c.begins_end.ensures c.if-begins_end.true);
  token = c.of_form-then-begins_end.ensures;
}
