use Rattle.std.proofs.Common.{ap}
use Rattle.sgml_parse.specs.Parsing.{Parser}
use Rattle.sgml_source.proofs.Fed.{document-ends}
use Rattle.sgml_source.proofs.source.end_document.Goals as goal

pub returns-clause-ends : goal.returns-clause-ends
returns-clause-ends c = document-ends c.args.source.now.limit c.args.parser.now c.end.new.self c.args.source.now.fed c.in-Ok.ensures.ends (ap (λ (p : Parser). p.records) c.in-Ok.ensures.after)
