use Rattle.sgml_content_steps.proofs.Scanning.{innermost-of}
use Rattle.sgml_content_steps.proofs.scanned.innermost.Goals as goal

pub returns-else-depth-eq0-clause-open : goal.returns-else-depth-eq0-clause-open
returns-else-depth-eq0-clause-open c =
    innermost-of c.args.content.now _ c.depth-depth.result c.path.result c.requires.content c.content.view_is c.depth-depth.ensures.context
    c.if-depth-eq0.false c.path.ensures.context c.path.ensures.number
