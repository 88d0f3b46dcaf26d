use Rattle.std.proofs.Common.{◌∙◌, ap}
use Rattle.sgml_attr.specs.Tokens.{token_of}
use Rattle.sgml_attr.specs.Matching.{has_member, only_position}
use Rattle.sgml_attr.proofs.matching.walked.Goals as goal

pub returns-in-None : goal.returns-in-None
returns-in-None c =
    rw c.in-None.is (c.only_member.ensures.of
    ∙ ap (λ units. only_position (λ d. has_member (token_of c.args.folding units) d.declared) c.args.definitions.now) c.items-in-None.ensures)
