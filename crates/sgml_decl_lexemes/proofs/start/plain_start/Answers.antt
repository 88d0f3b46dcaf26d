use Rattle.std.proofs.Common.{sym, ◌∙◌}
use Rattle.sgml_decl_lexemes.proofs.Starting.{plain-of}
use Rattle.sgml_decl_lexemes.proofs.start.plain_start.Goals as goal

pub returns-then-is_dso_at-clause-plain : goal.returns-then-is_dso_at-clause-plain
returns-then-is_dso_at-clause-plain c =
    plain-of c.args.bytes.now c.after-named.result.now c.after-spaced.result.now c.separators-gap.result c.letters-word.result c.separators-space.result
    c.separators-gap.ensures.value c.after-named.ensures.value c.letters-word.ensures.value c.after-spaced.ensures.value c.separators-space.ensures.value
    c.if-word-gt0.true (sym c.is_dso_at.ensures ∙ c.if-is_dso_at.true)
