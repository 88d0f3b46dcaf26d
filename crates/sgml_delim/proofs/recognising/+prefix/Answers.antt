use Rattle.std.proofs.Common.{◌++◌, sym, ap, subst}
use Rattle.sgml_delim.specs.Answers.{DecidesPrefix}
use Rattle.sgml_delim.proofs.Deciding.{nil-of, prefix-end-of}
use Rattle.sgml_delim.proofs.recognising.+prefix.Goals as goal

pub returns-in-empty : goal.returns-in-empty
returns-in-empty t c =
    (c.args.text.now, ap (λ s. s ++ c.args.text.now) (sym (nil-of c.args.string.now c.in-empty.len_below)))

pub returns-in-empty-text : goal.returns-in-empty-text
returns-in-empty-text t c =
    subst (λ v. DecidesPrefix c.args.ended c.args.string.now c.args.text.now v) (sym c.undecided.ensures)
    (prefix-end-of c.args.ended c.args.string.now c.args.text.now c.in-len1-up.len_at_least c.in-empty-text.len_below)
