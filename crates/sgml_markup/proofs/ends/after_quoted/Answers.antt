use Rattle.std.proofs.Common.{◌∙◌, ◌+◌, sym, refl, subst, arith, drop, None, Some, slice_index_or}
use Rattle.sgml_markup.proofs.EndLemmas.{rest-of, quoted-open, quoted-closed}
use Rattle.memchr.specs.Find.{IsFirstByte, is_byte}
use Rattle.sgml_markup.proofs.ends.after_quoted.Goals as goal

pub returns-in-None-clause-value : goal.returns-in-None-clause-value
returns-in-None-clause-value c = λ shorttag.
    let text = c.args.text.now in
    let b = slice_index_or text c.args.at 0 in
    let none = subst (λ r. IsFirstByte (is_byte b) r None) (rest-of (c.args.at + 1) text) c.in-None.ensures in
    quoted-open shorttag b (c.args.at + 1) (drop (c.args.at + 1) text)
    (sym c.is_quote.ensures ∙ c.if-is_quote.true) (λ k l e. none k (omega arith) l e)

pub returns-in-Some-clause-value : goal.returns-in-Some-clause-value
returns-in-Some-clause-value c = λ shorttag.
    let text = c.args.text.now in
    let b = slice_index_or text c.args.at 0 in
    let found = subst (λ r. IsFirstByte (is_byte b) r (Some c.in-Some.length)) (rest-of (c.args.at + 1) text) c.in-Some.ensures in
    quoted-closed shorttag b (c.args.at + 1) c.in-Some.length text (drop (c.args.at + 1) text)
    (sym c.is_quote.ensures ∙ c.if-is_quote.true) refl found.0.high (λ k l e. found.0.before k (omega arith) l e) found.1
