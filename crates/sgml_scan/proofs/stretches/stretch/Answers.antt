use Rattle.std.proofs.Common.{◌≤◌, ◌<◌, ◌+◌, ℕ, sym, subst, arith, length, slice_index_or}
use Rattle.std.proofs.lemmas.List.{length-drop}
use Rattle.sgml_markup.proofs.EndLemmas.{rest-of}
use Rattle.sgml_scan.specs.Sure.{Sure}
use Rattle.sgml_scan.specs.Tokens.{IsOne}
use Rattle.sgml_scan.proofs.Standing.{ones-more, ones-step, one-within}
use Rattle.sgml_scan.proofs.stretches.stretch.Goals as goal

pub returns-then-not-is_one : goal.returns-then-not-is_one
returns-then-not-is_one c =
    let s = c.args.syntax.now in
    let st = c.args.state in
    let ended = c.args.ended in
    let run = c.args.run in
    let text = c.args.text.now in
    let n = c.chars.n in
    let more = c.sure_of-more.result in
    let rest = rest-of n text in
    record {
      each = ones-more s st ended run text n more c.requires c.chars.invariant.0
          (subst (λ r. more ≤ length r) rest c.sure_of-more.ensures.within)
          c.chars.invariant.1
          (subst (λ r. (i : ℕ) → i < more → Sure st run (slice_index_or r i 0)) rest c.sure_of-more.ensures.sure);
      longest = λ h. c.if-not-is_one.ensures (subst (λ r. IsOne s st ended run r) (sym (rest-of (n + more) text)) h);
    }

pub chars-preserved : goal.chars-preserved
chars-preserved c =
    let s = c.args.syntax.now in
    let st = c.args.state in
    let ended = c.args.ended in
    let run = c.args.run in
    let text = c.args.text.now in
    let n = c.chars.n in
    let more = c.sure_of-more.result in
    let rest = rest-of n text in
    let here = subst (λ r. IsOne s st ended run r) (rest-of (n + more) text) c.if-not-is_one.ensures in
    let fits = subst (λ r. more ≤ length r) rest c.sure_of-more.ensures.within in
    let len = length-drop n text in (
      one-within s st ended run text (n + more) (omega (arith, fits, len, c.chars.invariant.0)) here,
      ones-step s st ended run text (n + more)
          (ones-more s st ended run text n more c.requires c.chars.invariant.0 fits c.chars.invariant.1
          (subst (λ r. (i : ℕ) → i < more → Sure st run (slice_index_or r i 0)) rest c.sure_of-more.ensures.sure))
          here,
    )
