use Rattle.std.proofs.Common.{◌≡◌, ◌+◌, ◌<◌, ◌≤◌, length-drop, arith, sym, ap, subst, ◌∙◌, List, true, drop, length, Some}
use Rattle.sgml_esis.specs.Grammar.{Front, is_none}
use Rattle.sgml_esis.specs.declared.line.Line.{Line}
use Rattle.sgml_esis.proofs.Files.{one_more, one_stops}
use Rattle.sgml_esis.proofs.read.read_lines.Goals as goal

pub loop-at-preserved : goal.loop-at-preserved
loop-at-preserved c =
    let ls = c.loop-at.lines.items in
    let first : c.is_first-first.result ≡ is_none ls = c.is_first-first.ensures ∙ ap is_none c.deref.ensures.value in
    let was : c.in_ok-line.field-0 ≡ Some (c.in-Some.line, c.in-Some.size) = c.in-Some.is in
    let within : c.in-Some.size ≤ length c.rest_from-rest.result.now = rw was at c.in_ok-line.ensures.within in
    let some : 0 < c.in-Some.size = rw was at c.in_ok-line.ensures.some in
    let more = one_more ls c.args.bytes.now c.rest_from-rest.result.now c.loop-at.at c.in-Some.size c.is_first-first.result c.in-Some.line c.in_ok-line.field-0 c.loop-at.invariant.front c.rest_from-rest.ensures first c.in_ok-line.ensures.next was in
    let F : List Line → Type 0 = λ v. Front true c.args.bytes.now v (drop (c.loop-at.at + c.in-Some.size) c.args.bytes.now) in
    record {
      within = omega (arith, within, some, ap length c.rest_from-rest.ensures, length-drop c.loop-at.at c.args.bytes.now, c.loop-at.invariant.within);
      front = subst F (sym c.in_ok-push-in-Some.ensures.items) more;
      count = omega (arith, within, some, c.in_ok-push-in-Some.ensures.len, c.loop-at.invariant.count);
    }

pub returns-in-None : goal.returns-in-None
returns-in-None c =
    let ls = c.loop-at.lines.items in
    let first : c.is_first-first.result ≡ is_none ls = c.is_first-first.ensures ∙ ap is_none c.deref.ensures.value in
    let n : c.len.result + 1 ≡ length ls + 1 = ap (λ v. v + 1) (c.len.ensures ∙ sym c.deref.ensures.len ∙ ap length c.deref.ensures.value) in
    one_stops ls c.args.bytes.now c.rest_from-rest.result.now c.loop-at.at (c.len.result + 1) c.is_first-first.result c.in_ok-line.field-0 c.loop-at.invariant.front c.loop-at-test.true c.rest_from-rest.ensures first c.in_ok-line.ensures.next c.in-None.is n
