use Rattle.std.proofs.Common.{◌≡◌, ℕ, ◌+◌, ◌++◌, List, length, sym, ap, ◌∙◌, arith, length-append, true}
use Rattle.std.specs.List.{count_by}
use Rattle.sgml_selfcheck.specs.Counts.{is_line_end, elements_in, begins_after}
use Rattle.sgml_selfcheck.proofs.Counted.{elements_in-append, begins_after-append, count_by-append, elements_in-le-length}
use Rattle.sgml_selfcheck.proofs.tally.TallySink.write.Goals as goal

pub overflow_add-self : goal.overflow_add-self
overflow_add-self c =
    let s = c.args.self.now in
    omega (arith, s.elements_counted, s.bytes_counted, elements_in-le-length true s.taken.numbers, c.elements_in.ensures.few, c.in-Some.ensures.0)

pub invariant_of-drop : goal.invariant_of-drop
invariant_of-drop c =
    let s = c.args.self.now in
    let old : List ℕ = s.taken.numbers in
    let more : List ℕ = c.args.bytes.now in
    let is : c.appended.result.numbers ≡ old ++ more = c.appended.ensures in
    let after : begins_after true old ≡ s.begins = sym s.line_begins in
    record {
      elements_counted = ap (λ n. n + c.elements_in.result) s.elements_counted ∙ ap (λ n. elements_in true old + n) (c.elements_in.ensures.value ∙ ap (λ t. elements_in t more) s.line_begins) ∙ sym (elements_in-append true old more) ∙ ap (elements_in true) (sym is);
      lines_counted = ap (λ n. n + c.lines_in.result) s.lines_counted ∙ ap (λ n. count_by is_line_end old + n) c.lines_in.ensures.value ∙ sym (count_by-append old more) ∙ ap (count_by is_line_end) (sym is);
      bytes_counted = c.in-Some.ensures.1 ∙ ap (λ n. n + length more) s.bytes_counted ∙ sym (length-append old more) ∙ ap length (sym is);
      line_begins = c.begins_after.ensures ∙ ap (λ t. begins_after t more) s.line_begins ∙ sym (begins_after-append true old more) ∙ ap (begins_after true) (sym is);
    }
