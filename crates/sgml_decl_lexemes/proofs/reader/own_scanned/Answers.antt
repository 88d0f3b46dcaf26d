use Rattle.std.proofs.Common.{◌≡◌, ◌+◌, ◌≤◌, ap, length, take, drop, IfSome, subst, sym, arith}
use Rattle.std.proofs.lemmas.List.{length-take-le}
use Rattle.sgml_decl_lexemes.specs.Declares.{EndsAfter}
use Rattle.sgml_decl_lexemes.proofs.Ending.{scanned-within}
use Rattle.sgml_decl_lexemes.proofs.reader.own_scanned.Goals as goal

pub overflow_add-result : goal.overflow_add-result
overflow_add-result c =
    let h = subst (λ o. IfSome o (EndsAfter c.args.names.now c.args.construct (drop c.args.at c.args.text.now))) c.in-Some.is c.requires.scanned in
    let low : c.args.at + c.in-Some.n ≤ length c.args.text.now = scanned-within c.args.names.now c.args.construct c.args.at c.args.text.now c.in-Some.n h in
    omega (arith, low, c.shared_slice_known-1)

pub slice_bounds-result-end : goal.slice_bounds-result-end
slice_bounds-result-end c =
    let h = subst (λ o. IfSome o (EndsAfter c.args.names.now c.args.construct (drop c.args.at c.args.text.now))) c.in-Some.is c.requires.scanned in
    sym (length-take-le (c.args.at + c.in-Some.n) c.args.text.now (scanned-within c.args.names.now c.args.construct c.args.at c.args.text.now c.in-Some.n h))
