use Rattle.std.proofs.Common.{◌≡◌, ◌<◌, ◌∙◌, ◌-◌, ◌+◌, sym, ap, subst, arith, length, length-take, drop, take, List, ℕ, Option, Some}
use Rattle.std.specs.Prelude.{slice_get, IfSome}
use Rattle.sgml_attr.specs.Matching.{attributes_of}
use Rattle.sgml_starts.specs.Numbers.{AreNamed}
use Rattle.sgml_starts.proofs.Numbered.{named-front, named-more, named-behind}
use Rattle.sgml_starts.proofs.matching.with_second.Goals as goal

pub returns : goal.returns
returns c =
    let specs = c.args.specs.now in
    let k = c.args.second in
    let syntax = c.args.syntax.now in
    let xs = c.args.definitions.now in
    subst (λ (l : List (Option ℕ)). AreNamed (length xs) (attributes_of syntax xs specs) l) (sym c.in_ok-push.ensures.items)
    (named-more syntax xs specs (length xs) k c.in_ok-named.named.items c.first_of.result
    (named-front syntax xs specs (length xs) k c.in_ok-named.named.items c.in_ok-named.ensures.named)
    (c.in_ok-named.ensures.many ∙ omega (arith, c.requires, length-take k specs)) c.requires
    (λ i e.
    let there : slice_get c.in_ok-last.last.items 0 ≡ Some (Some i) =
    ap (λ (l : List (Option ℕ)). slice_get l 0) (sym c.deref.ensures.value) ∙ subst (λ (o : Option ℕ). IfSome o (λ i. slice_get c.deref.result.now 0 ≡ Some (Some i))) e c.first_of.ensures in
    (named-behind syntax xs specs k ((k + 1) - k) (Some i) (c.in_ok-last.ensures.named.each i 0 there), c.in_ok-last.ensures.named.within i 0 there)))
