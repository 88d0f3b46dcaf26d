use Rattle.std.proofs.Common.{◌≡◌, ◌<◌, ◌∙◌, arith, sym, ap, true, length, List, ℕ, Ok}
use Rattle.std.specs.List.{list_all}
use Rattle.sgml_attr.specs.declared.value.AttrValue.TheVariants.{Tokens}
use Rattle.sgml_starts.specs.Plain.{is_listed}
use Rattle.sgml_starts.proofs.Several.{listed-is}
use Rattle.sgml_starts.proofs.listed.listed_value.Goals as goal

pub returns-else-not-are_listed : goal.returns-else-not-are_listed
returns-else-not-are_listed c = λ t.
    let s = c.args.syntax.now in
    let d = c.args.declared.now in
    let names = c.in-Ok.names.items in
    let all : list_all (is_listed s d) names ≡ true =
    ap (λ (l : List (List ℕ)). list_all (is_listed s d) l) (sym c.deref.ensures.value) ∙ sym c.are_listed.ensures ∙ c.if-not-are_listed.false in
    let some : 0 < length names = grind (arith, c.if-is_empty.false, c.is_empty.ensures) in
    listed-is s d c.args.bytes.now names c.in-Ok.ensures some all t ∙ ap (λ (n : List (List ℕ)). Ok (Tokens n)) (sym c.of.ensures)
