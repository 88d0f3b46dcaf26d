use Rattle.std.proofs.Common.{◌≡◌, ◌<◌, length, get_or, rules, sym, ap, ◌∙◌, Some, None, arith, find, List, ℕ}
use Rattle.std.specs.List.{position_from}
use Rattle.sgml_catalog.specs.declared.entry.Entry.{Entry}
use Rattle.sgml_catalog.specs.Keys.{Sought, holds_for, found}
use Rattle.sgml_catalog.proofs.Noted.{stands_at, stands_nowhere}
use Rattle.sgml_catalog.proofs.catalog.Catalog.find.Goals as goal

pub index-requires : goal.index-requires
index-requires c =
    let q : Sought = (c.args.sort, c.args.over, c.args.name.now) in
    let here : position_from (holds_for q) 0 c.self.inside.entries.items ≡ Some c.in-Some.number =
    sym (c.self.invariant q) ∙ (ap (found c.self.inside.index) (sym c.in_ok-key.ensures) ∙ (sym c.number.ensures ∙ c.in-Some.is)) in
    let s = stands_at (holds_for q) 0 c.in-Some.number c.self.inside.entries.items here in
    let within : s.place < length c.self.inside.entries.items = s.within in
    let at = s.number in
    let below : c.in-Some.number < length c.self.inside.entries.items = omega arith in
    search rules

pub returns-in-Some : goal.returns-in-Some
returns-in-Some c =
    let q : Sought = (c.args.sort, c.args.over, c.args.name.now) in
    let here : position_from (holds_for q) 0 c.self.inside.entries.items ≡ Some c.in-Some.number =
    sym (c.self.invariant q) ∙ (ap (found c.self.inside.index) (sym c.in_ok-key.ensures) ∙ (sym c.number.ensures ∙ c.in-Some.is)) in
    let s = stands_at (holds_for q) 0 c.in-Some.number c.self.inside.entries.items here in
    let e = c.index.result.now in
    let at : c.in-Some.number ≡ s.place = omega (arith, s.number) in
    ap Some (c.index.ensures ∙ ap (λ (k : ℕ). get_or c.self.inside.entries.items k e) at) ∙ (s.stands e ∙ ap (λ (es : List Entry). find (holds_for q) es) c.self.view_is)

pub returns : goal.returns
returns c =
    let q : Sought = (c.args.sort, c.args.over, c.args.name.now) in
    let nowhere : position_from (holds_for q) 0 c.self.inside.entries.items ≡ None =
    sym (c.self.invariant q) ∙ (ap (found c.self.inside.index) (sym c.in_ok-key.ensures) ∙ (sym c.number.ensures ∙ c.in-None.is)) in
    stands_nowhere (holds_for q) 0 c.self.inside.entries.items nowhere ∙ ap (λ (es : List Entry). find (holds_for q) es) c.self.view_is
