use Rattle.std.proofs.Common.{◌≡◌, ◌||◌, ap, sym, ◌∙◌, true, false, Bool}
use Rattle.sgml_catalog.specs.Keys.{Sought, key_of, same_key, is_sought}
use Rattle.sgml_catalog.proofs.Noted.{noted_both, over_yes}
use Rattle.sgml_catalog.proofs.noting.note_name.Goals as goal

pub returns-in_ok-note_key-2 : goal.returns-in_ok-note_key-2
returns-in_ok-note_key-2 c =
    let k : Sought = key_of c.in_ok-key_for.field-0 in
    let l : Sought = key_of c.in_ok-key_for-2.field-0 in
    let one : Sought = (c.args.sort, false, c.args.name.now) in
    let two : Sought = (c.args.sort, true, c.args.name.now) in
    let same : (q : Sought) → (same_key q k || same_key q l) ≡ is_sought c.args.sort c.args.over c.args.name.now q = λ q.
    ap (λ (x : Sought). same_key q x || same_key q l) {x = k} {y = one} c.in_ok-key_for.ensures
    ∙ (ap (λ (x : Sought). same_key q one || same_key q x) {x = l} {y = two} c.in_ok-key_for-2.ensures
    ∙ (over_yes c.args.sort c.args.name.now q ∙ ap (λ (o : Bool). is_sought c.args.sort o c.args.name.now q) (sym c.if-over.true))) in
    noted_both c.args.index.now c.note_key.new.index c.note_key-then-over.new.index (λ q. same_key q k) (λ q. same_key q l) (is_sought c.args.sort c.args.over c.args.name.now) c.args.number
    c.in_ok-note_key.ensures c.in_ok-note_key-2.ensures same
