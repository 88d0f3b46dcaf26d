use Rattle.std.proofs.Common.{◌≡◌, ◌≤◌, ◌∙◌, sym, ap, arith, take, set, List, Bool, true, if◌then◌else◌}
use Rattle.sgml_starts.specs.Noted.{Noted}
use Rattle.sgml_starts.proofs.Flagged.{no-more, take-set}
use Rattle.sgml_starts.proofs.flags.Flags.note.Goals as goal

pub returns-else-self-gt-FEW : goal.returns-else-self-gt-FEW
returns-else-self-gt-FEW c =
    let n = c.self.inside.many in
    let few = c.self.inside.few in
    let more = c.self.inside.more.items in
    let i = c.args.i in
    let l : n ≤ 16 = omega (arith, c.if-self-gt-FEW.false) in
    ap (λ (b : Bool). if b then more else take n (set few i true)) (no-more n l)
    ∙ take-set n few i true
    ∙ ap (λ (xs : List Bool). set xs i true) (sym (ap (λ (b : Bool). if b then more else take n few) (no-more n l)))
    ∙ ap (λ (v : Noted). set v.items i true) c.self.view_is
