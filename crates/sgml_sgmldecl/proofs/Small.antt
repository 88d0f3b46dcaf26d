-- Where no quantity is out, each number is small.
use Rattle.std.proofs.Common.{◌≡◌, ℕ, ◌≤◌, Bool, true, false, ◌||◌, ◌&&◌, ◌==◌, nat_lt, Option, Some, None, refl, ◌∙◌, if◌then◌else◌}
use Rattle.std.proofs.lemmas.Bool.{ltb-false}
use Rattle.sgml_sgmldecl.specs.declared.feature.Feature.{Feature}
use Rattle.sgml_sgmldecl.specs.declared.feature.Feature.TheVariants as f
use Rattle.sgml_sgmldecl.specs.declared.heard.Heard.{Heard}
use Rattle.sgml_sgmldecl.specs.declared.heard.Limit.{Limit}
use Rattle.sgml_sgmldecl.specs.declared.heard.Limits.{Limits}
use Rattle.sgml_sgmldecl.specs.declared.heard.Quantity.{Quantity}
use Rattle.sgml_sgmldecl.specs.declared.heard.Quantity.TheVariants as q
use Rattle.sgml_sgmldecl.specs.declared.settling.Refused.{Refused}
use Rattle.sgml_sgmldecl.specs.Refusing.{greatest, is_out, earlier, first_out, feature_out, quantity_out, refusal_of, AreSmall}

no_feature : (which : Feature) (o : Option ℕ) (next : Option Refused) → feature_out which o next ≡ None → next ≡ None
no_feature which None next is = is
no_feature which (Some at) next is = cc

no_quantity : (o : Option (Quantity × Limit)) (next : Option Refused) → quantity_out o next ≡ None → o ≡ None
no_quantity None next is = refl
no_quantity (Some first) next is = cc

within_by : (n g : ℕ) (zero past : Bool) → nat_lt g n ≡ past → (zero || past) ≡ false → n ≤ g
within_by n g true past tests is = cc
within_by n g false past tests is = ltb-false g n (tests ∙ is)

by_test : (one : Quantity × Limit) (b : Bool) → (if b then Some one else None) ≡ None → b ≡ false
by_test one true is = cc
by_test one false is = refl

never : (one other : Quantity × Limit) (b : Bool) → (if b then Some one else Some other) ≡ None → ⊥
never one other true is = cc
never one other false is = cc

none_before : (o : Option (Quantity × Limit)) (kind : Quantity) (l : Limit) → earlier o kind l ≡ None → (o ≡ None) × (l.number ≤ greatest kind)
none_before None kind l is = (refl, within_by l.number (greatest kind) (l.number == 0) (nat_lt (greatest kind) l.number) refl (by_test (kind, l) (is_out kind l) is))
none_before (Some first) kind l is = absurd (never (kind, l) first (is_out kind l && nat_lt l.at first.1.at) is)

small : (l : Limits) → first_out l ≡ None → AreSmall l
small l none =
    let i = none_before (earlier (earlier (earlier (earlier (earlier (earlier (earlier (earlier None q.Attcnt l.attcnt) q.Entlvl l.entlvl) q.Grpcnt l.grpcnt) q.Grpgtcnt l.grpgtcnt) q.Grplvl l.grplvl) q.Litlen l.litlen) q.Namelen l.namelen) q.Pilen l.pilen) q.Taglvl l.taglvl none in
    let h = none_before (earlier (earlier (earlier (earlier (earlier (earlier (earlier None q.Attcnt l.attcnt) q.Entlvl l.entlvl) q.Grpcnt l.grpcnt) q.Grpgtcnt l.grpgtcnt) q.Grplvl l.grplvl) q.Litlen l.litlen) q.Namelen l.namelen) q.Pilen l.pilen i.0 in
    let g = none_before (earlier (earlier (earlier (earlier (earlier (earlier None q.Attcnt l.attcnt) q.Entlvl l.entlvl) q.Grpcnt l.grpcnt) q.Grpgtcnt l.grpgtcnt) q.Grplvl l.grplvl) q.Litlen l.litlen) q.Namelen l.namelen h.0 in
    let f = none_before (earlier (earlier (earlier (earlier (earlier None q.Attcnt l.attcnt) q.Entlvl l.entlvl) q.Grpcnt l.grpcnt) q.Grpgtcnt l.grpgtcnt) q.Grplvl l.grplvl) q.Litlen l.litlen g.0 in
    let e = none_before (earlier (earlier (earlier (earlier None q.Attcnt l.attcnt) q.Entlvl l.entlvl) q.Grpcnt l.grpcnt) q.Grpgtcnt l.grpgtcnt) q.Grplvl l.grplvl f.0 in
    let d = none_before (earlier (earlier (earlier None q.Attcnt l.attcnt) q.Entlvl l.entlvl) q.Grpcnt l.grpcnt) q.Grpgtcnt l.grpgtcnt e.0 in
    let c = none_before (earlier (earlier None q.Attcnt l.attcnt) q.Entlvl l.entlvl) q.Grpcnt l.grpcnt d.0 in
    let b = none_before (earlier None q.Attcnt l.attcnt) q.Entlvl l.entlvl c.0 in
    let a = none_before None q.Attcnt l.attcnt b.0 in
    (a.1, b.1, c.1, d.1, e.1, f.1, g.1, h.1, i.1)

pub accepted_small : (h : Heard) → refusal_of h ≡ None → AreSmall h.limits
accepted_small h none =
    let one = no_feature f.Datatag h.outs.datatag _ none in
    let two = no_feature f.Rank h.outs.rank _ one in
    let three = no_feature f.Link h.outs.link _ two in
    let four = no_feature f.Concur h.outs.concur _ three in
    let five = no_feature f.Subdoc h.outs.subdoc _ four in
    small h.limits (no_quantity (first_out h.limits) _ five)
