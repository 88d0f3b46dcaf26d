-- Which declarations are refused, and the syntax of the others.
use Rattle.std.specs.Prelude.{ℕ, Bool, List, Option, Some, None, codes, nat_lt, ◌==◌, ◌||◌, ◌&&◌, if◌then◌else◌, Result, Ok, Err, ◌≤◌}
use Rattle.sgml_syntax.specs.declared.syntax.Syntax.{Syntax}
use Rattle.sgml_syntax.specs.declared.syntax.Quantities.{Quantities}
use Rattle.sgml_sgmldecl.specs.declared.feature.Feature.{Feature}
use Rattle.sgml_sgmldecl.specs.declared.feature.Feature.TheVariants as f
use Rattle.sgml_sgmldecl.specs.declared.feature.DeclError.{DeclError}
use Rattle.sgml_sgmldecl.specs.declared.feature.DeclError.TheVariants as errors
use Rattle.sgml_sgmldecl.specs.declared.heard.Heard.{Heard}
use Rattle.sgml_sgmldecl.specs.declared.heard.Limit.{Limit}
use Rattle.sgml_sgmldecl.specs.declared.heard.Limits.{Limits}
use Rattle.sgml_sgmldecl.specs.declared.heard.Quantity.{Quantity}
use Rattle.sgml_sgmldecl.specs.declared.heard.Quantity.TheVariants as q
use Rattle.sgml_sgmldecl.specs.declared.settling.Refused.{Refused}
use Rattle.sgml_sgmldecl.specs.declared.settling.Refused.TheVariants as r

-- the name of a quantity (13.4.8)
abbrev pub quantity_name : Quantity → List ℕ
quantity_name q.Attcnt = codes "ATTCNT"
quantity_name q.Entlvl = codes "ENTLVL"
quantity_name q.Grpcnt = codes "GRPCNT"
quantity_name q.Grpgtcnt = codes "GRPGTCNT"
quantity_name q.Grplvl = codes "GRPLVL"
quantity_name q.Litlen = codes "LITLEN"
quantity_name q.Namelen = codes "NAMELEN"
quantity_name q.Pilen = codes "PILEN"
quantity_name q.Taglvl = codes "TAGLVL"

-- the greatest number that a declaration may set (profile)
abbrev pub greatest : Quantity → ℕ
greatest q.Attcnt = 10000
greatest q.Entlvl = 1000
greatest q.Grpcnt = 10000
greatest q.Grpgtcnt = 4000
greatest q.Grplvl = 1000
greatest q.Litlen = 240000
greatest q.Namelen = 65536
greatest q.Pilen = 240000
greatest q.Taglvl = 2560

-- the number is 0 or past the greatest
abbrev pub is_out : Quantity → Limit → Bool
is_out q l = (l.number == 0) || nat_lt (greatest q) l.number

-- of two quantities that are out the one whose number comes first
abbrev pub earlier : Option (Quantity × Limit) → Quantity → Limit → Option (Quantity × Limit)
earlier None q l = if is_out q l then Some (q, l) else None
earlier (Some first) q l = if is_out q l && nat_lt l.at first.1.at then Some (q, l) else Some first

-- the first quantity in the text that is out
abbrev pub first_out : Limits → Option (Quantity × Limit)
first_out l =
    let a = earlier None q.Attcnt l.attcnt in
    let b = earlier a q.Entlvl l.entlvl in
    let c = earlier b q.Grpcnt l.grpcnt in
    let d = earlier c q.Grpgtcnt l.grpgtcnt in
    let e = earlier d q.Grplvl l.grplvl in
    let f = earlier e q.Litlen l.litlen in
    let g = earlier f q.Namelen l.namelen in
    let h = earlier g q.Pilen l.pilen in
    earlier h q.Taglvl l.taglvl

abbrev pub feature_out : Feature → Option ℕ → Option Refused → Option Refused
feature_out which None next = next
feature_out which (Some at) next = Some (r.FeatureOut which at)

abbrev pub quantity_out : Option (Quantity × Limit) → Option Refused → Option Refused
quantity_out None next = next
quantity_out (Some first) next = Some (r.QuantityOut first.0 first.1)

-- the first of these rows that holds, in this order
abbrev pub refusal_of : Heard → Option Refused
refusal_of h =
    feature_out f.Datatag h.outs.datatag
    (feature_out f.Rank h.outs.rank
    (feature_out f.Link h.outs.link
    (feature_out f.Concur h.outs.concur
    (feature_out f.Subdoc h.outs.subdoc
    (quantity_out (first_out h.limits)
    (feature_out f.Other h.outs.other None))))))

abbrev pub quantities_of : Limits → Quantities
quantities_of l = record {
  attcnt = l.attcnt.number;
  entlvl = l.entlvl.number;
  grpcnt = l.grpcnt.number;
  grpgtcnt = l.grpgtcnt.number;
  grplvl = l.grplvl.number;
  litlen = l.litlen.number;
  namelen = l.namelen.number;
  pilen = l.pilen.number;
  taglvl = l.taglvl.number;
}

-- the syntax of a declaration that tells this
abbrev pub syntax_of : Heard → Syntax
syntax_of h = record {
  omittag = h.omittag;
  shorttag = h.shorttag;
  general_fold = h.general_fold;
  entity_fold = h.entity_fold;
  names = h.names;
  shortrefs = h.shortrefs;
  quantities = quantities_of h.limits;
  appinfo = h.appinfo;
}

-- each number is that of a u32
abbrev pub AreSmall : Limits → Type 0
AreSmall l =
    (l.attcnt.number ≤ 10000) × (l.entlvl.number ≤ 1000) × (l.grpcnt.number ≤ 10000) × (l.grpgtcnt.number ≤ 4000) × (l.grplvl.number ≤ 1000)
    × (l.litlen.number ≤ 240000) × (l.namelen.number ≤ 65536) × (l.pilen.number ≤ 240000) × (l.taglvl.number ≤ 2560)

abbrev pub error_of : Refused → DeclError
error_of (r.FeatureOut which at) = errors.FeatureOut which at
error_of (r.QuantityOut q l) = errors.QuantityOut (quantity_name q) l.number l.at

-- the answer for a declaration that tells this and has so many bytes
abbrev pub answer_for : Option Refused → Heard → ℕ → Result (Syntax × ℕ) DeclError
answer_for None h n = Ok (syntax_of h, n)
answer_for (Some refused) h n = Err (error_of refused)

abbrev pub answer : Heard → ℕ → Result (Syntax × ℕ) DeclError
answer h n = answer_for (refusal_of h) h n
