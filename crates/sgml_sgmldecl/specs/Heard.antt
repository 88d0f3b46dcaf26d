-- What the items of an SGML declaration tell of the syntax (13).
use Rattle.std.specs.Prelude.{ℕ, Bool, true, false, List, [], ◌∷◌, Option, Some, None, codes, fold, min, ◌==◌, ◌||◌, ◌+◌, ◌-◌, ◌*◌, if◌then◌else◌}
use Rattle.std.specs.Option.{option_or}
use Rattle.std.specs.Str.{bytes_eq}
use Rattle.sgml_sgmldecl.specs.declared.feature.Feature.{Feature}
use Rattle.sgml_sgmldecl.specs.declared.feature.Feature.TheVariants as f
use Rattle.sgml_sgmldecl.specs.declared.row.Tells.{Tells}
use Rattle.sgml_sgmldecl.specs.declared.row.Tells.TheVariants as t
use Rattle.sgml_sgmldecl.specs.declared.heard.Heard.{Heard}
use Rattle.sgml_sgmldecl.specs.declared.heard.Outs.{Outs}
use Rattle.sgml_sgmldecl.specs.declared.heard.Limit.{Limit}
use Rattle.sgml_sgmldecl.specs.declared.heard.Limits.{Limits}
use Rattle.sgml_sgmldecl.specs.declared.heard.Quantity.{Quantity}
use Rattle.sgml_sgmldecl.specs.declared.heard.Quantity.TheVariants as q
use Rattle.sgml_text.specs.NameCharacters.{reference_names}

-- a quantity without an entry has the value of the reference quantity set
abbrev pub unset : ℕ → Limit
unset n = record { number = n; at = 0 }

-- the reference quantity set (13.4.8)
abbrev pub reference_limits : Limits
reference_limits = record {
  attcnt = unset 40;
  entlvl = unset 16;
  grpcnt = unset 32;
  grpgtcnt = unset 96;
  grplvl = unset 16;
  litlen = unset 240;
  namelen = unset 8;
  pilen = unset 240;
  taglvl = unset 24;
}

abbrev pub none_out : Outs
none_out = record { datatag = None; rank = None; link = None; concur = None; subdoc = None; other = None }

-- the reference concrete syntax (13.4), which a declaration changes where it declares another one
abbrev pub start : Heard
start = record {
  omittag = false;
  shorttag = false;
  general_fold = true;
  entity_fold = false;
  shortrefs = true;
  names = reference_names;
  limits = reference_limits;
  named = None;
  outs = none_out;
  appinfo = None;
}

-- the first place of each feature holds
abbrev pub noted : Feature → ℕ → Outs → Outs
noted f.Datatag at o = record o { datatag = option_or o.datatag (Some at) }
noted f.Rank at o = record o { rank = option_or o.rank (Some at) }
noted f.Link at o = record o { link = option_or o.link (Some at) }
noted f.Concur at o = record o { concur = option_or o.concur (Some at) }
noted f.Subdoc at o = record o { subdoc = option_or o.subdoc (Some at) }
noted f.Other at o = record o { other = option_or o.other (Some at) }

-- the quantities that are counted, by their names
abbrev pub quantity_of : List ℕ → Option Quantity
quantity_of name =
    if bytes_eq name (codes "ATTCNT") then Some q.Attcnt
    else if bytes_eq name (codes "ENTLVL") then Some q.Entlvl
    else if bytes_eq name (codes "GRPCNT") then Some q.Grpcnt
    else if bytes_eq name (codes "GRPGTCNT") then Some q.Grpgtcnt
    else if bytes_eq name (codes "GRPLVL") then Some q.Grplvl
    else if bytes_eq name (codes "LITLEN") then Some q.Litlen
    else if bytes_eq name (codes "NAMELEN") then Some q.Namelen
    else if bytes_eq name (codes "PILEN") then Some q.Pilen
    else if bytes_eq name (codes "TAGLVL") then Some q.Taglvl
    else None

-- of two entries of one quantity the last holds
abbrev pub limit_set : Limits → Option Quantity → ℕ → ℕ → Limits
limit_set l None n at = l
limit_set l (Some q.Attcnt) n at = record l { attcnt = record { number = n; at = at } }
limit_set l (Some q.Entlvl) n at = record l { entlvl = record { number = n; at = at } }
limit_set l (Some q.Grpcnt) n at = record l { grpcnt = record { number = n; at = at } }
limit_set l (Some q.Grpgtcnt) n at = record l { grpgtcnt = record { number = n; at = at } }
limit_set l (Some q.Grplvl) n at = record l { grplvl = record { number = n; at = at } }
limit_set l (Some q.Litlen) n at = record l { litlen = record { number = n; at = at } }
limit_set l (Some q.Namelen) n at = record l { namelen = record { number = n; at = at } }
limit_set l (Some q.Pilen) n at = record l { pilen = record { number = n; at = at } }
limit_set l (Some q.Taglvl) n at = record l { taglvl = record { number = n; at = at } }

-- the number that decimal digits are (9.3)
abbrev pub number_value : List ℕ → ℕ
number_value digits = fold (λ n b. n * 10 + (b - 48)) 0 digits

-- 2 ^ 64 - 1, as which a greater number is read (profile)
abbrev pub greatest_number : ℕ
greatest_number = 18446744073709551615

abbrev pub contains : List ℕ → ℕ → Bool
contains [] b = false
contains (w ∷ ws) b = (w == b) || contains ws b

-- which of `-`, `.`, `_` and `:` a naming literal has: those alone are added to letters and digits (13.4.5)
abbrev pub marks_of : List ℕ → List Bool
marks_of word = contains word 45 ∷ contains word 46 ∷ contains word 95 ∷ contains word 58 ∷ []

-- the public identifier of the reference concrete syntax (13.4.1), or its older spelling (profile)
abbrev pub is_reference : List ℕ → Bool
is_reference word = bytes_eq word (codes "ISO 8879:1986//SYNTAX Reference//EN") || bytes_eq word (codes "ISO 8879-1986//SYNTAX Reference//EN")

-- that of the core concrete syntax, which has no short references
abbrev pub is_core : List ℕ → Bool
is_core word = bytes_eq word (codes "ISO 8879:1986//SYNTAX Core//EN") || bytes_eq word (codes "ISO 8879-1986//SYNTAX Core//EN")

abbrev pub spelled_public : ℕ → List ℕ → Heard → Heard
spelled_public at word h =
    if is_reference word then record h { shortrefs = true }
    else if is_core word then record h { shortrefs = false }
    else record h { outs = noted f.Other at h.outs }

-- what an item at this place tells, whose text is this
abbrev pub tell : Tells → ℕ → List ℕ → Heard → Heard
tell t.Nothing at word h = h
tell (t.Out feature) at word h = record h { outs = noted feature at h.outs }
tell (t.Omittag on) at word h = record h { omittag = on }
tell (t.Shorttag on) at word h = record h { shorttag = on }
tell (t.GeneralFold on) at word h = record h { general_fold = on }
tell (t.EntityFold on) at word h = record h { entity_fold = on }
tell (t.Shortrefs on) at word h = record h { shortrefs = on }
tell t.StartMarks at word h = record h { names = record h.names { start = marks_of word } }
tell t.MoreMarks at word h = record h { names = record h.names { more = marks_of word } }
tell t.QuantityName at word h = record h { named = quantity_of word }
tell t.QuantityNumber at word h = record h { limits = limit_set h.limits h.named (min (number_value word) greatest_number) at }
tell t.PublicSyntax at word h = spelled_public at word h
tell t.Appinfo at word h = record h { appinfo = Some word }
