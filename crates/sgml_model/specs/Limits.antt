-- How large the groups of a content model are (ISO 8879, 11.2.4 and 13.4.8).
use Rattle.std.specs.Prelude.{ℕ, suc, ◌+◌, max, nat_lt, Option, Some, None, if◌then◌else◌}
use Rattle.sgml_model.specs.Term.{Term, empty, name, pcdata, seq, or, and, opt, plus, rep, member, round, Terms, none, more}
use Rattle.sgml_model.specs.declared.token.GroupLimits.{GroupLimits}
use Rattle.sgml_model.specs.declared.token.Which.{Which}
use Rattle.sgml_model.specs.declared.token.Which.TheVariants.{Count, Total, Level}

abbrev pub count : Terms → ℕ
count none = 0
count (more m ms) = suc (count ms)

-- the members of the group that has most (GRPCNT)
abbrev mutual
  pub widest : Term → ℕ
  widest empty = 0
  widest (name k n) = 0
  widest (pcdata k) = 0
  widest (seq ms) = max (count ms) (widest_of ms)
  widest (or ms) = max (count ms) (widest_of ms)
  widest (and ms) = max (count ms) (widest_of ms)
  widest (opt m) = widest m
  widest (plus m) = widest m
  widest (rep m) = widest m
  widest (member r left) = 0
  widest (round r m) = 0

  pub widest_of : Terms → ℕ
  widest_of none = 0
  widest_of (more m ms) = max (widest m) (widest_of ms)

-- the members of all groups together, a group in a group being one (GRPGTCNT)
abbrev mutual
  pub total : Term → ℕ
  total empty = 0
  total (name k n) = 0
  total (pcdata k) = 0
  total (seq ms) = count ms + total_of ms
  total (or ms) = count ms + total_of ms
  total (and ms) = count ms + total_of ms
  total (opt m) = total m
  total (plus m) = total m
  total (rep m) = total m
  total (member r left) = 0
  total (round r m) = 0

  pub total_of : Terms → ℕ
  total_of none = 0
  total_of (more m ms) = total m + total_of ms

-- how many groups are within each other, the outermost among them (GRPLVL)
abbrev mutual
  pub level : Term → ℕ
  level empty = 0
  level (name k n) = 0
  level (pcdata k) = 0
  level (seq ms) = suc (level_of ms)
  level (or ms) = suc (level_of ms)
  level (and ms) = suc (level_of ms)
  level (opt m) = level m
  level (plus m) = level m
  level (rep m) = level m
  level (member r left) = 0
  level (round r m) = 0

  pub level_of : Terms → ℕ
  level_of none = 0
  level_of (more m ms) = max (level m) (level_of ms)

-- the first of the limits that these numbers pass
abbrev pub first_passed : GroupLimits → ℕ → ℕ → ℕ → Option Which
first_passed limits w t l =
    if nat_lt limits.count w then Some Count
    else if nat_lt limits.total t then Some Total
    else if nat_lt limits.level l then Some Level
    else None

-- the first limit that a model passes, if it passes one
abbrev pub passed : GroupLimits → Term → Option Which
passed limits x = first_passed limits (widest x) (total x) (level x)
