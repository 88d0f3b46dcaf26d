use Rattle.std.proofs.Common.{◌≡◌, ◌≤◌, ◌-◌, length, drop, map}
use Rattle.std.specs.Str.{bytes_eq}
use Rattle.sgml_names.specs.Naming.{cased_character}
use Rattle.sgml_content_tags.proofs.names.spells.Given as goal

abbrev pub invariant-bytes : goal.invariant-bytes
invariant-bytes l = record {
  within : l.i ≤ length l.bytes;
  as_long : length l.bytes ≡ length l.name;
  same : bytes_eq (map (cased_character l.folded) l.bytes) l.name ≡ bytes_eq (map (cased_character l.folded) (drop l.i l.bytes)) (drop l.i l.name);
}

abbrev pub decreases-bytes : goal.decreases-bytes
decreases-bytes l = length l.bytes - l.i
