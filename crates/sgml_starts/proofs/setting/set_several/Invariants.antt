use Rattle.std.proofs.Common.{◌≡◌, length, take}
use Rattle.sgml_starts.specs.Setting.{SetsAll}
use Rattle.sgml_starts.proofs.setting.set_several.Given as goal

abbrev pub invariant-loop-attribute : goal.invariant-loop-attribute
invariant-loop-attribute l = SetsAll l.currents l.after l.list (take l.attribute-index l.attributes) l.values
