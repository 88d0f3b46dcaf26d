use Rattle.std.proofs.Common.{◌≡◌, map}
use Rattle.sgml_dtd_attlists.specs.Interpreted.{definition_in}
use Rattle.sgml_dtd_attlists.proofs.interpreting.definitions_in.Given as goal

abbrev pub invariant-loop-form : goal.invariant-loop-form
invariant-loop-form l = l.definitions.items ≡ map (definition_in l.syntax) l.yielded
