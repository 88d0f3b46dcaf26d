use Rattle.std.proofs.Common.{sym, ◌∙◌}
use Rattle.sgml_idents.proofs.Unnamed.{none_identify}
use Rattle.sgml_idents.proofs.idents.Idents.note_values.Goals as goal

pub returns-then-not-some_identify : goal.returns-then-not-some_identify
returns-then-not-some_identify c = none_identify c.args.self.now c.args.place c.args.definitions.now c.args.values.now (sym c.some_identify.ensures ∙ c.if-not-some_identify.true)
