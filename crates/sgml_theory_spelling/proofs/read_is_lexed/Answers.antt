use Rattle.std.proofs.Common.{refl}
use Rattle.sgml_theory_spelling.proofs.Bridge.{read-is-lexed, refused-is-lexed}
use Rattle.sgml_theory_spelling.proofs.Asked.{asked-is-spelled}
use Rattle.sgml_theory_spelling.proofs.read_is_lexed.Goals as goal

pub returns : goal.returns
returns c = record { lexemes = read-is-lexed; refusal = refused-is-lexed; asked = asked-is-spelled; ends = λ s ended bytes. refl }
