use Rattle.std.proofs.Common.{None}
use Rattle.sgml_markup.proofs.Spelling.{found, spelled-ends}
use Rattle.sgml_markup.proofs.laws.tags_end_by_grammar.Goals as goal

pub returns : goal.returns
returns c = λ shorttag bytes n. (λ e. found shorttag None bytes n e, λ h. spelled-ends shorttag bytes n h)
