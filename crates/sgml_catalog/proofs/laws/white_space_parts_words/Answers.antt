use Rattle.std.proofs.Common.{[]}
use Rattle.sgml_catalog.specs.Words.{words_after}
use Rattle.sgml_catalog.proofs.Parting.{each_has_words, one_spacing}
use Rattle.sgml_catalog.proofs.laws.white_space_parts_words.Goals as goal

pub returns-clause-some : goal.returns-clause-some
returns-clause-some c text = (words_after [] text, each_has_words text)

pub returns-clause-single : goal.returns-clause-single
returns-clause-single c = one_spacing
