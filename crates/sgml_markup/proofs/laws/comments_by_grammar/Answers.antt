use Rattle.sgml_markup.proofs.Comments.{found-comments, spelled-comments}
use Rattle.sgml_delim.specs.declared.ends.Inside.TheVariants.{Between}
use Rattle.sgml_markup.proofs.laws.comments_by_grammar.Goals as goal

pub returns : goal.returns
returns c = λ bytes. (λ e. found-comments Between bytes e, λ h. spelled-comments bytes h)
