use Rattle.sgml_delim.specs.declared.ends.Inside.TheVariants.{Between}
use Rattle.sgml_markup.proofs.Declaring.{spelled-declaration}
use Rattle.sgml_markup.proofs.Declared.{found-declaration}
use Rattle.sgml_markup.proofs.laws.declarations_end_by_grammar.Goals as goal

pub returns : goal.returns
returns c = λ names ender bytes n.
    (λ e. found-declaration names ender Between bytes n e, λ h. spelled-declaration names ender bytes n h)
