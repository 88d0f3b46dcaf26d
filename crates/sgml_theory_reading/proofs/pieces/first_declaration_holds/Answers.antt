use Rattle.sgml_theory_reading.specs.Facets.{declares}
use Rattle.sgml_theory_reading.proofs.FirstDeclared.{first-type, first-list, attributes-are, first-entity, first-notation, first-map, first-use}
use Rattle.sgml_theory_reading.proofs.pieces.first_declaration_holds.Goals as goal

pub returns : goal.returns
unfolding declares
returns c = record {
  element_types = λ d ls x base n. first-type d base x n;
  attribute_lists = λ d ls x base n. first-list d base x n;
  definitions = attributes-are;
  entities = λ d ls x base space n. first-entity d base x space n;
  notations = λ d ls x base n. first-notation d base x n;
  maps = λ d ls x base n. first-map d base x n;
  uses = λ d ls x base n. first-use d base x n;
}
