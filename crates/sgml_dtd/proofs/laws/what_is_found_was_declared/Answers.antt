use Rattle.std.proofs.Common.{◌∙◌, ap, [], List, ℕ, option_and_then}
use Rattle.sgml_entity.specs.declared.kinds.Entity.{Entity}
use Rattle.sgml_entity.specs.Entities.{number_of, entity_at}
use Rattle.sgml_dtd.specs.Doctypes.{nothing}
use Rattle.sgml_dtd.specs.Laws.{doctype_of, entities_in, first_entity_of}
use Rattle.sgml_dtd.proofs.AfterAll.{elements_after, lists_after, notations_after, maps_after, uses_after, holding_after}
use Rattle.sgml_dtd.proofs.FirstEntity.{found_is_first, first_is_kept}
use Rattle.sgml_dtd.proofs.laws.what_is_found_was_declared.Goals as goal

pub returns : goal.returns
returns c syntax ps = record {
  elements = elements_after (nothing syntax) ps;
  lists = lists_after (nothing syntax) ps;
  notations = notations_after (nothing syntax) ps;
  maps = maps_after (nothing syntax) ps;
  uses = uses_after (nothing syntax) ps;
  entities = λ space name.
      found_is_first (doctype_of syntax ps).entities space name
      ∙ ap (λ (es : List Entity). first_entity_of es space name) (holding_after (nothing syntax) ps)
      ∙ first_is_kept [] (entities_in syntax ps) space name;
}
