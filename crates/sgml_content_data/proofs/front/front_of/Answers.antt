use Rattle.std.proofs.Common.{refl, sym, subst, ◌<◌, ◌≤◌, length}
use Rattle.sgml_content_data.proofs.Fronts.{front-some, front-fits}
use Rattle.sgml_content_data.proofs.front.front_of.Goals as goal

pub returns : goal.returns
returns c = record {
  byte = refl;
  role = c.of_character-role.ensures;
  count = c.front_length.ensures;
  some = subst (λ n. 0 < n) (sym c.front_length.ensures) (front-some c.args.around c.args.bytes.now c.of_character-role.result c.requires c.of_character-role.ensures);
  within = subst (λ n. n ≤ length c.args.bytes.now) (sym c.front_length.ensures) (front-fits c.args.around c.args.bytes.now c.of_character-role.result c.requires);
}
