use Rattle.std.proofs.Common.{◌≡◌, ◌-◌, ◌||◌, length, drop}
use Rattle.std.specs.List.{list_any}
use Rattle.sgml_markup.specs.declared.kinds.TagState.TheVariants.{ElementName}
use Rattle.sgml_markup.specs.Tags.{tag_parts, is_tag, Behind, wrong_number_in, wrong_length_in}
use Rattle.sgml_markup.specs.Forms.{parts_of, unclosed}
use Rattle.sgml_markup.proofs.tags.walk_tag.Given as goal

abbrev pub invariant-bytes : goal.invariant-bytes
invariant-bytes l = record {
  behind : Behind l.at l.walk.state;
  form : is_tag l.syntax l.closing l.start (ElementName l.start) (drop l.start (unclosed l.markup))
      ≡ is_tag l.syntax l.closing l.at l.walk.state (drop l.at l.body);
  number : list_any (wrong_number_in l.syntax l.markup) (parts_of l.syntax l.closing l.start l.markup)
      ≡ (l.walk.wrong_number || list_any (wrong_number_in l.syntax l.markup) (tag_parts l.syntax l.closing l.at l.walk.state (drop l.at l.body)));
  long : list_any (wrong_length_in l.syntax l.markup) (parts_of l.syntax l.closing l.start l.markup)
      ≡ (l.walk.wrong_length || list_any (wrong_length_in l.syntax l.markup) (tag_parts l.syntax l.closing l.at l.walk.state (drop l.at l.body)));
}

abbrev pub decreases-bytes : goal.decreases-bytes
decreases-bytes l = length l.body - l.at
