-- The worked instance with short references: each fact of it is computed.
use Rattle.std.proofs.Common.{◌≡◌, inl, true, false, [], refl, sym, ◌∙◌, subst, append-nil}
use Rattle.std.specs.Prelude.{codes}
use Rattle.sgml_theory_values.specs.model.Reading.{run}
use Rattle.sgml_theory_values.specs.records.Facts.{noted}
use Rattle.sgml_theory_values.specs.theory_reading.Types.{element_type, attributes, has_conref, has_required, type_of, map_of_type, entity}
use Rattle.sgml_theory_values.specs.theory_reading.Facets.{effect, is_omitted, is_omitted_start, is_start, is_finish, ended_type, token, items_of, turn, border, map_set, specified, stage_after, declares, subset_named}
use Rattle.sgml_theory_values.specs.theory_reading.Context.{context_after}
use Rattle.sgml_theory_values.specs.theory_reading.Omission.{allowed, finished}
use Rattle.sgml_theory_values.specs.theory_reading.State.{after_piece}
use Rattle.sgml_theory_values.specs.theory_reading.Characters.{has_text, ordinary, kind_noted, ends_at_once}
use Rattle.sgml_theory_values.specs.theory_reading.Events.{shown, events_of_run}
use Rattle.sgml_theory_values.specs.theory_reading.Outcome.{state_after}
use Rattle.sgml_theory_values.specs.theory_spelling.Attributes.{unvalued, valued}
use Rattle.sgml_theory_values.specs.theory_spelling.Places.{map_at, is_map}
use Rattle.sgml_theory_values.specs.theory_spelling.Spelled.{forms}
use Rattle.sgml_theory_values.specs.full.declared.inside.Inside.TheVariants as inside
use Rattle.sgml_theory_full.specs.Named.{AllAre, IsGeneralName, IsWritten}
use Rattle.sgml_theory_full.specs.Spellings.{text_of, spellings}
use Rattle.sgml_theory_full.specs.Conforming.{InContent, EventsMayBe, IsOver}
use Rattle.sgml_theory_full.specs.Following.{AllHold, Follows, ReadMayBeWritten}
use Rattle.sgml_theory_full.specs.Worked.{D}
use Rattle.sgml_theory_full.specs.WorkedStrings.{mapped_type, mapped_border, its_start, its_strings, string_events, StringsAreWritten}
use Rattle.sgml_theory_full.proofs.Plain.{true-false}
use Rattle.sgml_theory_full.proofs.Instances.{over-written}
use Rattle.sgml_theory_full.proofs.Worked.{small, no-values, end-holds}

mapped-follows : Follows mapped_border mapped_border
mapped-follows = record { plain = record { over = refl; no_section = refl; no_net = tt; no_setting = tt; none_waits = tt }; quiet = tt; like = refl }

mapped-force : is_map (map_at (after_piece its_start mapped_border)) ≡ true
unfolding map_at map_of_type effect is_omitted is_omitted_start is_start is_finish ended_type token items_of turn border map_set specified stage_after declares subset_named context_after after_piece
mapped-force = refl

strings-hold : AllHold mapped_border its_strings
unfolding run noted effect is_omitted is_omitted_start is_start is_finish ended_type token items_of turn border map_set specified stage_after declares subset_named element_type attributes has_conref has_required type_of entity context_after allowed finished has_text ordinary kind_noted ends_at_once shown after_piece unvalued valued
strings-hold = (
  record {
    stands = record { known = refl; fits = refl; room = small; mode = refl; proper_is = refl; noted = refl };
    has_values = no-values mapped_border D [] _ true false refl (λ e a. refl) refl;
    quiet = λ e. true-false e;
  },
  (
    (refl, (record { stands = record { allowed_there = refl; text = refl }; mode = inl refl }, refl)),
    (
      (refl, record { noted = refl; within = λ e. (_, _, refl); may = λ e. record { stands = record { allowed_there = refl; text = refl }; mode = inl refl } }),
      (end-holds _ _ refl refl refl (inl (inl refl)), tt),
    ),
  ),
)

strings-end : IsOver (state_after mapped_border its_strings)
unfolding run noted effect is_omitted is_omitted_start is_start is_finish ended_type token items_of turn border map_set specified stage_after declares subset_named element_type attributes has_conref has_required type_of entity context_after allowed finished has_text kind_noted ends_at_once shown after_piece unvalued valued
strings-end = record { closed = refl; begun = refl }

strings-told : events_of_run forms mapped_border its_strings ≡ string_events
unfolding run noted effect is_omitted is_omitted_start is_start is_finish ended_type token items_of turn border map_set specified stage_after declares subset_named element_type attributes has_conref has_required type_of entity context_after allowed finished has_text kind_noted ends_at_once shown after_piece unvalued valued
strings-told = refl

mapped-name : IsGeneralName mapped_type.syntax D
mapped-name = record { is_name = refl; folded = refl; short = refl }

strings-written : AllAre (IsWritten mapped_type) string_events
strings-written = ((mapped-name, tt), (tt, (mapped-name, tt)))

strings-text : text_of (spellings mapped_type inside.Mixed string_events) ≡ codes "<D>y</D>"
unfolding run noted effect is_omitted is_omitted_start is_start is_finish ended_type token items_of turn border map_set specified stage_after declares subset_named element_type attributes has_conref has_required type_of entity context_after allowed finished has_text kind_noted ends_at_once shown after_piece unvalued valued
strings-text = refl

pub strings-are-written : ReadMayBeWritten → StringsAreWritten
strings-are-written law =
    let all = law InContent mapped_border mapped_border its_strings (mapped-follows, tt) strings-hold (subst (AllAre (IsWritten mapped_type)) (sym strings-told) strings-written) in
    let r = over-written mapped_type all.0 (state_after mapped_border its_strings) mapped_border all.1 (events_of_run forms mapped_border its_strings) all.2 all.3 strings-end in record {
      in_force = mapped-force;
      follows = mapped-follows;
      holds = strings-hold;
      told = strings-told;
      may = subst (EventsMayBe mapped_type InContent mapped_border) (append-nil (events_of_run forms mapped_border its_strings) ∙ strings-told) (r.0.may [] refl);
      text = strings-text;
    }
