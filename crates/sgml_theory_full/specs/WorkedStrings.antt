-- A WORKED INSTANCE WITH SHORT REFERENCES (9.4.6, 11.5, 11.6): a string that is mapped to data, and the record end, which
-- stands for itself.
use Rattle.std.specs.Prelude.{◌≡◌, true, false, List, [], ◌∷◌, codes}
use Rattle.sgml_theory_values.specs.entity.declared.kinds.Space.TheVariants.{General}
use Rattle.sgml_theory_values.specs.entity.declared.kinds.Body.TheVariants as body
use Rattle.sgml_theory_values.specs.decl_forms.declared.map.UsedMap.TheVariants as used
use Rattle.sgml_theory_values.specs.dtd.Doctypes.{Doctype}
use Rattle.sgml_theory_values.specs.theory_reading.Pieces.{Piece, Ordinary, ToData, Start, End, ShortRef, Omitted}
use Rattle.sgml_theory_values.specs.theory_reading.Context.{piece_of}
use Rattle.sgml_theory_values.specs.theory_reading.State.{State, after_piece}
use Rattle.sgml_theory_values.specs.theory_reading.Events.{Event as Said, Started, Ended, Byte, events_of_run}
use Rattle.sgml_theory_values.specs.theory_spelling.Places.{map_at, is_map}
use Rattle.sgml_theory_values.specs.theory_spelling.Spelled.{forms}
use Rattle.sgml_theory_values.specs.full.declared.inside.Inside.TheVariants as inside
use Rattle.sgml_theory_values.specs.Worked.{before_instance}
use Rattle.sgml_theory_full.specs.Spellings.{text_of, spellings}
use Rattle.sgml_theory_full.specs.Conforming.{InContent, EventsMayBe}
use Rattle.sgml_theory_full.specs.Following.{AllHold, Follows}
use Rattle.sgml_theory_full.specs.Worked.{D, its_type}

-- the same type with <!ENTITY q CDATA "y">, <!SHORTREF M '"' q> and <!USEMAP M D>
abbrev pub mapped_type : Doctype
mapped_type = record its_type {
  entities = record { name = codes "q"; space = General; body = body.Cdata (codes "y"); base = [] } ∷ [];
  maps = (codes "M", (9, codes "q") ∷ []) ∷ [];
  uses = record { map = used.Named (codes "M"); targets = D ∷ [] } ∷ [];
}

abbrev pub mapped_border : State
mapped_border = before_instance mapped_type

abbrev pub its_start : Piece
its_start = piece_of (Start D [] Omitted true false)

-- what is read there of `"` and a record end, up to the document's end
abbrev pub its_strings : List Piece
its_strings = its_start ∷ piece_of (ShortRef (34 ∷ []) (ToData 2)) ∷ piece_of (ShortRef (13 ∷ []) (Ordinary true true)) ∷ piece_of (End D Omitted) ∷ []

abbrev pub string_events : List Said
string_events = Started D [] ∷ Byte 121 ∷ Ended D ∷ []

-- LAW: a map is in force there, and all that the laws need holds of it
pub record StringsAreWritten : Type 0 where
  pub in_force : is_map (map_at (after_piece its_start mapped_border)) ≡ true
  pub follows : Follows mapped_border mapped_border
  pub holds : AllHold mapped_border its_strings
  pub told : events_of_run forms mapped_border its_strings ≡ string_events
  pub may : EventsMayBe mapped_type InContent mapped_border string_events
  pub text : text_of (spellings mapped_type inside.Mixed string_events) ≡ codes "<D>y</D>"
