-- The lines of what is said are a file of lines, where its names are words of the document type.
use Rattle.std.proofs.Common.{◌≡◌, ◌&&◌, Bool, true, List, [], ◌∷◌, refl}
use Rattle.std.specs.Prelude.{is_none}
use Rattle.std.specs.List.{list_all}
use Rattle.sgml_event_lines.specs.esis.Grammar.{is_word}
use Rattle.sgml_event_lines.proofs.esis.Tokens.{both}
use Rattle.sgml_event_lines.specs.dtd.Doctypes.{Doctype}
use Rattle.sgml_event_lines.specs.theory_reading.Types.{name_of_entity}
use Rattle.sgml_event_lines.specs.theory_reading.Reads.{Attribute}
use Rattle.sgml_event_lines.specs.theory_reading.Events.{Event, Started, Ended, Byte, SpecificData, External as ExternalEvent, Instruction}
use Rattle.sgml_event_lines.specs.theory_reading.Identifiers.{id_fault}
use Rattle.sgml_event_lines.specs.theory_reading.Lines.{StartLine, FinishLine, DataRefLine, value_line, attribute_lines, event_lines, lines_of, lines_by}
use Rattle.sgml_event_lines.specs.Shown.{all_shown}
use Rattle.sgml_event_lines.specs.ReadBack.{HasWords, value_words, IsReadBack}
use Rattle.sgml_event_lines.proofs.Written.{is_written}
use Rattle.sgml_event_lines.proofs.ReadBack.{all_written, all_append, one_written, entity_name_word, value_written, lines_are_read_back}
use Rattle.sgml_theory_words.proofs.Bytes.{and}
use Rattle.sgml_theory_words.proofs.Said.{attribute_words, said_words}

attributes_written : (d : Doctype) (as' : List Attribute) → HasWords d → list_all (attribute_words d) as' ≡ true → all_written (attribute_lines d as')
attributes_written d [] w h = refl
attributes_written d (a ∷ as') w h =
    let p = both (attribute_words d a) (list_all (attribute_words d) as') h in
    let q = both (is_word a.attribute) (value_words d a.value) p.0 in
    and (is_written (value_line d a.attribute a.value)) (list_all is_written (attribute_lines d as')) (value_written d a.attribute a.value w q.0 q.1) (attributes_written d as' w p.1)

event_written : (d : Doctype) (e : Event) → HasWords d → said_words d e ≡ true → all_written (event_lines d e)
event_written d (Started n attributes) w h =
    let p = both (is_word n) (list_all (attribute_words d) attributes) h in
    all_append (attribute_lines d attributes) (StartLine n ∷ []) (attributes_written d attributes w p.1) (one_written (StartLine n) p.0)
event_written d (Ended n) w h = one_written (FinishLine n) h
event_written d (Byte b) w h = refl
event_written d (SpecificData entity text) w h = refl
event_written d (ExternalEvent e) w h = one_written (DataRefLine (name_of_entity d e)) (entity_name_word d e w h)
event_written d (Instruction text entity) w h = refl

events_written : (d : Doctype) (es : List Event) → HasWords d → list_all (said_words d) es ≡ true → all_written (lines_of d es)
events_written d [] w h = refl
events_written d (e ∷ es) w h =
    let p = both (said_words d e) (list_all (said_words d) es) h in
    all_append (event_lines d e) (lines_of d es) (event_written d e w p.0) (events_written d es w p.1)

pub said-is-read-back : (d : Doctype) (es : List Event) (over : Bool) → HasWords d → list_all (said_words d) es ≡ true → IsReadBack (all_shown (lines_by d es over))
said-is-read-back d es over w h = lines_are_read_back d (lines_of d es) (over && is_none (id_fault es)) w (events_written d es w h)
