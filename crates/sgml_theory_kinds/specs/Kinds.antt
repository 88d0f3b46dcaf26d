-- WHAT HOLDS WHERE A PIECE IS SPELLED, by its kind.
use Rattle.std.specs.Prelude.{◌≡◌, ◌⊎◌, ℕ, true, false, List, Some, None, Ok}
use Rattle.sgml_theory_spelling.specs.decl_lexemes.declared.lexeme.Lexeme.{Lexeme}
use Rattle.sgml_theory_spelling.specs.decl_parts.declared.ends.Construct.TheVariants as construct
use Rattle.sgml_theory_spelling.specs.decl_forms.declared.declaration.Declaration.{Declaration}
use Rattle.sgml_theory_spelling.specs.decl_forms.declared.declaration.Declaration.TheVariants as form
use Rattle.sgml_theory_spelling.specs.decl_forms.Declarations.{declaration_at}
use Rattle.sgml_theory_spelling.specs.theory_reading.Names.{Name, Text}
use Rattle.sgml_theory_spelling.specs.theory_reading.Pieces.{Piece, Kind, Sgml, Head, Declare, Start, End, Data, DataRef, ShortRef, Ref, EntityEnd, SectionEnd, Pi, UseMap, Finish, Short, Net, Omitted, Meaning, ToText, ToData, ToExternalData, ToInstruction}
use Rattle.sgml_theory_spelling.specs.theory_reading.Facets.{AtBeginning, AfterSubset}
use Rattle.sgml_theory_spelling.specs.theory_reading.ShortTags.{empty_start_type, empty_end_type, net_type}
use Rattle.sgml_theory_spelling.specs.theory_reading.Unread.{Outside, Standing}
use Rattle.sgml_theory_spelling.specs.theory_reading.State.{State, sources_in}
use Rattle.sgml_theory_spelling.specs.theory_reading.Characters.{ordinary}
use Rattle.sgml_theory_spelling.specs.Stacked.{Stacked, stacked}
use Rattle.sgml_theory_spelling.specs.Places.{in_section}
use Rattle.sgml_theory_spelling.specs.References.{meaning_of, parameter_kind}
use Rattle.sgml_theory_spelling.specs.Declared.{lexed, reason_against}
use Rattle.sgml_theory_spelling.specs.Content.{has_open}
use Rattle.sgml_theory_spelling.specs.Spelled.{spelled}

-- the general entity of some name means this there (9.4.4, 10.5)
abbrev pub IsMeant : Outside → State → Stacked → Meaning → Type 0
IsMeant outside s t m = (n : Name) × (meaning_of outside (sources_in s) t n ≡ Ok m)

-- a reference to the parameter entity of some name is this there (9.4.4)
abbrev pub IsParameter : Outside → State → Stacked → Kind → Type 0
IsParameter outside s t k = (n : Name) × (parameter_kind outside (sources_in s) t n ≡ Ok k)

-- A DECLARATION says this by these lexemes, those of some text there, and there is no reason against it after what was
-- declared before it (10, 11)
pub record IsDeclared (outside : Outside) (s : State) (t : Stacked) (lexemes : List Lexeme) (says : Declaration) : Type 0 where
  pub own : Text
  pub spent : ℕ
  pub read : lexed construct.Declaration outside s.context.doctype t own ≡ Ok (record { lexemes = lexemes; spent = spent })
  pub says_so : declaration_at lexemes ≡ Some says
  pub unopposed : reason_against s.context.doctype lexemes says ≡ None

-- A PIECE HAS ITS PLACE
abbrev pub HasItsPlace : Outside → State → Stacked → Kind → Type 0
-- an SGML declaration: at the beginning of the document (7.1, 13)
HasItsPlace outside s t (Sgml syntax) = s.stage ≡ AtBeginning
-- the head of a document type declaration, and a declaration in it: where they are declared
HasItsPlace outside s t (Head head base) = (lexemes : List Lexeme) × IsDeclared outside s t lexemes (form.Doctype head)
HasItsPlace outside s t (Declare lexemes says base) = IsDeclared outside s t lexemes says
-- an empty tag and NET: with the type that they have there (7.4.1.1, 7.5.1.1, 7.5.1.3); a tag that was left out: nowhere
HasItsPlace outside s t (Start n specifications Short proper at_once) = empty_start_type s.context s.ended ≡ Some n
HasItsPlace outside s t (Start n specifications Omitted proper at_once) = ⊥
HasItsPlace outside s t (End n Short) = empty_end_type s.context ≡ Some n
HasItsPlace outside s t (End n Net) = net_type s.context ≡ Some n
HasItsPlace outside s t (End n Omitted) = ⊥
-- a reference: where it is meant (9.4.4, 9.4.6, 10.5)
HasItsPlace outside s t (Data e) = IsMeant outside s t (ToData e)
HasItsPlace outside s t (DataRef e) = IsMeant outside s t (ToExternalData e)
HasItsPlace outside s t (ShortRef string m) = (m ≡ ordinary s string) ⊎ IsMeant outside s t m
HasItsPlace outside s t (Ref e) = IsMeant outside s t (ToText e) ⊎ IsParameter outside s t (Ref e)
HasItsPlace outside s t (Pi text (Some e)) = IsMeant outside s t (ToInstruction e text) ⊎ IsParameter outside s t (Pi text (Some e))
-- the end of a marked section: where one is open that began in the same text (10.4); the end of a text: where none is
HasItsPlace outside s t SectionEnd = in_section s.texts s.sections ≡ true
HasItsPlace outside s t EntityEnd = in_section s.texts s.sections ≡ false
-- the end of the document: after its document type (7.1)
HasItsPlace outside s t Finish = (s.stage ≡ AfterSubset) × (in_section s.texts s.sections ≡ false)
-- the use of a map: in an element (11.6)
HasItsPlace outside s t (UseMap map) = has_open s.context.levels ≡ true
HasItsPlace outside s t _ = Unit {0}

-- as each piece has that is spelled
abbrev pub SpelledPiecesHaveTheirPlaces : Type 0
SpelledPiecesHaveTheirPlaces =
    (outside : Outside) (s : State) (t : Standing) (p : Piece) → spelled outside s t ≡ Ok p → HasItsPlace outside s (stacked t) p.kind
