-- Declarations in content: the use of a map, and what has no place (11.6, 13).
use Rattle.std.specs.Prelude.{◌≡◌, ℕ, ◌⊎◌, Bool, true, false, ◌&&◌, List, Option, Some, None, is_none, Result, Ok, Err, codes, if◌then◌else◌}
use Rattle.sgml_text.specs.declared.name_set.NameSet.{NameSet}
use Rattle.sgml_text.specs.declared.reason.Reason.{Reason}
use Rattle.sgml_text.specs.declared.reason.Reason.TheVariants as reason
use Rattle.sgml_text.specs.declared.error.RefusalError.{RefusalError}
use Rattle.sgml_text.specs.declared.error.RefusalError.TheVariants.{Refused, Memory}
use Rattle.sgml_theory_reading.specs.records.Items.{Markup}
use Rattle.sgml_entity.specs.Stack.{Stack}
use Rattle.sgml_decl_lexemes.specs.decl_parts.declared.ends.Construct.TheVariants.{Declaration as DeclarationText}
use Rattle.sgml_decl_lexemes.specs.declared.lexeme.Lexeme.{Lexeme}
use Rattle.sgml_decl_lexemes.specs.declared.fault.LexError.{LexError}
use Rattle.sgml_decl_lexemes.specs.declared.fault.LexError.TheVariants as lexing
use Rattle.sgml_decl_forms.specs.declared.map.UsemapDeclaration.{UsemapDeclaration}
use Rattle.sgml_decl_forms.specs.declared.declaration.Declaration.{Declaration}
use Rattle.sgml_decl_forms.specs.declared.declaration.Declaration.TheVariants as form
use Rattle.sgml_decl_forms.specs.Declarations.{declaration_at}
use Rattle.sgml_dtd.specs.Doctypes.{Doctype}
use Rattle.sgml_dtd_maps.specs.Tables.{numbered_map}
use Rattle.sgml_dtd_maps.specs.Rows.{use_reason}
use Rattle.sgml_theory_reading.specs.Names.{Text}
use Rattle.sgml_theory_reading.specs.Pieces.{Kind, UseMap}
use Rattle.sgml_theory_reading.specs.Facets.{ExternalSubset}
use Rattle.sgml_theory_reading.specs.Unread.{Outside}
use Rattle.sgml_declared.specs.theory_spelling.Stacked.{Stacked}
use Rattle.sgml_declared.specs.theory_spelling.Declared.{Lexed}
use Rattle.sgml_declared.specs.theory_spelling.SgmlDeclared.{has_keyword, sgml_piece, misplaced}
use Rattle.sgml_declared.specs.theory_spelling.Content.{map_used, use_of, or_reason, placed_reason}
use Rattle.sgml_declared.specs.theory_standing.Kept.{Kept}
use Rattle.sgml_inside.specs.Inside.{noted_in, set_in}
use Rattle.sgml_declared.specs.Files.{Choices, sources_in}
use Rattle.sgml_declared.specs.declared.error.TakeError.{TakeError}
use Rattle.sgml_declared.specs.declared.error.TakeError.TheVariants as take_error
use Rattle.sgml_declared.specs.Over.{IsOver}
use Rattle.sgml_declared.specs.Reading.{AreTheLexemes}
use Rattle.sgml_declared.specs.Taking.{stacked_on, own_text, lexed_at, ForEach, IsStopped}
use Rattle.sgml_prolog_steps.specs.Steps.{stop_of}
use Rattle.sgml_prolog_steps.specs.declared.stepping.Stop.{Stop}
use Rattle.sgml_prolog_steps.specs.declared.stepping.Stop.TheVariants as stop
use Rattle.sgml_content_steps.specs.Content.{Content}
use Rattle.sgml_content_sections.specs.Changes.{kept_with}

-- WHAT IS DECLARED, where an element is open or none: a use that names no element type is of the current
-- element (11.6)
abbrev pub use_in : Doctype → Bool → UsemapDeclaration → Result Kind Reason
use_in d inside u =
    if is_none u.targets && inside then or_reason (use_reason d.syntax u) (use_of (map_used d u.map)) else Err reason.DeclarationPlace

abbrev pub declared_in : Doctype → Bool → Option Declaration → Result Kind Reason
declared_in d inside None = Err reason.DeclarationSyntax
declared_in d inside (Some (form.Usemap u)) = use_in d inside u
declared_in d inside (Some x) = Err reason.DeclarationPlace

-- the map by its number, none for #EMPTY, or why none is used
abbrev pub TellsMap : Result (Option ℕ) Reason → Result (Option ℕ) RefusalError → Type 0
TellsMap said (Ok number) = said ≡ Ok number
TellsMap said (Err (Refused r)) = said ≡ Err r
TellsMap said (Err Memory) = Unit {0}

abbrev pub TellsUse : Result Kind Reason → Result (Option ℕ) RefusalError → Type 0
TellsUse said (Ok number) = said ≡ Ok (UseMap number)
TellsUse said (Err (Refused r)) = said ≡ Err r
TellsUse said (Err Memory) = Unit {0}

-- THE MAP IS SET in the innermost element, beside the markup that came there
abbrev pub map_set_in : Option ℕ → Content → Content
map_set_in number c = record c { inside = record c.inside { elements = set_in (numbered_map number) (noted_in Markup c.inside.elements) } }

-- the use was read
pub record IsUseRead (c : Choices) (texts : List (ℕ × Text)) (inside : Bool) (old new : Kept) (number : Option ℕ) : Type 0 where
  pub lexemes : List Lexeme
  pub stack : Stack
  pub are : AreTheLexemes DeclarationText c old.doctype old.subset texts old.stack stack lexemes
  pub over : IsOver DeclarationText old.doctype texts old.stack stack
  pub says : declared_in old.doctype inside (declaration_at lexemes) ≡ Ok (UseMap number)
  pub kept : new ≡ kept_with stack old.sections old

-- a reason that isn't one of its lexemes
abbrev pub stop_for : RefusalError → Stop
stop_for (Refused r) = stop.Refused r
stop_for Memory = stop.Memory

-- its lexemes say no use that may stand there
pub record IsNoUse (c : Choices) (texts : List (ℕ × Text)) (inside : Bool) (old : Kept) (r : Reason) : Type 0 where
  pub lexemes : List Lexeme
  pub stack : Stack
  pub are : AreTheLexemes DeclarationText c old.doctype old.subset texts old.stack stack lexemes
  pub says : declared_in old.doctype inside (declaration_at lexemes) ≡ Err r

-- A REFERENCE TO NO CHARACTER stands in the declaration (9.5)
abbrev pub is_no_character : LexError → Bool
is_no_character (lexing.Refused reason.CharNumber) = true
is_no_character _ = false

-- it is refused for that, or, where its end is reached, because it has no place
abbrev pub no_character_reason : Bool → Reason
no_character_reason end = if end then reason.DeclarationPlace else reason.CharNumber

abbrev pub TellsNoCharacter : Bool → TakeError → Type 0
TellsNoCharacter end (take_error.Refused r) = r ≡ no_character_reason end
TellsNoCharacter end (take_error.Wanted number file) = ⊥
TellsNoCharacter end take_error.Memory = Unit {0}

-- WHY IT HAS NO LEXEMES, in content
abbrev pub placed_lexed : Outside → Doctype → Stacked → Text → Result Lexed Reason → Result Lexed Reason
placed_lexed outside d t own (Err r) = Err (placed_reason outside d t own r)
placed_lexed outside d t own (Ok x) = Ok x

abbrev pub placed_at : Outside → Doctype → List (ℕ × Text) → Stack → ℕ → Result Lexed Reason
placed_at outside d texts s n =
    placed_lexed outside d (stacked_on s) (own_text d texts s n) (lexed_at DeclarationText outside d texts s n)

abbrev pub LexemesAreRefused : Choices → Doctype → Option ExternalSubset → List (ℕ × Text) → Stack → TakeError → Type 0
LexemesAreRefused c d subset texts s e =
    ForEach c DeclarationText (sources_in d subset) texts s
    (λ outside n. IsStopped outside (sources_in d subset) texts s (placed_at outside d texts s n) e)

pub record IsRefusedBy (c : Choices) (texts : List (ℕ × Text)) (old : Kept) (s : Stop) : Type 0 where
  pub error : TakeError
  pub told : s ≡ stop_of error
  pub refused : LexemesAreRefused c old.doctype old.subset texts old.stack error

-- no use is read, for this reason
abbrev pub IsNotUsed : Choices → List (ℕ × Text) → Bool → Kept → Stop → Type 0
IsNotUsed c texts inside old s =
    IsRefusedBy c texts old s ⊎ ((r : Reason) × (s ≡ stop.Refused r) × IsNoUse c texts inside old r)
