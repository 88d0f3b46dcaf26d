-- The table of what is due, over the lexemes of a declaration: the grammar that the productions have (11.1 to 11.6, 10.5).
use Rattle.std.specs.Prelude.{ℕ, Bool, true, false, ◌≡◌, ◌<◌, ◌↔◌, List, [], ◌∷◌, ◌++◌, length, is_some, if◌then◌else◌}
use Rattle.sgml_decl_lexemes.specs.decl_parts.declared.form.Form.{Form}
use Rattle.sgml_decl_lexemes.specs.decl_parts.declared.form.Form.TheVariants as f
use Rattle.sgml_decl_lexemes.specs.decl_parts.declared.form.LiteralKind.{LiteralKind}
use Rattle.sgml_decl_lexemes.specs.decl_parts.declared.form.LiteralKind.TheVariants.{NoLiteral, Parameter, Plain, Value as InValue}
use Rattle.sgml_decl_lexemes.specs.decl_parts.Forms.{literal_kind, is_complete}
use Rattle.sgml_decl_lexemes.specs.declared.lexeme.Lexeme.{Lexeme}
use Rattle.sgml_decl_lexemes.specs.declared.lexeme.Lexeme.TheVariants.{Name, Token, Reserved, Literal, Value, Sign}
use Rattle.sgml_decl_lexemes.specs.Lengths.{form_after}
use Rattle.sgml_decl_forms.specs.Declarations.{declaration_at}

-- a literal that is no attribute value literal may stand
abbrev pub takes_literal : LiteralKind → Bool
takes_literal Parameter = true
takes_literal Plain = true
takes_literal k = false

-- an attribute value literal may stand
abbrev pub takes_value : LiteralKind → Bool
takes_value InValue = true
takes_value k = false

-- what is due after one lexeme, where a literal of its kind may stand
abbrev pub after_one : Form → Lexeme → Form
after_one form (Literal t) = if takes_literal (literal_kind form) then form_after form (Literal t) else f.Broken
after_one form (Value u) = if takes_value (literal_kind form) then form_after form (Value u) else f.Broken
after_one form d = form_after form d

-- what is due after all of these
abbrev pub due : Form → List Lexeme → Form
due form [] = form
due form (d ∷ ds) = due (after_one form d) ds

-- a token has a character
abbrev pub has_character : Lexeme → Bool
has_character (Token []) = false
has_character d = true

abbrev pub HaveCharacters : List Lexeme → Type 0
HaveCharacters [] = Unit
HaveCharacters (d ∷ ds) = (has_character d ≡ true) × HaveCharacters ds

-- Lexemes as they are read: each token has a character, and there are fewer than the levels of groups that are counted.
pub record AreLexemes (ds : List Lexeme) : Type 0 where
  pub characters : HaveCharacters ds
  pub few : length ds < 4294967295

-- LAW: a declaration may end exactly where the productions read it.
abbrev pub OneGrammar : Type 0
OneGrammar = (ds : List Lexeme) → AreLexemes ds → is_complete (due f.Keyword ds) ≡ is_some (declaration_at ds)

-- something is due, or the declaration may end
abbrev pub is_open : Form → Bool
is_open f.Broken = false
is_open (f.LeftOut r) = false
is_open form = true

-- LAW: lexemes go on by the table exactly where some lexemes behind them complete a declaration.
abbrev pub GoesOn : Type 0
GoesOn =
    (front : List Lexeme)
    → (is_open (due f.Keyword front) ≡ true) ↔ ((rest : List Lexeme) × HaveCharacters rest × (is_complete (due f.Keyword (front ++ rest)) ≡ true))
