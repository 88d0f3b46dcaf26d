-- What is too long (13.4.8) among the lexemes that were read, by what was due where each of them stands.
use Rattle.std.specs.Prelude.{ℕ, Bool, true, false, ◌&&◌, ◌||◌, not, List, [], ◌∷◌, length, nat_lt, Option, Some, codes, if◌then◌else◌}
use Rattle.sgml_text.specs.Characters.{is_word}
use Rattle.sgml_text.specs.Units.{characters}
use Rattle.sgml_text.specs.declared.unit.Unit.{Unit as AnyUnit}
use Rattle.sgml_syntax.specs.declared.syntax.Syntax.{Syntax}
use Rattle.sgml_entity.specs.sgml_names.Naming.{is_long}
use Rattle.sgml_marked.specs.Keywords.{is_keyword}
use Rattle.sgml_attr.specs.declared.definition.Declared.{Declared}
use Rattle.sgml_attr.specs.declared.definition.Declared.TheVariants as declared
use Rattle.sgml_attr.specs.declared.error.AttrError.{AttrError}
use Rattle.sgml_attr.specs.declared.error.AttrError.TheVariants.{NameLength}
use Rattle.sgml_attr.specs.Literal.{interpreted}
use Rattle.sgml_attr.specs.Values.{refusal_of_default}
use Rattle.sgml_decl_parts.specs.declared.form.Form.{Form}
use Rattle.sgml_decl_parts.specs.declared.form.Form.TheVariants as f
use Rattle.sgml_decl_parts.specs.Forms.{after_name, after_token, after_reserved, after_literal, after_sign}
use Rattle.sgml_decl_lexemes.specs.declared.lexeme.Lexeme.{Lexeme}
use Rattle.sgml_decl_lexemes.specs.declared.lexeme.Lexeme.TheVariants.{Name, Token, Reserved, Literal, Value, Sign}
use Rattle.sgml_decl_lexemes.specs.declared.lengths.Due.{Due}

-- WHAT IS DUE after a lexeme
abbrev pub form_after : Form → Lexeme → Form
form_after form (Name n) = after_name form n
form_after form (Token t) = after_token form
form_after form (Reserved n) = after_reserved form n
form_after form (Literal t) = after_literal form
form_after form (Value units) = after_literal form
form_after form (Sign d) = after_sign form d

abbrev pub is_declared_value : Form → Bool
is_declared_value f.Declared = true
is_declared_value _ = false

abbrev pub is_cdata_word : Lexeme → Bool
is_cdata_word (Name n) = is_word (codes "CDATA") n
is_cdata_word _ = false

-- the declared value of an attribute stands before its default (11.3.3)
abbrev pub cdata_after : Due → Lexeme → Bool
cdata_after due d = if is_declared_value due.form then is_cdata_word d else due.cdata

abbrev pub due_after : Due → Lexeme → Due
due_after due d = record { form = form_after due.form d; cdata = cdata_after due d }

-- NAMES that NAMELEN limits: those of what is declared or referred to, and name tokens, but no
-- keywords; a status keyword is one of the five (10.4.2)
abbrev pub is_limited : Form → List ℕ → Bool
is_limited f.DoctypeName n = true
is_limited f.ElementNames n = true
is_limited (f.Model level) n = true
is_limited f.ListNames n = true
is_limited f.Attribute n = true
is_limited f.AttributeOrEnd n = true
is_limited f.EntityName n = true
is_limited f.ParameterName n = true
is_limited f.DataNotation n = true
is_limited f.NotationName n = true
is_limited f.MapName n = true
is_limited f.MapEntity n = true
is_limited f.UsedMap n = true
is_limited f.MapTargets n = true
is_limited f.Statuses n = not (is_keyword n)
is_limited (f.Group g due c) n = true
is_limited _ n = false

-- the name or token that a lexeme is
abbrev pub word_of : Lexeme → List ℕ
word_of (Name n) = n
word_of (Token t) = t
word_of _ = []

-- the text of a literal of which the length is judged as it is
abbrev pub text_of : Lexeme → List ℕ
text_of (Literal t) = t
text_of _ = []

-- A DEFAULT VALUE, in quotes or without them (7.9.3, 11.3.4), is judged as it is interpreted; in its
-- length, and in that of its tokens, all declared values but CDATA are alike.
abbrev pub is_default : Form → Bool
is_default f.Default = true
is_default f.Fixed = true
is_default _ = false

abbrev pub units_of : Lexeme → List AnyUnit
units_of (Value units) = units
units_of (Name n) = characters n
units_of (Token t) = characters t
units_of _ = []

abbrev pub declared_by : Bool → Declared
declared_by cdata = if cdata then declared.Cdata else declared.Name

abbrev pub value_by : Bool → Lexeme → List AnyUnit
value_by cdata d = interpreted (declared_by cdata) (units_of d)

abbrev pub is_name_length : Option AttrError → Bool
is_name_length (Some NameLength) = true
is_name_length _ = false

abbrev pub has_long_token : Syntax → Bool → Lexeme → Bool
has_long_token syntax cdata d = is_name_length (refusal_of_default syntax (declared_by cdata) (value_by cdata d))

abbrev pub passes_litlen : Syntax → ℕ → Bool
passes_litlen syntax n = nat_lt syntax.quantities.litlen n

-- A NAME or token passes NAMELEN
abbrev pub is_long_name : Syntax → Due → Lexeme → Bool
is_long_name syntax due d =
    if is_default due.form then has_long_token syntax due.cdata d
    else is_limited due.form (word_of d) && is_long syntax (word_of d)

-- A LITERAL, its references replaced, or a default value passes LITLEN
abbrev pub is_long_literal : Syntax → Due → Lexeme → Bool
is_long_literal syntax due d =
    if is_default due.form then passes_litlen syntax (length (value_by due.cdata d))
    else passes_litlen syntax (length (text_of d))

-- among these lexemes, of which the first is due
abbrev pub has_long_name : Syntax → Due → List Lexeme → Bool
has_long_name syntax due [] = false
has_long_name syntax due (d ∷ ds) = is_long_name syntax due d || has_long_name syntax (due_after due d) ds

abbrev pub has_long_literal : Syntax → Due → List Lexeme → Bool
has_long_literal syntax due [] = false
has_long_literal syntax due (d ∷ ds) = is_long_literal syntax due d || has_long_literal syntax (due_after due d) ds
