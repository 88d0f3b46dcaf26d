-- Why a declaration is refused: the first reason that holds, in the order of the reasons.
use Rattle.std.specs.Prelude.{◌≡◌, ℕ, Bool, false, ◌||◌, List, [], ◌∷◌, Option, Some, None, is_some, is_none, if◌then◌else◌, length, nat_lt}
use Rattle.std.specs.List.{list_any}
use Rattle.sgml_text.specs.declared.reason.Reason.{Reason}
use Rattle.sgml_text.specs.declared.reason.Reason.TheVariants.{DeclarationPlace, NameLength, LiteralLimit, NotationTwice, MapUnknown, NotationUnknown}
use Rattle.sgml_syntax.specs.declared.syntax.Syntax.{Syntax}
use Rattle.sgml_entity.specs.sgml_names.Naming.{general_name, is_long}
use Rattle.sgml_entity.specs.declared.kinds.Body.{Body}
use Rattle.sgml_entity.specs.declared.kinds.Body.TheVariants as body
use Rattle.sgml_entity.specs.declared.kinds.Entity.{Entity}
use Rattle.sgml_entity.specs.declared.kinds.Notation.{Notation}
use Rattle.sgml_entity.specs.Entities.{notation_of}
use Rattle.sgml_dtd_elements.specs.sgml_decl_lexemes.declared.lexeme.Lexeme.{Lexeme}
use Rattle.sgml_dtd_elements.specs.sgml_decl_lexemes.declared.lexeme.Lexeme.TheVariants.{Name, Token, Reserved, Literal, Value, Sign}
use Rattle.sgml_dtd_elements.specs.sgml_decl_forms.declared.doctype.DoctypeHead.{DoctypeHead}
use Rattle.sgml_dtd_elements.specs.sgml_decl_forms.declared.entity.EntityDeclaration.{EntityDeclaration}
use Rattle.sgml_dtd_elements.specs.sgml_decl_forms.declared.external.NotationDeclaration.{NotationDeclaration}
use Rattle.sgml_dtd_elements.specs.sgml_decl_forms.declared.map.UsemapDeclaration.{UsemapDeclaration}
use Rattle.sgml_dtd_elements.specs.sgml_decl_forms.declared.declaration.Declaration.{Declaration}
use Rattle.sgml_dtd_elements.specs.sgml_decl_forms.declared.declaration.Declaration.TheVariants as form
use Rattle.sgml_dtd_elements.specs.Folded.{folded}
use Rattle.sgml_dtd_elements.specs.Rows.{first_reason, IsAmbiguousContent, IsUnambiguousContent}
use Rattle.sgml_dtd_attlists.specs.Interpreted.{list_in}
use Rattle.sgml_dtd_attlists.specs.Rows.{reason}
use Rattle.sgml_dtd_maps.specs.Rows.{map_reason, use_reason}
use Rattle.sgml_dtd_maps.specs.Tables.{has_unknown}
use Rattle.sgml_dtd.specs.Doctypes.{Doctype, map_table}

abbrev pub literal_text : Lexeme → List ℕ
literal_text (Literal t) = t
literal_text (Name n) = []
literal_text (Token t) = []
literal_text (Reserved n) = []
literal_text (Value us) = []
literal_text (Sign d) = []

-- LITLEN (13.4.8): a literal is longer, its references replaced; the delimiters of a bracketed text
-- aren't of it (10.5.4)
abbrev pub is_long_literal : Syntax → Lexeme → Bool
is_long_literal syntax d = nat_lt syntax.quantities.litlen (length (literal_text d))

-- a literal of a declaration passes LITLEN, be it a text or a public or system identifier (10.1.6)
abbrev pub has_long_literal : Syntax → List Lexeme → Bool
has_long_literal syntax ds = list_any (is_long_literal syntax) ds

-- the name of the notation of external data
abbrev pub has_long_notation : Syntax → Body → Bool
has_long_notation syntax (body.Sgml t) = false
has_long_notation syntax (body.Cdata t) = false
has_long_notation syntax (body.Sdata t) = false
has_long_notation syntax (body.Pi t) = false
has_long_notation syntax (body.External e) = false
has_long_notation syntax (body.ExternalData kind e notation) = is_long syntax notation

abbrev pub entity_reason : Syntax → List Lexeme → EntityDeclaration → Option Reason
entity_reason syntax ds d =
    if is_long syntax d.name || has_long_notation syntax d.body then Some NameLength
    else if has_long_literal syntax ds then Some LiteralLimit
    else None

-- a notation has one declaration (11.4)
abbrev pub notation_reason : Syntax → List Lexeme → List Notation → NotationDeclaration → Option Reason
notation_reason syntax ds notations d =
    if is_long syntax d.name then Some NameLength
    else if has_long_literal syntax ds then Some LiteralLimit
    else if is_some (notation_of notations (general_name syntax d.name)) then Some NotationTwice
    else None

-- a document has one document type (7.1)
abbrev pub head_reason : Syntax → List Lexeme → Option (List ℕ) → DoctypeHead → Option Reason
head_reason syntax ds name d =
    if is_some name then Some DeclarationPlace
    else if is_long syntax d.name then Some NameLength
    else if has_long_literal syntax ds then Some LiteralLimit
    else None

-- in a document type a use names element types (11.6)
abbrev pub use_reason_in : Syntax → UsemapDeclaration → Option Reason
use_reason_in syntax d = if is_none d.targets then Some DeclarationPlace else use_reason syntax d

-- the first reason, but for the ambiguity of a model, which is the last
abbrev pub declared_reason : Doctype → List Lexeme → Declaration → Option Reason
declared_reason t ds (form.Element d) = first_reason t.syntax t.elements d
declared_reason t ds (form.Attlist d) = reason t.syntax t.lists (list_in t.syntax d)
declared_reason t ds (form.Entity d) = entity_reason t.syntax ds d
declared_reason t ds (form.Notation d) = notation_reason t.syntax ds t.notations d
declared_reason t ds (form.Shortref d) = map_reason t.syntax (map_table t) d
declared_reason t ds (form.Usemap d) = use_reason_in t.syntax d
declared_reason t ds (form.Doctype d) = head_reason t.syntax ds t.name d

abbrev pub IsAmbiguousIn : Doctype → Declaration → Type 0
IsAmbiguousIn t (form.Element d) = IsAmbiguousContent (folded t.syntax d).body.content
IsAmbiguousIn t _ = ⊥

abbrev pub IsUnambiguousIn : Doctype → Declaration → Type 0
IsUnambiguousIn t (form.Element d) = IsUnambiguousContent (folded t.syntax d).body.content
IsUnambiguousIn t _ = Unit {0}

-- external data in a notation without a declaration (11.4)
abbrev pub lacks_notation : List Notation → Body → Bool
lacks_notation notations (body.Sgml t) = false
lacks_notation notations (body.Cdata t) = false
lacks_notation notations (body.Sdata t) = false
lacks_notation notations (body.Pi t) = false
lacks_notation notations (body.External e) = false
lacks_notation notations (body.ExternalData kind e notation) = is_none (notation_of notations notation)

-- external data of an entity that holds is in a notation without a declaration
abbrev pub has_unknown_notation : Doctype → Bool
has_unknown_notation t = list_any (λ e. lacks_notation t.notations e.body) t.entities

-- what may not be so where the document type ends
abbrev pub final_reason : Doctype → Option Reason
final_reason t =
    if has_unknown (map_table t) then Some MapUnknown
    else if has_unknown_notation t then Some NotationUnknown
    else None
