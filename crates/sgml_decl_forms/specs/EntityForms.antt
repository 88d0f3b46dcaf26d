-- Entity declarations (10.5), after their keyword.
use Rattle.std.specs.Prelude.{ℕ, List, [], ◌∷◌, ◌++◌, Option, None, Some, if◌then◌else◌, codes}
use Rattle.sgml_text.specs.declared.data_kind.DataKind.{DataKind}
use Rattle.sgml_text.specs.declared.data_kind.DataKind.TheVariants as data_kind
use Rattle.sgml_decl_lexemes.specs.sgml_entity.declared.kinds.Space.{Space}
use Rattle.sgml_decl_lexemes.specs.sgml_entity.declared.kinds.Space.TheVariants.{General, Parameter}
use Rattle.sgml_decl_lexemes.specs.sgml_entity.declared.kinds.External.{External}
use Rattle.sgml_decl_lexemes.specs.sgml_entity.declared.kinds.Body.{Body}
use Rattle.sgml_decl_lexemes.specs.sgml_entity.declared.kinds.Body.TheVariants as body
use Rattle.sgml_delim.specs.declared.delim.Delim.TheVariants as sign
use Rattle.sgml_decl_forms.specs.Words.{is_keyword}
use Rattle.sgml_decl_lexemes.specs.declared.lexeme.Lexeme.{Lexeme}
use Rattle.sgml_decl_lexemes.specs.declared.lexeme.Lexeme.TheVariants.{Literal, Sign}
use Rattle.sgml_decl_forms.specs.declared.entity.EntityDeclaration.{EntityDeclaration}
use Rattle.sgml_decl_forms.specs.Words.{◌>>=◌, name_at, all_of}
use Rattle.sgml_decl_forms.specs.Externals.{external_at}

-- how external data is kept (10.5.5)
abbrev pub data_kind_of : Lexeme → Option DataKind
data_kind_of d =
    if is_keyword (codes "CDATA") d then Some data_kind.Cdata
    else if is_keyword (codes "NDATA") d then Some data_kind.Ndata
    else if is_keyword (codes "SDATA") d then Some data_kind.Sdata
    else None

-- external text, or external data with its notation
abbrev pub external_body : External → List Lexeme → Option Body
external_body e [] = Some (body.External e)
external_body e (d ∷ ds) = data_kind_of d >>= (λ k. name_at ds >>= (λ n. all_of (body.ExternalData k e n.0) n.1))

-- a text that a keyword makes of a literal: data text, and bracketed text (10.5.3, 10.5.4)
abbrev pub internal_of : Lexeme → List ℕ → Option Body
internal_of d t =
    if is_keyword (codes "CDATA") d then Some (body.Cdata t)
    else if is_keyword (codes "SDATA") d then Some (body.Sdata t)
    else if is_keyword (codes "PI") d then Some (body.Pi t)
    else if is_keyword (codes "STARTTAG") d then Some (body.Sgml (codes "<" ++ t ++ codes ">"))
    else if is_keyword (codes "ENDTAG") d then Some (body.Sgml (codes "</" ++ t ++ codes ">"))
    else if is_keyword (codes "MS") d then Some (body.Sgml (codes "<![" ++ t ++ codes "]]>"))
    else if is_keyword (codes "MD") d then Some (body.Sgml (codes "<!" ++ t ++ codes ">"))
    else None

abbrev pub outside_at : List Lexeme → Option Body
outside_at ds = external_at ds >>= (λ e. external_body e.0 e.1)

abbrev pub or_outside : List Lexeme → Option Body → Option Body
or_outside ds (Some b) = Some b
or_outside ds None = outside_at ds

-- a literal, a keyword and a literal, or what is external
abbrev pub value_at : List Lexeme → Option Body
value_at (Literal t ∷ []) = Some (body.Sgml t)
value_at (d ∷ Literal t ∷ []) = or_outside (d ∷ Literal t ∷ []) (internal_of d t)
value_at ds = outside_at ds

-- a bare `%` makes it a parameter entity
abbrev pub space_at : List Lexeme → Space × List Lexeme
space_at (Sign sign.Pero ∷ ds) = (Parameter, ds)
space_at ds = (General, ds)

unfoldable pub entity_at : List Lexeme → Option EntityDeclaration
entity_at ds = do
  n ← name_at (space_at ds).1
  b ← value_at n.1
  Some (record { space = (space_at ds).0; name = n.0; body = b })
