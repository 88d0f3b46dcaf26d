-- The head of a document type declaration (11.1), after its keyword: up to the `[` of its subset, or
-- all of it.
use Rattle.std.specs.Prelude.{Bool, true, false, List, [], ◌∷◌, Option, None, Some}
use Rattle.sgml_delim.specs.declared.delim.Delim.TheVariants as sign
use Rattle.sgml_decl_lexemes.specs.sgml_entity.declared.kinds.External.{External}
use Rattle.sgml_decl_lexemes.specs.declared.lexeme.Lexeme.{Lexeme}
use Rattle.sgml_decl_lexemes.specs.declared.lexeme.Lexeme.TheVariants.{Sign}
use Rattle.sgml_decl_forms.specs.declared.doctype.DoctypeHead.{DoctypeHead}
use Rattle.sgml_decl_forms.specs.Words.{◌>>=◌, name_at}
use Rattle.sgml_decl_forms.specs.Externals.{external_at}

-- `[`, or nothing
abbrev pub subset_at : List Lexeme → Option Bool
subset_at [] = Some false
subset_at (Sign sign.Dso ∷ []) = Some true
subset_at _ = None

-- the external identifier, where there is one
abbrev pub or_none : List Lexeme → Option (External × List Lexeme) → Option External × List Lexeme
or_none ds None = (None, ds)
or_none ds (Some e) = (Some e.0, e.1)

unfoldable pub doctype_at : List Lexeme → Option DoctypeHead
doctype_at ds = do
  n ← name_at ds
  s ← subset_at (or_none n.1 (external_at n.1)).1
  Some (record { name = n.0; external = (or_none n.1 (external_at n.1)).0; subset = s })
