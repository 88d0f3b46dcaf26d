-- External identifiers (10.1.6), and notation declarations (11.4) after their keyword.
use Rattle.std.specs.Prelude.{ℕ, List, [], ◌∷◌, Option, None, Some, if◌then◌else◌, codes}
use Rattle.sgml_decl_lexemes.specs.sgml_entity.declared.kinds.External.{External}
use Rattle.sgml_decl_forms.specs.Words.{is_keyword}
use Rattle.sgml_decl_lexemes.specs.declared.lexeme.Lexeme.{Lexeme}
use Rattle.sgml_decl_lexemes.specs.declared.lexeme.Lexeme.TheVariants.{Literal}
use Rattle.sgml_decl_forms.specs.declared.external.NotationDeclaration.{NotationDeclaration}
use Rattle.sgml_decl_forms.specs.Words.{◌>>=◌, name_at, literal_at, all_of}

-- a literal or none
abbrev pub optional_literal : List Lexeme → Option (List ℕ) × List Lexeme
optional_literal (Literal t ∷ ds) = (Some t, ds)
optional_literal ds = (None, ds)

abbrev pub system_at : List Lexeme → External × List Lexeme
system_at ds = (record { public = None; system = (optional_literal ds).0 }, (optional_literal ds).1)

abbrev pub public_at : List Lexeme → Option (External × List Lexeme)
public_at ds =
    literal_at ds >>= (λ p. Some (record { public = Some p.0; system = (optional_literal p.1).0 }, (optional_literal p.1).1))

-- SYSTEM and a literal or none, or PUBLIC and a literal or two
abbrev pub external_at : List Lexeme → Option (External × List Lexeme)
external_at [] = None
external_at (d ∷ ds) =
    if is_keyword (codes "SYSTEM") d then Some (system_at ds)
    else if is_keyword (codes "PUBLIC") d then public_at ds
    else None

unfoldable pub notation_at : List Lexeme → Option NotationDeclaration
notation_at ds = do
  n ← name_at ds
  e ← external_at n.1
  all_of (record { name = n.0; external = e.0 }) e.1
