-- Short reference mapping declarations (11.5) and short reference use declarations (11.6), after their
-- keyword.
use Rattle.std.specs.Prelude.{ℕ, List, [], ◌∷◌, ◌++◌, Option, None, Some, if◌then◌else◌, codes}
use Rattle.sgml_text.specs.Characters.{is_word}
use Rattle.sgml_decl_lexemes.specs.declared.lexeme.Lexeme.{Lexeme}
use Rattle.sgml_decl_lexemes.specs.declared.lexeme.Lexeme.TheVariants.{Name, Reserved, Literal}
use Rattle.sgml_decl_forms.specs.declared.map.ShortrefDeclaration.{ShortrefDeclaration}
use Rattle.sgml_decl_forms.specs.declared.map.UsedMap.{UsedMap}
use Rattle.sgml_decl_forms.specs.declared.map.UsedMap.TheVariants.{Empty, Named}
use Rattle.sgml_decl_forms.specs.declared.map.UsemapDeclaration.{UsemapDeclaration}
use Rattle.sgml_decl_forms.specs.Words.{◌>>=◌, name_at, literal_at, all_of}
use Rattle.sgml_decl_forms.specs.Groups.{names_at}

abbrev pub literal_of : Lexeme → Option (List ℕ)
literal_of (Literal t) = Some t
literal_of _ = None

abbrev pub name_of : Lexeme → Option (List ℕ)
name_of (Name n) = Some n
name_of _ = None

-- Strings with their entities behind those that are done, to the end of the lexemes: a string is due, or
-- the entity of one.
abbrev pub pairs_at : List (List ℕ × List ℕ) → Option (List ℕ) → List Lexeme → Option (List (List ℕ × List ℕ))
pairs_at done None [] = Some done
pairs_at done (Some t) [] = None
pairs_at done None (d ∷ ds) = literal_of d >>= (λ t. pairs_at done (Some t) ds)
pairs_at done (Some t) (d ∷ ds) = name_of d >>= (λ n. pairs_at (done ++ (t, n) ∷ []) None ds)

-- one string or more
unfoldable pub shortref_at : List Lexeme → Option ShortrefDeclaration
shortref_at ds = do
  n ← name_at ds
  t ← literal_at n.1
  e ← name_at t.1
  more ← pairs_at ((t.0, e.0) ∷ []) None e.1
  Some (record { name = n.0; pairs = more })

-- a map, or `#EMPTY` for none
abbrev pub used_map_at : List Lexeme → Option (UsedMap × List Lexeme)
used_map_at (Name n ∷ ds) = Some (Named n, ds)
used_map_at (Reserved n ∷ ds) = if is_word (codes "EMPTY") n then Some (Empty, ds) else None
used_map_at _ = None

-- the element types whose map it is; none in content
abbrev pub targets_at : List Lexeme → Option (Option (List (List ℕ)))
targets_at [] = Some None
targets_at (d ∷ ds) = names_at (d ∷ ds) >>= (λ n. all_of (Some n.0) n.1)

unfoldable pub usemap_at : List Lexeme → Option UsemapDeclaration
usemap_at ds = do
  m ← used_map_at ds
  t ← targets_at m.1
  Some (record { map = m.0; targets = t })
