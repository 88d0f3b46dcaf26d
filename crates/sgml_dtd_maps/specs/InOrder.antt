-- Maps and uses of declarations one after another, and what holds of them (11.5, 11.6).
use Rattle.std.specs.Prelude.{◌≡◌, ℕ, true, false, List, [], ◌∷◌, ◌++◌, Some, if◌then◌else◌, is_some, fold, map, slice_get}
use Rattle.std.specs.List.{list_any}
use Rattle.sgml_names.specs.Lists.{has}
use Rattle.sgml_syntax.specs.declared.syntax.Syntax.{Syntax}
use Rattle.sgml_shortref.specs.Strings.{Mark, strings}
use Rattle.sgml_decl_forms.specs.declared.map.ShortrefDeclaration.{ShortrefDeclaration}
use Rattle.sgml_decl_forms.specs.declared.map.UsemapDeclaration.{UsemapDeclaration}
use Rattle.sgml_dtd_maps.specs.declared.uses.MapUse.{MapUse}
use Rattle.sgml_dtd_maps.specs.Written.{written, pair_of, pairs_in}
use Rattle.sgml_dtd_maps.specs.Tables.{MapTable, map_in, use_in}
use Rattle.sgml_dtd_maps.specs.Rows.{map_reason, use_reason}
use Rattle.sgml_shortref.specs.Maps.{number_in}

-- a declaration of a map, or of a use
pub data Order : Type 0 where
  Shortref : ShortrefDeclaration → Order
  Usemap : UsemapDeclaration → Order

-- what is declared after a declaration: a map or a use more, unless it is refused
abbrev pub with_order : Syntax → MapTable → Order → MapTable
with_order syntax t (Shortref d) = if is_some (map_reason syntax t d) then t else record t { maps = t.maps ++ map_in syntax d ∷ [] }
with_order syntax t (Usemap d) = if is_some (use_reason syntax d) then t else record t { uses = t.uses ++ use_in syntax d ∷ [] }

abbrev pub nothing : MapTable
nothing = record { maps = []; uses = [] }

-- what these declarations declare
abbrev pub table_of : Syntax → List Order → MapTable
table_of syntax ds = fold (with_order syntax) nothing ds

-- the map of this number has this name
pub record IsMapOf (maps : List (List ℕ × List (ℕ × List ℕ))) (n : ℕ) (name : List ℕ) : Type 0 where
  pub pairs : List (ℕ × List ℕ)
  pub stands : slice_get maps n ≡ Some (name, pairs)

-- a map is the one that one of the declarations declares
pub record IsDeclaredMap (syntax : Syntax) (ds : List Order) (m : List ℕ × List (ℕ × List ℕ)) : Type 0 where
  pub place : ℕ
  pub declaration : ShortrefDeclaration
  pub stands : slice_get ds place ≡ Some (Shortref declaration)
  pub is_its : m ≡ map_in syntax declaration

-- a use is the one that one of the declarations declares
pub record IsDeclaredUse (syntax : Syntax) (ds : List Order) (u : MapUse) : Type 0 where
  pub place : ℕ
  pub declaration : UsemapDeclaration
  pub stands : slice_get ds place ≡ Some (Usemap declaration)
  pub is_its : u ≡ use_in syntax declaration

-- a use names this element type, and none before it does
pub record IsFirstUse (uses : List MapUse) (u : MapUse) (name : List ℕ) : Type 0 where
  pub before : List MapUse
  pub after : List MapUse
  pub are : uses ≡ before ++ u ∷ after
  pub names_it : has u.targets name ≡ true
  pub none_before : list_any (λ v. has v.targets name) before ≡ false

-- the literals are the strings of these pairs, in their order, and no string stands twice
pub record ArePairs (syntax : Syntax) (ps : List (List ℕ × List ℕ)) (pairs : List (ℕ × List ℕ)) : Type 0 where
  pub each : map (pair_of syntax) ps ≡ map (λ p. Some p) pairs
  pub once : (i j : ℕ) (p q : ℕ × List ℕ) → slice_get pairs i ≡ Some p → slice_get pairs j ≡ Some q → p.0 ≡ q.0 → i ≡ j

-- the string of this number is written so
pub record IsWritten (n : ℕ) (text : List ℕ) : Type 0 where
  pub marks : List Mark
  pub is_string : slice_get strings n ≡ Some marks
  pub is_text : text ≡ written marks

-- THE MAPS AND THE USES that are declared: each name finds its map, a map is found by its name, and each is one that was
-- declared
abbrev pub AreFoundByName : List (List ℕ × List (ℕ × List ℕ)) → Type 0
AreFoundByName maps = (name : List ℕ) (n : ℕ) → number_in maps name ≡ Some n → IsMapOf maps n name

abbrev pub AreNamed : List (List ℕ × List (ℕ × List ℕ)) → Type 0
AreNamed maps = (name : List ℕ) (n : ℕ) → IsMapOf maps n name → number_in maps name ≡ Some n

abbrev pub AreDeclaredMaps : Syntax → List Order → List (List ℕ × List (ℕ × List ℕ)) → Type 0
AreDeclaredMaps syntax ds maps = (n : ℕ) (m : List ℕ × List (ℕ × List ℕ)) → slice_get maps n ≡ Some m → IsDeclaredMap syntax ds m

abbrev pub AreDeclaredUses : Syntax → List Order → List MapUse → Type 0
AreDeclaredUses syntax ds uses = (n : ℕ) (u : MapUse) → slice_get uses n ≡ Some u → IsDeclaredUse syntax ds u

-- what is read of literals is their pairs, and pairs of literals are read
abbrev pub ReadIsPairs : Syntax → Type 0
ReadIsPairs syntax = (ps : List (List ℕ × List ℕ)) (pairs : List (ℕ × List ℕ)) → pairs_in syntax [] ps ≡ Some pairs → ArePairs syntax ps pairs

abbrev pub PairsAreRead : Syntax → Type 0
PairsAreRead syntax = (ps : List (List ℕ × List ℕ)) (pairs : List (ℕ × List ℕ)) → ArePairs syntax ps pairs → pairs_in syntax [] ps ≡ Some pairs
