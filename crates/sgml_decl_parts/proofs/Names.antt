-- A name start character is a name character.
use Rattle.std.proofs.Common.{◌≡◌, ℕ, ◌<◌, Bool, true, false, List, [], ◌∷◌, ◌||◌, refl, arith}
use Rattle.std.specs.List.{prefix_len}
use Rattle.sgml_text.specs.declared.name_set.NameSet.{NameSet}
use Rattle.sgml_text.specs.NameCharacters.{is_name_start, is_name_character, is_marked}
use Rattle.sgml_text.specs.Characters.{is_letter, is_digit}
use Rattle.sgml_decl_parts.specs.Bytes.{name_length, begins_name}

either : (a b c d : Bool) → (a || b) ≡ true → ((a || c) || b) || d ≡ true
either true b c d is = refl
either false true true d is = refl
either false true false d is = refl
either false false c d is = cc

pub start-goes-on : (names : NameSet) (b : ℕ) → is_name_start names b ≡ true → is_name_character names b ≡ true
start-goes-on names b is = either (is_letter b) (is_marked names.start b) (is_digit b) (is_marked names.more b) is

some : (p : ℕ → Bool) (b : ℕ) (bytes : List ℕ) → p b ≡ true → 0 < prefix_len p (b ∷ bytes)
some p b bytes is = rw is (omega arith)

pub name-some : (names : NameSet) (bytes : List ℕ) → begins_name names bytes ≡ true → 0 < name_length names bytes
name-some names [] is = cc
name-some names (b ∷ bytes) is = some (is_name_character names) b bytes (start-goes-on names b is)
