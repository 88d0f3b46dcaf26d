-- Data whose characters stand as bytes.
use Rattle.std.proofs.Common.{◌≡◌, ℕ, List, [], ◌∷◌, ◌++◌, map, refl, sym, ap}
use Rattle.std.specs.Prelude.{flat_map}
use Rattle.std.proofs.lemmas.List.Folds.{flat_map-map}
use Rattle.sgml_text.specs.Units.{characters}
use Rattle.sgml_dtd.specs.Doctypes.{Doctype}
use Rattle.sgml_said.specs.theory_reading.Types.{name_of_entity}
use Rattle.sgml_esis.specs.Spelling.{spell_names}
use Rattle.sgml_full.specs.Spelled.{has_map, spelled_byte, spelled_unit, raw_byte, raw_unit}

pub characters_spelled : (d : Doctype) (bytes : List ℕ) → flat_map (spelled_unit d) (characters bytes) ≡ flat_map (spelled_byte (has_map d)) bytes
characters_spelled d [] = refl
characters_spelled d (b ∷ bs) = ap (λ v. spelled_byte (has_map d) b ++ v) (characters_spelled d bs)

pub characters_raw : (d : Doctype) (bytes : List ℕ) → flat_map (raw_unit d) (characters bytes) ≡ flat_map (λ b. raw_byte b ∷ []) bytes
characters_raw d [] = refl
characters_raw d (b ∷ bs) = ap (λ v. raw_byte b ∷ v) (characters_raw d bs)

pub names_spelled : (d : Doctype) (numbers : List ℕ) → flat_map (λ number. 32 ∷ name_of_entity d number) numbers ≡ spell_names (map (name_of_entity d) numbers)
names_spelled d numbers = sym (flat_map-map (λ (name : List ℕ). 32 ∷ name) (name_of_entity d) numbers)
