-- Hashes that are found by their slots.
use Rattle.std.specs.Prelude.{ℕ, zero, suc, ◌-◌, ◌<◌, ◌≤◌, ◌≡◌, ◌==◌, List, length, map, slice_index, get_or, Option, Some, None, if◌then◌else◌, bit_and}
use Rattle.sgml_names.specs.Index.{table_limit}
use Rattle.sgml_names.specs.declared.slots.Link.{Link}

abbrev pub hashes_of : List Link → List ℕ
hashes_of links = map (λ link. link.hash) links

-- the slot of a hash, where there are so many slots
abbrev pub slot_of : ℕ → ℕ → ℕ
slot_of slots hash = bit_and hash (slots - 1)

-- the last place of the hash among the first n of these
abbrev pub latest : ℕ → List ℕ → ℕ → Option ℕ
latest hash hashes zero = None
latest hash hashes (suc n) = if hash == slice_index hashes n then Some n else latest hash hashes n

-- the last place, counted from 1, of a hash of the slot among the first n of these; 0 if there is none
abbrev pub newest : ℕ → ℕ → List ℕ → ℕ → ℕ
newest slots slot hashes zero = 0
newest slots slot hashes (suc n) = if slot_of slots (slice_index hashes n) == slot then suc n else newest slots slot hashes n

-- the place, counted from 1, is that of a hash of the same slot as this one
pub record IsChained (slots hash : ℕ) (hashes : List ℕ) (place : ℕ) : Type 0 where
  pub within : place ≤ length hashes
  pub same : (p : ℕ) → place ≡ suc p → slot_of slots (slice_index hashes p) ≡ slot_of slots hash

-- from each slot and from each of its hashes the last one before it is known
pub record Linked (links : List Link) (last : List ℕ) : Type 0 where
  pub some : 0 < length last
  pub room : length links ≤ table_limit
  pub heads : (s : ℕ) → s < length last → slice_index last s ≡ newest (length last) s (hashes_of links) (length links)
  pub tails : (i : ℕ) (d : Link) → i < length links → (get_or links i d).earlier ≡ newest (length last) (slot_of (length last) (get_or links i d).hash) (hashes_of links) i
