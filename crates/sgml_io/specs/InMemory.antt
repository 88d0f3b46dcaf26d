-- What a store in memory holds and tells.
use Rattle.std.specs.Prelude.{ℕ, ◌<◌, List, Option, Some, length, slice_get}
use Rattle.sgml_io.specs.Files.{memory_files, left_of, Keeps, Opens}
use Rattle.sgml_io.specs.declared.memory.MemoryStore.{MemoryStore}

-- it tells all its files
abbrev pub files_told : MemoryStore → Option (List (List ℕ × List ℕ))
files_told s = Some (memory_files s.files.items)

-- what is left of an id
abbrev pub left_in : MemoryStore → ℕ → Option (List ℕ)
left_in s id = left_of s.files.items (slice_get s.opened.items id)

-- ids are given in order
abbrev pub IsGiven : MemoryStore → ℕ → Type 0
IsGiven s id = id < length s.opened.items

-- what was given and what is left of it stayed
abbrev pub KeepsAll : MemoryStore → MemoryStore → Type 0
KeepsAll before now = Keeps (IsGiven before) (IsGiven now) (left_in before) (left_in now)

-- a file was found, and has a new id, or none was; all else stayed
abbrev pub OpensOne : MemoryStore → MemoryStore → Option ℕ → Type 0
OpensOne before now found = Opens (IsGiven before) (IsGiven now) (left_in before) (left_in now) found
