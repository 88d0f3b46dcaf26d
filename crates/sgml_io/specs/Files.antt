-- What a store holds, where it tells that, and what its calls do.
use Rattle.std.specs.Prelude.{◌≡◌, ℕ, ◌<◌, ◌≤◌, List, [], ◌∷◌, ◌++◌, length, drop, map, Option, None, Some, Result, Ok, Err, IfSome, ⊤, Vec, if◌then◌else◌, bytes_eq, slice_get}
use Rattle.std.specs.declared.alloc.Global.{Global}
use Rattle.sgml_io.specs.declared.fetching.FetchError.{FetchError}
use Rattle.sgml_io.specs.declared.fetching.FetchError.TheVariants as errors
use Rattle.sgml_io.specs.declared.memory.MemoryFile.{MemoryFile}
use Rattle.sgml_io.specs.declared.memory.Opened.{Opened}

-- the bytes under a name, the first of it
abbrev pub file_in : List (List ℕ × List ℕ) → List ℕ → Option (List ℕ)
file_in [] name = None
file_in (file ∷ files) name = if bytes_eq file.0 name then Some file.1 else file_in files name

-- What `find` answered: a new id of which the name's bytes are left, or None where the name isn't there.
-- A store that doesn't tell its files says nothing here.
abbrev pub Finds : Option (List (List ℕ × List ℕ)) → List ℕ → (ℕ → Option (List ℕ)) → Option ℕ → Type 0
Finds None name left found = ⊤
Finds (Some files) name left None = file_in files name ≡ None
Finds (Some files) name left (Some id) = (bytes : List ℕ) × (file_in files name ≡ Some bytes) × (left id ≡ Some bytes)

-- each id that was given is given still, and what is left of it is what was left
abbrev pub Keeps : (ℕ → Type 0) → (ℕ → Type 0) → (ℕ → Option (List ℕ)) → (ℕ → Option (List ℕ)) → Type 0
Keeps before now left_before left_now = (id : ℕ) → before id → now id × (left_now id ≡ left_before id)

-- the id is new, and each other one stays as it was
pub record Opens (before now : ℕ → Type 0) (left_before left_now : ℕ → Option (List ℕ)) (found : Option ℕ) : Type 0 where
  pub fresh : IfSome found (λ id. (before id → ⊥) × now id)
  pub keeps : Keeps before now left_before left_now

-- The bytes of a file, seen by `fetch`: the whole text up to the limit, `None` where it isn't there,
-- `TooLarge` exactly past the limit.
abbrev pub Fetches : Option (List ℕ) → ℕ → Result (Option (Vec ℕ Global)) FetchError → Type 0
Fetches file limit (Ok None) = file ≡ None
Fetches file limit (Ok (Some v)) = (file ≡ Some v.items) × (length v.items ≤ limit)
Fetches file limit (Err errors.TooLarge) = (bytes : List ℕ) × (file ≡ Some bytes) × (limit < length bytes)
Fetches file limit (Err errors.Fault) = ⊤
Fetches file limit (Err errors.Memory) = ⊤

-- where the store tells its files
abbrev pub FetchesFrom : Option (List (List ℕ × List ℕ)) → List ℕ → ℕ → Result (Option (Vec ℕ Global)) FetchError → Type 0
FetchesFrom None name limit result = ⊤
FetchesFrom (Some files) name limit result = Fetches (file_in files name) limit result

-- bytes were read, and the rest of the whole is left, where that is told
abbrev pub IsRest : Option (List ℕ) → List ℕ → Option (List ℕ) → Type 0
IsRest None bytes left = ⊤
IsRest (Some whole) bytes None = ⊥
IsRest (Some whole) bytes (Some rest) = whole ≡ bytes ++ rest

-- files in memory as pairs of a name and bytes
abbrev pub memory_files : List MemoryFile → List (List ℕ × List ℕ)
memory_files files = map (λ f. (f.name.items, f.bytes.items)) files

abbrev pub file_bytes : Option MemoryFile → List ℕ
file_bytes None = []
file_bytes (Some f) = f.bytes.items

-- what is left of an open file
abbrev pub left_of : List MemoryFile → Option Opened → Option (List ℕ)
left_of files None = None
left_of files (Some o) = Some (drop o.at (file_bytes (slice_get files o.file)))

-- where the first file of a name stands
abbrev pub PlaceOf : List MemoryFile → List ℕ → Option ℕ → Type 0
PlaceOf files name None = file_in (memory_files files) name ≡ None
PlaceOf files name (Some i) = file_in (memory_files files) name ≡ Some (file_bytes (slice_get files i))
