-- Where a writer stands that holds bytes back: what the sink has taken and what is held are what was put, or the sink
-- failed and has taken a front of it.
use Rattle.std.specs.Prelude.{◌≡◌, ℕ, ◌≤◌, Bool, true, false, if◌then◌else◌, List, [], ◌∷◌, ◌++◌, Option}
use Rattle.std.specs.Io.KnownBytes.{Appends}
use Rattle.sgml_io.specs.Causes.{Rose}
use Rattle.sgml_io.specs.Writes.{AppendsFront}

abbrev pub Wrote : Bool → Option (List ℕ) → Option (List ℕ) → List ℕ → List ℕ → Type 0
Wrote false start taken held bytes = (front : List ℕ) × Appends start taken front × (front ++ held ≡ bytes)
Wrote true start taken held bytes = AppendsFront start taken bytes

-- since the sink had taken `start` and failed `count` times, these bytes were put
pub record Stands (start : Option (List ℕ)) (count : ℕ) (taken : Option (List ℕ)) (faults : ℕ) (held : List ℕ × Bool) (bytes : List ℕ) : Type 0 where
  pub wrote : Wrote held.1 start taken held.0 bytes
  pub later : count ≤ faults
  pub failed : held.1 ≡ true → Rose count faults

-- one more stretch was put, whatever was put before
pub record Puts (taken_old : Option (List ℕ)) (faults_old : ℕ) (held_old : List ℕ × Bool) (taken_new : Option (List ℕ)) (faults_new : ℕ) (held_new : List ℕ × Bool) (bytes : List ℕ) : Type 0 where
  pub goes_on : (start : Option (List ℕ)) (count : ℕ) (before : List ℕ) → Stands start count taken_old faults_old held_old before → Stands start count taken_new faults_new held_new (before ++ bytes)

-- these bytes were put into a sink of which it is told what it has taken and how often it failed: with what
-- is held for it, before and now
abbrev pub PutsInto : {S : Type 0} → (S → Option (List ℕ)) → (S → ℕ) → S → List ℕ × Bool → S → List ℕ × Bool → List ℕ → Type 0
PutsInto taken faults sink held sink_now held_now bytes =
    Puts (taken sink) (faults sink) held (taken sink_now) (faults sink_now) held_now bytes

-- a byte where it is wanted
abbrev pub where_wanted : Bool → ℕ → List ℕ
where_wanted wanted b = if wanted then b ∷ [] else []
