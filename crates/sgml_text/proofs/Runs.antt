-- How long a run is.
use Rattle.std.proofs.Common.{◌≡◌, ◌+◌, ℕ, Bool, true, false, List, [], ◌∷◌, length, refl, arith, if◌then◌else◌}
use Rattle.std.specs.List.{prefix_len}
use Rattle.sgml_text.specs.Runs.{run_of}

either : (p : ℕ → Bool) (b : ℕ) (bytes : List ℕ) (t : Bool) → p b ≡ t → length (run_of p bytes) ≡ prefix_len p bytes → length (run_of p (b ∷ bytes)) ≡ prefix_len p (b ∷ bytes)
either p b bytes true is same = rw is (omega (arith, same))
either p b bytes false is same = rw is refl

pub run_length : (p : ℕ → Bool) (bytes : List ℕ) → length (run_of p bytes) ≡ prefix_len p bytes
run_length p [] = refl
run_length p (b ∷ bytes) = either p b bytes (p b) refl (run_length p bytes)
