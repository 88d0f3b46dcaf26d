-- A RECORD END AT THE HEAD of a short reference string that stands for itself (9.4.6).
use Rattle.std.specs.Prelude.{◌≡◌, ℕ, Bool, true, false, ◌==◌, ◌&&◌, List, [], ◌∷◌}
use Rattle.sgml_theory_full.specs.records.Facts.{takes_end}
use Rattle.sgml_theory_full.specs.theory_reading.Pieces.{Kind, Ordinary, ShortRef, History}
use Rattle.sgml_theory_full.specs.theory_reading.Characters.{facts_in}
use Rattle.sgml_theory_full.specs.theory_reading.Reads.{Move}
use Rattle.sgml_theory_again.specs.Moves.{state_at, OfEach}

-- a short reference
abbrev pub is_string : Kind → Bool
is_string (ShortRef string meaning) = true
is_string kind = false

-- of the strings of the syntax only the one that is a record end begins with one
abbrev pub begins_with_end : List ℕ → Bool
begins_with_end [] = false
begins_with_end (b ∷ bytes) = b == 13

-- it is data by what stands before it where it is read
abbrev pub is_live_end : Kind → Bool
is_live_end (ShortRef string (Ordinary has_items content)) = content && begins_with_end string
is_live_end kind = false

-- then it is data as well in the element in which it stands after the tags that are left out before it (7.6.1)
abbrev pub StringEndStays : History → Move → Type 0
StringEndStays h m = is_live_end m.visible.kind ≡ true → takes_end (facts_in (state_at h m.omitted).record_ends) ≡ true

abbrev pub StringEndsStay : History → List Move → Type 0
StringEndsStay h ns = OfEach StringEndStays h ns
