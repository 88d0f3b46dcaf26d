-- How much of a document a parser was fed, and what it stands for then.
use Rattle.std.specs.Prelude.{◌≡◌, ℕ, ◌-◌, ◌<◌, ◌≤◌, Bool, true, false, List, [], ◌++◌, length, take, nat_lt, Option, Some, None, IfSome}
use Rattle.sgml_io.specs.Pieces.{HasMade, remaining}
use Rattle.sgml_parse.specs.theory_reading.Names.{Name, Text}
use Rattle.sgml_parse.specs.theory_reading.Pieces.{History}
use Rattle.sgml_parse.specs.theory_reading.Nest.{types}
use Rattle.sgml_parse.specs.theory_reading.Unread.{Input}
use Rattle.sgml_parse.specs.theory_reading.Events.{Event as Said}
use Rattle.sgml_parse.specs.declared.answer.Supply.{Supply}
use Rattle.sgml_parse.specs.Parsing.{Parser, IsParsing, IsAwaited, doctype_in}
use Rattle.sgml_parse.specs.Calls.{supplied_after}
use Rattle.sgml_source.specs.declared.source.Phase.{Phase}
use Rattle.sgml_source.specs.declared.source.Phase.TheVariants as phase
use Rattle.sgml_source.specs.declared.source.Source.{Source}
use Rattle.sgml_source.specs.Inputs.{Files, fetched_in}

-- THE PARSER was fed so many storage bytes, these, and these are left of the document: it stands for what was read of an
-- input of which as many of them are to come as the limit lets
pub record HasFed (limit : ℕ) (fed rest : List ℕ) (count : ℕ) (p : Parser) (I : Input) (h : History) (told : List Said) : Type 0 where
  pub so_far : Text
  pub counted : count ≡ length fed
  pub made : HasMade p.records fed so_far
  pub parsing : IsParsing p I (remaining p.records (take (limit - length fed) rest)) h told

-- what is left is what is left in the store, or nothing, or more than the limit lets
abbrev pub is_whole : Phase → Bool
is_whole phase.Whole = true
is_whole _ = false

abbrev pub IsInPhase : ℕ → Phase → Option (List ℕ) → List ℕ → ℕ → Type 0
IsInPhase limit phase.Going left rest count = left ≡ Some rest
IsInPhase limit phase.Whole left rest count = rest ≡ []
IsInPhase limit phase.Cut left rest count = (count ≡ limit) × (0 < length rest)

-- WHERE A DOCUMENT of these storage bytes is read within this limit, in a store that has so much left of each id
pub record IsAt (limit : ℕ) (bytes : List ℕ) (left : ℕ → Option (List ℕ)) (s : Source) (p : Parser) (I : Input) (h : History) (told : List Said) : Type 0 where
  pub limit_is : s.limit ≡ limit
  pub fed : List ℕ
  pub rest : List ℕ
  pub whole : bytes ≡ fed ++ rest
  pub has : HasFed limit fed rest s.fed p I h told
  pub in_phase : IsInPhase limit s.phase (left s.id) rest s.fed
  -- the tables are those of what was read
  pub typed : doctype_in p.reading ≡ types h

-- AT ANY MOMENT, whether the store tells what it has or not
pub record IsGoing (s : Source) (p : Parser) : Type 0 where
  pub within : s.fed ≤ s.limit
  pub ended : p.ended ≡ is_whole s.phase
  pub well : p.failed ≡ None

-- the parser reads on where it stood
pub record StaysThere (old new : Parser) : Type 0 where
  pub reading : new.reading ≡ old.reading
  pub failed : new.failed ≡ None

-- A PIECE WAS FED
abbrev pub FeedsPiece : ℕ → ℕ → Parser → List ℕ → ℕ → Parser → Type 0
FeedsPiece limit count old piece count' new =
    (fed rest : List ℕ) (I : Input) (h : History) (told : List Said) → HasFed limit fed (piece ++ rest) count old I h told → HasFed limit (fed ++ piece) rest count' new I h told

-- THE DOCUMENT IS WHOLE, and wasn't cut
abbrev pub EndsThere : ℕ → ℕ → Parser → Parser → Type 0
EndsThere limit count old new =
    (fed : List ℕ) (I : Input) (h : History) (told : List Said) → I.was_cut ≡ false → HasFed limit fed [] count old I h told → HasFed limit fed [] count new I h told

-- MORE OF THE DOCUMENT WAS READ, or its end was: what was read of it, it stands for still
abbrev pub FeedsOn : (ℕ → Option (List ℕ)) → Source → Parser → (ℕ → Option (List ℕ)) → Source → Parser → Type 0
FeedsOn left s p left' s' p' =
    (limit : ℕ) (bytes : List ℕ) (I : Input) (h : History) (told : List Said) → I.was_cut ≡ nat_lt limit (length bytes)
    → IsAt limit bytes left s p I h told → IsAt limit bytes left' s' p' I h told

-- THE FILE OF THIS NAME WAS READ, if the limit lets it, and given as the text of an entity, where that may be supplied
abbrev pub SuppliesFrom : ℕ → Files → ℕ → Name → Parser → Parser → Type 0
SuppliesFrom limit files entity name old new =
    (I : Input) (more : Text) (h : History) (told : List Said) → IsAwaited old (record { entity = entity; name = name }) → I.outside.fetched name ≡ fetched_in limit files name
    → IsParsing old I more h told → IsParsing new I more h told

abbrev pub SuppliesIfTold : ℕ → Option Files → ℕ → Name → Parser → Parser → Type 0
SuppliesIfTold limit told entity name old new = IfSome told (λ files. SuppliesFrom limit files entity name old new)

abbrev pub IsSupplied : ℕ → Parser → Parser → Type 0
IsSupplied entity old new = (given : Supply) × (new ≡ supplied_after entity given old)

-- SO WERE ALL that weren't supplied
abbrev pub SuppliesRest : ℕ → Files → Parser → Parser → Type 0
SuppliesRest limit files old new =
    (I : Input) (more : Text) (h : History) (told : List Said) → ((name : Name) → I.outside.fetched name ≡ fetched_in limit files name) → IsParsing old I more h told → IsParsing new I more h told

abbrev pub SuppliesRestIfTold : ℕ → Option Files → Parser → Parser → Type 0
SuppliesRestIfTold limit told old new = IfSome told (λ files. SuppliesRest limit files old new)
