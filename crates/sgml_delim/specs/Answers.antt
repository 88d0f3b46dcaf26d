-- Answers that hold whatever follows.
use Rattle.std.specs.Prelude.{◌≡◌, ◌≢◌, ℕ, Bool, true, false, List, [], ◌∷◌, ◌++◌, Option, None, Some, length, IsTrue, ◌⊎◌, ◌≤◌}
use Rattle.sgml_syntax.specs.declared.syntax.Syntax.{Syntax}
use Rattle.sgml_delim.specs.declared.delim.Delim.{Delim}
use Rattle.sgml_delim.specs.declared.delim.Mode.{Mode}
use Rattle.sgml_delim.specs.declared.delim.Verdict.{Verdict}
use Rattle.sgml_delim.specs.declared.delim.Verdict.TheVariants.{Holds, Fails, Undecided}
use Rattle.sgml_delim.specs.declared.delim.Recognised.{Recognised}
use Rattle.sgml_delim.specs.declared.delim.Recognised.TheVariants.{Found, Plain, NeedMore}
use Rattle.sgml_delim.specs.Tables.{string, begins, stands, delims, first_that}

-- what may follow a text: anything, and nothing where it has ended
abbrev pub MayFollow : Bool → List ℕ → Type 0
MayFollow ended rest = IsTrue ended → rest ≡ []

-- the answer about a whole text is this, whatever follows
abbrev pub Stays : {A : Type 0} → Bool → (List ℕ → A) → List ℕ → A → Type 0
Stays ended answer bytes told = (rest : List ℕ) → MayFollow ended rest → answer (bytes ++ rest) ≡ told

-- two texts that follow give different answers
pub record Differs {A : Type 0} (ended : Bool) (answer : List ℕ → A) (bytes : List ℕ) : Type 0 where
  pub goes_on : ended ≡ false
  pub one : List ℕ
  pub other : List ℕ
  pub differ : answer (bytes ++ one) ≢ answer (bytes ++ other)

-- a test holds of the text with one continuation, and fails with another
pub record IsUndecided (ended : Bool) (test : List ℕ → Bool) (bytes : List ℕ) : Type 0 where
  pub goes_on : ended ≡ false
  pub holds : (rest : List ℕ) × (test (bytes ++ rest) ≡ true)
  pub fails : (rest : List ℕ) × (test (bytes ++ rest) ≡ false)

-- whether a test holds of a text, whatever follows
abbrev pub Decides : Bool → (List ℕ → Bool) → List ℕ → Verdict → Type 0
Decides ended test bytes Holds = Stays ended test bytes true
Decides ended test bytes Fails = Stays ended test bytes false
Decides ended test bytes Undecided = IsUndecided ended test bytes

-- the string is the text and at least one byte more
pub record EndsInside (ended : Bool) (string bytes : List ℕ) : Type 0 where
  pub goes_on : ended ≡ false
  pub first : ℕ
  pub more : List ℕ
  pub is : string ≡ bytes ++ (first ∷ more)

abbrev pub DecidesPrefix : Bool → List ℕ → List ℕ → Verdict → Type 0
DecidesPrefix ended string bytes Holds = (more : List ℕ) × (bytes ≡ string ++ more)
DecidesPrefix ended string bytes Fails = Stays ended (begins string) bytes false
DecidesPrefix ended string bytes Undecided = EndsInside ended string bytes

abbrev pub undecided : Bool → Verdict
undecided true = Fails
undecided false = Undecided

-- the answer about a whole text is this whatever follows, or two continuations give different ones
abbrev pub Answers : Bool → (List ℕ → Option Delim) → List ℕ → Recognised → Type 0
Answers ended answer bytes (Found x n) = (n ≡ length (string x)) × Stays ended answer bytes (Some x)
Answers ended answer bytes Plain = Stays ended answer bytes None
Answers ended answer bytes NeedMore = Differs ended answer bytes

-- the first of these delimiters that a whole text begins with
abbrev pub is_first : Syntax → Mode → Bool → List Delim → List ℕ → Option Delim
is_first s m net xs bytes = first_that (λ x. stands s m net x bytes) xs

-- the delimiter of the mode that a whole text begins with
abbrev pub answer : Syntax → Mode → Bool → List ℕ → Option Delim
answer s m net bytes = is_first s m net (delims m) bytes

-- x is one of these
abbrev pub Among : List Delim → Delim → Type 0
Among [] x = ⊥
Among (y ∷ ys) x = (y ≡ x) ⊎ Among ys x

-- a delimiter stands there, and none of these that stands there is longer
abbrev pub Says : (Delim → Bool) → List Delim → Option Delim → Type 0
Says stands xs None = (y : Delim) → Among xs y → stands y ≡ false
Says stands xs (Some x) =
    Among xs x × (stands x ≡ true)
    × ((y : Delim) → Among xs y → stands y ≡ true → length (string y) ≤ length (string x))

-- the longest delimiter of the mode that a whole text begins with, or none
abbrev pub IsRecognised : Syntax → Mode → Bool → List ℕ → Option Delim → Type 0
IsRecognised s m net bytes o = Says (λ x. stands s m net x bytes) (delims m) o

-- an answer other than that more decides
abbrev pub IsTold : Recognised → Type 0
IsTold NeedMore = ⊥
IsTold _ = Unit {0}
