-- Text that is taken where content is scanned without NET and maps, with no tag left out before it, so that what follows
-- is scanned as it was.
use Rattle.std.specs.Prelude.{◌≡◌, ℕ, Bool, true, false, List, Ok, take, if◌then◌else◌}
use Rattle.sgml_scan.specs.markup.declared.kinds.TokenKind.TheVariants as kind
use Rattle.sgml_scan.specs.declared.state.ScanState.{ScanState}
use Rattle.sgml_scan.specs.declared.state.Token.{Token}
use Rattle.sgml_scan.specs.Tokens.{IsScanned, token}
use Rattle.sgml_events.specs.declared.event.Event.{Event}
use Rattle.sgml_infer.specs.theory_reading.Names.{Text}
use Rattle.sgml_infer.specs.theory_reading.Pieces.{Kind}
use Rattle.sgml_prolog_steps.specs.Found.{rest_in}
use Rattle.sgml_prolog_steps.specs.declaring.Files.{Choices}
use Rattle.sgml_content_steps.specs.Content.{Content}
use Rattle.sgml_content_steps.specs.Steps.{IsStep, TellsBy}
use Rattle.sgml_content_data.specs.Roles.{around_of}
use Rattle.sgml_content_data.specs.Steps.{AreThere, TellsRead, TellsPiece, TellsStretch}
use Rattle.sgml_content_steps.specs.Plainly.{plain_state, IsScannedIn, TellsPlainly, LeavesAll, TakesSome}

-- it goes on to be scanned as it was, and the same is around what stands there
pub record StaysAlike (old new : Content) : Type 0 where
  pub scanned : (st : ScanState) → IsScannedIn st old → IsScannedIn st new
  pub around : around_of new ≡ around_of old

-- so many bytes of a text are scanned there as characters
abbrev pub AreCharacters : Content → List ℕ → ℕ → Type 0
AreCharacters c text n = (ended : Bool) → IsScanned c.kept.doctype.syntax plain_state ended text (token kind.Chars n)

-- SOMETHING IS TAKEN, or all is as it was
abbrev pub TakesOr : Type 0 → Content → Content → List Event → List Event → Bool → Type 0
TakesOr takes old new before after true = takes
TakesOr takes old new before after false = LeavesAll old new before after

-- a piece of so many bytes
abbrev pub TakesOne : List (ℕ × Text) → ℕ → Kind → Content → Content → List Event → List Event → Bool → Type 0
TakesOne texts n y old new before after went = TakesOr (TellsPiece texts n y old new before after (Ok tt)) old new before after went

-- a stretch of so many characters
abbrev pub TakesRow : List (ℕ × Text) → ℕ → Content → Content → List Event → List Event → Bool → Type 0
TakesRow texts n old new before after went =
    TakesOr (TellsStretch texts (take n (rest_in old.kept texts)) old new before after (Ok tt)) old new before after went

-- of so many characters those at the front
abbrev pub chars : ℕ → Token
chars n = record { kind = kind.Chars; length = n }

abbrev pub TakesFront : List (ℕ × Text) → ℕ → Content → Content → List Event → List Event → Bool → Type 0
TakesFront texts n old new before after went = TakesOr (TellsRead texts (chars n) old new before after (Ok tt)) old new before after went

-- of a stretch of so many characters, where they stand as content is scanned here
abbrev pub TellsBegun : List (ℕ × Text) → ℕ → Content → Content → List Event → List Event → Type 0
TellsBegun texts n old new before after =
    TellsBy (λ told. (c : Choices) (ended : Bool) → AreThere old.kept plain_state texts ended (take n (rest_in old.kept texts))
    → IsStep c plain_state texts ended old new told (Ok tt)) old.kept before after

abbrev pub TakesBegun : List (ℕ × Text) → ℕ → Content → Content → List Event → List Event → Bool → Type 0
TakesBegun texts n old new before after went = TakesOr (TellsBegun texts n old new before after) old new before after went

-- by how many bytes were taken
abbrev pub TakesText : List (ℕ × Text) → Content → Content → List Event → List Event → ℕ → Type 0
TakesText texts old new before after n = TakesSome (TellsPlainly texts old new before after) old new before after n

abbrev pub counted : ℕ → Bool → ℕ
counted n went = if went then n else 0
