-- What the reader of the prolog answers, by what reads of the input.
use Rattle.std.specs.Prelude.{◌≡◌, ◌<◌, ◌⊎◌, ℕ, ◌==◌, if◌then◌else◌, Bool, true, false, ◌++◌, ◌∷◌, [], List, Option, Some, None, unwrap_or, Result, Ok, Err, IfSome, map}
use Rattle.sgml_text.specs.declared.reason.Reason.{Reason}
use Rattle.sgml_syntax.specs.declared.syntax.Syntax.{Syntax}
use Rattle.sgml_syntax.specs.Implied.{implied_syntax}
use Rattle.sgml_entity.specs.Stack.{is_on, place_at}
use Rattle.sgml_entity.specs.Texts.{text_of}
use Rattle.sgml_dtd.specs.Doctypes.{nothing}
use Rattle.sgml_declared.specs.theory_reading.Facets.{AtBeginning, subset_number}
use Rattle.sgml_declared.specs.decl_lexemes.Sources.{or_empty}
use Rattle.sgml_declared.specs.theory_reading.Names.{Name, Text}
use Rattle.sgml_declared.specs.theory_reading.Pieces.{Piece, Pi, History}
use Rattle.sgml_declared.specs.theory_reading.Unread.{Input, Outside, Found, opening}
use Rattle.sgml_declared.specs.theory_reading.State.{state}
use Rattle.sgml_declared.specs.theory_reading.Reads.{Reads, ReadOn, after_moves, Stops, stop_place, had_border}
use Rattle.sgml_declared.specs.theory_spelling.Decided.{decided}
use Rattle.sgml_declared.specs.theory_spelling.References.{missing_fetched}
use Rattle.sgml_declared.specs.theory_spelling.Spelled.{forms}
use Rattle.sgml_declared.specs.theory_standing.Supplied.{MayFollow}
use Rattle.sgml_declared.specs.theory_standing.Kept.{Kept, Stands, given}
use Rattle.sgml_declared.specs.theory_standing.Laws.{Gain}
use Rattle.sgml_declared.specs.theory_standing.Prologs.{is_in_prolog, is_over, alone}
use Rattle.sgml_declared.specs.declared.noted.Noted.{Noted}
use Rattle.sgml_declared.specs.Files.{Choices, IsOutsideOf, IsNoted}
use Rattle.sgml_prolog_steps.specs.Standing.{IsKept}
use Rattle.sgml_prolog_steps.specs.Steps.{are_silent, IsFileNext, IsAskedFor}
use Rattle.sgml_prolog.specs.declared.answer.PrologStep.{PrologStep}
use Rattle.sgml_prolog.specs.declared.answer.PrologStep.TheVariants as step
use Rattle.sgml_prolog.specs.declared.answer.PrologError.{PrologError}
use Rattle.sgml_prolog.specs.declared.answer.PrologError.TheVariants as error

-- the reader
pub record Reader : Type 0 where
  pub options : Choices
  pub kept : Kept
  -- the name of the file that was asked for as the external subset
  pub asked : Option Name
  -- what it answered, if that was an error
  pub failed : Option PrologError

-- at any moment
pub record IsSound (c : Choices) (k : Kept) : Type 0 where
  pub kept : IsKept k
  -- the limit of what may be opened is that of the options
  pub expand : k.stack.expand ≡ c.expand

-- and the file that was noted of a declaration is one of its options
pub record IsFit (c : Choices) (k : Kept) (file : Option Noted) : Type 0 where
  pub sound : IsSound c k
  pub noted : IfSome file (IsNoted c)

-- WHAT IT STANDS FOR: what was read of the input is of the prolog, and it keeps what that says
pub record IsReading (r : Reader) (texts : List (ℕ × Text)) (ended : Bool) (I : Input) (more : Text) (h : History) : Type 0 where
  pub well : r.failed ≡ None
  pub of_options : IsOutsideOf r.options I.outside
  pub stands : Stands r.kept texts I more h
  pub asked_for : IsAskedFor I.outside r.kept texts r.asked
  pub follows : MayFollow ended I more
  pub in_prolog : is_in_prolog h ≡ true
  -- it has passed no border: the one at which the prolog is over is the first
  pub none_before : had_border h ≡ false

-- The text in this file is to be given, which isn't being read: for each input that it may be reading of
-- which the file isn't there, or is too large there, reading stops here for that.
pub record IsWanted (r : Reader) (texts : List (ℕ × Text)) (ended : Bool) (I : Input) (h : History) (number : ℕ) (file : Name) : Type 0 where
  pub unread : is_on number r.kept.stack.places ≡ false
  pub not_given : text_of texts number ≡ None
  pub named : IsFileNext I.outside r.kept number file
  -- of the external subset the name is noted
  pub asked : number ≡ subset_number → r.asked ≡ Some file
  pub stops : (J : Input) (more : Text) → IsReading r texts ended J more h
      → (why : Reason) → missing_fetched (J.outside.fetched file) ≡ Some why → Stops forms J h why

-- an instruction reads next
pub record IsTold (new : Reader) (texts : List (ℕ × Text)) (ended : Bool) (I : Input) (more : Text) (h : History) (text : Text) (entity : Option ℕ) : Type 0 where
  pub piece : Piece
  pub reads : Reads forms I h (alone piece)
  pub is : piece.kind ≡ Pi text entity
  pub goes_on : IsReading new texts ended I more (piece ∷ h)

abbrev pub Leads : Reader → List (ℕ × Text) → Bool → Input → Text → History → Result PrologStep PrologError → Type 0
Leads new texts ended I more h (Ok (step.Pi text entity place)) = IsTold new texts ended I more h text entity × (place ≡ stop_place h)
Leads new texts ended I more h (Ok (step.Want number file)) = IsReading new texts ended I more h × IsWanted new texts ended I h number file
Leads new texts ended I more h (Ok step.More) =
    IsReading new texts ended I more h × (ended ≡ false) × (decided I.outside (state h) (given new.kept texts) ≡ false)
Leads new texts ended I more h (Ok step.Done) = IsReading new texts ended I more h × (is_over new.kept ≡ true)
Leads new texts ended I more h (Err (error.Refused x)) = Stops forms I h x.reason × (x.place ≡ stop_place h) × Stands new.kept texts I more h
Leads new texts ended I more h (Err error.Memory) = Unit {0}

-- after some pieces of which nothing is told
pub record Answers (new : Reader) (texts : List (ℕ × Text)) (ended : Bool) (I : Input) (more : Text) (h : History) (result : Result PrologStep PrologError) : Type 0 where
  pub pieces : List Piece
  pub silent : are_silent pieces ≡ true
  pub read : ReadOn forms I h (map alone pieces)
  pub in_prolog : is_in_prolog (after_moves h (map alone pieces)) ≡ true
  pub leads : Leads new texts ended I more (after_moves h (map alone pieces)) result

-- THE ANSWER, for every input that it may be reading, and all that was read of it
abbrev pub NextIsReading : Reader → Reader → List (ℕ × Text) → Bool → Result PrologStep PrologError → Type 0
NextIsReading old new texts ended result =
    (I : Input) (more : Text) (h : History) → IsReading old texts ended I more h → Answers new texts ended I more h result

-- the error that is answered
abbrev pub error_in : Result PrologStep PrologError → Option PrologError
error_in (Ok x) = None
error_in (Err e) = Some e

-- the name of the file that was asked for last as the external subset
abbrev pub asked_after : ℕ → Name → Option Name → Option Name
asked_after number file asked = if number == subset_number then Some file else asked

abbrev pub asked_in : Result PrologStep PrologError → Option Name → Option Name
asked_in (Ok (step.Want number file)) asked = asked_after number file asked
asked_in _ asked = asked

-- the document type has been read where that is answered
abbrev pub IsOverIfDone : Kept → Result PrologStep PrologError → Type 0
IsOverIfDone k (Ok step.Done) = is_over k ≡ true
IsOverIfDone k _ = Unit {0}

-- the same of its parts
abbrev pub reader : Choices → Kept → Option Name → Option PrologError → Reader
reader c k asked failed = record { options = c; kept = k; asked = asked; failed = failed }

abbrev pub ReadsOn : Choices → List (ℕ × Text) → Bool → Kept → Kept → Option Name → Option Name → Result PrologStep PrologError → Type 0
ReadsOn c texts ended old new asked asked' result = NextIsReading (reader c old asked None) (reader c new asked' None) texts ended result

-- what is kept before the first byte
abbrev pub start_of : Syntax → ℕ → Kept
start_of syntax expand = record {
  doctype = nothing syntax;
  stack = record { levels = syntax.quantities.entlvl; expand = expand; spent = 0; places = place_at 0 0 ∷ [] };
  sections = [];
  stage = AtBeginning;
  subset = None;
}

-- AT FIRST it stands for nothing read of each document, of which as much was given as there is, where no
-- other text was
pub record IsFresh (declaration : Option Syntax) (c : Choices) (texts : List (ℕ × Text)) (ended : Bool) (I : Input) (more : Text) : Type 0 where
  pub of_options : IsOutsideOf c I.outside
  pub syntax : I.outside.syntax ≡ unwrap_or declaration implied_syntax
  pub document : I.document ≡ or_empty (text_of texts 0) ++ more
  pub none_given : (number : ℕ) → 0 < number → text_of texts number ≡ None
  pub follows : MayFollow ended I more

abbrev pub BeginsAtStart : Option Syntax → Choices → Reader → Type 0
BeginsAtStart declaration c r =
    (texts : List (ℕ × Text)) (ended : Bool) (I : Input) (more : Text)
    → IsFresh declaration c texts ended I more → IsReading r texts ended I more (opening I.outside)

-- MORE TEXTS: a text of the external subset that is there only now is the one in the file that was asked for
abbrev pub IsSubsetAsAsked : Outside → Reader → List (ℕ × Text) → List (ℕ × Text) → Type 0
IsSubsetAsAsked outside r old new =
    (text : Text) → text_of new subset_number ≡ Some text
    → (text_of old subset_number ≡ Some text) ⊎ ((file : Name) × (r.asked ≡ Some file) × (outside.fetched file ≡ Found text))

-- then it stands for what it stood for
abbrev pub MoreTextsReadOn : Type 0
MoreTextsReadOn =
    (r : Reader) (old new : List (ℕ × Text)) (was ended : Bool) (I : Input) (bytes more : Text) (h : History)
    → IsReading r old was I (bytes ++ more) h → Gain r.kept I.outside old new bytes → IsSubsetAsAsked I.outside r old new → MayFollow ended I more
    → IsReading r new ended I more h

-- A TEXT THAT WAS WANTED is given, the one in its file, and beside it nothing but more of the document
pub record IsTextGiven (outside : Outside) (number : ℕ) (file : Name) (old new : List (ℕ × Text)) (bytes : Text) : Type 0 where
  pub text : Text
  pub found : outside.fetched file ≡ Found text
  pub given : text_of new number ≡ Some text
  pub document : or_empty (text_of new 0) ≡ or_empty (text_of old 0) ++ bytes
  pub others : (other : ℕ) → 0 < other → (other == number) ≡ false → text_of new other ≡ text_of old other

-- it is among the texts that leave what is kept as it is
abbrev pub WantedTextIsGain : Type 0
WantedTextIsGain =
    (r : Reader) (old new : List (ℕ × Text)) (ended : Bool) (I : Input) (bytes more : Text) (h : History) (number : ℕ) (file : Name)
    → IsReading r old ended I (bytes ++ more) h → IsWanted r old ended I h number file → IsTextGiven I.outside number file old new bytes
    → Gain r.kept I.outside old new bytes × IsSubsetAsAsked I.outside r old new

-- and the reader reads on
abbrev pub WantedTextReadsOn : Type 0
WantedTextReadsOn =
    (r : Reader) (old new : List (ℕ × Text)) (was ended : Bool) (I : Input) (bytes more : Text) (h : History) (number : ℕ) (file : Name)
    → IsReading r old was I (bytes ++ more) h → IsWanted r old was I h number file → IsTextGiven I.outside number file old new bytes → MayFollow ended I more
    → IsReading r new ended I more h
