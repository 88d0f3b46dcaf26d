-- What it is to open a text, and why it isn't opened (9.4.4, 10.5, 11.1).
use Rattle.std.specs.Prelude.{◌≡◌, ℕ, ⊤, Bool, true, false, List, Option, Some, None, option_map, Result, Ok, Err, length}
use Rattle.sgml_text.specs.declared.reason.Reason.{Reason}
use Rattle.sgml_text.specs.declared.reason.Reason.TheVariants as reason
use Rattle.sgml_entity.specs.declared.kinds.Body.{Body}
use Rattle.sgml_entity.specs.declared.kinds.Entity.{Entity}
use Rattle.sgml_entity.specs.declared.kinds.Body.TheVariants as body
use Rattle.sgml_entity.specs.declared.kinds.Entity.{Entity}
use Rattle.sgml_entity.specs.Stack.{Stack, opened, refusal}
use Rattle.sgml_entity.specs.Texts as given
use Rattle.sgml_decl_lexemes.specs.Sources.{text_at, reason_of}
use Rattle.sgml_theory_standing.specs.theory_reading.Names.{Name, Text}
use Rattle.sgml_theory_standing.specs.theory_reading.Types.{entity}
use Rattle.sgml_theory_standing.specs.theory_reading.Pieces.{ToText, Ref}
use Rattle.sgml_theory_standing.specs.theory_reading.Facets.{subset_number, ExternalSubset}
use Rattle.sgml_theory_standing.specs.theory_reading.Unread.{Outside, Sources, file_of, text_of}
use Rattle.sgml_theory_standing.specs.theory_spelling.Stacked.{Stacked}
use Rattle.sgml_theory_standing.specs.theory_spelling.References.{missing, missing_fetched, unopened, is_being_read, unless, general_meaning, parameter_text, subset_unopened}
use Rattle.sgml_theory_standing.specs.theory_spelling.Opened.{StackShows}
use Rattle.sgml_theory_standing.specs.Supplied.{IsInFile}
use Rattle.sgml_declared.specs.Files.{Choices, IsOutsideOf}
use Rattle.sgml_declared.specs.declared.opening.OpenError.{OpenError}
use Rattle.sgml_declared.specs.declared.opening.OpenError.TheVariants.{Refused, Wanted, Memory}

-- why the text of an entity isn't there; one in its declaration is
abbrev pub absent_of : Body → Option Reason → Option Reason
absent_of (body.Sgml text) absent = None
absent_of _ absent = absent

abbrev pub absent_by : Option Entity → Option Reason → Option Reason
absent_by None absent = absent
absent_by (Some e) absent = absent_of e.body absent

-- WHY IT ISN'T OPENED, by the entity's number: text in its declaration, or in a file
unfoldable pub unopened_of : Outside → Sources → Stacked → ℕ → Option Reason
unopened_of outside k t number = unopened outside k t number (absent_by (entity k.doctype number) (missing outside k number))

-- the text may be opened, was there, and is at the top of the stack
pub record IsOpened (outside : Outside) (k : Sources) (t : Stacked) (texts : List (ℕ × Text)) (old new : Stack) (number : ℕ) : Type 0 where
  pub allowed : unopened_of outside k t number ≡ None
  pub there : text_at k.doctype.entities texts number ≡ Some (text_of outside k number)
  pub pushed : new ≡ opened number (length (text_of outside k number)) old

-- the text isn't being read and isn't there, and is in this file
pub record IsWanted (outside : Outside) (k : Sources) (t : Stacked) (texts : List (ℕ × Text)) (number : ℕ) (file : Name) : Type 0 where
  pub unread : is_being_read number t ≡ false
  pub absent : text_at k.doctype.entities texts number ≡ None
  pub named : file_of outside k number ≡ Some file

-- THE ANSWER, for an outside and what is on the stack there: the text was opened; it isn't, first for
-- this reason; or its file is to be fetched
abbrev pub OpensIn : Outside → Sources → Stacked → List (ℕ × Text) → Stack → Stack → ℕ → Result ⊤ OpenError → Type 0
OpensIn outside k t texts old new number (Ok x) = IsOpened outside k t texts old new number
OpensIn outside k t texts old new number (Err (Refused r)) = unopened_of outside k t number ≡ Some r
OpensIn outside k t texts old new number (Err (Wanted file)) = IsWanted outside k t texts number file
OpensIn outside k t texts old new number (Err Memory) = Unit {0}

-- the text that was given of this number, if one was, is the one in its entity's file
abbrev pub IsSupplied : Outside → Sources → List (ℕ × Text) → ℕ → Type 0
IsSupplied outside k texts number = (text : Text) → given.text_of texts number ≡ Some text → IsInFile outside k number text

-- for every outside that a run with these options may have, of which that text was supplied
abbrev pub Opens : Choices → Sources → List (ℕ × Text) → Stack → Stack → ℕ → Result ⊤ OpenError → Type 0
Opens c k texts old new number result =
    (outside : Outside) (t : Stacked)
    → IsOutsideOf c outside → IsSupplied outside k texts number → StackShows old outside k.doctype t
    → OpensIn outside k t texts old new number result

-- the answer where the stack refuses a text of this length
abbrev pub refused_by : ℕ → ℕ → Stack → Option OpenError
refused_by number size s = option_map (λ r. Refused (reason_of r)) (refusal number size s)

-- the answer where a text isn't there that is in this file, or in none
abbrev pub wanting : Option Name → OpenError
wanting None = Refused reason.Unresolved
wanting (Some file) = Wanted file

-- whatever outside it is, a text that is there was pushed
pub record IsPushed (es : List Entity) (texts : List (ℕ × Text)) (old new : Stack) (number : ℕ) : Type 0 where
  pub text : Text
  pub there : text_at es texts number ≡ Some text
  pub allowed : refusal number (length text) old ≡ None
  pub pushed : new ≡ opened number (length text) old

-- WHAT A WANT MEANS: were the text not in the store, or too large there, it wouldn't be opened for that
abbrev pub WantedAreMissing : Type 0
WantedAreMissing =
    (c : Choices) (k : Sources) (texts : List (ℕ × Text)) (old new : Stack) (number : ℕ) (file : Name) (outside : Outside) (t : Stacked) (r : Reason)
    → Opens c k texts old new number (Err (Wanted file))
    → IsOutsideOf c outside → IsSupplied outside k texts number → StackShows old outside k.doctype t
    → missing_fetched (outside.fetched file) ≡ Some r → unopened_of outside k t number ≡ Some r

-- IT IS THE REASON for which a general or a parameter reference to text reaches none, and for which the
-- external subset isn't opened
abbrev pub is_text : Body → Bool
is_text (body.Sgml text) = true
is_text (body.External external) = true
is_text _ = false

abbrev pub GeneralTextsAreOpened : Type 0
GeneralTextsAreOpened =
    (outside : Outside) (k : Sources) (t : Stacked) (number : ℕ) (e : Entity)
    → entity k.doctype number ≡ Some e → is_text e.body ≡ true
    → general_meaning outside k t number e.body ≡ unless (unopened_of outside k t number) (ToText number)

abbrev pub ParameterTextsAreOpened : Type 0
ParameterTextsAreOpened =
    (outside : Outside) (k : Sources) (t : Stacked) (number : ℕ) (e : Entity)
    → entity k.doctype number ≡ Some e → is_text e.body ≡ true
    → parameter_text outside k t number (Some e.body) ≡ unless (unopened_of outside k t number) (Ref number)

abbrev pub SubsetsAreOpened : Type 0
SubsetsAreOpened =
    (outside : Outside) (k : Sources) (t : Stacked) (subset : ExternalSubset)
    → k.subset ≡ Some subset → subset_unopened outside k t ≡ unopened_of outside k t subset_number
