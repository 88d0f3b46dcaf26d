-- What is answered of a start, of its tag and of one specification or default after another.
use Rattle.std.specs.Prelude.{◌≡◌, ℕ, ◌+◌, ◌∷◌, ◌++◌, Bool, true, false, List, [], length, Option, Some, None, Result, Ok, Err, slice_get, if◌then◌else◌}
use Rattle.sgml_text.specs.Refusals.{first_row}
use Rattle.sgml_text.specs.declared.reason.Reason.{Reason}
use Rattle.sgml_text.specs.declared.unit.Unit.{Unit as AnyUnit}
use Rattle.sgml_syntax.specs.declared.syntax.Syntax.{Syntax}
use Rattle.sgml_entity.specs.Entities.{Tables}
use Rattle.sgml_entity.specs.Stack.{Stack, moved_to}
use Rattle.sgml_attr.specs.declared.definition.Definition.{Definition}
use Rattle.sgml_attr.specs.declared.definition.Spec.{Spec}
use Rattle.sgml_attr.specs.declared.error.AttrError.{AttrError}
use Rattle.sgml_attr.specs.declared.value.AttrValue.{AttrValue}
use Rattle.sgml_attr.specs.Literal.{interpreted}
use Rattle.sgml_attr.specs.Matching.{attribute_of, attributes_of}
use Rattle.sgml_attr.specs.Values.{value, current_given}
use Rattle.sgml_decl_lexemes.specs.decl_parts.declared.ends.Construct.TheVariants.{Literal}
use Rattle.sgml_decl_lexemes.specs.declared.lexeme.Lexeme.{Lexeme}
use Rattle.sgml_decl_lexemes.specs.declared.fault.LexError.{LexError}
use Rattle.sgml_decl_lexemes.specs.Declares.{asked}
use Rattle.sgml_decl_lexemes.specs.Reads.{answer}
use Rattle.sgml_dtd.specs.Doctypes.{Doctype}
use Rattle.sgml_starts.specs.declared.error.StartError.{StartError}
use Rattle.sgml_starts.specs.declared.filling.Filled.{Filled}
use Rattle.sgml_starts.specs.declared.matching.Numbers.{Numbers}
use Rattle.sgml_starts.specs.declared.reading.Read.{Read}
use Rattle.sgml_starts.specs.declared.starts.StartValues.{StartValues}
use Rattle.sgml_starts.specs.Written.{written}
use Rattle.sgml_starts.specs.Specified.{Specified, specified, specified_from}
use Rattle.sgml_starts.specs.Read.{IsRead}
use Rattle.sgml_starts.specs.Rows.{rows, reason_of_spec}
use Rattle.sgml_starts.specs.Currents.{is_current}
use Rattle.sgml_starts.specs.Values.{Start, is_specified, current_in, result_of, reason_in, reason_of_default, reason_of_defaults, refused, unvalued}
use Rattle.sgml_starts.specs.Numbers.{AreNumbers}
use Rattle.sgml_starts.specs.Filled.{AreFilled, AreFilledTo}
use Rattle.sgml_starts.specs.Starts.{start_of, input_of, after, HasValues, IsUnvalued}
use Rattle.sgml_starts.specs.Taken.{tag_in}

-- OF A START of the element type of this number, with the tag of so many bytes at the top of the stack: its values, or
-- why it has none, and where the stack then stands
abbrev pub HasValuesOf : Syntax → Doctype → ℕ → List (List (Option AttrValue)) → List (ℕ × List ℕ) → Stack → Option ℕ → StartValues → List (List (Option AttrValue)) → Type 0
HasValuesOf syntax d element currents texts stack tag told new =
    HasValues (start_of syntax d element currents) (specified (input_of syntax d texts stack) tag) told new

abbrev pub HasNoValues : Syntax → Doctype → ℕ → List (List (Option AttrValue)) → List (ℕ × List ℕ) → Stack → Option ℕ → StartError → Type 0
HasNoValues syntax d element currents texts stack tag e =
    IsUnvalued (unvalued (start_of syntax d element currents) (specified (input_of syntax d texts stack) tag)) e

abbrev pub after_tag : Syntax → Doctype → List (ℕ × List ℕ) → Stack → Option ℕ → Stack
after_tag syntax d texts stack tag = after stack (specified (input_of syntax d texts stack) tag).spent tag

abbrev pub SpecifiesNothing : Syntax → Doctype → List (ℕ × List ℕ) → Stack → ℕ → Type 0
SpecifiesNothing syntax d texts stack n =
    specified (input_of syntax d texts stack) (Some n) ≡ record { specs = []; stop = None; spent = stack.spent }

-- of these bytes of its tag
abbrev pub TagHasValues : Syntax → Doctype → ℕ → List (List (Option AttrValue)) → List (ℕ × List ℕ) → Stack → List ℕ → StartValues → List (List (Option AttrValue)) → Type 0
TagHasValues syntax d element currents texts stack tag told new =
    HasValues (start_of syntax d element currents) (tag_in (start_of syntax d element currents) texts stack tag) told new

abbrev pub TagHasNone : Syntax → Doctype → ℕ → List (List (Option AttrValue)) → List (ℕ × List ℕ) → Stack → List ℕ → StartError → Type 0
TagHasNone syntax d element currents texts stack tag e =
    IsUnvalued (unvalued (start_of syntax d element currents) (tag_in (start_of syntax d element currents) texts stack tag)) e

abbrev pub spent_in_tag : Syntax → Doctype → ℕ → List (List (Option AttrValue)) → List (ℕ × List ℕ) → Stack → List ℕ → ℕ
spent_in_tag syntax d element currents texts stack tag = (tag_in (start_of syntax d element currents) texts stack tag).spent

-- of what was read of its tag, however long the texts are that were opened
abbrev pub specified_by : Read → ℕ → Specified
specified_by read spent = record { specs = read.specs.items; stop = read.stop; spent = spent }

abbrev pub ReadHasValues : Syntax → Doctype → ℕ → List (List (Option AttrValue)) → Read → StartValues → List (List (Option AttrValue)) → Type 0
ReadHasValues syntax d element currents read told new =
    (spent : ℕ) → HasValues (start_of syntax d element currents) (specified_by read spent) told new

abbrev pub ReadHasNone : Syntax → Doctype → ℕ → List (List (Option AttrValue)) → Read → StartError → Type 0
ReadHasNone syntax d element currents read e =
    (spent : ℕ) → IsUnvalued (unvalued (start_of syntax d element currents) (specified_by read spent)) e

abbrev pub ReadIsFilled : Start → Read → Type 0
ReadIsFilled S read = (spent : ℕ) → unvalued S (specified_by read spent) ≡ None

abbrev pub ReadIsRefused : Start → Read → StartError → Type 0
ReadIsRefused S read e = (spent : ℕ) → IsUnvalued (unvalued S (specified_by read spent)) e

-- of a type without attributes
abbrev pub IsRefusedAlone : Read → StartError → Type 0
IsRefusedAlone read e = (S : Start) (spent : ℕ) → S.definitions ≡ [] → IsUnvalued (unvalued S (specified_by read spent)) e

-- THE TAG IS READ, of which the stack is at the top
abbrev pub ReadsTag : Syntax → Tables → List (ℕ × List ℕ) → Stack → List ℕ → Read → Stack → Type 0
ReadsTag syntax tables texts stack tag read now =
    IsRead (specified_from (record { syntax = syntax; tables = tables; texts = texts; stack = stack }) stack.spent (written syntax tag)) read now

-- the answer to a literal at a place of the text at the top
abbrev pub literal_at : Syntax → Tables → List (ℕ × List ℕ) → Stack → ℕ → ℕ → Result (List Lexeme) LexError × Stack
literal_at syntax tables texts stack at quote =
    answer (asked (Literal quote) syntax tables texts (record stack { places = moved_to at stack.places }) true)

-- OF A SPECIFICATION with these units for a definition: why it is refused, and its value
abbrev pub reason_given : Syntax → Definition → Tables → Bool → List AnyUnit → Option Reason
reason_given syntax x tables twice units = first_row (rows syntax x tables twice (interpreted x.declared units))

abbrev pub value_given : Syntax → Definition → Tables → List AnyUnit → Result AttrValue AttrError
value_given syntax x tables units = value syntax x tables None (Some (interpreted x.declared units))

-- the numbers of attributes with a current value, with this one where it has one
abbrev pub with_current : Definition → ℕ → List ℕ → List ℕ
with_current x number numbers = if is_current x.default then numbers ++ number ∷ [] else numbers

-- a specification with these units for the attribute of this number is filled in, or is refused
abbrev pub FillsIn : Start → ℕ → List AnyUnit → Filled → Filled → Type 0
FillsIn S number units old new =
    (before : List Spec) (s : Spec) → AreFilled S before old → attribute_of S.syntax S.definitions s ≡ Some number → s.value ≡ units → AreFilled S (before ++ s ∷ []) new

abbrev pub HasNoReason : Start → ℕ → List AnyUnit → Filled → Type 0
HasNoReason S number units old =
    (before : List Spec) (s : Spec) → AreFilled S before old → attribute_of S.syntax S.definitions s ≡ Some number → s.value ≡ units
    → reason_of_spec S.syntax S.tables S.definitions before s ≡ None

abbrev pub HasReason : Start → ℕ → List AnyUnit → Filled → StartError → Type 0
HasReason S number units old e =
    (before : List Spec) (s : Spec) → AreFilled S before old → attribute_of S.syntax S.definitions s ≡ Some number → s.value ≡ units
    → IsUnvalued (refused (reason_of_spec S.syntax S.tables S.definitions before s)) e

-- the same of the next of all specifications, whose attributes have these numbers
abbrev pub FillsNext : Start → Numbers → ℕ → List AnyUnit → Filled → Filled → Type 0
FillsNext S numbers j units old new =
    (all : List Spec) (before : List Spec) (s : Spec) → AreNumbers (length S.definitions) (attributes_of S.syntax S.definitions all) numbers
    → slice_get all j ≡ Some s → AreFilled S before old → s.value ≡ units
    → (reason_of_spec S.syntax S.tables S.definitions before s ≡ None) × AreFilled S (before ++ s ∷ []) new

abbrev pub RefusesNext : Start → Numbers → ℕ → List AnyUnit → Filled → StartError → Type 0
RefusesNext S numbers j units old e =
    (all : List Spec) (before : List Spec) (s : Spec) → AreNumbers (length S.definitions) (attributes_of S.syntax S.definitions all) numbers
    → slice_get all j ≡ Some s → AreFilled S before old → s.value ≡ units
    → IsUnvalued (refused (reason_of_spec S.syntax S.tables S.definitions before s)) e

-- OF A DEFINITION WITHOUT A SPECIFICATION, whatever is specified: its value, or why it has none
abbrev pub IsItsDefault : Start → ℕ → AttrValue → Type 0
IsItsDefault S number v =
    (ss : List Spec) (x : Definition) → slice_get S.definitions number ≡ Some x → is_specified S ss number ≡ false → result_of S ss number x ≡ Ok v

abbrev pub HasNoDefault : Start → ℕ → StartError → Type 0
HasNoDefault S number e =
    (ss : List Spec) (x : Definition) → slice_get S.definitions number ≡ Some x → is_specified S ss number ≡ false
    → IsUnvalued (refused (reason_in (result_of S ss number x))) e

-- of one whose default is #CURRENT: why it has no current value
abbrev pub HasNoCurrent : Start → ℕ → StartError → Type 0
HasNoCurrent S number e = IsUnvalued (refused (reason_in (current_given (current_in S.currents S.list number)))) e

-- of all of them, once what is specified is filled in
abbrev pub DefaultsStand : Start → Filled → Type 0
DefaultsStand S filled = (ss : List Spec) → AreFilled S ss filled → reason_of_defaults S ss 0 S.definitions ≡ None

abbrev pub DefaultsAreRefused : Start → Filled → StartError → Type 0
DefaultsAreRefused S filled e = (ss : List Spec) → AreFilled S ss filled → IsUnvalued (refused (reason_of_defaults S ss 0 S.definitions)) e

-- of the next one
abbrev pub DefaultStands : Start → ℕ → Filled → Type 0
DefaultStands S number filled =
    (ss : List Spec) (x : Definition) → slice_get S.definitions number ≡ Some x → AreFilledTo S ss number filled → reason_of_default S ss number x ≡ None

abbrev pub FillsUpNext : Start → ℕ → Filled → Filled → Type 0
FillsUpNext S number old new =
    (ss : List Spec) (x : Definition) → slice_get S.definitions number ≡ Some x → AreFilledTo S ss number old → AreFilledTo S ss (number + 1) new

abbrev pub DefaultIsRefused : Start → ℕ → Filled → StartError → Type 0
DefaultIsRefused S number filled e =
    (ss : List Spec) (x : Definition) → slice_get S.definitions number ≡ Some x → AreFilledTo S ss number filled
    → IsUnvalued (refused (reason_of_default S ss number x)) e
