-- What a reference to an entity comes to, and why its text isn't opened (9.4.4, 10.5).
use Rattle.std.specs.Prelude.{ℕ, Bool, true, false, ◌+◌, ◌==◌, Option, Some, None, Result, Ok, Err, length, nat_lt, if◌then◌else◌}
use Rattle.std.specs.List.{list_any}
use Rattle.std.specs.Option.{option_or}
use Rattle.sgml_scan.specs.text.declared.reason.Reason.{Reason}
use Rattle.sgml_scan.specs.text.declared.reason.Reason.TheVariants as reason
use Rattle.sgml_theory_reading.specs.entity.declared.kinds.Space.TheVariants as space
use Rattle.sgml_theory_reading.specs.entity.declared.kinds.Body.{Body}
use Rattle.sgml_theory_reading.specs.entity.declared.kinds.Body.TheVariants as body
use Rattle.sgml_theory_reading.specs.dtd.Doctypes.{Doctype}
use Rattle.sgml_theory_reading.specs.Names.{Name}
use Rattle.sgml_theory_reading.specs.Types.{entity_number, body_of}
use Rattle.sgml_theory_reading.specs.Pieces.{Meaning, Ordinary, ToText, ToData, ToExternalData, ToInstruction, Kind, Data, DataRef, Ref, Pi}
use Rattle.sgml_theory_reading.specs.Facets.{subset_number, ExternalSubset}
use Rattle.sgml_theory_reading.specs.Unread.{Fetched, NotThere, TooLarge, Found, Outside, Sources, file_of, text_of}
use Rattle.sgml_theory_spelling.specs.Stacked.{Stacked}

-- WHY A TEXT ISN'T THERE: its external identifier resolves to no name, or the store has none (10.1.6)
abbrev pub missing_fetched : Fetched → Option Reason
missing_fetched NotThere = Some reason.Absent
missing_fetched TooLarge = Some reason.EntityTooLarge
missing_fetched (Found text) = None

abbrev pub missing_file : Outside → Option Name → Option Reason
missing_file outside None = Some reason.Unresolved
missing_file outside (Some n) = missing_fetched (outside.fetched n)

-- of the entity of a number, where it is text in a file
abbrev pub missing : Outside → Sources → ℕ → Option Reason
missing outside k number = missing_file outside (file_of outside k number)

-- WHY IT ISN'T OPENED: it is being read already; it isn't there; ENTLVL entities are being read; the
-- lengths of all that was opened pass the limit (9.4.4, 13.4.8, profile)
abbrev pub is_being_read : ℕ → Stacked → Bool
is_being_read number t = list_any (λ n. n == number) t.entities

abbrev pub past_limits : Outside → Doctype → Stacked → ℕ → Option Reason
past_limits outside d t size =
    if nat_lt d.syntax.quantities.entlvl (length t.entities) then Some reason.EntityLevel
    else if nat_lt outside.expand (t.spent + size) then Some reason.Expansion
    else None

abbrev pub unopened : Outside → Sources → Stacked → ℕ → Option Reason → Option Reason
unopened outside k t number absent =
    if is_being_read number t then Some reason.Recursive
    else option_or absent (past_limits outside k.doctype t (length (text_of outside k number)))

abbrev pub unless : {A : Type 0} → Option Reason → A → Result A Reason
unless (Some r) a = Err r
unless None a = Ok a

-- WHAT A GENERAL REFERENCE MEANS in content (9.4.4, 10.5): a text to be read, data, or an instruction,
-- whose text has at most PILEN bytes (8)
abbrev pub general_meaning : Outside → Sources → Stacked → ℕ → Body → Result Meaning Reason
general_meaning outside k t number (body.Sgml text) = unless (unopened outside k t number None) (ToText number)
general_meaning outside k t number (body.External external) = unless (unopened outside k t number (missing outside k number)) (ToText number)
general_meaning outside k t number (body.Cdata text) = Ok (ToData number)
general_meaning outside k t number (body.Sdata text) = Ok (ToData number)
general_meaning outside k t number (body.Pi text) =
    if nat_lt k.doctype.syntax.quantities.pilen (length text) then Err reason.PiLength else Ok (ToInstruction number text)
general_meaning outside k t number (body.ExternalData kind external notation) = Ok (ToExternalData number)

abbrev pub meaning_of_body : Outside → Sources → Stacked → ℕ → Option Body → Result Meaning Reason
meaning_of_body outside k t number None = Err reason.Undeclared
meaning_of_body outside k t number (Some b) = general_meaning outside k t number b

abbrev pub meaning_of_number : Outside → Sources → Stacked → Option ℕ → Result Meaning Reason
meaning_of_number outside k t None = Err reason.Undeclared
meaning_of_number outside k t (Some number) = meaning_of_body outside k t number (body_of k.doctype number)

-- of the general entity of a name
unfoldable pub meaning_of : Outside → Sources → Stacked → Name → Result Meaning Reason
meaning_of outside k t n = meaning_of_number outside k t (entity_number k.doctype space.General n)

-- the piece that a reference is; in RCDATA it is no instruction and no external data (9.1)
abbrev pub unless_rcdata : Bool → Kind → Result Kind Reason
unless_rcdata true kind = Err reason.EntityKind
unless_rcdata false kind = Ok kind

abbrev pub referring_kind : Bool → Meaning → Result Kind Reason
referring_kind rcdata (ToText number) = Ok (Ref number)
referring_kind rcdata (ToData number) = Ok (Data number)
referring_kind rcdata (ToExternalData number) = unless_rcdata rcdata (DataRef number)
referring_kind rcdata (ToInstruction number text) = unless_rcdata rcdata (Pi text (Some number))
referring_kind rcdata (Ordinary has_items content) = Err reason.EntityKind

-- WHAT A PARAMETER REFERENCE is between declarations (9.4.4): a text to be read, or an instruction, whose
-- text has at most PILEN bytes (8)
abbrev pub parameter_text : Outside → Sources → Stacked → ℕ → Option Body → Result Kind Reason
parameter_text outside k t number None = Err reason.Undeclared
parameter_text outside k t number (Some (body.Sgml text)) = unless (unopened outside k t number None) (Ref number)
parameter_text outside k t number (Some (body.External external)) = unless (unopened outside k t number (missing outside k number)) (Ref number)
parameter_text outside k t number (Some (body.Pi text)) =
    if nat_lt k.doctype.syntax.quantities.pilen (length text) then Err reason.PiLength else Ok (Pi text (Some number))
parameter_text outside k t number (Some b) = Err reason.EntityKind

abbrev pub parameter_of_number : Outside → Sources → Stacked → Option ℕ → Result Kind Reason
parameter_of_number outside k t None = Err reason.Undeclared
parameter_of_number outside k t (Some number) = parameter_text outside k t number (body_of k.doctype number)

-- of the parameter entity of a name
unfoldable pub parameter_kind : Outside → Sources → Stacked → Name → Result Kind Reason
parameter_kind outside k t n = parameter_of_number outside k t (entity_number k.doctype space.Parameter n)

-- why the external subset isn't opened, where one is named (11.1)
abbrev pub unopened_subset : Outside → Sources → Stacked → Option ExternalSubset → Option Reason
unopened_subset outside k t None = None
unopened_subset outside k t (Some subset) = unopened outside k t subset_number (missing outside k subset_number)

unfoldable pub subset_unopened : Outside → Sources → Stacked → Option Reason
subset_unopened outside k t = unopened_subset outside k t k.subset
