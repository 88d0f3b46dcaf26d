-- A declaration as far as it was read, and what each part adds (ISO 8879 10, 11); in the same way the
-- start of a marked section (10.4), the end of a document type (11.1) and a literal of a tag (7.9.3).
use Rattle.std.specs.Prelude.{ℕ, zero, suc, Bool, true, false, ◌+◌, ◌<◌, ◌≤◌, ◌^◌, ◌==◌, ◌&&◌, ◌||◌, not, ◌≡◌, List, [], ◌∷◌, ◌++◌, length, take, drop, map, Option, None, Some, Result, Ok, Err, if◌then◌else◌}
use Rattle.sgml_text.specs.declared.place.Place.{Place}
use Rattle.sgml_text.specs.declared.reason.Reason.{Reason}
use Rattle.sgml_text.specs.declared.reason.Reason.TheVariants as reason
use Rattle.sgml_decl_parts.specs.sgml_delim.declared.delim.Delim.{Delim}
use Rattle.sgml_decl_parts.specs.sgml_delim.declared.delim.Delim.TheVariants.{Dso}
use Rattle.sgml_entity.specs.declared.kinds.Space.{Space}
use Rattle.sgml_entity.specs.declared.kinds.Space.TheVariants.{General, Parameter}
use Rattle.sgml_entity.specs.Entities.{entity_at}
use Rattle.sgml_entity.specs.Stack.{Stack, place_at, moved, lower, opened, offset_of}
use Rattle.sgml_text.specs.declared.unit.Unit.{Unit as AnyUnit}
use Rattle.sgml_text.specs.declared.unit.Unit.TheVariants as unit
use Rattle.sgml_decl_parts.specs.declared.form.Form.{Form}
use Rattle.sgml_decl_parts.specs.declared.form.Form.TheVariants as f
use Rattle.sgml_decl_parts.specs.declared.form.LiteralKind.{LiteralKind}
use Rattle.sgml_decl_parts.specs.declared.form.LiteralKind.TheVariants as kind
use Rattle.sgml_decl_parts.specs.declared.part.Part.{Part}
use Rattle.sgml_decl_parts.specs.declared.part.Part.TheVariants as p
use Rattle.sgml_decl_parts.specs.declared.part.PartFault.{PartFault}
use Rattle.sgml_decl_parts.specs.declared.part.PartFault.TheVariants.{Unclosed, Syntax}
use Rattle.sgml_decl_parts.specs.declared.part.Here.{Here}
use Rattle.sgml_decl_parts.specs.declared.part.Opened.{Opened}
use Rattle.sgml_decl_parts.specs.Forms.{after_name, after_token, after_reserved, after_literal, after_sign, literal_kind, is_complete, is_in_group, may_refer, is_grpc}
use Rattle.sgml_decl_parts.specs.Bytes.{begins_name}
use Rattle.std.specs.List.{prefix_len}
use Rattle.sgml_text.specs.Characters.{is_quote, is_separator}
use Rattle.sgml_decl_parts.specs.Parts.{part_at, size_of, Fits}
use Rattle.sgml_decl_parts.specs.Ends.{before, quote_end}
use Rattle.sgml_decl_parts.specs.declared.ends.Construct.{Construct}
use Rattle.sgml_decl_parts.specs.declared.ends.Construct.TheVariants as construct
use Rattle.sgml_decl_lexemes.specs.declared.lexeme.Lexeme.{Lexeme}
use Rattle.sgml_decl_lexemes.specs.declared.lexeme.Lexeme.TheVariants.{Name, Token, Reserved, Literal, Value, Sign}
use Rattle.sgml_decl_lexemes.specs.declared.fault.Fault.{Fault}
use Rattle.sgml_decl_lexemes.specs.declared.fault.LexError.{LexError}
use Rattle.sgml_decl_lexemes.specs.declared.fault.LexError.TheVariants as error
use Rattle.sgml_decl_lexemes.specs.declared.fault.Fault.TheVariants.{Wanting, Refusing}
use Rattle.sgml_decl_lexemes.specs.Sources.{Source, unread, reached, cdata_text}
use Rattle.sgml_decl_lexemes.specs.declared.fault.Reached.{Reached}
use Rattle.sgml_decl_lexemes.specs.declared.fault.Reached.TheVariants.{Opens, PutsText, PutsData, Fails}
use Rattle.sgml_decl_lexemes.specs.declared.lengths.Due.{Due}
use Rattle.sgml_decl_lexemes.specs.declared.reading.KeptFaults.{KeptFaults}
use Rattle.sgml_decl_lexemes.specs.declared.reading.Turn.{Turn}
use Rattle.sgml_decl_lexemes.specs.declared.reading.Turn.TheVariants.{More, Ended, Refused}
use Rattle.sgml_decl_lexemes.specs.Lengths.{has_long_name, has_long_literal}

-- what was read
pub record Reading : Type 0 where
  -- what is due
  pub form : Form
  pub lexemes : List Lexeme
  -- the literal that is open
  pub literal : Option Opened
  -- its bytes, where it is no attribute value literal
  pub bytes : List ℕ
  -- its units, where it is one
  pub units : List AnyUnit
  -- a group ends directly before
  pub after_group : Bool
  -- a character reference named no character
  pub no_char : Bool

abbrev pub is_value_kind : LiteralKind → Bool
is_value_kind kind.Value = true
is_value_kind _ = false

-- whether an attribute value literal is open
abbrev pub is_value : Option Opened → Bool
is_value None = false
is_value (Some o) = is_value_kind o.kind

-- whether the literal that is open began in the text at the top
abbrev pub is_its_text : Option Opened → ℕ → Bool
is_its_text None height = false
is_its_text (Some o) height = o.height == height

abbrev pub with_lexeme : Form → Bool → Lexeme → Reading → Reading
with_lexeme form after_group d r = record r { form = form; lexemes = r.lexemes ++ d ∷ []; after_group = after_group }

abbrev pub passed : Reading → Reading
passed r = record r { after_group = false }

abbrev pub named : List ℕ → Reading → Reading
named name r = with_lexeme (after_name r.form name) false (Name name) r

abbrev pub tokened : List ℕ → Reading → Reading
tokened token r = with_lexeme (after_token r.form) false (Token token) r

abbrev pub reserved : List ℕ → Reading → Reading
reserved name r = with_lexeme (after_reserved r.form name) false (Reserved name) r

abbrev pub signed : Delim → Reading → Reading
signed d r = with_lexeme (after_sign r.form d) (is_grpc d) (Sign d) r

abbrev pub quoted : ℕ → ℕ → Reading → Reading
quoted quote height r =
    record r { literal = Some (record { quote = quote; kind = literal_kind r.form; height = height }); after_group = false }

abbrev pub literal_of : Option Opened → List ℕ → List AnyUnit → Lexeme
literal_of o bytes units = if is_value o then Value units else Literal bytes

abbrev pub unquoted : Reading → Reading
unquoted r =
    record r { form = after_literal r.form; lexemes = r.lexemes ++ literal_of r.literal r.bytes r.units ∷ []; literal = None; bytes = []; units = [] }

abbrev pub with_units : List AnyUnit → Reading → Reading
with_units us r = record r { units = r.units ++ us }

abbrev pub with_bytes : List ℕ → Reading → Reading
with_bytes bs r = record r { bytes = r.bytes ++ bs }

abbrev pub with_data : List ℕ → Reading → Reading
with_data bs r = if is_value r.literal then with_units (map unit.Byte bs) r else with_bytes bs r

abbrev pub byte_of : AnyUnit → List ℕ
byte_of (unit.Byte b) = b ∷ []
byte_of (unit.Coded b) = b ∷ []
byte_of (unit.Sdata n) = []

-- In a parameter literal a numbered character is that byte of the text (10.1.2).
abbrev pub with_char : AnyUnit → Reading → Reading
with_char u r = if is_value r.literal then with_units (u ∷ []) r else with_bytes (byte_of u) r

abbrev pub without_char : Reading → Reading
without_char r = record r { no_char = true }

-- what was read, and the stack of texts
pub record State : Type 0 where
  pub reading : Reading
  pub stack : Stack

abbrev pub here_by : ℕ → ℕ → Reading → Here
here_by base height r = record {
  literal = r.literal;
  in_its_text = is_its_text r.literal height;
  at_base = height == base;
  in_group = is_in_group r.form;
  after_group = r.after_group;
}

abbrev pub here : Source → State → Here
here I t = here_by I.height (length t.stack.places) t.reading

abbrev pub ahead : Source → State → List ℕ
ahead I t = unread I t.stack.places

-- parameter references everywhere, but general ones in attribute value literals (9.4.4)
abbrev pub space_in : Reading → Space
space_in r = if is_value r.literal then General else Parameter

abbrev pub reached_from : Source → List ℕ → State → ℕ → Reached
reached_from I bytes t n = reached I t.stack (space_in t.reading) (take n (drop 1 bytes))

abbrev pub advanced : ℕ → Stack → Stack
advanced n s = record s { places = moved n s.places }

abbrev pub read_as : Reading → ℕ → State → State
read_as r n t = record { reading = r; stack = advanced n t.stack }

-- PAST SEPARATORS: those that stand next are passed at once; within a literal they are its data
abbrev pub gap_at : Option Opened → List ℕ → ℕ
gap_at None bytes = prefix_len is_separator bytes
gap_at (Some o) bytes = 0

abbrev pub past_gap : ℕ → State → State
past_gap zero t = t
past_gap (suc n) t = read_as (passed t.reading) (suc n) t

abbrev pub past_separators : Source → State → State
past_separators I t = past_gap (gap_at t.reading.literal (ahead I t)) t

-- WHAT A REFERENCE ADDS: its text goes on top of the stack, or data stands for it
abbrev pub referred : Source → ℕ → State → Reached → State
referred I m t (Opens entity size) = record { reading = passed t.reading; stack = opened entity size (advanced m t.stack) }
referred I m t (PutsText n) = read_as (with_data (cdata_text (entity_at I.entities n)) t.reading) m t
referred I m t (PutsData n) = read_as (with_units (unit.Sdata n ∷ []) t.reading) m t
referred I m t (Fails fault) = t

-- WHAT A PART ADDS, with the bytes that begin with it
abbrev pub after : Source → List ℕ → Part → State → State
after I bytes (p.Gap n) t = read_as (passed t.reading) n t
after I bytes (p.Name n) t = read_as (named (take n bytes) t.reading) n t
after I bytes (p.Token n) t = read_as (tokened (take n bytes) t.reading) n t
after I bytes (p.Reserved n) t = read_as (reserved (take n (drop 1 bytes)) t.reading) (1 + n) t
after I bytes (p.Sign d) t = read_as (signed d t.reading) 1 t
after I bytes (p.Quote b) t = read_as (quoted b (length t.stack.places) t.reading) 1 t
after I bytes p.EndQuote t = read_as (unquoted t.reading) 1 t
after I bytes (p.Data n) t = read_as (with_data (take n bytes) t.reading) n t
after I bytes (p.Char n u) t = read_as (with_char u t.reading) n t
after I bytes (p.NoChar n) t = read_as (without_char t.reading) n t
after I bytes (p.Refer n m) t = referred I m t (reached_from I bytes t n)
after I bytes p.TextEnd t = record { reading = passed t.reading; stack = record t.stack { places = lower t.stack.places } }
after I bytes p.Closing t = read_as (passed t.reading) 1 t

-- a lexeme after which no form goes on
abbrev pub judged_form : Form → Part → Result Part Fault
judged_form f.Broken part = Err (Refusing reason.DeclarationSyntax)
judged_form (f.LeftOut r) part = Err (Refusing r)
judged_form _ part = Ok part

-- the end, where the whole form stands; then a reference to no character is refused (9.5)
abbrev pub judged_end : Form → Bool → Part → Result Part Fault
judged_end form no_char part =
    if not (is_complete form) then Err (Refusing reason.DeclarationSyntax)
    else if no_char then Err (Refusing reason.CharNumber)
    else Ok part

-- DSO ends what stands before the subset of a document type, in the declaration's own text (11.1)
abbrev pub judged_dso : Bool → Form → Bool → Result Part Fault
judged_dso last form no_char =
    if last then judged_end form no_char (p.Sign Dso) else Err (Refusing reason.DeclarationSyntax)

abbrev pub judged_sign : Bool → Reading → Delim → Result Part Fault
judged_sign last r Dso = judged_dso last (after_sign r.form Dso) r.no_char
judged_sign last r d = judged_form (after_sign r.form d) (p.Sign d)

abbrev pub judged_quote : LiteralKind → ℕ → Result Part Fault
judged_quote kind.NoLiteral b = Err (Refusing reason.DeclarationSyntax)
judged_quote _ b = Ok (p.Quote b)

abbrev pub is_literal : Construct → Bool
is_literal (construct.Literal quote) = true
is_literal _ = false

-- the quote that ends a literal of a tag, which is all that is read: then a reference to no character
-- is refused (9.5)
abbrev pub judged_end_quote : Bool → Bool → Result Part Fault
judged_end_quote alone no_char = if alone && no_char then Err (Refusing reason.CharNumber) else Ok p.EndQuote

-- WHAT IS DUE FIRST: directly after `<!` a keyword, or a comment declaration; status keywords
-- (10.4.2); the end of the document type alone (11.1); a literal of a tag is read as one that is the
-- default value of an attribute (7.9.3)
abbrev pub declaration_form : Bool → Form
declaration_form named = if named then f.Keyword else f.Comment

abbrev pub first_form : Construct → Bool → Form
first_form construct.Declaration named = declaration_form named
first_form construct.SectionStart named = f.Statuses
first_form construct.SubsetEnd named = f.Whole
first_form (construct.Literal quote) named = f.Default

-- WHAT IS KEPT of what was read: faults that are told at the end, or where a reference can't be replaced;
-- the lexemes before a reference are judged by what was due where they stand (13.4.8)
abbrev pub first_due : Construct → Due
first_due c = record { form = first_form c true; cdata = false }

abbrev pub kept : Source → Reading → KeptFaults
kept I r = record {
  no_char = r.no_char;
  long_name = has_long_name I.syntax (first_due I.construct) r.lexemes;
  long_literal = has_long_literal I.syntax (first_due I.construct) r.lexemes;
}

abbrev pub is_name_length : Reason → Bool
is_name_length reason.NameLength = true
is_name_length _ = false

-- What is kept outranks what is wrong with an entity, in the order of the reasons; what isn't there,
-- and a byte that is no SGML character, outrank it.
abbrev pub first_reason : KeptFaults → Reason → Reason
first_reason k r =
    if k.no_char then reason.CharNumber
    else if k.long_name || is_name_length r then reason.NameLength
    else if k.long_literal then reason.LiteralLimit
    else r

abbrev pub ranked_reason : KeptFaults → Reason → Reason
ranked_reason k reason.NonSgml = reason.NonSgml
ranked_reason k r = first_reason k r

abbrev pub ranked : KeptFaults → Fault → Fault
ranked k (Wanting n) = Wanting n
ranked k (Refusing r) = Refusing (ranked_reason k r)

abbrev pub judged_reached : KeptFaults → ℕ → ℕ → Reached → Result Part Fault
judged_reached k n m (Fails fault) = Err (ranked k fault)
judged_reached k n m _ = Ok (p.Refer n m)

abbrev pub is_open : Option Opened → Bool
is_open None = false
is_open (Some o) = true

abbrev pub judged_refer : Source → List ℕ → State → ℕ → ℕ → Result Part Fault
judged_refer I bytes t n m =
    if may_refer t.reading.form then judged_reached (kept I t.reading) n m (reached_from I bytes t n)
    else Err (Refusing reason.DeclarationSyntax)

-- the last byte of the declaration's own text
abbrev pub is_last : Source → List ℕ → List Place → Bool
is_last I bytes places = (length places == I.height) && (length bytes == 1)

abbrev pub judged : Source → List ℕ → State → Part → Result Part Fault
judged I bytes t (p.Name n) = judged_form (after_name t.reading.form (take n bytes)) (p.Name n)
judged I bytes t (p.Token n) = judged_form (after_token t.reading.form) (p.Token n)
judged I bytes t (p.Reserved n) = judged_form (after_reserved t.reading.form (take n (drop 1 bytes))) (p.Reserved n)
judged I bytes t (p.Sign d) = judged_sign (is_last I bytes t.stack.places) t.reading d
judged I bytes t (p.Quote b) = judged_quote (literal_kind t.reading.form) b
judged I bytes t (p.Refer n m) = judged_refer I bytes t n m
judged I bytes t p.EndQuote = judged_end_quote (is_literal I.construct) t.reading.no_char
judged I bytes t p.Closing = judged_end t.reading.form t.reading.no_char p.Closing
judged I bytes t part = Ok part

abbrev pub fault_of : PartFault → Fault
fault_of Unclosed = Refusing reason.Unclosed
fault_of Syntax = Refusing reason.DeclarationSyntax

abbrev pub judged_part : Source → List ℕ → State → Result Part PartFault → Result Part Fault
judged_part I bytes t (Err fault) = Err (fault_of fault)
judged_part I bytes t (Ok part) = judged I bytes t part

-- THE NEXT PART, or why there is none
abbrev pub next_part : Source → State → Result Part Fault
next_part I t = judged_part I (ahead I t) t (part_at I.syntax.names I.syntax.general_fold (here I t) (ahead I t))

abbrev pub is_dso : Delim → Bool
is_dso Dso = true
is_dso _ = false

-- WHAT ENDS IT: MDC, DSO, or the quote of a literal that is all that is read
abbrev pub closes : Construct → Part → Bool
closes c p.Closing = true
closes c (p.Sign d) = is_dso d
closes c p.EndQuote = is_literal c
closes c _ = false

abbrev pub nothing_read : Form → Reading
nothing_read form =
    record { form = form; lexemes = []; literal = None; bytes = []; units = []; after_group = false; no_char = false }

-- the quote of a literal of a tag stands before
abbrev pub begun : Construct → ℕ → Reading → Reading
begun (construct.Literal quote) height r = quoted quote height r
begun _ height r = r

abbrev pub form_at : Source → List Place → Form
form_at I places = first_form I.construct (begins_name I.syntax.names (unread I places))

abbrev pub first_reading : Source → List Place → Reading
first_reading I places = begun I.construct (length places) (nothing_read (form_at I places))

-- WHERE READING BEGINS: directly after `<!`, `<![`, `]` or the quote
abbrev pub start : Source → Stack → State
start I s = record { reading = first_reading I (advanced (before I.construct) s).places; stack = advanced (before I.construct) s }

-- the own text of a literal ends with its first quote
abbrev pub EndsWithQuote : Construct → List ℕ → Type 0
EndsWithQuote (construct.Literal quote) bytes = (is_quote quote ≡ true) × (quote_end quote bytes ≡ Some (length bytes))
EndsWithQuote _ bytes = Unit {0}

-- a turn of reading: the part goes on, and is read
pub record Turned (I : Source) (bytes : List ℕ) (t : State) (part : Part) (done : Bool) (next : State) : Type 0 where
  pub goes : judged I bytes t part ≡ Ok part
  pub reading_is : next.reading ≡ (after I bytes part t).reading
  pub stack_is : next.stack ≡ (after I bytes part t).stack
  pub done_is : closes I.construct part ≡ done

abbrev pub state_of : Reading → Stack → State
state_of reading stack = record { reading = reading; stack = stack }

-- one part more was read
pub record Goes (I : Source) (t : State) (done : Bool) (next : State) : Type 0 where
  pub part : Part
  pub fits : Fits (length t.stack.places == I.height) (ahead I t) part
  pub within : size_of part ≤ length (ahead I t)
  pub found : part_at I.syntax.names I.syntax.general_fold (here I t) (ahead I t) ≡ Ok part
  pub goes : judged I (ahead I t) t part ≡ Ok part
  pub reading_is : next.reading ≡ (after I (ahead I t) part t).reading
  pub stack_is : next.stack ≡ (after I (ahead I t) part t).stack
  pub done_is : closes I.construct part ≡ done

-- a literal of a tag is one lexeme
abbrev pub value_of : List Lexeme → List AnyUnit
value_of (Value units ∷ ds) = units
value_of _ = []

abbrev pub IsValue : Construct → List Lexeme → Type 0
IsValue (construct.Literal quote) ds = ds ≡ Value (value_of ds) ∷ []
IsValue _ ds = Unit {0}

abbrev pub error_of : Fault → LexError
error_of (Wanting n) = error.Wanted n
error_of (Refusing r) = error.Refused r

-- the bytes stand where the text at the top is read, which has an offset
pub record StandsWithin (places : List Place) (bytes : List ℕ) : Type 0 where
  pub some : 0 < length places
  pub fits : offset_of places + length bytes < 2 ^ 64

abbrev pub entity_of : List Place → ℕ
entity_of [] = 0
entity_of (p ∷ ps) = p.entity

-- The base stands below what was opened.
pub record Stands (e : ℕ) (below : List Place) (ps : List Place) : Type 0 where
  pub above : List Place
  pub at : ℕ
  pub is : ps ≡ above ++ (place_at e at ∷ below)

-- what is read of a declaration stands on the stack on which it began
pub record OnTop (s t : Stack) : Type 0 where
  pub stands : Stands (entity_of s.places) (lower s.places) t.places
  pub levels_are : t.levels ≡ s.levels
  pub expand_is : t.expand ≡ s.expand

-- a part is taken after so much was read, on this stack, or is refused
abbrev pub Takes : Source → List ℕ → Part → Reading → Stack → Reading → Stack → Turn → Type 0
Takes I bytes part r s next after More = Turned I bytes (state_of r s) part false (state_of next after)
Takes I bytes part r s next after Ended = Turned I bytes (state_of r s) part true (state_of next after)
Takes I bytes part r s next after (Refused fault) = (judged I bytes (state_of r s) part ≡ Err fault) × (after ≡ s)

abbrev pub Steps : Source → State → Turn → State → Type 0
Steps I t More next = Goes I t false next
Steps I t Ended next = Goes I t true next
Steps I t (Refused fault) next = (next_part I t ≡ Err fault) × (next.stack ≡ t.stack)
