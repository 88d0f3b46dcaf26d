-- A piece takes a byte of the text, unless the text was read to its end.
use Rattle.std.proofs.Common.{◌≡◌, ℕ, Bool, true, false, List, [], ◌∷◌, ◌+◌, ◌<◌, ◌==◌, Option, None, Some, Result, Ok, Err, length, take, drop, refl, subst, if◌then◌else◌, arith}
use Rattle.std.specs.List.{list_all}
use Rattle.std.proofs.lemmas.List.{length-take}
use Rattle.sgml_scan.specs.text.Characters.{is_sgml_character, all_sgml}
use Rattle.sgml_scan.specs.text.declared.reason.Reason.{Reason}
use Rattle.sgml_scan.specs.text.declared.reason.Reason.TheVariants as reason
use Rattle.sgml_scan.specs.syntax.declared.syntax.Syntax.{Syntax}
use Rattle.sgml_scan.specs.delim.declared.delim.Delim.{Delim}
use Rattle.sgml_scan.specs.delim.declared.delim.Delim.TheVariants as d
use Rattle.sgml_scan.specs.delim.declared.delim.Mode.{Mode}
use Rattle.sgml_scan.specs.delim.declared.delim.Mode.TheVariants as m
use Rattle.sgml_scan.specs.delim.Tables.{string}
use Rattle.sgml_scan.specs.delim.Answers as delimiters
use Rattle.sgml_scan.specs.shortref.declared.matching.Next.{Next}
use Rattle.sgml_scan.specs.shortref.Strings.{is_blank}
use Rattle.sgml_scan.specs.shortref.Matches as strings
use Rattle.sgml_scan.specs.markup.declared.kinds.Form.{Form}
use Rattle.sgml_scan.specs.markup.declared.kinds.Form.TheVariants as form
use Rattle.sgml_scan.specs.markup.declared.kinds.TokenKind.{TokenKind}
use Rattle.sgml_scan.specs.markup.Ends.{end_of}
use Rattle.sgml_scan.specs.markup.Forms.{before, judged}
use Rattle.sgml_scan.specs.declared.classes.Class.{Class}
use Rattle.sgml_scan.specs.declared.classes.Class.TheVariants as class
use Rattle.sgml_scan.specs.declared.state.Opening.{Opening}
use Rattle.sgml_scan.specs.declared.state.Opening.TheVariants.{Markup, Whole}
use Rattle.sgml_scan.specs.declared.state.ScanState.{ScanState}
use Rattle.sgml_scan.specs.declared.state.Scanned.{Scanned}
use Rattle.sgml_scan.specs.declared.state.Scanned.TheVariants.{Token, NeedMore, BadToken}
use Rattle.sgml_scan.specs.Classes.{class_of}
use Rattle.sgml_scan.specs.Openings.{opening, declared_opening, matches_strings}
use Rattle.sgml_scan.specs.Tokens.{open_ended, of_judged, closed, opened}
use Rattle.sgml_sgmldecl.specs.Machine.{Outcome, bad, whole, run, begin_state}
use Rattle.sgml_sgmldecl.specs.Refusing.{refusal_of, answer}
use Rattle.sgml_sgmldecl.specs.declared.feature.DeclError.{DeclError}
use Rattle.sgml_theory_reading.specs.Pieces.{Piece, Sgml, EntityEnd}
use Rattle.sgml_theory_reading.specs.Facets.{Stage, BeforeSyntax, AtBeginning, BeforeDoctype, InSubset, AfterSubset}
use Rattle.sgml_theory_reading.specs.Unread.{Outside, Rest, Standing}
use Rattle.sgml_theory_reading.specs.State.{State}
use Rattle.sgml_theory_reading.specs.Reads.{length_of_first}
use Rattle.sgml_theory_spelling.specs.Stacked.{Stacked, stacked}
use Rattle.sgml_theory_spelling.specs.Sized.{sized, unless_reason}
use Rattle.sgml_theory_spelling.specs.Tokens.{character_token, string_at, by_string, by_delimiter, token_at}
use Rattle.sgml_theory_spelling.specs.Places.{in_doctype, mode_at, scan_state, in_section}
use Rattle.sgml_theory_spelling.specs.SgmlDeclared.{begins_sgml, sgml_of, sgml_by, sgml_piece}
use Rattle.sgml_theory_spelling.specs.Decided.{is_early_end}
use Rattle.sgml_theory_spelling.specs.Spelled.{type_end, document_end, entity_end, text_end, piece_in, by_token, by_token_before, token_here, sgml_bad, sgml_by_token, at_beginning, by_stage, spelled_in, spelled_of, spelled}
use Rattle.sgml_theory_spelling.specs.Taken.{is_text_end, SpelledTakesItsBytes}
use Rattle.sgml_theory_spelling.proofs.Tokens.{apart}
use Rattle.sgml_theory_spelling.proofs.Growing.{HasLength, run-length}
use Rattle.sgml_theory_spelling.proofs.Sizes.{HasSize, before-size}
use Rattle.sgml_theory_spelling.proofs.Ends.{NoEnd, content-no-end, before-no-end, subset-no-end}
use Rattle.sgml_theory_spelling.proofs.Decides.{AnswerSize, answer-size, piece-size, spelled-within}

-- A TOKEN HAS A BYTE

abbrev HasByte : Scanned → Type 0
HasByte (Token x) = 0 < x.length
HasByte _ = Unit {0}

before-some : (f : Form) → 0 < before f
before-some form.StartTag = omega arith
before-some form.EndTag = omega arith
before-some form.EntityReference = omega arith
before-some form.ParameterReference = omega arith
before-some form.CharacterReference = omega arith
before-some form.Instruction = omega arith
before-some form.CommentDeclaration = omega arith
before-some form.SectionStart = omega arith
before-some form.Declaration = omega arith
before-some form.SubsetEnd = omega arith

open-byte : (bytes : List ℕ) → HasByte (open_ended true bytes)
open-byte bytes = by (list_all is_sgml_character bytes)
  where
    by : (t : Bool) → HasByte (if t then BadToken reason.Unclosed else BadToken reason.NonSgml)
    by true = tt
    by false = tt

judged-byte : (n : ℕ) (x : Result TokenKind Reason) → 0 < n → HasByte (of_judged n x)
judged-byte n (Ok k) l = l
judged-byte n (Err r) l = tt

closed-byte : (s : Syntax) (bytes : List ℕ) (f : Form) (o : Option ℕ) → HasByte (closed s true bytes f o)
closed-byte s bytes f None = open-byte bytes
closed-byte s bytes f (Some n) =
    let some = before-some f in
    judged-byte (before f + n) (judged s f (take (before f + n) bytes)) (omega (arith, some))

markup-byte : (s : Syntax) (bytes : List ℕ) (f : Form) → HasByte (opened s true bytes (Markup f))
markup-byte s bytes f = closed-byte s bytes f (end_of s f true (drop (before f) bytes))

abbrev OpensSome : Opening → Type 0
OpensSome (Whole k n) = 0 < n
OpensSome (Markup f) = Unit {0}

declared-some : (mode : Mode) (bytes : List ℕ) → OpensSome (declared_opening mode bytes)
declared-some m.Ign bytes = omega arith
declared-some _ bytes = tt

opening-some : (mode : Mode) (x : Delim) (bytes : List ℕ) → OpensSome (opening mode x bytes)
opening-some mode d.Mdo bytes = declared-some mode bytes
opening-some mode d.Msc bytes = omega arith
opening-some mode d.Net bytes = omega arith
opening-some mode d.Stago bytes = tt
opening-some mode d.Etago bytes = tt
opening-some mode d.Ero bytes = tt
opening-some mode d.Cro bytes = tt
opening-some mode d.Pero bytes = tt
opening-some mode d.Pio bytes = tt
opening-some mode d.Dsc bytes = tt
opening-some mode _ bytes = omega arith

opened-byte : (s : Syntax) (bytes : List ℕ) (o : Opening) → OpensSome o → HasByte (opened s true bytes o)
opened-byte s bytes (Whole k n) l = l
opened-byte s bytes (Markup f) l = markup-byte s bytes f

-- a short reference string
abbrev LongString : Option (ℕ × ℕ) → Type 0
LongString (Some p) = 0 < p.1
LongString None = Unit {0}

if-long : (t : Bool) (p q : ℕ × ℕ) → 0 < p.1 → 0 < q.1 → 0 < (if t then p else q).1
if-long true p q l k = l
if-long false p q l k = k

start-long : (k : ℕ) (n : Next) → 0 < (strings.after_start k n).1
start-long k n =
    if-long (strings.is_record_end n) _ _ (if-long (k == 0) (4, 2) (5, k + 2) (omega arith) (omega arith))
    (if-long (k == 0) (2, 1) (3, k + 1) (omega arith) (omega arith))

blank-long : (b k : ℕ) (n : Next) → 0 < (strings.from_blank b k n).1
blank-long b k n =
    if-long (strings.is_record_end n) (6, k + 2) _ (omega arith)
    (if-long (k == 0) _ (8, k + 1) (if-long (b == 9) (0, 1) (7, 1) (omega arith) (omega arith)) (omega arith))

hyphens-long : (bytes : List ℕ) → 0 < (strings.hyphens bytes).1
hyphens-long [] = omega arith
hyphens-long (b ∷ bytes) = if-long (b == 45) (19, 2) (18, 1) (omega arith) (omega arith)

sign-long : (table : List (ℕ × ℕ)) (b : ℕ) → LongString (strings.sign_in table b)
sign-long [] b = tt
sign-long (sign ∷ more) b = by (sign.0 == b) (sign-long more b)
  where
    by : (t : Bool) → LongString (strings.sign_in more b) → LongString (if t then Some (sign.1, 1) else strings.sign_in more b)
    by true l = omega arith
    by false l = l

string-from-long : (start blank hyphen : Bool) (b : ℕ) (bytes : List ℕ) → LongString (strings.answer_from start blank hyphen b bytes)
string-from-long true blank hyphen b bytes = start-long (strings.blanks bytes) (strings.next_after bytes)
string-from-long false true hyphen b bytes = blank-long b (strings.blanks bytes) (strings.next_after bytes)
string-from-long false false true b bytes = hyphens-long bytes
string-from-long false false false b bytes = sign-long strings.signs b

string-long : (bytes : List ℕ) → LongString (strings.answer bytes)
string-long [] = tt
string-long (b ∷ bytes) = string-from-long (b == 10) (is_blank b) (b == 45) b bytes

string-at-long : (t : Bool) (bytes : List ℕ) → LongString (string_at t bytes)
string-at-long true bytes = string-long bytes
string-at-long false bytes = tt

class-byte : (k : Class) → HasByte (character_token k)
class-byte (class.Stretch q) = omega arith
class-byte (class.Single k) = omega arith
class-byte class.NonSgml = tt

by-string-byte : (mode : Mode) (b : ℕ) (bytes : List ℕ) (o : Option (ℕ × ℕ)) → LongString o → HasByte (by_string mode (b ∷ bytes) o)
by-string-byte mode b bytes (Some p) l = l
by-string-byte mode b bytes None l = class-byte (class_of mode b)

by-delimiter-byte : (s : Syntax) (st : ScanState) (b : ℕ) (bytes : List ℕ) (o : Option Delim) → HasByte (by_delimiter s st (b ∷ bytes) o)
by-delimiter-byte s st b bytes (Some x) =
    opened-byte s (b ∷ bytes) (opening st.mode x (drop (length (string x)) (b ∷ bytes))) (opening-some st.mode x (drop (length (string x)) (b ∷ bytes)))
by-delimiter-byte s st b bytes None = by-string-byte st.mode b bytes (string_at (matches_strings st) (b ∷ bytes)) (string-at-long (matches_strings st) (b ∷ bytes))

token-byte : (s : Syntax) (st : ScanState) (b : ℕ) (bytes : List ℕ) → HasByte (token_at s st (b ∷ bytes))
unfolding token_at
token-byte s st b bytes = by-delimiter-byte s st b bytes (delimiters.answer s st.mode st.net (b ∷ bytes))

-- SO HAS ITS PIECE, which is no end of a text

abbrev pub Takes : Result Piece Reason → Type 0
Takes (Ok p) = (0 < p.size) × (is_text_end p.kind ≡ false)
Takes (Err r) = Unit {0}

takes : (n : ℕ) (x : Result Piece Reason) → 0 < n → HasSize n x → NoEnd x → Takes x
takes n (Ok p) l e f = (omega (arith, l, e), f)
takes n (Err r) l e f = tt

taken-some : (n b : ℕ) (bytes : List ℕ) → 0 < n → 0 < length (take n (b ∷ bytes))
taken-some n b bytes l = let e = length-take n (b ∷ bytes) in omega (arith, e, l)

piece-no-end : (t : Bool) (outside : Outside) (s : State) (u : Stacked) (m : Mode) (k : TokenKind) (own : List ℕ) → NoEnd (piece_in t outside s u m k own)
piece-no-end true outside s u m k own = subset-no-end outside s u m k own
piece-no-end false outside s u m k own = content-no-end outside s u m k own

token-takes : (outside : Outside) (s : State) (t : Stacked) (b : ℕ) (bytes : List ℕ) (x : Scanned) → HasByte x → Takes (by_token outside s t (b ∷ bytes) x)
token-takes outside s t b bytes (Token x) l =
    let own = take x.length (b ∷ bytes) in
    takes (length own) _ (taken-some x.length b bytes l)
    (piece-size (in_doctype s.stage t.entities) outside s t (mode_at s t.entities) x.kind own)
    (piece-no-end (in_doctype s.stage t.entities) outside s t (mode_at s t.entities) x.kind own)
token-takes outside s t b bytes NeedMore l = tt
token-takes outside s t b bytes (BadToken r) l = tt

before-takes : (outside : Outside) (s : State) (t : Stacked) (b : ℕ) (bytes : List ℕ) (x : Scanned) → HasByte x → Takes (by_token_before outside s t (b ∷ bytes) x)
before-takes outside s t b bytes (Token x) l =
    let own = take x.length (b ∷ bytes) in
    takes (length own) _ (taken-some x.length b bytes l) (before-size outside s t x.kind own) (before-no-end outside s t x.kind own)
before-takes outside s t b bytes NeedMore l = tt
before-takes outside s t b bytes (BadToken r) l = tt

-- an SGML declaration
if-takes : (t : Bool) (x y : Result Piece Reason) → Takes x → Takes y → Takes (if t then x else y)
if-takes true x y p q = p
if-takes false x y p q = q

answer-takes : (n : ℕ) (bytes : List ℕ) (x : Result (Syntax × ℕ) DeclError) → AnswerSize n x → 0 < n → Takes (sgml_of bytes x)
answer-takes n bytes (Err e) w l = tt
answer-takes n bytes (Ok a) w l = if-takes (all_sgml (take a.1 bytes)) (Ok (sized a.1 (Sgml a.0))) (Err reason.NonSgml) (omega (arith, w, l), refl) tt

outcome-takes : (bytes : List ℕ) (o : Outcome) → HasLength o → Takes (sgml_by bytes o)
outcome-takes bytes (bad at) l = tt
outcome-takes bytes (whole h n) l = answer-takes n bytes (answer h n) (answer-size (refusal_of h) h n) l

sgml-takes : (bytes : List ℕ) → Takes (sgml_piece bytes)
unfolding sgml_piece
sgml-takes bytes = outcome-takes bytes (run 0 begin_state bytes) (run-length 0 begin_state bytes)

bad-takes : (bytes : List ℕ) (r : Reason) → Takes (sgml_bad bytes r)
bad-takes bytes reason.Unclosed = sgml-takes bytes
bad-takes bytes _ = tt

sgml-token-takes : (bytes : List ℕ) (x : Scanned) → Takes (sgml_by_token bytes x)
sgml-token-takes bytes (Token x) = sgml-takes (take x.length bytes)
sgml-token-takes bytes NeedMore = tt
sgml-token-takes bytes (BadToken r) = bad-takes bytes r

-- in each stage
here-byte : (s : State) (t : Stacked) (b : ℕ) (bytes : List ℕ) → HasByte (token_here s t (b ∷ bytes))
here-byte s t b bytes = token-byte s.context.doctype.syntax (scan_state s t.entities) b bytes

start-takes : (w : Bool) (outside : Outside) (s : State) (t : Stacked) (b : ℕ) (bytes : List ℕ) → Takes (at_beginning w outside s t (b ∷ bytes))
start-takes true outside s t b bytes = sgml-token-takes (b ∷ bytes) (token_here s t (b ∷ bytes))
start-takes false outside s t b bytes = before-takes outside s t b bytes (token_here s t (b ∷ bytes)) (here-byte s t b bytes)

stage-takes : (outside : Outside) (s : State) (t : Stacked) (b : ℕ) (bytes : List ℕ) (g : Stage) → Takes (by_stage outside s t (b ∷ bytes) g)
stage-takes outside s t b bytes BeforeSyntax = before-takes outside s t b bytes (token_here s t (b ∷ bytes)) (here-byte s t b bytes)
stage-takes outside s t b bytes AtBeginning = start-takes (begins_sgml s.context.doctype.syntax.names (b ∷ bytes)) outside s t b bytes
stage-takes outside s t b bytes BeforeDoctype = before-takes outside s t b bytes (token_here s t (b ∷ bytes)) (here-byte s t b bytes)
stage-takes outside s t b bytes InSubset = token-takes outside s t b bytes (token_here s t (b ∷ bytes)) (here-byte s t b bytes)
stage-takes outside s t b bytes AfterSubset = token-takes outside s t b bytes (token_here s t (b ∷ bytes)) (here-byte s t b bytes)

pub byte-takes : (outside : Outside) (s : State) (t : Stacked) (n b : ℕ) (bytes : List ℕ) → Takes (spelled_in outside s t n (b ∷ bytes))
byte-takes outside s t n b bytes =
    if-takes (is_early_end s.stage b) (Err reason.NoDoctype) (by_stage outside s t (b ∷ bytes) s.stage) tt (stage-takes outside s t b bytes s.stage)

-- ENDS OF TEXTS have none

abbrev EndsText : Result Piece Reason → Type 0
EndsText (Ok p) = (p.size ≡ 0) × (is_text_end p.kind ≡ true)
EndsText (Err r) = Unit {0}

document-ends : (g : Stage) (t : Bool) → EndsText (document_end g t)
document-ends BeforeSyntax t = tt
document-ends AtBeginning t = tt
document-ends BeforeDoctype t = tt
document-ends InSubset t = tt
document-ends AfterSubset true = tt
document-ends AfterSubset false = (refl, refl)

unless-ends : (o : Option Reason) → EndsText (unless_reason o (sized 0 EntityEnd))
unless-ends (Some r) = tt
unless-ends None = (refl, refl)

entity-ends : (s : State) (n : ℕ) (t : Bool) → EndsText (entity_end s n t)
entity-ends s n true = tt
entity-ends s n false = unless-ends (type_end n s.context.doctype)

if-ends : (t : Bool) (x y : Result Piece Reason) → EndsText x → EndsText y → EndsText (if t then x else y)
if-ends true x y p q = p
if-ends false x y p q = q

text-ends : (s : State) (n : ℕ) → EndsText (text_end s n)
text-ends s n =
    if-ends (n == 0) (document_end s.stage (in_section s.texts s.sections)) (entity_end s n (in_section s.texts s.sections))
    (document-ends s.stage (in_section s.texts s.sections)) (entity-ends s n (in_section s.texts s.sections))

-- WHAT IS SPELLED

abbrev Taken : ℕ → Result Piece Reason → Type 0
Taken n (Ok p) = (is_text_end p.kind ≡ false → 0 < p.size) × (is_text_end p.kind ≡ true → (p.size ≡ 0) × (n ≡ 0))
Taken n (Err r) = Unit {0}

by-bytes : (n : ℕ) (x : Result Piece Reason) → Takes x → Taken n x
by-bytes n (Ok p) h = (λ e. h.0, λ e. apart (is_text_end p.kind) e h.1)
by-bytes n (Err r) h = tt

by-end : (x : Result Piece Reason) → EndsText x → Taken 0 x
by-end (Ok p) h = (λ e. apart (is_text_end p.kind) h.1 e, λ e. (h.0, refl))
by-end (Err r) h = tt

in-taken : (outside : Outside) (s : State) (t : Stacked) (n : ℕ) (bytes : List ℕ) → Taken (length bytes) (spelled_in outside s t n bytes)
in-taken outside s t n [] = by-end (text_end s n) (text-ends s n)
in-taken outside s t n (b ∷ bytes) = by-bytes (length (b ∷ bytes)) (spelled_in outside s t n (b ∷ bytes)) (byte-takes outside s t n b bytes)

of-taken : (outside : Outside) (s : State) (t : Stacked) (rs : List Rest) → Taken (length_of_first rs) (spelled_of outside s t rs)
of-taken outside s t [] = tt
of-taken outside s t (r ∷ rs) = in-taken outside s t r.entity r.bytes

spelled-taken : (outside : Outside) (s : State) (t : Standing) (p : Piece) → spelled outside s t ≡ Ok p → Taken (length_of_first t.rests) (Ok p)
unfolding spelled
spelled-taken outside s t p e = subst (Taken (length_of_first t.rests)) e (of-taken outside s (stacked t) t.rests)

pub takes-its-bytes : SpelledTakesItsBytes
takes-its-bytes outside s t p e =
    let h = spelled-taken outside s t p e in
    record { within = spelled-within outside s t p e; has_byte = h.0; ends = h.1 }
