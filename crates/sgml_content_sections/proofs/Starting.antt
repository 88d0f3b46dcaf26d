-- The starts of marked sections.
use Rattle.std.proofs.Common.{◌≡◌, ℕ, ◌+◌, ◌-◌, ◌<◌, ◌≤◌, Bool, true, false, List, [], Result, Ok, Err, length, take, refl, sym, ◌∙◌, ap, subst, arith}
use Rattle.std.specs.Prelude.{reverse}
use Rattle.std.proofs.lemmas.List.{length-take-le}
use Rattle.sgml_text.specs.declared.reason.Reason.{Reason}
use Rattle.sgml_entity.specs.Stack.{Stack, moved, offset_of}
use Rattle.sgml_entity.specs.declared.places.StackMark.{StackMark}
use Rattle.sgml_theory_reading.specs.records.Items.{Markup}
use Rattle.sgml_delim.specs.declared.delim.Mode.{Mode}
use Rattle.sgml_delim.specs.declared.delim.Mode.TheVariants as mode
use Rattle.sgml_marked.specs.declared.status.Status.{Status}
use Rattle.sgml_marked.specs.declared.status.Status.TheVariants as status
use Rattle.sgml_scan.specs.markup.declared.kinds.TokenKind.TheVariants as kind
use Rattle.sgml_scan.specs.declared.state.ScanState.{ScanState}
use Rattle.sgml_scan.specs.declared.state.Token.{Token}
use Rattle.sgml_decl_lexemes.specs.decl_parts.declared.ends.Construct.TheVariants as construct
use Rattle.sgml_dtd.specs.Doctypes.{Doctype}
use Rattle.sgml_theory_reading.specs.Names.{Text}
use Rattle.sgml_theory_reading.specs.Pieces.{Piece, SectionStart}
use Rattle.sgml_theory_reading.specs.Facets.{turn, border, declares, subset_named, stage_after, effect, token, is_finish, is_omitted, items_of, map_set}
use Rattle.sgml_theory_reading.specs.Events.{shown}
use Rattle.sgml_theory_reading.specs.Sections.{sections_after}
use Rattle.sgml_theory_reading.specs.Characters.{kind_noted}
use Rattle.sgml_theory_reading.specs.Unread.{Outside}
use Rattle.sgml_declared.specs.theory_spelling.Stacked.{Stacked}
use Rattle.sgml_declared.specs.theory_spelling.Sized.{sized}
use Rattle.sgml_declared.specs.theory_spelling.Content.{section_piece, section_start}
use Rattle.sgml_declared.specs.theory_standing.Kept.{Kept, sources_of}
use Rattle.sgml_declared.specs.theory_standing.Held.{Held, IsSpelledIn}
use Rattle.sgml_inside.specs.Inside.{noted_in}
use Rattle.sgml_declared.specs.Files.{Choices}
use Rattle.sgml_declared.specs.Over.{IsReadOver}
use Rattle.sgml_declared.specs.Taking.{stacked_on, Ends, section_spelled}
use Rattle.sgml_prolog_steps.specs.References.{gone_back}
use Rattle.sgml_prolog_steps.specs.Found.{rest_in, SectionEnds}
use Rattle.sgml_prolog_steps.proofs.Shared.{length-moved}
use Rattle.sgml_prolog_steps.proofs.Referring.{back-places}
use Rattle.sgml_prolog_steps.proofs.Starting.{reversed-with}
use Rattle.sgml_prolog_steps.specs.declared.stepping.Stop.{Stop}
use Rattle.sgml_prolog_steps.specs.declared.stepping.Stop.TheVariants as stop
use Rattle.sgml_content_steps.specs.Standing.{IsHeld}
use Rattle.sgml_content_steps.specs.Found.{IsTokenThere}
use Rattle.sgml_content_steps.proofs.Pieces.{section-starts-are-pieces}
use Rattle.sgml_content_steps.specs.Content.{Content, IsContent}
use Rattle.sgml_content_steps.specs.Steps.{TakesAt, IsStep, IsOutside}
use Rattle.sgml_content_sections.specs.Changes.{further, marked}
use Rattle.sgml_content_sections.specs.Starts.{is_ignored, with_one, section_begun, IsBegun, IsNotBegun}
use Rattle.sgml_content_sections.proofs.Quiet.{IsQuiet, memory-step, stopped-step, around}
use Rattle.sgml_content_sections.proofs.Steady.{IsSteady, IsMark, mark-inside, marks-in-force, read_by, plain-stack, IsPieceBy, steady-step}

-- THE PIECE
quiet : (st : Status) → IsQuiet (SectionStart st)
unfolding token effect is_finish is_omitted kind_noted shown items_of
quiet st = record { is_alone = record { stands = refl; of_content = refl; written = refl; noted = λ s. refl }; tells = λ y n spent. refl; names_none = refl }

steady : (st : Status) → IsSteady (SectionStart st)
unfolding turn declares subset_named stage_after
steady st = record { turn_is = refl; declares_none = λ d. refl; names_none = refl; stays = refl }

mark : (st : Status) → IsMark (SectionStart st)
unfolding items_of map_set
mark st = record { items = refl; sets_none = refl }

begun-sections : (k : Kept) (st : Status)
    → reverse (sections_after (border (SectionStart st)) (length k.stack.places) (reverse k.sections)) ≡ with_one st (length k.stack.places) k.sections
unfolding border
begun-sections k st = reversed-with k.sections (record { status = st; level = length k.stack.places })

begins : (c : Choices) (sc : ScanState) (texts : List (ℕ × Text)) (ended : Bool) (t : Token) (old : Content) (st : Status) (s : Stack) (inside : ℕ) → IsContent old → IsTokenThere old.kept sc texts ended t
    → s ≡ read_by t.length inside old.kept.stack
    → ((outside : Outside) (x : Held) → IsOutside c outside old.kept texts → IsHeld old.kept sc x → IsPieceBy outside texts ended t old x (SectionStart st) s)
    → IsStep c sc texts ended old (marked s (with_one st (length old.kept.stack.places) old.kept.sections) old) [] (Ok tt)
begins c sc texts ended t old st s inside is there e pieces =
    steady-step c sc texts ended t old (SectionStart st) s (with_one st (length old.kept.stack.places) old.kept.sections) (noted_in Markup old.inside.elements) inside is there
    (quiet st) (steady st) (begun-sections old.kept st) (mark-inside (SectionStart st) old.inside.elements (mark st)) (marks-in-force old is) e
    (λ outside x o h held. pieces outside x o held)

-- IN AN IGNORED SECTION
ignored-mode : (m : Mode) → is_ignored m ≡ true → m ≡ mode.Ign
ignored-mode mode.Ign e = refl
ignored-mode mode.Con e = cc e
ignored-mode _ e = cc e

ignored-spelled : (sc : ScanState) (texts : List (ℕ × Text)) (ended : Bool) (t : Token) (old : Content) (outside : Outside) (x : Held) → IsTokenThere old.kept sc texts ended t → t.kind ≡ kind.SectionStart
    → sc.mode ≡ mode.Ign → IsHeld old.kept sc x → IsSpelledIn outside x texts ended (Ok (sized t.length (SectionStart status.Ignore)))
ignored-spelled sc texts ended t old outside x there k m held =
    let own = take t.length (rest_in old.kept texts) in
    subst (λ (a : Result Piece Reason). IsSpelledIn outside x texts ended a)
    (ap (λ z. section_piece outside old.kept.doctype (stacked_on old.kept.stack) z false own) m
    ∙ ap (λ n. Ok (sized n (SectionStart status.Ignore))) (length-take-le t.length (rest_in old.kept texts) there.within))
    (section-starts-are-pieces old.kept sc texts ended t there k outside x held)

pub ignored-step : (c : Choices) (sc : ScanState) (texts : List (ℕ × Text)) (t : Token) (level : ℕ) (old new : Content) → IsContent old → t.kind ≡ kind.SectionStart → is_ignored sc.mode ≡ true
    → level ≡ length old.kept.stack.places → new ≡ section_begun status.Ignore level t.length old → TakesAt c sc texts t old new [] (Ok tt)
ignored-step c sc texts t level old new is k m count e ended there =
    let s = further t.length old.kept.stack in
    let at = plain-stack t.length old.kept.stack in
    subst (λ (z : Content). IsStep c sc texts ended old z [] (Ok tt)) (sym (e ∙ ap (λ j. section_begun status.Ignore j t.length old) count))
    (begins c sc texts ended t old status.Ignore s 0 is there at
    (λ outside x o held. (sized t.length (SectionStart status.Ignore), refl, refl, at, ignored-spelled sc texts ended t old outside x there k (ignored-mode sc.mode m) held)))

-- BY ITS STATUS
read-start : (outside : Outside) (d : Doctype) (t : Stacked) (m : Mode) (own : Text) → is_ignored m ≡ false → section_piece outside d t m false own ≡ section_start outside d t false own
read-start outside d t mode.Ign own n = cc n
read-start outside d t _ own n = refl

pub start-ends : (k : Kept) (texts : List (ℕ × Text)) (n : ℕ) (m : Mode) → is_ignored m ≡ false → SectionEnds m k texts n → Ends construct.SectionStart k.doctype texts k.stack n
start-ends k texts n mode.Ign not w = cc not
start-ends k texts n _ not w = w

status-spelled : (sc : ScanState) (texts : List (ℕ × Text)) (ended : Bool) (t : Token) (old : Content) (outside : Outside) (x : Held) → IsTokenThere old.kept sc texts ended t → t.kind ≡ kind.SectionStart
    → is_ignored sc.mode ≡ false → IsHeld old.kept sc x → IsSpelledIn outside x texts ended (section_spelled false outside (sources_of old.kept) texts old.kept.stack t.length)
status-spelled sc texts ended t old outside x there k m held =
    subst (λ (a : Result Piece Reason). IsSpelledIn outside x texts ended a)
    (read-start outside old.kept.doctype (stacked_on old.kept.stack) sc.mode (take t.length (rest_in old.kept texts)) m)
    (section-starts-are-pieces old.kept sc texts ended t there k outside x held)

pub grown-by : (a b : ℕ) → a ≤ b → b ≡ a + (b - a)
grown-by a b l = omega (arith, l)

pub over-is : (n : ℕ) (s t : Stack) → IsReadOver n s t → t ≡ read_by n (t.spent - s.spent) s
over-is n s t o = o.stack ∙ ap (λ z. record s { spent = z; places = moved n s.places }) (grown-by s.spent t.spent o.grown)

pub begun-step : (c : Choices) (sc : ScanState) (texts : List (ℕ × Text)) (t : Token) (level : ℕ) (old new : Content) (now : Kept) → IsContent old → t.kind ≡ kind.SectionStart → is_ignored sc.mode ≡ false
    → SectionEnds sc.mode old.kept texts t.length → level ≡ length old.kept.stack.places → IsBegun c texts level old.kept now
    → new ≡ record old { kept = now; inside = record old.inside { elements = noted_in Markup old.inside.elements } } → TakesAt c sc texts t old new [] (Ok tt)
begun-step c sc texts t level old new now is k m w count b e ended there =
    let ends = start-ends old.kept texts t.length sc.mode m w in
    let s = b.stack in
    let same : new ≡ marked s (with_one b.status (length old.kept.stack.places) old.kept.sections) old =
    e ∙ (ap (λ (z : Kept). record old { kept = z; inside = record old.inside { elements = noted_in Markup old.inside.elements } }) b.kept
    ∙ ap (λ j. marked s (with_one b.status j old.kept.sections) old) count) in
    subst (λ (z : Content). IsStep c sc texts ended old z [] (Ok tt)) (sym same)
    (begins c sc texts ended t old b.status s (s.spent - old.kept.stack.spent) is there (over-is t.length old.kept.stack s (b.over t.length ends))
    (λ outside x o held.
    let y = b.taken outside t.length (around c outside old.kept texts is.instance o) ends in
    (y.0, y.2, y.1.size, y.1.stack, subst (λ (a : Result Piece Reason). IsSpelledIn outside x texts ended a) y.1.spelled (status-spelled sc texts ended t old outside x there k m held))))

pub not-begun-step : (c : Choices) (sc : ScanState) (texts : List (ℕ × Text)) (t : Token) (old new : Content) (stopped : Stop) → IsContent old → t.kind ≡ kind.SectionStart → is_ignored sc.mode ≡ false
    → SectionEnds sc.mode old.kept texts t.length → IsNotBegun c texts old.kept stopped → new ≡ old → TakesAt c sc texts t old new [] (Err stopped)
not-begun-step c sc texts t old new stopped is k m w b e ended there =
    subst (λ (z : Content). IsStep c sc texts ended old z [] (Err stopped)) (sym e)
    (subst (λ z. IsStep c sc texts ended old old [] (Err z)) (sym b.told)
    (stopped-step c sc texts ended old b.error (λ outside x. section_spelled false outside (sources_of old.kept) texts old.kept.stack t.length) is
    (λ outside x held. status-spelled sc texts ended t old outside x there k m held)
    (λ outside x o h. b.stopped outside t.length (around c outside old.kept texts is.instance o) (start-ends old.kept texts t.length sc.mode m w))))

pub memory-at : (c : Choices) (sc : ScanState) (texts : List (ℕ × Text)) (t : Token) (old new : Content) → IsContent old → new ≡ old → TakesAt c sc texts t old new [] (Err stop.Memory)
memory-at c sc texts t old new is e ended there = subst (λ (z : Content). IsStep c sc texts ended old z [] (Err stop.Memory)) (sym e) (memory-step c sc texts ended old is)

-- GOING BACK where no memory is there
pub record IsMarked (m : StackMark) (s : Stack) : Type 0 where
  pub depth : m.depth + 1 ≡ length s.places
  pub at : m.at ≡ offset_of s.places
  pub spent : m.spent ≡ s.spent

pub back-over : (m : StackMark) (old mid new : Kept) (n : ℕ) (t : Stack) → IsMarked m old.stack → IsReadOver n old.stack t → mid ≡ record old { stack = t } → new ≡ gone_back m mid → new ≡ old
back-over m old mid new n t k o r g =
    g ∙ (ap (gone_back m) (r ∙ ap (λ (z : Stack). record old { stack = z }) o.stack)
    ∙ (λ i. record old { stack = record old.stack { places = back-places old.stack.places n m.depth m.at k.depth k.at i; spent = k.spent i } }))

pub deep-over : (m : StackMark) (n : ℕ) (s t : Stack) → IsMarked m s → IsReadOver n s t → m.depth < length t.places
deep-over m n s t k o =
    let e = ap (λ (z : Stack). length z.places) o.stack ∙ length-moved n s.places in
    omega (arith, e, k.depth)

pub within-over : (m : StackMark) (n : ℕ) (s t : Stack) → m.spent ≤ s.expand → IsReadOver n s t → m.spent ≤ t.expand
within-over m n s t l o =
    let e = ap (λ (z : Stack). z.expand) o.stack in
    omega (arith, e, l)
