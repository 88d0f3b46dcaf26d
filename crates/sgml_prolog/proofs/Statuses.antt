-- The start of a marked section that tells its status, or why it isn't taken.
use Rattle.std.proofs.Common.{◌≡◌, ℕ, ◌-◌, ◌<◌, ◌≤◌, Bool, true, false, List, Option, Result, Ok, Err, length, refl, sym, ◌∙◌, ap, subst}
use Rattle.sgml_text.specs.declared.reason.Reason.{Reason}
use Rattle.sgml_entity.specs.Stack.{Stack}
use Rattle.sgml_entity.specs.declared.places.StackMark.{StackMark}
use Rattle.sgml_declared.specs.decl_parts.declared.ends.Construct.TheVariants as construct
use Rattle.sgml_marked.specs.declared.status.Status.{Status}
use Rattle.sgml_scan.specs.declared.state.Token.{Token}
use Rattle.sgml_declared.specs.theory_reading.Names.{Name, Text}
use Rattle.sgml_declared.specs.theory_reading.Pieces.{Piece}
use Rattle.sgml_declared.specs.theory_reading.Unread.{Outside}
use Rattle.sgml_declared.specs.theory_standing.Kept.{Kept, sources_of}
use Rattle.sgml_declared.specs.theory_standing.Prologs.{is_over}
use Rattle.sgml_declared.specs.Files.{Choices}
use Rattle.sgml_declared.specs.declared.error.TakeError.{TakeError}
use Rattle.sgml_declared.specs.Over.{IsReadOver, IsOver}
use Rattle.sgml_declared.specs.Taking.{section_spelled, StatusIsTaken, StatusIsStopped}
use Rattle.sgml_prolog_steps.specs.Standing.{IsKept}
use Rattle.sgml_prolog_steps.specs.Found.{rest_in, innermost, IsSpelled, IsTokenThere}
use Rattle.sgml_prolog_steps.specs.declared.sort.Sort.TheVariants as sort
use Rattle.sgml_prolog_steps.specs.declared.stepping.Turn.TheVariants as turns
use Rattle.sgml_prolog_steps.specs.declared.stepping.Stop.TheVariants as stop
use Rattle.sgml_prolog_steps.specs.References.{gone_back}
use Rattle.sgml_prolog_steps.specs.Sorts.{sort_in, is_ignored}
use Rattle.sgml_prolog_steps.specs.Steps.{AreSilentNext, IsOutside, IsStep, stop_of, with_section}
use Rattle.sgml_prolog_steps.proofs.Shared.{silent-step, memory-step}
use Rattle.sgml_prolog_steps.proofs.Constructs.{around, stopped-step, start-spelled, start-whole}
use Rattle.sgml_prolog.proofs.Tokens.{is-section-start}
use Rattle.sgml_prolog.proofs.Lexing.{IsMark, over-is, back-over, deep-over, within-over}
use Rattle.sgml_prolog.proofs.Sections.{section_begun, starts-next, kept-start, falls-start}

pub start-stopped-step : (c : Choices) (texts : List (ℕ × Text)) (ended : Bool) (asked : Option Name) (x : Token) (old new : Kept) (error : TakeError) → IsKept old → is_over old ≡ false
    → sort_in old x.kind ≡ sort.SectionStart → is_ignored (innermost old.sections) ≡ false → IsTokenThere old texts ended x
    → StatusIsStopped true c old.doctype old.subset texts old.stack error → new ≡ old → IsStep c texts ended asked old new (Err (stop_of error))
start-stopped-step c texts ended asked x old new error h g e w there stopped same =
    stopped-step c texts ended asked old new error (λ outside. section_spelled true outside (sources_of old) texts old.stack x.length) g
    (λ outside. start-spelled outside old texts ended x h g e w there)
    (λ outside o. stopped outside x.length (around c outside old texts asked h o) (start-whole old texts ended x h g e w there)) same

-- where no memory was there for the section
start-read : (texts : List (ℕ × Text)) (ended : Bool) (x : Token) (old mid : Kept) → IsKept old → is_over old ≡ false → sort_in old x.kind ≡ sort.SectionStart
    → is_ignored (innermost old.sections) ≡ false → IsTokenThere old texts ended x → IsOver construct.SectionStart old.doctype texts old.stack mid.stack → IsReadOver x.length old.stack mid.stack
start-read texts ended x old mid h g e w there over = over x.length (start-whole old texts ended x h g e w there)

pub start-deep : (texts : List (ℕ × Text)) (ended : Bool) (x : Token) (m : StackMark) (old mid last : Kept) → IsKept old → is_over old ≡ false → sort_in old x.kind ≡ sort.SectionStart
    → is_ignored (innermost old.sections) ≡ false → IsTokenThere old texts ended x → IsOver construct.SectionStart old.doctype texts old.stack mid.stack
    → IsMark m old.stack → last ≡ mid → m.depth < length last.stack.places
start-deep texts ended x m old mid last h g e w there over k same =
    subst (λ (z : Kept). m.depth < length z.stack.places) (sym same) (deep-over m x.length old.stack mid.stack k (start-read texts ended x old mid h g e w there over))

pub start-within : (texts : List (ℕ × Text)) (ended : Bool) (x : Token) (m : StackMark) (old mid last : Kept) → IsKept old → is_over old ≡ false → sort_in old x.kind ≡ sort.SectionStart
    → is_ignored (innermost old.sections) ≡ false → IsTokenThere old texts ended x → IsOver construct.SectionStart old.doctype texts old.stack mid.stack
    → m.spent ≤ old.stack.expand → last ≡ mid → m.spent ≤ last.stack.expand
start-within texts ended x m old mid last h g e w there over l same =
    subst (λ (z : Kept). m.spent ≤ z.stack.expand) (sym same) (within-over m x.length old.stack mid.stack l (start-read texts ended x old mid h g e w there over))

pub start-memory-step : (c : Choices) (texts : List (ℕ × Text)) (ended : Bool) (asked : Option Name) (x : Token) (m : StackMark) (old mid last new : Kept) → IsKept old → is_over old ≡ false
    → sort_in old x.kind ≡ sort.SectionStart → is_ignored (innermost old.sections) ≡ false → IsTokenThere old texts ended x
    → IsOver construct.SectionStart old.doctype texts old.stack mid.stack → IsMark m old.stack → mid ≡ record old { stack = mid.stack } → last ≡ mid → new ≡ gone_back m last
    → IsStep c texts ended asked old new (Err stop.Memory)
start-memory-step c texts ended asked x m old mid last new h g e w there over k is same back =
    memory-step c texts ended asked old new
    (back-over m old last new x.length mid.stack k (start-read texts ended x old mid h g e w there over) (same ∙ is) back)

-- it is taken
silent-start : (c : Choices) (texts : List (ℕ × Text)) (ended : Bool) (asked : Option Name) (x : Token) (old : Kept) (t : Stack) (st : Status) → IsKept old → is_over old ≡ false
    → sort_in old x.kind ≡ sort.SectionStart → is_ignored (innermost old.sections) ≡ false → IsTokenThere old texts ended x → StatusIsTaken true c old.doctype old.subset texts old.stack t st
    → (outside : Outside) → IsOutside c outside old texts asked → AreSilentNext outside texts ended old (with_section st (length old.stack.places) (record old { stack = t }))
silent-start c texts ended asked x old t st h g e w there taken outside o =
    let y = taken outside x.length (around c outside old texts asked h o) (start-whole old texts ended x h g e w there) in
    let p : Piece = y.0 in
    let spelled = subst (λ (a : Result Piece Reason). IsSpelled outside old texts ended a) y.1.spelled (start-spelled outside old texts ended x h g e w there) in
    let next = starts-next outside old texts ended p st h g (is-section-start old x.kind e).0 y.2 (subst (λ n. n ≤ length (rest_in old texts)) (sym y.1.size) there.within) spelled in
    subst (λ (z : Kept). AreSilentNext outside texts ended old z)
    (ap (λ n. section_begun st n p.spent old) y.1.size
    ∙ ap (λ (z : Stack). with_section st (length old.stack.places) (record old { stack = z })) (sym y.1.stack)) next

pub start-step : (c : Choices) (texts : List (ℕ × Text)) (ended : Bool) (asked : Option Name) (x : Token) (old mid new : Kept) (st : Status) (level : ℕ) → IsKept old → is_over old ≡ false
    → sort_in old x.kind ≡ sort.SectionStart → is_ignored (innermost old.sections) ≡ false → IsTokenThere old texts ended x
    → StatusIsTaken true c old.doctype old.subset texts old.stack mid.stack st → IsOver construct.SectionStart old.doctype texts old.stack mid.stack
    → mid ≡ record old { stack = mid.stack } → level ≡ length old.stack.places → new ≡ with_section st level mid → IsStep c texts ended asked old new (Ok turns.Silent)
start-step c texts ended asked x old mid new st level h g e w there taken over is count begun =
    let inside = mid.stack.spent - old.stack.spent in
    let b = (is-section-start old x.kind e).0 in
    let at = over-is x.length old.stack mid.stack (over x.length (start-whole old texts ended x h g e w there)) in
    let read : new ≡ with_section st (length old.stack.places) (record old { stack = mid.stack }) = begun ∙ (λ i. with_section st (count i) (is i)) in
    let same : with_section st (length old.stack.places) (record old { stack = mid.stack }) ≡ section_begun st x.length inside old =
    ap (λ (z : Stack). with_section st (length old.stack.places) (record old { stack = z })) at in
    subst (λ (z : Kept). IsStep c texts ended asked old z (Ok turns.Silent)) (sym (read ∙ same))
    (silent-step c texts ended asked old (section_begun st x.length inside old)
    (λ outside o. subst (λ (z : Kept). AreSilentNext outside texts ended old z) same (silent-start c texts ended asked x old mid.stack st h g e w there taken outside o))
    (falls-start old texts st x.length inside h there.some there.within)
    (kept-start old st x.length inside h b) refl)
