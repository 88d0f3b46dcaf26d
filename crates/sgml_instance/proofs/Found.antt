-- What is found where content is scanned, as a step.
use Rattle.std.proofs.Common.{◌≡◌, inl, ℕ, Bool, true, false, List, [], Result, Ok, Err, OnErr, refl, sym, ap, ◌∙◌, subst, append-nil, arith}
use Rattle.sgml_text.specs.declared.reason.Reason.{Reason}
use Rattle.sgml_scan.specs.declared.state.ScanState.{ScanState}
use Rattle.sgml_scan.specs.declared.state.Token.{Token}
use Rattle.sgml_events.specs.declared.event.Event.{Event}
use Rattle.sgml_content_tags.specs.said.Told.{all_said}
use Rattle.sgml_declared.specs.theory_reading.Names.{Text}
use Rattle.sgml_declared.specs.theory_reading.Pieces.{Kind}
use Rattle.sgml_declared.specs.theory_reading.Unread.{Outside}
use Rattle.sgml_declared.specs.theory_spelling.Decided.{decided}
use Rattle.sgml_declared.specs.theory_standing.Kept.{Kept, given}
use Rattle.sgml_declared.specs.theory_standing.Next.{left_to_read}
use Rattle.sgml_declared.specs.theory_standing.Held.{Held, state_of}
use Rattle.sgml_declared.specs.Files.{Choices}
use Rattle.sgml_prolog_steps.specs.declared.stepping.Stop.{Stop}
use Rattle.sgml_prolog_steps.specs.declared.stepping.Stop.TheVariants as stop
use Rattle.sgml_content_tags.specs.sgml_content_steps.Standing.{IsSpelledNext}
use Rattle.sgml_content_tags.specs.sgml_content_steps.Found.{IsTokenThere, IsEndThere, IsUndecidedThere}
use Rattle.sgml_content_tags.specs.sgml_content_steps.Content.{Content, IsContent}
use Rattle.sgml_content_tags.specs.sgml_content_steps.Steps.{LeavesAsItWas, TakesAt, TakesEnd, ToldAt, TellsAt, Tells}
use Rattle.sgml_content_tags.specs.Finish.{FinishesBy, IsLastStep, TellsDocumentEnd}
use Rattle.sgml_content_references.specs.declared.entity.Said.{Said}
use Rattle.sgml_content_references.specs.Referring.{IsDataNext}
use Rattle.sgml_content_references.specs.Entities.{TellsEntity}
use Rattle.sgml_instance.specs.Stepping.{StepsTo, Falls, IsStepOn, TellsOn, TellsEnd, on, turned}
use Rattle.sgml_content_tags.specs.sgml_content_steps.Plainly.{IsScannedIn}
use Rattle.sgml_instance.specs.declared.stepping.Turn.{Turn}
use Rattle.sgml_instance.specs.declared.stepping.Turn.TheVariants as turn
use Rattle.sgml_instance.proofs.Steps.{step-on}

-- nothing was told
none-at : (k : Kept) → ToldAt k []
none-at k = λ i e l. absurd (omega (arith, l))

-- nothing was taken
nothing-left : (x : Content) → LeavesAsItWas x x []
nothing-left x = record { holds = λ h a. a; kept = refl; silent = refl }

-- WHY NO TOKEN stands there
refused-on : (c : Choices) (st : ScanState) (texts : List (ℕ × Text)) (ended : Bool) (x : Content) (r : Reason) → IsContent x → IsScannedIn st x
    → IsSpelledNext x.kept st texts ended (λ outside s. Err r) → IsStepOn c texts ended x x [] (Err (stop.Refused r))
refused-on c st texts ended x r is held s = record {
  steps = λ outside h o a. inl (s outside h (held h a));
  falls = tt;
  left = nothing-left x;
  placed = none-at x.kept;
  content = is;
  doctype = refl;
  expand = refl;
}

undecided-on : (c : Choices) (st : ScanState) (texts : List (ℕ × Text)) (ended : Bool) (x : Content) → IsContent x → IsScannedIn st x
    → IsUndecidedThere x.kept st texts ended → IsStepOn c texts ended x x [] (Err stop.More)
undecided-on c st texts ended x is held u = record {
  steps = λ outside h o a. (
    u.goes_on,
    ap (λ (k : Kept). decided outside (state_of h) (given k texts)) (held h a).kept ∙ u.undecided outside h (held h a),
  );
  falls = tt;
  left = nothing-left x;
  placed = none-at x.kept;
  content = is;
  doctype = refl;
  expand = refl;
}

pub tells-refused : (c : Choices) (st : ScanState) (texts : List (ℕ × Text)) (ended : Bool) (x : Content) (told : List Event) (r : Reason) → IsContent x → IsScannedIn st x
    → IsSpelledNext x.kept st texts ended (λ outside s. Err r) → TellsOn c texts ended x x told told (Err (stop.Refused r))
tells-refused c st texts ended x told r is held s = ([], sym (append-nil told), refused-on c st texts ended x r is held s)

pub tells-undecided : (c : Choices) (st : ScanState) (texts : List (ℕ × Text)) (ended : Bool) (x : Content) (told : List Event) → IsContent x → IsScannedIn st x
    → IsUndecidedThere x.kept st texts ended → TellsOn c texts ended x x told told (Err stop.More)
tells-undecided c st texts ended x told is held u = ([], sym (append-nil told), undecided-on c st texts ended x is held u)

-- A TOKEN
pub tells-token : (c : Choices) (st : ScanState) (texts : List (ℕ × Text)) (ended : Bool) (t : Token) (old new : Content) (before after : List Event) (result : Result (Unit {0}) Stop)
    → IsScannedIn st old → IsTokenThere old.kept st texts ended t → TellsAt c st texts t old new before after result → TellsOn c texts ended old new before after (on result)
tells-token c st texts ended t old new before after result held there s = (s.0, s.1, step-on c st texts ended old new s.0 result held s.2 (s.3 ended there))

-- that tells nothing
pub silent-at : (c : Choices) (st : ScanState) (texts : List (ℕ × Text)) (t : Token) (old new : Content) (told : List Event) (result : Result (Unit {0}) Stop)
    → TakesAt c st texts t old new [] result → TellsAt c st texts t old new told told result
silent-at c st texts t old new told result s = ([], sym (append-nil told), none-at old.kept, s)

-- a reference to data, of which nothing was taken where it was told what it is
pub data-at : (c : Choices) (st : ScanState) (texts : List (ℕ × Text)) (t : Token) (number : ℕ) (is : Said) (kind : Kind) (old mid new : Content) (before between after : List Event) (result : Result (Unit {0}) Stop)
    → mid ≡ old → between ≡ before → IsDataNext st texts t old number is kind → TellsEntity is kind texts t number mid new between after result
    → TellsAt c st texts t old new before after result
data-at c st texts t number is kind old mid new before between after result e b n s =
    let at = subst (λ (z : Content). TellsEntity is kind texts t number z new between after result) e s in
    let so = subst (λ (z : List Event). TellsEntity is kind texts t number old new z after result) b at in
    (so.0, so.1, so.2, so.3 c st n)

-- a short reference, in the same way
pub string-at : (c : Choices) (st : ScanState) (texts : List (ℕ × Text)) (t : Token) (old mid new : Content) (before between after : List Event) (result : Result (Unit {0}) Stop)
    → mid ≡ old → between ≡ before → Tells texts t mid new between after result → TellsAt c st texts t old new before after result
string-at c st texts t old mid new before between after result e b s =
    let at = subst (λ (z : Content). Tells texts t z new between after result) e s in
    let so = subst (λ (z : List Event). Tells texts t old new z after result) b at in
    (so.0, so.1, so.2, so.3 c st)

-- as the step that it is, where the document hasn't ended
turned-on : (over : Bool) (r : Result (Unit {0}) Stop) → over ≡ false → on r ≡ turned over r
turned-on false (Ok done) e = refl
turned-on false (Err s) e = refl
turned-on true r e = absurd (never e)
  where
    never : true ≡ false → ⊥
    never e = cc

pub token-turned : (c : Choices) (st : ScanState) (texts : List (ℕ × Text)) (ended : Bool) (t : Token) (old new : Content) (before after : List Event) (over : Bool) (result : Result (Unit {0}) Stop)
    → over ≡ false → IsScannedIn st old → IsTokenThere old.kept st texts ended t → TellsAt c st texts t old new before after result → TellsOn c texts ended old new before after (turned over result)
token-turned c st texts ended t old new before after over result going held there s =
    subst (λ (z : Result Turn Stop). TellsOn c texts ended old new before after z) (turned-on over result going)
    (tells-token c st texts ended t old new before after result held there s)

-- THE END of the document
abbrev pub at_end : Result (Unit {0}) Stop → Result Turn Stop
at_end (Ok done) = Ok turn.Ended
at_end (Err e) = Err e

finish-to : (outside : Outside) (texts : List (ℕ × Text)) (ended : Bool) (x : Held) (old new : Content) (told : List Event) (result : Result (Unit {0}) Stop) → new.kept ≡ old.kept → x.kept ≡ old.kept
    → FinishesBy outside texts ended x old.kept.doctype told result → StepsTo outside texts ended x new told (at_end result)
finish-to outside texts ended x old new told (Ok done) e h f = record {
  move = f.move;
  next = f.next;
  said = ap (λ (z : Kept). all_said z.doctype told) e ∙ f.said;
  kept = e ∙ sym h;
}
finish-to outside texts ended x old new told (Err (stop.Refused r)) e h f = f
finish-to outside texts ended x old new told (Err (stop.Wanted number file)) e h f = absurd f
finish-to outside texts ended x old new told (Err stop.More) e h f = absurd f
finish-to outside texts ended x old new told (Err stop.Memory) e h f = tt

falls-at-end : (texts : List (ℕ × Text)) (old new : Content) (result : Result (Unit {0}) Stop) → new.kept ≡ old.kept → Falls texts old new (at_end result)
falls-at-end texts old new (Ok done) e =
    let l : left_to_read new.kept texts ≡ left_to_read old.kept texts = ap (λ (k : Kept). left_to_read k texts) e in
    omega (arith, l)
falls-at-end texts old new (Err s) e = tt

left-at-end : (st : ScanState) (texts : List (ℕ × Text)) (ended : Bool) (old new : Content) (told : List Event) (result : Result (Unit {0}) Stop)
    → IsLastStep st texts ended old new told result → OnErr (at_end result) (LeavesAsItWas old new told)
left-at-end st texts ended old new told (Ok done) s = tt
left-at-end st texts ended old new told (Err e) s = s.left

last-is-on : (c : Choices) (st : ScanState) (texts : List (ℕ × Text)) (ended : Bool) (old new : Content) (told : List Event) (result : Result (Unit {0}) Stop)
    → IsScannedIn st old → ToldAt old.kept told → IsLastStep st texts ended old new told result → IsStepOn c texts ended old new told (at_end result)
last-is-on c st texts ended old new told result held at s = record {
  steps = λ outside x o h. finish-to outside texts ended x old new told result s.kept h.kept (s.finishes outside x h (held x h));
  falls = falls-at-end texts old new result s.kept;
  left = left-at-end st texts ended old new told result s;
  placed = at;
  content = s.content;
  doctype = ap (λ (k : Kept). k.doctype) s.kept;
  expand = ap (λ (k : Kept). k.stack.expand) s.kept;
}

pub tells-document-end : (texts : List (ℕ × Text)) (old new : Content) (before after : List Event) (result : Result (Unit {0}) Stop)
    → TellsDocumentEnd texts old new before after result → TellsEnd texts old new before after (at_end result)
tells-document-end texts old new before after result s =
    (s.0, s.1, λ c st ended held there. last-is-on c st texts ended old new s.0 result held s.2 (s.3 st ended there))

-- and of an entity's text
pub tells-text-end : (texts : List (ℕ × Text)) (old new : Content) (told : List Event) (result : Result (Unit {0}) Stop)
    → TakesEnd texts old new [] result → TellsEnd texts old new told told (on result)
tells-text-end texts old new told result s =
    ([], sym (append-nil told), λ c st ended held there. step-on c st texts ended old new [] result held (none-at old.kept) (s c st ended there))

pub text-end-turned : (texts : List (ℕ × Text)) (old new : Content) (told : List Event) (over : Bool) (result : Result (Unit {0}) Stop) → over ≡ false
    → TakesEnd texts old new [] result → TellsEnd texts old new told told (turned over result)
text-end-turned texts old new told over result going s =
    subst (λ (z : Result Turn Stop). TellsEnd texts old new told told z) (turned-on over result going) (tells-text-end texts old new told result s)

-- as the step that it is
pub tells-end : (c : Choices) (st : ScanState) (texts : List (ℕ × Text)) (ended : Bool) (old new : Content) (before after : List Event) (result : Result Turn Stop)
    → IsScannedIn st old → IsEndThere old.kept st texts ended → TellsEnd texts old new before after result → TellsOn c texts ended old new before after result
tells-end c st texts ended old new before after result held there s = (s.0, s.1, s.2 c st ended held there)
