-- What is answered of a reference to a general entity.
use Rattle.std.proofs.Common.{◌≡◌, ℕ, ◌<◌, Bool, true, false, List, [], ◌∷◌, ◌++◌, Option, None, Some, Result, Ok, Err, length, All, zero, suc, refl, sym, ◌∙◌, ap, subst, arith, append-nil}
use Rattle.std.specs.Prelude.{reverse}
use Rattle.std.proofs.lemmas.List.{reverse-reverse}
use Rattle.sgml_text.specs.declared.place.Place.{Place}
use Rattle.sgml_text.specs.declared.reason.Reason.{Reason}
use Rattle.sgml_text.specs.declared.reason.Reason.TheVariants as reason
use Rattle.sgml_theory_reading.specs.records.Items.{Markup}
use Rattle.sgml_scan.specs.markup.declared.kinds.TokenKind.TheVariants as kind
use Rattle.sgml_scan.specs.declared.state.ScanState.{ScanState}
use Rattle.sgml_scan.specs.declared.state.Token.{Token}
use Rattle.sgml_events.specs.declared.event.Event.{Event}
use Rattle.sgml_events.specs.declared.event.Event.TheVariants as event
use Rattle.sgml_theory_reading.specs.Names.{Text}
use Rattle.sgml_theory_reading.specs.Pieces.{Kind, Pi, Ref}
use Rattle.sgml_theory_reading.specs.Facets.{turn, border, declares, subset_named, stage_after, effect, token, is_finish, is_omitted, items_of, map_set}
use Rattle.sgml_theory_reading.specs.Sections.{sections_after}
use Rattle.sgml_theory_reading.specs.Events.{Instruction, shown}
use Rattle.sgml_theory_reading.specs.Characters.{kind_noted}
use Rattle.sgml_theory_reading.specs.Reads.{top_place}
use Rattle.sgml_theory_reading.specs.Unread.{Outside, Sources}
use Rattle.sgml_declared.specs.theory_spelling.Stacked.{Stacked}
use Rattle.sgml_declared.specs.theory_spelling.Sized.{sized, sized_spent, sized_ok}
use Rattle.sgml_declared.specs.theory_spelling.References.{unless, unless_rcdata}
use Rattle.sgml_declared.specs.theory_spelling.Content.{is_rcdata}
use Rattle.sgml_declared.specs.theory_standing.Kept.{Kept, sources_of}
use Rattle.sgml_declared.specs.theory_standing.Prologs.{alone}
use Rattle.sgml_declared.specs.theory_standing.Held.{Held, IsSpelledIn}
use Rattle.sgml_declared.specs.theory_standing.Moves.{told_by_moves}
use Rattle.sgml_inside.specs.declared.inside.Inner.{Inner}
use Rattle.sgml_inside.specs.Inside.{noted_in}
use Rattle.sgml_declared.specs.Files.{Choices}
use Rattle.sgml_declared.specs.Taking.{stacked_on}
use Rattle.sgml_prolog_steps.specs.declared.stepping.Stop.{Stop}
use Rattle.sgml_prolog_steps.specs.declared.stepping.Stop.TheVariants as stop
use Rattle.sgml_content_steps.specs.Found.{IsTokenThere}
use Rattle.sgml_content_steps.specs.Content.{Content, IsContent, marked_up}
use Rattle.sgml_content_steps.specs.Steps.{IsAt, IsStep, TakesAt, TellsAt}
use Rattle.sgml_content_sections.specs.Changes.{further}
use Rattle.sgml_content_sections.proofs.Quiet.{IsAlone, IsQuiet, IsInsideAfter, refused-step, memory-step, now-kept}
use Rattle.sgml_content_sections.proofs.Steady.{IsSteady, unchanged-inside, IsMark, mark-inside, marks-in-force, plain-stack, told-step}
use Rattle.sgml_content_references.specs.declared.entity.Said.{Said}
use Rattle.sgml_content_references.specs.declared.entity.Said.TheVariants as said
use Rattle.sgml_content_references.specs.declared.reference.Referred.{Referred}
use Rattle.sgml_content_references.specs.declared.reference.Referred.TheVariants as referred
use Rattle.sgml_content_references.specs.Referring.{referred_in, said_of_number, kind_said, IsTextOpened, IsTextShut, IsDataNext, TellsReference}
use Rattle.sgml_content_references.proofs.Spelling.{unnamed-spelled, said-spelled}
use Rattle.sgml_content_references.proofs.Entering.{SpellsText, IsOpener, turns-to, opened-step, shut-step}

-- WHERE NOTHING IS TOLD
pub at-none : (place : Place) → All (IsAt place) []
at-none place k d l = absurd (omega (arith, l))

pub at-one : (place : Place) (e : Event) → IsAt place e → All (IsAt place) (e ∷ [])
at-one place e at zero d l = at
at-one place e at (suc k) d l = absurd (omega (arith, l))

pub silent-tells : (c : Choices) (st : ScanState) (texts : List (ℕ × Text)) (t : Token) (old new : Content) (before after : List Event) (r : Result (Unit {0}) Stop) → after ≡ before
    → TakesAt c st texts t old new [] r → TellsAt c st texts t old new before after r
silent-tells c st texts t old new before after r e takes = ([], e ∙ sym (append-nil before), at-none (top_place old.kept.stack.places), takes)

-- WHY IT ISN'T TAKEN
pub unnamed-step : (c : Choices) (st : ScanState) (texts : List (ℕ × Text)) (t : Token) (old : Content) → IsContent old → t.kind ≡ kind.EntityRef → referred_in old.kept texts t.length ≡ None
    → TakesAt c st texts t old old [] (Err (stop.Refused reason.Undeclared))
unnamed-step c st texts t old is k named ended there =
    refused-step c st texts ended old reason.Undeclared is (λ outside x o h held. unnamed-spelled st texts ended t old.kept outside x there k held named)

pub memory-at : (c : Choices) (st : ScanState) (texts : List (ℕ × Text)) (t : Token) (old new : Content) → IsContent old → new ≡ old → TakesAt c st texts t old new [] (Err stop.Memory)
memory-at c st texts t old new is e ended there = subst (λ (z : Content). IsStep c st texts ended old z [] (Err stop.Memory)) (sym e) (memory-step c st texts ended old is)

-- for this reason, whatever the outside is
abbrev pub IsNone : Bool → ℕ → Said → Reason → Type 0
IsNone rcdata number s r = (outside : Outside) (k : Sources) (t : Stacked) → kind_said outside k t rcdata number s ≡ Err r

pub none-step : (c : Choices) (st : ScanState) (texts : List (ℕ × Text)) (t : Token) (old : Content) (number : ℕ) (s : Said) (r : Reason) → IsContent old → t.kind ≡ kind.EntityRef
    → referred_in old.kept texts t.length ≡ Some number → s ≡ said_of_number old.kept.doctype number → IsNone (is_rcdata st.mode) number s r
    → TakesAt c st texts t old old [] (Err (stop.Refused r))
none-step c st texts t old number s r is k named what none ended there =
    refused-step c st texts ended old r is
    (λ outside x o h held.
    subst (λ (a : Result Kind Reason). IsSpelledIn outside x texts ended (sized_ok t.length a)) (none outside (sources_of old.kept) (stacked_on old.kept.stack))
    (said-spelled st texts ended t old.kept outside x number s there k held named what))

pub in-rcdata : (rcdata : Bool) (kind : Kind) → rcdata ≡ true → unless_rcdata rcdata kind ≡ Err reason.EntityKind
in-rcdata true kind e = refl
in-rcdata false kind e = cc e

pub not-rcdata : (rcdata : Bool) (kind : Kind) → rcdata ≡ false → unless_rcdata rcdata kind ≡ Ok kind
not-rcdata true kind e = cc e
not-rcdata false kind e = refl

-- DATA
pub data-next : (st : ScanState) (texts : List (ℕ × Text)) (t : Token) (old : Content) (number : ℕ) (s : Said) (x : Kind) → t.kind ≡ kind.EntityRef
    → referred_in old.kept texts t.length ≡ Some number → s ≡ said_of_number old.kept.doctype number
    → ((outside : Outside) (k : Sources) (on : Stacked) → kind_said outside k on (is_rcdata st.mode) number s ≡ Ok x) → IsDataNext st texts t old number s x
data-next st texts t old number s x k named what kind_is = record {
  said = sym what;
  next = λ ended there outside y held.
      subst (λ (a : Result Kind Reason). IsSpelledIn outside y texts ended (sized_ok t.length a)) (kind_is outside (sources_of old.kept) (stacked_on old.kept.stack))
      (said-spelled st texts ended t old.kept outside y number s there k held named what);
}

-- AN INSTRUCTION
pi-alone : (text : Text) (number : ℕ) → IsAlone (Pi text (Some number))
unfolding token effect is_finish is_omitted kind_noted
pi-alone text number = record { stands = refl; of_content = refl; written = refl; noted = λ s. refl }

pi-steady : (text : Text) (number : ℕ) → IsSteady (Pi text (Some number))
unfolding turn declares subset_named stage_after
pi-steady text number = record { turn_is = refl; declares_none = λ d. refl; names_none = refl; stays = refl }

pi-mark : (text : Text) (number : ℕ) → IsMark (Pi text (Some number))
unfolding items_of map_set
pi-mark text number = record { items = refl; sets_none = refl }

pi-told : (y : Held) (n spent number : ℕ) (text : Text) → told_by_moves y (alone (sized_spent n spent (Pi text (Some number))) ∷ []) ≡ Instruction text (Some number) ∷ []
unfolding shown
pi-told y n spent number text = refl

pi-sections : (old : Content) (text : Text) (number : ℕ)
    → reverse (sections_after (border (Pi text (Some number))) (length old.kept.stack.places) (reverse old.kept.sections)) ≡ old.kept.sections
unfolding border
pi-sections old text number = reverse-reverse old.kept.sections

pub instructs-step : (c : Choices) (st : ScanState) (texts : List (ℕ × Text)) (t : Token) (old new : Content) (number : ℕ) (text : Text) (place : Place) → IsContent old → t.kind ≡ kind.EntityRef
    → referred_in old.kept texts t.length ≡ Some number → said.Instructs text ≡ said_of_number old.kept.doctype number → is_rcdata st.mode ≡ false → new ≡ marked_up t.length old
    → TakesAt c st texts t old new (event.Pi text (Some number) place ∷ []) (Ok tt)
instructs-step c st texts t old new number text place is k named what plain e ended there =
    let y = Pi text (Some number) in
    let at = plain-stack t.length old.kept.stack in
    subst (λ (z : Content). IsStep c st texts ended old z (event.Pi text (Some number) place ∷ []) (Ok tt)) (sym e)
    (told-step c st texts ended t old y (further t.length old.kept.stack) old.kept.sections (noted_in Markup old.inside.elements) (event.Pi text (Some number) place ∷ []) 0 is there
    (pi-alone text number) (pi-steady text number) (pi-sections old text number) (mark-inside y old.inside.elements (pi-mark text number)) (marks-in-force old is) at
    (λ x n spent. sym (pi-told x n spent number text)) refl
    (λ outside x o h held. (
      sized t.length y,
      refl,
      refl,
      at,
      subst (λ (a : Result Kind Reason). IsSpelledIn outside x texts ended (sized_ok t.length a)) (not-rcdata (is_rcdata st.mode) y plain)
          (said-spelled st texts ended t old.kept outside x number (said.Instructs text) there k held named what),
    )))

pub instructs-tells : (c : Choices) (st : ScanState) (texts : List (ℕ × Text)) (t : Token) (old new : Content) (number : ℕ) (text : Text) (before after : List Event) → IsContent old → t.kind ≡ kind.EntityRef
    → referred_in old.kept texts t.length ≡ Some number → said.Instructs text ≡ said_of_number old.kept.doctype number → is_rcdata st.mode ≡ false → new ≡ marked_up t.length old
    → after ≡ before ++ event.Pi text (Some number) (top_place old.kept.stack.places) ∷ [] → TellsAt c st texts t old new before after (Ok tt)
instructs-tells c st texts t old new number text before after is k named what plain e told =
    let place = top_place old.kept.stack.places in (
      event.Pi text (Some number) place ∷ [],
      told,
      at-one place (event.Pi text (Some number) place) refl,
      instructs-step c st texts t old new number text place is k named what plain e,
    )

-- A TEXT
ref-quiet : (number : ℕ) → IsQuiet (Ref number)
unfolding token effect is_finish is_omitted kind_noted shown items_of
ref-quiet number = record { is_alone = record { stands = refl; of_content = refl; written = refl; noted = λ s. refl }; tells = λ y n spent. refl; names_none = refl }

ref-opens : (number : ℕ) → 1 < number → IsOpener (Ref number) number
unfolding turn border declares subset_named stage_after
ref-opens number l = record {
  quiet = ref-quiet number;
  turn_is = turns-to number l;
  border_is = refl;
  declares_none = λ d. refl;
  names_none = refl;
  stays = refl;
}

ref-inside : (number : ℕ) (xs : List Inner) → IsInsideAfter (Ref number) xs xs
unfolding items_of map_set
ref-inside number xs = unchanged-inside (Ref number) xs refl refl

ref-spelled : (st : ScanState) (texts : List (ℕ × Text)) (ended : Bool) (t : Token) (old : Content) (number : ℕ) → t.kind ≡ kind.EntityRef
    → referred_in old.kept texts t.length ≡ Some number → said.Reads ≡ said_of_number old.kept.doctype number → IsTokenThere old.kept st texts ended t → SpellsText st texts ended t old (Ref number) number
ref-spelled st texts ended t old number is named reads there outside x o h held w =
    subst (λ (r : Option Reason). IsSpelledIn outside x texts ended (sized_ok t.length (unless r (Ref number)))) w
    (said-spelled st texts ended t old.kept outside x number said.Reads there is held named reads)

-- of what was shown before it was opened, or wasn't
pub opened-tells : (c : Choices) (st : ScanState) (texts : List (ℕ × Text)) (t : Token) (shown old : Content) (k : Kept) (number : ℕ) (before : List Event) (r : Result Referred Stop) → shown ≡ old → r ≡ Ok referred.Taken
    → IsContent old → t.kind ≡ kind.EntityRef → referred_in old.kept texts t.length ≡ Some number → said.Reads ≡ said_of_number old.kept.doctype number
    → IsTextOpened c texts t.length number shown.kept k → TellsReference c st texts t old (record shown { kept = k }) before before r
opened-tells c st texts t shown old k number before r e same is entity named reads opened =
    subst (λ z. TellsReference c st texts t old (record shown { kept = k }) before before z) (sym same)
    (silent-tells c st texts t old (record shown { kept = k }) before before (Ok tt) refl
    (opened-step c st texts t old (record shown { kept = k }) k (Ref number) number old.inside.elements is reads (λ ended there. ref-spelled st texts ended t old number entity named reads there)
    (ref-opens number) (ref-inside number old.inside.elements) is.maps (subst (λ (z : Content). IsTextOpened c texts t.length number z.kept k) e opened)
    (ap (λ (z : Content). record z { kept = k }) e)))

pub shut-tells : (c : Choices) (st : ScanState) (texts : List (ℕ × Text)) (t : Token) (shown old : Content) (k : Kept) (number : ℕ) (before : List Event) (s : Stop) (r : Result Referred Stop) → shown ≡ old → r ≡ Err s
    → IsContent old → t.kind ≡ kind.EntityRef → referred_in old.kept texts t.length ≡ Some number → said.Reads ≡ said_of_number old.kept.doctype number
    → IsTextShut c texts t.length number shown.kept s → k ≡ shown.kept → TellsReference c st texts t old (record shown { kept = k }) before before r
shut-tells c st texts t shown old k number before s r e same is entity named reads shut left =
    subst (λ z. TellsReference c st texts t old (record shown { kept = k }) before before z) (sym same)
    (silent-tells c st texts t old (record shown { kept = k }) before before (Err s) refl
    (shut-step c st texts t old (record shown { kept = k }) (Ref number) number s is reads (λ ended there. ref-spelled st texts ended t old number entity named reads there) (subst (λ (z : Content). IsTextShut c texts t.length number z.kept s) e shut)
    (now-kept k shown old e left)))
