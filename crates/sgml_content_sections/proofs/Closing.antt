-- The ends of texts and of marked sections, and what has no place.
use Rattle.std.proofs.Common.{◌≡◌, ℕ, ◌+◌, ◌-◌, ◌*◌, ◌<◌, ◌==◌, Bool, true, false, List, [], ◌∷◌, None, Some, Result, Ok, Err, length, map, refl, sym, ◌∙◌, ap, subst, arith}
use Rattle.std.specs.Prelude.{reverse}
use Rattle.std.proofs.lemmas.List.{reverse-reverse}
use Rattle.sgml_text.specs.declared.place.Place.{Place}
use Rattle.sgml_text.specs.declared.reason.Reason.{Reason}
use Rattle.sgml_text.specs.declared.reason.Reason.TheVariants as reason
use Rattle.sgml_entity.specs.declared.kinds.Entity.{Entity}
use Rattle.sgml_entity.specs.Stack.{Stack, moved, lower}
use Rattle.sgml_theory_reading.specs.records.Items.{Markup}
use Rattle.sgml_marked.specs.Opened.{is_open_at, without_last}
use Rattle.sgml_scan.specs.markup.declared.kinds.TokenKind.TheVariants as kind
use Rattle.sgml_scan.specs.declared.state.ScanState.{ScanState}
use Rattle.sgml_scan.specs.declared.state.Token.{Token}
use Rattle.sgml_decl_lexemes.specs.Readings.{entity_of}
use Rattle.sgml_theory_reading.specs.Names.{Text}
use Rattle.sgml_theory_reading.specs.Pieces.{Piece, EntityEnd, SectionEnd}
use Rattle.sgml_theory_reading.specs.Facets.{OpensText, EndsText, turn, border, declares, subset_named, stage_after, effect, token, is_finish, is_omitted, items_of, map_set}
use Rattle.sgml_theory_reading.specs.Events.{shown}
use Rattle.sgml_theory_reading.specs.Sections.{sections_after}
use Rattle.sgml_theory_reading.specs.Characters.{kind_noted}
use Rattle.sgml_theory_reading.specs.Unread.{Outside}
use Rattle.sgml_declared.specs.theory_spelling.Sized.{sized}
use Rattle.sgml_declared.specs.theory_standing.Kept.{Kept, rest_of, given, kept_after}
use Rattle.sgml_declared.specs.theory_standing.Next.{IsThere, after, unread_length, left_to_read}
use Rattle.sgml_declared.specs.theory_standing.Held.{Held, IsSpelledIn}
use Rattle.sgml_inside.specs.declared.inside.Inner.{Inner}
use Rattle.sgml_inside.specs.Inside.{noted_in}
use Rattle.sgml_declared.specs.Files.{Choices}
use Rattle.sgml_prolog_steps.specs.Standing.{LiesUnder}
use Rattle.sgml_prolog_steps.proofs.Shared.{add-none}
use Rattle.sgml_prolog_steps.proofs.Nesting.{in-section, last-ended}
use Rattle.sgml_prolog_steps.specs.declared.stepping.Stop.TheVariants as stop
use Rattle.sgml_content_steps.specs.Standing.{IsInInstance, IsHeld}
use Rattle.sgml_content_steps.specs.Found.{IsTokenThere, IsEndThere}
use Rattle.sgml_content_steps.specs.Laws.{is_misplaced, section_ended, text_ended}
use Rattle.sgml_content_steps.proofs.Lasting.{instance-stays}
use Rattle.sgml_content_steps.proofs.Pieces.{ends-are-pieces, section-ends-are-pieces, others-are-refused}
use Rattle.sgml_content_steps.specs.Content.{Content, IsContent}
use Rattle.sgml_content_steps.specs.Steps.{Takes, TakesEnd, IsStep}
use Rattle.sgml_content_sections.specs.Changes as changes
use Rattle.sgml_content_sections.specs.Changes.{kept_with, changed, further, marked, section_over}
use Rattle.sgml_content_sections.proofs.Quiet.{IsQuiet, IsInsideAfter, alone-step, quiet-next, refused-step, memory-step}
use Rattle.sgml_content_sections.proofs.Steady.{IsSteady, IsMark, unchanged-inside, mark-inside, marks-in-force, no-outside, plain-stack, steady-step}

-- WHAT HAS NO PLACE
pub misplaced-step : (texts : List (ℕ × Text)) (t : Token) (old : Content) → IsContent old → is_misplaced t.kind ≡ true → Takes texts t old old [] (Err (stop.Refused reason.DeclarationSyntax))
misplaced-step texts t old is m c st ended there =
    refused-step c st texts ended old reason.DeclarationSyntax is
    (λ outside x o h held. others-are-refused t.kind m old.kept st texts ended t there refl outside x held)

pub memory-takes : (texts : List (ℕ × Text)) (t : Token) (old : Content) → IsContent old → Takes texts t old old [] (Err stop.Memory)
memory-takes texts t old is c st ended there = memory-step c st texts ended old is

-- WHETHER A SECTION IS OPEN in the text at the top
pub open-at : (n : ℕ) (b : Bool) (shown now : Content) → shown ≡ now → n ≡ length shown.kept.stack.places → b ≡ is_open_at n shown.kept.sections
    → is_open_at (length now.kept.stack.places) now.kept.sections ≡ b
open-at n b shown now e size is =
    sym (λ i. is_open_at (length (e i).kept.stack.places) (e i).kept.sections) ∙ (ap (λ m. is_open_at m shown.kept.sections) (sym size) ∙ sym is)

-- THE END OF A SECTION
section-quiet : IsQuiet SectionEnd
unfolding token effect is_finish is_omitted kind_noted shown items_of
section-quiet = record { is_alone = record { stands = refl; of_content = refl; written = refl; noted = λ s. refl }; tells = λ y n spent. refl; names_none = refl }

section-steady : IsSteady SectionEnd
unfolding turn declares subset_named stage_after
section-steady = record { turn_is = refl; declares_none = λ d. refl; names_none = refl; stays = refl }

section-mark : IsMark SectionEnd
unfolding items_of map_set
section-mark = record { items = refl; sets_none = refl }

section-now : (k : Kept) → IsInInstance k → is_open_at (length k.stack.places) k.sections ≡ true
    → reverse (sections_after (border SectionEnd) (length k.stack.places) (reverse k.sections)) ≡ without_last (length k.stack.places) k.sections
unfolding border
section-now k h o =
    let m = length k.stack.places in
    sym (last-ended m k.sections (in-section m k.sections h.nested ∙ o))

section-spelled : (old : Content) (st : ScanState) (texts : List (ℕ × Text)) (ended : Bool) (t : Token) (b : Bool) (outside : Outside) (x : Held) → IsContent old → IsTokenThere old.kept st texts ended t
    → t.kind ≡ kind.SectionEnd → is_open_at (length old.kept.stack.places) old.kept.sections ≡ b → IsHeld old.kept st x → IsSpelledIn outside x texts ended (section_ended t.length b)
section-spelled old st texts ended t b outside x is there k o held =
    subst (λ z. IsSpelledIn outside x texts ended (section_ended t.length z)) o (section-ends-are-pieces old.kept st texts ended t is.instance there k outside x held)

pub section-none-step : (texts : List (ℕ × Text)) (t : Token) (old : Content) → IsContent old → t.kind ≡ kind.SectionEnd → is_open_at (length old.kept.stack.places) old.kept.sections ≡ false
    → Takes texts t old old [] (Err (stop.Refused reason.SectionNone))
section-none-step texts t old is k o c st ended there =
    refused-step c st texts ended old reason.SectionNone is (λ outside x i h held. section-spelled old st texts ended t false outside x is there k o held)

pub section-end-step : (texts : List (ℕ × Text)) (t : Token) (level : ℕ) (old new : Content) → IsContent old → t.kind ≡ kind.SectionEnd → level ≡ length old.kept.stack.places
    → is_open_at level old.kept.sections ≡ true → new ≡ section_over level t.length old → Takes texts t old new [] (Ok tt)
section-end-step texts t level old new is k count o e c st ended there =
    let m = length old.kept.stack.places in
    let here : is_open_at m old.kept.sections ≡ true = ap (λ j. is_open_at j old.kept.sections) (sym count) ∙ o in
    let at = plain-stack t.length old.kept.stack in
    subst (λ (z : Content). IsStep c st texts ended old z [] (Ok tt)) (sym (e ∙ ap (λ j. section_over j t.length old) count))
    (steady-step c st texts ended t old SectionEnd (further t.length old.kept.stack) (without_last m old.kept.sections) (noted_in Markup old.inside.elements) 0 is there
    section-quiet section-steady (section-now old.kept is.instance here) (mark-inside SectionEnd old.inside.elements section-mark) (marks-in-force old is) at
    (λ outside x i h held. (sized t.length SectionEnd, refl, refl, at, section-spelled old st texts ended t true outside x is there k here held)))

-- THE END OF A TEXT
text-quiet : IsQuiet EntityEnd
unfolding token effect is_finish is_omitted kind_noted shown items_of
text-quiet = record { is_alone = record { stands = refl; of_content = refl; written = refl; noted = λ s. refl }; tells = λ y n spent. refl; names_none = refl }

text-inside : (xs : List Inner) → IsInsideAfter EntityEnd xs xs
unfolding items_of map_set
text-inside xs = unchanged-inside EntityEnd xs refl refl

abbrev lowered : Stack → Stack
lowered s = record s { places = lower s.places }

turned-lower : (ps : List Place) → lower (moved 0 ps) ≡ lower ps
turned-lower [] = refl
turned-lower (p ∷ ps) = refl

text-after : (outside : Outside) (k : Kept) → IsInInstance k → after outside (sized 0 EntityEnd) k ≡ kept_with (lowered k.stack) k.sections k
unfolding kept_after turn border declares subset_named stage_after
text-after outside k h = λ i. record {
  doctype = k.doctype;
  stack = record { levels = sym h.levels i; expand = k.stack.expand; spent = add-none k.stack.spent i; places = turned-lower k.stack.places i };
  sections = reverse-reverse k.sections i;
  stage = (ap (stage_after EntityEnd) h.stage ∙ sym h.stage) i;
  subset = k.subset;
}

text-there : (outside : Outside) (k : Kept) (texts : List (ℕ × Text)) → IsThere outside k texts (sized 0 EntityEnd)
unfolding turn subset_named
text-there outside k texts = record {
  within = omega arith;
  opened = λ n e. absurd (no-turn n e);
  subset = λ named text e g. absurd (no-subset named e);
}
  where
    no-turn : (m : ℕ) → EndsText ≡ OpensText m → ⊥
    no-turn m e = cc

    no-subset : {A : Type 0} (a : A) → None ≡ Some a → ⊥
    no-subset a e = cc

lower-falls : (es : List Entity) (texts : List (ℕ × Text)) (n : ℕ) (ps : List Place) → LiesUnder ps
    → 2 * (unread_length (map (rest_of es texts) (lower ps)) + n) + length (lower ps) < 2 * (unread_length (map (rest_of es texts) ps) + n) + length ps
lower-falls es texts n [] l = absurd l
lower-falls es texts n (p ∷ ps) l = omega arith

text-falls : (k : Kept) (texts : List (ℕ × Text)) → IsInInstance k → left_to_read (kept_with (lowered k.stack) k.sections k) texts < left_to_read k texts
unfolding left_to_read given
text-falls k texts h = lower-falls k.doctype.entities texts (k.stack.expand - k.stack.spent) k.stack.places h.document

text-instance : (c : Choices) (k : Kept) → IsInInstance k → (entity_of k.stack.places == 0) ≡ false → is_open_at (length k.stack.places) k.sections ≡ false
    → IsInInstance (kept_with (lowered k.stack) k.sections k)
unfolding turn
text-instance c k h e o =
    subst IsInInstance (text-after (no-outside c k) k h)
    (instance-stays (no-outside c k) k (sized 0 EntityEnd) h (record { of_content = refl; opened = λ n w. absurd (no-turn n w); ended = λ w. (e, o) }))
  where
    no-turn : (m : ℕ) → EndsText ≡ OpensText m → ⊥
    no-turn m e = cc

end-spelled : (old : Content) (st : ScanState) (texts : List (ℕ × Text)) (ended is_open : Bool) (outside : Outside) (x : Held) → IsContent old → IsEndThere old.kept st texts ended
    → (entity_of old.kept.stack.places == 0) ≡ false → is_open_at (length old.kept.stack.places) old.kept.sections ≡ is_open → IsHeld old.kept st x
    → IsSpelledIn outside x texts ended (text_ended false is_open)
end-spelled old st texts ended is_open outside x is there e o held =
    subst (λ (a : Result Piece Reason). IsSpelledIn outside x texts ended a) (λ i. text_ended (e i) (o i)) (ends-are-pieces old.kept st texts ended is.instance there outside x held)

pub memory-ends : (texts : List (ℕ × Text)) (old : Content) → IsContent old → TakesEnd texts old old [] (Err stop.Memory)
memory-ends texts old is c st ended there = memory-step c st texts ended old is

pub section-open-step : (texts : List (ℕ × Text)) (old : Content) → IsContent old → (entity_of old.kept.stack.places == 0) ≡ false
    → is_open_at (length old.kept.stack.places) old.kept.sections ≡ true → TakesEnd texts old old [] (Err (stop.Refused reason.SectionOpen))
section-open-step texts old is e o c st ended there =
    refused-step c st texts ended old reason.SectionOpen is (λ outside x i h held. end-spelled old st texts ended true outside x is there e o held)

pub text-end-step : (texts : List (ℕ × Text)) (old new : Content) → IsContent old → (entity_of old.kept.stack.places == 0) ≡ false
    → is_open_at (length old.kept.stack.places) old.kept.sections ≡ false → new ≡ changes.text_ended old → TakesEnd texts old new [] (Ok tt)
text-end-step texts old new is e o same c st ended there =
    let s = lowered old.kept.stack in
    subst (λ (z : Content). IsStep c st texts ended old z [] (Ok tt)) (sym same)
    (alone-step c st texts ended old s old.kept.sections old.inside.elements [] is
    (λ outside x i h held.
    quiet-next outside texts ended old x s old.kept.sections old.inside.elements (sized 0 EntityEnd) text-quiet
    (end-spelled old st texts ended false outside x is there e o held) (text-there outside old.kept texts) (text-after outside old.kept is.instance) (text-inside old.inside.elements))
    (text-falls old.kept texts is.instance)
    (text-instance c old.kept is.instance e o)
    is.maps refl)
