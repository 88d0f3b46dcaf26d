-- The text of an entity is opened after a reference to it, or isn't.
use Rattle.std.proofs.Common.{◌≡◌, ℕ, ◌+◌, ◌-◌, ◌<◌, ◌≤◌, ◌==◌, ◌||◌, nat_lt, Bool, true, false, List, [], ◌∷◌, Option, None, Some, Ok, Err, length, map, refl, sym, ◌∙◌, ap, subst, if◌then◌else◌, eqb-true, arith, rules, tests, zero-add, inl}
use Rattle.std.specs.Prelude.{option_map, is_some, reverse}
use Rattle.std.specs.List.{list_any, slice_get}
use Rattle.std.specs.Option.{option_or}
use Rattle.std.proofs.lemmas.List.{reverse-reverse}
use Rattle.sgml_text.specs.declared.place.Place.{Place}
use Rattle.sgml_text.specs.declared.reason.Reason.{Reason}
use Rattle.sgml_entity.specs.declared.kinds.Entity.{Entity}
use Rattle.sgml_entity.specs.Entities.{first_entity}
use Rattle.sgml_entity.specs.Stack.{Stack, opened, is_on, moved, refusal}
use Rattle.sgml_scan.specs.declared.state.ScanState.{ScanState}
use Rattle.sgml_scan.specs.declared.state.Token.{Token}
use Rattle.sgml_declared.specs.decl_lexemes.Sources.{text_at}
use Rattle.sgml_dtd.specs.Doctypes.{Doctype}
use Rattle.sgml_theory_reading.specs.Names.{Text}
use Rattle.sgml_theory_reading.specs.Types.{entity}
use Rattle.sgml_theory_reading.specs.Pieces.{Kind}
use Rattle.sgml_theory_reading.specs.Facets.{AfterSubset, OpensText, EndsText, StaysInText, turn, turn_to, NoBorder, border, declares, subset_named, stage_after}
use Rattle.sgml_theory_reading.specs.Sections.{sections_after}
use Rattle.sgml_theory_reading.specs.Unread as reading
use Rattle.sgml_theory_reading.specs.Unread.{Outside, turned, opened_length}
use Rattle.sgml_declared.specs.theory_spelling.Sized.{sized, sized_ok}
use Rattle.sgml_declared.specs.theory_spelling.Opened.{StackShows}
use Rattle.sgml_declared.specs.theory_spelling.References.{unless}
use Rattle.sgml_declared.specs.theory_standing.Kept.{Kept, given, kept_after, sources_of}
use Rattle.sgml_declared.specs.theory_standing.Next.{IsThere, after, text_after, sources_after, left_to_read}
use Rattle.sgml_declared.proofs.theory_standing.Entities.{entity-below}
use Rattle.sgml_declared.specs.theory_standing.Held.{Held, IsSpelledIn}
use Rattle.sgml_inside.specs.declared.inside.Inner.{Inner}
use Rattle.sgml_inside.specs.Laws.{AreInForce}
use Rattle.sgml_declared.specs.Files.{Choices}
use Rattle.sgml_declared.specs.Opening.{unopened_of, IsSupplied, Opens}
use Rattle.sgml_declared.specs.declared.opening.OpenError.{OpenError}
use Rattle.sgml_declared.specs.declared.opening.OpenError.TheVariants as opening
use Rattle.sgml_declared.proofs.Opened.{wanted-are-missing}
use Rattle.sgml_declared.specs.Taking.{stacked_on}
use Rattle.sgml_prolog_steps.specs.Found.{rest_in, moved_on}
use Rattle.sgml_prolog_steps.specs.declared.stepping.Stop.{Stop}
use Rattle.sgml_prolog_steps.proofs.Referring.{entities-moved, wanting-step, opened-numbers, few-by}
use Rattle.sgml_content_steps.specs.Standing.{IsInInstance, IsHeld}
use Rattle.sgml_content_steps.specs.Found.{IsTokenThere}
use Rattle.sgml_content_steps.proofs.Lasting.{instance-stays}
use Rattle.sgml_content_steps.specs.Content.{Content, Holds, IsContent, context_of}
use Rattle.sgml_content_steps.specs.Steps.{IsOutside, IsStep, TakesAt}
use Rattle.sgml_content_steps.proofs.Marking.{leaves-itself}
use Rattle.sgml_content_sections.specs.Changes.{kept_with, changed, further}
use Rattle.sgml_content_sections.proofs.Quiet.{IsQuiet, IsInsideAfter, alone-step, quiet-next, refused-step, memory-step}
use Rattle.sgml_content_sections.proofs.Steady.{length-first-in, no-outside}
use Rattle.sgml_content_references.specs.declared.entity.Said.TheVariants as said
use Rattle.sgml_content_references.specs.Referring.{said_in, said_of_number, stop_for, IsTextOpened, IsTextShut}

-- ITS NUMBER is that of a declared entity
reads-some : (d : Doctype) (number : ℕ) → said.Reads ≡ said_of_number d number → (e : Entity) × (entity d number ≡ Some e)
reads-some d number h = by (entity d number) refl h
  where
    by : (o : Option Entity) → entity d number ≡ o → said.Reads ≡ said_in d (option_map (λ (e : Entity). e.body) o) → (e : Entity) × (entity d number ≡ Some e)
    by None f h = absurd (cc)
    by (Some e) f h = (e, f)

from-two : (n : ℕ) → nat_lt n first_entity ≡ false → 1 < n
from-two n e = search (rules, tests)

some-number : (d : Doctype) (number : ℕ) (e : Entity) → entity d number ≡ Some e → 1 < number
unfolding entity
some-number d number e h = by (nat_lt number first_entity) refl h
  where
    by : (t : Bool) → nat_lt number first_entity ≡ t → (if t then None else slice_get d.entities (number - first_entity)) ≡ Some e → 1 < number
    by true f h = absurd (cc)
    by false f h = from-two number f

below-all : (d : Doctype) (number : ℕ) (e : Entity) → entity d number ≡ Some e → number < length d.entities + first_entity
unfolding entity
below-all d number e h = entity-below d.entities number e h

other-number : (n m : ℕ) → m < n → (n == m) ≡ false
other-number n m l = by (n == m) refl
  where
    by : (t : Bool) → (n == m) ≡ t → (n == m) ≡ false
    by true e = let same : n ≡ m = eqb-true n m e in absurd (omega (arith, l, same))
    by false e = e

-- WHAT THE OUTSIDE SAYS of its text
shows : (c : Choices) (outside : Outside) (k : Kept) (texts : List (ℕ × Text)) (n : ℕ) → IsInInstance k → IsOutside c outside k texts
    → StackShows (moved_on n k).stack outside k.doctype (stacked_on k.stack)
shows c outside k texts n h o = record { levels = h.levels; expand = o.expand; spent = refl; entities = entities-moved n k.stack.places }

supplied : (c : Choices) (outside : Outside) (k : Kept) (texts : List (ℕ × Text)) (number : ℕ) → 1 < number → IsOutside c outside k texts → IsSupplied outside (sources_of k) texts number
supplied c outside k texts number l o text given =
    o.supplied number text (omega (arith, l)) (ap (λ b. if b then is_some k.subset else true) (other-number number 1 l)) given

-- THE PIECE THAT OPENS IT is spelled, unless it isn't opened
abbrev pub SpellsText : ScanState → List (ℕ × Text) → Bool → Token → Content → Kind → ℕ → Type 0
SpellsText st texts ended t old y number =
    (outside : Outside) (x : Held) (o : Option Reason) → Holds old x → IsHeld old.kept st x → unopened_of outside (sources_of old.kept) (stacked_on old.kept.stack) number ≡ o
    → IsSpelledIn outside x texts ended (sized_ok t.length (unless o y))

-- WHY IT ISN'T OPENED
on-same : (n : ℕ) (ps : List Place) → list_any (λ m. m == n) (map (λ (p : Place). p.entity) ps) ≡ is_on n ps
on-same n [] = refl
on-same n (p ∷ ps) = ap (λ b. (p.entity == n) || b) (on-same n ps)

shut-by : (c : Choices) (st : ScanState) (texts : List (ℕ × Text)) (ended : Bool) (t : Token) (old : Content) (y : Kind) (number : ℕ) (after' : Stack) (e : OpenError) → IsContent old
    → SpellsText st texts ended t old y number → 1 < number
    → Opens c (sources_of old.kept) texts (moved_on t.length old.kept).stack after' number (Err e) → IsStep c st texts ended old old [] (Err (stop_for number e))
shut-by c st texts ended t old y number after' (opening.Refused r) is spells far opens =
    refused-step c st texts ended old r is
    (λ outside x o h held.
    spells outside x (Some r) h held
    (opens outside (stacked_on old.kept.stack) o.of_options (supplied c outside old.kept texts number far o) (shows c outside old.kept texts t.length is.instance o)))
shut-by c st texts ended t old y number after' (opening.Wanted file) is spells far opens = record {
  steps = λ outside x o h held.
      let given = supplied c outside old.kept texts number far o in
      let shown = shows c outside old.kept texts t.length is.instance o in
      let w = opens outside (stacked_on old.kept.stack) o.of_options given shown in record {
        not_given = wanting-step old.kept texts number w.absent;
        unread = subst (λ (z : Kept). is_on number z.stack.places ≡ false) (sym held.kept) (sym (on-same number old.kept.stack.places) ∙ w.unread);
        named = subst (λ (z : Kept). reading.file_of outside (sources_of z) number ≡ Some file) (sym held.kept) w.named;
        refused = λ r gone. inl (spells outside x (Some r) h held
            (wanted-are-missing c (sources_of old.kept) texts (moved_on t.length old.kept).stack after' number file outside (stacked_on old.kept.stack) r opens o.of_options given shown gone));
      };
  falls = tt;
  left = leaves-itself old;
  content = is;
  doctype = refl;
  expand = refl;
}
shut-by c st texts ended t old y number after' opening.Memory is spells far opens = memory-step c st texts ended old is

pub shut-step : (c : Choices) (st : ScanState) (texts : List (ℕ × Text)) (t : Token) (old new : Content) (y : Kind) (number : ℕ) (s : Stop) → IsContent old
    → said.Reads ≡ said_of_number old.kept.doctype number → ((ended : Bool) → IsTokenThere old.kept st texts ended t → SpellsText st texts ended t old y number)
    → IsTextShut c texts t.length number old.kept s → new ≡ old → TakesAt c st texts t old new [] (Err s)
shut-step c st texts t old new y number s is reads spells shut same ended there =
    let some = reads-some old.kept.doctype number reads in
    subst (λ (z : Content). IsStep c st texts ended old z [] (Err s)) (sym same)
    (subst (λ z. IsStep c st texts ended old old [] (Err z)) (sym shut.told)
    (shut-by c st texts ended t old y number shut.stack shut.error is (spells ended there) (some-number old.kept.doctype number some.0 some.1) shut.opens))

-- A PIECE THAT OPENS IT, of which nothing is told
pub record IsOpener (y : Kind) (number : ℕ) : Type 0 where
  pub quiet : IsQuiet y
  pub turn_is : turn y ≡ OpensText number
  pub border_is : border y ≡ NoBorder
  pub declares_none : (d : Doctype) → declares y d ≡ d
  pub names_none : subset_named y ≡ None
  pub stays : stage_after y AfterSubset ≡ AfterSubset

pub turns-to : (number : ℕ) → 1 < number → turn_to number ≡ OpensText number
turns-to number l = ap (λ b. if b then StaysInText else OpensText number) (other-number number 0 (omega (arith, l)))

opener-after : (outside : Outside) (k : Kept) (y : Kind) (number n : ℕ) → IsInInstance k → IsOpener y number
    → after outside (sized n y) k ≡ kept_with (opened number (length (reading.text_of outside (sources_of k) number)) (further n k.stack)) k.sections k
unfolding kept_after
opener-after outside k y number n h is =
    let sources : sources_after (sized n y) k ≡ sources_of k = λ i. record { doctype = is.declares_none k.doctype i; subset = option_or (is.names_none i) k.subset } in
    let size = length (reading.text_of outside (sources_of k) number) in
    λ i. record {
      doctype = is.declares_none k.doctype i;
      stack = record {
        levels = (ap (λ (d : Doctype). d.syntax.quantities.entlvl) (is.declares_none k.doctype) ∙ sym h.levels) i;
        expand = k.stack.expand;
        spent = ((λ j. k.stack.spent + (0 + opened_length (reading.text_of outside (sources j)) (is.turn_is j))) ∙ ap (λ m. k.stack.spent + m) (zero-add size)) i;
        places = ap (λ u. turned u (moved n k.stack.places)) is.turn_is i;
      };
      sections = (ap (λ b. reverse (sections_after b (length k.stack.places) (reverse k.sections))) is.border_is ∙ reverse-reverse k.sections) i;
      stage = (ap (stage_after y) h.stage ∙ (is.stays ∙ sym h.stage)) i;
      subset = option_or (is.names_none i) k.subset;
    }

one-number : (a b : ℕ) → OpensText a ≡ OpensText b → a ≡ b
one-number a b e = cc

no-ending : (n : ℕ) → OpensText n ≡ EndsText → ⊥
no-ending n e = cc

none-some : {A : Type 0} (a : A) → None ≡ Some a → ⊥
none-some a e = cc

opener-there : (outside : Outside) (k : Kept) (texts : List (ℕ × Text)) (y : Kind) (number n : ℕ) → IsInInstance k → IsOpener y number → n ≤ length (rest_in k texts)
    → text_at k.doctype.entities texts number ≡ Some (reading.text_of outside (sources_of k) number) → IsThere outside k texts (sized n y)
opener-there outside k texts y number n h is few there = record {
  within = subst (λ m. n ≤ m) (sym (length-first-in k texts h)) few;
  opened = λ m f.
      let same = one-number number m (sym is.turn_is ∙ f) in
      subst (λ j. text_at (declares y k.doctype).entities texts j ≡ Some (text_after outside (sized n y) k j)) same
      ((λ i. text_at (is.declares_none k.doctype i).entities texts number) ∙ (there
      ∙ (λ i. Some (reading.text_of outside (record { doctype = sym (is.declares_none k.doctype) i; subset = option_or (sym is.names_none i) k.subset }) number))));
  subset = λ named text f i. absurd (none-some named (sym is.names_none ∙ f));
}

-- what is kept then is kept in the instance, however long the text is
opener-instance : (c : Choices) (k : Kept) (y : Kind) (number n size : ℕ) (e : Entity) → IsInInstance k → IsOpener y number → entity k.doctype number ≡ Some e
    → IsInInstance (kept_with (opened number size (further n k.stack)) k.sections k)
opener-instance c k y number n size e h is some =
    let l = some-number k.doctype number e some in
    let i = subst IsInInstance (opener-after (no-outside c k) k y number n h is)
    (instance-stays (no-outside c k) k (sized n y) h (record {
      of_content = is.quiet.is_alone.of_content;
      opened = λ m f.
          let same = one-number number m (sym is.turn_is ∙ f) in
          subst (λ j. (1 < j) × (j < length k.doctype.entities + first_entity)) same (l, below-all k.doctype number e some);
      ended = λ f. absurd (no-ending number (sym is.turn_is ∙ f));
    })) in
    record {
      levels = i.levels;
      document = i.document;
      declared = i.declared;
      nested = i.nested;
      stage = i.stage;
      no_subset = i.no_subset;
      named = i.named;
    }

opener-falls : (k : Kept) (texts : List (ℕ × Text)) (number n : ℕ) (text : Text) → IsInInstance k → 0 < n → n ≤ length (rest_in k texts) → text_at k.doctype.entities texts number ≡ Some text
    → refusal number (length text) (moved_on n k).stack ≡ None
    → left_to_read (kept_with (opened number (length text) (further n k.stack)) k.sections k) texts < left_to_read k texts
unfolding left_to_read given
opener-falls k texts number n text h some l there allowed =
    opened-numbers k.doctype.entities texts number n k.stack.expand k.stack.spent text k.stack.places h.document some l there
    (few-by (is_on number (moved n k.stack.places)) (nat_lt k.stack.levels (length (moved n k.stack.places))) k.stack.expand (k.stack.spent + length text) allowed)

same-texts : (a b : Text) → Some a ≡ Some b → a ≡ b
same-texts a b e = cc

-- THE STEP, where what stands in the open elements is changed so
pub opened-step : (c : Choices) (st : ScanState) (texts : List (ℕ × Text)) (t : Token) (old new : Content) (now : Kept) (y : Kind) (number : ℕ) (xs : List Inner) → IsContent old
    → said.Reads ≡ said_of_number old.kept.doctype number → ((ended : Bool) → IsTokenThere old.kept st texts ended t → SpellsText st texts ended t old y number) → (1 < number → IsOpener y number)
    → IsInsideAfter y old.inside.elements xs → AreInForce old.kept.doctype (context_of old).levels xs → IsTextOpened c texts t.length number old.kept now
    → new ≡ record old { kept = now; inside = record old.inside { elements = xs } } → TakesAt c st texts t old new [] (Ok tt)
opened-step c st texts t old new now y number xs is reads spells opener i f open_is same ended there =
    let some = reads-some old.kept.doctype number reads in
    let l = some-number old.kept.doctype number some.0 some.1 in
    let o_is = opener l in
    let text = open_is.pushed.text in
    let n = t.length in
    let s = opened number (length text) (further n old.kept.stack) in
    let at : new ≡ changed s old.kept.sections xs old =
    same ∙ (ap (λ (z : Kept). record old { kept = z; inside = record old.inside { elements = xs } }) open_is.kept
    ∙ ap (λ (z : Stack). record old { kept = record old.kept { stack = z }; inside = record old.inside { elements = xs } }) open_is.pushed.pushed) in
    subst (λ (z : Content). IsStep c st texts ended old z [] (Ok tt)) (sym at)
    (alone-step c st texts ended old s old.kept.sections xs [] is
    (λ outside x o h held.
    let w = open_is.opens outside (stacked_on old.kept.stack) o.of_options (supplied c outside old.kept texts number l o) (shows c outside old.kept texts n is.instance o) in
    let same_text : reading.text_of outside (sources_of old.kept) number ≡ text = same-texts _ _ (sym w.there ∙ open_is.pushed.there) in
    quiet-next outside texts ended old x s old.kept.sections xs (sized n y) o_is.quiet
    (spells ended there outside x None h held w.allowed)
    (opener-there outside old.kept texts y number n is.instance o_is there.within w.there)
    (opener-after outside old.kept y number n is.instance o_is ∙ ap (λ (z : Text). kept_with (opened number (length z) (further n old.kept.stack)) old.kept.sections old.kept) same_text)
    i)
    (opener-falls old.kept texts number n text is.instance there.some there.within open_is.pushed.there open_is.pushed.allowed)
    (opener-instance c old.kept y number n (length text) some.0 is.instance o_is some.1)
    f refl)
