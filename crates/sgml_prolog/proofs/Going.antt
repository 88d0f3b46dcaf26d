-- How the reader goes from step to step.
use Rattle.std.proofs.Common.{◌≡◌, ℕ, Bool, true, false, not, ◌&&◌, List, [], ◌∷◌, ◌++◌, Option, None, Some, Result, Ok, Err, map, refl, sym, ◌∙◌, ap, subst, inl, inr, ◌⊎◌, ◌==◌, eqb-true, eq-eqb, if◌then◌else◌}
use Rattle.std.specs.Option.{option_or}
use Rattle.sgml_text.specs.declared.reason.Reason.{Reason}
use Rattle.sgml_text.specs.declared.place.Place.{Place}
use Rattle.sgml_entity.specs.Stack.{is_on}
use Rattle.sgml_entity.specs.Texts.{text_of}
use Rattle.sgml_declared.specs.theory_reading.Names.{Name, Text}
use Rattle.sgml_declared.specs.theory_reading.Pieces.{Piece, History}
use Rattle.sgml_declared.specs.theory_reading.Facets.{subset_named, subset_number}
use Rattle.sgml_declared.specs.theory_reading.Unread.{Outside, Input}
use Rattle.sgml_declared.specs.theory_reading.State.{state}
use Rattle.sgml_declared.specs.theory_reading.Reads.{Move, ReadOn, after_moves, moved_on, top_place}
use Rattle.sgml_declared.specs.theory_spelling.Decided.{decided}
use Rattle.sgml_declared.specs.theory_spelling.Spelled.{forms}
use Rattle.sgml_declared.specs.theory_standing.Kept.{Kept, Stands, given, kept_after}
use Rattle.sgml_declared.specs.theory_standing.Prologs.{is_over, alone}
use Rattle.sgml_declared.specs.theory_standing.Next.{after, AreNext}
use Rattle.sgml_declared.specs.theory_standing.Laws.{AreRead}
use Rattle.sgml_declared.proofs.theory_standing.Given.{stops-at-top, refused-stops}
use Rattle.sgml_declared.proofs.theory_standing.Prologs.{state-in-prolog}
use Rattle.sgml_declared.proofs.theory_standing.Reading.{next-are-read}
use Rattle.sgml_declared.specs.Files.{Choices}
use Rattle.sgml_prolog_steps.specs.Steps.{are_silent, is_instruction, IsFileNext, IsAskedFor, IsOutside, AreSilentNext, IsInstructionNext, IsWanting, Steps}
use Rattle.sgml_prolog_steps.specs.declared.stepping.Turn.TheVariants as turn
use Rattle.sgml_prolog_steps.specs.declared.stepping.Stop.TheVariants as stop
use Rattle.sgml_prolog.specs.Going.{GoesTo, Goes, NothingGoes, SilentGoesOn, OverIsDone, MoreIsMore, InstructionIsTold, RefusalIsTold, WantIsTold}
use Rattle.sgml_prolog.specs.Reading.{Reader, IsReading, Leads, Answers, reader, ReadsOn, asked_after}
use Rattle.sgml_prolog.specs.declared.answer.PrologStep.{PrologStep}
use Rattle.sgml_prolog.specs.declared.answer.PrologError.{PrologError}
use Rattle.sgml_prolog.specs.declared.answer.PrologStep.TheVariants as step
use Rattle.sgml_prolog.specs.declared.answer.PrologError.TheVariants as error
use Rattle.sgml_prolog.proofs.Borders.{none-before-read}

-- the outside of an input that is being read
outside-of : (r : Reader) (texts : List (ℕ × Text)) (ended : Bool) (I : Input) (more : Text) (h : History) → IsReading r texts ended I more h → IsOutside r.options I.outside r.kept texts r.asked
outside-of r texts ended I more h x = record { of_options = x.of_options; supplied = x.stands.supplied; asked_for = x.asked_for; expand = x.stands.expand_is }

-- no subset was named before one that none is after
or-none : {A : Type 0} (x y : Option A) → option_or x y ≡ None → y ≡ None
or-none None y e = e
or-none (Some a) y e = absurd (never e)
  where
    never : Some a ≡ None → ⊥
    never e = cc

none-after : (outside : Outside) (p : Piece) (k : Kept) → (after outside p k).subset ≡ None → k.subset ≡ None
unfolding kept_after
none-after outside p k e = or-none (subset_named p.kind) k.subset e

none-before : (outside : Outside) (texts : List (ℕ × Text)) (ended : Bool) (ps : List Piece) (k new : Kept) → AreNext outside k texts ended ps new → new.subset ≡ None → k.subset ≡ None
none-before outside texts ended [] k new n e = ap (λ x. x.subset) (sym n) ∙ e
none-before outside texts ended (p ∷ ps) k new n e = none-after outside p k (none-before outside texts ended ps (after outside p k) new n.1 e)

-- what was read in several turns
moves-append : (h : History) (ms ns : List Move) → after_moves h (ms ++ ns) ≡ after_moves (after_moves h ms) ns
moves-append h [] ns = refl
moves-append h (m ∷ ms) ns = moves-append (moved_on h m) ms ns

alone-append : (ps qs : List Piece) → map alone (ps ++ qs) ≡ map alone ps ++ map alone qs
alone-append [] qs = refl
alone-append (p ∷ ps) qs = ap (λ ms. alone p ∷ ms) (alone-append ps qs)

read-append : (I : Input) (h : History) (ms ns : List Move) → ReadOn forms I h ms → ReadOn forms I (after_moves h ms) ns → ReadOn forms I h (ms ++ ns)
read-append I h [] ns a b = b
read-append I h (m ∷ ms) ns a b = (a.0, read-append I (moved_on h m) ms ns a.1 b)

silent-by : (t u v : Bool) → (u ≡ true → v ≡ true) → (t && u) ≡ true → (t && v) ≡ true
silent-by true u v f a = f a
silent-by false u v f a = a

silent-append : (ps qs : List Piece) → are_silent ps ≡ true → are_silent qs ≡ true → are_silent (ps ++ qs) ≡ true
silent-append [] qs a b = b
silent-append (p ∷ ps) qs a b = silent-by (not (is_instruction p.kind)) (are_silent ps) (are_silent (ps ++ qs)) (λ c. silent-append ps qs c b) a

pub goes-nowhere : (c : Choices) (texts : List (ℕ × Text)) (ended : Bool) (asked : Option Name) (k : Kept) → Goes c texts ended asked k k
goes-nowhere c texts ended asked k = λ I more h x. record { pieces = []; silent = refl; read = tt; goes_on = x }

-- after pieces that stand next
read-next : (c : Choices) (k new : Kept) (asked : Option Name) (texts : List (ℕ × Text)) (ended : Bool) (I : Input) (more : Text) (h : History) (ps : List Piece)
    → IsReading (reader c k asked None) texts ended I more h → AreNext I.outside k texts ended ps new
    → ReadOn forms I h (map alone ps) × IsReading (reader c new asked None) texts ended I more (after_moves h (map alone ps))
read-next c k new asked texts ended I more h ps x n =
    let r : AreRead new texts I more h ps = next-are-read k new texts ended I more h ps x.stands x.follows x.in_prolog n in (
      r.read,
      record {
        well = refl;
        of_options = x.of_options;
        stands = r.stands;
        asked_for = λ text e t. x.asked_for text (none-before I.outside texts ended ps k new n e) t;
        follows = x.follows;
        in_prolog = r.in_prolog;
        none_before = none-before-read k new texts ended I more h ps x.stands x.follows x.in_prolog x.none_before n;
      },
    )

pub goes-on : (c : Choices) (texts : List (ℕ × Text)) (ended : Bool) (asked : Option Name) (old k new : Kept) → Goes c texts ended asked old k
    → Steps c texts ended asked k new (Ok turn.Silent) → Goes c texts ended asked old new
goes-on c texts ended asked old k new g s = λ I more h x.
    let a = g I more h x in
    let h' = after_moves h (map alone a.pieces) in
    let t : AreSilentNext I.outside texts ended k new = s I.outside (outside-of (reader c k asked None) texts ended I more h' a.goes_on) in
    let r = read-next c k new asked texts ended I more h' t.0 a.goes_on t.1 in
    record {
      pieces = a.pieces ++ t.0;
      silent = silent-append a.pieces t.0 a.silent t.2;
      read = subst (ReadOn forms I h) (sym (alone-append a.pieces t.0)) (read-append I h (map alone a.pieces) (map alone t.0) a.read r.0);
      goes_on = subst (IsReading (reader c new asked None) texts ended I more)
          (sym (moves-append h (map alone a.pieces) (map alone t.0)) ∙ ap (after_moves h) (sym (alone-append a.pieces t.0))) r.1;
    }

-- THE ANSWERS
answers-by : (new : Reader) (k : Reader) (texts : List (ℕ × Text)) (ended : Bool) (I : Input) (more : Text) (h : History) (result : Result PrologStep PrologError) → (a : GoesTo k texts ended I more h)
    → Leads new texts ended I more (after_moves h (map alone a.pieces)) result → Answers new texts ended I more h result
answers-by new k texts ended I more h result a l = record { pieces = a.pieces; silent = a.silent; read = a.read; in_prolog = a.goes_on.in_prolog; leads = l }

pub done : (c : Choices) (texts : List (ℕ × Text)) (ended : Bool) (asked : Option Name) (old k : Kept) → Goes c texts ended asked old k → is_over k ≡ true
    → ReadsOn c texts ended old k asked asked (Ok step.Done)
done c texts ended asked old k g o = λ I more h x. let a = g I more h x in answers-by (reader c k asked None) (reader c k asked None) texts ended I more h (Ok step.Done) a (a.goes_on, o)

pub needs-more : (c : Choices) (texts : List (ℕ × Text)) (ended : Bool) (asked : Option Name) (old k new : Kept) → Goes c texts ended asked old k
    → Steps c texts ended asked k new (Err stop.More) → ReadsOn c texts ended old new asked asked (Ok step.More)
needs-more c texts ended asked old k new g s = λ I more h x.
    let a = g I more h x in
    let h' = after_moves h (map alone a.pieces) in
    let t = s I.outside (outside-of (reader c k asked None) texts ended I more h' a.goes_on) in
    answers-by (reader c new asked None) (reader c k asked None) texts ended I more h (Ok step.More) a (
      subst (λ z. IsReading (reader c z asked None) texts ended I more h') (sym t.0) a.goes_on,
      t.1,
      subst (λ z. decided I.outside (state h') (given z texts) ≡ false) (sym t.0)
          (ap (λ z. decided I.outside z (given k texts)) (state-in-prolog k texts I more h' a.goes_on.stands a.goes_on.in_prolog) ∙ t.2),
    )

pub is-refused : (c : Choices) (texts : List (ℕ × Text)) (ended : Bool) (asked : Option Name) (old k new : Kept) (place : Place) (r : Reason) → Goes c texts ended asked old k
    → Steps c texts ended asked k new (Err (stop.Refused r)) → new ≡ k → place ≡ top_place k.stack.places
    → ReadsOn c texts ended old new asked asked (Err (error.Refused (record { place = place; reason = r })))
is-refused c texts ended asked old k new place r g s left p = λ I more h x.
    let a = g I more h x in
    let h' = after_moves h (map alone a.pieces) in
    let t = s I.outside (outside-of (reader c k asked None) texts ended I more h' a.goes_on) in
    answers-by (reader c new asked None) (reader c k asked None) texts ended I more h (Err (error.Refused (record { place = place; reason = r }))) a (
      refused-stops k texts ended I more h' r a.goes_on.stands a.goes_on.follows a.goes_on.in_prolog t,
      p ∙ sym (stops-at-top k texts I more h' a.goes_on.stands),
      subst (λ z. Stands z texts I more h') (sym left) a.goes_on.stands,
    )

pub is-told : (c : Choices) (texts : List (ℕ × Text)) (ended : Bool) (asked : Option Name) (old k new : Kept) (place : Place) (text : Text) (entity : Option ℕ) → Goes c texts ended asked old k
    → Steps c texts ended asked k new (Ok (turn.Instruction text entity)) → place ≡ top_place k.stack.places
    → ReadsOn c texts ended old new asked asked (Ok (step.Pi text entity place))
is-told c texts ended asked old k new place text entity g s p = λ I more h x.
    let a = g I more h x in
    let h' = after_moves h (map alone a.pieces) in
    let t : IsInstructionNext I.outside texts ended k new text entity = s I.outside (outside-of (reader c k asked None) texts ended I more h' a.goes_on) in
    let r = read-next c k (after I.outside t.0 k) asked texts ended I more h' (t.0 ∷ []) a.goes_on (t.1, refl) in
    answers-by (reader c new asked None) (reader c k asked None) texts ended I more h (Ok (step.Pi text entity place)) a (
      record {
        piece = t.0;
        reads = r.0.0;
        is = t.2;
        goes_on = subst (λ z. IsReading (reader c z asked None) texts ended I more (t.0 ∷ h')) (sym t.3) r.1;
      },
      p ∙ sym (stops-at-top k texts I more h' a.goes_on.stands),
    )

-- no text of the subset is there that was asked for under another name
no-text : {A : Type 0} (texts : List (ℕ × Text)) (number : ℕ) (text : Text) → text_of texts number ≡ None → text_of texts number ≡ Some text → A
no-text texts number text n s = absurd (never (sym n ∙ s))
  where
    never : None ≡ Some text → ⊥
    never e = cc

-- what was asked for says the same of an outside whose text of that number isn't given
asked-on : (outside : Outside) (k : Kept) (texts : List (ℕ × Text)) (number : ℕ) (file : Name) (one other : Option Name) → text_of texts number ≡ None
    → (number ≡ subset_number → ⊥) ⊎ (number ≡ subset_number) → (((number ≡ subset_number) → ⊥) → one ≡ other) → IsAskedFor outside k texts one → IsAskedFor outside k texts other
asked-on outside k texts number file one other n (inl d) same h = subst (IsAskedFor outside k texts) (same d) h
asked-on outside k texts number file one other n (inr e) same h = λ text s t. no-text texts subset_number text (ap (text_of texts) (sym e) ∙ n) t

pub is-wanted : (c : Choices) (texts : List (ℕ × Text)) (ended : Bool) (asked asked' : Option Name) (old k new : Kept) (number : ℕ) (file : Name) → Goes c texts ended asked old k
    → Steps c texts ended asked k new (Err (stop.Wanted number file)) → (number ≡ subset_number → ⊥) ⊎ (number ≡ subset_number) → (((number ≡ subset_number) → ⊥) → asked ≡ asked')
    → (number ≡ subset_number → asked' ≡ Some file) → ReadsOn c texts ended old new asked asked' (Ok (step.Want number file))
is-wanted c texts ended asked asked' old k new number file g s d same noted = λ I more h x.
    let a = g I more h x in
    let h' = after_moves h (map alone a.pieces) in
    let t = s I.outside (outside-of (reader c k asked None) texts ended I more h' a.goes_on) in
    let w : IsWanting I.outside texts ended k number file = t.1 in
    answers-by (reader c new asked' None) (reader c k asked None) texts ended I more h (Ok (step.Want number file)) a (
      reading I more h' w.not_given t.0 a.goes_on,
      record {
        unread = ap (λ (z : Kept). is_on number z.stack.places) t.0 ∙ w.unread;
        not_given = w.not_given;
        asked = noted;
        named = subst (λ z. IsFileNext I.outside z number file) (sym t.0) w.named;
        stops = λ J rest y why gone.
            let there : IsReading (reader c k asked None) texts ended J rest h' = returned J rest h' w.not_given t.0 y in
            let u = s J.outside (outside-of (reader c k asked None) texts ended J rest h' there) in
            let v : IsWanting J.outside texts ended k number file = u.1 in
            refused-stops k texts ended J rest h' why there.stands there.follows there.in_prolog (v.refused why gone);
      },
    )
  where
    reading : (I : Input) (more : Text) (h : History) → text_of texts number ≡ None → new ≡ k → IsReading (reader c k asked None) texts ended I more h
        → IsReading (reader c new asked' None) texts ended I more h
    reading I more h n e y = subst (λ z. IsReading (reader c z asked' None) texts ended I more h) (sym e) (record {
      well = refl;
      of_options = y.of_options;
      stands = y.stands;
      asked_for = asked-on I.outside k texts number file asked asked' n d same y.asked_for;
      follows = y.follows;
      in_prolog = y.in_prolog;
      none_before = y.none_before;
    })

    returned : (I : Input) (more : Text) (h : History) → text_of texts number ≡ None → new ≡ k → IsReading (reader c new asked' None) texts ended I more h
        → IsReading (reader c k asked None) texts ended I more h
    returned I more h n e z =
        let y = subst (λ v. IsReading (reader c v asked' None) texts ended I more h) e z in
        record {
          well = refl;
          of_options = y.of_options;
          stands = y.stands;
          asked_for = asked-on I.outside k texts number file asked' asked n d (λ f. sym (same f)) y.asked_for;
          follows = y.follows;
          in_prolog = y.in_prolog;
          none_before = y.none_before;
        }

pub no-memory : (c : Choices) (texts : List (ℕ × Text)) (ended : Bool) (asked asked' : Option Name) (old k new : Kept) → Goes c texts ended asked old k
    → ReadsOn c texts ended old new asked asked' (Err error.Memory)
no-memory c texts ended asked asked' old k new g = λ I more h x.
    let a = g I more h x in answers-by (reader c new asked' None) (reader c k asked None) texts ended I more h (Err error.Memory) a tt

-- the number is that of the external subset, or it isn't
number-cases : (number : ℕ) → (number ≡ subset_number → ⊥) ⊎ (number ≡ subset_number)
number-cases number = by (number == subset_number) refl
  where
    by : (t : Bool) → (number == subset_number) ≡ t → (number ≡ subset_number → ⊥) ⊎ (number ≡ subset_number)
    by true e = inr (eqb-true number subset_number e)
    by false e = inl (λ s. apart (sym (eq-eqb number subset_number s) ∙ e))
      where
        apart : true ≡ false → ⊥
        apart e = cc

same-unless : (number : ℕ) (file : Name) (asked : Option Name) → (number ≡ subset_number → ⊥) → asked ≡ (if number == subset_number then Some file else asked)
same-unless number file asked f = by (number == subset_number) refl
  where
    by : (t : Bool) → (number == subset_number) ≡ t → asked ≡ (if t then Some file else asked)
    by true e = absurd (f (eqb-true number subset_number e))
    by false e = refl

asked-then : (number : ℕ) (file : Name) (asked : Option Name) → number ≡ subset_number → (if number == subset_number then Some file else asked) ≡ Some file
asked-then number file asked e = ap (λ t. if t then Some file else asked) (eq-eqb number subset_number e)

-- THE LAWS
pub nothing-goes : NothingGoes
nothing-goes c texts ended asked k = goes-nowhere c texts ended asked k

pub silent-goes-on : SilentGoesOn
silent-goes-on c texts ended asked old k new g s = goes-on c texts ended asked old k new g s.steps

pub over-is-done : OverIsDone
over-is-done c texts ended asked old k g o = done c texts ended asked old k g o

pub more-is-more : MoreIsMore
more-is-more c texts ended asked old k new g s = needs-more c texts ended asked old k new g s.steps

pub instruction-is-told : InstructionIsTold
instruction-is-told c texts ended asked old k new place text entity g s p = is-told c texts ended asked old k new place text entity g s.steps p

pub refusal-is-told : RefusalIsTold
refusal-is-told c texts ended asked old k new place r g s p = is-refused c texts ended asked old k new place r g s.steps s.left p

pub want-is-told : WantIsTold
want-is-told c texts ended asked old k new number file g s =
    is-wanted c texts ended asked (asked_after number file asked) old k new number file g s.steps (number-cases number) (same-unless number file asked) (asked-then number file asked)
