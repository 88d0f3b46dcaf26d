-- The head of a document type declaration that is taken stands next, and why it isn't taken.
use Rattle.std.proofs.Common.{◌≡◌, ℕ, suc, ◌+◌, ◌<◌, ◌≤◌, Bool, true, false, List, [], ◌∷◌, Option, None, Some, Result, Ok, Err, length, refl, sym, ◌∙◌, ap, subst, arith, inr, if◌then◌else◌}
use Rattle.std.specs.Prelude.{reverse, nat_lt}
use Rattle.std.specs.Option.{option_or}
use Rattle.std.proofs.lemmas.List.{reverse-reverse}
use Rattle.sgml_text.specs.declared.reason.Reason.{Reason}
use Rattle.sgml_entity.specs.declared.kinds.Entity.{Entity}
use Rattle.sgml_entity.specs.declared.kinds.External.{External}
use Rattle.sgml_entity.specs.Stack.{Stack, moved, opened, place_at, is_on}
use Rattle.sgml_entity.specs.Texts.{text_of}
use Rattle.sgml_scan.specs.declared.state.Token.{Token}
use Rattle.sgml_declared.specs.decl_lexemes.Sources.{text_at}
use Rattle.sgml_declared.specs.decl_forms.declared.doctype.DoctypeHead.{DoctypeHead}
use Rattle.sgml_declared.specs.decl_forms.declared.declaration.Declaration.TheVariants as form
use Rattle.sgml_dtd.specs.Doctypes.{Doctype, with_declared}
use Rattle.sgml_declared.specs.theory_reading.Names.{Name, Text}
use Rattle.sgml_declared.specs.theory_reading.Pieces.{Piece, Kind, Head}
use Rattle.sgml_declared.specs.theory_reading.Facets.{ExternalSubset, OpensText, StaysInText, turn, turn_of_head, turn_of_external, border, declares, subset_named, subset_number, stage_after, stage_of_head}
use Rattle.sgml_declared.specs.theory_reading.Unread as reading
use Rattle.sgml_declared.specs.theory_reading.Unread.{Outside, turned, opened_length}
use Rattle.sgml_declared.specs.theory_reading.Characters.{kind_noted}
use Rattle.sgml_declared.specs.theory_spelling.Sized.{sized_spent}
use Rattle.sgml_declared.specs.theory_spelling.Decided.{is_before}
use Rattle.sgml_declared.specs.theory_standing.Kept.{Kept, given, kept_after, sources_of}
use Rattle.sgml_declared.specs.theory_standing.Prologs.{state_in_prolog, is_over}
use Rattle.sgml_declared.specs.theory_standing.Next.{after, IsNext, left_to_read}
use Rattle.sgml_declared.specs.Files.{Choices, sources_in, base_at}
use Rattle.sgml_declared.specs.declared.error.TakeError.{TakeError}
use Rattle.sgml_declared.specs.declared.error.TakeError.TheVariants as take_error
use Rattle.sgml_declared.specs.declared.head.Head as heads
use Rattle.sgml_declared.specs.Adding.{opens_subset, IsOpening}
use Rattle.sgml_declared.specs.Heads.{head_spelled, after_head, IsHeadTaken, HeadIsTaken, IsHeadStopped, HeadIsStopped}
use Rattle.sgml_declared.specs.Over.{IsReadOver}
use Rattle.sgml_prolog_steps.specs.Standing.{IsKept, IsUndeclared}
use Rattle.sgml_prolog_steps.specs.Found.{rest_in, IsSpelled, IsTokenThere}
use Rattle.sgml_prolog_steps.specs.declared.sort.Sort.TheVariants as sort
use Rattle.sgml_prolog_steps.specs.declared.stepping.Turn.TheVariants as turns
use Rattle.sgml_prolog_steps.specs.Sorts.{sort_in}
use Rattle.sgml_prolog_steps.specs.Steps.{IsOutside, IsStep, AreSilentNext, stop_of}
use Rattle.sgml_prolog_steps.proofs.Shared.{length-moved, alone-under, subset-over, subset-unread, kept-moved, falls-places, length-first, refused, silent-step, refused-step, memory-step}
use Rattle.sgml_prolog_steps.proofs.Nesting.{raised}
use Rattle.sgml_prolog_steps.proofs.Referring.{lies-opened, few-by, opened-numbers}
use Rattle.sgml_prolog_steps.proofs.Constructs.{around}
use Rattle.sgml_prolog.specs.Heads.{is_head, headed, IsHeadKept}
use Rattle.sgml_prolog.proofs.Before.{undeclared, ends-there, said}

-- WHAT IS SPELLED there
spelled-head : (outside : Outside) (k : Kept) (texts : List (ℕ × Text)) (ended : Bool) (x : Token) → sort_in k x.kind ≡ sort.Head → IsTokenThere k texts ended x → is_head k texts x ≡ true
    → IsSpelled outside k texts ended (head_spelled outside (sources_of k) texts k.stack x.length)
spelled-head outside k texts ended x e there head = said outside k texts ended x true e there head

-- THE PIECE that a head is
abbrev head_piece : Name → DoctypeHead → ℕ → ℕ → Piece
head_piece base head n inside = sized_spent n inside (Head head base)

piece-is : (p : Piece) (n : ℕ) (base : Name) (head : DoctypeHead) → p.kind ≡ Head head base → p.size ≡ n → p ≡ head_piece base head n p.spent
piece-is p n base head k s = λ i. record { kind = k i; size = s i; spent = p.spent }

turn-is : (base : Name) (head : DoctypeHead) → turn (Head head base) ≡ turn_of_head head
unfolding turn
turn-is base head = refl

only-subset : (o : Option External) (number : ℕ) → turn_of_external o ≡ OpensText number → subset_number ≡ number
only-subset None number e = absurd (cc)
only-subset (Some x) number e = cc

only-opens : (subset : Bool) (o : Option External) (number : ℕ) → (if subset then StaysInText else turn_of_external o) ≡ OpensText number → subset_number ≡ number
only-opens true o number e = absurd (cc)
only-opens false o number e = only-subset o number e

-- of a head the external subset alone is opened
opens-subset : (base : Name) (head : DoctypeHead) (number : ℕ) → turn (Head head base) ≡ OpensText number → subset_number ≡ number
opens-subset base head number e = only-opens head.subset head.external number (sym (turn-is base head) ∙ e)

head-noted : (k : Kept) (base : Name) (head : DoctypeHead) → kind_noted (state_in_prolog k) (Head head base) ≡ Head head base
unfolding kind_noted
head-noted k base head = refl

-- the external subset is no declared entity
subset-at : (es : List Entity) (texts : List (ℕ × Text)) → text_at es texts subset_number ≡ text_of texts subset_number
subset-at es texts = refl

next-head : (outside : Outside) (k : Kept) (texts : List (ℕ × Text)) (ended : Bool) (n : ℕ) (d : Doctype) (t : Stack) (h : heads.Head) (x : IsHeadTaken outside (sources_of k) texts d k.stack t n h)
    → IsKept k → is_over k ≡ false → n ≤ length (rest_in k texts) → IsSpelled outside k texts ended (Ok x.piece)
    → IsNext outside k texts ended (head_piece (base_at outside (sources_of k) k.stack) x.head n x.piece.spent)
unfolding declares
next-head outside k texts ended n d t h x kept g l s =
    let base = base_at outside (sources_of k) k.stack in
    let p = head_piece base x.head n x.piece.spent in
    let own = subst (λ (y : Piece). IsSpelled outside k texts ended (Ok y)) (piece-is x.piece n base x.head x.kind x.size) s in
    record {
      going_on = g;
      of_prolog = refl;
      decided = own.decided;
      spelled = own.spelled;
      noted = ap (λ (y : Kind). sized_spent n x.piece.spent y) (head-noted k base x.head);
      there = record {
        within = subst (λ m. n ≤ m) (sym (length-first k texts kept)) l;
        opened = λ number e.
            subst (λ m. text_at k.doctype.entities texts m ≡ Some (reading.text_of outside (after_head outside (sources_of k) k.stack x.head) m))
            (opens-subset base x.head number e)
            (subset-at k.doctype.entities texts ∙ x.there subset_number (ap turn x.kind ∙ (e ∙ ap OpensText (sym (opens-subset base x.head number e)))));
        subset = λ named text e f. x.in_file named text (ap subset_named x.kind ∙ e) f;
      };
    }

-- AFTER IT
or-none : (o : Option ExternalSubset) → option_or o None ≡ o
or-none None = refl
or-none (Some x) = refl

after-head : (outside : Outside) (k : Kept) (texts : List (ℕ × Text)) (n : ℕ) (d : Doctype) (t : Stack) (h : heads.Head) (x : IsHeadTaken outside (sources_of k) texts d k.stack t n h)
    → IsKept k → IsUndeclared k
    → headed d t h.external h.subset k ≡ after outside (head_piece (base_at outside (sources_of k) k.stack) x.head n x.piece.spent) k
unfolding kept_after border declares stage_after
after-head outside k texts n d t h x kept u =
    let base = base_at outside (sources_of k) k.stack in
    let text : ℕ → Text = reading.text_of outside (after_head outside (sources_of k) k.stack x.head) in
    let types : d ≡ declares (Head x.head base) k.doctype = x.declared ∙ ap (λ (y : Kind). declares y k.doctype) x.kind in
    let stack_with : ℕ → Kind → Stack =
    λ levels y. record {
      levels = levels;
      expand = k.stack.expand;
      spent = k.stack.spent + (x.piece.spent + opened_length text (turn y));
      places = turned (turn y) (moved n k.stack.places);
    } in
    let at : t ≡ stack_with k.doctype.syntax.quantities.entlvl (Head x.head base) = x.stack ∙ (λ j. stack_with (kept.levels j) (x.kind j)) in
    let from : h.external ≡ option_or (subset_named (Head x.head base)) k.subset =
    x.external ∙ (ap subset_named x.kind ∙ (sym (or-none (subset_named (Head x.head base))) ∙ ap (option_or (subset_named (Head x.head base))) (sym u.no_subset))) in
    λ i. record {
      doctype = types i;
      stack = at i;
      sections = sym (reverse-reverse k.sections) i;
      stage = stage_of_head (x.subset i);
      subset = from i;
    }

silent-head : (c : Choices) (texts : List (ℕ × Text)) (ended : Bool) (asked : Option Name) (x : Token) (old new : Kept) → IsKept old → is_over old ≡ false
    → sort_in old x.kind ≡ sort.Head → IsTokenThere old texts ended x → is_head old texts x ≡ true → IsHeadKept c texts asked old new
    → (outside : Outside) → IsOutside c outside old texts asked → AreSilentNext outside texts ended old new
silent-head c texts ended asked x old new h g e there head kept outside o =
    let u = undeclared old x.kind h e in
    let taken = subst (λ (s : Option ExternalSubset). HeadIsTaken c (sources_in old.doctype s) texts asked new.doctype old.stack new.stack kept.head) (sym u.no_subset) kept.taken in
    let t = taken outside x.length (around c outside old texts asked h o) (ends-there old texts ended x e there) (λ text f. o.asked_for text u.no_subset f) in
    let s = subst (λ (a : Result Piece Reason). IsSpelled outside old texts ended a) t.spelled (spelled-head outside old texts ended x e there head) in (
      head_piece (base_at outside (sources_of old) old.stack) t.head x.length t.piece.spent ∷ [],
      (
        next-head outside old texts ended x.length new.doctype new.stack kept.head t h g there.within s,
        kept.after ∙ after-head outside old texts x.length new.doctype new.stack kept.head t h u,
      ),
      refl,
    )

-- WHATEVER THE OUTSIDE IS
abbrev type_named : Name → DoctypeHead → Doctype → Doctype
type_named base head d = with_declared base d (form.Doctype head)

not-before : (b : Bool) → is_before (stage_of_head b) ≡ true → ⊥
not-before true e = cc
not-before false e = cc

kept-alone : (k : Kept) (n spent : ℕ) (base : Name) (head : DoctypeHead) (o : Option ExternalSubset) (b : Bool) → IsKept k → IsUndeclared k
    → IsKept (headed (type_named base head k.doctype) (record k.stack { spent = spent; places = moved n k.stack.places }) o b k)
kept-alone k n spent base head o b h u =
    let q = kept-moved n k h in record {
      levels = h.levels;
      document = q.document;
      declared = q.declared;
      nested = q.nested;
      after = λ e. alone-under (moved n k.stack.places) (length-moved n k.stack.places ∙ u.one_text);
      before = λ e. absurd (not-before b e);
      named = λ i. refl;
    }

kept-over : (k : Kept) (n spent : ℕ) (base : Name) (head : DoctypeHead) (o : Option ExternalSubset) (b : Bool) → IsKept k → IsUndeclared k
    → IsKept (headed (type_named base head k.doctype) (record k.stack { spent = spent; places = place_at subset_number 0 ∷ moved n k.stack.places }) o b k)
kept-over k n spent base head o b h u =
    let q = kept-moved n k h in record {
      levels = h.levels;
      document = lies-opened subset_number n k.stack.places refl h.document;
      declared = (omega arith, q.declared);
      nested = raised (length (moved n k.stack.places)) (suc (length (moved n k.stack.places))) (reverse k.sections) (omega arith) q.nested;
      after = λ e. subset-over (moved n k.stack.places) (length-moved n k.stack.places ∙ u.one_text);
      before = λ e. absurd (not-before b e);
      named = λ i. refl;
    }

falls-alone : (k : Kept) (texts : List (ℕ × Text)) (n spent : ℕ) (base : Name) (head : DoctypeHead) (o : Option ExternalSubset) (b : Bool) → IsKept k → 0 < n → n ≤ length (rest_in k texts)
    → k.stack.spent ≤ spent
    → left_to_read (headed (type_named base head k.doctype) (record k.stack { spent = spent; places = moved n k.stack.places }) o b k) texts < left_to_read k texts
unfolding left_to_read given
falls-alone k texts n spent base head o b h some l more =
    let a = falls-places k.doctype.entities texts n k.stack.expand k.stack.spent k.stack.places h.document some l in
    omega (arith, a, more)

falls-over : (k : Kept) (texts : List (ℕ × Text)) (n spent : ℕ) (text : Text) (base : Name) (head : DoctypeHead) (o : Option ExternalSubset) (b : Bool) → IsKept k → 0 < n
    → n ≤ length (rest_in k texts) → k.stack.spent ≤ spent → text_of texts subset_number ≡ Some text → spent + length text ≤ k.stack.expand
    → left_to_read (headed (type_named base head k.doctype) (record k.stack { spent = spent + length text; places = place_at subset_number 0 ∷ moved n k.stack.places }) o b k) texts
    < left_to_read k texts
unfolding left_to_read given
falls-over k texts n spent text base head o b h some l more there few =
    let a = opened-numbers k.doctype.entities texts subset_number n k.stack.expand spent text k.stack.places h.document some l (subset-at k.doctype.entities texts ∙ there) few in
    omega (arith, a, more)

-- less is left to read, and what is kept goes on to be what a reader keeps
record IsGoneOn (texts : List (ℕ × Text)) (old new : Kept) : Type 0 where
  falls : left_to_read new texts < left_to_read old texts
  kept : IsKept new
  expand : new.stack.expand ≡ old.stack.expand

gone-on : (k : Kept) (texts : List (ℕ × Text)) (n : ℕ) (over t : Stack) (base : Name) (head : DoctypeHead) (o : Option ExternalSubset) (b opens : Bool) → IsKept k → IsUndeclared k
    → 0 < n → n ≤ length (rest_in k texts) → IsReadOver n k.stack over → IsOpening opens texts over t → IsGoneOn texts k (headed (type_named base head k.doctype) t o b k)
gone-on k texts n over t base head o b true h u some l r x =
    let at : t ≡ record k.stack { spent = over.spent + length x.0; places = place_at subset_number 0 ∷ moved n k.stack.places } =
    x.3 ∙ ap (opened subset_number (length x.0)) r.stack in
    let few : over.spent + length x.0 ≤ k.stack.expand =
    subst (λ (s : Stack). over.spent + length x.0 ≤ s.expand) r.stack
    (few-by (is_on subset_number over.places) (nat_lt over.levels (length over.places)) over.expand (over.spent + length x.0) x.2) in
    subst (λ (s : Stack). IsGoneOn texts k (headed (type_named base head k.doctype) s o b k)) (sym at)
    (record {
      falls = falls-over k texts n over.spent x.0 base head o b h some l r.grown x.1 few;
      kept = kept-over k n (over.spent + length x.0) base head o b h u;
      expand = refl;
    })
gone-on k texts n over t base head o b false h u some l r x =
    subst (λ (s : Stack). IsGoneOn texts k (headed (type_named base head k.doctype) s o b k)) (sym (x ∙ r.stack))
    (record {
      falls = falls-alone k texts n over.spent base head o b h some l r.grown;
      kept = kept-alone k n over.spent base head o b h u;
      expand = refl;
    })

after-gone : (c : Choices) (texts : List (ℕ × Text)) (ended : Bool) (asked : Option Name) (x : Token) (old new : Kept) → IsKept old
    → sort_in old x.kind ≡ sort.Head → IsTokenThere old texts ended x → IsHeadKept c texts asked old new → IsGoneOn texts old new
after-gone c texts ended asked x old new h e there kept =
    let v = kept.over x.length (ends-there old texts ended x e there) in
    let is : new ≡ headed (type_named v.base v.head old.doctype) new.stack kept.head.external v.head.subset old =
    kept.after ∙ (λ i. headed (v.is i) new.stack kept.head.external (v.subset i) old) in
    subst (IsGoneOn texts old) (sym is)
    (gone-on old texts x.length v.over new.stack v.base v.head kept.head.external v.head.subset (opens_subset v.head) h (undeclared old x.kind h e) there.some there.within v.read_over v.opening)

-- THE STEP
pub head-step : (c : Choices) (texts : List (ℕ × Text)) (ended : Bool) (asked : Option Name) (x : Token) (old new : Kept) → IsKept old → is_over old ≡ false
    → IsTokenThere old texts ended x → sort_in old x.kind ≡ sort.Head → is_head old texts x ≡ true → IsHeadKept c texts asked old new
    → IsStep c texts ended asked old new (Ok turns.Silent)
head-step c texts ended asked x old new h g there e head kept =
    let gone = after-gone c texts ended asked x old new h e there kept in
    silent-step c texts ended asked old new (silent-head c texts ended asked x old new h g e there head kept) gone.falls gone.kept gone.expand

-- WHY IT ISN'T TAKEN
pub stopped-head : (c : Choices) (texts : List (ℕ × Text)) (ended : Bool) (asked : Option Name) (x : Token) (old new : Kept) (error : TakeError) → IsKept old → is_over old ≡ false
    → IsTokenThere old texts ended x → sort_in old x.kind ≡ sort.Head → is_head old texts x ≡ true
    → HeadIsStopped c (sources_in old.doctype None) texts asked old.stack error → new ≡ old → IsStep c texts ended asked old new (Err (stop_of error))
stopped-head c texts ended asked x old new error h g there e head stopped same = by error each
  where
    u : IsUndeclared old
    u = undeclared old x.kind h e

    each : (outside : Outside) → IsOutside c outside old texts asked → IsHeadStopped outside (sources_of old) texts old.stack x.length error
    each outside o =
        subst (λ (s : Option ExternalSubset). HeadIsStopped c (sources_in old.doctype s) texts asked old.stack error) (sym u.no_subset) stopped
        outside x.length (around c outside old texts asked h o) (ends-there old texts ended x e there) (λ text f. o.asked_for text u.no_subset f)

    spelled : (outside : Outside) → IsSpelled outside old texts ended (head_spelled outside (sources_of old) texts old.stack x.length)
    spelled outside = spelled-head outside old texts ended x e there head

    by : (y : TakeError) → ((outside : Outside) → IsOutside c outside old texts asked → IsHeadStopped outside (sources_of old) texts old.stack x.length y)
        → IsStep c texts ended asked old new (Err (stop_of y))
    by (take_error.Refused r) w =
        refused-step c texts ended asked old new r
        (λ outside o. refused outside old texts ended r g (subst (λ (a : Result Piece Reason). IsSpelled outside old texts ended a) (w outside o) (spelled outside))) same
    by (take_error.Wanted number file) w = record {
      steps = λ outside o.
          let y = w outside o in (
            same,
            record {
              unread = ap (λ n. is_on n old.stack.places) y.subset ∙ subset-unread old.stack.places u.one_text h.document;
              not_given = y.absent;
              named = inr (y.subset, u.no_subset, y.head, y.named);
              refused = λ r gone. refused outside old texts ended r g
                  (subst (λ (a : Result Piece Reason). IsSpelled outside old texts ended a) (y.missing r gone) (spelled outside));
            },
          );
      falls = tt;
      kept = tt;
      expand = tt;
      left = same;
    }
    by take_error.Memory w = memory-step c texts ended asked old new same
