-- The starts of marked sections.
use Rattle.std.proofs.Common.{◌≡◌, ℕ, ◌<◌, ◌≤◌, Bool, true, false, List, [], ◌∷◌, ◌++◌, None, Some, Result, Ok, length, take, refl, sym, ◌∙◌, ap, subst, arith}
use Rattle.std.specs.Prelude.{reverse}
use Rattle.std.proofs.lemmas.List.{reverse-reverse, reverse-append}
use Rattle.sgml_text.specs.declared.reason.Reason.{Reason}
use Rattle.sgml_entity.specs.Stack.{moved}
use Rattle.sgml_delim.specs.declared.delim.Mode.{Mode}
use Rattle.sgml_delim.specs.declared.delim.Mode.TheVariants as mode
use Rattle.sgml_marked.specs.declared.status.Status.{Status}
use Rattle.sgml_marked.specs.declared.status.Status.TheVariants as status
use Rattle.sgml_marked.specs.declared.sections.Section.{Section}
use Rattle.sgml_markup.specs.declared.kinds.TokenKind.{TokenKind}
use Rattle.sgml_markup.specs.declared.kinds.TokenKind.TheVariants as kind
use Rattle.sgml_scan.specs.declared.state.Token.{Token}
use Rattle.sgml_declared.specs.theory_reading.Names.{Text}
use Rattle.sgml_declared.specs.theory_reading.Pieces.{Piece, SectionStart}
use Rattle.sgml_declared.specs.theory_reading.Facets.{OpensText, StaysInText, turn, border, declares, subset_named, stage_after}
use Rattle.sgml_declared.specs.theory_reading.Unread.{Outside}
use Rattle.sgml_declared.specs.theory_reading.State.{State}
use Rattle.sgml_declared.specs.theory_reading.Characters.{kind_noted}
use Rattle.sgml_declared.specs.theory_spelling.Stacked.{Stacked}
use Rattle.sgml_declared.specs.theory_spelling.Sized.{sized}
use Rattle.sgml_declared.specs.theory_spelling.Nested.{AreNested}
use Rattle.sgml_declared.specs.theory_spelling.Content.{section_piece}
use Rattle.sgml_declared.specs.theory_spelling.Decided.{is_before}
use Rattle.sgml_declared.specs.theory_spelling.Prolog.{subset_piece}
use Rattle.sgml_declared.specs.theory_standing.Kept.{Kept, given, kept_after}
use Rattle.sgml_declared.specs.theory_standing.Prologs.{state_in_prolog, is_over}
use Rattle.sgml_declared.specs.theory_standing.Next.{after, IsNext, left_to_read}
use Rattle.sgml_declared.specs.Files.{Choices}
use Rattle.sgml_declared.specs.Taking.{stacked_on}
use Rattle.sgml_prolog_steps.specs.Standing.{IsKept}
use Rattle.sgml_prolog_steps.specs.Found.{rest_in, moved_on, mode_of, IsSpelled, IsTokenThere, innermost}
use Rattle.sgml_prolog_steps.proofs.Top.{apart}
use Rattle.sgml_prolog_steps.specs.declared.sort.Sort.TheVariants as sort
use Rattle.sgml_prolog_steps.specs.declared.stepping.Turn.TheVariants as turns
use Rattle.sgml_prolog_steps.specs.Sorts.{sort_in, is_ignored}
use Rattle.sgml_prolog_steps.specs.Steps.{IsStep, IsStepOf, with_section}
use Rattle.sgml_prolog_steps.proofs.Shared.{add-none, inside-begun, length-first, kept-moved, falls-moved, silent-step}
use Rattle.sgml_prolog_steps.proofs.Bytes.{IsOnePiece, sort_by, piece-is, length-own, mode-of}

start-inside : (outside : Outside) (s : State) (t : Stacked) (m : Mode) (own : Text) → subset_piece outside s t m kind.SectionStart own ≡ section_piece outside s.context.doctype t m true own
unfolding subset_piece
start-inside outside s t mode.Ign own = refl
start-inside outside s t _ own = refl

pub start-is : (before ignored : Bool) (x : TokenKind) (outside : Outside) (s : State) (t : Stacked) (m : Mode) → sort_by before ignored x ≡ sort.SectionStart
    → (before ≡ false) × IsOnePiece before x outside s t m (λ own. section_piece outside s.context.doctype t m true own)
start-is true ignored kind.Separators outside s t m e = absurd (cc)
start-is true ignored kind.Pi outside s t m e = absurd (cc)
start-is true ignored kind.Comment outside s t m e = absurd (cc)
start-is true ignored kind.Declaration outside s t m e = absurd (cc)
start-is true ignored _ outside s t m e = absurd (cc)
start-is false ignored kind.SectionStart outside s t m e = (refl, record { each = refl; piece = λ own. start-inside outside s t m own })
start-is false true kind.Chars outside s t m e = absurd (cc)
start-is false false kind.Chars outside s t m e = absurd (cc)
start-is false ignored _ outside s t m e = absurd (cc)

ignored-spelled : (outside : Outside) (k : Kept) (texts : List (ℕ × Text)) (ended : Bool) (x : Token) → IsKept k → is_over k ≡ false → sort_in k x.kind ≡ sort.SectionStart
    → is_ignored (innermost k.sections) ≡ true → IsTokenThere k texts ended x → IsSpelled outside k texts ended (Ok (sized x.length (SectionStart status.Ignore)))
ignored-spelled outside k texts ended x h g e i there =
    let is = start-is (is_before k.stage) (is_ignored (innermost k.sections)) x.kind outside (state_in_prolog k) (stacked_on k.stack) (mode_of k) e in
    let own = take x.length (rest_in k texts) in
    subst (λ (a : Result Piece Reason). IsSpelled outside k texts ended a)
    (ap (λ m. section_piece outside (state_in_prolog k).context.doctype (stacked_on k.stack) m true own) (mode-of k h g i)
    ∙ ap (λ n. Ok (sized n (SectionStart status.Ignore))) (length-own x.length (rest_in k texts) there.within))
    (piece-is k texts ended x (λ b. section_piece outside (state_in_prolog k).context.doctype (stacked_on k.stack) (mode_of k) true b) outside is.1 there)

pub reversed-with : (ss : List Section) (s : Section) → reverse (s ∷ reverse ss) ≡ ss ++ s ∷ []
reversed-with ss s = reverse-append (s ∷ []) (reverse ss) ∙ ap (λ rs. rs ++ s ∷ []) (reverse-reverse ss)

with-reversed : (ss : List Section) (s : Section) → reverse (ss ++ s ∷ []) ≡ s ∷ reverse ss
with-reversed ss s = ap reverse (sym (reversed-with ss s)) ∙ reverse-reverse (s ∷ reverse ss)

start-after : (outside : Outside) (k : Kept) (n : ℕ) (status' : Status) → IsKept k → is_before k.stage ≡ false
    → after outside (sized n (SectionStart status')) k ≡ moved_on n (with_section status' (length k.stack.places) k)
unfolding kept_after turn border declares subset_named stage_after
start-after outside k n status' h b = λ i. record {
  doctype = k.doctype;
  stack = record { levels = sym h.levels i; expand = k.stack.expand; spent = add-none k.stack.spent i; places = moved n k.stack.places };
  sections = reversed-with k.sections (record { status = status'; level = length k.stack.places }) i;
  stage = inside-begun k.stage b i;
  subset = k.subset;
}

start-next : (outside : Outside) (k : Kept) (texts : List (ℕ × Text)) (ended : Bool) (n : ℕ) (status' : Status) → IsKept k → is_over k ≡ false → n ≤ length (rest_in k texts)
    → IsSpelled outside k texts ended (Ok (sized n (SectionStart status'))) → IsNext outside k texts ended (sized n (SectionStart status'))
unfolding turn subset_named kind_noted
start-next outside k texts ended n status' h g l s = record {
  going_on = g;
  of_prolog = refl;
  decided = s.decided;
  spelled = s.spelled;
  noted = refl;
  there = record {
    within = subst (λ m. n ≤ m) (sym (length-first k texts h)) l;
    opened = λ m e. absurd (no-turn m e);
    subset = λ named text e i. absurd (no-subset named e);
  };
}
  where
    no-turn : (m : ℕ) → StaysInText ≡ OpensText m → ⊥
    no-turn m e = cc

    no-subset : {A : Type 0} (a : A) → None ≡ Some a → ⊥
    no-subset a e = cc

pub kept-started : (k : Kept) (status' : Status) → IsKept k → is_before k.stage ≡ false → IsKept (with_section status' (length k.stack.places) k)
kept-started k status' h b =
    let n = length k.stack.places in record {
      levels = h.levels;
      document = h.document;
      declared = h.declared;
      nested = subst (λ (ss : List Section). AreNested n ss) (sym (with-reversed k.sections (record { status = status'; level = n }))) (omega arith, h.nested);
      after = h.after;
      before = λ e. apart (is_before k.stage) e b;
      named = h.named;
    }

start-falls : (k : Kept) (texts : List (ℕ × Text)) (n : ℕ) (status' : Status) → IsKept k → 0 < n → n ≤ length (rest_in k texts)
    → left_to_read (moved_on n (with_section status' (length k.stack.places) k)) texts < left_to_read k texts
unfolding left_to_read given
start-falls k texts n status' h some l = falls-moved k texts n k.stage h some l

pub ignored-start-step : (texts : List (ℕ × Text)) (ended : Bool) (x : Token) (old mid new : Kept) (on : ℕ) → IsKept old → is_over old ≡ false → IsTokenThere old texts ended x
    → sort_in old x.kind ≡ sort.SectionStart → is_ignored (innermost old.sections) ≡ true → on ≡ length old.stack.places → mid ≡ with_section status.Ignore on old → new ≡ moved_on x.length mid
    → IsStepOf texts ended old new (Ok turns.Silent)
ignored-start-step texts ended x old mid new on h g there e i size m n c asked =
    let is : new ≡ moved_on x.length (with_section status.Ignore (length old.stack.places) old) = n ∙ ap (moved_on x.length) (m ∙ ap (λ j. with_section status.Ignore j old) size) in
    let b = (start-is (is_before old.stage) (is_ignored (innermost old.sections)) x.kind (no-outside c) (state_in_prolog old) (stacked_on old.stack) (mode_of old) e).0 in
    subst (λ (z : Kept). IsStep c texts ended asked old z (Ok turns.Silent)) (sym is)
    (silent-step c texts ended asked old (moved_on x.length (with_section status.Ignore (length old.stack.places) old))
    (λ outside o. (
      sized x.length (SectionStart status.Ignore) ∷ [],
      (
        start-next outside old texts ended x.length status.Ignore h g there.within (ignored-spelled outside old texts ended x h g e i there),
        sym (start-after outside old x.length status.Ignore h b),
      ),
      refl,
    ))
    (start-falls old texts x.length status.Ignore h there.some there.within)
    (kept-moved x.length (with_section status.Ignore (length old.stack.places) old) (kept-started old status.Ignore h b)) refl)
  where
    no-outside : (c : Choices) → Outside
    no-outside c = Rattle.sgml_declared.specs.Files.outside_of c old.doctype.syntax (λ n. Rattle.sgml_declared.specs.theory_reading.Unread.NotThere)
