-- The start of a marked section stands next.
use Rattle.std.proofs.Common.{◌≡◌, ℕ, ◌+◌, ◌<◌, ◌≤◌, Bool, true, false, not, ◌&&◌, List, [], ◌∷◌, ◌++◌, None, Some, Ok, length, refl, sym, ◌∙◌, ap, subst, arith, append-nil}
use Rattle.std.specs.Prelude.{reverse}
use Rattle.std.specs.Option.{option_or}
use Rattle.std.proofs.lemmas.List.{reverse-append}
use Rattle.sgml_entity.specs.Stack.{moved}
use Rattle.sgml_marked.specs.declared.status.Status.{Status}
use Rattle.sgml_marked.specs.declared.sections.Section.{Section}
use Rattle.sgml_dtd.specs.Doctypes.{Doctype}
use Rattle.sgml_declared.specs.theory_reading.Names.{Text}
use Rattle.sgml_declared.specs.theory_reading.Pieces.{Piece, Kind, SectionStart}
use Rattle.sgml_declared.specs.theory_reading.Facets.{Stage, OpensText, StaysInText, turn, Begins, border, declares, subset_named, stage_after, stage_begun}
use Rattle.sgml_declared.specs.theory_reading.Unread.{Outside, turned, opened_length}
use Rattle.sgml_declared.specs.theory_reading.Sections.{sections_after}
use Rattle.sgml_declared.specs.theory_reading.State.{State}
use Rattle.sgml_declared.specs.theory_reading.Characters.{kind_noted}
use Rattle.sgml_declared.specs.theory_spelling.Decided.{is_before}
use Rattle.sgml_declared.specs.theory_spelling.Nested.{AreNested}
use Rattle.sgml_declared.specs.theory_standing.Kept.{Kept, given, kept_after}
use Rattle.sgml_declared.specs.theory_standing.Prologs.{is_of_prolog, state_in_prolog, is_over}
use Rattle.sgml_declared.specs.theory_standing.Next.{after, text_after, left_to_read, IsNext}
use Rattle.sgml_declared.proofs.theory_standing.Entities.{Longer}
use Rattle.sgml_prolog_steps.specs.Standing.{IsKept}
use Rattle.sgml_prolog_steps.specs.Found.{rest_in, IsSpelled}
use Rattle.sgml_prolog_steps.specs.Steps.{is_instruction, AreSilentNext, with_section}
use Rattle.sgml_prolog_steps.proofs.Shared.{inside-begun, length-first, length-moved, add-none}
use Rattle.sgml_prolog_steps.proofs.Starting.{reversed-with}
use Rattle.sgml_prolog.proofs.Lexing.{read_over, kept-read, falls-read}

-- so much was read over, and a section of this status began
abbrev pub section_begun : Status → ℕ → ℕ → Kept → Kept
section_begun st n inside k = with_section st (length k.stack.places) (read_over n inside k.doctype k)

-- A PIECE that starts one
record IsStarting (st : Status) (x : Kind) : Type 0 where
  turn_is : turn x ≡ StaysInText
  border_is : border x ≡ Begins st
  declares_none : (d : Doctype) → declares x d ≡ d
  names_none : subset_named x ≡ None
  of_prolog : is_of_prolog x ≡ true
  noted : (s : State) → kind_noted s x ≡ x
  stage_is : (g : Stage) → stage_after x g ≡ stage_begun g
  silent : is_instruction x ≡ false

starting : (st : Status) → IsStarting st (SectionStart st)
unfolding turn border declares subset_named kind_noted stage_after
starting st = record {
  turn_is = refl;
  border_is = refl;
  declares_none = λ d. refl;
  names_none = refl;
  of_prolog = refl;
  noted = λ s. refl;
  stage_is = λ g. refl;
  silent = refl;
}

after-start : (outside : Outside) (k : Kept) (p : Piece) (st : Status) (n : ℕ) → IsKept k → IsStarting st p.kind → p.size ≡ n → is_before k.stage ≡ false
    → after outside p k ≡ section_begun st n p.spent k
unfolding kept_after
after-start outside k p st n h x s b = λ i. record {
  doctype = x.declares_none k.doctype i;
  stack = record {
    levels = (ap (λ (d : Doctype). d.syntax.quantities.entlvl) (x.declares_none k.doctype) ∙ sym h.levels) i;
    expand = k.stack.expand;
    spent = (ap (λ t. k.stack.spent + (p.spent + opened_length (text_after outside p k) t)) x.turn_is ∙ ap (λ m. k.stack.spent + m) (add-none p.spent)) i;
    places = (ap (λ t. turned t (moved p.size k.stack.places)) x.turn_is ∙ ap (λ m. moved m k.stack.places) s) i;
  };
  sections = (ap (λ b. reverse (sections_after b (length k.stack.places) (reverse k.sections))) x.border_is ∙ reversed-with k.sections (record { status = st; level = length k.stack.places })) i;
  stage = (x.stage_is k.stage ∙ inside-begun k.stage b) i;
  subset = ap (λ o. option_or o k.subset) x.names_none i;
}

no-turn : (n : ℕ) → StaysInText ≡ OpensText n → ⊥
no-turn n e = cc

none-some : {A : Type 0} (a : A) → None ≡ Some a → ⊥
none-some a e = cc

next-start : (outside : Outside) (k : Kept) (texts : List (ℕ × Text)) (ended : Bool) (p : Piece) (st : Status) → IsKept k → is_over k ≡ false → IsStarting st p.kind
    → p.size ≤ length (rest_in k texts) → IsSpelled outside k texts ended (Ok p) → IsNext outside k texts ended p
next-start outside k texts ended p st h g x l s = record {
  going_on = g;
  of_prolog = x.of_prolog;
  decided = s.decided;
  spelled = s.spelled;
  noted = λ i. record { kind = x.noted (state_in_prolog k) i; size = p.size; spent = p.spent };
  there = record {
    within = subst (λ n. p.size ≤ n) (sym (length-first k texts h)) l;
    opened = λ n e. absurd (no-turn n (sym x.turn_is ∙ e));
    subset = λ named text e g. absurd (none-some named (sym x.names_none ∙ e));
  };
}

pub starts-next : (outside : Outside) (k : Kept) (texts : List (ℕ × Text)) (ended : Bool) (p : Piece) (st : Status) → IsKept k → is_over k ≡ false → is_before k.stage ≡ false
    → p.kind ≡ SectionStart st → p.size ≤ length (rest_in k texts) → IsSpelled outside k texts ended (Ok p) → AreSilentNext outside texts ended k (section_begun st p.size p.spent k)
starts-next outside k texts ended p st h g b e l s =
    let x : IsStarting st p.kind = subst (λ z. IsStarting st z) (sym e) (starting st) in
    (p ∷ [], (next-start outside k texts ended p st h g x l s, sym (after-start outside k p st p.size h x refl b)), ap (λ y. not y && true) x.silent)

-- what is kept then
same-entities : (d : Doctype) → Longer d.entities d.entities
same-entities d = record { added = []; same = sym (append-nil d.entities) }

nested-begun : (n : ℕ) (st : Status) (ss : List Section) → AreNested n (reverse ss) → AreNested n (reverse (ss ++ record { status = st; level = n } ∷ []))
nested-begun n st ss a =
    let s : Section = record { status = st; level = n } in
    let whole : AreNested n (s ∷ reverse ss) = (omega arith, a) in
    subst (AreNested n) (sym (reverse-append ss (s ∷ []))) whole

pub kept-start : (k : Kept) (st : Status) (n inside : ℕ) → IsKept k → is_before k.stage ≡ false → IsKept (section_begun st n inside k)
kept-start k st n inside h b =
    let q = kept-read k n inside k.doctype h b refl (same-entities k.doctype) (λ i. i) in record {
      levels = q.levels;
      document = q.document;
      declared = q.declared;
      nested = subst (λ m. AreNested m (reverse (k.sections ++ record { status = st; level = length k.stack.places } ∷ []))) (sym (length-moved n k.stack.places))
          (nested-begun (length k.stack.places) st k.sections h.nested);
      after = q.after;
      before = λ e. absurd (never (sym e ∙ b));
      named = q.named;
    }
  where
    never : true ≡ false → ⊥
    never e = cc

pub falls-start : (k : Kept) (texts : List (ℕ × Text)) (st : Status) (n inside : ℕ) → IsKept k → 0 < n → n ≤ length (rest_in k texts)
    → left_to_read (section_begun st n inside k) texts < left_to_read k texts
unfolding left_to_read given
falls-start k texts st n inside h some l = falls-read k texts n inside k.doctype h some l (same-entities k.doctype)
