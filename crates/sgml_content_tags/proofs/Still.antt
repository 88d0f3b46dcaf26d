-- Tags and the end of the document change neither which texts are open, nor the sections, nor the document type.
use Rattle.std.specs.Prelude.{◌≡◌, ℕ, ◌+◌, ◌<◌, ◌≤◌, List, length, reverse, Some, None, Bool}
use Rattle.std.specs.Option.{option_or}
use Rattle.std.proofs.Common.{refl, sym, ap, ◌∙◌, subst, arith}
use Rattle.std.proofs.lemmas.List.{reverse-reverse}
use Rattle.sgml_entity.specs.Stack.{moved}
use Rattle.sgml_dtd.specs.Doctypes.{Doctype}
use Rattle.sgml_theory_spelling.specs.theory_reading.Names.{Name, Text}
use Rattle.sgml_theory_spelling.specs.theory_reading.Pieces.{Piece, Kind, Start, End, Finish, Specification, How}
use Rattle.sgml_theory_spelling.specs.theory_reading.Facets.{turn, border, declares, subset_named, stage_after, StaysInText, OpensText, NoBorder, AfterSubset}
use Rattle.sgml_theory_spelling.specs.theory_reading.Unread.{Outside, turned, opened_length}
use Rattle.sgml_theory_spelling.specs.theory_reading.Sections.{sections_after}
use Rattle.sgml_theory_spelling.specs.theory_reading.State.{State}
use Rattle.sgml_theory_spelling.specs.theory_reading.Characters.{kind_noted, piece_noted}
use Rattle.sgml_theory_spelling.specs.theory_reading.Reads.{length_of_first}
use Rattle.sgml_declared.specs.theory_standing.Kept.{Kept, given, kept_after}
use Rattle.sgml_declared.specs.theory_standing.Next.{after, text_after, IsThere, left_to_read}
use Rattle.sgml_prolog_steps.specs.Found.{rest_in, moved_on}
use Rattle.sgml_prolog_steps.proofs.Shared.{first-length, falls-places}
use Rattle.sgml_content_steps.specs.Standing.{IsInInstance}
use Rattle.sgml_content_steps.proofs.Told.{instance-moved}

pub record IsStill (x : Kind) : Type 0 where
  pub turn_is : turn x ≡ StaysInText
  pub border_is : border x ≡ NoBorder
  pub declares_none : (d : Doctype) → declares x d ≡ d
  pub names_none : subset_named x ≡ None
  pub noted : (s : State) → kind_noted s x ≡ x
  pub stage : stage_after x AfterSubset ≡ AfterSubset

pub start-still : (n : Name) (ss : List Specification) (how : How) (proper at_once : Bool) → IsStill (Start n ss how proper at_once)
unfolding turn border declares subset_named kind_noted stage_after
start-still n ss how proper at_once =
    record { turn_is = refl; border_is = refl; declares_none = λ d. refl; names_none = refl; noted = λ s. refl; stage = refl }

pub end-still : (n : Name) (how : How) → IsStill (End n how)
unfolding turn border declares subset_named kind_noted stage_after
end-still n how =
    record { turn_is = refl; border_is = refl; declares_none = λ d. refl; names_none = refl; noted = λ s. refl; stage = refl }

pub finish-still : IsStill Finish
unfolding turn border declares subset_named kind_noted stage_after
finish-still =
    record { turn_is = refl; border_is = refl; declares_none = λ d. refl; names_none = refl; noted = λ s. refl; stage = refl }

pub noted-still : (s : State) (p : Piece) → IsStill p.kind → piece_noted s p ≡ p
noted-still s p x = λ i. record { kind = x.noted s i; size = p.size; spent = p.spent }

-- FURTHER in the text at the top, where texts of this length together have been opened
abbrev pub read_on : ℕ → ℕ → Kept → Kept
read_on n spent k = record k { stack = record k.stack { spent = spent; places = moved n k.stack.places } }

add-none : (n : ℕ) → n + 0 ≡ n
add-none n = omega arith

pub after-still : (outside : Outside) (k : Kept) (p : Piece) → IsInInstance k → IsStill p.kind → after outside p k ≡ read_on p.size (k.stack.spent + p.spent) k
unfolding kept_after
after-still outside k p h x = λ i. record {
  doctype = x.declares_none k.doctype i;
  stack = record {
    levels = (ap (λ (d : Doctype). d.syntax.quantities.entlvl) (x.declares_none k.doctype) ∙ sym h.levels) i;
    expand = k.stack.expand;
    spent = (ap (λ t. k.stack.spent + (p.spent + opened_length (text_after outside p k) t)) x.turn_is ∙ ap (λ m. k.stack.spent + m) (add-none p.spent)) i;
    places = ap (λ t. turned t (moved p.size k.stack.places)) x.turn_is i;
  };
  sections = (ap (λ b. reverse (sections_after b (length k.stack.places) (reverse k.sections))) x.border_is ∙ reverse-reverse k.sections) i;
  stage = (ap (stage_after p.kind) h.stage ∙ (x.stage ∙ sym h.stage)) i;
  subset = ap (λ o. option_or o k.subset) x.names_none i;
}

-- where nothing was opened
pub after-sized : (outside : Outside) (k : Kept) (x : Kind) (n : ℕ) → IsInInstance k → IsStill x → after outside (record { kind = x; size = n; spent = 0 }) k ≡ moved_on n k
after-sized outside k x n h is =
    after-still outside k (record { kind = x; size = n; spent = 0 }) h is ∙ ap (λ m. read_on n m k) (add-none k.stack.spent)

-- the piece lies in the text at the top
no-turn : (n : ℕ) → StaysInText ≡ OpensText n → ⊥
no-turn n e = cc

none-some : {A : Type 0} (a : A) → None ≡ Some a → ⊥
none-some a e = cc

pub first-rest : (k : Kept) (texts : List (ℕ × Text)) → IsInInstance k → length_of_first (given k texts).rests ≡ length (rest_in k texts)
unfolding given
first-rest k texts h = first-length k.doctype.entities texts k.stack.places h.document

pub there-still : (outside : Outside) (k : Kept) (texts : List (ℕ × Text)) (p : Piece) → IsInInstance k → IsStill p.kind → p.size ≤ length (rest_in k texts)
    → IsThere outside k texts p
there-still outside k texts p h x l = record {
  within = subst (λ m. p.size ≤ m) (sym (first-rest k texts h)) l;
  opened = λ n e. absurd (no-turn n (sym x.turn_is ∙ e));
  subset = λ named text e g. absurd (none-some named (sym x.names_none ∙ e));
}

-- so the instance goes on, and less is left to read
pub instance-read : (n spent : ℕ) (k : Kept) → IsInInstance k → IsInInstance (read_on n spent k)
instance-read n spent k h =
    let i = instance-moved n k h in record {
      levels = i.levels;
      document = i.document;
      declared = i.declared;
      nested = i.nested;
      stage = i.stage;
      no_subset = i.no_subset;
      named = i.named;
    }

pub falls-read : (n spent : ℕ) (k : Kept) (texts : List (ℕ × Text)) → IsInInstance k → 0 < n → n ≤ length (rest_in k texts) → k.stack.spent ≤ spent
    → left_to_read (read_on n spent k) texts < left_to_read k texts
unfolding left_to_read given
falls-read n spent k texts h some within more =
    let f = falls-places k.doctype.entities texts n k.stack.expand spent k.stack.places h.document some within in
    omega (arith, f, more)
