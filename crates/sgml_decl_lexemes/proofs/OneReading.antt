-- Of two lists of parts that are read to an end, both are one; so there is one answer.
use Rattle.std.proofs.Common.{◌≡◌, ◌≤◌, ℕ, zero, suc, Bool, true, false, List, [], ◌∷◌, length, Result, Ok, Err, refl, sym, ap, ◌∙◌, arith, inl, inr, ◌⊎◌}
use Rattle.sgml_entity.specs.Stack.{Stack}
use Rattle.sgml_decl_parts.specs.declared.part.Part.{Part}
use Rattle.sgml_decl_lexemes.specs.declared.lexeme.Lexeme.{Lexeme}
use Rattle.sgml_decl_lexemes.specs.declared.fault.Fault.{Fault}
use Rattle.sgml_decl_lexemes.specs.declared.fault.Fault.TheVariants.{Wanting, Refusing}
use Rattle.sgml_decl_lexemes.specs.declared.fault.LexError.{LexError}
use Rattle.sgml_decl_lexemes.specs.declared.fault.LexError.TheVariants.{Refused, Wanted, NeedMore, Memory}
use Rattle.sgml_decl_lexemes.specs.Sources.{Source}
use Rattle.sgml_decl_lexemes.specs.Readings.{next_part, error_of}
use Rattle.sgml_decl_lexemes.specs.Declares.{state, is_closed, ReadsParts, HasLexemes, StopsBy, IsRead, Asked, Own, Whole, Growing, Bad, own, source, AnswersBy, OneAnswer}

same_length : (I : Source) (s : Stack) (ps qs : List Part) → ReadsParts I s ps → ReadsParts I s qs → length ps ≡ length qs → ps ≡ qs
same_length I s [] [] h k e = refl
same_length I s [] (q ∷ qs) h k e = absurd (omega (arith, e))
same_length I s (p ∷ ps) [] h k e = absurd (omega (arith, e))
same_length I s (p ∷ ps) (q ∷ qs) h k e =
    let tails : ps ≡ qs = same_length I s ps qs h.0 k.0 (omega (arith, e)) in
    let read : Result Part Fault = Ok p in
    let heads : read ≡ Ok q = sym h.2 ∙ ap (λ (r : List Part). next_part I (state I s r)) tails ∙ k.2 in
    let first : p ≡ q = cc heads in
    ap (λ v. v ∷ ps) first ∙ ap (λ v. q ∷ v) tails

-- no part may come
abbrev Ended : Source → Stack → List Part → Type 0
Ended I s ps = (p : Part) → is_closed I.construct ps ≡ false → next_part I (state I s ps) ≡ Ok p → ⊥

le_cases : (m n : ℕ) → m ≤ n → (m ≡ n) ⊎ (suc m ≤ n)
le_cases zero zero h = inl refl
le_cases zero (suc n) h = inr (omega arith)
le_cases (suc m) zero h = absurd (omega (arith, h))
le_cases (suc m) (suc n) h =
    elim (le_cases m n (omega (arith, h))) [ inl e ↦ inl (ap suc e) | inr lt ↦ inr (omega (arith, lt)) ]

no_longer : (I : Source) (s : Stack) (ps : List Part) → ReadsParts I s ps → Ended I s ps → (qs : List Part) → ReadsParts I s qs → length qs ≤ length ps
no_longer I s ps h ended [] k = omega arith
no_longer I s ps h ended (q ∷ qs) k =
    let before : length qs ≤ length ps = no_longer I s ps h ended qs k.0 in
    elim (le_cases _ _ before) [
      | inl e ↦ (let same : qs ≡ ps = same_length I s qs ps k.0 h e in absurd (ended q (sym (ap (is_closed I.construct) same) ∙ k.1) (sym (ap (λ (r : List Part). next_part I (state I s r)) same) ∙ k.2)))
      | inr lt ↦ lt
    ]

one_list : (I : Source) (s : Stack) (ps qs : List Part) → ReadsParts I s ps → ReadsParts I s qs → Ended I s ps → Ended I s qs → ps ≡ qs
one_list I s ps qs h k e f = same_length I s ps qs h k (let a : length qs ≤ length ps = no_longer I s ps h e qs k in let b : length ps ≤ length qs = no_longer I s qs k f ps h in omega arith)

-- the answer that a list of parts gives
answer_by : Source → Stack → List Part → Bool → Result Part Fault → Result (List Lexeme) LexError
answer_by I s ps true r = Ok (state I s ps).reading.lexemes
answer_by I s ps false (Err fault) = Err (error_of fault)
answer_by I s ps false (Ok p) = Err NeedMore

stack_by : Source → Stack → List Part → Bool → Stack
stack_by I s ps true = (state I s ps).stack
stack_by I s ps false = s

answer_of : Source → Stack → List Part → Result (List Lexeme) LexError
answer_of I s ps = answer_by I s ps (is_closed I.construct ps) (next_part I (state I s ps))

stack_of : Source → Stack → List Part → Stack
stack_of I s ps = stack_by I s ps (is_closed I.construct ps)

record Read (I : Source) (s : Stack) (a : Result (List Lexeme) LexError) (after : Stack) : Type 0 where
  parts : List Part
  reads : ReadsParts I s parts
  ended : Ended I s parts
  answer_is : a ≡ answer_of I s parts
  stack_is : after ≡ stack_of I s parts

closed_ends : (I : Source) (s : Stack) (ps : List Part) → is_closed I.construct ps ≡ true → Ended I s ps
closed_ends I s ps h p k n = cc (h, k)

fault_ends : (I : Source) (s : Stack) (ps : List Part) (f : Fault) → next_part I (state I s ps) ≡ Err f → Ended I s ps
fault_ends I s ps f h p k n = cc (h, n)

of_declared : (I : Source) (s : Stack) (ds : List Lexeme) (after : Stack) → HasLexemes I s ds after → Read I s (Ok ds) after
unfolding answer_by answer_of stack_by stack_of
of_declared I s ds after d = record {
  parts = d.parts;
  reads = d.reads;
  ended = closed_ends I s d.parts d.whole;
  answer_is = rw d.whole (ap Ok d.lexemes_are);
  stack_is = rw d.whole d.stack_is;
}

of_stop : (I : Source) (s : Stack) (f : Fault) (after : Stack) → StopsBy I s f → after ≡ s → Read I s (Err (error_of f)) after
unfolding answer_by answer_of stack_by stack_of
of_stop I s f after d same = record {
  parts = d.parts;
  reads = d.reads;
  ended = fault_ends I s d.parts f d.fault_is;
  answer_is = rw (d.unfinished, d.fault_is) refl;
  stack_is = rw d.unfinished same;
}

read_of : (I : Source) (s : Stack) (a : Result (List Lexeme) LexError) (after : Stack) → IsRead I s a after → Read I s a after
read_of I s (Ok ds) after d = of_declared I s ds after d
read_of I s (Err (Wanted n)) after d = of_stop I s (Wanting n) after d.0 d.1
read_of I s (Err (Refused r)) after d = of_stop I s (Refusing r) after d.0 d.1
read_of I s (Err NeedMore) after d = absurd d
read_of I s (Err Memory) after d = absurd d

one_read : (I : Source) (s : Stack) (a b : Result (List Lexeme) LexError) (x y : Stack) → Read I s a x → Read I s b y → (a ≡ b) × (x ≡ y)
one_read I s a b x y d e =
    let parts : d.parts ≡ e.parts = one_list I s d.parts e.parts d.reads e.reads d.ended e.ended in
    (d.answer_is ∙ ap (answer_of I s) parts ∙ sym e.answer_is, d.stack_is ∙ ap (stack_of I s) parts ∙ sym e.stack_is)

pub one_is_read : (I : Source) (s : Stack) (a b : Result (List Lexeme) LexError) (x y : Stack) → IsRead I s a x → IsRead I s b y → (a ≡ b) × (x ≡ y)
one_is_read I s a b x y d e = one_read I s a b x y (read_of I s a x d) (read_of I s b y e)

one_by : (q : Asked) (o : Own) (a b : Result (List Lexeme) LexError) (x y : Stack) → AnswersBy q o a x → AnswersBy q o b y → (a ≡ b) × (x ≡ y)
one_by q (Whole text) a b x y d e = one_read (source q text) q.stack a b x y (read_of (source q text) q.stack a x d) (read_of (source q text) q.stack b y e)
one_by q Growing a b x y d e = (d.0 ∙ sym e.0, d.1 ∙ sym e.1)
one_by q (Bad why) a b x y d e = (d.0 ∙ sym e.0, d.1 ∙ sym e.1)

pub one_answer : OneAnswer
one_answer q a b x y d e = one_by q (own q) a b x y d e
