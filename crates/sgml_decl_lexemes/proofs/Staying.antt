-- What is decided stays, whatever follows in the text in which it stands.
use Rattle.std.proofs.Common.{◌≡◌, ℕ, ◌+◌, ◌-◌, ◌≤◌, Bool, true, false, List, [], ◌∷◌, ◌++◌, length, drop, take, Some, Result, refl, sym, ◌∙◌, ap, subst, if◌then◌else◌, ◌==◌, arith, eq-eqb}
use Rattle.std.proofs.lemmas.List.{drop-append-le, take-append-le, length-drop}
use Rattle.sgml_text.specs.declared.name_set.NameSet.{NameSet}
use Rattle.sgml_text.specs.declared.reason.Reason.TheVariants as reason
use Rattle.sgml_entity.specs.Stack.{Stack, offset_of}
use Rattle.sgml_entity.specs.Texts.{text_of, with_more}
use Rattle.sgml_text.specs.Characters.{all_sgml}
use Rattle.sgml_decl_parts.specs.Ends.{construct_end}
use Rattle.sgml_decl_parts.specs.declared.ends.Construct.{Construct}
use Rattle.sgml_decl_parts.proofs.Continuing.{end_stays, end_within}
use Rattle.sgml_decl_lexemes.specs.declared.lexeme.Lexeme.{Lexeme}
use Rattle.sgml_decl_lexemes.specs.declared.fault.LexError.{LexError}
use Rattle.sgml_decl_lexemes.specs.Sources.{Source, without, or_empty}
use Rattle.sgml_decl_lexemes.specs.Readings.{entity_of}
use Rattle.sgml_decl_lexemes.specs.Declares.{Asked, Own, Whole, Growing, Bad, IsRead, AnswersBy, text, may_grow, own_by, own, source, grown, DecidedStays}

more_by : (e : ℕ) (more : List ℕ) (t : ℕ × List ℕ) (ts : List (ℕ × List ℕ)) (b : Bool) → (e == t.0) ≡ b
    → or_empty (text_of (with_more e more ts) e) ≡ or_empty (text_of ts e) ++ more
    → or_empty (text_of (with_more e more (t ∷ ts)) e) ≡ or_empty (text_of (t ∷ ts) e) ++ more
more_by e more t ts true is again = simp is
more_by e more t ts false is again = simp is again

text_more : (e : ℕ) (more : List ℕ) (ts : List (ℕ × List ℕ)) → or_empty (text_of (with_more e more ts) e) ≡ or_empty (text_of ts e) ++ more
text_more e more [] = rw (eq-eqb e e refl) refl
text_more e more (t ∷ ts) = more_by e more t ts (e == t.0) refl (text_more e more ts)

same_by : (e : ℕ) (more : List ℕ) (t : ℕ × List ℕ) (ts : List (ℕ × List ℕ)) (b : Bool) → (e == t.0) ≡ b
    → without e (with_more e more ts) ≡ without e ts → without e (with_more e more (t ∷ ts)) ≡ without e (t ∷ ts)
same_by e more t ts true is again = simp is
same_by e more t ts false is again = simp is (ap (λ (r : List (ℕ × List ℕ)). t ∷ r) again)

without_more : (e : ℕ) (more : List ℕ) (ts : List (ℕ × List ℕ)) → without e (with_more e more ts) ≡ without e ts
without_more e more [] = rw (eq-eqb e e refl) refl
without_more e more (t ∷ ts) = same_by e more t ts (e == t.0) refl (without_more e more ts)

own_some : (names : NameSet) (g h : Bool) (at n : ℕ) (t more : List ℕ) → at + n ≤ length t → own_by names g at (t ++ more) (Some n) ≡ own_by names h at t (Some n)
own_some names g h at n t more few =
    let low : at ≤ length t = omega arith in
    let size : length (drop at t) ≡ length t - at = length-drop at t in
    let rest_few : n ≤ length (drop at t) = omega arith in
    let bytes : take n (drop at (t ++ more)) ≡ take n (drop at t) = rw (drop-append-le at t more) (take-append-le n (drop at t) more rest_few) in
    let front : take (at + n) (t ++ more) ≡ take (at + n) t = take-append-le (at + n) t more few in
    ap (λ (x : List ℕ). if all_sgml x then Whole (take (at + n) (t ++ more)) else Bad reason.NonSgml) bytes
    ∙ ap (λ (x : List ℕ). if all_sgml (take n (drop at t)) then Whole x else Bad reason.NonSgml) front

same_own : (names : NameSet) (c : Construct) (g h : Bool) (at n : ℕ) (t more : List ℕ) → construct_end names c (drop at t) ≡ Some n
    → own_by names g at (t ++ more) (construct_end names c (drop at (t ++ more))) ≡ own_by names h at t (construct_end names c (drop at t))
same_own names c g h at n t more is =
    let end = end_within names c (drop at t) n is in
    let some : 1 ≤ n = end.some in
    let few : n ≤ length (drop at t) = end.few in
    let size : length (drop at t) ≡ length t - at = length-drop at t in
    let low : at ≤ length t = omega arith in
    let later : construct_end names c (drop at (t ++ more)) ≡ Some n = rw (drop-append-le at t more) (end_stays names c n (drop at t) more is) in
    ap (own_by names g at (t ++ more)) later ∙ own_some names g h at n t more (omega arith) ∙ ap (own_by names h at t) (sym is)

same_source : (q : Asked) (more : List ℕ) (ended : Bool) (o : List ℕ) → source (grown q more ended) o ≡ source q o
same_source q more ended o = ap (λ (ts : List (ℕ × List ℕ)). record (source q o) { texts = ts }) (without_more (entity_of q.stack.places) more q.texts)

answers_by : (q : Asked) (more : List ℕ) (ended : Bool) (o : Own) (a : Result (List Lexeme) LexError) (after : Stack) → AnswersBy q o a after → AnswersBy (grown q more ended) o a after
answers_by q more ended (Whole o) a after h = subst (λ (I : Source). IsRead I q.stack a after) (sym (same_source q more ended o)) h
answers_by q more ended Growing a after h = h
answers_by q more ended (Bad why) a after h = h

pub decided_stays : DecidedStays
decided_stays q n is inner more ended a after h =
    let e : ℕ = entity_of q.stack.places in
    let mine : text q ≡ or_empty (text_of q.texts e) = rw inner refl in
    let longer : text (grown q more ended) ≡ text q ++ more = rw inner (text_more e more q.texts) in
    let owns : own (grown q more ended) ≡ own q =
    ap (λ (t : List ℕ). own_by q.syntax.names (may_grow (grown q more ended)) (offset_of q.stack.places) t (construct_end q.syntax.names q.construct (drop (offset_of q.stack.places) t))) longer
    ∙ same_own q.syntax.names q.construct (may_grow (grown q more ended)) (may_grow q) (offset_of q.stack.places) n (text q) more is in
    subst (λ (o : Own). AnswersBy (grown q more ended) o a after) (sym owns) (answers_by q more ended (own q) a after h)
