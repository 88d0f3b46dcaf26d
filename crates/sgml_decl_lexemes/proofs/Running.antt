-- What is asked has the answer that reading on gives.
use Rattle.std.proofs.Common.{◌≡◌, ℕ, zero, suc, ◌<◌, ◌≤◌, Bool, true, false, List, [], ◌∷◌, Result, Ok, Err, refl, sym, ◌∙◌, ap, subst, arith}
use Rattle.sgml_entity.specs.Stack.{Stack}
use Rattle.sgml_decl_parts.specs.declared.part.Part.{Part}
use Rattle.sgml_decl_lexemes.specs.declared.lexeme.Lexeme.{Lexeme}
use Rattle.sgml_decl_lexemes.specs.declared.fault.Fault.{Fault}
use Rattle.sgml_decl_lexemes.specs.declared.fault.Fault.TheVariants.{Wanting, Refusing}
use Rattle.sgml_decl_lexemes.specs.declared.fault.LexError.{LexError}
use Rattle.sgml_decl_lexemes.specs.Sources.{Source}
use Rattle.sgml_decl_lexemes.specs.Readings.{State, next_part, closes, start}
use Rattle.sgml_decl_lexemes.specs.Declares.{StandsAtStart, state, is_closed, ReadsParts, IsRead, Asked, Own, Whole, Growing, Bad, own, source, is_asked, AnswersBy, Answers}
use Rattle.sgml_decl_lexemes.specs.Reads.{left, unless_end, with_part, read_on, read_all, answered, answer_by, answer, AnswerIs, ReadIs}
use Rattle.sgml_decl_lexemes.proofs.Going.{goes-less}
use Rattle.sgml_decl_lexemes.proofs.Ending.{own-quote, begun-some}
use Rattle.sgml_decl_lexemes.proofs.OneReading.{one_answer, one_is_read}
use Rattle.sgml_decl_lexemes.proofs.Reaching.{so-far, goes-of}

abbrev Shown : Source → Stack → Result State Fault → Type 0
Shown I s r = IsRead I s (answered s r).0 (answered s r).1

-- why it goes no further
fault-shown : (I : Source) (s : Stack) (ps : List Part) (fault : Fault) → ReadsParts I s ps → is_closed I.construct ps ≡ false → next_part I (state I s ps) ≡ Err fault → Shown I s (Err fault)
fault-shown I s ps (Wanting n) h k is = (record { parts = ps; reads = h; unfinished = k; fault_is = is }, refl)
fault-shown I s ps (Refusing r) h k is = (record { parts = ps; reads = h; unfinished = k; fault_is = is }, refl)

part-shown : (I : Source) (s : Stack) (ps : List Part) (part : Part) (n : ℕ) (done : Bool) → ReadsParts I s ps → is_closed I.construct ps ≡ false → next_part I (state I s ps) ≡ Ok part → closes I.construct part ≡ done
    → (closes I.construct part ≡ false → Shown I s (read_on n I (state I s (part ∷ ps)))) → Shown I s (unless_end done (λ u. read_on n I u) (state I s (part ∷ ps)))
part-shown I s ps part n true h k is done again = record { parts = part ∷ ps; reads = (h, k, is); whole = done; lexemes_are = refl; stack_is = refl }
part-shown I s ps part n false h k is done again = again done

next-shown : (I : Source) (s : Stack) (ps : List Part) (n : ℕ) (r : Result Part Fault) → ReadsParts I s ps → is_closed I.construct ps ≡ false → next_part I (state I s ps) ≡ r
    → ((part : Part) → next_part I (state I s ps) ≡ Ok part → closes I.construct part ≡ false → Shown I s (read_on n I (state I s (part ∷ ps))))
    → Shown I s (with_part I (state I s ps) (λ u. read_on n I u) r)
next-shown I s ps n (Err fault) h k is again = fault-shown I s ps fault h k is
next-shown I s ps n (Ok part) h k is again = part-shown I s ps part n (closes I.construct part) h k is refl (again part is)

pub less-left : (I : Source) (s : Stack) → StandsAtStart I s → (ps : List Part) (part : Part) → ReadsParts I s ps → is_closed I.construct ps ≡ false → next_part I (state I s ps) ≡ Ok part
    → left I (state I s (part ∷ ps)).stack < left I (state I s ps).stack
less-left I s b ps part h k is =
    let before = so-far I s b ps h k in
    goes-less I s (state I s ps) (state I s (part ∷ ps)) (closes I.construct part) before.height_is before.on_top (goes-of I (state I s ps) part is)

run : (I : Source) (s : Stack) → StandsAtStart I s → (n : ℕ) (ps : List Part) → ReadsParts I s ps → is_closed I.construct ps ≡ false → left I (state I s ps).stack ≤ n → Shown I s (read_on (suc n) I (state I s ps))
run I s b zero ps h k few =
    next-shown I s ps zero (next_part I (state I s ps)) h k refl
    (λ part is other. absurd (omega (arith, few, less-left I s b ps part h k is)))
run I s b (suc n) ps h k few =
    next-shown I s ps (suc n) (next_part I (state I s ps)) h k refl
    (λ part is other. run I s b n (part ∷ ps) (h, k, is) other (omega (arith, few, less-left I s b ps part h k is)))

all-shown : (I : Source) (s : Stack) → StandsAtStart I s → Shown I s (read_all I s)
unfolding read_all
all-shown I s b = run I s b (left I (start I s).stack) [] tt refl (omega arith)

pub begins-of : (q : Asked) (o : List ℕ) → is_asked q ≡ true → own q ≡ Whole o → StandsAtStart (source q o) q.stack
begins-of q o begun is = record {
  some = begun-some q.construct q.entities q.texts q.stack.places begun;
  height = refl;
  quote = own-quote q o (source q o) (sym is) refl begun;
}

answered-by : (q : Asked) (o : Own) → is_asked q ≡ true → own q ≡ o → AnswersBy q o (answer_by q o).0 (answer_by q o).1
answered-by q (Whole o) begun is = all-shown (source q o) q.stack (begins-of q o begun is)
answered-by q Growing begun is = (refl, refl)
answered-by q (Bad why) begun is = (refl, refl)

answers : (q : Asked) → is_asked q ≡ true → Answers q (answer q).0 (answer q).1
answers q begun = answered-by q (own q) begun refl

pub answer_is : AnswerIs
answer_is q begun a after = (there, back)
  where
    there : Answers q a after → answer q ≡ (a, after)
    there h =
        let same = one_answer q (answer q).0 a (answer q).1 after (answers q begun) h in
        ap (λ (x : Result (List Lexeme) LexError). (x, (answer q).1)) same.0 ∙ ap (λ (x : Stack). (a, x)) same.1

    back : answer q ≡ (a, after) → Answers q a after
    back e = subst (λ (x : Result (List Lexeme) LexError × Stack). Answers q x.0 x.1) e (answers q begun)

pub read_is : ReadIs
read_is I s begun a after = (there, back)
  where
    there : IsRead I s a after → answered s (read_all I s) ≡ (a, after)
    there h =
        let shown = answered s (read_all I s) in
        let same = one_is_read I s shown.0 a shown.1 after (all-shown I s begun) h in
        ap (λ (x : Result (List Lexeme) LexError). (x, shown.1)) same.0 ∙ ap (λ (x : Stack). (a, x)) same.1

    back : answered s (read_all I s) ≡ (a, after) → IsRead I s a after
    back e = subst (λ (x : Result (List Lexeme) LexError × Stack). IsRead I s x.0 x.1) e (all-shown I s begun)
