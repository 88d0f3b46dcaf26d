-- What `sgml_decl_lexemes` is asked with shows what is unread.
use Rattle.std.proofs.Common.{◌≡◌, ◌≤◌, ◌<◌, ◌==◌, ◌+◌, ℕ, zero, suc, Bool, true, false, List, [], ◌∷◌, ◌++◌, length, take, drop, None, Some, Ok, Err, map, refl, sym, ap, ◌∙◌, subst, arith, eqb-true, eq-eqb, if◌then◌else◌}
use Rattle.std.proofs.lemmas.List.{take-append-le}
use Rattle.sgml_scan.specs.text.declared.place.Place.{Place}
use Rattle.sgml_scan.specs.text.declared.reason.Reason.{Reason}
use Rattle.sgml_theory_reading.specs.entity.declared.kinds.Entity.{Entity}
use Rattle.sgml_theory_reading.specs.entity.Stack.{place_at, offset_of}
use Rattle.sgml_theory_reading.specs.entity.Texts.{text_of}
use Rattle.sgml_scan.specs.text.Characters.{all_sgml}
use Rattle.sgml_theory_reading.specs.decl_parts.Ends.{construct_end}
use Rattle.sgml_theory_reading.proofs.decl_parts.Continuing.{end_within}
use Rattle.sgml_theory_reading.specs.decl_lexemes.declared.fault.LexError.TheVariants.{Wanted, Refused}
use Rattle.sgml_theory_reading.specs.decl_lexemes.Sources.{Source, without, text_at, or_empty, unread}
use Rattle.sgml_theory_reading.specs.decl_lexemes.Readings.{entity_of}
use Rattle.sgml_theory_reading.specs.decl_lexemes.Declares.{Asked, Own, Whole, Bad, rest, own_by, own, source, is_asked, may_grow, Answers, AnswersBy, HasLexemes, StopsBy}
use Rattle.sgml_theory_reading.specs.decl_lexemes.Declares as declares
use Rattle.sgml_theory_reading.proofs.decl_lexemes.Texts.{without-same, without-other}
use Rattle.sgml_theory_reading.proofs.decl_lexemes.Running.{begins-of}
use Rattle.sgml_theory_reading.specs.dtd.Doctypes.{Doctype}
use Rattle.sgml_theory_reading.specs.Unread.{Outside, Rest, Standing}
use Rattle.sgml_theory_reading.specs.Reads.{more_of}
use Rattle.sgml_theory_spelling.specs.Stacked.{stacked}
use Rattle.sgml_theory_reading.specs.decl_lexemes.Alike.{AreAlike, StacksAlike, Extends}
use Rattle.sgml_theory_reading.specs.decl_lexemes.Wholeness.{reaches_by}
use Rattle.sgml_theory_spelling.specs.Texts.{texts_of, stack_of, source_of}
use Rattle.sgml_theory_spelling.specs.Asked.{ArePlacesOf, ShowsUnread, front, AskedIsSpelled}
use Rattle.sgml_theory_spelling.proofs.Bridge.{read-is-lexed, refused-is-lexed, refused-is-whole, wanted-is-lexed}

-- the texts but one are among all of them

none-some : {A : Type 0} (x : List ℕ) → None ≡ Some x → A
none-some x e = absurd (never e)
  where
    never : None ≡ Some x → ⊥
    never e = cc

among-by : (e n : ℕ) (ts : List (ℕ × List ℕ)) (x : List ℕ) (same : Bool) → (n == e) ≡ same → text_of (without e ts) n ≡ Some x → text_of ts n ≡ Some x
among-by e n ts x true is h = none-some x (sym (without-same e ts) ∙ (ap (text_of (without e ts)) (sym (eqb-true n e is)) ∙ h))
among-by e n ts x false is h = sym (without-other e n ts (λ same. cc (is, eq-eqb n e same))) ∙ h

among : (e n : ℕ) (ts : List (ℕ × List ℕ)) (x : List ℕ) → text_of (without e ts) n ≡ Some x → text_of ts n ≡ Some x
among e n ts x h = among-by e n ts x (n == e) refl h

extends : (q : Asked) (outside : Outside) (d : Doctype) (t : Standing) (more one other : List ℕ) → ShowsUnread q outside d t more → length q.stack.places ≡ length t.rests
    → Extends (source q one) (source_of q.construct outside d (stacked t) other)
unfolding source_of
extends q outside d t more one other s l = record {
  construct = refl;
  syntax = s.syntax;
  entities = s.entities;
  height = l ∙ counted t.rests;
  texts = λ n x g h. ap (λ es. text_of (texts_of outside es) n) (sym s.entities) ∙ s.given n x g (among (entity_of q.stack.places) n q.texts x h);
}
  where
    counted : (rs : List Rest) → length rs ≡ length (map (λ (r : Rest). r.entity) rs)
    counted [] = refl
    counted (r ∷ rs) = ap suc (counted rs)

places-length : (es : List Entity) (texts : List (ℕ × List ℕ)) (more : List ℕ) (ps : List Place) (rs : List Rest) → ArePlacesOf es texts more ps rs → length ps ≡ length rs
places-length es texts more [] [] a = refl
places-length es texts more (p ∷ ps) (r ∷ rs) a = ap suc (places-length es texts more ps rs a.2)
places-length es texts more [] (r ∷ rs) a = absurd a
places-length es texts more (p ∷ ps) [] a = absurd a

-- its own text

nil : List ℕ
nil = []

take-none : (n : ℕ) → take n nil ≡ nil
unfolding nil
take-none zero = refl
take-none (suc n) = refl

drop-take : (at n : ℕ) (text : List ℕ) → drop at (take (at + n) text) ≡ take n (drop at text)
unfolding nil
drop-take zero n text = let e : 0 + n ≡ n = omega arith in ap (λ k. take k text) e
drop-take (suc at) n [] = let e : suc at + n ≡ suc (at + n) = omega arith in ap (λ k. drop (suc at) (take k nil)) e ∙ sym (take-none n)
drop-take (suc at) n (b ∷ text) = let e : suc at + n ≡ suc (at + n) = omega arith in ap (λ k. drop (suc at) (take k (b ∷ text))) e ∙ drop-take at n text

front-by : (n : ℕ) (more bytes : List ℕ) (is_document : Bool) → n ≤ length bytes → take n (if is_document then bytes ++ more else bytes) ≡ take n bytes
front-by n more bytes true l = take-append-le n bytes more l
front-by n more bytes false l = refl

front-more : (n number : ℕ) (more bytes : List ℕ) → n ≤ length bytes → take n (more_of more number bytes) ≡ take n bytes
front-more n number more bytes l = front-by n more bytes (number == 0) l

-- below its own text nothing is read
below : (I J : Source) (es : List Entity) (texts : List (ℕ × List ℕ)) (more : List ℕ) (ps : List Place) (rs : List Rest) → length ps < I.height → ArePlacesOf es texts more ps rs
    → AreAlike I J ps (map (λ n. place_at n 0) (map (λ (r : Rest). r.entity) rs))
below I J es texts more [] [] l a = tt
below I J es texts more (p ∷ ps) (r ∷ rs) l a = (a.0, λ h. absurd (omega (arith, l, h)), below I J es texts more ps rs (omega (arith, l)) a.2)
below I J es texts more [] (r ∷ rs) l a = absurd a
below I J es texts more (p ∷ ps) [] l a = absurd a

own-text : (I : Source) (p : Place) (ps : List Place) → I.height ≡ suc (length ps) → unread I (p ∷ ps) ≡ drop p.at I.own
own-text I p ps e = ap (λ b. drop p.at (if b then I.own else or_empty (text_at I.entities I.texts p.entity))) (eq-eqb (suc (length ps)) I.height (sym e))

top : (I J : Source) (es : List Entity) (texts : List (ℕ × List ℕ)) (more text : List ℕ) (n : ℕ) (p : Place) (ps : List Place) (r : Rest) (rs : List Rest)
    → I.height ≡ suc (length ps) → J.height ≡ suc (length rs) → text ≡ or_empty (text_at es texts p.entity) → I.own ≡ take (p.at + n) text → J.own ≡ take n r.bytes → n ≤ length (drop p.at text)
    → ArePlacesOf es texts more (p ∷ ps) (r ∷ rs) → AreAlike I J (p ∷ ps) (map (λ n. place_at n 0) (map (λ (r : Rest). r.entity) (r ∷ rs)))
top I J es texts more text n p ps r rs hi hj is one other few a = (
  a.0,
  λ h. own-text I p ps hi
      ∙ (ap (drop p.at) one
      ∙ (drop-take p.at n text
      ∙ (sym (front-more n r.entity more (drop p.at text) few)
      ∙ (ap (λ xs. take n (more_of more r.entity (drop p.at xs))) is
      ∙ (sym (ap (take n) a.1)
      ∙ (sym other ∙ sym (own-text J (place_at r.entity 0) (map (λ n. place_at n 0) (map (λ (r : Rest). r.entity) rs)) (hj ∙ ap suc (counted rs))))))))),
  below I J es texts more ps rs (omega (arith, hi)) a.2,
)
  where
    counted : (rs : List Rest) → length rs ≡ length (map (λ n. place_at n 0) (map (λ (r : Rest). r.entity) rs))
    counted [] = refl
    counted (r ∷ rs) = ap suc (counted rs)

-- all of them
alike : (q : Asked) (outside : Outside) (d : Doctype) (t : Standing) (more : List ℕ) (n : ℕ) (ps : List Place) (rs : List Rest) → q.stack.places ≡ ps → t.rests ≡ rs → 0 < length ps
    → ShowsUnread q outside d t more → ArePlacesOf q.entities q.texts more ps rs → n ≤ length (drop (offset_of ps) (or_empty (text_at q.entities q.texts (entity_of ps))))
    → AreAlike (source q (take (offset_of ps + n) (or_empty (text_at q.entities q.texts (entity_of ps))))) (source_of q.construct outside d (stacked t) (front n rs))
    ps (map (λ n. place_at n 0) (map (λ (r : Rest). r.entity) rs))
unfolding source_of
alike q outside d t more n [] rs pe re some s a few = absurd (omega (arith, some))
alike q outside d t more n (p ∷ ps) [] pe re some s a few = absurd a
alike q outside d t more n (p ∷ ps) (r ∷ rs) pe re some s a few =
    let text = or_empty (text_at q.entities q.texts p.entity) in
    top (source q (take (p.at + n) text)) (source_of q.construct outside d (stacked t) (take n r.bytes)) q.entities q.texts more text n p ps r rs
    (ap length pe) (ap (λ xs. length (map (λ (z : Rest). z.entity) xs)) re ∙ ap suc (sym (counted rs))) refl refl refl few a
  where
    counted : (rs : List Rest) → length rs ≡ length (map (λ (r : Rest). r.entity) rs)
    counted [] = refl
    counted (r ∷ rs) = ap suc (counted rs)

stacks : (q : Asked) (outside : Outside) (d : Doctype) (t : Standing) (more : List ℕ) (n : ℕ) → ShowsUnread q outside d t more → 0 < length q.stack.places → n ≤ length (rest q)
    → StacksAlike (source q (take (offset_of q.stack.places + n) (declares.text q))) (source_of q.construct outside d (stacked t) (front n t.rests)) q.stack (stack_of outside d (stacked t))
unfolding stack_of
stacks q outside d t more n s some few = record {
  levels = s.levels;
  expand = s.expand;
  spent = s.spent;
  places = alike q outside d t more n q.stack.places t.rests refl refl some s s.places few;
}

own-is : (q : Asked) (n : ℕ) → construct_end q.syntax.names q.construct (rest q) ≡ Some n → all_sgml (take n (rest q)) ≡ true → own q ≡ Whole (take (offset_of q.stack.places + n) (declares.text q))
own-is q n e g =
    ap (own_by q.syntax.names (may_grow q) (offset_of q.stack.places) (declares.text q)) e
    ∙ ap (λ b. if b then Whole (take (offset_of q.stack.places + n) (declares.text q)) else Bad Rattle.sgml_scan.specs.text.declared.reason.Reason.TheVariants.NonSgml) g

-- WHAT IS ASKED IS ANSWERED AS IT IS SPELLED
pub asked-is-spelled : AskedIsSpelled
asked-is-spelled q outside d t more n s begun e g =
    let text = take (offset_of q.stack.places + n) (declares.text q) in
    let end = end_within q.syntax.names q.construct (rest q) n e in
    let few : n ≤ length (rest q) = end.few in
    let is = own-is q n e g in
    let begins = begins-of q text begun is in
    let some : 0 < length q.stack.places = begins.some in
    let x = extends q outside d t more text (front n t.rests) s (places-length q.entities q.texts more q.stack.places t.rests s.places) in
    let a = stacks q outside d t more n s some few in
    record {
      lexemes = λ ds after h. read-is-lexed q.construct outside d (stacked t) (front n t.rests) (source q text) q.stack ds after x a some refl begins.quote (subst (λ o. AnswersBy q o (Ok ds) after) is h);
      refusal = λ r after h. refused-is-lexed q.construct outside d (stacked t) (front n t.rests) (source q text) q.stack r x a some refl begins.quote (subst (λ o. AnswersBy q o (Err (Refused r)) after) is h).0;
      whole = λ r after declares h. refused-is-whole q.construct outside d (stacked t) (front n t.rests) (source q text) q.stack r declares x a some refl begins.quote (subst (λ o. AnswersBy q o (Err (Refused r)) after) is h).0
          ∙ sym (ap (reaches_by q) is);
      wants = λ m after h lacks. wanted-is-lexed q.construct outside d (stacked t) (front n t.rests) (source q text) q.stack m x a some refl begins.quote
          (ap (λ es. text_of (texts_of outside es) m) (sym s.entities) ∙ lacks) (subst (λ o. AnswersBy q o (Err (Wanted m)) after) is h).0;
    }
