-- The stack after lexemes that were read.
use Rattle.std.proofs.Common.{◌≡◌, ℕ, true, ◌+◌, ◌≤◌, List, [], ◌∷◌, Some, Ok, refl, sym, ap, ◌∙◌, subst, arith}
use Rattle.sgml_entity.specs.Stack.{Stack, moved, moved_to, offset_of}
use Rattle.sgml_text.specs.declared.place.Place.{Place}
use Rattle.sgml_decl_lexemes.specs.decl_parts.declared.part.Part.{Part}
use Rattle.sgml_decl_lexemes.specs.decl_parts.declared.part.Part.TheVariants as p
use Rattle.sgml_decl_lexemes.specs.decl_parts.Ends.{construct_end}
use Rattle.sgml_decl_lexemes.specs.declared.lexeme.Lexeme.{Lexeme}
use Rattle.sgml_decl_lexemes.specs.declared.fault.Reached.{Reached}
use Rattle.sgml_decl_lexemes.specs.declared.fault.Reached.TheVariants.{Opens, PutsText, PutsData, Fails}
use Rattle.sgml_decl_lexemes.specs.Sources.{Source}
use Rattle.sgml_decl_lexemes.specs.Readings.{State, ahead, after, referred, reached_from, closes}
use Rattle.sgml_decl_lexemes.specs.Declares.{Asked, Own, Whole, Growing, Bad, own, source, is_asked, is_closed, state, ReadsParts, HasLexemes, StandsAtStart, Answers, AnswersBy, rest, end_by, end_offset}
use Rattle.sgml_decl_lexemes.proofs.Going.{goes-on-top}
use Rattle.sgml_decl_lexemes.proofs.Reaching.{goes-of, so-far}
use Rattle.sgml_decl_lexemes.proofs.Running.{begins-of}

-- THE SUM of what was opened never falls

referred-spent : (I : Source) (m : ℕ) (t : State) (r : Reached) → t.stack.spent ≤ (referred I m t r).stack.spent
referred-spent I m t (Opens n k) = omega arith
referred-spent I m t (PutsText n) = omega arith
referred-spent I m t (PutsData n) = omega arith
referred-spent I m t (Fails fault) = omega arith

after-spent : (I : Source) (bytes : List ℕ) (q : Part) (t : State) → t.stack.spent ≤ (after I bytes q t).stack.spent
after-spent I bytes (p.Gap n) t = omega arith
after-spent I bytes (p.Name n) t = omega arith
after-spent I bytes (p.Token n) t = omega arith
after-spent I bytes (p.Reserved n) t = omega arith
after-spent I bytes (p.Sign d) t = omega arith
after-spent I bytes (p.Quote b) t = omega arith
after-spent I bytes p.EndQuote t = omega arith
after-spent I bytes (p.Data n) t = omega arith
after-spent I bytes (p.Char n u) t = omega arith
after-spent I bytes (p.NoChar n) t = omega arith
after-spent I bytes (p.Refer n m) t = referred-spent I m t (reached_from I bytes t n)
after-spent I bytes p.TextEnd t = omega arith
after-spent I bytes p.Closing t = omega arith

state-spent : (I : Source) (s : Stack) (ps : List Part) → s.spent ≤ (state I s ps).stack.spent
state-spent I s [] = omega arith
state-spent I s (q ∷ ps) =
    let one = state-spent I s ps in
    let two = after-spent I (ahead I (state I s ps)) q (state I s ps) in
    omega (arith, one, two)

-- THE STACK is the same but for its places and that sum
pub record IsSummed (s t : Stack) : Type 0 where
  pub levels : t.levels ≡ s.levels
  pub expand : t.expand ≡ s.expand
  pub spent : s.spent ≤ t.spent

parts-over : (I : Source) (s : Stack) (ps : List Part) → StandsAtStart I s → ReadsParts I s ps → is_closed I.construct ps ≡ true → IsSummed s (state I s ps).stack
parts-over I s [] b h whole = cc whole
parts-over I s (q ∷ ps) b h whole =
    let so = so-far I s b ps h.0 h.1 in
    let top = goes-on-top I s (state I s ps) (state I s (q ∷ ps)) (closes I.construct q) so.height_is so.on_top (goes-of I (state I s ps) q h.2) in
    record { levels = top.levels_are; expand = top.expand_is; spent = state-spent I s (q ∷ ps) }

read-over : (I : Source) (s t : Stack) (ds : List Lexeme) → StandsAtStart I s → HasLexemes I s ds t → IsSummed s t
read-over I s t ds b h = subst (IsSummed s) (sym h.stack_is) (parts-over I s h.parts b h.reads h.whole)

over-by : (q : Asked) (o : Own) (ds : List Lexeme) (t : Stack) → is_asked q ≡ true → own q ≡ o → AnswersBy q o (Ok ds) t → IsSummed q.stack t
over-by q (Whole w) ds t begun is h = read-over (source q w) q.stack t ds (begins-of q w begun is) h
over-by q Growing ds t begun is h = cc h.0
over-by q (Bad why) ds t begun is h = cc h.0

pub over : (q : Asked) (ds : List Lexeme) (t : Stack) → is_asked q ≡ true → Answers q (Ok ds) t → IsSummed q.stack t
over q ds t begun h = over-by q (own q) ds t begun refl h

-- and the place stands after so many bytes
moved-as : (n : ℕ) (ps : List Place) → moved_to (offset_of ps + n) ps ≡ moved n ps
moved-as n [] = refl
moved-as n (q ∷ ps) = refl

pub after-bytes : (q : Asked) (n : ℕ) → construct_end q.syntax.names q.construct (rest q) ≡ Some n → moved_to (end_offset q) q.stack.places ≡ moved n q.stack.places
after-bytes q n e = ap (λ o. moved_to (end_by (offset_of q.stack.places) o) q.stack.places) e ∙ moved-as n q.stack.places

same-stack : (x y : Stack) → x.levels ≡ y.levels → x.expand ≡ y.expand → x.spent ≡ y.spent → x.places ≡ y.places → x ≡ y
same-stack x y a b c d =
    ap (λ (n : ℕ). record x { levels = n }) a
    ∙ ap (λ (n : ℕ). record x { levels = y.levels; expand = n }) b
    ∙ ap (λ (n : ℕ). record x { levels = y.levels; expand = y.expand; spent = n }) c
    ∙ ap (λ (n : List Place). record y { places = n }) d

pub moved-on : (s t : Stack) (n : ℕ) → IsSummed s t → t.places ≡ moved n s.places → t ≡ record s { spent = t.spent; places = moved n s.places }
moved-on s t n h e = same-stack t (record s { spent = t.spent; places = moved n s.places }) h.levels h.expand refl e
