-- A literal that is read leaves the same texts open below it.
use Rattle.std.proofs.Common.{◌≡◌, ◌<◌, ◌&&◌, ℕ, zero, suc, true, false, List, [], ◌∷◌, Option, Some, None, Result, Ok, Err, refl, sym, ap, ◌∙◌, subst, arith, length}
use Rattle.sgml_text.specs.Characters.{is_quote}
use Rattle.sgml_text.specs.declared.place.Place.{Place}
use Rattle.sgml_entity.specs.Stack.{Stack, lower, moved_to}
use Rattle.sgml_decl_lexemes.specs.decl_parts.declared.part.Part.{Part}
use Rattle.sgml_decl_lexemes.specs.declared.lexeme.Lexeme.{Lexeme}
use Rattle.sgml_decl_lexemes.specs.Sources.{Source}
use Rattle.sgml_decl_lexemes.specs.Readings.{OnTop}
use Rattle.sgml_decl_lexemes.specs.Declares.{Asked, Own, Whole, Growing, Bad, own, source, is_asked, state, is_closed, ReadsParts, HasLexemes, StandsAtStart, AnswersBy, Answers, AnswersError, is_some}
use Rattle.sgml_decl_lexemes.specs.declared.fault.LexError.{LexError}
use Rattle.sgml_decl_lexemes.specs.declared.fault.LexError.TheVariants as lex
use Rattle.sgml_decl_lexemes.specs.Reads.{answer}
use Rattle.sgml_decl_lexemes.proofs.Going.{goes-on-top}
use Rattle.sgml_decl_lexemes.proofs.Reaching.{goes-of, so-far}
use Rattle.sgml_decl_lexemes.proofs.Running.{begins-of, answer_is}
use Rattle.sgml_starts.specs.declared.error.StartError.{StartError}
use Rattle.sgml_starts.specs.declared.error.StartError.TheVariants as error
use Rattle.sgml_starts.specs.Specified.{error_of}
use Rattle.sgml_starts.specs.Read.{StandsAlike, AnswersSo, IsNoLiteral}

parts-on-top : (I : Source) (s : Stack) → StandsAtStart I s → (ps : List Part) → ReadsParts I s ps → is_closed I.construct ps ≡ true → OnTop s (state I s ps).stack
parts-on-top I s b [] h k = absurd (cc k)
parts-on-top I s b (p ∷ ps) h k =
    let before = so-far I s b ps h.0 h.1 in
    goes-on-top I s (state I s ps) (state I s (p ∷ ps)) _ before.height_is before.on_top (goes-of I (state I s ps) p h.2)

lexemes-on-top : (I : Source) (s : Stack) (ds : List Lexeme) (after : Stack) → StandsAtStart I s → HasLexemes I s ds after → OnTop s after
lexemes-on-top I s ds after b h = subst (OnTop s) (sym h.stack_is) (parts-on-top I s b h.parts h.reads h.whole)

by-own : (q : Asked) (o : Own) → own q ≡ o → is_asked q ≡ true → (ds : List Lexeme) (after : Stack) → AnswersBy q o (Ok ds) after → OnTop q.stack after
by-own q (Whole text) e begun ds after h = lexemes-on-top (source q text) q.stack ds after (begins-of q text begun e) h
by-own q Growing e begun ds after h = absurd (cc h.0)
by-own q (Bad why) e begun ds after h = absurd (cc h.0)

pub answer-on-top : (q : Asked) → is_asked q ≡ true → (ds : List Lexeme) (after : Stack) → Answers q (Ok ds) after → OnTop q.stack after
answer-on-top q begun ds after h = by-own q (own q) refl begun ds after h

-- WHERE THE STACK STANDS: at another place of the same text

pub moved-again : (x y : ℕ) (ps : List Place) → moved_to x (moved_to y ps) ≡ moved_to x ps
moved-again x y [] = refl
moved-again x y (p ∷ ps) = refl

pub moved-some : (x : ℕ) (ps : List Place) → 0 < length ps → 0 < length (moved_to x ps)
moved-some x [] h = h
moved-some x (p ∷ ps) h = h

pub begun-at : (quote : ℕ) (ps : List Place) → 0 < length ps → is_quote quote ≡ true → (is_some ps && is_quote quote) ≡ true
begun-at quote [] some q = absurd (omega (arith, some))
begun-at quote (p ∷ ps) some q = q

pub alike-moved : (s m : Stack) (at : ℕ) → m ≡ record s { places = moved_to at s.places } → StandsAlike s m
alike-moved s m at is = record {
  levels = ap (λ (t : Stack). t.levels) is;
  expand = ap (λ (t : Stack). t.expand) is;
  places = λ x. ap (λ (t : Stack). moved_to x t.places) is ∙ moved-again x at s.places;
}

pub alike-then : (s m t : Stack) (e : ℕ) → StandsAlike s m → t.levels ≡ m.levels → t.expand ≡ m.expand → t.places ≡ moved_to e m.places → StandsAlike s t
alike-then s m t e a levels expand places = record {
  levels = levels ∙ a.levels;
  expand = expand ∙ a.expand;
  places = λ x. ap (moved_to x) places ∙ moved-again x e m.places ∙ a.places x;
}

-- THE ANSWER of a literal

pub literal-is : (q : Asked) → is_asked q ≡ true → (ds : List Lexeme) (after : Stack) → Answers q (Ok ds) after → answer q ≡ (Ok ds, after)
literal-is q begun ds after h = (answer_is q begun (Ok ds) after).0 h

by-answer : (x : Result (List Lexeme) LexError × Stack) (l : LexError) (after : Stack) (e : StartError) → x ≡ (Err l, after) → error_of l ≡ e → AnswersSo x.0 e
by-answer x l after e is told = subst (λ (y : Result (List Lexeme) LexError × Stack). AnswersSo y.0 e) (sym is) told

pub no-literal : (q : Asked) → is_asked q ≡ true → (l : LexError) (after : Stack) → AnswersError q l after → IsNoLiteral (answer q) (error_of l)
no-literal q begun lex.Memory after h = tt
no-literal q begun lex.NeedMore after h = tt
no-literal q begun (lex.Wanted n) after h = by-answer (answer q) (lex.Wanted n) after (error.Wanted n) ((answer_is q begun (Err (lex.Wanted n)) after).0 h) refl
no-literal q begun (lex.Refused r) after h = by-answer (answer q) (lex.Refused r) after (error.Refused r) ((answer_is q begun (Err (lex.Refused r)) after).0 h) refl
