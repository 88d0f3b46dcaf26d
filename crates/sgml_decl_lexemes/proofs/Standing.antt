-- Where what is read stands on the stack, and where the stack stands after it.
use Rattle.std.proofs.Common.{◌≡◌, true, List, [], ◌∷◌, Ok, length, refl, sym, ◌∙◌, ap, subst}
use Rattle.sgml_entity.specs.Stack.{Stack, moved_to}
use Rattle.sgml_decl_parts.specs.declared.part.Part.{Part}
use Rattle.sgml_decl_parts.specs.Ends.{before}
use Rattle.sgml_decl_lexemes.specs.declared.lexeme.Lexeme.{Lexeme}
use Rattle.sgml_decl_lexemes.specs.Sources.{Source}
use Rattle.sgml_decl_lexemes.specs.Readings.{closes, Goes}
use Rattle.sgml_decl_lexemes.specs.Declares.{Asked, Own, Whole, Growing, Bad, own, source, is_asked, is_closed, AnswersBy, StandsAfter, StandsAtStart, ReadsParts, state}
use Rattle.sgml_decl_lexemes.specs.Standing.{ReadStandsOnTop, ReadEndsWithText, AnsweredStandsAfter}
use Rattle.sgml_decl_lexemes.proofs.Going.{goes-on-top, begun-on-top}
use Rattle.sgml_decl_lexemes.proofs.Reaching.{goes-of, so-far}
use Rattle.sgml_decl_lexemes.proofs.Ending.{ended, own-size}
use Rattle.sgml_decl_lexemes.proofs.Running.{begins-of}

pub on-top : ReadStandsOnTop
on-top I s [] b h = begun-on-top s (before I.construct) b.some
on-top I s (q ∷ parts) b h =
    let so = so-far I s b parts h.0 h.1 in
    goes-on-top I s (state I s parts) (state I s (q ∷ parts)) (closes I.construct q) so.height_is so.on_top (goes-of I (state I s parts) q h.2)

parts-after : (I : Source) (s : Stack) → StandsAtStart I s → (parts : List Part) → ReadsParts I s parts → is_closed I.construct parts ≡ true
    → (state I s parts).stack.places ≡ moved_to (length I.own) s.places
parts-after I s b [] h whole = cc whole
parts-after I s b (q ∷ parts) h whole =
    ended I s (state I s parts) (state I s (q ∷ parts)) b.some (so-far I s b parts h.0 h.1)
    (subst (λ done. Goes I (state I s parts) done (state I s (q ∷ parts))) whole (goes-of I (state I s parts) q h.2))

pub ends-with-text : ReadEndsWithText
ends-with-text I s ds after b h = ap (λ (t : Stack). t.places) h.stack_is ∙ parts-after I s b h.parts h.reads h.whole

after-by : (q : Asked) (o : Own) (ds : List Lexeme) (t : Stack) → is_asked q ≡ true → own q ≡ o → AnswersBy q o (Ok ds) t → StandsAfter q t
after-by q (Whole w) ds t begun is h =
    ends-with-text (source q w) q.stack ds t (begins-of q w begun is) h ∙ ap (λ n. moved_to n q.stack.places) (own-size q w (sym is))
after-by q Growing ds t begun is h = absurd (cc h.0)
after-by q (Bad why) ds t begun is h = absurd (cc h.0)

pub stands-after : AnsweredStandsAfter
stands-after q ds after begun h = after-by q (own q) ds after begun refl h
