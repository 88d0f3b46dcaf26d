-- A tag that needs no second look is the markup of its form.
use Rattle.std.proofs.Common.{◌≡◌, ℕ, suc, ◌+◌, ◌≤◌, Bool, true, false, List, [], ◌∷◌, Some, length, take, sym, ◌∙◌, ap, ◌&&◌, arith, Ok}
use Rattle.sgml_syntax.specs.declared.syntax.Syntax.{Syntax}
use Rattle.sgml_markup.specs.declared.kinds.Form.TheVariants as form
use Rattle.sgml_markup.specs.declared.kinds.TokenKind.TheVariants as kind
use Rattle.sgml_text.specs.Characters.{is_sgml_character}
use Rattle.sgml_markup.specs.Forms.{before, judged}
use Rattle.sgml_markup.specs.Markup.{ended_markup, markup_of}
use Rattle.sgml_markup.specs.QuickTags.{tag_form, tag_kind, IsQuickMarkup}
use Rattle.sgml_delim.proofs.Deciding.{and-left, and-right}
use Rattle.sgml_markup.proofs.QuickForms.{quick-ends, start-quick, end-quick}

one-more : (n : ℕ) → 1 + n ≡ suc n
one-more n = omega arith

two-more : (n : ℕ) → 2 + n ≡ suc (suc n)
two-more n = omega arith

start-markup : (s : Syntax) (ended : Bool) (text : List ℕ) (n : ℕ) → 1 ≤ length text → IsQuickMarkup s false text n
    → markup_of s form.StartTag ended text ≡ Some (record { length = n; judged = Ok kind.StartTag })
start-markup s ended [] n room h = absurd (omega (arith, room))
start-markup s ended (d ∷ rest) n room h =
    ap (ended_markup s form.StartTag (d ∷ rest)) (quick-ends s false rest h.after h.tag)
    ∙ ap (λ k. Some (record { length = 1 + h.after; judged = judged s form.StartTag (take k (d ∷ rest)) })) (one-more h.after)
    ∙ ap (λ j. Some (record { length = 1 + h.after; judged = j })) (start-quick s d rest h.after (and-left (is_sgml_character d) true h.sgml) h.tag)
    ∙ ap (λ k. Some (record { length = k; judged = Ok kind.StartTag })) (sym h.adds)

end-markup : (s : Syntax) (ended : Bool) (text : List ℕ) (n : ℕ) → 2 ≤ length text → IsQuickMarkup s true text n
    → markup_of s form.EndTag ended text ≡ Some (record { length = n; judged = Ok kind.EndTag })
end-markup s ended [] n room h = absurd (omega (arith, room))
end-markup s ended (c ∷ []) n room h = absurd (omega (arith, room))
end-markup s ended (c ∷ d ∷ rest) n room h =
    ap (ended_markup s form.EndTag (c ∷ d ∷ rest)) (quick-ends s true rest h.after h.tag)
    ∙ ap (λ k. Some (record { length = 2 + h.after; judged = judged s form.EndTag (take k (c ∷ d ∷ rest)) })) (two-more h.after)
    ∙ ap (λ j. Some (record { length = 2 + h.after; judged = j }))
    (end-quick s c d rest h.after (and-left (is_sgml_character c) (is_sgml_character d && true) h.sgml)
    (and-left (is_sgml_character d) true (and-right (is_sgml_character c) (is_sgml_character d && true) h.sgml)) h.tag)
    ∙ ap (λ k. Some (record { length = k; judged = Ok kind.EndTag })) (sym h.adds)

pub quick-markup : (s : Syntax) (closing ended : Bool) (text : List ℕ) (n : ℕ) → before (tag_form closing) ≤ length text
    → IsQuickMarkup s closing text n
    → markup_of s (tag_form closing) ended text ≡ Some (record { length = n; judged = Ok (tag_kind closing) })
quick-markup s false ended text n room h = start-markup s ended text n room h
quick-markup s true ended text n room h = end-markup s ended text n room h
