-- What is around a separator, by numbers.
use Rattle.std.specs.Prelude.{◌≡◌, ℕ, ◌-◌, Bool, List, [], ◌∷◌, ◌++◌, Option, Some, None, option_map, slice_get, reverse, length}
use Rattle.std.proofs.Common.{refl, sym, ap, ◌∙◌, arith}
use Rattle.std.proofs.lemmas.List.{reverse-append, reverse-reverse, length-append}
use Rattle.sgml_marked.specs.declared.sections.Section.{Section}
use Rattle.sgml_inside.specs.records.Facts.{takes_end}
use Rattle.sgml_infer.specs.sgml_dtd.dtd_elements.Types.{ElementType}
use Rattle.sgml_infer.specs.sgml_dtd.dtd_elements.Laws.{AreDistinct}
use Rattle.sgml_infer.specs.sgml_dtd.Doctypes.{Doctype}
use Rattle.sgml_infer.specs.theory_reading.Types.{content_of}
use Rattle.sgml_infer.specs.theory_reading.Context.{Level}
use Rattle.sgml_infer.specs.theory_reading.Characters.{content_has_text, level_has_text, in_text_section}
use Rattle.sgml_infer.proofs.Contents.{said-found}
use Rattle.sgml_inside.specs.Inside.{facts_of}
use Rattle.sgml_prolog_steps.specs.Found.{innermost}
use Rattle.sgml_content_steps.specs.Modes.{IsInnermost}
use Rattle.sgml_content_steps.specs.Content.{Content, IsContent, context_of}
use Rattle.sgml_content_data.specs.Roles.{around_of, text_of, is_text_in}

-- THE INNERMOST ELEMENT
text-inside : (d : Doctype) (element : Option ℕ) (ls : List Level) → AreDistinct d.elements → IsInnermost d element ls → text_of d element ≡ level_has_text d ls
text-inside d None [] distinct h = refl
text-inside d None (l ∷ ls) distinct h = absurd h
text-inside d (Some i) [] distinct h = absurd h
text-inside d (Some i) (l ∷ ls) distinct h = ap (λ (t : ElementType). content_has_text (content_of t)) (sym (said-found d l.element i distinct h))

-- THE INNERMOST SECTION is the first of the reversed list
get-last : {X : Type 0} (xs : List X) (y : X) → slice_get (xs ++ y ∷ []) (length xs) ≡ Some y
get-last [] y = refl
get-last (x ∷ xs) y = get-last xs y

last-of : (ss : List Section) (s : Section) → innermost (ss ++ s ∷ []) ≡ Some s.status
last-of ss s =
    let size : length (ss ++ s ∷ []) - 1 ≡ length ss = let e = length-append ss (s ∷ []) in omega (arith, e) in
    ap (λ n. option_map (λ (x : Section). x.status) (slice_get (ss ++ s ∷ []) n)) size ∙ ap (option_map (λ (x : Section). x.status)) (get-last ss s)

reversed-text : (rs : List Section) → in_text_section rs ≡ is_text_in (innermost (reverse rs))
reversed-text [] = refl
reversed-text (s ∷ rs) = sym (ap is_text_in (ap innermost (reverse-append (s ∷ []) rs) ∙ last-of (reverse rs) s))

section-text : (ss : List Section) → is_text_in (innermost ss) ≡ in_text_section (reverse ss)
section-text ss = ap (λ xs. is_text_in (innermost xs)) (sym (reverse-reverse ss)) ∙ sym (reversed-text (reverse ss))

-- WHAT IS AROUND, as the code has it
pub around-is : (c v : Content) (element : Option ℕ) (text section : Bool) → IsContent c → v ≡ c → IsInnermost c.kept.doctype element (context_of c).levels
    → text ≡ text_of v.kept.doctype element → section ≡ is_text_in (innermost v.kept.sections) → record { text = text; section = section } ≡ around_of c
around-is c v element text section is e o t s =
    let texts = t ∙ (ap (λ (x : Content). text_of x.kept.doctype element) e ∙ text-inside c.kept.doctype element (context_of c).levels is.tree.distinct o) in
    let sections = s ∙ (ap (λ (x : Content). is_text_in (innermost x.kept.sections)) e ∙ section-text c.kept.sections) in
    λ i. record { text = texts i; section = sections i }

pub live-is : (c v : Content) (live b : Bool) → v ≡ c → live ≡ takes_end (facts_of v.inside.elements) → live ≡ b → takes_end (facts_of c.inside.elements) ≡ b
live-is c v live b e t f = ap (λ (x : Content). takes_end (facts_of x.inside.elements)) (sym e) ∙ (sym t ∙ f)
