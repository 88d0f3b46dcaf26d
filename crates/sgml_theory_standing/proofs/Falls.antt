-- With each piece of the prolog less is left to read.
use Rattle.std.specs.Prelude.{◌≡◌, ℕ, ◌+◌, ◌-◌, ◌*◌, ◌<◌, ◌≤◌, ◌⊎◌, List, [], ◌∷◌, map, length}
use Rattle.std.proofs.Common.{refl, ap, ◌∙◌, inl, inr, arith, length-drop}
use Rattle.sgml_theory_spelling.specs.text.declared.place.Place.{Place}
use Rattle.sgml_theory_spelling.specs.entity.declared.kinds.Entity.{Entity}
use Rattle.sgml_theory_spelling.specs.entity.Stack.{moved}
use Rattle.sgml_theory_spelling.specs.decl_lexemes.Sources.{text_at, or_empty}
use Rattle.sgml_theory_spelling.specs.theory_reading.Names.{Text}
use Rattle.sgml_theory_spelling.specs.theory_reading.Pieces.{Piece, EntityEnd}
use Rattle.sgml_theory_spelling.specs.theory_reading.Facets.{Turn, OpensText, EndsText, StaysInText, turn, declares}
use Rattle.sgml_theory_spelling.specs.theory_reading.Unread.{turned, opened_length}
use Rattle.sgml_theory_spelling.specs.theory_reading.Reads.{length_of_first}
use Rattle.sgml_theory_standing.specs.Kept.{rest_of, given, kept_after}
use Rattle.sgml_theory_standing.specs.Next.{text_after, unread_length, left_to_read}
use Rattle.sgml_theory_standing.specs.Laws.{NextFalls}
use Rattle.sgml_theory_standing.proofs.Entities.{longer, given-more, declared-moved}

length-moved : (n : ℕ) (ps : List Place) → length (moved n ps) ≡ length ps
length-moved n [] = refl
length-moved n (p ∷ ps) = refl

unread-moved : (es : List Entity) (texts : List (ℕ × Text)) (n : ℕ) (ps : List Place) → n ≤ length_of_first (map (rest_of es texts) ps)
    → unread_length (map (rest_of es texts) (moved n ps)) + n ≡ unread_length (map (rest_of es texts) ps)
unread-moved es texts n [] l = omega (arith, l)
unread-moved es texts n (p ∷ ps) l =
    let text = or_empty (text_at es texts p.entity) in
    let a = length-drop p.at text in
    let b = length-drop (p.at + n) text in
    omega (arith, l, a, b)

-- the numbers of it
falls-by : (es : List Entity) (texts : List (ℕ × Text)) (text : ℕ → Text) (t : Turn) (ps : List Place) (n unread before spent inside expand : ℕ)
    → before + n ≡ unread → before ≡ unread_length (map (rest_of es texts) ps) → 0 < length ps
    → ((number : ℕ) → t ≡ OpensText number → or_empty (text_at es texts number) ≡ text number)
    → (0 < n) ⊎ (t ≡ EndsText) → spent + (inside + opened_length text t) ≤ expand
    → 2 * (unread_length (map (rest_of es texts) (turned t ps)) + (expand - (spent + (inside + opened_length text t)))) + length (turned t ps)
    < 2 * (unread + (expand - spent)) + length ps
falls-by es texts text (OpensText e) ps n unread before spent inside expand a b some given (inl l) few =
    let g = ap length (given e refl) in omega (arith, a, b, some, g, l, few)
falls-by es texts text (OpensText e) ps n unread before spent inside expand a b some given (inr x) few = absurd (cc)
falls-by es texts text EndsText [] n unread before spent inside expand a b some given x few = absurd (omega (arith, some))
falls-by es texts text EndsText (p ∷ ps) n unread before spent inside expand a b some given x few = omega (arith, a, b, few)
falls-by es texts text StaysInText ps n unread before spent inside expand a b some given (inl l) few = omega (arith, a, b, l, few)
falls-by es texts text StaysInText ps n unread before spent inside expand a b some given (inr x) few = absurd (cc)

takes-or-ends : (p : Piece) → (0 < p.size) ⊎ (p.kind ≡ EntityEnd) → (0 < p.size) ⊎ (turn p.kind ≡ EndsText)
unfolding turn
takes-or-ends p (inl l) = inl l
takes-or-ends p (inr e) = inr (ap turn e)

pub next-falls : NextFalls
unfolding left_to_read given kept_after
next-falls k texts outside p d some e there takes few =
    let es = k.doctype.entities in
    let new = (declares p.kind k.doctype).entities in
    let ps = k.stack.places in
    let x = longer p.kind k.doctype in
    let same : map (rest_of new texts) (moved p.size ps) ≡ map (rest_of es texts) (moved p.size ps) =
    ap (λ zs. map (rest_of zs texts) (moved p.size ps)) x.same ∙ given-more es x.added texts (moved p.size ps) (declared-moved es p.size ps d) in
    let fewer = unread-moved es texts p.size ps there.within in
    let l = length-moved p.size ps in
    let z = falls-by new texts (text_after outside p k) (turn p.kind) (moved p.size ps) p.size
    (unread_length (map (rest_of es texts) ps)) (unread_length (map (rest_of new texts) (moved p.size ps))) k.stack.spent p.spent k.stack.expand
    (ap (λ rs. unread_length rs + p.size) same ∙ fewer) refl (omega (arith, some, l))
    (λ number f. ap or_empty (there.opened number f)) (takes-or-ends p takes) few in
    omega (arith, z, l)
