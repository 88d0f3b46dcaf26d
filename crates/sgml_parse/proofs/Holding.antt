-- How much of a document is held.
use Rattle.std.proofs.Common.{◌≡◌, ◌≤◌, ◌+◌, ◌-◌, Bool, true, false, zero, suc, ℕ, List, [], ◌∷◌, ◌++◌, Some, None, length, drop, slice_get, refl, sym, ap, ◌∙◌, subst, arith, length-append, length-drop}
use Rattle.sgml_text.specs.declared.place.Place.{Place}
use Rattle.sgml_entity.specs.declared.kinds.Entity.{Entity}
use Rattle.sgml_entity.specs.Stack.{place_at}
use Rattle.sgml_entity.specs.Texts.{text_of}
use Rattle.sgml_decl_lexemes.specs.Sources.{or_empty, text_at}
use Rattle.sgml_declared.specs.theory_reading.Names.{Text}
use Rattle.sgml_declared.specs.theory_reading.Pieces.{History}
use Rattle.sgml_declared.specs.theory_reading.Unread.{Input}
use Rattle.sgml_declared.specs.theory_reading.Reads.{ends_in_finish}
use Rattle.sgml_declared.specs.theory_reading.Events.{Event as Said}
use Rattle.sgml_declared.specs.theory_standing.Kept.{Kept, Stands, AreWithin}
use Rattle.sgml_prolog_steps.specs.Standing.{LiesUnder}
use Rattle.sgml_instance.specs.content_steps.Content.{Content}
use Rattle.sgml_instance.specs.Reading.{KeepsUp}
use Rattle.sgml_parse.specs.There.{Reading}
use Rattle.sgml_parse.specs.There as reading
use Rattle.sgml_parse.specs.Parsing.{Parser, Reads, kept_in}
use Rattle.sgml_parse.specs.Held.{lowest, places_in, held_in, document_unread, IsHeld}

-- THE LOWEST PLACE is the last
lowest-got : (ps : List Place) (n : ℕ) → length ps ≡ n + 1 → slice_get ps n ≡ Some (lowest ps)
lowest-got [] n e = absurd (omega (arith, e))
lowest-got (p ∷ []) zero e = refl
lowest-got (p ∷ []) (suc n) e = absurd (omega (arith, e))
lowest-got (p ∷ q ∷ ps) zero e = absurd (omega (arith, e))
lowest-got (p ∷ q ∷ ps) (suc n) e = lowest-got (q ∷ ps) n (omega (arith, e))

some-place : (p q : Place) → Some p ≡ Some q → p ≡ q
some-place p q e = cc

no-place : (p : Place) → None ≡ Some p → ⊥
no-place p e = cc

last-is : (p q : Place) (ps : List Place) (n : ℕ) → n ≡ length (q ∷ ps) - 1 → slice_get (q ∷ ps) n ≡ Some (lowest (q ∷ ps))
last-is p q ps n e = lowest-got (q ∷ ps) n (omega (arith, e))

pub lowest-some : (ps : List Place) (n : ℕ) (p : Place) → n ≡ length ps - 1 → Some p ≡ slice_get ps n → p ≡ lowest ps
lowest-some [] n p e s = absurd (no-place p (sym s))
lowest-some (q ∷ ps) n p e s = some-place p (lowest (q ∷ ps)) (s ∙ last-is p q ps n e)

pub lowest-none : (ps : List Place) (n : ℕ) → n ≡ length ps - 1 → None ≡ slice_get ps n → place_at 0 0 ≡ lowest ps
lowest-none [] n e s = refl
lowest-none (q ∷ ps) n e s = absurd (no-place (lowest (q ∷ ps)) (s ∙ last-is q q ps n e))

-- it is within what was given of the document
lowest-within : (es : List Entity) (ts : List (ℕ × Text)) (ps : List Place) → LiesUnder ps → AreWithin es ts ps → (lowest ps).at ≤ length (or_empty (text_of ts 0))
lowest-within es ts [] u w = absurd u
lowest-within es ts (p ∷ []) u w = subst (λ (n : ℕ). p.at ≤ length (or_empty (text_at es ts n))) u w.0
lowest-within es ts (p ∷ q ∷ ps) u w = lowest-within es ts (q ∷ ps) u.1 w.1

-- WHAT IS HELD, and what is to come
counted : (at : ℕ) (given more document : Text) → at ≤ length given → document ≡ given ++ more → length (drop at given) + length more ≡ length (drop at document)
counted at given more document l e =
    let all : length document ≡ length given + length more = ap length e ∙ length-append given more in
    omega (arith, l, all, length-drop at given, length-drop at document)

stands-held : (k : Kept) (ts : List (ℕ × Text)) (I : Input) (more : Text) (h : History) → LiesUnder k.stack.places → I.document ≡ or_empty (text_of ts 0) ++ more → Stands k ts I more h
    → length (drop (lowest k.stack.places).at (or_empty (text_of ts 0))) + length more ≡ length (document_unread I h)
stands-held k ts I more h u d s =
    counted (lowest k.stack.places).at (or_empty (text_of ts 0)) more I.document (lowest-within k.doctype.entities ts k.stack.places u s.within) d
    ∙ ap (λ (ps : List Place). length (drop (lowest ps).at I.document)) s.places_are

keeps-held : (over : Bool) (x : Content) (ts : List (ℕ × Text)) (I : Input) (more : Text) (h : History) → LiesUnder x.kept.stack.places → I.document ≡ or_empty (text_of ts 0) ++ more → ends_in_finish h ≡ false
    → KeepsUp over x ts I more h → length (drop (lowest x.kept.stack.places).at (or_empty (text_of ts 0))) + length more ≡ length (document_unread I h)
keeps-held true x ts I more h u d f k = absurd (never (sym k.0 ∙ f))
  where
    never : true ≡ false → ⊥
    never e = cc
keeps-held false x ts I more h u d f k =
    subst (λ (z : Kept). length (drop (lowest z.stack.places).at (or_empty (text_of ts 0))) + length more ≡ length (document_unread I h)) k.1.kept
    (stands-held k.0.kept ts I more h (subst (λ (z : Kept). LiesUnder z.stack.places) (sym k.1.kept) u) d k.2.stands)

reads-held : (there : Reading) (ts : List (ℕ × Text)) (ended : Bool) (I : Input) (more : Text) (h : History) (told : List Said) → LiesUnder (places_in there) → I.document ≡ or_empty (text_of ts 0) ++ more
    → ends_in_finish h ≡ false → Reads there ts ended I more h told → length (held_in there ts) + length more ≡ length (document_unread I h)
reads-held (reading.Prolog r) ts ended I more h told u d f x = stands-held r.kept ts I more h u d x.0.stands
reads-held (reading.Instance r) ts ended I more h told u d f x = keeps-held r.over r.content ts I more h u d f x.keeps
reads-held reading.Lost ts ended I more h told u d f x = absurd x

-- by what is kept
some-is : {A : Type 0} (x y : A) → Some x ≡ Some y → x ≡ y
some-is x y e = cc

no-some : {A : Type 0} (x : A) → None ≡ Some x → ⊥
no-some x e = cc

kept-places : (there : Reading) (k : Kept) → kept_in there ≡ Some k → places_in there ≡ k.stack.places
kept-places (reading.Prolog r) k e = ap (λ (z : Kept). z.stack.places) (some-is r.kept k e)
kept-places (reading.Instance r) k e = ap (λ (z : Kept). z.stack.places) (some-is r.content.kept k e)
kept-places reading.Lost k e = absurd (no-some k e)

-- THE SAME of a parser as its code has it
pub held-is : (p inside : Parser) (k : Kept) (count : ℕ) → inside ≡ p → kept_in inside.reading ≡ Some k → count ≡ length (or_empty (text_of inside.texts 0)) - (lowest k.stack.places).at
    → count ≡ length (held_in p.reading p.texts)
held-is p inside k count same e c =
    c
    ∙ sym (length-drop (lowest k.stack.places).at (or_empty (text_of inside.texts 0)))
    ∙ ap (λ (ps : List Place). length (drop (lowest ps).at (or_empty (text_of inside.texts 0)))) (sym (kept-places inside.reading k e))
    ∙ ap (λ (z : Parser). length (held_in z.reading z.texts)) same

pub held-unread : (p inside : Parser) (k : Kept) (count : ℕ) → inside ≡ p → kept_in inside.reading ≡ Some k → LiesUnder k.stack.places → count ≡ length (held_in p.reading p.texts) → IsHeld p count
held-unread p inside k count same e u c = λ I more h told x f.
    let there : kept_in p.reading ≡ Some k = ap (λ (z : Parser). kept_in z.reading) (sym same) ∙ e in
    let under : LiesUnder (places_in p.reading) = subst LiesUnder (sym (kept-places p.reading k there)) u in
    ap (λ (n : ℕ). n + length more) c ∙ reads-held p.reading p.texts p.ended I more h told under x.document f x.reads
