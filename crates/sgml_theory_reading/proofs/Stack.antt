-- The stack of rests is the stack of places.
use Rattle.std.specs.Prelude.{◌≡◌, ℕ, List, [], ◌∷◌, length, drop}
use Rattle.std.proofs.Common.{refl, sym, ap, ◌∙◌, drop-drop}
use Rattle.sgml_dtd.specs.text.declared.place.Place.{Place}
use Rattle.sgml_dtd.specs.entity.Stack.{moved}
use Rattle.sgml_theory_reading.specs.Pieces.{History}
use Rattle.sgml_theory_reading.specs.Facets.{Turn, OpensText, EndsText, StaysInText, turn}
use Rattle.sgml_theory_reading.specs.Unread.{Input, sources, turned, unread, texts, texts_after, Rest, rest_moved, rest_turned, rests, text_of, opened, opened_turned, text_opened, number_opened, opened_number, opened_text, AreAlong}

along-moved : (I : Input) (n : ℕ) (ks : List History) (ps : List Place) (rs : List Rest) → AreAlong I ks ps rs → AreAlong I ks (moved n ps) (rest_moved n rs)
along-moved I n [] [] [] a = tt
along-moved I n (k ∷ ks) (p ∷ ps) (r ∷ rs) a = (a.0, a.1, ap (drop n) a.2 ∙ drop-drop n p.at (text_opened I k), a.3)
along-moved I n [] [] (r ∷ rs) a = absurd a
along-moved I n [] (p ∷ ps) rs a = absurd a
along-moved I n (k ∷ ks) [] rs a = absurd a
along-moved I n (k ∷ ks) (p ∷ ps) [] a = absurd a

along-turned : (I : Input) (text : ℕ → List ℕ) (t : Turn) (h : History) (ks : List History) (ps : List Place) (rs : List Rest) →
    ((e : ℕ) → t ≡ OpensText e → (number_opened h ≡ e) × (text_opened I h ≡ text e)) →
    AreAlong I ks ps rs → AreAlong I (opened_turned t h ks) (turned t ps) (rest_turned text t rs)
along-turned I text (OpensText e) h ks ps rs w a =
    let q = w e refl in
    (sym q.0, refl, sym q.1, a)
along-turned I text EndsText h [] [] [] w a = tt
along-turned I text EndsText h (k ∷ ks) (p ∷ ps) (r ∷ rs) w a = a.3
along-turned I text EndsText h [] [] (r ∷ rs) w a = absurd a
along-turned I text EndsText h [] (p ∷ ps) rs w a = absurd a
along-turned I text EndsText h (k ∷ ks) [] rs w a = absurd a
along-turned I text EndsText h (k ∷ ks) (p ∷ ps) [] w a = absurd a
along-turned I text StaysInText h ks ps rs w a = a

pub unread-along : (I : Input) (h : History) → AreAlong I (opened h) (unread h) (rests I h)
unfolding unread rests opened
unread-along I [] = (refl, refl, refl, tt)
unread-along I (p ∷ h) =
    along-turned I (text_of I.outside (sources (p ∷ h))) (turn p.kind) (p ∷ h) (opened h) (moved p.size (unread h)) (rest_moved p.size (rests I h))
    (λ e q. (ap opened_number q, ap (opened_text (text_of I.outside (sources (p ∷ h)))) q))
    (along-moved I p.size (opened h) (unread h) (rests I h) (unread-along I h))

length-moved : (n : ℕ) (ps : List Place) → length (moved n ps) ≡ length ps
length-moved n [] = refl
length-moved n (p ∷ ps) = refl

length-turned : (t : Turn) (ps : List Place) → length (turned t ps) ≡ texts_after t (length ps)
length-turned (OpensText e) ps = refl
length-turned EndsText [] = refl
length-turned EndsText (p ∷ ps) = refl
length-turned StaysInText ps = refl

pub length-unread : (h : History) → length (unread h) ≡ texts h
unfolding unread texts
length-unread [] = refl
length-unread (p ∷ h) =
    length-turned (turn p.kind) (moved p.size (unread h))
    ∙ (ap (texts_after (turn p.kind)) (length-moved p.size (unread h)) ∙ ap (texts_after (turn p.kind)) (length-unread h))
