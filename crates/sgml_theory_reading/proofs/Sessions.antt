-- What an editor and a top call rest on.
use Rattle.std.specs.Prelude.{◌≡◌, ◌⊎◌, List, [], ◌∷◌, ◌++◌}
use Rattle.std.proofs.Common.{refl, sym, ap, ◌∙◌, inl, inr, subst}
use Rattle.std.proofs.lemmas.Bool.{both_ways}
use Rattle.sgml_theory_reading.specs.Pieces.{Piece, History}
use Rattle.sgml_theory_reading.specs.Unread.{Input, opening}
use Rattle.sgml_theory_reading.specs.Reads.{Forms, Move, Reads, ReadOn, IsOver, IsPrefix, IsFullDocument, Agree, read_by, pieces, ends_in_finish}
use Rattle.sgml_theory_reading.proofs.Reading.{one-of-two, no-both, read-on-agree}
use Rattle.sgml_theory_reading.proofs.Cutting.{read-append}
use Rattle.sgml_theory_reading.proofs.Told.{append-nil}

not-over : (forms : Forms) (I : Input) (h : History) (m : Move) → IsOver forms I h → Reads forms I h m → ⊥
not-over forms I h m (inl f) r = both_ways (ends_in_finish h) r.goes_on f
not-over forms I h m (inr s) r = no-both forms I h m s.0 r s.1

-- what reads is a prefix of what reads and is over
pub over-is-longest : (forms : Forms) (I : Input) (ms ns : List Move) → ReadOn forms I (opening I.outside) ms → IsOver forms I (read_by I ms) → ReadOn forms I (opening I.outside) ns → IsPrefix ns ms
over-is-longest forms I ms ns a o b = go (one-of-two forms I (opening I.outside) ns ms b a)
  where
    longer : (zs : List Move) → ns ≡ ms ++ zs → IsPrefix ns ms
    longer [] e = ([], sym (append-nil ms) ∙ (sym e ∙ sym (append-nil ns)))
    longer (z ∷ zs) e =
        absurd (not-over forms I (read_by I ms) z o ((read-append forms I (opening I.outside) ms (z ∷ zs)).0 (subst (λ (xs : List Move). ReadOn forms I (opening I.outside) xs) e b)).1.0)

    go : IsPrefix ns ms ⊎ IsPrefix ms ns → IsPrefix ns ms
    go (inl p) = p
    go (inr p) = longer p.0 p.1

both-prefixes : {A : Type 0} (xs ys : List A) → IsPrefix xs ys → IsPrefix ys xs → xs ≡ ys
both-prefixes [] [] p q = refl
both-prefixes [] (y ∷ ys) p q = absurd (let e : [] ≡ y ∷ (ys ++ q.0) = q.1 in cc)
both-prefixes (x ∷ xs) [] p q = absurd (let e : [] ≡ x ∷ (xs ++ p.0) = p.1 in cc)
both-prefixes (x ∷ xs) (y ∷ ys) p q =
    let e : y ∷ ys ≡ x ∷ (xs ++ p.0) = p.1 in
    let f : x ∷ xs ≡ y ∷ (ys ++ q.0) = q.1 in
    let g : y ≡ x = cc in
    let a : ys ≡ xs ++ p.0 = cc in
    let b : xs ≡ ys ++ q.0 = cc in
    λ i. sym g i ∷ both-prefixes xs ys (p.0, a) (q.0, b) i

-- there is one full document at most
pub one-document : (forms : Forms) (I : Input) (ps qs : List Piece) → IsFullDocument forms I ps → IsFullDocument forms I qs → ps ≡ qs
one-document forms I ps qs a b =
    let p = over-is-longest forms I b.0 a.0 b.1 (inl b.2) a.1 in
    let q = over-is-longest forms I a.0 b.0 a.1 (inl a.2) b.1 in
    a.3 ∙ (ap pieces (both-prefixes a.0 b.0 p q) ∙ sym b.3)

-- an old rest is adopted where the states and what is unread agree
pub adopted : (forms : Forms) (I J : Input) (ms bs cs : List Move) → ReadOn forms I (opening I.outside) (ms ++ cs) → ReadOn forms J (opening J.outside) bs → Agree I J (read_by I ms) (read_by J bs) → ReadOn forms J (opening J.outside) (bs ++ cs)
adopted forms I J ms bs cs a b e =
    (read-append forms J (opening J.outside) bs cs).1 (b, read-on-agree forms I J (read_by I ms) (read_by J bs) cs e ((read-append forms I (opening I.outside) ms cs).0 a).1)
