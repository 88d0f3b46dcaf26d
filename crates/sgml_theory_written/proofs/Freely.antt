-- Where data is free, pieces stand with data elsewhere or without it.
use Rattle.std.specs.Prelude.{◌≡◌, Bool, true, false, ◌&&◌, ◌⊎◌, Option, Some, None, is_some, unwrap_or, List, [], ◌∷◌}
use Rattle.std.specs.List.{list_all}
use Rattle.std.proofs.Common.{refl, sym, ap, ◌∙◌, inl, inr, subst}
use Rattle.std.proofs.lemmas.Bool.{and_parts, and_from}
use Rattle.sgml_theory_worked.specs.model.Term.{Term, done}
use Rattle.sgml_theory_worked.specs.model.Choice.{left_by}
use Rattle.sgml_theory_worked.specs.dtd.Doctypes.{Doctype}
use Rattle.sgml_theory_worked.specs.theory_reading.Types.{type_of, content_of, model_of}
use Rattle.sgml_theory_worked.specs.theory_reading.Pieces.{Piece, Kind}
use Rattle.sgml_theory_worked.specs.theory_reading.Facets.{Token, Pcdata, Effect, Opens, Closes, Stays, effect, token}
use Rattle.sgml_theory_worked.specs.theory_reading.Context.{Level, Context, context_after, token_left, token_taken, left_after, levels_with, levels_after}
use Rattle.sgml_theory_worked.specs.theory_reading.Omission.{allowed}
use Rattle.sgml_theory_worked.specs.theory_reading.Runs.{context_after_run}
use Rattle.sgml_theory_worked.specs.theory_reading.Reads.{Move, pieces}
use Rattle.sgml_theory_written.specs.Written.{IsWritten}
use Rattle.sgml_theory_written.specs.Standing.{StandBy, StandAlone}
use Rattle.sgml_theory_written.specs.Covering.{takes_all, CoversTerm, CoverLevels, Covers, IsSilent, IsData, CoversDataIn, MayLack, MissIn, MissContent, MissesToo, DataCoversIn, MayHave, AreRewritten}
use Rattle.sgml_theory_written.specs.Covering as rewriting
use Rattle.sgml_theory_written.specs.Free.{DataIsFree, is_free}
use Rattle.sgml_theory_written.specs.Freely.{HasFreeContent, IsFree, TakeAlike, DeclaresNothing, AreFreelyRewritten, over, piece, lacking, besides}
use Rattle.sgml_theory_written.proofs.Steps.{Same, written-same}
use Rattle.sgml_theory_written.proofs.Covering.{covers-on, covers-takes, covers-token, covers-after}
use Rattle.sgml_theory_written.proofs.Free.{free-data, free-left}
use Rattle.sgml_theory_written.proofs.Rewriting.{IsPlain, silent-plain, data-plain, after-plain-piece, silent-levels, CoversParts, PartsCover, lacks, has, moves-rewritten}

-- TERMS THAT TAKE THE SAME
left-same : (s r : Term) (k : Token) (x : Term) → left_by s k ≡ left_by r k → left_by r k ≡ Some x → token_left s k ≡ token_left r k
left-same s r k x e f =
    ap (λ (o : Option Term). unwrap_or o s) (e ∙ f) ∙ sym (ap (λ (o : Option Term). unwrap_or o r) f)

none-takes : {A : Type 0} (r : Term) (k : Token) (ks : List Token) → left_by r k ≡ None → takes_all r (k ∷ ks) ≡ true → A
none-takes r k ks g e =
    let p = and_parts (is_some (left_by r k)) (takes_all (token_left r k) ks) e in
    let h : false ≡ true = sym (ap (λ (o : Option Term). is_some o) g) ∙ p.0 in
    absurd (cc)

same-takes : (s r : Term) → ((k : Token) → left_by s k ≡ left_by r k) → (ks : List Token) → takes_all r ks ≡ true → takes_all s ks ≡ true
same-takes s r f [] e = refl
same-takes s r f (k ∷ ks) e = go (left_by r k) refl
  where
    go : (o : Option Term) → left_by r k ≡ o → takes_all s (k ∷ ks) ≡ true
    go None g = none-takes r k ks g e
    go (Some x) g = (λ i. is_some (f k i) && takes_all (left-same s r k x (f k) g i) ks) ∙ e

same-ends : (s r : Term) → ((k : Token) → left_by s k ≡ left_by r k) → done s ≡ done r → (ks : List Token) → takes_all r ks ≡ true → done (left_after r ks) ≡ true → done (left_after s ks) ≡ true
same-ends s r f d [] e h = d ∙ h
same-ends s r f d (k ∷ ks) e h = go (left_by r k) refl
  where
    go : (o : Option Term) → left_by r k ≡ o → done (left_after s (k ∷ ks)) ≡ true
    go None g = none-takes r k ks g e
    go (Some x) g = ap (λ (t : Term). done (left_after t ks)) (left-same s r k x (f k) g) ∙ h

same-covers : (s r : Term) → ((k : Token) → left_by s k ≡ left_by r k) → done s ≡ done r → CoversTerm s r
same-covers s r f d = record { takes = same-takes s r f; ends = same-ends s r f d }

-- what data leaves takes the same where data is free
data-covers : (r : Term) → DataIsFree r → CoversTerm (token_left r Pcdata) r
data-covers r f = same-covers (token_left r Pcdata) r f.same_next f.same_end

covers-data : (r : Term) → DataIsFree r → CoversTerm r (token_left r Pcdata)
covers-data r f = same-covers r (token_left r Pcdata) (λ k. sym (f.same_next k)) (sym f.same_end)

abbrev all_free : List Level → Bool
all_free ls = list_all (λ (l : Level). is_free l.left) ls

covers-data-in : (ls : List Level) → all_free ls ≡ true → CoversDataIn ls
covers-data-in [] f = tt
covers-data-in (l ∷ ls) f = covers-data l.left (free-data l.left (and_parts (is_free l.left) (all_free ls) f).0)

data-covers-in : (ls : List Level) → all_free ls ≡ true → DataCoversIn ls
data-covers-in [] f = tt
data-covers-in (l ∷ ls) f = data-covers l.left (free-data l.left (and_parts (is_free l.left) (all_free ls) f).0)

-- what the one doesn't take the other, which it covers, doesn't take
misses : (s r : Term) (k : Token) → CoversTerm s r → left_by s k ≡ None → left_by r k ≡ None
misses s r k a e = go (left_by r k) refl
  where
    go : (o : Option Term) → left_by r k ≡ o → left_by r k ≡ None
    go None f = f
    go (Some x) f =
        let g : is_some (left_by s k) ≡ true = covers-takes s r k a (ap (λ (o : Option Term). is_some o) f) in
        let h : false ≡ true = sym (ap (λ (o : Option Term). is_some o) e) ∙ g in
        absurd (cc)

miss-in : (ls ms : List Level) (k : Token) → CoverLevels ls ms → MissIn ls ms k
miss-in [] ms k a = tt
miss-in (l ∷ ls) [] k a = tt
miss-in (l ∷ ls) (m ∷ ms) k a = misses l.left m.left k a.0.lefts

miss-content : (c d : Context) (o : Option Token) → Covers c d → MissContent c d o
miss-content c d None a = tt
miss-content c d (Some k) a = miss-in c.levels d.levels k a.levels

misses-too : (c d : Context) (x : Kind) → Covers c d → MissesToo c d x
misses-too c d x a = miss-content c d (token x) a

-- WHAT IS LEFT STAYS FREE
taken-free : (o : Option Token) (r : Term) → is_free r ≡ true → is_free (token_taken o r) ≡ true
taken-free None r f = f
taken-free (Some k) r f = free-left r k f

with-free : (x : Kind) (ls : List Level) → all_free ls ≡ true → all_free (levels_with x ls) ≡ true
with-free x [] f = refl
with-free x (l ∷ ls) f =
    let p = and_parts (is_free l.left) (all_free ls) f in
    and_from (is_free (token_taken (token x) l.left)) (all_free ls) (taken-free (token x) l.left p.0) p.1

after-free : (t : Doctype) (e : Effect) (x : Kind) (ls : List Level) → HasFreeContent t → all_free ls ≡ true → all_free (levels_after t e x ls) ≡ true
after-free t (Opens n slash) x ls m f =
    and_from (is_free (model_of (content_of (type_of t n)))) (all_free (levels_with x ls)) (m n) (with-free x ls f)
after-free t Closes x [] m f = refl
after-free t Closes x (l ∷ ls) m f = (and_parts (is_free l.left) (all_free ls) f).1
after-free t Stays x ls m f = with-free x ls f

stays-free : (c : Context) (p : Piece) → DeclaresNothing p.kind → IsFree c → IsFree (context_after p c)
unfolding context_after
stays-free c p n f = record {
  models = subst HasFreeContent (sym (n c.doctype)) f.models;
  lefts = after-free c.doctype (effect p.kind) p.kind c.levels f.models f.lefts;
}

-- WITHOUT IT AND WITH IT the one goes on to cover the other
same-back : (x y : Kind) → Same x y → Same y x
same-back x y m =
    record { tokens = sym m.tokens; effects = sym m.effects; starts = sym m.starts; declare = λ d. sym (m.declare d) }

left-out-levels : (x : Kind) (ls ms : List Level) → IsData x → CoverLevels ls ms → DataCoversIn ls → CoverLevels (levels_with x ls) ms
left-out-levels x [] [] e a c = tt
left-out-levels x [] (m ∷ ms) e a c = absurd a
left-out-levels x (l ∷ ls) [] e a c = absurd a
left-out-levels x (l ∷ ls) (m ∷ ms) e a c = (
  record {
    elements = a.0.elements;
    lefts = subst (λ (o : Option Token). CoversTerm (token_taken o l.left) m.left) (sym e) (covers-on (token_left l.left Pcdata) l.left m.left c a.0.lefts);
  },
  a.1,
)

put-in-levels : (x : Kind) (ls ms : List Level) → IsData x → CoverLevels ls ms → CoversDataIn ls → MissIn ms ls Pcdata → CoverLevels ls (levels_with x ms)
put-in-levels x [] [] e a c miss = tt
put-in-levels x [] (m ∷ ms) e a c miss = absurd a
put-in-levels x (l ∷ ls) [] e a c miss = absurd a
put-in-levels x (l ∷ ls) (m ∷ ms) e a c miss = (
  record {
    elements = a.0.elements;
    lefts = subst (λ (o : Option Token). CoversTerm l.left (token_taken o m.left)) (sym e) (covers-on l.left (token_left l.left Pcdata) (token_left m.left Pcdata) c (covers-token l.left m.left Pcdata a.0.lefts miss));
  },
  a.1,
)

abbrev NoPart : Kind → Type 0
NoPart x = IsSilent x ⊎ IsData x

plain-of : (x : Kind) → NoPart x → IsPlain x
plain-of x (inl s) = silent-plain x s
plain-of x (inr s) = data-plain x s

-- c, after a piece that is left out, covers d
left-out : (c d : Context) (p : Piece) → NoPart p.kind → IsFree c → Covers c d → Covers (context_after p c) d
left-out c d p s f a = record { doctypes = h.0; levels = h.1; begun = h.2 }
  where
    levels : NoPart p.kind → CoverLevels (levels_with p.kind c.levels) d.levels
    levels (inl t) = subst (λ (ls : List Level). CoverLevels ls d.levels) (sym (silent-levels p.kind c.levels t.no_content)) a.levels
    levels (inr t) = left-out-levels p.kind c.levels d.levels t a.levels (data-covers-in c.levels f.lefts)

    h : PartsCover d (context_after p c).doctype (context_after p c).levels (context_after p c).begun
    h = after-plain-piece c p (plain-of p.kind s) (PartsCover d) (a.doctypes, levels s, a.begun)

-- c covers d after a piece that is written besides
put-in : (c d : Context) (q : Piece) → NoPart q.kind → IsFree c → TakeAlike c d → Covers c (context_after q d)
put-in c d q s f a = record { doctypes = h.0; levels = h.1; begun = h.2 }
  where
    levels : NoPart q.kind → CoverLevels c.levels (levels_with q.kind d.levels)
    levels (inl t) = subst (CoverLevels c.levels) (sym (silent-levels q.kind d.levels t.no_content)) a.here.levels
    levels (inr t) =
        put-in-levels q.kind c.levels d.levels t a.here.levels (covers-data-in c.levels f.lefts) (miss-in d.levels c.levels Pcdata a.there.levels)

    h : CoversParts c (context_after q d).doctype (context_after q d).levels (context_after q d).begun
    h = after-plain-piece d q (plain-of q.kind s) (CoversParts c) (a.here.doctypes, levels s, a.here.begun)

plain-declares : (x : Kind) → NoPart x → DeclaresNothing x
plain-declares x s = (plain-of x s).declares_nothing

may-lack : (c : Context) (x : Kind) → NoPart x → IsFree c → MayLack c x
may-lack c x (inl s) f = inl s
may-lack c x (inr s) f = inr (s, covers-data-in c.levels f.lefts)

may-have : (c d : Context) (x : Kind) → IsSilent x ⊎ (IsData x × (allowed c Pcdata ≡ true)) → IsFree c → Covers c d → MayHave c d x
may-have c d x (inl s) f a = inl s
may-have c d x (inr s) f a = inr (s.0, s.1, data-covers-in c.levels f.lefts, misses-too c d x a)

no-part : (x : Kind) (c : Context) → IsSilent x ⊎ (IsData x × (allowed c Pcdata ≡ true)) → NoPart x
no-part x c (inl s) = inl s
no-part x c (inr s) = inr s.0

-- PIECES
freely : (c d : Context) (ps qs : List Piece) → AreFreelyRewritten c ps qs → IsFree c → TakeAlike c d → AreRewritten c d ps qs × Covers (context_after_run c ps) (context_after_run d qs)
freely c d _ _ (over _) f a = (rewriting.over c d, a.here)
freely c d _ _ (piece _ p q ps qs n w r) f a =
    let same = written-same c.doctype p.kind q.kind w in
    let miss = misses-too c d p.kind a.here in
    let there = covers-after c d p q same a.there miss in
    let here = covers-after d c q p (same-back p.kind q.kind same) a.here (misses-too d c q.kind a.there) in
    let more = freely (context_after p c) (context_after q d) ps qs r (stays-free c p n f) (record { there = there; here = here }) in
    let v : IsWritten d.doctype p.kind q.kind = subst (λ (t : Doctype). IsWritten t p.kind q.kind) a.there.doctypes w in
    (rewriting.piece c d p q ps qs v miss more.0, more.1)
freely c d _ _ (lacking _ p ps qs s r) f a =
    let l = may-lack c p.kind s f in
    let both : TakeAlike (context_after p c) d = record { there = lacks c d p l a.there; here = left-out c d p s f a.here } in
    let more = freely (context_after p c) d ps qs r (stays-free c p (plain-declares p.kind s) f) both in
    (rewriting.lacking c d p ps qs l more.0, more.1)
freely c d _ _ (besides _ q ps qs s r) f a =
    let h = may-have c d q.kind s f a.here in
    let both : TakeAlike c (context_after q d) = record { there = has c d q h a.there; here = put-in c d q (no-part q.kind c s) f a } in
    let more = freely c (context_after q d) ps qs r f both in
    (rewriting.besides c d q ps qs h more.0, more.1)

pub moves-freely : (c d : Context) (ms : List Move) (qs : List Piece) → StandBy c ms → IsFree c → TakeAlike c d → AreFreelyRewritten c (pieces ms) qs → StandAlone d qs × TakeAlike (context_after_run c (pieces ms)) (context_after_run d qs)
moves-freely c d ms qs s f a r =
    let w = freely c d (pieces ms) qs r f a in
    let h = moves-rewritten c d ms qs s a.there w.0 in
    (h.0, record { there = h.1; here = w.1 })
