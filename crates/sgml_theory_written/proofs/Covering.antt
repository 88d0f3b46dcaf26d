-- What stands in a context stands in each that covers it.
use Rattle.std.specs.Prelude.{◌≡◌, suc, Bool, true, not, ◌||◌, ◌⊎◌, bytes_eq, Option, Some, None, is_some, unwrap_or, List, [], ◌∷◌, length}
use Rattle.std.specs.List.{list_any}
use Rattle.std.proofs.Common.{refl, sym, ap, ◌∙◌, inl, inr, subst}
use Rattle.std.proofs.lemmas.Bool.{and_parts, and_from, or_cases, or_left, or_right}
use Rattle.sgml_theory_worked.specs.model.Term.{Term, done}
use Rattle.sgml_theory_worked.specs.model.Choice.{left_by}
use Rattle.sgml_theory_worked.specs.dtd.Doctypes.{Doctype}
use Rattle.sgml_theory_worked.specs.theory_reading.Names.{Name}
use Rattle.sgml_theory_worked.specs.theory_reading.Types.{Content, Model, Any, Cdata, Rcdata, Void, type_of, content_of, model_of, has_model}
use Rattle.sgml_theory_worked.specs.theory_reading.Pieces.{Piece, Kind}
use Rattle.sgml_theory_worked.specs.theory_reading.Facets.{Token, Effect, Opens, Closes, Stays, effect, token, declares}
use Rattle.sgml_theory_worked.specs.theory_reading.Context.{Level, Context, context_after, token_left, token_taken, levels_with, levels_after}
use Rattle.sgml_theory_worked.specs.theory_reading.Omission.{allowed, fits, fits_content, is_included, is_excluded, is_token_in, finished, counted, inside_of_first}
use Rattle.sgml_theory_worked.specs.theory_reading.Reads.{is_proper_in, is_proper_for}
use Rattle.sgml_theory_written.specs.Alike.{plain_level, Alike}
use Rattle.sgml_theory_written.specs.Covering.{takes_all, CoversTerm, CoversLevel, CoverLevels, Covers, MissIn, MissContent, MissesToo}
use Rattle.sgml_theory_written.specs.Freely.{TakeAlike}
use Rattle.sgml_theory_written.proofs.Plain.{plains, context_of, is_proper, inside_of}
use Rattle.sgml_theory_written.proofs.Serving.{Serves}
use Rattle.sgml_theory_written.proofs.Steps.{Same, plain_effect}

-- TERMS
pub covers-itself : (r : Term) → CoversTerm r r
covers-itself r = record { takes = λ ks e. e; ends = λ ks e f. f }

pub covers-on : (t s r : Term) → CoversTerm t s → CoversTerm s r → CoversTerm t r
covers-on t s r a b = record {
  takes = λ ks e. a.takes ks (b.takes ks e);
  ends = λ ks e f. a.ends ks (b.takes ks e) (b.ends ks e f);
}

covers-after-token : (s r : Term) (k : Token) → CoversTerm s r → is_some (left_by r k) ≡ true → CoversTerm (token_left s k) (token_left r k)
covers-after-token s r k a e = record {
  takes = λ ks f. (and_parts (is_some (left_by s k)) (takes_all (token_left s k) ks) (a.takes (k ∷ ks) (and_from (is_some (left_by r k)) (takes_all (token_left r k) ks) e f))).1;
  ends = λ ks f g. a.ends (k ∷ ks) (and_from (is_some (left_by r k)) (takes_all (token_left r k) ks) e f) g;
}

pub covers-takes : (s r : Term) (k : Token) → CoversTerm s r → is_some (left_by r k) ≡ true → is_some (left_by s k) ≡ true
covers-takes s r k a e =
    (and_parts (is_some (left_by s k)) true (a.takes (k ∷ []) (and_from (is_some (left_by r k)) true e refl))).0

covers-ends : (s r : Term) → CoversTerm s r → done r ≡ true → done s ≡ true
covers-ends s r a e = a.ends [] refl e

missed : (r : Term) (k : Token) → left_by r k ≡ None → token_left r k ≡ r
missed r k e = ap (λ (o : Option Term). unwrap_or o r) e

pub covers-token : (s r : Term) (k : Token) → CoversTerm s r → (left_by r k ≡ None → left_by s k ≡ None) → CoversTerm (token_left s k) (token_left r k)
covers-token s r k a miss = go (left_by r k) refl
  where
    go : (o : Option Term) → left_by r k ≡ o → CoversTerm (token_left s k) (token_left r k)
    go (Some x) e = covers-after-token s r k a (ap (λ (o : Option Term). is_some o) e)
    go None e =
        subst (λ (t : Term). CoversTerm t (token_left r k)) (sym (missed s k (miss e)))
        (subst (λ (t : Term). CoversTerm s t) (sym (missed r k e)) a)

-- WHAT IS TOLD OF CONTEXTS
any-covered : (f : Name → Bool) (ls ms : List Level) → CoverLevels ms ls → list_any (λ (l : Level). f l.element) ls ≡ list_any (λ (m : Level). f m.element) ms
any-covered f [] [] a = refl
any-covered f [] (m ∷ ms) a = absurd a
any-covered f (l ∷ ls) [] a = absurd a
any-covered f (l ∷ ls) (m ∷ ms) a = λ i. f (a.0.elements i) || any-covered f ls ms a.1 i

same-depth : (ls ms : List Level) → CoverLevels ms ls → length ls ≡ length ms
same-depth [] [] a = refl
same-depth [] (m ∷ ms) a = absurd a
same-depth (l ∷ ls) [] a = absurd a
same-depth (l ∷ ls) (m ∷ ms) a = ap suc (same-depth ls ms a.1)

same-inside : (n : Name) (ls ms : List Level) → CoverLevels ms ls → inside_of_first (λ (l : Level). bytes_eq n l.element) ls ≡ inside_of_first (λ (m : Level). bytes_eq n m.element) ms
same-inside n [] [] a = refl
same-inside n [] (m ∷ ms) a = absurd a
same-inside n (l ∷ ls) [] a = absurd a
same-inside n (l ∷ ls) (m ∷ ms) a = λ i. counted (bytes_eq n (a.0.elements i)) (same-inside n ls ms a.1 i)

fits-covered : (t : Doctype) (l m : Level) (ls ms : List Level) (b i j : Bool) (k : Token) (content : Content) → CoverLevels (m ∷ ms) (l ∷ ls) → fits_content (context_of t (l ∷ ls) b i) content k ≡ true → fits_content (context_of t (m ∷ ms) b j) content k ≡ true
fits-covered t l m ls ms b i j k (Model term) a e = go (or_cases (is_some (left_by l.left k)) (is_included t (l ∷ ls) k) e)
  where
    go : (is_some (left_by l.left k) ≡ true) ⊎ (is_included t (l ∷ ls) k ≡ true) → fits_content (context_of t (m ∷ ms) b j) (Model term) k ≡ true
    go (inl f) = or_left (is_some (left_by m.left k)) (is_included t (m ∷ ms) k) (covers-takes m.left l.left k a.0.lefts f)
    go (inr f) =
        or_right (is_some (left_by m.left k)) (is_included t (m ∷ ms) k)
        (sym (any-covered (λ n. is_token_in k (type_of t n).body.included) (l ∷ ls) (m ∷ ms) a) ∙ f)
fits-covered t l m ls ms b i j k Any a e = e
fits-covered t l m ls ms b i j k Cdata a e = e
fits-covered t l m ls ms b i j k Rcdata a e = e
fits-covered t l m ls ms b i j k Void a e = e

allowed-covered : (t : Doctype) (ls ms : List Level) (b i j : Bool) (k : Token) → CoverLevels ms ls → allowed (context_of t ls b i) k ≡ true → allowed (context_of t ms b j) k ≡ true
unfolding allowed
allowed-covered t [] [] b i j k a e = e
allowed-covered t [] (m ∷ ms) b i j k a e = absurd a
allowed-covered t (l ∷ ls) [] b i j k a e = absurd a
allowed-covered t (l ∷ ls) (m ∷ ms) b i j k a e =
    let c = context_of t (l ∷ ls) b i in
    let d = context_of t (m ∷ ms) b j in
    let p = and_parts (fits c k) (not (is_excluded c k)) e in
    let f : fits d k ≡ true = subst (λ (n : Name). fits_content d (content_of (type_of t n)) k ≡ true) a.0.elements (fits-covered t l m ls ms b i j k (content_of (type_of t l.element)) a p.0) in
    let g : is_excluded c k ≡ is_excluded d k = any-covered (λ n. is_token_in k (type_of t n).body.excluded) (l ∷ ls) (m ∷ ms) a in
    and_from (fits d k) (not (is_excluded d k)) f (ap not (sym g) ∙ p.1)

proper-content : (t : Doctype) (l m : Level) (ls ms : List Level) (b i j : Bool) (k : Token) (content : Content) → CoverLevels (m ∷ ms) (l ∷ ls) → is_proper_for (context_of t (l ∷ ls) b i) content k ≡ true → is_proper_for (context_of t (m ∷ ms) b j) content k ≡ true
proper-content t l m ls ms b i j k (Model term) a e = covers-takes m.left l.left k a.0.lefts e
proper-content t l m ls ms b i j k Any a e = e
proper-content t l m ls ms b i j k Cdata a e = e
proper-content t l m ls ms b i j k Rcdata a e = e
proper-content t l m ls ms b i j k Void a e = e

proper-covered : (t : Doctype) (ls ms : List Level) (b i j : Bool) (k : Token) → CoverLevels ms ls → is_proper_in (context_of t ls b i) ls k ≡ true → is_proper_in (context_of t ms b j) ms k ≡ true
proper-covered t [] [] b i j k a e = e
proper-covered t [] (m ∷ ms) b i j k a e = absurd a
proper-covered t (l ∷ ls) [] b i j k a e = absurd a
proper-covered t (l ∷ ls) (m ∷ ms) b i j k a e =
    subst (λ (n : Name). is_proper_for (context_of t (m ∷ ms) b j) (content_of (type_of t n)) k ≡ true) a.0.elements
    (proper-content t l m ls ms b i j k (content_of (type_of t l.element)) a e)

done-content : (l m : Level) (content : Content) → CoversLevel m l → (not (has_model content) || done l.left) ≡ true → (not (has_model content) || done m.left) ≡ true
done-content l m (Model term) a e = covers-ends m.left l.left a.lefts e
done-content l m Any a e = refl
done-content l m Cdata a e = refl
done-content l m Rcdata a e = refl
done-content l m Void a e = refl

finished-covered : (t : Doctype) (ls ms : List Level) (b i j : Bool) → CoverLevels ms ls → finished (context_of t ls b i) ≡ true → finished (context_of t ms b j) ≡ true
unfolding finished
finished-covered t [] [] b i j a e = e
finished-covered t [] (m ∷ ms) b i j a e = absurd a
finished-covered t (l ∷ ls) [] b i j a e = absurd a
finished-covered t (l ∷ ls) (m ∷ ms) b i j a e =
    subst (λ (n : Name). (not (has_model (content_of (type_of t n))) || done m.left) ≡ true) a.0.elements
    (done-content l m (content_of (type_of t l.element)) a.0 e)

serves-at : (t : Doctype) (ls ms : List Level) (b i j : Bool) → CoverLevels ms ls → Serves (context_of t ls b i) (context_of t ms b j)
unfolding is_proper inside_of
serves-at t ls ms b i j a = record {
  doctypes = refl;
  begun = refl;
  depths = same-depth ls ms a;
  insides = λ n. same-inside n ls ms a;
  allows = λ k e. allowed-covered t ls ms b i j k a e;
  propers = λ k e. proper-covered t ls ms b i j k a e;
  finishes = λ e. finished-covered t ls ms b i j a e;
}

-- the context d, with what it has of c
with-same : (c d : Context) → Covers d c → context_of c.doctype d.levels c.begun d.inferred ≡ d
with-same c d a = λ i. context_of (a.doctypes i) d.levels (a.begun i) d.inferred

pub covers-serves : (c d : Context) → Covers d c → Serves c d
covers-serves c d a = subst (Serves c) (with-same c d a) (serves-at c.doctype c.levels d.levels c.begun c.inferred d.inferred a.levels)

-- what one doesn't take, nor the other, is a proper element of both or of neither
some-same : (s r : Term) (k : Token) → CoversTerm s r → (left_by r k ≡ None → left_by s k ≡ None) → is_some (left_by r k) ≡ is_some (left_by s k)
some-same s r k a miss = go (left_by r k) refl
  where
    go : (o : Option Term) → left_by r k ≡ o → is_some (left_by r k) ≡ is_some (left_by s k)
    go None e = ap (λ (o : Option Term). is_some o) e ∙ sym (ap (λ (o : Option Term). is_some o) (miss e))
    go (Some x) e =
        let f : is_some (left_by r k) ≡ true = ap (λ (o : Option Term). is_some o) e in
        f ∙ sym (covers-takes s r k a f)

same-content : (t : Doctype) (l m : Level) (ls ms : List Level) (b i j : Bool) (k : Token) (content : Content) → CoverLevels (m ∷ ms) (l ∷ ls) → (left_by l.left k ≡ None → left_by m.left k ≡ None) → is_proper_for (context_of t (l ∷ ls) b i) content k ≡ is_proper_for (context_of t (m ∷ ms) b j) content k
same-content t l m ls ms b i j k (Model term) a miss = some-same m.left l.left k a.0.lefts miss
same-content t l m ls ms b i j k Any a miss = refl
same-content t l m ls ms b i j k Cdata a miss = refl
same-content t l m ls ms b i j k Rcdata a miss = refl
same-content t l m ls ms b i j k Void a miss = refl

same-proper-at : (t : Doctype) (ls ms : List Level) (b i j : Bool) (k : Token) → CoverLevels ms ls → MissIn ls ms k → is_proper_in (context_of t ls b i) ls k ≡ is_proper_in (context_of t ms b j) ms k
same-proper-at t [] [] b i j k a miss = refl
same-proper-at t [] (m ∷ ms) b i j k a miss = absurd a
same-proper-at t (l ∷ ls) [] b i j k a miss = absurd a
same-proper-at t (l ∷ ls) (m ∷ ms) b i j k a miss =
    same-content t l m ls ms b i j k (content_of (type_of t l.element)) a miss
    ∙ ap (λ (n : Name). is_proper_for (context_of t (m ∷ ms) b j) (content_of (type_of t n)) k) a.0.elements

pub same-proper : (c d : Context) (k : Token) → Covers d c → MissIn c.levels d.levels k → is_proper k c ≡ is_proper k d
unfolding is_proper
same-proper c d k a miss =
    same-proper-at c.doctype c.levels d.levels c.begun c.inferred d.inferred k a.levels miss
    ∙ ap (λ (s : Context). is_proper_in s s.levels k) (with-same c d a)

-- AFTER A PIECE
taken : (m l : Level) (o : Option Token) → CoversTerm m.left l.left → ((k : Token) → o ≡ Some k → left_by l.left k ≡ None → left_by m.left k ≡ None) → CoversTerm (token_taken o m.left) (token_taken o l.left)
taken m l None a miss = a
taken m l (Some k) a miss = covers-token m.left l.left k a (miss k refl)

abbrev MissOption : List Level → List Level → Option Token → Type 0
MissOption ls ms o = (k : Token) → o ≡ Some k → MissIn ls ms k

levels-taken : (x y : Kind) (o : Option Token) (ls ms : List Level) → token x ≡ o → token y ≡ o → CoverLevels ms ls → MissOption ls ms o → CoverLevels (levels_with y ms) (levels_with x ls)
levels-taken x y o [] [] e f a miss = tt
levels-taken x y o [] (m ∷ ms) e f a miss = absurd a
levels-taken x y o (l ∷ ls) [] e f a miss = absurd a
levels-taken x y o (l ∷ ls) (m ∷ ms) e f a miss = (
  record {
    elements = a.0.elements;
    lefts = subst (λ (u : Option Token). CoversTerm (token_taken u m.left) (token_taken (token x) l.left)) (sym f) (subst (λ (u : Option Token). CoversTerm (token_taken o m.left) (token_taken u l.left)) (sym e) (taken m l o a.0.lefts miss));
  },
  a.1,
)

begun-covers : (t : Doctype) (n n' : Name) → n ≡ n' → CoversTerm (model_of (content_of (type_of t n'))) (model_of (content_of (type_of t n)))
begun-covers t n n' e =
    subst (λ (k : Name). CoversTerm (model_of (content_of (type_of t k))) (model_of (content_of (type_of t n)))) e
    (covers-itself (model_of (content_of (type_of t n))))

levels-covered : (t : Doctype) (e f : Effect) (x y : Kind) (o : Option Token) (ls ms : List Level) → plain_effect e ≡ plain_effect f → token x ≡ o → token y ≡ o → CoverLevels ms ls → MissOption ls ms o → CoverLevels (levels_after t f y ms) (levels_after t e x ls)
levels-covered t (Opens n s) (Opens n' s') x y o ls ms g e f a miss =
    let h : n ≡ n' = cc in
    (record { elements = h; lefts = begun-covers t n n' h }, levels-taken x y o ls ms e f a miss)
levels-covered t Closes Closes x y o [] [] g e f a miss = tt
levels-covered t Closes Closes x y o [] (m ∷ ms) g e f a miss = absurd a
levels-covered t Closes Closes x y o (l ∷ ls) [] g e f a miss = absurd a
levels-covered t Closes Closes x y o (l ∷ ls) (m ∷ ms) g e f a miss = a.1
levels-covered t Stays Stays x y o ls ms g e f a miss = levels-taken x y o ls ms e f a miss
levels-covered t (Opens n s) Closes x y o ls ms g e f a miss = absurd (cc)
levels-covered t (Opens n s) Stays x y o ls ms g e f a miss = absurd (cc)
levels-covered t Closes (Opens n s) x y o ls ms g e f a miss = absurd (cc)
levels-covered t Closes Stays x y o ls ms g e f a miss = absurd (cc)
levels-covered t Stays (Opens n s) x y o ls ms g e f a miss = absurd (cc)
levels-covered t Stays Closes x y o ls ms g e f a miss = absurd (cc)

miss-option : (c d : Context) (o : Option Token) → MissContent c d o → MissOption c.levels d.levels o
miss-option c d None miss k e = absurd (cc)
miss-option c d (Some j) miss k e = subst (MissIn c.levels d.levels) (let f : j ≡ k = cc in f) miss

pub covers-after : (c d : Context) (p q : Piece) → Same p.kind q.kind → Covers d c → MissesToo c d p.kind → Covers (context_after q d) (context_after p c)
unfolding context_after
covers-after c d p q m a miss =
    let levels = levels-covered c.doctype (effect p.kind) (effect q.kind) p.kind q.kind (token p.kind) c.levels d.levels m.effects refl (sym m.tokens) a.levels (miss-option c d (token p.kind) miss) in
    record {
      doctypes = m.declare c.doctype ∙ ap (λ (t : Doctype). declares q.kind t) a.doctypes;
      levels = subst (λ (t : Doctype). CoverLevels (levels_after t (effect q.kind) q.kind d.levels) (levels_after c.doctype (effect p.kind) p.kind c.levels)) a.doctypes levels;
      begun = λ i. m.starts i || a.begun i;
    }

-- WHAT IS ALIKE covers
alike-levels : (ls ms : List Level) → plains ls ≡ plains ms → CoverLevels ms ls
alike-levels [] [] e = tt
alike-levels [] (m ∷ ms) e = absurd (cc)
alike-levels (l ∷ ls) [] e = absurd (cc)
alike-levels (l ∷ ls) (m ∷ ms) e =
    let f : plain_level l ≡ plain_level m = cc in
    let g : plains ls ≡ plains ms = cc in (
      record {
        elements = ap (λ (k : Level). k.element) f;
        lefts = subst (λ (t : Term). CoversTerm t l.left) (ap (λ (k : Level). k.left) f) (covers-itself l.left);
      },
      alike-levels ls ms g,
    )

alike-covers : (c d : Context) → Alike c d → Covers d c
alike-covers c d a = record { doctypes = a.doctypes; levels = alike-levels c.levels d.levels a.levels; begun = a.begun }

pub alike-take-alike : (c d : Context) → Alike c d → TakeAlike c d
alike-take-alike c d a = record {
  there = alike-covers c d a;
  here = alike-covers d c (record { doctypes = sym a.doctypes; levels = sym a.levels; begun = sym a.begun });
}
