-- After data the next data is allowed, and leaves what is known.
use Rattle.std.proofs.Common.{◌≡◌, Bool, true, false, cond, List, [], ◌∷◌, Option, Some, None, refl, sym, ap, ◌∙◌, subst, inl, inr}
use Rattle.std.specs.Prelude.{not, ◌&&◌, ◌||◌, ◌==◌, IsTrue, is_some, length, option_map, unwrap_or}
use Rattle.std.specs.Option.{option_or}
use Rattle.std.proofs.lemmas.Bool.{and_parts, and_from, cond-true}
use Rattle.sgml_dtd.specs.model.Term.{Term, empty, name, pcdata, seq, or, and, opt, plus, rep, member, round, Terms, none, more, done}
use Rattle.sgml_dtd.specs.model.Choice.{begun, keeping, left_by, left_in_order, left_of_some, choice}
use Rattle.sgml_dtd.specs.Doctypes.{Doctype}
use Rattle.sgml_theory_reading.specs.Types.{type_of, content_of, Content, Model, Any, Cdata, Rcdata, Void}
use Rattle.sgml_theory_reading.specs.Pieces.{Piece, Kind, Sgml, Head, Declare, Start, End}
use Rattle.sgml_theory_reading.specs.Facets.{Token, Pcdata, Effect, Stays as StaysHere, effect, token, is_start, is_omitted_start, declares}
use Rattle.sgml_theory_reading.specs.Context.{Level, Context, context_after, token_left, token_taken, levels_after}
use Rattle.sgml_theory_reading.specs.Omission.{NoneMayStand, allowed, fits_content, is_included, leaves, leaves_as, misfits}
use Rattle.sgml_theory_reading.specs.Reasons.{reason, reason_by_token, content_refusal, content_may_stand, is_full, is_inside, DataGoesOn}

-- TERMS

-- taking `#PCDATA` leaves the same
abbrev Stays : Term → Type 0
Stays r = left_by r None ≡ Some r

round_stays : (x m : Term) → Stays x → Stays (round x m)
round_stays x m h =
    ap (λ v. option_or (option_map (λ m'. round m' m) v) (cond (done x) (option_map (λ m'. round m' m) (left_by m None)) None)) h

member_stays : (x : Term) (ms : Terms) → Stays x → Stays (member x ms)
member_stays x ms h =
    ap (λ v. option_or (option_map (λ m'. member m' ms) v) (cond (done x) (option_map begun (choice ms None)) None)) h

seq_stays : (x : Term) (ms : Terms) → Stays x → Stays (seq (more x ms))
seq_stays x ms h =
    ap (λ v. option_or (option_map (λ m'. seq (more m' ms)) v) (cond (done x) (left_in_order ms None) None)) h

of_round : (m r : Term) (o : Option Term) → ((x : Term) → o ≡ Some x → Stays x) → option_map (λ m'. round m' m) o ≡ Some r → Stays r
of_round m r None ih h = cc
of_round m r (Some x) ih h =
    let e : round x m ≡ r = cc h in
    subst Stays e (round_stays x m (ih x refl))

of_begun : (r : Term) (o : Option (Term × Terms)) → ((p : Term × Terms) → o ≡ Some p → Stays p.0) → option_map begun o ≡ Some r → Stays r
of_begun r None ih h = cc
of_begun r (Some p) ih h =
    let e : member p.0 p.1 ≡ r = cc h in
    subst Stays e (member_stays p.0 p.1 (ih p refl))

if_true : {A : Type 0} (b : Bool) (o : Option A) (r : A) → cond b o None ≡ Some r → o ≡ Some r
if_true true o r h = h
if_true false o r h = cc

of_member : (ms : Terms) (r : Term) (o : Option Term) (b : Bool) (p : Option (Term × Terms)) → ((x : Term) → o ≡ Some x → Stays x) → ((q : Term × Terms) → p ≡ Some q → Stays q.0) → option_or (option_map (λ m'. member m' ms) o) (cond b (option_map begun p) None) ≡ Some r → Stays r
of_member ms r None b p ih jh h = of_begun r p jh (if_true b (option_map begun p) r h)
of_member ms r (Some x) b p ih jh h =
    let e : member x ms ≡ r = cc h in
    subst Stays e (member_stays x ms (ih x refl))

of_rounds : (m r : Term) (o : Option Term) (b : Bool) (p : Option Term) → ((x : Term) → o ≡ Some x → Stays x) → ((x : Term) → p ≡ Some x → Stays x) → option_or (option_map (λ m'. round m' m) o) (cond b (option_map (λ m'. round m' m) p) None) ≡ Some r → Stays r
of_rounds m r None b p ih jh h = of_round m r p jh (if_true b (option_map (λ m'. round m' m) p) r h)
of_rounds m r (Some x) b p ih jh h =
    let e : round x m ≡ r = cc h in
    subst Stays e (round_stays x m (ih x refl))

of_order : (ms : Terms) (r : Term) (o : Option Term) (b : Bool) (p : Option Term) → ((x : Term) → o ≡ Some x → Stays x) → (p ≡ Some r → Stays r) → option_or (option_map (λ m'. seq (more m' ms)) o) (cond b p None) ≡ Some r → Stays r
of_order ms r None b p ih jh h = jh (if_true b p r h)
of_order ms r (Some x) b p ih jh h =
    let e : seq (more x ms) ≡ r = cc h in
    subst Stays e (seq_stays x ms (ih x refl))

of_some : (r : Term) (o p : Option Term) → ((x : Term) → o ≡ Some x → Stays x) → (p ≡ Some r → Stays r) → option_or o p ≡ Some r → Stays r
of_some r None p ih jh h = jh h
of_some r (Some x) p ih jh h = ih r h

of_choice : (m : Term) (ms : Terms) (q : Term × Terms) (o : Option Term) (p : Option (Term × Terms)) → ((x : Term) → o ≡ Some x → Stays x) → ((s : Term × Terms) → p ≡ Some s → Stays s.0) → option_or (option_map (λ m'. (m', ms)) o) (option_map (keeping m) p) ≡ Some q → Stays q.0
of_choice m ms q None None ih jh h = cc
of_choice m ms q None (Some s) ih jh h =
    let e : (s.0, more m s.1) ≡ q = cc h in
    subst (λ (v : Term × Terms). Stays v.0) e (jh s refl)
of_choice m ms q (Some x) p ih jh h =
    let e : (x, ms) ≡ q = cc h in
    subst (λ (v : Term × Terms). Stays v.0) e (ih x refl)

mutual
  pub again : (m r : Term) → left_by m None ≡ Some r → Stays r
  again empty r h = cc
  again (name k n) r h = cc
  again (pcdata k) r h = let e : pcdata k ≡ r = cc h in subst Stays e refl
  again (seq ms) r h = again_in_order ms r h
  again (or ms) r h = again_of_some ms r h
  again (and ms) r h = of_begun r (choice ms None) (again_choice ms) h
  again (opt m) r h = again m r h
  again (plus m) r h = of_round m r (left_by m None) (again m) h
  again (rep m) r h = of_round m r (left_by m None) (again m) h
  again (member q ms) r h = of_member ms r (left_by q None) (done q) (choice ms None) (again q) (again_choice ms) h
  again (round q m) r h = of_rounds m r (left_by q None) (done q) (left_by m None) (again q) (again m) h

  again_in_order : (ms : Terms) (r : Term) → left_in_order ms None ≡ Some r → Stays r
  again_in_order none r h = cc
  again_in_order (more m ms) r h = of_order ms r (left_by m None) (done m) (left_in_order ms None) (again m) (again_in_order ms r) h

  again_of_some : (ms : Terms) (r : Term) → left_of_some ms None ≡ Some r → Stays r
  again_of_some none r h = cc
  again_of_some (more m ms) r h = of_some r (left_by m None) (left_of_some ms None) (again m) (again_of_some ms r) h

  again_choice : (ms : Terms) (p : Term × Terms) → choice ms None ≡ Some p → Stays p.0
  again_choice none p h = cc
  again_choice (more m ms) p h = of_choice m ms p (left_by m None) (choice ms None) (again m) (again_choice ms) h

-- THE OPEN ELEMENTS

left-at : (r : Term) (o : Option Term) → left_by r None ≡ o → token_left (token_left r Pcdata) Pcdata ≡ token_left r Pcdata
left-at r None e =
    let same : token_left r Pcdata ≡ r = ap (λ (o : Option Term). unwrap_or o r) e in
    ap (λ (x : Term). token_left x Pcdata) same
left-at r (Some x) e =
    let same : token_left r Pcdata ≡ x = ap (λ (o : Option Term). unwrap_or o r) e in
    ap (λ (y : Term). token_left y Pcdata) same ∙ (ap (λ (o : Option Term). unwrap_or o x) (again r x e) ∙ sym same)

-- data again leaves the term as data left it
left-again : (r : Term) → token_left (token_left r Pcdata) Pcdata ≡ token_left r Pcdata
left-again r = left-at r (left_by r None) refl

-- the innermost element takes data
abbrev with_data_in : Level → Level
with_data_in l = record { element = l.element; left = token_left l.left Pcdata; slash = l.slash }

abbrev with_data : List Level → List Level
with_data [] = []
with_data (l ∷ ls) = with_data_in l ∷ ls

data-again : (ls : List Level) → with_data (with_data ls) ≡ with_data ls
data-again [] = refl
data-again (l ∷ ls) = λ i. record { element = l.element; left = left-again l.left i; slash = l.slash } ∷ ls

-- A PIECE THAT IS DATA begins and ends no element, and declares nothing
record IsPlain (k : Kind) : Type 0 where
  stays : effect k ≡ StaysHere
  no_start : is_start k ≡ false
  no_omitted_start : is_omitted_start k ≡ false
  declares_none : (d : Doctype) → declares k d ≡ d

plain-kind : (k : Kind) → token k ≡ Some Pcdata → IsPlain k
unfolding token effect is_start is_omitted_start declares
plain-kind (Sgml syntax) e = absurd (cc)
plain-kind (Head head base) e = absurd (cc)
plain-kind (Declare lexemes says base) e = absurd (cc)
plain-kind (Start n specifications how proper at_once) e = absurd (cc)
plain-kind (End n how) e = absurd (cc)
plain-kind _ e = record { stays = refl; no_start = refl; no_omitted_start = refl; declares_none = λ d. refl }

levels-data : (d : Doctype) (k : Kind) (ls : List Level) → token k ≡ Some Pcdata → levels_after d StaysHere k ls ≡ with_data ls
levels-data d k [] e = refl
levels-data d k (l ∷ ls) e = λ i. record { element = l.element; left = token_taken (e i) l.left; slash = l.slash } ∷ ls

abbrev context_with : Context → List Level → Context
context_with s ls = record { doctype = s.doctype; levels = ls; begun = s.begun; inferred = false }

after-data : (p : Piece) (s : Context) → token p.kind ≡ Some Pcdata → context_after p s ≡ context_with s (with_data s.levels)
unfolding context_after
after-data p s e =
    let f = plain-kind p.kind e in
    λ i. record {
      doctype = f.declares_none s.doctype i;
      levels = (ap (λ (x : Effect). levels_after s.doctype x p.kind s.levels) f.stays ∙ levels-data s.doctype p.kind s.levels e) i;
      begun = f.no_start i || s.begun;
      inferred = f.no_omitted_start i;
    }

pub data-leaves : (s : Context) (x y : Piece) → token x.kind ≡ Some Pcdata → token y.kind ≡ Some Pcdata → context_after y (context_after x s) ≡ context_after x s
data-leaves s x y e f =
    ap (context_after y) (after-data x s e)
    ∙ (after-data y (context_with s (with_data s.levels)) f
    ∙ (ap (context_with s) (data-again s.levels) ∙ sym (after-data x s e)))

-- DATA IS ALLOWED AGAIN

none-included : (d : Doctype) (ls : List Level) → is_included d ls Pcdata ≡ false
none-included d [] = refl
none-included d (l ∷ ls) = none-included d ls

or-false : (b c : Bool) → c ≡ false → (b || c) ≡ true → b ≡ true
or-false true c e h = refl
or-false false c e h = sym e ∙ h

some-again : (r : Term) (o : Option Term) → left_by r None ≡ o → is_some o ≡ true → is_some (left_by (token_left r Pcdata) None) ≡ true
some-again r None e h = absurd (cc)
some-again r (Some x) e h =
    ap (λ (y : Term). is_some (left_by y None)) (ap (λ (o : Option Term). unwrap_or o r) e) ∙ ap (λ (o : Option Term). is_some o) (again r x e)

or-true : (b c : Bool) → b ≡ true → (b || c) ≡ true
or-true b c e = ap (λ (x : Bool). x || c) e

fits-again : (s : Context) (l : Level) (ls : List Level) (content : Content) →
    fits_content (record { doctype = s.doctype; levels = l ∷ ls; begun = s.begun; inferred = s.inferred }) content Pcdata ≡ true →
    fits_content (context_with s (with_data_in l ∷ ls)) content Pcdata ≡ true
fits-again s l ls (Model term) h =
    let some = or-false (is_some (left_by l.left None)) (is_included s.doctype (l ∷ ls) Pcdata) (none-included s.doctype (l ∷ ls)) h in
    or-true (is_some (left_by (token_left l.left Pcdata) None)) (is_included s.doctype (with_data_in l ∷ ls) Pcdata) (some-again l.left (left_by l.left None) refl some)
fits-again s l ls Any h = refl
fits-again s l ls Cdata h = refl
fits-again s l ls Rcdata h = refl
fits-again s l ls Void h = absurd (cc)

allowed-again : (s : Context) (ls : List Level) → not (length ls == 0) ≡ true →
    allowed (record { doctype = s.doctype; levels = ls; begun = s.begun; inferred = s.inferred }) Pcdata ≡ true →
    allowed (context_with s (with_data ls)) Pcdata ≡ true
unfolding allowed
allowed-again s [] n h = absurd (cc)
allowed-again s (l ∷ ls) n h =
    let p = and_parts (fits_content (record { doctype = s.doctype; levels = l ∷ ls; begun = s.begun; inferred = s.inferred }) (content_of (type_of s.doctype l.element)) Pcdata) _ h in
    and_from (fits_content (context_with s (with_data_in l ∷ ls)) (content_of (type_of s.doctype l.element)) Pcdata) _
    (fits-again s l ls (content_of (type_of s.doctype l.element)) p.0) p.1

data-allowed : (s : Context) (x : Piece) → token x.kind ≡ Some Pcdata → IsTrue (allowed s Pcdata) → IsTrue (is_inside s) → IsTrue (allowed (context_after x s) Pcdata)
data-allowed s x e h n = ap (λ (c : Context). allowed c Pcdata) (after-data x s e) ∙ allowed-again s s.levels n h

never : (b c : Bool) → b ≡ true → (not b && c) ≡ true → ⊥
never true c e h = cc
never false c e h = cc

not-never : (b : Bool) → b ≡ true → not b ≡ true → ⊥
not-never true e h = cc
not-never false e h = cc

none-stands : (s : Context) (y : Kind) → token y ≡ Some Pcdata → IsTrue (allowed s Pcdata) → NoneMayStand s y
unfolding leaves
none-stands s y e h o (inl m) =
    let b : IsTrue (leaves_as s y (Some Pcdata)) = subst (λ (t : Option Token). IsTrue (leaves_as s y t)) e m.2.before in
    never (allowed s Pcdata) _ h b
none-stands s y e h o (inr m) =
    let b : IsTrue (misfits s (Some Pcdata)) = subst (λ (t : Option Token). IsTrue (misfits s t)) e m.2.before in
    not-never (allowed s Pcdata) h b

no-reason : (s : Context) (y : Kind) → token y ≡ Some Pcdata → IsTrue (allowed s Pcdata) → reason s y ≡ None
unfolding reason
no-reason s y e h =
    ap (reason_by_token s y) e
    ∙ cond-true (content_may_stand s Pcdata (is_start y)) None (content_refusal s Pcdata)
    (and_from (allowed s Pcdata) _ h (ap (λ (b : Bool). not (b && is_full s)) (plain-kind y e).no_start))

pub data-goes-on : (s : Context) (x y : Piece) → token x.kind ≡ Some Pcdata → token y.kind ≡ Some Pcdata → IsTrue (allowed s Pcdata) → IsTrue (is_inside s) → DataGoesOn (context_after x s) y.kind
data-goes-on s x y e f h n =
    let a = data-allowed s x e h n in
    record { allowed = a; none_omitted = none-stands (context_after x s) y.kind f a; no_reason = no-reason (context_after x s) y.kind f a }
