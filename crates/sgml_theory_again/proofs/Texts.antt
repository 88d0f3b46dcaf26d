-- Data is allowed only where #PCDATA is in the content of the innermost element.
use Rattle.std.specs.Prelude.{◌≡◌, Bool, true, false, not, ◌||◌, cond, IsTrue, Option, Some, None, is_some, option_map, unwrap_or, List, [], ◌∷◌}
use Rattle.std.specs.Option.{option_or}
use Rattle.std.proofs.Common.{refl, sym, ap, ◌∙◌, subst}
use Rattle.std.proofs.lemmas.Bool.{and_parts, or_left, or_right}
use Rattle.sgml_theory_full.specs.model.Term.{Term, empty, name, pcdata, seq, or, and, opt, plus, rep, member, round, Terms, none, more, done}
use Rattle.sgml_theory_full.specs.model.Choice.{is_name, begun, keeping, left_by, left_in_order, left_of_some, choice}
use Rattle.sgml_theory_full.specs.dtd_elements.Types.{ElementType}
use Rattle.sgml_theory_full.specs.decl_forms.declared.declaration.Declaration.{Declaration}
use Rattle.sgml_theory_full.specs.decl_forms.declared.declaration.Declaration.TheVariants as form
use Rattle.sgml_theory_full.specs.dtd.Doctypes.{Doctype, with_declared}
use Rattle.sgml_theory_full.specs.theory_reading.Names.{Name, Text}
use Rattle.sgml_theory_full.specs.theory_reading.Types.{Content, Model, Any, Cdata, Rcdata, Void, element_type, undeclared, type_of, content_of, model_of}
use Rattle.sgml_theory_full.specs.theory_reading.Said.{type_said}
use Rattle.sgml_theory_full.specs.theory_reading.Pieces.{Piece, Kind, Sgml, Head, Declare, History}
use Rattle.sgml_theory_full.specs.theory_reading.Facets.{Token, Pcdata, Effect, Opens, Closes, Stays, effect, token, declares}
use Rattle.sgml_theory_full.specs.theory_reading.Nest.{nest}
use Rattle.sgml_theory_full.specs.theory_reading.Context.{Level, Context, context, context_after, token_left, token_taken, levels_with, levels_after}
use Rattle.sgml_theory_full.specs.theory_reading.Omission.{document_name, allowed, fits, fits_content, is_included, is_excluded, left_of}
use Rattle.sgml_theory_full.specs.theory_reading.State.{state}
use Rattle.sgml_theory_full.specs.theory_reading.Characters.{mentions_text, some_mentions, content_has_text, level_has_text, has_text}
use Rattle.sgml_theory_full.proofs.theory_reading.Contexts.{context-step}
use Rattle.sgml_theory_full.proofs.theory_reading.FirstDeclared.{first-type}

-- WHAT TAKES DATA mentions it

pub true-false : {P : Type 0} → true ≡ false → P
true-false e = absurd (cc)

one-some : {A : Type 0} (x y : A) → Some x ≡ Some y → x ≡ y
one-some x y e = cc

none-some : {A : Type 0} {P : Type 0} (x : A) → None ≡ Some x → P
none-some x e = absurd (cc)

some-of : {A : Type 0} (o p : Option A) {P : Type 0} → is_some (option_or o p) ≡ true → (is_some o ≡ true → P) → (is_some p ≡ true → P) → P
some-of None p e f g = g e
some-of (Some x) p e f g = f refl

some-mapped : {A B : Type 0} (f : A → B) (o : Option A) → is_some (option_map f o) ≡ true → is_some o ≡ true
some-mapped f None e = e
some-mapped f (Some x) e = refl

some-where : {A : Type 0} (b : Bool) (o : Option A) → is_some (cond b o None) ≡ true → is_some o ≡ true
some-where true o e = e
some-where false o e = true-false (sym e)

mutual
  takes-text : (r : Term) → is_some (left_by r Pcdata) ≡ true → mentions_text r ≡ true
  takes-text empty e = e
  takes-text (name k n) e = e
  takes-text (pcdata k) e = refl
  takes-text (seq ms) e = order-text ms e
  takes-text (or ms) e = some-text ms e
  takes-text (and ms) e = choice-text ms (some-mapped begun (choice ms Pcdata) e)
  takes-text (opt m) e = takes-text m e
  takes-text (plus m) e = takes-text m (some-mapped (λ m'. round m' m) (left_by m Pcdata) e)
  takes-text (rep m) e = takes-text m (some-mapped (λ m'. round m' m) (left_by m Pcdata) e)
  takes-text (member r ms) e =
      some-of (option_map (λ m'. member m' ms) (left_by r Pcdata)) (cond (done r) (option_map begun (choice ms Pcdata)) None) e
      (λ f. or_left (mentions_text r) (some_mentions ms) (takes-text r (some-mapped (λ m'. member m' ms) (left_by r Pcdata) f)))
      (λ f. or_right (mentions_text r) (some_mentions ms) (choice-text ms (some-mapped begun (choice ms Pcdata) (some-where (done r) (option_map begun (choice ms Pcdata)) f))))
  takes-text (round r m) e =
      some-of (option_map (λ m'. round m' m) (left_by r Pcdata)) (cond (done r) (option_map (λ m'. round m' m) (left_by m Pcdata)) None) e
      (λ f. or_left (mentions_text r) (mentions_text m) (takes-text r (some-mapped (λ m'. round m' m) (left_by r Pcdata) f)))
      (λ f. or_right (mentions_text r) (mentions_text m) (takes-text m (some-mapped (λ m'. round m' m) (left_by m Pcdata) (some-where (done r) (option_map (λ m'. round m' m) (left_by m Pcdata)) f))))

  order-text : (ms : Terms) → is_some (left_in_order ms Pcdata) ≡ true → some_mentions ms ≡ true
  order-text none e = e
  order-text (more m ms) e =
      some-of (option_map (λ m'. seq (more m' ms)) (left_by m Pcdata)) (cond (done m) (left_in_order ms Pcdata) None) e
      (λ f. or_left (mentions_text m) (some_mentions ms) (takes-text m (some-mapped (λ m'. seq (more m' ms)) (left_by m Pcdata) f)))
      (λ f. or_right (mentions_text m) (some_mentions ms) (order-text ms (some-where (done m) (left_in_order ms Pcdata) f)))

  some-text : (ms : Terms) → is_some (left_of_some ms Pcdata) ≡ true → some_mentions ms ≡ true
  some-text none e = e
  some-text (more m ms) e =
      some-of (left_by m Pcdata) (left_of_some ms Pcdata) e
      (λ f. or_left (mentions_text m) (some_mentions ms) (takes-text m f))
      (λ f. or_right (mentions_text m) (some_mentions ms) (some-text ms f))

  choice-text : (ms : Terms) → is_some (choice ms Pcdata) ≡ true → some_mentions ms ≡ true
  choice-text none e = e
  choice-text (more m ms) e =
      some-of (option_map (λ m'. (m', ms)) (left_by m Pcdata)) (option_map (keeping m) (choice ms Pcdata)) e
      (λ f. or_left (mentions_text m) (some_mentions ms) (takes-text m (some-mapped (λ m'. (m', ms)) (left_by m Pcdata) f)))
      (λ f. or_right (mentions_text m) (some_mentions ms) (choice-text ms (some-mapped (keeping m) (choice ms Pcdata) f)))

-- WHAT IS LEFT mentions it only where the whole does

one-of : {A : Type 0} (o p : Option A) (x : A) {P : Type 0} → option_or o p ≡ Some x → (o ≡ Some x → P) → (p ≡ Some x → P) → P
one-of None p x e f g = g e
one-of (Some y) p x e f g = f e

record FromMap {A B : Type 0} (f : A → B) (o : Option A) (y : B) : Type 0 where
  from : A
  there : o ≡ Some from
  is : f from ≡ y

from-map : {A B : Type 0} (f : A → B) (o : Option A) (y : B) → option_map f o ≡ Some y → FromMap f o y
from-map f None y e = none-some y e
from-map f (Some x) y e = record { from = x; there = refl; is = (let g : f x ≡ y = cc in g) }

where-some : {A : Type 0} (b : Bool) (o : Option A) (x : A) → cond b o None ≡ Some x → o ≡ Some x
where-some true o x e = e
where-some false o x e = none-some x e

two-of : (a b c : Bool) → (a || b) ≡ true → (a ≡ true → c ≡ true) → (b ≡ true → c ≡ true) → c ≡ true
two-of true b c e f g = f refl
two-of false b c e f g = g e

kept : (m : Term) (ms : Terms) (q : Term × Terms) → ((mentions_text q.0 || some_mentions q.1) ≡ true → some_mentions ms ≡ true)
    → (mentions_text q.0 || (mentions_text m || some_mentions q.1)) ≡ true → (mentions_text m || some_mentions ms) ≡ true
kept m ms q f t =
    two-of (mentions_text q.0) (mentions_text m || some_mentions q.1) (mentions_text m || some_mentions ms) t
    (λ g. or_right (mentions_text m) (some_mentions ms) (f (or_left (mentions_text q.0) (some_mentions q.1) g)))
    (λ g. two-of (mentions_text m) (some_mentions q.1) (mentions_text m || some_mentions ms) g
    (λ k. or_left (mentions_text m) (some_mentions ms) k)
    (λ k. or_right (mentions_text m) (some_mentions ms) (f (or_right (mentions_text q.0) (some_mentions q.1) k))))

mutual
  left-text : (r : Term) (k : Token) (x : Term) → left_by r k ≡ Some x → mentions_text x ≡ true → mentions_text r ≡ true
  left-text empty k x e t = none-some x e
  left-text (name j n) k x e t =
      true-false (sym (ap mentions_text (one-some empty x (where-some (is_name n k) (Some empty) x e)) ∙ t))
  left-text (pcdata j) k x e t = refl
  left-text (seq ms) k x e t = left-order ms k x e t
  left-text (or ms) k x e t = left-some ms k x e t
  left-text (and ms) k x e t =
      let f = from-map begun (choice ms k) x e in
      left-choice ms k f.from f.there (ap mentions_text f.is ∙ t)
  left-text (opt m) k x e t = left-text m k x e t
  left-text (plus m) k x e t =
      let f = from-map (λ m'. round m' m) (left_by m k) x e in
      two-of (mentions_text f.from) (mentions_text m) (mentions_text m) (ap mentions_text f.is ∙ t) (left-text m k f.from f.there) (λ g. g)
  left-text (rep m) k x e t =
      let f = from-map (λ m'. round m' m) (left_by m k) x e in
      two-of (mentions_text f.from) (mentions_text m) (mentions_text m) (ap mentions_text f.is ∙ t) (left-text m k f.from f.there) (λ g. g)
  left-text (member r ms) k x e t =
      one-of (option_map (λ m'. member m' ms) (left_by r k)) (cond (done r) (option_map begun (choice ms k)) None) x e
      (λ h.
      let f = from-map (λ m'. member m' ms) (left_by r k) x h in
      two-of (mentions_text f.from) (some_mentions ms) (mentions_text r || some_mentions ms) (ap mentions_text f.is ∙ t)
      (λ g. or_left (mentions_text r) (some_mentions ms) (left-text r k f.from f.there g))
      (λ g. or_right (mentions_text r) (some_mentions ms) g))
      (λ h.
      let f = from-map begun (choice ms k) x (where-some (done r) (option_map begun (choice ms k)) x h) in
      or_right (mentions_text r) (some_mentions ms) (left-choice ms k f.from f.there (ap mentions_text f.is ∙ t)))
  left-text (round r m) k x e t =
      one-of (option_map (λ m'. round m' m) (left_by r k)) (cond (done r) (option_map (λ m'. round m' m) (left_by m k)) None) x e
      (λ h.
      let f = from-map (λ m'. round m' m) (left_by r k) x h in
      two-of (mentions_text f.from) (mentions_text m) (mentions_text r || mentions_text m) (ap mentions_text f.is ∙ t)
      (λ g. or_left (mentions_text r) (mentions_text m) (left-text r k f.from f.there g))
      (λ g. or_right (mentions_text r) (mentions_text m) g))
      (λ h.
      let f = from-map (λ m'. round m' m) (left_by m k) x (where-some (done r) (option_map (λ m'. round m' m) (left_by m k)) x h) in
      two-of (mentions_text f.from) (mentions_text m) (mentions_text r || mentions_text m) (ap mentions_text f.is ∙ t)
      (λ g. or_right (mentions_text r) (mentions_text m) (left-text m k f.from f.there g))
      (λ g. or_right (mentions_text r) (mentions_text m) g))

  left-order : (ms : Terms) (k : Token) (x : Term) → left_in_order ms k ≡ Some x → mentions_text x ≡ true → some_mentions ms ≡ true
  left-order none k x e t = none-some x e
  left-order (more m ms) k x e t =
      one-of (option_map (λ m'. seq (more m' ms)) (left_by m k)) (cond (done m) (left_in_order ms k) None) x e
      (λ h.
      let f = from-map (λ m'. seq (more m' ms)) (left_by m k) x h in
      two-of (mentions_text f.from) (some_mentions ms) (mentions_text m || some_mentions ms) (ap mentions_text f.is ∙ t)
      (λ g. or_left (mentions_text m) (some_mentions ms) (left-text m k f.from f.there g))
      (λ g. or_right (mentions_text m) (some_mentions ms) g))
      (λ h. or_right (mentions_text m) (some_mentions ms) (left-order ms k x (where-some (done m) (left_in_order ms k) x h) t))

  left-some : (ms : Terms) (k : Token) (x : Term) → left_of_some ms k ≡ Some x → mentions_text x ≡ true → some_mentions ms ≡ true
  left-some none k x e t = none-some x e
  left-some (more m ms) k x e t =
      one-of (left_by m k) (left_of_some ms k) x e
      (λ h. or_left (mentions_text m) (some_mentions ms) (left-text m k x h t))
      (λ h. or_right (mentions_text m) (some_mentions ms) (left-some ms k x h t))

  left-choice : (ms : Terms) (k : Token) (p : Term × Terms) → choice ms k ≡ Some p → (mentions_text p.0 || some_mentions p.1) ≡ true → some_mentions ms ≡ true
  left-choice none k p e t = none-some p e
  left-choice (more m ms) k p e t =
      one-of (option_map (λ m'. (m', ms)) (left_by m k)) (option_map (keeping m) (choice ms k)) p e
      (λ h.
      let f = from-map (λ m'. (m', ms)) (left_by m k) p h in
      two-of (mentions_text f.from) (some_mentions ms) (mentions_text m || some_mentions ms)
      (ap (λ (q : Term × Terms). mentions_text q.0 || some_mentions q.1) f.is ∙ t)
      (λ g. or_left (mentions_text m) (some_mentions ms) (left-text m k f.from f.there g))
      (λ g. or_right (mentions_text m) (some_mentions ms) g))
      (λ h.
      let f = from-map (keeping m) (choice ms k) p h in
      kept m ms f.from (left-choice ms k f.from f.there) (ap (λ (q : Term × Terms). mentions_text q.0 || some_mentions q.1) f.is ∙ t))

-- after a token, or where it isn't taken
token-text : (r : Term) (k : Token) → mentions_text (token_left r k) ≡ true → mentions_text r ≡ true
token-text r k t = go (left_by r k) refl
  where
    go : (o : Option Term) → left_by r k ≡ o → mentions_text r ≡ true
    go None e = ap (λ o. mentions_text (unwrap_or o r)) (sym e) ∙ t
    go (Some x) e = left-text r k x e (ap (λ o. mentions_text (unwrap_or o r)) (sym e) ∙ t)

taken-text : (o : Option Token) (r : Term) → mentions_text (token_taken o r) ≡ true → mentions_text r ≡ true
taken-text None r t = t
taken-text (Some k) r t = token-text r k t

-- OPEN ELEMENTS: what is left of one mentions data only where its type has it
abbrev Texted : Doctype → Level → Type 0
Texted d l = mentions_text l.left ≡ true → content_has_text (content_of (type_of d l.element)) ≡ true

abbrev AllTexted : Doctype → List Level → Type 0
AllTexted d [] = Unit {0}
AllTexted d (l ∷ ls) = Texted d l × AllTexted d ls

-- the first declaration of a type holds
abbrev of_type : Option ElementType → Content
of_type o = content_of (unwrap_or o undeclared)

first-text : (o p : Option ElementType) → content_has_text (of_type o) ≡ true → content_has_text (of_type (option_or o p)) ≡ true
first-text None p e = true-false (sym e)
first-text (Some t) p e = e

declared-text : (base : Text) (d : Doctype) (says : Declaration) (n : Name) → content_has_text (content_of (type_of d n)) ≡ true
    → content_has_text (content_of (type_of (with_declared base d says) n)) ≡ true
unfolding type_of
declared-text base d says n e =
    ap (λ o. content_has_text (of_type o)) (first-type d base says n) ∙ first-text (element_type d n) (type_said d.syntax n says) e

still-text : (k : Kind) (d : Doctype) (n : Name) → content_has_text (content_of (type_of d n)) ≡ true → content_has_text (content_of (type_of (declares k d) n)) ≡ true
unfolding declares type_of element_type
still-text (Sgml syntax) d n e = e
still-text (Head head base) d n e = declared-text base d (form.Doctype head) n e
still-text (Declare lexemes says base) d n e = declared-text base d says n e
still-text k d n e = e

still-texted : (k : Kind) (d : Doctype) (ls : List Level) → AllTexted d ls → AllTexted (declares k d) ls
still-texted k d [] t = tt
still-texted k d (l ∷ ls) t = (λ e. still-text k d l.element (t.0 e), still-texted k d ls t.1)

with-texted : (d : Doctype) (k : Kind) (ls : List Level) → AllTexted d ls → AllTexted d (levels_with k ls)
with-texted d k [] t = tt
with-texted d k (l ∷ ls) t = (λ e. t.0 (taken-text (token k) l.left e), t.1)

model-text : (content : Content) → mentions_text (model_of content) ≡ true → content_has_text content ≡ true
model-text (Model term) e = e
model-text Any e = refl
model-text Cdata e = refl
model-text Rcdata e = refl
model-text Void e = e

after-texted : (d : Doctype) (f : Effect) (k : Kind) (ls : List Level) → AllTexted d ls → AllTexted d (levels_after d f k ls)
after-texted d (Opens n slash) k ls t = (model-text (content_of (type_of d n)), with-texted d k ls t)
after-texted d Closes k [] t = tt
after-texted d Closes k (l ∷ ls) t = t.1
after-texted d Stays k ls t = with-texted d k ls t

abbrev IsTexted : Context → Type 0
IsTexted c = AllTexted c.doctype c.levels

step-texted : (p : Piece) (c : Context) → IsTexted c → IsTexted (context_after p c)
unfolding context_after
step-texted p c t =
    still-texted p.kind c.doctype (levels_after c.doctype (effect p.kind) p.kind c.levels) (after-texted c.doctype (effect p.kind) p.kind c.levels t)

none-open : IsTexted (context [])
unfolding context nest
none-open = tt

texted : (h : History) → IsTexted (context h)
texted [] = none-open
texted (p ∷ h) = subst IsTexted (sym (context-step p h)) (step-texted p (context h) (texted h))

-- WHERE DATA IS ALLOWED
no-name : (d : Doctype) (b i : Bool) → is_some (left_by (left_of (record { doctype = d; levels = []; begun = b; inferred = i })) Pcdata) ≡ false
no-name d true i = refl
no-name d false i = by d.name
  where
    by : (o : Option Name) → is_some (left_by (document_name o) Pcdata) ≡ false
    by None = refl
    by (Some n) = refl

none-includes : (d : Doctype) (ls : List Level) → is_included d ls Pcdata ≡ false
none-includes d [] = refl
none-includes d (l ∷ ls) = none-includes d ls

fits-text : (d : Doctype) (l : Level) (ls : List Level) (b i : Bool) (content : Content) → (mentions_text l.left ≡ true → content_has_text content ≡ true)
    → fits_content (record { doctype = d; levels = l ∷ ls; begun = b; inferred = i }) content Pcdata ≡ true → content_has_text content ≡ true
fits-text d l ls b i (Model term) t f =
    two-of (is_some (left_by l.left Pcdata)) (is_included d (l ∷ ls) Pcdata) (mentions_text term) f
    (λ g. t (takes-text l.left g)) (λ g. true-false (sym (sym (none-includes d (l ∷ ls)) ∙ g)))
fits-text d l ls b i Any t f = refl
fits-text d l ls b i Cdata t f = refl
fits-text d l ls b i Rcdata t f = refl
fits-text d l ls b i Void t f = f

text-at : (d : Doctype) (ls : List Level) (b i : Bool) → AllTexted d ls → fits (record { doctype = d; levels = ls; begun = b; inferred = i }) Pcdata ≡ true → level_has_text d ls ≡ true
text-at d [] b i t f = true-false (sym (sym (no-name d b i) ∙ f))
text-at d (l ∷ ls) b i t f = fits-text d l ls b i (content_of (type_of d l.element)) t.0 f

pub allowed-text : (h : History) → IsTrue (allowed (context h) Pcdata) → has_text (state h) ≡ true
unfolding allowed has_text state
allowed-text h a =
    let c = context h in
    text-at c.doctype c.levels c.begun c.inferred (texted h)
    (and_parts (fits c Pcdata) (not (is_excluded c Pcdata)) a).0
