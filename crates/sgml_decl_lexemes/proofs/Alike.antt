-- Stacks that are alike: what is unread of them, and what references reach.
use Rattle.std.proofs.Common.{◌≡◌, ℕ, suc, Bool, true, false, List, [], ◌∷◌, ◌+◌, ◌<◌, ◌≤◌, ◌==◌, Option, None, Some, is_some, length, drop, nat_lt, refl, sym, ◌∙◌, ap, subst, if◌then◌else◌, arith, drop-drop, eqb-true}
use Rattle.std.specs.List.{list_any}
use Rattle.sgml_text.specs.declared.place.Place.{Place}
use Rattle.sgml_text.specs.declared.reason.Reason.TheVariants as reason
use Rattle.sgml_syntax.specs.declared.syntax.Syntax.{Syntax}
use Rattle.sgml_entity.specs.declared.kinds.Body.{Body}
use Rattle.sgml_entity.specs.declared.kinds.Body.TheVariants as body
use Rattle.sgml_entity.specs.declared.kinds.Entity.{Entity}
use Rattle.sgml_entity.specs.declared.kinds.Space.{Space}
use Rattle.sgml_entity.specs.declared.kinds.Space.TheVariants as space
use Rattle.sgml_entity.specs.declared.places.StackRefused.{StackRefused}
use Rattle.sgml_entity.specs.Entities.{number_of, entity_at}
use Rattle.sgml_entity.specs.Stack.{Stack, moved, lower, opened, refusal, refusal_by, is_on}
use Rattle.sgml_entity.specs.Texts.{text_of}
use Rattle.sgml_text.specs.Characters.{all_sgml}
use Rattle.sgml_decl_lexemes.specs.declared.fault.Fault.TheVariants.{Wanting, Refusing}
use Rattle.sgml_decl_lexemes.specs.declared.fault.Reached.{Reached}
use Rattle.sgml_decl_lexemes.specs.declared.fault.Reached.TheVariants.{Opens, PutsText, PutsData, Fails}
use Rattle.sgml_decl_lexemes.specs.Sources.{Source, top_text, unread, text_at, or_given, or_empty, internal_text, body_text, folded, opened_by, opening, given_or_wanted, reach_external, data_for, reach_body, reach_entity, reach_number, reached}
use Rattle.sgml_decl_lexemes.specs.Alike.{AreAlike, StacksAlike, Extends}

-- THE STACKS

alike-length : (I J : Source) (ps qs : List Place) → AreAlike I J ps qs → length ps ≡ length qs
alike-length I J [] [] a = refl
alike-length I J (p ∷ ps) (q ∷ qs) a = ap suc (alike-length I J ps qs a.2)
alike-length I J [] (q ∷ qs) a = absurd a
alike-length I J (p ∷ ps) [] a = absurd a

pub length-alike : (I J : Source) (s t : Stack) → StacksAlike I J s t → length s.places ≡ length t.places
length-alike I J s t a = alike-length I J s.places t.places a.places

alike-on : (I J : Source) (n : ℕ) (ps qs : List Place) → AreAlike I J ps qs → is_on n ps ≡ is_on n qs
alike-on I J n [] [] a = refl
alike-on I J n (p ∷ ps) (q ∷ qs) a = λ i. Rattle.std.specs.Prelude.◌||◌ (a.0 i == n) (alike-on I J n ps qs a.2 i)
alike-on I J n [] (q ∷ qs) a = absurd a
alike-on I J n (p ∷ ps) [] a = absurd a

alike-moved : (I J : Source) (n : ℕ) (ps qs : List Place) → AreAlike I J ps qs → AreAlike I J (moved n ps) (moved n qs)
alike-moved I J n [] [] a = tt
alike-moved I J n (p ∷ ps) (q ∷ qs) a = (
  a.0,
  λ l. sym (drop-drop n p.at (top_text I (length (p ∷ ps)) p.entity)) ∙ (ap (drop n) (a.1 l) ∙ drop-drop n q.at (top_text J (length (q ∷ qs)) q.entity)),
  a.2,
)
alike-moved I J n [] (q ∷ qs) a = absurd a
alike-moved I J n (p ∷ ps) [] a = absurd a

alike-lower : (I J : Source) (ps qs : List Place) → AreAlike I J ps qs → AreAlike I J (lower ps) (lower qs)
alike-lower I J [] [] a = tt
alike-lower I J (p ∷ ps) (q ∷ qs) a = a.2
alike-lower I J [] (q ∷ qs) a = absurd a
alike-lower I J (p ∷ ps) [] a = absurd a

pub unread-alike : (I J : Source) (ps qs : List Place) → AreAlike I J ps qs → 0 < length ps → I.height ≤ length ps → unread I ps ≡ unread J qs
unread-alike I J [] [] a some l = absurd (omega (arith, some))
unread-alike I J (p ∷ ps) (q ∷ qs) a some l = a.1 l
unread-alike I J [] (q ∷ qs) a some l = absurd a
unread-alike I J (p ∷ ps) [] a some l = absurd a

-- WHAT A REFERENCE REACHES, but for a text that is wanted

abbrev pub is_wanting : Reached → Bool
is_wanting (Fails (Wanting n)) = true
is_wanting _ = false

refusal-alike : (I J : Source) (n k : ℕ) (s t : Stack) → StacksAlike I J s t → refusal n k s ≡ refusal n k t
refusal-alike I J n k s t a =
    λ i. refusal_by (alike-on I J n s.places t.places a.places i) (nat_lt (a.levels i) (length-alike I J s t a i)) (nat_lt (a.expand i) (a.spent i + k))

opening-alike : (I J : Source) (n : ℕ) (text : List ℕ) (s t : Stack) → StacksAlike I J s t → opening s n text ≡ opening t n text
opening-alike I J n text s t a = ap (λ o. opened_by o n text) (refusal-alike I J n (length text) s t a)

given-alike : (I J : Source) (n : ℕ) (s t : Stack) (x y : Option (List ℕ)) → StacksAlike I J s t → ((text : List ℕ) → x ≡ Some text → y ≡ Some text)
    → is_wanting (given_or_wanted s n x) ≡ false → given_or_wanted s n x ≡ given_or_wanted t n y
given-alike I J n s t None y a more w = absurd (never w)
  where
    never : true ≡ false → ⊥
    never e = cc
given-alike I J n s t (Some text) y a more w = opening-alike I J n text s t a ∙ sym (ap (given_or_wanted t n) (more text refl))

external-by : (I J : Source) (n : ℕ) (s t : Stack) (u : Bool) → is_some (entity_at I.entities n) ≡ true → Extends I J → StacksAlike I J s t
    → is_wanting (if u then Fails (Refusing reason.Recursive) else given_or_wanted s n (text_of I.texts n)) ≡ false
    → (if u then Fails (Refusing reason.Recursive) else given_or_wanted s n (text_of I.texts n))
    ≡ (if u then Fails (Refusing reason.Recursive) else given_or_wanted t n (text_of J.texts n))
external-by I J n s t true g x a w = refl
external-by I J n s t false g x a w = given-alike I J n s t (text_of I.texts n) (text_of J.texts n) a (λ text e. x.texts n text g e) w

external-alike : (I J : Source) (n : ℕ) (s t : Stack) → is_some (entity_at I.entities n) ≡ true → Extends I J → StacksAlike I J s t → is_wanting (reach_external I s n) ≡ false → reach_external I s n ≡ reach_external J t n
external-alike I J n s t g x a w =
    external-by I J n s t (is_on n s.places) g x a w
    ∙ ap (λ u. if u then Fails (Refusing reason.Recursive) else given_or_wanted t n (text_of J.texts n)) (alike-on I J n s.places t.places a.places)

body-alike : (I J : Source) (by : Space) (n : ℕ) (s t : Stack) (b : Body) → is_some (entity_at I.entities n) ≡ true → Extends I J → StacksAlike I J s t → is_wanting (reach_body I s by n b) ≡ false → reach_body I s by n b ≡ reach_body J t by n b
body-alike I J by n s t (body.Sgml text) g x a w = opening-alike I J n text s t a
body-alike I J by n s t (body.External e) g x a w = external-alike I J n s t g x a w
body-alike I J by n s t (body.Cdata text) g x a w = refl
body-alike I J by n s t (body.Sdata text) g x a w = refl
body-alike I J by n s t (body.Pi text) g x a w = refl
body-alike I J by n s t (body.ExternalData k e o) g x a w = refl

entity-alike : (I J : Source) (by : Space) (n : ℕ) (s t : Stack) (o : Option Entity) → entity_at I.entities n ≡ o → Extends I J → StacksAlike I J s t → is_wanting (reach_entity I s by n o) ≡ false → reach_entity I s by n o ≡ reach_entity J t by n o
entity-alike I J by n s t None g x a w = refl
entity-alike I J by n s t (Some e) g x a w = body-alike I J by n s t e.body (ap is_some g) x a w

number-alike : (I J : Source) (by : Space) (s t : Stack) (o : Option ℕ) → Extends I J → StacksAlike I J s t → is_wanting (reach_number I s by o) ≡ false → reach_number I s by o ≡ reach_number J t by o
number-alike I J by s t None x a w = refl
number-alike I J by s t (Some n) x a w =
    entity-alike I J by n s t (entity_at I.entities n) refl x a w ∙ ap (λ es. reach_entity J t by n (entity_at es n)) x.entities

named-alike : (I J : Source) (by : Space) (s t : Stack) (name : List ℕ) (long : Bool) → Extends I J → StacksAlike I J s t
    → is_wanting (if long then Fails (Refusing reason.NameLength) else reach_number I s by (number_of I.entities by (folded I.syntax.entity_fold name))) ≡ false
    → (if long then Fails (Refusing reason.NameLength) else reach_number I s by (number_of I.entities by (folded I.syntax.entity_fold name)))
    ≡ (if long then Fails (Refusing reason.NameLength) else reach_number J t by (number_of J.entities by (folded J.syntax.entity_fold name)))
named-alike I J by s t name true x a w = refl
named-alike I J by s t name false x a w =
    number-alike I J by s t (number_of I.entities by (folded I.syntax.entity_fold name)) x a w
    ∙ (λ i. reach_number J t by (number_of (x.entities i) by (folded (x.syntax i).entity_fold name)))

pub reached-alike : (I J : Source) (by : Space) (s t : Stack) (name : List ℕ) → Extends I J → StacksAlike I J s t → is_wanting (reached I s by name) ≡ false → reached I s by name ≡ reached J t by name
reached-alike I J by s t name x a w =
    named-alike I J by s t name (nat_lt I.syntax.quantities.namelen (length name)) x a w
    ∙ ap (λ (q : Syntax). if nat_lt q.quantities.namelen (length name) then Fails (Refusing reason.NameLength) else reach_number J t by (number_of J.entities by (folded J.syntax.entity_fold name))) x.syntax

-- THE TEXT that it opens

text-of-body : (I J : Source) (s : Stack) (by : Space) (n k m : ℕ) (e : Entity) → Extends I J → reach_body I s by m e.body ≡ Opens n k → entity_at I.entities m ≡ Some e
    → text_at I.entities I.texts n ≡ text_at J.entities J.texts n
text-of-body I J s by n k m e x r is = by-body e.body refl r
  where
    same-number : (text : List ℕ) → opening s m text ≡ Opens n k → m ≡ n
    same-number text r = by-refusal (refusal m (length text) s) r
      where
        by-sgml : (t : Bool) → (if t then Opens m (length text) else Fails (Refusing reason.NonSgml)) ≡ Opens n k → m ≡ n
        by-sgml true r = cc
        by-sgml false r = absurd (cc)

        by-refusal : (o : Option StackRefused) → opened_by o m text ≡ Opens n k → m ≡ n
        by-refusal (Some q) r = absurd (cc)
        by-refusal None r = by-sgml (all_sgml text) r

    inside : (text : List ℕ) → e.body ≡ body.Sgml text → text_at I.entities I.texts m ≡ text_at J.entities J.texts m
    inside text b =
        ap (λ o. or_given (internal_text o) (text_of I.texts m)) is
        ∙ (ap (λ z. or_given (body_text z) (text_of I.texts m)) b
        ∙ sym (ap (λ es. or_given (internal_text (entity_at es m)) (text_of J.texts m)) (sym x.entities)
        ∙ (ap (λ o. or_given (internal_text o) (text_of J.texts m)) is ∙ ap (λ z. or_given (body_text z) (text_of J.texts m)) b)))

    outside : body_text e.body ≡ None → (o : Option (List ℕ)) → text_of I.texts m ≡ o → given_or_wanted s m o ≡ Opens n k → (text_at I.entities I.texts m ≡ text_at J.entities J.texts m) × (m ≡ n)
    outside b None t r = absurd (cc)
    outside b (Some text) t r = (
      ap (λ o. or_given (internal_text o) (text_of I.texts m)) is
          ∙ (ap (λ z. or_given z (text_of I.texts m)) b ∙ (t
          ∙ sym (ap (λ es. or_given (internal_text (entity_at es m)) (text_of J.texts m)) (sym x.entities)
          ∙ (ap (λ o. or_given (internal_text o) (text_of J.texts m)) is ∙ (ap (λ z. or_given z (text_of J.texts m)) b ∙ x.texts m text (ap is_some is) t))))),
      same-number text r,
    )

    by-on : (u : Bool) → body_text e.body ≡ None → (if u then Fails (Refusing reason.Recursive) else given_or_wanted s m (text_of I.texts m)) ≡ Opens n k → text_at I.entities I.texts n ≡ text_at J.entities J.texts n
    by-on true b r = absurd (cc)
    by-on false b r =
        let both = outside b (text_of I.texts m) refl r in
        subst (λ z. text_at I.entities I.texts z ≡ text_at J.entities J.texts z) both.1 both.0

    by-data : (y : Space) (z : Reached) → (z ≡ Opens n k → ⊥) → data_for y z ≡ Opens n k → ⊥
    by-data space.General z f r = f r
    by-data space.Parameter z f r = cc

    by-body : (b : Body) → e.body ≡ b → reach_body I s by m b ≡ Opens n k → text_at I.entities I.texts n ≡ text_at J.entities J.texts n
    by-body (body.Sgml text) b r = subst (λ z. text_at I.entities I.texts z ≡ text_at J.entities J.texts z) (same-number text r) (inside text b)
    by-body (body.External z) b r = by-on (is_on m s.places) (ap body_text b) r
    by-body (body.Cdata text) b r = absurd (by-data by (PutsText m) (λ e. cc) r)
    by-body (body.Sdata text) b r = absurd (by-data by (PutsData m) (λ e. cc) r)
    by-body (body.Pi text) b r = absurd (cc)
    by-body (body.ExternalData z y o) b r = absurd (cc)

text-of-entity : (I J : Source) (s : Stack) (by : Space) (n k m : ℕ) (o : Option Entity) → Extends I J → entity_at I.entities m ≡ o → reach_entity I s by m o ≡ Opens n k
    → text_at I.entities I.texts n ≡ text_at J.entities J.texts n
text-of-entity I J s by n k m None x is r = absurd (cc)
text-of-entity I J s by n k m (Some e) x is r = text-of-body I J s by n k m e x r is

text-of-number : (I J : Source) (s : Stack) (by : Space) (n k : ℕ) (o : Option ℕ) → Extends I J → reach_number I s by o ≡ Opens n k → text_at I.entities I.texts n ≡ text_at J.entities J.texts n
text-of-number I J s by n k None x r = absurd (cc)
text-of-number I J s by n k (Some m) x r = text-of-entity I J s by n k m (entity_at I.entities m) x refl r

pub opened-text : (I J : Source) (s : Stack) (by : Space) (name : List ℕ) (n k : ℕ) → Extends I J → reached I s by name ≡ Opens n k → text_at I.entities I.texts n ≡ text_at J.entities J.texts n
opened-text I J s by name n k x r = by-long (nat_lt I.syntax.quantities.namelen (length name)) r
  where
    by-long : (t : Bool) → (if t then Fails (Refusing reason.NameLength) else reach_number I s by (number_of I.entities by (folded I.syntax.entity_fold name))) ≡ Opens n k
        → text_at I.entities I.texts n ≡ text_at J.entities J.texts n
    by-long true r = absurd (cc)
    by-long false r = text-of-number I J s by n k (number_of I.entities by (folded I.syntax.entity_fold name)) x r

-- STACKS AFTER A PART

pub advanced-alike : (I J : Source) (n : ℕ) (s t : Stack) → StacksAlike I J s t → StacksAlike I J (record s { places = moved n s.places }) (record t { places = moved n t.places })
advanced-alike I J n s t a = record { levels = a.levels; expand = a.expand; spent = a.spent; places = alike-moved I J n s.places t.places a.places }

pub lower-alike : (I J : Source) (s t : Stack) → StacksAlike I J s t → StacksAlike I J (record s { places = lower s.places }) (record t { places = lower t.places })
lower-alike I J s t a = record { levels = a.levels; expand = a.expand; spent = a.spent; places = alike-lower I J s.places t.places a.places }

above : (I : Source) (k e : ℕ) → I.height ≤ k → top_text I (suc k) e ≡ or_empty (text_at I.entities I.texts e)
above I k e l = by (suc k == I.height) refl
  where
    by : (t : Bool) → (suc k == I.height) ≡ t → (if t then I.own else or_empty (text_at I.entities I.texts e)) ≡ or_empty (text_at I.entities I.texts e)
    by true is = let same : suc k ≡ I.height = eqb-true (suc k) I.height is in absurd (omega (arith, same, l))
    by false is = refl

pub opened-alike : (I J : Source) (n k : ℕ) (s t : Stack) → Extends I J → text_at I.entities I.texts n ≡ text_at J.entities J.texts n → I.height ≤ length s.places → StacksAlike I J s t
    → StacksAlike I J (opened n k s) (opened n k t)
opened-alike I J n k s t x e l a = record {
  levels = a.levels;
  expand = a.expand;
  spent = ap (λ z. z + k) a.spent;
  places = (
    refl,
    λ h. above I (length s.places) n l ∙ (ap or_empty e ∙ sym (above J (length t.places) n (let g = length-alike I J s t a in let q = x.height in omega (arith, g, q, l)))),
    a.places,
  );
}
