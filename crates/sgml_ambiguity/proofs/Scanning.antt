-- The scan of a list of members, from the last one back.
use Rattle.std.proofs.Common.{◌≡◌, ℕ, zero, suc, ◌-◌, ◌&&◌, ◌<◌, ◌≤◌, Bool, true, false, List, [], ◌∷◌, ◌++◌, map, length, drop, get_or, Option, Some, None, refl, sym, ap, ◌∙◌, subst, arith, drop-cons}
use Rattle.std.proofs.lemmas.List.{map-append}
use Rattle.std.specs.Option.{option_or}
use Rattle.sgml_model.specs.Term as t
use Rattle.sgml_model.specs.Term.{Terms, none, more, done, all_done, some_done}
use Rattle.sgml_model.specs.declared.term.Term.{Term}
use Rattle.sgml_model.specs.View.{view, terms}
use Rattle.sgml_ambiguity.specs.declared.token.Token.{Token}
use Rattle.sgml_ambiguity.specs.declared.token.Part.{Part}
use Rattle.sgml_ambiguity.specs.declared.accumulated.Rest.{Rest}
use Rattle.sgml_ambiguity.specs.declared.accumulated.Among.{Among}
use Rattle.sgml_ambiguity.specs.declared.token.ScanError.{ScanError}
use Rattle.sgml_ambiguity.specs.declared.token.ScanError.TheVariants as errors
use Rattle.sgml_ambiguity.specs.Scan.{token_view, cross, crossed, when, heads, firsts, firsts_in_order, firsts_of_some, lasts, lasts_in_order, lasts_of_some, lasts_among, clash, clash_in_order, clash_apart, clash_among}
use Rattle.sgml_ambiguity.specs.Parts.{Lists, RestLists, AmongLists, Fails}

pub from_last : (ms : List Term) (i : ℕ) (m : Term) → 0 < i → i ≤ length ms → m ≡ get_or ms (i - 1) m →
    terms (map view (drop (i - 1) ms)) ≡ more (view m) (terms (map view (drop i ms)))
from_last ms i m p q is =
    let back : suc (i - 1) ≡ i = omega arith in
    ap (λ l. terms (map view l)) (drop-cons ms (i - 1) m (omega arith) ∙ ap (λ x. x ∷ drop (suc (i - 1)) ms) (sym is))
    ∙ ap (λ n. more (view m) (terms (map view (drop n ms)))) back

-- a clash that is found behind is the one of all
early : (c : Terms → Option (t.Token × t.Token)) → ((m : t.Term) (ms : Terms) (p : t.Token × t.Token) → c ms ≡ Some p → c (more m ms) ≡ Some p) →
    (ms : List Term) (j : ℕ) (p : t.Token × t.Token) → c (terms (map view (drop j ms))) ≡ Some p → c (terms (map view ms)) ≡ Some p
early c law ms zero p h = h
early c law [] (suc j) p h = h
early c law (m ∷ ms) (suc j) p h = law (view m) (terms (map view ms)) p (early c law ms j p h)

fails_to : (e : ScanError) (c d : Option (t.Token × t.Token)) → ((p : t.Token × t.Token) → c ≡ Some p → d ≡ Some p) → Fails e c → Fails e d
fails_to errors.Memory c d f h = tt
fails_to (errors.Clash a b) c d f h = f (token_view a, token_view b) h

or_left : {A : Type 0} (a b : Option A) (x : A) → a ≡ Some x → option_or a b ≡ Some x
or_left (Some y) b x h = h
or_left None b x h = cc

or_right : {A : Type 0} (a b : Option A) (x : A) → a ≡ None → b ≡ Some x → option_or a b ≡ Some x
or_right None b x h k = k
or_right (Some y) b x h k = cc

or_both : {A : Type 0} (a b : Option A) → a ≡ None → b ≡ None → option_or a b ≡ None
or_both None b h k = k
or_both (Some y) b h k = cc

map_when : (b : Bool) (xs : List Token) → map token_view (when b xs) ≡ when b (map token_view xs)
map_when true xs = refl
map_when false xs = refl

module _ (p : Part) (x : t.Term) (a : Lists p (clash x) (done x) (firsts x) (lasts x)) where
  joined : (b c : List t.Token) (xs ys : List Token) → map token_view xs ≡ b → map token_view ys ≡ c → map token_view (xs ++ ys) ≡ b ++ c
  joined b c xs ys e f = map-append token_view xs ys ∙ ap (λ l. l ++ map token_view ys) e ∙ ap (λ l. b ++ l) f

  chosen : (b : Bool) (c : Bool) (l : List t.Token) (xs : List Token) → b ≡ c → map token_view xs ≡ l → map token_view (when b xs) ≡ when c l
  chosen b c l xs e f = map_when b xs ∙ ap (λ d. when d (map token_view xs)) e ∙ ap (when c) f

  -- in a sequence
  module _ (rest : Rest) (ms : Terms) (b : RestLists rest (clash_in_order ms) (all_done ms) (firsts_in_order ms) (lasts_in_order ms)) where
    own_firsts : map token_view (when p.done p.firsts.items) ≡ when (done x) (firsts x)
    own_firsts = chosen p.done (done x) (firsts x) p.firsts.items a.done_is a.firsts_are

    before_cross : option_or (cross (map token_view p.lasts.items) (map token_view rest.firsts.tokens.items)) (cross (map token_view (when p.done p.firsts.items)) (map token_view rest.firsts.tokens.items))
        ≡ option_or (cross (lasts x) (firsts_in_order ms)) (cross (when (done x) (firsts x)) (firsts_in_order ms))
    before_cross =
        let F = map token_view rest.firsts.tokens.items in
        ap (λ l. option_or (cross l F) (cross (map token_view (when p.done p.firsts.items)) F)) a.lasts_are
        ∙ ap (λ l. option_or (cross (lasts x) F) (cross l F)) own_firsts
        ∙ ap (λ f. option_or (cross (lasts x) f) (cross (when (done x) (firsts x)) f)) b.firsts_are

    pub in_order_rest : (e : ScanError) → Fails e (option_or (cross (map token_view p.lasts.items) (map token_view rest.firsts.tokens.items)) (cross (map token_view (when p.done p.firsts.items)) (map token_view rest.firsts.tokens.items))) → Fails e (clash_in_order (more x ms))
    in_order_rest e h = fails_to e _ (clash_in_order (more x ms))
        (λ q k. or_right (clash_in_order ms) _ q b.clear (or_right (clash x) _ q a.clear (sym before_cross ∙ k))) h

    pub in_order_on : (head : List Token) → map token_view head ≡ heads ms → (r : Rest) → RestLists r
        (option_or (cross (map token_view p.lasts.items) (map token_view rest.firsts.tokens.items)) (cross (map token_view (when p.done p.firsts.items)) (map token_view rest.firsts.tokens.items)))
        (p.done && rest.done)
        (when p.done (map token_view rest.firsts.tokens.items) ++ map token_view p.firsts.items)
        (map token_view ((rest.lasts.items ++ when rest.done p.lasts.items) ++ when rest.done head))
        → RestLists r (clash_in_order (more x ms)) (all_done (more x ms)) (firsts_in_order (more x ms)) (lasts_in_order (more x ms))
    in_order_on head hd r l = record {
      clear = or_both (clash_in_order ms) _ b.clear (or_both (clash x) _ a.clear (sym before_cross ∙ l.clear));
      done_is = l.done_is ∙ ap (λ d. d && rest.done) a.done_is ∙ ap (λ d. done x && d) b.done_is;
      firsts_are = l.firsts_are
          ∙ ap (λ d. when d (map token_view rest.firsts.tokens.items) ++ map token_view p.firsts.items) a.done_is
          ∙ ap (λ f. when (done x) f ++ map token_view p.firsts.items) b.firsts_are
          ∙ ap (λ f. when (done x) (firsts_in_order ms) ++ f) a.firsts_are;
      lasts_are = l.lasts_are ∙ joined (lasts_in_order ms ++ when (all_done ms) (lasts x)) (when (all_done ms) (heads ms)) (rest.lasts.items ++ when rest.done p.lasts.items) (when rest.done head)
          (joined (lasts_in_order ms) (when (all_done ms) (lasts x)) rest.lasts.items (when rest.done p.lasts.items) b.lasts_are (chosen rest.done (all_done ms) (lasts x) p.lasts.items b.done_is a.lasts_are))
          (chosen rest.done (all_done ms) (heads ms) head b.done_is hd);
    }

  -- in an OR group
  module _ (rest : Rest) (ms : Terms) (b : RestLists rest (clash_apart ms) (some_done ms) (firsts_of_some ms) (lasts_of_some ms)) where
    pub apart_rest : (e : ScanError) → Fails e (cross (map token_view p.firsts.items) (map token_view rest.firsts.tokens.items)) → Fails e (clash_apart (more x ms))
    apart_rest e h = fails_to e _ (clash_apart (more x ms))
        (λ q k. or_right (clash_apart ms) _ q b.clear (or_right (clash x) _ q a.clear (sym (ap (λ l. cross l (map token_view rest.firsts.tokens.items)) a.firsts_are ∙ ap (cross (firsts x)) b.firsts_are) ∙ k))) h

  -- in an AND group
  module _ (rest : Among) (ms : Terms) (b : AmongLists rest (clash_among ms) (firsts_of_some ms) (lasts_of_some ms) (lasts_among ms)) where
    among_cross : option_or (cross (map token_view p.lasts.items) (map token_view rest.firsts.tokens.items))
        (option_or (cross (map token_view p.firsts.items) (map token_view rest.firsts.tokens.items)) (crossed (map token_view rest.ends.tokens.items) (map token_view p.firsts.items)))
        ≡ option_or (cross (lasts x) (firsts_of_some ms)) (option_or (cross (firsts x) (firsts_of_some ms)) (crossed (lasts_of_some ms) (firsts x)))
    among_cross =
        let F = map token_view rest.firsts.tokens.items in let E = map token_view rest.ends.tokens.items in let P = map token_view p.firsts.items in
        ap (λ l. option_or (cross l F) (option_or (cross P F) (crossed E P))) a.lasts_are
        ∙ ap (λ f. option_or (cross (lasts x) F) (option_or (cross f F) (crossed E f))) a.firsts_are
        ∙ ap (λ f. option_or (cross (lasts x) f) (option_or (cross (firsts x) f) (crossed E (firsts x)))) b.firsts_are
        ∙ ap (λ e. option_or (cross (lasts x) (firsts_of_some ms)) (option_or (cross (firsts x) (firsts_of_some ms)) (crossed e (firsts x)))) b.ends_are

    pub among_rest : (e : ScanError) →
        Fails e (option_or (cross (map token_view p.lasts.items) (map token_view rest.firsts.tokens.items))
        (option_or (cross (map token_view p.firsts.items) (map token_view rest.firsts.tokens.items)) (crossed (map token_view rest.ends.tokens.items) (map token_view p.firsts.items))))
        → Fails e (clash_among (more x ms))
    among_rest e h = fails_to e _ (clash_among (more x ms))
        (λ q k. or_right (clash_among ms) _ q b.clear (or_right (clash x) _ q a.clear (sym among_cross ∙ k))) h

module _ (x : t.Term) (ms : Terms) where
  pub in_order_part : clash_in_order ms ≡ None → (e : ScanError) → Fails e (clash x) → Fails e (clash_in_order (more x ms))
  in_order_part b e h = fails_to e (clash x) (clash_in_order (more x ms)) (λ q k. or_right (clash_in_order ms) _ q b (or_left (clash x) _ q k)) h

  pub apart_part : clash_apart ms ≡ None → (e : ScanError) → Fails e (clash x) → Fails e (clash_apart (more x ms))
  apart_part b e h = fails_to e (clash x) (clash_apart (more x ms)) (λ q k. or_right (clash_apart ms) _ q b (or_left (clash x) _ q k)) h

  pub among_part : clash_among ms ≡ None → (e : ScanError) → Fails e (clash x) → Fails e (clash_among (more x ms))
  among_part b e h = fails_to e (clash x) (clash_among (more x ms)) (λ q k. or_right (clash_among ms) _ q b (or_left (clash x) _ q k)) h

-- what is found at a place is found in all
module _ (ms : List Term) (i : ℕ) (m : Term) (some : 0 < i) (within : i ≤ length ms) (is : m ≡ get_or ms (i - 1) m) (e : ScanError) where
  pub in_order_all : Fails e (clash_in_order (more (view m) (terms (map view (drop i ms))))) → Fails e (clash_in_order (terms (map view ms)))
  in_order_all h = fails_to e (clash_in_order (terms (map view (drop (i - 1) ms)))) _ (early clash_in_order (λ x xs p k. or_left (clash_in_order xs) _ p k) ms (i - 1))
      (subst (λ z. Fails e (clash_in_order z)) (sym (from_last ms i m some within is)) h)

  pub apart_all : Fails e (clash_apart (more (view m) (terms (map view (drop i ms))))) → Fails e (clash_apart (terms (map view ms)))
  apart_all h = fails_to e (clash_apart (terms (map view (drop (i - 1) ms)))) _ (early clash_apart (λ x xs p k. or_left (clash_apart xs) _ p k) ms (i - 1))
      (subst (λ z. Fails e (clash_apart z)) (sym (from_last ms i m some within is)) h)

  pub among_all : Fails e (clash_among (more (view m) (terms (map view (drop i ms))))) → Fails e (clash_among (terms (map view ms)))
  among_all h = fails_to e (clash_among (terms (map view (drop (i - 1) ms)))) _ (early clash_among (λ x xs p k. or_left (clash_among xs) _ p k) ms (i - 1))
      (subst (λ z. Fails e (clash_among z)) (sym (from_last ms i m some within is)) h)
