-- The bits as a list are the bits as a function.
use Rattle.std.specs.Prelude.{slice_set, is_some}
use Rattle.std.specs.Option.{option_or}
use Rattle.std.proofs.lemmas.Slice.Eq.{bytes_eq-Decides}
use Rattle.std.proofs.lemmas.Bool.Decides.{Decides-eqb}
use Rattle.std.proofs.Common.{◌≡◌, ℕ, suc, ◌+◌, ◌<◌, ◌≤◌, Bool, true, false, cond, nat_eq, Option, Some, None, ◌⊎◌, inl, inr, List, length, refl, sym, ap, ◌∙◌, subst, arith, get_or-set_other, get_or-set_same, length-set}
use Rattle.sgml_model.specs.Term.{Term, empty, name, pcdata, seq, or, and, opt, plus, rep, member, round, Terms, none, more, Token, done, Takes}
use Rattle.sgml_model.specs.Choice.{is_name, is_text}
use Rattle.sgml_ambiguity.specs.Ambiguity.{IsModel, AreModels}
use Rattle.sgml_automaton.specs.Position.{Bits, bits_of, room, rooms, and_rooms, at, at_order, at_some, at_member, left_at, next_by, next_in_order, next_of_some, same_member, has}
use Rattle.sgml_automaton.specs.Moves.{clear_l, mark_l, enter_l, enter_in_l, inside_l, go_l, go_order_l, go_some_l, go_member_l}
use Rattle.std.specs.Prelude.{MatchBool}
use Rattle.sgml_model.specs.Left.{Leaves}
use Rattle.sgml_automaton.specs.Automaton.{term_at_last, IsPlaced}
use Rattle.sgml_automaton.specs.Moved.{moved_l}
use Rattle.sgml_ambiguity.proofs.Sets.{token, Can, CanInOrder, CanSome, dec_can, can, next, next_member}
use Rattle.sgml_ambiguity.proofs.Rests.{models, models_seq, models_or}
use Rattle.sgml_automaton.proofs.Places.{Numbered, AllNumbered}
use Rattle.sgml_automaton.proofs.Bits.{set, clear, mark, enter, enter_in, inside, set_same, set_other, at_agree, enter_at, can_has, order_has, apart}
use Rattle.sgml_automaton.proofs.Steps.{yes, yes_by, no_by, go, go_order, go_some, go_member, go_at, by_test, take_other, at_has}

abbrev pub Same : List Bool → Bits → Type 0
Same l b = (i : ℕ) → bits_of l i ≡ b i

-- one bit is set
set_is : (l : List Bool) (o : ℕ) (v : Bool) (b : Bits) → o < length l → Same l b → Same (slice_set l o v) (set o v b)
set_is l o v b h e i = by_test (nat_eq i o)
    (λ q. let is : i ≡ o = (Decides-eqb i o).0 q in
    subst (λ j. bits_of (slice_set l o v) j ≡ set o v b j) (sym is) (get_or-set_same l o v false h ∙ sym (set_same o v b)))
    (λ q. let isnt : i ≡ o → ⊥ = λ x. let y = (Decides-eqb i o).1 x in cc in
    get_or-set_other l o i v false isnt ∙ e i ∙ sym (set_other o i v b isnt))

same_cond : (h : Bool) (l m : List Bool) (b c : Bits) → Same l b → Same m c → Same (cond h l m) (cond h b c)
same_cond true l m b c e f = e
same_cond false l m b c e f = f

len_cond : (h : Bool) (l m : List Bool) (n : ℕ) → length l ≡ n → length m ≡ n → length (cond h l m) ≡ n
len_cond true l m n e f = e
len_cond false l m n e f = f

clear_len : (ms : Terms) (o : ℕ) (l : List Bool) → length (clear_l ms o l) ≡ length l
clear_len none o l = refl
clear_len (more m ms) o l = clear_len ms (suc (o + room m)) (slice_set l o false) ∙ length-set l o false

clear_is : (ms : Terms) (o : ℕ) (l : List Bool) (b : Bits) → o + and_rooms ms ≤ length l → Same l b → Same (clear_l ms o l) (clear ms o b)
clear_is none o l b h e = e
clear_is (more m ms) o l b h e =
    clear_is ms (suc (o + room m)) (slice_set l o false) (set o false b) (let q = length-set l o false in omega arith) (set_is l o false b (omega arith) e)

mark_is : (ms : Terms) (o k : ℕ) (l : List Bool) (b : Bits) → o + and_rooms ms ≤ length l → Same l b → Same (mark_l ms o k l) (mark ms o k b)
mark_is none o k l b h e = e
mark_is (more m ms) o k l b h e = same_cond (has m k) (slice_set l o true) (mark_l ms (suc (o + room m)) k l) (set o true b) (mark ms (suc (o + room m)) k b)
    (set_is l o true b (omega arith) e) (mark_is ms (suc (o + room m)) k l b (omega arith) e)

mark_len : (ms : Terms) (o k : ℕ) (l : List Bool) → length (mark_l ms o k l) ≡ length l
mark_len none o k l = refl
mark_len (more m ms) o k l = len_cond (has m k) (slice_set l o true) (mark_l ms (suc (o + room m)) k l) (length l) (length-set l o true) (mark_len ms (suc (o + room m)) k l)

mutual
  pub enter_is : (x : Term) (o k : ℕ) (l : List Bool) (b : Bits) → o + room x ≤ length l → Same l b → Same (enter_l x o k l) (enter x o k b)
  enter_is empty o k l b h e = e
  enter_is (name j n) o k l b h e = e
  enter_is (pcdata j) o k l b h e = e
  enter_is (seq ms) o k l b h e = enter_in_is ms o k l b h e
  enter_is (or ms) o k l b h e = enter_in_is ms o k l b h e
  enter_is (and ms) o k l b h e = inside_is ms o k (clear_l ms o l) (clear ms o b) (let q = clear_len ms o l in omega arith) (clear_is ms o l b h e)
  enter_is (opt m) o k l b h e = enter_is m o k l b h e
  enter_is (plus m) o k l b h e = enter_is m o k l b h e
  enter_is (rep m) o k l b h e = enter_is m o k l b h e
  enter_is (member r left) o k l b h e = e
  enter_is (round r m) o k l b h e = e

  enter_in_is : (ms : Terms) (o k : ℕ) (l : List Bool) (b : Bits) → o + rooms ms ≤ length l → Same l b → Same (enter_in_l ms o k l) (enter_in ms o k b)
  enter_in_is none o k l b h e = e
  enter_in_is (more m ms) o k l b h e = same_cond (has m k) (enter_l m o k l) (enter_in_l ms (o + room m) k l) (enter m o k b) (enter_in ms (o + room m) k b)
      (enter_is m o k l b (omega arith) e) (enter_in_is ms (o + room m) k l b (omega arith) e)

  inside_is : (ms : Terms) (o k : ℕ) (l : List Bool) (b : Bits) → o + and_rooms ms ≤ length l → Same l b → Same (inside_l ms o k l) (inside ms o k b)
  inside_is none o k l b h e = e
  inside_is (more m ms) o k l b h e = same_cond (has m k) (enter_l m (suc o) k l) (inside_l ms (suc (o + room m)) k l) (enter m (suc o) k b) (inside ms (suc (o + room m)) k b)
      (enter_is m (suc o) k l b (omega arith) e) (inside_is ms (suc (o + room m)) k l b (omega arith) e)

-- the token that is found can come; where none is found, none of the name can
or_cases : {A : Type 0} (a b : Option A) (x : A) → option_or a b ≡ Some x → (a ≡ Some x) ⊎ ((a ≡ None) × (b ≡ Some x))
or_cases None b x h = inr (refl, h)
or_cases (Some y) b x h = inl h

or_nones : {A : Type 0} (a b : Option A) → option_or a b ≡ None → (a ≡ None) × (b ≡ None)
or_nones None b h = (refl, h)
or_nones (Some y) b h = cc

when_some : {A : Type 0} (b : Bool) (o : Option A) (x : A) → cond b o None ≡ Some x → (b ≡ true) × (o ≡ Some x)
when_some true o x h = (refl, h)
when_some false o x h = cc

when_none : {A : Type 0} (b : Bool) (o : Option A) → cond b o None ≡ None → b ≡ true → o ≡ None
when_none true o h e = h
when_none false o h e = cc

name_is : (n : List ℕ) (l : Option (List ℕ)) → is_name n l ≡ true → l ≡ Some n
name_is n None h = cc
name_is n (Some m) h = ap Some (sym ((bytes_eq-Decides n m).0 h))

name_own : (n : List ℕ) → is_name n (Some n) ≡ true
name_own n = (bytes_eq-Decides n n).1 refl

text_is : (l : Option (List ℕ)) → is_text l ≡ true → l ≡ None
text_is None h = refl
text_is (Some m) h = cc

same_token : (k j : ℕ) (l m : Option (List ℕ)) → k ≡ j → l ≡ m → token k l ≡ token j m
same_token k j l m e f = ap (λ i. token i l) e ∙ ap (token j) f

mutual
  pub next_can : (r : Term) (l : Option (List ℕ)) (j : ℕ) → next_by r l ≡ Some j → Can r (token j l)
  next_can empty l j h = cc
  next_can (name k n) l j h = let p = when_some (is_name n l) (Some k) j h in same_token j k l (Some n) (cc) (name_is n l p.0)
  next_can (pcdata k) l j h = let p = when_some (is_text l) (Some k) j h in same_token j k l None (cc) (text_is l p.0)
  next_can (seq ms) l j h = next_can_order ms l j h
  next_can (or ms) l j h = next_can_some ms l j h
  next_can (and ms) l j h = next_can_some ms l j h
  next_can (opt m) l j h = next_can m l j h
  next_can (plus m) l j h = next_can m l j h
  next_can (rep m) l j h = next_can m l j h
  next_can (member r left) l j h = elim (or_cases (next_by r l) (cond (done r) (next_of_some left l) None) j h) [
    | inl a ↦ inl (next_can r l j a)
    | inr b ↦ let p = when_some (done r) (next_of_some left l) j b.1 in inr (p.0, next_can_some left l j p.1)
  ]
  next_can (round r m) l j h = elim (or_cases (next_by r l) (cond (done r) (next_by m l) None) j h) [
    | inl a ↦ inl (next_can r l j a)
    | inr b ↦ let p = when_some (done r) (next_by m l) j b.1 in inr (p.0, next_can m l j p.1)
  ]

  pub next_can_order : (ms : Terms) (l : Option (List ℕ)) (j : ℕ) → next_in_order ms l ≡ Some j → CanInOrder ms (token j l)
  next_can_order none l j h = cc
  next_can_order (more m ms) l j h = elim (or_cases (next_by m l) (cond (done m) (next_in_order ms l) None) j h) [
    | inl a ↦ inl (next_can m l j a)
    | inr b ↦ let p = when_some (done m) (next_in_order ms l) j b.1 in inr (p.0, next_can_order ms l j p.1)
  ]

  pub next_can_some : (ms : Terms) (l : Option (List ℕ)) (j : ℕ) → next_of_some ms l ≡ Some j → CanSome ms (token j l)
  next_can_some none l j h = cc
  next_can_some (more m ms) l j h = elim (or_cases (next_by m l) (next_of_some ms l) j h) [ inl a ↦ inl (next_can m l j a) | inr b ↦ inr (next_can_some ms l j b.1) ]

mutual
  pub next_none : (r : Term) (l : Option (List ℕ)) → next_by r l ≡ None → (j : ℕ) → Can r (token j l) → ⊥
  next_none empty l h j c = c
  next_none (name k n) l h j c =
      let e : l ≡ Some n = ap (λ (t : Token). t.label) c in
      let f = when_none (is_name n l) (Some k) h (ap (is_name n) e ∙ name_own n) in cc
  next_none (pcdata k) l h j c =
      let e : l ≡ None = ap (λ (t : Token). t.label) c in
      let f = when_none (is_text l) (Some k) h (ap is_text e) in cc
  next_none (seq ms) l h j c = none_order ms l h j c
  next_none (or ms) l h j c = none_some ms l h j c
  next_none (and ms) l h j c = none_some ms l h j c
  next_none (opt m) l h j c = next_none m l h j c
  next_none (plus m) l h j c = next_none m l h j c
  next_none (rep m) l h j c = next_none m l h j c
  next_none (member r left) l h j c =
      let p = or_nones (next_by r l) (cond (done r) (next_of_some left l) None) h in
      elim c [ inl a ↦ next_none r l p.0 j a | inr b ↦ none_some left l (when_none (done r) (next_of_some left l) p.1 b.0) j b.1 ]
  next_none (round r m) l h j c =
      let p = or_nones (next_by r l) (cond (done r) (next_by m l) None) h in
      elim c [ inl a ↦ next_none r l p.0 j a | inr b ↦ next_none m l (when_none (done r) (next_by m l) p.1 b.0) j b.1 ]

  none_order : (ms : Terms) (l : Option (List ℕ)) → next_in_order ms l ≡ None → (j : ℕ) → CanInOrder ms (token j l) → ⊥
  none_order none l h j c = c
  none_order (more m ms) l h j c =
      let p = or_nones (next_by m l) (cond (done m) (next_in_order ms l) None) h in
      elim c [ inl a ↦ next_none m l p.0 j a | inr b ↦ none_order ms l (when_none (done m) (next_in_order ms l) p.1 b.0) j b.1 ]

  none_some : (ms : Terms) (l : Option (List ℕ)) → next_of_some ms l ≡ None → (j : ℕ) → CanSome ms (token j l) → ⊥
  none_some none l h j c = c
  none_some (more m ms) l h j c =
      let p = or_nones (next_by m l) (next_of_some ms l) h in
      elim c [ inl a ↦ next_none m l p.0 j a | inr b ↦ none_some ms l p.1 j b ]

-- a round goes on exactly where a token of the name is found in it
in_round : (r m : Term) (l : Option (List ℕ)) (j : ℕ) → next_by (round r m) l ≡ Some j →
    ((next_by r l ≡ Some j) × (is_some (next_by r l) ≡ true) × (yes (dec_can r (token j l)) ≡ true)) ⊎ ((is_some (next_by r l) ≡ false) × (yes (dec_can r (token j l)) ≡ false))
in_round r m l j h = elim (or_cases (next_by r l) (cond (done r) (next_by m l) None) j h) [
  | inl a ↦ inl (a, ap is_some a, yes_by (dec_can r (token j l)) (next_can r l j a))
  | inr b ↦ inr (ap is_some b.0, no_by (dec_can r (token j l)) (next_none r l b.0 j))
]

-- the list of bits after a token
mutual
  pub go_is : (x : Term) (a z o k j : ℕ) (l : Option (List ℕ)) (bs : List Bool) → IsModel x → Numbered x a z → o + room x ≤ length bs → next_by (at x o k (bits_of bs)) l ≡ Some j →
      Same (go_l x o k j l bs) (go x o k (token j l) (bits_of bs))
  go_is empty a z o k j l bs i n h p = λ q. refl
  go_is (name y n') a z o k j l bs i n h p = λ q. refl
  go_is (pcdata y) a z o k j l bs i n h p = λ q. refl
  go_is (seq ms) a z o k j l bs i n h p = go_order_is ms a z o k j l bs (models_seq ms i) n h p
  go_is (or ms) a z o k j l bs i n h p = go_some_is ms a z o k j l bs (models_or ms i) n h p
  go_is (and ms) a z o k j l bs i n h p =
      let b = bits_of bs in let r = at_member ms o k b in let left = left_at ms o k b in
      let other : Same (inside_l ms o j (mark_l ms o k bs)) (inside ms o j (mark ms o k b)) =
      inside_is ms o j (mark_l ms o k bs) (mark ms o k b) (let q = mark_len ms o k bs in omega arith) (mark_is ms o k bs b h (λ q. refl)) in
      elim (or_cases (next_by r l) (cond (done r) (next_of_some left l) None) j p) [
        | inl c ↦ same_cond (same_member ms k j) (go_member_l ms o k j l bs) (inside_l ms o j (mark_l ms o k bs)) (go_member ms o k (token j l) b) (inside ms o j (mark ms o k b))
            (go_member_is ms a z o k j l bs (models ms i) n h c) other
        | inr c ↦
            let w = when_some (done r) (next_of_some left l) j c.1 in
            let t = next_member left (token j l) (next_can_some left l j w.1) in
            let no = take_other ms o k b (token j l) t.0 t.1 a z (models ms i) n t.2 in
            subst (λ v. Same (cond v (go_member_l ms o k j l bs) (inside_l ms o j (mark_l ms o k bs))) (cond v (go_member ms o k (token j l) b) (inside ms o j (mark ms o k b)))) (sym no) other
      ]
  go_is (opt m) a z o k j l bs i n h p = go_is m a z o k j l bs i n h p
  go_is (plus m) a z o k j l bs i n h p =
      let b = bits_of bs in let r = at m o k b in
      elim (in_round r m l j p) [
        | inl c ↦ subst (λ v. Same (cond v (go_l m o k j l bs) (enter_l m o j bs)) (go (plus m) o k (token j l) b)) (sym c.1)
            (subst (λ v. Same (go_l m o k j l bs) (cond v (go m o k (token j l) b) (enter m o j b))) (sym c.2) (go_is m a z o k j l bs i n h c.0))
        | inr c ↦ subst (λ v. Same (cond v (go_l m o k j l bs) (enter_l m o j bs)) (go (plus m) o k (token j l) b)) (sym c.0)
            (subst (λ v. Same (enter_l m o j bs) (cond v (go m o k (token j l) b) (enter m o j b))) (sym c.1) (enter_is m o j bs b h (λ q. refl)))
      ]
  go_is (rep m) a z o k j l bs i n h p =
      let b = bits_of bs in let r = at m o k b in
      elim (in_round r m l j p) [
        | inl c ↦ subst (λ v. Same (cond v (go_l m o k j l bs) (enter_l m o j bs)) (go (rep m) o k (token j l) b)) (sym c.1)
            (subst (λ v. Same (go_l m o k j l bs) (cond v (go m o k (token j l) b) (enter m o j b))) (sym c.2) (go_is m a z o k j l bs i n h c.0))
        | inr c ↦ subst (λ v. Same (cond v (go_l m o k j l bs) (enter_l m o j bs)) (go (rep m) o k (token j l) b)) (sym c.0)
            (subst (λ v. Same (enter_l m o j bs) (cond v (go m o k (token j l) b) (enter m o j b))) (sym c.1) (enter_is m o j bs b h (λ q. refl)))
      ]
  go_is (member r left) a z o k j l bs i n h p = absurd i
  go_is (round r m) a z o k j l bs i n h p = absurd i

  go_order_is : (ms : Terms) (a z o k j : ℕ) (l : Option (List ℕ)) (bs : List Bool) → AreModels ms → AllNumbered ms a z → o + rooms ms ≤ length bs → next_by (at_order ms o k (bits_of bs)) l ≡ Some j →
      Same (go_order_l ms o k j l bs) (go_order ms o k (token j l) (bits_of bs))
  go_order_is none a z o k j l bs i n h p = λ q. refl
  go_order_is (more m ms) a z o k j l bs i n h p =
      let b = bits_of bs in let o' = o + room m in
      let LT = λ (v w : Bool). cond v (cond w (go_l m o k j l bs) (enter_in_l ms o' j bs)) (go_order_l ms o' k j l bs) in
      let RT = λ (v w : Bool). cond v (cond w (go m o k (token j l) b) (enter_in ms o' j b)) (go_order ms o' k (token j l) b) in
      let ih = go_is m a n.0 o k j l bs i.0 n.1 (omega arith) in
      let later = go_order_is ms n.0 z o' k j l bs i.1 n.2 (omega arith) in
      let into : Same (enter_in_l ms o' j bs) (enter_in ms o' j b) = enter_in_is ms o' j bs b (omega arith) (λ q. refl) in
      by_test (has m k)
      (λ e.
      let p' : next_by (seq (more (at m o k b) ms)) l ≡ Some j = subst (λ v. next_by (cond v (seq (more (at m o k b) ms)) (at_order ms o' k b)) l ≡ Some j) e p in
      subst (λ v. Same (LT v (has m j)) (RT v (has m j))) (sym e)
      (elim (or_cases (next_by (at m o k b) l) (cond (done (at m o k b)) (next_in_order ms l) None) j p') [
        | inl c ↦ same_cond (has m j) (go_l m o k j l bs) (enter_in_l ms o' j bs) (go m o k (token j l) b) (enter_in ms o' j b) (ih c) into
        | inr c ↦
            let w = when_some (done (at m o k b)) (next_in_order ms l) j c.1 in
            let no = apart m ms a n.0 z j n.1 n.2 (order_has ms (token j l) i.1 (next_can_order ms l j w.1)) in
            subst (λ v. Same (LT true v) (RT true v)) (sym no) into
      ]))
      (λ e.
      let p' : next_by (at_order ms o' k b) l ≡ Some j = subst (λ v. next_by (cond v (seq (more (at m o k b) ms)) (at_order ms o' k b)) l ≡ Some j) e p in
      subst (λ v. Same (LT v (has m j)) (RT v (has m j))) (sym e) (later p'))

  go_some_is : (ms : Terms) (a z o k j : ℕ) (l : Option (List ℕ)) (bs : List Bool) → AreModels ms → AllNumbered ms a z → o + rooms ms ≤ length bs → next_by (at_some ms o k (bits_of bs)) l ≡ Some j →
      Same (go_some_l ms o k j l bs) (go_some ms o k (token j l) (bits_of bs))
  go_some_is none a z o k j l bs i n h p = λ q. refl
  go_some_is (more m ms) a z o k j l bs i n h p =
      let b = bits_of bs in let o' = o + room m in
      let ih = go_is m a n.0 o k j l bs i.0 n.1 (omega arith) in
      let later = go_some_is ms n.0 z o' k j l bs i.1 n.2 (omega arith) in
      by_test (has m k)
      (λ e. subst (λ v. Same (cond v (go_l m o k j l bs) (go_some_l ms o' k j l bs)) (cond v (go m o k (token j l) b) (go_some ms o' k (token j l) b))) (sym e)
      (ih (subst (λ v. next_by (cond v (at m o k b) (at_some ms o' k b)) l ≡ Some j) e p)))
      (λ e. subst (λ v. Same (cond v (go_l m o k j l bs) (go_some_l ms o' k j l bs)) (cond v (go m o k (token j l) b) (go_some ms o' k (token j l) b))) (sym e)
      (later (subst (λ v. next_by (cond v (at m o k b) (at_some ms o' k b)) l ≡ Some j) e p)))

  go_member_is : (ms : Terms) (a z o k j : ℕ) (l : Option (List ℕ)) (bs : List Bool) → AreModels ms → AllNumbered ms a z → o + and_rooms ms ≤ length bs → next_by (at_member ms o k (bits_of bs)) l ≡ Some j →
      Same (go_member_l ms o k j l bs) (go_member ms o k (token j l) (bits_of bs))
  go_member_is none a z o k j l bs i n h p = λ q. refl
  go_member_is (more m ms) a z o k j l bs i n h p =
      let b = bits_of bs in let o' = suc (o + room m) in
      let ih = go_is m a n.0 (suc o) k j l bs i.0 n.1 (omega arith) in
      let later = go_member_is ms n.0 z o' k j l bs i.1 n.2 (omega arith) in
      by_test (has m k)
      (λ e. subst (λ v. Same (cond v (go_l m (suc o) k j l bs) (go_member_l ms o' k j l bs)) (cond v (go m (suc o) k (token j l) b) (go_member ms o' k (token j l) b))) (sym e)
      (ih (subst (λ v. next_by (cond v (at m (suc o) k b) (at_member ms o' k b)) l ≡ Some j) e p)))
      (λ e. subst (λ v. Same (cond v (go_l m (suc o) k j l bs) (go_member_l ms o' k j l bs)) (cond v (go m (suc o) k (token j l) b) (go_member ms o' k (token j l) b))) (sym e)
      (later (subst (λ v. next_by (cond v (at m (suc o) k b) (at_member ms o' k b)) l ≡ Some j) e p)))

-- the first token
pub first_step : (x : Term) (z : ℕ) (l : Option (List ℕ)) (j : ℕ) (bs : List Bool) → IsModel x → Numbered x 0 z → room x ≤ length bs → next_by x l ≡ Some j →
    Takes x (token j l) (at x 0 j (bits_of (enter_l x 0 j bs))) × (has x j ≡ true)
first_step x z l j bs i n h p =
    let c = next_can x l j p in let s = next x (token j l) c in (
      subst (λ r. Takes x (token j l) r) (enter_at x (token j l) s.0 0 z i n s.1 0 (bits_of bs) ∙ at_agree x 0 j (enter x 0 j (bits_of bs)) (bits_of (enter_l x 0 j bs))
          (λ q u v. sym (enter_is x 0 j bs (bits_of bs) (omega arith) (λ w. refl) q))) s.1,
      can_has x (token j l) i c,
    )

-- a further token
pub further_step : (x : Term) (z k : ℕ) (l : Option (List ℕ)) (j : ℕ) (bs : List Bool) → IsModel x → Numbered x 0 z → has x k ≡ true → room x ≤ length bs → next_by (at x 0 k (bits_of bs)) l ≡ Some j →
    Takes (at x 0 k (bits_of bs)) (token j l) (at x 0 j (bits_of (go_l x 0 k j l bs))) × (has x j ≡ true)
further_step x z k l j bs i n e h p =
    let r = at x 0 k (bits_of bs) in
    let c = next_can r l j p in let s = next r (token j l) c in (
      subst (λ r'. Takes r (token j l) r') (go_at x 0 z 0 k (bits_of bs) (token j l) s.0 i n e s.1 ∙ at_agree x 0 j (go x 0 k (token j l) (bits_of bs)) (bits_of (go_l x 0 k j l bs))
          (λ q u v. sym (go_is x 0 z 0 k j l bs i n (omega arith) p q))) s.1,
      at_has x 0 k (bits_of bs) (token j l) i c,
    )

-- one step, from the start or from a token
module _ (x : Term) (z : ℕ) (i : IsModel x) (n : Numbered x 0 z) (last : Option ℕ) (l : Option (List ℕ)) (bs : List Bool) (h : room x ≤ length bs) (w : IsPlaced x last) where
  pub step_taken : (j : ℕ) → next_by (term_at_last x last bs) l ≡ Some j →
      Takes (term_at_last x last bs) (token j l) (at x 0 j (bits_of (moved_l x last j l bs))) × (has x j ≡ true)
  step_taken j p = go last w p
    where
      go : (last : Option ℕ) → IsPlaced x last → next_by (term_at_last x last bs) l ≡ Some j → Takes (term_at_last x last bs) (token j l) (at x 0 j (bits_of (moved_l x last j l bs))) × (has x j ≡ true)
      go None w p = first_step x z l j bs i n h p
      go (Some k) w p = further_step x z k l j bs i n w h p

pub step_refused : (r : Term) (l : Option (List ℕ)) → next_by r l ≡ None → (r' : Term) → Leaves r l r' → ⊥
step_refused r l h r' t = next_none r l h t.0 (can r (token t.0 l) r' t.1)

pub takes_is : (r : Term) (l : Option (List ℕ)) → MatchBool (is_some (next_by r l)) ((r' : Term) × Leaves r l r') ((r' : Term) → Leaves r l r' → ⊥)
takes_is r l = go (next_by r l) refl
  where
    go : (o : Option ℕ) → next_by r l ≡ o → MatchBool (is_some o) ((r' : Term) × Leaves r l r') ((r' : Term) → Leaves r l r' → ⊥)
    go None e = step_refused r l e
    go (Some j) e = let s = next r (token j l) (next_can r l j e) in (s.0, (j, s.1))
