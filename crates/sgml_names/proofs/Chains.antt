-- Hashes that are chained in their slots.
use lib.Dec.{eqb}
use Rattle.std.proofs.Common.{◌≡◌, ◌≤◌, ◌<◌, ◌+◌, ◌⊎◌, inl, inr, ℕ, zero, suc, cond, List, [], ◌∷◌, ◌++◌, Some, refl, sym, ap, ◌∙◌, length, set, get_or, replicate, arith, add-one}
use Rattle.std.proofs.lemmas.Bool.{cases_eq, cond-true, cond-false, eq-eqb, ne_eqb}
use Rattle.std.proofs.lemmas.List.{map-append, length-map, length-set, length_push, get_or_append_left, get_or_push, get_or-map, get_or-set_same, get_or-set_other, get_or-replicate, get_or_default, map-set, set-get_or}
use Rattle.sgml_names.specs.Index.{table_limit}
use Rattle.sgml_names.specs.declared.slots.Link.{Link}
use Rattle.sgml_names.specs.Slots.{hashes_of, slot_of, latest, newest, IsChained, Linked}

newest_hit : (m s : ℕ) (hs : List ℕ) (n : ℕ) → slot_of m (get_or hs n 0) ≡ s → newest m s hs (suc n) ≡ suc n
newest_hit m s hs n e = cond-true _ (suc n) (newest m s hs n) (eq-eqb (slot_of m (get_or hs n 0)) s e)

newest_miss : (m s : ℕ) (hs : List ℕ) (n : ℕ) → (slot_of m (get_or hs n 0) ≡ s → ⊥) → newest m s hs (suc n) ≡ newest m s hs n
newest_miss m s hs n ne = cond-false _ (suc n) (newest m s hs n) (ne_eqb (slot_of m (get_or hs n 0)) s ne)

pub latest_hit : (hash : ℕ) (hs : List ℕ) (n : ℕ) → hash ≡ get_or hs n 0 → latest hash hs (suc n) ≡ Some n
latest_hit hash hs n e = cond-true _ (Some n) (latest hash hs n) (eq-eqb hash (get_or hs n 0) e)

pub latest_miss : (hash : ℕ) (hs : List ℕ) (n : ℕ) → (hash ≡ get_or hs n 0 → ⊥) → latest hash hs (suc n) ≡ latest hash hs n
latest_miss hash hs n ne = cond-false _ (Some n) (latest hash hs n) (ne_eqb hash (get_or hs n 0) ne)

newest_le_step : (m s : ℕ) (hs : List ℕ) (n : ℕ) → newest m s hs n ≤ n → (slot_of m (get_or hs n 0) ≡ s) ⊎ (slot_of m (get_or hs n 0) ≡ s → ⊥) → newest m s hs (suc n) ≤ suc n
newest_le_step m s hs n before (inl e) = rw (newest_hit m s hs n e) (omega arith)
newest_le_step m s hs n before (inr ne) = rw (newest_miss m s hs n ne) (omega (arith, before))

newest_le : (m s : ℕ) (hs : List ℕ) (n : ℕ) → newest m s hs n ≤ n
newest_le m s hs zero = omega arith
newest_le m s hs (suc n) = newest_le_step m s hs n (newest_le m s hs n) (cases_eq (slot_of m (get_or hs n 0)) s)

newest_at_step : (m s : ℕ) (hs : List ℕ) (n p : ℕ) → (newest m s hs n ≡ suc p → slot_of m (get_or hs p 0) ≡ s) → newest m s hs (suc n) ≡ suc p → (slot_of m (get_or hs n 0) ≡ s) ⊎ (slot_of m (get_or hs n 0) ≡ s → ⊥) → slot_of m (get_or hs p 0) ≡ s
newest_at_step m s hs n p before is (inl e) =
    let counted : suc n ≡ suc p = sym (newest_hit m s hs n e) ∙ is in
    let same : p ≡ n = omega (arith, counted) in
    ap (λ k. slot_of m (get_or hs k 0)) same ∙ e
newest_at_step m s hs n p before is (inr ne) = before (sym (newest_miss m s hs n ne) ∙ is)

-- the newest of a slot is of the slot
newest_at : (m s : ℕ) (hs : List ℕ) (n p : ℕ) → newest m s hs n ≡ suc p → slot_of m (get_or hs p 0) ≡ s
newest_at m s hs zero p is = absurd (omega (arith, is))
newest_at m s hs (suc n) p is = newest_at_step m s hs n p (newest_at m s hs n p) is (cases_eq (slot_of m (get_or hs n 0)) s)

-- what comes later changes nothing before it
newest_before : (m s : ℕ) (hs : List ℕ) (h n : ℕ) → n ≤ length hs → newest m s (hs ++ h ∷ []) n ≡ newest m s hs n
newest_before m s hs h zero within = refl
newest_before m s hs h (suc n) within =
    let same : get_or (hs ++ h ∷ []) n 0 ≡ get_or hs n 0 = get_or_append_left hs (h ∷ []) 0 n (omega arith) in
    ap (λ (x : ℕ). cond (eqb (slot_of m x) s) (suc n) (newest m s (hs ++ h ∷ []) n)) same
    ∙ ap (cond (eqb (slot_of m (get_or hs n 0)) s) (suc n)) (newest_before m s hs h n (omega arith))

latest_newest_step : (m hash : ℕ) (hs : List ℕ) (n : ℕ) → latest hash hs n ≡ latest hash hs (newest m (slot_of m hash) hs n)
    → (slot_of m (get_or hs n 0) ≡ slot_of m hash) ⊎ (slot_of m (get_or hs n 0) ≡ slot_of m hash → ⊥) → latest hash hs (suc n) ≡ latest hash hs (newest m (slot_of m hash) hs (suc n))
latest_newest_step m hash hs n before (inl e) = sym (ap (latest hash hs) (newest_hit m (slot_of m hash) hs n e))
latest_newest_step m hash hs n before (inr ne) =
    latest_miss hash hs n (λ same. ne (ap (slot_of m) (sym same)))
    ∙ before
    ∙ sym (ap (latest hash hs) (newest_miss m (slot_of m hash) hs n ne))

-- a hash stands nowhere behind the newest of its slot
latest_newest : (m hash : ℕ) (hs : List ℕ) (n : ℕ) → latest hash hs n ≡ latest hash hs (newest m (slot_of m hash) hs n)
latest_newest m hash hs zero = refl
latest_newest m hash hs (suc n) = latest_newest_step m hash hs n (latest_newest m hash hs n) (cases_eq (slot_of m (get_or hs n 0)) (slot_of m hash))

latest_at_step : (hash : ℕ) (hs : List ℕ) (n p : ℕ) → (latest hash hs n ≡ Some p → (p < n) × (get_or hs p 0 ≡ hash)) → latest hash hs (suc n) ≡ Some p
    → (hash ≡ get_or hs n 0) ⊎ (hash ≡ get_or hs n 0 → ⊥) → (p < suc n) × (get_or hs p 0 ≡ hash)
latest_at_step hash hs n p before is (inl e) =
    let found : Some n ≡ Some p = sym (latest_hit hash hs n e) ∙ is in
    let same : n ≡ p = cc in
    (omega (arith, same), ap (λ k. get_or hs k 0) (sym same) ∙ sym e)
latest_at_step hash hs n p before is (inr ne) =
    let earlier : (p < n) × (get_or hs p 0 ≡ hash) = before (sym (latest_miss hash hs n ne) ∙ is) in
    (omega (arith, earlier.0), earlier.1)

-- where a hash stands last, it stands
pub latest_at : (hash : ℕ) (hs : List ℕ) (n p : ℕ) → latest hash hs n ≡ Some p → (p < n) × (get_or hs p 0 ≡ hash)
latest_at hash hs zero p is = cc
latest_at hash hs (suc n) p is = latest_at_step hash hs n p (latest_at hash hs n p) is (cases_eq hash (get_or hs n 0))

-- a chain begins at the newest of its slot
pub chained_newest : (m hash : ℕ) (hs : List ℕ) (n start : ℕ) → n ≤ length hs → start ≡ newest m (slot_of m hash) hs n → IsChained m hash hs start
chained_newest m hash hs n start within is = record {
  within = omega (arith, newest_le m (slot_of m hash) hs n, is);
  same = λ p e. newest_at m (slot_of m hash) hs n p (sym is ∙ e);
}

pub latest_from : (m hash : ℕ) (hs : List ℕ) (n start : ℕ) → start ≡ newest m (slot_of m hash) hs n → latest hash hs start ≡ latest hash hs n
latest_from m hash hs n start is = ap (latest hash hs) is ∙ sym (latest_newest m hash hs n)

pub hash_at : (links : List Link) (p : ℕ) (d : Link) → p < length links → get_or (hashes_of links) p 0 ≡ (get_or links p d).hash
hash_at links p d within = get_or-map (λ (l : Link). l.hash) links p d 0 within

earlier_is : (links : List Link) (last : List ℕ) (hash place p : ℕ) (d : Link) → Linked links last → place ≡ suc p → IsChained (length last) hash (hashes_of links) place → p < length links
    → (get_or links p d).earlier ≡ newest (length last) (slot_of (length last) hash) (hashes_of links) p
earlier_is links last hash place p d linked is chained within =
    linked.tails p d within ∙ ap (λ s. newest (length last) s (hashes_of links) p) (ap (slot_of (length last)) (sym (hash_at links p d within)) ∙ chained.same p is)

pub in_chain : (links : List Link) (m hash place p : ℕ) → place ≡ suc p → IsChained m hash (hashes_of links) place → p < length links
in_chain links m hash place p is chained = omega (arith, is, chained.within, length-map links (λ (l : Link). l.hash))

-- the link of a chain that isn't of the hash leads on
pub chain_on : (links : List Link) (last : List ℕ) (hash place p : ℕ) (d : Link) → Linked links last → place ≡ suc p → IsChained (length last) hash (hashes_of links) place
    → IsChained (length last) hash (hashes_of links) (get_or links p d).earlier
chain_on links last hash place p d linked is chained =
    let within : p < length links = in_chain links (length last) hash place p is chained in
    chained_newest (length last) hash (hashes_of links) p (get_or links p d).earlier (omega (arith, within, length-map links (λ (l : Link). l.hash))) (earlier_is links last hash place p d linked is chained within)

pub chain_same : (links : List Link) (last : List ℕ) (hash place p : ℕ) (d : Link) → Linked links last → place ≡ suc p → IsChained (length last) hash (hashes_of links) place → ((get_or links p d).hash ≡ hash → ⊥)
    → latest hash (hashes_of links) (get_or links p d).earlier ≡ latest hash (hashes_of links) place
chain_same links last hash place p d linked is chained ne =
    let within : p < length links = in_chain links (length last) hash place p is chained in
    latest_from (length last) hash (hashes_of links) p (get_or links p d).earlier (earlier_is links last hash place p d linked is chained within)
    ∙ sym (latest_miss hash (hashes_of links) p (λ e. ne (sym (e ∙ hash_at links p d within))))
    ∙ sym (ap (latest hash (hashes_of links)) is)

pub chain_less : (links : List Link) (last : List ℕ) (hash place p : ℕ) (d : Link) → Linked links last → place ≡ suc p → IsChained (length last) hash (hashes_of links) place → (get_or links p d).earlier < place
chain_less links last hash place p d linked is chained =
    let within : p < length links = in_chain links (length last) hash place p is chained in
    omega (arith, is, newest_le (length last) (slot_of (length last) hash) (hashes_of links) p, earlier_is links last hash place p d linked is chained within)

own_earlier : (links : List Link) (last : List ℕ) (p : ℕ) (link : Link) → Linked links last → p < length links → link ≡ get_or links p link → link.earlier ≡ newest (length last) (slot_of (length last) link.hash) (hashes_of links) p
own_earlier links last p link linked within is =
    ap (λ (l : Link). l.earlier) is ∙ linked.tails p link within ∙ ap (λ (l : Link). newest (length last) (slot_of (length last) l.hash) (hashes_of links) p) (sym is)

-- a chain goes on at a link by what the link says
pub chained_link : (links : List Link) (last : List ℕ) (p : ℕ) (link : Link) → Linked links last → p < length links → link ≡ get_or links p link → IsChained (length last) link.hash (hashes_of links) link.earlier
chained_link links last p link linked within is =
    chained_newest (length last) link.hash (hashes_of links) p link.earlier (omega (arith, within, length-map links (λ (l : Link). l.hash))) (own_earlier links last p link linked within is)

pub latest_link : (links : List Link) (last : List ℕ) (p : ℕ) (link : Link) → Linked links last → p < length links → link ≡ get_or links p link
    → latest link.hash (hashes_of links) link.earlier ≡ latest (get_or (hashes_of links) p 0) (hashes_of links) p
latest_link links last p link linked within is =
    latest_from (length last) link.hash (hashes_of links) p link.earlier (own_earlier links last p link linked within is)
    ∙ ap (λ h. latest h (hashes_of links) p) (ap (λ (l : Link). l.hash) is ∙ sym (hash_at links p link within))

start_is : (links : List Link) (last : List ℕ) (hash slot start : ℕ) → Linked links last → slot ≡ slot_of (length last) hash → slot < length last → start ≡ get_or last slot start
    → start ≡ newest (length last) (slot_of (length last) hash) (hashes_of links) (length links)
start_is links last hash slot start linked is within read =
    read ∙ get_or_default last slot start 0 within ∙ linked.heads slot within ∙ ap (λ s. newest (length last) s (hashes_of links) (length links)) is

-- a chain begins at its slot
pub chained_slot : (links : List Link) (last : List ℕ) (hash slot start : ℕ) → Linked links last → slot ≡ slot_of (length last) hash → slot < length last → start ≡ get_or last slot start
    → IsChained (length last) hash (hashes_of links) start
chained_slot links last hash slot start linked is within read =
    chained_newest (length last) hash (hashes_of links) (length links) start (omega (arith, length-map links (λ (l : Link). l.hash))) (start_is links last hash slot start linked is within read)

pub latest_slot : (links : List Link) (last : List ℕ) (hash slot start : ℕ) → Linked links last → slot ≡ slot_of (length last) hash → slot < length last → start ≡ get_or last slot start
    → latest hash (hashes_of links) start ≡ latest hash (hashes_of links) (length (hashes_of links))
latest_slot links last hash slot start linked is within read =
    latest_from (length last) hash (hashes_of links) (length links) start (start_is links last hash slot start linked is within read)
    ∙ ap (latest hash (hashes_of links)) (sym (length-map links (λ (l : Link). l.hash)))

-- a link anew for the same hash
pub hashes_set : (links : List Link) (p : ℕ) (link d : Link) → p < length links → link.hash ≡ (get_or links p d).hash → hashes_of (set links p link) ≡ hashes_of links
hashes_set links p link d within is =
    map-set (λ (l : Link). l.hash) links p link
    ∙ ap (set (hashes_of links) p) (is ∙ sym (hash_at links p d within))
    ∙ set-get_or (hashes_of links) p 0

pub chain_hit : (links : List Link) (hash p : ℕ) (d : Link) → p < length links → (get_or links p d).hash ≡ hash → latest hash (hashes_of links) (suc p) ≡ Some p
chain_hit links hash p d within e = latest_hit hash (hashes_of links) p (sym e ∙ sym (hash_at links p d within))

heads_enter : (m : ℕ) (hs last : List ℕ) (h slot s : ℕ) → slot ≡ slot_of m h → slot < length last → get_or last s 0 ≡ newest m s hs (length hs)
    → (s ≡ slot) ⊎ (s ≡ slot → ⊥) → get_or (set last slot (suc (length hs))) s 0 ≡ newest m s (hs ++ h ∷ []) (suc (length hs))
heads_enter m hs last h slot s is within before (inl e) =
    let new : get_or (hs ++ h ∷ []) (length hs) 0 ≡ h = get_or_push hs h 0 (length hs) refl in
    ap (λ k. get_or (set last slot (suc (length hs))) k 0) e
    ∙ get_or-set_same last slot (suc (length hs)) 0 within
    ∙ sym (newest_hit m s (hs ++ h ∷ []) (length hs) (ap (slot_of m) new ∙ sym is ∙ sym e))
heads_enter m hs last h slot s is within before (inr ne) =
    let new : get_or (hs ++ h ∷ []) (length hs) 0 ≡ h = get_or_push hs h 0 (length hs) refl in
    get_or-set_other last slot s (suc (length hs)) 0 ne
    ∙ before
    ∙ sym (newest_before m s hs h (length hs) (omega arith))
    ∙ sym (newest_miss m s (hs ++ h ∷ []) (length hs) (λ same. ne (sym same ∙ ap (slot_of m) new ∙ sym is)))

tails_enter : (m : ℕ) (links : List Link) (link d : Link) (i : ℕ) → ((d : Link) → i < length links → (get_or links i d).earlier ≡ newest m (slot_of m (get_or links i d).hash) (hashes_of links) i)
    → link.earlier ≡ newest m (slot_of m link.hash) (hashes_of links) (length links) → i < length links + 1 → (i ≡ length links) ⊎ (i ≡ length links → ⊥)
    → (get_or (links ++ link ∷ []) i d).earlier ≡ newest m (slot_of m (get_or (links ++ link ∷ []) i d).hash) (hashes_of links ++ link.hash ∷ []) i
tails_enter m links link d i before own within (inl e) =
    let all : length (hashes_of links) ≡ length links = length-map links (λ (l : Link). l.hash) in
    let new : get_or (links ++ link ∷ []) i d ≡ link = get_or_push links link d i (sym e) in
    ap (λ (l : Link). l.earlier) new
    ∙ own
    ∙ ap (newest m (slot_of m link.hash) (hashes_of links)) (sym e)
    ∙ sym (newest_before m (slot_of m link.hash) (hashes_of links) link.hash i (omega (arith, all, e)))
    ∙ ap (λ (l : Link). newest m (slot_of m l.hash) (hashes_of links ++ link.hash ∷ []) i) (sym new)
tails_enter m links link d i before own within (inr ne) =
    let all : length (hashes_of links) ≡ length links = length-map links (λ (l : Link). l.hash) in
    let inside : i < length links = omega (arith, within, ne) in
    let old : get_or (links ++ link ∷ []) i d ≡ get_or links i d = get_or_append_left links (link ∷ []) d i inside in
    ap (λ (l : Link). l.earlier) old
    ∙ before d inside
    ∙ sym (newest_before m (slot_of m (get_or links i d).hash) (hashes_of links) link.hash i (omega (arith, all, inside)))
    ∙ ap (λ (l : Link). newest m (slot_of m l.hash) (hashes_of links ++ link.hash ∷ []) i) (sym old)

hashes_push : (links : List Link) (link : Link) → hashes_of (links ++ link ∷ []) ≡ hashes_of links ++ link.hash ∷ []
hashes_push links link = map-append (λ (l : Link). l.hash) links (link ∷ [])

-- a link more, entered at its slot
pub linked_enter : (links : List Link) (last : List ℕ) (link : Link) (slot : ℕ) → Linked links last → length links < table_limit → slot ≡ slot_of (length last) link.hash → slot < length last → link.earlier ≡ get_or last slot 0
    → Linked (links ++ link ∷ []) (set last slot (length links + 1))
linked_enter links last link slot linked room is within head =
    let m : length (set last slot (length links + 1)) ≡ length last = length-set last slot (length links + 1) in
    let all : length (hashes_of links) ≡ length links = length-map links (λ (l : Link). l.hash) in
    let more : length (links ++ link ∷ []) ≡ length links + 1 = length_push links link in
    let one : length links + 1 ≡ suc (length links) = add-one (length links) in
    record {
      some = omega (arith, m, linked.some);
      room = omega (arith, more, room);
      heads = λ s inside.
          let inside : s < length last = omega (arith, m, inside) in
          rw (m, more, hashes_push links link, one, ← all)
          (heads_enter (length last) (hashes_of links) last link.hash slot s is within (linked.heads s inside ∙ ap (newest (length last) s (hashes_of links)) (sym all)) (cases_eq s slot));
      tails = λ i d inside.
          rw (m, hashes_push links link)
          (tails_enter (length last) links link d i (linked.tails i) (head ∙ linked.heads slot within ∙ ap (λ s. newest (length last) s (hashes_of links) (length links)) is) (omega (arith, more, inside)) (cases_eq i (length links)));
    }

heads_leave : (m : ℕ) (hs last : List ℕ) (h slot s earlier : ℕ) → slot ≡ slot_of m h → slot < length last → get_or last s 0 ≡ newest m s (hs ++ h ∷ []) (suc (length hs))
    → earlier ≡ newest m slot (hs ++ h ∷ []) (length hs) → (s ≡ slot) ⊎ (s ≡ slot → ⊥) → get_or (set last slot earlier) s 0 ≡ newest m s hs (length hs)
heads_leave m hs last h slot s earlier is within before own (inl e) =
    ap (λ k. get_or (set last slot earlier) k 0) e
    ∙ get_or-set_same last slot earlier 0 within
    ∙ own
    ∙ ap (λ k. newest m k (hs ++ h ∷ []) (length hs)) (sym e)
    ∙ newest_before m s hs h (length hs) (omega arith)
heads_leave m hs last h slot s earlier is within before own (inr ne) =
    let new : get_or (hs ++ h ∷ []) (length hs) 0 ≡ h = get_or_push hs h 0 (length hs) refl in
    get_or-set_other last slot s earlier 0 ne
    ∙ before
    ∙ newest_miss m s (hs ++ h ∷ []) (length hs) (λ same. ne (sym same ∙ ap (slot_of m) new ∙ sym is))
    ∙ newest_before m s hs h (length hs) (omega arith)

-- a link less, at whose slot the one before it is the newest again
pub linked_leave : (links : List Link) (last : List ℕ) (link : Link) (slot : ℕ) → Linked (links ++ link ∷ []) last → slot ≡ slot_of (length last) link.hash → slot < length last → Linked links (set last slot link.earlier)
linked_leave links last link slot linked is within =
    let m : length (set last slot link.earlier) ≡ length last = length-set last slot link.earlier in
    let all : length (hashes_of links) ≡ length links = length-map links (λ (l : Link). l.hash) in
    let more : length (links ++ link ∷ []) ≡ length links + 1 = length_push links link in
    let counted : length (links ++ link ∷ []) ≡ suc (length (hashes_of links)) = omega (arith, more, all) in
    let new : get_or (links ++ link ∷ []) (length links) link ≡ link = get_or_push links link link (length links) refl in
    let own : link.earlier ≡ newest (length last) slot (hashes_of links ++ link.hash ∷ []) (length (hashes_of links)) =
    ap (λ (l : Link). l.earlier) (sym new)
    ∙ linked.tails (length links) link (omega (arith, more))
    ∙ ap (λ (l : Link). newest (length last) (slot_of (length last) l.hash) (hashes_of (links ++ link ∷ [])) (length links)) new
    ∙ ap (λ k. newest (length last) k (hashes_of (links ++ link ∷ [])) (length links)) (sym is)
    ∙ ap (λ (hs : List ℕ). newest (length last) slot hs (length links)) (hashes_push links link)
    ∙ ap (newest (length last) slot (hashes_of links ++ link.hash ∷ [])) (sym all) in
    record {
      some = omega (arith, m, linked.some);
      room = omega (arith, more, linked.room);
      heads = λ s inside.
          let inside : s < length last = omega (arith, m, inside) in
          let before : get_or last s 0 ≡ newest (length last) s (hashes_of links ++ link.hash ∷ []) (suc (length (hashes_of links))) =
          linked.heads s inside ∙ ap (λ (hs : List ℕ). newest (length last) s hs (length (links ++ link ∷ []))) (hashes_push links link) ∙ ap (newest (length last) s (hashes_of links ++ link.hash ∷ [])) counted in
          rw (m, ← all) (heads_leave (length last) (hashes_of links) last link.hash slot s link.earlier is within before own (cases_eq s slot));
      tails = λ i d inside.
          let old : get_or (links ++ link ∷ []) i d ≡ get_or links i d = get_or_append_left links (link ∷ []) d i inside in
          rw m
          (ap (λ (l : Link). l.earlier) (sym old)
          ∙ linked.tails i d (omega (arith, more, inside))
          ∙ ap (λ (l : Link). newest (length last) (slot_of (length last) l.hash) (hashes_of (links ++ link ∷ [])) i) old
          ∙ ap (λ (hs : List ℕ). newest (length last) (slot_of (length last) (get_or links i d).hash) hs i) (hashes_push links link)
          ∙ newest_before (length last) (slot_of (length last) (get_or links i d).hash) (hashes_of links) link.hash i (omega (arith, all, inside)));
    }

newest_of_none : (m s : ℕ) → newest m s [] 0 ≡ 0
newest_of_none m s = refl

-- no hashes, by slots that have none
pub linked_none : (last : List ℕ) → 0 < length last → last ≡ replicate (length last) 0 → Linked [] last
linked_none last some empty = record {
  some = some;
  room = omega arith;
  heads = λ s inside. ap (λ (xs : List ℕ). get_or xs s 0) empty ∙ get_or-replicate (length last) s 0 0 inside;
  tails = λ i d inside. absurd (omega (arith, inside));
}

pub linked_pop : (all links : List Link) (last : List ℕ) (link : Link) (slot : ℕ) → all ≡ links ++ link ∷ [] → Linked all last → slot ≡ slot_of (length last) link.hash → slot < length last → Linked links (set last slot link.earlier)
linked_pop all links last link slot is linked slot_is within = linked_leave links last link slot (rw (← is) linked) slot_is within
