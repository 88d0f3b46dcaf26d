use Rattle.std.proofs.Common.{rules, ◌≡◌, ◌<◌, ◌≤◌, ◌∙◌, ℕ, suc, true, false, Some, List, sym, ap, length, take, get_or, arith}
use Rattle.std.specs.Str.{bytes_eq}
use Rattle.std.proofs.lemmas.List.{take_all}
use Rattle.sgml_names.specs.Index.{found}
use Rattle.sgml_names.specs.Hashing.{hash_by}
use Rattle.sgml_names.specs.Hashed.{hashes}
use Rattle.sgml_names.proofs.Finding.{up_to, left_at, here_at, length_hashes, hit_at, miss_at, less_at}
use Rattle.sgml_names.proofs.index.among_many.Goals as goal

pub places-init : goal.places-init
places-init c =
    let es = c.args.entries.now in
    let q = c.args.name.now in
    let hs = c.args.slots.now in
    let count : length hs ≡ length es = ap length c.requires.hashes ∙ length_hashes c.args.hashing es in
    let within : length hs ≤ length es = omega (arith, count) in
    let left : found (take (up_to c.latest-next.result) es) q ≡ found (take (length hs) es) q = left_at c.args.hashing es q hs c.hash.result (length hs) c.latest-next.result c.requires.hashes c.hash.ensures within c.latest-next.ensures in
    record {
      left = left ∙ ap (λ (xs : List (List ℕ × ℕ)). found xs q) (take_all (length hs) es (omega (arith, count)));
      here = λ p some.
          let here : (p < length hs) × (get_or (hashes c.args.hashing es) p 0 ≡ hash_by c.args.hashing q) = here_at c.args.hashing es q hs c.hash.result (length hs) c.latest-next.result c.requires.hashes c.hash.ensures within c.latest-next.ensures p some in
          (omega (arith, here.0, count), here.1);
    }

pub bounds-entries-place : goal.bounds-entries-place
bounds-entries-place c = (c.places.invariant.here c.in-Some.place c.in-Some.is).0

pub offset_bounds-entries-place : goal.offset_bounds-entries-place
offset_bounds-entries-place c =
    let within : c.in-Some.place < length c.args.entries.now = (c.places.invariant.here c.in-Some.place c.in-Some.is).0 in
    search rules

pub returns-then-is_same : goal.returns-then-is_same
returns-then-is_same c =
    let es = c.args.entries.now in
    let p = c.in-Some.place in
    let e = c.index-entries-place.result in
    let within : p < length es = (c.places.invariant.here p c.in-Some.is).0 in
    let equal : bytes_eq c.args.name.now (get_or es p e).0 ≡ true =
    ap (λ (x : List ℕ × ℕ). bytes_eq c.args.name.now x.0) (sym c.index-entries-place.is) ∙ ap (bytes_eq c.args.name.now) (sym c.name.ensures) ∙ sym c.is_same.ensures ∙ c.if-is_same.true in
    ap Some (c.number.ensures ∙ ap (λ (x : List ℕ × ℕ). x.1) c.index-entries-place.is)
    ∙ sym (hit_at es p e c.args.name.now c.requires.once within equal)
    ∙ ap (λ o. found (take (up_to o) es) c.args.name.now) (sym c.in-Some.is)
    ∙ c.places.invariant.left

pub before-next-requires : goal.before-next-requires
before-next-requires c =
    let within : c.in-Some.place < length c.args.entries.now = (c.places.invariant.here c.in-Some.place c.in-Some.is).0 in
    omega (arith, within, ap length c.requires.hashes, length_hashes c.args.hashing c.args.entries.now)

pub places-smaller : goal.places-smaller
places-smaller c =
    let less : up_to c.before-next.result ≤ c.in-Some.place = less_at _ c.args.slots.now c.in-Some.place c.before-next.result c.before-next.ensures in
    let was : up_to c.places.next ≡ suc c.in-Some.place = ap up_to c.in-Some.is in
    omega (arith, less, was)

pub places-preserved : goal.places-preserved
places-preserved c =
    let es = c.args.entries.now in
    let q = c.args.name.now in
    let hs = c.args.slots.now in
    let p = c.in-Some.place in
    let e = c.index-entries-place.result in
    let within : p < length es = (c.places.invariant.here p c.in-Some.is).0 in
    let same : get_or hs p 0 ≡ hash_by c.args.hashing q = ap (λ (xs : List ℕ). get_or xs p 0) c.requires.hashes ∙ (c.places.invariant.here p c.in-Some.is).1 in
    let differs : bytes_eq q (get_or es p e).0 ≡ false =
    ap (λ (x : List ℕ × ℕ). bytes_eq q x.0) (sym c.index-entries-place.is) ∙ ap (bytes_eq q) (sym c.name.ensures) ∙ sym c.is_same.ensures ∙ c.if-is_same.false in
    record {
      left =
          left_at c.args.hashing es q hs (get_or hs p 0) p c.before-next.result c.requires.hashes same (omega (arith, within)) c.before-next.ensures
          ∙ sym (miss_at es p e q within differs)
          ∙ ap (λ o. found (take (up_to o) es) q) (sym c.in-Some.is)
          ∙ c.places.invariant.left;
      here = λ k some.
          let here : (k < p) × (get_or (hashes c.args.hashing es) k 0 ≡ hash_by c.args.hashing q) = here_at c.args.hashing es q hs (get_or hs p 0) p c.before-next.result c.requires.hashes same (omega (arith, within)) c.before-next.ensures k some in
          (omega (arith, here.0, within), here.1);
    }
