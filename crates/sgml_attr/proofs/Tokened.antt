-- The tokens of a value, as it is read.
use Rattle.std.proofs.Common.{◌≡◌, ◌≤◌, ◌<◌, ◌+◌, ◌-◌, ℕ, Bool, true, false, List, [], ◌∷◌, ◌++◌, sym, ap, ◌∙◌, fold, map, take, drop, get_or, length, if◌then◌else◌, arith, length-take}
use Rattle.std.proofs.lemmas.List.{drop-take, drop_all, map-append, take_more, drop-append-le}
use Rattle.std.proofs.lemmas.List.Sums.{fold_more}
use Rattle.sgml_text.specs.declared.unit.Unit.{Unit as AnyUnit}
use Rattle.sgml_attr.specs.Parts.{is_space, ended, parted}
use Rattle.sgml_attr.specs.Tokens.{token_of}

-- the parts of the first n units
abbrev state : List AnyUnit → ℕ → List (List AnyUnit) × List AnyUnit
state units n = fold parted ([], []) (take n units)

module _ (units : List AnyUnit) (i : ℕ) (d : AnyUnit) (l : i < length units) where
  state-space : is_space (get_or units i d) ≡ true → state units (i + 1) ≡ ((state units i).0 ++ ended (state units i).1, [])
  state-space e =
      fold_more parted ([], []) units i d l
      ∙ ap (λ (b : Bool). if b then ((state units i).0 ++ ended (state units i).1, []) else ((state units i).0, (state units i).1 ++ get_or units i d ∷ [])) e

  state-unit : is_space (get_or units i d) ≡ false → state units (i + 1) ≡ ((state units i).0, (state units i).1 ++ get_or units i d ∷ [])
  state-unit e =
      fold_more parted ([], []) units i d l
      ∙ ap (λ (b : Bool). if b then ((state units i).0 ++ ended (state units i).1, []) else ((state units i).0, (state units i).1 ++ get_or units i d ∷ [])) e

part-there : (units : List AnyUnit) (begun i : ℕ) → begun ≤ i → take (i - begun) (drop begun units) ≡ drop begun (take i units)
part-there units begun i w =
    let k : begun + (i - begun) ≡ i = omega arith in
    sym (drop-take begun (i - begun) units) ∙ ap (λ (n : ℕ). drop begun (take n units)) k

-- at a SPACE the part that was begun is a token, unless it is empty
pub tokens-space : (folding : Bool) (units : List AnyUnit) (begun i : ℕ) (d : AnyUnit) (names next : List (List ℕ)) → begun ≤ i → i < length units
    → is_space (get_or units i d) ≡ true
    → names ≡ map (token_of folding) (state units i).0 → drop begun (take i units) ≡ (state units i).1
    → next ≡ names ++ map (token_of folding) (ended (take (i - begun) (drop begun units)))
    → next ≡ map (token_of folding) (state units (i + 1)).0
tokens-space folding units begun i d names next w l e n b is =
    is
    ∙ ap (λ (x : List AnyUnit). names ++ map (token_of folding) (ended x)) (part-there units begun i w ∙ b)
    ∙ ap (λ (x : List (List ℕ)). x ++ map (token_of folding) (ended (state units i).1)) n
    ∙ sym (map-append (token_of folding) (state units i).0 (ended (state units i).1))
    ∙ ap (λ (x : List (List AnyUnit) × List AnyUnit). map (token_of folding) x.0) (sym (state-space units i d l e))

pub begun-space : (units : List AnyUnit) (i n : ℕ) (d : AnyUnit) → i < length units → is_space (get_or units i d) ≡ true → n ≡ i + 1 → drop n (take (i + 1) units) ≡ (state units (i + 1)).1
begun-space units i n d l e is =
    drop_all n (take (i + 1) units) (omega (arith, length-take (i + 1) units))
    ∙ ap (λ (x : List (List AnyUnit) × List AnyUnit). x.1) (sym (state-space units i d l e))

-- another unit goes on the part
pub tokens-unit : (folding : Bool) (units : List AnyUnit) (i : ℕ) (d : AnyUnit) (names : List (List ℕ)) → i < length units
    → is_space (get_or units i d) ≡ false → names ≡ map (token_of folding) (state units i).0 → names ≡ map (token_of folding) (state units (i + 1)).0
tokens-unit folding units i d names l e n =
    n ∙ ap (λ (x : List (List AnyUnit) × List AnyUnit). map (token_of folding) x.0) (sym (state-unit units i d l e))

pub begun-unit : (units : List AnyUnit) (begun i : ℕ) (d : AnyUnit) → begun ≤ i → i < length units → is_space (get_or units i d) ≡ false
    → drop begun (take i units) ≡ (state units i).1 → drop begun (take (i + 1) units) ≡ (state units (i + 1)).1
begun-unit units begun i d w l e b =
    ap (drop begun) (take_more units i d l)
    ∙ drop-append-le begun (take i units) (get_or units i d ∷ []) (omega (arith, length-take i units))
    ∙ ap (λ (x : List AnyUnit). x ++ get_or units i d ∷ []) b
    ∙ ap (λ (x : List (List AnyUnit) × List AnyUnit). x.1) (sym (state-unit units i d l e))
