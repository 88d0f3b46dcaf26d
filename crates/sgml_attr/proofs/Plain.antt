-- Plain units are read as they stand.
use Rattle.std.proofs.Common.{◌≡◌, ◌≢◌, ◌<◌, ◌⊎◌, inl, inr, ℕ, arith, length, ◌==◌, ◌&&◌, Bool, true, false, List, [], ◌∷◌, ◌++◌, refl, sym, ap, ◌∙◌, subst, fold, map, append_assoc, nat_lt, if◌then◌else◌}
use Rattle.std.specs.List.{flat_map, list_all}
use Rattle.std.proofs.lemmas.Bool.Decides.{eqb_tells}
use Rattle.std.proofs.lemmas.List.{append-nil}
use Rattle.sgml_text.specs.Units.{characters}
use Rattle.sgml_text.specs.declared.unit.Unit.{Unit as AnyUnit}
use Rattle.sgml_text.specs.declared.unit.Unit.TheVariants.{Byte, Coded, Sdata}
use Rattle.sgml_names.specs.Naming.{cased_character}
use Rattle.sgml_attr.specs.declared.definition.Declared.{Declared}
use Rattle.sgml_attr.specs.Literal.{unit_read, is_behind, last_separator, is_cdata, joined, interpreted}
use Rattle.sgml_attr.specs.Parts.{is_space, ended, parted, all_ended, parts}
use Rattle.sgml_attr.specs.Tokens.{token_of, tokens}

both : (a b : Bool) → (a && b) ≡ true → (a ≡ true) × (b ≡ true)
both true b e = (refl, e)
both false b e = absurd (cc e)

differs : (m b n : ℕ) → nat_lt m b ≡ true → nat_lt m n ≡ false → (b == n) ≡ false
differs m b n l h = by (eqb_tells b n)
  where
    by : (((b == n) ≡ true) × (b ≡ n)) ⊎ (((b == n) ≡ false) × (b ≢ n)) → (b == n) ≡ false
    by (inl e) = absurd (cc (sym (subst (λ (x : ℕ). nat_lt m x ≡ true) e.1 l) ∙ h))
    by (inr e) = e.0

module _ (m : ℕ) (lf : nat_lt m 10 ≡ false) (cr : nat_lt m 13 ≡ false) (tab : nat_lt m 9 ≡ false) where
  read-same : (u : AnyUnit) → is_behind m u ≡ true → unit_read u ≡ u ∷ []
  read-same (Byte b) e = rw (differs m b 10 e lf, differs m b 13 e cr, differs m b 9 e tab) refl
  read-same (Coded b) e = absurd (cc e)
  read-same (Sdata n) e = absurd (cc e)

  all-same : (units : List AnyUnit) → list_all (is_behind m) units ≡ true → flat_map unit_read units ≡ units
  all-same [] e = refl
  all-same (u ∷ units) e =
      let two = both (is_behind m u) (list_all (is_behind m) units) e in
      ap (λ (x : List AnyUnit). x ++ flat_map unit_read units) (read-same u two.0) ∙ ap (λ (x : List AnyUnit). u ∷ x) (all-same units two.1)

no-space : (u : AnyUnit) → is_behind 32 u ≡ true → is_space u ≡ false
no-space (Byte b) e = differs 32 b 32 e refl
no-space (Coded b) e = absurd (cc e)
no-space (Sdata n) e = absurd (cc e)

one-part : (units part : List AnyUnit) → list_all (is_behind 32) units ≡ true → all_ended (fold parted ([], part) units) ≡ ended (part ++ units)
one-part [] part e = ap ended (sym (append-nil part))
one-part (u ∷ units) part e =
    let two = both (is_behind 32 u) (list_all (is_behind 32) units) e in
    ap (λ (b : Bool). all_ended (fold parted (if b then ([] ++ ended part, []) else ([], part ++ u ∷ [])) units)) (no-space u two.0)
    ∙ one-part units (part ++ u ∷ []) two.1
    ∙ ap ended (append_assoc part (u ∷ []) units)

joined-ended : (units : List AnyUnit) → joined (ended units) ≡ units
joined-ended [] = refl
joined-ended (u ∷ units) = append-nil (u ∷ units)

pub plain-same : (declared : Declared) (units : List AnyUnit) → list_all (is_behind (last_separator declared)) units ≡ true → interpreted declared units ≡ units
plain-same declared units e = by (is_cdata declared) e
  where
    by : (b : Bool) → list_all (is_behind (if b then 31 else 32)) units ≡ true → (if b then flat_map unit_read units else joined (parts (flat_map unit_read units))) ≡ units
    by true h = all-same 31 refl refl refl units h
    by false h = ap (λ (x : List AnyUnit). joined (parts x)) (all-same 32 refl refl refl units h) ∙ ap joined (one-part units [] h) ∙ joined-ended units

-- characters that are no separators
behind-all : (bytes : List ℕ) → list_all (nat_lt 32) bytes ≡ true → list_all (is_behind 32) (characters bytes) ≡ true
behind-all [] e = refl
behind-all (b ∷ bytes) e =
    let two = both (nat_lt 32 b) (list_all (nat_lt 32) bytes) e in
    rw (two.0, behind-all bytes two.1) refl

apart-by : (bytes : List ℕ) → list_all (nat_lt 32) bytes ≡ true → (b : Bool)
    → (if b then flat_map unit_read (characters bytes) else joined (parts (flat_map unit_read (characters bytes)))) ≡ characters bytes
apart-by bytes e b =
    ap (λ (x : List AnyUnit). if b then x else joined (parts x)) (all-same 32 refl refl refl (characters bytes) (behind-all bytes e)) ∙ by b
  where
    by : (b : Bool) → (if b then characters bytes else joined (parts (characters bytes))) ≡ characters bytes
    by true = refl
    by false = ap joined (one-part (characters bytes) [] (behind-all bytes e)) ∙ joined-ended (characters bytes)

pub apart-same : (declared : Declared) (bytes : List ℕ) → list_all (nat_lt 32) bytes ≡ true → interpreted declared (characters bytes) ≡ characters bytes
apart-same declared bytes e = apart-by bytes e (is_cdata declared)

-- they are one token, unless there are none
token-spelled : (folding : Bool) (bytes : List ℕ) → token_of folding (characters bytes) ≡ map (cased_character folding) bytes
token-spelled folding [] = refl
token-spelled folding (b ∷ bytes) = ap (λ (x : List ℕ). cased_character folding b ∷ x) (token-spelled folding bytes)

abbrev pub one_of : List ℕ → List (List ℕ)
one_of [] = []
one_of (b ∷ bytes) = (b ∷ bytes) ∷ []

ended-one : (folding : Bool) (bytes : List ℕ) → map (token_of folding) (ended (characters bytes)) ≡ one_of (map (cased_character folding) bytes)
ended-one folding [] = refl
ended-one folding (b ∷ bytes) = ap (λ (x : List ℕ). x ∷ []) (token-spelled folding (b ∷ bytes))

pub tokens-spelled : (folding : Bool) (bytes : List ℕ) → list_all (nat_lt 32) bytes ≡ true → tokens folding (characters bytes) ≡ one_of (map (cased_character folding) bytes)
tokens-spelled folding bytes e =
    ap (map (token_of folding)) (one-part (characters bytes) [] (behind-all bytes e)) ∙ ended-one folding bytes

pub one-some : (xs : List ℕ) → 0 < length xs → one_of xs ≡ xs ∷ []
one-some [] l = absurd (omega (arith, l))
one-some (x ∷ xs) l = refl
