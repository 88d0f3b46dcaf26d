-- A value that is a list of tokens.
use Rattle.std.proofs.Common.{◌≡◌, ◌≢◌, ◌<◌, ◌≤◌, ◌+◌, ◌==◌, ◌&&◌, ◌||◌, ◌⊎◌, inl, inr, ◌∷◌, ◌++◌, ℕ, zero, suc, Bool, true, false, not, List, [], Option, Some, None, Result, Ok, Err, refl, sym, ap, ◌∙◌, subst, arith, length, take, drop, get_or, map, fold, nat_lt, if◌then◌else◌}
use Rattle.std.specs.List.{list_all, list_any, flat_map}
use Rattle.std.proofs.lemmas.List.{length-map, length-append, take_all, map-append}
use Rattle.std.proofs.lemmas.Bool.Decides.{eqb_tells}
use Rattle.sgml_text.specs.Refusals.{first_row}
use Rattle.sgml_text.specs.Units.{characters}
use Rattle.sgml_text.specs.declared.unit.Unit.{Unit as AnyUnit}
use Rattle.sgml_text.specs.declared.unit.Unit.TheVariants.{Byte}
use Rattle.sgml_names.specs.Naming.{cased_character}
use Rattle.sgml_syntax.specs.declared.syntax.Syntax.{Syntax}
use Rattle.sgml_entity.specs.Entities.{Tables}
use Rattle.sgml_attr.specs.declared.definition.Declared.{Declared}
use Rattle.sgml_attr.specs.declared.definition.Declared.TheVariants as declared
use Rattle.sgml_attr.specs.declared.definition.Definition.{Definition}
use Rattle.sgml_attr.specs.declared.error.AttrError.{AttrError}
use Rattle.sgml_attr.specs.declared.error.AttrError.TheVariants.{FixedDiffers}
use Rattle.sgml_attr.specs.declared.value.AttrValue.{AttrValue}
use Rattle.sgml_attr.specs.declared.value.AttrValue.TheVariants as values
use Rattle.sgml_attr.specs.Parts.{is_space, ended, parted, all_ended, parts}
use Rattle.sgml_attr.specs.Literal.{is_cdata, interpreted, joined, spaced, unit_read}
use Rattle.sgml_attr.specs.Tokens.{folds, token_of, tokens, is_name_token, is_token, kind_of, is_count}
use Rattle.sgml_attr.specs.Rows.{is_in_group, is_other}
use Rattle.sgml_attr.specs.Values.{unless, units_give, tokens_give, value}
use Rattle.sgml_attr.proofs.Plain.{plain-same}
use Rattle.sgml_attr.proofs.Parting.{parts-kept}
use Rattle.sgml_starts.specs.Plain.{is_fixed, is_of_list, is_listed, IsListedValue, IsCalmValue}
use Rattle.sgml_starts.proofs.Judged.{judged-so}
use Rattle.sgml_starts.proofs.Plain.{unfixed, no-row, left-of, right-of}
use Rattle.sgml_starts.proofs.Calm.{all-behind, within-litlen}

-- READ AS IT IS DECLARED it isn't longer, and gives the same

spaced-both : (ps qs : List (List AnyUnit)) → length (spaced (ps ++ qs)) ≡ length (spaced ps) + length (spaced qs)
spaced-both [] qs =
    let none : length (spaced []) ≡ 0 = refl in
    omega (arith, none)
spaced-both (p ∷ ps) qs =
    let rest = spaced-both ps qs in
    let all : length (p ++ spaced (ps ++ qs)) ≡ length p + length (spaced (ps ++ qs)) = length-append p (spaced (ps ++ qs)) in
    let own : length (p ++ spaced ps) ≡ length p + length (spaced ps) = length-append p (spaced ps) in
    let left : length (spaced ((p ∷ ps) ++ qs)) ≡ suc (length (p ++ spaced (ps ++ qs))) = refl in
    let right : length (spaced (p ∷ ps)) ≡ suc (length (p ++ spaced ps)) = refl in
    omega (arith, rest, all, own, left, right)

spaced-ended : (part : List AnyUnit) → length (spaced (ended part)) ≤ 1 + length part
spaced-ended [] =
    let none : length (spaced (ended [])) ≡ 0 = refl in
    omega (arith, none)
spaced-ended (u ∷ part) =
    let all : length ((u ∷ part) ++ []) ≡ length (u ∷ part) + 0 = length-append (u ∷ part) [] in
    let one : length (spaced (ended (u ∷ part))) ≡ suc (length ((u ∷ part) ++ [])) = refl in
    omega (arith, all, one)

abbrev size_of : List (List AnyUnit) → List AnyUnit → List AnyUnit → ℕ
size_of ps part units = length (spaced (all_ended (fold parted (ps, part) units)))

fewer-step : (u : AnyUnit) (units : List AnyUnit) (ps : List (List AnyUnit)) (part : List AnyUnit) (b : Bool) → is_space u ≡ b
    → size_of (ps ++ ended part) [] units ≤ length (spaced (ps ++ ended part)) + (1 + 0) + length units
    → size_of ps (part ++ u ∷ []) units ≤ length (spaced ps) + (1 + length (part ++ u ∷ [])) + length units
    → size_of ps part (u ∷ units) ≤ length (spaced ps) + (1 + length part) + (1 + length units)
fewer-step u units ps part true e more other =
    let both = spaced-both ps (ended part) in
    let last = spaced-ended part in
    let same : size_of ps part (u ∷ units) ≡ size_of (ps ++ ended part) [] units =
    ap (λ (b : Bool). length (spaced (all_ended (fold parted (if b then (ps ++ ended part, []) else (ps, part ++ u ∷ [])) units)))) e in
    omega (arith, more, both, last, same)
fewer-step u units ps part false e other more =
    let longer : length (part ++ u ∷ []) ≡ length part + 1 = length-append part (u ∷ []) in
    let same : size_of ps part (u ∷ units) ≡ size_of ps (part ++ u ∷ []) units =
    ap (λ (b : Bool). length (spaced (all_ended (fold parted (if b then (ps ++ ended part, []) else (ps, part ++ u ∷ [])) units)))) e in
    omega (arith, more, longer, same)

fewer-by : (units : List AnyUnit) (ps : List (List AnyUnit)) (part : List AnyUnit) → size_of ps part units ≤ length (spaced ps) + (1 + length part) + length units
fewer-by [] ps part =
    let both = spaced-both ps (ended part) in
    let last = spaced-ended part in
    let same : size_of ps part [] ≡ length (spaced (ps ++ ended part)) = refl in
    omega (arith, both, last, same)
fewer-by (u ∷ units) ps part =
    let more = fewer-by units (ps ++ ended part) [] in
    let other = fewer-by units ps (part ++ u ∷ []) in
    let none : length {A = AnyUnit} [] ≡ 0 = refl in
    let one : length (u ∷ units) ≡ 1 + length units = omega arith in
    let step = fewer-step u units ps part (is_space u) refl (omega (arith, more, none)) other in
    omega (arith, step, one)

joined-spaced : (ps : List (List AnyUnit)) (n : ℕ) → length (spaced ps) ≤ 1 + n → length (joined ps) ≤ n
joined-spaced [] n l =
    let none : length (joined []) ≡ 0 = refl in
    omega (arith, none)
joined-spaced (p ∷ ps) n l =
    let one : length (spaced (p ∷ ps)) ≡ suc (length (joined (p ∷ ps))) = refl in
    omega (arith, l, one)

joined-fewer : (units : List AnyUnit) → length (joined (parts units)) ≤ length units
joined-fewer units =
    let few = fewer-by units [] [] in
    let none : length (spaced []) ≡ 0 = refl in
    let empty : length {A = AnyUnit} [] ≡ 0 = refl in
    joined-spaced (parts units) (length units) (omega (arith, few, none, empty))

module _ (d : Declared) (units : List AnyUnit) (plain : flat_map unit_read units ≡ units) where
  read-by : (b : Bool) → is_cdata d ≡ b → interpreted d units ≡ (if b then units else joined (parts units))
  read-by b e =
      ap (λ (t : Bool). if t then flat_map unit_read units else joined (parts (flat_map unit_read units))) e
      ∙ ap (λ (u : List AnyUnit). if b then u else joined (parts u)) plain

  fewer : length (interpreted d units) ≤ length units
  fewer = by (is_cdata d) refl
    where
      by : (b : Bool) → is_cdata d ≡ b → length (interpreted d units) ≤ length units
      by true e = let same : length (interpreted d units) ≡ length units = ap (λ (u : List AnyUnit). length u) (read-by true e) in omega (arith, same)
      by false e =
          let same : length (interpreted d units) ≡ length (joined (parts units)) = ap (λ (u : List AnyUnit). length u) (read-by false e) in
          let few = joined-fewer units in
          omega (arith, same, few)

  gives-by : (s : Syntax) (t : Tables) (w : List AnyUnit) (b : Bool) → is_cdata d ≡ b
      → units_give s d t None w ≡ (if b then unless (first_row ((is_other None w, FixedDiffers) ∷ [])) (values.Cdata w) else tokens_give s d t None (tokens (folds s d) w))
  gives-by s t w b e =
      ap (λ (c : Bool). if c then unless (first_row ((is_other None w, FixedDiffers) ∷ [])) (values.Cdata w) else tokens_give s d t None (tokens (folds s d) w)) e

  gives-same : (s : Syntax) (t : Tables) → units_give s d t None (interpreted d units) ≡ units_give s d t None units
  gives-same s t = by (is_cdata d) refl
    where
      by : (b : Bool) → is_cdata d ≡ b → units_give s d t None (interpreted d units) ≡ units_give s d t None units
      by true e = ap (units_give s d t None) (read-by true e)
      by false e =
          gives-by s t (interpreted d units) false e
          ∙ ap (λ (ps : List (List AnyUnit)). tokens_give s d t None (map (token_of (folds s d)) ps)) (ap parts (read-by false e) ∙ parts-kept units)
          ∙ sym (gives-by s t units false e)

pub listed-value : (s : Syntax) (x : Definition) (bytes : List ℕ) (v : AttrValue) → length bytes ≤ s.quantities.litlen → is_fixed x.default ≡ false
    → list_all (nat_lt 31) bytes ≡ true → IsListedValue s x.declared bytes v → IsCalmValue s x bytes v
listed-value s x bytes v short free behind is = λ t.
    let d = x.declared in
    let units = characters bytes in
    let plain : flat_map unit_read units ≡ units = plain-same declared.Cdata units (all-behind bytes behind) in
    let few : length (interpreted d units) ≤ length bytes = omega (arith, fewer d units plain, length-map bytes (λ b. Byte b)) in
    let gives : value s x t None (Some (interpreted d units)) ≡ Ok v =
    ap (λ (o : Option (List AnyUnit)). units_give s d t o (interpreted d units)) (unfixed x.default free) ∙ gives-same d units plain s t ∙ is t in
    let j = judged-so s x t false (interpreted d units) (interpreted d units) false (Ok v) (Ok v) refl (sym (within-litlen s bytes (length (interpreted d units)) short few)) (sym gives) refl in
    (j.none, gives)

-- NO ROW HOLDS against tokens that are all listed

abbrev long_token : Syntax → List ℕ → Bool
long_token s t = is_name_token s.names t && nat_lt s.quantities.namelen (length t)

and-off : (a b : Bool) → b ≡ false → (a && b) ≡ false
and-off true b e = e
and-off false b e = refl

is-off : (b : Bool) → not b ≡ true → b ≡ false
is-off true e = absurd (cc e)
is-off false e = refl

or-off : (a b : Bool) → a ≡ false → b ≡ false → (a || b) ≡ false
or-off a b e h = rw (e, h) refl

and-on : (a b : Bool) → a ≡ true → b ≡ true → (a && b) ≡ true
and-on a b e h = rw (e, h) refl

module _ (s : Syntax) (d : Declared) where
  none-long : (ts : List (List ℕ)) → list_all (is_listed s d) ts ≡ true → list_any (long_token s) ts ≡ false
  none-long [] h = refl
  none-long (t ∷ ts) h =
      let fits = left-of (is_listed s d t) (list_all (is_listed s d) ts) h in
      let short = is-off (nat_lt s.quantities.namelen (length t)) (left-of (not (nat_lt s.quantities.namelen (length t))) (is_of_list s.names d t) fits) in
      or-off (long_token s t) (list_any (long_token s) ts) (and-off (is_name_token s.names t) (nat_lt s.quantities.namelen (length t)) short)
      (none-long ts (right-of (is_listed s d t) (list_all (is_listed s d) ts) h))

  all-of : (p : List ℕ → Bool) → ((t : List ℕ) → is_of_list s.names d t ≡ true → p t ≡ true) → (ts : List (List ℕ)) → list_all (is_listed s d) ts ≡ true → list_all p ts ≡ true
  all-of p f [] h = refl
  all-of p f (t ∷ ts) h =
      let fits = left-of (is_listed s d t) (list_all (is_listed s d) ts) h in
      and-on (p t) (list_all p ts) (f t (right-of (not (nat_lt s.quantities.namelen (length t))) (is_of_list s.names d t) fits))
      (all-of p f ts (right-of (is_listed s d t) (list_all (is_listed s d) ts) h))

  none-of : ((t : List ℕ) → is_of_list s.names d t ≡ false) → (ts : List (List ℕ)) → 0 < length ts → list_all (is_listed s d) ts ≡ true → ⊥
  none-of f [] l h = omega (arith, l)
  none-of f (t ∷ ts) l h =
      let fits = left-of (is_listed s d t) (list_all (is_listed s d) ts) h in
      cc (sym (f t) ∙ right-of (not (nat_lt s.quantities.namelen (length t))) (is_of_list s.names d t) fits)

some-count : (n : ℕ) → 0 < n → nat_lt 0 n ≡ true
some-count n l = grind arith

counted : (ts : List (List ℕ)) → 0 < length ts → is_count true (length ts) ≡ true
counted ts l = some-count (length ts) l

module _ (s : Syntax) (tables : Tables) (ts : List (List ℕ)) (some : 0 < length ts) where
  gives : (d : Declared) (units : List AnyUnit) → ts ≡ tokens s.general_fold units → list_all (is_listed s d) ts ≡ true → units_give s d tables None units ≡ Ok (values.Tokens ts)
  gives declared.Names units is h =
      ap (tokens_give s declared.Names tables None) (sym is)
      ∙ no-row (list_any (long_token s) ts) (is_count true (length ts) && list_all (is_token s.names (kind_of declared.Names)) ts) (list_all (is_in_group declared.Names) ts) (values.Tokens ts)
      (none-long s declared.Names ts h)
      (and-on (is_count true (length ts)) (list_all (is_token s.names (kind_of declared.Names)) ts) (counted ts some) (all-of s declared.Names (is_token s.names (kind_of declared.Names)) (λ t e. e) ts h))
      (all-of s declared.Names (is_in_group declared.Names) (λ t e. refl) ts h)
  gives declared.Idrefs units is h =
      ap (tokens_give s declared.Idrefs tables None) (sym is)
      ∙ no-row (list_any (long_token s) ts) (is_count true (length ts) && list_all (is_token s.names (kind_of declared.Idrefs)) ts) (list_all (is_in_group declared.Idrefs) ts) (values.Tokens ts)
      (none-long s declared.Idrefs ts h)
      (and-on (is_count true (length ts)) (list_all (is_token s.names (kind_of declared.Idrefs)) ts) (counted ts some) (all-of s declared.Idrefs (is_token s.names (kind_of declared.Idrefs)) (λ t e. e) ts h))
      (all-of s declared.Idrefs (is_in_group declared.Idrefs) (λ t e. refl) ts h)
  gives declared.Nmtokens units is h =
      ap (tokens_give s declared.Nmtokens tables None) (sym is)
      ∙ no-row (list_any (long_token s) ts) (is_count true (length ts) && list_all (is_token s.names (kind_of declared.Nmtokens)) ts) (list_all (is_in_group declared.Nmtokens) ts) (values.Tokens ts)
      (none-long s declared.Nmtokens ts h)
      (and-on (is_count true (length ts)) (list_all (is_token s.names (kind_of declared.Nmtokens)) ts) (counted ts some) (all-of s declared.Nmtokens (is_token s.names (kind_of declared.Nmtokens)) (λ t e. e) ts h))
      (all-of s declared.Nmtokens (is_in_group declared.Nmtokens) (λ t e. refl) ts h)
  gives declared.Numbers units is h =
      ap (tokens_give s declared.Numbers tables None) (sym is)
      ∙ no-row (list_any (long_token s) ts) (is_count true (length ts) && list_all (is_token s.names (kind_of declared.Numbers)) ts) (list_all (is_in_group declared.Numbers) ts) (values.Tokens ts)
      (none-long s declared.Numbers ts h)
      (and-on (is_count true (length ts)) (list_all (is_token s.names (kind_of declared.Numbers)) ts) (counted ts some) (all-of s declared.Numbers (is_token s.names (kind_of declared.Numbers)) (λ t e. e) ts h))
      (all-of s declared.Numbers (is_in_group declared.Numbers) (λ t e. refl) ts h)
  gives declared.Nutokens units is h =
      ap (tokens_give s declared.Nutokens tables None) (sym is)
      ∙ no-row (list_any (long_token s) ts) (is_count true (length ts) && list_all (is_token s.names (kind_of declared.Nutokens)) ts) (list_all (is_in_group declared.Nutokens) ts) (values.Tokens ts)
      (none-long s declared.Nutokens ts h)
      (and-on (is_count true (length ts)) (list_all (is_token s.names (kind_of declared.Nutokens)) ts) (counted ts some) (all-of s declared.Nutokens (is_token s.names (kind_of declared.Nutokens)) (λ t e. e) ts h))
      (all-of s declared.Nutokens (is_in_group declared.Nutokens) (λ t e. refl) ts h)
  gives declared.Cdata units is h = absurd (none-of s declared.Cdata (λ t. refl) ts some h)
  gives declared.Entity units is h = absurd (none-of s declared.Entity (λ t. refl) ts some h)
  gives declared.Entities units is h = absurd (none-of s declared.Entities (λ t. refl) ts some h)
  gives declared.Id units is h = absurd (none-of s declared.Id (λ t. refl) ts some h)
  gives declared.Idref units is h = absurd (none-of s declared.Idref (λ t. refl) ts some h)
  gives declared.Name units is h = absurd (none-of s declared.Name (λ t. refl) ts some h)
  gives declared.Nmtoken units is h = absurd (none-of s declared.Nmtoken (λ t. refl) ts some h)
  gives declared.Number units is h = absurd (none-of s declared.Number (λ t. refl) ts some h)
  gives declared.Nutoken units is h = absurd (none-of s declared.Nutoken (λ t. refl) ts some h)
  gives (declared.Notation names) units is h = absurd (none-of s (declared.Notation names) (λ t. refl) ts some h)
  gives (declared.Group names) units is h = absurd (none-of s (declared.Group names) (λ t. refl) ts some h)

pub listed-is : (s : Syntax) (d : Declared) (bytes : List ℕ) (ts : List (List ℕ)) → ts ≡ tokens s.general_fold (characters bytes) → 0 < length ts
    → list_all (is_listed s d) ts ≡ true → IsListedValue s d bytes (values.Tokens ts)
listed-is s d bytes ts is some h = λ t. gives s t ts some d (characters bytes) is h

-- THE TOKENS of characters

pub character-at : (bytes : List ℕ) (i : ℕ) → i < length bytes → get_or (characters bytes) i (Byte 0) ≡ Byte (get_or bytes i 0)
character-at [] i l = absurd (omega (arith, l))
character-at (x ∷ bytes) zero l = refl
character-at (x ∷ bytes) (suc i) l = character-at bytes i (omega (arith, l))

pub space-at : (bytes : List ℕ) (i : ℕ) → i < length bytes → get_or bytes i 0 ≡ 32 → is_space (get_or (characters bytes) i (Byte 0)) ≡ true
space-at bytes i l e = ap is_space (character-at bytes i l) ∙ ap (λ (n : ℕ). n == 32) e

no-space : (b : ℕ) → b ≢ 32 → (((b == 32) ≡ true) × (b ≡ 32)) ⊎ (((b == 32) ≡ false) × (b ≢ 32)) → (b == 32) ≡ false
no-space b d (inl e) = absurd (d e.1)
no-space b d (inr e) = e.0

pub unit-at : (bytes : List ℕ) (i : ℕ) → i < length bytes → get_or bytes i 0 ≢ 32 → is_space (get_or (characters bytes) i (Byte 0)) ≡ false
unit-at bytes i l d = ap is_space (character-at bytes i l) ∙ no-space (get_or bytes i 0) d (eqb_tells (get_or bytes i 0) 32)

pub drop-characters : (m : ℕ) (bytes : List ℕ) → drop m (characters bytes) ≡ characters (drop m bytes)
drop-characters zero bytes = refl
drop-characters (suc m) [] = refl
drop-characters (suc m) (x ∷ bytes) = drop-characters m bytes

pub take-characters : (m : ℕ) (bytes : List ℕ) → take m (characters bytes) ≡ characters (take m bytes)
take-characters zero bytes = refl
take-characters (suc m) [] = refl
take-characters (suc m) (x ∷ bytes) = ap (λ (u : List AnyUnit). Byte x ∷ u) (take-characters m bytes)

pub part-characters : (n m : ℕ) (bytes : List ℕ) → characters (take n (drop m bytes)) ≡ take n (drop m (characters bytes))
part-characters n m bytes = sym (ap (take n) (drop-characters m bytes) ∙ take-characters n (drop m bytes))

-- the last of them
pub tokens-last : (folding : Bool) (bytes : List ℕ) (begun : ℕ) (names next : List (List ℕ)) (n : ℕ) → length bytes ≤ n
    → names ≡ map (token_of folding) (fold parted ([], []) (take n (characters bytes))).0
    → drop begun (take n (characters bytes)) ≡ (fold parted ([], []) (take n (characters bytes))).1
    → next ≡ names ++ map (token_of folding) (ended (characters (drop begun bytes)))
    → next ≡ tokens folding (characters bytes)
tokens-last folding bytes begun names next n l are left is =
    let units = characters bytes in
    let all : take n units ≡ units = take_all n units (omega (arith, l, length-map bytes (λ b. Byte b))) in
    let state : List AnyUnit → List (List AnyUnit) × List AnyUnit = λ u. fold parted ([], []) u in
    is
    ∙ ap (λ (u : List AnyUnit). names ++ map (token_of folding) (ended u)) (sym (drop-characters begun bytes) ∙ ap (drop begun) (sym all) ∙ left)
    ∙ ap (λ (x : List (List ℕ)). x ++ map (token_of folding) (ended (state (take n units)).1)) are
    ∙ sym (map-append (token_of folding) (state (take n units)).0 (ended (state (take n units)).1))
    ∙ ap (λ (u : List AnyUnit). map (token_of folding) (all_ended (state u))) all

pub token-of : (folding : Bool) (bytes : List ℕ) → token_of folding (characters bytes) ≡ map (cased_character folding) bytes
token-of folding [] = refl
token-of folding (b ∷ bytes) = ap (λ (x : List ℕ). cased_character folding b ∷ x) (token-of folding bytes)

pub token-ended : (folding : Bool) (part : List ℕ) → 0 < length part → map (token_of folding) (ended (characters part)) ≡ map (cased_character folding) part ∷ []
token-ended folding [] l = absurd (omega (arith, l))
token-ended folding (b ∷ part) l = ap (λ (x : List ℕ). x ∷ []) (token-of folding (b ∷ part))
