-- Tokens with one SPACE between each two are read as these tokens.
use Rattle.std.proofs.Common.{◌≡◌, ℕ, suc, ◌+◌, ◌-◌, Bool, true, false, ◌||◌, ◌&&◌, ◌==◌, cond, nat_lt, List, [], ◌∷◌, ◌++◌, map, length, refl, ap, sym, ◌∙◌, arith}
use Rattle.std.specs.List.{list_all, flat_map}
use Rattle.std.proofs.lemmas.Bool.{eqb-true}
use Rattle.std.proofs.lemmas.Bool.Decides.{nat_tests}
use Rattle.std.proofs.lemmas.List.{length-append}
use Rattle.std.proofs.lemmas.List.Folds.{list_all-append}
use Rattle.sgml_full.specs.text.declared.name_set.NameSet.{NameSet}
use Rattle.sgml_full.specs.text.declared.unit.Unit.{Unit as AnyUnit}
use Rattle.sgml_full.specs.text.declared.unit.Unit.TheVariants.{Byte}
use Rattle.sgml_full.specs.text.Units.{characters}
use Rattle.sgml_full.specs.text.Characters.{upper, is_letter, is_digit}
use Rattle.sgml_full.specs.text.NameCharacters.{is_marked, is_name_start, is_name_character, is_name_of}
use Rattle.sgml_theory_starts.specs.names.Naming.{cased_character}
use Rattle.sgml_full.specs.attr.declared.definition.Declared.{Declared}
use Rattle.sgml_full.specs.attr.declared.definition.Declared.TheVariants as declared
use Rattle.sgml_full.specs.attr.Tokens.{is_name_token, is_number, is_number_token, is_token, kind_of, token_of}
use Rattle.sgml_full.specs.attr.Parts.{character_of, parts, NoSpaces, IsParted, AreParts}
use Rattle.sgml_full.specs.attr.Literal.{unit_read, is_behind, spaced, joined, interpreted}
use Rattle.sgml_full.proofs.attr.Parting.{parts-only}
use Rattle.sgml_full.proofs.attr.Plain.{plain-same}
use Rattle.sgml_theory_values.specs.Given.{spelled}

pub both : (a b : Bool) → (a && b) ≡ true → (a ≡ true) × (b ≡ true)
both true b e = (refl, e)
both false b e = absurd (cc)

pub and : (a b : Bool) → a ≡ true → b ≡ true → (a && b) ≡ true
and a b h k = rw h k

-- NAME CHARACTERS are behind SPACE

letter-behind : (b : ℕ) → is_letter b ≡ true → nat_lt 32 b ≡ true
letter-behind b h = grind (arith, nat_tests)

digit-behind : (b : ℕ) → is_digit b ≡ true → nat_lt 32 b ≡ true
digit-behind b h = grind (arith, nat_tests)

either : (x y : Bool) (b : ℕ) → (x ≡ true → nat_lt 32 b ≡ true) → (y ≡ true → nat_lt 32 b ≡ true) → (x || y) ≡ true → nat_lt 32 b ≡ true
either true y b f g h = f refl
either false y b f g h = g h

one-mark : (n b : ℕ) (t : Bool) → nat_lt 32 n ≡ true → ((b == n) && t) ≡ true → nat_lt 32 b ≡ true
one-mark n b t w h = ap (nat_lt 32) (eqb-true b n (both (b == n) t h).0) ∙ w

marked-behind : (marks : List Bool) (b : ℕ) → is_marked marks b ≡ true → nat_lt 32 b ≡ true
marked-behind [] b h = absurd (cc)
marked-behind (t ∷ []) b h = absurd (cc)
marked-behind (t ∷ u ∷ []) b h = absurd (cc)
marked-behind (t ∷ u ∷ v ∷ []) b h = absurd (cc)
marked-behind (t ∷ u ∷ v ∷ w ∷ []) b h =
    either (((b == 45) && t) || ((b == 46) && u) || ((b == 95) && v)) ((b == 58) && w) b
    (either (((b == 45) && t) || ((b == 46) && u)) ((b == 95) && v) b
    (either ((b == 45) && t) ((b == 46) && u) b (one-mark 45 b t refl) (one-mark 46 b u refl)) (one-mark 95 b v refl)) (one-mark 58 b w refl) h
marked-behind (t ∷ u ∷ v ∷ w ∷ x ∷ rest) b h = absurd (cc)

name-behind : (names : NameSet) (b : ℕ) → is_name_character names b ≡ true → nat_lt 32 b ≡ true
name-behind names b =
    either (is_letter b || is_digit b || is_marked names.start b) (is_marked names.more b) b
    (either (is_letter b || is_digit b) (is_marked names.start b) b (either (is_letter b) (is_digit b) b (letter-behind b) (digit-behind b)) (marked-behind names.start b))
    (marked-behind names.more b)

start-behind : (names : NameSet) (b : ℕ) → is_name_start names b ≡ true → nat_lt 32 b ≡ true
start-behind names b = either (is_letter b) (is_marked names.start b) b (letter-behind b) (marked-behind names.start b)

all-behind : (p : ℕ → Bool) → ((b : ℕ) → p b ≡ true → nat_lt 32 b ≡ true) → (bs : List ℕ) → list_all p bs ≡ true → list_all (nat_lt 32) bs ≡ true
all-behind p f [] h = refl
all-behind p f (b ∷ bs) h =
    let e = both (p b) (list_all p bs) h in
    and (nat_lt 32 b) (list_all (nat_lt 32) bs) (f b e.0) (all-behind p f bs e.1)

-- A TOKEN has one character or more, each of them behind SPACE
abbrev pub is_apart : List ℕ → Bool
is_apart [] = false
is_apart (b ∷ bs) = nat_lt 32 b && list_all (nat_lt 32) bs

begun-apart : (p q : ℕ → Bool) → ((b : ℕ) → p b ≡ true → nat_lt 32 b ≡ true) → ((b : ℕ) → q b ≡ true → nat_lt 32 b ≡ true)
    → (b : ℕ) (bs : List ℕ) → (p b && list_all q bs) ≡ true → is_apart (b ∷ bs) ≡ true
begun-apart p q f g b bs h =
    let e = both (p b) (list_all q bs) h in
    and (nat_lt 32 b) (list_all (nat_lt 32) bs) (f b e.0) (all-behind q g bs e.1)

name-apart : (names : NameSet) (t : List ℕ) → is_name_of names t ≡ true → is_apart t ≡ true
name-apart names [] h = h
name-apart names (b ∷ bs) h = begun-apart (is_name_start names) (is_name_character names) (start-behind names) (name-behind names) b bs h

name-token-apart : (names : NameSet) (t : List ℕ) → is_name_token names t ≡ true → is_apart t ≡ true
name-token-apart names [] h = h
name-token-apart names (b ∷ bs) h = begun-apart (is_name_character names) (is_name_character names) (name-behind names) (name-behind names) b bs h

number-apart : (t : List ℕ) → is_number t ≡ true → is_apart t ≡ true
number-apart [] h = h
number-apart (b ∷ bs) h = begun-apart is_digit is_digit digit-behind digit-behind b bs h

number-token-apart : (names : NameSet) (t : List ℕ) → is_number_token names t ≡ true → is_apart t ≡ true
number-token-apart names [] h = h
number-token-apart names (b ∷ bs) h = begun-apart is_digit (is_name_character names) digit-behind (name-behind names) b bs h

token-apart : (names : NameSet) (x : Declared) (t : List ℕ) → is_token names (kind_of x) t ≡ true → is_apart t ≡ true
token-apart names declared.Nmtoken t h = name-token-apart names t h
token-apart names declared.Nmtokens t h = name-token-apart names t h
token-apart names (declared.Group members) t h = name-token-apart names t h
token-apart names declared.Number t h = number-apart t h
token-apart names declared.Numbers t h = number-apart t h
token-apart names declared.Nutoken t h = number-token-apart names t h
token-apart names declared.Nutokens t h = number-token-apart names t h
token-apart names _ t h = name-apart names t h

pub tokens-apart : (names : NameSet) (x : Declared) (ts : List (List ℕ)) → list_all (is_token names (kind_of x)) ts ≡ true → list_all is_apart ts ≡ true
tokens-apart names x [] h = refl
tokens-apart names x (t ∷ ts) h =
    let e = both (is_token names (kind_of x) t) (list_all (is_token names (kind_of x)) ts) h in
    and (is_apart t) (list_all is_apart ts) (token-apart names x t e.0) (tokens-apart names x ts e.1)

-- FOLDED again, a token is the same

upper-by : (b : ℕ) (s t : Bool) → nat_lt b 97 ≡ s → nat_lt b 123 ≡ t → upper (cond s b (cond t (b - 32) b)) ≡ cond s b (cond t (b - 32) b)
upper-by b true t h k = ap (λ x. cond x b (cond (nat_lt b 123) (b - 32) b)) h
upper-by b false true h k =
    let low : nat_lt (b - 32) 97 ≡ true = grind (arith, nat_tests) in
    ap (λ x. cond x (b - 32) (cond (nat_lt (b - 32) 123) (b - 32 - 32) (b - 32))) low
upper-by b false false h k = ap (λ x. cond x b (cond (nat_lt b 123) (b - 32) b)) h ∙ ap (λ x. cond x (b - 32) b) k

upper-twice : (b : ℕ) → upper (upper b) ≡ upper b
upper-twice b = upper-by b (nat_lt b 97) (nat_lt b 123) refl refl

cased-twice : (folding : Bool) (b : ℕ) → cased_character folding (cased_character folding b) ≡ cased_character folding b
cased-twice true b = upper-twice b
cased-twice false b = refl

token-again : (folding : Bool) (part : List AnyUnit) → token_of folding (characters (token_of folding part)) ≡ token_of folding part
token-again folding [] = refl
token-again folding (u ∷ part) =
    ap (λ b. b ∷ token_of folding (characters (token_of folding part))) (cased-twice folding (character_of u))
    ∙ ap (λ bs. cased_character folding (character_of u) ∷ bs) (token-again folding part)

pub all-again : (folding : Bool) (ps : List (List AnyUnit)) → map (token_of folding) (map characters (map (token_of folding) ps)) ≡ map (token_of folding) ps
all-again folding [] = refl
all-again folding (p ∷ ps) =
    ap (λ t. t ∷ map (token_of folding) (map characters (map (token_of folding) ps))) (token-again folding p)
    ∙ ap (λ ts. token_of folding p ∷ ts) (all-again folding ps)

-- THE PARTS of tokens with one SPACE between each two

not-space : (b : ℕ) → nat_lt 32 b ≡ true → (b == 32) ≡ false
not-space b h = grind (arith, nat_tests)

no-spaces : (bs : List ℕ) → list_all (nat_lt 32) bs ≡ true → NoSpaces (characters bs)
no-spaces [] h = tt
no-spaces (b ∷ bs) h = let e = both (nat_lt 32 b) (list_all (nat_lt 32) bs) h in (not-space b e.0, no-spaces bs e.1)

begins-parted : (ps : List (List AnyUnit)) → IsParted (spaced ps)
begins-parted [] = tt
begins-parted (p ∷ ps) = refl

spaced-parts : (ts : List (List ℕ)) → list_all is_apart ts ≡ true → AreParts (map characters ts) (spaced (map characters ts))
spaced-parts [] h = tt
spaced-parts ([] ∷ ts) h = absurd (cc)
spaced-parts ((b ∷ bs) ∷ ts) h =
    let e = both (is_apart (b ∷ bs)) (list_all is_apart ts) h in
    (Byte 32 ∷ [], spaced (map characters ts), refl, (refl, tt), no-spaces (b ∷ bs) e.0, begins-parted (map characters ts), spaced-parts ts e.1)

joined-parts : (ts : List (List ℕ)) → list_all is_apart ts ≡ true → AreParts (map characters ts) (spelled ts)
joined-parts [] h = tt
joined-parts ([] ∷ ts) h = absurd (cc)
joined-parts ((b ∷ bs) ∷ ts) h =
    let e = both (is_apart (b ∷ bs)) (list_all is_apart ts) h in
    ([], spaced (map characters ts), refl, tt, no-spaces (b ∷ bs) e.0, begins-parted (map characters ts), spaced-parts ts e.1)

pub spelled-parts : (ts : List (List ℕ)) → list_all is_apart ts ≡ true → parts (spelled ts) ≡ map characters ts
spelled-parts ts h = parts-only (map characters ts) (spelled ts) (joined-parts ts h)

-- they are read as they stand

behind-units : (bs : List ℕ) → list_all (nat_lt 32) bs ≡ true → list_all (is_behind 31) (characters bs) ≡ true
behind-units [] h = refl
behind-units (b ∷ bs) h =
    let e = both (nat_lt 32 b) (list_all (nat_lt 32) bs) h in
    and (nat_lt 31 b) (list_all (is_behind 31) (characters bs)) (more b e.0) (behind-units bs e.1)
  where
    more : (b : ℕ) → nat_lt 32 b ≡ true → nat_lt 31 b ≡ true
    more b h = grind (arith, nat_tests)

apart-units : (t : List ℕ) → is_apart t ≡ true → list_all (is_behind 31) (characters t) ≡ true
apart-units [] h = refl
apart-units (b ∷ bs) h = behind-units (b ∷ bs) h

spaced-units : (ts : List (List ℕ)) → list_all is_apart ts ≡ true → list_all (is_behind 31) (spaced (map characters ts)) ≡ true
spaced-units [] h = refl
spaced-units (t ∷ ts) h =
    let e = both (is_apart t) (list_all is_apart ts) h in
    list_all-append (is_behind 31) (characters t) (spaced (map characters ts))
    ∙ and (list_all (is_behind 31) (characters t)) (list_all (is_behind 31) (spaced (map characters ts))) (apart-units t e.0) (spaced-units ts e.1)

spelled-units : (ts : List (List ℕ)) → list_all is_apart ts ≡ true → list_all (is_behind 31) (spelled ts) ≡ true
spelled-units [] h = refl
spelled-units (t ∷ ts) h =
    let e = both (is_apart t) (list_all is_apart ts) h in
    list_all-append (is_behind 31) (characters t) (spaced (map characters ts))
    ∙ and (list_all (is_behind 31) (characters t)) (list_all (is_behind 31) (spaced (map characters ts))) (apart-units t e.0) (spaced-units ts e.1)

read-spelled : (ts : List (List ℕ)) → list_all is_apart ts ≡ true → flat_map unit_read (spelled ts) ≡ spelled ts
read-spelled ts h = plain-same declared.Cdata (spelled ts) (spelled-units ts h)

pub interpreted-spelled : (x : Declared) (ts : List (List ℕ)) → list_all is_apart ts ≡ true → interpreted x (spelled ts) ≡ spelled ts
interpreted-spelled declared.Cdata ts h = read-spelled ts h
interpreted-spelled _ ts h = ap (λ us. joined (parts us)) (read-spelled ts h) ∙ ap joined (spelled-parts ts h)

-- AS LONG as the parts

length-characters : (folding : Bool) (p : List AnyUnit) → length (characters (token_of folding p)) ≡ length p
length-characters folding [] = refl
length-characters folding (u ∷ p) = ap suc (length-characters folding p)

length-both : {A : Type 0} (xs ys zs us : List A) → length xs ≡ length ys → length zs ≡ length us → length (xs ++ zs) ≡ length (ys ++ us)
length-both xs ys zs us e f = length-append xs zs ∙ ap (λ n. n + length zs) e ∙ ap (λ n. length ys + n) f ∙ sym (length-append ys us)

length-spaced : (folding : Bool) (ps : List (List AnyUnit)) → length (spaced (map characters (map (token_of folding) ps))) ≡ length (spaced ps)
length-spaced folding [] = refl
length-spaced folding (p ∷ ps) =
    ap suc (length-both (characters (token_of folding p)) p (spaced (map characters (map (token_of folding) ps))) (spaced ps) (length-characters folding p) (length-spaced folding ps))

pub length-spelled : (folding : Bool) (ps : List (List AnyUnit)) → length (spelled (map (token_of folding) ps)) ≡ length (joined ps)
length-spelled folding [] = refl
length-spelled folding (p ∷ ps) =
    length-both (characters (token_of folding p)) p (spaced (map characters (map (token_of folding) ps))) (spaced ps) (length-characters folding p) (length-spaced folding ps)
