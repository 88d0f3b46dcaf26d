-- The tokens of a value that a literal gives have name characters alone (7.9.4, 9.3).
use Rattle.std.proofs.Common.{◌≡◌, ℕ, Bool, true, false, not, ◌&&◌, ◌||◌, List, [], ◌∷◌, length, Option, Some, None, Ok, refl, sym, subst, if◌then◌else◌}
use Rattle.std.specs.List.{list_all}
use Rattle.sgml_theory_again.specs.text.Characters.{is_letter, is_digit}
use Rattle.sgml_theory_again.specs.text.Refusals.{first_row}
use Rattle.sgml_theory_again.specs.text.declared.name_set.NameSet.{NameSet}
use Rattle.sgml_theory_again.specs.text.NameCharacters.{is_marked, is_name_start, is_name_character, is_name_of}
use Rattle.sgml_theory_again.specs.text.declared.unit.Unit.{Unit as AnyUnit}
use Rattle.sgml_theory_again.specs.syntax.declared.syntax.Syntax.{Syntax}
use Rattle.sgml_theory_again.specs.entity.declared.kinds.Entity.{Entity}
use Rattle.sgml_theory_again.specs.entity.Entities.{Tables}
use Rattle.sgml_theory_again.specs.attr.declared.definition.Declared.{Declared}
use Rattle.sgml_theory_again.specs.attr.declared.definition.Declared.TheVariants as declared
use Rattle.sgml_theory_again.specs.attr.declared.definition.Definition.{Definition}
use Rattle.sgml_theory_again.specs.attr.declared.error.AttrError.{AttrError}
use Rattle.sgml_theory_again.specs.attr.declared.error.AttrError.TheVariants.{NameLength, NotationUnknown, NotAToken, NotInGroup, FixedDiffers, EntityUnknown}
use Rattle.sgml_theory_again.specs.attr.declared.value.AttrValue.{AttrValue}
use Rattle.sgml_theory_again.specs.attr.declared.value.AttrValue.TheVariants as of
use Rattle.sgml_theory_again.specs.attr.Literal.{is_cdata, interpreted}
use Rattle.sgml_theory_again.specs.attr.Tokens.{is_name_token, is_number, is_number_token, is_token, kind_of, is_list, is_count, folds, tokens}
use Rattle.sgml_theory_again.specs.attr.Rows.{passes_namelen, names_no_notation, are_tokens, is_in_group, are_other, is_other, names_no_data, value_rows}
use Rattle.sgml_theory_again.specs.attr.Values.{token_value, unless, tokens_give, fixed_in}
use Rattle.sgml_theory_again.specs.sgml_theory_values.Given.{IsGiven}
use Rattle.sgml_theory_again.specs.sgml_theory_full.Named.{AllAre, IsToken}
use Rattle.sgml_theory_writable.proofs.Basics.{true-false, both, and}

-- NAME CHARACTERS
start-goes : (a d s m : Bool) → (a || s) ≡ true → (((a || d) || s) || m) ≡ true
start-goes true d s m e = refl
start-goes false true s m e = refl
start-goes false false true m e = refl
start-goes false false false m e = true-false (sym e)

digit-goes : (a d s m : Bool) → d ≡ true → (((a || d) || s) || m) ≡ true
digit-goes true d s m e = refl
digit-goes false true s m e = refl
digit-goes false false s m e = true-false (sym e)

start-is : (names : NameSet) (b : ℕ) → is_name_start names b ≡ true → is_name_character names b ≡ true
start-is names b e = start-goes (is_letter b) (is_digit b) (is_marked names.start b) (is_marked names.more b) e

digit-is : (names : NameSet) (b : ℕ) → is_digit b ≡ true → is_name_character names b ≡ true
digit-is names b e = digit-goes (is_letter b) (is_digit b) (is_marked names.start b) (is_marked names.more b) e

all-more : (p q : ℕ → Bool) → ((b : ℕ) → p b ≡ true → q b ≡ true) → (bs : List ℕ) → list_all p bs ≡ true → list_all q bs ≡ true
all-more p q f [] e = refl
all-more p q f (b ∷ bs) e = let k = both (p b) (list_all p bs) e in and (q b) (list_all q bs) (f b k.0) (all-more p q f bs k.1)

begun-is : (p q r : ℕ → Bool) → ((b : ℕ) → p b ≡ true → r b ≡ true) → ((b : ℕ) → q b ≡ true → r b ≡ true) → (b : ℕ) (bs : List ℕ)
    → (p b && list_all q bs) ≡ true → list_all r (b ∷ bs) ≡ true
begun-is p q r f g b bs e = let k = both (p b) (list_all q bs) e in and (r b) (list_all r bs) (f b k.0) (all-more q r g bs k.1)

pub name-is-token : (names : NameSet) (n : List ℕ) → is_name_of names n ≡ true → list_all (is_name_character names) n ≡ true
name-is-token names [] e = refl
name-is-token names (b ∷ bs) e =
    begun-is (is_name_start names) (is_name_character names) (is_name_character names) (start-is names) (λ c h. h) b bs e

name-token-is : (names : NameSet) (t : List ℕ) → is_name_token names t ≡ true → list_all (is_name_character names) t ≡ true
name-token-is names [] e = refl
name-token-is names (b ∷ bs) e = e

number-is : (names : NameSet) (t : List ℕ) → is_number t ≡ true → list_all (is_name_character names) t ≡ true
number-is names [] e = refl
number-is names (b ∷ bs) e = begun-is is_digit is_digit (is_name_character names) (digit-is names) (digit-is names) b bs e

number-token-is : (names : NameSet) (t : List ℕ) → is_number_token names t ≡ true → list_all (is_name_character names) t ≡ true
number-token-is names [] e = refl
number-token-is names (b ∷ bs) e =
    begun-is is_digit (is_name_character names) (is_name_character names) (digit-is names) (λ c h. h) b bs e

kind-is-token : (names : NameSet) (x : Declared) (t : List ℕ) → is_token names (kind_of x) t ≡ true → list_all (is_name_character names) t ≡ true
kind-is-token names declared.Nmtoken t e = name-token-is names t e
kind-is-token names declared.Nmtokens t e = name-token-is names t e
kind-is-token names (declared.Group members) t e = name-token-is names t e
kind-is-token names declared.Number t e = number-is names t e
kind-is-token names declared.Numbers t e = number-is names t e
kind-is-token names declared.Nutoken t e = number-token-is names t e
kind-is-token names declared.Nutokens t e = number-token-is names t e
kind-is-token names _ t e = name-is-token names t e

-- NO ROW HOLDS
rows-fail : (a b c e f g : Bool) → first_row ((a, NameLength) ∷ (b, NotationUnknown) ∷ (c, NotAToken) ∷ (e, NotInGroup) ∷ (f, FixedDiffers) ∷ (g, EntityUnknown) ∷ []) ≡ None
    → c ≡ false
rows-fail true b c e f g h = absurd (cc)
rows-fail false true c e f g h = absurd (cc)
rows-fail false false true e f g h = absurd (cc)
rows-fail false false false e f g h = refl

not-false : (b : Bool) → not b ≡ false → b ≡ true
not-false true h = refl
not-false false h = absurd (cc)

pub unless-some : (o : Option AttrError) (w v : AttrValue) → unless o w ≡ Ok v → (o ≡ None) × (w ≡ v)
unless-some None w v h = (refl, cc)
unless-some (Some e) w v h = absurd (cc)

-- THE TOKENS of a value
abbrev pub TokensIn : Syntax → AttrValue → Type 0
TokensIn s (of.Notation n) = IsToken s n
TokensIn s (of.Tokens ts) = AllAre (IsToken s) ts
TokensIn s v = Unit {0}

all-tokens : (s : Syntax) (x : Declared) (ts : List (List ℕ)) → list_all (is_token s.names (kind_of x)) ts ≡ true → AllAre (IsToken s) ts
all-tokens s x [] e = tt
all-tokens s x (t ∷ ts) e =
    let q = both (is_token s.names (kind_of x) t) (list_all (is_token s.names (kind_of x)) ts) e in
    (kind-is-token s.names x t q.0, all-tokens s x ts q.1)

value-tokens : (s : Syntax) (x : Declared) (es : List Entity) (ts : List (List ℕ)) → AllAre (IsToken s) ts → TokensIn s (token_value x es ts)
value-tokens s (declared.Notation names) es [] a = refl
value-tokens s (declared.Notation names) es (t ∷ ts) a = a.0
value-tokens s declared.Entity es ts a = tt
value-tokens s declared.Entities es ts a = tt
value-tokens s _ es ts a = a

given-tokens : (s : Syntax) (x : Declared) (tables : Tables) (fixed : Option (List AnyUnit)) (ts : List (List ℕ)) (v : AttrValue)
    → tokens_give s x tables fixed ts ≡ Ok v → TokensIn s v
given-tokens s x tables fixed ts v h =
    let p = unless-some (first_row (value_rows s x tables fixed ts)) (token_value x tables.entities ts) v h in
    let row = rows-fail (passes_namelen s ts) (names_no_notation s x tables.notations ts) (not (are_tokens s x ts)) (not (list_all (is_in_group x) ts))
    (are_other (folds s x) fixed ts) (names_no_data x tables.entities ts) p.0 in
    let are = both (is_count (is_list x) (length ts)) (list_all (is_token s.names (kind_of x)) ts) (not-false (are_tokens s x ts) row) in
    subst (TokensIn s) p.1 (value-tokens s x tables.entities ts (all-tokens s x ts are.1))

units-tokens : (s : Syntax) (x : Declared) (tables : Tables) (fixed : Option (List AnyUnit)) (us : List AnyUnit) (v : AttrValue) (b : Bool)
    → (if b then unless (first_row ((is_other fixed us, FixedDiffers) ∷ [])) (of.Cdata us) else tokens_give s x tables fixed (tokens (folds s x) us)) ≡ Ok v
    → TokensIn s v
units-tokens s x tables fixed us v true h = subst (TokensIn s) (unless-some (first_row ((is_other fixed us, FixedDiffers) ∷ [])) (of.Cdata us) v h).1 tt
units-tokens s x tables fixed us v false h = given-tokens s x tables fixed (tokens (folds s x) us) v h

pub given-has-tokens : (s : Syntax) (tables : Tables) (x : Definition) (v : AttrValue) → IsGiven s tables x v → TokensIn s v
given-has-tokens s tables x v g = units-tokens s x.declared tables (fixed_in x.default) (interpreted x.declared g.0) v (is_cdata x.declared) g.1.gives
