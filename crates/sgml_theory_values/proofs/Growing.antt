-- A value stays given where more entities and notations are declared.
use Rattle.std.proofs.Common.{◌≡◌, ℕ, zero, suc, ◌+◌, ◌-◌, Bool, true, false, not, ◌&&◌, List, [], ◌∷◌, ◌++◌, map, Option, Some, None, is_some, unwrap_or, Ok, refl, sym, ap, ◌∙◌, if◌then◌else◌}
use Rattle.std.specs.List.{list_all, slice_get}
use Rattle.std.specs.Option.{option_map_or}
use Rattle.std.specs.Str.{bytes_eq}
use Rattle.sgml_full.specs.text.Refusals.{first_row}
use Rattle.sgml_full.specs.text.declared.unit.Unit.{Unit as AnyUnit}
use Rattle.sgml_theory_starts.specs.syntax.declared.syntax.Syntax.{Syntax}
use Rattle.sgml_theory_starts.specs.entity.declared.kinds.Entity.{Entity}
use Rattle.sgml_theory_starts.specs.entity.declared.kinds.Notation.{Notation}
use Rattle.sgml_theory_starts.specs.entity.declared.kinds.Space.TheVariants.{General}
use Rattle.sgml_theory_starts.specs.entity.Entities.{Tables, is_entity, number_from, number_of, notation_from}
use Rattle.sgml_full.specs.attr.declared.definition.Declared.{Declared}
use Rattle.sgml_full.specs.attr.declared.definition.Declared.TheVariants as declared
use Rattle.sgml_full.specs.attr.declared.definition.Definition.{Definition}
use Rattle.sgml_full.specs.attr.declared.error.AttrError.{AttrError}
use Rattle.sgml_full.specs.attr.declared.error.AttrError.TheVariants.{NameLength, NotationUnknown, NotAToken, NotInGroup, FixedDiffers, EntityUnknown}
use Rattle.sgml_full.specs.attr.declared.value.AttrValue.{AttrValue}
use Rattle.sgml_full.specs.attr.declared.value.AttrValue.TheVariants as of
use Rattle.sgml_full.specs.attr.Literal.{is_cdata, interpreted}
use Rattle.sgml_full.specs.attr.Tokens.{folds, tokens}
use Rattle.sgml_full.specs.attr.Tokens as kinds
use Rattle.sgml_full.specs.attr.Rows.{passes_namelen, names_no_notation, are_tokens, is_in_group, are_other, is_other, is_data, is_data_at, is_data_entity, names_no_data, is_notation, is_declared_notation}
use Rattle.sgml_full.specs.attr.Values.{entity_number, token_value, unless, tokens_give, fixed_in}
use Rattle.sgml_theory_values.specs.Given.{IsGiven}
use Rattle.sgml_theory_values.proofs.Tokens.{both, and}
use Rattle.sgml_theory_values.proofs.Lists.{none-some, some-none, true-false}

pub get-append : {A : Type 0} (xs ys : List A) (i : ℕ) (x : A) → slice_get xs i ≡ Some x → slice_get (xs ++ ys) i ≡ Some x
get-append [] ys i x h = none-some x h
get-append (y ∷ xs) ys zero x h = h
get-append (y ∷ xs) ys (suc i) x h = get-append xs ys i x h

all-so : (p q : List ℕ → Bool) → ((t : List ℕ) → p t ≡ true → q t ≡ true) → (ts : List (List ℕ)) → list_all p ts ≡ true → list_all q ts ≡ true
all-so p q f [] h = refl
all-so p q f (t ∷ ts) h = let e = both (p t) (list_all p ts) h in and (q t) (list_all q ts) (f t e.0) (all-so p q f ts e.1)

-- ENTITIES
number-stays : (n : ℕ) (es more : List Entity) (name : List ℕ) (k : ℕ) → number_from n es General name ≡ Some k → number_from n (es ++ more) General name ≡ Some k
number-stays n [] more name k h = none-some k h
number-stays n (e ∷ es) more name k h = by (is_entity General name e) (number-stays (n + 1) es more name k) h
  where
    by : (t : Bool) → (number_from (n + 1) es General name ≡ Some k → number_from (n + 1) (es ++ more) General name ≡ Some k)
        → (if t then Some n else number_from (n + 1) es General name) ≡ Some k → (if t then Some n else number_from (n + 1) (es ++ more) General name) ≡ Some k
    by true later h = h
    by false later h = later h

data-stays-at : (es more : List Entity) (k : ℕ) (o : Option Entity) → slice_get es (k - 2) ≡ o → option_map_or (λ (e : Entity). is_data e.body) o false ≡ true → is_data_at (es ++ more) (Some k) ≡ true
data-stays-at es more k None e h = true-false (sym h)
data-stays-at es more k (Some x) e h = ap (λ o. option_map_or (λ (e : Entity). is_data e.body) o false) (get-append es more (k - 2) x e) ∙ h

-- its number is the same, and it is data
abbrev Stays : List Entity → List Entity → List ℕ → Type 0
Stays es more name = (is_data_entity (es ++ more) name ≡ true) × (entity_number (es ++ more) name ≡ entity_number es name)

stays-by : (es more : List Entity) (name : List ℕ) (o : Option ℕ) → number_of es General name ≡ o → is_data_at es o ≡ true → Stays es more name
stays-by es more name None e h = true-false (sym h)
stays-by es more name (Some k) e h =
    let later = number-stays 2 es more name k e in (
      ap (is_data_at (es ++ more)) later ∙ data-stays-at es more k (slice_get es (k - 2)) refl h,
      ap (λ o. unwrap_or o 0) later ∙ sym (ap (λ o. unwrap_or o 0) e),
    )

stays : (es more : List Entity) (name : List ℕ) → is_data_entity es name ≡ true → Stays es more name
stays es more name h = stays-by es more name (number_of es General name) refl h

numbers-stay : (es more : List Entity) (ts : List (List ℕ)) → list_all (is_data_entity es) ts ≡ true → map (entity_number (es ++ more)) ts ≡ map (entity_number es) ts
numbers-stay es more [] h = refl
numbers-stay es more (t ∷ ts) h =
    let e = both (is_data_entity es t) (list_all (is_data_entity es) ts) h in
    ap (λ n. n ∷ map (entity_number (es ++ more)) ts) (stays es more t e.0).1
    ∙ ap (λ ns. entity_number es t ∷ ns) (numbers-stay es more ts e.1)

-- NOTATIONS
notation-stays : (n : ℕ) (ns more : List Notation) (name : List ℕ) → is_some (notation_from n ns name) ≡ true → is_some (notation_from n (ns ++ more) name) ≡ true
notation-stays n [] more name h = true-false (sym h)
notation-stays n (o ∷ ns) more name h = by (bytes_eq name o.name) (notation-stays (n + 1) ns more name) h
  where
    by : (t : Bool) → (is_some (notation_from (n + 1) ns name) ≡ true → is_some (notation_from (n + 1) (ns ++ more) name) ≡ true)
        → is_some (if t then Some n else notation_from (n + 1) ns name) ≡ true → is_some (if t then Some n else notation_from (n + 1) (ns ++ more) name) ≡ true
    by true later h = refl
    by false later h = later h

-- ROWS
one-not : (a c c' : Bool) → (c ≡ true → c' ≡ true) → (a && not c) ≡ false → (a && not c') ≡ false
one-not false c c' f h = refl
one-not true true c' f h = ap not (f refl)
one-not true false c' f h = true-false h

two-not : (a b c c' : Bool) → (c ≡ true → c' ≡ true) → (a && (b && not c)) ≡ false → (a && (b && not c')) ≡ false
two-not false b c c' f h = refl
two-not true b c c' f h = one-not b c c' f h

not-all : (a c : Bool) → a ≡ true → (a && not c) ≡ false → c ≡ true
not-all true true e h = refl
not-all true false e h = true-false h
not-all false c e h = true-false (sym e)

rows-stay : (a b c e f g b' g' : Bool) → (b ≡ false → b' ≡ false) → (g ≡ false → g' ≡ false)
    → first_row ((a, NameLength) ∷ (b, NotationUnknown) ∷ (c, NotAToken) ∷ (e, NotInGroup) ∷ (f, FixedDiffers) ∷ (g, EntityUnknown) ∷ []) ≡ None
    → (g ≡ false) × (first_row ((a, NameLength) ∷ (b', NotationUnknown) ∷ (c, NotAToken) ∷ (e, NotInGroup) ∷ (f, FixedDiffers) ∷ (g', EntityUnknown) ∷ []) ≡ None)
rows-stay true b c e f g b' g' i j h = some-none NameLength h
rows-stay false true c e f g b' g' i j h = some-none NotationUnknown h
rows-stay false false true e f g b' g' i j h = some-none NotAToken h
rows-stay false false false true f g b' g' i j h = some-none NotInGroup h
rows-stay false false false false true g b' g' i j h = some-none FixedDiffers h
rows-stay false false false false false true b' g' i j h = some-none EntityUnknown h
rows-stay false false false false false false b' g' i j h =
    (refl, ap (λ t. first_row ((t, NotationUnknown) ∷ (g', EntityUnknown) ∷ [])) (i refl) ∙ ap (λ t. first_row ((t, EntityUnknown) ∷ [])) (j refl))

unless-some : (o : Option AttrError) (w v : AttrValue) → unless o w ≡ Ok v → (o ≡ None) × (w ≡ v)
unless-some None w v h = (refl, cc)
unless-some (Some e) w v h = absurd (cc)

-- A VALUE
abbrev grown : Tables → List Entity → List Notation → Tables
grown t es ns = record { entities = t.entities ++ es; notations = t.notations ++ ns }

token-value-stays : (x : Declared) (es more : List Entity) (ts : List (List ℕ)) → names_no_data x es ts ≡ false → token_value x (es ++ more) ts ≡ token_value x es ts
token-value-stays declared.Entity es more ts h = ap (λ ns. of.Entities ns) (numbers-stay es more ts (not-all true (list_all (is_data_entity es) ts) refl h))
token-value-stays declared.Entities es more ts h = ap (λ ns. of.Entities ns) (numbers-stay es more ts (not-all true (list_all (is_data_entity es) ts) refl h))
token-value-stays (declared.Notation names) es more ts h = refl
token-value-stays _ es more ts h = refl

tokens-stay : (syntax : Syntax) (t : Tables) (es : List Entity) (ns : List Notation) (x : Declared) (fixed : Option (List AnyUnit)) (ts : List (List ℕ)) (v : AttrValue)
    → tokens_give syntax x t fixed ts ≡ Ok v → tokens_give syntax x (grown t es ns) fixed ts ≡ Ok v
tokens-stay syntax t es ns x fixed ts v h =
    let p = unless-some _ (token_value x t.entities ts) v h in
    let r = rows-stay (passes_namelen syntax ts) (names_no_notation syntax x t.notations ts) (not (are_tokens syntax x ts)) (not (list_all (is_in_group x) ts))
    (are_other (folds syntax x) fixed ts) (names_no_data x t.entities ts) (names_no_notation syntax x (t.notations ++ ns) ts) (names_no_data x (t.entities ++ es) ts)
    (two-not (is_notation x) (are_tokens syntax x ts) (list_all (is_declared_notation t.notations) ts) (list_all (is_declared_notation (t.notations ++ ns)) ts)
    (all-so (is_declared_notation t.notations) (is_declared_notation (t.notations ++ ns)) (λ u k. notation-stays 0 t.notations ns u k) ts))
    (one-not (kinds.is_entity x) (list_all (is_data_entity t.entities) ts) (list_all (is_data_entity (t.entities ++ es)) ts)
    (all-so (is_data_entity t.entities) (is_data_entity (t.entities ++ es)) (λ u k. (stays t.entities es u k).0) ts))
    p.0 in
    ap (λ o. unless o (token_value x (t.entities ++ es) ts)) r.1
    ∙ ap Ok (token-value-stays x t.entities es ts r.0 ∙ p.1)

units-stay : (syntax : Syntax) (t : Tables) (es : List Entity) (ns : List Notation) (x : Declared) (fixed : Option (List AnyUnit)) (us : List AnyUnit) (v : AttrValue) (b : Bool)
    → (if b then unless (first_row ((is_other fixed us, FixedDiffers) ∷ [])) (of.Cdata us) else tokens_give syntax x t fixed (tokens (folds syntax x) us)) ≡ Ok v
    → (if b then unless (first_row ((is_other fixed us, FixedDiffers) ∷ [])) (of.Cdata us) else tokens_give syntax x (grown t es ns) fixed (tokens (folds syntax x) us)) ≡ Ok v
units-stay syntax t es ns x fixed us v true h = h
units-stay syntax t es ns x fixed us v false h = tokens-stay syntax t es ns x fixed (tokens (folds syntax x) us) v h

pub given-stays : (syntax : Syntax) (t : Tables) (es : List Entity) (ns : List Notation) (x : Definition) (v : AttrValue) → IsGiven syntax t x v → IsGiven syntax (grown t es ns) x v
given-stays syntax t es ns x v g =
    let k = g.1 in
    (g.0, record { short = k.short; gives = units-stay syntax t es ns x.declared (fixed_in x.default) (interpreted x.declared g.0) v (is_cdata x.declared) k.gives })
