-- A value that is written in a literal again is given again.
use Rattle.std.proofs.Common.{◌≡◌, ℕ, suc, ◌+◌, ◌-◌, ◌==◌, rules, tests, Bool, true, false, not, nat_lt, List, [], ◌∷◌, map, length, Option, Some, None, option_map, unwrap_or, Result, Ok, refl, ap, sym, ◌∙◌, subst, arith, if◌then◌else◌}
use Rattle.std.specs.List.{list_all, flat_map, slice_get}
use Rattle.std.specs.Str.{bytes_eq}
use Rattle.std.proofs.lemmas.Slice.Eq.{bytes_eq-Decides}
use Rattle.std.proofs.lemmas.Bool.{eqb-true}
use Rattle.sgml_full.specs.text.Refusals.{first_row}
use Rattle.sgml_full.specs.text.declared.unit.Unit.{Unit as AnyUnit}
use Rattle.sgml_theory_starts.specs.syntax.declared.syntax.Syntax.{Syntax}
use Rattle.sgml_theory_starts.specs.entity.declared.kinds.Entity.{Entity}
use Rattle.sgml_theory_starts.specs.entity.declared.kinds.Space.{Space}
use Rattle.sgml_theory_starts.specs.entity.declared.kinds.Space.TheVariants.{General}
use Rattle.sgml_theory_starts.specs.entity.Entities.{Tables, same_space, is_entity, number_from, number_of}
use Rattle.sgml_full.specs.attr.declared.definition.Declared.{Declared}
use Rattle.sgml_full.specs.attr.declared.definition.Declared.TheVariants as declared
use Rattle.sgml_full.specs.attr.declared.definition.Definition.{Definition}
use Rattle.sgml_full.specs.attr.declared.error.AttrError.{AttrError}
use Rattle.sgml_full.specs.attr.declared.error.AttrError.TheVariants.{NameLength, NotationUnknown, NotAToken, NotInGroup, FixedDiffers, EntityUnknown}
use Rattle.sgml_full.specs.attr.declared.value.AttrValue.{AttrValue}
use Rattle.sgml_full.specs.attr.declared.value.AttrValue.TheVariants as of
use Rattle.sgml_full.specs.attr.Literal.{unit_read, is_cdata, joined, interpreted}
use Rattle.sgml_full.specs.attr.Parts.{parts}
use Rattle.sgml_full.specs.attr.Tokens.{is_token, kind_of, is_list, is_count, folds, token_of, tokens}
use Rattle.sgml_full.specs.attr.Rows.{passes_namelen, names_no_notation, are_tokens, is_in_group, are_other, is_other, is_data_at, is_data_entity, names_no_data, value_rows}
use Rattle.sgml_full.specs.attr.Values.{first_of, entity_number, token_value, unless, tokens_give, units_give, fixed_in}
use Rattle.sgml_full.specs.attr.Against.{passes_litlen}
use Rattle.sgml_full.proofs.attr.Parting.{parts-kept}
use Rattle.sgml_full.specs.Full.{is_given}
use Rattle.sgml_theory_values.specs.Given.{IsGivenBy, name_at, spelled, units_of, Spells}
use Rattle.sgml_theory_values.proofs.Tokens.{both, is_apart, tokens-apart, all-again, spelled-parts, interpreted-spelled, length-spelled}

-- NO ROW HOLDS

rows-fail : (a b c e f g : Bool) → first_row ((a, NameLength) ∷ (b, NotationUnknown) ∷ (c, NotAToken) ∷ (e, NotInGroup) ∷ (f, FixedDiffers) ∷ (g, EntityUnknown) ∷ []) ≡ None
    → (c ≡ false) × (g ≡ false)
rows-fail true b c e f g h = absurd (cc)
rows-fail false true c e f g h = absurd (cc)
rows-fail false false true e f g h = absurd (cc)
rows-fail false false false true f g h = absurd (cc)
rows-fail false false false false true g h = absurd (cc)
rows-fail false false false false false true h = absurd (cc)
rows-fail false false false false false false h = (refl, refl)

not-false : (b : Bool) → not b ≡ false → b ≡ true
not-false true h = refl
not-false false h = absurd (cc)

unless-some : (o : Option AttrError) (w v : AttrValue) → unless o w ≡ Ok v → (o ≡ None) × (w ≡ v)
unless-some None w v h = (refl, cc)
unless-some (Some e) w v h = absurd (cc)

-- what tokens that give a value are
pub record AreGiven (syntax : Syntax) (tables : Tables) (declared : Declared) (ts : List (List ℕ)) (v : AttrValue) : Type 0 where
  pub is : token_value declared tables.entities ts ≡ v
  pub counted : is_count (is_list declared) (length ts) ≡ true
  pub apart : list_all is_apart ts ≡ true
  pub named : names_no_data declared tables.entities ts ≡ false

given-tokens : (syntax : Syntax) (tables : Tables) (x : Declared) (fixed : Option (List AnyUnit)) (ts : List (List ℕ)) (v : AttrValue)
    → tokens_give syntax x tables fixed ts ≡ Ok v → AreGiven syntax tables x ts v
given-tokens syntax tables x fixed ts v h =
    let p = unless-some (first_row (value_rows syntax x tables fixed ts)) (token_value x tables.entities ts) v h in
    let rows = rows-fail (passes_namelen syntax ts) (names_no_notation syntax x tables.notations ts) (not (are_tokens syntax x ts)) (not (list_all (is_in_group x) ts))
    (are_other (folds syntax x) fixed ts) (names_no_data x tables.entities ts) p.0 in
    let are = both (is_count (is_list x) (length ts)) (list_all (is_token syntax.names (kind_of x)) ts) (not-false (are_tokens syntax x ts) rows.0) in
    record { is = p.1; counted = are.0; apart = tokens-apart syntax.names x ts are.1; named = rows.1 }

-- THE NAME OF AN ENTITY by its number

entity-called : (space : Space) (name : List ℕ) (e : Entity) → is_entity space name e ≡ true → e.name ≡ name
entity-called space name e h = sym ((bytes_eq-Decides name e.name).0 (both (same_space space e.space) (bytes_eq name e.name) h).1)

abbrev IsNamed : ℕ → List Entity → List ℕ → ℕ → Type 0
IsNamed n es name k = (i : ℕ) × (e : Entity) × (k ≡ n + i) × (slice_get es i ≡ Some e) × (e.name ≡ name)

one-number : (n k : ℕ) → Some n ≡ Some k → n ≡ k
one-number n k h = cc

numbered-name : (n : ℕ) (es : List Entity) (name : List ℕ) (k : ℕ) → number_from n es General name ≡ Some k → IsNamed n es name k
numbered-name n [] name k h = absurd (cc h)
numbered-name n (e ∷ es) name k h = by (is_entity General name e) refl (numbered-name (n + 1) es name k) h
  where
    by : (t : Bool) → is_entity General name e ≡ t → (number_from (n + 1) es General name ≡ Some k → IsNamed (n + 1) es name k)
        → (if t then Some n else number_from (n + 1) es General name) ≡ Some k → IsNamed n (e ∷ es) name k
    by true is later h =
        let z : n ≡ k = one-number n k h in
        let s : k ≡ n + 0 = omega (arith, z) in
        (0, e, s, refl, entity-called General name e is)
    by false is later h =
        let r = later h in
        let i = r.0 in
        let z : k ≡ (n + 1) + i = r.2 in
        let s : k ≡ n + suc i = omega (arith, z) in
        (suc i, r.1, s, r.3, r.4)

named-at : (es : List Entity) (name : List ℕ) (k : ℕ) → number_of es General name ≡ Some k → name_at es k ≡ name
named-at es name k h =
    let r = numbered-name 2 es name k h in
    let i = r.0 in
    let z : k ≡ 2 + i = r.2 in
    let past : nat_lt k 2 ≡ false = not-below k i z in
    let back : k - 2 ≡ i = omega (arith, z) in
    ap (λ b. unwrap_or (option_map (λ (e : Entity). e.name) (if b then None else slice_get es (k - 2))) []) past
    ∙ ap (λ j. unwrap_or (option_map (λ (e : Entity). e.name) (slice_get es j)) []) back
    ∙ ap (λ o. unwrap_or (option_map (λ (e : Entity). e.name) o) []) r.3
    ∙ r.4
  where
    not-below : (k i : ℕ) → k ≡ 2 + i → nat_lt k 2 ≡ false
    not-below k i z = ap (λ j. nat_lt j 2) z ∙ below i
      where
        below : (i : ℕ) → nat_lt (2 + i) 2 ≡ false
        below i = search (rules, tests)

number-named : (es : List Entity) (name : List ℕ) (o : Option ℕ) → number_of es General name ≡ o → is_data_at es o ≡ true → name_at es (unwrap_or o 0) ≡ name
number-named es name None e h = absurd (cc)
number-named es name (Some k) e h = named-at es name k e

names-back : (es : List Entity) (ts : List (List ℕ)) → list_all (is_data_entity es) ts ≡ true → map (name_at es) (map (entity_number es) ts) ≡ ts
names-back es [] h = refl
names-back es (t ∷ ts) h =
    let e = both (is_data_entity es t) (list_all (is_data_entity es) ts) h in
    ap (λ n. n ∷ map (name_at es) (map (entity_number es) ts)) (number-named es t (number_of es General t) refl e.0)
    ∙ ap (λ ns. t ∷ ns) (names-back es ts e.1)

-- THE UNITS OF THE VALUE are its tokens

only-one : (ts : List (List ℕ)) → is_count false (length ts) ≡ true → first_of ts ∷ [] ≡ ts
only-one [] h = absurd (cc)
only-one (t ∷ []) h = refl
only-one (t ∷ u ∷ ts) h = absurd (more (length ts) h)
  where
    more : (n : ℕ) → (suc (suc n) == 1) ≡ true → ⊥
    more n h = let e : suc (suc n) ≡ 1 = eqb-true (suc (suc n)) 1 h in omega (arith, e)

units-spelled : (es : List Entity) (x : Declared) (ts : List (List ℕ)) → is_count (is_list x) (length ts) ≡ true → names_no_data x es ts ≡ false
    → units_of es (token_value x es ts) ≡ spelled ts
units-spelled es (declared.Notation names) ts c k = ap spelled (only-one ts c)
units-spelled es declared.Entity ts c k = ap spelled (names-back es ts (not-false (list_all (is_data_entity es) ts) k))
units-spelled es declared.Entities ts c k = ap spelled (names-back es ts (not-false (list_all (is_data_entity es) ts) k))
units-spelled es _ ts c k = refl

-- THE TOKENS of the literal again

literal-tokens : (folding : Bool) (raw : List AnyUnit) → tokens folding (joined (parts raw)) ≡ map (token_of folding) (parts raw)
literal-tokens folding raw = ap (map (token_of folding)) (parts-kept raw)

again-tokens : (folding : Bool) (raw : List AnyUnit) → list_all is_apart (map (token_of folding) (parts raw)) ≡ true
    → tokens folding (spelled (map (token_of folding) (parts raw))) ≡ map (token_of folding) (parts raw)
again-tokens folding raw h =
    ap (map (token_of folding)) (spelled-parts (map (token_of folding) (parts raw)) h) ∙ all-again folding (parts raw)

-- THE VALUE AGAIN

-- a value of tokens, or of character data
abbrev pub are_characters : AttrValue → Bool
are_characters (of.Cdata us) = true
are_characters _ = false

tokens-are : (x : Declared) (es : List Entity) (ts : List (List ℕ)) → (is_given (token_value x es ts) ≡ true) × (are_characters (token_value x es ts) ≡ false)
tokens-are (declared.Notation names) es ts = (refl, refl)
tokens-are declared.Entity es ts = (refl, refl)
tokens-are declared.Entities es ts = (refl, refl)
tokens-are _ es ts = (refl, refl)

-- of a value of tokens, that its units are read as they stand; of character data, that it was read of the literal
abbrev pub Reads : Declared → List Entity → List AnyUnit → AttrValue → Bool → Type 0
Reads x es literal v true = v ≡ of.Cdata (flat_map unit_read literal)
Reads x es literal v false = (are_characters v ≡ false) × (interpreted x (units_of es v) ≡ units_of es v)

pub record Again (syntax : Syntax) (tables : Tables) (x : Definition) (literal : List AnyUnit) (v : AttrValue) : Type 0 where
  pub short : passes_litlen syntax (units_of tables.entities v) ≡ false
  pub value : units_give syntax x.declared tables (fixed_in x.default) (units_of tables.entities v) ≡ Ok v
  pub has : is_given v ≡ true
  pub reads : Reads x.declared tables.entities literal v (is_cdata x.declared)

module _ (syntax : Syntax) (tables : Tables) (x : Definition) (literal : List AnyUnit) where
  give : Bool → List AnyUnit → Result AttrValue AttrError
  give b us =
      if b then unless (first_row ((is_other (fixed_in x.default) us, FixedDiffers) ∷ [])) (of.Cdata us)
      else tokens_give syntax x.declared tables (fixed_in x.default) (tokens (folds syntax x.declared) us)

  record Part (v : AttrValue) (b : Bool) : Type 0 where
    short : passes_litlen syntax (units_of tables.entities v) ≡ false
    value : give b (units_of tables.entities v) ≡ Ok v
    has : is_given v ≡ true
    reads : Reads x.declared tables.entities literal v b

  raw : List AnyUnit
  raw = flat_map unit_read literal

  of-characters : (v : AttrValue) → passes_litlen syntax raw ≡ false → give true raw ≡ Ok v → Part v true
  unfolding give raw
  of-characters v short h =
      let is : of.Cdata raw ≡ v = (unless-some (first_row ((is_other (fixed_in x.default) raw, FixedDiffers) ∷ [])) (of.Cdata raw) v h).1 in
      subst (λ w. Part w true) is (record { short = short; value = h ∙ ap Ok (sym is); has = refl; reads = refl })

  of-tokens : (v : AttrValue) → passes_litlen syntax (joined (parts raw)) ≡ false → give false (joined (parts raw)) ≡ Ok v → Part v false
  unfolding give raw
  of-tokens v short h =
      let folding = folds syntax x.declared in
      let ps = parts raw in
      let ts = map (token_of folding) ps in
      let gives : tokens_give syntax x.declared tables (fixed_in x.default) ts ≡ Ok v =
      sym (ap (tokens_give syntax x.declared tables (fixed_in x.default)) (literal-tokens folding raw)) ∙ h in
      let g = given-tokens syntax tables x.declared (fixed_in x.default) ts v gives in
      let units : units_of tables.entities v ≡ spelled ts =
      ap (units_of tables.entities) (sym g.is) ∙ units-spelled tables.entities x.declared ts g.counted g.named in
      let are = tokens-are x.declared tables.entities ts in
      record {
        short = ap (passes_litlen syntax) units ∙ ap (nat_lt syntax.quantities.litlen) (length-spelled folding ps) ∙ short;
        value = ap (give false) units ∙ ap (tokens_give syntax x.declared tables (fixed_in x.default)) (again-tokens folding raw g.apart) ∙ gives;
        has = ap is_given (sym g.is) ∙ are.0;
        reads = (ap are_characters (sym g.is) ∙ are.1, ap (interpreted x.declared) units ∙ interpreted-spelled x.declared ts g.apart ∙ sym units);
      }

  part : (v : AttrValue) (b : Bool) → passes_litlen syntax (if b then raw else joined (parts raw)) ≡ false → give b (if b then raw else joined (parts raw)) ≡ Ok v → Part v b
  part v true = of-characters v
  part v false = of-tokens v

  again-by : (v : AttrValue) → IsGivenBy syntax tables x literal v → Part v (is_cdata x.declared)
  unfolding give raw
  again-by v g = part v (is_cdata x.declared) g.short g.gives

pub given-again : (syntax : Syntax) (tables : Tables) (x : Definition) (literal : List AnyUnit) (v : AttrValue) → IsGivenBy syntax tables x literal v → Again syntax tables x literal v
unfolding give
given-again syntax tables x literal v g =
    let p = again-by syntax tables x literal v g in
    record { short = p.short; value = p.value; has = p.has; reads = p.reads }

-- a literal that spells it gives it
pub spelled-gives : (syntax : Syntax) (tables : Tables) (x : Definition) (literal other : List AnyUnit) (v : AttrValue)
    → IsGivenBy syntax tables x literal v → Spells x.declared tables.entities other v → IsGivenBy syntax tables x other v
spelled-gives syntax tables x literal other v g s =
    let a = given-again syntax tables x literal v g in
    record {
      short = ap (passes_litlen syntax) s ∙ a.short;
      gives = ap (units_give syntax x.declared tables (fixed_in x.default)) s ∙ a.value;
    }
