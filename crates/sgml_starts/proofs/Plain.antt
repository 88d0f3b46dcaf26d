-- A value that is one token by itself.
use Rattle.std.proofs.Common.{◌≡◌, ◌<◌, ◌≤◌, ◌&&◌, ◌||◌, ◌∷◌, ℕ, Bool, true, false, not, List, [], Option, Some, None, Result, Ok, Err, refl, sym, ap, ◌∙◌, subst, arith, length, map, nat_lt, if◌then◌else◌}
use Rattle.std.specs.Prelude.{IfSome}
use Rattle.std.specs.List.{list_all}
use Rattle.std.proofs.lemmas.List.{length-map}
use Rattle.sgml_text.specs.Refusals.{first_row}
use Rattle.sgml_text.specs.Units.{characters}
use Rattle.sgml_text.specs.declared.unit.Unit.{Unit as AnyUnit}
use Rattle.sgml_names.specs.Naming.{cased_character}
use Rattle.sgml_names.specs.Lists.{has}
use Rattle.sgml_syntax.specs.declared.syntax.Syntax.{Syntax}
use Rattle.sgml_entity.specs.Entities.{Tables}
use Rattle.sgml_attr.specs.declared.definition.Declared.{Declared}
use Rattle.sgml_attr.specs.declared.definition.Declared.TheVariants as declared
use Rattle.sgml_attr.specs.declared.definition.Default.{Default}
use Rattle.sgml_attr.specs.declared.definition.Default.TheVariants as default
use Rattle.sgml_attr.specs.declared.definition.Definition.{Definition}
use Rattle.sgml_attr.specs.declared.error.AttrError.{AttrError}
use Rattle.sgml_attr.specs.declared.error.AttrError.TheVariants.{NameLength, NotationUnknown, NotAToken, NotInGroup, FixedDiffers, EntityUnknown}
use Rattle.sgml_attr.specs.declared.value.AttrValue.{AttrValue}
use Rattle.sgml_attr.specs.declared.value.AttrValue.TheVariants as values
use Rattle.sgml_attr.specs.Tokens.{is_name_token, is_token, kind_of, is_count, tokens}
use Rattle.sgml_attr.specs.Rows.{is_in_group}
use Rattle.sgml_attr.specs.Values.{fixed_in, unless, units_give, tokens_give, value}
use Rattle.sgml_attr.proofs.Plain.{tokens-spelled, one-some}
use Rattle.sgml_starts.specs.Plain.{is_fixed, is_plain, IsPlainValue}

no-more : (a b : Bool) → b ≡ false → ((a && b) || false) ≡ false
no-more true false e = refl
no-more false b e = refl
no-more true true e = absurd (cc e)

pub left-of : (a b : Bool) → (a && b) ≡ true → a ≡ true
left-of true b e = refl
left-of false b e = absurd (cc e)

pub right-of : (a b : Bool) → (a && b) ≡ true → b ≡ true
right-of true b e = e
right-of false b e = absurd (cc e)

-- the rows of one token
abbrev pub rows_of : Bool → Bool → Bool → List (Bool × AttrError)
rows_of long token group =
    (long, NameLength) ∷ (false, NotationUnknown) ∷ (not token, NotAToken) ∷ (not group, NotInGroup) ∷ (false, FixedDiffers) ∷ (false, EntityUnknown) ∷ []

pub no-row : (long token group : Bool) (v : AttrValue) → long ≡ false → token ≡ true → group ≡ true → unless (first_row (rows_of long token group)) v ≡ Ok v
no-row long token group v a b c = rw (a, b, c) refl

abbrev long_row : Syntax → List ℕ → Bool
long_row s n = (is_name_token s.names n && nat_lt s.quantities.namelen (length n)) || false

abbrev token_row : Syntax → Declared → List ℕ → Bool
token_row s d n = is_count false (length (n ∷ [])) && (is_token s.names (kind_of d) n && true)

one-token : (t : Bool) → t ≡ true → (is_count false 1 && (t && true)) ≡ true
one-token t e = rw e refl

and-true : (t : Bool) → t ≡ true → (t && true) ≡ true
and-true t e = rw e refl

module _ (s : Syntax) (t : Tables) (n : List ℕ) (units : List AnyUnit) (are : tokens s.general_fold units ≡ n ∷ []) (short : nat_lt s.quantities.namelen (length n) ≡ false) where
  gives : (d : Declared) → is_plain s.names d n ≡ true → units_give s d t None units ≡ Ok (values.Tokens (n ∷ []))
  gives declared.Number h =
      ap (tokens_give s declared.Number t None) are
      ∙ no-row (long_row s n) (token_row s declared.Number n) (true && true) (values.Tokens (n ∷ [])) (no-more (is_name_token s.names n) (nat_lt s.quantities.namelen (length n)) short)
      (one-token (is_token s.names (kind_of declared.Number) n) h) refl
  gives declared.Name h =
      ap (tokens_give s declared.Name t None) are
      ∙ no-row (long_row s n) (token_row s declared.Name n) (true && true) (values.Tokens (n ∷ [])) (no-more (is_name_token s.names n) (nat_lt s.quantities.namelen (length n)) short)
      (one-token (is_token s.names (kind_of declared.Name) n) h) refl
  gives declared.Id h =
      ap (tokens_give s declared.Id t None) are
      ∙ no-row (long_row s n) (token_row s declared.Id n) (true && true) (values.Tokens (n ∷ [])) (no-more (is_name_token s.names n) (nat_lt s.quantities.namelen (length n)) short)
      (one-token (is_token s.names (kind_of declared.Id) n) h) refl
  gives declared.Idref h =
      ap (tokens_give s declared.Idref t None) are
      ∙ no-row (long_row s n) (token_row s declared.Idref n) (true && true) (values.Tokens (n ∷ [])) (no-more (is_name_token s.names n) (nat_lt s.quantities.namelen (length n)) short)
      (one-token (is_token s.names (kind_of declared.Idref) n) h) refl
  gives declared.Nmtoken h =
      ap (tokens_give s declared.Nmtoken t None) are
      ∙ no-row (long_row s n) (token_row s declared.Nmtoken n) (true && true) (values.Tokens (n ∷ [])) (no-more (is_name_token s.names n) (nat_lt s.quantities.namelen (length n)) short)
      (one-token (is_token s.names (kind_of declared.Nmtoken) n) h) refl
  gives declared.Nutoken h =
      ap (tokens_give s declared.Nutoken t None) are
      ∙ no-row (long_row s n) (token_row s declared.Nutoken n) (true && true) (values.Tokens (n ∷ [])) (no-more (is_name_token s.names n) (nat_lt s.quantities.namelen (length n)) short)
      (one-token (is_token s.names (kind_of declared.Nutoken) n) h) refl
  gives (declared.Group names) h =
      ap (tokens_give s (declared.Group names) t None) are
      ∙ no-row (long_row s n) (token_row s (declared.Group names) n) (is_in_group (declared.Group names) n && true) (values.Tokens (n ∷ []))
      (no-more (is_name_token s.names n) (nat_lt s.quantities.namelen (length n)) short)
      (one-token (is_token s.names (kind_of (declared.Group names)) n) (left-of (is_name_token s.names n) (has names n) h))
      (and-true (has names n) (right-of (is_name_token s.names n) (has names n) h))
  gives declared.Cdata h = absurd (cc h)
  gives declared.Entity h = absurd (cc h)
  gives declared.Entities h = absurd (cc h)
  gives declared.Idrefs h = absurd (cc h)
  gives declared.Names h = absurd (cc h)
  gives declared.Nmtokens h = absurd (cc h)
  gives declared.Numbers h = absurd (cc h)
  gives declared.Nutokens h = absurd (cc h)
  gives (declared.Notation names) h = absurd (cc h)

pub unfixed : (d : Default) → is_fixed d ≡ false → fixed_in d ≡ None
unfixed (default.Fixed units) e = absurd (cc e)
unfixed (default.Value units) e = refl
unfixed default.Required e = refl
unfixed default.Current e = refl
unfixed default.Conref e = refl
unfixed default.Implied e = refl

pub not-long : (m n : ℕ) → n ≤ m → nat_lt m n ≡ false
not-long m n l = grind arith

pub plain-value : (s : Syntax) (x : Definition) (bytes name : List ℕ) → list_all (nat_lt 32) bytes ≡ true → 0 < length bytes → length bytes ≤ s.quantities.namelen
    → is_fixed x.default ≡ false → name ≡ map (cased_character s.general_fold) bytes → is_plain s.names x.declared name ≡ true
    → IsPlainValue s x bytes (values.Tokens (name ∷ []))
plain-value s x bytes name apart some short free is plain = λ t.
    let many : length name ≡ length bytes = ap (λ (l : List ℕ). length l) is ∙ length-map bytes (cased_character s.general_fold) in
    let are : tokens s.general_fold (characters bytes) ≡ name ∷ [] =
    tokens-spelled s.general_fold bytes apart ∙ one-some (map (cased_character s.general_fold) bytes) (omega (arith, some, length-map bytes (cased_character s.general_fold)))
    ∙ ap (λ (l : List ℕ). l ∷ []) (sym is) in
    ap (λ (o : Option (List AnyUnit)). units_give s x.declared t o (characters bytes)) (unfixed x.default free)
    ∙ gives s t name (characters bytes) are (not-long s.quantities.namelen (length name) (omega (arith, short, many))) x.declared plain

pub if-some : {T : Type 0} {A B : T → Type 0} (o : Option T) → IfSome o A → ((x : T) → A x → B x) → IfSome o B
if-some (Some x) h f = f x h
if-some None h f = tt
