-- The values of a start's attributes are in words.
use Rattle.std.proofs.Common.{◌≡◌, ℕ, ◌+◌, Bool, true, false, ◌-◌, ◌&&◌, not, nat_lt, List, [], ◌∷◌, map, length, Option, None, Some, is_some, unwrap_or, Result, Ok, Err, slice_get, refl, ap, ◌∙◌, subst, if◌then◌else◌, arith}
use Rattle.std.specs.List.{list_all}
use Rattle.std.specs.Option.{option_or, option_map_or}
use Rattle.sgml_event_lines.specs.text.declared.reason.Reason.{Reason}
use Rattle.sgml_event_lines.specs.text.declared.unit.Unit.{Unit as AnyUnit}
use Rattle.sgml_event_lines.specs.text.Refusals.{first_row}
use Rattle.sgml_event_lines.specs.esis.Grammar.{is_word, is_none}
use Rattle.sgml_event_lines.proofs.esis.Tokens.{both}
use Rattle.sgml_event_lines.specs.entity.declared.kinds.Entity.{Entity}
use Rattle.sgml_event_lines.specs.entity.declared.kinds.Space.TheVariants.{General}
use Rattle.sgml_event_lines.specs.entity.Entities.{number_of, entity_at}
use Rattle.sgml_event_lines.specs.attr.declared.definition.Declared.{Declared}
use Rattle.sgml_event_lines.specs.attr.declared.definition.Declared.TheVariants as declared
use Rattle.sgml_event_lines.specs.attr.declared.definition.Default.{Default}
use Rattle.sgml_event_lines.specs.attr.declared.definition.Default.TheVariants as defaults
use Rattle.sgml_event_lines.specs.attr.declared.definition.Definition.{Definition}
use Rattle.sgml_event_lines.specs.attr.declared.error.AttrError.{AttrError}
use Rattle.sgml_event_lines.specs.attr.declared.value.AttrValue.{AttrValue}
use Rattle.sgml_event_lines.specs.attr.declared.value.AttrValue.TheVariants as value
use Rattle.sgml_event_lines.specs.attr.Literal.{is_cdata, interpreted}
use Rattle.sgml_event_lines.specs.attr.Tokens.{is_token, kind_of, is_list, is_count, folds, tokens}
use Rattle.sgml_event_lines.specs.attr.declared.error.AttrError.TheVariants.{NameLength, NotationUnknown, NotAToken, NotInGroup, FixedDiffers, EntityUnknown}
use Rattle.std.proofs.lemmas.Bool.Decides.{nat_tests}
use Rattle.sgml_event_lines.specs.attr.Rows.{is_other, passes_namelen, names_no_notation, is_in_group, are_other, are_tokens, is_data, is_data_at, is_data_entity, names_no_data, value_rows}
use Rattle.sgml_event_lines.specs.attr.Values as values
use Rattle.sgml_event_lines.specs.dtd_attlists.Tables.{list_of}
use Rattle.sgml_event_lines.specs.dtd.Doctypes.{Doctype}
use Rattle.sgml_event_lines.specs.theory_reading.Names.{Name}
use Rattle.sgml_event_lines.specs.theory_reading.Types.{attributes, definition_of, entity_tables, has_same_list, has_current}
use Rattle.sgml_event_lines.specs.theory_reading.Pieces.{Specification, Kind, Start}
use Rattle.sgml_event_lines.specs.theory_reading.Facets.{declares, specified}
use Rattle.sgml_event_lines.specs.theory_reading.Currents.{Currents, is_of, if_value, value_written, value_in, given, currents_after}
use Rattle.sgml_event_lines.specs.theory_reading.State.{State}
use Rattle.sgml_theory_kinds.specs.theory_spelling.Attributes.{default_value, given_value, value_of, attribute_of, valued}
use Rattle.sgml_event_lines.specs.ReadBack.{HasWords, is_some_entity, value_words}
use Rattle.sgml_event_lines.proofs.Marked.{at_least_two}
use Rattle.sgml_event_lines.proofs.ReadBack.{words_of_lists}
use Rattle.sgml_theory_words.proofs.Bytes.{and, token-word}
use Rattle.sgml_theory_words.proofs.Said.{attribute_words, all-of, value-stays}

abbrev Words : Doctype → AttrValue → Type 0
Words d v = value_words d v ≡ true

-- THE TOKENS OF A VALUE

-- no row of a value holds
rows-fail : (a b c e f g : Bool) → first_row ((a, NameLength) ∷ (b, NotationUnknown) ∷ (c, NotAToken) ∷ (e, NotInGroup) ∷ (f, FixedDiffers) ∷ (g, EntityUnknown) ∷ []) ≡ None
    → (c ≡ false) × (g ≡ false)
rows-fail true b c e f g h = absurd (cc)
rows-fail false true c e f g h = absurd (cc)
rows-fail false false true e f g h = absurd (cc)
rows-fail false false false true f g h = absurd (cc)
rows-fail false false false false true g h = absurd (cc)
rows-fail false false false false false true h = absurd (cc)
rows-fail false false false false false false h = (refl, refl)

not-false : (b : Bool) → not b ≡ false → b ≡ true
not-false true h = refl
not-false false h = absurd (cc)

some-tokens : (several : Bool) (ts : List (List ℕ)) → is_count several (length ts) ≡ true → not (is_none ts) ≡ true
some-tokens true [] h = absurd (cc)
some-tokens false [] h = absurd (cc)
some-tokens several (t ∷ ts) h = refl

first-word : (ts : List (List ℕ)) → not (is_none ts) ≡ true → list_all is_word ts ≡ true → is_word (values.first_of ts) ≡ true
first-word [] some h = absurd (cc)
first-word (t ∷ ts) some h = (both (is_word t) (list_all is_word ts) h).0

-- a data entity is declared
data-at : (es : List Entity) (n : ℕ) (o : Option Entity) → slice_get es (n - 2) ≡ o → nat_lt n 2 ≡ false → option_map_or (λ (e : Entity). is_data e.body) o false ≡ true → is_some (entity_at es n) ≡ true
data-at es n None e l h = absurd (cc)
data-at es n (Some x) e l h = ap (λ (b : Bool). is_some (if b then None else slice_get es (n - 2))) l ∙ ap is_some e

not-below : (n : ℕ) → n ≡ (n - 2) + 2 → nat_lt n 2 ≡ false
not-below n h = grind (arith, nat_tests)

number-some : (d : Doctype) (name : List ℕ) (o : Option ℕ) → number_of d.entities General name ≡ o → is_data_at d.entities o ≡ true → is_some_entity d (unwrap_or o 0) ≡ true
number-some d name None e h = absurd (cc)
number-some d name (Some n) e h = data-at d.entities n (slice_get d.entities (n - 2)) refl (not-below n (at_least_two d name n e)) h

name-some : (d : Doctype) (name : List ℕ) → is_data_entity d.entities name ≡ true → is_some_entity d (values.entity_number d.entities name) ≡ true
name-some d name h = number-some d name (number_of d.entities General name) refl h

names-some : (d : Doctype) (ts : List (List ℕ)) → list_all (is_data_entity d.entities) ts ≡ true → list_all (is_some_entity d) (map (values.entity_number d.entities) ts) ≡ true
names-some d [] h = refl
names-some d (t ∷ ts) h =
    let p = both (is_data_entity d.entities t) (list_all (is_data_entity d.entities) ts) h in
    and (is_some_entity d (values.entity_number d.entities t)) (list_all (is_some_entity d) (map (values.entity_number d.entities) ts)) (name-some d t p.0) (names-some d ts p.1)

entities-words : (d : Doctype) (ts : List (List ℕ)) → not (is_none ts) ≡ true → list_all (is_data_entity d.entities) ts ≡ true → Words d (value.Entities (map (values.entity_number d.entities) ts))
entities-words d [] some h = absurd (cc)
entities-words d (t ∷ ts) some h = names-some d (t ∷ ts) h

tokens-words : (d : Doctype) (x : Declared) (ts : List (List ℕ)) → not (is_none ts) ≡ true → list_all is_word ts ≡ true → names_no_data x d.entities ts ≡ false
    → Words d (values.token_value x d.entities ts)
tokens-words d (declared.Notation names) ts some h k = first-word ts some h
tokens-words d declared.Entity ts some h k = entities-words d ts some (not-false (list_all (is_data_entity d.entities) ts) k)
tokens-words d declared.Entities ts some h k = entities-words d ts some (not-false (list_all (is_data_entity d.entities) ts) k)
tokens-words d _ ts some h k = and (not (is_none ts)) (list_all is_word ts) some h

unless-some : (o : Option AttrError) (w v : AttrValue) → values.unless o w ≡ Ok v → (o ≡ None) × (w ≡ v)
unless-some None w v h = (refl, cc)
unless-some (Some e) w v h = absurd (cc)

given-tokens : (d : Doctype) (x : Declared) (fixed : Option (List AnyUnit)) (ts : List (List ℕ)) (v : AttrValue) → values.tokens_give d.syntax x (entity_tables d) fixed ts ≡ Ok v → Words d v
given-tokens d x fixed ts v h =
    let p = unless-some (first_row (value_rows d.syntax x (entity_tables d) fixed ts)) (values.token_value x d.entities ts) v h in
    let rows = rows-fail (passes_namelen d.syntax ts) (names_no_notation d.syntax x d.notations ts) (not (are_tokens d.syntax x ts)) (not (list_all (is_in_group x) ts))
    (are_other (folds d.syntax x) fixed ts) (names_no_data x d.entities ts) p.0 in
    let are = both (is_count (is_list x) (length ts)) (list_all (is_token d.syntax.names (kind_of x)) ts) (not-false (are_tokens d.syntax x ts) rows.0) in
    let words = all-of (is_token d.syntax.names (kind_of x)) is_word (token-word d.syntax.names x) ts are.1 in
    subst (Words d) p.1 (tokens-words d x ts (some-tokens (is_list x) ts are.0) words rows.1)

-- A VALUE

units-by : (d : Doctype) (x : Declared) (fixed : Option (List AnyUnit)) (units : List AnyUnit) (v : AttrValue) (b : Bool)
    → (if b then values.unless (first_row ((is_other fixed units, FixedDiffers) ∷ [])) (value.Cdata units) else values.tokens_give d.syntax x (entity_tables d) fixed (tokens (folds d.syntax x) units)) ≡ Ok v → Words d v
units-by d x fixed units v true h = subst (Words d) (unless-some (first_row ((is_other fixed units, FixedDiffers) ∷ [])) (value.Cdata units) v h).1 refl
units-by d x fixed units v false h = given-tokens d x fixed (tokens (folds d.syntax x) units) v h

units-words : (d : Doctype) (x : Declared) (fixed : Option (List AnyUnit)) (units : List AnyUnit) (v : AttrValue) → values.units_give d.syntax x (entity_tables d) fixed units ≡ Ok v → Words d v
units-words d x fixed units v h = units-by d x fixed units v (is_cdata x) h

-- all current values are in words
abbrev pub CurrentWords : Doctype → Option AttrValue → Type 0
CurrentWords d None = Unit {0}
CurrentWords d (Some v) = value_words d v ≡ true

current-words : (d : Doctype) (current : Option AttrValue) (v : AttrValue) → CurrentWords d current → values.current_given current ≡ Ok v → Words d v
current-words d None v w h = absurd (cc)
current-words d (Some u) v w h = let same : u ≡ v = cc in subst (Words d) same w

abbrev implied : Result AttrValue AttrError
implied = Ok value.Implied

implied-words : (d : Doctype) (v : AttrValue) → implied ≡ Ok v → Words d v
implied-words d v h = let same : value.Implied ≡ v = cc in subst (Words d) same refl

default-words : (d : Doctype) (x : Declared) (current : Option AttrValue) (how : Default) (v : AttrValue) → CurrentWords d current
    → values.default_gives d.syntax x (entity_tables d) current how ≡ Ok v → Words d v
default-words d x current (defaults.Value units) v w h = units-words d x None units v h
default-words d x current (defaults.Fixed units) v w h = units-words d x None units v h
default-words d x current defaults.Required v w h = absurd (cc)
default-words d x current defaults.Current v w h = current-words d current v w h
default-words d x current defaults.Conref v w h = implied-words d v h
default-words d x current defaults.Implied v w h = implied-words d v h

-- WHAT IS SPECIFIED

if-value-words : (d : Doctype) (x : Definition) (units : List AnyUnit) (r : Result AttrValue AttrError) → values.value d.syntax x (entity_tables d) None (Some units) ≡ r → CurrentWords d (if_value r)
if-value-words d x units (Ok v) h = units-words d x.declared (values.fixed_in x.default) units v h
if-value-words d x units (Err e) h = tt

written-words : (d : Doctype) (o : Option Definition) (written : Result (List AnyUnit) Reason) → CurrentWords d (value_written d o written)
written-words d (Some x) (Ok units) =
    if-value-words d x (interpreted x.declared units) (values.value d.syntax x (entity_tables d) None (Some (interpreted x.declared units))) refl
written-words d (Some x) (Err r) = tt
written-words d None written = tt

if-words : (d : Doctype) (t : Bool) (o q : Option AttrValue) → CurrentWords d o → CurrentWords d q → CurrentWords d (if t then o else q)
if-words d true o q h k = h
if-words d false o q h k = k

specified-words : (d : Doctype) (o : Option Definition) (a : Name) (ss : List Specification) → CurrentWords d (value_in d o a ss)
specified-words d o a [] = tt
specified-words d o a (s ∷ ss) = if-words d (is_of a s) (value_written d o s.written) (value_in d o a ss) (written-words d o s.written) (specified-words d o a ss)

-- CURRENT VALUES

abbrev pub CurrentsWords : Doctype → Currents → Type 0
CurrentsWords d current = (n a : Name) → CurrentWords d (current n a)

or-words : (d : Doctype) (o q : Option AttrValue) → CurrentWords d o → CurrentWords d q → CurrentWords d (option_or o q)
or-words d None q h k = k
or-words d (Some v) q h k = h

given-words : (d : Doctype) (start : Option (Name × List Specification)) (n a : Name) → CurrentWords d (given d start n a)
given-words d None n a = tt
given-words d (Some start) n a =
    if-words d (has_same_list d start.0 n && has_current d start.0 a) (value_in d (definition_of d start.0 a) a start.1) None (specified-words d (definition_of d start.0 a) a start.1) tt

current-stays : (d : Doctype) (k : Kind) (o : Option AttrValue) → CurrentWords d o → CurrentWords (declares k d) o
current-stays d k None h = tt
current-stays d k (Some v) h = value-stays d k v h

pub currents-words : (d : Doctype) (k : Kind) (current : Currents) → CurrentsWords d current → CurrentsWords (declares k d) (currents_after d k current)
currents-words d k current w n a =
    current-stays d k (option_or (given d (specified k) n a) (current n a))
    (or-words d (given d (specified k) n a) (current n a) (given-words d (specified k) n a) (w n a))

-- THE ATTRIBUTES OF A START

given-value-words : (d : Doctype) (current : Currents) (n : Name) (x : Definition) (r : Result AttrValue AttrError) → CurrentsWords d current → default_value d current n x ≡ r → Words d (given_value r)
given-value-words d current n x (Ok v) w h = default-words d x.declared (current n x.name) x.default v (w n x.name) h
given-value-words d current n x (Err e) w h = refl

or-default : (d : Doctype) (o : Option AttrValue) (v : AttrValue) → CurrentWords d o → Words d v → Words d (unwrap_or o v)
or-default d None v h k = k
or-default d (Some u) v h k = h

value-of-words : (d : Doctype) (current : Currents) (n : Name) (ss : List Specification) (x : Definition) → CurrentsWords d current → Words d (value_of d current n ss x)
value-of-words d current n ss x w =
    or-default d (value_in d (Some x) x.name ss) (given_value (default_value d current n x)) (specified-words d (Some x) x.name ss)
    (given-value-words d current n x (default_value d current n x) w refl)

attributes-words : (d : Doctype) (current : Currents) (n : Name) (ss : List Specification) (xs : List Definition) → CurrentsWords d current
    → list_all (λ (x : Definition). is_word x.name) xs ≡ true → list_all (attribute_words d) (map (attribute_of d current n ss) xs) ≡ true
attributes-words d current n ss [] w h = refl
attributes-words d current n ss (x ∷ xs) w h =
    let p = both (is_word x.name) (list_all (λ (y : Definition). is_word y.name) xs) h in
    and (is_word x.name && value_words d (value_of d current n ss x)) (list_all (attribute_words d) (map (attribute_of d current n ss) xs))
    (and (is_word x.name) (value_words d (value_of d current n ss x)) p.0 (value-of-words d current n ss x w)) (attributes-words d current n ss xs w p.1)

pub valued-words : (s : State) (k : Kind) → HasWords s.context.doctype → CurrentsWords s.context.doctype s.currents → list_all (attribute_words s.context.doctype) (valued s k) ≡ true
unfolding valued attributes
valued-words s (Start n ss how proper at_once) w c =
    attributes-words s.context.doctype s.currents n ss (attributes s.context.doctype n) c (words_of_lists s.context.doctype.lists (list_of s.context.doctype.lists n) w.lists)
valued-words s _ w c = refl
