-- What lexemes say whose names are words: the names of element types, attributes and entities, and of the notations of
-- external data, are words.
use Rattle.std.proofs.Common.{◌≡◌, ℕ, zero, suc, Bool, true, false, ◌&&◌, List, [], ◌∷◌, ◌++◌, length, Option, None, Some, option_map, codes, refl, ◌∙◌, if◌then◌else◌}
use Rattle.std.specs.List.{list_all}
use Rattle.std.proofs.lemmas.List.Folds.{list_all-append}
use Rattle.sgml_event_lines.specs.text.Characters.{is_word as is_spelled}
use Rattle.sgml_event_lines.specs.esis.Grammar.{is_word}
use Rattle.sgml_event_lines.proofs.esis.Tokens.{both}
use Rattle.sgml_theory_kinds.specs.delim.declared.delim.Delim.{Delim}
use Rattle.sgml_theory_kinds.specs.delim.declared.delim.Delim.TheVariants as sign
use Rattle.sgml_event_lines.specs.entity.declared.kinds.External.{External}
use Rattle.sgml_event_lines.specs.entity.declared.kinds.Body.{Body}
use Rattle.sgml_event_lines.specs.entity.declared.kinds.Body.TheVariants as body
use Rattle.sgml_event_lines.specs.decl_lexemes.declared.lexeme.Lexeme.{Lexeme}
use Rattle.sgml_event_lines.specs.decl_lexemes.declared.lexeme.Lexeme.TheVariants.{Name, Token, Reserved, Literal, Value, Sign}
use Rattle.sgml_event_lines.specs.decl_forms.declared.declaration.Declaration.{Declaration}
use Rattle.sgml_event_lines.specs.decl_forms.declared.declaration.Declaration.TheVariants as form
use Rattle.sgml_event_lines.specs.decl_forms.declared.element.ElementDeclaration.{ElementDeclaration}
use Rattle.sgml_event_lines.specs.decl_forms.declared.attlist.AttributeForm.{AttributeForm}
use Rattle.sgml_event_lines.specs.decl_forms.declared.attlist.AttlistDeclaration.{AttlistDeclaration}
use Rattle.sgml_event_lines.specs.decl_forms.declared.entity.EntityDeclaration.{EntityDeclaration}
use Rattle.sgml_event_lines.specs.decl_forms.Words.{◌>>=◌, is_keyword, name_at, literal_at, all_of}
use Rattle.sgml_event_lines.specs.decl_forms.Groups.{member_of, closed_by, connector_of, more_members, name_group_at, token_group_at, names_at}
use Rattle.sgml_event_lines.specs.decl_forms.Elements.{omits_at, body_at, element_at}
use Rattle.sgml_event_lines.specs.decl_forms.Attributes.{value_words, worded, notations_at, keyword_at, declared_at, value_at, default_words, reserved_default, default_at, attribute_at, attributes_at, attlist_at}
use Rattle.sgml_event_lines.specs.decl_forms.Externals.{optional_literal, external_at, notation_at}
use Rattle.sgml_event_lines.specs.decl_forms.EntityForms.{data_kind_of, external_body, internal_of, outside_at, or_outside, space_at, entity_at}
use Rattle.sgml_event_lines.specs.decl_forms.EntityForms as entities
use Rattle.sgml_event_lines.specs.decl_forms.Maps.{shortref_at, usemap_at}
use Rattle.sgml_event_lines.specs.decl_forms.Doctypes.{doctype_at}
use Rattle.sgml_event_lines.specs.decl_forms.Declarations.{declaration_at}
use Rattle.sgml_event_lines.specs.ReadBack.{body_words}
use Rattle.sgml_theory_words.proofs.Bytes.{and}
use Rattle.sgml_theory_words.proofs.Lexed.{is_worded, AreWorded}

abbrev pub are_named : List AttributeForm → Bool
are_named xs = list_all (λ (a : AttributeForm). is_word a.name) xs

abbrev pub says_words : Declaration → Bool
says_words (form.Element d) = list_all is_word d.names
says_words (form.Attlist d) = are_named d.attributes
says_words (form.Entity d) = is_word d.name && body_words d.body
says_words _ = true

-- WHAT IS FOUND, where something is
abbrev pub Found : {A : Type 0} → (A → Type 0) → Option A → Type 0
Found P None = Unit {0}
Found P (Some x) = P x

then-found : {A B : Type 0} (P : A → Type 0) (Q : B → Type 0) (o : Option A) (f : A → Option B) → Found P o → ((x : A) → P x → Found Q (f x)) → Found Q (o >>= f)
then-found P Q None f h g = tt
then-found P Q (Some x) f h g = g x h

then-any : {A B : Type 0} (Q : B → Type 0) (o : Option A) (f : A → Option B) → ((x : A) → Found Q (f x)) → Found Q (o >>= f)
then-any Q None f g = tt
then-any Q (Some x) f g = g x

if-found : {A : Type 0} (Q : A → Type 0) (t : Bool) (x y : Option A) → Found Q x → Found Q y → Found Q (if t then x else y)
if-found Q true x y h k = h
if-found Q false x y h k = k

all-found : {A : Type 0} (Q : A → Type 0) (x : A) (ds : List Lexeme) → Q x → Found Q (all_of x ds)
all-found Q x [] h = h
all-found Q x (d ∷ ds) h = tt

first : (d : Lexeme) (ds : List Lexeme) → AreWorded (d ∷ ds) → is_worded d ≡ true
first d ds h = (both (is_worded d) (list_all is_worded ds) h).0

rest : (d : Lexeme) (ds : List Lexeme) → AreWorded (d ∷ ds) → AreWorded ds
rest d ds h = (both (is_worded d) (list_all is_worded ds) h).1

pub append : {A : Type 0} (p : A → Bool) (xs : List A) (x : A) → list_all p xs ≡ true → p x ≡ true → list_all p (xs ++ x ∷ []) ≡ true
append p xs x h k = list_all-append p xs (x ∷ []) ∙ and (list_all p xs) (p x && true) h (and (p x) true k refl)

-- something, and the lexemes behind it
abbrev Behind : {A : Type 0} → A × List Lexeme → Type 0
Behind r = AreWorded r.1

abbrev IsWord : List ℕ × List Lexeme → Type 0
IsWord r = (is_word r.0 ≡ true) × AreWorded r.1

abbrev AreWords : List (List ℕ) × List Lexeme → Type 0
AreWords r = (list_all is_word r.0 ≡ true) × AreWorded r.1

-- NAMES

name-found : (ds : List Lexeme) → AreWorded ds → Found IsWord (name_at ds)
name-found [] h = tt
name-found (Name n ∷ ds) h = (first (Name n) ds h, rest (Name n) ds h)
name-found (_ ∷ ds) h = tt

member-found : (d : Lexeme) → is_worded d ≡ true → Found (λ n. is_word n ≡ true) (member_of false d)
member-found (Name n) h = h
member-found _ h = tt

more-found : (done : List (List ℕ)) (c : Option Delim) (due : Bool) (ds : List Lexeme) → list_all is_word done ≡ true → AreWorded ds
    → Found AreWords (more_members false done c due ds)
more-found done c due [] h k = tt
more-found done c true (d ∷ ds) h k =
    then-found (λ n. is_word n ≡ true) AreWords (member_of false d) (λ n. more_members false (done ++ n ∷ []) c false ds) (member-found d (first d ds k))
    (λ n e. more-found (done ++ n ∷ []) c false ds (append is_word done n h e) (rest d ds k))
more-found done c false (d ∷ ds) h k =
    if-found AreWords (closed_by d) _ _ (h, rest d ds k)
    (then-any AreWords (connector_of c d) (λ e. more_members false done (Some e) true ds) (λ e. more-found done (Some e) true ds h (rest d ds k)))

names-found : (ds : List Lexeme) → AreWorded ds → Found AreWords (names_at ds)
names-found [] h = tt
names-found (Name n ∷ ds) h = (and (is_word n) true (first (Name n) ds h) refl, rest (Name n) ds h)
names-found (Sign sign.Grpo ∷ ds) h = more-found [] None true ds refl (rest (Sign sign.Grpo) ds h)
names-found (_ ∷ ds) h = tt

-- behind a group of names or tokens
more-behind : (tokens : Bool) (done : List (List ℕ)) (c : Option Delim) (due : Bool) (ds : List Lexeme) → AreWorded ds → Found Behind (more_members tokens done c due ds)
more-behind tokens done c due [] k = tt
more-behind tokens done c true (d ∷ ds) k =
    then-any Behind (member_of tokens d) (λ n. more_members tokens (done ++ n ∷ []) c false ds) (λ n. more-behind tokens (done ++ n ∷ []) c false ds (rest d ds k))
more-behind tokens done c false (d ∷ ds) k =
    if-found Behind (closed_by d) _ _ (rest d ds k)
    (then-any Behind (connector_of c d) (λ e. more_members tokens done (Some e) true ds) (λ e. more-behind tokens done (Some e) true ds (rest d ds k)))

-- ELEMENT TYPES

abbrev SaysElement : ElementDeclaration → Type 0
SaysElement d = list_all is_word d.names ≡ true

element-found : (ds : List Lexeme) → AreWorded ds → Found SaysElement (element_at ds)
unfolding element_at
element-found ds h =
    then-found AreWords SaysElement (names_at ds) _ (names-found ds h)
    (λ n w. then-any SaysElement (omits_at n.1) _ (λ o. then-any SaysElement (body_at o.1) _ (λ b. all-found SaysElement _ b.1 w.0)))

-- ATTRIBUTES

notations-behind : (ds : List Lexeme) → AreWorded ds → Found Behind (notations_at ds)
notations-behind [] h = tt
notations-behind (Sign sign.Grpo ∷ ds) h = then-found Behind Behind (name_group_at ds) _ (more-behind false [] None true ds (rest (Sign sign.Grpo) ds h)) (λ g k. k)
notations-behind (_ ∷ ds) h = tt

keyword-behind : (n : List ℕ) (ds : List Lexeme) → AreWorded ds → Found Behind (keyword_at n ds)
keyword-behind n ds h = if-found Behind (is_spelled (codes "NOTATION") n) _ _ (notations-behind ds h) (then-any Behind (worded value_words n) _ (λ v. h))

declared-behind : (ds : List Lexeme) → AreWorded ds → Found Behind (declared_at ds)
declared-behind [] h = tt
declared-behind (Name n ∷ ds) h = keyword-behind n ds (rest (Name n) ds h)
declared-behind (Sign sign.Grpo ∷ ds) h = then-found Behind Behind (token_group_at ds) _ (more-behind true [] None true ds (rest (Sign sign.Grpo) ds h)) (λ g k. k)
declared-behind (_ ∷ ds) h = tt

value-behind : (ds : List Lexeme) → AreWorded ds → Found Behind (value_at ds)
value-behind [] h = tt
value-behind (Value u ∷ ds) h = rest (Value u) ds h
value-behind (Name n ∷ ds) h = rest (Name n) ds h
value-behind (Token t ∷ ds) h = rest (Token t) ds h
value-behind (_ ∷ ds) h = tt

reserved-behind : (n : List ℕ) (ds : List Lexeme) → AreWorded ds → Found Behind (reserved_default n ds)
reserved-behind n ds h =
    if-found Behind (is_spelled (codes "FIXED") n) _ _ (then-found Behind Behind (value_at ds) _ (value-behind ds h) (λ v k. k))
    (then-any Behind (worded default_words n) _ (λ d. h))

default-behind : (ds : List Lexeme) → AreWorded ds → Found Behind (default_at ds)
default-behind [] h = tt
default-behind (Reserved n ∷ ds) h = reserved-behind n ds (rest (Reserved n) ds h)
default-behind (Value u ∷ ds) h = rest (Value u) ds h
default-behind (Name n ∷ ds) h = rest (Name n) ds h
default-behind (Token t ∷ ds) h = rest (Token t) ds h
default-behind (_ ∷ ds) h = tt

abbrev SaysAttribute : AttributeForm × List Lexeme → Type 0
SaysAttribute r = (is_word r.0.name ≡ true) × AreWorded r.1

attribute-found : (ds : List Lexeme) → AreWorded ds → Found SaysAttribute (attribute_at ds)
unfolding attribute_at
attribute-found ds h =
    then-found IsWord SaysAttribute (name_at ds) _ (name-found ds h)
    (λ n w. then-found Behind SaysAttribute (declared_at n.1) _ (declared-behind n.1 w.1)
    (λ v k. then-found Behind SaysAttribute (default_at v.1) _ (default-behind v.1 k) (λ d l. (w.0, l))))

abbrev SaysAttributes : List AttributeForm → Type 0
SaysAttributes xs = are_named xs ≡ true

attributes-found : (n : ℕ) (done : List AttributeForm) (ds : List Lexeme) → SaysAttributes done → AreWorded ds → Found SaysAttributes (attributes_at n done ds)
attributes-found n done [] h k = h
attributes-found zero done (d ∷ ds) h k = tt
attributes-found (suc n) done (d ∷ ds) h k =
    then-found SaysAttribute SaysAttributes (attribute_at (d ∷ ds)) (λ a. attributes_at n (done ++ a.0 ∷ []) a.1) (attribute-found (d ∷ ds) k)
    (λ a w. attributes-found n (done ++ a.0 ∷ []) a.1 (append (λ (x : AttributeForm). is_word x.name) done a.0 h w.0) w.1)

abbrev SaysList : AttlistDeclaration → Type 0
SaysList d = are_named d.attributes ≡ true

attlist-found : (ds : List Lexeme) → AreWorded ds → Found SaysList (attlist_at ds)
unfolding attlist_at
attlist-found ds h =
    then-found AreWords SaysList (names_at ds) _ (names-found ds h)
    (λ n w. then-found SaysAttribute SaysList (attribute_at n.1) _ (attribute-found n.1 w.1)
    (λ a v. then-found SaysAttributes SaysList (attributes_at (length a.1) (a.0 ∷ []) a.1) _
    (attributes-found (length a.1) (a.0 ∷ []) a.1 (and (is_word a.0.name) true v.0 refl) v.1) (λ more m. m)))

-- ENTITIES

optional-behind : (ds : List Lexeme) → AreWorded ds → Behind (optional_literal ds)
optional-behind [] h = h
optional-behind (Literal t ∷ ds) h = rest (Literal t) ds h
optional-behind (_ ∷ ds) h = h

literal-behind : (ds : List Lexeme) → AreWorded ds → Found Behind (literal_at ds)
literal-behind [] h = tt
literal-behind (Literal t ∷ ds) h = rest (Literal t) ds h
literal-behind (_ ∷ ds) h = tt

external-behind : (ds : List Lexeme) → AreWorded ds → Found Behind (external_at ds)
external-behind [] h = tt
external-behind (d ∷ ds) h =
    if-found Behind (is_keyword (codes "SYSTEM") d) _ _ (optional-behind ds (rest d ds h))
    (if-found Behind (is_keyword (codes "PUBLIC") d) _ _
    (then-found Behind Behind (literal_at ds) _ (literal-behind ds (rest d ds h)) (λ p k. optional-behind p.1 k)) tt)

abbrev SaysBody : Body → Type 0
SaysBody b = body_words b ≡ true

body-found : (e : External) (ds : List Lexeme) → AreWorded ds → Found SaysBody (external_body e ds)
body-found e [] h = refl
body-found e (d ∷ ds) h =
    then-any SaysBody (data_kind_of d) _
    (λ k. then-found IsWord SaysBody (name_at ds) _ (name-found ds (rest d ds h)) (λ n w. all-found SaysBody (body.ExternalData k e n.0) n.1 w.0))

outside-found : (ds : List Lexeme) → AreWorded ds → Found SaysBody (outside_at ds)
outside-found ds h = then-found Behind SaysBody (external_at ds) _ (external-behind ds h) (λ e k. body-found e.0 e.1 k)

internal-found : (d : Lexeme) (t : List ℕ) → Found SaysBody (internal_of d t)
internal-found d t =
    if-found SaysBody (is_keyword (codes "CDATA") d) _ _ refl
    (if-found SaysBody (is_keyword (codes "SDATA") d) _ _ refl
    (if-found SaysBody (is_keyword (codes "PI") d) _ _ refl
    (if-found SaysBody (is_keyword (codes "STARTTAG") d) _ _ refl
    (if-found SaysBody (is_keyword (codes "ENDTAG") d) _ _ refl
    (if-found SaysBody (is_keyword (codes "MS") d) _ _ refl (if-found SaysBody (is_keyword (codes "MD") d) _ _ refl tt))))))

or-found : (ds : List Lexeme) (o : Option Body) → Found SaysBody o → AreWorded ds → Found SaysBody (or_outside ds o)
or-found ds (Some b) h k = h
or-found ds None h k = outside-found ds k

text-found : (ds : List Lexeme) → AreWorded ds → Found SaysBody (entities.value_at ds)
text-found (Literal t ∷ []) h = refl
text-found (d ∷ Literal t ∷ []) h = or-found (d ∷ Literal t ∷ []) (internal_of d t) (internal-found d t) h
text-found ds h = outside-found ds h

space-behind : (ds : List Lexeme) → AreWorded ds → Behind (space_at ds)
space-behind [] h = h
space-behind (Sign sign.Pero ∷ ds) h = rest (Sign sign.Pero) ds h
space-behind (_ ∷ ds) h = h

abbrev SaysEntity : EntityDeclaration → Type 0
SaysEntity d = (is_word d.name && body_words d.body) ≡ true

entity-found : (ds : List Lexeme) → AreWorded ds → Found SaysEntity (entity_at ds)
unfolding entity_at
entity-found ds h =
    then-found IsWord SaysEntity (name_at (space_at ds).1) _ (name-found (space_at ds).1 (space-behind ds h))
    (λ n w. then-found SaysBody SaysEntity (entities.value_at n.1) _ (text-found n.1 w.1) (λ b k. and (is_word n.0) (body_words b) w.0 k))

-- WHAT IS SAID

abbrev pub SaysWords : Declaration → Type 0
SaysWords x = says_words x ≡ true

mapped : {A : Type 0} (P : A → Type 0) (f : A → Declaration) (o : Option A) → Found P o → ((x : A) → P x → SaysWords (f x)) → Found SaysWords (option_map f o)
mapped P f None h g = tt
mapped P f (Some x) h g = g x h

any-mapped : {A : Type 0} (f : A → Declaration) (o : Option A) → ((x : A) → SaysWords (f x)) → Found SaysWords (option_map f o)
any-mapped f None g = tt
any-mapped f (Some x) g = g x

pub declaration-found : (ds : List Lexeme) → AreWorded ds → Found SaysWords (declaration_at ds)
declaration-found [] h = tt
declaration-found (d ∷ ds) h =
    let k = rest d ds h in
    if-found SaysWords (is_keyword (codes "ELEMENT") d) _ _ (mapped SaysElement form.Element (element_at ds) (element-found ds k) (λ x w. w))
    (if-found SaysWords (is_keyword (codes "ATTLIST") d) _ _ (mapped SaysList form.Attlist (attlist_at ds) (attlist-found ds k) (λ x w. w))
    (if-found SaysWords (is_keyword (codes "ENTITY") d) _ _ (mapped SaysEntity form.Entity (entity_at ds) (entity-found ds k) (λ x w. w))
    (if-found SaysWords (is_keyword (codes "NOTATION") d) _ _ (any-mapped form.Notation (notation_at ds) (λ x. refl))
    (if-found SaysWords (is_keyword (codes "SHORTREF") d) _ _ (any-mapped form.Shortref (shortref_at ds) (λ x. refl))
    (if-found SaysWords (is_keyword (codes "USEMAP") d) _ _ (any-mapped form.Usemap (usemap_at ds) (λ x. refl))
    (if-found SaysWords (is_keyword (codes "DOCTYPE") d) _ _ (any-mapped form.Doctype (doctype_at ds) (λ x. refl)) tt))))))
