-- The names that a declaration declares are names among its lexemes.
use Rattle.std.proofs.Common.{◌≡◌, ℕ, zero, suc, Bool, true, false, List, [], ◌∷◌, ◌++◌, length, Option, Some, None, option_map, codes, refl, ap, subst, if◌then◌else◌}
use Rattle.std.specs.List.{list_all}
use Rattle.sgml_theory_full.specs.text.Characters.{is_word}
use Rattle.sgml_theory_full.specs.text.Units.{characters}
use Rattle.sgml_theory_full.specs.text.declared.unit.Unit.{Unit as AnyUnit}
use Rattle.sgml_theory_full.specs.text.declared.name_set.NameSet.{NameSet}
use Rattle.sgml_theory_full.specs.text.NameCharacters.{is_name_of}
use Rattle.sgml_theory_full.specs.delim.declared.delim.Delim.{Delim}
use Rattle.sgml_theory_full.specs.delim.declared.delim.Delim.TheVariants as sign
use Rattle.sgml_theory_full.specs.attr.declared.definition.Declared.{Declared}
use Rattle.sgml_theory_full.specs.attr.declared.definition.Declared.TheVariants as declared
use Rattle.sgml_theory_full.specs.attr.declared.definition.Default.{Default}
use Rattle.sgml_theory_full.specs.attr.declared.definition.Default.TheVariants as default
use Rattle.sgml_theory_full.specs.decl_lexemes.declared.lexeme.Lexeme.{Lexeme}
use Rattle.sgml_theory_full.specs.decl_lexemes.declared.lexeme.Lexeme.TheVariants.{Name, Token, Reserved, Literal, Value, Sign}
use Rattle.sgml_theory_full.specs.decl_forms.declared.element.ElementDeclaration.{ElementDeclaration}
use Rattle.sgml_theory_full.specs.decl_forms.declared.attlist.AttributeForm.{AttributeForm}
use Rattle.sgml_theory_full.specs.decl_forms.declared.attlist.AttlistDeclaration.{AttlistDeclaration}
use Rattle.sgml_theory_full.specs.decl_forms.declared.entity.EntityDeclaration.{EntityDeclaration}
use Rattle.sgml_theory_full.specs.decl_forms.declared.declaration.Declaration.{Declaration}
use Rattle.sgml_theory_full.specs.decl_forms.declared.declaration.Declaration.TheVariants as form
use Rattle.sgml_theory_full.specs.decl_forms.Words.{◌>>=◌, is_keyword, name_at, all_of}
use Rattle.sgml_theory_full.specs.decl_forms.Groups.{closed_by, connector_of, member_of, more_members, name_group_at, token_group_at, names_at}
use Rattle.sgml_theory_full.specs.decl_forms.Elements.{omits_at, body_at, element_at}
use Rattle.sgml_theory_full.specs.decl_forms.EntityForms.{space_at, value_at, entity_at}
use Rattle.sgml_theory_full.specs.decl_forms.Attributes.{value_words, worded, notations_at, keyword_at, declared_at, default_words, reserved_default, default_at, attribute_at, attributes_at, attlist_at}
use Rattle.sgml_theory_full.specs.decl_forms.Attributes as attlists
use Rattle.sgml_theory_full.specs.decl_forms.Externals.{notation_at}
use Rattle.sgml_theory_full.specs.decl_forms.Maps.{shortref_at, usemap_at}
use Rattle.sgml_theory_full.specs.decl_forms.Doctypes.{doctype_at}
use Rattle.sgml_theory_full.specs.decl_forms.Declarations.{declaration_at}
use Rattle.sgml_theory_again.proofs.Folding.{both, and}
use Rattle.sgml_theory_again.proofs.Lexing.{is_named, AreNamed}

pub none-some : {A : Type 0} {P : Type 0} (x : A) → None ≡ Some x → P
none-some x e = absurd (cc)

record Bound {A B : Type 0} (o : Option A) (f : A → Option B) (y : B) : Type 0 where
  from : A
  there : o ≡ Some from
  goes : f from ≡ Some y

bound : {A B : Type 0} (o : Option A) (f : A → Option B) (y : B) → (o >>= f) ≡ Some y → Bound o f y
bound None f y e = none-some y e
bound (Some x) f y e = record { from = x; there = refl; goes = e }

one-some : {A : Type 0} (x y : A) → Some x ≡ Some y → x ≡ y
one-some x y e = cc

of-all : {A : Type 0} (x y : A) (ds : List Lexeme) → all_of x ds ≡ Some y → x ≡ y
of-all x y [] e = one-some x y e
of-all x y (d ∷ ds) e = none-some y e

module _ (names : NameSet) where
  abbrev pub AllNames : List (List ℕ) → Type 0
  AllNames ns = list_all (is_name_of names) ns ≡ true

  -- what was found, and the lexemes after it
  abbrev Found : List (List ℕ) × List Lexeme → Type 0
  Found r = AllNames r.0 × AreNamed names r.1

  rest-named : (d : Lexeme) (ds : List Lexeme) → AreNamed names (d ∷ ds) → AreNamed names ds
  rest-named d ds a = (both (is_named names d) (list_all (is_named names) ds) a).1

  add-name : (ns : List (List ℕ)) (n : List ℕ) → AllNames ns → is_name_of names n ≡ true → AllNames (ns ++ n ∷ [])
  add-name [] n a e = and (is_name_of names n) true e refl
  add-name (m ∷ ns) n a e =
      let q = both (is_name_of names m) (list_all (is_name_of names) ns) a in
      and (is_name_of names m) (list_all (is_name_of names) (ns ++ n ∷ [])) q.0 (add-name ns n q.1 e)

  pair-is : (done : List (List ℕ)) (ds : List Lexeme) (r : List (List ℕ) × List Lexeme) → Some (done, ds) ≡ Some r → AllNames done → AreNamed names ds → Found r
  pair-is done ds r e a b = subst Found (one-some (done, ds) r e) (a, b)

  members : (done : List (List ℕ)) (c : Option Delim) (due : Bool) (ds : List Lexeme) (r : List (List ℕ) × List Lexeme) → AllNames done → AreNamed names ds
      → more_members false done c due ds ≡ Some r → Found r
  members done c true [] r a b e = none-some r e
  members done c false [] r a b e = none-some r e
  members done c true (Name n ∷ ds) r a b e =
      let q = both (is_name_of names n) (list_all (is_named names) ds) b in
      members (done ++ n ∷ []) c false ds r (add-name done n a q.0) q.1 e
  members done c true (Token t ∷ ds) r a b e = none-some r e
  members done c true (Reserved n ∷ ds) r a b e = none-some r e
  members done c true (Literal t ∷ ds) r a b e = none-some r e
  members done c true (Value us ∷ ds) r a b e = none-some r e
  members done c true (Sign x ∷ ds) r a b e = none-some r e
  members done c false (d ∷ ds) r a b e =
      closes (closed_by d) e (λ x f. members done (Some x) true ds r a (rest-named d ds b) f)
    where
      closes : (t : Bool) → (if t then Some (done, ds) else (connector_of c d >>= (λ x. more_members false done (Some x) true ds))) ≡ Some r
          → ((x : Delim) → more_members false done (Some x) true ds ≡ Some r → Found r) → Found r
      closes true e f = pair-is done ds r e a (rest-named d ds b)
      closes false e f =
          let q = bound (connector_of c d) (λ x. more_members false done (Some x) true ds) r e in
          f q.from q.goes

  group : (ds : List Lexeme) (r : List (List ℕ) × List Lexeme) → AreNamed names ds → name_group_at ds ≡ Some r → Found r
  group ds r b e = members [] None true ds r refl b e

  signed : (x : Delim) (ds : List Lexeme) (r : List (List ℕ) × List Lexeme) → AreNamed names ds → names_at (Sign x ∷ ds) ≡ Some r → Found r
  signed sign.Grpo ds r b e = group ds r b e
  signed _ ds r b e = none-some r e

  named-at : (ds : List Lexeme) (r : List (List ℕ) × List Lexeme) → AreNamed names ds → names_at ds ≡ Some r → Found r
  named-at [] r b e = none-some r e
  named-at (Name n ∷ ds) r b e =
      let q = both (is_name_of names n) (list_all (is_named names) ds) b in
      pair-is (n ∷ []) ds r e (and (is_name_of names n) true q.0 refl) q.1
  named-at (Sign x ∷ ds) r b e = signed x ds r (rest-named (Sign x) ds b) e
  named-at (Token t ∷ ds) r b e = none-some r e
  named-at (Reserved n ∷ ds) r b e = none-some r e
  named-at (Literal t ∷ ds) r b e = none-some r e
  named-at (Value us ∷ ds) r b e = none-some r e

  -- AN ELEMENT DECLARATION
  element-names : (ds : List Lexeme) (x : ElementDeclaration) → AreNamed names ds → element_at ds ≡ Some x → AllNames x.names
  unfolding element_at
  element-names ds x b e =
      let n = bound (names_at ds) _ x e in
      let o = bound (omits_at n.from.1) _ x n.goes in
      let c = bound (body_at o.from.1) _ x o.goes in
      let is : n.from.0 ≡ x.names = ap (λ (y : ElementDeclaration). y.names) (of-all _ x c.from.1 c.goes) in
      subst AllNames is (named-at ds n.from b n.there).0

  -- AN ENTITY DECLARATION
  space-named : (ds : List Lexeme) → AreNamed names ds → AreNamed names (space_at ds).1
  space-named [] b = b
  space-named (Sign x ∷ ds) b = by x ds b
    where
      by : (x : Delim) (ds : List Lexeme) → AreNamed names (Sign x ∷ ds) → AreNamed names (space_at (Sign x ∷ ds)).1
      by sign.Pero ds b = rest-named (Sign sign.Pero) ds b
      by _ ds b = b
  space-named (Name n ∷ ds) b = b
  space-named (Token t ∷ ds) b = b
  space-named (Reserved n ∷ ds) b = b
  space-named (Literal t ∷ ds) b = b
  space-named (Value us ∷ ds) b = b

  one-name : (ds : List Lexeme) (r : List ℕ × List Lexeme) → AreNamed names ds → name_at ds ≡ Some r → is_name_of names r.0 ≡ true
  one-name [] r b e = none-some r e
  one-name (Name n ∷ ds) r b e =
      subst (λ (q : List ℕ × List Lexeme). is_name_of names q.0 ≡ true) (one-some (n, ds) r e) (both (is_name_of names n) (list_all (is_named names) ds) b).0
  one-name (Sign x ∷ ds) r b e = none-some r e
  one-name (Token t ∷ ds) r b e = none-some r e
  one-name (Reserved n ∷ ds) r b e = none-some r e
  one-name (Literal t ∷ ds) r b e = none-some r e
  one-name (Value us ∷ ds) r b e = none-some r e

  entity-name : (ds : List Lexeme) (x : EntityDeclaration) → AreNamed names ds → entity_at ds ≡ Some x → is_name_of names x.name ≡ true
  unfolding entity_at
  entity-name ds x b e =
      let n = bound (name_at (space_at ds).1) _ x e in
      let v = bound (value_at n.from.1) _ x n.goes in
      let is : n.from.0 ≡ x.name = ap (λ (y : EntityDeclaration). y.name) (one-some _ x v.goes) in
      subst (λ m. is_name_of names m ≡ true) is (one-name (space_at ds).1 n.from (space-named ds b) n.there)

  -- AN ATTRIBUTE LIST DECLARATION
  members-rest : (tokens : Bool) (done : List (List ℕ)) (c : Option Delim) (due : Bool) (ds : List Lexeme) (r : List (List ℕ) × List Lexeme) → AreNamed names ds
      → more_members tokens done c due ds ≡ Some r → AreNamed names r.1
  members-rest tokens done c true [] r b e = none-some r e
  members-rest tokens done c false [] r b e = none-some r e
  members-rest tokens done c true (d ∷ ds) r b e =
      let n = bound (member_of tokens d) (λ n. more_members tokens (done ++ n ∷ []) c false ds) r e in
      members-rest tokens (done ++ n.from ∷ []) c false ds r (rest-named d ds b) n.goes
  members-rest tokens done c false (d ∷ ds) r b e =
      closes (closed_by d) e (λ x f. members-rest tokens done (Some x) true ds r (rest-named d ds b) f)
    where
      closes : (t : Bool) → (if t then Some (done, ds) else (connector_of c d >>= (λ x. more_members tokens done (Some x) true ds))) ≡ Some r
          → ((x : Delim) → more_members tokens done (Some x) true ds ≡ Some r → AreNamed names r.1) → AreNamed names r.1
      closes true e f = subst (λ (q : List (List ℕ) × List Lexeme). AreNamed names q.1) (one-some (done, ds) r e) (rest-named d ds b)
      closes false e f =
          let q = bound (connector_of c d) (λ x. more_members tokens done (Some x) true ds) r e in
          f q.from q.goes

  left-named : {A : Type 0} (x : A) (ds : List Lexeme) (r : A × List Lexeme) → AreNamed names ds → Some (x, ds) ≡ Some r → AreNamed names r.1
  left-named x ds r b e = subst (λ (q : _ × List Lexeme). AreNamed names q.1) (one-some (x, ds) r e) b

  name-rest : (ds : List Lexeme) (r : List ℕ × List Lexeme) → AreNamed names ds → name_at ds ≡ Some r → AreNamed names r.1
  name-rest [] r b e = none-some r e
  name-rest (Name n ∷ ds) r b e = left-named n ds r (rest-named (Name n) ds b) e
  name-rest (Sign x ∷ ds) r b e = none-some r e
  name-rest (Token t ∷ ds) r b e = none-some r e
  name-rest (Reserved n ∷ ds) r b e = none-some r e
  name-rest (Literal t ∷ ds) r b e = none-some r e
  name-rest (Value us ∷ ds) r b e = none-some r e

  notations-signed : (x : Delim) (ds : List Lexeme) (r : Declared × List Lexeme) → AreNamed names ds → notations_at (Sign x ∷ ds) ≡ Some r → AreNamed names r.1
  notations-signed sign.Grpo ds r b e =
      let g = bound (name_group_at ds) _ r e in
      left-named (declared.Notation g.from.0) g.from.1 r (group ds g.from b g.there).1 g.goes
  notations-signed _ ds r b e = none-some r e

  notations-rest : (ds : List Lexeme) (r : Declared × List Lexeme) → AreNamed names ds → notations_at ds ≡ Some r → AreNamed names r.1
  notations-rest [] r b e = none-some r e
  notations-rest (Sign x ∷ ds) r b e = notations-signed x ds r (rest-named (Sign x) ds b) e
  notations-rest (Name n ∷ ds) r b e = none-some r e
  notations-rest (Token t ∷ ds) r b e = none-some r e
  notations-rest (Reserved n ∷ ds) r b e = none-some r e
  notations-rest (Literal t ∷ ds) r b e = none-some r e
  notations-rest (Value us ∷ ds) r b e = none-some r e

  keyword-rest : (n : List ℕ) (ds : List Lexeme) (r : Declared × List Lexeme) → AreNamed names ds → keyword_at n ds ≡ Some r → AreNamed names r.1
  keyword-rest n ds r b e = by (is_word (codes "NOTATION") n) e
    where
      by : (t : Bool) → (if t then notations_at ds else (worded value_words n >>= (λ v. Some (v, ds)))) ≡ Some r → AreNamed names r.1
      by true e = notations-rest ds r b e
      by false e = let v = bound (worded value_words n) (λ v. Some (v, ds)) r e in left-named v.from ds r b v.goes

  declared-signed : (x : Delim) (ds : List Lexeme) (r : Declared × List Lexeme) → AreNamed names ds → declared_at (Sign x ∷ ds) ≡ Some r → AreNamed names r.1
  declared-signed sign.Grpo ds r b e =
      let g = bound (token_group_at ds) _ r e in
      left-named (declared.Group g.from.0) g.from.1 r (members-rest true [] None true ds g.from b g.there) g.goes
  declared-signed _ ds r b e = none-some r e

  declared-rest : (ds : List Lexeme) (r : Declared × List Lexeme) → AreNamed names ds → declared_at ds ≡ Some r → AreNamed names r.1
  declared-rest [] r b e = none-some r e
  declared-rest (Name n ∷ ds) r b e = keyword-rest n ds r (rest-named (Name n) ds b) e
  declared-rest (Sign x ∷ ds) r b e = declared-signed x ds r (rest-named (Sign x) ds b) e
  declared-rest (Token t ∷ ds) r b e = none-some r e
  declared-rest (Reserved n ∷ ds) r b e = none-some r e
  declared-rest (Literal t ∷ ds) r b e = none-some r e
  declared-rest (Value us ∷ ds) r b e = none-some r e

  value-rest : (ds : List Lexeme) (r : List AnyUnit × List Lexeme) → AreNamed names ds → attlists.value_at ds ≡ Some r → AreNamed names r.1
  value-rest [] r b e = none-some r e
  value-rest (Value us ∷ ds) r b e = left-named us ds r (rest-named (Value us) ds b) e
  value-rest (Name n ∷ ds) r b e = left-named (characters n) ds r (rest-named (Name n) ds b) e
  value-rest (Token t ∷ ds) r b e = left-named (characters t) ds r (rest-named (Token t) ds b) e
  value-rest (Sign x ∷ ds) r b e = none-some r e
  value-rest (Reserved n ∷ ds) r b e = none-some r e
  value-rest (Literal t ∷ ds) r b e = none-some r e

  given-rest : (f : List AnyUnit → Default) (ds : List Lexeme) (r : Default × List Lexeme) → AreNamed names ds
      → (attlists.value_at ds >>= (λ v. Some (f v.0, v.1))) ≡ Some r → AreNamed names r.1
  given-rest f ds r b e =
      let v = bound (attlists.value_at ds) (λ v. Some (f v.0, v.1)) r e in
      left-named (f v.from.0) v.from.1 r (value-rest ds v.from b v.there) v.goes

  reserved-rest : (n : List ℕ) (ds : List Lexeme) (r : Default × List Lexeme) → AreNamed names ds → reserved_default n ds ≡ Some r → AreNamed names r.1
  reserved-rest n ds r b e = by (is_word (codes "FIXED") n) e
    where
      by : (t : Bool) → (if t then (attlists.value_at ds >>= (λ v. Some (default.Fixed v.0, v.1))) else (worded default_words n >>= (λ d. Some (d, ds)))) ≡ Some r → AreNamed names r.1
      by true e = given-rest (λ us. default.Fixed us) ds r b e
      by false e = let v = bound (worded default_words n) (λ d. Some (d, ds)) r e in left-named v.from ds r b v.goes

  default-rest : (ds : List Lexeme) (r : Default × List Lexeme) → AreNamed names ds → default_at ds ≡ Some r → AreNamed names r.1
  default-rest [] r b e = given-rest (λ us. default.Value us) [] r b e
  default-rest (Reserved n ∷ ds) r b e = reserved-rest n ds r (rest-named (Reserved n) ds b) e
  default-rest (Value us ∷ ds) r b e = given-rest (λ us. default.Value us) (Value us ∷ ds) r b e
  default-rest (Name n ∷ ds) r b e = given-rest (λ us. default.Value us) (Name n ∷ ds) r b e
  default-rest (Token t ∷ ds) r b e = given-rest (λ us. default.Value us) (Token t ∷ ds) r b e
  default-rest (Sign x ∷ ds) r b e = given-rest (λ us. default.Value us) (Sign x ∷ ds) r b e
  default-rest (Literal t ∷ ds) r b e = given-rest (λ us. default.Value us) (Literal t ∷ ds) r b e

  abbrev has_name : AttributeForm → Bool
  has_name a = is_name_of names a.name

  abbrev pub AllAttributes : List AttributeForm → Type 0
  AllAttributes xs = list_all has_name xs ≡ true

  attribute-named : (ds : List Lexeme) (r : AttributeForm × List Lexeme) → AreNamed names ds → attribute_at ds ≡ Some r → (has_name r.0 ≡ true) × AreNamed names r.1
  unfolding attribute_at
  attribute-named ds r b e =
      let n = bound (name_at ds) _ r e in
      let v = bound (declared_at n.from.1) _ r n.goes in
      let d = bound (default_at v.from.1) _ r v.goes in
      let last = default-rest v.from.1 d.from (declared-rest n.from.1 v.from (name-rest ds n.from b n.there) v.there) d.there in
      subst (λ (q : AttributeForm × List Lexeme). (has_name q.0 ≡ true) × AreNamed names q.1) (one-some _ r d.goes) (one-name ds n.from b n.there, last)

  add-attribute : (xs : List AttributeForm) (a : AttributeForm) → AllAttributes xs → has_name a ≡ true → AllAttributes (xs ++ a ∷ [])
  add-attribute [] a h e = and (has_name a) true e refl
  add-attribute (x ∷ xs) a h e =
      let q = both (has_name x) (list_all has_name xs) h in
      and (has_name x) (list_all has_name (xs ++ a ∷ [])) q.0 (add-attribute xs a q.1 e)

  attributes-named : (n : ℕ) (done : List AttributeForm) (ds : List Lexeme) (r : List AttributeForm) → AllAttributes done → AreNamed names ds → attributes_at n done ds ≡ Some r → AllAttributes r
  attributes-named n done [] r h b e = subst AllAttributes (one-some done r e) h
  attributes-named zero done (d ∷ ds) r h b e = none-some r e
  attributes-named (suc n) done (d ∷ ds) r h b e =
      let a = bound (attribute_at (d ∷ ds)) (λ a. attributes_at n (done ++ a.0 ∷ []) a.1) r e in
      let q = attribute-named (d ∷ ds) a.from b a.there in
      attributes-named n (done ++ a.from.0 ∷ []) a.from.1 r (add-attribute done a.from.0 h q.0) q.1 a.goes

  attlist-names : (ds : List Lexeme) (x : AttlistDeclaration) → AreNamed names ds → attlist_at ds ≡ Some x → AllAttributes x.attributes
  unfolding attlist_at
  attlist-names ds x b e =
      let n = bound (names_at ds) _ x e in
      let a = bound (attribute_at n.from.1) _ x n.goes in
      let more = bound (attributes_at (length a.from.1) (a.from.0 ∷ []) a.from.1) _ x a.goes in
      let q = attribute-named n.from.1 a.from (named-at ds n.from b n.there).1 a.there in
      let is : more.from ≡ x.attributes = ap (λ (y : AttlistDeclaration). y.attributes) (one-some _ x more.goes) in
      subst AllAttributes is
      (attributes-named (length a.from.1) (a.from.0 ∷ []) a.from.1 more.from (and (has_name a.from.0) true q.0 refl) q.1 more.there)

  -- A DECLARATION
  abbrev pub DeclaresNames : Declaration → Type 0
  DeclaresNames (form.Element x) = AllNames x.names
  DeclaresNames (form.Attlist x) = AllAttributes x.attributes
  DeclaresNames (form.Entity x) = is_name_of names x.name ≡ true
  DeclaresNames x = Unit {0}

  mapped : {A : Type 0} (f : A → Declaration) (o : Option A) (x : Declaration) → option_map f o ≡ Some x → ((y : A) → o ≡ Some y → DeclaresNames (f y)) → DeclaresNames x
  mapped f None x e h = none-some x e
  mapped f (Some y) x e h = subst DeclaresNames (one-some (f y) x e) (h y refl)

  if-declares : (t : Bool) (o p : Option Declaration) (x : Declaration) → (if t then o else p) ≡ Some x → (o ≡ Some x → DeclaresNames x) → (p ≡ Some x → DeclaresNames x) → DeclaresNames x
  if-declares true o p x e f g = f e
  if-declares false o p x e f g = g e

  pub declares-names : (ds : List Lexeme) (x : Declaration) → AreNamed names ds → declaration_at ds ≡ Some x → DeclaresNames x
  declares-names [] x b e = none-some x e
  declares-names (word ∷ ds) x b e =
      let r = rest-named word ds b in
      if-declares (is_keyword (codes "ELEMENT") word) (option_map form.Element (element_at ds)) _ x e
      (λ g. mapped form.Element (element_at ds) x g (λ y h. element-names ds y r h))
      (λ e1. if-declares (is_keyword (codes "ATTLIST") word) (option_map form.Attlist (attlist_at ds)) _ x e1
      (λ g. mapped form.Attlist (attlist_at ds) x g (λ y h. attlist-names ds y r h))
      (λ e2. if-declares (is_keyword (codes "ENTITY") word) (option_map form.Entity (entity_at ds)) _ x e2
      (λ g. mapped form.Entity (entity_at ds) x g (λ y h. entity-name ds y r h))
      (λ e3. if-declares (is_keyword (codes "NOTATION") word) (option_map form.Notation (notation_at ds)) _ x e3
      (λ g. mapped form.Notation (notation_at ds) x g (λ y h. tt))
      (λ e4. if-declares (is_keyword (codes "SHORTREF") word) (option_map form.Shortref (shortref_at ds)) _ x e4
      (λ g. mapped form.Shortref (shortref_at ds) x g (λ y h. tt))
      (λ e5. if-declares (is_keyword (codes "USEMAP") word) (option_map form.Usemap (usemap_at ds)) _ x e5
      (λ g. mapped form.Usemap (usemap_at ds) x g (λ y h. tt))
      (λ e6. if-declares (is_keyword (codes "DOCTYPE") word) (option_map form.Doctype (doctype_at ds)) None x e6
      (λ g. mapped form.Doctype (doctype_at ds) x g (λ y h. tt))
      (λ e7. none-some x e7)))))))
