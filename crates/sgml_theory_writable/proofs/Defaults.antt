-- The references of the default values that a declaration declares are those of its lexemes.
use Rattle.std.proofs.Common.{◌≡◌, ℕ, zero, suc, Bool, true, false, List, [], ◌∷◌, ◌++◌, length, Option, Some, None, option_map, codes, refl, ap, subst, if◌then◌else◌}
use Rattle.sgml_theory_again.specs.text.Characters.{is_word}
use Rattle.sgml_theory_again.specs.text.Units.{characters}
use Rattle.sgml_theory_again.specs.text.declared.unit.Unit.{Unit as AnyUnit}
use Rattle.sgml_theory_again.specs.delim.declared.delim.Delim.{Delim}
use Rattle.sgml_theory_again.specs.delim.declared.delim.Delim.TheVariants as sign
use Rattle.sgml_theory_again.specs.attr.declared.definition.Declared.{Declared}
use Rattle.sgml_theory_again.specs.attr.declared.definition.Declared.TheVariants as declared
use Rattle.sgml_theory_again.specs.attr.declared.definition.Default.{Default}
use Rattle.sgml_theory_again.specs.attr.declared.definition.Default.TheVariants as default
use Rattle.sgml_theory_again.specs.decl_lexemes.declared.lexeme.Lexeme.{Lexeme}
use Rattle.sgml_theory_again.specs.decl_lexemes.declared.lexeme.Lexeme.TheVariants.{Name, Token, Reserved, Literal, Value, Sign}
use Rattle.sgml_theory_again.specs.decl_forms.declared.attlist.AttributeForm.{AttributeForm}
use Rattle.sgml_theory_again.specs.decl_forms.declared.attlist.AttlistDeclaration.{AttlistDeclaration}
use Rattle.sgml_theory_again.specs.decl_forms.declared.declaration.Declaration.{Declaration}
use Rattle.sgml_theory_again.specs.decl_forms.declared.declaration.Declaration.TheVariants as form
use Rattle.sgml_theory_again.specs.decl_forms.Words.{◌>>=◌, is_keyword, name_at}
use Rattle.sgml_theory_again.specs.decl_forms.Groups.{closed_by, connector_of, member_of, more_members, name_group_at, token_group_at, names_at}
use Rattle.sgml_theory_again.specs.decl_forms.Elements.{element_at}
use Rattle.sgml_theory_again.specs.decl_forms.EntityForms.{entity_at}
use Rattle.sgml_theory_again.specs.decl_forms.Externals.{notation_at}
use Rattle.sgml_theory_again.specs.decl_forms.Maps.{shortref_at, usemap_at}
use Rattle.sgml_theory_again.specs.decl_forms.Doctypes.{doctype_at}
use Rattle.sgml_theory_again.specs.decl_forms.Attributes.{value_words, worded, notations_at, keyword_at, declared_at, default_words, reserved_default, default_at, attribute_at, attributes_at, attlist_at}
use Rattle.sgml_theory_again.specs.decl_forms.Attributes as attlists
use Rattle.sgml_theory_again.specs.decl_forms.Declarations.{declaration_at}
use Rattle.sgml_theory_again.specs.dtd.Doctypes.{Doctype}
use Rattle.sgml_theory_again.specs.sgml_theory_full.Named.{AllAre}
use Rattle.sgml_theory_writable.specs.Spelled.{UnitsRefer, LexemeRefers}
use Rattle.sgml_theory_writable.proofs.Basics.{none-some, one-some, all-append}
use Rattle.sgml_theory_writable.proofs.Lexemes.{characters-refer}

record Bound {A B : Type 0} (o : Option A) (f : A → Option B) (y : B) : Type 0 where
  from : A
  there : o ≡ Some from
  goes : f from ≡ Some y

bound : {A B : Type 0} (o : Option A) (f : A → Option B) (y : B) → (o >>= f) ≡ Some y → Bound o f y
bound None f y e = none-some y e
bound (Some x) f y e = record { from = x; there = refl; goes = e }

module _ (d : Doctype) where
  abbrev AllRefer : List Lexeme → Type 0
  AllRefer ds = AllAre (LexemeRefers d) ds

  abbrev pub DefaultRefers : Default → Type 0
  DefaultRefers (default.Value us) = UnitsRefer d us
  DefaultRefers (default.Fixed us) = UnitsRefer d us
  DefaultRefers _ = Unit {0}

  -- what was found, and the lexemes after it
  left : {A : Type 0} (x : A) (ds : List Lexeme) (r : A × List Lexeme) → AllRefer ds → Some (x, ds) ≡ Some r → AllRefer r.1
  left x ds r b e = subst (λ (q : _ × List Lexeme). AllRefer q.1) (one-some (x, ds) r e) b

  members-rest : (tokens : Bool) (done : List (List ℕ)) (c : Option Delim) (due : Bool) (ds : List Lexeme) (r : List (List ℕ) × List Lexeme) → AllRefer ds
      → more_members tokens done c due ds ≡ Some r → AllRefer r.1
  members-rest tokens done c true [] r b e = none-some r e
  members-rest tokens done c false [] r b e = none-some r e
  members-rest tokens done c true (x ∷ ds) r b e =
      let n = bound (member_of tokens x) (λ n. more_members tokens (done ++ n ∷ []) c false ds) r e in
      members-rest tokens (done ++ n.from ∷ []) c false ds r b.1 n.goes
  members-rest tokens done c false (x ∷ ds) r b e =
      closes (closed_by x) e (λ y g. members-rest tokens done (Some y) true ds r b.1 g)
    where
      closes : (t : Bool) → (if t then Some (done, ds) else (connector_of c x >>= (λ y. more_members tokens done (Some y) true ds))) ≡ Some r
          → ((y : Delim) → more_members tokens done (Some y) true ds ≡ Some r → AllRefer r.1) → AllRefer r.1
      closes true e g = left done ds r b.1 e
      closes false e g =
          let q = bound (connector_of c x) (λ y. more_members tokens done (Some y) true ds) r e in
          g q.from q.goes

  signed-rest : (x : Delim) (ds : List Lexeme) (r : List (List ℕ) × List Lexeme) → AllRefer ds → names_at (Sign x ∷ ds) ≡ Some r → AllRefer r.1
  signed-rest sign.Grpo ds r b e = members-rest false [] None true ds r b e
  signed-rest _ ds r b e = none-some r e

  names-rest : (ds : List Lexeme) (r : List (List ℕ) × List Lexeme) → AllRefer ds → names_at ds ≡ Some r → AllRefer r.1
  names-rest [] r b e = none-some r e
  names-rest (Name n ∷ ds) r b e = left (n ∷ []) ds r b.1 e
  names-rest (Sign x ∷ ds) r b e = signed-rest x ds r b.1 e
  names-rest (Token t ∷ ds) r b e = none-some r e
  names-rest (Reserved n ∷ ds) r b e = none-some r e
  names-rest (Literal t ∷ ds) r b e = none-some r e
  names-rest (Value us ∷ ds) r b e = none-some r e

  name-rest : (ds : List Lexeme) (r : List ℕ × List Lexeme) → AllRefer ds → name_at ds ≡ Some r → AllRefer r.1
  name-rest [] r b e = none-some r e
  name-rest (Name n ∷ ds) r b e = left n ds r b.1 e
  name-rest (Sign x ∷ ds) r b e = none-some r e
  name-rest (Token t ∷ ds) r b e = none-some r e
  name-rest (Reserved n ∷ ds) r b e = none-some r e
  name-rest (Literal t ∷ ds) r b e = none-some r e
  name-rest (Value us ∷ ds) r b e = none-some r e

  -- a declared value
  notations-signed : (x : Delim) (ds : List Lexeme) (r : Declared × List Lexeme) → AllRefer ds → notations_at (Sign x ∷ ds) ≡ Some r → AllRefer r.1
  notations-signed sign.Grpo ds r b e =
      let g = bound (name_group_at ds) _ r e in
      left (declared.Notation g.from.0) g.from.1 r (members-rest false [] None true ds g.from b g.there) g.goes
  notations-signed _ ds r b e = none-some r e

  notations-rest : (ds : List Lexeme) (r : Declared × List Lexeme) → AllRefer ds → notations_at ds ≡ Some r → AllRefer r.1
  notations-rest [] r b e = none-some r e
  notations-rest (Sign x ∷ ds) r b e = notations-signed x ds r b.1 e
  notations-rest (Name n ∷ ds) r b e = none-some r e
  notations-rest (Token t ∷ ds) r b e = none-some r e
  notations-rest (Reserved n ∷ ds) r b e = none-some r e
  notations-rest (Literal t ∷ ds) r b e = none-some r e
  notations-rest (Value us ∷ ds) r b e = none-some r e

  keyword-rest : (n : List ℕ) (ds : List Lexeme) (r : Declared × List Lexeme) → AllRefer ds → keyword_at n ds ≡ Some r → AllRefer r.1
  keyword-rest n ds r b e = by (is_word (codes "NOTATION") n) e
    where
      by : (t : Bool) → (if t then notations_at ds else (worded value_words n >>= (λ v. Some (v, ds)))) ≡ Some r → AllRefer r.1
      by true e = notations-rest ds r b e
      by false e = let v = bound (worded value_words n) (λ v. Some (v, ds)) r e in left v.from ds r b v.goes

  declared-signed : (x : Delim) (ds : List Lexeme) (r : Declared × List Lexeme) → AllRefer ds → declared_at (Sign x ∷ ds) ≡ Some r → AllRefer r.1
  declared-signed sign.Grpo ds r b e =
      let g = bound (token_group_at ds) _ r e in
      left (declared.Group g.from.0) g.from.1 r (members-rest true [] None true ds g.from b g.there) g.goes
  declared-signed _ ds r b e = none-some r e

  declared-rest : (ds : List Lexeme) (r : Declared × List Lexeme) → AllRefer ds → declared_at ds ≡ Some r → AllRefer r.1
  declared-rest [] r b e = none-some r e
  declared-rest (Name n ∷ ds) r b e = keyword-rest n ds r b.1 e
  declared-rest (Sign x ∷ ds) r b e = declared-signed x ds r b.1 e
  declared-rest (Token t ∷ ds) r b e = none-some r e
  declared-rest (Reserved n ∷ ds) r b e = none-some r e
  declared-rest (Literal t ∷ ds) r b e = none-some r e
  declared-rest (Value us ∷ ds) r b e = none-some r e

  -- A DEFAULT VALUE, and the lexemes after it
  abbrev FoundUnits : List AnyUnit × List Lexeme → Type 0
  FoundUnits r = UnitsRefer d r.0 × AllRefer r.1

  abbrev FoundDefault : Default × List Lexeme → Type 0
  FoundDefault r = DefaultRefers r.0 × AllRefer r.1

  pair-units : (us : List AnyUnit) (ds : List Lexeme) (r : List AnyUnit × List Lexeme) → UnitsRefer d us → AllRefer ds → Some (us, ds) ≡ Some r → FoundUnits r
  pair-units us ds r a b e = subst FoundUnits (one-some (us, ds) r e) (a, b)

  pair-default : (x : Default) (ds : List Lexeme) (r : Default × List Lexeme) → DefaultRefers x → AllRefer ds → Some (x, ds) ≡ Some r → FoundDefault r
  pair-default x ds r a b e = subst FoundDefault (one-some (x, ds) r e) (a, b)

  value-found : (ds : List Lexeme) (r : List AnyUnit × List Lexeme) → AllRefer ds → attlists.value_at ds ≡ Some r → FoundUnits r
  value-found [] r b e = none-some r e
  value-found (Value us ∷ ds) r b e = pair-units us ds r b.0 b.1 e
  value-found (Name n ∷ ds) r b e = pair-units (characters n) ds r (characters-refer d n) b.1 e
  value-found (Token t ∷ ds) r b e = pair-units (characters t) ds r (characters-refer d t) b.1 e
  value-found (Sign x ∷ ds) r b e = none-some r e
  value-found (Reserved n ∷ ds) r b e = none-some r e
  value-found (Literal t ∷ ds) r b e = none-some r e

  given-found : (f : List AnyUnit → Default) (ds : List Lexeme) (r : Default × List Lexeme) → ((us : List AnyUnit) → UnitsRefer d us → DefaultRefers (f us)) → AllRefer ds
      → (attlists.value_at ds >>= (λ v. Some (f v.0, v.1))) ≡ Some r → FoundDefault r
  given-found f ds r g b e =
      let v = bound (attlists.value_at ds) (λ v. Some (f v.0, v.1)) r e in
      let q = value-found ds v.from b v.there in
      pair-default (f v.from.0) v.from.1 r (g v.from.0 q.0) q.1 v.goes

  words-refer : (table : List (List ℕ × Default)) (n : List ℕ) (v : Default) → AllAre (λ (entry : List ℕ × Default). DefaultRefers entry.1) table
      → worded table n ≡ Some v → DefaultRefers v
  words-refer [] n v a e = none-some v e
  words-refer (entry ∷ table) n v a e = by (is_word entry.0 n) (words-refer table n v a.1) e
    where
      by : (t : Bool) → (worded table n ≡ Some v → DefaultRefers v) → (if t then Some entry.1 else worded table n) ≡ Some v → DefaultRefers v
      by true more e = subst DefaultRefers (one-some entry.1 v e) a.0
      by false more e = more e

  reserved-found : (n : List ℕ) (ds : List Lexeme) (r : Default × List Lexeme) → AllRefer ds → reserved_default n ds ≡ Some r → FoundDefault r
  reserved-found n ds r b e = by (is_word (codes "FIXED") n) e
    where
      by : (t : Bool) → (if t then (attlists.value_at ds >>= (λ v. Some (default.Fixed v.0, v.1))) else (worded default_words n >>= (λ x. Some (x, ds)))) ≡ Some r
          → FoundDefault r
      by true e = given-found (λ us. default.Fixed us) ds r (λ us a. a) b e
      by false e =
          let v = bound (worded default_words n) (λ x. Some (x, ds)) r e in
          pair-default v.from ds r (words-refer default_words n v.from (tt, (tt, (tt, (tt, tt)))) v.there) b v.goes

  default-found : (ds : List Lexeme) (r : Default × List Lexeme) → AllRefer ds → default_at ds ≡ Some r → FoundDefault r
  default-found [] r b e = given-found (λ us. default.Value us) [] r (λ us a. a) b e
  default-found (Reserved n ∷ ds) r b e = reserved-found n ds r b.1 e
  default-found (Value us ∷ ds) r b e = given-found (λ us. default.Value us) (Value us ∷ ds) r (λ us a. a) b e
  default-found (Name n ∷ ds) r b e = given-found (λ us. default.Value us) (Name n ∷ ds) r (λ us a. a) b e
  default-found (Token t ∷ ds) r b e = given-found (λ us. default.Value us) (Token t ∷ ds) r (λ us a. a) b e
  default-found (Sign x ∷ ds) r b e = given-found (λ us. default.Value us) (Sign x ∷ ds) r (λ us a. a) b e
  default-found (Literal t ∷ ds) r b e = given-found (λ us. default.Value us) (Literal t ∷ ds) r (λ us a. a) b e

  -- AN ATTRIBUTE LIST DECLARATION
  abbrev pub FormRefers : AttributeForm → Type 0
  FormRefers a = DefaultRefers a.default

  attribute-found : (ds : List Lexeme) (r : AttributeForm × List Lexeme) → AllRefer ds → attribute_at ds ≡ Some r → FormRefers r.0 × AllRefer r.1
  unfolding attribute_at
  attribute-found ds r b e =
      let n = bound (name_at ds) _ r e in
      let v = bound (declared_at n.from.1) _ r n.goes in
      let x = bound (default_at v.from.1) _ r v.goes in
      let q = default-found v.from.1 x.from (declared-rest n.from.1 v.from (name-rest ds n.from b n.there) v.there) x.there in
      subst (λ (q : AttributeForm × List Lexeme). FormRefers q.0 × AllRefer q.1) (one-some _ r x.goes) q

  attributes-found : (n : ℕ) (done : List AttributeForm) (ds : List Lexeme) (r : List AttributeForm) → AllAre FormRefers done → AllRefer ds
      → attributes_at n done ds ≡ Some r → AllAre FormRefers r
  attributes-found n done [] r h b e = subst (AllAre FormRefers) (one-some done r e) h
  attributes-found zero done (x ∷ ds) r h b e = none-some r e
  attributes-found (suc n) done (x ∷ ds) r h b e =
      let a = bound (attribute_at (x ∷ ds)) (λ a. attributes_at n (done ++ a.0 ∷ []) a.1) r e in
      let q = attribute-found (x ∷ ds) a.from b a.there in
      attributes-found n (done ++ a.from.0 ∷ []) a.from.1 r (all-append FormRefers done (a.from.0 ∷ []) h (q.0, tt)) q.1 a.goes

  attlist-found : (ds : List Lexeme) (x : AttlistDeclaration) → AllRefer ds → attlist_at ds ≡ Some x → AllAre FormRefers x.attributes
  unfolding attlist_at
  attlist-found ds x b e =
      let n = bound (names_at ds) _ x e in
      let a = bound (attribute_at n.from.1) _ x n.goes in
      let more = bound (attributes_at (length a.from.1) (a.from.0 ∷ []) a.from.1) _ x a.goes in
      let q = attribute-found n.from.1 a.from (names-rest ds n.from b n.there) a.there in
      let is : more.from ≡ x.attributes = ap (λ (y : AttlistDeclaration). y.attributes) (one-some _ x more.goes) in
      subst (AllAre FormRefers) is (attributes-found (length a.from.1) (a.from.0 ∷ []) a.from.1 more.from (q.0, tt) q.1 more.there)

  -- A DECLARATION
  abbrev pub DeclarationRefers : Declaration → Type 0
  DeclarationRefers (form.Attlist x) = AllAre FormRefers x.attributes
  DeclarationRefers x = Unit {0}

  mapped : {A : Type 0} (f : A → Declaration) (o : Option A) (x : Declaration) → option_map f o ≡ Some x → ((y : A) → o ≡ Some y → DeclarationRefers (f y)) → DeclarationRefers x
  mapped f None x e h = none-some x e
  mapped f (Some y) x e h = subst DeclarationRefers (one-some (f y) x e) (h y refl)

  if-refers : (t : Bool) (o p : Option Declaration) (x : Declaration) → (if t then o else p) ≡ Some x → (o ≡ Some x → DeclarationRefers x) → (p ≡ Some x → DeclarationRefers x)
      → DeclarationRefers x
  if-refers true o p x e f g = f e
  if-refers false o p x e f g = g e

  pub declaration-refers : (ds : List Lexeme) (x : Declaration) → AllRefer ds → declaration_at ds ≡ Some x → DeclarationRefers x
  declaration-refers [] x b e = none-some x e
  declaration-refers (word ∷ ds) x b e =
      if-refers (is_keyword (codes "ELEMENT") word) (option_map form.Element (element_at ds)) _ x e
      (λ g. mapped form.Element (element_at ds) x g (λ y h. tt))
      (λ e1. if-refers (is_keyword (codes "ATTLIST") word) (option_map form.Attlist (attlist_at ds)) _ x e1
      (λ g. mapped form.Attlist (attlist_at ds) x g (λ y h. attlist-found ds y b.1 h))
      (λ e2. if-refers (is_keyword (codes "ENTITY") word) (option_map form.Entity (entity_at ds)) _ x e2
      (λ g. mapped form.Entity (entity_at ds) x g (λ y h. tt))
      (λ e3. if-refers (is_keyword (codes "NOTATION") word) (option_map form.Notation (notation_at ds)) _ x e3
      (λ g. mapped form.Notation (notation_at ds) x g (λ y h. tt))
      (λ e4. if-refers (is_keyword (codes "SHORTREF") word) (option_map form.Shortref (shortref_at ds)) _ x e4
      (λ g. mapped form.Shortref (shortref_at ds) x g (λ y h. tt))
      (λ e5. if-refers (is_keyword (codes "USEMAP") word) (option_map form.Usemap (usemap_at ds)) _ x e5
      (λ g. mapped form.Usemap (usemap_at ds) x g (λ y h. tt))
      (λ e6. if-refers (is_keyword (codes "DOCTYPE") word) (option_map form.Doctype (doctype_at ds)) None x e6
      (λ g. mapped form.Doctype (doctype_at ds) x g (λ y h. tt))
      (λ e7. none-some x e7)))))))
