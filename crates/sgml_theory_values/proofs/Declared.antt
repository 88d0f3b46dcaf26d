-- What holds of definitions and current values holds after each piece that is read.
use Rattle.std.proofs.Common.{◌≡◌, ◌<◌, ℕ, zero, suc, ◌+◌, Bool, true, false, ◌||◌, ◌==◌, List, [], ◌∷◌, ◌++◌, length, Option, Some, None, option_map, is_some, refl, sym, ap, subst, ◌∙◌, arith, drop, if◌then◌else◌}
use Rattle.std.specs.List.{list_any, slice_get}
use Rattle.std.specs.Option.{option_or}
use Rattle.std.proofs.lemmas.List.{append-nil}
use Rattle.std.proofs.lemmas.Option.{slice_get-map}
use Rattle.sgml_full.specs.text.declared.reason.Reason.{Reason}
use Rattle.sgml_full.specs.text.declared.reason.Reason.TheVariants as reasons
use Rattle.sgml_full.specs.text.declared.unit.Unit.{Unit as AnyUnit}
use Rattle.sgml_full.specs.text.Refusals.{first_row}
use Rattle.sgml_theory_starts.specs.syntax.declared.syntax.Syntax.{Syntax}
use Rattle.sgml_theory_starts.specs.names.Lists.{has}
use Rattle.sgml_theory_starts.specs.entity.declared.kinds.Entity.{Entity}
use Rattle.sgml_theory_starts.specs.entity.declared.kinds.Notation.{Notation}
use Rattle.sgml_theory_starts.specs.entity.Entities.{number_of}
use Rattle.sgml_full.specs.attr.declared.definition.Declared.{Declared}
use Rattle.sgml_full.specs.attr.declared.definition.Declared.TheVariants as declared
use Rattle.sgml_full.specs.attr.declared.definition.Default.{Default}
use Rattle.sgml_full.specs.attr.declared.definition.Default.TheVariants as defaults
use Rattle.sgml_full.specs.attr.declared.definition.Definition.{Definition}
use Rattle.sgml_full.specs.attr.declared.value.AttrValue.{AttrValue}
use Rattle.sgml_full.specs.attr.Literal.{interpreted}
use Rattle.sgml_theory_starts.specs.decl_lexemes.declared.lexeme.Lexeme.{Lexeme}
use Rattle.sgml_theory_starts.specs.decl_forms.declared.attlist.AttlistDeclaration.{AttlistDeclaration}
use Rattle.sgml_theory_starts.specs.decl_forms.declared.attlist.AttributeForm.{AttributeForm}
use Rattle.sgml_theory_starts.specs.decl_forms.declared.declaration.Declaration.{Declaration}
use Rattle.sgml_theory_starts.specs.decl_forms.declared.declaration.Declaration.TheVariants as form
use Rattle.sgml_full.specs.dtd_attlists.declared.list.AttributeList.{AttributeList}
use Rattle.sgml_full.specs.dtd_attlists.Interpreted.{default_units, default_in, declared_in, definition_in, list_in}
use Rattle.sgml_full.specs.dtd_attlists.Rows.{passes_namelen, passes_litlen, is_past, rows, reason}
use Rattle.sgml_full.specs.dtd_attlists.Tables.{list_from, list_of, definitions_in}
use Rattle.sgml_full.specs.dtd.Doctypes.{Doctype, with_declared, entity_in, notation_in, with_entity, definitions_at}
use Rattle.sgml_full.specs.dtd.Rows.{declared_reason}
use Rattle.sgml_theory_starts.specs.theory_reading.Names.{Name, Text}
use Rattle.sgml_theory_starts.specs.theory_reading.Types.{attributes, entity_tables, same_number, has_same_list}
use Rattle.sgml_theory_starts.specs.theory_reading.Currents.{Currents}
use Rattle.sgml_theory_starts.specs.theory_spelling.Declared.{reason_against, ambiguity}
use Rattle.sgml_theory_values.specs.Given.{IsGiven}
use Rattle.sgml_theory_values.specs.Starts.{HasDefault, CurrentsHold}
use Rattle.sgml_theory_values.specs.Read.{HaveDefaults}
use Rattle.sgml_theory_values.proofs.Lists.{none-some, some-none, true-false, same-by}
use Rattle.sgml_theory_values.proofs.Growing.{get-append, given-stays}

-- A NEW LIST (11.3)

declared-read : (syntax : Syntax) (x : Declared) (us : List AnyUnit) → interpreted (declared_in syntax x) us ≡ interpreted x us
declared-read syntax (declared.Notation names) us = refl
declared-read syntax (declared.Group names) us = refl
declared-read syntax declared.Cdata us = refl
declared-read syntax declared.Entity us = refl
declared-read syntax declared.Entities us = refl
declared-read syntax declared.Id us = refl
declared-read syntax declared.Idref us = refl
declared-read syntax declared.Idrefs us = refl
declared-read syntax declared.Name us = refl
declared-read syntax declared.Names us = refl
declared-read syntax declared.Nmtoken us = refl
declared-read syntax declared.Nmtokens us = refl
declared-read syntax declared.Number us = refl
declared-read syntax declared.Numbers us = refl
declared-read syntax declared.Nutoken us = refl
declared-read syntax declared.Nutokens us = refl

one-units : (us vs : List AnyUnit) → Some us ≡ Some vs → us ≡ vs
one-units us vs h = cc

default-read : (syntax : Syntax) (x : Declared) (how : Default) (us : List AnyUnit) → default_units (default_in x how) ≡ Some us
    → (literal : List AnyUnit) × (us ≡ interpreted (declared_in syntax x) literal)
default-read syntax x (defaults.Value vs) us h = (vs, sym (one-units (interpreted x vs) us h) ∙ sym (declared-read syntax x vs))
default-read syntax x (defaults.Fixed vs) us h = (vs, sym (one-units (interpreted x vs) us h) ∙ sym (declared-read syntax x vs))
default-read syntax x defaults.Required us h = none-some us h
default-read syntax x defaults.Current us h = none-some us h
default-read syntax x defaults.Conref us h = none-some us h
default-read syntax x defaults.Implied us h = none-some us h

second : (a b : Bool) (x y : Reason) (rest : Option Reason) → (if a then Some x else if b then Some y else rest) ≡ None → b ≡ false
second true b x y rest h = some-none x h
second false true x y rest h = some-none y h
second false false x y rest h = refl

within : (syntax : Syntax) (lists : List AttributeList) (l : AttributeList) → reason syntax lists l ≡ None → passes_litlen syntax l ≡ false
within syntax lists l h =
    second (passes_namelen syntax l) (passes_litlen syntax l) reasons.NameLength reasons.LiteralLimit (first_row (drop 2 (rows syntax lists l))) h

none-past : (p : Definition → Bool) (xs : List Definition) (j : ℕ) (x : Definition) → list_any p xs ≡ false → slice_get xs j ≡ Some x → p x ≡ false
none-past p [] j x h e = none-some x e
none-past p (y ∷ ys) zero x h e = ap p (sym (one y x e)) ∙ first (p y) (list_any p ys) h
  where
    one : (y x : Definition) → Some y ≡ Some x → y ≡ x
    one y x e = cc

    first : (a b : Bool) → (a || b) ≡ false → a ≡ false
    first true b h = true-false h
    first false b h = refl
none-past p (y ∷ ys) (suc j) x h e = none-past p ys j x (rest (p y) (list_any p ys) h) e
  where
    rest : (a b : Bool) → (a || b) ≡ false → b ≡ false
    rest true b h = true-false h
    rest false b h = h

form-at : (syntax : Syntax) (o : Option AttributeForm) (x : Definition) → option_map (definition_in syntax) o ≡ Some x → (a : AttributeForm) × (definition_in syntax a ≡ x)
form-at syntax None x h = none-some x h
form-at syntax (Some a) x h = (a, cc)

new-default : (syntax : Syntax) (lists : List AttributeList) (y : AttlistDeclaration) → reason syntax lists (list_in syntax y) ≡ None
    → (j : ℕ) (x : Definition) → slice_get (list_in syntax y).definitions j ≡ Some x → HasDefault syntax x
new-default syntax lists y h j x e us u =
    let a = form-at syntax (slice_get y.attributes j) x (sym (slice_get-map (definition_in syntax) y.attributes j) ∙ e) in
    let past : is_past syntax.quantities.litlen (default_units x.default) ≡ false =
    none-past (λ (z : Definition). is_past syntax.quantities.litlen (default_units z.default)) (list_in syntax y).definitions j x (within syntax lists (list_in syntax y) h) e in
    let r = default-read syntax a.0.declared a.0.default us (ap (λ (z : Definition). default_units z.default) a.1 ∙ u) in
    record {
      literal = r.0;
      is = r.1 ∙ ap (λ (z : Definition). interpreted z.declared r.0) a.1;
      short = sym (ap (is_past syntax.quantities.litlen) u) ∙ past;
    }

-- LISTS by their numbers

list-stays : (n : ℕ) (ls more : List AttributeList) (name : Name) (k : ℕ) → list_from n ls name ≡ Some k → list_from n (ls ++ more) name ≡ Some k
list-stays n [] more name k h = none-some k h
list-stays n (l ∷ ls) more name k h = by (has l.names name) (list-stays (n + 1) ls more name k) h
  where
    by : (t : Bool) → (list_from (n + 1) ls name ≡ Some k → list_from (n + 1) (ls ++ more) name ≡ Some k)
        → (if t then Some n else list_from (n + 1) ls name) ≡ Some k → (if t then Some n else list_from (n + 1) (ls ++ more) name) ≡ Some k
    by true later h = h
    by false later h = later h

abbrev IsAt : ℕ → List AttributeList → ℕ → Type 0
IsAt n ls k = (i : ℕ) × (l : AttributeList) × (k ≡ n + i) × (slice_get ls i ≡ Some l) × (i < length ls)

one-number : (n k : ℕ) → Some n ≡ Some k → n ≡ k
one-number n k h = cc

list-at : (n : ℕ) (ls : List AttributeList) (name : Name) (k : ℕ) → list_from n ls name ≡ Some k → IsAt n ls k
list-at n [] name k h = none-some k h
list-at n (l ∷ ls) name k h = by (has l.names name) (list-at (n + 1) ls name k) h
  where
    by : (t : Bool) → (list_from (n + 1) ls name ≡ Some k → IsAt (n + 1) ls k) → (if t then Some n else list_from (n + 1) ls name) ≡ Some k → IsAt n (l ∷ ls) k
    by true later h =
        let z : n ≡ k = one-number n k h in
        let s : k ≡ n + 0 = omega (arith, z) in
        (0, l, s, refl, omega arith)
    by false later h =
        let r = later h in
        let i = r.0 in
        let z : k ≡ (n + 1) + i = r.2 in
        let s : k ≡ n + suc i = omega (arith, z) in
        let f : i < length ls = r.4 in
        (suc i, r.1, s, r.3, omega (arith, f))

-- one that was in no list is in the new one or in none
new-number : (n : ℕ) (ls : List AttributeList) (l : AttributeList) (name : Name) (k : ℕ) → list_from n ls name ≡ None → list_from n (ls ++ l ∷ []) name ≡ Some k → k ≡ n + length ls
new-number n [] l name k h e = by (has l.names name) e
  where
    by : (t : Bool) → (if t then Some n else None) ≡ Some k → k ≡ n + 0
    by true e = let z : n ≡ k = one-number n k e in omega (arith, z)
    by false e = none-some k e
new-number n (m ∷ ls) l name k h e = by (has m.names name) (new-number (n + 1) ls l name k) h e
  where
    by : (t : Bool) → (list_from (n + 1) ls name ≡ None → list_from (n + 1) (ls ++ l ∷ []) name ≡ Some k → k ≡ (n + 1) + length ls)
        → (if t then Some n else list_from (n + 1) ls name) ≡ None → (if t then Some n else list_from (n + 1) (ls ++ l ∷ []) name) ≡ Some k → k ≡ n + suc (length ls)
    by true later h e = some-none n h
    by false later h e = let z : k ≡ (n + 1) + length ls = later h e in omega (arith, z)

-- WHAT HOLDS
pub record Good (d : Doctype) (c : Currents) : Type 0 where
  pub defaults : HaveDefaults d
  pub currents : CurrentsHold d c
  pub unlisted : (n a : Name) → list_of d.lists n ≡ None → c n a ≡ None

-- of a document type with the same lists, entities and notations
module _ (d : Doctype) (c : Currents) (g : Good d c) where
  good-besides : (name : Option Name) (elements : List _) (maps : List (List ℕ × List (ℕ × List ℕ))) (uses : List _)
      → Good (record d { name = name; elements = elements; maps = maps; uses = uses }) c
  unfolding attributes has_same_list
  good-besides name elements maps uses = record {
    defaults = g.defaults;
    currents = record { given = g.currents.given; shared = g.currents.shared };
    unlisted = g.unlisted;
  }

  -- with entities more, and with notations
  entities-given : (x : Definition) (v : AttrValue) (e : Entity) (t : Bool) → IsGiven d.syntax (entity_tables d) x v
      → IsGiven d.syntax (record { entities = if t then d.entities else d.entities ++ e ∷ []; notations = d.notations }) x v
  entities-given x v e true k = k
  entities-given x v e false k =
      subst (λ ns. IsGiven d.syntax (record { entities = d.entities ++ e ∷ []; notations = ns }) x v) (append-nil d.notations)
      (given-stays d.syntax (entity_tables d) (e ∷ []) [] x v k)

  good-entity : (e : Entity) → Good (record d { entities = with_entity d.entities e }) c
  unfolding attributes has_same_list
  good-entity e = record {
    defaults = g.defaults;
    currents = record {
      given = λ n i x v h k. entities-given x v e (is_some (number_of d.entities e.space e.name)) (g.currents.given n i x v h k);
      shared = g.currents.shared;
    };
    unlisted = g.unlisted;
  }

  good-notation : (o : Notation) → Good (record d { notations = d.notations ++ o ∷ [] }) c
  unfolding attributes has_same_list
  good-notation o = record {
    defaults = g.defaults;
    currents = record {
      given = λ n i x v h k.
          subst (λ es. IsGiven d.syntax (record { entities = es; notations = d.notations ++ o ∷ [] }) x v) (append-nil d.entities)
          (given-stays d.syntax (entity_tables d) [] (o ∷ []) x v (g.currents.given n i x v h k));
      shared = g.currents.shared;
    };
    unlisted = g.unlisted;
  }

  -- with a list more
  module _ (l : AttributeList) (new : (j : ℕ) (x : Definition) → slice_get l.definitions j ≡ Some x → HasDefault d.syntax x) where
    abbrev with_list : Doctype
    with_list = record d { lists = d.lists ++ l ∷ [] }

    lists-default : (ls : List AttributeList) → ((i j : ℕ) (m : AttributeList) (x : Definition) → slice_get ls i ≡ Some m → slice_get m.definitions j ≡ Some x → HasDefault d.syntax x)
        → (i j : ℕ) (m : AttributeList) (x : Definition) → slice_get (ls ++ l ∷ []) i ≡ Some m → slice_get m.definitions j ≡ Some x → HasDefault d.syntax x
    lists-default [] f zero j m x h e = let z : l ≡ m = cc in new j x (ap (λ (k : AttributeList). slice_get k.definitions j) z ∙ e)
    lists-default [] f (suc i) j m x h e = none-some m h
    lists-default (k ∷ ls) f zero j m x h e = f 0 j m x h e
    lists-default (k ∷ ls) f (suc i) j m x h e = lists-default ls (λ i. f (suc i)) i j m x h e

    still-unlisted : (n : Name) → list_of with_list.lists n ≡ None → list_of d.lists n ≡ None
    still-unlisted n h = by (list_of d.lists n) refl
      where
        by : (o : Option ℕ) → list_of d.lists n ≡ o → o ≡ None
        by None e = refl
        by (Some k) e = some-none k (sym (list-stays 0 d.lists (l ∷ []) n k e) ∙ h)

    same-here : (n : Name) (k : ℕ) → list_of d.lists n ≡ Some k → attributes with_list n ≡ attributes d n
    unfolding attributes
    same-here n k h =
        let at = list-at 0 d.lists n k h in
        let i = at.0 in
        let z : k ≡ 0 + i = at.2 in
        let s : k ≡ i = omega (arith, z) in
        let here : slice_get d.lists k ≡ Some at.1 = ap (slice_get d.lists) s ∙ at.3 in
        ap (definitions_at with_list.lists) (list-stays 0 d.lists (l ∷ []) n k h)
        ∙ ap definitions_in (get-append d.lists (l ∷ []) k at.1 here)
        ∙ sym (ap definitions_in here)
        ∙ sym (ap (definitions_at d.lists) h)

    list-given : (n : Name) (o : Option ℕ) → list_of d.lists n ≡ o → (i : ℕ) (x : Definition) (v : AttrValue) → slice_get (attributes with_list n) i ≡ Some x
        → c n x.name ≡ Some v → IsGiven d.syntax (entity_tables d) x v
    list-given n None e i x v h k = none-some v (sym (g.unlisted n x.name e) ∙ k)
    list-given n (Some m) e i x v h k = g.currents.given n i x v (sym (ap (λ xs. slice_get xs i) (same-here n m e)) ∙ h) k

    -- an element type of an older list has another number
    apart : {A : Type 0} (n e : Name) (k : ℕ) → list_of d.lists n ≡ Some k → list_of d.lists e ≡ None → list_of with_list.lists n ≡ list_of with_list.lists e → A
    apart n e k h none same =
        let at = list-at 0 d.lists n k h in
        let i = at.0 in
        let z : k ≡ 0 + i = at.2 in
        let f : i < length d.lists = at.4 in
        let there = new-number 0 d.lists l e k none (sym same ∙ list-stays 0 d.lists (l ∷ []) n k h) in
        absurd (never k i (length d.lists) z f there)
      where
        never : (k i n : ℕ) → k ≡ 0 + i → i < n → k ≡ 0 + n → ⊥
        never k i n z f t = omega (arith, z, f, t)

    list-shared : (n e a : Name) (o p : Option ℕ) → list_of d.lists n ≡ o → list_of d.lists e ≡ p → has_same_list with_list n e ≡ true → c n a ≡ c e a
    unfolding has_same_list
    list-shared n e a None None h k same = g.unlisted n a h ∙ sym (g.unlisted e a k)
    list-shared n e a (Some i) None h k same = apart n e i h k (same-by (list_of with_list.lists n) (list_of with_list.lists e) same)
    list-shared n e a None (Some j) h k same = apart e n j k h (sym (same-by (list_of with_list.lists n) (list_of with_list.lists e) same))
    list-shared n e a (Some i) (Some j) h k same =
        let both : list_of with_list.lists n ≡ list_of with_list.lists e = same-by (list_of with_list.lists n) (list_of with_list.lists e) same in
        let numbers : Some i ≡ Some j = sym (list-stays 0 d.lists (l ∷ []) n i h) ∙ both ∙ list-stays 0 d.lists (l ∷ []) e j k in
        g.currents.shared n e a
        (ap (λ o. same_number o (list_of d.lists e)) (h ∙ numbers ∙ sym k) ∙ itself (list_of d.lists e) j k)
      where
        itself : (o : Option ℕ) (j : ℕ) → o ≡ Some j → same_number o o ≡ true
        itself o j e = ap (λ p. same_number p p) e ∙ eq-itself j
          where
            eq-itself : (j : ℕ) → (j == j) ≡ true
            eq-itself j = grind arith

    good-list : Good with_list c
    good-list = record {
      defaults = lists-default d.lists g.defaults;
      currents = record {
        given = λ n i x v h k. list-given n (list_of d.lists n) refl i x v h k;
        shared = λ n e a same. list-shared n e a (list_of d.lists n) (list_of d.lists e) refl refl same;
      };
      unlisted = λ n a h. g.unlisted n a (still-unlisted n h);
    }

none-first : (a b : Option Reason) → option_or a b ≡ None → a ≡ None
none-first None b e = refl
none-first (Some r) b e = e

pub declared-good : (base : Text) (lexemes : List Lexeme) (d : Doctype) (says : Declaration) (c : Currents) → Good d c → reason_against d lexemes says ≡ None
    → Good (with_declared base d says) c
declared-good base lexemes d (form.Element x) c g h = good-besides d c g d.name _ d.maps d.uses
declared-good base lexemes d (form.Attlist x) c g h =
    good-list d c g (list_in d.syntax x) (new-default d.syntax d.lists x (none-first (declared_reason d lexemes (form.Attlist x)) (ambiguity d (form.Attlist x)) h))
declared-good base lexemes d (form.Entity x) c g h = good-entity d c g (entity_in d.syntax base x)
declared-good base lexemes d (form.Notation x) c g h = good-notation d c g (notation_in d.syntax x)
declared-good base lexemes d (form.Shortref x) c g h = good-besides d c g d.name d.elements _ d.uses
declared-good base lexemes d (form.Usemap x) c g h = good-besides d c g d.name d.elements d.maps _
declared-good base lexemes d (form.Doctype x) c g h = good-besides d c g _ d.elements d.maps d.uses

pub head-good : (d : Doctype) (name : Option Name) (c : Currents) → Good d c → Good (record d { name = name }) c
head-good d name c g = good-besides d c g name d.elements d.maps d.uses
