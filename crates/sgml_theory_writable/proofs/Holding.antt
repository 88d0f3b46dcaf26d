-- The references of defaults and of current values, after one piece more.
use Rattle.std.proofs.Common.{◌≡◌, ℕ, zero, suc, Bool, true, false, ◌&&◌, List, [], ◌∷◌, ◌++◌, map, Option, Some, None, is_some, refl, sym, ap, ◌∙◌, subst, if◌then◌else◌}
use Rattle.std.specs.List.{slice_get}
use Rattle.std.specs.Option.{option_or}
use Rattle.sgml_theory_again.specs.text.declared.unit.Unit.{Unit as AnyUnit}
use Rattle.sgml_theory_again.specs.syntax.declared.syntax.Syntax.{Syntax}
use Rattle.sgml_theory_again.specs.entity.Entities.{number_of}
use Rattle.sgml_theory_again.specs.attr.declared.definition.Declared.{Declared}
use Rattle.sgml_theory_again.specs.attr.declared.definition.Declared.TheVariants as declared
use Rattle.sgml_theory_again.specs.attr.declared.definition.Default.{Default}
use Rattle.sgml_theory_again.specs.attr.declared.definition.Default.TheVariants as defaults
use Rattle.sgml_theory_again.specs.attr.declared.definition.Definition.{Definition}
use Rattle.sgml_theory_again.specs.attr.declared.value.AttrValue.{AttrValue}
use Rattle.sgml_theory_again.specs.attr.Literal.{is_cdata, interpreted}
use Rattle.sgml_theory_again.specs.decl_forms.declared.attlist.AttributeForm.{AttributeForm}
use Rattle.sgml_theory_again.specs.decl_forms.declared.attlist.AttlistDeclaration.{AttlistDeclaration}
use Rattle.sgml_theory_again.specs.decl_forms.declared.declaration.Declaration.{Declaration}
use Rattle.sgml_theory_again.specs.decl_forms.declared.declaration.Declaration.TheVariants as form
use Rattle.sgml_theory_again.specs.dtd_attlists.declared.list.AttributeList.{AttributeList}
use Rattle.sgml_theory_again.specs.dtd_attlists.Interpreted.{declared_in, default_in, definition_in, list_in, default_units}
use Rattle.sgml_theory_again.specs.dtd_attlists.Tables.{list_of, definitions_in}
use Rattle.sgml_theory_again.specs.dtd.Doctypes.{Doctype, entity_in, with_declared, definitions_at}
use Rattle.sgml_theory_again.specs.theory_reading.Names.{Name, Text}
use Rattle.sgml_theory_again.specs.theory_reading.Types.{attributes, definition_of, has_same_list, has_current}
use Rattle.sgml_theory_again.specs.theory_reading.Pieces.{Specification, Kind, Sgml, Head, Declare, Start}
use Rattle.sgml_theory_again.specs.theory_reading.Facets.{specified, declares}
use Rattle.sgml_theory_again.specs.theory_reading.Currents.{Currents, value_in, currents_after}
use Rattle.sgml_theory_again.specs.sgml_theory_full.Named.{AllAre}
use Rattle.sgml_theory_writable.specs.Spelled.{UnitsRefer, SpecificationRefers, IsSpelledSo, ValueRefers, ValuesRefer}
use Rattle.sgml_theory_writable.proofs.Basics.{true-false, none-some, one-some}
use Rattle.sgml_theory_writable.proofs.Growing.{Grown, the-same, one-more, units-stay, value-stays}
use Rattle.sgml_theory_writable.proofs.Values.{interpreted-refers, found-refers}
use Rattle.sgml_theory_writable.proofs.Defaults.{DefaultRefers, FormRefers, DeclarationRefers, declaration-refers}

-- WHAT HOLDS, by the attribute lists of the document type
abbrev pub ListRefers : Doctype → AttributeList → Type 0
ListRefers d l =
    (j : ℕ) (x : Definition) (us : List AnyUnit) → slice_get l.definitions j ≡ Some x → is_cdata x.declared ≡ true → default_units x.default ≡ Some us → UnitsRefer d us

pub record Refer (d : Doctype) (c : Currents) : Type 0 where
  pub lists : (i : ℕ) (l : AttributeList) → slice_get d.lists i ≡ Some l → ListRefers d l
  pub currents : (n a : Name) (v : AttrValue) → c n a ≡ Some v → ValueRefers d v

pub nothing-refers : (d : Doctype) (c : Currents) → d.lists ≡ [] → ((n a : Name) → c n a ≡ None) → Refer d c
nothing-refers d c none nothing = record {
  lists = λ i l at. none-some l (sym (ap (λ (ls : List AttributeList). slice_get ls i) none) ∙ at);
  currents = λ n a v e. none-some v (sym (nothing n a) ∙ e);
}

refer-stays : (d d' : Doctype) (c : Currents) → Grown d.entities d'.entities → d'.lists ≡ d.lists → Refer d c → Refer d' c
refer-stays d d' c g same r = record {
  lists = λ i l at j x us here cdata units. units-stay d d' g us (r.lists i l (sym (ap (λ (ls : List AttributeList). slice_get ls i) same) ∙ at) j x us here cdata units);
  currents = λ n a v e. value-stays d d' g v (r.currents n a v e);
}

-- A NEW LIST (11.3)
form-at : (P : AttributeForm → Type 0) (s : Syntax) (forms : List AttributeForm) (j : ℕ) (x : Definition) → AllAre P forms → slice_get (map (definition_in s) forms) j ≡ Some x
    → (a : AttributeForm) × P a × (definition_in s a ≡ x)
form-at P s [] j x h e = none-some x e
form-at P s (a ∷ forms) zero x h e = (a, h.0, one-some (definition_in s a) x e)
form-at P s (a ∷ forms) (suc j) x h e = form-at P s forms j x h.1 e

default-of : (d : Doctype) (s : Syntax) (x : Declared) (how : Default) (us : List AnyUnit) → DefaultRefers d how → is_cdata (declared_in s x) ≡ true
    → default_units (default_in x how) ≡ Some us → UnitsRefer d us
default-of d s declared.Cdata (defaults.Value vs) us a cdata e =
    subst (UnitsRefer d) (one-some (interpreted declared.Cdata vs) us e) (interpreted-refers d declared.Cdata vs refl a)
default-of d s declared.Cdata (defaults.Fixed vs) us a cdata e =
    subst (UnitsRefer d) (one-some (interpreted declared.Cdata vs) us e) (interpreted-refers d declared.Cdata vs refl a)
default-of d s declared.Cdata defaults.Required us a cdata e = none-some us e
default-of d s declared.Cdata defaults.Current us a cdata e = none-some us e
default-of d s declared.Cdata defaults.Conref us a cdata e = none-some us e
default-of d s declared.Cdata defaults.Implied us a cdata e = none-some us e
default-of d s (declared.Notation names) how us a cdata e = true-false (sym cdata)
default-of d s (declared.Group names) how us a cdata e = true-false (sym cdata)
default-of d s _ how us a cdata e = true-false (sym cdata)

new-list : (d : Doctype) (y : AttlistDeclaration) → AllAre (FormRefers d) y.attributes → ListRefers d (list_in d.syntax y)
new-list d y h j x us here cdata units =
    let f = form-at (FormRefers d) d.syntax y.attributes j x h here in
    default-of d d.syntax f.0.declared f.0.default us f.1 (ap (λ (z : Definition). is_cdata z.declared) f.2 ∙ cdata)
    (ap (λ (z : Definition). default_units z.default) f.2 ∙ units)

added : (P : AttributeList → Type 0) (ls : List AttributeList) (l : AttributeList) → ((i : ℕ) (m : AttributeList) → slice_get ls i ≡ Some m → P m) → P l
    → (i : ℕ) (m : AttributeList) → slice_get (ls ++ l ∷ []) i ≡ Some m → P m
added P [] l f g zero m h = subst P (one-some l m h) g
added P [] l f g (suc i) m h = none-some m h
added P (k ∷ ls) l f g zero m h = f zero m h
added P (k ∷ ls) l f g (suc i) m h = added P ls l (λ j. f (suc j)) g i m h

with-list : (d : Doctype) (c : Currents) (l : AttributeList) → ListRefers d l → Refer d c → Refer (record d { lists = d.lists ++ l ∷ [] }) c
with-list d c l new r =
    let d' : Doctype = record d { lists = d.lists ++ l ∷ [] } in
    let g : Grown d.entities d'.entities = the-same d.entities in
    let stays : (m : AttributeList) → ListRefers d m → ListRefers d' m = λ m h j x us here cdata units. units-stay d d' g us (h j x us here cdata units) in
    record {
      lists = added (ListRefers d') d.lists l (λ i m at. stays m (r.lists i m at)) (stays l new);
      currents = λ n a v e. value-stays d d' g v (r.currents n a v e);
    }

-- A DECLARATION
declared-refers : (base : Text) (d : Doctype) (says : Declaration) (c : Currents) → Refer d c → DeclarationRefers d says → Refer (with_declared base d says) c
declared-refers base d (form.Element x) c r h = refer-stays d (with_declared base d (form.Element x)) c (the-same d.entities) refl r
declared-refers base d (form.Attlist x) c r h = with-list d c (list_in d.syntax x) (new-list d x h) r
declared-refers base d (form.Entity x) c r h =
    let e = entity_in d.syntax base x in
    refer-stays d (with_declared base d (form.Entity x)) c (one-more d.entities e (is_some (number_of d.entities e.space e.name))) refl r
declared-refers base d (form.Notation x) c r h = refer-stays d (with_declared base d (form.Notation x)) c (the-same d.entities) refl r
declared-refers base d (form.Shortref x) c r h = refer-stays d (with_declared base d (form.Shortref x)) c (the-same d.entities) refl r
declared-refers base d (form.Usemap x) c r h = refer-stays d (with_declared base d (form.Usemap x)) c (the-same d.entities) refl r
declared-refers base d (form.Doctype x) c r h = refer-stays d (with_declared base d (form.Doctype x)) c (the-same d.entities) refl r

-- A START (11.3.4)
start-refers : (d : Doctype) (c : Currents) (n : Name) (ss : List Specification) → Refer d c → AllAre (SpecificationRefers d) ss → (e a : Name) (v : AttrValue) (t : Bool)
    → option_or (if t then value_in d (definition_of d n a) a ss else None) (c e a) ≡ Some v → ValueRefers d v
start-refers d c n ss r so e a v true h = by (value_in d (definition_of d n a) a ss) refl h
  where
    by : (o : Option AttrValue) → value_in d (definition_of d n a) a ss ≡ o → option_or o (c e a) ≡ Some v → ValueRefers d v
    by None at h = r.currents e a v h
    by (Some w) at h = found-refers d (definition_of d n a) a ss v so (at ∙ h)
start-refers d c n ss r so e a v false h = r.currents e a v h

-- ANY PIECE
pub piece-refers : (d : Doctype) (c : Currents) (k : Kind) → Refer d c → IsSpelledSo d k → Refer (declares k d) (currents_after d k c)
unfolding declares specified
piece-refers d c (Start n ss how proper at_once) r so = record {
  lists = r.lists;
  currents = λ e a v h. start-refers d c n ss r so e a v (has_same_list d n e && has_current d n a) h;
}
piece-refers d c (Declare lexemes says base) r so = declared-refers base d says c r (declaration-refers d lexemes says so.0 so.1)
piece-refers d c (Head head base) r so = declared-refers base d (form.Doctype head) c r tt
piece-refers d c (Sgml syntax) r so = refer-stays d (record d { syntax = syntax }) c (the-same d.entities) refl r
piece-refers d c k r so = r

-- BY ATTRIBUTES of element types
list-refers : (d : Doctype) (c : Currents) → Refer d c → (k : ℕ) (o : Option AttributeList) → slice_get d.lists k ≡ o → (i : ℕ) (x : Definition) (us : List AnyUnit)
    → slice_get (definitions_in o) i ≡ Some x → is_cdata x.declared ≡ true → default_units x.default ≡ Some us → UnitsRefer d us
list-refers d c r k None e i x us at = none-some x at
list-refers d c r k (Some l) e i x us at = r.lists k l e i x us at

number-refers : (d : Doctype) (c : Currents) → Refer d c → (o : Option ℕ) (i : ℕ) (x : Definition) (us : List AnyUnit)
    → slice_get (definitions_at d.lists o) i ≡ Some x → is_cdata x.declared ≡ true → default_units x.default ≡ Some us → UnitsRefer d us
number-refers d c r None i x us at = none-some x at
number-refers d c r (Some k) i x us at = list-refers d c r k (slice_get d.lists k) refl i x us at

pub values-refer : (d : Doctype) (c : Currents) → Refer d c → ValuesRefer d c
unfolding attributes
values-refer d c r = record { defaults = λ n i x us at. number-refers d c r (list_of d.lists n) i x us at; currents = r.currents }
