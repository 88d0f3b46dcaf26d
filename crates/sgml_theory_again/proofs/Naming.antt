-- Each declared element type and each entity has a name, folded, of at most NAMELEN characters, after whatever was read.
use Rattle.std.proofs.Common.{◌≡◌, ℕ, zero, suc, Bool, true, false, ◌-◌, ◌||◌, List, [], ◌∷◌, ◌++◌, map, drop, nat_lt, Option, Some, None, is_some, option_map, option_and_then, unwrap_or, refl, sym, ap, ◌∙◌, inl, inr, subst, bytes_eq, if◌then◌else◌}
use Rattle.std.specs.List.{list_all, list_any, slice_get}
use Rattle.std.specs.Option.{option_or}
use Rattle.std.proofs.lemmas.Slice.Eq.{bytes_eq-Decides}
use Rattle.sgml_theory_full.specs.text.declared.reason.Reason.{Reason}
use Rattle.sgml_theory_full.specs.text.declared.reason.Reason.TheVariants as reason
use Rattle.sgml_theory_full.specs.text.NameCharacters.{is_name_of}
use Rattle.sgml_theory_full.specs.syntax.declared.syntax.Syntax.{Syntax}
use Rattle.sgml_theory_full.specs.names.Naming.{general_name, general_names, entity_name, is_long}
use Rattle.sgml_theory_full.specs.entity.declared.kinds.Body.{Body}
use Rattle.sgml_theory_full.specs.entity.declared.kinds.Entity.{Entity}
use Rattle.sgml_theory_full.specs.entity.Entities.{number_of}
use Rattle.sgml_theory_full.specs.decl_lexemes.declared.lexeme.Lexeme.{Lexeme}
use Rattle.sgml_theory_full.specs.decl_forms.declared.element.ElementDeclaration.{ElementDeclaration}
use Rattle.sgml_theory_full.specs.text.Refusals.{first_row}
use Rattle.sgml_theory_full.specs.attr.declared.definition.Definition.{Definition}
use Rattle.sgml_theory_full.specs.dtd_attlists.declared.list.AttributeList.{AttributeList}
use Rattle.sgml_theory_full.specs.dtd_attlists.Interpreted.{group_of, definition_in, list_in}
use Rattle.sgml_theory_full.specs.dtd_attlists.Tables.{list_of, definitions_in}
use Rattle.sgml_theory_full.specs.dtd_attlists.Rows as attlists
use Rattle.sgml_theory_full.specs.decl_forms.declared.attlist.AttributeForm.{AttributeForm}
use Rattle.sgml_theory_full.specs.decl_forms.declared.attlist.AttlistDeclaration.{AttlistDeclaration}
use Rattle.sgml_theory_full.specs.decl_forms.declared.entity.EntityDeclaration.{EntityDeclaration}
use Rattle.sgml_theory_full.specs.decl_forms.declared.declaration.Declaration.{Declaration}
use Rattle.sgml_theory_full.specs.decl_forms.declared.declaration.Declaration.TheVariants as form
use Rattle.sgml_theory_full.specs.dtd_elements.Types.{ElementType}
use Rattle.sgml_theory_full.specs.dtd_elements.Types as elements
use Rattle.sgml_theory_full.specs.dtd_elements.Rows.{has_long, is_long_content, reason_of, first_reason}
use Rattle.sgml_theory_full.specs.dtd_elements.Folded.{folded}
use Rattle.sgml_theory_full.specs.dtd.Doctypes.{Doctype, with_declared, entity_in, definitions_at}
use Rattle.sgml_theory_full.specs.dtd.Rows.{declared_reason, entity_reason, has_long_notation, has_long_literal}
use Rattle.sgml_theory_full.specs.theory_reading.Names.{Name, Text}
use Rattle.sgml_theory_full.specs.theory_reading.Types.{element_type, is_declared, is_in, attributes, entity, name_of_entity}
use Rattle.sgml_theory_full.specs.theory_reading.Said.{type_said}
use Rattle.sgml_theory_full.specs.theory_reading.Pieces.{Piece, Kind, Sgml, Head, Declare, SubsetEnd, Sep, Start, Re, ShortRef, History}
use Rattle.sgml_theory_full.specs.theory_reading.Facets.{Stage, BeforeSyntax, AtBeginning, BeforeDoctype, InSubset, AfterSubset, stage_begun, stage_of_head, stage_after, declares}
use Rattle.sgml_theory_full.specs.theory_reading.Nest.{types}
use Rattle.sgml_theory_full.specs.theory_reading.Context.{Context, context}
use Rattle.sgml_theory_full.specs.theory_reading.Omission.{MayStand}
use Rattle.sgml_theory_full.specs.theory_reading.Runs.{LongestRun, after_run}
use Rattle.sgml_theory_full.specs.theory_reading.Unread.{Outside, Input, standing, opening}
use Rattle.sgml_theory_full.specs.theory_reading.State.{State, state, stage}
use Rattle.sgml_theory_full.specs.theory_reading.Characters.{kind_noted}
use Rattle.sgml_theory_full.specs.theory_reading.Reads.{Move, Reads, ReadOn, ReadsFromStart, moved_on, after_moves, read_by, judged}
use Rattle.sgml_theory_full.proofs.theory_reading.FirstDeclared.{first-type}
use Rattle.sgml_theory_full.specs.theory_spelling.Declared.{ambiguity}
use Rattle.sgml_theory_full.specs.theory_spelling.Spelled.{forms}
use Rattle.sgml_theory_again.specs.Content.{IsReferred}
use Rattle.sgml_theory_full.specs.Named.{IsGeneralName, IsEntityName, IsEntity}
use Rattle.sgml_theory_again.specs.Names.{HasNames}
use Rattle.sgml_theory_again.proofs.Folding.{true-false, both, cased-name, cased-once, cased-long}
use Rattle.sgml_theory_again.proofs.Declaring.{none-some, AllNames, AllAttributes, declares-names}
use Rattle.sgml_theory_again.proofs.Found.{found-again}
use Rattle.sgml_theory_again.proofs.Saying.{IsSaid, is_early, IsPlaced, spelled-said, spelled-placed}
use Rattle.sgml_theory_again.proofs.Instance.{spelt, same-type}

-- A NAME AS IT IS DECLARED
general : (s : Syntax) (n : Name) → is_name_of s.names n ≡ true → is_long s n ≡ false → IsGeneralName s (general_name s n)
general s n e short = record {
  is_name = cased-name s.general_fold s.names n e;
  folded = cased-once s.general_fold n;
  short = ap (nat_lt s.quantities.namelen) (cased-long s.general_fold n) ∙ short;
}

of-entity : (s : Syntax) (n : Name) → is_name_of s.names n ≡ true → is_long s n ≡ false → IsEntityName s (entity_name s n)
of-entity s n e short = record {
  is_name = cased-name s.entity_fold s.names n e;
  folded = cased-once s.entity_fold n;
  short = ap (nat_lt s.quantities.namelen) (cased-long s.entity_fold n) ∙ short;
}

neither : (a b : Bool) → (a || b) ≡ false → (a ≡ false) × (b ≡ false)
neither true b e = true-false e
neither false b e = (refl, e)

member-by : (s : Syntax) (m n : Name) (t rest : Bool) → is_name_of s.names m ≡ true → is_long s m ≡ false → (rest ≡ true → IsGeneralName s n) → bytes_eq n (general_name s m) ≡ t
    → (t || rest) ≡ true → IsGeneralName s n
member-by s m n true rest e short again h k = subst (IsGeneralName s) (sym ((bytes_eq-Decides n (general_name s m)).0 h)) (general s m e short)
member-by s m n false rest e short again h k = again k

member : (s : Syntax) (ns : List Name) (n : Name) → AllNames s.names ns → list_any (is_long s) ns ≡ false → is_in n (general_names s ns) ≡ true → IsGeneralName s n
member s [] n all short e = true-false (sym e)
member s (m ∷ ns) n all short e =
    let p = both (is_name_of s.names m) (list_all (is_name_of s.names) ns) all in
    let q = neither (is_long s m) (list_any (is_long s) ns) short in
    member-by s m n (bytes_eq n (general_name s m)) (is_in n (general_names s ns)) p.0 q.0 (member s ns n p.1 q.1) refl e

-- A DECLARATION that holds
none-of : (a : Bool) (r : Reason) (rest : Option Reason) → (if a then Some r else rest) ≡ None → a ≡ false
none-of true r rest e = absurd (cc)
none-of false r rest e = refl

first-none : (a b : Option Reason) → option_or a b ≡ None → a ≡ None
first-none None b e = refl
first-none (Some r) b e = e

types-short : (s : Syntax) (ds : List ElementDeclaration) (x : ElementDeclaration) → first_reason s ds x ≡ None → list_any (is_long s) x.names ≡ false
types-short s ds x e =
    (neither (list_any (is_long s) x.names) (is_long_content s x.body.content || (list_any (is_long s) x.body.excluded || list_any (is_long s) x.body.included))
    (none-of (has_long s x) reason.NameLength (reason_of s ds (folded s x)) e)).0

entity-short : (s : Syntax) (lexemes : List Lexeme) (x : EntityDeclaration) → entity_reason s lexemes x ≡ None → is_long s x.name ≡ false
entity-short s lexemes x e =
    (neither (is_long s x.name) (has_long_notation s x.body)
    (none-of (is_long s x.name || has_long_notation s x.body) reason.NameLength (if has_long_literal s lexemes then Some reason.LiteralLimit else None) e)).0

same-syntax : (base : Text) (d : Doctype) (says : Declaration) → (with_declared base d says).syntax ≡ d.syntax
same-syntax base d (form.Element x) = refl
same-syntax base d (form.Attlist x) = refl
same-syntax base d (form.Entity x) = refl
same-syntax base d (form.Notation x) = refl
same-syntax base d (form.Shortref x) = refl
same-syntax base d (form.Usemap x) = refl
same-syntax base d (form.Doctype x) = refl

-- WHAT HOLDS of a document type
abbrev ListsNamed : Syntax → List AttributeList → Type 0
ListsNamed s ls = (i j : ℕ) (l : AttributeList) (x : Definition) → slice_get ls i ≡ Some l → slice_get l.definitions j ≡ Some x → IsGeneralName s x.name

record Named (d : Doctype) : Type 0 where
  types_are : (n : Name) → is_declared d n ≡ true → IsGeneralName d.syntax n
  entities_are : (i : ℕ) (e : Entity) → slice_get d.entities i ≡ Some e → IsEntityName d.syntax e.name
  lists_are : ListsNamed d.syntax d.lists

some-if : {A : Type 0} (t : Bool) (x : A) → is_some (if t then Some x else None) ≡ true → t ≡ true
some-if true x e = refl
some-if false x e = e

new-type : (d : Doctype) (lexemes : List Lexeme) (says : Declaration) (base : Text) (n : Name) → IsSaid d (Declare lexemes says base) → is_some (type_said d.syntax n says) ≡ true → IsGeneralName d.syntax n
new-type d lexemes (form.Element x) base n said e =
    member d.syntax x.names n (declares-names d.syntax.names lexemes (form.Element x) said.0 said.1)
    (types-short d.syntax d.elements x (first-none (declared_reason d lexemes (form.Element x)) (ambiguity d (form.Element x)) said.2))
    (some-if (is_in n (general_names d.syntax x.names)) _ e)
new-type d lexemes (form.Attlist x) base n said e = true-false (sym e)
new-type d lexemes (form.Entity x) base n said e = true-false (sym e)
new-type d lexemes (form.Notation x) base n said e = true-false (sym e)
new-type d lexemes (form.Shortref x) base n said e = true-false (sym e)
new-type d lexemes (form.Usemap x) base n said e = true-false (sym e)
new-type d lexemes (form.Doctype x) base n said e = true-false (sym e)

either-type : (o p : Option ElementType) {P : Type 0} → is_some (option_or o p) ≡ true → (is_some o ≡ true → P) → (is_some p ≡ true → P) → P
either-type None p e f g = g e
either-type (Some t) p e f g = f refl

types-after : (d : Doctype) (lexemes : List Lexeme) (says : Declaration) (base : Text) (n : Name) → Named d → IsSaid d (Declare lexemes says base)
    → is_declared (with_declared base d says) n ≡ true → IsGeneralName (with_declared base d says).syntax n
types-after d lexemes says base n h said e =
    subst (λ (s : Syntax). IsGeneralName s n) (sym (same-syntax base d says))
    (either-type (element_type d n) (type_said d.syntax n says) (sym (ap is_some (first-type d base says n)) ∙ e)
    (h.types_are n) (new-type d lexemes says base n said))

one-some : {A : Type 0} (x y : A) → Some x ≡ Some y → x ≡ y
one-some x y e = cc

added : {A : Type 0} (P : A → Type 0) (es : List A) (x : A) → ((i : ℕ) (e : A) → slice_get es i ≡ Some e → P e) → P x
    → (i : ℕ) (e : A) → slice_get (es ++ x ∷ []) i ≡ Some e → P e
added P [] x f g zero e h = subst P (one-some x e h) g
added P [] x f g (suc i) e h = none-some e h
added P (y ∷ ys) x f g zero e h = f zero e h
added P (y ∷ ys) x f g (suc i) e h = added P ys x (λ j. f (suc j)) g i e h

with-one : (P : Entity → Type 0) (es : List Entity) (x : Entity) (t : Bool) → ((i : ℕ) (e : Entity) → slice_get es i ≡ Some e → P e) → P x
    → (i : ℕ) (e : Entity) → slice_get (if t then es else es ++ x ∷ []) i ≡ Some e → P e
with-one P es x true f g = f
with-one P es x false f g = added P es x f g

entities-after : (d : Doctype) (lexemes : List Lexeme) (says : Declaration) (base : Text) → Named d → IsSaid d (Declare lexemes says base)
    → (i : ℕ) (e : Entity) → slice_get (with_declared base d says).entities i ≡ Some e → IsEntityName (with_declared base d says).syntax e.name
entities-after d lexemes (form.Entity x) base h said =
    let new = entity_in d.syntax base x in
    with-one (λ (e : Entity). IsEntityName d.syntax e.name) d.entities new (is_some (number_of d.entities new.space new.name)) h.entities_are
    (of-entity d.syntax x.name (declares-names d.syntax.names lexemes (form.Entity x) said.0 said.1)
    (entity-short d.syntax lexemes x (first-none (declared_reason d lexemes (form.Entity x)) (ambiguity d (form.Entity x)) said.2)))
entities-after d lexemes (form.Element x) base h said = h.entities_are
entities-after d lexemes (form.Attlist x) base h said = h.entities_are
entities-after d lexemes (form.Notation x) base h said = h.entities_are
entities-after d lexemes (form.Shortref x) base h said = h.entities_are
entities-after d lexemes (form.Usemap x) base h said = h.entities_are
entities-after d lexemes (form.Doctype x) base h said = h.entities_are

-- the attributes of a list
none-long : (p : Definition → Bool) (xs : List Definition) (j : ℕ) (x : Definition) → list_any p xs ≡ false → slice_get xs j ≡ Some x → p x ≡ false
none-long p [] j x h e = none-some x e
none-long p (y ∷ ys) zero x h e = ap p (sym (one-some y x e)) ∙ (neither (p y) (list_any p ys) h).0
none-long p (y ∷ ys) (suc j) x h e = none-long p ys j x (neither (p y) (list_any p ys) h).1 e

form-at : (s : Syntax) (as' : List AttributeForm) (j : ℕ) (x : Definition) → AllAttributes s.names as' → slice_get (map (definition_in s) as') j ≡ Some x
    → (a : AttributeForm) × (is_name_of s.names a.name ≡ true) × (definition_in s a ≡ x)
form-at s [] j x h e = none-some x e
form-at s (a ∷ as') zero x h e =
    (a, (both (is_name_of s.names a.name) (list_all (λ (y : AttributeForm). is_name_of s.names y.name) as') h).0, one-some (definition_in s a) x e)
form-at s (a ∷ as') (suc j) x h e = form-at s as' j x (both (is_name_of s.names a.name) (list_all (λ (y : AttributeForm). is_name_of s.names y.name) as') h).1 e

list-short : (s : Syntax) (ls : List AttributeList) (l : AttributeList) → attlists.reason s ls l ≡ None → list_any (attlists.has_long_name s) l.definitions ≡ false
list-short s ls l e =
    let p = neither (list_any (is_long s) l.names || list_any (attlists.has_long_name s) l.definitions) (list_any attlists.is_too_long (attlists.refusals s l.definitions))
    (none-of (attlists.passes_namelen s l) reason.NameLength (first_row (drop 1 (attlists.rows s ls l))) e) in
    (neither (list_any (is_long s) l.names) (list_any (attlists.has_long_name s) l.definitions) p.0).1

new-list : (d : Doctype) (lexemes : List Lexeme) (x : AttlistDeclaration) (base : Text) → IsSaid d (Declare lexemes (form.Attlist x) base)
    → (j : ℕ) (y : Definition) → slice_get (list_in d.syntax x).definitions j ≡ Some y → IsGeneralName d.syntax y.name
new-list d lexemes x base said j y e =
    let a = form-at d.syntax x.attributes j y (declares-names d.syntax.names lexemes (form.Attlist x) said.0 said.1) e in
    let short = none-long (attlists.has_long_name d.syntax) (list_in d.syntax x).definitions j y
    (list-short d.syntax d.lists (list_in d.syntax x) (first-none (declared_reason d lexemes (form.Attlist x)) (ambiguity d (form.Attlist x)) said.2)) e in
    let is : general_name d.syntax a.0.name ≡ y.name = ap (λ (z : Definition). z.name) a.2 in
    let name : is_name_of d.syntax.names y.name ≡ true =
    subst (λ n. is_name_of d.syntax.names n ≡ true) is (cased-name d.syntax.general_fold d.syntax.names a.0.name a.1) in
    let folded : general_name d.syntax y.name ≡ y.name = subst (λ n. general_name d.syntax n ≡ n) is (cased-once d.syntax.general_fold a.0.name) in
    record { is_name = name; folded = folded; short = (neither (is_long d.syntax y.name) (list_any (is_long d.syntax) (group_of y.declared)) short).0 }

lists-after : (d : Doctype) (lexemes : List Lexeme) (says : Declaration) (base : Text) → Named d → IsSaid d (Declare lexemes says base)
    → ListsNamed (with_declared base d says).syntax (with_declared base d says).lists
lists-after d lexemes (form.Attlist x) base h said = λ i j l y e f.
    added (λ (k : AttributeList). (j : ℕ) (y : Definition) → slice_get k.definitions j ≡ Some y → IsGeneralName d.syntax y.name) d.lists (list_in d.syntax x)
    (λ i k g j y. h.lists_are i j k y g) (new-list d lexemes x base said) i l e j y f
lists-after d lexemes (form.Element x) base h said = h.lists_are
lists-after d lexemes (form.Entity x) base h said = h.lists_are
lists-after d lexemes (form.Notation x) base h said = h.lists_are
lists-after d lexemes (form.Shortref x) base h said = h.lists_are
lists-after d lexemes (form.Usemap x) base h said = h.lists_are
lists-after d lexemes (form.Doctype x) base h said = h.lists_are

declared-named : (d : Doctype) (lexemes : List Lexeme) (says : Declaration) (base : Text) → Named d → IsSaid d (Declare lexemes says base) → Named (with_declared base d says)
declared-named d lexemes says base h said =
    record {
      types_are = λ n e. types-after d lexemes says base n h said e;
      entities_are = entities-after d lexemes says base h said;
      lists_are = lists-after d lexemes says base h said;
    }

-- nothing was declared
abbrev Clear : Doctype → Type 0
Clear d = (d.elements ≡ []) × (d.entities ≡ []) × (d.lists ≡ [])

none-declared : (d : Doctype) (n : Name) → d.elements ≡ [] → is_declared d n ≡ false
unfolding element_type
none-declared d n e = ap (λ es. is_some (option_and_then (λ i. slice_get (elements.types es) i) (elements.number_of es n))) e

clear-named : (d : Doctype) → Clear d → Named d
clear-named d c = record {
  types_are = λ n e. true-false (sym e ∙ none-declared d n c.0);
  entities_are = λ i e h. none-some e (sym (ap (λ es. slice_get es i) c.1) ∙ h);
  lists_are = λ i j l x h e. none-some l (sym (ap (λ (ls : List AttributeList). slice_get ls i) c.2) ∙ h);
}

-- AFTER A PIECE
abbrev IsClear : Doctype → Kind → Type 0
IsClear d (Sgml syntax) = Clear d
IsClear d k = Unit {0}

record Holds (d : Doctype) (g : Stage) : Type 0 where
  named : Named d
  early : is_early g ≡ true → Clear d

begun-late : (g : Stage) → is_early (stage_begun g) ≡ true → ⊥
begun-late BeforeSyntax h = true-false (sym h)
begun-late AtBeginning h = true-false (sym h)
begun-late BeforeDoctype h = true-false (sym h)
begun-late InSubset h = true-false (sym h)
begun-late AfterSubset h = true-false (sym h)

head-late : (subset : Bool) → is_early (stage_of_head subset) ≡ true → ⊥
head-late true h = true-false (sym h)
head-late false h = true-false (sym h)

with-name : (d : Doctype) (name : Option Name) → Named d → Named (record d { name = name })
unfolding element_type
with-name d name h = record { types_are = h.types_are; entities_are = h.entities_are; lists_are = h.lists_are }

step : (d : Doctype) (g : Stage) (k : Kind) → Holds d g → IsSaid d k → IsClear d k → Holds (declares k d) (stage_after k g)
unfolding declares stage_after
step d g (Sgml syntax) h said clear = record { named = clear-named (record d { syntax = syntax }) clear; early = λ e. clear }
step d g (Sep byte) h said clear = h
step d g (Head head base) h said clear = record { named = with-name d _ h.named; early = λ e. absurd (head-late head.subset e) }
step d g (Declare lexemes says base) h said clear =
    record { named = declared-named d lexemes says base h.named said; early = λ e. absurd (begun-late g e) }
step d g (SubsetEnd reads) h said clear = record { named = h.named; early = λ e. true-false (sym e) }
step d g k h said clear = record { named = h.named; early = λ e. absurd (begun-late g e) }

-- AFTER WHAT WAS READ
abbrev After : History → Type 0
After h = Holds (types h) (stage h)

after-piece : (p : Piece) (h : History) → After h → IsSaid (types h) p.kind → IsClear (types h) p.kind → After (p ∷ h)
unfolding types stage
after-piece p h a said clear = step (types h) (stage h) p.kind a said clear

omitted-after : (h : History) (o : Piece) (x : Kind) → MayStand (context h) o x → After h → After (o ∷ h)
omitted-after h o x (inl m) a =
    after-piece o h a (subst (λ (p : Piece). IsSaid (types h) p.kind) (sym m.1) tt) (subst (λ (p : Piece). IsClear (types h) p.kind) (sym m.1) tt)
omitted-after h o x (inr m) a =
    after-piece o h a (subst (λ (p : Piece). IsSaid (types h) p.kind) (sym m.1) tt) (subst (λ (p : Piece). IsClear (types h) p.kind) (sym m.1) tt)

run-after : (h : History) (x : Kind) (os : List Piece) → LongestRun h x os → After h → After (after_run h os)
run-after h x [] r a = a
run-after h x (o ∷ os) r a = run-after (o ∷ h) x os r.1 (omitted-after h o x r.0 a)

said-noted : (s : State) (c : Context) (d : Doctype) (k : Kind) → IsSaid d k → IsSaid d (judged c (kind_noted s k))
unfolding kind_noted
said-noted s c d (Start n ss how proper at_once) h = tt
said-noted s c d (Declare lexemes says base) h = h
said-noted s c d (SubsetEnd reads) h = tt
said-noted s c d (Re live) h = tt
said-noted s c d (ShortRef string meaning) h = tt
said-noted s c d k h = tt

clear-noted : (s : State) (c : Context) (g : Stage) (d : Doctype) (k : Kind) → IsPlaced g k → (is_early g ≡ true → Clear d) → IsClear d (judged c (kind_noted s k))
unfolding kind_noted
clear-noted s c g d (Sgml syntax) h early = early h
clear-noted s c g d (Start n ss how proper at_once) h early = tt
clear-noted s c g d (SubsetEnd reads) h early = tt
clear-noted s c g d (Re live) h early = tt
clear-noted s c g d (ShortRef string meaning) h early = tt
clear-noted s c g d k h early = tt

types-of : (h : History) → (state h).context.doctype ≡ types h
unfolding state context
types-of h = refl

stage-of : (h : History) → (state h).stage ≡ stage h
unfolding state
stage-of h = refl

move-after : (I : Input) (h : History) (m : Move) → Reads forms I h m → After h → After (moved_on h m)
move-after I h m r a =
    let s = spelt I h m r in
    let old = after_run h m.omitted in
    let same : types old ≡ types h = sym (types-of old) ∙ same-type h (kind_noted (state h) s.p.kind) m.omitted s.longest ∙ types-of h in
    let said : IsSaid (types old) s.p.kind =
    subst (λ (d : Doctype). IsSaid d s.p.kind) (types-of h ∙ sym same) (spelled-said I.outside (state h) (standing I h) s.p s.is) in
    let placed : IsPlaced (stage h) s.p.kind = subst (λ (g : Stage). IsPlaced g s.p.kind) (stage-of h) (spelled-placed I.outside (state h) (standing I h) s.p s.is) in
    after-piece m.visible old (run-after h (kind_noted (state h) s.p.kind) m.omitted s.longest a)
    (subst (IsSaid (types old)) (sym s.visible) (said-noted (state h) (context old) (types old) s.p.kind said))
    (subst (IsClear (types old)) (sym s.visible)
    (clear-noted (state h) (context old) (stage h) (types old) s.p.kind placed (λ e. subst Clear (sym same) (a.early e))))

moves-after : (I : Input) (h : History) (ms : List Move) → ReadOn forms I h ms → After h → After (after_moves h ms)
moves-after I h [] r a = a
moves-after I h (m ∷ ms) r a = moves-after I (moved_on h m) ms r.1 (move-after I h m r.0 a)

clear-opening : (outside : Outside) → Clear (types (opening outside))
unfolding types declares
clear-opening outside = (refl, refl, refl)

at-opening : (outside : Outside) → After (opening outside)
at-opening outside = record { named = clear-named (types (opening outside)) (clear-opening outside); early = λ e. clear-opening outside }

numbered-is : (es : List Entity) (P : Entity → Type 0) → ((i : ℕ) (e : Entity) → slice_get es i ≡ Some e → P e) → (number : ℕ) (e : Entity) (t : Bool)
    → (if t then None else slice_get es (number - 2)) ≡ Some e → P e
numbered-is es P f number e true h = none-some e h
numbered-is es P f number e false h = f (number - 2) e h

definitions-in : (d : Doctype) → ListsNamed d.syntax d.lists → (k : ℕ) (o : Option AttributeList) → slice_get d.lists k ≡ o → (i : ℕ) (x : Definition)
    → slice_get (definitions_in o) i ≡ Some x → IsGeneralName d.syntax x.name
definitions-in d h k None e i x at = none-some x at
definitions-in d h k (Some l) e i x at = h k i l x e at

definitions-at : (d : Doctype) → ListsNamed d.syntax d.lists → (o : Option ℕ) (i : ℕ) (x : Definition) → slice_get (definitions_at d.lists o) i ≡ Some x → IsGeneralName d.syntax x.name
definitions-at d h None i x at = none-some x at
definitions-at d h (Some k) i x at = definitions-in d h k (slice_get d.lists k) refl i x at

has-names : (d : Doctype) → Named d → HasNames d
unfolding entity attributes
has-names d h = record {
  types = h.types_are;
  definitions = λ n i x at. definitions-at d h.lists_are (list_of d.lists n) i x at;
  entities = λ number e at. numbered-is d.entities (λ (x : Entity). IsEntityName d.syntax x.name) h.entities_are number e (nat_lt number 2) at;
}

pub read-has-names : (I : Input) (ms : List Move) → ReadsFromStart forms I ms → HasNames (types (read_by I ms))
read-has-names I ms r = has-names (types (read_by I ms)) (moves-after I (opening I.outside) ms r (at-opening I.outside)).named

-- AN ENTITY that is referred to
some-body : (o : Option Entity) (b : Body) → option_map (λ (e : Entity). e.body) o ≡ Some b → (e : Entity) × (o ≡ Some e)
some-body None b h = none-some b h
some-body (Some e) b h = (e, refl)

referred-has-name : (d : Doctype) (number : ℕ) (b : Body) → HasNames d → IsReferred d number b → IsEntityName d.syntax (name_of_entity d number)
referred-has-name d number b h r =
    let e = some-body (entity d number) b r.body_is in
    subst (IsEntityName d.syntax) (sym (ap (λ o. unwrap_or (option_map (λ (x : Entity). x.name) o) []) e.1)) (h.entities number e.0 e.1)

pub referred-is-entity : (d : Doctype) (number : ℕ) (b : Body) → HasNames d → IsReferred d number b → IsEntity d number b
referred-is-entity d number b h r = record { name = referred-has-name d number b h r; numbered = found-again d number b r; body = r.body_is }
