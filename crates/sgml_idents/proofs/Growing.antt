-- What is noted of one more event.
use Rattle.std.proofs.Common.{◌≡◌, ℕ, Bool, true, false, not, ◌||◌, cond, Option, Some, None, List, [], ◌∷◌, ◌++◌, map, refl, sym, ap, subst, ◌∙◌, append_assoc, append-nil, if◌then◌else◌, is_some, length, drop, get_or, zero, suc, ◌<◌, ◌≤◌, ◌+◌, take, arith}
use Rattle.std.proofs.lemmas.List.{map-append, drop_all, take_more, take_all}
use Rattle.std.specs.Prelude.{Result, Ok, Err, OnOk}
use Rattle.sgml_idents.specs.declared.idents.IdError.{IdError}
use Rattle.sgml_idents.specs.declared.idents.IdError.TheVariants as errors
use Rattle.sgml_idents.specs.declared.idents.Reference.{Reference}
use Rattle.sgml_text.specs.declared.place.Place.{Place}
use Rattle.sgml_names.specs.Index.{names_of}
use Rattle.std.specs.Str.{bytes_eq}
use Rattle.std.specs.List.{list_any}
use Rattle.sgml_names.specs.Index.{found}
use Rattle.sgml_names.specs.Lists.{has}
use Rattle.sgml_names.proofs.Standing.{same_name}
use Rattle.sgml_names.proofs.Repeating.{has-append, any_has, found_has}
use Rattle.sgml_dtd.specs.Doctypes.{Doctype}
use Rattle.sgml_said.specs.theory_reading.Names.{Name}
use Rattle.sgml_said.specs.theory_reading.Types.{is_in}
use Rattle.sgml_said.specs.theory_reading.Reads.{Attribute}
use Rattle.sgml_said.specs.theory_reading.Identifiers.{ids_of, references_of, ids_by, references_by, tokens_of, some_in, all_ids}
use Rattle.sgml_events.specs.declared.event.Event.{Event}
use Rattle.sgml_events.specs.declared.event.Event.TheVariants as event
use Rattle.sgml_attr.specs.declared.definition.Definition.{Definition}
use Rattle.sgml_attr.specs.declared.value.AttrValue.{AttrValue}
use Rattle.sgml_said.specs.Told.{attributes_with, definitions_at, start_attributes, attributes_of}
use Rattle.sgml_idents.specs.declared.idents.Idents.{Idents}
use Rattle.sgml_idents.specs.Noted.{Start, Idref, start_of, starts_of, ids_in, idrefs_at, noted, Noted, dangling_at}
use Rattle.sgml_idents.specs.Judged.{IsJudged, IsJudgedUnless, HasNoted, HasMore, HasReferences, HasStart, idrefs_kept}

pub starts_more : (d : Doctype) (es : List Event) (e : Event) → starts_of d (es ++ e ∷ []) ≡ starts_of d es ++ start_of d e
starts_more d [] e = append-nil (start_of d e)
starts_more d (x ∷ es) e = ap (λ v. start_of d x ++ v) (starts_more d es e) ∙ sym (append_assoc (start_of d x) (starts_of d es) (start_of d e))

ids_append : (xs ys : List (List Attribute)) → all_ids (xs ++ ys) ≡ all_ids xs ++ all_ids ys
ids_append [] ys = refl
ids_append (x ∷ xs) ys = ap (λ v. ids_of x ++ v) (ids_append xs ys) ∙ sym (append_assoc (ids_of x) (all_ids xs) (all_ids ys))

ids_more : (ss : List Start) (s : Start) → ids_in (ss ++ s ∷ []) ≡ ids_in ss ++ ids_of s.attributes
ids_more ss s =
    ap all_ids (map-append (λ (x : Start). x.attributes) ss (s ∷ []))
    ∙ ids_append (map (λ (x : Start). x.attributes) ss) (s.attributes ∷ [])
    ∙ ap (λ v. ids_in ss ++ v) (append-nil (ids_of s.attributes))

-- membership alone counts
some_here : (b : Bool) (n : Name) (ns xs ys : List Name) → is_in n xs ≡ b → is_in n ys ≡ b → some_in ns xs ≡ some_in ns ys → some_in (n ∷ ns) xs ≡ some_in (n ∷ ns) ys
some_here true n ns xs ys e f again = rw e (rw f refl)
some_here false n ns xs ys e f again = rw e (rw f again)

some_same : (ns xs ys : List Name) → ((name : Name) → is_in name xs ≡ is_in name ys) → some_in ns xs ≡ some_in ns ys
some_same [] xs ys same = refl
some_same (n ∷ ns) xs ys same = some_here (is_in n ys) n ns xs ys (same n) refl (some_same ns xs ys same)

-- one start more
abbrev repeated_more : Option Place → Bool → Place → Option Place
repeated_more (Some first) b place = Some first
repeated_more None b place = if b then Some place else None

abbrev idrefs_more : Option Place → Bool → List Idref → List Idref → List Idref
idrefs_more (Some first) b rs ns = rs
idrefs_more None b rs ns = if b then rs else (rs ++ ns)

idrefs_behind : (x : Option Place) (b : Bool) (front rs ns : List Idref) → front ++ idrefs_more x b rs ns ≡ idrefs_more x b (front ++ rs) ns
idrefs_behind (Some first) b front rs ns = refl
idrefs_behind None true front rs ns = refl
idrefs_behind None false front rs ns = sym (append_assoc front rs ns)

record IsMore (earlier : List Name) (ss : List Start) (s : Start) : Type 0 where
  pub repeated : (noted earlier (ss ++ s ∷ [])).repeated ≡ repeated_more (noted earlier ss).repeated (some_in (ids_of s.attributes) (earlier ++ ids_in ss)) s.place
  pub idrefs : (noted earlier (ss ++ s ∷ [])).idrefs ≡ idrefs_more (noted earlier ss).repeated (some_in (ids_of s.attributes) (earlier ++ ids_in ss)) (noted earlier ss).idrefs (idrefs_at s.place (references_of s.attributes))

none_more : (b : Bool) (earlier : List Name) (s : Start) → some_in (ids_of s.attributes) earlier ≡ b → ((noted earlier (s ∷ [])).repeated ≡ repeated_more None b s.place) × ((noted earlier (s ∷ [])).idrefs ≡ idrefs_more None b [] (idrefs_at s.place (references_of s.attributes)))
none_more true earlier s e = (rw e refl, rw e refl)
none_more false earlier s e = (rw e refl, rw e (append-nil _))

more_none : (earlier : List Name) (s : Start) → IsMore earlier [] s
more_none earlier s =
    let b = some_in (ids_of s.attributes) earlier in
    let same : b ≡ some_in (ids_of s.attributes) (earlier ++ ids_in []) = ap (some_in (ids_of s.attributes)) (sym (append-nil earlier)) in
    let x = none_more b earlier s refl in
    record {
      repeated = x.0 ∙ ap (λ v. repeated_more None v s.place) same;
      idrefs = x.1 ∙ ap (λ v. idrefs_more None v [] (idrefs_at s.place (references_of s.attributes))) same;
    }

-- behind a start that repeats an ID, and behind one that doesn't
stopped_is : (earlier : List Name) (t : Start) (ss : List Start) → some_in (ids_of t.attributes) earlier ≡ true → noted earlier (t ∷ ss) ≡ record { repeated = Some t.place; idrefs = [] }
stopped_is earlier t ss e = rw e refl

goes_on_is : (earlier : List Name) (t : Start) (ss : List Start) → some_in (ids_of t.attributes) earlier ≡ false → noted earlier (t ∷ ss) ≡ record { repeated = (noted (earlier ++ ids_of t.attributes) ss).repeated; idrefs = idrefs_at t.place (references_of t.attributes) ++ (noted (earlier ++ ids_of t.attributes) ss).idrefs }
goes_on_is earlier t ss e = rw e refl

more_here : (b : Bool) (earlier : List Name) (t : Start) (ss : List Start) (s : Start) → some_in (ids_of t.attributes) earlier ≡ b → IsMore (earlier ++ ids_of t.attributes) ss s → IsMore earlier (t ∷ ss) s
more_here true earlier t ss s e again =
    let c = some_in (ids_of s.attributes) (earlier ++ ids_in (t ∷ ss)) in
    let one = stopped_is earlier t ss e in
    let two = stopped_is earlier t (ss ++ s ∷ []) e in
    record {
      repeated = ap (λ (x : Noted). x.repeated) two ∙ ap (λ (x : Noted). repeated_more x.repeated c s.place) (sym one);
      idrefs = ap (λ (x : Noted). x.idrefs) two ∙ ap (λ (x : Noted). idrefs_more x.repeated c x.idrefs (idrefs_at s.place (references_of s.attributes))) (sym one);
    }
more_here false earlier t ss s e again =
    let x = noted (earlier ++ ids_of t.attributes) ss in
    let refs = idrefs_at s.place (references_of s.attributes) in
    let c = some_in (ids_of s.attributes) (earlier ++ ids_in (t ∷ ss)) in
    let parts : some_in (ids_of s.attributes) ((earlier ++ ids_of t.attributes) ++ ids_in ss) ≡ c = ap (some_in (ids_of s.attributes)) (append_assoc earlier (ids_of t.attributes) (ids_in ss)) in
    let one = goes_on_is earlier t ss e in
    let two = goes_on_is earlier t (ss ++ s ∷ []) e in
    record {
      repeated =
          ap (λ (y : Noted). y.repeated) two ∙ again.repeated ∙ ap (λ v. repeated_more x.repeated v s.place) parts
          ∙ ap (λ (y : Noted). repeated_more y.repeated c s.place) (sym one);
      idrefs =
          ap (λ (y : Noted). y.idrefs) two
          ∙ ap (λ v. idrefs_at t.place (references_of t.attributes) ++ v) (again.idrefs ∙ ap (λ v. idrefs_more x.repeated v x.idrefs refs) parts)
          ∙ idrefs_behind x.repeated c (idrefs_at t.place (references_of t.attributes)) x.idrefs refs
          ∙ ap (λ (y : Noted). idrefs_more y.repeated c y.idrefs refs) (sym one);
    }

is_more : (earlier : List Name) (ss : List Start) (s : Start) → IsMore earlier ss s
is_more earlier [] s = more_none earlier s
is_more earlier (t ∷ ss) s = more_here (some_in (ids_of t.attributes) earlier) earlier t ss s refl (is_more (earlier ++ ids_of t.attributes) ss s)

-- what a start adds to what was kept
record KeptMore (old : Idents) (place : Place) (attributes : List Attribute) (new : Idents) : Type 0 where
  pub repeated : new.repeated ≡ repeated_more old.repeated (some_in (ids_of attributes) (names_of old.ids)) place
  pub idrefs : idrefs_kept new.references.items ≡ idrefs_more old.repeated (some_in (ids_of attributes) (names_of old.ids)) (idrefs_kept old.references.items) (idrefs_at place (references_of attributes))

kept_by : (x : Option Place) (old : Idents) (place : Place) (attributes : List Attribute) (new : Idents) → old.repeated ≡ x → HasMore old place attributes new x → KeptMore old place attributes new
kept_by (Some first) old place attributes new e h = record {
  repeated = h.0 ∙ ap (λ v. repeated_more v (some_in (ids_of attributes) (names_of old.ids)) place) (sym e);
  idrefs = h.1 ∙ ap (λ v. idrefs_more v (some_in (ids_of attributes) (names_of old.ids)) (idrefs_kept old.references.items) (idrefs_at place (references_of attributes))) (sym e);
}
kept_by None old place attributes new e h = record {
  repeated = h.0 ∙ ap (λ v. repeated_more v (some_in (ids_of attributes) (names_of old.ids)) place) (sym e);
  idrefs = h.1 ∙ ap (λ v. idrefs_more v (some_in (ids_of attributes) (names_of old.ids)) (idrefs_kept old.references.items) (idrefs_at place (references_of attributes))) (sym e);
}

noted_start : (old : Idents) (new : Idents) (d : Doctype) (es : List Event) (e : Event) (s : Start) → start_of d e ≡ s ∷ [] → HasStart old s.place s.attributes new → HasNoted old d es → HasNoted new d (es ++ e ∷ [])
noted_start old new d es e s is h was =
    let ss = starts_of d es in
    let more : starts_of d (es ++ e ∷ []) ≡ ss ++ s ∷ [] = starts_more d es e ∙ ap (λ v. ss ++ v) is in
    let kept = kept_by old.repeated old s.place s.attributes new refl h.references in
    let same : some_in (ids_of s.attributes) (names_of old.ids) ≡ some_in (ids_of s.attributes) (ids_in ss) = some_same (ids_of s.attributes) (names_of old.ids) (ids_in ss) was.ids in
    let grown = is_more [] ss s in
    record {
      ids = λ name.
          h.ids name ∙ ap (λ v. v || is_in name (ids_of s.attributes)) (was.ids name)
          ∙ sym (has-append (ids_in ss) (ids_of s.attributes) name)
          ∙ ap (is_in name) (sym (ids_more ss s))
          ∙ ap (λ v. is_in name (ids_in v)) (sym more);
      repeated =
          kept.repeated ∙ ap (λ v. repeated_more old.repeated v s.place) same
          ∙ ap (λ v. repeated_more v (some_in (ids_of s.attributes) (ids_in ss)) s.place) was.repeated
          ∙ sym grown.repeated
          ∙ ap (λ v. (noted [] v).repeated) (sym more);
      idrefs =
          kept.idrefs ∙ ap (λ v. idrefs_more old.repeated v (idrefs_kept old.references.items) (idrefs_at s.place (references_of s.attributes))) same
          ∙ ap (λ v. idrefs_more v (some_in (ids_of s.attributes) (ids_in ss)) (idrefs_kept old.references.items) (idrefs_at s.place (references_of s.attributes))) was.repeated
          ∙ ap (λ v. idrefs_more (noted [] ss).repeated (some_in (ids_of s.attributes) (ids_in ss)) v (idrefs_at s.place (references_of s.attributes))) was.idrefs
          ∙ sym grown.idrefs
          ∙ ap (λ v. (noted [] v).idrefs) (sym more);
    }

pub start_noted : (old new : Idents) (d : Doctype) (es : List Event) (e : Event) (place : Place) (attributes : List Attribute) → start_of d e ≡ record { place = place; attributes = attributes } ∷ [] → HasStart old place attributes new → HasNoted old d es → HasNoted new d (es ++ e ∷ [])
start_noted old new d es e place attributes is h was = noted_start old new d es e (record { place = place; attributes = attributes }) is h was

pub other_noted : (old : Idents) (d : Doctype) (es : List Event) (e : Event) → start_of d e ≡ [] → HasNoted old d es → HasNoted old d (es ++ e ∷ [])
other_noted old d es e is was =
    let same : starts_of d es ≡ starts_of d (es ++ e ∷ []) = sym (starts_more d es e ∙ ap (λ v. starts_of d es ++ v) is ∙ append-nil (starts_of d es)) in
    record {
      ids = λ name. was.ids name ∙ ap (λ v. is_in name (ids_in v)) same;
      repeated = was.repeated ∙ ap (λ v. (noted [] v).repeated) same;
      idrefs = was.idrefs ∙ ap (λ v. (noted [] v).idrefs) same;
    }

-- LOOPS

pub or_assoc : (a b c : Bool) → (a || (b || c)) ≡ ((a || b) || c)
or_assoc true b c = refl
or_assoc false b c = refl

some_append : (xs ys zs : List Name) → some_in (xs ++ ys) zs ≡ (some_in xs zs || some_in ys zs)
some_append [] ys zs = refl
some_append (x ∷ xs) ys zs = ap (λ v. is_in x zs || v) (some_append xs ys zs) ∙ or_assoc (is_in x zs) (some_in xs zs) (some_in ys zs)

-- a start's IDs, without those of its first attribute
pub none_here : (table : List (Name × ℕ)) (ns ms : List Name) → false ≡ list_any (λ name. is_some (found table name)) ns → some_in ms (names_of table) ≡ some_in (ns ++ ms) (names_of table)
none_here table ns ms h = sym (some_append ns ms (names_of table) ∙ ap (λ v. v || some_in ms (names_of table)) (sym (h ∙ any_has table ns)))

pub some_found : (table : List (Name × ℕ)) (ns ms : List Name) → true ≡ list_any (λ name. is_some (found table name)) ns → true ≡ some_in (ns ++ ms) (names_of table)
some_found table ns ms h = sym (some_append ns ms (names_of table) ∙ ap (λ v. v || some_in ms (names_of table)) (sym (h ∙ any_has table ns)))

there : (q name : Name) (old : List Name) → q ≡ name → has old name ≡ true → is_in q old ≡ (is_in q old || true)
there q name old p h = ap (λ v. is_in v old) p ∙ h ∙ sym (ap (λ v. v || true) (ap (λ v. is_in v old) p ∙ h))

seen_by : (a b : Bool) (q name : Name) (old : List Name) → bytes_eq q name ≡ a → has old name ≡ b → is_in q (if not b then (old ++ name ∷ []) else old) ≡ (is_in q old || bytes_eq q name)
seen_by a false q name old e f = has-append old (name ∷ []) q ∙ ap (λ v. is_in q old || v) (or_false (bytes_eq q name))
  where
    or_false : (x : Bool) → (x || false) ≡ x
    or_false true = refl
    or_false false = refl
seen_by false true q name old e f = rw e (sym (or_false (is_in q old)))
  where
    or_false : (x : Bool) → (x || false) ≡ x
    or_false true = refl
    or_false false = refl
seen_by true true q name old e f = rw e (there q name old (same_name q name e) f)

-- one name more was seen
pub see_adds : (q name : Name) (old new after : List Name) (b : Bool) → b ≡ not (has old name) → new ≡ (if b then (old ++ name ∷ []) else old) → (is_in q new || is_in q after) ≡ (is_in q old || is_in q (name ∷ after))
see_adds q name old new after b e f =
    ap (λ v. is_in q v || is_in q after) (f ∙ ap (λ (x : Bool). if x then (old ++ name ∷ []) else old) e)
    ∙ ap (λ v. v || is_in q after) (seen_by (bytes_eq q name) (has old name) q name old refl refl)
    ∙ sym (or_assoc (is_in q old) (bytes_eq q name) (is_in q after))

-- names of one attribute more were added
pub names_add : (q : Name) (old new ns ms : List Name) → is_in q new ≡ (is_in q old || is_in q ns) → (is_in q new || is_in q ms) ≡ (is_in q old || is_in q (ns ++ ms))
names_add q old new ns ms h =
    ap (λ v. v || is_in q ms) h ∙ sym (or_assoc (is_in q old) (is_in q ns) (is_in q ms)) ∙ ap (λ v. is_in q old || v) (sym (has-append ns ms q))

pub idrefs_append : (place : Place) (ns ms : List Name) → idrefs_at place (ns ++ ms) ≡ idrefs_at place ns ++ idrefs_at place ms
idrefs_append place ns ms = map-append _ ns ms

pub idrefs_add : (place : Place) (old new : List Idref) (ns ms : List Name) → new ≡ old ++ idrefs_at place ns → new ++ idrefs_at place ms ≡ old ++ idrefs_at place (ns ++ ms)
idrefs_add place old new ns ms h =
    ap (λ v. v ++ idrefs_at place ms) h ∙ append_assoc old (idrefs_at place ns) (idrefs_at place ms) ∙ ap (λ v. old ++ v) (sym (idrefs_append place ns ms))

-- membership, over one name and over more
pub in_append : (name : Name) (xs ys : List Name) → is_in name (xs ++ ys) ≡ (is_in name xs || is_in name ys)
in_append name xs ys = has-append xs ys name

-- no attribute is left
pub none_left : (as' : List Definition) → attributes_with as' [] ≡ []
none_left [] = refl
none_left (a ∷ as') = refl

pub no_values : (ds : List Definition) (vs : List AttrValue) (n : ℕ) → length vs ≤ n → attributes_with (drop n ds) (drop n vs) ≡ []
no_values ds vs n h = ap (attributes_with (drop n ds)) (drop_all n vs h) ∙ none_left (drop n ds)

pub no_definitions : (ds : List Definition) (vs : List AttrValue) (n : ℕ) → length ds ≤ n → attributes_with (drop n ds) (drop n vs) ≡ []
no_definitions ds vs n h = ap (λ (v : List Definition). attributes_with v (drop n vs)) (drop_all n ds h)

abbrev with_value : Definition → AttrValue → Attribute
with_value a v = record { attribute = a.name; declared = a.declared; value = v }

one_on : (i : ℕ) → suc (i + 1) ≡ suc i + 1
one_on i = omega arith

drop_here : {A : Type 0} (xs : List A) (i : ℕ) (x : A) → i < length xs → x ≡ get_or xs i x → drop i xs ≡ x ∷ drop (i + 1) xs
drop_here [] i x m e = absurd (omega (arith, m))
drop_here (y ∷ xs) zero x m e = ap (λ v. v ∷ xs) (sym e)
drop_here (y ∷ xs) (suc i) x m e = drop_here xs i x (omega (arith, m)) e ∙ ap (λ (n : ℕ). x ∷ drop n (y ∷ xs)) (one_on i)

-- the attributes from one on
from_next : (ds : List Definition) (vs : List AttrValue) (i : ℕ) (a : Definition) (v : AttrValue) → i < length ds → i < length vs → a ≡ get_or ds i a → v ≡ get_or vs i v → attributes_with (drop i ds) (drop i vs) ≡ with_value a v ∷ attributes_with (drop (i + 1) ds) (drop (i + 1) vs)
from_next ds vs i a v m n e f =
    ap (λ (x : List Definition). attributes_with x (drop i vs)) (drop_here ds i a m e) ∙ ap (attributes_with (a ∷ drop (i + 1) ds)) (drop_here vs i v n f)

-- LOOPS OVER ATTRIBUTES

pub found_here : (ds : List Definition) (vs : List AttrValue) (i : ℕ) (a : Definition) (v : AttrValue) (table : List (Name × ℕ)) (ns : List Name) (b whole : Bool) → i < length ds → i < length vs → a ≡ get_or ds i a → v ≡ get_or vs i v → ns ≡ ids_by (get_or ds i a).declared (tokens_of v) → b ≡ list_any (λ name. is_some (found table name)) ns → b ≡ true → some_in (ids_of (attributes_with (drop i ds) (drop i vs))) (names_of table) ≡ whole → true ≡ whole
found_here ds vs i a v table ns b whole m n e f g h k inv =
    some_found table (ids_by a.declared (tokens_of v)) (ids_of (attributes_with (drop (i + 1) ds) (drop (i + 1) vs))) (sym k ∙ h ∙ ap (list_any (λ name. is_some (found table name))) (g ∙ ap (λ (x : Definition). ids_by x.declared (tokens_of v)) (sym e)))
    ∙ ap (λ x. some_in (ids_of x) (names_of table)) (sym (from_next ds vs i a v m n e f)) ∙ inv

pub passed_here : (ds : List Definition) (vs : List AttrValue) (i : ℕ) (a : Definition) (v : AttrValue) (table : List (Name × ℕ)) (ns : List Name) (b whole : Bool) → i < length ds → i < length vs → a ≡ get_or ds i a → v ≡ get_or vs i v → ns ≡ ids_by (get_or ds i a).declared (tokens_of v) → b ≡ list_any (λ name. is_some (found table name)) ns → b ≡ false → some_in (ids_of (attributes_with (drop i ds) (drop i vs))) (names_of table) ≡ whole → some_in (ids_of (attributes_with (drop (i + 1) ds) (drop (i + 1) vs))) (names_of table) ≡ whole
passed_here ds vs i a v table ns b whole m n e f g h k inv =
    none_here table (ids_by a.declared (tokens_of v)) (ids_of (attributes_with (drop (i + 1) ds) (drop (i + 1) vs))) (sym k ∙ h ∙ ap (list_any (λ name. is_some (found table name))) (g ∙ ap (λ (x : Definition). ids_by x.declared (tokens_of v)) (sym e)))
    ∙ ap (λ x. some_in (ids_of x) (names_of table)) (sym (from_next ds vs i a v m n e f)) ∙ inv

pub added_here : (ds : List Definition) (vs : List AttrValue) (i : ℕ) (a : Definition) (v : AttrValue) (old new : List Name) (ns : List Name) (q : Name) (whole : Bool) → i < length ds → i < length vs → a ≡ get_or ds i a → v ≡ get_or vs i v → ns ≡ ids_by (get_or ds i a).declared (tokens_of v) → is_in q new ≡ (is_in q old || is_in q ns) → (is_in q old || is_in q (ids_of (attributes_with (drop i ds) (drop i vs)))) ≡ whole → (is_in q new || is_in q (ids_of (attributes_with (drop (i + 1) ds) (drop (i + 1) vs)))) ≡ whole
added_here ds vs i a v old new ns q whole m n e f g h inv =
    names_add q old new ns (ids_of (attributes_with (drop (i + 1) ds) (drop (i + 1) vs))) h
    ∙ ap (λ x. is_in q old || is_in q (x ++ ids_of (attributes_with (drop (i + 1) ds) (drop (i + 1) vs)))) (g ∙ ap (λ (x : Definition). ids_by x.declared (tokens_of v)) (sym e))
    ∙ ap (λ x. is_in q old || is_in q (ids_of x)) (sym (from_next ds vs i a v m n e f)) ∙ inv

pub referred_here : (ds : List Definition) (vs : List AttrValue) (i : ℕ) (a : Definition) (v : AttrValue) (place : Place) (old new whole : List Idref) (ns : List Name) → i < length ds → i < length vs → a ≡ get_or ds i a → v ≡ get_or vs i v → ns ≡ references_by (get_or ds i a).declared (tokens_of v) → new ≡ old ++ idrefs_at place ns → old ++ idrefs_at place (references_of (attributes_with (drop i ds) (drop i vs))) ≡ whole → new ++ idrefs_at place (references_of (attributes_with (drop (i + 1) ds) (drop (i + 1) vs))) ≡ whole
referred_here ds vs i a v place old new whole ns m n e f g h inv =
    idrefs_add place old new ns (references_of (attributes_with (drop (i + 1) ds) (drop (i + 1) vs))) h
    ∙ ap (λ x. old ++ idrefs_at place (x ++ references_of (attributes_with (drop (i + 1) ds) (drop (i + 1) vs)))) (g ∙ ap (λ (x : Definition). references_by x.declared (tokens_of v)) (sym e))
    ∙ ap (λ x. old ++ idrefs_at place (references_of x)) (sym (from_next ds vs i a v m n e f)) ∙ inv

-- one name more, of those before
pub names_here : (q name : Name) (names old new : List Name) (i : ℕ) (b : Bool) (whole : Bool) → i < length names → name ≡ get_or names i name → (item : Name) → item ≡ name → b ≡ not (has old item) → new ≡ (if b then (old ++ item ∷ []) else old) → (is_in q old || is_in q (drop i names)) ≡ whole → (is_in q new || is_in q (drop (i + 1) names)) ≡ whole
names_here q name names old new i b whole m e item same f g inv =
    see_adds q name old new (drop (i + 1) names) b (f ∙ ap (λ n. not (has old n)) same) (g ∙ ap (λ n. if b then (old ++ n ∷ []) else old) same) ∙ ap (λ x. is_in q old || is_in q x) (sym (drop_here names i name m e)) ∙ inv

pub idrefs_here : (place : Place) (name : Name) (names : List Name) (i : ℕ) (old new whole : List Idref) → i < length names → name ≡ get_or names i name → new ≡ old ++ idrefs_at place (name ∷ []) → old ++ idrefs_at place (drop i names) ≡ whole → new ++ idrefs_at place (drop (i + 1) names) ≡ whole
idrefs_here place name names i old new whole m e f inv =
    idrefs_add place old new (name ∷ []) (drop (i + 1) names) f ∙ ap (λ x. old ++ idrefs_at place x) (sym (drop_here names i name m e)) ∙ inv

-- THE LOOP OVER IDREFS
kept_one : (rs : List Reference) (i : ℕ) (r : Reference) → i < length rs → r ≡ get_or rs i r → idrefs_kept (drop i rs) ≡ record { place = r.place; name = r.name } ∷ idrefs_kept (drop (i + 1) rs)
kept_one rs i r m e = ap idrefs_kept (drop_here rs i r m e)

abbrev or_else : {A : Type 0} → Option A → Option A → Option A
or_else None y = y
or_else (Some x) y = Some x

dangling_there : (b : Bool) (ids : List Name) (place : Place) (name : Name) (rest : List Idref) (x : Option Place) → is_in name ids ≡ b → x ≡ (if b then None else Some place) → dangling_at ids (record { place = place; name = name } ∷ rest) ≡ or_else x (dangling_at ids rest)
dangling_there true ids place name rest x e f = rw e (rw f refl)
dangling_there false ids place name rest x e f = rw e (rw f refl)

pub dangling_found : (rs : List Reference) (i : ℕ) (r : Reference) (ids : List Name) (x : Option Place) (place : Place) (whole : Option Place) → i < length rs → r ≡ get_or rs i r → x ≡ (if is_in r.name ids then None else Some r.place) → x ≡ Some place → dangling_at ids (idrefs_kept (drop i rs)) ≡ whole → Some place ≡ whole
dangling_found rs i r ids x place whole m e f g inv =
    ap (λ v. or_else v (dangling_at ids (idrefs_kept (drop (i + 1) rs)))) (sym g)
    ∙ sym (dangling_there (is_in r.name ids) ids r.place r.name (idrefs_kept (drop (i + 1) rs)) x refl f)
    ∙ ap (dangling_at ids) (sym (kept_one rs i r m e)) ∙ inv

pub dangling_passed : (rs : List Reference) (i : ℕ) (r : Reference) (ids : List Name) (x whole : Option Place) → i < length rs → r ≡ get_or rs i r → x ≡ (if is_in r.name ids then None else Some r.place) → x ≡ None → dangling_at ids (idrefs_kept (drop i rs)) ≡ whole → dangling_at ids (idrefs_kept (drop (i + 1) rs)) ≡ whole
dangling_passed rs i r ids x whole m e f g inv =
    ap (λ v. or_else v (dangling_at ids (idrefs_kept (drop (i + 1) rs)))) (sym g)
    ∙ sym (dangling_there (is_in r.name ids) ids r.place r.name (idrefs_kept (drop (i + 1) rs)) x refl f)
    ∙ ap (dangling_at ids) (sym (kept_one rs i r m e)) ∙ inv

-- EVENTS
-- a start whose definitions were found
pub defined_ok : {T E : Type 0} (r : Result T E) (old new : Idents) (ds : List Definition) (e : Event) (element : ℕ) (place : Place) (values vs : List AttrValue) → e ≡ event.Start element place values → vs ≡ values → OnOk r (HasStart old place (attributes_with ds vs) new) → OnOk r ((d : Doctype) (es : List Event) → start_attributes ds e ≡ attributes_of d e → HasNoted old d es → HasNoted new d (es ++ e ∷ []))
defined_ok (Ok x) old new ds e element place values vs is items h = λ d es same was.
    let named : attributes_with (definitions_at d element) values ≡ attributes_with ds vs = sym (ap (attributes_of d) is) ∙ sym same ∙ ap (start_attributes ds) is ∙ ap (attributes_with ds) (sym items) in
    start_noted old new d es e place (attributes_with ds vs) (ap (start_of d) is ∙ ap (λ (v : List Attribute). record { place = place; attributes = v } ∷ []) named) h was
defined_ok (Err x) old new ds e element place values vs is items h = tt

pub noted_by : {T E : Type 0} (r : Result T E) (old new : Idents) (ds : List Definition) (d : Doctype) (e : Event) → start_attributes ds e ≡ attributes_of d e → OnOk r ((d : Doctype) (es : List Event) → start_attributes ds e ≡ attributes_of d e → HasNoted old d es → HasNoted new d (es ++ e ∷ [])) → OnOk r ((es : List Event) → HasNoted old d es → HasNoted new d (es ++ e ∷ []))
noted_by (Ok x) old new ds d e same h = λ es was. h d es same was
noted_by (Err x) old new ds d e same h = tt

pub one_more_noted : (new : Idents) (d : Doctype) (es : List Event) (i : ℕ) (e : Event) → i < length es → e ≡ get_or es i e → HasNoted new d (take i es ++ e ∷ []) → HasNoted new d (take (i + 1) es)
one_more_noted new d es i e m is h = subst (HasNoted new d) (sym (take_more es i e m ∙ ap (λ y. take i es ++ y ∷ []) (sym is))) h

pub judged_unless : {T : Type 0} (d : Doctype) (es : List Event) (r : Result T IdError) → IsJudged d es r → IsJudgedUnless d es r
judged_unless d es (Ok x) h = h
judged_unless d es (Err (errors.Repeated place)) h = h
judged_unless d es (Err (errors.Dangling place)) h = h
judged_unless d es (Err errors.Memory) h = tt

pub all_judged : {T : Type 0} (d : Doctype) (es : List Event) (n : ℕ) (r : Result T IdError) → length es ≤ n → IsJudged d (take n es) r → IsJudgedUnless d es r
all_judged d es n r m h = judged_unless d es r (subst (λ v. IsJudged d v r) (take_all n es m) h)

is_known : (table : List (Name × ℕ)) (q name : Name) (o : Option ℕ) → o ≡ found table q → q ≡ name → is_in name (names_of table) ≡ is_some o
is_known table q name o f same = ap (λ n. is_in n (names_of table)) (sym same) ∙ sym (found_has table q) ∙ ap is_some (sym f)

pub place_known : (table : List (Name × ℕ)) (q name : Name) (o : Option ℕ) (n : ℕ) (place : Place) → o ≡ found table q → q ≡ name → o ≡ Some n → None ≡ (if is_in name (names_of table) then None else Some place)
place_known table q name o n place f same is = sym (ap (λ b. if b then None else Some place) (is_known table q name o f same ∙ ap is_some is))

pub place_unknown : (table : List (Name × ℕ)) (q name : Name) (o : Option ℕ) (place : Place) → o ≡ found table q → q ≡ name → o ≡ None → Some place ≡ (if is_in name (names_of table) then None else Some place)
place_unknown table q name o place f same is = sym (ap (λ b. if b then None else Some place) (is_known table q name o f same ∙ ap is_some is))
