-- A start is refused for one reason.
use Rattle.std.proofs.Common.{◌≡◌, ℕ, suc, ◌+◌, Bool, true, false, ◌||◌, List, [], ◌∷◌, ◌++◌, map, Option, Some, None, option_map, option_and_then, find, bytes_eq, refl, sym, ap, ◌∙◌, if◌then◌else◌, Ok, Err, Result, arith, nat_lt, length, ◌≤◌, rules, tests}
use Rattle.std.proofs.lemmas.List.Folds.{find_at}
use Rattle.std.proofs.lemmas.Option.{slice_get_past}
use Rattle.std.specs.List.{list_any, slice_get, position, position_or_len}
use Rattle.std.specs.Option.{option_or}
use Rattle.sgml_starts.specs.text.declared.reason.Reason.{Reason}
use Rattle.sgml_starts.specs.text.declared.unit.Unit.{Unit as AnyUnit}
use Rattle.sgml_starts.specs.attr.declared.definition.Definition.{Definition}
use Rattle.sgml_starts.specs.attr.declared.definition.Spec.{Spec}
use Rattle.sgml_starts.specs.attr.declared.error.AttrError.{AttrError}
use Rattle.sgml_starts.specs.attr.declared.error.AttrError.TheVariants as against
use Rattle.sgml_starts.specs.attr.declared.value.AttrValue.{AttrValue}
use Rattle.sgml_starts.specs.attr.Literal.{interpreted}
use Rattle.sgml_starts.specs.attr.Matching.{attribute_of}
use Rattle.sgml_starts.specs.attr.Values.{value}
use Rattle.sgml_starts.specs.dtd_attlists.Tables.{list_of}
use Rattle.sgml_starts.specs.dtd.Doctypes.{Doctype}
use Rattle.sgml_starts.specs.declared.error.StartError.{StartError}
use Rattle.sgml_starts.specs.declared.error.StartError.TheVariants as error
use Rattle.sgml_starts.specs.Rows.{names, any_names, reason_of_value, reason_of_spec, reason_of_specs}
use Rattle.sgml_starts.specs.Values.{is_specified, current_in, result_of, refused}
use Rattle.sgml_starts.specs.Values as numbered
use Rattle.sgml_starts.specs.Specified.{Specified}
use Rattle.sgml_declared.specs.theory_reading.Names.{Name, Text}
use Rattle.sgml_declared.specs.theory_reading.Types.{attributes, entity_tables}
use Rattle.sgml_declared.specs.theory_reading.Pieces.{Specification, How}
use Rattle.sgml_declared.specs.theory_reading.Pieces as pieces
use Rattle.sgml_declared.specs.theory_reading.Currents.{Currents, AreCurrents, is_of, value_by}
use Rattle.sgml_declared.specs.theory_reading.State.{State}
use Rattle.sgml_declared.specs.theory_spelling.Attributes.{reason_of_units, reason_of_specification, reason_of_specifications, definition_named, stands_in, default_value, unvalued}
use Rattle.sgml_declared.specs.theory_spelling.Attributes as named
use Rattle.sgml_declared.specs.theory_spelling.Named.{AreApart}
use Rattle.sgml_declared.specs.theory_spelling.Tags.{specification_of}
use Rattle.sgml_declared.proofs.theory_spelling.Named.{named-is-numbered, found-apart, no-definition}
use Rattle.sgml_theory_starts.specs.Starts.{Table, by_name, start_named, AreThoseRead, BegunIsRefused}
use Rattle.sgml_theory_starts.proofs.Matched.{found-passes, same-name, there, AreAlike, alike-more, any-names-one}

-- ONE SPECIFICATION
spec-at : (d : Doctype) (n : Name) (before : List Spec) (before' : List Specification) (g : Name) (j : ℕ) (units : List AnyUnit) (o : Option Definition)
    → AreAlike d n before before' → slice_get (attributes d n) j ≡ o → definition_named d n (Some g) ≡ o
    → reason_of_value d.syntax (entity_tables d) (any_names d.syntax (attributes d n) (Some j) before) o units
    ≡ reason_of_units d (stands_in (Some g) before') o units
spec-at d n before before' g j units None alike at found = refl
spec-at d n before before' g j units (Some x) alike at found =
    let name : g ≡ x.name = same-name g x.name (found-passes (λ (y : Definition). bytes_eq g y.name) (attributes d n) x found) in
    let twice : stands_in (Some g) before' ≡ any_names d.syntax (attributes d n) (Some j) before = ap (λ (v : Name). list_any (is_of v) before') name ∙ alike j x at in
    ap (λ t. reason_of_value d.syntax (entity_tables d) t (Some x) units) (sym twice)

spec-by : (d : Doctype) (n : Name) (before : List Spec) (before' : List Specification) (a : Option Name) (o : Option ℕ) (units : List AnyUnit)
    → AreAlike d n before before' → definition_named d n a ≡ there d n o
    → reason_of_value d.syntax (entity_tables d) (any_names d.syntax (attributes d n) o before) (there d n o) units
    ≡ reason_of_units d (stands_in a before') (definition_named d n a) units
spec-by d n before before' None o units alike h =
    ap (λ v. reason_of_value d.syntax (entity_tables d) (any_names d.syntax (attributes d n) o before) v units) (sym h)
spec-by d n before before' (Some g) None units alike h =
    ap (λ v. reason_of_units d (stands_in (Some g) before') v units) (sym h)
spec-by d n before before' (Some g) (Some j) units alike h =
    spec-at d n before before' g j units (slice_get (attributes d n) j) alike refl h
    ∙ ap (λ v. reason_of_units d (stands_in (Some g) before') v units) (sym h)

spec-is : (d : Doctype) (n : Name) (before : List Spec) (before' : List Specification) (s : Spec) → AreApart (attributes d n) → AreAlike d n before before'
    → reason_of_spec d.syntax (entity_tables d) (attributes d n) before s ≡ reason_of_specification d n before' (by_name d n s)
spec-is d n before before' s apart alike =
    spec-by d n before before' (by_name d n s).attribute (attribute_of d.syntax (attributes d n) s) s.value alike (named-is-numbered d n s.name s.value apart)

-- ALL OF THEM
or-assoc : (a b c : Option Reason) → option_or a (option_or b c) ≡ option_or (option_or a b) c
or-assoc None b c = refl
or-assoc (Some r) b c = refl

specs-are : (d : Doctype) (n : Name) (before : List Spec) (before' : List Specification) (ss : List Spec) → AreApart (attributes d n) → AreAlike d n before before'
    → reason_of_specs d.syntax (entity_tables d) (attributes d n) before ss ≡ reason_of_specifications d n before' (map (by_name d n) ss)
specs-are d n before before' [] apart alike = refl
specs-are d n before before' (s ∷ ss) apart alike =
    ap (λ v. option_or v (reason_of_specs d.syntax (entity_tables d) (attributes d n) (before ++ s ∷ []) ss)) (spec-is d n before before' s apart alike)
    ∙ ap (λ v. option_or (reason_of_specification d n before' (by_name d n s)) v)
    (specs-are d n (before ++ s ∷ []) (by_name d n s ∷ before') ss apart (alike-more d n before before' s apart alike))

-- up to a literal that can't be read
specs-stop : (d : Doctype) (n : Name) (before : List Spec) (before' : List Specification) (ss : List Spec) (name : Option Text) (r : Reason) (more : List Specification)
    → AreApart (attributes d n) → AreAlike d n before before'
    → option_or (reason_of_specs d.syntax (entity_tables d) (attributes d n) before ss) (Some r)
    ≡ reason_of_specifications d n before' (map (by_name d n) ss ++ specification_of d (attributes d n) name (Err r) ∷ more)
specs-stop d n before before' [] name r more apart alike = refl
specs-stop d n before before' (s ∷ ss) name r more apart alike =
    sym (or-assoc (reason_of_spec d.syntax (entity_tables d) (attributes d n) before s) (reason_of_specs d.syntax (entity_tables d) (attributes d n) (before ++ s ∷ []) ss) (Some r))
    ∙ ap (λ v. option_or v (option_or (reason_of_specs d.syntax (entity_tables d) (attributes d n) (before ++ s ∷ []) ss) (Some r))) (spec-is d n before before' s apart alike)
    ∙ ap (λ v. option_or (reason_of_specification d n before' (by_name d n s)) v)
    (specs-stop d n (before ++ s ∷ []) (by_name d n s ∷ before') ss name r more apart (alike-more d n before before' s apart alike))

alike-first : (d : Doctype) (n : Name) → AreAlike d n [] []
alike-first d n i x here = refl

-- WITHOUT A SPECIFICATION
pub same-reason : (r : Result AttrValue AttrError) → numbered.reason_in r ≡ named.reason_in r
same-reason (Ok v) = refl
same-reason (Err against.NameLength) = refl
same-reason (Err against.LiteralLimit) = refl
same-reason (Err against.NotationUnknown) = refl
same-reason (Err (against.UnknownAttribute j)) = refl
same-reason (Err (against.Twice j)) = refl
same-reason (Err against.NotAToken) = refl
same-reason (Err against.NotInGroup) = refl
same-reason (Err against.FixedDiffers) = refl
same-reason (Err against.EntityUnknown) = refl
same-reason (Err against.Required) = refl
same-reason (Err against.NoCurrent) = refl
same-reason (Err against.Memory) = refl

pub none-found : (p : Spec → Bool) (ss : List Spec) → list_any p ss ≡ false → find p ss ≡ None
none-found p [] h = refl
none-found p (s ∷ ss) h = by (p s) refl (λ e. none-found p ss e) h
  where
    by : (t : Bool) → p s ≡ t → (list_any p ss ≡ false → find p ss ≡ None) → (t || list_any p ss) ≡ false → (if t then Some s else find p ss) ≡ None
    by true e later h = absurd (cc)
    by false e later h = later h

-- the first that passes is at the first place that does
first-at : (p : Definition → Bool) (xs : List Definition) → find p xs ≡ option_and_then (slice_get xs) (position p xs)
first-at p xs = by (nat_lt (position_or_len p xs) (length xs)) refl
  where
    past : (i n : ℕ) → nat_lt i n ≡ false → n ≤ i
    past i n e = search (rules, tests)

    by : (t : Bool) → nat_lt (position_or_len p xs) (length xs) ≡ t → find p xs ≡ option_and_then (slice_get xs) (if t then Some (position_or_len p xs) else None)
    by true e = find_at p xs
    by false e = find_at p xs ∙ slice_get_past xs (position_or_len p xs) (past (position_or_len p xs) (length xs) e)

-- the number of a definition, by its name
number-of : (xs : List Definition) (i : ℕ) (x : Definition) → AreApart xs → slice_get xs i ≡ Some x → position (λ (y : Definition). bytes_eq x.name y.name) xs ≡ Some i
number-of xs i x apart here = at-first (position (λ (y : Definition). bytes_eq x.name y.name) xs) (sym (first-at (λ (y : Definition). bytes_eq x.name y.name) xs) ∙ found-apart xs i x apart here)
  where
    at-first : (o : Option ℕ) → option_and_then (slice_get xs) o ≡ Some x → o ≡ Some i
    at-first None h = no-definition x h
    at-first (Some j) h = ap (λ k. Some k) (apart j i x x h here refl)

at-number : (table : Table) (list : Option ℕ) (i : ℕ) → value_by table list (Some i) ≡ current_in table list i
at-number table None i = refl
at-number table (Some l) i = refl

pub current-is : (d : Doctype) (n : Name) (table : Table) (c : Currents) (i : ℕ) (x : Definition) → AreApart (attributes d n) → AreCurrents d table c → slice_get (attributes d n) i ≡ Some x
    → current_in table (list_of d.lists n) i ≡ c n x.name
current-is d n table c i x apart are here =
    sym (are n x.name ∙ ap (value_by table (list_of d.lists n)) (number-of (attributes d n) i x apart here) ∙ at-number table (list_of d.lists n) i)

default-by : (d : Doctype) (n : Name) (table : Table) (c : Currents) (ss : List Spec) (i : ℕ) (x : Definition) (t : Bool)
    → AreApart (attributes d n) → AreCurrents d table c → slice_get (attributes d n) i ≡ Some x → is_specified (start_named d n table) ss i ≡ t
    → (if t then None else numbered.reason_in (result_of (start_named d n table) ss i x)) ≡ (if t then None else named.reason_in (default_value d c n x))
default-by d n table c ss i x true apart are here h = refl
default-by d n table c ss i x false apart are here h =
    ap (λ v. numbered.reason_in (value d.syntax x (entity_tables d) (current_in table (list_of d.lists n) i) (option_map (λ (s : Spec). interpreted x.declared s.value) v)))
    (none-found (names d.syntax (attributes d n) (Some i)) ss h)
    ∙ ap (λ v. numbered.reason_in (value d.syntax x (entity_tables d) v None)) (current-is d n table c i x apart are here)
    ∙ same-reason (default_value d c n x)

default-is : (d : Doctype) (n : Name) (table : Table) (c : Currents) (ss : List Spec) (i : ℕ) (x : Definition)
    → AreApart (attributes d n) → AreCurrents d table c → slice_get (attributes d n) i ≡ Some x
    → numbered.reason_of_default (start_named d n table) ss i x
    ≡ (if list_any (is_of x.name) (map (by_name d n) ss) then None else named.reason_in (default_value d c n x))
default-is d n table c ss i x apart are here =
    default-by d n table c ss i x (is_specified (start_named d n table) ss i) apart are here refl
    ∙ ap (λ t. if t then None else named.reason_in (default_value d c n x)) (sym (any-names-one d n ss i x apart here))

-- from a number on
defaults-are : (d : Doctype) (n : Name) (table : Table) (c : Currents) (ss : List Spec) (i : ℕ) (ys : List Definition)
    → AreApart (attributes d n) → AreCurrents d table c → ((k : ℕ) (y : Definition) → slice_get ys k ≡ Some y → slice_get (attributes d n) (i + k) ≡ Some y)
    → numbered.reason_of_defaults (start_named d n table) ss i ys ≡ named.reason_of_defaults d c n (map (by_name d n) ss) ys
defaults-are d n table c ss i [] apart are from = refl
defaults-are d n table c ss i (y ∷ ys) apart are from =
    let first : i + 0 ≡ i = omega arith in
    let here : slice_get (attributes d n) i ≡ Some y = ap (slice_get (attributes d n)) (sym first) ∙ from 0 y refl in
    let later : (k : ℕ) (z : Definition) → slice_get ys k ≡ Some z → slice_get (attributes d n) (i + 1 + k) ≡ Some z = λ k z h.
    let e : i + 1 + k ≡ i + suc k = omega arith in
    ap (slice_get (attributes d n)) e ∙ from (suc k) z h in
    ap (λ v. option_or v (numbered.reason_of_defaults (start_named d n table) ss (i + 1) ys)) (default-is d n table c ss i y apart are here)
    ∙ ap (λ v. option_or (if list_any (is_of y.name) (map (by_name d n) ss) then None else named.reason_in (default_value d c n y)) v)
    (defaults-are d n table c ss (i + 1) ys apart are later)

from-first : (xs : List Definition) (k : ℕ) (y : Definition) → slice_get xs k ≡ Some y → slice_get xs (0 + k) ≡ Some y
from-first xs k y h = let e : 0 + k ≡ k = omega arith in ap (slice_get xs) e ∙ h

-- THE WHOLE
refused-or : (a b : Option Reason) → refused (option_or a b) ≡ option_or (refused a) (refused b)
refused-or None b = refl
refused-or (Some r) b = refl

stopped : (a : Option Reason) (r : Reason) (b : Option Reason) → option_or (refused a) (option_or (Some (error.Refused r)) (refused b)) ≡ refused (option_or (option_or a (Some r)) b)
stopped None r b = refl
stopped (Some q) r b = refl

-- of what was read
abbrev Told : State → Name → Table → Specified → Option Reason → Type 0
Told s n table all reason = numbered.unvalued (start_named s.context.doctype n table) all ≡ refused reason

abbrev reason-by : State → Name → List Specification → Option Reason
reason-by s n ss =
    option_or (reason_of_specifications s.context.doctype n [] ss)
    (named.reason_of_defaults s.context.doctype s.currents n ss (attributes s.context.doctype n))

read-all : (s : State) (n : Name) (table : Table) (specs : List Spec) (spent : ℕ) → AreApart (attributes s.context.doctype n) → AreCurrents s.context.doctype table s.currents
    → Told s n table (record { specs = specs; stop = None; spent = spent }) (reason-by s n (map (by_name s.context.doctype n) specs))
read-all s n table specs spent apart are =
    let d : Doctype = s.context.doctype in
    ap (λ v. option_or (refused v) (refused (numbered.reason_of_defaults (start_named d n table) specs 0 (attributes d n)))) (specs-are d n [] [] specs apart (alike-first d n))
    ∙ ap (λ v. option_or (refused (reason_of_specifications d n [] (map (by_name d n) specs))) (refused v))
    (defaults-are d n table s.currents specs 0 (attributes d n) apart are (from-first (attributes d n)))
    ∙ sym (refused-or (reason_of_specifications d n [] (map (by_name d n) specs)) (named.reason_of_defaults d s.currents n (map (by_name d n) specs) (attributes d n)))

-- a reason, whatever would follow
first-holds : (a : Option Reason) (r : Reason) (b c : Option Reason) → refused (option_or (option_or a (Some r)) b) ≡ refused (option_or (option_or a (Some r)) c)
first-holds None r b c = refl
first-holds (Some q) r b c = refl

read-stopped : (s : State) (n : Name) (table : Table) (specs : List Spec) (r : Reason) (spent : ℕ) (name : Option Text) (more : List Specification) → AreApart (attributes s.context.doctype n)
    → Told s n table (record { specs = specs; stop = Some (error.Refused r); spent = spent })
    (reason-by s n (map (by_name s.context.doctype n) specs ++ specification_of s.context.doctype (attributes s.context.doctype n) name (Err r) ∷ more))
read-stopped s n table specs r spent name more apart =
    let d : Doctype = s.context.doctype in
    let ss : List Specification = map (by_name d n) specs ++ specification_of d (attributes d n) name (Err r) ∷ more in
    let rest : Option Reason = named.reason_of_defaults d s.currents n ss (attributes d n) in
    let mine : Option Reason = numbered.reason_of_defaults (start_named d n table) specs 0 (attributes d n) in
    let first : Option Reason = reason_of_specs d.syntax (entity_tables d) (attributes d n) [] specs in
    stopped first r mine
    ∙ first-holds first r mine rest
    ∙ ap (λ v. refused (option_or v rest)) (specs-stop d n [] [] specs name r more apart (alike-first d n))

read-so : (s : State) (n : Name) (table : Table) (specs : List Spec) (stop : Option StartError) (spent : ℕ) (ss : List Specification) → AreApart (attributes s.context.doctype n)
    → AreCurrents s.context.doctype table s.currents → AreThoseRead s.context.doctype n specs stop ss
    → Told s n table (record { specs = specs; stop = stop; spent = spent }) (reason-by s n ss)
read-so s n table specs None spent ss apart are h =
    read-all s n table specs spent apart are ∙ ap (λ v. refused (reason-by s n v)) (sym h)
read-so s n table specs (Some (error.Refused r)) spent ss apart are (name, more, h) =
    read-stopped s n table specs r spent name more apart ∙ ap (λ v. refused (reason-by s n v)) (sym h)
read-so s n table specs (Some (error.Wanted e)) spent ss apart are h = absurd h
read-so s n table specs (Some error.Memory) spent ss apart are h = absurd h

pub one-reason : (s : State) (n : Name) (table : Table) (all : Specified) (ss : List Specification) (how : How) (proper at_once : Bool) → AreApart (attributes s.context.doctype n)
    → AreCurrents s.context.doctype table s.currents → AreThoseRead s.context.doctype n all.specs all.stop ss
    → numbered.unvalued (start_named s.context.doctype n table) all ≡ refused (unvalued s (pieces.Start n ss how proper at_once))
unfolding unvalued
one-reason s n table all ss how proper at_once apart are h = read-so s n table all.specs all.stop all.spent ss apart are h

-- WHAT IS READ IS REFUSED
reason-first : (d : Doctype) (n : Name) (before ss more : List Specification) (r : Reason)
    → reason_of_specifications d n before ss ≡ Some r → reason_of_specifications d n before (ss ++ more) ≡ Some r
reason-first d n before [] more r h = absurd (cc h)
reason-first d n before (s ∷ ss) more r h = by (reason_of_specification d n before s) h (reason-first d n (s ∷ before) ss more r)
  where
    by : (o : Option Reason) → option_or o (reason_of_specifications d n (s ∷ before) ss) ≡ Some r
        → (reason_of_specifications d n (s ∷ before) ss ≡ Some r → reason_of_specifications d n (s ∷ before) (ss ++ more) ≡ Some r)
        → option_or o (reason_of_specifications d n (s ∷ before) (ss ++ more)) ≡ Some r
    by None h later = later h
    by (Some q) h later = h

pub begun-is-refused : BegunIsRefused
unfolding unvalued
begun-is-refused s n specs ss how proper at_once r apart begun h =
    let d : Doctype = s.context.doctype in
    let first : reason_of_specifications d n [] ss ≡ Some r =
    ap (reason_of_specifications d n []) begun.1
    ∙ reason-first d n [] (map (by_name d n) specs) begun.0 r (sym (specs-are d n [] [] specs apart (alike-first d n)) ∙ h) in
    ap (λ v. option_or v (named.reason_of_defaults d s.currents n ss (attributes d n))) first
