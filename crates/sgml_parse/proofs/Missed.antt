-- Texts that were supplied and aren't there, and texts that may be supplied.
use Rattle.std.proofs.Common.{◌≡◌, ◌<◌, ◌==◌, Bool, true, false, not, ◌&&◌, ◌⊎◌, inl, inr, ℕ, List, [], ◌∷◌, Option, Some, None, refl, sym, ap, ◌∙◌, subst, arith, eqb-true, eq-eqb, if◌then◌else◌, nat_eq}
use Rattle.std.specs.Prelude.{IfSome, is_none}
use Rattle.std.specs.Option.{option_or}
use Rattle.std.specs.Map.{lookup}
use Rattle.indexmap.specs.IndexMap.{insert_entry}
use Rattle.sgml_text.specs.declared.reason.Reason.{Reason}
use Rattle.sgml_entity.specs.Stack.{is_on}
use Rattle.sgml_entity.specs.Texts.{text_of}
use Rattle.sgml_dtd.specs.Doctypes.{Doctype}
use Rattle.sgml_declared.specs.theory_reading.Names.{Name, Text}
use Rattle.sgml_declared.specs.theory_reading.Types.{entity}
use Rattle.sgml_declared.specs.theory_reading.Pieces.{History}
use Rattle.sgml_declared.specs.theory_reading.Facets.{subset_number}
use Rattle.sgml_declared.specs.theory_reading.Unread.{Input, Outside, Sources, file_of, file_of_entity, file_of_subset}
use Rattle.sgml_declared.specs.theory_reading.Events.{Event as Said}
use Rattle.sgml_declared.specs.theory_spelling.References.{missing_fetched}
use Rattle.sgml_declared.specs.theory_standing.Kept.{Kept, sources_of}
use Rattle.sgml_declared.specs.Files.{Choices, IsOutsideOf}
use Rattle.sgml_parse.specs.declared.answer.Supply.{Supply}
use Rattle.sgml_parse.specs.declared.answer.Wanted.{Wanted}
use Rattle.sgml_parse.specs.There.{Reading}
use Rattle.sgml_parse.specs.There as reading
use Rattle.sgml_parse.specs.Missing.{why_missing, with_missing, is_unsupplied}
use Rattle.sgml_parse.specs.Parsing.{Awaits, IsInFileOf, IsMissing, AreMissing, IsUnsuppliedThere, KeepsDoctype, doctype_in, is_in_instance, kept_in}
use Rattle.sgml_parse.specs.Calls.{fetched_by, why_gone, is_of, gone_after}

-- CONTRADICTIONS
pub no-reason : (why : Reason) → None ≡ Some why → ⊥
no-reason why e = cc

pub not-so : true ≡ false → ⊥
not-so e = cc

some-reason : (a b : Reason) → Some a ≡ Some b → a ≡ b
some-reason a b e = cc

some-name : (a b : Name) → Some a ≡ Some b → a ≡ b
some-name a b e = cc

some-wanted : (a b : Wanted) → Some a ≡ Some b → a ≡ b
some-wanted a b e = cc

-- TESTS
pub and-left : (a b : Bool) → (a && b) ≡ true → a ≡ true
and-left true b e = refl
and-left false b e = absurd (not-so (sym e))

pub and-right : (a b : Bool) → (a && b) ≡ true → b ≡ true
and-right true b e = e
and-right false b e = absurd (not-so (sym e))

not-true : (a : Bool) → not a ≡ true → a ≡ false
not-true true e = absurd (not-so (sym e))
not-true false e = refl

none-so : {A : Type 0} (o : Option A) → is_none o ≡ true → o ≡ None
none-so None e = refl
none-so (Some x) e = absurd (not-so (sym e))

-- LOOK-UPS
same-by : (b : Bool) (n : ℕ) (why : Reason) (m : ℕ × Reason) (ms : List (ℕ × Reason)) → (n == m.0) ≡ b → why_missing (insert_entry nat_eq ms n why) n ≡ Some why
    → why_missing (if b then (m.0, why) ∷ ms else m ∷ insert_entry nat_eq ms n why) n ≡ Some why
same-by true n why m ms e i = ap (λ (b : Bool). if b then Some why else why_missing ms n) e
same-by false n why m ms e i = ap (λ (b : Bool). if b then Some m.1 else why_missing (insert_entry nat_eq ms n why) n) e ∙ i

pub same-missing : (n : ℕ) (why : Reason) (ms : List (ℕ × Reason)) → why_missing (insert_entry nat_eq ms n why) n ≡ Some why
same-missing n why [] = ap (λ (b : Bool). if b then Some why else None) (eq-eqb n n refl)
same-missing n why (m ∷ ms) = same-by (n == m.0) n why m ms refl (same-missing n why ms)

other-by : (b : Bool) (n other : ℕ) (why : Reason) (m : ℕ × Reason) (ms : List (ℕ × Reason)) → (n == m.0) ≡ b → (other == n) ≡ false
    → why_missing (insert_entry nat_eq ms n why) other ≡ why_missing ms other
    → why_missing (if b then (m.0, why) ∷ ms else m ∷ insert_entry nat_eq ms n why) other ≡ why_missing (m ∷ ms) other
other-by true n other why m ms e d i =
    let f : (other == m.0) ≡ false = ap (λ (k : ℕ). other == k) (sym (eqb-true n m.0 e)) ∙ d in
    ap (λ (b : Bool). if b then Some why else why_missing ms other) f ∙ sym (ap (λ (b : Bool). if b then Some m.1 else why_missing ms other) f)
other-by false n other why m ms e d i = ap (λ (o : Option Reason). if other == m.0 then Some m.1 else o) i

pub other-missing : (n other : ℕ) (why : Reason) (ms : List (ℕ × Reason)) → (other == n) ≡ false → why_missing (insert_entry nat_eq ms n why) other ≡ why_missing ms other
other-missing n other why [] d = ap (λ (b : Bool). if b then Some why else None) d
other-missing n other why (m ∷ ms) d = other-by (n == m.0) n other why m ms refl d (other-missing n other why ms d)

-- THE FILE of a declared entity
above : (n m : ℕ) → m < n → (n == m) ≡ false
above n m l = by (n == m) refl
  where
    by : (b : Bool) → (n == m) ≡ b → (n == m) ≡ false
    by true e =
        let z : n ≡ m = eqb-true n m e in
        absurd (omega (arith, z, l))
    by false e = e

pub entity-file : (outside : Outside) (k : Sources) (number : ℕ) → 1 < number → file_of outside k number ≡ file_of_entity outside (entity k.doctype number)
unfolding file_of
entity-file outside k number l =
    ap (λ (b : Bool). if b then Some outside.file else (if number == subset_number then file_of_subset outside k.doctype k.subset else file_of_entity outside (entity k.doctype number)))
    (above number 0 (omega (arith, l)))
    ∙ ap (λ (b : Bool). if b then file_of_subset outside k.doctype k.subset else file_of_entity outside (entity k.doctype number)) (above number subset_number l)

-- NONE at first
pub no-missing : (there : Reading) (outside : Outside) → AreMissing there outside []
no-missing there outside = record { none_before = λ f. refl; each = λ number why e. absurd (no-reason why e) }

none-there : (n : ℕ) (why : Reason) (ms : List (ℕ × Reason)) → ms ≡ [] → why_missing ms n ≡ Some why → ⊥
none-there n why ms e s = no-reason why (sym (ap (λ (z : List (ℕ × Reason)). why_missing z n) e) ∙ s)

-- WHERE READING GOES ON, in the instance with the same tables
pub missing-on : (old new : Reading) (outside : Outside) (ms : List (ℕ × Reason)) → (is_in_instance new ≡ false → is_in_instance old ≡ false) → KeepsDoctype old new → AreMissing old outside ms → AreMissing new outside ms
missing-on (reading.Instance r) new outside ms back k m = record {
  none_before = λ f. m.none_before (back f);
  each = λ n why e. subst (λ (d : Doctype). IsMissing d outside n why) (sym k) (m.each n why e);
}
missing-on (reading.Prolog r) new outside ms back k m = record { none_before = λ f. m.none_before refl; each = λ n why e. absurd (none-there n why ms (m.none_before refl) e) }
missing-on reading.Lost new outside ms back k m = record { none_before = λ f. m.none_before refl; each = λ n why e. absurd (none-there n why ms (m.none_before refl) e) }

-- THE TEXT in this file isn't there
pub missing-file : (there : Reading) (outside : Outside) (ms : List (ℕ × Reason)) (number : ℕ) (file : Name) (why : Reason) → AreMissing there outside ms
    → IsInFileOf outside there (record { entity = number; name = file }) → why_missing ms number ≡ Some why → missing_fetched (outside.fetched file) ≡ Some why
missing-file (reading.Instance r) outside ms number file why m f e =
    let x = m.each number why e in
    x.so file (sym (entity-file outside (sources_of r.content.kept) number x.declared) ∙ f)
missing-file (reading.Prolog r) outside ms number file why m f e = absurd (none-there number why ms (m.none_before refl) e)
missing-file reading.Lost outside ms number file why m f e = absurd f

-- WHAT MAY BE SUPPLIED wasn't given, and isn't being read
pub record MayBeGiven (outside : Outside) (there : Reading) (ts : List (ℕ × Text)) (w : Wanted) : Type 0 where
  pub unread : IfSome (kept_in there) (λ k. is_on w.entity k.stack.places ≡ false)
  pub not_given : text_of ts w.entity ≡ None
  pub file : IsInFileOf outside there w

given-of-unsupplied : (c : Choices) (there : Reading) (ts : List (ℕ × Text)) (ms : List (ℕ × Reason)) (outside : Outside) (w : Wanted) → IsOutsideOf c outside → IsUnsuppliedThere c there ts ms w → MayBeGiven outside there ts w
given-of-unsupplied c (reading.Instance r) ts ms outside w o u =
    let places = r.content.kept.stack.places in
    let rest = is_none (text_of ts w.entity) && is_none (why_missing ms w.entity) in
    record {
      unread = not-true (is_on w.entity places) (and-left (not (is_on w.entity places)) rest u.unsupplied);
      not_given = none-so (text_of ts w.entity) (and-left (is_none (text_of ts w.entity)) (is_none (why_missing ms w.entity)) (and-right (not (is_on w.entity places)) rest u.unsupplied));
      file = sym (u.named outside o);
    }
given-of-unsupplied c (reading.Prolog r) ts ms outside w o u = absurd u
given-of-unsupplied c reading.Lost ts ms outside w o u = absurd u

pub may-be-given : (c : Choices) (there : Reading) (ts : List (ℕ × Text)) (ms : List (ℕ × Reason)) (wanted : Option Wanted) (I : Input) (h : History) (told : List Said) (w : Wanted) → IsOutsideOf c I.outside
    → IfSome wanted (Awaits there ts I h told) → ((wanted ≡ Some w) ⊎ IsUnsuppliedThere c there ts ms w) → MayBeGiven I.outside there ts w
may-be-given c there ts ms wanted I h told w o a (inl e) =
    let x : Awaits there ts I h told w = subst (λ (z : Option Wanted). IfSome z (Awaits there ts I h told)) e a in
    record { unread = x.unread; not_given = x.not_given; file = x.file }
may-be-given c there ts ms wanted I h told w o a (inr u) = given-of-unsupplied c there ts ms I.outside w o u

-- of one entity there is one file
one-name : (c : Choices) (there : Reading) (ts : List (ℕ × Text)) (ms : List (ℕ × Reason)) (outside : Outside) (w v : Wanted) → IsOutsideOf c outside → IsUnsuppliedThere c there ts ms w → IsInFileOf outside there v
    → v.entity ≡ w.entity → v.name ≡ w.name
one-name c (reading.Instance r) ts ms outside w v o u f i = some-name v.name w.name (sym f ∙ ap (file_of outside (sources_of r.content.kept)) i ∙ sym (u.named outside o))
one-name c (reading.Prolog r) ts ms outside w v o u f i = absurd u
one-name c reading.Lost ts ms outside w v o u f i = absurd u

pub awaited-name : (c : Choices) (there : Reading) (ts : List (ℕ × Text)) (ms : List (ℕ × Reason)) (wanted : Option Wanted) (I : Input) (h : History) (told : List Said) (w v : Wanted) → IsOutsideOf c I.outside
    → IfSome wanted (Awaits there ts I h told) → ((wanted ≡ Some w) ⊎ IsUnsuppliedThere c there ts ms w) → wanted ≡ Some v → v.entity ≡ w.entity → v.name ≡ w.name
awaited-name c there ts ms wanted I h told w v o a (inl e) s i = ap (λ (z : Wanted). z.name) (some-wanted v w (sym s ∙ e))
awaited-name c there ts ms wanted I h told w v o a (inr u) s i =
    let x : Awaits there ts I h told v = subst (λ (z : Option Wanted). IfSome z (Awaits there ts I h told)) s a in
    one-name c there ts ms I.outside w v o u x.file i

-- ONE MORE ISN'T THERE
missing-here : (c : Choices) (there : Reading) (ts : List (ℕ × Text)) (ms : List (ℕ × Reason)) (outside : Outside) (w : Wanted) (why : Reason) → IsOutsideOf c outside → IsUnsuppliedThere c there ts ms w
    → missing_fetched (outside.fetched w.name) ≡ Some why → IsMissing (doctype_in there) outside w.entity why
missing-here c (reading.Instance r) ts ms outside w why o u g = record {
  declared = u.declared;
  so = λ file f.
      subst (λ (z : Name). missing_fetched (outside.fetched z) ≡ Some why)
      (some-name w.name file (u.named outside o ∙ entity-file outside (sources_of r.content.kept) w.entity u.declared ∙ f)) g;
}
missing-here c (reading.Prolog r) ts ms outside w why o u g = absurd u
missing-here c reading.Lost ts ms outside w why o u g = absurd u

in-instance : (c : Choices) (there : Reading) (ts : List (ℕ × Text)) (ms : List (ℕ × Reason)) (w : Wanted) → IsUnsuppliedThere c there ts ms w → is_in_instance there ≡ true
in-instance c (reading.Instance r) ts ms w u = refl
in-instance c (reading.Prolog r) ts ms w u = absurd u
in-instance c reading.Lost ts ms w u = absurd u

missing-more : (c : Choices) (there : Reading) (ts : List (ℕ × Text)) (ms : List (ℕ × Reason)) (outside : Outside) (w : Wanted) (why : Reason) → IsOutsideOf c outside → IsUnsuppliedThere c there ts ms w
    → missing_fetched (outside.fetched w.name) ≡ Some why → AreMissing there outside ms → AreMissing there outside (insert_entry nat_eq ms w.entity why)
missing-more c there ts ms outside w why o u g m = record {
  none_before = λ f. absurd (not-so (sym (in-instance c there ts ms w u) ∙ f));
  each = λ n y e. by n y e (n == w.entity) refl;
}
  where
    by : (n : ℕ) (y : Reason) → why_missing (insert_entry nat_eq ms w.entity why) n ≡ Some y → (b : Bool) → (n == w.entity) ≡ b → IsMissing (doctype_in there) outside n y
    by n y e true t =
        let i : n ≡ w.entity = eqb-true n w.entity t in
        let found : why_missing (insert_entry nat_eq ms w.entity why) w.entity ≡ Some y = subst (λ (k : ℕ). why_missing (insert_entry nat_eq ms w.entity why) k ≡ Some y) i e in
        let is : why ≡ y = some-reason why y (sym (same-missing w.entity why ms) ∙ found) in
        subst (λ (k : ℕ). IsMissing (doctype_in there) outside k y) (sym i)
        (subst (λ (z : Reason). IsMissing (doctype_in there) outside w.entity z) is (missing-here c there ts ms outside w why o u g))
    by n y e false t = m.each n y (sym (other-missing w.entity n why ms t) ∙ e)

or-none : (o was : Option Reason) → option_or o was ≡ None → (o ≡ None) × (was ≡ None)
or-none None was e = (refl, e)
or-none (Some why) was e = absurd (no-reason why (sym e))

gone-none : (b : Bool) (o was : Option Reason) → (if b then option_or o was else was) ≡ None → was ≡ None
gone-none true o was e = (or-none o was e).1
gone-none false o was e = e

supplied-last : (there : Reading) (outside : Outside) (ms : List (ℕ × Reason)) (was : Option Reason) (number : ℕ) (given : Supply) (w : Wanted) → w.entity ≡ number → (was ≡ None → AreMissing there outside ms)
    → gone_after number given (Some w) was ≡ None → AreMissing there outside (with_missing number (why_gone given) ms)
supplied-last there outside ms was number given w n m g =
    let none = or-none (why_gone given) was (sym (ap (λ (b : Bool). if b then option_or (why_gone given) was else was) (eq-eqb w.entity number n)) ∙ g) in
    subst (λ (z : Option Reason). AreMissing there outside (with_missing number z ms)) (sym none.0) (m none.1)

supplied-by : (c : Choices) (there : Reading) (ts : List (ℕ × Text)) (ms : List (ℕ × Reason)) (outside : Outside) (w : Wanted) (number : ℕ) (o : Option Reason) → IsOutsideOf c outside → IsUnsuppliedThere c there ts ms w → w.entity ≡ number
    → missing_fetched (outside.fetched w.name) ≡ o → AreMissing there outside ms → AreMissing there outside (with_missing number o ms)
supplied-by c there ts ms outside w number None q u n f m = m
supplied-by c there ts ms outside w number (Some why) q u n f m =
    subst (λ (k : ℕ). AreMissing there outside (insert_entry nat_eq ms k why)) n (missing-more c there ts ms outside w why q u f m)

pub missing-supplied : (c : Choices) (there : Reading) (ts : List (ℕ × Text)) (ms : List (ℕ × Reason)) (wanted : Option Wanted) (was : Option Reason) (number : ℕ) (given : Supply) (outside : Outside) (w : Wanted) → IsOutsideOf c outside
    → ((wanted ≡ Some w) ⊎ IsUnsuppliedThere c there ts ms w) → w.entity ≡ number → outside.fetched w.name ≡ fetched_by given → (was ≡ None → AreMissing there outside ms)
    → gone_after number given wanted was ≡ None → AreMissing there outside (with_missing number (why_gone given) ms)
missing-supplied c there ts ms wanted was number given outside w o (inl e) n f m g =
    supplied-last there outside ms was number given w n m (sym (ap (λ (z : Option Wanted). gone_after number given z was) e) ∙ g)
missing-supplied c there ts ms wanted was number given outside w o (inr u) n f m g =
    supplied-by c there ts ms outside w number (why_gone given) o u n (ap missing_fetched f) (m (gone-none (is_of number wanted) (why_gone given) was g))
