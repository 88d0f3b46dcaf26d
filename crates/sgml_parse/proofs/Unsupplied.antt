-- The first text that wasn't supplied.
use Rattle.std.proofs.Common.{◌≡◌, ◌<◌, ◌≤◌, ◌+◌, ◌-◌, ◌==◌, Bool, true, false, not, ◌&&◌, nat_eq, eqb-true, ℕ, List, Option, Some, None, Result, Ok, Err, length, slice_get, refl, sym, ap, ◌∙◌, subst, arith, if◌then◌else◌}
use Rattle.std.specs.Prelude.{IfOk, is_none, nat_lt, max}
use Rattle.indexmap.specs.IndexMap.{insert_entry}
use Rattle.std.proofs.lemmas.Bool.{ltb-true, ltb-false}
use Rattle.std.proofs.lemmas.Option.{slice_get_past}
use Rattle.sgml_text.specs.declared.error.Memory.{Memory}
use Rattle.sgml_text.specs.declared.reason.Reason.{Reason}
use Rattle.sgml_text.specs.declared.reason.Reason.TheVariants.{Absent, EntityTooLarge}
use Rattle.sgml_io.specs.Records.{records}
use Rattle.sgml_entity.specs.Stack.{is_on}
use Rattle.sgml_entity.specs.Texts.{text_of, with_more}
use Rattle.sgml_entity.specs.Entities.{first_entity}
use Rattle.sgml_dtd.specs.Doctypes.{Doctype}
use Rattle.sgml_syntax.specs.Implied.{implied_syntax}
use Rattle.sgml_declared.specs.theory_reading.Names.{Name, Text}
use Rattle.sgml_declared.specs.theory_reading.Types.{entity}
use Rattle.sgml_declared.specs.theory_reading.Unread.{Outside, NotThere, file_of, file_of_entity}
use Rattle.sgml_declared.specs.theory_standing.Kept.{Kept, sources_of}
use Rattle.sgml_declared.specs.Files.{Choices, IsOutsideOf, InEach, outside_of}
use Rattle.sgml_parse.specs.declared.answer.Supply.{Supply}
use Rattle.sgml_parse.specs.declared.answer.Supply.TheVariants as supply
use Rattle.sgml_parse.specs.declared.answer.Wanted.{Wanted}
use Rattle.sgml_parse.specs.There.{Reading}
use Rattle.sgml_parse.specs.There as reading
use Rattle.sgml_parse.specs.Missing.{why_missing, with_missing, is_unsupplied}
use Rattle.sgml_parse.specs.Parsing.{Parser, IsUnsupplied, IsUnsuppliedIn, IsUnsuppliedThere, is_in_instance, is_lost, kept_in}
use Rattle.sgml_parse.specs.Wanting.{IsFirst, IsFirstUnsupplied, IsFirstUnsuppliedIn, IsUnsuppliedFile}
use Rattle.sgml_parse.specs.Calls.{texts_with, why_gone, supplied_after}
use Rattle.sgml_parse.proofs.Missed.{not-so, and-left, and-right, same-missing, other-missing, entity-file}
use Rattle.sgml_parse.proofs.Gains.{same-text, other-text}

no-name : (a : Name) → None ≡ Some a → ⊥
no-name a e = cc

some-kept : (a b : Kept) → Some a ≡ Some b → a ≡ b
some-kept a b e = cc

-- A RUN with these options, over a store that has nothing
abbrev an_outside : Choices → Outside
an_outside c = outside_of c implied_syntax (λ name. NotThere)

is-outside : (c : Choices) → IsOutsideOf c (an_outside c)
is-outside c = record { expand = refl; file = refl; resolved = λ kind name external base. refl }

-- ONE FILE
pub supplied-has-none : (c : Choices) (k : Kept) (ts : List (ℕ × Text)) (ms : List (ℕ × Reason)) (number : ℕ) → is_unsupplied k ts ms number ≡ false → IsUnsuppliedFile c k ts ms number None
supplied-has-none c k ts ms number e = λ v i u. not-so (sym u.unsupplied ∙ ap (is_unsupplied k ts ms) i ∙ e)

pub file-is-found : (c : Choices) (k : Kept) (ts : List (ℕ × Text)) (ms : List (ℕ × Reason)) (number : ℕ) (result : Result (Option Name) Memory) → 1 < number → is_unsupplied k ts ms number ≡ true
    → IfOk result (InEach c (λ outside. file_of outside (sources_of k) number)) → IfOk result (IsUnsuppliedFile c k ts ms number)
file-is-found c k ts ms number (Err e) l u f = tt
file-is-found c k ts ms number (Ok (Some name)) l u f = record { declared = l; unsupplied = u; named = f }
file-is-found c k ts ms number (Ok None) l u f = λ v i w.
    no-name v.name (f (an_outside c) (is-outside c) ∙ sym (ap (file_of (an_outside c) (sources_of k)) i) ∙ sym (w.named (an_outside c) (is-outside c)))

-- WHERE NO ENTITY IS LEFT
no-entity : (d : Doctype) (n : ℕ) → length d.entities + 2 ≤ n → entity d n ≡ None
unfolding entity
no-entity d n l = by (nat_lt n first_entity)
  where
    by : (b : Bool) → (if b then None else slice_get d.entities (n - first_entity)) ≡ None
    by true = refl
    by false = slice_get_past d.entities (n - first_entity) (omega (arith, l))

pub none-left : (c : Choices) (k : Kept) (ts : List (ℕ × Text)) (ms : List (ℕ × Reason)) (v : Wanted) → length k.doctype.entities + 2 ≤ v.entity → IsUnsuppliedIn c k ts ms v → ⊥
none-left c k ts ms v l u =
    let o = an_outside c in
    no-name v.name (sym (ap (file_of_entity o) (no-entity k.doctype v.entity l)) ∙ sym (entity-file o (sources_of k) v.entity u.declared) ∙ sym (u.named o (is-outside c)))

-- FROM ONE TO THE NEXT
pub none-at-first : (c : Choices) (k : Kept) (ts : List (ℕ × Text)) (ms : List (ℕ × Reason)) (from number : ℕ) (v : Wanted) → number ≡ max from 2 → from ≤ v.entity → v.entity < number → IsUnsuppliedIn c k ts ms v → ⊥
none-at-first c k ts ms from number v e l h u = omega (arith, e, l, h, u.declared)

pub none-so-far : (c : Choices) (k : Kept) (ts : List (ℕ × Text)) (ms : List (ℕ × Reason)) (from number : ℕ) → ((v : Wanted) → from ≤ v.entity → v.entity < number → IsUnsuppliedIn c k ts ms v → ⊥)
    → IsUnsuppliedFile c k ts ms number None → (v : Wanted) → from ≤ v.entity → v.entity < number + 1 → IsUnsuppliedIn c k ts ms v → ⊥
none-so-far c k ts ms from number before here v l h u = by (nat_lt v.entity number) refl
  where
    by : (b : Bool) → nat_lt v.entity number ≡ b → ⊥
    by true e = before v l (ltb-true v.entity number e) u
    by false e = here v (omega (arith, ltb-false v.entity number e, h)) u

pub none-at-all : (c : Choices) (k : Kept) (ts : List (ℕ × Text)) (ms : List (ℕ × Reason)) (from number : ℕ) → ((v : Wanted) → from ≤ v.entity → v.entity < number → IsUnsuppliedIn c k ts ms v → ⊥)
    → length k.doctype.entities + 2 ≤ number → IsFirstUnsuppliedIn c k ts ms from None
none-at-all c k ts ms from number before end = λ v l u. by v l u (nat_lt v.entity number) refl
  where
    by : (v : Wanted) → from ≤ v.entity → IsUnsuppliedIn c k ts ms v → (b : Bool) → nat_lt v.entity number ≡ b → ⊥
    by v l u true e = before v l (ltb-true v.entity number e) u
    by v l u false e = none-left c k ts ms v (omega (arith, ltb-false v.entity number e, end)) u

-- OF A PARSER that reads the instance
pub there-is-one : (p inside : Parser) → inside ≡ p → is_in_instance p.reading ≡ true → is_lost inside.reading ≡ false
there-is-one p inside e i = by inside.reading (ap (λ (z : Parser). is_in_instance z.reading) e ∙ i)
  where
    by : (there : Reading) → is_in_instance there ≡ true → is_lost there ≡ false
    by (reading.Instance r) i = refl
    by (reading.Prolog r) i = absurd (not-so (sym i))
    by reading.Lost i = absurd (not-so (sym i))

first-there : (c : Choices) (there : Reading) (k : Kept) (ts : List (ℕ × Text)) (ms : List (ℕ × Reason)) (from : ℕ) (found : Option Wanted) → is_in_instance there ≡ true → kept_in there ≡ Some k → IsFirst (IsUnsuppliedIn c k ts ms) from found
    → IsFirst (IsUnsuppliedThere c there ts ms) from found
first-there c (reading.Instance r) k ts ms from found i e f = subst (λ (z : Kept). IsFirst (IsUnsuppliedIn c z ts ms) from found) (sym (some-kept r.content.kept k e)) f
first-there c (reading.Prolog r) k ts ms from found i e f = absurd (not-so (sym i))
first-there c reading.Lost k ts ms from found i e f = absurd (not-so (sym i))

first-of : (p : Parser) (k : Kept) (from : ℕ) (result : Result (Option Wanted) Memory) → is_in_instance p.reading ≡ true → kept_in p.reading ≡ Some k
    → IfOk result (IsFirstUnsuppliedIn p.options k p.texts p.missing from) → IfOk result (IsFirstUnsupplied from p)
first-of p k from (Ok found) i e f = first-there p.options p.reading k p.texts p.missing from found i e f
first-of p k from (Err x) i e f = tt

-- the same of a parser as its code has it
pub first-is-found : (p inside : Parser) (o : Choices) (k : Kept) (from : ℕ) (result : Result (Option Wanted) Memory) → inside ≡ p → o ≡ inside.options → kept_in inside.reading ≡ Some k → is_in_instance p.reading ≡ true
    → IfOk result (IsFirstUnsuppliedIn o k inside.texts inside.missing from) → IfOk result (IsFirstUnsupplied from p)
first-is-found p inside o k from result same options kept i f =
    subst (λ (z : Parser). IfOk result (IsFirstUnsupplied from z)) same
    (first-of inside k from result (ap (λ (z : Parser). is_in_instance z.reading) same ∙ i) kept
    (subst (λ (z : Choices). IfOk result (IsFirstUnsuppliedIn z k inside.texts inside.missing from)) options f))

-- WHERE ONE MORE IS SUPPLIED, no other is left
none-more : (m n : ℕ) (bytes : Text) (ts : List (ℕ × Text)) → is_none (text_of (with_more m bytes ts) n) ≡ true → is_none (text_of ts n) ≡ true
none-more m n bytes ts h = by (n == m) refl
  where
    by : (b : Bool) → (n == m) ≡ b → is_none (text_of ts n) ≡ true
    by true e = absurd (not-so (sym h ∙ ap is_none (ap (text_of (with_more m bytes ts)) (eqb-true n m e) ∙ same-text m bytes ts)))
    by false e = ap is_none (sym (other-text m n bytes ts e)) ∙ h

none-missing-more : (m n : ℕ) (why : Reason) (ms : List (ℕ × Reason)) → is_none (why_missing (insert_entry nat_eq ms m why) n) ≡ true → is_none (why_missing ms n) ≡ true
none-missing-more m n why ms h = by (n == m) refl
  where
    by : (b : Bool) → (n == m) ≡ b → is_none (why_missing ms n) ≡ true
    by true e = absurd (not-so (sym h ∙ ap is_none (ap (why_missing (insert_entry nat_eq ms m why)) (eqb-true n m e) ∙ same-missing m why ms)))
    by false e = ap is_none (sym (other-missing m n why ms e)) ∙ h

text-less : (m n : ℕ) (given : Supply) (ts : List (ℕ × Text)) → is_none (text_of (texts_with m given ts) n) ≡ true → is_none (text_of ts n) ≡ true
text-less m n (supply.Text bytes) ts h = none-more m n (records bytes) ts h
text-less m n supply.Absent ts h = h
text-less m n supply.TooLarge ts h = h

missing-less : (m n : ℕ) (given : Supply) (ms : List (ℕ × Reason)) → is_none (why_missing (with_missing m (why_gone given) ms) n) ≡ true → is_none (why_missing ms n) ≡ true
missing-less m n (supply.Text bytes) ms h = h
missing-less m n supply.Absent ms h = none-missing-more m n Absent ms h
missing-less m n supply.TooLarge ms h = none-missing-more m n EntityTooLarge ms h

and-both : (a b : Bool) → a ≡ true → b ≡ true → (a && b) ≡ true
and-both true b e f = f
and-both false b e f = absurd (not-so (sym e))

unsupplied-before : (k : Kept) (ts : List (ℕ × Text)) (ms : List (ℕ × Reason)) (m n : ℕ) (given : Supply) → is_unsupplied k (texts_with m given ts) (with_missing m (why_gone given) ms) n ≡ true → is_unsupplied k ts ms n ≡ true
unsupplied-before k ts ms m n given h =
    let off = not (is_on n k.stack.places) in
    let text = is_none (text_of (texts_with m given ts) n) in
    let gone = is_none (why_missing (with_missing m (why_gone given) ms) n) in
    let rest = and-right off (text && gone) h in
    and-both off (is_none (text_of ts n) && is_none (why_missing ms n)) (and-left off (text && gone) h)
    (and-both (is_none (text_of ts n)) (is_none (why_missing ms n)) (text-less m n given ts (and-left text gone rest)) (missing-less m n given ms (and-right text gone rest)))

there-before : (c : Choices) (there : Reading) (ts : List (ℕ × Text)) (ms : List (ℕ × Reason)) (m : ℕ) (given : Supply) (v : Wanted) → IsUnsuppliedThere c there (texts_with m given ts) (with_missing m (why_gone given) ms) v
    → IsUnsuppliedThere c there ts ms v
there-before c (reading.Instance r) ts ms m given v u = record { declared = u.declared; unsupplied = unsupplied-before r.content.kept ts ms m v.entity given u.unsupplied; named = u.named }
there-before c (reading.Prolog r) ts ms m given v u = absurd u
there-before c reading.Lost ts ms m given v u = absurd u

pub before-supplied : (p : Parser) (m : ℕ) (given : Supply) (v : Wanted) → IsUnsupplied (supplied_after m given p) v → IsUnsupplied p v
before-supplied p m given v u = there-before p.options p.reading p.texts p.missing m given v u

supplied-so : (k : Kept) (ts : List (ℕ × Text)) (ms : List (ℕ × Reason)) (m : ℕ) (given : Supply) → is_unsupplied k (texts_with m given ts) (with_missing m (why_gone given) ms) m ≡ true → ⊥
supplied-so k ts ms m (supply.Text bytes) h =
    let off = not (is_on m k.stack.places) in
    let text = is_none (text_of (with_more m (records bytes) ts) m) in
    let gone = is_none (why_missing ms m) in
    not-so (sym (and-left text gone (and-right off (text && gone) h)) ∙ ap is_none (same-text m (records bytes) ts))
supplied-so k ts ms m supply.Absent h =
    let off = not (is_on m k.stack.places) in
    let text = is_none (text_of ts m) in
    let gone = is_none (why_missing (insert_entry nat_eq ms m Absent) m) in
    not-so (sym (and-right text gone (and-right off (text && gone) h)) ∙ ap is_none (same-missing m Absent ms))
supplied-so k ts ms m supply.TooLarge h =
    let off = not (is_on m k.stack.places) in
    let text = is_none (text_of ts m) in
    let gone = is_none (why_missing (insert_entry nat_eq ms m EntityTooLarge) m) in
    not-so (sym (and-right text gone (and-right off (text && gone) h)) ∙ ap is_none (same-missing m EntityTooLarge ms))

supplied-there : (c : Choices) (there : Reading) (ts : List (ℕ × Text)) (ms : List (ℕ × Reason)) (m : ℕ) (given : Supply) (v : Wanted) → v.entity ≡ m → IsUnsuppliedThere c there (texts_with m given ts) (with_missing m (why_gone given) ms) v → ⊥
supplied-there c (reading.Instance r) ts ms m given v i u =
    supplied-so r.content.kept ts ms m given (subst (λ (n : ℕ). is_unsupplied r.content.kept (texts_with m given ts) (with_missing m (why_gone given) ms) n ≡ true) i u.unsupplied)
supplied-there c (reading.Prolog r) ts ms m given v i u = absurd u
supplied-there c reading.Lost ts ms m given v i u = absurd u

pub supplied-once : (p : Parser) (m : ℕ) (given : Supply) (v : Wanted) → v.entity ≡ m → IsUnsupplied (supplied_after m given p) v → ⊥
supplied-once p m given v i u = supplied-there p.options p.reading p.texts p.missing m given v i u
