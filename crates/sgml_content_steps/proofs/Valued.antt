-- The values of omitted starts, one after another.
use Rattle.std.specs.Prelude.{◌≡◌, ◌+◌, ◌≤◌, ℕ, drop, ◌++◌, List, [], ◌∷◌, ◌⊎◌, Bool, Option, Some, None, is_some, if◌then◌else◌, true, false, length, slice_get}
use Rattle.std.specs.Option.{option_or}
use Rattle.std.proofs.Common.{refl, sym, ap, ◌∙◌, subst, append-nil, inl, inr}
use Rattle.std.proofs.lemmas.Bool.{cases_eq}
use Rattle.std.proofs.lemmas.List.{append_assoc}
use Rattle.std.proofs.Math.ListN.{drop_of_length-le}
use Rattle.sgml_text.specs.declared.reason.Reason.{Reason}
use Rattle.sgml_attr.specs.declared.value.AttrValue.{AttrValue}
use Rattle.sgml_attr.specs.Currents.{current_at, SameCurrents}
use Rattle.sgml_infer.specs.sgml_dtd.dtd_elements.Types.{ElementType, types}
use Rattle.sgml_infer.specs.sgml_dtd.dtd_attlists.Tables.{list_of}
use Rattle.sgml_infer.specs.sgml_dtd.Doctypes.{Doctype, definitions_at}
use Rattle.sgml_starts.specs.declared.error.StartError.TheVariants as error
use Rattle.sgml_starts.specs.declared.starts.StartValues.{StartValues}
use Rattle.sgml_starts.specs.Specified.{Input, Specified}
use Rattle.sgml_starts.specs.Currents.{is_current_at}
use Rattle.sgml_starts.specs.Currents as numbered
use Rattle.sgml_starts.specs.Values.{Start, refused}
use Rattle.sgml_starts.specs.Values as numbered_values
use Rattle.sgml_starts.specs.Starts.{start_of, input_of, list_in, definitions_in, HasValues, IsUnvalued}
use Rattle.sgml_starts.proofs.Lone.{lone-values}
use Rattle.sgml_syntax.specs.declared.syntax.Syntax.{Syntax}
use Rattle.sgml_theory_starts.specs.theory_reading.Pieces.{Omitted}
use Rattle.sgml_theory_starts.specs.theory_reading.State.{State, after_piece}
use Rattle.sgml_theory_starts.specs.theory_spelling.Attributes.{unvalued}
use Rattle.sgml_theory_starts.specs.Starts.{Table}
use Rattle.sgml_theory_starts.specs.theory_standing.Kept.{Kept}
use Rattle.sgml_theory_starts.specs.theory_standing.Moves.{run_unvalued}
use Rattle.sgml_infer.specs.Tables.{name_in, name_at, IsNumber}
use Rattle.sgml_infer.specs.Seen.{started}
use Rattle.sgml_infer.specs.declared.tree.Tree.{Tree}
use Rattle.sgml_infer.specs.Trees.{IsTreeOf}
use Rattle.sgml_infer.proofs.Numbers.{found-at}
use Rattle.sgml_theory_starts.specs.Valued.{IsStartOf}
use Rattle.sgml_theory_starts.proofs.Apart.{attributes-are-apart}
use Rattle.sgml_theory_starts.proofs.Pieces.{starts-are-valued, starts-are-unvalued}
use Rattle.sgml_prolog_steps.specs.declared.stepping.Stop.{Stop}
use Rattle.sgml_prolog_steps.specs.declared.stepping.Stop.TheVariants as stop
use Rattle.sgml_content_steps.specs.Content.{Content, IsContent}
use Rattle.sgml_content_steps.specs.Starts.{start_at, IsStartValued, AreStartsValued, IsBy, GoesOn, IsStopFor}
use Rattle.sgml_content_steps.proofs.Drops.{drop-at}
use Rattle.sgml_content_steps.proofs.Said.{values-are-said}
use Rattle.sgml_content_steps.proofs.Between.{by-start, by-same}

-- ONE START, by its number

is-start : (k : Kept) (table : Table) (s : State) (n : ℕ) → IsNumber k.doctype n → IsBy k.doctype table s
    → IsStartOf s k n table (name_at k.doctype n)
is-start k table s n is by =
    let e = found-at (types k.doctype.elements) n is in
    record {
      doctype = by.doctype;
      type = e.0;
      stands = e.1;
      named = ap name_in (sym e.1);
      apart = attributes-are-apart k.doctype (name_at k.doctype n) by.apart;
      currents = by.currents;
    }

-- with what it is told of a start that specifies nothing
abbrev nothing : ℕ → Specified
nothing spent = record { specs = []; stop = None; spent = spent }

abbrev asked : Kept → ℕ → Input
asked k spent = input_of k.doctype.syntax k.doctype [] (record k.stack { spent = spent })

-- the tables are those that are kept
same-start : (k : Kept) (table t : Table) (n : ℕ) (syntax : Syntax) (d : Doctype) → syntax ≡ d.syntax → d ≡ k.doctype → t ≡ table
    → start_of syntax d n t ≡ start_of k.doctype.syntax k.doctype n table
same-start k table t n syntax d e f g = λ i. start_of ((e ∙ ap (λ (x : Doctype). x.syntax) f) i) (f i) n (g i)

pub start-valued : (k : Kept) (table t new : Table) (n spent : ℕ) (syntax : Syntax) (d : Doctype) (told : StartValues)
    → IsNumber k.doctype n → syntax ≡ d.syntax → d ≡ k.doctype → t ≡ table
    → HasValues (start_of syntax d n t) (nothing spent) told new
    → (s : State) → IsBy k.doctype table s → IsStartValued k.doctype s n told.values
start-valued k table t new n spent syntax d told is e f g has s by =
    let h = subst (λ (S : Start). HasValues S (nothing spent) told new) (same-start k table t n syntax d e f g) has in
    let v = starts-are-valued s k (asked k spent) n table new (name_at k.doctype n) Omitted true false told (is-start k table s n is by) h in
    record {
      no_reason = v.no_reason;
      said = values-are-said k.doctype n s (name_at k.doctype n) [] Omitted true false told new is by.doctype refl v;
    }

pub start-unvalued : (k : Kept) (table t : Table) (n spent : ℕ) (syntax : Syntax) (d : Doctype) (r : Reason)
    → IsNumber k.doctype n → syntax ≡ d.syntax → d ≡ k.doctype → t ≡ table
    → IsUnvalued (numbered_values.unvalued (start_of syntax d n t) (nothing spent)) (error.Refused r)
    → (s : State) → IsBy k.doctype table s → unvalued s (start_at k.doctype n).kind ≡ Some r
start-unvalued k table t n spent syntax d r is e f g none s by =
    let h = subst (λ (S : Start). IsUnvalued (numbered_values.unvalued S (nothing spent)) (error.Refused r)) (same-start k table t n syntax d e f g) none in
    starts-are-unvalued s k (asked k spent) n table (name_at k.doctype n) Omitted true false (error.Refused r) (is-start k table s n is by) h

-- of an element type without an attribute list
is-none : (o : Option ℕ) → is_some o ≡ false → o ≡ None
is-none None h = refl
is-none (Some n) h = cc

list-none : (d : Doctype) (o : Option ElementType) → is_some (list_of d.lists (name_in o)) ≡ false → list_in d o ≡ None
list-none d None h = refl
list-none d (Some t) h = is-none (list_of d.lists t.name) h

-- it has no attributes
pub listless : (d : Doctype) (o : Option ElementType) → list_in d o ≡ None → definitions_in d o ≡ []
listless d None e = refl
listless d (Some t) e = ap (definitions_at d.lists) e

pub listless-valued : (c v : Content) (n : ℕ) (b : Bool) (values : List AttrValue) → IsContent c → v ≡ c → IsNumber c.kept.doctype n
    → ((d : Doctype) → IsTreeOf d v.tree → IsNumber d n → b ≡ is_some (list_of d.lists (name_at d n))) → b ≡ false → values ≡ []
    → (s : State) → IsBy c.kept.doctype c.currents s → IsStartValued c.kept.doctype s n values
listless-valued c v n b values is e number told none empty =
    let d = c.kept.doctype in
    let tree : IsTreeOf d v.tree = subst (λ (t : Tree). IsTreeOf d t) (sym (ap (λ (x : Content). x.tree) e)) is.tree in
    let o = slice_get (types d.elements) n in
    let l : list_in d o ≡ None = list-none d o (sym (told d tree number) ∙ none) in
    let S = start_of d.syntax d n c.currents in
    let start : StartValues = record { values = values; conref = false } in
    start-valued c.kept c.currents c.currents c.currents n 0 d.syntax d start number refl refl refl
    (lone-values S (nothing 0) 0 start (listless d o l) refl empty refl)

-- it sets no current value
given-none : (o : Option AttrValue) (S : Start) (values : List AttrValue) (i : ℕ) → option_or (numbered.given S [] values i) o ≡ o
given-none o S values i = elim (is_current_at (slice_get S.definitions i)) as (λ b. option_or (if b then None else None) o ≡ o) [ true ↦ refl | false ↦ refl ]

set-elsewhere : (S : Start) (values : List AttrValue) (new : Table) → numbered.AreCurrents S [] values new → (o : Option ℕ) → S.list ≡ o
    → (list i : ℕ) → current_at new list i ≡ current_at S.currents list i
set-elsewhere S values new is None e list i = is.elsewhere list i (λ f. let g : None ≡ Some list = sym e ∙ f in cc g)
set-elsewhere S values new is (Some one) e list i = of (cases_eq one list)
  where
    of : (one ≡ list) ⊎ (one ≡ list → ⊥) → current_at new list i ≡ current_at S.currents list i
    of (inl f) = is.here list i (e ∙ ap Some f) ∙ given-none (current_at S.currents list i) S values i
    of (inr f) = is.elsewhere list i (λ g. f (let h : Some one ≡ Some list = sym e ∙ g in cc h))

pub start-sets-none : (k : Kept) (table t new : Table) (n spent : ℕ) (syntax : Syntax) (d : Doctype) (told : StartValues) → d ≡ k.doctype → t ≡ table
    → HasValues (start_of syntax d n t) (nothing spent) told new → SameCurrents new table
start-sets-none k table t new n spent syntax d told f e has =
    let S = start_of syntax d n t in
    subst (λ (z : Table). SameCurrents new z) e
    (record { as_many = has.currents.as_many; same = set-elsewhere S told.values new has.currents S.list refl })

-- ONE AFTER ANOTHER

pub begins : (d : Doctype) (table : Table) (ns : List ℕ) (s : State) → IsBy d table s → GoesOn d ns table [] ns s
begins d table ns s by = record { here = s; by = by; valued = λ vs h. h; unvalued = λ r h. h }

goes-on : (d : Doctype) (all : List ℕ) (table new : Table) (values : List (List AttrValue)) (n : ℕ) (rest : List ℕ) (v : List AttrValue) (s : State)
    → ((t : State) → IsBy d table t → IsStartValued d t n v) → SameCurrents new table → GoesOn d all table values (n ∷ rest) s
    → GoesOn d all new (values ++ v ∷ []) rest s
goes-on d all table new values n rest v s is e g =
    let one = is g.here g.by in
    record {
      here = after_piece (start_at d n) g.here;
      by = by-same d new table (after_piece (start_at d n) g.here) e (by-start d table g.here (name_at d n) g.by);
      valued = λ vs h. subst (λ (xs : List (List AttrValue)). AreStartsValued d s all xs) (sym (append_assoc values (v ∷ []) vs)) (g.valued (v ∷ vs) (one, h));
      unvalued = λ r h. g.unvalued r (ap (λ o. option_or o (run_unvalued (after_piece (start_at d n) g.here) (started d rest))) one.no_reason ∙ h);
    }

-- THE STARTS of a list, up to a place; a content has the list and the document type
abbrev pub GoFrom : Doctype → List ℕ → Table → Table → List (List AttrValue) → ℕ → Type 0
GoFrom d all old table values at = (s : State) → IsBy d old s → GoesOn d all table values (drop at all) s

pub one-further : (d e : Doctype) (all listed : List ℕ) (old table new : Table) (values after : List (List AttrValue)) (at n : ℕ) (v : List AttrValue)
    → e ≡ d → listed ≡ all → slice_get listed at ≡ Some n → ((t : State) → IsBy e table t → IsStartValued e t n v) → SameCurrents new table
    → after ≡ values ++ v ∷ [] → GoFrom d all old table values at → GoFrom d all old new after (at + 1)
one-further d e all listed old table new values after at n v f g h is sets grown go s by =
    let here : drop at all ≡ n ∷ drop (at + 1) all = drop-at all at n (sym (ap (λ (ns : List ℕ). slice_get ns at) g) ∙ h) in
    let one = subst (λ (x : Doctype). (t : State) → IsBy x table t → IsStartValued x t n v) f is in
    subst (λ (xs : List (List AttrValue)). GoesOn d all new xs (drop (at + 1) all) s) (sym grown)
    (goes-on d all table new values n (drop (at + 1) all) v s one sets (subst (λ (ns : List ℕ). GoesOn d all table values ns s) here (go s by)))

pub one-stops : (d e : Doctype) (all listed : List ℕ) (old table : Table) (values : List (List AttrValue)) (at n : ℕ) (r : Reason)
    → e ≡ d → listed ≡ all → slice_get listed at ≡ Some n → GoFrom d all old table values at
    → ((t : State) → IsBy e table t → unvalued t (start_at e n).kind ≡ Some r) → (s : State) → IsBy d old s → run_unvalued s (started d all) ≡ Some r
one-stops d e all listed old table values at n r f g h go is s by =
    let here : drop at all ≡ n ∷ drop (at + 1) all = drop-at all at n (sym (ap (λ (ns : List ℕ). slice_get ns at) g) ∙ h) in
    let none = subst (λ (x : Doctype). (t : State) → IsBy x table t → unvalued t (start_at x n).kind ≡ Some r) f is in
    let g = subst (λ (ns : List ℕ). GoesOn d all table values ns s) here (go s by) in
    g.unvalued r (ap (λ o. option_or o (run_unvalued (after_piece (start_at d n) g.here) (started d (drop (at + 1) all)))) (none g.here g.by))

pub stop-weaker : (P Q : Reason → Type 0) (e : Stop) → ((r : Reason) → P r → Q r) → IsStopFor P e → IsStopFor Q e
stop-weaker P Q (stop.Refused r) f h = f r h
stop-weaker P Q (stop.Wanted entity file) f h = h
stop-weaker P Q stop.More f h = h
stop-weaker P Q stop.Memory f h = tt

pub all-valued : (d : Doctype) (all : List ℕ) (old table : Table) (values : List (List AttrValue)) (at : ℕ) → length all ≤ at → GoFrom d all old table values at
    → (s : State) → IsBy d old s → AreStartsValued d s all values
all-valued d all old table values at h go s by =
    let g = subst (λ (ns : List ℕ). GoesOn d all table values ns s) (drop_of_length-le all h) (go s by) in
    subst (λ (xs : List (List AttrValue)). AreStartsValued d s all xs) (append-nil values) (g.valued [] tt)

-- where all have values no reason holds
pub starts-hold : (d : Doctype) (ns : List ℕ) (vs : List (List AttrValue)) (s : State) → AreStartsValued d s ns vs → run_unvalued s (started d ns) ≡ None
starts-hold d [] [] s is = refl
starts-hold d (n ∷ ns) (v ∷ vs) s is =
    ap (λ o. option_or o (run_unvalued (after_piece (start_at d n) s) (started d ns))) is.0.no_reason ∙ starts-hold d ns vs (after_piece (start_at d n) s) is.1
starts-hold d [] (v ∷ vs) s is = absurd is
starts-hold d (n ∷ ns) [] s is = absurd is
