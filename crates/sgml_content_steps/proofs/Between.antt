-- Tags that are left out leave the document type and the current values as they are.
use Rattle.std.specs.Prelude.{◌≡◌, ℕ, ◌&&◌, ◌++◌, Bool, true, false, List, [], ◌∷◌, Option, Some, None, if◌then◌else◌}
use Rattle.std.specs.Option.{option_or}
use Rattle.std.proofs.Common.{refl, sym, ◌∙◌}
use Rattle.sgml_attr.specs.declared.value.AttrValue.{AttrValue}
use Rattle.sgml_attr.specs.Currents.{SameCurrents}
use Rattle.sgml_infer.specs.sgml_dtd.Doctypes.{Doctype}
use Rattle.sgml_theory_starts.specs.theory_reading.Names.{Name}
use Rattle.sgml_theory_starts.specs.theory_reading.Types.{has_same_list, has_current}
use Rattle.sgml_theory_starts.specs.theory_reading.Pieces.{Piece}
use Rattle.sgml_theory_starts.specs.theory_reading.Facets.{specified, declares}
use Rattle.sgml_theory_starts.specs.theory_reading.Context.{context_after}
use Rattle.sgml_theory_starts.specs.theory_reading.Omission.{omitted_start, omitted_end}
use Rattle.sgml_theory_starts.specs.theory_reading.Runs.{context_after_run}
use Rattle.sgml_theory_starts.specs.theory_reading.Currents.{value_by}
use Rattle.sgml_theory_starts.specs.theory_reading.State.{State, after_piece}
use Rattle.sgml_theory_starts.specs.theory_spelling.Attributes.{unvalued}
use Rattle.sgml_theory_starts.specs.Starts.{Table}
use Rattle.sgml_theory_starts.specs.theory_standing.Held.{state_after_run}
use Rattle.sgml_theory_starts.specs.theory_standing.Moves.{run_unvalued}
use Rattle.sgml_infer.specs.Tables.{name_at}
use Rattle.sgml_infer.specs.Seen.{started, ended}
use Rattle.sgml_content_steps.specs.Starts.{IsBy}

-- AFTER A RUN

pub context-after : (os : List Piece) (s : State) → (state_after_run os s).context ≡ context_after_run s.context os
unfolding after_piece
context-after [] s = refl
context-after (o ∷ os) s = context-after os (after_piece o s)

pub run-then : (os ps : List Piece) (s : State) → state_after_run (os ++ ps) s ≡ state_after_run ps (state_after_run os s)
run-then [] ps s = refl
run-then (o ∷ os) ps s = run-then os ps (after_piece o s)

-- ONE TAG

none-either : (b : Bool) (o : Option AttrValue) → option_or (if b then None else None) o ≡ o
none-either true o = refl
none-either false o = refl

pub by-start : (d : Doctype) (table : Table) (s : State) (n : Name) → IsBy d table s → IsBy d table (after_piece (omitted_start n) s)
unfolding after_piece context_after declares specified
by-start d table s n is = record {
  doctype = is.doctype;
  currents = λ e a.
      none-either (has_same_list s.context.doctype n e && has_current s.context.doctype n a) (s.currents e a) ∙ is.currents e a;
  apart = is.apart;
}

by-end : (d : Doctype) (table : Table) (s : State) (n : Name) → IsBy d table s → IsBy d table (after_piece (omitted_end n) s)
unfolding after_piece context_after declares specified
by-end d table s n is = record { doctype = is.doctype; currents = is.currents; apart = is.apart }

-- STARTS AND ENDS

pub by-starts : (d : Doctype) (table : Table) (ns : List ℕ) (s : State) → IsBy d table s → IsBy d table (state_after_run (started d ns) s)
by-starts d table [] s is = is
by-starts d table (n ∷ ns) s is = by-starts d table ns (after_piece (omitted_start (name_at d n)) s) (by-start d table s (name_at d n) is)

pub by-ends : (d : Doctype) (table : Table) (ns : List ℕ) (s : State) → IsBy d table s → IsBy d table (state_after_run (ended d ns) s)
by-ends d table [] s is = is
by-ends d table (n ∷ ns) s is = by-ends d table ns (after_piece (omitted_end (name_at d n)) s) (by-end d table s (name_at d n) is)

-- an end has no values
pub ends-unvalued : (d : Doctype) (ns : List ℕ) (ps : List Piece) (s : State)
    → run_unvalued s (ended d ns ++ ps) ≡ run_unvalued (state_after_run (ended d ns) s) ps
unfolding unvalued
ends-unvalued d [] ps s = refl
ends-unvalued d (n ∷ ns) ps s = ends-unvalued d ns ps (after_piece (omitted_end (name_at d n)) s)

-- THE SAME CURRENT VALUES in another table

same-value : (a b : Table) → SameCurrents a b → (o p : Option ℕ) → value_by b o p ≡ value_by a o p
same-value a b e (Some list) (Some attribute) = sym (e.same list attribute)
same-value a b e (Some list) None = refl
same-value a b e None (Some attribute) = refl
same-value a b e None None = refl

pub by-same : (d : Doctype) (new old : Table) (s : State) → SameCurrents new old → IsBy d old s → IsBy d new s
by-same d new old s e is = record { doctype = is.doctype; currents = λ n a. is.currents n a ∙ same-value new old e _ _; apart = is.apart }

pub same-back : (a b : Table) → SameCurrents a b → SameCurrents b a
same-back a b e = record { as_many = sym e.as_many; same = λ l i. sym (e.same l i) }

pub same-on : (a b c : Table) → SameCurrents a b → SameCurrents b c → SameCurrents a c
same-on a b c e f = record { as_many = e.as_many ∙ f.as_many; same = λ l i. e.same l i ∙ f.same l i }

pub same-itself : (a : Table) → SameCurrents a a
same-itself a = record { as_many = refl; same = λ l i. refl }
