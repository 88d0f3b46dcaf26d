-- What the ends of a run make of what stands inside the open elements is what they make of the state.
use Rattle.std.specs.Prelude.{◌≡◌, ℕ, ◌++◌, List, [], ◌∷◌, option_map}
use Rattle.std.proofs.Common.{refl, sym, ap, ◌∙◌}
use Rattle.sgml_infer.specs.sgml_dtd.Doctypes.{Doctype}
use Rattle.sgml_said.specs.Told.{all_said}
use Rattle.sgml_theory_starts.specs.theory_reading.Names.{Name}
use Rattle.sgml_theory_starts.specs.theory_reading.Facets.{effect, ended_type, declares}
use Rattle.sgml_theory_starts.specs.theory_reading.Nest.{without_first}
use Rattle.sgml_theory_starts.specs.theory_reading.Context.{Context, context_after}
use Rattle.sgml_theory_starts.specs.theory_reading.Omission.{omitted_end}
use Rattle.sgml_theory_starts.specs.theory_reading.Runs.{context_after_run}
use Rattle.sgml_theory_starts.specs.theory_reading.State.{State, after_piece}
use Rattle.sgml_theory_starts.specs.theory_reading.Events.{Ended, events_at, events_of_run, shown}
use Rattle.sgml_theory_starts.specs.theory_spelling.Spelled.{forms}
use Rattle.sgml_theory_starts.specs.theory_standing.Held.{state_after_run}
use Rattle.sgml_infer.specs.Tables.{name_at}
use Rattle.sgml_infer.specs.Seen.{ended}
use Rattle.sgml_inside.specs.Inside.{Inside, ends_in, settings_in}
use Rattle.sgml_inside.specs.Laws.{AreInForce}
use Rattle.sgml_inside.proofs.Forced.{ended-is-after, stays}
use Rattle.sgml_content_steps.specs.Begun.{ended_in, all_ended_in, ends_told}
use Rattle.sgml_content_steps.proofs.Said.{same-name}

-- WHAT STANDS INSIDE is that of a state
pub record IsOf (d : Doctype) (v : Inside) (s : State) : Type 0 where
  pub record_ends : s.record_ends ≡ ends_in v.elements
  pub map_settings : s.map_settings ≡ settings_in v.elements
  pub ended : s.ended ≡ option_map (name_at d) v.ended

pub end-inside : (d : Doctype) (v : Inside) (s : State) (n : ℕ) → IsOf d v s → IsOf d (ended_in n v) (after_piece (omitted_end (name_at d n)) s)
unfolding after_piece effect ended_type
end-inside d v s n is = record {
  record_ends = ap without_first is.record_ends ∙ sym (ended-is-after v.elements).0;
  map_settings = ap without_first is.map_settings ∙ sym (ended-is-after v.elements).1;
  ended = refl;
}

pub ends-inside : (d : Doctype) (ns : List ℕ) (v : Inside) (s : State) → IsOf d v s → IsOf d (all_ended_in ns v) (state_after_run (ended d ns) s)
ends-inside d [] v s is = is
ends-inside d (n ∷ ns) v s is = ends-inside d ns (ended_in n v) (after_piece (omitted_end (name_at d n)) s) (end-inside d v s n is)

-- AND THE MAPS in force are those of what stands open
pub ends-doctype : (d : Doctype) (ns : List ℕ) (c : Context) → (context_after_run c (ended d ns)).doctype ≡ c.doctype
unfolding context_after declares
ends-doctype d [] c = refl
ends-doctype d (n ∷ ns) c = ends-doctype d ns (context_after (omitted_end (name_at d n)) c)

pub ends-forced : (d : Doctype) (ns : List ℕ) (v : Inside) (c : Context) → AreInForce d c.levels v.elements
    → AreInForce d (context_after_run c (ended d ns)).levels (all_ended_in ns v).elements
unfolding context_after effect
ends-forced d [] v c is = is
ends-forced d (n ∷ ns) v c is =
    ends-forced d ns (ended_in n v) (context_after (omitted_end (name_at d n)) c) (stays d c.levels v.elements is).closed

-- WHAT IS TOLD
end-told : (s : State) (n : Name) → events_at forms s (omitted_end n) ≡ Ended n ∷ []
unfolding shown
end-told s n = refl

pub ends-said : (d : Doctype) (ns : List ℕ) (s : State) → all_said d (ends_told ns) ≡ events_of_run forms s (ended d ns)
ends-said d [] s = refl
ends-said d (n ∷ ns) s = λ i.
    (ap (λ m. Ended m ∷ []) (same-name d n) ∙ sym (end-told s (name_at d n))) i
    ++ ends-said d ns (after_piece (omitted_end (name_at d n)) s) i
