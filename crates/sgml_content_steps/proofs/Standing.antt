-- What a piece comes to that was judged with a run.
use Rattle.std.specs.Prelude.{◌≡◌, List, Some, None, Option}
use Rattle.std.specs.Option.{option_or}
use Rattle.std.proofs.Common.{refl, sym, ap, ◌∙◌, subst}
use Rattle.sgml_text.specs.declared.reason.Reason.{Reason}
use Rattle.sgml_theory_starts.specs.theory_reading.Pieces.{Piece}
use Rattle.sgml_theory_starts.specs.theory_reading.Context.{Context}
use Rattle.sgml_theory_starts.specs.theory_reading.Runs.{LongestRunFrom, context_after_run}
use Rattle.sgml_theory_starts.specs.theory_reading.Reasons.{reason}
use Rattle.sgml_theory_starts.specs.theory_reading.Reads.{undefined}
use Rattle.sgml_theory_starts.specs.theory_reading.State.{State}
use Rattle.sgml_theory_starts.specs.theory_spelling.Attributes.{unvalued}
use Rattle.sgml_theory_starts.specs.theory_standing.Held.{Held, state_of, state_after_run}
use Rattle.sgml_theory_starts.specs.theory_standing.Moves.{run_unvalued, reason_against}
use Rattle.sgml_infer.specs.Seen.{started, ended}
use Rattle.sgml_infer.specs.declared.visible.Visible.{Visible}
use Rattle.sgml_infer.specs.declared.visible.Chain.{Chain}
use Rattle.sgml_infer.specs.Visibles.{IsVisible, IsJudged, IsRefusedIn, after_left_out}
use Rattle.sgml_content_steps.specs.Content.{Content, Holds, context_of}
use Rattle.sgml_content_steps.specs.declared.run.Run.{Run}
use Rattle.sgml_content_steps.specs.Starts.{IsBy}
use Rattle.sgml_content_steps.specs.Runs.{IsRun, run_of, state_left, state_ended}
use Rattle.sgml_content_steps.specs.Judged.{IsRefusedFor, JudgedMayStand}
use Rattle.sgml_content_steps.proofs.Between.{context-after, run-then, ends-unvalued, by-starts, by-ends}
use Rattle.sgml_content_steps.proofs.Valued.{starts-hold}

-- THE ROWS in their order
rows : (s : State) (os : List Piece) (p : Piece) (a b c : Option Reason)
    → undefined s.context p.kind ≡ None → reason (state_after_run os s).context p.kind ≡ a → run_unvalued s os ≡ b
    → unvalued (state_after_run os s) p.kind ≡ c → reason_against s os p ≡ option_or a (option_or b c)
rows s os p a b c u e f g = λ i. option_or (u i) (option_or (e i) (option_or (f i) (g i)))

-- a state in which the document type and the current values are those of a content
pub held-by : (c : Content) (x : Held) → Holds c x → IsBy c.kept.doctype c.currents (state_of x)
held-by c x h = record { doctype = ap (λ (k : Context). k.doctype) h.context; currents = h.currents; apart = h.apart }

pub ended-by : (c : Content) (x : Held) → Holds c x → IsBy c.kept.doctype c.currents (state_ended c x)
ended-by c x h = by-ends c.kept.doctype c.currents c.tree.ended.items (state_of x) (held-by c x h)

pub left-by : (c : Content) (x : Held) → Holds c x → IsBy c.kept.doctype c.currents (state_left c x)
left-by c x h =
    subst (λ (s : State). IsBy c.kept.doctype c.currents s)
    (sym (run-then (ended c.kept.doctype c.tree.ended.items) (started c.kept.doctype c.tree.starts.items) (state_of x)))
    (by-starts c.kept.doctype c.currents c.tree.starts.items (state_ended c x) (ended-by c x h))

pub left-context : (c : Content) (x : Held) → Holds c x → (state_left c x).context ≡ after_left_out c.kept.doctype c.tree
left-context c x h = context-after (run_of c) (state_of x) ∙ ap (λ (k : Context). context_after_run k (run_of c)) h.context

longest-of : (c : Content) (visible : Visible) (chain : Chain) (x : Held) (p : Piece) → IsJudged c.kept.doctype c.tree visible chain → Holds c x
    → IsVisible c.kept.doctype visible p.kind → LongestRunFrom (state_of x).context p.kind (run_of c)
longest-of c visible chain x p is h v =
    subst (λ (k : Context). LongestRunFrom k p.kind (run_of c)) (sym h.context) (is.longest p.kind v)

unopposed : (c : Content) (visible : Visible) (chain : Chain) (x : Held) (p : Piece) → IsJudged c.kept.doctype c.tree visible chain → Holds c x
    → IsVisible c.kept.doctype visible p.kind → reason (state_left c x).context p.kind ≡ None
unopposed c visible chain x p is h v = ap (λ (k : Context). reason k p.kind) (left-context c x h) ∙ is.no_reason p.kind v

run-holds : (c : Content) (visible : Visible) (run : Run) (x : Held) → IsRun c visible run → Holds c x → run_unvalued (state_of x) (run_of c) ≡ None
run-holds c visible run x is h =
    ends-unvalued c.kept.doctype c.tree.ended.items (started c.kept.doctype c.tree.starts.items) (state_of x)
    ∙ starts-hold c.kept.doctype c.tree.starts.items run.values.items (state_ended c x) (is.valued x h)

-- IT MAY STAND where it has values
pub judged-may-stand : JudgedMayStand
judged-may-stand c visible run x p content is h v u =
    let none = unopposed c visible run.chain x p is.judged h v in
    let valued = run-holds c visible run x is h in
    record {
      left = left-context c x h;
      currents = (left-by c x h).currents;
      moves = λ e. record {
        longest = longest-of c visible run.chain x p is.judged h v;
        visible = refl;
        no_reason = rows (state_of x) (run_of c) p None None None u none valued e;
      };
      against = λ r e. (run_of c, longest-of c visible run.chain x p is.judged h v, rows (state_of x) (run_of c) p None None (Some r) u none valued e);
    }

-- IT MAY NOT for a reason of the walk
pub refused-by-walk : (c : Content) (visible : Visible) (x : Held) (r : Reason) → IsRefusedIn c.kept.doctype (context_of c) visible r → Holds c x
    → IsRefusedFor c.kept.doctype visible (state_of x) r
refused-by-walk c visible x r is h p v u = (
  is.run,
  subst (λ (k : Context). LongestRunFrom k p.kind is.run) (sym h.context) (is.longest p.kind v),
  rows (state_of x) is.run p (Some r) (run_unvalued (state_of x) is.run) (unvalued (state_after_run is.run (state_of x)) p.kind) u
      (ap (λ (k : Context). reason k p.kind) (context-after is.run (state_of x) ∙ ap (λ (k : Context). context_after_run k is.run) h.context)
      ∙ is.because p.kind v)
      refl refl,
)

-- or since an omitted start has no values
pub refused-by-start : (c : Content) (visible : Visible) (chain : Chain) (x : Held) (r : Reason) → IsJudged c.kept.doctype c.tree visible chain → Holds c x
    → run_unvalued (state_ended c x) (started c.kept.doctype c.tree.starts.items) ≡ Some r
    → IsRefusedFor c.kept.doctype visible (state_of x) r
refused-by-start c visible chain x r is h e p v u = (
  run_of c,
  longest-of c visible chain x p is h v,
  rows (state_of x) (run_of c) p None (Some r) (unvalued (state_left c x) p.kind) u (unopposed c visible chain x p is h v)
      (ends-unvalued c.kept.doctype c.tree.ended.items (started c.kept.doctype c.tree.starts.items) (state_of x) ∙ e)
      refl,
)
