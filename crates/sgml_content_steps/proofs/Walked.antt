-- After the walk and the values of the omitted starts: the run that was judged, or the reason.
use Rattle.std.specs.Prelude.{◌≡◌, Some, length}
use Rattle.std.proofs.Common.{sym, ◌∙◌, subst}
use Rattle.sgml_text.specs.declared.reason.Reason.{Reason}
use Rattle.sgml_attr.specs.Currents.{SameCurrents}
use Rattle.sgml_infer.specs.sgml_dtd.Doctypes.{Doctype}
use Rattle.sgml_theory_starts.specs.theory_reading.State.{State}
use Rattle.sgml_theory_starts.specs.theory_standing.Held.{Held, state_of}
use Rattle.sgml_theory_starts.specs.theory_standing.Moves.{run_unvalued}
use Rattle.sgml_infer.specs.Seen.{started}
use Rattle.sgml_infer.specs.declared.tree.Tree.{Tree}
use Rattle.sgml_infer.specs.declared.visible.Visible.{Visible}
use Rattle.sgml_infer.specs.declared.visible.Chain.{Chain}
use Rattle.sgml_infer.specs.Trees.{context_in}
use Rattle.sgml_infer.specs.Visibles.{IsJudged, IsRefusedIn}
use Rattle.sgml_prolog_steps.specs.declared.stepping.Stop.{Stop}
use Rattle.sgml_prolog_steps.specs.declared.stepping.Stop.TheVariants as stop
use Rattle.sgml_content_steps.specs.Content.{Content, Holds, context_of}
use Rattle.sgml_content_steps.specs.declared.run.Run.{Run}
use Rattle.sgml_content_steps.specs.Starts.{IsBy, AreStartsValued, IsStopFor}
use Rattle.sgml_content_steps.specs.Runs.{IsRun, state_ended}
use Rattle.sgml_content_steps.specs.Judged.{IsRefusedFor}
use Rattle.sgml_content_steps.proofs.Between.{by-same, same-back}
use Rattle.sgml_content_steps.proofs.Standing.{refused-by-walk, refused-by-start, ended-by}

-- A CONTENT where a walk has left this tree
abbrev walked : Content → Tree → Content
walked c t = record c { tree = t }

-- the values of the starts may be kept in another table of the same current values
pub run-is : (z old : Content) (t : Tree) (new : Content) (visible : Visible) (run : Run) → z ≡ old → IsJudged z.kept.doctype t visible run.chain
    → ((s : State) → IsBy z.kept.doctype z.currents s → AreStartsValued z.kept.doctype s t.starts.items run.values.items)
    → length run.values.items ≡ length t.starts.items
    → new ≡ record (walked z t) { currents = new.currents } → SameCurrents new.currents z.currents
    → IsRun new visible run
run-is z old t new visible run kept is valued many e same =
    subst (λ (c : Content). IsRun c visible run) (sym e) (record {
      judged = is;
      as_many = many;
      valued = λ x h. valued _ (by-same z.kept.doctype z.currents new.currents _ (same-back new.currents z.currents same)
          (ended-by (record (walked z t) { currents = new.currents }) x h));
    })

-- what is held is held still
pub walked-holds : (c : Content) (t : Tree) (x : Held) → context_in c.kept.doctype t ≡ context_in c.kept.doctype c.tree → Holds c x → Holds (walked c t) x
walked-holds c t x e h = record {
  kept = h.kept;
  context = h.context ∙ sym e;
  record_ends = h.record_ends;
  map_settings = h.map_settings;
  ended = h.ended;
  currents = h.currents;
  apart = h.apart;
}

pub start-refuses : (z old : Content) (t : Tree) (visible : Visible) (chain : Chain) (x : Held) (r : Reason) (q : Stop) → z ≡ old
    → IsJudged z.kept.doctype t visible chain → ((d : Doctype) → context_in d t ≡ context_in d z.tree)
    → IsStopFor (λ (y : Reason). (s : State) → IsBy z.kept.doctype z.currents s → run_unvalued s (started z.kept.doctype t.starts.items) ≡ Some y) q
    → q ≡ stop.Refused r → Holds old x → IsRefusedFor old.kept.doctype visible (state_of x) r
start-refuses z old t visible chain x r q same is e none told h =
    subst (λ (c : Content). IsRefusedFor c.kept.doctype visible (state_of x) r) same
    (let refusal = subst (λ (y : Stop). IsStopFor (λ (y : Reason). (s : State) → IsBy z.kept.doctype z.currents s → run_unvalued s (started z.kept.doctype t.starts.items) ≡ Some y) y) told none (state_ended (walked z t) x) in
    let here = walked-holds z t x (e z.kept.doctype) (subst (λ (c : Content). Holds c x) (sym same) h) in
    refused-by-start (walked z t) visible chain x r is here (refusal (ended-by (walked z t) x here)))

pub walk-refuses : (z old : Content) (visible : Visible) (x : Held) (q r : Reason) → z ≡ old → IsRefusedIn z.kept.doctype (context_of z) visible q → q ≡ r
    → Holds old x → IsRefusedFor old.kept.doctype visible (state_of x) r
walk-refuses z old visible x q r same is e h =
    refused-by-walk old visible x r
    (subst (λ (c : Content). IsRefusedIn c.kept.doctype (context_of c) visible r) same (subst (λ (y : Reason). IsRefusedIn z.kept.doctype (context_of z) visible y) e is))
    h

-- and so where the content is told to be another
pub held-still : (v c : Content) (tree : Tree) (x : Held) → v ≡ c → ((t : Doctype) → context_in t tree ≡ context_in t v.tree) → Holds c x → Holds (walked v tree) x
held-still v c tree x e same h = walked-holds v tree x (same v.kept.doctype) (subst (λ (z : Content). Holds z x) (sym e) h)
