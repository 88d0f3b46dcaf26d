-- Events one after another.
use Rattle.std.proofs.Common.{◌≡◌, ℕ, ◌+◌, ◌<◌, Bool, Option, List, ◌++◌, length, drop, get_or, sym, ap, ◌∙◌, append_assoc}
use Rattle.sgml_esis.specs.Writing.{Puts}
use Rattle.sgml_esis.proofs.Holding.{puts_then}
use Rattle.sgml_dtd.specs.Doctypes.{Doctype}
use Rattle.sgml_events.specs.declared.event.Event.{Event}
use Rattle.sgml_full.specs.declared.inside.Inside.{Inside}
use Rattle.sgml_full.specs.Events.{spelled_event, after_event, spelled_events}
use Rattle.sgml_said.proofs.Paired.{drop_here}

pub event_put : (d : Doctype) (es : List Event) (i : ℕ) (e : Event) (inside after : Inside) (whole : List ℕ) (t u w : Option (List ℕ)) (m n o : ℕ) (h j k : List ℕ × Bool) → i < length es → e ≡ get_or es i e → ((done : List ℕ) × (whole ≡ done ++ spelled_events d inside (drop i es)) × Puts t m h u n j done) → Puts u n j w o k (spelled_event d inside e) → after ≡ after_event d inside e → (done : List ℕ) × (whole ≡ done ++ spelled_events d after (drop (i + 1) es)) × Puts t m h w o k done
event_put d es i e inside after whole t u w m n o h j k lt is inv one to =
    let l = spelled_event d inside e in
    let rest = spelled_events d after (drop (i + 1) es) in
    let step : spelled_events d inside (drop i es) ≡ l ++ rest =
    ap (spelled_events d inside) (drop_here es i e lt is) ∙ ap (λ (x : Inside). l ++ spelled_events d x (drop (i + 1) es)) (sym to) in (
      inv.0 ++ l,
      inv.1 ∙ ap (λ x. inv.0 ++ x) step ∙ sym (append_assoc inv.0 l rest),
      puts_then t u w m n o h j k inv.0 l inv.2 one,
    )
