use Rattle.std.proofs.Common.{◌≡◌, Bool, true, false, ◌||◌, ap, sym, ◌∙◌}
use Rattle.sgml_records.specs.Items.{RecordEnd}
use Rattle.sgml_records.specs.Facts.{Facts, facts, noted, takes_end, is_live}
use Rattle.sgml_records.specs.Puts.{put_of_end}
use Rattle.sgml_records.proofs.Steps.{facts-noted}
use Rattle.sgml_records.proofs.record_state.RecordState.re.Goals as goal

pub returns-clause-state : goal.returns-clause-state
unfolding noted
returns-clause-state c = λ earlier h.
    ap (λ (b : Bool). record { begun = true; after_record = true; content = false; waiting = b || c.self.inside.waiting }) c.is_live-live.ensures
    ∙ (ap (λ (f : Facts). record { begun = true; after_record = true; content = false; waiting = takes_end c.args.self.now || f.waiting }) c.self.view_is
    ∙ (ap (λ (f : Facts). noted f RecordEnd) h ∙ sym (facts-noted earlier RecordEnd)))

pub returns-clause-put : goal.returns-clause-put
unfolding facts
returns-clause-put c = λ earlier h.
    let live : c.is_live-live.result ≡ is_live earlier = c.is_live-live.ensures ∙ ap takes_end h in
    let waits : c.self.inside.waiting ≡ (facts earlier).waiting = ap (λ (f : Facts). f.waiting) (c.self.view_is ∙ h) in
    c.put_of_end.ensures ∙ (λ i. put_of_end (live i) (waits i))

pub returns-clause-noted : goal.returns-clause-noted
unfolding noted
returns-clause-noted c =
    ap (λ (b : Bool). record { begun = true; after_record = true; content = false; waiting = b || c.self.inside.waiting }) c.is_live-live.ensures
    ∙ ap (λ (f : Facts). record { begun = true; after_record = true; content = false; waiting = takes_end c.args.self.now || f.waiting }) c.self.view_is

pub returns-clause-told : goal.returns-clause-told
returns-clause-told c =
    let waits = ap (λ (f : Facts). f.waiting) c.self.view_is in c.put_of_end.ensures ∙ (λ i. put_of_end (c.is_live-live.ensures i) (waits i))
