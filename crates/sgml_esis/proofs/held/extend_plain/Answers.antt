use Rattle.std.proofs.Common.{List, ℕ, Bool, ◌+◌, ◌++◌, take, drop, sym, ap, ◌∙◌}
use Rattle.std.specs.List.{prefix_len}
use Rattle.sgml_esis.specs.Plain.{is_plain}
use Rattle.sgml_esis.proofs.Fronts.{prefix_past, held_more}
use Rattle.sgml_esis.proofs.held.extend_plain.Goals as goal

pub returns-clause-count : goal.returns-clause-count
returns-clause-count c =
    ap (λ k. c.extend_blocks-count.result + k) (c.extend_each.ensures.count ∙ ap (prefix_len is_plain) c.split_at.ensures.back)
    ∙ prefix_past is_plain c.args.bytes.now c.extend_blocks-count.result c.extend_blocks-count.ensures.plain c.extend_blocks-count.ensures.within

pub returns-clause-held : goal.returns-clause-held
returns-clause-held c =
    let h : List ℕ × Bool = c.extend_blocks-count.new.held in
    held_more c.args.held.now c.args.bytes.now c.extend_blocks-count.result c.extend_each.result h _ c.extend_blocks-count.ensures.held
    (c.extend_each.ensures.held ∙ ap (λ (v : List ℕ). (h.0 ++ take c.extend_each.result v, h.1)) c.split_at.ensures.back)
