use Rattle.sgml_esis.specs.Writing.{where_wanted}
use Rattle.std.proofs.Common.{List, ℕ, [], ◌∷◌, ◌++◌, Bool, ap, sym, ◌∙◌, append_assoc}
use Rattle.std.specs.Prelude.{if◌then◌else◌}
use Rattle.sgml_esis.proofs.Holding.{puts_more}
use Rattle.sgml_esis.proofs.held.put_short_line.Goals as goal

pub returns : goal.returns
returns g c =
    let h : List ℕ × Bool = c.make_wide_room.new.held in
    let short : List ℕ = c.args.short.now in
    let end : List ℕ = if c.args.within then 10 ∷ [] else [] in
    puts_more _ _ _ _ _ _ _ (end ++ (c.args.mark ∷ short)) c.make_wide_room.ensures.puts
    (c.extend_short.ensures
    ∙ ap (λ (x : List ℕ × Bool). (x.0 ++ short, x.1)) c.push.ensures
    ∙ ap (λ (x : List ℕ × Bool). ((x.0 ++ c.args.mark ∷ []) ++ short, x.1)) c.push_where.ensures
    ∙ ap (λ (v : List ℕ). (v, h.1)) (append_assoc (h.0 ++ end) (c.args.mark ∷ []) short ∙ append_assoc h.0 end (c.args.mark ∷ short)))

pub returns-then-goes_nowhere : goal.returns-then-goes_nowhere
returns-then-goes_nowhere g c = c.put_unseen.ensures (where_wanted c.args.within 10 ++ (c.args.mark ∷ c.args.short.now))
