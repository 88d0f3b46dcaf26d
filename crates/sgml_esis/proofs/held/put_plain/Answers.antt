use Rattle.std.proofs.Common.{List, ℕ, [], ◌∷◌, ◌++◌, Bool, take, ap, sym, ◌∙◌, append_assoc}
use Rattle.std.specs.Prelude.{if◌then◌else◌}
use Rattle.sgml_esis.proofs.Holding.{puts_more}
use Rattle.sgml_esis.proofs.held.put_plain.Goals as goal

pub returns-clause-puts : goal.returns-clause-puts
returns-clause-puts g c =
    let h : List ℕ × Bool = c.make_wide_room.new.held in
    let first : List ℕ = if c.args.wanted then c.args.b ∷ [] else [] in
    let front : List ℕ = take c.extend_plain.result c.args.bytes.now in
    puts_more _ _ _ _ _ _ _ (first ++ front) c.make_wide_room.ensures.puts
    (c.extend_plain.ensures.held
    ∙ ap (λ (x : List ℕ × Bool). (x.0 ++ front, x.1)) c.push_where.ensures
    ∙ ap (λ (v : List ℕ). (v, h.1)) (append_assoc h.0 first front))
