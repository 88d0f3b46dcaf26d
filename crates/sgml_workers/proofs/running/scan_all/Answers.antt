use Rattle.std.proofs.Common.{List, All, IfOk, flat_map, sym, subst, ap, ◌≡◌, ◌∙◌}
use Rattle.sgml_runs.specs.declared.run.Chunk.{Chunk}
use Rattle.sgml_workers.proofs.ChunkRuns.{flat}
use Rattle.sgml_workers.proofs.running.scan_all.Goals as goal

pub returns : goal.returns
returns g c =
    let b = c.in_ok-board.board in
    let made = c.in_ok-board.ensures in
    let s = c.args.syntax.now in
    let x = c.args.texts.now in
    let scanned = g.S.Scan.scanned in
    let lying : All (g.S.Scan.lies x) b.chunks.items = subst (λ (ps : List Chunk). All (g.S.Scan.lies x) ps) (sym made.chunks) c.requires.1 in
    subst (λ ys. IfOk c.read_beside-pass.result.1 (λ all. all.items ≡ ys))
    (flat scanned g.S.Scan.lies b s x (record { of_syntax = made.made_for.0; of_texts = made.made_for.1; chunks = lying }) ∙ ap (λ (ps : List Chunk). flat_map (scanned s x) ps) made.chunks)
    c.read_beside-pass.ensures.answers
