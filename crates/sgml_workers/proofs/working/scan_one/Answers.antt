use Rattle.std.proofs.Common.{rules, ◌∙◌, ◌<◌, length, get_or, List, ap}
use Rattle.sgml_runs.specs.declared.run.Chunk.{Chunk}
use Rattle.sgml_workers.proofs.ChunkRuns.{both_ok, right_run, cost_there}
use Rattle.sgml_workers.proofs.working.scan_one.Goals as goal

pub returns : goal.returns
returns g c =
    let d : Chunk = record { text = 0; from = 0; to = 0 } in
    let lt : c.args.chunk < length c.args.board.now.chunks.items = search rules in
    let q = get_or c.chunks.result.now c.args.chunk d in
    let is = ap (λ (l : List Chunk). get_or l c.args.chunk d) c.chunks.ensures in
    let cost = g.S.Scan.cost c.args.syntax.now c.args.texts.now in
    let costs = ap cost is ∙ cost_there cost c.args.board.now.chunks.items c.args.chunk d lt in
    record {
      counted = search (rules, costs);
      run = both_ok c.scan_chunk.result _ _ _
          (λ r chunk entries. right_run g.S.Scan.scanned g.S.Scan.lies c.args.board.now c.args.syntax.now c.args.texts.now c.requires.0 c.args.chunk d q r lt is chunk entries)
          c.scan_chunk.ensures.chunk c.scan_chunk.ensures.entries;
    }
