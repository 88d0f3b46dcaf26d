use Rattle.std.proofs.Common.{◌∙◌, ◌<◌, length, ap, arith, rules}
use Rattle.sgml_runs.specs.Names.{runs_of}
use Rattle.sgml_workers.proofs.ChunkRuns.{one_more, next_cost}
use Rattle.sgml_workers.proofs.reading.read_all.Goals as goal

pub loop-chunk-preserved : goal.loop-chunk-preserved
loop-chunk-preserved g c =
    let i = c.loop-chunk.invariant in
    let p = c.run_of.ensures.pass in
    let cost = g.S.Scan.cost c.args.syntax.now c.args.texts.now in
    let cs = c.args.board.now.chunks.items in
    let there : c.loop-chunk.chunk < length cs = search rules in
    let next = next_cost cost cs c.loop-chunk.chunk there in (
      p.0,
      record { parts = p.1.parts ∙ i.1.parts; nones = p.1.nones ∙ i.1.nones; leads = p.1.leads ∙ i.1.leads },
      (λ k le. c.run_of.ensures.taken k (λ e. omega arith) ∙ i.2 k (omega arith)),
      one_more (runs_of g.S.Scan.scanned c.args.board.now) c.loop-chunk.chunk c.in_ok-run.run' c.loop-chunk.all.items c.append.new.self.items c.into_entries.result.items c.in_ok-run.ensures.run (ap (λ v. v.items) c.into_entries.ensures) c.in_ok-append.ensures.items i.3,
      search (rules, next),
    )

pub returns-in_err-run-clause-counted : goal.returns-in_err-run-clause-counted
returns-in_err-run-clause-counted g c =
    let cs = c.args.board.now.chunks.items in
    let there : c.loop-chunk.chunk < length cs = search rules in
    let next = next_cost (g.S.Scan.cost c.args.syntax.now c.args.texts.now) cs c.loop-chunk.chunk there in
    omega (arith, next, c.loop-chunk.invariant.4, c.run_of.ensures.counted)

pub returns-in_err-append-clause-counted : goal.returns-in_err-append-clause-counted
returns-in_err-append-clause-counted g c =
    let cs = c.args.board.now.chunks.items in
    let there : c.loop-chunk.chunk < length cs = search rules in
    let next = next_cost (g.S.Scan.cost c.args.syntax.now c.args.texts.now) cs c.loop-chunk.chunk there in
    omega (arith, next, c.loop-chunk.invariant.4, c.run_of.ensures.counted)
