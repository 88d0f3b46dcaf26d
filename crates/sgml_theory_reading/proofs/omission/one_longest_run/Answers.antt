use Rattle.sgml_theory_reading.proofs.Runs.{longest-run, run-bounded, one-run}
use Rattle.sgml_theory_reading.proofs.omission.one_longest_run.Goals as goal

pub returns : goal.returns
returns c = record { there = longest-run; bounded = run-bounded; one = one-run }
