use Rattle.std.proofs.Common.{◌≡◌, ◌+◌, sym, ◌∙◌, drop}
use Rattle.sgml_declared.specs.Files.{sources_in}
use Rattle.sgml_declared.proofs.Numbered.{base_from, base-found, base-next, base-none}
use Rattle.sgml_declared.proofs.options.Options.base_at.Goals as goal
use Rattle.sgml_declared.proofs.options.Options.base_at.Goals.{in-Some+in_ok-file+in_default-2, in_default}

pub returns-in-Some-2 : goal.returns-in-Some-2
returns-in-Some-2 c = λ outside o.
    base-found outside (sources_in c.args.dtd.now c.args.subset.now) c.args.stack.now.places c.loop-level.level c.in-Some.place c.in-Some-2.file
    (sym c.place.ensures ∙ c.in-Some.is) (sym c.in-Some-2.is ∙ c.in_ok-file.ensures outside o) ∙ sym (c.loop-level.invariant outside o)

pub loop-level-preserved : goal.loop-level-preserved
loop-level-preserved c = λ outside o.
    let k = sources_in c.args.dtd.now c.args.subset.now in
    c.loop-level.invariant outside o
    ∙ elim c.match-place.branch as (λ w. base_from outside k (drop c.loop-level.level c.args.stack.now.places) ≡ base_from outside k (drop (c.loop-level.level + 1) c.args.stack.now.places)) [
      | in-Some+in_ok-file+in_default-2 w ↦ base-next outside k c.args.stack.now.places c.loop-level.level w.in-Some.place (sym c.place.ensures ∙ w.in-Some.is) (sym w.in_default-2.is ∙ w.in_ok-file.ensures outside o)
      | in_default w ↦ base-none outside k c.args.stack.now.places c.loop-level.level (sym c.place.ensures ∙ w.in_default.is)
    ]
