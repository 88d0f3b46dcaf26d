use Rattle.std.proofs.Common.{◌∙◌, ap, refl, arith, option_map, reverse, length}
use Rattle.std.specs.List.{slice_get}
use Rattle.std.proofs.lemmas.Option.{slice_get_read}
use Rattle.sgml_theory_reading.specs.Context.{Context}
use Rattle.sgml_theory_reading.specs.Context as reading
use Rattle.sgml_infer.proofs.Growing.{path-name, path-number}
use Rattle.sgml_infer.proofs.tree.Tree.path.Goals as goal

in-context : goal.returns-clause-context
in-context c = λ t.
    let tree = c.args.self.now in let i = c.args.level in
    path-name t tree.levels.items tree.depth i c.index.result.now c.requires.level
    (slice_get_read tree.levels.items (length tree.levels.items) i c.index.result.now refl (omega arith) c.index.ensures)

pub returns-clause-context : goal.returns-clause-context
returns-clause-context c = in-context c

pub returns-clause-open : goal.returns-clause-open
returns-clause-open c = λ t h stood.
    ap (λ (x : Context). option_map (λ (l : reading.Level). l.element) (slice_get (reverse x.levels) c.args.level)) stood ∙ in-context c t

pub returns-clause-number : goal.returns-clause-number
returns-clause-number c = λ t w.
    let tree = c.args.self.now in let i = c.args.level in
    path-number t tree.levels.items tree.depth i c.index.result.now c.requires.level
    (slice_get_read tree.levels.items (length tree.levels.items) i c.index.result.now refl (omega arith) c.index.ensures) w.levels
