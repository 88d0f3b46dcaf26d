use Rattle.sgml_declared.proofs.subset_end.take_subset_end.Goals as goal

pub returns-in-Ok-clause-ok : goal.returns-in-Ok-clause-ok
returns-in-Ok-clause-ok c outside n a ends =
    let x = c.in-Ok.ensures.ok outside n a ends in
    (record { lexemes = c.in-Ok.field-0; spent = c.read_subset_end.new.stack.spent }, x.lexed, x.stack, x.grown)
