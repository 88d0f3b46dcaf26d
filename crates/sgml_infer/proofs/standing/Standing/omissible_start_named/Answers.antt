use Rattle.std.proofs.Common.{ap, ◌∙◌, sym, Some}
use Rattle.sgml_infer.specs.Visibles.{kind_of}
use Rattle.sgml_infer.proofs.Contents.{number-within, name-found}
use Rattle.sgml_infer.proofs.Leaving.{not-declared}
use Rattle.sgml_infer.proofs.standing.Standing.omissible_start_named.Goals as goal

pub omissible_start_of-requires-clause-number : goal.omissible_start_of-requires-clause-number
omissible_start_of-requires-clause-number c = number-within c.args.self.now.dtd.now c.args.name.now c.in-Some.n (sym c.in-Some.ensures)

pub omissible_start_of-requires-clause-required : goal.omissible_start_of-requires-clause-required
omissible_start_of-requires-clause-required c = c.requires.required ∙ ap Some (sym (name-found c.args.self.now.dtd.now c.args.name.now c.in-Some.n (sym c.in-Some.ensures)))

pub returns-in-None-clause-may : goal.returns-in-None-clause-may
returns-in-None-clause-may c =
    let s = c.args.self.now in
    not-declared s c.requires.standing c.args.name.now (kind_of s.dtd.now c.args.visible) c.requires.required (sym c.in-None.ensures)
