use Rattle.sgml_scan.specs.declared.classes.Run.TheVariants.{Chars}
use Rattle.sgml_delim.specs.declared.delim.Delim.TheVariants as d
use Rattle.sgml_scan.proofs.Standing.{found-not-one}
use Rattle.sgml_scan.proofs.Quick.{start-found, end-found, reference-found}
use Rattle.sgml_scan.proofs.stretches.begins_named.Goals as goal

pub returns-then-begins_start : goal.returns-then-begins_start
returns-then-begins_start c = λ t ended h.
    found-not-one c.args.syntax.now c.args.state ended Chars c.args.text.now d.Stago 1
    (start-found c.args.syntax.now c.args.state.mode c.args.state.net ended c.args.text.now (c.begins_start.ensures c.if-begins_start.true)) h

pub returns-then-begins_end : goal.returns-then-begins_end
returns-then-begins_end c = λ t ended h.
    found-not-one c.args.syntax.now c.args.state ended Chars c.args.text.now d.Etago 2
    (end-found c.args.syntax.now c.args.state.mode c.args.state.net ended c.args.text.now (c.begins_end.ensures c.if-begins_end.true)) h

pub returns : goal.returns
returns c = λ t ended h.
    found-not-one c.args.syntax.now c.args.state ended Chars c.args.text.now d.Ero 1
    (reference-found c.args.syntax.now c.args.state.mode c.args.state.net ended c.args.text.now (c.begins_reference.ensures t)) h
