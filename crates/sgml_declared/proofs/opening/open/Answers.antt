use Rattle.std.proofs.Common.{◌≡◌, sym, ◌∙◌, Some, None}
use Rattle.sgml_decl_lexemes.specs.Sources.{text_at}
use Rattle.sgml_declared.specs.Files.{sources_in}
use Rattle.sgml_declared.proofs.Opened.{opens-recursive, opens-wanting-as, opens-push}
use Rattle.sgml_declared.proofs.opening.open.Goals as goal

pub returns-then-is_on-clause-opens : goal.returns-then-is_on-clause-opens
returns-then-is_on-clause-opens c =
    opens-recursive c.args.options.now (sources_in c.args.dtd.now c.args.subset.now) c.args.texts.now c.args.stack.now c.args.number (sym c.is_on.ensures ∙ c.if-is_on.true)

pub returns-in-Some-clause-opens : goal.returns-in-Some-clause-opens
returns-in-Some-clause-opens c =
    let there : text_at c.args.dtd.now.entities c.args.texts.now c.args.number ≡ Some c.in-Some.text.now = sym c.in-Some.ensures in
    opens-push c.args.options.now (sources_in c.args.dtd.now c.args.subset.now) c.args.texts.now c.args.stack.now c.push.new.stack c.args.number c.in-Some.text.now c.push.result
    there c.push.ensures.refused c.push.ensures.ok

pub returns-in_ok-file_of-in-None-clause-opens : goal.returns-in_ok-file_of-in-None-clause-opens
returns-in_ok-file_of-in-None-clause-opens c =
    let absent : text_at c.args.dtd.now.entities c.args.texts.now c.args.number ≡ None = sym c.in-None.ensures in
    opens-wanting-as c.args.options.now (sources_in c.args.dtd.now c.args.subset.now) c.args.texts.now c.args.stack.now c.args.number c.in_ok-file_of-in-None.field-0 c.wanting.result
    c.wanting.ensures (sym c.is_on.ensures ∙ c.if-is_on.false) absent c.in_ok-file_of-in-None.ensures
