use Rattle.std.proofs.Common.{ap, sym, subst, ◌∙◌}
use Rattle.sgml_source.specs.parse.Parsing.{Parser, is_in_instance}
use Rattle.sgml_source.specs.declared.source.Phase.{Phase}
use Rattle.sgml_conversion.specs.Documents.{IsFedWhole}
use Rattle.sgml_conversion.proofs.Found.{in-prolog}
use Rattle.sgml_conversion.proofs.Fed.{fed-whole, ended-whole, still-outside}
use Rattle.sgml_conversion.proofs.document.parser_of.Goals as goal

pub returns-in-Going-clause-fed : goal.returns-in-Going-clause-fed
returns-in-Going-clause-fed c =
    let b = c.in_ok-parser in
    fed-whole c.args.options.value c.args.declaration b.parser c.feed.new.self c.args.bytes.now c.args.phase b.ensures.begins b.ensures.records c.in-Ok.ensures.fed

pub returns-in-Cut-clause-fed : goal.returns-in-Cut-clause-fed
returns-in-Cut-clause-fed c =
    let b = c.in_ok-parser in
    fed-whole c.args.options.value c.args.declaration b.parser c.feed.new.self c.args.bytes.now c.args.phase b.ensures.begins b.ensures.records c.in-Ok.ensures.fed

pub returns-in-Ok-end-clause-fed : goal.returns-in-Ok-end-clause-fed
returns-in-Ok-end-clause-fed c =
    let b = c.in_ok-parser in
    subst (λ (f : Phase). IsFedWhole c.args.options.value c.args.declaration c.args.bytes.now f c.end.new.self) (sym c.in-Whole.is)
    (ended-whole c.args.options.value c.args.declaration b.parser c.feed.new.self c.end.new.self c.args.bytes.now b.ensures.begins b.ensures.records c.in-Ok.ensures.fed c.in-Ok-end.ensures.ends
    (ap (λ (p : Parser). p.records) c.in-Ok-end.ensures.after))

pub returns-in-Going-clause-prolog : goal.returns-in-Going-clause-prolog
returns-in-Going-clause-prolog c =
    let b = c.in_ok-parser in
    still-outside b.parser c.feed.new.self c.args.bytes.now c.in-Ok.ensures.fed (in-prolog c.args.options.value c.args.declaration b.parser b.ensures.begins)

pub returns-in-Cut-clause-prolog : goal.returns-in-Cut-clause-prolog
returns-in-Cut-clause-prolog c =
    let b = c.in_ok-parser in
    still-outside b.parser c.feed.new.self c.args.bytes.now c.in-Ok.ensures.fed (in-prolog c.args.options.value c.args.declaration b.parser b.ensures.begins)

pub returns-in-Ok-end-clause-prolog : goal.returns-in-Ok-end-clause-prolog
returns-in-Ok-end-clause-prolog c =
    let b = c.in_ok-parser in
    ap (λ (p : Parser). is_in_instance p.reading) c.in-Ok-end.ensures.after
    ∙ still-outside b.parser c.feed.new.self c.args.bytes.now c.in-Ok.ensures.fed (in-prolog c.args.options.value c.args.declaration b.parser b.ensures.begins)
