use Rattle.std.proofs.Common.{ℕ, List, false, None, sym, subst}
use Rattle.sgml_text.specs.declared.reason.Reason.{Reason}
use Rattle.sgml_declared.specs.Files.{Choices}
use Rattle.sgml_prolog.specs.Reading.{BeginsAtStart}
use Rattle.sgml_parse.specs.There as reading
use Rattle.sgml_parse.specs.Parsing.{parser}
use Rattle.sgml_parse.specs.Calls.{BeginsParsing}
use Rattle.sgml_parse.proofs.Gains.{begins}
use Rattle.sgml_parse.proofs.parser.Parser.begin.Goals as goal

pub returns-clause-begins : goal.returns-clause-begins
returns-clause-begins c =
    subst (λ (ms : List (ℕ × Reason)). BeginsParsing c.args.declaration c.args.options.value (parser c.args.options.value c.in_ok-texts.texts c.new-2.result false (reading.Prolog c.in_ok-prolog.prolog.value) None None ms None))
    (sym c.new-3.ensures)
    (begins c.args.declaration c.args.options.value c.new-2.result c.in_ok-prolog.prolog.value c.in_ok-texts.texts c.in_ok-texts.ensures
    (subst (BeginsAtStart c.args.declaration c.args.options.value) (sym c.in_ok-prolog.ensures.ok)
    (subst (λ (o : Choices). BeginsAtStart c.args.declaration o c.in_ok-begin.field-0) c.in_ok-shared.ensures c.in_ok-begin.ensures.begins)))
