use Rattle.std.proofs.Common.{◌∙◌, ◌<◌, ◌≤◌, subst, arith}
use Rattle.sgml_declared.specs.theory_standing.Next.{left_to_read}
use Rattle.sgml_prolog.specs.Reading.{ReadsOn}
use Rattle.sgml_prolog.proofs.Advancing.{goes-further}
use Rattle.sgml_prolog.proofs.Passed.{passed-kept, passed-expand, passed-goes, passed-left}
use Rattle.sgml_prolog.proofs.reading.read_on.Goals as goal

pub advance-requires-clause-kept : goal.advance-requires-clause-kept
advance-requires-clause-kept g c =
    passed-kept c.args.options.now c.args.texts.now c.args.ended c.reading.asked c.reading.kept c.pass_separators.new.kept c.reading.invariant.kept c.pass_separators.ensures.passed

pub advance-requires-clause-expand : goal.advance-requires-clause-expand
advance-requires-clause-expand g c =
    passed-expand c.args.options.now c.args.texts.now c.args.ended c.reading.asked c.reading.kept c.pass_separators.new.kept c.pass_separators.ensures.passed
    ∙ (c.reading.invariant.expand ∙ c.requires.expand)

pub returns-in-Some-clause-reads : goal.returns-in-Some-clause-reads
returns-in-Some-clause-reads g c =
    subst (λ z. ReadsOn c.args.options.now c.args.texts.now c.args.ended c.args.kept.now c.advance.new.kept z c.advance.new.asked c.in-Some.answer) c.reading.invariant.asked
    (c.in-Some.ensures.advances c.args.kept.now
    (passed-goes c.args.options.now c.args.texts.now c.args.ended c.reading.asked c.args.kept.now c.reading.kept c.pass_separators.new.kept c.reading.invariant.goes c.pass_separators.ensures.passed))

pub returns-in-Some-clause-expand : goal.returns-in-Some-clause-expand
returns-in-Some-clause-expand g c =
    c.in-Some.ensures.expand
    ∙ (passed-expand c.args.options.now c.args.texts.now c.args.ended c.reading.asked c.reading.kept c.pass_separators.new.kept c.pass_separators.ensures.passed ∙ c.reading.invariant.expand)

pub reading-smaller : goal.reading-smaller
reading-smaller g c =
    let less : left_to_read c.advance.new.kept c.args.texts.now < left_to_read c.pass_separators.new.kept c.args.texts.now = c.in-None.ensures.advances.falls in
    let left = passed-left c.args.options.now c.args.texts.now c.args.ended c.reading.asked c.reading.kept c.pass_separators.new.kept c.pass_separators.ensures.passed in
    omega (arith, less, left)

pub reading-preserved : goal.reading-preserved
reading-preserved g c =
    let passed = passed-goes c.args.options.now c.args.texts.now c.args.ended c.reading.asked c.args.kept.now c.reading.kept c.pass_separators.new.kept c.reading.invariant.goes c.pass_separators.ensures.passed in record {
      goes = goes-further c.args.options.now c.args.texts.now c.args.ended c.reading.asked c.advance.new.asked c.args.kept.now c.pass_separators.new.kept c.advance.new.kept passed
          c.in-None.ensures.advances c.in-None.ensures.asked;
      kept = c.in-None.ensures.kept;
      expand = c.in-None.ensures.expand
          ∙ (passed-expand c.args.options.now c.args.texts.now c.args.ended c.reading.asked c.reading.kept c.pass_separators.new.kept c.pass_separators.ensures.passed ∙ c.reading.invariant.expand);
      asked = c.in-None.ensures.asked ∙ c.reading.invariant.asked;
      noted = c.in-None.ensures.noted;
    }
