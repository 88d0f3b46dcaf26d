use Rattle.std.proofs.Common.{◌∙◌, sym, ap, arith}
use Rattle.sgml_markup.specs.Forms.{begins_tagc}
use Rattle.sgml_markup.proofs.EndLemmas.{rest-of}
use Rattle.sgml_scan.proofs.LoneTags.{begins-lone}
use Rattle.sgml_scan.proofs.lone.lone_length.Goals as goal

pub returns-then-begins_tagc-clause-lone : goal.returns-then-begins_tagc-clause-lone
returns-then-begins_tagc-clause-lone c some =
    let n = c.short_name-name.result in
    begins-lone c.args.syntax.now c.args.text.now n (c.short_name-name.ensures.quick (omega (arith, c.if-name-eq0.false)))
    (ap begins_tagc (sym (rest-of n c.args.text.now)) ∙ sym c.begins_tagc.ensures.value ∙ c.if-begins_tagc.true)
