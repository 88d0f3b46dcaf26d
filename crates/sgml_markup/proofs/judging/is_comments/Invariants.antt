use Rattle.std.proofs.Common.{◌≡◌, drop}
use Rattle.sgml_delim.specs.declared.ends.Inside.TheVariants.{Between}
use Rattle.sgml_markup.specs.Forms.{is_comments}
use Rattle.sgml_markup.proofs.judging.is_comments.Given as goal

abbrev pub invariant-bytes : goal.invariant-bytes
invariant-bytes l = is_comments Between l.text ≡ is_comments l.inside (drop l.i l.text)
