use Rattle.std.proofs.Common.{◌∙◌, ap, ℕ, take}
use Rattle.std.specs.List.{list_all}
use Rattle.sgml_decl_lexemes.specs.Declares.{is_plain}
use Rattle.sgml_decl_lexemes.proofs.Plainly.{all-front}
use Rattle.sgml_decl_lexemes.proofs.plain.plain_text.Goals as goal

pub returns-then-bytes-n-clause-plain : goal.returns-then-bytes-n-clause-plain
returns-then-bytes-n-clause-plain c =
    ap (λ (n : ℕ). list_all (is_plain c.args.quote) (take n c.args.bytes.now)) c.plain_length-n.ensures.value ∙ all-front (is_plain c.args.quote) c.args.bytes.now
