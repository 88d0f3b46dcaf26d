use Rattle.std.proofs.Common.{refl}
use Rattle.sgml_content_data.proofs.Texts.{around-is}
use Rattle.sgml_content_data.proofs.around.has_text.Goals as goal

pub returns : goal.returns
returns c =
    λ i. (around-is c.args.content.now c.args.content.now c.innermost.result c.text_in.result _ c.requires refl c.innermost.ensures.open c.text_in.ensures refl i).text
