use Rattle.std.proofs.Common.{◌∙◌, ap, sym, Some}
use Rattle.sgml_entity.specs.Texts.{text_of}
use Rattle.sgml_entity.proofs.Grown.{read_in, bytes_of}
use Rattle.sgml_entity.proofs.texts.Texts.hashed.Goals as goal

pub returns-in-Some : goal.returns-in-Some
returns-in-Some c =
    ap Some c.as_slice.ensures.value
    ∙ ap bytes_of c.in-Some.ensures.value
    ∙ sym (read_in c.args.entity c.self.inside.texts.entries)
    ∙ ap (λ ts. text_of ts c.args.entity) c.self.view_is

pub returns-in-None : goal.returns-in-None
returns-in-None c =
    ap bytes_of c.in-None.ensures.value
    ∙ sym (read_in c.args.entity c.self.inside.texts.entries)
    ∙ ap (λ ts. text_of ts c.args.entity) c.self.view_is
