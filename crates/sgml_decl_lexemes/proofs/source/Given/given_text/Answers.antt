use Rattle.std.proofs.Common.{◌∙◌, sym, ap, ℕ}
use Rattle.sgml_entity.specs.Texts.{text_of}
use Rattle.sgml_decl_lexemes.specs.Sources.{Source, without}
use Rattle.sgml_decl_lexemes.proofs.Texts.{without-same, without-other}
use Rattle.sgml_decl_lexemes.proofs.source.Given.given_text.Goals as goal

pub returns-then-entity-self : goal.returns-then-entity-self
returns-then-entity-self c =
    sym (without-same c.self.inside.entity c.self.inside.texts.now)
    ∙ ap (λ (n : ℕ). text_of (without c.self.inside.entity c.self.inside.texts.now) n) (sym c.if-entity-self.true)
    ∙ ap (λ (I : Source). text_of I.texts c.args.entity) c.self.view_is

pub returns : goal.returns
returns c =
    c.get.ensures
    ∙ sym (without-other c.self.inside.entity c.args.entity c.self.inside.texts.now c.if-entity-self.false)
    ∙ ap (λ (I : Source). text_of I.texts c.args.entity) c.self.view_is
