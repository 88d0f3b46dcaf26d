use Rattle.std.specs.Prelude.{◌≡◌, true, Ok}
use Rattle.std.proofs.Common.{sym, ap, ◌∙◌, subst}
use Rattle.sgml_theory_reading.specs.Pieces.{Meaning, ShortRef}
use Rattle.sgml_content_steps.specs.Content.{Content}
use Rattle.sgml_content_references.specs.Strings.{string_in}
use Rattle.sgml_content_references.specs.Ordinary.{has_items_in, is_content_in}
use Rattle.sgml_content_data.specs.Steps.{TellsPiece}
use Rattle.sgml_content_references.proofs.DataStanding.{ordinary-tells, means-content, nothing-passed, separators-passed}
use Rattle.sgml_content_references.proofs.ordinary.take_ordinary.Goals as goal

pub returns-then-is_content : goal.returns-then-is_content
returns-then-is_content c =
    let n = c.args.token.length in
    let old = c.args.content.now in
    let string = string_in old.kept c.args.texts.now n in
    let same = ap (λ (z : Content). string_in z.kept c.args.texts.now n) (sym c.content.view_is) ∙ sym c.string_there-string.ensures in
    let is : is_content_in old string ≡ true = ap (is_content_in old) same ∙ (sym c.is_content.ensures ∙ c.if-is_content.true) in
    ordinary-tells c.args.texts.now c.args.token old c.take_content.new.content c.args.told.now.items c.take_content.new.told.items c.take_content.result c.requires.stands
    (subst (λ (m : Meaning). TellsPiece c.args.texts.now n (ShortRef string m) old c.take_content.new.content c.args.told.now.items c.take_content.new.told.items c.take_content.result)
    (sym (means-content old string is)) c.take_content.ensures)

pub returns-then-items : goal.returns-then-items
returns-then-items c =
    let n = c.args.token.length in
    let old = c.args.content.now in
    let string = string_in old.kept c.args.texts.now n in
    let same = ap (λ (z : Content). string_in z.kept c.args.texts.now n) (sym c.content.view_is) ∙ sym c.string_there-string.ensures in
    ordinary-tells c.args.texts.now c.args.token old c.take_separators.new.content c.args.told.now.items c.args.told.now.items (Ok tt) c.requires.stands
    (separators-passed c.args.texts.now n string old c.take_separators.new.content c.args.told.now.items c.requires.content c.requires.some c.requires.within
    (ap (has_items_in old) same ∙ (sym c.has_items-items.ensures ∙ c.if-items.true)) (ap (is_content_in old) same ∙ (sym c.is_content.ensures ∙ c.if-is_content.false)) c.take_separators.ensures)

pub returns : goal.returns
returns c =
    let n = c.args.token.length in
    let old = c.args.content.now in
    let string = string_in old.kept c.args.texts.now n in
    let same = ap (λ (z : Content). string_in z.kept c.args.texts.now n) (sym c.content.view_is) ∙ sym c.string_there-string.ensures in
    ordinary-tells c.args.texts.now c.args.token old c.pass.new.content c.args.told.now.items c.args.told.now.items (Ok tt) c.requires.stands
    (nothing-passed c.args.texts.now n string old c.pass.new.content c.args.told.now.items c.requires.content c.requires.some c.requires.within
    (ap (has_items_in old) same ∙ (sym c.has_items-items.ensures ∙ c.if-items.false)) (ap (is_content_in old) same ∙ (sym c.is_content.ensures ∙ c.if-is_content.false)) c.pass.ensures)
