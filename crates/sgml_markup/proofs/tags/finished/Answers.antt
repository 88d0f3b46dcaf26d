use Rattle.std.proofs.Common.{◌∙◌, ap, sym, ◌||◌, []}
use Rattle.sgml_markup.specs.Tags.{is_good, tag_last, wrong_number_at, wrong_length_at}
use Rattle.sgml_markup.proofs.Walking.{number-with, length-with, or-none, if-tag-along}
use Rattle.sgml_markup.proofs.tags.finished.Goals as goal

pub returns : goal.returns
returns c =
    let s = c.args.syntax.now in
    let markup = c.args.markup.now in
    let walk = c.args.walk in
    let last = c.tag_last-last.ensures in
    let step = tag_last s c.args.closing c.args.at walk.state in
    let good = ap (λ st. is_good st.next) (sym last) ∙ sym c.is_good.ensures in
    let number = ap (λ t. walk.wrong_number || t) (number-with s markup step.part [])
    ∙ or-none walk.wrong_number (wrong_number_at s markup step.part) c.wrong_number_at.result
    (ap (λ st. wrong_number_at s markup st.part) (sym last) ∙ sym c.wrong_number_at.ensures)
    ∙ sym c.either.ensures in
    let long = ap (λ t. walk.wrong_length || t) (length-with s markup step.part [])
    ∙ or-none walk.wrong_length (wrong_length_at s markup step.part) c.wrong_length_at.result
    (ap (λ st. wrong_length_at s markup st.part) (sym last) ∙ sym c.wrong_length_at.ensures)
    ∙ sym c.either-2.ensures in
    c.if_tag.ensures ∙ if-tag-along c.args.kind (sym good) (sym number) (sym long)
