use Rattle.std.proofs.Common.{◌≡◌, ◌∙◌, None, Some, refl, sym, ap, subst}
use Rattle.sgml_entity.specs.Stack.{moved}
use Rattle.sgml_starts.specs.Specified.{Specified}
use Rattle.sgml_starts.specs.Starts.{tables_of, HasValues}
use Rattle.sgml_starts.proofs.Lone.{lone-is}
use Rattle.sgml_content_steps.specs.theory_starts.Starts.{Table}
use Rattle.sgml_prolog_steps.specs.Found.{moved_on, rest_in}
use Rattle.sgml_content_steps.specs.Content.{Content}
use Rattle.sgml_content_tags.specs.Quick.{name_part}
use Rattle.sgml_content_tags.specs.Values.{start_for, specified_in}
use Rattle.sgml_content_tags.proofs.Numbered.{number-within}
use Rattle.sgml_content_tags.proofs.quick.defaults_there.Goals as goal

pub values_of-requires-clause-number : goal.values_of-requires-clause-number
values_of-requires-clause-number c = number-within c.args.content.now.kept.doctype _ c.args.tag.number c.requires.tag.named

pub returns-in-Ok-clause-ok : goal.returns-in-Ok-clause-ok
returns-in-Ok-clause-ok c =
    let old : Content = c.args.content.now in
    let mid : Content = c.values_of.new.content in
    let n = c.args.tag.length in
    let number = c.args.tag.number in
    let d = old.kept.doctype in
    let none = lone-is d.syntax d c.args.texts.now old.kept.stack n (tables_of d) (rest_in old.kept c.args.texts.now) (name_part 1 n) refl refl refl
    c.requires.alone.parts c.requires.alone.named in
    subst (λ (t : Table). HasValues (start_for old number) (specified_in old c.args.texts.now (Some n)) c.in-Ok.start t)
    (sym (ap (λ (z : Content). z.currents) c.advance.ensures))
    (subst (λ (a : Specified). HasValues (start_for old number) a c.in-Ok.start mid.currents) (sym none) c.in-Ok.ensures.ok)

pub returns-in-Ok-clause-after : goal.returns-in-Ok-clause-after
returns-in-Ok-clause-after c =
    let old : Content = c.args.content.now in
    let mid : Content = c.values_of.new.content in
    let n = c.args.tag.length in
    let d = old.kept.doctype in
    let none = lone-is d.syntax d c.args.texts.now old.kept.stack n (tables_of d) (rest_in old.kept c.args.texts.now) (name_part 1 n) refl refl refl
    c.requires.alone.parts c.requires.alone.named in
    let spent : old.kept.stack.spent ≡ (specified_in old c.args.texts.now (Some n)).spent = sym (ap (λ (a : Specified). a.spent) none) in
    let currents = sym (ap (λ (z : Content). z.currents) c.advance.ensures) in
    c.advance.ensures
    ∙ ap (λ (z : Content). record z { kept = moved_on n z.kept }) c.in-Ok.ensures.after
    ∙ (λ i. record old {
      kept = record old.kept { stack = record old.kept.stack { spent = spent i; places = moved n old.kept.stack.places } };
      currents = currents i;
    })
