use Rattle.std.proofs.Common.{◌^◌, ◌≡◌, ◌∙◌, ap, Some, List, ℕ, length, take, drop, subst}
use Rattle.sgml_entity.specs.Entities.{Tables}
use Rattle.sgml_entity.specs.Stack.{offset_of}
use Rattle.sgml_decl_lexemes.specs.Sources.{text_at, or_empty}
use Rattle.sgml_decl_lexemes.specs.Readings.{entity_of}
use Rattle.sgml_starts.proofs.Calm.{taken-again}
use Rattle.std.specs.Prelude.{IfOk, IfErr, OnOk}
use Rattle.sgml_starts.specs.Specified.{Specified, specified}
use Rattle.sgml_starts.specs.Values.{unvalued}
use Rattle.sgml_starts.specs.Starts.{start_of, input_of, HasValues, IsUnvalued}
use Rattle.sgml_starts.proofs.Numbered.{if-ok}
use Rattle.sgml_starts.proofs.Whole.{if-err, tables-are}
use Rattle.sgml_starts.proofs.Lone.{tag-is}
use Rattle.sgml_starts.proofs.Tags.{on-ok, always-ok, read-is, all-is, tag-fits}
use Rattle.sgml_starts.proofs.starts.read_values.Goals as goal

pub returns-clause-ok : goal.returns-clause-ok
returns-clause-ok c =
    let all : Specified = specified (input_of c.args.syntax.now c.args.dtd.now c.args.texts.now c.args.stack.now) (Some c.args.size) in
    let S = start_of c.args.syntax.now c.args.dtd.now c.args.element c.args.currents.now in
    let read = read-is c.args.syntax.now c.args.dtd.now c.args.texts.now c.args.stack.now c.args.size c.entities-entities.result.now c.unread.result.now c.in_ok-read.read c.read_tag.new.stack
    c.entities-entities.ensures.entities c.entities-entities.ensures.notations c.unread.ensures.value c.in_ok-read.ensures.ok in
    if-ok c.values_of.result c.values_of.ensures.ok (λ told h. subst (λ (a : Specified). HasValues S a told c.values_of.new.currents) (all-is all c.in_ok-read.read c.read_tag.new.stack read) (h all.spent))

pub returns-clause-spent : goal.returns-clause-spent
returns-clause-spent c =
    let read = read-is c.args.syntax.now c.args.dtd.now c.args.texts.now c.args.stack.now c.args.size c.entities-entities.result.now c.unread.result.now c.in_ok-read.read c.read_tag.new.stack
    c.entities-entities.ensures.entities c.entities-entities.ensures.notations c.unread.ensures.value c.in_ok-read.ensures.ok in
    on-ok c.values_of.result c.values_of.ensures.stop (λ none. read.spent none)

pub returns-clause-err : goal.returns-clause-err
returns-clause-err c =
    let all : Specified = specified (input_of c.args.syntax.now c.args.dtd.now c.args.texts.now c.args.stack.now) (Some c.args.size) in
    let S = start_of c.args.syntax.now c.args.dtd.now c.args.element c.args.currents.now in
    let read = read-is c.args.syntax.now c.args.dtd.now c.args.texts.now c.args.stack.now c.args.size c.entities-entities.result.now c.unread.result.now c.in_ok-read.read c.read_tag.new.stack
    c.entities-entities.ensures.entities c.entities-entities.ensures.notations c.unread.ensures.value c.in_ok-read.ensures.ok in
    if-err c.values_of.result c.values_of.ensures.err (λ e h. subst (λ (a : Specified). IsUnvalued (unvalued S a) e) (all-is all c.in_ok-read.read c.read_tag.new.stack read) (h all.spent))

pub returns-clause-fits : goal.returns-clause-fits
returns-clause-fits c =
    always-ok c.values_of.result
    (tag-fits c.args.syntax.now c.args.dtd.now c.args.texts.now c.args.stack.now c.args.size c.args.at (2 ^ 64) c.entities-entities.result.now c.unread.result.now
    c.entities-entities.ensures.entities c.entities-entities.ensures.notations c.unread.ensures.value c.requires.at c.unread.ensures.fits c.requires.tag.1)

pub returns-then-tag-le-SHORT-clause-ok : goal.returns-then-tag-le-SHORT-clause-ok
returns-then-tag-le-SHORT-clause-ok c =
    let S = start_of c.args.syntax.now c.args.dtd.now c.args.element c.args.currents.now in
    subst (λ (a : Specified). IfOk c.short_values.result (λ told. HasValues S a told c.short_values.new.currents))
    (tag-is c.args.syntax.now c.args.dtd.now c.args.texts.now c.args.stack.now c.args.size c.entities-entities.result.now c.unread.result.now
    c.entities-entities.ensures.entities c.entities-entities.ensures.notations c.unread.ensures.value)
    c.short_values.ensures.ok

pub returns-then-tag-le-SHORT-clause-spent : goal.returns-then-tag-le-SHORT-clause-spent
returns-then-tag-le-SHORT-clause-spent c =
    subst (λ (a : Specified). OnOk c.short_values.result (c.short_values.new.stack.spent ≡ a.spent))
    (tag-is c.args.syntax.now c.args.dtd.now c.args.texts.now c.args.stack.now c.args.size c.entities-entities.result.now c.unread.result.now
    c.entities-entities.ensures.entities c.entities-entities.ensures.notations c.unread.ensures.value)
    c.short_values.ensures.spent

pub returns-then-tag-le-SHORT-clause-err : goal.returns-then-tag-le-SHORT-clause-err
returns-then-tag-le-SHORT-clause-err c =
    let S = start_of c.args.syntax.now c.args.dtd.now c.args.element c.args.currents.now in
    subst (λ (a : Specified). IfErr c.short_values.result (IsUnvalued (unvalued S a)))
    (tag-is c.args.syntax.now c.args.dtd.now c.args.texts.now c.args.stack.now c.args.size c.entities-entities.result.now c.unread.result.now
    c.entities-entities.ensures.entities c.entities-entities.ensures.notations c.unread.ensures.value)
    c.short_values.ensures.err

pub returns-then-tag-le-SHORT-clause-fits : goal.returns-then-tag-le-SHORT-clause-fits
returns-then-tag-le-SHORT-clause-fits c =
    always-ok c.short_values.result
    (tag-fits c.args.syntax.now c.args.dtd.now c.args.texts.now c.args.stack.now c.args.size c.args.at (2 ^ 64) c.entities-entities.result.now c.unread.result.now
    c.entities-entities.ensures.entities c.entities-entities.ensures.notations c.unread.ensures.value c.requires.at c.unread.ensures.fits c.requires.tag.1)

pub short_values-requires-clause-text : goal.short_values-requires-clause-text
short_values-requires-clause-text c =
    let d = c.args.dtd.now in
    let t = c.entities-entities.result.now in
    let stack = c.args.stack.now in
    let n = c.args.size in
    let unread = c.unread.result.now in
    taken-again n unread
    ∙ ap (λ (u : List ℕ). take (length (take n unread)) u)
    (c.unread.ensures.value
    ∙ ap (λ (z : Tables). drop (offset_of stack.places) (or_empty (text_at z.entities c.args.texts.now (entity_of stack.places))))
    (tables-are d t c.entities-entities.ensures.entities c.entities-entities.ensures.notations))
