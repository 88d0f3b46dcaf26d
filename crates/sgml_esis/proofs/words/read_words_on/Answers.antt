use Rattle.std.proofs.Common.{[], ◌∷◌, ◌++◌, sym, ap, ◌∙◌, Some, None}
use Rattle.sgml_esis.specs.Reading.{words_on, strip}
use Rattle.sgml_esis.specs.Grammar.{is_none}
use Rattle.sgml_esis.proofs.Runs.{no_word, last_word, next_word}
use Rattle.sgml_esis.proofs.words.read_words_on.Goals as goal

pub returns-then-size-eq0 : goal.returns-then-size-eq0
returns-then-size-eq0 c = sym (sym c.words.invariant ∙ no_word c.words.rest.now c.words.names.items (sym c.word_run-size.ensures.value ∙ c.if-size-eq0.true))

pub returns-then-is_none : goal.returns-then-is_none
returns-then-is_none c =
    let none = sym (ap is_none c.split_at.ensures.back) ∙ sym c.is_none.ensures ∙ c.if-is_none.true in
    let read = last_word c.words.rest.now c.words.names.items c.word_run-size.result c.word_run-size.ensures.value c.if-size-eq0.false none in
    ap Some (c.of.ensures ∙ c.in_ok-push_word.ensures ∙ ap (λ w. c.words.names.items ++ w ∷ []) c.split_at.ensures.front) ∙ sym read ∙ c.words.invariant

pub returns-in_default : goal.returns-in_default
returns-in_default c =
    let some = sym (ap is_none c.split_at.ensures.back) ∙ sym c.is_none.ensures ∙ c.if-is_none.false in
    let read = next_word c.words.rest.now c.words.names.items c.word_run-size.result None c.word_run-size.ensures.value c.if-size-eq0.false some (c.in_default.ensures ∙ ap (strip (32 ∷ [])) c.split_at.ensures.back) in
    sym read ∙ c.words.invariant

pub words-preserved : goal.words-preserved
words-preserved c =
    let some = sym (ap is_none c.split_at.ensures.back) ∙ sym c.is_none.ensures ∙ c.if-is_none.false in
    let read = next_word c.words.rest.now c.words.names.items c.word_run-size.result (Some c.in-Some.more.now) c.word_run-size.ensures.value c.if-size-eq0.false some (c.in-Some.ensures ∙ ap (strip (32 ∷ [])) c.split_at.ensures.back) in
    ap (λ ns. words_on ns [] c.in-Some.more.now) (c.in_ok-push_word.ensures ∙ ap (λ w. c.words.names.items ++ w ∷ []) c.split_at.ensures.front) ∙ sym read ∙ c.words.invariant
