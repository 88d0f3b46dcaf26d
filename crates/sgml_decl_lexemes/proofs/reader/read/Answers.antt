use Rattle.std.proofs.Common.{◌≡◌, ◌∙◌, sym, ap, ℕ, Some}
use Rattle.std.proofs.lemmas.Result.{IfOk-weaker, MatchResult-weaker, on_ok_weaker}
use Rattle.sgml_entity.specs.Stack.{top_of, moved_to}
use Rattle.sgml_decl_lexemes.specs.Declares.{Asked, asked, own, Whole}
use Rattle.sgml_decl_lexemes.proofs.Answering.{begun-some, begun-enough, own-is, no-own, source-is, whole-ok, whole-err}
use Rattle.sgml_decl_lexemes.proofs.Ending.{own-size, own-quote}
use Rattle.sgml_decl_lexemes.proofs.Going.{not-moved}
use Rattle.sgml_decl_lexemes.proofs.reader.read.Goals as goal

pub returns-in-Err-clause-err : goal.returns-in-Err-clause-err
returns-in-Err-clause-err c =
    let q : Asked = asked c.args.construct c.args.syntax.now c.args.entities.now c.args.texts.now c.args.stack.now c.args.ended in
    let top : top_of c.args.stack.now.places ≡ Some c.in-Some.place = sym c.in-Some.ensures in
    no-own q _ c.in-Err.error (own-is q c.in-Some.place c.grows-grows.result c.text_of-text.result.now top c.grows-grows.ensures c.text_of-text.ensures) c.in-Err.ensures.err

pub returns-in-Err-clause-on_top : goal.returns-in-Err-clause-on_top
returns-in-Err-clause-on_top c = not-moved c.args.stack.now (begun-some c.args.construct c.args.entities.now.entities c.args.texts.now c.args.stack.now.places c.requires.begins)

pub own_scanned-requires-clause-before : goal.own_scanned-requires-clause-before
own_scanned-requires-clause-before c =
    rw c.text_of-text.ensures (begun-enough c.args.construct c.args.entities.now.entities c.args.texts.now c.args.stack.now.places c.in-Some.place c.requires.begins (sym c.in-Some.ensures))

pub returns-clause-ok : goal.returns-clause-ok
returns-clause-ok c =
    let q : Asked = asked c.args.construct c.args.syntax.now c.args.entities.now c.args.texts.now c.args.stack.now c.args.ended in
    let top : top_of c.args.stack.now.places ≡ Some c.in-Some.place = sym c.in-Some.ensures in
    let whole : Whole c.in-Ok.own.now ≡ own q = sym c.in-Ok.ensures.ok ∙ own-is q c.in-Some.place c.grows-grows.result c.text_of-text.result.now top c.grows-grows.ensures c.text_of-text.ensures in
    let same = source-is q c.in-Some.place c.in-Ok.own.now c.height.result top c.height.ensures in
    IfOk-weaker c.read_own.result _ _ (λ ds d. whole-ok q c.in-Ok.own.now _ ds _ whole same d) c.read_own.ensures.ok

pub returns-clause-err : goal.returns-clause-err
returns-clause-err c =
    let q : Asked = asked c.args.construct c.args.syntax.now c.args.entities.now c.args.texts.now c.args.stack.now c.args.ended in
    let top : top_of c.args.stack.now.places ≡ Some c.in-Some.place = sym c.in-Some.ensures in
    let whole : Whole c.in-Ok.own.now ≡ own q = sym c.in-Ok.ensures.ok ∙ own-is q c.in-Some.place c.grows-grows.result c.text_of-text.result.now top c.grows-grows.ensures c.text_of-text.ensures in
    let same = source-is q c.in-Some.place c.in-Ok.own.now c.height.result top c.height.ensures in
    MatchResult-weaker c.read_own.result c.read_own.ensures.err (λ x p. p) (λ e d. whole-err q c.in-Ok.own.now _ e whole same d)

pub returns-clause-after : goal.returns-clause-after
returns-clause-after c =
    let q : Asked = asked c.args.construct c.args.syntax.now c.args.entities.now c.args.texts.now c.args.stack.now c.args.ended in
    let top : top_of c.args.stack.now.places ≡ Some c.in-Some.place = sym c.in-Some.ensures in
    let whole : Whole c.in-Ok.own.now ≡ own q = sym c.in-Ok.ensures.ok ∙ own-is q c.in-Some.place c.grows-grows.result c.text_of-text.result.now top c.grows-grows.ensures c.text_of-text.ensures in
    on_ok_weaker c.read_own.result (λ e. e ∙ ap (λ (n : ℕ). moved_to n c.args.stack.now.places) (own-size q c.in-Ok.own.now whole)) c.read_own.ensures.after

pub read_own-requires-clause-quote : goal.read_own-requires-clause-quote
read_own-requires-clause-quote c =
    let q : Asked = asked c.args.construct c.args.syntax.now c.args.entities.now c.args.texts.now c.args.stack.now c.args.ended in
    let top : top_of c.args.stack.now.places ≡ Some c.in-Some.place = sym c.in-Some.ensures in
    let whole : Whole c.in-Ok.own.now ≡ own q = sym c.in-Ok.ensures.ok ∙ own-is q c.in-Some.place c.grows-grows.result c.text_of-text.result.now top c.grows-grows.ensures c.text_of-text.ensures in
    let same = source-is q c.in-Some.place c.in-Ok.own.now c.height.result top c.height.ensures in
    own-quote q c.in-Ok.own.now _ whole same c.requires.begins
