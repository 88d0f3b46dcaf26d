use Rattle.std.proofs.Common.{◌≡◌, ◌∙◌, sym, Some}
use Rattle.std.proofs.lemmas.Result.{IfOk-weaker}
use Rattle.sgml_entity.specs.Stack.{top_of}
use Rattle.sgml_decl_parts.specs.declared.ends.Construct.TheVariants.{Declaration}
use Rattle.sgml_decl_lexemes.specs.Declares.{Asked, asked, own, Whole}
use Rattle.sgml_decl_lexemes.proofs.Answering.{begun-some, begun-enough, own-is, source-is}
use Rattle.sgml_decl_lexemes.proofs.Ending.{own-quote}
use Rattle.sgml_decl_lexemes.proofs.Going.{not-moved}
use Rattle.sgml_decl_lexemes.proofs.Wholly.{no-end, reached-whole}
use Rattle.sgml_decl_lexemes.proofs.wholeness.read.Goals as goal

pub own_text-requires : goal.own_text-requires
own_text-requires c =
    rw c.text_of-text.ensures (begun-enough Declaration c.args.entities.now.entities c.args.texts.now c.args.stack.now.places c.in-Some.place c.requires (sym c.in-Some.ensures))

pub returns-in-Err-clause-end : goal.returns-in-Err-clause-end
returns-in-Err-clause-end c =
    let q : Asked = asked Declaration c.args.syntax.now c.args.entities.now c.args.texts.now c.args.stack.now c.args.ended in
    let top : top_of c.args.stack.now.places ≡ Some c.in-Some.place = sym c.in-Some.ensures in
    no-end q _ c.in-Err.field-0 (own-is q c.in-Some.place c.grows-grows.result c.text_of-text.result.now top c.grows-grows.ensures c.text_of-text.ensures) c.in-Err.ensures.err

pub returns-in-Err-clause-on_top : goal.returns-in-Err-clause-on_top
returns-in-Err-clause-on_top c = not-moved c.args.stack.now (begun-some Declaration c.args.entities.now.entities c.args.texts.now c.args.stack.now.places c.requires)

pub read_own-requires-clause-quote : goal.read_own-requires-clause-quote
read_own-requires-clause-quote c =
    let q : Asked = asked Declaration c.args.syntax.now c.args.entities.now c.args.texts.now c.args.stack.now c.args.ended in
    let top : top_of c.args.stack.now.places ≡ Some c.in-Some.place = sym c.in-Some.ensures in
    let whole : Whole c.in-Ok.own.now ≡ own q = sym c.in-Ok.ensures.ok ∙ own-is q c.in-Some.place c.grows-grows.result c.text_of-text.result.now top c.grows-grows.ensures c.text_of-text.ensures in
    let same = source-is q c.in-Some.place c.in-Ok.own.now c.height.result top c.height.ensures in
    own-quote q c.in-Ok.own.now _ whole same c.requires

pub returns-clause-end : goal.returns-clause-end
returns-clause-end c =
    let q : Asked = asked Declaration c.args.syntax.now c.args.entities.now c.args.texts.now c.args.stack.now c.args.ended in
    let top : top_of c.args.stack.now.places ≡ Some c.in-Some.place = sym c.in-Some.ensures in
    let whole : Whole c.in-Ok.own.now ≡ own q = sym c.in-Ok.ensures.ok ∙ own-is q c.in-Some.place c.grows-grows.result c.text_of-text.result.now top c.grows-grows.ensures c.text_of-text.ensures in
    let same = source-is q c.in-Some.place c.in-Ok.own.now c.height.result top c.height.ensures in
    IfOk-weaker c.read_own.result _ _ (λ end e. reached-whole q c.in-Ok.own.now _ end whole same e) c.read_own.ensures.end
