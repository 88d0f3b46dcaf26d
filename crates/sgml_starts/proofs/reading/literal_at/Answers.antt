use Rattle.std.proofs.Common.{◌≡◌, ◌<◌, ◌∷◌, ◌∙◌, [], true, sym, ap, subst, length, Ok, Err}
use Rattle.sgml_entity.specs.Stack.{Stack}
use Rattle.sgml_decl_lexemes.specs.decl_parts.declared.ends.Construct.TheVariants.{Literal}
use Rattle.sgml_decl_lexemes.specs.declared.lexeme.Lexeme.TheVariants.{Value}
use Rattle.sgml_decl_lexemes.specs.Declares.{Asked, asked, is_asked, end_offset}
use Rattle.sgml_decl_lexemes.specs.Reads.{answer}
use Rattle.sgml_starts.specs.declared.error.StartError.{StartError}
use Rattle.sgml_starts.specs.Read.{IsNoLiteral, StandsAlike}
use Rattle.sgml_starts.proofs.Literals.{answer-on-top, moved-some, begun-at, alike-moved, alike-then, literal-is, no-literal}
use Rattle.sgml_starts.proofs.reading.literal_at.Goals as goal

pub returns-in-Ok-clause-ok : goal.returns-in-Ok-clause-ok
returns-in-Ok-clause-ok c =
    let q : Asked = asked (Literal c.args.quote) c.args.syntax.now c.args.entities.now c.args.texts.now c.move_to.new.stack true in
    let some : 0 < length c.move_to.new.stack.places =
    subst (λ (s : Stack). 0 < length s.places) (sym c.move_to.ensures) (moved-some c.args.at c.args.stack.now.places c.requires.some) in
    ap (λ (s : Stack). answer (asked (Literal c.args.quote) c.args.syntax.now c.args.entities.now c.args.texts.now s true)) (sym c.move_to.ensures)
    ∙ literal-is q (begun-at c.args.quote c.move_to.new.stack.places some c.requires.quote) (Value c.in-Ok.units ∷ []) c.literal.new.stack c.in-Ok.ensures.ok

pub returns-in-Ok-clause-alike : goal.returns-in-Ok-clause-alike
returns-in-Ok-clause-alike c =
    let q : Asked = asked (Literal c.args.quote) c.args.syntax.now c.args.entities.now c.args.texts.now c.move_to.new.stack true in
    let some : 0 < length c.move_to.new.stack.places =
    subst (λ (s : Stack). 0 < length s.places) (sym c.move_to.ensures) (moved-some c.args.at c.args.stack.now.places c.requires.some) in
    let top = answer-on-top q (begun-at c.args.quote c.move_to.new.stack.places some c.requires.quote) (Value c.in-Ok.units ∷ []) c.literal.new.stack c.in-Ok.ensures.ok in
    alike-then c.args.stack.now c.move_to.new.stack c.literal.new.stack (end_offset q) (alike-moved c.args.stack.now c.move_to.new.stack c.args.at c.move_to.ensures)
    top.levels_are top.expand_is c.in-Ok.ensures.after

pub returns-in-Err-clause-err : goal.returns-in-Err-clause-err
returns-in-Err-clause-err c =
    let q : Asked = asked (Literal c.args.quote) c.args.syntax.now c.args.entities.now c.args.texts.now c.move_to.new.stack true in
    let some : 0 < length c.move_to.new.stack.places =
    subst (λ (s : Stack). 0 < length s.places) (sym c.move_to.ensures) (moved-some c.args.at c.args.stack.now.places c.requires.some) in
    let told : IsNoLiteral (answer q) c.error_of.result =
    subst (IsNoLiteral (answer q)) (sym c.error_of.ensures)
    (no-literal q (begun-at c.args.quote c.move_to.new.stack.places some c.requires.quote) c.in-Err.error c.literal.new.stack c.in-Err.ensures.err) in
    subst (λ (s : Stack). IsNoLiteral (answer (asked (Literal c.args.quote) c.args.syntax.now c.args.entities.now c.args.texts.now s true)) c.error_of.result) c.move_to.ensures told

pub returns-in-Err-clause-alike : goal.returns-in-Err-clause-alike
returns-in-Err-clause-alike c =
    subst (λ (s : Stack). StandsAlike c.args.stack.now s) (sym c.in-Err.ensures.err_stack) (alike-moved c.args.stack.now c.move_to.new.stack c.args.at c.move_to.ensures)
