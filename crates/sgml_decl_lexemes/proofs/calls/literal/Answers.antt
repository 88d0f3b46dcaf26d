use Rattle.std.proofs.Common.{◌+◌, ◌∷◌, [], ◌∙◌, ap, sym, subst, refl, length, drop, List, Ok, true}
use Rattle.sgml_entity.specs.Stack.{Stack}
use Rattle.sgml_text.specs.declared.unit.Unit.{Unit as AnyUnit}
use Rattle.sgml_text.specs.Units.{characters}
use Rattle.sgml_decl_parts.specs.declared.ends.Construct.TheVariants.{Literal}
use Rattle.sgml_decl_lexemes.specs.declared.lexeme.Lexeme.TheVariants.{Value}
use Rattle.sgml_decl_lexemes.specs.Declares.{Asked, asked, rest, Answers}
use Rattle.sgml_decl_lexemes.proofs.Plainly.{plain_literals, plain-after}
use Rattle.sgml_decl_lexemes.proofs.calls.literal.Goals as goal

pub returns-in-Some-clause-ok : goal.returns-in-Some-clause-ok
returns-in-Some-clause-ok c =
    let q : Asked = asked (Literal c.args.quote) c.args.syntax.now c.args.entities.now c.args.texts.now c.args.stack.now true in
    let text = c.in-Some.text.now in
    subst (λ (us : List AnyUnit). Answers q (Ok (Value us ∷ [])) c.advance.new.self) (sym c.in-Ok.ensures)
    (subst (λ (s : Stack). Answers q (Ok (Value (characters text) ∷ [])) s) (sym c.advance.ensures)
    (plain_literals q c.args.quote text (drop (length text + 1) (rest q)) refl c.requires c.in-Some.ensures.front c.in-Some.ensures.plain))

pub returns-in-Some-clause-after : goal.returns-in-Some-clause-after
returns-in-Some-clause-after c =
    let q : Asked = asked (Literal c.args.quote) c.args.syntax.now c.args.entities.now c.args.texts.now c.args.stack.now true in
    let text = c.in-Some.text.now in
    ap (λ (s : Stack). s.places) c.advance.ensures
    ∙ plain-after q c.args.quote text (drop (length text + 1) (rest q)) refl c.in-Some.ensures.front c.in-Some.ensures.plain
