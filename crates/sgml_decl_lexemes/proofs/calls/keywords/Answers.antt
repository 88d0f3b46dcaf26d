use Rattle.std.proofs.Common.{◌≡◌, ℕ, List, Ok, drop, take, refl, sym, ◌∙◌, ap, subst}
use Rattle.sgml_entity.specs.Stack.{Stack}
use Rattle.sgml_decl_parts.specs.declared.ends.Construct.TheVariants.{SectionStart}
use Rattle.sgml_decl_lexemes.specs.declared.lexeme.Lexeme.{Lexeme}
use Rattle.sgml_decl_lexemes.specs.Declares.{Asked, asked, rest, Answers}
use Rattle.sgml_decl_lexemes.specs.Starts.{one_keyword}
use Rattle.sgml_decl_lexemes.proofs.Starting.{start-read, start-over}
use Rattle.sgml_decl_lexemes.proofs.calls.keywords.Goals as goal

pub returns-in-Some-clause-ok : goal.returns-in-Some-clause-ok
returns-in-Some-clause-ok c =
    let q : Asked = asked SectionStart c.args.syntax.now c.args.entities.now c.args.texts.now c.args.stack.now c.args.ended in
    let bytes : List ℕ = c.after-bytes.result.now in
    let at : bytes ≡ drop 3 (rest q) = c.after-bytes.ensures.value ∙ ap (drop 3) c.unread.ensures.value in
    let word : c.in-Ok.lexemes ≡ one_keyword (take c.in-Some.start.word (drop c.in-Some.start.gap bytes)) =
    c.in-Ok.ensures ∙ ap (λ (xs : List ℕ). one_keyword (take c.in-Some.start.word xs)) c.after.ensures.value in
    subst (λ (ds : List Lexeme). Answers q (Ok ds) c.advance.new.self) (sym word)
    (subst (λ (s : Stack). Answers q (Ok (one_keyword (take c.in-Some.start.word (drop c.in-Some.start.gap bytes)))) s) (sym c.advance.ensures)
    (start-read q bytes c.in-Some.start refl c.requires.begins at c.in-Some.ensures.plain))

pub returns-in-Some-clause-after : goal.returns-in-Some-clause-after
returns-in-Some-clause-after c =
    let q : Asked = asked SectionStart c.args.syntax.now c.args.entities.now c.args.texts.now c.args.stack.now c.args.ended in
    let bytes : List ℕ = c.after-bytes.result.now in
    let at : bytes ≡ drop 3 (rest q) = c.after-bytes.ensures.value ∙ ap (drop 3) c.unread.ensures.value in
    ap (λ (s : Stack). s.places) c.advance.ensures ∙ start-over q bytes c.in-Some.start refl at c.in-Some.ensures.plain
