use Rattle.std.proofs.Common.{◌≡◌, ◌||◌, true, false, Bool, ap, sym, refl, ◌∙◌}
use Rattle.sgml_dtd_elements.specs.Types.{ElementType}
use Rattle.sgml_theory_reading.specs.Types.{type_of, has_required, has_declared_content, content_of}
use Rattle.sgml_infer.proofs.Contents.{number-within, said-found, required-found, unsaid}
use Rattle.sgml_infer.proofs.element.must_be_written.Goals as goal

pub has_required-requires : goal.has_required-requires
has_required-requires c = number-within c.args.dtd.now c.args.name.now c.in-Some.n (sym c.in-Some.ensures)

pub has_declared_content-requires : goal.has_declared_content-requires
has_declared_content-requires c = number-within c.args.dtd.now c.args.name.now c.in-Some.n (sym c.in-Some.ensures)

pub returns-then-has_required : goal.returns-then-has_required
returns-then-has_required c =
    let t = c.args.dtd.now in let n = c.args.name.now in
    let e : c.has_required.result ≡ has_required t n = c.has_required.ensures ∙ required-found t n c.in-Some.n (sym c.in-Some.ensures) in
    c.if-has_required.true ∙ ap (λ b. b || has_declared_content (content_of (type_of t n))) (sym c.if-has_required.true ∙ e)

pub returns-else-has_required : goal.returns-else-has_required
returns-else-has_required c =
    let t = c.args.dtd.now in let n = c.args.name.now in
    let e : c.has_required.result ≡ has_required t n = c.has_required.ensures ∙ required-found t n c.in-Some.n (sym c.in-Some.ensures) in
    let f : false ≡ has_required t n = sym c.if-has_required.false ∙ e in
    let g : c.has_declared_content.result ≡ has_declared_content (content_of (type_of t n)) =
    c.has_declared_content.ensures ∙ ap (λ (x : ElementType). has_declared_content (content_of x)) (sym (said-found t n c.in-Some.n c.requires (sym c.in-Some.ensures))) in
    λ i. f i || g i

pub returns-in-None : goal.returns-in-None
returns-in-None c =
    let t = c.args.dtd.now in let n = c.args.name.now in
    or-true (has_required t n) ∙ ap (λ (x : ElementType). has_required t n || has_declared_content (content_of x)) (sym (unsaid t n (sym c.in-None.ensures)))
  where
    or-true : (b : Bool) → true ≡ (b || true)
    or-true true = refl
    or-true false = refl
