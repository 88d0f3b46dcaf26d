use Rattle.std.proofs.Common.{length, arith, ◌≡◌, ◌≤◌, ◌++◌, ◌∷◌, [], subst, sym, ap, ◌∙◌, max}
use Rattle.sgml_marked.specs.Opened.{Bounds, last_or}
use Rattle.sgml_marked.proofs.Bounding.{one-more}
use Rattle.sgml_marked.proofs.sections.Sections.push.Goals as goal

pub invariant_of-self-2 : goal.invariant_of-self-2
invariant_of-self-2 c =
    let last : c.last_of.result ≡ last_or 0 c.deref.result.now = c.last_of.ensures in
    let value : c.deref.result.now ≡ c.self.inside.highest.items = c.deref.ensures.value in
    let before : c.last_of.result ≡ last_or 0 c.self.inside.highest.items = last ∙ ap (last_or 0) value in
    let most : c.max-highest.result ≡ max c.args.level c.last_of.result = c.max-highest.ensures in
    subst (λ hs. Bounds 0 c.push_reserved.new.self.items hs) (sym c.in_ok-push.ensures.items)
    (subst (λ ss. Bounds 0 ss (c.self.inside.highest.items ++ c.max-highest.result ∷ []))
    (sym (c.push_reserved.ensures.items ∙ ap (λ ss. ss ++ (record { status = c.args.status; level = c.args.level }) ∷ []) c.in_ok-reserve.ensures.items))
    (one-more 0 c.self.inside.sections.items c.self.inside.highest.items (record { status = c.args.status; level = c.args.level }) c.max-highest.result
    c.self.invariant (omega (arith, before, most)) (omega (arith, most))))
