use Rattle.std.proofs.Common.{◌≡◌, ◌∙◌, sym, ap, None, Some, take, drop}
use Rattle.sgml_entity.specs.declared.places.StackRefused.{StackRefused}
use Rattle.sgml_entity.specs.Stack.{refusal}
use Rattle.sgml_decl_lexemes.specs.Readings.{space_in}
use Rattle.sgml_decl_lexemes.proofs.Opened.{can_open, advanced-refusal}
use Rattle.sgml_decl_lexemes.proofs.reading.open_text.Goals as goal

never : (r : StackRefused) → Some r ≡ None → ⊥
never r e = cc

pub returns-in-Err-clause-memory : goal.returns-in-Err-clause-memory
returns-in-Err-clause-memory c =
    let free : refusal c.in-Opens.entity c.in-Opens.length c.args.stack.now ≡ None =
    can_open c.args.given.now c.args.stack.now (space_in c.args.progress.now) (take c.args.n (drop 1 c.args.bytes.now)) c.in-Opens.entity c.in-Opens.length (sym c.requires.reached ∙ c.in-Opens.is) in
    let moved : refusal c.in-Opens.entity c.in-Opens.length c.advance.new.self ≡ None =
    ap (refusal c.in-Opens.entity c.in-Opens.length) c.advance.ensures ∙ advanced-refusal c.in-Opens.entity c.in-Opens.length c.args.size c.args.stack.now ∙ free in
    absurd (never c.in-Err.field-0 (c.in-Err.ensures.refused ∙ moved))
