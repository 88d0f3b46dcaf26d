use Rattle.std.proofs.Common.{◌≡◌, ◌+◌, sym, subst, ap, ◌∙◌, drop, Option, IfSome, arith}
use Rattle.sgml_declared.specs.declared.noted.Noted.{Noted}
use Rattle.sgml_declared.specs.Files.{IsNoted, noted_if, sources_in}
use Rattle.sgml_declared.proofs.Numbered.{base_from, base-next, base-none}
use Rattle.sgml_declared.proofs.Noting.{base-noted, base-document}
use Rattle.sgml_declared.proofs.options.Options.note_base.Goals as goal
use Rattle.sgml_declared.proofs.options.Options.note_base.Goals.{in-Some+else-place-eq0+in_ok-note_text+else-branch, in_default}

pub returns-then-place-eq0-clause-base : goal.returns-then-place-eq0-clause-base
returns-then-place-eq0-clause-base c = λ outside o.
    let zero : c.in-Some.place.entity ≡ 0 = omega arith in
    base-document c.args.self.now outside (sources_in c.args.dtd.now c.args.subset.now) c.args.stack.now.places c.loop-level.level c.in-Some.place o
    (sym c.place.ensures ∙ c.in-Some.is) zero ∙ sym (c.loop-level.invariant.from outside o)

pub returns-then-branch-clause-base : goal.returns-then-branch-clause-base
returns-then-branch-clause-base c = λ outside o.
    base-noted c.args.self.now outside (sources_in c.args.dtd.now c.args.subset.now) c.args.stack.now.places c.loop-level.level c.in-Some.place c.note_text.new.noted
    (sym c.place.ensures ∙ c.in-Some.is) (c.in_ok-note_text.ensures.some c.if-branch.true)
    (ap (λ t. noted_if t c.note_text.new.noted) (sym c.if-branch.true) ∙ c.in_ok-note_text.ensures.found outside o)
    ∙ sym (c.loop-level.invariant.from outside o)

pub loop-level-preserved : goal.loop-level-preserved
loop-level-preserved c =
    let k = sources_in c.args.dtd.now c.args.subset.now in
    record {
      from = λ outside o. c.loop-level.invariant.from outside o
          ∙ elim c.match-place.branch as (λ w. base_from outside k (drop c.loop-level.level c.args.stack.now.places) ≡ base_from outside k (drop (c.loop-level.level + 1) c.args.stack.now.places)) [
            | in-Some+else-place-eq0+in_ok-note_text+else-branch w ↦
                base-next outside k c.args.stack.now.places c.loop-level.level w.in-Some.place (sym c.place.ensures ∙ w.in-Some.is)
                (ap (λ t. noted_if t w.note_text.new.noted) (sym w.if-branch.false) ∙ w.in_ok-note_text.ensures.found outside o)
            | in_default w ↦ base-none outside k c.args.stack.now.places c.loop-level.level (sym c.place.ensures ∙ w.in_default.is)
          ];
      noted = elim c.match-place.branch as (λ w. IfSome c.match-place.noted (IsNoted c.args.self.now)) [
        | in-Some+else-place-eq0+in_ok-note_text+else-branch w ↦ subst (λ (x : Option Noted). IfSome x (IsNoted c.args.self.now)) (sym w.noted-is) w.note_text.ensures.noted
        | in_default w ↦ subst (λ (x : Option Noted). IfSome x (IsNoted c.args.self.now)) (sym w.noted-is) c.loop-level.invariant.noted
      ];
    }
