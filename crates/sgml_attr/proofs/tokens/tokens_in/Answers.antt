use Rattle.std.proofs.Common.{◌≡◌, ◌≤◌, ◌<◌, ◌+◌, arith, sym, ◌∙◌, ap, true, false, length, get_or, drop, take}
use Rattle.sgml_text.specs.declared.unit.Unit.TheVariants.{Byte}
use Rattle.sgml_attr.specs.Parts.{is_space}
use Rattle.sgml_attr.proofs.Tokened.{tokens-space, begun-space, tokens-unit, begun-unit}
use Rattle.sgml_attr.proofs.tokens.tokens_in.Goals.{then-is_space+in_ok-add_token, else-is_space}
use Rattle.sgml_attr.proofs.tokens.tokens_in.Goals as goal

pub parts-preserved : goal.parts-preserved
parts-preserved c = elim c.if-is_space.branch [
  | then-is_space+in_ok-add_token w ↦
      let within : c.parts.begun ≤ c.parts.i = c.parts.invariant.within in
      let below : c.parts.i < length c.args.units.now = c.parts-test.true in
      let space : is_space (get_or c.args.units.now c.parts.i (Byte 0)) ≡ true = sym c.is_space.ensures ∙ w.if-is_space.true in
      record {
        within = omega arith;
        ended = ap (λ v. v.items) w.names-is ∙ tokens-space c.args.folding c.args.units.now c.parts.begun c.parts.i (Byte 0) c.parts.names.items w.add_token.new.names.items within below space c.parts.invariant.ended c.parts.invariant.begun w.in_ok-add_token.ensures;
        begun = begun-space c.args.units.now c.parts.i c.if-is_space.begun (Byte 0) below space w.begun-is;
      }
  | else-is_space w ↦
      let within : c.parts.begun ≤ c.parts.i = c.parts.invariant.within in
      let below : c.parts.i < length c.args.units.now = c.parts-test.true in
      let unit : is_space (get_or c.args.units.now c.parts.i (Byte 0)) ≡ false = sym c.is_space.ensures ∙ w.if-is_space.false in
      record {
        within = omega arith;
        ended = ap (λ v. v.items) w.names-is ∙ tokens-unit c.args.folding c.args.units.now c.parts.i (Byte 0) c.parts.names.items below unit c.parts.invariant.ended;
        begun = ap (λ n. drop n (take (c.parts.i + 1) c.args.units.now)) w.begun-is ∙ begun-unit c.args.units.now c.parts.begun c.parts.i (Byte 0) within below unit c.parts.invariant.begun;
      }
]
