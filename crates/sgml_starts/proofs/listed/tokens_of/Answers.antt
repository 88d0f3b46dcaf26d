use Rattle.std.proofs.Common.{◌≡◌, ◌≢◌, ◌≤◌, ◌<◌, ◌+◌, ◌-◌, ◌++◌, arith, ◌∙◌, ap, true, false, length, get_or, drop, take, map, List, ℕ}
use Rattle.std.proofs.lemmas.List.{length-map, take_rest}
use Rattle.sgml_text.specs.Units.{characters}
use Rattle.sgml_text.specs.declared.unit.Unit.{Unit as AnyUnit}
use Rattle.sgml_text.specs.declared.unit.Unit.TheVariants.{Byte}
use Rattle.sgml_attr.specs.Parts.{is_space, ended}
use Rattle.sgml_attr.specs.Tokens.{token_of}
use Rattle.sgml_attr.proofs.Tokened.{tokens-space, begun-space, tokens-unit, begun-unit}
use Rattle.sgml_starts.proofs.Several.{space-at, unit-at, part-characters, tokens-last}
use Rattle.sgml_starts.proofs.listed.tokens_of.Goals.{then-b-eq32+in_ok-add_token, else-b-eq32}
use Rattle.sgml_starts.proofs.listed.tokens_of.Goals as goal

pub parts-preserved : goal.parts-preserved
parts-preserved c =
    let bytes = c.args.bytes.now in
    let units = characters bytes in
    let within : c.parts.begun ≤ c.parts.i = c.parts.invariant.within in
    let below : c.parts.i < length bytes = c.parts-test.true in
    let inside : c.parts.i < length units = omega (arith, below, length-map bytes (λ b. Byte b)) in
    elim c.if-b-eq32.branch [
      | then-b-eq32+in_ok-add_token w ↦
          let space = space-at bytes c.parts.i below w.if-b-eq32.true in
          record {
            within = omega (arith, w.begun-is);
            ended = ap (λ v. v.items) w.names-is ∙ tokens-space c.args.folding units c.parts.begun c.parts.i (Byte 0) c.parts.names.items w.add_token.new.names.items within inside space c.parts.invariant.ended c.parts.invariant.begun
                (w.in_ok-add_token.ensures ∙ ap (λ (u : List AnyUnit). c.parts.names.items ++ map (token_of c.args.folding) (ended u)) (part-characters (c.parts.i - c.parts.begun) c.parts.begun bytes));
            begun = begun-space units c.parts.i c.if-b-eq32.begun (Byte 0) inside space w.begun-is;
          }
      | else-b-eq32 w ↦
          let unit = unit-at bytes c.parts.i below w.if-b-eq32.false in
          record {
            within = omega (arith, within, w.begun-is);
            ended = ap (λ v. v.items) w.names-is ∙ tokens-unit c.args.folding units c.parts.i (Byte 0) c.parts.names.items inside unit c.parts.invariant.ended;
            begun = ap (λ n. drop n (take (c.parts.i + 1) units)) w.begun-is ∙ begun-unit units c.parts.begun c.parts.i (Byte 0) within inside unit c.parts.invariant.begun;
          }
    ]

pub returns : goal.returns
returns c =
    tokens-last c.args.folding c.args.bytes.now c.parts.begun c.parts.names.items c.add_token-2.new.names.items c.parts.i (omega (arith, c.parts-test.false))
    c.parts.invariant.ended c.parts.invariant.begun
    (c.in_ok-add_token-2.ensures
    ∙ ap (λ (b : List ℕ). c.parts.names.items ++ map (token_of c.args.folding) (ended (characters b))) (take_rest c.args.bytes.now c.parts.begun))
