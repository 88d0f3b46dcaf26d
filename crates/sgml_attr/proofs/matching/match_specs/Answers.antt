use Rattle.std.proofs.Common.{◌≡◌, ◌<◌, ℕ, List, Option, Some, None, length, arith, sym, ◌∙◌}
use Rattle.std.specs.Prelude.{slice_get}
use Rattle.sgml_attr.specs.Matching.{attributes_of}
use Rattle.sgml_attr.proofs.Matched.{named-at, free-at, twice-at, matched-step}
use Rattle.sgml_attr.proofs.Choosing.{some-within}
use Rattle.sgml_attr.proofs.matching.match_specs.Goals as goal

pub attribute_of-requires : goal.attribute_of-requires
attribute_of-requires c = c.specs.invariant.index

pub returns-in_default : goal.returns-in_default
returns-in_default c = record {
  before = (c.specs.matched.items, c.specs.invariant.matched);
  unknown = named-at c.args.syntax.now c.args.definitions.now c.args.specs.now c.specs.j c.index-specs-j.result None c.specs-test.true c.index-specs-j.is
      (sym c.in_default.is ∙ c.in_ok-attribute.ensures.of);
}

pub returns-then-is_some : goal.returns-then-is_some
returns-then-is_some c =
    let all : List (Option ℕ) = attributes_of c.args.syntax.now c.args.definitions.now c.args.specs.now in
    let here : slice_get all c.specs.j ≡ Some (Some c.in-Some.i) =
    named-at c.args.syntax.now c.args.definitions.now c.args.specs.now c.specs.j c.index-specs-j.result (Some c.in-Some.i) c.specs-test.true c.index-specs-j.is
    (sym c.in-Some.is ∙ c.in_ok-attribute.ensures.of) in
    let many : length c.specs.matched.items ≡ length c.args.definitions.now = c.specs.invariant.matched.as_many in
    let below : c.in-Some.i < length c.args.definitions.now = some-within c.in_ok-attribute.attribute c.in-Some.i (length c.args.definitions.now) c.in_ok-attribute.ensures.within c.in-Some.is in
    twice-at (length c.args.definitions.now) all c.specs.matched.items c.specs.j c.in-Some.i c.index.result.now c.specs.invariant.matched (omega arith) c.index.ensures (sym c.is_some.ensures ∙ c.if-is_some.true) here

pub specs-preserved : goal.specs-preserved
specs-preserved c =
    let all : List (Option ℕ) = attributes_of c.args.syntax.now c.args.definitions.now c.args.specs.now in
    let here : slice_get all c.specs.j ≡ Some (Some c.in-Some.i) =
    named-at c.args.syntax.now c.args.definitions.now c.args.specs.now c.specs.j c.index-specs-j.result (Some c.in-Some.i) c.specs-test.true c.index-specs-j.is
    (sym c.in-Some.is ∙ c.in_ok-attribute.ensures.of) in
    let many : length c.specs.matched.items ≡ length c.args.definitions.now = c.specs.invariant.matched.as_many in
    let below : c.in-Some.i < length c.args.definitions.now = some-within c.in_ok-attribute.attribute c.in-Some.i (length c.args.definitions.now) c.in_ok-attribute.ensures.within c.in-Some.is in
    record {
      index = c.specs.invariant.index;
      matched = matched-step (length c.args.definitions.now) all c.specs.matched.items c.specs.j c.in-Some.i c.specs.invariant.matched
          (free-at c.specs.matched.items c.in-Some.i c.index.result.now (omega arith) c.index.ensures (sym c.is_some.ensures ∙ c.if-is_some.false)) here;
    }
