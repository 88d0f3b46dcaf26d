use Rattle.std.proofs.Common.{◌≡◌, ◌∙◌, sym, ap, subst, length, List, ℕ, Option}
use Rattle.sgml_attr.specs.Matching.{AreMatched, attributes_of}
use Rattle.sgml_starts.specs.Numbers.{AreInverted}
use Rattle.sgml_starts.proofs.Numbered.{unknown-of, named-all, named-front, many-attributes}
use Rattle.sgml_starts.proofs.matching.numbers_of.Goals as goal

pub returns-in_ok-inverted-in-Ok : goal.returns-in_ok-inverted-in-Ok
returns-in_ok-inverted-in-Ok c =
    let all = attributes_of c.args.syntax.now c.args.definitions.now c.args.specs.now in
    record {
      named = named-all (length c.args.definitions.now) all c.deref.result.now c.in_ok-inverted-in-Ok.field-0.items
          (subst (λ (m : List (Option ℕ)). AreMatched (length c.args.definitions.now) all m) (sym c.deref.ensures.value) c.in-Ok.ensures)
          (subst (λ (n : ℕ). AreInverted n c.deref.result.now c.in_ok-inverted-in-Ok.field-0.items) (sym (many-attributes c.args.syntax.now c.args.definitions.now c.args.specs.now)) c.in_ok-inverted-in-Ok.ensures);
      unknown = tt;
    }

pub returns-in_ok-first_numbers-in-Err-UnknownAttribute : goal.returns-in_ok-first_numbers-in-Err-UnknownAttribute
returns-in_ok-first_numbers-in-Err-UnknownAttribute c = record {
  named = named-front c.args.syntax.now c.args.definitions.now c.args.specs.now (length c.args.definitions.now) c.in-Err-UnknownAttribute.spec
      c.in_ok-first_numbers-in-Err-UnknownAttribute.field-0.items c.in_ok-first_numbers-in-Err-UnknownAttribute.ensures.named;
  unknown = unknown-of (length c.args.definitions.now) (attributes_of c.args.syntax.now c.args.definitions.now c.args.specs.now) c.in-Err-UnknownAttribute.field-0 c.in-Err-UnknownAttribute.spec
      c.in-Err-UnknownAttribute.field-0-is c.in-Err-UnknownAttribute.ensures;
}
