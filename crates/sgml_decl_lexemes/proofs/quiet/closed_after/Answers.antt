use Rattle.std.proofs.Common.{ℕ, take, refl, sym, ◌∙◌, ap}
use Rattle.std.specs.List.{list_all}
use Rattle.sgml_decl_lexemes.specs.Quiet.{is_commented}
use Rattle.sgml_decl_lexemes.proofs.Plainly.{all-front}
use Rattle.sgml_decl_lexemes.proofs.quiet.closed_after.Goals as goal

pub returns-then-stands_at-2-clause-comment : goal.returns-then-stands_at-2-clause-comment
returns-then-stands_at-2-clause-comment c = record {
  text = c.commented_length-text.result;
  first = refl;
  second = refl;
  commented = ap (λ (n : ℕ). list_all is_commented (take n c.args.rest.now)) c.commented_length-text.ensures.value ∙ all-front is_commented c.args.rest.now;
  third = sym c.stands_at.ensures.value ∙ c.if-stands_at.true;
  fourth = sym c.stands_at-then-stands_at.ensures.value ∙ c.if-stands_at-2.true;
  size_is = refl;
}
