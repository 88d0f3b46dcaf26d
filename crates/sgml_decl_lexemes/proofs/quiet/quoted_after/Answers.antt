use Rattle.std.proofs.Common.{ℕ, take, refl, sym, ◌∙◌, ap, eq-eqb}
use Rattle.std.specs.List.{list_all}
use Rattle.sgml_decl_lexemes.specs.Quiet.{is_quoted}
use Rattle.sgml_decl_lexemes.proofs.Plainly.{all-front}
use Rattle.sgml_decl_lexemes.proofs.quiet.quoted_after.Goals as goal

pub returns-then-stands_at-clause-literal : goal.returns-then-stands_at-clause-literal
returns-then-stands_at-clause-literal c = record {
  text = c.quoted_length-text.result;
  quote = c.args.quote;
  quote_is = c.requires;
  first = eq-eqb c.args.quote c.args.quote refl;
  quoted = ap (λ (n : ℕ). list_all (is_quoted c.args.quote) (take n c.args.rest.now)) c.quoted_length-text.ensures.value ∙ all-front (is_quoted c.args.quote) c.args.rest.now;
  last = sym c.stands_at.ensures.value ∙ c.if-stands_at.true;
  size_is = refl;
}
