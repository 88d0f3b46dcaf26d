use Rattle.std.proofs.Common.{◌≡◌, ℕ, ◌+◌, ◌-◌, List, length, ap, ◌∙◌, arith}
use Rattle.sgml_io.specs.Records.{records}
use Rattle.sgml_esis.specs.Grammar.{IsBad}
use Rattle.sgml_esis.specs.Spelling.{spell_lines}
use Rattle.sgml_text.specs.declared.reason.Reason.TheVariants as reasons
use Rattle.sgml_line_summary.specs.Begins.{size_of_records}
use Rattle.sgml_line_summary.specs.Summary.{refused_in}
use Rattle.sgml_line_summary.proofs.Begun.{bad_size, bad_within}
use Rattle.sgml_line_summary.proofs.summarizing.refused_line.Goals as goal

before_is : (number : ℕ) (bytes : List ℕ) (bad : IsBad number bytes) → number - 1 ≡ length bad.before
before_is number bytes bad = omega (arith, bad.counted)

-- where the bad line begins
found : (number : ℕ) (bytes text : List ℕ) (bad : IsBad number bytes) (size : ℕ) → text ≡ records bytes → size ≡ size_of_records (number - 1) text → size ≡ length (records (spell_lines bad.before))
found number bytes text bad size is e = e ∙ ap (size_of_records (number - 1)) is ∙ ap (λ n. size_of_records n (records bytes)) (before_is number bytes bad) ∙ bad_size number bytes bad

pub refused_in-requires : goal.refused_in-requires
refused_in-requires c =
    let text : c.in_ok-text.text.items ≡ records c.args.bytes.now = c.in_ok-text.ensures in
    let size = found c.args.number c.args.bytes.now c.deref.result.now c.requires c.size_of_records-before.result (c.deref.ensures.value ∙ text) c.size_of_records-before.ensures.value in
    let long : length c.deref-2.result.now ≡ length (records c.args.bytes.now) = ap length (c.deref-2.ensures.value ∙ text) in
    omega (arith, size, long, bad_within c.args.number c.args.bytes.now c.requires)

pub returns : goal.returns
returns c =
    let text : c.in_ok-text.text.items ≡ records c.args.bytes.now = c.in_ok-text.ensures in
    let size = found c.args.number c.args.bytes.now c.deref.result.now c.requires c.size_of_records-before.result (c.deref.ensures.value ∙ text) c.size_of_records-before.ensures.value in
    (c.args.number, c.requires, c.refused_in.ensures ∙ ap (λ t. refused_in t (c.size_of_records-before.result + 1) reasons.BadLine) (c.deref-2.ensures.value ∙ text) ∙ ap (λ n. refused_in (records c.args.bytes.now) (n + 1) reasons.BadLine) size)
