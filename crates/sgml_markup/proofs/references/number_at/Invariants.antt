use Rattle.std.proofs.Common.{◌≡◌, ◌+◌, ◌*◌, ◌-◌, ◌≤◌, drop, min, fold}
use Rattle.sgml_text.specs.Characters.{is_digit}
use Rattle.sgml_markup.specs.References.{run_of, number_of}
use Rattle.sgml_markup.proofs.references.number_at.Given as goal

abbrev pub invariant-digits : goal.invariant-digits
invariant-digits l =
    (l.number ≤ 256)
    × (min 256 (number_of (run_of is_digit l.text)) ≡ min 256 (fold (λ n b. 10 * n + (b - 48)) l.number (run_of is_digit (drop l.b-index l.text))))
