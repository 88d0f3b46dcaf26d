use Rattle.std.proofs.Common.{◌∙◌, ap, ℕ, nat_eq, length}
use Rattle.sgml_text.specs.NameCharacters.{is_name_character}
use Rattle.sgml_starts.proofs.Tokens.{all_by_length}
use Rattle.sgml_starts.proofs.judging.are_name_characters.Goals as goal

pub returns : goal.returns
returns c = ap (λ (n : ℕ). nat_eq n (length c.args.bytes.now)) c.name_length.ensures.count ∙ all_by_length (is_name_character c.args.set.now) c.args.bytes.now
