use Rattle.std.proofs.Common.{sym, ap, ◌∙◌, List, ℕ}
use Rattle.std.specs.Str.{bytes_eq}
use Rattle.sgml_content_tags.proofs.Numbered.{same-cased}
use Rattle.sgml_content_tags.proofs.names.is_cased.Goals as goal

pub returns : goal.returns
returns c = c.spells.ensures ∙ ap (λ (bs : List ℕ). bytes_eq bs c.args.name.now) (sym (same-cased c.args.folded c.args.bytes.now))
