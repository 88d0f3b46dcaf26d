use Rattle.sgml_theory_starts.proofs.Scanned.{scanned-tags-are-tags}
use Rattle.sgml_theory_starts.proofs.scanned_tags_are_tags.Goals as goal

pub returns : goal.returns
returns c = scanned-tags-are-tags
