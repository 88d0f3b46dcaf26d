use Rattle.std.proofs.Common.{◌∙◌, ◌++◌, ap, List, ℕ}
use Rattle.sgml_names.specs.Index.{found}
use Rattle.sgml_attr.proofs.Indexing.{new-first}
use Rattle.sgml_attr.proofs.index.add_first.Goals as goal

pub returns-clause-first : goal.returns-clause-first
returns-clause-first c = λ rest other.
    ap (λ (es : List (List ℕ × ℕ)). found (es ++ rest) other) c.in_ok-earlier.ensures.new
    ∙ new-first c.args.index.now rest c.args.name.now c.args.number other
