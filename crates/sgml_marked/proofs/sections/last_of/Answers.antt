use Rattle.std.proofs.Common.{length, arith, ◌≡◌, ◌==◌, false, suc, zero, ◌-◌, List, [], ◌∷◌, ℕ, sym, ◌∙◌, get_or}
use Rattle.sgml_marked.specs.Opened.{last_or}
use Rattle.sgml_marked.proofs.Bounding.{last-at}
use Rattle.sgml_marked.proofs.sections.last_of.Goals as goal

last-is : (hs : List ℕ) → (length hs == 0) ≡ false → get_or hs (length hs - 1) 0 ≡ last_or 0 hs
last-is [] e = cc
last-is (h ∷ hs) e = last-at 0 (h ∷ hs) (length (h ∷ hs) - 1) (omega arith)

pub returns-else-is_empty : goal.returns-else-is_empty
returns-else-is_empty c = last-is c.args.highest.now (sym c.is_empty.ensures ∙ c.if-is_empty.false)
