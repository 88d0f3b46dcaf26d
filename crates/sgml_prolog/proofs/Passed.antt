-- What separators that were passed leave of a reader.
use Rattle.std.proofs.Common.{◌≡◌, ℕ, ◌<◌, ◌≤◌, ◌⊎◌, Bool, List, Option, refl, sym, ◌∙◌, ap, subst, inl, inr, arith}
use Rattle.sgml_declared.specs.theory_reading.Names.{Name, Text}
use Rattle.sgml_declared.specs.theory_standing.Kept.{Kept}
use Rattle.sgml_declared.specs.theory_standing.Next.{left_to_read}
use Rattle.sgml_declared.specs.Files.{Choices}
use Rattle.sgml_prolog_steps.specs.Standing.{IsKept}
use Rattle.sgml_prolog_steps.specs.Steps.{IsPassed}
use Rattle.sgml_prolog.specs.Going.{Goes}
use Rattle.sgml_prolog.proofs.Going.{silent-goes-on}

pub passed-kept : (c : Choices) (texts : List (ℕ × Text)) (ended : Bool) (asked : Option Name) (k new : Kept) → IsKept k → IsPassed texts k new → IsKept new
passed-kept c texts ended asked k new h (inl e) = subst IsKept (sym e) h
passed-kept c texts ended asked k new h (inr s) = (s c ended asked).kept

pub passed-expand : (c : Choices) (texts : List (ℕ × Text)) (ended : Bool) (asked : Option Name) (k new : Kept) → IsPassed texts k new → new.stack.expand ≡ k.stack.expand
passed-expand c texts ended asked k new (inl e) = ap (λ (x : Kept). x.stack.expand) e
passed-expand c texts ended asked k new (inr s) = (s c ended asked).expand

pub passed-goes : (c : Choices) (texts : List (ℕ × Text)) (ended : Bool) (asked : Option Name) (old k new : Kept) → Goes c texts ended asked old k → IsPassed texts k new
    → Goes c texts ended asked old new
passed-goes c texts ended asked old k new g (inl e) = subst (λ z. Goes c texts ended asked old z) (sym e) g
passed-goes c texts ended asked old k new g (inr s) = silent-goes-on c texts ended asked old k new g (s c ended asked)

pub passed-left : (c : Choices) (texts : List (ℕ × Text)) (ended : Bool) (asked : Option Name) (k new : Kept) → IsPassed texts k new → left_to_read new texts ≤ left_to_read k texts
passed-left c texts ended asked k new (inl e) = let same : left_to_read new texts ≡ left_to_read k texts = ap (λ z. left_to_read z texts) e in omega (arith, same)
passed-left c texts ended asked k new (inr s) = let less : left_to_read new texts < left_to_read k texts = (s c ended asked).falls in omega (arith, less)
