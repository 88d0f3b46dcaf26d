-- Tokens of the groups of a list, one definition after another.
use Rattle.std.proofs.Common.{◌≡◌, ◌≤◌, ◌-◌, ◌||◌, ℕ, Bool, false, List, [], ◌∷◌, ◌++◌, sym, ap, ◌∙◌, length, get_or, take, drop, arith}
use Rattle.std.proofs.lemmas.List.{take_all}
use Rattle.std.specs.List.{flat_map}
use Rattle.sgml_names.proofs.Repeating.{repeats_append}
use Rattle.sgml_names.specs.Lists.{repeats}
use Rattle.sgml_attr.specs.declared.definition.Definition.{Definition}
use Rattle.sgml_dtd_attlists.specs.Interpreted.{group_of}

abbrev pub tokens_of : List Definition → List (List ℕ)
tokens_of ds = flat_map (λ d. group_of d.declared) ds

-- the first definition's tokens repeat none
pub tokens_step : (before after : List (List ℕ)) (rest : List Definition) (d : Definition) (again : Bool) → 1 ≤ length rest → d ≡ get_or rest 0 d
    → again ≡ repeats before (group_of d.declared) → again ≡ false → after ≡ before ++ group_of d.declared
    → repeats after (tokens_of (take (length rest - 1) (drop 1 rest))) ≡ repeats before (tokens_of rest)
tokens_step before after [] d again long is told never all = absurd (omega arith)
tokens_step before after (x ∷ rest) d again long is told never all =
    let whole : take (length (x ∷ rest) - 1) (drop 1 (x ∷ rest)) ≡ rest = take_all (length (x ∷ rest) - 1) rest (omega arith) in
    let none : repeats before (group_of x.declared) ≡ false = ap (λ (e : Definition). repeats before (group_of e.declared)) (sym is) ∙ sym told ∙ never in
    ap (λ (ds : List Definition). repeats after (tokens_of ds)) whole
    ∙ ap (λ (b : List (List ℕ)). repeats b (tokens_of rest)) (all ∙ ap (λ (e : Definition). before ++ group_of e.declared) is)
    ∙ ap (λ (b : Bool). b || repeats (before ++ group_of x.declared) (tokens_of rest)) (sym none)
    ∙ sym (repeats_append before (group_of x.declared) (tokens_of rest))
