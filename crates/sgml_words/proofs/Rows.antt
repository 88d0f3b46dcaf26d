-- What `clap` keeps of uses, as rows.
use Rattle.std.proofs.Common.{◌≡◌, ◌∙◌, ◌&&◌, ◌||◌, ℕ, Bool, true, false, cond, refl, sym, ap, List, [], ◌∷◌, ◌++◌, map, Option, bytes_eq, append-nil}
use Rattle.clap.specs.Walk.{Row, Text, has_row, with_values, without, at_row, more_values}
use Rattle.clap.specs.Kinds.{Kinds, or_else}
use Rattle.clap.specs.Faults.{use_fault}
use Rattle.clap.specs.declared.builder.value_parser.Reading.TheVariants as reading
use Rattle.clap.specs.declared.parser.matches.ValueSource.TheVariants.{CommandLine}
use Rattle.clap.specs.declared.error.kind.ErrorKind.TheVariants.{ArgumentConflict}
use Rattle.sgml_words.specs.Words.{Use}
use Rattle.sgml_words.specs.Uses.{has}
use Rattle.sgml_words.specs.Clap.{row_of}
use Rattle.sgml_words.proofs.Rules.{rule}
use Rattle.sgml_words.proofs.Truth.{or_assoc, or_false}

-- ---- rows

pub has_rows : (id : Text) (us : List Use) → has_row id (map row_of us) ≡ has id us
has_rows id [] = refl
has_rows id (u ∷ us) = ap (λ b. bytes_eq u.0 id || b) (has_rows id us)

pub has_append : (id : Text) (us vs : List Use) → has id (us ++ vs) ≡ (has id us || has id vs)
has_append id [] vs = refl
has_append id (u ∷ us) vs =
    ap (λ b. bytes_eq u.0 id || b) (has_append id us vs) ∙ or_assoc (bytes_eq u.0 id) (has id us) (has id vs)

pub not_there : (id : Text) (change : Row → List Row) (missing : List Row) (us : List Use) → has id us ≡ false
    → at_row id change missing (map row_of us) ≡ map row_of us ++ missing
not_there id change missing [] e = refl
not_there id change missing (u ∷ us) e =
    let parts = or_false (bytes_eq u.0 id) (has id us) e in
    rw parts.0 (ap (λ rs. row_of u ∷ rs) (not_there id change missing us parts.1))

pub map_append : (us vs : List Use) → map row_of (us ++ vs) ≡ map row_of us ++ map row_of vs
map_append [] vs = refl
map_append (u ∷ us) vs = ap (λ rs. row_of u ∷ rs) (map_append us vs)

pub added : (id v : Text) (us : List Use) → has id us ≡ false
    → with_values id reading.AsWritten CommandLine (v ∷ []) (without id (map row_of us)) ≡ map row_of (us ++ (id, v) ∷ [])
added id v us e =
    let gone : without id (map row_of us) ≡ map row_of us =
    not_there id (λ r. []) [] us e ∙ append-nil (map row_of us) in
    ap (with_values id reading.AsWritten CommandLine (v ∷ [])) gone
    ∙ not_there id (more_values CommandLine (v ∷ [])) (row_of (id, v) ∷ []) us e ∙ sym (map_append us ((id, v) ∷ []))

-- ---- a use

unfoldable pub conflict : Bool → Kinds
conflict b = cond b (ArgumentConflict ∷ []) []

pub conflict_is : (b : Bool) → or_else (cond (b && true) (ArgumentConflict ∷ []) []) [] ≡ conflict b
unfolding conflict
conflict_is true = refl
conflict_is false = refl

pub use_fault_is : (id : Text) (long : Option Text) (index : Option ℕ) (required : Bool) (v : Text) (us : List Use)
    → use_fault false (rule id long index required) (v ∷ []) (map row_of us) ≡ conflict (has id us)
use_fault_is id long index required v us = conflict_is (has_row id (map row_of us)) ∙ ap conflict (has_rows id us)
