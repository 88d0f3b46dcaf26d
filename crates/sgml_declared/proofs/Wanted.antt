-- Before anything is declared no text is wanted.
use Rattle.std.proofs.Common.{◌≡◌, ℕ, Bool, true, false, ◌-◌, List, [], is_some, nat_lt, None, ap, ◌∙◌, sym, if◌then◌else◌}
use Rattle.std.specs.List.{slice_get}
use Rattle.sgml_entity.specs.declared.kinds.Entity.{Entity}
use Rattle.sgml_entity.specs.Entities.{entity_at, first_entity}
use Rattle.sgml_entity.specs.Stack.{Stack}
use Rattle.sgml_decl_lexemes.specs.decl_parts.declared.ends.Construct.TheVariants.{Declaration}
use Rattle.sgml_dtd.specs.Doctypes.{Doctype}
use Rattle.sgml_theory_standing.specs.theory_reading.Names.{Text}
use Rattle.sgml_theory_standing.specs.theory_reading.Unread.{Outside}
use Rattle.sgml_theory_standing.specs.theory_spelling.Prolog.{head_lexed}
use Rattle.sgml_declared.specs.Files.{sources_in}
use Rattle.sgml_declared.specs.declared.error.TakeError.{TakeError}
use Rattle.sgml_declared.specs.declared.error.TakeError.TheVariants.{Refused, Wanted, Memory}
use Rattle.sgml_declared.specs.Taking.{stacked_on, lexed_at, IsStopped}
use Rattle.sgml_declared.specs.Heads.{IsHeadStopped}

no-entity : List Entity
no-entity = []

empty-by : (n : ℕ) (low : Bool) → is_some (if low then None else slice_get no-entity (n - first_entity)) ≡ true → ⊥
unfolding no-entity
empty-by n true e = cc e
empty-by n false e = cc e

pub none-declared : (es : List Entity) (n : ℕ) → es ≡ [] → is_some (entity_at es n) ≡ true → ⊥
unfolding no-entity
none-declared es n none e = empty-by n (nat_lt n first_entity) (ap (λ xs. is_some (entity_at xs n)) (sym none) ∙ e)

pub head-stopped : (outside : Outside) (d : Doctype) (texts : List (ℕ × Text)) (s : Stack) (n : ℕ) (e : TakeError) → d.entities ≡ []
    → IsStopped outside (sources_in d None) texts s (lexed_at Declaration outside d texts s n) e → IsHeadStopped outside (sources_in d None) texts s n e
head-stopped outside d texts s n (Refused r) none h = ap (head_lexed outside (sources_in d None) (stacked_on s) n) h
head-stopped outside d texts s n (Wanted number file) none h = absurd (none-declared d.entities number none h.declared)
head-stopped outside d texts s n Memory none h = tt
