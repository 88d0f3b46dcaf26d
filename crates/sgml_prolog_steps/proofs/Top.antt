-- What is spelled and decided at the top of the stack.
use Rattle.std.proofs.Common.{◌≡◌, ℕ, Bool, true, false, not, ◌&&◌, ◌==◌, List, [], ◌∷◌, map, drop, refl, ◌∙◌, ap, if◌then◌else◌}
use Rattle.sgml_text.specs.declared.place.Place.{Place}
use Rattle.sgml_entity.specs.declared.kinds.Entity.{Entity}
use Rattle.sgml_entity.specs.Stack.{offset_of}
use Rattle.sgml_decl_lexemes.specs.Sources.{text_at, or_empty}
use Rattle.sgml_decl_lexemes.specs.Readings.{entity_of}
use Rattle.sgml_declared.specs.theory_reading.Names.{Text}
use Rattle.sgml_declared.specs.theory_reading.Unread.{Outside, Rest}
use Rattle.sgml_declared.specs.theory_reading.State.{State}
use Rattle.sgml_declared.specs.theory_spelling.Stacked.{Stacked, stacked}
use Rattle.sgml_declared.specs.theory_spelling.Spelled.{spelled_in, spelled_of, spelled}
use Rattle.sgml_declared.specs.theory_spelling.Decided.{decided_bytes, decided_in, decided_of, decided}
use Rattle.sgml_declared.specs.theory_standing.Kept.{Kept, rest_of, given}
use Rattle.sgml_declared.specs.theory_standing.Next.{IsDecidedIn}
use Rattle.sgml_declared.specs.Taking.{stacked_on}
use Rattle.sgml_prolog_steps.specs.Standing.{LiesUnder}
use Rattle.sgml_prolog_steps.specs.Found.{rest_in, may_grow}

pub apart : {A : Type 0} (b : Bool) → b ≡ true → b ≡ false → A
apart true e f = absurd (never f)
  where
    never : true ≡ false → ⊥
    never f = cc
apart false e f = absurd (never e)
  where
    never : false ≡ true → ⊥
    never e = cc

-- the texts that are being read are the same by their rests and by their places
entities-same : (es : List Entity) (texts : List (ℕ × Text)) (ps : List Place) → map (λ (r : Rest). r.entity) (map (rest_of es texts) ps) ≡ map (λ (p : Place). p.entity) ps
entities-same es texts [] = refl
entities-same es texts (p ∷ ps) = ap (λ ns. p.entity ∷ ns) (entities-same es texts ps)

pub stacked-same : (k : Kept) (texts : List (ℕ × Text)) → stacked (given k texts) ≡ stacked_on k.stack
unfolding given
stacked-same k texts = ap (λ ns. record { entities = ns; spent = k.stack.spent }) (entities-same k.doctype.entities texts k.stack.places)

top-spelled : (outside : Outside) (s : State) (t : Stacked) (es : List Entity) (texts : List (ℕ × Text)) (ps : List Place) → LiesUnder ps
    → spelled_of outside s t (map (rest_of es texts) ps) ≡ spelled_in outside s t (entity_of ps) (drop (offset_of ps) (or_empty (text_at es texts (entity_of ps))))
top-spelled outside s t es texts [] l = absurd l
top-spelled outside s t es texts (p ∷ ps) l = refl

pub spelled-at-top : (outside : Outside) (s : State) (k : Kept) (texts : List (ℕ × Text)) → LiesUnder k.stack.places
    → spelled outside s (given k texts) ≡ spelled_in outside s (stacked_on k.stack) (entity_of k.stack.places) (rest_in k texts)
unfolding spelled given
spelled-at-top outside s k texts l =
    ap (λ t. spelled_of outside s t (map (rest_of k.doctype.entities texts) k.stack.places)) (stacked-same k texts)
    ∙ top-spelled outside s (stacked_on k.stack) k.doctype.entities texts k.stack.places l

top-decided : (s : State) (t : Stacked) (es : List Entity) (texts : List (ℕ × Text)) (ps : List Place) → LiesUnder ps
    → decided_of s t (map (rest_of es texts) ps) ≡ decided_in s t (entity_of ps) (drop (offset_of ps) (or_empty (text_at es texts (entity_of ps))))
top-decided s t es texts [] l = absurd l
top-decided s t es texts (p ∷ ps) l = refl

pub decided-at-top : (outside : Outside) (s : State) (k : Kept) (texts : List (ℕ × Text)) → LiesUnder k.stack.places
    → decided outside s (given k texts) ≡ decided_in s (stacked_on k.stack) (entity_of k.stack.places) (rest_in k texts)
unfolding decided given
decided-at-top outside s k texts l =
    ap (λ t. decided_of s t (map (rest_of k.doctype.entities texts) k.stack.places)) (stacked-same k texts)
    ∙ top-decided s (stacked_on k.stack) k.doctype.entities texts k.stack.places l

by-document : (s : State) (t : Stacked) (bytes : List ℕ) (is_document ended : Bool) → ((is_document && not ended) ≡ true → decided_bytes s t bytes ≡ true)
    → ended ≡ false → (if is_document then decided_bytes s t bytes else true) ≡ true
by-document s t bytes true false h e = h refl
by-document s t bytes true true h e = apart true refl e
by-document s t bytes false ended h e = refl

-- what is decided where the text may go on is decided
pub decided-by-bytes : (outside : Outside) (s : State) (k : Kept) (texts : List (ℕ × Text)) (ended : Bool) → LiesUnder k.stack.places
    → (may_grow k ended ≡ true → decided_bytes s (stacked_on k.stack) (rest_in k texts) ≡ true) → IsDecidedIn outside s k texts ended
decided-by-bytes outside s k texts ended l h = λ e.
    decided-at-top outside s k texts l ∙ by-document s (stacked_on k.stack) (rest_in k texts) (entity_of k.stack.places == 0) ended h e

by-growing : (s : State) (t : Stacked) (bytes : List ℕ) (is_document ended : Bool) → (is_document && not ended) ≡ true → decided_bytes s t bytes ≡ false
    → (ended ≡ false) × ((if is_document then decided_bytes s t bytes else true) ≡ false)
by-growing s t bytes true false g h = (refl, h)
by-growing s t bytes true true g h = absurd (never g)
  where
    never : false ≡ true → ⊥
    never g = cc
by-growing s t bytes false ended g h = absurd (never g)
  where
    never : false ≡ true → ⊥
    never g = cc

-- and what isn't decided there isn't
pub undecided-by-bytes : (s : State) (k : Kept) (texts : List (ℕ × Text)) (ended : Bool) → LiesUnder k.stack.places → may_grow k ended ≡ true
    → decided_bytes s (stacked_on k.stack) (rest_in k texts) ≡ false
    → (ended ≡ false) × ((outside : Outside) → decided outside s (given k texts) ≡ false)
undecided-by-bytes s k texts ended l g h =
    let both = by-growing s (stacked_on k.stack) (rest_in k texts) (entity_of k.stack.places == 0) ended g h in
    (both.0, λ outside. decided-at-top outside s k texts l ∙ both.1)
