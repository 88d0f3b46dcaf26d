-- Texts by the numbers of their entities, in the order in which they were begun.
use Rattle.std.specs.Prelude.{◌≡◌, ◌≢◌, ℕ, ◌==◌, ◌++◌, List, [], ◌∷◌, Option, Some, None, map, unwrap_or, if◌then◌else◌}
use Rattle.std.specs.Global.{Vec}

-- the texts that the vectors hold
abbrev pub texts_in : List (ℕ × Vec ℕ) → List (ℕ × List ℕ)
texts_in es = map (λ e. (e.0, e.1.items)) es

-- the text of an entity
abbrev pub text_of : List (ℕ × List ℕ) → ℕ → Option (List ℕ)
text_of [] entity = None
text_of (t ∷ ts) entity = if entity == t.0 then Some t.1 else text_of ts entity

-- the texts with more bytes at the end of one, which is begun where there was none
abbrev pub with_more : ℕ → List ℕ → List (ℕ × List ℕ) → List (ℕ × List ℕ)
with_more entity bytes [] = (entity, bytes) ∷ []
with_more entity bytes (t ∷ ts) = if entity == t.0 then (t.0, t.1 ++ bytes) ∷ ts else t ∷ with_more entity bytes ts

-- the text of an entity has these bytes more at its end
abbrev pub HasMore : List (ℕ × List ℕ) → ℕ → List ℕ → List (ℕ × List ℕ) → Type 0
HasMore texts entity bytes after = text_of after entity ≡ Some (unwrap_or (text_of texts entity) [] ++ bytes)

-- every other text is as it was
abbrev pub HasSameOthers : List (ℕ × List ℕ) → ℕ → List (ℕ × List ℕ) → Type 0
HasSameOthers texts entity after = (other : ℕ) → other ≢ entity → text_of after other ≡ text_of texts other
