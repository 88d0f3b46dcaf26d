-- The document type of what was read, the elements that are open, and what stands directly in
-- each.
use Rattle.std.specs.Prelude.{ℕ, zero, suc, Bool, List, [], ◌∷◌, ◌++◌, option_to_list, map}
use Rattle.sgml_dtd.specs.syntax.Implied.{implied_syntax}
use Rattle.sgml_records.specs.Items.{Item}
use Rattle.sgml_dtd.specs.Doctypes.{Doctype, nothing}
use Rattle.sgml_theory_reading.specs.Names.{Name}
use Rattle.sgml_theory_reading.specs.Pieces.{Piece, History}
use Rattle.sgml_theory_reading.specs.Facets.{Effect, Opens, Closes, Stays, effect, Token, token, items_of, declares}

-- the document type: what the declarations of the list say. Before the first piece nothing is
-- declared; an SGML declaration, written or supplied, is read before all else.
unfoldable pub types : History → Doctype
types [] = nothing implied_syntax
types (p ∷ h) = declares p.kind (types h)

-- an open element: its type, whether it was started with NET enabled, what was read before its
-- start, and the pieces that stand directly in it, the newest first
pub record Open : Type 0 where
  pub element : Name
  pub slash : Bool
  pub before : History
  pub inside : List Piece

-- the innermost element has one piece more
abbrev pub with_piece : Piece → List Open → List Open
with_piece p [] = []
with_piece p (o ∷ os) = record { element = o.element; slash = o.slash; before = o.before; inside = p ∷ o.inside } ∷ os

abbrev pub without_first : {A : Type 0} → List A → List A
without_first [] = []
without_first (x ∷ xs) = xs

abbrev pub nest_after : Effect → History → Piece → List Open → List Open
nest_after (Opens n slash) h p os = record { element = n; slash = slash; before = h; inside = [] } ∷ with_piece p os
nest_after Closes h p os = without_first os
nest_after Stays h p os = with_piece p os

-- the open elements, the innermost first
unfoldable pub nest : History → List Open
nest [] = []
nest (p ∷ h) = nest_after (effect p.kind) h p (nest h)

-- BY SEARCH: the same, from the newest piece back. An end hides all that is before it, up to its
-- element's start.

-- hidden: how many elements that have ended are still to be passed; here: what was found in the
-- innermost open one
abbrev pub found_at : Effect → History → ℕ → Piece → List Piece → (ℕ → List Piece → List Open) → List Open
found_at Closes h hidden p here back = back (suc hidden) here
found_at (Opens n slash) h zero p here back = record { element = n; slash = slash; before = h; inside = here } ∷ back zero (p ∷ [])
found_at (Opens n slash) h (suc zero) p here back = back zero (here ++ p ∷ [])
found_at (Opens n slash) h (suc (suc hidden)) p here back = back (suc hidden) here
found_at Stays h zero p here back = back zero (here ++ p ∷ [])
found_at Stays h (suc hidden) p here back = back (suc hidden) here

abbrev pub nest_by_search : ℕ → List Piece → History → List Open
nest_by_search hidden here [] = []
nest_by_search hidden here (p ∷ h) = found_at (effect p.kind) h hidden p here (λ hidden' here'. nest_by_search hidden' here' h)

-- the types of the open elements, the innermost first
abbrev pub path : History → List Name
path h = map (λ (o : Open). o.element) (nest h)

-- the tokens of the content, the oldest first, of pieces with the newest first. An included start
-- is one that the term left before it doesn't take, so it leaves that term as it is.
abbrev pub word : List Piece → List Token
word [] = []
word (p ∷ ps) = word ps ++ option_to_list (token p.kind)

-- the items of these pieces, both the newest first
abbrev pub noted_onto : List Item → List Item → List Item
noted_onto [] earlier = earlier
noted_onto (item ∷ items) earlier = noted_onto items (item ∷ earlier)

abbrev pub items : List Piece → List Item
items [] = []
items (p ∷ ps) = noted_onto (items_of p.kind) (items ps)
