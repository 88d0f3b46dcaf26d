-- Documents whose data stands elsewhere or not at all, where data is free.
use Rattle.std.specs.Prelude.{◌≡◌, ◌⊎◌, true, List, [], ◌∷◌}
use Rattle.std.specs.List.{list_all}
use Rattle.sgml_theory_worked.specs.dtd.Doctypes.{Doctype}
use Rattle.sgml_theory_worked.specs.theory_reading.Names.{Name}
use Rattle.sgml_theory_worked.specs.theory_reading.Types.{type_of, content_of, model_of}
use Rattle.sgml_theory_worked.specs.theory_reading.Pieces.{Piece, Kind}
use Rattle.sgml_theory_worked.specs.theory_reading.Facets.{Pcdata, declares}
use Rattle.sgml_theory_worked.specs.theory_reading.Context.{Level, Context, context_after}
use Rattle.sgml_theory_worked.specs.theory_reading.Omission.{allowed}
use Rattle.sgml_theory_written.specs.Written.{IsWritten}
use Rattle.sgml_theory_written.specs.Covering.{Covers, IsSilent, IsData}
use Rattle.sgml_theory_written.specs.Free.{is_free}

-- each model of the document type is mixed content of that form, or element content
abbrev pub HasFreeContent : Doctype → Type 0
HasFreeContent d = (n : Name) → is_free (model_of (content_of (type_of d n))) ≡ true

-- and so is what is left of each open element
pub record IsFree (c : Context) : Type 0 where
  pub models : HasFreeContent c.doctype
  pub lefts : list_all (λ (l : Level). is_free l.left) c.levels ≡ true

-- the contexts take the same, and end where the other does
pub record TakeAlike (c d : Context) : Type 0 where
  pub there : Covers d c
  pub here : Covers c d

abbrev pub DeclaresNothing : Kind → Type 0
DeclaresNothing x = (d : Doctype) → declares x d ≡ d

-- THE SECOND PIECES ARE THE FIRST ONES written, read from c on, but for data, which may be left out, and may be written
-- wherever data is allowed, and for silent pieces
pub data AreFreelyRewritten : Context → List Piece → List Piece → Type 0 where
  over : (c : Context) → AreFreelyRewritten c [] []
  piece : (c : Context) (p q : Piece) (ps qs : List Piece) → DeclaresNothing p.kind → IsWritten c.doctype p.kind q.kind
      → AreFreelyRewritten (context_after p c) ps qs → AreFreelyRewritten c (p ∷ ps) (q ∷ qs)
  lacking : (c : Context) (p : Piece) (ps qs : List Piece) → IsSilent p.kind ⊎ IsData p.kind → AreFreelyRewritten (context_after p c) ps qs
      → AreFreelyRewritten c (p ∷ ps) qs
  besides : (c : Context) (q : Piece) (ps qs : List Piece) → IsSilent q.kind ⊎ (IsData q.kind × (allowed c Pcdata ≡ true))
      → AreFreelyRewritten c ps qs → AreFreelyRewritten c ps (q ∷ qs)
