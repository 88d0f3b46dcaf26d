-- Contexts one of which takes all that the other takes, and documents whose data stands elsewhere or not at all.
use Rattle.std.specs.Prelude.{◌≡◌, ◌⊎◌, Bool, true, false, ◌&&◌, Option, Some, None, is_some, List, [], ◌∷◌}
use Rattle.sgml_theory_worked.specs.model.Term.{Term, done}
use Rattle.sgml_theory_worked.specs.model.Choice.{left_by}
use Rattle.sgml_theory_worked.specs.dtd.Doctypes.{Doctype}
use Rattle.sgml_theory_worked.specs.theory_reading.Pieces.{Piece, Kind, Sgml, Head, Declare, Start, End, Finish}
use Rattle.sgml_theory_worked.specs.theory_reading.Facets.{Token, Pcdata, token, effect, Stays, declares, is_finish}
use Rattle.sgml_theory_worked.specs.theory_reading.Context.{Level, Context, context_after, token_left, left_after}
use Rattle.sgml_theory_worked.specs.theory_reading.Omission.{allowed}
use Rattle.sgml_theory_written.specs.Written.{IsWritten}

-- the term takes these tokens, one after another
abbrev pub takes_all : Term → List Token → Bool
takes_all r [] = true
takes_all r (k ∷ ks) = is_some (left_by r k) && takes_all (token_left r k) ks

-- the term s COVERS r: it takes whatever r takes, and nothing more need come after that where nothing more need come in r
pub record CoversTerm (s r : Term) : Type 0 where
  pub takes : (ks : List Token) → takes_all r ks ≡ true → takes_all s ks ≡ true
  pub ends : (ks : List Token) → takes_all r ks ≡ true → done (left_after r ks) ≡ true → done (left_after s ks) ≡ true

pub record CoversLevel (m l : Level) : Type 0 where
  pub elements : l.element ≡ m.element
  pub lefts : CoversTerm m.left l.left

abbrev pub CoverLevels : List Level → List Level → Type 0
CoverLevels [] [] = Unit {0}
CoverLevels (m ∷ ms) (l ∷ ls) = CoversLevel m l × CoverLevels ms ls
CoverLevels _ _ = ⊥

-- the context d covers c: the same elements are open, and what is left of each covers what is left in c
pub record Covers (d c : Context) : Type 0 where
  pub doctypes : c.doctype ≡ d.doctype
  pub levels : CoverLevels d.levels c.levels
  pub begun : c.begun ≡ d.begun

-- it is no content, begins and ends nothing, and declares nothing
pub record IsSilent (x : Kind) : Type 0 where
  pub no_content : token x ≡ None
  pub stays : effect x ≡ Stays
  pub declares_nothing : (d : Doctype) → declares x d ≡ d
  pub isnt_finish : is_finish x ≡ false

abbrev pub IsData : Kind → Type 0
IsData x = token x ≡ Some Pcdata

-- tags, declarations and the end of the document: pieces of each other kind are silent or data
abbrev pub is_needed : Kind → Bool
is_needed (Sgml syntax) = true
is_needed (Head head base) = true
is_needed (Declare lexemes says base) = true
is_needed (Start n specifications how proper at_once) = true
is_needed (End n how) = true
is_needed Finish = true
is_needed x = false

-- what is left in the innermost element covers what data leaves of it
abbrev pub CoversDataIn : List Level → Type 0
CoversDataIn [] = Unit {0}
CoversDataIn (l ∷ ls) = CoversTerm l.left (token_left l.left Pcdata)

-- a piece that need not be written: what comes after it stands without it
abbrev pub MayLack : Context → Kind → Type 0
MayLack c x = IsSilent x ⊎ (IsData x × CoversDataIn c.levels)

-- what is left in the innermost element doesn't take the token in c, nor in d
abbrev pub MissIn : List Level → List Level → Token → Type 0
MissIn (l ∷ ls) (m ∷ ms) k = left_by l.left k ≡ None → left_by m.left k ≡ None
MissIn _ _ k = Unit {0}

abbrev pub MissContent : Context → Context → Option Token → Type 0
MissContent c d None = Unit {0}
MissContent c d (Some k) = MissIn c.levels d.levels k

-- content that the innermost element's model doesn't take in c, as that which is included, it doesn't take in d
abbrev pub MissesToo : Context → Context → Kind → Type 0
MissesToo c d x = MissContent c d (token x)

-- what data leaves in the innermost element covers what is left there, as where data was taken before
abbrev pub DataCoversIn : List Level → Type 0
DataCoversIn [] = Unit {0}
DataCoversIn (l ∷ ls) = CoversTerm (token_left l.left Pcdata) l.left

-- a piece that may be written besides
abbrev pub MayHave : Context → Context → Kind → Type 0
MayHave c d x = IsSilent x ⊎ (IsData x × (allowed c Pcdata ≡ true) × DataCoversIn c.levels × MissesToo c d x)

-- THE SECOND PIECES ARE THE FIRST ONES written, but for data that stands elsewhere or not at all, and for silent pieces. The
-- first ones are read from c on, the second from d on.
pub data AreRewritten : Context → Context → List Piece → List Piece → Type 0 where
  over : (c d : Context) → AreRewritten c d [] []
  piece : (c d : Context) (p q : Piece) (ps qs : List Piece) → IsWritten d.doctype p.kind q.kind → MissesToo c d p.kind
      → AreRewritten (context_after p c) (context_after q d) ps qs → AreRewritten c d (p ∷ ps) (q ∷ qs)
  lacking : (c d : Context) (p : Piece) (ps qs : List Piece) → MayLack c p.kind → AreRewritten (context_after p c) d ps qs
      → AreRewritten c d (p ∷ ps) qs
  besides : (c d : Context) (q : Piece) (ps qs : List Piece) → MayHave c d q.kind → AreRewritten c (context_after q d) ps qs
      → AreRewritten c d ps (q ∷ qs)
