-- What is allowed next, and which tag may be left out (7.3.1, 11.2.4, 11.2.5).
use Rattle.std.specs.Prelude.{◌≡◌, ◌<◌, ℕ, suc, Bool, true, false, not, ◌&&◌, ◌||◌, ◌⊎◌, bytes_eq, nat_lt, IsTrue, IsFalse, Option, Some, None, is_some, List, [], ◌∷◌, length}
use Rattle.std.specs.List.{list_any}
use Rattle.sgml_dtd.specs.model.Term.{Term, empty, name, done, required}
use Rattle.sgml_dtd.specs.model.Choice.{left_by, is_text}
use Rattle.sgml_dtd.specs.Doctypes.{Doctype}
use Rattle.sgml_theory_reading.specs.Names.{Name}
use Rattle.sgml_theory_reading.specs.Types.{Content, Model, Any, Cdata, Rcdata, Void}
use Rattle.sgml_theory_reading.specs.Types.{type_of, content_of, is_declared, is_in, has_model, has_declared_content, has_required}
use Rattle.sgml_theory_reading.specs.Pieces.{Piece, Kind, Start, End, Finish, How, Short, Net, Omitted}
use Rattle.sgml_theory_reading.specs.Facets.{Token, token}
use Rattle.sgml_theory_reading.specs.Context.{Level, Context}

abbrev pub level_content : Context → Level → Content
level_content s l = content_of (type_of s.doctype l.element)

-- the name of the document element, as a term
abbrev pub document_name : Option Name → Term
document_name None = empty
document_name (Some n) = name 0 n

-- the term that is left in the innermost element; before the document element it is its name,
-- after it nothing
abbrev pub left_in : Doctype → List Level → Bool → Term
left_in d [] false = document_name d.name
left_in d [] true = empty
left_in d (l ∷ ls) begun = l.left

abbrev pub left_of : Context → Term
left_of s = left_in s.doctype s.levels s.begun

abbrev pub is_token_in : Token → List Name → Bool
is_token_in (Some n) ns = is_in n ns
is_token_in None ns = false

-- some open element includes it, or excludes it
abbrev pub is_included : Doctype → List Level → Token → Bool
is_included d ls k = list_any (λ l. is_token_in k (type_of d l.element).body.included) ls

abbrev pub is_excluded_in : Doctype → List Level → Token → Bool
is_excluded_in d ls k = list_any (λ l. is_token_in k (type_of d l.element).body.excluded) ls

abbrev pub is_declared_token : Doctype → Token → Bool
is_declared_token d (Some n) = is_declared d n
is_declared_token d None = true

-- the innermost element's term takes it, or an open element includes it; in CDATA and RCDATA only
-- #PCDATA fits, in ANY #PCDATA and every declared type
abbrev pub fits_content : Context → Content → Token → Bool
fits_content s (Model term) k = is_some (left_by (left_of s) k) || is_included s.doctype s.levels k
fits_content s Any k = is_declared_token s.doctype k
fits_content s Cdata k = is_text k
fits_content s Rcdata k = is_text k
fits_content s Void k = false

abbrev pub fits_in : Context → List Level → Token → Bool
fits_in s [] k = is_some (left_by (left_of s) k)
fits_in s (l ∷ ls) k = fits_content s (level_content s l) k

abbrev pub fits : Context → Token → Bool
fits s k = fits_in s s.levels k

abbrev pub is_excluded : Context → Token → Bool
is_excluded s k = is_excluded_in s.doctype s.levels k

-- it fits, and no open element excludes it
unfoldable pub allowed : Context → Token → Bool
allowed s k = fits s k && not (is_excluded s k)

abbrev pub finished_in : Context → List Level → Bool
finished_in s [] = done (left_of s)
finished_in s (l ∷ ls) = not (has_model (level_content s l)) || done (left_of s)

-- the innermost element may end here; where none is open, the document may
unfoldable pub finished : Context → Bool
finished s = finished_in s s.levels

abbrev pub depth : Context → ℕ
depth s = length s.levels

-- how many elements stand inside the one that an end-tag or NET ends
abbrev pub counted : Bool → Option ℕ → Option ℕ
counted true o = Some 0
counted false None = None
counted false (Some n) = Some (suc n)

abbrev pub inside_of_first : (Level → Bool) → List Level → Option ℕ
inside_of_first test [] = None
inside_of_first test (l ∷ ls) = counted (test l) (inside_of_first test ls)

-- NET ends the innermost element that enabled it, </> the innermost one, any other end-tag the
-- innermost one of its type (7.5.1)
abbrev pub ended_by : Name → How → List Level → Option ℕ
ended_by n Net ls = inside_of_first (λ l. l.slash) ls
ended_by n Short ls = inside_of_first (λ l. true) ls
ended_by n _ ls = inside_of_first (λ l. bytes_eq n l.element) ls

unfoldable pub inside_of_ended : Context → Kind → Option ℕ
inside_of_ended s (End n how) = ended_by n how s.levels
inside_of_ended s _ = None

abbrev pub innermost_is : List Level → Name → Bool
innermost_is [] n = false
innermost_is (l ∷ ls) n = bytes_eq l.element n

-- WHAT THE VISIBLE PIECE DOES to the innermost element: it isn't allowed in it, or it ends one
-- further out, or all of them.

abbrev pub is_outer : Option ℕ → Bool
is_outer (Some (suc n)) = true
is_outer _ = false

-- content stands in an element further out, which needs one, and an element isn't left for what it
-- was begun for
abbrev pub leaves_as : Context → Kind → Option Token → Bool
leaves_as s x (Some k) = not (allowed s k) && (nat_lt 1 (depth s) && not s.inferred)
leaves_as s (End n how) None = is_outer (inside_of_ended s (End n how))
leaves_as s Finish None = true
leaves_as s x None = false

unfoldable pub leaves : Context → Kind → Bool
leaves s x = leaves_as s x (token x)

-- the end of the innermost element, of type n, may be left out before x
pub record EndMayStand (s : Context) (n : Name) (x : Kind) : Type 0 where
  -- OMITTAG is YES
  pub omits : IsTrue s.doctype.syntax.omittag
  pub of_innermost : IsTrue (innermost_is s.levels n)
  pub is_finished : IsTrue (finished s)
  -- O stands for its end-tag
  pub has_o : IsTrue (type_of s.doctype n).omits.end
  -- x is content that isn't allowed there, or the end of another element further out or of all
  pub before : IsTrue (leaves s x)

-- it is content that isn't allowed
abbrev pub misfits : Context → Option Token → Bool
misfits s None = false
misfits s (Some k) = not (allowed s k)

-- the start of an element of type n may be left out before x
pub record StartMayStand (s : Context) (n : Name) (x : Kind) : Type 0 where
  -- OMITTAG is YES
  pub omits : IsTrue s.doctype.syntax.omittag
  pub before : IsTrue (misfits s (token x))
  pub is_unfinished : IsFalse (finished s)
  pub is_required : required (left_of s) ≡ Some n
  pub declared : IsTrue (is_declared s.doctype n)
  pub not_excluded : IsFalse (is_excluded s (Some n))
  -- O stands for its start-tag
  pub has_o : IsTrue (type_of s.doctype n).omits.start
  pub no_required_attribute : IsFalse (has_required s.doctype n)
  pub no_declared_content : IsFalse (has_declared_content (content_of (type_of s.doctype n)))
  -- fewer than TAGLVL elements are open
  pub room : depth s < s.doctype.syntax.quantities.taglvl

abbrev pub omitted_end : Name → Piece
omitted_end n = record { kind = End n Omitted; size = 0; spent = 0 }

-- a required element is a proper one, and one with a group doesn't end at once
abbrev pub omitted_start : Name → Piece
omitted_start n = record { kind = Start n [] Omitted true false; size = 0; spent = 0 }

-- the omitted piece o may stand before x
abbrev pub MayStand : Context → Piece → Kind → Type 0
MayStand s o x = ((n : Name) × (o ≡ omitted_end n) × EndMayStand s n x) ⊎ ((n : Name) × (o ≡ omitted_start n) × StartMayStand s n x)

-- no omitted piece may stand before x
abbrev pub NoneMayStand : Context → Kind → Type 0
NoneMayStand s x = (o : Piece) → ¬ MayStand s o x
