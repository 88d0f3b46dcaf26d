-- Why a piece can't stand where it comes, for what is open there (7.3, 7.5, 11.2).
use Rattle.std.specs.Prelude.{◌≡◌, ◌<◌, ℕ, zero, Bool, true, false, not, ◌&&◌, ◌||◌, ◌==◌, nat_le, IsTrue, Option, Some, None, is_some, List, [], ◌∷◌, if◌then◌else◌}
use Rattle.sgml_dtd.specs.text.declared.reason.Reason.{Reason}
use Rattle.sgml_dtd.specs.text.declared.reason.Reason.TheVariants.{TagLevel, EmptyInferred, NotAllowed, Excluded, OmitUndeclared, NotOmissible, NotOpen, Unfinished}
use Rattle.sgml_dtd.specs.model.Term.{required}
use Rattle.sgml_theory_reading.specs.Names.{Name}
use Rattle.sgml_theory_reading.specs.Types.{type_of, content_of, is_declared, has_declared_content, has_required}
use Rattle.sgml_theory_reading.specs.Pieces.{Kind, End, Finish}
use Rattle.sgml_theory_reading.specs.Facets.{Token, Pcdata, token, is_start}
use Rattle.sgml_theory_reading.specs.Context.{Level, Context}
use Rattle.sgml_theory_reading.specs.Omission.{NoneMayStand, allowed, fits, is_excluded, finished, depth, left_of, inside_of_ended}

-- a row of the table of reasons: where its test holds and those of the rows above don't, its reason is the answer
unfoldable pub row : Bool → Reason → Option Reason → Option Reason
row true reason rest = Some reason
row false reason rest = rest

-- all elements that the quantity TAGLVL allows are open
abbrev pub is_full : Context → Bool
is_full s = nat_le s.doctype.syntax.quantities.taglvl (depth s)

abbrev pub is_after_document_element : Context → Bool
is_after_document_element s = (depth s == 0) && s.begun

-- the element that must come next is none, or excluded, or has no declaration
abbrev pub cannot_be_required : Context → Option Name → Bool
cannot_be_required s None = true
cannot_be_required s (Some n) = not (is_declared s.doctype n) || is_excluded s (Some n)

abbrev pub start_is_omissible : Context → Option Name → Bool
start_is_omissible s None = false
start_is_omissible s (Some n) = s.doctype.syntax.omittag && (type_of s.doctype n).omits.start

abbrev pub has_reason_to_be_written : Context → Option Name → Bool
has_reason_to_be_written s None = false
has_reason_to_be_written s (Some n) = has_required s.doctype n || has_declared_content (content_of (type_of s.doctype n))

abbrev pub excluded_or_not_allowed : Bool → Reason
excluded_or_not_allowed true = Excluded
excluded_or_not_allowed false = NotAllowed

abbrev pub content_may_stand : Context → Token → Bool → Bool
content_may_stand s k is_start_tag = allowed s k && not (is_start_tag && is_full s)

-- s is the state after the longest run of omitted pieces
unfoldable pub content_refusal : Context → Token → Option Reason
content_refusal s k =
    row (allowed s k) TagLevel
    (row (s.inferred && finished s) EmptyInferred
    (row (is_after_document_element s) NotAllowed
    (row (finished s && (fits s k && is_excluded s k)) Excluded
    (row (finished s && (depth s == 1)) NotAllowed
    (row (finished s) OmitUndeclared
    (row (cannot_be_required s (required (left_of s))) (excluded_or_not_allowed (fits s k))
    (row (not (start_is_omissible s (required (left_of s)))) OmitUndeclared
    (row (has_reason_to_be_written s (required (left_of s))) NotOmissible
    (Some TagLevel)))))))))

abbrev pub content_reason : Context → Token → Bool → Option Reason
content_reason s k is_start_tag = if content_may_stand s k is_start_tag then None else content_refusal s k

-- the end of the innermost element can be left out
abbrev pub end_is_omissible_in : Context → List Level → Bool
end_is_omissible_in s [] = false
end_is_omissible_in s (l ∷ ls) = s.doctype.syntax.omittag && (type_of s.doctype l.element).omits.end

abbrev pub end_is_omissible : Context → Bool
end_is_omissible s = end_is_omissible_in s s.levels

abbrev pub is_innermost : Option ℕ → Bool
is_innermost (Some zero) = true
is_innermost _ = false

-- inside: how many elements stand inside the one that is ended
unfoldable pub end_refusal : Context → Option ℕ → Option Reason
end_refusal s inside =
    row (not (is_some inside)) NotOpen
    (row (not (finished s) || not s.begun) Unfinished
    (row (not (end_is_omissible s)) OmitUndeclared
    None))

abbrev pub end_reason : Context → Option ℕ → Option Reason
end_reason s inside = if is_innermost inside && finished s then None else end_refusal s inside

unfoldable pub finish_refusal : Context → Option Reason
finish_refusal s =
    row (not (finished s) || not s.begun) Unfinished
    (row (not (end_is_omissible s)) OmitUndeclared
    None)

abbrev pub finish_reason : Context → Option Reason
finish_reason s = if is_after_document_element s then None else finish_refusal s

abbrev pub reason_by_token : Context → Kind → Option Token → Option Reason
reason_by_token s x (Some k) = content_reason s k (is_start x)
reason_by_token s (End n how) None = end_reason s (inside_of_ended s (End n how))
reason_by_token s Finish None = finish_reason s
reason_by_token s x None = None

-- the first row that holds of x in this state
unfoldable pub reason : Context → Kind → Option Reason
reason s x = reason_by_token s x (token x)

-- x may stand in this state
abbrev pub Stands : Context → Kind → Option Token → Type 0
Stands s x (Some k) = IsTrue (allowed s k) × (IsTrue (is_start x) → depth s < s.doctype.syntax.quantities.taglvl)
Stands s (End n how) None = (inside_of_ended s (End n how) ≡ Some 0) × IsTrue (finished s)
Stands s Finish None = (depth s ≡ 0) × IsTrue s.begun
Stands s x None = Unit {0}

-- some element is open
abbrev pub is_inside : Context → Bool
is_inside s = not (depth s == 0)

-- data may stand in this state, directly
pub record DataGoesOn (s : Context) (x : Kind) : Type 0 where
  pub allowed : IsTrue (allowed s Pcdata)
  pub none_omitted : NoneMayStand s x
  pub no_reason : reason s x ≡ None
