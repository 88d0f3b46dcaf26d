-- The piece that a token in the document type is.
use Rattle.std.proofs.Common.{◌≡◌, ℕ, Bool, true, false, List, Result, take, refl, ◌∙◌, ap, subst, if◌then◌else◌}
use Rattle.sgml_text.specs.declared.reason.Reason.{Reason}
use Rattle.sgml_scan.specs.delim.declared.delim.Mode.{Mode}
use Rattle.sgml_scan.specs.delim.declared.delim.Mode.TheVariants as mode
use Rattle.sgml_scan.specs.markup.declared.kinds.TokenKind.{TokenKind}
use Rattle.sgml_scan.specs.markup.declared.kinds.TokenKind.TheVariants as kind
use Rattle.sgml_scan.specs.declared.state.Token.{Token}
use Rattle.sgml_declared.specs.theory_reading.Names.{Text}
use Rattle.sgml_declared.specs.theory_reading.Pieces.{Piece}
use Rattle.sgml_declared.specs.theory_reading.Unread.{Outside}
use Rattle.sgml_declared.specs.theory_reading.State.{State, sources_in}
use Rattle.sgml_declared.specs.theory_spelling.Stacked.{Stacked}
use Rattle.sgml_declared.specs.theory_spelling.Decided.{is_before}
use Rattle.sgml_declared.specs.theory_spelling.Prolog.{piece_before, subset_piece, declaration_piece, end_piece}
use Rattle.sgml_declared.specs.theory_standing.Kept.{Kept}
use Rattle.sgml_declared.specs.theory_standing.Prologs.{state_in_prolog}
use Rattle.sgml_declared.specs.Taking.{stacked_on}
use Rattle.sgml_prolog_steps.specs.Found.{rest_in, mode_of, innermost, is_each, IsPiece, IsSpelled, IsTokenThere}
use Rattle.sgml_prolog_steps.specs.declared.sort.Sort.TheVariants as sort
use Rattle.sgml_prolog_steps.specs.Sorts.{sort_before, sort_inside, sort_in, is_ignored}

-- WHICH TOKENS they are
declaration-sort : (before ignored : Bool) (x : TokenKind) → (if before then sort_before x else sort_inside ignored x) ≡ sort.Declaration → (before ≡ false) × (x ≡ kind.Declaration)
declaration-sort true ignored kind.Separators e = absurd (cc)
declaration-sort true ignored kind.Pi e = absurd (cc)
declaration-sort true ignored kind.Comment e = absurd (cc)
declaration-sort true ignored kind.Declaration e = absurd (cc)
declaration-sort true ignored _ e = absurd (cc)
declaration-sort false ignored kind.Declaration e = (refl, refl)
declaration-sort false true kind.Chars e = absurd (cc)
declaration-sort false false kind.Chars e = absurd (cc)
declaration-sort false ignored _ e = absurd (cc)

pub is-declaration : (k : Kept) (x : TokenKind) → sort_in k x ≡ sort.Declaration → (is_before k.stage ≡ false) × (x ≡ kind.Declaration)
is-declaration k x e = declaration-sort (is_before k.stage) (is_ignored (innermost k.sections)) x e

-- WHAT IS SPELLED
pub spelled-inside : (outside : Outside) (k : Kept) (texts : List (ℕ × Text)) (ended : Bool) (x : Token) (y : TokenKind) → is_before k.stage ≡ false → x.kind ≡ y
    → is_each false y ≡ false → IsTokenThere k texts ended x
    → IsSpelled outside k texts ended (subset_piece outside (state_in_prolog k) (stacked_on k.stack) (mode_of k) y (take x.length (rest_in k texts)))
spelled-inside outside k texts ended x y b is each there =
    let own = take x.length (rest_in k texts) in
    let one : is_each (is_before k.stage) x.kind ≡ false = ap (λ t. is_each t x.kind) b ∙ ap (is_each false) is ∙ each in
    let p : IsPiece outside k texts ended x false = subst (λ t. IsPiece outside k texts ended x t) one (there.piece outside) in
    subst (λ (a : Result Piece Reason). IsSpelled outside k texts ended a)
    (ap (λ t. if t then piece_before outside (state_in_prolog k) (stacked_on k.stack) x.kind own else subset_piece outside (state_in_prolog k) (stacked_on k.stack) (mode_of k) x.kind own) b
    ∙ ap (λ z. subset_piece outside (state_in_prolog k) (stacked_on k.stack) (mode_of k) z own) is)
    p

pub declaration-inside : (outside : Outside) (s : State) (t : Stacked) (m : Mode) (own : Text)
    → subset_piece outside s t m kind.Declaration own ≡ declaration_piece outside (sources_in s) t own
unfolding subset_piece
declaration-inside outside s t mode.Ign own = refl
declaration-inside outside s t _ own = refl

section-start-sort : (before ignored : Bool) (x : TokenKind) → (if before then sort_before x else sort_inside ignored x) ≡ sort.SectionStart → (before ≡ false) × (x ≡ kind.SectionStart)
section-start-sort true ignored kind.Separators e = absurd (cc)
section-start-sort true ignored kind.Pi e = absurd (cc)
section-start-sort true ignored kind.Comment e = absurd (cc)
section-start-sort true ignored kind.Declaration e = absurd (cc)
section-start-sort true ignored _ e = absurd (cc)
section-start-sort false ignored kind.SectionStart e = (refl, refl)
section-start-sort false true kind.Chars e = absurd (cc)
section-start-sort false false kind.Chars e = absurd (cc)
section-start-sort false ignored _ e = absurd (cc)

pub is-section-start : (k : Kept) (x : TokenKind) → sort_in k x ≡ sort.SectionStart → (is_before k.stage ≡ false) × (x ≡ kind.SectionStart)
is-section-start k x e = section-start-sort (is_before k.stage) (is_ignored (innermost k.sections)) x e

subset-end-sort : (before ignored : Bool) (x : TokenKind) → (if before then sort_before x else sort_inside ignored x) ≡ sort.SubsetEnd → (before ≡ false) × (x ≡ kind.SubsetEnd)
subset-end-sort true ignored kind.Separators e = absurd (cc)
subset-end-sort true ignored kind.Pi e = absurd (cc)
subset-end-sort true ignored kind.Comment e = absurd (cc)
subset-end-sort true ignored kind.Declaration e = absurd (cc)
subset-end-sort true ignored _ e = absurd (cc)
subset-end-sort false ignored kind.SubsetEnd e = (refl, refl)
subset-end-sort false true kind.Chars e = absurd (cc)
subset-end-sort false false kind.Chars e = absurd (cc)
subset-end-sort false ignored _ e = absurd (cc)

pub is-subset-end : (k : Kept) (x : TokenKind) → sort_in k x ≡ sort.SubsetEnd → (is_before k.stage ≡ false) × (x ≡ kind.SubsetEnd)
is-subset-end k x e = subset-end-sort (is_before k.stage) (is_ignored (innermost k.sections)) x e

pub subset-end-inside : (outside : Outside) (s : State) (t : Stacked) (m : Mode) (own : Text) → subset_piece outside s t m kind.SubsetEnd own ≡ end_piece outside s t own
unfolding subset_piece
subset-end-inside outside s t mode.Ign own = refl
subset-end-inside outside s t _ own = refl
