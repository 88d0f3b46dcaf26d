-- Declarations before the document type, and another one than its head.
use Rattle.std.proofs.Common.{◌≡◌, ℕ, ◌≤◌, Bool, true, false, List, [], Option, None, Result, Err, length, take, refl, ◌∙◌, ap, subst, if◌then◌else◌, arith, length-take}
use Rattle.sgml_text.specs.declared.reason.Reason.{Reason}
use Rattle.sgml_scan.specs.delim.declared.delim.Mode.{Mode}
use Rattle.sgml_scan.specs.markup.declared.kinds.TokenKind.{TokenKind}
use Rattle.sgml_scan.specs.markup.declared.kinds.TokenKind.TheVariants as kind
use Rattle.sgml_scan.specs.declared.state.Token.{Token}
use Rattle.sgml_declared.specs.decl_parts.Ends.{is_doctype}
use Rattle.sgml_declared.specs.decl_parts.declared.ends.Construct.TheVariants as construct
use Rattle.sgml_dtd.specs.Doctypes.{Doctype}
use Rattle.sgml_declared.specs.theory_reading.Names.{Name, Text}
use Rattle.sgml_declared.specs.theory_reading.Pieces.{Piece}
use Rattle.sgml_declared.specs.theory_reading.Facets.{ExternalSubset}
use Rattle.sgml_declared.specs.theory_reading.Unread.{Outside}
use Rattle.sgml_declared.specs.theory_reading.State.{State}
use Rattle.sgml_declared.specs.theory_spelling.Stacked.{Stacked}
use Rattle.sgml_declared.specs.theory_spelling.Decided.{is_before}
use Rattle.sgml_declared.specs.theory_spelling.Declared.{lexed}
use Rattle.sgml_declared.specs.theory_spelling.Prolog.{piece_before, subset_piece, declaration_before, head_lexed, other_reason}
use Rattle.sgml_declared.specs.theory_standing.Supplied.{AreSuppliedSoFar}
use Rattle.sgml_declared.specs.theory_standing.Kept.{Kept, sources_of}
use Rattle.sgml_declared.specs.theory_standing.Prologs.{state_in_prolog, is_over}
use Rattle.sgml_declared.specs.Files.{Choices, sources_in}
use Rattle.sgml_declared.specs.Taking.{stacked_on, Ends, IsWhole, IsAround}
use Rattle.sgml_declared.specs.Heads.{IsMisplaced}
use Rattle.sgml_prolog_steps.specs.Standing.{IsKept, IsUndeclared}
use Rattle.sgml_prolog_steps.specs.Found.{rest_in, mode_of, IsSpelled, is_each, IsPiece, IsTokenThere, innermost}
use Rattle.sgml_prolog_steps.specs.Found as places
use Rattle.sgml_prolog_steps.specs.declared.sort.Sort.{Sort}
use Rattle.sgml_prolog_steps.specs.declared.sort.Sort.TheVariants as sort
use Rattle.sgml_prolog_steps.specs.declared.stepping.Stop.TheVariants as stop
use Rattle.sgml_prolog_steps.specs.Sorts.{sort_before, sort_inside, sort_in, is_ignored}
use Rattle.sgml_prolog_steps.specs.Steps.{IsOutside, IsStep}
use Rattle.sgml_prolog_steps.proofs.Shared.{refused, refused-step}
use Rattle.sgml_prolog.specs.Heads.{is_head}

-- A DECLARATION by its sort stands before the document type

abbrev sort_by : Bool → Bool → TokenKind → Sort
sort_by before ignored x = if before then sort_before x else sort_inside ignored x

pub record IsBefore (b : Bool) (x : TokenKind) : Type 0 where
  pub before : b ≡ true
  pub declaration : x ≡ kind.Declaration

head-sort : (before ignored : Bool) (x : TokenKind) → sort_by before ignored x ≡ sort.Head → IsBefore before x
head-sort true ignored kind.Separators e = absurd (cc)
head-sort true ignored kind.Pi e = absurd (cc)
head-sort true ignored kind.Comment e = absurd (cc)
head-sort true ignored kind.Declaration e = record { before = refl; declaration = refl }
head-sort true ignored _ e = absurd (cc)
head-sort false true kind.Chars e = absurd (cc)
head-sort false false kind.Chars e = absurd (cc)
head-sort false ignored _ e = absurd (cc)

pub before-is : (k : Kept) (x : TokenKind) → sort_in k x ≡ sort.Head → IsBefore (is_before k.stage) x
before-is k x e = head-sort (is_before k.stage) (is_ignored (innermost k.sections)) x e

pub undeclared : (k : Kept) (x : TokenKind) → IsKept k → sort_in k x ≡ sort.Head → IsUndeclared k
undeclared k x h e = h.before (before-is k x e).before

pub no-entities : (k : Kept) (x : TokenKind) → IsKept k → sort_in k x ≡ sort.Head → k.doctype.entities ≡ []
no-entities k x h e = ap (λ (d : Doctype). d.entities) (undeclared k x h e).doctype

pub ends-there : (k : Kept) (texts : List (ℕ × Text)) (ended : Bool) (x : Token) → sort_in k x.kind ≡ sort.Head → IsTokenThere k texts ended x
    → Ends construct.Declaration k.doctype texts k.stack x.length
ends-there k texts ended x e there = subst (λ y. places.IsWhole k texts y x.length) (before-is k x.kind e).declaration there.whole

pub whole-there : (k : Kept) (texts : List (ℕ × Text)) (ended : Bool) (x : Token) → sort_in k x.kind ≡ sort.Head → IsTokenThere k texts ended x
    → IsWhole construct.Declaration k.doctype texts k.stack
whole-there k texts ended x e there = (x.length, ends-there k texts ended x e there)

-- WHAT IS SPELLED there

length-own : (n : ℕ) (bytes : Text) → n ≤ length bytes → length (take n bytes) ≡ n
length-own n bytes l = omega (arith, length-take n bytes, l)

before-each : (before : Bool) (x : TokenKind) → IsBefore before x → is_each before x ≡ false
before-each before x b = ap (is_each before) b.declaration

before-piece : (before : Bool) (x : TokenKind) (outside : Outside) (s : State) (t : Stacked) (m : Mode) (own : Text) → IsBefore before x
    → (if before then piece_before outside s t x own else subset_piece outside s t m x own) ≡ declaration_before outside s t own
unfolding piece_before
before-piece before x outside s t m own b =
    ap (λ z. if z then piece_before outside s t x own else subset_piece outside s t m x own) b.before
    ∙ ap (λ y. piece_before outside s t y own) b.declaration

declaration-spelled : (outside : Outside) (k : Kept) (texts : List (ℕ × Text)) (ended : Bool) (x : Token) → sort_in k x.kind ≡ sort.Head → IsTokenThere k texts ended x
    → IsSpelled outside k texts ended (declaration_before outside (state_in_prolog k) (stacked_on k.stack) (take x.length (rest_in k texts)))
declaration-spelled outside k texts ended x e there =
    let b = before-is k x.kind e in
    subst (λ (a : Result Piece Reason). IsSpelled outside k texts ended a)
    (before-piece (is_before k.stage) x.kind outside (state_in_prolog k) (stacked_on k.stack) (mode_of k) (take x.length (rest_in k texts)) b)
    (subst (λ z. IsPiece outside k texts ended x z) (before-each (is_before k.stage) x.kind b) (there.piece outside))

-- by whether it is the head
abbrev said_by : Bool → Outside → Kept → Stacked → Text → ℕ → Result Piece Reason
said_by is outside k t own n =
    if is then head_lexed outside (sources_of k) t n (lexed construct.Declaration outside k.doctype t own)
    else Err (other_reason (lexed construct.Declaration outside k.doctype t own))

declaration-is : (outside : Outside) (k : Kept) (t : Stacked) (own : Text)
    → declaration_before outside (state_in_prolog k) t own ≡ said_by (is_doctype k.doctype.syntax.names own) outside k t own (length own)
unfolding state_in_prolog
declaration-is outside k t own = refl

pub said : (outside : Outside) (k : Kept) (texts : List (ℕ × Text)) (ended : Bool) (x : Token) (is : Bool) → sort_in k x.kind ≡ sort.Head → IsTokenThere k texts ended x
    → is_head k texts x ≡ is → IsSpelled outside k texts ended (said_by is outside k (stacked_on k.stack) (take x.length (rest_in k texts)) x.length)
said outside k texts ended x is e there h =
    let own = take x.length (rest_in k texts) in
    subst (λ (a : Result Piece Reason). IsSpelled outside k texts ended a)
    (declaration-is outside k (stacked_on k.stack) own
    ∙ ap (λ n. said_by (is_head k texts x) outside k (stacked_on k.stack) own n) (length-own x.length (rest_in k texts) there.within)
    ∙ ap (λ z. said_by z outside k (stacked_on k.stack) own x.length) h)
    (declaration-spelled outside k texts ended x e there)

-- for each outside the texts are supplied, with this stack
pub around : (c : Choices) (outside : Outside) (k : Kept) (texts : List (ℕ × Text)) (asked : Option Name) → IsKept k → k.subset ≡ None → IsOutside c outside k texts asked
    → IsAround c outside (sources_in k.doctype None) texts k.stack
around c outside k texts asked h none o = record {
  of_options = o.of_options;
  supplied = subst (λ (s : Option ExternalSubset). AreSuppliedSoFar outside (sources_in k.doctype s) texts) none o.supplied;
  levels = h.levels;
  expand = o.expand;
}

-- ANOTHER DECLARATION
pub misplaced-step : (c : Choices) (texts : List (ℕ × Text)) (ended : Bool) (x : Token) (old new : Kept) (r : Reason) → IsKept old → is_over old ≡ false
    → IsTokenThere old texts ended x → sort_in old x.kind ≡ sort.Head → is_head old texts x ≡ false → IsMisplaced c (sources_in old.doctype None) texts old.stack r → new ≡ old
    → (asked : Option Name) → IsStep c texts ended asked old new (Err (stop.Refused r))
misplaced-step c texts ended x old new r h g there e other is same asked =
    refused-step c texts ended asked old new r
    (λ outside o. refused outside old texts ended r g
    (subst (λ z. IsSpelled outside old texts ended (Err z))
    (is outside x.length (around c outside old texts asked h (undeclared old x.kind h e).no_subset o) (ends-there old texts ended x e there))
    (said outside old texts ended x false e there other)))
    same
