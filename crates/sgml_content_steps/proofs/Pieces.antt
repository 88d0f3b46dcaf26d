-- The piece that a token is, by its kind.
use Rattle.std.proofs.Common.{◌≡◌, ℕ, zero, suc, ◌<◌, ◌≤◌, ◌==◌, ◌||◌, Bool, true, false, List, [], ◌∷◌, Result, Ok, Err, length, take, drop, refl, sym, ◌∙◌, ap, subst, arith}
use Rattle.std.specs.Prelude.{slice_index_or, None, map, reverse, if◌then◌else◌}
use Rattle.std.specs.List.{list_any}
use Rattle.std.proofs.lemmas.List.{length-take}
use Rattle.sgml_text.specs.declared.place.Place.{Place}
use Rattle.sgml_text.specs.declared.reason.Reason.{Reason}
use Rattle.sgml_text.specs.declared.reason.Reason.TheVariants as reason
use Rattle.sgml_delim.specs.declared.delim.Mode.{Mode}
use Rattle.sgml_scan.specs.markup.declared.kinds.TokenKind.{TokenKind}
use Rattle.sgml_scan.specs.markup.declared.kinds.TokenKind.TheVariants as kind
use Rattle.sgml_scan.specs.declared.state.ScanState.{ScanState}
use Rattle.sgml_marked.specs.Opened.{is_open_at}
use Rattle.sgml_prolog_steps.specs.decl_lexemes.Readings.{entity_of}
use Rattle.sgml_infer.specs.sgml_dtd.Doctypes.{Doctype}
use Rattle.sgml_theory_starts.specs.theory_reading.Names.{Text}
use Rattle.sgml_theory_starts.specs.theory_reading.Pieces.{Piece, Char, End, EntityEnd, Pi, Comment, Tag, Short, Net}
use Rattle.sgml_theory_starts.specs.theory_reading.ShortTags.{empty_start_type, empty_end_type, net_type}
use Rattle.sgml_theory_starts.specs.theory_reading.Characters.{separator_kind}
use Rattle.sgml_theory_starts.specs.theory_reading.Unread.{Outside}
use Rattle.sgml_theory_starts.specs.theory_reading.State.{State}
use Rattle.sgml_theory_starts.specs.theory_spelling.Stacked.{Stacked}
use Rattle.sgml_theory_starts.specs.theory_reading.Facets.{Stage, AfterSubset, subset_number}
use Rattle.sgml_theory_starts.specs.theory_spelling.Sized.{sized, sized_ok, unless_reason}
use Rattle.sgml_theory_starts.specs.theory_spelling.Places.{in_doctype, in_section}
use Rattle.sgml_theory_starts.specs.theory_spelling.Prolog.{at_type_end}
use Rattle.sgml_theory_starts.specs.theory_spelling.Spelled.{type_end, document_end, entity_end}
use Rattle.sgml_theory_starts.specs.theory_spelling.Tags.{element_of}
use Rattle.sgml_theory_starts.specs.theory_spelling.Content.{character_kind, string_kind, start_piece, short_start, ending_of, reference_kind, referred_name, instruction, section_piece, section_end, declaration_in_content, content_piece}
use Rattle.sgml_theory_starts.specs.theory_standing.Kept.{Kept}
use Rattle.sgml_theory_starts.specs.theory_standing.Held.{Held, state_of, IsSpelledIn}
use Rattle.sgml_theory_starts.specs.declaring.Taking.{stacked_on}
use Rattle.sgml_prolog_steps.specs.Found.{rest_in, moved_on}
use Rattle.sgml_prolog_steps.specs.Standing.{LiesUnder}
use Rattle.sgml_prolog_steps.proofs.Top.{apart}
use Rattle.sgml_prolog_steps.proofs.Nesting.{in-section}
use Rattle.sgml_content_steps.specs.Standing.{IsInInstance}
use Rattle.sgml_content_steps.specs.Found.{is_each, IsPiece}
use Rattle.sgml_content_steps.specs.Laws.{IsOfKind, CharactersArePieces, RecordEndsArePieces, RecordStartsArePieces, NumbersArePieces, FunctionsArePieces, InstructionsArePieces, CommentsArePieces, StartTagsArePieces, EmptyStartsArePieces, EndTagsArePieces, EmptyEndsArePieces, NetsArePieces, StringsArePieces, SectionEndsArePieces, DeclarationsArePieces, ReferencesArePieces, SectionStartsArePieces, section_ended, text_ended, EndsArePieces, is_misplaced, OthersAreRefused}

-- a piece by its own bytes is one by their number too
abbrev IsBySize : TokenKind → (Kept → Mode → Text → ℕ → Outside → State → Result Piece Reason) → Type 0
IsBySize q piece =
    (k : Kept) (m : Mode) (own : Text) (outside : Outside) (s : State) → s.context.doctype ≡ k.doctype
    → content_piece outside s (stacked_on k.stack) m q own ≡ piece k m own (length own) outside s

size-of : (n : ℕ) (xs : List ℕ) → n ≤ length xs → length (take n xs) ≡ n
size-of n xs l = let e = length-take n xs in omega (arith, e, l)

of-kind : (q : TokenKind) (piece : Kept → Mode → Text → ℕ → Outside → State → Result Piece Reason) → is_each q ≡ false → IsBySize q piece → IsOfKind q piece
of-kind q piece e same k st texts ended x h is = λ outside y held.
    let own = take x.length (rest_in k texts) in
    let one = subst (λ t. IsPiece k st texts ended x t) (ap is_each is ∙ e) h.piece in
    subst (IsSpelledIn outside y texts ended)
    (ap (λ c. content_piece outside (state_of y) (stacked_on k.stack) st.mode c own) is
    ∙ same k st.mode own outside (state_of y) (ap (λ (z : Kept). z.doctype) held.kept)
    ∙ ap (λ n. piece k st.mode own n outside (state_of y)) (size-of x.length (rest_in k texts) h.within))
    (one outside y held)

-- of a stretch the byte at a place
one-byte : (bytes : List ℕ) (i n : ℕ) → i < n → n ≤ length bytes → take 1 (drop i bytes) ≡ slice_index_or bytes i 0 ∷ []
one-byte [] zero n l m = absurd (omega (arith, l, m))
one-byte [] (suc i) n l m = absurd (omega (arith, l, m))
one-byte (b ∷ bytes) zero n l m = refl
one-byte (b ∷ bytes) (suc i) zero l m = absurd (omega (arith, l))
one-byte (b ∷ bytes) (suc i) (suc n) l m = one-byte bytes i n (omega (arith, l)) (omega (arith, m))

character-piece : (outside : Outside) (s : State) (t : Stacked) (st : ScanState) (b : ℕ) → content_piece outside s t st.mode kind.Chars (b ∷ []) ≡ Ok (sized 1 (character_kind s st.mode b))
unfolding content_piece
character-piece outside s t st b = refl

pub characters-are-pieces : CharactersArePieces
characters-are-pieces k st texts ended x i h is l = λ outside y held.
    let each = subst (λ t. IsPiece k st texts ended x t) (ap is_each is) h.piece in
    let t = stacked_on (moved_on i k).stack in
    subst (IsSpelledIn outside y texts ended)
    (ap (λ c. content_piece outside (state_of y) t st.mode c (take 1 (drop i (rest_in k texts)))) is
    ∙ ap (content_piece outside (state_of y) t st.mode kind.Chars) (one-byte (rest_in k texts) i x.length l h.within)
    ∙ character-piece outside (state_of y) t st (slice_index_or (rest_in k texts) i 0))
    (each i l outside y held)

record-end-by-size : IsBySize kind.Re (λ k m own n outside s. Ok (sized n (separator_kind s 13)))
unfolding content_piece
record-end-by-size k m own outside s e = refl

pub record-ends-are-pieces : RecordEndsArePieces
record-ends-are-pieces = of-kind kind.Re (λ k m own n outside s. Ok (sized n (separator_kind s 13))) refl record-end-by-size

record-start-by-size : IsBySize kind.Rs (λ k m own n outside s. Ok (sized n (separator_kind s 10)))
unfolding content_piece
record-start-by-size k m own outside s e = refl

pub record-starts-are-pieces : RecordStartsArePieces
record-starts-are-pieces = of-kind kind.Rs (λ k m own n outside s. Ok (sized n (separator_kind s 10))) refl record-start-by-size

number-by-size : (b : ℕ) → IsBySize (kind.CharRef b) (λ k m own n outside s. Ok (sized n (Char b)))
unfolding content_piece
number-by-size b k m own outside s e = refl

pub numbers-are-pieces : NumbersArePieces
numbers-are-pieces b = of-kind (kind.CharRef b) (λ k m own n outside s. Ok (sized n (Char b))) refl (number-by-size b)

function-by-size : (b : ℕ) → IsBySize (kind.FunctionRef b) (λ k m own n outside s. Ok (sized n (separator_kind s b)))
unfolding content_piece
function-by-size b k m own outside s e = refl

pub functions-are-pieces : FunctionsArePieces
functions-are-pieces b = of-kind (kind.FunctionRef b) (λ k m own n outside s. Ok (sized n (separator_kind s b))) refl (function-by-size b)

instruction-by-size : IsBySize kind.Pi (λ k m own n outside s. Ok (sized n (Pi (instruction own) None)))
unfolding content_piece
instruction-by-size k m own outside s e = refl

pub instructions-are-pieces : InstructionsArePieces
instructions-are-pieces = of-kind kind.Pi (λ k m own n outside s. Ok (sized n (Pi (instruction own) None))) refl instruction-by-size

comment-by-size : IsBySize kind.Comment (λ k m own n outside s. Ok (sized n Comment))
unfolding content_piece
comment-by-size k m own outside s e = refl

pub comments-are-pieces : CommentsArePieces
comments-are-pieces = of-kind kind.Comment (λ k m own n outside s. Ok (sized n Comment)) refl comment-by-size

start-tag-by-size : IsBySize kind.StartTag (λ k m own n outside s. Ok (start_piece outside s (stacked_on k.stack) own))
unfolding content_piece
start-tag-by-size k m own outside s e = refl

pub start-tags-are-pieces : StartTagsArePieces
start-tags-are-pieces = of-kind kind.StartTag (λ k m own n outside s. Ok (start_piece outside s (stacked_on k.stack) own)) refl start-tag-by-size

empty-start-by-size : IsBySize kind.EmptyStart (λ k m own n outside s. sized_ok n (short_start (empty_start_type s.context s.ended)))
unfolding content_piece
empty-start-by-size k m own outside s e = refl

pub empty-starts-are-pieces : EmptyStartsArePieces
empty-starts-are-pieces = of-kind kind.EmptyStart (λ k m own n outside s. sized_ok n (short_start (empty_start_type s.context s.ended))) refl empty-start-by-size

end-tag-by-size : IsBySize kind.EndTag (λ k m own n outside s. Ok (sized n (End (element_of k.doctype own) Tag)))
unfolding content_piece
end-tag-by-size k m own outside s e = ap (λ d. Ok (sized (length own) (End (element_of d own) Tag))) e

pub end-tags-are-pieces : EndTagsArePieces
end-tags-are-pieces = of-kind kind.EndTag (λ k m own n outside s. Ok (sized n (End (element_of k.doctype own) Tag))) refl end-tag-by-size

empty-end-by-size : IsBySize kind.EmptyEnd (λ k m own n outside s. sized_ok n (ending_of Short (empty_end_type s.context)))
unfolding content_piece
empty-end-by-size k m own outside s e = refl

pub empty-ends-are-pieces : EmptyEndsArePieces
empty-ends-are-pieces = of-kind kind.EmptyEnd (λ k m own n outside s. sized_ok n (ending_of Short (empty_end_type s.context))) refl empty-end-by-size

net-by-size : IsBySize kind.Net (λ k m own n outside s. sized_ok n (ending_of Net (net_type s.context)))
unfolding content_piece
net-by-size k m own outside s e = refl

pub nets-are-pieces : NetsArePieces
nets-are-pieces = of-kind kind.Net (λ k m own n outside s. sized_ok n (ending_of Net (net_type s.context))) refl net-by-size

reference-by-size : IsBySize kind.EntityRef (λ k m own n outside s. sized_ok n (reference_kind outside s (stacked_on k.stack) m (referred_name k.doctype (drop 1 own))))
unfolding content_piece
reference-by-size k m own outside s e = ap (λ d. sized_ok (length own) (reference_kind outside s (stacked_on k.stack) m (referred_name d (drop 1 own)))) e

pub references-are-pieces : ReferencesArePieces
references-are-pieces = of-kind kind.EntityRef (λ k m own n outside s. sized_ok n (reference_kind outside s (stacked_on k.stack) m (referred_name k.doctype (drop 1 own)))) refl reference-by-size

string-by-size : (i : ℕ) → IsBySize (kind.ShortRef i) (λ k m own n outside s. sized_ok n (string_kind outside s (stacked_on k.stack) i own))
unfolding content_piece
string-by-size i k m own outside s e = refl

pub strings-are-pieces : StringsArePieces
strings-are-pieces i = of-kind (kind.ShortRef i) (λ k m own n outside s. sized_ok n (string_kind outside s (stacked_on k.stack) i own)) refl (string-by-size i)

section-start-by-size : IsBySize kind.SectionStart (λ k m own n outside s. section_piece outside k.doctype (stacked_on k.stack) m false own)
unfolding content_piece
section-start-by-size k m own outside s e = ap (λ d. section_piece outside d (stacked_on k.stack) m false own) e

pub section-starts-are-pieces : SectionStartsArePieces
section-starts-are-pieces = of-kind kind.SectionStart (λ k m own n outside s. section_piece outside k.doctype (stacked_on k.stack) m false own) refl section-start-by-size

section-end-by-size : IsBySize kind.SectionEnd (λ k m own n outside s. section_end s n)
unfolding content_piece
section-end-by-size k m own outside s e = refl

-- whether one is open that began in the text at the top
section-open : (y : Held) (k : Kept) → y.kept ≡ k → IsInInstance k → in_section (state_of y).texts (state_of y).sections ≡ is_open_at (length k.stack.places) k.sections
section-open y k e i = (λ j. in_section (length (e j).stack.places) (reverse (e j).sections)) ∙ in-section (length k.stack.places) k.sections i.nested

pub section-ends-are-pieces : SectionEndsArePieces
section-ends-are-pieces k st texts ended x i h is = λ outside y held.
    subst (IsSpelledIn outside y texts ended) (ap (section_ended x.length) (section-open y k held.kept i))
    (of-kind kind.SectionEnd (λ k m own n outside s. section_end s n) refl section-end-by-size k st texts ended x h is outside y held)

declaration-by-size : IsBySize kind.Declaration (λ k m own n outside s. declaration_in_content outside s (stacked_on k.stack) own)
unfolding content_piece
declaration-by-size k m own outside s e = refl

pub declarations-are-pieces : DeclarationsArePieces
declarations-are-pieces = of-kind kind.Declaration (λ k m own n outside s. declaration_in_content outside s (stacked_on k.stack) own) refl declaration-by-size

misplaced-by-size : (q : TokenKind) → is_misplaced q ≡ true → IsBySize q (λ k m own n outside s. Err reason.DeclarationSyntax)
unfolding content_piece
misplaced-by-size kind.Separators h k m own outside s e = refl
misplaced-by-size kind.ParameterRef h k m own outside s e = refl
misplaced-by-size kind.SubsetEnd h k m own outside s e = refl
misplaced-by-size _ h k m own outside s e = apart false h refl

misplaced-one : (q : TokenKind) → is_misplaced q ≡ true → is_each q ≡ false
misplaced-one kind.Chars h = apart false h refl
misplaced-one _ h = refl

pub others-are-refused : OthersAreRefused
others-are-refused q h = of-kind q (λ k m own n outside s. Err reason.DeclarationSyntax) (misplaced-one q h) (misplaced-by-size q h)

-- THE END OF A TEXT: none of those that are read is the external subset
no-type-end : (n : ℕ) (d : Doctype) → (n == subset_number) ≡ false → type_end n d ≡ None
no-type-end n d e = ap (λ t. if t then at_type_end d else None) e

first-none : (ps : List Place) → LiesUnder ps → list_any (λ n. n == subset_number) (map (λ (p : Place). p.entity) ps) ≡ false → (entity_of ps == subset_number) ≡ false
first-none [] u e = absurd u
first-none (p ∷ ps) u e = by (p.entity == subset_number) refl e
  where
    by : (t : Bool) → (p.entity == subset_number) ≡ t → (t || list_any (λ n. n == subset_number) (map (λ (q : Place). q.entity) ps)) ≡ false → (p.entity == subset_number) ≡ false
    by true f e = apart true refl e
    by false f e = f

document-ended : (g : Stage) (is_open : Bool) → g ≡ AfterSubset → document_end g is_open ≡ text_ended true is_open
document-ended g is_open e = ap (λ z. document_end z is_open) e ∙ by is_open
  where
    by : (t : Bool) → document_end AfterSubset t ≡ text_ended true t
    by true = refl
    by false = refl

entity-ended : (s : State) (n : ℕ) (is_open : Bool) → (n == subset_number) ≡ false → entity_end s n is_open ≡ text_ended false is_open
entity-ended s n true e = refl
entity-ended s n false e = ap (λ o. unless_reason o (sized 0 EntityEnd)) (no-type-end n s.context.doctype e)

end-of : (s : State) (n : ℕ) (is_open : Bool) → s.stage ≡ AfterSubset → (n == subset_number) ≡ false
    → (if n == 0 then document_end s.stage is_open else entity_end s n is_open) ≡ text_ended (n == 0) is_open
end-of s n is_open g e = by (n == 0)
  where
    by : (t : Bool) → (if t then document_end s.stage is_open else entity_end s n is_open) ≡ text_ended t is_open
    by true = document-ended s.stage is_open g
    by false = entity-ended s n is_open e

top-none : (k : Kept) → IsInInstance k → (entity_of k.stack.places == subset_number) ≡ false
top-none k i = first-none k.stack.places i.document (sym (ap (λ g. in_doctype g (stacked_on k.stack).entities) i.stage) ∙ i.no_subset)

pub ends-are-pieces : EndsArePieces
ends-are-pieces k st texts ended i h = λ outside y held.
    subst (IsSpelledIn outside y texts ended)
    (end-of (state_of y) (entity_of k.stack.places) (in_section (state_of y).texts (state_of y).sections) (ap (λ (z : Kept). z.stage) held.kept ∙ i.stage) (top-none k i)
    ∙ ap (text_ended (entity_of k.stack.places == 0)) (section-open y k held.kept i))
    (h.piece outside y held)
