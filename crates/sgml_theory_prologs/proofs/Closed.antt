-- A prolog ends within a record.
use Rattle.std.proofs.Common.{◌≡◌, ℕ, ◌+◌, ◌<◌, ◌≤◌, ◌⊎◌, inl, inr, Bool, true, false, List, [], ◌∷◌, ◌++◌, Result, Ok, Err, length, take, drop, refl, sym, ap, ◌∙◌, subst, if◌then◌else◌, length-append, arith}
use Rattle.std.proofs.lemmas.List.{append_assoc, take-append-drop}
use Rattle.std.proofs.Math.Seq.{take-append_seam}
use Rattle.sgml_io.specs.text.Characters.{all_sgml}
use Rattle.sgml_io.specs.text.declared.reason.Reason.{Reason}
use Rattle.sgml_io.specs.text.declared.reason.Reason.TheVariants as reason
use Rattle.sgml_theory_standing.specs.syntax.declared.syntax.Syntax.{Syntax}
use Rattle.sgml_theory_standing.specs.delim.declared.delim.Mode.{Mode}
use Rattle.sgml_theory_standing.specs.delim.declared.delim.Mode.TheVariants as m
use Rattle.sgml_theory_standing.specs.markup.declared.kinds.TokenKind.{TokenKind}
use Rattle.sgml_theory_standing.specs.markup.declared.kinds.TokenKind.TheVariants as kind
use Rattle.sgml_theory_standing.specs.marked.declared.status.Status.{Status}
use Rattle.sgml_theory_standing.specs.marked.Keywords.{status_by}
use Rattle.sgml_theory_standing.specs.scan.declared.state.Scanned.{Scanned}
use Rattle.sgml_theory_standing.specs.scan.declared.state.Scanned.TheVariants.{Token, NeedMore, BadToken}
use Rattle.sgml_theory_standing.specs.sgmldecl.declared.feature.DeclError.{DeclError}
use Rattle.sgml_theory_standing.specs.sgmldecl.Machine.{Outcome, bad, whole, run, begin_state}
use Rattle.sgml_theory_standing.specs.sgmldecl.Refusing.{answer}
use Rattle.sgml_theory_standing.specs.decl_lexemes.declared.lexeme.Lexeme.{Lexeme}
use Rattle.sgml_theory_standing.specs.decl_parts.declared.ends.Construct.TheVariants as construct
use Rattle.sgml_theory_standing.specs.dtd.Doctypes.{Doctype}
use Rattle.sgml_theory_standing.specs.theory_reading.Names.{Text}
use Rattle.sgml_theory_standing.specs.theory_reading.Pieces.{Piece, History}
use Rattle.sgml_theory_standing.specs.theory_reading.Facets.{Stage, BeforeSyntax, AtBeginning, BeforeDoctype, InSubset, AfterSubset, stage_after}
use Rattle.sgml_theory_standing.specs.theory_reading.ShortTags.{net_in_force}
use Rattle.sgml_theory_standing.specs.theory_reading.State.{State, state, stage, sources_in}
use Rattle.sgml_theory_standing.specs.theory_reading.Context.{context}
use Rattle.sgml_theory_standing.specs.theory_reading.Unread.{Outside, Input, Standing, opening, rests, spent}
use Rattle.sgml_theory_standing.specs.theory_reading.Reads.{Move, moved_on, after_moves, read_by, is_after_subset, is_border}
use Rattle.sgml_theory_standing.specs.theory_spelling.Stacked.{Stacked}
use Rattle.sgml_theory_standing.specs.theory_spelling.Sized.{sized_ok}
use Rattle.sgml_theory_standing.specs.theory_spelling.Places.{in_doctype, mode_at, map_at, is_map, in_section}
use Rattle.sgml_theory_standing.specs.theory_spelling.References.{parameter_kind}
use Rattle.sgml_theory_standing.specs.theory_spelling.Declared.{Lexed, lexed}
use Rattle.sgml_theory_standing.specs.theory_spelling.SgmlDeclared.{begins_sgml, sgml_of, sgml_by, sgml_piece}
use Rattle.sgml_theory_standing.specs.theory_spelling.Content.{referred_name, is_data_status, keywords_in, section_of, section_by, section_start, section_piece, section_end}
use Rattle.sgml_theory_standing.specs.theory_spelling.Prolog.{piece_before, in_document, subset_piece}
use Rattle.sgml_theory_standing.specs.theory_spelling.Decided.{is_early_end}
use Rattle.sgml_theory_standing.specs.theory_spelling.Spelled.{piece_in, by_token, by_token_before, token_here, sgml_bad, sgml_by_token, at_beginning, by_stage, spelled_in}
use Rattle.sgml_theory_standing.specs.scan.Tokens.{token}
use Rattle.sgml_theory_standing.specs.theory_spelling.Tokens.{token_at}
use Rattle.sgml_theory_standing.proofs.theory_spelling.Sizes.{before-size}
use Rattle.sgml_theory_prologs.specs.Laws.{PrologsEndWithinRecords}
use Rattle.sgml_theory_prologs.proofs.Recognised.{never}
use Rattle.sgml_theory_prologs.proofs.Tokens.{ign, ds-within, ign-within}
use Rattle.sgml_theory_prologs.proofs.PieceKinds.{entities_of, parameter-reference}
use Rattle.sgml_theory_prologs.proofs.Shapes.{inner-doctype}
use Rattle.sgml_theory_prologs.proofs.Local.{is_last, state_ds, ds-state, ign-state, own-size, piece-sized, reference-last}
use Rattle.sgml_theory_prologs.proofs.Steps.{document_in, Stands, inner, Step, step-of, FromDocument, FromOther, Taken, step-taken, begins}
use Rattle.sgml_theory_prologs.proofs.Coming.{ToBorder, moved-stands, document-is-top, document-alone, document-spelled, document-some, last-at, border-after, ModeIs, of_type, of_ignored, mode-is, mode-type, mode-ignored}
use Rattle.sgml_theory_prologs.proofs.Deciding.{document-before, not-last, noted-last}
use Rattle.sgml_theory_prologs.proofs.AtBorder.{way}
use Rattle.sgml_io.specs.Records.{EndsInRecord}
use Rattle.sgml_theory_prologs.proofs.Closing.{ends-behind, is_closing, closing-ends, ignored-not}

-- THE TOKENS OF PIECES that may end the document's part of a prolog

last_of : Result Piece Reason → Bool
last_of (Ok p) = is_last p.kind
last_of (Err r) = false

-- where no such piece is spelled
abbrev NotLast : Result Piece Reason → Type 0
NotLast x = last_of x ≡ false

last-is : (x : Result Piece Reason) (p : Piece) → x ≡ Ok p → is_last p.kind ≡ true → last_of x ≡ true
unfolding last_of
last-is x p e l = ap last_of e ∙ l

apart : {A : Type 0} (x : Result Piece Reason) → NotLast x → last_of x ≡ true → A
apart x n l = never (last_of x) l n

if-not : (t : Bool) (x y : Result Piece Reason) → NotLast x → NotLast y → NotLast (if t then x else y)
if-not true x y p q = p
if-not false x y p q = q

before-closing : (outside : Outside) (s : State) (t : Stacked) (k : TokenKind) (own : List ℕ) → last_of (piece_before outside s t k own) ≡ true → is_closing k ≡ true
unfolding piece_before last_of
before-closing outside s t kind.Declaration own e = refl
before-closing outside s t kind.Separators own e = never false e refl
before-closing outside s t kind.Pi own e = never false e refl
before-closing outside s t kind.Comment own e = never false e refl
before-closing outside s t _ own e = never false e refl

section-of-not : (syntax : Syntax) (xs : List Lexeme) (n spent : ℕ) (x : Result Status ℕ) → NotLast (section_of syntax xs true n spent x)
unfolding last_of
section-of-not syntax xs n spent (Err i) = refl
section-of-not syntax xs n spent (Ok st) = if-not (is_data_status st) _ _ refl refl

section-by-not : (syntax : Syntax) (t : Stacked) (n : ℕ) (x : Result Lexed Reason) → NotLast (section_by syntax t true n x)
unfolding last_of
section-by-not syntax t n (Err r) = refl
section-by-not syntax t n (Ok x) = section-of-not syntax x.lexemes n _ (status_by (keywords_in x.lexemes))

section-start-not : (outside : Outside) (d : Doctype) (t : Stacked) (own : List ℕ) → NotLast (section_start outside d t true own)
unfolding section_start
section-start-not outside d t own = section-by-not d.syntax t (length own) (lexed construct.SectionStart outside d t own)

section-not : (outside : Outside) (d : Doctype) (t : Stacked) (mode : Mode) (own : List ℕ) → NotLast (section_piece outside d t mode true own)
unfolding last_of
section-not outside d t m.Ign own = refl
section-not outside d t _ own = section-start-not outside d t own

reference-not : (outside : Outside) (s : State) (t : Stacked) (own : List ℕ) (x : Result Piece Reason) → sized_ok (length own) (parameter_kind outside (sources_in s) t (referred_name s.context.doctype (drop 1 own))) ≡ x → NotLast x
unfolding last_of
reference-not outside s t own (Err r) e = refl
reference-not outside s t own (Ok p) e =
    reference-last (length own) (parameter_kind outside (sources_in s) t (referred_name s.context.doctype (drop 1 own))) p
    (parameter-reference outside (sources_in s) t (referred_name s.context.doctype (drop 1 own))) e

subset-closing : (outside : Outside) (s : State) (t : Stacked) (mode : Mode) (k : TokenKind) (own : List ℕ) → last_of (subset_piece outside s t mode k own) ≡ true → is_closing k ≡ true
unfolding subset_piece last_of
subset-closing outside s t m.Ign kind.Chars own e = never false e refl
subset-closing outside s t mode kind.Declaration own e = refl
subset-closing outside s t mode kind.SubsetEnd own e = refl
subset-closing outside s t mode kind.Separators own e = never false e refl
subset-closing outside s t mode kind.Pi own e = never false e refl
subset-closing outside s t mode kind.Comment own e = never false e refl
subset-closing outside s t mode kind.ParameterRef own e =
    apart (sized_ok (length own) (parameter_kind outside (sources_in s) t (referred_name s.context.doctype (drop 1 own)))) (reference-not outside s t own (sized_ok (length own) (parameter_kind outside (sources_in s) t (referred_name s.context.doctype (drop 1 own)))) refl) e
subset-closing outside s t mode kind.SectionStart own e = apart (section_piece outside s.context.doctype t mode true own) (section-not outside s.context.doctype t mode own) e
subset-closing outside s t mode kind.SectionEnd own e = apart (section_end s (length own)) (if-not (in_section s.texts s.sections) _ _ refl refl) e
subset-closing outside s t mode _ own e = never false e refl

-- an SGML declaration is none
sgml-of-not : (bytes : List ℕ) (x : Result (Syntax × ℕ) DeclError) → NotLast (sgml_of bytes x)
unfolding last_of
sgml-of-not bytes (Err e) = refl
sgml-of-not bytes (Ok a) = if-not (all_sgml (take a.1 bytes)) _ _ refl refl

sgml-by-not : (bytes : List ℕ) (o : Outcome) → NotLast (sgml_by bytes o)
unfolding last_of
sgml-by-not bytes (bad at) = refl
sgml-by-not bytes (whole h n) = sgml-of-not bytes (answer h n)

sgml-not : (bytes : List ℕ) → NotLast (sgml_piece bytes)
unfolding sgml_piece
sgml-not bytes = sgml-by-not bytes (run 0 begin_state bytes)

sgml-bad-not : (bytes : List ℕ) (r : Reason) → NotLast (sgml_bad bytes r)
unfolding last_of
sgml-bad-not bytes reason.Unclosed = sgml-not bytes
sgml-bad-not bytes _ = refl

sgml-token-not : (bytes : List ℕ) (x : Scanned) → NotLast (sgml_by_token bytes x)
unfolding last_of
sgml-token-not bytes (Token x) = sgml-not (take x.length bytes)
sgml-token-not bytes NeedMore = refl
sgml-token-not bytes (BadToken r) = sgml-bad-not bytes r

-- SUCH A PIECE ends within a record

before-ends : (outside : Outside) (s : State) (t : Stacked) (b : ℕ) (bytes : List ℕ) (p : Piece) → is_last p.kind ≡ true → (x : Scanned) → token_at s.context.doctype.syntax (state_ds s t) (b ∷ bytes) ≡ x
    → by_token_before outside s t (b ∷ bytes) x ≡ Ok p → EndsInRecord (take p.size (b ∷ bytes))
before-ends outside s t b bytes p l (Token x) e h =
    let own = take x.length (b ∷ bytes) in
    let c = before-closing outside s t x.kind own (last-is (piece_before outside s t x.kind own) p h l) in
    let low = ds-within s.context.doctype.syntax (net_in_force s.context) (is_map (map_at s)) b bytes x.kind x.length e in
    let size = own-size b [] bytes x.length (piece_before outside s t x.kind own) p low (before-size outside s t x.kind own) h in
    subst (λ n. EndsInRecord (take n (b ∷ bytes))) (sym size) (closing-ends s.context.doctype.syntax (net_in_force s.context) (is_map (map_at s)) b bytes x.kind x.length c e)
before-ends outside s t b bytes p l NeedMore e h = absurd (cc)
before-ends outside s t b bytes p l (BadToken r) e h = absurd (cc)

piece-closing : (u : Bool) (outside : Outside) (s : State) (t : Stacked) (mode : Mode) (k : TokenKind) (own : List ℕ) → u ≡ true → last_of (piece_in u outside s t mode k own) ≡ true → is_closing k ≡ true
piece-closing true outside s t mode k own f e = subset-closing outside s t mode k own e
piece-closing false outside s t mode k own f e = never false f refl

-- which kind the token of a piece of the document type has, and how long it is
record TokenIs (s : State) (t : Stacked) (bytes : List ℕ) (p : Piece) (x : Scanned) : Type 0 where
  kind : TokenKind
  closing : is_closing kind ≡ true
  is : x ≡ token kind p.size

in-token : (outside : Outside) (s : State) (t : Stacked) (b : ℕ) (bytes : List ℕ) (p : Piece) → in_doctype s.stage t.entities ≡ true → is_last p.kind ≡ true
    → ((k : TokenKind) (n : ℕ) → token_here s t (b ∷ bytes) ≡ token k n → n ≤ length (b ∷ bytes)) → (x : Scanned) → token_here s t (b ∷ bytes) ≡ x
    → by_token outside s t (b ∷ bytes) x ≡ Ok p → TokenIs s t (b ∷ bytes) p x
in-token outside s t b bytes p f l within (Token x) e h =
    let own = take x.length (b ∷ bytes) in
    let y = piece_in (in_doctype s.stage t.entities) outside s t (mode_at s t.entities) x.kind own in
    let size = own-size b [] bytes x.length y p (within x.kind x.length e) (piece-sized outside s t (in_doctype s.stage t.entities) (mode_at s t.entities) x.kind own f) h in
    record {
      kind = x.kind;
      closing = piece-closing (in_doctype s.stage t.entities) outside s t (mode_at s t.entities) x.kind own f (last-is y p h l);
      is = ap (token x.kind) (sym size);
    }
in-token outside s t b bytes p f l within NeedMore e h = absurd (cc)
in-token outside s t b bytes p f l within (BadToken r) e h = absurd (cc)

here-ds : (s : State) (t : Stacked) (bytes : List ℕ) → mode_at s t.entities ≡ m.Ds → token_here s t bytes ≡ token_at s.context.doctype.syntax (state_ds s t) bytes
here-ds s t bytes e = ap (λ st. token_at s.context.doctype.syntax st bytes) (ds-state s t e)

here-ign : (s : State) (t : Stacked) (bytes : List ℕ) → mode_at s t.entities ≡ m.Ign → token_here s t bytes ≡ token_at s.context.doctype.syntax (ign (net_in_force s.context) (is_map (map_at s))) bytes
here-ign s t bytes e = ap (λ st. token_at s.context.doctype.syntax st bytes) (ign-state s t e)

in-ends : (outside : Outside) (s : State) (t : Stacked) (b : ℕ) (bytes : List ℕ) (p : Piece) → in_doctype s.stage t.entities ≡ true → is_last p.kind ≡ true → (mode_at s t.entities ≡ m.Ds) ⊎ (mode_at s t.entities ≡ m.Ign)
    → by_token outside s t (b ∷ bytes) (token_here s t (b ∷ bytes)) ≡ Ok p → EndsInRecord (take p.size (b ∷ bytes))
in-ends outside s t b bytes p f l (inl e) h =
    let net = net_in_force s.context in
    let maps = is_map (map_at s) in
    let x = in-token outside s t b bytes p f l (λ k n g. ds-within s.context.doctype.syntax net maps b bytes k n (sym (here-ds s t (b ∷ bytes) e) ∙ g)) (token_here s t (b ∷ bytes)) refl h in
    closing-ends s.context.doctype.syntax net maps b bytes x.kind p.size x.closing (sym (here-ds s t (b ∷ bytes) e) ∙ x.is)
in-ends outside s t b bytes p f l (inr e) h =
    let net = net_in_force s.context in
    let maps = is_map (map_at s) in
    let x = in-token outside s t b bytes p f l (λ k n g. ign-within s.context.doctype.syntax net maps b bytes k n (sym (here-ign s t (b ∷ bytes) e) ∙ g)) (token_here s t (b ∷ bytes)) refl h in
    ignored-not s.context.doctype.syntax net maps b bytes x.kind p.size (sym (here-ign s t (b ∷ bytes) e) ∙ x.is) x.closing

before-here : (outside : Outside) (s : State) (t : Stacked) (b : ℕ) (bytes : List ℕ) (p : Piece) → is_last p.kind ≡ true → mode_at s t.entities ≡ m.Ds
    → by_token_before outside s t (b ∷ bytes) (token_here s t (b ∷ bytes)) ≡ Ok p → EndsInRecord (take p.size (b ∷ bytes))
before-here outside s t b bytes p l e h =
    before-ends outside s t b bytes p l (token_at s.context.doctype.syntax (state_ds s t) (b ∷ bytes)) refl
    (sym (ap (by_token_before outside s t (b ∷ bytes)) (here-ds s t (b ∷ bytes) e)) ∙ h)

beginning-ends : (w : Bool) (outside : Outside) (s : State) (t : Stacked) (b : ℕ) (bytes : List ℕ) (p : Piece) → is_last p.kind ≡ true → mode_at s t.entities ≡ m.Ds
    → at_beginning w outside s t (b ∷ bytes) ≡ Ok p → EndsInRecord (take p.size (b ∷ bytes))
beginning-ends true outside s t b bytes p l e h =
    let x = sgml_by_token (b ∷ bytes) (token_here s t (b ∷ bytes)) in
    apart x (sgml-token-not (b ∷ bytes) (token_here s t (b ∷ bytes))) (last-is x p h l)
beginning-ends false outside s t b bytes p l e h = before-here outside s t b bytes p l e h

-- the mode of a place in the document
abbrev ModeAt : State → Stacked → Type 0
ModeAt s t = (mode_at s t.entities ≡ m.Ds) ⊎ ((mode_at s t.entities ≡ m.Ign) × (s.stage ≡ InSubset))

ds-of : (s : State) (t : Stacked) (g : Stage) → s.stage ≡ g → (g ≡ InSubset → ⊥) → ModeAt s t → mode_at s t.entities ≡ m.Ds
ds-of s t g e n (inl d) = d
ds-of s t g e n (inr (i, f)) = absurd (n (sym e ∙ f))

either : (s : State) (t : Stacked) → ModeAt s t → (mode_at s t.entities ≡ m.Ds) ⊎ (mode_at s t.entities ≡ m.Ign)
either s t (inl d) = inl d
either s t (inr x) = inr x.0

stage-ends : (outside : Outside) (s : State) (t : Stacked) (b : ℕ) (bytes : List ℕ) (p : Piece) (g : Stage) → s.stage ≡ g → is_after_subset g ≡ false → in_doctype s.stage t.entities ≡ true → ModeAt s t → is_last p.kind ≡ true
    → by_stage outside s t (b ∷ bytes) g ≡ Ok p → EndsInRecord (take p.size (b ∷ bytes))
stage-ends outside s t b bytes p BeforeSyntax e a f d l h = before-here outside s t b bytes p l (ds-of s t BeforeSyntax e (λ x. cc) d) h
stage-ends outside s t b bytes p AtBeginning e a f d l h =
    beginning-ends (begins_sgml s.context.doctype.syntax.names (b ∷ bytes)) outside s t b bytes p l (ds-of s t AtBeginning e (λ x. cc) d) h
stage-ends outside s t b bytes p BeforeDoctype e a f d l h = before-here outside s t b bytes p l (ds-of s t BeforeDoctype e (λ x. cc) d) h
stage-ends outside s t b bytes p InSubset e a f d l h = in-ends outside s t b bytes p f l (either s t d) h
stage-ends outside s t b bytes p AfterSubset e a f d l h = never true refl a

early-ends : (outside : Outside) (s : State) (t : Stacked) (b : ℕ) (bytes : List ℕ) (p : Piece) (t' : Bool) → is_after_subset s.stage ≡ false → in_doctype s.stage t.entities ≡ true → ModeAt s t → is_last p.kind ≡ true
    → (if t' then Err reason.NoDoctype else by_stage outside s t (b ∷ bytes) s.stage) ≡ Ok p → EndsInRecord (take p.size (b ∷ bytes))
early-ends outside s t b bytes p true a f d l h = absurd (cc)
early-ends outside s t b bytes p false a f d l h = stage-ends outside s t b bytes p s.stage refl a f d l h

text-ends : (outside : Outside) (s : State) (t : Stacked) (bytes : List ℕ) (p : Piece) → is_after_subset s.stage ≡ false → in_doctype s.stage t.entities ≡ true → ModeAt s t → is_last p.kind ≡ true
    → 0 < p.size → p.size ≤ length bytes → spelled_in outside s t 0 bytes ≡ Ok p → EndsInRecord (take p.size bytes)
text-ends outside s t [] p a f d l some low h = absurd (omega (arith, some, low))
text-ends outside s t (b ∷ bytes) p a f d l some low h = early-ends outside s t b bytes p (is_early_end s.stage b) a f d l h

-- WHERE THE DOCUMENT IS AT THE TOP

mode-there : (I : Input) (h : History) → ModeIs I h → in_doctype (stage h) (0 ∷ []) ≡ true → ModeAt (state h) (record { entities = 0 ∷ []; spent = spent I.outside h })
unfolding state
mode-there I h (of_type g) d = inl (mode-type (state h) (0 ∷ []) g d)
mode-there I h (of_ignored g) d = inr (mode-ignored (state h) (0 ∷ []) g.ignored, g.in_subset)

step-ends : (I : Input) (h : History) (m : Move) → Stands I h → is_border h ≡ false → (x : Step I h m) → (y : FromDocument I h m.visible) → is_last m.visible.kind ≡ true → EndsInRecord (take m.visible.size y.rest.bytes)
unfolding state
step-ends I h m s b x y l =
    let es = entities_of (rests I h) in
    let top = document-is-top I h m.visible y in
    let before = document-before (stage h) es (inner I h s b) top in
    let there : in_doctype (stage h) (0 ∷ []) ≡ true = sym (ap (in_doctype (stage h)) (ap entities_of (document-alone I h m.visible y))) ∙ inner-doctype (stage h) es (inner I h s b) in
    let last : is_last x.piece.kind ≡ true = sym (ap is_last x.kind_is ∙ noted-last (context h) (state h) x.piece.kind) ∙ l in
    let some = document-some I h m x top in
    let low : x.piece.size ≤ length y.rest.bytes = subst (λ n. n ≤ length y.rest.bytes) x.size_is y.within in
    subst (λ n. EndsInRecord (take n y.rest.bytes)) (sym x.size_is)
    (text-ends I.outside (state h) (record { entities = 0 ∷ []; spent = spent I.outside h }) y.rest.bytes x.piece before there (mode-there I h (mode-is I h s before top) there) last some low (document-spelled I h m.visible x.piece y x.spelled_is))

-- WHAT WAS READ OF THE DOCUMENT ends within a record
record ClosedAt (I : Input) (h : History) : Type 0 where
  front : Text
  document : I.document ≡ front ++ document_in (rests I h)
  ends : EndsInRecord front

closed-step : (I : Input) (h : History) (m : Move) → Stands I h → is_border h ≡ false → (x : Step I h m) → FromDocument I h m.visible → is_last m.visible.kind ≡ true → ClosedAt I (m.visible ∷ h)
closed-step I h m s b x y l =
    let bytes = y.rest.bytes in
    let n = m.visible.size in
    let split : document_in (rests I h) ≡ take n bytes ++ drop n bytes = ap document_in y.alone ∙ sym (take-append-drop n bytes) in
    record {
      front = s.done.0 ++ take n bytes;
      document = s.done.1 ∙ (ap (λ (z : Text). s.done.0 ++ z) split ∙ (sym (append_assoc s.done.0 (take n bytes) (drop n bytes)) ∙ ap (λ (z : Text). (s.done.0 ++ take n bytes) ++ z) (sym y.left)));
      ends = ends-behind s.done.0 (take n bytes) (step-ends I h m s b x y l);
    }

closed-on : (I : Input) (h : History) (p : Piece) → FromOther I h p → ClosedAt I h → ClosedAt I (p ∷ h)
closed-on I h p y c = record { front = c.front; document = c.document ∙ ap (λ (z : Text). c.front ++ z) (sym y.left); ends = c.ends }

last-there : (I : Input) (h : History) (m : Move) → Stands I h → is_border h ≡ false → (x : Step I h m) → is_after_subset (stage h) ≡ false → is_after_subset (stage (m.visible ∷ h)) ≡ true → (is_last m.visible.kind ≡ true) × (in_document (entities_of (rests I h)) ≡ true)
unfolding stage
last-there I h m s b x f g = by (is_last m.visible.kind) refl
  where
    by : (t : Bool) → is_last m.visible.kind ≡ t → (is_last m.visible.kind ≡ true) × (in_document (entities_of (rests I h)) ≡ true)
    by true e = (e, last-at (stage h) (state h) (entities_of (rests I h)) m.visible.kind (inner I h s b) x.kind_at f g)
    by false e = never (is_after_subset (stage (m.visible ∷ h))) g (not-last (stage h) (state h) (entities_of (rests I h)) m.visible.kind x.kind_at f e)

closed-next : (I : Input) (h : History) (m : Move) → Stands I h → is_border h ≡ false → (x : Step I h m) → (is_after_subset (stage h) ≡ true → ClosedAt I h) → Taken I h m.visible
    → is_after_subset (stage (m.visible ∷ h)) ≡ true → ClosedAt I (m.visible ∷ h)
closed-next I h m s b x c t g = by (is_after_subset (stage h)) refl t
  where
    by : (u : Bool) → is_after_subset (stage h) ≡ u → Taken I h m.visible → ClosedAt I (m.visible ∷ h)
    by true e (inl y) = never (is_after_subset (stage h)) e (document-before (stage h) (entities_of (rests I h)) (inner I h s b) (document-is-top I h m.visible y))
    by true e (inr y) = closed-on I h m.visible y (c e)
    by false e (inl y) = closed-step I h m s b x y (last-there I h m s b x e g).0
    by false e (inr y) = never (in_document (entities_of (rests I h))) (last-there I h m s b x e g).1 y.other

closed-all : (I : Input) (h : History) (ms : List Move) → Stands I h → ToBorder I h ms → (is_after_subset (stage h) ≡ true → ClosedAt I h) → ClosedAt I (after_moves h ms)
closed-all I h [] s t c = c (border-after h t)
closed-all I h (m ∷ ms) s t c =
    let x = step-of I h m s t.0 t.1 in
    closed-all I (moved_on h m) ms (moved-stands I h m s t.0 t.1) t.2
    (subst (λ k. is_after_subset (stage k) ≡ true → ClosedAt I k) (sym x.moved) (closed-next I h m s t.0 x c (step-taken I h m s t.0 x)))

-- LAW
same-front : (xs ys zs : Text) → xs ++ zs ≡ ys ++ zs → xs ≡ ys
same-front xs ys zs e =
    let long : length xs + length zs ≡ length ys + length zs = sym (length-append xs zs) ∙ ap length e ∙ length-append ys zs in
    let same : length xs ≡ length ys = omega (arith, long) in
    sym (take-append_seam xs zs) ∙ ap (take (length xs)) e ∙ ap (λ n. take n (ys ++ zs)) same ∙ take-append_seam ys zs

before-first : (I : Input) → is_after_subset (stage (opening I.outside)) ≡ true → ClosedAt I (opening I.outside)
unfolding stage stage_after
before-first I e = never false e refl

pub prologs-end-within-records : PrologsEndWithinRecords
prologs-end-within-records I ms prolog rest p =
    let c = closed-all I (opening I.outside) ms (begins I) (way I ms p.reads p.first) (before-first I) in
    let left : document_in (rests I (read_by I ms)) ≡ rest = ap (λ (t : Standing). document_in t.rests) p.left in
    let is : c.front ≡ prolog = same-front c.front prolog rest (ap (λ (z : Text). c.front ++ z) (sym left) ∙ sym c.document ∙ p.document) in
    subst EndsInRecord is c.ends
