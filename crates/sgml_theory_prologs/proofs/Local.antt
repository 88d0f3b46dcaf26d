-- A piece of a prolog that lies in the front of the document's text is decided there.
use Rattle.std.proofs.Common.{◌≡◌, ℕ, zero, suc, ◌+◌, ◌≤◌, ◌<◌, ◌⊎◌, inl, inr, Bool, true, false, ◌&&◌, ◌==◌, List, [], ◌∷◌, ◌++◌, Some, is_some, Result, Ok, Err, length, take, drop, map, codes, refl, sym, ap, ◌∙◌, subst, if◌then◌else◌, arith, eqb-true}
use Rattle.std.specs.List.{prefix_len}
use Rattle.std.proofs.lemmas.Bool.Decides.{nat_tests}
use Rattle.std.proofs.lemmas.List.{length-take}
use Rattle.std.proofs.lemmas.Slice.Eq.{bytes_eq-Decides}
use Rattle.sgml_io.specs.text.declared.name_set.NameSet.{NameSet}
use Rattle.sgml_io.specs.text.NameCharacters.{is_name_character}
use Rattle.sgml_io.specs.text.Characters.{is_letter, is_word, upper, all_sgml}
use Rattle.sgml_io.specs.text.declared.reason.Reason.{Reason}
use Rattle.sgml_io.specs.text.declared.reason.Reason.TheVariants as reason
use Rattle.sgml_theory_standing.specs.syntax.declared.syntax.Syntax.{Syntax}
use Rattle.sgml_theory_standing.specs.delim.declared.delim.Delim.TheVariants as d
use Rattle.sgml_theory_standing.specs.delim.declared.delim.Mode.{Mode}
use Rattle.sgml_theory_standing.specs.delim.declared.delim.Mode.TheVariants as m
use Rattle.sgml_theory_standing.specs.delim.declared.delim.Need.TheVariants.{AfterMdo}
use Rattle.sgml_theory_standing.specs.delim.declared.delim.Verdict.{Verdict}
use Rattle.sgml_theory_standing.specs.delim.declared.delim.Verdict.TheVariants.{Holds, Fails, Undecided}
use Rattle.sgml_theory_standing.specs.delim.declared.delim.Recognised.TheVariants as r
use Rattle.sgml_theory_standing.specs.delim.Tables.{begins}
use Rattle.sgml_theory_standing.specs.delim.Ends.{declaration_end, ender_of, first_name}
use Rattle.sgml_theory_standing.specs.delim.declared.ends.Inside.TheVariants.{Between}
use Rattle.sgml_theory_standing.proofs.delim.Ending.{end-within}
use Rattle.sgml_theory_standing.specs.delim.Verdicts.{prefix_verdict, follow_verdict, recognised}
use Rattle.sgml_theory_standing.specs.markup.declared.kinds.TokenKind.{TokenKind}
use Rattle.sgml_theory_standing.specs.markup.declared.kinds.TokenKind.TheVariants as kind
use Rattle.sgml_theory_standing.specs.scan.declared.state.ScanState.{ScanState}
use Rattle.sgml_theory_standing.specs.scan.declared.state.Scanned.{Scanned}
use Rattle.sgml_theory_standing.specs.scan.declared.state.Scanned.TheVariants.{Token, NeedMore, BadToken}
use Rattle.sgml_theory_standing.specs.scan.Tokens.{token}
use Rattle.sgml_theory_standing.specs.scan.Decided.{token_decided}
use Rattle.sgml_theory_standing.specs.sgmldecl.declared.heard.Heard.{Heard}
use Rattle.sgml_theory_standing.specs.sgmldecl.declared.feature.DeclError.{DeclError}
use Rattle.sgml_theory_standing.specs.sgmldecl.Declaring.{Declares}
use Rattle.sgml_theory_standing.specs.sgmldecl.Machine.{Outcome, bad, whole, run, begin_state}
use Rattle.sgml_theory_standing.specs.sgmldecl.Refusing.{refusal_of, answer}
use Rattle.sgml_theory_standing.proofs.sgmldecl.Whole.{declared_read, read_declared}
use Rattle.sgml_theory_standing.specs.theory_reading.Pieces.{Piece, Kind, Sgml, Head, SubsetEnd, Ref, Skipped, Pi, Comment}
use Rattle.sgml_theory_standing.specs.theory_reading.Facets.{Stage, BeforeSyntax, AtBeginning, BeforeDoctype, InSubset, AfterSubset}
use Rattle.sgml_theory_standing.specs.theory_reading.ShortTags.{net_in_force}
use Rattle.sgml_theory_standing.specs.theory_reading.Unread.{Outside}
use Rattle.sgml_theory_standing.specs.theory_reading.State.{State, sources_in}
use Rattle.sgml_theory_standing.specs.theory_reading.Reads.{is_after_subset}
use Rattle.sgml_theory_standing.specs.theory_spelling.Stacked.{Stacked}
use Rattle.sgml_theory_standing.specs.theory_spelling.Sized.{sized, sized_ok}
use Rattle.sgml_theory_standing.specs.theory_spelling.Tokens.{token_at}
use Rattle.sgml_theory_standing.specs.theory_spelling.Places.{map_at, is_map, in_doctype, mode_at, scan_state}
use Rattle.sgml_theory_standing.specs.theory_spelling.References.{parameter_kind}
use Rattle.sgml_theory_standing.specs.theory_spelling.SgmlDeclared.{has_keyword, keyword_ends, begins_sgml, sgml_of, sgml_by, sgml_piece}
use Rattle.sgml_theory_standing.specs.theory_spelling.Content.{first_of, referred_name}
use Rattle.sgml_theory_standing.specs.theory_spelling.Prolog.{piece_before, subset_piece}
use Rattle.sgml_theory_standing.specs.theory_spelling.Decided.{is_at_beginning, decided_token, beginning_decided, is_early_end, decided_bytes}
use Rattle.sgml_theory_standing.specs.theory_spelling.Spelled.{piece_in, by_token, by_token_before, token_here, sgml_bad, sgml_by_token, at_beginning, by_stage, spelled_in}
use Rattle.sgml_theory_standing.proofs.theory_spelling.Sizes.{HasSize, before-size, subset-size}
use Rattle.sgml_theory_standing.proofs.theory_spelling.Decides.{AnswerSize, answer-size}
use Rattle.sgml_theory_prologs.specs.Names.{HasReferenceNames}
use Rattle.sgml_theory_prologs.specs.Prologs.{is_sgml}
use Rattle.sgml_theory_prologs.proofs.Recognised.{never}
use Rattle.sgml_theory_prologs.proofs.Ends.{declaration-back, name-ends}
use Rattle.sgml_theory_prologs.proofs.SgmlEnds.{sgml-ends}
use Rattle.sgml_theory_prologs.proofs.Tokens.{ds, ign, Fits, ds-within, ds-decided, ign-decided, keyword-told, Ignored, ign-token}
use Rattle.sgml_theory_prologs.proofs.PieceKinds.{IsReference, parameter-reference}

-- after such a piece the document's part of the prolog may be over
abbrev pub is_last : Kind → Bool
is_last (Head head base) = true
is_last (SubsetEnd reads) = true
is_last _ = false

-- THE PIECE LIES in a front of so many bytes
pub record Lies (p : Piece) (front : ℕ) : Type 0 where
  pub some : 0 < p.size
  pub within : p.size ≤ front
  pub strict : is_last p.kind ≡ false → p.size < front

pub size-is : (n : ℕ) (x : Result Piece Reason) (p : Piece) → HasSize n x → x ≡ Ok p → p.size ≡ n
size-is n x p h e = subst (HasSize n) e h

pub taken : (n : ℕ) (bytes : List ℕ) → n ≤ length bytes → length (take n bytes) ≡ n
taken n bytes l = let e = length-take n bytes in omega (arith, e, l)

-- THE STATE OF SCANNING, in a document type

abbrev pub state_ds : State → Stacked → ScanState
state_ds s t = ds (net_in_force s.context) (is_map (map_at s))

pub ds-state : (s : State) (t : Stacked) → mode_at s t.entities ≡ m.Ds → scan_state s t.entities ≡ state_ds s t
ds-state s t e = λ i. record { mode = e i; net = net_in_force s.context; maps = is_map (map_at s) }

pub ign-state : (s : State) (t : Stacked) → mode_at s t.entities ≡ m.Ign → scan_state s t.entities ≡ ign (net_in_force s.context) (is_map (map_at s))
ign-state s t e = λ i. record { mode = e i; net = net_in_force s.context; maps = is_map (map_at s) }

-- THE TOKEN of a piece
record TokenOf (s : State) (t : Stacked) (front ys : List ℕ) : Type 0 where
  kind : TokenKind
  size : ℕ
  is : token_at s.context.doctype.syntax (state_ds s t) (front ++ ys) ≡ token kind size
  fits : Fits kind size (length front)

token-decided : (s : State) (t : Stacked) (front ys : List ℕ) → mode_at s t.entities ≡ m.Ds → 0 < length front → TokenOf s t front ys → decided_token s t front ≡ true
token-decided s t front ys e some x =
    ap (λ st. token_decided s.context.doctype.syntax st front) (ds-state s t e)
    ∙ ds-decided s.context.doctype.syntax (net_in_force s.context) (is_map (map_at s)) front ys x.kind x.size some x.is x.fits

abbrev Own : List ℕ → ℕ → List ℕ
Own bytes n = take n bytes

pub own-size : (b : ℕ) (front ys : List ℕ) (n : ℕ) (x : Result Piece Reason) (p : Piece) → n ≤ length ((b ∷ front) ++ ys) → HasSize (length (take n ((b ∷ front) ++ ys))) x → x ≡ Ok p → p.size ≡ n
own-size b front ys n x p l h e = size-is (length (take n ((b ∷ front) ++ ys))) x p h e ∙ taken n ((b ∷ front) ++ ys) l

-- before the document type
before-fits : (outside : Outside) (s : State) (t : Stacked) (k : TokenKind) (own : List ℕ) (n front : ℕ) (p : Piece) → p.size ≡ n → Lies p front → piece_before outside s t k own ≡ Ok p → Fits k n front
unfolding piece_before
before-fits outside s t kind.Chars own n front p e l h = absurd (cc)
before-fits outside s t kind.ParameterRef own n front p e l h = absurd (cc)
before-fits outside s t _ own n front p e l h = omega (arith, l.within, e)

before-token : (outside : Outside) (s : State) (t : Stacked) (b : ℕ) (front ys : List ℕ) (p : Piece) → Lies p (length (b ∷ front))
    → (x : Scanned) → token_at s.context.doctype.syntax (state_ds s t) ((b ∷ front) ++ ys) ≡ x → by_token_before outside s t ((b ∷ front) ++ ys) x ≡ Ok p → TokenOf s t (b ∷ front) ys
before-token outside s t b front ys p l (Token x) e h =
    let low = ds-within s.context.doctype.syntax (net_in_force s.context) (is_map (map_at s)) b (front ++ ys) x.kind x.length e in
    let size = own-size b front ys x.length (piece_before outside s t x.kind (take x.length ((b ∷ front) ++ ys))) p low (before-size outside s t x.kind (take x.length ((b ∷ front) ++ ys))) h in
    record { kind = x.kind; size = x.length; is = e; fits = before-fits outside s t x.kind (take x.length ((b ∷ front) ++ ys)) x.length (length (b ∷ front)) p size l h }
before-token outside s t b front ys p l NeedMore e h = absurd (cc)
before-token outside s t b front ys p l (BadToken r) e h = absurd (cc)

-- in the document type
pub reference-last : (n : ℕ) (x : Result Kind Reason) (p : Piece) → IsReference x → sized_ok n x ≡ Ok p → is_last p.kind ≡ false
reference-last n (Ok (Ref i)) p h e = ap (λ o. last_of o) (sym e)
  where
    last_of : Result Piece Reason → Bool
    last_of (Ok q) = is_last q.kind
    last_of (Err r) = false
reference-last n (Ok (Pi text i)) p h e = ap (λ o. last_of o) (sym e)
  where
    last_of : Result Piece Reason → Bool
    last_of (Ok q) = is_last q.kind
    last_of (Err r) = false
reference-last n (Ok (Sgml syntax)) p h e = absurd h
reference-last n (Ok _) p h e = absurd h
reference-last n (Err r) p h e = absurd (cc)

subset-fits : (outside : Outside) (s : State) (t : Stacked) (k : TokenKind) (own : List ℕ) (n front : ℕ) (p : Piece) → p.size ≡ n → Lies p front → subset_piece outside s t m.Ds k own ≡ Ok p → Fits k n front
unfolding subset_piece
subset-fits outside s t kind.Chars own n front p e l h = absurd (cc)
subset-fits outside s t kind.ParameterRef own n front p e l h =
    let x = parameter_kind outside (sources_in s) t (referred_name s.context.doctype (drop 1 own)) in
    let low = l.strict (reference-last (length own) x p (parameter-reference outside (sources_in s) t (referred_name s.context.doctype (drop 1 own))) h) in
    omega (arith, low, e)
subset-fits outside s t _ own n front p e l h = omega (arith, l.within, e)

piece-fits : (outside : Outside) (s : State) (t : Stacked) (u : Bool) (md : Mode) (k : TokenKind) (own : List ℕ) (n front : ℕ) (p : Piece) → u ≡ true → md ≡ m.Ds → p.size ≡ n → Lies p front
    → piece_in u outside s t md k own ≡ Ok p → Fits k n front
piece-fits outside s t u md k own n front p f g e l h =
    subset-fits outside s t k own n front p e l (sym (λ i. piece_in (f i) outside s t (g i) k own) ∙ h)

pub piece-sized : (outside : Outside) (s : State) (t : Stacked) (u : Bool) (md : Mode) (k : TokenKind) (own : List ℕ) → u ≡ true → HasSize (length own) (piece_in u outside s t md k own)
piece-sized outside s t true md k own f = subset-size outside s t md k own
piece-sized outside s t false md k own f = never false f refl

in-token : (outside : Outside) (s : State) (t : Stacked) (b : ℕ) (front ys : List ℕ) (p : Piece) → in_doctype s.stage t.entities ≡ true → mode_at s t.entities ≡ m.Ds → Lies p (length (b ∷ front))
    → (x : Scanned) → token_at s.context.doctype.syntax (state_ds s t) ((b ∷ front) ++ ys) ≡ x → by_token outside s t ((b ∷ front) ++ ys) x ≡ Ok p → TokenOf s t (b ∷ front) ys
in-token outside s t b front ys p f g l (Token x) e h =
    let low = ds-within s.context.doctype.syntax (net_in_force s.context) (is_map (map_at s)) b (front ++ ys) x.kind x.length e in
    let own = take x.length ((b ∷ front) ++ ys) in
    let size = own-size b front ys x.length (piece_in (in_doctype s.stage t.entities) outside s t (mode_at s t.entities) x.kind own) p low
    (piece-sized outside s t (in_doctype s.stage t.entities) (mode_at s t.entities) x.kind own f) h in
    record {
      kind = x.kind;
      size = x.length;
      is = e;
      fits = piece-fits outside s t (in_doctype s.stage t.entities) (mode_at s t.entities) x.kind own x.length (length (b ∷ front)) p f g size l h;
    }
in-token outside s t b front ys p f g l NeedMore e h = absurd (cc)
in-token outside s t b front ys p f g l (BadToken r) e h = absurd (cc)

here-ds : (s : State) (t : Stacked) (bytes : List ℕ) → mode_at s t.entities ≡ m.Ds → token_here s t bytes ≡ token_at s.context.doctype.syntax (state_ds s t) bytes
here-ds s t bytes e = ap (λ st. token_at s.context.doctype.syntax st bytes) (ds-state s t e)

before-here : (outside : Outside) (s : State) (t : Stacked) (b : ℕ) (front ys : List ℕ) (p : Piece) → mode_at s t.entities ≡ m.Ds → Lies p (length (b ∷ front))
    → by_token_before outside s t ((b ∷ front) ++ ys) (token_here s t ((b ∷ front) ++ ys)) ≡ Ok p → TokenOf s t (b ∷ front) ys
before-here outside s t b front ys p e l h =
    before-token outside s t b front ys p l (token_at s.context.doctype.syntax (state_ds s t) ((b ∷ front) ++ ys)) refl
    (sym (ap (by_token_before outside s t ((b ∷ front) ++ ys)) (here-ds s t ((b ∷ front) ++ ys) e)) ∙ h)

in-here : (outside : Outside) (s : State) (t : Stacked) (b : ℕ) (front ys : List ℕ) (p : Piece) → in_doctype s.stage t.entities ≡ true → mode_at s t.entities ≡ m.Ds → Lies p (length (b ∷ front))
    → by_token outside s t ((b ∷ front) ++ ys) (token_here s t ((b ∷ front) ++ ys)) ≡ Ok p → TokenOf s t (b ∷ front) ys
in-here outside s t b front ys p f e l h =
    in-token outside s t b front ys p f e l (token_at s.context.doctype.syntax (state_ds s t) ((b ∷ front) ++ ys)) refl
    (sym (ap (by_token outside s t ((b ∷ front) ++ ys)) (here-ds s t ((b ∷ front) ++ ys) e)) ∙ h)

-- WHERE AN SGML DECLARATION MAY STAND, and none does

holds-mdo : (b : ℕ) (front : List ℕ) → prefix_verdict (codes "<!") (b ∷ front) ≡ Holds → (rest : List ℕ) × (b ∷ front ≡ 60 ∷ 33 ∷ rest)
holds-mdo b [] e = one (60 == b) e
  where
    one : (t : Bool) → (if t then Undecided else Fails) ≡ Holds → (rest : List ℕ) × (b ∷ [] ≡ 60 ∷ 33 ∷ rest)
    one true e = absurd (cc)
    one false e = absurd (cc)
holds-mdo b (c ∷ front) e = two (60 == b) (33 == c) refl refl e
  where
    two : (t u : Bool) → (60 == b) ≡ t → (33 == c) ≡ u → (if t then (if u then Holds else Fails) else Fails) ≡ Holds → (rest : List ℕ) × (b ∷ c ∷ front ≡ 60 ∷ 33 ∷ rest)
    two true true f g e =
        let x : 60 ≡ b = eqb-true 60 b f in
        let y : 33 ≡ c = eqb-true 33 c g in
        (front, λ i. sym x i ∷ sym y i ∷ front)
    two true false f g e = absurd (cc)
    two false u f g e = absurd (cc)

undecided-one : (b : ℕ) (t : Bool) → (60 == b) ≡ t → (if t then Undecided else Fails) ≡ Undecided → b ≡ 60
undecided-one b true f e = sym (eqb-true 60 b f)
undecided-one b false f e = absurd (cc)

undecided-two : (t u : Bool) → (if t then (if u then Holds else Fails) else Fails) ≡ Undecided → ⊥
undecided-two true true e = cc
undecided-two true false e = cc
undecided-two false u e = cc

undecided-mdo : (b : ℕ) (front : List ℕ) → prefix_verdict (codes "<!") (b ∷ front) ≡ Undecided → (b ≡ 60) × (front ≡ [])
undecided-mdo b [] e = (undecided-one b (60 == b) refl e, refl)
undecided-mdo b (c ∷ front) e = absurd (undecided-two (60 == b) (33 == c) e)

mdo-undecided : (s : State) (t : Stacked) → mode_at s t.entities ≡ m.Ds → decided_token s t (60 ∷ []) ≡ false
unfolding token_decided recognised
mdo-undecided s t e = ap (λ st. token_decided s.context.doctype.syntax st (60 ∷ [])) (ds-state s t e)

keyword-there : (s : State) (t : Stacked) (rest ys : List ℕ) → TokenOf s t (60 ∷ 33 ∷ rest) ys → keyword_ends s.context.doctype.syntax.names (60 ∷ 33 ∷ rest) ≡ true
keyword-there s t rest ys x = keyword-told s.context.doctype.syntax (net_in_force s.context) (is_map (map_at s)) rest ys x.kind x.size x.is (subst (Fits x.kind x.size) (omega arith) x.fits)

and-both : (t u : Bool) → t ≡ true → u ≡ true → (t && u) ≡ true
and-both t u e f = (λ i. e i && f i)

no-sgml : (s : State) (t : Stacked) (b : ℕ) (front ys : List ℕ) → mode_at s t.entities ≡ m.Ds → TokenOf s t (b ∷ front) ys → (v : Verdict) → prefix_verdict (codes "<!") (b ∷ front) ≡ v
    → beginning_decided s.context.doctype.syntax.names (b ∷ front) (decided_token s t (b ∷ front)) v ≡ true
no-sgml s t b front ys e x Fails v = token-decided s t (b ∷ front) ys e (omega arith) x
no-sgml s t b front ys e x Undecided v =
    let u = undecided-mdo b front v in
    let no : decided_token s t (b ∷ front) ≡ false = (λ i. decided_token s t (u.0 i ∷ u.1 i)) ∙ mdo-undecided s t e in
    never (decided_token s t (b ∷ front)) (token-decided s t (b ∷ front) ys e (omega arith) x) no
no-sgml s t b front ys e x Holds v =
    let u = holds-mdo b front v in
    and-both (keyword_ends s.context.doctype.syntax.names (b ∷ front)) (decided_token s t (b ∷ front))
    (ap (keyword_ends s.context.doctype.syntax.names) u.1 ∙ keyword-there s t u.0 ys (subst (λ z. TokenOf s t z ys) u.1 x))
    (token-decided s t (b ∷ front) ys e (omega arith) x)

-- WHERE ONE DOES

pub one-answer : (own : List ℕ) (n : ℕ) (x : Result (Syntax × ℕ) DeclError) (p : Piece) → AnswerSize n x → sgml_of own x ≡ Ok p → n ≡ p.size
one-answer own n (Err e) p a h = absurd (cc)
one-answer own n (Ok x) p a h = sym a ∙ by (all_sgml (take x.1 own)) h
  where
    size_of : Result Piece Reason → ℕ
    size_of (Ok q) = q.size
    size_of (Err r) = 0

    by : (t : Bool) → (if t then Ok (sized x.1 (Sgml x.0)) else Err reason.NonSgml) ≡ Ok p → x.1 ≡ p.size
    by true h = ap size_of h
    by false h = absurd (cc)

abbrev pub Run : List ℕ → ℕ → Type 0
Run bytes n = (h : Heard) × (run 0 begin_state bytes ≡ whole h n)

outcome-run : (own : List ℕ) (o : Outcome) (p : Piece) → run 0 begin_state own ≡ o → sgml_by own o ≡ Ok p → Run own p.size
outcome-run own (bad at) p e h = absurd (cc)
outcome-run own (whole x n) p e h =
    let is = one-answer own n (answer x n) p (answer-size (refusal_of x) x n) h in
    (x, e ∙ ap (whole x) is)

pub own-run : (own : List ℕ) (p : Piece) → sgml_piece own ≡ Ok p → Run own p.size
unfolding sgml_piece
own-run own p h = outcome-run own (run 0 begin_state own) p refl h

pub take-front : (n k : ℕ) (bytes : List ℕ) → n ≤ length (take k bytes) → take n (take k bytes) ≡ take n bytes
take-front zero k bytes l = refl
take-front (suc n) zero bytes l = absurd (omega (arith, l))
take-front (suc n) (suc k) [] l = refl
take-front (suc n) (suc k) (b ∷ bytes) l = ap (λ (z : List ℕ). b ∷ z) (take-front n k bytes (omega (arith, l)))

front-run : (k : ℕ) (bytes : List ℕ) (n : ℕ) → Run (take k bytes) n → Run bytes n
front-run k bytes n (h, e) =
    let x = read_declared (take k bytes) n h e in
    let size = length-take k bytes in
    (h, declared_read bytes n h (omega (arith, x.0, size)) (subst (λ (l : List ℕ). Declares l h) (take-front n k bytes x.0) x.1))

bad-run : (bytes : List ℕ) (r : Reason) (p : Piece) → sgml_bad bytes r ≡ Ok p → Run bytes p.size
bad-run bytes reason.Unclosed p h = own-run bytes p h
bad-run bytes _ p h = absurd (cc)

pub token-run : (bytes : List ℕ) (x : Scanned) (p : Piece) → sgml_by_token bytes x ≡ Ok p → Run bytes p.size
token-run bytes (Token x) p h = front-run x.length bytes p.size (own-run (take x.length bytes) p h)
token-run bytes NeedMore p h = absurd (cc)
token-run bytes (BadToken r) p h = bad-run bytes r p h

and-parts : (t u : Bool) → (t && u) ≡ true → (t ≡ true) × (u ≡ true)
and-parts true u e = (refl, e)
and-parts false u e = never false e refl

begins-mdo : (bytes : List ℕ) → begins (codes "<!") bytes ≡ true → (rest : List ℕ) × (bytes ≡ 60 ∷ 33 ∷ rest)
begins-mdo [] e = never false e refl
begins-mdo (b ∷ []) e = never false (and-parts (60 == b) false e).1 refl
begins-mdo (b ∷ c ∷ rest) e =
    let x = and-parts (60 == b) ((33 == c) && true) e in
    let y = and-parts (33 == c) true x.1 in
    (rest, λ i. sym (eqb-true 60 b x.0) i ∷ sym (eqb-true 33 c y.0) i ∷ rest)

-- a keyword's first letter
abbrev first_or : ℕ → List ℕ → ℕ
first_or n [] = n
first_or n (b ∷ bytes) = b

pub keyword-letter : (names : NameSet) (a : ℕ) (rest : List ℕ) → is_word (codes "SGML") (first_name names (a ∷ rest)) ≡ true → is_letter a ≡ true
keyword-letter names a rest e = by (prefix_len (is_name_character names) (a ∷ rest)) e
  where
    letter : (c : ℕ) → upper c ≡ 83 → is_letter c ≡ true
    letter c e = grind (arith, nat_tests)

    by : (n : ℕ) → is_word (codes "SGML") (take n (a ∷ rest)) ≡ true → is_letter a ≡ true
    by zero e = never false e refl
    by (suc n) e =
        let is = (bytes_eq-Decides (map upper (take (suc n) (a ∷ rest))) (codes "SGML")).0 e in
        letter a (ap (first_or 0) is)

follow-letter : (s : Syntax) (a : ℕ) (rest : List ℕ) → is_letter a ≡ true → follow_verdict s AfterMdo (a ∷ rest) ≡ Holds
follow-letter s a [] e = rw e refl
follow-letter s a (c ∷ rest) e = rw e refl

pub mdo-recognised : (s : Syntax) (net : Bool) (a : ℕ) (rest : List ℕ) → is_letter a ≡ true → recognised s m.Ds net (60 ∷ 33 ∷ a ∷ rest) ≡ r.Found d.Mdo 2
unfolding recognised
mdo-recognised s net a rest e = rw (follow-letter s a rest e) refl

pub letter-apart : (a n : ℕ) → is_letter a ≡ true → is_letter n ≡ false → (a == n) ≡ false
letter-apart a n e f = by (a == n) refl
  where
    by : (t : Bool) → (a == n) ≡ t → (a == n) ≡ false
    by true g = never (is_letter a) e (ap is_letter (eqb-true a n g) ∙ f)
    by false g = g

sgml-token : (s : Syntax) (net maps : Bool) (a : ℕ) (rest : List ℕ) (n : ℕ) → is_letter a ≡ true → declaration_end s.names (a ∷ rest) ≡ Some n → token_decided s (ds net maps) (60 ∷ 33 ∷ a ∷ rest) ≡ true
unfolding token_decided
sgml-token s net maps a rest n e f =
    rw (mdo-recognised s net a rest e) (rw (letter-apart a 91 e refl, letter-apart a 45 e refl, letter-apart a 62 e refl) (ap is_some f))

sgml-there : (s : State) (t : Stacked) (front ys : List ℕ) (n : ℕ) → mode_at s t.entities ≡ m.Ds → declaration_end s.context.doctype.syntax.names (front ++ ys) ≡ Some n → n ≤ length front → 1 ≤ n
    → is_word (codes "SGML") (first_name s.context.doctype.syntax.names (front ++ ys)) ≡ true
    → beginning_decided s.context.doctype.syntax.names (60 ∷ 33 ∷ front) (decided_token s t (60 ∷ 33 ∷ front)) (prefix_verdict (codes "<!") (60 ∷ 33 ∷ front)) ≡ true
sgml-there s t [] ys n e f l some w = absurd (omega (arith, l, some))
sgml-there s t (a ∷ front) ys n e f l some w =
    let names = s.context.doctype.syntax.names in
    let there = declaration-back names (a ∷ front) ys n f l in
    and-both (keyword_ends names (60 ∷ 33 ∷ a ∷ front)) (decided_token s t (60 ∷ 33 ∷ a ∷ front))
    (name-ends names (ender_of names (a ∷ front)) Between (a ∷ front) n there)
    (ap (λ st. token_decided s.context.doctype.syntax st (60 ∷ 33 ∷ a ∷ front)) (ds-state s t e)
    ∙ sgml-token s.context.doctype.syntax (net_in_force s.context) (is_map (map_at s)) a front n (keyword-letter names a (front ++ ys) w) there)

pub sgml-front : (s : State) (t : Stacked) (b : ℕ) (front ys rest : List ℕ) (n : ℕ) → mode_at s t.entities ≡ m.Ds → (b ∷ front) ++ ys ≡ 60 ∷ 33 ∷ rest
    → declaration_end s.context.doctype.syntax.names rest ≡ Some n → 2 + n ≤ length (b ∷ front) → 1 ≤ n → is_word (codes "SGML") (first_name s.context.doctype.syntax.names rest) ≡ true
    → beginning_decided s.context.doctype.syntax.names (b ∷ front) (decided_token s t (b ∷ front)) (prefix_verdict (codes "<!") (b ∷ front)) ≡ true
sgml-front s t b [] ys rest n e q f l some w = absurd (omega (arith, l))
sgml-front s t b (c ∷ front) ys rest n e q f l some w =
    let first : b ≡ 60 = cc in
    let second : c ≡ 33 = cc in
    let others : front ++ ys ≡ rest = cc in
    let names = s.context.doctype.syntax.names in
    (λ i. beginning_decided names (first i ∷ second i ∷ front) (decided_token s t (first i ∷ second i ∷ front)) (prefix_verdict (codes "<!") (first i ∷ second i ∷ front)))
    ∙ sgml-there s t front ys n e (ap (declaration_end names) others ∙ f) (omega (arith, l)) some (ap (λ z. is_word (codes "SGML") (first_name names z)) others ∙ w)

-- the piece is an SGML declaration

abbrev IsSgml : Result Piece Reason → Type 0
IsSgml (Ok p) = is_sgml p.kind ≡ true
IsSgml (Err r) = Unit {0}

if-sgml : (t : Bool) (x y : Result Piece Reason) → IsSgml x → IsSgml y → IsSgml (if t then x else y)
if-sgml true x y p q = p
if-sgml false x y p q = q

answer-sgml : (own : List ℕ) (x : Result (Syntax × ℕ) DeclError) → IsSgml (sgml_of own x)
answer-sgml own (Err e) = tt
answer-sgml own (Ok a) = if-sgml (all_sgml (take a.1 own)) (Ok (sized a.1 (Sgml a.0))) (Err reason.NonSgml) refl tt

outcome-sgml : (own : List ℕ) (o : Outcome) → IsSgml (sgml_by own o)
outcome-sgml own (bad at) = tt
outcome-sgml own (whole h n) = answer-sgml own (answer h n)

own-sgml : (own : List ℕ) → IsSgml (sgml_piece own)
unfolding sgml_piece
own-sgml own = outcome-sgml own (run 0 begin_state own)

bad-sgml : (bytes : List ℕ) (r : Reason) → IsSgml (sgml_bad bytes r)
bad-sgml bytes reason.Unclosed = own-sgml bytes
bad-sgml bytes _ = tt

token-sgml : (bytes : List ℕ) (x : Scanned) → IsSgml (sgml_by_token bytes x)
token-sgml bytes (Token x) = own-sgml (take x.length bytes)
token-sgml bytes NeedMore = tt
token-sgml bytes (BadToken r) = bad-sgml bytes r

pub sgml-kind : (bytes : List ℕ) (x : Scanned) (p : Piece) → sgml_by_token bytes x ≡ Ok p → is_sgml p.kind ≡ true
sgml-kind bytes x p e = subst IsSgml e (token-sgml bytes x)

sgml-decided : (s : State) (t : Stacked) (b : ℕ) (front ys : List ℕ) (p : Piece) (x : Scanned) → mode_at s t.entities ≡ m.Ds → HasReferenceNames s.context.doctype.syntax.names → Lies p (length (b ∷ front))
    → begins_sgml s.context.doctype.syntax.names ((b ∷ front) ++ ys) ≡ true → sgml_by_token ((b ∷ front) ++ ys) x ≡ Ok p
    → beginning_decided s.context.doctype.syntax.names (b ∷ front) (decided_token s t (b ∷ front)) (prefix_verdict (codes "<!") (b ∷ front)) ≡ true
sgml-decided s t b front ys p x e has l w h =
    let names = s.context.doctype.syntax.names in
    let both = and-parts (begins (codes "<!") ((b ∷ front) ++ ys)) (has_keyword names (codes "SGML") ((b ∷ front) ++ ys)) w in
    let there = begins-mdo ((b ∷ front) ++ ys) both.0 in
    let word : is_word (codes "SGML") (first_name names there.0) ≡ true = sym (ap (has_keyword names (codes "SGML")) there.1) ∙ both.1 in
    let y = token-run ((b ∷ front) ++ ys) x p h in
    let end = sgml-ends names there.0 y.0 p.size has word (sym (ap (run 0 begin_state) there.1) ∙ y.1) in
    let some = (end-within names (ender_of names there.0) Between there.0 end.0 end.1).some in
    sgml-front s t b front ys there.0 end.0 e there.1 end.1 (omega (arith, end.2, l.within)) some word

-- no declaration begins there
pub plain-beginning : (outside : Outside) (s : State) (t : Stacked) (b : ℕ) (front ys : List ℕ) (p : Piece) → mode_at s t.entities ≡ m.Ds → Lies p (length (b ∷ front))
    → begins_sgml s.context.doctype.syntax.names ((b ∷ front) ++ ys) ≡ false → at_beginning false outside s t ((b ∷ front) ++ ys) ≡ Ok p
    → beginning_decided s.context.doctype.syntax.names (b ∷ front) (decided_token s t (b ∷ front)) (prefix_verdict (codes "<!") (b ∷ front)) ≡ true
plain-beginning outside s t b front ys p e l f h =
    no-sgml s t b front ys e (before-here outside s t b front ys p e l h) (prefix_verdict (codes "<!") (b ∷ front)) refl

beginning : (outside : Outside) (s : State) (t : Stacked) (b : ℕ) (front ys : List ℕ) (p : Piece) (w : Bool) → mode_at s t.entities ≡ m.Ds → (is_sgml p.kind ≡ true → HasReferenceNames s.context.doctype.syntax.names) → Lies p (length (b ∷ front))
    → begins_sgml s.context.doctype.syntax.names ((b ∷ front) ++ ys) ≡ w → at_beginning w outside s t ((b ∷ front) ++ ys) ≡ Ok p
    → beginning_decided s.context.doctype.syntax.names (b ∷ front) (decided_token s t (b ∷ front)) (prefix_verdict (codes "<!") (b ∷ front)) ≡ true
beginning outside s t b front ys p true e has l f h = sgml-decided s t b front ys p (token_here s t ((b ∷ front) ++ ys)) e (has (sgml-kind ((b ∷ front) ++ ys) (token_here s t ((b ∷ front) ++ ys)) p h)) l f h
beginning outside s t b front ys p false e has l f h = plain-beginning outside s t b front ys p e l f h

-- IN EACH STAGE before the end of the document type

-- the mode of the place, and how much is there at least
abbrev pub Modes : State → Stacked → ℕ → Type 0
Modes s t front = (mode_at s t.entities ≡ m.Ds) ⊎ ((mode_at s t.entities ≡ m.Ign) × (s.stage ≡ InSubset) × (3 ≤ front))

abbrev pub Decided : State → Stacked → ℕ → List ℕ → Stage → Type 0
Decided s t b front g =
    (if is_at_beginning g
    then beginning_decided s.context.doctype.syntax.names (b ∷ front) (decided_token s t (b ∷ front)) (prefix_verdict (codes "<!") (b ∷ front))
    else decided_token s t (b ∷ front)) ≡ true

is-inner-stage : Stage → Bool
is-inner-stage InSubset = true
is-inner-stage _ = false

before-mode : (s : State) (t : Stacked) (front : ℕ) (g : Stage) → s.stage ≡ g → is-inner-stage g ≡ false → Modes s t front → mode_at s t.entities ≡ m.Ds
unfolding is-inner-stage
before-mode s t front g e f (inl h) = h
before-mode s t front g e f (inr h) = never (is-inner-stage g) (ap is-inner-stage (sym e ∙ h.1)) f

pub beginning-mode : (s : State) (t : Stacked) (front : ℕ) → s.stage ≡ AtBeginning → Modes s t front → mode_at s t.entities ≡ m.Ds
unfolding is-inner-stage
beginning-mode s t front e md = before-mode s t front AtBeginning e refl md

subset-decided : (outside : Outside) (s : State) (t : Stacked) (b : ℕ) (front ys : List ℕ) (p : Piece) → in_doctype s.stage t.entities ≡ true → Modes s t (length (b ∷ front)) → Lies p (length (b ∷ front))
    → by_token outside s t ((b ∷ front) ++ ys) (token_here s t ((b ∷ front) ++ ys)) ≡ Ok p → decided_token s t (b ∷ front) ≡ true
subset-decided outside s t b front ys p f (inl e) l h = token-decided s t (b ∷ front) ys e (omega arith) (in-here outside s t b front ys p f e l h)
subset-decided outside s t b front ys p f (inr e) l h =
    ap (λ st. token_decided s.context.doctype.syntax st (b ∷ front)) (ign-state s t e.0)
    ∙ ign-decided s.context.doctype.syntax (net_in_force s.context) (is_map (map_at s)) (b ∷ front) e.2

pub stage-decided : (outside : Outside) (s : State) (t : Stacked) (b : ℕ) (front ys : List ℕ) (p : Piece) (g : Stage) → s.stage ≡ g → is_after_subset g ≡ false → in_doctype s.stage t.entities ≡ true
    → Modes s t (length (b ∷ front)) → (g ≡ AtBeginning → is_sgml p.kind ≡ true → HasReferenceNames s.context.doctype.syntax.names) → Lies p (length (b ∷ front)) → by_stage outside s t ((b ∷ front) ++ ys) g ≡ Ok p → Decided s t b front g
unfolding is-inner-stage
stage-decided outside s t b front ys p BeforeSyntax e a f md has l h =
    let ds_mode = before-mode s t (length (b ∷ front)) BeforeSyntax e refl md in
    token-decided s t (b ∷ front) ys ds_mode (omega arith) (before-here outside s t b front ys p ds_mode l h)
stage-decided outside s t b front ys p AtBeginning e a f md has l h =
    let ds_mode = before-mode s t (length (b ∷ front)) AtBeginning e refl md in
    beginning outside s t b front ys p (begins_sgml s.context.doctype.syntax.names ((b ∷ front) ++ ys)) ds_mode (has refl) l refl h
stage-decided outside s t b front ys p BeforeDoctype e a f md has l h =
    let ds_mode = before-mode s t (length (b ∷ front)) BeforeDoctype e refl md in
    token-decided s t (b ∷ front) ys ds_mode (omega arith) (before-here outside s t b front ys p ds_mode l h)
stage-decided outside s t b front ys p InSubset e a f md has l h = subset-decided outside s t b front ys p f md l h
stage-decided outside s t b front ys p AfterSubset e a f md has l h = never true refl a

byte-decided : (outside : Outside) (s : State) (t : Stacked) (b : ℕ) (front ys : List ℕ) (p : Piece) (early : Bool) → is_early_end s.stage b ≡ early → is_after_subset s.stage ≡ false → in_doctype s.stage t.entities ≡ true
    → Modes s t (length (b ∷ front)) → (s.stage ≡ AtBeginning → is_sgml p.kind ≡ true → HasReferenceNames s.context.doctype.syntax.names) → Lies p (length (b ∷ front))
    → (if early then Err reason.NoDoctype else by_stage outside s t ((b ∷ front) ++ ys) s.stage) ≡ Ok p → decided_bytes s t (b ∷ front) ≡ true
byte-decided outside s t b front ys p true e a f md has l h = absurd (cc)
byte-decided outside s t b front ys p false e a f md has l h =
    ap (λ u. if u then true else if is_at_beginning s.stage
    then beginning_decided s.context.doctype.syntax.names (b ∷ front) (decided_token s t (b ∷ front)) (prefix_verdict (codes "<!") (b ∷ front))
    else decided_token s t (b ∷ front)) e
    ∙ stage-decided outside s t b front ys p s.stage refl a f md has l h

pub local-decided : (outside : Outside) (s : State) (t : Stacked) (front ys : List ℕ) (p : Piece) → is_after_subset s.stage ≡ false → in_doctype s.stage t.entities ≡ true
    → Modes s t (length front) → (s.stage ≡ AtBeginning → is_sgml p.kind ≡ true → HasReferenceNames s.context.doctype.syntax.names) → Lies p (length front)
    → spelled_in outside s t 0 (front ++ ys) ≡ Ok p → decided_bytes s t front ≡ true
local-decided outside s t [] ys p a f md has l h = absurd (omega (arith, l.some, l.within))
local-decided outside s t (b ∷ front) ys p a f md has l h = byte-decided outside s t b front ys p (is_early_end s.stage b) refl a f md has l h

-- IN AN IGNORED SECTION a piece has three bytes, or is a byte that is passed over

abbrev pub IsIgnored : Piece → Type 0
IsIgnored p = (p.size ≡ 3) ⊎ ((c : ℕ) × (p.kind ≡ Skipped c))

kind_or : Kind → Result Piece Reason → Kind
kind_or k (Ok p) = p.kind
kind_or k (Err r) = k

skipped : (outside : Outside) (s : State) (t : Stacked) (own : List ℕ) (p : Piece) → subset_piece outside s t m.Ign kind.Chars own ≡ Ok p → p.kind ≡ Skipped (first_of own)
unfolding subset_piece kind_or
skipped outside s t own p e = sym (ap (kind_or Comment) e)

ignored-by : (outside : Outside) (s : State) (t : Stacked) (u : Bool) (md : Mode) (k : TokenKind) (n : ℕ) (bytes : List ℕ) (p : Piece) → u ≡ true → md ≡ m.Ign → Ignored bytes k n
    → piece_in u outside s t md k (take n bytes) ≡ Ok p → IsIgnored p
ignored-by outside s t u md k n bytes p f g (inl x) h =
    let size = size-is (length (take n bytes)) (piece_in u outside s t md k (take n bytes)) p (piece-sized outside s t u md k (take n bytes) f) h in
    inl (size ∙ (taken n bytes (omega (arith, x.0, x.1)) ∙ x.0))
ignored-by outside s t u md k n bytes p f g (inr x) h =
    inr (first_of (take n bytes), skipped outside s t (take n bytes) p (sym (λ i. piece_in (f i) outside s t (g i) (x.0 i) (take n bytes)) ∙ h))

ignored-token : (outside : Outside) (s : State) (t : Stacked) (b : ℕ) (bytes : List ℕ) (p : Piece) (x : Scanned) → in_doctype s.stage t.entities ≡ true → mode_at s t.entities ≡ m.Ign
    → token_at s.context.doctype.syntax (ign (net_in_force s.context) (is_map (map_at s))) (b ∷ bytes) ≡ x → by_token outside s t (b ∷ bytes) x ≡ Ok p → IsIgnored p
ignored-token outside s t b bytes p (Token x) f g e h =
    ignored-by outside s t (in_doctype s.stage t.entities) (mode_at s t.entities) x.kind x.length (b ∷ bytes) p f g
    (ign-token s.context.doctype.syntax (net_in_force s.context) (is_map (map_at s)) b bytes x.kind x.length e) h
ignored-token outside s t b bytes p NeedMore f g e h = absurd (cc)
ignored-token outside s t b bytes p (BadToken r) f g e h = absurd (cc)

ignored-byte : (outside : Outside) (s : State) (t : Stacked) (b : ℕ) (bytes : List ℕ) (p : Piece) (g : Stage) → g ≡ InSubset → in_doctype s.stage t.entities ≡ true → mode_at s t.entities ≡ m.Ign
    → (if is_early_end g b then Err reason.NoDoctype else by_stage outside s t (b ∷ bytes) g) ≡ Ok p → IsIgnored p
ignored-byte outside s t b bytes p g e f md h =
    let there : by_token outside s t (b ∷ bytes) (token_here s t (b ∷ bytes)) ≡ Ok p =
    sym (ap (λ z. if is_early_end z b then Err reason.NoDoctype else by_stage outside s t (b ∷ bytes) z) e) ∙ h in
    ignored-token outside s t b bytes p (token_at s.context.doctype.syntax (ign (net_in_force s.context) (is_map (map_at s))) (b ∷ bytes)) f md refl
    (sym (ap (λ st. by_token outside s t (b ∷ bytes) (token_at s.context.doctype.syntax st (b ∷ bytes))) (ign-state s t md)) ∙ there)

pub ignored-piece : (outside : Outside) (s : State) (t : Stacked) (bytes : List ℕ) (p : Piece) → s.stage ≡ InSubset → in_doctype s.stage t.entities ≡ true → mode_at s t.entities ≡ m.Ign
    → 0 < p.size → p.size ≤ length bytes → spelled_in outside s t 0 bytes ≡ Ok p → IsIgnored p
ignored-piece outside s t [] p e f md some l h = absurd (omega (arith, some, l))
ignored-piece outside s t (b ∷ bytes) p e f md some l h = ignored-byte outside s t b bytes p s.stage e f md h
