-- What is decided is spelled so in each text that begins so.
use Rattle.std.proofs.Common.{◌≡◌, ℕ, Bool, true, false, ◌&&◌, List, [], ◌∷◌, ◌++◌, ◌≤◌, Option, None, Some, Result, Ok, Err, length, take, map, unwrap_or, codes, refl, sym, ◌∙◌, ap, subst, if◌then◌else◌, arith, ◌==◌, eqb-true}
use Rattle.std.proofs.lemmas.List.{take-append-le, length-take}
use Rattle.sgml_scan.specs.text.declared.name_set.NameSet.{NameSet}
use Rattle.sgml_scan.specs.text.declared.reason.Reason.{Reason}
use Rattle.sgml_scan.specs.text.declared.reason.Reason.TheVariants as reason
use Rattle.sgml_scan.specs.syntax.declared.syntax.Syntax.{Syntax}
use Rattle.sgml_scan.specs.delim.declared.delim.Mode.{Mode}
use Rattle.sgml_scan.specs.delim.declared.delim.Mode.TheVariants as mode
use Rattle.sgml_scan.specs.delim.declared.delim.Verdict.{Verdict}
use Rattle.sgml_scan.specs.delim.declared.delim.Verdict.TheVariants.{Holds, Fails, Undecided}
use Rattle.sgml_scan.specs.delim.Tables.{begins}
use Rattle.sgml_sgmldecl.proofs.Whole.{read_declared}
use Rattle.sgml_sgmldecl.specs.Machine.{Outcome, bad, whole, run, begin_state}
use Rattle.sgml_sgmldecl.specs.Refusing.{refusal_of, answer_for, answer}
use Rattle.sgml_sgmldecl.specs.declared.heard.Heard.{Heard}
use Rattle.sgml_sgmldecl.specs.declared.settling.Refused.{Refused}
use Rattle.sgml_scan.specs.markup.declared.kinds.TokenKind.{TokenKind}
use Rattle.sgml_sgmldecl.specs.declared.feature.DeclError.{DeclError}
use Rattle.sgml_scan.specs.text.Characters.{all_sgml}
use Rattle.sgml_scan.specs.declared.state.Scanned.{Scanned}
use Rattle.sgml_scan.specs.declared.state.Scanned.TheVariants.{Token, NeedMore, BadToken}
use Rattle.sgml_scan.specs.Classes.{is_scanned}
use Rattle.sgml_scan.specs.Tokens.{IsWithin}
use Rattle.sgml_theory_reading.specs.marked.declared.status.Status.{Status}
use Rattle.sgml_theory_reading.specs.marked.declared.status.Status.TheVariants as status
use Rattle.sgml_theory_reading.specs.marked.declared.sections.Section.{Section}
use Rattle.sgml_theory_reading.specs.dtd.Doctypes.{Doctype}
use Rattle.sgml_theory_reading.specs.Types.{Content, Model, Any, Cdata, Rcdata, Void, content_of, type_of}
use Rattle.sgml_theory_reading.specs.Pieces.{Piece, Sgml, EntityEnd}
use Rattle.sgml_theory_reading.specs.Facets.{Stage, BeforeSyntax, AtBeginning, BeforeDoctype, InSubset, AfterSubset}
use Rattle.sgml_theory_reading.specs.Context.{Level}
use Rattle.sgml_theory_reading.specs.Unread.{Outside, Rest, Standing}
use Rattle.sgml_theory_reading.specs.State.{State}
use Rattle.sgml_theory_reading.specs.Reads.{Decides, rest_with_more, standing_with_more, length_of_first}
use Rattle.sgml_theory_spelling.specs.Stacked.{Stacked, stacked}
use Rattle.sgml_theory_spelling.specs.Sized.{sized, unless_reason}
use Rattle.sgml_theory_spelling.specs.Places.{mode_of_status, section_mode, content_mode, element_mode, in_doctype, mode_at, scan_state, in_section}
use Rattle.sgml_theory_spelling.specs.SgmlDeclared.{has_keyword, keyword_ends, begins_sgml, sgml_of, sgml_by, sgml_piece}
use Rattle.sgml_theory_spelling.specs.Prolog.{reason_before, piece_before}
use Rattle.sgml_scan.specs.delim.Verdicts.{prefix_verdict}
use Rattle.sgml_theory_spelling.specs.Decided.{is_early_end, beginning_decided, is_at_beginning, decided_token, decided_bytes, decided_of, decided}
use Rattle.sgml_theory_spelling.specs.Spelled.{type_end, document_end, entity_end, text_end, piece_in, by_token, by_token_before, token_here, sgml_bad, sgml_by_token, at_beginning, by_stage, spelled_in, spelled_of, spelled, forms}
use Rattle.sgml_theory_spelling.proofs.Tokens.{apart}
use Rattle.sgml_theory_spelling.proofs.Staying.{is_unclosed_reason, is_unclosed, Stays, decided-token-stays}
use Rattle.sgml_theory_spelling.proofs.Growing.{decided-on, prefix-on, is_holds, begins-verdict, keyword-on, beginning-decided-on}
use Rattle.sgml_theory_spelling.proofs.Sizes.{HasSize, unless-size, content-size, before-size, subset-size}

-- THE MODES of places are those of scanning

element-scanned : (d : Doctype) (ls : List Level) → is_scanned (element_mode d ls) ≡ true
element-scanned d [] = refl
element-scanned d (l ∷ ls) = by (content_of (type_of d l.element))
  where
    by : (c : Content) → is_scanned (content_mode c) ≡ true
    by (Model term) = refl
    by Any = refl
    by Cdata = refl
    by Rcdata = refl
    by Void = refl

type-scanned : (t : Bool) (m : Mode) → is_scanned m ≡ true → is_scanned (if t then mode.Ds else m) ≡ true
type-scanned true m e = refl
type-scanned false m e = e

section-scanned : (x : Status) (m : Mode) → is_scanned m ≡ true → is_scanned (unwrap_or (mode_of_status x) m) ≡ true
section-scanned status.Ignore m e = refl
section-scanned status.Cdata m e = refl
section-scanned status.Rcdata m e = refl
section-scanned status.Include m e = e

sections-scanned : (ss : List Section) (m : Mode) → is_scanned m ≡ true → is_scanned (unwrap_or (section_mode ss) m) ≡ true
sections-scanned [] m e = e
sections-scanned (x ∷ ss) m e = section-scanned x.status m e

pub mode-scanned : (s : State) (entities : List ℕ) → is_scanned (mode_at s entities) ≡ true
unfolding mode_at
mode-scanned s entities =
    sections-scanned s.sections (if in_doctype s.stage entities then mode.Ds else element_mode s.context.doctype s.context.levels)
    (type-scanned (in_doctype s.stage entities) (element_mode s.context.doctype s.context.levels) (element-scanned s.context.doctype s.context.levels))

-- WHAT A PIECE DEPENDS ON stays

entities-more : (bytes : List ℕ) (rs : List Rest) → map (λ (r : Rest). r.entity) (map (rest_with_more bytes) rs) ≡ map (λ (r : Rest). r.entity) rs
entities-more bytes [] = refl
entities-more bytes (r ∷ rs) = ap (λ xs. r.entity ∷ xs) (entities-more bytes rs)

stacked-more : (bytes : List ℕ) (t : Standing) → stacked (standing_with_more bytes t) ≡ stacked t
stacked-more bytes t = ap (λ xs. record { entities = xs; spent = t.spent }) (entities-more bytes t.rests)

-- BY THE TOKEN

reason-same : (names : NameSet) (one other : List ℕ) (r : Reason) → is_unclosed_reason r ≡ false → reason_before names one r ≡ reason_before names other r
reason-same names one other reason.Unclosed e = apart true refl e
reason-same names one other reason.NonSgml e = refl
reason-same names one other reason.DeclarationSyntax e = refl
reason-same names one other reason.PiLength e = refl
reason-same names one other _ e = refl

token-same : (outside : Outside) (s : State) (t : Stacked) (b : ℕ) (bytes more : List ℕ) (x : Scanned) → IsWithin (length (b ∷ bytes)) x → by_token outside s t ((b ∷ bytes) ++ more) x ≡ by_token outside s t (b ∷ bytes) x
token-same outside s t b bytes more (Token x) w =
    ap (piece_in (in_doctype s.stage t.entities) outside s t (mode_at s t.entities) x.kind) (take-append-le x.length (b ∷ bytes) more w.1)
token-same outside s t b bytes more NeedMore w = refl
token-same outside s t b bytes more (BadToken r) w = refl

token-before-same : (outside : Outside) (s : State) (t : Stacked) (bytes more : List ℕ) (x : Scanned) → IsWithin (length bytes) x → is_unclosed x ≡ false
    → by_token_before outside s t (bytes ++ more) x ≡ by_token_before outside s t bytes x
token-before-same outside s t bytes more (Token x) w e = ap (piece_before outside s t x.kind) (take-append-le x.length bytes more w.1)
token-before-same outside s t bytes more NeedMore w e = refl
token-before-same outside s t bytes more (BadToken r) w e = ap Err (reason-same s.context.doctype.syntax.names (bytes ++ more) bytes r e)

stays : (s : State) (t : Stacked) (b : ℕ) (bytes : List ℕ) → decided_token s t (b ∷ bytes) ≡ true → Stays s.context.doctype.syntax (scan_state s t.entities) (b ∷ bytes)
stays s t b bytes e = decided-token-stays s.context.doctype.syntax (scan_state s t.entities) b bytes (mode-scanned s t.entities) e

in-same : (outside : Outside) (s : State) (t : Stacked) (b : ℕ) (bytes more : List ℕ) → decided_token s t (b ∷ bytes) ≡ true
    → by_token outside s t ((b ∷ bytes) ++ more) (token_here s t ((b ∷ bytes) ++ more)) ≡ by_token outside s t (b ∷ bytes) (token_here s t (b ∷ bytes))
in-same outside s t b bytes more e =
    let h = stays s t b bytes e in
    ap (by_token outside s t ((b ∷ bytes) ++ more)) (h.same more) ∙ token-same outside s t b bytes more (token_here s t (b ∷ bytes)) h.within

before-same : (outside : Outside) (s : State) (t : Stacked) (b : ℕ) (bytes more : List ℕ) → decided_token s t (b ∷ bytes) ≡ true
    → by_token_before outside s t ((b ∷ bytes) ++ more) (token_here s t ((b ∷ bytes) ++ more)) ≡ by_token_before outside s t (b ∷ bytes) (token_here s t (b ∷ bytes))
before-same outside s t b bytes more e =
    let h = stays s t b bytes e in
    ap (by_token_before outside s t ((b ∷ bytes) ++ more)) (h.same more)
    ∙ token-before-same outside s t (b ∷ bytes) more (token_here s t (b ∷ bytes)) h.within h.closed

-- THE SGML DECLARATION

abbrev pub AnswerSize : ℕ → Result (Syntax × ℕ) DeclError → Type 0
AnswerSize n (Ok a) = a.1 ≡ n
AnswerSize n (Err e) = Unit {0}

pub answer-size : (o : Option Refused) (h : Heard) (n : ℕ) → AnswerSize n (answer_for o h n)
answer-size None h n = refl
answer-size (Some r) h n = tt

abbrev pub SizeWithin : ℕ → Outcome → Type 0
SizeWithin n (bad at) = Unit {0}
SizeWithin n (whole h k) = k ≤ n

within-by : (bytes : List ℕ) (o : Outcome) → run 0 begin_state bytes ≡ o → SizeWithin (length bytes) o
within-by bytes (bad at) e = tt
within-by bytes (whole h n) e = (read_declared bytes n h e).0

sgml-within : (bytes : List ℕ) → SizeWithin (length bytes) (run 0 begin_state bytes)
sgml-within bytes = within-by bytes (run 0 begin_state bytes) refl

bad-same : (one other : List ℕ) (r : Reason) → is_unclosed_reason r ≡ false → sgml_bad one r ≡ sgml_bad other r
bad-same one other reason.Unclosed e = apart true refl e
bad-same one other _ e = refl

sgml-token-same : (bytes more : List ℕ) (x : Scanned) → IsWithin (length bytes) x → is_unclosed x ≡ false → sgml_by_token (bytes ++ more) x ≡ sgml_by_token bytes x
sgml-token-same bytes more (Token x) w e = ap sgml_piece (take-append-le x.length bytes more w.1)
sgml-token-same bytes more NeedMore w e = refl
sgml-token-same bytes more (BadToken r) w e = bad-same (bytes ++ more) bytes r e

-- where it may stand

never-undecided : (v : Verdict) → (v ≡ Holds) → v ≡ Undecided → ⊥
never-undecided v e f = cc

fails-undecided : (v : Verdict) → (v ≡ Fails) → v ≡ Undecided → ⊥
fails-undecided v e f = cc

and-true : (x y : Bool) → (x && y) ≡ true → (x ≡ true) × (y ≡ true)
and-true true y e = (refl, e)
and-true false y e = apart false e refl

by-word : (outside : Outside) (s : State) (t : Stacked) (b : ℕ) (bytes more : List ℕ) (w : Bool)
    → decided_token s t (b ∷ bytes) ≡ true
    → at_beginning w outside s t ((b ∷ bytes) ++ more) ≡ at_beginning w outside s t (b ∷ bytes)
by-word outside s t b bytes more true e =
    let h = stays s t b bytes e in
    ap (sgml_by_token ((b ∷ bytes) ++ more)) (h.same more) ∙ sgml-token-same (b ∷ bytes) more (token_here s t (b ∷ bytes)) h.within h.closed
by-word outside s t b bytes more false e = before-same outside s t b bytes more e

start-same : (outside : Outside) (s : State) (t : Stacked) (b : ℕ) (bytes more : List ℕ) (v : Verdict) → prefix_verdict (codes "<!") (b ∷ bytes) ≡ v
    → beginning_decided s.context.doctype.syntax.names (b ∷ bytes) (decided_token s t (b ∷ bytes)) v ≡ true
    → at_beginning (begins_sgml s.context.doctype.syntax.names ((b ∷ bytes) ++ more)) outside s t ((b ∷ bytes) ++ more)
    ≡ at_beginning (begins_sgml s.context.doctype.syntax.names (b ∷ bytes)) outside s t (b ∷ bytes)
start-same outside s t b bytes more Undecided p e = apart false e refl
start-same outside s t b bytes more Fails p e =
    let names = s.context.doctype.syntax.names in
    let now : begins (codes "<!") (b ∷ bytes) ≡ false = begins-verdict (codes "<!") (b ∷ bytes) ∙ ap is_holds p in
    let then_ : begins (codes "<!") ((b ∷ bytes) ++ more) ≡ false =
    begins-verdict (codes "<!") ((b ∷ bytes) ++ more) ∙ ap is_holds (prefix-on (codes "<!") (b ∷ bytes) more Fails (fails-undecided Fails refl) p) in
    ap (λ w. at_beginning (w && has_keyword names (codes "SGML") ((b ∷ bytes) ++ more)) outside s t ((b ∷ bytes) ++ more)) then_
    ∙ (before-same outside s t b bytes more e
    ∙ sym (ap (λ w. at_beginning (w && has_keyword names (codes "SGML") (b ∷ bytes)) outside s t (b ∷ bytes)) now))
start-same outside s t b bytes more Holds p e =
    let names = s.context.doctype.syntax.names in
    let both = and-true (keyword_ends names (b ∷ bytes)) _ e in
    let now : begins (codes "<!") (b ∷ bytes) ≡ true = begins-verdict (codes "<!") (b ∷ bytes) ∙ ap is_holds p in
    let then_ : begins (codes "<!") ((b ∷ bytes) ++ more) ≡ true =
    begins-verdict (codes "<!") ((b ∷ bytes) ++ more) ∙ ap is_holds (prefix-on (codes "<!") (b ∷ bytes) more Holds (never-undecided Holds refl) p) in
    ap (λ w. at_beginning (w && has_keyword names (codes "SGML") ((b ∷ bytes) ++ more)) outside s t ((b ∷ bytes) ++ more)) then_
    ∙ (ap (λ w. at_beginning w outside s t ((b ∷ bytes) ++ more)) (keyword-on names (codes "SGML") (b ∷ bytes) more both.0)
    ∙ (by-word outside s t b bytes more (has_keyword names (codes "SGML") (b ∷ bytes)) both.1
    ∙ sym (ap (λ w. at_beginning (w && has_keyword names (codes "SGML") (b ∷ bytes)) outside s t (b ∷ bytes)) now)))

-- IN EACH STAGE

stage-same : (outside : Outside) (s : State) (t : Stacked) (b : ℕ) (bytes more : List ℕ) (g : Stage)
    → (if is_at_beginning g
    then beginning_decided s.context.doctype.syntax.names (b ∷ bytes) (decided_token s t (b ∷ bytes)) (prefix_verdict (codes "<!") (b ∷ bytes))
    else decided_token s t (b ∷ bytes)) ≡ true
    → by_stage outside s t ((b ∷ bytes) ++ more) g ≡ by_stage outside s t (b ∷ bytes) g
stage-same outside s t b bytes more BeforeSyntax e = before-same outside s t b bytes more e
stage-same outside s t b bytes more AtBeginning e = start-same outside s t b bytes more (prefix_verdict (codes "<!") (b ∷ bytes)) refl e
stage-same outside s t b bytes more BeforeDoctype e = before-same outside s t b bytes more e
stage-same outside s t b bytes more InSubset e = in-same outside s t b bytes more e
stage-same outside s t b bytes more AfterSubset e = in-same outside s t b bytes more e

bytes-same : (outside : Outside) (s : State) (t : Stacked) (bytes more : List ℕ) → decided_bytes s t bytes ≡ true
    → spelled_in outside s t 0 (bytes ++ more) ≡ spelled_in outside s t 0 bytes
bytes-same outside s t [] more e = apart false e refl
bytes-same outside s t (b ∷ bytes) more e = by (is_early_end s.stage b) e
  where
    by : (early : Bool)
        → (if early then true
        else if is_at_beginning s.stage
        then beginning_decided s.context.doctype.syntax.names (b ∷ bytes) (decided_token s t (b ∷ bytes)) (prefix_verdict (codes "<!") (b ∷ bytes))
        else decided_token s t (b ∷ bytes)) ≡ true
        → (if early then Err reason.NoDoctype else by_stage outside s t ((b ∷ bytes) ++ more) s.stage) ≡ (if early then Err reason.NoDoctype else by_stage outside s t (b ∷ bytes) s.stage)
    by true e = refl
    by false e = stage-same outside s t b bytes more s.stage e

-- bytes of the document, where it is entity 0
rest-same : (outside : Outside) (s : State) (t : Stacked) (more : List ℕ) (number : ℕ) (bytes : List ℕ) (is_document : Bool)
    → (if is_document then decided_bytes s t bytes else true) ≡ true → (is_document ≡ true → number ≡ 0)
    → spelled_in outside s t number (if is_document then bytes ++ more else bytes) ≡ spelled_in outside s t number bytes
rest-same outside s t more number bytes true e is =
    ap (λ n. spelled_in outside s t n (bytes ++ more)) (is refl) ∙ (bytes-same outside s t bytes more e ∙ ap (λ n. spelled_in outside s t n bytes) (sym (is refl)))
rest-same outside s t more number bytes false e is = refl

rests-same : (outside : Outside) (s : State) (t : Stacked) (more : List ℕ) (rs : List Rest) → decided_of s t rs ≡ true
    → spelled_of outside s t (map (rest_with_more more) rs) ≡ spelled_of outside s t rs
rests-same outside s t more [] e = refl
rests-same outside s t more (r ∷ rs) e = rest-same outside s t more r.entity r.bytes (r.entity == 0) e (eqb-true r.entity 0)

-- STILL DECIDED

stage-decided-on : (s : State) (t : Stacked) (b : ℕ) (bytes more : List ℕ) (g : Bool)
    → (if g then beginning_decided s.context.doctype.syntax.names (b ∷ bytes) (decided_token s t (b ∷ bytes)) (prefix_verdict (codes "<!") (b ∷ bytes)) else decided_token s t (b ∷ bytes)) ≡ true
    → (if g then beginning_decided s.context.doctype.syntax.names ((b ∷ bytes) ++ more) (decided_token s t ((b ∷ bytes) ++ more)) (prefix_verdict (codes "<!") ((b ∷ bytes) ++ more)) else decided_token s t ((b ∷ bytes) ++ more)) ≡ true
stage-decided-on s t b bytes more false e = decided-on s.context.doctype.syntax (scan_state s t.entities) (b ∷ bytes) more (mode-scanned s t.entities) e
stage-decided-on s t b bytes more true e = by (prefix_verdict (codes "<!") (b ∷ bytes)) refl e
  where
    by : (v : Verdict) → prefix_verdict (codes "<!") (b ∷ bytes) ≡ v
        → beginning_decided s.context.doctype.syntax.names (b ∷ bytes) (decided_token s t (b ∷ bytes)) v ≡ true
        → beginning_decided s.context.doctype.syntax.names ((b ∷ bytes) ++ more) (decided_token s t ((b ∷ bytes) ++ more)) (prefix_verdict (codes "<!") ((b ∷ bytes) ++ more)) ≡ true
    by Undecided p e = apart false e refl
    by Holds p e =
        ap (beginning_decided s.context.doctype.syntax.names ((b ∷ bytes) ++ more) (decided_token s t ((b ∷ bytes) ++ more))) (prefix-on (codes "<!") (b ∷ bytes) more Holds (never-undecided Holds refl) p)
        ∙ beginning-decided-on s.context.doctype.syntax.names (b ∷ bytes) more (decided_token s t (b ∷ bytes)) (decided_token s t ((b ∷ bytes) ++ more)) Holds
        (λ f. decided-on s.context.doctype.syntax (scan_state s t.entities) (b ∷ bytes) more (mode-scanned s t.entities) f) e
    by Fails p e =
        ap (beginning_decided s.context.doctype.syntax.names ((b ∷ bytes) ++ more) (decided_token s t ((b ∷ bytes) ++ more))) (prefix-on (codes "<!") (b ∷ bytes) more Fails (fails-undecided Fails refl) p)
        ∙ decided-on s.context.doctype.syntax (scan_state s t.entities) (b ∷ bytes) more (mode-scanned s t.entities) e

bytes-decided-on : (s : State) (t : Stacked) (bytes more : List ℕ) → decided_bytes s t bytes ≡ true → decided_bytes s t (bytes ++ more) ≡ true
bytes-decided-on s t [] more e = apart false e refl
bytes-decided-on s t (b ∷ bytes) more e = by (is_early_end s.stage b) e
  where
    by : (early : Bool)
        → (if early then true
        else if is_at_beginning s.stage
        then beginning_decided s.context.doctype.syntax.names (b ∷ bytes) (decided_token s t (b ∷ bytes)) (prefix_verdict (codes "<!") (b ∷ bytes))
        else decided_token s t (b ∷ bytes)) ≡ true
        → (if early then true
        else if is_at_beginning s.stage
        then beginning_decided s.context.doctype.syntax.names ((b ∷ bytes) ++ more) (decided_token s t ((b ∷ bytes) ++ more)) (prefix_verdict (codes "<!") ((b ∷ bytes) ++ more))
        else decided_token s t ((b ∷ bytes) ++ more)) ≡ true
    by true e = refl
    by false e = stage-decided-on s t b bytes more (is_at_beginning s.stage) e

rest-decided-on : (s : State) (t : Stacked) (more bytes : List ℕ) (is_document : Bool) → (if is_document then decided_bytes s t bytes else true) ≡ true
    → (if is_document then decided_bytes s t (if is_document then bytes ++ more else bytes) else true) ≡ true
rest-decided-on s t more bytes true e = bytes-decided-on s t bytes more e
rest-decided-on s t more bytes false e = refl

rests-decided-on : (s : State) (t : Stacked) (more : List ℕ) (rs : List Rest) → decided_of s t rs ≡ true → decided_of s t (map (rest_with_more more) rs) ≡ true
rests-decided-on s t more [] e = refl
rests-decided-on s t more (r ∷ rs) e = rest-decided-on s t more r.bytes (r.entity == 0) e

pub decided-more : (outside : Outside) (s : State) (t : Standing) (more : List ℕ) → decided outside s t ≡ true → decided outside s (standing_with_more more t) ≡ true
unfolding decided
decided-more outside s t more e =
    ap (λ u. decided_of s u (map (rest_with_more more) t.rests)) (stacked-more more t) ∙ rests-decided-on s (stacked t) more t.rests e

same-spelled : (outside : Outside) (s : State) (t : Standing) (more : List ℕ) → decided outside s t ≡ true → spelled outside s (standing_with_more more t) ≡ spelled outside s t
unfolding decided spelled
same-spelled outside s t more e =
    ap (λ u. spelled_of outside s u (map (rest_with_more more) t.rests)) (stacked-more more t) ∙ rests-same outside s (stacked t) more t.rests e

-- IT LIES IN THE BYTES that are there

abbrev Lies : ℕ → Result Piece Reason → Type 0
Lies n (Ok p) = p.size ≤ n
Lies n (Err r) = Unit {0}

lies-in : (n k : ℕ) (x : Result Piece Reason) → k ≤ n → HasSize k x → Lies n x
lies-in n k (Ok p) l e = omega (arith, l, e)
lies-in n k (Err r) l e = tt

taken : (n : ℕ) (bytes : List ℕ) → length (take n bytes) ≤ length bytes
taken n bytes = let e = length-take n bytes in omega (arith, e)

pub piece-size : (t : Bool) (outside : Outside) (s : State) (u : Stacked) (m : Mode) (k : TokenKind) (own : List ℕ) → HasSize (length own) (piece_in t outside s u m k own)
piece-size true outside s u m k own = subset-size outside s u m k own
piece-size false outside s u m k own = content-size outside s u m k own

token-lies : (outside : Outside) (s : State) (t : Stacked) (bytes : List ℕ) (x : Scanned) → Lies (length bytes) (by_token outside s t bytes x)
token-lies outside s t bytes (Token x) =
    lies-in (length bytes) (length (take x.length bytes)) _ (taken x.length bytes)
    (piece-size (in_doctype s.stage t.entities) outside s t (mode_at s t.entities) x.kind (take x.length bytes))
token-lies outside s t bytes NeedMore = tt
token-lies outside s t bytes (BadToken r) = tt

before-lies : (outside : Outside) (s : State) (t : Stacked) (bytes : List ℕ) (x : Scanned) → Lies (length bytes) (by_token_before outside s t bytes x)
before-lies outside s t bytes (Token x) =
    lies-in (length bytes) (length (take x.length bytes)) _ (taken x.length bytes) (before-size outside s t x.kind (take x.length bytes))
before-lies outside s t bytes NeedMore = tt
before-lies outside s t bytes (BadToken r) = tt

if-lies : (n : ℕ) (t : Bool) (x y : Result Piece Reason) → Lies n x → Lies n y → Lies n (if t then x else y)
if-lies n true x y p q = p
if-lies n false x y p q = q

answer-lies : (n : ℕ) (bytes : List ℕ) (x : Result (Syntax × ℕ) DeclError) → AnswerSize n x → n ≤ length bytes → Lies (length bytes) (sgml_of bytes x)
answer-lies n bytes (Err e) w l = tt
answer-lies n bytes (Ok a) w l = if-lies (length bytes) (all_sgml (take a.1 bytes)) (Ok (sized a.1 (Sgml a.0))) (Err reason.NonSgml) (omega (arith, w, l)) tt

outcome-lies : (bytes : List ℕ) (o : Outcome) → SizeWithin (length bytes) o → Lies (length bytes) (sgml_by bytes o)
outcome-lies bytes (bad at) w = tt
outcome-lies bytes (whole h n) w = answer-lies n bytes (answer h n) (answer-size (refusal_of h) h n) w

sgml-lies : (bytes : List ℕ) → Lies (length bytes) (sgml_piece bytes)
unfolding sgml_piece
sgml-lies bytes = outcome-lies bytes (run 0 begin_state bytes) (sgml-within bytes)

lies-more : (m n : ℕ) (x : Result Piece Reason) → m ≤ n → Lies m x → Lies n x
lies-more m n (Ok p) l h = omega (arith, l, h)
lies-more m n (Err r) l h = tt

bad-lies : (bytes : List ℕ) (r : Reason) → Lies (length bytes) (sgml_bad bytes r)
bad-lies bytes reason.Unclosed = sgml-lies bytes
bad-lies bytes _ = tt

sgml-token-lies : (bytes : List ℕ) (x : Scanned) → Lies (length bytes) (sgml_by_token bytes x)
sgml-token-lies bytes (Token x) = lies-more (length (take x.length bytes)) (length bytes) (sgml_piece (take x.length bytes)) (taken x.length bytes) (sgml-lies (take x.length bytes))
sgml-token-lies bytes NeedMore = tt
sgml-token-lies bytes (BadToken r) = bad-lies bytes r

start-lies : (t : Bool) (outside : Outside) (s : State) (u : Stacked) (bytes : List ℕ) → Lies (length bytes) (at_beginning t outside s u bytes)
start-lies true outside s u bytes = sgml-token-lies bytes (token_here s u bytes)
start-lies false outside s u bytes = before-lies outside s u bytes (token_here s u bytes)

stage-lies : (outside : Outside) (s : State) (t : Stacked) (bytes : List ℕ) (g : Stage) → Lies (length bytes) (by_stage outside s t bytes g)
stage-lies outside s t bytes BeforeSyntax = before-lies outside s t bytes (token_here s t bytes)
stage-lies outside s t bytes AtBeginning = start-lies (begins_sgml s.context.doctype.syntax.names bytes) outside s t bytes
stage-lies outside s t bytes BeforeDoctype = before-lies outside s t bytes (token_here s t bytes)
stage-lies outside s t bytes InSubset = token-lies outside s t bytes (token_here s t bytes)
stage-lies outside s t bytes AfterSubset = token-lies outside s t bytes (token_here s t bytes)

document-lies : (g : Stage) (t : Bool) → Lies 0 (document_end g t)
document-lies BeforeSyntax t = tt
document-lies AtBeginning t = tt
document-lies BeforeDoctype t = tt
document-lies InSubset t = tt
document-lies AfterSubset true = tt
document-lies AfterSubset false = omega arith

entity-lies : (s : State) (e : ℕ) (t : Bool) → Lies 0 (entity_end s e t)
entity-lies s e true = tt
entity-lies s e false = lies-in 0 0 (unless_reason (type_end e s.context.doctype) (sized 0 EntityEnd)) (omega arith) (unless-size 0 (type_end e s.context.doctype) (sized 0 EntityEnd) refl)

end-lies : (s : State) (n : ℕ) → Lies 0 (text_end s n)
end-lies s n =
    if-lies 0 (n == 0) (document_end s.stage (in_section s.texts s.sections)) (entity_end s n (in_section s.texts s.sections))
    (document-lies s.stage (in_section s.texts s.sections)) (entity-lies s n (in_section s.texts s.sections))

in-lies : (outside : Outside) (s : State) (t : Stacked) (n : ℕ) (bytes : List ℕ) → Lies (length bytes) (spelled_in outside s t n bytes)
in-lies outside s t n [] = end-lies s n
in-lies outside s t n (b ∷ bytes) =
    if-lies (length (b ∷ bytes)) (is_early_end s.stage b) (Err reason.NoDoctype) (by_stage outside s t (b ∷ bytes) s.stage) tt (stage-lies outside s t (b ∷ bytes) s.stage)

of-lies : (outside : Outside) (s : State) (t : Stacked) (rs : List Rest) → Lies (length_of_first rs) (spelled_of outside s t rs)
of-lies outside s t [] = tt
of-lies outside s t (r ∷ rs) = in-lies outside s t r.entity r.bytes

lies-ok : (n : ℕ) (x : Result Piece Reason) (p : Piece) → Lies n x → x ≡ Ok p → p.size ≤ n
lies-ok n x p l e = subst (Lies n) e l

pub spelled-within : (outside : Outside) (s : State) (t : Standing) (p : Piece) → spelled outside s t ≡ Ok p → p.size ≤ length_of_first t.rests
unfolding spelled
spelled-within outside s t p f = lies-ok (length_of_first t.rests) (spelled_of outside s (stacked t) t.rests) p (of-lies outside s (stacked t) t.rests) f

-- THE LAW
pub decides : Decides forms
decides = record {
  same = λ outside s t bytes e. same-spelled outside s t bytes e;
  stays = λ outside s t bytes e. decided-more outside s t bytes e;
  within = λ outside s t p e f. spelled-within outside s t p f;
}
