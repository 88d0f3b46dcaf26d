-- What is told of a place is what is spelled there.
use Rattle.std.proofs.Common.{◌≡◌, ℕ, zero, suc, Bool, true, false, not, ◌&&◌, ◌||◌, ◌==◌, ◌+◌, ◌-◌, ◌<◌, ◌≤◌, List, [], ◌∷◌, ◌++◌, Option, None, Some, Result, Err, length, drop, take, map, refl, sym, ◌∙◌, ap, subst, if◌then◌else◌, arith, rules, tests, nat_lt, eqb-true, eq-eqb}
use Rattle.std.specs.Prelude.{slice_index_or, reverse, option_map, slice_get, unwrap_or, codes}
use Rattle.std.specs.List.{list_any}
use Rattle.std.proofs.lemmas.List.Sums.{prefix_len-le-length}
use Rattle.sgml_text.specs.NameCharacters.{is_name_character}
use Rattle.sgml_decl_lexemes.specs.decl_parts.Bytes.{name_length}
use Rattle.std.proofs.lemmas.List.{length-drop, reverse-reverse, reverse-append, length-append}
use Rattle.sgml_text.specs.declared.place.Place.{Place}
use Rattle.sgml_text.specs.declared.name_set.NameSet.{NameSet}
use Rattle.sgml_text.specs.declared.reason.Reason.{Reason}
use Rattle.sgml_text.specs.declared.reason.Reason.TheVariants as reason
use Rattle.sgml_text.specs.Characters.{is_separator, is_sgml_character, all_sgml}
use Rattle.sgml_entity.specs.Stack.{moved, offset_of}
use Rattle.sgml_decl_lexemes.specs.Readings.{entity_of}
use Rattle.sgml_decl_lexemes.specs.Sources.{text_at, or_empty}
use Rattle.sgml_decl_lexemes.specs.Declares.{is_some, is_begun}
use Rattle.sgml_decl_lexemes.specs.Declares as declares
use Rattle.sgml_decl_lexemes.specs.decl_parts.declared.ends.Construct.{Construct}
use Rattle.sgml_decl_lexemes.specs.decl_parts.declared.ends.Construct.TheVariants as construct
use Rattle.sgml_decl_lexemes.specs.decl_parts.Ends.{construct_end}
use Rattle.sgml_delim.specs.Ends.{later}
use Rattle.sgml_markup.specs.declared.kinds.Form.{Form}
use Rattle.sgml_markup.specs.declared.kinds.Form.TheVariants as form
use Rattle.sgml_markup.specs.Ends.{end_of}
use Rattle.sgml_markup.specs.Forms.{before}
use Rattle.sgml_delim.specs.declared.delim.Mode.{Mode}
use Rattle.sgml_delim.specs.declared.delim.Mode.TheVariants as mode
use Rattle.sgml_delim.specs.declared.delim.Verdict.{Verdict}
use Rattle.sgml_delim.specs.declared.delim.Verdict.TheVariants.{Holds, Fails, Undecided}
use Rattle.sgml_delim.specs.Tables.{begins}
use Rattle.sgml_delim.proofs.Deciding.{nil-of, head-drop}
use Rattle.sgml_delim.specs.Verdicts.{prefix_verdict}
use Rattle.sgml_marked.specs.declared.status.Status.{Status}
use Rattle.sgml_marked.specs.declared.status.Status.TheVariants as status
use Rattle.sgml_marked.specs.declared.sections.Section.{Section}
use Rattle.sgml_markup.specs.declared.kinds.TokenKind.{TokenKind}
use Rattle.sgml_markup.specs.declared.kinds.TokenKind.TheVariants as kind
use Rattle.sgml_scan.specs.declared.classes.Run.{Run}
use Rattle.sgml_scan.specs.declared.classes.Run.TheVariants as run
use Rattle.sgml_scan.specs.declared.state.Token.{Token}
use Rattle.sgml_scan.specs.declared.state.Scanned.{Scanned}
use Rattle.sgml_scan.specs.declared.state.Scanned.TheVariants as scanned
use Rattle.sgml_scan.specs.declared.classes.Class.TheVariants as class
use Rattle.sgml_scan.specs.Classes.{run_kind, is_scanned, run_of, stretch_at, is_data}
use Rattle.sgml_scan.proofs.Runs.{scanned-stretch}
use Rattle.sgml_scan.proofs.Lawful.{scanned-within}
use Rattle.sgml_scan.specs.Tokens.{token, IsScanned}
use Rattle.sgml_scan.specs.Decided.{token_decided}
use Rattle.sgml_declared.specs.theory_reading.Facets.{Stage, subset_number}
use Rattle.sgml_declared.specs.theory_reading.Facets as stages
use Rattle.sgml_declared.specs.theory_reading.Names.{Text}
use Rattle.sgml_declared.specs.theory_reading.Pieces.{Piece}
use Rattle.sgml_declared.specs.theory_reading.Unread.{Outside}
use Rattle.sgml_declared.specs.theory_reading.State.{State}
use Rattle.sgml_declared.specs.theory_reading.Reads.{is_after_subset}
use Rattle.sgml_declared.specs.theory_spelling.Stacked.{Stacked}
use Rattle.sgml_declared.specs.theory_spelling.Tokens.{token_at}
use Rattle.sgml_declared.specs.theory_spelling.Places.{in_doctype, mode_of_status, section_mode, mode_at, scan_state, map_at, is_map}
use Rattle.sgml_declared.specs.theory_spelling.Prolog.{piece_before, subset_piece, reason_before, in_document}
use Rattle.sgml_declared.specs.theory_spelling.Spelled.{token_here, by_token_before, by_token, by_stage, spelled_in, piece_in, bad_reason, at_beginning, sgml_by_token}
use Rattle.sgml_declared.specs.theory_spelling.Decided.{decided_bytes, decided_token, beginning_decided, is_before, is_early_end, is_at_beginning}
use Rattle.sgml_declared.specs.theory_spelling.Content.{first_of}
use Rattle.sgml_declared.specs.theory_spelling.SgmlDeclared.{begins_sgml, has_keyword, keyword_ends, sgml_piece}
use Rattle.sgml_declared.specs.theory_reading.Context.{at_start}
use Rattle.sgml_declared.specs.theory_reading.ShortTags.{net_in_force}
use Rattle.sgml_declared.specs.theory_standing.Kept.{Kept}
use Rattle.sgml_declared.specs.theory_standing.Prologs.{state_in_prolog, is_over}
use Rattle.sgml_declared.specs.Taking.{stacked_on, Ends}
use Rattle.sgml_prolog_steps.specs.Standing.{LiesUnder, SubsetLiesUnder, IsKept}
use Rattle.sgml_prolog_steps.specs.Telling.{mode_in, scanned_in, told_before, told_inside, told_sgml, piece_length, begins_end, is_unsure, at_end}
use Rattle.sgml_prolog_steps.specs.Found.{rest_in, may_grow, mode_of, moved_on, piece_of, IsSpelled, is_each, IsPiece, SectionEnds, IsWhole, IsTokenThere, IsSgmlThere, innermost, IsScannedIn, IsFoundIf, IsFoundAtBeginning, IsFound}
use Rattle.sgml_prolog_steps.specs.declared.found.Found.{Found}
use Rattle.sgml_prolog_steps.specs.declared.found.Found.TheVariants as found
use Rattle.sgml_prolog_steps.proofs.Top.{apart, spelled-at-top, decided-by-bytes, undecided-by-bytes}
use Rattle.sgml_prolog_steps.proofs.Scanned.{IsOther, Known, known, stretch-known, needs-more}
use Rattle.sgml_prolog_steps.proofs.Whole.{IsOfProlog, IsMarkup, IsWholeIn, scanned-whole}

-- THE STATE OF SCANNING: the mode of the innermost section, else that of the document type

get-last : {X : Type 0} (xs : List X) (y : X) → slice_get (xs ++ y ∷ []) (length xs) ≡ Some y
get-last [] y = refl
get-last (x ∷ xs) y = get-last xs y

last-of : (ss : List Section) (s : Section) → innermost (ss ++ s ∷ []) ≡ Some s.status
last-of ss s =
    let size : length (ss ++ s ∷ []) - 1 ≡ length ss = let e = length-append ss (s ∷ []) in omega (arith, e) in
    ap (λ n. option_map (λ (x : Section). x.status) (slice_get (ss ++ s ∷ []) n)) size ∙ ap (option_map (λ (x : Section). x.status)) (get-last ss s)

-- the innermost is the first of the reversed list
abbrev status_first : List Section → Option Status
status_first [] = None
status_first (s ∷ ss) = Some s.status

innermost-first : (rs : List Section) → innermost (reverse rs) ≡ status_first rs
innermost-first [] = refl
innermost-first (s ∷ rs) = ap innermost (reverse-append (s ∷ []) rs) ∙ last-of (reverse rs) s

section-mode : (rs : List Section) → unwrap_or (section_mode rs) mode.Ds ≡ mode_in (status_first rs)
section-mode [] = refl
section-mode (s ∷ rs) = by s.status
  where
    by : (x : Status) → unwrap_or (mode_of_status x) mode.Ds ≡ mode_in (Some x)
    by status.Ignore = refl
    by status.Cdata = refl
    by status.Rcdata = refl
    by status.Include = refl

section-mode-is : (ss : List Section) → unwrap_or (section_mode (reverse ss)) mode.Ds ≡ mode_in (innermost ss)
section-mode-is ss =
    section-mode (reverse ss) ∙ ap mode_in (sym (innermost-first (reverse ss)) ∙ ap innermost (reverse-reverse ss))

two-not-one : (n : ℕ) → (suc (suc n) == 1) ≡ false
two-not-one n = search (rules, tests)

-- the external subset is among the texts that are open
subset-on : (ps : List Place) → SubsetLiesUnder ps → (length ps == 1) ≡ false → LiesUnder ps → list_any (λ n. n == subset_number) (map (λ (p : Place). p.entity) ps) ≡ true
subset-on [] h l u = absurd u
subset-on (p ∷ []) h l u = absurd (never l)
  where
    never : true ≡ false → ⊥
    never l = cc
subset-on (p ∷ q ∷ []) h l u = ap (λ t. t || list_any (λ n. n == subset_number) (q.entity ∷ [])) (eq-eqb p.entity subset_number h)
subset-on (p ∷ q ∷ r ∷ ps) h l u = or-right (p.entity == subset_number) _ (subset-on (q ∷ r ∷ ps) h (two-not-one (length ps)) u.1)
  where
    or-right : (a b : Bool) → b ≡ true → (a || b) ≡ true
    or-right true b e = refl
    or-right false b e = e

in-type : (g : Stage) (n : ℕ) (ps : List Place) → LiesUnder ps → (is_after_subset g ≡ true → SubsetLiesUnder ps)
    → (is_after_subset g && (length ps == 1)) ≡ false → in_doctype g (map (λ (p : Place). p.entity) ps) ≡ true
in-type stages.AfterSubset n ps u h e = subset-on ps (h refl) e u
in-type stages.BeforeSyntax n ps u h e = refl
in-type stages.AtBeginning n ps u h e = refl
in-type stages.BeforeDoctype n ps u h e = refl
in-type stages.InSubset n ps u h e = refl

pub in-doctype : (k : Kept) → IsKept k → is_over k ≡ false → in_doctype k.stage (stacked_on k.stack).entities ≡ true
in-doctype k h e = in-type k.stage 0 k.stack.places h.document h.after e

pub mode-is : (k : Kept) → IsKept k → is_over k ≡ false → mode_of k ≡ mode_in (innermost k.sections)
unfolding mode_at state_in_prolog
mode-is k h e =
    ap (λ t. unwrap_or (section_mode (reverse k.sections)) (if t then mode.Ds else mode.Con)) (in-doctype k h e) ∙ section-mode-is k.sections

no-net : (k : Kept) → net_in_force (state_in_prolog k).context ≡ false
unfolding net_in_force state_in_prolog
no-net k = refl

no-map : (k : Kept) → is_map (map_at (state_in_prolog k)) ≡ false
unfolding map_at state_in_prolog
no-map k = refl

pub scan-state-is : (k : Kept) → IsKept k → is_over k ≡ false → scan_state (state_in_prolog k) (stacked_on k.stack).entities ≡ scanned_in (mode_in (innermost k.sections))
scan-state-is k h e = λ i. record { mode = mode-is k h e i; net = no-net k i; maps = no-map k i }

pub of-prolog : (o : Option Status) → IsOfProlog (mode_in o)
of-prolog None = tt
of-prolog (Some status.Ignore) = tt
of-prolog (Some status.Cdata) = tt
of-prolog (Some status.Rcdata) = tt
of-prolog (Some status.Include) = tt

prolog-scanned : (o : Option Status) → is_scanned (mode_in o) ≡ true
prolog-scanned None = refl
prolog-scanned (Some status.Ignore) = refl
prolog-scanned (Some status.Cdata) = refl
prolog-scanned (Some status.Rcdata) = refl
prolog-scanned (Some status.Include) = refl

-- MOVED in the text at the top, the state is the same
places-moved : (n : ℕ) (ps : List Place) → map (λ (p : Place). p.entity) (moved n ps) ≡ map (λ (p : Place). p.entity) ps
places-moved n [] = refl
places-moved n (p ∷ ps) = refl

length-moved : (n : ℕ) (ps : List Place) → length (moved n ps) ≡ length ps
length-moved n [] = refl
length-moved n (p ∷ ps) = refl

entity-moved : (n : ℕ) (ps : List Place) → entity_of (moved n ps) ≡ entity_of ps
entity-moved n [] = refl
entity-moved n (p ∷ ps) = refl

lies-moved : (n : ℕ) (ps : List Place) → LiesUnder ps → LiesUnder (moved n ps)
lies-moved n [] h = h
lies-moved n (p ∷ []) h = h
lies-moved n (p ∷ q ∷ ps) h = h

pub state-moved : (n : ℕ) (k : Kept) → state_in_prolog (moved_on n k) ≡ state_in_prolog k
unfolding state_in_prolog
state-moved n k = λ i. record {
  context = at_start k.doctype;
  record_ends = [];
  ended = None;
  sections = reverse k.sections;
  texts = length-moved n k.stack.places i;
  map_settings = [];
  currents = λ e a. None;
  stage = k.stage;
  subset = k.subset;
}

pub stacked-moved : (n : ℕ) (k : Kept) → stacked_on (moved_on n k).stack ≡ stacked_on k.stack
stacked-moved n k = ap (λ ns. record { entities = ns; spent = k.stack.spent }) (places-moved n k.stack.places)

nil : List ℕ
nil = []

drop-none : (n : ℕ) → drop n nil ≡ nil
unfolding nil
drop-none zero = refl
drop-none (suc n) = refl

drop-empty : (n : ℕ) → drop {A = ℕ} n [] ≡ []
unfolding nil
drop-empty n = drop-none n

drop-drop : (i n : ℕ) (xs : List ℕ) → drop (n + i) xs ≡ drop i (drop n xs)
drop-drop i zero xs = let e : 0 + i ≡ i = omega arith in ap (λ n. drop n xs) e
drop-drop i (suc n) [] = drop-empty (suc n + i) ∙ sym (drop-empty i)
drop-drop i (suc n) (x ∷ xs) = let e : suc n + i ≡ suc (n + i) = omega arith in ap (λ m. drop m (x ∷ xs)) e ∙ drop-drop i n xs

pub rest-moved : (i : ℕ) (k : Kept) (texts : List (ℕ × Text)) → LiesUnder k.stack.places → rest_in (moved_on i k) texts ≡ drop i (rest_in k texts)
rest-moved i k texts h = by k.stack.places h
  where
    by : (ps : List Place) → LiesUnder ps
        → drop (offset_of (moved i ps)) (or_empty (text_at k.doctype.entities texts (entity_of (moved i ps)))) ≡ drop i (drop (offset_of ps) (or_empty (text_at k.doctype.entities texts (entity_of ps))))
    by [] h = absurd h
    by (p ∷ ps) h = drop-drop i p.at (or_empty (text_at k.doctype.entities texts p.entity))

grows-moved : (i : ℕ) (k : Kept) (ended : Bool) → may_grow (moved_on i k) ended ≡ may_grow k ended
grows-moved i k ended = ap (λ n. (n == 0) && not ended) (entity-moved i k.stack.places)

-- SPELLED AT A PLACE further on in the text at the top
pub record IsSpelledAt (outside : Outside) (k : Kept) (ended : Bool) (bytes : List ℕ) (answer : Result Piece Reason) : Type 0 where
  pub decided : may_grow k ended ≡ true → decided_bytes (state_in_prolog k) (stacked_on k.stack) bytes ≡ true
  pub spelled : spelled_in outside (state_in_prolog k) (stacked_on k.stack) (entity_of k.stack.places) bytes ≡ answer

pub moved-spelled : (outside : Outside) (k : Kept) (texts : List (ℕ × Text)) (ended : Bool) (i : ℕ) (answer : Result Piece Reason) → LiesUnder k.stack.places
    → IsSpelledAt outside k ended (drop i (rest_in k texts)) answer → IsSpelled outside (moved_on i k) texts ended answer
moved-spelled outside k texts ended i answer l h =
    let under = lies-moved i k.stack.places l in
    record {
      decided = decided-by-bytes outside (state_in_prolog (moved_on i k)) (moved_on i k) texts ended under
          (λ g. (λ j. decided_bytes (state-moved i k j) (stacked-moved i k j) (rest-moved i k texts l j)) ∙ h.decided (sym (grows-moved i k ended) ∙ g));
      spelled = spelled-at-top outside (state_in_prolog (moved_on i k)) (moved_on i k) texts under
          ∙ (λ j. spelled_in outside (state-moved i k j) (stacked-moved i k j) (entity-moved i k.stack.places j) (rest-moved i k texts l j))
          ∙ h.spelled;
    }

pub here-spelled : (outside : Outside) (k : Kept) (texts : List (ℕ × Text)) (ended : Bool) (answer : Result Piece Reason) → LiesUnder k.stack.places
    → IsSpelledAt outside k ended (rest_in k texts) answer → IsSpelled outside k texts ended answer
here-spelled outside k texts ended answer l h = record {
  decided = decided-by-bytes outside (state_in_prolog k) k texts ended l h.decided;
  spelled = spelled-at-top outside (state_in_prolog k) k texts l ∙ h.spelled;
}

-- IN EACH STAGE

inside-spelled : (outside : Outside) (s : State) (t : Stacked) (n b : ℕ) (bytes : List ℕ) → is_before s.stage ≡ false
    → spelled_in outside s t n (b ∷ bytes) ≡ by_token outside s t (b ∷ bytes) (token_here s t (b ∷ bytes))
inside-spelled outside s t n b bytes e = by s.stage e
  where
    by : (g : Stage) → is_before g ≡ false
        → (if is_early_end g b then Err reason.NoDoctype else by_stage outside s t (b ∷ bytes) g) ≡ by_token outside s t (b ∷ bytes) (token_here s t (b ∷ bytes))
    by stages.InSubset e = refl
    by stages.AfterSubset e = refl
    by stages.BeforeSyntax e = apart true refl e
    by stages.AtBeginning e = apart true refl e
    by stages.BeforeDoctype e = apart true refl e

inside-decided : (s : State) (t : Stacked) (b : ℕ) (bytes : List ℕ) → is_before s.stage ≡ false → decided_bytes s t (b ∷ bytes) ≡ decided_token s t (b ∷ bytes)
inside-decided s t b bytes e = by s.stage e
  where
    by : (g : Stage) → is_before g ≡ false
        → (if is_early_end g b then true else if is_at_beginning g then beginning_decided s.context.doctype.syntax.names (b ∷ bytes) (decided_token s t (b ∷ bytes)) (prefix_verdict (codes "<!") (b ∷ bytes)) else decided_token s t (b ∷ bytes))
        ≡ decided_token s t (b ∷ bytes)
    by stages.InSubset e = refl
    by stages.AfterSubset e = refl
    by stages.BeforeSyntax e = apart true refl e
    by stages.AtBeginning e = apart true refl e
    by stages.BeforeDoctype e = apart true refl e

-- no `]` stands there
before-spelled : (outside : Outside) (s : State) (t : Stacked) (n b : ℕ) (bytes : List ℕ) → s.stage ≡ stages.BeforeDoctype → (b == 93) ≡ false
    → spelled_in outside s t n (b ∷ bytes) ≡ by_token_before outside s t (b ∷ bytes) (token_here s t (b ∷ bytes))
before-spelled outside s t n b bytes e f =
    ap (λ g. if is_early_end g b then Err reason.NoDoctype else by_stage outside s t (b ∷ bytes) g) e
    ∙ ap (λ c. if c then Err reason.NoDoctype else by_token_before outside s t (b ∷ bytes) (token_here s t (b ∷ bytes))) f

before-decided : (s : State) (t : Stacked) (b : ℕ) (bytes : List ℕ) → s.stage ≡ stages.BeforeDoctype → (b == 93) ≡ false → decided_bytes s t (b ∷ bytes) ≡ decided_token s t (b ∷ bytes)
before-decided s t b bytes e f =
    ap (λ g. if is_early_end g b then true else if is_at_beginning g then beginning_decided s.context.doctype.syntax.names (b ∷ bytes) (decided_token s t (b ∷ bytes)) (prefix_verdict (codes "<!") (b ∷ bytes)) else decided_token s t (b ∷ bytes)) e
    ∙ ap (λ c. if c then true else decided_token s t (b ∷ bytes)) f

-- at the beginning, by the `<!`
first-spelled : (outside : Outside) (s : State) (t : Stacked) (n b : ℕ) (bytes : List ℕ) → s.stage ≡ stages.AtBeginning → (b == 93) ≡ false
    → spelled_in outside s t n (b ∷ bytes) ≡ at_beginning (begins_sgml s.context.doctype.syntax.names (b ∷ bytes)) outside s t (b ∷ bytes)
first-spelled outside s t n b bytes e f =
    ap (λ g. if is_early_end g b then Err reason.NoDoctype else by_stage outside s t (b ∷ bytes) g) e
    ∙ ap (λ c. if c then Err reason.NoDoctype else at_beginning (begins_sgml s.context.doctype.syntax.names (b ∷ bytes)) outside s t (b ∷ bytes)) f

first-decided : (s : State) (t : Stacked) (b : ℕ) (bytes : List ℕ) → s.stage ≡ stages.AtBeginning → (b == 93) ≡ false
    → decided_bytes s t (b ∷ bytes) ≡ beginning_decided s.context.doctype.syntax.names (b ∷ bytes) (decided_token s t (b ∷ bytes)) (prefix_verdict (codes "<!") (b ∷ bytes))
first-decided s t b bytes e f =
    ap (λ g. if is_early_end g b then true else if is_at_beginning g then beginning_decided s.context.doctype.syntax.names (b ∷ bytes) (decided_token s t (b ∷ bytes)) (prefix_verdict (codes "<!") (b ∷ bytes)) else decided_token s t (b ∷ bytes)) e
    ∙ ap (λ c. if c then true else beginning_decided s.context.doctype.syntax.names (b ∷ bytes) (decided_token s t (b ∷ bytes)) (prefix_verdict (codes "<!") (b ∷ bytes))) f

-- THE TOKEN in the state of the reader
pub record KnownHere (k : Kept) (grows : Bool) (bytes : List ℕ) (x : Scanned) : Type 0 where
  pub is : token_here (state_in_prolog k) (stacked_on k.stack) bytes ≡ x
  pub decided : grows ≡ true → decided_token (state_in_prolog k) (stacked_on k.stack) bytes ≡ true

to-here : (k : Kept) (grows : Bool) (bytes : List ℕ) (x : Scanned) → IsKept k → is_over k ≡ false
    → Known k.doctype.syntax (scanned_in (mode_in (innermost k.sections))) grows bytes x → KnownHere k grows bytes x
unfolding state_in_prolog
to-here k grows bytes x h e n = record {
  is = ap (λ st. token_at k.doctype.syntax st bytes) (scan-state-is k h e) ∙ n.is;
  decided = λ g. ap (λ st. token_decided k.doctype.syntax st bytes) (scan-state-is k h e) ∙ n.decided g;
}

-- what is told in the document type
first-of-head : (bytes : List ℕ) → (first_of bytes == 93) ≡ begins_end bytes
first-of-head [] = refl
first-of-head (b ∷ bytes) = refl

document-head : (ps : List Place) → LiesUnder ps → in_document (map (λ (p : Place). p.entity) ps) ≡ (entity_of ps == 0)
document-head [] h = absurd h
document-head (p ∷ ps) h = refl

bad-reason-is : (k : Kept) (bytes : List ℕ) (r : Reason) → LiesUnder k.stack.places
    → bad_reason (stacked_on k.stack).entities bytes r ≡ (if not (entity_of k.stack.places == 0) && begins_end bytes then reason.DeclarationSyntax else r)
bad-reason-is k bytes r l = λ i. if not (document-head k.stack.places l i) && first-of-head bytes i then reason.DeclarationSyntax else r

piece-inside : (outside : Outside) (k : Kept) (x : TokenKind) (own : Text) → is_before k.stage ≡ false → IsKept k → is_over k ≡ false
    → piece_in (in_doctype k.stage (stacked_on k.stack).entities) outside (state_in_prolog k) (stacked_on k.stack) (mode_of k) x own ≡ piece_of outside k x own
piece-inside outside k x own b h e =
    ap (λ t. piece_in t outside (state_in_prolog k) (stacked_on k.stack) (mode_of k) x own) (in-doctype k h e)
    ∙ sym (ap (λ t. if t then piece_before outside (state_in_prolog k) (stacked_on k.stack) x own else subset_piece outside (state_in_prolog k) (stacked_on k.stack) (mode_of k) x own) b)

inside-token : (outside : Outside) (k : Kept) (ended : Bool) (b : ℕ) (bytes : List ℕ) (x : Token) → is_before k.stage ≡ false → IsKept k → is_over k ≡ false
    → KnownHere k (may_grow k ended) (b ∷ bytes) (scanned.Token x) → IsSpelledAt outside k ended (b ∷ bytes) (piece_of outside k x.kind (take x.length (b ∷ bytes)))
unfolding state_in_prolog
inside-token outside k ended b bytes x before h e n = record {
  decided = λ g. inside-decided (state_in_prolog k) (stacked_on k.stack) b bytes before ∙ n.decided g;
  spelled = inside-spelled outside (state_in_prolog k) (stacked_on k.stack) (entity_of k.stack.places) b bytes before
      ∙ ap (by_token outside (state_in_prolog k) (stacked_on k.stack) (b ∷ bytes)) n.is
      ∙ piece-inside outside k x.kind (take x.length (b ∷ bytes)) before h e;
}

inside-bad : (outside : Outside) (k : Kept) (ended : Bool) (b : ℕ) (bytes : List ℕ) (r : Reason) → is_before k.stage ≡ false → IsKept k → is_over k ≡ false
    → KnownHere k (may_grow k ended) (b ∷ bytes) (scanned.BadToken r)
    → IsSpelledAt outside k ended (b ∷ bytes) (Err (if not (entity_of k.stack.places == 0) && begins_end (b ∷ bytes) then reason.DeclarationSyntax else r))
unfolding state_in_prolog
inside-bad outside k ended b bytes r before h e n = record {
  decided = λ g. inside-decided (state_in_prolog k) (stacked_on k.stack) b bytes before ∙ n.decided g;
  spelled = inside-spelled outside (state_in_prolog k) (stacked_on k.stack) (entity_of k.stack.places) b bytes before
      ∙ ap (by_token outside (state_in_prolog k) (stacked_on k.stack) (b ∷ bytes)) n.is
      ∙ ap Err (bad-reason-is k (b ∷ bytes) r h.document);
}

-- and before it
piece-before : (outside : Outside) (k : Kept) (x : TokenKind) (own : Text) → is_before k.stage ≡ true
    → piece_before outside (state_in_prolog k) (stacked_on k.stack) x own ≡ piece_of outside k x own
piece-before outside k x own b =
    sym (ap (λ t. if t then piece_before outside (state_in_prolog k) (stacked_on k.stack) x own else subset_piece outside (state_in_prolog k) (stacked_on k.stack) (mode_of k) x own) b)

-- BEFORE THE DOCUMENT TYPE, where no SGML declaration begins

-- more of the bytes decides nothing there: their keyword is there, or they begin with no `<!`
abbrev pub IsSure : Kept → Bool → List ℕ → Type 0
IsSure k grows bytes = grows ≡ true → (decided_token (state_in_prolog k) (stacked_on k.stack) bytes ≡ true) → decided_bytes (state_in_prolog k) (stacked_on k.stack) bytes ≡ true

-- what is spelled by the token before the document type
abbrev pub BeforeIs : Kept → List ℕ → Type 0
BeforeIs k bytes = (outside : Outside) →
    spelled_in outside (state_in_prolog k) (stacked_on k.stack) (entity_of k.stack.places) bytes
    ≡ by_token_before outside (state_in_prolog k) (stacked_on k.stack) bytes (token_here (state_in_prolog k) (stacked_on k.stack) bytes)

before-token : (outside : Outside) (k : Kept) (ended : Bool) (bytes : List ℕ) (x : Token) → is_before k.stage ≡ true → BeforeIs k bytes → IsSure k (may_grow k ended) bytes
    → KnownHere k (may_grow k ended) bytes (scanned.Token x) → IsSpelledAt outside k ended bytes (piece_of outside k x.kind (take x.length bytes))
before-token outside k ended bytes x b is sure n = record {
  decided = λ g. sure g (n.decided g);
  spelled = is outside ∙ ap (by_token_before outside (state_in_prolog k) (stacked_on k.stack) bytes) n.is ∙ piece-before outside k x.kind (take x.length bytes) b;
}

before-bad : (outside : Outside) (k : Kept) (ended : Bool) (bytes : List ℕ) (r : Reason) → BeforeIs k bytes → IsSure k (may_grow k ended) bytes
    → KnownHere k (may_grow k ended) bytes (scanned.BadToken r) → IsSpelledAt outside k ended bytes (Err (reason_before k.doctype.syntax.names bytes r))
unfolding state_in_prolog
before-bad outside k ended bytes r is sure n = record {
  decided = λ g. sure g (n.decided g);
  spelled = is outside ∙ ap (by_token_before outside (state_in_prolog k) (stacked_on k.stack) bytes) n.is;
}

-- a `]` is refused at once, as any other character there
early-spelled : (outside : Outside) (k : Kept) (ended : Bool) (b : ℕ) (bytes : List ℕ) → is_before k.stage ≡ true → (b == 93) ≡ true → IsSpelledAt outside k ended (b ∷ bytes) (Err reason.NoDoctype)
unfolding state_in_prolog
early-spelled outside k ended b bytes e f = record {
  decided = λ g. ap (λ t. if t then true else if is_at_beginning k.stage then beginning_decided k.doctype.syntax.names (b ∷ bytes) (decided_token (state_in_prolog k) (stacked_on k.stack) (b ∷ bytes)) (prefix_verdict (codes "<!") (b ∷ bytes)) else decided_token (state_in_prolog k) (stacked_on k.stack) (b ∷ bytes)) (early e f);
  spelled = ap (λ t. if t then Err reason.NoDoctype else by_stage outside (state_in_prolog k) (stacked_on k.stack) (b ∷ bytes) k.stage) (early e f);
}
  where
    early : is_before k.stage ≡ true → (b == 93) ≡ true → is_early_end k.stage b ≡ true
    early e f = λ i. e i && f i

-- other bytes at the beginning: separators, and each that no `<` is
not-markup : (names : NameSet) (b : ℕ) (bytes : List ℕ) → (60 == b) ≡ false → (begins_sgml names (b ∷ bytes) ≡ false) × (prefix_verdict (codes "<!") (b ∷ bytes) ≡ Fails)
not-markup names b bytes e = (
  ap (λ t. (t && begins (33 ∷ []) bytes) && has_keyword names (codes "SGML") (b ∷ bytes)) e,
  ap (λ t. if t then prefix_verdict (33 ∷ []) bytes else Fails) e,
)

-- WHERE A TOKEN IS JUDGED as before the document type
pub record IsJudgedBefore (k : Kept) (ended : Bool) (bytes : List ℕ) : Type 0 where
  pub is : BeforeIs k bytes
  pub sure : IsSure k (may_grow k ended) bytes

judged-before : (k : Kept) (ended : Bool) (b : ℕ) (bytes : List ℕ) → k.stage ≡ stages.BeforeDoctype → (b == 93) ≡ false → IsJudgedBefore k ended (b ∷ bytes)
unfolding state_in_prolog
judged-before k ended b bytes e f = record {
  is = λ outside. before-spelled outside (state_in_prolog k) (stacked_on k.stack) (entity_of k.stack.places) b bytes e f;
  sure = λ g d. before-decided (state_in_prolog k) (stacked_on k.stack) b bytes e f ∙ d;
}

judged-plain : (k : Kept) (ended : Bool) (b : ℕ) (bytes : List ℕ) → k.stage ≡ stages.AtBeginning → (b == 93) ≡ false → (60 == b) ≡ false → IsJudgedBefore k ended (b ∷ bytes)
unfolding state_in_prolog
judged-plain k ended b bytes e f l = record {
  is = λ outside. first-spelled outside (state_in_prolog k) (stacked_on k.stack) (entity_of k.stack.places) b bytes e f
      ∙ ap (λ t. at_beginning t outside (state_in_prolog k) (stacked_on k.stack) (b ∷ bytes)) (not-markup k.doctype.syntax.names b bytes l).0;
  sure = λ g d. first-decided (state_in_prolog k) (stacked_on k.stack) b bytes e f
      ∙ ap (beginning_decided k.doctype.syntax.names (b ∷ bytes) (decided_token (state_in_prolog k) (stacked_on k.stack) (b ∷ bytes))) (not-markup k.doctype.syntax.names b bytes l).1 ∙ d;
}

-- at the very place, where no SGML declaration begins and the keyword is there
byte-is : (c b : ℕ) → (c == b) ≡ true → (b == c) ≡ true
byte-is c b e = eq-eqb b c (sym (eqb-true c b e))

both-true : (x y : Bool) → x ≡ true → y ≡ false → (x && y) ≡ false
both-true true y e f = f
both-true false y e f = refl

and-false : (x y : Bool) → x ≡ true → (x && y) ≡ false → y ≡ false
and-false true y e f = f
and-false false y e f = apart false e refl

less : (m n : ℕ) → m ≤ n → (m == n) ≡ false → nat_lt m n ≡ true
less m n l e = search (rules, tests)

if-holds : (x : Bool) (v : Verdict) → (if x then v else Fails) ≡ Holds → (x ≡ true) × (v ≡ Holds)
if-holds true v e = (refl, e)
if-holds false v e = absurd (never e)
  where
    never : Fails ≡ Holds → ⊥
    never e = cc

if-undecided : (x : Bool) (v : Verdict) → (if x then v else Fails) ≡ Undecided → (x ≡ true) × (v ≡ Undecided)
if-undecided true v e = (refl, e)
if-undecided false v e = absurd (never e)
  where
    never : Fails ≡ Undecided → ⊥
    never e = cc

keyword-there : (names : NameSet) (bytes : List ℕ) → is_unsure names bytes ≡ false → prefix_verdict (codes "<!") bytes ≡ Holds → keyword_ends names bytes ≡ true
keyword-there names [] u p = absurd (never p)
  where
    never : Undecided ≡ Holds → ⊥
    never e = cc
keyword-there names (a ∷ []) u p = absurd (never (if-holds (60 == a) Undecided p).1)
  where
    never : Undecided ≡ Holds → ⊥
    never e = cc
keyword-there names (a ∷ b ∷ bytes) u p =
    let first = if-holds (60 == a) (prefix_verdict (33 ∷ []) (b ∷ bytes)) p in
    let second = if-holds (33 == b) Holds first.1 in
    less (name_length names bytes) (length bytes) (prefix_len-le-length (is_name_character names) bytes)
    (and-false (b == 33) _ (byte-is 33 b second.0) (and-false (a == 60) _ (byte-is 60 a first.0) u))

never-unsure : (names : NameSet) (b : ℕ) (bytes : List ℕ) → is_unsure names (b ∷ bytes) ≡ false → prefix_verdict (codes "<!") (b ∷ bytes) ≡ Undecided → ⊥
never-unsure names a [] u p = apart (a == 60) (byte-is 60 a (if-undecided (60 == a) Undecided p).0) u
never-unsure names a (b ∷ bytes) u p = never (if-undecided (33 == b) Holds (if-undecided (60 == a) (prefix_verdict (33 ∷ []) (b ∷ bytes)) p).1).1
  where
    never : Holds ≡ Undecided → ⊥
    never e = cc

judged-first : (k : Kept) (ended : Bool) (b : ℕ) (bytes : List ℕ) → k.stage ≡ stages.AtBeginning → (b == 93) ≡ false → begins_sgml k.doctype.syntax.names (b ∷ bytes) ≡ false
    → (may_grow k ended ≡ true → is_unsure k.doctype.syntax.names (b ∷ bytes) ≡ false) → IsJudgedBefore k ended (b ∷ bytes)
unfolding state_in_prolog
judged-first k ended b bytes e f n u = record {
  is = λ outside. first-spelled outside (state_in_prolog k) (stacked_on k.stack) (entity_of k.stack.places) b bytes e f
      ∙ ap (λ t. at_beginning t outside (state_in_prolog k) (stacked_on k.stack) (b ∷ bytes)) n;
  sure = λ g d. first-decided (state_in_prolog k) (stacked_on k.stack) b bytes e f ∙ by (prefix_verdict (codes "<!") (b ∷ bytes)) refl (u g) d;
}
  where
    by : (v : Verdict) → prefix_verdict (codes "<!") (b ∷ bytes) ≡ v → is_unsure k.doctype.syntax.names (b ∷ bytes) ≡ false
        → decided_token (state_in_prolog k) (stacked_on k.stack) (b ∷ bytes) ≡ true
        → beginning_decided k.doctype.syntax.names (b ∷ bytes) (decided_token (state_in_prolog k) (stacked_on k.stack) (b ∷ bytes)) v ≡ true
    by Holds p u d = λ i. keyword-there k.doctype.syntax.names (b ∷ bytes) u p i && d i
    by Fails p u d = d
    by Undecided p u d = absurd (never-unsure k.doctype.syntax.names b bytes u p)

-- and what is undecided there
unsure-undecided : (k : Kept) (b : ℕ) (bytes : List ℕ) → k.stage ≡ stages.AtBeginning → (b == 93) ≡ false → is_unsure k.doctype.syntax.names (b ∷ bytes) ≡ true
    → decided_bytes (state_in_prolog k) (stacked_on k.stack) (b ∷ bytes) ≡ false
unfolding state_in_prolog
unsure-undecided k b bytes e f u =
    first-decided (state_in_prolog k) (stacked_on k.stack) b bytes e f ∙ by b bytes (decided_token (state_in_prolog k) (stacked_on k.stack) (b ∷ bytes)) u
  where
    and-true : (x y : Bool) → (x && y) ≡ true → (x ≡ true) × (y ≡ true)
    and-true true y e = (refl, e)
    and-true false y e = apart false e refl

    same : (m n : ℕ) → (m == n) ≡ true → nat_lt m n ≡ false
    same m n e = search (rules, tests)

    by : (a : ℕ) (bytes : List ℕ) (t : Bool) → is_unsure k.doctype.syntax.names (a ∷ bytes) ≡ true
        → beginning_decided k.doctype.syntax.names (a ∷ bytes) t (prefix_verdict (codes "<!") (a ∷ bytes)) ≡ false
    by a [] t u = ap (λ c. beginning_decided k.doctype.syntax.names (a ∷ []) t (if c then Undecided else Fails)) (byte-is a 60 u)
    by a (b ∷ bytes) t u =
        let first = and-true (a == 60) _ u in
        let second = and-true (b == 33) _ first.1 in
        ap (λ c. beginning_decided k.doctype.syntax.names (a ∷ b ∷ bytes) t (if c then prefix_verdict (33 ∷ []) (b ∷ bytes) else Fails)) (byte-is a 60 first.0)
        ∙ ap (λ c. beginning_decided k.doctype.syntax.names (a ∷ b ∷ bytes) t (if c then Holds else Fails)) (byte-is b 33 second.0)
        ∙ ap (λ c. c && t) (same (name_length k.doctype.syntax.names bytes) (length bytes) second.1)

token-undecided : (k : Kept) (b : ℕ) (bytes : List ℕ) → k.stage ≡ stages.AtBeginning → (b == 93) ≡ false
    → decided_token (state_in_prolog k) (stacked_on k.stack) (b ∷ bytes) ≡ false → decided_bytes (state_in_prolog k) (stacked_on k.stack) (b ∷ bytes) ≡ false
unfolding state_in_prolog
token-undecided k b bytes e f d =
    first-decided (state_in_prolog k) (stacked_on k.stack) b bytes e f ∙ by (prefix_verdict (codes "<!") (b ∷ bytes)) d
  where
    and-none : (x y : Bool) → y ≡ false → (x && y) ≡ false
    and-none true y e = e
    and-none false y e = refl

    by : (v : Verdict) → decided_token (state_in_prolog k) (stacked_on k.stack) (b ∷ bytes) ≡ false
        → beginning_decided k.doctype.syntax.names (b ∷ bytes) (decided_token (state_in_prolog k) (stacked_on k.stack) (b ∷ bytes)) v ≡ false
    by Holds d = and-none (keyword_ends k.doctype.syntax.names (b ∷ bytes)) _ d
    by Fails d = d
    by Undecided d = refl

-- AN SGML DECLARATION may begin there
sgml-spelled : (outside : Outside) (k : Kept) (ended : Bool) (b : ℕ) (bytes : List ℕ) (x : Scanned) → k.stage ≡ stages.AtBeginning → (b == 93) ≡ false
    → begins_sgml k.doctype.syntax.names (b ∷ bytes) ≡ true → (may_grow k ended ≡ true → is_unsure k.doctype.syntax.names (b ∷ bytes) ≡ false)
    → KnownHere k (may_grow k ended) (b ∷ bytes) x → IsSpelledAt outside k ended (b ∷ bytes) (sgml_by_token (b ∷ bytes) x)
unfolding state_in_prolog
sgml-spelled outside k ended b bytes x e f n u h = record {
  decided = λ g. first-decided (state_in_prolog k) (stacked_on k.stack) b bytes e f ∙ by (prefix_verdict (codes "<!") (b ∷ bytes)) refl (u g) (h.decided g);
  spelled = first-spelled outside (state_in_prolog k) (stacked_on k.stack) (entity_of k.stack.places) b bytes e f
      ∙ ap (λ t. at_beginning t outside (state_in_prolog k) (stacked_on k.stack) (b ∷ bytes)) n
      ∙ ap (sgml_by_token (b ∷ bytes)) h.is;
}
  where
    by : (v : Verdict) → prefix_verdict (codes "<!") (b ∷ bytes) ≡ v → is_unsure k.doctype.syntax.names (b ∷ bytes) ≡ false
        → decided_token (state_in_prolog k) (stacked_on k.stack) (b ∷ bytes) ≡ true
        → beginning_decided k.doctype.syntax.names (b ∷ bytes) (decided_token (state_in_prolog k) (stacked_on k.stack) (b ∷ bytes)) v ≡ true
    by Holds p u d = λ i. keyword-there k.doctype.syntax.names (b ∷ bytes) u p i && d i
    by Fails p u d = d
    by Undecided p u d = absurd (never-unsure k.doctype.syntax.names b bytes u p)

-- TOKENS

-- the kinds of stretches
abbrev is_run : TokenKind → Bool
is_run kind.Chars = true
is_run kind.Separators = true
is_run _ = false

each-run : (t : Bool) (k : TokenKind) → is_each t k ≡ true → is_run k ≡ true
each-run t kind.Chars e = refl
each-run t kind.Separators e = refl
each-run t _ e = apart false e refl

one-run : (k : TokenKind) → is_each false k ≡ false → is_run k ≡ false
one-run kind.Chars e = apart true refl e
one-run kind.Separators e = apart true refl e
one-run _ e = refl

stretch-run : (k : TokenKind) → is_run k ≡ true → (q : Run) × (run_kind q ≡ k)
stretch-run kind.Chars e = (run.Chars, refl)
stretch-run kind.Separators e = (run.Separators, refl)
stretch-run _ e = apart false e refl

run-stretch : (q : Run) → is_run (run_kind q) ≡ true
run-stretch run.Chars = refl
run-stretch run.Separators = refl

kind-of : (k q : TokenKind) (m n : ℕ) → token k m ≡ token q n → k ≡ q
kind-of k q m n e = ap kind-in e
  where
    kind-in : Scanned → TokenKind
    kind-in (scanned.Token x) = x.kind
    kind-in _ = k

other-token : (k : TokenKind) (n : ℕ) → is_run k ≡ false → IsOther (token k n)
other-token k n e q m h = apart (is_run k) (ap is_run (kind-of k (run_kind q) n m h) ∙ run-stretch q) e

no-more : (k : TokenKind) (n : ℕ) → token k n ≡ scanned.NeedMore → ⊥
no-more k n e = cc

bad-other : (r : Reason) → IsOther (scanned.BadToken r)
bad-other r q n e = cc

bad-no-more : (r : Reason) → scanned.BadToken r ≡ scanned.NeedMore → ⊥
bad-no-more r e = cc

split : (xs : List ℕ) → 0 < length xs → (b : ℕ) × (bs : List ℕ) × (xs ≡ b ∷ bs)
split [] l = absurd (omega (arith, l))
split (b ∷ bs) l = (b, bs, refl)

record IsScannedWell (k : Kept) (grows : Bool) (bytes : List ℕ) (x : Scanned) : Type 0 where
  kept : IsKept k
  going_on : is_over k ≡ false
  scanned : IsScannedIn k bytes grows x

known-token : (k : Kept) (grows : Bool) (bytes : List ℕ) (x : Token) → IsScannedWell k grows bytes (scanned.Token x) → is_run x.kind ≡ false → KnownHere k grows bytes (scanned.Token x)
known-token k grows bytes x h e =
    to-here k grows bytes (scanned.Token x) h.kept h.going_on
    (known k.doctype.syntax (scanned_in (mode_in (innermost k.sections))) grows bytes (scanned.Token x) (prolog-scanned (innermost k.sections)) h.scanned (other-token x.kind x.length e) (no-more x.kind x.length))

known-bad : (k : Kept) (grows : Bool) (bytes : List ℕ) (r : Reason) → IsScannedWell k grows bytes (scanned.BadToken r) → KnownHere k grows bytes (scanned.BadToken r)
known-bad k grows bytes r h =
    to-here k grows bytes (scanned.BadToken r) h.kept h.going_on
    (known k.doctype.syntax (scanned_in (mode_in (innermost k.sections))) grows bytes (scanned.BadToken r) (prolog-scanned (innermost k.sections)) h.scanned (bad-other r) (bad-no-more r))

known-each : (k : Kept) (grows : Bool) (bytes : List ℕ) (x : Token) (i : ℕ) → IsScannedWell k grows bytes (scanned.Token x) → is_run x.kind ≡ true → i < x.length
    → KnownHere k grows (drop i bytes) (token x.kind 1)
known-each k grows bytes x i h e l =
    let q = stretch-run x.kind e in
    to-here k grows (drop i bytes) (token x.kind 1) h.kept h.going_on
    (subst (λ c. Known k.doctype.syntax (scanned_in (mode_in (innermost k.sections))) grows (drop i bytes) (token c 1)) q.1
    (stretch-known k.doctype.syntax (scanned_in (mode_in (innermost k.sections))) grows bytes q.0 x.length i refl
    (subst (λ c. IsScanned k.doctype.syntax (scanned_in (mode_in (innermost k.sections))) (not grows) bytes (token c x.length)) (sym q.1) h.scanned) l))

needs-here : (k : Kept) (grows : Bool) (bytes : List ℕ) → IsScannedWell k grows bytes scanned.NeedMore → (grows ≡ true) × (decided_token (state_in_prolog k) (stacked_on k.stack) bytes ≡ false)
unfolding state_in_prolog
needs-here k grows bytes h =
    let n = needs-more k.doctype.syntax (scanned_in (mode_in (innermost k.sections))) grows bytes h.scanned in
    (n.0, ap (λ st. token_decided k.doctype.syntax st bytes) (scan-state-is k h.kept h.going_on) ∙ n.1)

within-of : (k : Kept) (grows : Bool) (bytes : List ℕ) (x : Token) → IsScannedWell k grows bytes (scanned.Token x) → (0 < x.length) × (x.length ≤ length bytes)
within-of k grows bytes x h =
    scanned-within k.doctype.syntax (scanned_in (mode_in (innermost k.sections))) (not grows) bytes (scanned.Token x) (prolog-scanned (innermost k.sections)) h.scanned

-- what is read further is whole
some-place : (ps : List Place) → LiesUnder ps → is_some ps ≡ true
some-place [] h = absurd h
some-place (p ∷ ps) h = refl

begins-at : (c : Construct) (k : Kept) (texts : List (ℕ × Text)) (bytes : List ℕ) → LiesUnder k.stack.places → rest_in k texts ≡ bytes → is_begun c bytes ≡ true
    → declares.begins c k.doctype.entities texts k.stack.places ≡ true
begins-at c k texts bytes u r e = λ i. some-place k.stack.places u i && (ap (is_begun c) r ∙ e) i

ends-as : (c : Construct) (f : Form) (k : Kept) (texts : List (ℕ × Text)) (bytes : List ℕ) (e : Bool) (n : ℕ) → LiesUnder k.stack.places → rest_in k texts ≡ bytes → is_begun c bytes ≡ true
    → ((m : ℕ) → end_of k.doctype.syntax f e (drop (before f) bytes) ≡ Some m → construct_end k.doctype.syntax.names c bytes ≡ Some (before f + m))
    → IsMarkup k.doctype.syntax f e bytes n → Ends c k.doctype texts k.stack n
ends-as c f k texts bytes e n u r b end m = record {
  begins = begins-at c k texts bytes u r b;
  ends = ap (construct_end k.doctype.syntax.names c) r ∙ end m.count m.ends ∙ ap Some (sym m.size);
  sgml = ap (λ xs. all_sgml (take n xs)) r ∙ m.sgml;
}

whole-of : (k : Kept) (texts : List (ℕ × Text)) (bytes : List ℕ) (e : Bool) (x : TokenKind) (n : ℕ) (m : Mode) → LiesUnder k.stack.places → rest_in k texts ≡ bytes → mode_of k ≡ m
    → IsWholeIn x m k.doctype.syntax e bytes n → IsWhole k texts x n
whole-of k texts bytes e kind.Declaration n m u r mo h =
    ends-as construct.Declaration form.Declaration k texts bytes e n u r h.0 (λ c t. ap (later 2) t) h.1
whole-of k texts bytes e kind.SubsetEnd n m u r mo h =
    ends-as construct.SubsetEnd form.SubsetEnd k texts bytes e n u r h.0 (λ c t. ap (later 1) t) h.1
whole-of k texts bytes e kind.SectionStart n m u r mo h = subst (λ q. SectionEnds q k texts n) (sym mo) (by m h)
  where
    by : (m : Mode) → IsWholeIn kind.SectionStart m k.doctype.syntax e bytes n → SectionEnds m k texts n
    by mode.Ign h = h
    by _ h = ends-as construct.SectionStart form.SectionStart k texts bytes e n u r h.0 (λ c t. ap (later 3) t) h.1
whole-of k texts bytes e _ n m u r mo h = tt

whole-token : (k : Kept) (texts : List (ℕ × Text)) (grows : Bool) (bytes : List ℕ) (x : Token) → rest_in k texts ≡ bytes → IsScannedWell k grows bytes (scanned.Token x) → IsWhole k texts x.kind x.length
whole-token k texts grows bytes x r h =
    whole-of k texts bytes (not grows) x.kind x.length (mode_in (innermost k.sections)) h.kept.document r (mode-is k h.kept h.going_on)
    (scanned-whole k.doctype.syntax (scanned_in (mode_in (innermost k.sections))) (not grows) bytes x.kind x.length (of-prolog (innermost k.sections)) refl h.scanned)

token-there : (k : Kept) (texts : List (ℕ × Text)) (ended : Bool) (bytes : List ℕ) (x : Token) → rest_in k texts ≡ bytes → IsScannedWell k (may_grow k ended) bytes (scanned.Token x)
    → ((outside : Outside) → IsPiece outside k texts ended x (is_each (is_before k.stage) x.kind)) → IsTokenThere k texts ended x
token-there k texts ended bytes x r h piece =
    let w = within-of k (may_grow k ended) bytes x h in
    record {
      some = w.0;
      within = subst (λ xs. x.length ≤ length xs) (sym r) w.1;
      whole = whole-token k texts (may_grow k ended) bytes x r h;
      piece = piece;
    }

-- by its kind: a stretch, byte by byte, or one piece
by-kind : (outside : Outside) (k : Kept) (texts : List (ℕ × Text)) (ended : Bool) (bytes : List ℕ) (x : Token) (s : Bool) → rest_in k texts ≡ bytes
    → LiesUnder k.stack.places
    → (s ≡ false → IsSpelledAt outside k ended bytes (piece_of outside k x.kind (take x.length bytes)))
    → (s ≡ true → (i : ℕ) → i < x.length → IsSpelledAt outside k ended (drop i bytes) (piece_of outside k x.kind (take 1 (drop i bytes))))
    → IsPiece outside k texts ended x s
by-kind outside k texts ended bytes x false r u one each =
    subst (λ xs. IsSpelled outside k texts ended (piece_of outside k x.kind (take x.length xs))) (sym r)
    (here-spelled outside k texts ended (piece_of outside k x.kind (take x.length bytes)) u (subst (λ xs. IsSpelledAt outside k ended xs (piece_of outside k x.kind (take x.length bytes))) (sym r) (one refl)))
by-kind outside k texts ended bytes x true r u one each = λ i l.
    moved-spelled outside k texts ended i (piece_of outside k x.kind (take 1 (drop i (rest_in k texts)))) u
    (subst (λ xs. IsSpelledAt outside k ended (drop i xs) (piece_of outside k x.kind (take 1 (drop i xs)))) (sym r) (each refl i l))

-- IN THE DOCUMENT TYPE
spelled-at-split : (outside : Outside) (k : Kept) (ended : Bool) (xs : List ℕ) (answer : List ℕ → Result Piece Reason) → 0 < length xs
    → ((b : ℕ) (bs : List ℕ) → xs ≡ b ∷ bs → IsSpelledAt outside k ended (b ∷ bs) (answer (b ∷ bs))) → IsSpelledAt outside k ended xs (answer xs)
spelled-at-split outside k ended xs answer l f =
    let s = split xs l in
    subst (λ ys. IsSpelledAt outside k ended ys (answer ys)) (sym s.2) (f s.0 s.1 s.2)

left-some : (i n : ℕ) (bytes : List ℕ) → i < n → n ≤ length bytes → 0 < length (drop i bytes)
left-some i n bytes l m = let e = length-drop i bytes in omega (arith, l, m, e)

inside-piece : (outside : Outside) (k : Kept) (texts : List (ℕ × Text)) (ended : Bool) (bytes : List ℕ) (x : Token) → is_before k.stage ≡ false → rest_in k texts ≡ bytes
    → IsScannedWell k (may_grow k ended) bytes (scanned.Token x) → IsPiece outside k texts ended x (is_each (is_before k.stage) x.kind)
inside-piece outside k texts ended bytes x b r h =
    let w = within-of k (may_grow k ended) bytes x h in
    by-kind outside k texts ended bytes x (is_each (is_before k.stage) x.kind) r h.kept.document
    (λ e. spelled-at-split outside k ended bytes (λ xs. piece_of outside k x.kind (take x.length xs)) (omega (arith, w.0, w.1))
    (λ c cs p. inside-token outside k ended c cs x b h.kept h.going_on
    (subst (λ ys. KnownHere k (may_grow k ended) ys (scanned.Token x)) p
    (known-token k (may_grow k ended) bytes x h (one-run x.kind (sym (ap (λ t. is_each t x.kind) b) ∙ e))))))
    (λ e i l. spelled-at-split outside k ended (drop i bytes) (λ xs. piece_of outside k x.kind (take 1 xs)) (left-some i x.length bytes l w.1)
    (λ c cs p. inside-token outside k ended c cs (record { kind = x.kind; length = 1 }) b h.kept h.going_on
    (subst (λ ys. KnownHere k (may_grow k ended) ys (token x.kind 1)) p (known-each k (may_grow k ended) bytes x i h (each-run (is_before k.stage) x.kind e) l))))

inside-undecided : (k : Kept) (b : ℕ) (bs : List ℕ) → is_before k.stage ≡ false → decided_token (state_in_prolog k) (stacked_on k.stack) (b ∷ bs) ≡ false
    → decided_bytes (state_in_prolog k) (stacked_on k.stack) (b ∷ bs) ≡ false
unfolding state_in_prolog
inside-undecided k b bs before d = inside-decided (state_in_prolog k) (stacked_on k.stack) b bs before ∙ d

pub told-inside-is : (k : Kept) (texts : List (ℕ × Text)) (ended : Bool) (b : ℕ) (bs : List ℕ) (x : Scanned) → is_before k.stage ≡ false → rest_in k texts ≡ b ∷ bs
    → IsKept k → is_over k ≡ false → IsScannedIn k (b ∷ bs) (may_grow k ended) x → IsFound k texts ended (told_inside (entity_of k.stack.places == 0) (b ∷ bs) x)
told-inside-is k texts ended b bs (scanned.Token x) before r h e n =
    let well : IsScannedWell k (may_grow k ended) (b ∷ bs) (scanned.Token x) = record { kept = h; going_on = e; scanned = n } in
    token-there k texts ended (b ∷ bs) x r well (λ outside. inside-piece outside k texts ended (b ∷ bs) x before r well)
told-inside-is k texts ended b bs scanned.NeedMore before r h e n =
    let need = needs-here k (may_grow k ended) (b ∷ bs) (record { kept = h; going_on = e; scanned = n }) in
    undecided-by-bytes (state_in_prolog k) k texts ended h.document need.0
    (ap (decided_bytes (state_in_prolog k) (stacked_on k.stack)) r ∙ inside-undecided k b bs before need.1)
told-inside-is k texts ended b bs (scanned.BadToken x) before r h e n = λ outside.
    here-spelled outside k texts ended _ h.document
    (subst (λ ys. IsSpelledAt outside k ended ys (Err (if not (entity_of k.stack.places == 0) && begins_end (b ∷ bs) then reason.DeclarationSyntax else x))) (sym r)
    (inside-bad outside k ended b bs x before h e (known-bad k (may_grow k ended) (b ∷ bs) x (record { kept = h; going_on = e; scanned = n }))))

later-undecided : (k : Kept) (b : ℕ) (bs : List ℕ) → k.stage ≡ stages.BeforeDoctype → (b == 93) ≡ false → decided_token (state_in_prolog k) (stacked_on k.stack) (b ∷ bs) ≡ false
    → decided_bytes (state_in_prolog k) (stacked_on k.stack) (b ∷ bs) ≡ false
unfolding state_in_prolog
later-undecided k b bs g e d = before-decided (state_in_prolog k) (stacked_on k.stack) b bs g e ∙ d

-- BEFORE THE DOCUMENT TYPE

-- a place further on in a stretch of separators
abbrev pub JudgesOn : Kept → Bool → Type 0
JudgesOn k ended = (b : ℕ) (bs : List ℕ) → is_separator b ≡ true → IsJudgedBefore k ended (b ∷ bs)

not-byte : (c b : ℕ) → is_separator c ≡ false → is_separator b ≡ true → (b == c) ≡ false
not-byte c b n s = by (b == c) refl
  where
    by : (t : Bool) → (b == c) ≡ t → (b == c) ≡ false
    by true e = apart (is_separator b) s (ap is_separator (eqb-true b c e) ∙ n)
    by false e = e

before-doctype-on : (k : Kept) (ended : Bool) → k.stage ≡ stages.BeforeDoctype → JudgesOn k ended
before-doctype-on k ended e = λ b bs s. judged-before k ended b bs e (not-byte 93 b refl s)

beginning-on : (k : Kept) (ended : Bool) → k.stage ≡ stages.AtBeginning → JudgesOn k ended
beginning-on k ended e = λ b bs s. judged-plain k ended b bs e (not-byte 93 b refl s) (turned b (not-byte 60 b refl s))
  where
    turned : (b : ℕ) → (b == 60) ≡ false → (60 == b) ≡ false
    turned b f = by (60 == b) refl
      where
        by : (t : Bool) → (60 == b) ≡ t → (60 == b) ≡ false
        by true e = apart (b == 60) (byte-is 60 b e) f
        by false e = e

-- each byte of a stretch of separators is one
stretch-byte : (m : Mode) (b : ℕ) (bs : List ℕ) → stretch_at m (b ∷ bs) ≡ Some run.Separators → is_separator b ≡ true
stretch-byte m b bs e = by m e
  where
    subset-byte : (t u : Bool) → run_of (if t then class.Stretch run.Separators else if u then class.Stretch run.Chars else class.NonSgml) ≡ Some run.Separators → t ≡ true
    subset-byte true u e = refl
    subset-byte false true e = absurd (never e)
      where
        never : Some run.Chars ≡ Some run.Separators → ⊥
        never e = cc
    subset-byte false false e = absurd (never e)
      where
        never : None ≡ Some run.Separators → ⊥
        never e = cc

    ignored-byte : (t : Bool) → run_of (if t then class.Stretch run.Chars else class.NonSgml) ≡ Some run.Separators → ⊥
    ignored-byte true e = cc
    ignored-byte false e = cc

    content-byte : (t u v : Bool) → run_of (if t then class.Stretch run.Chars else if u then class.Single kind.Re else if v then class.Single kind.Rs else class.NonSgml) ≡ Some run.Separators → ⊥
    content-byte true u v e = cc
    content-byte false true v e = cc
    content-byte false false true e = cc
    content-byte false false false e = cc

    by : (m : Mode) → stretch_at m (b ∷ bs) ≡ Some run.Separators → is_separator b ≡ true
    by mode.Ds e = subset-byte (is_separator b) (is_sgml_character b) e
    by mode.Ign e = absurd (ignored-byte (is_sgml_character b) e)
    by _ e = absurd (content-byte (is_data b) (b == 13) (b == 10) e)

separator-at : (k : Kept) (grows : Bool) (bytes : List ℕ) (x : Token) (i b : ℕ) (bs : List ℕ) → IsScannedWell k grows bytes (scanned.Token x) → x.kind ≡ kind.Separators → i < x.length → drop i bytes ≡ b ∷ bs
    → is_separator b ≡ true
separator-at k grows bytes x i b bs h e l p =
    let st = scanned_in (mode_in (innermost k.sections)) in
    let stretch = scanned-stretch k.doctype.syntax st (not grows) bytes run.Separators x.length (subst (λ c. IsScanned k.doctype.syntax st (not grows) bytes (token c x.length)) e h.scanned) in
    stretch-byte (mode_in (innermost k.sections)) b bs (ap (stretch_at (mode_in (innermost k.sections))) (sym p) ∙ (stretch.each i l).byte)

characters-before : (outside : Outside) (s : State) (t : Stacked) (own : List ℕ) → piece_before outside s t kind.Chars own ≡ Err reason.NoDoctype
unfolding piece_before
characters-before outside s t own = refl

-- of a token at a place that is judged so
before-piece : (outside : Outside) (k : Kept) (texts : List (ℕ × Text)) (ended : Bool) (bytes : List ℕ) (x : Token) → is_before k.stage ≡ true → rest_in k texts ≡ bytes
    → IsScannedWell k (may_grow k ended) bytes (scanned.Token x) → IsJudgedBefore k ended bytes → JudgesOn k ended
    → IsPiece outside k texts ended x (is_each (is_before k.stage) x.kind)
before-piece outside k texts ended bytes x b r h j on =
    let w = within-of k (may_grow k ended) bytes x h in
    by-kind outside k texts ended bytes x (is_each (is_before k.stage) x.kind) r h.kept.document
    (λ e. one x.kind refl (sym (ap (λ t. is_each t x.kind) b) ∙ e) w)
    (λ e i l. spelled-at-split outside k ended (drop i bytes) (λ xs. piece_of outside k x.kind (take 1 xs)) (left-some i x.length bytes l w.1)
    (λ c cs p.
    let judged = on c cs (separator-at k (may_grow k ended) bytes x i c cs h (each-separators x.kind (sym (ap (λ t. is_each t x.kind) b) ∙ e)) l p) in
    before-token outside k ended (c ∷ cs) (record { kind = x.kind; length = 1 }) b judged.is judged.sure
    (subst (λ ys. KnownHere k (may_grow k ended) ys (token x.kind 1)) p (known-each k (may_grow k ended) bytes x i h (each-run (is_before k.stage) x.kind e) l))))
  where
    each-separators : (q : TokenKind) → is_each true q ≡ true → q ≡ kind.Separators
    each-separators kind.Separators e = refl
    each-separators kind.Chars e = apart false e refl
    each-separators _ e = apart false e refl

    plain : is_run x.kind ≡ false → IsSpelledAt outside k ended bytes (piece_of outside k x.kind (take x.length bytes))
    plain e = before-token outside k ended bytes x b j.is j.sure (known-token k (may_grow k ended) bytes x h e)

    chars : x.kind ≡ kind.Chars → (0 < x.length) × (x.length ≤ length bytes) → IsSpelledAt outside k ended bytes (piece_of outside k x.kind (take x.length bytes))
    chars e w =
        let first = before-token outside k ended bytes (record { kind = x.kind; length = 1 }) b j.is j.sure
        (known-each k (may_grow k ended) bytes x 0 h (ap is_run e) w.0) in
        subst (IsSpelledAt outside k ended bytes) (refused (take 1 bytes) ∙ sym (refused (take x.length bytes))) first
      where
        refused : (own : List ℕ) → piece_of outside k x.kind own ≡ Err reason.NoDoctype
        refused own = sym (piece-before outside k x.kind own b) ∙ ap (λ q. piece_before outside (state_in_prolog k) (stacked_on k.stack) q own) e ∙ characters-before outside (state_in_prolog k) (stacked_on k.stack) own

    one : (q : TokenKind) → x.kind ≡ q → is_each true x.kind ≡ false → (0 < x.length) × (x.length ≤ length bytes) → IsSpelledAt outside k ended bytes (piece_of outside k x.kind (take x.length bytes))
    one kind.Chars p e w = chars p w
    one kind.Separators p e w = apart (is_each true x.kind) (ap (is_each true) p) e
    one _ p e w = plain (ap is_run p)

pub told-before-is : (k : Kept) (texts : List (ℕ × Text)) (ended : Bool) (bytes : List ℕ) (x : Scanned) → is_before k.stage ≡ true → rest_in k texts ≡ bytes
    → IsKept k → is_over k ≡ false → IsScannedIn k bytes (may_grow k ended) x → IsJudgedBefore k ended bytes → JudgesOn k ended
    → (decided_token (state_in_prolog k) (stacked_on k.stack) bytes ≡ false → decided_bytes (state_in_prolog k) (stacked_on k.stack) bytes ≡ false)
    → IsFound k texts ended (told_before k.doctype.syntax.names bytes x)
told-before-is k texts ended bytes (scanned.Token x) before r h e n j on un =
    let well : IsScannedWell k (may_grow k ended) bytes (scanned.Token x) = record { kept = h; going_on = e; scanned = n } in
    token-there k texts ended bytes x r well (λ outside. before-piece outside k texts ended bytes x before r well j on)
told-before-is k texts ended bytes scanned.NeedMore before r h e n j on un =
    let need = needs-here k (may_grow k ended) bytes (record { kept = h; going_on = e; scanned = n }) in
    undecided-by-bytes (state_in_prolog k) k texts ended h.document need.0 (ap (decided_bytes (state_in_prolog k) (stacked_on k.stack)) r ∙ un need.1)
told-before-is k texts ended bytes (scanned.BadToken x) before r h e n j on un = λ outside.
    here-spelled outside k texts ended _ h.document
    (subst (λ ys. IsSpelledAt outside k ended ys (Err (reason_before k.doctype.syntax.names bytes x))) (sym r)
    (before-bad outside k ended bytes x j.is j.sure (known-bad k (may_grow k ended) bytes x (record { kept = h; going_on = e; scanned = n }))))

-- AT THE BEGINNING

take-all : (bytes : List ℕ) → take (length bytes) bytes ≡ bytes
take-all [] = refl
take-all (b ∷ bytes) = ap (λ xs. b ∷ xs) (take-all bytes)

sgml-bad : (bytes : List ℕ) (r : Reason) → told_sgml bytes (scanned.BadToken r) ≡ found.Refused r → sgml_by_token bytes (scanned.BadToken r) ≡ Err r
sgml-bad bytes reason.Unclosed e = absurd (never e)
  where
    never : found.SgmlDeclaration (length bytes) ≡ found.Refused reason.Unclosed → ⊥
    never e = cc
sgml-bad bytes _ e = refl

-- what is spelled where an SGML declaration begins
abbrev pub SgmlIs : Kept → Bool → List ℕ → Type 0
SgmlIs k ended bytes = (outside : Outside) (x : Scanned) → KnownHere k (may_grow k ended) bytes x → IsSpelledAt outside k ended bytes (sgml_by_token bytes x)

sgml-there : (k : Kept) (texts : List (ℕ × Text)) (ended : Bool) (bytes : List ℕ) (n : ℕ) → k.stage ≡ stages.AtBeginning → rest_in k texts ≡ bytes → LiesUnder k.stack.places → 0 < n → n ≤ length bytes
    → ((outside : Outside) → IsSpelledAt outside k ended bytes (sgml_piece (take n bytes))) → IsSgmlThere k texts ended n
sgml-there k texts ended bytes n g r u some few f = record {
  beginning = g;
  some = some;
  within = subst (λ xs. n ≤ length xs) (sym r) few;
  piece = λ outside. subst (λ xs. IsSpelled outside k texts ended (sgml_piece (take n xs))) (sym r)
      (here-spelled outside k texts ended (sgml_piece (take n bytes)) u (subst (λ xs. IsSpelledAt outside k ended xs (sgml_piece (take n bytes))) (sym r) (f outside)));
}

sgml-token : (k : Kept) (texts : List (ℕ × Text)) (ended : Bool) (bytes : List ℕ) (x : Token) → k.stage ≡ stages.AtBeginning → rest_in k texts ≡ bytes → IsScannedWell k (may_grow k ended) bytes (scanned.Token x) → SgmlIs k ended bytes
    → IsSgmlThere k texts ended (piece_length x)
sgml-token k texts ended bytes x g r h is = by x.kind refl
  where
    w : (0 < x.length) × (x.length ≤ length bytes)
    w = within-of k (may_grow k ended) bytes x h

    one : is_run x.kind ≡ true → IsSgmlThere k texts ended 1
    one e = sgml-there k texts ended bytes 1 g r h.kept.document (omega arith) (omega (arith, w.0, w.1))
        (λ outside. is outside (token x.kind 1) (known-each k (may_grow k ended) bytes x 0 h e w.0))

    all : is_run x.kind ≡ false → IsSgmlThere k texts ended x.length
    all e = sgml-there k texts ended bytes x.length g r h.kept.document w.0 w.1 (λ outside. is outside (scanned.Token x) (known-token k (may_grow k ended) bytes x h e))

    by : (q : TokenKind) → x.kind ≡ q → IsSgmlThere k texts ended (piece_length x)
    by kind.Chars e = subst (IsSgmlThere k texts ended) (sym (ap (λ c. piece_length (record { kind = c; length = x.length })) e)) (one (ap is_run e))
    by kind.Separators e = subst (IsSgmlThere k texts ended) (sym (ap (λ c. piece_length (record { kind = c; length = x.length })) e)) (one (ap is_run e))
    by _ e = subst (IsSgmlThere k texts ended) (sym (ap (λ c. piece_length (record { kind = c; length = x.length })) e)) (all (ap is_run e))

told-sgml-is : (k : Kept) (texts : List (ℕ × Text)) (ended : Bool) (bytes : List ℕ) (x : Scanned) → k.stage ≡ stages.AtBeginning → rest_in k texts ≡ bytes → 0 < length bytes
    → IsScannedWell k (may_grow k ended) bytes x → SgmlIs k ended bytes
    → (decided_token (state_in_prolog k) (stacked_on k.stack) bytes ≡ false → decided_bytes (state_in_prolog k) (stacked_on k.stack) bytes ≡ false)
    → IsFound k texts ended (told_sgml bytes x)
told-sgml-is k texts ended bytes (scanned.Token x) g r some h is un = sgml-token k texts ended bytes x g r h is
told-sgml-is k texts ended bytes scanned.NeedMore g r some h is un =
    let need = needs-here k (may_grow k ended) bytes h in
    undecided-by-bytes (state_in_prolog k) k texts ended h.kept.document need.0 (ap (decided_bytes (state_in_prolog k) (stacked_on k.stack)) r ∙ un need.1)
told-sgml-is k texts ended bytes (scanned.BadToken x) g r some h is un = by x h
  where
    refused : (q : Reason) → IsScannedWell k (may_grow k ended) bytes (scanned.BadToken q) → sgml_by_token bytes (scanned.BadToken q) ≡ Err q → IsFound k texts ended (found.Refused q)
    refused q h e = λ outside.
        here-spelled outside k texts ended (Err q) h.kept.document
        (subst (λ ys. IsSpelledAt outside k ended ys (Err q)) (sym r)
        (subst (IsSpelledAt outside k ended bytes) e (is outside (scanned.BadToken q) (known-bad k (may_grow k ended) bytes q h))))

    by : (q : Reason) → IsScannedWell k (may_grow k ended) bytes (scanned.BadToken q) → IsFound k texts ended (told_sgml bytes (scanned.BadToken q))
    by reason.Unclosed h =
        sgml-there k texts ended bytes (length bytes) g r h.kept.document some (omega arith)
        (λ outside. subst (λ xs. IsSpelledAt outside k ended bytes (sgml_piece xs)) (sym (take-all bytes)) (is outside (scanned.BadToken reason.Unclosed) (known-bad k (may_grow k ended) bytes reason.Unclosed h)))
    by _ h = refused _ h refl

pub told-beginning-is : (k : Kept) (texts : List (ℕ × Text)) (ended : Bool) (b : ℕ) (bs : List ℕ) (f : Found) → k.stage ≡ stages.AtBeginning → (b == 93) ≡ false → rest_in k texts ≡ b ∷ bs
    → IsKept k → is_over k ≡ false → IsFoundAtBeginning k (b ∷ bs) (may_grow k ended) f → IsFound k texts ended f
told-beginning-is k texts ended b bs f g n r h e at = unsure (may_grow k ended && is_unsure k.doctype.syntax.names (b ∷ bs)) refl at
  where
    sure : (may_grow k ended && is_unsure k.doctype.syntax.names (b ∷ bs)) ≡ false → may_grow k ended ≡ true → is_unsure k.doctype.syntax.names (b ∷ bs) ≡ false
    sure u m = and-false (may_grow k ended) (is_unsure k.doctype.syntax.names (b ∷ bs)) m u

    un : decided_token (state_in_prolog k) (stacked_on k.stack) (b ∷ bs) ≡ false → decided_bytes (state_in_prolog k) (stacked_on k.stack) (b ∷ bs) ≡ false
    un d = token-undecided k b bs g n d

    first : (t : Bool) → begins_sgml k.doctype.syntax.names (b ∷ bs) ≡ t → (may_grow k ended && is_unsure k.doctype.syntax.names (b ∷ bs)) ≡ false
        → (x : Scanned) → IsScannedIn k (b ∷ bs) (may_grow k ended) x
        → f ≡ (if t then told_sgml (b ∷ bs) x else told_before k.doctype.syntax.names (b ∷ bs) x) → IsFound k texts ended f
    first true s u x scan is =
        subst (IsFound k texts ended) (sym is)
        (told-sgml-is k texts ended (b ∷ bs) x g r (omega arith) (record { kept = h; going_on = e; scanned = scan })
        (λ outside y known. sgml-spelled outside k ended b bs y g n s (sure u) known) un)
    first false s u x scan is =
        subst (IsFound k texts ended) (sym is)
        (told-before-is k texts ended (b ∷ bs) x (ap is_before g) r h e scan (judged-first k ended b bs g n s (sure u)) (beginning-on k ended g) un)

    both : (x y : Bool) → (x && y) ≡ true → (x ≡ true) × (y ≡ true)
    both true y e = (refl, e)
    both false y e = apart false e refl

    unsure : (t : Bool) → (may_grow k ended && is_unsure k.doctype.syntax.names (b ∷ bs)) ≡ t
        → IsFoundIf t k (b ∷ bs) (may_grow k ended) f → IsFound k texts ended f
    unsure true u at =
        let t = both (may_grow k ended) (is_unsure k.doctype.syntax.names (b ∷ bs)) u in
        subst (IsFound k texts ended) (sym at)
        (undecided-by-bytes (state_in_prolog k) k texts ended h.document t.0 (ap (decided_bytes (state_in_prolog k) (stacked_on k.stack)) r ∙ unsure-undecided k b bs g n t.1))
    unsure false u at = first (begins_sgml k.doctype.syntax.names (b ∷ bs)) refl u at.0 at.1 at.2

-- WHERE NOTHING IS LEFT of the text
pub told-end-is : (k : Kept) (texts : List (ℕ × Text)) (ended : Bool) → rest_in k texts ≡ [] → IsKept k → IsFound k texts ended (at_end (may_grow k ended))
told-end-is k texts ended r h = by (may_grow k ended) refl
  where
    by : (t : Bool) → may_grow k ended ≡ t → IsFound k texts ended (at_end t)
    by false g = (r, g)
    by true g = undecided-by-bytes (state_in_prolog k) k texts ended h.document g (ap (decided_bytes (state_in_prolog k) (stacked_on k.stack)) r)

-- a `]` before the document type
pub told-early-is : (k : Kept) (texts : List (ℕ × Text)) (ended : Bool) (b : ℕ) (bs : List ℕ) → rest_in k texts ≡ b ∷ bs → IsKept k → is_early_end k.stage b ≡ true
    → IsFound k texts ended (found.Refused reason.NoDoctype)
told-early-is k texts ended b bs r h e = λ outside.
    here-spelled outside k texts ended (Err reason.NoDoctype) h.document
    (subst (λ ys. IsSpelledAt outside k ended ys (Err reason.NoDoctype)) (sym r)
    (early-spelled outside k ended b bs (first (is_before k.stage) (b == 93) e) (second (is_before k.stage) (b == 93) e)))
  where
    first : (x y : Bool) → (x && y) ≡ true → x ≡ true
    first true y e = refl
    first false y e = apart false e refl

    second : (x y : Bool) → (x && y) ≡ true → y ≡ true
    second true y e = e
    second false y e = apart false e refl

no-early : (g : Stage) (b : ℕ) → is_before g ≡ true → is_early_end g b ≡ false → (b == 93) ≡ false
no-early g b p e = sym (ap (λ t. t && (b == 93)) p) ∙ e

pub told-first-is : (k : Kept) (texts : List (ℕ × Text)) (ended : Bool) (b : ℕ) (bs : List ℕ) (f : Found) → k.stage ≡ stages.AtBeginning → is_early_end k.stage b ≡ false → rest_in k texts ≡ b ∷ bs
    → IsKept k → is_over k ≡ false → IsFoundAtBeginning k (b ∷ bs) (may_grow k ended) f → IsFound k texts ended f
told-first-is k texts ended b bs f g e r h o at = told-beginning-is k texts ended b bs f g (no-early k.stage b (ap is_before g) e) r h o at

pub told-later-is : (k : Kept) (texts : List (ℕ × Text)) (ended : Bool) (b : ℕ) (bs : List ℕ) (x : Scanned) → k.stage ≡ stages.BeforeDoctype → is_early_end k.stage b ≡ false → rest_in k texts ≡ b ∷ bs
    → IsKept k → is_over k ≡ false → IsScannedIn k (b ∷ bs) (may_grow k ended) x → IsFound k texts ended (told_before k.doctype.syntax.names (b ∷ bs) x)
told-later-is k texts ended b bs x g e r h o scan =
    told-before-is k texts ended (b ∷ bs) x (ap is_before g) r h o scan (judged-before k ended b bs g (no-early k.stage b (ap is_before g) e)) (before-doctype-on k ended g)
    (λ d. later-undecided k b bs g (no-early k.stage b (ap is_before g) e) d)

-- WITH WHAT THE READER KEEPS INSIDE: v is seen as k, and the bytes are what is unread of it
pub record IsSeen (k v : Kept) (texts : List (ℕ × Text)) (ended : Bool) (bytes : List ℕ) (grows : Bool) : Type 0 where
  pub kept : IsKept k
  pub going_on : is_over k ≡ false
  pub same : v ≡ k
  pub bytes_are : rest_in v texts ≡ bytes
  pub grows_is : grows ≡ may_grow k ended

seen-rest : (k v : Kept) (texts : List (ℕ × Text)) (ended : Bool) (bytes : List ℕ) (grows : Bool) → IsSeen k v texts ended bytes grows → rest_in k texts ≡ bytes
seen-rest k v texts ended bytes grows s = sym (ap (λ x. rest_in x texts) s.same) ∙ s.bytes_are

pub seen-end : (k v : Kept) (texts : List (ℕ × Text)) (ended : Bool) (bytes : List ℕ) (grows : Bool) (f : Found) → IsSeen k v texts ended bytes grows → length bytes < 1 → f ≡ at_end grows
    → IsFound k texts ended f
seen-end k v texts ended bytes grows f s l e =
    subst (IsFound k texts ended) (sym (e ∙ ap at_end s.grows_is)) (told-end-is k texts ended (seen-rest k v texts ended bytes grows s ∙ nil-of bytes l) s.kept)

-- of the first byte
first-is : (bytes : List ℕ) → 1 ≤ length bytes → bytes ≡ slice_index_or bytes 0 0 ∷ drop 1 bytes
first-is bytes l = head-drop bytes 0 l

pub seen-early : (k v : Kept) (texts : List (ℕ × Text)) (ended : Bool) (bytes : List ℕ) (grows : Bool) → IsSeen k v texts ended bytes grows → 1 ≤ length bytes
    → is_early_end v.stage (slice_index_or bytes 0 0) ≡ true → IsFound k texts ended (found.Refused reason.NoDoctype)
seen-early k v texts ended bytes grows s l e =
    told-early-is k texts ended (slice_index_or bytes 0 0) (drop 1 bytes) (seen-rest k v texts ended bytes grows s ∙ first-is bytes l) s.kept
    (ap (λ x. is_early_end x.stage (slice_index_or bytes 0 0)) (sym s.same) ∙ e)

pub seen-first : (k v : Kept) (texts : List (ℕ × Text)) (ended : Bool) (bytes : List ℕ) (grows : Bool) (f : Found) → IsSeen k v texts ended bytes grows → 1 ≤ length bytes
    → is_early_end v.stage (slice_index_or bytes 0 0) ≡ false → v.stage ≡ stages.AtBeginning → IsFoundAtBeginning k bytes grows f → IsFound k texts ended f
seen-first k v texts ended bytes grows f s l e g at =
    told-first-is k texts ended (slice_index_or bytes 0 0) (drop 1 bytes) f (ap (λ x. x.stage) (sym s.same) ∙ g)
    (ap (λ x. is_early_end x.stage (slice_index_or bytes 0 0)) (sym s.same) ∙ e) (seen-rest k v texts ended bytes grows s ∙ first-is bytes l) s.kept s.going_on
    (subst (λ xs. IsFoundAtBeginning k xs (may_grow k ended) f) (first-is bytes l) (subst (λ t. IsFoundAtBeginning k bytes t f) s.grows_is at))

pub seen-later : (k v : Kept) (texts : List (ℕ × Text)) (ended : Bool) (bytes : List ℕ) (grows : Bool) (x : Scanned) (f : Found) → IsSeen k v texts ended bytes grows → 1 ≤ length bytes
    → is_early_end v.stage (slice_index_or bytes 0 0) ≡ false → v.stage ≡ stages.BeforeDoctype → IsScannedIn k bytes grows x → f ≡ told_before v.doctype.syntax.names bytes x → IsFound k texts ended f
seen-later k v texts ended bytes grows x f s l e g scan is =
    subst (IsFound k texts ended) (sym (is ∙ (λ i. told_before (s.same i).doctype.syntax.names (first-is bytes l i) x)))
    (told-later-is k texts ended (slice_index_or bytes 0 0) (drop 1 bytes) x (ap (λ x. x.stage) (sym s.same) ∙ g)
    (ap (λ x. is_early_end x.stage (slice_index_or bytes 0 0)) (sym s.same) ∙ e) (seen-rest k v texts ended bytes grows s ∙ first-is bytes l) s.kept s.going_on
    (subst (λ xs. IsScannedIn k xs (may_grow k ended) x) (first-is bytes l) (subst (λ t. IsScannedIn k bytes t x) s.grows_is scan)))

pub seen-inside : (k v : Kept) (texts : List (ℕ × Text)) (ended : Bool) (bytes : List ℕ) (grows in_document : Bool) (x : Scanned) (f : Found) → IsSeen k v texts ended bytes grows → 1 ≤ length bytes
    → is_before v.stage ≡ false → IsScannedIn k bytes grows x → in_document ≡ (entity_of k.stack.places == 0) → f ≡ told_inside in_document bytes x → IsFound k texts ended f
seen-inside k v texts ended bytes grows in_document x f s l g scan d is =
    subst (IsFound k texts ended) (sym (is ∙ (λ i. told_inside (d i) (first-is bytes l i) x)))
    (told-inside-is k texts ended (slice_index_or bytes 0 0) (drop 1 bytes) x (ap (λ x. is_before x.stage) (sym s.same) ∙ g) (seen-rest k v texts ended bytes grows s ∙ first-is bytes l)
    s.kept s.going_on (subst (λ xs. IsScannedIn k xs (may_grow k ended) x) (first-is bytes l) (subst (λ t. IsScannedIn k bytes t x) s.grows_is scan)))
