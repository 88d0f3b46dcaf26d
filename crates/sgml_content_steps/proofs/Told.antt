-- What is told of a place of the instance is what is spelled there.
use Rattle.std.proofs.Common.{◌≡◌, ℕ, Bool, true, false, not, ◌&&◌, ◌==◌, ◌+◌, ◌<◌, ◌≤◌, List, [], ◌∷◌, Some, Result, Err, length, drop, take, refl, sym, ◌∙◌, ap, subst, if◌then◌else◌, arith}
use Rattle.std.specs.Prelude.{codes, reverse}
use Rattle.std.proofs.lemmas.List.{length-drop}
use Rattle.sgml_text.specs.declared.place.Place.{Place}
use Rattle.sgml_text.specs.declared.reason.Reason.{Reason}
use Rattle.sgml_text.specs.declared.reason.Reason.TheVariants as reason
use Rattle.sgml_text.specs.Characters.{is_sgml_character}
use Rattle.sgml_syntax.specs.declared.syntax.Syntax.{Syntax}
use Rattle.sgml_entity.specs.declared.kinds.Entity.{Entity}
use Rattle.sgml_entity.specs.Stack.{moved}
use Rattle.sgml_delim.specs.declared.delim.Mode.{Mode}
use Rattle.sgml_delim.specs.declared.delim.Mode.TheVariants as mode
use Rattle.sgml_delim.specs.Ends.{later}
use Rattle.sgml_delim.specs.Verdicts.{prefix_verdict}
use Rattle.sgml_delim.proofs.Deciding.{nil-of}
use Rattle.sgml_scan.specs.markup.declared.kinds.Form.{Form}
use Rattle.sgml_scan.specs.markup.declared.kinds.Form.TheVariants as form
use Rattle.sgml_scan.specs.markup.declared.kinds.TokenKind.{TokenKind}
use Rattle.sgml_scan.specs.markup.declared.kinds.TokenKind.TheVariants as kind
use Rattle.sgml_scan.specs.markup.Ends.{end_of}
use Rattle.sgml_scan.specs.markup.Forms.{before}
use Rattle.sgml_scan.specs.declared.classes.Run.{Run}
use Rattle.sgml_scan.specs.declared.classes.Run.TheVariants as run
use Rattle.sgml_scan.specs.declared.classes.Class.TheVariants as class
use Rattle.sgml_scan.specs.declared.state.ScanState.{ScanState}
use Rattle.sgml_scan.specs.declared.state.Token.{Token}
use Rattle.sgml_scan.specs.declared.state.Scanned.{Scanned}
use Rattle.sgml_scan.specs.declared.state.Scanned.TheVariants as scanned
use Rattle.sgml_scan.specs.Classes.{run_kind, run_of, stretch_at, is_scanned, is_data}
use Rattle.sgml_scan.specs.Tokens.{token, IsScanned}
use Rattle.sgml_scan.specs.Decided.{token_decided}
use Rattle.sgml_scan.proofs.Runs.{scanned-stretch}
use Rattle.sgml_scan.proofs.Lawful.{scanned-within}
use Rattle.sgml_prolog_steps.specs.decl_parts.declared.ends.Construct.{Construct}
use Rattle.sgml_prolog_steps.specs.decl_parts.declared.ends.Construct.TheVariants as construct
use Rattle.sgml_prolog_steps.specs.decl_parts.Ends.{construct_end}
use Rattle.sgml_prolog_steps.specs.decl_lexemes.Readings.{entity_of}
use Rattle.sgml_prolog_steps.specs.decl_lexemes.Declares.{is_some, is_begun}
use Rattle.sgml_theory_starts.specs.theory_reading.Names.{Text}
use Rattle.sgml_theory_starts.specs.theory_reading.Pieces.{Piece}
use Rattle.sgml_theory_starts.specs.theory_reading.Facets.{AfterSubset}
use Rattle.sgml_theory_starts.specs.theory_reading.Unread.{Outside}
use Rattle.sgml_theory_starts.specs.theory_reading.State.{State}
use Rattle.sgml_theory_starts.specs.theory_spelling.Stacked.{Stacked}
use Rattle.sgml_theory_starts.specs.theory_spelling.Tokens.{token_at}
use Rattle.sgml_theory_starts.specs.theory_spelling.Places.{in_doctype, mode_at, scan_state}
use Rattle.sgml_theory_starts.specs.theory_spelling.Content.{first_of, content_piece}
use Rattle.sgml_theory_starts.specs.theory_spelling.Prolog.{in_document}
use Rattle.sgml_theory_starts.specs.theory_spelling.Spelled.{token_here, by_token, by_stage, spelled_in, piece_in, bad_reason, text_end}
use Rattle.sgml_theory_starts.specs.theory_spelling.Decided.{decided_bytes, decided_token, beginning_decided, is_early_end, is_at_beginning}
use Rattle.sgml_theory_starts.specs.theory_spelling.Nested.{AreNested}
use Rattle.sgml_theory_starts.specs.theory_standing.Kept.{Kept, AreDeclared}
use Rattle.sgml_theory_starts.specs.theory_standing.Held.{Held, state_of, IsSpelledIn}
use Rattle.sgml_theory_starts.specs.declaring.Taking.{stacked_on, Ends}
use Rattle.sgml_prolog_steps.specs.Standing.{LiesUnder}
use Rattle.sgml_prolog_steps.specs.Found.{rest_in, may_grow, moved_on, SectionEnds}
use Rattle.sgml_prolog_steps.proofs.Top.{apart, spelled-at-top, decided-by-bytes, undecided-by-bytes}
use Rattle.sgml_prolog_steps.proofs.Scanned.{IsOther, Known, known, needs-more}
use Rattle.sgml_prolog_steps.proofs.Whole.{IsMarkup, IsWholeIn}
use Rattle.sgml_prolog_steps.proofs.Told.{stacked-moved, rest-moved}
use Rattle.sgml_content_steps.specs.Standing.{IsInInstance, IsHeld, IsSpelledNext}
use Rattle.sgml_content_steps.specs.Modes.{is_of_instance}
use Rattle.sgml_content_steps.specs.Found.{piece_of, is_each, IsPiece, IsWhole, IsTokenThere, IsUndecidedThere, IsFound, told, at_end, IsToldOf}
use Rattle.sgml_content_steps.specs.declared.found.Found.{Found}
use Rattle.sgml_content_steps.proofs.Whole.{scanned-whole}
use Rattle.sgml_content_steps.proofs.Refusing.{refused-other}
use Rattle.sgml_content_steps.proofs.Stretches.{stretch-known}

-- BY THE TOKEN, after the document type

instance-spelled : (outside : Outside) (s : State) (t : Stacked) (n b : ℕ) (bytes : List ℕ) → s.stage ≡ AfterSubset
    → spelled_in outside s t n (b ∷ bytes) ≡ by_token outside s t (b ∷ bytes) (token_here s t (b ∷ bytes))
instance-spelled outside s t n b bytes e = ap (λ g. if is_early_end g b then Err reason.NoDoctype else by_stage outside s t (b ∷ bytes) g) e

instance-decided : (s : State) (t : Stacked) (b : ℕ) (bytes : List ℕ) → s.stage ≡ AfterSubset → decided_bytes s t (b ∷ bytes) ≡ decided_token s t (b ∷ bytes)
instance-decided s t b bytes e =
    ap (λ g. if is_early_end g b then true else if is_at_beginning g then beginning_decided s.context.doctype.syntax.names (b ∷ bytes) (decided_token s t (b ∷ bytes)) (prefix_verdict (codes "<!") (b ∷ bytes)) else decided_token s t (b ∷ bytes)) e

-- SPELLED NEXT in the texts that were given
record IsAtTop (outside : Outside) (x : Held) (ended : Bool) (bytes : List ℕ) (answer : Result Piece Reason) : Type 0 where
  decided : may_grow x.kept ended ≡ true → decided_bytes (state_of x) (stacked_on x.kept.stack) bytes ≡ true
  spelled : spelled_in outside (state_of x) (stacked_on x.kept.stack) (entity_of x.kept.stack.places) bytes ≡ answer

top-spelled : (outside : Outside) (x : Held) (texts : List (ℕ × Text)) (ended : Bool) (bytes : List ℕ) (answer : Result Piece Reason) → LiesUnder x.kept.stack.places
    → rest_in x.kept texts ≡ bytes → IsAtTop outside x ended bytes answer → IsSpelledIn outside x texts ended answer
top-spelled outside x texts ended bytes answer u r h =
    let at = subst (λ (ys : List ℕ). IsAtTop outside x ended ys answer) (sym r) h in record {
      decided = decided-by-bytes outside (state_of x) x.kept texts ended u at.decided;
      spelled = spelled-at-top outside (state_of x) x.kept texts u ∙ at.spelled;
    }

-- the token of the place is known
record IsKnown (x : Held) (ended : Bool) (bytes : List ℕ) (y : Scanned) : Type 0 where
  is : token_here (state_of x) (stacked_on x.kept.stack) bytes ≡ y
  decided : may_grow x.kept ended ≡ true → decided_token (state_of x) (stacked_on x.kept.stack) bytes ≡ true

to-known : (x : Held) (st : ScanState) (ended : Bool) (bytes : List ℕ) (y : Scanned) → scan_state (state_of x) (stacked_on x.kept.stack).entities ≡ st
    → Known x.kept.doctype.syntax st (may_grow x.kept ended) bytes y → IsKnown x ended bytes y
to-known x st ended bytes y e n = record {
  is = ap (λ z. token_at x.kept.doctype.syntax z bytes) e ∙ n.is;
  decided = λ g. ap (λ z. token_decided x.kept.doctype.syntax z bytes) e ∙ n.decided g;
}

token-piece : (outside : Outside) (x : Held) (st : ScanState) (k : TokenKind) (own : Text) → IsInInstance x.kept
    → scan_state (state_of x) (stacked_on x.kept.stack).entities ≡ st
    → piece_in (in_doctype x.kept.stage (stacked_on x.kept.stack).entities) outside (state_of x) (stacked_on x.kept.stack) (mode_at (state_of x) (stacked_on x.kept.stack).entities) k own
    ≡ piece_of x.kept st k own outside (state_of x)
token-piece outside x st k own i e =
    ap (λ t. piece_in t outside (state_of x) (stacked_on x.kept.stack) (mode_at (state_of x) (stacked_on x.kept.stack).entities) k own) i.no_subset
    ∙ ap (λ z. content_piece outside (state_of x) (stacked_on x.kept.stack) z.mode k own) e

token-next : (outside : Outside) (x : Held) (st : ScanState) (texts : List (ℕ × Text)) (ended : Bool) (b : ℕ) (bs : List ℕ) (y : Token) → IsInInstance x.kept
    → scan_state (state_of x) (stacked_on x.kept.stack).entities ≡ st → rest_in x.kept texts ≡ b ∷ bs
    → Known x.kept.doctype.syntax st (may_grow x.kept ended) (b ∷ bs) (scanned.Token y)
    → IsSpelledIn outside x texts ended (piece_of x.kept st y.kind (take y.length (b ∷ bs)) outside (state_of x))
token-next outside x st texts ended b bs y i e r n =
    let here = to-known x st ended (b ∷ bs) (scanned.Token y) e n in
    let t = stacked_on x.kept.stack in
    top-spelled outside x texts ended (b ∷ bs) (piece_of x.kept st y.kind (take y.length (b ∷ bs)) outside (state_of x)) i.document r (record {
      decided = λ g. instance-decided (state_of x) t b bs i.stage ∙ here.decided g;
      spelled = instance-spelled outside (state_of x) t (entity_of x.kept.stack.places) b bs i.stage
          ∙ ap (by_token outside (state_of x) t (b ∷ bs)) here.is
          ∙ token-piece outside x st y.kind (take y.length (b ∷ bs)) i e;
    })

plain-reason : (es : List ℕ) (bytes : List ℕ) (q : Reason) → (first_of bytes == 93) ≡ false → bad_reason es bytes q ≡ q
plain-reason es bytes q f = ap (λ t. if not (in_document es) && t then reason.DeclarationSyntax else q) f ∙ no-end (not (in_document es))
  where
    no-end : (t : Bool) → (if t && false then reason.DeclarationSyntax else q) ≡ q
    no-end true = refl
    no-end false = refl

bad-next : (outside : Outside) (x : Held) (st : ScanState) (texts : List (ℕ × Text)) (ended : Bool) (b : ℕ) (bs : List ℕ) (q : Reason) → IsInInstance x.kept
    → scan_state (state_of x) (stacked_on x.kept.stack).entities ≡ st → rest_in x.kept texts ≡ b ∷ bs → (b == 93) ≡ false
    → Known x.kept.doctype.syntax st (may_grow x.kept ended) (b ∷ bs) (scanned.BadToken q) → IsSpelledIn outside x texts ended (Err q)
bad-next outside x st texts ended b bs q i e r f n =
    let here = to-known x st ended (b ∷ bs) (scanned.BadToken q) e n in
    let t = stacked_on x.kept.stack in
    top-spelled outside x texts ended (b ∷ bs) (Err q) i.document r (record {
      decided = λ g. instance-decided (state_of x) t b bs i.stage ∙ here.decided g;
      spelled = instance-spelled outside (state_of x) t (entity_of x.kept.stack.places) b bs i.stage
          ∙ ap (by_token outside (state_of x) t (b ∷ bs)) here.is
          ∙ ap Err (plain-reason t.entities (b ∷ bs) q f);
    })

end-next : (outside : Outside) (x : Held) (texts : List (ℕ × Text)) (ended : Bool) → IsInInstance x.kept → rest_in x.kept texts ≡ [] → may_grow x.kept ended ≡ false
    → IsSpelledIn outside x texts ended (text_end (state_of x) (entity_of x.kept.stack.places))
end-next outside x texts ended i r g =
    top-spelled outside x texts ended [] (text_end (state_of x) (entity_of x.kept.stack.places)) i.document r (record {
      decided = λ t. apart (may_grow x.kept ended) t g;
      spelled = refl;
    })

-- FOR EACH THAT HOLDS WHAT WAS KEPT
split : (xs : List ℕ) → 0 < length xs → (b : ℕ) × (bs : List ℕ) × (xs ≡ b ∷ bs)
split [] l = absurd (omega (arith, l))
split (b ∷ bs) l = (b, bs, refl)

each-token : (k : Kept) (st : ScanState) (texts : List (ℕ × Text)) (ended : Bool) (bytes : List ℕ) (y : Token) → IsInInstance k → rest_in k texts ≡ bytes → 0 < length bytes
    → Known k.doctype.syntax st (may_grow k ended) bytes (scanned.Token y) → IsSpelledNext k st texts ended (piece_of k st y.kind (take y.length bytes))
each-token k st texts ended bytes y i r l n = λ outside x h.
    let parts = split bytes l in
    let first = subst (λ ys. Known k.doctype.syntax st (may_grow k ended) ys (scanned.Token y)) parts.2 n in
    subst (λ ys. IsSpelledIn outside x texts ended (piece_of k st y.kind (take y.length ys) outside (state_of x))) (sym parts.2)
    (subst (λ (z : Kept). IsInInstance z → scan_state (state_of x) (stacked_on z.stack).entities ≡ st → rest_in z texts ≡ parts.0 ∷ parts.1
    → Known z.doctype.syntax st (may_grow z ended) (parts.0 ∷ parts.1) (scanned.Token y)
    → IsSpelledIn outside x texts ended (piece_of z st y.kind (take y.length (parts.0 ∷ parts.1)) outside (state_of x))) h.kept
    (token-next outside x st texts ended parts.0 parts.1 y) i h.scanned (r ∙ parts.2) first)

each-bad : (k : Kept) (st : ScanState) (texts : List (ℕ × Text)) (ended : Bool) (b : ℕ) (bs : List ℕ) (q : Reason) → IsInInstance k → rest_in k texts ≡ b ∷ bs → (b == 93) ≡ false
    → Known k.doctype.syntax st (may_grow k ended) (b ∷ bs) (scanned.BadToken q) → IsSpelledNext k st texts ended (λ outside s. Err q)
each-bad k st texts ended b bs q i r f n = λ outside x h.
    subst (λ (z : Kept). IsInInstance z → scan_state (state_of x) (stacked_on z.stack).entities ≡ st → rest_in z texts ≡ b ∷ bs
    → Known z.doctype.syntax st (may_grow z ended) (b ∷ bs) (scanned.BadToken q) → IsSpelledIn outside x texts ended (Err q)) h.kept
    (λ j e s m. bad-next outside x st texts ended b bs q j e s f m) i h.scanned r n

each-end : (k : Kept) (st : ScanState) (texts : List (ℕ × Text)) (ended : Bool) → IsInInstance k → rest_in k texts ≡ [] → may_grow k ended ≡ false
    → IsSpelledNext k st texts ended (λ outside s. text_end s (entity_of k.stack.places))
each-end k st texts ended i r g = λ outside x h.
    subst (λ (z : Kept). IsInInstance z → rest_in z texts ≡ [] → may_grow z ended ≡ false
    → IsSpelledIn outside x texts ended (text_end (state_of x) (entity_of z.stack.places))) h.kept
    (end-next outside x texts ended) i r g

-- WHERE IT ISN'T DECIDED
still-goes-on : (is_document ended : Bool) → (is_document && not ended) ≡ true → ended ≡ false
still-goes-on true false e = refl
still-goes-on true true e = apart false e refl
still-goes-on false ended e = apart false e refl

held-stage : (k : Kept) (st : ScanState) (x : Held) → IsInInstance k → IsHeld k st x → (state_of x).stage ≡ AfterSubset
held-stage k st x i h = ap (λ (z : Kept). z.stage) h.kept ∙ i.stage

held-undecided : (k : Kept) (st : ScanState) (x : Held) (b : ℕ) (bs : List ℕ) → IsInInstance k → IsHeld k st x → token_decided k.doctype.syntax st (b ∷ bs) ≡ false
    → decided_bytes (state_of x) (stacked_on k.stack) (b ∷ bs) ≡ false
held-undecided k st x b bs i h d =
    instance-decided (state_of x) (stacked_on k.stack) b bs (held-stage k st x i h)
    ∙ (λ j. token_decided (h.kept j).doctype.syntax (h.scanned j) (b ∷ bs)) ∙ d

undecided-there : (k : Kept) (st : ScanState) (texts : List (ℕ × Text)) (ended : Bool) → IsInInstance k → may_grow k ended ≡ true
    → ((x : Held) → IsHeld k st x → decided_bytes (state_of x) (stacked_on k.stack) (rest_in k texts) ≡ false) → IsUndecidedThere k st texts ended
undecided-there k st texts ended i g d = record {
  goes_on = still-goes-on (entity_of k.stack.places == 0) ended g;
  undecided = λ outside x h. (undecided-by-bytes (state_of x) k texts ended i.document g (d x h)).1 outside;
}

-- MOVED in the text at the top
pub lies-moved : (n : ℕ) (ps : List Place) → LiesUnder ps → LiesUnder (moved n ps)
lies-moved n [] h = h
lies-moved n (p ∷ []) h = h
lies-moved n (p ∷ q ∷ ps) h = h

pub length-moved : (n : ℕ) (ps : List Place) → length (moved n ps) ≡ length ps
length-moved n [] = refl
length-moved n (p ∷ ps) = refl

entity-moved : (n : ℕ) (ps : List Place) → entity_of (moved n ps) ≡ entity_of ps
entity-moved n [] = refl
entity-moved n (p ∷ ps) = refl

pub declared-moved : (n : ℕ) (es : List Entity) (ps : List Place) → AreDeclared es ps → AreDeclared es (moved n ps)
declared-moved n es [] h = h
declared-moved n es (p ∷ ps) h = h

grows-moved : (i : ℕ) (k : Kept) (ended : Bool) → may_grow (moved_on i k) ended ≡ may_grow k ended
grows-moved i k ended = ap (λ n. (n == 0) && not ended) (entity-moved i k.stack.places)

pub instance-moved : (n : ℕ) (k : Kept) → IsInInstance k → IsInInstance (moved_on n k)
instance-moved n k i = record {
  levels = i.levels;
  document = lies-moved n k.stack.places i.document;
  declared = declared-moved n k.doctype.entities k.stack.places i.declared;
  nested = subst (λ m. AreNested m (reverse k.sections)) (sym (length-moved n k.stack.places)) i.nested;
  stage = i.stage;
  no_subset = ap (λ (t : Stacked). in_doctype k.stage t.entities) (stacked-moved n k) ∙ i.no_subset;
  named = i.named;
}

-- BY ITS KIND

abbrev is_run : TokenKind → Bool
is_run kind.Chars = true
is_run kind.Separators = true
is_run _ = false

run-stretch : (q : Run) → is_run (run_kind q) ≡ true
run-stretch run.Chars = refl
run-stretch run.Separators = refl

kind-of : (k q : TokenKind) (m n : ℕ) → token k m ≡ token q n → k ≡ q
kind-of k q m n e = ap kind-in e
  where
    kind-in : Scanned → TokenKind
    kind-in (scanned.Token x) = x.kind
    kind-in _ = k

other-token : (k : TokenKind) (n : ℕ) → is_run k ≡ false → IsOther (token k n)
other-token k n e q m h = apart (is_run k) (ap is_run (kind-of k (run_kind q) n m h) ∙ run-stretch q) e

no-more : (k : TokenKind) (n : ℕ) → token k n ≡ scanned.NeedMore → ⊥
no-more k n e = cc

bad-other : (q : Reason) → IsOther (scanned.BadToken q)
bad-other q u n e = cc

bad-no-more : (q : Reason) → scanned.BadToken q ≡ scanned.NeedMore → ⊥
bad-no-more q e = cc

-- no separators are scanned in content: those that count are tokens by themselves
no-separators : (m : Mode) (bytes : List ℕ) → is_of_instance m ≡ true → stretch_at m bytes ≡ Some run.Separators → ⊥
no-separators m [] i e = cc
no-separators m (b ∷ bs) i e = by m i e
  where
    ignored : (t : Bool) → run_of (if t then class.Stretch run.Chars else class.NonSgml) ≡ Some run.Separators → ⊥
    ignored true e = cc
    ignored false e = cc

    content : (t u v : Bool) → run_of (if t then class.Stretch run.Chars else if u then class.Single kind.Re else if v then class.Single kind.Rs else class.NonSgml) ≡ Some run.Separators → ⊥
    content true u v e = cc
    content false true v e = cc
    content false false true e = cc
    content false false false e = cc

    by : (m : Mode) → is_of_instance m ≡ true → stretch_at m (b ∷ bs) ≡ Some run.Separators → ⊥
    by mode.Ign i e = ignored (is_sgml_character b) e
    by mode.Con i e = content (is_data b) (b == 13) (b == 10) e
    by mode.Rcd i e = content (is_data b) (b == 13) (b == 10) e
    by mode.Cdt i e = content (is_data b) (b == 13) (b == 10) e
    by mode.Rcs i e = content (is_data b) (b == 13) (b == 10) e
    by mode.Cds i e = content (is_data b) (b == 13) (b == 10) e
    by _ i e = apart false i refl

instance-scanned : (m : Mode) → is_of_instance m ≡ true → is_scanned m ≡ true
instance-scanned mode.Con e = refl
instance-scanned mode.Rcd e = refl
instance-scanned mode.Cdt e = refl
instance-scanned mode.Rcs e = refl
instance-scanned mode.Cds e = refl
instance-scanned mode.Ign e = refl
instance-scanned _ e = apart false e refl

-- what was scanned at the top
record IsScannedWell (k : Kept) (st : ScanState) (texts : List (ℕ × Text)) (ended : Bool) (y : Scanned) : Type 0 where
  instance : IsInInstance k
  mode : is_of_instance st.mode ≡ true
  some : 0 < length (rest_in k texts)
  scanned : IsScanned k.doctype.syntax st (not (may_grow k ended)) (rest_in k texts) y

within-of : (k : Kept) (st : ScanState) (texts : List (ℕ × Text)) (ended : Bool) (y : Token) → IsScannedWell k st texts ended (scanned.Token y) → (0 < y.length) × (y.length ≤ length (rest_in k texts))
within-of k st texts ended y h =
    scanned-within k.doctype.syntax st (not (may_grow k ended)) (rest_in k texts) (scanned.Token y) (instance-scanned st.mode h.mode) h.scanned

one-run : (k : Kept) (st : ScanState) (texts : List (ℕ × Text)) (ended : Bool) (y : Token) → IsScannedWell k st texts ended (scanned.Token y) → is_each y.kind ≡ false → is_run y.kind ≡ false
one-run k st texts ended y h e = by y.kind refl e
  where
    by : (q : TokenKind) → y.kind ≡ q → is_each q ≡ false → is_run q ≡ false
    by kind.Chars p e = apart true refl e
    by kind.Separators p e =
        let n = subst (λ c. IsScanned k.doctype.syntax st (not (may_grow k ended)) (rest_in k texts) (token c y.length)) p h.scanned in
        let one = (scanned-stretch k.doctype.syntax st (not (may_grow k ended)) (rest_in k texts) run.Separators y.length n).each 0 (within-of k st texts ended y h).0 in
        absurd (no-separators st.mode (rest_in k texts) h.mode one.byte)
    by _ p e = refl

one-known : (k : Kept) (st : ScanState) (texts : List (ℕ × Text)) (ended : Bool) (y : Token) → IsScannedWell k st texts ended (scanned.Token y) → is_each y.kind ≡ false
    → Known k.doctype.syntax st (may_grow k ended) (rest_in k texts) (scanned.Token y)
one-known k st texts ended y h e =
    known k.doctype.syntax st (may_grow k ended) (rest_in k texts) (scanned.Token y) (instance-scanned st.mode h.mode) h.scanned
    (other-token y.kind y.length (one-run k st texts ended y h e)) (no-more y.kind y.length)

each-chars : (q : TokenKind) → is_each q ≡ true → run_kind run.Chars ≡ q
each-chars kind.Chars e = refl
each-chars _ e = apart false e refl

each-known : (k : Kept) (st : ScanState) (texts : List (ℕ × Text)) (ended : Bool) (y : Token) (i : ℕ) → IsScannedWell k st texts ended (scanned.Token y) → is_each y.kind ≡ true → i < y.length
    → Known k.doctype.syntax st (may_grow k ended) (drop i (rest_in k texts)) (token y.kind 1)
each-known k st texts ended y i h e l =
    let q = each-chars y.kind e in
    subst (λ c. Known k.doctype.syntax st (may_grow k ended) (drop i (rest_in k texts)) (token c 1)) q
    (stretch-known k.doctype.syntax st (may_grow k ended) (rest_in k texts) run.Chars y.length i
    (subst (λ c. IsScanned k.doctype.syntax st (not (may_grow k ended)) (rest_in k texts) (token c y.length)) (sym q) h.scanned) l)

left-some : (i n : ℕ) (bytes : List ℕ) → i < n → n ≤ length bytes → 0 < length (drop i bytes)
left-some i n bytes l m = let e = length-drop i bytes in omega (arith, l, m, e)

piece-there : (k : Kept) (st : ScanState) (texts : List (ℕ × Text)) (ended : Bool) (y : Token) → IsScannedWell k st texts ended (scanned.Token y) → IsPiece k st texts ended y (is_each y.kind)
piece-there k st texts ended y h = by (is_each y.kind) refl
  where
    at : (i : ℕ) → i < y.length → is_each y.kind ≡ true
        → IsSpelledNext (moved_on i k) st texts ended (piece_of (moved_on i k) st y.kind (take 1 (drop i (rest_in k texts))))
    at i l e =
        each-token (moved_on i k) st texts ended (drop i (rest_in k texts)) (record { kind = y.kind; length = 1 }) (instance-moved i k h.instance)
        (rest-moved i k texts h.instance.document) (left-some i y.length (rest_in k texts) l (within-of k st texts ended y h).1)
        (subst (λ g. Known k.doctype.syntax st g (drop i (rest_in k texts)) (token y.kind 1)) (sym (grows-moved i k ended)) (each-known k st texts ended y i h e l))

    by : (t : Bool) → is_each y.kind ≡ t → IsPiece k st texts ended y t
    by true e = λ i l. at i l e
    by false e = each-token k st texts ended (rest_in k texts) y h.instance refl h.some (one-known k st texts ended y h e)

-- UP TO ITS END
some-place : (ps : List Place) → LiesUnder ps → is_some ps ≡ true
some-place [] h = absurd h
some-place (p ∷ ps) h = refl

ends-as : (c : Construct) (f : Form) (k : Kept) (texts : List (ℕ × Text)) (e : Bool) (n : ℕ) → LiesUnder k.stack.places → is_begun c (rest_in k texts) ≡ true
    → ((m : ℕ) → end_of k.doctype.syntax f e (drop (before f) (rest_in k texts)) ≡ Some m → construct_end k.doctype.syntax.names c (rest_in k texts) ≡ Some (before f + m))
    → IsMarkup k.doctype.syntax f e (rest_in k texts) n → Ends c k.doctype texts k.stack n
ends-as c f k texts e n u b end m = record {
  begins = λ i. some-place k.stack.places u i && b i;
  ends = end m.count m.ends ∙ ap Some (sym m.size);
  sgml = m.sgml;
}

whole-of : (k : Kept) (texts : List (ℕ × Text)) (e : Bool) (q : TokenKind) (n : ℕ) (m : Mode) → LiesUnder k.stack.places
    → IsWholeIn q m k.doctype.syntax e (rest_in k texts) n → IsWhole m k texts q n
whole-of k texts e kind.Declaration n m u h = ends-as construct.Declaration form.Declaration k texts e n u h.0 (λ c t. ap (later 2) t) h.1
whole-of k texts e kind.SectionStart n m u h = by m h
  where
    by : (m : Mode) → IsWholeIn kind.SectionStart m k.doctype.syntax e (rest_in k texts) n → SectionEnds m k texts n
    by mode.Ign h = h
    by _ h = ends-as construct.SectionStart form.SectionStart k texts e n u h.0 (λ c t. ap (later 3) t) h.1
whole-of k texts e _ n m u h = tt

token-there : (k : Kept) (st : ScanState) (texts : List (ℕ × Text)) (ended : Bool) (y : Token) → IsScannedWell k st texts ended (scanned.Token y) → IsTokenThere k st texts ended y
token-there k st texts ended y h =
    let w = within-of k st texts ended y h in
    record {
      some = w.0;
      within = w.1;
      whole = whole-of k texts (not (may_grow k ended)) y.kind y.length st.mode h.instance.document
          (scanned-whole k.doctype.syntax st (not (may_grow k ended)) (rest_in k texts) y.kind y.length (instance-scanned st.mode h.mode) h.scanned);
      piece = piece-there k st texts ended y h;
    }

-- WHAT IS TOLD
refused-there : (k : Kept) (st : ScanState) (texts : List (ℕ × Text)) (ended : Bool) (q : Reason) → IsScannedWell k st texts ended (scanned.BadToken q)
    → IsSpelledNext k st texts ended (λ outside s. Err q)
refused-there k st texts ended q h =
    let parts = split (rest_in k texts) h.some in
    let n = known k.doctype.syntax st (may_grow k ended) (rest_in k texts) (scanned.BadToken q) (instance-scanned st.mode h.mode) h.scanned (bad-other q) (bad-no-more q) in
    let f = refused-other k.doctype.syntax st (not (may_grow k ended)) (rest_in k texts) q h.mode h.scanned in
    each-bad k st texts ended parts.0 parts.1 q h.instance parts.2 (ap (λ ys. first_of ys == 93) (sym parts.2) ∙ f)
    (subst (λ ys. Known k.doctype.syntax st (may_grow k ended) ys (scanned.BadToken q)) parts.2 n)

more-there : (k : Kept) (st : ScanState) (texts : List (ℕ × Text)) (ended : Bool) → IsScannedWell k st texts ended scanned.NeedMore → IsUndecidedThere k st texts ended
more-there k st texts ended h =
    let parts = split (rest_in k texts) h.some in
    let need = needs-more k.doctype.syntax st (may_grow k ended) (rest_in k texts) h.scanned in
    undecided-there k st texts ended h.instance need.0 (λ x held.
    ap (decided_bytes (state_of x) (stacked_on k.stack)) parts.2
    ∙ held-undecided k st x parts.0 parts.1 h.instance held (ap (token_decided k.doctype.syntax st) (sym parts.2) ∙ need.1))

told-there : (k : Kept) (st : ScanState) (texts : List (ℕ × Text)) (ended : Bool) (y : Scanned) → IsScannedWell k st texts ended y → IsFound k st texts ended (told y)
told-there k st texts ended (scanned.Token y) h = token-there k st texts ended y h
told-there k st texts ended scanned.NeedMore h = more-there k st texts ended h
told-there k st texts ended (scanned.BadToken q) h = refused-there k st texts ended q h

end-there : (k : Kept) (st : ScanState) (texts : List (ℕ × Text)) (ended : Bool) → IsInInstance k → rest_in k texts ≡ [] → IsFound k st texts ended (at_end (may_grow k ended))
end-there k st texts ended i r = by (may_grow k ended) refl
  where
    by : (t : Bool) → may_grow k ended ≡ t → IsFound k st texts ended (at_end t)
    by false g = record { nothing = r; whole = g; piece = each-end k st texts ended i r g }
    by true g = undecided-there k st texts ended i g (λ x held. ap (decided_bytes (state_of x) (stacked_on k.stack)) r)

-- WITH WHAT IS KEPT INSIDE: v is seen as k, and these bytes are what is unread of it
pub record IsSeen (k v : Kept) (st : ScanState) (texts : List (ℕ × Text)) (ended : Bool) (bytes : List ℕ) (grows : Bool) : Type 0 where
  pub instance : IsInInstance k
  pub mode : is_of_instance st.mode ≡ true
  pub same : v ≡ k
  pub bytes_are : rest_in v texts ≡ bytes
  pub grows_is : grows ≡ may_grow k ended

found-of : (k : Kept) (st : ScanState) (texts : List (ℕ × Text)) (ended : Bool) (bytes : List ℕ) (f : Found) → IsInInstance k → is_of_instance st.mode ≡ true → rest_in k texts ≡ bytes
    → IsToldOf k.doctype.syntax st bytes (may_grow k ended) f → IsFound k st texts ended f
found-of k st texts ended [] f i m r h = subst (IsFound k st texts ended) (sym h) (end-there k st texts ended i r)
found-of k st texts ended (b ∷ bs) f i m r h =
    subst (IsFound k st texts ended) (sym h.is_told)
    (told-there k st texts ended h.scanned (record {
      instance = i;
      mode = m;
      some = subst (λ ys. 0 < length ys) (sym r) (omega arith);
      scanned = subst (λ ys. IsScanned k.doctype.syntax st (not (may_grow k ended)) ys h.scanned) (sym r) h.is_scanned;
    }))

pub found-there : (k v : Kept) (st : ScanState) (texts : List (ℕ × Text)) (ended : Bool) (bytes : List ℕ) (grows : Bool) (f : Found) → IsSeen k v st texts ended bytes grows
    → IsToldOf k.doctype.syntax st bytes grows f → IsFound k st texts ended f
found-there k v st texts ended bytes grows f s h =
    found-of k st texts ended bytes f s.instance s.mode (sym (ap (λ x. rest_in x texts) s.same) ∙ s.bytes_are)
    (subst (λ g. IsToldOf k.doctype.syntax st bytes g f) s.grows_is h)

-- of bytes, by whether there are any
pub none-told : (s : Syntax) (st : ScanState) (bytes : List ℕ) (grows : Bool) (f : Found) → length bytes < 1 → f ≡ at_end grows → IsToldOf s st bytes grows f
none-told s st bytes grows f l e = subst (λ ys. IsToldOf s st ys grows f) (sym (nil-of bytes l)) e

pub some-told : (s : Syntax) (st : ScanState) (bytes : List ℕ) (grows : Bool) (y : Scanned) (f : Found) → 1 ≤ length bytes → IsScanned s st (not grows) bytes y → f ≡ told y
    → IsToldOf s st bytes grows f
some-told s st [] grows y f l n e = absurd (omega (arith, l))
some-told s st (b ∷ bs) grows y f l n e = record { scanned = y; is_scanned = n; is_told = e }
