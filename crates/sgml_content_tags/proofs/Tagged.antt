-- What is spelled as a start-tag was judged as one (7.4, 9.6).
use Rattle.std.proofs.Common.{◌≡◌, ℕ, zero, suc, ◌<◌, ◌≤◌, Bool, true, false, ◌==◌, List, [], ◌∷◌, ◌++◌, Option, None, Some, Result, Ok, Err, length, take, refl, sym, ap, ◌∙◌, subst, arith, append-nil, if◌then◌else◌}
use Rattle.sgml_text.specs.declared.reason.Reason.{Reason}
use Rattle.sgml_text.specs.declared.reason.Reason.TheVariants as reason
use Rattle.sgml_text.specs.Characters.{is_sgml_character, is_separator}
use Rattle.sgml_syntax.specs.declared.syntax.Syntax.{Syntax}
use Rattle.sgml_scan.specs.delim.declared.delim.Mode.{Mode}
use Rattle.sgml_scan.specs.delim.declared.delim.Mode.TheVariants as m
use Rattle.sgml_scan.specs.delim.declared.delim.Delim.{Delim}
use Rattle.sgml_scan.specs.delim.declared.delim.Recognised.TheVariants as r
use Rattle.sgml_scan.specs.delim.Tables.{string}
use Rattle.sgml_scan.specs.delim.Answers.{answer}
use Rattle.sgml_markup.specs.declared.kinds.Form.TheVariants as form
use Rattle.sgml_markup.specs.declared.kinds.TokenKind.{TokenKind}
use Rattle.sgml_markup.specs.declared.kinds.TokenKind.TheVariants as kind
use Rattle.sgml_markup.specs.Forms.{judged}
use Rattle.sgml_scan.specs.declared.classes.Class.{Class}
use Rattle.sgml_scan.specs.declared.classes.Class.TheVariants as class
use Rattle.sgml_scan.specs.declared.classes.Run.{Run}
use Rattle.sgml_scan.specs.declared.classes.Run.TheVariants as run
use Rattle.sgml_scan.specs.declared.state.ScanState.{ScanState}
use Rattle.sgml_scan.specs.declared.state.Scanned.{Scanned}
use Rattle.sgml_scan.specs.declared.state.Scanned.TheVariants as scanned
use Rattle.sgml_scan.specs.Classes.{is_data, class_in_content, class_of, run_kind}
use Rattle.sgml_scan.specs.Openings.{matches_strings}
use Rattle.sgml_scan.specs.Tokens.{token}
use Rattle.sgml_prolog_steps.specs.decl_lexemes.Readings.{entity_of}
use Rattle.sgml_theory_spelling.specs.theory_reading.Names.{Text}
use Rattle.sgml_theory_spelling.specs.theory_reading.Pieces.{Piece}
use Rattle.sgml_theory_spelling.specs.theory_reading.Facets.{AfterSubset}
use Rattle.sgml_theory_spelling.specs.theory_reading.Unread.{Outside}
use Rattle.sgml_theory_spelling.specs.theory_reading.State.{State}
use Rattle.sgml_theory_spelling.specs.Stacked.{Stacked}
use Rattle.sgml_theory_spelling.specs.Places.{in_doctype, mode_at, scan_state}
use Rattle.sgml_theory_spelling.specs.Tokens.{character_token, first_character, string_at, by_string, by_delimiter, token_at}
use Rattle.sgml_theory_spelling.specs.Content.{content_piece}
use Rattle.sgml_theory_spelling.specs.Spelled.{spelled_in, by_token, by_stage, piece_in, token_here}
use Rattle.sgml_theory_spelling.specs.Decided.{is_early_end}
use Rattle.sgml_theory_spelling.proofs.Sizes.{HasSize, content-size}
use Rattle.sgml_content_steps.specs.theory_starts.There.{IsTagThere}
use Rattle.sgml_content_steps.proofs.theory_starts.Scanned.{scanned-tags-are-tags}
use Rattle.sgml_declared.specs.theory_standing.Held.{Held, state_of, IsSpelledIn}
use Rattle.sgml_declared.specs.Taking.{stacked_on}
use Rattle.sgml_prolog_steps.specs.Found.{rest_in}
use Rattle.sgml_prolog_steps.proofs.Shared.{some-places}
use Rattle.sgml_prolog_steps.proofs.Top.{spelled-at-top}
use Rattle.sgml_content_steps.specs.Standing.{IsInInstance}
use Rattle.sgml_content_tags.proofs.Others.{is_tag, content-tag}

-- WHERE A TOKEN IS A START-TAG its bytes are one by their form
abbrev tag : ℕ → Scanned
tag n = token kind.StartTag n

kind_in : Scanned → TokenKind
kind_in (scanned.Token x) = x.kind
kind_in scanned.NeedMore = kind.Pi
kind_in (scanned.BadToken e) = kind.Pi

kind-is : (n m : ℕ) (k : TokenKind) → token k m ≡ tag n → k ≡ kind.StartTag
unfolding kind_in
kind-is n m k e = ap kind_in e

-- no character begins one
abbrev IsOtherClass : Class → Type 0
IsOtherClass (class.Single k) = k ≡ kind.StartTag → ⊥
IsOtherClass _ = Unit {0}

class-if : (t : Bool) (x y : Class) → IsOtherClass x → IsOtherClass y → IsOtherClass (if t then x else y)
class-if true x y a b = a
class-if false x y a b = b

other-content : (b : ℕ) → IsOtherClass (class_in_content b)
other-content b =
    class-if (is_data b) (class.Stretch run.Chars) _ tt
    (class-if (b == 13) (class.Single kind.Re) _ (λ e. cc e) (class-if (b == 10) (class.Single kind.Rs) class.NonSgml (λ e. cc e) tt))

other-class : (mode : Mode) (b : ℕ) → IsOtherClass (class_of mode b)
other-class m.Ign b = class-if (is_sgml_character b) (class.Stretch run.Chars) class.NonSgml tt tt
other-class m.Ds b =
    class-if (is_separator b) (class.Stretch run.Separators) _ tt (class-if (is_sgml_character b) (class.Stretch run.Chars) class.NonSgml tt tt)
other-class _ b = other-content b

no-run : (x : Run) → run_kind x ≡ kind.StartTag → ⊥
no-run run.Chars e = cc e
no-run run.Separators e = cc e

no-class : (n : ℕ) (x : Class) → IsOtherClass x → character_token x ≡ tag n → ⊥
no-class n (class.Stretch x) o e = no-run x (kind-is n 1 (run_kind x) e)
no-class n (class.Single k) o e = o (kind-is n 1 k e)
no-class n class.NonSgml o e = cc e

no-character : (mode : Mode) (bytes : Text) (n : ℕ) → first_character mode bytes ≡ tag n → ⊥
no-character mode [] n e = cc e
no-character mode (b ∷ bytes) n e = no-class n (class_of mode b) (other-class mode b) e

no-string : (mode : Mode) (bytes : Text) (n : ℕ) (o : Option (ℕ × ℕ)) → by_string mode bytes o ≡ tag n → ⊥
no-string mode bytes n (Some s) e = never (kind-is n s.1 (kind.ShortRef s.0) e)
  where
    never : {i : ℕ} → kind.ShortRef i ≡ kind.StartTag → ⊥
    never e = cc e
no-string mode bytes n None e = no-character mode bytes n e

abbrev IsTag : Syntax → Text → ℕ → Type 0
IsTag s bytes n = judged s form.StartTag (take n bytes) ≡ Ok kind.StartTag

delimited-tag : (s : Syntax) (st : ScanState) (bytes : Text) (n : ℕ) (o : Option Delim) → answer s st.mode st.net bytes ≡ o → by_delimiter s st bytes o ≡ tag n → IsTag s bytes n
delimited-tag s st bytes n (Some x) is e =
    scanned-tags-are-tags s st true bytes n (record {
      recognised = r.Found x (length (string x));
      answers = (refl, λ rest f. ap (answer s st.mode st.net) (ap (λ ys. bytes ++ ys) (f refl) ∙ append-nil bytes) ∙ is);
      token = sym e;
    })
delimited-tag s st bytes n None is e = absurd (no-string st.mode bytes n (string_at (matches_strings st) bytes) e)

pub token-tag : (s : Syntax) (st : ScanState) (bytes : Text) (n : ℕ) → token_at s st bytes ≡ tag n → IsTag s bytes n
unfolding token_at
token-tag s st bytes n e = delimited-tag s st bytes n (answer s st.mode st.net bytes) refl e

-- WHERE A START-TAG IS SPELLED it is the token of the place
take-own : (n : ℕ) (bytes : Text) → take (length (take n bytes)) bytes ≡ take n bytes
take-own zero bytes = refl
take-own (suc n) [] = refl
take-own (suc n) (b ∷ bytes) = ap (λ ys. b ∷ ys) (take-own n bytes)

size-of : (n : ℕ) (x : Result Piece Reason) (p : Piece) → HasSize n x → x ≡ Ok p → p.size ≡ n
size-of n (Ok q) p h e = let f : q ≡ p = cc in ap (λ (z : Piece). z.size) (sym f) ∙ h
size-of n (Err r) p h e = absurd (cc)

module _ (outside : Outside) (s : State) (t : Stacked) (bytes : Text) (p : Piece) (tagged : is_tag p.kind ≡ true) (plain : in_doctype s.stage t.entities ≡ false) where
  by-scanned : (y : Scanned) → token_here s t bytes ≡ y → by_token outside s t bytes y ≡ Ok p → IsTag s.context.doctype.syntax bytes p.size
  by-scanned (scanned.Token x) is e =
      let own = take x.length bytes in
      let mode = mode_at s t.entities in
      let c : content_piece outside s t mode x.kind own ≡ Ok p = ap (λ z. piece_in z outside s t mode x.kind own) (sym plain) ∙ e in
      let k : x.kind ≡ kind.StartTag = content-tag outside s t mode x.kind own p c tagged in
      let n : p.size ≡ length own = size-of (length own) (content_piece outside s t mode x.kind own) p (content-size outside s t mode x.kind own) c in
      let whole = token-tag s.context.doctype.syntax (scan_state s t.entities) bytes x.length (is ∙ ap (λ (z : TokenKind). token z x.length) k) in
      ap (λ (ys : Text). judged s.context.doctype.syntax form.StartTag ys) (ap (λ (z : ℕ). take z bytes) n ∙ take-own x.length bytes) ∙ whole
  by-scanned scanned.NeedMore is e = absurd (cc)
  by-scanned (scanned.BadToken r) is e = absurd (cc)

pub spelled-tag : (outside : Outside) (s : State) (t : Stacked) (p : Piece) (number : ℕ) (bytes : Text) → is_tag p.kind ≡ true → in_doctype s.stage t.entities ≡ false
    → s.stage ≡ AfterSubset → 0 < length bytes → spelled_in outside s t number bytes ≡ Ok p → IsTag s.context.doctype.syntax bytes p.size
spelled-tag outside s t p number [] tagged plain over some e = absurd (omega (arith, some))
spelled-tag outside s t p number (b ∷ bs) tagged plain over some e =
    by-scanned outside s t (b ∷ bs) p tagged plain (token_here s t (b ∷ bs)) refl
    (sym (ap (λ g. if is_early_end g b then Err reason.NoDoctype else by_stage outside s t (b ∷ bs) g) over) ∙ e)

pub tag-there : (outside : Outside) (x : Held) (texts : List (ℕ × Text)) (more : Bool) (p : Piece) (n : ℕ) → IsInInstance x.kept → 0 < n → n ≤ length (rest_in x.kept texts)
    → IsSpelledIn outside x texts more (Ok p) → is_tag p.kind ≡ true → p.size ≡ n → IsTagThere x.kept texts n
tag-there outside x texts more p n i some within s tagged size = record {
  some = some-places x.kept.stack.places i.document;
  within = within;
  form = subst (λ m. IsTag x.kept.doctype.syntax (rest_in x.kept texts) m) size
      (spelled-tag outside (state_of x) (stacked_on x.kept.stack) p (entity_of x.kept.stack.places) (rest_in x.kept texts) tagged i.no_subset i.stage
      (omega (arith, some, within))
      (sym (spelled-at-top outside (state_of x) x.kept texts i.document) ∙ s.spelled));
}
