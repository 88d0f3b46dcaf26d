-- Constructs that end: declarations, starts of sections and the end of a document type, and why one isn't taken.
use Rattle.std.proofs.Common.{◌≡◌, ℕ, Bool, true, false, List, Option, Result, Err, take, refl, sym, ◌∙◌, subst, inl}
use Rattle.sgml_text.specs.declared.reason.Reason.{Reason}
use Rattle.sgml_delim.specs.declared.delim.Mode.{Mode}
use Rattle.sgml_delim.specs.declared.delim.Mode.TheVariants as mode
use Rattle.sgml_markup.specs.declared.kinds.TokenKind.{TokenKind}
use Rattle.sgml_markup.specs.declared.kinds.TokenKind.TheVariants as kind
use Rattle.sgml_scan.specs.declared.state.Token.{Token}
use Rattle.sgml_decl_lexemes.specs.decl_parts.declared.ends.Construct.TheVariants as construct
use Rattle.sgml_declared.specs.sgml_dtd.Doctypes.{Doctype}
use Rattle.sgml_declared.specs.theory_reading.Names.{Name, Text}
use Rattle.sgml_declared.specs.theory_reading.Pieces.{Piece}
use Rattle.sgml_declared.specs.theory_reading.Unread.{Outside}
use Rattle.sgml_declared.specs.theory_spelling.Stacked.{Stacked}
use Rattle.sgml_declared.specs.theory_spelling.Content.{section_piece, section_start}
use Rattle.sgml_declared.specs.theory_spelling.Decided.{is_before}
use Rattle.sgml_declared.specs.theory_standing.Kept.{Kept, sources_of}
use Rattle.sgml_declared.specs.theory_standing.Prologs.{state_in_prolog, is_over}
use Rattle.sgml_declared.specs.Files.{Choices}
use Rattle.sgml_declared.specs.declared.error.TakeError.{TakeError}
use Rattle.sgml_declared.specs.declared.error.TakeError.TheVariants as take_error
use Rattle.sgml_declared.specs.Taking.{stacked_on, IsAround, IsStopped, Ends, section_spelled}
use Rattle.sgml_prolog_steps.specs.Standing.{IsKept}
use Rattle.sgml_prolog_steps.specs.Found.{rest_in, mode_of, IsSpelled, IsTokenThere, IsWhole, SectionEnds, innermost}
use Rattle.sgml_prolog_steps.proofs.Told.{mode-is}
use Rattle.sgml_prolog_steps.specs.declared.sort.Sort.TheVariants as sort
use Rattle.sgml_prolog_steps.specs.Sorts.{sort_in, is_ignored}
use Rattle.sgml_prolog_steps.specs.Steps.{IsStep, IsOutside, stop_of}
use Rattle.sgml_prolog_steps.proofs.Shared.{refused, refused-step, memory-step}
use Rattle.sgml_prolog_steps.proofs.Bytes.{sort_by, piece-is, other-mode}
use Rattle.sgml_prolog_steps.proofs.Starting.{start-is}

pub around : (c : Choices) (outside : Outside) (k : Kept) (texts : List (ℕ × Text)) (asked : Option Name) → IsKept k → IsOutside c outside k texts asked
    → IsAround c outside (sources_of k) texts k.stack
around c outside k texts asked h o = record { of_options = o.of_options; supplied = o.supplied; levels = h.levels; expand = o.expand }

-- WHY ONE ISN'T TAKEN
pub stopped-step : (c : Choices) (texts : List (ℕ × Text)) (ended : Bool) (asked : Option Name) (old new : Kept) (e : TakeError) (spelled : Outside → Result Piece Reason) → is_over old ≡ false
    → ((outside : Outside) → IsSpelled outside old texts ended (spelled outside))
    → ((outside : Outside) → IsOutside c outside old texts asked → IsStopped outside (sources_of old) texts old.stack (spelled outside) e)
    → new ≡ old → IsStep c texts ended asked old new (Err (stop_of e))
stopped-step c texts ended asked old new (take_error.Refused r) spelled g s w same =
    refused-step c texts ended asked old new r
    (λ outside o. refused outside old texts ended r g (subst (λ (a : Result Piece Reason). IsSpelled outside old texts ended a) (w outside o) (s outside))) same
stopped-step c texts ended asked old new (take_error.Wanted number file) spelled g s w same = record {
  steps = λ outside o.
      let x = w outside o in (
        same,
        record {
          unread = x.unread;
          not_given = x.absent;
          named = inl x.named;
          refused = λ r gone. refused outside old texts ended r g
              (subst (λ (a : Result Piece Reason). IsSpelled outside old texts ended a) (x.missing r gone) (s outside));
        },
      );
  falls = tt;
  kept = tt;
  expand = tt;
  left = same;
}
stopped-step c texts ended asked old new take_error.Memory spelled g s w same = memory-step c texts ended asked old new same

-- THE START OF A SECTION in one that isn't ignored
read-start : (outside : Outside) (d : Doctype) (t : Stacked) (m : Mode) (own : Text) → (m ≡ mode.Ign → ⊥) → section_piece outside d t m true own ≡ section_start outside d t true own
read-start outside d t mode.Ign own n = absurd (n refl)
read-start outside d t _ own n = refl

read-mode : (k : Kept) → IsKept k → is_over k ≡ false → is_ignored (innermost k.sections) ≡ false → mode_of k ≡ mode.Ign → ⊥
read-mode k h g i e = other-mode (innermost k.sections) i (sym (mode-is k h g) ∙ e)

pub start-spelled : (outside : Outside) (k : Kept) (texts : List (ℕ × Text)) (ended : Bool) (x : Token) → IsKept k → is_over k ≡ false → sort_in k x.kind ≡ sort.SectionStart
    → is_ignored (innermost k.sections) ≡ false → IsTokenThere k texts ended x → IsSpelled outside k texts ended (section_spelled true outside (sources_of k) texts k.stack x.length)
unfolding state_in_prolog
start-spelled outside k texts ended x h g e i there =
    let is = start-is (is_before k.stage) (is_ignored (innermost k.sections)) x.kind outside (state_in_prolog k) (stacked_on k.stack) (mode_of k) e in
    subst (λ (a : Result Piece Reason). IsSpelled outside k texts ended a)
    (read-start outside k.doctype (stacked_on k.stack) (mode_of k) (take x.length (rest_in k texts)) (read-mode k h g i))
    (piece-is k texts ended x (λ b. section_piece outside k.doctype (stacked_on k.stack) (mode_of k) true b) outside is.1 there)

start-kind : (before ignored : Bool) (x : TokenKind) → sort_by before ignored x ≡ sort.SectionStart → x ≡ kind.SectionStart
start-kind true ignored kind.Separators e = absurd (cc)
start-kind true ignored kind.Pi e = absurd (cc)
start-kind true ignored kind.Comment e = absurd (cc)
start-kind true ignored kind.Declaration e = absurd (cc)
start-kind true ignored _ e = absurd (cc)
start-kind false ignored kind.SectionStart e = refl
start-kind false true kind.Chars e = absurd (cc)
start-kind false false kind.Chars e = absurd (cc)
start-kind false ignored _ e = absurd (cc)

start-ends : (k : Kept) (texts : List (ℕ × Text)) (n : ℕ) (m : Mode) → (m ≡ mode.Ign → ⊥) → SectionEnds m k texts n → Ends construct.SectionStart k.doctype texts k.stack n
start-ends k texts n mode.Ign not w = absurd (not refl)
start-ends k texts n _ not w = w

-- and it is there up to its end
pub start-whole : (k : Kept) (texts : List (ℕ × Text)) (ended : Bool) (x : Token) → IsKept k → is_over k ≡ false → sort_in k x.kind ≡ sort.SectionStart
    → is_ignored (innermost k.sections) ≡ false → IsTokenThere k texts ended x → Ends construct.SectionStart k.doctype texts k.stack x.length
start-whole k texts ended x h g e i there =
    start-ends k texts x.length (mode_of k) (read-mode k h g i)
    (subst (λ y. IsWhole k texts y x.length) (start-kind (is_before k.stage) (is_ignored (innermost k.sections)) x.kind e) there.whole)
