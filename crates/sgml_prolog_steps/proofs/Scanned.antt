-- What was scanned is the token of the place, and the text that may go on decides it.
use Rattle.std.proofs.Common.{◌≡◌, ℕ, Bool, true, false, not, List, [], ◌++◌, ◌<◌, drop, refl, sym, ◌∙◌, ap, subst, append-nil}
use Rattle.sgml_delim.specs.syntax.declared.syntax.Syntax.{Syntax}
use Rattle.sgml_delim.specs.declared.delim.Recognised.TheVariants as r
use Rattle.sgml_scan.specs.declared.classes.Run.{Run}
use Rattle.sgml_scan.specs.declared.state.ScanState.{ScanState}
use Rattle.sgml_scan.specs.declared.state.Scanned.{Scanned}
use Rattle.sgml_scan.specs.declared.state.Scanned.TheVariants.{NeedMore}
use Rattle.sgml_scan.specs.Classes.{run_kind, is_scanned}
use Rattle.sgml_scan.specs.Tokens.{token, IsScanned, IsOne}
use Rattle.sgml_scan.specs.Decided.{token_decided}
use Rattle.sgml_scan.proofs.Continuing.{scanned-stays}
use Rattle.sgml_scan.proofs.Runs.{scanned-stretch}
use Rattle.sgml_scan.proofs.Tested.{decided-is}
use Rattle.sgml_scan.proofs.Unique.{decided-is-told, undecided-needs-more, scanned-ended}
use Rattle.sgml_declared.specs.theory_spelling.Tokens.{token_at}
use Rattle.sgml_declared.proofs.theory_spelling.Tokens.{scanned-token, one-token}
use Rattle.sgml_prolog_steps.proofs.Top.{apart}

abbrev pub IsOther : Scanned → Type 0
IsOther x = (q : Run) (n : ℕ) → x ≡ token (run_kind q) n → ⊥

-- the token there, and where the text may go on it is decided
pub record Known (s : Syntax) (st : ScanState) (grows : Bool) (bytes : List ℕ) (x : Scanned) : Type 0 where
  pub is : token_at s st bytes ≡ x
  pub decided : grows ≡ true → token_decided s st bytes ≡ true

decided-by : (s : Syntax) (st : ScanState) (bytes : List ℕ) (x : Scanned) → IsScanned s st false bytes x → (x ≡ NeedMore → ⊥) → token_decided s st bytes ≡ true
decided-by s st bytes x h n = by (token_decided s st bytes) refl
  where
    by : (b : Bool) → token_decided s st bytes ≡ b → token_decided s st bytes ≡ true
    by true e = e
    by false e = absurd (n (undecided-needs-more s st bytes x h (λ d. apart (token_decided s st bytes) ((decided-is s st bytes).1 d) e)))

pub known : (s : Syntax) (st : ScanState) (grows : Bool) (bytes : List ℕ) (x : Scanned) → is_scanned st.mode ≡ true → IsScanned s st (not grows) bytes x
    → IsOther x → (x ≡ NeedMore → ⊥) → Known s st grows bytes x
known s st false bytes x m h o n = record { is = scanned-token s st bytes x o h; decided = λ e. absurd (never e) }
  where
    never : false ≡ true → ⊥
    never e = cc
known s st true bytes x m h o n = record {
  is = ap (token_at s st) (sym (append-nil bytes)) ∙ scanned-token s st (bytes ++ []) x o (scanned-stays s st true bytes [] x m h n o);
  decided = λ e. decided-by s st bytes x h n;
}

-- of a stretch each byte
one-decided : (s : Syntax) (st : ScanState) (q : Run) (bytes : List ℕ) → st.maps ≡ false → IsOne s st false q bytes → token_decided s st bytes ≡ true
one-decided s st q bytes m h = (decided-is s st bytes).1 (record { recognised = r.Plain; answers = h.delimiter; reaches = plain })
  where
    plain : Rattle.sgml_scan.specs.Decided.HasMatch (Rattle.sgml_scan.specs.Openings.matches_strings st) bytes
    plain = subst (λ t. Rattle.sgml_scan.specs.Decided.HasMatch (Rattle.std.specs.Prelude.◌&&◌ t (Rattle.sgml_scan.specs.Openings.is_con st.mode)) bytes) (sym m) tt

pub stretch-known : (s : Syntax) (st : ScanState) (grows : Bool) (bytes : List ℕ) (q : Run) (n i : ℕ) → st.maps ≡ false → IsScanned s st (not grows) bytes (token (run_kind q) n)
    → i < n → Known s st grows (drop i bytes) (token (run_kind q) 1)
stretch-known s st false bytes q n i m h l =
    let one = (scanned-stretch s st true bytes q n h).each i l in
    record {
      is = ap (token_at s st) (sym (append-nil (drop i bytes))) ∙ one-token s st true q (drop i bytes) [] (λ t. refl) one;
      decided = λ e. absurd (never e);
    }
  where
    never : false ≡ true → ⊥
    never e = cc
stretch-known s st true bytes q n i m h l =
    let one = (scanned-stretch s st false bytes q n h).each i l in
    record {
      is = ap (token_at s st) (sym (append-nil (drop i bytes))) ∙ one-token s st false q (drop i bytes) [] (λ t. absurd (never t)) one;
      decided = λ e. one-decided s st q (drop i bytes) m one;
    }
  where
    never : false ≡ true → ⊥
    never e = cc

-- where more is needed the text may go on, and doesn't decide it
pub needs-more : (s : Syntax) (st : ScanState) (grows : Bool) (bytes : List ℕ) → IsScanned s st (not grows) bytes NeedMore
    → (grows ≡ true) × (token_decided s st bytes ≡ false)
needs-more s st false bytes h = absurd (scanned-ended s st bytes NeedMore h refl)
needs-more s st true bytes h = (refl, by (token_decided s st bytes) refl)
  where
    by : (b : Bool) → token_decided s st bytes ≡ b → token_decided s st bytes ≡ false
    by false e = e
    by true e = absurd (decided-is-told s st bytes NeedMore h ((decided-is s st bytes).0 e) refl)
