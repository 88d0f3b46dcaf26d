-- A token that is decided is the same whatever follows, and lies in the bytes that are there.
use Rattle.std.proofs.Common.{◌≡◌, ℕ, Bool, true, false, List, [], ◌∷◌, ◌++◌, ◌⊎◌, inl, inr, length, sym, ◌∙◌, ap, subst, append-nil, refl, arith}
use Rattle.sgml_scan.specs.text.declared.reason.Reason.{Reason}
use Rattle.sgml_scan.specs.text.declared.reason.Reason.TheVariants as reason
use Rattle.sgml_scan.specs.syntax.declared.syntax.Syntax.{Syntax}
use Rattle.sgml_scan.specs.delim.Answers.{MayFollow}
use Rattle.sgml_scan.specs.declared.classes.Run.{Run}
use Rattle.sgml_scan.specs.declared.state.ScanState.{ScanState}
use Rattle.sgml_scan.specs.declared.state.Scanned.{Scanned}
use Rattle.sgml_scan.specs.declared.state.Scanned.TheVariants.{Token, NeedMore, BadToken}
use Rattle.sgml_scan.specs.Classes.{is_scanned, run_kind}
use Rattle.sgml_scan.specs.Tokens.{token, IsOne, IsWithin}
use Rattle.sgml_scan.specs.Decided.{BeginsStretch, BeginsWhole, token_decided}
use Rattle.sgml_scan.proofs.Continuing.{scanned-stays}
use Rattle.sgml_scan.proofs.Lawful.{scanned-within}
use Rattle.sgml_scan.proofs.Tested.{decided-is}
use Rattle.sgml_scan.proofs.Told.{decided-told}
use Rattle.sgml_theory_spelling.specs.Tokens.{token_at}
use Rattle.sgml_theory_spelling.proofs.Tokens.{true-false, one-token, scanned-token}

-- a refusal for want of an end, or that more is needed
abbrev pub is_unclosed_reason : Reason → Bool
is_unclosed_reason reason.Unclosed = true
is_unclosed_reason _ = false

abbrev pub is_unclosed : Scanned → Bool
is_unclosed (Token t) = false
is_unclosed NeedMore = true
is_unclosed (BadToken e) = is_unclosed_reason e

not-unclosed : (e : Reason) → (BadToken e ≡ BadToken reason.Unclosed → ⊥) → is_unclosed_reason e ≡ false
not-unclosed reason.Unclosed n = absurd (n refl)
not-unclosed _ n = refl

told-closed : (scanned : Scanned) → (scanned ≡ NeedMore → ⊥) → (scanned ≡ BadToken reason.Unclosed → ⊥) → is_unclosed scanned ≡ false
told-closed (Token t) n u = refl
told-closed NeedMore n u = absurd (n refl)
told-closed (BadToken e) n u = not-unclosed e u

-- THE TOKEN STAYS

pub record Stays (s : Syntax) (st : ScanState) (bytes : List ℕ) : Type 0 where
  pub same : (more : List ℕ) → token_at s st (bytes ++ more) ≡ token_at s st bytes
  pub within : IsWithin (length bytes) (token_at s st bytes)
  pub closed : is_unclosed (token_at s st bytes) ≡ false

now-of : (s : Syntax) (st : ScanState) (bytes : List ℕ) (scanned : Scanned) → ((more : List ℕ) → token_at s st (bytes ++ more) ≡ scanned) → token_at s st bytes ≡ scanned
now-of s st bytes scanned always = ap (token_at s st) (sym (append-nil bytes)) ∙ always []

whole-stays : (s : Syntax) (st : ScanState) (bytes : List ℕ) → is_scanned st.mode ≡ true → BeginsWhole s st bytes → Stays s st bytes
whole-stays s st bytes c h =
    let always : (more : List ℕ) → token_at s st (bytes ++ more) ≡ h.scanned =
    λ more. scanned-token s st (bytes ++ more) h.scanned h.no_stretch (scanned-stays s st true bytes more h.scanned c h.is h.told h.no_stretch) in
    let now = now-of s st bytes h.scanned always in record {
      same = λ more. always more ∙ sym now;
      within = subst (IsWithin (length bytes)) (sym now) (scanned-within s st false bytes h.scanned c h.is);
      closed = ap is_unclosed now ∙ told-closed h.scanned h.told h.ends;
    }

free : (more : List ℕ) → MayFollow false more
free more = λ t. true-false (sym t)

one-stays : (s : Syntax) (st : ScanState) (q : Run) (b : ℕ) (bytes : List ℕ) → IsOne s st false q (b ∷ bytes) → Stays s st (b ∷ bytes)
one-stays s st q b bytes h =
    let always : (more : List ℕ) → token_at s st ((b ∷ bytes) ++ more) ≡ token (run_kind q) 1 = λ more. one-token s st false q (b ∷ bytes) more (free more) h in
    let now = now-of s st (b ∷ bytes) (token (run_kind q) 1) always in record {
      same = λ more. always more ∙ sym now;
      within = subst (IsWithin (length (b ∷ bytes))) (sym now) (omega arith, omega arith);
      closed = ap is_unclosed now;
    }

told-stays : (s : Syntax) (st : ScanState) (b : ℕ) (bytes : List ℕ) → is_scanned st.mode ≡ true → BeginsStretch s st (b ∷ bytes) ⊎ BeginsWhole s st (b ∷ bytes) → Stays s st (b ∷ bytes)
told-stays s st b bytes c (inl one) = one-stays s st one.0 b bytes one.1
told-stays s st b bytes c (inr whole) = whole-stays s st (b ∷ bytes) c whole

-- A TOKEN THAT IS DECIDED stays
pub decided-token-stays : (s : Syntax) (st : ScanState) (b : ℕ) (bytes : List ℕ) → is_scanned st.mode ≡ true → token_decided s st (b ∷ bytes) ≡ true → Stays s st (b ∷ bytes)
decided-token-stays s st b bytes c e =
    told-stays s st b bytes c (decided-told s st (b ∷ bytes) (omega arith) ((decided-is s st (b ∷ bytes)).0 e))
