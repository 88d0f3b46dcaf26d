-- What is read of an SGML declaration is the piece that it is.
use Rattle.std.specs.Prelude.{IfOk, ◌^◌}
use Rattle.std.proofs.Common.{◌≡◌, ℕ, ◌+◌, ◌<◌, ◌≤◌, Bool, true, false, List, [], ◌∷◌, Option, None, Some, Result, Ok, Err, length, take, refl, sym, ◌∙◌, ap, arith}
use Rattle.sgml_text.specs.declared.reason.Reason.TheVariants as reason
use Rattle.sgml_text.specs.Characters.{all_sgml}
use Rattle.sgml_text.specs.declared.error.RefusalError.{RefusalError}
use Rattle.sgml_text.specs.declared.error.RefusalError.TheVariants.{Refused}
use Rattle.sgml_syntax.specs.declared.syntax.Syntax.{Syntax}
use Rattle.sgml_sgmldecl.specs.declared.feature.DeclError.{DeclError}
use Rattle.sgml_sgmldecl.specs.declared.feature.DeclError.TheVariants as errors
use Rattle.sgml_sgmldecl.specs.declared.heard.Heard.{Heard}
use Rattle.sgml_sgmldecl.specs.declared.settling.Refused as settling
use Rattle.sgml_sgmldecl.specs.Machine.{State, Step, refused, goes, ends, Outcome, bad, whole, go_on, run, step, begin_state}
use Rattle.sgml_sgmldecl.specs.Declaring.{Answers, Found, BeginsWithNone}
use Rattle.sgml_sgmldecl.specs.Refusing.{answer_for, refusal_of}
use Rattle.sgml_sgmldecl.proofs.Whole.{declared_read, read_declared}
use Rattle.sgml_declared.specs.theory_reading.Pieces.{Sgml}
use Rattle.sgml_declared.specs.theory_spelling.Sized.{sized}
use Rattle.sgml_declared.specs.theory_spelling.SgmlDeclared.{sgml_of, sgml_by, sgml_piece}
use Rattle.sgml_prolog.specs.Sgml.{refusal_by, IsSyntaxRead, IsSgmlRead}

-- a declaration has some bytes
above : (bs : List ℕ) (at : ℕ) (s : State) (x : Heard) (n : ℕ) → run at s bs ≡ whole x n → at < n
unfolding run
above [] at s x n is = absurd (never is)
  where
    never : bad at ≡ whole x n → ⊥
    never e = cc
above (b ∷ bs) at s x n is = by_step (step at s b) is (λ t e. above bs (at + 1) t x n e)
  where
    by_step : (st : Step) → go_on at st (λ t. run (at + 1) t bs) ≡ whole x n → ((t : State) → run (at + 1) t bs ≡ whole x n → at + 1 < n) → at < n
    by_step refused is later = absurd (cc)
    by_step (goes t) is later = omega (arith, later t is)
    by_step (ends y) is later = let same : at + 1 ≡ n = cc in omega (arith, same)

whole-read : (own : List ℕ) (result : Result (Syntax × ℕ) DeclError) (f : Found own result) → run 0 begin_state own ≡ whole f.told f.used
whole-read own result f = declared_read own f.used f.told f.within f.declares

found-piece : (own : List ℕ) (result : Result (Syntax × ℕ) DeclError) → Found own result → sgml_piece own ≡ sgml_of own result
unfolding sgml_piece
found-piece own result f = ap (sgml_by own) (whole-read own result f) ∙ ap (sgml_of own) (sym f.answers)

-- the number of bytes that is answered
used-is : (o : Option settling.Refused) (h : Heard) (n : ℕ) (x : Syntax × ℕ) → Ok x ≡ answer_for o h n → x.1 ≡ n
used-is None h n x e = ap (λ (r : Result (Syntax × ℕ) DeclError). second r n) e
  where
    second : Result (Syntax × ℕ) DeclError → ℕ → ℕ
    second (Ok y) n = y.1
    second (Err y) n = n
used-is (Some r) h n x e = absurd (cc)

none-begins : (own : List ℕ) (o : Outcome) → run 0 begin_state own ≡ o → BeginsWithNone own → sgml_by own o ≡ Err reason.BadDeclaration
none-begins own (bad at) e none = refl
none-begins own (whole x n) e none = let d = read_declared own n x e in absurd (none n x d.0 d.1)

bad-piece : (own : List ℕ) → BeginsWithNone own → sgml_piece own ≡ Err reason.BadDeclaration
unfolding sgml_piece
bad-piece own none = none-begins own (run 0 begin_state own) refl none

pub syntax-read : (own : List ℕ) (x : Syntax × ℕ) → Answers own (Ok x) → IsSyntaxRead own (Ok x)
syntax-read own x f =
    let same = used-is (refusal_of f.told) f.told f.used x f.answers in
    (omega (arith, same, above own 0 begin_state f.told f.used (whole-read own (Ok x) f)), found-piece own (Ok x) f)

pub syntax-within : (own : List ℕ) (x : Syntax × ℕ) → Answers own (Ok x) → x.1 ≤ length own
syntax-within own x f = omega (arith, f.within, used-is (refusal_of f.told) f.told f.used x f.answers)

pub refused-read : (own : List ℕ) (e : DeclError) → Answers own (Err e) → IsSyntaxRead own (Err (refusal_by e))
refused-read own (errors.BadDeclaration at) a = bad-piece own a.1
refused-read own (errors.FeatureOut which at) f = found-piece own (Err (errors.FeatureOut which at)) f
refused-read own (errors.QuantityOut name number at) f = found-piece own (Err (errors.QuantityOut name number at)) f
refused-read own errors.Memory a = tt

-- and its bytes are SGML characters, or one isn't
piece-by : (own : List ℕ) (x : Syntax × ℕ) (b : Bool) → IsSyntaxRead own (Ok x) → all_sgml (take x.1 own) ≡ b
    → sgml_piece own ≡ (Rattle.std.specs.Prelude.if◌then◌else◌ b (Ok (sized x.1 (Sgml x.0))) (Err reason.NonSgml))
piece-by own x b r e = r.1 ∙ ap (λ z. Rattle.std.specs.Prelude.if◌then◌else◌ z (Ok (sized x.1 (Sgml x.0))) (Err reason.NonSgml)) e

pub sgml-read : (own : List ℕ) (x : Syntax × ℕ) → IsSyntaxRead own (Ok x) → x.1 ≤ length own → all_sgml (take x.1 own) ≡ true → IsSgmlRead own (Ok x)
sgml-read own x r l e = (r.0, l, piece-by own x true r e)

pub non-sgml : (own : List ℕ) (x : Syntax × ℕ) → IsSyntaxRead own (Ok x) → all_sgml (take x.1 own) ≡ false → IsSgmlRead own (Err (Refused reason.NonSgml))
non-sgml own x r e = piece-by own x false r e

-- a place behind it fits
pub fits-read : (own : List ℕ) (at : ℕ) (result : Result (Syntax × ℕ) RefusalError) → IsSgmlRead own result → at + length own < 2 ^ 64 → IfOk result (λ (x : Syntax × ℕ). at + x.1 < 2 ^ 64)
fits-read own at (Ok x) r l = omega (arith, r.1, l)
fits-read own at (Err e) r l = tt
