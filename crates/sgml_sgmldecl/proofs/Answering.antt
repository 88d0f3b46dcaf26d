-- The answer is that of the declaration, or of the longest front.
use Rattle.std.proofs.Common.{◌≡◌, ℕ, ◌≤◌, ◌⊎◌, inl, inr, List, length, take, Option, Some, None, Result, Err, refl, sym, ap, ◌∙◌, subst}
use Rattle.sgml_syntax.specs.declared.syntax.Syntax.{Syntax}
use Rattle.sgml_sgmldecl.specs.declared.feature.DeclError.{DeclError}
use Rattle.sgml_sgmldecl.specs.declared.feature.DeclError.TheVariants as errors
use Rattle.sgml_sgmldecl.specs.declared.heard.Heard.{Heard}
use Rattle.sgml_sgmldecl.specs.declared.settling.Refused.{Refused}
use Rattle.sgml_sgmldecl.specs.declared.settling.Refused.TheVariants as r
use Rattle.sgml_sgmldecl.specs.Machine.{bad, whole, run, begin_state, Agrees}
use Rattle.sgml_sgmldecl.specs.Refusing.{refusal_of, answer, answer_for}
use Rattle.sgml_sgmldecl.specs.Declaring.{Declares, Found, Answers}
use Rattle.sgml_sgmldecl.proofs.Whole.{declared_read, read_declared, refused_front}

pub bad_answers : (text : List ℕ) (e : DeclError) → Agrees (run 0 begin_state text) (Err e) → Answers text (Err e)
bad_answers text (errors.BadDeclaration at) is = refused_front text at is
bad_answers text errors.Memory is = tt
bad_answers text (errors.FeatureOut which at) is = absurd is
bad_answers text (errors.QuantityOut name number at) is = absurd is

found : (text : List ℕ) (h : Heard) (n : ℕ) (result : Result (Syntax × ℕ) DeclError) → run 0 begin_state text ≡ whole h n → result ≡ answer h n → Found text result
found text h n result is same =
    let d = read_declared text n h is in
    record { told = h; used = n; within = d.0; declares = d.1; answers = same }

by_refusal : (text : List ℕ) (h : Heard) (n : ℕ) (o : Option Refused) → run 0 begin_state text ≡ whole h n → o ≡ refusal_of h → Answers text (answer_for o h n)
by_refusal text h n None is same = found text h n (answer_for None h n) is (ap (λ (o : Option Refused). answer_for o h n) same)
by_refusal text h n (Some (r.FeatureOut which at)) is same = found text h n (answer_for (Some (r.FeatureOut which at)) h n) is (ap (λ (o : Option Refused). answer_for o h n) same)
by_refusal text h n (Some (r.QuantityOut q l)) is same = found text h n (answer_for (Some (r.QuantityOut q l)) h n) is (ap (λ (o : Option Refused). answer_for o h n) same)

pub found_answers : (text : List ℕ) (h : Heard) (n : ℕ) (result : Result (Syntax × ℕ) DeclError) → run 0 begin_state text ≡ whole h n → (result ≡ answer h n) ⊎ (result ≡ Err errors.Memory) → Answers text result
found_answers text h n result is either = elim either [
  | inl same ↦ subst (Answers text) (sym same) (by_refusal text h n (refusal_of h) is refl)
  | inr none ↦ subst (Answers text) (sym none) (let nothing : Answers text (Err errors.Memory) = tt in nothing)
]

-- no other answer
pub only_found : (text : List ℕ) (h : Heard) (n : ℕ) (result : Result (Syntax × ℕ) DeclError) → run 0 begin_state text ≡ whole h n → (result ≡ answer h n) ⊎ (result ≡ Err errors.Memory)
    → (m : ℕ) (told : Heard) → m ≤ length text → Declares (take m text) told → (result ≡ answer told m) ⊎ (result ≡ Err errors.Memory)
only_found text h n result is either m told within d =
    let other : whole h n ≡ whole told m = sym is ∙ declared_read text m told within d in
    let heard : h ≡ told = cc in
    let used : n ≡ m = cc in
    let same : answer h n ≡ answer told m = ap (λ (x : Heard). answer x n) heard ∙ ap (answer told) used in
    elim either [ inl e ↦ inl (e ∙ same) | inr e ↦ inr e ]

pub only_bad : (text : List ℕ) (e : DeclError) → Agrees (run 0 begin_state text) (Err e) → (m : ℕ) (told : Heard) → m ≤ length text → Declares (take m text) told
    → let result : Result (Syntax × ℕ) DeclError = Err e in (result ≡ answer told m) ⊎ (result ≡ Err errors.Memory)
only_bad text (errors.BadDeclaration at) is m told within d = let never : bad at ≡ whole told m = sym is ∙ declared_read text m told within d in cc
only_bad text errors.Memory is m told within d = inr refl
only_bad text (errors.FeatureOut which at) is m told within d = absurd is
only_bad text (errors.QuantityOut name number at) is m told within d = absurd is

-- a text begins with one declaration at most
pub one_declaration : (text : List ℕ) (n m : ℕ) (one other : Heard) → n ≤ length text → m ≤ length text → Declares (take n text) one → Declares (take m text) other → (n ≡ m) × (one ≡ other)
one_declaration text n m one other within too is also =
    let same : whole one n ≡ whole other m = sym (declared_read text n one within is) ∙ declared_read text m other too also in
    (cc, cc)
