-- What an answer says of the text, and of every text that goes on with it.
use Rattle.std.proofs.Common.{◌≡◌, ℕ, ◌<◌, Bool, true, false, List, [], ◌∷◌, ◌++◌, Option, None, Some, length, drop, refl, sym, ◌∙◌, ap, ◌&&◌, arith}
use Rattle.std.proofs.lemmas.List.{append-nil, append_assoc}
use Rattle.sgml_syntax.specs.declared.syntax.Syntax.{Syntax}
use Rattle.sgml_delim.specs.declared.delim.Delim.{Delim}
use Rattle.sgml_delim.specs.declared.delim.Mode.{Mode}
use Rattle.sgml_delim.specs.declared.delim.Need.{Need}
use Rattle.sgml_delim.specs.declared.delim.Need.TheVariants.{Nothing, NameStart, NameStartOrTagc, NameStartOrDigit, AfterMdo, Mdc, Dso}
use Rattle.sgml_delim.specs.declared.delim.Recognised.{Recognised}
use Rattle.sgml_delim.specs.declared.delim.Recognised.TheVariants.{Found, Plain, NeedMore}
use Rattle.sgml_delim.specs.Tables.{string, begins, follows, need, in_force, stands, delims, is_nothing}
use Rattle.sgml_delim.specs.Answers.{Answers, answer, IsTold}
use Rattle.sgml_delim.proofs.Deciding.{true-false, and-right, first-stands}

-- what an answer about an ended text says of it
pub found-is : (f : List ℕ → Option Delim) (bytes : List ℕ) (x : Delim) (n : ℕ)
    → Answers true f bytes (Found x n) → f bytes ≡ Some x
found-is f bytes x n a = ap f (sym (append-nil bytes)) ∙ a.1 [] (λ t. refl)

pub plain-is : (f : List ℕ → Option Delim) (bytes : List ℕ) → Answers true f bytes Plain → f bytes ≡ None
plain-is f bytes a = ap f (sym (append-nil bytes)) ∙ a [] (λ t. refl)

pub need-more-not : {A : Type 0} (f : List ℕ → Option Delim) (bytes : List ℕ) → Answers true f bytes NeedMore → A
need-more-not f bytes a = absurd (true-false (sym a.goes_on))

-- a delimiter that was found stands there
pub found-stands : (s : Syntax) (m : Mode) (net ended : Bool) (bytes : List ℕ) (x : Delim) (n : ℕ)
    → Answers ended (answer s m net) bytes (Found x n) → stands s m net x bytes ≡ true
found-stands s m net ended bytes x n a =
    first-stands (λ y. stands s m net y bytes) x (delims m)
    (ap (answer s m net) (sym (append-nil bytes)) ∙ a.1 [] (λ t. refl))

nothing-after : (s : Syntax) (n : Need) → is_nothing n ≡ false → follows s n [] ≡ false
nothing-after s Nothing e = cc
nothing-after s NameStart e = refl
nothing-after s NameStartOrTagc e = refl
nothing-after s NameStartOrDigit e = refl
nothing-after s AfterMdo e = refl
nothing-after s Mdc e = refl
nothing-after s Dso e = refl

empty-or-not : (s : Syntax) (n : Need) (bytes : List ℕ) → is_nothing n ≡ false → follows s n bytes ≡ true → 0 < length bytes
empty-or-not s n [] e f = absurd (true-false (sym (nothing-after s n e) ∙ f))
empty-or-not s n (b ∷ bytes) e f = omega arith

-- where something must follow, it lies in the text too
pub stands-after : (s : Syntax) (m : Mode) (net : Bool) (x : Delim) (bytes : List ℕ) → is_nothing (need m x) ≡ false
    → stands s m net x bytes ≡ true → 0 < length (drop (length (string x)) bytes)
unfolding stands
stands-after s m net x bytes e h =
    let f = in_force s m net x in
    let g = begins (string x) bytes in
    empty-or-not s (need m x) (drop (length (string x)) bytes) e
    (and-right (f && g) (follows s (need m x) (drop (length (string x)) bytes)) h)

-- an answer that holds whatever follows is that of every continuation
pub found-goes-on : (ended : Bool) (f : List ℕ → Option Delim) (bytes rest : List ℕ) (x : Delim) (n : ℕ)
    → Answers false f bytes (Found x n) → Answers ended f (bytes ++ rest) (Found x n)
found-goes-on ended f bytes rest x n a =
    (a.0, λ more h. ap f (append_assoc bytes rest more) ∙ a.1 (rest ++ more) (λ t. absurd (true-false t)))

pub plain-goes-on : (ended : Bool) (f : List ℕ → Option Delim) (bytes rest : List ℕ)
    → Answers false f bytes Plain → Answers ended f (bytes ++ rest) Plain
plain-goes-on ended f bytes rest a =
    λ more h. ap f (append_assoc bytes rest more) ∙ a (rest ++ more) (λ t. absurd (true-false t))

pub told-goes-on : (ended : Bool) (f : List ℕ → Option Delim) (bytes rest : List ℕ) (r : Recognised)
    → IsTold r → Answers false f bytes r → Answers ended f (bytes ++ rest) r
told-goes-on ended f bytes rest (Found x n) t a = found-goes-on ended f bytes rest x n a
told-goes-on ended f bytes rest Plain t a = plain-goes-on ended f bytes rest a
told-goes-on ended f bytes rest NeedMore t a = absurd t
