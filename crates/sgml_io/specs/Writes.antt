-- What a call that writes leaves in a sink that tells its bytes: all that it was to write, or at a fault a front of it.
use Rattle.std.specs.Prelude.{◌≡◌, ℕ, List, [], ◌++◌, Option, None, Some, Result, Ok, Err, MatchResult}
use Rattle.std.specs.Io.KnownBytes.{Appends, Keeps}
use Rattle.std.proofs.Common.{sym, ap, ◌∙◌, append_assoc, append-nil}

-- some front of the bytes was appended
abbrev pub AppendsFront : Option (List ℕ) → Option (List ℕ) → List ℕ → Type 0
AppendsFront old new bytes = (front : List ℕ) × (rest : List ℕ) × (bytes ≡ front ++ rest) × Appends old new front

abbrev pub Writes : {T E : Type 0} → Option (List ℕ) → Option (List ℕ) → Result T E → List ℕ → Type 0
Writes old new result bytes = MatchResult result (λ _. Appends old new bytes) (λ _. AppendsFront old new bytes)

pub Appends-nothing : (old : Option (List ℕ)) → Appends old old []
Appends-nothing None = tt
Appends-nothing (Some xs) = sym (append-nil xs)

pub Appends-then : (old mid new : Option (List ℕ)) (a b : List ℕ) → Appends old mid a → Appends mid new b → Appends old new (a ++ b)
Appends-then None mid new a b h k = tt
Appends-then (Some xs) None new a b h k = absurd h
Appends-then (Some xs) (Some ys) None a b h k = absurd k
Appends-then (Some xs) (Some ys) (Some zs) a b h k = k ∙ ap (λ v. v ++ b) h ∙ append_assoc xs a b

pub Appends-keeps : (old mid new : Option (List ℕ)) (a : List ℕ) → Appends old mid a → Keeps mid new → Appends old new a
Appends-keeps None mid new a h k = tt
Appends-keeps (Some xs) None new a h k = absurd h
Appends-keeps (Some xs) (Some ys) None a h k = absurd k
Appends-keeps (Some xs) (Some ys) (Some zs) a h k = k ∙ h

-- a fault in the second of two parts
pub Front-second : (old mid new : Option (List ℕ)) (a b : List ℕ) → Appends old mid a → AppendsFront mid new b → AppendsFront old new (a ++ b)
Front-second old mid new a b h k =
    (a ++ k.0, k.1, ap (λ v. a ++ v) k.2 ∙ sym (append_assoc a k.0 k.1), Appends-then old mid new a k.0 h k.3)

-- a fault in the first of two parts
pub Front-first : (old new : Option (List ℕ)) (a b : List ℕ) → AppendsFront old new a → AppendsFront old new (a ++ b)
Front-first old new a b k = (k.0, k.1 ++ b, ap (λ v. v ++ b) k.2 ∙ append_assoc k.0 k.1 b, k.3)

-- the last of several parts
pub Writes-last : {T E : Type 0} (old mid new : Option (List ℕ)) (r : Result T E) (a b : List ℕ) → Appends old mid a → Writes mid new r b → Writes old new r (a ++ b)
Writes-last old mid new (Ok x) a b h k = Appends-then old mid new a b h k
Writes-last old mid new (Err e) a b h k = Front-second old mid new a b h k
