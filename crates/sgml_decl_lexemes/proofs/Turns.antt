-- More turns change nothing, where there are enough.
use Rattle.std.proofs.Common.{◌≡◌, ℕ, zero, suc, Bool, true, false, ◌<◌, Result, Ok, Err, length, refl, arith}
use Rattle.sgml_entity.specs.Stack.{Stack, lower}
use Rattle.sgml_decl_parts.specs.declared.part.Part.{Part}
use Rattle.sgml_decl_lexemes.specs.declared.fault.Fault.{Fault}
use Rattle.sgml_decl_lexemes.specs.Sources.{Source}
use Rattle.sgml_decl_lexemes.specs.Readings.{State, ahead, after, next_part, closes, OnTop}
use Rattle.sgml_decl_lexemes.specs.Reads.{left, unless_end, with_part, read_on, TurnsAreEnough}
use Rattle.sgml_decl_lexemes.proofs.Going.{goes-less, goes-on-top}
use Rattle.sgml_decl_lexemes.proofs.Reaching.{goes-of}

abbrev Same : ℕ → ℕ → Source → State → Type 0
Same n m I t = read_on n I t ≡ read_on m I t

end-same : (n m : ℕ) (I : Source) (u : State) (done : Bool) → Same n m I u → unless_end done (λ v. read_on n I v) u ≡ unless_end done (λ v. read_on m I v) u
end-same n m I u true h = refl
end-same n m I u false h = h

part-same : (n m : ℕ) (I : Source) (t : State) (x : Result Part Fault) → next_part I t ≡ x → ((q : Part) → next_part I t ≡ Ok q → Same n m I (after I (ahead I t) q t))
    → with_part I t (λ v. read_on n I v) x ≡ with_part I t (λ v. read_on m I v) x
part-same n m I t (Err e) is more = refl
part-same n m I t (Ok q) is more = end-same n m I (after I (ahead I t) q t) (closes I.construct q) (more q is)

on-same : (n m : ℕ) (I : Source) (s : Stack) (t : State) → I.height ≡ suc (length (lower s.places)) → OnTop s t.stack → left I t.stack < n → left I t.stack < m → Same n m I t
on-same zero m I s t h on l k = absurd (omega (arith, l))
on-same (suc n) zero I s t h on l k = absurd (omega (arith, k))
on-same (suc n) (suc m) I s t h on l k =
    part-same n m I t (next_part I t) refl
    (λ q e. let g = goes-of I t q e in
    let less = goes-less I s t (after I (ahead I t) q t) (closes I.construct q) h on g in
    on-same n m I s (after I (ahead I t) q t) h (goes-on-top I s t (after I (ahead I t) q t) (closes I.construct q) h on g) (omega (arith, less, l)) (omega (arith, less, k)))

pub turns-are-enough : TurnsAreEnough
turns-are-enough n m I s t h on l k = on-same n m I s t h on l k
