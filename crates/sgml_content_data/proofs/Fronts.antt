-- How many bytes at the front of a stretch are taken in one turn.
use Rattle.std.specs.Prelude.{◌≡◌, ℕ, ◌+◌, ◌<◌, ◌≤◌, cond, Bool, true, false, List, [], ◌∷◌, length, take, slice_index_or}
use Rattle.std.specs.List.{prefix_len}
use Rattle.std.proofs.Common.{sym, ap, subst, arith}
use Rattle.std.proofs.lemmas.List.{length-take}
use Rattle.std.proofs.lemmas.Bool.Decides.{nat_tests}
use Rattle.sgml_text.specs.Characters.{is_separator}
use Rattle.sgml_infer.specs.theory_reading.Names.{Text}
use Rattle.sgml_content_data.specs.declared.around.Around.{Around}
use Rattle.sgml_content_data.specs.declared.role.Role.{Role}
use Rattle.sgml_content_data.specs.declared.role.Role.TheVariants as role
use Rattle.sgml_content_data.specs.Roles.{role_of_separator, role_of_character, is_data, is_ignored, is_data_there, is_ignored_there, front_length}

pub prefix-fits : (p : ℕ → Bool) (xs : List ℕ) → prefix_len p xs ≤ length xs
prefix-fits p [] = omega arith
prefix-fits p (x ∷ xs) = by (p x) (prefix-fits p xs)
  where
    by : (t : Bool) → prefix_len p xs ≤ length xs → cond t (1 + prefix_len p xs) 0 ≤ length (x ∷ xs)
    by true l = omega (arith, l)
    by false l = omega arith

no-separator : (b : ℕ) → 32 < b → is_separator b ≡ false
no-separator b l = grind (arith, nat_tests, l)

pub above-space : (a : Around) (b : ℕ) → 32 < b → true ≡ is_data_there a b
above-space a b l = sym (ap (λ t. is_data (cond t (role_of_separator a b) role.Data)) (no-separator b l))

prefix-some : (p : ℕ → Bool) (x : ℕ) (xs : List ℕ) → p x ≡ true → 0 < prefix_len p (x ∷ xs)
prefix-some p x xs e = subst (λ t. 0 < cond t (1 + prefix_len p xs) 0) (sym e) (omega arith)

pub front-some : (a : Around) (bytes : Text) (r : Role) → 0 < length bytes → r ≡ role_of_character a (slice_index_or bytes 0 0) → 0 < front_length a r bytes
front-some a [] r some e = absurd (omega (arith, some))
front-some a (b ∷ bs) role.Data some e = prefix-some (is_data_there a) b bs (ap is_data (sym e))
front-some a (b ∷ bs) role.Ignored some e = prefix-some (is_ignored_there a) b bs (ap is_ignored (sym e))
front-some a (b ∷ bs) _ some e = omega arith

pub front-fits : (a : Around) (bytes : Text) (r : Role) → 0 < length bytes → front_length a r bytes ≤ length bytes
front-fits a bytes role.Data some = prefix-fits (is_data_there a) bytes
front-fits a bytes role.Ignored some = prefix-fits (is_ignored_there a) bytes
front-fits a bytes _ some = omega (arith, some)

pub own-length : (n : ℕ) (xs : List ℕ) → n ≤ length xs → length (take n xs) ≡ n
own-length n xs l = let e = length-take n xs in omega (arith, e, l)
