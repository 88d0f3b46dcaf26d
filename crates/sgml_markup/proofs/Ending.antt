-- The end of markup lies in the text, and is the same whatever follows.
use Rattle.std.proofs.Common.{◌≡◌, ℕ, suc, Bool, true, false, List, [], ◌∷◌, ◌++◌, ◌+◌, ◌≤◌, Option, None, Some, length, refl, if◌then◌else◌, ◌==◌, arith}
use Rattle.sgml_text.specs.declared.name_set.NameSet.{NameSet}
use Rattle.sgml_text.specs.NameCharacters.{is_name_character}
use Rattle.sgml_syntax.specs.declared.syntax.Syntax.{Syntax}
use Rattle.sgml_delim.specs.declared.ends.Inside.TheVariants.{Between}
use Rattle.sgml_delim.specs.declared.ends.Ender.{Ender}
use Rattle.sgml_delim.specs.declared.ends.Ender.TheVariants.{Mdc, Dso}
use Rattle.sgml_markup.specs.declared.kinds.Form.{Form}
use Rattle.sgml_markup.specs.declared.kinds.Form.TheVariants as form
use Rattle.sgml_markup.specs.Ends.{quoting, tag_end, reference_end, goes_on_character, pi_end, ends_with, ends_before, ends_reference, end_of}
use Rattle.sgml_delim.specs.Ends.{later, end_after, ender_of}
use Rattle.sgml_delim.proofs.Ending.{Kept, none-is, kept-later, kept-else, declaration-kept, end-kept as after-kept, end-within as after-within}

abbrev pub Within : Option ℕ → ℕ → Type 0
Within o k = (n : ℕ) → o ≡ Some n → n ≤ k

some-is : (m n : ℕ) → Some m ≡ Some n → m ≡ n
some-is m n e = cc

kept-then : (t : Bool) (x o p : Option ℕ) → Kept o p → Kept (if t then o else x) (if t then p else x)
kept-then true x o p h = h
kept-then false x o p h = λ n e. e

within-later : (k : ℕ) (o : Option ℕ) → Within o k → Within (later 1 o) (suc k)
within-later k None h = λ n e. none-is n e
within-later k (Some m) h = λ n e.
    let low = h m refl in
    let is = some-is (1 + m) n e in
    omega (arith, low, is)

within-if : (t : Bool) (k : ℕ) (o p : Option ℕ) → Within o k → Within p k → Within (if t then o else p) k
within-if true k o p g h = g
within-if false k o p g h = h

within-some : (m k : ℕ) → m ≤ k → Within (Some m) k
within-some m k l = λ n e.
    let is = some-is m n e in
    omega (arith, l, is)

within-none : (k : ℕ) → Within None k
within-none k = λ n e. none-is n e

tag-kept : (shorttag : Bool) (q : Option ℕ) (xs ys : List ℕ) → Kept (tag_end shorttag q xs) (tag_end shorttag q (xs ++ ys))
tag-kept shorttag q [] ys = λ n e. none-is n e
tag-kept shorttag None (b ∷ xs) ys =
    kept-else (ends_with shorttag b) (Some 1) _ _
    (kept-else (ends_before shorttag b) (Some 0) _ _
    (kept-later 1 _ _ (tag-kept shorttag (quoting None b) xs ys)))
tag-kept shorttag (Some q) (b ∷ xs) ys = kept-later 1 _ _ (tag-kept shorttag (quoting (Some q) b) xs ys)

tag-within : (shorttag : Bool) (q : Option ℕ) (xs : List ℕ) → Within (tag_end shorttag q xs) (length xs)
tag-within shorttag q [] = λ n e. none-is n e
tag-within shorttag None (b ∷ xs) =
    within-if (ends_with shorttag b) _ (Some 1) _ (within-some 1 _ (omega arith))
    (within-if (ends_before shorttag b) _ (Some 0) _ (within-some 0 _ (omega arith))
    (within-later _ _ (tag-within shorttag (quoting None b) xs)))
tag-within shorttag (Some q) (b ∷ xs) = within-later _ _ (tag-within shorttag (quoting (Some q) b) xs)

reference-kept : (goes_on : ℕ → Bool) (ended : Bool) (xs ys : List ℕ)
    → Kept (reference_end goes_on false xs) (reference_end goes_on ended (xs ++ ys))
reference-kept goes_on ended [] ys = λ n e. none-is n e
reference-kept goes_on ended (b ∷ xs) ys =
    kept-then (goes_on b) (if ends_reference b then Some 1 else Some 0) _ _
    (kept-later 1 _ _ (reference-kept goes_on ended xs ys))

reference-within : (goes_on : ℕ → Bool) (ended : Bool) (xs : List ℕ) → Within (reference_end goes_on ended xs) (length xs)
reference-within goes_on true [] = within-some 0 _ (omega arith)
reference-within goes_on false [] = within-none 0
reference-within goes_on ended (b ∷ xs) =
    within-if (goes_on b) _ _ (if ends_reference b then Some 1 else Some 0)
    (within-later _ _ (reference-within goes_on ended xs))
    (within-if (ends_reference b) _ (Some 1) (Some 0) (within-some 1 _ (omega arith)) (within-some 0 _ (omega arith)))

pi-kept : (xs ys : List ℕ) → Kept (pi_end xs) (pi_end (xs ++ ys))
pi-kept [] ys = λ n e. none-is n e
pi-kept (b ∷ xs) ys = kept-else (b == 62) (Some 1) _ _ (kept-later 1 _ _ (pi-kept xs ys))

pi-within : (xs : List ℕ) → Within (pi_end xs) (length xs)
pi-within [] = λ n e. none-is n e
pi-within (b ∷ xs) = within-if (b == 62) _ (Some 1) _ (within-some 1 _ (omega arith)) (within-later _ _ (pi-within xs))

declaration-within : (names : NameSet) (ender : Ender) (xs : List ℕ) → Within (end_after names ender Between xs) (length xs)
declaration-within names ender xs = λ n e. (after-within names ender Between xs n e).few

character-kept : (names : NameSet) (ended : Bool) (xs ys : List ℕ)
    → Kept (reference_end (goes_on_character names xs) false xs) (reference_end (goes_on_character names (xs ++ ys)) ended (xs ++ ys))
character-kept names ended [] ys = λ n e. none-is n e
character-kept names ended (b ∷ xs) ys = reference-kept (goes_on_character names (b ∷ xs)) ended (b ∷ xs) ys

pub end-kept : (s : Syntax) (f : Form) (ended : Bool) (xs ys : List ℕ) → Kept (end_of s f false xs) (end_of s f ended (xs ++ ys))
end-kept s form.StartTag ended xs ys = tag-kept s.shorttag None xs ys
end-kept s form.EndTag ended xs ys = tag-kept s.shorttag None xs ys
end-kept s form.EntityReference ended xs ys = reference-kept (is_name_character s.names) ended xs ys
end-kept s form.ParameterReference ended xs ys = reference-kept (is_name_character s.names) ended xs ys
end-kept s form.CharacterReference ended xs ys = character-kept s.names ended xs ys
end-kept s form.Instruction ended xs ys = pi-kept xs ys
end-kept s form.CommentDeclaration ended xs ys = after-kept s.names Mdc Between xs ys
end-kept s form.SectionStart ended xs ys = after-kept s.names Dso Between xs ys
end-kept s form.Declaration ended xs ys = declaration-kept s.names xs ys
end-kept s form.SubsetEnd ended xs ys = after-kept s.names Mdc Between xs ys

pub end-within : (s : Syntax) (f : Form) (ended : Bool) (xs : List ℕ) → Within (end_of s f ended xs) (length xs)
end-within s form.StartTag ended xs = tag-within s.shorttag None xs
end-within s form.EndTag ended xs = tag-within s.shorttag None xs
end-within s form.EntityReference ended xs = reference-within (is_name_character s.names) ended xs
end-within s form.ParameterReference ended xs = reference-within (is_name_character s.names) ended xs
end-within s form.CharacterReference ended xs = reference-within (goes_on_character s.names xs) ended xs
end-within s form.Instruction ended xs = pi-within xs
end-within s form.CommentDeclaration ended xs = declaration-within s.names Mdc xs
end-within s form.SectionStart ended xs = declaration-within s.names Dso xs
end-within s form.Declaration ended xs = declaration-within s.names (ender_of s.names xs) xs
end-within s form.SubsetEnd ended xs = declaration-within s.names Mdc xs
