-- The end of what is read stays, whatever follows, and lies in the text.
use Rattle.std.proofs.Common.{length, ◌≡◌, ◌<◌, ℕ, suc, List, [], ◌∷◌, ◌++◌, ◌+◌, ◌≤◌, Option, None, Some, refl, ◌==◌, arith}
use Rattle.sgml_text.specs.declared.name_set.NameSet.{NameSet}
use Rattle.sgml_delim.specs.declared.ends.Inside.TheVariants.{Between}
use Rattle.sgml_delim.specs.declared.ends.Ender.TheVariants.{Mdc, Dso}
use Rattle.sgml_delim.specs.Ends.{later, end_after, ender_of, declaration_end}
use Rattle.sgml_delim.proofs.Ending.{Kept, none-is, kept-later, kept-else, end-kept, declaration-kept, IsWithin, within-later, within-if, end-within}
use Rattle.sgml_decl_parts.specs.declared.ends.Construct.{Construct}
use Rattle.sgml_decl_parts.specs.declared.ends.Construct.TheVariants as construct
use Rattle.sgml_decl_parts.specs.Ends.{quote_end, before, construct_end}

quote-kept : (quote : ℕ) (xs ys : List ℕ) → Kept (quote_end quote xs) (quote_end quote (xs ++ ys))
quote-kept quote [] ys = λ n e. none-is n e
quote-kept quote (b ∷ xs) ys = kept-else (b == quote) (Some 1) _ _ (kept-later 1 _ _ (quote-kept quote xs ys))

pub end_stays : (names : NameSet) (c : Construct) (n : ℕ) (bytes more : List ℕ) → construct_end names c bytes ≡ Some n → construct_end names c (bytes ++ more) ≡ Some n
end_stays names construct.Declaration n [] more e = none-is n e
end_stays names construct.Declaration n (a ∷ []) more e = none-is n e
end_stays names construct.Declaration n (a ∷ b ∷ xs) more e = kept-later 2 _ _ (declaration-kept names xs more) n e
end_stays names construct.SectionStart n [] more e = none-is n e
end_stays names construct.SectionStart n (a ∷ []) more e = none-is n e
end_stays names construct.SectionStart n (a ∷ b ∷ []) more e = none-is n e
end_stays names construct.SectionStart n (a ∷ b ∷ c ∷ xs) more e = kept-later 3 _ _ (end-kept names Dso Between xs more) n e
end_stays names construct.SubsetEnd n [] more e = none-is n e
end_stays names construct.SubsetEnd n (a ∷ xs) more e = kept-later 1 _ _ (end-kept names Mdc Between xs more) n e
end_stays names (construct.Literal quote) n bytes more e = quote-kept quote bytes more n e

quote-within : (quote : ℕ) (xs : List ℕ) (n : ℕ) → quote_end quote xs ≡ Some n → IsWithin n (length xs)
quote-within quote [] n e = none-is n e
quote-within quote (b ∷ xs) n e =
    within-if (b == quote) (suc (length xs)) (later 1 (quote_end quote xs)) (omega arith)
    (within-later (length xs) (quote_end quote xs) (quote-within quote xs)) n e

-- and after what stands before the first part
pub record IsEnd (c : Construct) (n k : ℕ) : Type 0 where
  pub some : 1 ≤ n
  pub few : n ≤ k
  pub past : before c < n

end-by : (c : Construct) (k size n : ℕ) (o : Option ℕ) → before c + k ≡ size → ((m : ℕ) → o ≡ Some m → IsWithin m k) → later (before c) o ≡ Some n → IsEnd c n size
end-by c k size n None sum h e = none-is n e
end-by c k size n (Some m) sum h e =
    let low = h m refl in
    let is : before c + m ≡ n = cc e in
    let some : 1 ≤ m = low.some in
    let few : m ≤ k = low.few in
    record { some = omega (arith, some, is); few = omega (arith, few, is, sum); past = omega (arith, some, is) }

pub end_within : (names : NameSet) (c : Construct) (bytes : List ℕ) (n : ℕ) → construct_end names c bytes ≡ Some n → IsEnd c n (length bytes)
end_within names construct.Declaration [] n e = none-is n e
end_within names construct.Declaration (a ∷ []) n e = none-is n e
end_within names construct.Declaration (a ∷ b ∷ xs) n e =
    end-by construct.Declaration (length xs) (suc (suc (length xs))) n (declaration_end names xs) (omega arith) (end-within names (ender_of names xs) Between xs) e
end_within names construct.SectionStart [] n e = none-is n e
end_within names construct.SectionStart (a ∷ []) n e = none-is n e
end_within names construct.SectionStart (a ∷ b ∷ []) n e = none-is n e
end_within names construct.SectionStart (a ∷ b ∷ c ∷ xs) n e =
    end-by construct.SectionStart (length xs) (suc (suc (suc (length xs)))) n (end_after names Dso Between xs) (omega arith) (end-within names Dso Between xs) e
end_within names construct.SubsetEnd [] n e = none-is n e
end_within names construct.SubsetEnd (a ∷ xs) n e =
    end-by construct.SubsetEnd (length xs) (suc (length xs)) n (end_after names Mdc Between xs) (omega arith) (end-within names Mdc Between xs) e
end_within names (construct.Literal quote) xs n e =
    let low = quote-within quote xs n e in
    let some : 1 ≤ n = low.some in
    let few : n ≤ length xs = low.few in
    record { some = some; few = few; past = omega (arith, some) }
