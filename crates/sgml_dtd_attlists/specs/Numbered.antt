-- How the table of names follows the lists.
use Rattle.std.specs.Prelude.{ℕ, ◌+◌, ◌^◌, ◌≡◌, ◌<◌, List, [], ◌∷◌, ◌++◌, length}
use Rattle.sgml_names.specs.Lists.{with_number}
use Rattle.sgml_dtd_attlists.specs.declared.list.AttributeList.{AttributeList}

-- the names of the lists with their numbers from n on
abbrev pub numbered : ℕ → List AttributeList → List (List ℕ × ℕ)
numbered n [] = []
numbered n (l ∷ ls) = with_number n l.names ++ numbered (n + 1) ls

pub record AreNumbered (lists : List AttributeList) (table : List (List ℕ × ℕ)) : Type 0 where
  pub are : table ≡ numbered 0 lists
  pub few : length lists < 2 ^ 32
