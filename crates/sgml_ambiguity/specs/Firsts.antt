-- The tokens that can come first, with an index of their names.
use Rattle.std.specs.Prelude.{List}
use Rattle.std.specs.Coded.{Coded-set, coded_option, coded_ℕ, Π_prop}
use Rattle.std.specs.Prelude.{◌≡◌, ℕ, Option, map}
use Rattle.sgml_ambiguity.specs.declared.token.Token.{Token}
use Rattle.sgml_ambiguity.specs.Names.{number_in}
use Rattle.sgml_ambiguity.specs.Scan.{token_view, first_number}

-- the index finds each name's first token
abbrev pub IsIndexed : List Token → List (List ℕ × ℕ) → Option ℕ → Type 0
IsIndexed tokens names text = (l : Option (List ℕ)) → number_in names text l ≡ first_number (map token_view tokens) l

pub IsIndexed-prop : (tokens : List Token) (names : List (List ℕ × ℕ)) (text : Option ℕ) → IsProp (IsIndexed tokens names text)
IsIndexed-prop tokens names text = Π_prop (λ l. Coded-set (coded_option coded_ℕ) (number_in names text l) (first_number (map token_view tokens) l))
