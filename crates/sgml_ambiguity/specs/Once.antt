-- Models in which each name has one token.
use Rattle.std.specs.Prelude.{◌≡◌, ℕ, List, [], ◌∷◌, ◌++◌}
use Rattle.sgml_model.specs.Term.{Term, empty, name, pcdata, seq, or, and, opt, plus, rep, member, round, Terms, none, more, Token}
use Rattle.sgml_model.specs.Word.{HasToken}
use Rattle.sgml_hashes.specs.Hashes.{hash_of}

-- no two tokens have one name, and no two are #PCDATA
abbrev pub EachNameOnce : Term → Type 0
EachNameOnce x = (a b : Token) → HasToken x a → HasToken x b → a.label ≡ b.label → a.number ≡ b.number

-- the hashes of the names of the tokens, the last one's first; that of the empty name stands for #PCDATA
abbrev mutual
  pub hashes_in : Term → List ℕ
  hashes_in empty = []
  hashes_in (name k n) = hash_of n ∷ []
  hashes_in (pcdata k) = hash_of [] ∷ []
  hashes_in (seq ms) = hashes_of ms
  hashes_in (or ms) = hashes_of ms
  hashes_in (and ms) = hashes_of ms
  hashes_in (opt m) = hashes_in m
  hashes_in (plus m) = hashes_in m
  hashes_in (rep m) = hashes_in m
  hashes_in (member r left) = hashes_of left ++ hashes_in r
  hashes_in (round r m) = hashes_in m ++ hashes_in r

  pub hashes_of : Terms → List ℕ
  hashes_of none = []
  hashes_of (more m ms) = hashes_of ms ++ hashes_in m
