-- Words of a content model: tokens that can come one after another (ISO 8879, 11.2.4).
use Rattle.std.specs.Prelude.{◌≡◌, ◌⊎◌, List, [], ◌∷◌, Some, None}
use Rattle.sgml_model.specs.Term.{Token, Term, empty, name, pcdata, seq, or, and, opt, plus, rep, member, round, Terms, none, more, Takes}

-- the tokens can come one after another, and r' is left after them
abbrev pub After : Term → List Token → Term → Type 0
After r [] r' = r' ≡ r
After r (t ∷ ts) r' = (s : Term) × Takes r t s × After s ts r'

-- the token stands in the term
abbrev mutual
  pub HasToken : Term → Token → Type 0
  HasToken empty t = ⊥
  HasToken (name k n) t = t ≡ record { number = k; label = Some n }
  HasToken (pcdata k) t = t ≡ record { number = k; label = None }
  HasToken (seq ms) t = SomeHasToken ms t
  HasToken (or ms) t = SomeHasToken ms t
  HasToken (and ms) t = SomeHasToken ms t
  HasToken (opt m) t = HasToken m t
  HasToken (plus m) t = HasToken m t
  HasToken (rep m) t = HasToken m t
  HasToken (member r left) t = HasToken r t ⊎ SomeHasToken left t
  HasToken (round r m) t = HasToken r t ⊎ HasToken m t

  pub SomeHasToken : Terms → Token → Type 0
  SomeHasToken none t = ⊥
  SomeHasToken (more m ms) t = HasToken m t ⊎ SomeHasToken ms t
