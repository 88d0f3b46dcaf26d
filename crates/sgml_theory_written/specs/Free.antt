-- Content models in which data may stand or not, whatever comes after it.
use Rattle.std.specs.Prelude.{◌≡◌, Bool, true, false, ◌&&◌, ◌||◌}
use Rattle.sgml_theory_worked.specs.model.Term.{Term, empty, name, pcdata, seq, or, and, opt, plus, rep, member, round, Terms, none, more, done}
use Rattle.sgml_theory_worked.specs.model.Choice.{left_by}
use Rattle.sgml_theory_worked.specs.theory_reading.Facets.{Token, Pcdata}
use Rattle.sgml_theory_worked.specs.theory_reading.Context.{token_left}

-- DATA IS FREE in what is left: after it the same tokens can come as without it, each leaves the same, and the element
-- may end where it might have ended
pub record DataIsFree (r : Term) : Type 0 where
  pub same_next : (k : Token) → left_by (token_left r Pcdata) k ≡ left_by r k
  pub same_end : done (token_left r Pcdata) ≡ done r

-- MIXED CONTENT (11.2.4): a group of #PCDATA alone, or a repeated OR group of #PCDATA and element types, as
-- (#PCDATA | a | b)*
abbrev pub is_token : Term → Bool
is_token (name k n) = true
is_token (pcdata k) = true
is_token m = false

abbrev pub are_tokens : Terms → Bool
are_tokens none = true
are_tokens (more m ms) = is_token m && are_tokens ms

-- of tokens in an OR group, or of one token
abbrev pub is_group : Term → Bool
is_group (or ms) = are_tokens ms
is_group (seq (more m none)) = is_token m
is_group m = false

-- what a token leaves of itself, and of the group
abbrev pub is_rest : Term → Bool
is_rest empty = true
is_rest (pcdata k) = true
is_rest m = false

abbrev pub is_over : Term → Bool
is_over (seq (more m none)) = is_rest m
is_over m = is_rest m

abbrev pub is_mixed : Term → Bool
is_mixed empty = true
is_mixed (pcdata k) = true
is_mixed (seq (more (pcdata k) none)) = true
is_mixed (plus m) = is_group m
is_mixed (rep m) = is_group m
is_mixed (round r m) = is_over r && is_group m
is_mixed m = false

-- ELEMENT CONTENT: no #PCDATA stands in the model
abbrev mutual
  pub is_textless : Term → Bool
  is_textless empty = true
  is_textless (name k n) = true
  is_textless (pcdata k) = false
  is_textless (seq ms) = are_textless ms
  is_textless (or ms) = are_textless ms
  is_textless (and ms) = are_textless ms
  is_textless (opt m) = is_textless m
  is_textless (plus m) = is_textless m
  is_textless (rep m) = is_textless m
  is_textless (member r ms) = is_textless r && are_textless ms
  is_textless (round r m) = is_textless r && is_textless m

  pub are_textless : Terms → Bool
  are_textless none = true
  are_textless (more m ms) = is_textless m && are_textless ms

-- the one or the other
abbrev pub is_free : Term → Bool
is_free r = is_mixed r || is_textless r
