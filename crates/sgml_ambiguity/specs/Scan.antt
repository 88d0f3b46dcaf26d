-- The tokens that can come first in a model, those that can come after its last, and a pair of one name, as lists.
use Rattle.std.specs.Prelude.{ℕ, Bool, true, false, ◌==◌, List, [], ◌∷◌, ◌++◌, Option, Some, None, option_map, bytes_eq, map, if◌then◌else◌}
use Rattle.std.specs.Option.{option_or, option_copied}
use Rattle.sgml_model.specs.Term.{Term, empty, name, pcdata, seq, or, and, opt, plus, rep, member, round, Terms, none, more, Token as Tok, done, all_done}
use Rattle.sgml_ambiguity.specs.declared.token.Token.{Token}

abbrev pub token : ℕ → Option (List ℕ) → Tok
token k l = record { number = k; label = l }

-- a token of the program, without where its name lies
abbrev pub token_view : Token → Tok
token_view t = token t.number (option_copied t.name)

abbrev pub views : List Token → List Tok
views ts = map token_view ts

abbrev pub pair_view : Token × Token → Tok × Tok
pair_view p = (token_view p.0, token_view p.1)

abbrev pub same_label : Option (List ℕ) → Option (List ℕ) → Bool
same_label None None = true
same_label None (Some m) = false
same_label (Some n) None = false
same_label (Some n) (Some m) = bytes_eq n m

-- the number of the first token of a name
abbrev pub first_number : List Tok → Option (List ℕ) → Option ℕ
first_number [] l = None
first_number (b ∷ bs) l = if same_label l b.label then Some b.number else first_number bs l

-- two tokens of one name, where the number is another
abbrev pub differing : Tok → Option ℕ → Option (Tok × Tok)
differing a None = None
differing a (Some n) = if a.number == n then None else Some (a, token n a.label)

-- the token and the first of its name in a list, unless that is the token
abbrev pub against : Tok → List Tok → Option (Tok × Tok)
against a bs = differing a (first_number bs a.label)

-- the first of one list and the first of the other that have one name
unfoldable pub cross : List Tok → List Tok → Option (Tok × Tok)
cross [] bs = None
cross (a ∷ as₁) bs = option_or (against a bs) (cross as₁ bs)

-- the list holds the token, as the first of its name
abbrev pub is_number : Option ℕ → ℕ → Bool
is_number None k = false
is_number (Some n) k = n == k

abbrev pub holds : List Tok → Tok → Bool
holds bs a = is_number (first_number bs a.label) a.number

-- the tokens of a list that another one doesn't hold
abbrev pub without : List Tok → List Tok → List Tok
without [] bs = []
without (a ∷ as₁) bs = if holds bs a then without as₁ bs else a ∷ without as₁ bs

abbrev pub when : {A : Type 0} → Bool → List A → List A
when true xs = xs
when false xs = []

-- the first of one list and the first of the other that have one name, found from the other one
abbrev pub turned : Tok × Tok → Tok × Tok
turned p = (p.1, p.0)

abbrev pub crossed : List Tok → List Tok → Option (Tok × Tok)
crossed as₁ bs = option_map turned (cross bs as₁)

abbrev mutual
  pub firsts : Term → List Tok
  firsts empty = []
  firsts (name k n) = token k (Some n) ∷ []
  firsts (pcdata k) = token k None ∷ []
  firsts (seq ms) = firsts_in_order ms
  firsts (or ms) = firsts_of_some ms
  firsts (and ms) = firsts_of_some ms
  firsts (opt m) = firsts m
  firsts (plus m) = firsts m
  firsts (rep m) = firsts m
  firsts (member r left) = []
  firsts (round r m) = []

  pub firsts_in_order : Terms → List Tok
  firsts_in_order none = []
  firsts_in_order (more m ms) = when (done m) (firsts_in_order ms) ++ firsts m

  pub firsts_of_some : Terms → List Tok
  firsts_of_some none = []
  firsts_of_some (more m ms) = firsts_of_some ms ++ firsts m

-- the tokens that can come first in the first member
abbrev pub heads : Terms → List Tok
heads none = []
heads (more m ms) = firsts m

abbrev mutual
  pub lasts : Term → List Tok
  lasts empty = []
  lasts (name k n) = []
  lasts (pcdata k) = token k None ∷ []
  lasts (seq ms) = lasts_in_order ms
  lasts (or ms) = lasts_of_some ms
  lasts (and ms) = lasts_among ms
  lasts (opt m) = lasts m
  lasts (plus m) = without (lasts m) (firsts m) ++ firsts m
  lasts (rep m) = without (lasts m) (firsts m) ++ firsts m
  lasts (member r left) = []
  lasts (round r m) = []

  pub lasts_in_order : Terms → List Tok
  lasts_in_order none = []
  lasts_in_order (more m ms) = (lasts_in_order ms ++ when (all_done ms) (lasts m)) ++ when (all_done ms) (heads ms)

  pub lasts_of_some : Terms → List Tok
  lasts_of_some none = []
  lasts_of_some (more m ms) = lasts_of_some ms ++ lasts m

  pub lasts_among : Terms → List Tok
  lasts_among none = []
  lasts_among (more m ms) = (lasts_among ms ++ lasts m) ++ when (done m) (firsts m)

-- the pair that is found
abbrev mutual
  pub clash : Term → Option (Tok × Tok)
  clash empty = None
  clash (name k n) = None
  clash (pcdata k) = None
  clash (seq ms) = clash_in_order ms
  clash (or ms) = clash_apart ms
  clash (and ms) = clash_among ms
  clash (opt m) = clash m
  clash (plus m) = option_or (clash m) (cross (lasts m) (firsts m))
  clash (rep m) = option_or (clash m) (cross (lasts m) (firsts m))
  clash (member r left) = None
  clash (round r m) = None

  pub clash_in_order : Terms → Option (Tok × Tok)
  clash_in_order none = None
  clash_in_order (more m ms) = option_or (clash_in_order ms) (option_or (clash m)
      (option_or (cross (lasts m) (firsts_in_order ms)) (cross (when (done m) (firsts m)) (firsts_in_order ms))))

  pub clash_apart : Terms → Option (Tok × Tok)
  clash_apart none = None
  clash_apart (more m ms) = option_or (clash_apart ms) (option_or (clash m) (cross (firsts m) (firsts_of_some ms)))

  pub clash_among : Terms → Option (Tok × Tok)
  clash_among none = None
  clash_among (more m ms) = option_or (clash_among ms) (option_or (clash m)
      (option_or (cross (lasts m) (firsts_of_some ms)) (option_or (cross (firsts m) (firsts_of_some ms)) (crossed (lasts_of_some ms) (firsts m)))))
