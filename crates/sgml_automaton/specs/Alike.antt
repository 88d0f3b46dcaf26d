-- Whether two last tokens with their bits stand for one term.
use Rattle.std.specs.Prelude.{ℕ, suc, ◌+◌, Bool, true, false, not, ◌&&◌, ◌||◌, List, [], ◌∷◌, Option, Some, None, option_map, if◌then◌else◌}
use Rattle.sgml_model.specs.Term.{Term, empty, name, pcdata, seq, or, and, opt, plus, rep, member, round, Terms, none, more}
use Rattle.sgml_automaton.specs.Position.{Bits, bits_of, room, left_at, has}

abbrev pub no_terms : Terms → Bool
no_terms none = true
no_terms (more m ms) = false

-- a term without tokens, from the outside in: true for a sequence without rest, false for a begun member without others
abbrev mutual
  pub shape : Term → ℕ → ℕ → Bits → Option (List Bool)
  shape empty o k b = None
  shape (name j n) o k b = Some []
  shape (pcdata j) o k b = None
  shape (seq ms) o k b = shape_order ms o k b
  shape (or ms) o k b = shape_some ms o k b
  shape (and ms) o k b = if no_terms (left_at ms o k b) then option_map (λ w. false ∷ w) (shape_member ms o k b) else None
  shape (opt m) o k b = shape m o k b
  shape (plus m) o k b = None
  shape (rep m) o k b = None
  shape (member r left) o k b = None
  shape (round r m) o k b = None

  pub shape_order : Terms → ℕ → ℕ → Bits → Option (List Bool)
  shape_order none o k b = None
  shape_order (more m ms) o k b =
      if has m k then (if no_terms ms then option_map (λ w. true ∷ w) (shape m o k b) else None) else shape_order ms (o + room m) k b

  pub shape_some : Terms → ℕ → ℕ → Bits → Option (List Bool)
  shape_some none o k b = None
  shape_some (more m ms) o k b = if has m k then shape m o k b else shape_some ms (o + room m) k b

  pub shape_member : Terms → ℕ → ℕ → Bits → Option (List Bool)
  shape_member none o k b = None
  shape_member (more m ms) o k b = if has m k then shape m (suc o) k b else shape_member ms (suc (o + room m)) k b

abbrev pub same_bool : Bool → Bool → Bool
same_bool true y = y
same_bool false y = not y

abbrev pub same_list : List Bool → List Bool → Bool
same_list [] [] = true
same_list [] (y ∷ v) = false
same_list (x ∷ u) [] = false
same_list (x ∷ u) (y ∷ v) = same_bool x y && same_list u v

abbrev pub equal_shapes : Option (List Bool) → Option (List Bool) → Bool
equal_shapes None v = false
equal_shapes (Some u) None = false
equal_shapes (Some u) (Some v) = same_list u v

-- the same members are left
abbrev pub same_left : Terms → ℕ → ℕ → Bits → ℕ → Bits → Bool
same_left none o k b j e = true
same_left (more m ms) o k b j e = same_bool (has m k || b o) (has m j || e o) && same_left ms (suc (o + room m)) k b j e

-- one member has both tokens
abbrev pub shared : Terms → ℕ → ℕ → Bool
shared none k j = false
shared (more m ms) k j = (has m k && has m j) || shared ms k j

abbrev mutual
  pub alike : Term → ℕ → ℕ → Bits → ℕ → Bits → Bool
  alike empty o k b j e = true
  alike (name i n) o k b j e = true
  alike (pcdata i) o k b j e = true
  alike (seq ms) o k b j e = alike_order ms o k b j e
  alike (or ms) o k b j e = if shared ms k j then alike_some ms o k b j e else equal_shapes (shape_some ms o k b) (shape_some ms o j e)
  alike (and ms) o k b j e = same_left ms o k b j e && (if shared ms k j then alike_member ms o k b j e else equal_shapes (shape_member ms o k b) (shape_member ms o j e))
  alike (opt m) o k b j e = alike m o k b j e
  alike (plus m) o k b j e = alike m o k b j e
  alike (rep m) o k b j e = alike m o k b j e
  alike (member r left) o k b j e = true
  alike (round r m) o k b j e = true

  pub alike_order : Terms → ℕ → ℕ → Bits → ℕ → Bits → Bool
  alike_order none o k b j e = true
  alike_order (more m ms) o k b j e =
      if has m k then (if has m j then alike m o k b j e else false) else (if has m j then false else alike_order ms (o + room m) k b j e)

  pub alike_some : Terms → ℕ → ℕ → Bits → ℕ → Bits → Bool
  alike_some none o k b j e = true
  alike_some (more m ms) o k b j e = if has m k then alike m o k b j e else alike_some ms (o + room m) k b j e

  pub alike_member : Terms → ℕ → ℕ → Bits → ℕ → Bits → Bool
  alike_member none o k b j e = true
  alike_member (more m ms) o k b j e = if has m k then alike m (suc o) k b j e else alike_member ms (suc (o + room m)) k b j e

-- a shape without its outermost layer, where that is this one
abbrev pub within : Bool → Option (List Bool) → Option (List Bool)
within w None = None
within w (Some []) = None
within w (Some (v ∷ u)) = if same_bool v w then Some u else None

-- the shape within a sequence whose last member has the token
abbrev pub shape_last : Terms → ℕ → ℕ → Bits → Option (List Bool)
shape_last none o k b = None
shape_last (more m ms) o k b =
    if has m k then (if no_terms ms then shape m o k b else None) else shape_last ms (o + room m) k b

-- a name is all that there was
abbrev mutual
  pub bare : Term → ℕ → Bool
  bare empty k = false
  bare (name j n) k = true
  bare (pcdata j) k = false
  bare (seq ms) k = false
  bare (or ms) k = bare_some ms k
  bare (and ms) k = false
  bare (opt m) k = bare m k
  bare (plus m) k = false
  bare (rep m) k = false
  bare (member r left) k = false
  bare (round r m) k = false

  pub bare_some : Terms → ℕ → Bool
  bare_some none k = false
  bare_some (more m ms) k = if has m k then bare m k else bare_some ms k

-- the shape of a place that was found
abbrev pub core_shape : Option (Term × ℕ) → ℕ → Bits → Option (List Bool)
core_shape None k b = None
core_shape (Some p) k b = shape p.0 p.1 k b

-- the token k leaves the whole model
abbrev mutual
  pub unmoved : Term → ℕ → Bool
  unmoved empty k = false
  unmoved (name j n) k = false
  unmoved (pcdata j) k = true
  unmoved (seq ms) k = unmoved_first ms k
  unmoved (or ms) k = false
  unmoved (and ms) k = false
  unmoved (opt m) k = false
  unmoved (plus m) k = false
  unmoved (rep m) k = false
  unmoved (member r left) k = false
  unmoved (round r m) k = false

  pub unmoved_first : Terms → ℕ → Bool
  unmoved_first none k = false
  unmoved_first (more m ms) k = has m k && unmoved m k

-- two last tokens, or none at the start
abbrev pub same_place : Term → Option ℕ → List Bool → Option ℕ → List Bool → Bool
same_place x None b None e = true
same_place x None b (Some j) e = unmoved x j
same_place x (Some k) b None e = unmoved x k
same_place x (Some k) b (Some j) e = alike x 0 k (bits_of b) j (bits_of e)
