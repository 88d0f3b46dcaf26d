-- How a content model is spelled as a group.
use Rattle.std.specs.Prelude.{◌≡◌, ℕ, suc, ◌+◌, ◌<◌, ◌≤◌, List, [], ◌∷◌, ◌++◌, length, take}
use Rattle.sgml_model.specs.Term.{Term, empty, name, pcdata, seq, or, and, opt, plus, rep, member, round, Terms, none, more}

pub data Connector : Type 0 where
  in_order one_of all_of : Connector

pub data Mark : Type 0 where
  once some_times any_times : Mark

-- a token of a group
pub data Sign : Type 0 where
  begin finish text : Sign
  word : List ℕ → Sign
  by : Connector → Sign
  mark : Mark → Sign

abbrev mutual
  pub spelling : Term → List Sign
  spelling empty = []
  spelling (name k n) = word n ∷ []
  spelling (pcdata k) = text ∷ []
  spelling (seq ms) = begin ∷ (listing in_order ms ++ finish ∷ [])
  spelling (or ms) = begin ∷ (listing one_of ms ++ finish ∷ [])
  spelling (and ms) = begin ∷ (listing all_of ms ++ finish ∷ [])
  spelling (opt m) = spelling m ++ mark once ∷ []
  spelling (plus m) = spelling m ++ mark some_times ∷ []
  spelling (rep m) = spelling m ++ mark any_times ∷ []
  spelling (member r left) = []
  spelling (round r m) = []

  -- the members, with the connector between two of them
  pub listing : Connector → Terms → List Sign
  listing c none = []
  listing c (more m none) = spelling m
  listing c (more m (more n ms)) = spelling m ++ by c ∷ listing c (more n ms)

-- what a mark may follow: a name or a group, without a mark
abbrev pub IsBare : Term → Type 0
IsBare (name k n) = Unit {0}
IsBare (seq ms) = Unit {0}
IsBare (or ms) = Unit {0}
IsBare (and ms) = Unit {0}
IsBare _ = ⊥

abbrev mutual
  pub IsItem : Term → Type 0
  IsItem empty = ⊥
  IsItem (name k n) = Unit {0}
  IsItem (pcdata k) = Unit {0}
  IsItem (seq none) = ⊥
  IsItem (seq (more m ms)) = IsItem m × AreItems ms
  IsItem (or none) = ⊥
  IsItem (or (more m none)) = ⊥
  IsItem (or (more m (more n ms))) = IsItem m × IsItem n × AreItems ms
  IsItem (and none) = ⊥
  IsItem (and (more m none)) = ⊥
  IsItem (and (more m (more n ms))) = IsItem m × IsItem n × AreItems ms
  IsItem (opt m) = IsBare m × IsItem m
  IsItem (plus m) = IsBare m × IsItem m
  IsItem (rep m) = IsBare m × IsItem m
  IsItem (member r left) = ⊥
  IsItem (round r m) = ⊥

  pub AreItems : Terms → Type 0
  AreItems none = Unit {0}
  AreItems (more m ms) = IsItem m × AreItems ms

-- a group, with or without a mark
abbrev pub HasGroup : Term → Type 0
HasGroup (seq ms) = Unit {0}
HasGroup (or ms) = Unit {0}
HasGroup (and ms) = Unit {0}
HasGroup (opt m) = HasGroup m
HasGroup (plus m) = HasGroup m
HasGroup (rep m) = HasGroup m
HasGroup _ = ⊥

-- the tokens are numbered in order, from a up to z
abbrev mutual
  pub Numbered : Term → ℕ → ℕ → Type 0
  Numbered empty a z = ⊥
  Numbered (name k n) a z = (k ≡ a) × (z ≡ suc a)
  Numbered (pcdata k) a z = (k ≡ a) × (z ≡ suc a)
  Numbered (seq ms) a z = AllNumbered ms a z
  Numbered (or ms) a z = AllNumbered ms a z
  Numbered (and ms) a z = AllNumbered ms a z
  Numbered (opt m) a z = Numbered m a z
  Numbered (plus m) a z = Numbered m a z
  Numbered (rep m) a z = Numbered m a z
  Numbered (member r left) a z = ⊥
  Numbered (round r m) a z = ⊥

  pub AllNumbered : Terms → ℕ → ℕ → Type 0
  AllNumbered none a z = a ≡ z
  AllNumbered (more m ms) a z = (c : ℕ) × Numbered m a c × AllNumbered ms c z

abbrev pub IsNumbered : Term → Type 0
IsNumbered x = (z : ℕ) × Numbered x 0 z

-- the tokens spell the model, whose tokens are numbered from 0 in order
pub record Spells (tokens : List Sign) (x : Term) : Type 0 where
  pub item : IsItem x
  pub group : HasGroup x
  pub spelled : spelling x ≡ tokens
  pub numbered : IsNumbered x

-- some group begins so
pub record IsFront (tokens : List Sign) : Type 0 where
  pub of : Term
  pub rest : List Sign
  pub item : IsItem of
  pub group : HasGroup of
  pub spelled : spelling of ≡ tokens ++ rest

-- the first token where no group goes on, or the end where the tokens are no whole group
pub record IsBadAt (tokens : List Sign) (at : ℕ) : Type 0 where
  pub within : at ≤ length tokens
  pub front : IsFront (take at tokens)
  pub stops : at < length tokens → IsFront (take (at + 1) tokens) → ⊥
  pub short : (x : Term) → Spells tokens x → ⊥

-- a content model: each group has a member, and nothing is begun
abbrev mutual
  pub IsModel : Term → Type 0
  IsModel empty = ⊥
  IsModel (name k n) = Unit {0}
  IsModel (pcdata k) = Unit {0}
  IsModel (seq none) = ⊥
  IsModel (seq (more m ms)) = IsModel m × AreModels ms
  IsModel (or none) = ⊥
  IsModel (or (more m ms)) = IsModel m × AreModels ms
  IsModel (and none) = ⊥
  IsModel (and (more m none)) = ⊥
  IsModel (and (more m (more n ms))) = IsModel m × IsModel n × AreModels ms
  IsModel (opt m) = IsModel m
  IsModel (plus m) = IsModel m
  IsModel (rep m) = IsModel m
  IsModel (member r left) = ⊥
  IsModel (round r m) = ⊥

  pub AreModels : Terms → Type 0
  AreModels none = Unit {0}
  AreModels (more m ms) = IsModel m × AreModels ms
