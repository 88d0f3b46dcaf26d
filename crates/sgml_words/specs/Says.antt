-- What the words of the command say, as a grammar (profile).
use Rattle.std.specs.Prelude.{◌≡◌, ◌≢◌, true, List, [], ◌∷◌, ◌++◌, map, Some, AllPairs}
use Rattle.sgml_words.specs.Words.{Text, Use, as_file, dashes, is_option, may_stand, value_in}
use Rattle.sgml_words.specs.Told.{told}
use Rattle.sgml_words.specs.declared.command.Command.{Command}

-- the words give these uses
pub data Says : List Text → List Use → Type 0 where
  -- no word is left
  nothing : Says [] []
  -- `--name v`
  apart : (name v : Text) (words : List Text) (uses : List Use) → is_option name ≡ true → may_stand v ≡ true
      → Says words uses → Says ((dashes ++ name) ∷ v ∷ words) ((name, v) ∷ uses)
  -- `--name=v`
  joined : (name v : Text) (words : List Text) (uses : List Use) → is_option name ≡ true
      → Says words uses → Says ((dashes ++ (name ++ 61 ∷ v)) ∷ words) ((name, v) ∷ uses)
  -- FILE
  file : (word : Text) (words : List Text) (uses : List Use) → may_stand word ≡ true
      → Says words uses → Says (word ∷ words) (as_file word ∷ uses)
  -- `--`, after which each word is a FILE
  closed : (words : List Text) → Says (dashes ∷ words) (map as_file words)

-- no option, and no FILE, stands twice
abbrev pub AreOnce : List Use → Type 0
AreOnce uses = AllPairs (λ u v. u.0 ≢ v.0) uses

-- the words are those of this command
pub record IsOf (words : List Text) (c : Command) : Type 0 where
  pub uses : List Use
  pub says : Says words uses
  pub once : AreOnce uses
  pub tells : told (value_in uses) ≡ Some c
