-- THE SPECIFICATIONS of a start-tag as they are written (7.9): each has a name, unless it was left out,
-- and a literal or a value without quotes.
use Rattle.std.specs.Prelude.{ℕ, ◌-◌, List, [], ◌∷◌, Option, Some, None, slice_index_or}
use Rattle.sgml_syntax.specs.declared.syntax.Syntax.{Syntax}
use Rattle.sgml_markup.specs.declared.kinds.Part.{Part}
use Rattle.sgml_markup.specs.declared.kinds.PartKind.{PartKind}
use Rattle.sgml_markup.specs.declared.kinds.PartKind.TheVariants as part
use Rattle.sgml_markup.specs.Tags.{bytes_of}
use Rattle.sgml_markup.specs.Forms.{parts_of_tag}

-- a literal goes on after its quote at this place of the tag (7.9.3); a value without quotes is its
-- characters (7.9.3.1)
pub data Spelled : Type 0 where
  Quoted : (quote from : ℕ) → Spelled
  Bare : (bytes : List ℕ) → Spelled

pub record Written : Type 0 where
  pub name : Option (List ℕ)
  pub value : Spelled

abbrev pub of_name : Option (List ℕ) → Spelled → Written
of_name name value = record { name = name; value = value }

-- after a name a value is due
abbrev pub written_at : List ℕ → Option (List ℕ) → Part → (Option (List ℕ) → List Written) → PartKind → List Written
written_at tag name x more part.ElementName = more None
written_at tag name x more part.AttributeName = more (Some (bytes_of tag x))
written_at tag name x more part.Bare = of_name name (Bare (bytes_of tag x)) ∷ more None
written_at tag name x more part.Quoted = of_name name (Quoted (slice_index_or tag (x.from - 1) 0) x.from) ∷ more None

abbrev pub written_from : List ℕ → Option (List ℕ) → List Part → List Written
written_from tag name [] = []
written_from tag name (x ∷ xs) = written_at tag name x (λ n. written_from tag n xs) x.kind

-- those of a whole tag
abbrev pub written : Syntax → List ℕ → List Written
written syntax tag = written_from tag None (parts_of_tag syntax tag)
