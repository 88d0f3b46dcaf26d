-- Names as a syntax has them (13.4.5, 13.4.8).
use Rattle.std.specs.Prelude.{ℕ, Bool, List, if◌then◌else◌, length, map, nat_lt}
use Rattle.sgml_text.specs.Characters.{upper}
use Rattle.sgml_syntax.specs.declared.syntax.Syntax.{Syntax}

-- folded: a letter in upper case; else as it is spelled
abbrev pub cased_character : Bool → ℕ → ℕ
cased_character folded b = if folded then upper b else b

-- folded: each letter in upper case; else as it is spelled
abbrev pub cased : Bool → List ℕ → List ℕ
cased folded name = if folded then map upper name else name

-- NAMECASE GENERAL: the names of all but entities (13.4.5)
abbrev pub general_name : Syntax → List ℕ → List ℕ
general_name syntax name = cased syntax.general_fold name

abbrev pub general_names : Syntax → List (List ℕ) → List (List ℕ)
general_names syntax names = map (general_name syntax) names

-- NAMECASE ENTITY: the names of entities (13.4.5)
abbrev pub entity_name : Syntax → List ℕ → List ℕ
entity_name syntax name = cased syntax.entity_fold name

-- NAMELEN, the greatest length of a name or token (13.4.8), is passed
abbrev pub is_long : Syntax → List ℕ → Bool
is_long syntax name = nat_lt syntax.quantities.namelen (length name)
