-- The strings of a short reference mapping declaration as they are written (11.5, 13.4.6.2).
use Rattle.std.specs.Prelude.{ℕ, ◌+◌, List, [], ◌∷◌, ◌++◌, replicate, Option, Some, None, if◌then◌else◌, is_some, option_map}
use Rattle.std.specs.List.{flat_map}
use Rattle.std.specs.Str.{bytes_eq}
use Rattle.sgml_syntax.specs.declared.syntax.Syntax.{Syntax}
use Rattle.sgml_names.specs.Naming.{cased, entity_name}
use Rattle.sgml_shortref.specs.Strings.{Mark, Is, Blanks, strings}
use Rattle.sgml_shortref.specs.Maps.{entity_in}

-- a byte as it is, and for a blank sequence as many letters B as it has blanks at least (B sequence, 9.6.5)
abbrev pub mark_written : Mark → List ℕ
mark_written (Is b) = b ∷ []
mark_written (Blanks n) = replicate n 66

abbrev pub written : List Mark → List ℕ
written marks = flat_map mark_written marks

-- the number of the first of these strings that is written so, where they are numbered from n
abbrev pub written_from : ℕ → List (List Mark) → List ℕ → Option ℕ
written_from n [] text = None
written_from n (marks ∷ more) text = if bytes_eq text (written marks) then Some n else written_from (n + 1) more text

-- The number of the string that a literal is. Delimiter strings are folded as general names are (13.4.5, NAMECASE), so
-- b is B too where that is so. Where the syntax has no short references none is one.
abbrev pub string_of : Syntax → List ℕ → Option ℕ
string_of syntax text = if syntax.shortrefs then written_from 0 strings (cased syntax.general_fold text) else None

-- a string by its number, with its entity
abbrev pub pair_of : Syntax → List ℕ × List ℕ → Option (ℕ × List ℕ)
pair_of syntax p = option_map (λ n. (n, entity_name syntax p.1)) (string_of syntax p.0)

-- one pair more and then the others, unless it is none or its string was there
abbrev pub with_pair : List (ℕ × List ℕ) → Option (ℕ × List ℕ) → (List (ℕ × List ℕ) → Option (List (ℕ × List ℕ))) → Option (List (ℕ × List ℕ))
with_pair done None others = None
with_pair done (Some p) others = if is_some (entity_in done p.0) then None else others (done ++ p ∷ [])

-- the pairs behind those that are done, unless a literal is none of the strings, or one that stood before
abbrev pub pairs_in : Syntax → List (ℕ × List ℕ) → List (List ℕ × List ℕ) → Option (List (ℕ × List ℕ))
pairs_in syntax done [] = Some done
pairs_in syntax done (p ∷ ps) = with_pair done (pair_of syntax p) (λ more. pairs_in syntax more ps)
