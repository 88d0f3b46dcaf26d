-- Which delimiter a text begins with that may go on, as a function (9.6.1, 9.6.2): each test of one holds
-- whatever follows, fails whatever follows, or isn't decided; the first that doesn't fail tells.
use Rattle.std.specs.Prelude.{ℕ, Bool, ◌==◌, ◌&&◌, ◌||◌, List, [], ◌∷◌, drop, length, if◌then◌else◌}
use Rattle.sgml_syntax.specs.declared.syntax.Syntax.{Syntax}
use Rattle.sgml_delim.specs.declared.delim.Delim.{Delim}
use Rattle.sgml_delim.specs.declared.delim.Mode.{Mode}
use Rattle.sgml_delim.specs.declared.delim.Need.{Need}
use Rattle.sgml_delim.specs.declared.delim.Verdict.{Verdict}
use Rattle.sgml_delim.specs.declared.delim.Verdict.TheVariants.{Holds, Fails, Undecided}
use Rattle.sgml_delim.specs.declared.delim.Recognised.{Recognised}
use Rattle.sgml_delim.specs.declared.delim.Recognised.TheVariants as r
use Rattle.sgml_delim.specs.Tables.{string, delims, need, allowed, follows, in_force, is_nothing, is_after_mdo}

-- whether the text begins with this string
abbrev pub prefix_verdict : List ℕ → List ℕ → Verdict
prefix_verdict [] bytes = Holds
prefix_verdict (c ∷ string) [] = Undecided
prefix_verdict (c ∷ string) (b ∷ bytes) = if c == b then prefix_verdict string bytes else Fails

-- whether what must follow a delimiter follows
abbrev pub follow_verdict : Syntax → Need → List ℕ → Verdict
follow_verdict s n [] = if is_nothing n then Holds else Undecided
follow_verdict s n (b ∷ []) =
    if is_nothing n || allowed s n b then Holds else if is_after_mdo n && (b == 45) then Undecided else Fails
follow_verdict s n (b ∷ c ∷ bytes) = if follows s n (b ∷ c ∷ bytes) then Holds else Fails

-- the string first, then what must follow it
abbrev pub after_prefix : Verdict → Verdict → Verdict
after_prefix Holds then_ = then_
after_prefix v then_ = v

-- whether this delimiter stands at the head of the text
abbrev pub verdict : Syntax → Mode → Bool → Delim → List ℕ → Verdict
verdict s m net x bytes =
    if in_force s m net x
    then after_prefix (prefix_verdict (string x) bytes) (follow_verdict s (need m x) (drop (length (string x)) bytes))
    else Fails

-- this delimiter by its verdict, or else what the others tell
abbrev pub by_verdict : Delim → Recognised → Verdict → Recognised
by_verdict x others Holds = r.Found x (length (string x))
by_verdict x others Fails = others
by_verdict x others Undecided = r.NeedMore

-- the first of these delimiters that stands there or may
abbrev pub recognised_among : Syntax → Mode → Bool → List Delim → List ℕ → Recognised
recognised_among s m net [] bytes = r.Plain
recognised_among s m net (x ∷ xs) bytes = by_verdict x (recognised_among s m net xs bytes) (verdict s m net x bytes)

-- THE DELIMITER of the mode that the text begins with, none, or that more decides
unfoldable pub recognised : Syntax → Mode → Bool → List ℕ → Recognised
recognised s m net bytes = recognised_among s m net (delims m) bytes
