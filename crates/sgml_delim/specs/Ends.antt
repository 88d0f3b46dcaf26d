-- Where what begins with `<!`, or ends a document type, has its own end.
use Rattle.std.specs.Prelude.{ℕ, Bool, true, false, not, List, [], ◌∷◌, ◌==◌, ◌&&◌, ◌||◌, if◌then◌else◌, Option, None, Some, ◌+◌, take, codes}
use Rattle.std.specs.List.{prefix_len}
use Rattle.sgml_text.specs.declared.name_set.NameSet.{NameSet}
use Rattle.sgml_text.specs.NameCharacters.{is_name_character}
use Rattle.sgml_text.specs.Characters.{is_quote, is_word, is_letter, is_digit}
use Rattle.sgml_delim.specs.declared.ends.Inside.{Inside}
use Rattle.sgml_delim.specs.declared.ends.Inside.TheVariants.{Between, Name, Minus, Literal, Comment, CommentMinus}
use Rattle.sgml_delim.specs.declared.ends.Ender.{Ender}
use Rattle.sgml_delim.specs.declared.ends.Ender.TheVariants.{Mdc, Dso, Either}

-- so many bytes more
abbrev pub later : ℕ → Option ℕ → Option ℕ
later i None = None
later i (Some n) = Some (i + n)

-- what a byte outside all of them begins
abbrev pub begun : NameSet → ℕ → Inside
begun names b =
    if is_quote b then Literal b else if b == 45 then Minus else if is_name_character names b then Name else Between

-- In a declaration a literal ends with its quote, a comment begins and ends with `--`, and a name is
-- the longest run of name characters, so that `a--b` has no comment (9.6.1, 10.1.2, 10.3).
abbrev pub inside_after : NameSet → Inside → ℕ → Inside
inside_after names Between b = begun names b
inside_after names Name b = if is_name_character names b then Name else begun names b
inside_after names Minus b = if b == 45 then Comment else begun names b
inside_after names (Literal q) b = if b == q then Between else Literal q
inside_after names Comment b = if b == 45 then CommentMinus else Comment
inside_after names CommentMinus b = if b == 45 then Between else Comment

-- any byte but this one
abbrev pub is_other : ℕ → ℕ → Bool
is_other end b = not (b == end)

-- a byte that stays in what the byte before it stands in, a name, a literal or a comment, and ends nothing
abbrev pub stays_in : Inside → ℕ → Bool
stays_in Name b = is_letter b || is_digit b
stays_in (Literal q) b = is_other q b
stays_in Comment b = is_other 45 b
stays_in _ b = false

-- outside literals and comments
abbrev pub is_outside : Inside → Bool
is_outside (Literal q) = false
is_outside Comment = false
is_outside CommentMinus = false
is_outside _ = true

-- MDC ends a declaration (10); DSO ends the start of a marked section (10.4); either ends what stands
-- before the subset of a document type (11.1).
abbrev pub ends_declaration : Ender → ℕ → Bool
ends_declaration Mdc b = b == 62
ends_declaration Dso b = b == 91
ends_declaration Either b = (b == 62) || (b == 91)

-- how many bytes there are up to the first end outside literals and comments, with it
abbrev pub end_after : NameSet → Ender → Inside → List ℕ → Option ℕ
end_after names ender inside [] = None
end_after names ender inside (b ∷ bytes) =
    if is_outside inside && ends_declaration ender b then Some 1
    else later 1 (end_after names ender (inside_after names inside b) bytes)

-- the name characters that a text begins with
abbrev pub first_name : NameSet → List ℕ → List ℕ
first_name names bytes = take (prefix_len (is_name_character names) bytes) bytes

-- whether the keyword after MDO is DOCTYPE (11.1)
abbrev pub is_doctype : NameSet → List ℕ → Bool
is_doctype names bytes = is_word (codes "DOCTYPE") (first_name names bytes)

-- what ends the declaration of this text, which follows MDO
abbrev pub ender_of : NameSet → List ℕ → Ender
ender_of names bytes = if is_doctype names bytes then Either else Mdc

-- HOW MANY BYTES after MDO belong to a declaration, if its end is there (10, 11.1)
abbrev pub declaration_end : NameSet → List ℕ → Option ℕ
declaration_end names bytes = end_after names (ender_of names bytes) Between bytes
