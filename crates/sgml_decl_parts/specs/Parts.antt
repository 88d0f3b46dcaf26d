-- What stands at a place of a declaration, in the mode there.
use Rattle.std.specs.Prelude.{true, false, length, ℕ, Bool, ◌+◌, ◌<◌, ◌==◌, ◌&&◌, ◌||◌, not, ◌≡◌, List, [], ◌∷◌, take, drop, map, Option, None, Some, Result, Ok, Err, if◌then◌else◌, nat_le, codes}
use Rattle.std.specs.List.{prefix_len}
use Rattle.std.specs.Str.{bytes_eq}
use Rattle.sgml_text.specs.Characters.{upper, is_digit, is_separator, is_quote}
use Rattle.sgml_text.specs.NameCharacters.{is_name_start, is_name_character}
use Rattle.sgml_text.specs.declared.name_set.NameSet.{NameSet}
use Rattle.sgml_delim.specs.declared.delim.Delim.{Delim}
use Rattle.sgml_delim.specs.declared.delim.Delim.TheVariants as d
use Rattle.sgml_text.specs.declared.unit.Unit.TheVariants.{Byte, Coded}
use Rattle.sgml_decl_parts.specs.declared.form.LiteralKind.{LiteralKind}
use Rattle.sgml_decl_parts.specs.declared.form.LiteralKind.TheVariants as kind
use Rattle.sgml_decl_parts.specs.declared.part.Part.{Part}
use Rattle.sgml_decl_parts.specs.declared.part.Part.TheVariants.{Gap, Name, Token, Reserved, Sign, Quote, EndQuote, Data, Char, NoChar, Refer, TextEnd, Closing}
use Rattle.sgml_decl_parts.specs.declared.part.PartFault.{PartFault}
use Rattle.sgml_decl_parts.specs.declared.part.PartFault.TheVariants.{Unclosed, Syntax}
use Rattle.sgml_decl_parts.specs.declared.part.Here.{Here}
use Rattle.sgml_decl_parts.specs.declared.part.Opened.{Opened}
use Rattle.sgml_decl_parts.specs.Bytes.{name_length, begins_name, begins_with, begins_digit, reference_end, number_after}

-- a reference to an entity, after its delimiter (9.4.4)
abbrev pub entity_reference : NameSet → List ℕ → Part
entity_reference names bytes =
    let n = name_length names bytes in Refer n (1 + n + reference_end (drop n bytes))

-- `%` and a name is a parameter reference, a `%` alone a sign (9.6.2)
abbrev pub percent_at : NameSet → List ℕ → Part
percent_at names bytes = if begins_name names bytes then entity_reference names bytes else Sign d.Pero

abbrev pub hash_at : NameSet → List ℕ → Part
hash_at names bytes = if begins_name names bytes then Reserved (name_length names bytes) else Sign d.Rni

-- the end of a comment of which n bytes stand before (10.3)
abbrev pub comment_at : ℕ → List ℕ → Result Part PartFault
comment_at n [] = Err Unclosed
comment_at n (b ∷ bytes) = if (b == 45) && begins_with 45 bytes then Ok (Gap (n + 2)) else comment_at (n + 1) bytes

abbrev pub mark_of : ℕ → Option Delim
mark_of b = if b == 63 then Some d.Opt else if b == 42 then Some d.Rep else None

-- the signs of mode Grp (9.6.1)
abbrev pub group_sign : ℕ → Option Delim
group_sign b =
    if b == 40 then Some d.Grpo else if b == 41 then Some d.Grpc else if b == 44 then Some d.Seq
    else if b == 124 then Some d.Or else if b == 38 then Some d.And else if b == 43 then Some d.Plus else mark_of b

-- the signs of mode Md; a mark stands directly after a group (9.6.1, 11.2.4)
abbrev pub outer_sign : Bool → ℕ → Option Delim
outer_sign after_group b =
    if b == 40 then Some d.Grpo else if b == 91 then Some d.Dso else if b == 45 then Some d.Minus
    else if b == 43 then Some d.Plus else if after_group then mark_of b else None

abbrev pub or_syntax : Option Delim → Result Part PartFault
or_syntax (Some s) = Ok (Sign s)
or_syntax None = Err Syntax

-- separators, names, tokens, `#` and `%`, which both modes have, or else a sign
abbrev pub common_at : NameSet → Option Delim → ℕ → List ℕ → Result Part PartFault
common_at names s b bytes =
    if is_separator b then Ok (Gap (1 + prefix_len is_separator bytes))
    else if is_name_start names b then Ok (Name (1 + name_length names bytes))
    else if is_name_character names b then Ok (Token (1 + name_length names bytes))
    else if b == 35 then Ok (hash_at names bytes)
    else if b == 37 then Ok (percent_at names bytes)
    else or_syntax s

-- In a group `-` may begin a token, but `--` is of no form there.
abbrev pub inner_at : NameSet → ℕ → List ℕ → Result Part PartFault
inner_at names b bytes =
    if (b == 45) && begins_with 45 bytes then Err Syntax else common_at names (group_sign b) b bytes

-- the last byte of the declaration's own text ends it
abbrev pub closing_at : Bool → List ℕ → Result Part PartFault
closing_at at_base [] = if at_base then Ok Closing else Err Syntax
closing_at at_base (b ∷ bytes) = Err Syntax

-- after `-`: a comment, or MINUS
abbrev pub minus_at : List ℕ → Result Part PartFault
minus_at [] = Ok (Sign d.Minus)
minus_at (b ∷ bytes) = if b == 45 then comment_at 2 bytes else Ok (Sign d.Minus)

-- outside groups and literals: mode Md
abbrev pub outer_at : NameSet → Bool → Bool → ℕ → List ℕ → Result Part PartFault
outer_at names at_base after_group b bytes =
    if b == 45 then minus_at bytes
    else if is_quote b then Ok (Quote b)
    else if b == 62 then closing_at at_base bytes
    else common_at names (outer_sign after_group b) b bytes

-- a function character by its name (9.5, 13.4.4)
abbrev pub function_named : List ℕ → Option ℕ
function_named name =
    if bytes_eq name (codes "RE") then Some 13 else if bytes_eq name (codes "RS") then Some 10
    else if bytes_eq name (codes "SPACE") then Some 32 else if bytes_eq name (codes "TAB") then Some 9 else None

-- function names fold as general names do (13.4.5)
abbrev pub function_character : Bool → List ℕ → Option ℕ
function_character fold name = if fold then function_named (map upper name) else function_named name

abbrev pub function_of : ℕ → Option ℕ → Part
function_of size None = NoChar size
function_of size (Some b) = Char size (Byte b)

abbrev pub function_reference : NameSet → Bool → List ℕ → Part
function_reference names fold bytes =
    let n = name_length names bytes in
    function_of (2 + n + reference_end (drop n bytes)) (function_character fold (take n bytes))

abbrev pub numbered : ℕ → ℕ → Part
numbered size n = if nat_le n 255 then Char size (Coded n) else NoChar size

abbrev pub number_reference : List ℕ → Part
number_reference bytes =
    let n = prefix_len is_digit bytes in
    numbered (2 + n + reference_end (drop n bytes)) (number_after 0 (take n bytes))

-- after `&#`: a character reference, where a name or a digit follows (9.5)
abbrev pub character_at : NameSet → Bool → List ℕ → Option Part
character_at names fold bytes =
    if begins_digit bytes then Some (number_reference bytes)
    else if begins_name names bytes then Some (function_reference names fold bytes) else None

-- after `&`: a character reference
abbrev pub coded_at : NameSet → Bool → List ℕ → Option Part
coded_at names fold [] = None
coded_at names fold (b ∷ bytes) = if b == 35 then character_at names fold bytes else None

-- an `&` or `%` that begins a reference: `%` in parameter literals, `&` in attribute value literals,
-- `&#` in both (9.6.1, modes Plt and Lit)
abbrev pub general_at : NameSet → ℕ → List ℕ → Option Part
general_at names b bytes = if (b == 38) && begins_name names bytes then Some (entity_reference names bytes) else None

abbrev pub parameter_at : NameSet → ℕ → List ℕ → Option Part
parameter_at names b bytes = if (b == 37) && begins_name names bytes then Some (entity_reference names bytes) else None

abbrev pub or_coded : NameSet → Bool → ℕ → List ℕ → Option Part → Option Part
or_coded names fold b bytes (Some p) = Some p
or_coded names fold b bytes None = if b == 38 then coded_at names fold bytes else None

abbrev pub referring_at : NameSet → Bool → LiteralKind → ℕ → List ℕ → Option Part
referring_at names fold kind.Parameter b bytes = or_coded names fold b bytes (parameter_at names b bytes)
referring_at names fold kind.Value b bytes = or_coded names fold b bytes (general_at names b bytes)
referring_at names fold _ b bytes = None

-- a byte that begins nothing in a literal
abbrev pub is_ordinary : ℕ → ℕ → Bool
is_ordinary quote b = not ((b == quote) || (b == 37) || (b == 38))

abbrev pub or_data : ℕ → List ℕ → Option Part → Part
or_data quote bytes (Some p) = p
or_data quote bytes None = Data (1 + prefix_len (is_ordinary quote) bytes)

-- in a literal: its quote, in the text in which it began; a reference; data
abbrev pub literal_at : NameSet → Bool → Opened → Bool → ℕ → List ℕ → Part
literal_at names fold o in_its_text b bytes =
    if (b == o.quote) && in_its_text then EndQuote
    else or_data o.quote bytes (referring_at names fold o.kind b bytes)

-- a text ends: that of the declaration or of a literal too early, or one that was opened
abbrev pub end_at : Here → Option Opened → Result Part PartFault
end_at h None = if h.at_base then Err Unclosed else Ok TextEnd
end_at h (Some o) = if h.at_base || h.in_its_text then Err Unclosed else Ok TextEnd

abbrev pub part_in : NameSet → Bool → Here → Option Opened → List ℕ → Result Part PartFault
part_in names fold h o [] = end_at h o
part_in names fold h (Some o) (b ∷ bytes) = Ok (literal_at names fold o h.in_its_text b bytes)
part_in names fold h None (b ∷ bytes) =
    if h.in_group then inner_at names b bytes else outer_at names h.at_base h.after_group b bytes

-- THE PART AT A PLACE
abbrev pub part_at : NameSet → Bool → Here → List ℕ → Result Part PartFault
part_at names fold h bytes = part_in names fold h h.literal bytes

-- how many bytes a part has
abbrev pub size_of : Part → ℕ
size_of (Gap n) = n
size_of (Name n) = n
size_of (Token n) = n
size_of (Reserved n) = 1 + n
size_of (Sign s) = 1
size_of (Quote b) = 1
size_of EndQuote = 1
size_of (Data n) = n
size_of (Char n u) = n
size_of (NoChar n) = n
size_of (Refer n m) = m
size_of TextEnd = 0
size_of Closing = 1

-- a part with bytes that isn't the end
abbrev pub Fills : Part → Type 0
Fills (Reserved n) = 0 < n
Fills (Refer n m) = (0 < n) × (n < m)
Fills TextEnd = ⊥
Fills Closing = ⊥
Fills p = 0 < size_of p

-- Only the end of a text that was opened has no bytes; the declaration ends with its own last byte.
abbrev pub Fits : Bool → List ℕ → Part → Type 0
Fits at_base bytes TextEnd = at_base ≡ false
Fits at_base bytes Closing = (at_base ≡ true) × (length bytes ≡ 1)
Fits at_base bytes p = Fills p
