-- Where a name stands in a declaration, its bytes are a word.
use Rattle.std.proofs.Common.{◌≡◌, ℕ, ◌+◌, Bool, true, false, ◌||◌, ◌&&◌, ◌==◌, nat_le, List, [], ◌∷◌, take, drop, Option, None, Some, Result, Ok, Err, refl, if◌then◌else◌}
use Rattle.std.specs.List.{prefix_len}
use Rattle.sgml_event_lines.specs.text.declared.name_set.NameSet.{NameSet}
use Rattle.sgml_event_lines.specs.text.Characters.{is_digit, is_separator, is_quote}
use Rattle.sgml_event_lines.specs.text.NameCharacters.{is_name_start, is_name_character}
use Rattle.sgml_event_lines.specs.esis.Grammar.{is_word}
use Rattle.sgml_theory_kinds.specs.delim.declared.delim.Delim.{Delim}
use Rattle.sgml_theory_kinds.specs.delim.declared.delim.Delim.TheVariants as d
use Rattle.sgml_event_lines.specs.decl_parts.declared.form.LiteralKind.{LiteralKind}
use Rattle.sgml_event_lines.specs.decl_parts.declared.form.LiteralKind.TheVariants as kind
use Rattle.sgml_event_lines.specs.decl_parts.declared.part.Part.{Part}
use Rattle.sgml_event_lines.specs.decl_parts.declared.part.Part.TheVariants as p
use Rattle.sgml_event_lines.specs.decl_parts.declared.part.PartFault.{PartFault}
use Rattle.sgml_event_lines.specs.decl_parts.declared.part.Here.{Here}
use Rattle.sgml_event_lines.specs.decl_parts.declared.part.Opened.{Opened}
use Rattle.sgml_event_lines.specs.decl_parts.Bytes.{name_length, begins_name, begins_with, begins_digit, reference_end, number_after}
use Rattle.sgml_event_lines.specs.decl_parts.Parts.{entity_reference, comment_at, group_sign, outer_sign, or_syntax, common_at, inner_at, closing_at, minus_at, outer_at, function_character, function_of, numbered, character_at, coded_at, general_at, parameter_at, or_coded, referring_at, or_data, literal_at, end_at, part_in, part_at}
use Rattle.sgml_theory_words.proofs.Bytes.{name-word}

-- of the bytes that begin with the part
abbrev pub IsNamed : List ℕ → Part → Type 0
IsNamed bytes (p.Name n) = is_word (take n bytes) ≡ true
IsNamed bytes _ = Unit {0}

abbrev pub HasName : {F : Type 0} → List ℕ → Result Part F → Type 0
HasName bytes (Ok part) = IsNamed bytes part
HasName bytes (Err fault) = Unit {0}

abbrev MayName : List ℕ → Option Part → Type 0
MayName bytes (Some part) = IsNamed bytes part
MayName bytes None = Unit {0}

if-part : (bytes : List ℕ) (t : Bool) (x y : Part) → IsNamed bytes x → IsNamed bytes y → IsNamed bytes (if t then x else y)
if-part bytes true x y f g = f
if-part bytes false x y f g = g

if-found : (bytes : List ℕ) (t : Bool) (x y : Option Part) → MayName bytes x → MayName bytes y → MayName bytes (if t then x else y)
if-found bytes true x y f g = f
if-found bytes false x y f g = g

when-read : (bytes : List ℕ) (t : Bool) (x y : Result Part PartFault) → (t ≡ true → HasName bytes x) → HasName bytes y → HasName bytes (if t then x else y)
when-read bytes true x y f g = f refl
when-read bytes false x y f g = g

if-read : (bytes : List ℕ) (t : Bool) (x y : Result Part PartFault) → HasName bytes x → HasName bytes y → HasName bytes (if t then x else y)
if-read bytes t x y f g = when-read bytes t x y (λ e. f) g

-- OUTSIDE LITERALS

sign-named : (bytes : List ℕ) (o : Option Delim) → HasName bytes (or_syntax o)
sign-named bytes (Some s) = tt
sign-named bytes None = tt

common-named : (names : NameSet) (s : Option Delim) (b : ℕ) (bytes : List ℕ) → HasName (b ∷ bytes) (common_at names s b bytes)
common-named names s b bytes =
    if-read (b ∷ bytes) (is_separator b) _ _ tt
    (when-read (b ∷ bytes) (is_name_start names b) _ _ (λ e. name-word names b bytes e)
    (if-read (b ∷ bytes) (is_name_character names b) _ _ tt
    (if-read (b ∷ bytes) (b == 35) _ _ (if-part (b ∷ bytes) (begins_name names bytes) (p.Reserved (name_length names bytes)) (p.Sign d.Rni) tt tt)
    (if-read (b ∷ bytes) (b == 37) _ _ (if-part (b ∷ bytes) (begins_name names bytes) (entity_reference names bytes) (p.Sign d.Pero) tt tt)
    (sign-named (b ∷ bytes) s)))))

inner-named : (names : NameSet) (b : ℕ) (bytes : List ℕ) → HasName (b ∷ bytes) (inner_at names b bytes)
inner-named names b bytes = if-read (b ∷ bytes) ((b == 45) && begins_with 45 bytes) _ _ tt (common-named names (group_sign b) b bytes)

comment-named : (all : List ℕ) (n : ℕ) (bytes : List ℕ) → HasName all (comment_at n bytes)
comment-named all n [] = tt
comment-named all n (b ∷ bytes) = if-read all ((b == 45) && begins_with 45 bytes) _ _ tt (comment-named all (n + 1) bytes)

minus-named : (all bytes : List ℕ) → HasName all (minus_at bytes)
minus-named all [] = tt
minus-named all (b ∷ bytes) = if-read all (b == 45) _ _ (comment-named all 2 bytes) tt

closing-named : (all : List ℕ) (at_base : Bool) (bytes : List ℕ) → HasName all (closing_at at_base bytes)
closing-named all true [] = tt
closing-named all false [] = tt
closing-named all at_base (b ∷ bytes) = tt

outer-named : (names : NameSet) (at_base after_group : Bool) (b : ℕ) (bytes : List ℕ) → HasName (b ∷ bytes) (outer_at names at_base after_group b bytes)
outer-named names at_base after_group b bytes =
    if-read (b ∷ bytes) (b == 45) _ _ (minus-named (b ∷ bytes) bytes)
    (if-read (b ∷ bytes) (is_quote b) _ _ tt
    (if-read (b ∷ bytes) (b == 62) _ _ (closing-named (b ∷ bytes) at_base bytes) (common-named names (outer_sign after_group b) b bytes)))

-- IN LITERALS

function-named : (all : List ℕ) (size : ℕ) (o : Option ℕ) → IsNamed all (function_of size o)
function-named all size None = tt
function-named all size (Some b) = tt

number-named : (all : List ℕ) (size n : ℕ) → IsNamed all (numbered size n)
number-named all size n = if-part all (nat_le n 255) _ _ tt tt

character-named : (all : List ℕ) (names : NameSet) (fold : Bool) (bytes : List ℕ) → MayName all (character_at names fold bytes)
character-named all names fold bytes =
    let n = name_length names bytes in
    let m = prefix_len is_digit bytes in
    if-found all (begins_digit bytes) _ _ (number-named all (2 + m + reference_end (drop m bytes)) (number_after 0 (take m bytes)))
    (if-found all (begins_name names bytes) _ _ (function-named all (2 + n + reference_end (drop n bytes)) (function_character fold (take n bytes))) tt)

coded-named : (all : List ℕ) (names : NameSet) (fold : Bool) (bytes : List ℕ) → MayName all (coded_at names fold bytes)
coded-named all names fold [] = tt
coded-named all names fold (b ∷ bytes) = if-found all (b == 35) _ _ (character-named all names fold bytes) tt

or-coded-named : (all : List ℕ) (names : NameSet) (fold : Bool) (b : ℕ) (bytes : List ℕ) (o : Option Part) → MayName all o → MayName all (or_coded names fold b bytes o)
or-coded-named all names fold b bytes (Some part) h = h
or-coded-named all names fold b bytes None h = if-found all (b == 38) _ _ (coded-named all names fold bytes) tt

referring-named : (all : List ℕ) (names : NameSet) (fold : Bool) (k : LiteralKind) (b : ℕ) (bytes : List ℕ) → MayName all (referring_at names fold k b bytes)
referring-named all names fold kind.Parameter b bytes =
    or-coded-named all names fold b bytes (parameter_at names b bytes)
    (if-found all ((b == 37) && begins_name names bytes) (Some (entity_reference names bytes)) None tt tt)
referring-named all names fold kind.Value b bytes =
    or-coded-named all names fold b bytes (general_at names b bytes)
    (if-found all ((b == 38) && begins_name names bytes) (Some (entity_reference names bytes)) None tt tt)
referring-named all names fold _ b bytes = tt

data-named : (all : List ℕ) (quote : ℕ) (bytes : List ℕ) (o : Option Part) → MayName all o → IsNamed all (or_data quote bytes o)
data-named all quote bytes (Some part) h = h
data-named all quote bytes None h = tt

literal-named : (all : List ℕ) (names : NameSet) (fold : Bool) (o : Opened) (in_its_text : Bool) (b : ℕ) (bytes : List ℕ) → IsNamed all (literal_at names fold o in_its_text b bytes)
literal-named all names fold o in_its_text b bytes =
    if-part all ((b == o.quote) && in_its_text) _ _ tt
    (data-named all o.quote bytes (referring_at names fold o.kind b bytes) (referring-named all names fold o.kind b bytes))

-- AT A PLACE

end-named : (all : List ℕ) (h : Here) (o : Option Opened) → HasName all (end_at h o)
end-named all h None = if-read all h.at_base _ _ tt tt
end-named all h (Some o) = if-read all (h.at_base || h.in_its_text) _ _ tt tt

in-named : (names : NameSet) (fold : Bool) (h : Here) (o : Option Opened) (bytes : List ℕ) → HasName bytes (part_in names fold h o bytes)
in-named names fold h o [] = end-named [] h o
in-named names fold h (Some o) (b ∷ bytes) = literal-named (b ∷ bytes) names fold o h.in_its_text b bytes
in-named names fold h None (b ∷ bytes) =
    if-read (b ∷ bytes) h.in_group _ _ (inner-named names b bytes) (outer-named names h.at_base h.after_group b bytes)

pub part-named : (names : NameSet) (fold : Bool) (h : Here) (bytes : List ℕ) → HasName bytes (part_at names fold h bytes)
part-named names fold h bytes = in-named names fold h h.literal bytes
