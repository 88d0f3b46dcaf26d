-- The end of a declaration is the one by its grammar.
use Rattle.std.proofs.Common.{◌≡◌, ℕ, suc, ◌+◌, Bool, true, false, not, List, [], ◌∷◌, ◌++◌, Some, length, refl, sym, ◌∙◌, ap, if◌then◌else◌, ◌==◌, ◌&&◌, ◌||◌, arith, append_assoc, length-append, eq-eqb}
use Rattle.std.specs.List.{list_all}
use Rattle.std.proofs.lemmas.Bool.Decides.{nat_tests}
use Rattle.sgml_text.specs.declared.name_set.NameSet.{NameSet}
use Rattle.sgml_text.specs.NameCharacters.{is_name_character}
use Rattle.sgml_delim.specs.declared.ends.Inside.{Inside}
use Rattle.sgml_delim.specs.declared.ends.Inside.TheVariants.{Between, Name, Minus, Literal, Comment, CommentMinus}
use Rattle.sgml_delim.specs.declared.ends.Ender.{Ender}
use Rattle.sgml_delim.specs.declared.ends.Ender.TheVariants.{Mdc, Dso, Either}
use Rattle.sgml_delim.specs.Ends.{later, begun, inside_after, is_outside, ends_declaration, end_after}
use Rattle.sgml_text.specs.Characters.{is_quote}
use Rattle.sgml_markup.specs.CommentGrammar.{begins_minus, has_com}
use Rattle.sgml_markup.specs.DeclarationGrammar.{DeclarationItem, DeclarationItem.Quoted, DeclarationItem.Commented, DeclarationItem.Word, DeclarationItem.Lone, DeclarationItem.Byte, spell, spell_all, begins_name, AllStand, SpellsDeclaration}
use Rattle.sgml_markup.proofs.EndLemmas.{later-later, later-zero}
use Rattle.sgml_delim.proofs.Deciding.{true-false, and-left, and-right}
use Rattle.sgml_markup.proofs.Bytes.{name-named}
use Rattle.sgml_markup.proofs.Comments.{begins-same, or-left, or-right}

not-true : (t : Bool) → not t ≡ true → t ≡ false
not-true false e = refl
not-true true e = absurd (true-false e)

-- what ends no declaration
unended : (ender : Ender) (b : ℕ) → (b == 62) ≡ false → (b == 91) ≡ false → ends_declaration ender b ≡ false
unended Mdc b e f = e
unended Dso b e f = f
unended Either b e f = ap (λ t. t || (b == 91)) e ∙ f

quote-unended : (ender : Ender) (b : ℕ) → is_quote b ≡ true → ends_declaration ender b ≡ false
quote-unended ender b e = unended ender b (grind (arith, nat_tests)) (grind (arith, nat_tests))

pub name-unended : (names : NameSet) (ender : Ender) (b : ℕ) → is_name_character names b ≡ true → ends_declaration ender b ≡ false
name-unended names ender b e = unended ender b (name-named names b e).no_tagc (name-named names b e).no_dso

pub minus-unended : (ender : Ender) → ends_declaration ender 45 ≡ false
minus-unended ender = unended ender 45 refl refl

-- one byte
pub goes-on : (names : NameSet) (ender : Ender) (inside : Inside) (b : ℕ) (bytes : List ℕ) → ends_declaration ender b ≡ false
    → end_after names ender inside (b ∷ bytes) ≡ later 1 (end_after names ender (inside_after names inside b) bytes)
goes-on names ender inside b bytes e =
    ap (λ t. if is_outside inside && t then Some 1 else later 1 (end_after names ender (inside_after names inside b) bytes)) e
    ∙ by_side (is_outside inside)
  where
    by_side : (t : Bool) → (if t && false then Some 1 else later 1 (end_after names ender (inside_after names inside b) bytes))
        ≡ later 1 (end_after names ender (inside_after names inside b) bytes)
    by_side true = refl
    by_side false = refl

begun-quote : (names : NameSet) (b : ℕ) → is_quote b ≡ true → begun names b ≡ Literal b
begun-quote names b e = ap (λ t. if t then Literal b else if b == 45 then Minus else if is_name_character names b then Name else Between) e

begun-name : (names : NameSet) (b : ℕ) → (b == 45) ≡ false → is_name_character names b ≡ true → begun names b ≡ Name
begun-name names b e f =
    ap (λ t. if t then Literal b else if b == 45 then Minus else if is_name_character names b then Name else Between) (name-named names b f).no_quote
    ∙ ap (λ t. if t then Minus else if is_name_character names b then Name else Between) e
    ∙ ap (λ t. if t then Name else Between) f

begun-other : (names : NameSet) (b : ℕ) → is_quote b ≡ false → (b == 45) ≡ false → is_name_character names b ≡ false → begun names b ≡ Between
begun-other names b e f g =
    ap (λ t. if t then Literal b else if b == 45 then Minus else if is_name_character names b then Name else Between) e
    ∙ ap (λ t. if t then Minus else if is_name_character names b then Name else Between) f
    ∙ ap (λ t. if t then Name else Between) g

-- after a whole word, or a single `-`, a declaration goes on as between its parts
pub name-between : (names : NameSet) (ender : Ender) (bytes : List ℕ) → begins_name names bytes ≡ false
    → end_after names ender Name bytes ≡ end_after names ender Between bytes
name-between names ender [] e = refl
name-between names ender (b ∷ bytes) e =
    ap (λ t. if ends_declaration ender b then Some 1 else later 1 (end_after names ender (if t then Name else begun names b) bytes)) e

pub minus-between : (names : NameSet) (ender : Ender) (bytes : List ℕ) → begins_minus bytes ≡ false
    → end_after names ender Minus bytes ≡ end_after names ender Between bytes
minus-between names ender [] e = refl
minus-between names ender (b ∷ bytes) e =
    ap (λ t. if ends_declaration ender b then Some 1 else later 1 (end_after names ender (if t then Comment else begun names b) bytes)) e

minus-comment : (names : NameSet) (ender : Ender) (bytes : List ℕ) → begins_minus bytes ≡ false
    → end_after names ender CommentMinus bytes ≡ end_after names ender Comment bytes
minus-comment names ender [] e = refl
minus-comment names ender (b ∷ bytes) e =
    ap (λ t. later 1 (end_after names ender (if t then Between else Comment) bytes)) e
    ∙ sym (ap (λ t. later 1 (end_after names ender (if t then CommentMinus else Comment) bytes)) e)

-- parts
literal-body : (names : NameSet) (ender : Ender) (q : ℕ) (text bytes : List ℕ) → list_all (λ b. not (b == q)) text ≡ true
    → end_after names ender (Literal q) (text ++ q ∷ bytes) ≡ later (length text + 1) (end_after names ender Between bytes)
literal-body names ender q [] bytes h = ap (λ t. later 1 (end_after names ender (if t then Between else Literal q) bytes)) (eq-eqb q q refl)
literal-body names ender q (b ∷ text) bytes h =
    ap (λ t. later 1 (end_after names ender (if t then Between else Literal q) (text ++ q ∷ bytes)))
    (not-true (b == q) (and-left (not (b == q)) (list_all (λ c. not (c == q)) text) h))
    ∙ ap (later 1) (literal-body names ender q text bytes (and-right (not (b == q)) (list_all (λ c. not (c == q)) text) h))
    ∙ later-later 1 (length text + 1) (end_after names ender Between bytes)
    ∙ ap (λ n. later n (end_after names ender Between bytes)) (omega arith)

comment-body : (names : NameSet) (ender : Ender) (text bytes : List ℕ) → has_com (text ++ 45 ∷ []) ≡ false
    → end_after names ender Comment (text ++ 45 ∷ 45 ∷ bytes) ≡ later (length text + 2) (end_after names ender Between bytes)
comment-body names ender [] bytes e = later-later 1 1 (end_after names ender Between bytes)
comment-body names ender (b ∷ text) bytes e =
    by_minus (b == 45) refl
    ∙ ap (later 1) (comment-body names ender text bytes (or-right ((b == 45) && begins_minus (text ++ 45 ∷ [])) (has_com (text ++ 45 ∷ [])) e))
    ∙ later-later 1 (length text + 2) (end_after names ender Between bytes)
    ∙ ap (λ n. later n (end_after names ender Between bytes)) (omega arith)
  where
    by_minus : (t : Bool) → (b == 45) ≡ t
        → later 1 (end_after names ender (if t then CommentMinus else Comment) (text ++ 45 ∷ 45 ∷ bytes))
        ≡ later 1 (end_after names ender Comment (text ++ 45 ∷ 45 ∷ bytes))
    by_minus true p =
        ap (later 1)
        (minus-comment names ender (text ++ 45 ∷ 45 ∷ bytes)
        (begins-same text (45 ∷ bytes) []
        ∙ sym (ap (λ t. t && begins_minus (text ++ 45 ∷ [])) p)
        ∙ or-left ((b == 45) && begins_minus (text ++ 45 ∷ [])) (has_com (text ++ 45 ∷ [])) e))
    by_minus false p = refl

word-body : (names : NameSet) (ender : Ender) (more bytes : List ℕ) → list_all (is_name_character names) more ≡ true
    → begins_name names bytes ≡ false
    → end_after names ender Name (more ++ bytes) ≡ later (length more) (end_after names ender Between bytes)
word-body names ender [] bytes h e = name-between names ender bytes e ∙ sym (later-zero (end_after names ender Between bytes))
word-body names ender (b ∷ more) bytes h e =
    let first = and-left (is_name_character names b) (list_all (is_name_character names) more) h in
    goes-on names ender Name b (more ++ bytes) (name-unended names ender b first)
    ∙ ap (λ t. later 1 (end_after names ender (if t then Name else begun names b) (more ++ bytes))) first
    ∙ ap (later 1) (word-body names ender more bytes (and-right (is_name_character names b) (list_all (is_name_character names) more) h) e)
    ∙ later-later 1 (length more) (end_after names ender Between bytes)
    ∙ ap (λ n. later n (end_after names ender Between bytes)) (omega arith)

begins : (names : NameSet) (ender : Ender) (b : ℕ) (inside : Inside) (bytes : List ℕ) → ends_declaration ender b ≡ false → begun names b ≡ inside
    → end_after names ender Between (b ∷ bytes) ≡ later 1 (end_after names ender inside bytes)
begins names ender b inside bytes e f =
    goes-on names ender Between b bytes e ∙ ap (λ i. later 1 (end_after names ender i bytes)) f

item-spelled : (names : NameSet) (ender : Ender) (item : DeclarationItem) (rest : List ℕ) → AllStand names ender (item ∷ []) rest
    → end_after names ender Between (spell item ++ rest) ≡ later (length (spell item)) (end_after names ender Between rest)
item-spelled names ender (Byte b) rest h =
    begins names ender b Between rest h.0.3 (begun-other names b h.0.0 h.0.1 h.0.2)
item-spelled names ender Lone rest h =
    begins names ender 45 Minus rest (minus-unended ender) refl
    ∙ ap (later 1) (minus-between names ender rest h.1)
item-spelled names ender (Word b more) rest h =
    begins names ender b Name (more ++ rest) (name-unended names ender b h.0.1) (begun-name names b h.0.0 h.0.1)
    ∙ ap (later 1) (word-body names ender more rest h.0.2 h.1)
    ∙ later-later 1 (length more) (end_after names ender Between rest)
    ∙ ap (λ n. later n (end_after names ender Between rest)) (omega arith)
item-spelled names ender (Quoted q text) rest h =
    begins names ender q (Literal q) ((text ++ q ∷ []) ++ rest) (quote-unended ender q h.0.0) (begun-quote names q h.0.0)
    ∙ ap (λ xs. later 1 (end_after names ender (Literal q) xs)) (append_assoc text (q ∷ []) rest)
    ∙ ap (later 1) (literal-body names ender q text rest h.0.1)
    ∙ later-later 1 (length text + 1) (end_after names ender Between rest)
    ∙ ap (λ n. later n (end_after names ender Between rest)) (size text q)
  where
    size : (xs : List ℕ) (c : ℕ) → 1 + (length xs + 1) ≡ suc (length (xs ++ c ∷ []))
    size xs c = let one = length-append xs (c ∷ []) in omega (arith, one)
item-spelled names ender (Commented text) rest h =
    begins names ender 45 Minus (45 ∷ ((text ++ 45 ∷ 45 ∷ []) ++ rest)) (minus-unended ender) refl
    ∙ ap (later 1) (goes-on names ender Minus 45 ((text ++ 45 ∷ 45 ∷ []) ++ rest) (minus-unended ender))
    ∙ later-later 1 1 (end_after names ender Comment ((text ++ 45 ∷ 45 ∷ []) ++ rest))
    ∙ ap (λ xs. later 2 (end_after names ender Comment xs)) (append_assoc text (45 ∷ 45 ∷ []) rest)
    ∙ ap (later 2) (comment-body names ender text rest h.0)
    ∙ later-later 2 (length text + 2) (end_after names ender Between rest)
    ∙ ap (λ n. later n (end_after names ender Between rest)) (size text)
  where
    size : (xs : List ℕ) → 2 + (length xs + 2) ≡ suc (suc (length (xs ++ 45 ∷ 45 ∷ [])))
    size xs = let one = length-append xs (45 ∷ 45 ∷ []) in omega (arith, one)

items-spelled : (names : NameSet) (ender : Ender) (items : List DeclarationItem) (rest : List ℕ) → AllStand names ender items rest
    → end_after names ender Between (spell_all items ++ rest) ≡ later (length (spell_all items)) (end_after names ender Between rest)
items-spelled names ender [] rest h = sym (later-zero (end_after names ender Between rest))
items-spelled names ender (item ∷ items) rest h =
    ap (end_after names ender Between) (append_assoc (spell item) (spell_all items) rest)
    ∙ item-spelled names ender item (spell_all items ++ rest) (h.0, h.1, tt)
    ∙ ap (later (length (spell item))) (items-spelled names ender items rest h.2)
    ∙ later-later (length (spell item)) (length (spell_all items)) (end_after names ender Between rest)
    ∙ ap (λ n. later n (end_after names ender Between rest)) (sym (length-append (spell item) (spell_all items)))

pub spelled-declaration : (names : NameSet) (ender : Ender) (bytes : List ℕ) (n : ℕ) → SpellsDeclaration names ender bytes n
    → end_after names ender Between bytes ≡ Some n
spelled-declaration names ender bytes n h =
    ap (end_after names ender Between) h.is
    ∙ items-spelled names ender h.items (h.last ∷ h.more) h.stand
    ∙ ap (λ t. later (length (spell_all h.items)) (if t then Some 1 else later 1 (end_after names ender (begun names h.last) h.more))) h.ends
    ∙ ap (λ k. Some k) (sym h.size)
