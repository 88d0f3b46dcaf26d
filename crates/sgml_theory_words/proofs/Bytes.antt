-- Name characters are bytes of words, and in upper case too.
use Rattle.std.proofs.Common.{◌≡◌, ℕ, suc, ◌+◌, ◌-◌, Bool, true, false, ◌||◌, ◌&&◌, ◌==◌, cond, nat_lt, List, [], ◌∷◌, map, take, refl, ap, sym, ◌∙◌, subst, arith}
use Rattle.std.specs.List.{list_all}
use Rattle.std.proofs.lemmas.Bool.{eqb-true}
use Rattle.std.proofs.lemmas.Bool.Decides.{nat_tests}
use Rattle.sgml_event_lines.specs.text.declared.name_set.NameSet.{NameSet}
use Rattle.sgml_event_lines.specs.text.Characters.{upper, is_letter, is_digit}
use Rattle.sgml_event_lines.specs.text.NameCharacters.{is_marked, is_name_start, is_name_character, is_name_of}
use Rattle.sgml_event_lines.specs.sgml_names.Naming.{cased}
use Rattle.sgml_event_lines.specs.attr.declared.definition.Declared.{Declared}
use Rattle.sgml_event_lines.specs.attr.declared.definition.Declared.TheVariants as declared
use Rattle.sgml_event_lines.specs.attr.Tokens.{is_name_token, is_number, is_number_token, is_token, kind_of}
use Rattle.sgml_event_lines.specs.esis.Grammar.{is_word_byte, is_word}
use Rattle.sgml_event_lines.proofs.esis.Tokens.{both}
use Rattle.sgml_event_lines.specs.decl_parts.Bytes.{name_length}
use Rattle.sgml_event_lines.proofs.decl_parts.Names.{start-goes-on}

pub and : (a b : Bool) → a ≡ true → b ≡ true → (a && b) ≡ true
and a b h k = rw h k

-- NAME CHARACTERS

letter-byte : (b : ℕ) → is_letter b ≡ true → is_word_byte b ≡ true
letter-byte b h = grind (arith, nat_tests)

digit-byte : (b : ℕ) → is_digit b ≡ true → is_word_byte b ≡ true
digit-byte b h = grind (arith, nat_tests)

either : (x y : Bool) (b : ℕ) → (x ≡ true → is_word_byte b ≡ true) → (y ≡ true → is_word_byte b ≡ true) → (x || y) ≡ true → is_word_byte b ≡ true
either true y b f g h = f refl
either false y b f g h = g h

one-mark : (n b : ℕ) (t : Bool) → is_word_byte n ≡ true → ((b == n) && t) ≡ true → is_word_byte b ≡ true
one-mark n b t w h = ap is_word_byte (eqb-true b n (both (b == n) t h).0) ∙ w

marked-byte : (marks : List Bool) (b : ℕ) → is_marked marks b ≡ true → is_word_byte b ≡ true
marked-byte [] b h = absurd (cc)
marked-byte (t ∷ []) b h = absurd (cc)
marked-byte (t ∷ u ∷ []) b h = absurd (cc)
marked-byte (t ∷ u ∷ v ∷ []) b h = absurd (cc)
marked-byte (t ∷ u ∷ v ∷ w ∷ []) b h =
    either (((b == 45) && t) || ((b == 46) && u) || ((b == 95) && v)) ((b == 58) && w) b
    (either (((b == 45) && t) || ((b == 46) && u)) ((b == 95) && v) b
    (either ((b == 45) && t) ((b == 46) && u) b (one-mark 45 b t refl) (one-mark 46 b u refl)) (one-mark 95 b v refl)) (one-mark 58 b w refl) h
marked-byte (t ∷ u ∷ v ∷ w ∷ x ∷ rest) b h = absurd (cc)

pub character-byte : (names : NameSet) (b : ℕ) → is_name_character names b ≡ true → is_word_byte b ≡ true
character-byte names b =
    either (is_letter b || is_digit b || is_marked names.start b) (is_marked names.more b) b
    (either (is_letter b || is_digit b) (is_marked names.start b) b (either (is_letter b) (is_digit b) b (letter-byte b) (digit-byte b)) (marked-byte names.start b))
    (marked-byte names.more b)

-- A NAME

run-at : (names : NameSet) (b : ℕ) (bytes : List ℕ) (n : ℕ) (t : Bool) → is_name_character names b ≡ t → list_all is_word_byte (take n bytes) ≡ true
    → list_all is_word_byte (take (cond t (1 + n) 0) (b ∷ bytes)) ≡ true
run-at names b bytes n true e h =
    let k : 1 + n ≡ suc n = omega arith in
    subst (λ m. list_all is_word_byte (take m (b ∷ bytes)) ≡ true) (sym k) (and (is_word_byte b) (list_all is_word_byte (take n bytes)) (character-byte names b e) h)
run-at names b bytes n false e h = refl

run-bytes : (names : NameSet) (bytes : List ℕ) → list_all is_word_byte (take (name_length names bytes) bytes) ≡ true
run-bytes names [] = refl
run-bytes names (b ∷ bytes) = run-at names b bytes (name_length names bytes) (is_name_character names b) refl (run-bytes names bytes)

pub name-word : (names : NameSet) (b : ℕ) (bytes : List ℕ) → is_name_start names b ≡ true → is_word (take (1 + name_length names bytes) (b ∷ bytes)) ≡ true
name-word names b bytes h =
    let n = name_length names bytes in
    let k : 1 + n ≡ suc n = omega arith in
    subst (λ m. is_word (take m (b ∷ bytes)) ≡ true) (sym k)
    (and (is_word_byte b) (list_all is_word_byte (take n bytes)) (character-byte names b (start-goes-on names b h)) (run-bytes names bytes))

-- IN UPPER CASE

lower-byte : (b : ℕ) → nat_lt b 97 ≡ false → nat_lt b 123 ≡ true → is_word_byte (b - 32) ≡ true
lower-byte b h k = grind (arith, nat_tests)

upper-by : (b : ℕ) (s t : Bool) → nat_lt b 97 ≡ s → nat_lt b 123 ≡ t → is_word_byte b ≡ true → is_word_byte (cond s b (cond t (b - 32) b)) ≡ true
upper-by b true t h k w = w
upper-by b false true h k w = lower-byte b h k
upper-by b false false h k w = w

upper-byte : (b : ℕ) → is_word_byte b ≡ true → is_word_byte (upper b) ≡ true
upper-byte b w = upper-by b (nat_lt b 97) (nat_lt b 123) refl refl w

upper-bytes : (bytes : List ℕ) → list_all is_word_byte bytes ≡ true → list_all is_word_byte (map upper bytes) ≡ true
upper-bytes [] w = refl
upper-bytes (b ∷ bytes) w =
    let p = both (is_word_byte b) (list_all is_word_byte bytes) w in
    and (is_word_byte (upper b)) (list_all is_word_byte (map upper bytes)) (upper-byte b p.0) (upper-bytes bytes p.1)

upper-word : (name : List ℕ) → is_word name ≡ true → is_word (map upper name) ≡ true
upper-word [] w = w
upper-word (b ∷ bytes) w = upper-bytes (b ∷ bytes) w

pub cased-word : (fold : Bool) (name : List ℕ) → is_word name ≡ true → is_word (cased fold name) ≡ true
cased-word true name w = upper-word name w
cased-word false name w = w

-- TOKENS

characters-bytes : (names : NameSet) (bytes : List ℕ) → list_all (is_name_character names) bytes ≡ true → list_all is_word_byte bytes ≡ true
characters-bytes names [] h = refl
characters-bytes names (b ∷ bytes) h =
    let p = both (is_name_character names b) (list_all (is_name_character names) bytes) h in
    and (is_word_byte b) (list_all is_word_byte bytes) (character-byte names b p.0) (characters-bytes names bytes p.1)

digits-bytes : (bytes : List ℕ) → list_all is_digit bytes ≡ true → list_all is_word_byte bytes ≡ true
digits-bytes [] h = refl
digits-bytes (b ∷ bytes) h =
    let p = both (is_digit b) (list_all is_digit bytes) h in
    and (is_word_byte b) (list_all is_word_byte bytes) (digit-byte b p.0) (digits-bytes bytes p.1)

name-of-word : (names : NameSet) (token : List ℕ) → is_name_of names token ≡ true → is_word token ≡ true
name-of-word names [] h = h
name-of-word names (b ∷ bytes) h =
    let p = both (is_name_start names b) (list_all (is_name_character names) bytes) h in
    and (is_word_byte b) (list_all is_word_byte bytes) (character-byte names b (start-goes-on names b p.0)) (characters-bytes names bytes p.1)

name-token-word : (names : NameSet) (token : List ℕ) → is_name_token names token ≡ true → is_word token ≡ true
name-token-word names [] h = h
name-token-word names (b ∷ bytes) h = characters-bytes names (b ∷ bytes) h

number-word : (token : List ℕ) → is_number token ≡ true → is_word token ≡ true
number-word [] h = h
number-word (b ∷ bytes) h = digits-bytes (b ∷ bytes) h

number-token-word : (names : NameSet) (token : List ℕ) → is_number_token names token ≡ true → is_word token ≡ true
number-token-word names [] h = h
number-token-word names (b ∷ bytes) h =
    let p = both (is_digit b) (list_all (is_name_character names) bytes) h in
    and (is_word_byte b) (list_all is_word_byte bytes) (digit-byte b p.0) (characters-bytes names bytes p.1)

-- of each declared value
pub token-word : (names : NameSet) (x : Declared) (token : List ℕ) → is_token names (kind_of x) token ≡ true → is_word token ≡ true
token-word names declared.Nmtoken token h = name-token-word names token h
token-word names declared.Nmtokens token h = name-token-word names token h
token-word names (declared.Group members) token h = name-token-word names token h
token-word names declared.Number token h = number-word token h
token-word names declared.Numbers token h = number-word token h
token-word names declared.Nutoken token h = number-token-word names token h
token-word names declared.Nutokens token h = number-token-word names token h
token-word names _ token h = name-of-word names token h
