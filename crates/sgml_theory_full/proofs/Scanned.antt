-- The tokens of what is written, whatever follows it (9.6).
use Rattle.std.proofs.Common.{◌≡◌, ℕ, ◌+◌, ◌-◌, ◌<◌, Bool, true, false, not, ◌&&◌, ◌||◌, ◌==◌, nat_le, nat_lt, List, [], ◌∷◌, ◌++◌, Option, None, Some, is_none, Ok, length, take, drop, refl, sym, ◌∙◌, ap, append_assoc, length-append, take_at, inl, inr, ◌⊎◌, arith}
use Rattle.std.specs.Prelude.{decimal, codes, flat_map}
use Rattle.std.specs.List.{list_all}
use Rattle.std.proofs.lemmas.Bool.Decides.{nat_tests}
use Rattle.sgml_theory_values.specs.text.Characters.{is_letter, is_digit, is_sgml_character}
use Rattle.sgml_theory_values.specs.text.NameCharacters.{is_name_start, is_name_character, is_name_of}
use Rattle.sgml_theory_values.specs.syntax.declared.syntax.Syntax.{Syntax}
use Rattle.sgml_theory_values.specs.delim.declared.delim.Delim.{Delim}
use Rattle.sgml_theory_values.specs.delim.declared.delim.Delim.TheVariants as d
use Rattle.sgml_theory_values.specs.delim.declared.delim.Mode.{Mode}
use Rattle.sgml_theory_values.specs.delim.declared.delim.Mode.TheVariants as m
use Rattle.sgml_theory_values.specs.delim.declared.delim.Need.TheVariants.{NameStartOrTagc}
use Rattle.sgml_theory_values.specs.delim.Tables.{string, stands, follows}
use Rattle.sgml_theory_values.specs.delim.Answers.{answer}
use Rattle.sgml_theory_values.specs.delim.Ends.{later}
use Rattle.sgml_theory_values.specs.shortref.Strings.{is_blank}
use Rattle.sgml_theory_values.specs.shortref.Matches as strings
use Rattle.sgml_theory_values.specs.markup.declared.kinds.Form.{Form}
use Rattle.sgml_theory_values.specs.markup.declared.kinds.Form.TheVariants as form
use Rattle.sgml_theory_values.specs.markup.declared.kinds.TokenKind.{TokenKind}
use Rattle.sgml_theory_values.specs.markup.declared.kinds.TokenKind.TheVariants as kind
use Rattle.sgml_theory_values.specs.markup.Ends.{end_of, pi_end}
use Rattle.sgml_theory_values.specs.markup.References.{too_long}
use Rattle.sgml_theory_values.specs.markup.Forms.{before, judged}
use Rattle.sgml_theory_values.specs.scan.declared.state.ScanState.{ScanState}
use Rattle.sgml_theory_values.specs.scan.declared.classes.Run.TheVariants as run
use Rattle.sgml_theory_values.specs.scan.declared.classes.Class.TheVariants as class
use Rattle.sgml_theory_values.specs.scan.Classes.{is_data, class_of}
use Rattle.sgml_theory_values.specs.scan.Openings.{opening, is_con}
use Rattle.sgml_theory_values.specs.scan.Tokens.{token, opened, of_form, closed, of_judged}
use Rattle.sgml_theory_values.specs.theory_spelling.Tokens.{character_token, string_at, by_string, by_delimiter, token_at}
use Rattle.sgml_theory_full.proofs.Plain.{true-false, both, if-true, if-false, all-append, below, below-is, OfNames}
use Rattle.sgml_theory_full.proofs.Tokens.{begins_no_delimiter, is_content, no-delimiter, number-con, number-rcd, entity-con, entity-rcd, name-not}
use Rattle.sgml_theory_full.proofs.References.{number-end, number-judged, entity-end, entity-judged, first-of-number}
use Rattle.sgml_theory_full.proofs.Tags.{Given, given_text, tag_of, AreGiven, tag-append, tag-length, start-end, start-judged, end-end, end-judged}

-- MARKUP that a delimiter begins

delimited : (s : Syntax) (st : ScanState) (bytes : List ℕ) (x : Delim) → answer s st.mode st.net bytes ≡ Some x
    → token_at s st bytes ≡ opened s true bytes (opening st.mode x (drop (length (string x)) bytes))
unfolding token_at
delimited s st bytes x h = ap (by_delimiter s st bytes) h

closed-as : (s : Syntax) (f : Form) (text rest : List ℕ) (n : ℕ) (k : TokenKind) → end_of s f true (drop (before f) (text ++ rest)) ≡ Some n → before f + n ≡ length text
    → judged s f text ≡ Ok k → of_form s true (text ++ rest) f ≡ token k (length text)
closed-as s f text rest n k ends size is =
    ap (closed s true (text ++ rest) f) ends
    ∙ ap (λ i. of_judged i (judged s f (take i (text ++ rest)))) size
    ∙ ap (λ t. of_judged (length text) (judged s f t)) (take_at text rest (length text) refl)
    ∙ ap (of_judged (length text)) is

-- the modes in which references are recognised, and end-tags (9.6.1)
abbrev pub Referring : Mode → Type 0
Referring k = (k ≡ m.Con) ⊎ (k ≡ m.Rcd)

number-here : (s : Syntax) (k : Mode) (b : ℕ) (rest : List ℕ) → Referring k → is_digit b ≡ true → answer s k false (38 ∷ 35 ∷ b ∷ rest) ≡ Some d.Cro
number-here s k b rest (inl e) h = ap (λ k. answer s k false (38 ∷ 35 ∷ b ∷ rest)) e ∙ number-con s b rest h
number-here s k b rest (inr e) h = ap (λ k. answer s k false (38 ∷ 35 ∷ b ∷ rest)) e ∙ number-rcd s b rest h

entity-here : (s : Syntax) (k : Mode) (b : ℕ) (rest : List ℕ) → Referring k → is_name_start s.names b ≡ true → answer s k false (38 ∷ b ∷ rest) ≡ Some d.Ero
entity-here s k b rest (inl e) h = ap (λ k. answer s k false (38 ∷ b ∷ rest)) e ∙ entity-con s b rest h
entity-here s k b rest (inr e) h = ap (λ k. answer s k false (38 ∷ b ∷ rest)) e ∙ entity-rcd s b rest h

-- A REFERENCE TO A CHARACTER
abbrev number_text : ℕ → List ℕ
number_text n = codes "&#" ++ (decimal n ++ 59 ∷ [])

pub number-token : (s : Syntax) (k : Mode) (maps : Bool) (n : ℕ) (rest : List ℕ) → Referring k → n < 128
    → token_at s (record { mode = k; net = false; maps = maps }) (number_text n ++ rest) ≡ token (kind.CharRef n) (length (number_text n))
number-token s k maps n rest at lt =
    let st : ScanState = record { mode = k; net = false; maps = maps } in
    let f = first-of-number n lt in
    let size = length-append (decimal n) (59 ∷ []) in
    delimited s st (number_text n ++ rest) d.Cro
    (ap (λ bs. answer s k false (38 ∷ 35 ∷ ((bs ++ 59 ∷ []) ++ rest))) f.2.0 ∙ number-here s k f.0 ((f.1 ++ 59 ∷ []) ++ rest) at f.2.1)
    ∙ closed-as s form.CharacterReference (number_text n) rest (length (decimal n) + 1) (kind.CharRef n)
    (ap (end_of s form.CharacterReference true) (append_assoc (decimal n) (59 ∷ []) rest) ∙ number-end s n rest lt)
    (omega (arith, size)) (number-judged s n lt)

-- A REFERENCE TO AN ENTITY
abbrev entity_text : List ℕ → List ℕ
entity_text name = 38 ∷ name ++ 59 ∷ []

entity-answer : (s : Syntax) (k : Mode) (name more : List ℕ) → Referring k → is_name_of s.names name ≡ true → answer s k false (38 ∷ (name ++ more)) ≡ Some d.Ero
entity-answer s k [] more at h = true-false (sym h)
entity-answer s k (b ∷ bs) more at h = entity-here s k b (bs ++ more) at (both (is_name_start s.names b) (list_all (is_name_character s.names) bs) h).0

pub entity-token : (s : Syntax) (k : Mode) (maps : Bool) (name rest : List ℕ) → Referring k → is_name_of s.names name ≡ true → too_long s (length name) ≡ false
    → token_at s (record { mode = k; net = false; maps = maps }) (entity_text name ++ rest) ≡ token kind.EntityRef (length (entity_text name))
entity-token s k maps name rest at h short =
    let st : ScanState = record { mode = k; net = false; maps = maps } in
    let size = length-append name (59 ∷ []) in
    delimited s st (entity_text name ++ rest) d.Ero
    (ap (λ bs. answer s k false (38 ∷ bs)) (append_assoc name (59 ∷ []) rest) ∙ entity-answer s k name (59 ∷ rest) at h)
    ∙ closed-as s form.EntityReference (entity_text name) rest (length name + 1) kind.EntityRef
    (ap (end_of s form.EntityReference true) (append_assoc name (59 ∷ []) rest) ∙ entity-end s name rest h)
    (omega (arith, size)) (entity-judged s name h short)

-- TAGS (7.4, 7.5)
name-not-slash : OfNames (λ b. not (b == 47))
name-not-slash = record {
  letters = λ b h. grind (arith, nat_tests);
  digits = λ b h. grind (arith, nat_tests);
  minus = refl;
  stop = refl;
  low_line = refl;
  colon = refl;
}

name-not-exclamation : OfNames (λ b. not (b == 33))
name-not-exclamation = record {
  letters = λ b h. grind (arith, nat_tests);
  digits = λ b h. grind (arith, nat_tests);
  minus = refl;
  stop = refl;
  low_line = refl;
  colon = refl;
}

name-not-question : OfNames (λ b. not (b == 63))
name-not-question = record {
  letters = λ b h. grind (arith, nat_tests);
  digits = λ b h. grind (arith, nat_tests);
  minus = refl;
  stop = refl;
  low_line = refl;
  colon = refl;
}

or-left : (a b : Bool) → a ≡ true → (a || b) ≡ true
or-left a b h = rw h refl

start-follows : (s : Syntax) (b : ℕ) (rest : List ℕ) → is_name_start s.names b ≡ true → follows s NameStartOrTagc (b ∷ rest) ≡ true
start-follows s b rest h = rw h refl

start-here : (s : Syntax) (b : ℕ) (rest : List ℕ) → is_name_start s.names b ≡ true → answer s m.Con false (60 ∷ b ∷ rest) ≡ Some d.Stago
unfolding stands
start-here s b rest h =
    rw (name-not 47 name-not-slash s b h, name-not 33 name-not-exclamation s b h, name-not 63 name-not-question s b h) (if-true _ _ _ (start-follows s b rest h))

start-answer : (s : Syntax) (name more : List ℕ) → is_name_of s.names name ≡ true → answer s m.Con false (60 ∷ (name ++ more)) ≡ Some d.Stago
start-answer s [] more h = true-false (sym h)
start-answer s (b ∷ bs) more h = start-here s b (bs ++ more) (both (is_name_start s.names b) (list_all (is_name_character s.names) bs) h).0

pub start-token : (s : Syntax) (maps : Bool) (name : List ℕ) (gs : List Given) (rest : List ℕ) → is_name_of s.names name ≡ true → too_long s (length name) ≡ false → AreGiven s gs
    → token_at s (record { mode = m.Con; net = false; maps = maps }) (tag_of name gs ++ rest) ≡ token kind.StartTag (length (tag_of name gs))
start-token s maps name gs rest h short k =
    let st : ScanState = record { mode = m.Con; net = false; maps = maps } in
    let size = tag-length name gs in
    delimited s st (tag_of name gs ++ rest) d.Stago
    (ap (answer s m.Con false) (tag-append name gs rest) ∙ start-answer s name (flat_map given_text gs ++ 62 ∷ rest) h)
    ∙ closed-as s form.StartTag (tag_of name gs) rest (length name + (length (flat_map given_text gs) + 1)) kind.StartTag
    (ap (λ bs. end_of s form.StartTag true (drop 1 bs)) (tag-append name gs rest) ∙ start-end s name gs rest h k)
    (omega (arith, size)) (start-judged s name gs h short k)

abbrev pub EndTags : Mode → Type 0
EndTags k = Referring k ⊎ (k ≡ m.Cdt)

end-con : (s : Syntax) (b : ℕ) (rest : List ℕ) → is_name_start s.names b ≡ true → answer s m.Con false (60 ∷ 47 ∷ b ∷ rest) ≡ Some d.Etago
unfolding stands
end-con s b rest h = if-true _ _ _ (start-follows s b rest h)

end-rcd : (s : Syntax) (b : ℕ) (rest : List ℕ) → is_name_start s.names b ≡ true → answer s m.Rcd false (60 ∷ 47 ∷ b ∷ rest) ≡ Some d.Etago
unfolding stands
end-rcd s b rest h = if-true _ _ _ (start-follows s b rest h)

end-cdt : (s : Syntax) (b : ℕ) (rest : List ℕ) → is_name_start s.names b ≡ true → answer s m.Cdt false (60 ∷ 47 ∷ b ∷ rest) ≡ Some d.Etago
unfolding stands
end-cdt s b rest h = if-true _ _ _ (start-follows s b rest h)

end-here : (s : Syntax) (k : Mode) (b : ℕ) (rest : List ℕ) → EndTags k → is_name_start s.names b ≡ true → answer s k false (60 ∷ 47 ∷ b ∷ rest) ≡ Some d.Etago
end-here s k b rest (inl (inl e)) h = ap (λ k. answer s k false (60 ∷ 47 ∷ b ∷ rest)) e ∙ end-con s b rest h
end-here s k b rest (inl (inr e)) h = ap (λ k. answer s k false (60 ∷ 47 ∷ b ∷ rest)) e ∙ end-rcd s b rest h
end-here s k b rest (inr e) h = ap (λ k. answer s k false (60 ∷ 47 ∷ b ∷ rest)) e ∙ end-cdt s b rest h

end-answer : (s : Syntax) (k : Mode) (name more : List ℕ) → EndTags k → is_name_of s.names name ≡ true → answer s k false (60 ∷ 47 ∷ (name ++ more)) ≡ Some d.Etago
end-answer s k [] more at h = true-false (sym h)
end-answer s k (b ∷ bs) more at h = end-here s k b (bs ++ more) at (both (is_name_start s.names b) (list_all (is_name_character s.names) bs) h).0

abbrev end_text : List ℕ → List ℕ
end_text name = (60 ∷ 47 ∷ name) ++ 62 ∷ []

pub end-token : (s : Syntax) (k : Mode) (maps : Bool) (name rest : List ℕ) → EndTags k → is_name_of s.names name ≡ true → too_long s (length name) ≡ false
    → token_at s (record { mode = k; net = false; maps = maps }) (end_text name ++ rest) ≡ token kind.EndTag (length (end_text name))
end-token s k maps name rest at h short =
    let st : ScanState = record { mode = k; net = false; maps = maps } in
    let size = length-append name (62 ∷ []) in
    delimited s st (end_text name ++ rest) d.Etago
    (ap (λ bs. answer s k false (60 ∷ 47 ∷ bs)) (append_assoc name (62 ∷ []) rest) ∙ end-answer s k name (62 ∷ rest) at h)
    ∙ closed-as s form.EndTag (end_text name) rest (length name + 1) kind.EndTag
    (ap (end_of s form.EndTag true) (append_assoc name (62 ∷ []) rest) ∙ end-end s name rest h)
    (omega (arith, size)) (end-judged s name h short)

-- AN INSTRUCTION (8)
instruction-end : (text rest : List ℕ) → list_all (λ b. not (b == 62)) text ≡ true → pi_end (text ++ 62 ∷ rest) ≡ Some (length text + 1)
instruction-end [] rest h = refl
instruction-end (b ∷ bs) rest h =
    let q = both (not (b == 62)) (list_all (λ b. not (b == 62)) bs) h in
    let n : 1 + (length bs + 1) ≡ length (b ∷ bs) + 1 = omega arith in
    go (b == 62) refl q.0 ∙ ap (λ o. later 1 o) (instruction-end bs rest q.1) ∙ ap Some n
  where
    go : (t : Bool) → (b == 62) ≡ t → not t ≡ true → pi_end (b ∷ (bs ++ 62 ∷ rest)) ≡ later 1 (pi_end (bs ++ 62 ∷ rest))
    go true e n = true-false (sym n)
    go false e n = if-false (b == 62) _ _ e

abbrev instruction_text : List ℕ → List ℕ
instruction_text text = codes "<?" ++ (text ++ 62 ∷ [])

instruction-answer : (s : Syntax) (rest : List ℕ) → answer s m.Con false (60 ∷ 63 ∷ rest) ≡ Some d.Pio
unfolding stands
instruction-answer s rest = refl

instruction-judged : (s : Syntax) (text : List ℕ) → list_all is_sgml_character text ≡ true → nat_lt s.quantities.pilen (length text) ≡ false
    → judged s form.Instruction (instruction_text text) ≡ Ok kind.Pi
instruction-judged s text sgml short =
    let l = length-append text (62 ∷ []) in
    let n : length (instruction_text text) - 3 ≡ length text = omega (arith, l) in
    if-true (list_all is_sgml_character (instruction_text text)) _ _ (all-append is_sgml_character text (62 ∷ []) sgml refl)
    ∙ if-false (nat_lt s.quantities.pilen (length (instruction_text text) - 3)) _ _ (ap (nat_lt s.quantities.pilen) n ∙ short)

pub instruction-token : (s : Syntax) (maps : Bool) (text rest : List ℕ) → list_all (λ b. not (b == 62)) text ≡ true → list_all is_sgml_character text ≡ true
    → nat_lt s.quantities.pilen (length text) ≡ false
    → token_at s (record { mode = m.Con; net = false; maps = maps }) (instruction_text text ++ rest) ≡ token kind.Pi (length (instruction_text text))
instruction-token s maps text rest un sgml short =
    let st : ScanState = record { mode = m.Con; net = false; maps = maps } in
    let size = length-append text (62 ∷ []) in
    delimited s st (instruction_text text ++ rest) d.Pio (instruction-answer s ((text ++ 62 ∷ []) ++ rest))
    ∙ closed-as s form.Instruction (instruction_text text) rest (length text + 1) kind.Pi
    (ap pi_end (append_assoc text (62 ∷ []) rest) ∙ instruction-end text rest un)
    (omega (arith, size)) (instruction-judged s text sgml short)

-- A CHARACTER

-- a byte begins no short reference string (13.4.6.2)
abbrev begins_no_string : ℕ → Bool
begins_no_string b = not (b == 10) && (not (is_blank b) && (not (b == 45) && is_none (strings.sign_in strings.signs b)))

no-parts : (x y z w : Bool) → (not x && (not y && (not z && w))) ≡ true → (x ≡ false) × (y ≡ false) × (z ≡ false) × (w ≡ true)
no-parts true y z w h = true-false (sym h)
no-parts false true z w h = true-false (sym h)
no-parts false false true w h = true-false (sym h)
no-parts false false false w h = (refl, refl, refl, h)

none-is : {A : Type 0} (o : Option A) → is_none o ≡ true → o ≡ None
none-is None h = refl
none-is (Some x) h = true-false (sym h)

no-string : (b : ℕ) (rest : List ℕ) → begins_no_string b ≡ true → strings.answer (b ∷ rest) ≡ None
no-string b rest h =
    let p = no-parts (b == 10) (is_blank b) (b == 45) (is_none (strings.sign_in strings.signs b)) h in
    rw (p.0, p.1, p.2) (none-is (strings.sign_in strings.signs b) p.3)

abbrev IsNamed : ℕ → Bool
IsNamed b = is_letter b || is_digit b || (b == 46)

own_test : ℕ → Bool
own_test b = not (IsNamed b) || (begins_no_string b && (begins_no_delimiter b && is_data b))

low-own : below own_test 128 ≡ true
unfolding below own_test
low-own = refl

unless-not : (a b : Bool) → (not a || b) ≡ true → a ≡ true → b ≡ true
unless-not true b h k = h
unless-not false b h k = true-false (sym k)

pub record IsOwn (b : ℕ) : Type 0 where
  pub strings : begins_no_string b ≡ true
  pub delimiters : begins_no_delimiter b ≡ true
  pub data_is : is_data b ≡ true

own-low : (b : ℕ) → b < 128 → IsNamed b ≡ true → IsOwn b
unfolding own_test
own-low b lt h =
    let t = unless-not (IsNamed b) (begins_no_string b && (begins_no_delimiter b && is_data b)) (below-is own_test 128 b low-own lt) h in
    let p = both (begins_no_string b) (begins_no_delimiter b && is_data b) t in
    let q = both (begins_no_delimiter b) (is_data b) p.1 in
    record { strings = p.0; delimiters = q.0; data_is = q.1 }

no-sign : (b : ℕ) → nat_le 128 b ≡ true → (xs : List (ℕ × ℕ)) → list_all (λ (x : ℕ × ℕ). nat_lt x.0 128) xs ≡ true → is_none (strings.sign_in xs b) ≡ true
no-sign b h [] k = refl
no-sign b h (x ∷ xs) k =
    let p = both (nat_lt x.0 128) (list_all (λ (x : ℕ × ℕ). nat_lt x.0 128) xs) k in
    let ne : (x.0 == b) ≡ false = high-low x.0 b p.0 h in
    rw ne (no-sign b h xs p.1)
  where
    high-low : (n b : ℕ) → nat_lt n 128 ≡ true → nat_le 128 b ≡ true → (n == b) ≡ false
    high-low n b h k = grind (arith, nat_tests)

high-eq : (n b : ℕ) → nat_lt n 128 ≡ true → nat_le 128 b ≡ true → (b == n) ≡ false
high-eq n b h k = grind (arith, nat_tests)

high-data : (b : ℕ) → nat_le 128 b ≡ true → is_data b ≡ true
high-data b h =
    let low : nat_le b 31 ≡ false = grind (arith, nat_tests) in
    if-false (nat_le b 31) _ _ low ∙ if-false (b == 127) _ _ (high-eq 127 b refl h)

own-high : (b : ℕ) → nat_le 128 b ≡ true → IsOwn b
own-high b h = record {
  strings = rw (high-eq 10 b refl h, high-eq 32 b refl h, high-eq 9 b refl h, high-eq 45 b refl h) (no-sign b h strings.signs refl);
  delimiters = rw (high-eq 60 b refl h, high-eq 38 b refl h, high-eq 93 b refl h, high-eq 47 b refl h) refl;
  data_is = high-data b h;
}

own-by : (b : ℕ) (t : Bool) → nat_le 128 b ≡ t → (IsNamed b || t) ≡ true → IsOwn b
own-by b true e h = own-high b e
own-by b false e h = own-low b (low b e) (or-none (IsNamed b) h)
  where
    low : (b : ℕ) → nat_le 128 b ≡ false → b < 128
    low b h = grind (arith, nat_tests)

    or-none : (a : Bool) → (a || false) ≡ true → a ≡ true
    or-none true h = refl
    or-none false h = h

pub own : (b : ℕ) → (IsNamed b || nat_le 128 b) ≡ true → IsOwn b
own b h = own-by b (nat_le 128 b) refl h

data-class : (k : Mode) (b : ℕ) → is_content k ≡ true → is_data b ≡ true → class_of k b ≡ class.Stretch run.Chars
data-class m.Con b c h = if-true (is_data b) _ _ h
data-class m.Rcd b c h = if-true (is_data b) _ _ h
data-class m.Cdt b c h = if-true (is_data b) _ _ h
data-class m.Rcs b c h = if-true (is_data b) _ _ h
data-class m.Cds b c h = if-true (is_data b) _ _ h
data-class _ b c h = true-false (sym c)

-- where no delimiter and no string begins
pub character-here : (s : Syntax) (k : Mode) (net maps : Bool) (b : ℕ) (rest : List ℕ) → is_content k ≡ true → is_data b ≡ true → answer s k net (b ∷ rest) ≡ None
    → string_at (maps && is_con k) (b ∷ rest) ≡ None → token_at s (record { mode = k; net = net; maps = maps }) (b ∷ rest) ≡ token kind.Chars 1
unfolding token_at
character-here s k net maps b rest c h none strings =
    ap (by_delimiter s (record { mode = k; net = net; maps = maps }) (b ∷ rest)) none
    ∙ ap (by_string k (b ∷ rest)) strings
    ∙ ap character_token (data-class k b c h)

string-none : (t : Bool) (b : ℕ) (rest : List ℕ) → begins_no_string b ≡ true → string_at t (b ∷ rest) ≡ None
string-none true b rest h = no-string b rest h
string-none false b rest h = refl

pub own-token : (s : Syntax) (k : Mode) (net maps : Bool) (b : ℕ) (rest : List ℕ) → is_content k ≡ true → IsOwn b
    → token_at s (record { mode = k; net = net; maps = maps }) (b ∷ rest) ≡ token kind.Chars 1
own-token s k net maps b rest c o =
    character-here s k net maps b rest c o.data_is (no-delimiter s k net b rest c o.delimiters) (string-none (maps && is_con k) b rest o.strings)

pub space-token : (s : Syntax) (k : Mode) (net maps : Bool) (rest : List ℕ) → is_content k ≡ true → maps ≡ false
    → token_at s (record { mode = k; net = net; maps = maps }) (32 ∷ rest) ≡ token kind.Chars 1
space-token s k net maps rest c none =
    character-here s k net maps 32 rest c refl (no-delimiter s k net 32 rest c refl) (ap (λ t. string_at (t && is_con k) (32 ∷ rest)) none)
