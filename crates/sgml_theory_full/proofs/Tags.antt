-- Tags as they are written: where each ends, what it is, and what its parts are.
use Rattle.std.proofs.Common.{◌≡◌, ◌≢◌, ℕ, ◌+◌, ◌-◌, Bool, true, false, not, ◌&&◌, ◌==◌, List, [], ◌∷◌, ◌++◌, map, Option, None, Some, Ok, Err, length, take, drop, get_or, refl, sym, ◌∙◌, ap, append_assoc, append-nil, length-append, take_at, drop_at, inl, arith}
use Rattle.std.specs.Prelude.{flat_map}
use Rattle.std.specs.List.{list_all, list_any}
use Rattle.std.proofs.lemmas.Bool.Decides.{nat_tests}
use Rattle.sgml_theory_values.specs.text.declared.reason.Reason.TheVariants.{TagSyntax}
use Rattle.sgml_theory_values.specs.text.Characters.{is_quote, is_sgml_character}
use Rattle.sgml_theory_values.specs.text.NameCharacters.{is_name_start, is_name_character, is_name_of}
use Rattle.sgml_theory_values.specs.syntax.declared.syntax.Syntax.{Syntax}
use Rattle.sgml_theory_values.specs.delim.Ends.{later}
use Rattle.sgml_theory_values.specs.markup.declared.kinds.Form.TheVariants as form
use Rattle.sgml_theory_values.specs.markup.declared.kinds.TokenKind.{TokenKind}
use Rattle.sgml_theory_values.specs.markup.declared.kinds.TokenKind.TheVariants as kind
use Rattle.sgml_theory_values.specs.markup.declared.kinds.Part.{Part}
use Rattle.sgml_theory_values.specs.markup.declared.kinds.PartKind.TheVariants as part
use Rattle.sgml_theory_values.specs.markup.Ends.{tag_end, end_of}
use Rattle.sgml_theory_values.specs.markup.References.{has_wrong_number, has_wrong_length, too_long}
use Rattle.sgml_theory_values.specs.markup.Tags.{bytes_of, wrong_number_in, wrong_length_in}
use Rattle.sgml_theory_values.specs.markup.Forms.{judged, judged_tag, if_tag, parts_of, parts_of_tag, begins_tagc, begins_slash, last_byte}
use Rattle.sgml_theory_values.specs.markup.TagForm.{Value, Specification, spell_all, AllStand, SpellsForm, places}
use Rattle.sgml_theory_values.proofs.markup.FormMarkup.{form-judged, form-parts}
use Rattle.sgml_theory_full.proofs.Plain.{true-false, both, if-true, if-false, or-right, all-append, all-of, start-goes-on, OfNames, of-character, name-characters}
use Rattle.sgml_theory_full.proofs.References.{names-sgml}

-- an attribute specification: a name, and what stands in its literal
pub record Given : Type 0 where
  pub name : List ℕ
  pub text : List ℕ

abbrev pub given_text : Given → List ℕ
given_text g = 32 ∷ (g.name ++ (61 ∷ 34 ∷ (g.text ++ 34 ∷ [])))

abbrev pub tag_of : List ℕ → List Given → List ℕ
tag_of name gs = (60 ∷ name) ++ (flat_map given_text gs ++ 62 ∷ [])

-- what stands in the literal has no quote, and no reference in it is wrong
pub record IsGiven (s : Syntax) (g : Given) : Type 0 where
  pub name : is_name_of s.names g.name ≡ true
  pub short : too_long s (length g.name) ≡ false
  pub unquoted : list_all (λ b. not (b == 34)) g.text ≡ true
  pub sgml : list_all is_sgml_character g.text ≡ true
  pub numbers : has_wrong_number s g.text ≡ false
  pub lengths : has_wrong_length s g.text ≡ false

abbrev pub AreGiven : Syntax → List Given → Type 0
AreGiven s [] = Unit {0}
AreGiven s (g ∷ gs) = IsGiven s g × AreGiven s gs

-- WHERE A TAG ENDS

-- a byte that ends no tag, and begins no literal
abbrev is_quiet : ℕ → Bool
is_quiet b = not (is_quote b) && (not (b == 62) && (not (b == 47) && not (b == 60)))

quiet-parts : (q a c e : Bool) → (not q && (not a && (not c && not e))) ≡ true → (q ≡ false) × (a ≡ false) × (c ≡ false) × (e ≡ false)
quiet-parts true a c e h = true-false (sym h)
quiet-parts false true c e h = true-false (sym h)
quiet-parts false false true e h = true-false (sym h)
quiet-parts false false false true h = true-false (sym h)
quiet-parts false false false false h = (refl, refl, refl, refl)

and-no : (t : Bool) → (t && false) ≡ false
and-no true = refl
and-no false = refl

quiet-end : (shorttag : Bool) (b : ℕ) (bytes : List ℕ) → is_quiet b ≡ true → tag_end shorttag None (b ∷ bytes) ≡ later 1 (tag_end shorttag None bytes)
quiet-end shorttag b bytes h =
    let p = quiet-parts (is_quote b) (b == 62) (b == 47) (b == 60) h in
    rw (p.0, p.1, p.2, p.3, and-no shorttag) refl

later-later : (i k : ℕ) (o : Option ℕ) → later i (later k o) ≡ later (i + k) o
later-later i k None = refl
later-later i k (Some n) = ap Some (omega arith)

later-none : (o : Option ℕ) → o ≡ later 0 o
later-none None = refl
later-none (Some n) = ap Some (omega arith)

quiet-run : (shorttag : Bool) (bs bytes : List ℕ) → list_all is_quiet bs ≡ true → tag_end shorttag None (bs ++ bytes) ≡ later (length bs) (tag_end shorttag None bytes)
quiet-run shorttag [] bytes h = later-none (tag_end shorttag None bytes)
quiet-run shorttag (b ∷ bs) bytes h =
    let q = both (is_quiet b) (list_all is_quiet bs) h in
    let n : 1 + length bs ≡ length (b ∷ bs) = omega arith in
    quiet-end shorttag b (bs ++ bytes) q.0 ∙ ap (λ o. later 1 o) (quiet-run shorttag bs bytes q.1)
    ∙ later-later 1 (length bs) (tag_end shorttag None bytes) ∙ ap (λ k. later k (tag_end shorttag None bytes)) n

name-quiet : OfNames is_quiet
name-quiet = record {
  letters = λ b h. grind (arith, nat_tests);
  digits = λ b h. grind (arith, nat_tests);
  minus = refl;
  stop = refl;
  low_line = refl;
  colon = refl;
}

names-quiet : (s : Syntax) (name : List ℕ) → is_name_of s.names name ≡ true → list_all is_quiet name ≡ true
names-quiet s name h = all-of (is_name_character s.names) is_quiet (of-character is_quiet name-quiet s.names) name (name-characters s.names name h)

-- in a literal, up to its quote
literal-byte : (shorttag : Bool) (b : ℕ) (bytes : List ℕ) → not (b == 34) ≡ true → tag_end shorttag (Some 34) (b ∷ bytes) ≡ later 1 (tag_end shorttag (Some 34) bytes)
literal-byte shorttag b bytes h = go (b == 34) refl h
  where
    go : (t : Bool) → (b == 34) ≡ t → not t ≡ true → tag_end shorttag (Some 34) (b ∷ bytes) ≡ later 1 (tag_end shorttag (Some 34) bytes)
    go true e n = true-false (sym n)
    go false e n = rw e refl

literal-run : (shorttag : Bool) (bs bytes : List ℕ) → list_all (λ b. not (b == 34)) bs ≡ true
    → tag_end shorttag (Some 34) (bs ++ 34 ∷ bytes) ≡ later (length bs + 1) (tag_end shorttag None bytes)
literal-run shorttag [] bytes h = refl
literal-run shorttag (b ∷ bs) bytes h =
    let q = both (not (b == 34)) (list_all (λ b. not (b == 34)) bs) h in
    let n : 1 + (length bs + 1) ≡ length (b ∷ bs) + 1 = omega arith in
    literal-byte shorttag b (bs ++ 34 ∷ bytes) q.0 ∙ ap (λ o. later 1 o) (literal-run shorttag bs bytes q.1)
    ∙ later-later 1 (length bs + 1) (tag_end shorttag None bytes) ∙ ap (λ k. later k (tag_end shorttag None bytes)) n

literal-begins : (shorttag : Bool) (bytes : List ℕ) → tag_end shorttag None (34 ∷ bytes) ≡ later 1 (tag_end shorttag (Some 34) bytes)
literal-begins true bytes = refl
literal-begins false bytes = refl

quiet-one : (shorttag : Bool) (b : ℕ) (bytes : List ℕ) → is_quiet b ≡ true → tag_end shorttag None (b ∷ bytes) ≡ later 1 (tag_end shorttag None bytes)
quiet-one = quiet-end

given-append : (g : Given) (bytes : List ℕ) → given_text g ++ bytes ≡ 32 ∷ (g.name ++ (61 ∷ 34 ∷ (g.text ++ 34 ∷ bytes)))
given-append g bytes =
    ap (λ t. 32 ∷ t) (append_assoc g.name (61 ∷ 34 ∷ (g.text ++ 34 ∷ [])) bytes ∙ ap (λ t. g.name ++ (61 ∷ 34 ∷ t)) (append_assoc g.text (34 ∷ []) bytes))

given-length : (g : Given) → length (given_text g) ≡ 1 + (length g.name + (2 + (length g.text + 1)))
given-length g =
    let n = length-append g.name (61 ∷ 34 ∷ (g.text ++ 34 ∷ [])) in
    let m = length-append g.text (34 ∷ []) in
    omega (arith, n, m)

given-end : (s : Syntax) (shorttag : Bool) (g : Given) (bytes : List ℕ) → IsGiven s g
    → tag_end shorttag None (given_text g ++ bytes) ≡ later (length (given_text g)) (tag_end shorttag None bytes)
given-end s shorttag g bytes h =
    let o = tag_end shorttag None bytes in
    ap (tag_end shorttag None) (given-append g bytes)
    ∙ quiet-end shorttag 32 (g.name ++ (61 ∷ 34 ∷ (g.text ++ 34 ∷ bytes))) refl
    ∙ ap (λ x. later 1 x)
    (quiet-run shorttag g.name (61 ∷ 34 ∷ (g.text ++ 34 ∷ bytes)) (names-quiet s g.name h.name)
    ∙ ap (λ x. later (length g.name) x)
    (quiet-end shorttag 61 (34 ∷ (g.text ++ 34 ∷ bytes)) refl
    ∙ ap (λ x. later 1 x) (literal-begins shorttag (g.text ++ 34 ∷ bytes) ∙ ap (λ x. later 1 x) (literal-run shorttag g.text bytes h.unquoted)
    ∙ later-later 1 (length g.text + 1) o)
    ∙ later-later 1 (1 + (length g.text + 1)) o)
    ∙ later-later (length g.name) (1 + (1 + (length g.text + 1))) o)
    ∙ later-later 1 (length g.name + (1 + (1 + (length g.text + 1)))) o
    ∙ ap (λ k. later k o) (let l = given-length g in omega (arith, l))

givens-end : (s : Syntax) (shorttag : Bool) (gs : List Given) (bytes : List ℕ) → AreGiven s gs
    → tag_end shorttag None (flat_map given_text gs ++ bytes) ≡ later (length (flat_map given_text gs)) (tag_end shorttag None bytes)
givens-end s shorttag [] bytes h = later-none (tag_end shorttag None bytes)
givens-end s shorttag (g ∷ gs) bytes h =
    ap (tag_end shorttag None) (append_assoc (given_text g) (flat_map given_text gs) bytes)
    ∙ given-end s shorttag g (flat_map given_text gs ++ bytes) h.0
    ∙ ap (λ x. later (length (given_text g)) x) (givens-end s shorttag gs bytes h.1)
    ∙ later-later (length (given_text g)) (length (flat_map given_text gs)) (tag_end shorttag None bytes)
    ∙ ap (λ k. later k (tag_end shorttag None bytes)) (sym (length-append (given_text g) (flat_map given_text gs)))

close-end : (shorttag : Bool) (rest : List ℕ) → tag_end shorttag None (62 ∷ rest) ≡ Some 1
close-end true rest = refl
close-end false rest = refl

pub tag-append : (name : List ℕ) (gs : List Given) (rest : List ℕ) → tag_of name gs ++ rest ≡ 60 ∷ (name ++ (flat_map given_text gs ++ 62 ∷ rest))
tag-append name gs rest =
    ap (λ t. 60 ∷ t) (append_assoc name (flat_map given_text gs ++ 62 ∷ []) rest ∙ ap (λ t. name ++ t) (append_assoc (flat_map given_text gs) (62 ∷ []) rest))

pub tag-length : (name : List ℕ) (gs : List Given) → length (tag_of name gs) ≡ 1 + (length name + (length (flat_map given_text gs) + 1))
tag-length name gs =
    let n = length-append name (flat_map given_text gs ++ 62 ∷ []) in
    let m = length-append (flat_map given_text gs) (62 ∷ []) in
    omega (arith, n, m)

pub start-end : (s : Syntax) (name : List ℕ) (gs : List Given) (rest : List ℕ) → is_name_of s.names name ≡ true → AreGiven s gs
    → end_of s form.StartTag true (name ++ (flat_map given_text gs ++ 62 ∷ rest)) ≡ Some (length name + (length (flat_map given_text gs) + 1))
start-end s name gs rest h k =
    quiet-run s.shorttag name (flat_map given_text gs ++ 62 ∷ rest) (names-quiet s name h)
    ∙ ap (λ x. later (length name) x) (givens-end s s.shorttag gs (62 ∷ rest) k ∙ ap (λ x. later (length (flat_map given_text gs)) x) (close-end s.shorttag rest))

pub end-end : (s : Syntax) (name rest : List ℕ) → is_name_of s.names name ≡ true → end_of s form.EndTag true (name ++ 62 ∷ rest) ≡ Some (length name + 1)
end-end s name rest h =
    quiet-run s.shorttag name (62 ∷ rest) (names-quiet s name h) ∙ ap (λ x. later (length name) x) (close-end s.shorttag rest)

-- WHAT A TAG IS, by the grammar of tags (7.4, 7.5, 7.9)

abbrev pub specification_of : Given → Specification
specification_of g = Specification.Named (32 ∷ []) g.name [] [] (Value.Quoted 34 g.text)

spelled-all : (gs : List Given) → flat_map given_text gs ≡ spell_all (map specification_of gs)
spelled-all [] = refl
spelled-all (g ∷ gs) = ap (λ t. given_text g ++ t) (spelled-all gs)

all-stand : (s : Syntax) (after_literal : Bool) (gs : List Given) → AreGiven s gs → AllStand s after_literal (map specification_of gs)
all-stand s after_literal [] h = tt
all-stand s after_literal (g ∷ gs) h = (or-right after_literal true refl, (refl, h.0.name, refl, refl, (refl, h.0.unquoted)), all-stand s true gs h.1)

start-form : (s : Syntax) (name : List ℕ) (gs : List Given) → is_name_of s.names name ≡ true → AreGiven s gs → SpellsForm s false 1 (tag_of name gs)
start-form s name gs h k = record {
  delimiter = 60 ∷ [];
  text = name ++ (spell_all (map specification_of gs) ++ []);
  close = 62 ∷ [];
  body = record {
    name = name;
    specifications = map specification_of gs;
    last = [];
    named = name-characters s.names name h;
    stand = all-stand s false gs k;
    separators = refl;
    alone = λ e. true-false (sym e);
    is = refl;
  };
  begins = refl;
  closes = inl refl;
  is = ap (λ t. 60 ∷ t)
      (ap (λ t. name ++ (t ++ 62 ∷ [])) (spelled-all gs ∙ sym (append-nil (spell_all (map specification_of gs))))
      ∙ sym (append_assoc name (spell_all (map specification_of gs) ++ []) (62 ∷ [])));
}

end-form : (s : Syntax) (name : List ℕ) → is_name_of s.names name ≡ true → SpellsForm s true 2 ((60 ∷ 47 ∷ name) ++ 62 ∷ [])
end-form s name h = record {
  delimiter = 60 ∷ 47 ∷ [];
  text = name ++ ([] ++ []);
  close = 62 ∷ [];
  body = record {
    name = name;
    specifications = [];
    last = [];
    named = name-characters s.names name h;
    stand = tt;
    separators = refl;
    alone = λ e. refl;
    is = refl;
  };
  begins = refl;
  closes = inl refl;
  is = ap (λ t. 60 ∷ 47 ∷ (t ++ 62 ∷ [])) (sym (append-nil name));
}

-- where the form is one, the parts alone count
if-form : (good number_wrong length_wrong : Bool) (k : TokenKind) → if_tag good number_wrong length_wrong k ≢ Err TagSyntax → number_wrong ≡ false → length_wrong ≡ false
    → if_tag good number_wrong length_wrong k ≡ Ok k
if-form false n l k h p q = absurd (h refl)
if-form true n l k h p q = rw (p, q) refl

-- THE BYTES OF A PART
pub part-bytes : (tag front word more : List ℕ) (p : Part) → tag ≡ front ++ (word ++ more) → p.from ≡ length front → p.to ≡ length front + length word → bytes_of tag p ≡ word
part-bytes tag front word more p is from to =
    let size : length word ≡ p.to - p.from = omega (arith, from, to) in
    ap (λ t. take (p.to - p.from) (drop p.from t)) is
    ∙ ap (take (p.to - p.from)) (drop_at front (word ++ more) p.from (sym from))
    ∙ take_at word more (p.to - p.from) size

-- the byte before a place
byte-before : (front : List ℕ) (b : ℕ) (more : List ℕ) (n : ℕ) → n ≡ length front → get_or (front ++ (b ∷ more)) n 0 ≡ b
byte-before [] b more n h = ap (λ k. get_or (b ∷ more) k 0) h
byte-before (x ∷ front) b more n h = ap (λ k. get_or (x ∷ (front ++ (b ∷ more))) k 0) h ∙ byte-before front b more (length front) refl

-- THE PARTS of a specification at a place of a tag
abbrev pub name_part : ℕ → Given → Part
name_part at g = record { kind = part.AttributeName; from = at + 1; to = at + 1 + length g.name }

abbrev pub text_part : ℕ → Given → Part
text_part at g =
    record { kind = part.Quoted; from = at + 1 + length g.name + 0 + 1 + 0 + 1; to = at + 1 + length g.name + 0 + 1 + 0 + 1 + length g.text }

pub record HasGiven (tag : List ℕ) (at : ℕ) (g : Given) : Type 0 where
  pub name : bytes_of tag (name_part at g) ≡ g.name
  pub text : bytes_of tag (text_part at g) ≡ g.text
  pub quote : get_or tag ((text_part at g).from - 1) 0 ≡ 34

abbrev pub HaveGiven : List ℕ → ℕ → List Given → Type 0
HaveGiven tag at [] = Unit {0}
HaveGiven tag at (g ∷ gs) = HasGiven tag at g × HaveGiven tag (at + length (given_text g)) gs

has-given : (tag front more : List ℕ) (at : ℕ) (g : Given) → at ≡ length front → tag ≡ front ++ (given_text g ++ more) → HasGiven tag at g
has-given tag front more at g here is =
    let one : front ++ (given_text g ++ more) ≡ (front ++ 32 ∷ []) ++ (g.name ++ (61 ∷ 34 ∷ (g.text ++ 34 ∷ more))) =
    ap (λ t. front ++ t) (given-append g more) ∙ sym (append_assoc front (32 ∷ []) (g.name ++ (61 ∷ 34 ∷ (g.text ++ 34 ∷ more)))) in
    let l = length-append front (32 ∷ []) in
    let two : (front ++ 32 ∷ []) ++ (g.name ++ (61 ∷ 34 ∷ (g.text ++ 34 ∷ more))) ≡ ((front ++ 32 ∷ []) ++ (g.name ++ 61 ∷ [])) ++ (34 ∷ (g.text ++ 34 ∷ more)) =
    ap (λ t. (front ++ 32 ∷ []) ++ t) (sym (append_assoc g.name (61 ∷ []) (34 ∷ (g.text ++ 34 ∷ more))))
    ∙ sym (append_assoc (front ++ 32 ∷ []) (g.name ++ 61 ∷ []) (34 ∷ (g.text ++ 34 ∷ more))) in
    let before : List ℕ = (front ++ 32 ∷ []) ++ (g.name ++ 61 ∷ []) in
    let m = length-append (front ++ 32 ∷ []) (g.name ++ 61 ∷ []) in
    let n = length-append g.name (61 ∷ []) in
    let o = length-append before (34 ∷ []) in
    let quoted : tag ≡ before ++ (34 ∷ (g.text ++ 34 ∷ more)) = is ∙ one ∙ two in record {
      name = part-bytes tag (front ++ 32 ∷ []) g.name (61 ∷ 34 ∷ (g.text ++ 34 ∷ more)) (name_part at g) (is ∙ one) (omega (arith, here, l)) (omega (arith, here, l));
      text = part-bytes tag (before ++ 34 ∷ []) g.text (34 ∷ more) (text_part at g) (quoted ∙ sym (append_assoc before (34 ∷ []) (g.text ++ 34 ∷ more))) (omega (arith, here, l, m, n, o)) (omega (arith, here, l, m, n, o));
      quote = ap (λ t. get_or t (at + 1 + length g.name + 0 + 1 + 0 + 1 - 1) 0) quoted ∙ byte-before before 34 (g.text ++ 34 ∷ more) (at + 1 + length g.name + 0 + 1 + 0 + 1 - 1) (omega (arith, here, l, m, n));
    }

have-given : (tag front more : List ℕ) (at : ℕ) (gs : List Given) → at ≡ length front → tag ≡ front ++ (flat_map given_text gs ++ more) → HaveGiven tag at gs
have-given tag front more at [] here is = tt
have-given tag front more at (g ∷ gs) here is =
    let l = length-append front (given_text g) in (
      has-given tag front (flat_map given_text gs ++ more) at g here (is ∙ ap (λ t. front ++ t) (append_assoc (given_text g) (flat_map given_text gs) more)),
      have-given tag (front ++ given_text g) more (at + length (given_text g)) gs (omega (arith, here, l))
          (is ∙ ap (λ t. front ++ t) (append_assoc (given_text g) (flat_map given_text gs) more) ∙ sym (append_assoc front (given_text g) (flat_map given_text gs ++ more))),
    )

pub tag-has-given : (name : List ℕ) (gs : List Given) → HaveGiven (tag_of name gs) (1 + length name) gs
tag-has-given name gs =
    have-given (tag_of name gs) (60 ∷ name) (62 ∷ []) (1 + length name) gs (omega arith) refl

-- nothing is wrong with them
given-right : (s : Syntax) (tag : List ℕ) (at : ℕ) (gs : List Given) → AreGiven s gs → HaveGiven tag at gs
    → (list_any (wrong_number_in s tag) (places (map specification_of gs) at) ≡ false) × (list_any (wrong_length_in s tag) (places (map specification_of gs) at) ≡ false)
given-right s tag at [] h k = (refl, refl)
given-right s tag at (g ∷ gs) h k =
    let r = given-right s tag (at + length (given_text g)) gs h.1 k.1 in (
      rw (k.0.text, h.0.numbers, r.0) refl,
      rw (k.0.name, h.0.short, k.0.text, h.0.lengths, r.1) refl,
    )

-- A TAG IS ONE

given-sgml : (s : Syntax) (gs : List Given) → AreGiven s gs → list_all is_sgml_character (flat_map given_text gs) ≡ true
given-sgml s [] h = refl
given-sgml s (g ∷ gs) h =
    all-append is_sgml_character (given_text g) (flat_map given_text gs)
    (all-append is_sgml_character g.name (61 ∷ 34 ∷ (g.text ++ 34 ∷ [])) (names-sgml s.names g.name (name-characters s.names g.name h.0.name))
    (all-append is_sgml_character g.text (34 ∷ []) h.0.sgml refl))
    (given-sgml s gs h.1)

name-not-tagc : OfNames (λ b. not (b == 62))
name-not-tagc = record {
  letters = λ b h. grind (arith, nat_tests);
  digits = λ b h. grind (arith, nat_tests);
  minus = refl;
  stop = refl;
  low_line = refl;
  colon = refl;
}

name-not-slash : OfNames (λ b. not (b == 47))
name-not-slash = record {
  letters = λ b h. grind (arith, nat_tests);
  digits = λ b h. grind (arith, nat_tests);
  minus = refl;
  stop = refl;
  low_line = refl;
  colon = refl;
}

not-is : (t : Bool) → not t ≡ true → t ≡ false
not-is true h = true-false (sym h)
not-is false h = refl

begins-name : (s : Syntax) (name more : List ℕ) → is_name_of s.names name ≡ true → (begins_tagc (name ++ more) ≡ false) × (begins_slash (name ++ more) ≡ false)
begins-name s [] more h = true-false (sym h)
begins-name s (b ∷ bs) more h =
    let k = both (is_name_start s.names b) (list_all (is_name_character s.names) bs) h in
    let c = start-goes-on s.names b k.0 in (
      not-is (b == 62) (of-character (λ b. not (b == 62)) name-not-tagc s.names b c),
      not-is (b == 47) (of-character (λ b. not (b == 47)) name-not-slash s.names b c),
    )

abbrev pub name_of_tag : ℕ → List ℕ → Part
name_of_tag start name = record { kind = part.ElementName; from = start; to = start + length name }

pub start-parts-are : (s : Syntax) (name : List ℕ) (gs : List Given) → is_name_of s.names name ≡ true → AreGiven s gs
    → parts_of s false 1 (tag_of name gs) ≡ name_of_tag 1 name ∷ places (map specification_of gs) (1 + length name)
unfolding start-form
start-parts-are s name gs h k = form-parts s false 1 (tag_of name gs) (start-form s name gs h k)

pub end-parts-are : (s : Syntax) (name : List ℕ) → is_name_of s.names name ≡ true → parts_of s true 2 ((60 ∷ 47 ∷ name) ++ 62 ∷ []) ≡ name_of_tag 2 name ∷ []
unfolding end-form
end-parts-are s name h = form-parts s true 2 ((60 ∷ 47 ∷ name) ++ 62 ∷ []) (end-form s name h)

pub start-name-bytes : (name : List ℕ) (gs : List Given) → bytes_of (tag_of name gs) (name_of_tag 1 name) ≡ name
start-name-bytes name gs = part-bytes (tag_of name gs) (60 ∷ []) name (flat_map given_text gs ++ 62 ∷ []) (name_of_tag 1 name) refl refl refl

pub end-name-bytes : (name : List ℕ) → bytes_of ((60 ∷ 47 ∷ name) ++ 62 ∷ []) (name_of_tag 2 name) ≡ name
end-name-bytes name = part-bytes ((60 ∷ 47 ∷ name) ++ 62 ∷ []) (60 ∷ 47 ∷ []) name (62 ∷ []) (name_of_tag 2 name) refl refl refl

start-tag-judged : (s : Syntax) (name : List ℕ) (gs : List Given) → is_name_of s.names name ≡ true → too_long s (length name) ≡ false → AreGiven s gs
    → judged_tag s false 1 kind.StartTag (tag_of name gs) ≡ Ok kind.StartTag
start-tag-judged s name gs h short k =
    let tag = tag_of name gs in
    let parts = start-parts-are s name gs h k in
    let right = given-right s tag (1 + length name) gs k (tag-has-given name gs) in
    if-form _ _ _ kind.StartTag ((form-judged s false 1 kind.StartTag tag (omega arith)).1 (start-form s name gs h k))
    (ap (list_any (wrong_number_in s tag)) parts ∙ right.0)
    (ap (list_any (wrong_length_in s tag)) parts ∙ rw (start-name-bytes name gs, short) right.1)

pub start-judged : (s : Syntax) (name : List ℕ) (gs : List Given) → is_name_of s.names name ≡ true → too_long s (length name) ≡ false → AreGiven s gs
    → judged s form.StartTag (tag_of name gs) ≡ Ok kind.StartTag
start-judged s name gs h short k =
    if-true (list_all is_sgml_character (tag_of name gs)) _ _
    (all-append is_sgml_character name (flat_map given_text gs ++ 62 ∷ []) (names-sgml s.names name (name-characters s.names name h))
    (all-append is_sgml_character (flat_map given_text gs) (62 ∷ []) (given-sgml s gs k) refl))
    ∙ if-false (begins_tagc (name ++ (flat_map given_text gs ++ 62 ∷ []))) _ _ (begins-name s name (flat_map given_text gs ++ 62 ∷ []) h).0
    ∙ start-tag-judged s name gs h short k

pub last-is : (xs : List ℕ) (b : ℕ) → last_byte (xs ++ b ∷ []) ≡ b
last-is xs b = byte-before xs b [] (length (xs ++ b ∷ []) - 1) (let l = length-append xs (b ∷ []) in omega (arith, l))

end-tag-judged : (s : Syntax) (name : List ℕ) → is_name_of s.names name ≡ true → too_long s (length name) ≡ false
    → judged_tag s true 2 kind.EndTag ((60 ∷ 47 ∷ name) ++ 62 ∷ []) ≡ Ok kind.EndTag
end-tag-judged s name h short =
    let tag = (60 ∷ 47 ∷ name) ++ 62 ∷ [] in
    let parts = end-parts-are s name h in
    if-form _ _ _ kind.EndTag ((form-judged s true 2 kind.EndTag tag (omega arith)).1 (end-form s name h))
    (ap (list_any (wrong_number_in s tag)) parts)
    (ap (list_any (wrong_length_in s tag)) parts ∙ rw (end-name-bytes name, short) refl)

pub end-judged : (s : Syntax) (name : List ℕ) → is_name_of s.names name ≡ true → too_long s (length name) ≡ false
    → judged s form.EndTag ((60 ∷ 47 ∷ name) ++ 62 ∷ []) ≡ Ok kind.EndTag
end-judged s name h short =
    if-true (list_all is_sgml_character ((60 ∷ 47 ∷ name) ++ 62 ∷ [])) _ _
    (all-append is_sgml_character name (62 ∷ []) (names-sgml s.names name (name-characters s.names name h)) refl)
    ∙ if-false (begins_tagc (name ++ 62 ∷ [])) _ _ (begins-name s name (62 ∷ []) h).0
    ∙ if-false (last_byte ((60 ∷ 47 ∷ name) ++ 62 ∷ []) == 47) _ _ (ap (λ b. b == 47) (last-is (60 ∷ 47 ∷ name) 62))
    ∙ end-tag-judged s name h short

pub start-parts : (s : Syntax) (name : List ℕ) (gs : List Given) → is_name_of s.names name ≡ true → AreGiven s gs
    → parts_of_tag s (tag_of name gs) ≡ name_of_tag 1 name ∷ places (map specification_of gs) (1 + length name)
start-parts s name gs h k =
    let b = begins-name s name (flat_map given_text gs ++ 62 ∷ []) h in
    if-false (begins_tagc (name ++ (flat_map given_text gs ++ 62 ∷ []))) _ _ b.0
    ∙ if-false (begins_slash (name ++ (flat_map given_text gs ++ 62 ∷ []))) _ _ b.1
    ∙ start-parts-are s name gs h k

pub end-parts : (s : Syntax) (name : List ℕ) → is_name_of s.names name ≡ true
    → parts_of_tag s ((60 ∷ 47 ∷ name) ++ 62 ∷ []) ≡ name_of_tag 2 name ∷ []
end-parts s name h =
    if-false (begins_tagc (name ++ 62 ∷ [])) _ _ (begins-name s name (62 ∷ []) h).0 ∙ end-parts-are s name h
