-- Every end of a declaration is one by its grammar.
use Rattle.std.proofs.Common.{◌≡◌, ℕ, suc, ◌+◌, Bool, true, false, not, List, [], ◌∷◌, ◌++◌, Option, None, Some, length, refl, sym, ◌∙◌, ap, if◌then◌else◌, ◌==◌, ◌&&◌, ◌||◌, arith, append_assoc, length-append, ◌⊎◌, inl, inr}
use Rattle.std.specs.List.{list_all}
use Rattle.std.proofs.lemmas.Bool.{eqb-true}
use Rattle.sgml_text.specs.declared.name_set.NameSet.{NameSet}
use Rattle.sgml_text.specs.NameCharacters.{is_name_character}
use Rattle.sgml_delim.specs.declared.ends.Inside.{Inside}
use Rattle.sgml_delim.specs.declared.ends.Inside.TheVariants.{Between, Name, Minus, Literal, Comment, CommentMinus}
use Rattle.sgml_delim.specs.declared.ends.Ender.{Ender}
use Rattle.sgml_delim.specs.Ends.{later, begun, ends_declaration, end_after}
use Rattle.sgml_text.specs.Characters.{is_quote}
use Rattle.sgml_markup.specs.CommentGrammar.{begins_minus, has_com}
use Rattle.sgml_markup.specs.DeclarationGrammar.{DeclarationItem, DeclarationItem.Quoted, DeclarationItem.Commented, DeclarationItem.Word, DeclarationItem.Lone, DeclarationItem.Byte, spell, spell_all, begins_name, Stands, MayPrecede, SpellsDeclaration}
use Rattle.sgml_delim.proofs.Ending.{none-is}
use Rattle.sgml_markup.proofs.Declaring.{goes-on, name-between, minus-between, name-unended, minus-unended}

some-is : (m n : ℕ) → Some m ≡ Some n → m ≡ n
some-is m n e = cc

later-inv : (o : Option ℕ) (n : ℕ) → later 1 o ≡ Some n → (m : ℕ) × (o ≡ Some m) × (n ≡ 1 + m)
later-inv None n e = none-is n e
later-inv (Some m) n e = (m, refl, sym (some-is (1 + m) n e))

-- a literal, a comment or a word that is open, and what follows it
pub record Quotes (names : NameSet) (ender : Ender) (q : ℕ) (bytes : List ℕ) (n : ℕ) : Type 0 where
  pub text : List ℕ
  pub rest : List ℕ
  pub size : ℕ
  pub absent : list_all (λ b. not (b == q)) text ≡ true
  pub is : bytes ≡ text ++ q ∷ rest
  pub adds : n ≡ length text + 1 + size
  pub spelled : SpellsDeclaration names ender rest size

pub record Comments (names : NameSet) (ender : Ender) (bytes : List ℕ) (n : ℕ) : Type 0 where
  pub text : List ℕ
  pub rest : List ℕ
  pub size : ℕ
  pub absent : has_com (text ++ 45 ∷ []) ≡ false
  pub is : bytes ≡ text ++ 45 ∷ 45 ∷ rest
  pub adds : n ≡ length text + 2 + size
  pub spelled : SpellsDeclaration names ender rest size

pub record Names (names : NameSet) (ender : Ender) (bytes : List ℕ) (n : ℕ) : Type 0 where
  pub text : List ℕ
  pub rest : List ℕ
  pub size : ℕ
  pub all : list_all (is_name_character names) text ≡ true
  pub longest : begins_name names rest ≡ false
  pub is : bytes ≡ text ++ rest
  pub adds : n ≡ length text + size
  pub spelled : SpellsDeclaration names ender rest size

-- after one `-`
pub record Opens (names : NameSet) (ender : Ender) (bytes : List ℕ) (n : ℕ) : Type 0 where
  pub rest : List ℕ
  pub size : ℕ
  pub is : bytes ≡ 45 ∷ rest
  pub adds : n ≡ 1 + size
  pub comment : Comments names ender rest size

pub record Lonely (names : NameSet) (ender : Ender) (bytes : List ℕ) (n : ℕ) : Type 0 where
  pub alone : begins_minus bytes ≡ false
  pub spelled : SpellsDeclaration names ender bytes n

abbrev pub FoundAt : NameSet → Ender → Inside → List ℕ → ℕ → Type 0
FoundAt names ender Between bytes n = SpellsDeclaration names ender bytes n
FoundAt names ender Name bytes n = Names names ender bytes n
FoundAt names ender Minus bytes n = Lonely names ender bytes n ⊎ Opens names ender bytes n
FoundAt names ender (Literal q) bytes n = Quotes names ender q bytes n
FoundAt names ender Comment bytes n = Comments names ender bytes n
FoundAt names ender CommentMinus bytes n = Comments names ender (45 ∷ bytes) (1 + n)

abbrev More : NameSet → Ender → List ℕ → Type 0
More names ender bytes =
    (inside : Inside) (m : ℕ) → end_after names ender inside bytes ≡ Some m → FoundAt names ender inside bytes m

-- one part more
with-item : (names : NameSet) (ender : Ender) (item : DeclarationItem) (rest : List ℕ) (m n : ℕ) → Stands names ender item
    → ((xs : List ℕ) → xs ≡ rest → MayPrecede names item xs) → n ≡ length (spell item) + m → SpellsDeclaration names ender rest m
    → SpellsDeclaration names ender (spell item ++ rest) n
with-item names ender item rest m n stand precede e h = record {
  items = item ∷ h.items;
  last = h.last;
  more = h.more;
  stand = (stand, precede (spell_all h.items ++ h.last ∷ h.more) (sym h.is), h.stand);
  is = ap (λ xs. spell item ++ xs) h.is ∙ sym (append_assoc (spell item) (spell_all h.items) (h.last ∷ h.more));
  ends = h.ends;
  size = size;
}
  where
    size : n ≡ length (spell item ++ spell_all h.items) + 1
    size = let len = length-append (spell item) (spell_all h.items) in let low = h.size in omega (arith, e, len, low)

moved : (names : NameSet) (ender : Ender) (xs ys : List ℕ) (n : ℕ) → xs ≡ ys → SpellsDeclaration names ender ys n → SpellsDeclaration names ender xs n
moved names ender xs ys n e h = record {
  items = h.items;
  last = h.last;
  more = h.more;
  stand = h.stand;
  is = e ∙ h.is;
  ends = h.ends;
  size = h.size;
}

with-literal : (names : NameSet) (ender : Ender) (q m n : ℕ) (bytes : List ℕ) → is_quote q ≡ true → n ≡ 1 + m → Quotes names ender q bytes m
    → SpellsDeclaration names ender (q ∷ bytes) n
with-literal names ender q m n bytes e is h =
    moved names ender (q ∷ bytes) (spell (Quoted q h.text) ++ h.rest) n
    (ap (λ xs. q ∷ xs) (h.is ∙ sym (append_assoc h.text (q ∷ []) h.rest)))
    (with-item names ender (Quoted q h.text) h.rest h.size n (e, h.absent) (λ xs f. tt) size h.spelled)
  where
    size : n ≡ suc (length (h.text ++ q ∷ [])) + h.size
    size = let len = length-append h.text (q ∷ []) in let adds = h.adds in omega (arith, is, len, adds)

with-word : (names : NameSet) (ender : Ender) (b m n : ℕ) (bytes : List ℕ) → (b == 45) ≡ false → is_name_character names b ≡ true
    → n ≡ 1 + m → Names names ender bytes m → SpellsDeclaration names ender (b ∷ bytes) n
with-word names ender b m n bytes e f is h =
    moved names ender (b ∷ bytes) (spell (Word b h.text) ++ h.rest) n (ap (λ xs. b ∷ xs) h.is)
    (with-item names ender (Word b h.text) h.rest h.size n (e, f, h.all) (λ xs g. ap (begins_name names) g ∙ h.longest) size h.spelled)
  where
    size : n ≡ suc (length h.text) + h.size
    size = let adds = h.adds in omega (arith, is, adds)

with-minus : (names : NameSet) (ender : Ender) (b m n : ℕ) (bytes : List ℕ) → b ≡ 45 → n ≡ 1 + m
    → Lonely names ender bytes m ⊎ Opens names ender bytes m → SpellsDeclaration names ender (b ∷ bytes) n
with-minus names ender b m n bytes e is (inl h) =
    moved names ender (b ∷ bytes) (spell Lone ++ bytes) n (ap (λ c. c ∷ bytes) e)
    (with-item names ender Lone bytes m n tt (λ xs g. ap begins_minus g ∙ h.alone) (omega (arith, is)) h.spelled)
with-minus names ender b m n bytes e is (inr h) =
    moved names ender (b ∷ bytes) (spell (Commented h.comment.text) ++ h.comment.rest) n
    (ap (λ c. c ∷ bytes) e ∙ ap (λ xs. 45 ∷ xs) h.is
    ∙ ap (λ xs. 45 ∷ 45 ∷ xs) (h.comment.is ∙ sym (append_assoc h.comment.text (45 ∷ 45 ∷ []) h.comment.rest)))
    (with-item names ender (Commented h.comment.text) h.comment.rest h.comment.size n h.comment.absent (λ xs f. tt) size h.comment.spelled)
  where
    size : n ≡ suc (suc (length (h.comment.text ++ 45 ∷ 45 ∷ []))) + h.comment.size
    size =
        let len = length-append h.comment.text (45 ∷ 45 ∷ []) in
        let low = h.adds in
        let adds = h.comment.adds in
        omega (arith, is, len, low, adds)

-- at a byte between parts
found-begun : (names : NameSet) (ender : Ender) (b n : ℕ) (bytes : List ℕ) → More names ender bytes
    → (if ends_declaration ender b then Some 1 else later 1 (end_after names ender (begun names b) bytes)) ≡ Some n
    → SpellsDeclaration names ender (b ∷ bytes) n
found-begun names ender b n bytes more e = by_end (ends_declaration ender b) refl e
  where
    by_name : (t : Bool) → is_name_character names b ≡ t → is_quote b ≡ false → (b == 45) ≡ false → ends_declaration ender b ≡ false
        → later 1 (end_after names ender (if t then Name else Between) bytes) ≡ Some n → SpellsDeclaration names ender (b ∷ bytes) n
    by_name true p q m f h =
        let inv = later-inv (end_after names ender Name bytes) n h in
        with-word names ender b inv.0 n bytes m p inv.2 (more Name inv.0 inv.1)
    by_name false p q m f h =
        let inv = later-inv (end_after names ender Between bytes) n h in
        with-item names ender (Byte b) bytes inv.0 n (q, m, p, f) (λ xs g. tt) inv.2 (more Between inv.0 inv.1)

    by_minus : (t : Bool) → (b == 45) ≡ t → is_quote b ≡ false → ends_declaration ender b ≡ false
        → later 1 (end_after names ender (if t then Minus else if is_name_character names b then Name else Between) bytes) ≡ Some n
        → SpellsDeclaration names ender (b ∷ bytes) n
    by_minus true p q f h =
        let inv = later-inv (end_after names ender Minus bytes) n h in
        with-minus names ender b inv.0 n bytes (eqb-true b 45 p) inv.2 (more Minus inv.0 inv.1)
    by_minus false p q f h = by_name (is_name_character names b) refl q p f h

    by_quote : (t : Bool) → is_quote b ≡ t → ends_declaration ender b ≡ false
        → later 1 (end_after names ender (if t then Literal b else if b == 45 then Minus else if is_name_character names b then Name else Between) bytes) ≡ Some n
        → SpellsDeclaration names ender (b ∷ bytes) n
    by_quote true p f h =
        let inv = later-inv (end_after names ender (Literal b) bytes) n h in
        with-literal names ender b inv.0 n bytes p inv.2 (more (Literal b) inv.0 inv.1)
    by_quote false p f h = by_minus (b == 45) refl p f h

    by_end : (t : Bool) → ends_declaration ender b ≡ t
        → (if t then Some 1 else later 1 (end_after names ender (begun names b) bytes)) ≡ Some n → SpellsDeclaration names ender (b ∷ bytes) n
    by_end true p h = record { items = []; last = b; more = bytes; stand = tt; is = refl; ends = p; size = sym (some-is 1 n h) }
    by_end false p h = by_quote (is_quote b) refl p h

-- a byte that ends a declaration is no name character and no `-`
found-name : (names : NameSet) (ender : Ender) (b n : ℕ) (bytes : List ℕ) → More names ender bytes
    → end_after names ender Name (b ∷ bytes) ≡ Some n → Names names ender (b ∷ bytes) n
found-name names ender b n bytes more e = by_name (is_name_character names b) refl
  where
    by_name : (t : Bool) → is_name_character names b ≡ t → Names names ender (b ∷ bytes) n
    by_name true p =
        let inv = later-inv (end_after names ender Name bytes) n
        (ap (λ t. later 1 (end_after names ender (if t then Name else begun names b) bytes)) (sym p)
        ∙ sym (goes-on names ender Name b bytes (name-unended names ender b p)) ∙ e) in
        let h = more Name inv.0 inv.1 in
        record {
          text = b ∷ h.text;
          rest = h.rest;
          size = h.size;
          all = ap (λ t. t && list_all (is_name_character names) h.text) p ∙ h.all;
          longest = h.longest;
          is = ap (λ xs. b ∷ xs) h.is;
          adds = let len = inv.2 in let adds = h.adds in omega (arith, len, adds);
          spelled = h.spelled;
        }
    by_name false p =
        record {
          text = [];
          rest = b ∷ bytes;
          size = n;
          all = refl;
          longest = p;
          is = refl;
          adds = omega arith;
          spelled = found-begun names ender b n bytes more (sym (name-between names ender (b ∷ bytes) p) ∙ e);
        }

found-minus : (names : NameSet) (ender : Ender) (b n : ℕ) (bytes : List ℕ) → More names ender bytes
    → end_after names ender Minus (b ∷ bytes) ≡ Some n → Lonely names ender (b ∷ bytes) n ⊎ Opens names ender (b ∷ bytes) n
found-minus names ender b n bytes more e = by_minus (b == 45) refl
  where
    by_minus : (t : Bool) → (b == 45) ≡ t → Lonely names ender (b ∷ bytes) n ⊎ Opens names ender (b ∷ bytes) n
    by_minus true p =
        let is = eqb-true b 45 p in
        let inv = later-inv (end_after names ender Comment bytes) n
        (ap (λ t. later 1 (end_after names ender (if t then Comment else begun names b) bytes)) (sym p)
        ∙ sym (goes-on names ender Minus b bytes (ap (ends_declaration ender) is ∙ minus-unended ender)) ∙ e) in
        inr (record { rest = bytes; size = inv.0; is = ap (λ c. c ∷ bytes) is; adds = inv.2; comment = more Comment inv.0 inv.1 })
    by_minus false p =
        inl (record { alone = p; spelled = found-begun names ender b n bytes more (sym (minus-between names ender (b ∷ bytes) p) ∙ e) })

found-literal : (names : NameSet) (ender : Ender) (q b n : ℕ) (bytes : List ℕ) → More names ender bytes
    → end_after names ender (Literal q) (b ∷ bytes) ≡ Some n → Quotes names ender q (b ∷ bytes) n
found-literal names ender q b n bytes more e = by_quote (b == q) refl e
  where
    by_quote : (t : Bool) → (b == q) ≡ t → later 1 (end_after names ender (if t then Between else Literal q) bytes) ≡ Some n
        → Quotes names ender q (b ∷ bytes) n
    by_quote true p f =
        let inv = later-inv (end_after names ender Between bytes) n f in
        record {
          text = [];
          rest = bytes;
          size = inv.0;
          absent = refl;
          is = ap (λ c. c ∷ bytes) (eqb-true b q p);
          adds = let len = inv.2 in omega (arith, len);
          spelled = more Between inv.0 inv.1;
        }
    by_quote false p f =
        let inv = later-inv (end_after names ender (Literal q) bytes) n f in
        let h = more (Literal q) inv.0 inv.1 in
        record {
          text = b ∷ h.text;
          rest = h.rest;
          size = h.size;
          absent = ap (λ t. not t && list_all (λ c. not (c == q)) h.text) p ∙ h.absent;
          is = ap (λ xs. b ∷ xs) h.is;
          adds = let len = inv.2 in let adds = h.adds in omega (arith, len, adds);
          spelled = h.spelled;
        }

found-comment : (names : NameSet) (ender : Ender) (b n : ℕ) (bytes : List ℕ) → More names ender bytes
    → end_after names ender Comment (b ∷ bytes) ≡ Some n → Comments names ender (b ∷ bytes) n
found-comment names ender b n bytes more e = by_minus (b == 45) refl e
  where
    by_minus : (t : Bool) → (b == 45) ≡ t → later 1 (end_after names ender (if t then CommentMinus else Comment) bytes) ≡ Some n
        → Comments names ender (b ∷ bytes) n
    by_minus true p f =
        let inv = later-inv (end_after names ender CommentMinus bytes) n f in
        let h = more CommentMinus inv.0 inv.1 in
        record {
          text = h.text;
          rest = h.rest;
          size = h.size;
          absent = h.absent;
          is = ap (λ c. c ∷ bytes) (eqb-true b 45 p) ∙ h.is;
          adds = inv.2 ∙ h.adds;
          spelled = h.spelled;
        }
    by_minus false p f =
        let inv = later-inv (end_after names ender Comment bytes) n f in
        let h = more Comment inv.0 inv.1 in
        record {
          text = b ∷ h.text;
          rest = h.rest;
          size = h.size;
          absent = ap (λ t. (t && begins_minus (h.text ++ 45 ∷ [])) || has_com (h.text ++ 45 ∷ [])) p ∙ h.absent;
          is = ap (λ xs. b ∷ xs) h.is;
          adds = let len = inv.2 in let adds = h.adds in omega (arith, len, adds);
          spelled = h.spelled;
        }

found-ending : (names : NameSet) (ender : Ender) (b n : ℕ) (bytes : List ℕ) → More names ender bytes
    → end_after names ender CommentMinus (b ∷ bytes) ≡ Some n → Comments names ender (45 ∷ b ∷ bytes) (1 + n)
found-ending names ender b n bytes more e = by_minus (b == 45) refl e
  where
    by_minus : (t : Bool) → (b == 45) ≡ t → later 1 (end_after names ender (if t then Between else Comment) bytes) ≡ Some n
        → Comments names ender (45 ∷ b ∷ bytes) (1 + n)
    by_minus true p f =
        let inv = later-inv (end_after names ender Between bytes) n f in
        record {
          text = [];
          rest = bytes;
          size = inv.0;
          absent = refl;
          is = ap (λ c. 45 ∷ c ∷ bytes) (eqb-true b 45 p);
          adds = let len = inv.2 in omega (arith, len);
          spelled = more Between inv.0 inv.1;
        }
    by_minus false p f =
        let inv = later-inv (end_after names ender Comment bytes) n f in
        let h = more Comment inv.0 inv.1 in
        record {
          text = 45 ∷ b ∷ h.text;
          rest = h.rest;
          size = h.size;
          absent = ap (λ t. t || ((t && begins_minus (h.text ++ 45 ∷ [])) || has_com (h.text ++ 45 ∷ []))) p ∙ h.absent;
          is = ap (λ xs. 45 ∷ b ∷ xs) h.is;
          adds = let len = inv.2 in let adds = h.adds in omega (arith, len, adds);
          spelled = h.spelled;
        }

pub found-declaration : (names : NameSet) (ender : Ender) (inside : Inside) (bytes : List ℕ) (n : ℕ)
    → end_after names ender inside bytes ≡ Some n → FoundAt names ender inside bytes n
found-declaration names ender inside [] n e = none-is n e
found-declaration names ender Between (b ∷ bytes) n e =
    found-begun names ender b n bytes (λ inside m f. found-declaration names ender inside bytes m f) e
found-declaration names ender Name (b ∷ bytes) n e =
    found-name names ender b n bytes (λ inside m f. found-declaration names ender inside bytes m f) e
found-declaration names ender Minus (b ∷ bytes) n e =
    found-minus names ender b n bytes (λ inside m f. found-declaration names ender inside bytes m f) e
found-declaration names ender (Literal q) (b ∷ bytes) n e =
    found-literal names ender q b n bytes (λ inside m f. found-declaration names ender inside bytes m f) e
found-declaration names ender Comment (b ∷ bytes) n e =
    found-comment names ender b n bytes (λ inside m f. found-declaration names ender inside bytes m f) e
found-declaration names ender CommentMinus (b ∷ bytes) n e =
    found-ending names ender b n bytes (λ inside m f. found-declaration names ender inside bytes m f) e
