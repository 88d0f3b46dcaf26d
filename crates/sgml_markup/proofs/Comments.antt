-- The text of a comment declaration is the one by its grammar.
use Rattle.std.proofs.Common.{◌≡◌, ℕ, Bool, true, false, List, [], ◌∷◌, ◌++◌, refl, sym, ◌∙◌, ap, if◌then◌else◌, ◌==◌, ◌&&◌, ◌||◌, arith, append_assoc}
use Rattle.std.proofs.lemmas.Bool.{eqb-true}
use Rattle.std.proofs.lemmas.Bool.Decides.{nat_tests}
use Rattle.sgml_delim.specs.declared.ends.Inside.{Inside}
use Rattle.sgml_delim.specs.declared.ends.Inside.TheVariants.{Between, Name, Minus, Literal, Comment, CommentMinus}
use Rattle.sgml_text.specs.Characters.{is_separator}
use Rattle.sgml_markup.specs.Forms.{is_comments}
use Rattle.sgml_markup.specs.CommentGrammar.{CommentPart, CommentPart.Separator, CommentPart.Commented, begins_minus, has_com, spell_all, AllStand, SpellsComments}
use Rattle.sgml_delim.proofs.Deciding.{true-false, and-left, and-right}

pub or-right : (a b : Bool) → (a || b) ≡ false → b ≡ false
or-right true b e = absurd (true-false (sym e))
or-right false b e = e

pub or-left : (a b : Bool) → (a || b) ≡ false → a ≡ false
or-left true b e = absurd (true-false (sym e))
or-left false b e = refl

pub begins-same : (text xs ys : List ℕ) → begins_minus (text ++ 45 ∷ xs) ≡ begins_minus (text ++ 45 ∷ ys)
begins-same [] xs ys = refl
begins-same (c ∷ text) xs ys = refl

-- every spelling is the text of one
minus-comment : (bytes : List ℕ) → begins_minus bytes ≡ false → is_comments CommentMinus bytes ≡ is_comments Comment bytes
minus-comment [] e = refl
minus-comment (c ∷ bytes) e =
    ap (λ t. is_comments (if t then Between else Comment) bytes) e
    ∙ sym (ap (λ t. is_comments (if t then CommentMinus else Comment) bytes) e)

comment-body : (text rest : List ℕ) → has_com (text ++ 45 ∷ []) ≡ false
    → is_comments Comment (text ++ 45 ∷ 45 ∷ rest) ≡ is_comments Between rest
comment-body [] rest e = refl
comment-body (b ∷ text) rest e = by_minus (b == 45) refl (comment-body text rest (or-right here (has_com (text ++ 45 ∷ [])) e))
  where
    here : Bool
    here = (b == 45) && begins_minus (text ++ 45 ∷ [])

    by_minus : (t : Bool) → (b == 45) ≡ t → is_comments Comment (text ++ 45 ∷ 45 ∷ rest) ≡ is_comments Between rest
        → is_comments (if t then CommentMinus else Comment) (text ++ 45 ∷ 45 ∷ rest) ≡ is_comments Between rest
    by_minus true p more =
        minus-comment (text ++ 45 ∷ 45 ∷ rest)
        (begins-same text (45 ∷ rest) []
        ∙ sym (ap (λ t. t && begins_minus (text ++ 45 ∷ [])) p)
        ∙ or-left here (has_com (text ++ 45 ∷ [])) e)
        ∙ more
    by_minus false p more = more

no-minus : (b : ℕ) → is_separator b ≡ true → (b == 45) ≡ false
no-minus b e = grind (arith, nat_tests)

comments-spelled : (parts : List CommentPart) → AllStand parts → is_comments Between (spell_all parts) ≡ true
comments-spelled [] h = refl
comments-spelled (Separator b ∷ parts) h =
    ap (λ t. (t || (b == 45)) && is_comments (if b == 45 then Minus else Between) (spell_all parts)) h.0
    ∙ ap (λ t. is_comments (if t then Minus else Between) (spell_all parts)) (no-minus b h.0)
    ∙ comments-spelled parts h.1
comments-spelled (Commented text ∷ parts) h =
    ap (is_comments Comment) (append_assoc text (45 ∷ 45 ∷ []) (spell_all parts))
    ∙ comment-body text (spell_all parts) h.0
    ∙ comments-spelled parts h.1

pub spelled-comments : (bytes : List ℕ) → SpellsComments bytes → is_comments Between bytes ≡ true
spelled-comments bytes h = ap (is_comments Between) h.is ∙ comments-spelled h.parts h.stand

-- every text of one is spelled
pub record Closes (bytes : List ℕ) : Type 0 where
  pub text : List ℕ
  pub rest : List ℕ
  pub absent : has_com (text ++ 45 ∷ []) ≡ false
  pub is : bytes ≡ text ++ 45 ∷ 45 ∷ rest
  pub spelled : SpellsComments rest

abbrev pub FoundAt : Inside → List ℕ → Type 0
FoundAt Between bytes = SpellsComments bytes
FoundAt Minus bytes = (rest : List ℕ) × (bytes ≡ 45 ∷ rest) × Closes rest
FoundAt Comment bytes = Closes bytes
FoundAt CommentMinus bytes = Closes (45 ∷ bytes)
FoundAt Name bytes = Unit {0}
FoundAt (Literal q) bytes = Unit {0}

with-separator : (b : ℕ) (bytes : List ℕ) → is_separator b ≡ true → SpellsComments bytes → SpellsComments (b ∷ bytes)
with-separator b bytes e h = record {
  parts = Separator b ∷ h.parts;
  stand = (e, h.stand);
  is = ap (λ xs. b ∷ xs) h.is;
}

with-comment : (b : ℕ) (bytes : List ℕ) → b ≡ 45 → FoundAt Minus bytes → SpellsComments (b ∷ bytes)
with-comment b bytes e h = record {
  parts = Commented h.2.text ∷ h.2.spelled.parts;
  stand = (h.2.absent, h.2.spelled.stand);
  is = ap (λ c. c ∷ bytes) e
      ∙ ap (λ xs. 45 ∷ xs) h.1
      ∙ ap (λ xs. 45 ∷ 45 ∷ xs)
      (h.2.is ∙ ap (λ xs. h.2.text ++ 45 ∷ 45 ∷ xs) h.2.spelled.is
      ∙ sym (append_assoc h.2.text (45 ∷ 45 ∷ []) (spell_all h.2.spelled.parts)));
}

found-between : (b : ℕ) (bytes : List ℕ) → ((inside : Inside) → is_comments inside bytes ≡ true → FoundAt inside bytes)
    → is_comments Between (b ∷ bytes) ≡ true → SpellsComments (b ∷ bytes)
found-between b bytes more e = by_minus (b == 45) refl e
  where
    or-false : (a : Bool) → (a || false) ≡ a
    or-false true = refl
    or-false false = refl

    by_minus : (t : Bool) → (b == 45) ≡ t → ((is_separator b || t) && is_comments (if t then Minus else Between) bytes) ≡ true
        → SpellsComments (b ∷ bytes)
    by_minus true p f =
        with-comment b bytes (eqb-true b 45 p) (more Minus (and-right (is_separator b || true) (is_comments Minus bytes) f))
    by_minus false p f =
        with-separator b bytes (sym (or-false (is_separator b)) ∙ and-left (is_separator b || false) (is_comments Between bytes) f)
        (more Between (and-right (is_separator b || false) (is_comments Between bytes) f))

found-comment : (b : ℕ) (bytes : List ℕ) → ((inside : Inside) → is_comments inside bytes ≡ true → FoundAt inside bytes)
    → is_comments Comment (b ∷ bytes) ≡ true → Closes (b ∷ bytes)
found-comment b bytes more e = by_minus (b == 45) refl e
  where
    by_minus : (t : Bool) → (b == 45) ≡ t → is_comments (if t then CommentMinus else Comment) bytes ≡ true → Closes (b ∷ bytes)
    by_minus true p f =
        let h = more CommentMinus f in
        record {
          text = h.text;
          rest = h.rest;
          absent = h.absent;
          is = ap (λ c. c ∷ bytes) (eqb-true b 45 p) ∙ h.is;
          spelled = h.spelled;
        }
    by_minus false p f =
        let h = more Comment f in
        record {
          text = b ∷ h.text;
          rest = h.rest;
          absent = ap (λ t. (t && begins_minus (h.text ++ 45 ∷ [])) || has_com (h.text ++ 45 ∷ [])) p ∙ h.absent;
          is = ap (λ xs. b ∷ xs) h.is;
          spelled = h.spelled;
        }

found-ending : (b : ℕ) (bytes : List ℕ) → ((inside : Inside) → is_comments inside bytes ≡ true → FoundAt inside bytes)
    → is_comments CommentMinus (b ∷ bytes) ≡ true → Closes (45 ∷ b ∷ bytes)
found-ending b bytes more e = by_minus (b == 45) refl e
  where
    by_minus : (t : Bool) → (b == 45) ≡ t → is_comments (if t then Between else Comment) bytes ≡ true → Closes (45 ∷ b ∷ bytes)
    by_minus true p f =
        record {
          text = [];
          rest = bytes;
          absent = refl;
          is = ap (λ c. 45 ∷ c ∷ bytes) (eqb-true b 45 p);
          spelled = more Between f;
        }
    by_minus false p f =
        let h = more Comment f in
        record {
          text = 45 ∷ b ∷ h.text;
          rest = h.rest;
          absent = ap (λ t. t || ((t && begins_minus (h.text ++ 45 ∷ [])) || has_com (h.text ++ 45 ∷ []))) p ∙ h.absent;
          is = ap (λ xs. 45 ∷ b ∷ xs) h.is;
          spelled = h.spelled;
        }

pub found-comments : (inside : Inside) (bytes : List ℕ) → is_comments inside bytes ≡ true → FoundAt inside bytes
found-comments Between [] e = record { parts = []; stand = tt; is = refl }
found-comments Minus [] e = absurd (true-false e)
found-comments Comment [] e = absurd (true-false e)
found-comments CommentMinus [] e = absurd (true-false e)
found-comments Name bytes e = tt
found-comments (Literal q) bytes e = tt
found-comments Between (b ∷ bytes) e = found-between b bytes (λ inside f. found-comments inside bytes f) e
found-comments Minus (b ∷ bytes) e = (
  bytes,
  ap (λ c. c ∷ bytes) (eqb-true b 45 (and-left (b == 45) (is_comments Comment bytes) e)),
  found-comments Comment bytes (and-right (b == 45) (is_comments Comment bytes) e),
)
found-comments Comment (b ∷ bytes) e = found-comment b bytes (λ inside f. found-comments inside bytes f) e
found-comments CommentMinus (b ∷ bytes) e = found-ending b bytes (λ inside f. found-comments inside bytes f) e
