-- A declaration and the end of a document type end with a character that ends no record.
use Rattle.std.proofs.Common.{◌≡◌, ℕ, zero, suc, ◌+◌, inl, inr, Bool, true, false, ◌&&◌, ◌||◌, ◌==◌, List, [], ◌∷◌, ◌++◌, Option, None, Some, length, take, drop, refl, sym, ap, ◌∙◌, subst, if◌then◌else◌, eqb-true, arith}
use Rattle.std.proofs.lemmas.List.{append_assoc}
use Rattle.sgml_io.specs.text.Characters.{is_sgml_character, is_separator}
use Rattle.sgml_io.specs.text.declared.name_set.NameSet.{NameSet}
use Rattle.sgml_theory_standing.specs.syntax.declared.syntax.Syntax.{Syntax}
use Rattle.sgml_io.specs.Records.{is_plain, EndsInRecord}
use Rattle.sgml_theory_standing.specs.delim.declared.delim.Delim.{Delim}
use Rattle.sgml_theory_standing.specs.delim.declared.delim.Mode.TheVariants as m
use Rattle.sgml_theory_standing.specs.delim.declared.ends.Ender.{Ender}
use Rattle.sgml_theory_standing.specs.delim.declared.ends.Ender.TheVariants.{Mdc, Dso, Either}
use Rattle.sgml_theory_standing.specs.delim.declared.ends.Inside.{Inside}
use Rattle.sgml_theory_standing.specs.delim.declared.ends.Inside.TheVariants.{Between}
use Rattle.sgml_theory_standing.specs.delim.Ends.{later, inside_after, is_outside, ends_declaration, end_after, ender_of}
use Rattle.sgml_theory_standing.specs.delim.Tables.{string, stands, delims}
use Rattle.sgml_theory_standing.specs.delim.Answers as delimiters
use Rattle.sgml_theory_standing.specs.delim.Answers.{Among, Says}
use Rattle.sgml_theory_standing.proofs.delim.Longest.{answer-longest}
use Rattle.sgml_theory_standing.specs.markup.declared.kinds.Form.{Form}
use Rattle.sgml_theory_standing.specs.markup.declared.kinds.Form.TheVariants as form
use Rattle.sgml_theory_standing.specs.markup.declared.kinds.TokenKind.{TokenKind}
use Rattle.sgml_theory_standing.specs.markup.declared.kinds.TokenKind.TheVariants as kind
use Rattle.sgml_theory_standing.specs.markup.Ends.{pi_end, end_of}
use Rattle.sgml_theory_standing.specs.markup.Forms.{before}
use Rattle.sgml_theory_standing.specs.scan.declared.classes.Class.TheVariants as class
use Rattle.sgml_theory_standing.specs.scan.declared.classes.Run.TheVariants as run
use Rattle.sgml_theory_standing.specs.scan.declared.state.Opening.TheVariants.{Markup}
use Rattle.sgml_theory_standing.specs.scan.Openings.{opening, declared_form}
use Rattle.sgml_theory_standing.specs.scan.Tokens.{token, opened}
use Rattle.sgml_theory_standing.specs.theory_spelling.Tokens.{character_token, string_at, by_string, by_delimiter, token_at}
use Rattle.sgml_theory_prologs.proofs.Recognised.{never}
use Rattle.sgml_theory_prologs.proofs.Ends.{is_ended}
use Rattle.sgml_theory_prologs.proofs.Tokens.{ds, ign, kind-same, and-false, markup-size, by-cases, declared-ended, parameter-named}

-- WHAT ENDS A DECLARATION ends no record

closing-plain : (x : Ender) (b : ℕ) → ends_declaration x b ≡ true → is_plain b ≡ true
closing-plain Mdc b e = ap is_plain (eqb-true b 62 e)
closing-plain Dso b e = ap is_plain (eqb-true b 91 e)
closing-plain Either b e = by (b == 62) refl e
  where
    by : (t : Bool) → (b == 62) ≡ t → (t || (b == 91)) ≡ true → is_plain b ≡ true
    by true s e = ap is_plain (eqb-true b 62 s)
    by false s e = ap is_plain (eqb-true b 91 e)

and-second : (t u : Bool) → (t && u) ≡ true → u ≡ true
and-second true u e = e
and-second false u e = never false e refl

some-same : (n i : ℕ) → Some n ≡ Some i → n ≡ i
some-same n i e = ap number (e)
  where
    number : Option ℕ → ℕ
    number (Some x) = x
    number None = n

-- one byte is the end, or it comes later
one-ends : (b n : ℕ) (bytes : List ℕ) → is_plain b ≡ true → Some 1 ≡ Some n → EndsInRecord (take n (b ∷ bytes))
one-ends b n bytes p e = subst (λ i. EndsInRecord (take i (b ∷ bytes))) (some-same 1 n e) (record { front = []; last = b; is = refl; plain = p })

one-more : (z b : ℕ) (bytes : List ℕ) → take (1 + z) (b ∷ bytes) ≡ b ∷ take z bytes
one-more z b bytes = let q : 1 + z ≡ suc z = omega arith in ap (λ i. take i (b ∷ bytes)) q

later-ends : (b n : ℕ) (bytes : List ℕ) (o : Option ℕ) → later 1 o ≡ Some n → ((z : ℕ) → o ≡ Some z → EndsInRecord (take z bytes)) → EndsInRecord (take n (b ∷ bytes))
later-ends b n bytes None e f = absurd (cc)
later-ends b n bytes (Some z) e f =
    let x = f z refl in
    subst (λ i. EndsInRecord (take i (b ∷ bytes))) (some-same (1 + z) n e) (record { front = b ∷ x.front; last = x.last; is = one-more z b bytes ∙ ap (λ (y : List ℕ). b ∷ y) x.is; plain = x.plain })

end-by : (names : NameSet) (x : Ender) (i : Inside) (b n : ℕ) (bytes : List ℕ) (t : Bool) → (is_outside i && ends_declaration x b) ≡ t
    → (if t then Some 1 else later 1 (end_after names x (inside_after names i b) bytes)) ≡ Some n
    → ((z : ℕ) → end_after names x (inside_after names i b) bytes ≡ Some z → EndsInRecord (take z bytes)) → EndsInRecord (take n (b ∷ bytes))
end-by names x i b n bytes true s e f = one-ends b n bytes (closing-plain x b (and-second (is_outside i) (ends_declaration x b) s)) e
end-by names x i b n bytes false s e f = later-ends b n bytes (end_after names x (inside_after names i b) bytes) e f

declaration-ends : (names : NameSet) (x : Ender) (i : Inside) (bytes : List ℕ) (n : ℕ) → end_after names x i bytes ≡ Some n → EndsInRecord (take n bytes)
declaration-ends names x i [] n e = absurd (cc)
declaration-ends names x i (b ∷ bytes) n e =
    end-by names x i b n bytes (is_outside i && ends_declaration x b) refl e (λ z f. declaration-ends names x (inside_after names i b) bytes z f)

instruction-by : (b n : ℕ) (bytes : List ℕ) (t : Bool) → (b == 62) ≡ t → (if t then Some 1 else later 1 (pi_end bytes)) ≡ Some n
    → ((z : ℕ) → pi_end bytes ≡ Some z → EndsInRecord (take z bytes)) → EndsInRecord (take n (b ∷ bytes))
instruction-by b n bytes true s e f = one-ends b n bytes (ap is_plain (eqb-true b 62 s)) e
instruction-by b n bytes false s e f = later-ends b n bytes (pi_end bytes) e f

instruction-ends : (bytes : List ℕ) (n : ℕ) → pi_end bytes ≡ Some n → EndsInRecord (take n bytes)
instruction-ends [] n e = absurd (cc)
instruction-ends (b ∷ bytes) n e = instruction-by b n bytes (b == 62) refl e (instruction-ends bytes)

form-ends : (s : Syntax) (f : Form) (bytes : List ℕ) (n : ℕ) → is_ended f ≡ true → end_of s f true bytes ≡ Some n → EndsInRecord (take n bytes)
form-ends s form.Instruction bytes n h e = instruction-ends bytes n e
form-ends s form.CommentDeclaration bytes n h e = declaration-ends s.names Mdc Between bytes n e
form-ends s form.SectionStart bytes n h e = declaration-ends s.names Dso Between bytes n e
form-ends s form.Declaration bytes n h e = declaration-ends s.names (ender_of s.names bytes) Between bytes n e
form-ends s form.SubsetEnd bytes n h e = declaration-ends s.names Mdc Between bytes n e
form-ends s _ bytes n h e = never false h refl

-- behind what begins it
take-none : (k : ℕ) → take {A = ℕ} k [] ≡ []
take-none zero = refl
take-none (suc k) = refl

take-parts : (i n : ℕ) (bytes : List ℕ) → take (i + n) bytes ≡ take i bytes ++ take n (drop i bytes)
take-parts zero n bytes = let q : 0 + n ≡ n = omega arith in ap (λ k. take k bytes) q
take-parts (suc i) n [] = take-none (suc i + n) ∙ sym (take-none n)
take-parts (suc i) n (b ∷ bytes) =
    let q : suc i + n ≡ suc (i + n) = omega arith in
    ap (λ k. take k (b ∷ bytes)) q ∙ ap (λ (y : List ℕ). b ∷ y) (take-parts i n bytes)

pub ends-behind : (xs ys : List ℕ) → EndsInRecord ys → EndsInRecord (xs ++ ys)
ends-behind xs ys y = record {
  front = xs ++ y.front;
  last = y.last;
  is = ap (λ (z : List ℕ). xs ++ z) y.is ∙ sym (append_assoc xs y.front (y.last ∷ []));
  plain = y.plain;
}

markup-ends : (s : Syntax) (bytes : List ℕ) (f : Form) (k : TokenKind) (n : ℕ) → is_ended f ≡ true → opened s true bytes (Markup f) ≡ token k n → EndsInRecord (take n bytes)
markup-ends s bytes f k n h e =
    let z = markup-size s bytes f k n e in
    subst (λ i. EndsInRecord (take i bytes)) z.2
    (subst EndsInRecord (sym (take-parts (before f) z.0 bytes)) (ends-behind (take (before f) bytes) (take z.0 (drop (before f) bytes)) (form-ends s f (drop (before f) bytes) z.0 h z.1)))

-- THE TOKENS that may end a document type declaration
abbrev pub is_closing : TokenKind → Bool
is_closing kind.Declaration = true
is_closing kind.SubsetEnd = true
is_closing _ = false

not-closing : {A : Type 0} (k l : TokenKind) (n i : ℕ) → is_closing k ≡ false → token k n ≡ token l i → is_closing l ≡ true → A
not-closing k l n i h e c = never false (sym h ∙ (ap is_closing (kind-same k l n i e) ∙ c)) refl

character-not : {A : Type 0} (t u : Bool) (k : TokenKind) (n : ℕ) → character_token (if t then class.Stretch run.Separators else (if u then class.Stretch run.Chars else class.NonSgml)) ≡ token k n → is_closing k ≡ true → A
character-not true u k n e c = not-closing kind.Separators k 1 n refl e c
character-not false true k n e c = not-closing kind.Chars k 1 n refl e c
character-not false false k n e c = absurd (cc)

pub closing-ends : (s : Syntax) (net maps : Bool) (b : ℕ) (bytes : List ℕ) (k : TokenKind) (n : ℕ) → is_closing k ≡ true → token_at s (ds net maps) (b ∷ bytes) ≡ token k n → EndsInRecord (take n (b ∷ bytes))
closing-ends s net maps b bytes k n c =
    by-cases s net maps b bytes k n (EndsInRecord (take n (b ∷ bytes)))
    (record {
      mdo = λ t e. markup-ends s (b ∷ bytes) (declared_form (drop 2 (b ∷ bytes))) k n (declared-ended (drop 2 (b ∷ bytes))) e;
      pio = λ t e. markup-ends s (b ∷ bytes) form.Instruction k n refl e;
      msc = λ t e. not-closing kind.SectionEnd k 3 n refl e c;
      pero = λ t e. never false (sym (ap is_closing (parameter-named s (b ∷ bytes) k n e)) ∙ c) refl;
      dsc = λ t e. markup-ends s (b ∷ bytes) form.SubsetEnd k n refl e;
      none = λ e. character-not (is_separator b) (is_sgml_character b) k n e c;
    })

-- in an ignored section there is none
ignored-delimiter-not : {A : Type 0} (s : Syntax) (net : Bool) (bytes : List ℕ) (k : TokenKind) (n : ℕ) (x : Delim) → Among (delims m.Ign) x
    → opened s true bytes (opening m.Ign x (drop (length (string x)) bytes)) ≡ token k n → is_closing k ≡ true → A
ignored-delimiter-not s net bytes k n x (inl e) h c =
    not-closing kind.SectionStart k 3 n refl (subst (λ y. opened s true bytes (opening m.Ign y (drop (length (string y)) bytes)) ≡ token k n) (sym e) h) c
ignored-delimiter-not s net bytes k n x (inr (inl e)) h c =
    not-closing kind.SectionEnd k 3 n refl (subst (λ y. opened s true bytes (opening m.Ign y (drop (length (string y)) bytes)) ≡ token k n) (sym e) h) c
ignored-delimiter-not s net bytes k n x (inr (inr a)) h c = absurd a

ignored-character-not : {A : Type 0} (t : Bool) (k : TokenKind) (n : ℕ) → character_token (if t then class.Stretch run.Chars else class.NonSgml) ≡ token k n → is_closing k ≡ true → A
ignored-character-not true k n e c = not-closing kind.Chars k 1 n refl e c
ignored-character-not false k n e c = absurd (cc)

ignored-by : {A : Type 0} (s : Syntax) (net maps : Bool) (b : ℕ) (bytes : List ℕ) (k : TokenKind) (n : ℕ) (o : Option Delim) → Says (λ x. stands s m.Ign net x (b ∷ bytes)) (delims m.Ign) o
    → by_delimiter s (ign net maps) (b ∷ bytes) o ≡ token k n → is_closing k ≡ true → A
ignored-by s net maps b bytes k n (Some x) says e c = ignored-delimiter-not s net (b ∷ bytes) k n x says.0 e c
ignored-by s net maps b bytes k n None says e c =
    ignored-character-not (is_sgml_character b) k n (ap (λ t. by_string m.Ign (b ∷ bytes) (string_at t (b ∷ bytes))) (sym (and-false maps)) ∙ e) c

pub ignored-not : {A : Type 0} (s : Syntax) (net maps : Bool) (b : ℕ) (bytes : List ℕ) (k : TokenKind) (n : ℕ) → token_at s (ign net maps) (b ∷ bytes) ≡ token k n → is_closing k ≡ true → A
unfolding token_at
ignored-not s net maps b bytes k n e c = ignored-by s net maps b bytes k n (delimiters.answer s m.Ign net (b ∷ bytes)) (answer-longest s m.Ign net (b ∷ bytes)) e c
