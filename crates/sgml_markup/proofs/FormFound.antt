-- A tag that is of a form is spelled by the grammar.
use Rattle.std.proofs.Common.{◌≡◌, ℕ, ◌+◌, Bool, true, false, not, List, [], ◌∷◌, ◌++◌, refl, sym, ◌∙◌, ap, if◌then◌else◌, ◌==◌, ◌&&◌, ◌||◌, append_assoc, ◌⊎◌, inl, inr}
use Rattle.std.specs.List.{list_all}
use Rattle.std.proofs.lemmas.Bool.{eqb-true}
use Rattle.sgml_text.specs.NameCharacters.{is_name_character, is_name_start}
use Rattle.sgml_syntax.specs.declared.syntax.Syntax.{Syntax}
use Rattle.sgml_markup.specs.declared.kinds.PartKind.TheVariants as part
use Rattle.sgml_markup.specs.declared.kinds.TagState.{TagState}
use Rattle.sgml_markup.specs.declared.kinds.TagState.TheVariants.{ElementName, Closing, Ready, Word, AfterWord, Bare, Literal, Failed}
use Rattle.sgml_markup.specs.declared.kinds.TagState.TheVariants as state
use Rattle.sgml_text.specs.Characters.{is_separator, is_quote}
use Rattle.sgml_markup.specs.Tags.{goes_to, ends_part, fails, after_name, ends_bare, begins_word, names_attribute, is_tag, is_good}
use Rattle.sgml_markup.specs.TagForm.{Value, Value.Quoted, Value.Unquoted, Specification, Specification.Named, Specification.Alone, spell_value, spell_all, AreSeparators, ValueStands, is_quoted, AllStand, SpellsBody}
use Rattle.sgml_delim.proofs.Deciding.{true-false}

-- specifications, and separators after them
pub record Tail (s : Syntax) (free : Bool) (bytes : List ℕ) : Type 0 where
  pub specifications : List Specification
  pub last : List ℕ
  pub stand : AllStand s free specifications
  pub separators : AreSeparators last
  pub is : bytes ≡ spell_all specifications ++ last

-- after `=`
pub record Valued (s : Syntax) (bytes : List ℕ) : Type 0 where
  pub after : List ℕ
  pub value : Value
  pub rest : List ℕ
  pub separators : AreSeparators after
  pub stands : ValueStands s value
  pub tail : Tail s (is_quoted value) rest
  pub is : bytes ≡ after ++ (spell_value value ++ rest)

-- after a name
pub record Equals (s : Syntax) (bytes : List ℕ) : Type 0 where
  pub before : List ℕ
  pub rest : List ℕ
  pub separators : AreSeparators before
  pub valued : Valued s rest
  pub is : bytes ≡ before ++ 61 ∷ rest

-- after a value alone
pub record Lone (s : Syntax) (free : Bool) (bytes : List ℕ) : Type 0 where
  pub short : s.shorttag ≡ true
  pub tail : Tail s free bytes

abbrev pub AfterWords : Syntax → Bool → Bool → List ℕ → Type 0
AfterWords s is_name free bytes = ((is_name ≡ true) × Equals s bytes) ⊎ Lone s free bytes

pub record Worded (s : Syntax) (is_name : Bool) (bytes : List ℕ) : Type 0 where
  pub more : List ℕ
  pub rest : List ℕ
  pub named : list_all (is_name_character s.names) more ≡ true
  pub then_ : AfterWords s is_name false rest
  pub is : bytes ≡ more ++ rest

pub record Bared (s : Syntax) (bytes : List ℕ) : Type 0 where
  pub more : List ℕ
  pub rest : List ℕ
  pub named : list_all (is_name_character s.names) more ≡ true
  pub lone : Lone s false rest
  pub is : bytes ≡ more ++ rest

pub record Quotes (s : Syntax) (q : ℕ) (bytes : List ℕ) : Type 0 where
  pub text : List ℕ
  pub rest : List ℕ
  pub absent : list_all (λ b. not (b == q)) text ≡ true
  pub tail : Tail s true rest
  pub is : bytes ≡ text ++ q ∷ rest

-- what a tag has from a state on
abbrev pub FoundAt : Syntax → Bool → TagState → List ℕ → Type 0
FoundAt s closing (ElementName from) bytes = SpellsBody s closing bytes
FoundAt s closing Closing bytes = AreSeparators bytes
FoundAt s closing Ready bytes = Tail s true bytes
FoundAt s closing (Word from is_name) bytes = Worded s is_name bytes
FoundAt s closing (AfterWord from to is_name) bytes = AfterWords s is_name true bytes
FoundAt s closing state.Value bytes = Valued s bytes
FoundAt s closing (Bare from) bytes = Bared s bytes
FoundAt s closing (Literal q from) bytes = Quotes s q bytes
FoundAt s closing Failed bytes = ⊥

abbrev More : Syntax → Bool → List ℕ → Type 0
More s closing bytes = (at : ℕ) (st : TagState) → is_tag s closing at st bytes ≡ true → FoundAt s closing st bytes

failed-not : (s : Syntax) (closing : Bool) (at : ℕ) (bytes : List ℕ) → is_tag s closing at Failed bytes ≡ true → ⊥
failed-not s closing at [] e = true-false e
failed-not s closing at (b ∷ bytes) e = failed-not s closing (at + 1) bytes e

-- a list with one more that passes
first-and-rest : (test : ℕ → Bool) (b : ℕ) (bytes : List ℕ) → test b ≡ true → list_all test bytes ≡ true → list_all test (b ∷ bytes) ≡ true
first-and-rest test b bytes e f = ap (λ t. t && list_all test bytes) e ∙ f

or-true : (t : Bool) → (t || true) ≡ true
or-true true = refl
or-true false = refl

no-tail : (s : Syntax) (free : Bool) → Tail s free []
no-tail s free = record { specifications = []; last = []; stand = tt; separators = refl; is = refl }

-- one separator more
with-separator : (s : Syntax) (free : Bool) (b : ℕ) (bytes : List ℕ) → is_separator b ≡ true → Tail s true bytes → Tail s free (b ∷ bytes)
with-separator s free b bytes e h = from h.specifications h.stand h.is
  where
    from : (xs : List Specification) → AllStand s true xs → bytes ≡ spell_all xs ++ h.last → Tail s free (b ∷ bytes)
    from [] stand is = record {
      specifications = [];
      last = b ∷ h.last;
      stand = tt;
      separators = first-and-rest is_separator b h.last e h.separators;
      is = ap (λ ys. b ∷ ys) is;
    }
    from (Named gap name before after v ∷ xs) stand is = record {
      specifications = Named (b ∷ gap) name before after v ∷ xs;
      last = h.last;
      stand = (or-true free, (first-and-rest is_separator b gap e stand.1.0, stand.1.1, stand.1.2, stand.1.3, stand.1.4), stand.2);
      separators = h.separators;
      is = ap (λ ys. b ∷ ys) is;
    }
    from (Alone gap token ∷ xs) stand is = record {
      specifications = Alone (b ∷ gap) token ∷ xs;
      last = h.last;
      stand = (or-true free, (first-and-rest is_separator b gap e stand.1.0, stand.1.1, stand.1.2), stand.2);
      separators = h.separators;
      is = ap (λ ys. b ∷ ys) is;
    }

-- a specification that begins with a word
word-tail : (s : Syntax) (b : ℕ) (bytes : List ℕ) → is_name_character s.names b ≡ true → Worded s (is_name_start s.names b) bytes
    → Tail s true (b ∷ bytes)
word-tail s b bytes e h = from h.then_
  where
    from : AfterWords s (is_name_start s.names b) false h.rest → Tail s true (b ∷ bytes)
    from (inl f) =
        let v = f.1.valued in record {
          specifications = Named [] (b ∷ h.more) f.1.before v.after v.value ∷ v.tail.specifications;
          last = v.tail.last;
          stand = (
            refl,
            (refl, ap (λ t. t && list_all (is_name_character s.names) h.more) f.0 ∙ h.named, f.1.separators, v.separators, v.stands),
            v.tail.stand,
          );
          separators = v.tail.separators;
          is = ap (λ ys. b ∷ ys)
              (h.is ∙ ap (λ ys. h.more ++ ys) (f.1.is ∙ ap (λ ys. f.1.before ++ 61 ∷ ys) (v.is ∙ ap (λ ys. v.after ++ (spell_value v.value ++ ys)) v.tail.is))
              ∙ sym (spelled h.more f.1.before v.after (spell_value v.value) (spell_all v.tail.specifications) v.tail.last));
        }
      where
        spelled : (xs ys zs vs rs ls : List ℕ) → ((xs ++ (ys ++ 61 ∷ (zs ++ vs))) ++ rs) ++ ls ≡ xs ++ (ys ++ 61 ∷ (zs ++ (vs ++ (rs ++ ls))))
        spelled xs ys zs vs rs ls =
            append_assoc (xs ++ (ys ++ 61 ∷ (zs ++ vs))) rs ls
            ∙ append_assoc xs (ys ++ 61 ∷ (zs ++ vs)) (rs ++ ls)
            ∙ ap (λ ws. xs ++ ws)
            (append_assoc ys (61 ∷ (zs ++ vs)) (rs ++ ls) ∙ ap (λ ws. ys ++ 61 ∷ ws) (append_assoc zs vs (rs ++ ls)))
    from (inr f) = record {
      specifications = Alone [] (b ∷ h.more) ∷ f.tail.specifications;
      last = f.tail.last;
      stand = (refl, (refl, first-and-rest (is_name_character s.names) b h.more e h.named, f.short), f.tail.stand);
      separators = f.tail.separators;
      is = ap (λ ys. b ∷ ys)
          (h.is ∙ ap (λ ys. h.more ++ ys) f.tail.is ∙ sym (append_assoc h.more (spell_all f.tail.specifications) f.tail.last));
    }

-- by state
found-name : (s : Syntax) (closing : Bool) (at from b : ℕ) (bytes : List ℕ) → More s closing bytes
    → is_tag s closing at (ElementName from) (b ∷ bytes) ≡ true → SpellsBody s closing (b ∷ bytes)
found-name s closing at from b bytes more e = by_tests (is_name_character s.names b) refl (is_separator b) refl e
  where
    longer : is_name_character s.names b ≡ true → SpellsBody s closing bytes → SpellsBody s closing (b ∷ bytes)
    longer p h = record {
      name = b ∷ h.name;
      specifications = h.specifications;
      last = h.last;
      named = first-and-rest (is_name_character s.names) b h.name p h.named;
      stand = h.stand;
      separators = h.separators;
      alone = h.alone;
      is = ap (λ ys. b ∷ ys) h.is;
    }

    over : (c : Bool) → is_separator b ≡ true → FoundAt s c (after_name c) bytes → SpellsBody s c (b ∷ bytes)
    over true q h = record {
      name = [];
      specifications = [];
      last = b ∷ bytes;
      named = refl;
      stand = tt;
      separators = first-and-rest is_separator b bytes q h;
      alone = λ f. refl;
      is = refl;
    }
    over false q h =
        let tail = with-separator s false b bytes q h in record {
          name = [];
          specifications = tail.specifications;
          last = tail.last;
          named = refl;
          stand = tail.stand;
          separators = tail.separators;
          alone = λ f. absurd (true-false f);
          is = tail.is;
        }

    by_tests : (t : Bool) → is_name_character s.names b ≡ t → (u : Bool) → is_separator b ≡ u
        → is_tag s closing (at + 1) (if t then goes_to (ElementName from) else if u then ends_part part.ElementName from at (after_name closing) else fails).next bytes ≡ true
        → SpellsBody s closing (b ∷ bytes)
    by_tests true p u q f = longer p (more (at + 1) (ElementName from) f)
    by_tests false p true q f = over closing q (more (at + 1) (after_name closing) f)
    by_tests false p false q f = absurd (failed-not s closing (at + 1) bytes f)

found-closing : (s : Syntax) (closing : Bool) (at b : ℕ) (bytes : List ℕ) → More s closing bytes
    → is_tag s closing at Closing (b ∷ bytes) ≡ true → AreSeparators (b ∷ bytes)
found-closing s closing at b bytes more e = by_test (is_separator b) refl e
  where
    by_test : (t : Bool) → is_separator b ≡ t → is_tag s closing (at + 1) (if t then goes_to Closing else fails).next bytes ≡ true
        → AreSeparators (b ∷ bytes)
    by_test true p f = first-and-rest is_separator b bytes p (more (at + 1) Closing f)
    by_test false p f = absurd (failed-not s closing (at + 1) bytes f)

found-ready : (s : Syntax) (closing : Bool) (at b : ℕ) (bytes : List ℕ) → More s closing bytes
    → is_tag s closing at Ready (b ∷ bytes) ≡ true → Tail s true (b ∷ bytes)
found-ready s closing at b bytes more e = by_tests (is_separator b) refl (is_name_character s.names b) refl e
  where
    by_tests : (t : Bool) → is_separator b ≡ t → (u : Bool) → is_name_character s.names b ≡ u
        → is_tag s closing (at + 1) (if t then goes_to Ready else if u then goes_to (begins_word s at b) else fails).next bytes ≡ true
        → Tail s true (b ∷ bytes)
    by_tests true p u q f = with-separator s true b bytes p (more (at + 1) Ready f)
    by_tests false p true q f = word-tail s b bytes q (more (at + 1) (begins_word s at b) f)
    by_tests false p false q f = absurd (failed-not s closing (at + 1) bytes f)

-- at `=`
named-then : (s : Syntax) (closing : Bool) (at from to b : ℕ) (is_name : Bool) (bytes : List ℕ) → More s closing bytes → b ≡ 61
    → is_tag s closing (at + 1) (names_attribute from to is_name).next bytes ≡ true → (is_name ≡ true) × Equals s (b ∷ bytes)
named-then s closing at from to b true bytes more is f =
    (refl, record { before = []; rest = bytes; separators = refl; valued = more (at + 1) state.Value f; is = ap (λ c. c ∷ bytes) is })
named-then s closing at from to b false bytes more is f = absurd (failed-not s closing (at + 1) bytes f)

more-equals : (s : Syntax) (b : ℕ) (bytes : List ℕ) → is_separator b ≡ true → Equals s bytes → Equals s (b ∷ bytes)
more-equals s b bytes e h = record {
  before = b ∷ h.before;
  rest = h.rest;
  separators = first-and-rest is_separator b h.before e h.separators;
  valued = h.valued;
  is = ap (λ ys. b ∷ ys) h.is;
}

more-words : (s : Syntax) (is_name free : Bool) (b : ℕ) (bytes : List ℕ) → is_separator b ≡ true → AfterWords s is_name true bytes
    → AfterWords s is_name free (b ∷ bytes)
more-words s is_name free b bytes e (inl h) = inl (h.0, more-equals s b bytes e h.1)
more-words s is_name free b bytes e (inr h) = inr (record { short = h.short; tail = with-separator s free b bytes e h.tail })

found-word : (s : Syntax) (closing : Bool) (at from b : ℕ) (is_name : Bool) (bytes : List ℕ) → More s closing bytes
    → is_tag s closing at (Word from is_name) (b ∷ bytes) ≡ true → Worded s is_name (b ∷ bytes)
found-word s closing at from b is_name bytes more e =
    by_tests (is_name_character s.names b) refl (is_separator b) refl (b == 61) refl e
  where
    longer : is_name_character s.names b ≡ true → Worded s is_name bytes → Worded s is_name (b ∷ bytes)
    longer p h = record {
      more = b ∷ h.more;
      rest = h.rest;
      named = first-and-rest (is_name_character s.names) b h.more p h.named;
      then_ = h.then_;
      is = ap (λ ys. b ∷ ys) h.is;
    }

    here : AfterWords s is_name false (b ∷ bytes) → Worded s is_name (b ∷ bytes)
    here h = record { more = []; rest = b ∷ bytes; named = refl; then_ = h; is = refl }

    by_tests : (t : Bool) → is_name_character s.names b ≡ t → (u : Bool) → is_separator b ≡ u → (v : Bool) → (b == 61) ≡ v
        → is_tag s closing (at + 1) (if t then goes_to (Word from is_name) else if u then goes_to (AfterWord from at is_name) else if v then names_attribute from at is_name else fails).next bytes ≡ true
        → Worded s is_name (b ∷ bytes)
    by_tests true p u q v r f = longer p (more (at + 1) (Word from is_name) f)
    by_tests false p true q v r f = here (more-words s is_name false b bytes q (more (at + 1) (AfterWord from at is_name) f))
    by_tests false p false q true r f = here (inl (named-then s closing at from at b is_name bytes more (eqb-true b 61 r) f))
    by_tests false p false q false r f = absurd (failed-not s closing (at + 1) bytes f)

found-after : (s : Syntax) (closing : Bool) (at from to b : ℕ) (is_name : Bool) (bytes : List ℕ) → More s closing bytes
    → is_tag s closing at (AfterWord from to is_name) (b ∷ bytes) ≡ true → AfterWords s is_name true (b ∷ bytes)
found-after s closing at from to b is_name bytes more e =
    by_tests (is_separator b) refl (b == 61) refl (is_name_character s.names b) refl s.shorttag refl e
  where
    by_tests : (t : Bool) → is_separator b ≡ t → (u : Bool) → (b == 61) ≡ u → (v : Bool) → is_name_character s.names b ≡ v
        → (w : Bool) → s.shorttag ≡ w
        → is_tag s closing (at + 1) (if t then goes_to (AfterWord from to is_name) else if u then names_attribute from to is_name else if v then (if w then ends_part part.Bare from to (begins_word s at b) else fails) else fails).next bytes ≡ true
        → AfterWords s is_name true (b ∷ bytes)
    by_tests true p u q v r w o f = more-words s is_name true b bytes p (more (at + 1) (AfterWord from to is_name) f)
    by_tests false p true q v r w o f = inl (named-then s closing at from to b is_name bytes more (eqb-true b 61 q) f)
    by_tests false p false q true r true o f =
        inr (record { short = o; tail = word-tail s b bytes r (more (at + 1) (begins_word s at b) f) })
    by_tests false p false q true r false o f = absurd (failed-not s closing (at + 1) bytes f)
    by_tests false p false q false r w o f = absurd (failed-not s closing (at + 1) bytes f)

found-value : (s : Syntax) (closing : Bool) (at b : ℕ) (bytes : List ℕ) → More s closing bytes
    → is_tag s closing at state.Value (b ∷ bytes) ≡ true → Valued s (b ∷ bytes)
found-value s closing at b bytes more e = by_tests (is_separator b) refl (is_quote b) refl (is_name_character s.names b) refl e
  where
    later : is_separator b ≡ true → Valued s bytes → Valued s (b ∷ bytes)
    later p h = record {
      after = b ∷ h.after;
      value = h.value;
      rest = h.rest;
      separators = first-and-rest is_separator b h.after p h.separators;
      stands = h.stands;
      tail = h.tail;
      is = ap (λ ys. b ∷ ys) h.is;
    }

    quoted : is_quote b ≡ true → Quotes s b bytes → Valued s (b ∷ bytes)
    quoted q h = record {
      after = [];
      value = Quoted b h.text;
      rest = h.rest;
      separators = refl;
      stands = (q, h.absent);
      tail = h.tail;
      is = ap (λ ys. b ∷ ys) (h.is ∙ sym (append_assoc h.text (b ∷ []) h.rest));
    }

    unquoted : is_name_character s.names b ≡ true → Bared s bytes → Valued s (b ∷ bytes)
    unquoted r h = record {
      after = [];
      value = Unquoted (b ∷ h.more);
      rest = h.rest;
      separators = refl;
      stands = (first-and-rest (is_name_character s.names) b h.more r h.named, h.lone.short);
      tail = h.lone.tail;
      is = ap (λ ys. b ∷ ys) h.is;
    }

    by_tests : (t : Bool) → is_separator b ≡ t → (u : Bool) → is_quote b ≡ u → (v : Bool) → is_name_character s.names b ≡ v
        → is_tag s closing (at + 1) (if t then goes_to state.Value else if u then goes_to (Literal b (at + 1)) else if v then goes_to (Bare at) else fails).next bytes ≡ true
        → Valued s (b ∷ bytes)
    by_tests true p u q v r f = later p (more (at + 1) state.Value f)
    by_tests false p true q v r f = quoted q (more (at + 1) (Literal b (at + 1)) f)
    by_tests false p false q true r f = unquoted r (more (at + 1) (Bare at) f)
    by_tests false p false q false r f = absurd (failed-not s closing (at + 1) bytes f)

found-bare : (s : Syntax) (closing : Bool) (at from b : ℕ) (bytes : List ℕ) → More s closing bytes
    → is_tag s closing at (Bare from) (b ∷ bytes) ≡ true → Bared s (b ∷ bytes)
found-bare s closing at from b bytes more e =
    by_tests (is_name_character s.names b) refl (is_separator b) refl s.shorttag refl e
  where
    longer : is_name_character s.names b ≡ true → Bared s bytes → Bared s (b ∷ bytes)
    longer p h = record {
      more = b ∷ h.more;
      rest = h.rest;
      named = first-and-rest (is_name_character s.names) b h.more p h.named;
      lone = h.lone;
      is = ap (λ ys. b ∷ ys) h.is;
    }

    here : is_separator b ≡ true → s.shorttag ≡ true → Tail s true bytes → Bared s (b ∷ bytes)
    here q o h = record {
      more = [];
      rest = b ∷ bytes;
      named = refl;
      lone = record { short = o; tail = with-separator s false b bytes q h };
      is = refl;
    }

    by_tests : (t : Bool) → is_name_character s.names b ≡ t → (u : Bool) → is_separator b ≡ u → (w : Bool) → s.shorttag ≡ w
        → is_tag s closing (at + 1) (if t then goes_to (Bare from) else if u then (if w then ends_part part.Bare from at Ready else fails) else fails).next bytes ≡ true
        → Bared s (b ∷ bytes)
    by_tests true p u q w o f = longer p (more (at + 1) (Bare from) f)
    by_tests false p true q true o f = here q o (more (at + 1) Ready f)
    by_tests false p true q false o f = absurd (failed-not s closing (at + 1) bytes f)
    by_tests false p false q w o f = absurd (failed-not s closing (at + 1) bytes f)

found-literal : (s : Syntax) (closing : Bool) (at q from b : ℕ) (bytes : List ℕ) → More s closing bytes
    → is_tag s closing at (Literal q from) (b ∷ bytes) ≡ true → Quotes s q (b ∷ bytes)
found-literal s closing at q from b bytes more e = by_test (b == q) refl e
  where
    longer : (b == q) ≡ false → Quotes s q bytes → Quotes s q (b ∷ bytes)
    longer p h = record {
      text = b ∷ h.text;
      rest = h.rest;
      absent = ap (λ t. not t && list_all (λ c. not (c == q)) h.text) p ∙ h.absent;
      tail = h.tail;
      is = ap (λ ys. b ∷ ys) h.is;
    }

    by_test : (t : Bool) → (b == q) ≡ t
        → is_tag s closing (at + 1) (if t then ends_part part.Quoted from at Ready else goes_to (Literal q from)).next bytes ≡ true
        → Quotes s q (b ∷ bytes)
    by_test true p f = record {
      text = [];
      rest = bytes;
      absent = refl;
      tail = more (at + 1) Ready f;
      is = ap (λ c. c ∷ bytes) (eqb-true b q p);
    }
    by_test false p f = longer p (more (at + 1) (Literal q from) f)

-- at the end
lone-end : (s : Syntax) (free : Bool) (from to : ℕ) → is_good (ends_bare s from to Ready).next ≡ true → Lone s free []
lone-end s free from to e = record { short = by_short s.shorttag e; tail = no-tail s free }
  where
    by_short : (t : Bool) → is_good (if t then ends_part part.Bare from to Ready else fails).next ≡ true → t ≡ true
    by_short true f = refl
    by_short false f = f

no-body : (s : Syntax) (closing : Bool) → SpellsBody s closing []
no-body s closing =
    record { name = []; specifications = []; last = []; named = refl; stand = tt; separators = refl; alone = λ e. refl; is = refl }

found-end : (s : Syntax) (closing : Bool) (at : ℕ) (st : TagState) → is_tag s closing at st [] ≡ true → FoundAt s closing st []
found-end s closing at (ElementName from) e = no-body s closing
found-end s closing at Closing e = refl
found-end s closing at Ready e = no-tail s true
found-end s closing at (Word from is_name) e =
    record { more = []; rest = []; named = refl; then_ = inr (lone-end s false from at e); is = refl }
found-end s closing at (AfterWord from to is_name) e = inr (lone-end s true from to e)
found-end s closing at state.Value e = absurd (true-false e)
found-end s closing at (Bare from) e = record { more = []; rest = []; named = refl; lone = lone-end s false from at e; is = refl }
found-end s closing at (Literal q from) e = absurd (true-false e)
found-end s closing at Failed e = absurd (true-false e)

found-step : (s : Syntax) (closing : Bool) (at b : ℕ) (st : TagState) (bytes : List ℕ) → More s closing bytes
    → is_tag s closing at st (b ∷ bytes) ≡ true → FoundAt s closing st (b ∷ bytes)
found-step s closing at b (ElementName from) bytes more e = found-name s closing at from b bytes more e
found-step s closing at b Closing bytes more e = found-closing s closing at b bytes more e
found-step s closing at b Ready bytes more e = found-ready s closing at b bytes more e
found-step s closing at b (Word from is_name) bytes more e = found-word s closing at from b is_name bytes more e
found-step s closing at b (AfterWord from to is_name) bytes more e = found-after s closing at from to b is_name bytes more e
found-step s closing at b state.Value bytes more e = found-value s closing at b bytes more e
found-step s closing at b (Bare from) bytes more e = found-bare s closing at from b bytes more e
found-step s closing at b (Literal q from) bytes more e = found-literal s closing at q from b bytes more e
found-step s closing at b Failed bytes more e = absurd (failed-not s closing at (b ∷ bytes) e)

pub found-form : (s : Syntax) (closing : Bool) (at : ℕ) (st : TagState) (bytes : List ℕ) → is_tag s closing at st bytes ≡ true
    → FoundAt s closing st bytes
found-form s closing at st [] e = found-end s closing at st e
found-form s closing at st (b ∷ bytes) e = found-step s closing at b st bytes (λ n other f. found-form s closing n other bytes f) e
