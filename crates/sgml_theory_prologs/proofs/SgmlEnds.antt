-- An SGML declaration that is read has, for a syntax with the reference name characters, the end that any declaration has.
use Rattle.std.proofs.Common.{◌≡◌, ℕ, zero, suc, ◌+◌, ◌≤◌, ◌⊎◌, inl, inr, Bool, true, false, List, [], ◌∷◌, ◌++◌, Option, None, Some, length, refl, sym, ◌∙◌, ap, subst, codes, if◌then◌else◌, ◌==◌, ◌&&◌, ◌||◌, map, arith, eqb-true, length-append}
use Rattle.std.specs.Str.{bytes_eq}
use Rattle.std.proofs.lemmas.Bool.Decides.{nat_tests}
use Rattle.std.proofs.lemmas.Slice.Eq.{bytes_eq-Decides}
use Rattle.sgml_io.specs.text.declared.name_set.NameSet.{NameSet}
use Rattle.sgml_io.specs.text.NameCharacters.{is_name_character}
use Rattle.sgml_io.specs.text.Characters.{upper, is_letter, is_digit, is_separator, is_quote, is_word}
use Rattle.sgml_theory_standing.specs.delim.declared.ends.Inside.{Inside}
use Rattle.sgml_theory_standing.specs.delim.declared.ends.Inside.TheVariants as inside
use Rattle.sgml_theory_standing.specs.delim.declared.ends.Ender.TheVariants.{Mdc, Either}
use Rattle.sgml_theory_standing.specs.delim.Ends.{later, begun, inside_after, is_outside, end_after, first_name, ender_of, declaration_end}
use Rattle.sgml_theory_standing.proofs.markup.Bytes.{name-is, name-named}
use Rattle.sgml_theory_standing.specs.sgmldecl.declared.heard.Heard.{Heard}
use Rattle.sgml_theory_standing.specs.sgmldecl.declared.keyword.Keyword.{Keyword}
use Rattle.sgml_theory_standing.specs.sgmldecl.declared.keyword.Keyword.TheVariants as k
use Rattle.sgml_theory_standing.specs.sgmldecl.declared.reading.Part.{Part}
use Rattle.sgml_theory_standing.specs.sgmldecl.declared.reading.Part.TheVariants as p
use Rattle.sgml_theory_standing.specs.sgmldecl.declared.row.Row.{Row}
use Rattle.sgml_theory_standing.specs.sgmldecl.declared.row.Item.{Item}
use Rattle.sgml_theory_standing.specs.sgmldecl.declared.row.Item.TheVariants as i
use Rattle.sgml_theory_standing.specs.sgmldecl.declared.row.Content.{Content}
use Rattle.sgml_theory_standing.specs.sgmldecl.Characters.{is_name_byte, opening}
use Rattle.sgml_theory_standing.specs.sgmldecl.Keywords.{spelling}
use Rattle.sgml_theory_standing.specs.sgmldecl.Items.{has_byte, begins, word_goes_on, is_whole_word, content_goes_on, is_whole_content}
use Rattle.sgml_theory_standing.specs.sgmldecl.Rows.{rows}
use Rattle.sgml_theory_standing.specs.sgmldecl.Following.{row_at}
use Rattle.sgml_theory_standing.specs.sgmldecl.Machine.{State, Step, refused, goes, ends, ended, turned, opened, added, begun_item, begun_if, outside, in_word, in_literal, step_in, step, whole, go_on, run, begin_state}
use Rattle.sgml_theory_standing.proofs.sgmldecl.ByteTests.{not_so, is_alnum, letter_alnum, digit_alnum, alnum_not_dash, alnum_of_upper}
use Rattle.sgml_theory_standing.proofs.sgmldecl.Table.{row_begins}
use Rattle.sgml_theory_prologs.specs.Names.{HasReferenceNames}
use Rattle.sgml_theory_prologs.proofs.Recognised.{never}

-- BYTES

separator-no-name : (names : NameSet) (b : ℕ) → is_separator b ≡ true → is_name_character names b ≡ false
separator-no-name names b e =
    not_so (is_name_character names b)
    (λ n. let is = name-is names b n in
    let no : (is_letter b || is_digit b || (b == 45) || (b == 46) || (b == 95) || (b == 58)) ≡ false = grind (arith, nat_tests) in
    never (is_letter b || is_digit b || (b == 45) || (b == 46) || (b == 95) || (b == 58)) is no)

quote-no-name : (names : NameSet) (b : ℕ) → is_quote b ≡ true → is_name_character names b ≡ false
quote-no-name names b e = not_so (is_name_character names b) (λ n. never (is_quote b) e (name-named names b n).no_quote)

separator-begins : (names : NameSet) (b : ℕ) → is_separator b ≡ true → begun names b ≡ inside.Between
separator-begins names b e =
    let q : is_quote b ≡ false = grind (arith, nat_tests) in
    let m : (b == 45) ≡ false = grind (arith, nat_tests) in
    rw (q, m, separator-no-name names b e) refl

alnum-named : (names : NameSet) (b : ℕ) → is_alnum b ≡ true → is_name_character names b ≡ true
alnum-named names b e = rw e refl

word-begins : (names : NameSet) (b : ℕ) → is_alnum b ≡ true → begun names b ≡ inside.Name
word-begins names b e =
    let n = alnum-named names b e in
    rw ((name-named names b n).no_quote, alnum_not_dash b e, n) refl

quote-begins : (names : NameSet) (b : ℕ) → is_quote b ≡ true → begun names b ≡ inside.Literal b
quote-begins names b e = ap (λ t. if t then inside.Literal b else if b == 45 then inside.Minus else if is_name_character names b then inside.Name else inside.Between) e

-- those of the reference syntax
reference-parts : (l d s t u v : Bool) → (l || d || ((s && false) || (t && false) || (u && false) || (v && false)) || ((s && true) || (t && true) || (u && false) || (v && false))) ≡ true
    → (l || d || s || t) ≡ true
reference-parts true d s t u v e = refl
reference-parts false true s t u v e = refl
reference-parts false false true t u v e = refl
reference-parts false false false true u v e = refl
reference-parts false false false false true true e = never false e refl
reference-parts false false false false true false e = never false e refl
reference-parts false false false false false true e = never false e refl
reference-parts false false false false false false e = never false e refl

one-of-four : (l d s t : Bool) {A : Type 0} → (l || d || s || t) ≡ true → (l ≡ true → A) → (d ≡ true → A) → (s ≡ true → A) → (t ≡ true → A) → A
one-of-four true d s t e f g h k = f refl
one-of-four false true s t e f g h k = g refl
one-of-four false false true t e f g h k = h refl
one-of-four false false false true e f g h k = k refl
one-of-four false false false false e f g h k = never false e refl

reference-named : (names : NameSet) (b : ℕ) → HasReferenceNames names → is_name_byte b ≡ true → is_name_character names b ≡ true
reference-named names b has e =
    one-of-four (is_letter b) (is_digit b) (b == 45) (b == 46)
    (reference-parts (is_letter b) (is_digit b) (b == 45) (b == 46) (b == 95) (b == 58) e)
    (λ f. alnum-named names b (letter_alnum b f)) (λ f. alnum-named names b (digit_alnum b f))
    (λ f. ap (is_name_character names) (eqb-true b 45 f) ∙ has.minus) (λ f. ap (is_name_character names) (eqb-true b 46 f) ∙ has.stop)

name-unended : (names : NameSet) (b : ℕ) → is_name_character names b ≡ true → (b == 62) ≡ false
name-unended names b e = (name-named names b e).no_tagc

-- THE WORDS of a declaration have letters and digits

all-alnum : List ℕ → Bool
all-alnum [] = true
all-alnum (x ∷ xs) = is_alnum x && all-alnum xs

and-parts : (x y : Bool) → (x && y) ≡ true → (x ≡ true) × (y ≡ true)
and-parts true y e = (refl, e)
and-parts false y e = never false e refl

has-alnum : (xs : List ℕ) (n c : ℕ) → all-alnum xs ≡ true → has_byte xs n c ≡ true → is_alnum c ≡ true
unfolding all-alnum
has-alnum [] n c all e = never false e refl
has-alnum (x ∷ xs) zero c all e = ap is_alnum (sym (eqb-true x c e)) ∙ (and-parts (is_alnum x) (all-alnum xs) all).0
has-alnum (x ∷ xs) (suc n) c all e = has-alnum xs n c (and-parts (is_alnum x) (all-alnum xs) all).1 e

keyword-alnum : (x : Keyword) → all-alnum (spelling x) ≡ true
unfolding all-alnum
keyword-alnum k.Charset = refl
keyword-alnum _ = refl

opening-alnum : (n c : ℕ) → 2 ≤ n → has_byte opening n c ≡ true → is_alnum c ≡ true
unfolding all-alnum
opening-alnum zero c l e = absurd (omega (arith, l))
opening-alnum (suc zero) c l e = absurd (omega (arith, l))
opening-alnum (suc (suc n)) c l e = has-alnum (codes "SGML") n c refl e

-- WHAT A BYTE STANDS IN, where the declaration is read up to there

abbrev WordFollows : Item → List ℕ → Inside → Type 0
WordFollows i.Opening word x = (2 ≤ length word) × ((x ≡ inside.Name) ⊎ ((x ≡ inside.Between) × (word ≡ 60 ∷ 33 ∷ [])))
WordFollows _ word x = x ≡ inside.Name

abbrev Follows : Part → List ℕ → Inside → Type 0
Follows p.Apart word x = x ≡ inside.Between
Follows p.After word x = ⊥
Follows p.Dash word x = x ≡ inside.Minus
Follows p.Comment word x = x ≡ inside.Comment
Follows p.CommentDash word x = x ≡ inside.CommentMinus
Follows (p.Word r) word x = WordFollows r.item word x
Follows (p.Literal r content quote) word x = x ≡ inside.Literal quote

abbrev ends-here : Inside → ℕ → Bool
ends-here x b = is_outside x && (b == 62)

abbrev StepFollows : NameSet → Inside → ℕ → Step → Type 0
StepFollows names x b refused = Unit {0}
StepFollows names x b (goes t) = Follows t.part t.word (inside_after names x b) × (ends-here x b ≡ false)
StepFollows names x b (ends h) = ends-here x b ≡ true

if-follows : (names : NameSet) (x : Inside) (b : ℕ) (t : Bool) (y z : Step) → (t ≡ true → StepFollows names x b y) → (t ≡ false → StepFollows names x b z) → StepFollows names x b (if t then y else z)
if-follows names x b true y z f g = f refl
if-follows names x b false y z f g = g refl

unended : (x : Inside) (b : ℕ) → (b == 62) ≡ false → ends-here x b ≡ false
unended x b e = ap (λ t. is_outside x && t) e ∙ and-false (is_outside x)
  where
    and-false : (t : Bool) → (t && false) ≡ false
    and-false true = refl
    and-false false = refl

-- between words, or behind one
abbrev Outer : Bool → Inside → Type 0
Outer false x = x ≡ inside.Between
Outer true x = x ≡ inside.Name

other-after : (names : NameSet) (tight : Bool) (x : Inside) (b : ℕ) → Outer tight x → is_name_character names b ≡ false → inside_after names x b ≡ begun names b
other-after names false x b o e = ap (λ y. inside_after names y b) o
other-after names true x b o e = ap (λ y. inside_after names y b) o ∙ ap (λ t. if t then inside.Name else begun names b) e

word-after : (names : NameSet) (tight : Bool) (x : Inside) (b : ℕ) → Outer tight x → is_alnum b ≡ true → inside_after names x b ≡ inside.Name
word-after names false x b o e = ap (λ y. inside_after names y b) o ∙ word-begins names b e
word-after names true x b o e = ap (λ y. inside_after names y b) o ∙ ap (λ t. if t then inside.Name else begun names b) (alnum-named names b e)

outer-is-outside : (tight : Bool) (x : Inside) → Outer tight x → is_outside x ≡ true
outer-is-outside false x o = ap is_outside o
outer-is-outside true x o = ap is_outside o

new-word : (names : NameSet) (tight : Bool) (item : Item) (r : Row) (at : ℕ) (s : State) (b : ℕ) (x : Inside) → Outer tight x → r.item ≡ item → is_alnum b ≡ true
    → WordFollows item (upper b ∷ []) (inside_after names x b) → StepFollows names x b (goes (added (upper b) (opened (p.Word r) at s)))
new-word names tight item r at s b x o same e f =
    (subst (λ y. WordFollows y (upper b ∷ []) (inside_after names x b)) (sym same) f, unended x b (name-unended names b (alnum-named names b e)))

item-follows : (names : NameSet) (tight : Bool) (item : Item) (r : Row) (at : ℕ) (s : State) (b : ℕ) (x : Inside) → Outer tight x → r.item ≡ item → begins item b ≡ true
    → StepFollows names x b (begun_item item r at s b)
item-follows names tight i.End r at s b x o same e = ap (λ t. t && (b == 62)) (outer-is-outside tight x o) ∙ e
item-follows names tight (i.Literal content) r at s b x o same e =
    (other-after names tight x b o (quote-no-name names b e) ∙ quote-begins names b e, unended x b (quote-unended b e))
  where
    quote-unended : (b : ℕ) → is_quote b ≡ true → (b == 62) ≡ false
    quote-unended b e = grind (arith, nat_tests)
item-follows names tight i.Opening r at s b x o same e = tt
item-follows names tight (i.Word y) r at s b x o same e =
    let a = alnum_of_upper b (has-alnum (spelling y) 0 (upper b) (keyword-alnum y) e) in
    new-word names tight (i.Word y) r at s b x o same a (word-after names tight x b o a)
item-follows names tight i.Number r at s b x o same e =
    let a = digit_alnum b e in
    new-word names tight i.Number r at s b x o same a (word-after names tight x b o a)
item-follows names tight (i.Name y) r at s b x o same e =
    let a = letter_alnum b e in
    new-word names tight (i.Name y) r at s b x o same a (word-after names tight x b o a)

row-follows : (names : NameSet) (tight : Bool) (o : Option Row) (at : ℕ) (s : State) (b : ℕ) (x : Inside) → Outer tight x → row_at s.due b ≡ o → StepFollows names x b (begun_if o at s b)
row-follows names tight None at s b x o e = tt
row-follows names tight (Some r) at s b x o e = item-follows names tight r.item r at s b x o refl (row_begins (rows s.due) b r e)

dash-follows : (names : NameSet) (tight : Bool) (s : State) (b : ℕ) (x : Inside) → Outer tight x → (tight && is_name_byte b) ≡ false → (b == 45) ≡ true
    → StepFollows names x b (goes (turned p.Dash s))
dash-follows names true s b x o f e = never (is_name_byte b) (ap is_name_byte (eqb-true b 45 e)) f
dash-follows names false s b x o f e =
    let is : b ≡ 45 = eqb-true b 45 e in
    (ap (λ y. inside_after names y b) o ∙ ap (begun names) is, unended x b (ap (λ n. n == 62) is))

outside-follows : (names : NameSet) (tight : Bool) (at : ℕ) (s : State) (b : ℕ) (x : Inside) → Outer tight x → StepFollows names x b (outside tight at s b)
outside-follows names tight at s b x o =
    if-follows names x b (is_separator b) _ _
    (λ e. (other-after names tight x b o (separator-no-name names b e) ∙ separator-begins names b e, unended x b (separator-unended b e)))
    (λ e. if-follows names x b (tight && is_name_byte b) _ _ (λ f. tt)
    (λ f. if-follows names x b (b == 45) _ _ (λ g. dash-follows names tight s b x o f g)
    (λ g. row-follows names tight (row_at s.due b) at s b x o refl)))
  where
    separator-unended : (b : ℕ) → is_separator b ≡ true → (b == 62) ≡ false
    separator-unended b e = grind (arith, nat_tests)

-- IN A WORD

named-after : (names : NameSet) (x : Inside) (b : ℕ) → x ≡ inside.Name → is_name_character names b ≡ true → inside_after names x b ≡ inside.Name
named-after names x b e n = ap (λ y. inside_after names y b) e ∙ ap (λ t. if t then inside.Name else begun names b) n

abbrev WordOn : NameSet → Inside → ℕ → Item → List ℕ → Type 0
WordOn names x b item word = WordFollows item (word ++ upper b ∷ []) (inside_after names x b) × (is_name_character names b ≡ true)

opening-on : (names : NameSet) (x : Inside) (b : ℕ) (word : List ℕ) → WordFollows i.Opening word x → is_alnum b ≡ true → WordOn names x b i.Opening word
opening-on names x b word f a =
    let long : 2 ≤ length (word ++ upper b ∷ []) = omega (arith, f.0, length-append word (upper b ∷ [])) in
    ((long, inl (by f.1)), alnum-named names b a)
  where
    by : ((x ≡ inside.Name) ⊎ ((x ≡ inside.Between) × (word ≡ 60 ∷ 33 ∷ []))) → inside_after names x b ≡ inside.Name
    by (inl e) = word-after names true x b e a
    by (inr e) = word-after names false x b e.0 a

word-on : (names : NameSet) (x : Inside) (b : ℕ) (item : Item) (word : List ℕ) → HasReferenceNames names → WordFollows item word x → word_goes_on item word b ≡ true → WordOn names x b item word
word-on names x b i.Opening word has f e = opening-on names x b word f (alnum_of_upper b (opening-alnum (length word) (upper b) f.0 e))
word-on names x b (i.Word y) word has f e =
    let n = alnum-named names b (alnum_of_upper b (has-alnum (spelling y) (length word) (upper b) (keyword-alnum y) e)) in
    (named-after names x b f n, n)
word-on names x b i.Number word has f e = let n = alnum-named names b (digit_alnum b e) in (named-after names x b f n, n)
word-on names x b (i.Name y) word has f e = let n = reference-named names b has e in (named-after names x b f n, n)
word-on names x b (i.Literal y) word has f e = never false e refl
word-on names x b i.End word has f e = never false e refl

whole-name : (x : Inside) (item : Item) (word : List ℕ) → WordFollows item word x → is_whole_word item word ≡ true → x ≡ inside.Name
whole-name x i.Opening word f e = by f.1
  where
    by : ((x ≡ inside.Name) ⊎ ((x ≡ inside.Between) × (word ≡ 60 ∷ 33 ∷ []))) → x ≡ inside.Name
    by (inl g) = g
    by (inr g) = never (bytes_eq word opening) e (ap (λ w. bytes_eq w opening) g.1)
whole-name x (i.Word y) word f e = f
whole-name x i.Number word f e = f
whole-name x (i.Name y) word f e = f
whole-name x (i.Literal y) word f e = f
whole-name x i.End word f e = f

word-follows : (names : NameSet) (r : Row) (at : ℕ) (s : State) (b : ℕ) (x : Inside) → HasReferenceNames names → s.part ≡ p.Word r → WordFollows r.item s.word x
    → StepFollows names x b (in_word r at s b)
word-follows names r at s b x has same f =
    if-follows names x b (word_goes_on r.item s.word b) _ _
    (λ e. let on = word-on names x b r.item s.word has f e in
    (subst (λ y. Follows y (s.word ++ upper b ∷ []) (inside_after names x b)) (sym same) on.0, unended x b (name-unended names b on.1)))
    (λ e. if-follows names x b (is_whole_word r.item s.word) _ _
    (λ g. outside-follows names true at (ended p.After r s) b x (whole-name x r.item s.word f g)) (λ g. tt))

-- IN A LITERAL

closed-after : (names : NameSet) (x : Inside) (quote b : ℕ) → x ≡ inside.Literal quote → (b == quote) ≡ true → inside_after names x b ≡ inside.Between
closed-after names x quote b f e = ap (λ y. inside_after names y b) f ∙ ap (λ t. if t then inside.Between else inside.Literal quote) e

open-after : (names : NameSet) (x : Inside) (quote b : ℕ) → x ≡ inside.Literal quote → (b == quote) ≡ false → inside_after names x b ≡ inside.Literal quote
open-after names x quote b f e = ap (λ y. inside_after names y b) f ∙ ap (λ t. if t then inside.Between else inside.Literal quote) e

inside-unended : (x y : Inside) (b : ℕ) → x ≡ y → is_outside y ≡ false → ends-here x b ≡ false
inside-unended x y b e f = ap (λ z. is_outside z && (b == 62)) e ∙ ap (λ t. t && (b == 62)) f

literal-follows : (names : NameSet) (r : Row) (content : Content) (quote : ℕ) (s : State) (b : ℕ) (x : Inside) → s.part ≡ p.Literal r content quote → x ≡ inside.Literal quote
    → StepFollows names x b (in_literal r content quote s b)
literal-follows names r content quote s b x same f =
    if-follows names x b (b == quote) _ _
    (λ e. if-follows names x b (is_whole_content content s.marks s.word) _ _
    (λ g. (closed-after names x quote b f e, inside-unended x (inside.Literal quote) b f refl)) (λ g. tt))
    (λ e. if-follows names x b (content_goes_on content s.marks s.word b) _ _
    (λ g. (subst (λ y. Follows y (s.word ++ b ∷ []) (inside_after names x b)) (sym same) (open-after names x quote b f e), inside-unended x (inside.Literal quote) b f refl)) (λ g. tt))

-- A COMMENT

comment-follows : (names : NameSet) (s : State) (b : ℕ) (x : Inside) (t : Bool) → (b == 45) ≡ t → x ≡ inside.Comment
    → StepFollows names x b (goes (turned (if t then p.CommentDash else p.Comment) s))
comment-follows names s b x true e f =
    (ap (λ y. inside_after names y b) f ∙ ap (λ t. if t then inside.CommentMinus else inside.Comment) e, inside-unended x inside.Comment b f refl)
comment-follows names s b x false e f =
    (ap (λ y. inside_after names y b) f ∙ ap (λ t. if t then inside.CommentMinus else inside.Comment) e, inside-unended x inside.Comment b f refl)

minus-follows : (names : NameSet) (s : State) (b : ℕ) (x : Inside) (t : Bool) → (b == 45) ≡ t → x ≡ inside.CommentMinus
    → StepFollows names x b (goes (turned (if t then p.Apart else p.Comment) s))
minus-follows names s b x true e f =
    (ap (λ y. inside_after names y b) f ∙ ap (λ t. if t then inside.Between else inside.Comment) e, inside-unended x inside.CommentMinus b f refl)
minus-follows names s b x false e f =
    (ap (λ y. inside_after names y b) f ∙ ap (λ t. if t then inside.Between else inside.Comment) e, inside-unended x inside.CommentMinus b f refl)

begun-comment : (names : NameSet) (s : State) (b : ℕ) (x : Inside) → x ≡ inside.Minus → (b == 45) ≡ true → StepFollows names x b (goes (turned p.Comment s))
begun-comment names s b x f e =
    (ap (λ y. inside_after names y b) f ∙ ap (λ t. if t then inside.Comment else begun names b) e, unended x b (ap (λ n. n == 62) (eqb-true b 45 e)))

-- EACH BYTE

part-follows : (names : NameSet) (part : Part) (at : ℕ) (s : State) (b : ℕ) (x : Inside) → HasReferenceNames names → s.part ≡ part → Follows part s.word x
    → StepFollows names x b (step_in part at s b)
part-follows names p.Apart at s b x has same f = outside-follows names false at s b x f
part-follows names p.After at s b x has same f = absurd f
part-follows names p.Dash at s b x has same f = if-follows names x b (b == 45) _ _ (λ e. begun-comment names s b x f e) (λ e. tt)
part-follows names p.Comment at s b x has same f = comment-follows names s b x (b == 45) refl f
part-follows names p.CommentDash at s b x has same f = minus-follows names s b x (b == 45) refl f
part-follows names (p.Word r) at s b x has same f = word-follows names r at s b x has same f
part-follows names (p.Literal r content quote) at s b x has same f = literal-follows names r content quote s b x same f

-- UP TO THE END

abbrev EndsWith : NameSet → Inside → List ℕ → ℕ → ℕ → Type 0
EndsWith names x bs at n = (m : ℕ) × (end_after names Mdc x bs ≡ Some m) × (at + m ≡ n)

ends-on : (names : NameSet) (x : Inside) (b : ℕ) (bs : List ℕ) (at : ℕ) (h : Heard) (n : ℕ) (y : Step) → StepFollows names x b y
    → go_on at y (λ t. run (at + 1) t bs) ≡ whole h n
    → ((t : State) → Follows t.part t.word (inside_after names x b) → run (at + 1) t bs ≡ whole h n → EndsWith names (inside_after names x b) bs (at + 1) n)
    → EndsWith names x (b ∷ bs) at n
ends-on names x b bs at h n refused f e on = absurd (cc)
ends-on names x b bs at h n (goes t) f e on =
    let rest = on t f.0 e in (
      1 + rest.0,
      ap (λ u. if u then Some 1 else later 1 (end_after names Mdc (inside_after names x b) bs)) f.1 ∙ ap (later 1) rest.1,
      omega (arith, rest.2),
    )
ends-on names x b bs at h n (ends y) f e on =
    let is : at + 1 ≡ n = cc in
    (1, ap (λ u. if u then Some 1 else later 1 (end_after names Mdc (inside_after names x b) bs)) f, is)

run-ends : (names : NameSet) (has : HasReferenceNames names) (bs : List ℕ) (at : ℕ) (s : State) (x : Inside) (h : Heard) (n : ℕ) → Follows s.part s.word x → run at s bs ≡ whole h n
    → EndsWith names x bs at n
unfolding run
run-ends names has [] at s x h n f e = absurd (cc)
run-ends names has (b ∷ bs) at s x h n f e =
    ends-on names x b bs at h n (step at s b) (part-follows names s.part at s b x has refl f) e
    (λ t g d. run-ends names has bs (at + 1) t (inside_after names x b) h n g d)

-- after MDO
opening-ends : (names : NameSet) (bs : List ℕ) (h : Heard) (n : ℕ) → HasReferenceNames names → run 0 begin_state (60 ∷ 33 ∷ bs) ≡ whole h n
    → (m : ℕ) × (end_after names Mdc inside.Between bs ≡ Some m) × (2 + m ≡ n)
unfolding run
opening-ends names bs h n has e =
    run-ends names has bs 2 (added 33 (added 60 begin_state)) inside.Between h n (omega arith, inr (refl, refl)) e

-- it is no document type declaration
no-doctype : (word : List ℕ) → is_word (codes "SGML") word ≡ true → is_word (codes "DOCTYPE") word ≡ false
no-doctype word e =
    let is = (bytes_eq-Decides (map upper word) (codes "SGML")).0 e in
    ap (λ w. bytes_eq w (codes "DOCTYPE")) is

pub sgml-ends : (names : NameSet) (bs : List ℕ) (h : Heard) (n : ℕ) → HasReferenceNames names → is_word (codes "SGML") (first_name names bs) ≡ true
    → run 0 begin_state (60 ∷ 33 ∷ bs) ≡ whole h n → (m : ℕ) × (declaration_end names bs ≡ Some m) × (2 + m ≡ n)
sgml-ends names bs h n has e r =
    let x = opening-ends names bs h n has r in
    let plain : ender_of names bs ≡ Mdc = ap (λ t. if t then Either else Mdc) (no-doctype (first_name names bs) e) in
    (x.0, ap (λ y. end_after names y inside.Between bs) plain ∙ x.1, x.2)
