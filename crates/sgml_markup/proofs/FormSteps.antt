-- A tag that is spelled by the grammar is of a form, and its parts are those of the spelling.
use Rattle.std.proofs.Common.{◌≡◌, ℕ, ◌+◌, Bool, true, false, not, List, [], ◌∷◌, ◌++◌, Option, length, refl, sym, ◌∙◌, ap, ◌==◌, ◌||◌, arith, eq-eqb}
use Rattle.std.specs.List.{list_all}
use Rattle.std.proofs.lemmas.Bool.Decides.{nat_tests}
use Rattle.sgml_text.specs.declared.name_set.NameSet.{NameSet}
use Rattle.sgml_text.specs.NameCharacters.{is_name_character, is_name_start, is_marked}
use Rattle.sgml_text.specs.Characters.{is_letter, is_digit, is_separator, is_quote}
use Rattle.sgml_syntax.specs.declared.syntax.Syntax.{Syntax}
use Rattle.sgml_markup.specs.declared.kinds.Part.{Part}
use Rattle.sgml_markup.specs.declared.kinds.PartKind.TheVariants as part
use Rattle.sgml_markup.specs.declared.kinds.TagState.{TagState}
use Rattle.sgml_markup.specs.declared.kinds.TagState.TheVariants.{ElementName, Closing, Ready, Word, AfterWord, Bare, Literal}
use Rattle.sgml_markup.specs.declared.kinds.TagState.TheVariants as state
use Rattle.sgml_markup.specs.declared.kinds.TagStep.{TagStep}
use Rattle.sgml_markup.specs.Tags.{tag_step, goes_to, ends_part, after_name, ends_bare, begins_word, tag_parts, with_part, is_tag}
use Rattle.sgml_markup.proofs.EndLemmas.{pick-true, pick-no}
use Rattle.sgml_delim.proofs.Deciding.{true-false, and-left, and-right}
use Rattle.sgml_markup.proofs.Bytes.{name-is}

-- which bytes are which
pub record NameByte (b : ℕ) : Type 0 where
  pub separator : is_separator b ≡ false
  pub equals : (b == 61) ≡ false
  pub quote : is_quote b ≡ false
  pub close : ((b == 62) || (b == 47)) ≡ false

name-byte-of : (b : ℕ) → (is_letter b || is_digit b || (b == 45) || (b == 46) || (b == 95) || (b == 58)) ≡ true → NameByte b
name-byte-of b e = record {
  separator = grind (arith, nat_tests);
  equals = grind (arith, nat_tests);
  quote = grind (arith, nat_tests);
  close = grind (arith, nat_tests);
}

pub name-byte : (names : NameSet) (b : ℕ) → is_name_character names b ≡ true → NameByte b
name-byte names b e = name-byte-of b (name-is names b e)

pub no-name : (names : NameSet) (b : ℕ) → (NameByte b → ⊥) → is_name_character names b ≡ false
no-name names b h = from (is_name_character names b) refl
  where
    from : (t : Bool) → is_name_character names b ≡ t → is_name_character names b ≡ false
    from false p = p
    from true p = absurd (h (name-byte names b p))

pub separator-no-name : (names : NameSet) (b : ℕ) → is_separator b ≡ true → is_name_character names b ≡ false
separator-no-name names b e = no-name names b (λ h. true-false (sym h.separator ∙ e))

pub equals-no-name : (names : NameSet) → is_name_character names 61 ≡ false
equals-no-name names = no-name names 61 (λ h. true-false (sym h.equals))

pub quote-no-separator : (q : ℕ) → is_quote q ≡ true → is_separator q ≡ false
quote-no-separator q e = grind (arith, nat_tests)

or-start : (l d u v : Bool) → (l || u) ≡ true → (l || d || u || v) ≡ true
or-start true d u v e = refl
or-start false true u v e = refl
or-start false false true v e = refl
or-start false false false v e = absurd (true-false e)

pub start-is-name : (names : NameSet) (b : ℕ) → is_name_start names b ≡ true → is_name_character names b ≡ true
start-is-name names b e = or-start (is_letter b) (is_digit b) (is_marked names.start b) (is_marked names.more b) e

-- whether a tag is of a form from a place on, and its parts there
abbrev pub read : Syntax → Bool → ℕ → TagState → List ℕ → Bool × List Part
read s closing at st bytes = (is_tag s closing at st bytes, tag_parts s closing at st bytes)

abbrev pub add : Option Part → Bool × List Part → Bool × List Part
add o r = (r.0, with_part o r.1)

pub by-step : (s : Syntax) (closing : Bool) (at : ℕ) (st : TagState) (b : ℕ) (bytes : List ℕ) (step : TagStep)
    → tag_step s closing at st b ≡ step → read s closing at st (b ∷ bytes) ≡ add step.part (read s closing (at + 1) step.next bytes)
by-step s closing at st b bytes step e = ap (λ st. add st.part (read s closing (at + 1) st.next bytes)) e

abbrev pub Stays : Syntax → Bool → TagState → (ℕ → Bool) → Type 0
Stays s closing st test = (at b : ℕ) → test b ≡ true → tag_step s closing at st b ≡ goes_to st

-- bytes that leave a state as it is
pub over : (s : Syntax) (closing : Bool) (st : TagState) (test : ℕ → Bool) → Stays s closing st test → (at to : ℕ) (xs ys : List ℕ)
    → list_all test xs ≡ true → to ≡ at + length xs → read s closing at st (xs ++ ys) ≡ read s closing to st ys
over s closing st test stays at to [] ys h e = ap (λ n. read s closing n st ys) (omega (arith, e))
over s closing st test stays at to (b ∷ xs) ys h e =
    by-step s closing at st b (xs ++ ys) (goes_to st) (stays at b (and-left (test b) (list_all test xs) h))
    ∙ over s closing st test stays (at + 1) to xs ys (and-right (test b) (list_all test xs) h) (omega (arith, e))

pub over-all : (s : Syntax) (closing : Bool) (st : TagState) (test : ℕ → Bool) → Stays s closing st test → (at to : ℕ) (xs : List ℕ)
    → list_all test xs ≡ true → to ≡ at + length xs → read s closing at st xs ≡ read s closing to st []
over-all s closing st test stays at to [] h e = ap (λ n. read s closing n st []) (omega (arith, e))
over-all s closing st test stays at to (b ∷ xs) h e =
    by-step s closing at st b xs (goes_to st) (stays at b (and-left (test b) (list_all test xs) h))
    ∙ over-all s closing st test stays (at + 1) to xs (and-right (test b) (list_all test xs) h) (omega (arith, e))

-- which bytes leave each state
pub name-stays : (s : Syntax) (closing : Bool) (from : ℕ) → Stays s closing (ElementName from) (is_name_character s.names)
name-stays s closing from = λ at b e. pick-true (is_name_character s.names b) _ _ e

pub closing-stays : (s : Syntax) → Stays s true Closing is_separator
closing-stays s = λ at b e. pick-true (is_separator b) _ _ e

pub ready-stays : (s : Syntax) (closing : Bool) → Stays s closing Ready is_separator
ready-stays s closing = λ at b e. pick-true (is_separator b) _ _ e

pub word-stays : (s : Syntax) (closing : Bool) (from : ℕ) (w : Bool) → Stays s closing (Word from w) (is_name_character s.names)
word-stays s closing from w = λ at b e. pick-true (is_name_character s.names b) _ _ e

pub after-stays : (s : Syntax) (closing : Bool) (from to : ℕ) (w : Bool) → Stays s closing (AfterWord from to w) is_separator
after-stays s closing from to w = λ at b e. pick-true (is_separator b) _ _ e

pub value-stays : (s : Syntax) (closing : Bool) → Stays s closing state.Value is_separator
value-stays s closing = λ at b e. pick-true (is_separator b) _ _ e

pub bare-stays : (s : Syntax) (closing : Bool) (from : ℕ) → Stays s closing (Bare from) (is_name_character s.names)
bare-stays s closing from = λ at b e. pick-true (is_name_character s.names b) _ _ e

pub not-true : (t : Bool) → not t ≡ true → t ≡ false
not-true false e = refl
not-true true e = absurd (true-false e)

pub literal-stays : (s : Syntax) (closing : Bool) (q from : ℕ) → Stays s closing (Literal q from) (λ b. not (b == q))
literal-stays s closing q from = λ at b e. pick-no (b == q) _ _ (not-true (b == q) e)

-- steps from one state to another
pub bare-is : (s : Syntax) (from to : ℕ) (next : TagState) → s.shorttag ≡ true → ends_bare s from to next ≡ ends_part part.Bare from to next
bare-is s from to next e = pick-true s.shorttag _ _ e

pub name-separator : (s : Syntax) (closing : Bool) (at from b : ℕ) → is_separator b ≡ true
    → tag_step s closing at (ElementName from) b ≡ ends_part part.ElementName from at (after_name closing)
name-separator s closing at from b e =
    pick-no (is_name_character s.names b) _ _ (separator-no-name s.names b e) ∙ pick-true (is_separator b) _ _ e

pub ready-name : (s : Syntax) (at b : ℕ) → is_name_character s.names b ≡ true
    → tag_step s false at Ready b ≡ goes_to (Word at (is_name_start s.names b))
ready-name s at b e =
    pick-no (is_separator b) _ _ (name-byte s.names b e).separator ∙ pick-true (is_name_character s.names b) _ _ e

pub word-separator : (s : Syntax) (at from b : ℕ) (w : Bool) → is_separator b ≡ true
    → tag_step s false at (Word from w) b ≡ goes_to (AfterWord from at w)
word-separator s at from b w e =
    pick-no (is_name_character s.names b) _ _ (separator-no-name s.names b e) ∙ pick-true (is_separator b) _ _ e

pub word-equals : (s : Syntax) (at from : ℕ) → tag_step s false at (Word from true) 61 ≡ ends_part part.AttributeName from at state.Value
word-equals s at from = pick-no (is_name_character s.names 61) _ _ (equals-no-name s.names)

pub after-name : (s : Syntax) (at from to b : ℕ) (w : Bool) → is_name_character s.names b ≡ true → s.shorttag ≡ true
    → tag_step s false at (AfterWord from to w) b ≡ ends_part part.Bare from to (Word at (is_name_start s.names b))
after-name s at from to b w e short =
    pick-no (is_separator b) _ _ (name-byte s.names b e).separator ∙ pick-no (b == 61) _ _ (name-byte s.names b e).equals
    ∙ pick-true (is_name_character s.names b) _ _ e ∙ bare-is s from to (begins_word s at b) short

pub value-quote : (s : Syntax) (at q : ℕ) → is_quote q ≡ true → tag_step s false at state.Value q ≡ goes_to (Literal q (at + 1))
value-quote s at q e = pick-no (is_separator q) _ _ (quote-no-separator q e) ∙ pick-true (is_quote q) _ _ e

pub value-name : (s : Syntax) (at b : ℕ) → is_name_character s.names b ≡ true → tag_step s false at state.Value b ≡ goes_to (Bare at)
value-name s at b e =
    pick-no (is_separator b) _ _ (name-byte s.names b e).separator ∙ pick-no (is_quote b) _ _ (name-byte s.names b e).quote
    ∙ pick-true (is_name_character s.names b) _ _ e

pub bare-separator : (s : Syntax) (at from b : ℕ) → is_separator b ≡ true → s.shorttag ≡ true
    → tag_step s false at (Bare from) b ≡ ends_part part.Bare from at Ready
bare-separator s at from b e short =
    pick-no (is_name_character s.names b) _ _ (separator-no-name s.names b e) ∙ pick-true (is_separator b) _ _ e
    ∙ bare-is s from at Ready short

pub literal-quote : (s : Syntax) (at q from : ℕ) → tag_step s false at (Literal q from) q ≡ ends_part part.Quoted from at Ready
literal-quote s at q from = pick-true (q == q) _ _ (eq-eqb q q refl)
