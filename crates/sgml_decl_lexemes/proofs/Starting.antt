-- The start of a marked section with one word of letters between separators is that word and DSO.
use Rattle.std.proofs.Common.{◌≡◌, ℕ, suc, ◌+◌, ◌-◌, ◌<◌, Bool, true, false, List, [], ◌∷◌, ◌++◌, length, drop, take, None, Some, Ok, refl, sym, ◌∙◌, ap, subst, if◌then◌else◌, ◌==◌, ◌&&◌, ◌||◌, arith, eqb-true}
use Rattle.std.proofs.lemmas.Bool.Decides.{nat_tests}
use Rattle.std.proofs.lemmas.List.{length-append, length-drop, length-take-le, take-append-drop, append_assoc, drop-take}
use Rattle.std.specs.List.{prefix_len, list_all}
use Rattle.sgml_text.specs.declared.place.Place.{Place}
use Rattle.sgml_text.specs.declared.name_set.NameSet.{NameSet}
use Rattle.sgml_text.specs.declared.reason.Reason.TheVariants as reason
use Rattle.sgml_text.specs.Characters.{is_letter, is_digit, is_separator, is_quote, is_sgml_character, all_sgml}
use Rattle.sgml_text.specs.NameCharacters.{is_marked, is_name_start, is_name_character}
use Rattle.sgml_decl_parts.specs.sgml_delim.declared.delim.Delim.TheVariants.{Dso}
use Rattle.sgml_decl_parts.specs.sgml_delim.declared.ends.Inside.{Inside}
use Rattle.sgml_decl_parts.specs.sgml_delim.declared.ends.Inside.TheVariants as inside
use Rattle.sgml_decl_parts.specs.sgml_delim.declared.ends.Ender.TheVariants as ender
use Rattle.sgml_decl_parts.specs.sgml_delim.Ends.{later, inside_after, is_outside, end_after}
use Rattle.sgml_entity.specs.Stack.{Stack, moved, moved_to, offset_of}
use Rattle.sgml_decl_parts.specs.declared.form.Form.TheVariants as f
use Rattle.sgml_decl_parts.specs.declared.part.Part.{Part}
use Rattle.sgml_decl_parts.specs.declared.part.Part.TheVariants as p
use Rattle.sgml_decl_parts.specs.declared.ends.Construct.{Construct}
use Rattle.sgml_decl_parts.specs.declared.ends.Construct.TheVariants.{SectionStart}
use Rattle.sgml_decl_parts.specs.Bytes.{name_length, begins_name, begins_with}
use Rattle.sgml_decl_parts.specs.Ends.{before, construct_end}
use Rattle.sgml_decl_parts.specs.Parts.{outer_at}
use Rattle.sgml_decl_lexemes.specs.declared.lexeme.Lexeme.{Lexeme}
use Rattle.sgml_decl_lexemes.specs.declared.lexeme.Lexeme.TheVariants.{Name, Sign}
use Rattle.sgml_decl_lexemes.specs.Sources.{Source, unread}
use Rattle.sgml_decl_lexemes.specs.Readings.{State, Reading, ahead, advanced, next_part, judged_part, judged_dso, after, nothing_read, first_form, begun, start}
use Rattle.sgml_decl_lexemes.specs.Declares.{StandsAtStart, state, is_closed, ReadsParts, HasLexemes, Own, Whole, Bad, own, own_by, text, rest, may_grow, source, is_begun, is_asked, Answers, AnswersBy, Asked, end_by, end_offset}
use Rattle.sgml_decl_lexemes.specs.declared.start.PlainStart.{PlainStart}
use Rattle.sgml_decl_lexemes.specs.Starts.{are_separators, are_letters, IsPlainStart, one_keyword, PlainStarts}
use Rattle.sgml_decl_lexemes.proofs.Ending.{begun-by, own-unread}
use Rattle.sgml_decl_lexemes.proofs.Running.{begins-of}
use Rattle.sgml_decl_lexemes.proofs.Quoting.{flip}
use Rattle.sgml_decl_lexemes.proofs.Plainly.{all-front, front, left-after, unmoved, in-its-text, advanced-twice, both}

clash : {A : Type 0} → false ≡ true → A
clash e = absurd (never e)
  where
    never : false ≡ true → ⊥
    never e = cc

-- BYTES
unmarked : (marks : List Bool) (b : ℕ) → (b == 45) ≡ false → (b == 46) ≡ false → (b == 95) ≡ false → (b == 58) ≡ false → is_marked marks b ≡ false
unmarked [] b i j k l = refl
unmarked (a ∷ []) b i j k l = refl
unmarked (a ∷ c ∷ []) b i j k l = refl
unmarked (a ∷ c ∷ d ∷ []) b i j k l = refl
unmarked (a ∷ c ∷ d ∷ e ∷ []) b i j k l = rw (i, j, k, l) refl
unmarked (a ∷ c ∷ d ∷ e ∷ g ∷ more) b i j k l = refl

pub no-name : (names : NameSet) (b : ℕ) → is_letter b ≡ false → is_digit b ≡ false → (b == 45) ≡ false → (b == 46) ≡ false → (b == 95) ≡ false → (b == 58) ≡ false → is_name_character names b ≡ false
no-name names b l d i j k m = rw (l, d, unmarked names.start b i j k m, unmarked names.more b i j k m) refl

pub record Separator (names : NameSet) (b : ℕ) : Type 0 where
  no-quote : is_quote b ≡ false
  no-minus : (b == 45) ≡ false
  no-mdc : (b == 62) ≡ false
  no-dso : (b == 91) ≡ false
  pub no-name-character : is_name_character names b ≡ false
  sgml : is_sgml_character b ≡ true

this-separator : (names : NameSet) (b : ℕ) → is_quote b ≡ false → (b == 45) ≡ false → (b == 62) ≡ false → (b == 91) ≡ false → is_name_character names b ≡ false → is_sgml_character b ≡ true → Separator names b
this-separator names b i j k l m n = record { no-quote = i; no-minus = j; no-mdc = k; no-dso = l; no-name-character = m; sgml = n }

one-of : (names : NameSet) (b : ℕ) (t u v w : Bool) → (b == 13) ≡ t → (b == 10) ≡ u → (b == 32) ≡ v → (b == 9) ≡ w → (t || u || v || w) ≡ true → Separator names b
one-of names b true u v w i j k l h = subst (Separator names) (sym (eqb-true b 13 i)) (this-separator names 13 refl refl refl refl (no-name names 13 refl refl refl refl refl refl) refl)
one-of names b false true v w i j k l h = subst (Separator names) (sym (eqb-true b 10 j)) (this-separator names 10 refl refl refl refl (no-name names 10 refl refl refl refl refl refl) refl)
one-of names b false false true w i j k l h = subst (Separator names) (sym (eqb-true b 32 k)) (this-separator names 32 refl refl refl refl (no-name names 32 refl refl refl refl refl refl) refl)
one-of names b false false false true i j k l h = subst (Separator names) (sym (eqb-true b 9 l)) (this-separator names 9 refl refl refl refl (no-name names 9 refl refl refl refl refl refl) refl)
one-of names b false false false false i j k l h = clash h

pub separator : (names : NameSet) (b : ℕ) → is_separator b ≡ true → Separator names b
separator names b h = one-of names b (b == 13) (b == 10) (b == 32) (b == 9) refl refl refl refl h

record Letter (names : NameSet) (b : ℕ) : Type 0 where
  no-quote : is_quote b ≡ false
  no-minus : (b == 45) ≡ false
  no-mdc : (b == 62) ≡ false
  no-dso : (b == 91) ≡ false
  no-separator : is_separator b ≡ false
  name-start : is_name_start names b ≡ true
  name-character : is_name_character names b ≡ true
  sgml : is_sgml_character b ≡ true

letter-no-quote : (b : ℕ) → is_letter b ≡ true → is_quote b ≡ false
letter-no-quote b h = grind (arith, nat_tests)

letter-is-not : (b c : ℕ) → is_letter c ≡ false → is_letter b ≡ true → (b == c) ≡ false
letter-is-not b c k h = by (b == c) refl
  where
    by : (t : Bool) → (b == c) ≡ t → (b == c) ≡ false
    by false e = e
    by true e = clash (sym k ∙ ap is_letter (sym (eqb-true b c e)) ∙ h)

letter-no-separator : (b : ℕ) → is_letter b ≡ true → is_separator b ≡ false
letter-no-separator b h = rw (letter-is-not b 13 refl h, letter-is-not b 10 refl h, letter-is-not b 32 refl h, letter-is-not b 9 refl h) refl

letter-sgml : (b : ℕ) → is_letter b ≡ true → is_sgml_character b ≡ true
letter-sgml b h = grind (arith, nat_tests)

letter : (names : NameSet) (b : ℕ) → is_letter b ≡ true → Letter names b
letter names b h = record {
  no-quote = rw (letter-is-not b 34 refl h, letter-is-not b 39 refl h) refl;
  no-minus = letter-is-not b 45 refl h;
  no-mdc = letter-is-not b 62 refl h;
  no-dso = letter-is-not b 91 refl h;
  no-separator = letter-no-separator b h;
  name-start = rw h refl;
  name-character = rw h refl;
  sgml = letter-sgml b h;
}

-- RUNS
abbrev Stops : (ℕ → Bool) → List ℕ → Type 0
Stops p [] = Unit {0}
Stops p (b ∷ bytes) = p b ≡ false

prefix-all : (p : ℕ → Bool) (xs ys : List ℕ) → list_all p xs ≡ true → Stops p ys → prefix_len p (xs ++ ys) ≡ length xs
prefix-all p [] [] all stop = refl
prefix-all p [] (y ∷ ys) all stop = rw stop refl
prefix-all p (x ∷ xs) ys all stop =
    let h = both (p x) (list_all p xs) all in
    let again : prefix_len p (xs ++ ys) ≡ length xs = prefix-all p xs ys h.1 stop in
    rw h.0 (omega (arith, again))

and : (t u : Bool) → t ≡ true → u ≡ true → (t && u) ≡ true
and true u a b = b
and false u a b = clash a

weaker : (p r : ℕ → Bool) → ((b : ℕ) → p b ≡ true → r b ≡ true) → (xs : List ℕ) → list_all p xs ≡ true → list_all r xs ≡ true
weaker p r h [] all = refl
weaker p r h (x ∷ xs) all = let e = both (p x) (list_all p xs) all in and (r x) (list_all r xs) (h x e.0) (weaker p r h xs e.1)

all-append : (p : ℕ → Bool) (xs ys : List ℕ) → list_all p xs ≡ true → list_all p ys ≡ true → list_all p (xs ++ ys) ≡ true
all-append p [] ys a b = b
all-append p (x ∷ xs) ys a b = let e = both (p x) (list_all p xs) a in and (p x) (list_all p (xs ++ ys)) e.0 (all-append p xs ys e.1 b)

drop-front : (xs ys : List ℕ) → drop (length xs) (xs ++ ys) ≡ ys
drop-front [] ys = refl
drop-front (x ∷ xs) ys = drop-front xs ys

take-front : (xs ys : List ℕ) → take (length xs) (xs ++ ys) ≡ xs
take-front [] ys = refl
take-front (x ∷ xs) ys = ap (λ (zs : List ℕ). x ∷ zs) (take-front xs ys)

-- THE END: separators and letters end nothing
abbrev quiet : ℕ → Bool
quiet b = is_separator b || is_letter b

abbrev is_calm : Inside → Bool
is_calm inside.Between = true
is_calm inside.Name = true
is_calm _ = false

record Quiet (names : NameSet) (x : Inside) (b : ℕ) : Type 0 where
  calm : is_calm (inside_after names x b) ≡ true
  no-dso : (b == 91) ≡ false
  sgml : is_sgml_character b ≡ true

quiet-separator : (names : NameSet) (x : Inside) (b : ℕ) → is_calm x ≡ true → Separator names b → Quiet names x b
quiet-separator names inside.Between b calm s = record { calm = rw (s.no-quote, s.no-minus, s.no-name-character) refl; no-dso = s.no-dso; sgml = s.sgml }
quiet-separator names inside.Name b calm s = record { calm = rw (s.no-name-character) (rw (s.no-quote, s.no-minus) refl); no-dso = s.no-dso; sgml = s.sgml }
quiet-separator names _ b calm s = clash calm

quiet-letter : (names : NameSet) (x : Inside) (b : ℕ) → is_calm x ≡ true → Letter names b → Quiet names x b
quiet-letter names inside.Between b calm s = record { calm = rw (s.no-quote, s.no-minus, s.name-character) refl; no-dso = s.no-dso; sgml = s.sgml }
quiet-letter names inside.Name b calm s = record { calm = rw (s.name-character) refl; no-dso = s.no-dso; sgml = s.sgml }
quiet-letter names _ b calm s = clash calm

quiet-by : (names : NameSet) (x : Inside) (b : ℕ) (t u : Bool) → is_calm x ≡ true → is_separator b ≡ t → is_letter b ≡ u → (t || u) ≡ true → Quiet names x b
quiet-by names x b true u calm i j h = quiet-separator names x b calm (separator names b i)
quiet-by names x b false true calm i j h = quiet-letter names x b calm (letter names b j)
quiet-by names x b false false calm i j h = clash h

is-quiet : (names : NameSet) (x : Inside) (b : ℕ) → is_calm x ≡ true → quiet b ≡ true → Quiet names x b
is-quiet names x b calm h = quiet-by names x b (is_separator b) (is_letter b) calm refl refl h

outside : (x : Inside) → is_calm x ≡ true → is_outside x ≡ true
outside inside.Between h = refl
outside inside.Name h = refl
outside _ h = clash h

end-at : (names : NameSet) (x : Inside) (xs more : List ℕ) → is_calm x ≡ true → list_all quiet xs ≡ true → end_after names ender.Dso x (xs ++ (91 ∷ more)) ≡ Some (length xs + 1)
end-at names x [] more calm all = rw (outside x calm) refl
end-at names x (b ∷ xs) more calm all =
    let here = both (quiet b) (list_all quiet xs) all in
    let is = is-quiet names x b calm here.0 in
    rw (outside x calm, is.no-dso) (ap (later 1) (end-at names (inside_after names x b) xs more is.calm here.1) ∙ ap Some (omega arith))

sgml-by : (xs : List ℕ) → list_all quiet xs ≡ true → all_sgml (xs ++ 91 ∷ []) ≡ true
sgml-by [] all = refl
sgml-by (b ∷ xs) all =
    let here = both (quiet b) (list_all quiet xs) all in
    rw ((is-quiet (record { start = []; more = [] }) inside.Between b refl here.0).sgml) (sgml-by xs here.1)

-- AS FAR AS IT WAS READ
abbrev reading_with : List Lexeme → Reading
reading_with ds = record { form = f.Statuses; lexemes = ds; literal = None; bytes = []; units = []; after_group = false; no_char = false }

abbrev at_place : Stack → List Lexeme → ℕ → State
at_place s ds k = record { reading = reading_with ds; stack = advanced k s }

record SoRead (I : Source) (s : Stack) (ds : List Lexeme) (k : ℕ) (left : List ℕ) : Type 0 where
  parts : List Part
  reads : ReadsParts I s parts
  unfinished : is_closed I.construct parts ≡ false
  state-is : state I s parts ≡ at_place s ds k
  left-is : ahead I (at_place s ds k) ≡ left

outer-gap : (names : NameSet) (base : Bool) (b : ℕ) (ys : List ℕ) → is_separator b ≡ true → outer_at names base false b ys ≡ Ok (p.Gap (1 + prefix_len is_separator ys))
outer-gap names base b ys h = let s = separator names b h in rw (s.no-minus, s.no-quote, s.no-mdc, h) refl

outer-name : (names : NameSet) (base : Bool) (b : ℕ) (ys : List ℕ) → is_letter b ≡ true → outer_at names base false b ys ≡ Ok (p.Name (1 + name_length names ys))
outer-name names base b ys h = let s = letter names b h in rw (s.no-minus, s.no-quote, s.no-mdc, s.no-separator, s.name-start) refl

outer-dso : (names : NameSet) (base : Bool) → outer_at names base false 91 [] ≡ Ok (p.Sign Dso)
outer-dso names base = rw (unmarked names.start 91 refl refl refl refl, unmarked names.more 91 refl refl refl refl) refl

gap-read : (I : Source) (s : Stack) (ds : List Lexeme) (k : ℕ) (xs ys : List ℕ) → are_separators xs ≡ true → Stops is_separator ys → SoRead I s ds k (xs ++ ys) → SoRead I s ds (k + length xs) ys
gap-read I s ds k [] ys all stop r = subst (λ (j : ℕ). SoRead I s ds j ys) (omega arith) r
gap-read I s ds k (x ∷ xs) ys all stop r =
    let h = both (is_separator x) (list_all is_separator xs) all in
    let n : ℕ = 1 + prefix_len is_separator (xs ++ ys) in
    let run : prefix_len is_separator (xs ++ ys) ≡ length xs = prefix-all is_separator xs ys h.1 stop in
    let size : n ≡ suc (length xs) = omega (arith, run) in
    let found : next_part I (at_place s ds k) ≡ Ok (p.Gap n) =
    rw (r.left-is) (ap (judged_part I (x ∷ (xs ++ ys)) (at_place s ds k)) (outer-gap I.syntax.names (length (advanced k s).places == I.height) x (xs ++ ys) h.0)) in
    record {
      parts = p.Gap n ∷ r.parts;
      reads = (r.reads, r.unfinished, ap (next_part I) r.state-is ∙ found);
      unfinished = refl;
      state-is = ap (λ (t : State). after I (ahead I t) (p.Gap n) t) r.state-is ∙ ap (λ (st : Stack). record { reading = reading_with ds; stack = st }) (advanced-twice s k n) ∙ ap (λ (m : ℕ). at_place s ds (k + m)) size;
      left-is = left-after I s k (suc (length xs)) ∙ ap (drop (suc (length xs))) r.left-is ∙ drop-front (x ∷ xs) ys;
    }

word-read : (I : Source) (s : Stack) (ds : List Lexeme) (k x : ℕ) (xs ys : List ℕ) → is_letter x ≡ true → are_letters xs ≡ true → Stops (is_name_character I.syntax.names) ys
    → SoRead I s ds k ((x ∷ xs) ++ ys) → SoRead I s (ds ++ Name (x ∷ xs) ∷ []) (k + length (x ∷ xs)) ys
word-read I s ds k x xs ys first all stop r =
    let names = I.syntax.names in
    let n : ℕ = 1 + name_length names (xs ++ ys) in
    let named : list_all (is_name_character names) xs ≡ true = weaker is_letter (is_name_character names) (λ b h. (letter names b h).name-character) xs all in
    let run : name_length names (xs ++ ys) ≡ length xs = prefix-all (is_name_character names) xs ys named stop in
    let size : n ≡ suc (length xs) = omega (arith, run) in
    let found : next_part I (at_place s ds k) ≡ Ok (p.Name n) =
    rw (r.left-is) (ap (judged_part I (x ∷ (xs ++ ys)) (at_place s ds k)) (outer-name names (length (advanced k s).places == I.height) x (xs ++ ys) first)) in
    let taken : take n (ahead I (at_place s ds k)) ≡ x ∷ xs = ap (take n) r.left-is ∙ ap (λ (m : ℕ). take m (x ∷ (xs ++ ys))) size ∙ take-front (x ∷ xs) ys in
    record {
      parts = p.Name n ∷ r.parts;
      reads = (r.reads, r.unfinished, ap (next_part I) r.state-is ∙ found);
      unfinished = refl;
      state-is = ap (λ (t : State). after I (ahead I t) (p.Name n) t) r.state-is
          ∙ ap (λ (name : List ℕ). record { reading = reading_with (ds ++ Name name ∷ []); stack = advanced n (advanced k s) }) taken
          ∙ ap (λ (st : Stack). record { reading = reading_with (ds ++ Name (x ∷ xs) ∷ []); stack = st }) (advanced-twice s k n) ∙ ap (λ (m : ℕ). at_place s (ds ++ Name (x ∷ xs) ∷ []) (k + m)) size;
      left-is = left-after I s k (suc (length xs)) ∙ ap (drop (suc (length xs))) r.left-is ∙ drop-front (x ∷ xs) ys;
    }

dso-by : (last : Bool) → last ≡ true → judged_dso last f.Whole false ≡ Ok (p.Sign Dso)
dso-by true h = refl
dso-by false h = clash h

dso-read : (I : Source) (s : Stack) (ds : List Lexeme) (k : ℕ) → StandsAtStart I s → SoRead I s ds k (91 ∷ []) → HasLexemes I s (ds ++ Sign Dso ∷ []) (advanced (k + 1) s)
dso-read I s ds k b r =
    let last : List ℕ = 91 ∷ [] in
    let base : (length (advanced k s).places == I.height) ≡ true = flip I.height (length (advanced k s).places) (in-its-text I s k b) in
    let found : next_part I (at_place s ds k) ≡ Ok (p.Sign Dso) =
    rw (r.left-is) (ap (judged_part I (91 ∷ []) (at_place s ds k)) (outer-dso I.syntax.names (length (advanced k s).places == I.height))
    ∙ dso-by ((length (advanced k s).places == I.height) && (length last == 1)) (and (length (advanced k s).places == I.height) (length last == 1) base refl)) in
    record {
      parts = p.Sign Dso ∷ r.parts;
      reads = (r.reads, r.unfinished, ap (next_part I) r.state-is ∙ found);
      whole = refl;
      lexemes_are = ap (λ (t : State). (after I (ahead I t) (p.Sign Dso) t).reading.lexemes) (sym r.state-is);
      stack_is = sym (advanced-twice s k 1) ∙ ap (λ (t : State). (after I (ahead I t) (p.Sign Dso) t).stack) (sym r.state-is);
    }

-- WHERE READING BEGINS
started : (I : Source) (s : Stack) → I.construct ≡ SectionStart → start I s ≡ at_place s [] 3
started I s is =
    ap (λ (c : Construct). record { reading = begun c (length (advanced (before c) s).places) (nothing_read (first_form c (begins_name I.syntax.names (unread I (advanced (before c) s).places)))); stack = advanced (before c) s }) is

stops-at : (p : ℕ → Bool) → ((b : ℕ) → is_separator b ≡ true → p b ≡ false) → p 91 ≡ false → (space : List ℕ) → are_separators space ≡ true → Stops p (space ++ 91 ∷ [])
stops-at p h e [] all = e
stops-at p h e (b ∷ space) all = h b (both (is_separator b) (list_all is_separator space) all).0

read-plainly : (I : Source) (s : Stack) (gap word space bytes : List ℕ) → StandsAtStart I s → I.construct ≡ SectionStart → unread I s.places ≡ bytes → drop 3 bytes ≡ gap ++ (word ++ (space ++ 91 ∷ []))
    → are_separators gap ≡ true → are_letters word ≡ true → 0 < length word → are_separators space ≡ true
    → HasLexemes I s (one_keyword word) (advanced (3 + length gap + length word + length space + 1) s)
read-plainly I s gap [] space bytes b is left_is after_is g w some sp = absurd (omega (arith, some))
read-plainly I s gap (x ∷ xs) space bytes b is left_is after_is g w some sp =
    let names = I.syntax.names in
    let h = both (is_letter x) (list_all is_letter xs) w in
    let begun_ : SoRead I s [] 3 (gap ++ ((x ∷ xs) ++ (space ++ 91 ∷ []))) = record {
      parts = [];
      reads = tt;
      unfinished = refl;
      state-is = started I s is;
      left-is = left-after I s 0 3 ∙ ap (drop 3) (unmoved I s.places ∙ left_is) ∙ after_is;
    } in
    let gone = gap-read I s [] 3 gap ((x ∷ xs) ++ (space ++ 91 ∷ [])) g ((letter names x h.0).no-separator) begun_ in
    let named = word-read I s [] (3 + length gap) x xs (space ++ 91 ∷ []) h.0 h.1
    (stops-at (is_name_character names) (λ b h. (separator names b h).no-name-character) (no-name names 91 refl refl refl refl refl refl) space sp) gone in
    let spaced = gap-read I s (Name (x ∷ xs) ∷ []) (3 + length gap + length (x ∷ xs)) space (91 ∷ []) sp refl named in
    dso-read I s (Name (x ∷ xs) ∷ []) (3 + length gap + length (x ∷ xs) + length space) b spaced

-- THE ANSWER
begun-bytes : (bytes : List ℕ) → is_begun SectionStart bytes ≡ true → bytes ≡ 60 ∷ 33 ∷ 91 ∷ drop 3 bytes
begun-bytes [] h = clash h
begun-bytes (a ∷ []) h = clash h
begun-bytes (a ∷ b ∷ []) h = clash h
begun-bytes (a ∷ b ∷ c ∷ bytes) h =
    let two = both ((a == 60) && (b == 33)) (c == 91) h in
    let one = both (a == 60) (b == 33) two.0 in
    ap (λ (x : ℕ). x ∷ b ∷ c ∷ bytes) (eqb-true a 60 one.0) ∙ ap (λ (x : ℕ). 60 ∷ x ∷ c ∷ bytes) (eqb-true b 33 one.1) ∙ ap (λ (x : ℕ). 60 ∷ 33 ∷ x ∷ bytes) (eqb-true c 91 two.1)

three-more : (m : ℕ) (ys : List ℕ) → take (3 + m) (60 ∷ 33 ∷ 91 ∷ ys) ≡ 60 ∷ 33 ∷ 91 ∷ take m ys
three-more m ys = let same : suc (suc (suc m)) ≡ 3 + m = omega arith in subst (λ (n : ℕ). take n (60 ∷ 33 ∷ 91 ∷ ys) ≡ 60 ∷ 33 ∷ 91 ∷ take m ys) same refl

together : (gap word space ys : List ℕ) → gap ++ (word ++ (space ++ ys)) ≡ (gap ++ (word ++ space)) ++ ys
together gap word space ys = ap (λ (zs : List ℕ). gap ++ zs) (sym (append_assoc word space ys)) ∙ sym (append_assoc gap (word ++ space) ys)

all-quiet : (gap word space : List ℕ) → are_separators gap ≡ true → are_letters word ≡ true → are_separators space ≡ true → list_all quiet (gap ++ (word ++ space)) ≡ true
all-quiet gap word space g w sp =
    all-append quiet gap (word ++ space) (weaker is_separator quiet separators-are gap g)
    (all-append quiet word space (weaker is_letter quiet letters-are word w) (weaker is_separator quiet separators-are space sp))
  where
    separators-are : (b : ℕ) → is_separator b ≡ true → quiet b ≡ true
    separators-are b h = rw h refl

    second : (t u : Bool) → u ≡ true → (t || u) ≡ true
    second true u h = refl
    second false u h = h

    letters-are : (b : ℕ) → is_letter b ≡ true → quiet b ≡ true
    letters-are b h = second (is_separator b) (is_letter b) h

found-end : (q : Asked) (gap word space more : List ℕ) → q.construct ≡ SectionStart → drop 3 (rest q) ≡ gap ++ (word ++ (space ++ (91 ∷ more)))
    → are_separators gap ≡ true → are_letters word ≡ true → are_separators space ≡ true
    → construct_end q.syntax.names q.construct (rest q) ≡ Some (3 + (length (gap ++ (word ++ space)) + 1))
found-end q gap word space more is after_is g w sp =
    let xs = gap ++ (word ++ space) in
    ap (λ (c : Construct). construct_end q.syntax.names c (rest q)) is
    ∙ ap (λ (ys : List ℕ). later 3 (end_after q.syntax.names ender.Dso inside.Between ys)) (after_is ∙ together gap word space (91 ∷ more))
    ∙ ap (later 3) (end-at q.syntax.names inside.Between xs more refl (all-quiet gap word space g w sp))

pub plain_starts : PlainStarts
plain_starts q gap word space more is begun after_is g w some sp =
    let xs : List ℕ = gap ++ (word ++ space) in
    let m : ℕ = length xs + 1 in
    let n : ℕ = 3 + m in
    let at : ℕ = offset_of q.stack.places in
    let begins : is_begun SectionStart (rest q) ≡ true = ap (λ (c : Construct). is_begun c (rest q)) (sym is) ∙ begun-by q.construct q.entities q.texts q.stack.places begun in
    let found : construct_end q.syntax.names q.construct (rest q) ≡ Some n = found-end q gap word space more is after_is g w sp in
    let quiets : list_all quiet xs ≡ true = all-quiet gap word space g w sp in
    let part : take n (rest q) ≡ 60 ∷ 33 ∷ 91 ∷ (xs ++ 91 ∷ []) =
    ap (take n) (begun-bytes (rest q) begins) ∙ three-more m (drop 3 (rest q))
    ∙ ap (λ (ys : List ℕ). 60 ∷ 33 ∷ 91 ∷ take m ys) (after_is ∙ together gap word space (91 ∷ more)) ∙ ap (λ (ys : List ℕ). 60 ∷ 33 ∷ 91 ∷ ys) (front xs 91 more) in
    let sgml : all_sgml (take n (rest q)) ≡ true = ap all_sgml part ∙ sgml-by xs quiets in
    let whole : own q ≡ Whole (take (at + n) (text q)) =
    ap (own_by q.syntax.names (may_grow q) at (text q)) found ∙ ap (λ (t : Bool). if t then Whole (take (at + n) (text q)) else Bad reason.NonSgml) sgml in
    let o : List ℕ = take (at + n) (text q) in
    let b = begins-of q o begun whole in
    let unread_is : unread (source q o) q.stack.places ≡ 60 ∷ 33 ∷ 91 ∷ (xs ++ 91 ∷ []) = own-unread q o q.stack.places refl b.some ∙ drop-take at n (text q) ∙ part in
    subst (λ (w : Own). AnswersBy q w (Ok (one_keyword word)) (advanced (3 + length gap + length word + length space + 1) q.stack)) (sym whole)
    (read-plainly (source q o) q.stack gap word space (60 ∷ 33 ∷ 91 ∷ (xs ++ 91 ∷ [])) b is unread_is (sym (together gap word space (91 ∷ []))) g w some sp)

moved-on : (n : ℕ) (ps : List Place) → moved n ps ≡ moved_to (offset_of ps + n) ps
moved-on n [] = refl
moved-on n (p ∷ ps) = refl

-- and the stack stands after it
pub starts-after : (q : Asked) (gap word space more : List ℕ) → q.construct ≡ SectionStart → drop 3 (rest q) ≡ gap ++ (word ++ (space ++ (91 ∷ more)))
    → are_separators gap ≡ true → are_letters word ≡ true → are_separators space ≡ true
    → moved (3 + length gap + length word + length space + 1) q.stack.places ≡ moved_to (end_offset q) q.stack.places
starts-after q gap word space more is after_is g w sp =
    let outer : length (gap ++ (word ++ space)) ≡ length gap + length (word ++ space) = length-append gap (word ++ space) in
    let inner : length (word ++ space) ≡ length word + length space = length-append word space in
    let size : 3 + length gap + length word + length space + 1 ≡ 3 + (length (gap ++ (word ++ space)) + 1) = omega (arith, outer, inner) in
    moved-on (3 + length gap + length word + length space + 1) q.stack.places
    ∙ ap (λ (n : ℕ). moved_to (offset_of q.stack.places + n) q.stack.places) size
    ∙ ap (λ (n : ℕ). moved_to n q.stack.places) (sym (ap (end_by (offset_of q.stack.places)) (found-end q gap word space more is after_is g w sp)))

-- WHAT THE CODE FINDS
pub plain-of : (bytes named spaced : List ℕ) (g n s : ℕ) → g ≡ prefix_len is_separator bytes → named ≡ drop g bytes → n ≡ prefix_len is_letter named → spaced ≡ drop n named
    → s ≡ prefix_len is_separator spaced → 0 < n → begins_with 91 (drop s spaced) ≡ true → IsPlainStart bytes (record { gap = g; word = n; space = s })
plain-of bytes named spaced g n s g_is named_is n_is spaced_is s_is some dso = record {
  gap = ap (λ (k : ℕ). are_separators (take k bytes)) g_is ∙ all-front is_separator bytes;
  some = some;
  word = ap (λ (xs : List ℕ). are_letters (take n xs)) (sym named_is) ∙ ap (λ (k : ℕ). are_letters (take k named)) n_is ∙ all-front is_letter named;
  space = ap (λ (xs : List ℕ). are_separators (take s (drop n xs))) (sym named_is) ∙ ap (λ (xs : List ℕ). are_separators (take s xs)) (sym spaced_is) ∙ ap (λ (k : ℕ). are_separators (take k spaced)) s_is ∙ all-front is_separator spaced;
  dso = ap (λ (xs : List ℕ). begins_with 91 (drop s (drop n xs))) (sym named_is) ∙ ap (λ (xs : List ℕ). begins_with 91 (drop s xs)) (sym spaced_is) ∙ dso;
}

-- its four stretches
pub record Stretches (bytes : List ℕ) (start : PlainStart) : Type 0 where
  pub more : List ℕ
  pub gap : List ℕ
  pub word : List ℕ
  pub space : List ℕ
  pub bytes_are : bytes ≡ gap ++ (word ++ (space ++ (91 ∷ more)))
  pub word_is : word ≡ take start.word (drop start.gap bytes)
  pub gap_size : length gap ≡ start.gap
  pub word_size : length word ≡ start.word
  pub space_size : length space ≡ start.space
  pub gap_are : are_separators gap ≡ true
  pub word_are : are_letters word ≡ true
  pub space_are : are_separators space ≡ true

with-dso : (xs : List ℕ) → begins_with 91 xs ≡ true → xs ≡ 91 ∷ drop 1 xs
with-dso [] h = clash h
with-dso (b ∷ xs) h = ap (λ (x : ℕ). x ∷ xs) (eqb-true b 91 h)

pub stretches : (bytes : List ℕ) (start : PlainStart) → IsPlainStart bytes start → Stretches bytes start
stretches bytes start h =
    let named : List ℕ = drop start.gap bytes in
    let spaced : List ℕ = drop start.word named in
    let ended : List ℕ = drop start.space spaced in
    let end_is : ended ≡ 91 ∷ drop 1 ended = with-dso ended h.dso in
    let end_some : length ended ≡ suc (length (drop 1 ended)) = ap length end_is in
    let one : length named ≡ length bytes - start.gap = length-drop start.gap bytes in
    let two : length spaced ≡ length named - start.word = length-drop start.word named in
    let three : length ended ≡ length spaced - start.space = length-drop start.space spaced in
    record {
      more = drop 1 ended;
      gap = take start.gap bytes;
      word = take start.word named;
      space = take start.space spaced;
      bytes_are = sym (take-append-drop start.gap bytes)
          ∙ ap (λ (ys : List ℕ). take start.gap bytes ++ ys) (sym (take-append-drop start.word named)
          ∙ ap (λ (ys : List ℕ). take start.word named ++ ys) (sym (take-append-drop start.space spaced) ∙ ap (λ (ys : List ℕ). take start.space spaced ++ ys) end_is));
      word_is = refl;
      gap_size = length-take-le start.gap bytes (omega (arith, one, two, three, end_some));
      word_size = length-take-le start.word named (omega (arith, two, three, end_some));
      space_size = length-take-le start.space spaced (omega (arith, three, end_some));
      gap_are = h.gap;
      word_are = h.word;
      space_are = h.space;
    }

same-size : (bytes : List ℕ) (start : PlainStart) (s : Stretches bytes start) → 3 + length s.gap + length s.word + length s.space + 1 ≡ 3 + start.gap + start.word + start.space + 1
same-size bytes start s =
    let g : length s.gap ≡ start.gap = s.gap_size in
    let w : length s.word ≡ start.word = s.word_size in
    let sp : length s.space ≡ start.space = s.space_size in
    omega (arith, g, w, sp)

pub start-read : (q : Asked) (bytes : List ℕ) (start : PlainStart) → q.construct ≡ SectionStart → is_asked q ≡ true → bytes ≡ drop 3 (rest q) → IsPlainStart bytes start
    → Answers q (Ok (one_keyword (take start.word (drop start.gap bytes)))) (advanced (3 + start.gap + start.word + start.space + 1) q.stack)
start-read q bytes start is begun at h =
    let s = stretches bytes start h in
    let w : length s.word ≡ start.word = s.word_size in
    let least : 0 < start.word = h.some in
    let some : 0 < length s.word = omega (arith, w, least) in
    let read = plain_starts q s.gap s.word s.space s.more is begun (sym at ∙ s.bytes_are) s.gap_are s.word_are some s.space_are in
    subst (λ (word : List ℕ). Answers q (Ok (one_keyword word)) (advanced (3 + start.gap + start.word + start.space + 1) q.stack)) s.word_is
    (subst (λ (n : ℕ). Answers q (Ok (one_keyword s.word)) (advanced n q.stack)) (same-size bytes start s) read)

pub start-over : (q : Asked) (bytes : List ℕ) (start : PlainStart) → q.construct ≡ SectionStart → bytes ≡ drop 3 (rest q) → IsPlainStart bytes start
    → moved (3 + start.gap + start.word + start.space + 1) q.stack.places ≡ moved_to (end_offset q) q.stack.places
start-over q bytes start is at h =
    let s = stretches bytes start h in
    ap (λ (n : ℕ). moved n q.stack.places) (sym (same-size bytes start s))
    ∙ starts-after q s.gap s.word s.space s.more is (sym at ∙ s.bytes_are) s.gap_are s.word_are s.space_are
