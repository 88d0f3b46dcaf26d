-- The parts of a tag: a literal stands after its quote, and the name of an attribute isn't empty.
use Rattle.std.proofs.Common.{◌≡◌, ◌<◌, ◌≤◌, ◌+◌, ◌-◌, ◌∷◌, ◌==◌, ◌||◌, ℕ, Bool, true, false, List, [], suc, zero, Option, Some, None, refl, sym, ap, ◌∙◌, subst, arith, length, drop, take, slice_index_or, if◌then◌else◌}
use Rattle.std.proofs.lemmas.List.{length-drop, length-take, get_or-drop, get_or-take}
use Rattle.sgml_text.specs.Characters.{is_separator, is_quote}
use Rattle.sgml_text.specs.NameCharacters.{is_name_character}
use Rattle.sgml_syntax.specs.declared.syntax.Syntax.{Syntax}
use Rattle.sgml_markup.specs.declared.kinds.Part.{Part}
use Rattle.sgml_markup.specs.declared.kinds.PartKind.{PartKind}
use Rattle.sgml_markup.specs.declared.kinds.PartKind.TheVariants as part
use Rattle.sgml_markup.specs.declared.kinds.TagState.{TagState}
use Rattle.sgml_markup.specs.declared.kinds.TagState.TheVariants.{ElementName, Closing, Ready, Word, AfterWord, Value, Bare, Literal, Failed}
use Rattle.sgml_markup.specs.declared.kinds.TagStep.{TagStep}
use Rattle.sgml_markup.specs.Tags.{tag_step, tag_last, goes_to, ends_part, fails, after_name, ends_bare, begins_word, names_attribute, tag_parts, with_part}
pub use Rattle.sgml_starts.specs.SoFar.{IsGood, AreGood}
use Rattle.sgml_markup.specs.Forms.{unclosed, closes, last_byte, begins_tagc, begins_slash, parts_of, parts_of_tag}

abbrev GoodOption : List ℕ → Option Part → Type 0
GoodOption tag None = Unit {0}
GoodOption tag (Some p) = IsGood tag p p.kind

-- what is known where a byte stands
abbrev GoodState : List ℕ → ℕ → TagState → Type 0
GoodState tag at (Word from is_name) = from < at
GoodState tag at (AfterWord from to is_name) = from < to
GoodState tag at (Literal q from) = (0 < from) × (is_quote q ≡ true) × (slice_index_or tag (from - 1) 0 ≡ q)
GoodState tag at _ = Unit {0}

record Good (tag : List ℕ) (at : ℕ) (step : TagStep) : Type 0 where
  next : GoodState tag (at + 1) step.next
  part : GoodOption tag step.part

-- by whether a test holds
good-if : (tag : List ℕ) (at : ℕ) (t : Bool) (x y : TagStep) → (t ≡ true → Good tag at x) → Good tag at y → Good tag at (if t then x else y)
good-if tag at true x y g h = g refl
good-if tag at false x y g h = h

good-fails : (tag : List ℕ) (at : ℕ) → Good tag at fails
good-fails tag at = record { next = tt; part = tt }

good-closing : (tag : List ℕ) (at from : ℕ) (closing : Bool) → Good tag at (ends_part part.ElementName from at (after_name closing))
good-closing tag at from true = record { next = tt; part = tt }
good-closing tag at from false = record { next = tt; part = tt }

good-named : (tag : List ℕ) (at from to : ℕ) (is_name : Bool) → from < to → Good tag at (names_attribute from to is_name)
good-named tag at from to true h = record { next = tt; part = h }
good-named tag at from to false h = good-fails tag at

good-bare : (tag : List ℕ) (s : Syntax) (at from to : ℕ) (next : TagState) → GoodState tag (at + 1) next → Good tag at (ends_bare s from to next)
good-bare tag s at from to next h =
    good-if tag at s.shorttag (ends_part part.Bare from to next) fails (λ e. record { next = h; part = tt }) (good-fails tag at)

step-good : (tag : List ℕ) (s : Syntax) (closing : Bool) (at : ℕ) (state : TagState) (b : ℕ) → GoodState tag at state → slice_index_or tag at 0 ≡ b
    → Good tag at (tag_step s closing at state b)
step-good tag s closing at (ElementName from) b h here =
    good-if tag at (is_name_character s.names b) _ _ (λ e. record { next = tt; part = tt })
    (good-if tag at (is_separator b) _ _ (λ e. good-closing tag at from closing) (good-fails tag at))
step-good tag s closing at Closing b h here =
    good-if tag at (is_separator b) (goes_to Closing) fails (λ e. record { next = tt; part = tt }) (good-fails tag at)
step-good tag s closing at Ready b h here =
    let now : at < at + 1 = omega arith in
    good-if tag at (is_separator b) (goes_to Ready) _ (λ e. record { next = tt; part = tt })
    (good-if tag at (is_name_character s.names b) (goes_to (begins_word s at b)) fails (λ e. record { next = now; part = tt }) (good-fails tag at))
step-good tag s closing at (Word from is_name) b h here =
    let later : from < at + 1 = omega (arith, h) in
    good-if tag at (is_name_character s.names b) (goes_to (Word from is_name)) _ (λ e. record { next = later; part = tt })
    (good-if tag at (is_separator b) (goes_to (AfterWord from at is_name)) _ (λ e. record { next = h; part = tt })
    (good-if tag at (b == 61) (names_attribute from at is_name) fails (λ e. good-named tag at from at is_name h) (good-fails tag at)))
step-good tag s closing at (AfterWord from to is_name) b h here =
    let now : at < at + 1 = omega arith in
    good-if tag at (is_separator b) (goes_to (AfterWord from to is_name)) _ (λ e. record { next = h; part = tt })
    (good-if tag at (b == 61) (names_attribute from to is_name) _ (λ e. good-named tag at from to is_name h)
    (good-if tag at (is_name_character s.names b) (ends_bare s from to (begins_word s at b)) fails
    (λ e. good-bare tag s at from to (begins_word s at b) now) (good-fails tag at)))
step-good tag s closing at Value b h here =
    let some : 0 < at + 1 = omega arith in
    let back : (at + 1) - 1 ≡ at = omega arith in
    good-if tag at (is_separator b) (goes_to Value) _ (λ e. record { next = tt; part = tt })
    (good-if tag at (is_quote b) (goes_to (Literal b (at + 1))) _
    (λ e. record { next = (some, e, ap (λ n. slice_index_or tag n 0) back ∙ here); part = tt })
    (good-if tag at (is_name_character s.names b) (goes_to (Bare at)) fails (λ e. record { next = tt; part = tt }) (good-fails tag at)))
step-good tag s closing at (Bare from) b h here =
    good-if tag at (is_name_character s.names b) (goes_to (Bare from)) _ (λ e. record { next = tt; part = tt })
    (good-if tag at (is_separator b) (ends_bare s from at Ready) fails (λ e. good-bare tag s at from at Ready tt) (good-fails tag at))
step-good tag s closing at (Literal q from) b h here =
    good-if tag at (b == q) (ends_part part.Quoted from at Ready) (goes_to (Literal q from))
    (λ e. record { next = tt; part = (h.0, ap is_quote h.2 ∙ h.1) }) (record { next = h; part = tt })
step-good tag s closing at Failed b h here = good-fails tag at

last-good : (tag : List ℕ) (s : Syntax) (closing : Bool) (at : ℕ) (state : TagState) → GoodState tag at state → Good tag at (tag_last s closing at state)
last-good tag s closing at (ElementName from) h = record { next = tt; part = tt }
last-good tag s closing at Closing h = record { next = tt; part = tt }
last-good tag s closing at Ready h = record { next = tt; part = tt }
last-good tag s closing at (Word from is_name) h = good-bare tag s at from at Ready tt
last-good tag s closing at (AfterWord from to is_name) h = good-bare tag s at from to Ready tt
last-good tag s closing at Value h = good-fails tag at
last-good tag s closing at (Bare from) h = good-bare tag s at from at Ready tt
last-good tag s closing at (Literal q from) h = good-fails tag at
last-good tag s closing at Failed h = good-fails tag at

good-with : (tag : List ℕ) (o : Option Part) (ps : List Part) → GoodOption tag o → AreGood tag ps → AreGood tag (with_part o ps)
good-with tag None ps h g = g
good-with tag (Some p) ps h g = (h, g)

-- these bytes are those of the tag from a place on
abbrev Reads : List ℕ → ℕ → List ℕ → Type 0
Reads tag at bytes = (i : ℕ) → i < length bytes → slice_index_or tag (at + i) 0 ≡ slice_index_or bytes i 0

good-from : (tag : List ℕ) (s : Syntax) (closing : Bool) (at : ℕ) (state : TagState) (bytes : List ℕ) → GoodState tag at state → Reads tag at bytes
    → AreGood tag (tag_parts s closing at state bytes)
good-from tag s closing at state [] h reads = good-with tag (tag_last s closing at state).part [] (last-good tag s closing at state h).part tt
good-from tag s closing at state (b ∷ bytes) h reads =
    let same : at + 0 ≡ at = omega arith in
    let here : slice_index_or tag at 0 ≡ b = ap (λ n. slice_index_or tag n 0) (sym same) ∙ reads 0 (omega arith) in
    let step : Good tag at (tag_step s closing at state b) = step-good tag s closing at state b h here in
    let later : Reads tag (at + 1) bytes = λ i l.
    let along : (at + 1) + i ≡ at + suc i = omega arith in
    ap (λ n. slice_index_or tag n 0) along ∙ reads (suc i) (omega (arith, l)) in
    good-with tag (tag_step s closing at state b).part _ step.part
    (good-from tag s closing (at + 1) (tag_step s closing at state b).next bytes step.next later)

unclosed-reads : (tag : List ℕ) (i : ℕ) (t : Bool) → i < length (if t then take (length tag - 1) tag else tag)
    → slice_index_or (if t then take (length tag - 1) tag else tag) i 0 ≡ slice_index_or tag i 0
unclosed-reads tag i true l = get_or-take (length tag - 1) tag i 0 (omega (arith, l, length-take (length tag - 1) tag))
unclosed-reads tag i false l = refl

good-parts : (tag : List ℕ) (s : Syntax) (closing : Bool) (start : ℕ) → AreGood tag (parts_of s closing start tag)
good-parts tag s closing start =
    good-from tag s closing start (ElementName start) (drop start (unclosed tag)) tt
    (λ i l. sym (unclosed-reads tag (start + i) (closes (last_byte tag)) (omega (arith, l, length-drop start (unclosed tag)))) ∙ sym (get_or-drop start (unclosed tag) i 0))

good-if-not : (tag : List ℕ) (t : Bool) (ps : List Part) → AreGood tag ps → AreGood tag (if t then [] else ps)
good-if-not tag true ps h = tt
good-if-not tag false ps h = h

good-either : (tag : List ℕ) (t : Bool) (ps qs : List Part) → AreGood tag ps → AreGood tag qs → AreGood tag (if t then ps else qs)
good-either tag true ps qs h g = h
good-either tag false ps qs h g = g

-- those of any tag are so
pub parts-good : (tag : List ℕ) (s : Syntax) → AreGood tag (parts_of_tag s tag)
parts-good [] s = tt
parts-good (first ∷ rest) s =
    good-if-not (first ∷ rest) (begins_tagc rest) _
    (good-either (first ∷ rest) (begins_slash rest) _ _
    (good-if-not (first ∷ rest) (begins_tagc (drop 1 rest)) _ (good-parts (first ∷ rest) s true 2))
    (good-parts (first ∷ rest) s false 1))
