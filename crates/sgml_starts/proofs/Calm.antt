-- Values that are what stands in the tag.
use Rattle.std.proofs.Common.{◌≡◌, ◌<◌, ◌≤◌, ◌+◌, ◌-◌, ◌∷◌, ◌++◌, ◌&&◌, ◌⊎◌, inl, ℕ, zero, suc, Bool, true, false, List, [], Option, Some, None, Result, Ok, Err, refl, sym, ap, ◌∙◌, subst, arith, length, take, drop, nat_lt, slice_index_or, if◌then◌else◌}
use Rattle.std.specs.Prelude.{slice_get}
use Rattle.std.specs.List.{list_all}
use Rattle.std.proofs.lemmas.List.{drop-drop, length-map}
use Rattle.sgml_text.specs.Units.{characters}
use Rattle.sgml_text.specs.declared.place.Place.{Place}
use Rattle.sgml_text.specs.declared.unit.Unit.{Unit as AnyUnit}
use Rattle.sgml_text.specs.declared.unit.Unit.TheVariants.{Byte}
use Rattle.sgml_text.specs.Characters.{is_quote}
use Rattle.sgml_entity.specs.Stack.{Stack, moved, moved_to, offset_of}
use Rattle.sgml_syntax.specs.declared.syntax.Syntax.{Syntax}
use Rattle.sgml_entity.specs.Entities.{Tables}
use Rattle.sgml_attr.specs.declared.definition.Declared.{Declared}
use Rattle.sgml_attr.specs.declared.definition.Declared.TheVariants as declared
use Rattle.sgml_attr.specs.declared.definition.Default.{Default}
use Rattle.sgml_attr.specs.declared.definition.Definition.{Definition}
use Rattle.sgml_attr.specs.declared.value.AttrValue.{AttrValue}
use Rattle.sgml_attr.specs.declared.value.AttrValue.TheVariants as values
use Rattle.sgml_attr.specs.Literal.{interpreted, is_behind}
use Rattle.sgml_attr.specs.Values.{value, units_give}
use Rattle.sgml_attr.proofs.Plain.{plain-same}
use Rattle.sgml_markup.specs.declared.kinds.Part.{Part}
use Rattle.sgml_markup.specs.declared.kinds.PartKind.TheVariants as part
use Rattle.sgml_markup.specs.declared.kinds.TagState.{TagState}
use Rattle.sgml_markup.specs.declared.kinds.TagState.TheVariants.{Ready, Value as InValue}
use Rattle.sgml_markup.specs.declared.walk.TagWalk.{TagWalk}
use Rattle.sgml_markup.specs.Forms.{unclosed, parts_of_tag}
use Rattle.sgml_markup.specs.Tags.{bytes_of, tag_parts, HasSameParts}
use Rattle.sgml_markup.specs.Walks.{part_at, parts_left, BeginsAt, HasName, HasBare, HasLiteral}
use Rattle.sgml_decl_lexemes.specs.decl_parts.declared.ends.Construct.TheVariants.{Literal}
use Rattle.sgml_decl_lexemes.specs.declared.lexeme.Lexeme.TheVariants.{Value}
use Rattle.sgml_decl_lexemes.specs.Sources.{text_at, or_empty}
use Rattle.sgml_decl_lexemes.specs.Readings.{entity_of, advanced}
use Rattle.sgml_decl_lexemes.specs.Declares.{Asked, asked, is_plain}
use Rattle.sgml_decl_lexemes.specs.Declares as declares
use Rattle.sgml_decl_lexemes.proofs.Plainly.{plain_literals}
use Rattle.sgml_starts.specs.Plain.{is_fixed, IsPlainValue, IsCalmValue}
use Rattle.sgml_starts.specs.Specified.{Input, rest}
use Rattle.sgml_starts.specs.Read.{StandsAlike}
use Rattle.sgml_starts.specs.Values.{Start}
use Rattle.sgml_starts.specs.Taken.{IsPlainLiteral, TakesNamed, spec_in, input_in}
use Rattle.sgml_starts.specs.SoFar.{AreSoFar, IsFilledOn, ready_at, value_at, FillsValue, FillsOn, BeginsFilled}
use Rattle.sgml_starts.specs.declared.filling.Filled.{Filled}
use Rattle.sgml_starts.proofs.Judged.{judged-so}
use Rattle.sgml_starts.proofs.Plain.{unfixed, not-long, left-of, right-of}
use Rattle.sgml_starts.proofs.Literals.{literal-is, moved-again, moved-some, begun-at}
use Rattle.sgml_starts.proofs.Walked.{asked_at, quote_of}
use Rattle.sgml_starts.proofs.SoFar.{bare-so-far, quoted-so-far, name-so-far, element-so-far, none-so-far, begun-so-far}

-- THE VALUE

-- it is read as it stands, and no row holds
pub within-litlen : (s : Syntax) (bytes : List ℕ) (n : ℕ) → length bytes ≤ s.quantities.litlen → n ≤ length bytes → nat_lt s.quantities.litlen n ≡ false
within-litlen s bytes n short few = not-long s.quantities.litlen n (omega (arith, short, few))

pub calm-value : (s : Syntax) (x : Definition) (bytes : List ℕ) (v : AttrValue) → length bytes ≤ s.quantities.litlen
    → interpreted x.declared (characters bytes) ≡ characters bytes → IsPlainValue s x bytes v → IsCalmValue s x bytes v
calm-value s x bytes v short same is = λ t.
    let within : nat_lt s.quantities.litlen (length (characters bytes)) ≡ false =
    within-litlen s bytes (length (characters bytes)) short (omega (arith, length-map bytes (λ b. Byte b))) in
    let j = judged-so s x t false (interpreted x.declared (characters bytes)) (characters bytes) false (Ok v) (Ok v) same (sym within) (sym (is t)) refl in
    (j.none, ap (λ (u : List AnyUnit). value s x t None (Some u)) same ∙ is t)

pub all-behind : (bytes : List ℕ) → list_all (nat_lt 31) bytes ≡ true → list_all (is_behind 31) (characters bytes) ≡ true
all-behind [] e = refl
all-behind (b ∷ bytes) e =
    rw (left-of (nat_lt 31 b) (list_all (nat_lt 31) bytes) e, all-behind bytes (right-of (nat_lt 31 b) (list_all (nat_lt 31) bytes) e)) refl

-- character data
pub data-same : (d : Declared) (bytes : List ℕ) → d ≡ declared.Cdata → list_all (nat_lt 31) bytes ≡ true → interpreted d (characters bytes) ≡ characters bytes
data-same d bytes is e =
    ap (λ (z : Declared). interpreted z (characters bytes)) is ∙ plain-same declared.Cdata (characters bytes) (all-behind bytes e)

pub data-is : (s : Syntax) (x : Definition) (bytes : List ℕ) → x.declared ≡ declared.Cdata → is_fixed x.default ≡ false → IsPlainValue s x bytes (values.Cdata (characters bytes))
data-is s x bytes is free = λ t.
    ap (λ (d : Declared). value s (record x { declared = d }) t None (Some (characters bytes))) is
    ∙ ap (λ (o : Option (List AnyUnit)). units_give s declared.Cdata t o (characters bytes)) (unfixed x.default free)

-- THE LITERAL in the text

zero-front : (R : List ℕ) (n to q : ℕ) → slice_get (take n R) to ≡ Some q → R ≡ take to (take n R) ++ (q ∷ drop (suc to) R)
zero-front [] zero to q e = absurd (cc e)
zero-front [] (suc n) to q e = absurd (cc e)
zero-front (x ∷ R) zero to q e = absurd (cc e)
zero-front (x ∷ R) (suc n) zero q e = ap (λ (y : ℕ). y ∷ R) (same x q e)
  where
    same : (a b : ℕ) → Some a ≡ Some b → a ≡ b
    same a b h = cc h
zero-front (x ∷ R) (suc n) (suc to) q e = ap (λ (l : List ℕ). x ∷ l) (zero-front R n to q e)

front : (R : List ℕ) (n from to q : ℕ) → from ≤ to → slice_get (take n R) to ≡ Some q
    → drop from R ≡ take (to - from) (drop from (take n R)) ++ (q ∷ drop (suc to) R)
front R n zero to q l e =
    let all : to ≡ to - 0 = omega arith in
    zero-front R n to q e ∙ ap (λ (m : ℕ). take m (take n R) ++ (q ∷ drop (suc to) R)) all
front [] zero (suc from) to q l e = absurd (cc e)
front [] (suc n) (suc from) to q l e = absurd (cc e)
front (x ∷ R) zero (suc from) to q l e = absurd (cc e)
front (x ∷ R) (suc n) (suc from) zero q l e = absurd (omega (arith, l))
front (x ∷ R) (suc n) (suc from) (suc to) q l e =
    let less : to - from ≡ suc to - suc from = omega arith in
    front R n from to q (omega (arith, l)) e ∙ ap (λ (m : ℕ). take m (drop from (take n R)) ++ (q ∷ drop (suc to) R)) less

entity-moved : (x : ℕ) (ps : List Place) → entity_of (moved_to x ps) ≡ entity_of ps
entity-moved x [] = refl
entity-moved x (p ∷ ps) = refl

offset-moved : (x : ℕ) (ps : List Place) → 0 < length ps → offset_of (moved_to x ps) ≡ x
offset-moved x [] some = absurd (omega (arith, some))
offset-moved x (p ∷ ps) some = refl

passed : (x n m : ℕ) (ps : List Place) → moved_to x (moved n (moved_to m ps)) ≡ moved_to x ps
passed x n m [] = refl
passed x n m (p ∷ ps) = refl

-- what is left behind the literal's quote
module _ (S : Start) (texts : List (ℕ × List ℕ)) (stack t : Stack) (tag : List ℕ) (p : Part) (some : 0 < length t.places) (a : StandsAlike stack t)
    (text : tag ≡ take (length tag) (rest (input_in S texts stack))) (within : p.from ≤ p.to) where
  abbrev pub there : Stack
  there = record t { places = moved_to (offset_of stack.places + p.from) t.places }

  abbrev pub asking : Asked
  asking = asked (Literal (quote_of tag p)) S.syntax S.tables texts there true

  entity-same : entity_of there.places ≡ entity_of stack.places
  entity-same =
      entity-moved (offset_of stack.places + p.from) t.places ∙ sym (entity-moved 0 t.places) ∙ ap entity_of (a.places 0) ∙ entity-moved 0 stack.places

  left-is : declares.rest asking ≡ drop p.from (rest (input_in S texts stack))
  left-is =
      ap (λ (n : ℕ). drop n (or_empty (text_at S.tables.entities texts (entity_of there.places)))) (offset-moved (offset_of stack.places + p.from) t.places some)
      ∙ ap (λ (n : ℕ). drop (offset_of stack.places + p.from) (or_empty (text_at S.tables.entities texts n))) entity-same
      ∙ sym (drop-drop p.from (offset_of stack.places) (or_empty (text_at S.tables.entities texts (entity_of stack.places))))

  pub calm-answer : IsPlainLiteral tag p → is_quote (quote_of tag p) ≡ true
      → asked_at (input_in S texts stack) tag p t ≡ (Ok (Value (characters (bytes_of tag p)) ∷ []), advanced (length (bytes_of tag p) + 1) there)
  calm-answer h quote =
      let R = rest (input_in S texts stack) in
      let q = quote_of tag p in
      let begun = begun-at q there.places (moved-some (offset_of stack.places + p.from) t.places some) quote in
      let is : declares.rest asking ≡ bytes_of tag p ++ (q ∷ drop (suc p.to) R) =
      left-is ∙ front R (length tag) p.from p.to q within (ap (λ (l : List ℕ). slice_get l p.to) (sym text) ∙ h.ends)
      ∙ ap (λ (l : List ℕ). take (p.to - p.from) (drop p.from l) ++ (q ∷ drop (suc p.to) R)) (sym text) in
      literal-is asking begun (Value (characters (bytes_of tag p)) ∷ []) (advanced (length (bytes_of tag p) + 1) there)
      (plain_literals asking q (bytes_of tag p) (drop (suc p.to) R) refl begun is h.plain)

  pub calm-alike : (n : ℕ) → StandsAlike t (advanced n there)
  calm-alike n = record { levels = refl; expand = refl; places = λ x. passed x n (offset_of stack.places + p.from) t.places }

-- WHAT IS FILLED IN, and the stack needn't be moved

left-of-value : (S : Start) (tag body : List ℕ) (p : Part) (at next behind : ℕ) → body ≡ unclosed tag
    → tag_parts S.syntax false at InValue (drop at body) ≡ p ∷ tag_parts S.syntax false next Ready (drop next body)
    → HasSameParts body next behind
    → tag_parts S.syntax false at InValue (drop at (unclosed tag)) ≡ p ∷ ready_at S tag behind
left-of-value S tag body p at next behind same is over =
    subst (λ (b : List ℕ). tag_parts S.syntax false at InValue (drop at b) ≡ p ∷ tag_parts S.syntax false behind Ready (drop behind b)) same
    (is ∙ ap (λ (ps : List Part). p ∷ ps) (over S.syntax false))

pub fills-bare : (S : Start) (tag body : List ℕ) (name : Part) (at to behind : ℕ) (f g : Filled) → body ≡ unclosed tag → HasBare S.syntax body at to → HasSameParts body to behind
    → TakesNamed S (bytes_of tag name) (take (to - at) (drop at tag)) f g → FillsValue S tag name at f behind g
fills-bare S tag body name at to behind f g same has over taken = λ texts stack t some text h.
    let p = part_at part.Bare at to in
    bare-so-far S (input_in S texts stack) tag (Some name) f t p (ready_at S tag behind)
    (subst (AreSoFar S (input_in S texts stack) tag (Some name) f t) (left-of-value S tag body p at to behind same (has false) over) h)
    g refl (taken (spec_in tag (Some name) (characters (bytes_of tag p))) refl refl)

pub fills-literal : (S : Start) (tag body : List ℕ) (name : Part) (at to behind : ℕ) (f g : Filled) → body ≡ unclosed tag → HasLiteral body at to → HasSameParts body (to + 1) behind → at < to
    → IsPlainLiteral tag (part_at part.Quoted (at + 1) to) → TakesNamed S (bytes_of tag name) (take (to - (at + 1)) (drop (at + 1) tag)) f g → FillsValue S tag name at f behind g
fills-literal S tag body name at to behind f g same has over l plain taken = λ texts stack t some text h.
    let p = part_at part.Quoted (at + 1) to in
    let I = input_in S texts stack in
    let parts = ready_at S tag behind in
    let here : AreSoFar S I tag (Some name) f t (p ∷ parts) =
    subst (AreSoFar S I tag (Some name) f t) (left-of-value S tag body p at (to + 1) behind same (has S.syntax false) over) h in
    let within : at + 1 ≤ to = omega (arith, l) in
    let n = length (bytes_of tag p) + 1 in
    let a = here.reading.alike in
    let after = advanced n (there S texts stack t tag p some a text within) in
    let more = quoted-so-far S I tag (Some name) f t p parts here (characters (bytes_of tag p)) after g refl
    (calm-answer S texts stack t tag p some a text within plain here.reading.good.0.1) (calm-alike S texts stack t tag p some a text within n)
    (taken (spec_in tag (Some name) (characters (bytes_of tag p))) refl refl) in
    record {
      specs = more.specs;
      reading = record { alike = a; good = more.reading.good; is = more.reading.is };
      filled = more.filled;
      none = more.none;
    }

pub fills-on : (S : Start) (tag body : List ℕ) (at sign behind : ℕ) (f g : Filled) → body ≡ unclosed tag → HasName S.syntax body at sign
    → FillsValue S tag (part_at part.AttributeName at sign) (sign + 1) f behind g → FillsOn S tag at f behind g
fills-on S tag body at sign behind f g same has fills = λ texts stack t some text h.
    let p = part_at part.AttributeName at sign in
    let value = tag_parts S.syntax false (sign + 1) InValue (drop (sign + 1) (unclosed tag)) in
    let left : ready_at S tag at ≡ p ∷ value =
    subst (λ (b : List ℕ). tag_parts S.syntax false at Ready (drop at b) ≡ p ∷ tag_parts S.syntax false (sign + 1) InValue (drop (sign + 1) b)) same (has false) in
    fills texts stack t some text
    (name-so-far S (input_in S texts stack) tag None f t p value (subst (AreSoFar S (input_in S texts stack) tag None f t) left h) refl)

pub fills-nothing : (S : Start) (tag : List ℕ) (at : ℕ) (f : Filled) → FillsOn S tag at f at f
fills-nothing S tag at f = λ texts stack t some text h. h

pub fills-more : (S : Start) (tag : List ℕ) (from at behind : ℕ) (f g k : Filled) → FillsOn S tag from f at g → FillsOn S tag at g behind k → FillsOn S tag from f behind k
fills-more S tag from at behind f g k first next = λ texts stack t some text h. next texts stack t some text (first texts stack t some text h)

-- fewer parts are left
one-fewer : (ps qs : List Part) (p : Part) → ps ≡ p ∷ qs → length qs ≤ length ps
one-fewer ps qs p e =
    let same : length ps ≡ suc (length qs) = ap (λ (l : List Part). length l) e in
    omega (arith, same)

pub fewer-bare : (S : Start) (tag body : List ℕ) (at to behind : ℕ) → body ≡ unclosed tag → HasBare S.syntax body at to → HasSameParts body to behind
    → length (ready_at S tag behind) ≤ length (value_at S tag at)
fewer-bare S tag body at to behind same has over =
    one-fewer (value_at S tag at) (ready_at S tag behind) (part_at part.Bare at to) (left-of-value S tag body (part_at part.Bare at to) at to behind same (has false) over)

pub fewer-literal : (S : Start) (tag body : List ℕ) (at to behind : ℕ) → body ≡ unclosed tag → HasLiteral body at to → HasSameParts body (to + 1) behind
    → length (ready_at S tag behind) ≤ length (value_at S tag at)
fewer-literal S tag body at to behind same has over =
    one-fewer (value_at S tag at) (ready_at S tag behind) (part_at part.Quoted (at + 1) to)
    (left-of-value S tag body (part_at part.Quoted (at + 1) to) at (to + 1) behind same (has S.syntax false) over)

pub fewer-on : (S : Start) (tag body : List ℕ) (at sign behind : ℕ) → body ≡ unclosed tag → HasName S.syntax body at sign
    → length (ready_at S tag behind) ≤ length (value_at S tag (sign + 1)) → length (ready_at S tag behind) ≤ length (ready_at S tag at)
fewer-on S tag body at sign behind same has less =
    let one : length (value_at S tag (sign + 1)) ≤ length (ready_at S tag at) =
    one-fewer (ready_at S tag at) (value_at S tag (sign + 1)) (part_at part.AttributeName at sign)
    (subst (λ (b : List ℕ). tag_parts S.syntax false at Ready (drop at b) ≡ part_at part.AttributeName at sign ∷ tag_parts S.syntax false (sign + 1) InValue (drop (sign + 1) b)) same (has false)) in
    omega (arith, less, one)

-- where a walk that stands before a specification goes on
pub left-ready : (S : Start) (tag : List ℕ) (w : TagWalk) → w.state ≡ Ready → w.ended ≡ false → w.closing ≡ false → parts_left S.syntax tag w ≡ ready_at S tag w.at
left-ready S tag w state on opens =
    ap (λ (t : Bool). if t then [] else tag_parts S.syntax w.closing w.at w.state (drop w.at (unclosed tag))) on
    ∙ ap (λ (t : Bool). tag_parts S.syntax t w.at w.state (drop w.at (unclosed tag))) opens
    ∙ ap (λ (x : TagState). tag_parts S.syntax false w.at x (drop w.at (unclosed tag))) state

pub resumes : (S : Start) (tag : List ℕ) (f g : Filled) (w v : TagWalk) (behind : ℕ) → parts_left S.syntax tag w ≡ ready_at S tag w.at → parts_left S.syntax tag v ≡ ready_at S tag behind
    → FillsOn S tag w.at f behind g → IsFilledOn S tag None (parts_left S.syntax tag w) f (parts_left S.syntax tag v) g
resumes S tag f g w v behind before after fills = λ texts stack t some text h.
    let I = input_in S texts stack in
    subst (AreSoFar S I tag None g t) (sym after) (fills texts stack t some text (subst (AreSoFar S I tag None f t) before h))

pub resumes-fewer : (S : Start) (tag : List ℕ) (w v : TagWalk) (behind : ℕ) → parts_left S.syntax tag w ≡ ready_at S tag w.at → parts_left S.syntax tag v ≡ ready_at S tag behind
    → length (ready_at S tag behind) ≤ length (ready_at S tag w.at) → length (parts_left S.syntax tag v) ≤ length (parts_left S.syntax tag w)
resumes-fewer S tag w v behind before after less =
    let a : length (parts_left S.syntax tag w) ≡ length (ready_at S tag w.at) = ap (λ (l : List Part). length l) before in
    let b : length (parts_left S.syntax tag v) ≡ length (ready_at S tag behind) = ap (λ (l : List Part). length l) after in
    omega (arith, less, a, b)

-- where a walk begins

pub begins-first : (S : Start) (tag : List ℕ) (f : Filled) (w : TagWalk) → parts_left S.syntax tag w ≡ parts_of_tag S.syntax tag → BeginsFilled S tag f f w
begins-first S tag f w is = λ h texts stack some text. begun-so-far S (input_in S texts stack) tag f w refl (inl is) h

pub begins-behind : (S : Start) (tag : List ℕ) (f g : Filled) (from behind : ℕ) (w : TagWalk) → BeginsAt S.syntax tag from → FillsOn S tag from f behind g
    → parts_left S.syntax tag w ≡ ready_at S tag behind → BeginsFilled S tag f g w
begins-behind S tag f g from behind w b fills is = λ h texts stack some text.
    let I = input_in S texts stack in
    subst (AreSoFar S I tag None g stack) (sym is)
    (fills texts stack stack some text
    (element-so-far S I tag None f stack b.name (ready_at S tag from) (none-so-far S I tag f (b.name ∷ ready_at S tag from) (sym b.is) h) b.named))

-- nothing is left
pub ended-none : (s : Syntax) (tag : List ℕ) (w : TagWalk) → w.ended ≡ true → parts_left s tag w ≡ []
ended-none s tag w e = ap (λ (t : Bool). if t then [] else tag_parts s w.closing w.at w.state (drop w.at (unclosed tag))) e

-- THE TAG stands in the text
pub taken-again : (n : ℕ) (xs : List ℕ) → take n xs ≡ take (length (take n xs)) xs
taken-again zero xs = refl
taken-again (suc n) [] = refl
taken-again (suc n) (x ∷ xs) = ap (λ (l : List ℕ). x ∷ l) (taken-again n xs)
