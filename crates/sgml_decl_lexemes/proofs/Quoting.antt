-- A literal of a tag, as far as it was read: it is open, it is all that is read, and the text in
-- which it began ends with its first quote.
use Rattle.std.proofs.Common.{◌≡◌, ℕ, suc, ◌+◌, ◌-◌, ◌<◌, ◌≤◌, Bool, true, false, List, [], ◌∷◌, ◌++◌, length, drop, take, map, Option, None, Some, Ok, refl, sym, ◌∙◌, ap, subst, if◌then◌else◌, ◌==◌, arith, eq-eqb, eqb-true}
use Rattle.std.proofs.lemmas.List.{length-drop, drop-drop}
use Rattle.sgml_text.specs.declared.place.Place.{Place}
use Rattle.sgml_entity.specs.Entities.{entity_at}
use Rattle.sgml_entity.specs.Stack.{place_at, moved, lower}
use Rattle.sgml_text.specs.declared.unit.Unit.{Unit as AnyUnit}
use Rattle.sgml_text.specs.declared.unit.Unit.TheVariants as unit
use Rattle.sgml_decl_parts.specs.declared.form.LiteralKind.TheVariants as kind
use Rattle.sgml_decl_parts.specs.declared.part.Part.{Part}
use Rattle.sgml_decl_parts.specs.declared.part.Part.TheVariants.{EndQuote, Data, Char, NoChar, Refer, TextEnd}
use Rattle.sgml_decl_parts.specs.declared.part.Opened.{Opened}
use Rattle.sgml_decl_parts.specs.declared.part.Here.{Here}
use Rattle.sgml_decl_parts.specs.declared.ends.Construct.TheVariants.{Literal}
use Rattle.sgml_text.specs.Characters.{is_quote}
use Rattle.sgml_decl_parts.specs.sgml_delim.Ends.{later}
use Rattle.sgml_decl_parts.specs.Ends.{quote_end}
use Rattle.sgml_decl_parts.specs.Forms.{is_in_group}
use Rattle.sgml_decl_parts.specs.Parts.{part_at, Fits}
use Rattle.sgml_decl_parts.proofs.Quotes.{free, InLiteral, in_literal, end-drop}
use Rattle.sgml_decl_lexemes.specs.declared.lexeme.Lexeme.{Lexeme}
use Rattle.sgml_decl_lexemes.specs.declared.lexeme.Lexeme.TheVariants.{Value}
use Rattle.sgml_decl_lexemes.specs.declared.fault.Reached.{Reached}
use Rattle.sgml_decl_lexemes.specs.declared.fault.Reached.TheVariants.{Opens, PutsText, PutsData, Fails}
use Rattle.sgml_decl_lexemes.specs.Sources.{Source, top_text, unread, cdata_text}
use Rattle.sgml_decl_lexemes.specs.Readings.{State, Reading, ahead, here, is_its_text, is_value, literal_of, byte_of, read_as, reached_from, referred, with_units, with_bytes, with_data, with_char, without_char, is_literal, closes, after}

-- what is unread of the text in which reading began
abbrev pub base_left : Source → List Place → List ℕ
base_left I [] = []
base_left I (p ∷ ps) = if length (p ∷ ps) == I.height then unread I (p ∷ ps) else base_left I ps

abbrev pub the_literal : Source → ℕ → Opened
the_literal I q = record { quote = q; kind = kind.Value; height = I.height }

pub record IsInside (I : Source) (q : ℕ) (t : State) : Type 0 where
  pub quote_is : is_quote q ≡ true
  pub literal_is : t.reading.literal ≡ Some (the_literal I q)
  pub nothing : t.reading.lexemes ≡ []
  pub ends : quote_end q (base_left I t.stack.places) ≡ Some (length (base_left I t.stack.places))

abbrev here_with : Source → State → Option Opened → Here
here_with I t x = record {
  literal = x;
  in_its_text = is_its_text x (length t.stack.places);
  at_base = length t.stack.places == I.height;
  in_group = is_in_group t.reading.form;
  after_group = t.reading.after_group;
}

-- the part that stands there
pub part-inside : (I : Source) (q : ℕ) (t : State) (p : Part) → IsInside I q t → part_at I.syntax.names I.syntax.general_fold (here I t) (ahead I t) ≡ Ok p
    → InLiteral (I.height == length t.stack.places) q (ahead I t) p
part-inside I q t p h found =
    in_literal I.syntax.names I.syntax.general_fold (here_with I t (Some (the_literal I q))) (the_literal I q) (ahead I t) p h.quote_is
    (subst (λ (x : Option Opened). part_at I.syntax.names I.syntax.general_fold (here_with I t x) (ahead I t) ≡ Ok p) h.literal_is found)

pub flip : (m n : ℕ) → (m == n) ≡ true → (n == m) ≡ true
flip m n is = eq-eqb n m (sym (eqb-true m n is))

-- the text ends with the quote as it did
abbrev Ends : ℕ → List ℕ → Type 0
Ends q xs = quote_end q xs ≡ Some (length xs)

later-some : (k n : ℕ) (o : Option ℕ) → later k o ≡ Some n → o ≡ Some (n - k)
later-some k n None e = cc
later-some k n (Some m) e = let same : k + m ≡ n = cc e in ap Some (omega (arith, same))

ends-drop : (q n : ℕ) (xs : List ℕ) → n ≤ free q xs → Ends q xs → Ends q (drop n xs)
ends-drop q n xs few e =
    later-some n (length xs) (quote_end q (drop n xs)) (end-drop q n (length xs) xs few e) ∙ ap Some (sym (length-drop n xs))

ends-pick : (q n : ℕ) (xs ys : List ℕ) (b : Bool) → (b ≡ true → n ≤ free q xs) → Ends q (if b then xs else ys) → Ends q (if b then drop n xs else ys)
ends-pick q n xs ys true few e = ends-drop q n xs (few refl) e
ends-pick q n xs ys false few e = e

ends-moved : (I : Source) (q n : ℕ) (ps : List Place) → ((length ps == I.height) ≡ true → n ≤ free q (unread I ps)) → Ends q (base_left I ps) → Ends q (base_left I (moved n ps))
ends-moved I q n [] few e = e
ends-moved I q n (p ∷ ps) few e =
    subst (λ (xs : List ℕ). Ends q (if length (p ∷ ps) == I.height then xs else base_left I ps)) (drop-drop n p.at (top_text I (length (p ∷ ps)) p.entity))
    (ends-pick q n (unread I (p ∷ ps)) (base_left I ps) (length (p ∷ ps) == I.height) few e)

not-same : (m n : ℕ) → n < m → (m == n) ≡ false
not-same m n more = by (m == n) refl
  where
    by : (b : Bool) → (m == n) ≡ b → b ≡ false
    by true is = let same : m ≡ n = eqb-true m n is in absurd (omega (arith, more, same))
    by false is = refl

base-opened : (I : Source) (p : Place) (ps : List Place) → (suc (length ps) == I.height) ≡ false → base_left I (p ∷ ps) ≡ base_left I ps
base-opened I p ps is = rw is refl

ends-lower : (I : Source) (q : ℕ) (ps : List Place) → (length ps == I.height) ≡ false → Ends q (base_left I ps) → Ends q (base_left I (lower ps))
ends-lower I q [] is e = e
ends-lower I q (p ∷ ps) is e = subst (Ends q) (base-opened I p ps is) e

moved-size : (n : ℕ) (ps : List Place) → length (moved n ps) ≡ length ps
moved-size n [] = refl
moved-size n (p ∷ ps) = refl

-- what stays of the reading
data-literal : (bs : List ℕ) (r : Reading) (b : Bool) → (if b then with_units (map unit.Byte bs) r else with_bytes bs r).literal ≡ r.literal
data-literal bs r true = refl
data-literal bs r false = refl

data-lexemes : (bs : List ℕ) (r : Reading) (b : Bool) → (if b then with_units (map unit.Byte bs) r else with_bytes bs r).lexemes ≡ r.lexemes
data-lexemes bs r true = refl
data-lexemes bs r false = refl

char-literal : (u : AnyUnit) (r : Reading) (b : Bool) → (if b then with_units (u ∷ []) r else with_bytes (byte_of u) r).literal ≡ r.literal
char-literal u r true = refl
char-literal u r false = refl

char-lexemes : (u : AnyUnit) (r : Reading) (b : Bool) → (if b then with_units (u ∷ []) r else with_bytes (byte_of u) r).lexemes ≡ r.lexemes
char-lexemes u r true = refl
char-lexemes u r false = refl

-- so many bytes more
read-on : (I : Source) (q n : ℕ) (t : State) (r : Reading) → IsInside I q t → r.literal ≡ t.reading.literal → r.lexemes ≡ t.reading.lexemes
    → ((I.height == length t.stack.places) ≡ true → n ≤ free q (ahead I t)) → IsInside I q (read_as r n t)
read-on I q n t r h literal lexemes few = record {
  quote_is = h.quote_is;
  literal_is = literal ∙ h.literal_is;
  nothing = lexemes ∙ h.nothing;
  ends = ends-moved I q n t.stack.places (λ e. few (flip (length t.stack.places) I.height e)) h.ends;
}

refer-on : (I : Source) (q m : ℕ) (t : State) (r : Reached) → IsInside I q t → I.height ≤ length t.stack.places
    → ((I.height == length t.stack.places) ≡ true → m ≤ free q (ahead I t)) → IsInside I q (referred I m t r)
refer-on I q m t (Opens e k) h deep few =
    let on = read-on I q m t t.reading h refl refl few in
    let size : length (moved m t.stack.places) ≡ length t.stack.places = moved-size m t.stack.places in record {
      quote_is = h.quote_is;
      literal_is = h.literal_is;
      nothing = h.nothing;
      ends = subst (Ends q) (sym (base-opened I (place_at e 0) (moved m t.stack.places) (not-same (suc (length (moved m t.stack.places))) I.height (omega (arith, deep, size))))) on.ends;
    }
refer-on I q m t (PutsText n) h deep few =
    read-on I q m t (with_data (cdata_text (entity_at I.entities n)) t.reading) h
    (data-literal (cdata_text (entity_at I.entities n)) t.reading (is_value t.reading.literal)) (data-lexemes (cdata_text (entity_at I.entities n)) t.reading (is_value t.reading.literal)) few
refer-on I q m t (PutsData n) h deep few = read-on I q m t (with_units (unit.Sdata n ∷ []) t.reading) h refl refl few
refer-on I q m t (Fails f) h deep few = h

clash : {A : Type 0} → true ≡ false → A
clash e = absurd (never e)
  where
    never : true ≡ false → ⊥
    never e = cc

-- a part that isn't the end leaves it so
pub stays-inside : (I : Source) (q : ℕ) (t : State) (p : Part) → I.construct ≡ Literal q → IsInside I q t → I.height ≤ length t.stack.places
    → InLiteral (I.height == length t.stack.places) q (ahead I t) p → Fits (length t.stack.places == I.height) (ahead I t) p → closes I.construct p ≡ false
    → IsInside I q (after I (ahead I t) p t)
stays-inside I q t (Data n) is h deep at f other =
    read-on I q n t (with_data (take n (ahead I t)) t.reading) h (data-literal (take n (ahead I t)) t.reading (is_value t.reading.literal)) (data-lexemes (take n (ahead I t)) t.reading (is_value t.reading.literal)) at
stays-inside I q t (Char n u) is h deep at f other =
    read-on I q n t (with_char u t.reading) h (char-literal u t.reading (is_value t.reading.literal)) (char-lexemes u t.reading (is_value t.reading.literal)) at
stays-inside I q t (NoChar n) is h deep at f other = read-on I q n t (without_char t.reading) h refl refl at
stays-inside I q t (Refer n m) is h deep at f other = refer-on I q m t (reached_from I (ahead I t) t n) h deep at
stays-inside I q t TextEnd is h deep at f other = record {
  quote_is = h.quote_is;
  literal_is = h.literal_is;
  nothing = h.nothing;
  ends = ends-lower I q t.stack.places f h.ends;
}
stays-inside I q t EndQuote is h deep at f other = clash (sym (ap is_literal is) ∙ other)
stays-inside I q t _ is h deep at f other = absurd at

-- THE END: the last byte of the text in which it began, and one lexeme
pub record IsLast (I : Source) (t : State) (p : Part) : Type 0 where
  pub part_is : p ≡ EndQuote
  pub at_base : (length t.stack.places == I.height) ≡ true
  pub one : length (ahead I t) ≡ 1

some-number : (m n : ℕ) → Some m ≡ Some n → m ≡ n
some-number m n e = cc

at-base : (I : Source) (ps : List Place) → (length ps == I.height) ≡ true → 0 < length ps → base_left I ps ≡ unread I ps
at-base I [] is some = absurd (omega (arith, some))
at-base I (p ∷ ps) is some = rw is refl

pub last-quote : (I : Source) (q : ℕ) (t : State) (p : Part) → I.construct ≡ Literal q → IsInside I q t → 0 < length t.stack.places
    → InLiteral (I.height == length t.stack.places) q (ahead I t) p → closes I.construct p ≡ true → IsLast I t p
last-quote I q t EndQuote is h some at done =
    let base : (length t.stack.places == I.height) ≡ true = flip I.height (length t.stack.places) at.0 in
    let bytes : base_left I t.stack.places ≡ ahead I t = at-base I t.stack.places base some in
    record { part_is = refl; at_base = base; one = sym (some-number 1 (length (ahead I t)) (sym at.1 ∙ subst (Ends q) bytes h.ends)) }
last-quote I q t (Data n) is h some at done = clash (sym done)
last-quote I q t (Char n u) is h some at done = clash (sym done)
last-quote I q t (NoChar n) is h some at done = clash (sym done)
last-quote I q t (Refer n m) is h some at done = clash (sym done)
last-quote I q t TextEnd is h some at done = clash (sym done)
last-quote I q t _ is h some at done = absurd at

pub one-value : (I : Source) (q : ℕ) (t : State) → IsInside I q t → (after I (ahead I t) EndQuote t).reading.lexemes ≡ Value t.reading.units ∷ []
one-value I q t h =
    ap (λ (ds : List Lexeme). ds ++ literal_of t.reading.literal t.reading.bytes t.reading.units ∷ []) h.nothing
    ∙ ap (λ (o : Option Opened). literal_of o t.reading.bytes t.reading.units ∷ []) h.literal_is
