-- What one part more does to the stack of texts.
use Rattle.std.proofs.Common.{◌≡◌, ℕ, suc, ◌+◌, ◌-◌, ◌<◌, ◌≤◌, Bool, true, false, List, [], ◌∷◌, ◌++◌, length, drop, take, None, Some, Ok, Err, refl, sym, ◌∙◌, ap, subst, if◌then◌else◌, ◌==◌, nat_lt, arith, eq-eqb, eqb-true, rules, tests}
use Rattle.std.proofs.lemmas.List.{length-drop, length-append}
use Rattle.sgml_text.specs.declared.place.Place.{Place}
use Rattle.sgml_entity.specs.declared.places.StackRefused.TheVariants as refused
use Rattle.sgml_entity.specs.Entities.{entity_at}
use Rattle.sgml_entity.specs.Stack.{Stack, place_at, moved, moved_to, lower, offset_of, opened, refusal, refusal_by, is_on}
use Rattle.sgml_decl_parts.specs.declared.part.Part.{Part}
use Rattle.sgml_decl_parts.specs.declared.part.Part.TheVariants.{Gap, Name, Token, Reserved, Sign, Quote, EndQuote, Data, Char, NoChar, Refer, TextEnd, Closing}
use Rattle.sgml_decl_parts.specs.Parts.{size_of, Fits}
use Rattle.sgml_decl_lexemes.specs.declared.fault.Reached.{Reached}
use Rattle.sgml_decl_lexemes.specs.declared.fault.Reached.TheVariants.{Opens, PutsText, PutsData, Fails}
use Rattle.sgml_decl_lexemes.specs.Sources.{Source, top_text, unread, text_at, or_empty, reached}
use Rattle.sgml_decl_lexemes.specs.Readings.{entity_of, Stands, OnTop, State, Reading, ahead, advanced, read_as, referred, reached_from, space_in, after, judged, judged_reached, kept, next_part, state_of, nothing_read, first_form, begun, first_reading, EndsWithQuote, value_of, IsValue, error_of, Goes, passed, named, tokened, reserved, signed, quoted, unquoted, with_data, with_char, with_units, without_char}
use Rattle.sgml_decl_lexemes.specs.Sources.{cdata_text}
use Rattle.sgml_decl_parts.specs.Forms.{may_refer}
use Rattle.sgml_decl_lexemes.specs.declared.fault.Fault.TheVariants.{Wanting, Refusing}
use Rattle.sgml_text.specs.declared.reason.Reason.TheVariants as reason
use Rattle.sgml_text.specs.declared.unit.Unit.{Unit as AnyUnit}
use Rattle.sgml_text.specs.declared.unit.Unit.TheVariants as unit
use Rattle.sgml_decl_lexemes.specs.declared.lexeme.Lexeme.TheVariants.{Value}
use Rattle.sgml_decl_lexemes.specs.Reads.{bytes_left, left}
use Rattle.sgml_decl_lexemes.specs.Declares.{state, is_closed, ReadsParts, HasLexemes, IsStop}
use Rattle.sgml_decl_lexemes.specs.declared.lexeme.Lexeme.{Lexeme}
use Rattle.sgml_decl_lexemes.specs.declared.fault.Fault.{Fault}
use Rattle.sgml_decl_parts.specs.Bytes.{begins_name}
use Rattle.sgml_decl_parts.specs.declared.form.Form.TheVariants as f
use Rattle.sgml_decl_parts.specs.declared.ends.Construct.{Construct}
use Rattle.sgml_decl_parts.specs.declared.ends.Construct.TheVariants.{Literal}
use Rattle.sgml_text.specs.Characters.{is_quote}
use Rattle.sgml_decl_parts.specs.Ends.{before, quote_end}
use Rattle.sgml_decl_lexemes.proofs.Opened.{can_open, opened_size}
use Rattle.sgml_decl_lexemes.proofs.Quoting.{base_left, IsInside, part-inside, stays-inside, IsLast, last-quote, one-value}

moved_by : (n e at : ℕ) (below above ps : List Place) → ps ≡ above ++ (place_at e at ∷ below) → Stands e below (moved n ps)
moved_by n e at below [] ps is = record { above = []; at = at + n; is = ap (moved n) is }
moved_by n e at below (a ∷ rest) ps is = record { above = place_at a.entity (a.at + n) ∷ rest; at = at; is = ap (moved n) is }

pub stands-moved : (n e : ℕ) (below ps : List Place) → Stands e below ps → Stands e below (moved n ps)
stands-moved n e below ps h = moved_by n e h.at below h.above ps h.is

pub stands-opened : (q : Place) (e : ℕ) (below ps : List Place) → Stands e below ps → Stands e below (q ∷ ps)
stands-opened q e below ps h = record { above = q ∷ h.above; at = h.at; is = ap (λ (r : List Place). q ∷ r) h.is }

clash : {A : Type 0} → true ≡ false → A
clash e = absurd (never e)
  where
    never : true ≡ false → ⊥
    never e = cc

lower_by : (e at : ℕ) (below above ps : List Place) → ps ≡ above ++ (place_at e at ∷ below) → (length ps == suc (length below)) ≡ false → Stands e below (lower ps)
lower_by e at below [] ps is other = clash (sym (eq-eqb (length ps) (suc (length below)) (ap length is)) ∙ other)
lower_by e at below (a ∷ rest) ps is other = record { above = rest; at = at; is = ap lower is }

pub stands-lower : (e : ℕ) (below ps : List Place) → Stands e below ps → (length ps == suc (length below)) ≡ false → Stands e below (lower ps)
stands-lower e below ps h other = lower_by e h.at below h.above ps h.is other

pub stands-length : (e : ℕ) (below ps : List Place) → Stands e below ps → suc (length below) ≤ length ps
stands-length e below ps h =
    let size : length ps ≡ length h.above + suc (length below) = ap length h.is ∙ length-append h.above (place_at e h.at ∷ below) in
    omega (arith, size)

on-advanced : (s t : Stack) (n : ℕ) → OnTop s t → OnTop s (advanced n t)
on-advanced s t n h = record {
  stands = stands-moved n (entity_of s.places) (lower s.places) t.places h.stands;
  levels_are = h.levels_are;
  expand_is = h.expand_is;
}

on-opened : (s t : Stack) (e k : ℕ) → OnTop s t → OnTop s (opened e k t)
on-opened s t e k h = record {
  stands = stands-opened (place_at e 0) (entity_of s.places) (lower s.places) t.places h.stands;
  levels_are = h.levels_are;
  expand_is = h.expand_is;
}

on-lower : (I : Source) (s t : Stack) → I.height ≡ suc (length (lower s.places)) → OnTop s t → (length t.places == I.height) ≡ false → OnTop s (record t { places = lower t.places })
on-lower I s t height h other = record {
  stands = stands-lower (entity_of s.places) (lower s.places) t.places h.stands (ap (λ (n : ℕ). length t.places == n) (sym height) ∙ other);
  levels_are = h.levels_are;
  expand_is = h.expand_is;
}

on-referred : (I : Source) (s : Stack) (t : State) (m : ℕ) (r : Reached) → OnTop s t.stack → OnTop s (referred I m t r).stack
on-referred I s t m (Opens e k) h = on-opened s (advanced m t.stack) e k (on-advanced s t.stack m h)
on-referred I s t m (PutsText n) h = on-advanced s t.stack m h
on-referred I s t m (PutsData n) h = on-advanced s t.stack m h
on-referred I s t m (Fails f) h = h

on-after : (I : Source) (s : Stack) (bytes : List ℕ) (t : State) (p : Part) → I.height ≡ suc (length (lower s.places)) → OnTop s t.stack → Fits (length t.stack.places == I.height) (ahead I t) p → OnTop s (after I bytes p t).stack
on-after I s bytes t (Gap n) height h f = on-advanced s t.stack n h
on-after I s bytes t (Name n) height h f = on-advanced s t.stack n h
on-after I s bytes t (Token n) height h f = on-advanced s t.stack n h
on-after I s bytes t (Reserved n) height h f = on-advanced s t.stack (1 + n) h
on-after I s bytes t (Sign d) height h f = on-advanced s t.stack 1 h
on-after I s bytes t (Quote b) height h f = on-advanced s t.stack 1 h
on-after I s bytes t EndQuote height h f = on-advanced s t.stack 1 h
on-after I s bytes t (Data n) height h f = on-advanced s t.stack n h
on-after I s bytes t (Char n u) height h f = on-advanced s t.stack n h
on-after I s bytes t (NoChar n) height h f = on-advanced s t.stack n h
on-after I s bytes t (Refer n m) height h f = on-referred I s t m (reached_from I bytes t n) h
on-after I s bytes t TextEnd height h f = on-lower I s t.stack height h f
on-after I s bytes t Closing height h f = on-advanced s t.stack 1 h

pub goes-on-top : (I : Source) (s : Stack) (t next : State) (done : Bool) → I.height ≡ suc (length (lower s.places)) → OnTop s t.stack → Goes I t done next → OnTop s next.stack
goes-on-top I s t next done height h g = subst (OnTop s) (sym g.stack_is) (on-after I s (ahead I t) t g.part height h g.fits)

pub not-moved : (s : Stack) → 0 < length s.places → OnTop s s
not-moved s some = record { stands = stands-all s.places some; levels_are = refl; expand_is = refl }
  where
    stands-all : (ps : List Place) → 0 < length ps → Stands (entity_of ps) (lower ps) ps
    stands-all [] some = absurd (omega arith)
    stands-all (p ∷ ps) some = record { above = []; at = p.at; is = refl }

pub begun-on-top : (s : Stack) (n : ℕ) → 0 < length s.places → OnTop s (advanced n s)
begun-on-top s n some = on-advanced s s n (not-moved s some)

count-places : (ps : List Place) → 0 < length ps → length ps ≡ suc (length (lower ps))
count-places [] some = absurd (omega arith)
count-places (p ∷ ps) some = refl

-- going back
back_by : (e at : ℕ) (below above ps : List Place) (k : ℕ) → ps ≡ above ++ (place_at e at ∷ below) → k ≡ length ps - suc (length below) → drop k ps ≡ place_at e at ∷ below
back_by e at below above ps k is count =
    let size : length ps ≡ length above + suc (length below) = ap length is ∙ length-append above (place_at e at ∷ below) in
    let same : k ≡ length above = omega (arith, size, count) in
    ap (drop k) is ∙ ap (λ (n : ℕ). drop n (above ++ (place_at e at ∷ below))) same ∙ dropped above (place_at e at ∷ below)
  where
    dropped : (xs ys : List Place) → drop (length xs) (xs ++ ys) ≡ ys
    dropped [] ys = refl
    dropped (x ∷ xs) ys = dropped xs ys

restored_by : (ps : List Place) (at : ℕ) → 0 < length ps → moved_to (offset_of ps) (place_at (entity_of ps) at ∷ lower ps) ≡ ps
restored_by [] at some = absurd (omega arith)
restored_by (p ∷ ps) at some = refl

pub restored : (s t : Stack) (depth at : ℕ) → 0 < length s.places → OnTop s t → depth + 1 ≡ length s.places → at ≡ offset_of s.places
    → moved_to at (drop (length t.places - (depth + 1)) t.places) ≡ s.places
restored s t depth at some h count is =
    let tail : length s.places ≡ suc (length (lower s.places)) = lowered s.places some in
    let dropped : drop (length t.places - (depth + 1)) t.places ≡ place_at (entity_of s.places) h.stands.at ∷ lower s.places =
    back_by (entity_of s.places) h.stands.at (lower s.places) h.stands.above t.places (length t.places - (depth + 1)) h.stands.is (ap (λ (n : ℕ). length t.places - n) (count ∙ tail)) in
    ap (moved_to at) dropped ∙ ap (λ (n : ℕ). moved_to n (place_at (entity_of s.places) h.stands.at ∷ lower s.places)) is ∙ restored_by s.places h.stands.at some
  where
    lowered : (ps : List Place) → 0 < length ps → length ps ≡ suc (length (lower ps))
    lowered [] some = absurd (omega arith)
    lowered (p ∷ ps) some = refl

-- what is left falls with each part
moved-total : (I : Source) (n : ℕ) (ps : List Place) → n ≤ length (unread I ps) → bytes_left I (moved n ps) + n ≡ bytes_left I ps
moved-total I n [] few = omega (arith, few)
moved-total I n (p ∷ ps) few =
    let text : List ℕ = top_text I (length (p ∷ ps)) p.entity in
    let before : length (drop p.at text) ≡ length text - p.at = length-drop p.at text in
    let now : length (drop (p.at + n) text) ≡ length text - (p.at + n) = length-drop (p.at + n) text in
    omega (arith, few, before, now)

moved-length : (n : ℕ) (ps : List Place) → length (moved n ps) ≡ length ps
moved-length n [] = refl
moved-length n (p ∷ ps) = refl

less-advanced : (I : Source) (n : ℕ) (t : State) (r : Reading) → 0 < n → n ≤ length (ahead I t) → left I (read_as r n t).stack < left I t.stack
less-advanced I n t r some few =
    let sum : bytes_left I (moved n t.stack.places) + n ≡ bytes_left I t.stack.places = moved-total I n t.stack.places few in
    let count : length (moved n t.stack.places) ≡ length t.stack.places = moved-length n t.stack.places in
    omega (arith, sum, count, some)

less-lower : (I : Source) (ps : List Place) → 0 < length ps → bytes_left I (lower ps) + length (lower ps) < bytes_left I ps + length ps
less-lower I [] some = absurd (omega arith)
less-lower I (p ∷ ps) some = omega arith

pub above-base : (I : Source) (height e : ℕ) → (height == I.height) ≡ false → top_text I height e ≡ or_empty (text_at I.entities I.texts e)
above-base I height e other = rw other refl

not-same : (m n : ℕ) → n < m → (m == n) ≡ false
not-same m n more = by (m == n) refl
  where
    by : (b : Bool) → (m == n) ≡ b → b ≡ false
    by true is = let same : m ≡ n = eqb-true m n is in absurd (omega (arith, same))
    by false is = refl

within : (a : Bool) (b c : Bool) → refusal_by a b c ≡ None → c ≡ false
within true b c is = absurd (no is)
  where
    no : Some refused.Recursive ≡ None → ⊥
    no e = cc
within false true c is = cc
within false false true is = cc
within false false false is = refl

room : (e n : ℕ) → nat_lt e n ≡ false → n ≤ e
room e n is = search (rules, tests)

fits : (n k : ℕ) (s : Stack) → refusal n k s ≡ None → s.spent + k ≤ s.expand
fits n k s free = room s.expand (s.spent + k) (within (is_on n s.places) (nat_lt s.levels (length s.places)) (nat_lt s.expand (s.spent + k)) free)

opened-total : (I : Source) (s : Stack) (t : State) (n k m : ℕ) (name : List ℕ) → I.height ≡ suc (length (lower s.places)) → OnTop s t.stack
    → reached I t.stack (space_in t.reading) name ≡ Opens n k → 1 < m → m ≤ length (ahead I t)
    → left I (opened n k (advanced m t.stack)) < left I t.stack
opened-total I s t n k m name height h is some few =
    let sum : bytes_left I (moved m t.stack.places) + m ≡ bytes_left I t.stack.places = moved-total I m t.stack.places few in
    let count : length (moved m t.stack.places) ≡ length t.stack.places = moved-length m t.stack.places in
    let base : suc (length (lower s.places)) ≤ length t.stack.places = stands-length (entity_of s.places) (lower s.places) t.stack.places h.stands in
    let other : (suc (length (moved m t.stack.places)) == I.height) ≡ false = not-same (suc (length (moved m t.stack.places))) I.height (omega arith) in
    let text : top_text I (suc (length (moved m t.stack.places))) n ≡ or_empty (text_at I.entities I.texts n) = above-base I (suc (length (moved m t.stack.places))) n other in
    let size : k ≡ length (or_empty (text_at I.entities I.texts n)) = opened_size I t.stack (space_in t.reading) name n k is in
    let free : refusal n k t.stack ≡ None = can_open I t.stack (space_in t.reading) name n k is in
    let low : t.stack.spent + k ≤ t.stack.expand = fits n k t.stack free in
    let top : length (top_text I (suc (length (moved m t.stack.places))) n) ≡ k = ap length text ∙ sym size in
    omega (arith, sum, count, low, top, some)

less-referred : (I : Source) (s : Stack) (t : State) (n m : ℕ) (bytes : List ℕ) (r : Reached) → I.height ≡ suc (length (lower s.places)) → OnTop s t.stack
    → reached_from I bytes t n ≡ r → 1 < m → m ≤ length (ahead I t) → judged_reached (kept I t.reading) n m r ≡ Ok (Refer n m)
    → left I (referred I m t r).stack < left I t.stack
less-referred I s t n m bytes (Opens e k) height h is some few ok = opened-total I s t e k m (take n (drop 1 bytes)) height h is some few
less-referred I s t n m bytes (PutsText e) height h is some few ok = less-advanced I m t (with_data (cdata_text (entity_at I.entities e)) t.reading) (omega (arith, some)) few
less-referred I s t n m bytes (PutsData e) height h is some few ok = less-advanced I m t (with_units (unit.Sdata e ∷ []) t.reading) (omega (arith, some)) few
less-referred I s t n m bytes (Fails f) height h is some few ok = cc

may : (b : Bool) (I : Source) (t : State) (n m : ℕ) (r : Reached) → (if b then judged_reached (kept I t.reading) n m r else Err (Refusing reason.DeclarationSyntax)) ≡ Ok (Refer n m) → judged_reached (kept I t.reading) n m r ≡ Ok (Refer n m)
may true I t n m r ok = ok
may false I t n m r ok = cc

less-after : (I : Source) (s : Stack) (bytes : List ℕ) (t : State) (p : Part) → I.height ≡ suc (length (lower s.places)) → OnTop s t.stack → Fits (length t.stack.places == I.height) (ahead I t) p
    → size_of p ≤ length (ahead I t) → judged I bytes t p ≡ Ok p → left I (after I bytes p t).stack < left I t.stack
less-after I s bytes t (Gap n) height h f few ok = less-advanced I n t (passed t.reading) f few
less-after I s bytes t (Name n) height h f few ok = less-advanced I n t (named (take n bytes) t.reading) f few
less-after I s bytes t (Token n) height h f few ok = less-advanced I n t (tokened (take n bytes) t.reading) f few
less-after I s bytes t (Reserved n) height h f few ok = less-advanced I (1 + n) t (reserved (take n (drop 1 bytes)) t.reading) (omega arith) few
less-after I s bytes t (Sign d) height h f few ok = less-advanced I 1 t (signed d t.reading) (omega arith) few
less-after I s bytes t (Quote b) height h f few ok = less-advanced I 1 t (quoted b (length t.stack.places) t.reading) (omega arith) few
less-after I s bytes t EndQuote height h f few ok = less-advanced I 1 t (unquoted t.reading) (omega arith) few
less-after I s bytes t (Data n) height h f few ok = less-advanced I n t (with_data (take n bytes) t.reading) f few
less-after I s bytes t (Char n u) height h f few ok = less-advanced I n t (with_char u t.reading) f few
less-after I s bytes t (NoChar n) height h f few ok = less-advanced I n t (without_char t.reading) f few
less-after I s bytes t (Refer n m) height h f few ok =
    less-referred I s t n m bytes (reached_from I bytes t n) height h refl (omega (arith, f.0, f.1)) few (may (may_refer t.reading.form) I t n m (reached_from I bytes t n) ok)
less-after I s bytes t TextEnd height h f few ok =
    let base : suc (length (lower s.places)) ≤ length t.stack.places = stands-length (entity_of s.places) (lower s.places) t.stack.places h.stands in
    let less : bytes_left I (lower t.stack.places) + length (lower t.stack.places) < bytes_left I t.stack.places + length t.stack.places = less-lower I t.stack.places (omega arith) in
    omega (arith, less)
less-after I s bytes t Closing height h f few ok = less-advanced I 1 t (passed t.reading) (omega arith) few

pub goes-less : (I : Source) (s : Stack) (t next : State) (done : Bool) → I.height ≡ suc (length (lower s.places)) → OnTop s t.stack → Goes I t done next → left I next.stack < left I t.stack
goes-less I s t next done height h g =
    let less : left I (after I (ahead I t) g.part t).stack < left I t.stack = less-after I s (ahead I t) t g.part height h g.fits g.within g.goes in
    let same : left I next.stack ≡ left I (after I (ahead I t) g.part t).stack = ap (left I) g.stack_is in
    omega (arith, less, same)

-- the next part
pub goes-next : (I : Source) (t next : State) (done : Bool) (g : Goes I t done next) → next_part I t ≡ Ok g.part
goes-next I t next done g = rw g.found g.goes

same-state : (I : Source) (bytes : List ℕ) (p : Part) (t next : State) → next.reading ≡ (after I bytes p t).reading → next.stack ≡ (after I bytes p t).stack → next ≡ after I bytes p t
same-state I bytes p t next r s = ap (λ (x : Reading). state_of x next.stack) r ∙ ap (λ (x : Stack). state_of (after I bytes p t).reading x) s

-- what was read so far
pub record SoFar (I : Source) (s : Stack) (t : State) : Type 0 where
  pub parts : List Part
  pub reads : ReadsParts I s parts
  pub unfinished : is_closed I.construct parts ≡ false
  pub inside : (q : ℕ) → I.construct ≡ Literal q → IsInside I q t
  pub state_is : t ≡ state I s parts
  pub on_top : OnTop s t.stack
  pub height_is : I.height ≡ suc (length (lower s.places))

begun-base : (I : Source) (s t : Stack) → 0 < length s.places → I.height ≡ length s.places → t ≡ advanced 0 s → base_left I t.places ≡ unread I s.places
begun-base I s t some height stack = ap (λ (x : Stack). base_left I x.places) stack ∙ by s.places some height
  where
    by : (ps : List Place) → 0 < length ps → I.height ≡ length ps → base_left I (moved 0 ps) ≡ unread I ps
    by [] some height = absurd (omega (arith, some))
    by (p ∷ ps) some height =
        let base : (suc (length ps) == I.height) ≡ true = eq-eqb (suc (length ps)) I.height (sym height) in
        let at : p.at + 0 ≡ p.at = omega arith in
        rw base (ap (λ (n : ℕ). drop n I.own) at)

begun-inside : (I : Source) (s : Stack) (r : Reading) (t : Stack) (c : Construct) → I.construct ≡ c → 0 < length s.places → I.height ≡ length s.places
    → t ≡ advanced (before c) s → r ≡ begun c (length t.places) (nothing_read (first_form c (begins_name I.syntax.names (unread I t.places)))) → EndsWithQuote c (unread I s.places)
    → (q : ℕ) → c ≡ Literal q → IsInside I q (state_of r t)
begun-inside I s r t (Literal quote) at some height stack is ends q same =
    let number : quote ≡ q = cc same in
    let count : length t.places ≡ I.height = ap (λ (x : Stack). length x.places) stack ∙ moved-length 0 s.places ∙ sym height in
    let read : r ≡ quoted q I.height (nothing_read f.Default) = is ∙ ap (λ (n : ℕ). quoted n (length t.places) (nothing_read f.Default)) number ∙ ap (λ (n : ℕ). quoted q n (nothing_read f.Default)) count in record {
      quote_is = ap is_quote (sym number) ∙ ends.0;
      literal_is = ap (λ (x : Reading). x.literal) read;
      nothing = ap (λ (x : Reading). x.lexemes) read;
      ends = subst (λ (xs : List ℕ). quote_end q xs ≡ Some (length xs)) (sym (begun-base I s t some height stack)) (subst (λ (n : ℕ). quote_end n (unread I s.places) ≡ Some (length (unread I s.places))) number ends.1);
    }
begun-inside I s r t _ at some height stack is ends q same = cc same

pub begun-so-far : (I : Source) (s : Stack) (r : Reading) (t : Stack) → 0 < length s.places → I.height ≡ length s.places
    → t ≡ advanced (before I.construct) s → r ≡ first_reading I t.places → EndsWithQuote I.construct (unread I s.places) → SoFar I s (state_of r t)
begun-so-far I s r t some height stack is ends = record {
  parts = [];
  reads = tt;
  unfinished = refl;
  inside = begun-inside I s r t I.construct refl some height stack is ends;
  state_is = ap (λ (x : Reading). state_of x t) is ∙ ap (λ (x : Stack). state_of (first_reading I x.places) x) stack;
  on_top = subst (OnTop s) (sym stack) (begun-on-top s (before I.construct) some);
  height_is = height ∙ count-places s.places some;
}

-- one part more of them
pub record Grown (I : Source) (s : Stack) (t next : State) (done : Bool) : Type 0 where
  pub parts : List Part
  pub reads : ReadsParts I s parts
  pub closed_is : is_closed I.construct parts ≡ done
  pub state_is : next ≡ state I s parts

pub grown : (I : Source) (s : Stack) (t next : State) (done : Bool) → SoFar I s t → Goes I t done next → Grown I s t next done
grown I s t next done h g = record {
  parts = g.part ∷ h.parts;
  reads = (h.reads, h.unfinished, ap (next_part I) (sym h.state_is) ∙ goes-next I t next done g);
  closed_is = g.done_is;
  state_is = same-state I (ahead I t) g.part t next g.reading_is g.stack_is ∙ ap (λ (x : State). after I (ahead I x) g.part x) h.state_is;
}

deep-enough : (I : Source) (s : Stack) (t : State) → SoFar I s t → I.height ≤ length t.stack.places
deep-enough I s t h =
    let base : suc (length (lower s.places)) ≤ length t.stack.places = stands-length (entity_of s.places) (lower s.places) t.stack.places h.on_top.stands in
    let height : I.height ≡ suc (length (lower s.places)) = h.height_is in
    omega (arith, base, height)

inside-next : (I : Source) (s : Stack) (t next : State) (q : ℕ) → I.construct ≡ Literal q → SoFar I s t → Goes I t false next → IsInside I q next
inside-next I s t next q is h g =
    subst (IsInside I q) (sym (same-state I (ahead I t) g.part t next g.reading_is g.stack_is))
    (stays-inside I q t g.part is (h.inside q is) (deep-enough I s t h) (part-inside I q t g.part (h.inside q is) g.found) g.fits g.done_is)

pub ends-literal : (I : Source) (s : Stack) (t next : State) (q : ℕ) → I.construct ≡ Literal q → SoFar I s t → (g : Goes I t true next) → IsLast I t g.part
ends-literal I s t next q is h g =
    let deep : I.height ≤ length t.stack.places = deep-enough I s t h in
    let height : I.height ≡ suc (length (lower s.places)) = h.height_is in
    last-quote I q t g.part is (h.inside q is) (omega (arith, deep, height)) (part-inside I q t g.part (h.inside q is) g.found) g.done_is

pub goes-on : (I : Source) (s : Stack) (t next : State) → SoFar I s t → Goes I t false next → SoFar I s next
goes-on I s t next h g =
    let more : Grown I s t next false = grown I s t next false h g in record {
      parts = more.parts;
      reads = more.reads;
      unfinished = more.closed_is;
      inside = λ q is. inside-next I s t next q is h g;
      state_is = more.state_is;
      on_top = goes-on-top I s t next false h.height_is h.on_top g;
      height_is = h.height_is;
    }

pub declared : (I : Source) (s : Stack) (t next : State) (ds : List Lexeme) → SoFar I s t → Goes I t true next → ds ≡ next.reading.lexemes → HasLexemes I s ds next.stack
declared I s t next ds h g is =
    let more : Grown I s t next true = grown I s t next true h g in record {
      parts = more.parts;
      reads = more.reads;
      whole = more.closed_is;
      lexemes_are = is ∙ ap (λ (x : State). x.reading.lexemes) more.state_is;
      stack_is = ap (λ (x : State). x.stack) more.state_is;
    }

pub one-lexeme : (I : Source) (s : Stack) (t next : State) (ds : List Lexeme) → SoFar I s t → Goes I t true next → ds ≡ next.reading.lexemes → IsValue I.construct ds
one-lexeme I s t next ds h g is = by I.construct refl
  where
    by : (c : Construct) → I.construct ≡ c → IsValue c ds
    by (Literal q) at =
        let last = ends-literal I s t next q at h g in
        let all : ds ≡ Value t.reading.units ∷ [] =
        is ∙ ap (λ (r : Reading). r.lexemes) g.reading_is ∙ ap (λ (p : Part). (after I (ahead I t) p t).reading.lexemes) last.part_is ∙ one-value I q t (h.inside q at) in
        all ∙ ap (λ (us : List AnyUnit). Value us ∷ []) (ap value_of (sym all))
    by _ at = tt

pub stopped : (I : Source) (s : Stack) (t : State) (f : Fault) → SoFar I s t → next_part I t ≡ Err f → IsStop I s (error_of f)
stopped I s t (Wanting n) h is = record { parts = h.parts; reads = h.reads; unfinished = h.unfinished; fault_is = ap (next_part I) (sym h.state_is) ∙ is }
stopped I s t (Refusing r) h is = record { parts = h.parts; reads = h.reads; unfinished = h.unfinished; fault_is = ap (next_part I) (sym h.state_is) ∙ is }
