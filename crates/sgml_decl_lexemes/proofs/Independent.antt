-- Part by part, the same is read where the same is unread.
use Rattle.std.proofs.Common.{◌≡◌, ℕ, suc, Bool, true, false, List, [], ◌∷◌, ◌+◌, ◌<◌, ◌≤◌, ◌==◌, ◌&&◌, Result, Ok, Err, length, drop, take, refl, sym, ◌∙◌, ap, subst, if◌then◌else◌, arith}
use Rattle.sgml_text.specs.declared.place.Place.{Place}
use Rattle.sgml_text.specs.declared.reason.Reason.{Reason}
use Rattle.sgml_text.specs.declared.reason.Reason.TheVariants as reason
use Rattle.sgml_entity.specs.Entities.{entity_at}
use Rattle.sgml_entity.specs.Stack.{Stack, moved, lower}
use Rattle.sgml_text.specs.declared.unit.Unit.TheVariants as unit
use Rattle.sgml_decl_parts.specs.declared.part.Part.{Part}
use Rattle.sgml_decl_parts.specs.declared.part.Part.TheVariants as p
use Rattle.sgml_decl_parts.specs.declared.part.PartFault.{PartFault}
use Rattle.sgml_decl_parts.specs.Forms.{after_name, after_token, after_reserved, literal_kind, may_refer}
use Rattle.sgml_decl_parts.specs.Bytes.{begins_name}
use Rattle.sgml_decl_parts.specs.Parts.{part_at}
use Rattle.sgml_decl_parts.specs.Ends.{before}
use Rattle.sgml_decl_parts.specs.declared.ends.Construct.{Construct}
use Rattle.sgml_decl_lexemes.specs.declared.fault.Fault.{Fault}
use Rattle.sgml_decl_lexemes.specs.declared.fault.Fault.TheVariants.{Wanting, Refusing}
use Rattle.sgml_decl_lexemes.specs.declared.fault.Reached.{Reached}
use Rattle.sgml_decl_lexemes.specs.declared.fault.Reached.TheVariants.{Opens, PutsText, PutsData, Fails}
use Rattle.sgml_decl_lexemes.specs.declared.reading.KeptFaults.{KeptFaults}
use Rattle.sgml_decl_lexemes.specs.Lengths.{has_long_name, has_long_literal}
use Rattle.sgml_decl_lexemes.specs.Sources.{Source, unread, reached, cdata_text}
use Rattle.sgml_decl_lexemes.specs.Readings.{Reading, State, ahead, here, here_by, advanced, read_as, after, referred, space_in, passed, named, tokened, reserved, signed, quoted, unquoted, with_data, with_char, with_units, without_char, judged, judged_part, judged_form, judged_end, judged_sign, judged_quote, judged_end_quote, is_literal, judged_reached, kept, first_due, reached_from, next_part, is_last, closes, start, nothing_read, first_form, begun, entity_of, OnTop}
use Rattle.sgml_decl_lexemes.specs.Declares.{state, is_closed, ReadsParts}
use Rattle.sgml_decl_lexemes.proofs.Going.{stands-length, goes-on-top, begun-on-top}
use Rattle.sgml_decl_lexemes.specs.Alike.{StacksAlike, Extends, AlikeIsRead, AlikeIsRefused}
use Rattle.sgml_decl_lexemes.proofs.Alike.{length-alike, unread-alike, is_wanting, reached-alike, opened-text, advanced-alike, lower-alike, opened-alike}
use Rattle.sgml_decl_lexemes.proofs.Reaching.{goes-of, judged-of}

pub record StatesAlike (I J : Source) (t u : State) : Type 0 where
  pub reading : t.reading ≡ u.reading
  pub stack : StacksAlike I J t.stack u.stack

-- the text of the declaration and what was opened from it stand on the stack
pub record Stands (I : Source) (t : State) : Type 0 where
  pub some : 0 < length t.stack.places
  pub high : I.height ≤ length t.stack.places

read-alike : (I J : Source) (t u : State) (q r : Reading) (n : ℕ) → StatesAlike I J t u → q ≡ r → StatesAlike I J (read_as q n t) (read_as r n u)
read-alike I J t u q r n a e = record { reading = e; stack = advanced-alike I J n t.stack u.stack a.stack }

-- WHAT A PART ADDS

referred-alike : (I J : Source) (m : ℕ) (t u : State) (by : Reached) → Extends I J → StatesAlike I J t u → Stands I t
    → ((n k : ℕ) → by ≡ Opens n k → Rattle.sgml_decl_lexemes.specs.Sources.text_at I.entities I.texts n ≡ Rattle.sgml_decl_lexemes.specs.Sources.text_at J.entities J.texts n)
    → StatesAlike I J (referred I m t by) (referred J m u by)
referred-alike I J m t u (Opens n k) x a s opens = record {
  reading = ap passed a.reading;
  stack = opened-alike I J n k (advanced m t.stack) (advanced m u.stack) x (opens n k refl) (moved-high t.stack.places s.high) (advanced-alike I J m t.stack u.stack a.stack);
}
  where
    moved-high : (ps : List Place) → I.height ≤ length ps → I.height ≤ length (moved m ps)
    moved-high [] l = l
    moved-high (q ∷ ps) l = l
referred-alike I J m t u (PutsText n) x a s opens =
    read-alike I J t u (with_data (cdata_text (entity_at I.entities n)) t.reading) (with_data (cdata_text (entity_at J.entities n)) u.reading) m a
    (λ i. with_data (cdata_text (entity_at (x.entities i) n)) (a.reading i))
referred-alike I J m t u (PutsData n) x a s opens =
    read-alike I J t u (with_units (unit.Sdata n ∷ []) t.reading) (with_units (unit.Sdata n ∷ []) u.reading) m a (ap (with_units (unit.Sdata n ∷ [])) a.reading)
referred-alike I J m t u (Fails e) x a s opens = a

reached-same : (I J : Source) (bytes : List ℕ) (t u : State) (n : ℕ) → Extends I J → StatesAlike I J t u → is_wanting (reached_from I bytes t n) ≡ false → reached_from I bytes t n ≡ reached_from J bytes u n
reached-same I J bytes t u n x a w =
    reached-alike I J (space_in t.reading) t.stack u.stack (take n (drop 1 bytes)) x a.stack w
    ∙ ap (λ q. reached J u.stack (space_in q) (take n (drop 1 bytes))) a.reading

refer-alike : (I J : Source) (bytes : List ℕ) (t u : State) (n m : ℕ) → Extends I J → StatesAlike I J t u → Stands I t → is_wanting (reached_from I bytes t n) ≡ false
    → StatesAlike I J (referred I m t (reached_from I bytes t n)) (referred J m u (reached_from J bytes u n))
refer-alike I J bytes t u n m x a s w =
    subst (λ r. StatesAlike I J (referred I m t (reached_from I bytes t n)) (referred J m u r)) (reached-same I J bytes t u n x a w)
    (referred-alike I J m t u (reached_from I bytes t n) x a s
    (λ k z e. opened-text I J t.stack (space_in t.reading) (take n (drop 1 bytes)) k z x e))

after-alike : (I J : Source) (bytes : List ℕ) (t u : State) (q : Part) → Extends I J → StatesAlike I J t u → Stands I t
    → ((n m : ℕ) → q ≡ p.Refer n m → is_wanting (reached_from I bytes t n) ≡ false) → StatesAlike I J (after I bytes q t) (after J bytes q u)
after-alike I J bytes t u (p.Gap n) x a s w = read-alike I J t u (passed t.reading) (passed u.reading) n a (ap passed a.reading)
after-alike I J bytes t u (p.Name n) x a s w = read-alike I J t u (named (take n bytes) t.reading) (named (take n bytes) u.reading) n a (ap (named (take n bytes)) a.reading)
after-alike I J bytes t u (p.Token n) x a s w = read-alike I J t u (tokened (take n bytes) t.reading) (tokened (take n bytes) u.reading) n a (ap (tokened (take n bytes)) a.reading)
after-alike I J bytes t u (p.Reserved n) x a s w = read-alike I J t u (reserved (take n (drop 1 bytes)) t.reading) (reserved (take n (drop 1 bytes)) u.reading) (1 + n) a (ap (reserved (take n (drop 1 bytes))) a.reading)
after-alike I J bytes t u (p.Sign d) x a s w = read-alike I J t u (signed d t.reading) (signed d u.reading) 1 a (ap (signed d) a.reading)
after-alike I J bytes t u (p.Quote b) x a s w =
    read-alike I J t u (quoted b (length t.stack.places) t.reading) (quoted b (length u.stack.places) u.reading) 1 a
    (λ i. quoted b (length-alike I J t.stack u.stack a.stack i) (a.reading i))
after-alike I J bytes t u p.EndQuote x a s w = read-alike I J t u (unquoted t.reading) (unquoted u.reading) 1 a (ap unquoted a.reading)
after-alike I J bytes t u (p.Data n) x a s w = read-alike I J t u (with_data (take n bytes) t.reading) (with_data (take n bytes) u.reading) n a (ap (with_data (take n bytes)) a.reading)
after-alike I J bytes t u (p.Char n c) x a s w = read-alike I J t u (with_char c t.reading) (with_char c u.reading) n a (ap (with_char c) a.reading)
after-alike I J bytes t u (p.NoChar n) x a s w = read-alike I J t u (without_char t.reading) (without_char u.reading) n a (ap without_char a.reading)
after-alike I J bytes t u (p.Refer n m) x a s w = refer-alike I J bytes t u n m x a s (w n m refl)
after-alike I J bytes t u p.TextEnd x a s w = record { reading = ap passed a.reading; stack = lower-alike I J t.stack u.stack a.stack }
after-alike I J bytes t u p.Closing x a s w = read-alike I J t u (passed t.reading) (passed u.reading) 1 a (ap passed a.reading)

-- THE NEXT PART

abbrev pub IsTold : Result Part Fault → Type 0
IsTold (Ok q) = Unit {0}
IsTold (Err (Refusing r)) = Unit {0}
IsTold (Err (Wanting n)) = ⊥

last-alike : (I J : Source) (bytes : List ℕ) (t u : State) → Extends I J → StatesAlike I J t u → is_last I bytes t.stack.places ≡ is_last J bytes u.stack.places
last-alike I J bytes t u x a = λ i. (length-alike I J t.stack u.stack a.stack i == x.height i) && (length bytes == 1)

told-reached : (missed : KeptFaults) (n m : ℕ) (r : Reached) → IsTold (judged_reached missed n m r) → is_wanting r ≡ false
told-reached missed n m (Fails (Wanting k)) h = absurd h
told-reached missed n m (Fails (Refusing q)) h = refl
told-reached missed n m (Opens k z) h = refl
told-reached missed n m (PutsText k) h = refl
told-reached missed n m (PutsData k) h = refl

kept-alike : (I J : Source) (t u : State) → Extends I J → StatesAlike I J t u → kept I t.reading ≡ kept J u.reading
kept-alike I J t u x a = λ i. record {
  no_char = (a.reading i).no_char;
  long_name = has_long_name (x.syntax i) (first_due (x.construct i)) (a.reading i).lexemes;
  long_literal = has_long_literal (x.syntax i) (first_due (x.construct i)) (a.reading i).lexemes;
}

refer-told : (I J : Source) (bytes : List ℕ) (t u : State) (n m : ℕ) (may : Bool) → Extends I J → StatesAlike I J t u
    → IsTold (if may then judged_reached (kept I t.reading) n m (reached_from I bytes t n) else Err (Refusing reason.DeclarationSyntax))
    → (if may then judged_reached (kept I t.reading) n m (reached_from I bytes t n) else Err (Refusing reason.DeclarationSyntax))
    ≡ (if may then judged_reached (kept J u.reading) n m (reached_from J bytes u n) else Err (Refusing reason.DeclarationSyntax))
refer-told I J bytes t u n m true x a h =
    λ i. judged_reached (kept-alike I J t u x a i) n m (reached-same I J bytes t u n x a (told-reached (kept I t.reading) n m (reached_from I bytes t n) h) i)
refer-told I J bytes t u n m false x a h = refl

judged-alike : (I J : Source) (bytes : List ℕ) (t u : State) (q : Part) → Extends I J → StatesAlike I J t u → IsTold (judged I bytes t q) → judged I bytes t q ≡ judged J bytes u q
judged-alike I J bytes t u (p.Name n) x a h = ap (λ (r : Reading). judged_form (after_name r.form (take n bytes)) (p.Name n)) a.reading
judged-alike I J bytes t u (p.Token n) x a h = ap (λ (r : Reading). judged_form (after_token r.form) (p.Token n)) a.reading
judged-alike I J bytes t u (p.Reserved n) x a h = ap (λ (r : Reading). judged_form (after_reserved r.form (take n (drop 1 bytes))) (p.Reserved n)) a.reading
judged-alike I J bytes t u (p.Sign d) x a h = λ i. judged_sign (last-alike I J bytes t u x a i) (a.reading i) d
judged-alike I J bytes t u (p.Quote b) x a h = ap (λ (r : Reading). judged_quote (literal_kind r.form) b) a.reading
judged-alike I J bytes t u (p.Refer n m) x a h =
    refer-told I J bytes t u n m (may_refer t.reading.form) x a h
    ∙ ap (λ (r : Reading). if may_refer r.form then judged_reached (kept J u.reading) n m (reached_from J bytes u n) else Err (Refusing reason.DeclarationSyntax)) a.reading
judged-alike I J bytes t u p.Closing x a h = ap (λ (r : Reading). judged_end r.form r.no_char p.Closing) a.reading
judged-alike I J bytes t u (p.Gap n) x a h = refl
judged-alike I J bytes t u p.EndQuote x a h = λ i. judged_end_quote (is_literal (x.construct i)) (a.reading i).no_char
judged-alike I J bytes t u (p.Data n) x a h = refl
judged-alike I J bytes t u (p.Char n c) x a h = refl
judged-alike I J bytes t u (p.NoChar n) x a h = refl
judged-alike I J bytes t u p.TextEnd x a h = refl

part-alike : (I J : Source) (bytes : List ℕ) (t u : State) (o : Result Part PartFault) → Extends I J → StatesAlike I J t u → IsTold (judged_part I bytes t o) → judged_part I bytes t o ≡ judged_part J bytes u o
part-alike I J bytes t u (Err e) x a h = refl
part-alike I J bytes t u (Ok q) x a h = judged-alike I J bytes t u q x a h

pub ahead-alike : (I J : Source) (t u : State) → StatesAlike I J t u → Stands I t → ahead I t ≡ ahead J u
ahead-alike I J t u a s = unread-alike I J t.stack.places u.stack.places a.stack.places s.some s.high

pub here-alike : (I J : Source) (t u : State) → Extends I J → StatesAlike I J t u → here I t ≡ here J u
here-alike I J t u x a = λ i. here_by (x.height i) (length-alike I J t.stack u.stack a.stack i) (a.reading i)

pub next-alike : (I J : Source) (t u : State) → Extends I J → StatesAlike I J t u → Stands I t → IsTold (next_part I t) → next_part I t ≡ next_part J u
next-alike I J t u x a s h =
    part-alike I J (ahead I t) t u (part_at I.syntax.names I.syntax.general_fold (here I t) (ahead I t)) x a h
    ∙ (λ i. judged_part J (ahead-alike I J t u a s i) u
    (part_at (x.syntax i).names (x.syntax i).general_fold (here-alike I J t u x a i) (ahead-alike I J t u a s i)))

-- ALL PARTS

pub stands-of : (I : Source) (s : Stack) (t : State) → I.height ≡ suc (length (lower s.places)) → OnTop s t.stack → Stands I t
stands-of I s t height on =
    let l : suc (length (lower s.places)) ≤ length t.stack.places = stands-length (entity_of s.places) (lower s.places) t.stack.places on.stands in record {
      some = omega (arith, l);
      high = omega (arith, l, height);
    }

begun-alike : (I J : Source) (s z : Stack) → Extends I J → StacksAlike I J s z → 0 < length s.places → I.height ≤ length s.places → StatesAlike I J (start I s) (start J z)
begun-alike I J s z x a some high = record {
  reading = λ i. begun (x.construct i) (count i) (nothing_read (first_form (x.construct i) (begins_name (x.syntax i).names (front i))));
  stack = subst (λ (c : Construct). StacksAlike I J (advanced (before I.construct) s) (advanced (before c) z)) x.construct (advanced-alike I J (before I.construct) s z a);
}
  where
    moved-length : (n : ℕ) (ps : List Place) → length (moved n ps) ≡ length ps
    moved-length n [] = refl
    moved-length n (q ∷ ps) = refl

    count : length (moved (before I.construct) s.places) ≡ length (moved (before J.construct) z.places)
    count = moved-length (before I.construct) s.places ∙ (length-alike I J s z a ∙ sym (moved-length (before J.construct) z.places))

    front : unread I (moved (before I.construct) s.places) ≡ unread J (moved (before J.construct) z.places)
    front =
        let n = before I.construct in
        let e = moved-length n s.places in
        unread-alike I J (moved n s.places) (moved n z.places) (advanced-alike I J n s z a).places (omega (arith, e, some)) (omega (arith, e, high))
        ∙ ap (λ (c : Construct). unread J (moved (before c) z.places)) x.construct

pub record Along (I J : Source) (s z : Stack) (ps : List Part) : Type 0 where
  pub alike : StatesAlike I J (state I s ps) (state J z ps)
  pub on_top : OnTop s (state I s ps).stack
  pub reads : ReadsParts J z ps

told-ok : (x : Result Part Fault) (q : Part) → x ≡ Ok q → IsTold x
told-ok x q e = subst IsTold (sym e) tt

may-told : (may : Bool) (missed : KeptFaults) (n m : ℕ) (r : Reached) → (if may then judged_reached missed n m r else Err (Refusing reason.DeclarationSyntax)) ≡ Ok (p.Refer n m) → is_wanting r ≡ false
may-told true missed n m r e = told-reached missed n m r (told-ok (judged_reached missed n m r) (p.Refer n m) e)
may-told false missed n m r e = absurd (cc)

wanting-of : (I : Source) (t : State) (q : Part) → next_part I t ≡ Ok q → (n m : ℕ) → q ≡ p.Refer n m → is_wanting (reached_from I (ahead I t) t n) ≡ false
wanting-of I t q e n m is =
    may-told (may_refer t.reading.form) (kept I t.reading) n m (reached_from I (ahead I t) t n)
    (subst (λ (r : Part). judged I (ahead I t) t r ≡ Ok r) is (judged-of I t q e))

along-more : (I J : Source) (s z : Stack) (q : Part) (qs : List Part) → Extends I J → I.height ≡ suc (length (lower s.places)) → Along I J s z qs
    → is_closed I.construct qs ≡ false → next_part I (state I s qs) ≡ Ok q → Along I J s z (q ∷ qs)
along-more I J s z q qs x height h unfinished e =
    let t = state I s qs in
    let u = state J z qs in
    let st = stands-of I s t height h.on_top in
    let same = ahead-alike I J t u h.alike st in
    record {
      alike = subst (λ bs. StatesAlike I J (after I (ahead I t) q t) (after J bs q u)) same
          (after-alike I J (ahead I t) t u q x h.alike st (wanting-of I t q e));
      on_top = goes-on-top I s t (after I (ahead I t) q t) (closes I.construct q) height h.on_top (goes-of I t q e);
      reads = (h.reads, ap (λ (c : Construct). is_closed c qs) (sym x.construct) ∙ unfinished, sym (next-alike I J t u x h.alike st (told-ok (next_part I t) q e)) ∙ e);
    }

pub along : (I J : Source) (s z : Stack) (ps : List Part) → Extends I J → StacksAlike I J s z → 0 < length s.places → I.height ≡ length s.places → I.height ≡ suc (length (lower s.places))
    → ReadsParts I s ps → Along I J s z ps
along I J s z [] x a some height under r = record {
  alike = begun-alike I J s z x a some (omega (arith, height));
  on_top = begun-on-top s (before I.construct) some;
  reads = tt;
}
along I J s z (q ∷ qs) x a some height under r = along-more I J s z q qs x under (along I J s z qs x a some height under r.0) r.1 r.2

pub lowered : (ps : List Place) → 0 < length ps → length ps ≡ suc (length (lower ps))
lowered [] some = absurd (omega (arith, some))
lowered (q ∷ ps) some = refl

-- THE SAME IS READ
pub also-read : AlikeIsRead
also-read I J s z ds after x a some height d =
    let h = along I J s z d.parts x a some height (height ∙ lowered s.places some) d.reads in record {
      stack = (state J z d.parts).stack;
      lexemes = record {
        parts = d.parts;
        reads = h.reads;
        whole = ap (λ (c : Construct). is_closed c d.parts) (sym x.construct) ∙ d.whole;
        lexemes_are = d.lexemes_are ∙ ap (λ (r : Reading). r.lexemes) h.alike.reading;
        stack_is = refl;
      };
      alike = subst (λ k. StacksAlike I J k (state J z d.parts).stack) (sym d.stack_is) h.alike.stack;
    }

-- AND REFUSED
pub refused-next : (I J : Source) (t u : State) (r : Reason) → Extends I J → StatesAlike I J t u → Stands I t → next_part I t ≡ Err (Refusing r) → next_part J u ≡ Err (Refusing r)
refused-next I J t u r x a s e = sym (next-alike I J t u x a s (subst IsTold (sym e) tt)) ∙ e

pub also-refused : AlikeIsRefused
also-refused I J s z r x a some height d =
    let under = height ∙ lowered s.places some in
    let h = along I J s z d.parts x a some height under d.reads in
    let t = state I s d.parts in record {
      parts = d.parts;
      reads = h.reads;
      unfinished = ap (λ (c : Construct). is_closed c d.parts) (sym x.construct) ∙ d.unfinished;
      fault_is = refused-next I J t (state J z d.parts) r x h.alike (stands-of I s t under h.on_top) d.fault_is;
    }
