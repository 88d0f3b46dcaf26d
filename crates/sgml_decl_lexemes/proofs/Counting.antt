-- What is unread of the texts counts, and not where in them reading stands.
use Rattle.std.proofs.Common.{◌≡◌, ℕ, suc, ◌+◌, ◌-◌, ◌<◌, Bool, true, false, List, [], ◌∷◌, ◌++◌, length, drop, take, Option, None, Some, Result, Ok, Err, refl, sym, ◌∙◌, ap, subst, if◌then◌else◌, ◌==◌, ◌&&◌, ◌||◌, not, nat_lt, arith, eq-eqb, eqb-true}
use Rattle.std.proofs.lemmas.List.{drop-drop, drop-take, length-append, length-map}
use Rattle.sgml_text.specs.declared.name_set.NameSet.{NameSet}
use Rattle.sgml_text.specs.declared.place.Place.{Place}
use Rattle.sgml_text.specs.declared.reason.Reason.{Reason}
use Rattle.sgml_text.specs.declared.reason.Reason.TheVariants as reason
use Rattle.sgml_syntax.specs.declared.syntax.Syntax.{Syntax}
use Rattle.sgml_entity.specs.declared.kinds.Body.{Body}
use Rattle.sgml_entity.specs.declared.kinds.Body.TheVariants.{Sgml, Cdata, Sdata, Pi, External, ExternalData}
use Rattle.sgml_entity.specs.declared.kinds.Entity.{Entity}
use Rattle.sgml_entity.specs.declared.kinds.Space.{Space}
use Rattle.sgml_entity.specs.Entities.{entity_at, number_of}
use Rattle.sgml_entity.specs.Stack.{Stack, place_at, moved, moved_to, lower, offset_of, opened, refusal, refusal_by, is_on}
use Rattle.sgml_entity.specs.Texts.{text_of}
use Rattle.sgml_text.specs.declared.unit.Unit.TheVariants as unit
use Rattle.sgml_decl_parts.specs.declared.part.Part.{Part}
use Rattle.sgml_decl_parts.specs.declared.part.Part.TheVariants.{Gap, Name, Token, Reserved, Sign, Quote, EndQuote, Data, Char, NoChar, Refer, TextEnd, Closing}
use Rattle.sgml_decl_parts.specs.declared.part.PartFault.{PartFault}
use Rattle.sgml_decl_parts.specs.declared.part.Here.{Here}
use Rattle.sgml_decl_parts.specs.declared.ends.Construct.{Construct}
use Rattle.sgml_decl_parts.specs.Bytes.{begins_name}
use Rattle.sgml_text.specs.Characters.{all_sgml}
use Rattle.sgml_decl_parts.specs.Ends.{before, construct_end}
use Rattle.sgml_decl_parts.specs.Forms.{after_name, after_token, after_reserved, literal_kind, may_refer}
use Rattle.sgml_decl_parts.specs.Parts.{part_at, Fits}
use Rattle.sgml_decl_lexemes.specs.declared.lexeme.Lexeme.{Lexeme}
use Rattle.sgml_decl_lexemes.specs.declared.fault.Fault.{Fault}
use Rattle.sgml_decl_lexemes.specs.declared.fault.Fault.TheVariants.{Wanting, Refusing}
use Rattle.sgml_decl_lexemes.specs.declared.fault.LexError.{LexError}
use Rattle.sgml_decl_lexemes.specs.declared.fault.LexError.TheVariants.{Refused, Wanted, NeedMore, Memory}
use Rattle.sgml_decl_lexemes.specs.declared.fault.Reached.{Reached}
use Rattle.sgml_decl_lexemes.specs.declared.fault.Reached.TheVariants.{Opens, PutsText, PutsData, Fails}
use Rattle.sgml_decl_lexemes.specs.Sources.{Source, without, unread, folded, opened_by, opening, given_or_wanted, reach_external, reach_body, reach_entity, reach_number, reached, cdata_text}
use Rattle.sgml_decl_lexemes.specs.Readings.{entity_of, State, Reading, state_of, ahead, advanced, read_as, referred, reached_from, space_in, after, here, here_by, judged, judged_form, judged_end, judged_sign, judged_quote, judged_end_quote, judged_reached, kept, judged_part, is_last, is_literal, next_part, nothing_read, first_form, begun, first_reading, start, passed, named, tokened, reserved, signed, quoted, unquoted, with_data, with_char, with_units, without_char, Goes}
use Rattle.sgml_decl_lexemes.specs.Declares.{StandsAtStart, state, is_closed, ReadsParts, StopsBy, IsRead, Asked, Own, Whole, Growing, Bad, own, own_by, without_end, text, rest, may_grow, source, is_asked, AnswersBy, Answers, entities_on, AskSame, as_far, UnreadCounts, LeftCounts}
use Rattle.sgml_decl_lexemes.proofs.Going.{above-base, goes-on-top}
use Rattle.sgml_decl_lexemes.proofs.Ending.{base-text, ended}
use Rattle.sgml_decl_lexemes.proofs.Reaching.{so-far, goes-of, fits-of}
use Rattle.sgml_decl_lexemes.proofs.Running.{begins-of}

-- WHAT A REFERENCE REACHES depends on which texts are open
record SameOpen (t u : Stack) : Type 0 where
  on : (n : ℕ) → is_on n u.places ≡ is_on n t.places
  size : length u.places ≡ length t.places
  levels : u.levels ≡ t.levels
  expand : u.expand ≡ t.expand
  spent : u.spent ≡ t.spent

abbrev with_own : Source → List ℕ → Source
with_own I o = record I { own = o }

same-refusal : (t u : Stack) (n k : ℕ) → SameOpen t u → refusal n k u ≡ refusal n k t
same-refusal t u n k h =
    ap (λ (x : Bool). refusal_by x (nat_lt u.levels (length u.places)) (nat_lt u.expand (u.spent + k))) (h.on n)
    ∙ ap (λ (x : ℕ). refusal_by (is_on n t.places) (nat_lt x (length u.places)) (nat_lt u.expand (u.spent + k))) h.levels
    ∙ ap (λ (x : ℕ). refusal_by (is_on n t.places) (nat_lt t.levels x) (nat_lt u.expand (u.spent + k))) h.size
    ∙ ap (λ (x : ℕ). refusal_by (is_on n t.places) (nat_lt t.levels (length t.places)) (nat_lt x (u.spent + k))) h.expand
    ∙ ap (λ (x : ℕ). refusal_by (is_on n t.places) (nat_lt t.levels (length t.places)) (nat_lt t.expand (x + k))) h.spent

same-opening : (t u : Stack) (n : ℕ) (x : List ℕ) → SameOpen t u → opening u n x ≡ opening t n x
same-opening t u n x h = ap (λ r. opened_by r n x) (same-refusal t u n (length x) h)

same-given : (t u : Stack) (n : ℕ) (o : Option (List ℕ)) → SameOpen t u → given_or_wanted u n o ≡ given_or_wanted t n o
same-given t u n None h = refl
same-given t u n (Some x) h = same-opening t u n x h

same-external : (I : Source) (t u : Stack) (n : ℕ) → SameOpen t u → reach_external I u n ≡ reach_external I t n
same-external I t u n h =
    ap (λ (x : Bool). if x then Fails (Refusing reason.Recursive) else given_or_wanted u n (text_of I.texts n)) (h.on n)
    ∙ ap (λ (x : Reached). if is_on n t.places then Fails (Refusing reason.Recursive) else x) (same-given t u n (text_of I.texts n) h)

same-body : (I : Source) (o : List ℕ) (t u : Stack) (by : Space) (n : ℕ) (b : Body) → SameOpen t u → reach_body (with_own I o) u by n b ≡ reach_body I t by n b
same-body I o t u by n (Sgml x) h = same-opening t u n x h
same-body I o t u by n (External e) h = same-external I t u n h
same-body I o t u by n (Cdata x) h = refl
same-body I o t u by n (Sdata x) h = refl
same-body I o t u by n (Pi x) h = refl
same-body I o t u by n (ExternalData k e x) h = refl

same-entity : (I : Source) (o : List ℕ) (t u : Stack) (by : Space) (n : ℕ) (e : Option Entity) → SameOpen t u → reach_entity (with_own I o) u by n e ≡ reach_entity I t by n e
same-entity I o t u by n None h = refl
same-entity I o t u by n (Some e) h = same-body I o t u by n e.body h

same-number : (I : Source) (o : List ℕ) (t u : Stack) (by : Space) (n : Option ℕ) → SameOpen t u → reach_number (with_own I o) u by n ≡ reach_number I t by n
same-number I o t u by None h = refl
same-number I o t u by (Some n) h = same-entity I o t u by n (entity_at I.entities n) h

same-reached : (I : Source) (o : List ℕ) (t u : Stack) (by : Space) (name : List ℕ) → SameOpen t u → reached (with_own I o) u by name ≡ reached I t by name
same-reached I o t u by name h =
    ap (λ (x : Reached). if nat_lt I.syntax.quantities.namelen (length name) then Fails (Refusing reason.NameLength) else x)
    (same-number I o t u by (number_of I.entities by (folded I.syntax.entity_fold name)) h)

-- TWO STACKS with the same left of the text in which reading began, and the same texts open
record Beside (I : Source) (o : List ℕ) (s r : Stack) : Type 0 where
  rest : drop (offset_of r.places) o ≡ drop (offset_of s.places) I.own
  entity : entity_of r.places ≡ entity_of s.places
  below : entities_on (lower r.places) ≡ entities_on (lower s.places)
  height : I.height ≡ suc (length (lower s.places))
  levels : r.levels ≡ s.levels
  expand : r.expand ≡ s.expand
  spent : r.spent ≡ s.spent

-- so many bytes further in that text, with these texts above it
abbrev further : Stack → List Place → ℕ → List Place
further s above by = above ++ (place_at (entity_of s.places) (offset_of s.places + by) ∷ lower s.places)

record Alike (s r : Stack) (t u : State) : Type 0 where
  above : List Place
  by : ℕ
  first_is : t.stack.places ≡ further s above by
  second_is : u.stack.places ≡ further r above by
  reading_is : u.reading ≡ t.reading
  levels : u.stack.levels ≡ t.stack.levels
  expand : u.stack.expand ≡ t.stack.expand
  spent : u.stack.spent ≡ t.stack.spent

count-on : (ps : List Place) → length (entities_on ps) ≡ length ps
count-on ps = length-map ps (λ (p : Place). p.entity)

same-count : (ps qs : List Place) → entities_on qs ≡ entities_on ps → length qs ≡ length ps
same-count ps qs e = sym (count-on qs) ∙ ap length e ∙ count-on ps

further-count : (I : Source) (o : List ℕ) (s r : Stack) (above : List Place) (by : ℕ) → Beside I o s r → length (further r above by) ≡ length (further s above by)
further-count I o s r above by h =
    let low : length (lower r.places) ≡ length (lower s.places) = same-count (lower s.places) (lower r.places) h.below in
    let one : length (further r above by) ≡ length above + suc (length (lower r.places)) = length-append above (place_at (entity_of r.places) (offset_of r.places + by) ∷ lower r.places) in
    let two : length (further s above by) ≡ length above + suc (length (lower s.places)) = length-append above (place_at (entity_of s.places) (offset_of s.places + by) ∷ lower s.places) in
    omega (arith, low, one, two)

alike-size : (I : Source) (o : List ℕ) (s r : Stack) (t u : State) → Beside I o s r → Alike s r t u → length u.stack.places ≡ length t.stack.places
alike-size I o s r t u h a = ap length a.second_is ∙ further-count I o s r a.above a.by h ∙ ap length (sym a.first_is)

further-on : (I : Source) (o : List ℕ) (s r : Stack) (above : List Place) (by : ℕ) → Beside I o s r → entities_on (further r above by) ≡ entities_on (further s above by)
further-on I o s r [] by h = ap (λ (e : ℕ). e ∷ entities_on (lower r.places)) h.entity ∙ ap (λ (es : List ℕ). entity_of s.places ∷ es) h.below
further-on I o s r (a ∷ above) by h = ap (λ (es : List ℕ). a.entity ∷ es) (further-on I o s r above by h)

on-same : (n : ℕ) (ps qs : List Place) → entities_on qs ≡ entities_on ps → is_on n qs ≡ is_on n ps
on-same n [] [] e = refl
on-same n [] (q ∷ qs) e = cc e
on-same n (p ∷ ps) [] e = cc e
on-same n (p ∷ ps) (q ∷ qs) e =
    let head : q.entity ≡ p.entity = cc e in
    let tail : entities_on qs ≡ entities_on ps = cc e in
    ap (λ (x : ℕ). (x == n) || is_on n qs) head ∙ ap (λ (x : Bool). (p.entity == n) || x) (on-same n ps qs tail)

alike-on : (I : Source) (o : List ℕ) (s r : Stack) (t u : State) → Beside I o s r → Alike s r t u → entities_on u.stack.places ≡ entities_on t.stack.places
alike-on I o s r t u h a = ap entities_on a.second_is ∙ further-on I o s r a.above a.by h ∙ ap entities_on (sym a.first_is)

alike-open : (I : Source) (o : List ℕ) (s r : Stack) (t u : State) → Beside I o s r → Alike s r t u → SameOpen t.stack u.stack
alike-open I o s r t u h a = record {
  on = λ n. on-same n t.stack.places u.stack.places (alike-on I o s r t u h a);
  size = alike-size I o s r t u h a;
  levels = a.levels;
  expand = a.expand;
  spent = a.spent;
}

-- what is unread at the top
not-base : (I : Source) (s : Stack) (above : List Place) (by n : ℕ) → I.height ≡ suc (length (lower s.places)) → n ≡ length (further s above by) → (suc n == I.height) ≡ false
not-base I s above by n height size =
    let all : length (further s above by) ≡ length above + suc (length (lower s.places)) = length-append above (place_at (entity_of s.places) (offset_of s.places + by) ∷ lower s.places) in
    not-same (suc n) I.height (omega (arith, all, size, height))
  where
    not-same : (m k : ℕ) → k < m → (m == k) ≡ false
    not-same m k more = by-test (m == k) refl
      where
        by-test : (b : Bool) → (m == k) ≡ b → b ≡ false
        by-test true is = let same : m ≡ k = eqb-true m k is in absurd (omega (arith, more, same))
        by-test false is = refl

further-unread : (I : Source) (o : List ℕ) (s r : Stack) (above : List Place) (by : ℕ) → Beside I o s r → unread (with_own I o) (further r above by) ≡ unread I (further s above by)
further-unread I o s r [] by h =
    let low : length (lower r.places) ≡ length (lower s.places) = same-count (lower s.places) (lower r.places) h.below in
    let mine : (suc (length (lower s.places)) == I.height) ≡ true = eq-eqb (suc (length (lower s.places))) I.height (sym h.height) in
    let other : (suc (length (lower r.places)) == I.height) ≡ true = eq-eqb (suc (length (lower r.places))) I.height (ap suc low ∙ sym h.height) in
    ap (drop (offset_of r.places + by)) (base-text (with_own I o) (suc (length (lower r.places))) (entity_of r.places) other)
    ∙ sym (drop-drop by (offset_of r.places) o)
    ∙ ap (drop by) h.rest
    ∙ drop-drop by (offset_of s.places) I.own
    ∙ ap (drop (offset_of s.places + by)) (sym (base-text I (suc (length (lower s.places))) (entity_of s.places) mine))
further-unread I o s r (a ∷ above) by h =
    let count : length (further r above by) ≡ length (further s above by) = further-count I o s r above by h in
    ap (drop a.at) (above-base (with_own I o) (suc (length (further r above by))) a.entity (not-base I s above by (length (further r above by)) h.height count)
    ∙ sym (above-base I (suc (length (further s above by))) a.entity (not-base I s above by (length (further s above by)) h.height refl)))

alike-ahead : (I : Source) (o : List ℕ) (s r : Stack) (t u : State) → Beside I o s r → Alike s r t u → ahead (with_own I o) u ≡ ahead I t
alike-ahead I o s r t u h a = ap (unread (with_own I o)) a.second_is ∙ further-unread I o s r a.above a.by h ∙ ap (unread I) (sym a.first_is)

alike-here : (I : Source) (o : List ℕ) (s r : Stack) (t u : State) → Beside I o s r → Alike s r t u → here (with_own I o) u ≡ here I t
alike-here I o s r t u h a =
    ap (λ (n : ℕ). here_by I.height n u.reading) (alike-size I o s r t u h a) ∙ ap (here_by I.height (length t.stack.places)) a.reading_is

alike-reached : (I : Source) (o : List ℕ) (s r : Stack) (bytes : List ℕ) (t u : State) (n : ℕ) → Beside I o s r → Alike s r t u → reached_from (with_own I o) bytes u n ≡ reached_from I bytes t n
alike-reached I o s r bytes t u n h a =
    ap (λ (x : Reading). reached (with_own I o) u.stack (space_in x) (take n (drop 1 bytes))) a.reading_is
    ∙ same-reached I o t.stack u.stack (space_in t.reading) (take n (drop 1 bytes)) (alike-open I o s r t u h a)

-- THE NEXT PART is the same
alike-judged : (I : Source) (o : List ℕ) (s r : Stack) (bytes : List ℕ) (t u : State) (p : Part) → Beside I o s r → Alike s r t u → judged (with_own I o) bytes u p ≡ judged I bytes t p
alike-judged I o s r bytes t u (Name n) h a = ap (λ (x : Reading). judged_form (after_name x.form (take n bytes)) (Name n)) a.reading_is
alike-judged I o s r bytes t u (Token n) h a = ap (λ (x : Reading). judged_form (after_token x.form) (Token n)) a.reading_is
alike-judged I o s r bytes t u (Reserved n) h a = ap (λ (x : Reading). judged_form (after_reserved x.form (take n (drop 1 bytes))) (Reserved n)) a.reading_is
alike-judged I o s r bytes t u (Sign d) h a =
    ap (λ (x : Reading). judged_sign (is_last (with_own I o) bytes u.stack.places) x d) a.reading_is
    ∙ ap (λ (n : ℕ). judged_sign ((n == I.height) && (length bytes == 1)) t.reading d) (alike-size I o s r t u h a)
alike-judged I o s r bytes t u (Quote b) h a = ap (λ (x : Reading). judged_quote (literal_kind x.form) b) a.reading_is
alike-judged I o s r bytes t u (Refer n m) h a =
    ap (λ (x : Reading). if may_refer x.form then judged_reached (kept I x) n m (reached_from (with_own I o) bytes u n) else Err (Refusing reason.DeclarationSyntax)) a.reading_is
    ∙ ap (λ (x : Reached). if may_refer t.reading.form then judged_reached (kept I t.reading) n m x else Err (Refusing reason.DeclarationSyntax)) (alike-reached I o s r bytes t u n h a)
alike-judged I o s r bytes t u EndQuote h a = ap (λ (x : Reading). judged_end_quote (is_literal I.construct) x.no_char) a.reading_is
alike-judged I o s r bytes t u Closing h a = ap (λ (x : Reading). judged_end x.form x.no_char Closing) a.reading_is
alike-judged I o s r bytes t u p h a = refl

alike-judged-part : (I : Source) (o : List ℕ) (s r : Stack) (bytes : List ℕ) (t u : State) (x : Result Part PartFault) → Beside I o s r → Alike s r t u → judged_part (with_own I o) bytes u x ≡ judged_part I bytes t x
alike-judged-part I o s r bytes t u (Err fault) h a = refl
alike-judged-part I o s r bytes t u (Ok p) h a = alike-judged I o s r bytes t u p h a

alike-next : (I : Source) (o : List ℕ) (s r : Stack) (t u : State) → Beside I o s r → Alike s r t u → next_part (with_own I o) u ≡ next_part I t
alike-next I o s r t u h a =
    ap (λ (bytes : List ℕ). judged_part (with_own I o) bytes u (part_at I.syntax.names I.syntax.general_fold (here (with_own I o) u) bytes)) (alike-ahead I o s r t u h a)
    ∙ ap (λ (x : Here). judged_part (with_own I o) (ahead I t) u (part_at I.syntax.names I.syntax.general_fold x (ahead I t))) (alike-here I o s r t u h a)
    ∙ alike-judged-part I o s r (ahead I t) t u (part_at I.syntax.names I.syntax.general_fold (here I t) (ahead I t)) h a

-- AFTER A PART they are alike
moved-places : (s r : Stack) (n : ℕ) (t u : State) (x y : Reading) → y ≡ x → Alike s r t u → Alike s r (read_as x n t) (read_as y n u)
moved-places s r n t u x y same a = by-above a.above a.first_is a.second_is
  where
    by-above : (above : List Place) → t.stack.places ≡ further s above a.by → u.stack.places ≡ further r above a.by → Alike s r (read_as x n t) (read_as y n u)
    by-above [] first second = record {
      above = [];
      by = a.by + n;
      first_is = ap (moved n) first ∙ ap (λ (k : ℕ). place_at (entity_of s.places) k ∷ lower s.places) (omega arith);
      second_is = ap (moved n) second ∙ ap (λ (k : ℕ). place_at (entity_of r.places) k ∷ lower r.places) (omega arith);
      reading_is = same;
      levels = a.levels;
      expand = a.expand;
      spent = a.spent;
    }
    by-above (b ∷ above) first second = record {
      above = place_at b.entity (b.at + n) ∷ above;
      by = a.by;
      first_is = ap (moved n) first;
      second_is = ap (moved n) second;
      reading_is = same;
      levels = a.levels;
      expand = a.expand;
      spent = a.spent;
    }

opened-alike : (s r : Stack) (e k : ℕ) (t u : State) (x y : Reading) → y ≡ x → Alike s r t u → Alike s r (record { reading = x; stack = opened e k t.stack }) (record { reading = y; stack = opened e k u.stack })
opened-alike s r e k t u x y same a = record {
  above = place_at e 0 ∷ a.above;
  by = a.by;
  first_is = ap (λ (ps : List Place). place_at e 0 ∷ ps) a.first_is;
  second_is = ap (λ (ps : List Place). place_at e 0 ∷ ps) a.second_is;
  reading_is = same;
  levels = a.levels;
  expand = a.expand;
  spent = ap (λ (n : ℕ). n + k) a.spent;
}

lower-alike : (I : Source) (s r : Stack) (t u : State) → I.height ≡ suc (length (lower s.places)) → (length t.stack.places == I.height) ≡ false → Alike s r t u → Alike s r (after I (ahead I t) TextEnd t) (after I (ahead I t) TextEnd u)
lower-alike I s r t u height other a = by-above a.above a.first_is a.second_is
  where
    by-above : (above : List Place) → t.stack.places ≡ further s above a.by → u.stack.places ≡ further r above a.by → Alike s r (after I (ahead I t) TextEnd t) (after I (ahead I t) TextEnd u)
    by-above [] first second =
        absurd (never (sym (eq-eqb (length t.stack.places) I.height (ap length first ∙ sym height)) ∙ other))
      where
        never : true ≡ false → ⊥
        never e = cc
    by-above (b ∷ above) first second = record {
      above = above;
      by = a.by;
      first_is = ap lower first;
      second_is = ap lower second;
      reading_is = ap passed a.reading_is;
      levels = a.levels;
      expand = a.expand;
      spent = a.spent;
    }

referred-alike : (I : Source) (o : List ℕ) (s r : Stack) (m : ℕ) (t u : State) (x : Reached) → Alike s r t u → Alike s r (referred I m t x) (referred (with_own I o) m u x)
referred-alike I o s r m t u (Opens e k) a =
    opened-alike s r e k (read_as t.reading m t) (read_as u.reading m u) (passed t.reading) (passed u.reading) (ap passed a.reading_is) (moved-places s r m t u t.reading u.reading a.reading_is a)
referred-alike I o s r m t u (PutsText n) a =
    moved-places s r m t u (with_data (cdata_text (entity_at I.entities n)) t.reading) (with_data (cdata_text (entity_at I.entities n)) u.reading) (ap (with_data (cdata_text (entity_at I.entities n))) a.reading_is) a
referred-alike I o s r m t u (PutsData n) a =
    moved-places s r m t u (with_units (unit.Sdata n ∷ []) t.reading) (with_units (unit.Sdata n ∷ []) u.reading) (ap (with_units (unit.Sdata n ∷ [])) a.reading_is) a
referred-alike I o s r m t u (Fails fault) a = a

after-alike : (I : Source) (o : List ℕ) (s r : Stack) (bytes : List ℕ) (t u : State) (p : Part) → Beside I o s r → Alike s r t u → bytes ≡ ahead I t → Fits (length t.stack.places == I.height) (ahead I t) p
    → Alike s r (after I bytes p t) (after (with_own I o) bytes p u)
after-alike I o s r bytes t u (Gap n) h a is f = moved-places s r n t u (passed t.reading) (passed u.reading) (ap passed a.reading_is) a
after-alike I o s r bytes t u (Name n) h a is f = moved-places s r n t u (named (take n bytes) t.reading) (named (take n bytes) u.reading) (ap (named (take n bytes)) a.reading_is) a
after-alike I o s r bytes t u (Token n) h a is f = moved-places s r n t u (tokened (take n bytes) t.reading) (tokened (take n bytes) u.reading) (ap (tokened (take n bytes)) a.reading_is) a
after-alike I o s r bytes t u (Reserved n) h a is f =
    moved-places s r (1 + n) t u (reserved (take n (drop 1 bytes)) t.reading) (reserved (take n (drop 1 bytes)) u.reading) (ap (reserved (take n (drop 1 bytes))) a.reading_is) a
after-alike I o s r bytes t u (Sign d) h a is f = moved-places s r 1 t u (signed d t.reading) (signed d u.reading) (ap (signed d) a.reading_is) a
after-alike I o s r bytes t u (Quote b) h a is f =
    moved-places s r 1 t u (quoted b (length t.stack.places) t.reading) (quoted b (length u.stack.places) u.reading)
    (ap (λ (n : ℕ). quoted b n u.reading) (alike-size I o s r t u h a) ∙ ap (quoted b (length t.stack.places)) a.reading_is) a
after-alike I o s r bytes t u EndQuote h a is f = moved-places s r 1 t u (unquoted t.reading) (unquoted u.reading) (ap unquoted a.reading_is) a
after-alike I o s r bytes t u (Data n) h a is f = moved-places s r n t u (with_data (take n bytes) t.reading) (with_data (take n bytes) u.reading) (ap (with_data (take n bytes)) a.reading_is) a
after-alike I o s r bytes t u (Char n x) h a is f = moved-places s r n t u (with_char x t.reading) (with_char x u.reading) (ap (with_char x) a.reading_is) a
after-alike I o s r bytes t u (NoChar n) h a is f = moved-places s r n t u (without_char t.reading) (without_char u.reading) (ap without_char a.reading_is) a
after-alike I o s r bytes t u (Refer n m) h a is f =
    subst (λ (x : Reached). Alike s r (referred I m t (reached_from I bytes t n)) (referred (with_own I o) m u x)) (sym (alike-reached I o s r bytes t u n h a))
    (referred-alike I o s r m t u (reached_from I bytes t n) a)
after-alike I o s r bytes t u TextEnd h a is f = lower-alike I s r t u h.height f a
after-alike I o s r bytes t u Closing h a is f = moved-places s r 1 t u (passed t.reading) (passed u.reading) (ap passed a.reading_is) a

-- WHERE READING BEGINS they are alike
places-of : (ps : List Place) → 0 < length ps → (k : ℕ) → moved k ps ≡ place_at (entity_of ps) (offset_of ps + k) ∷ lower ps
places-of [] some k = absurd (omega (arith, some))
places-of (p ∷ ps) some k = refl

stacks-alike : (I : Source) (o : List ℕ) (s r : Stack) (k : ℕ) (x : Reading) → Beside I o s r → 0 < length s.places → 0 < length r.places → Alike s r (state_of x (advanced k s)) (state_of x (advanced k r))
stacks-alike I o s r k x h some more = record {
  above = [];
  by = k;
  first_is = places-of s.places some k;
  second_is = places-of r.places more k;
  reading_is = refl;
  levels = h.levels;
  expand = h.expand;
  spent = h.spent;
}

same-reading : (I : Source) (o : List ℕ) (ps qs : List Place) → unread (with_own I o) qs ≡ unread I ps → length qs ≡ length ps → first_reading (with_own I o) qs ≡ first_reading I ps
same-reading I o ps qs bytes size =
    ap (λ (n : ℕ). begun I.construct n (nothing_read (first_form I.construct (begins_name I.syntax.names (unread (with_own I o) qs))))) size
    ∙ ap (λ (xs : List ℕ). begun I.construct (length ps) (nothing_read (first_form I.construct (begins_name I.syntax.names xs)))) bytes

start-alike : (I : Source) (o : List ℕ) (s r : Stack) → Beside I o s r → 0 < length s.places → 0 < length r.places → Alike s r (start I s) (start (with_own I o) r)
start-alike I o s r h some more =
    let k : ℕ = before I.construct in
    let x : Reading = first_reading I (advanced k s).places in
    let a = stacks-alike I o s r k x h some more in
    let bytes : unread (with_own I o) (advanced k r).places ≡ unread I (advanced k s).places = alike-ahead I o s r (state_of x (advanced k s)) (state_of x (advanced k r)) h a in
    let size : length (advanced k r).places ≡ length (advanced k s).places = alike-size I o s r (state_of x (advanced k s)) (state_of x (advanced k r)) h a in
    record {
      above = [];
      by = k;
      first_is = places-of s.places some k;
      second_is = places-of r.places more k;
      reading_is = same-reading I o (advanced k s).places (advanced k r).places bytes size;
      levels = h.levels;
      expand = h.expand;
      spent = h.spent;
    }

-- THE SAME PARTS are read
record Follows (I : Source) (o : List ℕ) (s r : Stack) (ps : List Part) : Type 0 where
  reads : ReadsParts (with_own I o) r ps
  alike : Alike s r (state I s ps) (state (with_own I o) r ps)

part-follows : (I : Source) (o : List ℕ) (s r : Stack) (ps : List Part) (p : Part) → Beside I o s r → is_closed I.construct ps ≡ false → next_part I (state I s ps) ≡ Ok p → Follows I o s r ps → Follows I o s r (p ∷ ps)
part-follows I o s r ps p h k is before =
    let t : State = state I s ps in
    let u : State = state (with_own I o) r ps in
    record {
      reads = (before.reads, k, alike-next I o s r t u h before.alike ∙ is);
      alike = subst (λ (bytes : List ℕ). Alike s r (after I (ahead I t) p t) (after (with_own I o) bytes p u)) (sym (alike-ahead I o s r t u h before.alike))
          (after-alike I o s r (ahead I t) t u p h before.alike refl (fits-of I t p is));
    }

follows : (I : Source) (o : List ℕ) (s r : Stack) → Beside I o s r → 0 < length s.places → 0 < length r.places → (ps : List Part) → ReadsParts I s ps → Follows I o s r ps
follows I o s r h some more [] d = record { reads = tt; alike = start-alike I o s r h some more }
follows I o s r h some more (p ∷ ps) d = part-follows I o s r ps p h d.1 d.2 (follows I o s r h some more ps d.0)

-- AT THE END nothing is open above
same-stack : (x y : Stack) → x.levels ≡ y.levels → x.expand ≡ y.expand → x.spent ≡ y.spent → x.places ≡ y.places → x ≡ y
same-stack x y a b c d =
    ap (λ (n : ℕ). record x { levels = n }) a
    ∙ ap (λ (n : ℕ). record x { levels = y.levels; expand = n }) b
    ∙ ap (λ (n : ℕ). record x { levels = y.levels; expand = y.expand; spent = n }) c
    ∙ ap (λ (n : List Place). record y { places = n }) d

moved-to-size : (n : ℕ) (ps : List Place) → length (moved_to n ps) ≡ length ps
moved-to-size n [] = refl
moved-to-size n (p ∷ ps) = refl

lower-size : (ps : List Place) → 0 < length ps → length ps ≡ suc (length (lower ps))
lower-size [] some = absurd (omega (arith, some))
lower-size (p ∷ ps) some = refl

far-places : (s r : Stack) (above : List Place) (by : ℕ) (ps qs : List Place) → 0 < length s.places → 0 < length r.places → length ps ≡ length s.places → ps ≡ further s above by → qs ≡ further r above by
    → moved (offset_of ps - offset_of s.places) r.places ≡ qs
far-places s r [] by ps qs some more size first second =
    let at : offset_of ps ≡ offset_of s.places + by = ap offset_of first in
    let far : offset_of ps - offset_of s.places ≡ by = omega (arith, at) in
    ap (λ (k : ℕ). moved k r.places) far ∙ places-of r.places more by ∙ sym second
far-places s r (b ∷ above) by ps qs some more size first second =
    let count : length ps ≡ suc (length above + suc (length (lower s.places))) = ap length first ∙ ap suc (length-append above (place_at (entity_of s.places) (offset_of s.places + by) ∷ lower s.places)) in
    let low : length s.places ≡ suc (length (lower s.places)) = lower-size s.places some in
    absurd (omega (arith, count, low, size))

whole-far : (I : Source) (o : List ℕ) (s r : Stack) (ps : List Part) → StandsAtStart I s → Beside I o s r → 0 < length r.places → ReadsParts I s ps → is_closed I.construct ps ≡ true → Follows I o s r ps
    → as_far s (state I s ps).stack r ≡ (state (with_own I o) r ps).stack
whole-far I o s r [] b h more d closed f = cc closed
whole-far I o s r (p ∷ ps) b h more d closed f =
    let t : State = state I s (p ∷ ps) in
    let u : State = state (with_own I o) r (p ∷ ps) in
    let before = so-far I s b ps d.0 d.1 in
    let step : Goes I (state I s ps) true t = subst (λ (x : Bool). Goes I (state I s ps) x t) closed (goes-of I (state I s ps) p d.2) in
    let on_top = goes-on-top I s (state I s ps) t true before.height_is before.on_top step in
    let size : length t.stack.places ≡ length s.places = ap length (ended I s (state I s ps) t b.some before step) ∙ moved-to-size (length I.own) s.places in
    let a = f.alike in
    same-stack (as_far s t.stack r) u.stack
    (h.levels ∙ sym on_top.levels_are ∙ sym a.levels) (h.expand ∙ sym on_top.expand_is ∙ sym a.expand) (sym a.spent)
    (far-places s r a.above a.by t.stack.places u.stack.places b.some more size a.first_is a.second_is)

-- at an error the stack is as it was
as-it-was : (s r : Stack) → r.spent ≡ s.spent → as_far s s r ≡ r
as-it-was s r spent = same-stack (as_far s s r) r refl refl (sym spent) (stays r.places (offset_of s.places - offset_of s.places) (omega arith))
  where
    stays : (ps : List Place) (k : ℕ) → k ≡ 0 → moved k ps ≡ ps
    stays [] k zero-is = refl
    stays (p ∷ ps) k zero-is = ap (λ (n : ℕ). place_at p.entity n ∷ ps) (omega (arith, zero-is))

stops-far : (I : Source) (o : List ℕ) (s r : Stack) (fault : Fault) → Beside I o s r → 0 < length s.places → 0 < length r.places → StopsBy I s fault → StopsBy (with_own I o) r fault
stops-far I o s r fault h some more d =
    let f = follows I o s r h some more d.parts d.reads in
    record { parts = d.parts; reads = f.reads; unfinished = d.unfinished; fault_is = alike-next I o s r (state I s d.parts) (state (with_own I o) r d.parts) h f.alike ∙ d.fault_is }

stopped-far : (I : Source) (o : List ℕ) (s r after : Stack) (fault : Fault) → Beside I o s r → 0 < length s.places → 0 < length r.places → StopsBy I s fault × (after ≡ s)
    → StopsBy (with_own I o) r fault × (as_far s after r ≡ r)
stopped-far I o s r after fault h some more d =
    (stops-far I o s r fault h some more d.0, ap (λ (x : Stack). as_far s x r) d.1 ∙ as-it-was s r h.spent)

read-far : (I : Source) (o : List ℕ) (s r : Stack) (a : Result (List Lexeme) LexError) (after : Stack) → StandsAtStart I s → Beside I o s r → 0 < length r.places → IsRead I s a after → IsRead (with_own I o) r a (as_far s after r)
read-far I o s r (Ok ds) after b h more d =
    let f = follows I o s r h b.some more d.parts d.reads in record {
      parts = d.parts;
      reads = f.reads;
      whole = d.whole;
      lexemes_are = d.lexemes_are ∙ ap (λ (x : Reading). x.lexemes) (sym f.alike.reading_is);
      stack_is = ap (λ (x : Stack). as_far s x r) d.stack_is ∙ whole-far I o s r d.parts b h more d.reads d.whole f;
    }
read-far I o s r (Err (Wanted n)) after b h more d = stopped-far I o s r after (Wanting n) h b.some more d
read-far I o s r (Err (Refused w)) after b h more d = stopped-far I o s r after (Refusing w) h b.some more d
read-far I o s r (Err NeedMore) after b h more d = absurd d
read-far I o s r (Err Memory) after b h more d = absurd d

-- THE OWN TEXTS are alike
abbrev OwnAlike : ℕ → ℕ → Own → Own → Type 0
OwnAlike m n (Whole o) (Whole x) = drop n x ≡ drop m o
OwnAlike m n Growing Growing = Unit {0}
OwnAlike m n (Bad v) (Bad w) = v ≡ w
OwnAlike m n _ _ = ⊥

without-alike : (m n : ℕ) (grows : Bool) (bytes : List ℕ) (t : Bool) → all_sgml bytes ≡ t → OwnAlike m n (without_end grows bytes) (without_end grows bytes)
without-alike m n true bytes t is = tt
without-alike m n false bytes true is = rw is refl
without-alike m n false bytes false is = rw is refl

some-alike : (m n k : ℕ) (x y : List ℕ) (t : Bool) → all_sgml (take k (drop m x)) ≡ t → drop n y ≡ drop m x
    → OwnAlike m n (if all_sgml (take k (drop m x)) then Whole (take (m + k) x) else Bad reason.NonSgml) (if all_sgml (take k (drop m x)) then Whole (take (n + k) y) else Bad reason.NonSgml)
some-alike m n k x y true is same = rw is (drop-take n k y ∙ ap (take k) same ∙ sym (drop-take m k x))
some-alike m n k x y false is same = rw is refl

own-alike-by : (names : NameSet) (grows : Bool) (m n : ℕ) (x y : List ℕ) (d : Option ℕ) → drop n y ≡ drop m x → OwnAlike m n (own_by names grows m x d) (own_by names grows n y d)
own-alike-by names grows m n x y None same =
    subst (λ (bytes : List ℕ). OwnAlike m n (without_end grows (drop m x)) (without_end grows bytes)) (sym same) (without-alike m n grows (drop m x) (all_sgml (drop m x)) refl)
own-alike-by names grows m n x y (Some k) same =
    subst (λ (bytes : List ℕ). OwnAlike m n (if all_sgml (take k (drop m x)) then Whole (take (m + k) x) else Bad reason.NonSgml) (if all_sgml (take k bytes) then Whole (take (n + k) y) else Bad reason.NonSgml)) (sym same)
    (some-alike m n k x y (all_sgml (take k (drop m x))) refl same)

-- two that ask the same, with the same syntax, entities and end
abbrev moved_ask : Asked → List (ℕ × List ℕ) → Stack → Asked
moved_ask q texts stack = record q { texts = texts; stack = stack }

record Same (q : Asked) (texts : List (ℕ × List ℕ)) (stack : Stack) : Type 0 where
  rest_is : rest (moved_ask q texts stack) ≡ rest q
  open_are : entities_on stack.places ≡ entities_on q.stack.places
  texts_are : without (entity_of stack.places) texts ≡ without (entity_of q.stack.places) q.texts
  levels_are : stack.levels ≡ q.stack.levels
  expand_is : stack.expand ≡ q.stack.expand
  spent_is : stack.spent ≡ q.stack.spent

top-same : (ps qs : List Place) → entities_on qs ≡ entities_on ps → entity_of qs ≡ entity_of ps
top-same [] [] e = refl
top-same [] (q ∷ qs) e = cc e
top-same (p ∷ ps) [] e = cc e
top-same (p ∷ ps) (q ∷ qs) e = cc e

lower-same : (ps qs : List Place) → entities_on qs ≡ entities_on ps → entities_on (lower qs) ≡ entities_on (lower ps)
lower-same [] [] e = refl
lower-same [] (q ∷ qs) e = cc e
lower-same (p ∷ ps) [] e = cc e
lower-same (p ∷ ps) (q ∷ qs) e = cc e

own-alike : (q : Asked) (texts : List (ℕ × List ℕ)) (stack : Stack) → Same q texts stack → OwnAlike (offset_of q.stack.places) (offset_of stack.places) (own q) (own (moved_ask q texts stack))
own-alike q texts stack h =
    let r : Asked = moved_ask q texts stack in
    let grows : may_grow r ≡ may_grow q = ap (λ (e : ℕ). (e == 0) && not q.ended) (top-same q.stack.places stack.places h.open_are) in
    let same : own r ≡ own_by q.syntax.names (may_grow q) (offset_of stack.places) (text r) (construct_end q.syntax.names q.construct (rest q)) =
    ap (λ (g : Bool). own_by q.syntax.names g (offset_of stack.places) (text r) (construct_end q.syntax.names q.construct (rest r))) grows
    ∙ ap (λ (bytes : List ℕ). own_by q.syntax.names (may_grow q) (offset_of stack.places) (text r) (construct_end q.syntax.names q.construct bytes)) h.rest_is in
    subst (OwnAlike (offset_of q.stack.places) (offset_of stack.places) (own q)) (sym same)
    (own-alike-by q.syntax.names (may_grow q) (offset_of q.stack.places) (offset_of stack.places) (text q) (text r) (construct_end q.syntax.names q.construct (rest q)) h.rest_is)

source-same : (q : Asked) (texts : List (ℕ × List ℕ)) (stack : Stack) (o x : List ℕ) → Same q texts stack → with_own (source q o) x ≡ source (moved_ask q texts stack) x
source-same q texts stack o x h =
    let count : length stack.places ≡ length q.stack.places = same-count q.stack.places stack.places h.open_are in
    ap (λ (n : ℕ). record (source q x) { height = n }) (sym count)
    ∙ ap (λ (ts : List (ℕ × List ℕ)). record (source q x) { height = length stack.places; texts = ts }) (sym h.texts_are)

counts-by : (q : Asked) (texts : List (ℕ × List ℕ)) (stack : Stack) (m n : Own) (a : Result (List Lexeme) LexError) (after : Stack) → is_asked q ≡ true → own q ≡ m
    → OwnAlike (offset_of q.stack.places) (offset_of stack.places) m n → Same q texts stack → AnswersBy q m a after → AnswersBy (moved_ask q texts stack) n a (as_far q.stack after stack)
counts-by q texts stack (Whole o) (Whole x) a after begun is like h d =
    let b = begins-of q o begun is in
    let some : 0 < length q.stack.places = b.some in
    let count : length stack.places ≡ length q.stack.places = same-count q.stack.places stack.places h.open_are in
    subst (λ (J : Source). IsRead J stack a (as_far q.stack after stack)) (source-same q texts stack o x h)
    (read-far (source q o) x q.stack stack a after b
    (record {
      rest = like;
      entity = top-same q.stack.places stack.places h.open_are;
      below = lower-same q.stack.places stack.places h.open_are;
      height = lower-size q.stack.places some;
      levels = h.levels_are;
      expand = h.expand_is;
      spent = h.spent_is;
    }) (omega (arith, some, count)) d)
counts-by q texts stack Growing Growing a after begun is like h d = (d.0, ap (λ (x : Stack). as_far q.stack x stack) d.1 ∙ as-it-was q.stack stack h.spent_is)
counts-by q texts stack (Bad v) (Bad w) a after begun is like h d =
    (d.0 ∙ ap (λ (y : Reason). Err (Refused y)) like, ap (λ (x : Stack). as_far q.stack x stack) d.1 ∙ as-it-was q.stack stack h.spent_is)
counts-by q texts stack _ _ a after begun is like h d = absurd like

same-ask : (q r : Asked) → AskSame q r → moved_ask q r.texts r.stack ≡ r
same-ask q r h =
    ap (λ (x : Construct). record (moved_ask q r.texts r.stack) { construct = x }) (sym h.construct_is)
    ∙ ap (λ (x : Syntax). record (moved_ask q r.texts r.stack) { construct = r.construct; syntax = x }) (sym h.syntax_is)
    ∙ ap (λ (x : List Entity). record (moved_ask q r.texts r.stack) { construct = r.construct; syntax = r.syntax; entities = x }) (sym h.entities_are)
    ∙ ap (λ (x : Bool). record r { ended = x }) (sym h.ended_is)

pub unread_counts : UnreadCounts
unread_counts q r begun h a after d =
    let same = same-ask q r h in
    let alike : Same q r.texts r.stack = record {
      rest_is = ap rest same ∙ h.rest_is;
      open_are = h.open_are;
      texts_are = h.texts_are;
      levels_are = h.levels_are;
      expand_is = h.expand_is;
      spent_is = h.spent_is;
    } in
    subst (λ (x : Asked). Answers x a (as_far q.stack after r.stack)) same
    (counts-by q r.texts r.stack (own q) (own (moved_ask q r.texts r.stack)) a after begun refl (own-alike q r.texts r.stack alike) alike d)

pub left_counts : LeftCounts
left_counts I o s r b h a after d =
    let some : 0 < length s.places = b.some in
    let count : length r.places ≡ length s.places = same-count s.places r.places h.open_are in
    read-far I o s r a after b
    (record {
      rest = h.rest_is;
      entity = top-same s.places r.places h.open_are;
      below = lower-same s.places r.places h.open_are;
      height = b.height ∙ lower-size s.places some;
      levels = h.levels_are;
      expand = h.expand_is;
      spent = h.spent_is;
    }) (omega (arith, some, count)) d
