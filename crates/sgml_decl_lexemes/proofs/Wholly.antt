-- Whether the end is reached, by the parts that are read.
use Rattle.std.proofs.Common.{◌≡◌, ℕ, zero, suc, ◌<◌, Bool, true, false, List, [], ◌∷◌, length, Result, Ok, Err, refl, sym, ◌∙◌, ap, subst, if◌then◌else◌, arith}
use Rattle.sgml_entity.specs.Stack.{Stack}
use Rattle.sgml_decl_parts.specs.declared.part.Part.{Part}
use Rattle.sgml_decl_parts.specs.Parts.{part_at}
use Rattle.sgml_decl_parts.specs.declared.ends.Construct.{Construct}
use Rattle.sgml_decl_lexemes.specs.declared.fault.Fault.{Fault}
use Rattle.sgml_decl_lexemes.specs.declared.fault.Fault.TheVariants.{Refusing}
use Rattle.sgml_decl_lexemes.specs.declared.fault.LexError.{LexError}
use Rattle.sgml_decl_lexemes.specs.Sources.{Source, unread}
use Rattle.sgml_decl_lexemes.specs.Readings.{State, EndsWithQuote, OnTop, Goes, next_part, closes, start}
use Rattle.sgml_decl_lexemes.specs.Declares.{StandsAtStart, state, is_closed, ReadsParts, Asked, Own, Whole, Growing, Bad, IsNoOwn, own, source}
use Rattle.sgml_decl_lexemes.specs.Reads.{left}
use Rattle.sgml_decl_lexemes.specs.Alike.{StacksAlike, Extends}
use Rattle.sgml_decl_lexemes.specs.Wholeness.{is_end, stands_end, end_unless, reaches_end, is_whole_in, reaches_by, is_end_reached, AlikeIsWhole}
use Rattle.sgml_decl_lexemes.proofs.Alike.{length-alike, unread-alike}
use Rattle.sgml_decl_lexemes.proofs.Independent.{StatesAlike, Stands, along, refused-next, here-alike, ahead-alike, stands-of, lowered}
use Rattle.sgml_decl_lexemes.proofs.Going.{SoFar, goes-next, goes-on-top}
use Rattle.sgml_decl_lexemes.proofs.Running.{less-left}

-- WHERE READING IS after some parts: it goes on from there, with more turns than are left
record At (I : Source) (s : Stack) (ps : List Part) : Type 0 where
  turns : ℕ
  enough : left I (state I s ps).stack < turns
  is : is_whole_in I s ≡ reaches_end turns I (state I s ps)

-- one part more
record Turned (I : Source) (s : Stack) (ps : List Part) (r : Result Part Fault) : Type 0 where
  fewer : ℕ
  enough : left I (state I s ps).stack < suc fewer
  is : is_whole_in I s ≡ end_unless I (state I s ps) (λ u. reaches_end fewer I u) r

turned : (I : Source) (s : Stack) (ps : List Part) → At I s ps → Turned I s ps (next_part I (state I s ps))
turned I s ps a = by a.turns a.enough a.is
  where
    by : (n : ℕ) → left I (state I s ps).stack < n → is_whole_in I s ≡ reaches_end n I (state I s ps) → Turned I s ps (next_part I (state I s ps))
    by zero few is = absurd (omega (arith, few))
    by (suc n) few is = record { fewer = n; enough = few; is = is }

at : (I : Source) (s : Stack) → StandsAtStart I s → (ps : List Part) → ReadsParts I s ps → is_closed I.construct ps ≡ false → At I s ps
at I s b [] h k = record { turns = suc (left I (start I s).stack); enough = omega arith; is = refl }
at I s b (p ∷ ps) h k =
    let t = turned I s ps (at I s b ps h.0 h.1) in
    let less = less-left I s b ps p h.0 h.1 h.2 in
    let few = t.enough in record {
      turns = t.fewer;
      enough = omega (arith, few, less);
      is = t.is
          ∙ ap (end_unless I (state I s ps) (λ u. reaches_end t.fewer I u)) h.2
          ∙ ap (λ (b : Bool). if b then true else reaches_end t.fewer I (state I s (p ∷ ps))) k;
    }

-- where it stops, the part that stands there decides
stops : (I : Source) (s : Stack) (ps : List Part) (fault : Fault) → StandsAtStart I s → ReadsParts I s ps → is_closed I.construct ps ≡ false → next_part I (state I s ps) ≡ Err fault
    → is_whole_in I s ≡ stands_end I (state I s ps)
stops I s ps fault b h k e =
    let t = turned I s ps (at I s b ps h k) in
    t.is ∙ ap (end_unless I (state I s ps) (λ u. reaches_end t.fewer I u)) e

-- and where it ends, it is reached
ends : (I : Source) (s : Stack) (ps : List Part) (p : Part) → StandsAtStart I s → ReadsParts I s ps → is_closed I.construct ps ≡ false → next_part I (state I s ps) ≡ Ok p → closes I.construct p ≡ true
    → is_whole_in I s ≡ true
ends I s ps p b h k e c =
    let t = turned I s ps (at I s b ps h k) in
    t.is
    ∙ ap (end_unless I (state I s ps) (λ u. reaches_end t.fewer I u)) e
    ∙ ap (λ (b : Bool). if b then true else reaches_end t.fewer I (state I s (p ∷ ps))) c

-- WHAT THE READER TELLS
pub begun : (I : Source) (s : Stack) → 0 < length s.places → I.height ≡ length s.places → EndsWithQuote I.construct (unread I s.places) → StandsAtStart I s
begun I s some height quote = record { some = some; height = height; quote = quote }

pub told-end : (I : Source) (s : Stack) (t : State) (fault : Fault) (end : Bool) → StandsAtStart I s → SoFar I s t → next_part I t ≡ Err fault → end ≡ stands_end I t → end ≡ is_whole_in I s
told-end I s t fault end b h e is =
    is ∙ ap (stands_end I) h.state_is ∙ sym (stops I s h.parts fault b h.reads h.unfinished (ap (next_part I) (sym h.state_is) ∙ e))

pub whole-end : (I : Source) (s : Stack) (t next : State) → StandsAtStart I s → SoFar I s t → Goes I t true next → true ≡ is_whole_in I s
whole-end I s t next b h g =
    sym (ends I s h.parts g.part b h.reads h.unfinished (ap (next_part I) (sym h.state_is) ∙ goes-next I t next true g) g.done_is)

pub whole-on-top : (I : Source) (s : Stack) (t next : State) → SoFar I s t → Goes I t true next → OnTop s next.stack
whole-on-top I s t next h g = goes-on-top I s t next true h.height_is h.on_top g

-- by its own text
pub reached-whole : (q : Asked) (o : List ℕ) (I : Source) (end : Bool) → Whole o ≡ own q → I ≡ source q o → end ≡ is_whole_in I q.stack → end ≡ is_end_reached q
reached-whole q o I end is same e = e ∙ ap (λ (J : Source). is_whole_in J q.stack) same ∙ ap (reaches_by q) is

no-end-by : (q : Asked) (o : Own) (e : LexError) → IsNoOwn o e → false ≡ reaches_by q o
no-end-by q (Whole t) e h = absurd h
no-end-by q Growing e h = refl
no-end-by q (Bad why) e h = refl

pub no-end : (q : Asked) (o : Own) (e : LexError) → o ≡ own q → IsNoOwn o e → false ≡ is_end_reached q
no-end q o e is h = no-end-by q o e h ∙ ap (reaches_by q) is

-- ALIKE: the same parts are read, and the same part stands there
begins-alike : (I J : Source) (s t : Stack) → Extends I J → StacksAlike I J s t → StandsAtStart I s → StandsAtStart J t
begins-alike I J s t x a b =
    let count = length-alike I J s t a in
    let some : 0 < length s.places = b.some in
    let height = b.height in record {
      some = omega (arith, count, some);
      height = sym x.height ∙ b.height ∙ count;
      quote = subst (EndsWithQuote J.construct) (unread-alike I J s.places t.places a.places some (omega (arith, height)))
          (subst (λ (c : Construct). EndsWithQuote c (unread I s.places)) x.construct b.quote);
    }

end-alike : (I J : Source) (t u : State) → Extends I J → StatesAlike I J t u → Stands I t → stands_end J u ≡ stands_end I t
end-alike I J t u x a s =
    sym (λ i. is_end (x.construct i) (part_at (x.syntax i).names (x.syntax i).general_fold (here-alike I J t u x a i) (ahead-alike I J t u a s i)))

pub alike-whole : AlikeIsWhole
alike-whole I J s z r x a some height quote d =
    let b = begun I s some height quote in
    let under = height ∙ lowered s.places some in
    let h = along I J s z d.parts x a some height under d.reads in
    let t = state I s d.parts in
    let u = state J z d.parts in
    stops J z d.parts (Refusing r) (begins-alike I J s z x a b) h.reads (ap (λ (c : Construct). is_closed c d.parts) (sym x.construct) ∙ d.unfinished)
    (refused-next I J t u r x h.alike (stands-of I s t under h.on_top) d.fault_is)
    ∙ end-alike I J t u x h.alike (stands-of I s t under h.on_top)
    ∙ sym (stops I s d.parts (Refusing r) b d.reads d.unfinished d.fault_is)
