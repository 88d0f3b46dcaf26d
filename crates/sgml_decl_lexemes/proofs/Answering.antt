-- The answer about a declaration, from its own text and its parts.
use Rattle.std.proofs.Common.{◌≡◌, ℕ, suc, ◌+◌, ◌-◌, ◌<◌, ◌≤◌, Bool, true, List, [], ◌∷◌, length, drop, Some, Ok, Err, refl, sym, ◌∙◌, ap, subst, ◌==◌, ◌&&◌, not, arith}
use Rattle.sgml_text.specs.declared.place.Place.{Place}
use Rattle.sgml_entity.specs.declared.kinds.Entity.{Entity}
use Rattle.sgml_entity.specs.declared.places.StackMark.{StackMark}
use Rattle.sgml_entity.specs.Stack.{Stack, top_of, offset_of, lower, moved_to}
use Rattle.sgml_decl_parts.specs.Ends.{before, construct_end}
use Rattle.sgml_decl_parts.specs.declared.ends.Construct.{Construct}
use Rattle.sgml_decl_parts.specs.declared.ends.Construct.TheVariants as construct
use Rattle.sgml_decl_lexemes.specs.declared.lexeme.Lexeme.{Lexeme}
use Rattle.sgml_decl_lexemes.specs.declared.fault.LexError.{LexError}
use Rattle.sgml_decl_lexemes.specs.declared.fault.LexError.TheVariants.{Refused, Wanted, NeedMore, Memory}
use Rattle.sgml_decl_lexemes.specs.Sources.{Source, without, text_at, or_empty}
use Rattle.sgml_decl_lexemes.specs.Readings.{entity_of, OnTop}
use Rattle.sgml_decl_lexemes.specs.Declares.{Asked, Own, Whole, Growing, Bad, IsNoOwn, HasLexemes, IsStop, IsRead, AnswersBy, Answers, AnswersError, own, own_by, source, text, may_grow, begins, is_begun}
use Rattle.sgml_decl_lexemes.proofs.Going.{restored, stands-length}

-- the declaration begins
begun-by : (c : Construct) (es : List Entity) (texts : List (ℕ × List ℕ)) (ps : List Place) → begins c es texts ps ≡ true → 0 < length ps
begun-by c es texts [] is = cc
begun-by c es texts (p ∷ ps) is = omega arith

pub begun-some : (c : Construct) (es : List Entity) (texts : List (ℕ × List ℕ)) (ps : List Place) → begins c es texts ps ≡ true → 0 < length ps
begun-some c es texts ps is = begun-by c es texts ps is

enough : (c : Construct) (bytes : List ℕ) → is_begun c bytes ≡ true → before c ≤ length bytes
enough construct.Declaration [] is = cc
enough construct.Declaration (a ∷ []) is = cc
enough construct.Declaration (a ∷ b ∷ bytes) is = omega arith
enough construct.SectionStart [] is = cc
enough construct.SectionStart (a ∷ []) is = cc
enough construct.SectionStart (a ∷ b ∷ []) is = cc
enough construct.SectionStart (a ∷ b ∷ c ∷ bytes) is = omega arith
enough construct.SubsetEnd [] is = cc
enough construct.SubsetEnd (a ∷ bytes) is = omega arith
enough (construct.Literal quote) bytes is = omega arith

some-same : (p q : Place) → Some p ≡ Some q → p ≡ q
some-same p q e = cc

pub begun-enough : (c : Construct) (es : List Entity) (texts : List (ℕ × List ℕ)) (ps : List Place) (q : Place) → begins c es texts ps ≡ true → top_of ps ≡ Some q
    → before c ≤ length (drop q.at (or_empty (text_at es texts q.entity)))
begun-enough c es texts [] q is top = cc
begun-enough c es texts (p ∷ ps) q is top =
    subst (λ (x : Place). before c ≤ length (drop x.at (or_empty (text_at es texts x.entity)))) (some-same p q top) (enough c (drop p.at (or_empty (text_at es texts p.entity))) is)

-- the place at the top
entity-is : (ps : List Place) (q : Place) → top_of ps ≡ Some q → entity_of ps ≡ q.entity
entity-is [] q top = cc
entity-is (p ∷ ps) q top = ap (λ (x : Place). x.entity) (some-same p q top)

offset-is : (ps : List Place) (q : Place) → top_of ps ≡ Some q → offset_of ps ≡ q.at
offset-is [] q top = cc
offset-is (p ∷ ps) q top = ap (λ (x : Place). x.at) (some-same p q top)

pub own-is : (q : Asked) (p : Place) (grows : Bool) (t : List ℕ) → top_of q.stack.places ≡ Some p → grows ≡ ((p.entity == 0) && not q.ended)
    → t ≡ or_empty (text_at q.entities q.texts p.entity) → own_by q.syntax.names grows p.at t (construct_end q.syntax.names q.construct (drop p.at t)) ≡ own q
own-is q p grows t top grown is =
    let entity : entity_of q.stack.places ≡ p.entity = entity-is q.stack.places p top in
    let offset : offset_of q.stack.places ≡ p.at = offset-is q.stack.places p top in
    let same_text : t ≡ text q = is ∙ ap (λ (e : ℕ). or_empty (text_at q.entities q.texts e)) (sym entity) in
    let same_grows : grows ≡ may_grow q = grown ∙ ap (λ (e : ℕ). (e == 0) && not q.ended) (sym entity) in
    ap (λ (g : Bool). own_by q.syntax.names g p.at t (construct_end q.syntax.names q.construct (drop p.at t))) same_grows
    ∙ ap (λ (x : List ℕ). own_by q.syntax.names (may_grow q) p.at x (construct_end q.syntax.names q.construct (drop p.at x))) same_text
    ∙ ap (λ (at : ℕ). own_by q.syntax.names (may_grow q) at (text q) (construct_end q.syntax.names q.construct (drop at (text q)))) (sym offset)

no-own-by : (q : Asked) (o : Own) (e : LexError) → own q ≡ o → IsNoOwn o e → AnswersError q e q.stack
no-own-by q (Whole t) e is h = absurd h
no-own-by q Growing e is h = subst (λ (x : LexError). AnswersError q x q.stack) (sym h) (subst (λ (o : Own). AnswersBy q o (Err NeedMore) q.stack) (sym is) (refl, refl))
no-own-by q (Bad why) e is h = subst (λ (x : LexError). AnswersError q x q.stack) (sym h) (subst (λ (o : Own). AnswersBy q o (Err (Refused why)) q.stack) (sym is) (refl, refl))

-- no own text
pub no-own : (q : Asked) (o : Own) (e : LexError) → o ≡ own q → IsNoOwn o e → AnswersError q e q.stack
no-own q o e is h = no-own-by q o e (sym is) h

-- what it is read with
pub source-is : (q : Asked) (p : Place) (t : List ℕ) (height : ℕ) → top_of q.stack.places ≡ Some p → height ≡ length q.stack.places
    → (record { construct = q.construct; syntax = q.syntax; entities = q.entities; texts = without p.entity q.texts; own = t; height = height }) ≡ source q t
source-is q p t height top is =
    ap (λ (h : ℕ). record (source q t) { texts = without p.entity q.texts; height = h }) is
    ∙ ap (λ (e : ℕ). record (source q t) { texts = without e q.texts }) (sym (entity-is q.stack.places p top))

pub whole-ok : (q : Asked) (t : List ℕ) (I : Source) (ds : List Lexeme) (after : Stack) → Whole t ≡ own q → I ≡ source q t → HasLexemes I q.stack ds after → Answers q (Ok ds) after
whole-ok q t I ds after is same d =
    subst (λ (o : Own). AnswersBy q o (Ok ds) after) is (subst (λ (J : Source). HasLexemes J q.stack ds after) same d)

stop-read : (I : Source) (s : Stack) (e : LexError) → IsStop I s e → (Memory ≡ e → ⊥) → IsRead I s (Err e) s
stop-read I s Memory d other = absurd (other refl)
stop-read I s (Wanted n) d other = (d, refl)
stop-read I s (Refused r) d other = (d, refl)
stop-read I s NeedMore d other = absurd d

pub whole-err : (q : Asked) (t : List ℕ) (I : Source) (e : LexError) → Whole t ≡ own q → I ≡ source q t → IsStop I q.stack e → AnswersError q e q.stack
whole-err q t I Memory is same d = tt
whole-err q t I (Wanted n) is same d =
    subst (λ (o : Own). AnswersBy q o (Err (Wanted n)) q.stack) is (subst (λ (J : Source). IsRead J q.stack (Err (Wanted n)) q.stack) same (stop-read I q.stack (Wanted n) d (λ e. cc)))
whole-err q t I (Refused r) is same d =
    subst (λ (o : Own). AnswersBy q o (Err (Refused r)) q.stack) is (subst (λ (J : Source). IsRead J q.stack (Err (Refused r)) q.stack) same (stop-read I q.stack (Refused r) d (λ e. cc)))
whole-err q t I NeedMore is same d = absurd d

-- going back
same-stack : (x y : Stack) → x.levels ≡ y.levels → x.expand ≡ y.expand → x.spent ≡ y.spent → x.places ≡ y.places → x ≡ y
same-stack x y a b c d =
    ap (λ (n : ℕ). record x { levels = n }) a
    ∙ ap (λ (n : ℕ). record x { levels = y.levels; expand = n }) b
    ∙ ap (λ (n : ℕ). record x { levels = y.levels; expand = y.expand; spent = n }) c
    ∙ ap (λ (n : List Place). record y { places = n }) d

pub rewound : (s t : Stack) (m : StackMark) → 0 < length s.places → OnTop s t → m.depth + 1 ≡ length s.places → m.at ≡ offset_of s.places → m.spent ≡ s.spent
    → (record t { places = moved_to m.at (drop (length t.places - (m.depth + 1)) t.places); spent = m.spent }) ≡ s
rewound s t m some h depth at spent =
    same-stack (record t { places = moved_to m.at (drop (length t.places - (m.depth + 1)) t.places); spent = m.spent }) s
    h.levels_are h.expand_is spent (restored s t m.depth m.at some h depth at)

lowered : (ps : List Place) → 0 < length ps → length ps ≡ suc (length (lower ps))
lowered [] some = absurd (omega arith)
lowered (p ∷ ps) some = refl

pub deep : (s t : Stack) (depth : ℕ) → 0 < length s.places → OnTop s t → depth + 1 ≡ length s.places → depth < length t.places
deep s t depth some h is =
    let low : suc (length (lower s.places)) ≤ length t.places = stands-length (entity_of s.places) (lower s.places) t.places h.stands in
    let tail : length s.places ≡ suc (length (lower s.places)) = lowered s.places some in
    omega (arith, low, tail, is)
