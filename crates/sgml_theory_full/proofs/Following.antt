-- The events of what was read may be written.
use Rattle.std.proofs.Common.{◌≡◌, ℕ, suc, Bool, true, false, not, ◌&&◌, ◌||◌, ◌==◌, List, [], ◌∷◌, ◌++◌, map, Option, Some, None, is_some, length, refl, sym, ◌∙◌, ap, subst, append_assoc, append-nil, arith}
use Rattle.std.specs.List.{list_any}
use Rattle.std.proofs.lemmas.Bool.{eqb-true}
use Rattle.sgml_theory_values.specs.entity.declared.kinds.Body.{Body}
use Rattle.sgml_theory_values.specs.entity.declared.kinds.Body.TheVariants as body
use Rattle.sgml_theory_values.specs.records.Items.{Item, RecordEnd, Data as DataItem}
use Rattle.sgml_theory_values.specs.records.Facts.{Facts, takes_end, noted, all_noted}
use Rattle.sgml_theory_values.specs.model.Choice.{left_by}
use Rattle.sgml_theory_values.specs.delim.declared.delim.Mode.{Mode}
use Rattle.sgml_theory_values.specs.delim.declared.delim.Mode.TheVariants as mode
use Rattle.sgml_theory_values.specs.dtd.Doctypes.{Doctype}
use Rattle.sgml_theory_values.specs.theory_reading.Names.{Name, Text}
use Rattle.sgml_theory_values.specs.theory_reading.Types.{body_of, Content, Model, Any, Cdata, Rcdata, Void, type_of}
use Rattle.sgml_theory_values.specs.theory_reading.Pieces.{Piece, Kind, Char, Data, Re, Pi}
use Rattle.sgml_theory_values.specs.theory_reading.Facets.{Token, Pcdata, Stays, StaysInText, items_of, token, effect, declares, is_start, is_omitted_start, is_finish, turn}
use Rattle.sgml_theory_values.specs.theory_reading.Context.{Level, Context, context_after, levels_with, levels_after, token_taken}
use Rattle.sgml_theory_values.specs.theory_reading.Omission.{is_declared_token, document_name, level_content, left_in, left_of, fits_content, fits_in, fits, is_included, is_excluded, is_token_in, allowed}
use Rattle.sgml_theory_values.specs.theory_reading.State.{State, after_piece, ends_after, first_noted}
use Rattle.sgml_theory_values.specs.theory_reading.Characters.{has_text, level_has_text, kind_noted, facts_in}
use Rattle.sgml_theory_values.specs.theory_reading.Reads.{undefined, judged}
use Rattle.sgml_theory_values.specs.theory_reading.Reasons.{Stands, is_inside}
use Rattle.sgml_theory_values.specs.theory_reading.Events.{Event as Said, Byte, SpecificData, Instruction, shown, told_by, body_events, events_at}
use Rattle.sgml_theory_values.proofs.theory_reading.Again.{data-goes-on, data-leaves}
use Rattle.sgml_theory_values.specs.theory_spelling.Attributes.{unvalued}
use Rattle.sgml_theory_values.specs.theory_spelling.Places.{element_mode}
use Rattle.sgml_theory_values.specs.theory_reading.Nest.{without_first}
use Rattle.sgml_theory_values.specs.theory_spelling.Spelled.{forms}
use Rattle.sgml_theory_full.specs.Named.{AllAre}
use Rattle.sgml_theory_values.specs.full.declared.inside.Inside.{Inside}
use Rattle.sgml_theory_values.specs.full.Full.{after_said}
use Rattle.sgml_theory_full.specs.Spellings.{after_all, spellings}
use Rattle.sgml_theory_full.specs.Points.{HasReferences}
use Rattle.sgml_theory_full.specs.Written.{piece_in, state_by}
use Rattle.sgml_theory_full.specs.Conforming.{IsPlain, mode_in, DataMayBe, OtherMayBe, Within, InContent, inside_for, EventsMayBe}
use Rattle.sgml_theory_written.specs.Alike.{plain_level}
use Rattle.sgml_theory_full.specs.Following.{waits, has_events, DataHolds, bared, datum, LikeContexts, Follows, WrittenTo}
use Rattle.sgml_theory_full.proofs.Plain.{true-false, both}
use Rattle.sgml_theory_full.proofs.Conforming.{Plainly, stays-plain, char-plainly, specific-plainly, instruction-plainly}
use Rattle.sgml_theory_full.proofs.RawParts.{put}
use Rattle.sgml_theory_full.proofs.Told.{one_of}

-- WHAT IS THE SAME WITHOUT NET

bare-any : (p : Level → Bool) → ((l : Level) → p (plain_level l) ≡ p l) → (ls : List Level) → list_any p (map plain_level ls) ≡ list_any p ls
bare-any p f [] = refl
bare-any p f (l ∷ ls) = ap (λ t. t || list_any p (map plain_level ls)) (f l) ∙ ap (λ t. p l || t) (bare-any p f ls)

bare-included : (c : Context) (k : Token) → is_included c.doctype (map plain_level c.levels) k ≡ is_included c.doctype c.levels k
bare-included c k = bare-any (λ (l : Level). is_token_in k (type_of c.doctype l.element).body.included) (λ l. refl) c.levels

bare-excluded : (c : Context) (k : Token) → is_excluded (bared c) k ≡ is_excluded c k
bare-excluded c k = bare-any (λ (l : Level). is_token_in k (type_of c.doctype l.element).body.excluded) (λ l. refl) c.levels

bare-left : (d : Doctype) (ls : List Level) (begun : Bool) → left_in d (map plain_level ls) begun ≡ left_in d ls begun
bare-left d [] true = refl
bare-left d [] false = refl
bare-left d (l ∷ ls) begun = refl

fits-by : (c e : Context) (x : Content) (k : Token) → left_of e ≡ left_of c → e.doctype ≡ c.doctype → is_included e.doctype e.levels k ≡ is_included c.doctype c.levels k → fits_content e x k ≡ fits_content c x k
fits-by c e (Model term) k l d i = ap (λ r. is_some (left_by r k) || is_included e.doctype e.levels k) l ∙ ap (λ t. is_some (left_by (left_of c) k) || t) i
fits-by c e Any k l d i = ap (λ x. is_declared_token x k) d
fits-by c e Cdata k l d i = refl
fits-by c e Rcdata k l d i = refl
fits-by c e Void k l d i = refl

bare-fits-in : (c : Context) (ls : List Level) (k : Token) → c.levels ≡ ls → fits_in (bared c) (map plain_level ls) k ≡ fits_in c ls k
bare-fits-in c [] k e = ap (λ r. is_some (left_by r k)) (bare-left c.doctype c.levels c.begun)
bare-fits-in c (l ∷ ls) k e = fits-by c (bared c) (level_content c l) k (bare-left c.doctype c.levels c.begun) refl (bare-included c k)

pub bare-allowed : (c : Context) (k : Token) → allowed (bared c) k ≡ allowed c k
unfolding allowed
bare-allowed c k = ap (λ t. t && not (is_excluded (bared c) k)) (bare-fits-in c c.levels k refl) ∙ ap (λ t. fits c k && not t) (bare-excluded c k)

pub bare-depth : (ls : List Level) → length (map plain_level ls) ≡ length ls
bare-depth [] = refl
bare-depth (l ∷ ls) = ap suc (bare-depth ls)

bare-text : (d : Doctype) (ls : List Level) → level_has_text d (map plain_level ls) ≡ level_has_text d ls
bare-text d [] = refl
bare-text d (l ∷ ls) = refl

bare-mode : (d : Doctype) (ls : List Level) → element_mode d (map plain_level ls) ≡ element_mode d ls
bare-mode d [] = refl
bare-mode d (l ∷ ls) = refl

-- AFTER A PIECE
pub bare-with : (k k' : Kind) (ls : List Level) → token k' ≡ token k → levels_with k' (map plain_level ls) ≡ map plain_level (levels_with k ls)
bare-with k k' [] e = refl
bare-with k k' (l ∷ ls) e = ap (λ t. record { element = l.element; left = token_taken t l.left; slash = false } ∷ map plain_level ls) e

-- PIECES THAT STAY in the innermost element
pub record Staying (k : Kind) : Type 0 where
  pub stays : effect k ≡ Stays
  pub types : (d : Doctype) → declares k d ≡ d
  pub no_start : is_start k ≡ false
  pub visible : is_omitted_start k ≡ false

abbrev pub with_levels : Context → List Level → Context
with_levels c ls = record { doctype = c.doctype; levels = ls; begun = c.begun; inferred = false }

pub context-stays : (p : Piece) (c : Context) → Staying p.kind → context_after p c ≡ with_levels c (levels_with p.kind c.levels)
unfolding context_after
context-stays p c s = λ i. record {
  doctype = s.types c.doctype i;
  levels = ap (λ e. levels_after c.doctype e p.kind c.levels) s.stays i;
  begun = ap (λ t. t || c.begun) s.no_start i;
  inferred = s.visible i;
}

pub bared-stays : (p q : Piece) (c : Context) → Staying p.kind → Staying q.kind → token q.kind ≡ token p.kind → context_after q (bared c) ≡ bared (context_after p c)
bared-stays p q c s t e =
    context-stays q (bared c) t ∙ ap (with_levels c) (bare-with p.kind q.kind c.levels e) ∙ ap bared (sym (context-stays p c s))

no-token : (k : Kind) (ls : List Level) → token k ≡ None → levels_with k ls ≡ ls
no-token k [] e = refl
no-token k (l ∷ ls) e = ap (λ t. record { element = l.element; left = token_taken t l.left; slash = l.slash } ∷ ls) e

pub bared-same : (p : Piece) (c : Context) → Staying p.kind → token p.kind ≡ None → bared (context_after p c) ≡ bared c
bared-same p c s e = ap bared (context-stays p c s) ∙ ap (λ ls. with_levels c (map plain_level ls)) (no-token p.kind c.levels e)

same-token : (j k : Kind) (ls : List Level) → token j ≡ token k → levels_with j ls ≡ levels_with k ls
same-token j k [] e = refl
same-token j k (l ∷ ls) e = ap (λ t. record { element = l.element; left = token_taken t l.left; slash = l.slash } ∷ ls) e

pub char-stays : (b : ℕ) → Staying (Char b)
unfolding effect declares is_start is_omitted_start
char-stays b = record { stays = refl; types = λ d. refl; no_start = refl; visible = refl }

pub char-token : (b : ℕ) → token (Char b) ≡ Some Pcdata
unfolding token
char-token b = refl

pub as-datum : (p : Piece) (c : Context) → Staying p.kind → token p.kind ≡ Some Pcdata → context_after p c ≡ context_after datum c
as-datum p c s e =
    context-stays p c s ∙ ap (with_levels c) (same-token p.kind (Char 0) c.levels (e ∙ sym (char-token 0))) ∙ sym (context-stays datum c (char-stays 0))

pub datum-again : (c : Context) → context_after datum (context_after datum c) ≡ context_after datum c
datum-again c = data-leaves c datum datum (char-token 0) (char-token 0)

-- data is allowed in an element alone
not-none : (n : ℕ) → not (suc n == 0) ≡ true
not-none n = go (suc n == 0) refl
  where
    go : (t : Bool) → (suc n == 0) ≡ t → not t ≡ true
    go true e = absurd (let z = eqb-true (suc n) 0 e in omega (arith, z))
    go false e = refl

inside-by : (c : Context) (ls : List Level) → c.levels ≡ ls → fits_in c ls Pcdata ≡ true → is_inside c ≡ true
inside-by c (l ∷ ls) e h = ap (λ x. not (length x == 0)) e ∙ not-none (length ls)
inside-by c [] e h = nothing c.doctype.name (ap (λ x. left_in c.doctype x c.begun) e) c.begun refl
  where
    by : (n : Option Name) → true ≡ is_some (left_by (document_name n) Pcdata) → is_inside c ≡ true
    by None k = true-false k
    by (Some n) k = true-false k

    nothing : (n : Option Name) → left_of c ≡ left_in c.doctype [] c.begun → (t : Bool) → c.begun ≡ t → is_inside c ≡ true
    nothing n l true t = true-false (sym h ∙ ap (λ r. is_some (left_by r Pcdata)) (l ∙ ap (left_in c.doctype []) t))
    nothing n l false t = by c.doctype.name (sym h ∙ ap (λ r. is_some (left_by r Pcdata)) (l ∙ ap (left_in c.doctype []) t))

inside-of : (c : Context) → allowed c Pcdata ≡ true → is_inside c ≡ true
unfolding allowed
inside-of c h = inside-by c c.levels refl (both (fits c Pcdata) (not (is_excluded c Pcdata)) h).0

datum-allowed : (c : Context) → allowed c Pcdata ≡ true → allowed (context_after datum c) Pcdata ≡ true
datum-allowed c h = (data-goes-on c datum datum (char-token 0) (char-token 0) h (inside-of c h)).allowed

-- what is told of the innermost element alone
with-text : (d : Doctype) (k : Kind) (ls : List Level) → level_has_text d (levels_with k ls) ≡ level_has_text d ls
with-text d k [] = refl
with-text d k (l ∷ ls) = refl

with-mode : (d : Doctype) (k : Kind) (ls : List Level) → element_mode d (levels_with k ls) ≡ element_mode d ls
with-mode d k [] = refl
with-mode d k (l ∷ ls) = refl

abbrev text_of_context : Context → Bool
text_of_context c = level_has_text c.doctype c.levels

abbrev mode_of_context : Context → Mode
mode_of_context c = element_mode c.doctype c.levels

text-is : (s : State) → has_text s ≡ text_of_context s.context
unfolding has_text
text-is s = refl

datum-text : (c : Context) → text_of_context (context_after datum c) ≡ text_of_context c
datum-text c = ap text_of_context (context-stays datum c (char-stays 0)) ∙ with-text c.doctype (Char 0) c.levels

datum-mode : (c : Context) → mode_of_context (context_after datum c) ≡ mode_of_context c
datum-mode c = ap mode_of_context (context-stays datum c (char-stays 0)) ∙ with-mode c.doctype (Char 0) c.levels

-- DATA THAT MAY STAND in one may stand in the other
pub data-same : (a b : State) → b.context ≡ bared a.context → DataHolds a → DataHolds b
data-same a b e h = record {
  stands = record {
    allowed_there = ap (λ c. allowed c Pcdata) e ∙ bare-allowed a.context Pcdata ∙ h.stands.allowed_there;
    text = text-is b ∙ ap text_of_context e ∙ bare-text a.context.doctype a.context.levels ∙ sym (text-is a) ∙ h.stands.text;
  };
  mode = subst HasReferences (sym (ap mode_of_context e ∙ bare-mode a.context.doctype a.context.levels)) h.mode;
}

pub data-next : (b c : State) → c.context ≡ context_after datum b.context → DataHolds b → DataHolds c
data-next b c e h = record {
  stands = record {
    allowed_there = ap (λ x. allowed x Pcdata) e ∙ datum-allowed b.context h.stands.allowed_there;
    text = text-is c ∙ ap text_of_context e ∙ datum-text b.context ∙ sym (text-is b) ∙ h.stands.text;
  };
  mode = subst HasReferences (sym (ap mode_of_context e ∙ datum-mode b.context)) h.mode;
}

-- WRITING EVENTS one after another
pub none-from : (d : Doctype) (w : Within) (b : State) → WrittenTo d w b [] w b
none-from d w b = record { may = λ more h. h; state_is = λ more. refl; inside_is = refl }

pub after-append : (d : Doctype) (i : Inside) (es fs : List Said) → after_all d i (es ++ fs) ≡ after_all d (after_all d i es) fs
after-append d i [] fs = refl
after-append d i (e ∷ es) fs = after-append d (after_said d i e) es fs

pub then-from : (d : Doctype) (w v u : Within) (b c e : State) (es fs : List Said) → WrittenTo d w b es v c → WrittenTo d v c fs u e → WrittenTo d w b (es ++ fs) u e
then-from d w v u b c e es fs p q = record {
  may = λ more h. subst (EventsMayBe d w b) (sym (append_assoc es fs more)) (p.may (fs ++ more) (q.may more h));
  state_is = λ more. ap (λ l. state_by b (spellings d (inside_for w) l)) (append_assoc es fs more) ∙ p.state_is (fs ++ more) ∙ q.state_is more;
  inside_is = after-append d (inside_for w) es fs ∙ ap (λ i. after_all d i fs) p.inside_is ∙ q.inside_is;
}

-- where references are recognised
abbrev pub Written : Doctype → State → List Said → State → Type 0
Written d b es c = WrittenTo d InContent b es InContent c

pub none-written : (d : Doctype) (b : State) → Written d b [] b
none-written d b = none-from d InContent b

pub then-written : (d : Doctype) (b c e : State) (es fs : List Said) → Written d b es c → Written d c fs e → Written d b (es ++ fs) e
then-written d b c e es fs p q = then-from d InContent InContent InContent b c e es fs p q

-- a datum
pub record DatumWritten (d : Doctype) (b : State) (es : List Said) : Type 0 where
  pub after : State
  pub written : Written d b es after
  pub plain : IsPlain after
  pub context_is : after.context ≡ context_after datum b.context

pub data-may : (b : State) (k : Kind) → DataHolds b → token k ≡ Some Pcdata → undefined b.context k ≡ None → unvalued b k ≡ None → turn k ≡ StaysInText → is_finish k ≡ false → is_start k ≡ false → DataMayBe b k
data-may b k h t u v w f s = record {
  mode = h.mode;
  text = h.stands.text;
  stands = record { declared = u; stands = subst (Stands b.context k) (sym t) (h.stands.allowed_there, λ e. true-false (sym e ∙ s)); valued = v; within = w; goes_on = f };
}

byte-may : (b : State) (x : ℕ) → DataHolds b → DataMayBe b (Char x)
unfolding token unvalued turn is_finish is_start
byte-may b x h = data-may b (Char x) h refl refl refl refl refl refl

specific-may : (b : State) (e : ℕ) → DataHolds b → DataMayBe b (Data e)
unfolding token unvalued turn is_finish is_start
specific-may b e h = data-may b (Data e) h refl refl refl refl refl refl

byte-context : (b : State) (p : Piece) (x : ℕ) → p.kind ≡ Char x → (after_piece p b).context ≡ context_after datum b.context
unfolding after_piece
byte-context b p x e = as-datum p b.context (subst Staying (sym e) (char-stays x)) (ap token e ∙ char-token x)

char-noted : (b : State) (x : ℕ) → kind_noted b (Char x) ≡ Char x
unfolding kind_noted
char-noted b x = refl

byte-written : (d : Doctype) (b : State) (x : ℕ) → IsPlain b → DataHolds b → DatumWritten d b (Byte x ∷ [])
byte-written d b x plain h =
    let p = piece_in b (one_of d (Byte x)) in
    let is : p.kind ≡ Char x = ap (judged b.context) (char-noted b x) in record {
      after = after_piece p b;
      written = record { may = λ more k. (byte-may b x h, refl, k); state_is = λ more. refl; inside_is = refl };
      plain = stays-plain p b (subst Plainly (sym is) (char-plainly x)) plain;
      context_is = byte-context b p x is;
    }

pub data-stays : (e : ℕ) → Staying (Data e)
unfolding effect declares is_start is_omitted_start
data-stays e = record { stays = refl; types = λ d. refl; no_start = refl; visible = refl }

data-token : (e : ℕ) → token (Data e) ≡ Some Pcdata
unfolding token
data-token e = refl

data-noted : (b : State) (e : ℕ) → kind_noted b (Data e) ≡ Data e
unfolding kind_noted
data-noted b e = refl

specific-context : (b : State) (p : Piece) (e : ℕ) → p.kind ≡ Data e → (after_piece p b).context ≡ context_after datum b.context
unfolding after_piece
specific-context b p e k = as-datum p b.context (subst Staying (sym k) (data-stays e)) (ap token k ∙ data-token e)

specific-written : (d : Doctype) (b : State) (e : ℕ) (text : Text) → IsPlain b → DataHolds b → DatumWritten d b (SpecificData e text ∷ [])
specific-written d b e text plain h =
    let p = piece_in b (one_of d (SpecificData e text)) in
    let is : p.kind ≡ Data e = ap (judged b.context) (data-noted b e) in record {
      after = after_piece p b;
      written = record { may = λ more k. (specific-may b e h, refl, k); state_is = λ more. refl; inside_is = refl };
      plain = stays-plain p b (subst Plainly (sym is) (specific-plainly e)) plain;
      context_is = specific-context b p e is;
    }

bytes-written : (d : Doctype) (b : State) (x : ℕ) (xs : List ℕ) → IsPlain b → DataHolds b → DatumWritten d b (Byte x ∷ map (λ x. Byte x) xs)
bytes-written d b x [] plain h = byte-written d b x plain h
bytes-written d b x (y ∷ ys) plain h =
    let one = byte-written d b x plain h in
    let more = bytes-written d one.after y ys one.plain (data-next b one.after one.context_is h) in record {
      after = more.after;
      written = then-written d b one.after more.after (Byte x ∷ []) (Byte y ∷ map (λ x. Byte x) ys) one.written more.written;
      plain = more.plain;
      context_is = more.context_is ∙ ap (context_after datum) one.context_is ∙ datum-again b.context;
    }

-- THE RECORD END THAT WAITS is written
pub record Released (d : Doctype) (a b : State) : Type 0 where
  pub after : State
  pub written : Written d b (put (waits a)) after
  pub plain : IsPlain after
  pub context_is : after.context ≡ bared a.context

released-by : (d : Doctype) (a b : State) (w : Bool) → waits a ≡ w → IsPlain b → LikeContexts w a b → Released d a b
released-by d a b false e plain like =
    record { after = b; written = subst (λ es. Written d b es b) (sym (ap put e)) (none-written d b); plain = plain; context_is = like }
released-by d a b true e plain like =
    let one = byte-written d b 13 plain like.1 in record {
      after = one.after;
      written = subst (λ es. Written d b es one.after) (sym (ap put e)) one.written;
      plain = one.plain;
      context_is = one.context_is ∙ like.0;
    }

pub released : (d : Doctype) (a b : State) → Follows a b → Released d a b
released d a b f = released-by d a b (waits a) refl f.plain f.like

-- ONE PIECE of what was read
pub record Step (d : Doctype) (a : State) (p : Piece) (b : State) : Type 0 where
  pub after : State
  pub written : Written d b (events_at forms a p) after
  pub follows : Follows (after_piece p a) after

abbrev pub Quiet : List Facts → Type 0
Quiet fs = AllAre (λ (f : Facts). f.waiting ≡ false) fs

pub quiet-rest : (is : List Item) (fs : List Facts) → Quiet (without_first fs) → Quiet (without_first (first_noted is fs))
quiet-rest is [] h = tt
quiet-rest is (f ∷ fs) h = h

-- data, whose first event stands behind what is put out
data-quiet : (fs : List Facts) → (facts_in (first_noted (DataItem ∷ []) fs)).waiting ≡ false
unfolding noted
data-quiet [] = refl
data-quiet (f ∷ fs) = refl

ends-stay : (k : Kind) (fs : List Facts) → effect k ≡ Stays → ends_after (effect k) k fs ≡ first_noted (items_of k) fs
ends-stay k fs e = ap (λ x. ends_after x k fs) e

pub record-ends-stay : (p : Piece) (a : State) (is : List Item) → effect p.kind ≡ Stays → items_of p.kind ≡ is → (after_piece p a).record_ends ≡ first_noted is a.record_ends
unfolding after_piece
record-ends-stay p a is e i = ends-stay p.kind a.record_ends e ∙ ap (λ x. first_noted x a.record_ends) i

pub context-of : (p : Piece) (a : State) → (after_piece p a).context ≡ context_after p a.context
unfolding after_piece
context-of p a = refl

pub follows-data : (p : Piece) (a c : State) → Staying p.kind → token p.kind ≡ Some Pcdata → items_of p.kind ≡ DataItem ∷ [] → Quiet (without_first a.record_ends) → IsPlain c
    → c.context ≡ context_after datum (bared a.context) → Follows (after_piece p a) c
follows-data p a c s t i q plain e =
    let ends = record-ends-stay p a (DataItem ∷ []) s.stays i in
    let none : waits (after_piece p a) ≡ false = ap (λ fs. (facts_in fs).waiting) ends ∙ data-quiet a.record_ends in record {
      plain = plain;
      quiet = subst (λ fs. Quiet (without_first fs)) (sym ends) (quiet-rest (DataItem ∷ []) a.record_ends q);
      like = subst (λ w. LikeContexts w (after_piece p a) c) (sym none)
          (e ∙ bared-stays p datum a.context s (char-stays 0) (char-token 0 ∙ sym t) ∙ ap bared (sym (context-of p a)));
    }

-- WHAT A PIECE TELLS
pub told-one : (f : Facts) (es : List Said) → told_by f (record { item = Some DataItem; events = es } ∷ []) ≡ put f.waiting ++ es
told-one f es = append-nil (put f.waiting ++ es)

pub char-step : (d : Doctype) (a b : State) (p : Piece) (x : ℕ) → p.kind ≡ Char x → Follows a b → DataHolds a → Step d a p b
unfolding shown items_of
char-step d a b p x e f h =
    let r = released d a b f in
    let one = byte-written d r.after x r.plain (data-same a r.after r.context_is h) in
    let told : events_at forms a p ≡ put (waits a) ++ Byte x ∷ [] = ap (λ k. told_by (facts_in a.record_ends) (shown forms a k)) e ∙ told-one (facts_in a.record_ends) (Byte x ∷ []) in record {
      after = one.after;
      written = subst (λ es. Written d b es one.after) (sym told) (then-written d b r.after one.after (put (waits a)) (Byte x ∷ []) r.written one.written);
      follows = follows-data p a one.after (subst Staying (sym e) (char-stays x)) (ap token e ∙ char-token x) (ap items_of e) f.quiet one.plain (one.context_is ∙ ap (context_after datum) r.context_is);
    }

-- data of an entity
pub body-written : (d : Doctype) (b : State) (e : ℕ) (o : Option Body) → has_events (body_events e o) ≡ true → IsPlain b → DataHolds b → DatumWritten d b (body_events e o)
body-written d b e None n plain h = true-false (sym n)
body-written d b e (Some (body.Cdata [])) n plain h = true-false (sym n)
body-written d b e (Some (body.Cdata (x ∷ xs))) n plain h = bytes-written d b x xs plain h
body-written d b e (Some (body.Sdata text)) n plain h = specific-written d b e text plain h
body-written d b e (Some _) n plain h = true-false (sym n)

pub data-step : (d : Doctype) (a b : State) (p : Piece) (e : ℕ) → p.kind ≡ Data e → Follows a b → DataHolds a → has_events (body_events e (body_of a.context.doctype e)) ≡ true → Step d a p b
unfolding shown items_of
data-step d a b p e k f h n =
    let r = released d a b f in
    let es = body_events e (body_of a.context.doctype e) in
    let one = body-written d r.after e (body_of a.context.doctype e) n r.plain (data-same a r.after r.context_is h) in
    let told : events_at forms a p ≡ put (waits a) ++ es = ap (λ k. told_by (facts_in a.record_ends) (shown forms a k)) k ∙ told-one (facts_in a.record_ends) es in record {
      after = one.after;
      written = subst (λ es. Written d b es one.after) (sym told) (then-written d b r.after one.after (put (waits a)) es r.written one.written);
      follows = follows-data p a one.after (subst Staying (sym k) (data-stays e)) (ap token k ∙ data-token e) (ap items_of k) f.quiet one.plain (one.context_is ∙ ap (context_after datum) r.context_is);
    }

-- PIECES THAT TELL NOTHING and are nothing to a model
keeps-waiting : (is : List Item) (fs : List Facts) → ((f : Facts) → (all_noted f is).waiting ≡ f.waiting) → (facts_in (first_noted is fs)).waiting ≡ (facts_in fs).waiting
keeps-waiting is [] h = refl
keeps-waiting is (f ∷ fs) h = h f

pub like-after : (a a' b : State) (w : Bool) → bared a'.context ≡ bared a.context → LikeContexts w a b → LikeContexts w a' b
like-after a a' b false e h = h ∙ sym e
like-after a a' b true e h = (h.0 ∙ sym e, h.1)

follows-silent : (p : Piece) (a b : State) → Staying p.kind → token p.kind ≡ None → ((f : Facts) → (all_noted f (items_of p.kind)).waiting ≡ f.waiting) → Follows a b → Follows (after_piece p a) b
follows-silent p a b s t n f =
    let ends = record-ends-stay p a (items_of p.kind) s.stays refl in
    let same : waits (after_piece p a) ≡ waits a = ap (λ fs. (facts_in fs).waiting) ends ∙ keeps-waiting (items_of p.kind) a.record_ends n in record {
      plain = f.plain;
      quiet = subst (λ fs. Quiet (without_first fs)) (sym ends) (quiet-rest (items_of p.kind) a.record_ends f.quiet);
      like = subst (λ w. LikeContexts w (after_piece p a) b) (sym same) (like-after a (after_piece p a) b (waits a) (ap bared (context-of p a) ∙ bared-same p a.context s t) f.like);
    }

pub silent-step : (d : Doctype) (a b : State) (p : Piece) → Staying p.kind → token p.kind ≡ None → ((f : Facts) → (all_noted f (items_of p.kind)).waiting ≡ f.waiting) → events_at forms a p ≡ [] → Follows a b → Step d a p b
silent-step d a b p s t n told f = record {
  after = b;
  written = subst (λ es. Written d b es b) (sym told) (none-written d b);
  follows = follows-silent p a b s t n f;
}

-- A RECORD END: it puts out one that waits, and waits itself, where it is live
pub re-stays : (live : Bool) → Staying (Re live)
unfolding effect declares is_start is_omitted_start
re-stays live = record { stays = refl; types = λ d. refl; no_start = refl; visible = refl }

pub live-told : (f : Facts) → takes_end f ≡ true → told_by f (record { item = Some RecordEnd; events = [] } ∷ []) ≡ put f.waiting
live-told f h = ap (λ t. (put (t && f.waiting) ++ []) ++ []) h ∙ append-nil (put f.waiting ++ []) ∙ append-nil (put f.waiting)

pub dead-told : (f : Facts) → takes_end f ≡ false → told_by f (record { item = Some RecordEnd; events = [] } ∷ []) ≡ []
dead-told f h = ap (λ t. (put (t && f.waiting) ++ []) ++ []) h

pub live-waits : (fs : List Facts) → takes_end (facts_in fs) ≡ true → (facts_in (first_noted (RecordEnd ∷ []) fs)).waiting ≡ true
unfolding noted
live-waits [] h = true-false (sym h)
live-waits (f ∷ fs) h = ap (λ t. t || f.waiting) h

pub dead-waits : (fs : List Facts) → takes_end (facts_in fs) ≡ false → (facts_in (first_noted (RecordEnd ∷ []) fs)).waiting ≡ (facts_in fs).waiting
unfolding noted
dead-waits [] h = refl
dead-waits (f ∷ fs) h = ap (λ t. t || f.waiting) h

pub live-step : (d : Doctype) (a b : State) (p : Piece) → p.kind ≡ Re true → Follows a b → takes_end (facts_in a.record_ends) ≡ true → DataHolds a → Step d a p b
unfolding shown items_of token effect
live-step d a b p e f live h =
    let r = released d a b f in
    let told : events_at forms a p ≡ put (waits a) = ap (λ k. told_by (facts_in a.record_ends) (shown forms a k)) e ∙ live-told (facts_in a.record_ends) live in
    let s : Staying p.kind = subst Staying (sym e) (re-stays true) in
    let ends = record-ends-stay p a (RecordEnd ∷ []) s.stays (ap items_of e) in
    let waiting : waits (after_piece p a) ≡ true = ap (λ fs. (facts_in fs).waiting) ends ∙ live-waits a.record_ends live in record {
      after = r.after;
      written = subst (λ es. Written d b es r.after) (sym told) r.written;
      follows = record {
        plain = r.plain;
        quiet = subst (λ fs. Quiet (without_first fs)) (sym ends) (quiet-rest (RecordEnd ∷ []) a.record_ends f.quiet);
        like = subst (λ w. LikeContexts w (after_piece p a) r.after) (sym waiting) (
          ap (context_after datum) r.context_is ∙ bared-stays p datum a.context s (char-stays 0) (char-token 0 ∙ sym (ap token e)) ∙ ap bared (sym (context-of p a)),
          data-same a r.after r.context_is h,
        );
      };
    }

pub dead-step : (d : Doctype) (a b : State) (p : Piece) → p.kind ≡ Re false → Follows a b → takes_end (facts_in a.record_ends) ≡ false → Step d a p b
unfolding shown items_of token effect
dead-step d a b p e f dead =
    let told : events_at forms a p ≡ [] = ap (λ k. told_by (facts_in a.record_ends) (shown forms a k)) e ∙ dead-told (facts_in a.record_ends) dead in
    let s : Staying p.kind = subst Staying (sym e) (re-stays false) in
    let ends = record-ends-stay p a (RecordEnd ∷ []) s.stays (ap items_of e) in
    let same : waits (after_piece p a) ≡ waits a = ap (λ fs. (facts_in fs).waiting) ends ∙ dead-waits a.record_ends dead in record {
      after = b;
      written = subst (λ es. Written d b es b) (sym told) (none-written d b);
      follows = record {
        plain = f.plain;
        quiet = subst (λ fs. Quiet (without_first fs)) (sym ends) (quiet-rest (RecordEnd ∷ []) a.record_ends f.quiet);
        like = subst (λ w. LikeContexts w (after_piece p a) b) (sym same) (like-after a (after_piece p a) b (waits a) (ap bared (context-of p a) ∙ bared-same p a.context s (ap token e)) f.like);
      };
    }

-- AN INSTRUCTION, and external data
pub pi-stays : (text : Text) (e : Option ℕ) → Staying (Pi text e)
unfolding effect declares is_start is_omitted_start
pi-stays text e = record { stays = refl; types = λ d. refl; no_start = refl; visible = refl }

pi-token : (text : Text) (e : Option ℕ) → token (Pi text e) ≡ None
unfolding token
pi-token text e = refl

pub mode-like : (a b : State) (w : Bool) → LikeContexts w a b → mode_in b ≡ mode_in a
mode-like a b false e = ap mode_of_context e ∙ bare-mode a.context.doctype a.context.levels
mode-like a b true e = sym (datum-mode b.context) ∙ ap mode_of_context e.0 ∙ bare-mode a.context.doctype a.context.levels

pi-may : (b : State) (text : Text) (e : Option ℕ) → mode_in b ≡ mode.Con → OtherMayBe b (Pi text e)
unfolding token unvalued turn is_finish
pi-may b text e m = record { mode = m; stands = record { declared = refl; stands = tt; valued = refl; within = refl; goes_on = refl } }

pi-noted : (b : State) (text : Text) (e : Option ℕ) → kind_noted b (Pi text e) ≡ Pi text e
unfolding kind_noted
pi-noted b text e = refl

one-kind : (b : State) (d : Doctype) (text : Text) (e : Option ℕ) → (piece_in b (one_of d (Instruction text e))).kind ≡ Pi text e
one-kind b d text None = ap (judged b.context) (pi-noted b text None)
one-kind b d text (Some e) = ap (judged b.context) (pi-noted b text (Some e))

pi-written : (d : Doctype) (b : State) (text : Text) (e : Option ℕ) → mode_in b ≡ mode.Con → Written d b (Instruction text e ∷ []) (after_piece (piece_in b (one_of d (Instruction text e))) b)
pi-written d b text None m = record { may = λ more k. (pi-may b text None m, refl, k); state_is = λ more. refl; inside_is = refl }
pi-written d b text (Some e) m = record { may = λ more k. (pi-may b text (Some e) m, refl, k); state_is = λ more. refl; inside_is = refl }

pub unnoticed : (q : Piece) (c : Context) → Staying q.kind → token q.kind ≡ None → context_after q c ≡ with_levels c c.levels
unnoticed q c s t = context-stays q c s ∙ ap (with_levels c) (no-token q.kind c.levels t)

unnoticed-allowed : (c : Context) (k : Token) → allowed (with_levels c c.levels) k ≡ allowed c k
unnoticed-allowed c k = sym (bare-allowed (with_levels c c.levels) k) ∙ bare-allowed c k

pub data-unnoticed : (b c : State) → c.context ≡ with_levels b.context b.context.levels → DataHolds b → DataHolds c
data-unnoticed b c e h = record {
  stands = record {
    allowed_there = ap (λ x. allowed x Pcdata) e ∙ unnoticed-allowed b.context Pcdata ∙ h.stands.allowed_there;
    text = text-is c ∙ ap text_of_context e ∙ sym (text-is b) ∙ h.stands.text;
  };
  mode = subst HasReferences (sym (ap mode_of_context e)) h.mode;
}

pub datum-unnoticed : (c : Context) → context_after datum (with_levels c c.levels) ≡ context_after datum c
datum-unnoticed c = context-stays datum (with_levels c c.levels) (char-stays 0) ∙ sym (context-stays datum c (char-stays 0))

like-written : (a b c : State) (q : Piece) (w : Bool) → Staying q.kind → token q.kind ≡ None → c.context ≡ context_after q b.context → LikeContexts w a b → LikeContexts w a c
like-written a b c q false s t e h = e ∙ unnoticed q b.context s t ∙ ap (λ x. with_levels x x.levels) h
like-written a b c q true s t e h =
    let is = e ∙ unnoticed q b.context s t in
    (ap (context_after datum) is ∙ datum-unnoticed b.context ∙ h.0, data-unnoticed b c is h.1)

-- a piece that tells an instruction, and is nothing to a model
pub pi-like : (d : Doctype) (a b : State) (p : Piece) (text : Text) (e : Option ℕ) → Staying p.kind → token p.kind ≡ None → ((f : Facts) → (all_noted f (items_of p.kind)).waiting ≡ f.waiting)
    → events_at forms a p ≡ Instruction text e ∷ [] → Follows a b → mode_in a ≡ mode.Con → Step d a p b
pi-like d a b p text e s t n told f m =
    let q = piece_in b (one_of d (Instruction text e)) in
    let is = one-kind b d text e in
    let c = after_piece q b in
    let silent = follows-silent p a b s t n f in record {
      after = c;
      written = subst (λ es. Written d b es c) (sym told) (pi-written d b text e (mode-like a b (waits a) f.like ∙ m));
      follows = record {
        plain = stays-plain q b (subst Plainly (sym is) (instruction-plainly text e)) f.plain;
        quiet = silent.quiet;
        like = like-written (after_piece p a) b c q (waits (after_piece p a)) (subst Staying (sym is) (pi-stays text e)) (ap token is ∙ pi-token text e) (context-of q b) silent.like;
      };
    }

pub pi-step : (d : Doctype) (a b : State) (p : Piece) (text : Text) (e : Option ℕ) → p.kind ≡ Pi text e → Follows a b → mode_in a ≡ mode.Con → Step d a p b
unfolding shown items_of noted
pi-step d a b p text e k f m =
    pi-like d a b p text e (subst Staying (sym k) (pi-stays text e)) (ap token k ∙ pi-token text e) (subst (λ k. (f : Facts) → (all_noted f (items_of k)).waiting ≡ f.waiting) (sym k) (λ f. refl))
    (ap (λ k. told_by (facts_in a.record_ends) (shown forms a k)) k) f m
