-- Each tag and each datum that is read stands.
use Rattle.std.specs.Prelude.{◌≡◌, ℕ, Bool, true, false, not, bytes_eq, cond, IsTrue, Option, Some, None, List, [], ◌∷◌, ◌++◌}
use Rattle.std.proofs.Common.{refl, sym, ap, ◌∙◌, inl, inr, subst}
use Rattle.std.proofs.lemmas.Bool.{and_parts}
use Rattle.std.proofs.lemmas.Slice.Eq.{bytes_eq-Decides}
use Rattle.sgml_theory_full.specs.text.declared.reason.Reason.TheVariants.{Undefined}
use Rattle.sgml_theory_full.specs.delim.declared.delim.Mode.TheVariants as mode
use Rattle.sgml_theory_full.specs.dtd.Doctypes.{Doctype}
use Rattle.sgml_theory_full.specs.theory_reading.Names.{Name}
use Rattle.sgml_theory_full.specs.theory_reading.Types.{Content, Model, Any, Cdata, Rcdata, Void, type_of, content_of, is_declared}
use Rattle.sgml_theory_full.specs.theory_reading.Pieces.{Piece, Kind, Start, End, How, Tag, Specification, History}
use Rattle.sgml_theory_full.specs.theory_reading.Facets.{Token, Pcdata, token, is_start}
use Rattle.sgml_theory_full.specs.theory_reading.Context.{Level, Context, context}
use Rattle.sgml_theory_full.specs.theory_reading.Omission.{allowed, fits, fits_content, is_excluded, finished, counted, inside_of_first, innermost_is, MayStand, EndMayStand, StartMayStand, omitted_end, omitted_start}
use Rattle.sgml_theory_full.specs.theory_reading.Runs.{LongestRun, after_run, context_after_run}
use Rattle.sgml_theory_full.specs.theory_reading.Reasons.{Stands}
use Rattle.sgml_theory_full.specs.theory_reading.Unread.{Input}
use Rattle.sgml_theory_full.specs.theory_reading.State.{State, state}
use Rattle.sgml_theory_full.specs.theory_reading.Characters.{has_text, ends_at_once}
use Rattle.sgml_theory_full.specs.theory_reading.Reads.{Move, Reads, judged, unless_declared, is_proper_in}
use Rattle.sgml_theory_full.proofs.theory_reading.Table.{reason-exact}
use Rattle.sgml_theory_full.proofs.theory_reading.Runs.{context-of-history, run-of-history}
use Rattle.sgml_theory_full.specs.theory_spelling.Spelled.{forms}
use Rattle.sgml_theory_full.specs.theory_spelling.Places.{content_mode, element_mode}
use Rattle.sgml_theory_full.specs.theory_written.Alike.{Alike}
use Rattle.sgml_theory_full.specs.theory_written.Written.{written}
use Rattle.sgml_theory_full.specs.theory_written.Standing.{StandsAlone}
use Rattle.sgml_theory_full.proofs.theory_written.Plain.{inside_of}
use Rattle.sgml_theory_full.proofs.theory_written.Ends.{ends-innermost}
use Rattle.sgml_theory_full.proofs.theory_written.Tags.{Place, place, omitted-is-written}
use Rattle.sgml_theory_full.proofs.theory_written.Moving.{omitted-written}
use Rattle.sgml_theory_full.proofs.theory_written.Reading.{reading-stands}
use Rattle.sgml_theory_full.proofs.theory_written.Spelled.{types-its-ends}
use Rattle.sgml_theory_full.specs.Standing.{StartStands, EndStands, DataStands, PieceStands}
use Rattle.sgml_theory_again.proofs.Texts.{true-false, allowed-text}

-- TAGS ARE RECOGNISED where a start is allowed
start-content : (c : Context) (content : Content) (n : Name) → fits_content c content (Some n) ≡ true → content_mode content ≡ mode.Con
start-content c (Model term) n f = refl
start-content c Any n f = refl
start-content c Cdata n f = true-false (sym f)
start-content c Rcdata n f = true-false (sym f)
start-content c Void n f = refl

start-at : (d : Doctype) (ls : List Level) (b i : Bool) (n : Name) → fits (record { doctype = d; levels = ls; begun = b; inferred = i }) (Some n) ≡ true → element_mode d ls ≡ mode.Con
start-at d [] b i n f = refl
start-at d (l ∷ ls) b i n f = start-content (record { doctype = d; levels = l ∷ ls; begun = b; inferred = i }) (content_of (type_of d l.element)) n f

pub start-mode : (c : Context) (n : Name) → IsTrue (allowed c (Some n)) → element_mode c.doctype c.levels ≡ mode.Con
unfolding allowed
start-mode c n a = start-at c.doctype c.levels c.begun c.inferred n (and_parts (fits c (Some n)) (not (is_excluded c (Some n))) a).0

-- A DECLARED TYPE
is-known : (d : Doctype) (n : Name) → unless_declared d n ≡ None → is_declared d n ≡ true
is-known d n e = by (is_declared d n) e
  where
    by : (b : Bool) → (cond b None (Some Undefined)) ≡ None → b ≡ true
    by true e = refl
    by false e = absurd (cc)

-- THE INNERMOST ELEMENT
record Innermost (c : Context) (n : Name) : Type 0 where
  level : Level
  outer : List Level
  levels : c.levels ≡ level ∷ outer
  its : bytes_eq n level.element ≡ true

innermost-at : (c : Context) (n : Name) (ls : List Level) → c.levels ≡ ls → inside_of_first (λ l. bytes_eq n l.element) ls ≡ Some 0 → Innermost c n
innermost-at c n [] e i = absurd (cc)
innermost-at c n (l ∷ ls) e i = record { level = l; outer = ls; levels = e; its = by (bytes_eq n l.element) (inside_of_first (λ l. bytes_eq n l.element) ls) i }
  where
    by : (b : Bool) (o : Option ℕ) → counted b o ≡ Some 0 → b ≡ true
    by true o i = refl
    by false None i = absurd (cc)
    by false (Some m) i = absurd (cc)

innermost : (c : Context) (n : Name) → inside_of n c ≡ Some 0 → Innermost c n
unfolding inside_of
innermost c n i = innermost-at c n c.levels refl i

first-innermost : (c : Context) (n : Name) (ls : List Level) → c.levels ≡ ls → innermost_is ls n ≡ true → Innermost c n
first-innermost c n [] e i = true-false (sym i)
first-innermost c n (l ∷ ls) e i = record { level = l; outer = ls; levels = e; its = (bytes_eq-Decides n l.element).1 (sym ((bytes_eq-Decides l.element n).0 i)) }

-- THE VISIBLE PIECE
abbrev Texted : State → Type 0
Texted s = IsTrue (allowed s.context Pcdata) → has_text s ≡ true

start-stands : (s : State) (n : Name) (ss : List Specification) (how : How) (p a : Bool) → Place s.context (Start n ss how p a)
    → StartStands s n ss (is_proper_in s.context s.context.levels (Some n)) (ends_at_once s.context.doctype n ss)
unfolding token is_start
start-stands s n ss how p a at = record {
  known = is-known s.context.doctype n at.declared;
  fits = at.stands.0;
  room = at.stands.1 refl;
  mode = start-mode s.context n at.stands.0;
  proper_is = refl;
  noted = refl;
}

end-of : (s : State) (n : Name) → is_declared s.context.doctype n ≡ true → Innermost s.context n → IsTrue (finished s.context) → EndStands s n
end-of s n known i done = record { known = known; innermost = i.level; outer = i.outer; levels = i.levels; its = i.its; done = done }

end-stands : (s : State) (n : Name) (how : How) → Place s.context (End n how) → EndStands s n
unfolding token
end-stands s n how at =
    end-of s n (is-known s.context.doctype n at.declared) (innermost s.context n (ends-innermost s.context n how at.has_its_type at.stands.0)) at.stands.1

data-stands : (s : State) (x : Kind) → Texted s → Stands s.context x (token x) → token x ≡ Some Pcdata → DataStands s
data-stands s x text h e =
    let a : IsTrue (allowed s.context Pcdata) = (subst (λ (o : Option Token). Stands s.context x o) e h).0 in
    record { allowed_there = a; text = text a }

visible-stands : (s : State) (x : Kind) → Texted s → Place s.context x → PieceStands s (judged s.context x)
visible-stands s (Start n ss how p a) text at = start-stands s n ss how p a at
visible-stands s (End n how) text at = end-stands s n how at
visible-stands s x text at = data-stands s x text at.stands

-- A PIECE THAT WAS LEFT OUT
omitted-end-stands : (s : State) (n : Name) (x : Kind) → EndMayStand s.context n x → StandsAlone s.context (written (omitted_end n)) → EndStands s n
omitted-end-stands s n x m at =
    end-of s n (is-known s.context.doctype n at.declared) (first-innermost s.context n s.context.levels refl m.of_innermost) m.is_finished

parts-of-start : (n : Name) (p q a b : Bool) → Start n [] Tag p a ≡ Start n [] Tag q b → (p ≡ q) × (a ≡ b)
parts-of-start n p q a b e = (cc, cc)

omitted-start-stands : (s : State) (n : Name) (x : Kind) → StartMayStand s.context n x → StandsAlone s.context (written (omitted_start n)) → StartStands s n [] true false
unfolding token is_start
omitted-start-stands s n x m at =
    let h : Stands s.context (Start n [] Tag true false) (Some (Some n)) = (reason-exact s.context (Start n [] Tag true false) at.longest).0 at.no_reason in
    let p = parts-of-start n true (is_proper_in s.context s.context.levels (Some n)) false (ends_at_once s.context.doctype n []) at.noted in
    record {
      known = m.declared;
      fits = h.0;
      room = m.room;
      mode = start-mode s.context n h.0;
      proper_is = sym p.0;
      noted = sym p.1;
    }

itself : (c : Context) → Alike c c
itself c = record { doctypes = refl; levels = refl; begun = refl }

omitted-stands : (s : State) (o : Piece) (x : Kind) → MayStand s.context o x → PieceStands s o.kind
omitted-stands s o x may = by may
  where
    at : StandsAlone s.context (written o)
    at = (omitted-written s.context s.context o (written o) x may (itself s.context) (omitted-is-written s.context o x may)).stands

    by : MayStand s.context o x → PieceStands s o.kind
    by (inl m) = subst (λ (p : Piece). PieceStands s p.kind) (sym m.1)
        (omitted-end-stands s m.0 x m.2 (subst (λ (p : Piece). StandsAlone s.context (written p)) m.1 at))
    by (inr m) = subst (λ (p : Piece). PieceStands s p.kind) (sym m.1)
        (omitted-start-stands s m.0 x m.2 (subst (λ (p : Piece). StandsAlone s.context (written p)) m.1 at))

-- EACH PIECE of a move
state-context : (h : History) → (state h).context ≡ context h
unfolding state
state-context h = refl

text-of : (h : History) → Texted (state h)
unfolding state
text-of h a = allowed-text h a

abbrev pub EachIs : (State → Kind → Type 0) → History → List Piece → Piece → Type 0
EachIs P h [] v = P (state h) v.kind
EachIs P h (o ∷ os) v = P (state h) o.kind × EachIs P (o ∷ h) os v

each-stands : (h : History) (x : Kind) (os : List Piece) (v : Piece) → LongestRun h x os → PieceStands (state (after_run h os)) v.kind → EachIs PieceStands h os v
each-stands h x [] v r last = last
each-stands h x (o ∷ os) v r last =
    (omitted-stands (state h) o x (subst (λ (c : Context). MayStand c o x) (sym (state-context h)) r.0), each-stands (o ∷ h) x os v r.1 last)

one-piece : (p q : Piece) (ps qs : List Piece) → p ∷ ps ≡ q ∷ qs → (p ≡ q) × (ps ≡ qs)
one-piece p q ps qs h = (cc, cc)

none-more : {A : Type 0} (bs : List Piece) (p : Piece) (after : List Piece) → [] ≡ bs ++ (p ∷ after) → A
none-more [] p after h = absurd (cc)
none-more (b ∷ bs) p after h = absurd (cc)

pub at-each : (P : State → Kind → Type 0) (h : History) (os : List Piece) (v : Piece) (before after : List Piece) (p : Piece) → EachIs P h os v → os ++ (v ∷ []) ≡ before ++ (p ∷ after)
    → P (state (after_run h before)) p.kind
at-each P h [] v [] after p e is = subst (λ (q : Piece). P (state h) q.kind) (one-piece v p [] after is).0 e
at-each P h [] v (b ∷ before) after p e is = none-more before p after (one-piece v b [] (before ++ (p ∷ after)) is).1
at-each P h (o ∷ os) v [] after p e is = subst (λ (q : Piece). P (state h) q.kind) (one-piece o p (os ++ (v ∷ [])) after is).0 e.0
at-each P h (o ∷ os) v (b ∷ before) after p e is =
    let k = one-piece o b (os ++ (v ∷ [])) (before ++ (p ∷ after)) is in
    subst (λ (q : Piece). P (state (after_run (q ∷ h) before)) p.kind) k.0 (at-each P (o ∷ h) os v before after p e.1 k.1)

old-context : (h : History) (m : Move) → (state (after_run h m.omitted)).context ≡ context_after_run (context h) m.omitted
unfolding state
old-context h m = context-of-history h (context h) m.omitted refl

-- what is spelled, as it stands after the omitted pieces
pub record Stood (h : History) (m : Move) : Type 0 where
  pub x : Kind
  pub longest : LongestRun h x m.omitted
  pub there : Place (state (after_run h m.omitted)).context x
  pub noted : m.visible.kind ≡ judged (state (after_run h m.omitted)).context x

pub stood : (I : Input) (h : History) (m : Move) → Reads forms I h m → Stood h m
stood I h m r =
    let b = (reading-stands forms I h (m ∷ []) types-its-ends (r, tt)).0 in
    let same = old-context h m in
    record {
      x = b.0;
      longest = run-of-history h (context h) b.0 m.omitted refl b.1.longest;
      there = subst (λ (c : Context). Place c b.0) (sym same) (place (context h) b.0 m b.1);
      noted = b.1.noted ∙ ap (λ (c : Context). judged c b.0) (sym same);
    }

pub read-stands : (I : Input) (h : History) (m : Move) → Reads forms I h m → EachIs PieceStands h m.omitted m.visible
read-stands I h m r =
    let s = stood I h m r in
    let old = state (after_run h m.omitted) in
    each-stands h s.x m.omitted m.visible s.longest
    (subst (PieceStands old) (sym s.noted) (visible-stands old s.x (text-of (after_run h m.omitted)) s.there))
