-- A written tag stands where a tag was left out, or was spelled in another way.
use Rattle.std.specs.Prelude.{◌≡◌, Bool, true, false, not, ◌||◌, bytes_eq, Option, Some, None, is_some, unwrap_or, List, [], ◌∷◌}
use Rattle.std.proofs.Common.{refl, sym, ap, ◌∙◌, inl, inr, subst}
use Rattle.std.proofs.lemmas.Bool.{and_from, or_left, cond-true}
use Rattle.std.proofs.lemmas.Slice.Eq.{bytes_eq-Decides}
use Rattle.sgml_theory_kinds.specs.text.declared.reason.Reason.TheVariants.{Undefined}
use Rattle.sgml_theory_worked.specs.model.Term.{done, required}
use Rattle.sgml_theory_worked.specs.model.Choice.{left_by}
use Rattle.sgml_theory_worked.specs.dtd_elements.Types.{ElementType}
use Rattle.sgml_theory_worked.specs.dtd.Doctypes.{Doctype}
use Rattle.sgml_theory_worked.specs.theory_reading.Names.{Name}
use Rattle.sgml_theory_worked.specs.theory_reading.Types.{Content, Model, Any, Cdata, Rcdata, Void, element_type, undeclared, type_of, content_of, is_declared, has_model, has_declared_content}
use Rattle.sgml_theory_worked.specs.theory_reading.Pieces.{Piece, Kind, Start, End, Finish, How, Tag, Specification}
use Rattle.sgml_theory_worked.specs.theory_reading.Facets.{Token, token, is_start, declares}
use Rattle.sgml_theory_worked.specs.theory_reading.Context.{Level, Context, context_after}
use Rattle.sgml_theory_worked.specs.theory_reading.Omission.{EndMayStand, StartMayStand, MayStand, omitted_end, omitted_start, allowed, fits, fits_content, is_included, is_excluded, finished, left_of, innermost_is, counted, inside_of_first}
use Rattle.sgml_theory_worked.specs.theory_reading.Runs.{LongestRunFrom, context_after_run}
use Rattle.sgml_theory_worked.specs.theory_reading.Reasons.{Stands}
use Rattle.sgml_theory_worked.specs.theory_reading.Characters.{is_void, ends_at_once}
use Rattle.sgml_theory_worked.specs.theory_reading.Reads.{Move, judged, undefined, unless_declared, is_proper_in, is_proper_for}
use Rattle.sgml_theory_worked.proofs.theory_reading.Table.{reason-exact}
use Rattle.sgml_theory_written.specs.Written.{IsWritten, written_kind}
use Rattle.sgml_theory_written.specs.Alike.{Alike}
use Rattle.sgml_theory_written.specs.Standing.{HasItsType, StandsBy, StandsAlone}
use Rattle.sgml_theory_written.proofs.Plain.{context_of, is_proper, inside_of}
use Rattle.sgml_theory_written.proofs.Needed.{needed}
use Rattle.sgml_theory_written.proofs.Alone.{Alone, content-alone, end-alone, alone, is_end}
use Rattle.sgml_theory_written.proofs.Ends.{run-keeps, ends-innermost}
use Rattle.sgml_theory_written.proofs.Serving.{Serves, proper-alike, Room, room-serves}

-- a written piece, as a kind
pub record Stood (d : Context) (y : Kind) : Type 0 where
  pub has_its_type : HasItsType d y
  pub declared : undefined d y ≡ None
  pub alone : Alone d y
  pub noted : y ≡ judged d y

pub stands-alone : (d : Context) (q : Piece) → Stood d q.kind → StandsAlone d q
stands-alone d q s = record {
  has_its_type = s.has_its_type;
  declared = s.declared;
  longest = s.alone.none_omitted;
  no_reason = s.alone.no_reason;
  noted = s.noted;
}

-- A START
start-token : (n : Name) (ss : List Specification) (how : How) (proper at_once : Bool) → token (Start n ss how proper at_once) ≡ Some (Some n)
unfolding token
start-token n ss how proper at_once = refl

start-stood : (c d : Context) (n : Name) (all : List Specification) (proper at_once : Bool) → Serves c d → unless_declared c.doctype n ≡ None → allowed c (Some n) ≡ true → Room c → is_proper (Some n) d ≡ proper → ends_at_once c.doctype n all ≡ at_once → Stood d (Start n all Tag proper at_once)
unfolding is_proper
start-stood c d n all proper at_once s u al room p e =
    let x = Start n all Tag proper at_once in
    record {
      has_its_type = tt;
      declared = ap (λ (t : Doctype). unless_declared t n) (sym s.doctypes) ∙ u;
      alone = content-alone d x (Some n) (start-token n all Tag proper at_once) (s.allows (Some n) al, λ t. room-serves c d s room);
      noted = (λ i. Start n all Tag (sym p i) ((sym e ∙ ap (λ (t : Doctype). ends_at_once t n all) s.doctypes) i));
    }

-- AN END
end-stood : (c d : Context) (n : Name) → Serves c d → unless_declared c.doctype n ≡ None → inside_of n c ≡ Some 0 → finished c ≡ true → Stood d (End n Tag)
end-stood c d n s u i f = record {
  has_its_type = tt;
  declared = ap (λ (t : Doctype). unless_declared t n) (sym s.doctypes) ∙ u;
  alone = end-alone d n (sym (s.insides n) ∙ i) (s.finishes f);
  noted = refl;
}

-- AN OMITTED TAG
is-declared : (d : Doctype) (n : Name) → is_declared d n ≡ true → unless_declared d n ≡ None
is-declared d n e = cond-true (is_declared d n) None (Some Undefined) e

some-type : (o : Option ElementType) → (unwrap_or o undeclared).omits.end ≡ true → is_some o ≡ true
some-type None e = absurd (cc)
some-type (Some t) e = refl

omits-declared : (d : Doctype) (n : Name) → (type_of d n).omits.end ≡ true → is_declared d n ≡ true
unfolding type_of
omits-declared d n e = some-type (element_type d n) e

innermost-inside : (n : Name) (ls : List Level) → innermost_is ls n ≡ true → inside_of_first (λ l. bytes_eq n l.element) ls ≡ Some 0
innermost-inside n [] e = absurd (cc)
innermost-inside n (l ∷ ls) e =
    ap (λ b. counted b (inside_of_first (λ k. bytes_eq n k.element) ls)) ((bytes_eq-Decides n l.element).1 (sym ((bytes_eq-Decides l.element n).0 e)))

innermost-is-inside : (n : Name) (s : Context) → innermost_is s.levels n ≡ true → inside_of n s ≡ Some 0
unfolding inside_of
innermost-is-inside n s e = innermost-inside n s.levels e

omitted-end-stood : (c d : Context) (n : Name) (x : Kind) → EndMayStand c n x → Serves c d → Stood d (End n Tag)
omitted-end-stood c d n x m a =
    end-stood c d n a (is-declared c.doctype n (omits-declared c.doctype n m.has_o)) (innermost-is-inside n c m.of_innermost) m.is_finished

-- what must come next fits, and is a proper element
needed-content : (d : Doctype) (l : Level) (ls : List Level) (b i : Bool) (n : Name) (content : Content) → (not (has_model content) || done l.left) ≡ false → required l.left ≡ Some n →
    (fits_content (context_of d (l ∷ ls) b i) content (Some n) ≡ true) × (is_proper_for (context_of d (l ∷ ls) b i) content (Some n) ≡ true)
needed-content d l ls b i n (Model term) f r =
    (or_left (is_some (left_by l.left (Some n))) (is_included d (l ∷ ls) (Some n)) (needed l.left n r), needed l.left n r)
needed-content d l ls b i n Any f r = absurd (cc)
needed-content d l ls b i n Cdata f r = absurd (cc)
needed-content d l ls b i n Rcdata f r = absurd (cc)
needed-content d l ls b i n Void f r = absurd (cc)

needed-at : (d : Doctype) (ls : List Level) (b i : Bool) (n : Name) → finished (context_of d ls b i) ≡ false → required (left_of (context_of d ls b i)) ≡ Some n →
    (fits (context_of d ls b i) (Some n) ≡ true) × (is_proper_in (context_of d ls b i) ls (Some n) ≡ true)
unfolding finished
needed-at d [] b i n f r = (needed (left_of (context_of d [] b i)) n r, needed (left_of (context_of d [] b i)) n r)
needed-at d (l ∷ ls) b i n f r = needed-content d l ls b i n (content_of (type_of d l.element)) f r

needed-fits : (c : Context) (n : Name) → finished c ≡ false → required (left_of c) ≡ Some n → (fits c (Some n) ≡ true) × (is_proper (Some n) c ≡ true)
unfolding is_proper
needed-fits c n f r = needed-at c.doctype c.levels c.begun c.inferred n f r

fits-allowed : (c : Context) (k : Token) → fits c k ≡ true → is_excluded c k ≡ false → allowed c k ≡ true
unfolding allowed
fits-allowed c k f e = and_from (fits c k) (not (is_excluded c k)) f (ap not e)

omitted-start-stood : (c d : Context) (n : Name) (all : List Specification) (x : Kind) → StartMayStand c n x → Serves c d → ends_at_once c.doctype n all ≡ false → Stood d (Start n all Tag true false)
omitted-start-stood c d n all x m s e =
    let f = needed-fits c n m.is_unfinished m.is_required in
    start-stood c d n all true false s (is-declared c.doctype n m.declared) (fits-allowed c (Some n) f.0 m.not_excluded) m.room (s.propers (Some n) f.1) e

-- a tag that is left out is written
pub omitted-stood : (c d : Context) (o : Piece) (y x : Kind) → MayStand c o x → Serves c d → IsWritten c.doctype o.kind y → Stood d y
omitted-stood c d o y x (inl m) s w =
    let v : y ≡ End m.0 Tag = subst (λ (p : Piece). IsWritten c.doctype p.kind y) m.1 w in
    subst (Stood d) (sym v) (omitted-end-stood c d m.0 x m.2 s)
omitted-stood c d o y x (inr m) s w =
    let v : IsWritten c.doctype (omitted_start m.0).kind y = subst (λ (p : Piece). IsWritten c.doctype p.kind y) m.1 w in
    subst (Stood d) (sym v.2) (omitted-start-stood c d m.0 v.0 x m.2 s v.1)

no-void : (content : Content) → has_declared_content content ≡ false → is_void content ≡ false
no-void (Model term) e = refl
no-void Any e = refl
no-void Cdata e = refl
no-void Rcdata e = refl
no-void Void e = absurd (cc)

goes-on : (d : Doctype) (n : Name) → has_declared_content (content_of (type_of d n)) ≡ false → ends_at_once d n [] ≡ false
unfolding ends_at_once
goes-on d n e = ap (λ b. b || false) (no-void (content_of (type_of d n)) e)

pub omitted-is-written : (c : Context) (o : Piece) (x : Kind) → MayStand c o x → IsWritten c.doctype o.kind (written_kind o.kind)
omitted-is-written c o x (inl m) = subst (λ (p : Piece). IsWritten c.doctype p.kind (written_kind p.kind)) (sym m.1) refl
omitted-is-written c o x (inr m) =
    subst (λ (p : Piece). IsWritten c.doctype p.kind (written_kind p.kind)) (sym m.1) ([], goes-on c.doctype m.0 m.2.no_declared_content, refl)

-- A VISIBLE PIECE

-- omitted pieces declare nothing
end-declares : (c : Context) (n : Name) → (context_after (omitted_end n) c).doctype ≡ c.doctype
unfolding context_after declares
end-declares c n = refl

start-declares : (c : Context) (n : Name) → (context_after (omitted_start n) c).doctype ≡ c.doctype
unfolding context_after declares
start-declares c n = refl

one-declares : (c : Context) (o : Piece) (x : Kind) → MayStand c o x → (context_after o c).doctype ≡ c.doctype
one-declares c o x (inl m) = ap (λ (p : Piece). (context_after p c).doctype) m.1 ∙ end-declares c m.0
one-declares c o x (inr m) = ap (λ (p : Piece). (context_after p c).doctype) m.1 ∙ start-declares c m.0

pub run-declares : (c : Context) (x : Kind) (os : List Piece) → LongestRunFrom c x os → (context_after_run c os).doctype ≡ c.doctype
run-declares c x [] r = refl
run-declares c x (o ∷ os) r = run-declares (context_after o c) x os r.1 ∙ one-declares c o x r.0

pub run-none : (c : Context) (x : Kind) (os : List Piece) → LongestRunFrom c x os → (o : Piece) → ¬ MayStand (context_after_run c os) o x
run-none c x [] r = r
run-none c x (o ∷ os) r = run-none (context_after o c) x os r.1

-- what stands where the omitted pieces before it were written
pub record Place (c : Context) (x : Kind) : Type 0 where
  pub has_its_type : HasItsType c x
  pub declared : undefined c x ≡ None
  pub stands : Stands c x (token x)

undefined-by : (c d : Context) (x : Kind) → c.doctype ≡ d.doctype → undefined c x ≡ undefined d x
undefined-by c d (Start n ss how proper at_once) e = ap (λ (t : Doctype). unless_declared t n) e
undefined-by c d (End n how) e = ap (λ (t : Doctype). unless_declared t n) e
undefined-by c d x e = refl

type-after : (c : Context) (x : Kind) (os : List Piece) → LongestRunFrom c x os → HasItsType c x → HasItsType (context_after_run c os) x
type-after c (End n how) os r h = run-keeps c n how os r h
type-after c x os r h = tt

pub place : (c : Context) (x : Kind) (m : Move) → StandsBy c x m → Place (context_after_run c m.omitted) x
place c x m s =
    let none = run-none c x m.omitted s.longest in
    record {
      has_its_type = type-after c x m.omitted s.longest s.has_its_type;
      declared = undefined-by (context_after_run c m.omitted) c x (run-declares c x m.omitted s.longest) ∙ s.declared;
      stands = (reason-exact (context_after_run c m.omitted) x none).0 s.no_reason;
    }

-- a start is a proper one in a context exactly where that is noted of it
abbrev pub KeepsProper : Context → Kind → Type 0
KeepsProper d (Start n ss how proper at_once) = is_proper (Some n) d ≡ proper
KeepsProper d x = Unit {0}

start-place : (c d : Context) (n : Name) (ss all : List Specification) (how : How) (p a proper at_once : Bool) → Place c (Start n ss how p a) → Serves c d → is_proper (Some n) d ≡ proper → ends_at_once d.doctype n all ≡ at_once → Stood d (Start n all Tag proper at_once)
unfolding token is_start
start-place c d n ss all how p a proper at_once s m e f =
    start-stood c d n all proper at_once m s.declared s.stands.0 (s.stands.1 refl) e (ap (λ (t : Doctype). ends_at_once t n all) m.doctypes ∙ f)

end-place : (c d : Context) (n : Name) (how : How) → Place c (End n how) → Serves c d → Stood d (End n Tag)
unfolding token
end-place c d n how s m =
    end-stood c d n m s.declared (ends-innermost c n how s.has_its_type s.stands.0) s.stands.1

stands-serves : (c d : Context) (x : Kind) (o : Option Token) → is_end x ≡ false → Serves c d → Stands c x o → Stands d x o
unfolding is_end
stands-serves c d x (Some k) e m h = (m.allows k h.0, λ t. room-serves c d m (h.1 t))
stands-serves c d (End n how) None e m h = absurd (cc)
stands-serves c d Finish None e m h = (sym m.depths ∙ h.0, sym m.begun ∙ h.1)
stands-serves c d x None e m h = tt

other-place : (c d : Context) (x : Kind) → HasItsType d x → undefined d x ≡ None → judged d x ≡ x → is_end x ≡ false → Place c x → Serves c d → Stood d x
other-place c d x t u j e s m = record {
  has_its_type = t;
  declared = u;
  alone = alone d x (token x) refl e (stands-serves c d x (token x) e m s.stands);
  noted = sym j;
}

pub visible-stood : (c d : Context) (x y : Kind) → Place c x → Serves c d → KeepsProper d (judged c x) → IsWritten d.doctype (judged c x) y → Stood d y
unfolding is_end
visible-stood c d (Start n ss how p a) y s m k w =
    subst (Stood d) (sym w.2) (start-place c d n ss w.0 how p a (is_proper_in c c.levels (Some n)) (ends_at_once c.doctype n ss) s m k w.1)
visible-stood c d (End n how) y s m k w = subst (Stood d) (sym w) (end-place c d n how s m)
visible-stood c d x y s m k w = subst (Stood d) (sym w) (other-place c d x tt refl refl refl s m)

pub alike-keeps : (c d : Context) (x : Kind) → Alike c d → KeepsProper d (judged c x)
unfolding is_proper
alike-keeps c d (Start n ss how p a) alike = sym (proper-alike c d (Some n) alike)
alike-keeps c d x alike = tt

judged-is-written : (c : Context) (x : Kind) → IsWritten c.doctype (judged c x) (written_kind (judged c x))
judged-is-written c (Start n ss how p a) = (ss, refl, refl)
judged-is-written c (End n how) = refl
judged-is-written c x = refl

pub visible-is-written : (c : Context) (x : Kind) (m : Move) → StandsBy c x m → IsWritten (context_after_run c m.omitted).doctype m.visible.kind (written_kind m.visible.kind)
visible-is-written c x m s =
    subst (λ (k : Kind). IsWritten (context_after_run c m.omitted).doctype k (written_kind k)) (sym s.noted) (judged-is-written (context_after_run c m.omitted) x)
