-- Each element in which another one is open has content that takes elements.
use Rattle.std.specs.Prelude.{◌≡◌, Bool, true, false, not, IsTrue, Option, Some, None, unwrap_or, List, [], ◌∷◌}
use Rattle.std.specs.Option.{option_or}
use Rattle.std.proofs.Common.{refl, sym, ap, ◌∙◌, inl, inr, subst}
use Rattle.std.proofs.lemmas.Bool.{and_parts}
use Rattle.sgml_theory_full.specs.delim.declared.delim.Mode.TheVariants as mode
use Rattle.sgml_theory_full.specs.dtd_elements.Types.{ElementType}
use Rattle.sgml_theory_full.specs.decl_forms.declared.declaration.Declaration.{Declaration}
use Rattle.sgml_theory_full.specs.decl_forms.declared.declaration.Declaration.TheVariants as form
use Rattle.sgml_theory_full.specs.dtd.Doctypes.{Doctype, with_declared}
use Rattle.sgml_theory_full.specs.theory_reading.Names.{Name, Text}
use Rattle.sgml_theory_full.specs.theory_reading.Types.{Content, Model, Any, Cdata, Rcdata, Void, element_type, undeclared, type_of, content_of, has_declared_content}
use Rattle.sgml_theory_full.specs.theory_reading.Said.{type_said}
use Rattle.sgml_theory_full.specs.theory_reading.Pieces.{Piece, Kind, Sgml, Head, Declare, Start, End, How, History}
use Rattle.sgml_theory_full.specs.theory_reading.Facets.{effect_of_start, effect, declares}
use Rattle.sgml_theory_full.specs.theory_reading.Nest.{nest, without_first}
use Rattle.sgml_theory_full.specs.theory_reading.Context.{Level, Context, context, context_after, levels_with, levels_after}
use Rattle.sgml_theory_full.specs.theory_reading.Omission.{allowed, fits, fits_content, is_excluded, MayStand, omitted_end, omitted_start}
use Rattle.sgml_theory_full.specs.theory_reading.Runs.{LongestRun, after_run}
use Rattle.sgml_theory_full.specs.theory_reading.Unread.{Outside, Input, opening}
use Rattle.sgml_theory_full.specs.theory_reading.State.{State, state}
use Rattle.sgml_theory_full.specs.theory_reading.Reads.{Move, ReadOn, moved_on, after_moves}
use Rattle.sgml_theory_full.proofs.theory_reading.Contexts.{context-step}
use Rattle.sgml_theory_full.proofs.theory_reading.FirstDeclared.{first-type}
use Rattle.sgml_theory_full.specs.theory_spelling.Places.{content_mode, element_mode}
use Rattle.sgml_theory_full.specs.theory_spelling.Spelled.{forms}
use Rattle.sgml_theory_full.specs.Standing.{PieceStands}
use Rattle.sgml_theory_again.proofs.Texts.{true-false}
use Rattle.sgml_theory_again.proofs.Standing.{EachIs, read-stands}

abbrev pub takes_elements : Content → Bool
takes_elements (Model term) = true
takes_elements Any = true
takes_elements _ = false

abbrev pub Takes : Doctype → Name → Type 0
Takes d n = takes_elements (content_of (type_of d n)) ≡ true

abbrev pub AllTake : Doctype → List Level → Type 0
AllTake d [] = Unit {0}
AllTake d (l ∷ ls) = Takes d l.element × AllTake d ls

abbrev pub IsNested : Context → Type 0
IsNested c = AllTake c.doctype (without_first c.levels)

-- WHAT IS DECLARED stays declared
abbrev of_type : Option ElementType → Content
of_type o = content_of (unwrap_or o undeclared)

first-takes : (o p : Option ElementType) → takes_elements (of_type o) ≡ true → takes_elements (of_type (option_or o p)) ≡ true
first-takes None p e = true-false (sym e)
first-takes (Some t) p e = e

declared-takes : (base : Text) (d : Doctype) (says : Declaration) (n : Name) → Takes d n → Takes (with_declared base d says) n
unfolding type_of
declared-takes base d says n e =
    ap (λ o. takes_elements (of_type o)) (first-type d base says n) ∙ first-takes (element_type d n) (type_said d.syntax n says) e

still-takes : (k : Kind) (d : Doctype) (n : Name) → Takes d n → Takes (declares k d) n
unfolding declares type_of element_type
still-takes (Sgml syntax) d n e = e
still-takes (Head head base) d n e = declared-takes base d (form.Doctype head) n e
still-takes (Declare lexemes says base) d n e = declared-takes base d says n e
still-takes k d n e = e

still-all : (k : Kind) (d : Doctype) (ls : List Level) → AllTake d ls → AllTake (declares k d) ls
still-all k d [] t = tt
still-all k d (l ∷ ls) t = (still-takes k d l.element t.0, still-all k d ls t.1)

-- WHERE A START FITS elements are taken
start-takes : (c : Context) (content : Content) (n : Name) → fits_content c content (Some n) ≡ true → takes_elements content ≡ true
start-takes c (Model term) n f = refl
start-takes c Any n f = refl
start-takes c Cdata n f = f
start-takes c Rcdata n f = f
start-takes c Void n f = f

takes-at : (d : Doctype) (ls : List Level) (b i : Bool) (n : Name) (k : Kind) → fits (record { doctype = d; levels = ls; begun = b; inferred = i }) (Some n) ≡ true
    → AllTake d (without_first ls) → AllTake d (levels_with k ls)
takes-at d [] b i n k f t = tt
takes-at d (l ∷ ls) b i n k f t = (start-takes (record { doctype = d; levels = l ∷ ls; begun = b; inferred = i }) (content_of (type_of d l.element)) n f, t)

start-nested : (c : Context) (n : Name) (k : Kind) → IsTrue (allowed c (Some n)) → IsNested c → AllTake c.doctype (levels_with k c.levels)
unfolding allowed
start-nested c n k a t =
    takes-at c.doctype c.levels c.begun c.inferred n k (and_parts (fits c (Some n)) (not (is_excluded c (Some n))) a).0 t

-- AFTER A PIECE
without-two : (d : Doctype) (ls : List Level) → AllTake d ls → AllTake d (without_first ls)
without-two d [] t = tt
without-two d (l ∷ ls) t = t.1

with-first : (d : Doctype) (k : Kind) (ls : List Level) → AllTake d (without_first ls) → AllTake d (without_first (levels_with k ls))
with-first d k [] t = tt
with-first d k (l ∷ ls) t = t

start-after : (s : State) (n : Name) (k : Kind) (how : How) (at_once : Bool) → IsTrue (allowed s.context (Some n)) → IsNested s.context
    → AllTake s.context.doctype (without_first (levels_after s.context.doctype (effect_of_start n how at_once) k s.context.levels))
start-after s n k how true a t = with-first s.context.doctype k s.context.levels t
start-after s n k how false a t = start-nested s.context n k a t

kind-after : (s : State) (k : Kind) → PieceStands s k → IsNested s.context → AllTake s.context.doctype (without_first (levels_after s.context.doctype (effect k) k s.context.levels))
unfolding effect
kind-after s (Start n ss how proper at_once) h t = start-after s n (Start n ss how proper at_once) how at_once h.fits t
kind-after s (End n how) h t = without-two s.context.doctype (without_first s.context.levels) t
kind-after s k h t = with-first s.context.doctype k s.context.levels t

nested-step : (p : Piece) (s : State) → PieceStands s p.kind → IsNested s.context → IsNested (context_after p s.context)
unfolding context_after
nested-step p s h t =
    still-all p.kind s.context.doctype (without_first (levels_after s.context.doctype (effect p.kind) p.kind s.context.levels)) (kind-after s p.kind h t)

pub nested-next : (p : Piece) (h : History) → PieceStands (state h) p.kind → IsNested (context h) → IsNested (context (p ∷ h))
unfolding state
nested-next p h s t = subst IsNested (sym (context-step p h)) (nested-step p (state h) s t)

pub nested-run : (h : History) (os : List Piece) (v : Piece) → EachIs PieceStands h os v → IsNested (context h) → IsNested (context (v ∷ after_run h os))
nested-run h [] v e t = nested-next v h e t
nested-run h (o ∷ os) v e t = nested-run (o ∷ h) os v e.1 (nested-next o h e.0 t)

pub nested-moves : (I : Input) (h : History) (ms : List Move) → ReadOn forms I h ms → IsNested (context h) → IsNested (context (after_moves h ms))
nested-moves I h [] r t = t
nested-moves I h (m ∷ ms) r t = nested-moves I (moved_on h m) ms r.1 (nested-run h m.omitted m.visible (read-stands I h m r.0) t)

pub nested-opening : (outside : Outside) → IsNested (context (opening outside))
unfolding context nest effect
nested-opening outside = tt

-- THE MODE stays that of content where tags are left out
takes-mode : (content : Content) → takes_elements content ≡ true → content_mode content ≡ mode.Con
takes-mode (Model term) e = refl
takes-mode Any e = refl
takes-mode Cdata e = true-false (sym e)
takes-mode Rcdata e = true-false (sym e)
takes-mode Void e = true-false (sym e)

pub all-mode : (d : Doctype) (ls : List Level) → AllTake d ls → element_mode d ls ≡ mode.Con
all-mode d [] t = refl
all-mode d (l ∷ ls) t = takes-mode (content_of (type_of d l.element)) t.0

undeclared-mode : (content : Content) → has_declared_content content ≡ false → content_mode content ≡ mode.Con
undeclared-mode (Model term) e = refl
undeclared-mode Any e = refl
undeclared-mode Cdata e = true-false e
undeclared-mode Rcdata e = true-false e
undeclared-mode Void e = true-false e

abbrev ModeIsCon : Context → Type 0
ModeIsCon c = element_mode c.doctype c.levels ≡ mode.Con

end-mode : (c : Context) (n : Name) → IsNested c → ModeIsCon (context_after (omitted_end n) c)
unfolding context_after effect declares
end-mode c n t = all-mode c.doctype (without_first c.levels) t

start-mode-after : (c : Context) (n : Name) → has_declared_content (content_of (type_of c.doctype n)) ≡ false → ModeIsCon (context_after (omitted_start n) c)
unfolding context_after effect declares
start-mode-after c n e = undeclared-mode (content_of (type_of c.doctype n)) e

omitted-mode : (c : Context) (o : Piece) (x : Kind) → MayStand c o x → IsNested c → ModeIsCon (context_after o c)
omitted-mode c o x (inl m) t = subst (λ (p : Piece). ModeIsCon (context_after p c)) (sym m.1) (end-mode c m.0 t)
omitted-mode c o x (inr m) t = subst (λ (p : Piece). ModeIsCon (context_after p c)) (sym m.1) (start-mode-after c m.0 m.2.no_declared_content)

pub run-mode : (h : History) (x : Kind) (os : List Piece) (v : Piece) → LongestRun h x os → EachIs PieceStands h os v → IsNested (context h) → ModeIsCon (context h) → ModeIsCon (context (after_run h os))
run-mode h x [] v r e t m = m
run-mode h x (o ∷ os) v r e t m =
    run-mode (o ∷ h) x os v r.1 e.1 (nested-next o h e.0 t) (subst ModeIsCon (sym (context-step o h)) (omitted-mode (context h) o x r.0 t))

-- and after one that is left out it is
pub omitted-run-mode : (h : History) (x : Kind) (o : Piece) (os : List Piece) (v : Piece) → LongestRun h x (o ∷ os) → EachIs PieceStands h (o ∷ os) v → IsNested (context h) → ModeIsCon (context (after_run (o ∷ h) os))
omitted-run-mode h x o os v r e t =
    run-mode (o ∷ h) x os v r.1 e.1 (nested-next o h e.0 t) (subst ModeIsCon (sym (context-step o h)) (omitted-mode (context h) o x r.0 t))
