-- The worked documents hold: what stands in them is computed.
use Rattle.std.proofs.Common.{◌≡◌, ℕ, zero, suc, Bool, true, false, ◌&&◌, List, [], ◌∷◌, Option, Some, None, unwrap_or, option_and_then, refl, sym, ◌∙◌, inr}
use Rattle.std.specs.List.{list_all, slice_get}
use Rattle.sgml_theory_worked.specs.model.Reading.{run}
use Rattle.sgml_theory_worked.specs.decl_forms.Elements.{element_at}
use Rattle.sgml_theory_worked.specs.dtd.Doctypes.{Doctype}
use Rattle.sgml_theory_worked.specs.dtd_elements.Types as elements
use Rattle.sgml_theory_worked.specs.dtd_elements.Types.{ElementType}
use Rattle.sgml_theory_worked.specs.theory_reading.Types.{element_type, type_of, content_of, model_of, undeclared, attributes, has_required, has_conref}
use Rattle.sgml_theory_worked.specs.theory_reading.Pieces.{Piece, Kind, Tag, Short, Finish}
use Rattle.sgml_theory_worked.specs.theory_reading.Facets.{effect, is_omitted_start, is_start, is_finish, token, declares}
use Rattle.sgml_theory_worked.specs.theory_reading.Context.{Context, context_after, at_start, piece_of}
use Rattle.sgml_theory_worked.specs.theory_reading.Omission.{NoneMayStand, allowed, finished, inside_of_ended, leaves}
use Rattle.sgml_theory_worked.specs.theory_reading.Runs.{LongestRunFrom, context_after_run}
use Rattle.sgml_theory_worked.specs.theory_reading.Walk.{next_omitted}
use Rattle.sgml_theory_worked.specs.theory_reading.Reasons.{row, content_refusal, end_refusal, finish_refusal, reason}
use Rattle.sgml_theory_worked.specs.theory_reading.ShortTags.{empty_end_type, net_type}
use Rattle.sgml_theory_worked.specs.theory_reading.Characters.{ends_at_once}
use Rattle.sgml_theory_worked.specs.theory_reading.Reads.{Move, undefined, judged, pieces}
use Rattle.sgml_theory_worked.proofs.theory_reading.Walking.{found-stands, stands-found}
use Rattle.sgml_theory_worked.specs.Documents.{D, P}
use Rattle.sgml_theory_written.specs.Alike.{Alike}
use Rattle.sgml_theory_written.specs.Free.{is_free}
use Rattle.sgml_theory_written.specs.Freely.{HasFreeContent, IsFree, AreFreelyRewritten, piece, lacking, besides}
use Rattle.sgml_theory_written.specs.Freely as freely
use Rattle.sgml_theory_written.specs.Standing.{HasItsType, context_moved, StandBy, AreWritten}
use Rattle.sgml_theory_written.specs.Worked.{start, end, character, paragraphs, short_tags, whole_tags, WorkedTags, mixed, first_data, other_data, WorkedData}
use Rattle.sgml_theory_written.proofs.Moving.{moves-written, moves-are-written}
use Rattle.sgml_theory_written.proofs.Covering.{alike-take-alike}
use Rattle.sgml_theory_written.proofs.Freely.{moves-freely}

-- WHAT IS COMPUTED of moves that stand: the omitted pieces are those that are found
abbrev AreFound : Context → Kind → List Piece → Type 0
AreFound c x [] = next_omitted c x ≡ None
AreFound c x (o ∷ os) = (next_omitted c x ≡ Some o) × AreFound (context_after o c) x os

none-stands : (c : Context) (x : Kind) → next_omitted c x ≡ None → NoneMayStand c x
none-stands c x e = λ o m. let f : Some o ≡ None = sym (stands-found c x o m) ∙ e in absurd (cc)

found-longest : (c : Context) (x : Kind) (os : List Piece) → AreFound c x os → LongestRunFrom c x os
found-longest c x [] f = none-stands c x f
found-longest c x (o ∷ os) f = (found-stands c x o f.0, found-longest (context_after o c) x os f.1)

data AreComputed : Context → List Move → Type 0 where
  over : (c : Context) → AreComputed c []
  next : (c : Context) (m : Move) (ms : List Move) → HasItsType c m.visible.kind → undefined c m.visible.kind ≡ None → AreFound c m.visible.kind m.omitted
      → reason (context_after_run c m.omitted) m.visible.kind ≡ None → m.visible.kind ≡ judged (context_after_run c m.omitted) m.visible.kind
      → AreComputed (context_moved c m) ms → AreComputed c (m ∷ ms)

stand-by : (c : Context) (ms : List Move) → AreComputed c ms → StandBy c ms
stand-by c _ (over _) = tt
stand-by c _ (next _ m ms type declared found none noted rest) = (
  m.visible.kind,
  record { has_its_type = type; declared = declared; longest = found-longest c m.visible.kind m.omitted found; no_reason = none; noted = noted },
  stand-by (context_moved c m) ms rest,
)

alike-itself : (c : Context) → Alike c c
alike-itself c = record { doctypes = refl; levels = refl; begun = refl }

-- TAGS
short-computed : AreComputed (at_start paragraphs) short_tags
unfolding element_type type_of element_at run attributes has_required has_conref effect is_omitted_start is_start is_finish token declares context_after allowed finished inside_of_ended leaves next_omitted row content_refusal end_refusal finish_refusal reason empty_end_type net_type ends_at_once
short-computed =
    next _ _ _ tt refl refl refl refl (next _ _ _ tt refl refl refl refl (next _ _ _ tt refl refl refl refl (
    next _ _ _ refl refl refl refl refl (next _ _ _ tt refl refl refl refl (next _ _ _ tt refl refl refl refl (
    next _ _ _ tt refl (refl, refl) refl refl (next _ _ _ tt refl refl refl refl (
    next _ _ _ refl refl refl refl refl (next _ _ _ tt refl refl refl refl (next _ _ _ tt refl refl refl refl (over _)))))))))))

pub worked-tags : WorkedTags
worked-tags =
    let c = at_start paragraphs in
    let stand = stand-by c short_tags short-computed in
    let written : AreWritten c (pieces short_tags) whole_tags = moves-are-written c short_tags stand in
    let again = moves-written c c short_tags whole_tags stand (alike-itself c) written in
    record { stand = stand; written = written; alone = again.0; alike = again.1 }

-- DATA
data-computed : AreComputed (at_start mixed) first_data
unfolding element_type type_of element_at run attributes has_required has_conref effect is_omitted_start is_start is_finish token declares context_after allowed finished inside_of_ended leaves next_omitted row content_refusal end_refusal finish_refusal reason empty_end_type net_type ends_at_once
data-computed =
    next _ _ _ tt refl refl refl refl (next _ _ _ tt refl refl refl refl (next _ _ _ tt refl refl refl refl (
    next _ _ _ tt refl refl refl refl (next _ _ _ refl refl refl refl refl (next _ _ _ tt refl refl refl refl (
    next _ _ _ tt refl refl refl refl (over _)))))))

-- the model of each type is free where those of all that are declared are
abbrev has_free_model : ElementType → Bool
has_free_model e = is_free (model_of (content_of e))

free-at : (es : List ElementType) (i : ℕ) → list_all has_free_model es ≡ true → has_free_model (unwrap_or (slice_get es i) undeclared) ≡ true
free-at [] i h = refl
free-at (e ∷ es) zero h = first (has_free_model e) h
  where
    first : (b : Bool) → (b && list_all has_free_model es) ≡ true → b ≡ true
    first true h = refl
    first false h = h
free-at (e ∷ es) (suc i) h = free-at es i (rest (has_free_model e) h)
  where
    rest : (b : Bool) → (b && list_all has_free_model es) ≡ true → list_all has_free_model es ≡ true
    rest true h = h
    rest false h = cc

free-models : (d : Doctype) → list_all has_free_model (elements.types d.elements) ≡ true → HasFreeContent d
unfolding type_of element_type
free-models d h n = by (elements.number_of d.elements n)
  where
    by : (o : Option ℕ) → has_free_model (unwrap_or (option_and_then (λ i. slice_get (elements.types d.elements) i) o) undeclared) ≡ true
    by None = refl
    by (Some i) = free-at (elements.types d.elements) i h

mixed-is-free : HasFreeContent mixed
unfolding element_at run
mixed-is-free = free-models mixed refl

data-rewritten : AreFreelyRewritten (at_start mixed) (pieces first_data) other_data
unfolding element_type type_of element_at run attributes has_conref declares context_after effect token is_start is_omitted_start is_finish allowed ends_at_once
data-rewritten =
    piece _ (start D Tag) (start D Tag) _ _ (λ d. refl) ([], refl, refl)
    (lacking _ (character 97) _ _ (inr refl)
    (piece _ (start P Tag) (start P Tag) _ _ (λ d. refl) ([], refl, refl)
    (lacking _ (character 98) _ _ (inr refl)
    (piece _ (end P Short) (end P Tag) _ _ (λ d. refl) refl
    (besides _ (character 99) _ _ (inr (refl, refl))
    (piece _ (end D Tag) (end D Tag) _ _ (λ d. refl) refl
    (piece _ (piece_of Finish) (piece_of Finish) _ _ (λ d. refl) refl
    (freely.over _))))))))

pub worked-data : WorkedData
worked-data =
    let c = at_start mixed in
    let stand = stand-by c first_data data-computed in
    let free : IsFree c = record { models = mixed-is-free; lefts = refl } in
    let again = moves-freely c c first_data other_data stand free (alike-take-alike c c (alike-itself c)) data-rewritten in
    record { stand = stand; free = free; rewritten = data-rewritten; alone = again.0; there = again.1.there; here = again.1.here }
