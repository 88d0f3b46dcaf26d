-- A visible piece with the tags that are left out before it is a move that stands next.
use Rattle.std.specs.Prelude.{◌≡◌, ℕ, Bool, true, false, List, [], ◌∷◌, ◌++◌, Ok}
use Rattle.std.proofs.Common.{refl, sym, ap, ◌∙◌, subst, append_assoc, append-nil}
use Rattle.std.proofs.lemmas.Grind.{flat_map-append}
use Rattle.sgml_dtd.specs.Doctypes.{Doctype}
use Rattle.sgml_events.specs.declared.event.Event.{Event}
use Rattle.sgml_content_steps.specs.said.Told.{said, all_said}
use Rattle.sgml_theory_spelling.specs.theory_reading.Names.{Text}
use Rattle.sgml_theory_spelling.specs.theory_reading.Pieces.{Piece}
use Rattle.sgml_theory_spelling.specs.theory_reading.Facets.{is_omitted}
use Rattle.sgml_theory_spelling.specs.theory_reading.Unread.{Outside}
use Rattle.sgml_theory_spelling.specs.theory_reading.Reads.{Move, pieces}
use Rattle.sgml_theory_spelling.specs.theory_reading.State.{State, after_piece}
use Rattle.sgml_theory_spelling.specs.theory_reading.Characters.{piece_noted}
use Rattle.sgml_theory_spelling.specs.theory_reading.Events.{events_at, events_of_run}
use Rattle.sgml_theory_spelling.specs.Spelled.{forms}
use Rattle.sgml_declared.specs.theory_standing.Next.{IsThere}
use Rattle.sgml_declared.specs.theory_standing.Held.{Held, state_of, state_after_run, is_of_content, IsSpelledIn}
use Rattle.sgml_declared.specs.theory_standing.Moves.{IsMove, held_after, told_by_moves}
use Rattle.sgml_infer.specs.Seen.{started, ended}
use Rattle.sgml_infer.specs.declared.tree.Tree.{Tree}
use Rattle.sgml_infer.specs.Visibles.{left_out}
use Rattle.sgml_content_steps.specs.Content.{Content, Holds}
use Rattle.sgml_content_steps.specs.Steps.{entity_of_kind, entities_of, entity_told, entities_told, Goes}
use Rattle.sgml_content_steps.specs.Runs.{run_of, state_left}

-- WHAT IS TOLD of pieces one after another
pub events-append : (s : State) (ps qs : List Piece) → events_of_run forms s (ps ++ qs) ≡ events_of_run forms s ps ++ events_of_run forms (state_after_run ps s) qs
events-append s [] qs = refl
events-append s (p ∷ ps) qs =
    ap (λ es. events_at forms s p ++ es) (events-append (after_piece p s) ps qs)
    ∙ sym (append_assoc (events_at forms s p) (events_of_run forms (after_piece p s) ps) (events_of_run forms (state_after_run ps (after_piece p s)) qs))

-- no tag that is left out came by an entity
ends-entities : (d : Doctype) (ns : List ℕ) → entities_of (ended d ns) ≡ []
ends-entities d [] = refl
ends-entities d (n ∷ ns) = ends-entities d ns

starts-entities : (d : Doctype) (ns : List ℕ) → entities_of (started d ns) ≡ []
starts-entities d [] = refl
starts-entities d (n ∷ ns) = starts-entities d ns

entities-append : (ps qs : List Piece) → entities_of (ps ++ qs) ≡ entities_of ps ++ entities_of qs
entities-append ps qs = flat_map-append (λ (p : Piece). entity_of_kind p.kind) ps qs

left-entities : (d : Doctype) (tree : Tree) → entities_of (left_out d tree) ≡ []
left-entities d tree =
    entities-append (ended d tree.ended.items) (started d tree.starts.items)
    ∙ (ap (λ es. es ++ entities_of (started d tree.starts.items)) (ends-entities d tree.ended.items) ∙ starts-entities d tree.starts.items)

-- THE MOVE of this visible piece after the tags that were left out
abbrev pub move_with : Content → Piece → Move
move_with c v = record { omitted = run_of c; visible = v }

-- WITH ITS OWN EVENTS after those of the run
pub record IsToldOf (c : Content) (x : Held) (v : Piece) (d : Doctype) (run own : List Event) : Type 0 where
  pub run_said : all_said d run ≡ events_of_run forms (state_of x) (run_of c)
  pub run_entities : entities_told run ≡ []
  pub said : all_said d own ≡ events_at forms (state_left c x) v
  pub entities : entities_told own ≡ entity_of_kind v.kind

pub move-said : (c : Content) (x : Held) (v : Piece) (d : Doctype) (run own : List Event) → IsToldOf c x v d run own
    → all_said d (run ++ own) ≡ told_by_moves x (move_with c v ∷ [])
move-said c x v d run own t =
    let own_told = events_at forms (state_left c x) v in
    flat_map-append (said d) run own
    ∙ (ap (λ es. es ++ all_said d own) t.run_said
    ∙ (ap (λ es. events_of_run forms (state_of x) (run_of c) ++ es) (t.said ∙ sym (append-nil own_told))
    ∙ sym (events-append (state_of x) (run_of c) (v ∷ []))))

pub move-entities : (c : Content) (x : Held) (v : Piece) (d : Doctype) (run own : List Event) → IsToldOf c x v d run own
    → entities_told (run ++ own) ≡ entities_of (pieces (move_with c v ∷ []))
move-entities c x v d run own t =
    flat_map-append entity_told run own
    ∙ (ap (λ es. es ++ entities_told own) t.run_entities
    ∙ (t.entities
    ∙ (sym (append-nil (entity_of_kind v.kind))
    ∙ sym (entities-append (run_of c) (v ∷ [])
    ∙ ap (λ es. es ++ entities_of (v ∷ [])) (left-entities c.kept.doctype c.tree)))))

pub visible-goes : (outside : Outside) (texts : List (ℕ × Text)) (more : Bool) (x : Held) (c new : Content) (p v : Piece) (run own : List Event)
    → IsSpelledIn outside x texts more (Ok p) → piece_noted (state_of x) p ≡ p → is_of_content p.kind ≡ true → is_omitted p.kind ≡ false
    → IsMove (state_of x) p (move_with c v) → IsThere outside x.kept texts v
    → Holds new (held_after outside (move_with c v) x) → IsToldOf c x v new.kept.doctype run own
    → Goes outside texts more x new (run ++ own)
visible-goes outside texts more x c new p v run own s n of_content w m there h t = record {
  moves = move_with c v ∷ [];
  now = held_after outside (move_with c v) x;
  next = (
    record {
      piece = p;
      spelled = s;
      moves = subst (λ (q : Piece). IsMove (state_of x) q (move_with c v)) (sym n) m;
      of_content = of_content;
      written = w;
      there = there;
    },
    refl,
  );
  holds = h;
  said = move-said c x v new.kept.doctype run own t;
  entities = move-entities c x v new.kept.doctype run own t;
  starts = refl;
}
