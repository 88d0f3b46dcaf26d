-- A start is taken with its run: there is a place for what stands inside its element.
use Rattle.std.specs.Prelude.{◌≡◌, ℕ, ◌+◌, ◌<◌, ◌||◌, Bool, true, false, List, [], ◌∷◌, ◌++◌, length}
use Rattle.std.proofs.Common.{refl, sym, ap, ◌∙◌, subst, arith}
use Rattle.sgml_text.specs.declared.place.Place.{Place}
use Rattle.sgml_dtd.specs.Doctypes.{Doctype}
use Rattle.sgml_dtd.specs.dtd_elements.Laws.{AreDistinct}
use Rattle.sgml_events.specs.declared.event.Event.{Event}
use Rattle.sgml_theory_spelling.specs.theory_reading.Types.{type_of, content_of}
use Rattle.sgml_theory_spelling.specs.theory_reading.Pieces.{Kind, Tag}
use Rattle.sgml_theory_spelling.specs.theory_reading.Facets.{declares, effect}
use Rattle.sgml_theory_spelling.specs.theory_reading.Context.{Context, Level, levels_with, context_after}
use Rattle.sgml_theory_spelling.specs.theory_reading.Characters.{is_void}
use Rattle.sgml_declared.specs.theory_standing.Kept.{Kept}
use Rattle.sgml_starts.specs.declared.starts.StartValues.{StartValues}
use Rattle.sgml_infer.specs.Tables.{name_at, IsNumber}
use Rattle.sgml_infer.specs.declared.visible.Visible.TheVariants as visible
use Rattle.sgml_infer.specs.Trees.{context_in, IsTreeOf}
use Rattle.sgml_infer.specs.Visibles.{start_of, after_left_out, IsVisible}
use Rattle.sgml_infer.proofs.Declared.{said-of}
use Rattle.sgml_inside.specs.declared.inside.Inner.{Inner}
use Rattle.sgml_inside.specs.Laws.{AreInForce}
use Rattle.sgml_content_steps.specs.Content.{Content, context_of}
use Rattle.sgml_content_steps.specs.Taken.{IsRunTaken}
use Rattle.sgml_content_tags.specs.Starts.{is_void_at, inside_noted, inside_begun, begin_told, Settles, IsStartTaken}
use Rattle.sgml_content_tags.proofs.Levels.{levels-length}

as-many : (d : Doctype) (ls : List Level) (xs : List Inner) → AreInForce d ls xs → length ls ≡ length xs
as-many d [] [] h = refl
as-many d (l ∷ ls) (x ∷ xs) h = let e = as-many d ls xs h.1 in omega (arith, e)
as-many d [] (x ∷ xs) h = absurd h
as-many d (l ∷ ls) [] h = absurd h

same-length : (kind : Kind) (ls : List Level) → length (levels_with kind ls) ≡ length ls
same-length kind [] = refl
same-length kind (l ∷ ls) = refl

pub either-left : (a b : Bool) → (a || b) ≡ false → a ≡ false
either-left true b e = e
either-left false b e = refl

module _ (judged t : Content) (number : ℕ) (told : List Event) (distinct : AreDistinct judged.kept.doctype.elements) (numbered : IsNumber judged.kept.doctype number)
    (same : t.kept.doctype ≡ judged.kept.doctype) (taken : IsRunTaken judged t (visible.Start number) told) where
  abbrev d : Doctype
  d = judged.kept.doctype

  abbrev after_run : Context
  after_run = after_left_out d judged.tree

  sees : IsVisible d (visible.Start number) (start_of (name_at d number) [] Tag true false 0 0).kind
  sees = record { specifications = []; how = Tag; proper = true; at_once = false; written = tt; is = refl }

  doctype-is : after_run.doctype ≡ d
  unfolding context_after declares
  doctype-is = sym (ap (λ (s : Context). s.doctype) (taken.context (start_of (name_at d number) [] Tag true false 0 0) sees)) ∙ same

  void-is : is_void (content_of (type_of after_run.doctype (name_at d number))) ≡ is_void_at d number
  void-is = ap (λ (z : Doctype). is_void (content_of (type_of z (name_at d number)))) doctype-is ∙ ap (λ z. is_void (content_of z)) (said-of d number distinct numbered)

  -- one more is open
  deeper : (b proper : Bool) → b ≡ false → length (context_after (start_of (name_at d number) [] Tag proper b 0 0) after_run).levels ≡ length after_run.levels + 1
  unfolding context_after effect
  deeper true proper e = absurd (cc)
  deeper false proper e = let l = same-length (start_of (name_at d number) [] Tag proper false 0 0).kind after_run.levels in omega (arith, l)

  pub level-fits : is_void_at d number ≡ false → length t.inside.elements < t.inside.room
  level-fits e =
      let l = as-many d after_run.levels t.inside.elements taken.maps in
      let open_now : length (context_of t).levels ≡ length after_run.levels + 1 =
      ap (λ (s : Context). length s.levels) (taken.context (start_of (name_at d number) [] Tag true false 0 0) sees) ∙ deeper _ _ (void-is ∙ e) in
      let known : length (context_of t).levels ≡ t.tree.depth = ap (λ (z : Doctype). length (context_in z t.tree).levels) same ∙ levels-length d t.tree taken.tree.places in
      let within = taken.tree.depth in
      let room = taken.room in
      omega (arith, l, open_now, known, within, room)

-- WHAT WAS TAKEN, by the tables that are kept
pub start-taken : (judged old t new : Content) (place : Place) (number : ℕ) (net included : Bool) (start : StartValues) (before middle after told : List Event)
    → t.kept ≡ old.kept → t.currents ≡ old.currents → old.kept.doctype ≡ judged.kept.doctype → middle ≡ before ++ told → IsRunTaken judged t (visible.Start number) told
    → new ≡ record t {
      tree = new.tree;
      inside = inside_begun t.kept.doctype number (is_void_at t.kept.doctype number || start.conref) (inside_noted included t.inside);
    }
    → after ≡ middle ++ begin_told place t.inside number included (is_void_at t.kept.doctype number || start.conref) start.values
    → Settles (is_void_at t.kept.doctype number) start.conref net t.tree new.tree
    → ((d : Doctype) → IsTreeOf d t.tree → IsTreeOf d new.tree)
    → IsStartTaken judged old new place number net included start before after
start-taken judged old t new place number net included start before middle after told k c d m taken is a settles tree = record {
  left = t;
  told = told;
  run = taken;
  kept = k;
  currents = c;
  is = is ∙ (λ i. record t {
    tree = new.tree;
    inside = inside_begun (k i).doctype number (is_void_at (k i).doctype number || start.conref) (inside_noted included t.inside);
  });
  settles = subst (λ (z : Kept). Settles (is_void_at z.doctype number) start.conref net t.tree new.tree) k settles;
  tree = tree old.kept.doctype (subst (λ (z : Doctype). IsTreeOf z t.tree) (sym d) taken.tree);
  all = a ∙ (λ i. m i ++ begin_told place t.inside number included (is_void_at (k i).doctype number || start.conref) start.values);
}
