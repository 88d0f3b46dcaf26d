-- A piece of content that is taken behind the tags that are left out before it.
use Rattle.std.specs.Prelude.{◌≡◌, ℕ, ◌≤◌, Bool, List, [], ◌∷◌, ◌++◌, Option, length, map, Ok, option_map, IfSome}
use Rattle.std.proofs.Common.{refl, sym, ap, ◌∙◌, subst, append-nil}
use Rattle.sgml_inside.specs.records.Items.{Item}
use Rattle.sgml_infer.specs.sgml_dtd.Doctypes.{Doctype}
use Rattle.sgml_events.specs.declared.event.Event.{Event}
use Rattle.sgml_content_steps.specs.said.Told.{all_said}
use Rattle.sgml_infer.specs.theory_reading.Names.{Text}
use Rattle.sgml_infer.specs.theory_reading.Pieces.{Kind}
use Rattle.sgml_infer.specs.theory_reading.Context.{Level, Context, context_after, levels_after, levels_with}
use Rattle.sgml_infer.specs.theory_reading.Currents.{AreCurrents}
use Rattle.sgml_infer.specs.theory_reading.Unread.{Outside}
use Rattle.sgml_infer.specs.theory_reading.Characters.{kind_noted}
use Rattle.sgml_infer.specs.theory_reading.Reads.{pieces}
use Rattle.sgml_infer.specs.theory_reading.Events.{events_at}
use Rattle.sgml_prolog_steps.specs.theory_spelling.Sized.{sized}
use Rattle.sgml_prolog_steps.specs.theory_spelling.Spelled.{forms}
use Rattle.sgml_prolog_steps.specs.theory_standing.Kept.{Kept}
use Rattle.sgml_prolog_steps.specs.theory_standing.Held.{Held, state_of, IsSpelledIn}
use Rattle.sgml_prolog_steps.specs.theory_standing.Moves.{IsMove, held_after, told_by_moves}
use Rattle.sgml_infer.specs.Tables.{name_at, IsNumber}
use Rattle.sgml_infer.specs.Trees.{IsTreeOf}
use Rattle.sgml_infer.specs.Seen.{started, ended}
use Rattle.sgml_infer.specs.declared.visible.Visible.TheVariants as visible
use Rattle.sgml_infer.specs.Visibles.{after_left_out}
use Rattle.sgml_inside.specs.Laws.{AreInForce}
use Rattle.sgml_inside.proofs.Forced.{stays}
use Rattle.sgml_content_steps.specs.theory_starts.Apart.{HasListsApart}
use Rattle.sgml_prolog_steps.specs.Found.{rest_in}
use Rattle.sgml_content_steps.specs.Standing.{IsInInstance}
use Rattle.sgml_content_steps.specs.Content.{Content, Holds, IsContent, context_of}
use Rattle.sgml_content_steps.specs.Steps.{Goes, entity_of_kind, entities_of, entities_told}
use Rattle.sgml_content_steps.specs.declared.run.Run.{Run}
use Rattle.sgml_content_steps.specs.Runs.{IsRun, run_of, state_left}
use Rattle.sgml_content_steps.specs.Judged.{MayStand}
use Rattle.sgml_content_steps.proofs.Standing.{judged-may-stand}
use Rattle.sgml_content_steps.specs.Taken.{IsRunTaken}
use Rattle.sgml_content_data.specs.Taking.{with_item}
use Rattle.sgml_content_data.proofs.Quiet.{IsQuiet}
use Rattle.sgml_content_data.proofs.Holding.{behind, StandsBeside, quiet-holds}
use Rattle.sgml_content_data.proofs.Flowing.{next-one}
use Rattle.sgml_content_data.proofs.Told.{run-told, said-append, entities-append, pieces-append}
use Rattle.sgml_content_data.proofs.Judged.{IsText}

-- THE RUN WAS TAKEN: what is kept then, before the piece
pub record IsTakenFrom (judged mid : Content) (run_told : List Event) : Type 0 where
  pub taken : IsRunTaken judged mid visible.Chars run_told
  pub texts : mid.kept ≡ judged.kept
  pub currents : mid.currents ≡ judged.currents

-- what is open then
pub open-after : (j mid : Content) (told : List Event) (y : Kind) (n : ℕ) → IsTakenFrom j mid told → IsText y
    → context_of mid ≡ context_after (sized n y) (after_left_out j.kept.doctype j.tree)
open-after j mid told y n t is =
    t.taken.context (sized n y) is.token_is
    ∙ ap (λ (z : Kind). context_after (sized n z) (after_left_out j.kept.doctype j.tree)) (is.accepted_is (after_left_out j.kept.doctype j.tree))

elements-with : (y : Kind) (ls : List Level) → map (λ (l : Level). l.element) (levels_with y ls) ≡ map (λ (l : Level). l.element) ls
elements-with y [] = refl
elements-with y (l ∷ ls) = refl

elements-after : (y : Kind) (it : Option Item) (n : ℕ) (s : Context) → IsQuiet y it
    → map (λ (l : Level). l.element) (context_after (sized n y) s).levels ≡ map (λ (l : Level). l.element) s.levels
unfolding context_after
elements-after y it n s q = ap (λ f. map (λ (l : Level). l.element) (levels_after s.doctype f y s.levels)) q.stays ∙ elements-with y s.levels

pub mid-content : (j mid : Content) (told : List Event) (y : Kind) (it : Option Item) (n : ℕ) → IsContent j → IsTakenFrom j mid told → IsText y → IsQuiet y it → IsContent mid
mid-content j mid told y it n is t text q =
    let d = ap (λ (k : Kept). k.doctype) (sym t.texts) in
    let left = after_left_out j.kept.doctype j.tree in
    let names = ap (λ (s : Context). map (λ (l : Level). l.element) s.levels) (open-after j mid told y n t text) ∙ elements-after y it n left q in
    record {
      instance = subst (λ (k : Kept). IsInInstance k) (sym t.texts) is.instance;
      tree = subst (λ (z : Doctype). IsTreeOf z mid.tree) d t.taken.tree;
      maps = subst (λ (z : Doctype). AreInForce z (context_of mid).levels mid.inside.elements) d
          ((stays j.kept.doctype left.levels mid.inside.elements t.taken.maps).same (context_of mid).levels names);
      room = subst (λ (z : Doctype). z.syntax.quantities.taglvl ≤ mid.inside.room) d t.taken.room;
      ended = subst (λ (z : Doctype). IfSome mid.inside.ended (IsNumber z)) d t.taken.ended;
      lists = ap length t.currents ∙ (is.lists ∙ ap (λ (z : Doctype). length z.lists) d);
    }

-- WHAT IS HELD
beside-left : (j mid : Content) (told : List Event) (x : Held) → IsTakenFrom j mid told → Holds j x → StandsBeside (state_left j x) mid
beside-left j mid told x t h =
    let left = t.taken.holds x h in
    let d = ap (λ (k : Kept). k.doctype) (sym t.texts) in
    record {
      record_ends = left.record_ends;
      map_settings = left.map_settings;
      ended = left.ended ∙ ap (λ (z : Doctype). option_map (name_at z) mid.inside.ended) d;
      currents = subst (λ table. AreCurrents mid.kept.doctype table (state_left j x).currents) (sym t.currents)
          (subst (λ (z : Doctype). AreCurrents z j.currents (state_left j x).currents) d left.currents);
      apart = subst (λ (z : Doctype). HasListsApart z) d h.apart;
    }

-- the piece is one that may stand behind the run
pub may-stand : (j : Content) (run : Run) (x : Held) (y : Kind) (n : ℕ) → IsContent j → IsRun j visible.Chars run → Holds j x → IsText y
    → MayStand j visible.Chars x (sized n y)
may-stand j run x y n is r h t = judged-may-stand j visible.Chars run x (sized n y) is r h t.token_is (t.none_undefined (state_of x).context)

pub behind-moves : (j : Content) (run : Run) (x : Held) (y : Kind) (n : ℕ) → IsContent j → IsRun j visible.Chars run → Holds j x → IsText y
    → IsMove (state_of x) (sized n y) (behind (run_of j) n y)
behind-moves j run x y n is r h t =
    subst (λ (z : Kind). IsMove (state_of x) (sized n y) (behind (run_of j) n z)) (t.judged_is (state_left j x).context)
    ((may-stand j run x y n is r h t).moves (t.none_unvalued (state_left j x)))

pub behind-holds : (outside : Outside) (j mid : Content) (told : List Event) (run : Run) (x : Held) (y : Kind) (it : Option Item) (n : ℕ) → IsContent j
    → IsRun j visible.Chars run → IsTakenFrom j mid told → Holds j x → IsText y → IsQuiet y it → Holds (with_item n it mid) (held_after outside (behind (run_of j) n y) x)
behind-holds outside j mid told run x y it n is r t h text q =
    quiet-holds outside x (run_of j) y n it mid q (subst (λ (k : Kept). IsInInstance k) (sym t.texts) is.instance) (h.kept ∙ sym t.texts)
    (ap (context_after (sized n y)) (may-stand j run x y n is r h text).left ∙ sym (open-after j mid told y n t text))
    (beside-left j mid told x t h)

-- WHAT IT TELLS behind the run
pub behind-said : (j mid : Content) (told ev : List Event) (x : Held) (y : Kind) (n : ℕ) (d : Doctype) → IsTakenFrom j mid told → Holds j x → d ≡ j.kept.doctype
    → all_said d ev ≡ events_at forms (state_left j x) (sized n y) → all_said d (told ++ ev) ≡ told_by_moves x (behind (run_of j) n y ∷ [])
behind-said j mid told ev x y n d t h e said =
    said-append d told ev
    ∙ ((λ i. (ap (λ (z : Doctype). all_said z told) e ∙ (t.taken.holds x h).said) i ++ (said ∙ sym (append-nil (events_at forms (state_left j x) (sized n y)))) i)
    ∙ sym (run-told (state_of x) (run_of j) (sized n y ∷ [])))

-- omitted tags are by no entity
ended-none : (d : Doctype) (ns : List ℕ) → entities_of (ended d ns) ≡ []
ended-none d [] = refl
ended-none d (n ∷ ns) = ended-none d ns

started-none : (d : Doctype) (ns : List ℕ) → entities_of (started d ns) ≡ []
started-none d [] = refl
started-none d (n ∷ ns) = started-none d ns

pub run-none : (c : Content) → entities_of (run_of c) ≡ []
run-none c =
    pieces-append (ended c.kept.doctype c.tree.ended.items) (started c.kept.doctype c.tree.starts.items)
    ∙ (λ i. ended-none c.kept.doctype c.tree.ended.items i ++ started-none c.kept.doctype c.tree.starts.items i)

behind-none : (c : Content) (y : Kind) (n : ℕ) → IsText y → entities_of (pieces (behind (run_of c) n y ∷ [])) ≡ []
behind-none c y n t =
    pieces-append (run_of c) (sized n y ∷ []) ∙ (λ i. run-none c i ++ (append-nil (entity_of_kind y) ∙ t.entities) i)

-- SO IT GOES ON
pub behind-goes : (outside : Outside) (texts : List (ℕ × Text)) (ended : Bool) (j mid : Content) (told ev : List Event) (run : Run) (x : Held) (y : Kind)
    (it : Option Item) (n : ℕ) → IsContent j → IsRun j visible.Chars run → IsTakenFrom j mid told → Holds j x → IsText y → IsQuiet y it → n ≤ length (rest_in j.kept texts)
    → IsSpelledIn outside x texts ended (Ok (sized n y)) → kind_noted (state_of x) y ≡ y → all_said mid.kept.doctype ev ≡ events_at forms (state_left j x) (sized n y)
    → entities_told ev ≡ [] → Goes outside texts ended x (with_item n it mid) (told ++ ev)
behind-goes outside texts ended j mid told ev run x y it n is r t h text q l s noted said none = record {
  moves = behind (run_of j) n y ∷ [];
  now = held_after outside (behind (run_of j) n y) x;
  next = (next-one outside texts ended j x (run_of j) y n it is h q l s noted (behind-moves j run x y n is r h text), refl);
  holds = behind-holds outside j mid told run x y it n is r t h text q;
  said = behind-said j mid told ev x y n mid.kept.doctype t h (ap (λ (k : Kept). k.doctype) t.texts) said;
  entities = entities-append told ev ∙ ((λ i. t.taken.entities i ++ none i) ∙ sym (behind-none j y n text));
  starts = refl;
}
