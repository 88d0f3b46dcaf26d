-- A start is a move that stands next, and what is kept after it holds what is held after it.
use Rattle.std.specs.Prelude.{◌≡◌, ℕ, ◌+◌, ◌<◌, ◌≤◌, ◌||◌, Bool, true, false, not, Some, None, List, [], ◌++◌, All, length, Ok}
use Rattle.std.proofs.Common.{refl, sym, ap, ◌∙◌, subst, append_assoc}
use Rattle.std.proofs.lemmas.List.Elements.{All-append}
use Rattle.sgml_text.specs.declared.place.Place.{Place}
use Rattle.sgml_scan.specs.declared.state.ScanState.{ScanState}
use Rattle.sgml_dtd.specs.Doctypes.{Doctype}
use Rattle.sgml_events.specs.declared.event.Event.{Event}
use Rattle.sgml_theory_spelling.specs.theory_reading.Names.{Name, Text}
use Rattle.sgml_theory_spelling.specs.theory_reading.Types.{type_of, content_of}
use Rattle.sgml_theory_spelling.specs.theory_reading.Pieces.{Piece, Start, Specification, How, Tag, Short, Slash, Net, Omitted}
use Rattle.sgml_theory_spelling.specs.theory_reading.Facets.{declares, is_omitted, is_omitted_how, is_slash}
use Rattle.sgml_theory_spelling.specs.theory_reading.Context.{Context, context_after}
use Rattle.sgml_theory_spelling.specs.theory_reading.Currents.{AreCurrents, currents_after}
use Rattle.sgml_theory_spelling.specs.theory_reading.Unread.{Outside}
use Rattle.sgml_theory_spelling.specs.theory_reading.State.{State, after_piece}
use Rattle.sgml_theory_spelling.specs.theory_reading.Characters.{is_void, ends_at_once}
use Rattle.sgml_theory_spelling.specs.theory_reading.Reads.{unless_declared, judged_piece, is_proper_in, top_place}
use Rattle.sgml_theory_spelling.specs.Attributes.{unvalued}
use Rattle.sgml_declared.specs.theory_standing.Kept.{Kept}
use Rattle.sgml_declared.specs.theory_standing.Next.{IsThere, after}
use Rattle.sgml_content_steps.specs.theory_starts.Starts.{Table}
use Rattle.sgml_declared.specs.theory_standing.Held.{Held, state_of, IsSpelledIn}
use Rattle.sgml_declared.specs.theory_standing.Moves.{IsMove, held_after}
use Rattle.sgml_starts.specs.declared.starts.StartValues.{StartValues}
use Rattle.sgml_content_steps.specs.theory_starts.Valued.{IsValued}
use Rattle.sgml_infer.specs.Tables.{name_at, type_at, IsNumber}
use Rattle.sgml_infer.specs.declared.tree.Tree.{Tree}
use Rattle.sgml_infer.specs.declared.visible.Visible.TheVariants as visible
use Rattle.sgml_infer.specs.Trees.{context_in, IsTreeOf}
use Rattle.sgml_infer.specs.Visibles.{plain, start_of, accepted_piece, after_left_out, IsVisible, IsWritten}
use Rattle.sgml_infer.proofs.Declared.{said-of}
use Rattle.sgml_inside.specs.Laws.{AreInForce}
use Rattle.sgml_declared.specs.Files.{Choices}
use Rattle.sgml_prolog_steps.specs.Found.{rest_in}
use Rattle.sgml_content_steps.specs.Standing.{IsInInstance, IsHeld}
use Rattle.sgml_content_steps.specs.Content.{Content, Holds, IsContent}
use Rattle.sgml_content_steps.specs.Steps.{Goes, IsAt, IsOutside, IsStep, TellsBy}
use Rattle.sgml_content_steps.specs.declared.run.Run.{Run}
use Rattle.sgml_content_steps.specs.Runs.{state_left}
use Rattle.sgml_content_steps.specs.Judged.{MayStand, JudgedMayStand}
use Rattle.sgml_content_steps.specs.Taken.{IsRunTaken}
use Rattle.sgml_content_steps.proofs.Said.{values-are-said}
use Rattle.sgml_content_tags.specs.Starts.{is_void_at, inside_noted, inside_begun, begin_told, Settles, IsStartTaken}
use Rattle.sgml_content_tags.proofs.Numbered.{name-declared, defined}
use Rattle.sgml_content_tags.proofs.Still.{IsStill, after-still, start-still, noted-still, read_on, there-still, instance-read, falls-read}
use Rattle.sgml_content_tags.proofs.Going.{move_with, IsToldOf, visible-goes}
use Rattle.sgml_content_tags.proofs.Ending.{judged_from, IsJudgedFor, context-held}
use Rattle.sgml_content_tags.proofs.Noted.{begun_piece, inside_after, begun-ends, begun-settings, begun-ended, begun-room, begun-number, begun-maps, begun-said, begun-entities, begun-at}

-- a start that is written isn't left out
written-how : (how : How) → IsWritten how → is_omitted_how how ≡ false
written-how Tag w = refl
written-how Short w = refl
written-how Slash w = refl
written-how Net w = refl
written-how Omitted w = absurd w

start-written : (n : Name) (ss : List Specification) (how : How) → IsWritten how → is_omitted (Start n ss how true false) ≡ false
unfolding is_omitted
start-written n ss how w = written-how how w

start-valued-as : (s : State) (n : Name) (ss : List Specification) (how : How) (proper at_once : Bool)
    → unvalued s (Start n ss how proper at_once) ≡ None → unvalued s (Start n ss how true false) ≡ None
unfolding unvalued
start-valued-as s n ss how proper at_once e = e

not-back : (a b : Bool) → a ≡ not b → b ≡ not a
not-back a true e = ap not (sym e)
not-back a false e = ap not (sym e)

how_by : Bool → How
how_by true = Slash
how_by false = Tag

slash-by : (net : Bool) → is_slash (how_by net) ≡ net
unfolding how_by
slash-by true = refl
slash-by false = refl

written-by : (net : Bool) → IsWritten (how_by net)
unfolding how_by
written-by true = tt
written-by false = tt

-- A START as it is spelled, before it is judged
abbrev pub spelled_start : Doctype → ℕ → List Specification → How → ℕ → ℕ → Piece
spelled_start d number ss how size spent = start_of (name_at d number) ss how true false size spent

-- WHAT IS KNOWN of a start where its run was taken: `t` is what is kept then, of which this was told
pub record IsBegun (n number spent : ℕ) (net : Bool) (old t new : Content) (tree : Tree) (table : Table) (run : Run) (start : StartValues) (table_after : Table) (told : List Event) : Type 0 where
  pub law : JudgedMayStand
  pub judged : IsJudgedFor old tree table (visible.Start number) run
  pub numbered : IsNumber old.kept.doctype number
  pub kept : t.kept ≡ read_on n spent old.kept
  pub currents : t.currents ≡ table_after
  pub taken : IsRunTaken (judged_from old tree table) t (visible.Start number) told
  pub grown : old.kept.stack.spent ≤ spent
  pub as_many : length table_after ≡ length old.kept.doctype.lists
  -- and the start itself
  pub is : new ≡ record t {
    tree = new.tree;
    inside = inside_after old.kept.doctype number run.chain.included (is_void_at old.kept.doctype number || start.conref) t.inside;
  }
  pub settles : Settles (is_void_at old.kept.doctype number) start.conref net t.tree new.tree
  pub tree_of : IsTreeOf old.kept.doctype new.tree

module _ (n number spent : ℕ) (net : Bool) (old t new : Content) (tree : Tree) (table : Table) (run : Run) (start : StartValues) (table_after : Table) (told : List Event)
    (b : IsBegun n number spent net old t new tree table run start table_after told) where
  abbrev d : Doctype
  d = old.kept.doctype

  abbrev c : Content
  c = judged_from old tree table

  abbrev open_after_run : Context
  open_after_run = after_left_out d tree

  abbrev at_once : Bool
  at_once = is_void_at d number || start.conref

  abbrev included : Bool
  included = run.chain.included

  instance : IsInInstance old.kept
  instance = b.judged.content.instance

  abbrev after_start : Content
  after_start = record {
    kept = read_on n spent old.kept;
    tree = new.tree;
    inside = inside_after d number included at_once t.inside;
    currents = table_after;
  }

  start-is : new ≡ after_start
  start-is = b.is ∙ (λ i. record { kept = b.kept i; tree = new.tree; inside = inside_after d number included at_once t.inside; currents = b.currents i })

  sees : (ss : List Specification) (how : How) (size paid : ℕ) → IsWritten how → IsVisible d (visible.Start number) (spelled_start d number ss how size paid).kind
  sees ss how size paid w = record { specifications = ss; how = how; proper = true; at_once = false; written = w; is = refl }

  doctype-taken : open_after_run.doctype ≡ d
  unfolding context_after declares
  doctype-taken =
      sym (ap (λ (s : Context). s.doctype) (b.taken.context (spelled_start d number [] Tag 0 0) (sees [] Tag 0 0 tt))) ∙ ap (λ (k : Kept). k.doctype) b.kept

  type-is : type_of open_after_run.doctype (name_at d number) ≡ type_at d number
  type-is = ap (λ (z : Doctype). type_of z (name_at d number)) doctype-taken ∙ said-of d number b.judged.content.tree.distinct b.numbered

  proper-is : (ss : List Specification) (how : How) (size paid : ℕ) → IsWritten how → is_proper_in open_after_run open_after_run.levels (Some (name_at d number)) ≡ not included
  proper-is ss how size paid w =
      not-back included (is_proper_in open_after_run open_after_run.levels (Some (name_at d number)))
      (b.judged.judged.judged.included (spelled_start d number ss how size paid).kind (sees ss how size paid w))

  -- THE OPEN ELEMENTS after it
  accepted-is : (ss : List Specification) (how : How) (size paid : ℕ) → IsWritten how
      → accepted_piece open_after_run (spelled_start d number ss how size paid) ≡ start_of (name_at d number) ss (plain how) (not included) (is_void_at d number) size paid
  accepted-is ss how size paid w = λ i. start_of (name_at d number) ss (plain how) (proper-is ss how size paid w i) (is_void (content_of (type-is i))) size paid

  context-begun : (ss : List Specification) (how : How) (size paid : ℕ) → IsWritten how → is_slash how ≡ net
      → context_in d new.tree ≡ context_after (begun_piece d number ss how included at_once size paid) open_after_run
  context-begun ss how size paid w e =
      b.settles d open_after_run (name_at d number) ss how (not included) size paid e
      (ap (λ (k : Kept). context_in k.doctype t.tree) (sym b.kept)
      ∙ (b.taken.context (spelled_start d number ss how size paid) (sees ss how size paid w)
      ∙ ap (λ (p : Piece). context_after p open_after_run) (accepted-is ss how size paid w)))

  content-after : IsContent after_start
  content-after = record {
    instance = instance-read n spent old.kept instance;
    tree = b.tree_of;
    maps = subst (λ (s : Context). AreInForce d s.levels (inside_after d number included at_once t.inside).elements)
        (sym (context-begun [] (how_by net) 0 0 (written-by net) (slash-by net)))
        (begun-maps d number [] (how_by net) included 0 0 t.inside open_after_run b.taken.maps at_once);
    room = subst (λ m. d.syntax.quantities.taglvl ≤ m) (sym (begun-room d number included at_once t.inside)) b.taken.room;
    ended = begun-number d number included at_once t.inside b.numbered b.taken.ended;
    lists = b.as_many;
  }

  -- FOR ONE THAT IS HELD
  module _ (outside : Outside) (more : Bool) (texts : List (ℕ × Text)) (x : Held) (h : Holds old x) (ss : List Specification) (how : How) (paid : ℕ)
      (w : IsWritten how) (slash : is_slash how ≡ net) (paid_is : old.kept.stack.spent + paid ≡ spent)
      (valued : (proper ends : Bool) → IsValued (state_left (judged_from old tree table) x) (name_at old.kept.doctype number) ss how proper ends start table_after) where
    abbrev s : State
    s = state_left c x

    abbrev p : Piece
    p = spelled_start d number ss how n paid

    abbrev v : Piece
    v = begun_piece d number ss how included at_once n paid

    still : IsStill p.kind
    still = start-still (name_at d number) ss how true false

    may : MayStand c (visible.Start number) x p
    may = b.law c (visible.Start number) run x p b.judged.content b.judged.judged (b.judged.holds x h) (sees ss how n paid w)
        (ap (λ (k : Kept). unless_declared k.doctype (name_at d number)) h.kept
        ∙ defined d (name_at d number) (name-declared d number b.judged.content.tree.distinct b.numbered))

    ends-is : ends_at_once s.context.doctype (name_at d number) ss ≡ at_once
    ends-is =
        (valued true false).ends
        ∙ ap (λ (z : Doctype). is_void (content_of (type_of z (name_at d number))) || start.conref) (ap (λ (z : Context). z.doctype) may.left)
        ∙ ap (λ z. is_void (content_of z) || start.conref) type-is

    visible-is : judged_piece s.context p ≡ v
    visible-is =
        (λ i. start_of (name_at d number) ss how (is_proper_in (may.left i) (may.left i).levels (Some (name_at d number))) (ends-is i) n paid)
        ∙ ap (λ (proper : Bool). start_of (name_at d number) ss how proper at_once n paid) (proper-is ss how n paid w)

    moves : IsMove (state_of x) p (move_with c v)
    moves = subst (λ (q : Piece). IsMove (state_of x) p (move_with c q)) visible-is
        (may.moves (start-valued-as s (name_at d number) ss how true false (valued true false).no_reason))

    kept-after : after outside v x.kept ≡ read_on n spent old.kept
    kept-after =
        ap (after outside v) h.kept
        ∙ (after-still outside old.kept v instance (start-still (name_at d number) ss how (not included) at_once)
        ∙ ap (λ m. read_on n m old.kept) paid_is)

    doctype-left : s.context.doctype ≡ d
    doctype-left = ap (λ (z : Context). z.doctype) may.left ∙ doctype-taken

    currents-after : AreCurrents d table_after (currents_after s.context.doctype v.kind s.currents)
    currents-after =
        subst (λ (z : Doctype). AreCurrents z table_after (currents_after s.context.doctype v.kind s.currents)) doctype-left (valued (not included) at_once).currents

    holds-after : Holds after_start (held_after outside (move_with c v) x)
    unfolding after_piece
    holds-after =
        let left = b.taken.holds x (b.judged.holds x h) in
        record {
          kept = kept-after;
          context = context-held (after outside v x.kept) (context_after v s.context) after_start (ap (λ (k : Kept). k.doctype) kept-after)
              (ap (context_after v) may.left ∙ sym (context-begun ss how n paid w slash));
          record_ends = begun-ends d number ss how included n paid t.inside s at_once left.record_ends;
          map_settings = begun-settings d number ss how included n paid t.inside s at_once left.map_settings;
          ended = begun-ended d number ss how included n paid t.inside s at_once left.ended;
          currents = currents-after;
          apart = h.apart;
        }

    start-told : (place : Place) → IsToldOf c x v d told (begin_told place t.inside number included at_once start.values)
    start-told place =
        let left = b.taken.holds x (b.judged.holds x h) in
        record {
          run_said = left.said;
          run_entities = b.taken.entities;
          said = begun-said d number ss how included at_once n paid t.inside s place start.values left.record_ends
              (values-are-said d number s (name_at d number) ss how (not included) at_once start table_after b.numbered doctype-left refl (valued (not included) at_once));
          entities = begun-entities place t.inside number included at_once start.values;
        }

    start-goes : (place : Place) → n ≤ length (rest_in old.kept texts) → IsSpelledIn outside x texts more (Ok p)
        → Goes outside texts more x after_start (told ++ begin_told place t.inside number included at_once start.values)
    start-goes place within spelled =
        visible-goes outside texts more x c after_start p v told (begin_told place t.inside number included at_once start.values) spelled
        (noted-still (state_of x) p still) refl (start-written (name_at d number) ss how w) moves
        (subst (λ (k : Kept). IsThere outside k texts v) (sym h.kept)
        (there-still outside old.kept texts v instance (start-still (name_at d number) ss how (not included) at_once) within))
        holds-after (start-told place)

-- WHAT IS SPELLED as such a start, with its values
pub record IsStartSpelled (outside : Outside) (x : Held) (texts : List (ℕ × Text)) (more : Bool) (n number spent : ℕ) (net : Bool) (old : Content) (tree : Tree) (table : Table)
    (start : StartValues) (table_after : Table) : Type 0 where
  pub specifications : List Specification
  pub how : How
  pub paid : ℕ
  pub written : IsWritten how
  pub slash : is_slash how ≡ net
  pub paid_is : old.kept.stack.spent + paid ≡ spent
  pub spelled : IsSpelledIn outside x texts more (Ok (spelled_start old.kept.doctype number specifications how n paid))
  pub valued : (proper ends : Bool) → IsValued (state_left (judged_from old tree table) x) (name_at old.kept.doctype number) specifications how proper ends start table_after

-- THE STEP that it is
module _ (n number spent : ℕ) (net : Bool) (old t new : Content) (tree : Tree) (table : Table) (run : Run) (start : StartValues) (table_after : Table) (told : List Event)
    (b : IsBegun n number spent net old t new tree table run start table_after told) where
  abbrev all_told : Place → List Event
  all_told place = told ++ begin_told place t.inside number run.chain.included (is_void_at old.kept.doctype number || start.conref) start.values

  pub start-step : (o : Choices) (st : ScanState) (texts : List (ℕ × Text)) (more : Bool) (place : Place) → 0 < n → n ≤ length (rest_in old.kept texts)
      → ((outside : Outside) (x : Held) → IsOutside o outside old.kept texts → Holds old x → IsHeld old.kept st x
      → IsStartSpelled outside x texts more n number spent net old tree table start table_after)
      → IsStep o st texts more old new (all_told place) (Ok tt)
  start-step o st texts more place some within spelled =
      subst (λ (z : Content). IsStep o st texts more old z (all_told place) (Ok tt)) (sym (start-is n number spent net old t new tree table run start table_after told b)) (record {
        steps = λ outside x options h held.
            let s = spelled outside x options h held in
            start-goes n number spent net old t new tree table run start table_after told b outside more texts x h s.specifications s.how s.paid s.written s.slash s.paid_is s.valued
            place within s.spelled;
        falls = falls-read n spent old.kept texts b.judged.content.instance some within b.grown;
        left = tt;
        content = content-after n number spent net old t new tree table run start table_after told b;
        doctype = refl;
        expand = refl;
      })

  pub start-content : IsContent new
  start-content =
      subst IsContent (sym (start-is n number spent net old t new tree table run start table_after told b))
      (content-after n number spent net old t new tree table run start table_after told b)

  pub start-tells : (takes : List Event → Type 0) (place : Place) (before run_told after : List Event) → place ≡ top_place old.kept.stack.places
      → run_told ≡ before ++ told → after ≡ run_told ++ begin_told place t.inside number run.chain.included (is_void_at old.kept.doctype number || start.conref) start.values
      → takes (all_told place) → TellsBy takes old.kept before after
  start-tells takes place before run_told after p r a step = (
    all_told place,
    a ∙ (ap (λ es. es ++ begin_told place t.inside number run.chain.included (is_void_at old.kept.doctype number || start.conref) start.values) r
        ∙ append_assoc before told (begin_told place t.inside number run.chain.included (is_void_at old.kept.doctype number || start.conref) start.values)),
    All-append (IsAt (top_place old.kept.stack.places)) told
        (begin_told place t.inside number run.chain.included (is_void_at old.kept.doctype number || start.conref) start.values) b.taken.at
        (subst (λ q. All (IsAt q) (begin_told place t.inside number run.chain.included (is_void_at old.kept.doctype number || start.conref) start.values)) p
        (begun-at place t.inside number run.chain.included (is_void_at old.kept.doctype number || start.conref) start.values)),
    step,
  )

-- WHAT WAS TAKEN with its values, by what was kept before
abbrev pub valued_from : ℕ → ℕ → Content → Tree → Table → Content
valued_from n spent old tree table_after = record { kept = read_on n spent old.kept; tree = tree; inside = old.inside; currents = table_after }

module _ (n number spent : ℕ) (net : Bool) (old judged mid new : Content) (run : Run) (start : StartValues) (place : Place) (before after : List Event)
    (m : mid ≡ valued_from n spent old judged.tree mid.currents)
    (s : IsStartTaken judged mid new place number net run.chain.included start before after) where
  pub begun-from : JudgedMayStand → IsJudgedFor old judged.tree judged.currents (visible.Start number) run → judged ≡ judged_from old judged.tree judged.currents
      → IsNumber old.kept.doctype number → old.kept.stack.spent ≤ spent → length mid.currents ≡ length old.kept.doctype.lists
      → IsBegun n number spent net old s.left new judged.tree judged.currents run start mid.currents s.told
  begun-from law j same numbered grown many = record {
    law = law;
    judged = j;
    numbered = numbered;
    kept = s.kept ∙ ap (λ (z : Content). z.kept) m;
    currents = s.currents;
    taken = subst (λ (z : Content). IsRunTaken z s.left (visible.Start number) s.told) same s.run;
    grown = grown;
    as_many = many;
    is = s.is ∙ (λ i. record s.left {
      tree = new.tree;
      inside = inside_begun (m i).kept.doctype number (is_void_at (m i).kept.doctype number || start.conref) (inside_noted run.chain.included s.left.inside);
    });
    settles = subst (λ (z : Content). Settles (is_void_at z.kept.doctype number) start.conref net s.left.tree new.tree) m s.settles;
    tree_of = subst (λ (z : Content). IsTreeOf z.kept.doctype new.tree) m s.tree;
  }

  pub all-from : after ≡ (before ++ s.told) ++ begin_told place s.left.inside number run.chain.included (is_void_at old.kept.doctype number || start.conref) start.values
  all-from = s.all ∙ (λ i. (before ++ s.told) ++ begin_told place s.left.inside number run.chain.included (is_void_at (m i).kept.doctype number || start.conref) start.values)
