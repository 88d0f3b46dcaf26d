-- A piece of which nothing is told, and that begins and ends no element, is a step; and so is an error.
use Rattle.std.proofs.Common.{◌≡◌, ℕ, ◌<◌, Bool, true, false, List, [], ◌∷◌, ◌++◌, Some, Result, Ok, Err, refl, sym, ◌∙◌, ap, subst, inl}
use Rattle.sgml_text.specs.declared.reason.Reason.{Reason}
use Rattle.sgml_entity.specs.Stack.{Stack, is_on}
use Rattle.sgml_marked.specs.declared.sections.Section.{Section}
use Rattle.sgml_scan.specs.declared.state.ScanState.{ScanState}
use Rattle.sgml_dtd.specs.Doctypes.{Doctype}
use Rattle.sgml_content_steps.specs.events.declared.event.Event.{Event}
use Rattle.sgml_content_steps.specs.said.Told.{all_said}
use Rattle.sgml_theory_reading.specs.Names.{Name, Text}
use Rattle.sgml_theory_reading.specs.Pieces.{Piece, Kind}
use Rattle.sgml_theory_reading.specs.Facets.{is_omitted, items_of, map_set}
use Rattle.sgml_theory_reading.specs.Context.{Context}
use Rattle.sgml_theory_reading.specs.Maps.{first_set}
use Rattle.sgml_theory_reading.specs.State.{State, first_noted}
use Rattle.sgml_theory_reading.specs.Characters.{kind_noted, piece_noted}
use Rattle.sgml_theory_reading.specs.Unread.{Outside, file_of}
use Rattle.sgml_declared.specs.theory_spelling.Sized.{sized_spent}
use Rattle.sgml_declared.specs.theory_standing.Kept.{Kept, sources_of}
use Rattle.sgml_declared.specs.theory_standing.Prologs.{alone}
use Rattle.sgml_declared.specs.theory_standing.Next.{IsThere, after, left_to_read}
use Rattle.sgml_declared.specs.theory_standing.Held.{Held, state_of, is_of_content, IsSpelledIn}
use Rattle.sgml_declared.specs.theory_standing.Moves.{stands_alone, told_by_moves}
use Rattle.sgml_declared.specs.theory_standing.ContentLaws.{held_alone}
use Rattle.sgml_inside.specs.declared.inside.Inner.{Inner}
use Rattle.sgml_inside.specs.Inside.{Inside, ends_in, settings_in}
use Rattle.sgml_inside.specs.Laws.{AreInForce}
use Rattle.sgml_declared.specs.Files.{Choices}
use Rattle.sgml_declared.specs.declared.error.TakeError.{TakeError}
use Rattle.sgml_declared.specs.declared.error.TakeError.TheVariants as take_error
use Rattle.sgml_declared.specs.Taking.{IsStopped, IsAround}
use Rattle.sgml_prolog_steps.specs.Steps.{stop_of}
use Rattle.sgml_prolog_steps.specs.declared.stepping.Stop.TheVariants as stop
use Rattle.sgml_content_steps.specs.Standing.{IsInInstance, IsHeld}
use Rattle.sgml_content_steps.specs.Content.{Content, Holds, IsContent, context_of}
use Rattle.sgml_content_steps.specs.Steps.{entities_of, entities_told, entity_of_kind, IsOutside, IsStep, IsWanting, Goes}
use Rattle.sgml_content_steps.proofs.Marking.{alone-goes, leaves-itself}
use Rattle.sgml_content_sections.specs.Changes.{kept_with, changed}

-- IT STANDS ALONE, and is one that is written
pub record IsAlone (x : Kind) : Type 0 where
  pub stands : stands_alone x ≡ true
  pub of_content : is_of_content x ≡ true
  pub written : is_omitted x ≡ false
  pub noted : (s : State) → kind_noted s x ≡ x

-- and nothing is told of it
pub record IsQuiet (x : Kind) : Type 0 where
  pub is_alone : IsAlone x
  pub tells : (y : Held) (n spent : ℕ) → told_by_moves y (alone (sized_spent n spent x) ∷ []) ≡ []
  pub names_none : entity_of_kind x ≡ []

-- what stands in the open elements is then changed so
pub record IsInsideAfter (x : Kind) (old new : List Inner) : Type 0 where
  pub ends : ends_in new ≡ first_noted (items_of x) (ends_in old)
  pub settings : settings_in new ≡ first_set (map_set x) (settings_in old)

-- IT STANDS NEXT, with what it tells, and this is kept after it
pub record IsAloneNext (outside : Outside) (texts : List (ℕ × Text)) (ended : Bool) (old : Content) (x : Held) (s : Stack) (ss : List Section) (xs : List Inner) (told : List Event) : Type 0 where
  pub piece : Piece
  pub is_alone : IsAlone piece.kind
  pub spelled : IsSpelledIn outside x texts ended (Ok piece)
  pub there : IsThere outside old.kept texts piece
  pub kept : after outside piece old.kept ≡ kept_with s ss old.kept
  pub inside : IsInsideAfter piece.kind old.inside.elements xs
  pub said : all_said old.kept.doctype told ≡ told_by_moves x (alone piece ∷ [])
  pub entities : entities_told told ≡ entities_of (piece ∷ [])

-- this is held then
abbrev held-context : Held → Doctype → Context
held-context x d = record { doctype = d; levels = x.levels; begun = x.begun; inferred = false }

quiet-holds : (outside : Outside) (c : Content) (x : Held) (p : Piece) (s : Stack) (ss : List Section) (xs : List Inner) → Holds c x
    → after outside p c.kept ≡ kept_with s ss c.kept → IsInsideAfter p.kind c.inside.elements xs → Holds (changed s ss xs c) (held_alone outside p x)
quiet-holds outside c x p s ss xs h a i =
    let kept : after outside p x.kept ≡ kept_with s ss c.kept = ap (after outside p) h.kept ∙ a in
    record {
      kept = kept;
      context = ap (held-context x) (ap (λ (k : Kept). k.doctype) kept ∙ sym (ap (λ (k : Kept). k.doctype) h.kept)) ∙ h.context;
      record_ends = ap (first_noted (items_of p.kind)) h.record_ends ∙ sym i.ends;
      map_settings = ap (first_set (map_set p.kind)) h.map_settings ∙ sym i.settings;
      ended = h.ended;
      currents = h.currents;
      apart = h.apart;
    }

quiet-content : (c : Content) (s : Stack) (ss : List Section) (xs : List Inner) → IsContent c → IsInInstance (kept_with s ss c.kept)
    → AreInForce c.kept.doctype (context_of c).levels xs → IsContent (changed s ss xs c)
quiet-content c s ss xs is i f = record {
  instance = i;
  tree = is.tree;
  maps = f;
  room = is.room;
  ended = is.ended;
  lists = is.lists;
}

there-held : (outside : Outside) (k l : Kept) (texts : List (ℕ × Text)) (p : Piece) → l ≡ k → IsThere outside k texts p → IsThere outside l texts p
there-held outside k l texts p e h = subst (λ (z : Kept). IsThere outside z texts p) (sym e) h

noted-itself : (s : State) (p : Piece) → IsAlone p.kind → piece_noted s p ≡ p
noted-itself s p q = λ i. record { kind = q.noted s i; size = p.size; spent = p.spent }

alone-next-goes : (outside : Outside) (texts : List (ℕ × Text)) (ended : Bool) (old : Content) (x : Held) (s : Stack) (ss : List Section) (xs : List Inner) (told : List Event) → Holds old x
    → IsAloneNext outside texts ended old x s ss xs told → Goes outside texts ended x (changed s ss xs old) told
alone-next-goes outside texts ended old x s ss xs told h n =
    let p = n.piece in
    alone-goes outside texts ended x (changed s ss xs old) told p n.spelled n.is_alone.stands n.is_alone.of_content n.is_alone.written (noted-itself (state_of x) p n.is_alone)
    (there-held outside old.kept x.kept texts p h.kept n.there)
    (quiet-holds outside old x p s ss xs h n.kept n.inside)
    n.said n.entities

-- A STEP
pub alone-step : (c : Choices) (st : ScanState) (texts : List (ℕ × Text)) (ended : Bool) (old : Content) (s : Stack) (ss : List Section) (xs : List Inner) (told : List Event) → IsContent old
    → ((outside : Outside) (x : Held) → IsOutside c outside old.kept texts → Holds old x → IsHeld old.kept st x → IsAloneNext outside texts ended old x s ss xs told)
    → left_to_read (kept_with s ss old.kept) texts < left_to_read old.kept texts → IsInInstance (kept_with s ss old.kept)
    → AreInForce old.kept.doctype (context_of old).levels xs → s.expand ≡ old.kept.stack.expand
    → IsStep c st texts ended old (changed s ss xs old) told (Ok tt)
alone-step c st texts ended old s ss xs told is next less i f e = record {
  steps = λ outside x o h held. alone-next-goes outside texts ended old x s ss xs told h (next outside x o h held);
  falls = less;
  left = tt;
  content = quiet-content old s ss xs is i f;
  doctype = refl;
  expand = e;
}

-- of a quiet piece
pub quiet-next : (outside : Outside) (texts : List (ℕ × Text)) (ended : Bool) (old : Content) (x : Held) (s : Stack) (ss : List Section) (xs : List Inner) (p : Piece) → IsQuiet p.kind
    → IsSpelledIn outside x texts ended (Ok p) → IsThere outside old.kept texts p → after outside p old.kept ≡ kept_with s ss old.kept → IsInsideAfter p.kind old.inside.elements xs
    → IsAloneNext outside texts ended old x s ss xs []
quiet-next outside texts ended old x s ss xs p q spelled there kept inside = record {
  piece = p;
  is_alone = q.is_alone;
  spelled = spelled;
  there = there;
  kept = kept;
  inside = inside;
  said = sym (q.tells x p.size p.spent);
  entities = sym (ap (λ es. es ++ []) q.names_none);
}

-- WHY NONE IS TAKEN
pub refused-step : (c : Choices) (st : ScanState) (texts : List (ℕ × Text)) (ended : Bool) (old : Content) (r : Reason) → IsContent old
    → ((outside : Outside) (x : Held) → IsOutside c outside old.kept texts → Holds old x → IsHeld old.kept st x → IsSpelledIn outside x texts ended (Err r))
    → IsStep c st texts ended old old [] (Err (stop.Refused r))
refused-step c st texts ended old r is spelled = record {
  steps = λ outside x o h held. inl (spelled outside x o h held);
  falls = tt;
  left = leaves-itself old;
  content = is;
  doctype = refl;
  expand = refl;
}

pub memory-step : (c : Choices) (st : ScanState) (texts : List (ℕ × Text)) (ended : Bool) (old : Content) → IsContent old → IsStep c st texts ended old old [] (Err stop.Memory)
memory-step c st texts ended old is = record {
  steps = λ outside x o h held. tt;
  falls = tt;
  left = leaves-itself old;
  content = is;
  doctype = refl;
  expand = refl;
}

-- the file of an entity is to be given first
wanting : (outside : Outside) (texts : List (ℕ × Text)) (ended : Bool) (k : Kept) (x : Held) (number : ℕ) (file : Name) (spelled : Result Piece Reason)
    → x.kept ≡ k → IsSpelledIn outside x texts ended spelled → IsStopped outside (sources_of k) texts k.stack spelled (take_error.Wanted number file)
    → IsWanting outside texts ended x number file
wanting outside texts ended k x number file spelled e s w = record {
  not_given = w.absent;
  unread = subst (λ (z : Kept). is_on number z.stack.places ≡ false) (sym e) w.unread;
  named = subst (λ (z : Kept). file_of outside (sources_of z) number ≡ Some file) (sym e) w.named;
  refused = λ r gone. inl (subst (λ (a : Result Piece Reason). IsSpelledIn outside x texts ended a) (w.missing r gone) s);
}

pub around : (c : Choices) (outside : Outside) (k : Kept) (texts : List (ℕ × Text)) → IsInInstance k → IsOutside c outside k texts → IsAround c outside (sources_of k) texts k.stack
around c outside k texts h o = record { of_options = o.of_options; supplied = o.supplied; levels = h.levels; expand = o.expand }

pub stopped-step : (c : Choices) (st : ScanState) (texts : List (ℕ × Text)) (ended : Bool) (old : Content) (e : TakeError) (spelled : Outside → Held → Result Piece Reason) → IsContent old
    → ((outside : Outside) (x : Held) → IsHeld old.kept st x → IsSpelledIn outside x texts ended (spelled outside x))
    → ((outside : Outside) (x : Held) → IsOutside c outside old.kept texts → Holds old x → IsStopped outside (sources_of old.kept) texts old.kept.stack (spelled outside x) e)
    → IsStep c st texts ended old old [] (Err (stop_of e))
stopped-step c st texts ended old (take_error.Refused r) spelled is s w =
    refused-step c st texts ended old r is
    (λ outside x o h held. subst (λ (a : Result Piece Reason). IsSpelledIn outside x texts ended a) (w outside x o h) (s outside x held))
stopped-step c st texts ended old (take_error.Wanted number file) spelled is s w = record {
  steps = λ outside x o h held. wanting outside texts ended old.kept x number file (spelled outside x) held.kept (s outside x held) (w outside x o h);
  falls = tt;
  left = leaves-itself old;
  content = is;
  doctype = refl;
  expand = refl;
}
stopped-step c st texts ended old take_error.Memory spelled is s w = memory-step c st texts ended old is

-- WHAT IS LEFT in the content that was shown
pub now-kept : (k : Kept) (shown now : Content) → shown ≡ now → k ≡ shown.kept → record shown { kept = k } ≡ now
now-kept k shown now e same = ap (λ (z : Kept). record shown { kept = z }) same ∙ e

pub now-changed : (k : Kept) (inside : Inside) (xs : List Inner → List Inner) (shown now : Content) → shown ≡ now → inside.elements ≡ xs shown.inside.elements
    → inside.ended ≡ shown.inside.ended → inside.room ≡ shown.inside.room
    → record shown { kept = k; inside = inside } ≡ record now { kept = k; inside = record now.inside { elements = xs now.inside.elements } }
now-changed k inside xs shown now e elements ended room =
    (λ i. record shown { kept = k; inside = record { elements = elements i; ended = ended i; room = room i } })
    ∙ ap (λ (z : Content). record z { kept = k; inside = record z.inside { elements = xs z.inside.elements } }) e
