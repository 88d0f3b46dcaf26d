-- What is kept after a piece that opens and closes nothing holds what is held after it.
use Rattle.std.specs.Prelude.{◌≡◌, ℕ, false, List, [], ◌∷◌, Option, Some, None, reverse, option_map, unwrap_or, if◌then◌else◌}
use Rattle.std.specs.Option.{option_or}
use Rattle.std.specs.List.{list_any}
use Rattle.std.proofs.Common.{refl, sym, ap, ◌∙◌, subst}
use Rattle.sgml_inside.specs.records.Items.{Item}
use Rattle.sgml_delim.specs.declared.delim.Mode.TheVariants as mode
use Rattle.sgml_scan.specs.declared.state.ScanState.{ScanState}
use Rattle.sgml_infer.specs.sgml_dtd.Doctypes.{Doctype}
use Rattle.sgml_infer.specs.sgml_dtd.dtd_maps.declared.uses.MapOf.{MapOf}
use Rattle.sgml_infer.specs.sgml_dtd.dtd_maps.declared.uses.MapOf.TheVariants as map_of
use Rattle.sgml_infer.specs.theory_reading.Pieces.{Piece, Kind}
use Rattle.sgml_infer.specs.theory_reading.Context.{Level, context_after, levels_after, levels_with}
use Rattle.sgml_infer.specs.theory_reading.Currents.{Currents, currents_after, AreCurrents, given}
use Rattle.sgml_infer.specs.theory_reading.Unread.{Outside}
use Rattle.sgml_infer.specs.theory_reading.Maps.{map_in_force, first_set, settings_after}
use Rattle.sgml_infer.specs.theory_reading.ShortTags.{net_in_force}
use Rattle.sgml_infer.specs.theory_reading.State.{State, after_piece, first_noted, ends_after}
use Rattle.sgml_infer.specs.theory_reading.Reads.{Move}
use Rattle.sgml_prolog_steps.specs.theory_spelling.Sized.{sized}
use Rattle.sgml_prolog_steps.specs.theory_spelling.Places.{section_mode, in_doctype, element_mode, mode_at, map_at, is_map, scan_state}
use Rattle.sgml_prolog_steps.specs.theory_standing.Kept.{Kept}
use Rattle.sgml_prolog_steps.specs.theory_standing.Prologs.{alone}
use Rattle.sgml_prolog_steps.specs.theory_standing.Next.{after}
use Rattle.sgml_prolog_steps.specs.theory_standing.Held.{Held, state_of, state_after_run}
use Rattle.sgml_prolog_steps.specs.theory_standing.Moves.{held_after}
use Rattle.sgml_infer.specs.Tables.{name_at}
use Rattle.sgml_inside.specs.declared.inside.Inner.{Inner}
use Rattle.sgml_inside.specs.Inside.{ends_in, settings_in}
use Rattle.sgml_inside.specs.Laws.{AreInForce}
use Rattle.sgml_inside.proofs.Forced.{noted-is-after, stays}
use Rattle.sgml_prolog_steps.specs.declaring.Taking.{stacked_on}
use Rattle.sgml_content_steps.specs.theory_starts.Apart.{HasListsApart}
use Rattle.sgml_prolog_steps.specs.Found.{moved_on}
use Rattle.sgml_prolog_steps.proofs.Told.{stacked-moved}
use Rattle.sgml_content_steps.specs.Standing.{IsInInstance, IsHeld}
use Rattle.sgml_content_steps.proofs.Told.{instance-moved}
use Rattle.sgml_content_steps.specs.Content.{Content, Holds, IsContent, context_of}
use Rattle.sgml_content_data.specs.Taking.{noted_if, with_item}
use Rattle.sgml_content_data.proofs.Quiet.{items_with, IsQuiet, quiet-after}

-- THE MOVE of such a piece behind omitted ones
abbrev pub behind : List Piece → ℕ → Kind → Move
behind os n y = record { omitted = os; visible = sized n y }

-- what is known of a state beside what is open
pub record StandsBeside (s : State) (c : Content) : Type 0 where
  pub record_ends : s.record_ends ≡ ends_in c.inside.elements
  pub map_settings : s.map_settings ≡ settings_in c.inside.elements
  pub ended : s.ended ≡ option_map (name_at c.kept.doctype) c.inside.ended
  pub currents : AreCurrents c.kept.doctype c.currents s.currents
  pub apart : HasListsApart c.kept.doctype

pub beside : (c : Content) (x : Held) → Holds c x → StandsBeside (state_of x) c
beside c x h = record { record_ends = h.record_ends; map_settings = h.map_settings; ended = h.ended; currents = h.currents; apart = h.apart }

ends-noted : (it : Option Item) (xs : List Inner) → first_noted (items_with it) (ends_in xs) ≡ ends_in (noted_if it xs)
ends-noted None [] = refl
ends-noted None (x ∷ xs) = refl
ends-noted (Some i) xs = sym (noted-is-after i xs).0

pub settings-noted : (it : Option Item) (xs : List Inner) → settings_in (noted_if it xs) ≡ settings_in xs
settings-noted None xs = refl
settings-noted (Some i) xs = (noted-is-after i xs).1

first-parent : (ss : List MapOf) → first_set map_of.Parent ss ≡ ss
first-parent [] = refl
first-parent (s ∷ ss) = refl

currents-stay : (d : Doctype) (y : Kind) (it : Option Item) (old : Currents) → IsQuiet y it → currents_after d y old ≡ old
currents-stay d y it old q = λ i n a. option_or (given d (q.specifies_none i) n a) (old n a)

-- AFTER IT, where what is open after it is that of the content
pub quiet-holds : (outside : Outside) (x : Held) (os : List Piece) (y : Kind) (n : ℕ) (it : Option Item) (c : Content) → IsQuiet y it → IsInInstance c.kept
    → x.kept ≡ c.kept → context_after (sized n y) (state_after_run os (state_of x)).context ≡ context_of c → StandsBeside (state_after_run os (state_of x)) c
    → Holds (with_item n it c) (held_after outside (behind os n y) x)
unfolding after_piece
quiet-holds outside x os y n it c q i e ctx at =
    let s = state_after_run os (state_of x) in
    let kept : after outside (sized n y) x.kept ≡ moved_on n c.kept =
    quiet-after outside x.kept y it n q (subst (λ (k : Kept). IsInInstance k) (sym e) i) ∙ ap (moved_on n) e in
    record {
      kept = kept;
      context = λ j. record { doctype = (kept j).doctype; levels = (ctx j).levels; begun = (ctx j).begun; inferred = false };
      record_ends = ap (λ f. ends_after f y s.record_ends) q.stays
          ∙ (ap (λ items. first_noted items s.record_ends) q.items
          ∙ (ap (first_noted (items_with it)) at.record_ends ∙ ends-noted it c.inside.elements));
      map_settings = ap (λ f. settings_after f y s.map_settings) q.stays
          ∙ (ap (λ m. first_set m s.map_settings) q.sets_none
          ∙ (first-parent s.map_settings ∙ (at.map_settings ∙ sym (settings-noted it c.inside.elements))));
      ended = ap (λ o. option_or o s.ended) q.ends_none ∙ at.ended;
      currents = subst (λ (z : Currents). AreCurrents c.kept.doctype c.currents z) (sym (currents-stay s.context.doctype y it s.currents q)) at.currents;
      apart = at.apart;
    }

maps-noted : (d : Doctype) (ls : List Level) (it : Option Item) (xs : List Inner) → AreInForce d ls xs → AreInForce d ls (noted_if it xs)
maps-noted d ls None xs f = f
maps-noted d ls (Some i) xs f = (stays d ls xs f).noted i

pub quiet-content : (n : ℕ) (it : Option Item) (c : Content) → IsContent c → IsContent (with_item n it c)
quiet-content n it c is = record {
  instance = instance-moved n c.kept is.instance;
  tree = is.tree;
  maps = maps-noted c.kept.doctype (context_of c).levels it c.inside.elements is.maps;
  room = is.room;
  ended = is.ended;
  lists = is.lists;
}

-- HOW CONTENT IS SCANNED after it, where no tag was left out before it

abbrev pub scan_of : Kept → List Level → List MapOf → List ℕ → ScanState
scan_of k ls ss es = record {
  mode = unwrap_or (section_mode (reverse k.sections)) (if in_doctype k.stage es then mode.Ds else element_mode k.doctype ls);
  net = list_any (λ (l : Level). l.slash) ls;
  maps = is_map (map_in_force k.doctype ls ss);
}

pub scan-is : (x : Held) (es : List ℕ) → scan_state (state_of x) es ≡ scan_of x.kept x.levels x.map_settings es
unfolding mode_at map_at net_in_force
scan-is x es = refl

pub scan-levels : (k : Kept) (y : Kind) (ls : List Level) (ss : List MapOf) (es : List ℕ) → scan_of k (levels_with y ls) ss es ≡ scan_of k ls ss es
scan-levels k y [] ss es = refl
scan-levels k y (l ∷ ls) [] es = refl
scan-levels k y (l ∷ ls) (s ∷ ss) es = refl

levels-quiet : (outside : Outside) (x : Held) (y : Kind) (n : ℕ) (it : Option Item) → IsQuiet y it
    → (held_after outside (alone (sized n y)) x).levels ≡ levels_with y x.levels
unfolding after_piece context_after
levels-quiet outside x y n it q = ap (λ f. levels_after x.kept.doctype f y x.levels) q.stays

settings-quiet : (outside : Outside) (x : Held) (y : Kind) (n : ℕ) (it : Option Item) → IsQuiet y it
    → (held_after outside (alone (sized n y)) x).map_settings ≡ x.map_settings
unfolding after_piece
settings-quiet outside x y n it q =
    ap (λ f. settings_after f y x.map_settings) q.stays ∙ (ap (λ m. first_set m x.map_settings) q.sets_none ∙ first-parent x.map_settings)

pub quiet-held : (outside : Outside) (st : ScanState) (x : Held) (y : Kind) (n : ℕ) (it : Option Item) (k : Kept) → IsQuiet y it → IsInInstance k → IsHeld k st x
    → IsHeld (moved_on n k) st (held_after outside (alone (sized n y)) x)
quiet-held outside st x y n it k q i h =
    let new = held_after outside (alone (sized n y)) x in
    let kept : new.kept ≡ moved_on n k =
    quiet-after outside x.kept y it n q (subst (λ (z : Kept). IsInInstance z) (sym h.kept) i) ∙ ap (moved_on n) h.kept in
    record {
      kept = kept;
      scanned = scan-is new (stacked_on (moved_on n k).stack).entities
          ∙ ((λ j. scan_of (kept j) (levels-quiet outside x y n it q j) (settings-quiet outside x y n it q j) (stacked-moved n k j).entities)
          ∙ (scan-levels (moved_on n k) y x.levels x.map_settings (stacked_on k.stack).entities
          ∙ (ap (λ (z : Kept). scan_of z x.levels x.map_settings (stacked_on k.stack).entities) (sym h.kept)
          ∙ (sym (scan-is x (stacked_on k.stack).entities) ∙ h.scanned))));
    }
