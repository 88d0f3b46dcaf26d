-- Text where a short reference map is in force: its bytes are moves one after another, behind the first of which no tag is
-- left out.
use Rattle.std.specs.Prelude.{◌≡◌, ℕ, ◌<◌, ◌≤◌, ◌||◌, Bool, true, false, IsTrue, List, [], ◌∷◌, ◌++◌, None, Some, is_some, length, map, take, drop, reverse, Ok}
use Rattle.std.specs.Option.{option_or}
use Rattle.std.proofs.Common.{refl, sym, ap, ◌∙◌, subst, append_assoc, append-nil, arith}
use Rattle.sgml_text.specs.Units.{characters}
use Rattle.sgml_shortref.specs.Matches as strings
use Rattle.sgml_theory_reading.specs.records.Items.{Data as DataItem}
use Rattle.sgml_theory_reading.specs.records.Facts.{Facts, noted}
use Rattle.sgml_scan.specs.Sure.{is_text}
use Rattle.sgml_dtd.specs.Doctypes.{Doctype}
use Rattle.sgml_dtd_maps.specs.declared.uses.MapOf.{MapOf}
use Rattle.sgml_events.specs.declared.event.Event.{Event}
use Rattle.sgml_events.specs.declared.event.Event.TheVariants as event
use Rattle.sgml_content_steps.specs.said.Told.{all_said}
use Rattle.sgml_theory_reading.specs.Names.{Text}
use Rattle.sgml_theory_reading.specs.Pieces.{Piece, Kind, Char, Ordinary}
use Rattle.sgml_theory_reading.specs.Facets.{Pcdata, is_start, shows_instruction, byte_items, effect, items_of}
use Rattle.sgml_theory_reading.specs.Context.{Level, Context, context_after, levels_after, levels_with}
use Rattle.sgml_theory_reading.specs.Omission.{allowed}
use Rattle.sgml_theory_reading.specs.Runs.{LongestRunFrom}
use Rattle.sgml_theory_reading.specs.Reasons.{reason, is_inside, DataGoesOn}
use Rattle.sgml_theory_reading.specs.State.{State, after_piece, first_noted}
use Rattle.sgml_theory_reading.specs.Characters.{level_has_text, in_text_section, facts_in, kind_noted}
use Rattle.sgml_theory_reading.specs.Reads.{pieces}
use Rattle.sgml_theory_reading.specs.Events.{Byte, shown_byte, told_by, events_at, events_of_run}
use Rattle.sgml_theory_reading.specs.Unread.{Outside}
use Rattle.sgml_theory_reading.proofs.Again.{data-leaves, data-goes-on}
use Rattle.sgml_declared.specs.theory_spelling.Sized.{sized}
use Rattle.sgml_declared.specs.theory_spelling.Spelled.{forms}
use Rattle.sgml_declared.specs.theory_spelling.Content.{entity_of_string}
use Rattle.sgml_declared.specs.theory_standing.Kept.{Kept}
use Rattle.sgml_declared.specs.theory_standing.Prologs.{alone}
use Rattle.sgml_declared.specs.theory_standing.Held.{Held, state_of, state_after_run, IsSpelledIn}
use Rattle.sgml_declared.specs.theory_standing.Moves.{IsMove, IsNextMove, held_after, told_by_moves}
use Rattle.sgml_declared.specs.Taking.{stacked_on}
use Rattle.sgml_infer.specs.declared.visible.Visible.TheVariants as visible
use Rattle.sgml_inside.specs.declared.inside.Inner.{Inner}
use Rattle.sgml_inside.specs.Inside.{facts_of, ends_in, settings_in, map_in}
use Rattle.sgml_inside.proofs.Forced.{found}
use Rattle.sgml_theory_reading.specs.Maps.{map_in_force}
use Rattle.sgml_prolog_steps.specs.Found.{rest_in, moved_on}
use Rattle.sgml_prolog_steps.proofs.Told.{rest-moved}
use Rattle.sgml_content_steps.specs.Standing.{IsHeld}
use Rattle.sgml_content_steps.specs.Content.{Content, Holds, IsContent, context_of}
use Rattle.sgml_content_steps.specs.Steps.{Goes, IsStep}
use Rattle.sgml_content_steps.specs.declared.run.Run.{Run}
use Rattle.sgml_content_steps.specs.Runs.{IsRun, run_of, room_of}
use Rattle.sgml_content_data.specs.Roles.{around_of, in_text}
use Rattle.sgml_content_data.specs.Taking.{with_item, noted_if, data_told}
use Rattle.sgml_content_data.proofs.Quiet.{character-quiet}
use Rattle.sgml_content_data.proofs.Holding.{behind, beside, quiet-holds, quiet-content, quiet-held, scan-is}
use Rattle.sgml_content_data.proofs.Flowing.{next-one, moves_of, with_bytes, Flows, data-once, with-bytes}
use Rattle.sgml_content_data.proofs.Told.{put_out_at, bytes_said, character-told, said-append, said-data, entities-append, data-entities, no-entities, first-starts}
use Rattle.sgml_content_data.proofs.Alone.{ok-step}
use Rattle.sgml_content_data.proofs.Judged.{IsText, character-text, IsJudgedFrom}
use Rattle.sgml_content_data.proofs.Behind.{IsTakenFrom, open-after, mid-content, behind-moves, behind-holds}
use Rattle.sgml_content_data.proofs.GoingOn.{data-allowed, some-open, data-moves}
use Rattle.sgml_content_data.proofs.Data.{taken-from, facts-left, told-at, at-data, character-noted}
use Rattle.sgml_content_data.proofs.Stretches.{none-left, left-same, split-front}
use Rattle.sgml_content_references.specs.Ordinary.{with_string}
use Rattle.sgml_content_references.specs.Mapped.{mapped_state, IsTextThere, AreTextThere, IsTextEnd, TellsMapped}
use Rattle.sgml_content_references.specs.Entities.{IsEntityTaken}
use Rattle.sgml_content_references.proofs.Alike.{plain, held_with, held-like, holds-like, plain-next}
use Rattle.sgml_content_references.proofs.Content.{content-text, string-shown}
use Rattle.sgml_content_references.proofs.DataStanding.{noted-as, means-content}
use Rattle.sgml_content_references.proofs.Places.{IsRow, NoneBehind, take-drop, row-from, kind_by, kind_at, spelled-at, data-item, content-at}

-- EACH IS TEXT, whichever it is
text-by : (t : Bool) (b : ℕ) → IsText (kind_by t b)
text-by true b = content-text (b ∷ [])
text-by false b = character-text b

pub text-at : (b : ℕ) → IsText (kind_at b)
text-at b = text-by (strings.begins_string b) b

unplaced-by : (t : Bool) (b : ℕ) → (is_start (kind_by t b) || shows_instruction (kind_by t b)) ≡ false
unfolding is_start shows_instruction
unplaced-by true b = refl
unplaced-by false b = refl

noted-by : (t : Bool) (c : Content) (x : Held) (b : ℕ) → Holds c x → around_of c ≡ in_text → is_text false b ≡ true → kind_noted (state_of x) (kind_by t b) ≡ kind_by t b
noted-by true c x b h a e = noted-as c x (b ∷ []) (Ordinary true true) true true h refl (means-content c (b ∷ []) (content-at c b a e))
noted-by false c x b h a e = character-noted (state_of x) b

-- IT MOVES where data goes on
moves-by : (t : Bool) (s : State) (b : ℕ) → DataGoesOn s.context (kind_by t b) → IsMove s (sized 1 (kind_by t b)) (alone (sized 1 (kind_by t b)))
moves-by true s b g = record {
  longest = g.none_omitted;
  visible = refl;
  no_reason = λ i. option_or None (option_or (g.no_reason i) (option_or None ((content-text (b ∷ [])).none_unvalued s i)));
}
moves-by false s b g = data-moves s b g

next-by : (t : Bool) (outside : Outside) (texts : List (ℕ × Text)) (ended : Bool) (c : Content) (x : Held) (os : List Piece) (b : ℕ) → IsContent c → Holds c x → around_of c ≡ in_text
    → is_text false b ≡ true → 1 ≤ length (rest_in c.kept texts) → IsSpelledIn outside x texts ended (Ok (sized 1 (kind_by t b))) → kind_noted (state_of x) (kind_by t b) ≡ kind_by t b
    → IsMove (state_of x) (sized 1 (kind_by t b)) (behind os 1 (kind_by t b)) → IsNextMove outside x texts ended (behind os 1 (kind_by t b))
next-by true outside texts ended c x os b is h a e l s n m = plain-next outside texts ended c x os (b ∷ []) true 1 is h l s n m
next-by false outside texts ended c x os b is h a e l s n m = next-one outside texts ended c x os (Char b) 1 (Some DataItem) is h (character-quiet b) l s n m

-- WHAT IS KEPT holds what is held behind it
same-item : (b : ℕ) (c : Content) → is_text false b ≡ true → with_string 1 (b ∷ []) c ≡ with_item 1 (Some DataItem) c
same-item b c e = ap (λ i. with_item 1 (Some i) c) (data-item b e)

holds-by : (t : Bool) (outside : Outside) (b : ℕ) (os : List Piece) (x : Held) (c : Content) → is_text false b ≡ true
    → ((d : ℕ) → Holds (with_item 1 (Some DataItem) c) (held_after outside (behind os 1 (Char d)) x)) → (state_after_run os (state_of x)).record_ends ≡ ends_in c.inside.elements
    → Holds (with_item 1 (Some DataItem) c) (held_after outside (behind os 1 (kind_by t b)) x)
holds-by false outside b os x c e h r = h b
holds-by true outside b os x c e h r =
    subst (λ (z : Content). Holds z (held_after outside (behind os 1 (plain (b ∷ []) true)) x)) (same-item b c e) (holds-like outside (b ∷ []) true 1 os x c (h 0) r)

-- and content is scanned there as it was
held-by : (t : Bool) (outside : Outside) (b : ℕ) (x : Held) (c : Content) → IsContent c → IsHeld c.kept mapped_state x
    → IsHeld (moved_on 1 c.kept) mapped_state (held_after outside (behind [] 1 (kind_by t b)) x)
held-by false outside b x c is h = quiet-held outside mapped_state x (Char b) 1 (Some DataItem) c.kept (character-quiet b) is.instance h
held-by true outside b x c is h =
    let k = moved_on 1 c.kept in
    let y = held_after outside (behind [] 1 (Char 0)) x in
    let fs = first_noted (byte_items (b ∷ [])) (state_after_run [] (state_of x)).record_ends in
    let es = (stacked_on k.stack).entities in
    let was = quiet-held outside mapped_state x (Char 0) 1 (Some DataItem) c.kept (character-quiet 0) is.instance h in
    subst (λ (z : Held). IsHeld k mapped_state z) (sym (held-like outside (b ∷ []) true 1 [] x))
    (record { kept = was.kept; scanned = scan-is (held_with fs y) es ∙ (sym (scan-is y es) ∙ was.scanned) })

-- DATA GOES ON, and leaves what is open
abbrev pub DataOn : Context → Type 0
DataOn s = (y : Kind) → IsText y → DataGoesOn s y × (context_after (sized 1 y) s ≡ s)

pub data-on : (s : Context) → IsTrue (allowed s Pcdata) → IsTrue (is_inside s) → DataOn (context_after (sized 1 (Char 0)) s)
data-on s may inside y t =
    let p = sized 1 (Char 0) in
    let is-p = (character-text 0).token_is in
    (data-goes-on s p (sized 1 y) is-p t.token_is may inside, data-leaves s p (sized 1 y) is-p t.token_is)

-- THE ROW behind the first byte
same-map : (xs : List Inner) → map_in (noted_if (Some DataItem) xs) ≡ map_in xs
same-map [] = refl
same-map (x ∷ xs) = refl

-- by the tables and the map in force alone
there-moved : (c d : Content) (xs : Text) → d.kept.doctype ≡ c.kept.doctype → map_in d.inside.elements ≡ map_in c.inside.elements → IsTextThere c xs → IsTextThere d xs
there-moved c d xs e f h = record {
  is_text = h.is_text;
  own = λ g. (let o = h.own g in (o.0, o.1, (λ i. is_some (entity_of_string (e i) (f i) o.0)) ∙ o.2));
}

row-moved : (c d : Content) (bs after : Text) → d.kept.doctype ≡ c.kept.doctype → map_in d.inside.elements ≡ map_in c.inside.elements → IsRow c bs after → IsRow d bs after
row-moved c d [] after e f row = tt
row-moved c d (b ∷ bs) after e f row = (there-moved c d (b ∷ (bs ++ after)) e f row.0, row-moved c d bs after e f row.1)

drop-one : (b : ℕ) (xs ys : Text) → xs ≡ b ∷ ys → drop 1 xs ≡ ys
drop-one b xs [] e = ap (drop 1) e
drop-one b xs (y ∷ ys) e = ap (drop 1) e

rest-after : (c : Content) (texts : List (ℕ × Text)) (b : ℕ) (xs : Text) → IsContent c → rest_in c.kept texts ≡ b ∷ xs → rest_in (moved_on 1 c.kept) texts ≡ xs
rest-after c texts b xs is r = rest-moved 1 c.kept texts is.instance.document ∙ drop-one b (rest_in c.kept texts) xs r

long : (b : ℕ) (xs ys : Text) → xs ≡ b ∷ ys → 1 ≤ length xs
long b xs ys e = subst (λ (zs : Text). 1 ≤ length zs) (sym e) (omega arith)

pub row-flows : (outside : Outside) (texts : List (ℕ × Text)) (ended : Bool) (bs after : Text) (c : Content) (x : Held) → IsContent c → Holds c x → IsHeld c.kept mapped_state x
    → around_of c ≡ in_text → rest_in c.kept texts ≡ bs ++ after → IsRow c bs after → NoneBehind c after → DataOn (context_of c)
    → Flows outside texts ended x (map kind_at bs) (with_bytes bs (Some DataItem) c)
row-flows outside texts ended [] after c x is h held a r row none on = record { now = x; next = refl; holds = h }
row-flows outside texts ended (b ∷ bs) after c x is h held a r row none on =
    let t = strings.begins_string b in
    let y = kind_at b in
    let e = row.0.is_text in
    let go = on y (text-at b) in
    let moves = moves-by t (state_of x) b (subst (λ (s : Context). DataGoesOn s y) (sym h.context) go.0) in
    let one = next-by t outside texts ended c x [] b is h a e (long b (rest_in c.kept texts) (bs ++ after) r)
    (spelled-at outside texts ended c x b bs after is h held a r row none) (noted-by t c x b h a e) moves in
    let z = held_after outside (behind [] 1 y) x in
    let holds = holds-by t outside b [] x c e
    (λ d. quiet-holds outside x [] (Char d) 1 (Some DataItem) c (character-quiet d) is.instance h.kept (ap (context_after (sized 1 (Char d))) h.context ∙ (on (Char d) (character-text d)).1) (beside c x h))
    h.record_ends in
    let rest = row-flows outside texts ended bs after (with_item 1 (Some DataItem) c) z (quiet-content 1 (Some DataItem) c is) holds (held-by t outside b x c is held) a
    (rest-after c texts b (bs ++ after) is r) (row-moved c (with_item 1 (Some DataItem) c) bs after refl (same-map c.inside.elements) row.1) none on in
    record { now = rest.now; next = (one, rest.next); holds = rest.holds }

-- WHAT IT TELLS
told-by : (t : Bool) (s : State) (b : ℕ) → is_text false b ≡ true → events_at forms s (sized 1 (kind_by t b)) ≡ put_out_at (facts_in s.record_ends).waiting ++ (Byte b ∷ [])
told-by false s b e = character-told s 1 b
told-by true s b e =
    string-shown s 1 (b ∷ [])
    ∙ (ap (λ i. told_by (facts_in s.record_ends) (shown_byte b i ∷ [])) (data-item b e) ∙ append-nil (put_out_at (facts_in s.record_ends).waiting ++ (Byte b ∷ [])))

abbrev WaitsNone : State → Type 0
WaitsNone s = (facts_in s.record_ends).waiting ≡ false

none-after : (fs : List Facts) → (facts_in (first_noted (DataItem ∷ []) fs)).waiting ≡ false
unfolding noted
none-after [] = refl
none-after (f ∷ fs) = refl

none-waits : (t : Bool) (s : State) (b : ℕ) → is_text false b ≡ true → WaitsNone (after_piece (sized 1 (kind_by t b)) s)
unfolding after_piece effect items_of
none-waits false s b e = none-after s.record_ends
none-waits true s b e = ap (λ i. (facts_in (first_noted (i ∷ []) s.record_ends)).waiting) (data-item b e) ∙ none-after s.record_ends

abbrev pub AllText : Text → Type 0
AllText [] = Unit {0}
AllText (b ∷ bs) = (is_text false b ≡ true) × AllText bs

pub all-text : (c : Content) (bs after : Text) → IsRow c bs after → AllText bs
all-text c [] after row = tt
all-text c (b ∷ bs) after row = (row.0.is_text, all-text c bs after row.1)

bytes-told : (bs : Text) (s : State) → WaitsNone s → AllText bs → events_of_run forms s (pieces (moves_of (map kind_at bs))) ≡ bytes_said bs
bytes-told [] s w all = refl
bytes-told (b ∷ bs) s w all =
    let t = strings.begins_string b in
    (λ i. (told-by t s b all.0 ∙ ap (λ u. put_out_at u ++ (Byte b ∷ [])) w) i
    ++ bytes-told bs (after_piece (sized 1 (kind_at b)) s) (none-waits t s b all.0) all.1 i)

row-told : (b : ℕ) (bs : Text) (s : State) → AllText (b ∷ bs)
    → events_of_run forms s (pieces (moves_of (map kind_at (b ∷ bs)))) ≡ put_out_at (facts_in s.record_ends).waiting ++ bytes_said (b ∷ bs)
row-told b bs s all =
    let t = strings.begins_string b in
    (λ i. told-by t s b all.0 i ++ bytes-told bs (after_piece (sized 1 (kind_at b)) s) (none-waits t s b all.0) all.1 i)
    ∙ append_assoc (put_out_at (facts_in s.record_ends).waiting) (Byte b ∷ []) (bytes_said bs)

run-silent : (j mid : Content) (told : List Event) (x : Held) (d : Doctype) → IsTakenFrom j mid told → Holds j x → d ≡ j.kept.doctype → run_of j ≡ [] → all_said d told ≡ []
run-silent j mid told x d t h e none =
    ap (λ z. all_said z told) e ∙ ((t.taken.holds x h).said ∙ ap (events_of_run forms (state_of x)) none)

row-said : (j mid : Content) (told : List Event) (x : Held) (released : Bool) (b : ℕ) (bs : Text) (d : Doctype) → IsTakenFrom j mid told → Holds j x → d ≡ j.kept.doctype
    → run_of j ≡ [] → released ≡ (facts_of mid.inside.elements).waiting → AllText (b ∷ bs)
    → all_said d (told ++ data_told released (characters (b ∷ bs))) ≡ told_by_moves x (moves_of (map kind_at (b ∷ bs)))
row-said j mid told x released b bs d t h e none r all =
    said-append d told (data_told released (characters (b ∷ bs)))
    ∙ ((λ i. run-silent j mid told x d t h e none i ++ said-data d released (b ∷ bs) i)
    ∙ (ap (λ w. put_out_at w ++ bytes_said (b ∷ bs))
    (r ∙ (ap (λ (f : Facts). f.waiting) (sym (facts-left j mid told x t h)) ∙ ap (λ os. (facts_in (state_after_run os (state_of x)).record_ends).waiting) none))
    ∙ sym (row-told b bs (state_of x) all)))

-- BEHIND THE RUN, which is none
here-allowed : (j : Content) (run : Run) → IsRun j visible.Chars run → run_of j ≡ [] → IsTrue (allowed (context_of j) Pcdata)
here-allowed j run r e =
    let is = (character-text 0).token_is in
    data-allowed (context_of j) 0 (subst (λ os. LongestRunFrom (context_of j) (Char 0) os) e (r.judged.longest (Char 0) is))
    (ap (λ s. reason s (Char 0)) (sym (left-same j e)) ∙ r.judged.no_reason (Char 0) is)

mid-open : (j mid : Content) (told : List Event) → IsTakenFrom j mid told → run_of j ≡ [] → context_of mid ≡ context_after (sized 1 (Char 0)) (context_of j)
mid-open j mid told t e = open-after j mid told (Char 0) 1 t (character-text 0) ∙ ap (context_after (sized 1 (Char 0))) (left-same j e)

text-with : (d : Doctype) (y : Kind) (ls : List Level) → level_has_text d (levels_with y ls) ≡ level_has_text d ls
text-with d y [] = refl
text-with d y (l ∷ ls) = refl

text-after : (d : Doctype) (s : Context) → level_has_text d (context_after (sized 1 (Char 0)) s).levels ≡ level_has_text d s.levels
unfolding context_after
text-after d s = ap (λ f. level_has_text d (levels_after s.doctype f (Char 0) s.levels)) (character-quiet 0).stays ∙ text-with d (Char 0) s.levels

around-mid : (old j mid : Content) (told : List Event) → IsJudgedFrom old j → IsTakenFrom j mid told → run_of j ≡ [] → around_of mid ≡ around_of old
around-mid old j mid told from t e =
    let kept = t.texts ∙ from.kept in
    let text : level_has_text old.kept.doctype (context_of mid).levels ≡ level_has_text old.kept.doctype (context_of old).levels =
    ap (λ (s : Context). level_has_text old.kept.doctype s.levels) (mid-open j mid told t e)
    ∙ (text-after old.kept.doctype (context_of j) ∙ ap (λ (s : Context). level_has_text old.kept.doctype s.levels) from.context) in
    λ i. record {
      text = (ap (λ (k : Kept). level_has_text k.doctype (context_of mid).levels) kept ∙ text) i;
      section = in_text_section (reverse (kept i).sections);
    }

mid-on : (j mid : Content) (told : List Event) (run : Run) → IsRun j visible.Chars run → IsTakenFrom j mid told → run_of j ≡ [] → DataOn (context_of mid)
mid-on j mid told run r t none =
    let may = here-allowed j run r none in
    subst DataOn (sym (mid-open j mid told t none)) (data-on (context_of j) may (some-open j.kept.doctype (context_of j).levels (context_of j).begun false may))

-- in which the map in force is the same
levels-mid : (s : Context) → (context_after (sized 1 (Char 0)) s).levels ≡ levels_with (Char 0) s.levels
unfolding context_after
levels-mid s = ap (λ f. levels_after s.doctype f (Char 0) s.levels) (character-quiet 0).stays

same-force : (d : Doctype) (y : Kind) (ls : List Level) (ss : List MapOf) → map_in_force d (levels_with y ls) ss ≡ map_in_force d ls ss
same-force d y [] ss = refl
same-force d y (l ∷ ls) [] = refl
same-force d y (l ∷ ls) (s ∷ ss) = refl

map-mid : (old j mid : Content) (told : List Event) (x : Held) → IsContent old → IsContent mid → IsJudgedFrom old j → IsTakenFrom j mid told → run_of j ≡ [] → Holds old x
    → map_in mid.inside.elements ≡ map_in old.inside.elements
map-mid old j mid told x is-old is-mid from t none was =
    let left = t.taken.holds x (from.holds x was) in
    let settings : settings_in mid.inside.elements ≡ settings_in old.inside.elements =
    sym (subst (λ os. (state_after_run os (state_of x)).map_settings ≡ settings_in mid.inside.elements) none left.map_settings) ∙ was.map_settings in
    let levels : (context_of mid).levels ≡ levels_with (Char 0) (context_of old).levels =
    ap (λ (s : Context). s.levels) (mid-open j mid told t none) ∙ (levels-mid (context_of j) ∙ ap (λ (s : Context). levels_with (Char 0) s.levels) from.context) in
    found mid.kept.doctype (context_of mid).levels mid.inside.elements is-mid.maps
    ∙ ((λ i. map_in_force ((t.texts ∙ from.kept) i).doctype (levels i) (settings i))
    ∙ (same-force old.kept.doctype (Char 0) (context_of old).levels (settings_in old.inside.elements)
    ∙ sym (found old.kept.doctype (context_of old).levels old.inside.elements is-old.maps)))

around-judged : (old j : Content) → IsJudgedFrom old j → around_of j ≡ around_of old
around-judged old j from = λ i. record {
  text = level_has_text (from.kept i).doctype (from.context i).levels;
  section = in_text_section (reverse (from.kept i).sections);
}

-- IT GOES ON to the end of the row
pub row-goes : (outside : Outside) (texts : List (ℕ × Text)) (ended : Bool) (old j mid : Content) (told : List Event) (released : Bool) (run : Run) (x : Held) (b : ℕ) (bs after : Text)
    → IsContent old → IsJudgedFrom old j → IsRun j visible.Chars run → IsTakenFrom j mid told → run_of j ≡ [] → Holds old x → IsHeld old.kept mapped_state x
    → around_of old ≡ in_text → rest_in old.kept texts ≡ b ∷ (bs ++ after) → IsRow old (b ∷ bs) after → NoneBehind old after
    → released ≡ (facts_of mid.inside.elements).waiting
    → Goes outside texts ended x (with_item (length (b ∷ bs)) (Some DataItem) mid) (told ++ data_told released (characters (b ∷ bs)))
row-goes outside texts ended old j mid told released run x b bs after is-old from r t none was held a rest row end w =
    let h = from.holds x was in
    let u = strings.begins_string b in
    let y = kind_at b in
    let e = row.0.is_text in
    let kept = t.texts ∙ from.kept in
    let moves = subst (λ os. IsMove (state_of x) (sized 1 y) (behind os 1 y)) none (behind-moves j run x y 1 from.content r h (text-at b)) in
    let around-j : around_of j ≡ in_text = around-judged old j from ∙ a in
    let one = next-by u outside texts ended j x [] b from.content h around-j e (long b (rest_in j.kept texts) (bs ++ after) (ap (λ (k : Kept). rest_in k texts) from.kept ∙ rest))
    (spelled-at outside texts ended old x b bs after is-old was held a rest row end) (noted-by u old x b was a e) moves in
    let z = held_after outside (behind [] 1 y) x in
    let c = with_item 1 (Some DataItem) mid in
    let is = mid-content j mid told (Char 0) (Some DataItem) 1 from.content t (character-text 0) (character-quiet 0) in
    let holds : Holds c z = holds-by u outside b [] x mid e
    (λ d. subst (λ os. Holds c (held_after outside (behind os 1 (Char d)) x)) none (behind-holds outside j mid told run x (Char d) (Some DataItem) 1 from.content r t h (character-text d) (character-quiet d)))
    (subst (λ os. (state_after_run os (state_of x)).record_ends ≡ ends_in mid.inside.elements) none (t.taken.holds x h).record_ends) in
    let held-mid = subst (λ (k : Kept). IsHeld k mapped_state x) (sym kept) held in
    let rest-mid : rest_in mid.kept texts ≡ b ∷ (bs ++ after) = ap (λ (k : Kept). rest_in k texts) kept ∙ rest in
    let row-then : IsRow c bs after = row-moved old c bs after (ap (λ (k : Kept). k.doctype) kept) (same-map mid.inside.elements ∙ map-mid old j mid told x is-old is from t none was) row.1 in
    let flow = row-flows outside texts ended bs after c z (quiet-content 1 (Some DataItem) mid is) holds (held-by u outside b x mid is held-mid)
    (around-mid old j mid told from t none ∙ a) (rest-after mid texts b (bs ++ after) is rest-mid) row-then
    (subst (λ (k : Kept). NoneBehind (record mid { kept = k }) after) (sym kept) end) (mid-on j mid told run r t none) in
    record {
      moves = moves_of (map kind_at (b ∷ bs));
      now = flow.now;
      next = (one, flow.next);
      holds = subst (λ (q : Content). Holds q flow.now) (with-bytes b bs (Some DataItem) mid data-once) flow.holds;
      said = row-said j mid told x released b bs mid.kept.doctype t h (ap (λ (k : Kept). k.doctype) t.texts) none w (all-text old (b ∷ bs) after row);
      entities = entities-append told (data_told released (characters (b ∷ bs)))
          ∙ ((λ i. t.taken.entities i ++ data-entities released (characters (b ∷ bs)) i) ∙ sym (no-entities kind_at (b ∷ bs) (λ d. (text-at d).entities)));
      starts = first-starts kind_at b bs (λ d. unplaced-by (strings.begins_string d) d);
    }

row-taken : (texts : List (ℕ × Text)) (old j new : Content) (before after : List Event) (run : Run) (b : ℕ) (bs past : Text) → IsContent old → IsJudgedFrom old j → IsRun j visible.Chars run
    → room_of run ≡ 0 → around_of old ≡ in_text → rest_in old.kept texts ≡ b ∷ (bs ++ past) → length (b ∷ bs) ≤ length (rest_in old.kept texts) → IsRow old (b ∷ bs) past → NoneBehind old past
    → IsEntityTaken j new (length (b ∷ bs)) (event.Chars (characters (b ∷ bs)) ∷ []) before after → TellsMapped texts old new before after
row-taken texts old j new before after run b bs past was from r none a rest l row end d =
    let t = d.taken in
    let mid = t.after_run in
    let told = t.run.0 in
    let n = length (b ∷ bs) in
    let ev = data_told d.released (characters (b ∷ bs)) in
    let taken = taken-from j new n DataItem before d.run_told d.released t in
    let is = mid-content j mid told (Char 0) (Some DataItem) 1 from.content taken (character-text 0) (character-quiet 0) in (
      told ++ ev,
      d.told ∙ (ap (λ es. es ++ ev) t.run.1 ∙ append_assoc before told ev),
      told-at old j mid told ev from taken (λ place. at-data place d.released (characters (b ∷ bs))),
      λ c ended. subst (λ (z : Content). IsStep c mapped_state texts ended old z (told ++ ev) (Ok tt)) (sym t.kept)
          (ok-step c mapped_state texts ended old (with_item n (Some DataItem) mid) (told ++ ev) n was
          (quiet-content n (Some DataItem) mid is) (ap (moved_on n) (t.texts ∙ from.kept)) (omega arith) l
          (λ outside x h held. row-goes outside texts ended old j mid told d.released run x b bs past was from r taken
          (none-left j run r none) h held a rest row end t.puts_out)),
    )

-- SO MANY BYTES of it
pub row-tells : (texts : List (ℕ × Text)) (n : ℕ) (old j new : Content) (before after : List Event) (run : Run) → IsContent old → IsJudgedFrom old j → IsRun j visible.Chars run → room_of run ≡ 0
    → around_of old ≡ in_text → 0 < n → n ≤ length (rest_in old.kept texts) → AreTextThere old (rest_in old.kept texts) n → IsTextEnd old (rest_in old.kept texts) n
    → IsEntityTaken j new n (event.Chars (characters (take n (rest_in old.kept texts))) ∷ []) before after → TellsMapped texts old new before after
row-tells texts n old j new before after run was from r none a some l there end d =
    let rest = rest_in old.kept texts in
    let parts = split-front n rest some l in
    let b = parts.0 in
    let bs = parts.1 in
    row-taken texts old j new before after run b bs (drop n rest) was from r none a (sym (take-drop n rest) ∙ ap (λ ys. ys ++ drop n rest) parts.2)
    (subst (λ m. m ≤ length rest) (sym parts.3) l) (subst (λ ys. IsRow old ys (drop n rest)) parts.2 (row-from old n rest l there)) (end some)
    (subst (λ ys. IsEntityTaken j new (length (b ∷ bs)) (event.Chars (characters ys) ∷ []) before after) parts.2
    (subst (λ m. IsEntityTaken j new m (event.Chars (characters (take n rest)) ∷ []) before after) (sym parts.3) d))
