-- A stretch of data: where no tag is left out before its first character, none is before the next ones.
use Rattle.std.specs.Prelude.{◌≡◌, ℕ, zero, suc, ◌+◌, ◌<◌, ◌≤◌, ◌==◌, Bool, true, false, IsTrue, List, [], ◌∷◌, ◌++◌, Some, length, take, map, reverse, Result, Ok, Err, if◌then◌else◌}
use Rattle.std.specs.List.{list_all}
use Rattle.std.proofs.Common.{refl, sym, ap, ◌∙◌, subst, append_assoc, append-nil, arith}
use Rattle.std.proofs.lemmas.Bool.{and_parts, eqb-true}
use Rattle.sgml_text.specs.declared.unit.Unit.{Unit as AnyUnit}
use Rattle.sgml_text.specs.Units.{characters}
use Rattle.sgml_inside.specs.records.Items.{Data}
use Rattle.sgml_inside.specs.records.Facts.{Facts}
use Rattle.sgml_scan.specs.declared.state.ScanState.{ScanState}
use Rattle.sgml_infer.specs.sgml_dtd.Doctypes.{Doctype}
use Rattle.sgml_events.specs.declared.event.Event.{Event}
use Rattle.sgml_content_steps.specs.said.Told.{all_said}
use Rattle.sgml_infer.specs.theory_reading.Names.{Text}
use Rattle.sgml_infer.specs.theory_reading.Pieces.{Kind, Char}
use Rattle.sgml_infer.specs.theory_reading.Facets.{Pcdata}
use Rattle.sgml_infer.specs.theory_reading.Context.{Level, Context, context_after, levels_after, levels_with}
use Rattle.sgml_infer.specs.theory_reading.Omission.{allowed}
use Rattle.sgml_infer.specs.theory_reading.Runs.{LongestRunFrom, context_after_run}
use Rattle.sgml_infer.specs.theory_reading.Reasons.{reason, is_inside, DataGoesOn}
use Rattle.sgml_infer.specs.theory_reading.Unread.{Outside}
use Rattle.sgml_infer.specs.theory_reading.Characters.{level_has_text, in_text_section, facts_in}
use Rattle.sgml_infer.specs.theory_reading.Events.{events_of_run}
use Rattle.sgml_infer.proofs.theory_reading.Again.{data-leaves, data-goes-on}
use Rattle.sgml_prolog_steps.specs.theory_spelling.Sized.{sized}
use Rattle.sgml_prolog_steps.specs.theory_spelling.Spelled.{forms}
use Rattle.sgml_prolog_steps.specs.theory_standing.Kept.{Kept}
use Rattle.sgml_prolog_steps.specs.theory_standing.Held.{Held, state_of, state_after_run, IsSpelledIn}
use Rattle.sgml_prolog_steps.specs.theory_standing.Moves.{IsMove, held_after, told_by_moves}
use Rattle.sgml_infer.specs.Seen.{started, ended}
use Rattle.sgml_infer.specs.declared.visible.Visible.TheVariants as visible
use Rattle.sgml_infer.specs.Visibles.{after_left_out}
use Rattle.sgml_inside.specs.Inside.{facts_of}
use Rattle.sgml_prolog_steps.specs.Found.{rest_in, moved_on}
use Rattle.sgml_prolog_steps.specs.declared.stepping.Stop.{Stop}
use Rattle.sgml_prolog_steps.specs.declared.stepping.Stop.TheVariants as stop
use Rattle.sgml_content_steps.specs.Standing.{IsHeld}
use Rattle.sgml_content_steps.specs.Content.{Content, Holds, IsContent, context_of}
use Rattle.sgml_content_steps.specs.Steps.{Goes, IsStep}
use Rattle.sgml_content_steps.specs.declared.run.Run.{Run}
use Rattle.sgml_content_steps.specs.Runs.{IsRun, run_of, room_of}
use Rattle.sgml_content_data.specs.declared.around.Around.{Around}
use Rattle.sgml_content_data.specs.Roles.{around_of, is_data_there}
use Rattle.sgml_content_data.specs.Taking.{with_item, data_told, IsDataTaken}
use Rattle.sgml_content_data.specs.Steps.{is_ign, AreThere, TellsPiece, TellsStretch}
use Rattle.sgml_content_data.proofs.Quiet.{character-quiet}
use Rattle.sgml_content_data.proofs.Fronts.{own-length}
use Rattle.sgml_content_data.proofs.Roles.{around-held, data-there}
use Rattle.sgml_content_data.proofs.Holding.{behind, quiet-content, quiet-held}
use Rattle.sgml_content_data.proofs.Flowing.{next-one, moves_of, IsEach, AreEach, left-of, flows, data-once, with-bytes}
use Rattle.sgml_content_data.proofs.Told.{put_out_at, bytes_said, stretch-told, said-append, entities-append, said-data, data-entities, no-entities, character-unplaced, first-starts}
use Rattle.sgml_content_data.proofs.Alone.{ok-step, at-none}
use Rattle.sgml_content_data.proofs.Judged.{character-text, IsJudgedFrom, memory-step, IsRefusedOf, refused-piece}
use Rattle.sgml_content_data.proofs.Behind.{IsTakenFrom, open-after, mid-content, behind-moves, behind-holds}
use Rattle.sgml_content_data.proofs.GoingOn.{data-allowed, some-open, data-moves}
use Rattle.sgml_content_data.proofs.Data.{taken-from, facts-left, told-at, at-data, character-noted, character-taken}

-- A STRETCH by its first character
pub stretch-by-first : (texts : List (ℕ × Text)) (b : ℕ) (bs : Text) (old new : Content) (before after : List Event)
    (result : Result (Unit {0}) Stop)
    → is_data_there (around_of old) b ≡ true → TellsPiece texts 1 (Char b) old new before after result → TellsStretch texts (b ∷ bs) old new before after result
stretch-by-first texts b bs old new before after result e t = (
  t.0,
  t.1,
  t.2,
  λ c st ended read there. t.3 c st ended (λ outside x h held.
      subst (λ (y : Kind). IsSpelledIn outside x texts ended (Ok (sized 1 y)))
      (data-there (around_of old) (state_of x) st.mode b read (around-held old x h) e) (there.0 outside x held)),
)

-- WHERE NO TAG WAS LEFT OUT
nil : (xs : List ℕ) → length xs ≡ 0 → xs ≡ []
nil [] e = refl
nil (x ∷ xs) e = absurd (omega (arith, e))

pub none-left : (j : Content) (run : Run) → IsRun j visible.Chars run → room_of run ≡ 0 → run_of j ≡ []
none-left j run r e =
    let a = r.judged.ends in
    let b = r.judged.starts in
    let no_ends = nil j.tree.ended.items (omega (arith, a, e)) in
    let no_starts = nil j.tree.starts.items (omega (arith, b, e)) in
    λ i. ended j.kept.doctype (no_ends i) ++ started j.kept.doctype (no_starts i)

pub left-same : (j : Content) → run_of j ≡ [] → after_left_out j.kept.doctype j.tree ≡ context_of j
left-same j e = ap (context_after_run (context_of j)) e

-- data may stand in the innermost element
here-allowed : (j : Content) (run : Run) (b : ℕ) → IsRun j visible.Chars run → run_of j ≡ [] → IsTrue (allowed (context_of j) Pcdata)
here-allowed j run b r e =
    let is = (character-text b).token_is in
    data-allowed (context_of j) b (subst (λ os. LongestRunFrom (context_of j) (Char b) os) e (r.judged.longest (Char b) is))
    (ap (λ s. reason s (Char b)) (sym (left-same j e)) ∙ r.judged.no_reason (Char b) is)

here-inside : (j : Content) → IsTrue (allowed (context_of j) Pcdata) → IsTrue (is_inside (context_of j))
here-inside j e = some-open j.kept.doctype (context_of j).levels (context_of j).begun false e

-- WHAT IS OPEN behind the first character
mid-open : (j mid : Content) (told : List Event) (b : ℕ) → IsTakenFrom j mid told → run_of j ≡ [] → context_of mid ≡ context_after (sized 1 (Char b)) (context_of j)
mid-open j mid told b t e = open-after j mid told (Char b) 1 t (character-text b) ∙ ap (context_after (sized 1 (Char b))) (left-same j e)

text-with : (d : Doctype) (y : Kind) (ls : List Level) → level_has_text d (levels_with y ls) ≡ level_has_text d ls
text-with d y [] = refl
text-with d y (l ∷ ls) = refl

text-after : (d : Doctype) (b : ℕ) (s : Context) → level_has_text d (context_after (sized 1 (Char b)) s).levels ≡ level_has_text d s.levels
unfolding context_after
text-after d b s = ap (λ f. level_has_text d (levels_after s.doctype f (Char b) s.levels)) (character-quiet b).stays ∙ text-with d (Char b) s.levels

around-mid : (old j mid : Content) (told : List Event) (b : ℕ) → IsJudgedFrom old j → IsTakenFrom j mid told → run_of j ≡ [] → around_of mid ≡ around_of old
around-mid old j mid told b from t e =
    let kept = t.texts ∙ from.kept in
    let text : level_has_text old.kept.doctype (context_of mid).levels ≡ level_has_text old.kept.doctype (context_of old).levels =
    ap (λ (s : Context). level_has_text old.kept.doctype s.levels) (mid-open j mid told b t e)
    ∙ (text-after old.kept.doctype b (context_of j) ∙ ap (λ (s : Context). level_has_text old.kept.doctype s.levels) from.context) in
    λ i. record {
      text = (ap (λ (k : Kept). level_has_text k.doctype (context_of mid).levels) kept ∙ text) i;
      section = in_text_section (reverse (kept i).sections);
    }

-- EACH CHARACTER BEHIND IT
pub data-each : (a : Around) (s t : Context) (st : ScanState) (b c : ℕ) → is_ign st.mode ≡ false → is_data_there a c ≡ true → IsTrue (allowed s Pcdata) → IsTrue (is_inside s)
    → t ≡ context_after (sized 1 (Char b)) s → IsEach a t st Char (Some Data) c
data-each a s t st b c read there may inside e =
    let p = sized 1 (Char b) in
    let q = sized 1 (Char c) in
    let is-b = (character-text b).token_is in
    let is-c = (character-text c).token_is in
    record {
      quiet = character-quiet c;
      kind = λ z f. data-there a z st.mode c read f there;
      noted = λ z. character-noted z c;
      moves = λ z f. data-moves z c (subst (λ (u : Context). DataGoesOn u (Char c)) (sym (f ∙ e)) (data-goes-on s p q is-b is-c may inside));
      same = ap (context_after q) e ∙ (data-leaves s p q is-b is-c ∙ sym e);
    }

pub all-each : (a : Around) (s t : Context) (st : ScanState) (b : ℕ) (cs : Text) → is_ign st.mode ≡ false → list_all (is_data_there a) cs ≡ true → IsTrue (allowed s Pcdata)
    → IsTrue (is_inside s) → t ≡ context_after (sized 1 (Char b)) s → AreEach a t st Char (Some Data) cs
all-each a s t st b [] read there may inside e = tt
all-each a s t st b (c ∷ cs) read there may inside e =
    let parts = and_parts (is_data_there a c) (list_all (is_data_there a) cs) there in
    (data-each a s t st b c read parts.0 may inside e, all-each a s t st b cs read parts.1 may inside e)

-- what the stretch tells: where there is no run, the events of the run are none
run-silent : (j mid : Content) (told : List Event) (x : Held) (d : Doctype) → IsTakenFrom j mid told → Holds j x → d ≡ j.kept.doctype → run_of j ≡ [] → all_said d told ≡ []
run-silent j mid told x d t h e none =
    ap (λ z. all_said z told) e ∙ ((t.taken.holds x h).said ∙ ap (events_of_run forms (state_of x)) none)

stretch-said : (j mid : Content) (told : List Event) (x : Held) (released : Bool) (b : ℕ) (bs : Text) (d : Doctype) → IsTakenFrom j mid told → Holds j x → d ≡ j.kept.doctype
    → run_of j ≡ [] → released ≡ (facts_of mid.inside.elements).waiting
    → all_said d (told ++ data_told released (characters (b ∷ bs))) ≡ told_by_moves x (moves_of (map Char (b ∷ bs)))
stretch-said j mid told x released b bs d t h e none r =
    said-append d told (data_told released (characters (b ∷ bs)))
    ∙ ((λ i. run-silent j mid told x d t h e none i ++ said-data d released (b ∷ bs) i)
    ∙ (ap (λ w. put_out_at w ++ bytes_said (b ∷ bs))
    (r ∙ (ap (λ (f : Facts). f.waiting) (sym (facts-left j mid told x t h)) ∙ ap (λ os. (facts_in (state_after_run os (state_of x)).record_ends).waiting) none))
    ∙ sym (stretch-told b bs (state_of x))))

-- IT GOES ON to the end of the stretch
pub stretch-goes : (outside : Outside) (texts : List (ℕ × Text)) (ended : Bool) (st : ScanState) (old j mid : Content) (told : List Event) (released : Bool)
    (run : Run) (x : Held) (b : ℕ) (bs : Text) → IsJudgedFrom old j → IsRun j visible.Chars run → IsTakenFrom j mid told → run_of j ≡ [] → Holds old x → IsHeld old.kept st x
    → is_ign st.mode ≡ false → length (b ∷ bs) ≤ length (rest_in old.kept texts) → AreThere old.kept st texts ended (b ∷ bs)
    → list_all (is_data_there (around_of old)) (b ∷ bs) ≡ true → released ≡ (facts_of mid.inside.elements).waiting
    → Goes outside texts ended x (with_item (length (b ∷ bs)) (Some Data) mid) (told ++ data_told released (characters (b ∷ bs)))
stretch-goes outside texts ended st old j mid told released run x b bs from r t none was held read l there all w =
    let h = from.holds x was in
    let q = character-quiet b in
    let text = character-text b in
    let kept = t.texts ∙ from.kept in
    let all_data = and_parts (is_data_there (around_of old) b) (list_all (is_data_there (around_of old)) bs) all in
    let spelled = subst (λ (y : Kind). IsSpelledIn outside x texts ended (Ok (sized 1 y)))
    (data-there (around_of old) (state_of x) st.mode b read (around-held old x was) all_data.0) (there.0 outside x held) in
    let moves = subst (λ os. IsMove (state_of x) (sized 1 (Char b)) (behind os 1 (Char b))) none (behind-moves j run x (Char b) 1 from.content r h text) in
    let one = next-one outside texts ended j x [] (Char b) 1 (Some Data) from.content h q
    (subst (λ (k : Kept). 1 ≤ length (rest_in k texts)) (sym from.kept) (omega (arith, l))) spelled (character-noted (state_of x) b) moves in
    let y = held_after outside (behind [] 1 (Char b)) x in
    let c = with_item 1 (Some Data) mid in
    let is = mid-content j mid told (Char b) (Some Data) 1 from.content t text q in
    let holds : Holds c y = subst (λ os. Holds c (held_after outside (behind os 1 (Char b)) x)) none (behind-holds outside j mid told run x (Char b) (Some Data) 1 from.content r t h text q) in
    let held-then = quiet-held outside st x (Char b) 1 (Some Data) mid.kept q is.instance (subst (λ (k : Kept). IsHeld k st x) (sym kept) held) in
    let may = here-allowed j run b r none in
    let each = all-each (around_of old) (context_of j) (context_of mid) st b bs read all_data.1 may (here-inside j may) (mid-open j mid told b t none) in
    let flow = flows outside texts ended st Char (Some Data) bs c y (quiet-content 1 (Some Data) mid is) holds held-then
    (left-of outside texts 1 (length bs) mid is (subst (λ (k : Kept). 1 + length bs ≤ length (rest_in k texts)) (sym kept) (omega (arith, l))))
    (subst (λ (k : Kept). AreThere (moved_on 1 k) st texts ended bs) (sym kept) there.1)
    (subst (λ (a : Around). AreEach a (context_of mid) st Char (Some Data) bs) (sym (around-mid old j mid told b from t none)) each) in
    record {
      moves = moves_of (map Char (b ∷ bs));
      now = flow.now;
      next = (one, flow.next);
      holds = subst (λ (z : Content). Holds z flow.now) (with-bytes b bs (Some Data) mid data-once) flow.holds;
      said = stretch-said j mid told x released b bs mid.kept.doctype t h (ap (λ (k : Kept). k.doctype) t.texts) none w;
      entities = entities-append told (data_told released (characters (b ∷ bs)))
          ∙ ((λ i. t.taken.entities i ++ data-entities released (characters (b ∷ bs)) i) ∙ sym (no-entities Char (b ∷ bs) (λ a. (character-text a).entities)));
      starts = first-starts Char b bs character-unplaced;
    }

pub stretch-taken : (texts : List (ℕ × Text)) (old j new : Content) (before after : List Event) (run : Run) (b : ℕ) (bs : Text) (units : List AnyUnit)
    → IsContent old → IsJudgedFrom old j → IsRun j visible.Chars run → room_of run ≡ 0 → length (b ∷ bs) ≤ length (rest_in old.kept texts)
    → list_all (is_data_there (around_of old)) (b ∷ bs) ≡ true → units ≡ characters (b ∷ bs) → IsDataTaken j new (length (b ∷ bs)) units before after
    → TellsStretch texts (b ∷ bs) old new before after (Ok tt)
stretch-taken texts old j new before after run b bs units was from r none l all u d =
    let t = d.taken in
    let mid = t.after_run in
    let told = t.run.0 in
    let n = length (b ∷ bs) in
    let taken = taken-from j new n Data before d.run_told d.released t in
    let is = mid-content j mid told (Char b) (Some Data) 1 from.content taken (character-text b) (character-quiet b) in (
      told ++ data_told d.released units,
      d.told ∙ (ap (λ es. es ++ data_told d.released units) t.run.1 ∙ append_assoc before told (data_told d.released units)),
      told-at old j mid told (data_told d.released units) from taken (λ place. at-data place d.released units),
      λ c st ended read there.
          subst (λ (z : Content). IsStep c st texts ended old z (told ++ data_told d.released units) (Ok tt)) (sym t.kept)
          (subst (λ us. IsStep c st texts ended old (with_item n (Some Data) mid) (told ++ data_told d.released us) (Ok tt)) (sym u)
          (ok-step c st texts ended old (with_item n (Some Data) mid) (told ++ data_told d.released (characters (b ∷ bs))) n was
          (quiet-content n (Some Data) mid is) (ap (moved_on n) (t.texts ∙ from.kept)) (omega arith) l
          (λ outside x h held. stretch-goes outside texts ended st old j mid told d.released run x b bs from r taken
          (none-left j run r none) h held read l there all t.puts_out))),
    )

-- OR NOTHING IS TAKEN
pub stretch-memory : (texts : List (ℕ × Text)) (n : ℕ) (old new : Content) (before after : List Event) → IsJudgedFrom old new → after ≡ before
    → TellsStretch texts (take n (rest_in old.kept texts)) old new before after (Err stop.Memory)
stretch-memory texts n old new before after j e =
    ([], e ∙ sym (append-nil before), at-none _, λ c st ended read there. memory-step c st texts ended old new j)

-- the bytes of it
pub split-front : (n : ℕ) (xs : List ℕ) → 0 < n → n ≤ length xs → (b : ℕ) × (bs : List ℕ) × (take n xs ≡ b ∷ bs) × (length (b ∷ bs) ≡ n)
split-front zero xs some l = absurd (omega (arith, some))
split-front (suc n) [] some l = absurd (omega (arith, l))
split-front (suc n) (x ∷ xs) some l = (x, take n xs, refl, ap suc (own-length n xs (omega (arith, l))))

first-data : (a : Around) (b : ℕ) (bs bytes : Text) → bytes ≡ b ∷ bs → list_all (is_data_there a) bytes ≡ true → is_data_there a b ≡ true
first-data a b bs bytes e all = (and_parts (is_data_there a b) (list_all (is_data_there a) bs) (ap (list_all (is_data_there a)) (sym e) ∙ all)).0

pub stretch-refused : (texts : List (ℕ × Text)) (n : ℕ) (old new : Content) (before : List Event) (e : Stop) → IsJudgedFrom old new → 0 < n → n ≤ length (rest_in old.kept texts)
    → list_all (is_data_there (around_of old)) (take n (rest_in old.kept texts)) ≡ true → IsRefusedOf old e
    → TellsStretch texts (take n (rest_in old.kept texts)) old new before before (Err e)
stretch-refused texts n old new before e j some l all none =
    let parts = split-front n (rest_in old.kept texts) some l in
    subst (λ (xs : Text). TellsStretch texts xs old new before before (Err e)) (sym parts.2)
    (stretch-by-first texts parts.0 parts.1 old new before before (Err e) (first-data (around_of old) parts.0 parts.1 (take n (rest_in old.kept texts)) parts.2 all)
    (refused-piece texts 1 (Char parts.0) old new before e j (character-text parts.0) (λ x h. character-noted (state_of x) parts.0) none))

-- ALL OF IT, or the first character behind omitted tags
abbrev IsEither : Run → ℕ → ℕ → Type 0
IsEither run n m = m ≡ (if room_of run == 0 then n else 1)

first-taken : (texts : List (ℕ × Text)) (old j new : Content) (before after : List Event) (run : Run) (b : ℕ) (bs : Text) (units : List AnyUnit)
    → IsContent old → IsJudgedFrom old j → IsRun j visible.Chars run → 1 ≤ length (rest_in old.kept texts) → is_data_there (around_of old) b ≡ true
    → units ≡ characters (b ∷ []) → IsDataTaken j new 1 units before after → TellsStretch texts (b ∷ bs) old new before after (Ok tt)
first-taken texts old j new before after run b bs units was from r l all u d =
    stretch-by-first texts b bs old new before after (Ok tt) all
    (character-taken texts old j new before after run b 1 units was from r (omega arith) l u d)

either-by : (t : Bool) (texts : List (ℕ × Text)) (old j new : Content) (before after : List Event) (run : Run) (n m b : ℕ) (bs : Text) (units : List AnyUnit)
    → (room_of run == 0) ≡ t → IsContent old → IsJudgedFrom old j → IsRun j visible.Chars run → n ≤ length (rest_in old.kept texts) → take n (rest_in old.kept texts) ≡ b ∷ bs
    → length (b ∷ bs) ≡ n → list_all (is_data_there (around_of old)) (b ∷ bs) ≡ true → m ≡ (if t then n else 1) → units ≡ characters (take m (rest_in old.kept texts))
    → IsDataTaken j new m units before after → TellsStretch texts (b ∷ bs) old new before after (Ok tt)
either-by true texts old j new before after run n m b bs units e was from r l p size all f u d =
    let same : m ≡ length (b ∷ bs) = f ∙ sym size in
    stretch-taken texts old j new before after run b bs units was from r (eqb-true (room_of run) 0 e)
    (subst (λ k. k ≤ length (rest_in old.kept texts)) (sym size) l) all
    (u ∙ (ap (λ k. characters (take k (rest_in old.kept texts))) f ∙ ap characters p)) (subst (λ k. IsDataTaken j new k units before after) same d)
either-by false texts old j new before after run n m b bs units e was from r l p size all f u d =
    first-taken texts old j new before after run b bs units was from r (omega (arith, l, size)) (and_parts (is_data_there (around_of old) b) _ all).0
    (u ∙ (ap (λ k. characters (take k (rest_in old.kept texts))) f ∙ ap characters (first-one n (rest_in old.kept texts) b bs p)))
    (subst (λ k. IsDataTaken j new k units before after) f d)
  where
    first-one : (n : ℕ) (xs : List ℕ) (b : ℕ) (bs : List ℕ) → take n xs ≡ b ∷ bs → take 1 xs ≡ b ∷ []
    first-one zero [] b bs p = cc
    first-one zero (x ∷ xs) b bs p = cc
    first-one (suc n) [] b bs p = cc
    first-one (suc n) (x ∷ xs) b bs p = let q : x ≡ b = cc in ap (λ y. y ∷ []) q

pub stretch-either : (texts : List (ℕ × Text)) (n m : ℕ) (old j new : Content) (before after : List Event) (run : Run) (units : List AnyUnit)
    → IsContent old → IsJudgedFrom old j → IsRun j visible.Chars run → 0 < n → n ≤ length (rest_in old.kept texts)
    → list_all (is_data_there (around_of old)) (take n (rest_in old.kept texts)) ≡ true → m ≡ (if room_of run == 0 then n else 1)
    → units ≡ characters (take m (rest_in old.kept texts)) → IsDataTaken j new m units before after
    → TellsStretch texts (take n (rest_in old.kept texts)) old new before after (Ok tt)
stretch-either texts n m old j new before after run units was from r some l all f u d =
    let parts = split-front n (rest_in old.kept texts) some l in
    subst (λ (xs : Text). TellsStretch texts xs old new before after (Ok tt)) (sym parts.2)
    (either-by (room_of run == 0) texts old j new before after run n m parts.0 parts.1 units refl was from r l parts.2 parts.3
    (ap (list_all (is_data_there (around_of old))) (sym parts.2) ∙ all) f u d)
