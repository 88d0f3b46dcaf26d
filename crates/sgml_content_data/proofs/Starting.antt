-- Data behind tags that are left out before its first character: the others go on behind that one, where they are
-- scanned as before.
use Rattle.std.specs.Prelude.{◌≡◌, ℕ, zero, suc, ◌+◌, ◌-◌, ◌<◌, ◌≤◌, ◌&&◌, Bool, true, false, IsTrue, List, [], ◌∷◌, ◌++◌, Some, length, take, map, Result, Ok, Err}
use Rattle.std.specs.List.{list_all, prefix_len}
use Rattle.std.proofs.Common.{refl, sym, ap, ◌∙◌, subst, append_assoc, arith, length-drop}
use Rattle.std.proofs.lemmas.Bool.{and_parts}
use Rattle.sgml_text.specs.declared.unit.Unit.{Unit as AnyUnit}
use Rattle.sgml_text.specs.Units.{characters}
use Rattle.sgml_inside.specs.records.Items.{Data}
use Rattle.sgml_inside.specs.records.Facts.{Facts}
use Rattle.sgml_scan.specs.declared.state.ScanState.{ScanState}
use Rattle.sgml_infer.specs.sgml_dtd.Doctypes.{Doctype}
use Rattle.sgml_events.specs.declared.event.Event.{Event}
use Rattle.sgml_content_steps.specs.said.Told.{all_said}
use Rattle.sgml_infer.specs.theory_reading.Names.{Text}
use Rattle.sgml_infer.specs.theory_reading.Pieces.{Kind, Char}
use Rattle.sgml_infer.specs.theory_reading.Facets.{Pcdata}
use Rattle.sgml_infer.specs.theory_reading.Context.{Context}
use Rattle.sgml_infer.specs.theory_reading.Omission.{allowed}
use Rattle.sgml_infer.specs.theory_reading.Reasons.{is_inside}
use Rattle.sgml_infer.specs.theory_reading.Reads.{pieces}
use Rattle.sgml_infer.specs.theory_reading.Unread.{Outside}
use Rattle.sgml_prolog_steps.specs.theory_spelling.Sized.{sized}
use Rattle.sgml_prolog_steps.specs.theory_standing.Kept.{Kept}
use Rattle.sgml_prolog_steps.specs.theory_standing.Held.{Held, state_of, IsSpelledIn}
use Rattle.sgml_prolog_steps.specs.theory_standing.Moves.{held_after, told_by_moves}
use Rattle.sgml_infer.specs.declared.visible.Visible.TheVariants as visible
use Rattle.sgml_infer.specs.Visibles.{after_left_out}
use Rattle.sgml_infer.proofs.Running.{none-after}
use Rattle.sgml_inside.specs.Inside.{facts_of}
use Rattle.sgml_prolog_steps.specs.Found.{rest_in, moved_on}
use Rattle.sgml_prolog_steps.proofs.Told.{rest-moved}
use Rattle.sgml_prolog_steps.specs.declared.stepping.Stop.{Stop}
use Rattle.sgml_content_steps.specs.Standing.{IsHeld}
use Rattle.sgml_content_steps.specs.Content.{Content, Holds, IsContent, context_of}
use Rattle.sgml_content_steps.specs.Steps.{Goes, IsStep, entities_of}
use Rattle.sgml_content_steps.specs.declared.run.Run.{Run}
use Rattle.sgml_content_steps.specs.Runs.{IsRun, run_of, state_left}
use Rattle.sgml_content_data.specs.Roles.{around_of, in_text, is_data_there}
use Rattle.sgml_content_data.specs.Taking.{with_item, data_told, IsTaken}
use Rattle.sgml_content_data.specs.Steps.{is_ign, AreThere, TellsStretch}
use Rattle.sgml_content_steps.specs.Plainly.{plain_state}
use Rattle.sgml_content_data.proofs.Quiet.{character-quiet}
use Rattle.sgml_content_data.proofs.Fronts.{own-length, prefix-fits}
use Rattle.sgml_content_data.proofs.Roles.{around-held, data-there}
use Rattle.sgml_content_data.proofs.Holding.{behind, quiet-content}
use Rattle.sgml_content_data.proofs.Flowing.{next-one, moves_of, flows, data-once, with-bytes, with-twice}
use Rattle.sgml_content_data.proofs.Told.{run-told, stretch-told, put_out_at, bytes_said, said-append, said-data, entities-append, pieces-append, data-entities, no-entities, character-unplaced, first-starts}
use Rattle.sgml_content_data.proofs.Alone.{ok-step}
use Rattle.sgml_content_data.proofs.Judged.{character-text, IsJudgedFrom, IsRefusedOf}
use Rattle.sgml_content_data.proofs.Behind.{IsTakenFrom, open-after, mid-content, behind-moves, behind-holds, run-none}
use Rattle.sgml_content_data.proofs.GoingOn.{data-allowed, some-open}
use Rattle.sgml_content_data.proofs.Data.{taken-from, facts-left, told-at, at-data, character-noted, character-taken}
use Rattle.sgml_content_data.proofs.Stretches.{stretch-by-first, stretch-refused, all-each, split-front}
use Rattle.sgml_content_data.proofs.Scanned.{prefix-all, take-take}

-- FEWER of characters that stand there
fewer-there : (k : Kept) (st : ScanState) (texts : List (ℕ × Text)) (ended : Bool) (n m : ℕ) (xs : Text) → n ≤ m → AreThere k st texts ended (take m xs)
    → AreThere k st texts ended (take n xs)
fewer-there k st texts ended zero m [] l t = tt
fewer-there k st texts ended zero m (x ∷ xs) l t = tt
fewer-there k st texts ended (suc n) zero xs l t = absurd (omega (arith, l))
fewer-there k st texts ended (suc n) (suc m) [] l t = tt
fewer-there k st texts ended (suc n) (suc m) (x ∷ xs) l t = (t.0, fewer-there (moved_on 1 k) st texts ended n m xs (omega (arith, l)) t.1)

pub stretch-widens : (texts : List (ℕ × Text)) (n m : ℕ) (old new : Content) (before after : List Event) (result : Result (Unit {0}) Stop) → n ≤ m
    → TellsStretch texts (take n (rest_in old.kept texts)) old new before after result → TellsStretch texts (take m (rest_in old.kept texts)) old new before after result
stretch-widens texts n m old new before after result l t = (
  t.0,
  t.1,
  t.2,
  λ c st ended read there. t.3 c st ended read (fewer-there old.kept st texts ended n m (rest_in old.kept texts) l there),
)

-- data may stand behind the run
abbrev left_of : Content → Context
left_of j = after_left_out j.kept.doctype j.tree

left-allowed : (j : Content) (run : Run) (b : ℕ) → IsRun j visible.Chars run → IsTrue (allowed (left_of j) Pcdata)
left-allowed j run b r =
    let is = (character-text b).token_is in
    data-allowed (left_of j) b (none-after (context_of j) (Char b) (run_of j) (r.judged.longest (Char b) is)) (r.judged.no_reason (Char b) is)

left-inside : (j : Content) → IsTrue (allowed (left_of j) Pcdata) → IsTrue (is_inside (left_of j))
left-inside j e = some-open (left_of j).doctype (left_of j).levels (left_of j).begun (left_of j).inferred e

-- what it tells: the run, the record end that waits, and the characters
begun-said : (j mid : Content) (told : List Event) (x : Held) (released : Bool) (b : ℕ) (bs : Text) (d : Doctype) → IsTakenFrom j mid told → Holds j x → d ≡ j.kept.doctype
    → released ≡ (facts_of mid.inside.elements).waiting
    → all_said d (told ++ data_told released (characters (b ∷ bs))) ≡ told_by_moves x (behind (run_of j) 1 (Char b) ∷ moves_of (map Char bs))
begun-said j mid told x released b bs d t h e r =
    said-append d told (data_told released (characters (b ∷ bs)))
    ∙ ((λ i. (ap (λ (z : Doctype). all_said z told) e ∙ (t.taken.holds x h).said) i
    ++ (said-data d released (b ∷ bs)
    ∙ (ap (λ w. put_out_at w ++ bytes_said (b ∷ bs)) (r ∙ ap (λ (f : Facts). f.waiting) (sym (facts-left j mid told x t h)))
    ∙ sym (stretch-told b bs (state_left j x)))) i)
    ∙ sym (run-told (state_of x) (run_of j) (pieces (moves_of (map Char (b ∷ bs))))))

begun-none : (c : Content) (b : ℕ) (bs : Text) → entities_of (pieces (behind (run_of c) 1 (Char b) ∷ moves_of (map Char bs))) ≡ []
begun-none c b bs =
    pieces-append (run_of c) (pieces (moves_of (map Char (b ∷ bs))))
    ∙ (λ i. run-none c i ++ no-entities Char (b ∷ bs) (λ a. (character-text a).entities) i)

-- IT GOES ON to the end of the stretch
pub begun-goes : (outside : Outside) (texts : List (ℕ × Text)) (ended : Bool) (st : ScanState) (old j mid : Content) (told : List Event) (released : Bool)
    (run : Run) (x : Held) (b : ℕ) (bs : Text) → IsJudgedFrom old j → IsRun j visible.Chars run → IsTakenFrom j mid told → Holds old x → IsHeld old.kept st x
    → is_ign st.mode ≡ false → length (b ∷ bs) ≤ length (rest_in old.kept texts) → AreThere old.kept st texts ended (b ∷ bs)
    → is_data_there (around_of old) b ≡ true → list_all (is_data_there (around_of mid)) bs ≡ true
    → ((y : Held) → Holds (with_item 1 (Some Data) mid) y → IsHeld (moved_on 1 mid.kept) st y)
    → released ≡ (facts_of mid.inside.elements).waiting
    → Goes outside texts ended x (with_item (length (b ∷ bs)) (Some Data) mid) (told ++ data_told released (characters (b ∷ bs)))
begun-goes outside texts ended st old j mid told released run x b bs from r t was held read l there first all scans w =
    let h = from.holds x was in
    let q = character-quiet b in
    let text = character-text b in
    let kept = t.texts ∙ from.kept in
    let spelled = subst (λ (y : Kind). IsSpelledIn outside x texts ended (Ok (sized 1 y)))
    (data-there (around_of old) (state_of x) st.mode b read (around-held old x was) first) (there.0 outside x held) in
    let one = next-one outside texts ended j x (run_of j) (Char b) 1 (Some Data) from.content h q
    (subst (λ (k : Kept). 1 ≤ length (rest_in k texts)) (sym from.kept) (omega (arith, l))) spelled (character-noted (state_of x) b)
    (behind-moves j run x (Char b) 1 from.content r h text) in
    let y = held_after outside (behind (run_of j) 1 (Char b)) x in
    let c = with_item 1 (Some Data) mid in
    let is = mid-content j mid told (Char b) (Some Data) 1 from.content t text q in
    let holds : Holds c y = behind-holds outside j mid told run x (Char b) (Some Data) 1 from.content r t h text q in
    let may = left-allowed j run b r in
    let each = all-each (around_of mid) (left_of j) (context_of mid) st b bs read all may (left-inside j may) (open-after j mid told (Char b) 1 t text) in
    let flow = flows outside texts ended st Char (Some Data) bs c y (quiet-content 1 (Some Data) mid is) holds (scans y holds)
    (less-left texts 1 (length bs) mid is (subst (λ (k : Kept). 1 + length bs ≤ length (rest_in k texts)) (sym kept) (omega (arith, l))))
    (subst (λ (k : Kept). AreThere (moved_on 1 k) st texts ended bs) (sym kept) there.1) each in
    record {
      moves = behind (run_of j) 1 (Char b) ∷ moves_of (map Char bs);
      now = flow.now;
      next = (one, flow.next);
      holds = subst (λ (z : Content). Holds z flow.now) (with-bytes b bs (Some Data) mid data-once) flow.holds;
      said = begun-said j mid told x released b bs mid.kept.doctype t h (ap (λ (k : Kept). k.doctype) t.texts) w;
      entities = entities-append told (data_told released (characters (b ∷ bs)))
          ∙ ((λ i. t.taken.entities i ++ data-entities released (characters (b ∷ bs)) i) ∙ sym (begun-none j b bs));
      starts = first-starts Char b bs character-unplaced;
    }
  where
    less-left : (texts : List (ℕ × Text)) (n m : ℕ) (c : Content) → IsContent c → n + m ≤ length (rest_in c.kept texts) → m ≤ length (rest_in (moved_on n c.kept) texts)
    less-left texts n m c is l =
        let e = ap (λ xs. length xs) (rest-moved n c.kept texts is.instance.document) in
        let d = length-drop n (rest_in c.kept texts) in
        omega (arith, l, e, d)

-- THE BYTES of it
pub first-one : (n : ℕ) (xs : List ℕ) (b : ℕ) (bs : List ℕ) → take n xs ≡ b ∷ bs → take 1 xs ≡ b ∷ []
first-one zero [] b bs p = cc
first-one zero (x ∷ xs) b bs p = cc
first-one (suc n) [] b bs p = cc
first-one (suc n) (x ∷ xs) b bs p = let q : x ≡ b = cc in ap (λ y. y ∷ []) q

pub first-data : (p : ℕ → Bool) (b : ℕ) (bytes : Text) → bytes ≡ b ∷ [] → list_all p bytes ≡ true → p b ≡ true
first-data p b bytes e all = (and_parts (p b) true (ap (list_all p) (sym e) ∙ all)).0

pub first-of : (p : ℕ → Bool) (n : ℕ) (xs : List ℕ) → 0 < n → list_all p (take n xs) ≡ true → list_all p (take 1 xs) ≡ true
first-of p zero xs l all = absurd (omega (arith, l))
first-of p (suc n) [] l all = refl
first-of p (suc n) (x ∷ xs) l all = λ i. (and_parts (p x) (list_all p (take n xs)) all).0 i && list_all p (take-none xs i)
  where
    take-none : (xs : List ℕ) → take 0 xs ≡ []
    take-none [] = refl
    take-none (x ∷ xs) = refl

front-all : (p : ℕ → Bool) (whole n : ℕ) (rest : Text) → whole ≤ length rest → n ≡ prefix_len p (take whole rest) → (n ≤ whole) × (list_all p (take n rest) ≡ true)
front-all p whole n rest l e =
    let size = own-length whole rest l in
    let fits = prefix-fits p (take whole rest) in
    let within : n ≤ whole = omega (arith, size, fits, e) in (
      within,
      ap (list_all p) (sym (take-take n whole rest within)) ∙ (ap (λ k. list_all p (take k (take whole rest))) e ∙ prefix-all p (take whole rest)),
    )

-- THE FIRST of them alone
pub begun-first : (texts : List (ℕ × Text)) (whole : ℕ) (old j c : Content) (before middle after : List Event) (run : Run) (released : Bool) (units : List AnyUnit)
    → IsContent old → IsJudgedFrom old j → IsRun j visible.Chars run → 0 < whole → whole ≤ length (rest_in old.kept texts)
    → list_all (is_data_there (around_of old)) (take 1 (rest_in old.kept texts)) ≡ true → units ≡ characters (take 1 (rest_in j.kept texts))
    → IsTaken j c 1 Data before middle released → after ≡ middle ++ data_told released units
    → TellsStretch texts (take whole (rest_in old.kept texts)) old c before after (Ok tt)
begun-first texts whole old j c before middle after run released units was from r some l all u t e =
    let parts = split-front 1 (rest_in old.kept texts) (omega arith) (omega (arith, some, l)) in
    let b = parts.0 in
    let one : take 1 (rest_in old.kept texts) ≡ b ∷ [] = first-one 1 (rest_in old.kept texts) b parts.1 parts.2 in
    let units_are : units ≡ characters (b ∷ []) = u ∙ (ap (λ (k : Kept). characters (take 1 (rest_in k texts))) from.kept ∙ ap characters one) in
    stretch-widens texts 1 whole old c before after (Ok tt) (omega (arith, some))
    (subst (λ (xs : Text). TellsStretch texts xs old c before after (Ok tt)) (sym one)
    (stretch-by-first texts b [] old c before after (Ok tt) (first-data (is_data_there (around_of old)) b (take 1 (rest_in old.kept texts)) one all)
    (character-taken texts old j c before after run b 1 units was from r (omega arith) (omega (arith, some, l)) units_are
    (record { run_told = middle; released = released; taken = t; told = e }))))

pub begun-refused : (texts : List (ℕ × Text)) (whole : ℕ) (old new : Content) (before : List Event) (e : Stop) → IsJudgedFrom old new → 0 < whole → whole ≤ length (rest_in old.kept texts)
    → list_all (is_data_there (around_of old)) (take 1 (rest_in old.kept texts)) ≡ true → IsRefusedOf old e
    → TellsStretch texts (take whole (rest_in old.kept texts)) old new before before (Err e)
begun-refused texts whole old new before e j some l all none =
    stretch-widens texts 1 whole old new before before (Err e) (omega (arith, some))
    (stretch-refused texts 1 old new before e j (omega arith) (omega (arith, some, l)) all none)

-- ALL OF THEM
begun-row : (texts : List (ℕ × Text)) (old j mid new : Content) (told before after : List Event) (run : Run) (b : ℕ) (bs : Text) (released : Bool)
    → IsContent old → IsJudgedFrom old j → IsRun j visible.Chars run → IsTakenFrom j mid told → length (b ∷ bs) ≤ length (rest_in old.kept texts)
    → is_data_there (around_of old) b ≡ true → list_all (is_data_there (around_of mid)) bs ≡ true
    → ((x : Held) → Holds old x → IsHeld old.kept plain_state x) → ((y : Held) → Holds (with_item 1 (Some Data) mid) y → IsHeld (moved_on 1 mid.kept) plain_state y)
    → released ≡ (facts_of mid.inside.elements).waiting → new ≡ with_item (length (b ∷ bs)) (Some Data) mid
    → after ≡ before ++ (told ++ data_told released (characters (b ∷ bs))) → TellsStretch texts (b ∷ bs) old new before after (Ok tt)
begun-row texts old j mid new told before after run b bs released was from r t l first all plain scans w e f =
    let n = length (b ∷ bs) in
    let es = told ++ data_told released (characters (b ∷ bs)) in
    let is = mid-content j mid told (Char b) (Some Data) 1 from.content t (character-text b) (character-quiet b) in (
      es,
      f,
      told-at old j mid told (data_told released (characters (b ∷ bs))) from t (λ place. at-data place released (characters (b ∷ bs))),
      λ c st ended read there. subst (λ (z : Content). IsStep c st texts ended old z es (Ok tt)) (sym e)
          (ok-step c st texts ended old (with_item n (Some Data) mid) es n was (quiet-content n (Some Data) mid is) (ap (moved_on n) (t.texts ∙ from.kept)) (omega arith) l
          (λ outside x h held. begun-goes outside texts ended st old j mid told released run x b bs from r t h held read l there first all
          (λ y g. subst (λ (s : ScanState). IsHeld (moved_on 1 mid.kept) s y) (sym (plain x h).scanned ∙ held.scanned) (scans y g)) w)),
    )

pub begun-taken : (texts : List (ℕ × Text)) (whole n : ℕ) (old j c new : Content) (before middle after : List Event) (run : Run) (released : Bool) (units : List AnyUnit)
    → IsContent old → IsJudgedFrom old j → IsRun j visible.Chars run → whole ≤ length (rest_in old.kept texts)
    → list_all (is_data_there (around_of old)) (take 1 (rest_in old.kept texts)) ≡ true → 1 < n → n ≡ prefix_len (is_data_there in_text) (take whole (rest_in j.kept texts))
    → units ≡ characters (take n (rest_in j.kept texts)) → IsTaken j c 1 Data before middle released
    → ((x : Held) → Holds old x → IsHeld old.kept plain_state x) → ((x : Held) → Holds c x → IsHeld c.kept plain_state x) → around_of c ≡ in_text
    → new ≡ with_item (n - 1) (Some Data) c → after ≡ middle ++ data_told released units
    → TellsStretch texts (take whole (rest_in old.kept texts)) old new before after (Ok tt)
begun-taken texts whole n old j c new before middle after run released units was from r l first several count u t plain scans around e f =
    let mid = t.after_run in
    let told = t.run.0 in
    let rest = rest_in old.kept texts in
    let taken = taken-from j c 1 Data before middle released t in
    let front = front-all (is_data_there in_text) whole n rest l (count ∙ ap (λ (k : Kept). prefix_len (is_data_there in_text) (take whole (rest_in k texts))) from.kept) in
    let n_fits = front.0 in
    let parts = split-front n rest (omega (arith, several)) (omega (arith, n_fits, l)) in
    let b = parts.0 in
    let bs = parts.1 in
    let size = parts.3 in
    let units_are : units ≡ characters (b ∷ bs) = u ∙ (ap (λ (k : Kept). characters (take n (rest_in k texts))) from.kept ∙ ap characters parts.2) in
    let all = and_parts (is_data_there in_text b) (list_all (is_data_there in_text) bs) (ap (list_all (is_data_there in_text)) (sym parts.2) ∙ front.1) in
    let text : around_of mid ≡ in_text = sym (ap around_of t.kept) ∙ around in
    stretch-widens texts n whole old new before after (Ok tt) n_fits
    (subst (λ (xs : Text). TellsStretch texts xs old new before after (Ok tt)) (sym parts.2)
    (begun-row texts old j mid new told before after run b bs released was from r taken (omega (arith, n_fits, l, size))
    (first-data (is_data_there (around_of old)) b (take 1 rest) (first-one n rest b bs parts.2) first)
    (ap (λ a. list_all (is_data_there a) bs) text ∙ all.1) plain
    (subst (λ (z : Content). (y : Held) → Holds z y → IsHeld z.kept plain_state y) t.kept scans)
    t.puts_out
    (e ∙ (ap (with_item (n - 1) (Some Data)) t.kept ∙ (with-twice 1 (n - 1) (Some Data) mid data-once ∙ ap (λ k. with_item k (Some Data) mid) (one-more n (length (b ∷ bs)) several size))))
    (f ∙ (ap (λ us. middle ++ data_told released us) units_are
    ∙ (ap (λ es. es ++ data_told released (characters (b ∷ bs))) t.run.1 ∙ append_assoc before told (data_told released (characters (b ∷ bs))))))))
  where
    one-more : (n m : ℕ) → 1 < n → m ≡ n → 1 + (n - 1) ≡ m
    one-more n m l e = omega (arith, l, e)

-- WHAT IS KEPT behind the first
pub begun-content : (j c : Content) (before middle : List Event) (released : Bool) → IsContent j → IsTaken j c 1 Data before middle released → IsContent c
begun-content j c before middle released is t =
    subst IsContent (sym t.kept)
    (quiet-content 1 (Some Data) t.after_run
    (mid-content j t.after_run t.run.0 (Char 0) (Some Data) 1 is (taken-from j c 1 Data before middle released t) (character-text 0) (character-quiet 0)))

pub begun-left : (texts : List (ℕ × Text)) (n : ℕ) (j c : Content) (before middle : List Event) (released : Bool) → IsContent j → IsTaken j c 1 Data before middle released
    → n ≤ length (rest_in j.kept texts) → n - 1 ≤ length (rest_in c.kept texts)
begun-left texts n j c before middle released is t l =
    let e = ap (λ xs. length xs) (rest-moved 1 j.kept texts is.instance.document) in
    let d = length-drop 1 (rest_in j.kept texts) in
    let k : c.kept ≡ moved_on 1 j.kept = ap (λ (z : Content). z.kept) t.kept ∙ ap (moved_on 1) t.texts in
    subst (λ (z : Kept). n - 1 ≤ length (rest_in z texts)) (sym k) (omega (arith, l, e, d))

pub front-left : (p : ℕ → Bool) (whole n : ℕ) (rest : Text) → whole ≤ length rest → n ≡ prefix_len p (take whole rest) → n ≤ length rest
front-left p whole n rest l e = let within = (front-all p whole n rest l e).0 in omega (arith, within, l)
