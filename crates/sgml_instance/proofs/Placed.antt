-- The places of the starts and instructions that are told are those that were read.
use Rattle.std.proofs.Common.{◌≡◌, ℕ, ◌+◌, Bool, true, false, not, ◌||◌, Option, Some, None, List, [], ◌∷◌, ◌++◌, length, replicate, slice_get, All, refl, sym, ap, ◌∙◌, subst, arith, append-nil, append_assoc, inl, inr, length-append}
use Rattle.std.specs.List.{list_any}
use Rattle.std.specs.Option.{option_or}
use Rattle.std.proofs.lemmas.List.{length-replicate, replicate-append-replicate}
use Rattle.std.proofs.lemmas.List.Concat.{flat_map-append}
use Rattle.std.proofs.lemmas.List.Elements.{All-head, All-tail}
use Rattle.sgml_text.specs.declared.place.Place.{Place}
use Rattle.sgml_entity.specs.Stack.{place_at, moved}
use Rattle.sgml_dtd.specs.Doctypes.{Doctype}
use Rattle.sgml_events.specs.declared.event.Event.{Event}
use Rattle.sgml_events.specs.declared.event.Event.TheVariants as event
use Rattle.sgml_content_tags.specs.said.Told.{said, all_said}
use Rattle.sgml_declared.specs.theory_reading.Names.{Name}
use Rattle.sgml_declared.specs.theory_reading.Pieces.{Piece, Kind, Finish, History}
use Rattle.sgml_declared.specs.theory_reading.Facets.{is_start, shows_instruction, is_finish, turn, declares, ExternalSubset, subset_named}
use Rattle.sgml_declared.specs.theory_reading.Nest.{types}
use Rattle.sgml_declared.specs.theory_reading.Context.{Context, context}
use Rattle.sgml_declared.specs.theory_reading.Omission.{omitted_end, omitted_start, MayStand}
use Rattle.sgml_declared.specs.theory_reading.Runs.{LongestRun, after_run}
use Rattle.sgml_declared.specs.theory_reading.Unread.{Input, unread, external_subset, sources}
use Rattle.sgml_declared.specs.theory_reading.Reads.{Move, moved_on, after_moves, Reads, ReadOn, spelled_next, ends_in_finish, top_place, stop_place, with_place, places_of}
use Rattle.sgml_declared.specs.theory_reading.Events.{events}
use Rattle.sgml_declared.specs.theory_reading.Events as reading
use Rattle.sgml_declared.specs.theory_spelling.Spelled.{forms}
use Rattle.sgml_declared.proofs.theory_standing.Parsing.{longest-of}
use Rattle.sgml_content_tags.specs.sgml_content_steps.Places.{Sort, OfStarts, OfInstructions, is_of, number_of, place_told, places_told, ArePlaced, IsPlaced, has_placed, placed_first}
use Rattle.sgml_content_tags.specs.sgml_content_steps.Steps.{IsAt}
use Rattle.sgml_instance.specs.Batches.{EachIsPlaced}
use Rattle.sgml_instance.proofs.Counted.{one_if, have-places, number-append, said-number, all-said-number}

-- TAGS THAT ARE LEFT OUT take nothing and declare nothing
add-none : (n : ℕ) → n + 0 ≡ n
add-none n = omega arith

moved-none : (ps : List Place) → moved 0 ps ≡ ps
moved-none [] = refl
moved-none (p ∷ ps) = λ i. place_at p.entity (add-none p.at i) ∷ ps

record IsAsBefore (new old : History) : Type 0 where
  unread_are : unread new ≡ unread old
  types_are : types new ≡ types old
  subsets_are : external_subset new ≡ external_subset old

end-as-before : (n : Name) (h : History) → IsAsBefore (omitted_end n ∷ h) h
unfolding unread turn types declares external_subset subset_named
end-as-before n h = record { unread_are = moved-none (unread h); types_are = refl; subsets_are = refl }

start-as-before : (n : Name) (h : History) → IsAsBefore (omitted_start n ∷ h) h
unfolding unread turn types declares external_subset subset_named
start-as-before n h = record { unread_are = moved-none (unread h); types_are = refl; subsets_are = refl }

one-as-before : (c : Context) (o : Piece) (x : Kind) (h : History) → MayStand c o x → IsAsBefore (o ∷ h) h
one-as-before c o x h (inl m) = subst (λ (p : Piece). IsAsBefore (p ∷ h) h) (sym m.1) (end-as-before m.0 h)
one-as-before c o x h (inr m) = subst (λ (p : Piece). IsAsBefore (p ∷ h) h) (sym m.1) (start-as-before m.0 h)

run-as-before : (h : History) (x : Kind) (os : List Piece) → LongestRun h x os → IsAsBefore (after_run h os) h
run-as-before h x [] r = record { unread_are = refl; types_are = refl; subsets_are = refl }
run-as-before h x (o ∷ os) r =
    let rest = run-as-before (o ∷ h) x os r.1 in
    let one = one-as-before (context h) o x h r.0 in
    record { unread_are = rest.unread_are ∙ one.unread_are; types_are = rest.types_are ∙ one.types_are; subsets_are = rest.subsets_are ∙ one.subsets_are }

-- THE DOCUMENT TYPE stays where the document ends
finish-declares : (x : Kind) (d : Doctype) → is_finish x ≡ true → declares x d ≡ d
unfolding is_finish declares
finish-declares Finish d e = refl
finish-declares _ d e = absurd (cc)

end-keeps-types : (I : Input) (h : History) (m : Move) → Reads forms I h m → ends_in_finish (moved_on h m) ≡ true → types (moved_on h m) ≡ types h
unfolding types
end-keeps-types I h m r e =
    let l = longest-of h (spelled_next forms I h) m r.moves in
    finish-declares m.visible.kind (types (after_run h m.omitted)) e ∙ (run-as-before h l.0 m.omitted l.1).types_are

-- and so does the external subset that was named
finish-names-none : (x : Kind) → is_finish x ≡ true → subset_named x ≡ None
unfolding is_finish subset_named
finish-names-none Finish e = refl
finish-names-none _ e = absurd (cc)

end-keeps-subset : (I : Input) (h : History) (m : Move) → Reads forms I h m → ends_in_finish (moved_on h m) ≡ true → external_subset (moved_on h m) ≡ external_subset h
unfolding external_subset
end-keeps-subset I h m r e =
    let l = longest-of h (spelled_next forms I h) m r.moves in
    ap (λ (o : Option ExternalSubset). option_or o (external_subset (after_run h m.omitted))) (finish-names-none m.visible.kind e)
    ∙ (run-as-before h l.0 m.omitted l.1).subsets_are

pub end-keeps-sources : (I : Input) (h : History) (m : Move) → Reads forms I h m → ends_in_finish (moved_on h m) ≡ true → sources (moved_on h m) ≡ sources h
end-keeps-sources I h m r e = λ i. record { doctype = end-keeps-types I h m r e i; subset = end-keeps-subset I h m r e i }

-- WHAT HAS A PLACE in a move has the one where it began
record PlacedThere (sort : Sort) (new old : History) : Type 0 where
  count : ℕ
  places : places_of (is_of sort) new ≡ places_of (is_of sort) old ++ replicate count (stop_place old)

placed-further : (ps qs rs : List Place) (p q : Place) (n m : ℕ) → qs ≡ ps ++ replicate n p → q ≡ p → rs ≡ qs ++ replicate m q → rs ≡ ps ++ replicate (n + m) p
placed-further ps qs rs p q n m e same f =
    f ∙ ((λ i. e i ++ replicate m (same i)) ∙ (append_assoc ps (replicate n p) (replicate m p) ∙ ap (λ zs. ps ++ zs) (replicate-append-replicate n m p)))

placed-once : (b : Bool) (p : Place) (ps : List Place) → with_place b p ps ≡ ps ++ replicate (one_if b) p
placed-once true p ps = refl
placed-once false p ps = sym (append-nil ps)

neither : (a b : Bool) → (a || b) ≡ false → (a ≡ false) × (b ≡ false)
neither true b e = absurd (cc)
neither false b e = (refl, e)

not-false : (b : Bool) → not b ≡ true → b ≡ false
not-false true e = absurd (cc)
not-false false e = refl

abbrev is_placed_piece : Piece → Bool
is_placed_piece p = is_start p.kind || shows_instruction p.kind

not-of : (sort : Sort) (p : Piece) → is_placed_piece p ≡ false → is_of sort p.kind ≡ false
not-of OfStarts p e = (neither (is_start p.kind) (shows_instruction p.kind) e).0
not-of OfInstructions p e = (neither (is_start p.kind) (shows_instruction p.kind) e).1

module _ (sort : Sort) where
  abbrev places_in : History → List Place
  places_in h = places_of (is_of sort) h

  piece-once : (p : Piece) (h : History) → PlacedThere sort (p ∷ h) h
  piece-once p h = record { count = one_if (is_of sort p.kind); places = placed-once (is_of sort p.kind) (stop_place h) (places_in h) }

  then-there : (new mid old : History) → unread mid ≡ unread old → PlacedThere sort mid old → PlacedThere sort new mid → PlacedThere sort new old
  then-there new mid old same s t = record {
    count = s.count + t.count;
    places = placed-further (places_in old) (places_in mid) (places_in new) (stop_place old) (stop_place mid) s.count t.count s.places (ap top_place same) t.places;
  }

  run-places : (h : History) (x : Kind) (os : List Piece) → LongestRun h x os → PlacedThere sort (after_run h os) h
  run-places h x [] r = record { count = 0; places = sym (append-nil (places_in h)) }
  run-places h x (o ∷ os) r = then-there (after_run (o ∷ h) os) (o ∷ h) h (one-as-before (context h) o x h r.0).unread_are (piece-once o h) (run-places (o ∷ h) x os r.1)

  move-places : (I : Input) (h : History) (m : Move) → Reads forms I h m → PlacedThere sort (moved_on h m) h
  move-places I h m r =
      let l = longest-of h (spelled_next forms I h) m r.moves in
      then-there (moved_on h m) (after_run h m.omitted) h (run-as-before h l.0 m.omitted l.1).unread_are (run-places h l.0 m.omitted l.1) (piece-once m.visible (after_run h m.omitted))

  -- and the moves after it have none
  none-in-run : (h : History) (os : List Piece) (p : Piece) → list_any is_placed_piece (os ++ p ∷ []) ≡ false → places_in (p ∷ after_run h os) ≡ places_in h
  none-in-run h [] p e = λ i. with_place (not-of sort p (neither (is_placed_piece p) false e).0 i) (stop_place h) (places_in h)
  none-in-run h (o ∷ os) p e =
      let n = neither (is_placed_piece o) (list_any is_placed_piece (os ++ p ∷ [])) e in
      none-in-run (o ∷ h) os p n.1 ∙ (λ i. with_place (not-of sort o n.0 i) (stop_place h) (places_in h))

  none-in-moves : (h : History) (ms : List Move) → list_any has_placed ms ≡ false → places_in (after_moves h ms) ≡ places_in h
  none-in-moves h [] e = refl
  none-in-moves h (m ∷ ms) e =
      let n = neither (has_placed m) (list_any has_placed ms) e in
      none-in-moves (moved_on h m) ms n.1 ∙ none-in-run h m.omitted m.visible n.0

  moves-places : (I : Input) (h : History) (ms : List Move) → ReadOn forms I h ms → placed_first ms ≡ true → PlacedThere sort (after_moves h ms) h
  moves-places I h [] r e = record { count = 0; places = sym (append-nil (places_in h)) }
  moves-places I h (m ∷ ms) r e =
      let s = move-places I h m r.0 in
      record { count = s.count; places = none-in-moves (moved_on h m) ms (not-false (list_any has_placed ms) e) ∙ s.places }

  -- WHAT IS TOLD of them has that place
  one-at : (place : Place) (e : Event) → IsAt place e → place_told sort e ≡ replicate (length (place_told sort e)) place
  one-at place e a = at-sort sort place e a
    where
      at-sort : (sort : Sort) (place : Place) (e : Event) → IsAt place e → place_told sort e ≡ replicate (length (place_told sort e)) place
      at-sort OfStarts place (event.Start element at values) a = λ i. a i ∷ []
      at-sort OfStarts place (event.End element) a = refl
      at-sort OfStarts place (event.Chars units) a = refl
      at-sort OfStarts place (event.Pi text entity at) a = refl
      at-sort OfStarts place (event.DataRef e) a = refl
      at-sort OfInstructions place (event.Start element at values) a = refl
      at-sort OfInstructions place (event.End element) a = refl
      at-sort OfInstructions place (event.Chars units) a = refl
      at-sort OfInstructions place (event.Pi text entity at) a = λ i. a i ∷ []
      at-sort OfInstructions place (event.DataRef e) a = refl

  places-at : (place : Place) (es : List Event) → All (IsAt place) es → places_told sort es ≡ replicate (length (places_told sort es)) place
  places-at place [] a = refl
  places-at place (e ∷ es) a =
      (λ i. one-at place e (All-head (IsAt place) e es a) i ++ places-at place es (All-tail (IsAt place) e es a) i)
      ∙ (replicate-append-replicate (length (place_told sort e)) (length (places_told sort es)) place
      ∙ ap (λ n. replicate n place) (sym (length-append (place_told sort e) (places_told sort es))))

  read-told : (h : History) (told : List reading.Event) → events forms h ≡ told → length (places_in h) ≡ number_of sort told
  read-told h told e = sym (have-places sort forms h) ∙ ap (λ zs. number_of sort zs) e

  told-there : (d : Doctype) (h new : History) (told : List reading.Event) (es : List Event) → events forms h ≡ told → PlacedThere sort new h → events forms new ≡ told ++ all_said d es
      → All (IsAt (stop_place h)) es → places_in new ≡ places_in h ++ places_told sort es
  told-there d h new told es was s all at =
      let before = read-told h told was in
      let now : length (places_in new) ≡ number_of sort told + length (places_told sort es) =
      sym (have-places sort forms new) ∙ (ap (λ zs. number_of sort zs) all ∙ (number-append sort told (all_said d es) ∙ ap (λ n. number_of sort told + n) (all-said-number sort d es))) in
      let sum : length (places_in new) ≡ length (places_in h) + s.count =
      ap length s.places ∙ (length-append (places_in h) (replicate s.count (stop_place h)) ∙ ap (λ n. length (places_in h) + n) (length-replicate s.count (stop_place h))) in
      let same : s.count ≡ length (places_told sort es) = omega (arith, before, now, sum) in
      s.places ∙ ap (λ zs. places_in h ++ zs) (ap (λ n. replicate n (stop_place h)) same ∙ sym (places-at (stop_place h) es at))

-- after those that wait
pub moves-are-placed : (d : Doctype) (I : Input) (h : History) (ms : List Move) (told : List reading.Event) (before es : List Event) → ArePlaced h told before → events forms h ≡ told ++ all_said d before
    → ReadOn forms I h ms → placed_first ms ≡ true → events forms (after_moves h ms) ≡ (told ++ all_said d before) ++ all_said d es → All (IsAt (stop_place h)) es
    → ArePlaced (after_moves h ms) told (before ++ es)
moves-are-placed d I h ms told before es a was r e all at sort =
    let there = told-there sort d h (after_moves h ms) (told ++ all_said d before) es was (moves-places sort I h ms r e) all at in
    let b = a sort in
    record {
      before = b.before;
      places = there ∙ ((λ i. b.places i ++ places_told sort es)
          ∙ (append_assoc b.before (places_told sort before) (places_told sort es) ∙ ap (λ zs. b.before ++ zs) (sym (flat_map-append (place_told sort) before es))));
      count = b.count;
    }

-- WHERE NOTHING WAITS all were told
pub none-wait : (h : History) (told : List reading.Event) → events forms h ≡ told → ArePlaced h told []
none-wait h told e sort = record { before = places_of (is_of sort) h; places = sym (append-nil (places_of (is_of sort) h)); count = read-told sort h told e }

-- THE FIRST THAT WAITS is told: it has the place of the first that was read and not told
pub rest-is-placed : (d : Doctype) (h : History) (told : List reading.Event) (e : Event) (es : List Event) → ArePlaced h told (e ∷ es) → ArePlaced h (told ++ said d e) es
rest-is-placed d h told e es a sort =
    let b = a sort in
    record {
      before = b.before ++ place_told sort e;
      places = b.places ∙ sym (append_assoc b.before (place_told sort e) (places_told sort es));
      count = length-append b.before (place_told sort e) ∙ ((λ i. b.count i + sym (said-number sort d e) i) ∙ sym (number-append sort told (said d e)));
    }

at-length : (xs : List Place) (y : Place) (ys : List Place) → slice_get (xs ++ (y ∷ ys)) (length xs) ≡ Some y
at-length [] y ys = refl
at-length (x ∷ xs) y ys = at-length xs y ys

pub first-is-placed : (h : History) (told : List reading.Event) (e : Event) (es : List Event) → ArePlaced h told (e ∷ es) → IsPlaced h told e
first-is-placed h told (event.Start element place values) es a =
    let b = a OfStarts in (λ i. slice_get (b.places i) (sym b.count i)) ∙ at-length b.before place (places_told OfStarts es)
first-is-placed h told (event.End element) es a = tt
first-is-placed h told (event.Chars units) es a = tt
first-is-placed h told (event.Pi text entity place) es a =
    let b = a OfInstructions in (λ i. slice_get (b.places i) (sym b.count i)) ∙ at-length b.before place (places_told OfInstructions es)
first-is-placed h told (event.DataRef e) es a = tt

-- EACH OF THEM in turn
pub each-is-placed : (d : Doctype) (h : History) (told : List reading.Event) (es : List Event) → ArePlaced h told es → EachIsPlaced h d told es
each-is-placed d h told [] a = tt
each-is-placed d h told (e ∷ es) a = (first-is-placed h told e es a, each-is-placed d h (told ++ said d e) es (rest-is-placed d h told e es a))
