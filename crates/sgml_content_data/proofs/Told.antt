-- What pieces tell, and what the events say that are told for them.
use Rattle.std.specs.Prelude.{◌≡◌, ℕ, ◌&&◌, ◌||◌, not, cond, Bool, true, false, List, [], ◌∷◌, ◌++◌, map}
use Rattle.std.specs.List.{list_any}
use Rattle.std.proofs.Common.{refl, sym, ap, ◌∙◌, append_assoc, append-nil}
use Rattle.std.proofs.lemmas.List.Concat.{flat_map-append}
use Rattle.sgml_text.specs.declared.unit.Unit.{Unit as AnyUnit}
use Rattle.sgml_text.specs.Units.{characters}
use Rattle.sgml_inside.specs.records.Items.{RecordEnd, Data}
use Rattle.sgml_inside.specs.records.Facts.{Facts, takes_end, noted}
use Rattle.sgml_infer.specs.sgml_dtd.Doctypes.{Doctype}
use Rattle.sgml_events.specs.declared.event.Event.{Event}
use Rattle.sgml_events.specs.declared.event.Event.TheVariants as event
use Rattle.sgml_content_steps.specs.said.Told.{said, said_data, all_said}
use Rattle.sgml_infer.specs.theory_reading.Pieces.{Piece, Kind, Char, Re, Rs, Sep, Skipped}
use Rattle.sgml_infer.specs.theory_reading.Facets.{effect, items_of, is_start, shows_instruction}
use Rattle.sgml_infer.specs.theory_reading.State.{State, after_piece, first_noted}
use Rattle.sgml_infer.specs.theory_reading.Characters.{facts_in}
use Rattle.sgml_infer.specs.theory_reading.Reads.{pieces}
use Rattle.sgml_infer.specs.theory_reading.Events.{Event as Said, Byte, shown, releases_by, events_at, events_of_run}
use Rattle.sgml_prolog_steps.specs.theory_spelling.Sized.{sized}
use Rattle.sgml_prolog_steps.specs.theory_spelling.Spelled.{forms}
use Rattle.sgml_prolog_steps.specs.theory_standing.Held.{state_after_run}
use Rattle.sgml_content_steps.specs.Steps.{entity_of_kind, entities_of, entity_told, entities_told}
use Rattle.sgml_content_steps.specs.Places.{has_placed, placed_first}
use Rattle.sgml_content_data.specs.Taking.{put_out, data_told}
use Rattle.sgml_content_data.proofs.Flowing.{moves_of}

pub run-told : (s : State) (ps qs : List Piece) → events_of_run forms s (ps ++ qs) ≡ events_of_run forms s ps ++ events_of_run forms (state_after_run ps s) qs
run-told s [] qs = refl
run-told s (p ∷ ps) qs =
    ap (λ es. events_at forms s p ++ es) (run-told (after_piece p s) ps qs)
    ∙ sym (append_assoc (events_at forms s p) (events_of_run forms (after_piece p s) ps) (events_of_run forms (state_after_run ps (after_piece p s)) qs))

-- WHAT TELLS NOTHING, in whatever state, begins no element and is no instruction
pub record IsSilent (y : Kind) : Type 0 where
  pub tells : (s : State) (n : ℕ) → events_at forms s (sized n y) ≡ []
  pub entities : entity_of_kind y ≡ []
  pub unplaced : (is_start y || shows_instruction y) ≡ false

pub skipped-silent : (b : ℕ) → IsSilent (Skipped b)
unfolding shown items_of is_start shows_instruction
skipped-silent b = record { tells = λ s n. refl; entities = refl; unplaced = refl }

pub separator-silent : (b : ℕ) → IsSilent (Sep b)
unfolding shown items_of is_start shows_instruction
separator-silent b = record { tells = λ s n. refl; entities = refl; unplaced = refl }

pub start-silent : IsSilent Rs
unfolding shown items_of is_start shows_instruction
start-silent = record { tells = λ s n. refl; entities = refl; unplaced = refl }

pub silent-told : (f : ℕ → Kind) (bs : List ℕ) (s : State) → ((b : ℕ) → IsSilent (f b)) → events_of_run forms s (pieces (moves_of (map f bs))) ≡ []
silent-told f [] s q = refl
silent-told f (b ∷ bs) s q = λ i. (q b).tells s 1 i ++ silent-told f bs (after_piece (sized 1 (f b)) s) q i

pub no-entities : (f : ℕ → Kind) (bs : List ℕ) → ((b : ℕ) → entity_of_kind (f b) ≡ []) → entities_of (pieces (moves_of (map f bs))) ≡ []
no-entities f [] q = refl
no-entities f (b ∷ bs) q = λ i. q b i ++ no-entities f bs q i

-- where none of a row begins an element or is an instruction, none behind the first does or is
no-starts : (f : ℕ → Kind) (bs : List ℕ) → ((b : ℕ) → (is_start (f b) || shows_instruction (f b)) ≡ false) → list_any has_placed (moves_of (map f bs)) ≡ false
no-starts f [] q = refl
no-starts f (b ∷ bs) q = λ i. (q b i || false) || no-starts f bs q i

pub character-unplaced : (b : ℕ) → (is_start (Char b) || shows_instruction (Char b)) ≡ false
unfolding is_start shows_instruction
character-unplaced b = refl

pub first-starts : (f : ℕ → Kind) (b : ℕ) (bs : List ℕ) → ((b : ℕ) → (is_start (f b) || shows_instruction (f b)) ≡ false) → placed_first (moves_of (map f (b ∷ bs))) ≡ true
first-starts f b bs q = ap not (no-starts f bs q)

-- A RECORD END, whatever it was noted to be
abbrev pub put_out_at : Bool → List Said
put_out_at released = cond released (Byte 13 ∷ []) []

pub end-told : (s : State) (n : ℕ) (live : Bool) → events_at forms s (sized n (Re live)) ≡ put_out_at (releases_by (facts_in s.record_ends) RecordEnd)
unfolding shown items_of
end-told s n live =
    let es = put_out_at (releases_by (facts_in s.record_ends) RecordEnd) in append-nil (es ++ []) ∙ append-nil es

dead-puts-none : (live waiting : Bool) → live ≡ false → put_out_at (live && waiting) ≡ []
dead-puts-none live waiting e = ap (λ b. put_out_at (b && waiting)) e

pub dead-told : (s : State) (n : ℕ) → takes_end (facts_in s.record_ends) ≡ false → events_at forms s (sized n (Re false)) ≡ []
dead-told s n e = end-told s n false ∙ dead-puts-none (takes_end (facts_in s.record_ends)) (facts_in s.record_ends).waiting e

-- DATA
pub character-told : (s : State) (n b : ℕ) → events_at forms s (sized n (Char b)) ≡ put_out_at (facts_in s.record_ends).waiting ++ (Byte b ∷ [])
unfolding shown
character-told s n b = append-nil (put_out_at (facts_in s.record_ends).waiting ++ (Byte b ∷ []))

abbrev WaitsNone : State → Type 0
WaitsNone s = (facts_in s.record_ends).waiting ≡ false

none-after : (fs : List Facts) → (facts_in (first_noted (Data ∷ []) fs)).waiting ≡ false
unfolding noted
none-after [] = refl
none-after (f ∷ fs) = refl

none-waits : (s : State) (b : ℕ) → WaitsNone (after_piece (sized 1 (Char b)) s)
unfolding after_piece effect items_of
none-waits s b = none-after s.record_ends

abbrev pub bytes_said : List ℕ → List Said
bytes_said bs = map (λ b. Byte b) bs

bytes-told : (bs : List ℕ) (s : State) → WaitsNone s → events_of_run forms s (pieces (moves_of (map Char bs))) ≡ bytes_said bs
bytes-told [] s e = refl
bytes-told (b ∷ bs) s e =
    (λ i. (character-told s 1 b ∙ ap (λ w. put_out_at w ++ (Byte b ∷ [])) e) i ++ bytes-told bs (after_piece (sized 1 (Char b)) s) (none-waits s b) i)

-- a stretch puts the record end out that waits, and then tells its bytes
pub stretch-told : (b : ℕ) (bs : List ℕ) (s : State)
    → events_of_run forms s (pieces (moves_of (map Char (b ∷ bs)))) ≡ put_out_at (facts_in s.record_ends).waiting ++ bytes_said (b ∷ bs)
stretch-told b bs s =
    (λ i. character-told s 1 b i ++ bytes-told bs (after_piece (sized 1 (Char b)) s) (none-waits s b) i)
    ∙ append_assoc (put_out_at (facts_in s.record_ends).waiting) (Byte b ∷ []) (bytes_said bs)

-- WHAT EVENTS SAY
pub said-append : (d : Doctype) (es fs : List Event) → all_said d (es ++ fs) ≡ all_said d es ++ all_said d fs
said-append d es fs = flat_map-append (said d) es fs

pub entities-append : (es fs : List Event) → entities_told (es ++ fs) ≡ entities_told es ++ entities_told fs
entities-append es fs = flat_map-append entity_told es fs

pub pieces-append : (ps qs : List Piece) → entities_of (ps ++ qs) ≡ entities_of ps ++ entities_of qs
pieces-append ps qs = flat_map-append (λ (p : Piece). entity_of_kind p.kind) ps qs

pub said-put_out : (d : Doctype) (released : Bool) → all_said d (put_out released) ≡ put_out_at released
said-put_out d true = refl
said-put_out d false = refl

said-characters : (d : Doctype) (bs : List ℕ) → said_data d (characters bs) ≡ bytes_said bs
said-characters d [] = refl
said-characters d (b ∷ bs) = ap (λ es. Byte b ∷ es) (said-characters d bs)

pub said-data : (d : Doctype) (released : Bool) (bs : List ℕ) → all_said d (data_told released (characters bs)) ≡ put_out_at released ++ bytes_said bs
said-data d released bs =
    said-append d (put_out released) (event.Chars (characters bs) ∷ [])
    ∙ (λ i. said-put_out d released i ++ (append-nil (said_data d (characters bs)) ∙ said-characters d bs) i)

pub put_out-entities : (released : Bool) → entities_told (put_out released) ≡ []
put_out-entities true = refl
put_out-entities false = refl

pub data-entities : (released : Bool) (units : List AnyUnit) → entities_told (data_told released units) ≡ []
data-entities true units = refl
data-entities false units = refl
