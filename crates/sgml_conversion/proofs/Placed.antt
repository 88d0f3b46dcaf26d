-- The starts and instructions that were told have the places of those that were read.
use Rattle.std.proofs.Common.{◌≡◌, ◌⊎◌, inl, inr, ℕ, zero, suc, Bool, true, false, Some, None, List, [], ◌∷◌, ◌++◌, refl, sym, ap, ◌∙◌, subst, length, append_assoc, append-nil, ◌&&◌}
use Rattle.std.specs.List.{slice_get, list_all}
use Rattle.std.proofs.lemmas.Grind.{flat_map-append}
use Rattle.std.proofs.lemmas.List.{length-map}
use Rattle.sgml_text.specs.declared.place.Place.{Place}
use Rattle.sgml_text.specs.declared.unit.Unit.{Unit as AnyUnit}
use Rattle.sgml_text.specs.declared.unit.Unit.TheVariants as unit
use Rattle.sgml_dtd.specs.Doctypes.{Doctype}
use Rattle.sgml_events.specs.declared.event.Event.{Event}
use Rattle.sgml_events.specs.declared.event.Event.TheVariants as event
use Rattle.sgml_said.specs.Told.{said, said_data, all_said, definitions_at, attributes_with}
use Rattle.sgml_idents.specs.Noted.{Start, start_of, starts_of}
use Rattle.sgml_idents.specs.Judged.{place_at}
use Rattle.sgml_idents.proofs.Faults.{starts_are}
use Rattle.sgml_idents.proofs.Growing.{starts_more}
use Rattle.sgml_said.specs.theory_reading.Pieces.{Piece, Kind, History}
use Rattle.sgml_said.specs.theory_reading.Facets.{is_start, shows_instruction}
use Rattle.sgml_said.specs.theory_reading.Runs.{after_run}
use Rattle.sgml_said.specs.theory_reading.Reads.{Move, moved_on, after_moves, stop_place, with_place, places_of, start_places, instruction_places}
use Rattle.sgml_said.specs.theory_reading.Events.{Event as Said, Instruction, instructions}
use Rattle.sgml_said.specs.theory_reading.Identifiers.{starts}
use Rattle.sgml_source.specs.content_steps.Places.{OfInstructions, place_told, places_told, IsPlaced}
use Rattle.sgml_source.specs.parse.instance.Batches.{EachIsPlaced}
use Rattle.sgml_source.specs.parse.Parsing.{is_instruction}
use Rattle.sgml_conversion.specs.Showing.{StartsArePlaced, InstructionsArePlaced, ArePlaced}

-- THE PLACES of what was read stay where they are
slice-front : (xs ys : List Place) (n : ℕ) (p : Place) → slice_get xs n ≡ Some p → slice_get (xs ++ ys) n ≡ Some p
slice-front [] ys n p e = cc
slice-front (x ∷ xs) ys zero p e = e
slice-front (x ∷ xs) ys (suc n) p e = slice-front xs ys n p e

abbrev Grows : List Place → List Place → Type 0
Grows old new = (more : List Place) × (new ≡ old ++ more)

grows-then : (a b c : List Place) → Grows a b → Grows b c → Grows a c
grows-then a b c x y = (x.0 ++ y.0, y.1 ∙ ap (λ z. z ++ y.0) x.1 ∙ append_assoc a x.0 y.0)

grows-piece : (b : Bool) (p : Place) (ps : List Place) → Grows ps (with_place b p ps)
grows-piece true p ps = (p ∷ [], refl)
grows-piece false p ps = ([], sym (append-nil ps))

one-piece : (f : Kind → Bool) (h : History) (p : Piece) → Grows (places_of f h) (places_of f (p ∷ h))
one-piece f h p = grows-piece (f p.kind) (stop_place h) (places_of f h)

grows-run : (f : Kind → Bool) (h : History) (os : List Piece) → Grows (places_of f h) (places_of f (after_run h os))
grows-run f h [] = ([], sym (append-nil (places_of f h)))
grows-run f h (o ∷ os) = grows-then (places_of f h) (places_of f (o ∷ h)) (places_of f (after_run (o ∷ h) os)) (one-piece f h o) (grows-run f (o ∷ h) os)

grows-moves : (f : Kind → Bool) (h : History) (ms : List Move) → Grows (places_of f h) (places_of f (after_moves h ms))
grows-moves f h [] = ([], sym (append-nil (places_of f h)))
grows-moves f h (m ∷ ms) =
    let run = after_run h m.omitted in
    grows-then (places_of f h) (places_of f (moved_on h m)) (places_of f (after_moves (moved_on h m) ms))
    (grows-then (places_of f h) (places_of f run) (places_of f (moved_on h m)) (grows-run f h m.omitted) (one-piece f run m.visible))
    (grows-moves f (moved_on h m) ms)

still-there : (f : Kind → Bool) (h : History) (ms : List Move) (number : ℕ) (place : Place) → slice_get (places_of f h) number ≡ Some place → slice_get (places_of f (after_moves h ms)) number ≡ Some place
still-there f h ms number place e =
    let g = grows-moves f h ms in
    subst (λ (z : List Place). slice_get z number ≡ Some place) (sym g.1) (slice-front (places_of f h) g.0 number place e)

pub instructions-later : (h : History) (ms : List Move) (es : List Event) → InstructionsArePlaced h es → InstructionsArePlaced (after_moves h ms) es
instructions-later h ms es a = λ number place e. still-there shows_instruction h ms number place (a number place e)

pub placed-later : (h : History) (ms : List Move) (d : Doctype) (es : List Event) → ArePlaced h d es → ArePlaced (after_moves h ms) d es
placed-later h ms d es a = record {
  starts = λ number place e. still-there is_start h ms number place (a.starts number place e);
  instructions = instructions-later h ms es a.instructions;
}

-- ONE START MORE
is-later : (A : Type 0) (B : Type 0) (n m : ℕ) → A ⊎ ((n ≡ m) × B) → A ⊎ ((suc n ≡ suc m) × B)
is-later A B n m (inl a) = inl a
is-later A B n m (inr b) = inr (ap suc b.0, b.1)

some-is : (p q : Place) → Some p ≡ Some q → p ≡ q
some-is p q e = cc

place-last : (ss : List Start) (s : Start) (n : ℕ) (p : Place) → place_at (ss ++ s ∷ []) n ≡ Some p → (place_at ss n ≡ Some p) ⊎ ((n ≡ length ss) × (s.place ≡ p))
place-last [] s zero p e = inr (refl, some-is s.place p e)
place-last [] s (suc n) p e = cc
place-last (x ∷ xs) s zero p e = inl e
place-last (x ∷ xs) s (suc n) p e = is-later (place_at xs n ≡ Some p) (s.place ≡ p) n (length xs) (place-last xs s n p e)

-- as many starts as were told
count-starts : (d : Doctype) (es : List Event) → length (starts (all_said d es)) ≡ length (starts_of d es)
count-starts d es = ap length (starts_are d es) ∙ length-map (starts_of d es) (λ (s : Start). s.attributes)

start-placed : (h : History) (d : Doctype) (es : List Event) (s : Start) (n : ℕ) (p : Place) → slice_get (start_places h) (length (starts (all_said d es))) ≡ Some s.place → StartsArePlaced h d es
    → (place_at (starts_of d es) n ≡ Some p) ⊎ ((n ≡ length (starts_of d es)) × (s.place ≡ p)) → slice_get (start_places h) n ≡ Some p
start-placed h d es s n p i a (inl x) = a n p x
start-placed h d es s n p i a (inr x) =
    ap (slice_get (start_places h)) (x.0 ∙ sym (count-starts d es)) ∙ i ∙ ap Some x.1

no-start : (h : History) (d : Doctype) (es : List Event) (e : Event) → start_of d e ≡ [] → StartsArePlaced h d es → StartsArePlaced h d (es ++ e ∷ [])
no-start h d es e none a = λ n p x.
    a n p (subst (λ (z : List Start). place_at z n ≡ Some p) (starts_more d es e ∙ ap (λ z. starts_of d es ++ z) none ∙ append-nil (starts_of d es)) x)

one-more-start : (h : History) (d : Doctype) (es : List Event) (e : Event) → IsPlaced h (all_said d es) e → StartsArePlaced h d es → StartsArePlaced h d (es ++ e ∷ [])
one-more-start h d es (event.Start element place values) i a = λ n p x.
    let s : Start = record { place = place; attributes = attributes_with (definitions_at d element) values } in
    start-placed h d es s n p i a (place-last (starts_of d es) s n p (subst (λ (z : List Start). place_at z n ≡ Some p) (starts_more d es (event.Start element place values)) x))
one-more-start h d es (event.End element) i a = no-start h d es (event.End element) refl a
one-more-start h d es (event.Chars units) i a = no-start h d es (event.Chars units) refl a
one-more-start h d es (event.Pi text entity place) i a = no-start h d es (event.Pi text entity place) refl a
one-more-start h d es (event.DataRef e) i a = no-start h d es (event.DataRef e) refl a

-- ONE INSTRUCTION MORE
data-instructs : (d : Doctype) (us : List AnyUnit) (es : List Said) → instructions (said_data d us ++ es) ≡ instructions es
data-instructs d [] es = refl
data-instructs d (unit.Byte b ∷ us) es = data-instructs d us es
data-instructs d (unit.Coded b ∷ us) es = data-instructs d us es
data-instructs d (unit.Sdata e ∷ us) es = data-instructs d us es

pub count-instructions : (d : Doctype) (es : List Event) → length (instructions (all_said d es)) ≡ length (places_told OfInstructions es)
count-instructions d [] = refl
count-instructions d (event.Start element place values ∷ es) = count-instructions d es
count-instructions d (event.End element ∷ es) = count-instructions d es
count-instructions d (event.Chars us ∷ es) = ap length (data-instructs d us (all_said d es)) ∙ count-instructions d es
count-instructions d (event.Pi text entity place ∷ es) = ap suc (count-instructions d es)
count-instructions d (event.DataRef e ∷ es) = count-instructions d es

last-place : (ps : List Place) (q : Place) (n : ℕ) (p : Place) → slice_get (ps ++ q ∷ []) n ≡ Some p → (slice_get ps n ≡ Some p) ⊎ ((n ≡ length ps) × (q ≡ p))
last-place [] q zero p e = inr (refl, some-is q p e)
last-place [] q (suc n) p e = cc
last-place (x ∷ xs) q zero p e = inl e
last-place (x ∷ xs) q (suc n) p e = is-later (slice_get xs n ≡ Some p) (q ≡ p) n (length xs) (last-place xs q n p e)

instruction-placed : (h : History) (d : Doctype) (es : List Event) (q : Place) (n : ℕ) (p : Place) → slice_get (instruction_places h) (length (instructions (all_said d es))) ≡ Some q → InstructionsArePlaced h es
    → (slice_get (places_told OfInstructions es) n ≡ Some p) ⊎ ((n ≡ length (places_told OfInstructions es)) × (q ≡ p)) → slice_get (instruction_places h) n ≡ Some p
instruction-placed h d es q n p i a (inl x) = a n p x
instruction-placed h d es q n p i a (inr x) = ap (slice_get (instruction_places h)) (x.0 ∙ sym (count-instructions d es)) ∙ i ∙ ap Some x.1

no-instruction : (h : History) (es : List Event) (e : Event) → place_told OfInstructions e ≡ [] → InstructionsArePlaced h es → InstructionsArePlaced h (es ++ e ∷ [])
no-instruction h es e none a = λ n p x.
    a n p (subst (λ (z : List Place). slice_get z n ≡ Some p)
    (flat_map-append (place_told OfInstructions) es (e ∷ []) ∙ (ap (λ (z : List Place). places_told OfInstructions es ++ (z ++ [])) none ∙ append-nil (places_told OfInstructions es))) x)

pub one-more-instruction : (h : History) (d : Doctype) (es : List Event) (e : Event) → IsPlaced h (all_said d es) e → InstructionsArePlaced h es → InstructionsArePlaced h (es ++ e ∷ [])
one-more-instruction h d es (event.Pi text entity place) i a = λ n p x.
    instruction-placed h d es place n p i a
    (last-place (places_told OfInstructions es) place n p (subst (λ (z : List Place). slice_get z n ≡ Some p) (flat_map-append (place_told OfInstructions) es (event.Pi text entity place ∷ [])) x))
one-more-instruction h d es (event.Start element place values) i a = no-instruction h es (event.Start element place values) refl a
one-more-instruction h d es (event.End element) i a = no-instruction h es (event.End element) refl a
one-more-instruction h d es (event.Chars units) i a = no-instruction h es (event.Chars units) refl a
one-more-instruction h d es (event.DataRef e) i a = no-instruction h es (event.DataRef e) refl a

pub one-more-placed : (h : History) (d : Doctype) (es : List Event) (e : Event) → IsPlaced h (all_said d es) e → ArePlaced h d es → ArePlaced h d (es ++ e ∷ [])
one-more-placed h d es e i a = record { starts = one-more-start h d es e i a.starts; instructions = one-more-instruction h d es e i a.instructions }

-- MANY EVENTS
one-more-said : (d : Doctype) (es : List Event) (e : Event) → all_said d (es ++ e ∷ []) ≡ all_said d es ++ said d e
one-more-said d es e = flat_map-append (said d) es (e ∷ []) ∙ ap (λ z. all_said d es ++ z) (append-nil (said d e))

pub many-placed : (h : History) (d : Doctype) (es gained : List Event) → EachIsPlaced h d (all_said d es) gained → ArePlaced h d es → ArePlaced h d (es ++ gained)
many-placed h d es [] i a = subst (ArePlaced h d) (sym (append-nil es)) a
many-placed h d es (e ∷ gained) i a =
    subst (ArePlaced h d) (append_assoc es (e ∷ []) gained)
    (many-placed h d (es ++ e ∷ []) gained (subst (λ (z : List Said). EachIsPlaced h d z gained) (sym (one-more-said d es e)) i.1) (one-more-placed h d es e i.0 a))

-- INSTRUCTIONS say the same by each document type, and are no starts
never : {A : Type 0} (b : Bool) → (false && b) ≡ true → A
never b e = cc

pub said-alike : (c d : Doctype) (es : List Event) → list_all is_instruction es ≡ true → all_said c es ≡ all_said d es
said-alike c d [] i = refl
said-alike c d (event.Pi text entity place ∷ es) i = ap (λ (z : List Said). Instruction text entity ∷ z) (said-alike c d es i)
said-alike c d (event.Start element place values ∷ es) i = never (list_all is_instruction es) i
said-alike c d (event.End element ∷ es) i = never (list_all is_instruction es) i
said-alike c d (event.Chars units ∷ es) i = never (list_all is_instruction es) i
said-alike c d (event.DataRef e ∷ es) i = never (list_all is_instruction es) i

none-started : (d : Doctype) (es : List Event) → list_all is_instruction es ≡ true → starts_of d es ≡ []
none-started d [] i = refl
none-started d (event.Pi text entity place ∷ es) i = none-started d es i
none-started d (event.Start element place values ∷ es) i = never (list_all is_instruction es) i
none-started d (event.End element ∷ es) i = never (list_all is_instruction es) i
none-started d (event.Chars units ∷ es) i = never (list_all is_instruction es) i
none-started d (event.DataRef e ∷ es) i = never (list_all is_instruction es) i

none-some : {A : Type 0} (p : Place) → None ≡ Some p → A
none-some p e = cc

pub none-is-placed : (h : History) → InstructionsArePlaced h []
none-is-placed h = λ n p e. none-some p e

pub instructions-placed : (h : History) (d : Doctype) (es : List Event) → list_all is_instruction es ≡ true → InstructionsArePlaced h es → ArePlaced h d es
instructions-placed h d es i a = record {
  starts = λ n p e. none-some p (subst (λ (z : List Start). place_at z n ≡ Some p) (none-started d es i) e);
  instructions = a;
}
