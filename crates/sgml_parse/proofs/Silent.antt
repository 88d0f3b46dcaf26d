-- Of the prolog nothing is told but instructions.
use Rattle.std.proofs.Common.{◌≡◌, Bool, true, false, not, ◌&&◌, List, [], ◌∷◌, ◌++◌, Option, Some, ℕ, map, length, slice_get, refl, sym, ap, ◌∙◌, append-nil}
use Rattle.sgml_text.specs.declared.place.Place.{Place}
use Rattle.sgml_instance.specs.records.Items.{Item}
use Rattle.sgml_declared.specs.theory_reading.Names.{Text}
use Rattle.sgml_declared.specs.theory_reading.Pieces.{Piece, Kind, Sgml, Head, Declare, SubsetEnd, Sep, Ref, EntityEnd, SectionStart, SectionEnd, Skipped, Pi, Comment, History}
use Rattle.sgml_declared.specs.theory_reading.Facets.{items_of, shows_instruction}
use Rattle.sgml_declared.specs.theory_reading.Nest.{nest}
use Rattle.sgml_declared.specs.theory_reading.State.{State, state}
use Rattle.sgml_declared.specs.theory_reading.Reads.{after_moves, stop_place, with_place, instruction_places}
use Rattle.sgml_declared.specs.theory_reading.Unread.{Outside, opening}
use Rattle.sgml_declared.specs.theory_reading.Events.{Event, Instruction, shown, told, items_in, events, instructions}
use Rattle.sgml_declared.proofs.theory_reading.Counted.{instructions-have-places}
use Rattle.sgml_declared.specs.theory_spelling.Spelled.{forms}
use Rattle.sgml_declared.specs.theory_standing.Prologs.{is_of_prolog, is_in_prolog, alone}
use Rattle.sgml_prolog_steps.specs.Steps.{are_silent, is_instruction}

tells-nothing : (e : List Item) (s : State) (x : Kind) → is_of_prolog x ≡ true → is_instruction x ≡ false → told e (shown forms s x) ≡ []
unfolding shown items_of
tells-nothing e s (Sgml syntax) o i = refl
tells-nothing e s (Head head base) o i = refl
tells-nothing e s (Declare lexemes says base) o i = refl
tells-nothing e s (SubsetEnd reads) o i = refl
tells-nothing e s (Sep byte) o i = refl
tells-nothing e s (Ref entity) o i = refl
tells-nothing e s EntityEnd o i = refl
tells-nothing e s (SectionStart status) o i = refl
tells-nothing e s SectionEnd o i = refl
tells-nothing e s (Skipped byte) o i = refl
tells-nothing e s Comment o i = refl
tells-nothing e s (Pi text entity) o i = absurd (cc)
tells-nothing e s _ o i = absurd (cc)

tells-instruction : (e : List Item) (s : State) (text : Text) (entity : Option ℕ) → told e (shown forms s (Pi text entity)) ≡ Instruction text entity ∷ []
unfolding shown
tells-instruction e s text entity = refl

silent-piece : (h : History) (p : Piece) → is_of_prolog p.kind ≡ true → is_instruction p.kind ≡ false → events forms (p ∷ h) ≡ events forms h
unfolding events
silent-piece h p o i = ap (λ (es : List Event). events forms h ++ es) (tells-nothing (items_in (nest h)) (state h) p.kind o i) ∙ append-nil (events forms h)

pub instruction-piece : (h : History) (p : Piece) (text : Text) (entity : Option ℕ) → p.kind ≡ Pi text entity → events forms (p ∷ h) ≡ events forms h ++ (Instruction text entity ∷ [])
unfolding events
instruction-piece h p text entity e =
    ap (λ (x : Kind). events forms h ++ told (items_in (nest h)) (shown forms (state h) x)) e
    ∙ ap (λ (es : List Event). events forms h ++ es) (tells-instruction (items_in (nest h)) (state h) text entity)

-- it has its place, behind those that were told
at-length : (ps : List Place) (p : Place) → slice_get (ps ++ p ∷ []) (length ps) ≡ Some p
at-length [] p = refl
at-length (q ∷ ps) p = at-length ps p

last-place : (b : Bool) (p : Place) (ps : List Place) (n : ℕ) → b ≡ true → n ≡ length ps → slice_get (with_place b p ps) n ≡ Some p
last-place true p ps n b e = ap (slice_get (ps ++ p ∷ [])) e ∙ at-length ps p
last-place false p ps n b e = absurd (cc)

pub instruction-is-placed : (h : History) (p : Piece) (text : Text) (entity : Option ℕ) (place : Place) (told : List Event) → p.kind ≡ Pi text entity → place ≡ stop_place h → events forms h ≡ told
    → slice_get (instruction_places (p ∷ h)) (length (instructions told)) ≡ Some place
unfolding shows_instruction
instruction-is-placed h p text entity place told k e ev =
    last-place (shows_instruction p.kind) (stop_place h) (instruction_places h) (length (instructions told)) (ap shows_instruction k)
    (ap (λ (es : List Event). length (instructions es)) (sym ev) ∙ instructions-have-places forms h) ∙ ap Some (sym e)

-- BEFORE THE FIRST BYTE nothing was told
none-at-first : events forms [] ≡ []
unfolding events
none-at-first = refl

pub opening-tells : (outside : Outside) → events forms (opening outside) ≡ []
opening-tells outside = silent-piece [] (record { kind = Sgml outside.syntax; size = 0; spent = 0 }) refl refl ∙ none-at-first

-- SILENT PIECES of the prolog, one after another
and-left : (a b : Bool) → (a && b) ≡ true → a ≡ true
and-left true b e = refl
and-left false b e = absurd (cc)

and-right : (a b : Bool) → (a && b) ≡ true → b ≡ true
and-right true b e = e
and-right false b e = absurd (cc)

not-true : (a : Bool) → not a ≡ true → a ≡ false
not-true true e = absurd (cc)
not-true false e = refl

in-before : (h : History) (ps : List Piece) → is_in_prolog (after_moves h (map alone ps)) ≡ true → is_in_prolog h ≡ true
in-before h [] e = e
in-before h (p ∷ ps) e = and-right (is_of_prolog p.kind) (is_in_prolog h) (in-before (p ∷ h) ps e)

pub silent-moves : (h : History) (ps : List Piece) → are_silent ps ≡ true → is_in_prolog (after_moves h (map alone ps)) ≡ true → events forms (after_moves h (map alone ps)) ≡ events forms h
silent-moves h [] s o = refl
silent-moves h (p ∷ ps) s o =
    silent-moves (p ∷ h) ps (and-right (not (is_instruction p.kind)) (are_silent ps) s) o
    ∙ silent-piece h p (and-left (is_of_prolog p.kind) (is_in_prolog h) (in-before (p ∷ h) ps o)) (not-true (is_instruction p.kind) (and-left (not (is_instruction p.kind)) (are_silent ps) s))
