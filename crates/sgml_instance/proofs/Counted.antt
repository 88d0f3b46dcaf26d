-- How many starts and instructions there are among events: as many as were read, and as many as are told.
use Rattle.std.proofs.Common.{◌≡◌, ℕ, ◌+◌, Bool, true, false, List, [], ◌∷◌, ◌++◌, length, refl, sym, ap, ◌∙◌, length-append}
use Rattle.sgml_text.specs.declared.unit.Unit.{Unit as AnyUnit}
use Rattle.sgml_text.specs.declared.unit.Unit.TheVariants as unit
use Rattle.sgml_dtd.specs.Doctypes.{Doctype}
use Rattle.sgml_events.specs.declared.event.Event.{Event as ToldEvent}
use Rattle.sgml_events.specs.declared.event.Event.TheVariants as event
use Rattle.sgml_content_tags.specs.said.Told.{said, said_data, all_said}
use Rattle.sgml_declared.specs.theory_reading.Pieces.{History}
use Rattle.sgml_declared.specs.theory_reading.Reads.{Forms, places_of}
use Rattle.sgml_declared.specs.theory_reading.Events.{Event, Started, Ended, Byte, SpecificData, External, Instruction, events, instructions}
use Rattle.sgml_declared.specs.theory_reading.Identifiers.{starts}
use Rattle.sgml_declared.proofs.theory_reading.Counted.{starts-have-places, instructions-have-places}
use Rattle.sgml_content_tags.specs.sgml_content_steps.Places.{Sort, OfStarts, OfInstructions, is_of, number_of, place_told, places_told}

pub have-places : (sort : Sort) (forms : Forms) (h : History) → number_of sort (events forms h) ≡ length (places_of (is_of sort) h)
have-places OfStarts forms h = starts-have-places forms h
have-places OfInstructions forms h = instructions-have-places forms h

-- OF TWO LISTS
starts-append : (xs ys : List Event) → starts (xs ++ ys) ≡ starts xs ++ starts ys
starts-append [] ys = refl
starts-append (Started n attributes ∷ xs) ys = ap (λ zs. attributes ∷ zs) (starts-append xs ys)
starts-append (Ended n ∷ xs) ys = starts-append xs ys
starts-append (Byte b ∷ xs) ys = starts-append xs ys
starts-append (SpecificData entity text ∷ xs) ys = starts-append xs ys
starts-append (External e ∷ xs) ys = starts-append xs ys
starts-append (Instruction text entity ∷ xs) ys = starts-append xs ys

instructions-append : (xs ys : List Event) → instructions (xs ++ ys) ≡ instructions xs ++ instructions ys
instructions-append [] ys = refl
instructions-append (Started n attributes ∷ xs) ys = instructions-append xs ys
instructions-append (Ended n ∷ xs) ys = instructions-append xs ys
instructions-append (Byte b ∷ xs) ys = instructions-append xs ys
instructions-append (SpecificData entity text ∷ xs) ys = instructions-append xs ys
instructions-append (External e ∷ xs) ys = instructions-append xs ys
instructions-append (Instruction text entity ∷ xs) ys = ap (λ zs. text ∷ zs) (instructions-append xs ys)

pub number-append : (sort : Sort) (xs ys : List Event) → number_of sort (xs ++ ys) ≡ number_of sort xs + number_of sort ys
number-append OfStarts xs ys = ap length (starts-append xs ys) ∙ length-append (starts xs) (starts ys)
number-append OfInstructions xs ys = ap length (instructions-append xs ys) ∙ length-append (instructions xs) (instructions ys)

abbrev pub one_if : Bool → ℕ
one_if true = 1
one_if false = 0

-- AND SO MANY ARE TOLD
units-none : (sort : Sort) (d : Doctype) (us : List AnyUnit) → number_of sort (said_data d us) ≡ 0
units-none OfStarts d [] = refl
units-none OfStarts d (unit.Byte b ∷ us) = units-none OfStarts d us
units-none OfStarts d (unit.Coded b ∷ us) = units-none OfStarts d us
units-none OfStarts d (unit.Sdata e ∷ us) = units-none OfStarts d us
units-none OfInstructions d [] = refl
units-none OfInstructions d (unit.Byte b ∷ us) = units-none OfInstructions d us
units-none OfInstructions d (unit.Coded b ∷ us) = units-none OfInstructions d us
units-none OfInstructions d (unit.Sdata e ∷ us) = units-none OfInstructions d us

pub said-number : (sort : Sort) (d : Doctype) (e : ToldEvent) → number_of sort (said d e) ≡ length (place_told sort e)
said-number OfStarts d (event.Start element place values) = refl
said-number OfStarts d (event.End element) = refl
said-number OfStarts d (event.Chars units) = units-none OfStarts d units
said-number OfStarts d (event.Pi text entity place) = refl
said-number OfStarts d (event.DataRef e) = refl
said-number OfInstructions d (event.Start element place values) = refl
said-number OfInstructions d (event.End element) = refl
said-number OfInstructions d (event.Chars units) = units-none OfInstructions d units
said-number OfInstructions d (event.Pi text entity place) = refl
said-number OfInstructions d (event.DataRef e) = refl

none-said : (sort : Sort) → number_of sort [] ≡ 0
none-said OfStarts = refl
none-said OfInstructions = refl

pub all-said-number : (sort : Sort) (d : Doctype) (es : List ToldEvent) → number_of sort (all_said d es) ≡ length (places_told sort es)
all-said-number sort d [] = none-said sort
all-said-number sort d (e ∷ es) =
    number-append sort (said d e) (all_said d es)
    ∙ ((λ i. said-number sort d e i + all-said-number sort d es i) ∙ sym (length-append (place_told sort e) (places_told sort es)))
