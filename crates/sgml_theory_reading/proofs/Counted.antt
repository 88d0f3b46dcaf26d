-- What was read has so many starts and so many instructions among its events as it has places of each.
use Rattle.std.proofs.Common.{◌≡◌, ℕ, ◌+◌, Bool, true, false, ◌&&◌, if◌then◌else◌, Option, Some, None, List, [], ◌∷◌, ◌++◌, map, length, refl, sym, ap, ◌∙◌, arith, length-append}
use Rattle.sgml_dtd.specs.text.declared.place.Place.{Place}
use Rattle.sgml_records.specs.Items.{Item, Data as DataItem, RecordEnd, RecordStart, Subelement, Markup}
use Rattle.sgml_records.specs.Facts.{releases, one_waits}
use Rattle.sgml_dtd.specs.entity.declared.kinds.Body.{Body}
use Rattle.sgml_dtd.specs.entity.declared.kinds.Body.TheVariants as body
use Rattle.sgml_dtd.specs.Doctypes.{Doctype}
use Rattle.sgml_theory_reading.specs.Names.{Text}
use Rattle.sgml_theory_reading.specs.Types.{body_of}
use Rattle.sgml_theory_reading.specs.Pieces.{Kind, Start, Data, ShortRef, Pi, Meaning, Ordinary, ToText, ToData, ToExternalData, ToInstruction, History}
use Rattle.sgml_theory_reading.specs.Facets.{byte_item, start_item, items_of, is_start, shows_instruction}
use Rattle.sgml_theory_reading.specs.Nest.{nest}
use Rattle.sgml_theory_reading.specs.State.{State, state}
use Rattle.sgml_theory_reading.specs.Reads.{Forms, with_place, stop_place, start_places, instruction_places}
use Rattle.sgml_theory_reading.specs.Events.{Event, Started, Ended, Byte, SpecificData, External, Instruction, Shown, shown_byte, shown_bytes, silent, ended_at_once, body_events, shown_data, shown_external, shown_instruction, shown_meaning, shown, told_item, with_item, told, items_in, events, instructions}
use Rattle.sgml_theory_reading.specs.Identifiers.{starts}

-- so much for each start, and so much for each instruction
abbrev weight : ℕ → ℕ → Event → ℕ
weight a c (Started n attributes) = a
weight a c (Instruction text entity) = c
weight a c _ = 0

abbrev counted : ℕ → ℕ → List Event → ℕ
counted a c [] = 0
counted a c (e ∷ es) = weight a c e + counted a c es

abbrev if_so : Bool → ℕ → ℕ
if_so true n = n
if_so false n = 0

abbrev piece_weight : ℕ → ℕ → Kind → ℕ
piece_weight a c x = if_so (is_start x) a + if_so (shows_instruction x) c

module _ (a c : ℕ) where
  -- OF TWO LISTS
  counted-append : (xs ys : List Event) → counted a c (xs ++ ys) ≡ counted a c xs + counted a c ys
  counted-append [] ys = omega arith
  counted-append (x ∷ xs) ys = let rest = counted-append xs ys in omega (arith, rest)

  -- OF WHAT PIECES SHOW
  abbrev count_shown : List Shown → ℕ
  count_shown [] = 0
  count_shown (s ∷ ss) = counted a c s.events + count_shown ss

  shown-append : (ss ts : List Shown) → count_shown (ss ++ ts) ≡ count_shown ss + count_shown ts
  shown-append [] ts = omega arith
  shown-append (s ∷ ss) ts = let rest = shown-append ss ts in omega (arith, rest)

  silent-none : (is : List Item) → count_shown (silent is) ≡ 0
  silent-none [] = refl
  silent-none (i ∷ is) = let rest = silent-none is in omega (arith, rest)

  byte-none : (b : ℕ) (i : Item) → counted a c (shown_byte b i).events ≡ 0
  byte-none b DataItem = refl
  byte-none b RecordEnd = refl
  byte-none b RecordStart = refl
  byte-none b Subelement = refl
  byte-none b Markup = refl

  bytes-none : (bs : List ℕ) → count_shown (shown_bytes bs) ≡ 0
  bytes-none [] = refl
  bytes-none (b ∷ bs) = let one = byte-none b (byte_item b) in let rest = bytes-none bs in omega (arith, one, rest)

  text-none : (bs : Text) → counted a c (map (λ b. Byte b) bs) ≡ 0
  text-none [] = refl
  text-none (b ∷ bs) = let rest = text-none bs in omega (arith, rest)

  body-none : (e : ℕ) (b : Option Body) → counted a c (body_events e b) ≡ 0
  body-none e (Some (body.Cdata text)) = text-none text
  body-none e (Some (body.Sdata text)) = refl
  body-none e _ = refl

  data-none : (d : Doctype) (e : ℕ) → count_shown (shown_data d e ∷ []) ≡ 0
  data-none d e = let none = body-none e (body_of d e) in omega (arith, none)

  behind : (is : List Item) (ts : List Shown) (n : ℕ) → count_shown ts ≡ n → count_shown (silent is ++ ts) ≡ n
  behind is ts n e = let sum = shown-append (silent is) ts in let none = silent-none is in omega (arith, sum, none, e)

  one-instruction : (text : Text) (entity : Option ℕ) → count_shown (shown_instruction text entity ∷ []) ≡ c
  one-instruction text entity = omega arith

  meaning-counted : (d : Doctype) (string : List ℕ) (m : Meaning) → count_shown (shown_meaning d string m) ≡ if_so (shows_instruction (ShortRef string m)) c
  unfolding shows_instruction
  meaning-counted d string (Ordinary true content) = bytes-none string
  meaning-counted d string (Ordinary false content) = refl
  meaning-counted d string (ToText e) = silent-none (start_item string)
  meaning-counted d string (ToData e) = behind (start_item string) (shown_data d e ∷ []) 0 (data-none d e)
  meaning-counted d string (ToExternalData e) = behind (start_item string) (shown_external e ∷ []) 0 refl
  meaning-counted d string (ToInstruction e text) = behind (start_item string) (shown_instruction text (Some e) ∷ []) c (one-instruction text (Some e))

  shown-counted : (forms : Forms) (s : State) (x : Kind) → count_shown (shown forms s x) ≡ piece_weight a c x
  unfolding shown items_of is_start shows_instruction
  shown-counted forms s (Start n specifications how proper true) = omega arith
  shown-counted forms s (Start n specifications how proper false) = omega arith
  shown-counted forms s (Data e) = data-none s.context.doctype e
  shown-counted forms s (Pi text entity) = omega arith
  shown-counted forms s (ShortRef string meaning) = let m = meaning-counted s.context.doctype string meaning in omega (arith, m)
  shown-counted forms s _ = refl

  -- a record end that waited is neither
  out-none : (b : Bool) → counted a c (if b then Byte 13 ∷ [] else []) ≡ 0
  out-none true = refl
  out-none false = refl

  item-none : (earlier : List Item) (item : Option Item) → counted a c (told_item earlier item) ≡ 0
  item-none earlier None = refl
  item-none earlier (Some item) = out-none (releases item earlier && one_waits earlier)

  told-counted : (earlier : List Item) (ss : List Shown) → counted a c (told earlier ss) ≡ count_shown ss
  told-counted earlier [] = refl
  told-counted earlier (s ∷ ss) =
      let front = counted-append (told_item earlier s.item ++ s.events) (told (with_item s.item earlier) ss) in
      let parts = counted-append (told_item earlier s.item) s.events in
      let none = item-none earlier s.item in
      let rest = told-counted (with_item s.item earlier) ss in
      omega (arith, front, parts, none, rest)

  -- OF WHAT WAS READ
  abbrev count_read : History → ℕ
  count_read [] = 0
  count_read (p ∷ h) = count_read h + piece_weight a c p.kind

  events-counted : (forms : Forms) (h : History) → counted a c (events forms h) ≡ count_read h
  unfolding events
  events-counted forms [] = refl
  events-counted forms (p ∷ h) =
      let sum = counted-append (events forms h) (told (items_in (nest h)) (shown forms (state h) p.kind)) in
      let before = events-counted forms h in
      let now = told-counted (items_in (nest h)) (shown forms (state h) p.kind) in
      let one = shown-counted forms (state h) p.kind in
      omega (arith, sum, before, now, one)

-- AND SO MANY PLACES
if-none : (b : Bool) → if_so b 0 ≡ 0
if-none true = refl
if-none false = refl

place-count : (b : Bool) (p : Place) (ps : List Place) → length (with_place b p ps) ≡ length ps + if_so b 1
place-count true p ps = length-append ps (p ∷ [])
place-count false p ps = omega arith

start-places-counted : (h : History) → length (start_places h) ≡ count_read 1 0 h
start-places-counted [] = refl
start-places-counted (p ∷ h) =
    let one = place-count (is_start p.kind) (stop_place h) (start_places h) in
    let before = start-places-counted h in
    let none = if-none (shows_instruction p.kind) in
    omega (arith, one, before, none)

instruction-places-counted : (h : History) → length (instruction_places h) ≡ count_read 0 1 h
instruction-places-counted [] = refl
instruction-places-counted (p ∷ h) =
    let one = place-count (shows_instruction p.kind) (stop_place h) (instruction_places h) in
    let before = instruction-places-counted h in
    let none = if-none (is_start p.kind) in
    omega (arith, one, before, none)

starts-counted : (es : List Event) → length (starts es) ≡ counted 1 0 es
starts-counted [] = refl
starts-counted (Started n attributes ∷ es) = let rest = starts-counted es in omega (arith, rest)
starts-counted (Ended n ∷ es) = let rest = starts-counted es in omega (arith, rest)
starts-counted (Byte b ∷ es) = let rest = starts-counted es in omega (arith, rest)
starts-counted (SpecificData entity text ∷ es) = let rest = starts-counted es in omega (arith, rest)
starts-counted (External e ∷ es) = let rest = starts-counted es in omega (arith, rest)
starts-counted (Instruction text entity ∷ es) = let rest = starts-counted es in omega (arith, rest)

instructions-counted : (es : List Event) → length (instructions es) ≡ counted 0 1 es
instructions-counted [] = refl
instructions-counted (Started n attributes ∷ es) = let rest = instructions-counted es in omega (arith, rest)
instructions-counted (Ended n ∷ es) = let rest = instructions-counted es in omega (arith, rest)
instructions-counted (Byte b ∷ es) = let rest = instructions-counted es in omega (arith, rest)
instructions-counted (SpecificData entity text ∷ es) = let rest = instructions-counted es in omega (arith, rest)
instructions-counted (External e ∷ es) = let rest = instructions-counted es in omega (arith, rest)
instructions-counted (Instruction text entity ∷ es) = let rest = instructions-counted es in omega (arith, rest)

pub starts-have-places : (forms : Forms) (h : History) → length (starts (events forms h)) ≡ length (start_places h)
starts-have-places forms h = starts-counted (events forms h) ∙ (events-counted 1 0 forms h ∙ sym (start-places-counted h))

pub instructions-have-places : (forms : Forms) (h : History) → length (instructions (events forms h)) ≡ length (instruction_places h)
instructions-have-places forms h = instructions-counted (events forms h) ∙ (events-counted 0 1 forms h ∙ sym (instruction-places-counted h))
