-- The text of a full document is the spellings of its pieces.
use Rattle.std.proofs.Common.{◌≡◌, ℕ, ◌<◌, Bool, true, false, not, ◌&&◌, ◌||◌, ◌==◌, List, [], ◌∷◌, ◌++◌, map, Option, Some, None, refl, sym, ◌∙◌, ap, subst, append_assoc, append-nil, if◌then◌else◌, arith}
use Rattle.std.specs.Prelude.{decimal, codes, flat_map}
use Rattle.std.specs.List.{list_all}
use Rattle.std.proofs.lemmas.Bool.{eqb-true}
use Rattle.std.proofs.lemmas.Bool.Decides.{nat_tests}
use Rattle.sgml_theory_values.specs.text.Characters.{is_digit}
use Rattle.sgml_theory_values.specs.text.NameCharacters.{is_name_character}
use Rattle.sgml_theory_values.specs.syntax.declared.syntax.Syntax.{Syntax}
use Rattle.sgml_theory_values.specs.io.Records.{records, is_plain, EndsInRecord}
use Rattle.sgml_theory_values.specs.text.declared.unit.Unit.{Unit as AnyUnit}
use Rattle.sgml_theory_values.specs.text.declared.unit.Unit.TheVariants as unit
use Rattle.sgml_theory_values.specs.names.Naming.{general_name, entity_name}
use Rattle.sgml_theory_values.specs.entity.declared.kinds.Body.{Body}
use Rattle.sgml_theory_values.specs.entity.declared.kinds.Body.TheVariants as body
use Rattle.sgml_theory_values.specs.esis.Spelling.{spell_names}
use Rattle.sgml_theory_values.specs.attr.declared.value.AttrValue.{AttrValue}
use Rattle.sgml_theory_values.specs.attr.declared.value.AttrValue.TheVariants as value
use Rattle.sgml_theory_values.specs.dtd.Doctypes.{Doctype}
use Rattle.sgml_theory_values.specs.theory_reading.Names.{Name, Text}
use Rattle.sgml_theory_values.specs.theory_reading.Types.{name_of_entity}
use Rattle.sgml_theory_values.specs.theory_reading.Pieces.{Kind, Start, End, Char, Data, DataRef, Pi, Tag}
use Rattle.sgml_theory_values.specs.theory_reading.Reads.{Attribute}
use Rattle.sgml_theory_values.specs.theory_reading.Events.{Event as Said, Started, Ended, Byte, SpecificData, External, Instruction}
use Rattle.sgml_theory_values.specs.full.declared.inside.Inside.{Inside}
use Rattle.sgml_theory_values.specs.full.declared.inside.Inside.TheVariants as inside
use Rattle.sgml_theory_values.specs.full.Spelled.{has_map, is_itself, spelled_byte, spelled_unit, spelled_data, raw_byte, spaced, spelled_value, specification, specification_of, start_tag, end_tag, entity_reference, number_reference, is_paired, line_byte, instruction}
use Rattle.sgml_theory_values.specs.full.Full.{datum_in, ending, instruction_by, spelled_said, after_said, spelled_from, full_document}
use Rattle.sgml_theory_full.specs.Named.{AllAre, IsName, IsGeneralName, IsEntity, UnitIsWritten, IsToken, AttributeIsWritten, ValueIsWritten, InstructionIsWritten, IsWritten}
use Rattle.sgml_theory_values.specs.Full.{value_read}
use Rattle.sgml_theory_values.specs.Starts.{specifications}
use Rattle.sgml_theory_full.specs.Spellings.{Spelling, text_of, line_end, raw, datum_spellings, ending_spellings, reference, instruction_spellings, spellings_of, spellings}
use Rattle.sgml_theory_full.proofs.Plain.{true-false, both, and-true, if-false, all-append, all-of, OfNames, of-character, name-characters, small-number, other-is-low}
use Rattle.sgml_theory_full.proofs.Values.{named-tokens}
use Rattle.sgml_theory_full.proofs.Lined.{lined, lined_byte, is_line_byte, lined-then, plain-tests, records-then}

-- BYTES THAT END NO RECORD are as they stand
Plain : List ℕ → Type 0
Plain bytes = list_all is_plain bytes ≡ true

lined-append : (xs ys : List ℕ) → lined (xs ++ ys) ≡ lined xs ++ lined ys
lined-append [] ys = refl
lined-append (x ∷ xs) ys = ap (λ t. lined_byte x ++ t) (lined-append xs ys) ∙ sym (append_assoc (lined_byte x) (lined xs) (lined ys))

-- what such a text is, and that no carriage return stands in it
pub record IsLined (bytes text : List ℕ) : Type 0 where
  pub no_return : list_all is_line_byte bytes ≡ true
  pub is : lined bytes ≡ text

plain-line : (b : ℕ) → is_plain b ≡ true → is_line_byte b ≡ true
plain-line b h = (both (is_line_byte b) (not (b == 10)) h).0

plain-lined : (bytes : List ℕ) → list_all is_plain bytes ≡ true → IsLined bytes bytes
plain-lined [] h = record { no_return = refl; is = refl }
plain-lined (b ∷ bs) h =
    let q = both (is_plain b) (list_all is_plain bs) h in
    let t = plain-tests b q.0 in
    let more = plain-lined bs q.1 in record {
      no_return = and-true (is_line_byte b) (list_all is_line_byte bs) (plain-line b q.0) more.no_return;
      is = ap (λ t. (if t then 13 ∷ 10 ∷ [] else b ∷ []) ++ lined bs) t.1 ∙ ap (λ t. b ∷ t) more.is;
    }

both-lined : (xs ys a b : List ℕ) → IsLined xs a → IsLined ys b → IsLined (xs ++ ys) (a ++ b)
both-lined xs ys a b p q = record {
  no_return = all-append is_line_byte xs ys p.no_return q.no_return;
  is = lined-append xs ys ∙ ap (λ t. t ++ lined ys) p.is ∙ ap (λ t. a ++ t) q.is;
}

none-lined : IsLined [] []
none-lined = record { no_return = refl; is = refl }

feed-lined : IsLined (10 ∷ []) (13 ∷ 10 ∷ [])
feed-lined = record { no_return = refl; is = refl }

-- NAMES, NUMBERS AND VALUES
name-plain : OfNames is_plain
name-plain = record {
  letters = λ b h. grind (arith, nat_tests);
  digits = λ b h. grind (arith, nat_tests);
  minus = refl;
  stop = refl;
  low_line = refl;
  colon = refl;
}

general-plain : (s : Syntax) (fold : Name → Name) (name : Name) → list_all (is_name_character s.names) name ≡ true → list_all is_plain name ≡ true
general-plain s fold name = all-of (is_name_character s.names) is_plain (of-character is_plain name-plain s.names) name

digit-plain : (b : ℕ) → is_digit b ≡ true → is_plain b ≡ true
digit-plain b h = grind (arith, nat_tests)

reference-plain : (name : Name) → list_all is_plain name ≡ true → list_all is_plain (entity_reference name) ≡ true
reference-plain name h = all-append is_plain name (59 ∷ []) h refl

number-plain : (b : ℕ) → b < 128 → list_all is_plain (number_reference b) ≡ true
number-plain b lt = all-append is_plain (decimal b) (59 ∷ []) (all-of is_digit is_plain digit-plain (decimal b) (small-number b lt).digits) refl

-- no byte that stands for itself ends a record
not-feed : (b : ℕ) → is_itself false b ≡ true → is_plain b ≡ true
not-feed b h = grind (arith, nat_tests)

space-parts : (mapped : Bool) (n e : Bool) → (n || (e && not mapped)) ≡ true → (n || (e && true)) ≡ true
space-parts mapped true e h = refl
space-parts false false e h = h
space-parts true false true h = refl
space-parts true false false h = h

itself-plain : (mapped : Bool) (b : ℕ) → is_itself mapped b ≡ true → is_plain b ≡ true
itself-plain mapped b h = not-feed b (space-parts mapped _ (b == 32) h)

byte-plain : (mapped : Bool) (b : ℕ) (t : Bool) → is_itself mapped b ≡ t → list_all is_plain (if t then b ∷ [] else number_reference b) ≡ true
byte-plain mapped b true e = and-true (is_plain b) true (itself-plain mapped b e) refl
byte-plain mapped b false e = number-plain b (other-is-low mapped b e)

spelled-plain : (mapped : Bool) (b : ℕ) → list_all is_plain (spelled_byte mapped b) ≡ true
spelled-plain mapped b = byte-plain mapped b (is_itself mapped b) refl

token-plain : (s : Syntax) (token : Text) → IsToken s token → list_all is_plain token ≡ true
token-plain s token h = all-of (is_name_character s.names) is_plain (of-character is_plain name-plain s.names) token h

name-is-plain : (s : Syntax) (fold : Name → Name) (name : Name) → IsName s fold name → list_all is_plain name ≡ true
name-is-plain s fold name n = token-plain s name (name-characters s.names name n.is_name)

unit-plain : (d : Doctype) (u : AnyUnit) → UnitIsWritten d u → list_all is_plain (spelled_unit d u) ≡ true
unit-plain d (unit.Byte b) w = spelled-plain (has_map d) b
unit-plain d (unit.Coded b) w = spelled-plain (has_map d) b
unit-plain d (unit.Sdata e) w = reference-plain (name_of_entity d e) (name-is-plain d.syntax (entity_name d.syntax) (name_of_entity d e) w.1.name)

units-plain : (d : Doctype) (us : List AnyUnit) → AllAre (UnitIsWritten d) us → list_all is_plain (spelled_data d us) ≡ true
units-plain d [] w = refl
units-plain d (u ∷ us) w = all-append is_plain (spelled_unit d u) (spelled_data d us) (unit-plain d u w.0) (units-plain d us w.1)

names-plain : (s : Syntax) (ts : List Text) → AllAre (IsToken s) ts → list_all is_plain (spell_names ts) ≡ true
names-plain s [] h = refl
names-plain s (t ∷ ts) h = all-append is_plain (32 ∷ t) (spell_names ts) (token-plain s t h.0) (names-plain s ts h.1)

spaced-plain : (s : Syntax) (ts : List Text) → AllAre (IsToken s) ts → list_all is_plain (spaced ts) ≡ true
spaced-plain s [] h = refl
spaced-plain s (t ∷ ts) h = all-append is_plain t (spell_names ts) (token-plain s t h.0) (names-plain s ts h.1)

value-plain : (d : Doctype) (v : AttrValue) → ValueIsWritten d v → list_all is_plain (spelled_value d v) ≡ true
value-plain d value.Implied w = refl
value-plain d (value.Cdata us) w = units-plain d us w
value-plain d (value.Notation n) w = token-plain d.syntax n w
value-plain d (value.Entities es) w = spaced-plain d.syntax (map (name_of_entity d) es) (named-tokens d es w)
value-plain d (value.Tokens ts) w = spaced-plain d.syntax ts w

literal-plain : (n text : Text) → list_all is_plain n ≡ true → list_all is_plain text ≡ true → list_all is_plain (32 ∷ n ++ (codes "=\"" ++ (text ++ 34 ∷ []))) ≡ true
literal-plain n text h k = all-append is_plain n (61 ∷ 34 ∷ (text ++ 34 ∷ [])) h (all-append is_plain text (34 ∷ []) k refl)

specification-plain : (d : Doctype) (n : Name) (v : AttrValue) → IsGeneralName d.syntax n → ValueIsWritten d v → list_all is_plain (specification d n v) ≡ true
specification-plain d n value.Implied k w = refl
specification-plain d n (value.Cdata us) k w = literal-plain n (spelled_value d (value.Cdata us)) (name-is-plain d.syntax (general_name d.syntax) n k) (value-plain d (value.Cdata us) w)
specification-plain d n (value.Notation m) k w = literal-plain n (spelled_value d (value.Notation m)) (name-is-plain d.syntax (general_name d.syntax) n k) (value-plain d (value.Notation m) w)
specification-plain d n (value.Entities es) k w = literal-plain n (spelled_value d (value.Entities es)) (name-is-plain d.syntax (general_name d.syntax) n k) (value-plain d (value.Entities es) w)
specification-plain d n (value.Tokens ts) k w = literal-plain n (spelled_value d (value.Tokens ts)) (name-is-plain d.syntax (general_name d.syntax) n k) (value-plain d (value.Tokens ts) w)

specifications-plain : (d : Doctype) (as' : List Attribute) → AllAre (AttributeIsWritten d) as' → list_all is_plain (flat_map (specification_of d) as') ≡ true
specifications-plain d [] h = refl
specifications-plain d (a ∷ as') h =
    all-append is_plain (specification_of d a) (flat_map (specification_of d) as') (specification-plain d a.attribute a.value h.0.name h.0.value) (specifications-plain d as' h.1)

start-plain : (d : Doctype) (name : Name) (as' : List Attribute) → IsGeneralName d.syntax name → AllAre (AttributeIsWritten d) as' → list_all is_plain (start_tag d name as') ≡ true
start-plain d name as' n h =
    all-append is_plain (60 ∷ name) (flat_map (specification_of d) as' ++ 62 ∷ []) (name-is-plain d.syntax (general_name d.syntax) name n)
    (all-append is_plain (flat_map (specification_of d) as') (62 ∷ []) (specifications-plain d as' h) refl)

end-plain : (d : Doctype) (name : Name) → IsGeneralName d.syntax name → list_all is_plain (end_tag name) ≡ true
end-plain d name n = all-append is_plain (60 ∷ 47 ∷ name) (62 ∷ []) (name-is-plain d.syntax (general_name d.syntax) name n) refl

-- AN EVENT: its bytes, as records, are the texts of its pieces
abbrev Lines : List ℕ → List Spelling → Type 0
Lines bytes xs = IsLined bytes (text_of xs)

one-plain : (kind : Kind) (bytes : List ℕ) → list_all is_plain bytes ≡ true → Lines bytes (record { kind = kind; text = bytes } ∷ [])
one-plain kind bytes h = subst (IsLined bytes) (sym (append-nil bytes)) (plain-lined bytes h)

text-append : (xs ys : List Spelling) → text_of (xs ++ ys) ≡ text_of xs ++ text_of ys
text-append [] ys = refl
text-append (x ∷ xs) ys = ap (λ t. x.text ++ t) (text-append xs ys) ∙ sym (append_assoc x.text (text_of xs) (text_of ys))

then-lines : (a b : List ℕ) (xs ys : List Spelling) → Lines a xs → Lines b ys → Lines (a ++ b) (xs ++ ys)
then-lines a b xs ys p q = subst (IsLined (a ++ b)) (sym (text-append xs ys)) (both-lined a b (text_of xs) (text_of ys) p q)

feed-lines : Lines (10 ∷ []) line_end
feed-lines = feed-lined

raw-by : (b : ℕ) (r l : Bool) → (b == 13) ≡ r → (b == 10) ≡ l → Lines (raw_byte b ∷ []) (raw b)
raw-by b true l p q = rw p feed-lines
raw-by b false true p q = rw (p, q) (subst (λ x. IsLined (x ∷ []) (13 ∷ 10 ∷ [])) (sym (eqb-true b 10 q)) feed-lined)
raw-by b false false p q = rw (p, q) (plain-lined (b ∷ []) (rw (p, q) refl))

raw-lines : (b : ℕ) → Lines (raw_byte b ∷ []) (raw b)
raw-lines b = raw-by b (b == 13) (b == 10) refl refl

datum-lines : (i : Inside) (plain referred : List ℕ) (xs ys : List Spelling) → Lines plain xs → Lines referred ys → Lines (datum_in i plain referred) (datum_spellings i xs ys)
datum-lines inside.Characters plain referred xs ys p q = then-lines (10 ∷ []) plain line_end xs feed-lines p
datum-lines inside.Lines plain referred xs ys p q = p
datum-lines inside.Mixed plain referred xs ys p q = q
datum-lines inside.Nothing plain referred xs ys p q = q

ending-lines : (d : Doctype) (i : Inside) (name : Name) → IsGeneralName d.syntax name → Lines (ending i name) (ending_spellings i name)
ending-lines d inside.Nothing name n = none-lined
ending-lines d inside.Lines name n = then-lines (10 ∷ []) (end_tag name) line_end (record { kind = End name Tag; text = end_tag name } ∷ []) feed-lines (one-plain (End name Tag) (end_tag name) (end-plain d name n))
ending-lines d inside.Mixed name n = one-plain (End name Tag) (end_tag name) (end-plain d name n)
ending-lines d inside.Characters name n = one-plain (End name Tag) (end_tag name) (end-plain d name n)

reference-lines : (d : Doctype) (kind : Kind) (e : ℕ) (b : Body) → IsEntity d e b → Lines (entity_reference (name_of_entity d e)) (reference d kind e)
reference-lines d kind e b h =
    one-plain kind (entity_reference (name_of_entity d e)) (reference-plain (name_of_entity d e) (name-is-plain d.syntax (entity_name d.syntax) (name_of_entity d e) h.name))

-- an instruction whose record ends are pairs
end-then-start : (c : ℕ) (cs : List ℕ) → is_paired true (c ∷ cs) ≡ true → (c ≡ 10) × (is_paired false cs ≡ true)
end-then-start c cs h =
    let q = both ((c == 10) || false) (is_paired (c == 13) cs) h in
    let feed : (c == 10) ≡ true = or-none (c == 10) q.0 in
    let is = eqb-true c 10 feed in
    (is, subst (λ x. is_paired (x == 13) cs ≡ true) is q.1)
  where
    or-none : (t : Bool) → (t || false) ≡ true → t ≡ true
    or-none true h = refl
    or-none false h = h

not-true : (t : Bool) → not t ≡ true → t ≡ false
not-true true h = true-false (sym h)
not-true false h = refl

plain-next : (b : ℕ) (bs : List ℕ) → (b == 13) ≡ false → (b == 10) ≡ false → IsLined (flat_map line_byte bs) bs → IsLined (flat_map line_byte (b ∷ bs)) (b ∷ bs)
plain-next b bs r n more =
    let one : IsLined (b ∷ []) (b ∷ []) = plain-lined (b ∷ []) (rw (r, n) refl) in
    subst (λ x. IsLined (x ++ flat_map line_byte bs) (b ∷ bs)) (sym (if-false (b == 13) [] (b ∷ []) r)) (both-lined (b ∷ []) (flat_map line_byte bs) (b ∷ []) bs one more)

end-next : (b c : ℕ) (cs : List ℕ) → (b == 13) ≡ true → c ≡ 10 → IsLined (flat_map line_byte cs) cs → IsLined (flat_map line_byte (b ∷ c ∷ cs)) (b ∷ c ∷ cs)
end-next b c cs r is more =
    let whole : IsLined (10 ∷ flat_map line_byte cs) (13 ∷ 10 ∷ cs) = both-lined (10 ∷ []) (flat_map line_byte cs) (13 ∷ 10 ∷ []) cs feed-lined more in
    subst (λ x. IsLined (flat_map line_byte (x ∷ c ∷ cs)) (x ∷ c ∷ cs)) (sym (eqb-true b 13 r))
    (subst (λ y. IsLined (flat_map line_byte (13 ∷ y ∷ cs)) (13 ∷ y ∷ cs)) (sym is) whole)

paired-lines : (text : List ℕ) → is_paired false text ≡ true → IsLined (flat_map line_byte text) text
paired-lines [] h = none-lined
paired-lines (b ∷ []) h =
    let q = both (not (b == 10)) (is_paired (b == 13) []) h in
    plain-next b [] (not-true (b == 13) q.1) (not-true (b == 10) q.0) none-lined
paired-lines (b ∷ c ∷ cs) h = by-end (b == 13) refl
    (λ e. paired-lines cs (end-then-start c cs (subst (λ t. is_paired t (c ∷ cs) ≡ true) e q.1)).1)
    (λ e. paired-lines (c ∷ cs) (subst (λ t. is_paired t (c ∷ cs) ≡ true) e q.1))
  where
    q : (not (b == 10) ≡ true) × (is_paired (b == 13) (c ∷ cs) ≡ true)
    q = both (not (b == 10)) (is_paired (b == 13) (c ∷ cs)) h

    by-end : (t : Bool) → (b == 13) ≡ t → ((b == 13) ≡ true → IsLined (flat_map line_byte cs) cs) → ((b == 13) ≡ false → IsLined (flat_map line_byte (c ∷ cs)) (c ∷ cs))
        → IsLined (flat_map line_byte (b ∷ c ∷ cs)) (b ∷ c ∷ cs)
    by-end true e ends goes = end-next b c cs e (end-then-start c cs (subst (λ t. is_paired t (c ∷ cs) ≡ true) e q.1)).0 (ends e)
    by-end false e ends goes = plain-next b (c ∷ cs) e (not-true (b == 10) q.0) (goes e)

instruction-lines : (d : Doctype) (text : Text) (entity : Option ℕ) → InstructionIsWritten d text entity → Lines (instruction_by d text entity) (instruction_spellings d text entity)
instruction-lines d text None w =
    subst (IsLined (instruction text)) (sym (append-nil (codes "<?" ++ (text ++ 62 ∷ []))))
    (both-lined (60 ∷ 63 ∷ flat_map line_byte text) (62 ∷ []) (60 ∷ 63 ∷ text) (62 ∷ [])
    (both-lined (60 ∷ 63 ∷ []) (flat_map line_byte text) (60 ∷ 63 ∷ []) text (plain-lined (60 ∷ 63 ∷ []) refl) (paired-lines text w.paired))
    (plain-lined (62 ∷ []) refl))
instruction-lines d text (Some e) w = reference-lines d (Pi text (Some e)) e (body.Pi text) w.0

event-lines : (d : Doctype) (i : Inside) (e : Said) → IsWritten d e → Lines (spelled_said d i e) (spellings_of d i e)
event-lines d i (Started name as') w = one-plain (Start name (specifications (value_read d) as') Tag true false) (start_tag d name as') (start-plain d name as' w.0 w.1)
event-lines d i (Ended name) w = ending-lines d i name w
event-lines d i (Byte b) w =
    datum-lines i (raw_byte b ∷ []) (spelled_byte (has_map d) b) (raw b) (record { kind = Char b; text = spelled_byte (has_map d) b } ∷ []) (raw-lines b) (one-plain (Char b) (spelled_byte (has_map d) b) (spelled-plain (has_map d) b))
event-lines d i (SpecificData e text) w =
    let l = reference-lines d (Data e) e (body.Sdata text) w in
    datum-lines i (entity_reference (name_of_entity d e)) (entity_reference (name_of_entity d e)) (reference d (Data e) e) (reference d (Data e) e) l l
event-lines d i (External e) w = reference-lines d (DataRef e) e w.b w.is
event-lines d i (Instruction text entity) w = instruction-lines d text entity w

events-lines : (d : Doctype) (i : Inside) (es : List Said) → AllAre (IsWritten d) es → Lines (spelled_from d i es) (spellings d i es)
events-lines d i [] w = none-lined
events-lines d i (e ∷ es) w =
    then-lines (spelled_said d i e) (spelled_from d (after_said d i e) es) (spellings_of d i e) (spellings d (after_said d i e) es) (event-lines d i e w.0) (events-lines d (after_said d i e) es w.1)

-- THE WHOLE
pub full-document-is-spellings : (prolog : List ℕ) (d : Doctype) (es : List Said) → EndsInRecord prolog → AllAre (IsWritten d) es
    → records (full_document prolog d es) ≡ records prolog ++ (text_of (spellings d inside.Mixed es) ++ 13 ∷ [])
full-document-is-spellings prolog d es ends w =
    let bytes = spelled_from d inside.Mixed es in
    let l = events-lines d inside.Mixed es w in
    ap (λ t. records (t ++ (bytes ++ 10 ∷ []))) ends.is
    ∙ ap records (append_assoc ends.front (ends.last ∷ []) (bytes ++ 10 ∷ []))
    ∙ records-then ends.front ends.last (bytes ++ 10 ∷ []) ends.plain true false
    ∙ ap (λ t. records (ends.front ++ ends.last ∷ []) ++ t) (lined-then bytes 10 [] l.no_return ∙ ap (λ t. t ++ 13 ∷ []) l.is)
    ∙ ap (λ t. records t ++ (text_of (spellings d inside.Mixed es) ++ 13 ∷ [])) (sym ends.is)
