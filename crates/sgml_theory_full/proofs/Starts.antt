-- Start-tags and end-tags.
use Rattle.std.proofs.Common.{◌≡◌, ℕ, suc, ◌+◌, ◌-◌, Bool, true, false, not, ◌==◌, List, [], ◌∷◌, ◌++◌, map, Some, None, Ok, length, get_or, refl, sym, ◌∙◌, ap, subst, append_assoc, append-nil, if◌then◌else◌, eq-eqb, arith}
use Rattle.std.specs.Prelude.{flat_map}
use Rattle.std.specs.List.{list_all}
use Rattle.std.proofs.lemmas.List.{length-map}
use Rattle.sgml_theory_values.specs.text.declared.place.Place.{Place}
use Rattle.sgml_theory_values.specs.text.Characters.{is_sgml_character}
use Rattle.sgml_theory_values.specs.text.declared.unit.Unit.{Unit as AnyUnit}
use Rattle.sgml_theory_values.specs.names.Naming.{general_name}
use Rattle.sgml_theory_values.specs.entity.Stack.{Stack, place_at}
use Rattle.sgml_theory_values.specs.delim.declared.delim.Mode.{Mode}
use Rattle.sgml_theory_values.specs.delim.declared.delim.Mode.TheVariants as mode
use Rattle.sgml_theory_values.specs.attr.declared.definition.Definition.{Definition}
use Rattle.sgml_theory_values.specs.attr.declared.value.AttrValue.{AttrValue}
use Rattle.sgml_theory_values.specs.attr.declared.value.AttrValue.TheVariants as value
use Rattle.sgml_theory_values.specs.markup.declared.kinds.TokenKind.TheVariants as kind
use Rattle.sgml_theory_values.specs.markup.References.{has_wrong_number, has_wrong_length}
use Rattle.sgml_theory_values.specs.markup.Tags.{bytes_of}
use Rattle.sgml_theory_values.specs.markup.TagForm.{places}
use Rattle.sgml_theory_values.specs.markup.Forms.{last_byte}
use Rattle.sgml_theory_values.specs.decl_parts.declared.ends.Construct.TheVariants.{Literal}
use Rattle.sgml_theory_values.specs.decl_parts.Ends.{quote_end}
use Rattle.sgml_theory_values.specs.delim.Ends.{later}
use Rattle.sgml_theory_values.specs.decl_lexemes.declared.lexeme.Lexeme.TheVariants.{Value}
use Rattle.sgml_theory_values.specs.decl_lexemes.Sources.{Source, unread}
use Rattle.sgml_theory_values.specs.decl_lexemes.Alike.{AreAlike}
use Rattle.sgml_theory_values.specs.dtd.Doctypes.{Doctype}
use Rattle.sgml_theory_values.specs.theory_reading.Names.{Name, Text}
use Rattle.sgml_theory_values.specs.theory_reading.Types.{attributes}
use Rattle.sgml_theory_values.specs.theory_reading.Pieces.{Start, End, Tag, Specification}
use Rattle.sgml_theory_values.specs.theory_reading.Unread.{Outside, Rest}
use Rattle.sgml_theory_values.specs.theory_reading.Reads.{Attribute}
use Rattle.sgml_theory_values.specs.theory_reading.Characters.{kind_noted}
use Rattle.sgml_theory_values.specs.theory_spelling.Stacked.{Stacked}
use Rattle.sgml_theory_values.specs.theory_spelling.Sized.{sized, sized_spent}
use Rattle.sgml_theory_values.specs.theory_spelling.Places.{map_at, is_map}
use Rattle.sgml_theory_values.specs.theory_spelling.Texts.{texts_of, stack_of, source_of}
use Rattle.sgml_theory_values.specs.theory_spelling.Declared.{lexed}
use Rattle.sgml_theory_values.specs.theory_spelling.Tags.{Written, written_from, Units, units_of, units_read, specification_of as written_specification, Specifications, all_specified, with_first, with_spent, element_name, element_of, specifications_of, how_of}
use Rattle.sgml_theory_values.specs.theory_spelling.Content.{content_piece}
use Rattle.sgml_theory_values.proofs.theory_spelling.Bridge.{read-is-lexed}
use Rattle.sgml_theory_values.specs.full.Spelled.{spelled_value, specification, specification_of as spelled_specification, start_tag, end_tag}
use Rattle.sgml_theory_full.specs.Named.{AllAre, IsGeneralName, ValueIsWritten, AttributeIsWritten}
use Rattle.sgml_theory_values.specs.Full.{value_read}
use Rattle.sgml_theory_values.specs.Starts.{specification as told, specifications}
use Rattle.sgml_theory_full.specs.Spellings.{spelling}
use Rattle.sgml_theory_full.specs.Points.{Point, stacked_at, doctype_at, IsInContent, HasEndTags, IsPieceAt}
use Rattle.sgml_theory_full.proofs.Plain.{true-false, both, if-true, if-false}
use Rattle.sgml_theory_full.proofs.Tags.{Given, given_text, text_part, tag_of, IsGiven, AreGiven, HaveGiven, specification_of as form_of, tag-has-given, start-parts, end-parts, start-name-bytes, end-name-bytes, last-is}
use Rattle.sgml_theory_full.proofs.Scanned.{start-token, end-token}
use Rattle.sgml_theory_full.proofs.Literals.{Bit, bits_text, bit_unit, AreBits, bits-unquoted, bits-sgml, bits-numbers, bits-lengths}
use Rattle.sgml_theory_full.proofs.Reading.{AreKnown, source, stack_at, Lexes, bits-read}
use Rattle.sgml_theory_full.proofs.Values.{value_bits, value-text, value-units, value-are, value-known}
use Rattle.sgml_theory_full.proofs.Pointed.{spelled-as}

-- A LITERAL is read to the units of its value

-- two sources that differ in nothing, though their heights are told in two ways
alike-self : (I : Source) (height : ℕ) → I.height ≡ height → (ps : List Place) → AreAlike I (record I { height = height }) ps ps
alike-self I height h [] = tt
alike-self I height h (p ∷ ps) = (refl, λ l. ap (λ n. unread (record I { height = n }) (p ∷ ps)) h, alike-self I height h ps)

quote-ends : (bs : List ℕ) → list_all (λ b. not (b == 34)) bs ≡ true → quote_end 34 (bs ++ 34 ∷ []) ≡ Some (length (bs ++ 34 ∷ []))
quote-ends [] h = refl
quote-ends (b ∷ bs) h =
    let q = both (not (b == 34)) (list_all (λ b. not (b == 34)) bs) h in
    let n : 1 + length (bs ++ 34 ∷ []) ≡ length ((b ∷ bs) ++ 34 ∷ []) = omega arith in
    go (b == 34) refl q.0 ∙ ap (later 1) (quote-ends bs q.1) ∙ ap Some n
  where
    go : (t : Bool) → (b == 34) ≡ t → not t ≡ true → quote_end 34 (b ∷ (bs ++ 34 ∷ [])) ≡ later 1 (quote_end 34 (bs ++ 34 ∷ []))
    go true e n = true-false (sym n)
    go false e n = if-false (b == 34) _ _ e

-- the places of texts that are all read from their beginnings
abbrev places_of : List ℕ → List Place
places_of es = map (λ n. place_at n 0) es

unread-own : (n : ℕ) (own other : List ℕ) → (if n == n then own else other) ≡ own
unread-own n own other = if-true (n == n) own other (eq-eqb n n refl)

literal-of : (outside : Outside) (d : Doctype) (entity : ℕ) (es : List ℕ) (spent : ℕ) (xs : List Bit) → AreBits d.syntax xs → AreKnown d.syntax d.entities xs
    → lexed (Literal 34) outside d (record { entities = entity ∷ es; spent = spent }) (bits_text xs ++ 34 ∷ []) ≡ Ok (record { lexemes = Value (map bit_unit xs) ∷ []; spent = spent })
unfolding source_of stack_of
literal-of outside d entity es spent xs k n =
    let t : Stacked = record { entities = entity ∷ es; spent = spent } in
    let own = bits_text xs ++ 34 ∷ [] in
    let below = places_of es in
    let I : Source = source d.syntax d.entities (texts_of outside d.entities) own d.syntax.quantities.entlvl outside.expand spent entity 0 below in
    let s : Stack = stack_at d.syntax d.entities (texts_of outside d.entities) own d.syntax.quantities.entlvl outside.expand spent entity 0 below 0 in
    let size : I.height ≡ length (entity ∷ es) = ap suc (length-map es (λ n. place_at n 0)) in
    let read : Lexes d.syntax d.entities (texts_of outside d.entities) own d.syntax.quantities.entlvl outside.expand spent entity 0 below (map bit_unit xs) =
    bits-read d.syntax d.entities (texts_of outside d.entities) own d.syntax.quantities.entlvl outside.expand spent entity 0 below xs k n refl refl in
    let quoted : quote_end 34 (unread I s.places) ≡ Some (length (unread I s.places)) =
    subst (λ bs. quote_end 34 bs ≡ Some (length bs)) (sym (unread-own (suc (length below)) own _)) (quote-ends (bits_text xs) (bits-unquoted d.syntax xs k)) in
    read-is-lexed (Literal 34) outside d t own I s (Value (map bit_unit xs) ∷ []) read.stack
    (record { construct = refl; syntax = refl; entities = refl; height = size; texts = λ n text e h. h })
    (record { levels = refl; expand = refl; spent = refl; places = alike-self I (length (entity ∷ es)) size s.places })
    (omega arith) refl (refl, quoted) read.lexemes
    ∙ ap (λ n. Ok (record { lexemes = Value (map bit_unit xs) ∷ []; spent = n })) read.spent_is

-- of a value
literal-units : (outside : Outside) (d : Doctype) (entity : ℕ) (es : List ℕ) (spent : ℕ) (v : AttrValue) → ValueIsWritten d v
    → units_of outside d (record { entities = entity ∷ es; spent = spent }) (spelled_value d v) (Some 34) ≡ record { units = Ok (value_read d v); spent = spent }
literal-units outside d entity es spent v w =
    let t : Stacked = record { entities = entity ∷ es; spent = spent } in
    ap (λ bs. units_read t (lexed (Literal 34) outside d t (bs ++ 34 ∷ []))) (sym (value-text d v))
    ∙ ap (units_read t) (literal-of outside d entity es spent (value_bits d v) (value-are d v w) (value-known d v w))
    ∙ ap (λ us. record { units = Ok us; spent = spent }) (value-units d v)

-- THE ATTRIBUTES that have a value, each with its literal

abbrev given : Doctype → Name → AttrValue → List Given
given d n value.Implied = []
given d n v = record { name = n; text = spelled_value d v } ∷ []

abbrev given_of : Doctype → Attribute → List Given
given_of d a = given d a.attribute a.value

abbrev givens : Doctype → List Attribute → List Given
givens d attributes = flat_map (given_of d) attributes

flat-append : {A B : Type 0} (g : A → List B) (xs ys : List A) → flat_map g (xs ++ ys) ≡ flat_map g xs ++ flat_map g ys
flat-append g [] ys = refl
flat-append g (x ∷ xs) ys = ap (λ t. g x ++ t) (flat-append g xs ys) ∙ sym (append_assoc (g x) (flat_map g xs) (flat_map g ys))

one-text : (d : Doctype) (n : Name) (v : AttrValue) → flat_map given_text (given d n v) ≡ specification d n v
one-text d n value.Implied = refl
one-text d n (value.Cdata us) = append-nil (given_text (record { name = n; text = spelled_value d (value.Cdata us) }))
one-text d n (value.Notation m) = append-nil (given_text (record { name = n; text = spelled_value d (value.Notation m) }))
one-text d n (value.Entities es) = append-nil (given_text (record { name = n; text = spelled_value d (value.Entities es) }))
one-text d n (value.Tokens ts) = append-nil (given_text (record { name = n; text = spelled_value d (value.Tokens ts) }))

givens-text : (d : Doctype) (attributes : List Attribute) → flat_map given_text (givens d attributes) ≡ flat_map (spelled_specification d) attributes
givens-text d [] = refl
givens-text d (a ∷ as') =
    flat-append given_text (given_of d a) (givens d as')
    ∙ ap (λ t. t ++ flat_map given_text (givens d as')) (one-text d a.attribute a.value)
    ∙ ap (λ t. spelled_specification d a ++ t) (givens-text d as')

tag-text : (d : Doctype) (name : Name) (attributes : List Attribute) → tag_of name (givens d attributes) ≡ start_tag d name attributes
tag-text d name attributes = ap (λ t. (60 ∷ name) ++ (t ++ 62 ∷ [])) (givens-text d attributes)

-- each can be read
one-given : (d : Doctype) (n : Name) (v : AttrValue) → IsGeneralName d.syntax n → ValueIsWritten d v → IsGiven d.syntax (record { name = n; text = spelled_value d v })
one-given d n v k w =
    let are = value-are d v w in
    let is = value-text d v in record {
      name = k.is_name;
      short = k.short;
      unquoted = subst (λ bs. list_all (λ b. not (b == 34)) bs ≡ true) is (bits-unquoted d.syntax (value_bits d v) are);
      sgml = subst (λ bs. list_all is_sgml_character bs ≡ true) is (bits-sgml d.syntax (value_bits d v) are);
      numbers = ap (has_wrong_number d.syntax) (sym is) ∙ bits-numbers d.syntax (value_bits d v) are;
      lengths = ap (has_wrong_length d.syntax) (sym is) ∙ bits-lengths d.syntax (value_bits d v) are;
    }

one-are : (d : Doctype) (n : Name) (v : AttrValue) (gs : List Given) → IsGeneralName d.syntax n → ValueIsWritten d v → AreGiven d.syntax gs → AreGiven d.syntax (given d n v ++ gs)
one-are d n value.Implied gs k w h = h
one-are d n (value.Cdata us) gs k w h = (one-given d n (value.Cdata us) k w, h)
one-are d n (value.Notation m) gs k w h = (one-given d n (value.Notation m) k w, h)
one-are d n (value.Entities es) gs k w h = (one-given d n (value.Entities es) k w, h)
one-are d n (value.Tokens ts) gs k w h = (one-given d n (value.Tokens ts) k w, h)

givens-are : (d : Doctype) (attributes : List Attribute) → AllAre (AttributeIsWritten d) attributes → AreGiven d.syntax (givens d attributes)
givens-are d [] h = tt
givens-are d (a ∷ as') h = one-are d a.attribute a.value (givens d as') h.0.name h.0.value (givens-are d as' h.1)

-- WHAT IS WRITTEN in the tag
abbrev written_of : Given → Written
written_of g = record { name = Some g.name; quote = Some 34; bytes = g.text }

abbrev more_written : Text → ℕ → Given → List Given → List Written
more_written tag at g gs = written_from tag None (places (map form_of gs) (at + length (given_text g)))

written-are : (tag : Text) (at : ℕ) (gs : List Given) → HaveGiven tag at gs → written_from tag None (places (map form_of gs) at) ≡ map written_of gs
written-are tag at [] h = refl
written-are tag at (g ∷ gs) h =
    let quote = get_or tag ((text_part at g).from - 1) 0 in
    let bytes = bytes_of tag (text_part at g) in
    ap (λ n. record { name = Some n; quote = Some quote; bytes = bytes } ∷ more_written tag at g gs) h.0.name
    ∙ ap (λ q. record { name = Some g.name; quote = Some q; bytes = bytes } ∷ more_written tag at g gs) h.0.quote
    ∙ ap (λ bs. record { name = Some g.name; quote = Some 34; bytes = bs } ∷ more_written tag at g gs) h.0.text
    ∙ ap (λ ws. written_of g ∷ ws) (written-are tag (at + length (given_text g)) gs h.1)

-- its specifications are those of the values
abbrev read_as : Doctype → List Definition → Outside → ℕ → List ℕ → ℕ → List Given → Specifications
read_as d xs outside entity es spent gs = all_specified outside d xs (record { entities = entity ∷ es; spent = spent }) (map written_of gs)

named-specification : (d : Doctype) (xs : List Definition) (n : Name) (us : List AnyUnit) → IsGeneralName d.syntax n
    → written_specification d xs (Some n) (Ok us) ≡ record { attribute = Some n; written = Ok us }
named-specification d xs n us k = ap (λ m. record { attribute = Some m; written = Ok us }) k.folded

valued-first : (outside : Outside) (d : Doctype) (xs : List Definition) (entity : ℕ) (es : List ℕ) (spent : ℕ) (n : Name) (v : AttrValue) (gs : List Given) (ss : List Specification)
    → IsGeneralName d.syntax n → ValueIsWritten d v → read_as d xs outside entity es spent gs ≡ record { specifications = ss; spent = spent }
    → read_as d xs outside entity es spent (record { name = n; text = spelled_value d v } ∷ gs)
    ≡ record { specifications = record { attribute = Some n; written = Ok (value_read d v) } ∷ ss; spent = spent }
valued-first outside d xs entity es spent n v gs ss k w more =
    let t : Stacked = record { entities = entity ∷ es; spent = spent } in
    ap (λ (u : Units). with_first (written_specification d xs (Some n) u.units) (all_specified outside d xs (with_spent t u.spent) (map written_of gs))) (literal-units outside d entity es spent v w)
    ∙ ap (λ x. with_first x (read_as d xs outside entity es spent gs)) (named-specification d xs n (value_read d v) k)
    ∙ ap (with_first (record { attribute = Some n; written = Ok (value_read d v) })) more

one-specified : (outside : Outside) (d : Doctype) (xs : List Definition) (entity : ℕ) (es : List ℕ) (spent : ℕ) (n : Name) (v : AttrValue) (gs : List Given) (ss : List Specification)
    → IsGeneralName d.syntax n → ValueIsWritten d v → read_as d xs outside entity es spent gs ≡ record { specifications = ss; spent = spent }
    → read_as d xs outside entity es spent (given d n v ++ gs) ≡ record { specifications = told (value_read d) n v ++ ss; spent = spent }
one-specified outside d xs entity es spent n value.Implied gs ss k w more = more
one-specified outside d xs entity es spent n (value.Cdata us) gs ss k w more = valued-first outside d xs entity es spent n (value.Cdata us) gs ss k w more
one-specified outside d xs entity es spent n (value.Notation m) gs ss k w more = valued-first outside d xs entity es spent n (value.Notation m) gs ss k w more
one-specified outside d xs entity es spent n (value.Entities ns) gs ss k w more = valued-first outside d xs entity es spent n (value.Entities ns) gs ss k w more
one-specified outside d xs entity es spent n (value.Tokens ts) gs ss k w more = valued-first outside d xs entity es spent n (value.Tokens ts) gs ss k w more

all-are-specified : (outside : Outside) (d : Doctype) (xs : List Definition) (entity : ℕ) (es : List ℕ) (spent : ℕ) (as' : List Attribute) → AllAre (AttributeIsWritten d) as'
    → read_as d xs outside entity es spent (givens d as') ≡ record { specifications = specifications (value_read d) as'; spent = spent }
all-are-specified outside d xs entity es spent [] h = refl
all-are-specified outside d xs entity es spent (a ∷ as') h =
    one-specified outside d xs entity es spent a.attribute a.value (givens d as') (specifications (value_read d) as') h.0.name h.0.value (all-are-specified outside d xs entity es spent as' h.1)

-- THE START that a start-tag is
start-element : (d : Doctype) (name : Name) (gs : List Given) → IsGeneralName d.syntax name → AreGiven d.syntax gs → element_of d (tag_of name gs) ≡ name
unfolding element_of
start-element d name gs n h =
    ap (λ ps. general_name d.syntax (element_name (tag_of name gs) ps)) (start-parts d.syntax name gs n.is_name h)
    ∙ ap (general_name d.syntax) (start-name-bytes name gs)
    ∙ n.folded

start-specified : (outside : Outside) (d : Doctype) (entity : ℕ) (es : List ℕ) (spent : ℕ) (name : Name) (as' : List Attribute) → IsGeneralName d.syntax name → AllAre (AttributeIsWritten d) as'
    → specifications_of outside d (record { entities = entity ∷ es; spent = spent }) (tag_of name (givens d as')) ≡ record { specifications = specifications (value_read d) as'; spent = spent }
unfolding specifications_of
start-specified outside d entity es spent name as' n h =
    let gs = givens d as' in
    let tag = tag_of name gs in
    let t : Stacked = record { entities = entity ∷ es; spent = spent } in
    let are = givens-are d as' h in
    ap (λ ps. all_specified outside d (attributes d (element_of d tag)) t (written_from tag None ps)) (start-parts d.syntax name gs n.is_name are)
    ∙ ap (all_specified outside d (attributes d (element_of d tag)) t) (written-are tag (1 + length name) gs (tag-has-given name gs))
    ∙ all-are-specified outside d (attributes d (element_of d tag)) entity es spent as' h

start-how : (name : Name) (gs : List Given) → how_of (tag_of name gs) ≡ Tag
start-how name gs =
    let last : last_byte (tag_of name gs) ≡ 62 = ap last_byte (sym (append_assoc (60 ∷ name) (flat_map given_text gs) (62 ∷ []))) ∙ last-is ((60 ∷ name) ++ flat_map given_text gs) 62 in
    if-false (last_byte (tag_of name gs) == 47) _ _ (ap (λ b. b == 47) last)

start-piece-is : (p : Point) (name : Name) (as' : List Attribute) → IsGeneralName (doctype_at p).syntax name → AllAre (AttributeIsWritten (doctype_at p)) as'
    → content_piece p.outside p.state (stacked_at p) mode.Con kind.StartTag (tag_of name (givens (doctype_at p) as'))
    ≡ Ok (sized (length (tag_of name (givens (doctype_at p) as'))) (kind_noted p.state (Start name (specifications (value_read (doctype_at p)) as') Tag true false)))
unfolding content_piece kind_noted
start-piece-is p name as' n h =
    let d = doctype_at p in
    let tag = tag_of name (givens d as') in
    let none : p.spent - p.spent ≡ 0 = omega arith in
    ap (λ (x : Specifications). Ok (sized_spent (length tag) (x.spent - p.spent) (Start (element_of d tag) x.specifications (how_of tag) true false)))
    (start-specified p.outside d p.entity (map (λ (r : Rest). r.entity) p.below) p.spent name as' n h)
    ∙ ap (λ k. Ok (sized_spent (length tag) k (Start (element_of d tag) (specifications (value_read d) as') (how_of tag) true false))) none
    ∙ ap (λ m. Ok (sized_spent (length tag) 0 (Start m (specifications (value_read d) as') (how_of tag) true false))) (start-element d name (givens d as') n (givens-are d as' h))
    ∙ ap (λ w. Ok (sized_spent (length tag) 0 (Start name (specifications (value_read d) as') w true false))) (start-how name (givens d as'))

pub start-tags-are-spelled : (p : Point) (name : Name) (as' : List Attribute) → IsInContent p mode.Con → IsGeneralName (doctype_at p).syntax name
    → AllAre (AttributeIsWritten (doctype_at p)) as'
    → IsPieceAt p (spelling (Start name (specifications (value_read (doctype_at p)) as') Tag true false) (start_tag (doctype_at p) name as'))
start-tags-are-spelled p name as' h n w =
    let d = doctype_at p in
    subst (λ text. IsPieceAt p (spelling (Start name (specifications (value_read d) as') Tag true false) text)) (tag-text d name as')
    (λ rest. spelled-as p mode.Con h (tag_of name (givens d as')) rest kind.StartTag (sized (length (tag_of name (givens d as'))) (kind_noted p.state (Start name (specifications (value_read d) as') Tag true false)))
    (omega arith)
    (start-token d.syntax (is_map (map_at p.state)) name (givens d as') rest n.is_name n.short (givens-are d as' w))
    (start-piece-is p name as' n w))

-- AN END-TAG
end-element : (d : Doctype) (name : Name) → IsGeneralName d.syntax name → element_of d (end_tag name) ≡ name
unfolding element_of
end-element d name n =
    ap (λ ps. general_name d.syntax (element_name (end_tag name) ps)) (end-parts d.syntax name n.is_name)
    ∙ ap (general_name d.syntax) (end-name-bytes name)
    ∙ n.folded

end-piece-is : (p : Point) (m : Mode) (name : Name) → IsGeneralName (doctype_at p).syntax name
    → content_piece p.outside p.state (stacked_at p) m kind.EndTag (end_tag name) ≡ Ok (sized (length (end_tag name)) (kind_noted p.state (End name Tag)))
unfolding content_piece kind_noted
end-piece-is p m name n = ap (λ x. Ok (sized (length (end_tag name)) (End x Tag))) (end-element (doctype_at p) name n)

pub end-tags-are-spelled : (p : Point) (m : Mode) (name : Name) → IsInContent p m → HasEndTags m → IsGeneralName (doctype_at p).syntax name → IsPieceAt p (spelling (End name Tag) (end_tag name))
end-tags-are-spelled p m name h r n rest =
    spelled-as p m h (end_tag name) rest kind.EndTag (sized (length (end_tag name)) (kind_noted p.state (End name Tag))) (omega arith)
    (end-token (doctype_at p).syntax m (is_map (map_at p.state)) name rest r n.is_name n.short)
    (end-piece-is p m name n)
