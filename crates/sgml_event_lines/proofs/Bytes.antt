-- The bytes of texts, of data and of single lines.
use Rattle.sgml_said.proofs.Paired.{drop_here}
use Rattle.std.proofs.lemmas.List.{take-append-drop, get_or_default, nil_from_length}
use Rattle.std.proofs.lemmas.Bool.{eqb-true}
use Rattle.sgml_text.specs.Characters.{is_separator}
use Rattle.sgml_esis.specs.Writing.{Puts}
use Rattle.sgml_esis.proofs.Holding.{puts_as, puts_then}
use Rattle.sgml_esis.proofs.Tokens.{both}
use Rattle.std.proofs.Common.{◌≡◌, ℕ, ◌+◌, ◌<◌, get_or, if◌then◌else◌, ◌&&◌, ◌||◌, not, suc, Bool, true, false, cond, Option, List, [], ◌∷◌, ◌++◌, length, take, drop, map, refl, sym, ap, ◌∙◌, ◌==◌, arith, append_assoc, append-nil}
use Rattle.std.specs.Prelude.{flat_map, codes}
use Rattle.std.specs.List.{list_all, prefix_len}
use Rattle.std.proofs.lemmas.Bool.Decides.{nat_tests}
use Rattle.std.proofs.lemmas.Grind.{flat_map-append}
use Rattle.std.proofs.lemmas.List.Folds.{flat_map-map}
use Rattle.sgml_text.specs.Units.{characters}
use Rattle.sgml_text.specs.declared.unit.Unit.{Unit as AnyUnit}
use Rattle.sgml_text.specs.declared.unit.Unit.TheVariants as unit
use Rattle.sgml_esis.specs.Plain.{is_plain}
use Rattle.sgml_esis.specs.Spelling.{spell_byte, spell_unit, spell_escaped, spell_content, spell_names}
use Rattle.sgml_esis.specs.declared.line.EscUnit.TheVariants as escape
use Rattle.sgml_attr.specs.declared.value.AttrValue.{AttrValue}
use Rattle.sgml_attr.specs.declared.value.AttrValue.TheVariants as value
use Rattle.sgml_dtd.specs.Doctypes.{Doctype}
use Rattle.sgml_theory_reading.specs.Types.{body_of, name_of_entity}
use Rattle.sgml_theory_reading.specs.Lines.{Line, unit_shape, value_line, sdata_of, single_from}
use Rattle.sgml_event_lines.specs.Shown.{shown, text_units, data_units, shape_units}
use Rattle.sgml_event_lines.specs.Spelled.{spelled}
use Rattle.sgml_event_lines.specs.Spelled.{closing, beginning}
use Rattle.sgml_event_lines.specs.Standing.{text_bytes, unit_bytes, value_bytes, spaced_bytes}

pub escaped_text : (t : List ℕ) → spell_escaped (text_units t) ≡ text_bytes t
escaped_text t = flat_map-map spell_unit escape.Byte t

pub plain_byte : (b : ℕ) → is_plain b ≡ true → spell_byte b ≡ b ∷ []
plain_byte b h = grind (arith, nat_tests)

one_more : (n : ℕ) → 1 + n ≡ suc n
one_more n = omega arith

run_here : (t : Bool) (b : ℕ) (bs : List ℕ) → is_plain b ≡ t → text_bytes (take (prefix_len is_plain bs) bs) ≡ take (prefix_len is_plain bs) bs → text_bytes (take (cond t (1 + prefix_len is_plain bs) 0) (b ∷ bs)) ≡ take (cond t (1 + prefix_len is_plain bs) 0) (b ∷ bs)
run_here false b bs e again = refl
run_here true b bs e again =
    rw (one_more (prefix_len is_plain bs)) (ap (λ v. v ++ text_bytes (take (prefix_len is_plain bs) bs)) (plain_byte b e) ∙ ap (λ v. b ∷ v) again)

-- bytes that stand for themselves are their own text
pub run_bytes : (bs : List ℕ) → text_bytes (take (prefix_len is_plain bs) bs) ≡ take (prefix_len is_plain bs) bs
run_bytes [] = refl
run_bytes (b ∷ bs) = rw (run_is (is_plain b) refl) (run_here (is_plain b) b bs refl (run_bytes bs))
  where
    run_is : (t : Bool) → is_plain b ≡ t → prefix_len is_plain (b ∷ bs) ≡ cond (is_plain b) (1 + prefix_len is_plain bs) 0
    run_is t e = refl

pub plain_text : (bs : List ℕ) → list_all is_plain bs ≡ true → text_bytes bs ≡ bs
plain_text [] all = refl
plain_text (b ∷ bs) all =
    let parts = both (is_plain b) (list_all is_plain bs) all in
    ap (λ v. v ++ text_bytes bs) (plain_byte b parts.0) ∙ ap (λ v. b ∷ v) (plain_text bs parts.1)

pub text_append : (xs ys : List ℕ) → text_bytes (xs ++ ys) ≡ text_bytes xs ++ text_bytes ys
text_append xs ys = flat_map-append spell_byte xs ys

-- a list of length 0
pub none_of : {X : Type 0} (xs : List X) → (length xs == 0) ≡ true → xs ≡ []
none_of xs e = nil_from_length xs (eqb-true (length xs) 0 e)

-- the end and the begin of an open line of data
pub closing_is : (within : Bool) → (if within then 10 ∷ [] else []) ≡ closing within
closing_is true = refl
closing_is false = refl

pub beginning_is : (within : Bool) → (if not within then 45 ∷ [] else []) ≡ beginning within
beginning_is true = refl
beginning_is false = refl

-- plain bytes at the front, and what follows them
pub front_spelled : (text : List ℕ) (n : ℕ) → n ≡ prefix_len is_plain text → take n text ++ text_bytes (drop n text) ≡ text_bytes text
front_spelled text n run =
    ap (λ (v : List ℕ). v ++ text_bytes (drop n text)) (ap (λ (m : ℕ). take m text) run ∙ sym (run_bytes text) ∙ ap (λ (m : ℕ). text_bytes (take m text)) (sym run))
    ∙ sym (text_append (take n text) (drop n text))
    ∙ ap text_bytes (take-append-drop n text)

pub short_spelled : (within : Bool) (text rest : List ℕ) (n : ℕ) → n ≡ prefix_len is_plain text → rest ≡ drop n text → ((if not within then 45 ∷ [] else []) ++ take n text) ++ text_bytes rest ≡ beginning within ++ text_bytes text
short_spelled within text rest n run is =
    let first : List ℕ = if not within then 45 ∷ [] else [] in
    append_assoc first (take n text) (text_bytes rest)
    ∙ ap (λ (v : List ℕ). first ++ (take n text ++ text_bytes v)) is
    ∙ ap (λ (v : List ℕ). first ++ v) (front_spelled text n run)
    ∙ ap (λ (v : List ℕ). v ++ text_bytes text) (beginning_is within)

pub short_whole : (within : Bool) (text rest : List ℕ) (n : ℕ) → n ≡ prefix_len is_plain text → rest ≡ drop n text → rest ≡ [] → (if not within then 45 ∷ [] else []) ++ take n text ≡ beginning within ++ text_bytes text
short_whole within text rest n run is none =
    sym (append-nil ((if not within then 45 ∷ [] else []) ++ take n text)) ∙ ap (λ (v : List ℕ). ((if not within then 45 ∷ [] else []) ++ take n text) ++ text_bytes v) (sym none) ∙ short_spelled within text rest n run is

-- DATA
pub characters_bytes : (d : Doctype) (bytes : List ℕ) → flat_map (unit_bytes d) (characters bytes) ≡ text_bytes bytes
characters_bytes d [] = refl
characters_bytes d (b ∷ bs) = ap (λ v. v ++ flat_map (unit_bytes d) (characters bs)) (append-nil (spell_byte b)) ∙ ap (λ v. spell_byte b ++ v) (characters_bytes d bs)

pub barred_bytes : (d : Doctype) (e : ℕ) → unit_bytes d (unit.Sdata e) ≡ 92 ∷ 124 ∷ text_bytes (sdata_of (body_of d e)) ++ 92 ∷ 124 ∷ []
barred_bytes d e =
    let t = sdata_of (body_of d e) in
    ap (λ v. 92 ∷ 124 ∷ v) (flat_map-append spell_unit (text_units t) (escape.Bar ∷ []) ∙ ap (λ v. v ++ 92 ∷ 124 ∷ []) (escaped_text t))

pub units_spelled : (d : Doctype) (us : List AnyUnit) → spell_escaped (data_units (map (unit_shape d) us)) ≡ flat_map (unit_bytes d) us
units_spelled d [] = refl
units_spelled d (u ∷ us) =
    flat_map-append spell_unit (shape_units (unit_shape d u)) (data_units (map (unit_shape d) us))
    ∙ ap (λ v. unit_bytes d u ++ v) (units_spelled d us)

-- SINGLE LINES
pub line_alone : (l : Line) → spelled (l ∷ []) ≡ spell_content (shown l) ++ 10 ∷ []
line_alone l = append-nil (spell_content (shown l) ++ 10 ∷ [])

word_alone : (a word x : List ℕ) → ((65 ∷ ((a ++ word) ++ x)) ++ 10 ∷ []) ++ [] ≡ (65 ∷ a) ++ ((word ++ x) ++ 10 ∷ [])
word_alone a word x =
    append-nil _ ∙ ap (λ v. 65 ∷ v) (append_assoc (a ++ word) x (10 ∷ []) ∙ append_assoc a word (x ++ 10 ∷ []) ∙ ap (λ v. a ++ v) (sym (append_assoc word x (10 ∷ []))))

pub value_alone : (d : Doctype) (a : List ℕ) (v : AttrValue) → spelled (value_line d a v ∷ []) ≡ (65 ∷ a) ++ (value_bytes d v ++ 10 ∷ [])
value_alone d a value.Implied = append-nil _ ∙ ap (λ v. 65 ∷ v) (append_assoc a (codes " IMPLIED") (10 ∷ []))
value_alone d a (value.Cdata us) =
    ap (λ v. ((65 ∷ ((a ++ codes " CDATA ") ++ v)) ++ 10 ∷ []) ++ []) (units_spelled d us) ∙ word_alone a (codes " CDATA ") (flat_map (unit_bytes d) us)
value_alone d a (value.Notation n) = word_alone a (codes " NOTATION ") n
value_alone d a (value.Entities es) = word_alone a (codes " ENTITY") (spell_names (map (name_of_entity d) es))
value_alone d a (value.Tokens ts) = word_alone a (codes " TOKEN") (spell_names ts)

-- the names of entities, each after a blank
pub names_spelled : (d : Doctype) (numbers : List ℕ) → flat_map (λ number. 32 ∷ name_of_entity d number) numbers ≡ spell_names (map (name_of_entity d) numbers)
names_spelled d numbers = sym (flat_map-map (λ (name : List ℕ). 32 ∷ name) (name_of_entity d) numbers)

-- lines of texts
pub text_line : (mark : ℕ) (t : List ℕ) → mark ∷ text_bytes t ++ 10 ∷ [] ≡ ((mark ∷ spell_escaped (text_units t)) ++ 10 ∷ []) ++ []
text_line mark t = ap (λ v. mark ∷ v ++ 10 ∷ []) (sym (escaped_text t)) ∙ sym (append-nil _)

pub name_line : (mark : ℕ) (n : List ℕ) → mark ∷ n ++ 10 ∷ [] ≡ ((mark ∷ n) ++ 10 ∷ []) ++ []
name_line mark n = sym (append-nil _)

pub internal_line : (name kind t : List ℕ) → (73 ∷ name ++ kind) ++ (32 ∷ text_bytes t ++ 10 ∷ []) ≡ ((73 ∷ ((name ++ kind) ++ 32 ∷ spell_escaped (text_units t))) ++ 10 ∷ []) ++ []
internal_line name kind t =
    ap (λ v. (73 ∷ name ++ kind) ++ (32 ∷ v ++ 10 ∷ [])) (sym (escaped_text t))
    ∙ ap (λ v. 73 ∷ v) (sym (append_assoc (name ++ kind) (32 ∷ spell_escaped (text_units t)) (10 ∷ []))) ∙ sym (append-nil _)

pub external_line : (name kind n : List ℕ) → (69 ∷ name ++ kind) ++ (32 ∷ n ++ 10 ∷ []) ≡ ((69 ∷ ((name ++ kind) ++ 32 ∷ n)) ++ 10 ∷ []) ++ []
external_line name kind n = ap (λ v. 69 ∷ v) (sym (append_assoc (name ++ kind) (32 ∷ n) (10 ∷ []))) ∙ sym (append-nil _)

-- A STRETCH OF A TEXT
text_parts : (n : ℕ) (rest : List ℕ) → rest ≡ (take n rest ++ take 1 (drop n rest)) ++ drop 1 (drop n rest)
text_parts n rest = sym (append_assoc (take n rest) (take 1 (drop n rest)) (drop 1 (drop n rest)) ∙ ap (λ v. take n rest ++ v) (take-append-drop 1 (drop n rest)) ∙ take-append-drop n rest)

pub stretch_put : (text rest new : List ℕ) (n : ℕ) (t u v w : Option (List ℕ)) (a b x y : ℕ) (h i j k : List ℕ × Bool) → ((front : List ℕ) × (text ≡ front ++ rest) × Puts t a h u b i (text_bytes front)) → n ≡ prefix_len is_plain rest → Puts u b i v x j (take n rest) → Puts v x j w y k (text_bytes (take 1 (drop n rest))) → new ≡ drop 1 (drop n rest) → (front : List ℕ) × (text ≡ front ++ new) × Puts t a h w y k (text_bytes front)
stretch_put text rest new n t u v w a b x y h i j k inv run plain first is =
    let more = take n rest ++ take 1 (drop n rest) in
    let bytes : text_bytes (inv.0 ++ more) ≡ text_bytes inv.0 ++ (take n rest ++ text_bytes (take 1 (drop n rest))) =
    text_append inv.0 more ∙ ap (λ z. text_bytes inv.0 ++ z) (text_append (take n rest) (take 1 (drop n rest)) ∙ ap (λ z. z ++ text_bytes (take 1 (drop n rest))) (ap (λ (m : ℕ). text_bytes (take m rest)) run ∙ run_bytes rest ∙ ap (λ (m : ℕ). take m rest) (sym run))) in (
      inv.0 ++ more,
      inv.1 ∙ ap (λ z. inv.0 ++ z) (text_parts n rest ∙ ap (λ z. more ++ z) (sym is)) ∙ sym (append_assoc inv.0 more new),
      puts_as _ _ _ _ _ _ _ _ (sym bytes) (puts_then _ _ _ _ _ _ _ _ _ (text_bytes inv.0) (take n rest ++ text_bytes (take 1 (drop n rest))) inv.2 (puts_then _ _ _ _ _ _ _ _ _ (take n rest) (text_bytes (take 1 (drop n rest))) plain first)),
    )

blank_bytes : (b : Bool) → text_bytes (if b then 32 ∷ [] else []) ≡ (if b then 32 ∷ [] else [])
blank_bytes true = refl
blank_bytes false = refl

-- ONE MORE BYTE of a text with its white space made single
spaced_by : (sep begun pending : Bool) (b : ℕ) (bs : List ℕ) → text_bytes (if sep then single_from begun true bs else ((if begun && pending then 32 ∷ [] else []) ++ (b ∷ single_from true false bs))) ≡ (if sep then [] else ((if begun && pending then 32 ∷ [] else []) ++ spell_byte b)) ++ text_bytes (single_from (begun || not sep) sep bs)
spaced_by true true pending b bs = refl
spaced_by true false pending b bs = refl
spaced_by false begun pending b bs =
    let gap = if begun && pending then 32 ∷ [] else [] in
    let rest = text_bytes (single_from true false bs) in
    let from : single_from (begun || true) false bs ≡ single_from true false bs = ap (λ z. single_from z false bs) (or_true begun) in
    text_append gap (b ∷ single_from true false bs)
    ∙ ap (λ z. z ++ (spell_byte b ++ rest)) (blank_bytes (begun && pending))
    ∙ sym (append_assoc gap (spell_byte b) rest)
    ∙ ap (λ z. (gap ++ spell_byte b) ++ text_bytes z) (sym from)
  where
    or_true : (t : Bool) → (t || true) ≡ true
    or_true true = refl
    or_true false = refl

spaced_put : (text : List ℕ) (i b : ℕ) (begun pending after sep : Bool) (t u v : Option (List ℕ)) (m n o : ℕ) (h j k : List ℕ × Bool) → ((front : List ℕ) × (front ++ text_bytes (single_from begun pending (drop i text)) ≡ text_bytes (single_from false false text)) × Puts t m h u n j front) → i < length text → b ≡ get_or text i b → sep ≡ is_separator b → after ≡ (begun || not sep) → Puts u n j v o k (spaced_bytes begun pending b) → (front : List ℕ) × (front ++ text_bytes (single_from after sep (drop (i + 1) text)) ≡ text_bytes (single_from false false text)) × Puts t m h v o k front
spaced_put text i b begun pending after sep t u v m n o h j k inv lt is sepis afteris puts =
    let rest = drop (i + 1) text in
    let step : text_bytes (single_from begun pending (drop i text)) ≡ spaced_bytes begun pending b ++ text_bytes (single_from after sep rest) =
    ap (λ z. text_bytes (single_from begun pending z)) (drop_here text i b lt is)
    ∙ spaced_by (is_separator b) begun pending b rest
    ∙ ap (λ z. spaced_bytes begun pending b ++ text_bytes (single_from (begun || not z) z rest)) (sym sepis)
    ∙ ap (λ z. spaced_bytes begun pending b ++ text_bytes (single_from z sep rest)) (sym afteris) in (
      inv.0 ++ spaced_bytes begun pending b,
      append_assoc inv.0 (spaced_bytes begun pending b) (text_bytes (single_from after sep rest)) ∙ ap (λ z. inv.0 ++ z) (sym step) ∙ inv.1,
      puts_then _ _ _ _ _ _ _ _ _ inv.0 (spaced_bytes begun pending b) inv.2 puts,
    )

pub spaced_at : (text : List ℕ) (i d : ℕ) (begun pending after sep : Bool) (t u v : Option (List ℕ)) (m n o : ℕ) (h j k : List ℕ × Bool) → ((front : List ℕ) × (front ++ text_bytes (single_from begun pending (drop i text)) ≡ text_bytes (single_from false false text)) × Puts t m h u n j front) → i < length text → sep ≡ is_separator (get_or text i d) → after ≡ (begun || not sep) → Puts u n j v o k (spaced_bytes begun pending (get_or text i d)) → (front : List ℕ) × (front ++ text_bytes (single_from after sep (drop (i + 1) text)) ≡ text_bytes (single_from false false text)) × Puts t m h v o k front
spaced_at text i d begun pending after sep t u v m n o h j k inv lt sepis afteris puts = spaced_put text i (get_or text i d) begun pending after sep t u v m n o h j k inv lt (get_or_default text i d (get_or text i d) lt) sepis afteris puts

pub spaced_other : (begun pending : Bool) (b : ℕ) → is_separator b ≡ false → spaced_bytes begun pending b ≡ (if begun && pending then 32 ∷ [] else []) ++ spell_byte b
spaced_other begun pending b e = ap (λ (z : Bool). if z then [] else ((if begun && pending then 32 ∷ [] else []) ++ spell_byte b)) e
