-- The piece that a short reference is.
use Rattle.std.proofs.Common.{◌≡◌, ℕ, Bool, true, false, List, [], ◌∷◌, ◌++◌, Option, None, Some, Result, Err, refl, sym, ◌∙◌, ap, subst, if◌then◌else◌}
use Rattle.sgml_text.specs.declared.reason.Reason.{Reason}
use Rattle.sgml_text.specs.declared.reason.Reason.TheVariants as reason
use Rattle.sgml_theory_reading.specs.records.Items.{Item, Markup, RecordStart}
use Rattle.sgml_theory_reading.specs.records.Facts.{Facts}
use Rattle.sgml_entity.specs.declared.kinds.Space.TheVariants as space
use Rattle.sgml_scan.specs.markup.declared.kinds.TokenKind.TheVariants as kind
use Rattle.sgml_scan.specs.declared.state.ScanState.{ScanState}
use Rattle.sgml_scan.specs.declared.state.Token.{Token}
use Rattle.sgml_dtd.specs.Doctypes.{Doctype}
use Rattle.sgml_dtd_maps.specs.declared.uses.MapOf.{MapOf}
use Rattle.sgml_dtd_maps.specs.declared.uses.MapOf.TheVariants as map_of
use Rattle.sgml_theory_reading.specs.Names.{Name, Text}
use Rattle.sgml_theory_reading.specs.Types.{entity, entity_number}
use Rattle.sgml_theory_reading.specs.Pieces.{Piece, Meaning, ShortRef, ToText, ToInstruction}
use Rattle.sgml_theory_reading.specs.Facets.{items_of, map_set, start_item}
use Rattle.sgml_theory_reading.specs.Maps.{map_in_force, first_set}
use Rattle.sgml_theory_reading.specs.State.{first_noted}
use Rattle.sgml_theory_reading.specs.Characters.{ordinary}
use Rattle.sgml_theory_reading.specs.Unread.{Outside}
use Rattle.sgml_declared.specs.theory_spelling.Sized.{sized_ok}
use Rattle.sgml_declared.specs.theory_spelling.Places.{map_at}
use Rattle.sgml_declared.specs.theory_spelling.References.{meaning_of_number, meaning_of}
use Rattle.sgml_declared.specs.theory_spelling.Content.{entity_of_string, kind_of_string, mapped_kind}
use Rattle.sgml_declared.specs.theory_standing.Kept.{Kept, sources_of}
use Rattle.sgml_declared.specs.theory_standing.Held.{Held, state_of, IsSpelledIn}
use Rattle.sgml_inside.specs.declared.inside.Inner.{Inner}
use Rattle.sgml_inside.specs.Inside.{ends_in, settings_in, map_in, noted_in}
use Rattle.sgml_inside.specs.Laws.{AreInForce}
use Rattle.sgml_inside.proofs.Forced.{found, noted-is-after, stays}
use Rattle.sgml_declared.specs.Taking.{stacked_on}
use Rattle.sgml_content_steps.specs.Standing.{IsHeld}
use Rattle.sgml_content_steps.specs.Found.{IsTokenThere}
use Rattle.sgml_content_steps.proofs.Pieces.{strings-are-pieces}
use Rattle.sgml_content_steps.specs.Content.{Content, Holds, IsContent, context_of}
use Rattle.sgml_content_sections.proofs.Quiet.{IsInsideAfter}
use Rattle.sgml_content_references.specs.declared.entity.Said.{Said}
use Rattle.sgml_content_references.specs.declared.mapping.Mapped.TheVariants as mapped
use Rattle.sgml_content_references.specs.Referring.{said_of_number}
use Rattle.sgml_content_references.specs.Strings.{numbered, mapped_to, mapped_in, meaning_said, string_in, starts_record, started, StandsFor}
use Rattle.sgml_content_references.proofs.Spelling.{said-meaning}

-- THE MAP IN FORCE is the one that is kept
map-held : (old : Content) (x : Held) → IsContent old → Holds old x → map_at (state_of x) ≡ map_in old.inside.elements
unfolding map_at
map-held old x is h =
    (λ i. map_in_force (h.context i).doctype (h.context i).levels (h.map_settings i))
    ∙ sym (found old.kept.doctype (context_of old).levels old.inside.elements is.maps)

-- THE PIECE, by the name that it gives
abbrev name_in : Content → ℕ → Option Name
name_in old i = entity_of_string old.kept.doctype (map_in old.inside.elements) i

abbrev spelled_by : Outside → Held → Content → List (ℕ × Text) → Token → Option Name → Result Piece Reason
spelled_by outside x old texts t o = sized_ok t.length (mapped_kind outside (state_of x) (stacked_on old.kept.stack) (string_in old.kept texts t.length) o)

string-spelled : (st : ScanState) (texts : List (ℕ × Text)) (ended : Bool) (t : Token) (old : Content) (outside : Outside) (x : Held) (i : ℕ) (o : Option Name) → IsContent old → IsTokenThere old.kept st texts ended t
    → t.kind ≡ kind.ShortRef i → Holds old x → IsHeld old.kept st x → name_in old i ≡ o → IsSpelledIn outside x texts ended (spelled_by outside x old texts t o)
string-spelled st texts ended t old outside x i o is there k h held named =
    subst (λ (z : Option Name). IsSpelledIn outside x texts ended (spelled_by outside x old texts t z))
    ((λ j. entity_of_string (held.kept j).doctype (map-held old x is h j) i) ∙ named)
    (strings-are-pieces i old.kept st texts ended t there k outside x held)

meant-spelled : (st : ScanState) (texts : List (ℕ × Text)) (ended : Bool) (t : Token) (old : Content) (outside : Outside) (x : Held) (i : ℕ) (n : Name) (o : Option ℕ) → IsContent old → IsTokenThere old.kept st texts ended t
    → t.kind ≡ kind.ShortRef i → Holds old x → IsHeld old.kept st x → name_in old i ≡ Some n → entity_number old.kept.doctype space.General n ≡ o
    → IsSpelledIn outside x texts ended (sized_ok t.length (kind_of_string (string_in old.kept texts t.length) (meaning_of_number outside (sources_of old.kept) (stacked_on old.kept.stack) o)))
unfolding meaning_of
meant-spelled st texts ended t old outside x i n o is there k h held named number =
    subst (λ (z : Option ℕ). IsSpelledIn outside x texts ended (sized_ok t.length (kind_of_string (string_in old.kept texts t.length) (meaning_of_number outside (sources_of old.kept) (stacked_on old.kept.stack) z)))) number
    (subst (λ (z : Kept). IsSpelledIn outside x texts ended (sized_ok t.length (kind_of_string (string_in old.kept texts t.length)
    (meaning_of_number outside (sources_of z) (stacked_on old.kept.stack) (entity_number z.doctype space.General n))))) held.kept
    (string-spelled st texts ended t old outside x i (Some n) is there k h held named))

-- WHAT THE MAP TELLS
none-mapped : (d : Doctype) (o : Option Name) → mapped_to d o ≡ mapped.Nothing → o ≡ None
none-mapped d None e = refl
none-mapped d (Some n) e = by (entity_number d space.General n) e
  where
    by : {A : Type 0} (z : Option ℕ) → numbered z ≡ mapped.Nothing → A
    by None e = cc e
    by (Some m) e = cc e

undeclared-mapped : (d : Doctype) (o : Option Name) → mapped_to d o ≡ mapped.Undeclared → (n : Name) × (o ≡ Some n) × (entity_number d space.General n ≡ None)
undeclared-mapped d None e = cc e
undeclared-mapped d (Some n) e = (n, refl, by (entity_number d space.General n) e)
  where
    by : (z : Option ℕ) → numbered z ≡ mapped.Undeclared → z ≡ None
    by None e = refl
    by (Some m) e = cc e

to-mapped : (d : Doctype) (o : Option Name) (number : ℕ) → mapped_to d o ≡ mapped.To number → (n : Name) × (o ≡ Some n) × (entity_number d space.General n ≡ Some number)
to-mapped d None number e = cc e
to-mapped d (Some n) number e = (n, refl, by (entity_number d space.General n) e)
  where
    by : (z : Option ℕ) → numbered z ≡ mapped.To number → z ≡ Some number
    by None e = cc e
    by (Some m) e = cc

pub ordinary-next : (texts : List (ℕ × Text)) (t : Token) (old : Content) (i : ℕ) → IsContent old → t.kind ≡ kind.ShortRef i → mapped_in old i ≡ mapped.Nothing → StandsFor texts t old (λ s own. ordinary s own)
ordinary-next texts t old i is k named st ended there outside x h held =
    string-spelled st texts ended t old outside x i None is there k h held (none-mapped old.kept.doctype (name_in old i) named)

pub undeclared-spelled : (st : ScanState) (texts : List (ℕ × Text)) (ended : Bool) (t : Token) (old : Content) (outside : Outside) (x : Held) (i : ℕ) → IsContent old → IsTokenThere old.kept st texts ended t → t.kind ≡ kind.ShortRef i
    → Holds old x → IsHeld old.kept st x → mapped_in old i ≡ mapped.Undeclared → IsSpelledIn outside x texts ended (Err reason.Undeclared)
undeclared-spelled st texts ended t old outside x i is there k h held named =
    let m = undeclared-mapped old.kept.doctype (name_in old i) named in
    meant-spelled st texts ended t old outside x i m.0 None is there k h held m.1 m.2

pub mapped-spelled : (st : ScanState) (texts : List (ℕ × Text)) (ended : Bool) (t : Token) (old : Content) (outside : Outside) (x : Held) (i number : ℕ) (s : Said) → IsContent old → IsTokenThere old.kept st texts ended t
    → t.kind ≡ kind.ShortRef i → Holds old x → IsHeld old.kept st x → mapped_in old i ≡ mapped.To number → s ≡ said_of_number old.kept.doctype number
    → IsSpelledIn outside x texts ended (sized_ok t.length (kind_of_string (string_in old.kept texts t.length) (meaning_said outside (sources_of old.kept) (stacked_on old.kept.stack) number s)))
mapped-spelled st texts ended t old outside x i number s is there k h held named what =
    let m = to-mapped old.kept.doctype (name_in old i) number named in
    subst (λ (z : Result Meaning Reason). IsSpelledIn outside x texts ended (sized_ok t.length (kind_of_string (string_in old.kept texts t.length) z)))
    (said-meaning outside (sources_of old.kept) (stacked_on old.kept.stack) number (entity old.kept.doctype number) refl
    ∙ ap (meaning_said outside (sources_of old.kept) (stacked_on old.kept.stack) number) (sym what))
    (meant-spelled st texts ended t old outside x i m.0 (Some number) is there k h held m.1 m.2)

-- ITS ITEMS (7.6.1)
abbrev start_if : Bool → List Item
start_if b = if b then RecordStart ∷ [] else []

starts-by : (own : Text) → start_item own ≡ start_if (starts_record own)
starts-by [] = refl
starts-by (b ∷ bytes) = refl

none-noted : (fs : List Facts) → first_noted [] fs ≡ fs
none-noted [] = refl
none-noted (f ∷ fs) = refl

both-noted : (i j : Item) (fs : List Facts) → first_noted (j ∷ []) (first_noted (i ∷ []) fs) ≡ first_noted (i ∷ j ∷ []) fs
both-noted i j [] = refl
both-noted i j (f ∷ fs) = refl

started-ends : (b : Bool) (xs : List Inner) → ends_in (started b xs) ≡ first_noted (start_if b) (ends_in xs)
started-ends true xs = (noted-is-after RecordStart xs).0
started-ends false xs = sym (none-noted (ends_in xs))

started-settings : (b : Bool) (xs : List Inner) → settings_in (started b xs) ≡ settings_in xs
started-settings true xs = (noted-is-after RecordStart xs).1
started-settings false xs = refl

marked-ends : (b : Bool) (xs : List Inner) → ends_in (noted_in Markup (started b xs)) ≡ first_noted (start_if b ++ (Markup ∷ [])) (ends_in xs)
marked-ends true xs =
    (noted-is-after Markup (noted_in RecordStart xs)).0 ∙ (ap (first_noted (Markup ∷ [])) (noted-is-after RecordStart xs).0 ∙ both-noted RecordStart Markup (ends_in xs))
marked-ends false xs = (noted-is-after Markup xs).0

sets-none : (ss : List MapOf) → first_set map_of.Parent ss ≡ ss
sets-none [] = refl
sets-none (s ∷ ss) = refl

pub text-inside : (own : Text) (number : ℕ) (xs : List Inner) → IsInsideAfter (ShortRef own (ToText number)) xs (started (starts_record own) xs)
unfolding items_of map_set
text-inside own number xs = record {
  ends = started-ends (starts_record own) xs ∙ ap (λ items. first_noted items (ends_in xs)) (sym (starts-by own));
  settings = started-settings (starts_record own) xs ∙ sym (sets-none (settings_in xs));
}

pub instruction-inside : (own : Text) (number : ℕ) (text : Text) (xs : List Inner) → IsInsideAfter (ShortRef own (ToInstruction number text)) xs (noted_in Markup (started (starts_record own) xs))
unfolding items_of map_set
instruction-inside own number text xs = record {
  ends = marked-ends (starts_record own) xs ∙ ap (λ items. first_noted (items ++ (Markup ∷ [])) (ends_in xs)) (sym (starts-by own));
  settings = (noted-is-after Markup (started (starts_record own) xs)).1 ∙ (started-settings (starts_record own) xs ∙ sym (sets-none (settings_in xs)));
}

pub started-in-force : (c : Content) (b : Bool) → IsContent c → AreInForce c.kept.doctype (context_of c).levels (started b c.inside.elements)
started-in-force c true is = (stays c.kept.doctype (context_of c).levels c.inside.elements is.maps).noted RecordStart
started-in-force c false is = is.maps

pub marked-in-force : (c : Content) (b : Bool) → IsContent c → AreInForce c.kept.doctype (context_of c).levels (noted_in Markup (started b c.inside.elements))
marked-in-force c b is = (stays c.kept.doctype (context_of c).levels (started b c.inside.elements) (started-in-force c b is)).noted Markup
