-- The piece that a reference to a general entity is.
use Rattle.std.proofs.Common.{◌≡◌, ℕ, Bool, true, false, List, Option, None, Some, Result, Ok, Err, length, drop, take, nat_lt, refl, sym, ◌∙◌, ap, subst, if◌then◌else◌}
use Rattle.std.specs.Prelude.{option_map}
use Rattle.sgml_text.specs.declared.reason.Reason.{Reason}
use Rattle.sgml_text.specs.declared.reason.Reason.TheVariants as reason
use Rattle.sgml_entity.specs.declared.kinds.Body.{Body}
use Rattle.sgml_entity.specs.declared.kinds.Body.TheVariants as body
use Rattle.sgml_entity.specs.declared.kinds.Entity.{Entity}
use Rattle.sgml_entity.specs.declared.kinds.Space.TheVariants as space
use Rattle.sgml_entity.specs.Entities.{number_of}
use Rattle.sgml_scan.specs.markup.declared.kinds.TokenKind.TheVariants as kind
use Rattle.sgml_scan.specs.declared.state.ScanState.{ScanState}
use Rattle.sgml_scan.specs.declared.state.Token.{Token}
use Rattle.sgml_dtd.specs.Doctypes.{Doctype}
use Rattle.sgml_theory_reading.specs.Names.{Name, Text}
use Rattle.sgml_theory_reading.specs.Types.{entity, entity_number}
use Rattle.sgml_theory_reading.specs.Pieces.{Kind, Ref, ToText, ToInstruction}
use Rattle.sgml_theory_reading.specs.Unread.{Outside, Sources}
use Rattle.sgml_declared.specs.theory_spelling.Stacked.{Stacked}
use Rattle.sgml_declared.specs.theory_spelling.Sized.{sized_ok}
use Rattle.sgml_declared.specs.theory_spelling.References.{missing, unless, unopened, meaning_of_body, meaning_of_number, meaning_of}
use Rattle.sgml_declared.specs.theory_spelling.Content.{is_rcdata, kind_by_meaning, referred_name}
use Rattle.sgml_declared.specs.theory_standing.Kept.{Kept, sources_of}
use Rattle.sgml_declared.specs.theory_standing.Held.{Held, IsSpelledIn}
use Rattle.sgml_declared.specs.Opening.{absent_of, absent_by, unopened_of}
use Rattle.sgml_declared.specs.Taking.{stacked_on}
use Rattle.sgml_prolog_steps.specs.Found.{rest_in}
use Rattle.sgml_content_steps.specs.Standing.{IsHeld}
use Rattle.sgml_content_steps.specs.Found.{IsTokenThere}
use Rattle.sgml_content_steps.proofs.Pieces.{references-are-pieces}
use Rattle.sgml_content_references.specs.declared.entity.Said.{Said}
use Rattle.sgml_content_references.specs.declared.entity.Said.TheVariants as said
use Rattle.sgml_content_references.specs.Referring.{referred_in, said_in, said_of_number, kind_said}
use Rattle.sgml_content_references.specs.Strings.{meaning_said}

-- THE LOOK-UPS
pub number-is : (d : Doctype) (es : List Entity) (n m : Text) → es ≡ d.entities → n ≡ m → number_of es space.General n ≡ entity_number d space.General m
unfolding entity_number
number-is d es n m e f = λ i. number_of (e i) space.General (f i)

-- WHAT THE ENTITY IS tells the piece
instructed : (outside : Outside) (k : Sources) (t : Stacked) (number : ℕ) (text : Text) (b : Bool)
    → (if b then Err reason.PiLength else Ok (ToInstruction number text)) ≡ meaning_said outside k t number (if b then said.TooLong else said.Instructs text)
instructed outside k t number text true = refl
instructed outside k t number text false = refl

pub said-meaning : (outside : Outside) (k : Sources) (t : Stacked) (number : ℕ) (o : Option Entity) → entity k.doctype number ≡ o
    → meaning_of_body outside k t number (option_map (λ (e : Entity). e.body) o) ≡ meaning_said outside k t number (said_in k.doctype (option_map (λ (e : Entity). e.body) o))
unfolding unopened_of
said-meaning outside k t number None e = refl
said-meaning outside k t number (Some x) e = by x.body refl
  where
    by : (b : Body) → x.body ≡ b → meaning_of_body outside k t number (Some b) ≡ meaning_said outside k t number (said_in k.doctype (Some b))
    by (body.Sgml text) f =
        ap (λ a. unless (unopened outside k t number a) (ToText number))
        (sym (ap (λ o. absent_by o (missing outside k number)) e ∙ ap (λ b. absent_of b (missing outside k number)) f))
    by (body.External external) f =
        ap (λ a. unless (unopened outside k t number a) (ToText number))
        (sym (ap (λ o. absent_by o (missing outside k number)) e ∙ ap (λ b. absent_of b (missing outside k number)) f))
    by (body.Pi text) f = instructed outside k t number text (nat_lt k.doctype.syntax.quantities.pilen (length text))
    by (body.Cdata text) f = refl
    by (body.Sdata text) f = refl
    by (body.ExternalData kind external notation) f = refl

opened-or : (rcdata : Bool) (number : ℕ) (o : Option Reason) → kind_by_meaning rcdata (unless o (ToText number)) ≡ unless o (Ref number)
opened-or rcdata number None = refl
opened-or rcdata number (Some r) = refl

meaning-kind : (outside : Outside) (k : Sources) (t : Stacked) (rcdata : Bool) (number : ℕ) (s : Said) → kind_by_meaning rcdata (meaning_said outside k t number s) ≡ kind_said outside k t rcdata number s
meaning-kind outside k t rcdata number said.Reads = opened-or rcdata number (unopened_of outside k t number)
meaning-kind outside k t rcdata number said.Nothing = refl
meaning-kind outside k t rcdata number said.IsData = refl
meaning-kind outside k t rcdata number said.IsExternal = refl
meaning-kind outside k t rcdata number (said.Instructs text) = refl
meaning-kind outside k t rcdata number said.TooLong = refl

-- THE PIECE
abbrev name_in : Kept → List (ℕ × Text) → ℕ → Name
name_in k texts n = referred_name k.doctype (drop 1 (take n (rest_in k texts)))

reference-spelled : (st : ScanState) (texts : List (ℕ × Text)) (ended : Bool) (t : Token) (k : Kept) (outside : Outside) (x : Held) → IsTokenThere k st texts ended t → t.kind ≡ kind.EntityRef → IsHeld k st x
    → IsSpelledIn outside x texts ended (sized_ok t.length (kind_by_meaning (is_rcdata st.mode) (meaning_of outside (sources_of k) (stacked_on k.stack) (name_in k texts t.length))))
reference-spelled st texts ended t k outside x there is held =
    subst (λ (z : Kept). IsSpelledIn outside x texts ended (sized_ok t.length (kind_by_meaning (is_rcdata st.mode) (meaning_of outside (sources_of z) (stacked_on k.stack) (name_in k texts t.length))))) held.kept
    (references-are-pieces k st texts ended t there is outside x held)

pub unnamed-spelled : (st : ScanState) (texts : List (ℕ × Text)) (ended : Bool) (t : Token) (k : Kept) (outside : Outside) (x : Held) → IsTokenThere k st texts ended t → t.kind ≡ kind.EntityRef → IsHeld k st x
    → referred_in k texts t.length ≡ None → IsSpelledIn outside x texts ended (Err reason.Undeclared)
unfolding meaning_of
unnamed-spelled st texts ended t k outside x there is held named =
    subst (λ (a : Result Kind Reason). IsSpelledIn outside x texts ended (sized_ok t.length a))
    (ap (λ o. kind_by_meaning (is_rcdata st.mode) (meaning_of_number outside (sources_of k) (stacked_on k.stack) o)) named)
    (reference-spelled st texts ended t k outside x there is held)

pub said-spelled : (st : ScanState) (texts : List (ℕ × Text)) (ended : Bool) (t : Token) (k : Kept) (outside : Outside) (x : Held) (number : ℕ) (s : Said) → IsTokenThere k st texts ended t → t.kind ≡ kind.EntityRef
    → IsHeld k st x → referred_in k texts t.length ≡ Some number → s ≡ said_of_number k.doctype number
    → IsSpelledIn outside x texts ended (sized_ok t.length (kind_said outside (sources_of k) (stacked_on k.stack) (is_rcdata st.mode) number s))
unfolding meaning_of
said-spelled st texts ended t k outside x number s there is held named what =
    subst (λ (a : Result Kind Reason). IsSpelledIn outside x texts ended (sized_ok t.length a))
    (ap (λ o. kind_by_meaning (is_rcdata st.mode) (meaning_of_number outside (sources_of k) (stacked_on k.stack) o)) named
    ∙ (ap (kind_by_meaning (is_rcdata st.mode)) (said-meaning outside (sources_of k) (stacked_on k.stack) number (entity k.doctype number) refl)
    ∙ (meaning-kind outside (sources_of k) (stacked_on k.stack) (is_rcdata st.mode) number (said_of_number k.doctype number)
    ∙ ap (kind_said outside (sources_of k) (stacked_on k.stack) (is_rcdata st.mode) number) (sym what))))
    (reference-spelled st texts ended t k outside x there is held)
