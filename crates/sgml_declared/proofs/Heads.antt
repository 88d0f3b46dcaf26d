-- The head of a document type declaration is taken as it is spelled.
use Rattle.std.proofs.Common.{◌≡◌, ℕ, Bool, true, false, ◌&&◌, ◌≤◌, ◌+◌, ◌-◌, not, List, [], ◌∷◌, length, map, Option, Some, None, is_some, option_map, Err, refl, sym, ap, ◌∙◌, subst, if◌then◌else◌, arith}
use Rattle.std.specs.Option.{option_or}
use Rattle.sgml_text.specs.declared.place.Place.{Place}
use Rattle.sgml_text.specs.declared.reason.Reason.{Reason}
use Rattle.sgml_text.specs.declared.reason.Reason.TheVariants as reason
use Rattle.sgml_entity.specs.declared.kinds.External.{External}
use Rattle.sgml_entity.specs.Stack.{Stack, moved, opened, refusal, place_at}
use Rattle.sgml_entity.specs.Texts as given
use Rattle.sgml_decl_lexemes.specs.decl_parts.declared.ends.Construct.TheVariants.{Declaration as Declaring}
use Rattle.sgml_decl_lexemes.specs.declared.lexeme.Lexeme.{Lexeme}
use Rattle.sgml_decl_lexemes.specs.Sources.{reason_of}
use Rattle.sgml_decl_forms.specs.declared.doctype.DoctypeHead.{DoctypeHead}
use Rattle.sgml_decl_forms.specs.declared.declaration.Declaration.{Declaration}
use Rattle.sgml_decl_forms.specs.declared.declaration.Declaration.TheVariants as form
use Rattle.sgml_decl_forms.specs.Declarations.{declaration_at}
use Rattle.sgml_dtd.specs.Doctypes.{Doctype}
use Rattle.sgml_theory_standing.specs.theory_reading.Names.{Name, Text}
use Rattle.sgml_theory_standing.specs.theory_reading.Types.{entity}
use Rattle.sgml_theory_standing.specs.theory_reading.Pieces.{Piece}
use Rattle.sgml_theory_standing.specs.theory_reading.Pieces as pieces
use Rattle.sgml_theory_standing.specs.theory_reading.Facets.{ExternalSubset, OpensText, StaysInText, declares, subset_named, subset_number, turn, turn_of_external}
use Rattle.sgml_theory_standing.specs.theory_reading.Unread as reading
use Rattle.sgml_theory_standing.specs.theory_reading.Unread.{Outside, Sources, Found, Fetched, fetched_text, found_text, file_of, file_of_subset, turned, opened_length}
use Rattle.sgml_theory_standing.specs.theory_spelling.Stacked.{Stacked}
use Rattle.sgml_theory_standing.specs.theory_spelling.Sized.{sized_spent, unless_reason}
use Rattle.sgml_theory_standing.specs.theory_spelling.References.{missing, missing_file, missing_fetched, unopened, unopened_subset, subset_unopened}
use Rattle.sgml_theory_standing.specs.theory_spelling.Declared.{Lexed}
use Rattle.sgml_theory_standing.specs.theory_spelling.Opened.{StackShows}
use Rattle.sgml_theory_standing.specs.theory_spelling.Prolog.{sources_after, subset_reason, head_reason, head_by, head_lexed}
use Rattle.sgml_theory_standing.specs.theory_spelling.Tags.{with_spent}
use Rattle.sgml_theory_standing.proofs.theory_spelling.Opened.{unopened-is-refused}
use Rattle.sgml_theory_standing.proofs.theory_spelling.Judged.{added-is-unopposed}
use Rattle.sgml_theory_standing.specs.Supplied.{IsInFile}
use Rattle.sgml_declared.specs.Files.{Choices, IsOutsideOf, InEach, base_at, sources_in}
use Rattle.sgml_declared.specs.declared.error.TakeError.{TakeError}
use Rattle.sgml_declared.specs.declared.error.TakeError.TheVariants.{Refused, Wanted, Memory}
use Rattle.sgml_declared.specs.declared.head.Head.{Head}
use Rattle.sgml_declared.specs.Taking.{stacked_on, IsAround}
use Rattle.sgml_declared.specs.Heads.{head_spelled, IsHead, after_head, IsGivenAsAsked, IsHeadTaken, IsHeadStopped}
use Rattle.sgml_declared.specs.Reading.{AreLexemes}
use Rattle.sgml_declared.specs.Over.{IsReadOver, IsHeadOver}
use Rattle.sgml_declared.specs.Adding.{head_said, opens_subset, subset_file, against, subset_rows, rows, IsOpening, IsAsked, IsHeadAdded, IsNotNamed, IsNoHead, IsNotAddedBy, IsNotAdded}

-- WHAT IS OPENED after it

stays-by : (subset : Bool) (external : Option External) → (not subset && is_some external) ≡ false → (if subset then StaysInText else turn_of_external external) ≡ StaysInText
stays-by true external e = refl
stays-by false None e = refl
stays-by false (Some x) e = cc e

stays : (head : DoctypeHead) (base : Name) → opens_subset head ≡ false → turn (pieces.Head head base) ≡ StaysInText
unfolding turn
stays head base e = stays-by head.subset head.external e

opens-by : (subset : Bool) (external : Option External) → (not subset && is_some external) ≡ true → (if subset then StaysInText else turn_of_external external) ≡ OpensText subset_number
opens-by true external e = cc e
opens-by false None e = cc e
opens-by false (Some x) e = refl

opens : (head : DoctypeHead) (base : Name) → opens_subset head ≡ true → turn (pieces.Head head base) ≡ OpensText subset_number
unfolding turn
opens head base e = opens-by head.subset head.external e

-- THE REASON, by rows

or-none : {A : Type 0} (o : Option A) → option_or o None ≡ o
or-none None = refl
or-none (Some a) = refl

without : (outside : Outside) (k : Sources) (t : Stacked) (unfit : Option Reason) → k.subset ≡ None → subset_reason outside k t unfit ≡ unfit
unfolding subset_unopened
without outside k t unfit e =
    (λ i. option_or (if is_some (e i) then missing outside k subset_number else None) (option_or unfit (unopened_subset outside k t (e i)))) ∙ or-none unfit

plain-by : (outside : Outside) (k : Sources) (t : Stacked) (unfit : Option Reason) (base : Name) (name : Name) (external : Option External) (subset : Bool) → k.subset ≡ None
    → (not subset && is_some external) ≡ false
    → head_reason subset outside (sources_after k base (record { name = name; external = external; subset = subset })) t unfit ≡ unfit
unfolding subset_named
plain-by outside k t unfit base name external true none e = refl
plain-by outside k t unfit base name None false none e = without outside (sources_after k base (record { name = name; external = None; subset = false })) t unfit none
plain-by outside k t unfit base name (Some x) false none e = cc e

with-subset : (outside : Outside) (k : Sources) (t : Stacked) (unfit : Option Reason) (named : ExternalSubset) → k.subset ≡ Some named
    → subset_reason outside k t unfit ≡ option_or (missing outside k subset_number) (option_or unfit (unopened outside k t subset_number (missing outside k subset_number)))
unfolding subset_unopened
with-subset outside k t unfit named e = λ i. option_or (if is_some (e i) then missing outside k subset_number else None) (option_or unfit (unopened_subset outside k t (e i)))

subset-by : (k : Sources) (base : Name) (name : Name) (external : Option External) (subset : Bool) → (not subset && is_some external) ≡ true
    → (named : ExternalSubset) × ((sources_after k base (record { name = name; external = external; subset = subset })).subset ≡ Some named)
    × (subset_named (pieces.Head (record { name = name; external = external; subset = subset }) base) ≡ Some named) × (subset ≡ false)
unfolding subset_named
subset-by k base name external true e = cc e
subset-by k base name None false e = cc e
subset-by k base name (Some x) false e = (record { external = x; base = base }, refl, refl, refl)

file-by : (c : Choices) (outside : Outside) (d : Doctype) (base : Name) (name : Name) (external : Option External) (subset : Bool) → IsOutsideOf c outside
    → file_of outside (sources_after (sources_in d None) base (record { name = name; external = external; subset = subset })) subset_number
    ≡ subset_file c d base (record { name = name; external = external; subset = subset })
unfolding file_of subset_named
file-by c outside d base name None subset o = refl
file-by c outside d base name (Some x) subset o = o.resolved Rattle.sgml_catalog.specs.declared.catalog.Kind.TheVariants.Doctype (Rattle.sgml_names.specs.Naming.general_name d.syntax name) x base

-- its file isn't there
lacking : (outside : Outside) (k : Sources) (t : Stacked) (unfit : Option Reason) (base : Name) (head : DoctypeHead) (r : Reason) → opens_subset head ≡ true
    → missing outside (sources_after k base head) subset_number ≡ Some r → head_reason head.subset outside (sources_after k base head) t unfit ≡ Some r
lacking outside k t unfit base head r e m =
    let k' = sources_after k base head in
    let s = subset-by k base head.name head.external head.subset e in
    ap (λ b. head_reason b outside k' t unfit) s.3
    ∙ (with-subset outside k' t unfit s.0 s.1
    ∙ ap (λ o. option_or o (option_or unfit (unopened outside k' t subset_number (missing outside k' subset_number)))) m)

-- or it is
text-is : (outside : Outside) (k : Sources) (text : Text) → IsInFile outside k subset_number text → reading.text_of outside k subset_number ≡ text
unfolding reading.text_of entity
text-is outside k text f = ap (fetched_text outside) f.named ∙ ap found_text f.found

there : (outside : Outside) (k : Sources) (t : Stacked) (m : Stack) (unfit : Option Reason) (base : Name) (head : DoctypeHead) (text : Text) → opens_subset head ≡ true
    → IsInFile outside (sources_after k base head) subset_number text → StackShows m outside (sources_after k base head).doctype t
    → head_reason head.subset outside (sources_after k base head) t unfit ≡ option_or unfit (option_map reason_of (refusal subset_number (length text) m))
there outside k t m unfit base head text e f shows =
    let k' = sources_after k base head in
    let s = subset-by k base head.name head.external head.subset e in
    let none = ap (missing_file outside) f.named ∙ ap missing_fetched f.found in
    ap (λ b. head_reason b outside k' t unfit) s.3
    ∙ (with-subset outside k' t unfit s.0 s.1
    ∙ (ap (λ o. option_or o (option_or unfit (unopened outside k' t subset_number o))) none
    ∙ (ap (λ o. option_or unfit o) (unopened-is-refused m outside k' t subset_number shows)
    ∙ ap (λ x. option_or unfit (option_map reason_of (refusal subset_number (length x) m))) (text-is outside k' text f))))

-- THE STACK shows what is open

entities-moved : (n : ℕ) (ps : List Place) → map (λ (p : Place). p.entity) (moved n ps) ≡ map (λ (p : Place). p.entity) ps
entities-moved n [] = refl
entities-moved n (p ∷ ps) = refl

shown : (c : Choices) (outside : Outside) (d : Doctype) (texts : List (ℕ × Text)) (s m : Stack) (n : ℕ) (ds : List Lexeme) (base : Name) (head : DoctypeHead)
    → IsAround c outside (sources_in d None) texts s → AreLexemes Declaring outside (sources_in d None) texts s m n ds
    → StackShows m outside (sources_after (sources_in d None) base head).doctype (with_spent (stacked_on s) m.spent)
shown c outside d texts s m n ds base head a x = record {
  levels = ap (λ (z : Stack). z.levels) x.stack ∙ a.levels;
  expand = ap (λ (z : Stack). z.expand) x.stack ∙ a.expand;
  spent = refl;
  entities = ap (λ (z : Stack). map (λ (p : Place). p.entity) z.places) x.stack ∙ entities-moved n s.places;
}

-- WHAT IS SPELLED, where a head is declared

said-none : (outside : Outside) (k : Sources) (t : Stacked) (n : ℕ) (x : Lexed) (o : Option Declaration) → head_said o ≡ None → head_by outside k t n x o ≡ Err reason.DeclarationSyntax
said-none outside k t n x None e = refl
said-none outside k t n x (Some (form.Element y)) e = refl
said-none outside k t n x (Some (form.Attlist y)) e = refl
said-none outside k t n x (Some (form.Entity y)) e = refl
said-none outside k t n x (Some (form.Notation y)) e = refl
said-none outside k t n x (Some (form.Shortref y)) e = refl
said-none outside k t n x (Some (form.Usemap y)) e = refl
said-none outside k t n x (Some (form.Doctype y)) e = cc e

said-some : (o : Option Declaration) (head : DoctypeHead) → head_said o ≡ Some head → o ≡ Some (form.Doctype head)
said-some None head e = cc e
said-some (Some (form.Element y)) head e = cc e
said-some (Some (form.Attlist y)) head e = cc e
said-some (Some (form.Entity y)) head e = cc e
said-some (Some (form.Notation y)) head e = cc e
said-some (Some (form.Shortref y)) head e = cc e
said-some (Some (form.Usemap y)) head e = cc e
said-some (Some (form.Doctype y)) head e = cc e

abbrev head-why : Outside → Doctype → Stack → Stack → List Lexeme → Name → DoctypeHead → Option Reason
head-why outside d s m ds base head =
    head_reason head.subset outside (sources_after (sources_in d None) base head) (with_spent (stacked_on s) m.spent) (against d ds head)

abbrev head-as : Outside → Doctype → Stack → Stack → ℕ → DoctypeHead → Piece
head-as outside d s m n head = sized_spent n (m.spent - s.spent) (pieces.Head head (base_at outside (sources_in d None) s))

said-spelled : (outside : Outside) (d : Doctype) (texts : List (ℕ × Text)) (s m : Stack) (n : ℕ) (ds : List Lexeme) (head : DoctypeHead)
    → declaration_at ds ≡ Some (form.Doctype head) → AreLexemes Declaring outside (sources_in d None) texts s m n ds
    → head_spelled outside (sources_in d None) texts s n
    ≡ unless_reason (head-why outside d s m ds (base_at outside (sources_in d None) s) head) (head-as outside d s m n head)
said-spelled outside d texts s m n ds head e x =
    let k = sources_in d None in
    let x' : Lexed = record { lexemes = ds; spent = m.spent } in
    ap (head_lexed outside k (stacked_on s) n) x.lexed ∙ ap (head_by outside k (stacked_on s) n x') e

stands : (outside : Outside) (d : Doctype) (texts : List (ℕ × Text)) (s m : Stack) (n : ℕ) (ds : List Lexeme) (head : DoctypeHead)
    → declaration_at ds ≡ Some (form.Doctype head) → AreLexemes Declaring outside (sources_in d None) texts s m n ds → IsHead outside (sources_in d None) texts s n head
stands outside d texts s m n ds head e x = record { lexemes = record { lexemes = ds; spent = m.spent }; are = x.lexed; says = e }

-- the text that was given for the external subset, if so, is the one in its file
abbrev IsSubsetThere : Bool → Outside → Doctype → List (ℕ × Text) → Stack → DoctypeHead → Type 0
IsSubsetThere so outside d texts s head =
    (text : Text) → so ≡ true → given.text_of texts subset_number ≡ Some text
    → IsInFile outside (sources_after (sources_in d None) (base_at outside (sources_in d None) s) head) subset_number text

asked-file : (o : Option Text) (text : Text) (file asked : Option Name) → o ≡ Some text → IsAsked true o file asked → asked ≡ file
asked-file None text file asked e h = cc e
asked-file (Some x) text file asked e h = h

subset-there : (c : Choices) (outside : Outside) (d : Doctype) (texts : List (ℕ × Text)) (asked : Option Name) (s : Stack) (head : DoctypeHead) (so : Bool)
    → IsOutsideOf c outside → IsGivenAsAsked outside texts asked
    → IsAsked so (given.text_of texts subset_number) (subset_file c d (base_at outside (sources_in d None) s) head) asked
    → IsSubsetThere so outside d texts s head
subset-there c outside d texts asked s head so o supplied h text is t =
    let base = base_at outside (sources_in d None) s in
    let same = asked-file (given.text_of texts subset_number) text (subset_file c d base head) asked t
    (subst (λ b. IsAsked b (given.text_of texts subset_number) (subset_file c d base head) asked) is h) in
    let f = supplied text t in
    record { file = f.0; named = file-by c outside d base head.name head.external head.subset o ∙ (sym same ∙ f.1); found = f.2 }

-- one that is opened is named
names-by : (subset : Bool) (external : Option External) → (not subset && is_some external) ≡ true → is_some external ≡ true
names-by true external e = cc e
names-by false external e = e

named-by : (external : Option External) (base : Name) (named : ExternalSubset) → option_map (λ x. record { external = x; base = base }) external ≡ Some named → is_some external ≡ true
named-by None base named e = cc e
named-by (Some x) base named e = refl

-- IT IS REFUSED by the rows
rows-spelled : (c : Choices) (outside : Outside) (d : Doctype) (texts : List (ℕ × Text)) (s m : Stack) (n : ℕ) (ds : List Lexeme) (head : DoctypeHead) (r : Reason)
    → declaration_at ds ≡ Some (form.Doctype head) → AreLexemes Declaring outside (sources_in d None) texts s m n ds → IsSubsetThere (opens_subset head) outside d texts s head
    → IsAround c outside (sources_in d None) texts s → (o : Bool) → opens_subset head ≡ o → (text : Option Text) → given.text_of texts subset_number ≡ text
    → (file : Option Name) → subset_file c d (base_at outside (sources_in d None) s) head ≡ file
    → (if o then subset_rows (against d ds head) m text file else against d ds head) ≡ Some r
    → head-why outside d s m ds (base_at outside (sources_in d None) s) head ≡ Some r
rows-spelled c outside d texts s m n ds head r e x there_is a false o text t file f h =
    let k = sources_in d None in
    plain-by outside k (with_spent (stacked_on s) m.spent) (against d ds head) (base_at outside k s) head.name head.external head.subset refl o ∙ h
rows-spelled c outside d texts s m n ds head r e x there_is a true o (Some text) t file f h =
    let k = sources_in d None in
    there outside k (with_spent (stacked_on s) m.spent) m (against d ds head) (base_at outside k s) head text o
    (there_is text o t)
    (shown c outside d texts s m n ds (base_at outside k s) head a x)
    ∙ h
rows-spelled c outside d texts s m n ds head r e x there_is a true o None t None f h =
    let k = sources_in d None in
    let base = base_at outside k s in
    lacking outside k (with_spent (stacked_on s) m.spent) (against d ds head) base head r o
    (ap (missing_file outside) (file-by c outside d base head.name head.external head.subset a.of_options ∙ f) ∙ h)
rows-spelled c outside d texts s m n ds head r e x there_is a true o None t (Some file) f h = cc h

rows-by : (c : Choices) (d : Doctype) (texts : List (ℕ × Text)) (ds : List Lexeme) (base : Name) (s : Stack) (head : DoctypeHead) (o : Bool)
    → rows c d texts ds base s head o
    ≡ (if o then subset_rows (against d ds head) s (given.text_of texts subset_number) (subset_file c d base head) else against d ds head)
rows-by c d texts ds base s head true = refl
rows-by c d texts ds base s head false = refl

named-refused : (c : Choices) (outside : Outside) (d : Doctype) (texts : List (ℕ × Text)) (asked : Option Name) (s m : Stack) (n : ℕ) (ds : List Lexeme) (e : TakeError) (head : DoctypeHead)
    → declaration_at ds ≡ Some (form.Doctype head) → IsNotNamed c d texts asked ds (base_at outside (sources_in d None) s) m head e
    → IsAround c outside (sources_in d None) texts s → IsGivenAsAsked outside texts asked → AreLexemes Declaring outside (sources_in d None) texts s m n ds
    → IsHeadStopped outside (sources_in d None) texts s n e
named-refused c outside d texts asked s m n ds (Refused r) head says h a supplied x =
    let base = base_at outside (sources_in d None) s in
    let there_is = subset-there c outside d texts asked s head (opens_subset head) a.of_options supplied h.1 in
    said-spelled outside d texts s m n ds head says x
    ∙ ap (λ o. unless_reason o (head-as outside d s m n head))
    (rows-spelled c outside d texts s m n ds head r says x there_is a (opens_subset head) refl (given.text_of texts subset_number) refl (subset_file c d base head) refl
    (sym (rows-by c d texts ds base m head (opens_subset head)) ∙ h.0))
named-refused c outside d texts asked s m n ds (Wanted number file) head says h a supplied x =
    let k = sources_in d None in
    let base = base_at outside k s in
    let at = file-by c outside d base head.name head.external head.subset a.of_options ∙ h.3 in
    record {
      head = head;
      stands = stands outside d texts s m n ds head says x;
      subset = h.0;
      absent = ap (given.text_of texts) h.0 ∙ h.2;
      named = ap (file_of outside (sources_after k base head)) h.0 ∙ at;
      missing = λ r gone. said-spelled outside d texts s m n ds head says x
          ∙ ap (λ o. unless_reason o (head-as outside d s m n head))
          (lacking outside k (with_spent (stacked_on s) m.spent) (against d ds head) base head r h.1 (ap (missing_file outside) at ∙ gone));
    }
named-refused c outside d texts asked s m n ds Memory head says h a supplied x = tt

none-refused : (outside : Outside) (d : Doctype) (texts : List (ℕ × Text)) (s m : Stack) (n : ℕ) (ds : List Lexeme) (e : TakeError)
    → head_said (declaration_at ds) ≡ None → IsNoHead e → AreLexemes Declaring outside (sources_in d None) texts s m n ds → IsHeadStopped outside (sources_in d None) texts s n e
none-refused outside d texts s m n ds (Refused r) says h x =
    let k = sources_in d None in
    let x' : Lexed = record { lexemes = ds; spent = m.spent } in
    ap (head_lexed outside k (stacked_on s) n) x.lexed ∙ (said-none outside k (stacked_on s) n x' (declaration_at ds) says ∙ ap Err (sym h))
none-refused outside d texts s m n ds (Wanted number file) says h x = absurd h
none-refused outside d texts s m n ds Memory says h x = tt

refused-by : (c : Choices) (outside : Outside) (d : Doctype) (texts : List (ℕ × Text)) (asked : Option Name) (s m : Stack) (n : ℕ) (ds : List Lexeme) (e : TakeError) (o : Option DoctypeHead)
    → head_said (declaration_at ds) ≡ o → IsNotAddedBy c d texts asked ds (base_at outside (sources_in d None) s) m e o
    → IsAround c outside (sources_in d None) texts s → IsGivenAsAsked outside texts asked → AreLexemes Declaring outside (sources_in d None) texts s m n ds
    → IsHeadStopped outside (sources_in d None) texts s n e
refused-by c outside d texts asked s m n ds e None says h a supplied x = none-refused outside d texts s m n ds e says h x
refused-by c outside d texts asked s m n ds e (Some head) says h a supplied x =
    named-refused c outside d texts asked s m n ds e head (said-some (declaration_at ds) head says) h a supplied x

pub head-refused : (c : Choices) (outside : Outside) (d : Doctype) (texts : List (ℕ × Text)) (asked : Option Name) (s m : Stack) (n : ℕ) (ds : List Lexeme) (base : Name) (e : TakeError)
    → InEach c (λ outside. base_at outside (sources_in d None) s) base → IsNotAdded c d texts asked ds base m e
    → IsAround c outside (sources_in d None) texts s → IsGivenAsAsked outside texts asked → AreLexemes Declaring outside (sources_in d None) texts s m n ds
    → IsHeadStopped outside (sources_in d None) texts s n e
head-refused c outside d texts asked s m n ds base e base_is h a supplied x =
    refused-by c outside d texts asked s m n ds e (head_said (declaration_at ds)) refl (subst (λ b. IsNotAdded c d texts asked ds b m e) (base_is outside a.of_options) h) a supplied x

-- IT IS TAKEN

none-why : (c : Choices) (outside : Outside) (d : Doctype) (texts : List (ℕ × Text)) (s m t : Stack) (n : ℕ) (ds : List Lexeme) (head : DoctypeHead)
    → declaration_at ds ≡ Some (form.Doctype head) → AreLexemes Declaring outside (sources_in d None) texts s m n ds → IsSubsetThere (opens_subset head) outside d texts s head
    → IsAround c outside (sources_in d None) texts s → (o : Bool) → opens_subset head ≡ o → IsOpening o texts m t → against d ds head ≡ None
    → head-why outside d s m ds (base_at outside (sources_in d None) s) head ≡ None
none-why c outside d texts s m t n ds head e x there_is a false o h none =
    let k = sources_in d None in
    plain-by outside k (with_spent (stacked_on s) m.spent) (against d ds head) (base_at outside k s) head.name head.external head.subset refl o ∙ none
none-why c outside d texts s m t n ds head e x there_is a true o h none =
    let k = sources_in d None in
    there outside k (with_spent (stacked_on s) m.spent) m (against d ds head) (base_at outside k s) head h.0 o
    (there_is h.0 o h.1)
    (shown c outside d texts s m n ds (base_at outside k s) head a x)
    ∙ (λ i. option_or (none i) (option_map reason_of (h.2 i)))

stack-by : (outside : Outside) (d : Doctype) (texts : List (ℕ × Text)) (s m t : Stack) (n : ℕ) (ds : List Lexeme) (head : DoctypeHead)
    → declaration_at ds ≡ Some (form.Doctype head) → AreLexemes Declaring outside (sources_in d None) texts s m n ds → IsSubsetThere (opens_subset head) outside d texts s head
    → (o : Bool) → opens_subset head ≡ o → IsOpening o texts m t
    → t ≡ record s {
      spent = s.spent + ((m.spent - s.spent) + opened_length (reading.text_of outside (after_head outside (sources_in d None) s head)) (turn (pieces.Head head (base_at outside (sources_in d None) s))));
      places = turned (turn (pieces.Head head (base_at outside (sources_in d None) s))) (moved n s.places);
    }
stack-by outside d texts s m t n ds head e x there_is false o h =
    let k = sources_in d None in
    let f = reading.text_of outside (after_head outside k s head) in
    let low : s.spent ≤ m.spent = x.grown in
    let num : m.spent ≡ s.spent + ((m.spent - s.spent) + 0) = omega (arith, low) in
    h
    ∙ (x.stack
    ∙ (ap (λ z. record s { spent = z; places = moved n s.places }) num
    ∙ ap (λ turn. record s { spent = s.spent + ((m.spent - s.spent) + opened_length f turn); places = turned turn (moved n s.places) }) (sym (stays head (base_at outside k s) o))))
stack-by outside d texts s m t n ds head e x there_is true o h =
    let k = sources_in d None in
    let k' = after_head outside k s head in
    let f = reading.text_of outside k' in
    let low : s.spent ≤ m.spent = x.grown in
    let size : length h.0 ≡ length (f subset_number) = ap length (sym (text-is outside k' h.0 (there_is h.0 o h.1))) in
    let num : m.spent + length h.0 ≡ s.spent + ((m.spent - s.spent) + length (f subset_number)) = omega (arith, low, size) in
    h.3
    ∙ (ap (opened subset_number (length h.0)) x.stack
    ∙ (ap (λ z. record s { spent = z; places = place_at subset_number 0 ∷ moved n s.places }) num
    ∙ ap (λ turn. record s { spent = s.spent + ((m.spent - s.spent) + opened_length f turn); places = turned turn (moved n s.places) }) (sym (opens head (base_at outside k s) o))))

same-number : (a b : ℕ) → OpensText a ≡ OpensText b → a ≡ b
same-number a b e = cc e

never-opens : {A : Type 0} (b : ℕ) → StaysInText ≡ OpensText b → A
never-opens b e = cc e

there-by : (outside : Outside) (d : Doctype) (texts : List (ℕ × Text)) (s m t : Stack) (n : ℕ) (ds : List Lexeme) (head : DoctypeHead)
    → declaration_at ds ≡ Some (form.Doctype head) → AreLexemes Declaring outside (sources_in d None) texts s m n ds → IsSubsetThere (opens_subset head) outside d texts s head
    → (o : Bool) → opens_subset head ≡ o → IsOpening o texts m t
    → (number : ℕ) → turn (pieces.Head head (base_at outside (sources_in d None) s)) ≡ OpensText number
    → given.text_of texts number ≡ Some (reading.text_of outside (after_head outside (sources_in d None) s head) number)
there-by outside d texts s m t n ds head e x there_is false o h number is =
    never-opens number (sym (stays head (base_at outside (sources_in d None) s) o) ∙ is)
there-by outside d texts s m t n ds head e x there_is true o h number is =
    let k = sources_in d None in
    let k' = after_head outside k s head in
    let same = same-number subset_number number (sym (opens head (base_at outside k s) o) ∙ is) in
    subst (λ z. given.text_of texts z ≡ Some (reading.text_of outside k' z)) same
    (h.1 ∙ ap Some (sym (text-is outside k' h.0 (there_is h.0 o h.1))))

pub head-taken : (c : Choices) (outside : Outside) (d : Doctype) (texts : List (ℕ × Text)) (asked : Option Name) (s m t : Stack) (n : ℕ) (ds : List Lexeme) (base : Name) (e : Doctype) (h : Head)
    → InEach c (λ outside. base_at outside (sources_in d None) s) base → IsHeadAdded c d texts asked ds base e m t h
    → IsAround c outside (sources_in d None) texts s → IsGivenAsAsked outside texts asked → AreLexemes Declaring outside (sources_in d None) texts s m n ds
    → IsHeadTaken outside (sources_in d None) texts e s t n h
unfolding declares subset_named
head-taken c outside d texts asked s m t n ds base e h base_is added a supplied x =
    let head = added.head in
    let says = added.says in
    let named = added.named in
    let none = added-is-unopposed base ds d e (form.Doctype head) named.after in
    let file = subst (λ b. IsAsked (is_some head.external) (given.text_of texts subset_number) (subset_file c d b head) asked) (base_is outside a.of_options) named.file in
    let given_is = subset-there c outside d texts asked s head (is_some head.external) a.of_options supplied file in
    let there_is : IsSubsetThere (opens_subset head) outside d texts s head = λ text o t. given_is text (names-by head.subset head.external o) t in
    record {
      head = head;
      piece = head-as outside d s m n head;
      spelled = said-spelled outside d texts s m n ds head says x
          ∙ ap (λ o. unless_reason o (head-as outside d s m n head))
          (none-why c outside d texts s m t n ds head says x there_is a (opens_subset head) refl named.opening none);
      kind = refl;
      size = refl;
      declared = named.after.is;
      external = added.external ∙ ap (λ b. option_map (λ x. record { external = x; base = b }) head.external) (base_is outside a.of_options);
      subset = added.subset;
      stack = stack-by outside d texts s m t n ds head says x there_is (opens_subset head) refl named.opening;
      there = there-by outside d texts s m t n ds head says x there_is (opens_subset head) refl named.opening;
      in_file = λ of text is t. given_is text (named-by head.external (base_at outside (sources_in d None) s) of is) t;
    }

-- and whatever the outside is
pub head-over : (c : Choices) (d : Doctype) (texts : List (ℕ × Text)) (asked : Option Name) (s m t : Stack) (n : ℕ) (ds : List Lexeme) (base : Name) (e : Doctype) (h : Head)
    → IsHeadAdded c d texts asked ds base e m t h → IsReadOver n s m → IsHeadOver d e texts s t h n
unfolding subset_named
head-over c d texts asked s m t n ds base e h added over = record {
  head = added.head;
  base = base;
  is = added.named.after.is;
  external = added.external;
  subset = added.subset;
  over = m;
  read_over = over;
  opening = added.named.opening;
}
