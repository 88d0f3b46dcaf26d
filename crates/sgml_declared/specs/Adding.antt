-- How the head of a document type declaration is added, by the rows of what stands against it.
use Rattle.std.specs.Prelude.{◌≡◌, ℕ, Bool, true, false, ◌&&◌, not, List, Option, Some, None, option_map, option_and_then, is_some, length}
use Rattle.std.specs.Option.{option_or}
use Rattle.sgml_text.specs.declared.reason.Reason.{Reason}
use Rattle.sgml_text.specs.declared.reason.Reason.TheVariants as reason
use Rattle.sgml_syntax.specs.declared.syntax.Syntax.{Syntax}
use Rattle.sgml_entity.specs.declared.kinds.External.{External}
use Rattle.sgml_entity.specs.Stack.{Stack, opened, refusal}
use Rattle.sgml_entity.specs.Texts.{text_of}
use Rattle.sgml_names.specs.Naming.{general_name}
use Rattle.sgml_catalog.specs.declared.catalog.Kind.TheVariants.{Doctype as DoctypeEntry}
use Rattle.sgml_decl_lexemes.specs.declared.lexeme.Lexeme.{Lexeme}
use Rattle.sgml_decl_lexemes.specs.Sources.{reason_of}
use Rattle.sgml_decl_forms.specs.declared.doctype.DoctypeHead.{DoctypeHead}
use Rattle.sgml_decl_forms.specs.declared.declaration.Declaration.{Declaration}
use Rattle.sgml_decl_forms.specs.declared.declaration.Declaration.TheVariants as form
use Rattle.sgml_decl_forms.specs.Declarations.{declaration_at}
use Rattle.sgml_dtd.specs.Doctypes.{Doctype}
use Rattle.sgml_dtd.specs.Errors.{IsAfter}
use Rattle.sgml_theory_standing.specs.theory_reading.Names.{Name, Text}
use Rattle.sgml_theory_standing.specs.theory_reading.Facets.{subset_number}
use Rattle.sgml_theory_standing.specs.theory_spelling.Declared.{reason_against}
use Rattle.sgml_declared.specs.Files.{Choices, file_name}
use Rattle.sgml_declared.specs.declared.error.TakeError.{TakeError}
use Rattle.sgml_declared.specs.declared.error.TakeError.TheVariants.{Refused, Wanted, Memory}
use Rattle.sgml_declared.specs.declared.head.Head.{Head}

-- the head that is declared
abbrev pub head_said : Option Declaration → Option DoctypeHead
head_said (Some (form.Doctype head)) = Some head
head_said _ = None

-- it names an external subset, which no internal one comes before
abbrev pub opens_subset : DoctypeHead → Bool
opens_subset head = not head.subset && is_some head.external

-- the file of that
abbrev pub named_file : Choices → Syntax → Name → External → Name → Option Name
named_file c syntax name external base = file_name c DoctypeEntry (general_name syntax name) external base

abbrev pub subset_file : Choices → Doctype → Name → DoctypeHead → Option Name
subset_file c d base head = option_and_then (λ x. named_file c d.syntax head.name x base) head.external

abbrev pub against : Doctype → List Lexeme → DoctypeHead → Option Reason
against d ds head = reason_against d ds (form.Doctype head)

-- what is against it is this
abbrev pub IsRefusedFor : Doctype → List Lexeme → DoctypeHead → TakeError → Type 0
IsRefusedFor d ds head (Refused r) = against d ds head ≡ Some r
IsRefusedFor d ds head (Wanted number file) = ⊥
IsRefusedFor d ds head Memory = Unit {0}

-- the first row where its text isn't there, or is
abbrev pub subset_rows : Option Reason → Stack → Option Text → Option Name → Option Reason
subset_rows unfit s None None = Some reason.Unresolved
subset_rows unfit s None (Some file) = None
subset_rows unfit s (Some text) file = option_or unfit (option_map reason_of (refusal subset_number (length text) s))

abbrev pub rows : Choices → Doctype → List (ℕ × Text) → List Lexeme → Name → Stack → DoctypeHead → Bool → Option Reason
rows c d texts ds base s head true = subset_rows (against d ds head) s (text_of texts subset_number) (subset_file c d base head)
rows c d texts ds base s head false = against d ds head

-- THE STACK after it
abbrev pub IsOpening : Bool → List (ℕ × Text) → Stack → Stack → Type 0
IsOpening true texts s t =
    (text : Text) × (text_of texts subset_number ≡ Some text) × (refusal subset_number (length text) s ≡ None) × (t ≡ opened subset_number (length text) s)
IsOpening false texts s t = t ≡ s

-- THE FILE of a text that was given was asked for
abbrev pub IsAskedBy : Option Text → Option Name → Option Name → Type 0
IsAskedBy None file asked = Unit {0}
IsAskedBy (Some text) file asked = asked ≡ file

abbrev pub IsAsked : Bool → Option Text → Option Name → Option Name → Type 0
IsAsked true text file asked = IsAskedBy text file asked
IsAsked false text file asked = Unit {0}

-- it is added
pub record IsNamed (c : Choices) (d : Doctype) (texts : List (ℕ × Text)) (asked : Option Name) (ds : List Lexeme) (base : Name) (e : Doctype) (s t : Stack) (head : DoctypeHead) : Type 0 where
  pub after : IsAfter base ds d e (form.Doctype head)
  pub opening : IsOpening (opens_subset head) texts s t
  pub file : IsAsked (is_some head.external) (text_of texts subset_number) (subset_file c d base head) asked

pub record IsHeadAdded (c : Choices) (d : Doctype) (texts : List (ℕ × Text)) (asked : Option Name) (ds : List Lexeme) (base : Name) (e : Doctype) (s t : Stack) (h : Head) : Type 0 where
  pub head : DoctypeHead
  pub says : declaration_at ds ≡ Some (form.Doctype head)
  pub named : IsNamed c d texts asked ds base e s t head
  pub external : h.external ≡ option_map (λ x. record { external = x; base = base }) head.external
  pub subset : h.subset ≡ head.subset

-- why it isn't
abbrev pub IsNotNamed : Choices → Doctype → List (ℕ × Text) → Option Name → List Lexeme → Name → Stack → DoctypeHead → TakeError → Type 0
IsNotNamed c d texts asked ds base s head (Refused r) =
    (rows c d texts ds base s head (opens_subset head) ≡ Some r) × IsAsked (opens_subset head) (text_of texts subset_number) (subset_file c d base head) asked
IsNotNamed c d texts asked ds base s head (Wanted number file) =
    (number ≡ subset_number) × (opens_subset head ≡ true) × (text_of texts subset_number ≡ None) × (subset_file c d base head ≡ Some file)
IsNotNamed c d texts asked ds base s head Memory = Unit {0}

abbrev pub IsNoHead : TakeError → Type 0
IsNoHead (Refused r) = r ≡ reason.DeclarationSyntax
IsNoHead (Wanted number file) = ⊥
IsNoHead Memory = Unit {0}

abbrev pub IsNotAddedBy : Choices → Doctype → List (ℕ × Text) → Option Name → List Lexeme → Name → Stack → TakeError → Option DoctypeHead → Type 0
IsNotAddedBy c d texts asked ds base s e None = IsNoHead e
IsNotAddedBy c d texts asked ds base s e (Some head) = IsNotNamed c d texts asked ds base s head e

abbrev pub IsNotAdded : Choices → Doctype → List (ℕ × Text) → Option Name → List Lexeme → Name → Stack → TakeError → Type 0
IsNotAdded c d texts asked ds base s e = IsNotAddedBy c d texts asked ds base s e (head_said (declaration_at ds))

-- how long the text of the subset is, or why it isn't there
abbrev pub IsLacking : Option Text → Option Name → TakeError → Type 0
IsLacking text file (Refused r) = (text ≡ None) × (file ≡ None) × (r ≡ reason.Unresolved)
IsLacking text file (Wanted number name) = (number ≡ subset_number) × (text ≡ None) × (file ≡ Some name)
IsLacking text file Memory = Unit {0}

abbrev pub IsSubsetAsked : Choices → Syntax → Option Name → Name → Name → External → Type 0
IsSubsetAsked c syntax asked base name external = asked ≡ named_file c syntax name external base

abbrev pub IsSubsetGiven : Choices → Syntax → List (ℕ × Text) → Option Name → Name → Name → External → Type 0
IsSubsetGiven c syntax texts asked base name external =
    IsAskedBy (text_of texts subset_number) (named_file c syntax name external base) asked

abbrev pub IsSubsetLacking : Choices → Syntax → List (ℕ × Text) → Name → Name → External → TakeError → Type 0
IsSubsetLacking c syntax texts base name external e =
    IsLacking (text_of texts subset_number) (named_file c syntax name external base) e
