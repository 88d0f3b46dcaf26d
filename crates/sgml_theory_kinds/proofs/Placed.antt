-- Each piece that is spelled has its place.
use Rattle.std.proofs.Common.{◌≡◌, ℕ, Bool, true, false, ◌==◌, ◌&&◌, ◌||◌, ◌-◌, List, [], ◌∷◌, Option, None, Some, is_none, Result, Ok, Err, length, take, drop, nat_lt, codes, refl, subst, inl, inr, if◌then◌else◌}
use Rattle.std.specs.Option.{option_or}
use Rattle.sgml_theory_spelling.specs.text.Characters.{is_separator, all_sgml}
use Rattle.sgml_theory_spelling.specs.text.declared.reason.Reason.{Reason}
use Rattle.sgml_theory_spelling.specs.text.declared.reason.Reason.TheVariants as reason
use Rattle.sgml_theory_spelling.specs.syntax.declared.syntax.Syntax.{Syntax}
use Rattle.sgml_theory_spelling.specs.delim.declared.delim.Mode.{Mode}
use Rattle.sgml_theory_spelling.specs.delim.declared.delim.Mode.TheVariants as mode
use Rattle.sgml_theory_spelling.specs.entity.declared.kinds.Body.{Body}
use Rattle.sgml_theory_spelling.specs.entity.declared.kinds.Body.TheVariants as body
use Rattle.sgml_theory_spelling.specs.entity.declared.kinds.Space.TheVariants as space
use Rattle.sgml_theory_spelling.specs.markup.declared.kinds.TokenKind.{TokenKind}
use Rattle.sgml_theory_spelling.specs.markup.declared.kinds.TokenKind.TheVariants as kind
use Rattle.sgml_theory_spelling.specs.markup.Forms.{last_byte}
use Rattle.sgml_theory_spelling.specs.scan.declared.state.Scanned.{Scanned}
use Rattle.sgml_theory_spelling.specs.scan.declared.state.Scanned.TheVariants.{Token, NeedMore, BadToken}
use Rattle.sgml_theory_spelling.specs.marked.declared.status.Status.{Status}
use Rattle.sgml_theory_spelling.specs.marked.Keywords.{status_by}
use Rattle.sgml_theory_spelling.specs.sgmldecl.declared.feature.DeclError.{DeclError}
use Rattle.sgml_theory_spelling.specs.sgmldecl.Machine.{Outcome, bad, whole, run, begin_state}
use Rattle.sgml_theory_spelling.specs.sgmldecl.Refusing.{answer}
use Rattle.sgml_theory_spelling.specs.decl_parts.declared.ends.Construct.TheVariants as construct
use Rattle.sgml_theory_spelling.specs.decl_parts.Ends.{is_doctype}
use Rattle.sgml_theory_spelling.specs.decl_forms.declared.declaration.Declaration.{Declaration}
use Rattle.sgml_theory_spelling.specs.decl_forms.declared.declaration.Declaration.TheVariants as form
use Rattle.sgml_theory_spelling.specs.decl_forms.declared.map.UsemapDeclaration.{UsemapDeclaration}
use Rattle.sgml_theory_spelling.specs.decl_forms.Declarations.{declaration_at}
use Rattle.sgml_theory_spelling.specs.dtd_maps.Rows.{use_reason}
use Rattle.sgml_theory_spelling.specs.theory_reading.Names.{Name, Text}
use Rattle.sgml_theory_spelling.specs.theory_reading.Types.{entity_number, body_of}
use Rattle.sgml_theory_spelling.specs.theory_reading.Pieces.{Piece, Kind, Head, Start, Ref, Pi, EntityEnd, Tag, Short, Slash, Net, Specification, Meaning, Ordinary, ToText, ToData, ToExternalData, ToInstruction}
use Rattle.sgml_theory_spelling.specs.theory_reading.Facets.{Stage, BeforeSyntax, AtBeginning, BeforeDoctype, InSubset, AfterSubset}
use Rattle.sgml_theory_spelling.specs.theory_reading.ShortTags.{empty_start_type, empty_end_type, net_type}
use Rattle.sgml_theory_spelling.specs.theory_reading.Unread.{Outside, Sources, Rest, base_in}
use Rattle.sgml_theory_spelling.specs.theory_reading.State.{State, sources_in}
use Rattle.sgml_theory_spelling.specs.theory_reading.Characters.{separator_kind, has_text, in_text_section}
use Rattle.sgml_theory_spelling.specs.Stacked.{Stacked, stacked}
use Rattle.sgml_theory_spelling.specs.Sized.{sized, sized_spent, spent_ok, unless_reason}
use Rattle.sgml_theory_spelling.specs.Places.{in_doctype, mode_at, map_at, in_section}
use Rattle.sgml_theory_spelling.specs.References.{missing, unopened, meaning_of, unless, parameter_text, parameter_of_number, parameter_kind}
use Rattle.sgml_theory_spelling.specs.Declared.{Lexed, lexed, reason_against}
use Rattle.sgml_theory_spelling.specs.SgmlDeclared.{has_keyword, begins_sgml, sgml_of, sgml_by, sgml_piece}
use Rattle.sgml_theory_spelling.specs.Tags.{element_of, specifications_of}
use Rattle.sgml_theory_spelling.specs.Content.{referred_name, first_of, character_kind, is_rcdata, kind_by_meaning, kind_of_string, mapped_kind, entity_of_string, short_start, ending_of, is_data_status, keywords_in, section_of, section_by, section_start, section_piece, section_end, has_open, map_used, use_of, or_reason, use_kind, declared_kind, declared_piece, content_piece}
use Rattle.sgml_theory_spelling.specs.Prolog.{missing_subset, head_reason, head_by, head_lexed, piece_before, declared_by, declared_lexed, end_by, in_document, subset_piece}
use Rattle.sgml_theory_spelling.specs.Decided.{is_early_end}
use Rattle.sgml_theory_spelling.specs.Spelled.{type_end, document_end, entity_end, piece_in, by_token, by_token_before, token_here, sgml_bad, sgml_by_token, at_beginning, by_stage, spelled_in, spelled_of, spelled}
use Rattle.sgml_theory_kinds.specs.Kinds.{IsDeclared, HasItsPlace, SpelledPiecesHaveTheirPlaces}

-- ANSWERS: what is asked of what an answer gives; a refusal gives nothing
abbrev Gives : {A : Type 0} → (A → Type 0) → Result A Reason → Type 0
Gives Q (Ok a) = Q a
Gives Q (Err r) = Unit {0}

chosen : {A : Type 0} (Q : A → Type 0) (b : Bool) (x y : A) → (b ≡ true → Q x) → (b ≡ false → Q y) → Q (if b then x else y)
chosen Q true x y f g = f refl
chosen Q false x y f g = g refl

sized-gives : (Q : Kind → Type 0) (n spent : ℕ) (x : Result Kind Reason) → Gives Q x → Gives (λ (p : Piece). Q p.kind) (spent_ok n spent x)
sized-gives Q n spent (Ok k) h = h
sized-gives Q n spent (Err r) h = tt

unless-gives : (Q : Piece → Type 0) (o : Option Reason) (p : Piece) → (o ≡ None → Q p) → Gives Q (unless_reason o p)
unless-gives Q None p f = f refl
unless-gives Q (Some r) p f = tt

-- no reason of two, and both of two tests
neither : (a b : Option Reason) → option_or a b ≡ None → (a ≡ None) × (b ≡ None)
neither None b e = (refl, e)
neither (Some r) b e = cc

unopposed-head : (subset : Bool) (outside : Outside) (k : Sources) (t : Stacked) (against : Option Reason) → head_reason subset outside k t against ≡ None → against ≡ None
unopposed-head true outside k t against e = e
unopposed-head false outside k t against e = (neither against _ (neither (missing_subset outside k) _ e).1).0

second-true : (a b : Bool) → a && b ≡ true → b ≡ true
second-true true b e = e
second-true false b e = cc

module _ (outside : Outside) (s : State) (t : Stacked) where
  abbrev OfKind : Kind → Type 0
  OfKind k = HasItsPlace outside s t k

  abbrev OfPiece : Piece → Type 0
  OfPiece p = HasItsPlace outside s t p.kind

  -- CHARACTERS
  separators : (b : ℕ) → OfKind (separator_kind s b)
  unfolding separator_kind
  separators b =
      chosen OfKind (b == 13) _ _ (λ e. chosen OfKind (has_text s) _ _ (λ f. tt) (λ f. tt))
      (λ e. chosen OfKind (b == 10) _ _ (λ f. chosen OfKind (has_text s) _ _ (λ g. tt) (λ g. tt))
      (λ f. chosen OfKind (has_text s || in_text_section s.sections) _ _ (λ g. tt) (λ g. tt)))

  characters : (m : Mode) (b : ℕ) → OfKind (character_kind s m b)
  characters mode.Ign b = tt
  characters _ b = chosen OfKind (is_separator b) _ _ (λ e. separators b) (λ e. tt)

  -- REFERENCES
  references : (rcdata : Bool) (n : Name) (x : Result Meaning Reason) → meaning_of outside (sources_in s) t n ≡ x → Gives OfKind (kind_by_meaning rcdata x)
  references rcdata n (Err r) e = tt
  references rcdata n (Ok (ToText number)) e = inl (n, e)
  references rcdata n (Ok (ToData number)) e = (n, e)
  references true n (Ok (ToExternalData number)) e = tt
  references false n (Ok (ToExternalData number)) e = (n, e)
  references true n (Ok (ToInstruction number text)) e = tt
  references false n (Ok (ToInstruction number text)) e = inl (n, e)
  references rcdata n (Ok (Ordinary has_items content)) e = tt

  meant-strings : (string : Text) (n : Name) (x : Result Meaning Reason) → meaning_of outside (sources_in s) t n ≡ x → Gives OfKind (kind_of_string string x)
  meant-strings string n (Ok m) e = inr (n, e)
  meant-strings string n (Err r) e = tt

  strings : (string : Text) (o : Option Name) → Gives OfKind (mapped_kind outside s t string o)
  strings string None = inl refl
  strings string (Some n) = meant-strings string n (meaning_of outside (sources_in s) t n) refl

  -- of parameter entities: a text, unless there is a reason against it, and an instruction of at most PILEN characters
  module _ (n : Name) where
    abbrev IsReferred : Result Kind Reason → Type 0
    IsReferred x = parameter_kind outside (sources_in s) t n ≡ x → Gives OfKind x

    texts : (number : ℕ) (o : Option Reason) → IsReferred (unless o (Ref number))
    texts number (Some r) e = tt
    texts number None e = inr (n, e)

    instructions : (number : ℕ) (text : Text) (long : Bool) → IsReferred (if long then Err reason.PiLength else Ok (Pi text (Some number)))
    instructions number text true e = tt
    instructions number text false e = inr (n, e)

    bodies : (number : ℕ) (o : Option Body) → IsReferred (parameter_text outside (sources_in s) t number o)
    bodies number None e = tt
    bodies number (Some (body.Sgml text)) e = texts number (unopened outside (sources_in s) t number None) e
    bodies number (Some (body.External external)) e = texts number (unopened outside (sources_in s) t number (missing outside (sources_in s) number)) e
    bodies number (Some (body.Pi text)) e = instructions number text (nat_lt s.context.doctype.syntax.quantities.pilen (length text)) e
    bodies number (Some _) e = tt

    numbers : (o : Option ℕ) → IsReferred (parameter_of_number outside (sources_in s) t o)
    numbers None e = tt
    numbers (Some number) e = bodies number (body_of s.context.doctype number) e

    parameters : Gives OfKind (parameter_kind outside (sources_in s) t n)
    unfolding parameter_kind
    parameters = numbers (entity_number s.context.doctype space.Parameter n) refl

  -- TAGS
  start-tags : (b : Bool) (n : Name) (specifications : List Specification) → OfKind (Start n specifications (if b then Slash else Tag) true false)
  start-tags true n specifications = tt
  start-tags false n specifications = tt

  empty-starts : (o : Option Name) → empty_start_type s.context s.ended ≡ o → Gives OfKind (short_start o)
  empty-starts None e = tt
  empty-starts (Some n) e = e

  empty-ends : (o : Option Name) → empty_end_type s.context ≡ o → Gives OfKind (ending_of Short o)
  empty-ends None e = tt
  empty-ends (Some n) e = e

  nets : (o : Option Name) → net_type s.context ≡ o → Gives OfKind (ending_of Net o)
  nets None e = tt
  nets (Some n) e = e

  -- MARKED SECTIONS
  statuses : (syntax : Syntax) (x : Lexed) (in_type : Bool) (n spent : ℕ) (st : Result Status ℕ) → Gives OfPiece (section_of syntax x.lexemes in_type n spent st)
  statuses syntax x in_type n spent (Err i) = tt
  statuses syntax x in_type n spent (Ok st) = chosen (Gives OfPiece) (in_type && is_data_status st) _ _ (λ e. tt) (λ e. tt)

  begun-sections : (in_type : Bool) (n : ℕ) (x : Result Lexed Reason) → Gives OfPiece (section_by s.context.doctype.syntax t in_type n x)
  begun-sections in_type n (Err r) = tt
  begun-sections in_type n (Ok x) = statuses s.context.doctype.syntax x in_type n (x.spent - t.spent) (status_by (keywords_in x.lexemes))

  read-sections : (in_type : Bool) (own : Text) → Gives OfPiece (section_start outside s.context.doctype t in_type own)
  unfolding section_start
  read-sections in_type own = begun-sections in_type (length own) (lexed construct.SectionStart outside s.context.doctype t own)

  sections : (m : Mode) (in_type : Bool) (own : Text) → Gives OfPiece (section_piece outside s.context.doctype t m in_type own)
  sections mode.Ign in_type own = tt
  sections _ in_type own = read-sections in_type own

  ended-sections : (n : ℕ) → Gives OfPiece (section_end s n)
  ended-sections n = chosen (Gives OfPiece) (in_section s.texts s.sections) _ _ (λ e. e) (λ e. tt)

  -- DECLARATIONS in content
  maps : has_open s.context.levels ≡ true → (x : Result (Option ℕ) Reason) → Gives OfKind (use_of x)
  maps e (Ok map) = e
  maps e (Err r) = tt

  known-maps : has_open s.context.levels ≡ true → (o : Option Reason) (x : Result (Option ℕ) Reason) → Gives OfKind (or_reason o (use_of x))
  known-maps e (Some r) x = tt
  known-maps e None x = maps e x

  uses : (u : UsemapDeclaration) → Gives OfKind (use_kind s u)
  uses u =
      chosen (Gives OfKind) (is_none u.targets && has_open s.context.levels) _ _
      (λ e. known-maps (second-true (is_none u.targets) (has_open s.context.levels) e) (use_reason s.context.doctype.syntax u) (map_used s.context.doctype u.map)) (λ e. tt)

  used : (o : Option Declaration) → Gives OfKind (declared_kind s o)
  used None = tt
  used (Some (form.Usemap u)) = uses u
  used (Some _) = tt

  in-content : (own : Text) (x : Result Lexed Reason) → Gives OfPiece (declared_piece outside s t own x)
  in-content own (Err r) = tt
  in-content own (Ok x) = sized-gives OfKind (length own) (x.spent - t.spent) (declared_kind s (declaration_at x.lexemes)) (used (declaration_at x.lexemes))

  -- and of the document type: these are the lexemes of its own text
  module _ (own : Text) (x : Lexed) (read : lexed construct.Declaration outside s.context.doctype t own ≡ Ok x) where
    declares : (says : Declaration) → declaration_at x.lexemes ≡ Some says → reason_against s.context.doctype x.lexemes says ≡ None
        → IsDeclared outside s t x.lexemes says
    declares says at none = record { own = own; spent = x.spent; read = read; says_so = at; unopposed = none }

    heads : (n : ℕ) (o : Option Declaration) → declaration_at x.lexemes ≡ o → Gives OfPiece (head_by outside (sources_in s) t n x o)
    heads n (Some (form.Doctype head)) at =
        unless-gives OfPiece _ (sized_spent n (x.spent - t.spent) (Head head (base_in outside (sources_in s) t.entities)))
        (λ e. (x.lexemes, declares (form.Doctype head) at (unopposed-head head.subset _ _ _ _ e)))
    heads n _ at = tt

    says-so : (n : ℕ) (o : Option Declaration) → declaration_at x.lexemes ≡ o → Gives OfPiece (declared_by outside (sources_in s) t n x o)
    says-so n None at = tt
    says-so n (Some says) at = unless-gives OfPiece (reason_against s.context.doctype x.lexemes says) _ (λ e. declares says at e)

  before-type : (own : Text) (x : Result Lexed Reason) → lexed construct.Declaration outside s.context.doctype t own ≡ x
      → Gives OfPiece (head_lexed outside (sources_in s) t (length own) x)
  before-type own (Err r) e = tt
  before-type own (Ok x) e = heads own x e (length own) (declaration_at x.lexemes) refl

  in-type : (own : Text) (x : Result Lexed Reason) → lexed construct.Declaration outside s.context.doctype t own ≡ x
      → Gives OfPiece (declared_lexed outside (sources_in s) t (length own) x)
  in-type own (Err r) e = tt
  in-type own (Ok x) e = says-so own x e (length own) (declaration_at x.lexemes) refl

  type-ends : (n : ℕ) (x : Result Lexed Reason) → Gives OfPiece (end_by outside s t n x)
  type-ends n (Err r) = tt
  type-ends n (Ok x) = unless-gives OfPiece _ _ (λ e. tt)

  -- TOKENS: of content, before the document type, and in it
  in-elements : (m : Mode) (k : TokenKind) (own : Text) → Gives OfPiece (content_piece outside s t m k own)
  unfolding content_piece
  in-elements m kind.Chars own = characters m (first_of own)
  in-elements m kind.Re own = separators 13
  in-elements m kind.Rs own = separators 10
  in-elements m (kind.FunctionRef b) own = separators b
  in-elements m (kind.ShortRef i) own = sized-gives OfKind (length own) 0 _ (strings own (entity_of_string s.context.doctype (map_at s) i))
  in-elements m kind.EntityRef own = sized-gives OfKind (length own) 0 _ (references (is_rcdata m) (referred_name s.context.doctype (drop 1 own)) _ refl)
  in-elements m kind.StartTag own =
      start-tags (last_byte own == 47) (element_of s.context.doctype own) (specifications_of outside s.context.doctype t own).specifications
  in-elements m kind.EmptyStart own = sized-gives OfKind (length own) 0 _ (empty-starts (empty_start_type s.context s.ended) refl)
  in-elements m kind.EmptyEnd own = sized-gives OfKind (length own) 0 _ (empty-ends (empty_end_type s.context) refl)
  in-elements m kind.Net own = sized-gives OfKind (length own) 0 _ (nets (net_type s.context) refl)
  in-elements m kind.SectionStart own = sections m false own
  in-elements m kind.SectionEnd own = ended-sections (length own)
  in-elements m kind.Declaration own =
      chosen (Gives OfPiece) (has_keyword s.context.doctype.syntax.names (codes "SGML") own) _ _ (λ e. tt)
      (λ e. in-content own (lexed construct.Declaration outside s.context.doctype t own))
  in-elements m _ own = tt

  at-first : (k : TokenKind) (own : Text) → Gives OfPiece (piece_before outside s t k own)
  unfolding piece_before
  at-first kind.Declaration own =
      chosen (Gives OfPiece) (is_doctype s.context.doctype.syntax.names own) _ _
      (λ e. before-type own (lexed construct.Declaration outside s.context.doctype t own) refl) (λ e. tt)
  at-first _ own = tt

  in-subset : (m : Mode) (k : TokenKind) (own : Text) → Gives OfPiece (subset_piece outside s t m k own)
  unfolding subset_piece
  in-subset mode.Ign kind.Chars own = tt
  in-subset m kind.ParameterRef own = sized-gives OfKind (length own) 0 _ (parameters (referred_name s.context.doctype (drop 1 own)))
  in-subset m kind.SectionStart own = sections m true own
  in-subset m kind.SectionEnd own = ended-sections (length own)
  in-subset m kind.Declaration own =
      chosen (Gives OfPiece) (has_keyword s.context.doctype.syntax.names (codes "SGML") own) _ _ (λ e. tt)
      (λ e. in-type own (lexed construct.Declaration outside s.context.doctype t own) refl)
  in-subset m kind.SubsetEnd own =
      chosen (Gives OfPiece) (in_document t.entities) _ _
      (λ e. type-ends (length own) (lexed construct.SubsetEnd outside s.context.doctype t own)) (λ e. tt)
  in-subset m _ own = tt

  in-either : (b : Bool) (m : Mode) (k : TokenKind) (own : Text) → Gives OfPiece (piece_in b outside s t m k own)
  in-either true m k own = in-subset m k own
  in-either false m k own = in-elements m k own

  tokens : (bytes : Text) (x : Scanned) → Gives OfPiece (by_token outside s t bytes x)
  tokens bytes (Token x) = in-either (in_doctype s.stage t.entities) (mode_at s t.entities) x.kind (take x.length bytes)
  tokens bytes NeedMore = tt
  tokens bytes (BadToken r) = tt

  first-tokens : (bytes : Text) (x : Scanned) → Gives OfPiece (by_token_before outside s t bytes x)
  first-tokens bytes (Token x) = at-first x.kind (take x.length bytes)
  first-tokens bytes NeedMore = tt
  first-tokens bytes (BadToken r) = tt

  -- AN SGML DECLARATION at the beginning
  module _ (early : s.stage ≡ AtBeginning) where
    syntaxes : (bytes : Text) (x : Result (Syntax × ℕ) DeclError) → Gives OfPiece (sgml_of bytes x)
    syntaxes bytes (Err r) = tt
    syntaxes bytes (Ok x) = chosen (Gives OfPiece) (all_sgml (take x.1 bytes)) _ _ (λ e. early) (λ e. tt)

    outcomes : (bytes : Text) (x : Outcome) → Gives OfPiece (sgml_by bytes x)
    outcomes bytes (bad at) = tt
    outcomes bytes (whole heard n) = syntaxes bytes (answer heard n)

    sgml-declarations : (bytes : Text) → Gives OfPiece (sgml_piece bytes)
    unfolding sgml_piece
    sgml-declarations bytes = outcomes bytes (run 0 begin_state bytes)

    unclosed : (bytes : Text) (r : Reason) → Gives OfPiece (sgml_bad bytes r)
    unclosed bytes reason.Unclosed = sgml-declarations bytes
    unclosed bytes _ = tt

    sgml-tokens : (bytes : Text) (x : Scanned) → Gives OfPiece (sgml_by_token bytes x)
    sgml-tokens bytes (Token x) = sgml-declarations (take x.length bytes)
    sgml-tokens bytes NeedMore = tt
    sgml-tokens bytes (BadToken r) = unclosed bytes r

    beginnings : (b : Bool) (bytes : Text) → Gives OfPiece (at_beginning b outside s t bytes)
    beginnings true bytes = sgml-tokens bytes (token_here s t bytes)
    beginnings false bytes = first-tokens bytes (token_here s t bytes)

  stages : (bytes : Text) (g : Stage) → s.stage ≡ g → Gives OfPiece (by_stage outside s t bytes g)
  stages bytes BeforeSyntax e = first-tokens bytes (token_here s t bytes)
  stages bytes AtBeginning e = beginnings e (begins_sgml s.context.doctype.syntax.names bytes) bytes
  stages bytes BeforeDoctype e = first-tokens bytes (token_here s t bytes)
  stages bytes InSubset e = tokens bytes (token_here s t bytes)
  stages bytes AfterSubset e = tokens bytes (token_here s t bytes)

  -- WHERE A TEXT ENDS
  document-ends : (g : Stage) (b : Bool) → s.stage ≡ g → in_section s.texts s.sections ≡ b → Gives OfPiece (document_end g b)
  document-ends AfterSubset true e f = tt
  document-ends AfterSubset false e f = (e, f)
  document-ends BeforeSyntax b e f = tt
  document-ends AtBeginning b e f = tt
  document-ends BeforeDoctype b e f = tt
  document-ends InSubset b e f = tt

  entity-ends : (n : ℕ) (b : Bool) → in_section s.texts s.sections ≡ b → Gives OfPiece (entity_end s n b)
  entity-ends n true f = tt
  entity-ends n false f = unless-gives OfPiece (type_end n s.context.doctype) (sized 0 EntityEnd) (λ e. f)

  -- WHAT IS SPELLED
  here : (n : ℕ) (bytes : Text) → Gives OfPiece (spelled_in outside s t n bytes)
  here n [] =
      chosen (Gives OfPiece) (n == 0) _ _ (λ e. document-ends s.stage (in_section s.texts s.sections) refl refl)
      (λ e. entity-ends n (in_section s.texts s.sections) refl)
  here n (b ∷ bytes) = chosen (Gives OfPiece) (is_early_end s.stage b) _ _ (λ e. tt) (λ e. stages (b ∷ bytes) s.stage refl)

  at-top : (rs : List Rest) → Gives OfPiece (spelled_of outside s t rs)
  at-top [] = tt
  at-top (r ∷ rs) = here r.entity r.bytes

pub spelled-pieces-have-their-places : SpelledPiecesHaveTheirPlaces
unfolding spelled
spelled-pieces-have-their-places outside s t p e = subst (Gives (λ (q : Piece). HasItsPlace outside s (stacked t) q.kind)) e (at-top outside s (stacked t) t.rests)
