-- Each piece that is spelled refers so.
use Rattle.std.proofs.Common.{◌≡◌, ℕ, Bool, true, false, ◌==◌, ◌&&◌, ◌||◌, ◌-◌, List, [], ◌∷◌, Option, None, Some, is_none, Result, Ok, Err, length, take, drop, nat_lt, codes, refl, subst}
use Rattle.sgml_theory_again.specs.text.Characters.{is_separator, all_sgml}
use Rattle.sgml_theory_again.specs.text.declared.reason.Reason.{Reason}
use Rattle.sgml_theory_again.specs.text.declared.reason.Reason.TheVariants as reason
use Rattle.sgml_theory_again.specs.syntax.declared.syntax.Syntax.{Syntax}
use Rattle.sgml_theory_again.specs.delim.declared.delim.Mode.{Mode}
use Rattle.sgml_theory_again.specs.delim.declared.delim.Mode.TheVariants as mode
use Rattle.sgml_theory_again.specs.entity.declared.kinds.Body.{Body}
use Rattle.sgml_theory_again.specs.entity.declared.kinds.Body.TheVariants as body
use Rattle.sgml_theory_again.specs.entity.declared.kinds.Space.TheVariants as space
use Rattle.sgml_theory_again.specs.markup.declared.kinds.TokenKind.{TokenKind}
use Rattle.sgml_theory_again.specs.markup.declared.kinds.TokenKind.TheVariants as kind
use Rattle.sgml_theory_again.specs.scan.declared.state.Scanned.{Scanned}
use Rattle.sgml_theory_again.specs.scan.declared.state.Scanned.TheVariants.{Token, NeedMore, BadToken}
use Rattle.sgml_theory_again.specs.marked.declared.status.Status.{Status}
use Rattle.sgml_theory_again.specs.marked.Keywords.{status_by}
use Rattle.sgml_theory_again.specs.sgmldecl.declared.feature.DeclError.{DeclError}
use Rattle.sgml_theory_again.specs.sgmldecl.Machine.{Outcome, bad, whole, run, begin_state}
use Rattle.sgml_theory_again.specs.sgmldecl.Refusing.{answer}
use Rattle.sgml_theory_again.specs.decl_parts.declared.ends.Construct.TheVariants as construct
use Rattle.sgml_theory_again.specs.decl_parts.Ends.{is_doctype}
use Rattle.sgml_theory_again.specs.decl_forms.declared.declaration.Declaration.{Declaration}
use Rattle.sgml_theory_again.specs.decl_forms.declared.declaration.Declaration.TheVariants as form
use Rattle.sgml_theory_again.specs.decl_forms.declared.map.UsemapDeclaration.{UsemapDeclaration}
use Rattle.sgml_theory_again.specs.decl_forms.Declarations.{declaration_at}
use Rattle.sgml_theory_again.specs.dtd_maps.Rows.{use_reason}
use Rattle.sgml_theory_again.specs.theory_reading.Names.{Name, Text}
use Rattle.sgml_theory_again.specs.theory_reading.Types.{entity_number, body_of}
use Rattle.sgml_theory_again.specs.theory_reading.Pieces.{Piece, Kind, Head, Ref, Pi, EntityEnd, Short, Net, How, Meaning, Ordinary, ToText, ToData, ToExternalData, ToInstruction}
use Rattle.sgml_theory_again.specs.theory_reading.Facets.{Stage, BeforeSyntax, AtBeginning, BeforeDoctype, InSubset, AfterSubset}
use Rattle.sgml_theory_again.specs.theory_reading.ShortTags.{empty_start_type, empty_end_type, net_type}
use Rattle.sgml_theory_again.specs.theory_reading.Unread.{Outside, Rest, base_in}
use Rattle.sgml_theory_again.specs.theory_reading.State.{State, sources_in}
use Rattle.sgml_theory_again.specs.theory_reading.Characters.{separator_kind, has_text, in_text_section}
use Rattle.sgml_theory_again.specs.theory_spelling.Stacked.{Stacked, stacked}
use Rattle.sgml_theory_again.specs.theory_spelling.Sized.{sized, sized_spent, spent_ok, unless_reason}
use Rattle.sgml_theory_again.specs.theory_spelling.Places.{in_doctype, mode_at, map_at, in_section, scan_state}
use Rattle.sgml_theory_again.specs.theory_spelling.References.{missing, unopened, meaning_of, unless, parameter_text, parameter_of_number, parameter_kind}
use Rattle.sgml_theory_again.specs.theory_spelling.Declared.{Lexed, lexed, reason_against}
use Rattle.sgml_theory_again.specs.theory_spelling.SgmlDeclared.{has_keyword, begins_sgml, sgml_of, sgml_by, sgml_piece}
use Rattle.sgml_theory_again.specs.theory_spelling.Content.{referred_name, first_of, character_kind, is_rcdata, kind_by_meaning, kind_of_string, mapped_kind, entity_of_string, short_start, ending_of, is_data_status, keywords_in, section_of, section_by, section_start, section_piece, section_end, has_open, map_used, use_of, or_reason, use_kind, declared_kind, declared_piece, content_piece}
use Rattle.sgml_theory_again.specs.theory_spelling.Prolog.{head_by, head_lexed, piece_before, declared_by, declared_lexed, end_by, in_document, subset_piece}
use Rattle.sgml_theory_again.specs.theory_spelling.Decided.{is_early_end}
use Rattle.sgml_theory_again.specs.theory_spelling.Spelled.{type_end, document_end, entity_end, piece_in, by_token, by_token_before, token_here, sgml_bad, sgml_by_token, at_beginning, by_stage, spelled_in, spelled_of, spelled}
use Rattle.sgml_theory_again.specs.sgml_theory_full.Named.{AllAre}
use Rattle.sgml_theory_writable.specs.Spelled.{LexemeRefers, IsSpelledSo}
use Rattle.sgml_theory_writable.specs.Laws.{SpelledRefers}
use Rattle.sgml_theory_writable.proofs.Basics.{Gives, either}
use Rattle.sgml_theory_writable.proofs.Lexemes.{lexed-refers, specifications-refer}
use Rattle.sgml_theory_writable.proofs.Instructions.{OwnIs, ScannedIs, token-is}

sized-gives : (Q : Kind → Type 0) (n spent : ℕ) (x : Result Kind Reason) → Gives Q x → Gives (λ (p : Piece). Q p.kind) (spent_ok n spent x)
sized-gives Q n spent (Ok k) h = h
sized-gives Q n spent (Err r) h = tt

unless-gives : (Q : Piece → Type 0) (o : Option Reason) (p : Piece) → Q p → Gives Q (unless_reason o p)
unless-gives Q None p h = h
unless-gives Q (Some r) p h = tt

module _ (outside : Outside) (s : State) (t : Stacked) where
  abbrev OfKind : Kind → Type 0
  OfKind k = IsSpelledSo s.context.doctype k

  abbrev OfPiece : Piece → Type 0
  OfPiece p = IsSpelledSo s.context.doctype p.kind

  abbrev LexedRefers : Result Lexed Reason → Type 0
  LexedRefers x = Gives (λ (y : Lexed). AllAre (LexemeRefers s.context.doctype) y.lexemes) x

  -- CHARACTERS
  separators : (b : ℕ) → OfKind (separator_kind s b)
  unfolding separator_kind
  separators b =
      either OfKind (b == 13) _ _ (either OfKind (has_text s) _ _ tt tt)
      (either OfKind (b == 10) _ _ (either OfKind (has_text s) _ _ tt tt) (either OfKind (has_text s || in_text_section s.sections) _ _ tt tt))

  characters : (m : Mode) (b : ℕ) → OfKind (character_kind s m b)
  characters mode.Ign b = tt
  characters _ b = either OfKind (is_separator b) _ _ (separators b) tt

  -- REFERENCES
  references : (rcdata : Bool) (x : Result Meaning Reason) → Gives OfKind (kind_by_meaning rcdata x)
  references rcdata (Err r) = tt
  references rcdata (Ok (ToText number)) = tt
  references rcdata (Ok (ToData number)) = tt
  references true (Ok (ToExternalData number)) = tt
  references false (Ok (ToExternalData number)) = tt
  references true (Ok (ToInstruction number text)) = tt
  references false (Ok (ToInstruction number text)) = tt
  references rcdata (Ok (Ordinary has_items content)) = tt

  meant-strings : (string : Text) (x : Result Meaning Reason) → Gives OfKind (kind_of_string string x)
  meant-strings string (Ok m) = tt
  meant-strings string (Err r) = tt

  strings : (string : Text) (o : Option Name) → Gives OfKind (mapped_kind outside s t string o)
  strings string None = tt
  strings string (Some n) = meant-strings string (meaning_of outside (sources_in s) t n)

  -- of parameter entities
  texts : (number : ℕ) (o : Option Reason) → Gives OfKind (unless o (Ref number))
  texts number (Some r) = tt
  texts number None = tt

  bodies : (number : ℕ) (o : Option Body) → Gives OfKind (parameter_text outside (sources_in s) t number o)
  bodies number None = tt
  bodies number (Some (body.Sgml text)) = texts number (unopened outside (sources_in s) t number None)
  bodies number (Some (body.External external)) = texts number (unopened outside (sources_in s) t number (missing outside (sources_in s) number))
  bodies number (Some (body.Pi text)) =
      either (Gives OfKind) (nat_lt s.context.doctype.syntax.quantities.pilen (length text)) (Err reason.PiLength) (Ok (Pi text (Some number))) tt tt
  bodies number (Some _) = tt

  numbers : (o : Option ℕ) → Gives OfKind (parameter_of_number outside (sources_in s) t o)
  numbers None = tt
  numbers (Some number) = bodies number (body_of s.context.doctype number)

  parameters : (n : Name) → Gives OfKind (parameter_kind outside (sources_in s) t n)
  unfolding parameter_kind
  parameters n = numbers (entity_number s.context.doctype space.Parameter n)

  -- TAGS
  empty-starts : (o : Option Name) → Gives OfKind (short_start o)
  empty-starts None = tt
  empty-starts (Some n) = tt

  endings : (how : How) (o : Option Name) → Gives OfKind (ending_of how o)
  endings how None = tt
  endings how (Some n) = tt

  -- MARKED SECTIONS
  statuses : (syntax : Syntax) (x : Lexed) (in_type : Bool) (n spent : ℕ) (st : Result Status ℕ) → Gives OfPiece (section_of syntax x.lexemes in_type n spent st)
  statuses syntax x in_type n spent (Err i) = tt
  statuses syntax x in_type n spent (Ok st) = either (Gives OfPiece) (in_type && is_data_status st) _ _ tt tt

  begun-sections : (in_type : Bool) (n : ℕ) (x : Result Lexed Reason) → Gives OfPiece (section_by s.context.doctype.syntax t in_type n x)
  begun-sections in_type n (Err r) = tt
  begun-sections in_type n (Ok x) = statuses s.context.doctype.syntax x in_type n (x.spent - t.spent) (status_by (keywords_in x.lexemes))

  read-sections : (in_type : Bool) (own : Text) → Gives OfPiece (section_start outside s.context.doctype t in_type own)
  unfolding section_start
  read-sections in_type own = begun-sections in_type (length own) (lexed construct.SectionStart outside s.context.doctype t own)

  sections : (m : Mode) (in_type : Bool) (own : Text) → Gives OfPiece (section_piece outside s.context.doctype t m in_type own)
  sections mode.Ign in_type own = tt
  sections _ in_type own = read-sections in_type own

  ended-sections : (n : ℕ) → Gives OfPiece (section_end s n)
  ended-sections n = either (Gives OfPiece) (in_section s.texts s.sections) _ _ tt tt

  -- DECLARATIONS in content
  maps : (x : Result (Option ℕ) Reason) → Gives OfKind (use_of x)
  maps (Ok map) = tt
  maps (Err r) = tt

  known-maps : (o : Option Reason) (x : Result (Option ℕ) Reason) → Gives OfKind (or_reason o (use_of x))
  known-maps (Some r) x = tt
  known-maps None x = maps x

  uses : (u : UsemapDeclaration) → Gives OfKind (use_kind s u)
  uses u =
      either (Gives OfKind) (is_none u.targets && has_open s.context.levels) _ _
      (known-maps (use_reason s.context.doctype.syntax u) (map_used s.context.doctype u.map)) tt

  used : (o : Option Declaration) → Gives OfKind (declared_kind s o)
  used None = tt
  used (Some (form.Usemap u)) = uses u
  used (Some _) = tt

  in-content : (own : Text) (x : Result Lexed Reason) → Gives OfPiece (declared_piece outside s t own x)
  in-content own (Err r) = tt
  in-content own (Ok x) = sized-gives OfKind (length own) (x.spent - t.spent) (declared_kind s (declaration_at x.lexemes)) (used (declaration_at x.lexemes))

  -- and of the document type
  heads : (n : ℕ) (x : Lexed) (o : Option Declaration) → Gives OfPiece (head_by outside (sources_in s) t n x o)
  heads n x (Some (form.Doctype head)) = unless-gives OfPiece _ (sized_spent n (x.spent - t.spent) (Head head (base_in outside (sources_in s) t.entities))) tt
  heads n x _ = tt

  says-so : (n : ℕ) (x : Lexed) (o : Option Declaration) → AllAre (LexemeRefers s.context.doctype) x.lexemes → declaration_at x.lexemes ≡ o
      → Gives OfPiece (declared_by outside (sources_in s) t n x o)
  says-so n x None a at = tt
  says-so n x (Some says) a at = unless-gives OfPiece (reason_against s.context.doctype x.lexemes says) _ (a, at)

  before-type : (n : ℕ) (x : Result Lexed Reason) → Gives OfPiece (head_lexed outside (sources_in s) t n x)
  before-type n (Err r) = tt
  before-type n (Ok x) = heads n x (declaration_at x.lexemes)

  in-type : (n : ℕ) (x : Result Lexed Reason) → LexedRefers x → Gives OfPiece (declared_lexed outside (sources_in s) t n x)
  in-type n (Err r) a = tt
  in-type n (Ok x) a = says-so n x (declaration_at x.lexemes) a refl

  type-ends : (n : ℕ) (x : Result Lexed Reason) → Gives OfPiece (end_by outside s t n x)
  type-ends n (Err r) = tt
  type-ends n (Ok x) = unless-gives OfPiece _ _ tt

  -- TOKENS: of content, before the document type, and in it
  in-elements : (m : Mode) (k : TokenKind) (own : Text) → OwnIs s.context.doctype.syntax k own → Gives OfPiece (content_piece outside s t m k own)
  unfolding content_piece
  in-elements m kind.Chars own a = characters m (first_of own)
  in-elements m kind.Re own a = separators 13
  in-elements m kind.Rs own a = separators 10
  in-elements m (kind.FunctionRef b) own a = separators b
  in-elements m (kind.ShortRef i) own a = sized-gives OfKind (length own) 0 _ (strings own (entity_of_string s.context.doctype (map_at s) i))
  in-elements m kind.EntityRef own a =
      sized-gives OfKind (length own) 0 _ (references (is_rcdata m) (meaning_of outside (sources_in s) t (referred_name s.context.doctype (drop 1 own))))
  in-elements m kind.StartTag own a = specifications-refer outside s.context.doctype t own
  in-elements m kind.EmptyStart own a = sized-gives OfKind (length own) 0 _ (empty-starts (empty_start_type s.context s.ended))
  in-elements m kind.EmptyEnd own a = sized-gives OfKind (length own) 0 _ (endings Short (empty_end_type s.context))
  in-elements m kind.Net own a = sized-gives OfKind (length own) 0 _ (endings Net (net_type s.context))
  in-elements m kind.SectionStart own a = sections m false own
  in-elements m kind.SectionEnd own a = ended-sections (length own)
  in-elements m kind.Declaration own a =
      either (Gives OfPiece) (has_keyword s.context.doctype.syntax.names (codes "SGML") own) _ _ tt
      (in-content own (lexed construct.Declaration outside s.context.doctype t own))
  in-elements m kind.Pi own a = a
  in-elements m _ own a = tt

  at-first : (k : TokenKind) (own : Text) → OwnIs s.context.doctype.syntax k own → Gives OfPiece (piece_before outside s t k own)
  unfolding piece_before
  at-first kind.Declaration own a =
      either (Gives OfPiece) (is_doctype s.context.doctype.syntax.names own) _ _
      (before-type (length own) (lexed construct.Declaration outside s.context.doctype t own)) tt
  at-first kind.Pi own a = a
  at-first _ own a = tt

  in-subset : (m : Mode) (k : TokenKind) (own : Text) → OwnIs s.context.doctype.syntax k own → Gives OfPiece (subset_piece outside s t m k own)
  unfolding subset_piece
  in-subset mode.Ign kind.Chars own a = tt
  in-subset m kind.ParameterRef own a = sized-gives OfKind (length own) 0 _ (parameters (referred_name s.context.doctype (drop 1 own)))
  in-subset m kind.SectionStart own a = sections m true own
  in-subset m kind.SectionEnd own a = ended-sections (length own)
  in-subset m kind.Declaration own a =
      either (Gives OfPiece) (has_keyword s.context.doctype.syntax.names (codes "SGML") own) _ _ tt
      (in-type (length own) (lexed construct.Declaration outside s.context.doctype t own) (lexed-refers construct.Declaration outside s.context.doctype t own))
  in-subset m kind.SubsetEnd own a =
      either (Gives OfPiece) (in_document t.entities) _ _
      (type-ends (length own) (lexed construct.SubsetEnd outside s.context.doctype t own)) tt
  in-subset m kind.Pi own a = a
  in-subset m _ own a = tt

  in-either : (b : Bool) (m : Mode) (k : TokenKind) (own : Text) → OwnIs s.context.doctype.syntax k own → Gives OfPiece (piece_in b outside s t m k own)
  in-either true m k own a = in-subset m k own a
  in-either false m k own a = in-elements m k own a

  tokens : (bytes : Text) (x : Scanned) → ScannedIs s.context.doctype.syntax bytes x → Gives OfPiece (by_token outside s t bytes x)
  tokens bytes (Token x) a = in-either (in_doctype s.stage t.entities) (mode_at s t.entities) x.kind (take x.length bytes) a
  tokens bytes NeedMore a = tt
  tokens bytes (BadToken r) a = tt

  first-tokens : (bytes : Text) (x : Scanned) → ScannedIs s.context.doctype.syntax bytes x → Gives OfPiece (by_token_before outside s t bytes x)
  first-tokens bytes (Token x) a = at-first x.kind (take x.length bytes) a
  first-tokens bytes NeedMore a = tt
  first-tokens bytes (BadToken r) a = tt

  here-is : (bytes : Text) → ScannedIs s.context.doctype.syntax bytes (token_here s t bytes)
  here-is bytes = token-is s.context.doctype.syntax (scan_state s t.entities) bytes

  -- AN SGML DECLARATION at the beginning
  syntaxes : (bytes : Text) (x : Result (Syntax × ℕ) DeclError) → Gives OfPiece (sgml_of bytes x)
  syntaxes bytes (Err r) = tt
  syntaxes bytes (Ok x) = either (Gives OfPiece) (all_sgml (take x.1 bytes)) _ _ tt tt

  outcomes : (bytes : Text) (x : Outcome) → Gives OfPiece (sgml_by bytes x)
  outcomes bytes (bad at) = tt
  outcomes bytes (whole heard n) = syntaxes bytes (answer heard n)

  sgml-declarations : (bytes : Text) → Gives OfPiece (sgml_piece bytes)
  unfolding sgml_piece
  sgml-declarations bytes = outcomes bytes (run 0 begin_state bytes)

  unclosed : (bytes : Text) (r : Reason) → Gives OfPiece (sgml_bad bytes r)
  unclosed bytes reason.Unclosed = sgml-declarations bytes
  unclosed bytes _ = tt

  sgml-tokens : (bytes : Text) (x : Scanned) → Gives OfPiece (sgml_by_token bytes x)
  sgml-tokens bytes (Token x) = sgml-declarations (take x.length bytes)
  sgml-tokens bytes NeedMore = tt
  sgml-tokens bytes (BadToken r) = unclosed bytes r

  beginnings : (b : Bool) (bytes : Text) → Gives OfPiece (at_beginning b outside s t bytes)
  beginnings true bytes = sgml-tokens bytes (token_here s t bytes)
  beginnings false bytes = first-tokens bytes (token_here s t bytes) (here-is bytes)

  stages : (bytes : Text) (g : Stage) → Gives OfPiece (by_stage outside s t bytes g)
  stages bytes BeforeSyntax = first-tokens bytes (token_here s t bytes) (here-is bytes)
  stages bytes AtBeginning = beginnings (begins_sgml s.context.doctype.syntax.names bytes) bytes
  stages bytes BeforeDoctype = first-tokens bytes (token_here s t bytes) (here-is bytes)
  stages bytes InSubset = tokens bytes (token_here s t bytes) (here-is bytes)
  stages bytes AfterSubset = tokens bytes (token_here s t bytes) (here-is bytes)

  -- WHERE A TEXT ENDS
  document-ends : (g : Stage) (b : Bool) → Gives OfPiece (document_end g b)
  document-ends AfterSubset true = tt
  document-ends AfterSubset false = tt
  document-ends BeforeSyntax b = tt
  document-ends AtBeginning b = tt
  document-ends BeforeDoctype b = tt
  document-ends InSubset b = tt

  entity-ends : (n : ℕ) (b : Bool) → Gives OfPiece (entity_end s n b)
  entity-ends n true = tt
  entity-ends n false = unless-gives OfPiece (type_end n s.context.doctype) (sized 0 EntityEnd) tt

  -- WHAT IS SPELLED
  here : (n : ℕ) (bytes : Text) → Gives OfPiece (spelled_in outside s t n bytes)
  here n [] =
      either (Gives OfPiece) (n == 0) _ _ (document-ends s.stage (in_section s.texts s.sections)) (entity-ends n (in_section s.texts s.sections))
  here n (b ∷ bytes) = either (Gives OfPiece) (is_early_end s.stage b) _ _ tt (stages (b ∷ bytes) s.stage)

  at-top : (rs : List Rest) → Gives OfPiece (spelled_of outside s t rs)
  at-top [] = tt
  at-top (r ∷ rs) = here r.entity r.bytes

pub spelled-refers : SpelledRefers
unfolding spelled
spelled-refers outside s t p e = subst (Gives (λ (q : Piece). IsSpelledSo s.context.doctype q.kind)) e (at-top outside s (stacked t) t.rests)
