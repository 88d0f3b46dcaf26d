-- A declaration that is spelled holds.
use Rattle.std.proofs.Common.{◌≡◌, ℕ, Bool, true, false, ◌==◌, ◌&&◌, ◌||◌, ◌-◌, List, [], ◌∷◌, Option, None, Some, is_none, Result, Ok, Err, length, nat_lt, codes, take, refl, sym, ap, subst, if◌then◌else◌}
use Rattle.sgml_starts.specs.text.Characters.{is_separator}
use Rattle.sgml_starts.specs.text.declared.reason.Reason.{Reason}
use Rattle.sgml_starts.specs.syntax.declared.syntax.Syntax.{Syntax}
use Rattle.sgml_starts.specs.delim.declared.delim.Mode.{Mode}
use Rattle.sgml_starts.specs.delim.declared.delim.Mode.TheVariants as mode
use Rattle.sgml_starts.specs.entity.declared.kinds.Body.{Body}
use Rattle.sgml_starts.specs.entity.declared.kinds.Body.TheVariants as body
use Rattle.sgml_starts.specs.entity.declared.kinds.Space.TheVariants as space
use Rattle.sgml_starts.specs.markup.declared.kinds.TokenKind.{TokenKind}
use Rattle.sgml_starts.specs.markup.declared.kinds.TokenKind.TheVariants as kind
use Rattle.sgml_declared.specs.marked.declared.status.Status.{Status}
use Rattle.sgml_declared.specs.marked.Keywords.{status_by}
use Rattle.sgml_starts.specs.decl_lexemes.declared.lexeme.Lexeme.{Lexeme}
use Rattle.sgml_starts.specs.decl_parts.declared.ends.Construct.TheVariants as construct
use Rattle.sgml_starts.specs.decl_parts.Ends.{is_doctype}
use Rattle.sgml_declared.specs.decl_forms.declared.declaration.Declaration.{Declaration}
use Rattle.sgml_declared.specs.decl_forms.declared.declaration.Declaration.TheVariants as form
use Rattle.sgml_declared.specs.decl_forms.Declarations.{declaration_at}
use Rattle.sgml_starts.specs.dtd_maps.Rows.{use_reason}
use Rattle.sgml_starts.specs.dtd.Doctypes.{Doctype}
use Rattle.sgml_declared.specs.theory_reading.Names.{Name, Text}
use Rattle.sgml_declared.specs.theory_reading.Types.{entity_number, body_of}
use Rattle.sgml_declared.specs.theory_reading.Pieces.{Piece, Kind, Declare, EntityEnd, How, Short, Net, Meaning, Ordinary, ToText, ToData, ToExternalData, ToInstruction, DataRef, Ref, Pi}
use Rattle.sgml_declared.specs.theory_reading.ShortTags.{empty_start_type, empty_end_type, net_type}
use Rattle.sgml_declared.specs.theory_reading.Unread.{Outside, Sources, Rest, base_in}
use Rattle.sgml_declared.specs.theory_reading.State.{State, sources_in}
use Rattle.sgml_declared.specs.theory_reading.Characters.{separator_kind, has_text, in_text_section}
use Rattle.sgml_declared.specs.theory_spelling.Stacked.{Stacked, stacked}
use Rattle.sgml_declared.specs.theory_spelling.Sized.{sized, sized_spent, sized_ok, spent_ok, unless_reason}
use Rattle.sgml_declared.specs.theory_spelling.Places.{in_doctype, mode_at, map_at, in_section}
use Rattle.sgml_declared.specs.theory_spelling.References.{meaning_of, unless, unless_rcdata, referring_kind, parameter_text, parameter_of_number, parameter_kind}
use Rattle.sgml_declared.specs.theory_spelling.Declared.{Lexed, lexed, reason_against}
use Rattle.sgml_declared.specs.theory_spelling.SgmlDeclared.{has_keyword, begins_sgml, sgml_of, sgml_by, sgml_piece}
use Rattle.sgml_declared.specs.theory_spelling.Content.{first_of, character_kind, is_rcdata, kind_by_meaning, kind_of_string, mapped_kind, entity_of_string, short_start, ending_of, is_data_status, keywords_in, section_of, section_by, section_start, section_piece, section_end, has_open, map_used, use_of, or_reason, declared_kind, declared_piece, content_piece}
use Rattle.sgml_declared.specs.theory_spelling.Prolog.{head_by, head_lexed, piece_before, declared_by, declared_lexed, end_by, in_document, subset_piece}
use Rattle.sgml_starts.specs.text.Characters.{all_sgml}
use Rattle.sgml_starts.specs.text.declared.reason.Reason.TheVariants as reason
use Rattle.sgml_declared.specs.scan.declared.state.Scanned.{Scanned}
use Rattle.sgml_declared.specs.scan.declared.state.Scanned.TheVariants.{Token, NeedMore, BadToken}
use Rattle.sgml_declared.specs.sgmldecl.Machine.{Outcome, bad, whole, run, begin_state}
use Rattle.sgml_declared.specs.sgmldecl.Refusing.{answer}
use Rattle.sgml_declared.specs.sgmldecl.declared.feature.DeclError.{DeclError}
use Rattle.sgml_declared.specs.theory_reading.Facets.{Stage, BeforeSyntax, AtBeginning, BeforeDoctype, InSubset, AfterSubset}
use Rattle.sgml_declared.specs.theory_spelling.Decided.{is_early_end}
use Rattle.sgml_declared.specs.theory_spelling.Spelled.{type_end, document_end, entity_end, text_end, piece_in, by_token, by_token_before, token_here, sgml_bad, sgml_by_token, at_beginning, by_stage, spelled_in, spelled_of, spelled}
use Rattle.sgml_theory_starts.specs.Apart.{IsHeld, SpelledHolds}

module _ (dt : Doctype) where
  abbrev Holds : Result Piece Reason → Type 0
  Holds (Ok p) = IsHeld dt p.kind
  Holds (Err r) = Unit {0}

  abbrev KindHolds : Result Kind Reason → Type 0
  KindHolds (Ok k) = IsHeld dt k
  KindHolds (Err r) = Unit {0}

  spent-holds : (n spent : ℕ) (x : Result Kind Reason) → KindHolds x → Holds (spent_ok n spent x)
  spent-holds n spent (Ok k) e = e
  spent-holds n spent (Err r) e = tt

  ok-holds : (n : ℕ) (x : Result Kind Reason) → KindHolds x → Holds (sized_ok n x)
  ok-holds n x e = spent-holds n 0 x e

  if-holds : (t : Bool) (x y : Result Piece Reason) → Holds x → Holds y → Holds (if t then x else y)
  if-holds true x y p q = p
  if-holds false x y p q = q

  if-kinds : (t : Bool) (x y : Result Kind Reason) → KindHolds x → KindHolds y → KindHolds (if t then x else y)
  if-kinds true x y p q = p
  if-kinds false x y p q = q

  if-kind : (t : Bool) (x y : Kind) → IsHeld dt x → IsHeld dt y → IsHeld dt (if t then x else y)
  if-kind true x y p q = p
  if-kind false x y p q = q

  unless-holds : (o : Option Reason) (p : Piece) → IsHeld dt p.kind → Holds (unless_reason o p)
  unless-holds (Some r) p e = tt
  unless-holds None p e = e

  unless-kind : (o : Option Reason) (k : Kind) → IsHeld dt k → KindHolds (unless o k)
  unless-kind (Some r) k e = tt
  unless-kind None k e = e

  -- CHARACTERS

  separator-holds : (s : State) (b : ℕ) → IsHeld dt (separator_kind s b)
  unfolding separator_kind
  separator-holds s b =
      if-kind (b == 13) _ _ (if-kind (has_text s) _ _ tt tt)
      (if-kind (b == 10) _ _ (if-kind (has_text s) _ _ tt tt) (if-kind (has_text s || in_text_section s.sections) _ _ tt tt))

  character-holds : (s : State) (m : Mode) (b : ℕ) → IsHeld dt (character_kind s m b)
  character-holds s mode.Ign b = tt
  character-holds s _ b = if-kind (is_separator b) _ _ (separator-holds s b) tt

  -- REFERENCES

  rcdata-holds : (t : Bool) (k : Kind) → IsHeld dt k → KindHolds (unless_rcdata t k)
  rcdata-holds true k e = tt
  rcdata-holds false k e = e

  referring-holds : (t : Bool) (m : Meaning) → KindHolds (referring_kind t m)
  referring-holds t (ToText n) = tt
  referring-holds t (ToData n) = tt
  referring-holds t (ToExternalData n) = rcdata-holds t (DataRef n) tt
  referring-holds t (ToInstruction n text) = rcdata-holds t (Pi text (Some n)) tt
  referring-holds t (Ordinary x c) = tt

  meaning-holds : (t : Bool) (x : Result Meaning Reason) → KindHolds (kind_by_meaning t x)
  meaning-holds t (Ok m) = referring-holds t m
  meaning-holds t (Err r) = tt

  string-holds : (string : Text) (x : Result Meaning Reason) → KindHolds (kind_of_string string x)
  string-holds string (Ok m) = tt
  string-holds string (Err r) = tt

  mapped-holds : (outside : Outside) (s : State) (t : Stacked) (string : Text) (o : Option Name) → KindHolds (mapped_kind outside s t string o)
  mapped-holds outside s t string None = tt
  mapped-holds outside s t string (Some n) = string-holds string (meaning_of outside (sources_in s) t n)

  parameter-text-holds : (outside : Outside) (k : Sources) (t : Stacked) (n : ℕ) (o : Option Body) → KindHolds (parameter_text outside k t n o)
  parameter-text-holds outside k t n None = tt
  parameter-text-holds outside k t n (Some (body.Sgml text)) = unless-kind _ (Ref n) tt
  parameter-text-holds outside k t n (Some (body.External external)) = unless-kind _ (Ref n) tt
  parameter-text-holds outside k t n (Some (body.Pi text)) = if-kinds (nat_lt k.doctype.syntax.quantities.pilen (length text)) _ _ tt tt
  parameter-text-holds outside k t n (Some _) = tt

  parameter-number-holds : (outside : Outside) (k : Sources) (t : Stacked) (o : Option ℕ) → KindHolds (parameter_of_number outside k t o)
  parameter-number-holds outside k t None = tt
  parameter-number-holds outside k t (Some n) = parameter-text-holds outside k t n (body_of k.doctype n)

  parameter-holds : (outside : Outside) (k : Sources) (t : Stacked) (n : Name) → KindHolds (parameter_kind outside k t n)
  unfolding parameter_kind
  parameter-holds outside k t n = parameter-number-holds outside k t (entity_number k.doctype space.Parameter n)

  -- TAGS

  short-holds : (o : Option Name) → KindHolds (short_start o)
  short-holds None = tt
  short-holds (Some n) = tt

  ending-holds : (how : How) (o : Option Name) → KindHolds (ending_of how o)
  ending-holds how None = tt
  ending-holds how (Some n) = tt

  -- SECTIONS

  section-of-holds : (syntax : Syntax) (xs : List Lexeme) (t : Bool) (n spent : ℕ) (x : Result Status ℕ) → Holds (section_of syntax xs t n spent x)
  section-of-holds syntax xs t n spent (Err i) = tt
  section-of-holds syntax xs t n spent (Ok st) = if-holds (t && is_data_status st) _ _ tt tt

  section-by-holds : (syntax : Syntax) (t : Stacked) (b : Bool) (n : ℕ) (x : Result Lexed Reason) → Holds (section_by syntax t b n x)
  section-by-holds syntax t b n (Err r) = tt
  section-by-holds syntax t b n (Ok x) = section-of-holds syntax x.lexemes b n (x.spent - t.spent) (status_by (keywords_in x.lexemes))

  section-start-holds : (outside : Outside) (d : Doctype) (t : Stacked) (b : Bool) (own : List ℕ) → Holds (section_start outside d t b own)
  unfolding section_start
  section-start-holds outside d t b own = section-by-holds d.syntax t b (length own) (lexed construct.SectionStart outside d t own)

  section-holds : (outside : Outside) (d : Doctype) (t : Stacked) (m : Mode) (b : Bool) (own : List ℕ) → Holds (section_piece outside d t m b own)
  section-holds outside d t mode.Ign b own = tt
  section-holds outside d t _ b own = section-start-holds outside d t b own

  section-end-holds : (s : State) (n : ℕ) → Holds (section_end s n)
  section-end-holds s n = if-holds (in_section s.texts s.sections) _ _ tt tt

  -- DECLARATIONS

  use-holds : (x : Result (Option ℕ) Reason) → KindHolds (use_of x)
  use-holds (Ok m) = tt
  use-holds (Err r) = tt

  or-holds : (o : Option Reason) (x : Result Kind Reason) → KindHolds x → KindHolds (or_reason o x)
  or-holds (Some r) x e = tt
  or-holds None x e = e

  declared-kind-holds : (s : State) (o : Option Declaration) → KindHolds (declared_kind s o)
  declared-kind-holds s None = tt
  declared-kind-holds s (Some (form.Usemap u)) =
      if-kinds (is_none u.targets && has_open s.context.levels) _ _
      (or-holds (use_reason s.context.doctype.syntax u) _ (use-holds (map_used s.context.doctype u.map))) tt
  declared-kind-holds s (Some _) = tt

  declared-piece-holds : (outside : Outside) (s : State) (t : Stacked) (own : List ℕ) (x : Result Lexed Reason) → Holds (declared_piece outside s t own x)
  declared-piece-holds outside s t own (Err r) = tt
  declared-piece-holds outside s t own (Ok x) =
      spent-holds (length own) (x.spent - t.spent) (declared_kind s (declaration_at x.lexemes)) (declared-kind-holds s (declaration_at x.lexemes))

  head-by-holds : (outside : Outside) (k : Sources) (t : Stacked) (n : ℕ) (x : Lexed) (o : Option Declaration) → Holds (head_by outside k t n x o)
  head-by-holds outside k t n x (Some (form.Doctype h)) = unless-holds _ _ tt
  head-by-holds outside k t n x _ = tt

  head-holds : (outside : Outside) (k : Sources) (t : Stacked) (n : ℕ) (x : Result Lexed Reason) → Holds (head_lexed outside k t n x)
  head-holds outside k t n (Err r) = tt
  head-holds outside k t n (Ok x) = head-by-holds outside k t n x (declaration_at x.lexemes)

  against-holds : (n spent : ℕ) (x : Lexed) (says : Declaration) (base : Text) (o : Option Reason) → reason_against dt x.lexemes says ≡ o
      → Holds (unless_reason o (sized_spent n spent (Declare x.lexemes says base)))
  against-holds n spent x says base (Some r) e = tt
  against-holds n spent x says base None e = e

  declared-by-holds : (outside : Outside) (k : Sources) (t : Stacked) (n : ℕ) (x : Lexed) (o : Option Declaration) → k.doctype ≡ dt → Holds (declared_by outside k t n x o)
  declared-by-holds outside k t n x None e = tt
  declared-by-holds outside k t n x (Some says) e =
      against-holds n (x.spent - t.spent) x says (base_in outside k t.entities) (reason_against k.doctype x.lexemes says) (ap (λ (z : Doctype). reason_against z x.lexemes says) (sym e))

  declared-holds : (outside : Outside) (k : Sources) (t : Stacked) (n : ℕ) (x : Result Lexed Reason) → k.doctype ≡ dt → Holds (declared_lexed outside k t n x)
  declared-holds outside k t n (Err r) e = tt
  declared-holds outside k t n (Ok x) e = declared-by-holds outside k t n x (declaration_at x.lexemes) e

  end-by-holds : (outside : Outside) (s : State) (t : Stacked) (n : ℕ) (x : Result Lexed Reason) → Holds (end_by outside s t n x)
  end-by-holds outside s t n (Err r) = tt
  end-by-holds outside s t n (Ok x) = unless-holds _ _ tt

  -- BY THE TOKEN

  content-holds : (outside : Outside) (s : State) (t : Stacked) (m : Mode) (k : TokenKind) (own : List ℕ) → Holds (content_piece outside s t m k own)
  unfolding content_piece
  content-holds outside s t m kind.Chars own = character-holds s m (first_of own)
  content-holds outside s t m kind.Re own = separator-holds s 13
  content-holds outside s t m kind.Rs own = separator-holds s 10
  content-holds outside s t m (kind.ShortRef i) own = ok-holds (length own) _ (mapped-holds outside s t own (entity_of_string s.context.doctype (map_at s) i))
  content-holds outside s t m kind.StartTag own = tt
  content-holds outside s t m kind.EmptyStart own = ok-holds (length own) _ (short-holds (empty_start_type s.context s.ended))
  content-holds outside s t m kind.EndTag own = tt
  content-holds outside s t m kind.EmptyEnd own = ok-holds (length own) _ (ending-holds Short (empty_end_type s.context))
  content-holds outside s t m kind.Net own = ok-holds (length own) _ (ending-holds Net (net_type s.context))
  content-holds outside s t m kind.EntityRef own =
      ok-holds (length own) _ (meaning-holds (is_rcdata m) _)
  content-holds outside s t m (kind.CharRef b) own = tt
  content-holds outside s t m (kind.FunctionRef b) own = separator-holds s b
  content-holds outside s t m kind.Pi own = tt
  content-holds outside s t m kind.Comment own = tt
  content-holds outside s t m kind.SectionStart own = section-holds outside s.context.doctype t m false own
  content-holds outside s t m kind.SectionEnd own = section-end-holds s (length own)
  content-holds outside s t m kind.Declaration own =
      if-holds (has_keyword s.context.doctype.syntax.names (codes "SGML") own) _ _ tt
      (declared-piece-holds outside s t own (lexed construct.Declaration outside s.context.doctype t own))
  content-holds outside s t m _ own = tt

  before-holds : (outside : Outside) (s : State) (t : Stacked) (k : TokenKind) (own : List ℕ) → Holds (piece_before outside s t k own)
  unfolding piece_before
  before-holds outside s t kind.Separators own = tt
  before-holds outside s t kind.Pi own = tt
  before-holds outside s t kind.Comment own = tt
  before-holds outside s t kind.Declaration own =
      if-holds (is_doctype s.context.doctype.syntax.names own) _ _
      (head-holds outside (sources_in s) t (length own) (lexed construct.Declaration outside s.context.doctype t own)) tt
  before-holds outside s t _ own = tt

  subset-holds : (outside : Outside) (s : State) (t : Stacked) (m : Mode) (k : TokenKind) (own : List ℕ) → s.context.doctype ≡ dt → Holds (subset_piece outside s t m k own)
  unfolding subset_piece
  subset-holds outside s t mode.Ign kind.Chars own e = tt
  subset-holds outside s t m kind.Separators own e = tt
  subset-holds outside s t m kind.Pi own e = tt
  subset-holds outside s t m kind.Comment own e = tt
  subset-holds outside s t m kind.ParameterRef own e = ok-holds (length own) _ (parameter-holds outside (sources_in s) t _)
  subset-holds outside s t m kind.SectionStart own e = section-holds outside s.context.doctype t m true own
  subset-holds outside s t m kind.SectionEnd own e = section-end-holds s (length own)
  subset-holds outside s t m kind.Declaration own e =
      if-holds (has_keyword s.context.doctype.syntax.names (codes "SGML") own) _ _ tt
      (declared-holds outside (sources_in s) t (length own) (lexed construct.Declaration outside s.context.doctype t own) e)
  subset-holds outside s t m kind.SubsetEnd own e =
      if-holds (in_document t.entities) _ _
      (end-by-holds outside s t (length own) (lexed construct.SubsetEnd outside s.context.doctype t own)) tt
  subset-holds outside s t m _ own e = tt

  -- WHERE A TEXT ENDS
  document-holds : (g : Stage) (t : Bool) → Holds (document_end g t)
  document-holds BeforeSyntax t = tt
  document-holds AtBeginning t = tt
  document-holds BeforeDoctype t = tt
  document-holds InSubset t = tt
  document-holds AfterSubset true = tt
  document-holds AfterSubset false = tt

  entity-end-holds : (s : State) (n : ℕ) (t : Bool) → Holds (entity_end s n t)
  entity-end-holds s n true = tt
  entity-end-holds s n false = unless-holds (type_end n s.context.doctype) (sized 0 EntityEnd) tt

  text-end-holds : (s : State) (n : ℕ) → Holds (text_end s n)
  text-end-holds s n =
      if-holds (n == 0) _ _ (document-holds s.stage (in_section s.texts s.sections)) (entity-end-holds s n (in_section s.texts s.sections))

  -- WHAT IS SPELLED
  in-holds : (t : Bool) (outside : Outside) (s : State) (x : Stacked) (m : Mode) (k : TokenKind) (own : Text) → s.context.doctype ≡ dt → Holds (piece_in t outside s x m k own)
  in-holds true outside s x m k own e = subset-holds outside s x m k own e
  in-holds false outside s x m k own e = content-holds outside s x m k own

  token-holds : (outside : Outside) (s : State) (t : Stacked) (bytes : Text) (x : Scanned) → s.context.doctype ≡ dt → Holds (by_token outside s t bytes x)
  token-holds outside s t bytes (Token x) e = in-holds (in_doctype s.stage t.entities) outside s t (mode_at s t.entities) x.kind (take x.length bytes) e
  token-holds outside s t bytes NeedMore e = tt
  token-holds outside s t bytes (BadToken r) e = tt

  token-before-holds : (outside : Outside) (s : State) (t : Stacked) (bytes : Text) (x : Scanned) → Holds (by_token_before outside s t bytes x)
  token-before-holds outside s t bytes (Token x) = before-holds outside s t x.kind (take x.length bytes)
  token-before-holds outside s t bytes NeedMore = tt
  token-before-holds outside s t bytes (BadToken r) = tt

  sgml-of-holds : (bytes : Text) (x : Result (Syntax × ℕ) DeclError) → Holds (sgml_of bytes x)
  sgml-of-holds bytes (Err e) = tt
  sgml-of-holds bytes (Ok x) = if-holds (all_sgml (take x.1 bytes)) _ _ tt tt

  sgml-by-holds : (bytes : Text) (x : Outcome) → Holds (sgml_by bytes x)
  sgml-by-holds bytes (bad at) = tt
  sgml-by-holds bytes (whole heard n) = sgml-of-holds bytes (answer heard n)

  sgml-holds : (bytes : Text) → Holds (sgml_piece bytes)
  unfolding sgml_piece
  sgml-holds bytes = sgml-by-holds bytes (run 0 begin_state bytes)

  sgml-bad-holds : (bytes : Text) (r : Reason) → Holds (sgml_bad bytes r)
  sgml-bad-holds bytes reason.Unclosed = sgml-holds bytes
  sgml-bad-holds bytes _ = tt

  sgml-token-holds : (bytes : Text) (x : Scanned) → Holds (sgml_by_token bytes x)
  sgml-token-holds bytes (Token x) = sgml-holds (take x.length bytes)
  sgml-token-holds bytes NeedMore = tt
  sgml-token-holds bytes (BadToken r) = sgml-bad-holds bytes r

  beginning-holds : (w : Bool) (outside : Outside) (s : State) (t : Stacked) (bytes : Text) → Holds (at_beginning w outside s t bytes)
  beginning-holds true outside s t bytes = sgml-token-holds bytes (token_here s t bytes)
  beginning-holds false outside s t bytes = token-before-holds outside s t bytes (token_here s t bytes)

  stage-holds : (outside : Outside) (s : State) (t : Stacked) (bytes : Text) (g : Stage) → s.context.doctype ≡ dt → Holds (by_stage outside s t bytes g)
  stage-holds outside s t bytes BeforeSyntax e = token-before-holds outside s t bytes (token_here s t bytes)
  stage-holds outside s t bytes AtBeginning e = beginning-holds (begins_sgml s.context.doctype.syntax.names bytes) outside s t bytes
  stage-holds outside s t bytes BeforeDoctype e = token-before-holds outside s t bytes (token_here s t bytes)
  stage-holds outside s t bytes InSubset e = token-holds outside s t bytes (token_here s t bytes) e
  stage-holds outside s t bytes AfterSubset e = token-holds outside s t bytes (token_here s t bytes) e

  here-holds : (outside : Outside) (s : State) (t : Stacked) (n : ℕ) (bytes : Text) → s.context.doctype ≡ dt → Holds (spelled_in outside s t n bytes)
  here-holds outside s t n [] e = text-end-holds s n
  here-holds outside s t n (b ∷ bytes) e = if-holds (is_early_end s.stage b) _ _ tt (stage-holds outside s t (b ∷ bytes) s.stage e)

  all-hold : (outside : Outside) (s : State) (t : Stacked) (rs : List Rest) → s.context.doctype ≡ dt → Holds (spelled_of outside s t rs)
  all-hold outside s t [] e = tt
  all-hold outside s t (r ∷ rs) e = here-holds outside s t r.entity r.bytes e

  one-holds : (x : Result Piece Reason) (p : Piece) → Holds x → x ≡ Ok p → IsHeld dt p.kind
  one-holds x p h e = subst (λ (y : Result Piece Reason). Holds y) e h

pub spelled-holds : SpelledHolds
unfolding spelled
spelled-holds outside s t p e = one-holds s.context.doctype (spelled outside s t) p (all-hold s.context.doctype outside s (stacked t) t.rests refl) e
