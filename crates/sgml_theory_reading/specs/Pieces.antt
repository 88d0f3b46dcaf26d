-- What was read, as a list of pieces. The list of what was read is kept with the newest first.
use Rattle.std.specs.Prelude.{ℕ, Bool, Option, List, Result}
use Rattle.sgml_dtd.specs.text.declared.reason.Reason.{Reason}
use Rattle.sgml_dtd.specs.syntax.declared.syntax.Syntax.{Syntax}
use Rattle.sgml_dtd.specs.text.declared.unit.Unit.{Unit as AnyUnit}
use Rattle.sgml_dtd.specs.decl_lexemes.declared.lexeme.Lexeme.{Lexeme}
use Rattle.sgml_dtd.specs.marked.declared.status.Status.{Status}
use Rattle.sgml_dtd.specs.decl_forms.declared.doctype.DoctypeHead.{DoctypeHead}
use Rattle.sgml_dtd.specs.decl_forms.declared.declaration.Declaration.{Declaration}
use Rattle.sgml_theory_reading.specs.Names.{Name, Text}

-- how a tag was written, or that it was left out
pub data How : Type 0 where
  Tag : How
  -- an empty tag: <> or </> (7.4.1.1, 7.5.1.1)
  Short : How
  -- a start-tag that enables NET (7.4.1.3)
  Slash : How
  -- NET as an end-tag (7.5.1.3)
  Net : How
  Omitted : How

-- An attribute specification in a start-tag (7.9): the name of the attribute, also where it was left
-- out (none where the value alone is in no group, 7.9.1.2), and the units of what is written, not yet
-- interpreted by the declared value, or why it can't be read: a reference in it is wrong.
pub record Specification : Type 0 where
  pub attribute : Option Name
  pub written : Result (List AnyUnit) Reason

-- what a short reference string stands for, by the map in force (9.4.6); entities are numbered
pub data Meaning : Type 0 where
  -- for its bytes: whether they have items, and whether one of them is content
  Ordinary : (has_items : Bool) (content : Bool) → Meaning
  -- a text to be read
  ToText : (entity : ℕ) → Meaning
  -- an internal CDATA or SDATA entity
  ToData : (entity : ℕ) → Meaning
  -- an external data entity
  ToExternalData : (entity : ℕ) → Meaning
  ToInstruction : (entity : ℕ) (text : Text) → Meaning

-- What a piece is. Some kinds note what reading demands of them where they stand: a start,
-- whether it is a proper one (else an included one) and whether it ends at once; a record end,
-- whether it is live; the end of a document type, whether the external subset is read then.
pub data Kind : Type 0 where
  -- the prolog (7.1, 11.1, 13). A declaration has the name of the file in which it stands.
  Sgml : (syntax : Syntax) → Kind
  Head : (head : DoctypeHead) (base : Text) → Kind
  Declare : (lexemes : List Lexeme) (says : Declaration) (base : Text) → Kind
  SubsetEnd : (reads_external : Bool) → Kind
  -- tags (7.4, 7.5)
  Start : (element : Name) (specifications : List Specification) (how : How) (proper at_once : Bool) → Kind
  End : (element : Name) (how : How) → Kind
  -- a data character (7.6)
  Char : (byte : ℕ) → Kind
  -- a reference to an internal CDATA or SDATA entity, and to an external data entity (10.5)
  Data : (entity : ℕ) → Kind
  DataRef : (entity : ℕ) → Kind
  -- a record end or start in content with #PCDATA, and a separator that is ignored (7.6.1)
  Re : (live : Bool) → Kind
  Rs : Kind
  Sep : (byte : ℕ) → Kind
  ShortRef : (string : List ℕ) (meaning : Meaning) → Kind
  -- a text is opened, and a text ends (9.4): the external subset is 1, and the declared entities are
  -- numbered from 2 on
  Ref : (entity : ℕ) → Kind
  EntityEnd : Kind
  -- marked sections (10.4), and a byte in one that is ignored
  SectionStart : (status : Status) → Kind
  SectionEnd : Kind
  Skipped : (byte : ℕ) → Kind
  -- a processing instruction (8), of its own or that of an entity
  Pi : (text : Text) (entity : Option ℕ) → Kind
  Comment : Kind
  -- a USEMAP in content: the map by its number, and none is #EMPTY (11.6)
  UseMap : (map : Option ℕ) → Kind
  -- the end of the document
  Finish : Kind

pub record Piece : Type 0 where
  pub kind : Kind
  -- of the text that it takes, 0 where it was left out
  pub size : ℕ
  -- the lengths of the texts that were opened inside it, in literals and parameters
  pub spent : ℕ

-- with the newest piece first
abbrev pub History : Type 0
History = List Piece
