-- Declarations before the document type.
use Rattle.std.specs.Prelude.{◌≡◌, ℕ, Bool, List, Option, None, take}
use Rattle.sgml_declared.specs.decl_parts.Ends.{is_doctype}
use Rattle.sgml_scan.specs.declared.state.Token.{Token}
use Rattle.sgml_entity.specs.Stack.{Stack}
use Rattle.sgml_dtd.specs.Doctypes.{Doctype}
use Rattle.sgml_declared.specs.theory_reading.Names.{Name, Text}
use Rattle.sgml_declared.specs.theory_reading.Facets.{ExternalSubset, stage_of_head}
use Rattle.sgml_declared.specs.theory_standing.Kept.{Kept}
use Rattle.sgml_declared.specs.Files.{Choices, sources_in}
use Rattle.sgml_declared.specs.declared.head.Head.{Head}
use Rattle.sgml_declared.specs.Heads.{HeadIsTaken}
use Rattle.sgml_declared.specs.Over.{HeadIsOver}
use Rattle.sgml_prolog_steps.specs.Found.{rest_in}

-- the declaration that this token is begins a document type (11.1)
abbrev pub is_head : Kept → List (ℕ × Text) → Token → Bool
is_head k texts x = is_doctype k.doctype.syntax.names (take x.length (rest_in k texts))

-- after a head with this document type and these texts: where the external subset is, and whether an
-- internal one has begun
abbrev pub headed : Doctype → Stack → Option ExternalSubset → Bool → Kept → Kept
headed d s external subset k = record k { doctype = d; stack = s; stage = stage_of_head subset; subset = external }

-- a head was taken, and what it says is kept
pub record IsHeadKept (c : Choices) (texts : List (ℕ × Text)) (asked : Option Name) (old new : Kept) : Type 0 where
  pub head : Head
  pub taken : HeadIsTaken c (sources_in old.doctype None) texts asked new.doctype old.stack new.stack head
  pub over : HeadIsOver old.doctype new.doctype texts old.stack new.stack head
  pub after : new ≡ headed new.doctype new.stack head.external head.subset old
