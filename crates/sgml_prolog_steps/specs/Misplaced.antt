-- An SGML declaration where it has no place (13).
use Rattle.std.specs.Prelude.{Option, Some, None, codes, if◌then◌else◌}
use Rattle.sgml_text.specs.declared.reason.Reason.{Reason}
use Rattle.sgml_text.specs.declared.name_set.NameSet.{NameSet}
use Rattle.sgml_declared.specs.theory_reading.Names.{Text}
use Rattle.sgml_declared.specs.theory_spelling.SgmlDeclared.{has_keyword, sgml_piece, misplaced}

-- why a second SGML declaration has no place, where these bytes are one (13)
abbrev pub sgml_reason : NameSet → Text → Option Reason
sgml_reason names own = if has_keyword names (codes "SGML") own then Some (misplaced (sgml_piece own)) else None
