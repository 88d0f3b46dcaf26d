-- What is told of a place by what was scanned there.
use Rattle.std.specs.Prelude.{ℕ, Bool, false, not, ◌==◌, ◌&&◌, List, [], ◌∷◌, Option, Some, None, length, if◌then◌else◌}
use Rattle.sgml_text.specs.declared.name_set.NameSet.{NameSet}
use Rattle.sgml_text.specs.declared.reason.Reason.TheVariants as reason
use Rattle.sgml_delim.specs.declared.delim.Mode.{Mode}
use Rattle.sgml_delim.specs.declared.delim.Mode.TheVariants as mode
use Rattle.sgml_decl_lexemes.specs.decl_parts.Bytes.{name_length}
use Rattle.sgml_marked.specs.declared.status.Status.{Status}
use Rattle.sgml_marked.specs.declared.status.Status.TheVariants as status
use Rattle.sgml_scan.specs.declared.state.ScanState.{ScanState}
use Rattle.sgml_markup.specs.declared.kinds.TokenKind.{TokenKind}
use Rattle.sgml_markup.specs.declared.kinds.TokenKind.TheVariants as kind
use Rattle.sgml_scan.specs.declared.state.Token as tokens
use Rattle.sgml_scan.specs.declared.state.Scanned.{Scanned}
use Rattle.sgml_scan.specs.declared.state.Scanned.TheVariants.{Token, NeedMore, BadToken}
use Rattle.sgml_declared.specs.theory_spelling.Prolog.{reason_before}
use Rattle.sgml_prolog_steps.specs.declared.found.Found.{Found}
use Rattle.sgml_prolog_steps.specs.declared.found.Found.TheVariants as found

-- the mode by the innermost marked section (10.4)
abbrev pub mode_in : Option Status → Mode
mode_in (Some status.Ignore) = mode.Ign
mode_in (Some status.Cdata) = mode.Cds
mode_in (Some status.Rcdata) = mode.Rcs
mode_in (Some status.Include) = mode.Ds
mode_in None = mode.Ds

-- neither NET nor a map is in force
abbrev pub scanned_in : Mode → ScanState
scanned_in m = record { mode = m; net = false; maps = false }

abbrev pub told_before : NameSet → List ℕ → Scanned → Found
told_before names bytes (Token x) = found.Token x
told_before names bytes NeedMore = found.More
told_before names bytes (BadToken r) = found.Refused (reason_before names bytes r)

abbrev pub begins_end : List ℕ → Bool
begins_end [] = false
begins_end (b ∷ bytes) = b == 93

abbrev pub told_inside : Bool → List ℕ → Scanned → Found
told_inside in_document bytes (Token x) = found.Token x
told_inside in_document bytes NeedMore = found.More
told_inside in_document bytes (BadToken r) = found.Refused (if not in_document && begins_end bytes then reason.DeclarationSyntax else r)

-- how many bytes the piece of a token has: characters and separators are taken one at a time
abbrev pub piece_length : tokens.Token → ℕ
piece_length x = by_kind x.kind
  where
    by_kind : TokenKind → ℕ
    by_kind kind.Chars = 1
    by_kind kind.Separators = 1
    by_kind _ = x.length

abbrev pub told_sgml : List ℕ → Scanned → Found
told_sgml bytes (Token x) = found.SgmlDeclaration (piece_length x)
told_sgml bytes NeedMore = found.More
told_sgml bytes (BadToken reason.Unclosed) = found.SgmlDeclaration (length bytes)
told_sgml bytes (BadToken r) = found.Refused r

-- the `<` of a declaration begins it, and more of it decides the keyword
abbrev pub is_unsure : NameSet → List ℕ → Bool
is_unsure names [] = false
is_unsure names (a ∷ []) = a == 60
is_unsure names (a ∷ b ∷ bytes) = (a == 60) && ((b == 33) && (name_length names bytes == length bytes))

-- where nothing is left of a text
abbrev pub at_end : Bool → Found
at_end grows = if grows then found.More else found.End
