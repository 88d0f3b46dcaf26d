-- What a token is where it stands.
use Rattle.std.specs.Prelude.{Bool, true, false, not, ◌&&◌, Option, Some, None, if◌then◌else◌}
use Rattle.sgml_marked.specs.declared.status.Status.{Status}
use Rattle.sgml_marked.specs.declared.status.Status.TheVariants as status
use Rattle.sgml_markup.specs.declared.kinds.TokenKind.{TokenKind}
use Rattle.sgml_markup.specs.declared.kinds.TokenKind.TheVariants as kind
use Rattle.sgml_declared.specs.theory_spelling.Decided.{is_before}
use Rattle.sgml_declared.specs.theory_standing.Kept.{Kept}
use Rattle.sgml_prolog_steps.specs.Found.{innermost}
use Rattle.sgml_prolog_steps.specs.declared.sort.Sort.{Sort}
use Rattle.sgml_prolog_steps.specs.declared.sort.Sort.TheVariants as sort

-- before the document type (7.1)
abbrev pub sort_before : TokenKind → Sort
sort_before kind.Separators = sort.Separators
sort_before kind.Pi = sort.Instruction
sort_before kind.Comment = sort.Comment
sort_before kind.Declaration = sort.Head
sort_before _ = sort.Misfit

-- in it (11.1); characters stand in ignored sections alone (10.4.2)
abbrev pub sort_inside : Bool → TokenKind → Sort
sort_inside ignored kind.Chars = if ignored then sort.Skipped else sort.Misfit
sort_inside ignored kind.Separators = sort.Separators
sort_inside ignored kind.Pi = sort.Instruction
sort_inside ignored kind.Comment = sort.Comment
sort_inside ignored kind.ParameterRef = sort.Reference
sort_inside ignored kind.SectionStart = sort.SectionStart
sort_inside ignored kind.SectionEnd = sort.SectionEnd
sort_inside ignored kind.Declaration = sort.Declaration
sort_inside ignored kind.SubsetEnd = sort.SubsetEnd
sort_inside ignored _ = sort.Misfit

abbrev pub is_ignored : Option Status → Bool
is_ignored (Some status.Ignore) = true
is_ignored _ = false

-- in no section, or in one that is included (10.4.2)
abbrev pub is_subset_mode : Option Status → Bool
is_subset_mode None = true
is_subset_mode (Some status.Include) = true
is_subset_mode _ = false

-- between the declarations of a document type
abbrev pub is_between : Kept → Bool
is_between k = not (is_before k.stage) && is_subset_mode (innermost k.sections)

abbrev pub sort_in : Kept → TokenKind → Sort
sort_in k x = if is_before k.stage then sort_before x else sort_inside (is_ignored (innermost k.sections)) x
