-- How parts are joined as they are read: what was put out, and whether a SPACE is due.
use Rattle.std.specs.Prelude.{List, [], ◌∷◌, ◌++◌, if◌then◌else◌, fold}
use Rattle.sgml_text.specs.declared.unit.Unit.{Unit as AnyUnit}
use Rattle.sgml_text.specs.declared.unit.Unit.TheVariants.{Byte}
use Rattle.sgml_attr.specs.declared.literal.Gap.{Gap}
use Rattle.sgml_attr.specs.declared.literal.Gap.TheVariants.{Before, Within, After}
use Rattle.sgml_attr.specs.Parts.{is_space}
use Rattle.sgml_attr.specs.Literal.{unit_read}

abbrev pub gap_after_space : Gap → Gap
gap_after_space Before = Before
gap_after_space Within = After
gap_after_space After = After

-- the SPACE that is due
abbrev pub space_due : Gap → List AnyUnit
space_due Before = []
space_due Within = []
space_due After = Byte 32 ∷ []

abbrev pub spacing : List AnyUnit × Gap → AnyUnit → List AnyUnit × Gap
spacing state u =
    if is_space u then (state.0, gap_after_space state.1) else (state.0 ++ (space_due state.1 ++ u ∷ []), Within)

-- the same of a unit of a literal
abbrev pub reading : List AnyUnit × Gap → AnyUnit → List AnyUnit × Gap
reading state u = fold spacing state (unit_read u)
