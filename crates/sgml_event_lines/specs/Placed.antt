-- Lines with the definitions before them, one after another.
use Rattle.std.specs.Prelude.{List, [], ◌∷◌, ◌++◌}
use Rattle.sgml_text.specs.declared.data_kind.DataKind.{DataKind}
use Rattle.sgml_entity.specs.declared.kinds.External.{External}
use Rattle.sgml_dtd.specs.Doctypes.{Doctype}
use Rattle.sgml_theory_reading.specs.Lines.{Line, DefineExternal, Known, Defined, defined_for, define_notation, external_lines}
use Rattle.sgml_theory_reading.specs.Names.{Name}

-- what comes next in lines with their definitions
abbrev pub Placing : Type 0
Placing = Known → Defined

abbrev pub nothing_placed : Placing
nothing_placed known = record { lines = []; known = known }

-- lines that name nothing
abbrev pub placed_plain : List Line → Placing
placed_plain ls known = record { lines = ls; known = known }

abbrev pub then_placed : Placing → Placing → Placing
then_placed f g known =
    let first = f known in
    let rest = g first.known in
    record { lines = first.lines ++ rest.lines; known = rest.known }

-- a line behind what it names
abbrev pub placed_line : Doctype → Line → Placing
placed_line d l known =
    let first = defined_for d known l in
    record { lines = first.lines ++ (l ∷ []); known = first.known }

abbrev pub placed : Doctype → List Line → Placing
placed d [] = nothing_placed
placed d (l ∷ ls) = then_placed (placed_line d l) (placed d ls)

-- an external data entity, its notation before it
abbrev pub external_placed : Doctype → Name → DataKind → External → Name → Placing
external_placed d e kind external n known =
    let first = define_notation d known n in
    record { lines = first.lines ++ (external_lines external ++ (DefineExternal e kind n ∷ [])); known = first.known }
