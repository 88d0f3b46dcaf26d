-- Which pieces are decided by the bytes that are there, whatever follows in the document's text (own).
use Rattle.std.specs.Prelude.{ℕ, Bool, true, false, ◌==◌, ◌&&◌, List, [], ◌∷◌, codes, if◌then◌else◌}
use Rattle.sgml_scan.specs.delim.declared.delim.Verdict.{Verdict}
use Rattle.sgml_scan.specs.delim.declared.delim.Verdict.TheVariants.{Holds, Fails, Undecided}
use Rattle.sgml_theory_reading.specs.Facets.{Stage, AtBeginning, InSubset, AfterSubset}
use Rattle.sgml_theory_reading.specs.Unread.{Outside, Rest, Standing}
use Rattle.sgml_theory_reading.specs.State.{State}
use Rattle.sgml_theory_spelling.specs.Stacked.{Stacked, stacked}
use Rattle.sgml_theory_spelling.specs.Places.{scan_state}
use Rattle.sgml_theory_spelling.specs.SgmlDeclared.{keyword_ends}
use Rattle.sgml_scan.specs.text.declared.name_set.NameSet.{NameSet}
use Rattle.sgml_scan.specs.delim.Verdicts.{prefix_verdict}
use Rattle.sgml_scan.specs.Decided.{token_decided}

-- THE PIECE IS DECIDED: each text but the document is whole

abbrev pub is_at_beginning : Stage → Bool
is_at_beginning AtBeginning = true
is_at_beginning _ = false

abbrev pub decided_token : State → Stacked → List ℕ → Bool
decided_token s t bytes = token_decided s.context.doctype.syntax (scan_state s t.entities) bytes

-- where an SGML declaration may stand, its keyword ends; it is decided by its end, as any declaration (13)
abbrev pub keyword_decided : NameSet → List ℕ → Bool → Bool
keyword_decided names bytes others = keyword_ends names bytes && others

abbrev pub beginning_decided : NameSet → List ℕ → Bool → Verdict → Bool
beginning_decided names bytes others Holds = keyword_decided names bytes others
beginning_decided names bytes others Fails = others
beginning_decided names bytes others Undecided = false

-- before the document type a `]` is refused at once
abbrev pub is_before : Stage → Bool
is_before InSubset = false
is_before AfterSubset = false
is_before _ = true

abbrev pub is_early_end : Stage → ℕ → Bool
is_early_end g b = is_before g && (b == 93)

abbrev pub decided_bytes : State → Stacked → List ℕ → Bool
decided_bytes s t [] = false
decided_bytes s t (b ∷ bytes) =
    if is_early_end s.stage b then true
    else if is_at_beginning s.stage
    then beginning_decided s.context.doctype.syntax.names (b ∷ bytes) (decided_token s t (b ∷ bytes)) (prefix_verdict (codes "<!") (b ∷ bytes))
    else decided_token s t (b ∷ bytes)

-- entity 0 is the document
abbrev pub decided_in : State → Stacked → ℕ → List ℕ → Bool
decided_in s t number bytes = if number == 0 then decided_bytes s t bytes else true

abbrev pub decided_of : State → Stacked → List Rest → Bool
decided_of s t [] = true
decided_of s t (x ∷ xs) = decided_in s t x.entity x.bytes

unfoldable pub decided : Outside → State → Standing → Bool
decided outside s t = decided_of s (stacked t) t.rests
