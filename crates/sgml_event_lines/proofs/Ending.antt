-- All events at once.
use Rattle.std.proofs.Common.{◌≡◌, ◌≤◌, ◌<◌, ◌+◌, ℕ, Bool, true, Option, List, [], ◌∷◌, ◌++◌, sym, ap, subst, ◌∙◌, length, take, drop, get_or, take_all, take-append-drop}
use Rattle.std.proofs.lemmas.List.{take_more}
use Rattle.sgml_io.specs.Causes.{Rose}
use Rattle.sgml_io.specs.Writes.{AppendsFront}
use Rattle.sgml_esis.specs.Spelling.{spell_lines}
use Rattle.sgml_dtd.specs.Doctypes.{Doctype}
use Rattle.sgml_events.specs.declared.event.Event.{Event}
use Rattle.sgml_event_lines.specs.declared.writer.Writer.{Writer}
use Rattle.sgml_event_lines.specs.Lines.{lines_told}
use Rattle.sgml_event_lines.specs.Standing.{StandsAfter}
use Rattle.sgml_event_lines.proofs.Standing.{faulted}

-- one more event of them
pub stands_further : (start : Option (List ℕ)) (count : ℕ) (t : Option (List ℕ)) (m : ℕ) (w : Writer) (d : Doctype) (es : List Event) (i : ℕ) (e : Event) → i < length es → e ≡ get_or es i e → StandsAfter start count t m w d (take i es ++ e ∷ []) → StandsAfter start count t m w d (take (i + 1) es)
stands_further start count t m w d es i e lt is s =
    subst (λ (xs : List Event). StandsAfter start count t m w d xs) (ap (λ (x : Event). take i es ++ x ∷ []) is ∙ sym (take_more es i e lt)) s

-- all of them
pub stands_at_end : (start : Option (List ℕ)) (count : ℕ) (t : Option (List ℕ)) (m : ℕ) (w : Writer) (d : Doctype) (es : List Event) (i : ℕ) → length es ≤ i → StandsAfter start count t m w d (take i es) → StandsAfter start count t m w d es
stands_at_end start count t m w d es i le s = subst (λ (xs : List Event). StandsAfter start count t m w d xs) (take_all i es le) s

-- a fault at one of them
pub faulted_at : (start : Option (List ℕ)) (count : ℕ) (t : Option (List ℕ)) (m : ℕ) (w : Writer) (d : Doctype) (es : List Event) (i : ℕ) (e : Event) (conforming : Bool) → i < length es → e ≡ get_or es i e → w.pen.held.1 ≡ true → StandsAfter start count t m w d (take i es ++ e ∷ []) → AppendsFront start t (spell_lines (lines_told d es conforming)) × Rose count m
faulted_at start count t m w d es i e conforming lt is failed s =
    subst (λ (xs : List Event). AppendsFront start t (spell_lines (lines_told d xs conforming)) × Rose count m) (take-append-drop (i + 1) es)
    (faulted start count t m w d (take (i + 1) es) (drop (i + 1) es) conforming failed (stands_further start count t m w d es i e lt is s))
