use Rattle.std.proofs.Common.{Bool, ◌||◌, ◌≡◌, ◌<◌, ◌∙◌, ◌∷◌, ◌++◌, [], sym, ap, subst, refl, arith, length, length-set, Option, Some, None, Ok, List, ℕ, true}
use Rattle.sgml_text.specs.declared.reason.Reason.{Reason}
use Rattle.sgml_text.specs.declared.unit.Unit.{Unit as AnyUnit}
use Rattle.sgml_attr.specs.declared.definition.Spec.{Spec}
use Rattle.sgml_attr.specs.Literal.{interpreted}
use Rattle.sgml_attr.specs.Matching.{attribute_of}
use Rattle.sgml_attr.specs.Values.{value}
use Rattle.sgml_starts.specs.Rows.{reason_of_spec}
use Rattle.sgml_starts.specs.Values.{Start, refused}
use Rattle.sgml_starts.specs.Starts.{list_for, IsUnvalued}
use Rattle.std.specs.Vec.{with_item}
use Rattle.sgml_starts.specs.declared.filling.Filled.{Filled}
use Rattle.sgml_starts.specs.Filled.{AreFilled}
use Rattle.sgml_starts.proofs.Added.{at-number, flag-of, reason-is, add-filled}
use Rattle.sgml_starts.proofs.Ranked.{not-twice}
use Rattle.sgml_starts.proofs.filling.Start.add.Goals as goal

pub returns-in-Err-clause-err : goal.returns-in-Err-clause-err
returns-in-Err-clause-err c =
    let l : c.args.number < length c.self.inside.definitions.now = omega (arith, c.requires.number, ap (λ (z : Start). length z.definitions) c.self.view_is) in
    let S : Start = record { syntax = c.self.inside.syntax.now; tables = c.self.inside.entities.now; definitions = c.self.inside.definitions.now; list = list_for c.self.inside.dtd.now c.self.inside.element; currents = c.self.inside.currents.now } in
    let x = c.index-definitions-number.result in
    subst (λ (T : Start). (before : List Spec) (s : Spec) → AreFilled T before c.args.filled.now → attribute_of T.syntax T.definitions s ≡ Some c.args.number → s.value ≡ c.args.units.now
    → IsUnvalued (refused (reason_of_spec T.syntax T.tables T.definitions before s)) c.in-Err.error)
    c.self.view_is
    (λ before s h named units.
    let here = at-number S.definitions c.args.number x l c.index-definitions-number.is in
    subst (λ (o : Option Reason). IsUnvalued (refused o) c.in-Err.error)
    (sym (reason-is S before s c.args.number x c.has-twice.result c.args.units.now named here
    (flag-of S before c.args.filled.now c.args.number x c.has-twice.result h here c.has-twice.ensures) units))
    c.in-Err.ensures.err)

pub returns-clause-none : goal.returns-clause-none
returns-clause-none c =
    let l : c.args.number < length c.self.inside.definitions.now = omega (arith, c.requires.number, ap (λ (z : Start). length z.definitions) c.self.view_is) in
    let S : Start = record { syntax = c.self.inside.syntax.now; tables = c.self.inside.entities.now; definitions = c.self.inside.definitions.now; list = list_for c.self.inside.dtd.now c.self.inside.element; currents = c.self.inside.currents.now } in
    let x = c.index-definitions-number.result in
    subst (λ (T : Start). (before : List Spec) (s : Spec) → AreFilled T before c.args.filled.now → attribute_of T.syntax T.definitions s ≡ Some c.args.number → s.value ≡ c.args.units.now
    → reason_of_spec T.syntax T.tables T.definitions before s ≡ None)
    c.self.view_is
    (λ before s h named units.
    let here = at-number S.definitions c.args.number x l c.index-definitions-number.is in
    reason-is S before s c.args.number x c.has-twice.result c.args.units.now named here
    (flag-of S before c.args.filled.now c.args.number x c.has-twice.result h here c.has-twice.ensures) units
    ∙ c.in-Ok.ensures.none)

pub returns-clause-ok : goal.returns-clause-ok
returns-clause-ok c =
    let l : c.args.number < length c.self.inside.definitions.now = omega (arith, c.requires.number, ap (λ (z : Start). length z.definitions) c.self.view_is) in
    let S : Start = record { syntax = c.self.inside.syntax.now; tables = c.self.inside.entities.now; definitions = c.self.inside.definitions.now; list = list_for c.self.inside.dtd.now c.self.inside.element; currents = c.self.inside.currents.now } in
    let x = c.index-definitions-number.result in
    let f = c.args.filled.now in
    let n = c.args.number in
    let v = c.in-Ok.value in
    let g : Filled = record { values = with_item f.values n v; specified = c.note.new.self; current = c.note_current.new.current; conref = c.either-filled.result } in
    subst (λ (T : Start). (before : List Spec) (s : Spec) → AreFilled T before c.args.filled.now → attribute_of T.syntax T.definitions s ≡ Some c.args.number → s.value ≡ c.args.units.now
    → AreFilled T (before ++ s ∷ []) g)
    c.self.view_is
    (λ before s h named units.
    let here = at-number S.definitions n x l c.index-definitions-number.is in
    add-filled S before f g s n x h here named v refl c.note.ensures c.in_ok-note_current.ensures (c.either-filled.ensures ∙ ap (λ (b : Bool). c.args.filled.now.conref || b) c.is_conref.ensures) (length-set f.values.items n v) (ap (λ (l : List Bool). length l) c.note.ensures ∙ length-set f.specified.items n true)
    (flag-of S before f n x c.has-twice.result h here c.has-twice.ensures
    ∙ not-twice S.syntax x S.tables c.has-twice.result (interpreted x.declared c.args.units.now) c.in-Ok.ensures.none)
    (ap (λ (u : List AnyUnit). value S.syntax x S.tables None (Some (interpreted x.declared u))) units ∙ c.in-Ok.ensures.ok))
