use Rattle.std.proofs.Common.{◌≡◌, ◌<◌, ◌∙◌, sym, ap, subst, arith, false, length, Option, None, Some, Ok, Err, Result, ℕ, List}
use Rattle.std.specs.Prelude.{slice_get}
use Rattle.sgml_attr.specs.declared.definition.Definition.{Definition}
use Rattle.sgml_attr.specs.declared.definition.Spec.{Spec}
use Rattle.sgml_attr.specs.declared.error.AttrError.{AttrError}
use Rattle.sgml_attr.specs.declared.value.AttrValue.{AttrValue}
use Rattle.sgml_attr.specs.Currents.{current_at}
use Rattle.sgml_starts.specs.declared.error.StartError.{StartError}
use Rattle.sgml_attr.specs.Values.{value, current_given}
use Rattle.sgml_starts.specs.Values.{Start, is_specified, result_of, current_in, reason_in, refused}
use Rattle.sgml_starts.specs.Starts.{list_for, IsUnvalued}
use Rattle.sgml_starts.proofs.Added.{unspecified-is, definition-at}
use Rattle.sgml_starts.proofs.Numbered.{if-ok}
use Rattle.sgml_starts.proofs.Whole.{if-err}
use Rattle.sgml_starts.proofs.Ranked.{told-is, without-current, of-current}
use Rattle.sgml_starts.proofs.filling.Start.default.Goals as goal

pub returns-in-Ok-clause-ok : goal.returns-in-Ok-clause-ok
returns-in-Ok-clause-ok c =
    let l : c.args.number < length c.self.inside.definitions.now = omega (arith, c.requires, ap (λ (z : Start). length z.definitions) c.self.view_is) in
    let T : Start = record {
      syntax = c.self.inside.syntax.now;
      tables = c.self.inside.entities.now;
      definitions = c.self.inside.definitions.now;
      list = list_for c.self.inside.dtd.now c.self.inside.element;
      currents = c.self.inside.currents.now;
    } in
    let d = c.index-definitions-number.result in
    subst (λ (S : Start). (ss : List Spec) (x : Definition) → slice_get S.definitions c.args.number ≡ Some x → is_specified S ss c.args.number ≡ false → result_of S ss c.args.number x ≡ Ok c.in-Ok.value)
    c.self.view_is
    (λ ss x here unspecified.
    unspecified-is T ss c.args.number x unspecified
    ∙ ap (λ (y : Definition). value T.syntax y T.tables (current_in T.currents T.list c.args.number) None) (sym (definition-at T.definitions c.args.number x d l c.index-definitions-number.is here))
    ∙ without-current T.syntax d T.tables (current_in T.currents T.list c.args.number) (current_at T.currents 0 0) (sym c.if-is_current.ensures)
    ∙ sym c.in-Ok.ensures)

pub returns-in-Err-clause-err : goal.returns-in-Err-clause-err
returns-in-Err-clause-err c =
    let l : c.args.number < length c.self.inside.definitions.now = omega (arith, c.requires, ap (λ (z : Start). length z.definitions) c.self.view_is) in
    let T : Start = record {
      syntax = c.self.inside.syntax.now;
      tables = c.self.inside.entities.now;
      definitions = c.self.inside.definitions.now;
      list = list_for c.self.inside.dtd.now c.self.inside.element;
      currents = c.self.inside.currents.now;
    } in
    let d = c.index-definitions-number.result in
    let a : Result AttrValue AttrError = value T.syntax d T.tables (current_at T.currents 0 0) None in
    subst (λ (S : Start). (ss : List Spec) (x : Definition) → slice_get S.definitions c.args.number ≡ Some x → is_specified S ss c.args.number ≡ false
    → IsUnvalued (refused (reason_in (result_of S ss c.args.number x))) c.told.result)
    c.self.view_is
    (λ ss x here unspecified.
    let same : result_of T ss c.args.number x ≡ a =
    unspecified-is T ss c.args.number x unspecified
    ∙ ap (λ (y : Definition). value T.syntax y T.tables (current_in T.currents T.list c.args.number) None) (sym (definition-at T.definitions c.args.number x d l c.index-definitions-number.is here))
    ∙ without-current T.syntax d T.tables (current_in T.currents T.list c.args.number) (current_at T.currents 0 0) (sym c.if-is_current.ensures) in
    subst (λ (r : Result AttrValue AttrError). IsUnvalued (refused (reason_in r)) c.told.result) (sym same)
    (subst (λ (e : StartError). IsUnvalued (refused (reason_in a)) e) (sym c.told.ensures) (told-is c.in-Err.error a c.in-Err.ensures)))

pub returns-then-is_current-clause-ok : goal.returns-then-is_current-clause-ok
returns-then-is_current-clause-ok c =
    let l : c.args.number < length c.self.inside.definitions.now = omega (arith, c.requires, ap (λ (z : Start). length z.definitions) c.self.view_is) in
    let T : Start = record {
      syntax = c.self.inside.syntax.now;
      tables = c.self.inside.entities.now;
      definitions = c.self.inside.definitions.now;
      list = list_for c.self.inside.dtd.now c.self.inside.element;
      currents = c.self.inside.currents.now;
    } in
    let d = c.index-definitions-number.result in
    if-ok c.current.result c.current.ensures.ok (λ v h.
    subst (λ (S : Start). current_in S.currents S.list c.args.number ≡ Some v
    → (ss : List Spec) (x : Definition) → slice_get S.definitions c.args.number ≡ Some x → is_specified S ss c.args.number ≡ false → result_of S ss c.args.number x ≡ Ok v)
    c.self.view_is
    (λ given ss x here unspecified.
    unspecified-is T ss c.args.number x unspecified
    ∙ ap (λ (y : Definition). value T.syntax y T.tables (current_in T.currents T.list c.args.number) None) (sym (definition-at T.definitions c.args.number x d l c.index-definitions-number.is here))
    ∙ of-current T.syntax d T.tables (current_in T.currents T.list c.args.number) (sym c.if-is_current.ensures)
    ∙ ap current_given given)
    h)

pub returns-then-is_current-clause-err : goal.returns-then-is_current-clause-err
returns-then-is_current-clause-err c =
    let l : c.args.number < length c.self.inside.definitions.now = omega (arith, c.requires, ap (λ (z : Start). length z.definitions) c.self.view_is) in
    let T : Start = record {
      syntax = c.self.inside.syntax.now;
      tables = c.self.inside.entities.now;
      definitions = c.self.inside.definitions.now;
      list = list_for c.self.inside.dtd.now c.self.inside.element;
      currents = c.self.inside.currents.now;
    } in
    let d = c.index-definitions-number.result in
    if-err c.current.result c.current.ensures.err (λ e h.
    subst (λ (S : Start). IsUnvalued (refused (reason_in (current_given (current_in S.currents S.list c.args.number)))) e
    → (ss : List Spec) (x : Definition) → slice_get S.definitions c.args.number ≡ Some x → is_specified S ss c.args.number ≡ false
    → IsUnvalued (refused (reason_in (result_of S ss c.args.number x))) e)
    c.self.view_is
    (λ told ss x here unspecified.
    subst (λ (r : Result AttrValue AttrError). IsUnvalued (refused (reason_in r)) e)
    (sym (unspecified-is T ss c.args.number x unspecified
    ∙ ap (λ (y : Definition). value T.syntax y T.tables (current_in T.currents T.list c.args.number) None) (sym (definition-at T.definitions c.args.number x d l c.index-definitions-number.is here))
    ∙ of-current T.syntax d T.tables (current_in T.currents T.list c.args.number) (sym c.if-is_current.ensures)))
    told)
    h)
