use Rattle.std.proofs.Common.{Some, None, if◌then◌else◌, ℕ, ap, sym, ◌∙◌, ◌≡◌, ◌++◌, ◌∷◌, [], ◌+◌, arith, subst, length, List, Option}
use Rattle.std.specs.Option.{option_or}
use Rattle.sgml_text.specs.declared.reason.Reason.TheVariants.{ElementTwice}
use Rattle.sgml_names.specs.Naming.{general_names}
use Rattle.sgml_text.specs.declared.reason.Reason.{Reason}
use Rattle.sgml_dtd_elements.specs.declared.row.Row.{Row}
use Rattle.sgml_dtd_elements.specs.declared.row.Place.{Place}
use Rattle.sgml_dtd_elements.specs.Folded.{folded_content}
use Rattle.sgml_dtd_elements.specs.Naming.{places_in, with_names, is_twice}
use Rattle.sgml_dtd_elements.specs.Errors.{IsFirstRefusal}
use Rattle.sgml_dtd_elements.specs.Rows.{limits_of, group_reason, IsAmbiguousContent}
use Rattle.sgml_dtd_elements.proofs.KeptRows.{kept_more, length-index}
use Rattle.sgml_dtd_elements.proofs.Reasons.{first_of_table, none_twice}
use Rattle.sgml_dtd_elements.proofs.adding.add_declaration.Goals as goal

pub entered-requires : goal.entered-requires
entered-requires c =
    omega (arith, length-index c.args.rows.now.items c.args.places.now.items c.args.index.now c.requires, ap length c.items-2.ensures, ap length c.items-count.ensures)

pub returns-in-Ok-clause-kept : goal.returns-in-Ok-clause-kept
returns-in-Ok-clause-kept c =
    let row : Row = record { names = c.in_ok-names.names; omits = c.args.declaration.now.omits; content = c.in-Ok.content; exceptions = c.in_ok-exceptions.exceptions } in
    let number : c.len-in-Ok.result ≡ length c.args.rows.now.items = omega (arith, c.len-in-Ok.ensures, ap length c.in_ok-reserve.ensures.items) in
    kept_more c.args.rows.now.items c.push_reserved.new.self.items c.args.places.now.items c.push_places.new.places.items c.args.index.now c.entered.new.index row c.len-in-Ok.result c.requires
    (c.push_reserved.ensures.items ∙ ap (λ (rs : List Row). rs ++ row ∷ []) c.in_ok-reserve.ensures.items)
    (c.push_places.ensures ∙ ap (λ (ps : List Place). ps ++ places_in c.len-in-Ok.result 0 c.items-in-Ok.result.now) c.in_ok-reserve-2.ensures.items
    ∙ ap (λ (xs : List (List ℕ)). c.args.places.now.items ++ places_in c.len-in-Ok.result 0 xs) c.items-in-Ok.ensures)
    (c.in-Ok.ensures.entered ∙ ap (with_names c.args.index.now) c.items-2.ensures)
    number c.in-Ok.ensures.read
    (none_twice (group_reason (limits_of c.args.syntax.now) (folded_content c.args.syntax.now c.args.declaration.now.body.content)) (is_twice c.args.index.now c.in_ok-names.names) (ap (λ (xs : List (List ℕ)). option_or (group_reason (limits_of c.args.syntax.now) (folded_content c.args.syntax.now c.args.declaration.now.body.content)) (if is_twice c.args.index.now xs then Some ElementTwice else None)) (sym c.items-2.ensures) ∙ c.in-Ok.ensures.none))
    (omega (arith, ap length c.items-count.ensures))
    (omega arith)

pub returns-in-Ok-clause-none : goal.returns-in-Ok-clause-none
returns-in-Ok-clause-none c =
    let ns : c.items-2.result.now ≡ general_names c.args.syntax.now c.args.declaration.now.names = c.items-2.ensures ∙ c.in_ok-names.ensures ∙ ap (general_names c.args.syntax.now) c.items.ensures in
    sym (first_of_table c.args.syntax.now c.args.rows.now.items c.args.places.now.items c.args.index.now c.args.declaration.now c.items-2.result.now c.has_long.result c.requires ns c.has_long.ensures c.if-has_long.false)
    ∙ c.in-Ok.ensures.none

pub returns-in-Err-clause-refused : goal.returns-in-Err-clause-refused
returns-in-Err-clause-refused c =
    let ns : c.items-2.result.now ≡ general_names c.args.syntax.now c.args.declaration.now.names = c.items-2.ensures ∙ c.in_ok-names.ensures ∙ ap (general_names c.args.syntax.now) c.items.ensures in
    subst (λ (o : Option Reason). IsFirstRefusal o (IsAmbiguousContent (folded_content c.args.syntax.now c.args.declaration.now.body.content)) c.in-Err.error)
    (first_of_table c.args.syntax.now c.args.rows.now.items c.args.places.now.items c.args.index.now c.args.declaration.now c.items-2.result.now c.has_long.result c.requires ns c.has_long.ensures c.if-has_long.false)
    c.in-Err.ensures.refused
