-- The first row that holds.
use Rattle.std.proofs.Common.{◌≡◌, ◌||◌, Bool, true, false, List, [], ◌∷◌, ◌++◌, Some, None, refl, ap, ◌∙◌, if◌then◌else◌}
use Rattle.std.specs.List.{list_any}
use Rattle.sgml_text.specs.Refusals.{first_row, IsFirstRow}

told-here : {R : Type 0} (b : Bool) (r : R) (rows : List (Bool × R)) (reason : R) → (if b then Some r else first_row rows) ≡ Some reason
    → (first_row rows ≡ Some reason → IsFirstRow rows reason) → IsFirstRow ((b, r) ∷ rows) reason
told-here true r rows reason h again =
    let same : r ≡ reason = cc in
    record { before = []; after = rows; are = ap (λ x. (true, x) ∷ rows) same; none_before = refl }
told-here false r rows reason h again =
    let later = again h in
    record { before = (false, r) ∷ later.before; after = later.after; are = ap (λ x. (false, r) ∷ x) later.are; none_before = later.none_before }

pub told-first : {R : Type 0} (rows : List (Bool × R)) (reason : R) → first_row rows ≡ Some reason → IsFirstRow rows reason
told-first [] reason h = cc
told-first (row ∷ rows) reason h = told-here row.0 row.1 rows reason h (told-first rows reason)

passed-here : {R : Type 0} (b : Bool) (r : R) (before after : List (Bool × R)) (reason : R) → (b || list_any (λ row. row.0) before) ≡ false
    → (list_any (λ row. row.0) before ≡ false → first_row (before ++ ((true, reason) ∷ after)) ≡ Some reason)
    → (if b then Some r else first_row (before ++ ((true, reason) ∷ after))) ≡ Some reason
passed-here true r before after reason h again = cc
passed-here false r before after reason h again = again h

passed : {R : Type 0} (before after : List (Bool × R)) (reason : R) → list_any (λ row. row.0) before ≡ false → first_row (before ++ ((true, reason) ∷ after)) ≡ Some reason
passed [] after reason h = refl
passed (row ∷ before) after reason h = passed-here row.0 row.1 before after reason h (passed before after reason)

pub first-told : {R : Type 0} (rows : List (Bool × R)) (reason : R) → IsFirstRow rows reason → first_row rows ≡ Some reason
first-told rows reason f = ap first_row f.are ∙ passed f.before f.after reason f.none_before

none-here : {R : Type 0} (b : Bool) (r : R) (rows : List (Bool × R)) → (if b then Some r else first_row rows) ≡ None
    → (first_row rows ≡ None → list_any (λ row. row.0) rows ≡ false) → (b || list_any (λ row. row.0) rows) ≡ false
none-here true r rows h again = cc
none-here false r rows h again = again h

pub none-told : {R : Type 0} (rows : List (Bool × R)) → first_row rows ≡ None → list_any (λ row. row.0) rows ≡ false
none-told [] h = refl
none-told (row ∷ rows) h = none-here row.0 row.1 rows h (none-told rows)
