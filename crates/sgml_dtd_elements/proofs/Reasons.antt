-- The first reason that holds.
use Rattle.std.proofs.Common.{◌≡◌, ℕ, Bool, true, false, List, Option, Some, None, refl, sym, ap, ◌∙◌, map, if◌then◌else◌}
use Rattle.std.specs.Option.{option_or}
use Rattle.sgml_names.specs.Lists.{repeats}
use Rattle.sgml_text.specs.declared.reason.Reason.{Reason}
use Rattle.sgml_text.specs.declared.reason.Reason.TheVariants.{NameLength, ElementTwice}
use Rattle.sgml_syntax.specs.declared.syntax.Syntax.{Syntax}
use Rattle.sgml_names.specs.Naming.{general_names}
use Rattle.sgml_decl_forms.specs.declared.element.ElementDeclaration.{ElementDeclaration}
use Rattle.sgml_dtd_elements.specs.declared.row.Row.{Row}
use Rattle.sgml_dtd_elements.specs.declared.row.Place.{Place}
use Rattle.sgml_dtd_elements.specs.Folded.{folded, folded_content}
use Rattle.sgml_dtd_elements.specs.Types.{types, names}
use Rattle.sgml_dtd_elements.specs.Naming.{is_twice}
use Rattle.sgml_dtd_elements.specs.Kept.{declared, AreKept}
use Rattle.sgml_dtd_elements.specs.Rows.{has_long, limits_of, group_reason, reason_of, first_reason}
use Rattle.sgml_dtd_elements.proofs.NumberedNames.{twice-numbered}

-- the reason that the table of names tells is that of the declarations
pub first_of_table : (syntax : Syntax) (rows : List Row) (places : List Place) (index : List (List ℕ × ℕ)) (d : ElementDeclaration) (ns : List (List ℕ)) (long : Bool) → AreKept rows places index →
    ns ≡ general_names syntax d.names → long ≡ has_long syntax d → long ≡ false →
    option_or (group_reason (limits_of syntax) (folded_content syntax d.body.content)) (if is_twice index ns then Some ElementTwice else None) ≡ first_reason syntax (map declared rows) d
first_of_table syntax rows places index d ns long a n l f =
    let twice : is_twice index ns ≡ repeats (names (types (map declared rows))) (general_names syntax d.names) =
    ap (λ (xs : List (List ℕ)). is_twice index xs) n ∙ ap (λ (t : List (List ℕ × ℕ)). is_twice t (general_names syntax d.names)) a.index_is
    ∙ twice-numbered (names (types (map declared rows))) (general_names syntax d.names) in
    ap (λ (b : Bool). option_or (group_reason (limits_of syntax) (folded_content syntax d.body.content)) (if b then Some ElementTwice else None)) twice
    ∙ ap (λ (b : Bool). if b then Some NameLength else reason_of syntax (map declared rows) (folded syntax d)) (sym f ∙ l)

once_here : (o r : Option Reason) (b : Bool) → option_or o (if b then Some ElementTwice else None) ≡ r → r ≡ None → b ≡ false
once_here None r true is none = cc
once_here (Some q) r true is none = cc
once_here o r false is none = refl

-- where no reason holds, no name is there twice
pub none_twice : (o : Option Reason) (b : Bool) → option_or o (if b then Some ElementTwice else None) ≡ None → b ≡ false
none_twice o b is = once_here o None b is refl
