-- The rows against a specification, by the answer of its value.
use Rattle.std.proofs.Common.{◌≡◌, Bool, true, false, not, List, [], ◌∷◌, Option, Some, None, refl, sym, ap, ◌∙◌, if◌then◌else◌}
use Rattle.std.specs.List.{list_all}
use Rattle.sgml_scan.specs.text.Refusals.{first_row}
use Rattle.sgml_scan.specs.text.declared.reason.Reason.{Reason}
use Rattle.sgml_scan.specs.text.declared.reason.Reason.TheVariants as reason
use Rattle.sgml_scan.specs.syntax.declared.syntax.Syntax.{Syntax}
use Rattle.sgml_scan.specs.text.declared.unit.Unit.{Unit as AnyUnit}
use Rattle.sgml_theory_reading.specs.entity.Entities.{Tables}
use Rattle.sgml_theory_reading.specs.attr.declared.definition.Definition.{Definition}
use Rattle.sgml_theory_reading.specs.attr.declared.error.AttrError.{AttrError}
use Rattle.sgml_theory_reading.specs.attr.declared.error.AttrError.TheVariants as against
use Rattle.sgml_theory_reading.specs.attr.declared.value.AttrValue.{AttrValue}
use Rattle.sgml_theory_reading.specs.attr.declared.value.AttrValue.TheVariants as values
use Rattle.sgml_theory_reading.specs.attr.Literal.{is_cdata}
use Rattle.sgml_theory_reading.specs.attr.Tokens.{folds, tokens}
use Rattle.sgml_theory_reading.specs.attr.Rows.{passes_namelen, names_no_notation, are_tokens, is_in_group, are_other, is_other, names_no_data}
use Rattle.sgml_theory_reading.specs.attr.Rows as attr
use Rattle.sgml_theory_reading.specs.attr.Values.{fixed_in, token_value, unless}
use Rattle.sgml_theory_spelling.specs.Attributes.{passes_litlen, character_rows, token_rows}
use Rattle.sgml_theory_spelling.specs.Valued.{error_in, ranked, RowsAreRanked}

error-unless : (o : Option AttrError) (v : AttrValue) → error_in (unless o v) ≡ o
error-unless None v = refl
error-unless (Some e) v = refl

-- by the truth of each row: NAMELEN, LITLEN, the notation, a second one, tokens, the group, the fixed
-- value, entities

abbrev own : Bool → Bool → Bool → Bool → Bool → Bool → Bool → Bool → Option Reason
own p l n w t g f e = first_row (
    (p, reason.NameLength) ∷ (l, reason.LiteralLimit) ∷ (n, reason.NotationUnknown) ∷ (w, reason.Twice) ∷ (t, reason.NotAToken) ∷ (g, reason.NotInGroup)
    ∷ (f, reason.FixedDiffers) ∷ (e, reason.EntityUnknown) ∷ [])

abbrev told : Bool → Bool → Bool → Bool → Bool → Bool → Option AttrError
told p n t g f e = first_row (
    (p, against.NameLength) ∷ (n, against.NotationUnknown) ∷ (t, against.NotAToken) ∷ (g, against.NotInGroup) ∷ (f, against.FixedDiffers)
    ∷ (e, against.EntityUnknown) ∷ [])

tokens-ranked : (p l n w t g f e : Bool) → own p l n w t g f e ≡ ranked l w (told p n t g f e)
tokens-ranked true l n w t g f e = refl
tokens-ranked false true true w t g f e = refl
tokens-ranked false true false w true g f e = refl
tokens-ranked false true false w false true f e = refl
tokens-ranked false true false w false false true e = refl
tokens-ranked false true false w false false false true = refl
tokens-ranked false true false w false false false false = refl
tokens-ranked false false true w t g f e = refl
tokens-ranked false false false true true g f e = refl
tokens-ranked false false false true false true f e = refl
tokens-ranked false false false true false false true e = refl
tokens-ranked false false false true false false false true = refl
tokens-ranked false false false true false false false false = refl
tokens-ranked false false false false true g f e = refl
tokens-ranked false false false false false true f e = refl
tokens-ranked false false false false false false true e = refl
tokens-ranked false false false false false false false true = refl
tokens-ranked false false false false false false false false = refl

characters-ranked : (l w f : Bool) → first_row ((l, reason.LiteralLimit) ∷ (w, reason.Twice) ∷ (f, reason.FixedDiffers) ∷ []) ≡ ranked l w (first_row ((f, against.FixedDiffers) ∷ []))
characters-ranked true w true = refl
characters-ranked true w false = refl
characters-ranked false true true = refl
characters-ranked false true false = refl
characters-ranked false false true = refl
characters-ranked false false false = refl

by-kind : (syntax : Syntax) (x : Definition) (tables : Tables) (twice : Bool) (units : List AnyUnit) (is : Bool)
    → first_row (if is then character_rows syntax x twice units else token_rows syntax x tables twice units (tokens (folds syntax x.declared) units))
    ≡ ranked (passes_litlen syntax units) twice (error_in (
    if is then unless (first_row ((is_other (fixed_in x.default) units, against.FixedDiffers) ∷ [])) (values.Cdata units)
    else unless (first_row (attr.value_rows syntax x.declared tables (fixed_in x.default) (tokens (folds syntax x.declared) units))) (token_value x.declared tables.entities (tokens (folds syntax x.declared) units))))
by-kind syntax x tables twice units true =
    characters-ranked (passes_litlen syntax units) twice (is_other (fixed_in x.default) units)
    ∙ ap (ranked (passes_litlen syntax units) twice)
    (sym (error-unless (first_row ((is_other (fixed_in x.default) units, against.FixedDiffers) ∷ [])) (values.Cdata units)))
by-kind syntax x tables twice units false =
    let ts = tokens (folds syntax x.declared) units in
    tokens-ranked (passes_namelen syntax ts) (passes_litlen syntax units) (names_no_notation syntax x.declared tables.notations ts) twice
    (not (are_tokens syntax x.declared ts)) (not (list_all (is_in_group x.declared) ts)) (are_other (folds syntax x.declared) (fixed_in x.default) ts)
    (names_no_data x.declared tables.entities ts)
    ∙ ap (ranked (passes_litlen syntax units) twice)
    (sym (error-unless (first_row (attr.value_rows syntax x.declared tables (fixed_in x.default) ts)) (token_value x.declared tables.entities ts)))

pub rows-are-ranked : RowsAreRanked
rows-are-ranked syntax x tables twice units current = by-kind syntax x tables twice units (is_cdata x.declared)
