-- The rows against a specification, by the answer of its value.
use Rattle.std.proofs.Common.{◌≡◌, Bool, true, false, not, List, [], ◌∷◌, Option, Some, None, refl, sym, ap, ◌∙◌, subst, if◌then◌else◌, Result, Ok, Err}
use Rattle.std.specs.List.{list_all}
use Rattle.sgml_text.specs.Refusals.{first_row}
use Rattle.sgml_text.specs.declared.reason.Reason.{Reason}
use Rattle.sgml_text.specs.declared.reason.Reason.TheVariants as reason
use Rattle.sgml_syntax.specs.declared.syntax.Syntax.{Syntax}
use Rattle.sgml_text.specs.declared.unit.Unit.{Unit as AnyUnit}
use Rattle.sgml_entity.specs.Entities.{Tables}
use Rattle.sgml_attr.specs.declared.definition.Definition.{Definition}
use Rattle.sgml_attr.specs.declared.error.AttrError.{AttrError}
use Rattle.sgml_attr.specs.declared.error.AttrError.TheVariants as against
use Rattle.sgml_attr.specs.declared.value.AttrValue.{AttrValue}
use Rattle.sgml_attr.specs.declared.value.AttrValue.TheVariants as values
use Rattle.sgml_attr.specs.Literal.{is_cdata}
use Rattle.sgml_attr.specs.Tokens.{folds, tokens}
use Rattle.sgml_attr.specs.Rows.{passes_namelen, names_no_notation, are_tokens, is_in_group, are_other, is_other, names_no_data}
use Rattle.sgml_attr.specs.Rows as attr
use Rattle.sgml_attr.specs.declared.definition.Declared.{Declared}
use Rattle.sgml_attr.specs.declared.definition.Default.{Default}
use Rattle.sgml_attr.specs.declared.definition.Default.TheVariants as default
use Rattle.sgml_attr.specs.Values.{fixed_in, token_value, unless, value, default_gives, current_given}
use Rattle.sgml_attr.specs.Answers.{IsOrMemory}
use Rattle.sgml_starts.specs.Rows.{passes_litlen, character_rows, token_rows, rows, ranked}
use Rattle.sgml_starts.specs.Told.{refusal, told, told_among}
use Rattle.sgml_starts.specs.Currents.{is_current}
use Rattle.sgml_starts.specs.Values.{reason_in, refused}
use Rattle.sgml_starts.specs.Starts.{IsUnvalued}

abbrev pub error_in : Result AttrValue AttrError → Option AttrError
error_in (Ok v) = None
error_in (Err e) = Some e

error-unless : (o : Option AttrError) (v : AttrValue) → error_in (unless o v) ≡ o
error-unless None v = refl
error-unless (Some e) v = refl

-- by the truth of each row: NAMELEN, LITLEN, the notation, a second one, tokens, the group, the fixed
-- value, entities

abbrev own : Bool → Bool → Bool → Bool → Bool → Bool → Bool → Bool → Option Reason
own p l n w t g f e = first_row (
    (p, reason.NameLength) ∷ (l, reason.LiteralLimit) ∷ (n, reason.NotationUnknown) ∷ (w, reason.Twice) ∷ (t, reason.NotAToken) ∷ (g, reason.NotInGroup)
    ∷ (f, reason.FixedDiffers) ∷ (e, reason.EntityUnknown) ∷ [])

abbrev answered : Bool → Bool → Bool → Bool → Bool → Bool → Option AttrError
answered p n t g f e = first_row (
    (p, against.NameLength) ∷ (n, against.NotationUnknown) ∷ (t, against.NotAToken) ∷ (g, against.NotInGroup) ∷ (f, against.FixedDiffers)
    ∷ (e, against.EntityUnknown) ∷ [])

tokens-ranked : (p l n w t g f e : Bool) → own p l n w t g f e ≡ ranked l w (answered p n t g f e)
tokens-ranked true l n w t g f e = refl
tokens-ranked false true true w t g f e = refl
tokens-ranked false true false w true g f e = refl
tokens-ranked false true false w false true f e = refl
tokens-ranked false true false w false false true e = refl
tokens-ranked false true false w false false false true = refl
tokens-ranked false true false w false false false false = refl
tokens-ranked false false true w t g f e = refl
tokens-ranked false false false true true g f e = refl
tokens-ranked false false false true false true f e = refl
tokens-ranked false false false true false false true e = refl
tokens-ranked false false false true false false false true = refl
tokens-ranked false false false true false false false false = refl
tokens-ranked false false false false true g f e = refl
tokens-ranked false false false false false true f e = refl
tokens-ranked false false false false false false true e = refl
tokens-ranked false false false false false false false true = refl
tokens-ranked false false false false false false false false = refl

characters-ranked : (l w f : Bool) → first_row ((l, reason.LiteralLimit) ∷ (w, reason.Twice) ∷ (f, reason.FixedDiffers) ∷ []) ≡ ranked l w (first_row ((f, against.FixedDiffers) ∷ []))
characters-ranked true w true = refl
characters-ranked true w false = refl
characters-ranked false true true = refl
characters-ranked false true false = refl
characters-ranked false false true = refl
characters-ranked false false false = refl

by-kind : (syntax : Syntax) (x : Definition) (tables : Tables) (twice : Bool) (units : List AnyUnit) (is : Bool)
    → first_row (if is then character_rows syntax x twice units else token_rows syntax x tables twice units (tokens (folds syntax x.declared) units))
    ≡ ranked (passes_litlen syntax units) twice (error_in (
    if is then unless (first_row ((is_other (fixed_in x.default) units, against.FixedDiffers) ∷ [])) (values.Cdata units)
    else unless (first_row (attr.value_rows syntax x.declared tables (fixed_in x.default) (tokens (folds syntax x.declared) units))) (token_value x.declared tables.entities (tokens (folds syntax x.declared) units))))
by-kind syntax x tables twice units true =
    characters-ranked (passes_litlen syntax units) twice (is_other (fixed_in x.default) units)
    ∙ ap (ranked (passes_litlen syntax units) twice)
    (sym (error-unless (first_row ((is_other (fixed_in x.default) units, against.FixedDiffers) ∷ [])) (values.Cdata units)))
by-kind syntax x tables twice units false =
    let ts = tokens (folds syntax x.declared) units in
    tokens-ranked (passes_namelen syntax ts) (passes_litlen syntax units) (names_no_notation syntax x.declared tables.notations ts) twice
    (not (are_tokens syntax x.declared ts)) (not (list_all (is_in_group x.declared) ts)) (are_other (folds syntax x.declared) (fixed_in x.default) ts)
    (names_no_data x.declared tables.entities ts)
    ∙ ap (ranked (passes_litlen syntax units) twice)
    (sym (error-unless (first_row (attr.value_rows syntax x.declared tables (fixed_in x.default) ts)) (token_value x.declared tables.entities ts)))

pub rows-are-ranked : (syntax : Syntax) (x : Definition) (tables : Tables) (twice : Bool) (units : List AnyUnit)
    → first_row (rows syntax x tables twice units) ≡ ranked (passes_litlen syntax units) twice (error_in (value syntax x tables None (Some units)))
rows-are-ranked syntax x tables twice units = by-kind syntax x tables twice units (is_cdata x.declared)

-- where the answer is known
pub ranked-by : (syntax : Syntax) (x : Definition) (tables : Tables) (twice : Bool) (units : List AnyUnit) (a : Result AttrValue AttrError)
    → value syntax x tables None (Some units) ≡ a → first_row (rows syntax x tables twice units) ≡ ranked (passes_litlen syntax units) twice (error_in a)
ranked-by syntax x tables twice units a is =
    rows-are-ranked syntax x tables twice units ∙ ap (λ (r : Result AttrValue AttrError). ranked (passes_litlen syntax units) twice (error_in r)) is

-- a second one is refused
by-rank : (long twice : Bool) (e : Option AttrError) → ranked long twice e ≡ None → twice ≡ false
by-rank long false e is = refl
by-rank true true None is = absurd (cc is)
by-rank false true None is = absurd (cc is)
by-rank long true (Some e) is = absurd (by long e is)
  where
    by : (long : Bool) (e : AttrError) → ranked long true (Some e) ≡ None → ⊥
    by true against.NameLength is = cc is
    by false against.NameLength is = cc is
    by true against.Memory is = cc is
    by false against.Memory is = cc is
    by true against.LiteralLimit is = cc is
    by false against.LiteralLimit is = cc is
    by true against.NotationUnknown is = cc is
    by false against.NotationUnknown is = cc is
    by true (against.UnknownAttribute j) is = cc is
    by false (against.UnknownAttribute j) is = cc is
    by true (against.Twice j) is = cc is
    by false (against.Twice j) is = cc is
    by true against.NotAToken is = cc is
    by false against.NotAToken is = cc is
    by true against.NotInGroup is = cc is
    by false against.NotInGroup is = cc is
    by true against.FixedDiffers is = cc is
    by false against.FixedDiffers is = cc is
    by true against.EntityUnknown is = cc is
    by false against.EntityUnknown is = cc is
    by true against.Required is = cc is
    by false against.Required is = cc is
    by true against.NoCurrent is = cc is
    by false against.NoCurrent is = cc is

pub not-twice : (syntax : Syntax) (x : Definition) (tables : Tables) (twice : Bool) (units : List AnyUnit) → first_row (rows syntax x tables twice units) ≡ None → twice ≡ false
not-twice syntax x tables twice units none =
    by-rank (passes_litlen syntax units) twice (error_in (value syntax x tables None (Some units))) (sym (rows-are-ranked syntax x tables twice units) ∙ none)

-- what is told by itself
pub told-is : (e : AttrError) (a : Result AttrValue AttrError) → IsOrMemory a (Err e) → IsUnvalued (refused (reason_in a)) (told e)
told-is against.Memory a h = tt
told-is against.NameLength a h = ap (λ (r : Result AttrValue AttrError). refused (reason_in r)) (sym h)
told-is against.LiteralLimit a h = ap (λ (r : Result AttrValue AttrError). refused (reason_in r)) (sym h)
told-is against.NotationUnknown a h = ap (λ (r : Result AttrValue AttrError). refused (reason_in r)) (sym h)
told-is (against.UnknownAttribute j) a h = ap (λ (r : Result AttrValue AttrError). refused (reason_in r)) (sym h)
told-is (against.Twice j) a h = ap (λ (r : Result AttrValue AttrError). refused (reason_in r)) (sym h)
told-is against.NotAToken a h = ap (λ (r : Result AttrValue AttrError). refused (reason_in r)) (sym h)
told-is against.NotInGroup a h = ap (λ (r : Result AttrValue AttrError). refused (reason_in r)) (sym h)
told-is against.FixedDiffers a h = ap (λ (r : Result AttrValue AttrError). refused (reason_in r)) (sym h)
told-is against.EntityUnknown a h = ap (λ (r : Result AttrValue AttrError). refused (reason_in r)) (sym h)
told-is against.Required a h = ap (λ (r : Result AttrValue AttrError). refused (reason_in r)) (sym h)
told-is against.NoCurrent a h = ap (λ (r : Result AttrValue AttrError). refused (reason_in r)) (sym h)

-- what is told among the others
refusal-is : (o : Option Reason) → IsUnvalued (refused o) (refusal o)
refusal-is None = tt
refusal-is (Some r) = refl

among-by : (long twice : Bool) (e : AttrError) (a : Result AttrValue AttrError) → Err e ≡ a → IsUnvalued (refused (ranked long twice (error_in a))) (refusal (ranked long twice (Some e)))
among-by long twice e a h =
    subst (λ (r : Result AttrValue AttrError). IsUnvalued (refused (ranked long twice (error_in r))) (refusal (ranked long twice (Some e)))) h (refusal-is (ranked long twice (Some e)))

pub among-is : (long twice : Bool) (e : AttrError) (a : Result AttrValue AttrError) → IsOrMemory a (Err e) → IsUnvalued (refused (ranked long twice (error_in a))) (told_among long twice e)
among-is long twice against.Memory a h = tt
among-is long twice against.NameLength a h = among-by long twice against.NameLength a h
among-is long twice against.LiteralLimit a h = among-by long twice against.LiteralLimit a h
among-is long twice against.NotationUnknown a h = among-by long twice against.NotationUnknown a h
among-is long twice (against.UnknownAttribute j) a h = among-by long twice (against.UnknownAttribute j) a h
among-is long twice (against.Twice j) a h = among-by long twice (against.Twice j) a h
among-is long twice against.NotAToken a h = among-by long twice against.NotAToken a h
among-is long twice against.NotInGroup a h = among-by long twice against.NotInGroup a h
among-is long twice against.FixedDiffers a h = among-by long twice against.FixedDiffers a h
among-is long twice against.EntityUnknown a h = among-by long twice against.EntityUnknown a h
among-is long twice against.Required a h = among-by long twice against.Required a h
among-is long twice against.NoCurrent a h = among-by long twice against.NoCurrent a h

-- WITHOUT A SPECIFICATION the current value counts where the default is #CURRENT, and nowhere else
default-without : (s : Syntax) (d : Declared) (t : Tables) (a b : Option AttrValue) (x : Default) → is_current x ≡ false → default_gives s d t a x ≡ default_gives s d t b x
default-without s d t a b (default.Value units) e = refl
default-without s d t a b (default.Fixed units) e = refl
default-without s d t a b default.Required e = refl
default-without s d t a b default.Current e = absurd (cc e)
default-without s d t a b default.Conref e = refl
default-without s d t a b default.Implied e = refl

pub without-current : (s : Syntax) (x : Definition) (t : Tables) (a b : Option AttrValue) → is_current x.default ≡ false → value s x t a None ≡ value s x t b None
without-current s x t a b e = default-without s x.declared t a b x.default e

default-current : (s : Syntax) (d : Declared) (t : Tables) (a : Option AttrValue) (x : Default) → is_current x ≡ true → default_gives s d t a x ≡ current_given a
default-current s d t a (default.Value units) e = absurd (cc e)
default-current s d t a (default.Fixed units) e = absurd (cc e)
default-current s d t a default.Required e = absurd (cc e)
default-current s d t a default.Current e = refl
default-current s d t a default.Conref e = absurd (cc e)
default-current s d t a default.Implied e = absurd (cc e)

pub of-current : (s : Syntax) (x : Definition) (t : Tables) (a : Option AttrValue) → is_current x.default ≡ true → value s x t a None ≡ current_given a
of-current s x t a e = default-current s x.declared t a x.default e
