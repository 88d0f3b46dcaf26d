-- The element type that an empty start-tag has, by its number.
use Rattle.std.specs.Prelude.{◌≡◌, ℕ, Bool, true, Option, Some, None, option_map, option_and_then, if◌then◌else◌}
use Rattle.std.specs.Option.{option_or}
use Rattle.std.proofs.Common.{sym, ap, ◌∙◌}
use Rattle.sgml_syntax.specs.declared.syntax.Syntax.{Syntax}
use Rattle.sgml_dtd.specs.dtd_elements.Types.{number_of}
use Rattle.sgml_theory_spelling.specs.theory_reading.Names.{Name}
use Rattle.sgml_theory_spelling.specs.theory_reading.ShortTags.{first_type, empty_start_type}
use Rattle.sgml_infer.specs.Tables.{name_at, IsNumber}
use Rattle.sgml_content_steps.specs.Modes.{IsInnermost}
use Rattle.sgml_content_steps.specs.Content.{Content, IsContent, context_of}
use Rattle.sgml_content_tags.specs.Named.{empty_start_of, number_empty}
use Rattle.sgml_content_tags.proofs.Numbered.{number-of-name, number-within, name-of-number}
use Rattle.sgml_content_tags.proofs.Levels.{innermost-type}

abbrev ended_name : Content → Option Name
ended_name c = option_map (name_at c.kept.doctype) c.inside.ended

-- by OMITTAG
abbrev pub name_before : Content → Option Name
name_before c = if c.kept.doctype.syntax.omittag then first_type (context_of c).levels else ended_name c

pub innermost-before : (z old : Content) (syntax : Syntax) (o : Option ℕ) → z ≡ old → syntax ≡ z.kept.doctype.syntax → syntax.omittag ≡ true
    → IsInnermost old.kept.doctype o (context_of old).levels → option_map (name_at old.kept.doctype) o ≡ name_before old
innermost-before z old syntax o e s t h =
    innermost-type old.kept.doctype o (context_of old).levels h
    ∙ sym (ap (λ (b : Bool). if b then first_type (context_of old).levels else ended_name old) (ap (λ (c : Content). c.kept.doctype.syntax.omittag) (sym e) ∙ (ap (λ (x : Syntax). x.omittag) (sym s) ∙ t)))

abbrev number_or_type : Content → Option Name → Option ℕ
number_or_type c o = option_and_then (number_of c.kept.doctype.elements) (option_or o c.kept.doctype.name)

pub empty-before : (old : Content) (number : ℕ) → IsContent old → IsNumber old.kept.doctype number → Some (name_at old.kept.doctype number) ≡ name_before old → Some number ≡ number_empty old
unfolding empty_start_type
empty-before old number is n e =
    sym (number-of-name old.kept.doctype number is.tree.distinct n) ∙ ap (number_or_type old) e

pub empty-type : (z old : Content) (o : Option ℕ) → z ≡ old → None ≡ name_before old → o ≡ option_and_then (number_of z.kept.doctype.elements) z.kept.doctype.name → o ≡ number_empty old
unfolding empty_start_type
empty-type z old o e n t = t ∙ (ap (λ (c : Content). option_and_then (number_of c.kept.doctype.elements) c.kept.doctype.name) e ∙ ap (number_or_type old) n)

-- it is declared
name-found : (c : Content) (o : Option Name) (number : ℕ) → option_and_then (number_of c.kept.doctype.elements) o ≡ Some number → (IsNumber c.kept.doctype number) × (o ≡ Some (name_at c.kept.doctype number))
name-found c (Some n) number e = (number-within c.kept.doctype n number e, ap (λ (m : Name). Some m) (sym (name-of-number c.kept.doctype n number e)))
name-found c None number e = absurd (cc)

pub empty-number : (c : Content) (number : ℕ) → Some number ≡ number_empty c → IsNumber c.kept.doctype number
empty-number c number e = (name-found c (empty_start_of c) number (sym e)).0

pub empty-name : (c : Content) (number : ℕ) → Some number ≡ number_empty c → empty_start_of c ≡ Some (name_at c.kept.doctype number)
empty-name c number e = (name-found c (empty_start_of c) number (sym e)).1
