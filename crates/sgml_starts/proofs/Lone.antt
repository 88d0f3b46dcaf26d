-- A tag that is a name alone, of an element type without attributes; and what a tag specifies, by what is unread.
use Rattle.std.proofs.Common.{◌≡◌, ◌<◌, ◌≤◌, ◌+◌, ◌∷◌, ℕ, Bool, true, false, List, [], Option, Some, None, refl, sym, ap, ◌∙◌, subst, arith, length, take, drop}
use Rattle.std.specs.Prelude.{slice_get, IsSomeAnd}
use Rattle.sgml_syntax.specs.declared.syntax.Syntax.{Syntax}
use Rattle.sgml_entity.specs.Entities.{Tables}
use Rattle.sgml_entity.specs.Stack.{Stack, offset_of}
use Rattle.sgml_attr.specs.declared.definition.Definition.{Definition}
use Rattle.sgml_attr.specs.declared.value.AttrValue.{AttrValue}
use Rattle.sgml_markup.specs.declared.kinds.Part.{Part}
use Rattle.sgml_markup.specs.declared.kinds.PartKind.TheVariants as part
use Rattle.sgml_markup.specs.Forms.{parts_of_tag}
use Rattle.sgml_decl_lexemes.specs.Sources.{text_at, or_empty}
use Rattle.sgml_decl_lexemes.specs.Readings.{entity_of}
use Rattle.sgml_dtd.specs.dtd_elements.Types.{ElementType}
use Rattle.sgml_dtd.specs.Doctypes.{Doctype, definitions_at}
use Rattle.sgml_starts.specs.declared.starts.StartValues.{StartValues}
use Rattle.sgml_starts.specs.Written.{Written, written}
use Rattle.sgml_starts.specs.Specified.{Input, Specified, specified, specified_from}
use Rattle.sgml_starts.specs.Values.{Start, refused, unvalued, reason_of_defaults, AreValues}
use Rattle.sgml_starts.specs.Currents.{AreCurrents}
use Rattle.sgml_starts.specs.Starts.{input_of, tables_of, list_in, definitions_in, HasValues}
use Rattle.sgml_starts.proofs.Whole.{tables-are, no-values, no-currents}
use Rattle.sgml_starts.proofs.Tags.{lone-written}

pub tag-is : (syntax : Syntax) (d : Doctype) (texts : List (ℕ × List ℕ)) (stack : Stack) (size : ℕ) (t : Tables) (unread : List ℕ)
    → t.entities ≡ d.entities → t.notations ≡ d.notations → unread ≡ drop (offset_of stack.places) (or_empty (text_at t.entities texts (entity_of stack.places)))
    → specified_from (input_of syntax d texts stack) stack.spent (written syntax (take size unread)) ≡ specified (input_of syntax d texts stack) (Some size)
tag-is syntax d texts stack size t unread e n is =
    ap (λ (u : List ℕ). specified_from (input_of syntax d texts stack) stack.spent (written syntax (take size u)))
    (is ∙ ap (λ (z : Tables). drop (offset_of stack.places) (or_empty (text_at z.entities texts (entity_of stack.places)))) (tables-are d t e n))

pub lone-is : (syntax : Syntax) (d : Doctype) (texts : List (ℕ × List ℕ)) (stack : Stack) (size : ℕ) (t : Tables) (unread : List ℕ) (p : Part)
    → t.entities ≡ d.entities → t.notations ≡ d.notations → unread ≡ drop (offset_of stack.places) (or_empty (text_at t.entities texts (entity_of stack.places)))
    → parts_of_tag syntax (take size unread) ≡ p ∷ [] → p.kind ≡ part.ElementName
    → specified (input_of syntax d texts stack) (Some size) ≡ record { specs = []; stop = None; spent = stack.spent }
lone-is syntax d texts stack size t unread p e n is alone named =
    sym (tag-is syntax d texts stack size t unread e n is)
    ∙ ap (specified_from (input_of syntax d texts stack) stack.spent) (lone-written syntax (take size unread) p alone named)

-- nothing is specified, and there are no attributes
pub lone-values : (S : Start) (all : Specified) (spent : ℕ) (told : StartValues) → S.definitions ≡ []
    → all ≡ record { specs = []; stop = None; spent = spent } → told.values ≡ [] → told.conref ≡ false → HasValues S all told S.currents
lone-values S all spent told none is values conref =
    subst (λ (a : Specified). HasValues S a told S.currents) (sym is)
    (record {
      none = ap (λ (xs : List Definition). refused (reason_of_defaults S [] 0 xs)) none;
      values = subst (AreValues S []) (sym values) (no-values S none);
      conref = conref;
      currents = subst (λ (vs : List AttrValue). AreCurrents S [] vs S.currents) (sym values) (no-currents S none);
    })
