-- Each attribute of a start that has values has one that a literal gives, or none.
use Rattle.std.proofs.Common.{◌≡◌, true, option_map, sym, ap, subst, ◌∙◌, inl, inr}
use Rattle.std.proofs.lemmas.Option.{slice_get-map}
use Rattle.sgml_full.specs.attr.declared.definition.Definition.{Definition}
use Rattle.sgml_full.specs.attr.declared.value.AttrValue.{AttrValue}
use Rattle.sgml_full.specs.attr.declared.value.AttrValue.TheVariants as of
use Rattle.sgml_full.specs.dtd.Doctypes.{Doctype}
use Rattle.sgml_theory_starts.specs.theory_reading.Names.{Name}
use Rattle.sgml_theory_starts.specs.theory_reading.Types.{attributes, entity_tables}
use Rattle.sgml_theory_starts.specs.theory_spelling.Attributes.{value_of, attribute_of, valued}
use Rattle.sgml_full.specs.Full.{is_given}
use Rattle.sgml_theory_values.specs.Given.{IsGiven}
use Rattle.sgml_theory_values.specs.Full.{value_read}
use Rattle.sgml_theory_values.specs.Laws.{HasItsValue, ValuesAreGiven}
use Rattle.sgml_theory_values.proofs.Rows.{given-again}
use Rattle.sgml_theory_values.proofs.Lists.{true-false}
use Rattle.sgml_theory_values.proofs.Written.{Fact}
use Rattle.sgml_theory_values.proofs.Starts.{split-apart, fact}

its-own : (d : Doctype) (x : Definition) (v : AttrValue) → is_given v ≡ true → IsGiven d.syntax (entity_tables d) x v → HasItsValue d x v
its-own d x of.Implied h g = true-false (sym h)
its-own d x (of.Cdata us) h g = g
its-own d x (of.Notation n) h g = g
its-own d x (of.Entities es) h g = g
its-own d x (of.Tokens ts) h g = g

its-value : (d : Doctype) (n : Name) (w : Definition → AttrValue) (x : Definition) → Fact (value_read d) d n w x → HasItsValue d x (w x)
its-value d n w x (inl g) = let a = given-again d.syntax (entity_tables d) x g.0 (w x) g.1 in its-own d x (w x) a.has g
its-value d n w x (inr l) = subst (HasItsValue d x) (sym l.0) l.2

pub values-are-given : ValuesAreGiven
unfolding valued
values-are-given s n ss how proper at_once i x h e =
    let d = s.context.doctype in
    let k = split-apart s n ss how proper at_once h.unopposed in
    let w = value_of d s.currents n ss in (
      w x,
      slice_get-map (attribute_of d s.currents n ss) (attributes d n) i ∙ ap (option_map (attribute_of d s.currents n ss)) e,
      its-value d n w x (fact (value_read d) d s.currents n ss h.definitions h.currents k.0 k.1 i x e),
    )
