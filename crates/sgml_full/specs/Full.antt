-- THE FULL DOCUMENT: that with every tag, and with every attribute that has a value (profile).
use Rattle.std.specs.Prelude.{ℕ, suc, Bool, true, false, ◌||◌, ◌&&◌, List, [], ◌∷◌, ◌++◌, Option, Some, None, option_map, map, if◌then◌else◌}
use Rattle.sgml_attr.specs.declared.definition.Default.{Default}
use Rattle.sgml_attr.specs.declared.definition.Default.TheVariants as default
use Rattle.sgml_attr.specs.declared.definition.Definition.{Definition}
use Rattle.sgml_attr.specs.declared.value.AttrValue.{AttrValue}
use Rattle.sgml_attr.specs.declared.value.AttrValue.TheVariants as value
use Rattle.sgml_dtd_elements.specs.sgml_decl_forms.declared.element.ContentForm.{ContentForm}
use Rattle.sgml_dtd_elements.specs.sgml_decl_forms.declared.element.ContentForm.TheVariants as form
use Rattle.sgml_dtd_elements.specs.Types.{ElementType}
use Rattle.sgml_dtd.specs.Doctypes.{Doctype, definitions_for}
use Rattle.sgml_said.specs.theory_reading.Names.{Name}
use Rattle.sgml_said.specs.theory_reading.Types.{element_type, name_of_entity}
use Rattle.sgml_said.specs.theory_reading.Reads.{Attribute}
use Rattle.sgml_said.specs.theory_reading.Events.{Event as Said, Started, Ended, Byte, SpecificData, External, Instruction}
use Rattle.sgml_full.specs.declared.inside.Inside.{Inside}
use Rattle.sgml_full.specs.declared.inside.Inside.TheVariants as inside
use Rattle.sgml_full.specs.Spelled.{has_map, spelled_byte, raw_byte, start_tag, end_tag, entity_reference, is_paired, instruction}

abbrev pub is_given : AttrValue → Bool
is_given value.Implied = false
is_given _ = true

abbrev pub is_conref : Default → Bool
is_conref default.Conref = true
is_conref _ = false

-- a content reference is given (7.3, 11.3.4)
abbrev pub refers : List Definition → List AttrValue → Bool
refers [] vs = false
refers (a ∷ as') [] = false
refers (a ∷ as') (v ∷ vs) = (is_conref a.default && is_given v) || refers as' vs

-- the content of the element type of this name, which has a character (9.3)
abbrev pub content_of : Doctype → Name → Option ContentForm
content_of d [] = None
content_of d (b ∷ bs) = option_map (λ (t : ElementType). t.body.content) (element_type d (b ∷ bs))

-- what stands inside an element whose start-tag was written
abbrev pub inside_of : Bool → Option ContentForm → Inside
inside_of true content = inside.Nothing
inside_of false (Some form.Empty) = inside.Nothing
inside_of false (Some form.Cdata) = inside.Characters
inside_of false content = inside.Mixed

abbrev pub inside_after : Doctype → Name → List AttrValue → Inside
inside_after d name values = inside_of (refers (definitions_for d.lists name) values) (content_of d name)

-- the end of an element: of one without content no end-tag is written (7.5), and CDATA ends with a line of its own
abbrev pub ending : Inside → Name → List ℕ
ending inside.Nothing name = []
ending inside.Lines name = 10 ∷ end_tag name
ending _ name = end_tag name

-- data: in CDATA content it stands as it is, and the first begins a line of its own
abbrev pub datum_in : Inside → List ℕ → List ℕ → List ℕ
datum_in inside.Characters raw spelled = 10 ∷ raw
datum_in inside.Lines raw spelled = raw
datum_in _ raw spelled = spelled

abbrev pub after_datum : Inside → Inside
after_datum inside.Characters = inside.Lines
after_datum i = i

abbrev pub instruction_by : Doctype → List ℕ → Option ℕ → List ℕ
instruction_by d text None = instruction text
instruction_by d text (Some e) = entity_reference (name_of_entity d e)

-- an event, and what stands inside the innermost element after it
abbrev pub spelled_said : Doctype → Inside → Said → List ℕ
spelled_said d i (Started name attributes) = start_tag d name attributes
spelled_said d i (Ended name) = ending i name
spelled_said d i (Byte b) = datum_in i (raw_byte b ∷ []) (spelled_byte (has_map d) b)
spelled_said d i (SpecificData e text) = datum_in i (entity_reference (name_of_entity d e)) (entity_reference (name_of_entity d e))
spelled_said d i (External e) = entity_reference (name_of_entity d e)
spelled_said d i (Instruction text entity) = instruction_by d text entity

abbrev pub after_said : Doctype → Inside → Said → Inside
after_said d i (Started name attributes) = inside_after d name (map (λ (a : Attribute). a.value) attributes)
after_said d i (Ended name) = inside.Mixed
after_said d i (Byte b) = after_datum i
after_said d i (SpecificData e text) = after_datum i
after_said d i e = i

abbrev pub spelled_from : Doctype → Inside → List Said → List ℕ
spelled_from d i [] = []
spelled_from d i (e ∷ es) = spelled_said d i e ++ spelled_from d (after_said d i e) es

-- THE FULL DOCUMENT after a prolog of these bytes, with these events of its instance
abbrev pub full_document : List ℕ → Doctype → List Said → List ℕ
full_document prolog d es = prolog ++ (spelled_from d inside.Mixed es ++ 10 ∷ [])

-- THE FIRST INSTRUCTION that can't be spelled, by its number among all, from `n`: it came from no entity
abbrev pub first_unspelled : ℕ → List Said → Option ℕ
first_unspelled n [] = None
first_unspelled n (Instruction text None ∷ es) = if is_paired false text then first_unspelled (suc n) es else Some n
first_unspelled n (Instruction text (Some entity) ∷ es) = first_unspelled (suc n) es
first_unspelled n (e ∷ es) = first_unspelled n es
