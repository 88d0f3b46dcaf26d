-- What is declared in words stands in the tables in words, as the syntax has it.
use Rattle.std.proofs.Common.{◌≡◌, ℕ, Bool, true, false, ◌&&◌, List, [], ◌∷◌, ◌++◌, map, is_some, refl, sym, ◌∙◌, if◌then◌else◌}
use Rattle.std.specs.List.{list_all}
use Rattle.std.proofs.lemmas.List.Folds.{list_all-append}
use Rattle.sgml_event_lines.specs.syntax.declared.syntax.Syntax.{Syntax}
use Rattle.sgml_event_lines.specs.sgml_names.Naming.{general_name, general_names, entity_name}
use Rattle.sgml_event_lines.specs.esis.Grammar.{is_word}
use Rattle.sgml_event_lines.proofs.esis.Tokens.{both}
use Rattle.sgml_event_lines.specs.entity.declared.kinds.Body.{Body}
use Rattle.sgml_event_lines.specs.entity.declared.kinds.Body.TheVariants as body
use Rattle.sgml_event_lines.specs.entity.declared.kinds.Entity.{Entity}
use Rattle.sgml_event_lines.specs.entity.Entities.{number_of}
use Rattle.sgml_event_lines.specs.attr.declared.definition.Definition.{Definition}
use Rattle.sgml_event_lines.specs.decl_forms.declared.declaration.Declaration.{Declaration}
use Rattle.sgml_event_lines.specs.decl_forms.declared.declaration.Declaration.TheVariants as form
use Rattle.sgml_event_lines.specs.decl_forms.declared.element.ElementDeclaration.{ElementDeclaration}
use Rattle.sgml_event_lines.specs.decl_forms.declared.element.Omits.{Omits}
use Rattle.sgml_event_lines.specs.decl_forms.declared.element.ElementBody.{ElementBody}
use Rattle.sgml_event_lines.specs.decl_forms.declared.attlist.AttributeForm.{AttributeForm}
use Rattle.sgml_event_lines.specs.decl_forms.declared.entity.EntityDeclaration.{EntityDeclaration}
use Rattle.sgml_event_lines.specs.dtd_elements.Types.{ElementType, types_of, types}
use Rattle.sgml_event_lines.specs.dtd_elements.Folded.{folded}
use Rattle.sgml_event_lines.specs.dtd_attlists.Interpreted.{definition_in, list_in}
use Rattle.sgml_event_lines.specs.dtd.Doctypes.{Doctype, body_in, entity_in, with_declared}
use Rattle.sgml_event_lines.specs.ReadBack.{body_words, list_words, entity_words, HasWords}
use Rattle.sgml_theory_words.proofs.Bytes.{and, cased-word}
use Rattle.sgml_theory_words.proofs.Says.{are_named, append, SaysWords}

abbrev is_worded_type : ElementType → Bool
is_worded_type t = is_word t.name

-- ELEMENT TYPES

names-words : (syntax : Syntax) (names : List (List ℕ)) → list_all is_word names ≡ true → list_all is_word (general_names syntax names) ≡ true
names-words syntax [] h = refl
names-words syntax (n ∷ ns) h =
    let p = both (is_word n) (list_all is_word ns) h in
    and (is_word (general_name syntax n)) (list_all is_word (general_names syntax ns)) (cased-word syntax.general_fold n p.0) (names-words syntax ns p.1)

types-words : (omits : Omits) (content : ElementBody) (names : List (List ℕ)) → list_all is_word names ≡ true
    → list_all is_worded_type (types_of (record { names = names; omits = omits; body = content })) ≡ true
types-words omits content [] h = refl
types-words omits content (n ∷ ns) h =
    let p = both (is_word n) (list_all is_word ns) h in
    and (is_word n) (list_all is_worded_type (types_of (record { names = ns; omits = omits; body = content }))) p.0 (types-words omits content ns p.1)

all-types : (es : List ElementDeclaration) (e : ElementDeclaration) → list_all is_worded_type (types es) ≡ true → list_all is_worded_type (types_of e) ≡ true
    → list_all is_worded_type (types (es ++ e ∷ [])) ≡ true
all-types [] e h k = list_all-append is_worded_type (types_of e) [] ∙ and (list_all is_worded_type (types_of e)) true k refl
all-types (x ∷ es) e h k =
    let old = list_all is_worded_type (types_of x) in
    let new = list_all is_worded_type (types (es ++ e ∷ [])) in
    let p = both old (list_all is_worded_type (types es)) (sym (list_all-append is_worded_type (types_of x) (types es)) ∙ h) in
    list_all-append is_worded_type (types_of x) (types (es ++ e ∷ [])) ∙ and old new p.0 (all-types es e p.1 k)

-- ATTRIBUTES

definitions-words : (syntax : Syntax) (xs : List AttributeForm) → are_named xs ≡ true → list_all (λ (x : Definition). is_word x.name) (map (definition_in syntax) xs) ≡ true
definitions-words syntax [] h = refl
definitions-words syntax (x ∷ xs) h =
    let p = both (is_word x.name) (are_named xs) h in
    and (is_word (general_name syntax x.name)) (list_all (λ (y : Definition). is_word y.name) (map (definition_in syntax) xs))
    (cased-word syntax.general_fold x.name p.0) (definitions-words syntax xs p.1)

-- ENTITIES

body-in-words : (syntax : Syntax) (b : Body) → body_words b ≡ true → body_words (body_in syntax b) ≡ true
body-in-words syntax (body.Sgml t) h = refl
body-in-words syntax (body.Cdata t) h = refl
body-in-words syntax (body.Sdata t) h = refl
body-in-words syntax (body.Pi t) h = refl
body-in-words syntax (body.External e) h = refl
body-in-words syntax (body.ExternalData kind e notation) h = cased-word syntax.general_fold notation h

entity-words : (syntax : Syntax) (base : List ℕ) (d : EntityDeclaration) → (is_word d.name && body_words d.body) ≡ true → entity_words (entity_in syntax base d) ≡ true
entity-words syntax base d h =
    let p = both (is_word d.name) (body_words d.body) h in
    and (is_word (entity_name syntax d.name)) (body_words (body_in syntax d.body)) (cased-word syntax.entity_fold d.name p.0) (body-in-words syntax d.body p.1)

unless-known : (t : Bool) (es : List Entity) (e : Entity) → list_all entity_words es ≡ true → entity_words e ≡ true
    → list_all entity_words (if t then es else es ++ e ∷ []) ≡ true
unless-known true es e h k = h
unless-known false es e h k = append entity_words es e h k

-- A DECLARATION

pub declared-words : (base : List ℕ) (d : Doctype) (x : Declaration) → HasWords d → SaysWords x → HasWords (with_declared base d x)
declared-words base d (form.Element x) w h = record {
  elements = all-types d.elements (folded d.syntax x) w.elements (types-words _ _ (general_names d.syntax x.names) (names-words d.syntax x.names h));
  lists = w.lists;
  entities = w.entities;
}
declared-words base d (form.Attlist x) w h = record {
  elements = w.elements;
  lists = append list_words d.lists (list_in d.syntax x) w.lists (definitions-words d.syntax x.attributes h);
  entities = w.entities;
}
declared-words base d (form.Entity x) w h =
    let e = entity_in d.syntax base x in record {
      elements = w.elements;
      lists = w.lists;
      entities = unless-known (is_some (number_of d.entities e.space e.name)) d.entities e w.entities (entity-words d.syntax base x h);
    }
declared-words base d (form.Notation x) w h = record { elements = w.elements; lists = w.lists; entities = w.entities }
declared-words base d (form.Shortref x) w h = record { elements = w.elements; lists = w.lists; entities = w.entities }
declared-words base d (form.Usemap x) w h = record { elements = w.elements; lists = w.lists; entities = w.entities }
declared-words base d (form.Doctype x) w h = record { elements = w.elements; lists = w.lists; entities = w.entities }
