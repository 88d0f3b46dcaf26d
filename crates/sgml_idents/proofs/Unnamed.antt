-- Starts whose attributes are no identifiers have none.
use Rattle.std.proofs.Common.{◌≡◌, Bool, true, false, ◌||◌, Option, Some, None, List, [], ◌∷◌, ◌++◌, refl, sym, ap, ◌∙◌, append-nil}
use Rattle.std.specs.List.{list_any}
use Rattle.sgml_text.specs.declared.place.Place.{Place}
use Rattle.sgml_names.specs.Index.{names_of}
use Rattle.sgml_attr.specs.declared.definition.Declared.{Declared}
use Rattle.sgml_attr.specs.declared.definition.Declared.TheVariants as declared
use Rattle.sgml_attr.specs.declared.definition.Definition.{Definition}
use Rattle.sgml_attr.specs.declared.value.AttrValue.{AttrValue}
use Rattle.sgml_said.specs.theory_reading.Names.{Name}
use Rattle.sgml_said.specs.theory_reading.Types.{is_in}
use Rattle.sgml_said.specs.theory_reading.Reads.{Attribute}
use Rattle.sgml_said.specs.theory_reading.Identifiers.{ids_of, references_of, ids_by, references_by, tokens_of}
use Rattle.sgml_said.specs.Told.{attributes_with}
use Rattle.sgml_idents.specs.declared.idents.Idents.{Idents}
use Rattle.sgml_idents.specs.Noted.{identifies, definition_identifies}
use Rattle.sgml_idents.specs.Judged.{HasMore, HasStart}

-- what is neither an ID nor has IDREFs
no_ids : (d : Declared) (ts : List Name) → identifies d ≡ false → ids_by d ts ≡ []
no_ids declared.Id ts e = cc
no_ids _ ts e = refl

no_references : (d : Declared) (ts : List Name) → identifies d ≡ false → references_by d ts ≡ []
no_references declared.Idref ts e = cc
no_references declared.Idrefs ts e = cc
no_references _ ts e = refl

either : (a b : Bool) → (a || b) ≡ false → (a ≡ false) × (b ≡ false)
either true b e = cc
either false b e = (refl, e)

record NamesNothing (attributes : List Attribute) : Type 0 where
  pub ids : ids_of attributes ≡ []
  pub references : references_of attributes ≡ []

names_nothing : (ds : List Definition) (vs : List AttrValue) → list_any definition_identifies ds ≡ false → NamesNothing (attributes_with ds vs)
names_nothing [] vs e = record { ids = refl; references = refl }
names_nothing (a ∷ ds) [] e = record { ids = refl; references = refl }
names_nothing (a ∷ ds) (v ∷ vs) e =
    let parts = either (identifies a.declared) (list_any definition_identifies ds) e in
    let again = names_nothing ds vs parts.1 in
    record {
      ids = ap (λ (ns : List Name). ns ++ ids_of (attributes_with ds vs)) (no_ids a.declared (tokens_of v) parts.0) ∙ again.ids;
      references = ap (λ (ns : List Name). ns ++ references_of (attributes_with ds vs)) (no_references a.declared (tokens_of v) parts.0) ∙ again.references;
    }

same_or : (b : Bool) → b ≡ (b || false)
same_or true = refl
same_or false = refl

nothing_more : (x : Option Place) (old : Idents) (place : Place) (attributes : List Attribute) → old.repeated ≡ x → ids_of attributes ≡ [] → references_of attributes ≡ [] → HasMore old place attributes old x
nothing_more (Some first) old place attributes is ids references = (is, refl)
nothing_more None old place attributes is ids references = rw ids (rw references (is, sym (append-nil _)))

pub none_identify : (old : Idents) (place : Place) (ds : List Definition) (vs : List AttrValue) → list_any definition_identifies ds ≡ false → HasStart old place (attributes_with ds vs) old
none_identify old place ds vs none =
    let names = names_nothing ds vs none in
    record {
      references = nothing_more old.repeated old place (attributes_with ds vs) refl names.ids names.references;
      ids = λ name. rw names.ids (same_or (is_in name (names_of old.ids)));
    }
