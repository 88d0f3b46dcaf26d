-- What the table keeps of the declarations.
use Rattle.std.specs.Prelude.{◌≡◌, ℕ, ◌<◌, List, [], ◌∷◌, Some, map, length}
use Rattle.sgml_names.specs.Index.{table_limit}
use Rattle.sgml_names.specs.Lists.{numbered}
use Rattle.sgml_model.specs.Group.{Sign, begin, finish, text, word, by, mark, in_order, one_of, all_of, once, some_times, any_times, spelling}
use Rattle.sgml_model.specs.Reading.{reading}
use Rattle.sgml_model.specs.declared.token.GroupToken.{GroupToken}
use Rattle.sgml_model.specs.declared.token.GroupToken.TheVariants.{Begin, Finish, Name, Pcdata, Seq, Or, And, Opt, Plus, Rep}
use Rattle.sgml_automaton.specs.Automaton.{whole_of}
use Rattle.sgml_decl_forms.specs.declared.element.ContentForm.{ContentForm}
use Rattle.sgml_decl_forms.specs.declared.element.ContentForm.TheVariants as form
use Rattle.sgml_decl_forms.specs.declared.element.ElementDeclaration.{ElementDeclaration}
use Rattle.sgml_dtd_elements.specs.declared.content.Content.{Content}
use Rattle.sgml_dtd_elements.specs.declared.content.Content.TheVariants as kept
use Rattle.sgml_dtd_elements.specs.declared.row.Row.{Row}
use Rattle.sgml_dtd_elements.specs.declared.row.Place.{Place}
use Rattle.sgml_dtd_elements.specs.Types.{types, names}
use Rattle.sgml_dtd_elements.specs.Laws.{AreDistinct}
use Rattle.sgml_dtd_elements.specs.Naming.{places_from}

abbrev pub token : Sign → GroupToken
token begin = Begin
token finish = Finish
token text = Pcdata
token (word n) = Name n
token (by in_order) = Seq
token (by one_of) = Or
token (by all_of) = And
token (mark once) = Opt
token (mark some_times) = Plus
token (mark any_times) = Rep

-- the form of a content: a model is written as its group
abbrev pub form_of : Content → ContentForm
form_of kept.Empty = form.Empty
form_of kept.Cdata = form.Cdata
form_of kept.Rcdata = form.Rcdata
form_of kept.Any = form.Any
form_of (kept.Model a) = form.Model (map token (spelling (whole_of a)))

-- the declaration that a row keeps
abbrev pub declared : Row → ElementDeclaration
declared r = record {
  names = r.names;
  omits = r.omits;
  body = record { content = form_of r.content; excluded = r.exceptions.excluded; included = r.exceptions.included };
}

-- the group of a model reads as the model
abbrev pub IsRead : Content → Type 0
IsRead (kept.Model a) = reading (spelling (whole_of a)) ≡ Some (whole_of a)
IsRead _ = Unit {0}

abbrev pub AreRead : List Row → Type 0
AreRead [] = Unit {0}
AreRead (r ∷ rs) = IsRead r.content × AreRead rs

-- how the table of names and the places follow the rows
pub record AreKept (rows : List Row) (places : List Place) (index : List (List ℕ × ℕ)) : Type 0 where
  pub read : AreRead rows
  pub index_is : index ≡ numbered 0 (names (types (map declared rows)))
  pub places_are : places ≡ places_from 0 (map declared rows)
  pub distinct : AreDistinct (map declared rows)
  pub few : length places < table_limit
  pub few_rows : length rows < table_limit
