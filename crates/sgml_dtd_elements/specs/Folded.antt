-- Element declarations with their names as the syntax has them (13.4.5, NAMECASE GENERAL).
use Rattle.std.specs.Prelude.{map}
use Rattle.sgml_syntax.specs.declared.syntax.Syntax.{Syntax}
use Rattle.sgml_names.specs.Naming.{general_name, general_names}
use Rattle.sgml_model.specs.declared.token.GroupToken.{GroupToken}
use Rattle.sgml_model.specs.declared.token.GroupToken.TheVariants.{Begin, Finish, Name, Pcdata, Seq, Or, And, Opt, Plus, Rep}
use Rattle.sgml_decl_forms.specs.declared.element.ContentForm.{ContentForm}
use Rattle.sgml_decl_forms.specs.declared.element.ContentForm.TheVariants as form
use Rattle.sgml_decl_forms.specs.declared.element.ElementDeclaration.{ElementDeclaration}

abbrev pub folded_token : Syntax → GroupToken → GroupToken
folded_token syntax Begin = Begin
folded_token syntax Finish = Finish
folded_token syntax (Name n) = Name (general_name syntax n)
folded_token syntax Pcdata = Pcdata
folded_token syntax Seq = Seq
folded_token syntax Or = Or
folded_token syntax And = And
folded_token syntax Opt = Opt
folded_token syntax Plus = Plus
folded_token syntax Rep = Rep

abbrev pub folded_content : Syntax → ContentForm → ContentForm
folded_content syntax form.Empty = form.Empty
folded_content syntax form.Cdata = form.Cdata
folded_content syntax form.Rcdata = form.Rcdata
folded_content syntax form.Any = form.Any
folded_content syntax (form.Model ts) = form.Model (map (folded_token syntax) ts)

abbrev pub folded : Syntax → ElementDeclaration → ElementDeclaration
folded syntax d = record {
  names = general_names syntax d.names;
  omits = d.omits;
  body = record {
    content = folded_content syntax d.body.content;
    excluded = general_names syntax d.body.excluded;
    included = general_names syntax d.body.included;
  };
}
