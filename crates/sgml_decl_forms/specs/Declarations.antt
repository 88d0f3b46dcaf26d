-- What a declaration says, by its keyword (11.1 to 11.6, 10.5).
use Rattle.std.specs.Prelude.{List, [], ◌∷◌, Option, None, if◌then◌else◌, codes, option_map}
use Rattle.sgml_decl_forms.specs.Words.{is_keyword}
use Rattle.sgml_decl_lexemes.specs.declared.lexeme.Lexeme.{Lexeme}
use Rattle.sgml_decl_forms.specs.declared.declaration.Declaration.{Declaration}
use Rattle.sgml_decl_forms.specs.declared.declaration.Declaration.TheVariants as d
use Rattle.sgml_decl_forms.specs.Elements.{element_at}
use Rattle.sgml_decl_forms.specs.Attributes.{attlist_at}
use Rattle.sgml_decl_forms.specs.EntityForms.{entity_at}
use Rattle.sgml_decl_forms.specs.Externals.{notation_at}
use Rattle.sgml_decl_forms.specs.Maps.{shortref_at, usemap_at}
use Rattle.sgml_decl_forms.specs.Doctypes.{doctype_at}

abbrev pub declaration_at : List Lexeme → Option Declaration
declaration_at [] = None
declaration_at (word ∷ ds) =
    if is_keyword (codes "ELEMENT") word then option_map d.Element (element_at ds)
    else if is_keyword (codes "ATTLIST") word then option_map d.Attlist (attlist_at ds)
    else if is_keyword (codes "ENTITY") word then option_map d.Entity (entity_at ds)
    else if is_keyword (codes "NOTATION") word then option_map d.Notation (notation_at ds)
    else if is_keyword (codes "SHORTREF") word then option_map d.Shortref (shortref_at ds)
    else if is_keyword (codes "USEMAP") word then option_map d.Usemap (usemap_at ds)
    else if is_keyword (codes "DOCTYPE") word then option_map d.Doctype (doctype_at ds)
    else None
