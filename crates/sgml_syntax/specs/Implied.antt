-- The syntax of a document without an SGML declaration (profile): the reference syntax (13.4) with
-- OMITTAG and SHORTTAG YES, and wider quantities than the reference quantity set.
use Rattle.std.specs.Prelude.{true, false, None}
use Rattle.sgml_text.specs.NameCharacters.{reference_names}
use Rattle.sgml_syntax.specs.declared.syntax.Quantities.{Quantities}
use Rattle.sgml_syntax.specs.declared.syntax.Syntax.{Syntax}

abbrev pub implied_quantities : Quantities
implied_quantities = record {
  attcnt = 1000;
  entlvl = 100;
  grpcnt = 1000;
  grpgtcnt = 4000;
  grplvl = 100;
  litlen = 24000;
  namelen = 256;
  pilen = 24000;
  taglvl = 256;
}

-- general names are folded and entity names are not (13.4.5, NAMECASE)
abbrev pub implied_syntax : Syntax
implied_syntax = record {
  omittag = true;
  shorttag = true;
  general_fold = true;
  entity_fold = false;
  names = reference_names;
  shortrefs = true;
  quantities = implied_quantities;
  appinfo = None;
}
