use Rattle.std.proofs.Common.{refl}
use Rattle.sgml_source.proofs.laws.each_file_is_input.Goals as goal

pub returns : goal.returns
returns c = λ limit files options declaration bytes. record {
  of_options = record { expand = refl; file = refl; resolved = λ kind name external base. refl };
  syntax = refl;
  fetched = λ name. refl;
  document = refl;
  was_cut = refl;
}
