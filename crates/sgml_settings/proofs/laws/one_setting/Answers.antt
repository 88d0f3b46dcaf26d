use Rattle.sgml_settings.proofs.One.{one-setting}
use Rattle.sgml_settings.proofs.laws.one_setting.Goals as goal

pub returns : goal.returns
returns c = one-setting
