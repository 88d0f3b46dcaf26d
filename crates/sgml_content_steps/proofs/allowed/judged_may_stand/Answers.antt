use Rattle.sgml_content_steps.proofs.Standing.{judged-may-stand}
use Rattle.sgml_content_steps.proofs.allowed.judged_may_stand.Goals as goal

pub returns : goal.returns
returns c = judged-may-stand
