use Rattle.std.proofs.Common.{refl}
use Rattle.sgml_declared.specs.declared.error.TakeError.TheVariants.{Memory}
use Rattle.sgml_content_sections.proofs.starts.begin_by_status.Goals as goal

pub returns-in-Err-begin_section-clause-err : goal.returns-in-Err-begin_section-clause-err
returns-in-Err-begin_section-clause-err c = record { error = Memory; told = refl; stopped = λ outside n a ends. tt }
