-- Why a document isn't converted further, where it isn't read further.
use Rattle.sgml_source.specs.declared.error.SourceError.{SourceError}
use Rattle.sgml_source.specs.declared.error.SourceError.TheVariants as source
use Rattle.sgml_conversion.specs.declared.answer.Failure.{Failure}
use Rattle.sgml_conversion.specs.declared.answer.Failure.TheVariants as failure

abbrev pub failure_of : SourceError → Failure
failure_of source.Store = failure.Store
failure_of source.Memory = failure.Memory
