-- What is told of an error against a value.
use Rattle.std.specs.Prelude.{Bool, Option, Some, None, Result, Ok, Err}
use Rattle.sgml_text.specs.declared.reason.Reason.{Reason}
use Rattle.sgml_attr.specs.declared.error.AttrError.{AttrError}
use Rattle.sgml_attr.specs.declared.value.AttrValue.{AttrValue}
use Rattle.sgml_attr.specs.declared.error.AttrError.TheVariants as against
use Rattle.sgml_starts.specs.declared.error.StartError.{StartError}
use Rattle.sgml_starts.specs.declared.error.StartError.TheVariants as error
use Rattle.sgml_starts.specs.Rows.{reason_of, ranked}

abbrev pub refusal : Option Reason → StartError
refusal (Some r) = error.Refused r
refusal None = error.Memory

-- by itself
abbrev pub told : AttrError → StartError
told against.Memory = error.Memory
told e = error.Refused (reason_of e)

-- among the other reasons
abbrev pub told_among : Bool → Bool → AttrError → StartError
told_among long twice against.Memory = error.Memory
told_among long twice e = refusal (ranked long twice (Some e))

abbrev pub unless_refused : Option Reason → AttrValue → Result AttrValue StartError
unless_refused None v = Ok v
unless_refused (Some r) v = Err (error.Refused r)

-- of an answer
abbrev pub answered : Bool → Bool → Result AttrValue AttrError → Result AttrValue StartError
answered long twice (Ok v) = unless_refused (ranked long twice None) v
answered long twice (Err e) = Err (told_among long twice e)
