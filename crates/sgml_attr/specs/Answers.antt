-- Answers of calls that take memory.
use Rattle.std.specs.Prelude.{◌≡◌, Option, Some, None, Result, Ok, Err}
use Rattle.sgml_attr.specs.declared.error.AttrError.{AttrError}
use Rattle.sgml_attr.specs.declared.error.AttrError.TheVariants.{Memory}

-- the answer is what it must be, unless there was no memory
abbrev pub IsOrMemory : {T : Type 0} → Result T AttrError → Result T AttrError → Type 0
IsOrMemory expected (Err Memory) = Unit {0}
IsOrMemory expected answer = answer ≡ expected

-- it is refused for this reason, or not where there is none, unless there was no memory
abbrev pub IsRefusalOrMemory : {T : Type 0} → Option AttrError → Result T AttrError → Type 0
IsRefusalOrMemory reason (Ok x) = reason ≡ None
IsRefusalOrMemory reason (Err Memory) = Unit {0}
IsRefusalOrMemory reason (Err e) = reason ≡ Some e
