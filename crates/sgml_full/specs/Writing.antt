-- What writing a full document leaves.
use Rattle.std.specs.Prelude.{◌≡◌, ℕ, List, true, Option, Result, Ok, Err}
use Rattle.std.specs.List.{list_all}
use Rattle.std.specs.Io.KnownBytes.{Appends}
use Rattle.sgml_io.specs.Causes.{Rose}
use Rattle.sgml_io.specs.Writes.{AppendsFront}
use Rattle.sgml_dtd.specs.Doctypes.{Doctype}
use Rattle.sgml_events.specs.declared.event.Event.{Event}
use Rattle.sgml_full.specs.declared.full.FullError.{FullError}
use Rattle.sgml_full.specs.declared.full.FullError.TheVariants as error
use Rattle.sgml_said.specs.Told.{all_said}
use Rattle.sgml_full.specs.Full.{full_document}
use Rattle.sgml_full.specs.Events.{is_spelled, IsFirstUnspelled}

-- each instruction can be spelled, and the sink has all of it, or at a fault a front; or nothing was written
pub record WritesWhole (bytes : List ℕ) (es : List Event) (taken taken' : Option (List ℕ)) : Type 0 where
  pub spelled : list_all is_spelled es ≡ true
  pub written : Appends taken taken' bytes

pub record WritesFront (bytes : List ℕ) (es : List Event) (taken : Option (List ℕ)) (faults : ℕ) (taken' : Option (List ℕ)) (faults' : ℕ) : Type 0 where
  pub spelled : list_all is_spelled es ≡ true
  pub written : AppendsFront taken taken' bytes
  pub cause : Rose faults faults'

pub record WritesNothing (es : List Event) (index : ℕ) (taken : Option (List ℕ)) (faults : ℕ) (taken' : Option (List ℕ)) (faults' : ℕ) : Type 0 where
  pub first : IsFirstUnspelled es index
  pub same : taken' ≡ taken
  pub faults_same : faults' ≡ faults

abbrev pub WritesFull : List ℕ → Doctype → List Event → Option (List ℕ) → ℕ → Option (List ℕ) → ℕ → Result Unit FullError → Type 0
WritesFull prolog d es taken faults taken' faults' (Ok done) = WritesWhole (full_document prolog d (all_said d es)) es taken taken'
WritesFull prolog d es taken faults taken' faults' (Err error.SinkFault) = WritesFront (full_document prolog d (all_said d es)) es taken faults taken' faults'
WritesFull prolog d es taken faults taken' faults' (Err (error.PiNotSpelled index)) = WritesNothing es index taken faults taken' faults'

-- into a sink of which it is told what it has taken and how often it failed
abbrev pub WritesFullInto : {S : Type 0} → List ℕ → Doctype → List Event → (S → Option (List ℕ)) → (S → ℕ) → S → S → Result Unit FullError → Type 0
WritesFullInto prolog d es taken faults sink sink' result = WritesFull prolog d es (taken sink) (faults sink) (taken sink') (faults sink') result
