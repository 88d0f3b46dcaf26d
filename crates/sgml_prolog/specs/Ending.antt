-- What it comes to that a document type ends, once its end was read over (11.1).
use Rattle.std.specs.Prelude.{◌≡◌, ℕ, ⊤, ◌⊎◌, true, List, Option, Some, None, is_some, Result, Ok, Err}
use Rattle.sgml_text.specs.declared.reason.Reason.{Reason}
use Rattle.sgml_entity.specs.declared.kinds.Entity.{Entity}
use Rattle.sgml_entity.specs.Stack.{Stack, opened}
use Rattle.sgml_entity.specs.Texts.{text_of}
use Rattle.sgml_declared.specs.theory_reading.Names.{Name, Text}
use Rattle.sgml_declared.specs.theory_reading.Facets.{ExternalSubset, subset_number}
use Rattle.sgml_declared.specs.theory_reading.Unread.{Outside, file_of}
use Rattle.sgml_declared.specs.theory_spelling.Stacked.{Stacked}
use Rattle.sgml_declared.specs.theory_spelling.Opened.{StackShows}
use Rattle.sgml_declared.specs.theory_spelling.References.{missing_fetched}
use Rattle.sgml_declared.specs.theory_spelling.Prolog.{end_reason}
use Rattle.sgml_declared.specs.theory_standing.Kept.{Kept, sources_of}
use Rattle.sgml_declared.specs.theory_standing.Prologs.{state_in_prolog}
use Rattle.sgml_declared.specs.Files.{Choices, IsOutsideOf}
use Rattle.sgml_declared.specs.Opening.{IsSupplied, IsPushed}
use Rattle.sgml_prolog_steps.specs.declared.stepping.Stop.{Stop}
use Rattle.sgml_prolog_steps.specs.declared.stepping.Stop.TheVariants as stop

-- the text of the external subset isn't there and is in this file: were that missing in the store, this would be
-- the reason
pub record IsSubsetWanted (outside : Outside) (k : Kept) (t : Stacked) (texts : List (ℕ × Text)) (number : ℕ) (file : Name) : Type 0 where
  pub subset : number ≡ subset_number
  pub absent : text_of texts subset_number ≡ None
  pub named : file_of outside (sources_of k) subset_number ≡ Some file
  pub missing : (r : Reason) → missing_fetched (outside.fetched file) ≡ Some r → end_reason outside (state_in_prolog k) t ≡ Some r

-- IT ENDS THERE, or this is why not, or the file of its external subset is to be fetched
abbrev pub EndsIn : Outside → Kept → Stacked → List (ℕ × Text) → Result ⊤ Stop → Type 0
EndsIn outside k t texts (Ok x) = end_reason outside (state_in_prolog k) t ≡ None
EndsIn outside k t texts (Err (stop.Refused r)) = end_reason outside (state_in_prolog k) t ≡ Some r
EndsIn outside k t texts (Err (stop.Wanted number file)) = IsSubsetWanted outside k t texts number file
EndsIn outside k t texts (Err stop.More) = ⊥
EndsIn outside k t texts (Err stop.Memory) = Unit {0}

-- in each outside that a run with these options may have, of which the text of the subset was supplied
abbrev pub EndsType : Choices → List (ℕ × Text) → Kept → Result ⊤ Stop → Type 0
EndsType c texts k result =
    (outside : Outside) (t : Stacked) → IsOutsideOf c outside → (is_some k.subset ≡ true → IsSupplied outside (sources_of k) texts subset_number)
    → StackShows k.stack outside k.doctype t → EndsIn outside k t texts result

-- the external subset is at the top of the stack then, where one was named
abbrev pub IsSubsetOn : Option ExternalSubset → List Entity → List (ℕ × Text) → Stack → Stack → Type 0
IsSubsetOn None es texts s t = t ≡ s
IsSubsetOn (Some subset) es texts s t = IsPushed es texts s t subset_number

-- it may be there, also where the document type doesn't end
abbrev pub IsAtOrOver : Stack → Stack → Type 0
IsAtOrOver s t = (t ≡ s) ⊎ ((size : ℕ) × (t ≡ opened subset_number size s))
