-- What the lexemes of a construct come to, and how a reader goes on or back.
use Rattle.std.specs.Prelude.{◌≡◌, ℕ, ◌+◌, ◌≤◌, List, Some, None, length, Ok, Option}
use Rattle.sgml_text.specs.declared.reason.Reason.TheVariants.{Unclosed, Unresolved}
use Rattle.sgml_entity.specs.Stack.{Stack, moved, moved_to, offset_of}
use Rattle.sgml_entity.specs.declared.places.StackMark.{StackMark}
use Rattle.sgml_decl_lexemes.specs.decl_parts.declared.ends.Construct.{Construct}
use Rattle.sgml_decl_lexemes.specs.declared.lexeme.Lexeme.{Lexeme}
use Rattle.sgml_decl_lexemes.specs.declared.fault.LexError.{LexError}
use Rattle.sgml_decl_lexemes.specs.declared.fault.LexError.TheVariants as lexing
use Rattle.sgml_dtd.specs.Doctypes.{Doctype}
use Rattle.sgml_theory_standing.specs.theory_reading.Names.{Text}
use Rattle.sgml_theory_standing.specs.theory_reading.Facets.{ExternalSubset}
use Rattle.sgml_theory_standing.specs.theory_reading.Unread.{Outside, Sources, file_of}
use Rattle.sgml_declared.specs.Files.{Choices, InEach, sources_in}
use Rattle.sgml_declared.specs.declared.error.TakeError.{TakeError}
use Rattle.sgml_declared.specs.declared.error.TakeError.TheVariants.{Refused, Wanted, Memory}
use Rattle.sgml_declared.specs.Taking.{lexed_at, ForEach, IsStopped}

-- the stack stands further on in the same text, and nothing else has changed but the sum
pub record IsAhead (s t : Stack) : Type 0 where
  pub levels : t.levels ≡ s.levels
  pub expand : t.expand ≡ s.expand
  pub spent : s.spent ≤ t.spent
  pub at : ℕ
  pub places : t.places ≡ moved_to at s.places

-- the mark of this stack
pub record IsMarkOf (m : StackMark) (s : Stack) : Type 0 where
  pub depth : m.depth + 1 ≡ length s.places
  pub at : m.at ≡ offset_of s.places
  pub spent : m.spent ≡ s.spent
  pub within : m.spent ≤ s.expand

-- THESE ARE THE LEXEMES that are spelled, and the stack stands after them
pub record AreLexemes (x : Construct) (outside : Outside) (k : Sources) (texts : List (ℕ × Text)) (s t : Stack) (n : ℕ) (ds : List Lexeme) : Type 0 where
  pub lexed : lexed_at x outside k.doctype texts s n ≡ Ok (record { lexemes = ds; spent = t.spent })
  pub grown : s.spent ≤ t.spent
  pub stack : t ≡ record s { spent = t.spent; places = moved n s.places }

abbrev pub AreTheLexemes : Construct → Choices → Doctype → Option ExternalSubset → List (ℕ × Text) → Stack → Stack → List Lexeme → Type 0
AreTheLexemes x c d subset texts s t ds =
    ForEach c x (sources_in d subset) texts s (λ outside n. AreLexemes x outside (sources_in d subset) texts s t n ds)

abbrev pub LexemesAreStopped : Construct → Choices → Doctype → Option ExternalSubset → List (ℕ × Text) → Stack → TakeError → Type 0
LexemesAreStopped x c d subset texts s e =
    ForEach c x (sources_in d subset) texts s
    (λ outside n. IsStopped outside (sources_in d subset) texts s (lexed_at x outside d texts s n) e)

-- HOW AN ERROR of the lexemes' reader is told: a text that is wanted is in a file, or in none
abbrev pub IsWantTold : Choices → Sources → ℕ → TakeError → Type 0
IsWantTold c k n (Refused r) = (r ≡ Unresolved) × InEach c (λ outside. file_of outside k n) None
IsWantTold c k n (Wanted number file) = (number ≡ n) × InEach c (λ outside. file_of outside k n) (Some file)
IsWantTold c k n Memory = Unit {0}

abbrev pub IsTold : Choices → Sources → LexError → TakeError → Type 0
IsTold c k (lexing.Refused r) e = e ≡ Refused r
IsTold c k (lexing.Wanted n) e = IsWantTold c k n e
IsTold c k lexing.NeedMore e = e ≡ Refused Unclosed
IsTold c k lexing.Memory e = e ≡ Memory
