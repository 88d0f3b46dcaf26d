-- The lexemes of a declaration, of a section start, of the end of a document type or of a literal, and
-- why a declaration is refused (10, 11).
use Rattle.std.specs.Prelude.{ℕ, Bool, false, List, map, Option, Some, None, is_some, Result, Ok, Err, if◌then◌else◌}
use Rattle.std.specs.Option.{option_or}
use Rattle.sgml_scan.specs.text.declared.reason.Reason.{Reason}
use Rattle.sgml_scan.specs.text.declared.reason.Reason.TheVariants as reason
use Rattle.sgml_theory_reading.specs.model.Term.{Term}
use Rattle.sgml_theory_reading.specs.model.ReaderView.{sign}
use Rattle.sgml_theory_reading.specs.model.Reading.{reading}
use Rattle.sgml_theory_reading.specs.ambiguity.Scan.{clash}
use Rattle.sgml_theory_reading.specs.decl_parts.declared.ends.Construct.{Construct}
use Rattle.sgml_theory_reading.specs.decl_parts.declared.ends.Construct.TheVariants.{Declaration as Declaring}
use Rattle.sgml_theory_reading.specs.decl_lexemes.declared.lexeme.Lexeme.{Lexeme}
use Rattle.sgml_theory_reading.specs.decl_lexemes.declared.fault.Fault.{Fault}
use Rattle.sgml_theory_reading.specs.decl_lexemes.Readings.{State as Reading}
use Rattle.sgml_theory_reading.specs.decl_lexemes.Reads.{read_all}
use Rattle.sgml_theory_reading.specs.decl_lexemes.Wholeness.{is_whole_in}
use Rattle.sgml_theory_reading.specs.decl_forms.declared.element.ContentForm.{ContentForm}
use Rattle.sgml_theory_reading.specs.decl_forms.declared.element.ContentForm.TheVariants as content
use Rattle.sgml_theory_reading.specs.decl_forms.declared.declaration.Declaration.{Declaration}
use Rattle.sgml_theory_reading.specs.decl_forms.declared.declaration.Declaration.TheVariants as form
use Rattle.sgml_theory_reading.specs.dtd_elements.Folded.{folded}
use Rattle.sgml_theory_reading.specs.dtd.Doctypes.{Doctype}
use Rattle.sgml_theory_reading.specs.dtd.Rows.{declared_reason}
use Rattle.sgml_theory_reading.specs.Names.{Text}
use Rattle.sgml_theory_reading.specs.Unread.{Outside}
use Rattle.sgml_theory_spelling.specs.Stacked.{Stacked}
use Rattle.sgml_theory_spelling.specs.Texts.{stack_of, source_of, fault_reason}

-- LEXEMES by its own text, with how long all texts are that were opened by it and before it

pub record Lexed : Type 0 where
  pub lexemes : List Lexeme
  pub spent : ℕ

abbrev pub lexed_by : Outside → Doctype → Result Reading Fault → Result Lexed Reason
lexed_by outside d (Err fault) = Err (fault_reason outside d fault)
lexed_by outside d (Ok u) = Ok (record { lexemes = u.reading.lexemes; spent = u.stack.spent })

unfoldable pub lexed : Construct → Outside → Doctype → Stacked → Text → Result Lexed Reason
lexed c outside d t own = lexed_by outside d (read_all (source_of c outside d t own) (stack_of outside d t))

-- WHETHER ITS END IS REACHED, where a declaration is read no further
unfoldable pub is_whole : Outside → Doctype → Stacked → Text → Bool
is_whole outside d t own = is_whole_in (source_of Declaring outside d t own) (stack_of outside d t)

-- THE FIRST REASON AGAINST IT, after what was declared before

-- a model is ambiguous (11.2.4.3), which is the last row of all
abbrev pub model_in : ContentForm → Option Term
model_in (content.Model ts) = reading (map sign ts)
model_in _ = None

abbrev pub is_ambiguous : Option Term → Bool
is_ambiguous None = false
is_ambiguous (Some x) = is_some (clash x)

abbrev pub ambiguity : Doctype → Declaration → Option Reason
ambiguity d (form.Element e) = if is_ambiguous (model_in (folded d.syntax e).body.content) then Some reason.Ambiguous else None
ambiguity d _ = None

abbrev pub reason_against : Doctype → List Lexeme → Declaration → Option Reason
reason_against d lexemes x = option_or (declared_reason d lexemes x) (ambiguity d x)
