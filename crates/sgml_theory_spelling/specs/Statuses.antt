-- What the status keywords of a section start say, by what `sgml_marked` tells of them (10.4.2).
use Rattle.std.specs.Prelude.{◌≡◌, ℕ, ◌-◌, ◌&&◌, Bool, true, false, length, Ok, Err}
use Rattle.sgml_scan.specs.text.declared.reason.Reason.TheVariants as reason
use Rattle.sgml_theory_reading.specs.marked.Keywords.{highest, AllKnown, IsFirstUnknown}
use Rattle.sgml_theory_reading.specs.decl_parts.declared.ends.Construct.TheVariants as construct
use Rattle.sgml_theory_reading.specs.dtd.Doctypes.{Doctype}
use Rattle.sgml_theory_reading.specs.Names.{Text}
use Rattle.sgml_theory_reading.specs.Pieces.{SectionStart}
use Rattle.sgml_theory_reading.specs.Unread.{Outside}
use Rattle.sgml_theory_spelling.specs.Stacked.{Stacked}
use Rattle.sgml_theory_spelling.specs.Sized.{sized_spent}
use Rattle.sgml_theory_spelling.specs.Declared.{Lexed, lexed}
use Rattle.sgml_theory_spelling.specs.Content.{is_data_status, status_reason, keywords_in, section_start}

-- with these lexemes a section start has the highest status of its words, unless one is no keyword
pub record IsStatusOf (outside : Outside) (d : Doctype) (t : Stacked) (in_type : Bool) (own : Text) (x : Lexed) : Type 0 where
  pub unknown : (i : ℕ) → IsFirstUnknown (keywords_in x.lexemes) i → section_start outside d t in_type own ≡ Err (status_reason d.syntax x.lexemes)
  -- character data has no place before the document type was read
  pub misplaced : AllKnown (keywords_in x.lexemes) → in_type && is_data_status (highest (keywords_in x.lexemes)) ≡ true →
      section_start outside d t in_type own ≡ Err reason.DeclarationPlace
  pub told : AllKnown (keywords_in x.lexemes) → in_type && is_data_status (highest (keywords_in x.lexemes)) ≡ false →
      section_start outside d t in_type own ≡ Ok (sized_spent (length own) (x.spent - t.spent) (SectionStart (highest (keywords_in x.lexemes))))

abbrev pub KeywordsGiveStatus : Type 0
KeywordsGiveStatus =
    (outside : Outside) (d : Doctype) (t : Stacked) (in_type : Bool) (own : Text) (x : Lexed)
    → lexed construct.SectionStart outside d t own ≡ Ok x → IsStatusOf outside d t in_type own x
