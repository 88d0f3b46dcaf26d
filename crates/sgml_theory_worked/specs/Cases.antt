-- The worked cases: of each the declarations, the text after the document type declaration, its
-- lines, and how reading it ends.
use Rattle.std.specs.Prelude.{true, false, List, [], ◌∷◌, ◌++◌, codes}
use Rattle.sgml_theory_reading.specs.text.declared.reason.Reason.TheVariants.{NotAllowed, Unfinished, TagLevel, Excluded}
use Rattle.sgml_theory_reading.specs.syntax.declared.syntax.Syntax.{Syntax}
use Rattle.sgml_theory_reading.specs.dtd.Laws.{Placed}
use Rattle.sgml_theory_reading.specs.Names.{Text}
use Rattle.sgml_theory_reading.specs.Lines.{Line, StartLine, FinishLine, PiLine, ConformingLine}
use Rattle.sgml_theory_reading.specs.Outcome.{Ending, AtFinish, AtStop}
use Rattle.sgml_theory_worked.specs.Documents.{D, P, A', B', N, doctype, syntax_with, paragraphs, text_alone, titled, recursive, optional_first, either_order, one_or_other, notes, whole_record, chars}

pub record Case : Type 0 where
  pub syntax : Syntax
  pub declarations : List Placed
  pub text : Text
  pub expected : List Line
  pub ending : Ending

abbrev pub all_tags_present : Case
all_tags_present = record {
  syntax = syntax_with 256 true;
  declarations = doctype D paragraphs;
  text = whole_record (codes "<D><P>hi</P></D>");
  expected = (StartLine D ∷ (StartLine P ∷ (chars (codes "hi") ∷ (FinishLine P ∷ (FinishLine D ∷ (ConformingLine ∷ []))))));
  ending = AtFinish;
}

abbrev pub first_and_last_record_ends : Case
first_and_last_record_ends = record {
  syntax = syntax_with 256 true;
  declarations = doctype D paragraphs;
  text = whole_record (codes "<D><P>") ++ (whole_record (codes "a") ++ whole_record (codes "</P></D>"));
  expected = (StartLine D ∷ (StartLine P ∷ (chars (codes "a") ∷ (FinishLine P ∷ (FinishLine D ∷ (ConformingLine ∷ []))))));
  ending = AtFinish;
}

abbrev pub record_end_after_instruction : Case
record_end_after_instruction = record {
  syntax = syntax_with 256 true;
  declarations = doctype D paragraphs;
  text = whole_record (codes "<D><P>a") ++ (whole_record (codes "<?x>") ++ whole_record (codes "b</P></D>"));
  expected = (StartLine D ∷ (StartLine P ∷ (chars (codes "a") ∷ (PiLine (codes "x") ∷ (chars (13 ∷ codes "b") ∷ (FinishLine P ∷ (FinishLine D ∷ (ConformingLine ∷ []))))))));
  ending = AtFinish;
}

abbrev pub mixed_record_ends : Case
mixed_record_ends = record {
  syntax = syntax_with 256 true;
  declarations = doctype D text_alone;
  text = whole_record (codes "<D>a") ++ (whole_record (codes "") ++ (10 ∷ codes "b</D>"));
  expected = (StartLine D ∷ (chars (codes "a" ++ (13 ∷ (13 ∷ codes "b"))) ∷ (FinishLine D ∷ (ConformingLine ∷ []))));
  ending = AtFinish;
}

abbrev pub record_end_before_inclusion : Case
record_end_before_inclusion = record {
  syntax = syntax_with 256 true;
  declarations = doctype D notes;
  text = whole_record (codes "<D><P>a") ++ (whole_record (codes "<N>z</N>") ++ whole_record (codes "b</P></D>"));
  expected = (StartLine D ∷ (StartLine P ∷ (chars (codes "a") ∷ (StartLine N ∷ (chars (codes "z") ∷ (FinishLine N ∷ (chars (13 ∷ codes "b") ∷ (FinishLine P ∷ (FinishLine D ∷ (ConformingLine ∷ []))))))))));
  ending = AtFinish;
}

abbrev pub null_end_tags : Case
null_end_tags = record {
  syntax = syntax_with 256 true;
  declarations = doctype D paragraphs;
  text = whole_record (codes "<D><P/a b/<P>c/d</P></D>");
  expected = (StartLine D ∷ (StartLine P ∷ (chars (codes "a b") ∷ (FinishLine P ∷ (StartLine P ∷ (chars (codes "c/d") ∷ (FinishLine P ∷ (FinishLine D ∷ (ConformingLine ∷ [])))))))));
  ending = AtFinish;
}

abbrev pub empty_start_tag_under_omittag : Case
empty_start_tag_under_omittag = record {
  syntax = syntax_with 256 true;
  declarations = doctype D paragraphs;
  text = whole_record (codes "<D><P>a</><>b");
  expected = (StartLine D ∷ (StartLine P ∷ (chars (codes "a") ∷ (FinishLine P ∷ []))));
  ending = AtStop NotAllowed;
}

abbrev pub empty_start_tag_without_omittag : Case
empty_start_tag_without_omittag = record {
  syntax = syntax_with 24 false;
  declarations = doctype D paragraphs;
  text = whole_record (codes "<D><P>a</><>b</P></D>");
  expected = (StartLine D ∷ (StartLine P ∷ (chars (codes "a") ∷ (FinishLine P ∷ (StartLine P ∷ (chars (codes "b") ∷ (FinishLine P ∷ (FinishLine D ∷ (ConformingLine ∷ [])))))))));
  ending = AtFinish;
}

abbrev pub required_child_missing : Case
required_child_missing = record {
  syntax = syntax_with 256 true;
  declarations = doctype D paragraphs;
  text = whole_record (codes "<D></D>");
  expected = (StartLine D ∷ []);
  ending = AtStop Unfinished;
}

abbrev pub data_in_element_content : Case
data_in_element_content = record {
  syntax = syntax_with 256 true;
  declarations = doctype D paragraphs;
  text = whole_record (codes "<D><P>a</P>x</D>");
  expected = (StartLine D ∷ (StartLine P ∷ (chars (codes "a") ∷ (FinishLine P ∷ []))));
  ending = AtStop NotAllowed;
}

abbrev pub four_tags_inferred : Case
four_tags_inferred = record {
  syntax = syntax_with 256 true;
  declarations = doctype D titled;
  text = whole_record (codes "hi");
  expected = (StartLine D ∷ (StartLine P ∷ (chars (codes "hi") ∷ (FinishLine P ∷ (FinishLine D ∷ (ConformingLine ∷ []))))));
  ending = AtFinish;
}

abbrev pub refused_walk_prints_nothing : Case
refused_walk_prints_nothing = record {
  syntax = syntax_with 256 true;
  declarations = doctype D titled;
  text = whole_record (codes "<P>x<T>y");
  expected = (StartLine D ∷ (StartLine P ∷ (chars (codes "x") ∷ [])));
  ending = AtStop NotAllowed;
}

abbrev pub etago_out_of_context_is_data : Case
etago_out_of_context_is_data = record {
  syntax = syntax_with 256 true;
  declarations = doctype D titled;
  text = (10 ∷ codes "<P>hi</");
  expected = (StartLine D ∷ (StartLine P ∷ (chars (codes "hi</") ∷ (FinishLine P ∷ (FinishLine D ∷ (ConformingLine ∷ []))))));
  ending = AtFinish;
}

abbrev pub no_document_element : Case
no_document_element = record {
  syntax = syntax_with 256 true;
  declarations = doctype D titled;
  text = 13 ∷ [];
  expected = [];
  ending = AtStop Unfinished;
}

abbrev pub recursive_omission_reaches_taglvl : Case
recursive_omission_reaches_taglvl = record {
  syntax = syntax_with 6 true;
  declarations = doctype A' recursive;
  text = whole_record (codes "x");
  expected = [];
  ending = AtStop TagLevel;
}

abbrev pub optional_then_required : Case
optional_then_required = record {
  syntax = syntax_with 256 true;
  declarations = doctype D optional_first;
  text = whole_record (codes "<D><B></D>");
  expected = (StartLine D ∷ (StartLine B' ∷ (FinishLine B' ∷ (FinishLine D ∷ (ConformingLine ∷ [])))));
  ending = AtFinish;
}

abbrev pub and_group_either_order : Case
and_group_either_order = record {
  syntax = syntax_with 256 true;
  declarations = doctype D either_order;
  text = whole_record (codes "<D><B><A></D>");
  expected = (StartLine D ∷ (StartLine B' ∷ (FinishLine B' ∷ (StartLine A' ∷ (FinishLine A' ∷ (FinishLine D ∷ (ConformingLine ∷ [])))))));
  ending = AtFinish;
}

abbrev pub and_group_unfinished : Case
and_group_unfinished = record {
  syntax = syntax_with 256 true;
  declarations = doctype D either_order;
  text = whole_record (codes "<D><B></D>");
  expected = (StartLine D ∷ (StartLine B' ∷ (FinishLine B' ∷ [])));
  ending = AtStop Unfinished;
}

-- an OR group takes its second member without the first (11.2.4.1)
abbrev pub or_group_second : Case
or_group_second = record {
  syntax = syntax_with 256 true;
  declarations = doctype D one_or_other;
  text = whole_record (codes "<D><B></D>");
  expected = (StartLine D ∷ (StartLine B' ∷ (FinishLine B' ∷ (FinishLine D ∷ (ConformingLine ∷ [])))));
  ending = AtFinish;
}

-- and no more than one of them
abbrev pub or_group_both : Case
or_group_both = record {
  syntax = syntax_with 256 true;
  declarations = doctype D one_or_other;
  text = whole_record (codes "<D><A><B></D>");
  expected = (StartLine D ∷ (StartLine A' ∷ (FinishLine A' ∷ [])));
  ending = AtStop NotAllowed;
}

abbrev pub inclusion_and_exclusion : Case
inclusion_and_exclusion = record {
  syntax = syntax_with 256 true;
  declarations = doctype D notes;
  text = whole_record (codes "<D><N>x</N><P>y<N>z</N></P></D>");
  expected = (StartLine D ∷ (StartLine N ∷ (chars (codes "x") ∷ (FinishLine N ∷ (StartLine P ∷ (chars (codes "y") ∷ (StartLine N ∷ (chars (codes "z") ∷ (FinishLine N ∷ (FinishLine P ∷ (FinishLine D ∷ (ConformingLine ∷ []))))))))))));
  ending = AtFinish;
}

abbrev pub excluded_in_itself : Case
excluded_in_itself = record {
  syntax = syntax_with 256 true;
  declarations = doctype D notes;
  text = whole_record (codes "<D><N><N></N></N></D>");
  expected = (StartLine D ∷ (StartLine N ∷ []));
  ending = AtStop Excluded;
}
