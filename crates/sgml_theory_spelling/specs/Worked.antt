-- Worked documents: what reading each of them comes to, computed from the definitions.
use Rattle.std.specs.Prelude.{◌≡◌, ℕ, Bool, true, false, Option, Some, None, List, [], ◌∷◌, ◌++◌, map, codes, bytes_eq, if◌then◌else◌}
use Rattle.sgml_scan.specs.text.declared.reason.Reason.TheVariants as reason
use Rattle.sgml_scan.specs.text.declared.data_kind.DataKind.TheVariants.{Ndata, Sdata}
use Rattle.sgml_scan.specs.syntax.Implied.{implied_syntax, implied_quantities}
use Rattle.sgml_theory_reading.specs.catalog.declared.catalog.Kind.{Kind as CatalogKind}
use Rattle.sgml_theory_reading.specs.catalog.declared.catalog.Kind.TheVariants as catalog
use Rattle.sgml_theory_reading.specs.Names.{Name, Text}
use Rattle.sgml_theory_reading.specs.Unread.{Outside, Fetched, NotThere, Found, Input, opening, standing}
use Rattle.sgml_theory_reading.specs.State.{state}
use Rattle.sgml_theory_reading.specs.Lines.{Line, Plain, Barred, StartLine, FinishLine, CharsLine, DataRefLine, PiLine, ImpliedLine, CdataLine, EntityLine, TokenLine, DefineNotation, DefineExternal, DefineInternal, AppInfoLine, PublicLine, SystemLine, ConformingLine}
use Rattle.sgml_theory_reading.specs.Outcome.{Ending, AtFinish, AtStop, Outcome, outcome, outcome_lines, is_ended, Gives}
use Rattle.sgml_theory_spelling.specs.Spelled.{forms}

-- the external subset is in the file d.dtd, and each entity in a file of its name
abbrev pub file_named : CatalogKind → Name → Option Name
file_named catalog.Doctype n = Some (codes "d.dtd")
file_named kind n = Some n

abbrev pub outside_with : ℕ → (Name → Fetched) → Outside
outside_with expand fetched =
    record { syntax = implied_syntax; expand = expand; file = codes "f"; resolved = λ kind n external base. file_named kind n; fetched = fetched }

abbrev pub usual : Outside
usual = outside_with 1000 (λ n. NotThere)

abbrev pub narrow : Outside
narrow = outside_with 1 (λ n. NotThere)

-- a record: its start, its characters and its end
abbrev pub whole_record : Text → Text
whole_record text = 10 ∷ (text ++ (13 ∷ []))

abbrev pub chars : Text → Line
chars text = CharsLine (map (λ b. Plain b) text)

-- an SGML declaration with the reference quantities, and one of them
abbrev pub declaration_with : Text → Text
declaration_with minimize = whole_record (codes "<!SGML \"ISO 8879:1986\"") ++ (whole_record (codes "CHARSET BASESET \"ISO 646:1983//CHARSET International Reference Version (IRV)//ESC 2/5 4/0\"") ++ (whole_record (codes "DESCSET 0 9 UNUSED 9 2 9 11 2 UNUSED 13 1 13 14 18 UNUSED 32 95 32 127 1 UNUSED") ++ (whole_record (codes "CAPACITY PUBLIC \"ISO 8879:1986//CAPACITY Reference//EN\"") ++ (whole_record (codes "SCOPE DOCUMENT") ++ (whole_record (codes "SYNTAX PUBLIC \"ISO 8879:1986//SYNTAX Reference//EN\"") ++ (whole_record (codes "FEATURES") ++ (whole_record minimize ++ (whole_record (codes "LINK SIMPLE NO IMPLICIT NO EXPLICIT NO") ++ (whole_record (codes "OTHER CONCUR NO SUBDOC NO FORMAL NO") ++ (whole_record (codes "APPINFO NONE>")))))))))))

abbrev pub short_declaration : Text
short_declaration = declaration_with (codes "MINIMIZE DATATAG NO OMITTAG NO RANK NO SHORTTAG YES")

abbrev pub report_type : Text
report_type = whole_record (codes "<!-- Report -->") ++ (whole_record (codes "<!ENTITY % inline \"em|code\">") ++ (whole_record (codes "<!ELEMENT report O O (title, sect+) +(note)>") ++ (whole_record (codes "<!ELEMENT title O O (#PCDATA|%inline;)*>") ++ (whole_record (codes "<!ELEMENT sect - O (title, (para|list)+)>") ++ (whole_record (codes "<!ELEMENT para O O (#PCDATA|%inline;)*>") ++ (whole_record (codes "<!ELEMENT list - - (item+)>") ++ (whole_record (codes "<!ELEMENT item O O (para+)>") ++ (whole_record (codes "<!ELEMENT (em|code) - - (#PCDATA)>") ++ (whole_record (codes "<!ELEMENT note - - (#PCDATA) -(note)>") ++ (whole_record (codes "<!ATTLIST sect id ID #IMPLIED") ++ (whole_record (codes "  status (draft|final) draft>") ++ (whole_record (codes "<!ENTITY chap SYSTEM \"chap.sgm\">")))))))))))))

abbrev pub report_chapter : Text
report_chapter = whole_record (codes "<sect>Outlook") ++ (whole_record (codes "<para>Good."))

abbrev pub report : Outside
report = outside_with 1000 (λ n. if bytes_eq n (codes "d.dtd") then Found report_type else if bytes_eq n (codes "chap") then Found report_chapter else NotThere)

abbrev pub computed : Input → Outcome
computed I = outcome 400 forms I.was_cut I.outside (state (opening I.outside)) (standing I (opening I.outside))

-- how reading ends, and the lines that were put out
pub record IsReadTo (I : Input) (ending : Ending) (ls : List Line) : Type 0 where
  pub ends : (computed I).ending ≡ ending
  pub lines_are : outcome_lines forms (state (opening I.outside)) (computed I) ≡ ls

-- what comes out so is read so, from the first byte on
abbrev pub WhatComesOutIsRead : Type 0
WhatComesOutIsRead =
    (I : Input) (ending : Ending) (ls : List Line) → IsReadTo I ending ls → is_ended ending ≡ true → Gives forms I (opening I.outside) ls ending

-- A WORKED DOCUMENT: with what is outside it, whether it was cut, how reading it ends, and its lines
pub record Document : Type 0 where
  pub outside : Outside
  pub text : Text
  pub was_cut : Bool
  pub ending : Ending
  pub lines : List Line

abbrev pub comes : Outside → Text → Ending → List Line → Document
comes outside text ending ls = record { outside = outside; text = text; was_cut = false; ending = ending; lines = ls }

-- of a document that was cut there
abbrev pub comes_cut : Outside → Text → Ending → List Line → Document
comes_cut outside text ending ls = record { outside = outside; text = text; was_cut = true; ending = ending; lines = ls }

abbrev pub ComesOut : Document → Type 0
ComesOut d = IsReadTo (record { document = d.text; was_cut = d.was_cut; outside = d.outside }) d.ending d.lines

abbrev pub AllComeOut : List Document → Type 0
AllComeOut [] = Unit {0}
AllComeOut (d ∷ ds) = ComesOut d × AllComeOut ds

abbrev pub all_tags_present : Document
all_tags_present = comes usual (whole_record (codes "<!DOCTYPE D [<!ELEMENT D - - (P+)><!ELEMENT P - - (#PCDATA)>]>") ++ (whole_record (codes "<D><P>hi</P></D>"))) AtFinish (StartLine (codes "D") ∷ (StartLine (codes "P") ∷ (chars (codes "hi") ∷ (FinishLine (codes "P") ∷ (FinishLine (codes "D") ∷ (ConformingLine ∷ []))))))

abbrev pub four_tags_left_out : Document
four_tags_left_out = comes usual (whole_record (codes "<!DOCTYPE D [<!ELEMENT D O O (T?,P+)><!ELEMENT (T|P) O O (#PCDATA)>]>") ++ (whole_record (codes "hi"))) AtFinish (StartLine (codes "D") ∷ (StartLine (codes "P") ∷ (chars (codes "hi") ∷ (FinishLine (codes "P") ∷ (FinishLine (codes "D") ∷ (ConformingLine ∷ []))))))

abbrev pub refused_walk_prints_nothing : Document
refused_walk_prints_nothing = comes usual (whole_record (codes "<!DOCTYPE D [<!ELEMENT D O O (T?,P+)><!ELEMENT (T|P) O O (#PCDATA)>]>") ++ (whole_record (codes "<P>x<T>y"))) (AtStop reason.NotAllowed) (StartLine (codes "D") ∷ (StartLine (codes "P") ∷ (chars (codes "x") ∷ [])))

abbrev pub ambiguous_model : Document
ambiguous_model = comes usual (whole_record (codes "<!DOCTYPE D [") ++ (whole_record (codes "<!ELEMENT D - - (A?,A)>") ++ (whole_record (codes "]>")))) (AtStop reason.Ambiguous) ([])

abbrev pub optional_then_required : Document
optional_then_required = comes usual (whole_record (codes "<!DOCTYPE D [") ++ (whole_record (codes "<!ELEMENT D - - (A?,B)>") ++ (whole_record (codes "<!ELEMENT (A|B) - O EMPTY>") ++ (whole_record (codes "]>") ++ (whole_record (codes "<D><B></D>")))))) AtFinish (StartLine (codes "D") ∷ (StartLine (codes "B") ∷ (FinishLine (codes "B") ∷ (FinishLine (codes "D") ∷ (ConformingLine ∷ [])))))

abbrev pub and_group : Document
and_group = comes usual (whole_record (codes "<!DOCTYPE D [") ++ (whole_record (codes "<!ELEMENT D - - (A & B?)>") ++ (whole_record (codes "<!ELEMENT (A|B) - O EMPTY>") ++ (whole_record (codes "]>") ++ (whole_record (codes "<D><B><A></D>")))))) AtFinish (StartLine (codes "D") ∷ (StartLine (codes "B") ∷ (FinishLine (codes "B") ∷ (StartLine (codes "A") ∷ (FinishLine (codes "A") ∷ (FinishLine (codes "D") ∷ (ConformingLine ∷ [])))))))

abbrev pub and_group_unfinished : Document
and_group_unfinished = comes usual (whole_record (codes "<!DOCTYPE D [") ++ (whole_record (codes "<!ELEMENT D - - (A & B?)>") ++ (whole_record (codes "<!ELEMENT (A|B) - O EMPTY>") ++ (whole_record (codes "]>") ++ (whole_record (codes "<D><B></D>")))))) (AtStop reason.Unfinished) (StartLine (codes "D") ∷ (StartLine (codes "B") ∷ (FinishLine (codes "B") ∷ [])))

abbrev pub null_end_tags : Document
null_end_tags = comes usual (whole_record (codes "<!DOCTYPE D [<!ELEMENT D - - (P+)><!ELEMENT P - - (#PCDATA)>]>") ++ (whole_record (codes "<D><P/a b/<P>c/d</P></D>"))) AtFinish (StartLine (codes "D") ∷ (StartLine (codes "P") ∷ (chars (codes "a b") ∷ (FinishLine (codes "P") ∷ (StartLine (codes "P") ∷ (chars (codes "c/d") ∷ (FinishLine (codes "P") ∷ (FinishLine (codes "D") ∷ (ConformingLine ∷ [])))))))))

abbrev pub empty_start_tag : Document
empty_start_tag = comes usual (whole_record (codes "<!DOCTYPE D [<!ELEMENT D - - (P+)><!ELEMENT P - - (#PCDATA)>]>") ++ (whole_record (codes "<D><P>a</><>b"))) (AtStop reason.NotAllowed) (StartLine (codes "D") ∷ (StartLine (codes "P") ∷ (chars (codes "a") ∷ (FinishLine (codes "P") ∷ []))))

abbrev pub empty_start_tag_without_omittag : Document
empty_start_tag_without_omittag = comes usual (whole_record (codes "<!SGML \"ISO 8879:1986\"") ++ (whole_record (codes "CHARSET BASESET \"ISO 646:1983//CHARSET International Reference Version (IRV)//ESC 2/5 4/0\"") ++ (whole_record (codes "DESCSET 0 9 UNUSED 9 2 9 11 2 UNUSED 13 1 13 14 18 UNUSED 32 95 32 127 1 UNUSED") ++ (whole_record (codes "CAPACITY PUBLIC \"ISO 8879:1986//CAPACITY Reference//EN\"") ++ (whole_record (codes "SCOPE DOCUMENT") ++ (whole_record (codes "SYNTAX PUBLIC \"ISO 8879:1986//SYNTAX Reference//EN\"") ++ (whole_record (codes "FEATURES") ++ (whole_record (codes "MINIMIZE DATATAG NO OMITTAG NO RANK NO SHORTTAG YES") ++ (whole_record (codes "LINK SIMPLE NO IMPLICIT NO EXPLICIT NO") ++ (whole_record (codes "OTHER CONCUR NO SUBDOC NO FORMAL NO") ++ (whole_record (codes "APPINFO NONE>") ++ (whole_record (codes "<!DOCTYPE D [<!ELEMENT D - - (P+)><!ELEMENT P - - (#PCDATA)>]>") ++ (whole_record (codes "<D><P>a</><>b</P></D>")))))))))))))) AtFinish (StartLine (codes "D") ∷ (StartLine (codes "P") ∷ (chars (codes "a") ∷ (FinishLine (codes "P") ∷ (StartLine (codes "P") ∷ (chars (codes "b") ∷ (FinishLine (codes "P") ∷ (FinishLine (codes "D") ∷ (ConformingLine ∷ [])))))))))

abbrev pub first_and_last_record_ends : Document
first_and_last_record_ends = comes usual (whole_record (codes "<!DOCTYPE D [<!ELEMENT D - - (P+)><!ELEMENT P - - (#PCDATA)>]>") ++ (whole_record (codes "<D><P>") ++ (whole_record (codes "a") ++ (whole_record (codes "</P></D>"))))) AtFinish (StartLine (codes "D") ∷ (StartLine (codes "P") ∷ (chars (codes "a") ∷ (FinishLine (codes "P") ∷ (FinishLine (codes "D") ∷ (ConformingLine ∷ []))))))

abbrev pub record_end_after_instruction : Document
record_end_after_instruction = comes usual (whole_record (codes "<!DOCTYPE D [<!ELEMENT D - - (P+)><!ELEMENT P - - (#PCDATA)>]>") ++ (whole_record (codes "<D><P>a") ++ (whole_record (codes "<?x>") ++ (whole_record (codes "b</P></D>"))))) AtFinish (StartLine (codes "D") ∷ (StartLine (codes "P") ∷ (chars (codes "a") ∷ (PiLine (codes "x") ∷ (chars (13 ∷ codes "b") ∷ (FinishLine (codes "P") ∷ (FinishLine (codes "D") ∷ (ConformingLine ∷ []))))))))

abbrev pub etago_out_of_context : Document
etago_out_of_context = comes usual (whole_record (codes "<!DOCTYPE D [<!ELEMENT D O O (T?,P+)><!ELEMENT (T|P) O O (#PCDATA)>]>") ++ ((10 ∷ codes "<P>hi</"))) AtFinish (StartLine (codes "D") ∷ (StartLine (codes "P") ∷ (chars (codes "hi</") ∷ (FinishLine (codes "P") ∷ (FinishLine (codes "D") ∷ (ConformingLine ∷ []))))))

abbrev pub reference_ends_with_record_end : Document
reference_ends_with_record_end = comes usual (whole_record (codes "<!DOCTYPE D [<!ELEMENT D - - (#PCDATA)><!ENTITY e \"y\">]>") ++ (whole_record (codes "<D>&e") ++ (whole_record (codes "x</D>")))) AtFinish (StartLine (codes "D") ∷ (chars (codes "yx") ∷ (FinishLine (codes "D") ∷ (ConformingLine ∷ []))))

abbrev pub recursive_entity : Document
recursive_entity = comes usual (whole_record (codes "<!DOCTYPE D [<!ELEMENT D - - (#PCDATA)><!ENTITY a \"&a;\">]>") ++ (whole_record (codes "<D>&a;</D>"))) (AtStop reason.Recursive) (StartLine (codes "D") ∷ [])

abbrev pub ignored_sections : Document
ignored_sections = comes usual (whole_record (codes "<!DOCTYPE D [<!ELEMENT D - - (#PCDATA)>]>") ++ (whole_record (codes "<D><![IGNORE[ a <![CDATA[ b ]]> c ]]>d</D>"))) AtFinish (StartLine (codes "D") ∷ (chars (codes "d") ∷ (FinishLine (codes "D") ∷ (ConformingLine ∷ []))))

abbrev pub no_current_value : Document
no_current_value = comes usual (whole_record (codes "<!DOCTYPE D [<!ELEMENT D - - (P+)><!ELEMENT P - O (#PCDATA)><!ATTLIST P X (U|V) #CURRENT>]>") ++ (whole_record (codes "<D><P>a</D>"))) (AtStop reason.NoCurrent) (StartLine (codes "D") ∷ [])

abbrev pub current_value : Document
current_value = comes usual (whole_record (codes "<!DOCTYPE D [<!ELEMENT D - - (P+)><!ELEMENT P - O (#PCDATA)><!ATTLIST P X (U|V) #CURRENT>]>") ++ (whole_record (codes "<D><P X=u>a<P>b</D>"))) AtFinish (StartLine (codes "D") ∷ (TokenLine (codes "X") (codes "U" ∷ []) ∷ (StartLine (codes "P") ∷ (chars (codes "a") ∷ (FinishLine (codes "P") ∷ (TokenLine (codes "X") (codes "U" ∷ []) ∷ (StartLine (codes "P") ∷ (chars (codes "b") ∷ (FinishLine (codes "P") ∷ (FinishLine (codes "D") ∷ (ConformingLine ∷ [])))))))))))

abbrev pub model_of_33_names : Document
model_of_33_names = comes usual (whole_record (codes "<!SGML \"ISO 8879:1986\"") ++ (whole_record (codes "CHARSET BASESET \"ISO 646:1983//CHARSET International Reference Version (IRV)//ESC 2/5 4/0\"") ++ (whole_record (codes "DESCSET 0 9 UNUSED 9 2 9 11 2 UNUSED 13 1 13 14 18 UNUSED 32 95 32 127 1 UNUSED") ++ (whole_record (codes "CAPACITY PUBLIC \"ISO 8879:1986//CAPACITY Reference//EN\"") ++ (whole_record (codes "SCOPE DOCUMENT") ++ (whole_record (codes "SYNTAX PUBLIC \"ISO 8879:1986//SYNTAX Reference//EN\"") ++ (whole_record (codes "FEATURES") ++ (whole_record (codes "MINIMIZE DATATAG NO OMITTAG NO RANK NO SHORTTAG YES") ++ (whole_record (codes "LINK SIMPLE NO IMPLICIT NO EXPLICIT NO") ++ (whole_record (codes "OTHER CONCUR NO SUBDOC NO FORMAL NO") ++ (whole_record (codes "APPINFO NONE>") ++ (whole_record (codes "<!DOCTYPE D [<!ELEMENT D - - (A00|A01|A02|A03|A04|A05|A06|A07|A08|A09|A10|A11|A12|A13|A14|A15|A16|A17|A18|A19|A20|A21|A22|A23|A24|A25|A26|A27|A28|A29|A30|A31|A32)>"))))))))))))) (AtStop reason.GroupLimit) ([])

abbrev pub name_of_9_characters : Document
name_of_9_characters = comes usual (whole_record (codes "<!SGML \"ISO 8879:1986\"") ++ (whole_record (codes "CHARSET BASESET \"ISO 646:1983//CHARSET International Reference Version (IRV)//ESC 2/5 4/0\"") ++ (whole_record (codes "DESCSET 0 9 UNUSED 9 2 9 11 2 UNUSED 13 1 13 14 18 UNUSED 32 95 32 127 1 UNUSED") ++ (whole_record (codes "CAPACITY PUBLIC \"ISO 8879:1986//CAPACITY Reference//EN\"") ++ (whole_record (codes "SCOPE DOCUMENT") ++ (whole_record (codes "SYNTAX PUBLIC \"ISO 8879:1986//SYNTAX Reference//EN\"") ++ (whole_record (codes "FEATURES") ++ (whole_record (codes "MINIMIZE DATATAG NO OMITTAG NO RANK NO SHORTTAG YES") ++ (whole_record (codes "LINK SIMPLE NO IMPLICIT NO EXPLICIT NO") ++ (whole_record (codes "OTHER CONCUR NO SUBDOC NO FORMAL NO") ++ (whole_record (codes "APPINFO NONE>") ++ (whole_record (codes "<!DOCTYPE D [<!ELEMENT ABCDEFGHI - - (A)>"))))))))))))) (AtStop reason.NameLength) ([])

abbrev pub short_references_mapped : Document
short_references_mapped = comes usual (whole_record (codes "<!DOCTYPE D [<!ELEMENT D O O (P+)><!ELEMENT P O O (#PCDATA)><!ENTITY np \"<P>\"><!SHORTREF m \"&#RS;&#RE;\" np><!USEMAP m D>]>") ++ (whole_record (codes "<P>a") ++ (whole_record (codes "") ++ (whole_record (codes "b"))))) AtFinish (StartLine (codes "D") ∷ (StartLine (codes "P") ∷ (chars (codes "a") ∷ (FinishLine (codes "P") ∷ (StartLine (codes "P") ∷ (chars (codes "b") ∷ (FinishLine (codes "P") ∷ (FinishLine (codes "D") ∷ (ConformingLine ∷ [])))))))))

abbrev pub specific_data : Document
specific_data = comes usual (whole_record (codes "<!DOCTYPE D [<!ELEMENT D - - (#PCDATA)><!ENTITY copy SDATA \"[copy  ]\">]>") ++ (whole_record (codes "<D>&copy; 1986</D>"))) AtFinish (StartLine (codes "D") ∷ (CharsLine (Barred (codes "[copy  ]") ∷ map (λ b. Plain b) (codes " 1986")) ∷ (FinishLine (codes "D") ∷ (ConformingLine ∷ []))))

abbrev pub no_document_type : Document
no_document_type = comes usual ([]) (AtStop reason.NoDoctype) ([])

abbrev pub no_document_element : Document
no_document_element = comes usual (whole_record (codes "<!DOCTYPE D [<!ELEMENT D O O (T?,P+)><!ELEMENT (T|P) O O (#PCDATA)>]>")) (AtStop reason.Unfinished) ([])

abbrev pub absent_external_subset : Document
absent_external_subset = comes usual (whole_record (codes "<!DOCTYPE D SYSTEM \"d.dtd\">") ++ (whole_record (codes "<D>"))) (AtStop reason.Absent) ([])

abbrev pub undeclared_entity : Document
undeclared_entity = comes usual (whole_record (codes "<!DOCTYPE D [<!ELEMENT D - - (#PCDATA)>]>") ++ (whole_record (codes "<D>&zz;</D>"))) (AtStop reason.Undeclared) (StartLine (codes "D") ∷ [])

abbrev pub concurrent_types : Document
concurrent_types = comes usual (whole_record (codes "<!SGML \"ISO 8879:1986\"") ++ (whole_record (codes "CHARSET BASESET \"ISO 646:1983//CHARSET International Reference Version (IRV)//ESC 2/5 4/0\"") ++ (whole_record (codes "DESCSET 0 9 UNUSED 9 2 9 11 2 UNUSED 13 1 13 14 18 UNUSED 32 95 32 127 1 UNUSED") ++ (whole_record (codes "CAPACITY PUBLIC \"ISO 8879:1986//CAPACITY Reference//EN\"") ++ (whole_record (codes "SCOPE DOCUMENT") ++ (whole_record (codes "SYNTAX PUBLIC \"ISO 8879:1986//SYNTAX Reference//EN\"") ++ (whole_record (codes "FEATURES") ++ (whole_record (codes "MINIMIZE DATATAG NO OMITTAG NO RANK NO SHORTTAG YES") ++ (whole_record (codes "LINK SIMPLE NO IMPLICIT NO EXPLICIT NO") ++ (whole_record (codes "OTHER CONCUR YES 1 SUBDOC NO FORMAL NO") ++ (whole_record (codes "APPINFO NONE>") ++ (whole_record (codes "<!DOCTYPE D [<!ELEMENT D - - (P+)><!ELEMENT P - - (#PCDATA)>]>"))))))))))))) (AtStop reason.ConcurOut) ([])

abbrev pub data_entity : Document
data_entity = comes usual (whole_record (codes "<!DOCTYPE D [<!ELEMENT D - O EMPTY><!NOTATION cgm PUBLIC \"-//X//NOTATION CGM//EN\"><!ENTITY pic SYSTEM \"pic.cgm\" NDATA cgm><!ATTLIST D F ENTITY #REQUIRED>]>") ++ (whole_record (codes "<D F=pic>"))) AtFinish (PublicLine (codes "-//X//NOTATION CGM//EN") ∷ (DefineNotation (codes "CGM") ∷ (SystemLine (codes "pic.cgm") ∷ (DefineExternal (codes "pic") Ndata (codes "CGM") ∷ (EntityLine (codes "F") (codes "pic" ∷ []) ∷ (StartLine (codes "D") ∷ (FinishLine (codes "D") ∷ (ConformingLine ∷ []))))))))

abbrev pub section_end_alone : Document
section_end_alone = comes usual (whole_record (codes "<!DOCTYPE D [<!ELEMENT D - - (#PCDATA)>]>") ++ (whole_record (codes "<D>a]]>b</D>"))) (AtStop reason.SectionNone) (StartLine (codes "D") ∷ (chars (codes "a") ∷ []))

abbrev pub expansion_passed : Document
expansion_passed = comes narrow (whole_record (codes "<!DOCTYPE D [<!ELEMENT D - - (#PCDATA)><!ENTITY e \"yz\">]>") ++ (whole_record (codes "<D>&e") ++ (whole_record (codes "x</D>")))) (AtStop reason.Expansion) (StartLine (codes "D") ∷ [])

abbrev pub section_in_subset : Document
section_in_subset = comes usual (whole_record (codes "<!DOCTYPE D [<!ENTITY % i \"IGNORE\"><![ %i; [<!ELEMENT D - - (X)>]]><!ELEMENT D - - (#PCDATA)>]>") ++ (whole_record (codes "<D>a</D>"))) AtFinish (StartLine (codes "D") ∷ (chars (codes "a") ∷ (FinishLine (codes "D") ∷ (ConformingLine ∷ []))))

abbrev pub declarations_in_an_entity : Document
declarations_in_an_entity = comes usual (whole_record (codes "<!DOCTYPE D [<!ENTITY % x \"<!ELEMENT D - - (#PCDATA)>\">%x;]>") ++ (whole_record (codes "<D>a</D>"))) AtFinish (StartLine (codes "D") ∷ (chars (codes "a") ∷ (FinishLine (codes "D") ∷ (ConformingLine ∷ []))))

abbrev pub literal_with_a_reference : Document
literal_with_a_reference = comes usual (whole_record (codes "<!DOCTYPE D [<!ELEMENT D - O EMPTY><!ENTITY e \"bc\"><!ATTLIST D F CDATA #REQUIRED>]>") ++ (whole_record (codes "<D F=\"a&e;d\">"))) AtFinish (CdataLine (codes "F") (map (λ b. Plain b) (codes "abcd")) ∷ (StartLine (codes "D") ∷ (FinishLine (codes "D") ∷ (ConformingLine ∷ []))))

abbrev pub unknown_attribute : Document
unknown_attribute = comes usual (whole_record (codes "<!DOCTYPE D [<!ELEMENT D - - (#PCDATA)>]>") ++ (whole_record (codes "<D F=x>a</D>"))) (AtStop reason.UnknownAttribute) ([])

abbrev pub undeclared_in_literal : Document
undeclared_in_literal = comes usual (whole_record (codes "<!DOCTYPE D [<!ELEMENT D - O EMPTY><!ATTLIST D F CDATA #REQUIRED>]>") ++ (whole_record (codes "<D F=\"a&e;d\">"))) (AtStop reason.Undeclared) ([])

abbrev pub map_used_in_content : Document
map_used_in_content = comes usual (whole_record (codes "<!DOCTYPE D [<!ELEMENT D O O (#PCDATA)><!ENTITY np \"z\"><!SHORTREF m \"+\" np>]>") ++ (whole_record (codes "<D>a+<!USEMAP m>b+c</D>"))) AtFinish (StartLine (codes "D") ∷ (chars (codes "a+bzc") ∷ (FinishLine (codes "D") ∷ (ConformingLine ∷ []))))

abbrev pub second_sgml_declaration : Document
second_sgml_declaration = comes usual (whole_record (codes "<!SGML \"ISO 8879:1986\"") ++ (whole_record (codes "CHARSET BASESET \"ISO 646:1983//CHARSET International Reference Version (IRV)//ESC 2/5 4/0\"") ++ (whole_record (codes "DESCSET 0 9 UNUSED 9 2 9 11 2 UNUSED 13 1 13 14 18 UNUSED 32 95 32 127 1 UNUSED") ++ (whole_record (codes "CAPACITY PUBLIC \"ISO 8879:1986//CAPACITY Reference//EN\"") ++ (whole_record (codes "SCOPE DOCUMENT") ++ (whole_record (codes "SYNTAX PUBLIC \"ISO 8879:1986//SYNTAX Reference//EN\"") ++ (whole_record (codes "FEATURES") ++ (whole_record (codes "MINIMIZE DATATAG NO OMITTAG NO RANK NO SHORTTAG YES") ++ (whole_record (codes "LINK SIMPLE NO IMPLICIT NO EXPLICIT NO") ++ (whole_record (codes "OTHER CONCUR NO SUBDOC NO FORMAL NO") ++ (whole_record (codes "APPINFO NONE>") ++ (whole_record (codes "<!SGML \"ISO 8879:1986\"") ++ (whole_record (codes "CHARSET BASESET \"ISO 646:1983//CHARSET International Reference Version (IRV)//ESC 2/5 4/0\"") ++ (whole_record (codes "DESCSET 0 9 UNUSED 9 2 9 11 2 UNUSED 13 1 13 14 18 UNUSED 32 95 32 127 1 UNUSED") ++ (whole_record (codes "CAPACITY PUBLIC \"ISO 8879:1986//CAPACITY Reference//EN\"") ++ (whole_record (codes "SCOPE DOCUMENT") ++ (whole_record (codes "SYNTAX PUBLIC \"ISO 8879:1986//SYNTAX Reference//EN\"") ++ (whole_record (codes "FEATURES") ++ (whole_record (codes "MINIMIZE DATATAG NO OMITTAG NO RANK NO SHORTTAG YES") ++ (whole_record (codes "LINK SIMPLE NO IMPLICIT NO EXPLICIT NO") ++ (whole_record (codes "OTHER CONCUR NO SUBDOC NO FORMAL NO") ++ (whole_record (codes "APPINFO NONE>") ++ (whole_record (codes "<!DOCTYPE D [<!ELEMENT D - - (P+)><!ELEMENT P - - (#PCDATA)>]>")))))))))))))))))))))))) (AtStop reason.NoDoctype) ([])

abbrev pub sgml_declaration_in_subset : Document
sgml_declaration_in_subset = comes usual (whole_record (codes "<!DOCTYPE D [") ++ (whole_record (codes "<!SGML \"x\">"))) (AtStop reason.DeclarationSyntax) ([])

abbrev pub cut_document : Document
cut_document = comes_cut usual ((10 ∷ codes "<!DOCTYPE D [<!ELEMENT D - - (#PCDATA)>]><D>a</")) (AtStop reason.EntityTooLarge) (StartLine (codes "D") ∷ (chars (codes "a") ∷ []))

abbrev pub report_with_catalog : Document
report_with_catalog = comes report (whole_record (codes "<!DOCTYPE report PUBLIC \"-//Example//DTD Report//EN\">") ++ (whole_record (codes "Annual report") ++ (whole_record (codes "<sect id=s1 final>Results") ++ (whole_record (codes "<para>All <em>well</em>.<note>Checked.</note>") ++ (whole_record (codes "<list>") ++ (whole_record (codes "<item>One") ++ (whole_record (codes "<item>Two") ++ (whole_record (codes "</list>") ++ ((10 ∷ codes "&chap;")))))))))) AtFinish (StartLine (codes "REPORT") ∷ (StartLine (codes "TITLE") ∷ (chars (codes "Annual report") ∷ (FinishLine (codes "TITLE") ∷ (TokenLine (codes "ID") (codes "S1" ∷ []) ∷ (TokenLine (codes "STATUS") (codes "FINAL" ∷ []) ∷ (StartLine (codes "SECT") ∷ (StartLine (codes "TITLE") ∷ (chars (codes "Results") ∷ (FinishLine (codes "TITLE") ∷ (StartLine (codes "PARA") ∷ (chars (codes "All ") ∷ (StartLine (codes "EM") ∷ (chars (codes "well") ∷ (FinishLine (codes "EM") ∷ (chars (codes ".") ∷ (StartLine (codes "NOTE") ∷ (chars (codes "Checked.") ∷ (FinishLine (codes "NOTE") ∷ (FinishLine (codes "PARA") ∷ (StartLine (codes "LIST") ∷ (StartLine (codes "ITEM") ∷ (StartLine (codes "PARA") ∷ (chars (codes "One") ∷ (FinishLine (codes "PARA") ∷ (FinishLine (codes "ITEM") ∷ (StartLine (codes "ITEM") ∷ (StartLine (codes "PARA") ∷ (chars (codes "Two") ∷ (FinishLine (codes "PARA") ∷ (FinishLine (codes "ITEM") ∷ (FinishLine (codes "LIST") ∷ (FinishLine (codes "SECT") ∷ (ImpliedLine (codes "ID") ∷ (TokenLine (codes "STATUS") (codes "DRAFT" ∷ []) ∷ (StartLine (codes "SECT") ∷ (StartLine (codes "TITLE") ∷ (chars (codes "Outlook") ∷ (FinishLine (codes "TITLE") ∷ (StartLine (codes "PARA") ∷ (chars (codes "Good.") ∷ (FinishLine (codes "PARA") ∷ (FinishLine (codes "SECT") ∷ (FinishLine (codes "REPORT") ∷ (ConformingLine ∷ [])))))))))))))))))))))))))))))))))))))))))))))

abbrev pub no_sgml_character : Document
no_sgml_character = comes usual (whole_record (codes "<!DOCTYPE D [<!ELEMENT D - - (#PCDATA)>]>") ++ (whole_record ((codes "<D>a" ++ (1 ∷ codes "b</D>"))))) (AtStop reason.NonSgml) (StartLine (codes "D") ∷ (chars (codes "a") ∷ []))

abbrev pub unclosed_comment : Document
unclosed_comment = comes usual (whole_record (codes "<!DOCTYPE D [<!-- x")) (AtStop reason.Unclosed) ([])

abbrev pub unclosed_tag : Document
unclosed_tag = comes usual (whole_record (codes "<!DOCTYPE D [<!ELEMENT D - - (#PCDATA)>]>") ++ (whole_record (codes "<D"))) (AtStop reason.Unclosed) ([])

abbrev pub unclosed_instruction : Document
unclosed_instruction = comes usual (whole_record (codes "<?x")) (AtStop reason.Unclosed) ([])

abbrev pub unclosed_declaration_before_type : Document
unclosed_declaration_before_type = comes usual (whole_record (codes "<!ELEMENT x")) (AtStop reason.NoDoctype) ([])

abbrev pub tag_of_no_form : Document
tag_of_no_form = comes usual (whole_record (codes "<!DOCTYPE D [<!ELEMENT D - - (#PCDATA)>]>") ++ (whole_record (codes "<D x=>a</D>"))) (AtStop reason.TagSyntax) ([])

abbrev pub unknown_declaration : Document
unknown_declaration = comes usual (whole_record (codes "<!DOCTYPE D [<!ELEMENT D - - (#PCDATA)><!FOO x>]>") ++ (whole_record (codes "<D>a</D>"))) (AtStop reason.DeclarationSyntax) ([])

abbrev pub text_in_subset : Document
text_in_subset = comes usual (whole_record (codes "<!DOCTYPE D [<!ELEMENT D - - (#PCDATA)>x]>") ++ (whole_record (codes "<D>a</D>"))) (AtStop reason.DeclarationSyntax) ([])

abbrev pub second_document_type : Document
second_document_type = comes usual (whole_record (codes "<!DOCTYPE D [<!ELEMENT D - - (#PCDATA)><!DOCTYPE E>]>") ++ (whole_record (codes "<D>a</D>"))) (AtStop reason.DeclarationPlace) ([])

abbrev pub element_declared_in_content : Document
element_declared_in_content = comes usual (whole_record (codes "<!DOCTYPE D [<!ELEMENT D - - (#PCDATA)>]>") ++ (whole_record (codes "<D><!ELEMENT X - - (Y)></D>"))) (AtStop reason.DeclarationPlace) (StartLine (codes "D") ∷ [])

abbrev pub data_section_in_subset : Document
data_section_in_subset = comes usual (whole_record (codes "<!DOCTYPE D [<!ELEMENT D - - (#PCDATA)><![CDATA[x]]>]>") ++ (whole_record (codes "<D>a</D>"))) (AtStop reason.DeclarationPlace) ([])

abbrev pub map_used_outside_elements : Document
map_used_outside_elements = comes usual (whole_record (codes "<!DOCTYPE D [<!ELEMENT D - - (#PCDATA)>]>") ++ (whole_record (codes "<!USEMAP m>"))) (AtStop reason.DeclarationPlace) ([])

abbrev pub link_type : Document
link_type = comes usual (whole_record (codes "<!DOCTYPE D [<!ELEMENT D - - (#PCDATA)><!LINKTYPE x>]>") ++ (whole_record (codes "<D>a</D>"))) (AtStop reason.LinkOut) ([])

abbrev pub subdocument : Document
subdocument = comes usual (whole_record (codes "<!DOCTYPE D [<!ELEMENT D - - (#PCDATA)><!ENTITY e SYSTEM \"x\" SUBDOC>]>") ++ (whole_record (codes "<D>a</D>"))) (AtStop reason.SubdocOut) ([])

abbrev pub data_attributes : Document
data_attributes = comes usual (whole_record (codes "<!DOCTYPE D [<!ELEMENT D - - (#PCDATA)><!ATTLIST #NOTATION n x CDATA #IMPLIED>]>") ++ (whole_record (codes "<D>a</D>"))) (AtStop reason.OtherOut) ([])

abbrev pub character_number : Document
character_number = comes usual (whole_record (codes "<!DOCTYPE D [<!ELEMENT D - - (#PCDATA)>]>") ++ (whole_record (codes "<D>a&#256;b</D>"))) (AtStop reason.CharNumber) (StartLine (codes "D") ∷ (chars (codes "a") ∷ []))

abbrev pub unknown_function : Document
unknown_function = comes usual (whole_record (codes "<!DOCTYPE D [<!ELEMENT D - - (#PCDATA)>]>") ++ (whole_record (codes "<D>a&#XX;b</D>"))) (AtStop reason.CharNumber) (StartLine (codes "D") ∷ (chars (codes "a") ∷ []))

abbrev pub data_entity_as_parameter : Document
data_entity_as_parameter = comes usual (whole_record (codes "<!DOCTYPE D [<!ELEMENT D - - (#PCDATA)><!ENTITY % p CDATA \"x\">%p;]>") ++ (whole_record (codes "<D>a</D>"))) (AtStop reason.EntityKind) ([])

abbrev pub instruction_in_rcdata : Document
instruction_in_rcdata = comes usual (whole_record (codes "<!DOCTYPE D [<!ELEMENT D - - RCDATA><!ENTITY i PI \"x\">]>") ++ (whole_record (codes "<D>a&i;</D>"))) (AtStop reason.EntityKind) (StartLine (codes "D") ∷ (chars (codes "a") ∷ []))

abbrev pub undeclared_parameter_entity : Document
undeclared_parameter_entity = comes usual (whole_record (codes "<!DOCTYPE D [<!ELEMENT D - - (#PCDATA)>%p;]>") ++ (whole_record (codes "<D>a</D>"))) (AtStop reason.Undeclared) ([])

abbrev pub recursive_parameter_entity : Document
recursive_parameter_entity = comes usual (whole_record (codes "<!DOCTYPE D [<!ELEMENT D - - (#PCDATA)><!ENTITY % p \"%p;\">%p;]>") ++ (whole_record (codes "<D>a</D>"))) (AtStop reason.Undeclared) ([])

abbrev pub unknown_status : Document
unknown_status = comes usual (whole_record (codes "<!DOCTYPE D [<!ELEMENT D - - (#PCDATA)>]>") ++ (whole_record (codes "<D>a<![FOO[b]]></D>"))) (AtStop reason.StatusUnknown) (StartLine (codes "D") ∷ (chars (codes "a") ∷ []))

abbrev pub section_open_at_end : Document
section_open_at_end = comes usual (whole_record (codes "<!DOCTYPE D [<!ELEMENT D - - (#PCDATA)>]>") ++ (whole_record (codes "<D>a<![CDATA[b"))) (AtStop reason.SectionOpen) (StartLine (codes "D") ∷ (chars (codes "ab") ∷ []))

abbrev pub section_open_in_subset : Document
section_open_in_subset = comes usual (whole_record (codes "<!DOCTYPE D [<!ELEMENT D - - (#PCDATA)><![INCLUDE[]>")) (AtStop reason.SectionOpen) ([])

abbrev pub bad_group : Document
bad_group = comes usual (whole_record (codes "<!DOCTYPE D [<!ELEMENT D - - (#PCDATA)><!ELEMENT X - - (a,)>]>") ++ (whole_record (codes "<D>a</D>"))) (AtStop reason.BadGroup) ([])

abbrev pub element_twice : Document
element_twice = comes usual (whole_record (codes "<!DOCTYPE D [<!ELEMENT D - - (#PCDATA)><!ELEMENT D - - (a)>]>") ++ (whole_record (codes "<D>a</D>"))) (AtStop reason.ElementTwice) ([])

abbrev pub notation_twice : Document
notation_twice = comes usual (whole_record (codes "<!DOCTYPE D [<!ELEMENT D - - (#PCDATA)><!NOTATION n SYSTEM><!NOTATION n SYSTEM>]>") ++ (whole_record (codes "<D>a</D>"))) (AtStop reason.NotationTwice) ([])

abbrev pub map_twice : Document
map_twice = comes usual (whole_record (codes "<!DOCTYPE D [<!ELEMENT D - - (#PCDATA)><!SHORTREF m \"+\" e><!SHORTREF m \"+\" e>]>") ++ (whole_record (codes "<D>a</D>"))) (AtStop reason.MapTwice) ([])

abbrev pub list_twice : Document
list_twice = comes usual (whole_record (codes "<!DOCTYPE D [<!ELEMENT D - - (#PCDATA)><!ATTLIST D a CDATA #IMPLIED><!ATTLIST D b CDATA #IMPLIED>]>") ++ (whole_record (codes "<D>a</D>"))) (AtStop reason.ListTwice) ([])

abbrev pub attribute_twice : Document
attribute_twice = comes usual (whole_record (codes "<!DOCTYPE D [<!ELEMENT D - - (#PCDATA)><!ATTLIST D a CDATA #IMPLIED a CDATA #IMPLIED>]>") ++ (whole_record (codes "<D>a</D>"))) (AtStop reason.AttributeTwice) ([])

abbrev pub token_twice : Document
token_twice = comes usual (whole_record (codes "<!DOCTYPE D [<!ELEMENT D - - (#PCDATA)><!ATTLIST D a (x|y) #IMPLIED b (y) #IMPLIED>]>") ++ (whole_record (codes "<D>a</D>"))) (AtStop reason.TokenTwice) ([])

abbrev pub id_twice : Document
id_twice = comes usual (whole_record (codes "<!DOCTYPE D [<!ELEMENT D - - (#PCDATA)><!ATTLIST D a ID #IMPLIED b ID #IMPLIED>]>") ++ (whole_record (codes "<D>a</D>"))) (AtStop reason.IdTwice) ([])

abbrev pub id_with_default : Document
id_with_default = comes usual (whole_record (codes "<!DOCTYPE D [<!ELEMENT D - - (#PCDATA)><!ATTLIST D a ID x>]>") ++ (whole_record (codes "<D>a</D>"))) (AtStop reason.IdDefault) ([])

abbrev pub no_short_reference : Document
no_short_reference = comes usual (whole_record (codes "<!DOCTYPE D [<!ELEMENT D - - (#PCDATA)><!SHORTREF m \"xy\" e>]>") ++ (whole_record (codes "<D>a</D>"))) (AtStop reason.NotShortref) ([])

abbrev pub unknown_map_used : Document
unknown_map_used = comes usual (whole_record (codes "<!DOCTYPE D [<!ELEMENT D - - (#PCDATA)><!USEMAP m D>]>") ++ (whole_record (codes "<D>a</D>"))) (AtStop reason.MapUnknown) ([])

abbrev pub unknown_map_in_content : Document
unknown_map_in_content = comes usual (whole_record (codes "<!DOCTYPE D [<!ELEMENT D - - (#PCDATA)>]>") ++ (whole_record (codes "<D>a<!USEMAP m></D>"))) (AtStop reason.MapUnknown) (StartLine (codes "D") ∷ (chars (codes "a") ∷ []))

abbrev pub unknown_notation_of_data : Document
unknown_notation_of_data = comes usual (whole_record (codes "<!DOCTYPE D [<!ELEMENT D - - (#PCDATA)><!ENTITY e SYSTEM \"x\" NDATA n>]>") ++ (whole_record (codes "<D>a</D>"))) (AtStop reason.NotationUnknown) ([])

abbrev pub undefined_element : Document
undefined_element = comes usual (whole_record (codes "<!DOCTYPE D [<!ELEMENT D - - (#PCDATA)>]>") ++ (whole_record (codes "<D>a<X>"))) (AtStop reason.Undefined) (StartLine (codes "D") ∷ (chars (codes "a") ∷ []))

abbrev pub end_of_no_open_element : Document
end_of_no_open_element = comes usual (whole_record (codes "<!DOCTYPE D [<!ELEMENT D - - (P+)><!ELEMENT P - - (#PCDATA)>]>") ++ (whole_record (codes "<D></P></D>"))) (AtStop reason.NotOpen) (StartLine (codes "D") ∷ [])

abbrev pub empty_end_tag_alone : Document
empty_end_tag_alone = comes usual (whole_record (codes "<!DOCTYPE D [<!ELEMENT D - - (#PCDATA)>]>") ++ (whole_record (codes "</>"))) (AtStop reason.NotOpen) ([])

abbrev pub specified_twice : Document
specified_twice = comes usual (whole_record (codes "<!DOCTYPE D [<!ELEMENT D - - (#PCDATA)><!ATTLIST D a CDATA #IMPLIED>]>") ++ (whole_record (codes "<D a=\"x\" a=\"y\">b</D>"))) (AtStop reason.Twice) ([])

abbrev pub no_token : Document
no_token = comes usual (whole_record (codes "<!DOCTYPE D [<!ELEMENT D - - (#PCDATA)><!ATTLIST D a NUMBER #IMPLIED>]>") ++ (whole_record (codes "<D a=x1>b</D>"))) (AtStop reason.NotAToken) ([])

abbrev pub not_in_group : Document
not_in_group = comes usual (whole_record (codes "<!DOCTYPE D [<!ELEMENT D - - (#PCDATA)><!ATTLIST D a (x|y) #IMPLIED>]>") ++ (whole_record (codes "<D a=z>b</D>"))) (AtStop reason.NotInGroup) ([])

abbrev pub other_than_fixed : Document
other_than_fixed = comes usual (whole_record (codes "<!DOCTYPE D [<!ELEMENT D - - (#PCDATA)><!ATTLIST D a CDATA #FIXED \"x\">]>") ++ (whole_record (codes "<D a=\"y\">b</D>"))) (AtStop reason.FixedDiffers) ([])

abbrev pub unknown_data_entity : Document
unknown_data_entity = comes usual (whole_record (codes "<!DOCTYPE D [<!ELEMENT D - - (#PCDATA)><!ATTLIST D a ENTITY #IMPLIED>]>") ++ (whole_record (codes "<D a=y>b</D>"))) (AtStop reason.EntityUnknown) ([])

abbrev pub required_attribute : Document
required_attribute = comes usual (whole_record (codes "<!DOCTYPE D [<!ELEMENT D - - (#PCDATA)><!ATTLIST D a CDATA #REQUIRED>]>") ++ (whole_record (codes "<D>b</D>"))) (AtStop reason.Required) ([])

abbrev pub unknown_notation_value : Document
unknown_notation_value = comes usual (whole_record (codes "<!DOCTYPE D [<!ELEMENT D - - (#PCDATA)><!NOTATION n SYSTEM><!ATTLIST D a NOTATION (n|k) #IMPLIED>]>") ++ (whole_record (codes "<D a=k>b</D>"))) (AtStop reason.NotationUnknown) ([])

abbrev pub excluded_element : Document
excluded_element = comes usual (whole_record (codes "<!DOCTYPE D [<!ELEMENT D - - (P) -(P)><!ELEMENT P - - (#PCDATA)>]>") ++ (whole_record (codes "<D><P>"))) (AtStop reason.Excluded) (StartLine (codes "D") ∷ [])

abbrev pub absent_entity : Document
absent_entity = comes usual (whole_record (codes "<!DOCTYPE D [<!ELEMENT D - - (#PCDATA)><!ENTITY x SYSTEM \"x\">]>") ++ (whole_record (codes "<D>a&x;</D>"))) (AtStop reason.Absent) (StartLine (codes "D") ∷ (chars (codes "a") ∷ []))

abbrev pub absent_in_literal : Document
absent_in_literal = comes usual (whole_record (codes "<!DOCTYPE D [<!ELEMENT D - - (#PCDATA)><!ENTITY x SYSTEM \"x\"><!ATTLIST D a CDATA #IMPLIED>]>") ++ (whole_record (codes "<D a=\"&x;\">b</D>"))) (AtStop reason.Absent) ([])

abbrev pub undefined_before_its_attributes : Document
undefined_before_its_attributes = comes usual (whole_record (codes "<!DOCTYPE D [<!ELEMENT D - - (#PCDATA)>]>") ++ (whole_record (codes "<X a=\"&zz;\">"))) (AtStop reason.Undefined) ([])

abbrev pub walk_before_attributes : Document
walk_before_attributes = comes usual (whole_record (codes "<!DOCTYPE D [<!ELEMENT D - - (P+)><!ELEMENT P - - (#PCDATA)>]>") ++ (whole_record (codes "<P a=\"&zz;\">"))) (AtStop reason.OmitUndeclared) ([])

-- a link type is left out by name, also before the document type
abbrev pub link_before_doctype : Document
link_before_doctype = comes usual (whole_record (codes "<!LINKTYPE L #SIMPLE #IMPLIED>") ++ whole_record (codes "<!DOCTYPE D>")) (AtStop reason.LinkOut) []

abbrev pub element_before_doctype : Document
element_before_doctype = comes usual (whole_record (codes "<!ELEMENT D - - ANY>")) (AtStop reason.NoDoctype) []

-- an SGML declaration that is of a form has no place in content
abbrev pub sgml_declaration_in_content : Document
sgml_declaration_in_content = comes usual (whole_record (codes "<!DOCTYPE D [<!ELEMENT D - - ANY>]>") ++ (whole_record (codes "<D>") ++ short_declaration)) (AtStop reason.DeclarationPlace) (StartLine (codes "D") ∷ [])

abbrev pub no_sgml_declaration_in_content : Document
no_sgml_declaration_in_content = comes usual (whole_record (codes "<!DOCTYPE D [<!ELEMENT D - - ANY>]>") ++ codes "<D><!SGML>") (AtStop reason.DeclarationSyntax) (StartLine (codes "D") ∷ [])

-- a value that was specified last is as the literal was read
abbrev pub current_literal : Document
current_literal =
    comes usual (whole_record (codes "<!DOCTYPE D [<!ELEMENT D - - (P+)><!ELEMENT P - O EMPTY><!ATTLIST P X CDATA #CURRENT Y NAMES #CURRENT>]>") ++ (codes "<D><P X=\"a" ++ (9 ∷ (codes "b\" Y=' u  v '><P></D>"))))
    AtFinish
    (StartLine (codes "D") ∷ (plain_lines ++ (plain_lines ++ (FinishLine (codes "D") ∷ (ConformingLine ∷ [])))))
  where
    plain_lines : List Line
    plain_lines =
        CdataLine (codes "X") (map (λ b. Plain b) (codes "a b")) ∷ (TokenLine (codes "Y") (codes "U" ∷ (codes "V" ∷ []))
        ∷ (StartLine (codes "P") ∷ (FinishLine (codes "P") ∷ [])))

-- a name that is too long ranks before an external subset that is
abbrev pub long_type_name : Document
long_type_name =
    comes (outside_with 1 (λ n. Found (codes "xx"))) (short_declaration ++ codes "<!DOCTYPE ABCDEFGHI SYSTEM>") (AtStop reason.NameLength) []

-- an external text is looked for from the file in which its declaration stands: the innermost one
abbrev pub file_beside : CatalogKind → Name → Name → Option Name
file_beside catalog.Doctype n base = Some (codes "d/")
file_beside kind n base = Some (base ++ n)

abbrev pub text_beside : Name → Fetched
text_beside n =
    if bytes_eq n (codes "d/") then Found (codes "<!ELEMENT D - - (#PCDATA)><!ENTITY b SYSTEM><!ENTITY % p \"<!ENTITY c SYSTEM>\">%p;")
    else if bytes_eq n (codes "fa") then Found (codes "1&b;")
    else if bytes_eq n (codes "d/b") then Found (codes "2")
    else if bytes_eq n (codes "d/c") then Found (codes "3")
    else NotThere

abbrev pub beside : Outside
beside = record { syntax = implied_syntax; expand = 1000; file = codes "f"; resolved = λ kind n external base. file_beside kind n base; fetched = text_beside }

abbrev pub entities_beside : Document
entities_beside =
    comes beside (codes "<!DOCTYPE D SYSTEM [<!ENTITY a SYSTEM>]><D>&a;&c;</D>") AtFinish
    (StartLine (codes "D") ∷ (chars (codes "123") ∷ (FinishLine (codes "D") ∷ (ConformingLine ∷ []))))

-- an attribute that is specified stands for the content
abbrev pub content_reference : Document
content_reference =
    comes usual (codes "<!DOCTYPE D [<!ELEMENT D - - (P,P)><!ELEMENT P - - (#PCDATA)><!ATTLIST P R NAME #CONREF>]><D><P R=x><P>a</P></D>") AtFinish
    (StartLine (codes "D") ∷ (TokenLine (codes "R") (codes "X" ∷ []) ∷ (StartLine (codes "P") ∷ (FinishLine (codes "P") ∷ (ImpliedLine (codes "R")
    ∷ (StartLine (codes "P") ∷ (chars (codes "a") ∷ (FinishLine (codes "P") ∷ (FinishLine (codes "D") ∷ (ConformingLine ∷ []))))))))))

-- #EMPTY maps nothing, and a later use maps again
abbrev pub empty_map : Document
empty_map =
    comes usual (codes "<!DOCTYPE D [<!ELEMENT D O O (#PCDATA)><!ENTITY np \"z\"><!SHORTREF m \"+\" np><!USEMAP m D>]><D>+<!USEMAP #EMPTY>+<!USEMAP m>+</D>")
    AtFinish (StartLine (codes "D") ∷ (chars (codes "z+z") ∷ (FinishLine (codes "D") ∷ (ConformingLine ∷ []))))

-- the keywords of a section may come from entities, with comments between them
abbrev pub section_keywords : Document
section_keywords =
    comes usual (codes "<!DOCTYPE D [<!ELEMENT D - - (#PCDATA)><!ENTITY % i \"RCDATA temp\"><!ENTITY e \"y\">]><D><![ TEMP --x-- %i; INCLUDE [a<b&e;</D>]]>c</D>")
    AtFinish (StartLine (codes "D") ∷ (chars (codes "a<by</D>c") ∷ (FinishLine (codes "D") ∷ (ConformingLine ∷ []))))

-- the texts that a literal and a subset's end open count
abbrev pub expansion_in_literal : Document
expansion_in_literal =
    comes narrow (codes "<!DOCTYPE D [<!ELEMENT D - O EMPTY><!ENTITY e \"b\"><!ATTLIST D F CDATA #REQUIRED>]><D F=\"&e;&e;\">") (AtStop reason.Expansion) []

-- a parameter entity that is an instruction, between declarations
abbrev pub instruction_by_parameter : Document
instruction_by_parameter =
    comes usual (codes "<!DOCTYPE D [<!ENTITY % p PI \"x y\">%p;<!ELEMENT D - - (#PCDATA)>]><D>a</D>") AtFinish
    (PiLine (codes "x y") ∷ (StartLine (codes "D") ∷ (chars (codes "a") ∷ (FinishLine (codes "D") ∷ (ConformingLine ∷ [])))))

-- a `]` that ends no subset is refused at once
abbrev pub bracket_in_external_subset : Document
bracket_in_external_subset = comes (outside_with 1000 (λ n. Found (codes "] "))) (codes "<!DOCTYPE D SYSTEM>") (AtStop reason.DeclarationSyntax) []

abbrev pub bracket_before_doctype : Document
bracket_before_doctype = comes_cut usual (codes "]") (AtStop reason.NoDoctype) []

abbrev pub long_status_keyword : Document
long_status_keyword = comes usual (short_declaration ++ codes "<!DOCTYPE D [<![IGNORE ABCDEFGHI[]]>]>") (AtStop reason.NameLength) []

-- an SGML declaration in content has no place, whatever feature it asks for
abbrev pub feature_in_content : Document
feature_in_content =
    comes usual (codes "<!DOCTYPE D [<!ELEMENT D - - ANY>]><D>" ++ declaration_with (codes "MINIMIZE DATATAG NO OMITTAG NO RANK YES SHORTTAG YES"))
    (AtStop reason.DeclarationPlace) (StartLine (codes "D") ∷ [])

-- that a whole declaration has no place ranks before a reference to no character
abbrev pub place_before_character : Document
place_before_character =
    comes usual (codes "<!DOCTYPE D [<!ELEMENT D - - ANY>]><D><!ENTITY e \"&#999;\">") (AtStop reason.DeclarationPlace) (StartLine (codes "D") ∷ [])

abbrev pub character_before_reference : Document
character_before_reference =
    comes usual (codes "<!DOCTYPE D [<!ELEMENT D - - ANY>]><D><!ENTITY e \"&#999;\" %zz;>") (AtStop reason.CharNumber) (StartLine (codes "D") ∷ [])

-- in an SGML declaration a byte that is no SGML character comes before all else, up to its end
abbrev pub no_character_in_sgml_declaration : Document
no_character_in_sgml_declaration = comes usual (codes "<!SGML junk " ++ (0 ∷ codes ">")) (AtStop reason.NonSgml) []

abbrev pub unended_sgml_declaration : Document
unended_sgml_declaration = comes usual (codes "<!SGML \"ISO 8879:1986\"") (AtStop reason.BadDeclaration) []

-- a reference to no character in a text that a literal opens
abbrev pub no_character_in_literal : Document
no_character_in_literal =
    comes usual (codes "<!DOCTYPE D [<!ELEMENT D - O EMPTY><!ENTITY e \"&#38;#999;\"><!ATTLIST D F CDATA #IMPLIED>]><D F=\"&e;\">") (AtStop reason.CharNumber) []

-- where NAMELEN is 4 and LITLEN is 8
abbrev pub short : Outside
short = record usual { syntax = record implied_syntax { quantities = record implied_quantities { namelen = 4; litlen = 8 } } }

-- LITLEN limits public and system identifiers, too
abbrev pub long_public_identifier : Document
long_public_identifier = comes short (codes "<!DOCTYPE D [<!NOTATION n PUBLIC \"abcdefghi\">]>") (AtStop reason.LiteralLimit) []

abbrev pub long_system_identifier : Document
long_system_identifier = comes short (codes "<!DOCTYPE D [<!ENTITY e SYSTEM \"abcdefghi\">]>") (AtStop reason.LiteralLimit) []

abbrev pub system_identifier_of_8_characters : Document
system_identifier_of_8_characters = comes short (codes "<!DOCTYPE D [<!ENTITY e SYSTEM \"abcdefgh\"><!ENTITY zzzzz \"\">]>") (AtStop reason.NameLength) []

-- a name or a literal that is too long ranks before a reference that can't be replaced
abbrev pub long_name_before_undeclared : Document
long_name_before_undeclared = comes short (codes "<!DOCTYPE D [<!ENTITY abcde %zz; \"x\">]>") (AtStop reason.NameLength) []

abbrev pub long_name_before_data : Document
long_name_before_data = comes short (codes "<!DOCTYPE D [<!ENTITY % p CDATA \"x\"><!ENTITY abcde %p; \"x\">]>") (AtStop reason.NameLength) []

abbrev pub long_name_before_recursion : Document
long_name_before_recursion = comes short (codes "<!DOCTYPE D [<!ENTITY % p \"&#37;q;\"><!ENTITY % q \"&#37;p;\"><!ENTITY abcde \"%p;\">]>") (AtStop reason.NameLength) []

abbrev pub long_literal_before_undeclared : Document
long_literal_before_undeclared = comes short (codes "<!DOCTYPE D [<!ENTITY e \"abcdefghi\" %zz;>]>") (AtStop reason.LiteralLimit) []

abbrev pub long_public_before_undeclared : Document
long_public_before_undeclared = comes short (codes "<!DOCTYPE D [<!ENTITY e PUBLIC \"abcdefghi\" %zz;>]>") (AtStop reason.LiteralLimit) []

abbrev pub long_name_before_long_literal : Document
long_name_before_long_literal = comes short (codes "<!DOCTYPE D [<!ENTITY abcde \"abcdefghi\" %zz;>]>") (AtStop reason.NameLength) []

abbrev pub long_reference_before_long_literal : Document
long_reference_before_long_literal = comes short (codes "<!DOCTYPE D [<!ENTITY e \"abcdefghi\" %zzzzz;>]>") (AtStop reason.NameLength) []

-- a reference to no character, and a text that isn't there, rank before
abbrev pub character_before_long_name : Document
character_before_long_name = comes short (codes "<!DOCTYPE D [<!ENTITY abcde \"&#999;\" %zz;>]>") (AtStop reason.CharNumber) []

abbrev pub absent_before_long_name : Document
absent_before_long_name = comes short (codes "<!DOCTYPE D [<!ENTITY % x SYSTEM \"x\"><!ENTITY abcde %x;>]>") (AtStop reason.Absent) []

-- keywords aren't counted
abbrev pub long_keyword_before_undeclared : Document
long_keyword_before_undeclared = comes short (codes "<!DOCTYPE D [<!NOTATION n SYSTEM %zz;>]>") (AtStop reason.Undeclared) []

-- a default value is judged as it is declared
abbrev pub long_default_before_undeclared : Document
long_default_before_undeclared = comes short (codes "<!DOCTYPE D [<!ATTLIST D a NAME abcde %zz;>]>") (AtStop reason.NameLength) []

abbrev pub long_character_data_before_undeclared : Document
long_character_data_before_undeclared = comes short (codes "<!DOCTYPE D [<!ATTLIST D a CDATA \"a b c d e\" %zz;>]>") (AtStop reason.LiteralLimit) []

abbrev pub word_of_character_data_before_undeclared : Document
word_of_character_data_before_undeclared = comes short (codes "<!DOCTYPE D [<!ATTLIST D a CDATA abcde %zz;>]>") (AtStop reason.Undeclared) []

abbrev pub spaces_before_undeclared : Document
spaces_before_undeclared = comes short (codes "<!DOCTYPE D [<!ATTLIST D a NAMES \"  a  b    \" %zz;>]>") (AtStop reason.Undeclared) []

-- in the head of a document type
abbrev pub long_head_before_undeclared : Document
long_head_before_undeclared = comes short (codes "<!DOCTYPE abcde %zz;>") (AtStop reason.NameLength) []

-- and among status keywords, of which the five aren't counted
abbrev pub long_status_before_undeclared : Document
long_status_before_undeclared = comes short (codes "<!DOCTYPE D [<!ELEMENT D - - ANY>]><D><![ abcde %zz; [") (AtStop reason.NameLength) (StartLine (codes "D") ∷ [])

abbrev pub long_status_in_subset_before_undeclared : Document
long_status_in_subset_before_undeclared = comes short (codes "<!DOCTYPE D [<![ IGNORE abcde %zz; [ ]]>]>") (AtStop reason.NameLength) []

abbrev pub status_keywords_before_undeclared : Document
status_keywords_before_undeclared = comes short (codes "<!DOCTYPE D [<![ IGNORE INCLUDE %zz; [ ]]>]>") (AtStop reason.Undeclared) []

-- EACH LIMIT, each feature that is left out, and each line

-- an SGML declaration that spells the concrete syntax out, and sets these quantities
abbrev pub declaration_setting : Text → Text
declaration_setting quantities = whole_record (codes "<!SGML \"ISO 8879:1986\" CHARSET BASESET \"b\" DESCSET 0 256 0 CAPACITY SGMLREF SCOPE DOCUMENT") ++ (whole_record (codes "SYNTAX SHUNCHAR NONE BASESET \"b\" DESCSET 0 256 0 FUNCTION RE 13 RS 10 SPACE 32 TAB SEPCHAR 9") ++ (whole_record (codes "NAMING LCNMSTRT \"\" UCNMSTRT \"\" LCNMCHAR \"-.\" UCNMCHAR \"-.\" NAMECASE GENERAL YES ENTITY NO") ++ (whole_record (codes "DELIM GENERAL SGMLREF SHORTREF SGMLREF NAMES SGMLREF QUANTITY SGMLREF " ++ quantities) ++ (whole_record (codes "FEATURES MINIMIZE DATATAG NO OMITTAG YES RANK NO SHORTTAG YES LINK SIMPLE NO IMPLICIT NO") ++ whole_record (codes "EXPLICIT NO OTHER CONCUR NO SUBDOC NO FORMAL NO APPINFO NONE>")))))

-- an external identifier resolves to no file
abbrev pub unresolved : Outside
unresolved = record usual { resolved = λ kind n external base. None }

abbrev pub unresolved_subset : Document
unresolved_subset = comes unresolved (whole_record (codes "<!DOCTYPE D SYSTEM>") ++ whole_record (codes "<D>x</D>")) (AtStop reason.Unresolved) []

abbrev pub unresolved_entity : Document
unresolved_entity = comes unresolved (whole_record (codes "<!DOCTYPE D [<!ELEMENT D - - (#PCDATA)><!ENTITY x SYSTEM>]>") ++ whole_record (codes "<D>a&x;</D>")) (AtStop reason.Unresolved) (StartLine (codes "D") ∷ (chars (codes "a") ∷ []))

abbrev pub datatag_asked : Document
datatag_asked = comes usual (declaration_with (codes "MINIMIZE DATATAG YES OMITTAG YES RANK NO SHORTTAG YES")) (AtStop reason.DatatagOut) []

abbrev pub rank_asked : Document
rank_asked = comes usual (declaration_with (codes "MINIMIZE DATATAG NO OMITTAG YES RANK YES SHORTTAG YES")) (AtStop reason.RankOut) []

abbrev pub no_element_levels : Document
no_element_levels = comes usual (declaration_setting (codes "TAGLVL 0")) (AtStop reason.QuantityOut) []

abbrev pub instruction_of_6_characters : Document
instruction_of_6_characters = comes usual (declaration_setting (codes "PILEN 5") ++ (whole_record (codes "<!DOCTYPE D [<!ELEMENT D - - (#PCDATA)>]>") ++ whole_record (codes "<?abcdef><D>x</D>"))) (AtStop reason.PiLength) []

abbrev pub second_entity_level : Document
second_entity_level = comes usual (declaration_setting (codes "ENTLVL 1") ++ (whole_record (codes "<!DOCTYPE D [<!ELEMENT D - - (#PCDATA)><!ENTITY e1 \"&e2;\"><!ENTITY e2 \"&e3;\"><!ENTITY e3 \"&e4;\"><!ENTITY e4 'x'><!ATTLIST D A CDATA #IMPLIED>]>") ++ (10 ∷ codes "<D>&e1;</D>"))) (AtStop reason.EntityLevel) (ImpliedLine (codes "A") ∷ (StartLine (codes "D") ∷ []))

abbrev pub five_tokens_and_a_name : Document
five_tokens_and_a_name = comes usual (declaration_setting (codes "ATTCNT 5") ++ (whole_record (codes "<!DOCTYPE D [<!ELEMENT D - - (#PCDATA)><!ATTLIST D A (t0|t1|t2|t3|t4) #IMPLIED>]>") ++ whole_record (codes "<D>x</D>"))) (AtStop reason.AttrLimit) []

abbrev pub second_element_level : Document
second_element_level = comes usual (declaration_setting (codes "TAGLVL 1") ++ (whole_record (codes "<!DOCTYPE A [<!ELEMENT A O O (A?,E?)><!ELEMENT E - O EMPTY>]>") ++ whole_record (codes "<A><A/"))) (AtStop reason.TagLevel) (StartLine (codes "A") ∷ [])

-- a start-tag may not be left out where the content is declared, or an attribute is required (7.3.1.1)
abbrev pub declared_content_left_out : Document
declared_content_left_out = comes usual (whole_record (codes "<!DOCTYPE D [<!ELEMENT D - - (X)><!ELEMENT X O O CDATA>]>") ++ whole_record (codes "<D>a</D>")) (AtStop reason.NotOmissible) (StartLine (codes "D") ∷ [])

abbrev pub required_attribute_left_out : Document
required_attribute_left_out = comes usual (whole_record (codes "<!DOCTYPE D [<!ELEMENT D - - (X)><!ELEMENT X O O (#PCDATA)><!ATTLIST X A CDATA #REQUIRED>]>") ++ whole_record (codes "<D>a</D>")) (AtStop reason.NotOmissible) (StartLine (codes "D") ∷ [])

-- the last line is that the document conforms, unless an ID comes again or an IDREF has none
abbrev pub repeated_identifier : Document
repeated_identifier = comes usual (whole_record (codes "<!DOCTYPE D [<!ELEMENT D - - (P+)><!ELEMENT P - O (#PCDATA)><!ATTLIST P I ID #IMPLIED>]>") ++ whole_record (codes "<D><P I=a>x<P I=a>y</D>")) AtFinish (StartLine (codes "D") ∷ (TokenLine (codes "I") (codes "A" ∷ []) ∷ (StartLine (codes "P") ∷ (chars (codes "x") ∷ (FinishLine (codes "P") ∷ (TokenLine (codes "I") (codes "A" ∷ []) ∷ (StartLine (codes "P") ∷ (chars (codes "y") ∷ (FinishLine (codes "P") ∷ (FinishLine (codes "D") ∷ []))))))))))

abbrev pub dangling_reference : Document
dangling_reference = comes usual (whole_record (codes "<!DOCTYPE D [<!ELEMENT D - - (P+)><!ELEMENT P - O (#PCDATA)><!ATTLIST P R IDREF #IMPLIED>]>") ++ whole_record (codes "<D><P R=z>a</D>")) AtFinish (StartLine (codes "D") ∷ (TokenLine (codes "R") (codes "Z" ∷ []) ∷ (StartLine (codes "P") ∷ (chars (codes "a") ∷ (FinishLine (codes "P") ∷ (FinishLine (codes "D") ∷ []))))))

abbrev pub application_information : Document
application_information = comes usual (whole_record (codes "<!SGML \"ISO 8879-1986\"") ++ (whole_record (codes "CHARSET BASESET \"b\" DESCSET 0 128 0 128 128 \"high\"") ++ (whole_record (codes "CAPACITY SGMLREF") ++ (whole_record (codes "SCOPE DOCUMENT") ++ (whole_record (codes "SYNTAX PUBLIC \"ISO 8879:1986//SYNTAX Core//EN\"") ++ (whole_record (codes "FEATURES MINIMIZE DATATAG NO OMITTAG YES RANK NO SHORTTAG YES") ++ (whole_record (codes "LINK SIMPLE NO IMPLICIT NO EXPLICIT NO OTHER CONCUR NO SUBDOC NO FORMAL NO") ++ (whole_record (codes "APPINFO \"app info\">") ++ (whole_record (codes "<!DOCTYPE d [") ++ (whole_record (codes "<!ELEMENT D  - - (#PCDATA)>") ++ (whole_record (codes "]>") ++ (whole_record (codes "<d> ") ++ (whole_record (codes "word -<!-- c -->") ++ whole_record (codes "</D>")))))))))))))) AtFinish (AppInfoLine (codes "app info") ∷ (StartLine (codes "D") ∷ (chars (32 ∷ (13 ∷ codes "word -")) ∷ (FinishLine (codes "D") ∷ (ConformingLine ∷ [])))))

abbrev pub specific_data_in_value : Document
specific_data_in_value = comes usual (whole_record (codes "<!DOCTYPE D [<!ELEMENT D - O EMPTY><!NOTATION n SYSTEM 'n'><!ENTITY c CDATA 'c'><!ENTITY s SDATA 's'><!ENTITY x SYSTEM 'x' NDATA n><!ENTITY t 't'><!ENTITY p PI 'p'><!ATTLIST D A ENTITIES c>]>") ++ whole_record (codes "<D A=s>")) AtFinish (DefineInternal (codes "s") Sdata (codes "s") ∷ (EntityLine (codes "A") (codes "s" ∷ []) ∷ (StartLine (codes "D") ∷ (FinishLine (codes "D") ∷ (ConformingLine ∷ [])))))

-- MODES, MAPS AND ENDS, where a wrong definition could hide

-- NET ends replaceable character data, too, and no tag begins in it (7.5.1.3, 9.1)
abbrev pub null_end_tag_in_rcdata : Document
null_end_tag_in_rcdata = comes usual (whole_record (codes "<!DOCTYPE D [<!ELEMENT D - - (P)><!ELEMENT P - - RCDATA><!ENTITY e \"b\">]>") ++ (whole_record (codes "<D><P/a&e;<c/</D>"))) AtFinish (StartLine (codes "D") ∷ (StartLine (codes "P") ∷ (chars (codes "ab<c") ∷ (FinishLine (codes "P") ∷ (FinishLine (codes "D") ∷ (ConformingLine ∷ []))))))

-- a section that is included has no mode of its own (10.4.2)
abbrev pub declared_content_in_included_section : Document
declared_content_in_included_section = comes usual (whole_record (codes "<!DOCTYPE D [<!ELEMENT D - - (P)><!ELEMENT P - - CDATA><!ENTITY e \"b\">]>") ++ (whole_record (codes "<D><![INCLUDE[<P>a&e;</P>]]></D>"))) AtFinish (StartLine (codes "D") ∷ (StartLine (codes "P") ∷ (chars (codes "a&e;") ∷ (FinishLine (codes "P") ∷ (FinishLine (codes "D") ∷ (ConformingLine ∷ []))))))

abbrev pub data_section_in_included_section : Document
data_section_in_included_section = comes usual (whole_record (codes "<!DOCTYPE D [<!ELEMENT D - - (#PCDATA)><!ENTITY e \"b\">]>") ++ (whole_record (codes "<D><![INCLUDE[a<![RCDATA[&e;<D>]]>c]]></D>"))) AtFinish (StartLine (codes "D") ∷ (chars (codes "ab<D>c") ∷ (FinishLine (codes "D") ∷ (ConformingLine ∷ []))))

-- a section ends in the entity in which it began (10.4)
abbrev pub section_ends_outside_its_entity : Document
section_ends_outside_its_entity = comes usual (whole_record (codes "<!DOCTYPE D [<!ELEMENT D - - (#PCDATA)><!ENTITY e \"]]>\">]>") ++ (whole_record (codes "<D><![INCLUDE[a&e;</D>"))) (AtStop reason.SectionNone) (StartLine (codes "D") ∷ (chars (codes "a") ∷ []))

abbrev pub section_open_at_entity_end : Document
section_open_at_entity_end = comes usual (whole_record (codes "<!DOCTYPE D [<!ELEMENT D - - (#PCDATA)><!ENTITY e \"<![INCLUDE[a\">]>") ++ (whole_record (codes "<D>&e;]]></D>"))) (AtStop reason.SectionOpen) (StartLine (codes "D") ∷ (chars (codes "a") ∷ []))

abbrev pub section_around_entities : Document
section_around_entities = comes usual (whole_record (codes "<!DOCTYPE D [<!ELEMENT D - - (#PCDATA)><!ENTITY e \"<![CDATA[&]]>\">]>") ++ (whole_record (codes "<D><![INCLUDE[&e;a&e;]]>b</D>"))) AtFinish (StartLine (codes "D") ∷ (chars (codes "&a&b") ∷ (FinishLine (codes "D") ∷ (ConformingLine ∷ []))))

-- the end of an entity ends a reference in it, without REFC (9.4.5)
abbrev pub reference_at_entity_end : Document
reference_at_entity_end = comes usual (whole_record (codes "<!DOCTYPE D [<!ELEMENT D - - (#PCDATA)><!ENTITY e \"a&f\"><!ENTITY f \"b\">]>") ++ (whole_record (codes "<D>&e;c</D>"))) AtFinish (StartLine (codes "D") ∷ (chars (codes "abc") ∷ (FinishLine (codes "D") ∷ (ConformingLine ∷ []))))

-- separators stand before the document element and after it (7.1, 7.2)
abbrev pub separators_outside_the_document_element : Document
separators_outside_the_document_element = comes usual (whole_record (codes "<!DOCTYPE D [<!ELEMENT D - - (#PCDATA)>]>") ++ (whole_record (codes " ") ++ (whole_record (codes "") ++ (whole_record (codes "  <D>a</D> ") ++ (whole_record (codes " ")))))) AtFinish (StartLine (codes "D") ∷ (chars (codes "a") ∷ (FinishLine (codes "D") ∷ (ConformingLine ∷ []))))

abbrev pub separators_in_element_content : Document
separators_in_element_content = comes usual (whole_record (codes "<!DOCTYPE D [<!ELEMENT D - - (P+)><!ELEMENT P - - (#PCDATA)>]>") ++ (whole_record (codes "<D> <P>a b</P>") ++ (whole_record (codes " <P>c</P> </D>")))) AtFinish (StartLine (codes "D") ∷ (StartLine (codes "P") ∷ (chars (codes "a b") ∷ (FinishLine (codes "P") ∷ (StartLine (codes "P") ∷ (chars (codes "c") ∷ (FinishLine (codes "P") ∷ (FinishLine (codes "D") ∷ (ConformingLine ∷ [])))))))))

-- a map that is used in content is in force up to the end of that element (11.6)
abbrev pub map_of_the_outer_element : Document
map_of_the_outer_element = comes usual (whole_record (codes "<!DOCTYPE D [<!ELEMENT D - - (P+)><!ELEMENT P - - (#PCDATA)><!ENTITY e \"x\"><!ENTITY f \"y\"><!SHORTREF m \"+\" e><!SHORTREF k \"+\" f><!USEMAP m D><!USEMAP k P>]>") ++ (whole_record (codes "<D><P>a+<!USEMAP m>b+</P><P>c+</P></D>"))) AtFinish (StartLine (codes "D") ∷ (StartLine (codes "P") ∷ (chars (codes "aybx") ∷ (FinishLine (codes "P") ∷ (StartLine (codes "P") ∷ (chars (codes "cy") ∷ (FinishLine (codes "P") ∷ (FinishLine (codes "D") ∷ (ConformingLine ∷ [])))))))))

-- a string in a map is a reference to its entity, of whichever kind (9.4.6)
abbrev pub string_for_specific_data : Document
string_for_specific_data = comes usual (whole_record (codes "<!DOCTYPE D [<!ELEMENT D - - (#PCDATA)><!ENTITY s SDATA \"[s]\"><!SHORTREF m \"+\" s><!USEMAP m D>]>") ++ (whole_record (codes "<D>a+b</D>"))) AtFinish (StartLine (codes "D") ∷ (CharsLine (Plain 97 ∷ (Barred (codes "[s]") ∷ (Plain 98 ∷ []))) ∷ (FinishLine (codes "D") ∷ (ConformingLine ∷ []))))

abbrev pub string_for_instruction : Document
string_for_instruction = comes usual (whole_record (codes "<!DOCTYPE D [<!ELEMENT D - - (#PCDATA)><!ENTITY i PI \"x\"><!SHORTREF m \"+\" i><!USEMAP m D>]>") ++ (whole_record (codes "<D>a+b</D>"))) AtFinish (StartLine (codes "D") ∷ (chars (codes "a") ∷ (PiLine (codes "x") ∷ (chars (codes "b") ∷ (FinishLine (codes "D") ∷ (ConformingLine ∷ []))))))

abbrev pub string_for_external_data : Document
string_for_external_data = comes usual (whole_record (codes "<!DOCTYPE D [<!ELEMENT D - - (#PCDATA)><!NOTATION n PUBLIC \"p\"><!ENTITY x SYSTEM \"q\" NDATA n><!SHORTREF m \"+\" x><!USEMAP m D>]>") ++ (whole_record (codes "<D>a+b</D>"))) AtFinish (StartLine (codes "D") ∷ (chars (codes "a") ∷ (PublicLine (codes "p") ∷ (DefineNotation (codes "N") ∷ (SystemLine (codes "q") ∷ (DefineExternal (codes "x") Ndata (codes "N") ∷ (DataRefLine (codes "x") ∷ (chars (codes "b") ∷ (FinishLine (codes "D") ∷ (ConformingLine ∷ []))))))))))

abbrev pub string_for_undeclared_entity : Document
string_for_undeclared_entity = comes usual (whole_record (codes "<!DOCTYPE D [<!ELEMENT D - - (#PCDATA)><!SHORTREF m \"+\" s><!USEMAP m D>]>") ++ (whole_record (codes "<D>a+b</D>"))) (AtStop reason.Undeclared) (StartLine (codes "D") ∷ (chars (codes "a") ∷ []))

-- each map that is used is declared where the document type ends, which is the end of the external subset (11.1, 11.6)
abbrev pub unknown_map_at_external_subset_end : Document
unknown_map_at_external_subset_end = comes (outside_with 1000 (λ n. Found (codes "<!USEMAP m D>"))) (whole_record (codes "<!DOCTYPE D SYSTEM [<!ELEMENT D - - (#PCDATA)>]>") ++ (whole_record (codes "<D>a</D>"))) (AtStop reason.MapUnknown) ([])

abbrev pub instruction_by_reference : Document
instruction_by_reference = comes usual (whole_record (codes "<!DOCTYPE D [<!ELEMENT D - - (#PCDATA)><!ENTITY i PI \"x\">]>") ++ (whole_record (codes "<D>a&i;b</D>"))) AtFinish (StartLine (codes "D") ∷ (chars (codes "a") ∷ (PiLine (codes "x") ∷ (chars (codes "b") ∷ (FinishLine (codes "D") ∷ (ConformingLine ∷ []))))))

abbrev pub characters_by_reference : Document
characters_by_reference = comes usual (whole_record (codes "<!DOCTYPE D [<!ELEMENT D - - (#PCDATA)>]>") ++ (whole_record (codes "<D>a&#98;&#SPACE;&#60;c</D>"))) AtFinish (StartLine (codes "D") ∷ (chars (codes "ab <c") ∷ (FinishLine (codes "D") ∷ (ConformingLine ∷ []))))

abbrev pub temporary_section : Document
temporary_section = comes usual (whole_record (codes "<!DOCTYPE D [<!ELEMENT D - - (#PCDATA)>]>") ++ (whole_record (codes "<D>a<![TEMP[b]]></D>"))) AtFinish (StartLine (codes "D") ∷ (chars (codes "ab") ∷ (FinishLine (codes "D") ∷ (ConformingLine ∷ []))))

-- each with its delimiters around it (10.5.4)
abbrev pub bracketed_texts : Document
bracketed_texts = comes usual (whole_record (codes "<!DOCTYPE D [<!ELEMENT D - - (P)><!ELEMENT P - - (#PCDATA)><!ENTITY s STARTTAG \"P\"><!ENTITY e ENDTAG \"P\"><!ENTITY m MS \"CDATA[<\"><!ENTITY d MD \"-- x --\">]>") ++ (whole_record (codes "<D>&s;a&m;&e;&d;</D>"))) AtFinish (StartLine (codes "D") ∷ (StartLine (codes "P") ∷ (chars (codes "a<") ∷ (FinishLine (codes "P") ∷ (FinishLine (codes "D") ∷ (ConformingLine ∷ []))))))

-- the SGML declaration that a catalog names has NAMECASE GENERAL NO
abbrev pub unfolded : Outside
unfolded = record usual { syntax = record implied_syntax { general_fold = false } }

abbrev pub names_of_the_catalog_syntax : Document
names_of_the_catalog_syntax = comes unfolded (whole_record (codes "<!DOCTYPE d [<!ELEMENT d - - (#PCDATA)>]>") ++ (whole_record (codes "<d>a</d>"))) AtFinish (StartLine (codes "d") ∷ (chars (codes "a") ∷ (FinishLine (codes "d") ∷ (ConformingLine ∷ []))))

abbrev pub other_names_of_the_catalog_syntax : Document
other_names_of_the_catalog_syntax = comes unfolded (whole_record (codes "<!DOCTYPE d [<!ELEMENT d - - (#PCDATA)>]>") ++ (whole_record (codes "<D>a</D>"))) (AtStop reason.Undefined) ([])

-- that the file isn't there ranks before what is against the declaration
abbrev pub absent_before_long_system_identifier : Document
absent_before_long_system_identifier = comes short (codes "<!DOCTYPE D SYSTEM \"abcdefghi\">") (AtStop reason.Absent) []

-- in replaceable character data an entity is text (9.1)
abbrev pub external_data_in_rcdata : Document
external_data_in_rcdata = comes usual (whole_record (codes "<!DOCTYPE D [<!ELEMENT D - - RCDATA><!NOTATION n SYSTEM><!ENTITY x SYSTEM \"q\" NDATA n>]>") ++ (whole_record (codes "<D>a&x;</D>"))) (AtStop reason.EntityKind) (StartLine (codes "D") ∷ (chars (codes "a") ∷ []))

-- BY SUBJECT

-- tags that are left out or short
abbrev pub tags_left_out : List Document
tags_left_out =
    all_tags_present ∷ (four_tags_left_out ∷ (refused_walk_prints_nothing ∷ (null_end_tags ∷ (empty_start_tag ∷ (empty_start_tag_without_omittag ∷ (etago_out_of_context ∷ (no_document_element ∷ (undefined_element ∷ (end_of_no_open_element ∷ (empty_end_tag_alone ∷ (tag_of_no_form ∷ (unclosed_tag ∷ []))))))))))))

-- content models and exceptions
abbrev pub content_models : List Document
content_models =
    ambiguous_model ∷ (optional_then_required ∷ (and_group ∷ (and_group_unfinished ∷ (model_of_33_names ∷ (excluded_element ∷ (bad_group ∷ []))))))

-- record ends
abbrev pub record_ends : List Document
record_ends =
    first_and_last_record_ends ∷ (record_end_after_instruction ∷ (reference_ends_with_record_end ∷ []))

-- references and the texts that they open
abbrev pub references : List Document
references =
    recursive_entity ∷ (undeclared_entity ∷ (specific_data ∷ (data_entity ∷ (expansion_passed ∷ (absent_entity ∷ (character_number ∷ (unknown_function ∷ (instruction_in_rcdata ∷ (entities_beside ∷ (cut_document ∷ []))))))))))

-- parameter references and subsets
abbrev pub parameter_references : List Document
parameter_references =
    absent_external_subset ∷ (declarations_in_an_entity ∷ (data_entity_as_parameter ∷ (undeclared_parameter_entity ∷ (recursive_parameter_entity ∷ (instruction_by_parameter ∷ (report_with_catalog ∷ (bracket_in_external_subset ∷ (bracket_before_doctype ∷ []))))))))

-- marked sections
abbrev pub marked_sections : List Document
marked_sections =
    ignored_sections ∷ (section_end_alone ∷ (section_in_subset ∷ (data_section_in_subset ∷ (unknown_status ∷ (section_open_at_end ∷ (section_open_in_subset ∷ (section_keywords ∷ (long_status_keyword ∷ []))))))))

-- short references and their maps
abbrev pub short_references : List Document
short_references =
    short_references_mapped ∷ (map_used_in_content ∷ (map_used_outside_elements ∷ (no_short_reference ∷ (unknown_map_used ∷ (unknown_map_in_content ∷ (empty_map ∷ []))))))

-- declarations that are refused
abbrev pub declared : List Document
declared =
    element_twice ∷ (notation_twice ∷ (map_twice ∷ (list_twice ∷ (attribute_twice ∷ (token_twice ∷ (id_twice ∷ (id_with_default ∷ (unknown_notation_of_data ∷ (name_of_9_characters ∷ (long_type_name ∷ (subdocument ∷ (data_attributes ∷ (link_type ∷ (link_before_doctype ∷ (unknown_declaration ∷ (text_in_subset ∷ (second_document_type ∷ (element_declared_in_content ∷ (element_before_doctype ∷ (no_document_type ∷ []))))))))))))))))))))

-- attributes and their values
abbrev pub attribute_values : List Document
attribute_values =
    no_current_value ∷ (current_value ∷ (current_literal ∷ (literal_with_a_reference ∷ (unknown_attribute ∷ (undeclared_in_literal ∷ (specified_twice ∷ (no_token ∷ (not_in_group ∷ (other_than_fixed ∷ (unknown_data_entity ∷ (required_attribute ∷ (unknown_notation_value ∷ (absent_in_literal ∷ (undefined_before_its_attributes ∷ (walk_before_attributes ∷ (content_reference ∷ (expansion_in_literal ∷ (no_character_in_literal ∷ []))))))))))))))))))

-- the SGML declaration
abbrev pub sgml_declarations : List Document
sgml_declarations =
    concurrent_types ∷ (second_sgml_declaration ∷ (sgml_declaration_in_subset ∷ (sgml_declaration_in_content ∷ (no_sgml_declaration_in_content ∷ (feature_in_content ∷ (no_character_in_sgml_declaration ∷ (unended_sgml_declaration ∷ [])))))))

-- characters, and pieces that do not end
abbrev pub characters_and_ends : List Document
characters_and_ends =
    no_sgml_character ∷ (unclosed_comment ∷ (unclosed_instruction ∷ (unclosed_declaration_before_type ∷ (place_before_character ∷ (character_before_reference ∷ [])))))

-- names and literals that are too long
abbrev pub lengths : List Document
lengths =
    long_public_identifier ∷ (long_system_identifier ∷ (system_identifier_of_8_characters ∷ (long_name_before_undeclared ∷ (long_name_before_data ∷ (long_name_before_recursion ∷ (long_literal_before_undeclared ∷ (long_public_before_undeclared ∷ (long_name_before_long_literal ∷ (long_reference_before_long_literal ∷ (character_before_long_name ∷ (absent_before_long_name ∷ (long_keyword_before_undeclared ∷ (long_default_before_undeclared ∷ (long_character_data_before_undeclared ∷ (word_of_character_data_before_undeclared ∷ (spaces_before_undeclared ∷ (long_head_before_undeclared ∷ (long_status_before_undeclared ∷ (long_status_in_subset_before_undeclared ∷ (status_keywords_before_undeclared ∷ []))))))))))))))))))))

-- limits, features and lines, one of each
abbrev pub limits : List Document
limits =
    unresolved_subset ∷ (unresolved_entity ∷ (datatag_asked ∷ (rank_asked ∷ (no_element_levels ∷ (instruction_of_6_characters ∷ (second_entity_level ∷ (five_tokens_and_a_name ∷ (second_element_level ∷ (declared_content_left_out ∷ (required_attribute_left_out ∷ (repeated_identifier ∷ (dangling_reference ∷ (application_information ∷ (specific_data_in_value ∷ []))))))))))))))

-- modes, maps and ends
abbrev pub modes_and_ends : List Document
modes_and_ends =
    null_end_tag_in_rcdata ∷ (declared_content_in_included_section ∷ (data_section_in_included_section ∷ (section_ends_outside_its_entity ∷ (section_open_at_entity_end ∷ (section_around_entities ∷ (reference_at_entity_end ∷ (separators_outside_the_document_element ∷ (separators_in_element_content ∷ (map_of_the_outer_element ∷ (string_for_specific_data ∷ (string_for_instruction ∷ (string_for_external_data ∷ (string_for_undeclared_entity ∷ (unknown_map_at_external_subset_end ∷ (instruction_by_reference ∷ (characters_by_reference ∷ (temporary_section ∷ (bracketed_texts ∷ (names_of_the_catalog_syntax ∷ (other_names_of_the_catalog_syntax ∷ (absent_before_long_system_identifier ∷ (external_data_in_rcdata ∷ []))))))))))))))))))))))
