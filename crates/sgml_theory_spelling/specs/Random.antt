-- Documents that were made at random, each with the answer of a plain reading that was written apart.
use Rattle.std.specs.Prelude.{List, [], ◌∷◌, ◌++◌, map, codes}
use Rattle.sgml_scan.specs.text.declared.reason.Reason.TheVariants as reason
use Rattle.sgml_scan.specs.text.declared.data_kind.DataKind.TheVariants.{Cdata, Ndata}
use Rattle.sgml_theory_reading.specs.Names.{Text}
use Rattle.sgml_theory_reading.specs.Lines.{Plain, StartLine, FinishLine, CharsLine, DataRefLine, PiLine, ImpliedLine, CdataLine, NotationLine, EntityLine, TokenLine, DefineNotation, DefineExternal, SystemLine, ConformingLine}
use Rattle.sgml_theory_reading.specs.Outcome.{AtFinish, AtStop}
use Rattle.sgml_theory_spelling.specs.Worked.{Document, comes, usual, whole_record}

-- a record without its end
abbrev pub open_record : Text → Text
open_record text = 10 ∷ text

-- tags and content models
abbrev pub random_tags_first : List Document
random_tags_first =
    (comes usual (whole_record (codes "<!DOCTYPE X1 [ <!ELEMENT x1  - - (#PCDATA)* +(x1|t-u)> <!ELEMENT t-u - O EMPTY> ]><x1>") ++ (whole_record (codes "</x1>") ++ (open_record (codes "<!-- after -->"))))
    AtFinish
    (StartLine (codes "X1") ∷ (FinishLine (codes "X1") ∷ (ConformingLine ∷ []))))
    ∷ ((comes usual (whole_record (codes "<!DOCTYPE w [") ++ (whole_record (codes "<!ELEMENT w O O  ANY>") ++ (whole_record (codes "<!ELEMENT d O O RCDATA>") ++ (whole_record (codes "<!ELEMENT note") ++ (whole_record (codes "- O (#PCDATA|q)* +(note)>") ++ (whole_record (codes "]><w></w>")))))))
    AtFinish
    (StartLine (codes "W") ∷ (FinishLine (codes "W") ∷ (ConformingLine ∷ []))))
    ∷ ((comes usual (whole_record (codes "<!DOCTYPE em [<!ELEMENT em - O  (#PCDATA)*><!ELEMENT item - O CDATA>]><em>bcx y<![RCDATA[it's") ++ (whole_record (codes " ]]></>")))
    AtFinish
    (StartLine (codes "EM") ∷ (CharsLine (map (λ b. Plain b) ((codes "bcx yit's") ++ ((13 ∷ []) ++ (codes " ")))) ∷ (FinishLine (codes "EM") ∷ (ConformingLine ∷ [])))))
    ∷ ((comes usual (whole_record (codes "<!DOCTYPE q [") ++ (whole_record (codes "<!ELEMENT q  O O (#PCDATA)>") ++ (whole_record (codes "<!ELEMENT sec - -  (") ++ (whole_record (codes "w+") ++ (whole_record (codes ")? +(t-u)>") ++ (whole_record (codes "<!ELEMENT t-u") ++ (whole_record (codes "O - (") ++ (whole_record (codes "(w+)") ++ (whole_record (codes ")?>") ++ (whole_record (codes "<!ELEMENT w  - O  ( (") ++ (whole_record (codes "p") ++ (whole_record (codes ",") ++ (whole_record (codes "em") ++ (whole_record (codes ") )? -(t-u|em)>") ++ (whole_record (codes "<!ELEMENT p (#PCDATA|em)*>") ++ (whole_record (codes "<!ELEMENT em - - ANY>") ++ (whole_record (codes "]>") ++ (whole_record (codes "<q>") ++ (whole_record (codes "") ++ (whole_record (codes "&#233; <![INCLUDE[]]></q>")))))))))))))))))))))
    AtFinish
    (StartLine (codes "Q") ∷ (CharsLine (map (λ b. Plain b) ((13 ∷ []) ++ ((233 ∷ []) ++ (codes " ")))) ∷ (FinishLine (codes "Q") ∷ (ConformingLine ∷ [])))))
    ∷ ((comes usual (whole_record (codes "<!DOCTYPE B2 [") ++ (whole_record (codes "<!ELEMENT B2 - O ANY>") ++ (whole_record (codes "<!ELEMENT chapter9x - - (x1+,li?) -(x1|chapter9x)>") ++ (whole_record (codes "<!ELEMENT LI") ++ (whole_record (codes "O -  (q?,x1)?>") ++ (whole_record (codes "<!ELEMENT q - O EMPTY>") ++ (whole_record (codes "]>") ++ (whole_record (codes "<b2//")))))))))
    AtFinish
    (StartLine (codes "B2") ∷ (FinishLine (codes "B2") ∷ (ConformingLine ∷ []))))
    ∷ ((comes usual (whole_record (codes "<!DOCTYPE chapter9x [<!ELEMENT chapter9x") ++ (whole_record (codes "O - ANY +(chapter9x|sec)><!ELEMENT sec - - (#PCDATA|sec)*>]>") ++ (whole_record (codes "<sec><sec></sec</sec></chapter9x>"))))
    AtFinish
    (StartLine (codes "CHAPTER9X") ∷ (StartLine (codes "SEC") ∷ (StartLine (codes "SEC") ∷ (FinishLine (codes "SEC") ∷ (FinishLine (codes "SEC") ∷ (FinishLine (codes "CHAPTER9X") ∷ (ConformingLine ∷ []))))))))
    ∷ ((comes usual (whole_record (codes "<!DOCTYPE em [") ++ (whole_record (codes "<!ELEMENT em  - - ( #PCDATA & a.b )>") ++ (whole_record (codes "<!ELEMENT a.b - O EMPTY>") ++ (whole_record (codes "<!ELEMENT b2 - -  (#PCDATA|b2)*>") ++ (whole_record (codes "<!ATTLIST em E.F NAME \"nm\">") ++ (whole_record (codes "]>") ++ (whole_record (codes "<em>") ++ (whole_record (codes "tx y\"q\"-<!><a.xb></em>")))))))))
    (AtStop reason.Undefined)
    (TokenLine (codes "E.F") ((codes "NM") ∷ []) ∷ (StartLine (codes "EM") ∷ (CharsLine (map (λ b. Plain b) (codes "tx y\"q\"-")) ∷ []))))
    ∷ ((comes usual (whole_record (codes "<!DOCTYPE sec [") ++ (whole_record (codes "<!ELEMENT SEC (#PCDATA) +(sec)>") ++ (whole_record (codes "<!ELEMENT x1 - O EMPTY>") ++ (whole_record (codes "]>") ++ (whole_record (codes "<sec><sec<sec>") ++ (whole_record (codes "<secsec/</sec</sec>") ++ (open_record (codes "</sec<sec>t</sec></SEC<![IGNORE[no]]>t-</sec>"))))))))
    (AtStop reason.Undefined)
    (StartLine (codes "SEC") ∷ (StartLine (codes "SEC") ∷ (StartLine (codes "SEC") ∷ []))))
    ∷ ((comes usual (whole_record (codes "<!DOCTYPE chapter9x [") ++ (whole_record (codes "<!ELEMENT chapter9x") ++ (whole_record (codes "O - ANY>") ++ (whole_record (codes "<!ELEMENT q O - (#PCDATA|q)*>") ++ (whole_record (codes "]><CHAPTER9X>") ++ (whole_record (codes " ")))))))
    (AtStop reason.OmitUndeclared)
    (StartLine (codes "CHAPTER9X") ∷ (CharsLine (map (λ b. Plain b) (codes " ")) ∷ [])))
    ∷ ((comes usual (whole_record (codes "<!DOCTYPE B2 [ <!ELEMENT b2") ++ (whole_record (codes "- - ANY -- about it -- > <!ELEMENT item (#PCDATA)> <!ELEMENT sec") ++ (whole_record (codes "- -  (#PCDATA|w)* -(w) +(sec|item)> <!ELEMENT note - O RCDATA> ]>") ++ (whole_record (codes "<b2/") ++ (whole_record (codes ""))))))
    (AtStop reason.OmitUndeclared)
    (StartLine (codes "B2") ∷ []))
    ∷ ((comes usual (whole_record (codes "<!DOCTYPE x1 [ <!ELEMENT X1  - -") ++ (whole_record (codes "(") ++ (whole_record (codes "#PCDATA") ++ (whole_record (codes "|") ++ (whole_record (codes "p?") ++ (whole_record (codes ")*> <!EATA)NT p - -") ++ (whole_record (codes "(#PCDATA)> <!ELEMENT note - -  (") ++ (whole_record (codes "#PCDATA") ++ (whole_record (codes "|") ++ (whole_record (codes "note") ++ (whole_record (codes ")> <!ELEMENT item - - (#PCDLEME -(p|x1) +(item)> <!ELEMENT q  - -  (#PCDATA)> ]>") ++ (whole_record (codes "<X1>") ++ (whole_record (codes "") ++ (whole_record (codes "<p/") ++ (whole_record (codes "") ++ (whole_record (codes "1.5") ++ (whole_record (codes " ") ++ (whole_record (codes "<?x y") ++ (whole_record (codes "z>\"q\"") ++ (whole_record (codes "/<?pi></X1>")))))))))))))))))))))
    (AtStop reason.DeclarationSyntax)
    [])
    ∷ ((comes usual (whole_record (codes "<!DOCTYPE d [") ++ (whole_record (codes "<!ELEMENT d - -") ++ (whole_record (codes "( li )>") ++ (whole_record (codes "<!ELEMENT em - - (#PCDATA)>") ++ (whole_record (codes "<!ELEMENT chapter9x") ++ (whole_record (codes "- O (#PCDATA)*>") ++ (whole_record (codes "<!ELEMENT note - - (#PCDATA)*>") ++ (whole_record (codes "<!ELEMENT li") ++ (whole_record (codes "O -  (#PCDATA)*>") ++ (whole_record (codes "<!ATTLIST CHAPTER9X e.f  NAME #IMPLIED") ++ (whole_record (codes "c  NAME nm>") ++ (whole_record (codes "<!ATTLIST zz>") ++ (whole_record (codes "]>") ++ (whole_record (codes "<d>") ++ (whole_record (codes "  <!-- a </>--") ++ (whole_record (codes "-- b -->") ++ (whole_record (codes "") ++ (whole_record (codes "</li></>")))))))))))))))))))
    (AtStop reason.DeclarationSyntax)
    [])
    ∷ ((comes usual (whole_record (codes "<!DOCTYPE B2 [") ++ (whole_record (codes "<!ELEMENT b2 O O ( sec+ & li? )>") ++ (whole_record (codes "<!ELEMENT sec - - (#PCDATA)>") ++ (whole_record (codes "<!ELEMENT li - O") ++ (whole_record (codes "(#PCDATA) -- about it -- >") ++ (whole_record (codes "]>") ++ (whole_record (codes "<b2> <sec>&#9;") ++ (whole_record (codes " ") ++ (whole_record (codes " ") ++ (whole_record (codes "") ++ (whole_record (codes "<![IGNORE[n&e1;&e2;&mk;&txt;o]]>") ++ (whole_record (codes "</sec</sec><!></B2 >")))))))))))))
    (AtStop reason.NotOpen)
    (StartLine (codes "B2") ∷ (StartLine (codes "SEC") ∷ (CharsLine (map (λ b. Plain b) ((9 ∷ []) ++ ((13 ∷ []) ++ ((codes " ") ++ ((13 ∷ []) ++ ((codes " ") ++ (13 ∷ []))))))) ∷ (FinishLine (codes "SEC") ∷ [])))))
    ∷ ((comes usual (whole_record (codes "<!DOCTYPE note [<!ELEMENT NOTE - -  ANY +(note)><!ELEMENT chapter9x - - (#PCDATA)>]>") ++ (whole_record (codes " ") ++ (whole_record (codes " ") ++ (open_record (codes "<!></note>")))))
    (AtStop reason.NotOpen)
    [])
    ∷ ((comes usual (whole_record (codes "<hapter9x [") ++ (whole_record (codes "<!ELEMENT chapter9x - -") ++ (whole_record (codes "(#PCDATA)>") ++ (whole_record (codes "<!ELEMENT item - - (item+)? +(chapter9x)>") ++ (whole_record (codes "]>") ++ (whole_record (codes "<chapter9x></chapter9x>")))))))
    (AtStop reason.NoDoctype)
    [])
    ∷ ((comes usual (whole_record (codes "<!DOCTYPE d [<!ELEMENT d O -") ++ (open_record (codes "(#PCDATA|em|p)*><!ELEMENT P - O CDATA><!ELEMENT em - -  (#PCDATA)>]><D<![>x y</d>")))
    (AtStop reason.Unclosed)
    (StartLine (codes "D") ∷ []))
    ∷ [])))))))))))))))

-- tags and content models
abbrev pub random_tags_second : List Document
random_tags_second =
    (comes usual (whole_record (codes "<!DOCTYPE t-u [ <!ELEMENT t-u") ++ (whole_record (codes "- -") ++ (whole_record (codes "(#PCDATA)*> <!ELEMENT w O - (#PCDATA)* +(t-u|w)> ]><t-u>a/b&#6<? x>5") ++ (whole_record (codes "") ++ (whole_record (codes "") ++ (whole_record (codes "<<w a=\"x>/>")))))))
    (AtStop reason.Unclosed)
    (StartLine (codes "T-U") ∷ (CharsLine (map (λ b. Plain b) ((codes "a/b") ++ (6 ∷ []))) ∷ (PiLine (codes " x") ∷ (CharsLine (map (λ b. Plain b) ((codes "5") ++ ((13 ∷ []) ++ ((13 ∷ []) ++ ((13 ∷ []) ++ (codes "<")))))) ∷ [])))))
    ∷ ((comes usual (whole_record (codes "<!DOCTYPE w [<!ELEMENT w O -") ++ (whole_record (codes "(#PCDATA)*><!ELEMENT x1") ++ (whole_record (codes "O - CDATA>]>") ++ (whole_record (codes "")))))
    (AtStop reason.Unfinished)
    [])
    ∷ ((comes usual (whole_record (codes "<!DOCTYPE li [") ++ (whole_record (codes "<!ELEMENT li  - -  (note*,Q*,#PCDATA)>") ++ (whole_record (codes "<!ELEMENT chapter9x - - ( ( ( note ) & chapter9x? )? , li , note* )>") ++ (whole_record (codes "<!ELEMENT x1 O - CDATA>") ++ (whole_record (codes "<!ELEMENT q O O (#PCDATA|note)* +(x1)>") ++ (whole_record (codes "<!ELEMENT note") ++ (whole_record (codes "O -  (#PCDATA|note)* +(q)>") ++ (whole_record (codes "]><li></li") ++ (whole_record (codes "<<![CDATA[x]]>?after>"))))))))))
    (AtStop reason.NotAllowed)
    (StartLine (codes "LI") ∷ (FinishLine (codes "LI") ∷ [])))
    ∷ []))

-- tags that are left out
abbrev pub random_omissions : List Document
random_omissions =
    (comes usual (whole_record (codes "<!DOCTYPE sec SYSTEM \"nowhere\" [ <!ELEMENT sec (") ++ (whole_record (codes "d") ++ (whole_record (codes ") +(a.b)> <!ELEMENT li ( ( chapter9x )* )> <!ELEMENT a.b O O (") ++ (whole_record (codes "chapter9x*") ++ (whole_record (codes ")> <!ELEMENT chapter9x - O (#PCDATA|d)* -(chapter9x) +(d)> <!ELEMENT d  O O (#PCDATA)> ]>") ++ (whole_record (codes "<sec><!-- c -->x</sec>")))))))
    (AtStop reason.Absent)
    [])
    ∷ ((comes usual (whole_record (codes "<!DOCTYPE P [") ++ (whole_record (codes "<!ELEMENT p O O") ++ (whole_record (codes "(") ++ (whole_record (codes "t-u*") ++ (whole_record (codes ",") ++ (whole_record (codes "sec+") ++ (whole_record (codes ")*>") ++ (whole_record (codes "<!ELEMENT SEC O O (#PCDATA&note*)>") ++ (whole_record (codes "<!ELEMENT note  O - (#PCDATA)>") ++ (whole_record (codes "]>") ++ (whole_record (codes "<p>"))))))))))))
    AtFinish
    (StartLine (codes "P") ∷ (FinishLine (codes "P") ∷ (ConformingLine ∷ []))))
    ∷ ((comes usual (whole_record (codes "<!DOCTYPE X1 [ <!ELEMENT x1") ++ (whole_record (codes "O O (li) -- about it -- > <!ELEMENT W  O O (LI&#PCDATA)> <!ELEMENT t-u O O ( D* ) +(d)> <!ELEMENT d  - O RCDATA> <!ELEMENT li - O EMPTY> <!ELEMENT b2 O O (#PCDATA)> ]><li>")))
    AtFinish
    (StartLine (codes "X1") ∷ (StartLine (codes "LI") ∷ (FinishLine (codes "LI") ∷ (FinishLine (codes "X1") ∷ (ConformingLine ∷ []))))))
    ∷ ((comes usual (whole_record (codes "<!DOCTYPE x1 [ <!ELEMENT X1") ++ (whole_record (codes "O O (#PCDATA|note)*> <!ELEMENT note  - O  (#PCDATA|li)*> <!ELEMENT li O O") ++ (whole_record (codes "EMPTY> ]>") ++ (whole_record (codes "<x1>")))))
    AtFinish
    (StartLine (codes "X1") ∷ (FinishLine (codes "X1") ∷ (ConformingLine ∷ []))))
    ∷ ((comes usual (whole_record (codes "<!DOCTYPE sec [") ++ (whole_record (codes "<!ELEMENT sec O O (a.b) +(item)>") ++ (whole_record (codes "<!ELEMENT item - O EMPTY>") ++ (whole_record (codes "<!ELEMENT a.b") ++ (whole_record (codes "O O") ++ (whole_record (codes "(#PCDATA) -(sec)>") ++ (whole_record (codes "<!ELEMENT b2 (#PCDATA)*>") ++ (whole_record (codes "]>") ++ (whole_record (codes "") ++ (whole_record (codes "  <A.B></a.b></sec>")))))))))))
    AtFinish
    (StartLine (codes "SEC") ∷ (StartLine (codes "A.B") ∷ (FinishLine (codes "A.B") ∷ (FinishLine (codes "SEC") ∷ (ConformingLine ∷ []))))))
    ∷ ((comes usual (whole_record (codes "<!DOCTYPE sec [ <!ELEMENT sec  O O") ++ (whole_record (codes "(li*,t-u,t-u?)> <!ELEMENT LI O O (T-U?)> <!-- a -- -- b --> <!ELEMENT q O - (t-u) -(li)> <!ELEMENT t-u - O EMPTY> <!ELEMENT A.B O O (#PCDATA)* -(sec|q) +(t-u)> ]> <t-u></sec>")))
    AtFinish
    (StartLine (codes "SEC") ∷ (StartLine (codes "T-U") ∷ (FinishLine (codes "T-U") ∷ (FinishLine (codes "SEC") ∷ (ConformingLine ∷ []))))))
    ∷ ((comes usual (whole_record (codes "<!DOCTYPE t-u [") ++ (whole_record (codes "<!ELEMENT t-u O O") ++ (whole_record (codes "(#PCDATA|q)* +(q)>") ++ (whole_record (codes "]>,")))))
    AtFinish
    (StartLine (codes "T-U") ∷ (CharsLine (map (λ b. Plain b) (codes ",")) ∷ (FinishLine (codes "T-U") ∷ (ConformingLine ∷ [])))))
    ∷ ((comes usual (whole_record (codes "<!DOCTYPE chapter9x [ <!ELEMENT chapter9x O O ANY> <!ELEMENT d O O  (B2*)* +(chapter9x)> <!ELEMENT b2 - O EMPTY> <!ELEMENT t-u O O") ++ (whole_record (codes "(#PCDATA)> <!ELEMENT item O O (#PCDATA)> ]>") ++ (whole_record (codes "  ") ++ (whole_record (codes "")))))
    (AtStop reason.Unfinished)
    [])
    ∷ ((comes usual (whole_record (codes "<!DOCTYPE d [<!ELEMENT D") ++ (whole_record (codes "O O (") ++ (whole_record (codes "Q?") ++ (whole_record (codes "|") ++ (whole_record (codes "( NOTE+ | #PCDATA )") ++ (whole_record (codes ")><!ELEMENT w - O EMPTY><!ELEMENT q") ++ (whole_record (codes "O O (") ++ (whole_record (codes "sec*") ++ (whole_record (codes ",") ++ (whole_record (codes "item") ++ (whole_record (codes ",") ++ (whole_record (codes "sec+") ++ (whole_record (codes ",") ++ (whole_record (codes "item+") ++ (whole_record (codes ")><!ELEMENT ITEM  O O RCDATA><!ELEMENT sec") ++ (whole_record (codes "O O (#PCDATA) +(note|item)><!><!ELEMENT note O -") ++ (open_record (codes "(#PCDATA)* +(note|d)>]>"))))))))))))))))))
    (AtStop reason.Unfinished)
    [])
    ∷ ((comes usual (whole_record (codes "<!DOCTYPE em [ <!ELEMENT em O O") ++ (whole_record (codes "(#PCDATA) +(note|q)> <!ELEMENT b2 O O") ++ (whole_record (codes "( t-u | b2 | d+ ) +(em|t-u)> <!ELEMENT t-u  O O") ++ (whole_record (codes "ANY> <!ELEMENT d  O O  (note,q,#PCDATA)> <!ELEMENT q O -  (#PCDATA) +(b2|note)> <!ELEMENT note") ++ (whole_record (codes "O O (#PCDATA)> <!FOO \"bar>") ++ (whole_record (codes "]>") ++ (whole_record (codes "(z)<!-- --") ++ (whole_record (codes "-a --- b -->")))))))))
    (AtStop reason.Unclosed)
    [])
    ∷ ((comes usual (whole_record (codes "<!DOCTYPE x1 [<!ELEMENT X1 O -") ++ (whole_record (codes "ANY><!ELEMENT t-u O -") ++ (whole_record (codes "(#PCDATA)*><!ELEMENT chapter9x O -") ++ (whole_record (codes "(#PCDATA) +(chapter9x)><!ATTLIST zz a NMTOKENS \"\">") ++ (whole_record (codes "]>") ++ (open_record (codes "</T-U>1></X")))))))
    (AtStop reason.NotAToken)
    [])
    ∷ ((comes usual (whole_record (codes "<!DOCTYPE sec ") ++ (whole_record (codes "-</sec>")))
    (AtStop reason.DeclarationSyntax)
    [])
    ∷ ((comes usual (whole_record (codes "<!DOCTYPE x1 [") ++ (whole_record (codes "<!ELEMENT x1 O O  (#PCDATA)* +(em|d)>") ++ (whole_record (codes "<!ELEMENT d  O O  (#PCDATA)>") ++ (whole_record (codes "<!ELEMENT em O O  (#PCDATA|em)*>") ++ (whole_record (codes "<!SHORTREF m1 \"(\" st \"+\" sx>") ++ (whole_record (codes "<!SHORTREF m2 \"*\" sq>") ++ (whole_record (codes "<!ENTITY st \"<d>\">") ++ (whole_record (codes "<!ENTITY et \"</x1>\">") ++ (whole_record (codes "<!ENTITY sx \"sr\">") ++ (whole_record (codes "<!ENTITY sq SDATA \"[sq]\">") ++ (whole_record (codes "<!USEMAP m1 (d|em)>") ++ (whole_record (codes "<!ENTITY zz \"%und;\">") ++ (whole_record (codes "]>") ++ (whole_record (codes "<x1>t]\"q\"(z\"q\"(z)</x1>")))))))))))))))
    (AtStop reason.Undeclared)
    [])
    ∷ ((comes usual (whole_record (codes "<!DOCTYPE d [ <!ELEMENT D O O (#PCDATA)*> <!ELEMENT em - O EMPTY> <!ENTITY % oo \"&#37;oo;\"> %oo;") ++ (whole_record (codes "]><!--t")))
    (AtStop reason.Recursive)
    [])
    ∷ ((comes usual (whole_record (codes "<!DOCTYPE p [ <!ELEMENT p O O") ++ (whole_record (codes "(#PCDATA|note)*> <!ELEMENT chapter9x O O (#PCDATA)> <!ELEMENT note O O (#PCDATA|note)* +(note|chapter9x)> <!ATTLIST chapter9x b") ++ (whole_record (codes "(w | x.y | 1t) w c CDATA \"&#65;&#10;x\"> ]>") ++ (whole_record (codes "") ++ (whole_record (codes "<p a=1 a=1>t"))))))
    (AtStop reason.UnknownAttribute)
    [])
    ∷ []))))))))))))))

-- attributes
abbrev pub random_attributes : List Document
random_attributes =
    (comes usual (whole_record (codes "<!DOCTYPE t-u [") ++ (whole_record (codes "<!ELEMENT t-u  O O ANY -(sec|chapter9x)>") ++ (whole_record (codes "<!ELEMENT chapter9x - -  (#PCDATA)*>") ++ (whole_record (codes "<!ELEMENT sec  - - (#PCDATA)*>") ++ (whole_record (codes "<!ATTLIST chapter9x e.f  NAME #IMPLIED  D") ++ (whole_record (codes "(v) #IMPLIED>") ++ (whole_record (codes "]>") ++ (whole_record (codes "<!-- before --><chapter9x  d=v>t(z)\"q\"\"q\"") ++ (whole_record (codes " <![INCLUDE[]]>bcword \"q\",&#32; ") ++ (open_record (codes "tbc]]wor")))))))))))
    (AtStop reason.EmptyInferred)
    [])
    ∷ ((comes usual (whole_record (codes "<!DOCTYPE sec [") ++ (whole_record (codes "<!ENTITY e2 CDATA \"\">") ++ (whole_record (codes "<!ENTITY pi1 '&pi1 '>") ++ (whole_record (codes "<!ENTITY % ign \"IGNORE\">") ++ (whole_record (codes "<!ENTITY % inc \"INCLUDE\">") ++ (whole_record (codes "<!ENTITY % pc '#PCDATA'>") ++ (whole_record (codes "<!ELEMENT sec  - -  (#PCDATA)>") ++ (whole_record (codes "<!ELEMENT p") ++ (whole_record (codes "O O  ( a.b* , em , em )>") ++ (whole_record (codes "<!ELEMENT em - - (%pc )*>") ++ (whole_record (codes "<!ELEMENT A.B - O (#PCDATA)*>") ++ (whole_record (codes "<!ATTLIST sec c  IDREFS #IMPLIED>") ++ (whole_record (codes "<!ATTLIST P a ENTITY #CURRENT c CDATA #IMPLIED>") ++ (whole_record (codes "<!ATTLIST a.b d (x.y | zed | u) u>") ++ (whole_record (codes "]><sec>") ++ (whole_record (codes "&e2") ++ (whole_record (codes "(z<p a=\"x>)</sec>") ++ (whole_record (codes "<?after>")))))))))))))))))))
    (AtStop reason.Unclosed)
    (ImpliedLine (codes "C") ∷ (StartLine (codes "SEC") ∷ (CharsLine (map (λ b. Plain b) (codes "(z")) ∷ []))))
    ∷ ((comes usual (whole_record (codes "<!DOCTYPE chapter9x [") ++ (whole_record (codes "<!ELEMENT chapter9x O O  ANY +(w|li)>") ++ (whole_record (codes "<!ELEMENT w") ++ (whole_record (codes "O -  CDATA>") ++ (whole_record (codes "<!ELEMENT li  O - (#PCDATA)>") ++ (whole_record (codes "<!ATTLIST chapter9x b ID #FIXED i9 c") ++ (whole_record (codes "NMTOKEN #IMPLIED e.f NAMES \" n1  n2 \">") ++ (whole_record (codes "<!ATTLIST li D (u | 1t) #IMPLIED>") ++ (whole_record (codes "<!SHORTREF zz>") ++ (whole_record (codes "]>") ++ (whole_record (codes "<chapter9x>x</chapter9x>"))))))))))))
    (AtStop reason.IdDefault)
    [])
    ∷ ((comes usual (whole_record (codes "<!DOCTYPE note [") ++ (whole_record (codes "<!ENTITY sd \"x\">") ++ (whole_record (codes "<!ENTITY e1 '&txt '>") ++ (whole_record (codes "<!NOTATION Cgm PUBLIC \"+//N  Cgm//EN\">") ++ (whole_record (codes "<!NOTATION gif SYSTEM>") ++ (whole_record (codes "<!ENTITY pic SYSTEM  NDATA Cgm>") ++ (whole_record (codes "<!ENTITY snd SYSTEM \"snd.dat\" SDATA gif>") ++ (whole_record (codes "<!ENTITY % inc \"INCLUDE\">") ++ (whole_record (codes "<!ENTITY % pe1 \"em\">") ++ (whole_record (codes "<!ENTITY % pe2 \"note\">") ++ (whole_record (codes "<!ENTITY % ign \"IGNORE\">") ++ (whole_record (codes "<!ELEMENT note  - O") ++ (whole_record (codes "(#PCDATA)>") ++ (whole_record (codes "<!ELEMENT em O - CDATA>") ++ (whole_record (codes "]><note>") ++ (whole_record (codes "") ++ (whole_record (codes "</not<!USEMAP #EMPTY>e>"))))))))))))))))))
    (AtStop reason.Undefined)
    (StartLine (codes "NOTE") ∷ []))
    ∷ ((comes usual (whole_record (codes "<!DOCTYPE x1 [") ++ (whole_record (codes "<!ELEMENT X1  O O") ++ (whole_record (codes "(#PCDATA|x1)* +(q)>") ++ (whole_record (codes "<!ELEMENT sec") ++ (whole_record (codes "- -") ++ (whole_record (codes "(SEC,sec?)>") ++ (whole_record (codes "<!ATTLIST x1 h") ++ (whole_record (codes "NMTOKEN #IMPLIED>") ++ (whole_record (codes "<!ATTLIST q a  NMTOKEN #IMPLIED  g1  NAME nm>") ++ (whole_record (codes "<!ATTLIST sec h") ++ (whole_record (codes "IDREF i2 d IDREFS #IMPLIED>") ++ (whole_record (codes "]>") ++ (whole_record (codes "<X1<q> h=1a//</>"))))))))))))))
    (AtStop reason.Undefined)
    (ImpliedLine (codes "H") ∷ (StartLine (codes "X1") ∷ [])))
    ∷ ((comes usual (whole_record (codes "<!DOCTYPE em SYSTEM \"d.dtd\" [") ++ (whole_record (codes "<!ELEMENT em O O") ++ (whole_record (codes "(#PCDATA)*>") ++ (whole_record (codes "<!ELEMENT t-u") ++ (whole_record (codes "- -") ++ (whole_record (codes "EMPTY>") ++ (whole_record (codes "<!ELEMENT a.b - O (#PCDATA) +(p)>") ++ (whole_record (codes "<!ELEMENT li - - RCDATA>") ++ (whole_record (codes "<!ELEMENT note O O") ++ (whole_record (codes "(p) +(t-u|li)>") ++ (whole_record (codes "]>") ++ (whole_record (codes "<em>x</em>") ++ (open_record (codes "<![RCDATA[&#65;"))))))))))))))
    (AtStop reason.Absent)
    [])
    ∷ ((comes usual (whole_record (codes "<!DOCTYPE x1 [<!ELEMENT x1  O -") ++ (whole_record (codes "(#PCDATA) -(x1|chapter9x) +(chapter9x|x1)><!ELEMENT chapter9x - O") ++ (whole_record (codes "(#PCDATA)><!ATTLIST x1 a") ++ (whole_record (codes "NAME #IMPLIED") ++ (whole_record (codes "e.f (w) w>]>,-</x1>"))))))
    AtFinish
    (ImpliedLine (codes "A") ∷ (TokenLine (codes "E.F") ((codes "W") ∷ []) ∷ (StartLine (codes "X1") ∷ (CharsLine (map (λ b. Plain b) (codes ",-")) ∷ (FinishLine (codes "X1") ∷ (ConformingLine ∷ [])))))))
    ∷ ((comes usual (whole_record (codes "<!DOCTYPE CHAPTER9X [") ++ (whole_record (codes "<!ELEMENT chapter9x O - (#PCDATA|t-u)*>") ++ (whole_record (codes "<!ELEMENT a.b O O  (#PCDATA)>") ++ (whole_record (codes "<!ELEMENT b2 O - (#PCDATA)>") ++ (whole_record (codes "<!ELEMENT t-u - -") ++ (whole_record (codes "(#PCDATA) +(t-u)>") ++ (whole_record (codes "<!ATTLIST a.b b  NAME #REQUIRED>") ++ (whole_record (codes "<!ATTLIST b2 g1 NMTOKENS #REQUIRED a NUMBER #IMPLIED d") ++ (whole_record (codes "NAMES #CONREF>") ++ (whole_record (codes "<!ATTLIST T-U b") ++ (whole_record (codes "(u | v) #REQUIRED  G1  NUMBERS 4  A") ++ (whole_record (codes "IDREF #IMPLIED>") ++ (whole_record (codes "]>") ++ (open_record (codes "<chapter9x></chapter9x>")))))))))))))))
    AtFinish
    (StartLine (codes "CHAPTER9X") ∷ (FinishLine (codes "CHAPTER9X") ∷ (ConformingLine ∷ []))))
    ∷ [])))))))

-- entities
abbrev pub random_entities : List Document
random_entities =
    (comes usual (whole_record (codes "<!DOCTYPE T-U [") ++ (whole_record (codes "<!ENTITY pi1 \"<t-u>x</t-u>\">") ++ (whole_record (codes "<!ENTITY q.e \"some text\">") ++ (whole_record (codes "<!NOTATION n1 PUBLIC \"+//N  n1//EN\">") ++ (whole_record (codes "<!NOTATION Cgm SYSTEM \"Cgm.exe\">") ++ (whole_record (codes "<!ENTITY Vid SYSTEM \"Vid.dat\" CDATA Cgm>") ++ (whole_record (codes "<!ENTITY snd SYSTEM \"snd.dat\" CDATA Cgm>") ++ (whole_record (codes "<!ENTITY % pe1 \"b2\">") ++ (whole_record (codes "<!ENTITY % ign \"IGNORE\">") ++ (whole_record (codes "<!ENTITY % inc \"INCLUDE\">") ++ (whole_record (codes "<!ENTITY % pe2 \"t-u\">") ++ (whole_record (codes "<!ENTITY<t-u><b2></b2>")))))))))))))
    (AtStop reason.DeclarationSyntax)
    [])
    ∷ ((comes usual (whole_record (codes "<!DOCTYPE x1 SYSTEM \"dtd/d.dtd\" [") ++ (whole_record (codes "<!ENTITY q.e STARTTAG \"q\">") ++ (whole_record (codes "<!ENTITY cd PI \"&#65;\">") ++ (whole_record (codes "<!NOTATION n1 PUBLIC \"+//N  n1//EN\">") ++ (whole_record (codes "<!NOTATION gif PUBLIC \"+//N  gif//EN\">") ++ (whole_record (codes "<!ENTITY Vid SYSTEM \"Vid.dat\" SDATA gif>") ++ (whole_record (codes "<!ENTITY pic SYSTEM \"pic.dat\" CDATA gif>") ++ (whole_record (codes "<!ENTITY % pe2 \"q\">") ++ (whole_record (codes "<!ENTITY % pe1 \"a.b\">") ++ (whole_record (codes "<!ENTITY % decls \"<!ENTITY fromp 'from p'>\">") ++ (whole_record (codes "%decls;") ++ (whole_record (codes "<!ELEMENT x1 O - (a.b|w?) +(w|d)>") ++ (whole_record (codes "<!ENTITY zz \"&#999;\">") ++ (whole_record (codes "]>") ++ (whole_record (codes "<x1>x</x1>"))))))))))))))))
    (AtStop reason.CharNumber)
    [])
    ∷ ((comes usual (whole_record (codes "<!DOCTYPE d [ <!ENTITY txt \"z]]\"> <!ENTITY cd '") ++ (whole_record (codes "a") ++ (whole_record (codes "'> <!ENTITY % pe1 \"b2\"> <!ELEMENT d - - ANY> <!ELEMENT b2 - -  (#PCDATA)> <!SHORTREF m1 \":\" sx \"&#RS;\" sx> <!ENTITY st \"<b2>\"> <!ENTITY et \"</d>\"> <!ENTITY sx \"sr\"> <!ENTITY sq SDATA \"[sq]\"> <!USEMAP m1 d> <!USEMAP m1 b2> ]>") ++ (whole_record (codes "<d></d>")))))
    AtFinish
    (StartLine (codes "D") ∷ (FinishLine (codes "D") ∷ (ConformingLine ∷ []))))
    ∷ ((comes usual (whole_record (codes "<!DOCTYPE x1 [") ++ (whole_record (codes "<!ENTITY e1 STARTTAG 'x1'>") ++ (whole_record (codes "<!ENTITY sd CDATA \"&#65;\">") ++ (whole_record (codes "<!ENTITY cd SDATA \"\\\">") ++ (whole_record (codes "<!ENTITY % ign \"IGNORE\">") ++ (whole_record (codes "<!ENTITY % at 'pa CDATA #IMPLIED -- by reference --'>") ++ (whole_record (codes "<!ELEMENT x1") ++ (whole_record (codes "- -  (#PCDATA)*>") ++ (whole_record (codes "<!ELEMENT item - O (#PCDATA)* +(item)>") ++ (whole_record (codes "<!ELEMENT W  O O (#PCDATA|w)*>") ++ (whole_record (codes "]><x1>(z)") ++ (whole_record (codes "</X1>")))))))))))))
    AtFinish
    (StartLine (codes "X1") ∷ (CharsLine (map (λ b. Plain b) (codes "(z)")) ∷ (FinishLine (codes "X1") ∷ (ConformingLine ∷ [])))))
    ∷ ((comes usual (whole_record (codes "<!DOCTYPE b2 [") ++ (whole_record (codes "<!ENTITY sd PI \"\\\">") ++ (whole_record (codes "<!ENTITY q.e \"") ++ (whole_record (codes "a") ++ (whole_record (codes "\">") ++ (whole_record (codes "<!ENTITY cd CDATA \"[x]\">") ++ (whole_record (codes "<!ENTITY mk CDATA \"&#65;\">") ++ (whole_record (codes "<!ENTITY Mk \"<?in e>\">") ++ (whole_record (codes "<!ENTITY % inc \"INCLUDE\">") ++ (whole_record (codes "<!ENTITY % pc '#PCDATA'>") ++ (whole_record (codes "<!ELEMENT b2  (%pc ) +(b2)>") ++ (whole_record (codes "<!ELEMENT em O - (%pc ) +(em)>") ++ (whole_record (codes "<!ELEMENT li  - -") ++ (whole_record (codes "ANY +(em)>") ++ (whole_record (codes "]><b2>&cd;</b2>"))))))))))))))))
    AtFinish
    (StartLine (codes "B2") ∷ (CharsLine (map (λ b. Plain b) (codes "[x]")) ∷ (FinishLine (codes "B2") ∷ (ConformingLine ∷ [])))))
    ∷ ((comes usual (whole_record (codes "<!DOCTYPE sec PUBLIC \"-//X//DTD D//EN\" \"./d.dtd\" [") ++ (whole_record (codes "<!ENTITY e1 SDATA \"a") ++ (whole_record (codes "b\">") ++ (whole_record (codes "<!ENTITY Mk \"\">") ++ (whole_record (codes "<!NOTATION gif PUBLIC \"+//N  gif//EN\">") ++ (whole_record (codes "]>") ++ (whole_record (codes "<![ %und; [x]]><sec>x</sec>"))))))))
    (AtStop reason.Absent)
    [])
    ∷ [])))))

-- marked sections
abbrev pub random_sections : List Document
random_sections =
    (comes usual (whole_record (codes "<!DOCTYPE d [") ++ (whole_record (codes "<![ TEMP [") ++ (whole_record (codes "<!-- c -->") ++ (whole_record (codes "]]>") ++ (whole_record (codes "<!ELEMENT d") ++ (whole_record (codes "- O  (#PCDATA)*>") ++ (whole_record (codes "<!ELEMENT p - O EMPTY>") ++ (whole_record (codes "<!ENTITY % ii \"<![INCLUDE[\"> %ii;") ++ (whole_record (codes "]>") ++ (whole_record (codes "<d></D>")))))))))))
    (AtStop reason.SectionOpen)
    [])
    ∷ ((comes usual (whole_record (codes "<!DOCTYPE t-u [") ++ (whole_record (codes "<!ELEMENT t-u O -") ++ (whole_record (codes "(D)>") ++ (whole_record (codes "<![ ignore [ <!ELEMENT zig - - (a)> ]]>") ++ (whole_record (codes "<!ELEMENT d (#PCDATA|d)*>") ++ (whole_record (codes "]>") ++ (open_record (codes "<t-u><d>a</D></t-u>"))))))))
    AtFinish
    (StartLine (codes "T-U") ∷ (StartLine (codes "D") ∷ (CharsLine (map (λ b. Plain b) (codes "a")) ∷ (FinishLine (codes "D") ∷ (FinishLine (codes "T-U") ∷ (ConformingLine ∷ [])))))))
    ∷ ((comes usual (whole_record (codes "<!DOCTYPE sec [") ++ (whole_record (codes "<!ELEMENT sec - O ANY>") ++ (whole_record (codes "<!ELEMENT w  - O (#PCDATA)>") ++ (whole_record (codes "<!ELEMENT em - O (#PCDATA)*>") ++ (whole_record (codes "<!ELEMENT t-u") ++ (whole_record (codes "- -") ++ (whole_record (codes "(#PCDATA)*>") ++ (whole_record (codes "<!ELEMENT b2 - - (#PCDATA) +(t-u|em)>") ++ (whole_record (codes "]>") ++ (whole_record (codes "<sec><b2><?pi></b2</SEC>")))))))))))
    AtFinish
    (StartLine (codes "SEC") ∷ (StartLine (codes "B2") ∷ (PiLine (codes "pi") ∷ (FinishLine (codes "B2") ∷ (FinishLine (codes "SEC") ∷ (ConformingLine ∷ [])))))))
    ∷ ((comes usual (whole_record (codes "<!DOCTYPE chapter9x [") ++ (whole_record (codes "<!ELEMENT chapter9x") ++ (whole_record (codes "- O (#PCDATA)>") ++ (whole_record (codes "]>") ++ (whole_record (codes "<chapter9x>"))))))
    AtFinish
    (StartLine (codes "CHAPTER9X") ∷ (FinishLine (codes "CHAPTER9X") ∷ (ConformingLine ∷ []))))
    ∷ ((comes usual (whole_record (codes "<!DOCTYPE t-u [") ++ (whole_record (codes "<!ELEMENT t-u - -") ++ (whole_record (codes "( w? , ( a.b? ) )+>") ++ (whole_record (codes "<!ELEMENT a.b O O") ++ (whole_record (codes "(#PCDATA)>") ++ (whole_record (codes "<!ELEMENT w - - (#PCDATA)>") ++ (whole_record (codes "]>") ++ (whole_record (codes "<t-u></>")))))))))
    AtFinish
    (StartLine (codes "T-U") ∷ (FinishLine (codes "T-U") ∷ (ConformingLine ∷ []))))
    ∷ ((comes usual (whole_record (codes "<!DOCTYPE em [<!ELEMENT em O -") ++ (whole_record (codes "( a.b )><!ELEMENT a.b RCDATA><!ELEMENT note") ++ (whole_record (codes "- O") ++ (whole_record (codes "(#PCDATA)><!ATTLIST em C  NAME nm>]>") ++ (open_record (codes " <a.b></a.b></em>"))))))
    AtFinish
    (TokenLine (codes "C") ((codes "NM") ∷ []) ∷ (StartLine (codes "EM") ∷ (StartLine (codes "A.B") ∷ (FinishLine (codes "A.B") ∷ (FinishLine (codes "EM") ∷ (ConformingLine ∷ [])))))))
    ∷ ((comes usual (whole_record (codes "<!DOCTYPE t-u [ <![ ignore [ <!ELEMENT zig - - (a)> ]]> <!ELEMENT T-U O - (#PCDATA)> <!ELEMENT X1 O - (#PCDATA|x1)*> <!ATTLIST t-u c  NUMBER 0") ++ (whole_record (codes "b") ++ (whole_record (codes "CDATA #IMPLIED") ++ (whole_record (codes "H NUTOKEN #IMPLIED> ]><t-u  c=\"007\"><![RCDATA[ ]]>") ++ (whole_record (codes "") ++ (whole_record (codes "") ++ (whole_record (codes "") ++ (whole_record (codes "<![IGNORE[ ]]></t-u>")))))))))
    AtFinish
    (TokenLine (codes "C") ((codes "007") ∷ []) ∷ (ImpliedLine (codes "B") ∷ (ImpliedLine (codes "H") ∷ (StartLine (codes "T-U") ∷ (CharsLine (map (λ b. Plain b) ((codes " ") ++ ((13 ∷ []) ++ ((13 ∷ []) ++ (13 ∷ []))))) ∷ (FinishLine (codes "T-U") ∷ (ConformingLine ∷ []))))))))
    ∷ ((comes usual (whole_record (codes "<!DOCTYPE note [") ++ (whole_record (codes "<!ELEMENT note O -  (#PCDATA|sec)* +(note)>") ++ (whole_record (codes "<!ELEMENT em") ++ (whole_record (codes "- O") ++ (whole_record (codes "(sec) -(em|x1)>") ++ (whole_record (codes "<!ELEMENT sec - - (") ++ (whole_record (codes "SEC+") ++ (whole_record (codes ")>") ++ (whole_record (codes "<!ELEMENT d O O (#PCDATA)>") ++ (whole_record (codes "<!ELEMENT x1") ++ (whole_record (codes "O -") ++ (whole_record (codes "(#PCDATA)* +(note)>") ++ (whole_record (codes "<!ATTLIST em e.f NMTOKEN #REQUIRED") ++ (whole_record (codes "c IDREFS #REQUIRED") ++ (whole_record (codes "a") ++ (whole_record (codes "NMTOKENS #REQUIRED") ++ (whole_record (codes "d NMTOKEN #REQUIRED>") ++ (whole_record (codes "]>") ++ (open_record (codes "<!--<!DOCTYPE x> before -->"))))))))))))))))))))
    (AtStop reason.Unfinished)
    [])
    ∷ ((comes usual (whole_record (codes "<!DOCTYPE b2 [") ++ (whole_record (codes "<!ELEMENT b2 - -  ( #PCDATA )? +(em|b2)>") ++ (whole_record (codes "<!ELEMENT em O - ( sec+ )>") ++ (whole_record (codes "<!ELEMENT SEC (#PCDATA|q|note)* +(b2)>") ++ (whole_record (codes "<!ELEMENT q") ++ (whole_record (codes "O O (#PCDATA)*>") ++ (whole_record (codes "<!ELEMENT note - -  (#PCDATA)>") ++ (whole_record (codes "<!USEMAP zz>") ++ (whole_record (codes "]>") ++ (whole_record (codes "<b2>a") ++ (whole_record (codes "</b2>"))))))))))))
    (AtStop reason.DeclarationPlace)
    [])
    ∷ ((comes usual (whole_record (codes "<!DOCTYPE chapter9x [") ++ (whole_record (codes "<![ ignore [ <!ELEMENT zig - - (a)> ]]>") ++ (whole_record (codes "<!ELEMENT chapter9x O - (x1)>") ++ (whole_record (codes "<!ELEMENT x1 - -") ++ (whole_record (codes "ANY +(li)>") ++ (whole_record (codes "<!ELEMENT li  - O (#PCDATA)* +(li)>") ++ (whole_record (codes "<!ELEMENT item  O O (#PCDATA|item)*>") ++ (whole_record (codes "<!ATTLIST chapter9x g1 NAME #IMPLIED>") ++ (whole_record (codes "]><</x1>x1 ></x1></CHAPTER9X>"))))))))))
    (AtStop reason.OmitUndeclared)
    [])
    ∷ ((comes usual (whole_record (codes "<!DOCTYPE d [") ++ (whole_record (codes "<!ELEMENT d - - ANY -(chapter9x|p) +(chapter9x|q)>") ++ (whole_record (codes "<!ELEMENT item  O O ( q & chapter9x )?>") ++ (whole_record (codes "<!ELEMENT Q O - (#PCDATA)* -(item)>") ++ (whole_record (codes "<!ELEMENT p") ++ (whole_record (codes "O -  (#PCDATA)>") ++ (whole_record (codes "<!ELEMENT chapter9x - -") ++ (whole_record (codes "(#PCDATA)*>") ++ (whole_record (codes "<!ATTLIST chapter9x e.f NAME #IMPLIED c NMTOKEN #IMPLIED>") ++ (whole_record (codes "<!ELEMENT %m;>") ++ (whole_record (codes "]>") ++ (whole_record (codes "<D>1.5<q/&#233;a&#RE;<![ INCLUDE CDATA [<! ]]>/<chapter9x>\"q\"&#65; </CHAPTER9X></d>")))))))))))))
    (AtStop reason.Undeclared)
    [])
    ∷ ((comes usual (whole_record (codes "<!DOCTYPE sec [ <!ELEMENT sec O - (#PCDATA|note)* +(sec)> <!ELEMENT note (#PCDATA) -(sec)> ]>") ++ (whole_record (codes "<sec><![%inc;[it's -]]><note></note><![INCLUDE[&#233; 1.5]]></><sec a=\"&und;\">")))
    (AtStop reason.Undeclared)
    (StartLine (codes "SEC") ∷ []))
    ∷ ((comes usual (whole_record (codes "<!DOCTYPE em [") ++ (whole_record (codes "<!ELEMENT em  O O (#PCDATA)>") ++ (whole_record (codes "<!ELEMENT x1  - -") ++ (whole_record (codes "(#PCDATA)*>") ++ (whole_record (codes "<!ATTLIST x1 b NMTOKEN #IMPLIED e.f  NUMBER #IMPLIED d NUTOKEN #REQUIRED>") ++ (open_record (codes "]><x1 b=\"x\" B=y>t")))))))
    (AtStop reason.EmptyInferred)
    [])
    ∷ ((comes usual (whole_record (codes "<!DOCTYPE x1 [ <!ENTITY mk CDATA \"a") ++ (whole_record (codes "b\"> <!ENTITY pi1 \"<x1>x</x1>\"> <!ENTITY e2 '<w>x</w>'> <!ENTITY % pe2 \"w\"> <!ENTITY % ign \"IGNORE\"> <!ENTITY % inc \"INCLUDE\"> <!ENTITY % pe1 \"x1\"> <!ENTITY % decls \"<!ENTITY fromp 'from p'>\"> %decls  <!ELEMENT x1 O - ( w? ) +(w)> <!ELEMENT w - - EMPTY -- about it -- > <!ATTLIST w g1 NUMBER #IMPLIED  e.f ENTITY #REQUIRED  b NAMES #FIXED \" n1  n2 \"> <!FOO bar>") ++ (whole_record (codes "]>") ++ (whole_record (codes "<x1></x1>")))))
    (AtStop reason.DeclarationSyntax)
    [])
    ∷ ((comes usual (whole_record (codes "<!DOCTYPE x1 [") ++ (whole_record (codes "<!ELEMENT x1 - O (") ++ (whole_record (codes "sec") ++ (whole_record (codes "|") ++ (whole_record (codes "em?") ++ (whole_record (codes ")+ +(d|em)>") ++ (whole_record (codes "<!ELEMENT d") ++ (whole_record (codes "- - (#PCDATA|em)*>") ++ (whole_record (codes "<!ELEMENT w (#PCDATA|sec|em)*>") ++ (whole_record (codes "<!ELEMENT em - O  (#PCDATA)>") ++ (whole_record (codes "]>") ++ (whole_record (codes "<x1><?<em>&#233;-&#TAB;x</em y<![IGNORE[ ]]><![ INCLUDE CDATA [&#13;]]>x y-<!-- c -->") ++ (whole_record (codes ""))))))))))))))
    (AtStop reason.NotAllowed)
    (StartLine (codes "X1") ∷ (PiLine (codes "<em") ∷ [])))
    ∷ ((comes usual (whole_record (codes "<!DOCTYPE a.b [ <!ENTITY cd \" \"> <!ENTITY sd \"&mk \"> <!ENTITY e2 \"&#13;\"> <!ENTITY % pe2 \"d\"> <!ENTITY % pe1 \"a.b\"> <!ENTITY % inc \"INCLUDE\"> <!ENTITY % ign \"IGNORE\"> <!ENTITY % decls \"<!ENTITY fromp 'from p'>\"> %decls") ++ (whole_record (codes " <!ELEMENT a.b O -") ++ (whole_record (codes "(#PCDATA)> <!ELEMENT d O O (#PCDATA)* -(d)> <!ATTLIST A.B h NAMES #IMPLIED b NUTOKEN #FIXED 1x> ]></>0"))))
    (AtStop reason.NotOpen)
    [])
    ∷ [])))))))))))))))

-- short references
abbrev pub random_maps : List Document
random_maps =
    (comes usual (whole_record (codes "<!DOCTYPE item [ <!ELEMENT item O O  (d?,q)> <!ELEMENT q  - - (#PCDATA)> <!ELEMENT d - O (#PCDATA)* +(d|q)> <!ATTLIST d g1 NAME #IMPLIED  d ID #IMPLIED> <!SHORTREF m1 \"BB\" sq \"&#RS;&#RE;\" st \"^\" et \"_\" et> <!ENTITY st \"<item>\"> <!ENTITY et \"</item>\"> <!ENTITY sx \"sr\"> <!ENTITY sq SDATA \"[sq]\"> <!USEMAP #EMPTY (item)> <!USEMAP m1 item> <!USEMAP m1 item> ]><q>") ++ (whole_record (codes "") ++ (open_record (codes "</q>"))))
    AtFinish
    (StartLine (codes "ITEM") ∷ (StartLine (codes "Q") ∷ (FinishLine (codes "Q") ∷ (FinishLine (codes "ITEM") ∷ (ConformingLine ∷ []))))))
    ∷ ((comes usual (whole_record (codes "<!DOCTYPE item [") ++ (whole_record (codes "<!ELEMENT item  - O (") ++ (whole_record (codes "p?") ++ (whole_record (codes ")+>") ++ (whole_record (codes "<!ELEMENT note (#PCDATA) +(p)>") ++ (whole_record (codes "<!ELEMENT p  - O (#PCDATA) -(p)>") ++ (whole_record (codes "<!SHORTREF m1 \"&#RS;B\" st \"--\" sq \"+\" et>") ++ (whole_record (codes "<!ENTITY st \"<note>\">") ++ (whole_record (codes "<!ENTITY et \"</note>\">") ++ (whole_record (codes "<!ENTITY sx \"sr\">") ++ (whole_record (codes "<!ENTITY sq SDATA \"[sq]\">") ++ (whole_record (codes "<!USEMAP m1 (p|note)>") ++ (whole_record (codes "<!USEMAP #EMPTY item>") ++ (whole_record (codes "<!USEMAP m1 item>") ++ (whole_record (codes "]>") ++ (whole_record (codes "<item><p>") ++ (whole_record (codes "") ++ (whole_record (codes "</ITEM>")))))))))))))))))))
    AtFinish
    (StartLine (codes "ITEM") ∷ (StartLine (codes "P") ∷ (FinishLine (codes "P") ∷ (FinishLine (codes "ITEM") ∷ (ConformingLine ∷ []))))))
    ∷ ((comes usual (whole_record (codes "<!DOCTYPE SEC [") ++ (whole_record (codes "<!ELEMENT sec - O ANY>") ++ (whole_record (codes "<!ELEMENT t-u - O EMPTY>") ++ (whole_record (codes "<!SHORTREF m1 \"*\" sx>") ++ (whole_record (codes "<!ENTITY st \"<sec>\">") ++ (whole_record (codes "<!ENTITY et \"</t-u>\">") ++ (whole_record (codes "<!ENTITY sx \"sr\">") ++ (whole_record (codes "<!ENTITY sq SDATA \"[sq]\">") ++ (whole_record (codes "<!USEMAP #EMPTY sec>") ++ (whole_record (codes "<!USEMAP m1 t-u>") ++ (whole_record (codes "<!USEMAP m1 sec>") ++ (whole_record (codes "]>") ++ (open_record (codes "<sec></SEC>"))))))))))))))
    AtFinish
    (StartLine (codes "SEC") ∷ (FinishLine (codes "SEC") ∷ (ConformingLine ∷ []))))
    ∷ ((comes usual (whole_record (codes "<!DOCTYPE sec [ <!ELEMENT SEC  - O ( x1 | item? )> <!ELEMENT item - -") ++ (whole_record (codes "(#PCDATA)*> <!ELEMENT X1 - -") ++ (whole_record (codes "RCDATA> <!ATTLIST item e.f NAME nm> <!SHORTREF m1 \"&#RS;B&#RE;\" et \"BB\" sq \"|\" sx> <!SHORTREF m2 \"}\" sx> <!ENTITY st \"<sec>\"> <!ENTITY et \"</x1>\"> <!ENTITY sx \"sr\"> <!ENTITY sq SDATA \"[sq]\"> <!USEMAP m1 x1> <!USEMAP m2 sec> ]>") ++ (open_record (codes "<sec>")))))
    AtFinish
    (StartLine (codes "SEC") ∷ (FinishLine (codes "SEC") ∷ (ConformingLine ∷ []))))
    ∷ ((comes usual (whole_record (codes "<!DOCTYPE P [<!ELEMENT p  - O (#PCDATA)><!ELEMENT a.b - - (#PCDATA)* -(p)><!SHORTREF m1 \"&#RS;B&#RE;\" et \"B&#RE;\" et><!ENTITY st \"<p>\"><!ENTITY et \"</p>\"><!ENTITY sx \"sr\"><!ENTITY sq SDATA \"[sq]\"><!USEMAP m1 p><!USEMAP #EMPTY a.b><!USEMAP #EMPTY (p)>]>") ++ (whole_record (codes "<p>") ++ (whole_record (codes "</p>") ++ (open_record (codes "<!-- after -->")))))
    AtFinish
    (StartLine (codes "P") ∷ (FinishLine (codes "P") ∷ (ConformingLine ∷ []))))
    ∷ ((comes usual (whole_record (codes "<!DOCTYPE a.b [") ++ (whole_record (codes "<!ELEMENT a.b O - ANY +(q)>") ++ (whole_record (codes "<!ELEMENT q - O EMPTY>") ++ (whole_record (codes "<!ELEMxENT x1 - - (#PCDATA) -(q)>") ++ (whole_record (codes "<!SHORTREF m1 \"&#RS;B\" sx \":\" st \"BB\" sq>") ++ (whole_record (codes "<!ENTITY st \"<a.b>\">") ++ (whole_record (codes "<!ENTITY et \"</q>\">") ++ (whole_record (codes "<!ENTITY sx \"sr\">") ++ (whole_record (codes "<!ENTITY sq SDATA \"[sq]\">") ++ (whole_record (codes "<!USEMAP #EMPTY a.b>") ++ (whole_record (codes "<!USEMAP m1 (a.b)>") ++ (whole_record (codes "]>") ++ (whole_record (codes "<1") ++ (whole_record (codes "") ++ (whole_record (codes "</a.b>"))))))))))))))))
    (AtStop reason.DeclarationSyntax)
    [])
    ∷ ((comes usual (whole_record (codes "<!DOCTYPE note ITY ELEMENT note O O (#PCDATA) +(item|note)>") ++ (whole_record (codes "<!ELEMENT a.b  O - (#PCDATA) +(item|note)>") ++ (whole_record (codes "<!ELEMENT item - O EMPTY>") ++ (whole_record (codes "<!SHORTREF m1 '\"' st \"&#RS;\" st \"-\" sq \"&#RS;B&#RE;\" sx>") ++ (whole_record (codes "<!SHORTREF m2 \"&#RS;B\" et>") ++ (whole_record (codes "<!ENTITY st \"<item>\">") ++ (whole_record (codes "<!ENTITY et \"</note>\">") ++ (whole_record (codes "<!ENT[") ++ (whole_record (codes "<!sx \"sr\">") ++ (whole_record (codes "<!ENTITY sq SDATA \"[sq]\">") ++ (whole_record (codes "<!USEMAP m2 (a.b|item)>") ++ (whole_record (codes "]>") ++ (whole_record (codes "") ++ (whole_record (codes "") ++ (open_record (codes "<! "))))))))))))))))
    (AtStop reason.DeclarationSyntax)
    [])
    ∷ ((comes usual (whole_record (codes "<!DOCTYPE item SYSTEM \"./d.dtd\" [") ++ (whole_record (codes "<!ENTITY txt ENDTAG \"item\">") ++ (whole_record (codes "]>") ++ (whole_record (codes "<item>x</item>")))))
    (AtStop reason.Absent)
    [])
    ∷ [])))))))

-- record ends
abbrev pub random_records : List Document
random_records =
    (comes usual (whole_record (codes "<!DOCTYPE chapter9x [") ++ (whole_record (codes "<!ELEMENT chapter9x O O (#PCDATA)* +(chapter9x)>") ++ (whole_record (codes "<!ELE<!ELEMENT zz - - ((a,b)+,a)>") ++ (whole_record (codes "MENT note  O O (#PCDATA) +(note)>") ++ (whole_record (codes "<!ELEMENT B2 - O  (#PCDATA) +(b2)>") ++ (whole_record (codes "]>") ++ (whole_record (codes "") ++ (whole_record (codes "</CHAPTERX>")))))))))
    (AtStop reason.DeclarationSyntax)
    [])
    ∷ ((comes usual (whole_record (codes "<!DOCTYPE d [") ++ (whole_record (codes "<!-- a -- ") ++ (whole_record (codes "<SEC>") ++ (whole_record (codes "</sec></d>")))))
    (AtStop reason.DeclarationSyntax)
    [])
    ∷ ((comes usual (whole_record (codes "<!DOCTYPE q [ <!ELEMENT q - - ANY -(q)> <!ELEMENT d - O (#PCDATA|d)* -(d) +(d|q)> ]><q><q>") ++ (whole_record (codes "") ++ (whole_record (codes "</></q>"))))
    (AtStop reason.Excluded)
    (StartLine (codes "Q") ∷ []))
    ∷ ((comes usual (whole_record (codes "<!DOCTYPE chapter9x [") ++ (whole_record (codes "<!ELEMENT chapter9x  O O (#PCDATA)*>") ++ (whole_record (codes "<!ELEMENT sec - O (") ++ (whole_record (codes "NOTE") ++ (whole_record (codes "|") ++ (whole_record (codes "li") ++ (whole_record (codes ")+>") ++ (whole_record (codes "<!ELEMENT t-u O O ( ( W , W+ , li , note+ )? ) -(sec)>") ++ (whole_record (codes "<!ELEMENT note  RCDATA>") ++ (whole_record (codes "<!ELEMENT li - O (#PCDATA|w)*>") ++ (whole_record (codes "<!ELEMENT W") ++ (whole_record (codes "CDATA>") ++ (whole_record (codes "<!>") ++ (whole_record (codes "<!ATTLIST t-u g1") ++ (whole_record (codes "CDATA #IMPLIED>") ++ (whole_record (codes "]>") ++ (whole_record (codes "") ++ (whole_record (codes "") ++ (whole_record (codes ""))))))))))))))))))))
    (AtStop reason.Unfinished)
    [])
    ∷ ((comes usual (whole_record (codes "<!DOCTYPE t-u [") ++ (whole_record (codes "<!ELEMENT T-U O - (a.b*)>") ++ (whole_record (codes "<!ELEMENT a.b O - CDATA>") ++ (whole_record (codes "<!ELEMENT item O O (#PCDATA)* +(item|t-u)>") ++ (whole_record (codes "<!ELEMENT q") ++ (whole_record (codes "- O (#PCDATA) +(t-u)>") ++ (whole_record (codes "<!ATTLIST q h (x.y | w) #IMPLIED>") ++ (open_record (codes "]>")))))))))
    (AtStop reason.Unfinished)
    [])
    ∷ ((comes usual (whole_record (codes "<!DOCTYPE d [") ++ (whole_record (codes "<!ELEMENT D - O  ANY +(li)>") ++ (whole_record (codes "<!ELEMENT sec  - O (#PCDATA)>") ++ (whole_record (codes "<!ELEMENT LI  - - (#PCDATA)* -(d)>") ++ (whole_record (codes "]>") ++ (whole_record (codes "<d><![IGNORE[no]]><sec><li>(z)") ++ (whole_record (codes "x ya") ++ (whole_record (codes "</li><!-- a --") ++ (whole_record (codes "-- b -->") ++ (whole_record (codes "</sec>") ++ (open_record (codes "</d>"))))))))))))
    AtFinish
    (StartLine (codes "D") ∷ (StartLine (codes "SEC") ∷ (StartLine (codes "LI") ∷ (CharsLine (map (λ b. Plain b) ((codes "(z)") ++ ((13 ∷ []) ++ (codes "x ya")))) ∷ (FinishLine (codes "LI") ∷ (FinishLine (codes "SEC") ∷ (FinishLine (codes "D") ∷ (ConformingLine ∷ [])))))))))
    ∷ ((comes usual (whole_record (codes "<!DOCTYPE note [<!ELEMENT NOTE  - -  (w?,chapter9x?) -(note|b2)><!ELEMENT w O O") ++ (whole_record (codes "(#PCDATA)* +(w)><!ELEMENT b2 O - EMPTY><!><!ELEMENT chapter9x  O O (#PCDATA) -(w) +(b2)>]>") ++ (whole_record (codes "<?before>") ++ (whole_record (codes "<note></>") ++ (open_record (codes "<!-- after -->"))))))
    AtFinish
    (PiLine (codes "before") ∷ (StartLine (codes "NOTE") ∷ (FinishLine (codes "NOTE") ∷ (ConformingLine ∷ [])))))
    ∷ ((comes usual (whole_record (codes "<!DOCTYPE X1 [<!ELEMENT x1 - O  (#PCDATA)><!ELEMENT t-u - -  (#PCDATA) +(x1)>]>") ++ (whole_record (codes "<x1>") ++ (whole_record (codes ""))))
    AtFinish
    (StartLine (codes "X1") ∷ (FinishLine (codes "X1") ∷ (ConformingLine ∷ []))))
    ∷ ((comes usual (whole_record (codes "<!DOCTYPE w [ <!ATTLIST note g1 NUMBERS 4") ++ (whole_record (codes "d CDATA #REQUIRED") ++ (whole_record (codes "e.f NAME #IMPLIED") ++ (whole_record (codes "c NAME #IMPLIED> <!ATTLIST li d") ++ (whole_record (codes "ID #IMPLIED h (1t,x.y,w) #REQUIRED A") ++ (whole_record (codes "NMTOKENS #IMPLIED b NMTOKENS \"a") ++ (whole_record (codes "b\"> <!ELEMENT t-u O O") ++ (whole_record (codes "(#PCDATA)* +(li)> <!ELEMENT li O O  (#PCDATA)* -(li)> <!ELEMENT w - - ANY> <!ELEMENT note O -") ++ (whole_record (codes "(LI)*> ]>") ++ (whole_record (codes "<w/") ++ (whole_record (codes "/"))))))))))))
    AtFinish
    (StartLine (codes "W") ∷ (FinishLine (codes "W") ∷ (ConformingLine ∷ []))))
    ∷ ((comes usual (whole_record (codes "<!DOCTYPE T-U [") ++ (whole_record (codes "<!ELEMENT t-u") ++ (whole_record (codes "- O  ANY +(d)>") ++ (whole_record (codes "<!ELEMENT d  O O (#PCDATA) +(d)>") ++ (whole_record (codes "]>") ++ (whole_record (codes "<t-u>") ++ (whole_record (codes "") ++ (whole_record (codes "") ++ (whole_record (codes "</t-u>"))))))))))
    AtFinish
    (StartLine (codes "T-U") ∷ (CharsLine (map (λ b. Plain b) (13 ∷ [])) ∷ (FinishLine (codes "T-U") ∷ (ConformingLine ∷ [])))))
    ∷ ((comes usual (whole_record (codes "<!DOCTYPE T-U [") ++ (whole_record (codes "<!ELEMENT t-u (#PCDATA) +(t-u)>") ++ (whole_record (codes "<!ELEMENT x1 - O  (d?) +(t-u)>") ++ (whole_record (codes "<!ELEMENT b2  O - (#PCDATA)*>") ++ (whole_record (codes "<!ELEMENT item O - ( D )? +(b2)>") ++ (whole_record (codes "<?prolog pi>") ++ (whole_record (codes "<!ELEMENT p") ++ (whole_record (codes "O O  (#PCDATA) -(x1)>") ++ (whole_record (codes "<!ELEMENT d  O - (#PCDATA|b2)*>") ++ (whole_record (codes "<!ATTLIST ITEM h (x.y) #FIXED x.y b NMTOKENS \"1 2\" c IDREF #IMPLIED e.f NAME nm>") ++ (whole_record (codes "]>") ++ (whole_record (codes "<t-u>") ++ (whole_record (codes "") ++ (whole_record (codes "t") ++ (whole_record (codes "</t-u>"))))))))))))))))
    AtFinish
    (PiLine (codes "prolog pi") ∷ (StartLine (codes "T-U") ∷ (CharsLine (map (λ b. Plain b) ((13 ∷ []) ++ (codes "t"))) ∷ (FinishLine (codes "T-U") ∷ (ConformingLine ∷ []))))))
    ∷ ((comes usual (whole_record (codes "<!DOCTYPE x1 [") ++ (whole_record (codes "<!ELEMENT x1 O O (#PCDATA)*>") ++ (whole_record (codes "<!ELEMENT b2  O O (#PCDATA) -(x1) +(x1)>") ++ (whole_record (codes "<!ELEMENT q - O") ++ (whole_record (codes "(#PCDATA|q)* +(x1)>") ++ (whole_record (codes "<!ATTLIST q a IDREFS #IMPLIED b") ++ (whole_record (codes "NAME #FIXED nm c NMTOKEN #CONREF>") ++ (whole_record (codes "]><b2 foo>") ++ (whole_record (codes "<x1>,1.5") ++ (whole_record (codes "t</X1>")))))))))))
    (AtStop reason.EmptyInferred)
    [])
    ∷ ((comes usual (whole_record (codes "<!DOCTYPE q [<!ELEMENT q  - O  ( em* )+ -- about it -- ><!ELEMENT chapter9x - O EMPTY><!ELEMENT em O O") ++ (whole_record (codes "( T-U )><!ELEMENT t-u - - (#PCDATA)* -(em) +(chapter9x|q)>]>") ++ (whole_record (codes "<?befo<![IGNORE RCDATA CDATA[<![FOO[x]]>re>") ++ (whole_record (codes "<Q>")))))
    (AtStop reason.OmitUndeclared)
    (PiLine (codes "befo<![IGNORE RCDATA CDATA[<![FOO[x]]") ∷ []))
    ∷ ((comes usual (whole_record (codes "<!DOCTYPE x1 [") ++ (whole_record (codes "<!ENTITY st \"<x1>\">") ++ (whole_record (codes "<!ENTITY sx \"sr\">") ++ (whole_record (codes "<!ENTITY et \"</li>\">") ++ (whole_record (codes "<!ELEMENT p - O (#PCDATA)*>") ++ (whole_record (codes "<!ENTITY sq SDATA \"[sq]\">") ++ (whole_record (codes "<!SHORTREF m1 \"]\" sq \"&#RS;\" et \")\" et>") ++ (whole_record (codes "<!ELEMENT x1 O - ( q )>") ++ (whole_record (codes "<!ELEMENT b2  O O") ++ (whole_record (codes "(#PCDATA|q|p)* +(b2)>") ++ (whole_record (codes "<!ELEMENT q - O EMPTY>") ++ (whole_record (codes "<!ELEMENT em O O") ++ (whole_record (codes "(") ++ (whole_record (codes "q+") ++ (whole_record (codes "|") ++ (whole_record (codes "b2") ++ (whole_record (codes ")>") ++ (whole_record (codes "<!ELEMENT li") ++ (whole_record (codes "- O CDATA>") ++ (whole_record (codes "<!USEMAP m1 x1>") ++ (whole_record (codes "<!USEMAP m1 (li|p)>") ++ (whole_record (codes "<!USEMAP #EMPTY (li)>") ++ (whole_record (codes "]>") ++ (open_record (codes "<x1><<![IGNORE RCDATA CDATA[q></x1")))))))))))))))))))))))))
    (AtStop reason.OmitUndeclared)
    (StartLine (codes "X1") ∷ []))
    ∷ ((comes usual (whole_record (codes "<!DOCTYPE b2 SYSTEM \"./d.dtd\" [") ++ (whole_record (codes "") ++ (whole_record (codes "]>") ++ (whole_record (codes "<b2&#0;>x</b2>")))))
    (AtStop reason.Absent)
    [])
    ∷ ((comes usual (whole_record (codes "<!DOCTYPE chapter9x SYSTEM \"nowhere\" [") ++ (whole_record (codes "<!ELEMENT chapter9x - O ( p | q )? +(chapter9x|p)>") ++ (whole_record (codes "<!ELEMENT q O -  (em*)* +(em)>") ++ (whole_record (codes "<!ELEMENT W O O") ++ (whole_record (codes "(#PCDATA) +(p)>") ++ (whole_record (codes "]>") ++ (whole_record (codes "<chapter9x>x</chapter9x>"))))))))
    (AtStop reason.Absent)
    [])
    ∷ [])))))))))))))))

-- forms that meet: entities with markup in RCDATA, NET, notations, values of entities, record ends beside inclusions
abbrev pub aimed_first : List Document
aimed_first =
    (comes usual (whole_record (codes "<!DOCTYPE D [<!ELEMENT D O O (P|Q|C|E)*><!ELEMENT P - O (#PCDATA|Q)*><!ELEMENT Q - O (P?,E?)><!ELEMENT C - O CDATA><!ELEMENT E - O EMPTY>]>") ++ (whole_record (codes "<E//")))
    (AtStop reason.NotAllowed)
    (StartLine (codes "D") ∷ (StartLine (codes "E") ∷ (FinishLine (codes "E") ∷ []))))
    ∷ ((comes usual (whole_record (codes "<!DOCTYPE D [<!ELEMENT D O O (A&B) +(C)><!ELEMENT A O O (#PCDATA)><!ELEMENT B O - (A?,C)><!ELEMENT C O O (#PCDATA)><!ATTLIST C X CDATA x>]>") ++ (open_record (codes "x")))
    (AtStop reason.NotAllowed)
    [])
    ∷ ((comes usual (whole_record (codes "<!DOCTYPE D [<!ELEMENT D O O (P|Q|C|E)*><!ELEMENT P - O (#PCDATA|Q)*><!ELEMENT Q - O (P?,E?)><!ELEMENT C - O CDATA><!ELEMENT E - O EMPTY>]>") ++ (whole_record (codes "<Q/</>a")))
    (AtStop reason.NotAllowed)
    (StartLine (codes "D") ∷ (StartLine (codes "Q") ∷ (FinishLine (codes "Q") ∷ []))))
    ∷ ((comes usual (whole_record (codes "<!DOCTYPE D [<!ELEMENT D - O (A,B) +(C)><!ELEMENT A O - (C?)><!ELEMENT B - - RCDATA><!ELEMENT C - O (#PCDATA)><!ATTLIST C X CDATA #IMPLIED>]>") ++ (open_record (codes "</C></B><D></D><B></B>")))
    (AtStop reason.NotOpen)
    [])
    ∷ ((comes usual (whole_record (codes "<!DOCTYPE D [<!ELEMENT D O O ((A,B)+,C?) +(C)><!ELEMENT A O O (C?)><!ELEMENT B - - (A?,C)><!ELEMENT C - O (#PCDATA)><!ATTLIST C X CDATA #CURRENT>]>") ++ (whole_record (codes "<A></C>") ++ (open_record (codes "</B></D>&#65;"))))
    (AtStop reason.NotOpen)
    (StartLine (codes "D") ∷ (StartLine (codes "A") ∷ [])))
    ∷ ((comes usual (whole_record (codes "<!DOCTYPE D [<!ELEMENT D O O ((A,B)+,C?)><!ELEMENT A O - EMPTY><!ELEMENT B O O (A?,C)><!ELEMENT C O - (#PCDATA)><!ATTLIST C X CDATA x>]>") ++ (open_record (codes "</B></C><A><D></D>")))
    (AtStop reason.NotOpen)
    [])
    ∷ ((comes usual (whole_record (codes "<!DOCTYPE D [<!ELEMENT D - O EMPTY><!NOTATION n SYSTEM><!ATTLIST D A NOTATION (n|m) n>]>") ++ (whole_record (codes "<D n>")))
    AtFinish
    (DefineNotation (codes "N") ∷ (NotationLine (codes "A") (codes "N") ∷ (StartLine (codes "D") ∷ (FinishLine (codes "D") ∷ (ConformingLine ∷ []))))))
    ∷ ((comes usual (whole_record (codes "<!DOCTYPE D [<!ELEMENT D - O EMPTY><!ATTLIST D A (u|v) #FIXED \"U \">]>") ++ (whole_record (codes "<D A=u>")))
    AtFinish
    (TokenLine (codes "A") ((codes "U") ∷ []) ∷ (StartLine (codes "D") ∷ (FinishLine (codes "D") ∷ (ConformingLine ∷ [])))))
    ∷ ((comes usual (whole_record (codes "<!DOCTYPE D [<!ELEMENT D O O (P+)><!ELEMENT P - O (#PCDATA)><!ATTLIST P I ID #IMPLIED R IDREFS a>]>") ++ (whole_record (codes "<P><P I=A>")))
    AtFinish
    (StartLine (codes "D") ∷ (ImpliedLine (codes "I") ∷ (TokenLine (codes "R") ((codes "A") ∷ []) ∷ (StartLine (codes "P") ∷ (FinishLine (codes "P") ∷ (TokenLine (codes "I") ((codes "A") ∷ []) ∷ (TokenLine (codes "R") ((codes "A") ∷ []) ∷ (StartLine (codes "P") ∷ (FinishLine (codes "P") ∷ (FinishLine (codes "D") ∷ (ConformingLine ∷ []))))))))))))
    ∷ ((comes usual (whole_record (codes "<!DOCTYPE D [<!ELEMENT D - O EMPTY><!NOTATION n SYSTEM 'n'><!ENTITY c CDATA 'c'><!ENTITY s SDATA 's'><!ENTITY x SYSTEM 'x' CDATA n><!ENTITY t 't'><!ENTITY p PI 'p'><!ATTLIST D A ENTITY c>]>") ++ (whole_record (codes "<D A=x>")))
    AtFinish
    (SystemLine (codes "n") ∷ (DefineNotation (codes "N") ∷ (SystemLine (codes "x") ∷ (DefineExternal (codes "x") Cdata (codes "N") ∷ (EntityLine (codes "A") ((codes "x") ∷ []) ∷ (StartLine (codes "D") ∷ (FinishLine (codes "D") ∷ (ConformingLine ∷ [])))))))))
    ∷ ((comes usual (whole_record (codes "<!DOCTYPE X [<!ELEMENT X O O (D|R)+><!ELEMENT D O O (#PCDATA)><!ELEMENT R - O RCDATA><!ATTLIST D A CDATA #IMPLIED><!ENTITY e \"<!\"><!ENTITY f SYSTEM 'f.ent'>]>") ++ (whole_record (codes "<D><![RCDATA[&e;]]></D>")))
    AtFinish
    (StartLine (codes "X") ∷ (ImpliedLine (codes "A") ∷ (StartLine (codes "D") ∷ (CharsLine (map (λ b. Plain b) (codes "<!")) ∷ (FinishLine (codes "D") ∷ (FinishLine (codes "X") ∷ (ConformingLine ∷ []))))))))
    ∷ ((comes usual (whole_record (codes "<!DOCTYPE D [<!ELEMENT D - O EMPTY><!ATTLIST D A CDATA #IMPLIED B (U|V) #IMPLIED C NAMES #IMPLIED>]>") ++ (whole_record (codes "<D a = 2 v>")))
    AtFinish
    (CdataLine (codes "A") (map (λ b. Plain b) (codes "2")) ∷ (TokenLine (codes "B") ((codes "V") ∷ []) ∷ (ImpliedLine (codes "C") ∷ (StartLine (codes "D") ∷ (FinishLine (codes "D") ∷ (ConformingLine ∷ [])))))))
    ∷ ((comes usual (whole_record (codes "<!DOCTYPE X [<!ELEMENT X O O (D|R)+><!ELEMENT D O O (#PCDATA)><!ELEMENT R - O RCDATA><!ATTLIST D A CDATA #IMPLIED><!ENTITY e \"</D>\"><!ENTITY f SYSTEM 'f.ent'>]>") ++ (whole_record (codes "<D>&e;")))
    AtFinish
    (StartLine (codes "X") ∷ (ImpliedLine (codes "A") ∷ (StartLine (codes "D") ∷ (FinishLine (codes "D") ∷ (FinishLine (codes "X") ∷ (ConformingLine ∷ [])))))))
    ∷ ((comes usual (whole_record (codes "<!DOCTYPE X [<!ELEMENT X O O (D|R)+><!ELEMENT D O O (#PCDATA)><!ELEMENT R - O RCDATA><!ATTLIST D A CDATA #IMPLIED><!ENTITY e \"<D>\"><!ENTITY f SYSTEM 'f.ent'>]>") ++ (whole_record (codes "<D A='&e;'>")))
    AtFinish
    (StartLine (codes "X") ∷ (CdataLine (codes "A") (map (λ b. Plain b) (codes "<D>")) ∷ (StartLine (codes "D") ∷ (FinishLine (codes "D") ∷ (FinishLine (codes "X") ∷ (ConformingLine ∷ [])))))))
    ∷ ((comes usual (whole_record (codes "<!DOCTYPE X [<!ELEMENT X O O (D|R)+><!ELEMENT D O O (#PCDATA)><!ELEMENT R - O RCDATA><!ATTLIST D A CDATA #IMPLIED><!ENTITY e \"<![INCLUDE[\"><!ENTITY f SYSTEM 'f.ent'>]>") ++ (whole_record (codes "<D A='&e;'>")))
    AtFinish
    (StartLine (codes "X") ∷ (CdataLine (codes "A") (map (λ b. Plain b) (codes "<![INCLUDE[")) ∷ (StartLine (codes "D") ∷ (FinishLine (codes "D") ∷ (FinishLine (codes "X") ∷ (ConformingLine ∷ [])))))))
    ∷ ((comes usual (whole_record (codes "<!DOCTYPE D [<!ELEMENT D - O EMPTY><!NOTATION n SYSTEM><!ATTLIST D A NOTATION (n|m) #IMPLIED>]>") ++ (whole_record (codes "<D n>")))
    AtFinish
    (DefineNotation (codes "N") ∷ (NotationLine (codes "A") (codes "N") ∷ (StartLine (codes "D") ∷ (FinishLine (codes "D") ∷ (ConformingLine ∷ []))))))
    ∷ [])))))))))))))))

-- forms that meet: entities with markup in RCDATA, NET, notations, values of entities, record ends beside inclusions
abbrev pub aimed_second : List Document
aimed_second =
    (comes usual (whole_record (codes "<!DOCTYPE D [<!ELEMENT D O O (A,(B,C)?) -(C)><!ELEMENT A - - (C,C)><!ELEMENT B O O (A?,C)><!ELEMENT C O O (#PCDATA)><!ATTLIST C X CDATA #CURRENT>]>") ++ (whole_record (codes "") ++ (open_record (codes "&#65;</D>"))))
    (AtStop reason.OmitUndeclared)
    [])
    ∷ ((comes usual (whole_record (codes "<!DOCTYPE D [<!ELEMENT D O O (A?,B)><!ELEMENT A O - (C)><!ELEMENT B O O (C+)><!ELEMENT C - - (#PCDATA)><!ATTLIST C X CDATA x>]>") ++ (open_record (codes "x</C>")))
    (AtStop reason.OmitUndeclared)
    [])
    ∷ ((comes usual (whole_record (codes "<!DOCTYPE D [<!ELEMENT D O O (P|Q|C|E)*><!ELEMENT P - - (#PCDATA|Q)*><!ELEMENT Q - O (P?,E?)><!ELEMENT C - O CDATA><!ELEMENT E - O EMPTY>]>") ++ (whole_record (codes "<P>")))
    (AtStop reason.OmitUndeclared)
    (StartLine (codes "D") ∷ (StartLine (codes "P") ∷ [])))
    ∷ ((comes usual (whole_record (codes "<!DOCTYPE D [<!ELEMENT D - O EMPTY><!NOTATION n SYSTEM 'n'><!ENTITY c CDATA 'c'><!ENTITY s SDATA 's'><!ENTITY x SYSTEM 'x' NDATA n><!ENTITY t 't'><!ENTITY p PI 'p'><!ATTLIST D A ENTITY none>]>") ++ (whole_record (codes "<D A=p>")))
    (AtStop reason.EntityUnknown)
    [])
    ∷ ((comes usual (whole_record (codes "<!DOCTYPE D [<!ELEMENT D - O EMPTY><!NOTATION n SYSTEM 'n'><!ENTITY c CDATA 'c'><!ENTITY s SDATA 's'><!ENTITY x SYSTEM 'x' CDATA n><!ENTITY t 't'><!ENTITY p PI 'p'><!ATTLIST D A ENTITY none>]>") ++ (whole_record (codes "<D>")))
    (AtStop reason.EntityUnknown)
    [])
    ∷ ((comes usual (whole_record (codes "<!DOCTYPE D [<!ELEMENT D - O EMPTY><!NOTATION n SYSTEM 'n'><!ENTITY c CDATA 'c'><!ENTITY s SDATA 's'><!ENTITY x SYSTEM 'x' CDATA n><!ENTITY t 't'><!ENTITY p PI 'p'><!ATTLIST D A ENTITIES #IMPLIED>]>") ++ (whole_record (codes "<D A=t>")))
    (AtStop reason.EntityUnknown)
    [])
    ∷ ((comes usual (whole_record (codes "<!DOCTYPE D [<!ELEMENT D - O EMPTY><!ATTLIST D A CDATA #IMPLIED B (U|V) #IMPLIED C NAMES #IMPLIED>]>") ++ (whole_record (codes "<D a = 2 b='u' B=V C=\"x y\">")))
    (AtStop reason.Twice)
    [])
    ∷ ((comes usual (whole_record (codes "<!DOCTYPE D [<!ELEMENT D - O EMPTY><!ATTLIST D A CDATA #IMPLIED B (U|V) #IMPLIED C NAMES #IMPLIED>]>") ++ (whole_record (codes "<D u v C=\"x y\">")))
    (AtStop reason.Twice)
    [])
    ∷ ((comes usual (whole_record (codes "<!DOCTYPE D [<!ELEMENT D - O EMPTY><!ATTLIST D A CDATA #IMPLIED B (U|V) #IMPLIED C NAMES #IMPLIED>]>") ++ (whole_record (codes "<D v u a = 2 A=1>")))
    (AtStop reason.Twice)
    [])
    ∷ ((comes usual (whole_record (codes "<!DOCTYPE D [<!ELEMENT D O O (P|Q|C|E)*><!ELEMENT P - - (#PCDATA|Q)*><!ELEMENT Q - O (P?,E?)><!ELEMENT C - O CDATA><!ELEMENT E - O EMPTY>]>") ++ (whole_record (codes "a")))
    (AtStop reason.EmptyInferred)
    [])
    ∷ ((comes usual (whole_record (codes "<!DOCTYPE D [<!ELEMENT D O O (P|Q|C|E)*><!ELEMENT P - O (#PCDATA|Q)*><!ELEMENT Q - O (P?,E?)><!ELEMENT C - O CDATA><!ELEMENT E - O EMPTY>]>") ++ (whole_record (codes "/<P><E/</Q>")))
    (AtStop reason.EmptyInferred)
    [])
    ∷ ((comes usual (whole_record (codes "<!DOCTYPE D [<!ELEMENT D - O EMPTY><!NOTATION n SYSTEM 'n'><!ENTITY c CDATA 'c'><!ENTITY s SDATA 's'><!ENTITY x SYSTEM 'x' CDATA n><!ENTITY t 't'><!ENTITY p PI 'p'><!ATTLIST D A ENTITY #REQUIRED>]>") ++ (whole_record (codes "<D A=\"c s\">")))
    (AtStop reason.NotAToken)
    [])
    ∷ ((comes usual (whole_record (codes "<!DOCTYPE D [<!ELEMENT D - O (A,B) +(C)><!ELEMENT A O - (C?)><!ELEMENT B - O (C+)><!ELEMENT C O - (#PCDATA)><!ATTLIST C X CDATA #REQUIRED>]>") ++ (open_record (codes "<D><C></A><D><D>")))
    (AtStop reason.Required)
    (StartLine (codes "D") ∷ []))
    ∷ ((comes usual (whole_record (codes "<!DOCTYPE D [<!ELEMENT D - O EMPTY><!NOTATION n SYSTEM><!ATTLIST D A NOTATION (n|m) m>]>") ++ (whole_record (codes "<D A='m'>")))
    (AtStop reason.NotationUnknown)
    [])
    ∷ ((comes usual (whole_record (codes "<!DOCTYPE D [<!ELEMENT D - O EMPTY><!NOTATION n SYSTEM><!ATTLIST D A NOTATION (n|m) n>]>") ++ (whole_record (codes "<D m>")))
    (AtStop reason.NotationUnknown)
    [])
    ∷ ((comes usual (whole_record (codes "<!DOCTYPE D [<!ELEMENT D - O EMPTY><!NOTATION n SYSTEM><!ATTLIST D A NOTATION (n|m) #IMPLIED>]>") ++ (whole_record (codes "<D m>")))
    (AtStop reason.NotationUnknown)
    [])
    ∷ [])))))))))))))))

-- forms that meet: entities with markup in RCDATA, NET, notations, values of entities, record ends beside inclusions
abbrev pub aimed_third : List Document
aimed_third =
    (comes usual (whole_record (codes "<!DOCTYPE P [<!ELEMENT P O O (#PCDATA|Q)* +(I)><!ELEMENT (Q|I) - O (#PCDATA)><!ENTITY e '") ++ (whole_record (codes "a'><!ENTITY c CDATA ''><!NOTATION o SYSTEM 'o'><!ENTITY n SYSTEM 'n' NDATA o>]>") ++ (whole_record (codes "<P>&#RE;&#RS;]]></I><?p><Q></P>"))))
    (AtStop reason.SectionNone)
    (StartLine (codes "P") ∷ []))
    ∷ ((comes usual (whole_record (codes "<!DOCTYPE P [<!ELEMENT P O O (#PCDATA|Q)* +(I)><!ELEMENT (Q|I) - O (#PCDATA)><!ENTITY e '") ++ (whole_record (codes "'><!ENTITY c CDATA ''><!NOTATION o SYSTEM 'o'><!ENTITY n SYSTEM 'n' NDATA o>]>") ++ (whole_record (codes "<P>") ++ (whole_record (codes "<?p>]]>a]]><![IGNORE[x]]></P>")))))
    (AtStop reason.SectionNone)
    (StartLine (codes "P") ∷ (PiLine (codes "p") ∷ [])))
    ∷ ((comes usual (whole_record (codes "<!DOCTYPE P [<!ELEMENT P O O (#PCDATA|Q)* +(I)><!ELEMENT (Q|I) - O (#PCDATA)><!ENTITY e '") ++ (whole_record (codes "'><!ENTITY c CDATA ''><!NOTATION o SYSTEM 'o'><!ENTITY n SYSTEM 'n' NDATA o>]>") ++ (whole_record (codes "<P>a<![INCLUDE[&c;&c;<![INCLUDE[ &c;<?p>&#RS;</P>"))))
    (AtStop reason.SectionOpen)
    (StartLine (codes "P") ∷ (CharsLine (map (λ b. Plain b) (codes "a ")) ∷ (PiLine (codes "p") ∷ (FinishLine (codes "P") ∷ [])))))
    ∷ ((comes usual (whole_record (codes "<!DOCTYPE P [<!ELEMENT P O O (#PCDATA|Q)* +(I)><!ELEMENT (Q|I) - O (#PCDATA)><!ENTITY e ''><!ENTITY c CDATA ''><!NOTATION o SYSTEM 'o'><!ENTITY n SYSTEM 'n' NDATA o>]>") ++ (whole_record (codes "<P>") ++ (whole_record (codes "<Q><?p><![INCLUDE[&#RS;&#RE;&#RS;</P>"))))
    (AtStop reason.SectionOpen)
    (StartLine (codes "P") ∷ (StartLine (codes "Q") ∷ (PiLine (codes "p") ∷ (FinishLine (codes "Q") ∷ (FinishLine (codes "P") ∷ []))))))
    ∷ ((comes usual (whole_record (codes "<!DOCTYPE P [<!ELEMENT P O O (#PCDATA|Q)* +(I)><!ELEMENT (Q|I) - O (#PCDATA)><!ENTITY e 'a") ++ (whole_record (codes "'><!ENTITY c CDATA ''><!NOTATION o SYSTEM 'o'><!ENTITY n SYSTEM 'n' NDATA o>]>") ++ (whole_record (codes "<P>&#RE;&#RE;") ++ (whole_record (codes "<![INCLUDE[<![IGNORE[x]]><I>&n;</P>")))))
    (AtStop reason.SectionOpen)
    (StartLine (codes "P") ∷ (CharsLine (map (λ b. Plain b) (13 ∷ [])) ∷ (StartLine (codes "I") ∷ (SystemLine (codes "o") ∷ (DefineNotation (codes "O") ∷ (SystemLine (codes "n") ∷ (DefineExternal (codes "n") Ndata (codes "O") ∷ (DataRefLine (codes "n") ∷ (FinishLine (codes "I") ∷ (FinishLine (codes "P") ∷ [])))))))))))
    ∷ ((comes usual (whole_record (codes "<!DOCTYPE D [<!ELEMENT D - O EMPTY><!ATTLIST D A NUMBER #FIXED \" 1\">]>") ++ (whole_record (codes "<D A=01>")))
    (AtStop reason.FixedDiffers)
    [])
    ∷ ((comes usual (whole_record (codes "<!DOCTYPE D [<!ELEMENT D - O EMPTY><!ATTLIST D A (u|v) #FIXED v>]>") ++ (whole_record (codes "<D A=u>")))
    (AtStop reason.FixedDiffers)
    [])
    ∷ ((comes usual (whole_record (codes "<!DOCTYPE D [<!ELEMENT D - O EMPTY><!ATTLIST D A (u|v) #FIXED \"U \">]>") ++ (whole_record (codes "<D A=v>")))
    (AtStop reason.FixedDiffers)
    [])
    ∷ ((comes usual (whole_record (codes "<!DOCTYPE D [<!ELEMENT D - O EMPTY><!NOTATION n SYSTEM><!ATTLIST D A NOTATION (n|m) k>]>") ++ (whole_record (codes "<D>")))
    (AtStop reason.NotInGroup)
    [])
    ∷ ((comes usual (whole_record (codes "<!DOCTYPE X [<!ELEMENT X O O (D|R)+><!ELEMENT D O O (#PCDATA)><!ELEMENT R - O RCDATA><!ATTLIST D A CDATA #IMPLIED><!ENTITY e \"<D A='\"><!ENTITY f SYSTEM 'f.ent'>]>") ++ (whole_record (codes "<D>&e;x")))
    (AtStop reason.Unclosed)
    (StartLine (codes "X") ∷ (ImpliedLine (codes "A") ∷ (StartLine (codes "D") ∷ []))))
    ∷ [])))))))))
