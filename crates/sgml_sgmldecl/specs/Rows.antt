-- The table of an SGML declaration's words (13): for each thing that may be due, what may stand there, what it tells, and what is due next.
use Rattle.std.specs.Prelude.{true, false, List, [], ◌∷◌}
use Rattle.sgml_sgmldecl.specs.declared.due.Due.{Due}
use Rattle.sgml_sgmldecl.specs.declared.due.Due.TheVariants as due
use Rattle.sgml_sgmldecl.specs.declared.feature.Feature.TheVariants as f
use Rattle.sgml_sgmldecl.specs.declared.keyword.Keyword.TheVariants as k
use Rattle.sgml_sgmldecl.specs.declared.row.Row.{Row}
use Rattle.sgml_sgmldecl.specs.declared.row.Item.{Item}
use Rattle.sgml_sgmldecl.specs.declared.row.Item.TheVariants as i
use Rattle.sgml_sgmldecl.specs.declared.row.Content.TheVariants as c
use Rattle.sgml_sgmldecl.specs.declared.row.ListEnd.TheVariants as e
use Rattle.sgml_sgmldecl.specs.declared.row.Tells.{Tells}
use Rattle.sgml_sgmldecl.specs.declared.row.Tells.TheVariants as t

abbrev pub row : Item → Tells → Due → Row
row item tells next = record { item = item; tells = tells; then = next }

abbrev pub rows : Due → List Row
-- the whole declaration (13)
rows due.Heading = row (i.Literal c.Heading) t.Nothing due.Charset ∷ []
rows due.Charset = row (i.Word k.Charset) t.Nothing due.DocumentBase ∷ []
-- the document character set (13.1)
rows due.DocumentBase = row (i.Word k.Baseset) t.Nothing due.DocumentBaseName ∷ []
rows due.DocumentBaseName = row (i.Literal c.Any) t.Nothing due.DocumentDescset ∷ []
rows due.DocumentDescset = row (i.Word k.Descset) t.Nothing due.DocumentFirst ∷ []
rows due.DocumentFirst = row i.Number t.Nothing due.DocumentCount ∷ []
rows due.DocumentCount = row i.Number t.Nothing due.DocumentMeaning ∷ []
rows due.DocumentMeaning = row i.Number t.Nothing due.DocumentNext ∷ row (i.Literal c.Any) t.Nothing due.DocumentNext ∷ row (i.Word k.Unused) t.Nothing due.DocumentNext ∷ []
rows due.DocumentNext = row (i.Word k.Capacity) t.Nothing due.Capacity ∷ row (i.Word k.Baseset) t.Nothing due.DocumentBaseName ∷ row i.Number t.Nothing due.DocumentCount ∷ []
-- the capacity set (13.2)
rows due.Capacity = row (i.Word k.Public) t.Nothing due.CapacityName ∷ row (i.Word k.Sgmlref) t.Nothing due.CapacityList ∷ []
rows due.CapacityName = row (i.Literal c.Any) t.Nothing due.Scope ∷ []
rows due.CapacityList = row (i.Name e.Scope) t.Nothing due.CapacityNumber ∷ []
rows due.CapacityNumber = row i.Number t.Nothing due.CapacityList ∷ []
-- the scope (13.3)
rows due.Scope = row (i.Word k.Scope) t.Nothing due.ScopeValue ∷ []
rows due.ScopeValue = row (i.Word k.Document) t.Nothing due.Syntax ∷ row (i.Word k.Instance) (t.Out f.Other) due.Syntax ∷ []
-- the concrete syntax (13.4), a public one (13.4.1)
rows due.Syntax = row (i.Word k.Syntax) t.Nothing due.SyntaxForm ∷ []
rows due.SyntaxForm = row (i.Word k.Public) t.Nothing due.SyntaxName ∷ row (i.Word k.Shunchar) t.Nothing due.Shunned ∷ []
rows due.SyntaxName = row (i.Literal c.Any) t.PublicSyntax due.SyntaxNext ∷ []
rows due.SyntaxNext = row (i.Word k.Features) t.Nothing due.Minimize ∷ row (i.Word k.Switches) (t.Out f.Other) due.SwitchedFrom ∷ []
rows due.SwitchedFrom = row i.Number t.Nothing due.SwitchedTo ∷ []
rows due.SwitchedTo = row i.Number t.Nothing due.SwitchesNext ∷ []
rows due.SwitchesNext = row (i.Word k.Features) t.Nothing due.Minimize ∷ row i.Number t.Nothing due.SwitchedTo ∷ []
-- shunned characters (13.4.2)
rows due.Shunned = row (i.Word k.Baseset) t.Nothing due.SyntaxBaseName ∷ row (i.Word k.None) t.Nothing due.SyntaxBase ∷ row (i.Word k.Controls) t.Nothing due.ShunnedNext ∷ row i.Number t.Nothing due.ShunnedNext ∷ []
rows due.ShunnedNext = row (i.Word k.Baseset) t.Nothing due.SyntaxBaseName ∷ row i.Number t.Nothing due.ShunnedNext ∷ []
-- the syntax-reference character set (13.4.3)
rows due.SyntaxBase = row (i.Word k.Baseset) t.Nothing due.SyntaxBaseName ∷ []
rows due.SyntaxBaseName = row (i.Literal c.Any) t.Nothing due.SyntaxDescset ∷ []
rows due.SyntaxDescset = row (i.Word k.Descset) t.Nothing due.SyntaxFirst ∷ []
rows due.SyntaxFirst = row i.Number t.Nothing due.SyntaxCount ∷ []
rows due.SyntaxCount = row i.Number t.Nothing due.SyntaxMeaning ∷ []
rows due.SyntaxMeaning = row i.Number t.Nothing due.SyntaxSetNext ∷ row (i.Literal c.Any) t.Nothing due.SyntaxSetNext ∷ row (i.Word k.Unused) t.Nothing due.SyntaxSetNext ∷ []
rows due.SyntaxSetNext = row (i.Word k.Function) t.Nothing due.RecordEnd ∷ row (i.Word k.Baseset) t.Nothing due.SyntaxBaseName ∷ row i.Number t.Nothing due.SyntaxCount ∷ []
-- the function characters (13.4.4)
rows due.RecordEnd = row (i.Word k.Re) t.Nothing due.RecordEndNumber ∷ []
rows due.RecordEndNumber = row (i.Word k.Thirteen) t.Nothing due.RecordStart ∷ []
rows due.RecordStart = row (i.Word k.Rs) t.Nothing due.RecordStartNumber ∷ []
rows due.RecordStartNumber = row (i.Word k.Ten) t.Nothing due.Space ∷ []
rows due.Space = row (i.Word k.Space) t.Nothing due.SpaceNumber ∷ []
rows due.SpaceNumber = row (i.Word k.ThirtyTwo) t.Nothing due.Tab ∷ []
rows due.Tab = row (i.Word k.Tab) t.Nothing due.TabClass ∷ []
rows due.TabClass = row (i.Word k.Sepchar) t.Nothing due.TabNumber ∷ []
rows due.TabNumber = row (i.Word k.Nine) t.Nothing due.Naming ∷ []
-- the naming rules (13.4.5)
rows due.Naming = row (i.Word k.Naming) t.Nothing due.LowerStart ∷ []
rows due.LowerStart = row (i.Word k.Lcnmstrt) t.Nothing due.LowerStartMarks ∷ []
rows due.LowerStartMarks = row (i.Literal c.Marks) t.StartMarks due.UpperStart ∷ []
rows due.UpperStart = row (i.Word k.Ucnmstrt) t.Nothing due.UpperStartMarks ∷ []
rows due.UpperStartMarks = row (i.Literal c.SameMarks) t.Nothing due.LowerMore ∷ []
rows due.LowerMore = row (i.Word k.Lcnmchar) t.Nothing due.LowerMoreMarks ∷ []
rows due.LowerMoreMarks = row (i.Literal c.Marks) t.MoreMarks due.UpperMore ∷ []
rows due.UpperMore = row (i.Word k.Ucnmchar) t.Nothing due.UpperMoreMarks ∷ []
rows due.UpperMoreMarks = row (i.Literal c.SameMarks) t.Nothing due.Namecase ∷ []
rows due.Namecase = row (i.Word k.Namecase) t.Nothing due.General ∷ []
rows due.General = row (i.Word k.General) t.Nothing due.GeneralCase ∷ []
rows due.GeneralCase = row (i.Word k.No) (t.GeneralFold false) due.Entity ∷ row (i.Word k.Yes) (t.GeneralFold true) due.Entity ∷ []
rows due.Entity = row (i.Word k.Entity) t.Nothing due.EntityCase ∷ []
rows due.EntityCase = row (i.Word k.No) (t.EntityFold false) due.Delim ∷ row (i.Word k.Yes) (t.EntityFold true) due.Delim ∷ []
-- the delimiter set (13.4.6)
rows due.Delim = row (i.Word k.Delim) t.Nothing due.DelimGeneral ∷ []
rows due.DelimGeneral = row (i.Word k.General) t.Nothing due.DelimSet ∷ []
rows due.DelimSet = row (i.Word k.Sgmlref) t.Nothing due.Shortref ∷ []
rows due.Shortref = row (i.Word k.Shortref) t.Nothing due.ShortrefSet ∷ []
rows due.ShortrefSet = row (i.Word k.Sgmlref) (t.Shortrefs true) due.Names ∷ row (i.Word k.None) (t.Shortrefs false) due.Names ∷ []
-- the reserved names (13.4.7)
rows due.Names = row (i.Word k.Names) t.Nothing due.NamesSet ∷ []
rows due.NamesSet = row (i.Word k.Sgmlref) t.Nothing due.Quantity ∷ []
-- the quantity set (13.4.8)
rows due.Quantity = row (i.Word k.Quantity) t.Nothing due.QuantitySet ∷ []
rows due.QuantitySet = row (i.Word k.Sgmlref) t.Nothing due.QuantityList ∷ []
rows due.QuantityList = row (i.Name e.Features) t.QuantityName due.QuantityNumber ∷ []
rows due.QuantityNumber = row i.Number t.QuantityNumber due.QuantityList ∷ []
-- markup minimization (13.5.1)
rows due.Minimize = row (i.Word k.Minimize) t.Nothing due.Datatag ∷ []
rows due.Datatag = row (i.Word k.Datatag) t.Nothing due.DatatagValue ∷ []
rows due.DatatagValue = row (i.Word k.No) t.Nothing due.Omittag ∷ row (i.Word k.Yes) (t.Out f.Datatag) due.Omittag ∷ []
rows due.Omittag = row (i.Word k.Omittag) t.Nothing due.OmittagValue ∷ []
rows due.OmittagValue = row (i.Word k.No) (t.Omittag false) due.Rank ∷ row (i.Word k.Yes) (t.Omittag true) due.Rank ∷ []
rows due.Rank = row (i.Word k.Rank) t.Nothing due.RankValue ∷ []
rows due.RankValue = row (i.Word k.No) t.Nothing due.Shorttag ∷ row (i.Word k.Yes) (t.Out f.Rank) due.Shorttag ∷ []
rows due.Shorttag = row (i.Word k.Shorttag) t.Nothing due.ShorttagValue ∷ []
rows due.ShorttagValue = row (i.Word k.No) (t.Shorttag false) due.Link ∷ row (i.Word k.Yes) (t.Shorttag true) due.Link ∷ []
-- link types (13.5.2)
rows due.Link = row (i.Word k.Link) t.Nothing due.Simple ∷ []
rows due.Simple = row (i.Word k.Simple) t.Nothing due.SimpleValue ∷ []
rows due.SimpleValue = row (i.Word k.No) t.Nothing due.Implicit ∷ row (i.Word k.Yes) (t.Out f.Link) due.SimpleNumber ∷ []
rows due.SimpleNumber = row i.Number t.Nothing due.Implicit ∷ []
rows due.Implicit = row (i.Word k.Implicit) t.Nothing due.ImplicitValue ∷ []
rows due.ImplicitValue = row (i.Word k.No) t.Nothing due.Explicit ∷ row (i.Word k.Yes) (t.Out f.Link) due.Explicit ∷ []
rows due.Explicit = row (i.Word k.Explicit) t.Nothing due.ExplicitValue ∷ []
rows due.ExplicitValue = row (i.Word k.No) t.Nothing due.Other ∷ row (i.Word k.Yes) (t.Out f.Link) due.ExplicitNumber ∷ []
rows due.ExplicitNumber = row i.Number t.Nothing due.Other ∷ []
-- other features (13.5.3)
rows due.Other = row (i.Word k.Other) t.Nothing due.Concur ∷ []
rows due.Concur = row (i.Word k.Concur) t.Nothing due.ConcurValue ∷ []
rows due.ConcurValue = row (i.Word k.No) t.Nothing due.Subdoc ∷ row (i.Word k.Yes) (t.Out f.Concur) due.ConcurNumber ∷ []
rows due.ConcurNumber = row i.Number t.Nothing due.Subdoc ∷ []
rows due.Subdoc = row (i.Word k.Subdoc) t.Nothing due.SubdocValue ∷ []
rows due.SubdocValue = row (i.Word k.No) t.Nothing due.Formal ∷ row (i.Word k.Yes) (t.Out f.Subdoc) due.SubdocNumber ∷ []
rows due.SubdocNumber = row i.Number t.Nothing due.Formal ∷ []
rows due.Formal = row (i.Word k.Formal) t.Nothing due.FormalValue ∷ []
rows due.FormalValue = row (i.Word k.No) t.Nothing due.Appinfo ∷ row (i.Word k.Yes) t.Nothing due.Appinfo ∷ []
-- application-specific information (13.6)
rows due.Appinfo = row (i.Word k.Appinfo) t.Nothing due.AppinfoValue ∷ []
rows due.AppinfoValue = row (i.Word k.None) t.Nothing due.End ∷ row (i.Literal c.Any) t.Appinfo due.End ∷ []
rows due.End = row i.End t.Nothing due.End ∷ []
