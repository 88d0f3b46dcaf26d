-- The SGML declaration of a document (13).
use Rattle.std.specs.Prelude.{ℕ, Bool, ◌&&◌, List, length, drop, take, Result, Ok, Err, codes, nat_lt, if◌then◌else◌}
use Rattle.sgml_scan.specs.text.declared.reason.Reason.{Reason}
use Rattle.sgml_scan.specs.text.declared.reason.Reason.TheVariants as reason
use Rattle.sgml_scan.specs.text.declared.name_set.NameSet.{NameSet}
use Rattle.sgml_scan.specs.syntax.declared.syntax.Syntax.{Syntax}
use Rattle.sgml_scan.specs.delim.Tables.{begins}
use Rattle.sgml_sgmldecl.specs.declared.feature.Feature.{Feature}
use Rattle.sgml_sgmldecl.specs.declared.feature.Feature.TheVariants as feature
use Rattle.sgml_sgmldecl.specs.declared.feature.DeclError.{DeclError}
use Rattle.sgml_sgmldecl.specs.declared.feature.DeclError.TheVariants as errors
use Rattle.sgml_sgmldecl.specs.Machine.{Outcome, bad, whole, run, begin_state}
use Rattle.sgml_sgmldecl.specs.Refusing.{answer}
use Rattle.sgml_theory_reading.specs.decl_parts.Bytes.{name_length}
use Rattle.sgml_scan.specs.text.Characters.{is_word, all_sgml}
use Rattle.sgml_theory_reading.specs.Pieces.{Piece, Sgml}
use Rattle.sgml_theory_spelling.specs.Sized.{sized}

-- THE SGML DECLARATION (13), where only separators stand before it
abbrev pub feature_reason : Feature → Reason
feature_reason feature.Datatag = reason.DatatagOut
feature_reason feature.Rank = reason.RankOut
feature_reason feature.Link = reason.LinkOut
feature_reason feature.Concur = reason.ConcurOut
feature_reason feature.Subdoc = reason.SubdocOut
feature_reason feature.Other = reason.OtherOut

abbrev pub declaration_reason : DeclError → Reason
declaration_reason (errors.BadDeclaration at) = reason.BadDeclaration
declaration_reason (errors.FeatureOut which at) = feature_reason which
declaration_reason (errors.QuantityOut name number at) = reason.QuantityOut
declaration_reason errors.Memory = reason.BadDeclaration

abbrev pub sgml_of : List ℕ → Result (Syntax × ℕ) DeclError → Result Piece Reason
sgml_of bytes (Err e) = Err (declaration_reason e)
sgml_of bytes (Ok x) = if all_sgml (take x.1 bytes) then Ok (sized x.1 (Sgml x.0)) else Err reason.NonSgml

abbrev pub sgml_by : List ℕ → Outcome → Result Piece Reason
sgml_by bytes (bad at) = Err reason.BadDeclaration
sgml_by bytes (whole heard n) = sgml_of bytes (answer heard n)

unfoldable pub sgml_piece : List ℕ → Result Piece Reason
sgml_piece bytes = sgml_by bytes (run 0 begin_state bytes)

-- the keyword after `<!`, in any letter case (13.4.7)
abbrev pub has_keyword : NameSet → List ℕ → List ℕ → Bool
has_keyword names word bytes = is_word word (take (name_length names (drop 2 bytes)) (drop 2 bytes))

abbrev pub keyword_ends : NameSet → List ℕ → Bool
keyword_ends names bytes = nat_lt (name_length names (drop 2 bytes)) (length (drop 2 bytes))

abbrev pub begins_sgml : NameSet → List ℕ → Bool
begins_sgml names bytes = begins (codes "<!") bytes && has_keyword names (codes "SGML") bytes

-- elsewhere one that is of the form has no place, whatever it asks for
abbrev pub misplaced : Result Piece Reason → Reason
misplaced (Err reason.BadDeclaration) = reason.DeclarationSyntax
misplaced x = reason.DeclarationPlace
