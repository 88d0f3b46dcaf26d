-- The SGML declaration of a document (13).
use Rattle.std.specs.Prelude.{◌≡◌, ℕ, ◌<◌, ◌≤◌, List, [], ◌∷◌, length, Result, Ok, Err}
use Rattle.sgml_text.specs.declared.reason.Reason.TheVariants as reason
use Rattle.sgml_text.specs.declared.error.RefusalError.{RefusalError}
use Rattle.sgml_text.specs.declared.error.RefusalError.TheVariants.{Refused, Memory}
use Rattle.sgml_syntax.specs.declared.syntax.Syntax.{Syntax}
use Rattle.sgml_entity.specs.Stack.{Stack, place_at}
use Rattle.sgml_sgmldecl.specs.declared.feature.DeclError.{DeclError}
use Rattle.sgml_sgmldecl.specs.declared.feature.DeclError.TheVariants as errors
use Rattle.sgml_dtd.specs.Doctypes.{nothing}
use Rattle.sgml_declared.specs.theory_reading.Pieces.{Sgml}
use Rattle.sgml_declared.specs.theory_reading.Facets.{stage_of_syntax}
use Rattle.sgml_declared.specs.theory_spelling.Sized.{sized}
use Rattle.sgml_declared.specs.theory_spelling.SgmlDeclared.{feature_reason, sgml_of, sgml_piece}
use Rattle.sgml_declared.specs.theory_standing.Kept.{Kept}

abbrev pub refusal_by : DeclError → RefusalError
refusal_by (errors.BadDeclaration at) = Refused reason.BadDeclaration
refusal_by (errors.FeatureOut which at) = Refused (feature_reason which)
refusal_by (errors.QuantityOut name number at) = Refused reason.QuantityOut
refusal_by errors.Memory = Memory

-- these bytes begin with the declaration of a syntax, whose own bytes are still to be SGML characters
abbrev pub IsSyntaxRead : List ℕ → Result (Syntax × ℕ) RefusalError → Type 0
IsSyntaxRead own (Ok x) = (0 < x.1) × (sgml_piece own ≡ sgml_of own (Ok x))
IsSyntaxRead own (Err (Refused r)) = sgml_piece own ≡ Err r
IsSyntaxRead own (Err Memory) = Unit {0}

-- they are the piece that tells it
abbrev pub IsSgmlRead : List ℕ → Result (Syntax × ℕ) RefusalError → Type 0
IsSgmlRead own (Ok x) = (0 < x.1) × (x.1 ≤ length own) × (sgml_piece own ≡ Ok (sized x.1 (Sgml x.0)))
IsSgmlRead own (Err (Refused r)) = sgml_piece own ≡ Err r
IsSgmlRead own (Err Memory) = Unit {0}

-- the document from this place on, where nothing else is read
abbrev pub document_at : Syntax → ℕ → ℕ → Stack
document_at syntax expand at = record { levels = syntax.quantities.entlvl; expand = expand; spent = 0; places = place_at 0 at ∷ [] }

-- nothing is declared but a syntax
abbrev pub restarted : Syntax → ℕ → ℕ → Kept → Kept
restarted syntax expand at k = record k { doctype = nothing syntax; stack = document_at syntax expand at; stage = stage_of_syntax k.stage }
