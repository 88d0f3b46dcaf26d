-- A start-tag is one by its form, where it is scanned (7.4, 9.6).
use Rattle.std.specs.Prelude.{◌≡◌, ℕ, Bool, take, Ok}
use Rattle.sgml_starts.specs.syntax.declared.syntax.Syntax.{Syntax}
use Rattle.sgml_starts.specs.markup.declared.kinds.Form.TheVariants as form
use Rattle.sgml_starts.specs.markup.declared.kinds.TokenKind.TheVariants as kind
use Rattle.sgml_starts.specs.markup.Forms.{judged}
use Rattle.sgml_declared.specs.scan.declared.state.ScanState.{ScanState}
use Rattle.sgml_declared.specs.scan.Tokens.{IsScanned, token}
use Rattle.sgml_declared.specs.theory_reading.Names.{Text}

abbrev pub ScannedTagsAreTags : Type 0
ScannedTagsAreTags =
    (s : Syntax) (st : ScanState) (ended : Bool) (bytes : Text) (size : ℕ)
    → IsScanned s st ended bytes (token kind.StartTag size) → judged s form.StartTag (take size bytes) ≡ Ok kind.StartTag
