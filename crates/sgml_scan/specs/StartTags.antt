-- Start-tags (7.4) at the head of a text, with what they specify.
use Rattle.std.specs.Prelude.{◌≡◌, ℕ, ◌+◌, ◌≤◌, ◌<◌, Bool, true, List, ◌∷◌, length, take}
use Rattle.sgml_syntax.specs.declared.syntax.Syntax.{Syntax}
use Rattle.sgml_markup.specs.declared.kinds.Part.{Part}
use Rattle.sgml_markup.specs.declared.kinds.PartKind.TheVariants as part
use Rattle.sgml_markup.specs.declared.kinds.TokenKind.TheVariants as kind
use Rattle.sgml_markup.specs.Forms.{last_byte, parts_of_tag}
use Rattle.sgml_scan.specs.declared.starts.StartTag.{StartTag}
use Rattle.sgml_scan.specs.declared.state.ScanState.{ScanState}
use Rattle.sgml_scan.specs.Openings.{is_con}
use Rattle.sgml_scan.specs.Tokens.{token, IsScanned}

-- the name of one, which has so many bytes
abbrev pub start_name : ℕ → Part
start_name n = record { kind = part.ElementName; from = 1; to = 1 + n }

-- A START-TAG: in content it is the token of so many bytes, whatever follows; its first part is the name, and TAGC closes it
pub record IsStartTag (s : Syntax) (text : List ℕ) (t : StartTag) : Type 0 where
  pub scanned : (st : ScanState) (ended : Bool) → is_con st.mode ≡ true → IsScanned s st ended text (token kind.StartTag t.length)
  pub others : List Part
  pub parts : parts_of_tag s (take t.length text) ≡ start_name t.name ∷ others
  pub some : 0 < t.name
  pub named : 1 + t.name ≤ t.length
  pub within : t.length ≤ length text
  pub closed : last_byte (take t.length text) ≡ 62
