-- Tags that are a name alone (7.4, 7.5), at the head of a text.
use Rattle.std.specs.Prelude.{◌≡◌, ℕ, ◌+◌, ◌-◌, ◌<◌, Bool, true, false, List, [], ◌∷◌, ◌++◌, length, take}
use Rattle.sgml_text.specs.NameCharacters.{is_name_of}
use Rattle.sgml_syntax.specs.declared.syntax.Syntax.{Syntax}
use Rattle.sgml_markup.specs.declared.kinds.TokenKind.{TokenKind}
use Rattle.sgml_markup.specs.declared.kinds.PartKind.TheVariants as part
use Rattle.sgml_markup.specs.Forms.{last_byte, parts_of_tag}
use Rattle.sgml_markup.specs.References.{too_long}
use Rattle.sgml_scan.specs.declared.state.ScanState.{ScanState}
use Rattle.sgml_scan.specs.Openings.{is_con}
use Rattle.sgml_scan.specs.Tokens.{token, IsScanned}

-- a name that doesn't pass NAMELEN and TAGC, of so many bytes together
pub record BeginsLone (s : Syntax) (text : List ℕ) (n : ℕ) : Type 0 where
  pub name : List ℕ
  pub rest : List ℕ
  pub stands : is_name_of s.names name ≡ true
  pub short : too_long s (length name) ≡ false
  pub is : text ≡ name ++ 62 ∷ rest
  pub size : n ≡ length name + 1

-- A TAG OF THIS KIND that is a name alone: in content it is the token of so many bytes, whatever follows, and its one part is
-- the name, from this byte up to TAGC
pub record IsLoneTag (s : Syntax) (kind : TokenKind) (from : ℕ) (text : List ℕ) (n : ℕ) : Type 0 where
  pub scanned : (st : ScanState) (ended : Bool) → is_con st.mode ≡ true → IsScanned s st ended text (token kind n)
  pub parts : parts_of_tag s (take n text) ≡ record { kind = part.ElementName; from = from; to = n - 1 } ∷ []
  pub some : from < n - 1
  pub closed : last_byte (take n text) ≡ 62
