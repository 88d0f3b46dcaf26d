-- Bytes that begin nothing, whatever follows: the table of delimiters need not be asked at them.
use Rattle.std.specs.Prelude.{◌≡◌, ℕ, ◌≤◌, Bool, true, false, not, ◌==◌, ◌&&◌, Some, List, [], ◌∷◌, ◌⊎◌, length, slice_index_or}
use Rattle.sgml_text.specs.NameCharacters.{is_name_start}
use Rattle.sgml_syntax.specs.declared.syntax.Syntax.{Syntax}
use Rattle.sgml_delim.specs.declared.delim.Mode.{Mode}
use Rattle.sgml_delim.specs.declared.delim.Mode.TheVariants as m
use Rattle.sgml_shortref.specs.Matches.{begins_string}
use Rattle.sgml_scan.specs.declared.classes.Run.{Run}
use Rattle.sgml_scan.specs.declared.state.ScanState.{ScanState}
use Rattle.sgml_scan.specs.Classes.{class_of, run_of, is_data}
use Rattle.sgml_scan.specs.Openings.{matches_strings, is_con}

abbrev pub is_ds : Mode → Bool
is_ds m.Ds = true
is_ds _ = false

abbrev pub is_content : Mode → Bool
is_content m.Con = true
is_content m.Rcd = true
is_content m.Cdt = true
is_content m.Rcs = true
is_content m.Cds = true
is_content _ = false

-- content where no short reference string is matched
abbrev pub is_plain_content : ScanState → Bool
is_plain_content st = is_content st.mode && not (matches_strings st)

-- no delimiter of a scanned mode begins with this byte
abbrev pub is_quiet : ScanState → ℕ → Bool
is_quiet st b =
    not (b == 60) && not (b == 38) && not (b == 93) && not (st.net && (b == 47)) && not (is_ds st.mode && (b == 37))

-- a character of data in content with which no delimiter begins
abbrev pub is_text : Bool → ℕ → Bool
is_text net b = is_data b && not (b == 60) && not (b == 38) && not (b == 93) && not (net && (b == 47))

-- one with which no short reference string begins either
abbrev pub is_word : Bool → ℕ → Bool
is_word net b = is_text net b && not (begins_string b)

-- a byte of a stretch with which nothing else begins
pub record Sure (st : ScanState) (run : Run) (b : ℕ) : Type 0 where
  pub class : run_of (class_of st.mode b) ≡ Some run
  pub quiet : is_quiet st b ≡ true
  pub unmatched : (matches_strings st && begins_string b) ≡ false

-- the text is over, or a record end or start stands there
abbrev pub IsBound : List ℕ → Type 0
IsBound [] = Unit {0}
IsBound (b ∷ bytes) = (b ≡ 13) ⊎ (b ≡ 10)

-- the text is over, or a short reference string stands there
abbrev pub IsStringBound : List ℕ → Type 0
IsStringBound [] = Unit {0}
IsStringBound (b ∷ bytes) = begins_string b ≡ true

-- the text begins with `<` and a name start character, or `</` and one
pub record BeginsStart (s : Syntax) (mode : Mode) (text : List ℕ) : Type 0 where
  pub con : is_con mode ≡ true
  pub long : 2 ≤ length text
  pub stago : slice_index_or text 0 0 ≡ 60
  pub name : is_name_start s.names (slice_index_or text 1 0) ≡ true

pub record BeginsEnd (s : Syntax) (mode : Mode) (text : List ℕ) : Type 0 where
  pub con : is_con mode ≡ true
  pub long : 3 ≤ length text
  pub stago : slice_index_or text 0 0 ≡ 60
  pub slash : slice_index_or text 1 0 ≡ 47
  pub name : is_name_start s.names (slice_index_or text 2 0) ≡ true

-- the text begins with `&` and a name start character
pub record BeginsReference (s : Syntax) (mode : Mode) (text : List ℕ) : Type 0 where
  pub con : is_con mode ≡ true
  pub long : 2 ≤ length text
  pub ero : slice_index_or text 0 0 ≡ 38
  pub name : is_name_start s.names (slice_index_or text 1 0) ≡ true
