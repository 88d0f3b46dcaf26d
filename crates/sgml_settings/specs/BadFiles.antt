-- Which files are read before the document, and where one can't be read.
use Rattle.std.specs.Prelude.{◌≡◌, ℕ, [], take, Result, Ok, Err, ⊤}
use Rattle.sgml_text.specs.Places.{line_column_of}
use Rattle.sgml_text.specs.declared.reason.Reason.{Reason}
use Rattle.sgml_text.specs.declared.reason.Reason.TheVariants as reason
use Rattle.sgml_declared.specs.theory_reading.Names.{Name, Text}
use Rattle.sgml_declared.specs.theory_reading.Unread.{Fetched, NotThere, TooLarge, Found}
use Rattle.sgml_settings.specs.declared.bad_file.BadFile.{BadFile}
use Rattle.sgml_settings.specs.declared.bad_file.SettingsError.{SettingsError}
use Rattle.sgml_settings.specs.declared.bad_file.SettingsError.TheVariants as error

-- the numbers that these files have in places (profile)
abbrev pub catalog_number : ℕ
catalog_number = 4294967295

abbrev pub declaration_number : ℕ
declaration_number = 4294967294

-- A FILE THAT CAN'T BE READ on from this offset of its text
abbrev pub bad_file : ℕ → Name → Text → ℕ → Reason → BadFile
bad_file number name text at why = record {
  refusal = record { place = record { entity = number; at = at }; reason = why };
  position = record { name = name; line = (line_column_of (take at text)).0; column = (line_column_of (take at text)).1 };
}

-- one that the store doesn't have, and one that is too large
abbrev pub absent : ℕ → Name → BadFile
absent number name = bad_file number name [] 0 reason.Absent

abbrev pub too_large : ℕ → Name → BadFile
too_large number name = bad_file number name [] 0 reason.EntityTooLarge

-- told so, unless no memory was there
abbrev pub IsBadFile : ℕ → Name → Text → ℕ → Reason → SettingsError → Type 0
IsBadFile number name text at why (error.Refused bad) = bad ≡ bad_file number name text at why
IsBadFile number name text at why error.Store = ⊥
IsBadFile number name text at why error.Memory = ⊤

-- the text of a file that was fetched so
abbrev pub IsUnread : ℕ → Name → Fetched → BadFile → Type 0
IsUnread number name NotThere bad = bad ≡ absent number name
IsUnread number name TooLarge bad = bad ≡ too_large number name
IsUnread number name (Found text) bad = ⊥

abbrev pub IsTextRead : ℕ → Name → Fetched → Result Text SettingsError → Type 0
IsTextRead number name fetched (Ok text) = fetched ≡ Found text
IsTextRead number name fetched (Err (error.Refused bad)) = IsUnread number name fetched bad
IsTextRead number name fetched (Err error.Store) = ⊤
IsTextRead number name fetched (Err error.Memory) = ⊤

-- a file isn't there
abbrev pub IsAbsentFile : {A : Type 0} → Result A SettingsError → Type 0
IsAbsentFile (Ok a) = ⊥
IsAbsentFile (Err (error.Refused bad)) = bad.refusal.reason ≡ reason.Absent
IsAbsentFile (Err error.Store) = ⊥
IsAbsentFile (Err error.Memory) = ⊥
