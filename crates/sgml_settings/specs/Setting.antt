-- What a run is set to before its document is read: by its catalog, and by the SGML declaration that the catalog names (TR9401; that
-- this is read directly after the catalog is the profile's).
use Rattle.std.specs.Prelude.{◌≡◌, ℕ, List, [], Option, Some, None, Result, Ok, Err, ⊤, IfSome}
use Rattle.sgml_text.specs.declared.reason.Reason.{Reason}
use Rattle.sgml_text.specs.declared.reason.Reason.TheVariants as reason
use Rattle.sgml_syntax.specs.declared.syntax.Syntax.{Syntax}
use Rattle.sgml_catalog.specs.declared.entry.Entry.{Entry}
use Rattle.sgml_catalog.specs.Resolving.{IsReadAs, declaration_of}
use Rattle.sgml_declared.specs.theory_reading.Names.{Name, Text}
use Rattle.sgml_declared.specs.theory_reading.Unread.{Fetched, NotThere, TooLarge, Found}
use Rattle.sgml_declared.specs.Files.{placed}
use Rattle.sgml_source.specs.Inputs.{Files, most_bytes, fetched_in}
use Rattle.sgml_settings.specs.BadFiles.{catalog_number, declaration_number, bad_file, absent, too_large}
use Rattle.sgml_settings.specs.Declarations.{Declares, IsNoDeclaration}
use Rattle.sgml_settings.specs.declared.bad_file.BadFile.{BadFile}
use Rattle.sgml_settings.specs.declared.bad_file.SettingsError.{SettingsError}
use Rattle.sgml_settings.specs.declared.bad_file.SettingsError.TheVariants as error
use Rattle.sgml_settings.specs.declared.setting.Settings.{Settings}

-- THE ENTRIES of a catalog's text, or the place where it is no catalog
abbrev pub CatalogOf : Name → Text → Result (List Entry) BadFile → Type 0
CatalogOf name text (Ok entries) = IsReadAs text (Ok entries)
CatalogOf name text (Err bad) = (at : ℕ) × IsReadAs text (Err at) × (bad ≡ bad_file catalog_number name text at reason.BadCatalog)

abbrev pub ReadsCatalog : Name → Fetched → Result (List Entry) BadFile → Type 0
ReadsCatalog name NotThere result = result ≡ Err (absent catalog_number name)
ReadsCatalog name TooLarge result = result ≡ Err (too_large catalog_number name)
ReadsCatalog name (Found text) result = CatalogOf name text result

-- THE SYNTAX that a text declares, or the place where it doesn't
abbrev pub DeclarationOf : Name → Text → Result Syntax BadFile → Type 0
DeclarationOf name text (Ok syntax) = Declares text syntax
DeclarationOf name text (Err bad) = (at : ℕ) × (why : Reason) × IsNoDeclaration text at why × (bad ≡ bad_file declaration_number name text at why)

abbrev pub ReadsDeclaration : Name → Fetched → Result Syntax BadFile → Type 0
ReadsDeclaration name NotThere result = result ≡ Err (absent declaration_number name)
ReadsDeclaration name TooLarge result = result ≡ Err (too_large declaration_number name)
ReadsDeclaration name (Found text) result = DeclarationOf name text result

-- of a declaration that the catalog of this name may name so
abbrev pub some_of : Result Syntax BadFile → Result (Option Syntax) BadFile
some_of (Ok syntax) = Ok (Some syntax)
some_of (Err bad) = Err bad

abbrev pub ReadsNamed : Files → Name → Option Text → Result (Option Syntax) BadFile → Type 0
ReadsNamed files base None result = result ≡ Ok None
ReadsNamed files base (Some identifier) result =
    (read : Result Syntax BadFile) × ReadsDeclaration (placed base identifier) (fetched_in most_bytes files (placed base identifier)) read
    × (result ≡ some_of read)

-- without a catalog
abbrev pub unset : Settings
unset = record { catalog = []; catalog_base = []; declaration = None }

abbrev pub set_by : Name → List Entry → Result (Option Syntax) BadFile → Result Settings BadFile
set_by name entries (Ok declaration) = Ok (record { catalog = entries; catalog_base = name; declaration = declaration })
set_by name entries (Err bad) = Err bad

-- with a catalog of this name, which was read so
abbrev pub SetsWith : Files → Name → Result (List Entry) BadFile → Result Settings BadFile → Type 0
SetsWith files name (Err bad) result = result ≡ Err bad
SetsWith files name (Ok entries) result = (read : Result (Option Syntax) BadFile) × ReadsNamed files name (declaration_of entries) read × (result ≡ set_by name entries read)

-- WHAT IS SET, or the file that can't be read
abbrev pub Sets : Files → Option Name → Result Settings BadFile → Type 0
Sets files None result = result ≡ Ok unset
Sets files (Some name) result =
    (read : Result (List Entry) BadFile) × ReadsCatalog name (fetched_in most_bytes files name) read × SetsWith files name read result

-- so it is answered, unless the store failed or no memory was there
abbrev pub OrFails : {A : Type 0} → (Result A BadFile → Type 0) → Result A SettingsError → Type 0
OrFails P (Ok a) = P (Ok a)
OrFails P (Err (error.Refused bad)) = P (Err bad)
OrFails P (Err error.Store) = ⊤
OrFails P (Err error.Memory) = ⊤

-- over a store that tells its files, the declaration that is named so, if one is
abbrev pub ReadsNamedOver : Option Files → Name → Option Text → Result (Option Syntax) SettingsError → Type 0
ReadsNamedOver known base identifier result = IfSome known (λ files. OrFails (ReadsNamed files base identifier) result)
