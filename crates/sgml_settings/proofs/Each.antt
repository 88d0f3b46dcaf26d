-- Each run is set, or a file can't be read.
use Rattle.std.specs.Prelude.{if◌then◌else◌}
use Rattle.std.proofs.Common.{◌≡◌, ◌⊎◌, inl, inr, ℕ, ◌+◌, Bool, true, false, List, [], ◌∷◌, take, Option, None, Some, Result, Ok, Err, refl}
use Rattle.sgml_text.specs.Characters.{all_sgml}
use Rattle.sgml_text.specs.declared.reason.Reason.{Reason}
use Rattle.sgml_text.specs.declared.reason.Reason.TheVariants as reason
use Rattle.sgml_syntax.specs.declared.syntax.Syntax.{Syntax}
use Rattle.sgml_catalog.specs.declared.entry.Entry.{Entry}
use Rattle.sgml_catalog.specs.Resolving.{IsReadAs, declaration_of}
use Rattle.sgml_prolog.specs.sgmldecl.declared.feature.DeclError.{DeclError}
use Rattle.sgml_prolog.specs.sgmldecl.Machine.{Outcome, bad as no_whole, whole, run, begin_state}
use Rattle.sgml_prolog.specs.sgmldecl.Refusing.{answer}
use Rattle.sgml_declared.specs.theory_reading.Names.{Name, Text}
use Rattle.sgml_declared.specs.theory_reading.Pieces.{Piece, Sgml}
use Rattle.sgml_declared.specs.theory_reading.Unread.{Fetched, NotThere, TooLarge, Found}
use Rattle.sgml_declared.specs.theory_spelling.Sized.{sized}
use Rattle.sgml_declared.specs.theory_spelling.SgmlDeclared.{declaration_reason, sgml_of, sgml_by, sgml_piece}
use Rattle.sgml_declared.specs.Files.{placed}
use Rattle.sgml_source.specs.Inputs.{Files, most_bytes, fetched_in}
use Rattle.sgml_settings.proofs.Spelled.{each-text-is-read}
use Rattle.sgml_settings.specs.BadFiles.{catalog_number, declaration_number, bad_file, absent, too_large}
use Rattle.sgml_settings.specs.Declarations.{separators, after_separators, behind, HasDeclaration}
use Rattle.sgml_settings.specs.Setting.{CatalogOf, ReadsCatalog, DeclarationOf, ReadsDeclaration, some_of, ReadsNamed, unset, set_by, SetsWith, Sets}
use Rattle.sgml_settings.specs.declared.bad_file.BadFile.{BadFile}
use Rattle.sgml_settings.specs.declared.setting.Settings.{Settings}

-- of a catalog
catalog-by : (name : Name) (text : Text) (r : Result (List Entry) ℕ) → IsReadAs text r → (x : Result (List Entry) BadFile) × CatalogOf name text x
catalog-by name text (Ok entries) h = (Ok entries, h)
catalog-by name text (Err at) h = (Err (bad_file catalog_number name text at reason.BadCatalog), (at, h, refl))

each-catalog : (name : Name) (f : Fetched) → (x : Result (List Entry) BadFile) × ReadsCatalog name f x
each-catalog name NotThere = (Err (absent catalog_number name), refl)
each-catalog name TooLarge = (Err (too_large catalog_number name), refl)
each-catalog name (Found text) = let r = each-text-is-read text in catalog-by name text r.0 r.1

-- of an SGML declaration: one stands first, or none
abbrev Stands : Result Piece Reason → Type 0
Stands x = ((s : Syntax) × (n : ℕ) × (x ≡ Ok (sized n (Sgml s)))) ⊎ ((why : Reason) × (x ≡ Err why))

stands-if : (s : Syntax) (n : ℕ) (all : Bool) → Stands (if◌then◌else◌ all (Ok (sized n (Sgml s))) (Err reason.NonSgml))
stands-if s n true = inl (s, n, refl)
stands-if s n false = inr (reason.NonSgml, refl)

stands-of : (bytes : Text) (r : Result (Syntax × ℕ) DeclError) → Stands (sgml_of bytes r)
stands-of bytes (Err e) = inr (declaration_reason e, refl)
stands-of bytes (Ok x) = stands-if x.0 x.1 (all_sgml (take x.1 bytes))

stands-by : (bytes : Text) (o : Outcome) → Stands (sgml_by bytes o)
stands-by bytes (no_whole at) = inr (reason.BadDeclaration, refl)
stands-by bytes (whole heard n) = stands-of bytes (answer heard n)

stands : (bytes : Text) → Stands (sgml_piece bytes)
unfolding sgml_piece
stands bytes = stands-by bytes (run 0 begin_state bytes)

-- and nothing follows it, or something
abbrev Followed : Name → Text → Syntax → ℕ → Text → Type 0
Followed name text s n rest = HasDeclaration text s n → after_separators (behind text n) ≡ rest → (x : Result Syntax BadFile) × DeclarationOf name text x

not-empty : (b : ℕ) (bs own : Text) → own ≡ b ∷ bs → own ≡ [] → ⊥
not-empty b bs own e none = cc

followed : (name : Name) (text : Text) (s : Syntax) (n : ℕ) (rest : Text) → Followed name text s n rest
followed name text s n [] h e = (Ok s, record { size = n; has = h; alone = e })
followed name text s n (b ∷ bs) h e =
    let at = separators text + n + separators (behind text n) in (
      Err (bad_file declaration_number name text at reason.BadDeclaration),
      (
        at,
        reason.BadDeclaration,
        inr (record { syntax = s; size = n; has = h; other = not-empty b bs (after_separators (behind text n)) e; at_other = refl }, refl),
        refl,
      ),
    )

declaration-by : (name : Name) (text : Text) → Stands (sgml_piece (after_separators text)) → (x : Result Syntax BadFile) × DeclarationOf name text x
declaration-by name text (inl h) = followed name text h.0 h.1 (after_separators (behind text h.1)) h.2 refl
declaration-by name text (inr h) =
    (Err (bad_file declaration_number name text (separators text) h.0), (separators text, h.0, inl (refl, h.1), refl))

each-declaration : (name : Name) (f : Fetched) → (x : Result Syntax BadFile) × ReadsDeclaration name f x
each-declaration name NotThere = (Err (absent declaration_number name), refl)
each-declaration name TooLarge = (Err (too_large declaration_number name), refl)
each-declaration name (Found text) = declaration-by name text (stands (after_separators text))

each-named : (files : Files) (base : Name) (named : Option Text) → (x : Result (Option Syntax) BadFile) × ReadsNamed files base named x
each-named files base None = (Ok None, refl)
each-named files base (Some identifier) =
    let name = placed base identifier in
    let read = each-declaration name (fetched_in most_bytes files name) in
    (some_of read.0, (read.0, read.1, refl))

-- and of both
each-with : (files : Files) (name : Name) (read : Result (List Entry) BadFile) → (x : Result Settings BadFile) × SetsWith files name read x
each-with files name (Err bad) = (Err bad, refl)
each-with files name (Ok entries) =
    let read = each-named files name (declaration_of entries) in
    (set_by name entries read.0, (read.0, read.1, refl))

pub each-run-is-set : (files : Files) (catalog : Option Name) → (set : Result Settings BadFile) × Sets files catalog set
each-run-is-set files None = (Ok unset, refl)
each-run-is-set files (Some name) =
    let read = each-catalog name (fetched_in most_bytes files name) in
    let x = each-with files name read.0 in
    (x.0, (read.0, read.1, x.1))
