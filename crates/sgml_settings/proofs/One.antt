-- A run is set in one way.
use Rattle.std.proofs.Common.{◌≡◌, inl, inr, ℕ, ◌+◌, List, [], Option, None, Some, Result, Ok, Err, refl, sym, ap, ◌∙◌, subst}
use Rattle.sgml_text.specs.declared.reason.Reason.{Reason}
use Rattle.sgml_syntax.specs.declared.syntax.Syntax.{Syntax}
use Rattle.sgml_catalog.specs.declared.entry.Entry.{Entry}
use Rattle.sgml_catalog.specs.Entries.{told}
use Rattle.sgml_catalog.specs.Resolving.{IsReadAs, declaration_of}
use Rattle.sgml_settings.proofs.OneReading.{one_reading}
use Rattle.sgml_declared.specs.theory_reading.Names.{Name, Text}
use Rattle.sgml_declared.specs.theory_reading.Pieces.{Sgml, Kind, Piece}
use Rattle.sgml_declared.specs.theory_reading.Unread.{Fetched, NotThere, TooLarge, Found}
use Rattle.sgml_declared.specs.theory_spelling.Sized.{sized}
use Rattle.sgml_declared.specs.theory_spelling.SgmlDeclared.{sgml_piece}
use Rattle.sgml_declared.specs.Files.{placed}
use Rattle.sgml_source.specs.Inputs.{Files, most_bytes, fetched_in}
use Rattle.sgml_settings.specs.BadFiles.{catalog_number, declaration_number, bad_file}
use Rattle.sgml_settings.specs.Declarations.{separators, after_separators, behind, HasDeclaration, Declares, IsNoDeclaration}
use Rattle.sgml_settings.specs.Setting.{CatalogOf, ReadsCatalog, DeclarationOf, ReadsDeclaration, some_of, ReadsNamed, set_by, SetsWith, Sets}
use Rattle.sgml_settings.specs.declared.bad_file.BadFile.{BadFile}
use Rattle.sgml_settings.specs.declared.setting.Settings.{Settings}

ok-same : {A E : Type 0} (a b : A) (x y : Result A E) → x ≡ Ok a → y ≡ Ok b → x ≡ y → a ≡ b
ok-same a b x y h k e = cc

err-same : {A E : Type 0} (a b : E) (x y : Result A E) → x ≡ Err a → y ≡ Err b → x ≡ y → a ≡ b
err-same a b x y h k e = cc

not-both : {A E : Type 0} (a : A) (b : E) (x y : Result A E) → x ≡ Ok a → y ≡ Err b → x ≡ y → ⊥
not-both a b x y h k e = cc

-- of a catalog
one-read : (text : Text) (x y : Result (List Entry) ℕ) → IsReadAs text x → IsReadAs text y → x ≡ y
one-read text x y h k =
    let same = one_reading 0 text h.0 k.0 h.1 k.1 h.2 k.2 in
    sym h.3 ∙ ((λ i. told (same.0 i) (same.1 i)) ∙ k.3)

one-catalog-of : (name : Name) (text : Text) (x y : Result (List Entry) BadFile) → CatalogOf name text x → CatalogOf name text y → x ≡ y
one-catalog-of name text (Ok a) (Ok b) h k = ap Ok (ok-same a b (Ok a) (Ok b) refl refl (one-read text (Ok a) (Ok b) h k))
one-catalog-of name text (Ok a) (Err b) h k = absurd (not-both a k.0 (Ok a) (Err k.0) refl refl (one-read text (Ok a) (Err k.0) h k.1))
one-catalog-of name text (Err a) (Ok b) h k = absurd (not-both b h.0 (Ok b) (Err h.0) refl refl (one-read text (Ok b) (Err h.0) k h.1))
one-catalog-of name text (Err a) (Err b) h k =
    let same = err-same h.0 k.0 (Err h.0) (Err k.0) refl refl (one-read text (Err h.0) (Err k.0) h.1 k.1) in
    ap Err (h.2 ∙ ((λ i. bad_file catalog_number name text (same i) Rattle.sgml_text.specs.declared.reason.Reason.TheVariants.BadCatalog) ∙ sym k.2))

one-catalog : (name : Name) (f : Fetched) (x y : Result (List Entry) BadFile) → ReadsCatalog name f x → ReadsCatalog name f y → x ≡ y
one-catalog name NotThere x y h k = h ∙ sym k
one-catalog name TooLarge x y h k = h ∙ sym k
one-catalog name (Found text) x y h k = one-catalog-of name text x y h k

-- of an SGML declaration
piece-size : Result Piece Reason → ℕ
piece-size (Ok p) = p.size
piece-size (Err r) = 0

kind-syntax : Kind → Syntax → Syntax
kind-syntax (Sgml s) other = s
kind-syntax kind other = other

piece-syntax : Result Piece Reason → Syntax → Syntax
piece-syntax (Ok p) other = kind-syntax p.kind other
piece-syntax (Err r) other = other

same-syntax : (s t : Syntax) (n m : ℕ) (x y : Result Piece Reason) → x ≡ Ok (sized n (Sgml s)) → y ≡ Ok (sized m (Sgml t)) → x ≡ y → s ≡ t
unfolding piece-syntax kind-syntax
same-syntax s t n m x y h k e = ap (λ r. piece-syntax r s) (sym h ∙ (e ∙ k))

same-size : (s t : Syntax) (n m : ℕ) (x y : Result Piece Reason) → x ≡ Ok (sized n (Sgml s)) → y ≡ Ok (sized m (Sgml t)) → x ≡ y → n ≡ m
unfolding piece-size
same-size s t n m x y h k e = ap piece-size (sym h ∙ (e ∙ k))

one-has : (text : Text) (s t : Syntax) (n m : ℕ) → HasDeclaration text s n → HasDeclaration text t m → (s ≡ t) × (n ≡ m)
one-has text s t n m h k =
    let own = sgml_piece (after_separators text) in
    (same-syntax s t n m own own h k refl, same-size s t n m own own h k refl)

has-or-none : (text : Text) (s : Syntax) (n : ℕ) (why : Reason) → HasDeclaration text s n → sgml_piece (after_separators text) ≡ Err why → ⊥
has-or-none text s n why h k = not-both (sized n (Sgml s)) why (sgml_piece (after_separators text)) (sgml_piece (after_separators text)) h k refl

declares-or-none : (text : Text) (s : Syntax) (at : ℕ) (why : Reason) → Declares text s → IsNoDeclaration text at why → ⊥
declares-or-none text s at why d (inl n) = has-or-none text s d.size why d.has n.1
declares-or-none text s at why d (inr f) =
    let same = one-has text s f.0.syntax d.size f.0.size d.has f.0.has in
    f.0.other (subst (λ (n : ℕ). after_separators (behind text n) ≡ []) same.1 d.alone)

one-none : (text : Text) (at to : ℕ) (why how : Reason) → IsNoDeclaration text at why → IsNoDeclaration text to how → (at ≡ to) × (why ≡ how)
one-none text at to why how (inl h) (inl k) =
    (h.0 ∙ sym k.0, err-same why how (sgml_piece (after_separators text)) (sgml_piece (after_separators text)) h.1 k.1 refl)
one-none text at to why how (inl h) (inr k) = absurd (has-or-none text k.0.syntax k.0.size why k.0.has h.1)
one-none text at to why how (inr h) (inl k) = absurd (has-or-none text h.0.syntax h.0.size how h.0.has k.1)
one-none text at to why how (inr h) (inr k) =
    let same = one-has text h.0.syntax k.0.syntax h.0.size k.0.size h.0.has k.0.has in
    (h.0.at_other ∙ ((λ i. separators text + same.1 i + separators (behind text (same.1 i))) ∙ sym k.0.at_other), h.1 ∙ sym k.1)

one-declaration-of : (name : Name) (text : Text) (x y : Result Syntax BadFile) → DeclarationOf name text x → DeclarationOf name text y → x ≡ y
one-declaration-of name text (Ok s) (Ok t) h k = ap Ok ((one-has text s t h.size k.size h.has k.has).0)
one-declaration-of name text (Ok s) (Err b) h k = absurd (declares-or-none text s k.0 k.1 h k.2)
one-declaration-of name text (Err a) (Ok t) h k = absurd (declares-or-none text t h.0 h.1 k h.2)
one-declaration-of name text (Err a) (Err b) h k =
    let same = one-none text h.0 k.0 h.1 k.1 h.2 k.2 in
    ap Err (h.3 ∙ ((λ i. bad_file declaration_number name text (same.0 i) (same.1 i)) ∙ sym k.3))

one-declaration : (name : Name) (f : Fetched) (x y : Result Syntax BadFile) → ReadsDeclaration name f x → ReadsDeclaration name f y → x ≡ y
one-declaration name NotThere x y h k = h ∙ sym k
one-declaration name TooLarge x y h k = h ∙ sym k
one-declaration name (Found text) x y h k = one-declaration-of name text x y h k

one-named : (files : Files) (base : Name) (named : Option Text) (x y : Result (Option Syntax) BadFile) → ReadsNamed files base named x → ReadsNamed files base named y → x ≡ y
one-named files base None x y h k = h ∙ sym k
one-named files base (Some identifier) x y h k =
    let name = placed base identifier in
    h.2 ∙ (ap some_of (one-declaration name (fetched_in most_bytes files name) h.0 k.0 h.1 k.1) ∙ sym k.2)

-- and of both
one-with : (files : Files) (name : Name) (read : Result (List Entry) BadFile) (x y : Result Settings BadFile) → SetsWith files name read x → SetsWith files name read y → x ≡ y
one-with files name (Err bad) x y h k = h ∙ sym k
one-with files name (Ok entries) x y h k = h.2 ∙ (ap (set_by name entries) (one-named files name (declaration_of entries) h.0 k.0 h.1 k.1) ∙ sym k.2)

pub one-setting : (files : Files) (catalog : Option Name) (x y : Result Settings BadFile) → Sets files catalog x → Sets files catalog y → x ≡ y
one-setting files None x y h k = h ∙ sym k
one-setting files (Some name) x y h k =
    let same = one-catalog name (fetched_in most_bytes files name) h.0 k.0 h.1 k.1 in
    one-with files name k.0 x y (subst (λ (r : Result (List Entry) BadFile). SetsWith files name r x) same h.2) k.2
