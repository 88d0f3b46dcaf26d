-- Resolving by the entries of a catalog (TR9401; the order is the profile's).
use Rattle.std.specs.Prelude.{ℕ, ◌≡◌, Bool, true, false, List, Option, Some, None, Result, Ok, Err, ⊤, find, is_some}
use Rattle.std.specs.Option.{option_map, option_or}
use Rattle.sgml_entity.specs.declared.kinds.External.{External}
use Rattle.sgml_catalog.specs.Words.{single}
use Rattle.sgml_catalog.specs.Tokens.{Spells}
use Rattle.sgml_catalog.specs.Entries.{told}
use Rattle.sgml_catalog.specs.Keys.{same_sort, holds_for}
use Rattle.sgml_catalog.specs.declared.token.Token.{Token}
use Rattle.sgml_catalog.specs.declared.token.End.{End}
use Rattle.sgml_catalog.specs.declared.entry.Entry.{Entry}
use Rattle.sgml_catalog.specs.declared.entry.Sort.{Sort}
use Rattle.sgml_catalog.specs.declared.entry.Sort.TheVariants as sorts
use Rattle.sgml_catalog.specs.declared.reading.CatalogError.{CatalogError}
use Rattle.sgml_catalog.specs.declared.reading.CatalogError.TheVariants.{BadCatalog, Memory}
use Rattle.sgml_catalog.specs.declared.catalog.Kind.{Kind}
use Rattle.sgml_catalog.specs.declared.catalog.Kind.TheVariants.{General, Parameter, Doctype, Notation}
use Rattle.sgml_catalog.specs.declared.catalog.Resolved.{Resolved}

abbrev pub sort_of : Kind → Sort
sort_of General = sorts.General
sort_of Parameter = sorts.Parameter
sort_of Doctype = sorts.Doctype
sort_of Notation = sorts.Notation

-- a SYSTEM entry equal to the system identifier that was declared
abbrev pub system_entry : List Entry → Option (List ℕ) → Option Entry
system_entry es None = None
system_entry es (Some system) = find (holds_for (sorts.System, false, system)) es

-- The first PUBLIC entry whose identifier is equal after white space is made single. Where a system identifier was declared, only entries
-- under OVERRIDE YES hold.
abbrev pub public_entry : List Entry → Option (List ℕ) → Bool → Option Entry
public_entry es None declared = None
public_entry es (Some public) declared = find (holds_for (sorts.Public, declared, single public)) es

-- the first entry of this kind and name, where OVERRIDE counts as before
abbrev pub named_entry : List Entry → Kind → List ℕ → Bool → Option Entry
named_entry es kind name declared = find (holds_for (sort_of kind, declared, name)) es

-- the entry that holds: of these the first that is there
abbrev pub entry_for : List Entry → External → Kind → List ℕ → Option Entry
entry_for es x kind name = option_or (system_entry es x.system) (option_or (public_entry es x.public (is_some x.system)) (named_entry es kind name (is_some x.system)))

abbrev pub answer_of : Option Entry → Option (List ℕ) → Option Resolved
answer_of (Some e) system = Some (record { text = e.file; from_catalog = true })
answer_of None None = None
answer_of None (Some system) = Some (record { text = system; from_catalog = false })

-- what the entry gives, or else the system identifier that was declared
abbrev pub resolved : List Entry → External → Kind → List ℕ → Option Resolved
resolved es x kind name = answer_of (entry_for es x kind name) x.system

-- the file of the first SGMLDECL entry
abbrev pub declaration_of : List Entry → Option (List ℕ)
declaration_of es = option_map (λ e. e.file) (find (λ e. same_sort sorts.Declaration e.sort) es)

-- the text spells tokens that tell these entries, or tell that it is refused at this place
abbrev pub IsReadAs : List ℕ → Result (List Entry) ℕ → Type 0
IsReadAs text r = (ts : List Token) × (e : End) × Spells 0 text ts e × (told ts e ≡ r)

-- what reading a catalog answers, but for want of memory
abbrev pub Reads : List ℕ → Result (List Entry) CatalogError → Type 0
Reads text (Ok es) = IsReadAs text (Ok es)
Reads text (Err (BadCatalog at)) = IsReadAs text (Err at)
Reads text (Err Memory) = ⊤
