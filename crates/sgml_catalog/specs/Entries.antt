-- The entries that a catalog's tokens tell (TR9401).
use Rattle.std.specs.Prelude.{ℕ, Bool, true, false, ◌≡◌, ◌==◌, List, [], ◌∷◌, ◌++◌, Option, Some, None, Result, Ok, Err, ⊤, codes, if◌then◌else◌}
use Rattle.std.specs.Global.{Vec}
use Rattle.sgml_text.specs.Characters.{is_word}
use Rattle.sgml_catalog.specs.Keywords.{keyword_of, takes_two}
use Rattle.sgml_catalog.specs.declared.token.Token.{Token}
use Rattle.sgml_catalog.specs.declared.token.End.{End}
use Rattle.sgml_catalog.specs.declared.keyword.Keyword.{Keyword}
use Rattle.sgml_catalog.specs.declared.keyword.Keyword.TheVariants as keywords
use Rattle.sgml_catalog.specs.declared.entry.Entry.{Entry}
use Rattle.sgml_catalog.specs.declared.entry.Sort.{Sort}
use Rattle.sgml_catalog.specs.declared.entry.Sort.TheVariants.{System, Public, General, Parameter, Doctype, Notation, Declaration}
use Rattle.sgml_catalog.specs.declared.reading.CatalogState.{CatalogState}
use Rattle.sgml_catalog.specs.declared.reading.CatalogState.TheVariants.{Due, Skipping, First, Second}
use Rattle.sgml_catalog.specs.declared.reading.Turn.{Turn}
use Rattle.sgml_catalog.specs.declared.reading.CatalogError.{CatalogError}
use Rattle.sgml_catalog.specs.declared.reading.CatalogError.TheVariants.{BadCatalog, Memory}

abbrev pub entry : Sort → Bool → List ℕ → List ℕ → Entry
entry sort over name file = record { sort = sort; over = over; name = name; file = file }

-- an ENTITY entry's name that begins with `%` is that of a parameter entity
abbrev pub of_entity : Bool → List ℕ → List ℕ → Entry
of_entity over [] file = entry General over [] file
of_entity over (b ∷ bs) file = if b == 37 then entry Parameter over bs file else entry General over (b ∷ bs) file

-- the entry of a keyword with two arguments, if it has an effect
abbrev pub entry_of : Keyword → Bool → List ℕ → List ℕ → Option Entry
entry_of keywords.Public over name file = Some (entry Public over name file)
entry_of keywords.System over name file = Some (entry System over name file)
entry_of keywords.Entity over name file = Some (of_entity over name file)
entry_of keywords.Doctype over name file = Some (entry Doctype over name file)
entry_of keywords.Notation over name file = Some (entry Notation over name file)
entry_of _ over name file = None

abbrev pub turn : CatalogState → Bool → Option Entry → Turn
turn state over e = record { state = state; over = over; entry = e }

-- a word where a keyword is due: where it is none, what follows is skipped
abbrev pub begun : Option Keyword → CatalogState
begun None = Skipping
begun (Some k) = First k

-- OVERRIDE takes YES or NO, in any letter case
abbrev pub overridden : Token → Result Turn ℕ
overridden t = if is_word (codes "YES") t.text then Ok (turn Due true None) else if is_word (codes "NO") t.text then Ok (turn Due false None) else Err t.at

abbrev pub one_argument : Keyword → Bool → Token → Result Turn ℕ
one_argument keywords.Override over t = overridden t
one_argument keywords.Sgmldecl over t = Ok (turn Due over (Some (entry Declaration over [] t.text)))
one_argument _ over t = Ok (turn Due over None)

-- What a token does, or the place where it is refused: a literal is refused where a keyword is due, and skipped where words are skipped.
abbrev pub step : CatalogState → Bool → Token → Result Turn ℕ
step Due over t = if t.quoted then Err t.at else Ok (turn (begun (keyword_of t.text)) over None)
step Skipping over t = if t.quoted then Ok (turn Skipping over None) else Ok (turn (begun (keyword_of t.text)) over None)
step (First k) over t = if takes_two k then Ok (turn (Second k t.text) over None) else one_argument k over t
step (Second k name) over t = Ok (turn Due over (entry_of k over name t.text))

abbrev pub entries_with : List Entry → Option Entry → List Entry
entries_with done None = done
entries_with done (Some e) = done ++ e ∷ []

-- at the end no argument may be missing, and each literal and comment has ended
abbrev pub closed : List Entry → CatalogState → End → Result (List Entry) ℕ
closed done Due end = if end.is_whole then Ok done else Err end.at
closed done Skipping end = if end.is_whole then Ok done else Err end.at
closed done (First k) end = Err end.at
closed done (Second k name) end = Err end.at

-- the place of a refusal, or what follows a turn
abbrev pub go_on : List Entry → Result Turn ℕ → (List Entry → CatalogState → Bool → Result (List Entry) ℕ) → Result (List Entry) ℕ
go_on done (Err at) follows = Err at
go_on done (Ok r) follows = follows (entries_with done r.entry) r.state r.over

-- the entries after these, or the place of the refusal
unfoldable pub walk : List Entry → CatalogState → Bool → End → List Token → Result (List Entry) ℕ
walk done state over end [] = closed done state end
walk done state over end (t ∷ ts) = go_on done (step state over t) (λ d s o. walk d s o end ts)

-- The entries that the tokens tell: OVERRIDE begins as NO.
abbrev pub told : List Token → End → Result (List Entry) ℕ
told ts end = walk [] Due false end ts

-- the code's answer is this one, or want of memory
abbrev pub Agrees : {A : Type 0} → Result A ℕ → Result A CatalogError → Type 0
Agrees r (Ok a) = r ≡ Ok a
Agrees r (Err Memory) = ⊤
Agrees r (Err (BadCatalog at)) = r ≡ Err at

-- so for a list that is kept in a vector
abbrev pub AgreesList : {B : Type 0} → Result (List B) ℕ → Result (Vec B) CatalogError → Type 0
AgreesList r (Ok v) = r ≡ Ok v.items
AgreesList r (Err Memory) = ⊤
AgreesList r (Err (BadCatalog at)) = r ≡ Err at
