-- What the store has under a name is what is given under it.
use Rattle.std.proofs.Common.{◌≡◌, ℕ, Option, Some, None, Vec, length, refl, ap, ◌∙◌}
use Rattle.std.proofs.lemmas.Bool.{le-ltb, lt-ltb}
use Rattle.std.specs.Prelude.{IfSome, Ok, Err, if◌then◌else◌}
use Rattle.std.specs.declared.alloc.Global.{Global}
use Rattle.sgml_io.specs.Files.{FetchesFrom}
use Rattle.sgml_io.specs.Records.{records}
use Rattle.sgml_io.specs.declared.fetching.FetchError.TheVariants as errors
use Rattle.sgml_parse.specs.theory_reading.Names.{Name}
use Rattle.sgml_parse.specs.theory_reading.Unread.{Found, TooLarge}
use Rattle.sgml_parse.specs.declared.answer.Supply.{Supply}
use Rattle.sgml_parse.specs.declared.answer.Supply.TheVariants as supply
use Rattle.sgml_parse.specs.Parsing.{Parser}
use Rattle.sgml_parse.specs.Calls.{Supplies, fetched_by}
use Rattle.sgml_source.specs.Inputs.{Files, fetched_in, fetched_as}
use Rattle.sgml_source.specs.Feeding.{SuppliesIfTold}

-- what is given is what the store has, where it tells that
abbrev pub IsGivenFrom : ℕ → Option Files → Name → Supply → Type 0
IsGivenFrom limit told name given = IfSome told (λ files. fetched_in limit files name ≡ fetched_by given)

pub text-is-given : (limit : ℕ) (told : Option Files) (name : Name) (v : Vec ℕ Global) → FetchesFrom told name limit (Ok (Some v)) → IsGivenFrom limit told name (supply.Text v.items)
text-is-given limit None name v f = tt
text-is-given limit (Some files) name v f =
    ap (fetched_as limit) f.0 ∙ ap (λ b. if b then TooLarge else Found (records v.items)) (le-ltb limit (length v.items) f.1)

pub absence-is-given : (limit : ℕ) (told : Option Files) (name : Name) → FetchesFrom told name limit (Ok None) → IsGivenFrom limit told name supply.Absent
absence-is-given limit None name f = tt
absence-is-given limit (Some files) name f = ap (fetched_as limit) f

pub excess-is-given : (limit : ℕ) (told : Option Files) (name : Name) → FetchesFrom told name limit (Err errors.TooLarge) → IsGivenFrom limit told name supply.TooLarge
excess-is-given limit None name f = tt
excess-is-given limit (Some files) name f = ap (fetched_as limit) f.1 ∙ ap (λ b. if b then TooLarge else Found (records f.0)) (lt-ltb limit (length f.0) f.2)

pub supplies-from : (limit : ℕ) (told : Option Files) (name : Name) (entity : ℕ) (old new : Parser) (given : Supply) → IsGivenFrom limit told name given → Supplies old new entity given
    → SuppliesIfTold limit told entity name old new
supplies-from limit None name entity old new given g s = tt
supplies-from limit (Some files) name entity old new given g s = λ I more h told a f x. s I more h told (record { entity = entity; name = name }) refl a (f ∙ g) x
