-- From `clap`'s clauses to the uses.
use Rattle.std.proofs.Common.{◌≡◌, ◌∙◌, zero, suc, Bool, true, false, refl, sym, ap, subst, arith, List, [], ◌∷◌, map, Option, Some, None, bytes_eq, All, IsUtf8, String, string_bytes, ⊎_elim}
use Rattle.std.specs.declared.alloc.Global.{Global}
use Rattle.std.proofs.lemmas.Str.{IsUtf8-had}
use Rattle.clap.specs.Values.{kind_of}
use Rattle.clap.specs.Matches.{found_of}
use Rattle.clap.specs.Walk.{Row, Text, first_of, rows_of}
use Rattle.clap.specs.Simple.{App, HasMatchesOf, matches_of}
use Rattle.clap.specs.Kinds.{HasKind, IsAmong, Kinds}
use Rattle.clap.specs.Faults.{fault_of}
use Rattle.clap.specs.declared.error.Error.{Error}
use Rattle.clap.specs.declared.error.kind.ErrorKind.TheVariants.{OutOfMemory}
use Rattle.clap.specs.declared.parser.matches.ArgMatches.{ArgMatches}
use Rattle.clap.proofs.WalkLemmas.{first_value-rows}
use Rattle.sgml_words.specs.Words.{Use, value_in}
use Rattle.sgml_words.specs.Uses.{given}
use Rattle.sgml_words.specs.Clap.{Shows, command, row_of}
use Rattle.sgml_words.proofs.Rules.{simple}
use Rattle.sgml_words.proofs.Ends.{Comes}
use Rattle.sgml_words.proofs.Walk.{found}

-- a `String` is text
pub all_texts : (words : List (String Global)) → All IsUtf8 (map string_bytes words)
all_texts [] k d lt = absurd (omega (arith, lt))
all_texts (w ∷ ws) zero d lt = IsUtf8-had w.bytes.items w.ok
all_texts (w ∷ ws) (suc k) d lt = all_texts ws k d (omega (arith, lt))

value_step : (id : Text) (u : Use) (us : List Use) (b : Bool) → bytes_eq u.0 id ≡ b
    → first_of id (map row_of us) ≡ value_in us id
    → first_of id (map row_of (u ∷ us)) ≡ value_in (u ∷ us) id
value_step id u us true e ih = rw e refl
value_step id u us false e ih = rw e ih

values : (id : Text) (us : List Use) → first_of id (map row_of us) ≡ value_in us id
values id [] = refl
values id (u ∷ us) = value_step id u us (bytes_eq u.0 id) refl (values id us)

shown : (ks : Kinds) (rows : List Row) (uses : Option (List Use)) (m : ArgMatches) → Comes ks rows uses → ks ≡ []
    → rows_of (found_of m) ≡ rows → Shows m uses
shown ks rows None m comes none is = absurd (comes none)
shown ks rows (Some us) m comes none is =
    λ name. first_value-rows (found_of m) name ∙ ap (first_of name) (is ∙ comes.1) ∙ values name us

-- where `clap` finds matches
pub shows : (words : List Text) → All IsUtf8 words → (app : App) (m : ArgMatches) → app ≡ command
    → HasMatchesOf app words m → fault_of app words ≡ [] → Shows m (given words)
shows words utf8 app m is matches none =
    let rows = (subst (λ a. HasMatchesOf a words m) is matches simple).0 in
    shown (fault_of command words) (matches_of command words) (given words) m (found words utf8)
    (ap (λ a. fault_of a words) (sym is) ∙ none) rows

refused : (ks : Kinds) (rows : List Row) (uses : Option (List Use)) (e : Error) → Comes ks rows uses → HasKind ks e
    → (kind_of e ≡ OutOfMemory → ⊥) → uses ≡ None
refused ks rows None e comes kinds other = refl
refused ks rows (Some us) e comes kinds other = ⊎_elim
    (λ memory. absurd (other memory))
    (λ among. absurd (subst (IsAmong (kind_of e)) comes.0 among))
    kinds

-- where it gives an error other than of memory
pub fault_none : (words : List Text) → All IsUtf8 words → (app : App) (e : Error) → app ≡ command
    → (kind_of e ≡ OutOfMemory → ⊥) → HasKind (fault_of app words) e
    → given words ≡ None
fault_none words utf8 app e is other kinds =
    refused (fault_of command words) (matches_of command words) (given words) e (found words utf8)
    (subst (λ a. HasKind (fault_of a words) e) is kinds) other
