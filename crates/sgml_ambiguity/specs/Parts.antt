-- What the scan of a term answers.
use Rattle.std.specs.Prelude.{◌≡◌, Bool, Option, Some, None, List, map}
use Rattle.sgml_model.specs.Term.{Term, Terms, Token as Tok, done, all_done, some_done}
use Rattle.sgml_ambiguity.specs.declared.token.Part.{Part}
use Rattle.sgml_ambiguity.specs.declared.accumulated.Rest.{Rest}
use Rattle.sgml_ambiguity.specs.declared.accumulated.Among.{Among}
use Rattle.sgml_ambiguity.specs.declared.token.ScanError.{ScanError}
use Rattle.sgml_ambiguity.specs.declared.token.ScanError.TheVariants as errors
use Rattle.sgml_ambiguity.specs.Scan.{token_view, firsts, firsts_in_order, firsts_of_some, lasts, lasts_in_order, lasts_of_some, lasts_among, clash, clash_in_order, clash_apart, clash_among}

-- no clash was found, and the lists are these
pub record Lists (p : Part) (clash : Option (Tok × Tok)) (done : Bool) (firsts lasts : List Tok) : Type 0 where
  pub clear : clash ≡ None
  pub done_is : p.done ≡ done
  pub firsts_are : map token_view p.firsts.items ≡ firsts
  pub lasts_are : map token_view p.lasts.items ≡ lasts

-- the same of the members from one on
pub record RestLists (p : Rest) (clash : Option (Tok × Tok)) (done : Bool) (firsts lasts : List Tok) : Type 0 where
  pub clear : clash ≡ None
  pub done_is : p.done ≡ done
  pub firsts_are : map token_view p.firsts.tokens.items ≡ firsts
  pub lasts_are : map token_view p.lasts.items ≡ lasts

pub record AmongLists (p : Among) (clash : Option (Tok × Tok)) (firsts ends lasts : List Tok) : Type 0 where
  pub clear : clash ≡ None
  pub firsts_are : map token_view p.firsts.tokens.items ≡ firsts
  pub ends_are : map token_view p.ends.tokens.items ≡ ends
  pub lasts_are : map token_view p.lasts.items ≡ lasts

-- the scan of a term, of a sequence's members, of an OR group's and of an AND group's
abbrev pub IsScan : Part → Term → Type 0
IsScan p x = Lists p (clash x) (done x) (firsts x) (lasts x)

abbrev pub IsScanInOrder : Part → Terms → Type 0
IsScanInOrder p ms = Lists p (clash_in_order ms) (all_done ms) (firsts_in_order ms) (lasts_in_order ms)

abbrev pub IsScanOfSome : Part → Terms → Type 0
IsScanOfSome p ms = Lists p (clash_apart ms) (some_done ms) (firsts_of_some ms) (lasts_of_some ms)

abbrev pub IsScanAmong : Among → Terms → Type 0
IsScanAmong p ms = AmongLists p (clash_among ms) (firsts_of_some ms) (lasts_of_some ms) (lasts_among ms)

abbrev pub Fails : ScanError → Option (Tok × Tok) → Type 0
Fails errors.Memory clash = Unit {0}
Fails (errors.Clash a b) clash = clash ≡ Some (token_view a, token_view b)
