-- The tokens one by one.
use Rattle.std.proofs.Common.{◌≡◌, ℕ, Bool, List, [], ◌∷◌, Result, Ok, Err, length, refl, sym, ap, ◌∙◌, subst, arith}
use Rattle.std.specs.Global.{Vec}
use Rattle.sgml_catalog.specs.declared.token.Token.{Token}
use Rattle.sgml_catalog.specs.declared.token.End.{End}
use Rattle.sgml_catalog.specs.declared.entry.Entry.{Entry}
use Rattle.sgml_catalog.specs.declared.reading.CatalogState.{CatalogState}
use Rattle.sgml_catalog.specs.declared.reading.Turn.{Turn}
use Rattle.sgml_catalog.specs.declared.reading.CatalogError.{CatalogError}
use Rattle.sgml_catalog.specs.declared.reading.CatalogError.TheVariants.{BadCatalog, Memory}
use Rattle.sgml_catalog.specs.Entries.{step, walk, go_on, closed, entries_with, Agrees, AgreesList}

-- a token that is refused ends the walk
pub refused : (done : List Entry) (s : CatalogState) (o : Bool) (end : End) (t : Token) (ts : List Token) (e : CatalogError) (whole : Result (List Entry) ℕ) → Agrees (step s o t) (Err e) → walk done s o end (t ∷ ts) ≡ whole → AgreesList {B = Entry} whole (Err e)
unfolding walk
refused done s o end t ts Memory whole h is = tt
refused done s o end t ts (BadCatalog at) whole h is = sym is ∙ ap (λ (r : Result Turn ℕ). go_on done r (λ d s o. walk d s o end ts)) h

-- a token that does something
pub further : (done more : List Entry) (s : CatalogState) (o : Bool) (end : End) (t : Token) (ts : List Token) (r : Turn) (whole : Result (List Entry) ℕ) → step s o t ≡ Ok r → more ≡ entries_with done r.entry → walk done s o end (t ∷ ts) ≡ whole → walk more r.state r.over end ts ≡ whole
unfolding walk
further done more s o end t ts r whole h added is =
    ap (λ (d : List Entry). walk d r.state r.over end ts) added ∙ (sym (ap (λ (x : Result Turn ℕ). go_on done x (λ d s o. walk d s o end ts)) h) ∙ is)

pub none_left : {X : Type 0} (l : List X) → length l ≡ 0 → l ≡ []
none_left [] h = refl
none_left (x ∷ xs) h = absurd (omega arith)

-- the end of the tokens
pub ended : (done : List Entry) (s : CatalogState) (o : Bool) (end : End) (ts : List Token) (whole : Result (List Entry) ℕ) (r : Result (Vec Entry) CatalogError) → ts ≡ [] → walk done s o end ts ≡ whole → AgreesList (closed done s end) r → AgreesList whole r
unfolding walk
ended done s o end ts whole r empty is h = subst (λ (x : Result (List Entry) ℕ). AgreesList x r) (sym (ap (λ (l : List Token). walk done s o end l) empty) ∙ is) h
