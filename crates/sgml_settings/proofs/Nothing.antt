-- A catalog without text has no entries.
use Rattle.std.proofs.Common.{◌≡◌, ℕ, List, [], Ok, true, refl, sym, ◌∙◌, ap}
use Rattle.sgml_catalog.specs.declared.token.Token.{Token}
use Rattle.sgml_catalog.specs.declared.token.End.{End}
use Rattle.sgml_catalog.specs.declared.entry.Entry.{Entry}
use Rattle.sgml_catalog.specs.declared.item.Item.TheVariants as item
use Rattle.sgml_catalog.specs.Tokens.{Spells, over, unended, blank, literal, word, item_of}
use Rattle.sgml_catalog.specs.Entries.{told, walk}
use Rattle.sgml_catalog.specs.Resolving.{IsReadAs}

no-unended : {A : Type 0} → item.Over ≡ item.Unended → A
no-unended e = cc

no-blank : {A : Type 0} (k : ℕ) → item.Over ≡ item.Blank k → A
no-blank k e = cc

no-literal : {A : Type 0} (k : ℕ) → item.Over ≡ item.Literal k → A
no-literal k e = cc

no-word : {A : Type 0} (k : ℕ) → item.Over ≡ item.Word k → A
no-word k e = cc

none-told : (at : ℕ) (es : List Entry) → told [] (record { at = at; is_whole = true }) ≡ Ok es → es ≡ []
unfolding walk
none-told at es e = cc

none-read : (at : ℕ) (text : List ℕ) (ts : List Token) (e : End) (es : List Entry) → Spells at text ts e → text ≡ [] → told ts e ≡ Ok es → es ≡ []
none-read _ _ _ _ es (over at text i) n t = none-told at es t
none-read _ _ _ _ es (unended at text i) n t = no-unended (sym (ap item_of n) ∙ i)
none-read _ _ _ _ es (blank at k text ts e i s) n t = no-blank k (sym (ap item_of n) ∙ i)
none-read _ _ _ _ es (literal at k text ts e i s) n t = no-literal k (sym (ap item_of n) ∙ i)
none-read _ _ _ _ es (word at k text ts e i s) n t = no-word k (sym (ap item_of n) ∙ i)

pub nothing-read : (es : List Entry) → IsReadAs [] (Ok es) → es ≡ []
nothing-read es r = none-read 0 [] r.0 r.1 es r.2 refl r.3
