-- Each text spells tokens, and is read as a catalog or refused.
use Rattle.std.specs.Prelude.{⊤, position, if◌then◌else◌}
use Rattle.std.specs.List.{prefix_len}
use Rattle.std.proofs.Common.{◌≡◌, ℕ, ◌+◌, ◌<◌, ◌≤◌, zero, suc, Bool, true, false, not, ◌==◌, List, [], ◌∷◌, length, drop, Option, None, Some, Result, refl, arith, length-drop}
use Rattle.sgml_text.specs.Characters.{is_separator, is_quote}
use Rattle.sgml_catalog.specs.declared.token.Token.{Token}
use Rattle.sgml_catalog.specs.declared.token.End.{End}
use Rattle.sgml_catalog.specs.declared.entry.Entry.{Entry}
use Rattle.sgml_catalog.specs.declared.item.Item.{Item}
use Rattle.sgml_catalog.specs.declared.item.Item.TheVariants.{Over, Blank, Literal, Word, Unended}
use Rattle.sgml_catalog.specs.Tokens.{begins_comment, before_dashes, comment_of, literal_of, item_of, literal_at, word_at, end_at, Spells, over, unended, blank, literal, word}
use Rattle.sgml_catalog.specs.Entries.{told}
use Rattle.sgml_catalog.specs.Resolving.{IsReadAs}

-- an item takes a byte at least
abbrev Takes : Item → Type 0
Takes (Blank n) = 0 < n
Takes (Word n) = 0 < n
Takes item = ⊤

comment-takes : (dashes : Option ℕ) → Takes (comment_of dashes)
comment-takes None = tt
comment-takes (Some n) = omega arith

literal-takes : (quote : Option ℕ) → Takes (literal_of quote)
literal-takes None = tt
literal-takes (Some n) = tt

takes-by : (separator comment quote : Bool) (dashes end : Option ℕ) (size : ℕ) → (separator ≡ false → 0 < size)
    → Takes (if separator then Blank 1 else if comment then comment_of dashes else if quote then literal_of end else Word size)
takes-by true comment quote dashes end size some = omega arith
takes-by false true quote dashes end size some = comment-takes dashes
takes-by false false true dashes end size some = literal-takes end
takes-by false false false dashes end size some = some refl

some-word : (b : ℕ) (bs : List ℕ) → is_separator b ≡ false → 0 < prefix_len (λ x. not (is_separator x)) (b ∷ bs)
some-word b bs e = rw e (omega arith)

takes : (b : ℕ) (bs : List ℕ) → Takes (item_of (b ∷ bs))
takes b bs =
    takes-by (is_separator b) (begins_comment (b ∷ bs)) (is_quote b) (before_dashes (drop 1 bs)) (position (λ x. x == b) bs)
    (prefix_len (λ x. not (is_separator x)) (b ∷ bs)) (some-word b bs)

-- so fewer are left
fewer : (n k : ℕ) (b : ℕ) (bs : List ℕ) → length (b ∷ bs) ≤ suc n → 0 < k → length (drop k (b ∷ bs)) ≤ n
fewer n k b bs few some = omega (arith, length-drop k (b ∷ bs), few, some)

abbrev Spelled : ℕ → List ℕ → Type 0
Spelled at text = (ts : List Token) × (e : End) × Spells at text ts e

spelled-by : (n at b : ℕ) (bs : List ℕ) (item : Item) → item_of (b ∷ bs) ≡ item → Takes item → length (b ∷ bs) ≤ suc n
    → ((to : ℕ) (rest : List ℕ) → length rest ≤ n → Spelled to rest) → Spelled at (b ∷ bs)
spelled-by n at b bs Over e some few later = ([], end_at at true, over at (b ∷ bs) e)
spelled-by n at b bs Unended e some few later = ([], end_at at false, unended at (b ∷ bs) e)
spelled-by n at b bs (Blank k) e some few later =
    let x = later (at + k) (drop k (b ∷ bs)) (fewer n k b bs few some) in
    (x.0, x.1, blank at k (b ∷ bs) x.0 x.1 e x.2)
spelled-by n at b bs (Literal k) e some few later =
    let x = later (at + (k + 2)) (drop (k + 2) (b ∷ bs)) (fewer n (k + 2) b bs few (omega arith)) in
    (literal_at at k (b ∷ bs) ∷ x.0, x.1, literal at k (b ∷ bs) x.0 x.1 e x.2)
spelled-by n at b bs (Word k) e some few later =
    let x = later (at + k) (drop k (b ∷ bs)) (fewer n k b bs few some) in
    (word_at at k (b ∷ bs) ∷ x.0, x.1, word at k (b ∷ bs) x.0 x.1 e x.2)

spelled : (n at : ℕ) (text : List ℕ) → length text ≤ n → Spelled at text
spelled n at [] few = ([], end_at at true, over at [] refl)
spelled zero at (b ∷ bs) few = absurd (omega arith)
spelled (suc n) at (b ∷ bs) few = spelled-by n at b bs (item_of (b ∷ bs)) refl (takes b bs) few (λ to rest less. spelled n to rest less)

pub each-text-is-read : (text : List ℕ) → (r : Result (List Entry) ℕ) × IsReadAs text r
each-text-is-read text =
    let x = spelled (length text) 0 text (omega arith) in
    (told x.0 x.1, (x.0, x.1, x.2, refl))
