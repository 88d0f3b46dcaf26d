-- What follows a place in a text goes on with what was spelled before it.
use Rattle.std.proofs.Common.{◌≡◌, ℕ, ◌+◌, true, false, List, [], ◌∷◌, ◌++◌, drop, take, sym, ap, ◌∙◌, subst, append_assoc, append-nil}
use Rattle.std.proofs.lemmas.List.{drop-drop}
use Rattle.sgml_catalog.specs.declared.token.Token.{Token}
use Rattle.sgml_catalog.specs.declared.token.End.{End}
use Rattle.sgml_catalog.specs.declared.item.Item.TheVariants.{Over, Blank, Literal, Word, Unended}
use Rattle.sgml_catalog.specs.Tokens.{item_of, literal_at, word_at, end_at, Spells, over, unended, blank, literal, word}

-- whatever the rest spells, the text spells these tokens and then that
abbrev pub GoesOn : List ℕ → ℕ → List Token → Type 0
GoesOn text at done = (ts : List Token) (e : End) → Spells at (drop at text) ts e → Spells 0 text (done ++ ts) e

pub begun : (text : List ℕ) → GoesOn text 0 []
begun text ts e h = h

further : (text : List ℕ) (at n : ℕ) (ts : List Token) (e : End) → Spells (at + n) (drop (at + n) text) ts e → Spells (at + n) (drop n (drop at text)) ts e
further text at n ts e h = subst (λ (r : List ℕ). Spells (at + n) r ts e) (sym (drop-drop n at text)) h

pub blank_on : (text : List ℕ) (at n : ℕ) (done : List Token) → GoesOn text at done → item_of (drop at text) ≡ Blank n → GoesOn text (at + n) done
blank_on text at n done go is ts e h = go ts e (blank at n (drop at text) ts e is (further text at n ts e h))

one_on : (done more ts : List Token) (t : Token) (text : List ℕ) (e : End) → more ≡ done ++ t ∷ [] → Spells 0 text (done ++ t ∷ ts) e → Spells 0 text (more ++ ts) e
one_on done more ts t text e is h = subst (λ (l : List Token). Spells 0 text l e) (sym (append_assoc done (t ∷ []) ts) ∙ ap (λ (l : List Token). l ++ ts) (sym is)) h

-- a token is what its parts are
token_is : (s t : Token) → s.at ≡ t.at → s.quoted ≡ t.quoted → s.text ≡ t.text → s ≡ t
token_is s t at quoted text = λ i. record { at = at i; quoted = quoted i; text = text i }

pub literal_on : (text : List ℕ) (at n : ℕ) (done more : List Token) (t : Token) → GoesOn text at done → item_of (drop at text) ≡ Literal n → more ≡ done ++ t ∷ []
    → t.at ≡ at → t.quoted ≡ true → t.text ≡ take n (drop 1 (drop at text)) → GoesOn text (at + (n + 2)) more
literal_on text at n done more t go is added place quoted spelled ts e h =
    let same : t ≡ literal_at at n (drop at text) = token_is t (literal_at at n (drop at text)) place quoted spelled in
    one_on done more ts t text e added (subst (λ (u : Token). Spells 0 text (done ++ u ∷ ts) e) (sym same)
    (go (literal_at at n (drop at text) ∷ ts) e (literal at n (drop at text) ts e is (further text at (n + 2) ts e h))))

pub word_on : (text : List ℕ) (at n : ℕ) (done more : List Token) (t : Token) → GoesOn text at done → item_of (drop at text) ≡ Word n → more ≡ done ++ t ∷ []
    → t.at ≡ at → t.quoted ≡ false → t.text ≡ take n (drop at text) → GoesOn text (at + n) more
word_on text at n done more t go is added place quoted spelled ts e h =
    let same : t ≡ word_at at n (drop at text) = token_is t (word_at at n (drop at text)) place quoted spelled in
    one_on done more ts t text e added (subst (λ (u : Token). Spells 0 text (done ++ u ∷ ts) e) (sym same)
    (go (word_at at n (drop at text) ∷ ts) e (word at n (drop at text) ts e is (further text at n ts e h))))

pub over_on : (text : List ℕ) (at : ℕ) (done : List Token) (e : End) → GoesOn text at done → item_of (drop at text) ≡ Over → e ≡ end_at at true → Spells 0 text done e
over_on text at done e go is end =
    subst (λ (f : End). Spells 0 text done f) (sym end) (subst (λ (l : List Token). Spells 0 text l (end_at at true)) (append-nil done) (go [] (end_at at true) (over at (drop at text) is)))

pub unended_on : (text : List ℕ) (at : ℕ) (done : List Token) (e : End) → GoesOn text at done → item_of (drop at text) ≡ Unended → e ≡ end_at at false → Spells 0 text done e
unended_on text at done e go is end =
    subst (λ (f : End). Spells 0 text done f) (sym end) (subst (λ (l : List Token). Spells 0 text l (end_at at false)) (append-nil done) (go [] (end_at at false) (unended at (drop at text) is)))
