-- Names and literals at the front of a list of lexemes. A reader gives what it found and the lexemes
-- after it, or None where they are of no such form.
use Rattle.std.specs.Prelude.{ℕ, Bool, false, List, [], ◌∷◌, Option, None, Some}
use Rattle.sgml_text.specs.Characters.{is_word}
use Rattle.sgml_decl_lexemes.specs.declared.lexeme.Lexeme.{Lexeme}
use Rattle.sgml_decl_lexemes.specs.declared.lexeme.Lexeme.TheVariants.{Name, Literal}

infixl 10 ◌>>=◌
abbrev pub ◌>>=◌ : {A B : Type 0} → Option A → (A → Option B) → Option B
None >>= f = None
(Some x) >>= f = f x

-- the lexeme is this keyword
abbrev pub is_keyword : List ℕ → Lexeme → Bool
is_keyword word (Name n) = is_word word n
is_keyword word _ = false

abbrev pub name_at : List Lexeme → Option (List ℕ × List Lexeme)
name_at (Name n ∷ ds) = Some (n, ds)
name_at _ = None

abbrev pub literal_at : List Lexeme → Option (List ℕ × List Lexeme)
literal_at (Literal t ∷ ds) = Some (t, ds)
literal_at _ = None

-- nothing is left
abbrev pub all_of : {A : Type 0} → A → List Lexeme → Option A
all_of x [] = Some x
all_of x (d ∷ ds) = None
