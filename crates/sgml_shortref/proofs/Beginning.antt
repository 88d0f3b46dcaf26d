-- Whether a string begins with a byte is told by that byte.
use Rattle.std.proofs.Common.{◌≡◌, ◌==◌, ℕ, Bool, true, false, List, [], ◌∷◌, Option, None, Some, is_some, refl, sym, ◌∙◌, ap}
use Rattle.sgml_shortref.specs.Strings.{is_blank}
use Rattle.sgml_shortref.specs.Matches.{answer_from, answer, begins_string}

same-by : (start blank hyphen : Bool) (b : ℕ) (bytes more : List ℕ)
    → is_some (answer_from start blank hyphen b bytes) ≡ is_some (answer_from start blank hyphen b more)
same-by true blank hyphen b bytes more = refl
same-by false true hyphen b bytes more = refl
same-by false false true b bytes more = refl
same-by false false false b bytes more = refl

told-by-first : (b : ℕ) (bytes : List ℕ) → is_some (answer (b ∷ bytes)) ≡ begins_string b
told-by-first b bytes = same-by (b == 10) (is_blank b) (b == 45) b bytes []

none-is : (o : Option (ℕ × ℕ)) → is_some o ≡ false → o ≡ None
none-is None e = refl
none-is (Some s) e = cc

some-isnt : (o : Option (ℕ × ℕ)) → is_some o ≡ true → o ≡ None → ⊥
some-isnt o e f = cc

pub none-begins : (b : ℕ) (bytes : List ℕ) → begins_string b ≡ false → answer (b ∷ bytes) ≡ None
none-begins b bytes e = none-is (answer (b ∷ bytes)) (told-by-first b bytes ∙ e)

pub some-begins : (b : ℕ) (bytes : List ℕ) → begins_string b ≡ true → answer (b ∷ bytes) ≡ None → ⊥
some-begins b bytes e = some-isnt (answer (b ∷ bytes)) (told-by-first b bytes ∙ e)
