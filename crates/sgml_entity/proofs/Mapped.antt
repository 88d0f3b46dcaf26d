-- Texts are a finite map.
use Rattle.std.proofs.Common.{◌≡◌, ◌≢◌, ◌==◌, ℕ, Bool, true, false, List, [], ◌∷◌, ◌++◌, Some, refl, sym, ◌∙◌}
use Rattle.std.specs.Prelude.{unwrap_or}
use Rattle.std.specs.Cmp.{unsigned_Decides}
use Rattle.sgml_entity.specs.Texts.{text_of, with_more}

itself : (k : ℕ) → (k == k) ≡ true
itself k = (unsigned_Decides k k).1 refl

another : (b : Bool) (j k : ℕ) → (j == k) ≡ b → j ≢ k → b ≡ false
another true j k is other = absurd (other ((unsigned_Decides j k).0 is))
another false j k is other = refl

grown_here : (b : Bool) (k : ℕ) (bytes : List ℕ) (t : ℕ × List ℕ) (ts : List (ℕ × List ℕ)) → (k == t.0) ≡ b
    → text_of (with_more k bytes ts) k ≡ Some (unwrap_or (text_of ts k) [] ++ bytes)
    → text_of (with_more k bytes (t ∷ ts)) k ≡ Some (unwrap_or (text_of (t ∷ ts) k) [] ++ bytes)
grown_here true k bytes t ts is again = rw is (rw is refl)
grown_here false k bytes t ts is again = rw is (rw is again)

-- the text with bytes at its end
pub grown : (ts : List (ℕ × List ℕ)) (k : ℕ) (bytes : List ℕ) → text_of (with_more k bytes ts) k ≡ Some (unwrap_or (text_of ts k) [] ++ bytes)
grown [] k bytes = rw (itself k) refl
grown (t ∷ ts) k bytes = grown_here (k == t.0) k bytes t ts refl (grown ts k bytes)

-- the text of another one is found behind this one as without it
others_here : (b d : Bool) (k j : ℕ) (bytes : List ℕ) (t : ℕ × List ℕ) (ts : List (ℕ × List ℕ)) → (k == t.0) ≡ b → (j == t.0) ≡ d → j ≢ k
    → text_of (with_more k bytes ts) j ≡ text_of ts j
    → text_of (with_more k bytes (t ∷ ts)) j ≡ text_of (t ∷ ts) j
others_here true true k j bytes t ts is same other again =
    absurd (other ((unsigned_Decides j t.0).0 same ∙ sym ((unsigned_Decides k t.0).0 is)))
others_here true false k j bytes t ts is same other again = rw is (rw same refl)
others_here false true k j bytes t ts is same other again = rw is (rw same refl)
others_here false false k j bytes t ts is same other again = rw is (rw same again)

-- every other text stays
pub others : (ts : List (ℕ × List ℕ)) (k j : ℕ) (bytes : List ℕ) → j ≢ k → text_of (with_more k bytes ts) j ≡ text_of ts j
others [] k j bytes other = rw (another (j == k) j k refl other) refl
others (t ∷ ts) k j bytes other = others_here (k == t.0) (j == t.0) k j bytes t ts refl refl other (others ts k j bytes other)
