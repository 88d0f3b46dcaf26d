-- Characters of data, by themselves and by their numbers.
use Rattle.std.proofs.Common.{◌≡◌, ◌⊎◌, inl, inr, ℕ, ◌<◌, Bool, true, false, not, ◌&&◌, ◌||◌, ◌==◌, nat_le, [], ◌∷◌, Ok, length, refl, sym, ◌∙◌, ap, subst, if◌then◌else◌, arith}
use Rattle.std.proofs.lemmas.Bool.{eqb-true}
use Rattle.std.proofs.lemmas.Bool.Decides.{nat_tests}
use Rattle.sgml_theory_values.specs.text.Characters.{is_letter, is_digit, is_separator}
use Rattle.sgml_theory_values.specs.delim.declared.delim.Mode.{Mode}
use Rattle.sgml_theory_values.specs.markup.declared.kinds.TokenKind.TheVariants as kind
use Rattle.sgml_theory_values.specs.theory_reading.Pieces.{Char}
use Rattle.sgml_theory_values.specs.theory_reading.Characters.{has_text, separator_kind, kind_noted, in_text_section}
use Rattle.sgml_theory_values.specs.theory_spelling.Sized.{sized}
use Rattle.sgml_theory_values.specs.theory_spelling.Places.{map_at, is_map}
use Rattle.sgml_theory_values.specs.theory_spelling.Content.{character_kind, content_piece}
use Rattle.sgml_theory_values.specs.full.Spelled.{has_map, is_itself, number_reference, spelled_byte}
use Rattle.sgml_theory_full.specs.Spellings.{spelling}
use Rattle.sgml_theory_full.specs.Points.{Point, stacked_at, doctype_at, IsInContent, HasReferences, MapsAreDeclared, IsPieceAt}
use Rattle.sgml_theory_full.proofs.Plain.{true-false, both, if-true, if-false, other-is-low}
use Rattle.sgml_theory_full.proofs.Tokens.{is_content}
use Rattle.sgml_theory_full.proofs.Scanned.{own, own-token, space-token, number-token}
use Rattle.sgml_theory_full.proofs.Pointed.{spelled-as}

content-mode : (m : Mode) → HasReferences m → is_content m ≡ true
content-mode m (inl e) = ap is_content e
content-mode m (inr e) = ap is_content e

-- ITSELF, but for a space
no-separator : (b : ℕ) → (is_letter b || is_digit b || (b == 46) || nat_le 128 b) ≡ true → is_separator b ≡ false
no-separator b h = grind (arith, nat_tests)

character-is : (p : Point) (m : Mode) (b : ℕ) → HasReferences m → is_separator b ≡ false → character_kind p.state m b ≡ Char b
character-is p m b (inl e) h = ap (λ k. character_kind p.state k b) e ∙ if-false (is_separator b) _ _ h
character-is p m b (inr e) h = ap (λ k. character_kind p.state k b) e ∙ if-false (is_separator b) _ _ h

space-is : (p : Point) (m : Mode) → HasReferences m → has_text p.state ≡ true → character_kind p.state m 32 ≡ Char 32
unfolding separator_kind
space-is p m (inl e) h = ap (λ k. character_kind p.state k 32) e ∙ if-true (has_text p.state || in_text_section p.state.sections) _ _ (ap (λ t. t || in_text_section p.state.sections) h)
space-is p m (inr e) h = ap (λ k. character_kind p.state k 32) e ∙ if-true (has_text p.state || in_text_section p.state.sections) _ _ (ap (λ t. t || in_text_section p.state.sections) h)

chars-piece : (p : Point) (m : Mode) (b : ℕ) → character_kind p.state m b ≡ Char b
    → content_piece p.outside p.state (stacked_at p) m kind.Chars (b ∷ []) ≡ Ok (sized 1 (kind_noted p.state (Char b)))
unfolding content_piece kind_noted
chars-piece p m b h = ap (λ k. Ok (sized 1 k)) h

named-spelled : (p : Point) (m : Mode) (b : ℕ) → IsInContent p m → HasReferences m → (is_letter b || is_digit b || (b == 46) || nat_le 128 b) ≡ true → IsPieceAt p (spelling (Char b) (b ∷ []))
named-spelled p m b h r n rest =
    spelled-as p m h (b ∷ []) rest kind.Chars (sized 1 (kind_noted p.state (Char b))) (omega arith)
    (own-token (doctype_at p).syntax m false (is_map (map_at p.state)) b rest (content-mode m r) (own b n))
    (chars-piece p m b (character-is p m b r (no-separator b n)))

no-map : (maps declared : Bool) → (maps ≡ true → declared ≡ true) → declared ≡ false → maps ≡ false
no-map true declared h k = true-false (sym (h refl) ∙ k)
no-map false declared h k = refl

space-spelled : (p : Point) (m : Mode) → IsInContent p m → HasReferences m → MapsAreDeclared p → has_text p.state ≡ true → has_map (doctype_at p) ≡ false → IsPieceAt p (spelling (Char 32) (32 ∷ []))
space-spelled p m h r maps text none rest =
    spelled-as p m h (32 ∷ []) rest kind.Chars (sized 1 (kind_noted p.state (Char 32))) (omega arith)
    (space-token (doctype_at p).syntax m false (is_map (map_at p.state)) rest (content-mode m r) (no-map (is_map (map_at p.state)) (has_map (doctype_at p)) maps none))
    (chars-piece p m 32 (space-is p m r text))

-- BY ITS NUMBER
number-piece : (p : Point) (m : Mode) (b : ℕ)
    → content_piece p.outside p.state (stacked_at p) m (kind.CharRef b) (number_reference b) ≡ Ok (sized (length (number_reference b)) (kind_noted p.state (Char b)))
unfolding content_piece kind_noted
number-piece p m b = refl

number-spelled : (p : Point) (m : Mode) (b : ℕ) → IsInContent p m → HasReferences m → b < 128 → IsPieceAt p (spelling (Char b) (number_reference b))
number-spelled p m b h r lt rest =
    spelled-as p m h (number_reference b) rest (kind.CharRef b) (sized (length (number_reference b)) (kind_noted p.state (Char b))) (omega arith)
    (number-token (doctype_at p).syntax m (is_map (map_at p.state)) b rest r lt)
    (number-piece p m b)

-- EITHER
itself-cases : (n t : Bool) → (n || t) ≡ true → (n ≡ true) ⊎ (t ≡ true)
itself-cases true t h = inl refl
itself-cases false t h = inr h

not-mapped : (t : Bool) → not t ≡ true → t ≡ false
not-mapped true h = true-false (sym h)
not-mapped false h = refl

itself-spelled : (p : Point) (m : Mode) (b : ℕ) → IsInContent p m → HasReferences m → MapsAreDeclared p → has_text p.state ≡ true
    → ((is_letter b || is_digit b || (b == 46) || nat_le 128 b) ≡ true) ⊎ (((b == 32) && not (has_map (doctype_at p))) ≡ true) → IsPieceAt p (spelling (Char b) (b ∷ []))
itself-spelled p m b h r maps text (inl n) = named-spelled p m b h r n
itself-spelled p m b h r maps text (inr n) =
    let q = both (b == 32) (not (has_map (doctype_at p))) n in
    subst (λ x. IsPieceAt p (spelling (Char x) (x ∷ []))) (sym (eqb-true b 32 q.0)) (space-spelled p m h r maps text (not-mapped (has_map (doctype_at p)) q.1))

by-itself : (p : Point) (m : Mode) (b : ℕ) → IsInContent p m → HasReferences m → MapsAreDeclared p → has_text p.state ≡ true → (t : Bool) → is_itself (has_map (doctype_at p)) b ≡ t
    → IsPieceAt p (spelling (Char b) (if t then b ∷ [] else number_reference b))
by-itself p m b h r maps text true e =
    itself-spelled p m b h r maps text (itself-cases (is_letter b || is_digit b || (b == 46) || nat_le 128 b) ((b == 32) && not (has_map (doctype_at p))) e)
by-itself p m b h r maps text false e = number-spelled p m b h r (other-is-low (has_map (doctype_at p)) b e)

pub characters-are-spelled : (p : Point) (m : Mode) (b : ℕ) → IsInContent p m → HasReferences m → MapsAreDeclared p → has_text p.state ≡ true
    → IsPieceAt p (spelling (Char b) (spelled_byte (has_map (doctype_at p)) b))
characters-are-spelled p m b h r maps text = by-itself p m b h r maps text (is_itself (has_map (doctype_at p)) b) refl
