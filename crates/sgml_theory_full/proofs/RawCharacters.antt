-- Characters, record ends and record starts as they stand in CDATA content.
use Rattle.std.proofs.Common.{◌≡◌, ℕ, Bool, true, false, ◌&&◌, ◌||◌, ◌==◌, List, [], ◌∷◌, Some, None, Ok, refl, ◌∙◌, ap, if◌then◌else◌, arith}
use Rattle.std.proofs.lemmas.Bool.Decides.{nat_tests}
use Rattle.sgml_theory_values.specs.text.Characters.{is_separator}
use Rattle.sgml_theory_values.specs.syntax.declared.syntax.Syntax.{Syntax}
use Rattle.sgml_theory_values.specs.delim.declared.delim.Delim.TheVariants as d
use Rattle.sgml_theory_values.specs.delim.declared.delim.Mode.TheVariants as m
use Rattle.sgml_theory_values.specs.delim.Tables.{stands, first_that}
use Rattle.sgml_theory_values.specs.delim.Answers.{answer}
use Rattle.sgml_theory_values.specs.markup.declared.kinds.TokenKind.TheVariants as kind
use Rattle.sgml_theory_values.specs.scan.Classes.{is_data}
use Rattle.sgml_theory_values.specs.scan.Tokens.{token}
use Rattle.sgml_theory_values.specs.theory_reading.Names.{Text}
use Rattle.sgml_theory_values.specs.theory_reading.Pieces.{Char, Re, Rs}
use Rattle.sgml_theory_values.specs.theory_reading.State.{State}
use Rattle.sgml_theory_values.specs.theory_reading.Characters.{has_text, separator_kind, kind_noted, in_text_section, facts_in}
use Rattle.sgml_theory_values.specs.records.Facts.{takes_end}
use Rattle.sgml_theory_values.specs.theory_spelling.Sized.{sized}
use Rattle.sgml_theory_values.specs.theory_spelling.Places.{map_at, is_map}
use Rattle.sgml_theory_values.specs.theory_spelling.Tokens.{string_at, token_at, by_delimiter, by_string}
use Rattle.sgml_theory_values.specs.theory_spelling.Content.{character_kind, content_piece}
use Rattle.sgml_theory_full.specs.Points.{Point, stacked_at, doctype_at}
use Rattle.sgml_theory_full.specs.Raw.{begins_end_tag, RawCharactersAreSpelled, LineEndsAreSpelled}
use Rattle.sgml_theory_full.proofs.Plain.{if-true, if-false}
use Rattle.sgml_theory_full.proofs.Tokens.{no-delimiter}
use Rattle.sgml_theory_full.proofs.Scanned.{character-here}
use Rattle.sgml_theory_full.proofs.Pointed.{spelled-as}

-- no string is matched there
no-string : (maps : Bool) (bytes : List ℕ) → string_at (maps && false) bytes ≡ None
no-string true bytes = refl
no-string false bytes = refl

-- A CHARACTER
no-end-tag : (s : Syntax) (bytes : List ℕ) → begins_end_tag s bytes ≡ false → answer s m.Cdt false bytes ≡ None
unfolding stands
no-end-tag s bytes h = ap (λ t. if t then Some d.Etago else first_that (λ x. stands s m.Cdt false x bytes) (d.Net ∷ [])) h

no-end : (b : ℕ) → is_data b ≡ true → (b == 13) ≡ false
no-end b h = grind (arith, nat_tests)

no-start : (b : ℕ) → is_data b ≡ true → (b == 10) ≡ false
no-start b h = grind (arith, nat_tests)

separator-kind : (s : State) (b : ℕ) → has_text s ≡ true → is_data b ≡ true → separator_kind s b ≡ Char b
unfolding separator_kind
separator-kind s b text h =
    rw (no-end b h, no-start b h) (if-true (has_text s || in_text_section s.sections) _ _ (ap (λ t. t || in_text_section s.sections) text))

pub raw-kind : (s : State) (b : ℕ) → has_text s ≡ true → is_data b ≡ true → character_kind s m.Cdt b ≡ Char b
raw-kind s b text h = by (is_separator b) refl
  where
    by : (t : Bool) → is_separator b ≡ t → (if is_separator b then separator_kind s b else Char b) ≡ Char b
    by true e = if-true (is_separator b) _ _ e ∙ separator-kind s b text h
    by false e = if-false (is_separator b) _ _ e

raw-piece : (p : Point) (b : ℕ) → has_text p.state ≡ true → is_data b ≡ true → content_piece p.outside p.state (stacked_at p) m.Cdt kind.Chars (b ∷ []) ≡ Ok (sized 1 (kind_noted p.state (Char b)))
unfolding content_piece kind_noted
raw-piece p b text h = ap (λ k. Ok (sized 1 k)) (raw-kind p.state b text h)

pub raw-characters : RawCharactersAreSpelled
raw-characters p b rest h text k none =
    let s = (doctype_at p).syntax in
    let maps = is_map (map_at p.state) in
    spelled-as p m.Cdt h (b ∷ []) rest kind.Chars (sized 1 (kind_noted p.state (Char b))) (omega arith)
    (character-here s m.Cdt false maps b rest refl k (no-end-tag s (b ∷ rest) none) (no-string maps (b ∷ rest)))
    (raw-piece p b text k)

-- A RECORD END AND A RECORD START
end-token : (s : Syntax) (maps : Bool) (rest : Text) → token_at s (record { mode = m.Cdt; net = false; maps = maps }) (13 ∷ rest) ≡ token kind.Re 1
unfolding token_at
end-token s maps rest =
    ap (by_delimiter s (record { mode = m.Cdt; net = false; maps = maps }) (13 ∷ rest)) (no-delimiter s m.Cdt false 13 rest refl refl)
    ∙ ap (by_string m.Cdt (13 ∷ rest)) (no-string maps (13 ∷ rest))

start-token : (s : Syntax) (maps : Bool) (rest : Text) → token_at s (record { mode = m.Cdt; net = false; maps = maps }) (10 ∷ rest) ≡ token kind.Rs 1
unfolding token_at
start-token s maps rest =
    ap (by_delimiter s (record { mode = m.Cdt; net = false; maps = maps }) (10 ∷ rest)) (no-delimiter s m.Cdt false 10 rest refl refl)
    ∙ ap (by_string m.Cdt (10 ∷ rest)) (no-string maps (10 ∷ rest))

end-piece : (p : Point) → has_text p.state ≡ true → content_piece p.outside p.state (stacked_at p) m.Cdt kind.Re (13 ∷ []) ≡ Ok (sized 1 (kind_noted p.state (Re true)))
unfolding content_piece kind_noted separator_kind
end-piece p text = ap (λ k. Ok (sized 1 k)) (if-true (has_text p.state) (Re (takes_end (facts_in p.state.record_ends))) _ text)

start-piece : (p : Point) → has_text p.state ≡ true → content_piece p.outside p.state (stacked_at p) m.Cdt kind.Rs (10 ∷ []) ≡ Ok (sized 1 (kind_noted p.state Rs))
unfolding content_piece kind_noted separator_kind
start-piece p text = ap (λ k. Ok (sized 1 k)) (if-true (has_text p.state) Rs _ text)

pub line-ends : LineEndsAreSpelled
line-ends p h text =
    let s = (doctype_at p).syntax in
    let maps = is_map (map_at p.state) in (
      λ rest. spelled-as p m.Cdt h (13 ∷ []) rest kind.Re (sized 1 (kind_noted p.state (Re true))) (omega arith) (end-token s maps rest) (end-piece p text),
      λ rest. spelled-as p m.Cdt h (10 ∷ []) rest kind.Rs (sized 1 (kind_noted p.state Rs)) (omega arith) (start-token s maps rest) (start-piece p text),
    )
