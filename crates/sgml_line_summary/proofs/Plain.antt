-- No byte of a line ends a record.
use Rattle.std.proofs.Common.{◌≡◌, ℕ, ◌+◌, ◌≤◌, inl, inr, List, [], ◌∷◌, ◌++◌, refl, ap, ◌∙◌, arith, Bool, true, ◌&&◌}
use Rattle.std.proofs.lemmas.Bool.Decides.{nat_tests}
use Rattle.std.proofs.lemmas.List.Folds.{list_all-append}
use Rattle.std.specs.Prelude.{codes}
use Rattle.std.specs.List.{list_all}
use Rattle.sgml_text.specs.declared.data_kind.DataKind.{DataKind}
use Rattle.sgml_text.specs.declared.data_kind.DataKind.TheVariants as kinds
use Rattle.sgml_io.specs.Records.{is_plain}
use Rattle.sgml_esis.specs.declared.line.EscUnit.{EscUnit}
use Rattle.sgml_esis.specs.declared.line.EscUnit.TheVariants as units
use Rattle.sgml_esis.specs.declared.line.Line.{Line}
use Rattle.sgml_esis.specs.declared.line.Line.TheVariants as lines
use Rattle.sgml_esis.specs.Grammar.{is_word_byte, is_word, IsUnit, AreUnits, AreWords, kind_name, Form}
use Rattle.sgml_esis.proofs.Tokens.{both, in_word}

plain_from : (b : ℕ) → 14 ≤ b → is_plain b ≡ true
plain_from b h = grind (arith, nat_tests)

plain_both : (xs ys : List ℕ) → list_all is_plain xs ≡ true → list_all is_plain ys ≡ true → list_all is_plain (xs ++ ys) ≡ true
plain_both xs ys h k = list_all-append is_plain xs ys ∙ ap (λ t. t && list_all is_plain ys) h ∙ k

plain_octal : (middle low : ℕ) → list_all is_plain (92 ∷ 48 ∷ (48 + middle) ∷ (48 + low) ∷ []) ≡ true
plain_octal middle low =
    let m : 14 ≤ 48 + middle = omega arith in
    let l : 14 ≤ 48 + low = omega arith in
    ap (λ t. t && (is_plain (48 + low) && true)) (plain_from (48 + middle) m) ∙ ap (λ t. t && true) (plain_from (48 + low) l)

plain_unit : (u : EscUnit) (front : List ℕ) → IsUnit u front → list_all is_plain front ≡ true
plain_unit (units.Byte b) front (inl p) = let h : 32 ≤ b = p.0 in let k : 14 ≤ b = omega arith in ap (list_all is_plain) p.2 ∙ ap (λ t. t && true) (plain_from b k)
plain_unit (units.Byte b) front (inr (inl p)) = ap (list_all is_plain) p.1
plain_unit (units.Byte b) front (inr (inr (inl p))) = ap (list_all is_plain) p.1
plain_unit (units.Byte b) front (inr (inr (inr p))) = ap (list_all is_plain) p.6 ∙ plain_octal p.2 p.3
plain_unit units.Bar front h = ap (list_all is_plain) h

plain_units : (us : List EscUnit) (bytes : List ℕ) → AreUnits us bytes → list_all is_plain bytes ≡ true
plain_units [] bytes h = ap (list_all is_plain) h
plain_units (u ∷ us) bytes (front, rest, is, unit, more) = ap (list_all is_plain) is ∙ plain_both front rest (plain_unit u front unit) (plain_units us rest more)

plain_byte : (b : ℕ) → is_word_byte b ≡ true → is_plain b ≡ true
plain_byte b h = grind (arith, nat_tests)

plain_bytes : (w : List ℕ) → list_all is_word_byte w ≡ true → list_all is_plain w ≡ true
plain_bytes [] h = refl
plain_bytes (b ∷ bs) h =
    let p = both (is_word_byte b) (list_all is_word_byte bs) h in
    ap (λ t. t && list_all is_plain bs) (plain_byte b p.0) ∙ plain_bytes bs p.1

plain_word : (w : List ℕ) → is_word w ≡ true → list_all is_plain w ≡ true
plain_word w is = plain_bytes w (in_word w is)

plain_words : (ws : List (List ℕ)) (bytes : List ℕ) → AreWords ws bytes → list_all is_plain bytes ≡ true
plain_words [] bytes h = absurd h
plain_words (w ∷ []) bytes (is, at) = ap (list_all is_plain) at ∙ plain_word w is
plain_words (w ∷ next ∷ ws) bytes (rest, is, at, more) =
    ap (list_all is_plain) at ∙ plain_both (32 ∷ w) rest (plain_word w is) (plain_words (next ∷ ws) rest more)

plain_after : (mark : ℕ) (name tail bytes : List ℕ) → is_plain mark ≡ true → is_word name ≡ true → list_all is_plain tail ≡ true → bytes ≡ mark ∷ name ++ tail → list_all is_plain bytes ≡ true
plain_after mark name tail bytes m is t at =
    ap (list_all is_plain) at ∙ plain_both (mark ∷ name) tail (ap (λ v. v && list_all is_plain name) m ∙ plain_word name is) t

plain_kind : (kind : DataKind) (rest : List ℕ) → list_all is_plain rest ≡ true → list_all is_plain (32 ∷ kind_name kind ++ 32 ∷ rest) ≡ true
plain_kind kinds.Cdata rest h = h
plain_kind kinds.Ndata rest h = h
plain_kind kinds.Sdata rest h = h

pub form_plain : (first last : Bool) (line : Line) (bytes : List ℕ) → Form first last line bytes → list_all is_plain bytes ≡ true
form_plain first last (lines.Start name) bytes h = ap (list_all is_plain) h.1 ∙ plain_word name h.0
form_plain first last (lines.Finish name) bytes h = ap (list_all is_plain) h.1 ∙ plain_word name h.0
form_plain first last (lines.Chars text) bytes h = ap (list_all is_plain) h.1.2 ∙ plain_units text h.1.0 h.1.1.units
form_plain first last (lines.DataRef name) bytes h = ap (list_all is_plain) h.1 ∙ plain_word name h.0
form_plain first last (lines.Pi text) bytes h = ap (list_all is_plain) h.2 ∙ plain_units text h.0 h.1.units
form_plain first last (lines.Implied name) bytes h = plain_after 65 name (codes " IMPLIED") bytes refl h.0 refl h.1
form_plain first last (lines.Cdata name text) bytes h = plain_after 65 name (codes " CDATA " ++ h.0) bytes refl h.2.0 (plain_units text h.0 h.1.units) h.2.1
form_plain first last (lines.Notation name notation) bytes h = plain_after 65 name (codes " NOTATION " ++ notation) bytes refl h.1.0 (plain_word notation h.0) h.1.1
form_plain first last (lines.Entity name ws) bytes h = plain_after 65 name (codes " ENTITY" ++ h.0) bytes refl h.2.0 (plain_words ws h.0 h.1) h.2.1
form_plain first last (lines.Token name ws) bytes h = plain_after 65 name (codes " TOKEN" ++ h.0) bytes refl h.2.0 (plain_words ws h.0 h.1) h.2.1
form_plain first last (lines.DefineNotation name) bytes h = ap (list_all is_plain) h.1 ∙ plain_word name h.0
form_plain first last (lines.DefineExternal name kind notation) bytes h = plain_after 69 name (32 ∷ kind_name kind ++ 32 ∷ notation) bytes refl h.1.0 (plain_kind kind notation (plain_word notation h.0)) h.1.1
form_plain first last (lines.DefineInternal name kind text) bytes h = plain_after 73 name (32 ∷ kind_name kind ++ 32 ∷ h.0) bytes refl h.3.0 (plain_kind kind h.0 (plain_units text h.0 h.2.units)) h.3.1
form_plain first last (lines.Public text) bytes h = ap (list_all is_plain) h.2 ∙ plain_units text h.0 h.1.units
form_plain first last (lines.System text) bytes h = ap (list_all is_plain) h.2 ∙ plain_units text h.0 h.1.units
form_plain first last (lines.AppInfo text) bytes h = ap (list_all is_plain) h.1.2 ∙ plain_units text h.1.0 h.1.1.units
form_plain first last lines.Conforming bytes h = ap (list_all is_plain) h.1
