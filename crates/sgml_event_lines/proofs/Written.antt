-- Lines whose names are words have their forms.
use Rattle.std.proofs.Common.{◌≡◌, ℕ, ◌+◌, ◌*◌, ◌%◌, ◌==◌, ◌&&◌, not, Bool, true, false, List, [], ◌∷◌, ◌++◌, map, refl, ap, append-nil, arith, cond}
use Rattle.std.specs.Prelude.{codes}
use Rattle.std.specs.List.{list_all, count_by}
use Rattle.std.proofs.lemmas.List.Sums.{sum_by-append}
use Rattle.sgml_text.specs.declared.data_kind.DataKind.{DataKind}
use Rattle.sgml_esis.specs.declared.line.EscUnit.{EscUnit}
use Rattle.sgml_esis.specs.declared.line.EscUnit.TheVariants as escape
use Rattle.sgml_esis.specs.Grammar.{is_word, is_none, is_bar, is_paired, is_internal, kind_name, IsText, AreWords, Form}
use Rattle.sgml_esis.specs.Spelling.{spell_escaped, spell_names}
use Rattle.sgml_esis.proofs.Units.{units_are}
use Rattle.sgml_esis.proofs.Tokens.{both}
use Rattle.sgml_theory_reading.specs.Names.{Name}
use Rattle.sgml_theory_reading.specs.Lines.{Line, Shape, Plain, Barred, StartLine, FinishLine, CharsLine, DataRefLine, PiLine, ImpliedLine, CdataLine, NotationLine, EntityLine, TokenLine, DefineNotation, DefineExternal, DefineInternal, PublicLine, SystemLine, AppInfoLine, ConformingLine}
use Rattle.sgml_event_lines.specs.Shown.{shown, shape_units, data_units, text_units}

-- one or more words
abbrev pub are_words : List Name → Bool
are_words ns = not (is_none ns) && list_all is_word ns

-- the names of a line are words, and it may stand anywhere
abbrev pub is_written : Line → Bool
is_written (StartLine n) = is_word n
is_written (FinishLine n) = is_word n
is_written (CharsLine shapes) = not (is_none shapes)
is_written (DataRefLine n) = is_word n
is_written (PiLine text) = true
is_written (ImpliedLine a) = is_word a
is_written (CdataLine a shapes) = is_word a
is_written (NotationLine a n) = is_word a && is_word n
is_written (EntityLine a es) = is_word a && are_words es
is_written (TokenLine a ts) = is_word a && are_words ts
is_written (DefineNotation n) = is_word n
is_written (DefineExternal e kind n) = is_word e && is_word n
is_written (DefineInternal e kind text) = is_word e && is_internal kind
is_written (PublicLine text) = true
is_written (SystemLine text) = true
is_written (AppInfoLine text) = false
is_written ConformingLine = false

-- BARS COME IN PAIRS
bars_append : (us vs : List EscUnit) → count_by is_bar (us ++ vs) ≡ count_by is_bar us + count_by is_bar vs
bars_append us vs = sum_by-append (λ u. cond (is_bar u) 1 0) us vs

no_bars : (text : List ℕ) → count_by is_bar (map escape.Byte text) ≡ 0
no_bars [] = refl
no_bars (b ∷ bs) = no_bars bs

even : (n k : ℕ) → n ≡ 2 * k → (n % 2 == 0) ≡ true
even n k is = let none : n % 2 ≡ 0 = omega (arith, is) in ap (λ v. v == 0) none

pub text_paired : (text : List ℕ) → is_paired (text_units text) ≡ true
text_paired text = even (count_by is_bar (map escape.Byte text)) 0 (no_bars text)

shape_bars : (s : Shape) → (k : ℕ) × (count_by is_bar (shape_units s) ≡ 2 * k)
shape_bars (Plain b) = (0, refl)
shape_bars (Barred text) =
    let inner : count_by is_bar (map escape.Byte text ++ escape.Bar ∷ []) ≡ count_by is_bar (map escape.Byte text) + 1 = bars_append (map escape.Byte text) (escape.Bar ∷ []) in
    let none : count_by is_bar (map escape.Byte text) ≡ 0 = no_bars text in
    let whole : count_by is_bar (shape_units (Barred text)) ≡ 1 + count_by is_bar (map escape.Byte text ++ escape.Bar ∷ []) = bars_append (escape.Bar ∷ []) (map escape.Byte text ++ escape.Bar ∷ []) in
    (1, omega (arith, inner, none, whole))

data_bars : (shapes : List Shape) → (k : ℕ) × (count_by is_bar (data_units shapes) ≡ 2 * k)
data_bars [] = (0, refl)
data_bars (s ∷ ss) =
    let one = shape_bars s in
    let more = data_bars ss in
    let whole : count_by is_bar (data_units (s ∷ ss)) ≡ count_by is_bar (shape_units s) + count_by is_bar (data_units ss) = bars_append (shape_units s) (data_units ss) in
    let first : count_by is_bar (shape_units s) ≡ 2 * one.0 = one.1 in
    let rest : count_by is_bar (data_units ss) ≡ 2 * more.0 = more.1 in
    (one.0 + more.0, omega (arith, whole, first, rest))

data_paired : (shapes : List Shape) → is_paired (data_units shapes) ≡ true
data_paired shapes = let bars = data_bars shapes in even (count_by is_bar (data_units shapes)) bars.0 bars.1

-- TEXTS AND WORDS
text_is : (us : List EscUnit) → is_paired us ≡ true → IsText us (spell_escaped us)
text_is us h = record { units = units_are us; paired = h }

pub plain_text : (text : List ℕ) → IsText (text_units text) (spell_escaped (text_units text))
plain_text text = text_is (text_units text) (text_paired text)

data_text : (shapes : List Shape) → IsText (data_units shapes) (spell_escaped (data_units shapes))
data_text shapes = text_is (data_units shapes) (data_paired shapes)

words_follow : (ws : List Name) → not (is_none ws) ≡ true → list_all is_word ws ≡ true → AreWords ws (spell_names ws)
words_follow [] some all = absurd (cc)
words_follow (w ∷ []) some all = ((both (is_word w) true all).0, ap (λ v. 32 ∷ v) (append-nil w))
words_follow (w ∷ next ∷ ws) some all =
    let p = both (is_word w) (list_all is_word (next ∷ ws)) all in
    (spell_names (next ∷ ws), p.0, refl, words_follow (next ∷ ws) refl p.1)

words_are : (ws : List Name) → are_words ws ≡ true → AreWords ws (spell_names ws)
words_are ws h = let p = both (not (is_none ws)) (list_all is_word ws) h in words_follow ws p.0 p.1

some_units : (shapes : List Shape) → not (is_none shapes) ≡ true → data_units shapes ≡ [] → ⊥
some_units [] some none = absurd (cc)
some_units (Plain b ∷ ss) some none = cc
some_units (Barred text ∷ ss) some none = cc

external_form : (first last : Bool) (e : Name) (kind : DataKind) (n : Name) → (is_word e ≡ true) × (is_word n ≡ true) → (content : List ℕ) × Form first last (shown (DefineExternal e kind n)) content
external_form first last e kind n p = (69 ∷ e ++ (32 ∷ kind_name kind ++ 32 ∷ n), (p.1, (p.0, refl)))

internal_form : (first last : Bool) (e : Name) (kind : DataKind) (text : List ℕ) → (is_word e ≡ true) × (is_internal kind ≡ true) → (content : List ℕ) × Form first last (shown (DefineInternal e kind text)) content
internal_form first last e kind text p =
    let tail : List ℕ = spell_escaped (text_units text) in
    (73 ∷ e ++ (32 ∷ kind_name kind ++ 32 ∷ tail), (tail, p.1, plain_text text, (p.0, refl)))

-- EACH LINE has its form, wherever it stands
pub line_form : (first last : Bool) (l : Line) → is_written l ≡ true → (content : List ℕ) × Form first last (shown l) content
line_form first last (StartLine n) h = (40 ∷ n, (h, refl))
line_form first last (FinishLine n) h = (41 ∷ n, (h, refl))
line_form first last (CharsLine shapes) h =
    let tail : List ℕ = spell_escaped (data_units shapes) in
    (45 ∷ tail, (some_units shapes h, (tail, data_text shapes, refl)))
line_form first last (DataRefLine n) h = (38 ∷ n, (h, refl))
line_form first last (PiLine text) h =
    let tail : List ℕ = spell_escaped (text_units text) in
    (63 ∷ tail, (tail, plain_text text, refl))
line_form first last (ImpliedLine a) h = (65 ∷ a ++ codes " IMPLIED", (h, refl))
line_form first last (CdataLine a shapes) h =
    let tail : List ℕ = spell_escaped (data_units shapes) in
    (65 ∷ a ++ (codes " CDATA " ++ tail), (tail, data_text shapes, (h, refl)))
line_form first last (NotationLine a n) h =
    let p = both (is_word a) (is_word n) h in
    (65 ∷ a ++ (codes " NOTATION " ++ n), (p.1, (p.0, refl)))
line_form first last (EntityLine a es) h =
    let p = both (is_word a) (are_words es) h in
    (65 ∷ a ++ (codes " ENTITY" ++ spell_names es), (spell_names es, words_are es p.1, (p.0, refl)))
line_form first last (TokenLine a ts) h =
    let p = both (is_word a) (are_words ts) h in
    (65 ∷ a ++ (codes " TOKEN" ++ spell_names ts), (spell_names ts, words_are ts p.1, (p.0, refl)))
line_form first last (DefineNotation n) h = (78 ∷ n, (h, refl))
line_form first last (DefineExternal e kind n) h = external_form first last e kind n (both (is_word e) (is_word n) h)
line_form first last (DefineInternal e kind text) h = internal_form first last e kind text (both (is_word e) (is_internal kind) h)
line_form first last (PublicLine text) h =
    let tail : List ℕ = spell_escaped (text_units text) in
    (112 ∷ tail, (tail, plain_text text, refl))
line_form first last (SystemLine text) h =
    let tail : List ℕ = spell_escaped (text_units text) in
    (115 ∷ tail, (tail, plain_text text, refl))
line_form first last (AppInfoLine text) h = absurd (cc)
line_form first last ConformingLine h = absurd (cc)
