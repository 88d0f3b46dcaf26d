-- Lines one after another: what is read is the grammar, and there is one reading.
use Rattle.std.proofs.Common.{◌≡◌, ℕ, ◌+◌, inl, inr, suc, List, [], ◌∷◌, ◌++◌, length, refl, sym, ap, ◌∙◌, arith, subst, cond, Bool, true, false, not, ◌==◌, ◌&&◌, Option, None, Some}
use Rattle.std.proofs.lemmas.Bool.{eqb-true}
use Rattle.std.specs.Prelude.{codes}
use Rattle.std.specs.Option.{option_map}
use Rattle.std.specs.List.{list_all}
use Rattle.sgml_text.specs.declared.data_kind.DataKind.{DataKind}
use Rattle.sgml_text.specs.declared.data_kind.DataKind.TheVariants as kinds
use Rattle.sgml_esis.specs.declared.line.Line.{Line}
use Rattle.sgml_esis.specs.declared.line.Line.TheVariants as lines
use Rattle.sgml_esis.specs.declared.marks.Mark.{Mark}
use Rattle.sgml_esis.specs.declared.marks.Mark.TheVariants as marks
use Rattle.sgml_esis.specs.Grammar.{is_word_byte, is_word, AreWords, is_none, kind_name, is_internal, Form}
use Rattle.sgml_esis.specs.Reading.{text_of, word_of, split_of, attribute_of, kind_at, external_of, internal_of, name_line, text_line, may_stand, marked_of, mark_byte, all_marks, find_mark, mark_of, line_of, is_inner}
use Rattle.sgml_esis.proofs.Units.{pick, some_is, text_spelled, inner_both, units_inner}
use Rattle.sgml_esis.proofs.Tokens.{both, tested, word_is, in_word, split_is}
use Rattle.std.proofs.Common.{nat_lt, take, length-append}
use Rattle.std.proofs.lemmas.Bool.Decides.{nat_tests}
use Rattle.std.specs.List.{prefix_len}
use Rattle.sgml_esis.specs.Grammar.{NoLine}
use Rattle.sgml_esis.specs.Reading.{next_of}
use Rattle.sgml_esis.proofs.Tokens.{take_front, suc_not_zero}
use Rattle.sgml_esis.proofs.Forms.{mapped, either, named_form, text_form, attribute_form, kind_is, none_is, form_read}

find_is : (ms : List Mark) (b : ℕ) (mark : Mark) → find_mark ms b ≡ Some mark → b ≡ mark_byte mark
find_is [] b mark h = absurd (cc)
find_is (m ∷ ms) b mark h =
    elim (pick (b == mark_byte m) (Some m) (find_mark ms b) (Some mark) h) [ inl p ↦ eqb-true b (mark_byte m) p.0 ∙ ap mark_byte (some_is m mark p.1) | inr p ↦ find_is ms b mark p.1 ]

external_form : (first last : Bool) (name tail : List ℕ) (line : Line) → is_word name ≡ true → external_of name tail ≡ Some line → Form first last line (69 ∷ name ++ tail)
external_form first last name tail line is h =
    let F : Line → Type 0 = λ l. Form first last l (69 ∷ name ++ tail) in
    elim (either (kind_at tail) (λ found. option_map (λ w. lines.DefineExternal name found.0 w) (word_of found.1)) None line h) [
      | inl p ↦
          let m = mapped (λ w. lines.DefineExternal name p.0.0 w) (word_of p.0.1) line p.2 in
          let w = word_is p.0.1 m.0 m.1 in
          let at : tail ≡ 32 ∷ kind_name p.0.0 ++ 32 ∷ p.0.1 = kind_is tail p.0.0 p.0.1 p.1 in
          subst F m.2 (let f : F (lines.DefineExternal name p.0.0 m.0) = (w.0, (is, ap (λ v. 69 ∷ name ++ v) (at ∙ ap (λ v. 32 ∷ kind_name p.0.0 ++ 32 ∷ v) w.1))) in f)
      | inr e ↦ absurd (cc)
    ]

internal_form : (first last : Bool) (name tail : List ℕ) (line : Line) → is_word name ≡ true → internal_of name tail ≡ Some line → Form first last line (73 ∷ name ++ tail)
internal_form first last name tail line is h =
    let F : Line → Type 0 = λ l. Form first last l (73 ∷ name ++ tail) in
    elim (either (kind_at tail) (λ found. cond (is_internal found.0) (option_map (λ t. lines.DefineInternal name found.0 t) (text_of found.1)) None) None line h) [
      | inl p ↦
          let k = tested (is_internal p.0.0) (option_map (λ t. lines.DefineInternal name p.0.0 t) (text_of p.0.1)) line p.2 in
          let m = mapped (λ t. lines.DefineInternal name p.0.0 t) (text_of p.0.1) line k.1 in
          subst F m.2 (let f : F (lines.DefineInternal name p.0.0 m.0) = (p.0.1, k.0, text_spelled p.0.1 m.0 m.1, (is, ap (λ v. 73 ∷ name ++ v) (kind_is tail p.0.0 p.0.1 p.1))) in f)
      | inr e ↦ absurd (cc)
    ]

marked_form : (first last : Bool) (mark : Mark) (bytes : List ℕ) (line : Line) → marked_of first last mark bytes ≡ Some line → Form first last line (mark_byte mark ∷ bytes)
marked_form first last (marks.Named kind) bytes line h =
    let m = mapped (λ w. name_line kind w) (word_of bytes) line h in
    let w = word_is bytes m.0 m.1 in
    let F : Line → Type 0 = λ l. Form first last l (mark_byte (marks.Named kind) ∷ bytes) in
    let G : List ℕ → Type 0 = λ v. Form first last (name_line kind m.0) (mark_byte (marks.Named kind) ∷ v) in
    subst F m.2 (subst G (sym w.1) (named_form first last kind m.0 w.0))
marked_form first last (marks.Texted kind) bytes line h =
    let t = tested (may_stand first kind bytes) (option_map (λ v. text_line kind v) (text_of bytes)) line h in
    let m = mapped (λ v. text_line kind v) (text_of bytes) line t.1 in
    let F : Line → Type 0 = λ l. Form first last l (mark_byte (marks.Texted kind) ∷ bytes) in
    subst F m.2 (text_form first last kind m.0 bytes t.0 (text_spelled bytes m.0 m.1))
marked_form first last marks.Attribute bytes line h =
    elim (either (split_of bytes) (λ parts. attribute_of parts.0 parts.1) None line h) [
      | inl p ↦ let s = split_is bytes p.0.0 p.0.1 p.1 in let G : List ℕ → Type 0 = λ v. Form first last line (mark_byte marks.Attribute ∷ v) in subst G (sym s.1) (attribute_form first last p.0.0 p.0.1 line s.0 p.2)
      | inr e ↦ absurd (cc)
    ]
marked_form first last marks.External bytes line h =
    elim (either (split_of bytes) (λ parts. external_of parts.0 parts.1) None line h) [
      | inl p ↦ let s = split_is bytes p.0.0 p.0.1 p.1 in let G : List ℕ → Type 0 = λ v. Form first last line (mark_byte marks.External ∷ v) in subst G (sym s.1) (external_form first last p.0.0 p.0.1 line s.0 p.2)
      | inr e ↦ absurd (cc)
    ]
marked_form first last marks.Internal bytes line h =
    elim (either (split_of bytes) (λ parts. internal_of parts.0 parts.1) None line h) [
      | inl p ↦ let s = split_is bytes p.0.0 p.0.1 p.1 in let G : List ℕ → Type 0 = λ v. Form first last line (mark_byte marks.Internal ∷ v) in subst G (sym s.1) (internal_form first last p.0.0 p.0.1 line s.0 p.2)
      | inr e ↦ absurd (cc)
    ]
marked_form first last marks.Conforming bytes line h =
    let t = tested (last && is_none bytes) (Some lines.Conforming) line h in
    let b = both last (is_none bytes) t.0 in
    let F : Line → Type 0 = λ l. Form first last l (67 ∷ bytes) in
    subst F (some_is lines.Conforming line t.1) (let f : F lines.Conforming = (b.0, ap (λ v. 67 ∷ v) (none_is bytes b.1)) in f)

pub line_form : (first last : Bool) (bytes : List ℕ) (line : Line) → line_of first last bytes ≡ Some line → Form first last line bytes
line_form first last [] line h = absurd (cc)
line_form first last (b ∷ bs) line h =
    elim (either (mark_of b) (λ mark. marked_of first last mark bs) None line h) [
      | inl p ↦ rw (find_is all_marks b p.0 p.1) (marked_form first last p.0 bs line p.2)
      | inr e ↦ absurd (cc)
    ]

-- No LF stands in a line.
inner_word : (b : ℕ) → is_word_byte b ≡ true → is_inner b ≡ true
inner_word b h =
    let P : Bool → Type 0 = λ t. (b == 10) ≡ t → not t ≡ true in
    let yes : P true = λ e. let i : b ≡ 10 = eqb-true b 10 e in absurd (let k : false ≡ true = rw i at h in cc) in
    let isnt : P false = λ e. refl in
    (elim (b == 10) as P [ true ↦ yes | false ↦ isnt ]) refl

inner_words : (w : List ℕ) → list_all is_word_byte w ≡ true → list_all is_inner w ≡ true
inner_words [] h = refl
inner_words (b ∷ bs) h =
    let p = both (is_word_byte b) (list_all is_word_byte bs) h in
    ap (λ t. t && list_all is_inner bs) (inner_word b p.0) ∙ inner_words bs p.1

inner_list : (ws : List (List ℕ)) (bytes : List ℕ) → AreWords ws bytes → list_all is_inner bytes ≡ true
inner_list [] bytes h = absurd h
inner_list (w ∷ []) bytes (is, at) = ap (list_all is_inner) at ∙ inner_words w (in_word w is)
inner_list (w ∷ next ∷ ws) bytes (rest, is, at, more) =
    ap (list_all is_inner) at ∙ inner_both (32 ∷ w) rest (inner_words w (in_word w is)) (inner_list (next ∷ ws) rest more)

inner_after : (mark : ℕ) (name tail bytes : List ℕ) → is_inner mark ≡ true → is_word name ≡ true → list_all is_inner tail ≡ true → bytes ≡ mark ∷ name ++ tail → list_all is_inner bytes ≡ true
inner_after mark name tail bytes m is t at =
    ap (list_all is_inner) at ∙ inner_both (mark ∷ name) tail (ap (λ v. v && list_all is_inner name) m ∙ inner_words name (in_word name is)) t

inner_kind : (kind : DataKind) (rest : List ℕ) → list_all is_inner rest ≡ true → list_all is_inner (32 ∷ kind_name kind ++ 32 ∷ rest) ≡ true
inner_kind kinds.Cdata rest h = h
inner_kind kinds.Ndata rest h = h
inner_kind kinds.Sdata rest h = h

pub form_inner : (first last : Bool) (line : Line) (bytes : List ℕ) → Form first last line bytes → list_all is_inner bytes ≡ true
form_inner first last (lines.Start name) bytes h = ap (list_all is_inner) h.1 ∙ inner_words name (in_word name h.0)
form_inner first last (lines.Finish name) bytes h = ap (list_all is_inner) h.1 ∙ inner_words name (in_word name h.0)
form_inner first last (lines.Chars text) bytes h = ap (list_all is_inner) h.1.2 ∙ units_inner text h.1.0 h.1.1.units
form_inner first last (lines.DataRef name) bytes h = ap (list_all is_inner) h.1 ∙ inner_words name (in_word name h.0)
form_inner first last (lines.Pi text) bytes h = ap (list_all is_inner) h.2 ∙ units_inner text h.0 h.1.units
form_inner first last (lines.Implied name) bytes h = inner_after 65 name (codes " IMPLIED") bytes refl h.0 refl h.1
form_inner first last (lines.Cdata name text) bytes h = inner_after 65 name (codes " CDATA " ++ h.0) bytes refl h.2.0 (units_inner text h.0 h.1.units) h.2.1
form_inner first last (lines.Notation name notation) bytes h = inner_after 65 name (codes " NOTATION " ++ notation) bytes refl h.1.0 (inner_words notation (in_word notation h.0)) h.1.1
form_inner first last (lines.Entity name ws) bytes h = inner_after 65 name (codes " ENTITY" ++ h.0) bytes refl h.2.0 (inner_list ws h.0 h.1) h.2.1
form_inner first last (lines.Token name ws) bytes h = inner_after 65 name (codes " TOKEN" ++ h.0) bytes refl h.2.0 (inner_list ws h.0 h.1) h.2.1
form_inner first last (lines.DefineNotation name) bytes h = ap (list_all is_inner) h.1 ∙ inner_words name (in_word name h.0)
form_inner first last (lines.DefineExternal name kind notation) bytes h = inner_after 69 name (32 ∷ kind_name kind ++ 32 ∷ notation) bytes refl h.1.0 (inner_kind kind notation (inner_words notation (in_word notation h.0))) h.1.1
form_inner first last (lines.DefineInternal name kind text) bytes h = inner_after 73 name (32 ∷ kind_name kind ++ 32 ∷ h.0) bytes refl h.3.0 (inner_kind kind h.0 (units_inner text h.0 h.2.units)) h.3.1
form_inner first last (lines.Public text) bytes h = ap (list_all is_inner) h.2 ∙ units_inner text h.0 h.1.units
form_inner first last (lines.System text) bytes h = ap (list_all is_inner) h.2 ∙ units_inner text h.0 h.1.units
form_inner first last (lines.AppInfo text) bytes h = ap (list_all is_inner) h.1.2 ∙ units_inner text h.1.0 h.1.1.units
form_inner first last lines.Conforming bytes h = ap (list_all is_inner) h.1

-- The line at the front.
line_run : (content more : List ℕ) → list_all is_inner content ≡ true → prefix_len is_inner (content ++ 10 ∷ more) ≡ length content
line_run [] more h = refl
line_run (b ∷ bs) more h =
    let p = both (is_inner b) (list_all is_inner bs) h in
    let one : 1 + length bs ≡ suc (length bs) = omega arith in
    ap (λ t. cond t (1 + prefix_len is_inner (bs ++ 10 ∷ more)) 0) p.0 ∙ ap (λ n. 1 + n) (line_run bs more p.1) ∙ one

longer : (n m : ℕ) → nat_lt n (n + suc m) ≡ true
longer n m = grind (arith, nat_tests)

pub last_is : (n m : ℕ) → (n + 1 == n + suc m) ≡ (m == 0)
last_is n m = grind (arith, nat_tests)

pub none_length : (more : List ℕ) → (length more == 0) ≡ is_none more
none_length [] = refl
none_length (b ∷ bs) = suc_not_zero (length bs)

pub next_read : (first : Bool) (line : Line) (bytes content more : List ℕ) → bytes ≡ content ++ 10 ∷ more → Form first (is_none more) line content → next_of first bytes ≡ Some (line, length content + 1)
next_read first line bytes content more at form =
    let n : ℕ = length content in
    let whole : List ℕ = content ++ 10 ∷ more in
    let run : prefix_len is_inner whole ≡ n = line_run content more (form_inner first (is_none more) line content form) in
    let size : length whole ≡ n + suc (length more) = length-append content (10 ∷ more) in
    let f : ℕ → ℕ → Option (Line × ℕ) = λ k l. cond (nat_lt k l) (option_map (λ v. (v, k + 1)) (line_of first (k + 1 == l) (take k whole))) None in
    let last : (n + 1 == n + suc (length more)) ≡ is_none more = last_is n (length more) ∙ none_length more in
    ap (next_of first) at ∙ ap (λ k. f k (length whole)) run ∙ ap (f n) size
    ∙ ap (λ t. cond t (option_map (λ v. (v, n + 1)) (line_of first (n + 1 == n + suc (length more)) (take n whole))) None) (longer n (length more))
    ∙ ap (λ t. option_map (λ v. (v, n + 1)) (line_of first t (take n whole))) last
    ∙ ap (λ v. option_map (λ w. (w, n + 1)) (line_of first (is_none more) v)) (take_front content (10 ∷ more))
    ∙ ap (option_map (λ v. (v, n + 1))) (form_read first (is_none more) line content form)

pub no_line : (first : Bool) (bytes : List ℕ) → next_of first bytes ≡ None → NoLine first bytes
no_line first bytes h = λ line content more at form.
    let s : next_of first bytes ≡ Some (line, length content + 1) = next_read first line bytes content more at form in
    cc
