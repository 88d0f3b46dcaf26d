-- A line's content: what is read is the grammar, and it is spelled so.
use Rattle.std.proofs.Common.{◌≡◌, ◌≢◌, ℕ, ◌⊎◌, inl, inr, List, [], ◌∷◌, ◌++◌, refl, sym, ap, ◌∙◌, append_assoc, subst, cond, Bool, true, false, not, ◌&&◌, Option, None, Some}
use Rattle.std.specs.Prelude.{codes}
use Rattle.std.specs.Option.{option_map}
use Rattle.sgml_text.specs.declared.data_kind.DataKind.{DataKind}
use Rattle.sgml_text.specs.declared.data_kind.DataKind.TheVariants as kinds
use Rattle.sgml_esis.specs.declared.line.EscUnit.{EscUnit}
use Rattle.sgml_esis.specs.declared.line.Line.{Line}
use Rattle.sgml_esis.specs.declared.line.Line.TheVariants as lines
use Rattle.sgml_esis.specs.declared.marks.Mark.TheVariants as marks
use Rattle.sgml_esis.specs.declared.marks.NameMark.{NameMark}
use Rattle.sgml_esis.specs.declared.marks.NameMark.TheVariants as names
use Rattle.sgml_esis.specs.declared.marks.TextMark.{TextMark}
use Rattle.sgml_esis.specs.declared.marks.TextMark.TheVariants as texts
use Rattle.sgml_esis.specs.Grammar.{is_word, AreUnits, IsText, is_none, kind_name, Form}
use Rattle.sgml_esis.specs.Spelling.{spell_escaped, spell_names, spell_kind, spell_content}
use Rattle.sgml_esis.specs.Reading.{on_some, text_of, word_of, words_of, strip, implied_of, cdata_of, notation_of, entity_of, token_of, attribute_of, kind_at, external_of, internal_of, name_line, text_line, may_stand, mark_byte, line_of}
use Rattle.sgml_esis.proofs.Units.{some_is, units_spelled, text_read, text_spelled, unit_some}
use Rattle.sgml_esis.proofs.Tokens.{tested, not_false, word_read, word_is, words_read, words_are, words_spelled, strip_is, split_read}

kind_spelled : (kind : DataKind) → 32 ∷ kind_name kind ≡ spell_kind kind
kind_spelled kinds.Cdata = refl
kind_spelled kinds.Ndata = refl
kind_spelled kinds.Sdata = refl

-- A form is spelled so.
text_at : (mark : ℕ) (text : List EscUnit) (tail bytes : List ℕ) → IsText text tail → bytes ≡ mark ∷ tail → bytes ≡ mark ∷ spell_escaped text
text_at mark text tail bytes t at = at ∙ ap (λ v. mark ∷ v) (units_spelled text tail t.units)

parts_at : (front word tail rest bytes : List ℕ) → bytes ≡ front ++ (word ++ tail) → tail ≡ rest → bytes ≡ front ++ word ++ rest
parts_at front word tail rest bytes at is = at ∙ ap (λ v. front ++ (word ++ v)) is ∙ sym (append_assoc front word rest)

pub form_spelled : (first last : Bool) (line : Line) (bytes : List ℕ) → Form first last line bytes → bytes ≡ spell_content line
form_spelled first last (lines.Start name) bytes h = h.1
form_spelled first last (lines.Finish name) bytes h = h.1
form_spelled first last (lines.Chars text) bytes h = text_at 45 text h.1.0 bytes h.1.1 h.1.2
form_spelled first last (lines.DataRef name) bytes h = h.1
form_spelled first last (lines.Pi text) bytes h = text_at 63 text h.0 bytes h.1 h.2
form_spelled first last (lines.Implied name) bytes h = h.1
form_spelled first last (lines.Cdata name text) bytes h = parts_at (65 ∷ name) (codes " CDATA ") h.0 (spell_escaped text) bytes h.2.1 (units_spelled text h.0 h.1.units)
form_spelled first last (lines.Notation name notation) bytes h = parts_at (65 ∷ name) (codes " NOTATION ") notation notation bytes h.1.1 refl
form_spelled first last (lines.Entity name ws) bytes h = parts_at (65 ∷ name) (codes " ENTITY") h.0 (spell_names ws) bytes h.2.1 (words_spelled ws h.0 h.1)
form_spelled first last (lines.Token name ws) bytes h = parts_at (65 ∷ name) (codes " TOKEN") h.0 (spell_names ws) bytes h.2.1 (words_spelled ws h.0 h.1)
form_spelled first last (lines.DefineNotation name) bytes h = h.1
form_spelled first last (lines.DefineExternal name kind notation) bytes h =
    parts_at (69 ∷ name) (32 ∷ kind_name kind) (32 ∷ notation) (32 ∷ notation) bytes h.1.1 refl ∙ ap (λ v. 69 ∷ name ++ v ++ 32 ∷ notation) (kind_spelled kind)
form_spelled first last (lines.DefineInternal name kind text) bytes h =
    parts_at (73 ∷ name) (32 ∷ kind_name kind) (32 ∷ h.0) (32 ∷ spell_escaped text) bytes h.3.1 (ap (λ v. 32 ∷ v) (units_spelled text h.0 h.2.units)) ∙ ap (λ v. 73 ∷ name ++ v ++ 32 ∷ spell_escaped text) (kind_spelled kind)
form_spelled first last (lines.Public text) bytes h = text_at 112 text h.0 bytes h.1 h.2
form_spelled first last (lines.System text) bytes h = text_at 115 text h.0 bytes h.1 h.2
form_spelled first last (lines.AppInfo text) bytes h = text_at 35 text h.1.0 bytes h.1.1 h.1.2
form_spelled first last lines.Conforming bytes h = h.1

-- A form is read.
some_text : (text : List EscUnit) (tail : List ℕ) → text ≢ [] → AreUnits text tail → is_none tail ≡ false
some_text [] tail ne h = absurd (ne refl)
some_text (u ∷ us) tail ne (front, rest, is, unit, more) = ap is_none is ∙ unit_some u front rest unit

attribute_at : (first last : Bool) (name rest bytes : List ℕ) → is_word name ≡ true → bytes ≡ 65 ∷ name ++ 32 ∷ rest → line_of first last bytes ≡ attribute_of name (32 ∷ rest)
attribute_at first last name rest bytes is at =
    ap (line_of first last) at ∙ ap (λ o. on_some o (λ parts. attribute_of parts.0 parts.1) None) (split_read name rest is)

external_at : (first last : Bool) (name rest bytes : List ℕ) → is_word name ≡ true → bytes ≡ 69 ∷ name ++ 32 ∷ rest → line_of first last bytes ≡ external_of name (32 ∷ rest)
external_at first last name rest bytes is at =
    ap (line_of first last) at ∙ ap (λ o. on_some o (λ parts. external_of parts.0 parts.1) None) (split_read name rest is)

internal_at : (first last : Bool) (name rest bytes : List ℕ) → is_word name ≡ true → bytes ≡ 73 ∷ name ++ 32 ∷ rest → line_of first last bytes ≡ internal_of name (32 ∷ rest)
internal_at first last name rest bytes is at =
    ap (line_of first last) at ∙ ap (λ o. on_some o (λ parts. internal_of parts.0 parts.1) None) (split_read name rest is)

pub form_read : (first last : Bool) (line : Line) (bytes : List ℕ) → Form first last line bytes → line_of first last bytes ≡ Some line
form_read first last (lines.Start name) bytes h = ap (line_of first last) h.1 ∙ ap (option_map (λ w. lines.Start w)) (word_read name h.0)
form_read first last (lines.Finish name) bytes h = ap (line_of first last) h.1 ∙ ap (option_map (λ w. lines.Finish w)) (word_read name h.0)
form_read first last (lines.Chars text) bytes h =
    ap (line_of first last) h.1.2 ∙ ap (λ t. cond (not t) (option_map (λ v. lines.Chars v) (text_of h.1.0)) None) (some_text text h.1.0 h.0 h.1.1.units) ∙ ap (option_map (λ v. lines.Chars v)) (text_read text h.1.0 h.1.1)
form_read first last (lines.DataRef name) bytes h = ap (line_of first last) h.1 ∙ ap (option_map (λ w. lines.DataRef w)) (word_read name h.0)
form_read first last (lines.Pi text) bytes h = ap (line_of first last) h.2 ∙ ap (option_map (λ v. lines.Pi v)) (text_read text h.0 h.1)
form_read first last (lines.Implied name) bytes h = attribute_at first last name (codes "IMPLIED") bytes h.0 h.1
form_read first last (lines.Cdata name text) bytes h = attribute_at first last name (codes "CDATA " ++ h.0) bytes h.2.0 h.2.1 ∙ ap (option_map (λ v. lines.Cdata name v)) (text_read text h.0 h.1)
form_read first last (lines.Notation name notation) bytes h = attribute_at first last name (codes "NOTATION " ++ notation) bytes h.1.0 h.1.1 ∙ ap (option_map (λ v. lines.Notation name v)) (word_read notation h.0)
form_read first last (lines.Entity name ws) bytes h = attribute_at first last name (codes "ENTITY" ++ h.0) bytes h.2.0 h.2.1 ∙ ap (option_map (λ v. lines.Entity name v)) (words_read ws h.0 h.1)
form_read first last (lines.Token name ws) bytes h = attribute_at first last name (codes "TOKEN" ++ h.0) bytes h.2.0 h.2.1 ∙ ap (option_map (λ v. lines.Token name v)) (words_read ws h.0 h.1)
form_read first last (lines.DefineNotation name) bytes h = ap (line_of first last) h.1 ∙ ap (option_map (λ w. lines.DefineNotation w)) (word_read name h.0)
form_read first last (lines.DefineExternal name kinds.Cdata notation) bytes h = external_at first last name (codes "CDATA" ++ 32 ∷ notation) bytes h.1.0 h.1.1 ∙ ap (option_map (λ v. lines.DefineExternal name kinds.Cdata v)) (word_read notation h.0)
form_read first last (lines.DefineExternal name kinds.Ndata notation) bytes h = external_at first last name (codes "NDATA" ++ 32 ∷ notation) bytes h.1.0 h.1.1 ∙ ap (option_map (λ v. lines.DefineExternal name kinds.Ndata v)) (word_read notation h.0)
form_read first last (lines.DefineExternal name kinds.Sdata notation) bytes h = external_at first last name (codes "SDATA" ++ 32 ∷ notation) bytes h.1.0 h.1.1 ∙ ap (option_map (λ v. lines.DefineExternal name kinds.Sdata v)) (word_read notation h.0)
form_read first last (lines.DefineInternal name kinds.Cdata text) bytes h = internal_at first last name (codes "CDATA" ++ 32 ∷ h.0) bytes h.3.0 h.3.1 ∙ ap (option_map (λ v. lines.DefineInternal name kinds.Cdata v)) (text_read text h.0 h.2)
form_read first last (lines.DefineInternal name kinds.Ndata text) bytes h = absurd (let e : false ≡ true = h.1 in cc)
form_read first last (lines.DefineInternal name kinds.Sdata text) bytes h = internal_at first last name (codes "SDATA" ++ 32 ∷ h.0) bytes h.3.0 h.3.1 ∙ ap (option_map (λ v. lines.DefineInternal name kinds.Sdata v)) (text_read text h.0 h.2)
form_read first last (lines.Public text) bytes h = ap (line_of first last) h.2 ∙ ap (option_map (λ v. lines.Public v)) (text_read text h.0 h.1)
form_read first last (lines.System text) bytes h = ap (line_of first last) h.2 ∙ ap (option_map (λ v. lines.System v)) (text_read text h.0 h.1)
form_read first last (lines.AppInfo text) bytes h =
    ap (line_of first last) h.1.2 ∙ ap (λ t. cond t (option_map (λ v. lines.AppInfo v) (text_of h.1.0)) None) h.0 ∙ ap (option_map (λ v. lines.AppInfo v)) (text_read text h.1.0 h.1.1)
form_read first last lines.Conforming bytes h = ap (line_of first last) h.1 ∙ ap (λ t. cond (t && true) (Some lines.Conforming) None) h.0

-- What is read has a form.
pub mapped : {A B : Type 0} (f : A → B) (o : Option A) (y : B) → option_map f o ≡ Some y → (x : A) × (o ≡ Some x) × (f x ≡ y)
mapped f None y h = absurd (cc)
mapped f (Some x) y h = (x, refl, some_is (f x) y h)

pub either : {A : Type 0} (o : Option A) (f : A → Option Line) (d : Option Line) (line : Line) → on_some o f d ≡ Some line → ((x : A) × (o ≡ Some x) × (f x ≡ Some line)) ⊎ (d ≡ Some line)
either None f d line h = inr h
either (Some x) f d line h = inl (x, refl, h)

pub named_form : (first last : Bool) (kind : NameMark) (name : List ℕ) → is_word name ≡ true → Form first last (name_line kind name) (mark_byte (marks.Named kind) ∷ name)
named_form first last names.Start name is = (is, refl)
named_form first last names.Finish name is = (is, refl)
named_form first last names.DataRef name is = (is, refl)
named_form first last names.DefineNotation name is = (is, refl)

no_text : (text : List EscUnit) (bytes : List ℕ) → is_none bytes ≡ false → AreUnits text bytes → text ≢ []
no_text [] bytes n h = λ e. absurd (let k : true ≡ false = ap is_none (sym h) ∙ n in cc)
no_text (u ∷ us) bytes n h = λ e. absurd (cc)

pub text_form : (first last : Bool) (kind : TextMark) (text : List EscUnit) (bytes : List ℕ) → may_stand first kind bytes ≡ true → IsText text bytes → Form first last (text_line kind text) (mark_byte (marks.Texted kind) ∷ bytes)
text_form first last texts.Chars text bytes may t = (no_text text bytes (not_false (is_none bytes) may) t.units, (bytes, t, refl))
text_form first last texts.Pi text bytes may t = (bytes, t, refl)
text_form first last texts.Public text bytes may t = (bytes, t, refl)
text_form first last texts.System text bytes may t = (bytes, t, refl)
text_form first last texts.AppInfo text bytes may t = (may, (bytes, t, refl))

pub none_is : (bytes : List ℕ) → is_none bytes ≡ true → bytes ≡ []
none_is [] h = refl
none_is (b ∷ bs) h = absurd (cc)

pub attribute_form : (first last : Bool) (name tail : List ℕ) (line : Line) → is_word name ≡ true → attribute_of name tail ≡ Some line → Form first last line (65 ∷ name ++ tail)
attribute_form first last name tail line is h =
    let F : Line → Type 0 = λ l. Form first last l (65 ∷ name ++ tail) in
    let e5 : Option Line = on_some (strip (codes " TOKEN") tail) (λ rest. token_of name rest) None in
    let e4 : Option Line = on_some (strip (codes " ENTITY") tail) (λ rest. entity_of name rest) e5 in
    let e3 : Option Line = on_some (strip (codes " NOTATION ") tail) (λ rest. notation_of name rest) e4 in
    let e2 : Option Line = on_some (strip (codes " CDATA ") tail) (λ rest. cdata_of name rest) e3 in
    let token : e5 ≡ Some line → F line = λ k. elim (either (strip (codes " TOKEN") tail) (λ rest. token_of name rest) None line k) [
      | inl p ↦
          let m = mapped (λ ws. lines.Token name ws) (words_of p.0) line p.2 in
          rw (← m.2) (let f : F (lines.Token name m.0) = (p.0, words_are p.0 m.0 m.1, (is, ap (λ v. 65 ∷ name ++ v) (strip_is (codes " TOKEN") tail p.0 p.1))) in f)
      | inr e ↦ absurd (cc)
    ] in
    let entity : e4 ≡ Some line → F line = λ k. elim (either (strip (codes " ENTITY") tail) (λ rest. entity_of name rest) e5 line k) [
      | inl p ↦
          let m = mapped (λ ws. lines.Entity name ws) (words_of p.0) line p.2 in
          rw (← m.2) (let f : F (lines.Entity name m.0) = (p.0, words_are p.0 m.0 m.1, (is, ap (λ v. 65 ∷ name ++ v) (strip_is (codes " ENTITY") tail p.0 p.1))) in f)
      | inr e ↦ token e
    ] in
    let notation : e3 ≡ Some line → F line = λ k. elim (either (strip (codes " NOTATION ") tail) (λ rest. notation_of name rest) e4 line k) [
      | inl p ↦
          let m = mapped (λ w. lines.Notation name w) (word_of p.0) line p.2 in
          let w = word_is p.0 m.0 m.1 in
          rw (← m.2) (let f : F (lines.Notation name m.0) = (w.0, (is, ap (λ v. 65 ∷ name ++ v) (strip_is (codes " NOTATION ") tail p.0 p.1 ∙ ap (λ v. codes " NOTATION " ++ v) w.1))) in f)
      | inr e ↦ entity e
    ] in
    let cdata : e2 ≡ Some line → F line = λ k. elim (either (strip (codes " CDATA ") tail) (λ rest. cdata_of name rest) e3 line k) [
      | inl p ↦
          let m = mapped (λ t. lines.Cdata name t) (text_of p.0) line p.2 in
          rw (← m.2) (let f : F (lines.Cdata name m.0) = (p.0, text_spelled p.0 m.0 m.1, (is, ap (λ v. 65 ∷ name ++ v) (strip_is (codes " CDATA ") tail p.0 p.1))) in f)
      | inr e ↦ notation e
    ] in
    elim (either (strip (codes " IMPLIED") tail) (λ rest. implied_of name rest) e2 line h) [
      | inl p ↦
          let m = tested (is_none p.0) (Some (lines.Implied name)) line p.2 in
          rw (← some_is (lines.Implied name) line m.1) (let f : F (lines.Implied name) = (is, ap (λ v. 65 ∷ name ++ v) (strip_is (codes " IMPLIED") tail p.0 p.1 ∙ ap (λ v. codes " IMPLIED" ++ v) (none_is p.0 m.0))) in f)
      | inr e ↦ cdata e
    ]

either_kind : (o : Option (List ℕ)) (kind : DataKind) (d : Option (DataKind × List ℕ)) (found : DataKind × List ℕ) → on_some o (λ r. Some (kind, r)) d ≡ Some found → ((r : List ℕ) × (o ≡ Some r) × ((kind, r) ≡ found)) ⊎ (d ≡ Some found)
either_kind None kind d found h = inr h
either_kind (Some r) kind d found h = inl (r, refl, some_is (kind, r) found h)

-- a kind between blanks
pub kind_is : (tail : List ℕ) (kind : DataKind) (rest : List ℕ) → kind_at tail ≡ Some (kind, rest) → tail ≡ 32 ∷ kind_name kind ++ 32 ∷ rest
kind_is tail kind rest h =
    let F : DataKind × List ℕ → Type 0 = λ p. tail ≡ 32 ∷ kind_name p.0 ++ 32 ∷ p.1 in
    let e3 : Option (DataKind × List ℕ) = on_some (strip (codes " SDATA ") tail) (λ r. Some (kinds.Sdata, r)) None in
    let e2 : Option (DataKind × List ℕ) = on_some (strip (codes " NDATA ") tail) (λ r. Some (kinds.Ndata, r)) e3 in
    let sdata : e3 ≡ Some (kind, rest) → F (kind, rest) = λ k. elim (either_kind (strip (codes " SDATA ") tail) kinds.Sdata None (kind, rest) k) [
      | inl p ↦ subst F p.2 (let f : F (kinds.Sdata, p.0) = strip_is (codes " SDATA ") tail p.0 p.1 in f)
      | inr e ↦ absurd (cc)
    ] in
    let ndata : e2 ≡ Some (kind, rest) → F (kind, rest) = λ k. elim (either_kind (strip (codes " NDATA ") tail) kinds.Ndata e3 (kind, rest) k) [
      | inl p ↦ subst F p.2 (let f : F (kinds.Ndata, p.0) = strip_is (codes " NDATA ") tail p.0 p.1 in f)
      | inr e ↦ sdata e
    ] in
    elim (either_kind (strip (codes " CDATA ") tail) kinds.Cdata e2 (kind, rest) h) [
      | inl p ↦ subst F p.2 (let f : F (kinds.Cdata, p.0) = strip_is (codes " CDATA ") tail p.0 p.1 in f)
      | inr e ↦ ndata e
    ]
