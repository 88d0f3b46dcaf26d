-- Lines that are added one after another are the joined lines with their definitions.
use Rattle.std.specs.Prelude.{◌⊎◌}
use Rattle.std.proofs.Common.{◌≡◌, ℕ, Bool, true, false, List, [], ◌∷◌, ◌++◌, refl, sym, ap, ◌∙◌, append_assoc, append-nil, inl, inr}
use Rattle.std.proofs.lemmas.Grind.{flat_map-append}
use Rattle.std.proofs.lemmas.List.{map-append}
use Rattle.sgml_esis.specs.Spelling.{spell_escaped, spell_lines, spell_line, spell_unit}
use Rattle.sgml_dtd.specs.Doctypes.{Doctype}
use Rattle.sgml_theory_reading.specs.Lines.{Line, Shape, Known, StartLine, FinishLine, CharsLine, DataRefLine, PiLine, ImpliedLine, CdataLine, NotationLine, EntityLine, TokenLine, DefineNotation, DefineExternal, DefineInternal, PublicLine, SystemLine, AppInfoLine, ConformingLine, joined, joined_to, with_definitions, defined_for}
use Rattle.sgml_event_lines.specs.Shown.{all_shown, shown, data_units, shape_units}
use Rattle.sgml_event_lines.specs.Placed.{placed_line, placed}
use Rattle.sgml_event_lines.specs.Spelled.{spelled, Open, closing, beginning, added, opened_by, all_added, opened}

-- spelling goes over lines one after another
pub spelled_append : (xs ys : List Line) → spelled (xs ++ ys) ≡ spelled xs ++ spelled ys
spelled_append xs ys = ap spell_lines (map-append shown xs ys) ∙ flat_map-append spell_line (all_shown xs) (all_shown ys)

pub data_append : (xs ys : List Shape) → spell_escaped (data_units (xs ++ ys)) ≡ spell_escaped (data_units xs) ++ spell_escaped (data_units ys)
data_append xs ys = ap spell_escaped (flat_map-append shape_units xs ys) ∙ flat_map-append spell_unit (data_units xs) (data_units ys)

abbrev pub open_at : Known → Bool → Open
open_at known within = record { known = known; within = within }

-- ONE AFTER ANOTHER

pub all_added_append : (d : Doctype) (o : Open) (xs ys : List Line) → all_added d o (xs ++ ys) ≡ all_added d o xs ++ all_added d (opened d o xs) ys
all_added_append d o [] ys = refl
all_added_append d o (x ∷ xs) ys = ap (λ v. added d o x ++ v) (all_added_append d (opened_by d o x) xs ys) ∙ sym (append_assoc (added d o x) (all_added d (opened_by d o x) xs) (all_added d (opened d (opened_by d o x) xs) ys))

pub opened_append : (d : Doctype) (o : Open) (xs ys : List Line) → opened d o (xs ++ ys) ≡ opened d (opened d o xs) ys
opened_append d o [] ys = refl
opened_append d o (x ∷ xs) ys = opened_append d (opened_by d o x) xs ys

-- THE DATA AT THE FRONT of joined lines, and what follows it
abbrev pub data_front : List Line → List Shape
data_front (CharsLine shapes ∷ ls) = shapes
data_front ls = []

abbrev pub behind_front : List Line → List Line
behind_front (CharsLine shapes ∷ ls) = ls
behind_front ls = ls

pub joined_front : (us : List Shape) (js : List Line) → joined_to (CharsLine us) js ≡ CharsLine (us ++ data_front js) ∷ behind_front js
joined_front us [] = ap (λ v. CharsLine v ∷ []) (sym (append-nil us))
joined_front us (CharsLine more ∷ js) = refl
joined_front us (StartLine n ∷ js) = ap (λ v. CharsLine v ∷ StartLine n ∷ js) (sym (append-nil us))
joined_front us (FinishLine n ∷ js) = ap (λ v. CharsLine v ∷ FinishLine n ∷ js) (sym (append-nil us))
joined_front us (DataRefLine n ∷ js) = ap (λ v. CharsLine v ∷ DataRefLine n ∷ js) (sym (append-nil us))
joined_front us (PiLine t ∷ js) = ap (λ v. CharsLine v ∷ PiLine t ∷ js) (sym (append-nil us))
joined_front us (ImpliedLine a ∷ js) = ap (λ v. CharsLine v ∷ ImpliedLine a ∷ js) (sym (append-nil us))
joined_front us (CdataLine a s ∷ js) = ap (λ v. CharsLine v ∷ CdataLine a s ∷ js) (sym (append-nil us))
joined_front us (NotationLine a n ∷ js) = ap (λ v. CharsLine v ∷ NotationLine a n ∷ js) (sym (append-nil us))
joined_front us (EntityLine a es ∷ js) = ap (λ v. CharsLine v ∷ EntityLine a es ∷ js) (sym (append-nil us))
joined_front us (TokenLine a ts ∷ js) = ap (λ v. CharsLine v ∷ TokenLine a ts ∷ js) (sym (append-nil us))
joined_front us (DefineNotation n ∷ js) = ap (λ v. CharsLine v ∷ DefineNotation n ∷ js) (sym (append-nil us))
joined_front us (DefineExternal x k n ∷ js) = ap (λ v. CharsLine v ∷ DefineExternal x k n ∷ js) (sym (append-nil us))
joined_front us (DefineInternal x k t ∷ js) = ap (λ v. CharsLine v ∷ DefineInternal x k t ∷ js) (sym (append-nil us))
joined_front us (PublicLine t ∷ js) = ap (λ v. CharsLine v ∷ PublicLine t ∷ js) (sym (append-nil us))
joined_front us (SystemLine t ∷ js) = ap (λ v. CharsLine v ∷ SystemLine t ∷ js) (sym (append-nil us))
joined_front us (AppInfoLine t ∷ js) = ap (λ v. CharsLine v ∷ AppInfoLine t ∷ js) (sym (append-nil us))
joined_front us (ConformingLine ∷ js) = ap (λ v. CharsLine v ∷ ConformingLine ∷ js) (sym (append-nil us))

-- the bytes of joined lines behind lines that are added: of data that joins an open line, or of lines
abbrev pub data_bytes : Doctype → Known → List Shape → List Line → List ℕ
data_bytes d known shapes ls = spell_escaped (data_units shapes) ++ 10 ∷ spelled (with_definitions d known ls)

abbrev pub bytes_at : Doctype → Known → Bool → List Line → List ℕ
bytes_at d known true js = data_bytes d known (data_front js) (behind_front js)
bytes_at d known false js = spelled (with_definitions d known js)

-- a line that isn't data
pub record Other (d : Doctype) (l : Line) : Type 0 where
  pub adds : (o : Open) → added d o l ≡ closing o.within ++ spelled (placed_line d l o.known).lines
  pub leaves : (o : Open) → opened_by d o l ≡ open_at (placed_line d l o.known).known false
  pub joins : (ls : List Line) → joined_to l ls ≡ l ∷ ls
  pub front : (known : Known) (ls : List Line) → bytes_at d known true (l ∷ ls) ≡ 10 ∷ spelled (with_definitions d known (l ∷ ls))

pub kind : (d : Doctype) (l : Line) → ((shapes : List Shape) × (l ≡ CharsLine shapes)) ⊎ Other d l
kind d (CharsLine shapes) = inl (shapes, refl)
kind d (StartLine n) = inr (record { adds = λ o. refl; leaves = λ o. refl; joins = λ ls. refl; front = λ known ls. refl })
kind d (FinishLine n) = inr (record { adds = λ o. refl; leaves = λ o. refl; joins = λ ls. refl; front = λ known ls. refl })
kind d (DataRefLine n) = inr (record { adds = λ o. refl; leaves = λ o. refl; joins = λ ls. refl; front = λ known ls. refl })
kind d (PiLine t) = inr (record { adds = λ o. refl; leaves = λ o. refl; joins = λ ls. refl; front = λ known ls. refl })
kind d (ImpliedLine a) = inr (record { adds = λ o. refl; leaves = λ o. refl; joins = λ ls. refl; front = λ known ls. refl })
kind d (CdataLine a s) = inr (record { adds = λ o. refl; leaves = λ o. refl; joins = λ ls. refl; front = λ known ls. refl })
kind d (NotationLine a n) = inr (record { adds = λ o. refl; leaves = λ o. refl; joins = λ ls. refl; front = λ known ls. refl })
kind d (EntityLine a es) = inr (record { adds = λ o. refl; leaves = λ o. refl; joins = λ ls. refl; front = λ known ls. refl })
kind d (TokenLine a ts) = inr (record { adds = λ o. refl; leaves = λ o. refl; joins = λ ls. refl; front = λ known ls. refl })
kind d (DefineNotation n) = inr (record { adds = λ o. refl; leaves = λ o. refl; joins = λ ls. refl; front = λ known ls. refl })
kind d (DefineExternal x k n) = inr (record { adds = λ o. refl; leaves = λ o. refl; joins = λ ls. refl; front = λ known ls. refl })
kind d (DefineInternal x k t) = inr (record { adds = λ o. refl; leaves = λ o. refl; joins = λ ls. refl; front = λ known ls. refl })
kind d (PublicLine t) = inr (record { adds = λ o. refl; leaves = λ o. refl; joins = λ ls. refl; front = λ known ls. refl })
kind d (SystemLine t) = inr (record { adds = λ o. refl; leaves = λ o. refl; joins = λ ls. refl; front = λ known ls. refl })
kind d (AppInfoLine t) = inr (record { adds = λ o. refl; leaves = λ o. refl; joins = λ ls. refl; front = λ known ls. refl })
kind d ConformingLine = inr (record { adds = λ o. refl; leaves = λ o. refl; joins = λ ls. refl; front = λ known ls. refl })

-- what is to hold
abbrev AreJoined : Doctype → List Line → Known → Bool → Type 0
AreJoined d ls known within = all_added d (open_at known within) ls ++ closing (opened d (open_at known within) ls).within ≡ bytes_at d known within (joined ls)

more_data : (d : Doctype) (known : Known) (us : List Shape) (js : List Line) → data_bytes d known (us ++ data_front js) (behind_front js) ≡ spell_escaped (data_units us) ++ bytes_at d known true js
more_data d known us js =
    let rest = 10 ∷ spelled (with_definitions d known (behind_front js)) in
    ap (λ v. v ++ rest) (data_append us (data_front js)) ∙ append_assoc (spell_escaped (data_units us)) (spell_escaped (data_units (data_front js))) rest

data_joined : (d : Doctype) (us : List Shape) (ls : List Line) (known : Known) (within : Bool) → AreJoined d ls known true → AreJoined d (CharsLine us ∷ ls) known within
data_joined d us ls known true again =
    append_assoc (spell_escaped (data_units us)) (all_added d (open_at known true) ls) _
    ∙ ap (λ v. spell_escaped (data_units us) ++ v) again
    ∙ sym (more_data d known us (joined ls))
    ∙ ap (bytes_at d known true) (sym (joined_front us (joined ls)))
data_joined d us ls known false again =
    ap (λ v. 45 ∷ v) (append_assoc (spell_escaped (data_units us)) (all_added d (open_at known true) ls) _
    ∙ ap (λ v. spell_escaped (data_units us) ++ v) again
    ∙ sym (more_data d known us (joined ls))
    ∙ sym (append_assoc (spell_escaped (data_units (us ++ data_front (joined ls)))) (10 ∷ []) (spelled (with_definitions d known (behind_front (joined ls))))))
    ∙ ap (bytes_at d known false) (sym (joined_front us (joined ls)))

line_spelled : (d : Doctype) (known : Known) (l : Line) (js : List Line) → spelled (with_definitions d known (l ∷ js)) ≡ spelled (placed_line d l known).lines ++ spelled (with_definitions d (placed_line d l known).known js)
line_spelled d known l js =
    ap spelled (sym (append_assoc (defined_for d known l).lines (l ∷ []) (with_definitions d (defined_for d known l).known js)))
    ∙ spelled_append (placed_line d l known).lines (with_definitions d (defined_for d known l).known js)

other_bytes : (d : Doctype) (l : Line) (js : List Line) (known : Known) (within : Bool) → Other d l → closing within ++ (spelled (placed_line d l known).lines ++ bytes_at d (placed_line d l known).known false js) ≡ bytes_at d known within (l ∷ js)
other_bytes d l js known true o = ap (λ v. 10 ∷ v) (sym (line_spelled d known l js)) ∙ sym (o.front known js)
other_bytes d l js known false o = sym (line_spelled d known l js)

other_joined : (d : Doctype) (l : Line) (ls : List Line) (known : Known) (within : Bool) → Other d l → AreJoined d ls (placed_line d l known).known false → AreJoined d (l ∷ ls) known within
other_joined d l ls known within o again =
    let now = open_at known within in
    let rest : all_added d (opened_by d now l) ls ++ closing (opened d (opened_by d now l) ls).within ≡ bytes_at d (placed_line d l known).known false (joined ls) =
    ap (λ (v : Open). all_added d v ls ++ closing (opened d v ls).within) (o.leaves now) ∙ again in
    append_assoc (added d now l) (all_added d (opened_by d now l) ls) (closing (opened d (opened_by d now l) ls).within)
    ∙ ap (λ v. added d now l ++ v) rest
    ∙ ap (λ v. v ++ bytes_at d (placed_line d l known).known false (joined ls)) (o.adds now)
    ∙ append_assoc (closing within) (spelled (placed_line d l known).lines) (bytes_at d (placed_line d l known).known false (joined ls))
    ∙ other_bytes d l (joined ls) known within o
    ∙ ap (bytes_at d known within) (sym (o.joins (joined ls)))

one_joined : (d : Doctype) (l : Line) (ls : List Line) (known : Known) (within : Bool) → ((shapes : List Shape) × (l ≡ CharsLine shapes)) ⊎ Other d l → ((k : Known) (w : Bool) → AreJoined d ls k w) → AreJoined d (l ∷ ls) known within
one_joined d l ls known within (inl is) again = rw is.1 (data_joined d is.0 ls known within (again known true))
one_joined d l ls known within (inr o) again = other_joined d l ls known within o (again (placed_line d l known).known false)

pub are_joined : (d : Doctype) (ls : List Line) (known : Known) (within : Bool) → AreJoined d ls known within
are_joined d [] known true = refl
are_joined d [] known false = refl
are_joined d (l ∷ ls) known within = one_joined d l ls known within (kind d l) (λ k w. are_joined d ls k w)

-- LINES THAT AREN'T DATA
abbrev pub AreOther : Doctype → List Line → Type 0
AreOther d [] = Unit {0}
AreOther d (l ∷ ls) = Other d l × AreOther d ls

pub record Adds (d : Doctype) (known : Known) (within : Bool) (ls : List Line) : Type 0 where
  pub bytes : all_added d (open_at known within) ls ≡ closing within ++ spelled (placed d ls known).lines
  pub leaves : opened d (open_at known within) ls ≡ open_at (placed d ls known).known false

adds_one : (d : Doctype) (known : Known) (within : Bool) (l : Line) (ls : List Line) → Other d l → Adds d (placed_line d l known).known false ls → Adds d known within (l ∷ ls)
adds_one d known within l ls o again =
    let now = open_at known within in
    record {
      bytes =
          ap (λ (v : Open). added d now l ++ all_added d v ls) (o.leaves now)
          ∙ ap (λ v. added d now l ++ v) again.bytes
          ∙ ap (λ v. v ++ spelled (placed d ls (placed_line d l known).known).lines) (o.adds now)
          ∙ append_assoc (closing within) (spelled (placed_line d l known).lines) (spelled (placed d ls (placed_line d l known).known).lines)
          ∙ ap (λ v. closing within ++ v) (sym (spelled_append (placed_line d l known).lines (placed d ls (placed_line d l known).known).lines));
      leaves = ap (λ (v : Open). opened d v ls) (o.leaves now) ∙ again.leaves;
    }

others_add : (d : Doctype) (known : Known) (ls : List Line) → AreOther d ls → Adds d known false ls
others_add d known [] are = record { bytes = refl; leaves = refl }
others_add d known (l ∷ ls) are = adds_one d known false l ls are.0 (others_add d (placed_line d l known).known ls are.1)

pub other_lines_add : (d : Doctype) (known : Known) (within : Bool) (l : Line) (ls : List Line) → AreOther d (l ∷ ls) → Adds d known within (l ∷ ls)
other_lines_add d known within l ls are = adds_one d known within l ls are.0 (others_add d (placed_line d l known).known ls are.1)

-- LINES OF DATA
abbrev pub data_lines : List Shape → List Line
data_lines [] = []
data_lines (s ∷ ss) = CharsLine (s ∷ []) ∷ data_lines ss

pub record AddsData (d : Doctype) (known : Known) (within : Bool) (shapes : List Shape) : Type 0 where
  pub bytes : all_added d (open_at known within) (data_lines shapes) ≡ beginning within ++ spell_escaped (data_units shapes)
  pub leaves : opened d (open_at known within) (data_lines shapes) ≡ open_at known true

adds_shape : (d : Doctype) (known : Known) (within : Bool) (s : Shape) (ss : List Shape) → AddsData d known true ss → AddsData d known within (s ∷ ss)
adds_shape d known within s ss again = record {
  bytes =
      ap (λ v. (beginning within ++ spell_escaped (data_units (s ∷ []))) ++ v) again.bytes
      ∙ append_assoc (beginning within) (spell_escaped (data_units (s ∷ []))) (spell_escaped (data_units ss))
      ∙ ap (λ v. beginning within ++ v) (sym (data_append (s ∷ []) ss));
  leaves = again.leaves;
}

more_adds : (d : Doctype) (known : Known) (ss : List Shape) → AddsData d known true ss
more_adds d known [] = record { bytes = refl; leaves = refl }
more_adds d known (s ∷ ss) = adds_shape d known true s ss (more_adds d known ss)

pub data_adds : (d : Doctype) (known : Known) (within : Bool) (s : Shape) (ss : List Shape) → AddsData d known within (s ∷ ss)
data_adds d known within s ss = adds_shape d known within s ss (more_adds d known ss)
