-- The text of stored records is their text, and all bytes are stored records.
use Rattle.std.proofs.Common.{◌≡◌, ℕ, List, [], ◌∷◌, ◌++◌, refl, sym, ap, ◌∙◌, arith, append_assoc, Bool, true, false, ◌==◌, ◌&&◌, not}
use Rattle.std.proofs.lemmas.Bool.{eqb-true}
use Rattle.std.specs.List.{list_all}
use Rattle.sgml_io.specs.Records.{records_from, is_plain}
use Rattle.sgml_io.specs.Storage.{Ending, lf, cr_lf, cr, unended, StorageRecord, ending_bytes, stored, ending_text, text_of, begins_with_lf, EndsWell, AreRecords, RecordsLaw}
use Rattle.sgml_io.proofs.Made.{plain_step}

both : (a b : Bool) → (a && b) ≡ true → (a ≡ true) × (b ≡ true)
both true true h = (refl, refl)
both true false h = absurd (cc)
both false true h = absurd (cc)
both false false h = absurd (cc)

-- characters within a record stay
kept : (cs rest : List ℕ) → list_all is_plain cs ≡ true → records_from false false (cs ++ rest) ≡ cs ++ records_from false false rest
kept [] rest h = refl
kept (c ∷ cs) rest h =
    let p = both (is_plain c) (list_all is_plain cs) h in
    plain_step false false c (cs ++ rest) p.0 ∙ ap (λ v. c ∷ v) (kept cs rest p.1)

-- the bytes after a record's end
abbrev after_cr : Ending → Bool
after_cr lf = false
after_cr cr_lf = false
after_cr cr = true
after_cr unended = false

-- an end within a record
ended_in : (e : Ending) (rest : List ℕ) → (e ≡ unended → ⊥) → records_from false false (ending_bytes e ++ rest) ≡ ending_text e ++ records_from true (after_cr e) rest
ended_in lf rest h = refl
ended_in cr_lf rest h = refl
ended_in cr rest h = refl
ended_in unended rest h = absurd (h refl)

-- what follows the characters of a record, given what follows the record
tail_text : (c : ℕ) (cs : List ℕ) (e : Ending) (rs : List StorageRecord) → EndsWell (c ∷ cs, e) rs
    → ((after : Bool) → (after ≡ true → begins_with_lf (stored rs) ≡ false) → records_from true after (stored rs) ≡ text_of rs)
    → records_from false false (ending_bytes e ++ stored rs) ≡ ending_text e ++ text_of rs
tail_text c cs lf rs well ih = ap (λ v. 13 ∷ v) (ih false (λ h. absurd (cc)))
tail_text c cs cr_lf rs well ih = ap (λ v. 13 ∷ v) (ih false (λ h. absurd (cc)))
tail_text c cs cr rs well ih = ap (λ v. 13 ∷ v) (ih true (λ h. well))
tail_text c cs unended rs well ih = rw (well.1) refl

text_from : (after : Bool) (rs : List StorageRecord) → AreRecords rs → (after ≡ true → begins_with_lf (stored rs) ≡ false) → records_from true after (stored rs) ≡ text_of rs
text_from after [] ok h = refl
text_from false (([], lf) ∷ rs) ok h = ap (λ v. 10 ∷ 13 ∷ v) (text_from false rs ok.2 (λ k. absurd (cc)))
text_from true (([], lf) ∷ rs) ok h = absurd (let k : true ≡ false = h refl in cc)
text_from after (([], cr_lf) ∷ rs) ok h = ap (λ v. 10 ∷ 13 ∷ v) (text_from false rs ok.2 (λ k. absurd (cc)))
text_from after (([], cr) ∷ rs) ok h = ap (λ v. 10 ∷ 13 ∷ v) (text_from true rs ok.2 (λ k. ok.1))
text_from after (([], unended) ∷ rs) ok h = absurd (omega (arith, ok.1.0))
text_from after ((c ∷ cs, e) ∷ rs) ok h =
    let p = both (is_plain c) (list_all is_plain cs) ok.0 in
    plain_step true after c ((cs ++ ending_bytes e) ++ stored rs) p.0
    ∙ ap (λ v. 10 ∷ c ∷ v) (ap (records_from false false) (append_assoc cs (ending_bytes e) (stored rs)) ∙ kept cs (ending_bytes e ++ stored rs) p.1 ∙ ap (λ v. cs ++ v) (tail_text c cs e rs ok.1 (λ d k. text_from d rs ok.2 k)) ∙ sym (append_assoc cs (ending_text e) (text_of rs)))

-- records that bytes are
abbrev Stored : List ℕ → Type 0
Stored bytes = (rs : List StorageRecord) × AreRecords rs × (stored rs ≡ bytes)

-- one more byte that ends no record
add_plain : (b : ℕ) (bs : List ℕ) → is_plain b ≡ true → Stored bs → Stored (b ∷ bs)
add_plain b bs h ([], ok, is) = ((b ∷ [], unended) ∷ [], (ap (λ t. t && true) h, (omega arith, refl), tt), ap (λ v. b ∷ v) is)
add_plain b bs h ((cs, lf) ∷ rs, ok, is) = ((b ∷ cs, lf) ∷ rs, (ap (λ t. t && list_all is_plain cs) h ∙ ok.0, ok.1, ok.2), ap (λ v. b ∷ v) is)
add_plain b bs h ((cs, cr_lf) ∷ rs, ok, is) = ((b ∷ cs, cr_lf) ∷ rs, (ap (λ t. t && list_all is_plain cs) h ∙ ok.0, ok.1, ok.2), ap (λ v. b ∷ v) is)
add_plain b bs h ((cs, cr) ∷ rs, ok, is) = ((b ∷ cs, cr) ∷ rs, (ap (λ t. t && list_all is_plain cs) h ∙ ok.0, ok.1, ok.2), ap (λ v. b ∷ v) is)
add_plain b bs h ((cs, unended) ∷ rs, ok, is) = ((b ∷ cs, unended) ∷ rs, (ap (λ t. t && list_all is_plain cs) h ∙ ok.0, (omega arith, ok.1.1), ok.2), ap (λ v. b ∷ v) is)

add_lf : (bs : List ℕ) → Stored bs → Stored (10 ∷ bs)
add_lf bs s = (([], lf) ∷ s.0, (refl, tt, s.1), ap (λ v. 10 ∷ v) s.2)

add_cr_lf : (bs : List ℕ) → Stored bs → Stored (13 ∷ 10 ∷ bs)
add_cr_lf bs s = (([], cr_lf) ∷ s.0, (refl, tt, s.1), ap (λ v. 13 ∷ 10 ∷ v) s.2)

add_cr : (bs : List ℕ) → begins_with_lf bs ≡ false → Stored bs → Stored (13 ∷ bs)
add_cr bs h s = (([], cr) ∷ s.0, (refl, ap begins_with_lf s.2 ∙ h, s.1), ap (λ v. 13 ∷ v) s.2)

-- one more byte that is no CR
add_byte : (b : ℕ) (bs : List ℕ) → (b == 13) ≡ false → Stored bs → Stored (b ∷ bs)
add_byte b bs isnt s =
    let P : Bool → Type 0 = λ t. (b == 10) ≡ t → Stored (b ∷ bs) in
    let yes : P true = λ h. let e : b ≡ 10 = eqb-true b 10 h in rw e (add_lf bs s) in
    let plain : P false = λ h. add_plain b bs (ap (λ t. not t && not (b == 10)) isnt ∙ ap not h) s in
    elim (b == 10) as P [ true ↦ yes | false ↦ plain ] refl

-- a CR before a byte, and what is before and after that byte
add_return : (b : ℕ) (bs : List ℕ) → Stored bs → Stored (b ∷ bs) → Stored (13 ∷ b ∷ bs)
add_return b bs after whole =
    let P : Bool → Type 0 = λ t. (b == 10) ≡ t → Stored (13 ∷ b ∷ bs) in
    let yes : P true = λ h. let e : b ≡ 10 = eqb-true b 10 h in rw e (add_cr_lf bs after) in
    let no : P false = λ h. add_cr (b ∷ bs) h whole in
    elim (b == 10) as P [ true ↦ yes | false ↦ no ] refl

all_stored : (bytes : List ℕ) → Stored bytes
all_stored [] = ([], tt, refl)
all_stored (b ∷ []) =
    let P : Bool → Type 0 = λ t. (b == 13) ≡ t → Stored (b ∷ []) in
    let yes : P true = λ h. let e : b ≡ 13 = eqb-true b 13 h in rw e (add_cr [] refl ([], tt, refl)) in
    let no : P false = λ h. add_byte b [] h ([], tt, refl) in
    elim (b == 13) as P [ true ↦ yes | false ↦ no ] refl
all_stored (b ∷ c ∷ bs) =
    let whole : Stored (c ∷ bs) = all_stored (c ∷ bs) in
    let after : Stored bs = all_stored bs in
    let P : Bool → Type 0 = λ t. (b == 13) ≡ t → Stored (b ∷ c ∷ bs) in
    let yes : P true = λ h. let e : b ≡ 13 = eqb-true b 13 h in rw e (add_return c bs after whole) in
    let no : P false = λ h. add_byte b (c ∷ bs) h whole in
    elim (b == 13) as P [ true ↦ yes | false ↦ no ] refl

pub records_law : RecordsLaw
records_law = record { text = λ rs ok. text_from false rs ok (λ k. absurd (cc)); all = all_stored }
