-- What a reader of records makes.
use Rattle.std.proofs.Common.{◌≡◌, ◌≢◌, ℕ, ◌+◌, suc, List, [], ◌∷◌, ◌++◌, length, take, drop, refl, sym, ap, ◌∙◌, arith, append_assoc, append-nil, length-take, take-append-drop, cond, Bool, true, false, not, ◌==◌, ◌&&◌}
use Rattle.std.specs.List.{prefix_len}
use lib.Seq.{take-length, drop-length, drop-drop, drop-cons, take-take}
use Rattle.std.specs.Prelude.{slice_index, ◌-◌, ◌≤◌, ◌<◌}
use Rattle.sgml_io.specs.Records.{records, records_from, begun, is_plain}
use Rattle.sgml_io.specs.Pieces.{remaining, HasMade, Makes, Ends}
use Rattle.sgml_io.specs.declared.records.RecordReader.{RecordReader}

cancel : (xs ys zs : List ℕ) → xs ++ ys ≡ xs ++ zs → ys ≡ zs
cancel [] ys zs h = h
cancel (x ∷ xs) ys zs h = cancel xs ys zs (cc)

-- a byte that ends no record, within a record
pub plain_step : (start cr : Bool) (b : ℕ) (bs : List ℕ) → is_plain b ≡ true → records_from start cr (b ∷ bs) ≡ begun start (b ∷ records_from false false bs)
plain_step start cr b bs h =
    elim (b == 13) as (λ t. (not t && not (b == 10)) ≡ true → cond t (begun start (13 ∷ records_from true true bs)) (cond (b == 10) (cond cr (records_from true false bs) (begun start (13 ∷ records_from true false bs))) (begun start (b ∷ records_from false false bs))) ≡ begun start (b ∷ records_from false false bs)) [
      | true ↦ λ k. absurd (cc)
      | false ↦ elim (b == 10) as (λ t. not t ≡ true → cond t (cond cr (records_from true false bs) (begun start (13 ∷ records_from true false bs))) (begun start (b ∷ records_from false false bs)) ≡ begun start (b ∷ records_from false false bs)) [
        | true ↦ λ k. absurd (cc)
        | false ↦ λ k. refl
      ]
    ] h

take_one : (n b : ℕ) (bs : List ℕ) → take (1 + n) (b ∷ bs) ≡ b ∷ take n bs
take_one n b bs = let e : 1 + n ≡ suc n = omega arith in rw e refl

drop_one : (n b : ℕ) (bs : List ℕ) → drop (1 + n) (b ∷ bs) ≡ drop n bs
drop_one n b bs = let e : 1 + n ≡ suc n = omega arith in rw e refl

-- a stretch of such bytes stays as it is
run : (bs rest : List ℕ) → records_from false false (bs ++ rest) ≡ take (prefix_len is_plain bs) bs ++ records_from false false (drop (prefix_len is_plain bs) bs ++ rest)
run [] rest = refl
run (b ∷ bs) rest =
    let P : Bool → Type 0 = λ t. is_plain b ≡ t → records_from false false (b ∷ bs ++ rest) ≡ take (cond t (1 + prefix_len is_plain bs) 0) (b ∷ bs) ++ records_from false false (drop (cond t (1 + prefix_len is_plain bs) 0) (b ∷ bs) ++ rest) in
    let yes : P true = λ h. plain_step false false b (bs ++ rest) h ∙ ap (λ v. b ∷ v) (run bs rest) ∙ sym (ap (λ v. v ++ records_from false false (drop (1 + prefix_len is_plain bs) (b ∷ bs) ++ rest)) (take_one (prefix_len is_plain bs) b bs) ∙ ap (λ v. b ∷ take (prefix_len is_plain bs) bs ++ records_from false false (v ++ rest)) (drop_one (prefix_len is_plain bs) b bs)) in
    let no : P false = λ h. refl in
    elim (is_plain b) as P [ true ↦ yes | false ↦ no ] refl

-- a record that begins with such a byte
stretch : (start cr : Bool) (bs rest : List ℕ) → prefix_len is_plain bs ≢ 0 → records_from start cr (bs ++ rest) ≡ begun start (take (prefix_len is_plain bs) bs ++ records_from false false (drop (prefix_len is_plain bs) bs ++ rest))
stretch start cr [] rest h = absurd (h refl)
stretch start cr (b ∷ bs) rest h =
    let P : Bool → Type 0 = λ t. is_plain b ≡ t → cond t (1 + prefix_len is_plain bs) 0 ≢ 0 → records_from start cr (b ∷ bs ++ rest) ≡ begun start (records_from false false (b ∷ bs ++ rest)) in
    let yes : P true = λ k ne. plain_step start cr b (bs ++ rest) k ∙ sym (ap (begun start) (plain_step false false b (bs ++ rest) k)) in
    let no : P false = λ k ne. absurd (ne refl) in
    elim (is_plain b) as P [ true ↦ yes | false ↦ no ] refl h ∙ ap (begun start) (run (b ∷ bs) rest)

-- a whole stretch of such bytes
pub whole_stretch : (start cr : Bool) (bs rest : List ℕ) → prefix_len is_plain bs ≡ length bs → length bs ≢ 0 → records_from start cr (bs ++ rest) ≡ begun start (bs ++ records_from false false rest)
whole_stretch start cr bs rest h some =
    stretch start cr bs rest (λ e. some (sym h ∙ e))
    ∙ ap (λ n. begun start (take n bs ++ records_from false false (drop n bs ++ rest))) h
    ∙ ap (λ v. begun start (v ++ records_from false false (drop (length bs) bs ++ rest))) (take-length bs)
    ∙ ap (λ v. begun start (bs ++ records_from false false (v ++ rest))) (drop-length bs)

-- what begins with a text that begins with another begins with that one
pub begins : (front more all : List ℕ) → take (length front) more ≡ front → take (length more) all ≡ more → take (length front) all ≡ front
begins front more all h k =
    let few : length front ≤ length more = omega (arith, sym (ap length h), length-take (length front) more) in
    sym (take-take (length front) (length more) all few) ∙ ap (take (length front)) k ∙ h

-- the bytes from one place on, up to another and from behind it
pub parts : (bytes : List ℕ) (i j : ℕ) → i ≤ j → j < length bytes → drop i bytes ≡ take (j - i) (drop i bytes) ++ slice_index bytes j ∷ drop (j + 1) bytes
parts bytes i j l h =
    let count : i + (j - i) ≡ j = omega (arith, l) in
    let next : suc j ≡ j + 1 = omega arith in
    sym (take-append-drop (j - i) (drop i bytes))
    ∙ ap (λ v. take (j - i) (drop i bytes) ++ v) (drop-drop (j - i) i bytes ∙ ap (λ k. drop k bytes) count ∙ drop-cons bytes j 0 h ∙ ap (λ k. slice_index bytes j ∷ drop k bytes) next)

-- a stretch and one byte behind it were read of them
pub read_part : (text more old : List ℕ) (start cr starts ends first after_cr : Bool) (bytes : List ℕ) (i j : ℕ) → i ≤ j → j < length bytes
    → ((rest : List ℕ) → more ++ records_from starts ends rest ≡ text ++ records_from start cr ((take (j - i) (drop i bytes) ++ slice_index bytes j ∷ []) ++ rest))
    → ((rest : List ℕ) → text ++ records_from start cr (drop i bytes ++ rest) ≡ old ++ records_from first after_cr (bytes ++ rest))
    → (rest : List ℕ) → more ++ records_from starts ends (drop (j + 1) bytes ++ rest) ≡ old ++ records_from first after_cr (bytes ++ rest)
read_part text more old start cr starts ends first after_cr bytes i j l h read made rest =
    let stretch : List ℕ = take (j - i) (drop i bytes) in
    let b : ℕ = slice_index bytes j in
    let behind : List ℕ = drop (j + 1) bytes in
    let whole : (stretch ++ b ∷ []) ++ (behind ++ rest) ≡ drop i bytes ++ rest =
    append_assoc stretch (b ∷ []) (behind ++ rest) ∙ sym (append_assoc stretch (b ∷ behind) rest) ∙ ap (λ v. v ++ rest) (sym (parts bytes i j l h)) in
    read (behind ++ rest) ∙ ap (λ v. text ++ records_from start cr v) whole ∙ made rest

pub pushed : (old new : RecordReader) (bytes before now : List ℕ) → take (length before) now ≡ before → ((rest : List ℕ) → now ++ remaining new rest ≡ before ++ remaining old (bytes ++ rest)) → Makes old new bytes before now
pushed old new bytes before now kept made =
    let more : List ℕ = drop (length before) now in
    let whole : now ≡ before ++ more = sym (take-append-drop (length before) now) ∙ ap (λ v. v ++ more) kept in (
      more,
      whole,
      λ earlier text h rest.
          let here : more ++ remaining new rest ≡ remaining old (bytes ++ rest) = cancel before _ _ (sym (append_assoc before more (remaining new rest)) ∙ ap (λ v. v ++ remaining new rest) (sym whole) ∙ made rest) in
          append_assoc text more (remaining new rest) ∙ ap (λ v. text ++ v) here ∙ h (bytes ++ rest) ∙ ap records (sym (append_assoc earlier bytes rest)),
    )

pub ended : (old : RecordReader) (text : List ℕ) → Ends old text text
ended old text = ([], sym (append-nil text), λ bytes made h. h [] ∙ ap records (append-nil bytes))

pub whole : (first last : RecordReader) (bytes before mid now : List ℕ) → HasMade first [] [] → before ≡ [] → Makes first last bytes before mid → Ends last mid now → now ≡ records bytes
whole first last bytes before mid now new none p e =
    let h : HasMade last ([] ++ bytes) ([] ++ p.0) = p.2 [] [] new in
    e.1 ∙ ap (λ v. v ++ e.0) (p.1 ∙ ap (λ v. v ++ p.0) none) ∙ e.2 ([] ++ bytes) ([] ++ p.0) h
