-- Separators, characters of an ignored section, comments, instructions, and what has no place.
use Rattle.std.proofs.Common.{◌≡◌, ℕ, zero, suc, ◌+◌, ◌-◌, ◌<◌, ◌≤◌, Bool, true, false, not, List, [], ◌∷◌, Option, None, Some, Result, Ok, length, drop, take, refl, sym, ◌∙◌, ap, subst, arith, if◌then◌else◌}
use Rattle.sgml_text.specs.declared.reason.Reason.{Reason}
use Rattle.sgml_delim.specs.declared.delim.Mode.{Mode}
use Rattle.sgml_delim.specs.declared.delim.Mode.TheVariants as mode
use Rattle.sgml_marked.specs.declared.status.Status.{Status}
use Rattle.sgml_marked.specs.declared.status.Status.TheVariants as status
use Rattle.sgml_markup.specs.declared.kinds.TokenKind.{TokenKind}
use Rattle.sgml_markup.specs.declared.kinds.TokenKind.TheVariants as kind
use Rattle.sgml_scan.specs.declared.state.Token.{Token}
use Rattle.sgml_declared.specs.theory_reading.Names.{Text}
use Rattle.sgml_declared.specs.theory_reading.Pieces.{Piece, Kind, Sep, Skipped, Pi, Comment}
use Rattle.sgml_declared.specs.theory_reading.Facets.{Stage, stage_after, stage_begun}
use Rattle.sgml_declared.specs.theory_reading.Unread.{Outside}
use Rattle.sgml_declared.specs.theory_reading.State.{State}
use Rattle.sgml_declared.specs.theory_spelling.Stacked.{Stacked}
use Rattle.sgml_declared.specs.theory_spelling.Sized.{sized}
use Rattle.sgml_declared.specs.theory_spelling.Content.{first_of, instruction}
use Rattle.sgml_declared.specs.theory_spelling.Decided.{is_before}
use Rattle.sgml_declared.specs.theory_spelling.Prolog.{piece_before, subset_piece, separator_piece}
use Rattle.sgml_declared.specs.theory_standing.Kept.{Kept}
use Rattle.sgml_declared.specs.theory_standing.Prologs.{state_in_prolog, is_over}
use Rattle.sgml_declared.specs.theory_standing.Next.{after, AreNext, IsNext}
use Rattle.sgml_declared.specs.Taking.{stacked_on}
use Rattle.sgml_prolog_steps.specs.Standing.{IsKept}
use Rattle.sgml_prolog_steps.specs.Telling.{mode_in}
use Rattle.sgml_prolog_steps.specs.Found.{rest_in, moved_on, mode_of, IsSpelled, is_each, IsPiece, IsTokenThere, innermost}
use Rattle.sgml_prolog_steps.proofs.Told.{mode-is}
use Rattle.sgml_prolog_steps.specs.declared.sort.Sort.{Sort}
use Rattle.sgml_prolog_steps.specs.declared.sort.Sort.TheVariants as sort
use Rattle.sgml_prolog_steps.specs.declared.stepping.Turn.TheVariants as turns
use Rattle.sgml_prolog_steps.specs.Sorts.{sort_before, sort_inside, sort_in, is_ignored}
use Rattle.sgml_prolog_steps.specs.Steps.{is_instruction, are_silent, AreSilentNext, Takes, IsStep, begun_on}
use Rattle.sgml_prolog_steps.proofs.Shared.{moved-zero, moved-on-twice, kept-moved, kept-begun, inside-begun, rest-moved-on, falls-moved, IsPlain, sep-plain, skipped-plain, comment-plain, pi-plain, next-plain, after-plain, silent-step, instruction-step}

-- WHAT A TOKEN IS by its sort

pub inside-sort : (k : Kept) (x : TokenKind) (b : Bool) → is_before k.stage ≡ b → sort_in k x ≡ (if b then sort_before x else sort_inside (is_ignored (innermost k.sections)) x)
inside-sort k x b e = ap (λ t. if t then sort_before x else sort_inside (is_ignored (innermost k.sections)) x) e

abbrev pub piece_by : Bool → Outside → State → Stacked → Mode → TokenKind → Text → Result Piece Reason
piece_by before outside s t m x own = if before then piece_before outside s t x own else subset_piece outside s t m x own

abbrev pub sort_by : Bool → Bool → TokenKind → Sort
sort_by before ignored x = if before then sort_before x else sort_inside ignored x

-- each byte is a piece
pub record IsEach (before : Bool) (x : TokenKind) (outside : Outside) (s : State) (t : Stacked) (m : Mode) (kind_of : ℕ → Kind) : Type 0 where
  pub each : is_each before x ≡ true
  pub piece : (own : Text) → piece_by before outside s t m x own ≡ Ok (sized (length own) (kind_of (first_of own)))

separators-inside : (outside : Outside) (s : State) (t : Stacked) (m : Mode) (own : Text) → subset_piece outside s t m kind.Separators own ≡ Ok (separator_piece own)
unfolding subset_piece
separators-inside outside s t mode.Ign own = refl
separators-inside outside s t _ own = refl

separators-are : (before ignored : Bool) (x : TokenKind) (outside : Outside) (s : State) (t : Stacked) (m : Mode) → sort_by before ignored x ≡ sort.Separators
    → IsEach before x outside s t m Sep
unfolding piece_before
separators-are true ignored kind.Separators outside s t m e = record { each = refl; piece = λ own. refl }
separators-are true ignored kind.Pi outside s t m e = absurd (cc)
separators-are true ignored kind.Comment outside s t m e = absurd (cc)
separators-are true ignored kind.Declaration outside s t m e = absurd (cc)
separators-are true ignored _ outside s t m e = absurd (cc)
separators-are false ignored kind.Separators outside s t m e = record { each = refl; piece = λ own. separators-inside outside s t m own }
separators-are false true kind.Chars outside s t m e = absurd (cc)
separators-are false false kind.Chars outside s t m e = absurd (cc)
separators-are false ignored _ outside s t m e = absurd (cc)

skipped-are : (before ignored : Bool) (x : TokenKind) (outside : Outside) (s : State) (t : Stacked) (m : Mode) → sort_by before ignored x ≡ sort.Skipped → (ignored ≡ true → m ≡ mode.Ign)
    → (before ≡ false) × IsEach before x outside s t m Skipped
unfolding subset_piece
skipped-are true ignored kind.Separators outside s t m e i = absurd (cc)
skipped-are true ignored kind.Pi outside s t m e i = absurd (cc)
skipped-are true ignored kind.Comment outside s t m e i = absurd (cc)
skipped-are true ignored kind.Declaration outside s t m e i = absurd (cc)
skipped-are true ignored _ outside s t m e i = absurd (cc)
skipped-are false true kind.Chars outside s t m e i =
    (refl, record { each = refl; piece = λ own. ap (λ n. subset_piece outside s t n kind.Chars own) (i refl) })
skipped-are false false kind.Chars outside s t m e i = absurd (cc)
skipped-are false ignored _ outside s t m e i = absurd (cc)

-- a token is one piece
pub record IsOnePiece (before : Bool) (x : TokenKind) (outside : Outside) (s : State) (t : Stacked) (m : Mode) (answer : Text → Result Piece Reason) : Type 0 where
  pub each : is_each before x ≡ false
  pub piece : (own : Text) → piece_by before outside s t m x own ≡ answer own

comment-inside : (outside : Outside) (s : State) (t : Stacked) (m : Mode) (own : Text) → subset_piece outside s t m kind.Comment own ≡ Ok (sized (length own) Comment)
unfolding subset_piece
comment-inside outside s t mode.Ign own = refl
comment-inside outside s t _ own = refl

comment-is : (before ignored : Bool) (x : TokenKind) (outside : Outside) (s : State) (t : Stacked) (m : Mode) → sort_by before ignored x ≡ sort.Comment
    → IsOnePiece before x outside s t m (λ own. Ok (sized (length own) Comment))
unfolding piece_before
comment-is true ignored kind.Separators outside s t m e = absurd (cc)
comment-is true ignored kind.Pi outside s t m e = absurd (cc)
comment-is true ignored kind.Comment outside s t m e = record { each = refl; piece = λ own. refl }
comment-is true ignored kind.Declaration outside s t m e = absurd (cc)
comment-is true ignored _ outside s t m e = absurd (cc)
comment-is false ignored kind.Comment outside s t m e = record { each = refl; piece = λ own. comment-inside outside s t m own }
comment-is false true kind.Chars outside s t m e = absurd (cc)
comment-is false false kind.Chars outside s t m e = absurd (cc)
comment-is false ignored _ outside s t m e = absurd (cc)

pi-inside : (outside : Outside) (s : State) (t : Stacked) (m : Mode) (own : Text) → subset_piece outside s t m kind.Pi own ≡ Ok (sized (length own) (Pi (instruction own) None))
unfolding subset_piece
pi-inside outside s t mode.Ign own = refl
pi-inside outside s t _ own = refl

pi-is : (before ignored : Bool) (x : TokenKind) (outside : Outside) (s : State) (t : Stacked) (m : Mode) → sort_by before ignored x ≡ sort.Instruction
    → IsOnePiece before x outside s t m (λ own. Ok (sized (length own) (Pi (instruction own) None)))
unfolding piece_before
pi-is true ignored kind.Separators outside s t m e = absurd (cc)
pi-is true ignored kind.Pi outside s t m e = record { each = refl; piece = λ own. refl }
pi-is true ignored kind.Comment outside s t m e = absurd (cc)
pi-is true ignored kind.Declaration outside s t m e = absurd (cc)
pi-is true ignored _ outside s t m e = absurd (cc)
pi-is false ignored kind.Pi outside s t m e = record { each = refl; piece = λ own. pi-inside outside s t m own }
pi-is false true kind.Chars outside s t m e = absurd (cc)
pi-is false false kind.Chars outside s t m e = absurd (cc)
pi-is false ignored _ outside s t m e = absurd (cc)

-- of the mode that the innermost section tells
ignored-mode : (o : Option Status) → is_ignored o ≡ true → mode_in o ≡ mode.Ign
ignored-mode (Some status.Ignore) e = refl
ignored-mode (Some status.Cdata) e = absurd (cc)
ignored-mode (Some status.Rcdata) e = absurd (cc)
ignored-mode (Some status.Include) e = absurd (cc)
ignored-mode None e = absurd (cc)

pub other-mode : (o : Option Status) → is_ignored o ≡ false → mode_in o ≡ mode.Ign → ⊥
other-mode (Some status.Ignore) e f = cc
other-mode (Some status.Cdata) e f = cc
other-mode (Some status.Rcdata) e f = cc
other-mode (Some status.Include) e f = cc
other-mode None e f = cc

-- A STRETCH of such bytes

one-of : (bytes : Text) (i : ℕ) → i < length bytes → length (take 1 (drop i bytes)) ≡ 1
one-of [] i l = absurd (omega (arith, l))
one-of (b ∷ bytes) zero l = refl
one-of (b ∷ bytes) (suc i) l = one-of bytes i (omega (arith, l))

-- one piece of one byte, that leaves the stage
record IsByte (g : Stage) (p : Piece) : Type 0 where
  plain : IsPlain p.kind
  one : p.size ≡ 1
  none : p.spent ≡ 0
  silent : is_instruction p.kind ≡ false
  stays : stage_after p.kind g ≡ g

silent-more : (p : Piece) (ps : List Piece) → is_instruction p.kind ≡ false → are_silent ps ≡ true → are_silent (p ∷ ps) ≡ true
silent-more p ps e f = ap (λ t. Rattle.std.proofs.Common.◌&&◌ (not t) (are_silent ps)) e ∙ f

stretch : (outside : Outside) (texts : List (ℕ × Text)) (ended : Bool) (n : ℕ) (k : Kept) (piece : ℕ → Piece) → IsKept k → is_over k ≡ false → n ≤ length (rest_in k texts)
    → ((i : ℕ) → i < n → IsSpelled outside (moved_on i k) texts ended (Ok (piece i))) → ((i : ℕ) → i < n → IsByte k.stage (piece i))
    → AreSilentNext outside texts ended k (moved_on n k)
stretch outside texts ended zero k piece h g l spelled bytes = ([], moved-zero k, refl)
stretch outside texts ended (suc n) k piece h g l spelled bytes =
    let b = bytes 0 (omega arith) in
    let rest = rest-moved-on 1 k texts h (omega (arith, l)) in
    let next : Kept = moved_on 1 k in
    let later = stretch outside texts ended n next (λ i. piece (suc i)) (kept-moved 1 k h) (over-moved k g)
    (omega (arith, l, rest))
    (λ i m. subst (λ (z : Kept). IsSpelled outside z texts ended (Ok (piece (suc i)))) (sym (moved-on-twice 1 i k ∙ ap (λ j. moved_on j k) (one-more i))) (spelled (suc i) (omega (arith, m))))
    (λ i m. bytes (suc i) (omega (arith, m))) in
    let first : IsNext outside k texts ended (piece 0) =
    next-plain outside k texts ended (piece 0) h g b.plain (omega (arith, l, b.one)) (subst (λ (z : Kept). IsSpelled outside z texts ended (Ok (piece 0))) (moved-zero k) (spelled 0 (omega arith))) in
    let taken : after outside (piece 0) k ≡ next = after-plain outside k (piece 0) 1 k.stage h b.plain b.none b.one b.stays in
    let last : moved_on n next ≡ moved_on (suc n) k = moved-on-twice 1 n k ∙ ap (λ j. moved_on j k) (one-more n) in (
      piece 0 ∷ later.0,
      (first, subst (λ (z : Kept). AreNext outside z texts ended later.0 (moved_on (suc n) k)) (sym taken) (subst (λ (z : Kept). AreNext outside next texts ended later.0 z) last later.1)),
      silent-more (piece 0) later.0 b.silent later.2,
    )
  where
    one-more : (i : ℕ) → 1 + i ≡ suc i
    one-more i = omega arith

    over-moved : (k : Kept) → is_over k ≡ false → is_over (moved_on 1 k) ≡ false
    over-moved k g = ap (λ n. Rattle.std.proofs.Common.◌&&◌ (Rattle.sgml_declared.specs.theory_reading.Reads.is_after_subset k.stage) (Rattle.std.proofs.Common.◌==◌ n 1)) (Rattle.sgml_prolog_steps.proofs.Shared.length-moved 1 k.stack.places) ∙ g

-- THE STEPS

pub mode-of : (k : Kept) → IsKept k → is_over k ≡ false → is_ignored (innermost k.sections) ≡ true → mode_of k ≡ mode.Ign
mode-of k h g e = mode-is k h g ∙ ignored-mode (innermost k.sections) e

pieces-of : (k : Kept) (texts : List (ℕ × Text)) (ended : Bool) (x : Token) (kind_of : ℕ → Kind) (outside : Outside)
    → IsEach (is_before k.stage) x.kind outside (state_in_prolog k) (stacked_on k.stack) (mode_of k) kind_of → IsTokenThere k texts ended x
    → (i : ℕ) → i < x.length → IsSpelled outside (moved_on i k) texts ended (Ok (sized 1 (kind_of (first_of (take 1 (drop i (rest_in k texts)))))))
pieces-of k texts ended x kind_of outside are there i l =
    let own = take 1 (drop i (rest_in k texts)) in
    let each : IsPiece outside k texts ended x true = subst (λ b. IsPiece outside k texts ended x b) are.each (there.piece outside) in
    let one : length own ≡ 1 = one-of (rest_in k texts) i (omega (arith, l, there.within)) in
    subst (λ (a : Result Piece Reason). IsSpelled outside (moved_on i k) texts ended a) (are.piece own ∙ ap (λ n. Ok (sized n (kind_of (first_of own)))) one) (each i l)

pub separators-step : (texts : List (ℕ × Text)) (x : Token) (old new : Kept) → IsKept old → is_over old ≡ false → sort_in old x.kind ≡ sort.Separators
    → new ≡ moved_on x.length old → Takes texts x old new (Ok turns.Silent)
unfolding stage_after
separators-step texts x old new h g e n c ended asked there =
    subst (λ (z : Kept). IsStep c texts ended asked old z (Ok turns.Silent)) (sym n)
    (silent-step c texts ended asked old (moved_on x.length old)
    (λ outside o. stretch outside texts ended x.length old (λ i. sized 1 (Sep (first_of (take 1 (drop i (rest_in old texts)))))) h g there.within
    (pieces-of old texts ended x Sep outside (separators-are (is_before old.stage) (is_ignored (innermost old.sections)) x.kind outside (state_in_prolog old) (stacked_on old.stack) (mode_of old) e) there)
    (λ i l. record { plain = sep-plain _; one = refl; none = refl; silent = refl; stays = refl }))
    (falls-moved old texts x.length old.stage h there.some there.within)
    (kept-moved x.length old h) refl)

pub skipped-step : (texts : List (ℕ × Text)) (x : Token) (old new : Kept) → IsKept old → is_over old ≡ false → sort_in old x.kind ≡ sort.Skipped
    → new ≡ moved_on x.length old → Takes texts x old new (Ok turns.Silent)
unfolding stage_after
skipped-step texts x old new h g e n c ended asked there =
    subst (λ (z : Kept). IsStep c texts ended asked old z (Ok turns.Silent)) (sym n)
    (silent-step c texts ended asked old (moved_on x.length old)
    (λ outside o.
    let are = skipped-are (is_before old.stage) (is_ignored (innermost old.sections)) x.kind outside (state_in_prolog old) (stacked_on old.stack) (mode_of old) e (mode-of old h g) in
    stretch outside texts ended x.length old (λ i. sized 1 (Skipped (first_of (take 1 (drop i (rest_in old texts)))))) h g there.within
    (pieces-of old texts ended x Skipped outside are.1 there)
    (λ i l. record { plain = skipped-plain _; one = refl; none = refl; silent = refl; stays = inside-begun old.stage are.0 }))
    (falls-moved old texts x.length old.stage h there.some there.within)
    (kept-moved x.length old h) refl)

pub length-own : (n : ℕ) (bytes : Text) → n ≤ length bytes → length (take n bytes) ≡ n
length-own zero [] l = refl
length-own zero (b ∷ bytes) l = refl
length-own (suc n) [] l = absurd (omega (arith, l))
length-own (suc n) (b ∷ bytes) l = ap suc (length-own n bytes (omega (arith, l)))

pub piece-is : (k : Kept) (texts : List (ℕ × Text)) (ended : Bool) (x : Token) (answer : Text → Result Piece Reason) (outside : Outside)
    → IsOnePiece (is_before k.stage) x.kind outside (state_in_prolog k) (stacked_on k.stack) (mode_of k) answer → IsTokenThere k texts ended x
    → IsSpelled outside k texts ended (answer (take x.length (rest_in k texts)))
piece-is k texts ended x answer outside is there =
    subst (λ (a : Result Piece Reason). IsSpelled outside k texts ended a) (is.piece (take x.length (rest_in k texts)))
    (subst (λ b. IsPiece outside k texts ended x b) is.each (there.piece outside))

sized-is : (outside : Outside) (k : Kept) (texts : List (ℕ × Text)) (ended : Bool) (n : ℕ) (y : Kind) → n ≤ length (rest_in k texts)
    → IsSpelled outside k texts ended (Ok (sized (length (take n (rest_in k texts))) y)) → IsSpelled outside k texts ended (Ok (sized n y))
sized-is outside k texts ended n y l s = subst (λ m. IsSpelled outside k texts ended (Ok (sized m y))) (length-own n (rest_in k texts) l) s

pub comment-step : (texts : List (ℕ × Text)) (x : Token) (old new : Kept) → IsKept old → is_over old ≡ false → sort_in old x.kind ≡ sort.Comment
    → new ≡ begun_on x.length old → Takes texts x old new (Ok turns.Silent)
unfolding stage_after
comment-step texts x old new h g e n c ended asked there =
    subst (λ (z : Kept). IsStep c texts ended asked old z (Ok turns.Silent)) (sym n)
    (silent-step c texts ended asked old (begun_on x.length old)
    (λ outside o.
    let p : Piece = sized x.length Comment in
    let is = comment-is (is_before old.stage) (is_ignored (innermost old.sections)) x.kind outside (state_in_prolog old) (stacked_on old.stack) (mode_of old) e in
    let s = sized-is outside old texts ended x.length Comment there.within (piece-is old texts ended x (λ own. Ok (sized (length own) Comment)) outside is there) in (
      p ∷ [],
      (
        next-plain outside old texts ended p h g comment-plain there.within s,
        sym (after-plain outside old p x.length (stage_begun old.stage) h comment-plain refl refl refl),
      ),
      refl,
    ))
    (falls-moved old texts x.length (stage_begun old.stage) h there.some there.within)
    (kept-begun x.length old h) refl)

pub pi-step : (texts : List (ℕ × Text)) (x : Token) (old new : Kept) (text : Text) → IsKept old → is_over old ≡ false → sort_in old x.kind ≡ sort.Instruction
    → new ≡ begun_on x.length old → text ≡ instruction (take x.length (rest_in old texts)) → Takes texts x old new (Ok (turns.Instruction text None))
unfolding stage_after
pi-step texts x old new text h g e n w c ended asked there =
    subst (λ (t : Text). IsStep c texts ended asked old new (Ok (turns.Instruction t None))) (sym w)
    (subst (λ (z : Kept). IsStep c texts ended asked old z (Ok (turns.Instruction own None))) (sym n)
    (instruction-step c texts ended asked old (begun_on x.length old) own None
    (λ outside o.
    let p : Piece = sized x.length (Pi own None) in
    let is = pi-is (is_before old.stage) (is_ignored (innermost old.sections)) x.kind outside (state_in_prolog old) (stacked_on old.stack) (mode_of old) e in
    let s = sized-is outside old texts ended x.length (Pi own None) there.within (piece-is old texts ended x (λ b. Ok (sized (length b) (Pi (instruction b) None))) outside is there) in (
      p,
      next-plain outside old texts ended p h g (pi-plain own None) there.within s,
      refl,
      sym (after-plain outside old p x.length (stage_begun old.stage) h (pi-plain own None) refl refl refl),
    ))
    (kept-begun x.length old h) refl))
  where
    own : Text
    own = instruction (take x.length (rest_in old texts))
