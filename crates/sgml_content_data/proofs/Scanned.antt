-- What is scanned is what is taken: tokens of one character, and stretches.
use Rattle.std.specs.Prelude.{◌≡◌, ℕ, zero, suc, ◌+◌, ◌<◌, ◌≤◌, ◌&&◌, cond, Bool, true, false, List, [], ◌∷◌, Some, None, length, take, drop, slice_index_or, Result, Ok}
use Rattle.std.specs.List.{list_all, prefix_len}
use Rattle.std.proofs.Common.{refl, sym, ap, ◌∙◌, subst, arith, append-nil}
use Rattle.std.proofs.lemmas.Bool.{and_parts}
use Rattle.sgml_text.specs.Characters.{is_separator}
use Rattle.sgml_inside.specs.records.Items.{Markup}
use Rattle.sgml_inside.specs.records.Facts.{takes_end}
use Rattle.sgml_scan.specs.markup.declared.kinds.TokenKind.TheVariants as kind
use Rattle.sgml_scan.specs.declared.state.ScanState.{ScanState}
use Rattle.sgml_scan.specs.declared.state.Token.{Token}
use Rattle.sgml_events.specs.declared.event.Event.{Event}
use Rattle.sgml_infer.specs.theory_reading.Names.{Text}
use Rattle.sgml_infer.specs.theory_reading.Pieces.{Kind, Char, Sep, Skipped}
use Rattle.sgml_infer.specs.theory_reading.Characters.{separator_kind}
use Rattle.sgml_prolog_steps.specs.theory_spelling.Sized.{sized}
use Rattle.sgml_prolog_steps.specs.theory_spelling.Content.{character_kind}
use Rattle.sgml_prolog_steps.specs.theory_standing.Kept.{Kept}
use Rattle.sgml_prolog_steps.specs.theory_standing.Held.{Held, state_of, IsSpelledIn}
use Rattle.sgml_inside.specs.Inside.{facts_of}
use Rattle.sgml_prolog_steps.specs.Found.{rest_in, moved_on}
use Rattle.sgml_prolog_steps.proofs.Shared.{moved-zero, moved-on-twice}
use Rattle.sgml_prolog_steps.specs.declared.stepping.Stop.{Stop}
use Rattle.sgml_content_steps.specs.Standing.{IsSpelledNext}
use Rattle.sgml_content_steps.specs.Found.{IsTokenThere}
use Rattle.sgml_content_steps.proofs.Pieces.{characters-are-pieces, record-ends-are-pieces, record-starts-are-pieces, numbers-are-pieces, functions-are-pieces}
use Rattle.sgml_content_steps.specs.Content.{Content, Holds, IsContent, context_of}
use Rattle.sgml_content_steps.specs.Steps.{Tells}
use Rattle.sgml_content_data.specs.declared.around.Around.{Around}
use Rattle.sgml_content_data.specs.declared.front.Front.{Front}
use Rattle.sgml_content_data.specs.declared.role.Role.TheVariants as role
use Rattle.sgml_content_data.specs.Roles.{around_of, role_of_separator, role_of_character, kind_by, separator_of, is_data, is_data_there, is_ignored_there, front_length, IsFront}
use Rattle.sgml_content_data.specs.Taking.{with_item}
use Rattle.sgml_content_data.specs.Steps.{is_ign, TellsScanned, TellsRead, TellsPiece, TellsStretch, AreThere}
use Rattle.sgml_content_data.proofs.Fronts.{own-length}
use Rattle.sgml_content_data.proofs.Roles.{around-held, live-held, separator-held, character-by, skipped-by, ignored-there}
use Rattle.sgml_content_data.proofs.Flowing.{AreEach, none-once, markup-once}
use Rattle.sgml_content_data.proofs.Told.{skipped-silent, separator-silent}
use Rattle.sgml_content_data.proofs.Alone.{skipped-alone, separator-alone, alone-each, skipped-noted, separator-noted, stretch-passed, at-none}

-- A TOKEN OF ONE CHARACTER
pub separator-token : (texts : List (ℕ × Text)) (t : Token) (b : ℕ) (old new : Content) (before after : List Event) (result : Result (Unit {0}) Stop)
    → ((st : ScanState) (ended : Bool) → IsTokenThere old.kept st texts ended t → IsSpelledNext old.kept st texts ended (λ outside s. Ok (sized t.length (separator_kind s b))))
    → TellsPiece texts t.length (separator_of old b) old new before after result → Tells texts t old new before after result
separator-token texts t b old new before after result spelled tells = (
  tells.0,
  tells.1,
  tells.2,
  λ c st ended there. tells.3 c st ended (λ outside x h held.
      subst (λ (y : Kind). IsSpelledIn outside x texts ended (Ok (sized t.length y))) (separator-held old x b h) (spelled st ended there outside x held)),
)

pub end-token : (texts : List (ℕ × Text)) (t : Token) (old new : Content) (before after : List Event) (result : Result (Unit {0}) Stop) → t.kind ≡ kind.Re
    → TellsPiece texts t.length (separator_of old 13) old new before after result → Tells texts t old new before after result
end-token texts t old new before after result e =
    separator-token texts t 13 old new before after result (λ st ended there. record-ends-are-pieces old.kept st texts ended t there e)

pub start-token : (texts : List (ℕ × Text)) (t : Token) (old new : Content) (before after : List Event) (result : Result (Unit {0}) Stop) → t.kind ≡ kind.Rs
    → TellsPiece texts t.length (separator_of old 10) old new before after result → Tells texts t old new before after result
start-token texts t old new before after result e =
    separator-token texts t 10 old new before after result (λ st ended there. record-starts-are-pieces old.kept st texts ended t there e)

pub function-token : (texts : List (ℕ × Text)) (t : Token) (b : ℕ) (old new : Content) (before after : List Event) (result : Result (Unit {0}) Stop) → t.kind ≡ kind.FunctionRef b
    → TellsPiece texts t.length (separator_of old b) old new before after result → Tells texts t old new before after result
function-token texts t b old new before after result e =
    separator-token texts t b old new before after result (λ st ended there. functions-are-pieces b old.kept st texts ended t there e)

pub number-token : (texts : List (ℕ × Text)) (t : Token) (b : ℕ) (old new : Content) (before after : List Event) (result : Result (Unit {0}) Stop) → t.kind ≡ kind.CharRef b
    → TellsPiece texts t.length (Char b) old new before after result → Tells texts t old new before after result
number-token texts t b old new before after result e tells = (
  tells.0,
  tells.1,
  tells.2,
  λ c st ended there. tells.3 c st ended (λ outside x h held. numbers-are-pieces b old.kept st texts ended t there e outside x held),
)

-- A STRETCH, as it is scanned

take-more : (xs : List ℕ) (n i : ℕ) → i < length xs → take (suc n) (drop i xs) ≡ slice_index_or xs i 0 ∷ take n (drop (suc i) xs)
take-more [] n i l = absurd (omega (arith, l))
take-more (x ∷ xs) n zero l = refl
take-more (x ∷ xs) n (suc i) l = take-more xs n i (omega (arith, l))

there-from : (k : Kept) (st : ScanState) (texts : List (ℕ × Text)) (ended : Bool) (t : Token) (n i : ℕ) → IsTokenThere k st texts ended t → t.kind ≡ kind.Chars → i + n ≤ t.length
    → AreThere (moved_on i k) st texts ended (take n (drop i (rest_in k texts)))
there-from k st texts ended t zero i h e l = subst (λ (xs : Text). AreThere (moved_on i k) st texts ended xs) (sym (take-none (drop i (rest_in k texts)))) tt
  where
    take-none : (xs : List ℕ) → take 0 xs ≡ []
    take-none [] = refl
    take-none (x ∷ xs) = refl
there-from k st texts ended t (suc n) i h e l =
    let size = h.within in
    let one : i + 1 ≡ suc i = omega arith in
    subst (λ (xs : Text). AreThere (moved_on i k) st texts ended xs) (sym (take-more (rest_in k texts) n i (omega (arith, l, size)))) (
      characters-are-pieces k st texts ended t i h e (omega (arith, l)),
      subst (λ (z : Kept). AreThere z st texts ended (take n (drop (suc i) (rest_in k texts)))) (sym (moved-on-twice i 1 k ∙ ap (λ m. moved_on m k) one))
          (there-from k st texts ended t n (suc i) h e (omega (arith, l))),
    )

drop-none : (xs : List ℕ) → drop 0 xs ≡ xs
drop-none [] = refl
drop-none (x ∷ xs) = refl

pub characters-there : (k : Kept) (st : ScanState) (texts : List (ℕ × Text)) (ended : Bool) (t : Token) (n : ℕ) → IsTokenThere k st texts ended t → t.kind ≡ kind.Chars → n ≤ t.length
    → AreThere k st texts ended (take n (rest_in k texts))
characters-there k st texts ended t n h e l =
    subst (λ (z : Kept). AreThere z st texts ended (take n (rest_in k texts))) (moved-zero k)
    (subst (λ (xs : Text). AreThere (moved_on 0 k) st texts ended (take n xs)) (drop-none (rest_in k texts)) (there-from k st texts ended t n 0 h e (omega (arith, l))))

-- IN AN IGNORED SECTION each is passed over
skipped-each : (c : Content) (st : ScanState) (bs : Text) → is_ign st.mode ≡ true → AreEach (around_of c) (context_of c) st Skipped (Some Markup) bs
skipped-each c st [] e = tt
skipped-each c st (b ∷ bs) e =
    (alone-each (around_of c) c st Skipped (Some Markup) b (skipped-alone b) (λ z f. skipped-by z st.mode b e) (λ z. skipped-noted z b), skipped-each c st bs e)

pub skipped-tells : (st : ScanState) (texts : List (ℕ × Text)) (t : Token) (old new : Content) (before : List Event) → IsContent old → 0 < t.length
    → t.length ≤ length (rest_in old.kept texts) → t.kind ≡ kind.Chars → is_ign st.mode ≡ true → new ≡ with_item t.length (Some Markup) old
    → TellsScanned st texts t old new before before (Ok tt)
skipped-tells st texts t old new before is some l k m e = (
  [],
  sym (append-nil before),
  at-none _,
  λ c ended there. (let bytes = take t.length (rest_in old.kept texts) in
      stretch-passed c st texts ended old new Skipped (Some Markup) bytes t.length is markup-once skipped-silent (own-length t.length (rest_in old.kept texts) l) some l
      (characters-there old.kept st texts ended t t.length there k (omega arith)) (skipped-each old st bytes m) e),
)

-- ELSE those at the front that are ignored
pub prefix-all : (p : ℕ → Bool) (xs : List ℕ) → list_all p (take (prefix_len p xs) xs) ≡ true
prefix-all p [] = refl
prefix-all p (x ∷ xs) = by (p x) refl (prefix-all p xs)
  where
    by : (t : Bool) → p x ≡ t → list_all p (take (prefix_len p xs) xs) ≡ true → list_all p (take (cond (p x) (1 + prefix_len p xs) 0) (x ∷ xs)) ≡ true
    by true e all =
        ap (λ t. list_all p (take (cond t (1 + prefix_len p xs) 0) (x ∷ xs))) e
        ∙ (ap (λ n. list_all p (take n (x ∷ xs))) (one-more (prefix_len p xs)) ∙ (λ i. e i && all i))
      where
        one-more : (n : ℕ) → 1 + n ≡ suc n
        one-more n = omega arith
    by false e all = ap (λ t. list_all p (take (cond t (1 + prefix_len p xs) 0) (x ∷ xs))) e

take-none : (xs : List ℕ) → take 0 xs ≡ []
take-none [] = refl
take-none (x ∷ xs) = refl

pub take-take : (m n : ℕ) (xs : List ℕ) → m ≤ n → take m (take n xs) ≡ take m xs
take-take zero n xs l = take-none (take n xs) ∙ sym (take-none xs)
take-take (suc m) zero xs l = absurd (omega (arith, l))
take-take (suc m) (suc n) [] l = refl
take-take (suc m) (suc n) (x ∷ xs) l = ap (λ ys. x ∷ ys) (take-take m n xs (omega (arith, l)))

pub front-within : (a : Around) (n : ℕ) (rest : Text) (f : Front) → IsFront a (take n rest) f → n ≤ length rest → f.length ≤ n
front-within a n rest f is l = let e = own-length n rest l in let w = is.within in omega (arith, e, w)

-- the front of these bytes, which stand there
pub front-there : (c : Content) (texts : List (ℕ × Text)) (n : ℕ) (a : Around) (bytes : Text) (f : Front) → a ≡ around_of c → bytes ≡ take n (rest_in c.kept texts)
    → IsFront a bytes f → IsFront (around_of c) (take n (rest_in c.kept texts)) f
front-there c texts n a bytes f e g is = subst (λ (z : Around). IsFront z (take n (rest_in c.kept texts)) f) e (subst (λ (bs : Text). IsFront a bs f) g is)

pub front-data : (a : Around) (n : ℕ) (rest : Text) (f : Front) → IsFront a (take n rest) f → n ≤ length rest → f.role ≡ role.Data → list_all (is_data_there a) (take f.length rest) ≡ true
front-data a n rest f is l e =
    ap (list_all (is_data_there a)) (sym (take-take f.length n rest (front-within a n rest f is l)))
    ∙ (ap (λ m. list_all (is_data_there a) (take m (take n rest))) (is.count ∙ ap (λ r. front_length a r (take n rest)) e)
    ∙ prefix-all (is_data_there a) (take n rest))

pub front-taken : (a : Around) (n : ℕ) (rest bytes : Text) (f : Front) → IsFront a (take n rest) f → n ≤ length rest → bytes ≡ take n rest → take f.length bytes ≡ take f.length rest
front-taken a n rest bytes f is l e = ap (take f.length) e ∙ take-take f.length n rest (front-within a n rest f is l)

front-ignored : (a : Around) (n : ℕ) (rest : Text) (f : Front) → IsFront a (take n rest) f → n ≤ length rest → f.role ≡ role.Ignored
    → list_all (is_ignored_there a) (take f.length rest) ≡ true
front-ignored a n rest f is l e =
    ap (list_all (is_ignored_there a)) (sym (take-take f.length n rest (front-within a n rest f is l)))
    ∙ (ap (λ m. list_all (is_ignored_there a) (take m (take n rest))) (is.count ∙ ap (λ r. front_length a r (take n rest)) e)
    ∙ prefix-all (is_ignored_there a) (take n rest))

ignored-each : (c : Content) (st : ScanState) (bs : Text) → is_ign st.mode ≡ false → list_all (is_ignored_there (around_of c)) bs ≡ true
    → AreEach (around_of c) (context_of c) st Sep None bs
ignored-each c st [] e all = tt
ignored-each c st (b ∷ bs) e all =
    let parts = and_parts (is_ignored_there (around_of c) b) (list_all (is_ignored_there (around_of c)) bs) all in
    (alone-each (around_of c) c st Sep None b (separator-alone b) (λ z f. ignored-there (around_of c) z st.mode b e f parts.0) (λ z. separator-noted z b), ignored-each c st bs e parts.1)

pub ignored-tells : (texts : List (ℕ × Text)) (t : Token) (old new : Content) (before : List Event) (f : Front) → IsContent old
    → t.length ≤ length (rest_in old.kept texts) → t.kind ≡ kind.Chars → IsFront (around_of old) (take t.length (rest_in old.kept texts)) f → f.role ≡ role.Ignored
    → new ≡ with_item f.length None old → TellsRead texts t old new before before (Ok tt)
ignored-tells texts t old new before f is l k front r e =
    let within = front-within (around_of old) t.length (rest_in old.kept texts) f front l in
    let bytes = take f.length (rest_in old.kept texts) in (
      [],
      sym (append-nil before),
      at-none _,
      λ c st read ended there.
          stretch-passed c st texts ended old new Sep None bytes f.length is none-once separator-silent (own-length f.length (rest_in old.kept texts) (omega (arith, within, l)))
          front.some (omega (arith, within, l)) (characters-there old.kept st texts ended t f.length there k within)
          (ignored-each old st bytes read (front-ignored (around_of old) t.length (rest_in old.kept texts) f front l r)) e,
    )

-- or that are data
pub data-tells : (texts : List (ℕ × Text)) (t : Token) (n : ℕ) (old new : Content) (before after : List Event) (result : Result (Unit {0}) Stop) → t.kind ≡ kind.Chars → n ≤ t.length
    → TellsStretch texts (take n (rest_in old.kept texts)) old new before after result → TellsRead texts t old new before after result
data-tells texts t n old new before after result k l tells = (
  tells.0,
  tells.1,
  tells.2,
  λ c st read ended there. tells.3 c st ended read (characters-there old.kept st texts ended t n there k l),
)

-- or one that is neither
separator-role : (a : Around) (b : ℕ) → is_data (role_of_character a b) ≡ false → role_of_character a b ≡ role_of_separator a b
separator-role a b e = by (is_separator b) refl e
  where
    by : (t : Bool) → is_separator b ≡ t → is_data (cond t (role_of_separator a b) role.Data) ≡ false → cond (is_separator b) (role_of_separator a b) role.Data ≡ role_of_separator a b
    by true f g = ap (λ t. cond t (role_of_separator a b) role.Data) f
    by false f g = absurd (never g)
      where
        never : true ≡ false → ⊥
        never g = cc

character-separator : (c : Content) (x : Held) (st : ScanState) (b : ℕ) → Holds c x → is_ign st.mode ≡ false → is_data (role_of_character (around_of c) b) ≡ false
    → character_kind (state_of x) st.mode b ≡ separator_of c b
character-separator c x st b h read e =
    character-by (state_of x) st.mode b read
    ∙ ((λ i. kind_by (role_of_character (around-held c x h i) b) (live-held c x h i) b)
    ∙ ap (λ r. kind_by r (takes_end (facts_of c.inside.elements)) b) (separator-role (around_of c) b e))

first-there : (k : Kept) (st : ScanState) (texts : List (ℕ × Text)) (ended : Bool) (t : Token) → IsTokenThere k st texts ended t → t.kind ≡ kind.Chars
    → IsSpelledNext k st texts ended (λ outside s. Ok (sized 1 (character_kind s st.mode (slice_index_or (rest_in k texts) 0 0))))
first-there k st texts ended t h e =
    subst (λ (z : Kept). IsSpelledNext z st texts ended (λ outside s. Ok (sized 1 (character_kind s st.mode (slice_index_or (rest_in k texts) 0 0))))) (moved-zero k)
    (characters-are-pieces k st texts ended t 0 h e h.some)

first-byte : (n : ℕ) (xs : List ℕ) → 0 < n → n ≤ length xs → slice_index_or (take n xs) 0 0 ≡ slice_index_or xs 0 0
first-byte zero xs some l = absurd (omega (arith, some))
first-byte (suc n) [] some l = refl
first-byte (suc n) (x ∷ xs) some l = refl

pub one-tells : (texts : List (ℕ × Text)) (t : Token) (f : Front) (old new : Content) (before after : List Event) (result : Result (Unit {0}) Stop) → t.kind ≡ kind.Chars → 0 < t.length
    → t.length ≤ length (rest_in old.kept texts) → IsFront (around_of old) (take t.length (rest_in old.kept texts)) f → is_data f.role ≡ false
    → TellsPiece texts 1 (separator_of old f.byte) old new before after result → TellsRead texts t old new before after result
one-tells texts t f old new before after result k some l front r tells = (
  tells.0,
  tells.1,
  tells.2,
  λ c st read ended there. tells.3 c st ended (λ outside x h held.
      let byte : slice_index_or (rest_in old.kept texts) 0 0 ≡ f.byte = sym (front.byte ∙ first-byte t.length (rest_in old.kept texts) some l) in
      subst (λ (y : Kind). IsSpelledIn outside x texts ended (Ok (sized 1 y)))
      (ap (character_kind (state_of x) st.mode) byte
      ∙ character-separator old x st f.byte h read (ap is_data (sym front.role) ∙ r))
      (first-there old.kept st texts ended t there k outside x held)),
)

-- in a state in which they aren't passed over
pub read-tells : (st : ScanState) (texts : List (ℕ × Text)) (t : Token) (old new : Content) (before after : List Event) (result : Result (Unit {0}) Stop) → is_ign st.mode ≡ false
    → TellsRead texts t old new before after result → TellsScanned st texts t old new before after result
read-tells st texts t old new before after result read tells = (tells.0, tells.1, tells.2, λ c. tells.3 c st read)
