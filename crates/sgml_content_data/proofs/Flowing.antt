-- Pieces of a byte each, one after another, that leave what is open as it is.
use Rattle.std.specs.Prelude.{◌≡◌, ℕ, suc, ◌+◌, ◌≤◌, Bool, List, [], ◌∷◌, Option, Some, None, length, map, Ok}
use Rattle.std.proofs.Common.{refl, sym, ap, ◌∙◌, subst, arith, length-drop}
use Rattle.sgml_inside.specs.records.Items.{Item, Data, Markup}
use Rattle.sgml_inside.specs.records.Facts.{Facts, noted}
use Rattle.sgml_scan.specs.declared.state.ScanState.{ScanState}
use Rattle.sgml_infer.specs.theory_reading.Names.{Text}
use Rattle.sgml_infer.specs.theory_reading.Pieces.{Piece, Kind}
use Rattle.sgml_infer.specs.theory_reading.Context.{Context, context_after}
use Rattle.sgml_infer.specs.theory_reading.Unread.{Outside}
use Rattle.sgml_infer.specs.theory_reading.State.{State}
use Rattle.sgml_infer.specs.theory_reading.Characters.{kind_noted}
use Rattle.sgml_infer.specs.theory_reading.Reads.{Move}
use Rattle.sgml_prolog_steps.specs.theory_spelling.Sized.{sized}
use Rattle.sgml_prolog_steps.specs.theory_spelling.Content.{character_kind}
use Rattle.sgml_prolog_steps.specs.theory_standing.Prologs.{alone}
use Rattle.sgml_prolog_steps.specs.theory_standing.Held.{Held, state_of, IsSpelledIn}
use Rattle.sgml_prolog_steps.specs.theory_standing.Moves.{IsMove, IsNextMove, AreNextMoves, held_after}
use Rattle.sgml_inside.specs.declared.inside.Inner.{Inner}
use Rattle.sgml_prolog_steps.specs.Found.{rest_in, moved_on}
use Rattle.sgml_prolog_steps.proofs.Shared.{moved-on-twice}
use Rattle.sgml_prolog_steps.proofs.Told.{rest-moved}
use Rattle.sgml_content_steps.specs.Standing.{IsInInstance, IsHeld}
use Rattle.sgml_content_steps.specs.Content.{Content, Holds, IsContent, context_of}
use Rattle.sgml_content_data.specs.Roles.{around_in, around_of}
use Rattle.sgml_content_data.specs.declared.around.Around.{Around}
use Rattle.sgml_content_data.specs.Taking.{noted_if, with_item}
use Rattle.sgml_content_data.specs.Steps.{AreThere}
use Rattle.sgml_content_data.proofs.Quiet.{IsQuiet, quiet-there}
use Rattle.sgml_content_data.proofs.Holding.{behind, beside, quiet-holds, quiet-content, quiet-held}
use Rattle.sgml_content_data.proofs.Roles.{around-held}

-- ONE that is a move
pub next-one : (outside : Outside) (texts : List (ℕ × Text)) (ended : Bool) (c : Content) (x : Held) (os : List Piece) (y : Kind) (n : ℕ) (it : Option Item)
    → IsContent c → Holds c x → IsQuiet y it → n ≤ length (rest_in c.kept texts) → IsSpelledIn outside x texts ended (Ok (sized n y))
    → kind_noted (state_of x) y ≡ y → IsMove (state_of x) (sized n y) (behind os n y) → IsNextMove outside x texts ended (behind os n y)
next-one outside texts ended c x os y n it is h q l s noted m = record {
  piece = sized n y;
  spelled = s;
  moves = subst (λ (z : Kind). IsMove (state_of x) (sized n z) (behind os n y)) (sym noted) m;
  of_content = q.of_content;
  written = q.written;
  there = quiet-there outside x.kept texts y it n q (subst IsInInstance (sym h.kept) is.instance) (subst (λ k. n ≤ length (rest_in k texts)) (sym h.kept) l);
}

-- A ROW of them
abbrev pub moves_of : List Kind → List Move
moves_of [] = []
moves_of (y ∷ ys) = alone (sized 1 y) ∷ moves_of ys

abbrev pub with_bytes : Text → Option Item → Content → Content
with_bytes [] it c = c
with_bytes (b ∷ bs) it c = with_bytes bs it (with_item 1 it c)

pub record Flows (outside : Outside) (texts : List (ℕ × Text)) (ended : Bool) (x : Held) (ys : List Kind) (new : Content) : Type 0 where
  pub now : Held
  pub next : AreNextMoves outside x texts ended (moves_of ys) now
  pub holds : Holds new now

-- what each byte is there: a piece that is a move by itself, and leaves what is known of the open elements
pub record IsEach (a : Around) (s : Context) (st : ScanState) (f : ℕ → Kind) (it : Option Item) (b : ℕ) : Type 0 where
  pub quiet : IsQuiet (f b) it
  pub kind : (z : State) → around_in z ≡ a → character_kind z st.mode b ≡ f b
  pub noted : (z : State) → kind_noted z (f b) ≡ f b
  pub moves : (z : State) → z.context ≡ s → IsMove z (sized 1 (f b)) (alone (sized 1 (f b)))
  pub same : context_after (sized 1 (f b)) s ≡ s

abbrev pub AreEach : Around → Context → ScanState → (ℕ → Kind) → Option Item → Text → Type 0
AreEach a s st f it [] = Unit {0}
AreEach a s st f it (b ∷ bs) = IsEach a s st f it b × AreEach a s st f it bs

pub left-of : (outside : Outside) (texts : List (ℕ × Text)) (n m : ℕ) (c : Content) → IsContent c → n + m ≤ length (rest_in c.kept texts)
    → m ≤ length (rest_in (moved_on n c.kept) texts)
left-of outside texts n m c is l =
    let e = ap (λ xs. length xs) (rest-moved n c.kept texts is.instance.document) in
    let d = length-drop n (rest_in c.kept texts) in
    omega (arith, l, e, d)

pub flows : (outside : Outside) (texts : List (ℕ × Text)) (ended : Bool) (st : ScanState) (f : ℕ → Kind) (it : Option Item) (bs : Text) (c : Content) (x : Held)
    → IsContent c → Holds c x → IsHeld c.kept st x → length bs ≤ length (rest_in c.kept texts) → AreThere c.kept st texts ended bs
    → AreEach (around_of c) (context_of c) st f it bs → Flows outside texts ended x (map f bs) (with_bytes bs it c)
flows outside texts ended st f it [] c x is h held l there each = record { now = x; next = refl; holds = h }
flows outside texts ended st f it (b ∷ bs) c x is h held l there each =
    let e = each.0 in
    let spelled : IsSpelledIn outside x texts ended (Ok (sized 1 (f b))) =
    subst (λ (y : Kind). IsSpelledIn outside x texts ended (Ok (sized 1 y))) (e.kind (state_of x) (around-held c x h)) (there.0 outside x held) in
    let one = next-one outside texts ended c x [] (f b) 1 it is h e.quiet (omega (arith, l)) spelled (e.noted (state_of x)) (e.moves (state_of x) h.context) in
    let y = held_after outside (alone (sized 1 (f b))) x in
    let same = ap (context_after (sized 1 (f b))) h.context ∙ e.same in
    let holds : Holds (with_item 1 it c) y = quiet-holds outside x [] (f b) 1 it c e.quiet is.instance h.kept same (beside c x h) in
    let rest = flows outside texts ended st f it bs (with_item 1 it c) y (quiet-content 1 it c is) holds
    (quiet-held outside st x (f b) 1 it c.kept e.quiet is.instance held)
    (left-of outside texts 1 (length bs) c is (omega (arith, l))) there.1 each.1 in
    record { now = rest.now; next = (one, rest.next); holds = rest.holds }

-- WHAT IS KEPT after so many: an item again is as once

pub record IsOnce (it : Option Item) : Type 0 where
  pub again : (xs : List Inner) → noted_if it (noted_if it xs) ≡ noted_if it xs

pub none-once : IsOnce None
none-once = record { again = λ xs. refl }

markup-facts : (f : Facts) → noted (noted f Markup) Markup ≡ noted f Markup
unfolding noted
markup-facts f = refl

data-facts : (f : Facts) → noted (noted f Data) Data ≡ noted f Data
unfolding noted
data-facts f = refl

markup-again : (xs : List Inner) → noted_if (Some Markup) (noted_if (Some Markup) xs) ≡ noted_if (Some Markup) xs
markup-again [] = refl
markup-again (x ∷ xs) = ap (λ (f : Facts). (record x { record_ends = f }) ∷ xs) (markup-facts x.record_ends)

data-again : (xs : List Inner) → noted_if (Some Data) (noted_if (Some Data) xs) ≡ noted_if (Some Data) xs
data-again [] = refl
data-again (x ∷ xs) = ap (λ (f : Facts). (record x { record_ends = f }) ∷ xs) (data-facts x.record_ends)

pub markup-once : IsOnce (Some Markup)
markup-once = record { again = markup-again }

pub data-once : IsOnce (Some Data)
data-once = record { again = data-again }

pub with-twice : (m n : ℕ) (it : Option Item) (c : Content) → IsOnce it → with_item n it (with_item m it c) ≡ with_item (m + n) it c
with-twice m n it c o = λ i. record c {
  kept = moved-on-twice m n c.kept i;
  inside = record c.inside { elements = o.again c.inside.elements i };
}

with-more : (n : ℕ) (bs : Text) (it : Option Item) (c : Content) → IsOnce it → with_bytes bs it (with_item n it c) ≡ with_item (n + length bs) it c
with-more n [] it c o = ap (λ m. with_item m it c) (add-none n)
  where
    add-none : (n : ℕ) → n ≡ n + 0
    add-none n = omega arith
with-more n (b ∷ bs) it c o =
    ap (with_bytes bs it) (with-twice n 1 it c o) ∙ (with-more (n + 1) bs it c o ∙ ap (λ m. with_item m it c) (add-one n (length bs)))
  where
    add-one : (n m : ℕ) → n + 1 + m ≡ n + suc m
    add-one n m = omega arith

pub with-bytes : (b : ℕ) (bs : Text) (it : Option Item) (c : Content) → IsOnce it → with_bytes bs it (with_item 1 it c) ≡ with_item (length (b ∷ bs)) it c
with-bytes b bs it c o = with-more 1 bs it c o ∙ ap (λ m. with_item m it c) (add-one (length bs))
  where
    add-one : (m : ℕ) → 1 + m ≡ suc m
    add-one m = omega arith
