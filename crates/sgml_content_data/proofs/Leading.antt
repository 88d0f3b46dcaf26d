-- Data behind tags that are left out before its first character, where content is scanned without NET and maps.
use Rattle.std.specs.Prelude.{◌≡◌, ℕ, ◌+◌, ◌-◌, ◌^◌, ◌<◌, ◌≤◌, Bool, true, List, [], ◌∷◌, ◌++◌, Some, None, Ok, length, take}
use Rattle.std.specs.List.{list_all}
use Rattle.std.proofs.Common.{refl, sym, ap, ◌∙◌, subst, append_assoc, arith}
use Rattle.std.proofs.lemmas.Bool.{and_parts}
use Rattle.sgml_text.specs.declared.unit.Unit.{Unit as AnyUnit}
use Rattle.sgml_text.specs.Units.{characters}
use Rattle.sgml_text.specs.declared.place.Place.{Place}
use Rattle.sgml_entity.specs.Stack.{offset_of, moved}
use Rattle.sgml_inside.specs.records.Items.{Data}
use Rattle.sgml_scan.specs.markup.declared.kinds.TokenKind.TheVariants as kind
use Rattle.sgml_scan.specs.Tokens.{IsScanned, token}
use Rattle.sgml_events.specs.declared.event.Event.{Event}
use Rattle.sgml_infer.specs.theory_reading.Names.{Text}
use Rattle.sgml_infer.specs.theory_reading.Pieces.{Char}
use Rattle.sgml_infer.specs.declared.visible.Visible.TheVariants as visible
use Rattle.sgml_inside.specs.Inside.{facts_of}
use Rattle.sgml_prolog_steps.specs.theory_standing.Kept.{Kept}
use Rattle.sgml_prolog_steps.specs.theory_standing.Held.{Held}
use Rattle.sgml_prolog_steps.specs.Found.{rest_in, moved_on}
use Rattle.sgml_prolog_steps.proofs.Shared.{moved-on-twice}
use Rattle.sgml_content_steps.specs.Standing.{IsHeld}
use Rattle.sgml_content_steps.specs.Content.{Content, Holds, IsContent}
use Rattle.sgml_content_steps.specs.Steps.{IsStep}
use Rattle.sgml_content_steps.specs.declared.run.Run.{Run}
use Rattle.sgml_content_steps.specs.Runs.{IsRun}
use Rattle.sgml_content_steps.specs.Plainly.{plain_state, TellsPlainly}
use Rattle.sgml_content_data.specs.Roles.{around_of, in_text, is_data_there}
use Rattle.sgml_content_data.specs.Taking.{with_item, data_told, noted_if, IsTaken}
use Rattle.sgml_content_data.specs.Steps.{AreThere, TellsStretch}
use Rattle.sgml_content_data.specs.Alike.{TellsBegun, TakesBegun, TakesText, chars, counted}
use Rattle.sgml_content_data.proofs.Quiet.{character-quiet}
use Rattle.sgml_content_data.proofs.Holding.{quiet-content}
use Rattle.sgml_content_data.proofs.Alone.{ok-step}
use Rattle.sgml_content_data.proofs.Judged.{character-text, IsJudgedFrom}
use Rattle.sgml_content_data.proofs.Behind.{IsTakenFrom, mid-content}
use Rattle.sgml_content_data.proofs.Data.{taken-from, told-at, at-data}
use Rattle.sgml_content_data.proofs.Stretches.{split-front}
use Rattle.sgml_content_data.proofs.Scanned.{characters-there}
use Rattle.sgml_content_data.proofs.Alike.{either}
use Rattle.sgml_content_data.proofs.Plainly.{token-there, some-taken}
use Rattle.sgml_content_data.proofs.Starting.{begun-goes, begun-first, first-one, first-data}

-- as it is scanned in any state
stretch-begun : (texts : List (ℕ × Text)) (n : ℕ) (old new : Content) (before after : List Event)
    → TellsStretch texts (take n (rest_in old.kept texts)) old new before after (Ok tt) → TellsBegun texts n old new before after
stretch-begun texts n old new before after t = (t.0, t.1, t.2, λ c ended there. t.3 c plain_state ended refl there)

-- bytes are read over behind a first one
pass-after : (n : ℕ) (c : Content) → with_item n None (with_item 1 (Some Data) c) ≡ with_item (1 + n) (Some Data) c
pass-after n c = λ i. record c {
  kept = moved-on-twice 1 n c.kept i;
  inside = record c.inside { elements = noted_if (Some Data) c.inside.elements };
}

-- ALL OF THEM
begun-all : (texts : List (ℕ × Text)) (n : ℕ) (old j mid new : Content) (told before after : List Event) (run : Run) (b : ℕ) (bs : Text) (released : Bool)
    → IsContent old → IsJudgedFrom old j → IsRun j visible.Chars run → IsTakenFrom j mid told → length (b ∷ bs) ≤ length (rest_in old.kept texts)
    → take n (rest_in old.kept texts) ≡ b ∷ bs
    → is_data_there (around_of old) b ≡ true → list_all (is_data_there (around_of mid)) bs ≡ true
    → ((y : Held) → Holds (with_item 1 (Some Data) mid) y → IsHeld (moved_on 1 mid.kept) plain_state y)
    → released ≡ (facts_of mid.inside.elements).waiting → new ≡ with_item (length (b ∷ bs)) (Some Data) mid
    → after ≡ before ++ (told ++ data_told released (characters (b ∷ bs))) → TellsBegun texts n old new before after
begun-all texts n old j mid new told before after run b bs released was from r t l parts first all scans w e f =
    let m = length (b ∷ bs) in
    let es = told ++ data_told released (characters (b ∷ bs)) in
    let is = mid-content j mid told (Char b) (Some Data) 1 from.content t (character-text b) (character-quiet b) in (
      es,
      f,
      told-at old j mid told (data_told released (characters (b ∷ bs))) from t (λ place. at-data place released (characters (b ∷ bs))),
      λ c ended there. subst (λ (z : Content). IsStep c plain_state texts ended old z es (Ok tt)) (sym e)
          (ok-step c plain_state texts ended old (with_item m (Some Data) mid) es m was (quiet-content m (Some Data) mid is) (ap (moved_on m) (t.texts ∙ from.kept)) (omega arith) l
          (λ outside x h held. begun-goes outside texts ended plain_state old j mid told released run x b bs from r t h held refl l
          (subst (λ (xs : Text). AreThere old.kept plain_state texts ended xs) parts there) first all scans w)),
    )

pub begun-on : (texts : List (ℕ × Text)) (n : ℕ) (old j c new : Content) (before middle after : List Event) (run : Run) (released : Bool) (units : List AnyUnit)
    → IsContent old → IsJudgedFrom old j → IsRun j visible.Chars run → n ≤ length (rest_in old.kept texts)
    → list_all (is_data_there (around_of old)) (take 1 (rest_in old.kept texts)) ≡ true → 1 < n
    → list_all (is_data_there in_text) (take n (rest_in old.kept texts)) ≡ true → units ≡ characters (take n (rest_in old.kept texts))
    → IsTaken j c 1 Data before middle released → ((x : Held) → Holds c x → IsHeld c.kept plain_state x) → around_of c ≡ in_text
    → new ≡ with_item (n - 1) None c → after ≡ middle ++ data_told released units → TellsBegun texts n old new before after
begun-on texts n old j c new before middle after run released units was from r l first several there u t scans around e f =
    let mid = t.after_run in
    let told = t.run.0 in
    let rest = rest_in old.kept texts in
    let taken = taken-from j c 1 Data before middle released t in
    let parts = split-front n rest (omega (arith, several)) l in
    let b = parts.0 in
    let bs = parts.1 in
    let size = parts.3 in
    let units_are : units ≡ characters (b ∷ bs) = u ∙ ap characters parts.2 in
    let all = and_parts (is_data_there in_text b) (list_all (is_data_there in_text) bs) (ap (list_all (is_data_there in_text)) (sym parts.2) ∙ there) in
    let text : around_of mid ≡ in_text = sym (ap around_of t.kept) ∙ around in
    begun-all texts n old j mid new told before after run b bs released was from r taken (omega (arith, l, size)) parts.2
    (first-data (is_data_there (around_of old)) b (take 1 rest) (first-one n rest b bs parts.2) first)
    (ap (λ a. list_all (is_data_there a) bs) text ∙ all.1)
    (subst (λ (z : Content). (y : Held) → Holds z y → IsHeld z.kept plain_state y) t.kept scans)
    t.puts_out
    (e ∙ (ap (with_item (n - 1) None) t.kept ∙ (pass-after (n - 1) mid ∙ ap (λ k. with_item k (Some Data) mid) (one-more n (length (b ∷ bs)) several size))))
    (f ∙ (ap (λ us. middle ++ data_told released us) units_are
    ∙ (ap (λ es. es ++ data_told released (characters (b ∷ bs))) t.run.1 ∙ append_assoc before told (data_told released (characters (b ∷ bs))))))
  where
    one-more : (n m : ℕ) → 1 < n → m ≡ n → 1 + (n - 1) ≡ m
    one-more n m l e = omega (arith, l, e)

-- THE FIRST of them alone
pub begun-one : (texts : List (ℕ × Text)) (n : ℕ) (old j c : Content) (before middle after : List Event) (run : Run) (released : Bool) (units : List AnyUnit)
    → IsContent old → IsJudgedFrom old j → IsRun j visible.Chars run → 0 < n → n ≤ length (rest_in old.kept texts)
    → list_all (is_data_there (around_of old)) (take 1 (rest_in old.kept texts)) ≡ true → units ≡ characters (take 1 (rest_in old.kept texts))
    → IsTaken j c 1 Data before middle released → after ≡ middle ++ data_told released units → TellsBegun texts n old c before after
begun-one texts n old j c before middle after run released units was from r some l all u t e =
    stretch-begun texts n old c before after
    (begun-first texts n old j c before middle after run released units was from r some l all
    (u ∙ ap (λ (k : Kept). characters (take 1 (rest_in k texts))) (sym from.kept)) t e)

-- what is left to read behind the first is a place
pub begun-fits : (n : ℕ) (j c : Content) (before middle : List Event) (released : Bool) → IsTaken j c 1 Data before middle released → 0 < n
    → offset_of j.kept.stack.places + n < 2 ^ 64 → offset_of c.kept.stack.places + (n - 1) < 2 ^ 64
begun-fits n j c before middle released t some l =
    let k : c.kept ≡ moved_on 1 j.kept = ap (λ (z : Content). z.kept) t.kept ∙ ap (moved_on 1) t.texts in
    let m = further j.kept in
    let e = ap (λ (z : Kept). offset_of z.stack.places) k in
    omega (arith, some, l, m, e)
  where
    further : (k : Kept) → offset_of (moved_on 1 k).stack.places ≤ offset_of k.stack.places + 1
    further k = by k.stack.places
      where
        by : (ps : List Place) → offset_of (moved 1 ps) ≤ offset_of ps + 1
        by [] = omega arith
        by (p ∷ ps) = omega arith

-- BY HOW MANY BYTES were taken
pub begun-plainly : (texts : List (ℕ × Text)) (old new : Content) (before after : List Event) (bytes : Text) (r n : ℕ) (went : Bool) → IsContent old → bytes ≡ rest_in old.kept texts
    → 0 < n → n ≤ length bytes → ((ended : Bool) → IsScanned old.kept.doctype.syntax plain_state ended bytes (token kind.Chars n)) → TakesBegun texts n old new before after went
    → r ≡ counted n went → TakesText texts old new before after r
begun-plainly texts old new before after bytes r n went is e some l s t c =
    some-taken texts old new before after r n went c some
    (either (TellsBegun texts n old new before after) (TellsPlainly texts old new before after) old new before after went
    (λ p. (
      p.0,
      p.1,
      p.2,
      λ c ended. p.3 c ended
          (characters-there old.kept plain_state texts ended (chars n) n (token-there old texts bytes (chars n) is e (omega (arith, some, l)) s ended) refl (omega arith)),
    )) t)
