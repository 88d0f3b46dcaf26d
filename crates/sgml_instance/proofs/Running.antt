-- Over plain tokens, one after another.
use Rattle.std.proofs.Common.{◌≡◌, ℕ, zero, suc, ◌<◌, ◌≤◌, Bool, true, false, List, [], ◌++◌, None, Ok, refl, sym, ap, ◌∙◌, subst, arith, append-nil}
use Rattle.sgml_scan.specs.declared.state.ScanState.{ScanState}
use Rattle.sgml_scan.specs.Openings.{is_con}
use Rattle.sgml_events.specs.declared.event.Event.{Event}
use Rattle.sgml_content_tags.specs.said.Told.{all_said}
use Rattle.sgml_declared.specs.theory_reading.Names.{Text}
use Rattle.sgml_declared.specs.theory_standing.Kept.{Kept}
use Rattle.sgml_declared.specs.theory_standing.Next.{left_to_read}
use Rattle.sgml_declared.specs.Files.{Choices}
use Rattle.sgml_content_tags.specs.sgml_content_steps.Content.{Content}
use Rattle.sgml_content_tags.specs.sgml_content_steps.Steps.{LeavesAsItWas, IsStep, TellsBy}
use Rattle.sgml_content_tags.specs.sgml_content_steps.Plainly.{TellsPlainly, LeavesAll, plain_state, IsScannedIn}
use Rattle.sgml_content_tags.specs.Quick.{TellsInContent}
use Rattle.sgml_content_references.specs.content_data.Alike.{TakesText}
use Rattle.sgml_content_references.specs.Mapped.{mapped_state, TakesMapped}
use Rattle.sgml_instance.specs.Reading.{reader}
use Rattle.sgml_instance.specs.Stepping.{TellsOn}
use Rattle.sgml_instance.specs.Going.{GoesFrom, GoesOn, FallsBy, left_then}
use Rattle.sgml_instance.specs.Quick.{RunsOn, TakesTag}
use Rattle.sgml_instance.specs.declared.stepping.Turn.TheVariants as turn
use Rattle.sgml_instance.proofs.Steps.{step-on}
use Rattle.sgml_instance.proofs.Advancing.{turn-advances, goes-none, goes-on-then}

-- NO FURTHER
pub runs-none : (c : Choices) (texts : List (ℕ × Text)) (ended : Bool) (x : Content) (es : List Event) → RunsOn c texts ended x x es es
runs-none c texts ended x es = record { goes = goes-none c texts ended x false es; left = omega arith; doctype = refl; expand = refl }

-- where what is held is held still
left-goes : (c : Choices) (texts : List (ℕ × Text)) (ended : Bool) (old new : Content) (waiting : List Event) → LeavesAsItWas old new []
    → GoesFrom c texts ended (reader c old waiting false) (reader c new waiting false)
left-goes c texts ended old new waiting l = λ I more h told r. record {
  moves = [];
  read = tt;
  goes_on = record {
    well = refl;
    of_options = r.of_options;
    keeps = (r.keeps.0, l.holds r.keeps.0 r.keeps.1, r.keeps.2);
    follows = r.follows;
    all = r.all ∙ ap (λ (k : Kept). told ++ all_said k.doctype waiting) (sym l.kept);
    placed = r.placed;
  };
}

left-runs : (c : Choices) (texts : List (ℕ × Text)) (ended : Bool) (old new : Content) (before after : List Event) → LeavesAll old new before after
    → RunsOn c texts ended old new before after
left-runs c texts ended old new before after a =
    let same : left_to_read new.kept texts ≡ left_to_read old.kept texts = ap (λ (k : Kept). left_to_read k texts) a.0.kept in
    record {
      goes = (
        [],
        a.1 ∙ sym (append-nil before),
        λ waiting. subst (λ (es : List Event). GoesFrom c texts ended (reader c old waiting false) (reader c new es false)) (sym (append-nil waiting))
            (left-goes c texts ended old new waiting a.0),
      );
      left = omega (arith, same);
      doctype = ap (λ (k : Kept). k.doctype) a.0.kept;
      expand = ap (λ (k : Kept). k.stack.expand) a.0.kept;
    }

-- ONE TURN FURTHER
turn-runs : (c : Choices) (texts : List (ℕ × Text)) (ended : Bool) (old new : Content) (before after : List Event) → TellsOn c texts ended old new before after (Ok turn.Went)
    → RunsOn c texts ended old new before after
turn-runs c texts ended old new before after t =
    let falls : left_to_read new.kept texts < left_to_read old.kept texts = t.2.falls in
    record { goes = turn-advances c texts ended old new before after turn.Went t; left = omega (arith, falls); doctype = t.2.doctype; expand = t.2.expand }

-- and on
pub runs-then : (c : Choices) (texts : List (ℕ × Text)) (ended : Bool) (old mid new : Content) (before between after : List Event) → RunsOn c texts ended old mid before between
    → RunsOn c texts ended mid new between after → RunsOn c texts ended old new before after
runs-then c texts ended old mid new before between after f g =
    let a = f.left in
    let b = g.left in
    record {
      goes = goes-on-then c texts ended old mid new false false false before between after refl f.goes g.goes;
      left = omega (arith, a, b);
      doctype = g.doctype ∙ f.doctype;
      expand = g.expand ∙ f.expand;
    }

-- A STEP over text or a tag, as content is scanned there
abbrev pub TellsScanned : ScanState → List (ℕ × Text) → Content → Content → List Event → List Event → Type 0
TellsScanned st texts old new before after =
    TellsBy (λ told. (c : Choices) (ended : Bool) → IsStep c st texts ended old new told (Ok tt)) old.kept before after

scanned-turns : (c : Choices) (st : ScanState) (texts : List (ℕ × Text)) (ended : Bool) (old new : Content) (before after : List Event) → IsScannedIn st old
    → TellsScanned st texts old new before after → TellsOn c texts ended old new before after (Ok turn.Went)
scanned-turns c st texts ended old new before after scanned s =
    (s.0, s.1, step-on c st texts ended old new s.0 (Ok tt) scanned s.2 (s.3 c ended))

scanned-runs : (c : Choices) (st : ScanState) (texts : List (ℕ × Text)) (ended : Bool) (old new : Content) (before after : List Event) → IsScannedIn st old
    → TellsScanned st texts old new before after → RunsOn c texts ended old new before after
scanned-runs c st texts ended old new before after scanned s =
    turn-runs c texts ended old new before after (scanned-turns c st texts ended old new before after scanned s)

scanned-falls : (c : Choices) (st : ScanState) (texts : List (ℕ × Text)) (ended : Bool) (old new : Content) (before after : List Event) → IsScannedIn st old
    → TellsScanned st texts old new before after → left_to_read new.kept texts < left_to_read old.kept texts
scanned-falls c st texts ended old new before after scanned s = (scanned-turns c st texts ended old new before after scanned s).2.falls

pub text-runs : (c : Choices) (texts : List (ℕ × Text)) (ended : Bool) (old new : Content) (before after : List Event) (n : ℕ) → IsScannedIn plain_state old
    → TakesText texts old new before after n → RunsOn c texts ended old new before after
text-runs c texts ended old new before after zero scanned t = left-runs c texts ended old new before after t
text-runs c texts ended old new before after (suc n) scanned t = scanned-runs c plain_state texts ended old new before after scanned t

pub text-falls : (c : Choices) (texts : List (ℕ × Text)) (ended : Bool) (old new : Content) (before after : List Event) (n : ℕ) → IsScannedIn plain_state old → (n ≡ 0 → ⊥)
    → TakesText texts old new before after n → left_to_read new.kept texts < left_to_read old.kept texts
text-falls c texts ended old new before after zero scanned e t = absurd (e refl)
text-falls c texts ended old new before after (suc n) scanned e t = scanned-falls c plain_state texts ended old new before after scanned t

-- where a map is in force
pub mapped-runs : (c : Choices) (st : ScanState) (texts : List (ℕ × Text)) (ended : Bool) (old new : Content) (before after : List Event) (n : ℕ) → st ≡ mapped_state
    → IsScannedIn st old → TakesMapped texts old new before after n → RunsOn c texts ended old new before after
mapped-runs c st texts ended old new before after zero is scanned t = left-runs c texts ended old new before after t
mapped-runs c st texts ended old new before after (suc n) is scanned t =
    scanned-runs c mapped_state texts ended old new before after (subst (λ (z : ScanState). IsScannedIn z old) is scanned) t

pub mapped-falls : (c : Choices) (st : ScanState) (texts : List (ℕ × Text)) (ended : Bool) (old new : Content) (before after : List Event) (n : ℕ) → st ≡ mapped_state
    → IsScannedIn st old → 0 < n → TakesMapped texts old new before after n → left_to_read new.kept texts < left_to_read old.kept texts
mapped-falls c st texts ended old new before after zero is scanned some t = absurd (omega (arith, some))
mapped-falls c st texts ended old new before after (suc n) is scanned some t =
    scanned-falls c mapped_state texts ended old new before after (subst (λ (z : ScanState). IsScannedIn z old) is scanned) t

-- a tag, by how many bytes it has
plainly-of : (texts : List (ℕ × Text)) (old new : Content) (before after : List Event) → TellsInContent texts old new before after → TellsPlainly texts old new before after
plainly-of texts old new before after s = (s.0, s.1, s.2, λ c ended. s.3 c plain_state ended refl)

pub tag-takes : (texts : List (ℕ × Text)) (old new : Content) (before after : List Event) (n : ℕ) → (0 < n → TellsInContent texts old new before after)
    → (n ≡ 0 → LeavesAll old new before after) → TakesText texts old new before after n
tag-takes texts old new before after zero went left = left refl
tag-takes texts old new before after (suc n) went left = plainly-of texts old new before after (went (omega arith))

pub tag-mapped : (texts : List (ℕ × Text)) (old new : Content) (before after : List Event) (n : ℕ) → (0 < n → TellsInContent texts old new before after)
    → (n ≡ 0 → LeavesAll old new before after) → TakesMapped texts old new before after n
tag-mapped texts old new before after zero went left = left refl
tag-mapped texts old new before after (suc n) went left =
    (let s = went (omega arith) in (s.0, s.1, s.2, λ c ended. s.3 c mapped_state ended refl))

-- whatever NET and maps are
pub takes-tag : (texts : List (ℕ × Text)) (old new : Content) (before after : List Event) (n : ℕ) → (0 < n → TellsInContent texts old new before after)
    → (n ≡ 0 → LeavesAll old new before after) → TakesTag texts old new before after n
takes-tag texts old new before after zero went left = left refl
takes-tag texts old new before after (suc n) went left = went (omega arith)

tag-turns : (c : Choices) (st : ScanState) (texts : List (ℕ × Text)) (ended : Bool) (old new : Content) (before after : List Event) → is_con st.mode ≡ true → IsScannedIn st old
    → TellsInContent texts old new before after → TellsOn c texts ended old new before after (Ok turn.Went)
tag-turns c st texts ended old new before after con scanned s =
    (s.0, s.1, step-on c st texts ended old new s.0 (Ok tt) scanned s.2 (s.3 c st ended con))

pub tag-runs : (c : Choices) (st : ScanState) (texts : List (ℕ × Text)) (ended : Bool) (old new : Content) (before after : List Event) (n : ℕ) → is_con st.mode ≡ true
    → IsScannedIn st old → TakesTag texts old new before after n → RunsOn c texts ended old new before after
tag-runs c st texts ended old new before after zero con scanned t = left-runs c texts ended old new before after t
tag-runs c st texts ended old new before after (suc n) con scanned t =
    turn-runs c texts ended old new before after (tag-turns c st texts ended old new before after con scanned t)

pub tag-falls : (c : Choices) (st : ScanState) (texts : List (ℕ × Text)) (ended : Bool) (old new : Content) (before after : List Event) (n : ℕ) → is_con st.mode ≡ true
    → IsScannedIn st old → 0 < n → TakesTag texts old new before after n → left_to_read new.kept texts < left_to_read old.kept texts
tag-falls c st texts ended old new before after zero con scanned some t = absurd (omega (arith, some))
tag-falls c st texts ended old new before after (suc n) con scanned some t = (tag-turns c st texts ended old new before after con scanned t).2.falls

-- BEFORE A STEP, where reading stands
pub runs-behind : (c : Choices) (texts : List (ℕ × Text)) (ended : Bool) (start old new : Content) (was over : Bool) (before so_far after : List Event) → over ≡ false
    → GoesOn c texts ended start was old over before so_far → RunsOn c texts ended old new so_far after → GoesOn c texts ended start was new over before after
runs-behind c texts ended start old new was over before so_far after on g r =
    subst (λ (b : Bool). GoesOn c texts ended start was new b before after) (sym on)
    (goes-on-then c texts ended start old new was over false before so_far after on g r.goes)

pub runs-fall : (c : Choices) (texts : List (ℕ × Text)) (ended : Bool) (old mid new : Content) (before between : List Event) → RunsOn c texts ended old mid before between
    → left_to_read new.kept texts < left_to_read mid.kept texts → left_to_read new.kept texts < left_to_read old.kept texts
runs-fall c texts ended old mid new before between r l = let a = r.left in omega (arith, a, l)

-- so less is left after the step
pub rest-falls : (texts : List (ℕ × Text)) (old mid new : Content) (was over : Bool) → was ≡ false → left_to_read mid.kept texts ≤ left_to_read old.kept texts → FallsBy texts mid new over None
    → left_then new texts over < left_then old texts was
rest-falls texts old mid new false over e l f = omega (arith, l, f)
rest-falls texts old mid new true over e l f = absurd (never e)
  where
    never : true ≡ false → ⊥
    never e = cc
