-- What is read to its end passes the first border.
use Rattle.std.proofs.Common.{◌≡◌, Bool, true, false, not, ◌==◌, ◌&&◌, ◌||◌, inl, inr, List, [], ◌∷◌, ◌++◌, refl, sym, ap, ◌∙◌, subst}
use Rattle.sgml_conversion.specs.theory_reading.Names.{Name}
use Rattle.sgml_conversion.specs.theory_reading.Pieces.{Piece, Kind, History}
use Rattle.sgml_conversion.specs.theory_reading.Facets.{Stage, BeforeSyntax, AtBeginning, BeforeDoctype, InSubset, AfterSubset, stage_begun, stage_after, turn, is_finish}
use Rattle.sgml_conversion.specs.theory_reading.Context.{context}
use Rattle.sgml_conversion.specs.theory_reading.Omission.{omitted_end, omitted_start, MayStand}
use Rattle.sgml_conversion.specs.theory_reading.Runs.{LongestRun, after_run}
use Rattle.sgml_conversion.specs.theory_reading.Unread.{Input, opening, texts}
use Rattle.sgml_conversion.specs.theory_reading.State.{state, stage}
use Rattle.sgml_conversion.specs.theory_reading.Reads.{Move, Reads, ReadOn, moved_on, after_moves, ends_in_finish, is_after_subset, is_border, has_border, is_first_border}
use Rattle.sgml_conversion.proofs.theory_reading.Borders.{border-is-first}
use Rattle.sgml_theory_prologs.specs.theory_spelling.Spelled.{forms}
use Rattle.sgml_conversion.proofs.theory_ending.Falling.{move-spelled}
use Rattle.sgml_theory_round.proofs.Finishing.{end-at-border}
use Rattle.sgml_theory_round.specs.Parted.{DocumentsHavePrologs}

never : {A : Type 0} → false ≡ true → A
never e = absurd (cc)

-- where no border was, none is here
or-left : (a b : Bool) → (a || b) ≡ false → a ≡ false
or-left true b e = never (sym e)
or-left false b e = refl

not-here : (h : History) → has_border h ≡ false → is_border h ≡ false
unfolding state stage
not-here [] none = refl
not-here (p ∷ h) none = or-left (is_border (p ∷ h)) (has_border h) none

or-none : (a b : Bool) → a ≡ false → b ≡ false → (a || b) ≡ false
or-none a b ea eb = λ i. ea i || eb i

-- A TAG THAT IS LEFT OUT reaches none
begun-same : (g : Stage) → is_after_subset (stage_begun g) ≡ is_after_subset g
begun-same BeforeSyntax = refl
begun-same AtBeginning = refl
begun-same BeforeDoctype = refl
begun-same InSubset = refl
begun-same AfterSubset = refl

abbrev Leaves : Piece → Type 0
Leaves o = (h : History) → ends_in_finish h ≡ false → (is_border (o ∷ h) ≡ is_border h) × (ends_in_finish (o ∷ h) ≡ false)

same-border : (a b : Bool) (n : Bool) (f : Bool) → b ≡ a → f ≡ false → (b && (n && true)) ≡ (a && (n && not f))
same-border a b n f e g = let f' : false ≡ f = sym g in λ i. e i && (n && not (f' i))

end-leaves : (n : Name) → Leaves (omitted_end n)
unfolding state stage stage_after texts turn is_finish
end-leaves n h f = (same-border (is_after_subset (stage h)) (is_after_subset (stage_begun (stage h))) (texts h == 1) (ends_in_finish h) (begun-same (stage h)) f, refl)

start-leaves : (n : Name) → Leaves (omitted_start n)
unfolding state stage stage_after texts turn is_finish
start-leaves n h f = (same-border (is_after_subset (stage h)) (is_after_subset (stage_begun (stage h))) (texts h == 1) (ends_in_finish h) (begun-same (stage h)) f, refl)

omitted-leaves : (h : History) (o : Piece) (x : Kind) → MayStand (context h) o x → Leaves o
omitted-leaves h o x (inl m) = subst Leaves (sym m.1) (end-leaves m.0)
omitted-leaves h o x (inr m) = subst Leaves (sym m.1) (start-leaves m.0)

run-has-none : (h : History) (x : Kind) (os : List Piece) → LongestRun h x os → has_border h ≡ false → ends_in_finish h ≡ false → has_border (after_run h os) ≡ false
run-has-none h x [] r none f = none
run-has-none h x (o ∷ os) r none f =
    let leaves = omitted-leaves h o x r.0 h f in
    run-has-none (o ∷ h) x os r.1 (or-none (is_border (o ∷ h)) (has_border h) (leaves.0 ∙ not-here h none) none) leaves.1

-- THE FIRST BORDER among the moves, up to the end
record Found (I : Input) (h : History) (ms : List Move) : Type 0 where
  before : List Move
  rest : List Move
  together : ms ≡ before ++ rest
  border : is_first_border (after_moves h before) ≡ true
  before_reads : ReadOn forms I h before
  rest_reads : ReadOn forms I (after_moves h before) rest

later : (I : Input) (h : History) (m : Move) (ms : List Move) → Reads forms I h m → Found I (moved_on h m) ms → Found I h (m ∷ ms)
later I h m ms r f = record {
  before = m ∷ f.before;
  rest = f.rest;
  together = ap (λ (ns : List Move). m ∷ ns) f.together;
  border = f.border;
  before_reads = (r, f.before_reads);
  rest_reads = f.rest_reads;
}

-- at the end of a move the document's end is read, a border is reached, or neither
end-has-border : (I : Input) (h : History) (m : Move) → Reads forms I h m → has_border h ≡ false → ends_in_finish (moved_on h m) ≡ true → ⊥
end-has-border I h m r none e = never (sym (not-here h none) ∙ end-at-border I h m r e)

-- by whether there is a border, and whether the end was read
found-by : (I : Input) (h : History) (m : Move) (ms : List Move) → ReadOn forms I h (m ∷ ms) → has_border h ≡ false → has_border (after_run h m.omitted) ≡ false
    → (is_border (moved_on h m) ≡ false → ends_in_finish (moved_on h m) ≡ false → Found I (moved_on h m) ms)
    → (b : Bool) → is_border (moved_on h m) ≡ b → (c : Bool) → ends_in_finish (moved_on h m) ≡ c → Found I h (m ∷ ms)
found-by I h m ms r none run go true at c g = record {
  before = m ∷ [];
  rest = ms;
  together = refl;
  border = border-is-first (moved_on h m) at run;
  before_reads = (r.0, tt);
  rest_reads = r.1;
}
found-by I h m ms r none run go false at true g = absurd (end-has-border I h m r.0 none g)
found-by I h m ms r none run go false at false g = later I h m ms r.0 (go at g)

find : (I : Input) (h : History) (ms : List Move) → ReadOn forms I h ms → has_border h ≡ false → ends_in_finish h ≡ false
    → ends_in_finish (after_moves h ms) ≡ true → Found I h ms
find I h [] r none f e = never (sym f ∙ e)
find I h (m ∷ ms) r none f e =
    let run = run-has-none h _ m.omitted (move-spelled I h m r.0).moves.longest none f in
    found-by I h m ms r none run
    (λ at g. find I (moved_on h m) ms r.1 (or-none (is_border (moved_on h m)) (has_border (after_run h m.omitted)) at run) g e)
    (is_border (moved_on h m)) refl (ends_in_finish (moved_on h m)) refl

opening-has-none : (I : Input) → has_border (opening I.outside) ≡ false
unfolding state stage stage_after
opening-has-none I = refl

opening-goes-on : (I : Input) → ends_in_finish (opening I.outside) ≡ false
unfolding is_finish
opening-goes-on I = refl

pub documents-have-prologs : DocumentsHavePrologs
documents-have-prologs I ms r e =
    let f = find I (opening I.outside) ms r (opening-has-none I) (opening-goes-on I) e in record {
      prolog = f.before;
      instance = f.rest;
      together = f.together;
      border = f.border;
      prolog_reads = f.before_reads;
      instance_reads = f.rest_reads;
    }
