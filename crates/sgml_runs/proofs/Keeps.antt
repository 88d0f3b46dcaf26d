-- Each step keeps the rule.
use Rattle.std.proofs.Common.{◌≡◌, ℕ, zero, suc, ◌+◌, ◌-◌, ◌%◌, ◌^◌, ◌<◌, ◌≤◌, ◌≢◌, List, [], ◌∷◌, ◌++◌, length, get_or, set, replicate, sym, refl, ap, ◌∙◌, subst, ⊎_elim, arith, length-set, get_or-set_other, get_or-set_same, mod-eq_of_lt, Some, None}
use Rattle.std.specs.declared.option.Option.{Option}
use mathlib.Core.Logic.{dite}
use mathlib.Core.Option.{none, some, some-injective, some-ne-none}
use native.Mathlib.Decide.{ℕ_discrete, dec_le}
use lib.ListN.{get_elem?}
use lib.Seq.{set-get_or}
use Rattle.atomic_table.specs.Table.{State, step, keeps, takes, gives, stepped, opening, Allows, Splits, Joins}
use Rattle.atomic_table.proofs.Lists.{at_set, set_here, set_else, at_snoc, some_there}
use Rattle.std.proofs.lemmas.List.{length-replicate, length-map}
use Rattle.sgml_runs.specs.declared.run.Chunk.{Chunk}
use Rattle.sgml_runs.specs.declared.run.Entry.{Entry}
use Rattle.sgml_runs.specs.declared.run.Run.{Run}
use Rattle.sgml_runs.specs.declared.view.View.{View}
use Rattle.sgml_runs.specs.declared.expected.Expected.{Expected}
use Rattle.sgml_runs.specs.Runs.{Runs, runs_by}
use Rattle.sgml_runs.specs.Counts.{times, total}
use Rattle.sgml_runs.specs.Rule.{opening_view, spent_view, IsRunOf, IsHome, IsSound, IsKept}
use Rattle.sgml_runs.specs.Steps.{Sat, with_claim, with_none, with_held, with_mark, with_seen, with_miss, with_taken, kept_part, cut_part, both_views, Claims, Lifts, Marks, Looks, Takes, Tells}
use Rattle.sgml_runs.proofs.Sums.{times-here, times-else, times-append, fits, after, total-append, total-set, term_le, terms_le, only, total-plus, total_le, gap}

abbrev St : Type 0 → Type 0
St T = State (Option (Run T)) (View T)

abbrev zeros : ℕ → List ℕ
zeros m = replicate m 0

zero_at : (m i : ℕ) → get_or (zeros m) i 0 ≡ 0
zero_at zero i = refl
zero_at (suc m) zero = refl
zero_at (suc m) (suc i) = zero_at m i

module _ {T : Type 0} where
  -- no chunk is claimed twice
  once : (runs : Runs T) (s : St T) → IsKept runs s → (k : ℕ) → total (λ v. times k v.claims) s.views ≤ 1
  once runs s h k = dite (dec_le (length runs) k) (λ le. omega (arith, h.beyond k le))
      (λ lt. dite (dec_le (get_or s.words 0 0) k) (λ le. omega (arith, h.later k le)) (λ below. omega (arith, h.drawn k (omega arith) (omega arith))))

  out : (runs : Runs T) (s : St T) → IsKept runs s → (k : ℕ) → total (λ v. times k v.marks) s.views + total (λ v. times k v.held) s.views ≤ total (λ v. times k v.claims) s.views
  out runs s h k = omega (
    arith,
    total-plus (λ v. times k v.marks) (λ v. times k v.held) s.views,
    total_le (λ v. times k v.marks + times k v.held) (λ v. times k v.claims) s.views (λ j v e. (h.sound j v e).claimed k),
  )

  sound_set : (runs : Runs T) (s : St T) → IsKept runs s → (id : ℕ) (w : View T) → IsSound w → (i : ℕ) (u : View T) → get_elem? (set s.views id w) i ≡ some u → IsSound u
  sound_set runs s h id w sound i u e = ⊎_elim (λ t. subst IsSound t.1 sound) (λ t. h.sound i u t.1) (at_set s.views id i w u e)

  -- the wrap of word 0 is out of reach
  small : (runs : Runs T) (s : St T) → IsKept runs s → get_or s.words 0 0 ≤ length runs + 64
  small runs s h = omega (arith, h.nones, h.parts, total_le (λ v. v.nones) (λ v. v.parts) s.views (λ j v e. (h.sound j v e).nones))

  added : (runs : Runs T) (s : St T) → IsKept runs s → (get_or s.words 0 0 + 1) % 2 ^ 64 ≡ get_or s.words 0 0 + 1
  added runs s h = let a = small runs s h in let b = h.few in mod-eq_of_lt (omega arith)

  module _ (runs : Runs T) (s : St T) (h : IsKept runs s) (id : ℕ) (v w : View T) (me : get_elem? s.views id ≡ some v) where
    -- f is the same in both views
    same : (f : View T → ℕ) → f w ≡ f v → total f (set s.views id w) ≡ total f s.views
    same f e = omega (arith, total-set f s.views id v w me)

    -- a claim
    drew : IsSound w → w.parts ≡ v.parts → w.leads ≡ v.leads → w.held ≡ v.held → w.marks ≡ v.marks → w.seen ≡ v.seen → w.taken ≡ v.taken
        → (get_or s.words 0 0 + 1 - length runs) + v.nones ≡ (get_or s.words 0 0 - length runs) + w.nones
        → ((k : ℕ) → k < length runs → k < get_or s.words 0 0 + 1 → total (λ u. times k u.claims) (set s.views id w) ≡ 1)
        → ((k : ℕ) → get_or s.words 0 0 + 1 ≤ k → total (λ u. times k u.claims) (set s.views id w) ≡ 0)
        → ((k : ℕ) → length runs ≤ k → total (λ u. times k u.claims) (set s.views id w) ≡ 0)
        → IsKept runs record { words = set s.words 0 ((get_or s.words 0 0 + 1) % 2 ^ 64); homes = s.homes; views = set s.views id w }
    drew sound parts leads held marks seen taken nones drawn later beyond =
        let x : ℕ = get_or s.words 0 0 + 1 in
        let long : 0 < length s.words = omega (arith, h.words) in
        let is : get_or (set s.words 0 ((get_or s.words 0 0 + 1) % 2 ^ 64)) 0 0 ≡ get_or s.words 0 0 + 1 = get_or-set_same s.words 0 ((get_or s.words 0 0 + 1) % 2 ^ 64) 0 long ∙ added runs s h in
        let ms : (k : ℕ) → total (λ u. times k u.marks) (set s.views id w) ≡ total (λ u. times k u.marks) s.views = λ k. same (λ u. times k u.marks) (ap (times k) marks) in
        let ts : (k : ℕ) → total (λ u. times k u.taken) (set s.views id w) ≡ total (λ u. times k u.taken) s.views = λ k. same (λ u. times k u.taken) (ap (times k) taken) in
        let ss : (k : ℕ) → total (λ u. times k u.seen) (set s.views id w) ≡ total (λ u. times k u.seen) s.views = λ k. same (λ u. times k u.seen) (ap (times k) seen) in
        let hs : (k : ℕ) → total (λ u. times k u.held) (set s.views id w) ≡ total (λ u. times k u.held) s.views = λ k. same (λ u. times k u.held) (ap (times k) held) in
        record {
          few = h.few;
          words = length-set s.words 0 ((get_or s.words 0 0 + 1) % 2 ^ 64) ∙ h.words;
          homes = h.homes;
          sound = sound_set runs s h id w sound;
          parts = same (λ u. u.parts) parts ∙ h.parts;
          leads = same (λ u. u.leads) leads ∙ h.leads;
          nones = omega (arith, is, h.nones, nones, total-set (λ u. u.nones) s.views id v w me);
          drawn = λ k lt below. drawn k lt (omega (arith, is));
          later = λ k le. later k (omega (arith, is));
          beyond = beyond;
          marks = λ k lt. get_or-set_other s.words 0 (k + 1) ((get_or s.words 0 0 + 1) % 2 ^ 64) 0 (λ e. omega arith) ∙ (h.marks k lt ∙ sym (ms k));
          seen = λ k some-seen. omega (arith, h.seen k (omega (arith, ss k)), ms k);
          taken = λ k. omega (arith, h.taken k, ts k, ms k);
          home = λ k lt no_held no_taken. subst (IsHome runs s.homes k) (sym (ms k)) (h.home k lt (omega (arith, hs k)) (omega (arith, ts k)));
        }

    -- a step on the word of a chunk
    moved : (ws : List ℕ) (hs : List (mathlib.Core.Option.Option (Option (Run T)))) → length ws ≡ length s.words → length hs ≡ length s.homes → get_or ws 0 0 ≡ get_or s.words 0 0
        → IsSound w → w.parts ≡ v.parts → w.nones ≡ v.nones → w.leads ≡ v.leads → w.claims ≡ v.claims
        → ((k : ℕ) → k < length runs → get_or ws (k + 1) 0 + times k v.marks ≡ get_or s.words (k + 1) 0 + times k w.marks)
        → ((k : ℕ) → 0 < total (λ u. times k u.seen) (set s.views id w) → 0 < total (λ u. times k u.marks) (set s.views id w))
        → ((k : ℕ) → total (λ u. times k u.taken) (set s.views id w) ≤ total (λ u. times k u.marks) (set s.views id w))
        → ((k : ℕ) → k < length runs → total (λ u. times k u.held) (set s.views id w) ≡ 0 → total (λ u. times k u.taken) (set s.views id w) ≡ 0 → IsHome runs hs k (total (λ u. times k u.marks) (set s.views id w)))
        → IsKept runs record { words = ws; homes = hs; views = set s.views id w }
    moved ws hs long wide first sound parts nones leads claims marks seen taken home =
        let cs : (k : ℕ) → total (λ u. times k u.claims) (set s.views id w) ≡ total (λ u. times k u.claims) s.views = λ k. same (λ u. times k u.claims) (ap (times k) claims) in
        record {
          few = h.few;
          words = long ∙ h.words;
          homes = wide ∙ h.homes;
          sound = sound_set runs s h id w sound;
          parts = same (λ u. u.parts) parts ∙ h.parts;
          leads = same (λ u. u.leads) leads ∙ h.leads;
          nones = same (λ u. u.nones) nones ∙ (h.nones ∙ ap (λ (x : ℕ). x - length runs) (sym first));
          drawn = λ k lt below. cs k ∙ h.drawn k lt (omega (arith, first));
          later = λ k le. cs k ∙ h.later k (omega (arith, first));
          beyond = λ k le. cs k ∙ h.beyond k le;
          marks = λ k lt. omega (arith, marks k lt, h.marks k lt, total-set (λ u. times k u.marks) s.views id v w me);
          seen = seen;
          taken = taken;
          home = home;
        }

  pub claims : (runs : Runs T) (n id : ℕ) (m : Sat T) → n ≡ length runs → 0 < m.0.parts → m.0.nones ≡ 0 → Allows (IsKept runs) n id m 0 (λ x. (x + 1) % 2 ^ 64) (Claims (step n 0 1 0 none) m)
  claims runs n id m is part none_yet s h wide me _ =
      let v : View T = m.0 in
      let r : ℕ = get_or s.words 0 0 in
      let mine : IsSound v = h.sound id v me in
      let c : (k : ℕ) → times k v.claims ≤ total (λ u. times k u.claims) s.views = λ k. term_le (λ u. times k u.claims) s.views id v me in
      dite (dec_le n r)
      (λ le. let w : View T = with_none v in (
        w,
        keeps,
        tt,
        drew runs s h id v w me
            (record { nones = omega arith; idle = λ k e. mine.idle k e; claimed = mine.claimed; follows = mine.follows })
            refl refl refl refl refl refl (omega arith)
            (λ k lt below. same runs s h id v w me (λ u. times k u.claims) refl ∙ h.drawn k lt (omega arith))
            (λ k far. same runs s h id v w me (λ u. times k u.claims) refl ∙ h.later k (omega arith))
            (λ k far. same runs s h id v w me (λ u. times k u.claims) refl ∙ h.beyond k far),
        ((λ lt. absurd (omega arith)), λ _. refl),
      ))
      (λ lt. let w : View T = with_claim v r in
      let t : (k : ℕ) → total (λ u. times k u.claims) (set s.views id w) + times k v.claims ≡ total (λ u. times k u.claims) s.views + times k w.claims = λ k. total-set (λ u. times k u.claims) s.views id v w me in (
        w,
        keeps,
        tt,
        drew runs s h id v w me
            (record { nones = mine.nones; idle = λ k e. absurd (omega arith); claimed = λ k. dite (ℕ_discrete r k) (λ e. omega (arith, mine.claimed k, times-here k r v.claims e)) (λ ne. omega (arith, mine.claimed k, times-else k r v.claims ne)); follows = mine.follows })
            refl refl refl refl refl refl (omega arith)
            (λ k near below. dite (ℕ_discrete r k) (λ e. omega (arith, t k, times-here k r v.claims e, h.later k (omega arith))) (λ ne. omega (arith, t k, times-else k r v.claims ne, h.drawn k near (omega (arith, ne)))))
            (λ k far. omega (arith, t k, times-else k r v.claims (λ e. omega arith), h.later k (omega arith)))
            (λ k far. omega (arith, t k, times-else k r v.claims (λ e. omega arith), h.beyond k far)),
        ((λ _. (refl, after v.claims r (λ k le. omega (arith, c k, h.later k le)), omega (arith, mine.claimed r, c r, h.later r (omega arith)))), λ le. absurd (omega arith)),
      ))

  -- a step that changes no word
  unmoved : (runs : Runs T) (s : St T) → IsKept runs s → (i id : ℕ) (m : Sat T) → get_elem? s.views id ≡ some m.0 → IsKept runs (stepped s i (get_or s.words i 0) id m.1 m.0 keeps)
  unmoved runs s h i id m me =
      let v : View T = m.0 in
      let f : (g : View T → ℕ) → total g (set s.views id v) ≡ total g s.views = λ g. same runs s h id v v me g refl in
      let wordy : set s.words i (get_or s.words i 0) ≡ s.words = set-get_or s.words i 0 in
      moved runs s h id v v me (set s.words i (get_or s.words i 0)) s.homes (length-set s.words i (get_or s.words i 0)) refl (ap (λ (ws : List ℕ). get_or ws 0 0) wordy)
      (h.sound id v me) refl refl refl refl
      (λ k lt. omega (arith, ap (λ (ws : List ℕ). get_or ws (k + 1) 0) wordy))
      (λ k some-seen. omega (arith, f (λ u. times k u.seen), f (λ u. times k u.marks), h.seen k (omega (arith, f (λ u. times k u.seen)))))
      (λ k. omega (arith, f (λ u. times k u.taken), f (λ u. times k u.marks), h.taken k))
      (λ k lt no_held no_taken. subst (IsHome runs s.homes k) (sym (f (λ u. times k u.marks))) (h.home k lt (omega (arith, f (λ u. times k u.held))) (omega (arith, f (λ u. times k u.taken)))))

  pub tells : (runs : Runs T) (n id : ℕ) (m : Sat T) → n ≡ length runs → Allows (IsKept runs) n id m 0 (λ x. x) (Tells (step n 0 0 0 none) m)
  tells runs n id m is s h wide me _ = (
    m.0,
    keeps,
    tt,
    unmoved runs s h 0 id m me,
    (
      refl,
      (λ k. omega (arith, once runs s h k, term_le (λ u. times k u.claims) s.views id m.0 me)),
      λ all some-none k. let mine : total (λ u. times k u.claims) s.views ≡ times k m.0.claims = only (λ u. times k u.claims) s.views id m.0 me
          (λ j u apart e. (h.sound j u e).idle k (omega (arith, terms_le (λ x. x.parts) s.views id j m.0 u apart me e, h.parts))) in
          let past : length runs < get_or s.words 0 0 = omega (arith, h.nones, term_le (λ u. u.nones) s.views id m.0 me) in
          ((λ lt. omega (arith, h.drawn k (omega arith) (omega arith))), λ le. omega (arith, h.beyond k (omega arith))),
    ),
  )

  pub looks : (runs : Runs T) (n id : ℕ) (m : Sat T) (k : ℕ) → k < length runs → Allows (IsKept runs) n id m (k + 1) (λ x. x) (Looks (step n (k + 1) 0 0 none) m)
  looks runs n id m k near s h wide me _ =
      let v : View T = m.0 in
      let r : ℕ = get_or s.words (k + 1) 0 in
      let mine : IsSound v = h.sound id v me in
      let wordy : set s.words (k + 1) r ≡ s.words = set-get_or s.words (k + 1) 0 in
      let sure : (j : ℕ) → k + 1 ≡ j + 1 → k ≡ j = λ j e. omega arith in
      dite (ℕ_discrete r 0)
      (λ e. let w : View T = with_miss v k in
      let f : (g : View T → ℕ) → g w ≡ g v → total g (set s.views id w) ≡ total g s.views = λ g. same runs s h id v w me g in (
        w,
        keeps,
        tt,
        moved runs s h id v w me (set s.words (k + 1) r) s.homes (length-set s.words (k + 1) r) refl (ap (λ (ws : List ℕ). get_or ws 0 0) wordy)
            (record { nones = mine.nones; idle = mine.idle; claimed = mine.claimed; follows = mine.follows }) refl refl refl refl
            (λ j lt. omega (arith, ap (λ (ws : List ℕ). get_or ws (j + 1) 0) wordy))
            (λ j some-seen. omega (arith, f (λ u. times j u.seen) refl, f (λ u. times j u.marks) refl, h.seen j (omega (arith, f (λ u. times j u.seen) refl))))
            (λ j. omega (arith, f (λ u. times j u.taken) refl, f (λ u. times j u.marks) refl, h.taken j))
            (λ j lt no_held no_taken. subst (IsHome runs s.homes j) (sym (f (λ u. times j u.marks) refl)) (h.home j lt (omega (arith, f (λ u. times j u.held) refl)) (omega (arith, f (λ u. times j u.taken) refl)))),
        λ j at. ((λ _. ap (λ (x : ℕ). (with_miss v x, m.1)) (sure j at)), λ ne. absurd (ne e)),
      ))
      (λ ne. let w : View T = with_seen v k in
      let f : (g : View T → ℕ) → g w ≡ g v → total g (set s.views id w) ≡ total g s.views = λ g. same runs s h id v w me g in (
        w,
        keeps,
        tt,
        moved runs s h id v w me (set s.words (k + 1) r) s.homes (length-set s.words (k + 1) r) refl (ap (λ (ws : List ℕ). get_or ws 0 0) wordy)
            (record { nones = mine.nones; idle = mine.idle; claimed = mine.claimed; follows = mine.follows }) refl refl refl refl
            (λ j lt. omega (arith, ap (λ (ws : List ℕ). get_or ws (j + 1) 0) wordy))
            (λ j some-seen. dite (ℕ_discrete k j)
            (λ (e : k ≡ j). subst (λ (x : ℕ). 0 < total (λ u. times x u.marks) (set s.views id w)) e (omega (arith, ne, h.marks k near, f (λ u. times k u.marks) refl)))
            (λ apart. omega (arith, total-set (λ u. times j u.seen) s.views id v w me, times-else j k v.seen apart, f (λ u. times j u.marks) refl, h.seen j (omega (arith, total-set (λ u. times j u.seen) s.views id v w me, times-else j k v.seen apart)))))
            (λ j. omega (arith, f (λ u. times j u.taken) refl, f (λ u. times j u.marks) refl, h.taken j))
            (λ j lt no_held no_taken. subst (IsHome runs s.homes j) (sym (f (λ u. times j u.marks) refl)) (h.home j lt (omega (arith, f (λ u. times j u.held) refl)) (omega (arith, f (λ u. times j u.taken) refl)))),
        λ j at. ((λ e. absurd (ne e)), λ _. ap (λ (x : ℕ). (with_seen v x, m.1)) (sure j at)),
      ))

  -- the slot of a claimed chunk that is neither marked nor held is at home
  pub lifts : (runs : Runs T) (n id : ℕ) (m : Sat T) (k : ℕ) → k < length runs → 0 < times k m.0.claims → times k m.0.marks ≡ 0 → m.0.held ≡ [] → Allows (IsKept runs) n id m (k + 1) (λ x. x) (Lifts (step n (k + 1) 0 0 none) m)
  lifts runs n id m k near claimed unmarked none_held s h wide me _ =
      let v : View T = m.0 in
      let r : ℕ = get_or s.words (k + 1) 0 in
      let w : View T = with_held v k in
      let mine : IsSound v = h.sound id v me in
      let wordy : set s.words (k + 1) r ≡ s.words = set-get_or s.words (k + 1) 0 in
      let sure : (j : ℕ) → k + 1 ≡ j + 1 → k ≡ j = λ j e. omega arith in
      let f : (g : View T → ℕ) → g w ≡ g v → total g (set s.views id w) ≡ total g s.views = λ g. same runs s h id v w me g in
      let bare : times k v.held ≡ 0 = ap (times k) none_held in
      let others : total (λ u. times k u.marks + times k u.held) s.views + times k v.claims ≤ total (λ u. times k u.claims) s.views + (times k v.marks + times k v.held) =
      gap (λ u. times k u.marks + times k u.held) (λ u. times k u.claims) s.views id v me (λ j u e. (h.sound j u e).claimed k) in
      let sums = total-plus (λ u. times k u.marks) (λ u. times k u.held) s.views in
      let quiet : total (λ u. times k u.marks) s.views + total (λ u. times k u.held) s.views ≡ 0 = omega (arith, once runs s h k) in
      let there = h.home k near (omega arith) (omega (arith, h.taken k)) in
      let g : (j : ℕ) → total (λ u. times j u.held) (set s.views id w) + times j v.held ≡ total (λ u. times j u.held) s.views + times j w.held = λ j. total-set (λ u. times j u.held) s.views id v w me in (
        w,
        takes k there.0,
        there.1,
        moved runs s h id v w me (set s.words (k + 1) r) (set s.homes k none) (length-set s.words (k + 1) r) (length-set s.homes k none) (ap (λ (ws : List ℕ). get_or ws 0 0) wordy)
            (record {
              nones = mine.nones;
              idle = mine.idle;
              claimed = λ j. dite (ℕ_discrete k j)
                  (λ (e : k ≡ j). subst (λ (x : ℕ). times x v.marks + times x (k ∷ v.held) ≤ times x v.claims) e (omega (arith, times-here k k v.held refl)))
                  (λ ne. omega (arith, mine.claimed j, times-else j k v.held ne));
              follows = mine.follows;
            }) refl refl refl refl
            (λ j lt. omega (arith, ap (λ (ws : List ℕ). get_or ws (j + 1) 0) wordy))
            (λ j some-seen. omega (arith, f (λ u. times j u.seen) refl, f (λ u. times j u.marks) refl, h.seen j (omega (arith, f (λ u. times j u.seen) refl))))
            (λ j. omega (arith, f (λ u. times j u.taken) refl, f (λ u. times j u.marks) refl, h.taken j))
            (λ j lt no_held no_taken. dite (ℕ_discrete j k)
            (λ e. absurd (omega (arith, g j, times-here j k v.held (sym e))))
            (λ ne. let old = h.home j lt (omega (arith, g j)) (omega (arith, f (λ u. times j u.taken) refl)) in
            (old.0, set_else s.homes k j none ne ∙ old.1, λ some-mark. old.2 (omega (arith, f (λ u. times j u.marks) refl))))),
        λ j at. (there.0, ap (λ (x : ℕ). (with_held v x, (x, there.0) ∷ m.1)) (sure j at)),
      )

  -- the run is posted, and its slot goes home
  marks_it : (runs : Runs T) (n id : ℕ) (v : View T) (run : Run T) (xs : List (ℕ × Option (Run T))) (k : ℕ) → k < length runs → v.held ≡ k ∷ [] → IsRunOf runs k run
      → Allows (IsKept runs) n id (v, (k, Some run) ∷ xs) (k + 1) (λ _. 1) (λ _. Marks (step n (k + 1) 1 0 none) (v, (k, Some run) ∷ xs) 1)
  marks_it runs n id v run xs k near holds_it right s h wide me _ =
      let w : View T = with_mark v k [] in
      let mine : IsSound v = h.sound id v me in
      let sure : (j : ℕ) → k + 1 ≡ j + 1 → k ≡ j = λ j e. omega arith in
      let f : (g : View T → ℕ) → g w ≡ g v → total g (set s.views id w) ≡ total g s.views = λ g. same runs s h id v w me g in
      let one : (j : ℕ) → times j v.held ≡ times j (k ∷ []) = λ j. ap (times j) holds_it in
      let mk : (j : ℕ) → total (λ u. times j u.marks) (set s.views id w) + times j v.marks ≡ total (λ u. times j u.marks) s.views + times j w.marks = λ j. total-set (λ u. times j u.marks) s.views id v w me in
      let hk : (j : ℕ) → total (λ u. times j u.held) (set s.views id w) + times j v.held ≡ total (λ u. times j u.held) s.views + times j w.held = λ j. total-set (λ u. times j u.held) s.views id v w me in
      let bare : total (λ u. times k u.marks) s.views ≡ 0 = omega (arith, out runs s h k, once runs s h k, one k, times-here k k [] refl, term_le (λ u. times k u.held) s.views id v me) in
      let long : k + 1 < length s.words = omega (arith, h.words) in
      let wide' : k < length s.homes = omega (arith, h.homes) in
      let keep : (j : ℕ) → k ≢ j → (total (λ u. times j u.marks) (set s.views id w) ≡ total (λ u. times j u.marks) s.views) × (total (λ u. times j u.held) (set s.views id w) ≡ total (λ u. times j u.held) s.views) =
      λ j ne. ((omega (arith, mk j, times-else j k v.marks ne)), (omega (arith, hk j, one j, times-else j k [] ne))) in (
        w,
        gives,
        tt,
        moved runs s h id v w me (set s.words (k + 1) 1) (set s.homes k (some (Some run))) (length-set s.words (k + 1) 1) (length-set s.homes k (some (Some run))) (get_or-set_other s.words (k + 1) 0 1 0 (λ e. omega arith))
            (record {
              nones = mine.nones;
              idle = mine.idle;
              claimed = λ j. dite (ℕ_discrete k j)
                  (λ e. omega (arith, mine.claimed j, one j, times-here j k [] e, times-here j k v.marks e))
                  (λ ne. omega (arith, mine.claimed j, one j, times-else j k [] ne, times-else j k v.marks ne));
              follows = mine.follows;
            }) refl refl refl refl
            (λ j lt. dite (ℕ_discrete j k)
            (λ (e : j ≡ k). subst (λ (x : ℕ). get_or (set s.words (k + 1) 1) (x + 1) 0 + times x v.marks ≡ get_or s.words (x + 1) 0 + times x w.marks) (sym e)
            (omega (arith, get_or-set_same s.words (k + 1) 1 0 long, h.marks k near, times-here k k v.marks refl)))
            (λ ne. omega (arith, get_or-set_other s.words (k + 1) (j + 1) 1 0 (λ e. ne (omega arith)), times-else j k v.marks (λ e. ne (sym e)))))
            (λ j some-seen. dite (ℕ_discrete k j) (λ e. omega (arith, mk j, times-here j k v.marks e))
            (λ ne. omega (arith, (keep j ne).0, f (λ u. times j u.seen) refl, h.seen j (omega (arith, f (λ u. times j u.seen) refl)))))
            (λ j. dite (ℕ_discrete k j) (λ e. omega (arith, f (λ u. times j u.taken) refl, mk j, times-here j k v.marks e, h.taken j)) (λ ne. omega (arith, f (λ u. times j u.taken) refl, (keep j ne).0, h.taken j)))
            (λ j lt no_held no_taken. dite (ℕ_discrete j k)
            (λ (e : j ≡ k). subst (λ (x : ℕ). IsHome runs (set s.homes k (some (Some run))) x (total (λ u. times x u.marks) (set s.views id w))) (sym e)
            (Some run, set_here s.homes k (some (Some run)) wide', λ _. (run, refl, right)))
            (λ ne. let apart : k ≢ j = λ e. ne (sym e) in let old = h.home j lt (omega (arith, (keep j apart).1)) (omega (arith, f (λ u. times j u.taken) refl)) in
            (old.0, set_else s.homes k j (some (Some run)) ne ∙ old.1, λ some-mark. old.2 (omega (arith, (keep j apart).0))))),
        λ j at. ap (λ (x : ℕ). (with_mark v x [], xs)) (sure j at),
      )

  pub posts : (runs : Runs T) (n id : ℕ) (m : Sat T) (run : Run T) (xs : List (ℕ × Option (Run T))) (k : ℕ) → m.1 ≡ (k, Some run) ∷ xs → k < length runs → m.0.held ≡ k ∷ [] → IsRunOf runs k run
      → Allows (IsKept runs) n id m (k + 1) (λ _. 1) (λ _. Marks (step n (k + 1) 1 0 none) m 1)
  posts runs n id m run xs k is near holds_it right =
      subst (λ (c : List (ℕ × Option (Run T))). Allows (IsKept runs) n id (m.0, c) (k + 1) (λ _. 1) (λ _. Marks (step n (k + 1) 1 0 none) (m.0, c) 1)) (sym is) (marks_it runs n id m.0 run xs k near holds_it right)

  -- the slot of a chunk whose mark the committing pass found has the run
  pub fetches : (runs : Runs T) (n id : ℕ) (m : Sat T) (k : ℕ) → n ≡ length runs → k < length runs → m.0.runs ≡ runs → 0 < m.0.leads → 0 < times k m.0.seen → times k m.0.taken ≡ 0 → Allows (IsKept runs) n id m (k + 1) (λ x. x) (Takes (step n (k + 1) 0 0 none) m)
  fetches runs n id m k is near known leading found untaken s h wide me _ =
      let v : View T = m.0 in
      let r : ℕ = get_or s.words (k + 1) 0 in
      let w : View T = with_taken v k in
      let mine : IsSound v = h.sound id v me in
      let wordy : set s.words (k + 1) r ≡ s.words = set-get_or s.words (k + 1) 0 in
      let sure : (j : ℕ) → k + 1 ≡ j + 1 → k ≡ j = λ j e. omega arith in
      let f : (g : View T → ℕ) → g w ≡ g v → total g (set s.views id w) ≡ total g s.views = λ g. same runs s h id v w me g in
      let alone : (j : ℕ) → total (λ u. times j u.taken) s.views ≡ times j v.taken = λ j. only (λ u. times j u.taken) s.views id v me
      (λ i u apart e. (h.sound i u e).follows j (omega (arith, terms_le (λ x. x.leads) s.views id i v u apart me e, h.leads))) in
      let marked : 0 < total (λ u. times k u.marks) s.views = h.seen k (omega (arith, term_le (λ u. times k u.seen) s.views id v me)) in
      let free : total (λ u. times k u.held) s.views ≡ 0 = omega (arith, out runs s h k, once runs s h k) in
      let there = h.home k near free (omega (arith, alone k)) in
      let run = there.2 marked in
      let at : get_elem? s.homes k ≡ some (some (Some run.0)) = there.1 ∙ ap (λ (y : Option (Run T)). some (some y)) run.1 in
      let tk : (j : ℕ) → total (λ u. times j u.taken) (set s.views id w) + times j v.taken ≡ total (λ u. times j u.taken) s.views + times j w.taken = λ j. total-set (λ u. times j u.taken) s.views id v w me in
      let few : (j : ℕ) → total (λ u. times j u.taken) (set s.views id w) ≤ total (λ u. times j u.marks) s.views = λ j. dite (ℕ_discrete k j)
      (λ (e : k ≡ j). subst (λ (x : ℕ). total (λ u. times x u.taken) (set s.views id w) ≤ total (λ u. times x u.marks) s.views) e (omega (arith, tk k, times-here k k v.taken refl, alone k)))
      (λ ne. omega (arith, tk j, times-else j k v.taken ne, h.taken j)) in
      let mineless : (j : ℕ) → times j w.taken ≤ total (λ u. times j u.claims) s.views = λ j. omega (arith, tk j, alone j, few j, out runs s h j) in
      let count : length w.taken ≤ length runs = fits (length runs) w.taken (λ j. omega (arith, mineless j, once runs s h j)) (λ j le. omega (arith, mineless j, h.beyond j le)) in (
        w,
        takes k (Some run.0),
        at,
        moved runs s h id v w me (set s.words (k + 1) r) (set s.homes k none) (length-set s.words (k + 1) r) (length-set s.homes k none) (ap (λ (ws : List ℕ). get_or ws 0 0) wordy)
            (record { nones = mine.nones; idle = mine.idle; claimed = mine.claimed; follows = λ j e. absurd (omega arith) }) refl refl refl refl
            (λ j lt. omega (arith, ap (λ (ws : List ℕ). get_or ws (j + 1) 0) wordy))
            (λ j some-seen. omega (arith, f (λ u. times j u.seen) refl, f (λ u. times j u.marks) refl, h.seen j (omega (arith, f (λ u. times j u.seen) refl))))
            (λ j. omega (arith, few j, f (λ u. times j u.marks) refl))
            (λ j lt no_held no_taken. dite (ℕ_discrete j k)
            (λ e. absurd (omega (arith, tk j, times-here j k v.taken (sym e))))
            (λ ne. let old = h.home j lt (omega (arith, f (λ u. times j u.held) refl)) (omega (arith, tk j, times-else j k v.taken (λ e. ne (sym e)))) in
            (old.0, set_else s.homes k j none ne ∙ old.1, λ some-mark. old.2 (omega (arith, f (λ u. times j u.marks) refl))))),
        λ j e. let same_j : k ≡ j = sure j e in (
          run.0,
          subst (λ (x : ℕ). get_elem? m.0.runs x ≡ some (run.0.chunk, run.0.entries.items)) same_j (ap (λ (x : Runs T). get_elem? x k) known ∙ run.2),
          ap (λ (x : ℕ). (with_taken v x, (x, Some run.0) ∷ m.1)) same_j,
          omega (arith, count),
        ),
      )

  pub splits : (runs : Runs T) (id : ℕ) (v : View T) → 1 < v.parts → v.nones ≡ 0 → Splits (IsKept runs) id v (kept_part v) (cut_part v)
  splits runs id v part fresh s h me =
      let l : View T = kept_part v in let r : View T = cut_part v in let vs : List (View T) = set s.views id l in
      let mine : IsSound v = h.sound id v me in
      let f : (g : View T → ℕ) → g l + g r ≡ g v → total g (vs ++ r ∷ []) ≡ total g s.views = λ g e. omega (arith, total-append g vs (r ∷ []), total-set g s.views id v l me) in
      let sound_l : IsSound l = record { nones = omega (arith, mine.nones); idle = λ k e. absurd (omega arith); claimed = mine.claimed; follows = mine.follows } in
      let sound_r : IsSound r = record { nones = omega arith; idle = λ k e. refl; claimed = λ k. omega arith; follows = λ k e. refl } in
      record {
        few = h.few;
        words = h.words;
        homes = h.homes;
        sound = λ i u e. ⊎_elim (λ t. sound_set runs s h id l sound_l i u t) (λ t. subst IsSound t sound_r) (at_snoc vs r u i e);
        parts = f (λ u. u.parts) (omega arith) ∙ h.parts;
        leads = f (λ u. u.leads) (omega arith) ∙ h.leads;
        nones = f (λ u. u.nones) (omega arith) ∙ h.nones;
        drawn = λ k lt below. f (λ u. times k u.claims) (omega arith) ∙ h.drawn k lt below;
        later = λ k le. f (λ u. times k u.claims) (omega arith) ∙ h.later k le;
        beyond = λ k le. f (λ u. times k u.claims) (omega arith) ∙ h.beyond k le;
        marks = λ k lt. h.marks k lt ∙ sym (f (λ u. times k u.marks) (omega arith));
        seen = λ k some-seen. omega (arith, f (λ u. times k u.marks) (omega arith), h.seen k (omega (arith, f (λ u. times k u.seen) (omega arith))));
        taken = λ k. omega (arith, h.taken k, f (λ u. times k u.taken) (omega arith), f (λ u. times k u.marks) (omega arith));
        home = λ k lt no_held no_taken. subst (IsHome runs s.homes k) (sym (f (λ u. times k u.marks) (omega arith))) (h.home k lt (omega (arith, f (λ u. times k u.held) (omega arith))) (omega (arith, f (λ u. times k u.taken) (omega arith))));
      }

  pub joins : (runs : Runs T) (id : ℕ) (v : View T) (other : ℕ) (w : View T) → 0 < v.parts → w.leads ≡ 0 → Joins (IsKept runs) id v other w (both_views v w) spent_view
  joins runs id v other w part second s h me apart at =
      let b : View T = both_views v w in let z : View T = spent_view in let vs : List (View T) = set s.views id b in
      let mine : IsSound v = h.sound id v me in
      let at' : get_elem? s.views other ≡ some w = ⊎_elim (λ t. absurd (apart t.0)) (λ t. t.1) (at_set s.views id other b w at) in
      let theirs : IsSound w = h.sound other w at' in
      let f : (g : View T → ℕ) → g b + g z ≡ g v + g w → total g (set vs other z) ≡ total g s.views = λ g e. omega (arith, total-set g vs other w z at, total-set g s.views id v b me) in
      let ts : (k : ℕ) → total (λ u. times k u.taken) (set vs other z) ≡ total (λ u. times k u.taken) s.views = λ k. f (λ u. times k u.taken) (omega (arith, theirs.follows k second)) in
      let cs : (k : ℕ) → total (λ u. times k u.claims) (set vs other z) ≡ total (λ u. times k u.claims) s.views = λ k. f (λ u. times k u.claims) (omega (arith, times-append k v.claims w.claims)) in
      let ms : (k : ℕ) → total (λ u. times k u.marks) (set vs other z) ≡ total (λ u. times k u.marks) s.views = λ k. f (λ u. times k u.marks) (omega (arith, times-append k v.marks w.marks)) in
      let ss : (k : ℕ) → total (λ u. times k u.seen) (set vs other z) ≡ total (λ u. times k u.seen) s.views = λ k. f (λ u. times k u.seen) (omega (arith, times-append k v.seen w.seen)) in
      let hs : (k : ℕ) → total (λ u. times k u.held) (set vs other z) ≡ total (λ u. times k u.held) s.views = λ k. f (λ u. times k u.held) (omega (arith, times-append k v.held w.held)) in
      let sound_b : IsSound b = record { nones = omega (arith, mine.nones, theirs.nones); idle = λ k e. absurd (omega arith); claimed = λ k. omega (arith, mine.claimed k, theirs.claimed k, times-append k v.claims w.claims, times-append k v.marks w.marks, times-append k v.held w.held); follows = mine.follows } in
      let sound_z : IsSound z = record { nones = omega arith; idle = λ k e. refl; claimed = λ k. omega arith; follows = λ k e. refl } in
      record {
        few = h.few;
        words = h.words;
        homes = h.homes;
        sound = λ i u e. ⊎_elim (λ t. subst IsSound t.1 sound_z) (λ t. sound_set runs s h id b sound_b i u t.1) (at_set vs other i z u e);
        parts = f (λ u. u.parts) (omega arith) ∙ h.parts;
        leads = f (λ u. u.leads) (omega arith) ∙ h.leads;
        nones = f (λ u. u.nones) (omega arith) ∙ h.nones;
        drawn = λ k lt below. cs k ∙ h.drawn k lt below;
        later = λ k le. cs k ∙ h.later k le;
        beyond = λ k le. cs k ∙ h.beyond k le;
        marks = λ k lt. h.marks k lt ∙ sym (ms k);
        seen = λ k some-seen. omega (arith, ms k, h.seen k (omega (arith, ss k)));
        taken = λ k. omega (arith, h.taken k, ts k, ms k);
        home = λ k lt no_held no_taken. subst (IsHome runs s.homes k) (sym (ms k)) (h.home k lt (omega (arith, hs k)) (omega (arith, ts k)));
      }

  pub opens : (runs : Runs T) (ws : List ℕ) (n : ℕ) → n ≡ length runs → length runs < 2 ^ 32 → ws ≡ zeros (n + 1) → IsKept runs (opening ws (replicate n None) (opening_view runs))
  opens runs ws n is few words =
      let v : View T = opening_view runs in
      let z : (i : ℕ) → get_or ws i 0 ≡ 0 = λ i. ap (λ (l : List ℕ). get_or l i 0) words ∙ zero_at (n + 1) i in
      let xs : List (Option (Run T)) = replicate n None in
      let long : length xs ≡ n = length-replicate n None in
      record {
        few = few;
        words = omega (arith, ap (λ (l : List ℕ). length l) words, length-replicate {A = ℕ} (n + 1) 0);
        homes = length-map xs some ∙ (long ∙ is);
        sound = λ i u e. ⊎_elim (λ t. absurd (some-ne-none u (sym t))) (λ t. subst IsSound t (record { nones = omega arith; idle = λ k h. refl; claimed = λ k. omega arith; follows = λ k h. refl })) (at_snoc [] v u i e);
        parts = refl;
        leads = refl;
        nones = omega (arith, z 0);
        drawn = λ k lt below. absurd (omega (arith, z 0));
        later = λ k le. refl;
        beyond = λ k le. refl;
        marks = λ k lt. z (k + 1);
        seen = λ k h. absurd (omega arith);
        taken = λ k. omega arith;
        home = λ k lt no_held no_taken. let at = some_there xs k (omega arith) in (at.0, at.1, λ h. absurd (omega arith));
      }

-- a board has as many runs as chunks
pub long : {S X T : Type 0} (scanned : S → X → Chunk → List (Entry T)) (e : Expected S X) (ps : List Chunk) (n : ℕ) → e.chunks.value.items ≡ ps → n ≡ length ps → n ≡ length (runs_by scanned e)
long scanned e ps n same_list is = is ∙ (ap (λ (l : List Chunk). length l) (sym same_list) ∙ sym (length-map e.chunks.value.items (λ p. (p, scanned e.syntax.value e.texts.value p))))
