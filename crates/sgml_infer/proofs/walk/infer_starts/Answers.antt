use Rattle.std.proofs.Common.{◌≡◌, ◌+◌, ◌∷◌, [], ℕ, List, All, sym, ap, ◌∙◌, subst, arith, length, length-append}
use Rattle.std.proofs.lemmas.List.Elements.{All-push}
use Rattle.sgml_theory_reading.specs.Omission.{StartMayStand}
use Rattle.sgml_infer.specs.Tables.{name_at, IsNumber}
use Rattle.sgml_infer.specs.Seen.{seen_with, IsLastFresh}
use Rattle.sgml_infer.specs.Visibles.{kind_of, IsFit}
use Rattle.sgml_infer.proofs.Running.{starts-run, starts-none, starts-room, starts-content, starts-fresh, starts-whole}
use Rattle.sgml_infer.proofs.walk.infer_starts.Goals as goal

pub omissible_start-requires-clause-standing : goal.omissible_start-requires-clause-standing
omissible_start-requires-clause-standing c =
    let t = c.args.dtd.now in let v = c.starts.invariant in
    record {
      distinct = c.requires.distinct;
      levels = c.requires.levels;
      linked = c.requires.linked;
      starts = subst (All (IsNumber t)) (sym c.deref.ensures.value) v.numbers;
      fresh = subst (λ (ns : List ℕ). IsLastFresh t ns c.starts.fresh) (sym c.deref.ensures.value) v.fresh;
      room = v.room;
      steps = c.requires.steps;
      known = c.requires.known;
    }

pub fit-fit-requires-clause-standing : goal.fit-fit-requires-clause-standing
fit-fit-requires-clause-standing c =
    let t = c.args.dtd.now in let ns = c.starts.starts.items in let n = c.in-Some.element in let all = c.push_reserved.new.self.items in
    let numbers : All (IsNumber t) all = subst (All (IsNumber t)) (sym c.push_reserved.ensures.items) (All-push (IsNumber t) ns n c.starts.invariant.numbers c.in-Some.ensures.number) in
    let fresh : IsLastFresh t all c.restart.new.state = starts-fresh t ns all n c.restart.new.state c.push_reserved.ensures.items c.restart.ensures.fresh in
    record {
      distinct = c.requires.distinct;
      levels = c.requires.levels;
      linked = c.requires.linked;
      starts = subst (All (IsNumber t)) (sym c.deref-in-Some.ensures.value) numbers;
      fresh = subst (λ (js : List ℕ). IsLastFresh t js c.restart.new.state) (sym c.deref-in-Some.ensures.value) fresh;
      room = c.restart.ensures.room;
      steps = c.requires.steps;
      known = c.requires.known;
    }

pub push_reserved-requires : goal.push_reserved-requires
push_reserved-requires c =
    let t = c.args.dtd.now in let ls = c.args.levels.now in let b = c.args.begun in let v = c.args.visible in
    let m : StartMayStand (seen_with t ls b c.starts.starts.items) (name_at t c.in-Some.element) (kind_of t v) =
    subst (λ (ns : List ℕ). StartMayStand (seen_with t ls b ns) (name_at t c.in-Some.element) (kind_of t v)) c.deref.ensures.value c.in-Some.ensures.may in
    let r = starts-room t ls b v c.starts.starts.items c.in-Some.element m in
    let f = c.starts.invariant.capacity in
    omega (arith, r, f, c.starts.starts.ok)

pub starts-smaller : goal.starts-smaller
starts-smaller c =
    let t = c.args.dtd.now in let ls = c.args.levels.now in let b = c.args.begun in let v = c.args.visible in
    let m : StartMayStand (seen_with t ls b c.starts.starts.items) (name_at t c.in-Some.element) (kind_of t v) =
    subst (λ (ns : List ℕ). StartMayStand (seen_with t ls b ns) (name_at t c.in-Some.element) (kind_of t v)) c.deref.ensures.value c.in-Some.ensures.may in
    let r = starts-room t ls b v c.starts.starts.items c.in-Some.element m in
    let e : length c.push_reserved.new.self.items ≡ length c.starts.starts.items + 1 = ap length c.push_reserved.ensures.items ∙ length-append c.starts.starts.items (c.in-Some.element ∷ []) in
    omega (arith, r, e)

pub starts-preserved : goal.starts-preserved
starts-preserved c =
    let t = c.args.dtd.now in let ls = c.args.levels.now in let b = c.args.begun in let v = c.args.visible in let ns = c.starts.starts.items in let n = c.in-Some.element in
    let all = c.push_reserved.new.self.items in
    let m : StartMayStand (seen_with t ls b ns) (name_at t n) (kind_of t v) =
    subst (λ (js : List ℕ). StartMayStand (seen_with t ls b js) (name_at t n) (kind_of t v)) c.deref.ensures.value c.in-Some.ensures.may in
    let r = starts-room t ls b v ns n m in
    let e : length all ≡ length ns + 1 = ap length c.push_reserved.ensures.items ∙ length-append ns (n ∷ []) in
    record {
      run = starts-run t ls b v ns n m c.starts.invariant.run all c.push_reserved.ensures.items;
      fit = subst (λ (js : List ℕ). IsFit (seen_with t ls b js) (kind_of t v) c.fit-fit.result) c.deref-in-Some.ensures.value c.fit-fit.ensures;
      none = starts-none t ls b v ns n m all c.push_reserved.ensures.items;
      within = omega (arith, r, e);
      numbers = subst (All (IsNumber t)) (sym c.push_reserved.ensures.items) (All-push (IsNumber t) ns n c.starts.invariant.numbers c.in-Some.ensures.number);
      content = λ h. starts-content t ls b v ns n m h;
      fresh = starts-fresh t ns all n c.restart.new.state c.push_reserved.ensures.items c.restart.ensures.fresh;
      room = c.restart.ensures.room;
      capacity = c.push_reserved.ensures.capacity ∙ c.starts.invariant.capacity;
    }

pub returns-clause-run : goal.returns-clause-run
returns-clause-run c =
    let t = c.args.dtd.now in let ls = c.args.levels.now in let b = c.args.begun in let v = c.args.visible in let ns = c.starts.starts.items in
    starts-whole t ls b (kind_of t v) ns c.starts.invariant.run c.starts.invariant.none
    (λ n m. c.in_default.ensures.may n (subst (λ (js : List ℕ). StartMayStand (seen_with t ls b js) n (kind_of t v)) (sym c.deref.ensures.value) m))
