-- Whether a document type ends whose end was read over, and why it doesn't.
use Rattle.std.proofs.Common.{◌≡◌, ℕ, Bool, true, false, List, Option, Some, None, Ok, Err, length, refl, sym, ◌∙◌, ap, subst, if◌then◌else◌}
use Rattle.std.specs.Prelude.{is_some, reverse}
use Rattle.std.specs.Option.{option_or}
use Rattle.sgml_text.specs.declared.reason.Reason.{Reason}
use Rattle.sgml_text.specs.declared.reason.Reason.TheVariants as reason
use Rattle.sgml_entity.specs.Stack.{Stack}
use Rattle.sgml_marked.specs.Opened.{is_open_at}
use Rattle.sgml_dtd.specs.Rows.{final_reason}
use Rattle.sgml_declared.specs.theory_reading.Names.{Text}
use Rattle.sgml_declared.specs.theory_reading.Facets.{ExternalSubset, subset_number}
use Rattle.sgml_declared.specs.theory_reading.Unread.{Outside}
use Rattle.sgml_declared.specs.theory_spelling.Stacked.{Stacked}
use Rattle.sgml_declared.specs.theory_spelling.Places.{in_section}
use Rattle.sgml_declared.specs.theory_spelling.References.{unopened_subset, subset_unopened}
use Rattle.sgml_declared.specs.theory_spelling.Prolog.{end_reason, at_type_end}
use Rattle.sgml_declared.specs.theory_standing.Kept.{Kept, sources_of}
use Rattle.sgml_declared.specs.theory_standing.Prologs.{state_in_prolog}
use Rattle.sgml_declared.specs.Files.{Choices}
use Rattle.sgml_declared.specs.Opening.{unopened_of, Opens}
use Rattle.sgml_declared.specs.declared.opening.OpenError.{OpenError}
use Rattle.sgml_declared.specs.declared.opening.OpenError.TheVariants as opening
use Rattle.sgml_declared.proofs.Opened.{subsets-are-opened, wanted-are-missing}
use Rattle.sgml_prolog_steps.specs.Standing.{IsKept}
use Rattle.sgml_prolog_steps.specs.declared.stepping.Stop.TheVariants as stop
use Rattle.sgml_prolog_steps.proofs.Closing.{sections-open}
use Rattle.sgml_prolog_steps.proofs.Referring.{wanting-step}
use Rattle.sgml_prolog.specs.Ending.{EndsType}

never : true ≡ false → ⊥
never e = cc

-- THE ROWS
abbrev rows_after : Kept → Bool → Option Reason
rows_after k b = if b then Some reason.SectionOpen else if is_some k.subset then None else at_type_end k.doctype

reason-first : (outside : Outside) (k : Kept) (t : Stacked) (r : Reason) → subset_unopened outside (sources_of k) t ≡ Some r → end_reason outside (state_in_prolog k) t ≡ Some r
unfolding state_in_prolog
reason-first outside k t r e = ap (λ o. option_or o (rows_after k (in_section (length k.stack.places) (reverse k.sections)))) e

reason-second : (outside : Outside) (k : Kept) (t : Stacked) (b : Bool) → IsKept k → length k.stack.places ≡ 1 → subset_unopened outside (sources_of k) t ≡ None → is_open_at 1 k.sections ≡ b
    → end_reason outside (state_in_prolog k) t ≡ rows_after k b
unfolding state_in_prolog
reason-second outside k t b h one e is =
    let open_is = sections-open k h ∙ (ap (λ n. is_open_at n k.sections) one ∙ is) in
    λ i. option_or (e i) (rows_after k (open_is i))

-- WITH AN EXTERNAL SUBSET
some-of : {A : Type 0} (o : Option A) → is_some o ≡ true → (a : A) × (o ≡ Some a)
some-of None e = absurd (never (sym e))
some-of (Some a) e = (a, refl)

unopened-is : (outside : Outside) (k : Kept) (t : Stacked) → is_some k.subset ≡ true → subset_unopened outside (sources_of k) t ≡ unopened_of outside (sources_of k) t subset_number
unopened-is outside k t e = let s = some-of k.subset e in subsets-are-opened outside (sources_of k) t s.0 s.1

pub subset-refused : (c : Choices) (texts : List (ℕ × Text)) (k : Kept) (s : Stack) (r : Reason) (f : OpenError) → is_some k.subset ≡ true → f ≡ opening.Refused r
    → Opens c (sources_of k) texts k.stack s subset_number (Err f) → EndsType c texts k (Err (stop.Refused r))
subset-refused c texts k s r f some is opens outside t o supplied shows =
    let opens' = subst (λ z. Opens c (sources_of k) texts k.stack s subset_number (Err z)) is opens in
    reason-first outside k t r (unopened-is outside k t some ∙ opens' outside t o (supplied some) shows)

pub subset-wanted : (c : Choices) (texts : List (ℕ × Text)) (k : Kept) (s : Stack) (file : Text) (f : OpenError) → is_some k.subset ≡ true → f ≡ opening.Wanted file
    → Opens c (sources_of k) texts k.stack s subset_number (Err f) → EndsType c texts k (Err (stop.Wanted subset_number file))
subset-wanted c texts k s file f some is opens outside t o supplied shows =
    let opens' = subst (λ z. Opens c (sources_of k) texts k.stack s subset_number (Err z)) is opens in
    let w = opens' outside t o (supplied some) shows in record {
      subset = refl;
      absent = wanting-step k texts subset_number w.absent;
      named = w.named;
      missing = λ r m. reason-first outside k t r
          (unopened-is outside k t some ∙ wanted-are-missing c (sources_of k) texts k.stack s subset_number file outside t r opens' o (supplied some) shows m);
    }

subset-rows : (c : Choices) (texts : List (ℕ × Text)) (k : Kept) (s : Stack) (b : Bool) → IsKept k → length k.stack.places ≡ 1 → is_some k.subset ≡ true
    → Opens c (sources_of k) texts k.stack s subset_number (Ok tt) → is_open_at 1 k.sections ≡ b → EndsType c texts k (if b then Err (stop.Refused reason.SectionOpen) else Ok tt)
subset-rows c texts k s true h one some opens is outside t o supplied shows =
    reason-second outside k t true h one (unopened-is outside k t some ∙ (opens outside t o (supplied some) shows).allowed) is
subset-rows c texts k s false h one some opens is outside t o supplied shows =
    reason-second outside k t false h one (unopened-is outside k t some ∙ (opens outside t o (supplied some) shows).allowed) is
    ∙ ap (λ b. if b then None else at_type_end k.doctype) some

pub subset-open-section : (c : Choices) (texts : List (ℕ × Text)) (k mid : Kept) → IsKept k → length k.stack.places ≡ 1 → is_some k.subset ≡ true
    → Opens c (sources_of k) texts k.stack mid.stack subset_number (Ok tt) → mid ≡ record k { stack = mid.stack } → is_open_at 1 mid.sections ≡ true
    → EndsType c texts k (Err (stop.Refused reason.SectionOpen))
subset-open-section c texts k mid h one some opens same is = subset-rows c texts k mid.stack true h one some opens (sym (ap (λ (z : Kept). is_open_at 1 z.sections) same) ∙ is)

pub subset-ends : (c : Choices) (texts : List (ℕ × Text)) (k mid : Kept) → IsKept k → length k.stack.places ≡ 1 → is_some k.subset ≡ true
    → Opens c (sources_of k) texts k.stack mid.stack subset_number (Ok tt) → mid ≡ record k { stack = mid.stack } → is_open_at 1 mid.sections ≡ false
    → EndsType c texts k (Ok tt)
subset-ends c texts k mid h one some opens same is = subset-rows c texts k mid.stack false h one some opens (sym (ap (λ (z : Kept). is_open_at 1 z.sections) same) ∙ is)

-- WITHOUT ONE
unnamed : (outside : Outside) (k : Kept) (t : Stacked) → is_some k.subset ≡ false → subset_unopened outside (sources_of k) t ≡ None
unfolding subset_unopened
unnamed outside k t e = by k.subset e
  where
    by : (o : Option ExternalSubset) → is_some o ≡ false → unopened_subset outside (sources_of k) t o ≡ None
    by None e = refl
    by (Some subset) e = absurd (never e)

pub alone-open-section : (k : Kept) → IsKept k → length k.stack.places ≡ 1 → is_some k.subset ≡ false → is_open_at 1 k.sections ≡ true
    → (c : Choices) (texts : List (ℕ × Text)) → EndsType c texts k (Err (stop.Refused reason.SectionOpen))
alone-open-section k h one none is c texts outside t o supplied shows = reason-second outside k t true h one (unnamed outside k t none) is

alone-judged : (outside : Outside) (k : Kept) (t : Stacked) → IsKept k → length k.stack.places ≡ 1 → is_some k.subset ≡ false → is_open_at 1 k.sections ≡ false
    → end_reason outside (state_in_prolog k) t ≡ final_reason k.doctype
unfolding at_type_end
alone-judged outside k t h one none is =
    reason-second outside k t false h one (unnamed outside k t none) is ∙ ap (λ b. if b then None else at_type_end k.doctype) none

pub alone-refused : (k : Kept) (r : Reason) → IsKept k → length k.stack.places ≡ 1 → is_some k.subset ≡ false → is_open_at 1 k.sections ≡ false → final_reason k.doctype ≡ Some r
    → (c : Choices) (texts : List (ℕ × Text)) → EndsType c texts k (Err (stop.Refused r))
alone-refused k r h one none is w c texts outside t o supplied shows = alone-judged outside k t h one none is ∙ w

pub alone-ends : (k : Kept) → IsKept k → length k.stack.places ≡ 1 → is_some k.subset ≡ false → is_open_at 1 k.sections ≡ false → final_reason k.doctype ≡ None
    → (c : Choices) (texts : List (ℕ × Text)) → EndsType c texts k (Ok tt)
alone-ends k h one none is w c texts outside t o supplied shows = alone-judged outside k t h one none is ∙ w
