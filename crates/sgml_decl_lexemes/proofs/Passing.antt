-- What is read when separators were passed.
use Rattle.std.proofs.Common.{◌≡◌, ℕ, zero, suc, ◌+◌, ◌<◌, ◌≤◌, Bool, true, false, List, [], ◌∷◌, length, Option, None, Some, Ok, refl, sym, ◌∙◌, ap, subst, if◌then◌else◌, ◌==◌, eqb-true, arith}
use Rattle.std.proofs.lemmas.List.Sums.{prefix_len-le-length}
use Rattle.std.specs.List.{prefix_len}
use Rattle.sgml_text.specs.declared.name_set.NameSet.{NameSet}
use Rattle.sgml_text.specs.Characters.{is_separator, is_quote}
use Rattle.sgml_entity.specs.Stack.{Stack}
use Rattle.sgml_decl_parts.specs.declared.part.Here.{Here}
use Rattle.sgml_decl_parts.specs.declared.part.Opened.{Opened}
use Rattle.sgml_decl_parts.specs.declared.part.Part.TheVariants.{Gap, Quote}
use Rattle.sgml_decl_parts.specs.Parts.{common_at, closing_at, minus_at, outer_sign, inner_at, outer_at, part_at}
use Rattle.sgml_decl_lexemes.specs.Sources.{Source}
use Rattle.sgml_decl_lexemes.specs.Readings.{State, Goes, ahead, here, passed, read_as, gap_at, past_gap, past_separators}
use Rattle.sgml_decl_lexemes.specs.Reads.{left}
use Rattle.sgml_decl_lexemes.proofs.Going.{SoFar, goes-on, goes-less}

-- a byte that is no separator
no-separator : (b n : ℕ) → is_separator b ≡ true → is_separator n ≡ false → (b == n) ≡ false
no-separator b n is other = by (b == n) refl
  where
    clash : true ≡ false → ⊥
    clash e = cc

    by : (t : Bool) → (b == n) ≡ t → t ≡ false
    by true same = absurd (clash (sym is ∙ ap is_separator (eqb-true b n same) ∙ other))
    by false e = refl

-- separators are a gap in both modes
inner-gap : (names : NameSet) (b : ℕ) (bytes : List ℕ) → is_separator b ≡ true → inner_at names b bytes ≡ Ok (Gap (1 + prefix_len is_separator bytes))
inner-gap names b bytes is = rw (no-separator b 45 is refl, is) refl

none-of : {A : Type 0} (p q r : Bool) (v w x o : A) → p ≡ false → q ≡ false → r ≡ false → (if p then v else if q then w else if r then x else o) ≡ o
none-of p q r v w x o e f g = rw (e, f, g) refl

no-quote : (b : ℕ) → is_separator b ≡ true → is_quote b ≡ false
no-quote b is = rw (no-separator b 34 is refl, no-separator b 39 is refl) refl

outer-gap : (names : NameSet) (base after_group : Bool) (b : ℕ) (bytes : List ℕ) → is_separator b ≡ true → outer_at names base after_group b bytes ≡ Ok (Gap (1 + prefix_len is_separator bytes))
outer-gap names base after_group b bytes is =
    none-of (b == 45) (is_quote b) (b == 62) (minus_at bytes) (Ok (Quote b)) (closing_at base bytes) (common_at names (outer_sign after_group b) b bytes)
    (no-separator b 45 is refl) (no-quote b is) (no-separator b 62 is refl)
    ∙ rw is refl

in-mode : (names : NameSet) (h : Here) (b : ℕ) (bytes : List ℕ) (t : Bool) → is_separator b ≡ true
    → (if t then inner_at names b bytes else outer_at names h.at_base h.after_group b bytes) ≡ Ok (Gap (1 + prefix_len is_separator bytes))
in-mode names h b bytes true is = inner-gap names b bytes is
in-mode names h b bytes false is = outer-gap names h.at_base h.after_group b bytes is

gap-found : (names : NameSet) (fold : Bool) (h : Here) (bytes : List ℕ) (n : ℕ) → h.literal ≡ None → prefix_len is_separator bytes ≡ suc n → part_at names fold h bytes ≡ Ok (Gap (suc n))
gap-found names fold h [] n none is = cc is
gap-found names fold h (b ∷ bytes) n none is = by (is_separator b) refl
  where
    by : (t : Bool) → is_separator b ≡ t → part_at names fold h (b ∷ bytes) ≡ Ok (Gap (suc n))
    by true sep = rw none (in-mode names h b bytes h.in_group sep ∙ ap (λ (k : ℕ). Ok (Gap k)) (rw sep at is))
    by false other = cc (rw other at is)

-- one part of them
gap-goes : (I : Source) (t : State) (n : ℕ) → t.reading.literal ≡ None → prefix_len is_separator (ahead I t) ≡ suc n → Goes I t false (read_as (passed t.reading) (suc n) t)
gap-goes I t n none is =
    let few : prefix_len is_separator (ahead I t) ≤ length (ahead I t) = prefix_len-le-length is_separator (ahead I t) in record {
      part = Gap (suc n);
      fits = omega arith;
      within = omega (arith, few, is);
      found = gap-found I.syntax.names I.syntax.general_fold (here I t) (ahead I t) n none is;
      goes = refl;
      reading_is = refl;
      stack_is = refl;
      done_is = refl;
    }

-- what was read so far, and what is left
record Past (I : Source) (s : Stack) (t u : State) : Type 0 where
  pub so_far : SoFar I s u
  pub few : left I u.stack ≤ left I t.stack

past-none : (I : Source) (s : Stack) (t : State) → SoFar I s t → Past I s t t
past-none I s t h = record { so_far = h; few = omega arith }

past-some : (I : Source) (s : Stack) (t : State) (n : ℕ) → SoFar I s t → t.reading.literal ≡ None → prefix_len is_separator (ahead I t) ≡ n → Past I s t (past_gap n t)
past-some I s t zero h none is = past-none I s t h
past-some I s t (suc n) h none is =
    let g = gap-goes I t n none is in
    let less = goes-less I s t (read_as (passed t.reading) (suc n) t) false h.height_is h.on_top g in record {
      so_far = goes-on I s t (read_as (passed t.reading) (suc n) t) h g;
      few = omega (arith, less);
    }

past-by : (I : Source) (s : Stack) (t : State) (o : Option Opened) → t.reading.literal ≡ o → SoFar I s t → Past I s t (past_gap (gap_at o (ahead I t)) t)
past-by I s t None none h = past-some I s t (prefix_len is_separator (ahead I t)) h none refl
past-by I s t (Some o) is h = past-none I s t h

past : (I : Source) (s : Stack) (t u : State) → SoFar I s t → u ≡ past_separators I t → Past I s t u
past I s t u h is = subst (Past I s t) (sym is) (past-by I s t t.reading.literal refl h)

pub so_far_past : (I : Source) (s : Stack) (t u : State) → SoFar I s t → u ≡ past_separators I t → SoFar I s u
so_far_past I s t u h is = (past I s t u h is).so_far

pub less_past : (I : Source) (s : Stack) (t u next : State) → SoFar I s t → u ≡ past_separators I t → Goes I u false next → left I next.stack < left I t.stack
less_past I s t u next h is g =
    let p = past I s t u h is in
    let so_far = p.so_far in
    let few : left I u.stack ≤ left I t.stack = p.few in
    let less : left I next.stack < left I u.stack = goes-less I s u next false so_far.height_is so_far.on_top g in
    omega (arith, few, less)
