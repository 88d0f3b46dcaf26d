-- Where a start may be left out, and what is said of the element that must come next.
use Rattle.std.specs.Prelude.{nat_le, MatchBool}
use Rattle.std.proofs.Common.{◌≡◌, ℕ, ◌<◌, ◌≤◌, Bool, true, false, not, ◌&&◌, ◌||◌, IsTrue, Some, None, is_some, List, sym, ap, ◌∙◌, subst, arith}
use Rattle.std.specs.List.{list_any}
use Rattle.sgml_automaton.specs.model.Term.{required}
use Rattle.sgml_automaton.specs.declared.state.ModelState.{ModelState}
use Rattle.sgml_dtd_elements.specs.Types.{ElementType, number_of}
use Rattle.sgml_dtd.specs.Doctypes.{Doctype, definitions_for}
use Rattle.sgml_theory_reading.specs.Names.{Name}
use Rattle.sgml_theory_reading.specs.Types.{element_type, type_of, is_declared, has_required, has_declared_content, is_required, content_of}
use Rattle.sgml_theory_reading.proofs.FirstDeclared.{element-type-is}
use Rattle.sgml_theory_reading.specs.Pieces.{Kind}
use Rattle.sgml_theory_reading.specs.Facets.{token}
use Rattle.sgml_theory_reading.specs.Context.{Level}
use Rattle.sgml_theory_reading.specs.Omission.{StartMayStand, EndMayStand, left_of, finished, misfits, leaves, innermost_is, is_excluded, depth}
use Rattle.sgml_theory_reading.specs.Reasons.{cannot_be_required, start_is_omissible, has_reason_to_be_written, is_full}
use Rattle.sgml_infer.specs.Tables.{name_at, type_at}
use Rattle.sgml_infer.specs.declared.standing.Standing.{Standing}
use Rattle.sgml_infer.specs.Seen.{seen, SomeEndMayStand, NoEndMayStand, IsStanding, IsInner}
use Rattle.sgml_infer.proofs.Contents.{number-within, name-found, said-found, none-found, required-found}
use Rattle.sgml_infer.proofs.Points.{seen-doctype}
use Rattle.sgml_infer.proofs.Declared.{is-declared, said-of}
use Rattle.sgml_infer.proofs.Numbers.{number-named, same-bytes, own-bytes}

not-both-values : (b : Bool) → b ≡ true → b ≡ false → ⊥
not-both-values b p q = let z : true ≡ false = sym p ∙ q in absurd (cc)

module _ (s : Standing) (w : IsStanding s) (name : Name) (x : Kind) (r : required (left_of (seen s)) ≡ Some name) where
  abbrev own : Doctype
  own = s.dtd.now

  moved : (f : Doctype → Name → Bool) (n : Name) (b : Bool) → StartMayStand (seen s) n x → f (seen s).doctype n ≡ b → f own name ≡ b
  moved f n b m h =
      let e : Some name ≡ Some n = sym r ∙ m.is_required in
      let g : name ≡ n = cc in
      ap (f own) g ∙ (ap (λ (d : Doctype). f d n) (sym (seen-doctype s w)) ∙ h)

  pub not-declared : number_of s.dtd.now.elements name ≡ None → (n : Name) → StartMayStand (seen s) n x → ⊥
  not-declared h n m =
      let e : is_some (element_type own name) ≡ true = moved (λ d k. is_declared d k) n true m m.declared in
      let f : is_some (element_type own name) ≡ false = ap is_some (none-found s.dtd.now name h) in
      not-both-values (is_some (element_type own name)) e f

  pub not-omissible : (i : ℕ) → number_of s.dtd.now.elements name ≡ Some i → (type_at s.dtd.now i).omits.start ≡ false → (n : Name) → StartMayStand (seen s) n x → ⊥
  not-omissible i h k n m =
      not-both-values (type_of own name).omits.start (moved (λ d j. (type_of d j).omits.start) n true m m.has_o)
      (ap (λ (e : ElementType). e.omits.start) (said-found s.dtd.now name i w.distinct h) ∙ k)

  pub not-without : (i : ℕ) → number_of s.dtd.now.elements name ≡ Some i → list_any is_required (definitions_for s.dtd.now.lists (name_at s.dtd.now i)) ≡ true → (n : Name) → StartMayStand (seen s) n x → ⊥
  not-without i h k n m =
      not-both-values (has_required own name) (sym (required-found s.dtd.now name i h) ∙ k) (moved (λ d j. has_required d j) n false m m.no_required_attribute)

  pub not-open : (i : ℕ) → number_of s.dtd.now.elements name ≡ Some i → has_declared_content (content_of (type_at s.dtd.now i)) ≡ true → (n : Name) → StartMayStand (seen s) n x → ⊥
  not-open i h k n m =
      not-both-values (has_declared_content (content_of (type_of own name)))
      (ap (λ (e : ElementType). has_declared_content (content_of e)) (said-found s.dtd.now name i w.distinct h) ∙ k)
      (moved (λ d j. has_declared_content (content_of (type_of d j))) n false m m.no_declared_content)

  pub not-full : s.dtd.now.syntax.quantities.taglvl ≤ depth (seen s) → (n : Name) → StartMayStand (seen s) n x → ⊥
  not-full h n m =
      let e : depth (seen s) < s.dtd.now.syntax.quantities.taglvl = subst (λ (d : Doctype). depth (seen s) < d.syntax.quantities.taglvl) (seen-doctype s w) m.room in
      omega arith

  at-name : (f : Doctype → Name → Bool) (b : Bool) → f own name ≡ b → f (seen s).doctype name ≡ b
  at-name f b h = ap (λ (d : Doctype). f d name) (seen-doctype s w) ∙ h

  pub may-start : (i : ℕ) → number_of s.dtd.now.elements name ≡ Some i → s.dtd.now.syntax.omittag ≡ true → misfits (seen s) (token x) ≡ true → finished (seen s) ≡ false → is_excluded (seen s) (Some name) ≡ false →
      (type_at s.dtd.now i).omits.start ≡ true → list_any is_required (definitions_for s.dtd.now.lists (name_at s.dtd.now i)) ≡ false → has_declared_content (content_of (type_at s.dtd.now i)) ≡ false →
      depth (seen s) < s.dtd.now.syntax.quantities.taglvl → StartMayStand (seen s) (name_at s.dtd.now i) x
  may-start i h omits mis fin exc o req con room =
      subst (λ (n : Name). StartMayStand (seen s) n x) (sym (name-found s.dtd.now name i h))
      (record {
        omits = ap (λ (d : Doctype). d.syntax.omittag) (seen-doctype s w) ∙ omits;
        before = mis;
        is_unfinished = fin;
        is_required = r;
        declared = at-name (λ d k. is_declared d k) true (ap (λ k. is_declared own k) (sym (name-found s.dtd.now name i h)) ∙ is-declared s.dtd.now i w.distinct (number-within s.dtd.now name i h));
        not_excluded = exc;
        has_o = at-name (λ d k. (type_of d k).omits.start) true (ap (λ (e : ElementType). e.omits.start) (said-found s.dtd.now name i w.distinct h) ∙ o);
        no_required_attribute = at-name (λ d k. has_required d k) false (sym (required-found s.dtd.now name i h) ∙ req);
        no_declared_content = at-name (λ d k. has_declared_content (content_of (type_of d k))) false (ap (λ (e : ElementType). has_declared_content (content_of e)) (said-found s.dtd.now name i w.distinct h) ∙ con);
        room = subst (λ (d : Doctype). depth (seen s) < d.syntax.quantities.taglvl) (sym (seen-doctype s w)) room;
      })

module _ (s : Standing) (w : IsStanding s) where
  declared-number : (n : Name) → is_declared (seen s).doctype n ≡ is_some (number_of s.dtd.now.elements n)
  declared-number n =
      ap (λ (d : Doctype). is_declared d n) (seen-doctype s w)
      ∙ (ap is_some (element-type-is s.dtd.now n) ∙ sym (number-named s.dtd.now.elements n))

  pub cannot-then : (n : Name) (b : Bool) → b ≡ true → is_some (number_of s.dtd.now.elements n) ≡ false → b ≡ cannot_be_required (seen s) (Some n)
  cannot-then n b p h = p ∙ ap (λ c. not c || is_excluded (seen s) (Some n)) (sym (declared-number n ∙ h))

  pub cannot-else : (n : Name) (b : Bool) → is_some (number_of s.dtd.now.elements n) ≡ true → b ≡ is_excluded (seen s) (Some n) → b ≡ cannot_be_required (seen s) (Some n)
  cannot-else n b h p = p ∙ ap (λ c. not c || is_excluded (seen s) (Some n)) (sym (declared-number n ∙ h))

  pub written-in : (n : Name) (b : Bool) → b ≡ (has_required s.dtd.now n || has_declared_content (content_of (type_of s.dtd.now n))) → b ≡ has_reason_to_be_written (seen s) (Some n)
  written-in n b p = p ∙ ap (λ (d : Doctype). has_required d n || has_declared_content (content_of (type_of d n))) (sym (seen-doctype s w))

  pub omissible-then : (n : Name) (b : Bool) → s.dtd.now.syntax.omittag ≡ true → b ≡ (type_of s.dtd.now n).omits.start → b ≡ start_is_omissible (seen s) (Some n)
  omissible-then n b h p =
      p ∙ (ap (λ c. c && (type_of s.dtd.now n).omits.start) (sym h)
      ∙ ap (λ (d : Doctype). d.syntax.omittag && (type_of d n).omits.start) (sym (seen-doctype s w)))

  pub omissible-else : (n : Name) (b : Bool) → s.dtd.now.syntax.omittag ≡ false → b ≡ false → b ≡ start_is_omissible (seen s) (Some n)
  omissible-else n b h p =
      p ∙ (ap (λ c. c && (type_of s.dtd.now n).omits.start) (sym h)
      ∙ ap (λ (d : Doctype). d.syntax.omittag && (type_of d n).omits.start) (sym (seen-doctype s w)))

  pub no-omittag : (x : Kind) → s.dtd.now.syntax.omittag ≡ false → (n : Name) → StartMayStand (seen s) n x → ⊥
  no-omittag x h n m =
      let e : true ≡ false = sym m.omits ∙ (ap (λ (d : Doctype). d.syntax.omittag) (seen-doctype s w) ∙ h) in absurd (cc)

  pub no-omittag-end : (x : Kind) → s.dtd.now.syntax.omittag ≡ false → (n : Name) → EndMayStand (seen s) n x → ⊥
  no-omittag-end x h n m =
      let e : true ≡ false = sym m.omits ∙ (ap (λ (d : Doctype). d.syntax.omittag) (seen-doctype s w) ∙ h) in absurd (cc)

  pub full-is : (a b : ℕ) → a ≡ s.dtd.now.syntax.quantities.taglvl → b ≡ depth (seen s) → nat_le a b ≡ is_full (seen s)
  full-is a b p q = (λ i. nat_le (p i) (q i)) ∙ ap (λ (d : Doctype). nat_le d.syntax.quantities.taglvl (depth (seen s))) (sym (seen-doctype s w))

-- the end of the innermost element
module _ (s : Standing) (w : IsStanding s) (i p : ℕ) (z : ModelState) (v : IsInner s.dtd.now i p z (seen s)) (x : Kind) where
  named-end : (n : Name) → IsTrue (innermost_is (seen s).levels n) → name_at s.dtd.now i ≡ n
  named-end n h = same-bytes (name_at s.dtd.now i) n (subst (λ (ls : List Level). IsTrue (innermost_is ls n)) v.levels h)

  end-of : (type_of (seen s).doctype (name_at s.dtd.now i)).omits.end ≡ (type_at s.dtd.now i).omits.end
  end-of =
      ap (λ (d : Doctype). (type_of d (name_at s.dtd.now i)).omits.end) (seen-doctype s w)
      ∙ ap (λ (e : ElementType). e.omits.end) (said-of s.dtd.now i w.distinct v.number)

  pub may-end : s.dtd.now.syntax.omittag ≡ true → leaves (seen s) x ≡ true → finished (seen s) ≡ true → (type_at s.dtd.now i).omits.end ≡ true → EndMayStand (seen s) (name_at s.dtd.now i) x
  may-end o l f e = record {
    omits = ap (λ (d : Doctype). d.syntax.omittag) (seen-doctype s w) ∙ o;
    of_innermost = ap (λ (ls : List Level). innermost_is ls (name_at s.dtd.now i)) v.levels ∙ own-bytes (name_at s.dtd.now i);
    is_finished = f;
    has_o = end-of ∙ e;
    before = l;
  }

  pub may-not-end : (type_at s.dtd.now i).omits.end ≡ false → (n : Name) → EndMayStand (seen s) n x → ⊥
  may-not-end e n m =
      let f : (type_of (seen s).doctype (name_at s.dtd.now i)).omits.end ≡ true = ap (λ (k : Name). (type_of (seen s).doctype k).omits.end) (named-end n m.of_innermost) ∙ m.has_o in
      let g : true ≡ false = sym f ∙ (end-of ∙ e) in
      absurd (cc)

  -- the O of the innermost element decides, where all else holds
  pub end-decided : s.dtd.now.syntax.omittag ≡ true → leaves (seen s) x ≡ true → finished (seen s) ≡ true → (o : Bool) → o ≡ (type_at s.dtd.now i).omits.end → MatchBool o (SomeEndMayStand (seen s) x) (NoEndMayStand (seen s) x)
  end-decided m l f true e = (name_at s.dtd.now i, may-end m l f (sym e))
  end-decided m l f false e = may-not-end (sym e)
