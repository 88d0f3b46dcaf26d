-- The end of a document type that is taken, and why one isn't.
use Rattle.std.proofs.Common.{◌≡◌, ℕ, suc, ◌+◌, ◌-◌, ◌<◌, ◌≤◌, Bool, true, false, ◌==◌, List, [], ◌∷◌, Option, Some, None, Result, Ok, Err, length, take, map, refl, sym, ◌∙◌, ap, subst, arith, length-take-le, if◌then◌else◌, inl}
use Rattle.std.specs.Prelude.{⊤, reverse, is_some, nat_lt}
use Rattle.std.specs.Option.{option_or}
use Rattle.std.proofs.lemmas.List.{reverse-reverse}
use Rattle.sgml_text.specs.declared.place.Place.{Place}
use Rattle.sgml_text.specs.declared.reason.Reason.{Reason}
use Rattle.sgml_text.specs.declared.reason.Reason.TheVariants as reason
use Rattle.sgml_entity.specs.Stack.{Stack, is_on, moved, opened, place_at}
use Rattle.sgml_entity.specs.Texts as supplied
use Rattle.sgml_declared.specs.decl_parts.declared.ends.Construct.TheVariants as construct
use Rattle.sgml_declared.specs.decl_lexemes.Sources.{text_at}
use Rattle.sgml_declared.specs.decl_lexemes.Readings.{entity_of}
use Rattle.sgml_scan.specs.markup.declared.kinds.TokenKind.TheVariants as kind
use Rattle.sgml_scan.specs.declared.state.Token.{Token}
use Rattle.sgml_declared.specs.theory_reading.Names.{Name, Text}
use Rattle.sgml_declared.specs.theory_reading.Pieces.{Piece, SubsetEnd}
use Rattle.sgml_declared.specs.theory_reading.Facets.{AfterSubset, ExternalSubset, subset_number, turn, border, declares, subset_named, stage_after}
use Rattle.sgml_declared.specs.theory_reading.Unread.{Outside, file_of, text_of}
use Rattle.sgml_declared.specs.theory_reading.Characters.{kind_noted}
use Rattle.sgml_declared.specs.theory_spelling.Places.{in_section}
use Rattle.sgml_declared.specs.theory_spelling.References.{subset_unopened}
use Rattle.sgml_declared.specs.theory_spelling.Declared.{Lexed}
use Rattle.sgml_declared.specs.theory_spelling.Sized.{sized_spent, unless_reason}
use Rattle.sgml_declared.specs.theory_spelling.Stacked.{Stacked}
use Rattle.sgml_declared.specs.theory_spelling.Tags.{with_spent}
use Rattle.sgml_declared.specs.theory_spelling.Prolog.{end_by, end_reason, in_document, at_type_end}
use Rattle.sgml_declared.specs.theory_standing.Kept.{Kept, given, kept_after, sources_of}
use Rattle.sgml_declared.specs.theory_standing.Prologs.{state_in_prolog, is_over}
use Rattle.sgml_declared.specs.theory_standing.Next.{after, left_to_read, IsThere, IsNext, IsRefused}
use Rattle.sgml_declared.specs.Files.{Choices}
use Rattle.sgml_declared.specs.Opening.{IsSupplied, IsPushed}
use Rattle.sgml_declared.proofs.Opened.{is-there}
use Rattle.sgml_declared.specs.declared.error.TakeError.{TakeError}
use Rattle.sgml_declared.specs.Over.{IsReadOver, IsOver}
use Rattle.sgml_declared.specs.Taking.{stacked_on, lexed_at, Ends, EndIsTaken, EndIsStopped}
use Rattle.sgml_declared.proofs.Taken.{stopped-so}
use Rattle.sgml_prolog_steps.specs.Standing.{IsKept, LiesUnder}
use Rattle.sgml_prolog_steps.specs.Found.{rest_in, mode_of, IsWhole, IsSpelled, IsTokenThere}
use Rattle.sgml_prolog_steps.specs.declared.sort.Sort.TheVariants as sort
use Rattle.sgml_prolog_steps.specs.declared.stepping.Stop.{Stop}
use Rattle.sgml_prolog_steps.specs.declared.stepping.Stop.TheVariants as stop
use Rattle.sgml_prolog_steps.specs.declared.stepping.Turn.TheVariants as turns
use Rattle.sgml_prolog_steps.specs.Sorts.{sort_in}
use Rattle.sgml_prolog_steps.specs.Steps.{AreSilentNext, IsOutside, IsStep, stop_of}
use Rattle.sgml_prolog_steps.proofs.Shared.{alone-under, subset-over, subset-unread, kept-moved, falls-moved, length-moved, length-first, add-none, refused, silent-step, refused-step, memory-step}
use Rattle.sgml_prolog_steps.proofs.Constructs.{around, stopped-step}
use Rattle.sgml_prolog_steps.proofs.Nesting.{raised}
use Rattle.sgml_prolog_steps.proofs.Referring.{lies-opened, opened-numbers, few-by, entities-moved}
use Rattle.sgml_prolog.specs.Ending.{EndsIn, EndsType, IsSubsetOn}
use Rattle.sgml_prolog.proofs.Tokens.{spelled-inside, is-subset-end, subset-end-inside}
use Rattle.sgml_prolog.proofs.Lexing.{over-is}

never : true ≡ false → ⊥
never e = cc

-- it stands in the document, which alone is read
one-text : (ps : List Place) → LiesUnder ps → (entity_of ps == 0) ≡ true → length ps ≡ 1
one-text [] l e = absurd l
one-text (p ∷ []) l e = refl
one-text (p ∷ q ∷ ps) l e = absurd (never (sym e ∙ l.0))

in-document : (ps : List Place) → LiesUnder ps → (entity_of ps == 0) ≡ true → in_document (map (λ (p : Place). p.entity) ps) ≡ true
in-document [] l e = absurd l
in-document (p ∷ ps) l e = e

-- WHAT IS SPELLED
spelled-end : (outside : Outside) (k : Kept) (texts : List (ℕ × Text)) (ended : Bool) (x : Token) → IsKept k → sort_in k x.kind ≡ sort.SubsetEnd → (entity_of k.stack.places == 0) ≡ true
    → IsTokenThere k texts ended x
    → IsSpelled outside k texts ended (end_by outside (state_in_prolog k) (stacked_on k.stack) x.length (lexed_at construct.SubsetEnd outside k.doctype texts k.stack x.length))
unfolding state_in_prolog
spelled-end outside k texts ended x h e top there =
    let q = is-subset-end k x.kind e in
    let own = take x.length (rest_in k texts) in
    let said = lexed_at construct.SubsetEnd outside k.doctype texts k.stack x.length in
    subst (λ (a : Result Piece Reason). IsSpelled outside k texts ended a)
    (subset-end-inside outside (state_in_prolog k) (stacked_on k.stack) (mode_of k) own
    ∙ (ap (λ b. if b then end_by outside (state_in_prolog k) (stacked_on k.stack) (length own) said else Err reason.DeclarationSyntax) (in-document k.stack.places h.document top)
    ∙ ap (λ n. end_by outside (state_in_prolog k) (stacked_on k.stack) n said) (length-take-le x.length (rest_in k texts) there.within)))
    (spelled-inside outside k texts ended x kind.SubsetEnd q.0 q.1 refl there)

pub end-ends : (k : Kept) (texts : List (ℕ × Text)) (ended : Bool) (x : Token) → sort_in k x.kind ≡ sort.SubsetEnd → IsTokenThere k texts ended x
    → Ends construct.SubsetEnd k.doctype texts k.stack x.length
end-ends k texts ended x e there = subst (λ y. IsWhole k texts y x.length) (is-subset-end k x.kind e).1 there.whole

pub end-untaken-step : (c : Choices) (texts : List (ℕ × Text)) (ended : Bool) (asked : Option Name) (x : Token) (old new : Kept) (error : TakeError) → IsKept old → is_over old ≡ false
    → sort_in old x.kind ≡ sort.SubsetEnd → (entity_of old.stack.places == 0) ≡ true → IsTokenThere old texts ended x
    → EndIsStopped c old.doctype old.subset texts old.stack error → new ≡ old → IsStep c texts ended asked old new (Err (stop_of error))
end-untaken-step c texts ended asked x old new error h g e top there stopped same =
    stopped-step c texts ended asked old new error
    (λ outside. end_by outside (state_in_prolog old) (stacked_on old.stack) x.length (lexed_at construct.SubsetEnd outside old.doctype texts old.stack x.length)) g
    (λ outside. spelled-end outside old texts ended x h e top there)
    (λ outside o.
    stopped-so outside (sources_of old) texts old.stack (lexed_at construct.SubsetEnd outside old.doctype texts old.stack x.length) error
    (end_by outside (state_in_prolog old) (stacked_on old.stack) x.length) (λ r. refl)
    (stopped outside x.length (around c outside old texts asked h o) (end-ends old texts ended x e there))) same

-- where so much was opened in it
abbrev pub reason_at_end : Outside → Kept → ℕ → Option Reason
reason_at_end outside k spent = end_reason outside (state_in_prolog k) (with_spent (stacked_on k.stack) spent)

end-said : (outside : Outside) (k : Kept) (texts : List (ℕ × Text)) (ended : Bool) (x : Token) (l : Lexed) (o : Option Reason) → IsKept k → sort_in k x.kind ≡ sort.SubsetEnd
    → (entity_of k.stack.places == 0) ≡ true → IsTokenThere k texts ended x → lexed_at construct.SubsetEnd outside k.doctype texts k.stack x.length ≡ Ok l
    → reason_at_end outside k l.spent ≡ o → IsSpelled outside k texts ended (unless_reason o (sized_spent x.length (l.spent - k.stack.spent) (SubsetEnd (is_some k.subset))))
unfolding state_in_prolog
end-said outside k texts ended x l o h e top there is r =
    subst (λ (a : Result Piece Reason). IsSpelled outside k texts ended a)
    (ap (end_by outside (state_in_prolog k) (stacked_on k.stack) x.length) is
    ∙ ap (λ z. unless_reason z (sized_spent x.length (l.spent - k.stack.spent) (SubsetEnd (is_some k.subset)))) r)
    (spelled-end outside k texts ended x h e top there)

end-refused : (outside : Outside) (k : Kept) (texts : List (ℕ × Text)) (ended : Bool) (x : Token) (l : Lexed) (r : Reason) → IsKept k → is_over k ≡ false
    → sort_in k x.kind ≡ sort.SubsetEnd → (entity_of k.stack.places == 0) ≡ true → IsTokenThere k texts ended x
    → lexed_at construct.SubsetEnd outside k.doctype texts k.stack x.length ≡ Ok l → reason_at_end outside k l.spent ≡ Some r → IsRefused outside k texts ended r
end-refused outside k texts ended x l r h g e top there is w = refused outside k texts ended r g (end-said outside k texts ended x l (Some r) h e top there is w)

-- AFTER IT
abbrev pub type_ended : ℕ → ℕ → Kept → Kept
type_ended n inside k = record k { stack = record k.stack { spent = k.stack.spent + inside; places = moved n k.stack.places }; stage = AfterSubset }

-- the external subset is opened, whose text has this length
abbrev pub subset_opened : ℕ → ℕ → ℕ → Kept → Kept
subset_opened n inside size k =
    record k { stack = record k.stack { spent = k.stack.spent + (inside + size); places = place_at subset_number 0 ∷ moved n k.stack.places }; stage = AfterSubset }

after-end : (outside : Outside) (k : Kept) (n inside : ℕ) → IsKept k → after outside (sized_spent n inside (SubsetEnd false)) k ≡ type_ended n inside k
unfolding kept_after turn border declares subset_named stage_after
after-end outside k n inside h = λ i. record {
  doctype = k.doctype;
  stack = record { levels = sym h.levels i; expand = k.stack.expand; spent = ap (λ m. k.stack.spent + m) (add-none inside) i; places = moved n k.stack.places };
  sections = reverse-reverse k.sections i;
  stage = AfterSubset;
  subset = k.subset;
}

after-opening : (outside : Outside) (k : Kept) (n inside : ℕ) → IsKept k
    → after outside (sized_spent n inside (SubsetEnd true)) k ≡ subset_opened n inside (length (text_of outside (sources_of k) subset_number)) k
unfolding kept_after turn border declares subset_named stage_after
after-opening outside k n inside h = λ i. record {
  doctype = k.doctype;
  stack = record {
    levels = sym h.levels i;
    expand = k.stack.expand;
    spent = k.stack.spent + (inside + length (text_of outside (sources_of k) subset_number));
    places = place_at subset_number 0 ∷ moved n k.stack.places;
  };
  sections = reverse-reverse k.sections i;
  stage = AfterSubset;
  subset = k.subset;
}

end-there : (outside : Outside) (k : Kept) (texts : List (ℕ × Text)) (n inside : ℕ) → IsKept k → n ≤ length (rest_in k texts)
    → IsThere outside k texts (sized_spent n inside (SubsetEnd false))
unfolding turn declares subset_named
end-there outside k texts n inside h l = record {
  within = subst (λ m. n ≤ m) (sym (length-first k texts h)) l;
  opened = λ m e. absurd (cc);
  subset = λ named text e g. absurd (cc);
}

subset-there : (outside : Outside) (k : Kept) (texts : List (ℕ × Text)) (n inside : ℕ) → IsKept k → n ≤ length (rest_in k texts)
    → text_at k.doctype.entities texts subset_number ≡ Some (text_of outside (sources_of k) subset_number) → IsThere outside k texts (sized_spent n inside (SubsetEnd true))
unfolding turn declares subset_named
subset-there outside k texts n inside h l given = record {
  within = subst (λ m. n ≤ m) (sym (length-first k texts h)) l;
  opened = λ m e.
      let same : subset_number ≡ m = cc in subst (λ z. text_at k.doctype.entities texts z ≡ Some (text_of outside (sources_of k) z)) same given;
  subset = λ named text e g. absurd (cc);
}

end-next : (outside : Outside) (k : Kept) (texts : List (ℕ × Text)) (ended : Bool) (n inside : ℕ) (b : Bool) → is_over k ≡ false → is_some k.subset ≡ b
    → IsThere outside k texts (sized_spent n inside (SubsetEnd b)) → IsSpelled outside k texts ended (Ok (sized_spent n inside (SubsetEnd b)))
    → IsNext outside k texts ended (sized_spent n inside (SubsetEnd b))
unfolding kind_noted state_in_prolog
end-next outside k texts ended n inside b g is there s = record {
  going_on = g;
  of_prolog = refl;
  decided = s.decided;
  spelled = s.spelled;
  noted = ap (λ z. sized_spent n inside (SubsetEnd z)) is;
  there = there;
}

end-silent : (outside : Outside) (k : Kept) (texts : List (ℕ × Text)) (ended : Bool) (x : Token) (l : Lexed) → IsKept k → is_over k ≡ false → sort_in k x.kind ≡ sort.SubsetEnd
    → (entity_of k.stack.places == 0) ≡ true → IsTokenThere k texts ended x → lexed_at construct.SubsetEnd outside k.doctype texts k.stack x.length ≡ Ok l
    → reason_at_end outside k l.spent ≡ None → is_some k.subset ≡ false → AreSilentNext outside texts ended k (type_ended x.length (l.spent - k.stack.spent) k)
end-silent outside k texts ended x l h g e top there is w none =
    let inside = l.spent - k.stack.spent in
    let s = subst (λ b. IsSpelled outside k texts ended (Ok (sized_spent x.length inside (SubsetEnd b)))) none (end-said outside k texts ended x l None h e top there is w) in (
      sized_spent x.length inside (SubsetEnd false) ∷ [],
      (end-next outside k texts ended x.length inside false g none (end-there outside k texts x.length inside h there.within) s, sym (after-end outside k x.length inside h)),
      refl,
    )

opening-silent : (outside : Outside) (k : Kept) (texts : List (ℕ × Text)) (ended : Bool) (x : Token) (l : Lexed) → IsKept k → is_over k ≡ false → sort_in k x.kind ≡ sort.SubsetEnd
    → (entity_of k.stack.places == 0) ≡ true → IsTokenThere k texts ended x → lexed_at construct.SubsetEnd outside k.doctype texts k.stack x.length ≡ Ok l
    → reason_at_end outside k l.spent ≡ None → is_some k.subset ≡ true → text_at k.doctype.entities texts subset_number ≡ Some (text_of outside (sources_of k) subset_number)
    → AreSilentNext outside texts ended k (subset_opened x.length (l.spent - k.stack.spent) (length (text_of outside (sources_of k) subset_number)) k)
opening-silent outside k texts ended x l h g e top there is w some given =
    let inside = l.spent - k.stack.spent in
    let s = subst (λ b. IsSpelled outside k texts ended (Ok (sized_spent x.length inside (SubsetEnd b)))) some (end-said outside k texts ended x l None h e top there is w) in (
      sized_spent x.length inside (SubsetEnd true) ∷ [],
      (end-next outside k texts ended x.length inside true g some (subset-there outside k texts x.length inside h there.within given) s, sym (after-opening outside k x.length inside h)),
      refl,
    )

-- WHAT IS KEPT THEN
kept-ended : (k : Kept) (n inside : ℕ) → IsKept k → (entity_of k.stack.places == 0) ≡ true → IsKept (type_ended n inside k)
kept-ended k n inside h top =
    let q = kept-moved n k h in record {
      levels = h.levels;
      document = q.document;
      declared = q.declared;
      nested = q.nested;
      after = λ e. alone-under (moved n k.stack.places) (length-moved n k.stack.places ∙ one-text k.stack.places h.document top);
      before = λ e. absurd (cc);
      named = h.named;
    }

kept-opened : (k : Kept) (n inside size : ℕ) → IsKept k → (entity_of k.stack.places == 0) ≡ true → IsKept (subset_opened n inside size k)
kept-opened k n inside size h top =
    let q = kept-moved n k h in record {
      levels = h.levels;
      document = lies-opened subset_number n k.stack.places refl h.document;
      declared = (omega arith, q.declared);
      nested = raised (length (moved n k.stack.places)) (suc (length (moved n k.stack.places))) (reverse k.sections) (omega arith) q.nested;
      after = λ e. subset-over (moved n k.stack.places) (length-moved n k.stack.places ∙ one-text k.stack.places h.document top);
      before = λ e. absurd (cc);
      named = h.named;
    }

-- LESS IS LEFT TO READ
falls-ended : (k : Kept) (texts : List (ℕ × Text)) (n inside : ℕ) → IsKept k → 0 < n → n ≤ length (rest_in k texts) → left_to_read (type_ended n inside k) texts < left_to_read k texts
unfolding left_to_read given
falls-ended k texts n inside h some l = let a = falls-moved k texts n k.stage h some l in omega (arith, a)

falls-opened : (k : Kept) (texts : List (ℕ × Text)) (n inside : ℕ) (text : Text) → IsKept k → 0 < n → n ≤ length (rest_in k texts)
    → text_at k.doctype.entities texts subset_number ≡ Some text → k.stack.spent + inside + length text ≤ k.stack.expand
    → left_to_read (subset_opened n inside (length text) k) texts < left_to_read k texts
unfolding left_to_read given
falls-opened k texts n inside text h some l there few =
    let a = opened-numbers k.doctype.entities texts subset_number n k.stack.expand (k.stack.spent + inside) text k.stack.places h.document some l there few in
    omega (arith, a)

-- WHAT HOLDS where its end was read over, and this much was opened in all
abbrev pub end_read : ℕ → ℕ → Kept → Kept
end_read n spent k = record k { stack = record k.stack { spent = spent; places = moved n k.stack.places } }

reason-read : (outside : Outside) (k : Kept) (n spent : ℕ) (t : Stacked) → end_reason outside (state_in_prolog (end_read n spent k)) t ≡ end_reason outside (state_in_prolog k) t
unfolding state_in_prolog
reason-read outside k n spent t =
    ap (λ m. option_or (subset_unopened outside (sources_of k) t)
    (if in_section m (reverse k.sections) then Some reason.SectionOpen else if is_some k.subset then None else at_type_end k.doctype))
    (length-moved n k.stack.places)

subset-supplied : (c : Choices) (outside : Outside) (k : Kept) (texts : List (ℕ × Text)) (asked : Option Name) → IsOutside c outside k texts asked → is_some k.subset ≡ true
    → IsSupplied outside (sources_of k) texts subset_number
subset-supplied c outside k texts asked o some text given = o.supplied subset_number text (omega arith) some given

ends-read : (c : Choices) (outside : Outside) (texts : List (ℕ × Text)) (asked : Option Name) (old mid : Kept) (n : ℕ) (l : Lexed) (result : Result ⊤ Stop) → IsKept old → IsOutside c outside old texts asked
    → mid ≡ record old { stack = mid.stack } → mid.stack ≡ record old.stack { spent = l.spent; places = moved n old.stack.places } → EndsType c texts mid result
    → EndsIn outside (end_read n l.spent old) (with_spent (stacked_on old.stack) l.spent) texts result
ends-read c outside texts asked old mid n l result h o is at ends =
    subst (λ (z : Kept). EndsType c texts z result) (is ∙ ap (λ (s : Stack). record old { stack = s }) at) ends
    outside (with_spent (stacked_on old.stack) l.spent) o.of_options (λ some. subset-supplied c outside old texts asked o some)
    (record { levels = h.levels; expand = o.expand; spent = refl; entities = entities-moved n old.stack.places })

-- THE STEPS
pub unended-step : (c : Choices) (texts : List (ℕ × Text)) (ended : Bool) (asked : Option Name) (x : Token) (old mid new : Kept) (s : Stop) → IsKept old → is_over old ≡ false
    → sort_in old x.kind ≡ sort.SubsetEnd → (entity_of old.stack.places == 0) ≡ true → IsTokenThere old texts ended x → EndIsTaken c old.doctype old.subset texts old.stack mid.stack
    → mid ≡ record old { stack = mid.stack } → EndsType c texts mid (Err s) → new ≡ old → IsStep c texts ended asked old new (Err s)
unended-step c texts ended asked x old mid new (stop.Refused r) h g e top there taken is ends same =
    refused-step c texts ended asked old new r
    (λ outside o.
    let y = taken outside x.length (around c outside old texts asked h o) (end-ends old texts ended x e there) in
    let w = ends-read c outside texts asked old mid x.length y.0 (Err (stop.Refused r)) h o is y.2 ends in
    end-refused outside old texts ended x y.0 r h g e top there y.1 (sym (reason-read outside old x.length y.0.spent (with_spent (stacked_on old.stack) y.0.spent)) ∙ w)) same
unended-step c texts ended asked x old mid new (stop.Wanted number file) h g e top there taken is ends same = record {
  steps = λ outside o.
      let y = taken outside x.length (around c outside old texts asked h o) (end-ends old texts ended x e there) in
      let w = ends-read c outside texts asked old mid x.length y.0 (Err (stop.Wanted number file)) h o is y.2 ends in (
        same,
        record {
          unread = ap (λ n. is_on n old.stack.places) w.subset ∙ subset-unread old.stack.places (one-text old.stack.places h.document top) h.document;
          not_given = ap (supplied.text_of texts) w.subset ∙ w.absent;
          named = inl (ap (file_of outside (sources_of old)) w.subset ∙ w.named);
          refused = λ r gone. end-refused outside old texts ended x y.0 r h g e top there y.1
              (sym (reason-read outside old x.length y.0.spent (with_spent (stacked_on old.stack) y.0.spent)) ∙ w.missing r gone);
        },
      );
  falls = tt;
  kept = tt;
  expand = tt;
  left = same;
}
unended-step c texts ended asked x old mid new stop.More h g e top there taken is ends same = record {
  steps = λ outside o.
      let y = taken outside x.length (around c outside old texts asked h o) (end-ends old texts ended x e there) in
      absurd (ends-read c outside texts asked old mid x.length y.0 (Err stop.More) h o is y.2 ends);
  falls = tt;
  kept = tt;
  expand = tt;
  left = same;
}
unended-step c texts ended asked x old mid new stop.Memory h g e top there taken is ends same = memory-step c texts ended asked old new same

-- without an external subset
alone-step : (c : Choices) (texts : List (ℕ × Text)) (ended : Bool) (asked : Option Name) (x : Token) (old mid : Kept) → IsKept old → is_over old ≡ false
    → sort_in old x.kind ≡ sort.SubsetEnd → (entity_of old.stack.places == 0) ≡ true → IsTokenThere old texts ended x → EndIsTaken c old.doctype old.subset texts old.stack mid.stack
    → mid ≡ record old { stack = mid.stack } → EndsType c texts mid (Ok tt) → old.subset ≡ None → IsStep c texts ended asked old (type_ended x.length (mid.stack.spent - old.stack.spent) old) (Ok turns.Silent)
alone-step c texts ended asked x old mid h g e top there taken is ends none =
    silent-step c texts ended asked old (type_ended x.length (mid.stack.spent - old.stack.spent) old)
    (λ outside o.
    let y = taken outside x.length (around c outside old texts asked h o) (end-ends old texts ended x e there) in
    let w = ends-read c outside texts asked old mid x.length y.0 (Ok tt) h o is y.2 ends in
    subst (λ n. AreSilentNext outside texts ended old (type_ended x.length (n - old.stack.spent) old)) (sym (ap (λ (z : Stack). z.spent) y.2))
    (end-silent outside old texts ended x y.0 h g e top there y.1 (sym (reason-read outside old x.length y.0.spent (with_spent (stacked_on old.stack) y.0.spent)) ∙ w) (ap is_some none)))
    (falls-ended old texts x.length (mid.stack.spent - old.stack.spent) h there.some there.within)
    (kept-ended old x.length (mid.stack.spent - old.stack.spent) h top) refl

-- with one
room-over : (a b c d e f : ℕ) → a + c ≤ d → a ≡ e + b → d ≡ f → e + b + c ≤ f
room-over a b c d e f l s t = omega (arith, l, s, t)

subset-step : (c : Choices) (texts : List (ℕ × Text)) (ended : Bool) (asked : Option Name) (x : Token) (old mid : Kept) (s : Stack) → IsKept old → is_over old ≡ false
    → sort_in old x.kind ≡ sort.SubsetEnd → (entity_of old.stack.places == 0) ≡ true → IsTokenThere old texts ended x → EndIsTaken c old.doctype old.subset texts old.stack mid.stack
    → mid ≡ record old { stack = mid.stack } → EndsType c texts mid (Ok tt) → IsReadOver x.length old.stack mid.stack → is_some old.subset ≡ true
    → (p : IsPushed old.doctype.entities texts mid.stack s subset_number) → IsStep c texts ended asked old (subset_opened x.length (mid.stack.spent - old.stack.spent) (length p.text) old) (Ok turns.Silent)
subset-step c texts ended asked x old mid s h g e top there taken is ends over some p =
    let inside = mid.stack.spent - old.stack.spent in
    let at = over-is x.length old.stack mid.stack over in
    silent-step c texts ended asked old (subset_opened x.length inside (length p.text) old)
    (λ outside o.
    let y = taken outside x.length (around c outside old texts asked h o) (end-ends old texts ended x e there) in
    let w = ends-read c outside texts asked old mid x.length y.0 (Ok tt) h o is y.2 ends in
    let t = is-there outside (sources_of old) subset_number texts p.text (subset-supplied c outside old texts asked o some) p.there in
    subst (λ n. AreSilentNext outside texts ended old (subset_opened x.length (n - old.stack.spent) (length p.text) old)) (sym (ap (λ (z : Stack). z.spent) y.2))
    (subst (λ (z : Text). AreSilentNext outside texts ended old (subset_opened x.length (y.0.spent - old.stack.spent) (length z) old)) t.is
    (opening-silent outside old texts ended x y.0 h g e top there y.1 (sym (reason-read outside old x.length y.0.spent (with_spent (stacked_on old.stack) y.0.spent)) ∙ w) some
    (p.there ∙ ap Some (sym t.is)))))
    (falls-opened old texts x.length inside p.text h there.some there.within p.there
    (room-over mid.stack.spent inside (length p.text) mid.stack.expand old.stack.spent old.stack.expand
    (few-by (is_on subset_number mid.stack.places) (nat_lt mid.stack.levels (length mid.stack.places)) mid.stack.expand (mid.stack.spent + length p.text) p.allowed)
    (ap (λ (z : Stack). z.spent) at) (ap (λ (z : Stack). z.expand) at)))
    (kept-opened old x.length inside (length p.text) h top) refl

-- either
opened-is : (n size : ℕ) (old mid : Stack) → IsReadOver n old mid
    → opened subset_number size mid ≡ record old { spent = old.spent + (mid.spent - old.spent + size); places = place_at subset_number 0 ∷ moved n old.places }
opened-is n size old mid over =
    let inside = mid.spent - old.spent in
    let sum : old.spent + inside + size ≡ old.spent + (inside + size) = omega arith in
    ap (opened subset_number size) (over-is n old mid over) ∙ ap (λ m. record old { spent = m; places = place_at subset_number 0 ∷ moved n old.places }) sum

pub ended-step : (c : Choices) (texts : List (ℕ × Text)) (ended : Bool) (asked : Option Name) (x : Token) (old mid last new : Kept) → IsKept old → is_over old ≡ false
    → sort_in old x.kind ≡ sort.SubsetEnd → (entity_of old.stack.places == 0) ≡ true → IsTokenThere old texts ended x → EndIsTaken c old.doctype old.subset texts old.stack mid.stack
    → IsOver construct.SubsetEnd old.doctype texts old.stack mid.stack → mid ≡ record old { stack = mid.stack } → EndsType c texts mid (Ok tt)
    → IsSubsetOn mid.subset mid.doctype.entities texts mid.stack last.stack → last ≡ record mid { stack = last.stack } → new ≡ record last { stage = AfterSubset }
    → IsStep c texts ended asked old new (Ok turns.Silent)
ended-step c texts ended asked x old mid last new h g e top there taken over is ends on same done =
    by old.subset refl (subst (λ (z : Kept). IsSubsetOn z.subset z.doctype.entities texts mid.stack last.stack) is on)
  where
    read : IsReadOver x.length old.stack mid.stack
    read = over x.length (end-ends old texts ended x e there)

    now : new ≡ record old { stack = last.stack; stage = AfterSubset }
    now = done ∙ (λ i. record (same i) { stage = AfterSubset }) ∙ (λ i. record (is i) { stack = last.stack; stage = AfterSubset })

    by : (o : Option ExternalSubset) → old.subset ≡ o → IsSubsetOn o old.doctype.entities texts mid.stack last.stack → IsStep c texts ended asked old new (Ok turns.Silent)
    by None none at =
        subst (λ (z : Kept). IsStep c texts ended asked old z (Ok turns.Silent))
        (sym (now ∙ ap (λ (s : Stack). record old { stack = s; stage = AfterSubset }) (at ∙ over-is x.length old.stack mid.stack read)))
        (alone-step c texts ended asked x old mid h g e top there taken is ends none)
    by (Some subset) some at =
        subst (λ (z : Kept). IsStep c texts ended asked old z (Ok turns.Silent))
        (sym (now ∙ ap (λ (s : Stack). record old { stack = s; stage = AfterSubset }) (at.pushed ∙ opened-is x.length (length at.text) old.stack mid.stack read)))
        (subset-step c texts ended asked x old mid last.stack h g e top there taken is ends read (ap is_some some) at)
