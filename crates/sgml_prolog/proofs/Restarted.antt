-- What is kept after the SGML declaration.
use Rattle.std.proofs.Common.{◌≡◌, ℕ, ◌+◌, ◌-◌, ◌*◌, ◌<◌, ◌≤◌, Bool, true, false, List, [], ◌∷◌, Option, None, Some, Result, Ok, Err, length, map, take, refl, sym, ◌∙◌, ap, subst, arith, length-take}
use Rattle.std.specs.Prelude.{IsSome, reverse, IfOk, IfErr, OnOk, OnErr}
use Rattle.std.proofs.lemmas.List.{reverse-reverse}
use Rattle.sgml_text.specs.declared.place.Place.{Place}
use Rattle.sgml_text.specs.declared.reason.Reason.{Reason}
use Rattle.sgml_syntax.specs.declared.syntax.Syntax.{Syntax}
use Rattle.sgml_entity.specs.declared.kinds.Entity.{Entity}
use Rattle.sgml_entity.specs.Stack.{place_at, moved, offset_of}
use Rattle.sgml_dtd.specs.Doctypes.{Doctype}
use Rattle.sgml_declared.specs.theory_reading.Names.{Name, Text}
use Rattle.sgml_declared.specs.theory_reading.Pieces.{Piece, Sgml}
use Rattle.sgml_declared.specs.theory_reading.Facets.{ExternalSubset, OpensText, StaysInText, turn, border, declares, subset_named, stage_after, stage_of_syntax}
use Rattle.sgml_declared.specs.theory_reading.Unread.{Outside}
use Rattle.sgml_declared.specs.theory_reading.Characters.{kind_noted}
use Rattle.sgml_declared.specs.theory_spelling.Nested.{AreNested}
use Rattle.sgml_declared.specs.theory_spelling.Sized.{sized}
use Rattle.sgml_declared.specs.theory_spelling.SgmlDeclared.{sgml_piece}
use Rattle.sgml_declared.specs.theory_spelling.Decided.{is_before}
use Rattle.sgml_declared.specs.theory_standing.Kept.{Kept, given, kept_after, rest_of}
use Rattle.sgml_declared.specs.theory_standing.Prologs.{state_in_prolog, is_over}
use Rattle.sgml_declared.specs.theory_standing.Next.{after, IsNext, unread_length, left_to_read}
use Rattle.sgml_declared.specs.Files.{Choices}
use Rattle.sgml_prolog_steps.specs.Standing.{LiesUnder, IsUndeclared, IsKept}
use Rattle.sgml_prolog_steps.specs.Found.{rest_in, moved_on, IsSpelled, IsSgmlThere}
use Rattle.sgml_prolog_steps.specs.declared.stepping.Turn.{Turn}
use Rattle.sgml_prolog_steps.specs.declared.stepping.Turn.TheVariants as turns
use Rattle.sgml_prolog_steps.specs.declared.stepping.Stop.{Stop}
use Rattle.sgml_prolog_steps.specs.declared.stepping.Stop.TheVariants as stop
use Rattle.sgml_prolog_steps.specs.Steps.{IsStep}
use Rattle.sgml_prolog_steps.proofs.Shared.{length-first, falls-moved, refused, silent-step, refused-step, memory-step}
use Rattle.sgml_prolog.specs.Sgml.{restarted, IsSgmlRead}

-- ONLY THE DOCUMENT is read
one-place : (n : ℕ) (ps : List Place) → LiesUnder ps → length ps ≡ 1 → moved n ps ≡ place_at 0 (offset_of ps + n) ∷ []
one-place n [] l e = absurd l
one-place n (p ∷ []) l e = ap (λ m. place_at m (p.at + n) ∷ []) l
one-place n (p ∷ q ∷ ps) l e = absurd (omega (arith, e))

no-some : {B : Type 0} (o : Option ExternalSubset) → o ≡ None → IsSome o → B
no-some None e s = cc
no-some (Some x) e s = cc

pub restarted-kept : (syntax : Syntax) (expand at : ℕ) (k : Kept) → IsKept k → IsUndeclared k → IsKept (restarted syntax expand at k)
restarted-kept syntax expand at k h u = record {
  levels = refl;
  document = refl;
  declared = (omega arith, tt);
  nested = subst (λ m. AreNested m (reverse k.sections)) u.one_text h.nested;
  after = λ e. tt;
  named = λ e. no-some (k.subset) u.no_subset e;
  before = λ e. record { doctype = refl; one_text = refl; none_opened = refl; no_section = u.no_section; no_subset = u.no_subset };
}

-- LESS IS LEFT TO READ
abbrev left-by : List Entity → List (ℕ × Text) → ℕ → ℕ → List Place → ℕ
left-by es texts expand spent ps = 2 * (unread_length (map (rest_of es texts) ps) + (expand - spent)) + length ps

left-is : (k : Kept) (texts : List (ℕ × Text)) → left_to_read k texts ≡ left-by k.doctype.entities texts k.stack.expand k.stack.spent k.stack.places
unfolding left_to_read given
left-is k texts = refl

left-same : (syntax : Syntax) (texts : List (ℕ × Text)) (n : ℕ) (k : Kept) → IsKept k → IsUndeclared k
    → left_to_read (restarted syntax k.stack.expand (offset_of k.stack.places + n) k) texts ≡ left_to_read (record (moved_on n k) { stage = stage_of_syntax k.stage }) texts
left-same syntax texts n k h u =
    left-is (restarted syntax k.stack.expand (offset_of k.stack.places + n) k) texts
    ∙ ap (λ (es : List Entity). left-by es texts k.stack.expand 0 (place_at 0 (offset_of k.stack.places + n) ∷ [])) (sym (ap (λ (d : Doctype). d.entities) u.doctype))
    ∙ ap (λ m. left-by k.doctype.entities texts k.stack.expand m (place_at 0 (offset_of k.stack.places + n) ∷ [])) (sym u.none_opened)
    ∙ ap (λ ps. left-by k.doctype.entities texts k.stack.expand k.stack.spent ps) (sym (one-place n k.stack.places h.document u.one_text))
    ∙ sym (left-is (record (moved_on n k) { stage = stage_of_syntax k.stage }) texts)

-- THE PIECE
no-turn : (n : ℕ) → StaysInText ≡ OpensText n → ⊥
no-turn n e = cc

none-some : {A : Type 0} (a : A) → None ≡ Some a → ⊥
none-some a e = cc

turn-is : (syntax : Syntax) → turn (Sgml syntax) ≡ StaysInText
unfolding turn
turn-is syntax = refl

names-none : (syntax : Syntax) → subset_named (Sgml syntax) ≡ None
unfolding subset_named
names-none syntax = refl

noted-is : (k : Kept) (syntax : Syntax) → kind_noted (state_in_prolog k) (Sgml syntax) ≡ Sgml syntax
unfolding kind_noted
noted-is k syntax = refl

sgml-next : (outside : Outside) (k : Kept) (texts : List (ℕ × Text)) (ended : Bool) (syntax : Syntax) (n : ℕ) → IsKept k → is_over k ≡ false
    → n ≤ length (rest_in k texts) → IsSpelled outside k texts ended (Ok (sized n (Sgml syntax))) → IsNext outside k texts ended (sized n (Sgml syntax))
sgml-next outside k texts ended syntax n h g l s = record {
  going_on = g;
  of_prolog = refl;
  decided = s.decided;
  spelled = s.spelled;
  noted = ap (λ y. sized n y) (noted-is k syntax);
  there = record {
    within = subst (λ m. n ≤ m) (sym (length-first k texts h)) l;
    opened = λ number e. absurd (no-turn number (sym (turn-is syntax) ∙ e));
    subset = λ named text e t. absurd (none-some named (sym (names-none syntax) ∙ e));
  };
}

sgml-after : (outside : Outside) (k : Kept) (syntax : Syntax) (n : ℕ) → IsKept k → IsUndeclared k
    → after outside (sized n (Sgml syntax)) k ≡ restarted syntax k.stack.expand (offset_of k.stack.places + n) k
unfolding kept_after turn border declares subset_named stage_after
sgml-after outside k syntax n h u = λ i. record {
  doctype = ap (λ (d : Doctype). record d { syntax = syntax }) u.doctype i;
  stack = record {
    levels = syntax.quantities.entlvl;
    expand = k.stack.expand;
    spent = (ap (λ m. m + (0 + 0)) u.none_opened) i;
    places = one-place n k.stack.places h.document u.one_text i;
  };
  sections = reverse-reverse k.sections i;
  stage = stage_of_syntax k.stage;
  subset = k.subset;
}

-- THE STEP
own-within : (n : ℕ) (m : ℕ) (bytes : Text) → m ≤ length (take n bytes) → m ≤ length bytes
own-within n m bytes l = omega (arith, l, length-take n bytes)

pub sgml-step : (c : Choices) (texts : List (ℕ × Text)) (ended : Bool) (asked : Option Name) (old new : Kept) (n : ℕ) (x : Syntax × ℕ) → IsKept old → is_over old ≡ false
    → is_before old.stage ≡ true → IsSgmlThere old texts ended n → IsSgmlRead (take n (rest_in old texts)) (Ok x)
    → new ≡ restarted x.0 old.stack.expand (offset_of old.stack.places + x.1) old → IsStep c texts ended asked old new (Ok turns.Silent)
sgml-step c texts ended asked old new n x h g before there r same =
    let u = h.before before in
    let within = own-within n x.1 (rest_in old texts) r.1 in
    let made : Kept = restarted x.0 old.stack.expand (offset_of old.stack.places + x.1) old in
    subst (λ (z : Kept). IsStep c texts ended asked old z (Ok turns.Silent)) (sym same)
    (silent-step c texts ended asked old made
    (λ outside o.
    let s = subst (λ (a : Result Piece Reason). IsSpelled outside old texts ended a) r.2 (there.piece outside) in
    (sized x.1 (Sgml x.0) ∷ [], (sgml-next outside old texts ended x.0 x.1 h g within s, sym (sgml-after outside old x.0 x.1 h u)), refl))
    (subst (λ m. m < left_to_read old texts) (sym (left-same x.0 texts x.1 old h u)) (falls-moved old texts x.1 (stage_of_syntax old.stage) h r.0 within))
    (restarted-kept x.0 old.stack.expand (offset_of old.stack.places + x.1) old h u) refl)

pub sgml-refused : (c : Choices) (texts : List (ℕ × Text)) (ended : Bool) (asked : Option Name) (old new : Kept) (n : ℕ) (r : Reason) → is_over old ≡ false
    → IsSgmlThere old texts ended n → sgml_piece (take n (rest_in old texts)) ≡ Err r → new ≡ old → IsStep c texts ended asked old new (Err (stop.Refused r))
sgml-refused c texts ended asked old new n r g there is same =
    refused-step c texts ended asked old new r
    (λ outside o. refused outside old texts ended r g (subst (λ (a : Result Piece Reason). IsSpelled outside old texts ended a) is (there.piece outside)))
    same

-- or no memory was there
pub restart-step : (c : Choices) (texts : List (ℕ × Text)) (ended : Bool) (asked : Option Name) (old new : Kept) (n : ℕ) (x : Syntax × ℕ) (expand at : ℕ) (result : Result Turn Stop)
    → IsKept old → is_over old ≡ false → is_before old.stage ≡ true → IsSgmlThere old texts ended n → IsSgmlRead (take n (rest_in old texts)) (Ok x)
    → IfOk result (λ t. t ≡ turns.Silent) → OnOk result (new ≡ restarted x.0 expand at old) → IfErr result (λ e. e ≡ stop.Memory) → OnErr result (new ≡ old)
    → expand ≡ old.stack.expand → at ≡ offset_of old.stack.places + x.1 → IsStep c texts ended asked old new result
restart-step c texts ended asked old new n x expand at (Ok t) h g before there r ok made err left e a =
    subst (λ (z : Turn). IsStep c texts ended asked old new (Ok z)) (sym ok)
    (sgml-step c texts ended asked old new n x h g before there r (made ∙ ap (λ m. restarted x.0 m at old) e ∙ ap (λ m. restarted x.0 old.stack.expand m old) a))
restart-step c texts ended asked old new n x expand at (Err t) h g before there r ok made err left e a =
    subst (λ (z : Stop). IsStep c texts ended asked old new (Err z)) (sym err) (memory-step c texts ended asked old new left)
