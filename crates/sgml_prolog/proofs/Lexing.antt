-- What is kept where a construct of the document type was read over, and how a reader goes back.
use Rattle.std.proofs.Common.{◌≡◌, ℕ, ◌+◌, ◌-◌, ◌<◌, ◌≤◌, Bool, true, false, List, [], ◌∷◌, Option, Ok, length, map, drop, sym, ◌∙◌, ap, subst, arith, inl, inr}
use Rattle.std.specs.Prelude.{IsSome}
use Rattle.sgml_text.specs.declared.place.Place.{Place}
use Rattle.sgml_entity.specs.Stack.{Stack, moved, moved_to, offset_of, opened, place_at}
use Rattle.sgml_entity.specs.declared.places.StackMark.{StackMark}
use Rattle.sgml_dtd.specs.Doctypes.{Doctype}
use Rattle.sgml_declared.specs.theory_reading.Names.{Name, Text}
use Rattle.sgml_declared.specs.theory_reading.Facets.{subset_number}
use Rattle.sgml_declared.specs.theory_reading.Unread.{Outside}
use Rattle.sgml_declared.specs.theory_spelling.Decided.{is_before}
use Rattle.sgml_declared.specs.theory_standing.Kept.{Kept, rest_of, given, AreDeclared}
use Rattle.sgml_declared.specs.theory_standing.Next.{unread_length, left_to_read}
use Rattle.sgml_declared.proofs.theory_standing.Entities.{Longer, declared-more, given-more, declared-moved}
use Rattle.sgml_declared.specs.Files.{Choices}
use Rattle.sgml_declared.specs.Over.{IsReadOver}
use Rattle.sgml_prolog_steps.specs.Standing.{IsKept}
use Rattle.sgml_prolog_steps.specs.Found.{rest_in}
use Rattle.sgml_prolog_steps.specs.declared.stepping.Turn.TheVariants as turns
use Rattle.sgml_prolog_steps.specs.References.{gone_back}
use Rattle.sgml_prolog_steps.specs.Steps.{IsOutside, IsStep, AreSilentNext}
use Rattle.sgml_prolog_steps.proofs.Shared.{kept-moved, falls-moved, length-moved, silent-step}
use Rattle.sgml_prolog_steps.proofs.Referring.{back-places}
use Rattle.sgml_prolog.specs.Ending.{IsAtOrOver}

-- it was read over, and the document type is this; so much was opened inside
abbrev pub read_over : ℕ → ℕ → Doctype → Kept → Kept
read_over n inside d k = record k { doctype = d; stack = record k.stack { spent = k.stack.spent + inside; places = moved n k.stack.places } }

pub grown-by : (a b : ℕ) → a ≤ b → b ≡ a + (b - a)
grown-by a b l = omega (arith, l)

never : true ≡ false → ⊥
never e = cc

pub kept-read : (k : Kept) (n inside : ℕ) (d : Doctype) → IsKept k → is_before k.stage ≡ false → d.syntax ≡ k.doctype.syntax → Longer k.doctype.entities d.entities
    → (IsSome k.doctype.name → IsSome d.name) → IsKept (read_over n inside d k)
kept-read k n inside d h b s x name =
    let q = kept-moved n k h in record {
      levels = h.levels ∙ ap (λ y. y.quantities.entlvl) (sym s);
      document = q.document;
      declared = subst (λ es. AreDeclared es (moved n k.stack.places)) (sym x.same) (declared-more k.doctype.entities x.added (moved n k.stack.places) q.declared);
      nested = q.nested;
      after = q.after;
      before = λ e. absurd (never (sym e ∙ b));
      named = λ i. name (h.named i);
    }

pub falls-read : (k : Kept) (texts : List (ℕ × Text)) (n inside : ℕ) (d : Doctype) → IsKept k → 0 < n → n ≤ length (rest_in k texts) → Longer k.doctype.entities d.entities
    → left_to_read (read_over n inside d k) texts < left_to_read k texts
unfolding left_to_read given
falls-read k texts n inside d h some l x =
    let ps = moved n k.stack.places in
    let a = falls-moved k texts n k.stage h some l in
    let same : map (rest_of d.entities texts) ps ≡ map (rest_of k.doctype.entities texts) ps =
    ap (λ zs. map (rest_of zs texts) ps) x.same ∙ given-more k.doctype.entities x.added texts ps (declared-moved k.doctype.entities n k.stack.places h.declared) in
    let e = ap unread_length same in
    omega (arith, a, e)

-- THE STEP, where what was read over is known in any case
pub step-read-over : (c : Choices) (texts : List (ℕ × Text)) (ended : Bool) (asked : Option Name) (old new : Kept) (n inside : ℕ) (d : Doctype) → IsKept old → is_before old.stage ≡ false
    → 0 < n → n ≤ length (rest_in old texts) → d.syntax ≡ old.doctype.syntax → Longer old.doctype.entities d.entities → (IsSome old.doctype.name → IsSome d.name)
    → new ≡ read_over n inside d old → ((outside : Outside) → IsOutside c outside old texts asked → AreSilentNext outside texts ended old new) → IsStep c texts ended asked old new (Ok turns.Silent)
step-read-over c texts ended asked old new n inside d h b some l syntax more name is s =
    silent-step c texts ended asked old new s
    (subst (λ (z : Kept). left_to_read z texts < left_to_read old texts) (sym is) (falls-read old texts n inside d h some l more))
    (subst IsKept (sym is) (kept-read old n inside d h b syntax more name))
    (ap (λ (z : Kept). z.stack.expand) is)

-- on the stack
pub over-is : (n : ℕ) (s t : Stack) → IsReadOver n s t → t ≡ record s { spent = s.spent + (t.spent - s.spent); places = moved n s.places }
over-is n s t o = o.stack ∙ ap (λ z. record s { spent = z; places = moved n s.places }) (grown-by s.spent t.spent o.grown)

-- GOING BACK to where it was before
back-under : (ps : List Place) (q : Place) (n d at : ℕ) → d + 1 ≡ length ps → at ≡ offset_of ps → moved_to at (drop (length (q ∷ moved n ps) - (d + 1)) (q ∷ moved n ps)) ≡ ps
back-under [] q n d at e f = absurd (omega (arith, e))
back-under (p ∷ ps) q n d at e f =
    let one : length (q ∷ moved n (p ∷ ps)) - (d + 1) ≡ 1 = omega (arith, e) in
    ap (λ m. moved_to at (drop m (q ∷ moved n (p ∷ ps)))) one ∙ ap (λ a. place_at p.entity a ∷ ps) f

-- the mark of this stack
pub record IsMark (m : StackMark) (s : Stack) : Type 0 where
  pub depth : m.depth + 1 ≡ length s.places
  pub at : m.at ≡ offset_of s.places
  pub spent : m.spent ≡ s.spent

pub back-over : (m : StackMark) (old mid new : Kept) (n : ℕ) (t : Stack) → IsMark m old.stack → IsReadOver n old.stack t → mid ≡ record old { stack = t } → new ≡ gone_back m mid → new ≡ old
back-over m old mid new n t k o r g =
    g ∙ (ap (gone_back m) (r ∙ ap (λ (z : Stack). record old { stack = z }) o.stack)
    ∙ (λ i. record old { stack = record old.stack { places = back-places old.stack.places n m.depth m.at k.depth k.at i; spent = k.spent i } }))

back-opened : (m : StackMark) (old mid new : Kept) (n size : ℕ) (t : Stack) → IsMark m old.stack → IsReadOver n old.stack t → mid ≡ record old { stack = opened subset_number size t } → new ≡ gone_back m mid → new ≡ old
back-opened m old mid new n size t k o r g =
    g ∙ (ap (gone_back m) (r ∙ ap (λ (z : Stack). record old { stack = opened subset_number size z }) o.stack)
    ∙ (λ i. record old { stack = record old.stack { places = back-under old.stack.places (place_at subset_number 0) n m.depth m.at k.depth k.at i; spent = k.spent i } }))

-- also where the external subset was opened
pub back-from : (m : StackMark) (old mid last new : Kept) (n : ℕ) → IsMark m old.stack → IsReadOver n old.stack mid.stack → mid ≡ record old { stack = mid.stack }
    → last ≡ record mid { stack = last.stack } → IsAtOrOver mid.stack last.stack → new ≡ gone_back m last → new ≡ old
back-from m old mid last new n k o r w (inl e) g =
    back-over m old last new n mid.stack k o (w ∙ (λ i. record (r i) { stack = e i })) g
back-from m old mid last new n k o r w (inr (size, e)) g =
    back-opened m old last new n size mid.stack k o (w ∙ (λ i. record (r i) { stack = e i })) g

pub deep-over : (m : StackMark) (n : ℕ) (s t : Stack) → IsMark m s → IsReadOver n s t → m.depth < length t.places
deep-over m n s t k o =
    let e = ap (λ (z : Stack). length z.places) o.stack ∙ length-moved n s.places in
    omega (arith, e, k.depth)

pub within-over : (m : StackMark) (n : ℕ) (s t : Stack) → m.spent ≤ s.expand → IsReadOver n s t → m.spent ≤ t.expand
within-over m n s t l o =
    let e = ap (λ (z : Stack). z.expand) o.stack in
    omega (arith, e, l)
