-- The instance goes on after each piece of it.
use Rattle.std.proofs.Common.{◌≡◌, ℕ, suc, ◌+◌, ◌<◌, ◌==◌, ◌||◌, Bool, true, false, List, [], ◌∷◌, None, length, map, refl, sym, ◌∙◌, ap, subst, eq-eqb, inl, inr, arith, rules, tests}
use Rattle.std.specs.Prelude.{◌⊎◌, pred, reverse, IsSome}
use Rattle.std.specs.List.{list_any}
use Rattle.std.specs.Option.{option_or}
use Rattle.std.proofs.lemmas.List.{reverse-reverse}
use Rattle.sgml_text.specs.declared.place.Place.{Place}
use Rattle.sgml_entity.specs.declared.kinds.Entity.{Entity}
use Rattle.sgml_entity.specs.Entities.{first_entity}
use Rattle.sgml_entity.specs.Stack.{moved, lower, place_at}
use Rattle.sgml_marked.specs.declared.sections.Section.{Section}
use Rattle.sgml_prolog_steps.specs.decl_lexemes.Readings.{entity_of}
use Rattle.sgml_infer.specs.sgml_dtd.Doctypes.{Doctype}
use Rattle.sgml_theory_starts.specs.theory_reading.Names.{Text}
use Rattle.sgml_theory_starts.specs.theory_reading.Pieces.{Piece, Kind, Start, End, Char, Data, DataRef, Re, Rs, Sep, ShortRef, Ref, EntityEnd, SectionStart, SectionEnd, Skipped, Pi, Comment, UseMap}
use Rattle.sgml_theory_starts.specs.theory_reading.Facets.{Turn, OpensText, EndsText, StaysInText, turn, Border, Begins, Ends, NoBorder, border, AfterSubset, stage_after, declares, subset_named, subset_number}
use Rattle.sgml_theory_starts.specs.theory_reading.Unread.{turned}
use Rattle.sgml_theory_starts.specs.theory_reading.Sections.{sections_after}
use Rattle.sgml_theory_starts.specs.theory_spelling.Places.{in_section, in_doctype}
use Rattle.sgml_theory_starts.specs.theory_spelling.Nested.{AreNested}
use Rattle.sgml_theory_starts.specs.theory_standing.Kept.{Kept, AreDeclared, kept_after}
use Rattle.sgml_theory_starts.specs.theory_standing.Held.{is_of_content}
use Rattle.sgml_theory_starts.specs.declaring.Taking.{stacked_on}
use Rattle.sgml_prolog_steps.specs.Standing.{LiesUnder}
use Rattle.sgml_prolog_steps.proofs.Top.{apart}
use Rattle.sgml_prolog_steps.proofs.Nesting.{in-section, raised, lowered, nested-ended}
use Rattle.sgml_content_steps.specs.Standing.{IsInInstance}
use Rattle.sgml_content_steps.specs.Laws.{MayBeTaken, InstanceStays}
use Rattle.sgml_content_steps.proofs.Told.{lies-moved, length-moved, declared-moved}

-- WHAT A PIECE OF CONTENT LEAVES AS IT IS
record IsPlain (x : Kind) : Type 0 where
  declares_none : (d : Doctype) → declares x d ≡ d
  names_none : subset_named x ≡ None
  stays : stage_after x AfterSubset ≡ AfterSubset

plain : (x : Kind) → is_of_content x ≡ true → IsPlain x
unfolding declares subset_named stage_after
plain (Start n specifications how proper at_once) e = record { declares_none = λ d. refl; names_none = refl; stays = refl }
plain (End n how) e = record { declares_none = λ d. refl; names_none = refl; stays = refl }
plain (Char byte) e = record { declares_none = λ d. refl; names_none = refl; stays = refl }
plain (Data entity) e = record { declares_none = λ d. refl; names_none = refl; stays = refl }
plain (DataRef entity) e = record { declares_none = λ d. refl; names_none = refl; stays = refl }
plain (Re live) e = record { declares_none = λ d. refl; names_none = refl; stays = refl }
plain Rs e = record { declares_none = λ d. refl; names_none = refl; stays = refl }
plain (Sep byte) e = record { declares_none = λ d. refl; names_none = refl; stays = refl }
plain (ShortRef string meaning) e = record { declares_none = λ d. refl; names_none = refl; stays = refl }
plain (Ref entity) e = record { declares_none = λ d. refl; names_none = refl; stays = refl }
plain EntityEnd e = record { declares_none = λ d. refl; names_none = refl; stays = refl }
plain (SectionStart status) e = record { declares_none = λ d. refl; names_none = refl; stays = refl }
plain SectionEnd e = record { declares_none = λ d. refl; names_none = refl; stays = refl }
plain (Skipped byte) e = record { declares_none = λ d. refl; names_none = refl; stays = refl }
plain (Pi text entity) e = record { declares_none = λ d. refl; names_none = refl; stays = refl }
plain Comment e = record { declares_none = λ d. refl; names_none = refl; stays = refl }
plain (UseMap map) e = record { declares_none = λ d. refl; names_none = refl; stays = refl }
plain _ e = apart false e refl

-- no text is opened and none ends where a section starts or ends
abbrev Fits : Turn → Border → Type 0
Fits StaysInText b = Unit {0}
Fits _ NoBorder = Unit {0}
Fits _ _ = ⊥

fits-none : (t : Turn) → Fits t NoBorder
fits-none StaysInText = tt
fits-none EndsText = tt
fits-none (OpensText e) = tt

only-one : (x : Kind) → (turn x ≡ StaysInText) ⊎ (border x ≡ NoBorder)
unfolding turn border
only-one (SectionStart status) = inl refl
only-one SectionEnd = inl refl
only-one _ = inr refl

fits : (x : Kind) → Fits (turn x) (border x)
fits x = by (only-one x)
  where
    by : (turn x ≡ StaysInText) ⊎ (border x ≡ NoBorder) → Fits (turn x) (border x)
    by (inl e) = subst (λ t. Fits t (border x)) (sym e) tt
    by (inr e) = subst (λ b. Fits (turn x) b) (sym e) (fits-none (turn x))

-- THE TEXTS after it
abbrev IsOpened : List Entity → Turn → Type 0
IsOpened es (OpensText e) = (1 < e) × (e < length es + first_entity)
IsOpened es _ = Unit {0}

opened-of : (es : List Entity) (t : Turn) → ((number : ℕ) → t ≡ OpensText number → (1 < number) × (number < length es + first_entity)) → IsOpened es t
opened-of es (OpensText e) h = h e refl
opened-of es EndsText h = tt
opened-of es StaysInText h = tt

other-number : (m n : ℕ) → m < n → (n == m) ≡ false
other-number m n l = search (rules, tests)

lies-over : (e : ℕ) (ps : List Place) → 1 < e → LiesUnder ps → LiesUnder (place_at e 0 ∷ ps)
lies-over e [] l u = absurd u
lies-over e (p ∷ ps) l u = (other-number 0 e (omega (arith, l)), u)

lies-lower : (n : ℕ) (ps : List Place) → LiesUnder ps → (entity_of ps == 0) ≡ false → LiesUnder (lower (moved n ps))
lies-lower n [] l e = absurd l
lies-lower n (p ∷ []) l e = apart (p.entity == 0) (eq-eqb p.entity 0 l) e
lies-lower n (p ∷ q ∷ ps) l e = l.1

lies-turned : (es : List Entity) (t : Turn) (n : ℕ) (ps : List Place) → IsOpened es t → (t ≡ EndsText → (entity_of ps == 0) ≡ false) → LiesUnder ps → LiesUnder (turned t (moved n ps))
lies-turned es (OpensText e) n ps o h u = lies-over e (moved n ps) o.0 (lies-moved n ps u)
lies-turned es EndsText n ps o h u = lies-lower n ps u (h refl)
lies-turned es StaysInText n ps o h u = lies-moved n ps u

declared-turned : (es : List Entity) (t : Turn) (n : ℕ) (ps : List Place) → IsOpened es t → AreDeclared es ps → AreDeclared es (turned t (moved n ps))
declared-turned es (OpensText e) n ps o d = (o.1, declared-moved n es ps d)
declared-turned es EndsText n [] o d = tt
declared-turned es EndsText n (p ∷ ps) o d = d.1
declared-turned es StaysInText n ps o d = declared-moved n es ps d

abbrev has_subset : List Place → Bool
has_subset ps = list_any (λ n. n == subset_number) (map (λ (p : Place). p.entity) ps)

or-right : (a b : Bool) → (a || b) ≡ false → b ≡ false
or-right true b e = apart true refl e
or-right false b e = e

subset-moved : (n : ℕ) (ps : List Place) → has_subset (moved n ps) ≡ has_subset ps
subset-moved n [] = refl
subset-moved n (p ∷ ps) = refl

subset-turned : (es : List Entity) (t : Turn) (n : ℕ) (ps : List Place) → IsOpened es t → has_subset ps ≡ false → has_subset (turned t (moved n ps)) ≡ false
subset-turned es (OpensText e) n ps o h = ap (λ b. b || has_subset (moved n ps)) (other-number 1 e o.0) ∙ (subset-moved n ps ∙ h)
subset-turned es EndsText n [] o h = refl
subset-turned es EndsText n (p ∷ ps) o h = or-right (p.entity == subset_number) (has_subset ps) h
subset-turned es StaysInText n ps o h = subset-moved n ps ∙ h

-- THE SECTIONS after it
length-lower : (n : ℕ) (ps : List Place) → length (lower (moved n ps)) ≡ pred (length ps)
length-lower n [] = refl
length-lower n (p ∷ ps) = refl

nested-turned : (t : Turn) (b : Border) (n : ℕ) (ps : List Place) (ss : List Section) → Fits t b → AreNested (length ps) ss → (t ≡ EndsText → in_section (length ps) ss ≡ false)
    → AreNested (length (turned t (moved n ps))) (sections_after b (length ps) ss)
nested-turned StaysInText NoBorder n ps ss f h e = subst (λ m. AreNested m ss) (sym (length-moved n ps)) h
nested-turned StaysInText (Begins status) n ps ss f h e = (let l = length-moved n ps in omega (arith, l), h)
nested-turned StaysInText Ends n ps ss f h e = subst (λ m. AreNested m (sections_after Ends (length ps) ss)) (sym (length-moved n ps)) (nested-ended (length ps) ss h)
nested-turned (OpensText number) NoBorder n ps ss f h e = raised (length ps) (suc (length (moved n ps))) ss (let l = length-moved n ps in omega (arith, l)) h
nested-turned EndsText NoBorder n ps ss f h e = subst (λ m. AreNested m ss) (sym (length-lower n ps)) (lowered (length ps) ss h (e refl))
nested-turned (OpensText number) (Begins status) n ps ss f h e = absurd f
nested-turned (OpensText number) Ends n ps ss f h e = absurd f
nested-turned EndsText (Begins status) n ps ss f h e = absurd f
nested-turned EndsText Ends n ps ss f h e = absurd f

-- AFTER A PIECE
lasting : (text : ℕ → Text) (k : Kept) (p : Piece) → IsInInstance k → MayBeTaken k p.kind → IsInInstance (kept_after text p k)
unfolding kept_after
lasting text k p i m =
    let x = p.kind in
    let same = plain x m.of_content in
    let ps = k.stack.places in
    let o = opened-of k.doctype.entities (turn x) m.opened in
    let ss = reverse k.sections in
    let closed : turn x ≡ EndsText → in_section (length ps) ss ≡ false = λ e. in-section (length ps) k.sections i.nested ∙ (m.ended e).1 in
    let stage : stage_after x k.stage ≡ AfterSubset = ap (stage_after x) i.stage ∙ same.stays in
    record {
      levels = refl;
      document = lies-turned k.doctype.entities (turn x) p.size ps o (λ e. (m.ended e).0) i.document;
      declared = subst (λ (d : Doctype). AreDeclared d.entities (turned (turn x) (moved p.size ps))) (sym (same.declares_none k.doctype))
          (declared-turned k.doctype.entities (turn x) p.size ps o i.declared);
      nested = subst (AreNested (length (turned (turn x) (moved p.size ps)))) (sym (reverse-reverse (sections_after (border x) (length ps) ss)))
          (nested-turned (turn x) (border x) p.size ps ss (fits x) i.nested closed);
      stage = stage;
      no_subset = ap (λ g. in_doctype g (map (λ (q : Place). q.entity) (turned (turn x) (moved p.size ps)))) stage
          ∙ subset-turned k.doctype.entities (turn x) p.size ps o (sym (ap (λ g. in_doctype g (stacked_on k.stack).entities) i.stage) ∙ i.no_subset);
      named = named-of same;
    }
  where
    named-of : IsPlain p.kind → IsSome (option_or (subset_named p.kind) k.subset) → IsSome (declares p.kind k.doctype).name
    named-of same h =
        subst (λ (d : Doctype). IsSome d.name) (sym (same.declares_none k.doctype))
        (i.named (subst (λ o. IsSome (option_or o k.subset)) same.names_none h))

pub instance-stays : InstanceStays
instance-stays outside k p i m = lasting _ k p i m
