-- The ends of marked sections and of texts, and what has no place.
use Rattle.std.proofs.Common.{◌≡◌, ℕ, ◌+◌, ◌-◌, ◌*◌, ◌<◌, ◌≤◌, ◌==◌, ◌&&◌, Bool, true, false, List, [], ◌∷◌, Option, None, Some, Result, Ok, Err, length, map, drop, take, refl, sym, ◌∙◌, ap, subst, arith, if◌then◌else◌, eqb-true, eq-eqb}
use Rattle.std.specs.Prelude.{reverse, pred}
use Rattle.std.proofs.lemmas.List.{reverse-reverse}
use Rattle.sgml_text.specs.declared.place.Place.{Place}
use Rattle.sgml_text.specs.declared.reason.Reason.{Reason}
use Rattle.sgml_text.specs.declared.reason.Reason.TheVariants as reason
use Rattle.sgml_entity.specs.declared.kinds.Entity.{Entity}
use Rattle.sgml_entity.specs.Stack.{moved, lower}
use Rattle.sgml_delim.specs.declared.delim.Mode.{Mode}
use Rattle.sgml_delim.specs.declared.delim.Mode.TheVariants as mode
use Rattle.sgml_marked.specs.declared.sections.Section.{Section}
use Rattle.sgml_marked.specs.Opened.{is_open_at, without_last}
use Rattle.sgml_markup.specs.declared.kinds.TokenKind.{TokenKind}
use Rattle.sgml_markup.specs.declared.kinds.TokenKind.TheVariants as kind
use Rattle.sgml_scan.specs.declared.state.Token.{Token}
use Rattle.sgml_decl_lexemes.specs.Readings.{entity_of}
use Rattle.sgml_declared.specs.theory_reading.Names.{Name, Text}
use Rattle.sgml_declared.specs.theory_reading.Pieces.{Piece, EntityEnd, SectionEnd}
use Rattle.sgml_declared.specs.theory_reading.Nest.{without_first}
use Rattle.sgml_declared.specs.theory_reading.Facets.{Stage, BeforeSyntax, AtBeginning, BeforeDoctype, InSubset, AfterSubset, OpensText, StaysInText, EndsText, turn, border, declares, subset_named, stage_after, stage_begun}
use Rattle.sgml_declared.specs.theory_reading.Unread.{Outside}
use Rattle.sgml_declared.specs.theory_reading.State.{State}
use Rattle.sgml_declared.specs.theory_reading.Characters.{kind_noted}
use Rattle.sgml_declared.specs.theory_reading.Reads.{is_after_subset}
use Rattle.sgml_declared.specs.theory_spelling.Stacked.{Stacked}
use Rattle.sgml_declared.specs.theory_spelling.Sized.{sized, unless_reason}
use Rattle.sgml_declared.specs.theory_spelling.Places.{in_section}
use Rattle.sgml_declared.specs.theory_spelling.Nested.{AreNested}
use Rattle.sgml_declared.specs.theory_spelling.Content.{section_end}
use Rattle.sgml_declared.specs.theory_spelling.Decided.{is_before}
use Rattle.sgml_declared.specs.sgml_dtd.Doctypes.{Doctype}
use Rattle.sgml_declared.specs.sgml_dtd.Rows.{final_reason}
use Rattle.sgml_declared.specs.theory_spelling.Prolog.{piece_before, subset_piece, at_type_end}
use Rattle.sgml_declared.specs.theory_spelling.Spelled.{spelled_in, text_end, document_end, type_end, entity_end}
use Rattle.sgml_declared.specs.theory_standing.Kept.{Kept, rest_of, given, kept_after, AreDeclared}
use Rattle.sgml_declared.specs.theory_standing.Prologs.{state_in_prolog, is_over}
use Rattle.sgml_declared.specs.theory_standing.Next.{after, IsNext, unread_length, left_to_read}
use Rattle.sgml_declared.specs.Files.{Choices}
use Rattle.sgml_declared.specs.Taking.{stacked_on}
use Rattle.sgml_prolog_steps.specs.Standing.{LiesUnder, SubsetLiesUnder, IsKept}
use Rattle.sgml_prolog_steps.specs.Found.{rest_in, moved_on, mode_of, IsSpelled, is_each, IsTokenThere, IsFound, innermost}
use Rattle.sgml_prolog_steps.specs.declared.found.Found.TheVariants as found
use Rattle.sgml_prolog_steps.proofs.Top.{apart, spelled-at-top, decided-by-bytes}
use Rattle.sgml_prolog_steps.proofs.Told.{mode-is}
use Rattle.sgml_prolog_steps.specs.declared.sort.Sort.TheVariants as sort
use Rattle.sgml_prolog_steps.specs.declared.stepping.Turn.TheVariants as turns
use Rattle.sgml_prolog_steps.specs.declared.stepping.Stop.TheVariants as stop
use Rattle.sgml_prolog_steps.specs.Sorts.{sort_inside, sort_in, is_ignored}
use Rattle.sgml_prolog_steps.specs.Steps.{Takes, IsStep, begun_on, section_ended, text_ended, document_reason}
use Rattle.sgml_prolog_steps.proofs.Shared.{length-first, kept-begun, kept-staged, falls-moved, refused, silent-step, refused-step, add-none, begun-after, begun-before}
use Rattle.sgml_prolog_steps.proofs.Bytes.{IsOnePiece, sort_by, piece-is, length-own, other-mode}
use Rattle.sgml_prolog_steps.proofs.Nesting.{in-section, lowered, nested-ended, last-ended}

-- WHAT HAS NO PLACE

abbrev misfit_reason : Bool → Reason
misfit_reason before = if before then reason.NoDoctype else reason.DeclarationSyntax

chars-misfit : (outside : Outside) (s : State) (t : Stacked) (m : Mode) (own : Text) → (m ≡ mode.Ign → ⊥) → subset_piece outside s t m kind.Chars own ≡ Err reason.DeclarationSyntax
unfolding subset_piece
chars-misfit outside s t mode.Ign own n = absurd (n refl)
chars-misfit outside s t _ own n = refl

-- of a stretch the first byte, else the whole token
record IsRefusedPiece (before : Bool) (x : TokenKind) (outside : Outside) (s : State) (t : Stacked) (m : Mode) : Type 0 where
  piece : (own : Text) → (if before then piece_before outside s t x own else subset_piece outside s t m x own) ≡ Err (misfit_reason before)

misfit-inside : (ignored : Bool) (x : TokenKind) (outside : Outside) (s : State) (t : Stacked) (m : Mode) → sort_inside ignored x ≡ sort.Misfit → (ignored ≡ false → m ≡ mode.Ign → ⊥)
    → (own : Text) → subset_piece outside s t m x own ≡ Err reason.DeclarationSyntax
unfolding subset_piece
misfit-inside true kind.Chars outside s t m e n own = absurd (cc)
misfit-inside false kind.Chars outside s t m e n own = chars-misfit outside s t m own (n refl)
misfit-inside ignored kind.Separators outside s t m e n own = absurd (cc)
misfit-inside ignored kind.Pi outside s t m e n own = absurd (cc)
misfit-inside ignored kind.Comment outside s t m e n own = absurd (cc)
misfit-inside ignored kind.ParameterRef outside s t m e n own = absurd (cc)
misfit-inside ignored kind.SectionStart outside s t m e n own = absurd (cc)
misfit-inside ignored kind.SectionEnd outside s t m e n own = absurd (cc)
misfit-inside ignored kind.Declaration outside s t m e n own = absurd (cc)
misfit-inside ignored kind.SubsetEnd outside s t m e n own = absurd (cc)
misfit-inside ignored _ outside s t mode.Ign e n own = refl
misfit-inside ignored _ outside s t _ e n own = refl

misfit-is : (before ignored : Bool) (x : TokenKind) (outside : Outside) (s : State) (t : Stacked) (m : Mode) → sort_by before ignored x ≡ sort.Misfit
    → (ignored ≡ false → m ≡ mode.Ign → ⊥) → (own : Text) → (if before then piece_before outside s t x own else subset_piece outside s t m x own) ≡ Err (misfit_reason before)
unfolding piece_before
misfit-is true ignored kind.Separators outside s t m e n own = absurd (cc)
misfit-is true ignored kind.Pi outside s t m e n own = absurd (cc)
misfit-is true ignored kind.Comment outside s t m e n own = absurd (cc)
misfit-is true ignored kind.Declaration outside s t m e n own = absurd (cc)
misfit-is true ignored _ outside s t m e n own = refl
misfit-is false ignored x outside s t m e n own = misfit-inside ignored x outside s t m e n own

refused-token : (outside : Outside) (k : Kept) (texts : List (ℕ × Text)) (ended : Bool) (x : Token) (r : Reason) (each : Bool) → 0 < x.length
    → Rattle.sgml_prolog_steps.specs.Found.IsPiece outside k texts ended x each
    → ((own : Text) → Rattle.sgml_prolog_steps.specs.Found.piece_of outside k x.kind own ≡ Err r) → IsSpelled outside k texts ended (Err r)
refused-token outside k texts ended x r true some p is =
    subst (λ (z : Kept). IsSpelled outside z texts ended (Err r)) (Rattle.sgml_prolog_steps.proofs.Shared.moved-zero k)
    (subst (λ (a : Result Piece Reason). IsSpelled outside (moved_on 0 k) texts ended a) (is (take 1 (drop 0 (rest_in k texts)))) (p 0 some))
refused-token outside k texts ended x r false some p is = subst (λ (a : Result Piece Reason). IsSpelled outside k texts ended a) (is (take x.length (rest_in k texts))) p

pub misfit-step : (texts : List (ℕ × Text)) (x : Token) (old : Kept) (r : Reason) → IsKept old → is_over old ≡ false → sort_in old x.kind ≡ sort.Misfit
    → r ≡ misfit_reason (is_before old.stage) → Takes texts x old old (Err (stop.Refused r))
misfit-step texts x old r h g e w c ended asked there =
    subst (λ z. IsStep c texts ended asked old old (Err (stop.Refused z))) (sym w)
    (refused-step c texts ended asked old old (misfit_reason (is_before old.stage))
    (λ outside o. refused outside old texts ended (misfit_reason (is_before old.stage)) g
    (refused-token outside old texts ended x (misfit_reason (is_before old.stage)) (is_each (is_before old.stage) x.kind) there.some (there.piece outside)
    (misfit-is (is_before old.stage) (is_ignored (innermost old.sections)) x.kind outside (state_in_prolog old) (stacked_on old.stack) (mode_of old) e
    (λ f m. other-mode (innermost old.sections) f (sym (mode-is old h g) ∙ m)))))
    refl)

-- THE END OF A SECTION

pub sections-open : (k : Kept) → IsKept k → in_section (length k.stack.places) (reverse k.sections) ≡ is_open_at (length k.stack.places) k.sections
sections-open k h = in-section (length k.stack.places) k.sections h.nested

section-end-inside : (outside : Outside) (s : State) (t : Stacked) (m : Mode) (own : Text) → subset_piece outside s t m kind.SectionEnd own ≡ section_end s (length own)
unfolding subset_piece
section-end-inside outside s t mode.Ign own = refl
section-end-inside outside s t _ own = refl

section-end-is : (before ignored : Bool) (x : TokenKind) (outside : Outside) (s : State) (t : Stacked) (m : Mode) → sort_by before ignored x ≡ sort.SectionEnd
    → IsOnePiece before x outside s t m (λ own. section_end s (length own))
section-end-is true ignored kind.Separators outside s t m e = absurd (cc)
section-end-is true ignored kind.Pi outside s t m e = absurd (cc)
section-end-is true ignored kind.Comment outside s t m e = absurd (cc)
section-end-is true ignored kind.Declaration outside s t m e = absurd (cc)
section-end-is true ignored _ outside s t m e = absurd (cc)
section-end-is false ignored kind.SectionEnd outside s t m e = record { each = refl; piece = λ own. section-end-inside outside s t m own }
section-end-is false true kind.Chars outside s t m e = absurd (cc)
section-end-is false false kind.Chars outside s t m e = absurd (cc)
section-end-is false ignored _ outside s t m e = absurd (cc)

section-end-by : (k : Kept) (n : ℕ) (b : Bool) → IsKept k → is_open_at (length k.stack.places) k.sections ≡ b
    → section_end (state_in_prolog k) n ≡ (if b then Ok (sized n SectionEnd) else Err reason.SectionNone)
unfolding state_in_prolog
section-end-by k n b h e = ap (λ t. if t then Ok (sized n SectionEnd) else Err reason.SectionNone) (sections-open k h ∙ e)

section-spelled : (outside : Outside) (k : Kept) (texts : List (ℕ × Text)) (ended : Bool) (x : Token) (b : Bool) → IsKept k → sort_in k x.kind ≡ sort.SectionEnd → IsTokenThere k texts ended x
    → is_open_at (length k.stack.places) k.sections ≡ b → IsSpelled outside k texts ended (if b then Ok (sized x.length SectionEnd) else Err reason.SectionNone)
section-spelled outside k texts ended x b h e there o =
    let is = section-end-is (is_before k.stage) (is_ignored (innermost k.sections)) x.kind outside (state_in_prolog k) (stacked_on k.stack) (mode_of k) e in
    let s = piece-is k texts ended x (λ own. section_end (state_in_prolog k) (length own)) outside is there in
    subst (λ (a : Result Piece Reason). IsSpelled outside k texts ended a)
    (ap (section_end (state_in_prolog k)) (length-own x.length (rest_in k texts) there.within) ∙ section-end-by k x.length b h o) s

pub section-none-step : (texts : List (ℕ × Text)) (x : Token) (old : Kept) → IsKept old → is_over old ≡ false → sort_in old x.kind ≡ sort.SectionEnd
    → is_open_at (length old.stack.places) old.sections ≡ false → Takes texts x old old (Err (stop.Refused reason.SectionNone))
section-none-step texts x old h g e o c ended asked there =
    refused-step c texts ended asked old old reason.SectionNone
    (λ outside i. refused outside old texts ended reason.SectionNone g (section-spelled outside old texts ended x false h e there o)) refl

kept-ended : (k : Kept) → IsKept k → is_open_at (length k.stack.places) k.sections ≡ true → IsKept (section_ended (length k.stack.places) k)
kept-ended k h o =
    let n = length k.stack.places in
    let here : in_section n (reverse k.sections) ≡ true = sections-open k h ∙ o in
    let same : reverse (without_last n k.sections) ≡ without_first (reverse k.sections) = ap reverse (last-ended n k.sections here) ∙ reverse-reverse (without_first (reverse k.sections)) in
    record {
      levels = h.levels;
      document = h.document;
      declared = h.declared;
      nested = subst (λ (ss : List Section). AreNested n ss) (sym same) (nested-ended n (reverse k.sections) h.nested);
      after = h.after;
      before = λ e. let u = h.before e in record {
        doctype = u.doctype;
        one_text = u.one_text;
        none_opened = u.none_opened;
        no_section = ap (without_last n) u.no_section;
        no_subset = u.no_subset;
      };
      named = h.named;
    }

section-after : (outside : Outside) (k : Kept) (n : ℕ) → IsKept k → is_open_at (length k.stack.places) k.sections ≡ true
    → after outside (sized n SectionEnd) k ≡ begun_on n (section_ended (length k.stack.places) k)
unfolding kept_after turn border declares subset_named stage_after
section-after outside k n h o = λ i. record {
  doctype = k.doctype;
  stack = record { levels = sym h.levels i; expand = k.stack.expand; spent = add-none k.stack.spent i; places = moved n k.stack.places };
  sections = sym (last-ended (length k.stack.places) k.sections (sections-open k h ∙ o)) i;
  stage = stage_begun k.stage;
  subset = k.subset;
}

section-next : (outside : Outside) (k : Kept) (texts : List (ℕ × Text)) (ended : Bool) (n : ℕ) → IsKept k → is_over k ≡ false → n ≤ length (rest_in k texts)
    → IsSpelled outside k texts ended (Ok (sized n SectionEnd)) → IsNext outside k texts ended (sized n SectionEnd)
unfolding turn subset_named kind_noted
section-next outside k texts ended n h g l s = record {
  going_on = g;
  of_prolog = refl;
  decided = s.decided;
  spelled = s.spelled;
  noted = refl;
  there = record {
    within = subst (λ m. n ≤ m) (sym (length-first k texts h)) l;
    opened = λ m e. absurd (no-turn m e);
    subset = λ named text e i. absurd (no-subset named e);
  };
}
  where
    no-turn : (m : ℕ) → StaysInText ≡ OpensText m → ⊥
    no-turn m e = cc

    no-subset : {A : Type 0} (a : A) → None ≡ Some a → ⊥
    no-subset a e = cc

section-falls : (k : Kept) (texts : List (ℕ × Text)) (n : ℕ) → IsKept k → 0 < n → n ≤ length (rest_in k texts)
    → left_to_read (begun_on n (section_ended (length k.stack.places) k)) texts < left_to_read k texts
unfolding left_to_read given
section-falls k texts n h some l = falls-moved k texts n k.stage h some l

pub section-end-step : (texts : List (ℕ × Text)) (x : Token) (old mid new : Kept) (on : ℕ) → IsKept old → is_over old ≡ false → sort_in old x.kind ≡ sort.SectionEnd
    → on ≡ length old.stack.places → is_open_at on old.sections ≡ true → mid ≡ section_ended on old → new ≡ begun_on x.length mid → Takes texts x old new (Ok turns.Silent)
section-end-step texts x old mid new on h g e size o m n c ended asked there =
    let o' : is_open_at (length old.stack.places) old.sections ≡ true = ap (λ j. is_open_at j old.sections) (sym size) ∙ o in
    let is : new ≡ begun_on x.length (section_ended (length old.stack.places) old) = n ∙ ap (begun_on x.length) (m ∙ ap (λ j. section_ended j old) size) in
    subst (λ (z : Kept). IsStep c texts ended asked old z (Ok turns.Silent)) (sym is)
    (silent-step c texts ended asked old (begun_on x.length (section_ended (length old.stack.places) old))
    (λ outside i. (
      sized x.length SectionEnd ∷ [],
      (
        section-next outside old texts ended x.length h g there.within (section-spelled outside old texts ended x true h e there o'),
        sym (section-after outside old x.length h o'),
      ),
      refl,
    ))
    (section-falls old texts x.length h there.some there.within)
    (kept-begun x.length (section_ended (length old.stack.places) old) (kept-ended old h o')) refl)

-- THE END OF A TEXT

end-spelled : (outside : Outside) (k : Kept) (texts : List (ℕ × Text)) (ended : Bool) → IsKept k → IsFound k texts ended found.End
    → IsSpelled outside k texts ended (text_end (state_in_prolog k) (entity_of k.stack.places))
end-spelled outside k texts ended h f = record {
  decided = decided-by-bytes outside (state_in_prolog k) k texts ended h.document (λ e. apart _ e f.1);
  spelled = spelled-at-top outside (state_in_prolog k) k texts h.document
      ∙ ap (spelled_in outside (state_in_prolog k) (stacked_on k.stack) (entity_of k.stack.places)) f.0;
}

-- the document is at the top where it is the only text
document-alone : (ps : List Place) → LiesUnder ps → (entity_of ps == 0) ≡ true → length ps ≡ 1
document-alone [] l e = absurd l
document-alone (p ∷ []) l e = refl
document-alone (p ∷ q ∷ ps) l e = apart (p.entity == 0) e l.0

not-after : (k : Kept) → is_over k ≡ false → length k.stack.places ≡ 1 → is_after_subset k.stage ≡ false
not-after k g e = by (is_after_subset k.stage) refl
  where
    by : (t : Bool) → is_after_subset k.stage ≡ t → is_after_subset k.stage ≡ false
    by false a = a
    by true a = apart (is_over k) ((λ i. a i && (length k.stack.places == 1)) ∙ ap (λ n. n == 1) e) g

document-ends : (g : Stage) (t : Bool) → is_after_subset g ≡ false → document_end g t ≡ Err (document_reason g)
document-ends BeforeSyntax t e = refl
document-ends AtBeginning t e = refl
document-ends BeforeDoctype t e = refl
document-ends InSubset t e = refl
document-ends AfterSubset t e = apart true refl e

document-end-by : (k : Kept) → IsKept k → is_over k ≡ false → (entity_of k.stack.places == 0) ≡ true → text_end (state_in_prolog k) (entity_of k.stack.places) ≡ Err (document_reason k.stage)
unfolding state_in_prolog
document-end-by k h g e =
    let open_section = in_section (length k.stack.places) (reverse k.sections) in
    ap (λ t. if t then document_end k.stage open_section else entity_end (state_in_prolog k) (entity_of k.stack.places) open_section) e
    ∙ document-ends k.stage open_section (not-after k g (document-alone k.stack.places h.document e))

pub document-end-step : (texts : List (ℕ × Text)) (c : Choices) (ended : Bool) (asked : Option Name) (old : Kept) (r : Reason) → IsKept old → is_over old ≡ false
    → (entity_of old.stack.places == 0) ≡ true → r ≡ document_reason old.stage → IsFound old texts ended found.End → IsStep c texts ended asked old old (Err (stop.Refused r))
document-end-step texts c ended asked old r h g e w f =
    subst (λ z. IsStep c texts ended asked old old (Err (stop.Refused z))) (sym w)
    (refused-step c texts ended asked old old (document_reason old.stage)
    (λ outside o. refused outside old texts ended (document_reason old.stage) g
    (subst (λ (a : Result Piece Reason). IsSpelled outside old texts ended a) (document-end-by old h g e) (end-spelled outside old texts ended h f))) refl)

entity-end-by : (k : Kept) (b : Bool) → IsKept k → (entity_of k.stack.places == 0) ≡ false → is_open_at (length k.stack.places) k.sections ≡ b
    → text_end (state_in_prolog k) (entity_of k.stack.places) ≡ (if b then Err reason.SectionOpen else unless_reason (type_end (entity_of k.stack.places) k.doctype) (sized 0 EntityEnd))
unfolding state_in_prolog
entity-end-by k b h e o =
    let n = entity_of k.stack.places in
    let s : State = state_in_prolog k in
    let open_section = in_section (length k.stack.places) (reverse k.sections) in
    ap (λ t. if t then document_end k.stage open_section else entity_end s n open_section) e
    ∙ (ap (entity_end s n) (sections-open k h ∙ o) ∙ by b)
  where
    by : (b : Bool) → entity_end (state_in_prolog k) (entity_of k.stack.places) b ≡ (if b then Err reason.SectionOpen else unless_reason (type_end (entity_of k.stack.places) k.doctype) (sized 0 EntityEnd))
    by true = refl
    by false = refl

end-refused : (texts : List (ℕ × Text)) (c : Choices) (ended : Bool) (asked : Option Name) (old : Kept) (r : Reason) → IsKept old → is_over old ≡ false
    → text_end (state_in_prolog old) (entity_of old.stack.places) ≡ Err r → IsFound old texts ended found.End → IsStep c texts ended asked old old (Err (stop.Refused r))
end-refused texts c ended asked old r h g e f =
    refused-step c texts ended asked old old r
    (λ outside o. refused outside old texts ended r g (subst (λ (a : Result Piece Reason). IsSpelled outside old texts ended a) e (end-spelled outside old texts ended h f))) refl

pub section-open-step : (texts : List (ℕ × Text)) (c : Choices) (ended : Bool) (asked : Option Name) (old : Kept) → IsKept old → is_over old ≡ false
    → (entity_of old.stack.places == 0) ≡ false → is_open_at (length old.stack.places) old.sections ≡ true → IsFound old texts ended found.End
    → IsStep c texts ended asked old old (Err (stop.Refused reason.SectionOpen))
section-open-step texts c ended asked old h g e o f = end-refused texts c ended asked old reason.SectionOpen h g (entity-end-by old true h e o) f

pub type-end-step : (texts : List (ℕ × Text)) (c : Choices) (ended : Bool) (asked : Option Name) (old : Kept) (r : Reason) → IsKept old → is_over old ≡ false
    → (entity_of old.stack.places == 0) ≡ false → is_open_at (length old.stack.places) old.sections ≡ false → type_end (entity_of old.stack.places) old.doctype ≡ Some r
    → IsFound old texts ended found.End → IsStep c texts ended asked old old (Err (stop.Refused r))
type-end-step texts c ended asked old r h g e o w f =
    end-refused texts c ended asked old r h g (entity-end-by old false h e o ∙ ap (λ z. unless_reason z (sized 0 EntityEnd)) w) f

-- what is kept then
lies-lower : (ps : List Place) → LiesUnder ps → (entity_of ps == 0) ≡ false → LiesUnder (lower ps)
lies-lower [] l e = absurd l
lies-lower (p ∷ []) l e = apart (p.entity == 0) (eq-eqb p.entity 0 l) e
lies-lower (p ∷ q ∷ ps) l e = l.1

subset-lower : (ps : List Place) → SubsetLiesUnder ps → SubsetLiesUnder (lower ps)
subset-lower [] l = tt
subset-lower (p ∷ []) l = tt
subset-lower (p ∷ q ∷ []) l = tt
subset-lower (p ∷ q ∷ r ∷ ps) l = l

declared-lower : (es : List Entity) (ps : List Place) → AreDeclared es ps → AreDeclared es (lower ps)
declared-lower es [] d = tt
declared-lower es (p ∷ ps) d = d.1

length-lower : (ps : List Place) → length (lower ps) ≡ pred (length ps)
length-lower [] = refl
length-lower (p ∷ ps) = refl

one-document : (ps : List Place) → LiesUnder ps → length ps ≡ 1 → (entity_of ps == 0) ≡ true
one-document [] l e = absurd l
one-document (p ∷ []) l e = eq-eqb p.entity 0 l
one-document (p ∷ q ∷ ps) l e = absurd (omega (arith, e))

kept-lower : (k : Kept) → IsKept k → (entity_of k.stack.places == 0) ≡ false → is_open_at (length k.stack.places) k.sections ≡ false → IsKept (text_ended k)
kept-lower k h e o =
    kept-staged (record k { stack = record k.stack { places = lower k.stack.places } }) (stage_begun k.stage) (begun-after k.stage) (begun-before k.stage)
    (record {
      levels = h.levels;
      document = lies-lower k.stack.places h.document e;
      declared = declared-lower k.doctype.entities k.stack.places h.declared;
      nested = subst (λ n. AreNested n (reverse k.sections)) (sym (length-lower k.stack.places)) (lowered (length k.stack.places) (reverse k.sections) h.nested (sections-open k h ∙ o));
      after = λ a. subset-lower k.stack.places (h.after a);
      before = λ b. let u = h.before b in apart (entity_of k.stack.places == 0) (one-document k.stack.places h.document u.one_text) e;
      named = h.named;
    })

turned-lower : (ps : List Place) → lower (moved 0 ps) ≡ lower ps
turned-lower [] = refl
turned-lower (p ∷ ps) = refl

end-after : (outside : Outside) (k : Kept) → IsKept k → after outside (sized 0 EntityEnd) k ≡ text_ended k
unfolding kept_after turn border declares subset_named stage_after
end-after outside k h = λ i. record {
  doctype = k.doctype;
  stack = record { levels = sym h.levels i; expand = k.stack.expand; spent = add-none k.stack.spent i; places = turned-lower k.stack.places i };
  sections = reverse-reverse k.sections i;
  stage = stage_begun k.stage;
  subset = k.subset;
}

end-next : (outside : Outside) (k : Kept) (texts : List (ℕ × Text)) (ended : Bool) → is_over k ≡ false
    → IsSpelled outside k texts ended (Ok (sized 0 EntityEnd)) → IsNext outside k texts ended (sized 0 EntityEnd)
unfolding turn subset_named kind_noted
end-next outside k texts ended g s = record {
  going_on = g;
  of_prolog = refl;
  decided = s.decided;
  spelled = s.spelled;
  noted = refl;
  there = record {
    within = omega arith;
    opened = λ m e. absurd (no-turn m e);
    subset = λ named text e i. absurd (no-subset named e);
  };
}
  where
    no-turn : (m : ℕ) → EndsText ≡ OpensText m → ⊥
    no-turn m e = cc

    no-subset : {A : Type 0} (a : A) → None ≡ Some a → ⊥
    no-subset a e = cc

lower-falls : (es : List Entity) (texts : List (ℕ × Text)) (n : ℕ) (ps : List Place) → LiesUnder ps
    → 2 * (unread_length (map (rest_of es texts) (lower ps)) + n) + length (lower ps) < 2 * (unread_length (map (rest_of es texts) ps) + n) + length ps
lower-falls es texts n [] l = absurd l
lower-falls es texts n (p ∷ ps) l = omega arith

end-falls : (k : Kept) (texts : List (ℕ × Text)) → IsKept k → left_to_read (text_ended k) texts < left_to_read k texts
unfolding left_to_read given
end-falls k texts h = lower-falls k.doctype.entities texts (k.stack.expand - k.stack.spent) k.stack.places h.document

pub text-end-step : (texts : List (ℕ × Text)) (c : Choices) (ended : Bool) (asked : Option Name) (old new : Kept) → IsKept old → is_over old ≡ false
    → (entity_of old.stack.places == 0) ≡ false → is_open_at (length old.stack.places) old.sections ≡ false → type_end (entity_of old.stack.places) old.doctype ≡ None
    → new ≡ text_ended old → IsFound old texts ended found.End → IsStep c texts ended asked old new (Ok turns.Silent)
text-end-step texts c ended asked old new h g e o w n f =
    subst (λ (z : Kept). IsStep c texts ended asked old z (Ok turns.Silent)) (sym n)
    (silent-step c texts ended asked old (text_ended old)
    (λ outside i. (
      sized 0 EntityEnd ∷ [],
      (
        end-next outside old texts ended g
            (subst (λ (a : Result Piece Reason). IsSpelled outside old texts ended a) (entity-end-by old false h e o ∙ ap (λ z. unless_reason z (sized 0 EntityEnd)) w) (end-spelled outside old texts ended h f)),
        sym (end-after outside old h),
      ),
      refl,
    ))
    (end-falls old texts h) (kept-lower old h e o) refl)

-- by the number of the text
pub type-end-is : (n : ℕ) (d : Doctype) → n ≡ 1 → type_end n d ≡ final_reason d
unfolding at_type_end
type-end-is n d e = ap (λ m. type_end m d) e

pub differs : (n m : ℕ) → m ≡ n → (m ≡ 0 → ⊥) → (n == 0) ≡ false
differs n m e h = by (n == 0) refl
  where
    by : (t : Bool) → (n == 0) ≡ t → (n == 0) ≡ false
    by true f = absurd (h (e ∙ eqb-true n 0 f))
    by false f = f

-- what was refused at its place, and what isn't decided
pub found-refused-step : (texts : List (ℕ × Text)) (c : Choices) (ended : Bool) (asked : Option Name) (old : Kept) (r : Reason) → is_over old ≡ false
    → IsFound old texts ended (found.Refused r) → IsStep c texts ended asked old old (Err (stop.Refused r))
found-refused-step texts c ended asked old r g f = refused-step c texts ended asked old old r (λ outside o. refused outside old texts ended r g (f outside)) refl

pub found-more-step : (texts : List (ℕ × Text)) (c : Choices) (ended : Bool) (asked : Option Name) (old : Kept)
    → IsFound old texts ended found.More → IsStep c texts ended asked old old (Err stop.More)
found-more-step texts c ended asked old f = record { steps = λ outside o. (refl, f.0, f.1 outside); falls = tt; kept = tt; expand = tt; left = refl }
