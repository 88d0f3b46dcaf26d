-- A quiet piece that stays in the text at the top is a step over its bytes.
use Rattle.std.proofs.Common.{◌≡◌, ℕ, ◌+◌, ◌<◌, ◌≤◌, Bool, true, List, [], ◌∷◌, ◌++◌, None, Some, Ok, length, refl, sym, ◌∙◌, ap, subst, arith}
use Rattle.std.specs.Prelude.{reverse}
use Rattle.std.specs.Option.{option_or}
use Rattle.sgml_entity.specs.Stack.{Stack, moved}
use Rattle.sgml_theory_reading.specs.records.Items.{Markup}
use Rattle.sgml_theory_reading.specs.records.Facts.{Facts}
use Rattle.sgml_marked.specs.declared.sections.Section.{Section}
use Rattle.sgml_scan.specs.declared.state.ScanState.{ScanState}
use Rattle.sgml_scan.specs.declared.state.Token.{Token}
use Rattle.sgml_dtd.specs.Doctypes.{Doctype}
use Rattle.sgml_dtd_maps.specs.declared.uses.MapOf.{MapOf}
use Rattle.sgml_dtd_maps.specs.declared.uses.MapOf.TheVariants as map_of
use Rattle.sgml_content_steps.specs.events.declared.event.Event.{Event}
use Rattle.sgml_content_steps.specs.said.Told.{all_said}
use Rattle.sgml_theory_reading.specs.Names.{Text}
use Rattle.sgml_theory_reading.specs.Pieces.{Piece, Kind}
use Rattle.sgml_theory_reading.specs.Facets.{AfterSubset, OpensText, EndsText, StaysInText, turn, border, declares, subset_named, stage_after, items_of, map_set}
use Rattle.sgml_theory_reading.specs.Maps.{first_set}
use Rattle.sgml_theory_reading.specs.Sections.{sections_after}
use Rattle.sgml_theory_reading.specs.State.{first_noted}
use Rattle.sgml_theory_reading.specs.Reads.{length_of_first}
use Rattle.sgml_theory_reading.specs.Unread.{Outside, NotThere, turned, opened_length}
use Rattle.sgml_declared.specs.theory_spelling.Sized.{sized_spent}
use Rattle.sgml_declared.specs.theory_standing.Kept.{Kept, given, kept_after}
use Rattle.sgml_declared.specs.theory_standing.Prologs.{alone}
use Rattle.sgml_declared.specs.theory_standing.Next.{IsThere, after, text_after, left_to_read}
use Rattle.sgml_declared.specs.theory_standing.Held.{Held, is_of_content, IsSpelledIn}
use Rattle.sgml_declared.specs.theory_standing.Moves.{told_by_moves}
use Rattle.sgml_inside.specs.declared.inside.Inner.{Inner}
use Rattle.sgml_inside.specs.Inside.{ends_in, settings_in, noted_in}
use Rattle.sgml_inside.specs.Laws.{AreInForce}
use Rattle.sgml_inside.proofs.Forced.{noted-is-after, stays}
use Rattle.sgml_declared.specs.Files.{Choices, outside_of}
use Rattle.sgml_prolog_steps.specs.Found.{rest_in}
use Rattle.sgml_prolog_steps.proofs.Shared.{add-none, first-length, falls-places}
use Rattle.sgml_content_steps.specs.Standing.{IsInInstance, IsHeld}
use Rattle.sgml_content_steps.specs.Found.{IsTokenThere}
use Rattle.sgml_content_steps.proofs.Lasting.{instance-stays}
use Rattle.sgml_content_steps.specs.Content.{Content, Holds, IsContent, context_of}
use Rattle.sgml_content_steps.specs.Steps.{entities_told, entity_of_kind, IsOutside, IsStep}
use Rattle.sgml_content_sections.specs.Changes.{kept_with, changed, further}
use Rattle.sgml_content_sections.proofs.Quiet.{IsAlone, IsQuiet, IsInsideAfter, alone-step}

-- PIECES THAT STAY in the text at the top, and declare nothing
pub record IsSteady (x : Kind) : Type 0 where
  pub turn_is : turn x ≡ StaysInText
  pub declares_none : (d : Doctype) → declares x d ≡ d
  pub names_none : subset_named x ≡ None
  pub stays : stage_after x AfterSubset ≡ AfterSubset

pub steady-after : (outside : Outside) (k : Kept) (p : Piece) (n : ℕ) (ss : List Section) → IsInInstance k → IsSteady p.kind → p.size ≡ n
    → reverse (sections_after (border p.kind) (length k.stack.places) (reverse k.sections)) ≡ ss
    → after outside p k ≡ kept_with (record k.stack { spent = k.stack.spent + p.spent; places = moved n k.stack.places }) ss k
unfolding kept_after
steady-after outside k p n ss h x size now = λ i. record {
  doctype = x.declares_none k.doctype i;
  stack = record {
    levels = (ap (λ (d : Doctype). d.syntax.quantities.entlvl) (x.declares_none k.doctype) ∙ sym h.levels) i;
    expand = k.stack.expand;
    spent = (ap (λ t. k.stack.spent + (p.spent + opened_length (text_after outside p k) t)) x.turn_is ∙ ap (λ m. k.stack.spent + m) (add-none p.spent)) i;
    places = (ap (λ t. turned t (moved p.size k.stack.places)) x.turn_is ∙ ap (λ m. moved m k.stack.places) size) i;
  };
  sections = now i;
  stage = (ap (stage_after p.kind) h.stage ∙ (x.stays ∙ sym h.stage)) i;
  subset = ap (λ o. option_or o k.subset) x.names_none i;
}

no-opening : (n : ℕ) → StaysInText ≡ OpensText n → ⊥
no-opening n e = cc

no-ending : StaysInText ≡ EndsText → ⊥
no-ending e = cc

none-some : {A : Type 0} (a : A) → None ≡ Some a → ⊥
none-some a e = cc

pub length-first-in : (k : Kept) (texts : List (ℕ × Text)) → IsInInstance k → length_of_first (given k texts).rests ≡ length (rest_in k texts)
unfolding given
length-first-in k texts h = first-length k.doctype.entities texts k.stack.places h.document

pub steady-there : (outside : Outside) (k : Kept) (texts : List (ℕ × Text)) (p : Piece) → IsInInstance k → IsSteady p.kind → p.size ≤ length (rest_in k texts) → IsThere outside k texts p
steady-there outside k texts p h x l = record {
  within = subst (λ m. p.size ≤ m) (sym (length-first-in k texts h)) l;
  opened = λ n e. absurd (no-opening n (sym x.turn_is ∙ e));
  subset = λ named text e g. absurd (none-some named (sym x.names_none ∙ e));
}

-- the instance goes on after it, whatever the outside is
pub no-outside : Choices → Kept → Outside
no-outside c k = outside_of c k.doctype.syntax (λ n. NotThere)

pub steady-instance : (c : Choices) (k : Kept) (p : Piece) (s : Stack) (ss : List Section) → IsInInstance k → IsSteady p.kind → is_of_content p.kind ≡ true
    → after (no-outside c k) p k ≡ kept_with s ss k → IsInInstance (kept_with s ss k)
steady-instance c k p s ss h x content a =
    subst IsInInstance a
    (instance-stays (no-outside c k) k p h (record {
      of_content = content;
      opened = λ n e. absurd (no-opening n (sym x.turn_is ∙ e));
      ended = λ e. absurd (no-ending (sym x.turn_is ∙ e));
    }))

-- MARKUP in the innermost element
first-parent : (ss : List MapOf) → first_set map_of.Parent ss ≡ ss
first-parent [] = refl
first-parent (s ∷ ss) = refl

pub record IsMark (x : Kind) : Type 0 where
  pub items : items_of x ≡ Markup ∷ []
  pub sets_none : map_set x ≡ map_of.Parent

noted-none : (fs : List Facts) → first_noted [] fs ≡ fs
noted-none [] = refl
noted-none (f ∷ fs) = refl

-- what is no item, and sets no map, changes nothing there
pub unchanged-inside : (x : Kind) (xs : List Inner) → items_of x ≡ [] → map_set x ≡ map_of.Parent → IsInsideAfter x xs xs
unchanged-inside x xs e m = record {
  ends = sym (ap (λ items. first_noted items (ends_in xs)) e ∙ noted-none (ends_in xs));
  settings = sym (ap (λ s. first_set s (settings_in xs)) m ∙ first-parent (settings_in xs));
}

pub mark-inside : (x : Kind) (xs : List Inner) → IsMark x → IsInsideAfter x xs (noted_in Markup xs)
mark-inside x xs m = record {
  ends = (noted-is-after Markup xs).0 ∙ ap (λ items. first_noted items (ends_in xs)) (sym m.items);
  settings = (noted-is-after Markup xs).1
      ∙ (sym (first-parent (settings_in xs)) ∙ ap (λ s. first_set s (settings_in xs)) (sym m.sets_none));
}

pub marks-in-force : (c : Content) → IsContent c → AreInForce c.kept.doctype (context_of c).levels (noted_in Markup c.inside.elements)
marks-in-force c is = (stays c.kept.doctype (context_of c).levels c.inside.elements is.maps).noted Markup

-- less is left to read
pub falls-in : (k : Kept) (texts : List (ℕ × Text)) (n spent : ℕ) (ss : List Section) → IsInInstance k → k.stack.spent ≤ spent → 0 < n
    → n ≤ length (rest_in k texts) → left_to_read (kept_with (record k.stack { spent = spent; places = moved n k.stack.places }) ss k) texts < left_to_read k texts
unfolding left_to_read given
falls-in k texts n spent ss h more some m =
    let a = falls-places k.doctype.entities texts n k.stack.expand k.stack.spent k.stack.places h.document some m in
    omega (arith, a, more)

-- after so many bytes, in which texts of this length were opened
abbrev pub read_by : ℕ → ℕ → Stack → Stack
read_by n inside s = record s { spent = s.spent + inside; places = moved n s.places }

pub plain-stack : (n : ℕ) (s : Stack) → further n s ≡ read_by n 0 s
plain-stack n s = ap (λ z. record s { spent = z; places = moved n s.places }) (sym (add-none s.spent))

-- of this kind the piece is, and the stack after it this one
abbrev pub IsPieceBy : Outside → List (ℕ × Text) → Bool → Token → Content → Held → Kind → Stack → Type 0
IsPieceBy outside texts ended t old x y s =
    (p : Piece) × (p.kind ≡ y) × (p.size ≡ t.length) × (s ≡ read_by t.length p.spent old.kept.stack) × IsSpelledIn outside x texts ended (Ok p)

-- THE STEP, where the stack after it is the same for each outside, with what it tells
pub told-step : (c : Choices) (st : ScanState) (texts : List (ℕ × Text)) (ended : Bool) (t : Token) (old : Content) (y : Kind) (s : Stack) (ss : List Section) (xs : List Inner) (told : List Event) (inside : ℕ)
    → IsContent old → IsTokenThere old.kept st texts ended t → IsAlone y → IsSteady y
    → reverse (sections_after (border y) (length old.kept.stack.places) (reverse old.kept.sections)) ≡ ss
    → IsInsideAfter y old.inside.elements xs → AreInForce old.kept.doctype (context_of old).levels xs → s ≡ read_by t.length inside old.kept.stack
    → ((x : Held) (n spent : ℕ) → all_said old.kept.doctype told ≡ told_by_moves x (alone (sized_spent n spent y) ∷ [])) → entities_told told ≡ entity_of_kind y ++ []
    → ((outside : Outside) (x : Held) → IsOutside c outside old.kept texts → Holds old x → IsHeld old.kept st x → IsPieceBy outside texts ended t old x y s)
    → IsStep c st texts ended old (changed s ss xs old) told (Ok tt)
told-step c st texts ended t old y s ss xs told inside is there q steady now i f e said entities pieces =
    let k = old.kept in
    let n = t.length in
    let p = sized_spent n inside y in
    let less = falls-in k texts n (k.stack.spent + inside) ss is.instance (omega arith) there.some there.within in
    let lasts = steady-instance c k p (read_by n inside k.stack) ss is.instance steady q.of_content (steady-after (no-outside c k) k p n ss is.instance steady refl now) in
    alone-step c st texts ended old s ss xs told is
    (λ outside x o h held.
    let z = pieces outside x o h held in
    let stays = subst (λ (a : Kind). IsSteady a) (sym z.1) steady in record {
      piece = z.0;
      is_alone = subst (λ (a : Kind). IsAlone a) (sym z.1) q;
      spelled = z.4;
      there = steady-there outside k texts z.0 is.instance stays (subst (λ m. m ≤ length (rest_in k texts)) (sym z.2) there.within);
      kept = steady-after outside k z.0 n ss is.instance stays z.2
          (ap (λ a. reverse (sections_after (border a) (length k.stack.places) (reverse k.sections))) z.1 ∙ now)
          ∙ ap (λ (a : Stack). kept_with a ss k) (sym z.3);
      inside = subst (λ (a : Kind). IsInsideAfter a old.inside.elements xs) (sym z.1) i;
      said = subst (λ (a : Kind). all_said k.doctype told ≡ told_by_moves x (alone (sized_spent z.0.size z.0.spent a) ∷ [])) (sym z.1) (said x z.0.size z.0.spent);
      entities = entities ∙ ap (λ a. entity_of_kind a ++ []) (sym z.1);
    })
    (subst (λ (a : Stack). left_to_read (kept_with a ss k) texts < left_to_read k texts) (sym e) less)
    (subst (λ (a : Stack). IsInInstance (kept_with a ss k)) (sym e) lasts)
    f (ap (λ (a : Stack). a.expand) e)

-- of a quiet piece
pub steady-step : (c : Choices) (st : ScanState) (texts : List (ℕ × Text)) (ended : Bool) (t : Token) (old : Content) (y : Kind) (s : Stack) (ss : List Section) (xs : List Inner) (inside : ℕ)
    → IsContent old → IsTokenThere old.kept st texts ended t → IsQuiet y → IsSteady y
    → reverse (sections_after (border y) (length old.kept.stack.places) (reverse old.kept.sections)) ≡ ss
    → IsInsideAfter y old.inside.elements xs → AreInForce old.kept.doctype (context_of old).levels xs → s ≡ read_by t.length inside old.kept.stack
    → ((outside : Outside) (x : Held) → IsOutside c outside old.kept texts → Holds old x → IsHeld old.kept st x → IsPieceBy outside texts ended t old x y s)
    → IsStep c st texts ended old (changed s ss xs old) [] (Ok tt)
steady-step c st texts ended t old y s ss xs inside is there q steady now i f e pieces =
    told-step c st texts ended t old y s ss xs [] inside is there q.is_alone steady now i f e
    (λ x n spent. sym (q.tells x n spent)) (sym (ap (λ es. es ++ []) q.names_none)) pieces
