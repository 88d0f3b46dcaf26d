-- The state in which content is scanned is that of what is held.
use Rattle.std.specs.Prelude.{◌≡◌, ℕ, ◌-◌, ◌<◌, Bool, List, [], ◌∷◌, ◌++◌, Option, Some, None, option_map, slice_get, reverse, length}
use Rattle.std.proofs.Common.{refl, sym, ap, ◌∙◌, subst, arith}
use Rattle.std.proofs.lemmas.List.{reverse-append, length-reverse}
use Rattle.sgml_scan.specs.declared.state.ScanState.{ScanState}
use Rattle.sgml_infer.specs.sgml_dtd.dtd_elements.Types.{types, number_of}
use Rattle.sgml_infer.specs.sgml_dtd.dtd_elements.Laws.{AreDistinct}
use Rattle.sgml_infer.specs.sgml_dtd.Doctypes.{Doctype}
use Rattle.sgml_theory_starts.specs.theory_reading.Context.{Level, Context}
use Rattle.sgml_theory_starts.specs.theory_standing.Kept.{Kept}
use Rattle.sgml_theory_starts.specs.theory_reading.ShortTags.{net_in_force}
use Rattle.sgml_theory_starts.specs.theory_reading.Maps.{map_in_force}
use Rattle.sgml_theory_starts.specs.theory_spelling.Places.{is_map, map_at, mode_at}
use Rattle.sgml_theory_starts.specs.theory_standing.Held.{Held, state_of}
use Rattle.sgml_theory_starts.specs.declaring.Taking.{stacked_on}
use Rattle.sgml_infer.specs.Tables.{name_at, IsNumber}
use Rattle.sgml_infer.specs.Trees.{context_in, IsTreeOf}
use Rattle.sgml_infer.specs.declared.tree.Tree.{Tree}
use Rattle.sgml_infer.proofs.Numbers.{number-at, found-at}
use Rattle.sgml_inside.specs.Inside.{map_in}
use Rattle.sgml_inside.proofs.Forced.{found}
use Rattle.sgml_prolog_steps.specs.Found.{innermost}
use Rattle.sgml_content_steps.specs.Standing.{IsInInstance, IsHeld}
use Rattle.sgml_content_steps.specs.Modes.{IsInnermost, IsModeInside}
use Rattle.sgml_content_steps.specs.Content.{Content, Holds, IsContent, context_of}

get-last : {X : Type 0} (xs : List X) (y : X) → slice_get (xs ++ y ∷ []) (length xs) ≡ Some y
get-last [] y = refl
get-last (x ∷ xs) y = get-last xs y

-- THE INNERMOST ELEMENT, by the number of its type
pub number-of-name : (d : Doctype) (i : ℕ) → AreDistinct d.elements → IsNumber d i → number_of d.elements (name_at d i) ≡ Some i
number-of-name d i distinct n =
    let found = found-at (types d.elements) i n in
    ap (number_of d.elements) (named found.1) ∙ number-at d.elements i found.0 distinct found.1
  where
    named : {e : _} → slice_get (types d.elements) i ≡ Some e → name_at d i ≡ e.name
    named h = cc

innermost-at : (ls : List Level) (l : Level) → slice_get (reverse (l ∷ ls)) (length ls) ≡ Some l
innermost-at ls l =
    ap (λ xs. slice_get xs (length ls)) (reverse-append (l ∷ []) ls)
    ∙ (ap (slice_get (reverse ls ++ l ∷ [])) (sym (length-reverse ls)) ∙ get-last (reverse ls) l)

pub innermost-open : (d : Doctype) (i depth : ℕ) (ls : List Level) → AreDistinct d.elements → IsNumber d i → depth ≡ length ls → 0 < depth
    → option_map (λ (l : Level). l.element) (slice_get (reverse ls) (depth - 1)) ≡ Some (name_at d i) → IsInnermost d (Some i) ls
innermost-open d i depth [] distinct n e some p = absurd (omega (arith, e, some))
innermost-open d i depth (l ∷ ls) distinct n e some p =
    let size : depth - 1 ≡ length ls = omega (arith, e) in
    let at : slice_get (reverse (l ∷ ls)) (depth - 1) ≡ Some l = ap (slice_get (reverse (l ∷ ls))) size ∙ innermost-at ls l in
    let same : Some l.element ≡ Some (name_at d i) = sym (ap (option_map (λ (x : Level). x.element)) at) ∙ p in
    let named : l.element ≡ name_at d i = cc in
    ap (number_of d.elements) named ∙ number-of-name d i distinct n

pub none-open : (d : Doctype) (depth : ℕ) (ls : List Level) → depth ≡ length ls → (0 < depth → ⊥) → IsInnermost d None ls
none-open d depth [] e none = tt
none-open d depth (l ∷ ls) e none = absurd (none (omega (arith, e)))

-- of what is kept, as the tree tells it
abbrev IsPathAt : Tree → ℕ → ℕ → Doctype → Type 0
IsPathAt tree depth i d = option_map (λ (l : Level). l.element) (slice_get (reverse (context_in d tree).levels) (depth - 1)) ≡ Some (name_at d i)

pub innermost-of : (c v : Content) (depth i : ℕ) → IsContent c → v ≡ c → ((d : Doctype) → depth ≡ length (context_in d v.tree).levels) → (depth ≡ 0 → ⊥)
    → ((d : Doctype) → IsPathAt v.tree depth i d) → ((d : Doctype) → IsTreeOf d v.tree → IsNumber d i)
    → IsInnermost c.kept.doctype (Some i) (context_of c).levels
innermost-of c v depth i is e high some p n =
    let d = c.kept.doctype in
    let tree : v.tree ≡ c.tree = ap (λ (x : Content). x.tree) e in
    innermost-open d i depth (context_of c).levels is.tree.distinct (n d (subst (λ (t : Tree). IsTreeOf d t) (sym tree) is.tree))
    (high d ∙ ap (λ (t : Tree). length (context_in d t).levels) tree)
    (omega (arith, some))
    (subst (λ (t : Tree). IsPathAt t depth i d) tree (p d))

pub none-of : (c v : Content) (depth : ℕ) → v ≡ c → ((d : Doctype) → depth ≡ length (context_in d v.tree).levels) → depth ≡ 0
    → IsInnermost c.kept.doctype None (context_of c).levels
none-of c v depth e high none =
    none-open c.kept.doctype depth (context_of c).levels (high c.kept.doctype ∙ ap (λ (x : Content). length (context_in c.kept.doctype x.tree).levels) e)
    (λ some. omega (arith, some, none))

-- THE SCAN STATE
forced-held : (c : Content) (maps : Bool) (x : Held) → IsContent c → Holds c x → maps ≡ is_map (map_in c.inside.elements) → is_map (map_at (state_of x)) ≡ maps
unfolding map_at
forced-held c maps x is h f =
    (λ i. is_map (map_in_force (h.context i).doctype (h.context i).levels (h.map_settings i)))
    ∙ (ap is_map (sym (found c.kept.doctype (context_of c).levels c.inside.elements is.maps)) ∙ sym f)

mode-held : (c : Content) (element : Option ℕ) (st : ScanState) (x : Held) → IsContent c → Holds c x
    → IsInnermost c.kept.doctype element (context_of c).levels → IsModeInside c.kept.doctype element (innermost c.kept.sections) st.mode
    → mode_at (state_of x) (stacked_on c.kept.stack).entities ≡ st.mode
mode-held c element st x is h o m =
    ap (λ (k : Kept). mode_at (state_of x) (stacked_on k.stack).entities) (sym h.kept)
    ∙ m x (record {
      instance = subst (λ (k : Kept). IsInInstance k) (sym h.kept) is.instance;
      doctype = ap (λ (k : Kept). k.doctype) h.kept;
      of_type = subst (λ (s : Context). IsInnermost c.kept.doctype element s.levels) (sym h.context) o;
      in_section = ap (λ (k : Kept). innermost k.sections) h.kept;
    })

pub scanned-held : (c v : Content) (element : Option ℕ) (st : ScanState) → IsContent c → v ≡ c
    → IsInnermost c.kept.doctype element (context_of c).levels → IsModeInside v.kept.doctype element (innermost v.kept.sections) st.mode
    → ((d : Doctype) → st.net ≡ net_in_force (context_in d v.tree)) → st.maps ≡ is_map (map_in v.inside.elements)
    → (x : Held) → Holds c x → IsHeld c.kept st x
scanned-held c v element st is e o m n f x h =
    let modes = mode-held c element st x is h o (subst (λ (y : Content). IsModeInside y.kept.doctype element (innermost y.kept.sections) st.mode) e m) in
    let nets : net_in_force (state_of x).context ≡ st.net =
    ap net_in_force h.context ∙ (ap (λ (y : Content). net_in_force (context_in c.kept.doctype y.tree)) (sym e) ∙ sym (n c.kept.doctype)) in
    let forced = forced-held c st.maps x is h (f ∙ ap (λ (y : Content). is_map (map_in y.inside.elements)) e) in
    record { kept = h.kept; scanned = λ i. record { mode = modes i; net = nets i; maps = forced i } }
