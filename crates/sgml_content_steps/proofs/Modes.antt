-- The mode of a place, by the innermost element and the innermost section.
use Rattle.std.proofs.Common.{◌≡◌, ℕ, true, ◌-◌, List, [], ◌∷◌, ◌++◌, Option, None, Some, length, refl, sym, ◌∙◌, ap, if◌then◌else◌, arith}
use Rattle.std.specs.Prelude.{IsSomeAnd, slice_get, option_map, option_and_then, unwrap_or, reverse}
use Rattle.std.proofs.lemmas.List.{reverse-reverse, reverse-append, length-append}
use Rattle.sgml_delim.specs.declared.delim.Mode.{Mode}
use Rattle.sgml_delim.specs.declared.delim.Mode.TheVariants as mode
use Rattle.sgml_marked.specs.declared.status.Status.{Status}
use Rattle.sgml_marked.specs.declared.status.Status.TheVariants as status
use Rattle.sgml_marked.specs.declared.sections.Section.{Section}
use Rattle.sgml_infer.specs.sgml_dtd.dtd_elements.Types.{ElementType, types, number_of}
use Rattle.sgml_infer.specs.sgml_dtd.Doctypes.{Doctype}
use Rattle.sgml_theory_starts.specs.theory_reading.Names.{Name}
use Rattle.sgml_theory_starts.specs.theory_reading.Types.{Content, Model, Any, Cdata, Rcdata, Void, element_type, type_of, undeclared, content_of}
use Rattle.sgml_theory_starts.specs.theory_reading.Context.{Level}
use Rattle.sgml_theory_starts.specs.theory_spelling.Places.{mode_of_status, section_mode, content_mode, element_mode, mode_at}
use Rattle.sgml_prolog_steps.specs.Found.{innermost}
use Rattle.sgml_content_steps.specs.Modes.{is_of_instance, IsModeOf, mode_by, IsInnermost, IsModeInside}

-- THE INNERMOST SECTION is the first of the reversed list
get-last : {X : Type 0} (xs : List X) (y : X) → slice_get (xs ++ y ∷ []) (length xs) ≡ Some y
get-last [] y = refl
get-last (x ∷ xs) y = get-last xs y

last-of : (ss : List Section) (s : Section) → innermost (ss ++ s ∷ []) ≡ Some s.status
last-of ss s =
    let size : length (ss ++ s ∷ []) - 1 ≡ length ss = let e = length-append ss (s ∷ []) in omega (arith, e) in
    ap (λ n. option_map (λ (x : Section). x.status) (slice_get (ss ++ s ∷ []) n)) size ∙ ap (option_map (λ (x : Section). x.status)) (get-last ss s)

reversed-mode : (m : Mode) (rs : List Section) → unwrap_or (section_mode rs) m ≡ mode_by m (innermost (reverse rs))
reversed-mode m [] = refl
reversed-mode m (s ∷ rs) = by s.status ∙ sym (ap (mode_by m) (ap innermost (reverse-append (s ∷ []) rs) ∙ last-of (reverse rs) s))
  where
    by : (x : Status) → unwrap_or (mode_of_status x) m ≡ mode_by m (Some x)
    by status.Ignore = refl
    by status.Cdata = refl
    by status.Rcdata = refl
    by status.Include = refl

section-mode-is : (m : Mode) (ss : List Section) → unwrap_or (section_mode (reverse ss)) m ≡ mode_by m (innermost ss)
section-mode-is m ss = reversed-mode m (reverse ss) ∙ ap (λ xs. mode_by m (innermost xs)) (reverse-reverse ss)

-- THE INNERMOST ELEMENT, by the number of its type
abbrev said_by : Option ElementType → ElementType
said_by o = unwrap_or o undeclared

type-numbered : (d : Doctype) (n : Name) (i : ℕ) → number_of d.elements n ≡ Some i → type_of d n ≡ said_by (slice_get (types d.elements) i)
unfolding type_of element_type
type-numbered d n i e = ap (λ o. unwrap_or (option_and_then (λ j. slice_get (types d.elements) j) o) undeclared) e

said-mode : (o : Option ElementType) (m : Mode) → IsSomeAnd o (λ t. m ≡ content_mode (content_of t)) → content_mode (content_of (said_by o)) ≡ m
said-mode None m h = absurd h
said-mode (Some t) m h = sym h

element-mode-is : (d : Doctype) (element : Option ℕ) (m : Mode) (ls : List Level) → IsModeOf d element m → IsInnermost d element ls → element_mode d ls ≡ m
element-mode-is d None m [] h i = sym h
element-mode-is d None m (l ∷ ls) h i = absurd i
element-mode-is d (Some n) m [] h i = absurd i
element-mode-is d (Some n) m (l ∷ ls) h i =
    ap (λ t. content_mode (content_of t)) (type-numbered d l.element n i) ∙ said-mode (slice_get (types d.elements) n) m h

pub mode-inside : (d : Doctype) (element : Option ℕ) (section : Option Status) (m : Mode) → IsModeOf d element m → IsModeInside d element section (mode_by m section)
unfolding mode_at
mode-inside d element section m h x inside =
    ap (λ t. unwrap_or (section_mode (reverse x.kept.sections)) (if t then mode.Ds else element_mode x.kept.doctype x.levels)) inside.instance.no_subset
    ∙ (λ i. unwrap_or (section_mode (reverse x.kept.sections)) (element_mode (inside.doctype i) x.levels))
    ∙ ap (unwrap_or (section_mode (reverse x.kept.sections))) (element-mode-is d element m x.levels h inside.of_type)
    ∙ section-mode-is m x.kept.sections
    ∙ ap (mode_by m) inside.in_section

-- THE MODE IS ONE OF THE INSTANCE
content-of-instance : (c : Content) → is_of_instance (content_mode c) ≡ true
content-of-instance (Model term) = refl
content-of-instance Any = refl
content-of-instance Cdata = refl
content-of-instance Rcdata = refl
content-of-instance Void = refl

type-of-instance : (o : Option ElementType) (m : Mode) → IsSomeAnd o (λ t. m ≡ content_mode (content_of t)) → is_of_instance m ≡ true
type-of-instance None m h = absurd h
type-of-instance (Some t) m h = ap is_of_instance h ∙ content-of-instance (content_of t)

element-of-instance : (d : Doctype) (element : Option ℕ) (m : Mode) → IsModeOf d element m → is_of_instance m ≡ true
element-of-instance d None m h = ap is_of_instance h
element-of-instance d (Some i) m h = type-of-instance (slice_get (types d.elements) i) m h

pub mode-of-instance : (d : Doctype) (element : Option ℕ) (m : Mode) (section : Option Status) → IsModeOf d element m → is_of_instance (mode_by m section) ≡ true
mode-of-instance d element m (Some status.Ignore) h = refl
mode-of-instance d element m (Some status.Cdata) h = refl
mode-of-instance d element m (Some status.Rcdata) h = refl
mode-of-instance d element m (Some status.Include) h = element-of-instance d element m h
mode-of-instance d element m None h = element-of-instance d element m h
