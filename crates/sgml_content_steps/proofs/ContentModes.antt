-- The mode of an element's content, by what may stand in it.
use Rattle.std.specs.Prelude.{◌≡◌, ℕ, Option, Some, None, slice_get, IfSome, IsSomeAnd}
use Rattle.std.proofs.Common.{refl, sym, ap, ◌∙◌, subst}
use Rattle.sgml_delim.specs.declared.delim.Mode.{Mode}
use Rattle.sgml_infer.specs.sgml_dtd.dtd_elements.Types.{ElementType, types}
use Rattle.sgml_infer.specs.sgml_dtd.Doctypes.{Doctype}
use Rattle.sgml_theory_starts.specs.theory_reading.Types.{Content as Said, Model, Any, Cdata, Rcdata, Void, content_of}
use Rattle.sgml_theory_starts.specs.theory_spelling.Places.{content_mode}
use Rattle.sgml_infer.specs.Tables.{said_in, type_at, IsNumber}
use Rattle.sgml_infer.specs.Trees.{IsTreeOf}
use Rattle.sgml_infer.specs.Known.{content_kind}
use Rattle.sgml_infer.specs.declared.known.ContentKind.{ContentKind}
use Rattle.sgml_infer.specs.declared.tree.Tree.{Tree}
use Rattle.sgml_infer.proofs.Numbers.{found-at}
use Rattle.sgml_content_steps.specs.Modes.{mode_of_kind, IsModeOf}
use Rattle.sgml_content_steps.specs.Content.{Content, IsContent}

kind-mode : (c : Said) → mode_of_kind (content_kind c) ≡ content_mode c
kind-mode (Model x) = refl
kind-mode Any = refl
kind-mode Cdata = refl
kind-mode Rcdata = refl
kind-mode Void = refl

mode-at : (d : Doctype) (i : ℕ) (m : Mode) → IsNumber d i → m ≡ content_mode (content_of (type_at d i)) → IsModeOf d (Some i) m
mode-at d i m n e =
    let found = found-at (types d.elements) i n in
    subst (λ (o : Option ElementType). m ≡ content_mode (content_of (said_in o)) → IsSomeAnd o (λ t. m ≡ content_mode (content_of t))) (sym found.1) (λ q. q) e

pub mode-by-kind : (c v : Content) (element : Option ℕ) (i : ℕ) (k : ContentKind) (m : Mode) → IsContent c → v ≡ c → element ≡ Some i
    → IfSome element (IsNumber c.kept.doctype)
    → ((d : Doctype) → IsTreeOf d v.tree → IsNumber d i → k ≡ content_kind (content_of (type_at d i))) → m ≡ mode_of_kind k
    → IsModeOf c.kept.doctype element m
mode-by-kind c v element i k m is e s number told q =
    let d = c.kept.doctype in
    let n : IsNumber d i = subst (λ (o : Option ℕ). IfSome o (IsNumber d)) s number in
    let tree : IsTreeOf d v.tree = subst (λ (t : Tree). IsTreeOf d t) (sym (ap (λ (x : Content). x.tree) e)) is.tree in
    subst (λ (o : Option ℕ). IsModeOf d o m) (sym s)
    (mode-at d i m n (q ∙ (ap mode_of_kind (told d tree n) ∙ kind-mode (content_of (type_at d i)))))
