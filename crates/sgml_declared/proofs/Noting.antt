-- The file that was noted is the one that is named.
use Rattle.std.proofs.Common.{◌≡◌, ℕ, ◌<◌, true, List, Option, Some, None, Result, Ok, Err, IfOk, IfSome, IsSome, drop, refl, sym, ap, ◌∙◌}
use Rattle.std.specs.List.{slice_get}
use Rattle.sgml_text.specs.declared.place.Place.{Place}
use Rattle.sgml_entity.specs.declared.kinds.External.{External}
use Rattle.sgml_catalog.specs.declared.catalog.Kind.{Kind}
use Rattle.sgml_dtd.specs.Doctypes.{Doctype}
use Rattle.sgml_theory_standing.specs.theory_reading.Names.{Name}
use Rattle.sgml_theory_standing.specs.theory_reading.Types.{entity}
use Rattle.sgml_theory_standing.specs.theory_reading.Facets.{ExternalSubset}
use Rattle.sgml_theory_standing.specs.theory_reading.Unread.{Outside, Sources, file_of, file_of_entity, file_of_subset}
use Rattle.sgml_declared.specs.declared.noted.Noted.{Noted}
use Rattle.sgml_declared.specs.Files.{Choices, InEach, IsOutsideOf, file_name, sources_in, IsFileNoted, AreNotedAs, IsNoted, noted_if, noted_base}
use Rattle.sgml_declared.proofs.Numbered.{document-file, subset-file, entity-file, base_from, base-found}

-- what was asked before in the same way
pub noted-file : (c : Choices) (kind : Kind) (name : Name) (external : External) (base : Name) (o : Option Noted) → IfSome o (IsNoted c) → AreNotedAs kind name external base o
    → noted_if true o ≡ file_name c kind name external base
noted-file c kind name external base None h n = absurd n
noted-file c kind name external base (Some x) h n = sym h ∙ (λ i. file_name c (n.kind_is i) (n.name_is i) (n.external_is i) (n.base_is i))

pub noted-some : (kind : Kind) (name : Name) (external : External) (base : Name) (o : Option Noted) → AreNotedAs kind name external base o → IsSome o
noted-some kind name external base None n = absurd n
noted-some kind name external base (Some x) n = refl

-- and what is asked now
pub file-noted : (c : Choices) (kind : Kind) (name : Name) (external : External) (base file : Name) (x : Noted) → Some file ≡ file_name c kind name external base
    → IsFileNoted kind name external base file x → IsNoted c x
file-noted c kind name external base file x e h =
    (λ i. file_name c (h.noted.kind_is i) (h.noted.name_is i) (h.noted.external_is i) (h.noted.base_is i)) ∙ (sym e ∙ ap Some (sym h.file_is))

pub file-named : (c : Choices) (kind : Kind) (name : Name) (external : External) (base file : Name) (x : Noted) → Some file ≡ file_name c kind name external base
    → IsFileNoted kind name external base file x → noted_if true (Some x) ≡ file_name c kind name external base
file-named c kind name external base file x e h = ap Some h.file_is ∙ e

-- BY ITS NUMBER
pub subset-found : {A E : Type 0} (c : Choices) (d : Doctype) (s : Option ExternalSubset) (n : ℕ) (file : A → Option Name) (result : Result A E) → n ≡ 1
    → IfOk result (λ a. InEach c (λ outside. file_of_subset outside d s) (file a)) → IfOk result (λ a. InEach c (λ outside. file_of outside (sources_in d s) n) (file a))
subset-found c d s n file (Err e) l h = tt
subset-found c d s n file (Ok a) l h = λ outside o.
    h outside o ∙ (sym (subset-file outside (sources_in d s)) ∙ ap (file_of outside (sources_in d s)) (sym l))

pub entity-found : {A E : Type 0} (c : Choices) (d : Doctype) (s : Option ExternalSubset) (n : ℕ) (file : A → Option Name) (result : Result A E) → 1 < n
    → IfOk result (λ a. InEach c (λ outside. file_of_entity outside (entity d n)) (file a)) → IfOk result (λ a. InEach c (λ outside. file_of outside (sources_in d s) n) (file a))
entity-found c d s n file (Err e) l h = tt
entity-found c d s n file (Ok a) l h = λ outside o. h outside o ∙ sym (entity-file outside (sources_in d s) n l)

-- THE BASE at a place of the stack
pub base-noted : (c : Choices) (outside : Outside) (k : Sources) (ps : List Place) (i : ℕ) (p : Place) (o : Option Noted) → slice_get ps i ≡ Some p
    → IsSome o → noted_if true o ≡ file_of outside k p.entity → noted_base c true o ≡ base_from outside k (drop i ps)
base-noted c outside k ps i p None e some f = absurd (cc some)
base-noted c outside k ps i p (Some x) e some f = base-found outside k ps i p x.file e f

pub base-document : (c : Choices) (outside : Outside) (k : Sources) (ps : List Place) (i : ℕ) (p : Place) → IsOutsideOf c outside → slice_get ps i ≡ Some p
    → p.entity ≡ 0 → c.base ≡ base_from outside k (drop i ps)
base-document c outside k ps i p is e zero =
    sym is.file ∙ base-found outside k ps i p outside.file e (sym (document-file outside k) ∙ ap (file_of outside k) (sym zero))
