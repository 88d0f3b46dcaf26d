-- The file of a text is the same in each outside of a run.
use Rattle.std.proofs.Common.{◌≡◌, ◌==◌, ℕ, Option, Some, None, unwrap_or, [], refl, sym, ap, ◌∙◌, if◌then◌else◌}
use Rattle.sgml_starts.specs.entity.declared.kinds.Body.{Body}
use Rattle.sgml_starts.specs.entity.declared.kinds.Body.TheVariants as body
use Rattle.sgml_starts.specs.entity.declared.kinds.Entity.{Entity}
use Rattle.sgml_declared.specs.catalog.declared.catalog.Kind.TheVariants as catalog
use Rattle.sgml_starts.specs.dtd.Doctypes.{Doctype}
use Rattle.sgml_declared.specs.theory_reading.Names.{Name}
use Rattle.sgml_declared.specs.theory_reading.Types.{entity}
use Rattle.sgml_declared.specs.theory_reading.Facets.{subset_number, ExternalSubset}
use Rattle.sgml_declared.specs.theory_reading.Unread.{Outside, Sources, kind_of, file_of, file_of_body, file_of_entity, file_of_subset}
use Rattle.sgml_declared.specs.Files.{Choices, IsOutsideOf, InEach}

module _ (c : Choices) (a b : Outside) (of_a : IsOutsideOf c a) (of_b : IsOutsideOf c b) where
  one-subset : (d : Doctype) (o : Option ExternalSubset) → file_of_subset a d o ≡ file_of_subset b d o
  one-subset d None = refl
  one-subset d (Some x) =
      of_a.resolved catalog.Doctype (unwrap_or d.name []) x.external x.base
      ∙ sym (of_b.resolved catalog.Doctype (unwrap_or d.name []) x.external x.base)

  one-body : (e : Entity) (x : Body) → file_of_body a e x ≡ file_of_body b e x
  one-body e (body.External x) = of_a.resolved (kind_of e.space) e.name x e.base ∙ sym (of_b.resolved (kind_of e.space) e.name x e.base)
  one-body e (body.Sgml t) = refl
  one-body e (body.Cdata t) = refl
  one-body e (body.Sdata t) = refl
  one-body e (body.Pi t) = refl
  one-body e (body.ExternalData k x o) = refl

  one-entity : (o : Option Entity) → file_of_entity a o ≡ file_of_entity b o
  one-entity None = refl
  one-entity (Some e) = one-body e e.body

  one-file : (k : Sources) (n : ℕ) → file_of a k n ≡ file_of b k n
  unfolding file_of
  one-file k n =
      ap (λ o. if n == 0 then o else (if n == subset_number then file_of_subset a k.doctype k.subset else file_of_entity a (entity k.doctype n)))
      (ap Some (of_a.file ∙ sym of_b.file))
      ∙ ap (λ o. if n == 0 then Some b.file else (if n == subset_number then o else file_of_entity a (entity k.doctype n))) (one-subset k.doctype k.subset)
      ∙ ap (λ o. if n == 0 then Some b.file else (if n == subset_number then file_of_subset b k.doctype k.subset else o)) (one-entity (entity k.doctype n))

pub file-in-each : (c : Choices) (outside : Outside) (k : Sources) (n : ℕ) (file : Option Name) → IsOutsideOf c outside → file_of outside k n ≡ file
    → InEach c (λ o. file_of o k n) file
file-in-each c outside k n file of is = λ o of_o. sym is ∙ one-file c outside o of of_o k n
