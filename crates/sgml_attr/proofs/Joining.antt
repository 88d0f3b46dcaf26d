-- The parts joined, as they are read.
use Rattle.std.proofs.Common.{◌≡◌, Bool, true, false, List, [], ◌∷◌, ◌++◌, refl, sym, ap, ◌∙◌, fold, append_assoc, if◌then◌else◌}
use Rattle.std.specs.List.{flat_map}
use Rattle.std.proofs.lemmas.List.{append-nil}
use Rattle.std.proofs.lemmas.List.Sums.{fold-append}
use Rattle.std.proofs.lemmas.List.Concat.{flat_map-append}
use Rattle.sgml_text.specs.declared.unit.Unit.{Unit as AnyUnit}
use Rattle.sgml_text.specs.declared.unit.Unit.TheVariants.{Byte}
use Rattle.sgml_attr.specs.declared.literal.Gap.{Gap}
use Rattle.sgml_attr.specs.declared.literal.Gap.TheVariants.{Before, Within, After}
use Rattle.sgml_attr.specs.Parts.{is_space, ended, parted, all_ended, parts}
use Rattle.sgml_attr.specs.Literal.{unit_read, spaced, joined}
use Rattle.sgml_attr.specs.Spacing.{gap_after_space, space_due, spacing, reading}

-- a literal is read unit by unit
pub reading-read : (units : List AnyUnit) (state : List AnyUnit × Gap) → fold reading state units ≡ fold spacing state (flat_map unit_read units)
reading-read [] state = refl
reading-read (u ∷ units) state =
    reading-read units (fold spacing state (unit_read u))
    ∙ sym (fold-append spacing state (unit_read u) (flat_map unit_read units))

spaced-push : (ps : List (List AnyUnit)) (p : List AnyUnit) → spaced (ps ++ p ∷ []) ≡ spaced ps ++ (Byte 32 ∷ p)
spaced-push ps p =
    flat_map-append (λ (q : List AnyUnit). Byte 32 ∷ q) ps (p ∷ []) ∙ ap (λ (x : List AnyUnit). spaced ps ++ x) (append-nil (Byte 32 ∷ p))

-- one part more
joined-push : (d : List AnyUnit) (ds : List (List AnyUnit)) (p : List AnyUnit) → joined ((d ∷ ds) ++ p ∷ []) ≡ joined (d ∷ ds) ++ (Byte 32 ∷ p)
joined-push d ds p = ap (λ (x : List AnyUnit). d ++ x) (spaced-push ds p) ∙ sym (append_assoc d (spaced ds) (Byte 32 ∷ p))

-- the last part has one unit more
joined-grow : (done : List (List AnyUnit)) (p : List AnyUnit) (u : AnyUnit) → joined (done ++ (p ++ u ∷ []) ∷ []) ≡ joined (done ++ p ∷ []) ++ u ∷ []
joined-grow [] p u = append-nil (p ++ u ∷ []) ∙ ap (λ (x : List AnyUnit). x ++ u ∷ []) (sym (append-nil p))
joined-grow (d ∷ ds) p u =
    joined-push d ds (p ++ u ∷ [])
    ∙ sym (append_assoc (joined (d ∷ ds)) (Byte 32 ∷ p) (u ∷ []))
    ∙ ap (λ (x : List AnyUnit). x ++ u ∷ []) (sym (joined-push d ds p))

-- what was put out stands for the parts so far
abbrev Stands : Gap → List (List AnyUnit) → List AnyUnit → List AnyUnit → Type 0
Stands Before done part out = (done ≡ []) × (part ≡ []) × (out ≡ [])
Stands Within done part out = (u : AnyUnit) × (us : List AnyUnit) × (part ≡ u ∷ us) × (out ≡ joined (done ++ part ∷ []))
Stands After done part out = (d : List AnyUnit) × (ds : List (List AnyUnit)) × (done ≡ d ∷ ds) × (part ≡ []) × (out ≡ joined done)

ends : (gap : Gap) (done : List (List AnyUnit)) (part out : List AnyUnit) → Stands gap done part out → out ≡ joined (done ++ ended part)
ends Before done part out s = rw (s.0, s.1) s.2
ends Within done part out s = rw s.2 (rw s.2 at s.3)
ends After done part out s = rw (s.3, append-nil) s.4

some-push : (done : List (List AnyUnit)) (p : List AnyUnit) → (d : List AnyUnit) × (ds : List (List AnyUnit)) × (done ++ p ∷ [] ≡ d ∷ ds)
some-push [] p = (p, [], refl)
some-push (d ∷ ds) p = (d, ds ++ p ∷ [], refl)

-- after a SPACE
stands-space : (gap : Gap) (done : List (List AnyUnit)) (part out : List AnyUnit) → Stands gap done part out → Stands (gap_after_space gap) (done ++ ended part) [] out
stands-space Before done part out s = (rw (s.0, s.1) refl, refl, s.2)
stands-space Within done part out s =
    let more = some-push done part in
    let same : ended part ≡ part ∷ [] = rw s.2 refl in
    (more.0, more.1, ap (λ (x : List (List AnyUnit)). done ++ x) same ∙ more.2, refl, ends Within done part out s)
stands-space After done part out s =
    let same : done ++ ended part ≡ done = rw s.3 (append-nil done) in
    (s.0, s.1, same ∙ s.2, refl, s.4 ∙ ap joined (sym same))

-- after another unit
stands-unit : (gap : Gap) (done : List (List AnyUnit)) (part out : List AnyUnit) (u : AnyUnit) → Stands gap done part out → Stands Within done (part ++ u ∷ []) (out ++ (space_due gap ++ u ∷ []))
stands-unit Before done part out u s = (u, [], rw s.1 refl, rw (s.0, s.1, s.2) refl)
stands-unit Within done part out u s =
    (s.0, s.1 ++ u ∷ [], ap (λ (x : List AnyUnit). x ++ u ∷ []) s.2, ap (λ (x : List AnyUnit). x ++ u ∷ []) s.3 ∙ sym (joined-grow done part u))
stands-unit After done part out u s =
    (u, [], rw s.3 refl, rw (s.3, s.4, s.2) (sym (joined-push s.0 s.1 (u ∷ []))))

step : (b : Bool) (u : AnyUnit) (units : List AnyUnit) (gap : Gap) (done : List (List AnyUnit)) (part out : List AnyUnit) → Stands gap done part out
    → ((gap : Gap) (done : List (List AnyUnit)) (part out : List AnyUnit) → Stands gap done part out → (fold spacing (out, gap) units).0 ≡ joined (all_ended (fold parted (done, part) units)))
    → (fold spacing (if b then (out, gap_after_space gap) else (out ++ (space_due gap ++ u ∷ []), Within)) units).0
    ≡ joined (all_ended (fold parted (if b then (done ++ ended part, []) else (done, part ++ u ∷ [])) units))
step true u units gap done part out s again = again (gap_after_space gap) (done ++ ended part) [] out (stands-space gap done part out s)
step false u units gap done part out s again =
    again Within done (part ++ u ∷ []) (out ++ (space_due gap ++ u ∷ [])) (stands-unit gap done part out u s)

-- what is put out are the parts, joined
spacing-parted : (units : List AnyUnit) (gap : Gap) (done : List (List AnyUnit)) (part out : List AnyUnit) → Stands gap done part out
    → (fold spacing (out, gap) units).0 ≡ joined (all_ended (fold parted (done, part) units))
spacing-parted [] gap done part out s = ends gap done part out s
spacing-parted (u ∷ units) gap done part out s = step (is_space u) u units gap done part out s (spacing-parted units)

pub reading-joined : (units : List AnyUnit) → (fold reading ([], Before) units).0 ≡ joined (parts (flat_map unit_read units))
reading-joined units =
    ap (λ (x : List AnyUnit × Gap). x.0) (reading-read units ([], Before))
    ∙ spacing-parted (flat_map unit_read units) Before [] [] [] (refl, refl, refl)
