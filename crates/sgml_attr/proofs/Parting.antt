-- The parts of a value stand between SPACEs.
use Rattle.std.proofs.Common.{◌≡◌, Bool, true, false, List, [], ◌∷◌, ◌++◌, refl, sym, ap, ◌∙◌, subst, fold, append_assoc, if◌then◌else◌}
use Rattle.std.proofs.lemmas.List.{append-nil}
use Rattle.sgml_text.specs.declared.unit.Unit.{Unit as AnyUnit}
use Rattle.sgml_text.specs.declared.unit.Unit.TheVariants.{Byte}
use Rattle.sgml_attr.specs.Literal.{spaced, joined}
use Rattle.sgml_attr.specs.Parts.{is_space, ended, parted, all_ended, parts, AllSpaces, NoSpaces, IsParted, AreParts}

-- the parts when one is begun
abbrev from : List AnyUnit → List AnyUnit → List (List AnyUnit)
from part units = all_ended (fold parted ([], part) units)

parted-done-here : (b : Bool) (done : List (List AnyUnit)) (part : List AnyUnit) (u : AnyUnit) (units : List AnyUnit)
    → ((done : List (List AnyUnit)) (part : List AnyUnit) → all_ended (fold parted (done, part) units) ≡ done ++ from part units)
    → all_ended (fold parted (if b then (done ++ ended part, []) else (done, part ++ u ∷ [])) units)
    ≡ done ++ all_ended (fold parted (if b then ([] ++ ended part, []) else ([], part ++ u ∷ [])) units)
parted-done-here true done part u units again =
    again (done ++ ended part) []
    ∙ append_assoc done (ended part) (from [] units)
    ∙ ap (λ (x : List (List AnyUnit)). done ++ x) (sym (again (ended part) []))
parted-done-here false done part u units again = again done (part ++ u ∷ [])

-- what has ended stays
parted-done : (units : List AnyUnit) (done : List (List AnyUnit)) (part : List AnyUnit) → all_ended (fold parted (done, part) units) ≡ done ++ from part units
parted-done [] done part = refl
parted-done (u ∷ units) done part = parted-done-here (is_space u) done part u units (parted-done units)

-- a SPACE ends the part
from-space : (part : List AnyUnit) (u : AnyUnit) (units : List AnyUnit) → is_space u ≡ true → from part (u ∷ units) ≡ ended part ++ from [] units
from-space part u units e = here (is_space u) e
  where
    here : (b : Bool) → b ≡ true → all_ended (fold parted (if b then ([] ++ ended part, []) else ([], part ++ u ∷ [])) units) ≡ ended part ++ from [] units
    here true is = parted-done units (ended part) []
    here false is = cc

-- another unit goes on it
from-unit : (part : List AnyUnit) (u : AnyUnit) (units : List AnyUnit) → is_space u ≡ false → from part (u ∷ units) ≡ from (part ++ u ∷ []) units
from-unit part u units e = here (is_space u) e
  where
    here : (b : Bool) → b ≡ false → all_ended (fold parted (if b then ([] ++ ended part, []) else ([], part ++ u ∷ [])) units) ≡ from (part ++ u ∷ []) units
    here true is = cc
    here false is = refl

from-spaces : (before units : List AnyUnit) → AllSpaces before → from [] (before ++ units) ≡ from [] units
from-spaces [] units s = refl
from-spaces (u ∷ before) units s = from-space [] u (before ++ units) s.0 ∙ from-spaces before units s.1

from-word : (word part units : List AnyUnit) → NoSpaces word → from part (word ++ units) ≡ from (part ++ word) units
from-word [] part units s = ap (λ (x : List AnyUnit). from x units) (sym (append-nil part))
from-word (u ∷ word) part units s =
    from-unit part u (word ++ units) s.0
    ∙ from-word word (part ++ u ∷ []) units s.1
    ∙ ap (λ (x : List AnyUnit). from x units) (append_assoc part (u ∷ []) word)

from-end : (part after : List AnyUnit) → IsParted after → from part after ≡ ended part ++ from [] after
from-end part [] s = sym (append-nil (ended part))
from-end part (u ∷ after) s = from-space part u after s ∙ ap (λ (x : List (List AnyUnit)). ended part ++ x) (sym (from-space [] u after s))

-- the parts are the only ones
pub parts-only : (ps : List (List AnyUnit)) (units : List AnyUnit) → AreParts ps units → parts units ≡ ps
parts-only [] units s = ap (from []) (sym (append-nil units)) ∙ from-spaces units [] s
parts-only ([] ∷ ps) units s = absurd s
parts-only ((u ∷ part) ∷ ps) units s =
    let before = s.0 in
    let after = s.1 in
    ap (from []) s.2
    ∙ from-spaces before ((u ∷ part) ++ after) s.3
    ∙ from-word (u ∷ part) [] after s.4
    ∙ from-end (u ∷ part) after s.5
    ∙ ap (λ (x : List (List AnyUnit)). (u ∷ part) ∷ x) (parts-only ps after s.6)

-- a SPACE before them changes nothing
space-before : (ps : List (List AnyUnit)) (u : AnyUnit) (units : List AnyUnit) → is_space u ≡ true → AreParts ps units → AreParts ps (u ∷ units)
space-before [] u units e s = (e, s)
space-before ([] ∷ ps) u units e s = s
space-before ((v ∷ part) ∷ ps) u units e s = (u ∷ s.0, s.1, ap (λ (x : List AnyUnit). u ∷ x) s.2, (e, s.3), s.4, s.5, s.6)

no-spaces-push : (part : List AnyUnit) (u : AnyUnit) → NoSpaces part → is_space u ≡ false → NoSpaces (part ++ u ∷ [])
no-spaces-push [] u s e = (e, tt)
no-spaces-push (v ∷ part) u s e = (s.0, no-spaces-push part u s.1 e)

-- the part that ends here stands before the others
part-before : (part : List AnyUnit) (u : AnyUnit) (units : List AnyUnit) (ps : List (List AnyUnit)) → NoSpaces part → is_space u ≡ true → AreParts ps units → AreParts (ended part ++ ps) (part ++ u ∷ units)
part-before [] u units ps n e s = space-before ps u units e s
part-before (v ∷ part) u units ps n e s = ([], u ∷ units, refl, tt, n, e, space-before ps u units e s)

are-here : (b : Bool) (part : List AnyUnit) (u : AnyUnit) (units : List AnyUnit) → NoSpaces part → is_space u ≡ b
    → ((part : List AnyUnit) → NoSpaces part → AreParts (from part units) (part ++ units))
    → AreParts (from part (u ∷ units)) (part ++ u ∷ units)
are-here true part u units n e again =
    subst (λ (ps : List (List AnyUnit)). AreParts ps (part ++ u ∷ units)) (sym (from-space part u units e))
    (part-before part u units (from [] units) n e (again [] tt))
are-here false part u units n e again =
    subst (λ (ps : List (List AnyUnit)). AreParts ps (part ++ u ∷ units)) (sym (from-unit part u units e))
    (subst (AreParts (from (part ++ u ∷ []) units)) (append_assoc part (u ∷ []) units) (again (part ++ u ∷ []) (no-spaces-push part u n e)))

are-from : (units part : List AnyUnit) → NoSpaces part → AreParts (from part units) (part ++ units)
are-from [] [] n = tt
are-from [] (v ∷ part) n = ([], [], refl, tt, n, tt, tt)
are-from (u ∷ units) part n = are-here (is_space u) part u units n refl (are-from units)

-- the parts are parts
pub parts-are : (units : List AnyUnit) → AreParts (parts units) units
parts-are units = are-from units [] tt

-- each part has a unit or more, and no SPACE
abbrev GoodParts : List (List AnyUnit) → Type 0
GoodParts [] = Unit {0}
GoodParts ([] ∷ ps) = ⊥
GoodParts ((u ∷ part) ∷ ps) = NoSpaces (u ∷ part) × GoodParts ps

good : (ps : List (List AnyUnit)) (units : List AnyUnit) → AreParts ps units → GoodParts ps
good [] units s = tt
good ([] ∷ ps) units s = s
good ((u ∷ part) ∷ ps) units s = (s.4, good ps s.1 s.6)

begins-parted : (ps : List (List AnyUnit)) → IsParted (spaced ps)
begins-parted [] = tt
begins-parted (p ∷ ps) = refl

spaced-are : (ps : List (List AnyUnit)) → GoodParts ps → AreParts ps (spaced ps)
spaced-are [] g = tt
spaced-are ([] ∷ ps) g = g
spaced-are ((u ∷ part) ∷ ps) g = (Byte 32 ∷ [], spaced ps, refl, (refl, tt), g.0, begins-parted ps, spaced-are ps g.1)

joined-are : (ps : List (List AnyUnit)) → GoodParts ps → AreParts ps (joined ps)
joined-are [] g = tt
joined-are ([] ∷ ps) g = g
joined-are ((u ∷ part) ∷ ps) g = ([], spaced ps, refl, tt, g.0, begins-parted ps, spaced-are ps g.1)

-- the parts, joined, have the same parts
pub parts-kept : (units : List AnyUnit) → parts (joined (parts units)) ≡ parts units
parts-kept units = parts-only (parts units) (joined (parts units)) (joined-are (parts units) (good (parts units) units (parts-are units)))
