-- What is kept of each open element is that of the state, and its map is the one in force.
use Rattle.std.specs.Prelude.{◌≡◌, Bool, true, false, List, [], ◌∷◌, map}
use Rattle.std.proofs.Common.{refl, sym, ap, ◌∙◌}
use Rattle.sgml_scan.proofs.Runs.{apart}
use Rattle.sgml_dtd_maps.specs.declared.uses.MapOf.{MapOf}
use Rattle.sgml_dtd_maps.specs.declared.uses.MapOf.TheVariants as map_of
use Rattle.sgml_theory_reading.specs.dtd.Doctypes.{Doctype}
use Rattle.sgml_records.specs.Items.{Item}
use Rattle.sgml_theory_reading.specs.Names.{Name}
use Rattle.sgml_theory_reading.specs.Types.{map_of_type}
use Rattle.sgml_theory_reading.specs.Nest.{without_first}
use Rattle.sgml_theory_reading.specs.Context.{Level}
use Rattle.sgml_theory_reading.specs.Maps.{map_in_force, setting_or}
use Rattle.sgml_inside.specs.declared.inside.Inner.{Inner}
use Rattle.sgml_inside.specs.Inside.{settings_in, map_in, noted_in, opened_in, set_in}
use Rattle.sgml_inside.specs.Laws.{NotedIsAfter, OpenedIsAfter, EndedIsAfter, SetIsAfter, AreInForce, InForceIsFound, InForceStays}

pub noted-is-after : NotedIsAfter
noted-is-after i [] = (refl, refl)
noted-is-after i (x ∷ xs) = (refl, refl)

pub opened-is-after : OpenedIsAfter
opened-is-after m xs = (refl, refl)

pub ended-is-after : EndedIsAfter
ended-is-after [] = (refl, refl)
ended-is-after (x ∷ xs) = (refl, refl)

pub set-is-after : SetIsAfter
set-is-after m [] = (refl, refl)
set-is-after m (x ∷ xs) = (refl, refl)

pub found : InForceIsFound
found d [] [] e = refl
found d (l ∷ ls) (x ∷ xs) e = e.0
found d [] (x ∷ xs) e = absurd e
found d (l ∷ ls) [] e = absurd e

-- BY THE TYPES of the open elements alone

abbrev types_of : List Level → List Name
types_of ls = map (λ (l : Level). l.element) ls

abbrev is_none : List Name → Bool
is_none [] = true
is_none (n ∷ ns) = false

abbrev first_or : Name → List Name → Name
first_or n [] = n
first_or n (m ∷ ms) = m

same : (d : Doctype) (ls ms : List Level) (xs : List Inner) → types_of ms ≡ types_of ls → AreInForce d ls xs → AreInForce d ms xs
same d [] [] [] e f = tt
same d [] (m ∷ ms) [] e f = apart false (ap is_none e) refl
same d (l ∷ ls) [] (x ∷ xs) e f = apart true refl (ap is_none e)
same d (l ∷ ls) (m ∷ ms) (x ∷ xs) e f =
    let rest = same d ls ms xs (ap without_first e) f.1 in
    let outer = sym (found d ls xs f.1) ∙ found d ms xs rest in
    let type = sym (ap (first_or []) e) in
    (f.0 ∙ (λ i. setting_or x.setting (setting_or (map_of_type d (type i)) (outer i))), rest)
same d [] ms (x ∷ xs) e f = absurd f
same d (l ∷ ls) ms [] e f = absurd f

-- WITH EACH CALL

noted-forced : (d : Doctype) (ls : List Level) (xs : List Inner) (i : Item) → AreInForce d ls xs → AreInForce d ls (noted_in i xs)
noted-forced d [] [] i f = tt
noted-forced d (l ∷ ls) (x ∷ xs) i f = f
noted-forced d [] (x ∷ xs) i f = absurd f
noted-forced d (l ∷ ls) [] i f = absurd f

closed-forced : (d : Doctype) (ls : List Level) (xs : List Inner) → AreInForce d ls xs → AreInForce d (without_first ls) (without_first xs)
closed-forced d [] [] f = tt
closed-forced d (l ∷ ls) (x ∷ xs) f = f.1
closed-forced d [] (x ∷ xs) f = absurd f
closed-forced d (l ∷ ls) [] f = absurd f

set-or : (m setting map next : MapOf) → map ≡ setting_or setting next → setting_or m map ≡ setting_or (setting_or m setting) next
set-or map_of.Parent setting map next e = e
set-or map_of.Empty setting map next e = refl
set-or (map_of.Map number) setting map next e = refl

set-forced : (d : Doctype) (ls : List Level) (xs : List Inner) (m : MapOf) → AreInForce d ls xs → AreInForce d ls (set_in m xs)
set-forced d [] [] m f = tt
set-forced d (l ∷ ls) (x ∷ xs) m f =
    (set-or m x.setting x.map (setting_or (map_of_type d l.element) (map_in_force d ls (settings_in xs))) f.0, f.1)
set-forced d [] (x ∷ xs) m f = absurd f
set-forced d (l ∷ ls) [] m f = absurd f

pub stays : InForceStays
stays d ls xs f = record {
  same = λ ms e. same d ls ms xs e f;
  noted = λ i. noted-forced d ls xs i f;
  opened = λ l. (ap (setting_or (map_of_type d l.element)) (found d ls xs f), f);
  closed = closed-forced d ls xs f;
  set = λ m. set-forced d ls xs m f;
}
