-- What refers to entities still does after more declarations.
use Rattle.std.proofs.Common.{◌≡◌, ℕ, zero, suc, Bool, true, false, ◌+◌, ◌-◌, nat_lt, List, [], ◌∷◌, ◌++◌, Option, Some, None, option_map, refl, sym, ap, ◌∙◌, if◌then◌else◌}
use Rattle.std.specs.List.{slice_get}
use Rattle.std.proofs.lemmas.List.{append-nil}
use Rattle.sgml_theory_again.specs.text.declared.unit.Unit.{Unit as AnyUnit}
use Rattle.sgml_theory_again.specs.text.declared.unit.Unit.TheVariants as unit
use Rattle.sgml_theory_again.specs.entity.declared.kinds.Body.{Body}
use Rattle.sgml_theory_again.specs.entity.declared.kinds.Body.TheVariants as body
use Rattle.sgml_theory_again.specs.entity.declared.kinds.Entity.{Entity}
use Rattle.sgml_theory_again.specs.entity.declared.kinds.Space.TheVariants.{General}
use Rattle.sgml_theory_again.specs.entity.Entities.{is_entity, number_from, number_of, entity_at}
use Rattle.sgml_theory_again.specs.attr.declared.value.AttrValue.{AttrValue}
use Rattle.sgml_theory_again.specs.attr.declared.value.AttrValue.TheVariants as of
use Rattle.sgml_theory_again.specs.dtd.Doctypes.{Doctype}
use Rattle.sgml_theory_again.specs.theory_reading.Types.{entity_number, entity}
use Rattle.sgml_theory_again.specs.Content.{IsReferred}
use Rattle.sgml_theory_writable.specs.Spelled.{UnitRefers, UnitsRefer, ValueRefers}
use Rattle.sgml_theory_writable.proofs.Basics.{none-some, all-so}

-- ENTITIES, with more behind them
abbrev pub Grown : List Entity → List Entity → Type 0
Grown es fs = (more : List Entity) × (fs ≡ es ++ more)

pub the-same : (es : List Entity) → Grown es es
the-same es = ([], sym (append-nil es))

pub one-more : (es : List Entity) (e : Entity) (t : Bool) → Grown es (if t then es else es ++ e ∷ [])
one-more es e true = the-same es
one-more es e false = (e ∷ [], refl)

number-stays : (n : ℕ) (es more : List Entity) (name : List ℕ) (k : ℕ) → number_from n es General name ≡ Some k → number_from n (es ++ more) General name ≡ Some k
number-stays n [] more name k h = none-some k h
number-stays n (e ∷ es) more name k h = by (is_entity General name e) (number-stays (n + 1) es more name k) h
  where
    by : (t : Bool) → (number_from (n + 1) es General name ≡ Some k → number_from (n + 1) (es ++ more) General name ≡ Some k)
        → (if t then Some n else number_from (n + 1) es General name) ≡ Some k → (if t then Some n else number_from (n + 1) (es ++ more) General name) ≡ Some k
    by true later h = h
    by false later h = later h

get-stays : (es more : List Entity) (i : ℕ) (e : Entity) → slice_get es i ≡ Some e → slice_get (es ++ more) i ≡ Some e
get-stays [] more i e h = none-some e h
get-stays (x ∷ es) more zero e h = h
get-stays (x ∷ es) more (suc i) e h = get-stays es more i e h

abbrev body_in : Option Entity → Option Body
body_in o = option_map (λ (e : Entity). e.body) o

body-there : (es more : List Entity) (i : ℕ) (b : Body) (o : Option Entity) → slice_get es i ≡ o → body_in o ≡ Some b → body_in (slice_get (es ++ more) i) ≡ Some b
body-there es more i b None at h = none-some b h
body-there es more i b (Some e) at h = ap body_in (get-stays es more i e at) ∙ h

body-stays : (es more : List Entity) (k : ℕ) (b : Body) → body_in (entity_at es k) ≡ Some b → body_in (entity_at (es ++ more) k) ≡ Some b
body-stays es more k b h = by (nat_lt k 2) h
  where
    by : (t : Bool) → body_in (if t then None else slice_get es (k - 2)) ≡ Some b → body_in (if t then None else slice_get (es ++ more) (k - 2)) ≡ Some b
    by true h = none-some b h
    by false h = body-there es more (k - 2) b (slice_get es (k - 2)) refl h

module _ (d d' : Doctype) (g : Grown d.entities d'.entities) where
  referred-stays : (e : ℕ) (b : Body) → IsReferred d e b → IsReferred d' e b
  unfolding entity_number entity
  referred-stays e b r = record {
    name = r.name;
    numbered = ap (λ es. number_of es General r.name) g.1 ∙ number-stays 2 d.entities g.0 r.name e r.numbered;
    body_is = ap (λ es. body_in (entity_at es e)) g.1 ∙ body-stays d.entities g.0 e b r.body_is;
  }

  unit-stays : (u : AnyUnit) → UnitRefers d u → UnitRefers d' u
  unit-stays (unit.Byte b) a = tt
  unit-stays (unit.Coded b) a = tt
  unit-stays (unit.Sdata e) a = (a.0, referred-stays e (body.Sdata a.0) a.1)

  pub units-stay : (us : List AnyUnit) → UnitsRefer d us → UnitsRefer d' us
  units-stay us a = all-so (UnitRefers d) (UnitRefers d') us unit-stays a

  pub value-stays : (v : AttrValue) → ValueRefers d v → ValueRefers d' v
  value-stays of.Implied a = tt
  value-stays (of.Cdata us) a = units-stay us a
  value-stays (of.Notation n) a = tt
  value-stays (of.Entities es) a = tt
  value-stays (of.Tokens ts) a = tt
