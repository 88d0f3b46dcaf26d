-- What the tables of a model say.
use Rattle.std.specs.Prelude.{◌≡◌, ℕ, Bool, true, List, Option}
use Rattle.std.specs.Coded.{Coded-set, coded_option, coded_ℕ, coded_bool, coded_list, Π_prop, ×_prop}
use Rattle.sgml_model.specs.Term.{Term, done, required}
use Rattle.sgml_automaton.specs.declared.plan.Place.{Place}
use Rattle.sgml_automaton.specs.declared.plan.Index.{Index}
use Rattle.sgml_automaton.specs.Position.{next_by}
use Rattle.sgml_automaton.specs.Last.{term_at_last, IsPlaced}
use Rattle.sgml_automaton.specs.Plan.{Tables, tables_of, place_at, finished_of, needed_of, next_in, text_from, texts_of}

-- at the start and after each token they answer as the term that is left
abbrev pub Answers : Tables → Place → Term → Type 0
Answers t s x = (last : Option ℕ) (bits : List Bool) → IsPlaced x last →
    (finished_of (place_at t s last) ≡ done (term_at_last x last bits))
    × ((needed_of t.names (place_at t s last) ≡ required (term_at_last x last bits))
    × ((l : Option (List ℕ)) → next_in t s last l ≡ next_by (term_at_last x last bits) l))

-- where they count
abbrev pub IsKnown : Bool → Tables → Place → Term → Type 0
IsKnown counts t s x = counts ≡ true → Answers t s x

pub IsKnown-prop : (counts : Bool) (t : Tables) (s : Place) (x : Term) → IsProp (IsKnown counts t s x)
IsKnown-prop counts t s x = Π_prop (λ h. Π_prop (λ last. Π_prop (λ bits. Π_prop (λ p. ×_prop
    (Coded-set coded_bool (finished_of (place_at t s last)) (done (term_at_last x last bits)))
    (×_prop
    (Coded-set (coded_option (coded_list coded_ℕ)) (needed_of t.names (place_at t s last)) (required (term_at_last x last bits)))
    (Π_prop (λ l. Coded-set (coded_option coded_ℕ) (next_in t s last l) (next_by (term_at_last x last bits) l))))))))

-- the index of a model
abbrev pub IsIndexOf : Index → Term → Type 0
IsIndexOf i x = IsKnown i.counts (tables_of i.plan) i.start x

pub IsIndexOf-prop : (i : Index) (x : Term) → IsProp (IsIndexOf i x)
IsIndexOf-prop i x = IsKnown-prop i.counts (tables_of i.plan) i.start x

-- where they count, it is noted where #PCDATA can come
abbrev pub KnowsTexts : Index → Type 0
KnowsTexts i = i.counts ≡ true →
    (i.text ≡ text_from (tables_of i.plan) i.start) × (i.texts.items ≡ texts_of (tables_of i.plan))

pub KnowsTexts-prop : (i : Index) → IsProp (KnowsTexts i)
KnowsTexts-prop i = Π_prop (λ h. ×_prop
    (Coded-set (coded_option coded_ℕ) i.text (text_from (tables_of i.plan) i.start))
    (Coded-set (coded_list (coded_option coded_ℕ)) i.texts.items (texts_of (tables_of i.plan))))
