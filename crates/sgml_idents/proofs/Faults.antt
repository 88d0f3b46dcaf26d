-- What is judged of what was noted is the fault that is defined.
use Rattle.std.proofs.Common.{◌≡◌, ℕ, ◌+◌, suc, zero, Bool, true, false, not, ◌||◌, cond, Option, Some, None, Result, Ok, Err, List, [], ◌∷◌, ◌++◌, map, refl, sym, ap, ◌∙◌, arith}
use Rattle.sgml_text.specs.declared.place.Place.{Place}
use Rattle.sgml_text.specs.declared.reason.Reason.{Reason}
use Rattle.sgml_text.specs.declared.reason.Reason.TheVariants.{Repeated, Dangling}
use Rattle.sgml_names.specs.Index.{names_of}
use Rattle.sgml_dtd.specs.Doctypes.{Doctype}
use Rattle.sgml_said.specs.theory_reading.Names.{Name}
use Rattle.sgml_said.specs.theory_reading.Types.{is_in}
use Rattle.sgml_said.specs.theory_reading.Reads.{Attribute}
use Rattle.sgml_said.specs.theory_reading.Events.{Event as Said}
use Rattle.sgml_said.specs.theory_reading.Identifiers.{id_fault, id_fault_from, ids_of, references_of, some_in, some_not_in, starts, all_ids}
use Rattle.sgml_events.specs.declared.event.Event.{Event}
use Rattle.sgml_events.specs.declared.event.Event.TheVariants as event
use Rattle.sgml_text.specs.declared.unit.Unit.{Unit as AnyUnit}
use Rattle.sgml_text.specs.declared.unit.Unit.TheVariants as unit
use Rattle.sgml_said.specs.Told.{said, said_data, said_unit, all_said}
use Rattle.sgml_idents.specs.declared.idents.IdError.{IdError}
use Rattle.sgml_idents.specs.declared.idents.IdError.TheVariants as errors
use Rattle.sgml_idents.specs.declared.idents.Idents.{Idents}
use Rattle.sgml_idents.specs.Noted.{Start, Idref, start_of, starts_of, ids_in, idrefs_at, noted, Noted, dangling_at, judged, judged_by}
use Rattle.sgml_idents.specs.Judged.{place_at, IsFaultAt, IsJudged, IsAnswer, HasNoted, idrefs_kept}

abbrev pub attributes_in : List Start → List (List Attribute)
attributes_in ss = map (λ (s : Start). s.attributes) ss

-- a fault by number, counted from n, and the same by its place
abbrev pub FaultIs : List Start → ℕ → Option (ℕ × Reason) → Option (Place × Reason) → Type 0
FaultIs ss n None None = Unit {0}
FaultIs ss n None (Some g) = ⊥
FaultIs ss n (Some f) None = ⊥
FaultIs ss n (Some f) (Some g) = (j : ℕ) × (f.0 ≡ n + j) × (place_at ss j ≡ Some g.0) × (g.1 ≡ f.1)

is_later : (s : Start) (ss : List Start) (n : ℕ) (x : Option (ℕ × Reason)) (y : Option (Place × Reason)) → FaultIs ss (suc n) x y → FaultIs (s ∷ ss) n x y
is_later s ss n None None h = tt
is_later s ss n None (Some g) h = h
is_later s ss n (Some f) None h = h
is_later s ss n (Some f) (Some g) h = (suc h.0, omega (arith, h.1), h.2, h.3)

-- the IDREFs of one start, and those of others
front_here : (b : Bool) (ids : List Name) (place : Place) (n : Name) (ns : List Name) (rs : List Idref) → is_in n ids ≡ b → dangling_at ids (idrefs_at place ns ++ rs) ≡ cond (some_not_in ns ids) (Some place) (dangling_at ids rs) → dangling_at ids (idrefs_at place (n ∷ ns) ++ rs) ≡ cond (some_not_in (n ∷ ns) ids) (Some place) (dangling_at ids rs)
front_here true ids place n ns rs e again = rw e again
front_here false ids place n ns rs e again = rw e refl

dangling_front : (ids : List Name) (place : Place) (ns : List Name) (rs : List Idref) → dangling_at ids (idrefs_at place ns ++ rs) ≡ cond (some_not_in ns ids) (Some place) (dangling_at ids rs)
dangling_front ids place [] rs = refl
dangling_front ids place (n ∷ ns) rs = front_here (is_in n ids) ids place n ns rs refl (dangling_front ids place ns rs)

abbrev AreJudged : List Name → List Name → ℕ → List Start → Type 0
AreJudged earlier ids n ss = FaultIs ss n (id_fault_from earlier ids n (attributes_in ss)) (judged ids (noted earlier ss).idrefs (noted earlier ss).repeated)

first_is : (s : Start) (ss : List Start) (n : ℕ) (r : Reason) → FaultIs (s ∷ ss) n (Some (n, r)) (Some (s.place, r))
first_is s ss n r = (0, omega arith, refl, refl)

one_start : (a b : Bool) (earlier ids : List Name) (n : ℕ) (s : Start) (ss : List Start) → some_in (ids_of s.attributes) earlier ≡ a → some_not_in (references_of s.attributes) ids ≡ b → AreJudged (earlier ++ ids_of s.attributes) ids (suc n) ss → AreJudged earlier ids n (s ∷ ss)
one_start true b earlier ids n s ss x y again = rw x (first_is s ss n Repeated)
one_start false true earlier ids n s ss x y again =
    rw x (rw y (rw (dangling_front ids s.place (references_of s.attributes) (noted (earlier ++ ids_of s.attributes) ss).idrefs) (rw y (first_is s ss n Dangling))))
one_start false false earlier ids n s ss x y again =
    rw x (rw y (rw (dangling_front ids s.place (references_of s.attributes) (noted (earlier ++ ids_of s.attributes) ss).idrefs) (rw y (is_later s ss n _ _ again))))

are_judged : (earlier ids : List Name) (n : ℕ) (ss : List Start) → AreJudged earlier ids n ss
are_judged earlier ids n [] = tt
are_judged earlier ids n (s ∷ ss) = one_start (some_in (ids_of s.attributes) earlier) (some_not_in (references_of s.attributes) ids) earlier ids n s ss refl refl (are_judged (earlier ++ ids_of s.attributes) ids (suc n) ss)

-- THE STARTS of what events say
no_start : (d : Doctype) (u : AnyUnit) (us : List AnyUnit) (rest : List Said) → starts (said_data d us ++ rest) ≡ starts rest → starts (said_data d (u ∷ us) ++ rest) ≡ starts rest
no_start d (unit.Byte b) us rest again = again
no_start d (unit.Coded b) us rest again = again
no_start d (unit.Sdata e) us rest again = again

no_starts : (d : Doctype) (us : List AnyUnit) (rest : List Said) → starts (said_data d us ++ rest) ≡ starts rest
no_starts d [] rest = refl
no_starts d (u ∷ us) rest = no_start d u us rest (no_starts d us rest)

starts_said : (d : Doctype) (e : Event) (rest : List Said) → starts (said d e ++ rest) ≡ attributes_in (start_of d e) ++ starts rest
starts_said d (event.Start element place values) rest = refl
starts_said d (event.End element) rest = refl
starts_said d (event.Chars us) rest = no_starts d us rest
starts_said d (event.Pi text entity place) rest = refl
starts_said d (event.DataRef e) rest = refl

attributes_append : (d : Doctype) (e : Event) (ss : List Start) → attributes_in (start_of d e) ++ attributes_in ss ≡ attributes_in (start_of d e ++ ss)
attributes_append d (event.Start element place values) ss = refl
attributes_append d (event.End element) ss = refl
attributes_append d (event.Chars us) ss = refl
attributes_append d (event.Pi text entity place) ss = refl
attributes_append d (event.DataRef e) ss = refl

pub starts_are : (d : Doctype) (es : List Event) → starts (all_said d es) ≡ attributes_in (starts_of d es)
starts_are d [] = refl
starts_are d (e ∷ es) =
    starts_said d e (all_said d es)
    ∙ ap (λ v. attributes_in (start_of d e) ++ v) (starts_are d es)
    ∙ attributes_append d e (starts_of d es)

-- THE ANSWER
dangling_here : (b : Bool) (xs ys : List Name) (r : Idref) (rs : List Idref) → is_in r.name ys ≡ b → is_in r.name xs ≡ b → dangling_at xs rs ≡ dangling_at ys rs → dangling_at xs (r ∷ rs) ≡ dangling_at ys (r ∷ rs)
dangling_here true xs ys r rs e f again = rw e (rw f again)
dangling_here false xs ys r rs e f again = rw e (rw f refl)

dangling_same : (xs ys : List Name) (rs : List Idref) → ((name : Name) → is_in name xs ≡ is_in name ys) → dangling_at xs rs ≡ dangling_at ys rs
dangling_same xs ys [] same = refl
dangling_same xs ys (r ∷ rs) same = dangling_here (is_in r.name ys) xs ys r rs refl (same r.name) (dangling_same xs ys rs same)

fault_is : (d : Doctype) (es : List Event) → FaultIs (starts_of d es) 0 (id_fault (all_said d es)) (judged (ids_in (starts_of d es)) (noted [] (starts_of d es)).idrefs (noted [] (starts_of d es)).repeated)
fault_is d es = unfold id_fault in rw (starts_are d es) (are_judged [] (ids_in (starts_of d es)) 0 (starts_of d es))

judged_noted : (i : Idents) (d : Doctype) (es : List Event) → HasNoted i d es → judged (names_of i.ids) (idrefs_kept i.references.items) i.repeated ≡ judged (ids_in (starts_of d es)) (noted [] (starts_of d es)).idrefs (noted [] (starts_of d es)).repeated
judged_noted i d es h =
    ap (λ v. judged_by v i.repeated) (dangling_same (names_of i.ids) (ids_in (starts_of d es)) (idrefs_kept i.references.items) h.ids)
    ∙ ap (λ v. judged (ids_in (starts_of d es)) v i.repeated) h.idrefs
    ∙ ap (λ v. judged (ids_in (starts_of d es)) (noted [] (starts_of d es)).idrefs v) h.repeated

same_place : (k j : ℕ) → k ≡ 0 + j → k ≡ j
same_place k j e = omega (arith, e)

fault_here : (d : Doctype) (es : List Event) (x : Option (ℕ × Reason)) (place : Place) (r : Reason) → id_fault (all_said d es) ≡ x → FaultIs (starts_of d es) 0 x (Some (place, r)) → IsFaultAt d es place r
fault_here d es None place r e h = absurd h
fault_here d es (Some f) place r e h = (f.0, e ∙ ap (λ (v : Reason). Some (f.0, v)) (sym h.3), ap (place_at (starts_of d es)) (same_place f.0 h.0 h.1) ∙ h.2)

no_fault : (ss : List Start) (x : Option (ℕ × Reason)) → FaultIs ss 0 x None → x ≡ None
no_fault ss None h = refl
no_fault ss (Some f) h = absurd h

pub is_judged : {T : Type 0} (d : Doctype) (es : List Event) (i : Idents) (r : Result T IdError) → HasNoted i d es → IsAnswer (judged (names_of i.ids) (idrefs_kept i.references.items) i.repeated) r → IsJudged d es r
is_judged d es i (Ok x) h a =
    no_fault (starts_of d es) (id_fault (all_said d es)) (rw (sym (judged_noted i d es h) ∙ a) at (fault_is d es))
is_judged d es i (Err (errors.Repeated place)) h a =
    fault_here d es (id_fault (all_said d es)) place Repeated refl (rw (sym (judged_noted i d es h) ∙ a) at (fault_is d es))
is_judged d es i (Err (errors.Dangling place)) h a =
    fault_here d es (id_fault (all_said d es)) place Dangling refl (rw (sym (judged_noted i d es h) ∙ a) at (fault_is d es))
is_judged d es i (Err errors.Memory) h a = absurd a
