-- Entities that are declared later leave the texts that are being read as they are.
use Rattle.std.specs.Prelude.{◌≡◌, ℕ, zero, suc, ◌+◌, ◌-◌, ◌<◌, ◌≤◌, ◌==◌, nat_lt, Bool, true, false, Some, None, List, [], ◌∷◌, ◌++◌, is_some, map, length, drop, if◌then◌else◌}
use Rattle.std.specs.List.{slice_get}
use Rattle.std.proofs.Common.{refl, sym, ap, ◌∙◌, subst, arith, rules, tests, eqb-true, length-append, length-drop, drop-drop}
use Rattle.std.proofs.lemmas.List.{append-nil, drop-append-le}
use Rattle.sgml_theory_spelling.specs.text.declared.place.Place.{Place}
use Rattle.sgml_theory_spelling.specs.entity.declared.kinds.Entity.{Entity}
use Rattle.sgml_theory_spelling.specs.entity.Entities.{first_entity, entity_at, number_of}
use Rattle.sgml_theory_spelling.specs.entity.Stack.{moved}
use Rattle.sgml_theory_spelling.specs.entity.Texts.{text_of}
use Rattle.sgml_theory_spelling.specs.decl_lexemes.Sources.{text_at, or_empty, or_given, internal_text}
use Rattle.sgml_theory_spelling.specs.decl_forms.declared.declaration.Declaration.{Declaration}
use Rattle.sgml_theory_spelling.specs.decl_forms.declared.declaration.Declaration.TheVariants as form
use Rattle.sgml_theory_spelling.specs.dtd.Doctypes.{Doctype, with_declared, entity_in}
use Rattle.sgml_theory_spelling.specs.theory_reading.Names.{Text}
use Rattle.sgml_theory_spelling.specs.theory_reading.Pieces.{Kind, Sgml, Head, Declare}
use Rattle.sgml_theory_spelling.specs.theory_reading.Facets.{Turn, OpensText, EndsText, StaysInText, declares}
use Rattle.sgml_theory_spelling.specs.theory_reading.Unread.{Rest, turned, rest_moved, rest_turned}
use Rattle.sgml_theory_spelling.specs.theory_reading.Reads.{more_of, length_of_first}
use Rattle.sgml_theory_spelling.specs.Asked.{ArePlacesOf}
use Rattle.sgml_theory_standing.specs.Kept.{rest_of, AreDeclared, AreWithin}

-- a number that is greater is another
pub other : (a b : ℕ) → b < a → (a == b) ≡ false
other a b l = by (a == b) refl
  where
    by : (t : Bool) → (a == b) ≡ t → (a == b) ≡ false
    by true e = let same : a ≡ b = eqb-true a b e in absurd (omega (arith, l, same))
    by false e = e

-- MORE ENTITIES

pub record Longer (es new : List Entity) : Type 0 where
  pub added : List Entity
  pub same : new ≡ es ++ added

with-one : (t : Bool) (es : List Entity) (e : Entity) → Longer es (if t then es else es ++ e ∷ [])
with-one true es e = record { added = []; same = sym (append-nil es) }
with-one false es e = record { added = e ∷ []; same = refl }

unchanged : (es : List Entity) → Longer es es
unchanged es = record { added = []; same = sym (append-nil es) }

declared-longer : (base : Text) (d : Doctype) (x : Declaration) → Longer d.entities (with_declared base d x).entities
declared-longer base d (form.Entity y) =
    let e = entity_in d.syntax base y in with-one (is_some (number_of d.entities e.space e.name)) d.entities e
declared-longer base d (form.Element y) = unchanged d.entities
declared-longer base d (form.Attlist y) = unchanged d.entities
declared-longer base d (form.Notation y) = unchanged d.entities
declared-longer base d (form.Shortref y) = unchanged d.entities
declared-longer base d (form.Usemap y) = unchanged d.entities
declared-longer base d (form.Doctype y) = unchanged d.entities

pub longer : (k : Kind) (d : Doctype) → Longer d.entities (declares k d).entities
unfolding declares
longer (Sgml syntax) d = unchanged d.entities
longer (Head head base) d = unchanged d.entities
longer (Declare lexemes says base) d = declared-longer base d says
longer _ d = unchanged d.entities

get-append : (es xs : List Entity) (n : ℕ) → n < length es → slice_get (es ++ xs) n ≡ slice_get es n
get-append [] xs n l = absurd (omega (arith, l))
get-append (e ∷ es) xs zero l = refl
get-append (e ∷ es) xs (suc n) l = get-append es xs n (omega (arith, l))

-- a declared entity has a number from 2 on
from-two : (n : ℕ) → nat_lt n first_entity ≡ false → 1 < n
from-two n e = search (rules, tests)

entity-append : (es xs : List Entity) (n : ℕ) → n < length es + first_entity → entity_at (es ++ xs) n ≡ entity_at es n
entity-append es xs n l = by (nat_lt n first_entity) refl
  where
    by : (t : Bool) → nat_lt n first_entity ≡ t → (if t then None else slice_get (es ++ xs) (n - first_entity)) ≡ (if t then None else slice_get es (n - first_entity))
    by true e = refl
    by false e = let from = from-two n e in get-append es xs (n - first_entity) (omega (arith, l, from))

get-below : (es : List Entity) (n : ℕ) (e : Entity) → slice_get es n ≡ Some e → n < length es
get-below [] zero e h = absurd (cc)
get-below [] (suc n) e h = absurd (cc)
get-below (x ∷ es) zero e h = omega arith
get-below (x ∷ es) (suc n) e h = let l = get-below es n e h in omega (arith, l)

below-two : (n : ℕ) → nat_lt n first_entity ≡ true → n < 2
below-two n e = search (rules, tests)

pub entity-below : (es : List Entity) (n : ℕ) (e : Entity) → entity_at es n ≡ Some e → n < length es + first_entity
entity-below es n e h = by (nat_lt n first_entity) refl h
  where
    by : (t : Bool) → nat_lt n first_entity ≡ t → (if t then None else slice_get es (n - first_entity)) ≡ Some e → n < length es + first_entity
    by true f h = let l = below-two n f in omega (arith, l)
    by false f h =
        let l = get-below es (n - first_entity) e h in
        let from = from-two n f in omega (arith, l, from)

text-append : (es xs : List Entity) (texts : List (ℕ × Text)) (n : ℕ) → n < length es + first_entity → text_at (es ++ xs) texts n ≡ text_at es texts n
text-append es xs texts n l = ap (λ o. or_given (internal_text o) (text_of texts n)) (entity-append es xs n l)

-- THE TEXTS that are being read

pub declared-more : (es xs : List Entity) (ps : List Place) → AreDeclared es ps → AreDeclared (es ++ xs) ps
declared-more es xs [] d = tt
declared-more es xs (p ∷ ps) d = let l = length-append es xs in (omega (arith, l, d.0), declared-more es xs ps d.1)

pub given-more : (es xs : List Entity) (texts : List (ℕ × Text)) (ps : List Place) → AreDeclared es ps → map (rest_of (es ++ xs) texts) ps ≡ map (rest_of es texts) ps
given-more es xs texts [] d = refl
given-more es xs texts (p ∷ ps) d =
    λ i. record { entity = p.entity; bytes = drop p.at (or_empty (text-append es xs texts p.entity d.0 i)) } ∷ given-more es xs texts ps d.1 i

pub within-more : (es xs : List Entity) (texts : List (ℕ × Text)) (ps : List Place) → AreDeclared es ps → AreWithin es texts ps → AreWithin (es ++ xs) texts ps
within-more es xs texts [] d w = tt
within-more es xs texts (p ∷ ps) d w =
    (subst (λ o. p.at ≤ length (or_empty o)) (sym (text-append es xs texts p.entity d.0)) w.0, within-more es xs texts ps d.1 w.1)

pub places-more : (es xs : List Entity) (texts : List (ℕ × Text)) (more : Text) (ps : List Place) (rs : List Rest) → AreDeclared es ps
    → ArePlacesOf es texts more ps rs → ArePlacesOf (es ++ xs) texts more ps rs
places-more es xs texts more [] [] d a = tt
places-more es xs texts more (p ∷ ps) (r ∷ rs) d a =
    (a.0, a.1 ∙ ap (λ o. more_of more r.entity (drop p.at (or_empty o))) (sym (text-append es xs texts p.entity d.0)), places-more es xs texts more ps rs d.1 a.2)
places-more es xs texts more [] (r ∷ rs) d a = absurd a
places-more es xs texts more (p ∷ ps) [] d a = absurd a

-- MOVED over so many bytes

pub declared-moved : (es : List Entity) (n : ℕ) (ps : List Place) → AreDeclared es ps → AreDeclared es (moved n ps)
declared-moved es n [] d = tt
declared-moved es n (p ∷ ps) d = d

pub within-moved : (es : List Entity) (texts : List (ℕ × Text)) (n : ℕ) (ps : List Place) → n ≤ length_of_first (map (rest_of es texts) ps)
    → AreWithin es texts ps → AreWithin es texts (moved n ps)
within-moved es texts n [] l w = tt
within-moved es texts n (p ∷ ps) l w =
    let e = length-drop p.at (or_empty (text_at es texts p.entity)) in (omega (arith, l, e, w.0), w.1)

more-dropped : (b : Bool) (more : Text) (n : ℕ) (bytes : Text) → n ≤ length bytes → drop n (if b then bytes ++ more else bytes) ≡ (if b then drop n bytes ++ more else drop n bytes)
more-dropped true more n bytes l = drop-append-le n bytes more l
more-dropped false more n bytes l = refl

pub places-moved : (es : List Entity) (texts : List (ℕ × Text)) (more : Text) (n : ℕ) (ps : List Place) (rs : List Rest)
    → n ≤ length_of_first (map (rest_of es texts) ps) → ArePlacesOf es texts more ps rs → ArePlacesOf es texts more (moved n ps) (rest_moved n rs)
places-moved es texts more n [] [] l a = tt
places-moved es texts more n (p ∷ ps) (r ∷ rs) l a =
    let text = or_empty (text_at es texts p.entity) in
    (a.0, ap (drop n) a.1 ∙ (more-dropped (r.entity == 0) more n (drop p.at text) l ∙ ap (more_of more r.entity) (drop-drop n p.at text)), a.2)
places-moved es texts more n [] (r ∷ rs) l a = absurd a
places-moved es texts more n (p ∷ ps) [] l a = absurd a

-- OPENED OR ENDED

-- a text that is opened is no document, is declared, and was given
pub record Opened (es : List Entity) (texts : List (ℕ × Text)) (text : ℕ → Text) (n : ℕ) : Type 0 where
  pub no_document : (n == 0) ≡ false
  pub declared : n < length es + first_entity
  pub given : or_empty (text_at es texts n) ≡ text n

abbrev pub AreOpened : List Entity → List (ℕ × Text) → (ℕ → Text) → Turn → Type 0
AreOpened es texts text t = (n : ℕ) → t ≡ OpensText n → Opened es texts text n

pub declared-turned : (es : List Entity) (texts : List (ℕ × Text)) (text : ℕ → Text) (t : Turn) (ps : List Place) → AreOpened es texts text t → AreDeclared es ps → AreDeclared es (turned t ps)
declared-turned es texts text (OpensText n) ps o d = ((o n refl).declared, d)
declared-turned es texts text EndsText [] o d = tt
declared-turned es texts text EndsText (p ∷ ps) o d = d.1
declared-turned es texts text StaysInText ps o d = d

pub within-turned : (es : List Entity) (texts : List (ℕ × Text)) (t : Turn) (ps : List Place) → AreWithin es texts ps → AreWithin es texts (turned t ps)
within-turned es texts (OpensText n) ps w = (omega arith, w)
within-turned es texts EndsText [] w = tt
within-turned es texts EndsText (p ∷ ps) w = w.1
within-turned es texts StaysInText ps w = w

pub places-turned : (es : List Entity) (texts : List (ℕ × Text)) (text : ℕ → Text) (more : Text) (t : Turn) (ps : List Place) (rs : List Rest)
    → AreOpened es texts text t → ArePlacesOf es texts more ps rs → ArePlacesOf es texts more (turned t ps) (rest_turned text t rs)
places-turned es texts text more (OpensText n) ps rs o a =
    let x = o n refl in
    (refl, sym x.given ∙ sym (ap (λ b. if b then or_empty (text_at es texts n) ++ more else or_empty (text_at es texts n)) x.no_document), a)
places-turned es texts text more EndsText [] [] o a = tt
places-turned es texts text more EndsText (p ∷ ps) (r ∷ rs) o a = a.2
places-turned es texts text more EndsText [] (r ∷ rs) o a = absurd a
places-turned es texts text more EndsText (p ∷ ps) [] o a = absurd a
places-turned es texts text more StaysInText ps rs o a = a
