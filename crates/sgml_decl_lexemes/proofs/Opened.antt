-- A text that a reference opens can be opened.
use Rattle.std.proofs.Common.{◌≡◌, ℕ, Bool, true, false, List, [], ◌∷◌, length, Option, None, Some, refl, sym, ap, nat_lt, subst}
use Rattle.sgml_text.specs.declared.place.Place.{Place}
use Rattle.sgml_entity.specs.declared.kinds.Body.{Body}
use Rattle.sgml_entity.specs.declared.kinds.Body.TheVariants.{Sgml, Cdata, Sdata, Pi, External, ExternalData}
use Rattle.sgml_entity.specs.declared.kinds.Entity.{Entity}
use Rattle.sgml_entity.specs.declared.kinds.Space.{Space}
use Rattle.sgml_entity.specs.declared.kinds.Space.TheVariants.{General, Parameter}
use Rattle.sgml_entity.specs.declared.places.StackRefused.{StackRefused}
use Rattle.sgml_entity.specs.Entities.{entity_at, number_of}
use Rattle.sgml_entity.specs.Stack.{Stack, refusal, is_on, moved}
use Rattle.sgml_entity.specs.Texts.{text_of}
use Rattle.sgml_text.specs.Characters.{all_sgml}
use Rattle.sgml_decl_lexemes.specs.declared.fault.Reached.{Reached}
use Rattle.sgml_decl_lexemes.specs.declared.fault.Reached.TheVariants.{Opens}
use Rattle.sgml_decl_lexemes.specs.Sources.{Source, opened_by, opening, given_or_wanted, reach_external, reach_body, reach_entity, reach_number, reached, folded, text_at, or_empty, internal_text, body_text}
use Rattle.sgml_decl_lexemes.specs.Readings.{advanced}

abbrev Opening : Stack → Reached → Type 0
Opening s (Opens n k) = refusal n k s ≡ None
Opening s r = Unit {0}

by_text : (s : Stack) (n : ℕ) (text : List ℕ) (b : Bool) → refusal n (length text) s ≡ None → all_sgml text ≡ b → Opening s (opened_by None n text)
by_text s n text true free is = rw is free
by_text s n text false free is = rw is tt

by_refusal : (s : Stack) (n : ℕ) (text : List ℕ) (o : Option StackRefused) → refusal n (length text) s ≡ o → Opening s (opened_by o n text)
by_refusal s n text (Some r) is = tt
by_refusal s n text None is = by_text s n text (all_sgml text) is refl

opens : (s : Stack) (n : ℕ) (text : List ℕ) → Opening s (opening s n text)
opens s n text = by_refusal s n text (refusal n (length text) s) refl

given : (s : Stack) (n : ℕ) (o : Option (List ℕ)) → Opening s (given_or_wanted s n o)
given s n None = tt
given s n (Some text) = opens s n text

external : (I : Source) (s : Stack) (n : ℕ) (b : Bool) → is_on n s.places ≡ b → Opening s (reach_external I s n)
external I s n true is = rw is tt
external I s n false is = rw is (given s n (text_of I.texts n))

body : (I : Source) (s : Stack) (by : Space) (n : ℕ) (b : Body) → Opening s (reach_body I s by n b)
body I s by n (Sgml text) = opens s n text
body I s by n (External e) = external I s n (is_on n s.places) refl
body I s General n (Cdata text) = tt
body I s Parameter n (Cdata text) = tt
body I s General n (Sdata text) = tt
body I s Parameter n (Sdata text) = tt
body I s by n (Pi text) = tt
body I s by n (ExternalData k e o) = tt

entity : (I : Source) (s : Stack) (by : Space) (n : ℕ) (o : Option Entity) → Opening s (reach_entity I s by n o)
entity I s by n None = tt
entity I s by n (Some e) = body I s by n e.body

number : (I : Source) (s : Stack) (by : Space) (o : Option ℕ) → Opening s (reach_number I s by o)
number I s by None = tt
number I s by (Some n) = entity I s by n (entity_at I.entities n)

any : (I : Source) (s : Stack) (by : Space) (name : List ℕ) (long : Bool) → nat_lt I.syntax.quantities.namelen (length name) ≡ long → Opening s (reached I s by name)
any I s by name true is = rw is tt
any I s by name false is = rw is (number I s by (number_of I.entities by (folded I.syntax.entity_fold name)))

opened : (s : Stack) (n k : ℕ) (r : Reached) → r ≡ Opens n k → Opening s r → refusal n k s ≡ None
opened s n k r is h = subst (Opening s) is h

pub can_open : (I : Source) (s : Stack) (by : Space) (name : List ℕ) (n k : ℕ) → reached I s by name ≡ Opens n k → refusal n k s ≡ None
can_open I s by name n k is = opened s n k (reached I s by name) is (any I s by name (nat_lt I.syntax.quantities.namelen (length name)) refl)

-- moving the top on changes nothing of that
pub advanced-refusal : (n k m : ℕ) (s : Stack) → refusal n k (advanced m s) ≡ refusal n k s
advanced-refusal n k m s = by_places s.places
  where
    by_places : (ps : List Place) → refusal n k (record s { places = moved m ps }) ≡ refusal n k (record s { places = ps })
    by_places [] = refl
    by_places (p ∷ ps) = refl

-- the size is that of the text that is opened
abbrev Sized : Source → Reached → Type 0
Sized I (Opens n k) = k ≡ length (or_empty (text_at I.entities I.texts n))
Sized I r = Unit {0}

sized_by : (I : Source) (s : Stack) (n : ℕ) (text : List ℕ) (o : Option StackRefused) (b : Bool) → text_at I.entities I.texts n ≡ Some text → all_sgml text ≡ b → Sized I (opened_by o n text)
sized_by I s n text (Some r) b at is = tt
sized_by I s n text None true at is = rw is (ap (λ (t : Option (List ℕ)). length (or_empty t)) (sym at))
sized_by I s n text None false at is = rw is tt

sized_given : (I : Source) (s : Stack) (n : ℕ) (o : Option (List ℕ)) → text_of I.texts n ≡ o → internal_text (entity_at I.entities n) ≡ None → Sized I (given_or_wanted s n o)
sized_given I s n None is inner = tt
sized_given I s n (Some text) is inner = sized_by I s n text (refusal n (length text) s) (all_sgml text) (rw (inner, is) refl) refl

sized_external : (I : Source) (s : Stack) (n : ℕ) (b : Bool) → is_on n s.places ≡ b → internal_text (entity_at I.entities n) ≡ None → Sized I (reach_external I s n)
sized_external I s n true is inner = rw is tt
sized_external I s n false is inner = rw is (sized_given I s n (text_of I.texts n) refl inner)

sized_body : (I : Source) (s : Stack) (by : Space) (n : ℕ) (b : Body) → internal_text (entity_at I.entities n) ≡ body_text b → Sized I (reach_body I s by n b)
sized_body I s by n (Sgml text) inner = sized_by I s n text (refusal n (length text) s) (all_sgml text) (rw inner refl) refl
sized_body I s by n (External e) inner = sized_external I s n (is_on n s.places) refl inner
sized_body I s General n (Cdata text) inner = tt
sized_body I s Parameter n (Cdata text) inner = tt
sized_body I s General n (Sdata text) inner = tt
sized_body I s Parameter n (Sdata text) inner = tt
sized_body I s by n (Pi text) inner = tt
sized_body I s by n (ExternalData k e o) inner = tt

sized_entity : (I : Source) (s : Stack) (by : Space) (n : ℕ) (o : Option Entity) → entity_at I.entities n ≡ o → Sized I (reach_entity I s by n o)
sized_entity I s by n None is = tt
sized_entity I s by n (Some e) is = sized_body I s by n e.body (ap internal_text is)

sized_number : (I : Source) (s : Stack) (by : Space) (o : Option ℕ) → Sized I (reach_number I s by o)
sized_number I s by None = tt
sized_number I s by (Some n) = sized_entity I s by n (entity_at I.entities n) refl

sized_any : (I : Source) (s : Stack) (by : Space) (name : List ℕ) (long : Bool) → nat_lt I.syntax.quantities.namelen (length name) ≡ long → Sized I (reached I s by name)
sized_any I s by name true is = rw is tt
sized_any I s by name false is = rw is (sized_number I s by (number_of I.entities by (folded I.syntax.entity_fold name)))

sized_opened : (I : Source) (n k : ℕ) (r : Reached) → r ≡ Opens n k → Sized I r → k ≡ length (or_empty (text_at I.entities I.texts n))
sized_opened I n k r is h = subst (Sized I) is h

pub opened_size : (I : Source) (s : Stack) (by : Space) (name : List ℕ) (n k : ℕ) → reached I s by name ≡ Opens n k → k ≡ length (or_empty (text_at I.entities I.texts n))
opened_size I s by name n k is = sized_opened I n k (reached I s by name) is (sized_any I s by name (nat_lt I.syntax.quantities.namelen (length name)) refl)
