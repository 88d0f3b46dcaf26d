-- What an open element knows of those further out: the nearest one with exceptions, and whether NET is
-- in force.
use Rattle.std.specs.Prelude.{◌≡◌, ◌==◌, ◌+◌, ℕ, Bool, false, not, ◌||◌, List, [], ◌∷◌, length, if◌then◌else◌}
use Rattle.sgml_dtd_elements.specs.Types.{ElementType}
use Rattle.sgml_dtd.specs.Doctypes.{Doctype}
use Rattle.sgml_theory_reading.specs.Facets.{Token}
use Rattle.sgml_theory_reading.specs.Omission.{is_token_in}
use Rattle.sgml_infer.specs.Tables.{type_at}
use Rattle.sgml_infer.specs.declared.level.Level.{Level}
use Rattle.sgml_infer.specs.declared.exceptions.Exception.{Exception}
use Rattle.sgml_infer.specs.declared.exceptions.Exception.TheVariants.{Inclusion, Exclusion}

-- its type has inclusions or exclusions (11.2.5)
abbrev pub has_exceptions : ElementType → Bool
has_exceptions e = not (length e.body.included == 0) || not (length e.body.excluded == 0)

-- what it includes, or excludes (11.2.5)
abbrev pub excepted : Exception → ElementType → List (List ℕ)
excepted Inclusion e = e.body.included
excepted Exclusion e = e.body.excluded

-- the element type of this number has an exception for the token
abbrev pub excepts : Doctype → Exception → Token → ℕ → Bool
excepts t exception k i = is_token_in k (excepted exception (type_at t i))

-- the link of an element that stands inside `at` others: how many elements are open up to the nearest
-- one with exceptions, itself or one further out, whose link is `outer`; 0 where none has any
abbrev pub link_at : Doctype → ℕ → ℕ → ℕ → ℕ
link_at t element at outer = if has_exceptions (type_at t element) then at + 1 else outer

-- the link of the innermost
abbrev pub last_link : ℕ → List Level → ℕ
last_link outer [] = outer
last_link outer (l ∷ ls) = last_link l.excepted ls

abbrev pub AreLinkedFrom : Doctype → ℕ → ℕ → List Level → Type 0
AreLinkedFrom t at outer [] = Unit {0}
AreLinkedFrom t at outer (l ∷ ls) = (l.excepted ≡ link_at t l.element at outer) × AreLinkedFrom t (at + 1) l.excepted ls

-- each of them has the link to the nearest with exceptions, the outermost first
abbrev pub AreLinked : Doctype → List Level → Type 0
AreLinked t ls = AreLinkedFrom t 0 0 ls

-- NET is in force inside them (7.4.1.3)
abbrev pub last_net : Bool → List Level → Bool
last_net outer [] = outer
last_net outer (l ∷ ls) = last_net l.within_net ls

abbrev pub KnowNetFrom : Bool → List Level → Type 0
KnowNetFrom outer [] = Unit {0}
KnowNetFrom outer (l ∷ ls) = (l.within_net ≡ (outer || l.slash)) × KnowNetFrom l.within_net ls

-- each of them knows whether it or one further out enabled NET, the outermost first
abbrev pub KnowNet : List Level → Type 0
KnowNet ls = KnowNetFrom false ls
