-- What a piece that is spelled does to what entities are and to what was opened.
use Rattle.std.proofs.Common.{◌≡◌, ℕ, Bool, true, false, ◌==◌, inl, inr, ◌+◌, ◌≤◌, List, Option, None, Some, is_some, length, refl, sym, ◌∙◌, if◌then◌else◌}
use Rattle.sgml_theory_spelling.specs.entity.declared.kinds.External.{External}
use Rattle.sgml_theory_spelling.specs.decl_forms.declared.declaration.Declaration.{Declaration}
use Rattle.sgml_theory_spelling.specs.decl_forms.declared.declaration.Declaration.TheVariants as form
use Rattle.sgml_theory_spelling.specs.dtd.Doctypes.{with_declared}
use Rattle.sgml_theory_spelling.specs.theory_reading.Names.{Text}
use Rattle.sgml_theory_spelling.specs.theory_reading.Pieces.{Kind, Head, Declare, SubsetEnd, Ref, ShortRef, Meaning, Ordinary, ToText, ToData, ToExternalData, ToInstruction}
use Rattle.sgml_theory_spelling.specs.theory_reading.Facets.{Turn, OpensText, StaysInText, turn, turn_of_external, turn_of_end, turn_of_meaning, declares, subset_named}
use Rattle.sgml_theory_spelling.specs.theory_reading.Unread.{Outside, Sources, text_of}
use Rattle.sgml_theory_spelling.specs.theory_reading.State.{State, sources_in}
use Rattle.sgml_theory_spelling.specs.theory_reading.Characters.{kind_noted, meaning_noted, ordinary}
use Rattle.sgml_theory_spelling.specs.Stacked.{Stacked}
use Rattle.sgml_theory_ending.specs.Places.{IsNamed}
use Rattle.sgml_theory_ending.proofs.Says.{Opens, SubsetSays, MeaningSays, DeclarationSays, Says, sources_with}

-- the text that is opened, with those that were opened inside the piece and before it
abbrev pub Affords : Outside → Sources → ℕ → ℕ → Turn → Type 0
Affords outside k spent inside (OpensText e) = spent + (inside + length (text_of outside k e)) ≤ outside.expand
Affords outside k spent inside _ = Unit {0}

-- it isn't the document, and has a name
abbrev pub Names : Outside → Sources → Turn → Type 0
Names outside k (OpensText e) = ((e == 0) ≡ false) × IsNamed outside k e
Names outside k _ = Unit {0}

-- the name of the document type, and where the external subset is
pub record SameNames (new old : Sources) : Type 0 where
  pub name_is : new.doctype.name ≡ old.doctype.name
  pub subset_is : new.subset ≡ old.subset

pub record Steps (outside : Outside) (k : Sources) (spent inside : ℕ) (kind : Kind) : Type 0 where
  pub affords : Affords outside (sources_with k kind) spent inside (turn kind)
  pub names : Names outside (sources_with k kind) (turn kind)
  pub stays : is_some k.doctype.name ≡ true → SameNames (sources_with k kind) k

not-named : {A : Type 0} (b : Bool) → b ≡ false → b ≡ true → A
not-named b e f = absurd (let x : true ≡ false = sym f ∙ e in cc)

declares-once : (base : Text) (k : Sources) (x : Declaration) → DeclarationSays k.doctype x → is_some k.doctype.name ≡ true
    → SameNames (record { doctype = with_declared base k.doctype x; subset = k.subset }) k
declares-once base k (form.Doctype head) d e = not-named (is_some k.doctype.name) d e
declares-once base k (form.Element d) x e = record { name_is = refl; subset_is = refl }
declares-once base k (form.Attlist d) x e = record { name_is = refl; subset_is = refl }
declares-once base k (form.Entity d) x e = record { name_is = refl; subset_is = refl }
declares-once base k (form.Notation d) x e = record { name_is = refl; subset_is = refl }
declares-once base k (form.Shortref d) x e = record { name_is = refl; subset_is = refl }
declares-once base k (form.Usemap d) x e = record { name_is = refl; subset_is = refl }

-- A TEXT THAT IS OPENED

abbrev Turns : Outside → Sources → ℕ → ℕ → Turn → Type 0
Turns outside k spent inside t = Affords outside k spent inside t × Names outside k t

entity-turns : (outside : Outside) (k : Sources) (spent inside e : ℕ) (b : Bool) → (e == 0) ≡ b → Opens outside k spent inside e
    → Turns outside k spent inside (if b then StaysInText else OpensText e)
entity-turns outside k spent inside e true f o = (tt, tt)
entity-turns outside k spent inside e false f o = (o.within, (f, inr o.declared))

meaning-turns : (outside : Outside) (k : Sources) (spent inside : ℕ) (m : Meaning) → MeaningSays outside k spent inside m → Turns outside k spent inside (turn_of_meaning m)
meaning-turns outside k spent inside (ToText e) o = entity-turns outside k spent inside e (e == 0) refl o
meaning-turns outside k spent inside (ToData e) o = (tt, tt)
meaning-turns outside k spent inside (ToExternalData e) o = (tt, tt)
meaning-turns outside k spent inside (ToInstruction e text) o = (tt, tt)
meaning-turns outside k spent inside (Ordinary has_items content) o = (tt, tt)

noted-turns : (outside : Outside) (s : State) (spent inside : ℕ) (string : List ℕ) (m : Meaning) → MeaningSays outside (sources_in s) spent inside m
    → MeaningSays outside (sources_in s) spent inside (meaning_noted s string m)
unfolding ordinary
noted-turns outside s spent inside string (ToText e) o = o
noted-turns outside s spent inside string (ToData e) o = tt
noted-turns outside s spent inside string (ToExternalData e) o = tt
noted-turns outside s spent inside string (ToInstruction e text) o = tt
noted-turns outside s spent inside string (Ordinary has_items content) o = tt

external-turns : (outside : Outside) (k : Sources) (spent inside : ℕ) (o : Option External) → SubsetSays outside k spent inside (turn_of_external o)
    → Turns outside k spent inside (turn_of_external o)
external-turns outside k spent inside None x = (tt, tt)
external-turns outside k spent inside (Some external) x = (x.within, (refl, inl x.there))

head-turns : (outside : Outside) (k : Sources) (spent inside : ℕ) (b : Bool) (o : Option External) → SubsetSays outside k spent inside (if b then StaysInText else turn_of_external o)
    → Turns outside k spent inside (if b then StaysInText else turn_of_external o)
head-turns outside k spent inside true o x = (tt, tt)
head-turns outside k spent inside false o x = external-turns outside k spent inside o x

end-turns : (outside : Outside) (k : Sources) (spent inside : ℕ) (b : Bool) → SubsetSays outside k spent inside (turn_of_end b) → Turns outside k spent inside (turn_of_end b)
end-turns outside k spent inside true x = (x.within, (refl, inl x.there))
end-turns outside k spent inside false x = (tt, tt)

pub steps : (outside : Outside) (s : State) (t : Stacked) (inside : ℕ) (k : Kind) → Says outside s t inside k → Steps outside (sources_in s) t.spent inside (kind_noted s k)
unfolding turn kind_noted declares subset_named
steps outside s t inside (Ref e) x =
    let y = entity-turns outside (sources_in s) t.spent inside e (e == 0) refl x in
    record { affords = y.0; names = y.1; stays = λ n. record { name_is = refl; subset_is = refl } }
steps outside s t inside (ShortRef string m) x =
    let y = meaning-turns outside (sources_in s) t.spent inside (meaning_noted s string m) (noted-turns outside s t.spent inside string m x) in
    record { affords = y.0; names = y.1; stays = λ n. record { name_is = refl; subset_is = refl } }
steps outside s t inside (Head head base) x =
    let y = head-turns outside (sources_with (sources_in s) (Head head base)) t.spent inside head.subset head.external x.1 in
    record { affords = y.0; names = y.1; stays = λ n. not-named (is_some s.context.doctype.name) x.0 n }
steps outside s t inside (SubsetEnd reads_external) x =
    let y = end-turns outside (sources_in s) t.spent inside (is_some s.subset) x in
    record { affords = y.0; names = y.1; stays = λ n. record { name_is = refl; subset_is = refl } }
steps outside s t inside (Declare lexemes says base) x =
    record { affords = tt; names = tt; stays = λ n. declares-once base (sources_in s) says x n }
steps outside s t inside _ x = record { affords = tt; names = tt; stays = λ n. record { name_is = refl; subset_is = refl } }
