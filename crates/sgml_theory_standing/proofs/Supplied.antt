-- The texts that were given go on to be those in the files of their entities, and a text that is opened is
-- one of them.
use Rattle.std.specs.Prelude.{◌≡◌, ℕ, zero, suc, ◌+◌, ◌<◌, ◌==◌, Bool, true, false, Option, Some, None, is_some, unwrap_or, List, [], length, if◌then◌else◌}
use Rattle.std.specs.Option.{option_or}
use Rattle.std.proofs.Common.{refl, sym, ap, ◌∙◌, subst, arith, eqb-true}
use Rattle.sgml_theory_spelling.proofs.scan.Runs.{apart}
use Rattle.sgml_theory_spelling.specs.entity.declared.kinds.External.{External}
use Rattle.sgml_theory_spelling.specs.entity.declared.kinds.Entity.{Entity}
use Rattle.sgml_theory_spelling.specs.entity.Entities.{first_entity, entity_at}
use Rattle.sgml_theory_spelling.specs.entity.Texts.{text_of}
use Rattle.sgml_theory_spelling.specs.decl_lexemes.Sources.{text_at, or_empty, or_given, internal_text}
use Rattle.sgml_theory_spelling.specs.theory_reading.Names.{Name, Text}
use Rattle.sgml_theory_spelling.specs.theory_reading.Pieces.{Piece, Kind, Meaning, ToText, Head, SubsetEnd, Ref, ShortRef, EntityEnd}
use Rattle.sgml_theory_spelling.specs.theory_reading.Types.{entity}
use Rattle.sgml_theory_spelling.specs.theory_reading.Facets.{Turn, OpensText, EndsText, StaysInText, turn_of_external, turn_of_meaning, turn, ExternalSubset, declares, subset_named, subset_number}
use Rattle.sgml_theory_spelling.proofs.theory_reading.Numbered.{number-stays}
use Rattle.sgml_theory_spelling.specs.theory_reading.Unread.{Outside, Sources, file_of, file_of_entity, file_of_subset}
use Rattle.sgml_theory_standing.specs.Supplied.{IsInFile, AreSuppliedSoFar}
use Rattle.sgml_theory_standing.specs.Kept.{Kept, sources_of}
use Rattle.sgml_theory_standing.specs.Next.{sources_after, text_after, IsThere}
use Rattle.sgml_theory_standing.proofs.First.{says_doctype, same-name}
use Rattle.sgml_theory_standing.proofs.Entities.{other, AreOpened, entity-below}

-- THE FILE of a declared entity stays

entity-some : (outside : Outside) (o : Option Entity) (file : Name) → file_of_entity outside o ≡ Some file → (e : Entity) × (o ≡ Some e)
entity-some outside (Some e) file h = (e, refl)
entity-some outside None file h = apart false (ap is_some h) refl

declared-file : (outside : Outside) (k : Kept) (p : Piece) (n : ℕ) (file : Name) → file_of_entity outside (entity k.doctype n) ≡ Some file
    → file_of_entity outside (entity (declares p.kind k.doctype) n) ≡ Some file
declared-file outside k p n file h =
    let e = entity-some outside (entity k.doctype n) file h in
    ap (file_of_entity outside) (number-stays k.doctype p.kind n e.0 e.1 ∙ sym e.1) ∙ h

-- that of the external subset too, where no document type is said
subset-file : (outside : Outside) (k : Kept) (p : Piece) (file : Name) → subset_named p.kind ≡ None → says_doctype p.kind ≡ false
    → file_of_subset outside k.doctype k.subset ≡ Some file → file_of_subset outside (declares p.kind k.doctype) (option_or (subset_named p.kind) k.subset) ≡ Some file
subset-file outside k p file none other h =
    ap (λ o. file_of_subset outside (declares p.kind k.doctype) (option_or o k.subset)) none ∙ (by k.subset ∙ h)
  where
    by : (o : Option ExternalSubset) → file_of_subset outside (declares p.kind k.doctype) o ≡ file_of_subset outside k.doctype o
    by None = refl
    by (Some x) = ap (λ (name : Option Name). outside.resolved Rattle.sgml_theory_spelling.specs.catalog.declared.catalog.Kind.TheVariants.Doctype (unwrap_or name []) x.external x.base) (same-name p.kind k.doctype other)

supplied-subset : (outside : Outside) (k : Kept) (texts : List (ℕ × Text)) (p : Piece) (text : Text) (named : Option ExternalSubset) (says : Bool)
    → subset_named p.kind ≡ named → says_doctype p.kind ≡ says → (says_doctype p.kind ≡ true → k.subset ≡ None)
    → AreSuppliedSoFar outside (sources_of k) texts → IsThere outside k texts p
    → is_some (option_or (subset_named p.kind) k.subset) ≡ true → text_of texts 1 ≡ Some text → IsInFile outside (sources_after p k) 1 text
unfolding file_of
supplied-subset outside k texts p text (Some named) says e f first s there some given = there.subset named text e given
supplied-subset outside k texts p text None true e f first s there some given =
    apart (is_some k.subset) (ap (λ o. is_some (option_or o k.subset)) (sym e) ∙ some) (ap is_some (first f))
supplied-subset outside k texts p text None false e f first s there some given =
    let x = s 1 text (omega arith) (ap (λ o. is_some (option_or o k.subset)) (sym e) ∙ some) given in
    record { file = x.file; named = in-file x.file x.named; found = x.found }
  where
    in-file : (file : Name) → file_of outside (sources_of k) 1 ≡ Some file → file_of outside (sources_after p k) 1 ≡ Some file
    in-file file h = subset-file outside k p file e f h

-- each other text is that of a declared entity
file-other : (outside : Outside) (k : Sources) (n : ℕ) → 0 < n → (n == subset_number) ≡ false → file_of outside k n ≡ file_of_entity outside (entity k.doctype n)
unfolding file_of
file-other outside k n l e =
    λ i. if other n 0 l i then Some outside.file else (if e i then file_of_subset outside k.doctype k.subset else file_of_entity outside (entity k.doctype n))

supplied-entity : (outside : Outside) (k : Kept) (texts : List (ℕ × Text)) (n : ℕ) (text : Text) → 0 < n → (n == subset_number) ≡ false
    → AreSuppliedSoFar outside (sources_of k) texts → text_of texts n ≡ Some text → IsInFile outside (sources_of k) n text
supplied-entity outside k texts n text l e s given = s n text l (ap (λ b. if b then is_some k.subset else true) e) given

pub supplied-on : (outside : Outside) (k : Kept) (texts : List (ℕ × Text)) (p : Piece) → (says_doctype p.kind ≡ true → k.subset ≡ None)
    → AreSuppliedSoFar outside (sources_of k) texts → IsThere outside k texts p → AreSuppliedSoFar outside (sources_after p k) texts
supplied-on outside k texts p first s there n text l named given = by (n == subset_number) refl
  where
    by : (t : Bool) → (n == subset_number) ≡ t → IsInFile outside (sources_after p k) n text
    by true e =
        let one : n ≡ 1 = eqb-true n 1 e in
        subst (λ m. IsInFile outside (sources_after p k) m text) (sym one)
        (supplied-subset outside k texts p text (subset_named p.kind) (says_doctype p.kind) refl refl first s there
        (ap (λ b. if b then is_some (option_or (subset_named p.kind) k.subset) else true) (sym e) ∙ named) (ap (text_of texts) (sym one) ∙ given))
    by false e =
        let x = supplied-entity outside k texts n text l e s given in record {
          file = x.file;
          named = file-other outside (sources_after p k) n l e ∙ declared-file outside k p n x.file (sym (file-other outside (sources_of k) n l e) ∙ x.named);
          found = x.found;
        }

-- A TEXT THAT IS OPENED

-- no piece opens the document
abbrev OpensNoDocument : Turn → Type 0
OpensNoDocument t = (n : ℕ) → t ≡ OpensText n → (n == 0) ≡ false

one-text : (a b : ℕ) → OpensText a ≡ OpensText b → a ≡ b
one-text a b e = cc

turned-to : (n : ℕ) (t : Bool) → (n == 0) ≡ t → OpensNoDocument (if t then StaysInText else OpensText n)
turned-to n true e m f = absurd (cc)
turned-to n false e m f = ap (λ i. i == 0) (sym (one-text n m f)) ∙ e

external-opened : (o : Option External) → OpensNoDocument (turn_of_external o)
external-opened None m f = absurd (cc)
external-opened (Some x) m f = ap (λ i. i == 0) (sym (one-text subset_number m f))

if-opened : (t : Bool) (a b : Turn) → OpensNoDocument a → OpensNoDocument b → OpensNoDocument (if t then a else b)
if-opened true a b x y = x
if-opened false a b x y = y

stays-opened : OpensNoDocument StaysInText
stays-opened m f = absurd (cc)

ends-opened : OpensNoDocument EndsText
ends-opened m f = absurd (cc)

meaning-opened : (m : Meaning) → OpensNoDocument (turn_of_meaning m)
meaning-opened (ToText entity) = turned-to entity (entity == 0) refl
meaning-opened _ = stays-opened

kind-opened : (k : Kind) → OpensNoDocument (turn k)
unfolding turn
kind-opened (Head head base) = if-opened head.subset StaysInText (turn_of_external head.external) stays-opened (external-opened head.external)
kind-opened (SubsetEnd true) = λ m f. ap (λ i. i == 0) (sym (one-text subset_number m f))
kind-opened (SubsetEnd false) = stays-opened
kind-opened (Ref entity) = turned-to entity (entity == 0) refl
kind-opened (ShortRef string meaning) = meaning-opened meaning
kind-opened EntityEnd = ends-opened
kind-opened _ = stays-opened

-- its entity is declared
opened-below : (outside : Outside) (k : Kept) (texts : List (ℕ × Text)) (p : Piece) (n : ℕ) (text : Text)
    → text_at (declares p.kind k.doctype).entities texts n ≡ Some text → AreSuppliedSoFar outside (sources_of k) texts → n < length (declares p.kind k.doctype).entities + first_entity
unfolding entity
opened-below outside k texts p zero text h s = omega arith
opened-below outside k texts p (suc m) text h s = by (entity_at (declares p.kind k.doctype).entities (suc m)) refl
  where
    by : (o : Option Entity) → entity_at (declares p.kind k.doctype).entities (suc m) ≡ o → suc m < length (declares p.kind k.doctype).entities + first_entity
    by (Some e) is = entity-below (declares p.kind k.doctype).entities (suc m) e is
    by None is = by-number (suc m == subset_number) refl
      where
        given : text_of texts (suc m) ≡ Some text
        given = sym (ap (λ o. or_given (internal_text o) (text_of texts (suc m))) is) ∙ h

        by-number : (t : Bool) → (suc m == subset_number) ≡ t → suc m < length (declares p.kind k.doctype).entities + first_entity
        by-number true e = let one : suc m ≡ 1 = eqb-true (suc m) 1 e in omega (arith, one)
        by-number false e =
            let x = supplied-entity outside k texts (suc m) text (omega arith) e s given in
            let y = entity-some outside (entity k.doctype (suc m)) x.file (sym (file-other outside (sources_of k) (suc m) (omega arith) e) ∙ x.named) in
            entity-below (declares p.kind k.doctype).entities (suc m) y.0 (number-stays k.doctype p.kind (suc m) y.0 y.1)

pub opens : (outside : Outside) (k : Kept) (texts : List (ℕ × Text)) (p : Piece) → AreSuppliedSoFar outside (sources_of k) texts → IsThere outside k texts p
    → AreOpened (declares p.kind k.doctype).entities texts (text_after outside p k) (turn p.kind)
opens outside k texts p s there n f = record {
  no_document = kind-opened p.kind n f;
  declared = opened-below outside k texts p n (text_after outside p k n) (there.opened n f) s;
  given = ap or_empty (there.opened n f);
}
