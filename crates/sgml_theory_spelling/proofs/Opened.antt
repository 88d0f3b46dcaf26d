-- Texts that are opened, and texts in files.
use Rattle.std.proofs.Common.{◌≡◌, ℕ, zero, suc, Bool, true, false, ◌+◌, ◌-◌, ◌<◌, ◌==◌, ◌||◌, List, [], ◌∷◌, ◌++◌, map, length, nat_lt, Option, Some, None, option_map, is_some, refl, sym, ap, ◌∙◌, if◌then◌else◌, arith, rules, tests, eqb-true, eq-eqb}
use Rattle.std.specs.List.{list_any, slice_get}
use Rattle.std.specs.Option.{option_or}
use Rattle.sgml_scan.specs.text.declared.reason.Reason.TheVariants as reason
use Rattle.sgml_theory_reading.specs.entity.declared.kinds.Entity.{Entity}
use Rattle.sgml_theory_reading.specs.entity.Entities.{first_entity}
use Rattle.sgml_scan.specs.text.declared.place.Place.{Place}
use Rattle.sgml_theory_reading.specs.entity.Stack.{is_on, refusal_by}
use Rattle.sgml_theory_reading.specs.entity.Texts as texts
use Rattle.sgml_theory_reading.specs.decl_lexemes.Sources.{reason_of}
use Rattle.sgml_theory_reading.specs.Names.{Name, Text}
use Rattle.sgml_theory_reading.specs.Types.{entity}
use Rattle.sgml_theory_reading.specs.Facets.{subset_number}
use Rattle.sgml_theory_reading.specs.Unread.{Fetched, NotThere, TooLarge, Found, Outside, Sources, file_of, file_of_body, file_of_entity, file_of_subset, text_of}
use Rattle.sgml_theory_spelling.specs.References.{is_being_read}
use Rattle.sgml_theory_spelling.specs.Texts.{found_as, named_as, texts_from, texts_of}
use Rattle.sgml_theory_spelling.specs.Opened.{UnopenedIsRefused, FilesAreTexts}
use Rattle.sgml_theory_spelling.proofs.Tokens.{apart}

-- THE STACK

on-same : (n : ℕ) (ps : List Place) → list_any (λ m. m == n) (map (λ (p : Place). p.entity) ps) ≡ is_on n ps
on-same n [] = refl
on-same n (p ∷ ps) = ap (λ b. (p.entity == n) || b) (on-same n ps)

length-same : (ps : List Place) → length (map (λ (p : Place). p.entity) ps) ≡ length ps
length-same [] = refl
length-same (p ∷ ps) = ap suc (length-same ps)

rows-same : (on full over : Bool) →
    (if on then Some reason.Recursive else option_or None (if full then Some reason.EntityLevel else if over then Some reason.Expansion else None))
    ≡ option_map reason_of (refusal_by on full over)
rows-same true full over = refl
rows-same false true over = refl
rows-same false false true = refl
rows-same false false false = refl

pub unopened-is-refused : UnopenedIsRefused
unopened-is-refused s outside k t number h =
    let size = length (text_of outside k number) in
    rows-same (is_being_read number t) (nat_lt k.doctype.syntax.quantities.entlvl (length t.entities)) (nat_lt outside.expand (t.spent + size))
    ∙ (λ i. option_map reason_of (refusal_by ((ap (list_any (λ m. m == number)) (sym h.entities) ∙ on-same number s.places) i)
    (nat_lt (sym h.levels i) ((ap length (sym h.entities) ∙ length-same s.places) i)) (nat_lt (sym h.expand i) (sym h.spent i + size))))

-- FILES

no-entity : {A : Type 0} (e : Entity) → None ≡ Some e → A
no-entity e h = absurd (never h)
  where
    never : None ≡ Some e → ⊥
    never h = cc

one-entity : (x e : Entity) → Some x ≡ Some e → x ≡ e
one-entity x e h = cc

other : (a b : ℕ) → b < a → (a == b) ≡ false
other a b l = by (a == b) refl
  where
    by : (t : Bool) → (a == b) ≡ t → (a == b) ≡ false
    by true e = let same : a ≡ b = eqb-true a b e in absurd (omega (arith, l, same))
    by false e = e

-- the texts after one of a lower number
passed-found : (m n : ℕ) (x : Fetched) (rest : List (ℕ × Text)) → m < n → texts.text_of (found_as m x ++ rest) n ≡ texts.text_of rest n
passed-found m n NotThere rest l = refl
passed-found m n TooLarge rest l = refl
passed-found m n (Found t) rest l = ap (λ b. if b then Some t else texts.text_of rest n) (other n m l)

passed : (outside : Outside) (m n : ℕ) (o : Option Name) (rest : List (ℕ × Text)) → m < n → texts.text_of (named_as outside m o ++ rest) n ≡ texts.text_of rest n
passed outside m n None rest l = refl
passed outside m n (Some name) rest l = passed-found m n (outside.fetched name) rest l

found : (outside : Outside) (m : ℕ) (e : Entity) (file : Name) (text : Text) → file_of_body outside e e.body ≡ Some file → outside.fetched file ≡ Found text
    → named_as outside m (file_of_body outside e e.body) ≡ (m, text) ∷ []
found outside m e file text p q = ap (named_as outside m) p ∙ ap (found_as m) q

there : (outside : Outside) (m i n : ℕ) (es : List Entity) (e : Entity) (file : Name) (text : Text) → n ≡ m + i → slice_get es i ≡ Some e
    → file_of_body outside e e.body ≡ Some file → outside.fetched file ≡ Found text → texts.text_of (texts_from outside m es) n ≡ Some text
there outside m i n [] e file text is h p q = no-entity e h
there outside m zero n (x ∷ es) e file text is h p q =
    let same : x ≡ e = one-entity x e h in
    let rest = texts_from outside (m + 1) es in
    let here : n ≡ m = omega (arith, is) in
    ap (λ (y : Entity). texts.text_of (named_as outside m (file_of_body outside y y.body) ++ rest) n) same
    ∙ (ap (λ l. texts.text_of (l ++ rest) n) (found outside m e file text p q)
    ∙ ap (λ b. if b then Some text else texts.text_of rest n) (eq-eqb n m here))
there outside m (suc i) n (x ∷ es) e file text is h p q =
    let next : n ≡ (m + 1) + i = omega (arith, is) in
    passed outside m n (file_of_body outside x x.body) (texts_from outside (m + 1) es) (omega (arith, is))
    ∙ there outside (m + 1) i n es e file text next h p q

-- a declared entity has a number from 2 on
from-two : (n : ℕ) → nat_lt n first_entity ≡ false → 1 < n
from-two n e = search (rules, tests)

file-there : (outside : Outside) (k : Sources) (n : ℕ) (o : Option Entity) (file : Name) (text : Text) → 1 < n → slice_get k.doctype.entities (n - first_entity) ≡ o
    → is_some o ≡ true → file_of_entity outside o ≡ Some file → outside.fetched file ≡ Found text → texts.text_of (texts_from outside first_entity k.doctype.entities) n ≡ Some text
file-there outside k n None file text l e s p q = apart false s refl
file-there outside k n (Some x) file text l e s p q =
    there outside first_entity (n - first_entity) n k.doctype.entities x file text (omega (arith, l)) e p q

file-by : (outside : Outside) (k : Sources) (n : ℕ) (file : Name) (text : Text) (t : Bool) → nat_lt n first_entity ≡ t
    → is_some (if t then None else slice_get k.doctype.entities (n - first_entity)) ≡ true
    → file_of outside k n ≡ Some file → outside.fetched file ≡ Found text → texts.text_of (texts_of outside k.doctype.entities) n ≡ Some text
unfolding file_of entity texts_of
file-by outside k n file text true e s p q = apart false s refl
file-by outside k n file text false e s p q =
    let l : 1 < n = from-two n e in
    let other_than : file_of outside k n ≡ file_of_entity outside (slice_get k.doctype.entities (n - first_entity)) =
    (λ i. if other n 0 (omega (arith, l)) i then Some outside.file else (if other n subset_number l i then file_of_subset outside k.doctype k.subset
    else file_of_entity outside (if e i then None else slice_get k.doctype.entities (n - first_entity)))) in
    file-there outside k n (slice_get k.doctype.entities (n - first_entity)) file text l refl s (sym other_than ∙ p) q

pub files-are-texts : FilesAreTexts
unfolding entity
files-are-texts outside k n file text s p q = file-by outside k n file text (nat_lt n first_entity) refl s p q
