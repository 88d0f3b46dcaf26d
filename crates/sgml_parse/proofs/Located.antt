-- Where a place is, by what is kept and by the texts that were given.
use Rattle.std.proofs.Common.{◌≡◌, ◌==◌, ◌<◌, ◌≤◌, Bool, true, false, is_some, zero, suc, ℕ, List, [], ◌∷◌, ◌++◌, Option, Some, None, Result, Ok, Err, length, take, unwrap_or, refl, sym, ap, ◌∙◌, subst, arith, eqb-true, if◌then◌else◌}
use Rattle.std.specs.Prelude.{IfOk, IfSome}
use Rattle.sgml_text.specs.declared.error.Memory.{Memory}
use Rattle.sgml_text.specs.Places.{line_column_of}
use Rattle.sgml_text.specs.declared.place.Place.{Place}
use Rattle.sgml_entity.specs.declared.kinds.Body.{Body}
use Rattle.sgml_entity.specs.declared.kinds.Body.TheVariants as body
use Rattle.sgml_entity.specs.declared.kinds.Entity.{Entity}
use Rattle.sgml_entity.specs.Entities.{entity_at}
use Rattle.sgml_entity.specs.Texts as texts
use Rattle.sgml_decl_lexemes.specs.Sources.{text_at, or_empty, or_given, internal_text, body_text}
use Rattle.sgml_declared.specs.theory_reading.Names.{Name, Text}
use Rattle.sgml_declared.specs.theory_reading.Types.{entity}
use Rattle.sgml_declared.specs.theory_reading.Pieces.{History}
use Rattle.sgml_declared.specs.theory_reading.Facets.{ExternalSubset, subset_number}
use Rattle.sgml_declared.specs.theory_reading.Unread.{Input, Outside, Sources, sources, file_of, file_of_subset, text_of, text_of_entity, text_of_body, fetched_text, found_text}
use Rattle.sgml_declared.specs.theory_standing.Supplied.{IsInFile, AreSuppliedSoFar, is_named}
use Rattle.sgml_declared.specs.theory_standing.Kept.{Kept, sources_of}
use Rattle.sgml_declared.specs.Files.{Choices, IsOutsideOf}
use Rattle.sgml_instance.specs.Reading.{KeepsSources}
use Rattle.sgml_parse.specs.declared.position.Position.{Position}
use Rattle.sgml_parse.specs.There.{Reading}
use Rattle.sgml_parse.specs.Locating.{text_in, name_told, name_in, IsPositionOf, IsFoundIn, Knows}
use Rattle.sgml_parse.specs.Parsing.{Parser, KnowsTexts, kept_in}
use Rattle.sgml_parse.proofs.Tables.{sources-kept}

-- THE NAME
told-name : (o : Option Name) (n : Name) → o ≡ Some n → n ≡ unwrap_or o []
told-name None n e = absurd (never e)
  where
    never : None ≡ Some n → ⊥
    never e = cc
told-name (Some m) n e = cc

-- the external subset has a name only where it was named
subset-named : (outside : Outside) (k : Sources) (n : Name) → name_told (file_of outside k subset_number) (entity k.doctype subset_number) ≡ Some n → is_named k subset_number ≡ true
unfolding file_of entity
subset-named outside k n e = by k.subset e
  where
    by : (o : Option ExternalSubset) → name_told (file_of_subset outside k.doctype o) None ≡ Some n → is_some o ≡ true
    by None e = absurd (never e)
      where
        never : None ≡ Some n → ⊥
        never e = cc
    by (Some s) e = refl

named-so : (outside : Outside) (k : Sources) (number : ℕ) (n : Name) → name_told (file_of outside k number) (entity k.doctype number) ≡ Some n → is_named k number ≡ true
named-so outside k number n e = by (number == subset_number) refl
  where
    by : (b : Bool) → (number == subset_number) ≡ b → (if b then is_some k.subset else true) ≡ true
    by true f = subset-named outside k n (subst (λ (m : ℕ). name_told (file_of outside k m) (entity k.doctype m) ≡ Some n) (eqb-true number subset_number f) e)
    by false f = refl

-- THE TEXT
in-file : (outside : Outside) (k : Sources) (number : ℕ) (text : Text) → IsInFile outside k number text → fetched_text outside (file_of outside k number) ≡ text
in-file outside k number text f = ap (fetched_text outside) f.named ∙ ap found_text f.found

body-text : (b : Body) (given : Option Text) (text file : Text) → or_given (body_text b) given ≡ Some text → (given ≡ Some text → file ≡ text) → text_of_body b file ≡ text
body-text (body.Sgml own) given text file e f = cc
body-text (body.Cdata own) given text file e f = f e
body-text (body.Sdata own) given text file e f = f e
body-text (body.Pi own) given text file e f = f e
body-text (body.External x) given text file e f = f e
body-text (body.ExternalData kind x notation) given text file e f = f e

entity-text : (o : Option Entity) (given : Option Text) (text file : Text) → or_given (internal_text o) given ≡ Some text → (given ≡ Some text → file ≡ text) → text_of_entity o file ≡ text
entity-text None given text file e f = f e
entity-text (Some x) given text file e f = body-text x.body given text file e f

other-text : (outside : Outside) (k : Kept) (ts : List (ℕ × Text)) (number : ℕ) (n : Name) (text : Text) → AreSuppliedSoFar outside (sources_of k) ts → 0 < number
    → name_told (file_of outside (sources_of k) number) (entity k.doctype number) ≡ Some n → text_at k.doctype.entities ts number ≡ Some text → text_of outside (sources_of k) number ≡ text
unfolding text_of entity
other-text outside k ts number n text s l name given =
    entity-text (entity_at k.doctype.entities number) (texts.text_of ts number) text (fetched_text outside (file_of outside (sources_of k) number)) given
    (λ e. in-file outside (sources_of k) number text (s number text l (named-so outside (sources_of k) number n name) e))

take-front : (n : ℕ) (xs ys : Text) → n ≤ length xs → take n (xs ++ ys) ≡ take n xs
take-front zero xs ys l = refl
take-front (suc n) [] ys l = absurd (omega (arith, l))
take-front (suc n) (x ∷ xs) ys l = ap (λ zs. x ∷ zs) (take-front n xs ys (omega (arith, l)))

positive : (number : ℕ) → (number == 0) ≡ false → 0 < number
positive zero e = absurd (never e)
  where
    never : true ≡ false → ⊥
    never e = cc
positive (suc n) e = omega arith

front-is : (c : Choices) (k : Kept) (ts : List (ℕ × Text)) (I : Input) (more : Text) (h : History) (place : Place) (x : Position) → IsOutsideOf c I.outside → KeepsSources k ts I h
    → I.document ≡ or_empty (texts.text_of ts 0) ++ more → (f : IsFoundIn c k ts place x) → take place.at f.text ≡ take place.at (text_in I h place.entity)
unfolding entity
front-is c k ts I more h place x o s d f = by (place.entity == 0) refl
  where
    by : (b : Bool) → (place.entity == 0) ≡ b → take place.at f.text ≡ take place.at (if b then I.document else text_of I.outside (sources h) place.entity)
    by true e =
        let z : text_at k.doctype.entities ts 0 ≡ Some f.text = subst (λ (m : ℕ). text_at k.doctype.entities ts m ≡ Some f.text) (eqb-true place.entity 0 e) f.given in
        sym (ap (take place.at) (d ∙ ap (λ (t : Option Text). or_empty t ++ more) z) ∙ take-front place.at f.text more f.within)
    by false e =
        sym (ap (λ (q : Sources). take place.at (text_of I.outside q place.entity)) (sym s.sources_are)
        ∙ ap (take place.at) (other-text I.outside k ts place.entity x.name f.text s.supplied (positive place.entity e) (f.name I.outside o) f.given))

name-is : (c : Choices) (k : Kept) (ts : List (ℕ × Text)) (I : Input) (h : History) (place : Place) (x : Position) → IsOutsideOf c I.outside → KeepsSources k ts I h → IsFoundIn c k ts place x
    → x.name ≡ name_in I h place.entity
unfolding entity
name-is c k ts I h place x o s f =
    told-name (name_told (file_of I.outside (sources_of k) place.entity) (entity_at k.doctype.entities place.entity)) x.name (f.name I.outside o)
    ∙ ap (λ (q : Sources). unwrap_or (name_told (file_of I.outside q place.entity) (entity q.doctype place.entity)) []) s.sources_are

pub position-is : (c : Choices) (there : Reading) (k : Kept) (ts : List (ℕ × Text)) (I : Input) (more : Text) (h : History) (place : Place) (x : Position) → kept_in there ≡ Some k → Knows c there ts I more h
    → IsFoundIn c k ts place x → IsPositionOf I h place x
position-is c there k ts I more h place x e n f =
    let s = sources-kept there k ts I h e n.sources in
    record {
      name = name-is c k ts I h place x n.of_options s f;
      at = f.at ∙ ap line_column_of (front-is c k ts I more h place x n.of_options s n.document f);
    }

-- THE SAME of a parser as its code has it
pub locates : (p inside : Parser) (o : Choices) (k : Kept) (place : Place) (result : Result (Option Position) Memory) → inside ≡ p → o ≡ inside.options → kept_in inside.reading ≡ Some k
    → IfOk result (λ found. IfSome found (IsFoundIn o k inside.texts place))
    → IfOk result (λ found. IfSome found (λ x. (I : Input) (more : Text) (h : History) → KnowsTexts p I more h → IsPositionOf I h place x))
locates p inside o k place (Err e) same options kept f = tt
locates p inside o k place (Ok None) same options kept f = tt
locates p inside o k place (Ok (Some x)) same options kept f = λ I more h n.
    position-is inside.options inside.reading k inside.texts I more h place x kept (subst (λ (z : Parser). KnowsTexts z I more h) (sym same) n)
    (subst (λ (z : Choices). IsFoundIn z k inside.texts place x) options f)
