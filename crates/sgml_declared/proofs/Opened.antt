-- Texts that are opened, and texts that aren't.
use Rattle.std.proofs.Common.{◌≡◌, ℕ, true, false, ◌==◌, ◌||◌, List, [], ◌∷◌, map, length, Option, Some, None, option_map, refl, sym, ap, ◌∙◌, subst, if◌then◌else◌, Result, Ok, Err, OnOk}
use Rattle.std.specs.Prelude.{⊤}
use Rattle.std.specs.List.{list_any}
use Rattle.std.specs.Option.{option_or}
use Rattle.std.specs.Result.{result_err}
use Rattle.sgml_text.specs.declared.reason.Reason.{Reason}
use Rattle.sgml_text.specs.declared.reason.Reason.TheVariants as reason
use Rattle.sgml_text.specs.declared.place.Place.{Place}
use Rattle.sgml_entity.specs.declared.kinds.Body.{Body}
use Rattle.sgml_entity.specs.declared.kinds.Body.TheVariants as body
use Rattle.sgml_entity.specs.declared.kinds.Entity.{Entity}
use Rattle.sgml_entity.specs.declared.places.StackRefused.{StackRefused}
use Rattle.sgml_entity.specs.Entities.{entity_at}
use Rattle.sgml_entity.specs.Stack.{Stack, is_on, opened, refusal}
use Rattle.sgml_entity.specs.Texts as texts
use Rattle.sgml_decl_lexemes.specs.Sources.{text_at, internal_text, or_given, reason_of}
use Rattle.sgml_theory_standing.specs.theory_reading.Names.{Name, Text}
use Rattle.sgml_theory_standing.specs.theory_reading.Types.{entity}
use Rattle.sgml_theory_standing.specs.theory_reading.Pieces.{ToText, Ref}
use Rattle.sgml_theory_standing.specs.theory_reading.Unread.{Outside, Sources, file_of, text_of, fetched_text, found_text, text_of_entity}
use Rattle.sgml_theory_standing.specs.theory_spelling.Stacked.{Stacked}
use Rattle.sgml_theory_standing.specs.theory_spelling.References.{missing, missing_file, missing_fetched, unopened, is_being_read, past_limits, unless, general_meaning, parameter_text, unopened_subset, subset_unopened}
use Rattle.sgml_theory_standing.specs.theory_spelling.Opened.{StackShows}
use Rattle.sgml_theory_standing.proofs.theory_spelling.Opened.{unopened-is-refused}
use Rattle.sgml_theory_standing.specs.Supplied.{IsInFile}
use Rattle.sgml_declared.specs.Files.{Choices, InEach}
use Rattle.sgml_declared.specs.Opening.{absent_of, absent_by, is_text, GeneralTextsAreOpened, ParameterTextsAreOpened, SubsetsAreOpened, IsSupplied, unopened_of, Opens, OpensIn, refused_by, wanting, WantedAreMissing}
use Rattle.sgml_declared.specs.declared.opening.OpenError.{OpenError}
use Rattle.sgml_declared.specs.declared.opening.OpenError.TheVariants.{Refused}

-- WHAT IS BEING READ

on-same : (n : ℕ) (ps : List Place) → list_any (λ m. m == n) (map (λ (p : Place). p.entity) ps) ≡ is_on n ps
on-same n [] = refl
on-same n (p ∷ ps) = ap (λ b. (p.entity == n) || b) (on-same n ps)

read-is-on : (s : Stack) (outside : Outside) (k : Sources) (t : Stacked) (number : ℕ) → StackShows s outside k.doctype t → is_being_read number t ≡ is_on number s.places
read-is-on s outside k t number h = ap (list_any (λ m. m == number)) (sym h.entities) ∙ on-same number s.places

-- A TEXT THAT IS THERE

pub record IsThere (outside : Outside) (k : Sources) (number : ℕ) (text : Text) : Type 0 where
  pub present : absent_by (entity k.doctype number) (missing outside k number) ≡ None
  pub is : text_of outside k number ≡ text

record InFile (outside : Outside) (k : Sources) (number : ℕ) (text : Text) : Type 0 where
  found : missing outside k number ≡ None
  is : fetched_text outside (file_of outside k number) ≡ text

in-file : (outside : Outside) (k : Sources) (number : ℕ) (text : Text) → IsInFile outside k number text → InFile outside k number text
in-file outside k number text h = record {
  found = ap (missing_file outside) h.named ∙ ap missing_fetched h.found;
  is = ap (fetched_text outside) h.named ∙ ap found_text h.found;
}

same-text : (a b : Text) → Some a ≡ Some b → a ≡ b
same-text a b e = cc

there-in : (outside : Outside) (k : Sources) (number : ℕ) (ts : List (ℕ × Text)) (text : Text) (o : Option Entity)
    → IsSupplied outside k ts number → or_given (internal_text o) (texts.text_of ts number) ≡ Some text
    → (absent_by o (missing outside k number) ≡ None) × (text_of_entity o (fetched_text outside (file_of outside k number)) ≡ text)
there-in outside k number ts text None s e =
    let f = in-file outside k number text (s text e) in (f.found, f.is)
there-in outside k number ts text (Some x) s e = by x.body e
  where
    by : (b : Body) → or_given (internal_text (Some (record x { body = b }))) (texts.text_of ts number) ≡ Some text
        → (absent_by (Some (record x { body = b })) (missing outside k number) ≡ None) × (text_of_entity (Some (record x { body = b })) (fetched_text outside (file_of outside k number)) ≡ text)
    by (body.Sgml own) e = (refl, same-text own text e)
    by _ e = let f = in-file outside k number text (s text e) in (f.found, f.is)

pub is-there : (outside : Outside) (k : Sources) (number : ℕ) (ts : List (ℕ × Text)) (text : Text)
    → IsSupplied outside k ts number → text_at k.doctype.entities ts number ≡ Some text → IsThere outside k number text
unfolding entity text_of
is-there outside k number ts text s e =
    let both = there-in outside k number ts text (entity_at k.doctype.entities number) s e in record { present = both.0; is = both.1 }

-- A TEXT THAT ISN'T

absent-in : (o : Option Entity) (given : Option Text) (absent : Option Reason) → or_given (internal_text o) given ≡ None → absent_by o absent ≡ absent
absent-in None given absent e = refl
absent-in (Some x) given absent e = by x.body e
  where
    by : (b : Body) → or_given (internal_text (Some (record x { body = b }))) given ≡ None → absent_by (Some (record x { body = b })) absent ≡ absent
    by (body.Sgml own) e = let never : ⊥ = cc in absurd never
    by _ e = refl

is-absent : (outside : Outside) (k : Sources) (number : ℕ) (ts : List (ℕ × Text)) → text_at k.doctype.entities ts number ≡ None
    → absent_by (entity k.doctype number) (missing outside k number) ≡ missing outside k number
unfolding entity
is-absent outside k number ts e = absent-in (entity_at k.doctype.entities number) (texts.text_of ts number) (missing outside k number) e

-- WHY IT ISN'T OPENED

unopened-recursive : (outside : Outside) (k : Sources) (t : Stacked) (number : ℕ) → is_being_read number t ≡ true → unopened_of outside k t number ≡ Some reason.Recursive
unfolding unopened_of
unopened-recursive outside k t number e =
    let absent = absent_by (entity k.doctype number) (missing outside k number) in
    ap (λ b. if b then Some reason.Recursive else option_or absent (past_limits outside k.doctype t (length (text_of outside k number)))) e

unopened-absent : (outside : Outside) (k : Sources) (t : Stacked) (number : ℕ) (r : Reason) → is_being_read number t ≡ false
    → absent_by (entity k.doctype number) (missing outside k number) ≡ Some r → unopened_of outside k t number ≡ Some r
unfolding unopened_of
unopened-absent outside k t number r e a =
    λ i. if e i then Some reason.Recursive else option_or (a i) (past_limits outside k.doctype t (length (text_of outside k number)))

unopened-there : (s : Stack) (outside : Outside) (k : Sources) (t : Stacked) (number : ℕ) (text : Text) → StackShows s outside k.doctype t
    → IsThere outside k number text → unopened_of outside k t number ≡ option_map reason_of (refusal number (length text) s)
unfolding unopened_of
unopened-there s outside k t number text h there =
    ap (unopened outside k t number) there.present ∙ (unopened-is-refused s outside k t number h ∙ ap (λ l. option_map reason_of (refusal number (length l) s)) there.is)

-- THE ANSWERS

pub opens-recursive : (c : Choices) (k : Sources) (ts : List (ℕ × Text)) (s : Stack) (number : ℕ) → is_on number s.places ≡ true
    → Opens c k ts s s number (Err (Refused reason.Recursive))
opens-recursive c k ts s number e outside t o given h =
    unopened-recursive outside k t number (read-is-on s outside k t number h ∙ e)

pub opens-wanting : (c : Choices) (k : Sources) (ts : List (ℕ × Text)) (s : Stack) (number : ℕ) (file : Option Name) → is_on number s.places ≡ false
    → text_at k.doctype.entities ts number ≡ None → InEach c (λ outside. file_of outside k number) file → Opens c k ts s s number (Err (wanting file))
opens-wanting c k ts s number None e a f outside t o given h =
    unopened-absent outside k t number reason.Unresolved (read-is-on s outside k t number h ∙ e)
    (is-absent outside k number ts a ∙ ap (missing_file outside) (sym (f outside o)))
opens-wanting c k ts s number (Some file) e a f outside t o given h = record {
  unread = read-is-on s outside k t number h ∙ e;
  absent = a;
  named = sym (f outside o);
}

pub opens-wanting-as : (c : Choices) (k : Sources) (ts : List (ℕ × Text)) (s : Stack) (number : ℕ) (file : Option Name) (error : OpenError) → error ≡ wanting file
    → is_on number s.places ≡ false → text_at k.doctype.entities ts number ≡ None → InEach c (λ outside. file_of outside k number) file
    → Opens c k ts s s number (Err error)
opens-wanting-as c k ts s number file error is e a f =
    subst (λ (x : OpenError). Opens c k ts s s number (Err x)) (sym is) (opens-wanting c k ts s number file e a f)

opens-by : (outside : Outside) (k : Sources) (t : Stacked) (ts : List (ℕ × Text)) (s new : Stack) (number : ℕ) (text : Text) (x : ⊤) → StackShows s outside k.doctype t
    → text_at k.doctype.entities ts number ≡ Some text → IsThere outside k number text → refusal number (length text) s ≡ None → new ≡ opened number (length text) s
    → OpensIn outside k t ts s new number (Ok x)
opens-by outside k t ts s new number text x h e there none after = record {
  allowed = unopened-there s outside k t number text h there ∙ ap (option_map reason_of) none;
  there = e ∙ ap Some (sym there.is);
  pushed = after ∙ ap (λ l. opened number (length l) s) (sym there.is);
}

refused-as : (outside : Outside) (k : Sources) (t : Stacked) (ts : List (ℕ × Text)) (s new : Stack) (number : ℕ) (text : Text) (r : StackRefused) (error : OpenError)
    → StackShows s outside k.doctype t → IsThere outside k number text → refusal number (length text) s ≡ Some r → error ≡ Refused (reason_of r)
    → OpensIn outside k t ts s new number (Err error)
refused-as outside k t ts s new number text r error h there refused is =
    let answer : OpensIn outside k t ts s new number (Err (Refused (reason_of r))) =
    unopened-there s outside k t number text h there ∙ ap (option_map reason_of) refused in
    subst (λ (x : OpenError). OpensIn outside k t ts s new number (Err x)) (sym is) answer

none-refused : (o : Option StackRefused) → None ≡ option_map (λ r. Refused (reason_of r)) o → o ≡ None
none-refused None e = refl
none-refused (Some r) e = let never : ⊥ = cc in absurd never

refused-by : (outside : Outside) (k : Sources) (t : Stacked) (ts : List (ℕ × Text)) (s new : Stack) (number : ℕ) (text : Text) (o : Option StackRefused) (error : OpenError)
    → StackShows s outside k.doctype t → IsThere outside k number text → refusal number (length text) s ≡ o
    → Some error ≡ option_map (λ r. Refused (reason_of r)) o → OpensIn outside k t ts s new number (Err error)
refused-by outside k t ts s new number text None error h there refused e = let never : ⊥ = cc in absurd never
refused-by outside k t ts s new number text (Some r) error h there refused e =
    refused-as outside k t ts s new number text r error h there refused (cc)

pub opens-push : (c : Choices) (k : Sources) (ts : List (ℕ × Text)) (s new : Stack) (number : ℕ) (text : Text) (result : Result ⊤ OpenError)
    → text_at k.doctype.entities ts number ≡ Some text → result_err result ≡ refused_by number (length text) s
    → OnOk result (new ≡ opened number (length text) s) → Opens c k ts s new number result
opens-push c k ts s new number text (Ok x) e refused ok outside t o given h =
    opens-by outside k t ts s new number text x h e (is-there outside k number ts text given e) (none-refused (refusal number (length text) s) refused) ok
opens-push c k ts s new number text (Err error) e refused ok outside t o given h =
    refused-by outside k t ts s new number text (refusal number (length text) s) error h (is-there outside k number ts text given e) refl refused

-- A WANT

pub wanted-are-missing : WantedAreMissing
wanted-are-missing c k ts old new number file outside t r opens o given h e =
    let wanted = opens outside t o given h in
    unopened-absent outside k t number r wanted.unread
    (is-absent outside k number ts wanted.absent ∙ (ap (missing_file outside) wanted.named ∙ e))

-- REFERENCES

general-body : (outside : Outside) (k : Sources) (t : Stacked) (number : ℕ) (b : Body) → is_text b ≡ true
    → general_meaning outside k t number b ≡ unless (unopened outside k t number (absent_of b (missing outside k number))) (ToText number)
general-body outside k t number (body.Sgml text) e = refl
general-body outside k t number (body.External external) e = refl
general-body outside k t number _ e = let never : ⊥ = cc in absurd never

parameter-body : (outside : Outside) (k : Sources) (t : Stacked) (number : ℕ) (b : Body) → is_text b ≡ true
    → parameter_text outside k t number (Some b) ≡ unless (unopened outside k t number (absent_of b (missing outside k number))) (Ref number)
parameter-body outside k t number (body.Sgml text) e = refl
parameter-body outside k t number (body.External external) e = refl
parameter-body outside k t number _ e = let never : ⊥ = cc in absurd never

unopened-body : (outside : Outside) (k : Sources) (t : Stacked) (number : ℕ) (e : Entity) → entity k.doctype number ≡ Some e
    → unopened outside k t number (absent_of e.body (missing outside k number)) ≡ unopened_of outside k t number
unfolding unopened_of
unopened-body outside k t number e h = ap (λ o. unopened outside k t number (absent_by o (missing outside k number))) (sym h)

pub general-texts-are-opened : GeneralTextsAreOpened
general-texts-are-opened outside k t number e h is =
    general-body outside k t number e.body is ∙ ap (λ r. unless r (ToText number)) (unopened-body outside k t number e h)

pub parameter-texts-are-opened : ParameterTextsAreOpened
parameter-texts-are-opened outside k t number e h is =
    parameter-body outside k t number e.body is ∙ ap (λ r. unless r (Ref number)) (unopened-body outside k t number e h)

pub subsets-are-opened : SubsetsAreOpened
unfolding subset_unopened unopened_of entity
subsets-are-opened outside k t subset h = ap (unopened_subset outside k t) h
