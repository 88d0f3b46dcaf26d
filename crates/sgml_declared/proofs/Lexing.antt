-- What is read at the top of the stack is what is spelled there.
use Rattle.std.proofs.Common.{◌≡◌, ℕ, zero, suc, Bool, true, false, ◌==◌, ◌<◌, ◌+◌, ◌-◌, ◌++◌, List, [], ◌∷◌, length, map, take, drop, nat_lt, Option, Some, None, is_some, unwrap_or, Ok, Err, refl, sym, ap, ◌∙◌, subst, if◌then◌else◌, arith, rules, tests, eqb-true}
use Rattle.std.proofs.lemmas.List.{append-nil}
use Rattle.std.specs.List.{slice_get}
use Rattle.sgml_text.specs.declared.place.Place.{Place}
use Rattle.sgml_text.specs.declared.reason.Reason.{Reason}
use Rattle.sgml_text.specs.declared.reason.Reason.TheVariants as reason
use Rattle.sgml_entity.specs.declared.kinds.Entity.{Entity}
use Rattle.sgml_entity.specs.Entities.{entity_at, first_entity, Tables}
use Rattle.sgml_entity.specs.Stack.{Stack, moved_to, offset_of}
use Rattle.sgml_entity.specs.Texts.{text_of}
use Rattle.sgml_text.specs.Characters.{all_sgml}
use Rattle.sgml_syntax.specs.declared.syntax.Syntax.{Syntax}
use Rattle.sgml_decl_lexemes.specs.decl_parts.declared.ends.Construct.{Construct}
use Rattle.sgml_decl_lexemes.specs.decl_parts.declared.ends.Construct.TheVariants.{Declaration}
use Rattle.sgml_decl_lexemes.specs.decl_parts.Ends.{construct_end}
use Rattle.sgml_decl_lexemes.specs.declared.lexeme.Lexeme.{Lexeme}
use Rattle.sgml_decl_lexemes.specs.declared.fault.LexError.{LexError}
use Rattle.sgml_decl_lexemes.specs.declared.fault.LexError.TheVariants as lexing
use Rattle.sgml_decl_lexemes.specs.Sources.{text_at, or_empty}
use Rattle.sgml_decl_lexemes.specs.Readings.{entity_of}
use Rattle.sgml_decl_lexemes.specs.Declares.{Asked, Whole, Bad, own, own_by, asked, rest, text, may_grow, is_asked, begins, Answers, AnswersBy, AnswersError, end_offset, IsScanned}
use Rattle.sgml_decl_lexemes.specs.Wholeness.{is_end_reached}
use Rattle.sgml_dtd.specs.Doctypes.{Doctype}
use Rattle.sgml_theory_standing.specs.theory_reading.Names.{Name, Text}
use Rattle.sgml_theory_standing.specs.theory_reading.Types.{entity}
use Rattle.sgml_theory_standing.specs.theory_reading.Facets.{subset_number}
use Rattle.sgml_theory_standing.specs.theory_reading.Unread.{Outside, Sources, Rest, Standing, Found, Fetched, NotThere, TooLarge, file_of, file_of_entity, file_of_subset, file_of_body}
use Rattle.sgml_theory_standing.specs.theory_reading.Reads.{more_of}
use Rattle.sgml_theory_standing.specs.theory_spelling.Stacked.{stacked}
use Rattle.sgml_theory_standing.specs.theory_spelling.References.{missing_fetched, missing_file}
use Rattle.sgml_theory_standing.specs.theory_spelling.Texts.{texts_of, texts_from, named_as, found_as, missing_entity}
use Rattle.sgml_theory_standing.specs.theory_spelling.Declared.{lexed, is_whole}
use Rattle.sgml_theory_standing.specs.theory_spelling.Asked.{ArePlacesOf, ShowsUnread, front}
use Rattle.sgml_theory_standing.proofs.theory_spelling.Asked.{asked-is-spelled}
use Rattle.sgml_theory_standing.proofs.theory_spelling.Opened.{files-are-texts}
use Rattle.sgml_theory_standing.specs.Kept.{rest_of}
use Rattle.sgml_theory_standing.specs.Supplied.{AreSuppliedSoFar}
use Rattle.sgml_declared.specs.Files.{Choices}
use Rattle.sgml_declared.specs.declared.error.TakeError.{TakeError}
use Rattle.sgml_declared.specs.declared.error.TakeError.TheVariants.{Refused, Wanted, Memory}
use Rattle.sgml_declared.specs.Taking.{rest_at_top, stacked_on, Ends, own_text, lexed_at, IsAround, IsWanted, IsStopped}
use Rattle.sgml_declared.specs.Over.{IsOver}
use Rattle.sgml_declared.specs.Reading.{AreLexemes, IsAhead, IsWantTold, IsTold}
use Rattle.sgml_declared.proofs.Stacks.{over, after-bytes, moved-on}
use Rattle.sgml_declared.proofs.Wanting.{wants}

-- WHAT IS ASKED shows what is unread

-- so far as it was given
abbrev standing_of : List Entity → List (ℕ × Text) → Stack → Standing
standing_of es texts s = record { rests = map (rest_of es texts) s.places; spent = s.spent }

no-more : (number : ℕ) (bs : List ℕ) (is_document : Bool) → (number == 0) ≡ is_document → bs ≡ more_of [] number bs
no-more number bs true e = sym (ap (λ b. if b then bs ++ [] else bs) e ∙ append-nil bs)
no-more number bs false e = sym (ap (λ b. if b then bs ++ [] else bs) e)

places-shown : (es : List Entity) (texts : List (ℕ × Text)) (ps : List Place) → ArePlacesOf es texts [] ps (map (rest_of es texts) ps)
places-shown es texts [] = tt
places-shown es texts (p ∷ ps) = (refl, no-more p.entity (drop p.at (or_empty (text_at es texts p.entity))) (p.entity == 0) refl, places-shown es texts ps)

numbers-shown : (es : List Entity) (texts : List (ℕ × Text)) (ps : List Place) → map (λ (r : Rest). r.entity) (map (rest_of es texts) ps) ≡ map (λ (p : Place). p.entity) ps
numbers-shown es texts [] = refl
numbers-shown es texts (p ∷ ps) = ap (λ ns. p.entity ∷ ns) (numbers-shown es texts ps)

stacked-shown : (es : List Entity) (texts : List (ℕ × Text)) (s : Stack) → stacked (standing_of es texts s) ≡ stacked_on s
stacked-shown es texts s = ap (λ ns. record { entities = ns; spent = s.spent }) (numbers-shown es texts s.places)

front-shown : (es : List Entity) (texts : List (ℕ × Text)) (n : ℕ) (ps : List Place) → 0 < length ps
    → front n (map (rest_of es texts) ps) ≡ take n (drop (offset_of ps) (or_empty (text_at es texts (entity_of ps))))
front-shown es texts n [] some = absurd (omega (arith, some))
front-shown es texts n (p ∷ ps) some = refl

begun-some : (c : Construct) (es : List Entity) (texts : List (ℕ × Text)) (ps : List Place) → begins c es texts ps ≡ true → 0 < length ps
begun-some c es texts [] e = cc e
begun-some c es texts (p ∷ ps) e = omega arith

-- a declared entity has a number from 2 on
from-two : (n : ℕ) → nat_lt n first_entity ≡ false → 1 < n
from-two n e = search (rules, tests)

declared-by : (es : List Entity) (n : ℕ) (low : Bool) → nat_lt n first_entity ≡ low → is_some (if low then None else slice_get es (n - first_entity)) ≡ true → 1 < n
declared-by es n true is e = cc e
declared-by es n false is e = from-two n is

declared-from : (es : List Entity) (n : ℕ) → is_some (entity_at es n) ≡ true → 1 < n
declared-from es n e = declared-by es n (nat_lt n first_entity) refl e

other-than : (a b : ℕ) → b < a → (a == b) ≡ false
other-than a b l = by (a == b) refl
  where
    by : (t : Bool) → (a == b) ≡ t → (a == b) ≡ false
    by true e = let same : a ≡ b = eqb-true a b e in absurd (omega (arith, l, same))
    by false e = e

given-shown : (outside : Outside) (k : Sources) (texts : List (ℕ × Text)) → AreSuppliedSoFar outside k texts
    → (n : ℕ) (x : Text) → is_some (entity_at k.doctype.entities n) ≡ true → text_of texts n ≡ Some x → text_of (texts_of outside k.doctype.entities) n ≡ Some x
unfolding entity
given-shown outside k texts supplied n x some e =
    let high = declared-from k.doctype.entities n some in
    let named = ap (λ b. if b then is_some k.subset else true) (other-than n subset_number high) in
    let f = supplied n x (omega (arith, high)) named e in
    files-are-texts outside k n f.file x some f.named f.found

shows : (q : Asked) (c : Choices) (outside : Outside) (k : Sources) → q.syntax ≡ k.doctype.syntax → q.entities ≡ k.doctype.entities → IsAround c outside k q.texts q.stack
    → ShowsUnread q outside k.doctype (standing_of q.entities q.texts q.stack) []
shows q c outside k syntax entities a = record {
  syntax = syntax;
  entities = entities;
  given = λ n x some e. ap (λ es. text_of (texts_of outside es) n) entities
      ∙ given-shown outside k q.texts a.supplied n x (ap (λ es. is_some (entity_at es n)) (sym entities) ∙ some) e;
  levels = a.levels;
  expand = a.expand;
  spent = refl;
  places = places-shown q.entities q.texts q.stack.places;
}

-- THE LEXEMES that are answered

-- what is asked of this construct, by the tables of a document type
abbrev asks : Construct → Doctype → Tables → List (ℕ × Text) → Stack → Bool → Asked
asks x d tables texts s ended = asked x d.syntax tables texts s ended

begun : (x : Construct) (d : Doctype) (tables : Tables) (texts : List (ℕ × Text)) (s : Stack) (ended : Bool) (n : ℕ) → tables.entities ≡ d.entities → Ends x d texts s n
    → is_asked (asks x d tables texts s ended) ≡ true
begun x d tables texts s ended n same e = ap (λ es. begins x es texts s.places) same ∙ e.begins

ended-there : (x : Construct) (d : Doctype) (tables : Tables) (texts : List (ℕ × Text)) (s : Stack) (ended : Bool) (n : ℕ) → tables.entities ≡ d.entities → Ends x d texts s n
    → construct_end d.syntax.names x (rest (asks x d tables texts s ended)) ≡ Some n
ended-there x d tables texts s ended n same e = ap (λ es. construct_end d.syntax.names x (rest_at_top es texts s)) same ∙ e.ends

record Spelled (x : Construct) (outside : Outside) (d : Doctype) (tables : Tables) (texts : List (ℕ × Text)) (s : Stack) (ended : Bool) (n : ℕ) : Type 0 where
  pub lexemes : (ds : List Lexeme) (after : Stack) → Answers (asks x d tables texts s ended) (Ok ds) after
      → lexed_at x outside d texts s n ≡ Ok (record { lexemes = ds; spent = after.spent })
  pub refusal : (r : Reason) (after : Stack) → Answers (asks x d tables texts s ended) (Err (lexing.Refused r)) after → lexed_at x outside d texts s n ≡ Err r
  pub whole : (r : Reason) (after : Stack) → x ≡ Declaration → Answers (asks x d tables texts s ended) (Err (lexing.Refused r)) after
      → is_whole outside d (stacked_on s) (own_text d texts s n) ≡ is_end_reached (asks x d tables texts s ended)
  pub wants : (m : ℕ) (after : Stack) → Answers (asks x d tables texts s ended) (Err (lexing.Wanted m)) after
      → text_of (texts_of outside d.entities) m ≡ None → lexed_at x outside d texts s n ≡ Err (missing_entity outside d m)

spelled-at : (x : Construct) (outside : Outside) (d : Doctype) (es : List Entity) (texts : List (ℕ × Text)) (s : Stack) (n : ℕ) → es ≡ d.entities → 0 < length s.places
    → lexed x outside d (stacked (standing_of es texts s)) (front n (standing_of es texts s).rests) ≡ lexed_at x outside d texts s n
spelled-at x outside d es texts s n same some =
    ap (λ t. lexed x outside d t (front n (standing_of es texts s).rests)) (stacked-shown es texts s)
    ∙ (ap (λ own. lexed x outside d (stacked_on s) own) (front-shown es texts n s.places some)
    ∙ ap (λ es. lexed x outside d (stacked_on s) (take n (rest_at_top es texts s))) same)

whole-at : (outside : Outside) (d : Doctype) (es : List Entity) (texts : List (ℕ × Text)) (s : Stack) (n : ℕ) → es ≡ d.entities → 0 < length s.places
    → is_whole outside d (stacked (standing_of es texts s)) (front n (standing_of es texts s).rests) ≡ is_whole outside d (stacked_on s) (own_text d texts s n)
whole-at outside d es texts s n same some =
    ap (λ t. is_whole outside d t (front n (standing_of es texts s).rests)) (stacked-shown es texts s)
    ∙ (ap (λ own. is_whole outside d (stacked_on s) own) (front-shown es texts n s.places some)
    ∙ ap (λ es. is_whole outside d (stacked_on s) (take n (rest_at_top es texts s))) same)

spells : (x : Construct) (c : Choices) (outside : Outside) (k : Sources) (tables : Tables) (texts : List (ℕ × Text)) (s : Stack) (ended : Bool) (n : ℕ)
    → tables.entities ≡ k.doctype.entities → IsAround c outside k texts s → Ends x k.doctype texts s n → Spelled x outside k.doctype tables texts s ended n
spells x c outside k tables texts s ended n same a e =
    let d = k.doctype in
    let q = asks x d tables texts s ended in
    let some = begun-some x d.entities texts s.places e.begins in
    let at = spelled-at x outside d tables.entities texts s n same some in
    let sgml = ap (λ es. all_sgml (take n (rest_at_top es texts s))) same ∙ e.sgml in
    let answered = asked-is-spelled q outside d (standing_of tables.entities texts s) [] n (shows q c outside k refl same a)
    (begun x d tables texts s ended n same e) (ended-there x d tables texts s ended n same e) sgml in
    record {
      lexemes = λ ds after h. sym at ∙ answered.lexemes ds after h;
      refusal = λ r after h. sym at ∙ answered.refusal r after h;
      whole = λ r after is h. sym (whole-at outside d tables.entities texts s n same some) ∙ answered.whole r after is h;
      wants = λ m after h lacks. sym at ∙ answered.wants m after h (ap (λ es. text_of (texts_of outside es) m) same ∙ lacks);
    }

read-by : (x : Construct) (c : Choices) (outside : Outside) (k : Sources) (tables : Tables) (texts : List (ℕ × Text)) (s t : Stack) (ended : Bool) (n : ℕ) (ds : List Lexeme)
    → tables.entities ≡ k.doctype.entities → Answers (asked x k.doctype.syntax tables texts s ended) (Ok ds) t
    → t.places ≡ moved_to (end_offset (asked x k.doctype.syntax tables texts s ended)) s.places
    → IsAround c outside k texts s → Ends x k.doctype texts s n → AreLexemes x outside k texts s t n ds
read-by x c outside k tables texts s t ended n ds same h moves a e =
    let q = asks x k.doctype tables texts s ended in
    let o = over q ds t (begun x k.doctype tables texts s ended n same e) h in
    record {
      lexed = (spells x c outside k tables texts s ended n same a e).lexemes ds t h;
      grown = o.spent;
      stack = moved-on s t n o (moves ∙ after-bytes q n (ended-there x k.doctype tables texts s ended n same e));
    }

-- WHY THERE ARE NONE

-- the texts of entities of other numbers
not-it : (a b : ℕ) → (a ≡ b → ⊥) → (a == b) ≡ false
not-it a b differ = by (a == b) refl
  where
    by : (t : Bool) → (a == b) ≡ t → (a == b) ≡ false
    by true e = absurd (differ (eqb-true a b e))
    by false e = e

passed-found : (m n : ℕ) (x : Fetched) (rest : List (ℕ × Text)) → (n ≡ m → ⊥) → text_of (found_as m x ++ rest) n ≡ text_of rest n
passed-found m n NotThere rest l = refl
passed-found m n TooLarge rest l = refl
passed-found m n (Found t) rest l = ap (λ b. if b then Some t else text_of rest n) (not-it n m l)

passed : (outside : Outside) (m n : ℕ) (o : Option Name) (rest : List (ℕ × Text)) → (n ≡ m → ⊥) → text_of (named_as outside m o ++ rest) n ≡ text_of rest n
passed outside m n None rest l = refl
passed outside m n (Some name) rest l = passed-found m n (outside.fetched name) rest l

above : (outside : Outside) (m n : ℕ) (es : List Entity) → n < m → text_of (texts_from outside m es) n ≡ None
above outside m n [] l = refl
above outside m n (e ∷ es) l =
    passed outside m n (file_of_body outside e e.body) (texts_from outside (m + 1) es) (λ same. omega (arith, l, same))
    ∙ above outside (m + 1) n es (omega (arith, l))

-- an entity whose file isn't there has none
one-entity : (x e : Entity) → Some x ≡ Some e → x ≡ e
one-entity x e h = cc

lacks : (outside : Outside) (m i n : ℕ) (es : List Entity) (e : Entity) → n ≡ m + i → slice_get es i ≡ Some e
    → named_as outside n (file_of_body outside e e.body) ≡ [] → text_of (texts_from outside m es) n ≡ None
lacks outside m i n [] e is h p = cc h
lacks outside m zero n (x ∷ es) e is h p =
    let same : x ≡ e = one-entity x e h in
    let here : m ≡ n = omega (arith, is) in
    let rest = texts_from outside (m + 1) es in
    ap (λ (y : Entity). text_of (named_as outside m (file_of_body outside y y.body) ++ rest) n) same
    ∙ (ap (λ k. text_of (named_as outside k (file_of_body outside e e.body) ++ rest) n) here
    ∙ (ap (λ xs. text_of (xs ++ rest) n) p
    ∙ above outside (m + 1) n es (omega (arith, is))))
lacks outside m (suc i) n (x ∷ es) e is h p =
    passed outside m n (file_of_body outside x x.body) (texts_from outside (m + 1) es) (λ same. omega (arith, is, same))
    ∙ lacks outside (m + 1) i n es e (omega (arith, is)) h p

-- its file
file-declared : (outside : Outside) (k : Sources) (n : ℕ) → 1 < n → file_of outside k n ≡ file_of_entity outside (entity_at k.doctype.entities n)
unfolding file_of entity
file-declared outside k n l =
    let inner = if n == subset_number then file_of_subset outside k.doctype k.subset else file_of_entity outside (entity_at k.doctype.entities n) in
    ap (λ b. if b then Some outside.file else inner) (other-than n 0 (omega (arith, l)))
    ∙ ap (λ b. if b then file_of_subset outside k.doctype k.subset else file_of_entity outside (entity_at k.doctype.entities n)) (other-than n subset_number l)

lacks-by : (outside : Outside) (d : Doctype) (n : ℕ) (low : Bool) (file : Option Name) → nat_lt n first_entity ≡ low
    → is_some (if low then None else slice_get d.entities (n - first_entity)) ≡ true
    → file_of_entity outside (if low then None else slice_get d.entities (n - first_entity)) ≡ file → named_as outside n file ≡ []
    → text_of (texts_of outside d.entities) n ≡ None
unfolding texts_of
lacks-by outside d n true file is some f p = cc some
lacks-by outside d n false file is some f p = by (slice_get d.entities (n - first_entity)) refl some f
  where
    by : (o : Option Entity) → slice_get d.entities (n - first_entity) ≡ o → is_some o ≡ true → file_of_entity outside o ≡ file → text_of (texts_from outside first_entity d.entities) n ≡ None
    by None at some f = cc some
    by (Some e) at some f =
        let high = from-two n is in
        lacks outside first_entity (n - first_entity) n d.entities e (omega (arith, high)) at (ap (named_as outside n) f ∙ p)

lacks-file : (outside : Outside) (k : Sources) (n : ℕ) (file : Option Name) → is_some (entity_at k.doctype.entities n) ≡ true
    → file_of outside k n ≡ file → named_as outside n file ≡ [] → text_of (texts_of outside k.doctype.entities) n ≡ None
lacks-file outside k n file some f p =
    lacks-by outside k.doctype n (nat_lt n first_entity) file refl some (sym (file-declared outside k n (declared-from k.doctype.entities n some)) ∙ f) p

-- and is missing for this reason
missing-is : (outside : Outside) (k : Sources) (n : ℕ) (file : Option Name) (r : Reason) → is_some (entity_at k.doctype.entities n) ≡ true
    → file_of outside k n ≡ file → missing_file outside file ≡ Some r → missing_entity outside k.doctype n ≡ r
unfolding entity
missing-is outside k n file r some f m =
    ap (λ o. unwrap_or (missing_file outside o) reason.Unresolved) (sym (file-declared outside k n (declared-from k.doctype.entities n some)) ∙ f)
    ∙ ap (λ o. unwrap_or o reason.Unresolved) m

found-not : (n : ℕ) (o : Fetched) (r : Reason) → missing_fetched o ≡ Some r → found_as n o ≡ []
found-not n NotThere r e = refl
found-not n TooLarge r e = refl
found-not n (Found x) r e = cc e

-- more is never needed
own-is : (q : Asked) (n : ℕ) → construct_end q.syntax.names q.construct (rest q) ≡ Some n → all_sgml (take n (rest q)) ≡ true
    → own q ≡ Whole (take (offset_of q.stack.places + n) (text q))
own-is q n e g =
    ap (own_by q.syntax.names (may_grow q) (offset_of q.stack.places) (text q)) e
    ∙ ap (λ b. if b then Whole (take (offset_of q.stack.places + n) (text q)) else Bad reason.NonSgml) g

no-need : (q : Asked) (n : ℕ) (t : Stack) → construct_end q.syntax.names q.construct (rest q) ≡ Some n → all_sgml (take n (rest q)) ≡ true
    → Answers q (Err lexing.NeedMore) t → ⊥
no-need q n t e g h = subst (λ o. AnswersBy q o (Err lexing.NeedMore) t) (own-is q n e g) h

-- a want is told
want-stopped : (x : Construct) (c : Choices) (outside : Outside) (k : Sources) (tables : Tables) (texts : List (ℕ × Text)) (s t : Stack) (ended : Bool) (n m : ℕ) (e : TakeError)
    → tables.entities ≡ k.doctype.entities → Answers (asked x k.doctype.syntax tables texts s ended) (Err (lexing.Wanted m)) t → IsWantTold c k m e
    → IsAround c outside k texts s → Ends x k.doctype texts s n → IsStopped outside k texts s (lexed_at x outside k.doctype texts s n) e
want-stopped x c outside k tables texts s t ended n m (Refused r) same h told a e =
    let w = wants (asked x k.doctype.syntax tables texts s ended) m t (begun x k.doctype tables texts s ended n same e) h in
    let some = ap (λ es. is_some (entity_at es m)) (sym same) ∙ w.declared in
    let file = sym (told.1 outside a.of_options) in
    (spells x c outside k tables texts s ended n same a e).wants m t h (lacks-file outside k m None some file refl)
    ∙ ap Err (missing-is outside k m None reason.Unresolved some file refl ∙ sym told.0)
want-stopped x c outside k tables texts s t ended n m (Wanted number file) same h told a e =
    let w = wants (asked x k.doctype.syntax tables texts s ended) m t (begun x k.doctype tables texts s ended n same e) h in
    let some = ap (λ es. is_some (entity_at es m)) (sym same) ∙ w.declared in
    let named = sym (told.1 outside a.of_options) in
    let answers = spells x c outside k tables texts s ended n same a e in
    subst (λ number. IsWanted outside k texts s (lexed_at x outside k.doctype texts s n) number file) (sym told.0)
    (record {
      high = declared-from k.doctype.entities m some;
      declared = some;
      unread = w.unread;
      absent = w.absent;
      named = named;
      missing = λ r missing. answers.wants m t h (lacks-file outside k m (Some file) some named (found-not m (outside.fetched file) r missing))
          ∙ ap Err (missing-is outside k m (Some file) r some named missing);
    })
want-stopped x c outside k tables texts s t ended n m Memory same h told a e = tt

stopped-by : (x : Construct) (c : Choices) (outside : Outside) (k : Sources) (tables : Tables) (texts : List (ℕ × Text)) (s t : Stack) (ended : Bool) (n : ℕ) (error : LexError) (e : TakeError)
    → tables.entities ≡ k.doctype.entities → AnswersError (asked x k.doctype.syntax tables texts s ended) error t → IsTold c k error e
    → IsAround c outside k texts s → Ends x k.doctype texts s n → IsStopped outside k texts s (lexed_at x outside k.doctype texts s n) e
stopped-by x c outside k tables texts s t ended n (lexing.Refused r) e same h told a ends =
    subst (IsStopped outside k texts s (lexed_at x outside k.doctype texts s n)) (sym told) ((spells x c outside k tables texts s ended n same a ends).refusal r t h)
stopped-by x c outside k tables texts s t ended n (lexing.Wanted m) e same h told a ends =
    want-stopped x c outside k tables texts s t ended n m e same h told a ends
stopped-by x c outside k tables texts s t ended n lexing.NeedMore e same h told a ends =
    let sgml = ap (λ es. all_sgml (take n (rest_at_top es texts s))) same ∙ ends.sgml in
    absurd (no-need (asked x k.doctype.syntax tables texts s ended) n t (ended-there x k.doctype tables texts s ended n same ends) sgml h)
stopped-by x c outside k tables texts s t ended n lexing.Memory e same h told a ends =
    subst (IsStopped outside k texts s (lexed_at x outside k.doctype texts s n)) (sym told) tt

-- by the syntax and the tables that are told of a document type

pub was-scanned : (x : Construct) (d : Doctype) (syntax : Syntax) (tables : Tables) (texts : List (ℕ × Text)) (s : Stack) (ended : Bool) (n : ℕ)
    → syntax ≡ d.syntax → tables.entities ≡ d.entities → Ends x d texts s n → IsScanned (asked x syntax tables texts s ended) n
was-scanned x d syntax tables texts s ended n is same e = record {
  ends = ap (λ y. construct_end y.names x (rest (asked x y tables texts s ended))) is ∙ ended-there x d tables texts s ended n same e;
  sgml = ap (λ es. all_sgml (take n (rest_at_top es texts s))) same ∙ e.sgml;
}

pub lexemes-read : (x : Construct) (c : Choices) (outside : Outside) (k : Sources) (syntax : Syntax) (tables : Tables) (texts : List (ℕ × Text)) (s t : Stack) (ended : Bool) (n : ℕ) (ds : List Lexeme)
    → syntax ≡ k.doctype.syntax → tables.entities ≡ k.doctype.entities → Answers (asked x syntax tables texts s ended) (Ok ds) t
    → t.places ≡ moved_to (end_offset (asked x syntax tables texts s ended)) s.places
    → IsAround c outside k texts s → Ends x k.doctype texts s n → AreLexemes x outside k texts s t n ds
lexemes-read x c outside k syntax tables texts s t ended n ds is same h moves a e =
    read-by x c outside k tables texts s t ended n ds same
    (subst (λ y. Answers (asked x y tables texts s ended) (Ok ds) t) is h)
    (moves ∙ ap (λ y. moved_to (end_offset (asked x y tables texts s ended)) s.places) is) a e

pub lexemes-ahead : (x : Construct) (d : Doctype) (syntax : Syntax) (tables : Tables) (texts : List (ℕ × Text)) (s t : Stack) (ended : Bool) (n : ℕ) (ds : List Lexeme)
    → tables.entities ≡ d.entities → Answers (asked x syntax tables texts s ended) (Ok ds) t
    → t.places ≡ moved_to (end_offset (asked x syntax tables texts s ended)) s.places → Ends x d texts s n → IsAhead s t
lexemes-ahead x d syntax tables texts s t ended n ds same h moves e =
    let q = asked x syntax tables texts s ended in
    let o = over q ds t (ap (λ es. begins x es texts s.places) same ∙ e.begins) h in
    record { levels = o.levels; expand = o.expand; spent = o.spent; at = end_offset q; places = moves }

pub lexemes-over : (x : Construct) (d : Doctype) (syntax : Syntax) (tables : Tables) (texts : List (ℕ × Text)) (s t : Stack) (ended : Bool) (ds : List Lexeme)
    → syntax ≡ d.syntax → tables.entities ≡ d.entities → Answers (asked x syntax tables texts s ended) (Ok ds) t
    → t.places ≡ moved_to (end_offset (asked x syntax tables texts s ended)) s.places → IsOver x d texts s t
lexemes-over x d syntax tables texts s t ended ds is same h moves n e =
    let o = over (asked x syntax tables texts s ended) ds t (ap (λ es. begins x es texts s.places) same ∙ e.begins) h in
    let at = ap (λ y. moved_to (end_offset (asked x y tables texts s ended)) s.places) is in
    let there = after-bytes (asks x d tables texts s ended) n (ended-there x d tables texts s ended n same e) in
    record { grown = o.spent; stack = moved-on s t n o (moves ∙ (at ∙ there)) }

pub lexemes-stopped : (x : Construct) (c : Choices) (outside : Outside) (k : Sources) (syntax : Syntax) (tables : Tables) (texts : List (ℕ × Text)) (s t : Stack) (ended : Bool) (n : ℕ) (error : LexError) (e : TakeError)
    → syntax ≡ k.doctype.syntax → tables.entities ≡ k.doctype.entities → AnswersError (asked x syntax tables texts s ended) error t → IsTold c k error e
    → IsAround c outside k texts s → Ends x k.doctype texts s n → IsStopped outside k texts s (lexed_at x outside k.doctype texts s n) e
lexemes-stopped x c outside k syntax tables texts s t ended n error e is same h told a ends =
    stopped-by x c outside k tables texts s t ended n error e same
    (subst (λ y. AnswersError (asked x y tables texts s ended) error t) is h) told a ends

-- whether the end of a declaration is reached where it is refused
pub whole-reached : (c : Choices) (outside : Outside) (k : Sources) (syntax : Syntax) (tables : Tables) (texts : List (ℕ × Text)) (s t : Stack) (ended : Bool) (n : ℕ) (r : Reason)
    → syntax ≡ k.doctype.syntax → tables.entities ≡ k.doctype.entities → Answers (asked Declaration syntax tables texts s ended) (Err (lexing.Refused r)) t
    → IsAround c outside k texts s → Ends Declaration k.doctype texts s n
    → is_whole outside k.doctype (stacked_on s) (own_text k.doctype texts s n) ≡ is_end_reached (asked Declaration syntax tables texts s ended)
whole-reached c outside k syntax tables texts s t ended n r is same h a e =
    (spells Declaration c outside k tables texts s ended n same a e).whole r t refl (subst (λ y. Answers (asked Declaration y tables texts s ended) (Err (lexing.Refused r)) t) is h)
    ∙ ap (λ y. is_end_reached (asked Declaration y tables texts s ended)) (sym is)
