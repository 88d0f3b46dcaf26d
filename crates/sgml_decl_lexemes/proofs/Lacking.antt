-- A text that is wanted, and that the other source hasn't either, is wanted there too.
use Rattle.std.proofs.Common.{◌≡◌, ℕ, Bool, true, false, List, [], ◌∷◌, ◌==◌, ◌&&◌, ◌||◌, not, Option, None, Some, Result, Ok, Err, length, drop, take, nat_lt, refl, sym, ◌∙◌, ap, subst, if◌then◌else◌}
use Rattle.sgml_text.specs.declared.place.Place.{Place}
use Rattle.sgml_text.specs.declared.reason.Reason.TheVariants as reason
use Rattle.sgml_text.specs.Characters.{all_sgml}
use Rattle.sgml_decl_parts.specs.sgml_delim.declared.delim.Delim.{Delim}
use Rattle.sgml_decl_parts.specs.sgml_delim.declared.delim.Delim.TheVariants.{Dso}
use Rattle.sgml_entity.specs.declared.kinds.Body.{Body}
use Rattle.sgml_entity.specs.declared.kinds.Body.TheVariants as body
use Rattle.sgml_entity.specs.declared.kinds.Entity.{Entity}
use Rattle.sgml_entity.specs.declared.kinds.Space.{Space}
use Rattle.sgml_entity.specs.declared.kinds.Space.TheVariants as space
use Rattle.sgml_entity.specs.declared.places.StackRefused.{StackRefused}
use Rattle.sgml_entity.specs.Entities.{number_of, entity_at}
use Rattle.sgml_entity.specs.Stack.{Stack, refusal, is_on}
use Rattle.sgml_entity.specs.Texts.{text_of}
use Rattle.sgml_decl_parts.specs.declared.form.Form.{Form}
use Rattle.sgml_decl_parts.specs.declared.form.Form.TheVariants as f
use Rattle.sgml_decl_parts.specs.declared.form.LiteralKind.{LiteralKind}
use Rattle.sgml_decl_parts.specs.declared.form.LiteralKind.TheVariants as kind
use Rattle.sgml_decl_parts.specs.declared.part.Part.{Part}
use Rattle.sgml_decl_parts.specs.declared.part.Part.TheVariants as p
use Rattle.sgml_decl_parts.specs.declared.part.PartFault.{PartFault}
use Rattle.sgml_decl_parts.specs.declared.part.PartFault.TheVariants as fault
use Rattle.sgml_decl_parts.specs.Forms.{after_name, after_token, after_reserved, after_sign, literal_kind, is_complete, may_refer}
use Rattle.sgml_decl_parts.specs.Parts.{part_at}
use Rattle.sgml_decl_parts.specs.declared.ends.Construct.{Construct}
use Rattle.sgml_decl_lexemes.specs.declared.fault.Fault.{Fault}
use Rattle.sgml_decl_lexemes.specs.declared.fault.Fault.TheVariants.{Wanting, Refusing}
use Rattle.sgml_decl_lexemes.specs.declared.fault.Reached.{Reached}
use Rattle.sgml_decl_lexemes.specs.declared.fault.Reached.TheVariants.{Opens, PutsText, PutsData, Fails}
use Rattle.sgml_decl_lexemes.specs.Sources.{Source, reached, folded, opened_by, opening, given_or_wanted, data_for, reach_body, reach_entity, reach_number}
use Rattle.sgml_syntax.specs.declared.syntax.Syntax.{Syntax}
use Rattle.sgml_decl_lexemes.specs.Readings.{fault_of, Reading, State, ahead, here, space_in, judged, judged_part, judged_form, judged_end, judged_sign, judged_quote, is_literal, judged_reached, kept, reached_from, next_part, is_last}
use Rattle.sgml_decl_lexemes.specs.Declares.{state, is_closed}
use Rattle.sgml_decl_lexemes.specs.Alike.{AreAlike, StacksAlike, Extends, AlikeIsWanted}
use Rattle.sgml_decl_lexemes.proofs.Alike.{is_wanting}
use Rattle.sgml_decl_lexemes.proofs.Independent.{StatesAlike, Stands, IsTold, ahead-alike, here-alike, stands-of, along, lowered}

-- WHAT IS WANTED is wanted of the other

wants-none : {A : Type 0} (m : ℕ) (r : Reached) → is_wanting r ≡ false → r ≡ Fails (Wanting m) → A
wants-none m r e h = absurd (never (sym (ap is_wanting h) ∙ e))
  where
    never : true ≡ false → ⊥
    never e = cc

opening-no-want : (s : Stack) (n : ℕ) (text : List ℕ) → is_wanting (opening s n text) ≡ false
opening-no-want s n text = by-refusal (refusal n (length text) s)
  where
    by-sgml : (t : Bool) → is_wanting (if t then Opens n (length text) else Fails (Refusing reason.NonSgml)) ≡ false
    by-sgml true = refl
    by-sgml false = refl

    by-refusal : (o : Option StackRefused) → is_wanting (opened_by o n text) ≡ false
    by-refusal (Some q) = refl
    by-refusal None = by-sgml (all_sgml text)

one-want : (n m : ℕ) → Fails (Wanting n) ≡ Fails (Wanting m) → n ≡ m
one-want n m e = cc

given-wants : (J : Source) (n m : ℕ) (s t : Stack) (x : Option (List ℕ)) → given_or_wanted s n x ≡ Fails (Wanting m) → text_of J.texts m ≡ None
    → given_or_wanted t n (text_of J.texts n) ≡ Fails (Wanting m)
given-wants J n m s t None h lacks =
    let same : n ≡ m = one-want n m h in
    ap (λ k. given_or_wanted t n (text_of J.texts k)) same ∙ (ap (given_or_wanted t n) lacks ∙ ap (λ k. Fails (Wanting k)) same)
given-wants J n m s t (Some text) h lacks = wants-none m (opening s n text) (opening-no-want s n text) h

on-alike : (I J : Source) (n : ℕ) (ps qs : List Place) → AreAlike I J ps qs → is_on n ps ≡ is_on n qs
on-alike I J n [] [] a = refl
on-alike I J n (p ∷ ps) (q ∷ qs) a = λ i. (a.0 i == n) || on-alike I J n ps qs a.2 i
on-alike I J n [] (q ∷ qs) a = absurd a
on-alike I J n (p ∷ ps) [] a = absurd a

external-wants : (I J : Source) (n m : ℕ) (s t : Stack) (u : Bool)
    → (if u then Fails (Refusing reason.Recursive) else given_or_wanted s n (text_of I.texts n)) ≡ Fails (Wanting m) → text_of J.texts m ≡ None
    → (if u then Fails (Refusing reason.Recursive) else given_or_wanted t n (text_of J.texts n)) ≡ Fails (Wanting m)
external-wants I J n m s t true h lacks = wants-none m (Fails (Refusing reason.Recursive)) refl h
external-wants I J n m s t false h lacks = given-wants J n m s t (text_of I.texts n) h lacks

data-no-want : (by : Space) (r : Reached) → is_wanting r ≡ false → is_wanting (data_for by r) ≡ false
data-no-want space.General r e = e
data-no-want space.Parameter r e = refl

body-wants : (I J : Source) (by : Space) (n m : ℕ) (s t : Stack) (b : Body) → StacksAlike I J s t → reach_body I s by n b ≡ Fails (Wanting m) → text_of J.texts m ≡ None
    → reach_body J t by n b ≡ Fails (Wanting m)
body-wants I J by n m s t (body.Sgml text) a h lacks = wants-none m (opening s n text) (opening-no-want s n text) h
body-wants I J by n m s t (body.External e) a h lacks =
    ap (λ u. if u then Fails (Refusing reason.Recursive) else given_or_wanted t n (text_of J.texts n)) (sym (on-alike I J n s.places t.places a.places))
    ∙ external-wants I J n m s t (is_on n s.places) h lacks
body-wants I J by n m s t (body.Cdata text) a h lacks = wants-none m (data_for by (PutsText n)) (data-no-want by (PutsText n) refl) h
body-wants I J by n m s t (body.Sdata text) a h lacks = wants-none m (data_for by (PutsData n)) (data-no-want by (PutsData n) refl) h
body-wants I J by n m s t (body.Pi text) a h lacks = wants-none m (Fails (Refusing reason.EntityKind)) refl h
body-wants I J by n m s t (body.ExternalData k e o) a h lacks = wants-none m (Fails (Refusing reason.EntityKind)) refl h

entity-wants : (I J : Source) (by : Space) (n m : ℕ) (s t : Stack) (o : Option Entity) → StacksAlike I J s t → reach_entity I s by n o ≡ Fails (Wanting m) → text_of J.texts m ≡ None
    → reach_entity J t by n o ≡ Fails (Wanting m)
entity-wants I J by n m s t None a h lacks = wants-none m (Fails (Refusing reason.Undeclared)) refl h
entity-wants I J by n m s t (Some e) a h lacks = body-wants I J by n m s t e.body a h lacks

number-wants : (I J : Source) (by : Space) (m : ℕ) (s t : Stack) (o : Option ℕ) → Extends I J → StacksAlike I J s t → reach_number I s by o ≡ Fails (Wanting m) → text_of J.texts m ≡ None
    → reach_number J t by o ≡ Fails (Wanting m)
number-wants I J by m s t None x a h lacks = wants-none m (Fails (Refusing reason.Undeclared)) refl h
number-wants I J by m s t (Some n) x a h lacks =
    ap (λ es. reach_entity J t by n (entity_at es n)) (sym x.entities) ∙ entity-wants I J by n m s t (entity_at I.entities n) a h lacks

named-wants : (I J : Source) (by : Space) (m : ℕ) (s t : Stack) (name : List ℕ) (long : Bool) → Extends I J → StacksAlike I J s t
    → (if long then Fails (Refusing reason.NameLength) else reach_number I s by (number_of I.entities by (folded I.syntax.entity_fold name))) ≡ Fails (Wanting m) → text_of J.texts m ≡ None
    → (if long then Fails (Refusing reason.NameLength) else reach_number J t by (number_of J.entities by (folded J.syntax.entity_fold name))) ≡ Fails (Wanting m)
named-wants I J by m s t name true x a h lacks = wants-none m (Fails (Refusing reason.NameLength)) refl h
named-wants I J by m s t name false x a h lacks =
    (λ i. reach_number J t by (number_of (sym x.entities i) by (folded (sym x.syntax i).entity_fold name)))
    ∙ number-wants I J by m s t (number_of I.entities by (folded I.syntax.entity_fold name)) x a h lacks

reached-wants : (I J : Source) (by : Space) (m : ℕ) (s t : Stack) (name : List ℕ) → Extends I J → StacksAlike I J s t → reached I s by name ≡ Fails (Wanting m) → text_of J.texts m ≡ None
    → reached J t by name ≡ Fails (Wanting m)
reached-wants I J by m s t name x a h lacks =
    ap (λ (q : Syntax). if nat_lt q.quantities.namelen (length name) then Fails (Refusing reason.NameLength) else reach_number J t by (number_of J.entities by (folded J.syntax.entity_fold name))) (sym x.syntax)
    ∙ named-wants I J by m s t name (nat_lt I.syntax.quantities.namelen (length name)) x a h lacks

-- THE PART THAT WANTS IT is a reference

told-if : (t : Bool) (x y : Result Part Fault) → IsTold x → IsTold y → IsTold (if t then x else y)
told-if true x y h k = h
told-if false x y h k = k

told-form : (form : Form) (part : Part) → IsTold (judged_form form part)
told-form f.Broken part = tt
told-form (f.LeftOut r) part = tt
told-form _ part = tt

told-end : (form : Form) (no_char : Bool) (part : Part) → IsTold (judged_end form no_char part)
told-end form no_char part = told-if (not (is_complete form)) _ _ tt (told-if no_char _ _ tt tt)

told-sign : (last : Bool) (r : Reading) (d : Delim) → IsTold (judged_sign last r d)
told-sign last r Dso = told-if last _ _ (told-end (after_sign r.form Dso) r.no_char (p.Sign Dso)) tt
told-sign last r d = told-form (after_sign r.form d) (p.Sign d)

told-quote : (k : LiteralKind) (b : ℕ) → IsTold (judged_quote k b)
told-quote kind.NoLiteral b = tt
told-quote _ b = tt

untold : {A : Type 0} (m : ℕ) (x : Result Part Fault) → IsTold x → x ≡ Err (Wanting m) → A
untold m x t e = absurd (subst IsTold e t)

same-want : (j m : ℕ) (x : Result Part Fault) → x ≡ Err (Wanting j) → x ≡ Err (Wanting m) → j ≡ m
same-want j m x e f = cc

-- the reference that wants it
want-of : (I : Source) (v : Reading) (n k m : ℕ) (r : Reached) → judged_reached (kept I v) n k r ≡ Err (Wanting m) → r ≡ Fails (Wanting m)
want-of I v n k m (Fails (Wanting j)) e = ap (λ i. Fails (Wanting i)) (same-want j m (Err (Wanting j)) refl e)
want-of I v n k m (Fails (Refusing q)) e = untold m (judged_reached (kept I v) n k (Fails (Refusing q))) tt e
want-of I v n k m (Opens j z) e = untold m (judged_reached (kept I v) n k (Opens j z)) tt e
want-of I v n k m (PutsText j) e = untold m (judged_reached (kept I v) n k (PutsText j)) tt e
want-of I v n k m (PutsData j) e = untold m (judged_reached (kept I v) n k (PutsData j)) tt e

refer-wants : (I J : Source) (bytes : List ℕ) (t u : State) (n k m : ℕ) (may : Bool) → Extends I J → StatesAlike I J t u
    → (if may then judged_reached (kept I t.reading) n k (reached_from I bytes t n) else Err (Refusing reason.DeclarationSyntax)) ≡ Err (Wanting m) → text_of J.texts m ≡ None
    → (if may then judged_reached (kept J u.reading) n k (reached_from J bytes u n) else Err (Refusing reason.DeclarationSyntax)) ≡ Err (Wanting m)
refer-wants I J bytes t u n k m true x a e lacks =
    let h = want-of I t.reading n k m (reached_from I bytes t n) e in
    let g = reached-wants I J (space_in t.reading) m t.stack u.stack (take n (drop 1 bytes)) x a.stack h lacks in
    ap (λ (q : Reading). judged_reached (kept J u.reading) n k (reached J u.stack (space_in q) (take n (drop 1 bytes)))) (sym a.reading)
    ∙ ap (judged_reached (kept J u.reading) n k) g
refer-wants I J bytes t u n k m false x a e lacks = untold m (Err (Refusing reason.DeclarationSyntax)) tt e

judged-wants : (I J : Source) (bytes : List ℕ) (t u : State) (m : ℕ) (q : Part) → Extends I J → StatesAlike I J t u → judged I bytes t q ≡ Err (Wanting m) → text_of J.texts m ≡ None
    → judged J bytes u q ≡ Err (Wanting m)
judged-wants I J bytes t u m (p.Refer n k) x a e lacks =
    ap (λ (r : Reading). if may_refer r.form then judged_reached (kept J u.reading) n k (reached_from J bytes u n) else Err (Refusing reason.DeclarationSyntax)) (sym a.reading)
    ∙ refer-wants I J bytes t u n k m (may_refer t.reading.form) x a e lacks
judged-wants I J bytes t u m (p.Name n) x a e lacks = untold m _ (told-form (after_name t.reading.form (take n bytes)) (p.Name n)) e
judged-wants I J bytes t u m (p.Token n) x a e lacks = untold m _ (told-form (after_token t.reading.form) (p.Token n)) e
judged-wants I J bytes t u m (p.Reserved n) x a e lacks = untold m _ (told-form (after_reserved t.reading.form (take n (drop 1 bytes))) (p.Reserved n)) e
judged-wants I J bytes t u m (p.Sign d) x a e lacks = untold m _ (told-sign (is_last I bytes t.stack.places) t.reading d) e
judged-wants I J bytes t u m (p.Quote b) x a e lacks = untold m _ (told-quote (literal_kind t.reading.form) b) e
judged-wants I J bytes t u m p.EndQuote x a e lacks = untold m _ (told-if (is_literal I.construct && t.reading.no_char) _ _ tt tt) e
judged-wants I J bytes t u m p.Closing x a e lacks = untold m _ (told-end t.reading.form t.reading.no_char p.Closing) e
judged-wants I J bytes t u m (p.Gap n) x a e lacks = untold m (Ok (p.Gap n)) tt e
judged-wants I J bytes t u m (p.Data n) x a e lacks = untold m (Ok (p.Data n)) tt e
judged-wants I J bytes t u m (p.Char n c) x a e lacks = untold m (Ok (p.Char n c)) tt e
judged-wants I J bytes t u m (p.NoChar n) x a e lacks = untold m (Ok (p.NoChar n)) tt e
judged-wants I J bytes t u m p.TextEnd x a e lacks = untold m (Ok p.TextEnd) tt e

told-fault : (e : PartFault) → IsTold (Err (fault_of e))
told-fault fault.Unclosed = tt
told-fault fault.Syntax = tt

part-wants : (I J : Source) (bytes : List ℕ) (t u : State) (m : ℕ) (o : Result Part PartFault) → Extends I J → StatesAlike I J t u → judged_part I bytes t o ≡ Err (Wanting m) → text_of J.texts m ≡ None
    → judged_part J bytes u o ≡ Err (Wanting m)
part-wants I J bytes t u m (Err q) x a e lacks = untold m _ (told-fault q) e
part-wants I J bytes t u m (Ok q) x a e lacks = judged-wants I J bytes t u m q x a e lacks

next-wants : (I J : Source) (t u : State) (m : ℕ) → Extends I J → StatesAlike I J t u → Stands I t → next_part I t ≡ Err (Wanting m) → text_of J.texts m ≡ None → next_part J u ≡ Err (Wanting m)
next-wants I J t u m x a s e lacks =
    (λ i. judged_part J (sym (ahead-alike I J t u a s) i) u
    (part_at (sym x.syntax i).names (sym x.syntax i).general_fold (sym (here-alike I J t u x a) i) (sym (ahead-alike I J t u a s) i)))
    ∙ part-wants I J (ahead I t) t u m (part_at I.syntax.names I.syntax.general_fold (here I t) (ahead I t)) x a e lacks

-- WHERE READING STOPS for a text that is wanted
pub also-wanted : AlikeIsWanted
also-wanted I J s z m x a some height lacks d =
    let under = height ∙ lowered s.places some in
    let h = along I J s z d.parts x a some height under d.reads in
    let t = state I s d.parts in record {
      parts = d.parts;
      reads = h.reads;
      unfinished = ap (λ (c : Construct). is_closed c d.parts) (sym x.construct) ∙ d.unfinished;
      fault_is = next-wants I J t (state J z d.parts) m x h.alike (stands-of I s t under h.on_top) d.fault_is lacks;
    }
