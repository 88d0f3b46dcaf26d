-- What is known of an entity whose text the lexemes' reader wants.
use Rattle.std.proofs.Common.{◌≡◌, ℕ, Bool, true, false, ◌==◌, ◌<◌, ◌||◌, not, List, [], ◌∷◌, ◌++◌, Option, Some, None, is_some, length, take, drop, nat_lt, Result, Ok, Err, refl, sym, ap, ◌∙◌, subst, if◌then◌else◌, arith, eq-eqb}
use Rattle.sgml_text.specs.declared.place.Place.{Place}
use Rattle.sgml_text.specs.declared.reason.Reason.TheVariants as reason
use Rattle.sgml_text.specs.Characters.{all_sgml}
use Rattle.sgml_entity.specs.declared.kinds.Space.{Space}
use Rattle.sgml_entity.specs.declared.kinds.Space.TheVariants as space
use Rattle.sgml_entity.specs.declared.kinds.Body.{Body}
use Rattle.sgml_entity.specs.declared.kinds.Body.TheVariants as body
use Rattle.sgml_entity.specs.declared.kinds.Entity.{Entity}
use Rattle.sgml_entity.specs.declared.places.StackRefused.{StackRefused}
use Rattle.sgml_entity.specs.Entities.{entity_at, number_of}
use Rattle.sgml_entity.specs.Stack.{Stack, is_on, lower, refusal, place_at}
use Rattle.sgml_entity.specs.Texts.{text_of}
use Rattle.sgml_decl_forms.specs.delim.declared.delim.Delim.{Delim}
use Rattle.sgml_decl_forms.specs.delim.declared.delim.Delim.TheVariants.{Dso}
use Rattle.sgml_decl_lexemes.specs.decl_parts.declared.form.Form.{Form}
use Rattle.sgml_decl_lexemes.specs.decl_parts.declared.form.Form.TheVariants as f
use Rattle.sgml_decl_lexemes.specs.decl_parts.declared.form.LiteralKind.{LiteralKind}
use Rattle.sgml_decl_lexemes.specs.decl_parts.declared.form.LiteralKind.TheVariants as literal
use Rattle.sgml_decl_lexemes.specs.decl_parts.declared.part.Part.{Part}
use Rattle.sgml_decl_lexemes.specs.decl_parts.declared.part.Part.TheVariants as p
use Rattle.sgml_decl_lexemes.specs.decl_parts.declared.part.PartFault.{PartFault}
use Rattle.sgml_decl_lexemes.specs.decl_parts.declared.part.PartFault.TheVariants.{Unclosed, Syntax}
use Rattle.sgml_decl_lexemes.specs.decl_parts.Forms.{after_name, after_token, after_reserved, after_sign, literal_kind, is_complete, may_refer}
use Rattle.sgml_decl_lexemes.specs.decl_parts.Parts.{part_at}
use Rattle.sgml_decl_lexemes.specs.declared.fault.Fault.TheVariants.{Wanting, Refusing}
use Rattle.sgml_decl_lexemes.specs.declared.fault.Reached.{Reached}
use Rattle.sgml_decl_lexemes.specs.declared.fault.Reached.TheVariants.{Opens, PutsText, PutsData, Fails}
use Rattle.sgml_decl_lexemes.specs.declared.fault.LexError.TheVariants.{Wanted}
use Rattle.sgml_decl_lexemes.specs.Sources.{Source, folded, opened_by, opening, given_or_wanted, data_for, reach_body, reach_entity, reach_number, reached}
use Rattle.sgml_decl_lexemes.specs.Readings.{Reading, State, ahead, here, reached_from, space_in, judged, judged_form, judged_dso, judged_sign, judged_quote, judged_end_quote, judged_reached, judged_part, kept, is_literal, is_last, entity_of, OnTop}
use Rattle.sgml_decl_lexemes.specs.Declares.{Asked, Own, Whole, Growing, Bad, own, source, is_asked, state, StopsBy, StandsAtStart, Answers, AnswersBy}
use Rattle.sgml_decl_lexemes.proofs.Texts.{without-other}
use Rattle.sgml_decl_lexemes.proofs.Reaching.{so-far}
use Rattle.sgml_decl_lexemes.proofs.Running.{begins-of}

-- ONLY A REFERENCE wants a text

record Refers (I : Source) (t : State) (n : ℕ) : Type 0 where
  pub by : Space
  pub name : List ℕ
  pub wants : reached I t.stack by name ≡ Fails (Wanting n)

no-form : {A : Type 0} (form : Form) (part : Part) (n : ℕ) → judged_form form part ≡ Err (Wanting n) → A
no-form f.Broken part n e = cc e
no-form (f.LeftOut r) part n e = cc e
no-form _ part n e = cc e

no-end : {A : Type 0} (complete no_char : Bool) (part : Part) (n : ℕ)
    → (if not complete then Err (Refusing reason.DeclarationSyntax) else if no_char then Err (Refusing reason.CharNumber) else Ok part) ≡ Err (Wanting n) → A
no-end true true part n e = cc e
no-end true false part n e = cc e
no-end false no_char part n e = cc e

no-dso : {A : Type 0} (last : Bool) (form : Form) (no_char : Bool) (n : ℕ) → judged_dso last form no_char ≡ Err (Wanting n) → A
no-dso true form no_char n e = no-end (is_complete form) no_char (p.Sign Dso) n e
no-dso false form no_char n e = cc e

no-sign : {A : Type 0} (last : Bool) (r : Reading) (d : Delim) (n : ℕ) → judged_sign last r d ≡ Err (Wanting n) → A
no-sign last r Dso n e = no-dso last (after_sign r.form Dso) r.no_char n e
no-sign last r d n e = no-form (after_sign r.form d) (p.Sign d) n e

no-quote : {A : Type 0} (k : LiteralKind) (b n : ℕ) → judged_quote k b ≡ Err (Wanting n) → A
no-quote literal.NoLiteral b n e = cc e
no-quote _ b n e = cc e

no-end-quote : {A : Type 0} (alone no_char : Bool) (n : ℕ) → judged_end_quote alone no_char ≡ Err (Wanting n) → A
no-end-quote true true n e = cc e
no-end-quote true false n e = cc e
no-end-quote false no_char n e = cc e

failed : (I : Source) (u : Reading) (a b n : ℕ) (r : Reached) → judged_reached (kept I u) a b r ≡ Err (Wanting n) → r ≡ Fails (Wanting n)
failed I u a b n (Fails (Wanting m)) e = cc e
failed I u a b n (Fails (Refusing r)) e = cc e
failed I u a b n (Opens m size) e = cc e
failed I u a b n (PutsText m) e = cc e
failed I u a b n (PutsData m) e = cc e

refers : (I : Source) (bytes : List ℕ) (t : State) (a b n : ℕ) (may : Bool)
    → (if may then judged_reached (kept I t.reading) a b (reached_from I bytes t a) else Err (Refusing reason.DeclarationSyntax)) ≡ Err (Wanting n) → Refers I t n
refers I bytes t a b n true e =
    record { by = space_in t.reading; name = take a (drop 1 bytes); wants = failed I t.reading a b n (reached_from I bytes t a) e }
refers I bytes t a b n false e = cc e

judged-refers : (I : Source) (bytes : List ℕ) (t : State) (q : Part) (n : ℕ) → judged I bytes t q ≡ Err (Wanting n) → Refers I t n
judged-refers I bytes t (p.Name m) n e = no-form (after_name t.reading.form (take m bytes)) (p.Name m) n e
judged-refers I bytes t (p.Token m) n e = no-form (after_token t.reading.form) (p.Token m) n e
judged-refers I bytes t (p.Reserved m) n e = no-form (after_reserved t.reading.form (take m (drop 1 bytes))) (p.Reserved m) n e
judged-refers I bytes t (p.Sign d) n e = no-sign (is_last I bytes t.stack.places) t.reading d n e
judged-refers I bytes t (p.Quote b) n e = no-quote (literal_kind t.reading.form) b n e
judged-refers I bytes t (p.Refer a b) n e = refers I bytes t a b n (may_refer t.reading.form) e
judged-refers I bytes t p.EndQuote n e = no-end-quote (is_literal I.construct) t.reading.no_char n e
judged-refers I bytes t p.Closing n e = no-end (is_complete t.reading.form) t.reading.no_char p.Closing n e
judged-refers I bytes t (p.Gap m) n e = cc e
judged-refers I bytes t (p.Data m) n e = cc e
judged-refers I bytes t (p.Char m u) n e = cc e
judged-refers I bytes t (p.NoChar m) n e = cc e
judged-refers I bytes t p.TextEnd n e = cc e

part-refers : (I : Source) (bytes : List ℕ) (t : State) (r : Result Part PartFault) (n : ℕ) → judged_part I bytes t r ≡ Err (Wanting n) → Refers I t n
part-refers I bytes t (Err Unclosed) n e = cc e
part-refers I bytes t (Err Syntax) n e = cc e
part-refers I bytes t (Ok q) n e = judged-refers I bytes t q n e

-- A TEXT IS WANTED of a declared entity that isn't being read, and whose text isn't there

record Lacks (I : Source) (s : Stack) (n : ℕ) : Type 0 where
  pub declared : is_some (entity_at I.entities n) ≡ true
  pub unread : is_on n s.places ≡ false
  pub absent : text_of I.texts n ≡ None

no-opened : {A : Type 0} (o : Option StackRefused) (m : ℕ) (text : List ℕ) (sgml : Bool) (n : ℕ) → all_sgml text ≡ sgml → opened_by o m text ≡ Fails (Wanting n) → A
no-opened (Some refused) m text sgml n is e = cc e
no-opened None m text true n is e = let never : Opens m (length text) ≡ Fails (Wanting n) = sym (ap (λ b. if b then Opens m (length text) else Fails (Refusing reason.NonSgml)) is) ∙ e in cc never
no-opened None m text false n is e = let never : Fails (Refusing reason.NonSgml) ≡ Fails (Wanting n) = sym (ap (λ b. if b then Opens m (length text) else Fails (Refusing reason.NonSgml)) is) ∙ e in cc never

no-opening : {A : Type 0} (s : Stack) (m : ℕ) (text : List ℕ) (n : ℕ) → opening s m text ≡ Fails (Wanting n) → A
no-opening s m text n e = no-opened (refusal m (length text) s) m text (all_sgml text) n refl e

same-number : (m n : ℕ) → Fails (Wanting m) ≡ Fails (Wanting n) → m ≡ n
same-number m n e = cc e

external-lacks : (I : Source) (s : Stack) (m n : ℕ) (on : Bool) (o : Option (List ℕ)) → is_some (entity_at I.entities m) ≡ true → is_on m s.places ≡ on → text_of I.texts m ≡ o
    → (if on then Fails (Refusing reason.Recursive) else given_or_wanted s m o) ≡ Fails (Wanting n) → Lacks I s n
external-lacks I s m n true o there is at e = cc e
external-lacks I s m n false (Some text) there is at e = no-opening s m text n e
external-lacks I s m n false None there is at e =
    subst (Lacks I s) (same-number m n e) (record { declared = there; unread = is; absent = at })

no-data : {A : Type 0} (by : Space) (m n : ℕ) → data_for by (PutsText m) ≡ Fails (Wanting n) → A
no-data space.General m n e = cc e
no-data space.Parameter m n e = cc e

no-sdata : {A : Type 0} (by : Space) (m n : ℕ) → data_for by (PutsData m) ≡ Fails (Wanting n) → A
no-sdata space.General m n e = cc e
no-sdata space.Parameter m n e = cc e

body-lacks : (I : Source) (s : Stack) (by : Space) (m n : ℕ) (b : Body) → is_some (entity_at I.entities m) ≡ true → reach_body I s by m b ≡ Fails (Wanting n) → Lacks I s n
body-lacks I s by m n (body.Sgml text) there e = no-opening s m text n e
body-lacks I s by m n (body.External x) there e = external-lacks I s m n (is_on m s.places) (text_of I.texts m) there refl refl e
body-lacks I s by m n (body.Cdata text) there e = no-data by m n e
body-lacks I s by m n (body.Sdata text) there e = no-sdata by m n e
body-lacks I s by m n (body.Pi text) there e = cc e
body-lacks I s by m n (body.ExternalData k x o) there e = cc e

entity-lacks : (I : Source) (s : Stack) (by : Space) (m n : ℕ) (o : Option Entity) → entity_at I.entities m ≡ o → reach_entity I s by m o ≡ Fails (Wanting n) → Lacks I s n
entity-lacks I s by m n None is e = cc e
entity-lacks I s by m n (Some x) is e = body-lacks I s by m n x.body (ap is_some is) e

number-lacks : (I : Source) (s : Stack) (by : Space) (n : ℕ) (o : Option ℕ) → reach_number I s by o ≡ Fails (Wanting n) → Lacks I s n
number-lacks I s by n None e = cc e
number-lacks I s by n (Some m) e = entity-lacks I s by m n (entity_at I.entities m) refl e

reached-lacks : (I : Source) (s : Stack) (by : Space) (name : List ℕ) (n : ℕ) (long : Bool)
    → (if long then Fails (Refusing reason.NameLength) else reach_number I s by (number_of I.entities by (folded I.syntax.entity_fold name))) ≡ Fails (Wanting n) → Lacks I s n
reached-lacks I s by name n true e = cc e
reached-lacks I s by name n false e = number-lacks I s by n (number_of I.entities by (folded I.syntax.entity_fold name)) e

-- ON THE STACK on which reading began

later-false : (a b : Bool) → (a || b) ≡ false → b ≡ false
later-false true b e = cc e
later-false false b e = e

first-false : (a b : Bool) → (a || b) ≡ false → a ≡ false
first-false true b e = cc e
first-false false b e = refl

below : (n : ℕ) (above ps : List Place) → is_on n (above ++ ps) ≡ false → is_on n ps ≡ false
below n [] ps e = e
below n (q ∷ above) ps e = below n above ps (later-false (q.entity == n) (is_on n (above ++ ps)) e)

based : (n at : ℕ) (ps : List Place) → 0 < length ps → is_on n (place_at (entity_of ps) at ∷ lower ps) ≡ false → is_on n ps ≡ false
based n at [] some e = refl
based n at (q ∷ ps) some e = e

on-base : (s t : Stack) (n : ℕ) → 0 < length s.places → OnTop s t → is_on n t.places ≡ false → is_on n s.places ≡ false
on-base s t n some h e =
    based n h.stands.at s.places some (below n h.stands.above (place_at (entity_of s.places) h.stands.at ∷ lower s.places) (subst (λ ps. is_on n ps ≡ false) h.stands.is e))

other-than : (n : ℕ) (ps : List Place) → 0 < length ps → is_on n ps ≡ false → n ≡ entity_of ps → ⊥
other-than n [] some e same = absurd (omega (arith, some))
other-than n (q ∷ ps) some e same =
    let not-it = first-false (q.entity == n) (is_on n ps) e in
    let never : true ≡ false = sym (eq-eqb q.entity n (sym same)) ∙ not-it in cc never

-- WHAT IS KNOWN of a want that is answered
pub record Wants (q : Asked) (n : ℕ) : Type 0 where
  pub declared : is_some (entity_at q.entities n) ≡ true
  pub unread : is_on n q.stack.places ≡ false
  pub absent : text_of q.texts n ≡ None

stopped : (q : Asked) (w : List ℕ) (n : ℕ) → StandsAtStart (source q w) q.stack → StopsBy (source q w) q.stack (Wanting n) → Wants q n
stopped q w n b h =
    let I = source q w in
    let t = state I q.stack h.parts in
    let so = so-far I q.stack b h.parts h.reads h.unfinished in
    let r = part-refers I (ahead I t) t (part_at I.syntax.names I.syntax.general_fold (here I t) (ahead I t)) n h.fault_is in
    let l = reached-lacks I t.stack r.by r.name n (nat_lt I.syntax.quantities.namelen (length r.name)) r.wants in
    let off = on-base q.stack t.stack n b.some so.on_top l.unread in
    record {
      declared = l.declared;
      unread = off;
      absent = sym (without-other (entity_of q.stack.places) n q.texts (other-than n q.stack.places b.some off)) ∙ l.absent;
    }

wants-by : (q : Asked) (o : Own) (n : ℕ) (t : Stack) → is_asked q ≡ true → own q ≡ o → AnswersBy q o (Err (Wanted n)) t → Wants q n
wants-by q (Whole w) n t begun is h = stopped q w n (begins-of q w begun is) h.0
wants-by q Growing n t begun is h = cc h.0
wants-by q (Bad why) n t begun is h = cc h.0

pub wants : (q : Asked) (n : ℕ) (t : Stack) → is_asked q ≡ true → Answers q (Err (Wanted n)) t → Wants q n
wants q n t begun h = wants-by q (own q) n t begun refl h
