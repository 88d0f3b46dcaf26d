-- A string that is content, which is taken behind a run.
use Rattle.std.specs.Prelude.{◌≡◌, ℕ, suc, ◌<◌, ◌≤◌, ◌==◌, not, Bool, true, false, IsTrue, List, [], ◌∷◌, ◌++◌, Option, Some, None, is_some, length, Ok}
use Rattle.std.proofs.Common.{refl, sym, ap, ◌∙◌, subst, append_assoc, append-nil, arith}
use Rattle.std.proofs.lemmas.Bool.{and_parts}
use Rattle.std.proofs.lemmas.Bool.Decides.{nat_tests}
use Rattle.sgml_text.specs.Units.{characters}
use Rattle.sgml_theory_reading.specs.records.Items.{Data as DataItem}
use Rattle.sgml_theory_reading.specs.records.Facts.{Facts}
use Rattle.sgml_content_data.specs.model.Choice.{left_by}
use Rattle.sgml_dtd.specs.Doctypes.{Doctype}
use Rattle.sgml_events.specs.declared.event.Event.{Event}
use Rattle.sgml_content_steps.specs.said.Told.{all_said}
use Rattle.sgml_theory_reading.specs.Names.{Name, Text}
use Rattle.sgml_theory_reading.specs.Pieces.{Char, Ordinary}
use Rattle.sgml_theory_reading.specs.Facets.{Pcdata, token}
use Rattle.sgml_theory_reading.specs.Context.{Level}
use Rattle.sgml_theory_reading.specs.Omission.{document_name, NoneMayStand, allowed}
use Rattle.sgml_theory_reading.specs.Reasons.{Stands}
use Rattle.sgml_theory_reading.specs.State.{State}
use Rattle.sgml_theory_reading.specs.Characters.{facts_in, kind_noted}
use Rattle.sgml_theory_reading.specs.Reads.{pieces}
use Rattle.sgml_theory_reading.specs.Events.{shown, shown_bytes, told_by, events_at}
use Rattle.sgml_theory_reading.specs.Unread.{Outside}
use Rattle.sgml_theory_reading.proofs.Table.{reason-exact}
use Rattle.sgml_declared.specs.theory_spelling.Attributes.{unvalued}
use Rattle.sgml_declared.specs.theory_spelling.Sized.{sized}
use Rattle.sgml_declared.specs.theory_spelling.Spelled.{forms}
use Rattle.sgml_declared.specs.theory_standing.Kept.{Kept}
use Rattle.sgml_declared.specs.theory_standing.Held.{Held, state_of, IsSpelledIn}
use Rattle.sgml_declared.specs.theory_standing.Moves.{held_after}
use Rattle.sgml_infer.specs.declared.visible.Visible.TheVariants as visible
use Rattle.sgml_infer.specs.Visibles.{after_left_out}
use Rattle.sgml_infer.proofs.Running.{none-after}
use Rattle.sgml_inside.specs.declared.inside.Inner.{Inner}
use Rattle.sgml_inside.specs.Inside.{facts_of}
use Rattle.sgml_inside.specs.Laws.{AreInForce}
use Rattle.sgml_prolog_steps.specs.Found.{rest_in, moved_on}
use Rattle.sgml_content_steps.specs.Content.{Content, Holds, IsContent, context_of}
use Rattle.sgml_content_steps.specs.Steps.{Goes, IsStep, entity_of_kind, entities_of}
use Rattle.sgml_content_steps.specs.declared.run.Run.{Run}
use Rattle.sgml_content_steps.specs.Runs.{IsRun, run_of, state_left}
use Rattle.sgml_content_data.specs.Steps.{TellsPiece}
use Rattle.sgml_content_data.proofs.Quiet.{character-quiet}
use Rattle.sgml_content_data.proofs.Holding.{behind}
use Rattle.sgml_content_data.proofs.Told.{bytes_said, entities-append, pieces-append}
use Rattle.sgml_content_data.proofs.Alone.{ok-step}
use Rattle.sgml_content_data.proofs.Judged.{IsText, character-text, IsJudgedFrom}
use Rattle.sgml_content_data.proofs.Behind.{IsTakenFrom, mid-content, behind-moves, behind-holds, behind-said}
use Rattle.sgml_content_data.proofs.Data.{facts-left, told-at}
use Rattle.sgml_content_references.specs.Entities.{chars_told}
use Rattle.sgml_content_references.specs.Ordinary.{is_content_in, bytes_shown, with_string, IsStringTaken}
use Rattle.sgml_content_references.proofs.Referenced.{said-chars, said-characters, none-chars, at-chars}
use Rattle.sgml_content_references.proofs.Taken.{run-none}
use Rattle.sgml_content_references.proofs.Alike.{plain, holds-like, string-content, plain-next}
use Rattle.sgml_content_references.proofs.Shown.{bytes-told}
use Rattle.sgml_content_references.proofs.DataStanding.{noted-as, means-content}

pub content-text : (string : Text) → IsText (plain string true)
unfolding token unvalued
content-text string = record { token_is = refl; none_undefined = λ s. refl; none_unvalued = λ s. refl; judged_is = λ s. refl; accepted_is = λ s. refl; entities = refl }

-- SOME ELEMENT IS OPEN behind the run, since #PCDATA may stand there
nothing-before : (o : Option Name) → is_some (left_by (document_name o) None) ≡ false
nothing-before None = refl
nothing-before (Some n) = refl

some-open : (d : Doctype) (ls : List Level) (begun inferred : Bool) → IsTrue (allowed (record { doctype = d; levels = ls; begun = begun; inferred = inferred }) Pcdata)
    → IsTrue (not (length ls == 0))
unfolding allowed
some-open d [] true inferred e = absurd (never e)
  where
    never : false ≡ true → ⊥
    never e = cc
some-open d [] false inferred e = absurd (never (sym (nothing-before d.name) ∙ (and_parts (is_some (left_by (document_name d.name) None)) _ e).0))
  where
    never : false ≡ true → ⊥
    never e = cc
some-open d (l ∷ ls) begun inferred e = ap not (no-zero (length ls))
  where
    no-zero : (n : ℕ) → (suc n == 0) ≡ false
    no-zero n = grind (arith, nat_tests)

left-open : (j : Content) (run : Run) → IsRun j visible.Chars run → IsTrue (not (length (after_left_out j.kept.doctype j.tree).levels == 0))
left-open j run r =
    let s = after_left_out j.kept.doctype j.tree in
    let is = (character-text 0).token_is in
    let none : NoneMayStand s (Char 0) = none-after (context_of j) (Char 0) (run_of j) (r.judged.longest (Char 0) is) in
    let stands : Stands s (Char 0) (token (Char 0)) = (reason-exact s (Char 0) none).0 (r.judged.no_reason (Char 0) is) in
    some-open s.doctype s.levels s.begun s.inferred (subst (λ t. Stands s (Char 0) t) is stands).0

elements-open : (d : Doctype) (ls : List Level) (xs : List Inner) → AreInForce d ls xs → IsTrue (not (length ls == 0)) → (x : Inner) × (ys : List Inner) × (xs ≡ x ∷ ys)
elements-open d [] [] f e = absurd (never e)
  where
    never : false ≡ true → ⊥
    never e = cc
elements-open d [] (x ∷ xs) f e = absurd f
elements-open d (l ∷ ls) [] f e = absurd f
elements-open d (l ∷ ls) (x ∷ xs) f e = (x, xs, refl)

-- so its bytes tell what they show there
shown-told : (xs : List Inner) (x : Inner) (ys : List Inner) (string : Text) → xs ≡ x ∷ ys → told_by (facts_of xs) (shown_bytes string) ≡ bytes_said (bytes_shown xs string)
shown-told xs x ys string e =
    subst (λ (zs : List Inner). told_by (facts_of zs) (shown_bytes string) ≡ bytes_said (bytes_shown zs string)) (sym e) (bytes-told string x ys)

pub string-shown : (s : State) (n : ℕ) (string : Text) → events_at forms s (sized n (plain string true)) ≡ told_by (facts_in s.record_ends) (shown_bytes string)
unfolding shown
string-shown s n string = refl

content-said : (j mid : Content) (told : List Event) (run : Run) (x : Held) (string : Text) (n : ℕ) → IsRun j visible.Chars run → IsTakenFrom j mid told → Holds j x
    → all_said mid.kept.doctype (chars_told (characters (bytes_shown mid.inside.elements string))) ≡ events_at forms (state_left j x) (sized n (plain string true))
content-said j mid told run x string n r t h =
    let bytes = bytes_shown mid.inside.elements string in
    let parts = elements-open j.kept.doctype (after_left_out j.kept.doctype j.tree).levels mid.inside.elements t.taken.maps (left-open j run r) in
    said-chars mid.kept.doctype (characters bytes)
    ∙ (said-characters mid.kept.doctype bytes
    ∙ (sym (shown-told mid.inside.elements parts.0 parts.1 string parts.2)
    ∙ (ap (λ (f : Facts). told_by f (shown_bytes string)) (sym (facts-left j mid told x t h)) ∙ sym (string-shown (state_left j x) n string))))

-- IT GOES ON
content-none : (c : Content) (string : Text) (n : ℕ) → entities_of (pieces (behind (run_of c) n (plain string true) ∷ [])) ≡ []
content-none c string n =
    let y = plain string true in
    pieces-append (run_of c) (sized n y ∷ []) ∙ (λ i. run-none c i ++ (append-nil (entity_of_kind y) ∙ (content-text string).entities) i)

content-goes : (outside : Outside) (texts : List (ℕ × Text)) (ended : Bool) (j mid : Content) (told : List Event) (run : Run) (x : Held) (string : Text) (n : ℕ)
    → IsContent j → IsRun j visible.Chars run → IsTakenFrom j mid told → Holds j x → n ≤ length (rest_in j.kept texts)
    → IsSpelledIn outside x texts ended (Ok (sized n (plain string true))) → kind_noted (state_of x) (plain string true) ≡ plain string true
    → Goes outside texts ended x (with_string n string mid) (told ++ chars_told (characters (bytes_shown mid.inside.elements string)))
content-goes outside texts ended j mid told run x string n is r t h l s noted =
    let y = plain string true in
    let units = characters (bytes_shown mid.inside.elements string) in
    record {
      moves = behind (run_of j) n y ∷ [];
      now = held_after outside (behind (run_of j) n y) x;
      next = (plain-next outside texts ended j x (run_of j) string true n is h l s noted (behind-moves j run x y n is r h (content-text string)), refl);
      holds = holds-like outside string true n (run_of j) x mid
          (behind-holds outside j mid told run x (Char 0) (Some DataItem) n is r t h (character-text 0) (character-quiet 0)) (t.taken.holds x h).record_ends;
      said = behind-said j mid told (chars_told units) x y n mid.kept.doctype t h (ap (λ (k : Kept). k.doctype) t.texts) (content-said j mid told run x string n r t h);
      entities = entities-append told (chars_told units) ∙ ((λ i. t.taken.entities i ++ none-chars units i) ∙ sym (content-none j string n));
      starts = refl;
    }

pub content-taken : (texts : List (ℕ × Text)) (old j new : Content) (before after : List Event) (run : Run) (string : Text) (n : ℕ)
    → IsContent old → IsJudgedFrom old j → IsRun j visible.Chars run → 0 < n → n ≤ length (rest_in old.kept texts)
    → is_content_in old string ≡ true → IsStringTaken j new n string before after → TellsPiece texts n (plain string true) old new before after (Ok tt)
content-taken texts old j new before after run string n was from r some l e d =
    let mid = d.after_run in
    let told = d.run.0 in
    let t : IsTakenFrom j mid told = record { taken = d.run.2; texts = d.texts; currents = d.currents } in
    let units = characters (bytes_shown mid.inside.elements string) in (
      told ++ chars_told units,
      d.told ∙ (ap (λ es. es ++ chars_told units) d.run.1 ∙ append_assoc before told (chars_told units)),
      told-at old j mid told (chars_told units) from t (λ place. at-chars place units),
      λ c st ended there. subst (λ (z : Content). IsStep c st texts ended old z (told ++ chars_told units) (Ok tt)) (sym d.kept)
          (ok-step c st texts ended old (with_string n string mid) (told ++ chars_told units) n was
          (string-content n string mid (mid-content j mid told (Char 0) (Some DataItem) n from.content t (character-text 0) (character-quiet 0)))
          (ap (moved_on n) (d.texts ∙ from.kept)) some l
          (λ outside x h held. content-goes outside texts ended j mid told run x string n from.content r t (from.holds x h)
          (subst (λ (k : Kept). n ≤ length (rest_in k texts)) (sym from.kept) l) (there outside x h held)
          (noted-as old x string (Ordinary true true) true true h refl (means-content old string e)))),
    )
