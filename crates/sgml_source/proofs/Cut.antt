-- Where a document was cut, reading stops where what is there doesn't decide the next piece.
use Rattle.std.proofs.Common.{◌≡◌, ◌-◌, ◌<◌, ◌==◌, ℕ, Bool, true, false, List, [], ◌∷◌, ◌++◌, length, take, map, Option, Some, None, refl, sym, ap, ◌∙◌, subst, arith, append-nil, if◌then◌else◌}
use Rattle.std.proofs.lemmas.Bool.{lt-ltb}
use Rattle.std.proofs.lemmas.List.{length-append}
use Rattle.sgml_text.specs.declared.place.Place.{Place}
use Rattle.sgml_text.specs.declared.place.Refusal.{Refusal}
use Rattle.sgml_text.specs.declared.reason.Reason.TheVariants.{EntityTooLarge}
use Rattle.sgml_io.specs.Pieces.{remaining}
use Rattle.sgml_parse.specs.theory_reading.Names.{Text}
use Rattle.sgml_parse.specs.theory_reading.Pieces.{History}
use Rattle.sgml_parse.specs.theory_reading.Unread.{Input, Rest}
use Rattle.sgml_parse.specs.theory_reading.State.{state}
use Rattle.sgml_parse.specs.theory_reading.Reads.{Stops, stop_place, top_place, ends_in_finish, rest_with_more, standing_with_more}
use Rattle.sgml_parse.specs.theory_reading.Events.{Event as Said}
use Rattle.sgml_parse.proofs.theory_reading.Cutting.{cut-stops}
use Rattle.sgml_parse.specs.theory_spelling.Decided.{decided}
use Rattle.sgml_parse.specs.theory_spelling.Spelled.{forms}
use Rattle.sgml_parse.specs.theory_standing.Kept.{Kept, Stands, given}
use Rattle.sgml_parse.proofs.theory_standing.Given.{given-is-unread, stops-at-top}
use Rattle.sgml_parse.specs.instance.Reading as content
use Rattle.sgml_parse.specs.content_steps.Content.{Content}
use Rattle.sgml_parse.specs.There.{Reading}
use Rattle.sgml_parse.specs.There as reading
use Rattle.sgml_parse.specs.Parsing.{Parser, Reads, IsParsing, IsUndecided, place_in}
use Rattle.sgml_parse.proofs.Knowing.{parsing-knows}
use Rattle.sgml_source.specs.declared.source.Phase.TheVariants as phase
use Rattle.sgml_source.specs.declared.source.Source.{Source}
use Rattle.sgml_source.specs.declared.told.Told.TheVariants as told
use Rattle.sgml_source.specs.Inputs.{Files}
use Rattle.sgml_source.specs.Feeding.{IsInPhase}
use Rattle.sgml_source.specs.Turning.{ReadsMore}

-- nothing more is to come
no-more-of : (b : Bool) (bytes : Text) → (if b then bytes ++ [] else bytes) ≡ bytes
no-more-of true bytes = append-nil bytes
no-more-of false bytes = refl

no-more : (rs : List Rest) → map (rest_with_more []) rs ≡ rs
no-more [] = refl
no-more (r ∷ rs) = λ i. record { entity = r.entity; bytes = no-more-of (r.entity == 0) r.bytes i } ∷ no-more rs i

-- WHAT STOPS THERE, at its place
abbrev pub IsCutThere : Place → Input → History → Type 0
IsCutThere place I h = Stops forms I h EntityTooLarge × (place ≡ stop_place h)

kept-stops : (k : Kept) (ts : List (ℕ × Text)) (I : Input) (h : History) → Stands k ts I [] h → I.was_cut ≡ true → ends_in_finish h ≡ false → decided I.outside (state h) (given k ts) ≡ false
    → IsCutThere (top_place k.stack.places) I h
kept-stops k ts I h s cut f u =
    let none : standing_with_more [] (given k ts) ≡ given k ts = λ i. record { rests = no-more (given k ts).rests i; spent = (given k ts).spent } in
    (cut-stops forms I h cut f (ap (decided I.outside (state h)) (given-is-unread k ts I [] h s ∙ none) ∙ u), sym (stops-at-top k ts I [] h s))

-- in the instance, which hasn't ended
content-stops : (over : Bool) (x : Content) (ts : List (ℕ × Text)) (I : Input) (h : History) → content.KeepsUp over x ts I [] h → I.was_cut ≡ true → ends_in_finish h ≡ false
    → decided I.outside (state h) (given x.kept ts) ≡ false → IsCutThere (top_place x.kept.stack.places) I h
content-stops true x ts I h k cut f u = absurd (never (sym k.0 ∙ f))
  where
    never : true ≡ false → ⊥
    never e = cc
content-stops false x ts I h k cut f u =
    subst (λ (z : Kept). IsCutThere (top_place z.stack.places) I h) k.1.kept
    (kept-stops k.0.kept ts I h k.2.stands cut f (subst (λ (z : Kept). decided I.outside (state h) (given z ts) ≡ false) (sym k.1.kept) u))

pub cut-there : (there : Reading) (ts : List (ℕ × Text)) (ended : Bool) (I : Input) (h : History) (told : List Said) → Reads there ts ended I [] h told → I.was_cut ≡ true → ends_in_finish h ≡ false
    → IsUndecided there ts I h → IsCutThere (place_in there) I h
cut-there (reading.Prolog r) ts ended I h told x cut f u = kept-stops r.kept ts I h x.0.stands cut f u
cut-there (reading.Instance r) ts ended I h told x cut f u = content-stops r.over r.content ts I h x.keeps cut f u
cut-there reading.Lost ts ended I h told x cut f u = absurd x

-- A DOCUMENT THAT WAS CUT, where more is asked for
pub cut-is-refused : (known : Option Files) (left left' : ℕ → Option (List ℕ)) (s s' : Source) (p : Parser) (r : Refusal) → s.phase ≡ phase.Cut → r.place ≡ place_in p.reading → r.reason ≡ EntityTooLarge
    → ReadsMore known left s p left' s' p (Some (told.Refused r))
cut-is-refused None left left' s s' p r g place why = tt
cut-is-refused (Some files) left left' s s' p r g place why = λ limit c declaration bytes I h earlier i at e f u.
    let there : IsInPhase limit phase.Cut (left s.id) at.rest s.fed = subst (λ z. IsInPhase limit z (left s.id) at.rest s.fed) g at.in_phase in
    let full : length at.fed ≡ limit = sym at.has.counted ∙ there.0 in
    let zero : limit - length at.fed ≡ 0 = omega (arith, full) in
    let none : remaining p.records (take (limit - length at.fed) at.rest) ≡ [] = ap (λ n. remaining p.records (take n at.rest)) zero in
    let parsing : IsParsing p I [] h earlier = subst (λ z. IsParsing p I z h earlier) none at.has.parsing in
    let long : limit < length bytes = omega (arith, full, there.1, ap length at.whole, length-append at.fed at.rest) in
    let x = cut-there p.reading p.texts p.ended I h earlier parsing.reads (i.was_cut ∙ lt-ltb limit (length bytes) long) f u in
    (record { reason = subst (Stops forms I h) (sym why) x.0; place = place ∙ x.1 }, e, at.typed, ([], parsing-knows p I [] h earlier parsing))
