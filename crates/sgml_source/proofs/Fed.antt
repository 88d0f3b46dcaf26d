-- What a parser stands for that was fed more of a document.
use Rattle.std.proofs.Common.{◌≡◌, ◌+◌, ◌-◌, ◌<◌, ◌≤◌, ℕ, false, List, [], ◌++◌, length, take, nat_lt, Option, Some, None, refl, sym, ap, ◌∙◌, subst, arith, append-nil}
use Rattle.std.proofs.Math.Seq.{take-nil, take-append-add}
use Rattle.std.proofs.lemmas.Bool.{le-ltb}
use Rattle.std.proofs.lemmas.List.{append_cancel_left, append_assoc, length-append}
use Rattle.std.specs.Prelude.{Result, Ok, Err, OnOk}
use Rattle.std.specs.Io.KnownBytes.{Consumes, IsAtEnd}
use Rattle.sgml_io.specs.declared.records.RecordReader.{RecordReader}
use Rattle.sgml_io.specs.Records.{records}
use Rattle.sgml_io.specs.Pieces.{HasMade, remaining}
use Rattle.sgml_parse.specs.Parsing.{Parser, IsParsing, doctype_in}
use Rattle.sgml_parse.specs.Calls.{Feeds, Ends}
use Rattle.sgml_source.specs.declared.source.Phase.TheVariants as phase
use Rattle.sgml_source.specs.declared.source.Source.{Source}
use Rattle.sgml_source.specs.Feeding.{HasFed, IsInPhase, StaysThere, FeedsPiece, EndsThere, FeedsOn}

-- A PIECE: what is to come of it and the rest, within the limit
to-come : (limit : ℕ) (fed piece rest : List ℕ) → length fed + length piece ≤ limit → take (limit - length fed) (piece ++ rest) ≡ piece ++ take (limit - length (fed ++ piece)) rest
to-come limit fed piece rest l =
    let e : limit - length fed ≡ length piece + (limit - length (fed ++ piece)) = omega (arith, l, length-append fed piece) in
    ap (λ n. take n (piece ++ rest)) e ∙ take-append-add piece rest (limit - length (fed ++ piece))

-- the text of it
text-to-come : (old new : RecordReader) (fed so_far piece made more : List ℕ) → HasMade old fed so_far → HasMade new (fed ++ piece) (so_far ++ made)
    → remaining old (piece ++ more) ≡ made ++ remaining new more
text-to-come old new fed so_far piece made more a b =
    append_cancel_left so_far _ _ (a (piece ++ more) ∙ ap records (sym (append_assoc fed piece more)) ∙ sym (b more) ∙ append_assoc so_far made (remaining new more))

pub piece-is-fed : (limit : ℕ) (old new : Parser) (piece : List ℕ) (count : ℕ) → Feeds old new piece → count + length piece ≤ limit → FeedsPiece limit count old piece (count + length piece) new
piece-is-fed limit old new piece count f l = λ fed rest I h told x.
    let made = f.makes fed x.so_far x.made in
    let more = take (limit - length (fed ++ piece)) rest in
    let e : remaining old.records (take (limit - length fed) (piece ++ rest)) ≡ f.made ++ remaining new.records more
    = ap (remaining old.records) (to-come limit fed piece rest (omega (arith, l, x.counted))) ∙ text-to-come old.records new.records fed x.so_far piece f.made more x.made made in
    record {
      so_far = x.so_far ++ f.made;
      counted = ap (λ n. n + length piece) x.counted ∙ sym (length-append fed piece);
      made = made;
      parsing = f.reads_on I (remaining new.records more) h told (subst (λ z. IsParsing old I z h told) e x.parsing);
    }

-- THE END
pub document-ends : (limit : ℕ) (old new : Parser) (count : ℕ) → Ends old new → new.records ≡ old.records → EndsThere limit count old new
document-ends limit old new count f e = λ fed I h told cut x.
    let none : take (limit - length fed) [] ≡ [] = take-nil (limit - length fed) in
    record {
      so_far = x.so_far;
      counted = x.counted;
      made = subst (λ z. HasMade z fed x.so_far) (sym e) x.made;
      parsing = subst (λ z. IsParsing new I (remaining new.records z) h told) (sym none) (f I h told cut (subst (λ z. IsParsing old I (remaining old.records z) h told) none x.parsing));
    }

-- WHAT WAS READ of what is left
consumed : (a b : Option (List ℕ)) (rest piece : List ℕ) → a ≡ Some rest → Consumes a b piece → (rest' : List ℕ) × (b ≡ Some rest') × (rest ≡ piece ++ rest')
consumed a None rest piece e c = absurd (subst (λ z. Consumes z None piece) e c)
consumed a (Some rest') rest piece e c = (rest', refl, subst (λ z. Consumes z (Some rest') piece) e c)

is-left : (limit : ℕ) (left : ℕ → Option (List ℕ)) (s : Source) (rest : List ℕ) → s.phase ≡ phase.Going → IsInPhase limit s.phase (left s.id) rest s.fed → left s.id ≡ Some rest
is-left limit left s rest g x = subst (λ z. IsInPhase limit z (left s.id) rest s.fed) g x

pub goes-on-fed : (left left' : ℕ → Option (List ℕ)) (s s' : Source) (p p' : Parser) (piece : List ℕ) → s.phase ≡ phase.Going → s'.phase ≡ s.phase → s'.id ≡ s.id → s'.limit ≡ s.limit
    → Consumes (left s.id) (left' s.id) piece → FeedsPiece s.limit s.fed p piece s'.fed p' → StaysThere p p' → FeedsOn left s p left' s' p'
goes-on-fed left left' s s' p p' piece g same id within c f t = λ limit bytes I h told cut x.
    let r = consumed (left s.id) (left' s.id) x.rest piece (is-left limit left s x.rest g x.in_phase) c in
    record {
      limit_is = within ∙ x.limit_is;
      fed = x.fed ++ piece;
      rest = r.0;
      whole = x.whole ∙ ap (λ z. x.fed ++ z) r.2 ∙ sym (append_assoc x.fed piece r.0);
      has = subst (λ z. HasFed z (x.fed ++ piece) r.0 s'.fed p' I h told) x.limit_is
          (f x.fed r.0 I h told (subst (λ z. HasFed z x.fed (piece ++ r.0) s.fed p I h told) (sym x.limit_is) (subst (λ z. HasFed limit x.fed z s.fed p I h told) r.2 x.has)));
      in_phase = subst (λ z. IsInPhase limit z (left' s'.id) r.0 s'.fed) (sym (same ∙ g)) (ap left' id ∙ r.1);
      typed = ap doctype_in t.reading ∙ x.typed;
    }

-- nothing is left
at-end : (a : Option (List ℕ)) (rest : List ℕ) → a ≡ Some rest → IsAtEnd a → rest ≡ []
at-end a rest e c = subst IsAtEnd e c

pub ends-whole : (left left' : ℕ → Option (List ℕ)) (s s' : Source) (p p' : Parser) (none : List ℕ) → s.phase ≡ phase.Going → s'.phase ≡ phase.Whole → s'.limit ≡ s.limit → s'.fed ≡ s.fed → s.fed ≤ s.limit
    → none ≡ [] → Consumes (left s.id) (left' s.id) none → IsAtEnd (left' s.id) → EndsThere s.limit s.fed p p' → StaysThere p p' → FeedsOn left s p left' s' p'
ends-whole left left' s s' p p' none g w within count l n c end f t = λ limit bytes I h told cut x.
    let r = consumed (left s.id) (left' s.id) x.rest none (is-left limit left s x.rest g x.in_phase) c in
    let e : x.rest ≡ [] = r.2 ∙ ap (λ z. z ++ r.0) n ∙ at-end (left' s.id) r.0 r.1 end in
    let whole : bytes ≡ x.fed = x.whole ∙ ap (λ z. x.fed ++ z) e ∙ append-nil x.fed in
    let uncut : I.was_cut ≡ false = cut ∙ ap (λ z. nat_lt limit (length z)) whole ∙ le-ltb limit (length x.fed) (omega (arith, x.has.counted, l, x.limit_is)) in
    record {
      limit_is = within ∙ x.limit_is;
      fed = x.fed;
      rest = [];
      whole = x.whole ∙ ap (λ z. x.fed ++ z) e;
      has = subst (λ z. HasFed z x.fed [] s'.fed p' I h told) x.limit_is (subst (λ z. HasFed s.limit x.fed [] z p' I h told) (sym count)
          (f x.fed I h told uncut (subst (λ z. HasFed z x.fed [] s.fed p I h told) (sym x.limit_is) (subst (λ z. HasFed limit x.fed z s.fed p I h told) e x.has))));
      in_phase = subst (λ z. IsInPhase limit z (left' s'.id) [] s'.fed) (sym w) refl;
      typed = ap doctype_in t.reading ∙ x.typed;
    }

-- more is left than the limit lets
pub is-cut : (left left' : ℕ → Option (List ℕ)) (s : Source) (p : Parser) (piece : List ℕ) → s.phase ≡ phase.Going → s.fed ≡ s.limit
    → Consumes (left s.id) (left' s.id) piece → 0 < length piece → FeedsOn left s p left' (record s { phase = phase.Cut }) p
is-cut left left' s p piece g full c some = λ limit bytes I h told cut x.
    let r = consumed (left s.id) (left' s.id) x.rest piece (is-left limit left s x.rest g x.in_phase) c in
    record {
      limit_is = x.limit_is;
      fed = x.fed;
      rest = x.rest;
      whole = x.whole;
      has = x.has;
      in_phase = (full ∙ x.limit_is, omega (arith, some, ap length r.2 ∙ length-append piece r.0));
      typed = x.typed;
    }

-- THE SAME where it was done without an error
pub goes-on-fed-so : {T E : Type 0} (result : Result T E) (left left' : ℕ → Option (List ℕ)) (s s' : Source) (p p' : Parser) (piece : List ℕ) → s.phase ≡ phase.Going → s'.phase ≡ s.phase → s'.id ≡ s.id → s'.limit ≡ s.limit
    → Consumes (left s.id) (left' s.id) piece → OnOk result (FeedsPiece s.limit s.fed p piece s'.fed p') → OnOk result (StaysThere p p') → OnOk result (FeedsOn left s p left' s' p')
goes-on-fed-so (Ok x) left left' s s' p p' piece g same id within c f t = goes-on-fed left left' s s' p p' piece g same id within c f t
goes-on-fed-so (Err e) left left' s s' p p' piece g same id within c f t = tt

pub ends-whole-so : {T E : Type 0} (result : Result T E) (left left' : ℕ → Option (List ℕ)) (s s' : Source) (p p' : Parser) (none : List ℕ) → s.phase ≡ phase.Going → OnOk result (s'.phase ≡ phase.Whole)
    → s'.limit ≡ s.limit → s'.fed ≡ s.fed → s.fed ≤ s.limit → none ≡ [] → Consumes (left s.id) (left' s.id) none → IsAtEnd (left' s.id) → OnOk result (EndsThere s.limit s.fed p p') → OnOk result (StaysThere p p')
    → OnOk result (FeedsOn left s p left' s' p')
ends-whole-so (Ok x) left left' s s' p p' none g w within count l n c end f t = ends-whole left left' s s' p p' none g w within count l n c end f t
ends-whole-so (Err e) left left' s s' p p' none g w within count l n c end f t = tt
