-- A document that was read before it is parsed, and a parser that was fed it.
use Rattle.std.specs.Io.KnownBytes.{Consumes, IsAtEnd}
use Rattle.std.proofs.Common.{◌≡◌, ◌+◌, ◌-◌, ◌<◌, ◌≤◌, ℕ, false, List, [], ◌++◌, length, take, nat_lt, Option, Some, None, refl, sym, ap, ◌∙◌, subst, arith, append-nil}
use Rattle.std.proofs.Math.Seq.{take-nil, take-append-add}
use Rattle.std.proofs.lemmas.Bool.{le-ltb}
use Rattle.std.proofs.lemmas.List.{append_assoc, length-append}
use Rattle.sgml_io.specs.Records.{records}
use Rattle.sgml_io.specs.Pieces.{HasMade, remaining}
use Rattle.sgml_syntax.specs.declared.syntax.Syntax.{Syntax}
use Rattle.sgml_said.specs.theory_reading.Unread.{Input, opening}
use Rattle.sgml_said.specs.theory_reading.Names.{Text}
use Rattle.sgml_source.specs.declaring.Files.{Choices}
use Rattle.sgml_source.specs.parse.Parsing.{Parser, IsParsing, is_in_instance}
use Rattle.sgml_source.specs.parse.Calls.{BeginsParsing, Feeds, Ends}
use Rattle.sgml_source.specs.declared.source.Phase.{Phase}
use Rattle.sgml_source.specs.declared.source.Phase.TheVariants as phase
use Rattle.sgml_source.specs.Inputs.{Files, IsInputOf}
use Rattle.sgml_source.specs.Feeding.{IsInPhase, IsAt, IsGoing, is_whole}
use Rattle.sgml_source.proofs.parse.Tables.{reads-tables}
use Rattle.sgml_conversion.specs.Documents.{HasRead, IsFedWhole, source_of}

-- WHAT WAS READ of what is left
consumed : (a b : Option (List ℕ)) (rest piece : List ℕ) → a ≡ Some rest → Consumes a b piece → (rest' : List ℕ) × (b ≡ Some rest') × (rest ≡ piece ++ rest')
consumed a None rest piece e c = absurd (subst (λ z. Consumes z None piece) e c)
consumed a (Some rest') rest piece e c = (rest', refl, subst (λ z. Consumes z (Some rest') piece) e c)

at-end : (a : Option (List ℕ)) (rest : List ℕ) → a ≡ Some rest → IsAtEnd a → rest ≡ []
at-end a rest e c = subst IsAtEnd e c

-- a piece more
pub piece-read : (limit : ℕ) (whole : List ℕ) (left left' : Option (List ℕ)) (bytes bytes' piece : List ℕ) → Consumes left left' piece → bytes' ≡ bytes ++ piece → HasRead limit whole left bytes phase.Going → HasRead limit whole left' bytes' phase.Going
piece-read limit whole left left' bytes bytes' piece c e x =
    let r = consumed left left' x.rest piece x.in_phase c in
    record {
      rest = r.0;
      all = x.all ∙ ap (λ z. bytes ++ z) r.2 ∙ sym (append_assoc bytes piece r.0) ∙ ap (λ z. z ++ r.0) (sym e);
      in_phase = r.1;
    }

-- nothing is left
pub end-read : (limit : ℕ) (whole : List ℕ) (left left' : Option (List ℕ)) (bytes none : List ℕ) → Consumes left left' none → none ≡ [] → IsAtEnd left' → HasRead limit whole left bytes phase.Going → HasRead limit whole left' bytes phase.Whole
end-read limit whole left left' bytes none c n end x =
    let r = consumed left left' x.rest none x.in_phase c in
    let e : x.rest ≡ [] = r.2 ∙ ap (λ z. z ++ r.0) n ∙ at-end left' r.0 r.1 end in
    record { rest = []; all = x.all ∙ ap (λ z. bytes ++ z) e; in_phase = refl }

-- more is left than the limit lets
pub cut-read : (limit : ℕ) (whole : List ℕ) (left left' : Option (List ℕ)) (bytes piece : List ℕ) → Consumes left left' piece → 0 < length piece → length bytes ≡ limit → HasRead limit whole left bytes phase.Going → HasRead limit whole left' bytes phase.Cut
cut-read limit whole left left' bytes piece c some full x =
    let r = consumed left left' x.rest piece x.in_phase c in
    record { rest = x.rest; all = x.all; in_phase = (full, omega (arith, some, ap length r.2 ∙ length-append piece r.0)) }

-- THE PARSER
to-come : (limit : ℕ) (bytes rest : List ℕ) → length bytes ≤ limit → take limit (bytes ++ rest) ≡ bytes ++ take (limit - length bytes) rest
to-come limit bytes rest l =
    let e : limit ≡ length bytes + (limit - length bytes) = omega (arith, l) in
    ap (λ n. take n (bytes ++ rest)) e ∙ take-append-add bytes rest (limit - length bytes)

fed-made : (old new : Parser) (bytes : List ℕ) → HasMade old.records [] [] → (f : Feeds old new bytes) → HasMade new.records bytes f.made
fed-made old new bytes made f = f.makes [] [] made

fed-parsing : (limit : ℕ) (files : Files) (c : Choices) (declaration : Option Syntax) (old new : Parser) (bytes rest whole : List ℕ) (I : Input) → BeginsParsing declaration c old → HasMade old.records [] [] → Feeds old new bytes
    → length bytes ≤ limit → whole ≡ bytes ++ rest → IsInputOf limit files c declaration whole I → IsParsing new I (remaining new.records (take (limit - length bytes) rest)) (opening I.outside) []
fed-parsing limit files c declaration old new bytes rest whole I b made f l all i =
    let more = take (limit - length bytes) rest in
    let document : I.document ≡ f.made ++ remaining new.records more =
    i.document ∙ ap (λ (z : List ℕ). records (take limit z)) all ∙ ap records (to-come limit bytes rest l) ∙ sym (fed-made old new bytes made f more) in
    f.reads_on I (remaining new.records more) (opening I.outside) []
    (subst (λ (z : Text). IsParsing old I z (opening I.outside) []) document (b I i.of_options i.syntax))

stands-there : (limit : ℕ) (bytes rest whole : List ℕ) (left : ℕ → Option (List ℕ)) (id : ℕ) (f : Phase) (p : Parser) (I : Input) (so_far : Text) → whole ≡ bytes ++ rest → IsInPhase limit f (left id) rest (length bytes)
    → HasMade p.records bytes so_far → IsParsing p I (remaining p.records (take (limit - length bytes) rest)) (opening I.outside) [] → IsAt limit whole left (source_of limit id bytes f) p I (opening I.outside) []
stands-there limit bytes rest whole left id f p I so_far all in_phase made parsing = record {
  limit_is = refl;
  fed = bytes;
  rest = rest;
  whole = all;
  has = record { so_far = so_far; counted = refl; made = made; parsing = parsing };
  in_phase = in_phase;
  typed = reads-tables p.reading p.texts p.ended I (remaining p.records (take (limit - length bytes) rest)) (opening I.outside) [] parsing.reads;
}

pub fed-whole : (c : Choices) (declaration : Option Syntax) (old new : Parser) (bytes : List ℕ) (f : Phase) → BeginsParsing declaration c old → HasMade old.records [] [] → Feeds old new bytes → IsFedWhole c declaration bytes f new
fed-whole c declaration old new bytes f b made x = λ limit files whole I left id l r i.
    stands-there limit bytes r.rest whole left id f new I x.made r.all r.in_phase (fed-made old new bytes made x) (fed-parsing limit files c declaration old new bytes r.rest whole I b made x l r.all i)

-- and told that it is whole
pub ended-whole : (c : Choices) (declaration : Option Syntax) (old new end : Parser) (bytes : List ℕ) → BeginsParsing declaration c old → HasMade old.records [] [] → Feeds old new bytes
    → Ends new end → end.records ≡ new.records → IsFedWhole c declaration bytes phase.Whole end
ended-whole c declaration old new end bytes b made x e same = λ limit files whole I left id l r i.
    let none : r.rest ≡ [] = r.in_phase in
    let all : whole ≡ bytes = r.all ∙ ap (λ z. bytes ++ z) none ∙ append-nil bytes in
    let nothing : take (limit - length bytes) r.rest ≡ [] = ap (λ z. take (limit - length bytes) z) none ∙ take-nil (limit - length bytes) in
    let uncut : I.was_cut ≡ false = i.was_cut ∙ ap (λ z. nat_lt limit (length z)) all ∙ le-ltb limit (length bytes) l in
    let fed : IsParsing new I [] (opening I.outside) [] =
    subst (λ z. IsParsing new I (remaining new.records z) (opening I.outside) []) nothing (fed-parsing limit files c declaration old new bytes r.rest whole I b made x l r.all i) in
    stands-there limit bytes r.rest whole left id phase.Whole end I x.made r.all r.in_phase (subst (λ z. HasMade z bytes x.made) (sym same) (fed-made old new bytes made x))
    (subst (λ z. IsParsing end I (remaining end.records z) (opening I.outside) []) (sym nothing) (e I (opening I.outside) [] uncut fed))

-- AT ANY MOMENT
pub same-reading : (old new : Parser) (bytes : List ℕ) → Feeds old new bytes → new.reading ≡ old.reading
same-reading old new bytes f = ap (λ (p : Parser). p.reading) f.after

pub still-outside : (old new : Parser) (bytes : List ℕ) → Feeds old new bytes → is_in_instance old.reading ≡ false → is_in_instance new.reading ≡ false
still-outside old new bytes f e = ap is_in_instance (same-reading old new bytes f) ∙ e

pub fed-going : (old new : Parser) (bytes : List ℕ) (f : Phase) → Feeds old new bytes → old.failed ≡ None → old.ended ≡ false → is_whole f ≡ false → (limit id : ℕ) → length bytes ≤ limit → IsGoing (source_of limit id bytes f) new
fed-going old new bytes f x well still going = λ limit id l. record {
  within = l;
  ended = ap (λ (p : Parser). p.ended) x.after ∙ still ∙ sym going;
  well = ap (λ (p : Parser). p.failed) x.after ∙ well;
}
