-- A document of which nothing was read, and the file that it is.
use Rattle.std.specs.Prelude.{IfOk, IfSome, Result, Ok, Err, ◌-◌, take}
use Rattle.std.proofs.Common.{◌≡◌, ℕ, Bool, true, false, Option, Some, None, List, [], inl, inr, ◌⊎◌, refl, sym, ap, ◌∙◌, subst, arith, append-nil}
use Rattle.sgml_text.specs.declared.place.Refusal.{Refusal}
use Rattle.sgml_io.specs.Files.{Finds, file_in}
use Rattle.sgml_io.specs.Pieces.{HasMade, remaining}
use Rattle.sgml_io.specs.Writes.{Appends-nothing}
use Rattle.sgml_syntax.specs.declared.syntax.Syntax.{Syntax}
use Rattle.sgml_said.specs.theory_reading.Names.{Text}
use Rattle.sgml_said.specs.theory_reading.Facets.{AfterSubset, AtBeginning, stage_after, is_finish}
use Rattle.sgml_said.specs.theory_reading.Pieces.{History}
use Rattle.sgml_said.specs.theory_reading.Reads.{IsOver, after_moves, ends_in_finish}
use Rattle.sgml_said.specs.theory_reading.State.{stage}
use Rattle.sgml_said.specs.theory_reading.Unread.{Input, Outside, opening}
use Rattle.sgml_said.specs.theory_reading.Events.{Event as Said}
use Rattle.sgml_theory_ending.specs.theory_spelling.Spelled.{forms}
use Rattle.sgml_source.specs.declaring.Files.{Choices}
use Rattle.sgml_source.specs.content_steps.Content.{Content}
use Rattle.sgml_source.specs.instance.Reading.{KeepsUp}
use Rattle.sgml_source.specs.parse.There.{Reading}
use Rattle.sgml_source.specs.parse.There as reading
use Rattle.sgml_source.specs.parse.Parsing.{Parser, Reads, IsParsing, KnowsTexts, is_in_instance}
use Rattle.sgml_source.specs.parse.Locating.{IsPositionOf}
use Rattle.sgml_source.specs.parse.Calls.{BeginsParsing}
use Rattle.sgml_source.proofs.parse.Tables.{reads-tables}
use Rattle.sgml_source.specs.declared.source.Phase.TheVariants.{Going}
use Rattle.sgml_source.specs.Inputs.{Files, IsInputOf, input_of}
use Rattle.sgml_source.specs.Feeding.{IsAt}
use Rattle.sgml_source.specs.Stopping.{IsStop}
use Rattle.sgml_conversion.specs.declared.answer.Failure.{Failure}
use Rattle.sgml_conversion.specs.declared.answer.Ending.{Ending}
use Rattle.sgml_conversion.specs.declared.answer.Ending.TheVariants as ending
use Rattle.sgml_conversion.specs.declared.answer.Outcome.{Outcome}
use Rattle.sgml_conversion.specs.declared.answer.Outcome.TheVariants as outcome
use Rattle.sgml_conversion.specs.Lines.{bytes_of}
use Rattle.sgml_conversion.specs.Converting.{IsIdFault, IsEnd, EndsFrom, FailsFrom, Converts, ConvertsFile}
use Rattle.sgml_conversion.specs.Ending.{IsEnding, ReadsTo, IsOutcomeOf}
use Rattle.sgml_conversion.specs.Beginning.{ConvertsFrom, ConvertsFound}
use Rattle.sgml_conversion.proofs.Turned.{whole-front}

-- AT FIRST a parser isn't in the instance
never : {A : Type 0} → false ≡ true → A
never e = cc

not-after : {A : Type 0} → AtBeginning ≡ AfterSubset → A
not-after e = cc

at-opening : (outside : Outside) → stage (opening outside) ≡ AtBeginning
unfolding stage stage_after
at-opening outside = refl

not-finished : (outside : Outside) → ends_in_finish (opening outside) ≡ false
unfolding is_finish
not-finished outside = refl

none-kept : (A : Type 0) (over : Bool) (x : Content) (ts : List (ℕ × Text)) (I : Input) (more : Text) → KeepsUp over x ts I more (opening I.outside) → A
none-kept A true x ts I more k = never (sym (not-finished I.outside) ∙ k.0)
none-kept A false x ts I more k = not-after (sym (at-opening I.outside) ∙ sym k.2.stands.stage_is ∙ k.2.in_content)

not-begun : (there : Reading) (ts : List (ℕ × Text)) (ended : Bool) (I : Input) (more : Text) (told : List Said) → Reads there ts ended I more (opening I.outside) told → is_in_instance there ≡ false
not-begun (reading.Prolog r) ts ended I more told x = refl
not-begun (reading.Instance r) ts ended I more told x = none-kept (true ≡ false) r.over r.content ts I more x.keeps
not-begun reading.Lost ts ended I more told x = refl

first-input : (c : Choices) (declaration : Option Syntax) → IsInputOf 0 [] c declaration [] (input_of 0 [] c declaration [])
first-input c declaration = record {
  of_options = record { expand = refl; file = refl; resolved = λ kind name external base. refl };
  syntax = refl;
  fetched = λ name. refl;
  document = refl;
  was_cut = refl;
}

pub in-prolog : (c : Choices) (declaration : Option Syntax) (p : Parser) → BeginsParsing declaration c p → is_in_instance p.reading ≡ false
in-prolog c declaration p b =
    let I = input_of 0 [] c declaration [] in
    let i = first-input c declaration in
    not-begun p.reading p.texts p.ended I I.document [] (b I i.of_options i.syntax).reads

-- NOTHING WAS FED
none-less : (n : ℕ) → n ≡ n - 0
none-less n = omega arith

all-left : (n : ℕ) (bytes : List ℕ) → take n bytes ≡ take (n - 0) bytes
all-left n bytes = ap (λ (m : ℕ). take m bytes) (none-less n)

at-first : (limit : ℕ) (files : Files) (c : Choices) (declaration : Option Syntax) (left : ℕ → Option (List ℕ)) (id : ℕ) (p : Parser) (bytes : List ℕ) (I : Input) → BeginsParsing declaration c p → HasMade p.records [] [] → left id ≡ Some bytes
    → IsInputOf limit files c declaration bytes I → IsAt limit bytes left (record { id = id; fed = 0; phase = Going; limit = limit }) p I (opening I.outside) []
at-first limit files c declaration left id p bytes I b made l i =
    let parsing : IsParsing p I I.document (opening I.outside) [] = b I i.of_options i.syntax in
    let document : I.document ≡ remaining p.records (take (limit - 0) bytes) =
    i.document ∙ sym (made (take limit bytes)) ∙ ap (remaining p.records) (all-left limit bytes) in
    record {
      limit_is = refl;
      fed = [];
      rest = bytes;
      whole = refl;
      has = record { so_far = []; counted = refl; made = made; parsing = subst (λ (z : Text). IsParsing p I z (opening I.outside) []) document parsing };
      in_phase = l;
      typed = reads-tables p.reading p.texts p.ended I I.document (opening I.outside) [] parsing.reads;
    }

-- what was read to its end, or to where nothing more reads
over : (a : Ending) (I : Input) (h : History) → IsEnding a I h → IsOver forms I h
over ending.Conforming I h e = inl e.0
over (ending.Refused r) I h (inl s) = inr (r.reason, s.reason)
over (ending.Refused r) I h (inr f) = inl f.over

told-end : (p : Parser) (a : Ending) (o : Outcome) (I : Input) (more : Text) (h : History) → KnowsTexts p I more h → IsEnding a I h → IsOutcomeOf p a o → IsEnd o I h
told-end p ending.Conforming outcome.Conforming I more h n e t = e
told-end p ending.Conforming (outcome.Refused r x) I more h n e t = absurd t
told-end p ending.Conforming outcome.Absent I more h n e t = absurd t
told-end p (ending.Refused r) outcome.Conforming I more h n e t = absurd t
told-end p (ending.Refused r) outcome.Absent I more h n e t = absurd t
told-end p (ending.Refused r) (outcome.Refused q x) I more h n e t =
    subst (λ (z : Refusal). (IsStop I h z ⊎ IsIdFault h z) × IsPositionOf I h z.place x) (sym t.0) (e, t.1 I more h n)

told-from : (p : Parser) (a : Ending) (o : Outcome) (I : Input) (h : History) (before now : Option (List ℕ)) → IsOutcomeOf p a o → ReadsTo p a I h before now → EndsFrom o I h before now
told-from p a o I h before now t x = record {
  moves = x.moves;
  read = x.read;
  end = told-end p a o I x.knows.0 (after_moves h x.moves) x.knows.1 x.end t;
  lines = x.lines;
}

-- all was written, though no memory was there for what is told of it
untold-from : (p : Parser) (a : Ending) (I : Input) (h : History) (before now : Option (List ℕ)) → ReadsTo p a I h before now → FailsFrom I h before now
untold-from p a I h before now x =
    let h' = after_moves h x.moves in
    record {
      moves = x.moves;
      read = x.read;
      lines = λ rest r. whole-front before now I h' rest (over a I h' x.end) r (bytes_of h', [], sym (append-nil (bytes_of h')), x.lines);
    }

pub first-told : (limit : ℕ) (known : Option Files) (c : Choices) (declaration : Option Syntax) (left : ℕ → Option (List ℕ)) (id : ℕ) (p p' : Parser) (before now : Option (List ℕ)) (a : Ending) (result : Result Outcome Failure)
    → BeginsParsing declaration c p → HasMade p.records [] [] → ConvertsFrom known left (record { id = id; fed = 0; phase = Going; limit = limit }) p p' before now (Ok a) → IfOk result (IsOutcomeOf p' a) → ConvertsFound limit c declaration known left id before now result
first-told limit None c declaration left id p p' before now a result b made x t = tt
first-told limit (Some files) c declaration left id p p' before now a (Ok o) b made x t = λ bytes I l i.
    told-from p' a o I (opening I.outside) before now t (x limit c declaration bytes I (opening I.outside) i (at-first limit files c declaration left id p bytes I b made l i))
first-told limit (Some files) c declaration left id p p' before now a (Err e) b made x t = λ bytes I l i.
    untold-from p' a I (opening I.outside) before now (x limit c declaration bytes I (opening I.outside) i (at-first limit files c declaration left id p bytes I b made l i))

pub first-failed : (limit : ℕ) (known : Option Files) (c : Choices) (declaration : Option Syntax) (left : ℕ → Option (List ℕ)) (id : ℕ) (p p' : Parser) (before now : Option (List ℕ)) (e : Failure)
    → BeginsParsing declaration c p → HasMade p.records [] [] → ConvertsFrom known left (record { id = id; fed = 0; phase = Going; limit = limit }) p p' before now (Err e) → ConvertsFound limit c declaration known left id before now (Err e)
first-failed limit None c declaration left id p p' before now e b made x = tt
first-failed limit (Some files) c declaration left id p p' before now e b made x = λ bytes I l i. x limit c declaration bytes I (opening I.outside) i (at-first limit files c declaration left id p bytes I b made l i)

pub not-begun-to : (limit : ℕ) (known : Option Files) (c : Choices) (declaration : Option Syntax) (left : ℕ → Option (List ℕ)) (id : ℕ) (before : Option (List ℕ)) (e : Failure) → ConvertsFound limit c declaration known left id before before (Err e)
not-begun-to limit None c declaration left id before e = tt
not-begun-to limit (Some files) c declaration left id before e = λ bytes I l i. record { moves = []; read = tt; lines = λ rest r. ([], bytes_of (after_moves (opening I.outside) rest), refl, Appends-nothing before) }

-- THE FILE
pub file-converted : (limit : ℕ) (known : Option Files) (c : Choices) (declaration : Option Syntax) (left : ℕ → Option (List ℕ)) (id : ℕ) (before now : Option (List ℕ)) (result : Result Outcome Failure) → Finds known c.base left (Some id)
    → ConvertsFound limit c declaration known left id before now result → IfSome known (λ files. Converts limit files c declaration before now result)
file-converted limit None c declaration left id before now result f x = tt
file-converted limit (Some files) c declaration left id before now result f x =
    subst (λ (o : Option (List ℕ)). ConvertsFile limit files c declaration o before now result) (sym f.1) (λ I i. x f.0 I f.2 i)

not-looked-up : (limit : ℕ) (files : Files) (c : Choices) (declaration : Option Syntax) (file : Option (List ℕ)) (before : Option (List ℕ)) (e : Failure) → ConvertsFile limit files c declaration file before before (Err e)
not-looked-up limit files c declaration None before e = (tt, Appends-nothing before)
not-looked-up limit files c declaration (Some bytes) before e = λ I i. record { moves = []; read = tt; lines = λ rest r. ([], bytes_of (after_moves (opening I.outside) rest), refl, Appends-nothing before) }

pub not-found : (limit : ℕ) (known : Option Files) (c : Choices) (declaration : Option Syntax) (before : Option (List ℕ)) (e : Failure) → IfSome known (λ files. Converts limit files c declaration before before (Err e))
not-found limit None c declaration before e = tt
not-found limit (Some files) c declaration before e = not-looked-up limit files c declaration (file_in files c.base) before e
