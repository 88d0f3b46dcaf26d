-- A parser that was given something stands for what it stood for.
use Rattle.std.proofs.Common.{◌≡◌, ◌<◌, ◌==◌, Bool, true, false, ℕ, List, [], ◌∷◌, ◌++◌, Option, Some, None, is_some, refl, sym, ap, ◌∙◌, subst, ◌⊎◌, inl, inr, append-nil, append_assoc, eqb-true, eq-eqb, arith, if◌then◌else◌}
use Rattle.std.specs.Prelude.{IsSome, IfSome}
use Rattle.std.specs.Option.{option_or}
use Rattle.sgml_text.specs.declared.reason.Reason.{Reason}
use Rattle.sgml_io.specs.declared.records.RecordReader.{RecordReader}
use Rattle.sgml_io.specs.Records.{records}
use Rattle.sgml_entity.specs.Stack.{is_on}
use Rattle.sgml_entity.specs.Texts.{text_of, with_more}
use Rattle.sgml_decl_lexemes.specs.Sources.{or_empty}
use Rattle.sgml_syntax.specs.declared.syntax.Syntax.{Syntax}
use Rattle.sgml_declared.specs.theory_reading.Names.{Name, Text}
use Rattle.sgml_declared.specs.theory_reading.Pieces.{History}
use Rattle.sgml_declared.specs.theory_reading.Facets.{subset_number}
use Rattle.sgml_declared.specs.theory_reading.Unread.{Input, Outside, Found, opening}
use Rattle.sgml_declared.specs.theory_reading.Events.{Event as Said}
use Rattle.sgml_declared.specs.theory_spelling.References.{missing_fetched}
use Rattle.sgml_parse.specs.Missing.{with_missing}
use Rattle.sgml_declared.specs.theory_standing.Supplied.{AreSuppliedSoFar, MayFollow}
use Rattle.sgml_declared.specs.theory_standing.Kept.{Kept, sources_of}
use Rattle.sgml_declared.specs.theory_standing.Laws.{Gain}
use Rattle.sgml_declared.proofs.theory_standing.Gaining.{texts-are-gained}
use Rattle.sgml_declared.specs.Files.{Choices, IsOutsideOf}
use Rattle.sgml_prolog_steps.specs.Steps.{IsFileNext}
use Rattle.sgml_prolog.specs.Reading as prolog
use Rattle.sgml_prolog.proofs.Gaining.{more-texts-read-on, other-read, supplied-with, subset-as-asked}
use Rattle.sgml_instance.specs.content_steps.Content.{Content}
use Rattle.sgml_instance.specs.Reading as content
use Rattle.sgml_parse.specs.declared.answer.ParseError.{ParseError}
use Rattle.sgml_parse.specs.declared.answer.Supply.{Supply}
use Rattle.sgml_parse.specs.declared.answer.Supply.TheVariants as supply
use Rattle.sgml_parse.specs.declared.answer.Wanted.{Wanted}
use Rattle.sgml_parse.specs.There.{Reading}
use Rattle.sgml_parse.specs.There as reading
use Rattle.sgml_parse.specs.Parsing.{Parser, Reads, Awaits, IsGone, AreMissing, IsUnsuppliedThere, IsParsing, parser}
use Rattle.sgml_parse.specs.Calls.{BeginsParsing, MakesNext, Appends, Feeds, Ends, Supplies, fetched_by, texts_with, why_gone, is_of, gone_after}
use Rattle.sgml_parse.proofs.Silent.{opening-tells}
use Rattle.sgml_parse.proofs.Missed.{MayBeGiven, may-be-given, awaited-name, no-missing, missing-supplied}

-- THE TEXTS with more of one
other-by : (n other : ℕ) (bytes : Text) (t : ℕ × Text) (ts : List (ℕ × Text)) (b : Bool) → (n == t.0) ≡ b → (other == n) ≡ false
    → text_of (with_more n bytes ts) other ≡ text_of ts other
    → text_of (if b then (t.0, t.1 ++ bytes) ∷ ts else t ∷ with_more n bytes ts) other ≡ text_of (t ∷ ts) other
other-by n other bytes t ts true e d i =
    let f : (other == t.0) ≡ false = ap (λ (m : ℕ). other == m) (sym (eqb-true n t.0 e)) ∙ d in
    rw f refl
other-by n other bytes t ts false e d i = ap (λ (o : Option Text). if other == t.0 then Some t.1 else o) i

pub other-text : (n other : ℕ) (bytes : Text) (ts : List (ℕ × Text)) → (other == n) ≡ false → text_of (with_more n bytes ts) other ≡ text_of ts other
other-text n other bytes [] d = ap (λ (b : Bool). if b then Some bytes else None) d
other-text n other bytes (t ∷ ts) d = other-by n other bytes t ts (n == t.0) refl d (other-text n other bytes ts d)

same-by : (n : ℕ) (bytes : Text) (t : ℕ × Text) (ts : List (ℕ × Text)) (b : Bool) → (n == t.0) ≡ b → text_of (with_more n bytes ts) n ≡ Some (or_empty (text_of ts n) ++ bytes)
    → text_of (if b then (t.0, t.1 ++ bytes) ∷ ts else t ∷ with_more n bytes ts) n ≡ Some (or_empty (if b then Some t.1 else text_of ts n) ++ bytes)
same-by n bytes t ts true e i = ap (λ (b : Bool). if b then Some (t.1 ++ bytes) else text_of ts n) e
same-by n bytes t ts false e i = ap (λ (b : Bool). if b then Some t.1 else text_of (with_more n bytes ts) n) e ∙ i

pub same-text : (n : ℕ) (bytes : Text) (ts : List (ℕ × Text)) → text_of (with_more n bytes ts) n ≡ Some (or_empty (text_of ts n) ++ bytes)
same-text n bytes [] = ap (λ (b : Bool). if b then Some bytes else None) (eq-eqb n n refl)
same-text n bytes (t ∷ ts) = same-by n bytes t ts (n == t.0) refl (same-text n bytes ts)

not-zero : (n : ℕ) → 0 < n → (n == 0) ≡ false
not-zero n l = by (n == 0) refl
  where
    by : (b : Bool) → (n == 0) ≡ b → (n == 0) ≡ false
    by true e =
        let z : n ≡ 0 = eqb-true n 0 e in
        absurd (omega (arith, z, l))
    by false e = e

-- MORE OF THE DOCUMENT
supplied-still : (outside : Outside) (k : Kept) (bytes : Text) (ts : List (ℕ × Text)) → AreSuppliedSoFar outside (sources_of k) ts → AreSuppliedSoFar outside (sources_of k) (with_more 0 bytes ts)
supplied-still outside k bytes ts s number text l named given = s number text l named (sym (other-text 0 number bytes ts (not-zero number l)) ∙ given)

gain-fed : (outside : Outside) (k : Kept) (bytes : Text) (ts : List (ℕ × Text)) → AreSuppliedSoFar outside (sources_of k) ts → Gain k outside ts (with_more 0 bytes ts) bytes
gain-fed outside k bytes ts s = record {
  document = ap or_empty (same-text 0 bytes ts);
  being_read = λ number l on. other-text 0 number bytes ts (not-zero number l);
  supplied = supplied-still outside k bytes ts s;
}

not-ended : (I : Input) (more : Text) → MayFollow false I more
not-ended I more = record { whole = λ e. absurd (never e); uncut = λ e. absurd (never e) }
  where
    never : false ≡ true → ⊥
    never e = cc

keeps-fed : (over : Bool) (x : Content) (ts : List (ℕ × Text)) (I : Input) (made more : Text) (h : History) → content.KeepsUp over x ts I (made ++ more) h → content.KeepsUp over x (with_more 0 made ts) I more h
keeps-fed true x ts I made more h k = (k.0, record { sources_are = k.1.sources_are; supplied = supplied-still I.outside x.kept made ts k.1.supplied })
keeps-fed false x ts I made more h k = (
  k.0,
  k.1,
  record {
    stands = texts-are-gained k.0.kept ts (with_more 0 made ts) made more I h k.2.stands (gain-fed I.outside k.0.kept made ts k.2.stands.supplied);
    state_is = k.2.state_is;
    in_content = k.2.in_content;
  },
)

reads-fed : (there : Reading) (ts : List (ℕ × Text)) (I : Input) (made more : Text) (h : History) (told : List Said) → Reads there ts false I (made ++ more) h told → Reads there (with_more 0 made ts) false I more h told
reads-fed (reading.Prolog r) ts I made more h told x = (
  more-texts-read-on r ts (with_more 0 made ts) false false I made more h x.0 (gain-fed I.outside r.kept made ts x.0.stands.supplied)
      (λ text g. inl (sym (other-text 0 subset_number made ts (not-zero subset_number (omega arith))) ∙ g)) (not-ended I more),
  x.1,
)
reads-fed (reading.Instance r) ts I made more h told x = record {
  well = x.well;
  of_options = x.of_options;
  keeps = keeps-fed r.over r.content ts I made more h x.keeps;
  follows = not-ended I more;
  all = x.all;
  placed = x.placed;
}
reads-fed reading.Lost ts I made more h told x = absurd x

-- a text that is waited for is another
no-none : {A : Type 0} (o : Option Text) → o ≡ None → IsSome o → A
no-none None e s = cc
no-none (Some x) e s = cc

other-awaited : (ts : List (ℕ × Text)) (number : ℕ) → text_of ts number ≡ None → IsSome (text_of ts 0) → (number == 0) ≡ false
other-awaited ts number n s = by (number == 0) refl
  where
    by : (b : Bool) → (number == 0) ≡ b → (number == 0) ≡ false
    by true e = no-none (text_of ts 0) (sym (ap (text_of ts) (eqb-true number 0 e)) ∙ n) s
    by false e = e

awaits-fed : (there : Reading) (ts : List (ℕ × Text)) (I : Input) (made : Text) (h : History) (told : List Said) (w : Wanted) → IsSome (text_of ts 0) → Awaits there ts I h told w → Awaits there (with_more 0 made ts) I h told w
awaits-fed there ts I made h told w b a = record {
  unread = a.unread;
  not_given = other-text 0 w.entity made ts (other-awaited ts w.entity a.not_given b) ∙ a.not_given;
  file = a.file;
  all = a.all;
  stops = a.stops;
}

any-awaits-fed : (there : Reading) (ts : List (ℕ × Text)) (I : Input) (made : Text) (h : History) (told : List Said) (o : Option Wanted) → IsSome (text_of ts 0)
    → IfSome o (Awaits there ts I h told) → IfSome o (Awaits there (with_more 0 made ts) I h told)
any-awaits-fed there ts I made h told None b a = tt
any-awaits-fed there ts I made h told (Some w) b a = awaits-fed there ts I made h told w b a

document-fed : (ts : List (ℕ × Text)) (made more : Text) → or_empty (text_of ts 0) ++ (made ++ more) ≡ or_empty (text_of (with_more 0 made ts) 0) ++ more
document-fed ts made more =
    sym (append_assoc (or_empty (text_of ts 0)) made more) ∙ ap (λ (o : Option Text). or_empty o ++ more) (sym (same-text 0 made ts))

pub feeds : (c : Choices) (ts : List (ℕ × Text)) (old new : RecordReader) (there : Reading) (wanted : Option Wanted) (lack : Option Reason) (ms : List (ℕ × Reason)) (bytes made : Text) → MakesNext old new bytes made
    → Feeds (parser c ts old false there wanted lack ms None) (parser c (with_more 0 made ts) new false there wanted lack ms None) bytes
feeds c ts old new there wanted lack ms bytes made m = record {
  made = made;
  makes = m;
  after = refl;
  reads_on = λ I more h told x. record {
    well = refl;
    of_options = x.of_options;
    document = x.document ∙ document-fed ts made more;
    reads = reads-fed there ts I made more h told x.reads;
    begun = ap is_some (same-text 0 made ts);
    awaits = any-awaits-fed there ts I made h told wanted x.begun x.awaits;
    gone = x.gone;
    missing = x.missing;
  };
}

-- THE DOCUMENT IS WHOLE
reads-ended : (there : Reading) (ts : List (ℕ × Text)) (I : Input) (h : History) (told : List Said) → I.was_cut ≡ false → Reads there ts false I [] h told → Reads there ts true I [] h told
reads-ended (reading.Prolog r) ts I h told cut x = (
  record {
    well = x.0.well;
    of_options = x.0.of_options;
    stands = x.0.stands;
    asked_for = x.0.asked_for;
    follows = record { whole = λ e. refl; uncut = λ e. cut };
    in_prolog = x.0.in_prolog;
    none_before = x.0.none_before;
  },
  x.1,
)
reads-ended (reading.Instance r) ts I h told cut x = record {
  well = x.well;
  of_options = x.of_options;
  keeps = x.keeps;
  follows = record { whole = λ e. refl; uncut = λ e. cut };
  all = x.all;
  placed = x.placed;
}
reads-ended reading.Lost ts I h told cut x = absurd x

pub ends : (c : Choices) (ts : List (ℕ × Text)) (made : RecordReader) (there : Reading) (wanted : Option Wanted) (lack : Option Reason) (ms : List (ℕ × Reason))
    → Ends (parser c ts made false there wanted lack ms None) (parser c ts made true there wanted lack ms None)
ends c ts made there wanted lack ms = λ I h told cut x. record {
  well = refl;
  of_options = x.of_options;
  document = x.document;
  reads = reads-ended there ts I h told cut x.reads;
  begun = x.begun;
  awaits = x.awaits;
  gone = x.gone;
  missing = x.missing;
}

-- THE TEXT THAT WAS WANTED
text-given : (outside : Outside) (number : ℕ) (file : Name) (bytes : Text) (ts : List (ℕ × Text)) → (number == 0) ≡ false → text_of ts number ≡ None → outside.fetched file ≡ Found bytes
    → prolog.IsTextGiven outside number file ts (with_more number bytes ts) []
text-given outside number file bytes ts z n f = record {
  text = bytes;
  found = f;
  given = same-text number bytes ts ∙ ap (λ (o : Option Text). Some (or_empty o ++ bytes)) n;
  document = ap or_empty (other-text number 0 bytes ts (zero-other number z)) ∙ sym (append-nil (or_empty (text_of ts 0)));
  others = λ other l d. other-text number other bytes ts d;
}
  where
    zero-other : (number : ℕ) → (number == 0) ≡ false → (0 == number) ≡ false
    zero-other number z = by (0 == number) refl
      where
        by : (b : Bool) → (0 == number) ≡ b → (0 == number) ≡ false
        by true e = absurd (never (sym (eq-eqb number 0 (sym (eqb-true 0 number e))) ∙ z))
          where
            never : true ≡ false → ⊥
            never e = cc
        by false e = e

gain-given : (outside : Outside) (k : Kept) (number : ℕ) (file : Name) (old new : List (ℕ × Text)) → is_on number k.stack.places ≡ false → IsFileNext outside k number file
    → AreSuppliedSoFar outside (sources_of k) old → prolog.IsTextGiven outside number file old new [] → Gain k outside old new []
gain-given outside k number file old new u f s g = record {
  document = g.document;
  being_read = λ other l on. g.others other l (by other on (other == number) refl);
  supplied = supplied-with outside k number file old new [] f s g;
}
  where
    by : (other : ℕ) → is_on other k.stack.places ≡ true → (t : Bool) → (other == number) ≡ t → (other == number) ≡ false
    by other on t e = e ∙ other-read k number other t e u on

keeps-given : (over : Bool) (x : Content) (old new : List (ℕ × Text)) (I : Input) (more : Text) (h : History) (number : ℕ) (file : Name) → is_on number x.kept.stack.places ≡ false
    → IsFileNext I.outside x.kept number file → prolog.IsTextGiven I.outside number file old new [] → content.KeepsUp over x old I more h → content.KeepsUp over x new I more h
keeps-given true x old new I more h number file u f g k = (k.0, record { sources_are = k.1.sources_are; supplied = (gain-given I.outside x.kept number file old new u f k.1.supplied g).supplied })
keeps-given false x old new I more h number file u f g k =
    let u' : is_on number k.0.kept.stack.places ≡ false = subst (λ (z : Kept). is_on number z.stack.places ≡ false) (sym k.1.kept) u in
    let f' : IsFileNext I.outside k.0.kept number file = subst (λ (z : Kept). IsFileNext I.outside z number file) (sym k.1.kept) f in (
      k.0,
      k.1,
      record {
        stands = texts-are-gained k.0.kept old new [] more I h k.2.stands (gain-given I.outside k.0.kept number file old new u' f' k.2.stands.supplied g);
        state_is = k.2.state_is;
        in_content = k.2.in_content;
      },
    )

reads-given : (there : Reading) (old new : List (ℕ × Text)) (ended : Bool) (I : Input) (more : Text) (h : History) (told : List Said) (w : Wanted) → MayBeGiven I.outside there old w
    → prolog.IsTextGiven I.outside w.entity w.name old new [] → Reads there old ended I more h told → Reads there new ended I more h told
reads-given (reading.Prolog r) old new ended I more h told w a g x = (
  more-texts-read-on r old new ended ended I [] more h x.0 (gain-given I.outside r.kept w.entity w.name old new a.unread a.file.0 x.0.stands.supplied g)
      (subset-as-asked I.outside r w.entity w.name old new [] a.file.1 g) x.0.follows,
  x.1,
)
reads-given (reading.Instance r) old new ended I more h told w a g x = record {
  well = x.well;
  of_options = x.of_options;
  keeps = keeps-given r.over r.content old new I more h w.entity w.name a.unread (inl a.file) g x.keeps;
  follows = x.follows;
  all = x.all;
  placed = x.placed;
}
reads-given reading.Lost old new ended I more h told w a g x = absurd x

gone-or : (I : Input) (h : History) (told : List Said) (o was : Option Reason) → ((why : Reason) → o ≡ Some why → IsGone I h told why) → IfSome was (IsGone I h told) → IfSome (option_or o was) (IsGone I h told)
gone-or I h told None was g before = before
gone-or I h told (Some why) was g before = g why refl

-- the text that was wanted last isn't there
gone-supplied : (there : Reading) (ts : List (ℕ × Text)) (I : Input) (h : History) (told : List Said) (number : ℕ) (given : Supply) (wanted : Option Wanted) (was : Option Reason) → IfSome wanted (Awaits there ts I h told)
    → IfSome was (IsGone I h told) → ((v : Wanted) → wanted ≡ Some v → v.entity ≡ number → I.outside.fetched v.name ≡ fetched_by given) → IfSome (gone_after number given wanted was) (IsGone I h told)
gone-supplied there ts I h told number given None was a before f = before
gone-supplied there ts I h told number given (Some v) was a before f = by (v.entity == number) refl
  where
    by : (b : Bool) → (v.entity == number) ≡ b → IfSome (if b then option_or (why_gone given) was else was) (IsGone I h told)
    by true e = gone-or I h told (why_gone given) was (λ why m. (a.stops why (ap missing_fetched (f v refl (eqb-true v.entity number e)) ∙ m), a.all)) before
    by false e = before

reads-supplied : (there : Reading) (ts : List (ℕ × Text)) (ended : Bool) (I : Input) (more : Text) (h : History) (told : List Said) (w : Wanted) (given : Supply) → IsSome (text_of ts 0) → MayBeGiven I.outside there ts w
    → I.outside.fetched w.name ≡ fetched_by given → Reads there ts ended I more h told → Reads there (texts_with w.entity given ts) ended I more h told
reads-supplied there ts ended I more h told w (supply.Text bytes) b a f x =
    reads-given there ts (with_more w.entity (records bytes) ts) ended I more h told w a (text-given I.outside w.entity w.name (records bytes) ts (other-awaited ts w.entity a.not_given b) a.not_given f) x
reads-supplied there ts ended I more h told w supply.Absent b a f x = x
reads-supplied there ts ended I more h told w supply.TooLarge b a f x = x

document-supplied : (ts : List (ℕ × Text)) (number : ℕ) (given : Supply) → (number == 0) ≡ false → text_of (texts_with number given ts) 0 ≡ text_of ts 0
document-supplied ts number (supply.Text bytes) z = other-text number 0 (records bytes) ts (turned number z)
  where
    turned : (number : ℕ) → (number == 0) ≡ false → (0 == number) ≡ false
    turned number z = by (0 == number) refl
      where
        by : (b : Bool) → (0 == number) ≡ b → (0 == number) ≡ false
        by true e = absurd (never (sym (eq-eqb number 0 (sym (eqb-true 0 number e))) ∙ z))
          where
            never : true ≡ false → ⊥
            never e = cc
        by false e = e
document-supplied ts number supply.Absent z = refl
document-supplied ts number supply.TooLarge z = refl

begun-still : (ts : List (ℕ × Text)) (number : ℕ) (given : Supply) → (number == 0) ≡ false → IsSome (text_of ts 0) → IsSome (text_of (texts_with number given ts) 0)
begun-still ts number given z b = ap is_some (document-supplied ts number given z) ∙ b

pub supplies : (c : Choices) (ts : List (ℕ × Text)) (made : RecordReader) (ended : Bool) (there : Reading) (wanted : Option Wanted) (was : Option Reason) (ms : List (ℕ × Reason)) (number : ℕ) (given : Supply)
    → Supplies (parser c ts made ended there wanted was ms None)
    (parser c (texts_with number given ts) made ended there None (gone_after number given wanted was) (with_missing number (why_gone given) ms) None) number given
supplies c ts made ended there wanted was ms number given = λ I more h told w n a f x.
    let m : MayBeGiven I.outside there ts w = may-be-given c there ts ms wanted I h told w x.of_options x.awaits a in
    record {
      well = refl;
      of_options = x.of_options;
      document = subst (λ (m : ℕ). I.document ≡ or_empty (text_of (texts_with m given ts) 0) ++ more) n
          (x.document ∙ ap (λ (o : Option Text). or_empty o ++ more) (sym (document-supplied ts w.entity given (other-awaited ts w.entity m.not_given x.begun))));
      reads = subst (λ (m : ℕ). Reads there (texts_with m given ts) ended I more h told) n (reads-supplied there ts ended I more h told w given x.begun m f x.reads);
      begun = subst (λ (m : ℕ). IsSome (text_of (texts_with m given ts) 0)) n (begun-still ts w.entity given (other-awaited ts w.entity m.not_given x.begun) x.begun);
      awaits = tt;
      gone = gone-supplied there ts I h told number given wanted was x.awaits x.gone
          (λ v s e. ap (λ (z : Name). I.outside.fetched z) (awaited-name c there ts ms wanted I h told w v x.of_options x.awaits a s (e ∙ sym n)) ∙ f);
      missing = missing-supplied c there ts ms wanted was number given I.outside w x.of_options a n f x.missing;
    }

-- AT FIRST
none-other : (number : ℕ) → 0 < number → text_of ((0, []) ∷ []) number ≡ None
none-other number l = ap (λ (b : Bool). if b then Some [] else None) (not-zero number l)

pub begins : (declaration : Option Syntax) (c : Choices) (made : RecordReader) (r : prolog.Reader) (ts : List (ℕ × Text)) → ts ≡ (0, []) ∷ [] → prolog.BeginsAtStart declaration c r
    → BeginsParsing declaration c (parser c ts made false (reading.Prolog r) None None [] None)
begins declaration c made r ts e b = λ I o s.
    subst (λ (z : List (ℕ × Text)). IsParsing (parser c z made false (reading.Prolog r) None None [] None) I I.document (opening I.outside) []) (sym e)
    (record {
      well = refl;
      of_options = o;
      document = refl;
      reads = (
        b ((0, []) ∷ []) false I I.document (record { of_options = o; syntax = s; document = refl; none_given = none-other; follows = not-ended I I.document }),
        opening-tells I.outside,
      );
      begun = refl;
      awaits = tt;
      gone = tt;
      missing = λ g. no-missing (reading.Prolog r) I.outside;
    })

-- THE SAME of a parser as its code has it
pub none-of : {A : Type 0} (o : Option A) → ((x : A) → o ≡ Some x → ⊥) → o ≡ None
none-of None f = refl
none-of (Some x) f = absurd (f x refl)

pub fed : (old : Parser) (c : Choices) (before after : List (ℕ × Text)) (was made : RecordReader) (ended : Bool) (there : Reading) (wanted : Option Wanted) (lack : Option Reason) (ms : List (ℕ × Reason)) (failed : Option ParseError) (bytes : Text)
    → parser c before was ended there wanted lack ms failed ≡ old → old.ended ≡ false → failed ≡ None → Appends was made before after bytes → Feeds old (parser c after made ended there wanted lack ms failed) bytes
fed old c before after was made ended there wanted lack ms failed bytes e n f a =
    subst (λ (z : Parser). Feeds z (parser c after made ended there wanted lack ms failed) bytes) e
    (subst (λ (z : Bool). Feeds (parser c before was z there wanted lack ms failed) (parser c after made z there wanted lack ms failed) bytes) (sym (ap (λ (p : Parser). p.ended) e ∙ n))
    (subst (λ (z : Option ParseError). Feeds (parser c before was false there wanted lack ms z) (parser c after made false there wanted lack ms z) bytes) (sym f)
    (subst (λ (z : List (ℕ × Text)). Feeds (parser c before was false there wanted lack ms None) (parser c z made false there wanted lack ms None) bytes) (sym a.appended)
    (feeds c before was made there wanted lack ms bytes a.made a.makes))))

pub supplied : (old : Parser) (c : Choices) (before after : List (ℕ × Text)) (made : RecordReader) (ended : Bool) (there : Reading) (wanted : Option Wanted) (was lack : Option Reason) (ms more : List (ℕ × Reason)) (failed : Option ParseError) (number : ℕ) (given : Supply)
    → parser c before made ended there wanted was ms failed ≡ old → failed ≡ None → after ≡ texts_with number given before → lack ≡ gone_after number given wanted was → more ≡ with_missing number (why_gone given) ms
    → Supplies old (parser c after made ended there None lack more failed) number given
supplied old c before after made ended there wanted was lack ms more failed number given e f t g m =
    subst (λ (z : Parser). Supplies z (parser c after made ended there None lack more failed) number given) e
    (subst (λ (z : Option ParseError). Supplies (parser c before made ended there wanted was ms z) (parser c after made ended there None lack more z) number given) (sym f)
    (subst (λ (z : List (ℕ × Text)). Supplies (parser c before made ended there wanted was ms None) (parser c z made ended there None lack more None) number given) (sym t)
    (subst (λ (z : Option Reason). Supplies (parser c before made ended there wanted was ms None) (parser c (texts_with number given before) made ended there None z more None) number given) (sym g)
    (subst (λ (z : List (ℕ × Reason)). Supplies (parser c before made ended there wanted was ms None) (parser c (texts_with number given before) made ended there None (gone_after number given wanted was) z None) number given) (sym m)
    (supplies c before made ended there wanted was ms number given)))))
