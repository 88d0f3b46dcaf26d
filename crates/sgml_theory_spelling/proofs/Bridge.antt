-- What is answered on the stack of texts is what is spelled there.
use Rattle.std.proofs.Common.{◌≡◌, ◌<◌, ℕ, suc, List, [], ◌∷◌, length, None, Result, Ok, Err, refl, sym, ap, subst, ◌∙◌, arith, map}
use Rattle.sgml_scan.specs.text.declared.reason.Reason.{Reason}
use Rattle.sgml_scan.specs.text.declared.reason.Reason.TheVariants as reason
use Rattle.sgml_theory_reading.specs.entity.Stack.{Stack, place_at}
use Rattle.sgml_theory_reading.specs.entity.Texts.{text_of}
use Rattle.sgml_theory_reading.specs.decl_parts.declared.ends.Construct.{Construct}
use Rattle.sgml_theory_reading.specs.decl_parts.declared.ends.Construct.TheVariants.{Declaration as Declaring}
use Rattle.sgml_theory_reading.specs.decl_lexemes.declared.lexeme.Lexeme.{Lexeme}
use Rattle.sgml_theory_reading.specs.decl_lexemes.declared.fault.Fault.{Fault}
use Rattle.sgml_theory_reading.specs.decl_lexemes.declared.fault.Fault.TheVariants.{Wanting, Refusing}
use Rattle.sgml_theory_reading.specs.decl_lexemes.declared.fault.LexError.{LexError}
use Rattle.sgml_theory_reading.specs.decl_lexemes.declared.fault.LexError.TheVariants.{Wanted, Refused}
use Rattle.sgml_theory_reading.specs.decl_lexemes.Sources.{Source, unread}
use Rattle.sgml_theory_reading.specs.decl_lexemes.Readings.{State, EndsWithQuote}
use Rattle.sgml_theory_reading.specs.decl_lexemes.Reads.{read_all, answered}
use Rattle.sgml_theory_reading.specs.decl_lexemes.Declares.{StandsAtStart, HasLexemes, StopsBy}
use Rattle.sgml_theory_reading.specs.decl_lexemes.Alike.{StacksAlike, Extends}
use Rattle.sgml_theory_reading.specs.decl_lexemes.Wholeness.{is_whole_in}
use Rattle.sgml_theory_reading.proofs.decl_lexemes.Alike.{length-alike, unread-alike}
use Rattle.sgml_theory_reading.proofs.decl_lexemes.Independent.{also-read, also-refused}
use Rattle.sgml_theory_reading.proofs.decl_lexemes.Lacking.{also-wanted}
use Rattle.sgml_theory_reading.proofs.decl_lexemes.Running.{read_is}
use Rattle.sgml_theory_reading.proofs.decl_lexemes.Wholly.{alike-whole}
use Rattle.sgml_theory_reading.specs.dtd.Doctypes.{Doctype}
use Rattle.sgml_theory_reading.specs.Unread.{Outside}
use Rattle.sgml_theory_spelling.specs.Stacked.{Stacked}
use Rattle.sgml_theory_spelling.specs.Texts.{texts_of, stack_of, source_of, missing_entity, fault_reason}
use Rattle.sgml_theory_spelling.specs.Declared.{Lexed, lexed_by, lexed, is_whole}

-- AN ANSWER, as it is spelled

abbrev lexed-of : Outside → Doctype → Result (List Lexeme) LexError → Stack → Result Lexed Reason
lexed-of outside d (Ok ds) s = Ok (record { lexemes = ds; spent = s.spent })
lexed-of outside d (Err (Wanted n)) s = Err (fault_reason outside d (Wanting n))
lexed-of outside d (Err (Refused r)) s = Err r
lexed-of outside d (Err _) s = Err reason.Unclosed

shown : (outside : Outside) (d : Doctype) (z : Stack) (x : Result State Fault) → lexed_by outside d x ≡ lexed-of outside d (answered z x).0 (answered z x).1
shown outside d z (Ok u) = refl
shown outside d z (Err (Wanting n)) = refl
shown outside d z (Err (Refusing r)) = refl

answer-spelled : (outside : Outside) (d : Doctype) (z t : Stack) (x : Result State Fault) (a : Result (List Lexeme) LexError) → answered z x ≡ (a, t) → lexed_by outside d x ≡ lexed-of outside d a t
answer-spelled outside d z t x a e = shown outside d z x ∙ ap (λ (p : Result (List Lexeme) LexError × Stack). lexed-of outside d p.0 p.1) e

-- THE BRIDGE: on a stack that is alike, with texts that are among those that there are

height-of : (c : Construct) (outside : Outside) (d : Doctype) (t : Stacked) (own : List ℕ) → (source_of c outside d t own).height ≡ length (stack_of outside d t).places
unfolding source_of stack_of
height-of c outside d t own = counted t.entities
  where
    counted : (ns : List ℕ) → length ns ≡ length (map (λ n. place_at n 0) ns)
    counted [] = refl
    counted (n ∷ ns) = ap suc (counted ns)

begins-of : (c : Construct) (outside : Outside) (d : Doctype) (t : Stacked) (own : List ℕ) (I : Source) (s : Stack)
    → Extends I (source_of c outside d t own) → StacksAlike I (source_of c outside d t own) s (stack_of outside d t) → 0 < length s.places → I.height ≡ length s.places → EndsWithQuote c (unread I s.places)
    → StandsAtStart (source_of c outside d t own) (stack_of outside d t)
unfolding source_of
begins-of c outside d t own I s x a some height quote =
    let J = source_of c outside d t own in
    let z = stack_of outside d t in
    let e = length-alike I J s z a in
    record {
      some = omega (arith, e, some);
      height = height-of c outside d t own;
      quote = subst (EndsWithQuote c) (unread-alike I J s.places z.places a.places some (omega (arith, height))) quote;
    }

pub read-is-lexed : (c : Construct) (outside : Outside) (d : Doctype) (t : Stacked) (own : List ℕ) (I : Source) (s : Stack) (ds : List Lexeme) (after : Stack)
    → Extends I (source_of c outside d t own) → StacksAlike I (source_of c outside d t own) s (stack_of outside d t) → 0 < length s.places → I.height ≡ length s.places → EndsWithQuote c (unread I s.places)
    → HasLexemes I s ds after → lexed c outside d t own ≡ Ok (record { lexemes = ds; spent = after.spent })
unfolding lexed
read-is-lexed c outside d t own I s ds after x a some height quote h =
    let J = source_of c outside d t own in
    let z = stack_of outside d t in
    let k = also-read I J s z ds after x a some height h in
    answer-spelled outside d z k.stack (read_all J z) (Ok ds) ((read_is J z (begins-of c outside d t own I s x a some height quote) (Ok ds) k.stack).0 k.lexemes)
    ∙ ap (λ n. Ok (record { lexemes = ds; spent = n })) (sym k.alike.spent)

pub refused-is-lexed : (c : Construct) (outside : Outside) (d : Doctype) (t : Stacked) (own : List ℕ) (I : Source) (s : Stack) (r : Reason)
    → Extends I (source_of c outside d t own) → StacksAlike I (source_of c outside d t own) s (stack_of outside d t) → 0 < length s.places → I.height ≡ length s.places → EndsWithQuote c (unread I s.places)
    → StopsBy I s (Refusing r) → lexed c outside d t own ≡ Err r
unfolding lexed
refused-is-lexed c outside d t own I s r x a some height quote h =
    let J = source_of c outside d t own in
    let z = stack_of outside d t in
    answer-spelled outside d z z (read_all J z) (Err (Refused r))
    ((read_is J z (begins-of c outside d t own I s x a some height quote) (Err (Refused r)) z).0 (also-refused I J s z r x a some height h, refl))

-- the end of a declaration is reached there, or isn't, where it is refused
pub refused-is-whole : (c : Construct) (outside : Outside) (d : Doctype) (t : Stacked) (own : List ℕ) (I : Source) (s : Stack) (r : Reason) → c ≡ Declaring
    → Extends I (source_of c outside d t own) → StacksAlike I (source_of c outside d t own) s (stack_of outside d t) → 0 < length s.places → I.height ≡ length s.places → EndsWithQuote I.construct (unread I s.places)
    → StopsBy I s (Refusing r) → is_whole outside d t own ≡ is_whole_in I s
unfolding is_whole
refused-is-whole c outside d t own I s r is x a some height quote h =
    ap (λ (k : Construct). is_whole_in (source_of k outside d t own) (stack_of outside d t)) (sym is)
    ∙ alike-whole I (source_of c outside d t own) s (stack_of outside d t) r x a some height quote h

-- a text that the reader wants, and that isn't there
pub wanted-is-lexed : (c : Construct) (outside : Outside) (d : Doctype) (t : Stacked) (own : List ℕ) (I : Source) (s : Stack) (m : ℕ)
    → Extends I (source_of c outside d t own) → StacksAlike I (source_of c outside d t own) s (stack_of outside d t) → 0 < length s.places → I.height ≡ length s.places → EndsWithQuote c (unread I s.places)
    → text_of (texts_of outside d.entities) m ≡ None → StopsBy I s (Wanting m) → lexed c outside d t own ≡ Err (missing_entity outside d m)
unfolding lexed source_of
wanted-is-lexed c outside d t own I s m x a some height quote lacks h =
    let J = source_of c outside d t own in
    let z = stack_of outside d t in
    answer-spelled outside d z z (read_all J z) (Err (Wanted m))
    ((read_is J z (begins-of c outside d t own I s x a some height quote) (Err (Wanted m)) z).0 (also-wanted I J s z m x a some height lacks h, refl))
