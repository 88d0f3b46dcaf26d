-- What is read of a declaration, a section start, the end of a document type or a literal opens texts, and closes none that
-- counts: the sum of the lengths of what was opened never falls.
use Rattle.std.proofs.Common.{ℕ, zero, suc, Bool, true, false, ◌≤◌, List, Result, Ok, Err, arith}
use Rattle.sgml_io.specs.text.declared.reason.Reason.{Reason}
use Rattle.sgml_theory_spelling.specs.entity.Stack.{Stack}
use Rattle.sgml_theory_spelling.specs.decl_parts.declared.part.Part.{Part}
use Rattle.sgml_theory_spelling.specs.decl_parts.declared.part.Part.TheVariants as p
use Rattle.sgml_theory_spelling.specs.decl_parts.declared.ends.Construct.{Construct}
use Rattle.sgml_theory_spelling.specs.decl_lexemes.declared.fault.Fault.{Fault}
use Rattle.sgml_theory_spelling.specs.decl_lexemes.declared.fault.Reached.{Reached}
use Rattle.sgml_theory_spelling.specs.decl_lexemes.declared.fault.Reached.TheVariants.{Opens, PutsText, PutsData, Fails}
use Rattle.sgml_theory_spelling.specs.decl_lexemes.Sources.{Source}
use Rattle.sgml_theory_spelling.specs.decl_lexemes.Readings.{State, ahead, after, referred, reached_from, next_part, closes, start}
use Rattle.sgml_theory_spelling.specs.decl_lexemes.Reads.{left, unless_end, with_part, read_on, read_all}
use Rattle.sgml_theory_spelling.specs.dtd.Doctypes.{Doctype}
use Rattle.sgml_theory_spelling.specs.theory_reading.Unread.{Outside}
use Rattle.sgml_theory_spelling.specs.Stacked.{Stacked}
use Rattle.sgml_theory_spelling.specs.Texts.{stack_of, source_of}
use Rattle.sgml_theory_spelling.specs.Declared.{Lexed, lexed_by, lexed}

same : (n : ℕ) → n ≤ n
same n = omega arith

referred-more : (I : Source) (m : ℕ) (t : State) (x : Reached) → t.stack.spent ≤ (referred I m t x).stack.spent
referred-more I m t (Opens entity size) = omega arith
referred-more I m t (PutsText n) = same t.stack.spent
referred-more I m t (PutsData n) = same t.stack.spent
referred-more I m t (Fails fault) = same t.stack.spent

after-more : (I : Source) (bytes : List ℕ) (x : Part) (t : State) → t.stack.spent ≤ (after I bytes x t).stack.spent
after-more I bytes (p.Gap n) t = same t.stack.spent
after-more I bytes (p.Name n) t = same t.stack.spent
after-more I bytes (p.Token n) t = same t.stack.spent
after-more I bytes (p.Reserved n) t = same t.stack.spent
after-more I bytes (p.Sign d) t = same t.stack.spent
after-more I bytes (p.Quote b) t = same t.stack.spent
after-more I bytes p.EndQuote t = same t.stack.spent
after-more I bytes (p.Data n) t = same t.stack.spent
after-more I bytes (p.Char n u) t = same t.stack.spent
after-more I bytes (p.NoChar n) t = same t.stack.spent
after-more I bytes (p.Refer n m) t = referred-more I m t (reached_from I bytes t n)
after-more I bytes p.TextEnd t = same t.stack.spent
after-more I bytes p.Closing t = same t.stack.spent

abbrev ReadMore : ℕ → Result State Fault → Type 0
ReadMore n (Ok u) = n ≤ u.stack.spent
ReadMore n (Err fault) = Unit {0}

read-longer : (m n : ℕ) (x : Result State Fault) → m ≤ n → ReadMore n x → ReadMore m x
read-longer m n (Ok u) l k = omega (arith, l, k)
read-longer m n (Err fault) l k = tt

ended-more : (t : Bool) (go_on : State → Result State Fault) (u : State) → ((v : State) → ReadMore v.stack.spent (go_on v)) → ReadMore u.stack.spent (unless_end t go_on u)
ended-more true go_on u f = same u.stack.spent
ended-more false go_on u f = f u

part-more : (I : Source) (t : State) (go_on : State → Result State Fault) (x : Result Part Fault) → ((v : State) → ReadMore v.stack.spent (go_on v))
    → ReadMore t.stack.spent (with_part I t go_on x)
part-more I t go_on (Err fault) f = tt
part-more I t go_on (Ok x) f =
    let u = after I (ahead I t) x t in
    read-longer t.stack.spent u.stack.spent (unless_end (closes I.construct x) go_on u) (after-more I (ahead I t) x t)
    (ended-more (closes I.construct x) go_on u f)

on-more : (n : ℕ) (I : Source) (t : State) → ReadMore t.stack.spent (read_on n I t)
on-more zero I t = tt
on-more (suc n) I t = part-more I t (λ u. read_on n I u) (next_part I t) (λ u. on-more n I u)

all-more : (I : Source) (s : Stack) → ReadMore s.spent (read_all I s)
unfolding read_all
all-more I s = on-more (suc (left I (start I s).stack)) I (start I s)

abbrev pub LexedMore : ℕ → Result Lexed Reason → Type 0
LexedMore n (Ok x) = n ≤ x.spent
LexedMore n (Err r) = Unit {0}

by-more : (outside : Outside) (d : Doctype) (n : ℕ) (x : Result State Fault) → ReadMore n x → LexedMore n (lexed_by outside d x)
by-more outside d n (Ok u) l = l
by-more outside d n (Err fault) l = tt

pub lexed-more : (c : Construct) (outside : Outside) (d : Doctype) (t : Stacked) (own : List ℕ) → LexedMore t.spent (lexed c outside d t own)
unfolding lexed stack_of
lexed-more c outside d t own =
    by-more outside d t.spent (read_all (source_of c outside d t own) (stack_of outside d t)) (all-more (source_of c outside d t own) (stack_of outside d t))
