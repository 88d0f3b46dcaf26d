-- What a tag specifies is what is spelled of it.
use Rattle.std.proofs.Common.{◌≡◌, ℕ, List, [], ◌∷◌, Option, Some, None, refl, sym, ap, subst, ◌∙◌, Ok, Err, Result}
use Rattle.sgml_starts.specs.syntax.declared.syntax.Syntax.{Syntax}
use Rattle.sgml_starts.specs.text.declared.reason.Reason.{Reason}
use Rattle.sgml_starts.specs.text.Units.{characters}
use Rattle.sgml_starts.specs.markup.declared.kinds.Part.{Part}
use Rattle.sgml_starts.specs.markup.declared.kinds.PartKind.{PartKind}
use Rattle.sgml_starts.specs.markup.declared.kinds.PartKind.TheVariants as part
use Rattle.sgml_starts.specs.markup.Tags.{bytes_of}
use Rattle.sgml_starts.specs.markup.Forms.{parts_of_tag}
use Rattle.sgml_starts.specs.entity.Stack.{Stack}
use Rattle.sgml_starts.specs.decl_lexemes.declared.lexeme.Lexeme.{Lexeme}
use Rattle.sgml_starts.specs.decl_lexemes.declared.fault.LexError.{LexError}
use Rattle.sgml_starts.specs.decl_lexemes.declared.fault.LexError.TheVariants as lex
use Rattle.sgml_starts.specs.decl_lexemes.Readings.{value_of}
use Rattle.sgml_starts.specs.decl_lexemes.Reads.{answer}
use Rattle.sgml_starts.specs.attr.declared.definition.Spec.{Spec}
use Rattle.sgml_starts.specs.dtd.Doctypes.{Doctype}
use Rattle.sgml_starts.specs.declared.error.StartError.{StartError}
use Rattle.sgml_starts.specs.declared.error.StartError.TheVariants as error
use Rattle.sgml_starts.specs.Specified.{Input, Specified, specified_from, with_literal, tag_of}
use Rattle.sgml_starts.specs.Written as numbered
use Rattle.sgml_declared.specs.theory_reading.Names.{Name, Text}
use Rattle.sgml_declared.specs.theory_reading.Types.{attributes}
use Rattle.sgml_declared.specs.theory_reading.Pieces.{Specification}
use Rattle.sgml_declared.specs.theory_reading.Unread.{Outside}
use Rattle.sgml_declared.specs.theory_spelling.Stacked.{Stacked}
use Rattle.sgml_declared.specs.theory_spelling.Declared.{Lexed}
use Rattle.sgml_declared.specs.theory_spelling.Tags.{Specifications, Units, units_read, specification_of, with_first, with_spent, all_specified, element_of, specifications_of}
use Rattle.sgml_declared.specs.theory_spelling.Tags as spelled
use Rattle.sgml_theory_starts.specs.Starts.{by_name, AreThoseRead, AreBegun}
use Rattle.sgml_theory_starts.specs.Read.{AreSpecified, AreSpecifiedSo, SpecifiesSo, refused_for, literal_asked, literal_spelled, IsAnsweredSo, IsReadSo, AreReadSo, TagsAreRead}

-- one more of them
one-more : (d : Doctype) (n : Name) (s : Spec) (specs : List Spec) (stop : Option StartError) (ss : List Specification)
    → AreThoseRead d n specs stop ss → AreThoseRead d n (s ∷ specs) stop (by_name d n s ∷ ss)
one-more d n s specs None ss h = ap (λ v. by_name d n s ∷ v) h
one-more d n s specs (Some (error.Refused r)) ss (name, more, h) = (name, more, ap (λ v. by_name d n s ∷ v) h)
one-more d n s specs (Some (error.Wanted e)) ss h = absurd h
one-more d n s specs (Some error.Memory) ss h = absurd h

same-more : (d : Doctype) (n : Name) (s : Spec) (read : Specified) (is : Specifications)
    → AreSpecified d n read is → AreSpecified d n (record read { specs = s ∷ read.specs }) (with_first (by_name d n s) is)
same-more d n s read is same = record { those = one-more d n s read.specs read.stop is.specifications same.those; spent = same.spent }

same-more-so : (missing : ℕ → Option Reason) (d : Doctype) (n : Name) (s : Spec) (o : Option StartError) (read : Specified) (is : Specifications)
    → AreSpecifiedSo missing d n o read is → AreSpecifiedSo missing d n o (record read { specs = s ∷ read.specs }) (with_first (by_name d n s) is)
same-more-so missing d n s None read is same = same-more d n s read is same
same-more-so missing d n s (Some (error.Refused r)) read is same = same-more d n s read is same
same-more-so missing d n s (Some (error.Wanted e)) read is same = λ r m. same-more d n s (refused_for r read) is (same r m)
same-more-so missing d n s (Some error.Memory) read is same = tt

begun-more : (d : Doctype) (n : Name) (s : Spec) (specs : List Spec) (ss : List Specification) → AreBegun d n specs ss → AreBegun d n (s ∷ specs) (by_name d n s ∷ ss)
begun-more d n s specs ss (more, h) = (more, ap (λ v. by_name d n s ∷ v) h)

one-more-so : (missing : ℕ → Option Reason) (d : Doctype) (n : Name) (s : Spec) (read : Specified) (is : Specifications)
    → SpecifiesSo missing d n read is → SpecifiesSo missing d n (record read { specs = s ∷ read.specs }) (with_first (by_name d n s) is)
one-more-so missing d n s read is same = record {
  begun = begun-more d n s read.specs is.specifications same.begun;
  told = same-more-so missing d n s read.stop read is same.told;
}

-- one that is refused
never-none : (r : Reason) → Some (error.Refused r) ≡ None → ⊥
never-none r e = cc

refused-here : (d : Doctype) (n : Name) (name : Option Text) (spent : ℕ) (r : Reason) (more : Specifications)
    → AreSpecified d n (record { specs = []; stop = Some (error.Refused r); spent = spent }) (with_first (specification_of d (attributes d n) name (Err r)) more)
refused-here d n name spent r more = record { those = (name, more.specifications, refl); spent = λ e. absurd (never-none r e) }

-- a literal that is answered as it is spelled
literal-same : (missing : ℕ → Option Reason) (d : Doctype) (n : Name) (t : Stacked) (name : Option Text) (spent : ℕ) (a : Result (List Lexeme) LexError × Stack) (u : Result Lexed Reason)
    (more : ℕ → Specified) (rest : ℕ → Specifications) → IsAnsweredSo missing a u
    → ((k : ℕ) → SpecifiesSo missing d n (more k) (rest k))
    → SpecifiesSo missing d n (with_literal name spent more a)
    (with_first (specification_of d (attributes d n) name (units_read (with_spent t spent) u).units) (rest (units_read (with_spent t spent) u).spent))
literal-same missing d n t name spent (Ok ds, after) u more rest h again =
    rw h (one-more-so missing d n (record { name = name; value = value_of ds }) (more after.spent) (rest after.spent) (again after.spent))
literal-same missing d n t name spent (Err (lex.Refused r), after) u more rest h again =
    record { begun = (_, refl); told = rw h (refused-here d n name spent r (rest spent)) }
literal-same missing d n t name spent (Err (lex.Wanted e), after) u more rest h again =
    record { begun = (_, refl); told = λ r m. rw (h r m) (refused-here d n name spent r (rest spent)) }
literal-same missing d n t name spent (Err lex.NeedMore, after) u more rest h again = record { begun = (_, refl); told = tt }
literal-same missing d n t name spent (Err lex.Memory, after) u more rest h again = record { begun = (_, refl); told = tt }

-- by the kind of a part
module _ (missing : ℕ → Option Reason) (I : Input) (outside : Outside) (d : Doctype) (n : Name) (t : Stacked) (tag : Text) where
  abbrev GoesOn : List Part → Type 0
  GoesOn xs = (name : Option Text) (spent : ℕ)
      → SpecifiesSo missing d n (specified_from I spent (numbered.written_from tag name xs)) (all_specified outside d (attributes d n) (with_spent t spent) (spelled.written_from tag name xs))

  by-kind : (k : PartKind) (x : Part) (xs : List Part) (name : Option Text) (spent : ℕ) → x.kind ≡ k → IsReadSo missing I outside d t tag x → GoesOn xs
      → SpecifiesSo missing d n (specified_from I spent (numbered.written_at tag name x (λ m. numbered.written_from tag m xs) k))
      (all_specified outside d (attributes d n) (with_spent t spent) (spelled.written_at tag name x (λ m. spelled.written_from tag m xs) k))
  by-kind part.ElementName x xs name spent is read again = again None spent
  by-kind part.AttributeName x xs name spent is read again = again (Some (bytes_of tag x)) spent
  by-kind part.Bare x xs name spent is read again =
      one-more-so missing d n (record { name = name; value = characters (bytes_of tag x) }) (specified_from I spent (numbered.written_from tag None xs))
      (all_specified outside d (attributes d n) (with_spent t spent) (spelled.written_from tag None xs)) (again None spent)
  by-kind part.Quoted x xs name spent is read again =
      literal-same missing d n t name spent (answer (literal_asked I spent tag x)) (literal_spelled outside d t spent tag x)
      (λ k. specified_from I k (numbered.written_from tag None xs))
      (λ k. all_specified outside d (attributes d n) (with_spent t k) (spelled.written_from tag None xs)) (read is spent) (λ k. again None k)

  goes-on : (xs : List Part) → AreReadSo missing I outside d t tag xs → GoesOn xs
  goes-on [] h name spent = record { begun = ([], refl); told = record { those = refl; spent = λ e. refl } }
  goes-on (x ∷ xs) (one, more) name spent = by-kind x.kind x xs name spent refl one (goes-on xs more)

at-spent : (missing : ℕ → Option Reason) (I : Input) (outside : Outside) (d : Doctype) (n : Name) (t : Stacked) (tag : Text) (xs : List Part) (k : ℕ) → k ≡ t.spent
    → AreReadSo missing I outside d t tag xs
    → SpecifiesSo missing d n (specified_from I k (numbered.written_from tag None xs))
    (all_specified outside d (attributes d n) t (spelled.written_from tag None xs))
at-spent missing I outside d n t tag xs k e h =
    let read : Specified = specified_from I k (numbered.written_from tag None xs) in
    subst (λ (w : Stacked). SpecifiesSo missing d n read (all_specified outside d (attributes d n) w (spelled.written_from tag None xs)))
    (ap (with_spent t) e) (goes-on missing I outside d n t tag xs h None k)

all-same : (missing : ℕ → Option Reason) (I : Input) (outside : Outside) (d : Doctype) (t : Stacked) (tag : Text) (syntax : Syntax) → syntax ≡ d.syntax → I.stack.spent ≡ t.spent
    → AreReadSo missing I outside d t tag (parts_of_tag d.syntax tag)
    → SpecifiesSo missing d (element_of d tag)
    (specified_from I I.stack.spent (numbered.written syntax tag)) (specifications_of outside d t tag)
unfolding specifications_of
all-same missing I outside d t tag syntax same spent h =
    let all = all_specified outside d (attributes d (element_of d tag)) t (spelled.written_from tag None (parts_of_tag d.syntax tag)) in
    subst (λ (v : Syntax). SpecifiesSo missing d (element_of d tag)
    (specified_from I I.stack.spent (numbered.written v tag)) all)
    (sym same) (at-spent missing I outside d (element_of d tag) t tag (parts_of_tag d.syntax tag) I.stack.spent spent h)

pub tags-are-read : TagsAreRead
tags-are-read missing I outside d t size same spent h = all-same missing I outside d t (tag_of I size) I.syntax same spent h
