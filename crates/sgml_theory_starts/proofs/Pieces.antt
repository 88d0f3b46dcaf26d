-- What is told of a start by numbers is that of the piece.
use Rattle.std.proofs.Common.{◌≡◌, ◌≤◌, ◌+◌, ◌-◌, ◌∷◌, ◌||◌, ℕ, Bool, List, [], Option, Some, None, option_and_then, Ok, refl, sym, ap, ◌∙◌, subst, arith, length, map}
use Rattle.std.specs.List.{list_any, slice_get}
use Rattle.std.specs.Option.{option_or}
use Rattle.std.proofs.lemmas.List.{length-take-le}
use Rattle.sgml_starts.specs.text.declared.reason.Reason.{Reason}
use Rattle.sgml_starts.specs.entity.Stack.{moved}
use Rattle.sgml_starts.specs.markup.Forms.{parts_of_tag}
use Rattle.sgml_starts.specs.attr.declared.definition.Default.{Default}
use Rattle.sgml_starts.specs.attr.declared.definition.Default.TheVariants as default
use Rattle.sgml_starts.specs.attr.declared.definition.Definition.{Definition}
use Rattle.sgml_starts.specs.attr.declared.definition.Spec.{Spec}
use Rattle.sgml_starts.specs.attr.Matching.{attribute_of}
use Rattle.sgml_starts.specs.dtd.Doctypes.{Doctype}
use Rattle.sgml_starts.specs.declared.error.StartError.{StartError}
use Rattle.sgml_starts.specs.declared.error.StartError.TheVariants as error
use Rattle.sgml_starts.specs.declared.starts.StartValues.{StartValues}
use Rattle.sgml_starts.specs.Rows.{reason_of_specs}
use Rattle.sgml_starts.specs.Specified.{Specified, specified}
use Rattle.sgml_starts.specs.Starts.{start_of, HasValues}
use Rattle.sgml_starts.specs.Starts as by_number
use Rattle.sgml_starts.specs.Values.{Start, refused, is_conref, is_conref_at, reason_of_defaults}
use Rattle.sgml_starts.specs.Values as numbered
use Rattle.sgml_starts.proofs.Parts.{parts-good}
use Rattle.sgml_declared.specs.theory_reading.Names.{Name, Text}
use Rattle.sgml_declared.specs.theory_reading.Types.{attributes, content_of, type_of, definition_of, default_is, is_conref_default, has_conref}
use Rattle.sgml_declared.specs.theory_reading.Pieces.{Specification, How}
use Rattle.sgml_declared.specs.theory_reading.Pieces as pieces
use Rattle.sgml_declared.specs.theory_reading.Facets.{turn, declares}
use Rattle.sgml_declared.specs.theory_reading.Characters.{is_void, is_conref_of, ends_at_once}
use Rattle.sgml_declared.specs.theory_reading.Currents.{AreCurrents}
use Rattle.sgml_declared.specs.theory_reading.Unread.{Outside}
use Rattle.sgml_declared.specs.theory_reading.State.{State}
use Rattle.sgml_declared.specs.theory_spelling.Attributes.{definition_named, unvalued}
use Rattle.sgml_declared.specs.theory_spelling.Named.{AreApart}
use Rattle.sgml_declared.specs.theory_spelling.References.{missing}
use Rattle.sgml_declared.specs.theory_spelling.Tags.{Specifications, attribute_named, element_of, specifications_of}
use Rattle.sgml_declared.proofs.theory_spelling.Named.{named-is-numbered}
use Rattle.sgml_declared.specs.theory_standing.Kept.{Kept, sources_of, kept_after}
use Rattle.sgml_declared.specs.theory_standing.Next.{after}
use Rattle.sgml_theory_starts.specs.Starts.{Table, by_name, start_named, AreThoseRead}
use Rattle.sgml_theory_starts.specs.Read.{AreSpecified, AreSpecifiedSo, SpecifiesSo, refused_for}
use Rattle.sgml_theory_starts.proofs.One.{are-named, are-one}
use Rattle.sgml_theory_starts.proofs.Read.{tags-are-read}
use Rattle.sgml_theory_starts.proofs.Refused.{begun-is-refused}
use Rattle.sgml_theory_starts.proofs.Valued.{all-read}
use Rattle.sgml_declared.specs.Files.{Choices}
use Rattle.sgml_declared.specs.Taking.{rest_at_top, stacked_on, IsAround}
use Rattle.sgml_theory_starts.specs.There.{tag_at, IsTagThere, input_at, tag_kind, tag_piece}
use Rattle.sgml_theory_starts.specs.Valued.{IsStartOf, IsValued, IsTextWanted, IsTagValued, TagsAreValued, TagsAreUnvalued, StartsAreValued, StartsAreUnvalued}
use Rattle.sgml_theory_starts.proofs.Answered.{literals-are-read}
use Rattle.sgml_theory_starts.proofs.Walked.{grows, lacks}

-- THE START by its name
record IsHere (s : State) (S : Start) (table : Table) (n : Name) : Type 0 where
  pub same : S ≡ start_named s.context.doctype n table
  pub apart : AreApart (attributes s.context.doctype n)
  pub currents : AreCurrents s.context.doctype table s.currents

here : (s : State) (k : Kept) (element : ℕ) (table : Table) (n : Name) → IsStartOf s k element table n → IsHere s (start_of k.doctype.syntax k.doctype element table) table n
here s k element table n h = record {
  same = are-named k.doctype element h.type table h.stands
      ∙ ap (λ m. start_named k.doctype m table) h.named
      ∙ ap (λ d. start_named d n table) (sym h.doctype);
  apart = subst (λ d. AreApart (attributes d n)) (sym h.doctype) h.apart;
  currents = subst (λ d. AreCurrents d table s.currents) (sym h.doctype) h.currents;
}

-- REASONS
unrefused : (o : Option Reason) → None ≡ refused o → o ≡ None
unrefused None e = refl
unrefused (Some r) e = absurd (cc e)

refused-is : (o : Option Reason) (r : Reason) → Some (error.Refused r) ≡ refused o → o ≡ Some r
refused-is None r e = absurd (cc e)
refused-is (Some q) r e = cc e

-- of what was read first, of what stopped it, and of the definitions
abbrev first_of : Option Reason → Option StartError → Option Reason → Option StartError
first_of a o b = option_or (refused a) (option_or o (refused b))

no-stop : (a : Option Reason) (o : Option StartError) (b : Option Reason) → first_of a o b ≡ None → o ≡ None
no-stop None None b e = refl
no-stop None (Some x) b e = absurd (cc e)
no-stop (Some r) o b e = absurd (cc e)

before-want : (a : Option Reason) (m : ℕ) (b : Option Reason) (r : Reason) → first_of a (Some (error.Wanted m)) b ≡ Some (error.Refused r) → a ≡ Some r
before-want None m b r e = absurd (cc e)
before-want (Some q) m b r e = cc e

before-memory : (a : Option Reason) (b : Option Reason) (r : Reason) → first_of a (Some error.Memory) b ≡ Some (error.Refused r) → a ≡ Some r
before-memory None b r e = absurd (cc e)
before-memory (Some q) b r e = cc e

record Wants (a : Option Reason) (o : Option StartError) (m : ℕ) : Type 0 where
  pub first : a ≡ None
  pub stop : o ≡ Some (error.Wanted m)

wants : (a : Option Reason) (o : Option StartError) (b : Option Reason) (m : ℕ) → first_of a o b ≡ Some (error.Wanted m) → Wants a o m
wants None None None m e = absurd (cc e)
wants None None (Some r) m e = absurd (cc e)
wants None (Some x) b m e = record { first = refl; stop = e }
wants (Some r) o b m e = absurd (cc e)

-- WHETHER IT ENDS AT ONCE
same-conref : (x : Default) → is_conref x ≡ is_conref_default x
same-conref (default.Value u) = refl
same-conref (default.Fixed u) = refl
same-conref default.Required = refl
same-conref default.Current = refl
same-conref default.Conref = refl
same-conref default.Implied = refl

conref-in : (o : Option Definition) → is_conref_at o ≡ default_is is_conref_default o
conref-in None = refl
conref-in (Some x) = same-conref x.default

conref-named : (d : Doctype) (n : Name) (a : Option Name) → is_conref_at (definition_named d n a) ≡ is_conref_of d n a
unfolding has_conref
conref-named d n None = refl
conref-named d n (Some a) = conref-in (definition_of d n a)

conref-one : (d : Doctype) (n : Name) (s : Spec) → AreApart (attributes d n)
    → is_conref_at (option_and_then (slice_get (attributes d n)) (attribute_of d.syntax (attributes d n) s)) ≡ is_conref_of d n (by_name d n s).attribute
conref-one d n s apart =
    ap is_conref_at (sym (named-is-numbered d n s.name s.value apart)) ∙ conref-named d n (attribute_named d (attributes d n) s.name (Ok s.value))

conref-any : (d : Doctype) (n : Name) (ss : List Spec) → AreApart (attributes d n)
    → list_any (λ (s : Spec). is_conref_at (option_and_then (slice_get (attributes d n)) (attribute_of d.syntax (attributes d n) s))) ss
    ≡ list_any (λ (s : Specification). is_conref_of d n s.attribute) (map (by_name d n) ss)
conref-any d n [] apart = refl
conref-any d n (s ∷ ss) apart =
    ap (λ t. t || list_any (λ (u : Spec). is_conref_at (option_and_then (slice_get (attributes d n)) (attribute_of d.syntax (attributes d n) u))) ss) (conref-one d n s apart)
    ∙ ap (λ t. is_conref_of d n (by_name d n s).attribute || t) (conref-any d n ss apart)

ends : (d : Doctype) (n : Name) (specs : List Spec) (ss : List Specification) (conref : Bool) → AreApart (attributes d n) → ss ≡ map (by_name d n) specs
    → conref ≡ list_any (λ (s : Spec). is_conref_at (option_and_then (slice_get (attributes d n)) (attribute_of d.syntax (attributes d n) s))) specs
    → ends_at_once d n ss ≡ (is_void (content_of (type_of d n)) || conref)
unfolding ends_at_once
ends d n specs ss conref apart is told =
    ap (λ xs. is_void (content_of (type_of d n)) || list_any (λ (s : Specification). is_conref_of d n s.attribute) xs) is
    ∙ ap (λ t. is_void (content_of (type_of d n)) || t) (sym (conref-any d n specs apart) ∙ sym told)

-- ITS VALUES
is-valued : (s : State) (S : Start) (table new : Table) (n : Name) (all : Specified) (ss : List Specification) (how : How) (proper at_once : Bool) (told : StartValues)
    → IsHere s S table n → AreThoseRead s.context.doctype n all.specs all.stop ss → HasValues S all told new → IsValued s n ss how proper at_once told new
is-valued s S table new n all ss how proper at_once told h those has =
    let d : Doctype = s.context.doctype in
    let v : HasValues (start_named d n table) all told new = subst (λ (x : Start). HasValues x all told new) h.same has in
    let one = are-one s n table all ss how proper at_once h.apart h.currents those in
    let read : ss ≡ map (by_name d n) all.specs = all-read s n table all.specs all.stop all.spent ss those v.none in
    record {
      no_reason = unrefused (unvalued s (pieces.Start n ss how proper at_once)) (sym v.none ∙ one.reason);
      as_many = v.values.as_many;
      values = one.values told.values v.none v.values;
      currents = one.currents told.values new v.none v.values v.currents;
      ends = ends d n all.specs ss told.conref h.apart read v.conref;
    }

is-refused : (s : State) (S : Start) (table : Table) (n : Name) (all : Specified) (ss : List Specification) (how : How) (proper at_once : Bool) (r : Reason)
    → IsHere s S table n → AreThoseRead s.context.doctype n all.specs all.stop ss → numbered.unvalued S all ≡ Some (error.Refused r)
    → unvalued s (pieces.Start n ss how proper at_once) ≡ Some r
is-refused s S table n all ss how proper at_once r h those e =
    let one = are-one s n table all ss how proper at_once h.apart h.currents those in
    refused-is (unvalued s (pieces.Start n ss how proper at_once)) r (sym e ∙ ap (λ (x : Start). numbered.unvalued x all) h.same ∙ one.reason)

-- A TAG
module _ (c : Choices) (outside : Outside) (s : State) (k : Kept) (texts : List (ℕ × Text)) (element size : ℕ) (table : Table)
    (around : IsAround c outside (sources_of k) texts k.stack) (there : IsTagThere k texts size)
    (start : IsStartOf s k element table (element_of k.doctype (tag_at k texts size))) where
  abbrev d : Doctype
  d = s.context.doctype

  abbrev tag : Text
  tag = tag_at k texts size

  abbrev n : Name
  n = element_of s.context.doctype (tag_at k texts size)

  abbrev all : Specified
  all = specified (input_at k texts) (Some size)

  abbrev is : Specifications
  is = specifications_of outside s.context.doctype (stacked_on k.stack) (tag_at k texts size)

  abbrev S : Start
  S = start_of k.doctype.syntax k.doctype element table

  specifies : SpecifiesSo (missing outside (sources_of k)) d n all is
  specifies =
      subst (λ (e : Doctype). SpecifiesSo (missing outside (sources_of k)) e (element_of e tag) all (specifications_of outside e (stacked_on k.stack) tag)) (sym start.doctype)
      (tags-are-read (missing outside (sources_of k)) (input_at k texts) outside k.doctype (stacked_on k.stack) size refl refl (literals-are-read c outside k texts size around there))

  named : IsHere s S table n
  named = subst (λ (e : Doctype). IsHere s S table (element_of e tag)) (sym start.doctype) (here s k element table (element_of k.doctype tag) start)

  abbrev first_reason : Option Reason
  first_reason = reason_of_specs S.syntax S.tables S.definitions [] all.specs

  abbrev last_reason : Option Reason
  last_reason = reason_of_defaults S all.specs 0 S.definitions

  read-whole : all.stop ≡ None → AreSpecified d n all is
  read-whole none = subst (λ o. AreSpecifiedSo (missing outside (sources_of k)) d n o all is) none specifies.told

  -- where the stack stands
  long-enough : k.stack.spent ≤ all.spent
  long-enough = grows (input_at k texts) tag there.some (parts_of_tag k.doctype.syntax tag) (parts-good tag k.doctype.syntax) None k.stack.spent

  same-stack : (levels spent size' : ℕ) → k.stack.levels ≡ levels → all.spent ≡ spent → size ≡ size'
      → record k.stack { spent = all.spent; places = moved size k.stack.places } ≡ record { levels = levels; expand = k.stack.expand; spent = spent; places = moved size' k.stack.places }
  same-stack levels spent size' a b e =
      ap (λ (x : ℕ). record { levels = x; expand = k.stack.expand; spent = all.spent; places = moved size k.stack.places }) a
      ∙ ap (λ (x : ℕ). record { levels = levels; expand = k.stack.expand; spent = x; places = moved size k.stack.places }) b
      ∙ ap (λ (x : ℕ). record { levels = levels; expand = k.stack.expand; spent = spent; places = moved x k.stack.places }) e

  stands-after : (how : How) (proper at_once : Bool) → all.spent ≡ is.spent
      → by_number.after k.stack all.spent (Some size) ≡ (after outside (tag_piece outside s (stacked_on k.stack) tag how proper at_once) k).stack
  unfolding kept_after turn declares
  stands-after how proper at_once spent =
      let low : k.stack.spent ≤ all.spent = long-enough in
      let sum : all.spent ≡ k.stack.spent + ((is.spent - k.stack.spent) + 0) = omega (arith, low, spent) in
      same-stack k.doctype.syntax.quantities.entlvl (k.stack.spent + ((is.spent - k.stack.spent) + 0)) (length tag) around.levels sum
      (sym (length-take-le size (rest_at_top k.doctype.entities texts k.stack) there.within))

  tag-valued : (how : How) (proper at_once : Bool) (told : StartValues) (new : Table) → HasValues S all told new → IsTagValued outside s k texts size how proper at_once told new
  tag-valued how proper at_once told new has =
      let none : all.stop ≡ None = no-stop first_reason all.stop last_reason has.none in
      let whole : AreSpecified d n all is = read-whole none in
      record {
        valued = is-valued s S table new n all is.specifications how proper at_once told named whole.those has;
        stack = stands-after how proper at_once (whole.spent none);
      }

  -- why it has no values
  begun-refused : (how : How) (proper at_once : Bool) (r : Reason) → first_reason ≡ Some r → unvalued s (tag_kind outside s (stacked_on k.stack) tag how proper at_once) ≡ Some r
  begun-refused how proper at_once r e =
      begun-is-refused s n all.specs is.specifications how proper at_once r named.apart specifies.begun
      (sym (ap (λ (x : Start). reason_of_specs x.syntax x.tables x.definitions [] all.specs) named.same) ∙ e)

  refused-by : (o : Option StartError) (how : How) (proper at_once : Bool) (r : Reason) → all.stop ≡ o → AreSpecifiedSo (missing outside (sources_of k)) d n o all is
      → first_of first_reason o last_reason ≡ Some (error.Refused r) → unvalued s (tag_kind outside s (stacked_on k.stack) tag how proper at_once) ≡ Some r
  refused-by None how proper at_once r stop so e =
      is-refused s S table n all is.specifications how proper at_once r named so.those (ap (λ o. first_of first_reason o last_reason) stop ∙ e)
  refused-by (Some (error.Refused q)) how proper at_once r stop so e =
      is-refused s S table n all is.specifications how proper at_once r named so.those (ap (λ o. first_of first_reason o last_reason) stop ∙ e)
  refused-by (Some (error.Wanted m)) how proper at_once r stop so e = begun-refused how proper at_once r (before-want first_reason m last_reason r e)
  refused-by (Some error.Memory) how proper at_once r stop so e = begun-refused how proper at_once r (before-memory first_reason last_reason r e)

  tag-refused : (how : How) (proper at_once : Bool) (r : Reason) → numbered.unvalued S all ≡ Some (error.Refused r)
      → unvalued s (tag_kind outside s (stacked_on k.stack) tag how proper at_once) ≡ Some r
  tag-refused how proper at_once r e = refused-by all.stop how proper at_once r refl specifies.told e

  -- were the text missing
  refused-so : (how : How) (proper at_once : Bool) (m : ℕ) (r : Reason) → Wants first_reason all.stop m → missing outside (sources_of k) m ≡ Some r
      → unvalued s (tag_kind outside s (stacked_on k.stack) tag how proper at_once) ≡ Some r
  refused-so how proper at_once m r w gone =
      let so = subst (λ o. AreSpecifiedSo (missing outside (sources_of k)) d n o all is) w.stop specifies.told in
      let whole : AreSpecified d n (refused_for r all) is = so r gone in
      is-refused s S table n (refused_for r all) is.specifications how proper at_once r named whole.those
      (ap (λ a. first_of a (Some (error.Refused r)) last_reason) w.first)

  tag-wants : (how : How) (proper at_once : Bool) (m : ℕ) → numbered.unvalued S all ≡ Some (error.Wanted m)
      → IsTextWanted outside s k texts (tag_kind outside s (stacked_on k.stack) tag how proper at_once) m
  tag-wants how proper at_once m e =
      let w = wants first_reason all.stop last_reason m e in
      let gone = lacks (input_at k texts) tag there.some m (parts_of_tag k.doctype.syntax tag) (parts-good tag k.doctype.syntax) None k.stack.spent w.stop in
      record {
        declared = gone.declared;
        unread = gone.unread;
        absent = gone.absent;
        refused = λ r lost. refused-so how proper at_once m r w lost;
      }

pub tags-are-valued : TagsAreValued
tags-are-valued c outside s k texts element size table new how proper at_once told around there start has =
    tag-valued c outside s k texts element size table around there start how proper at_once told new has

pub tags-are-unvalued : TagsAreUnvalued
tags-are-unvalued c outside s k texts element size table how proper at_once (error.Refused r) around there start e =
    tag-refused c outside s k texts element size table around there start how proper at_once r e
tags-are-unvalued c outside s k texts element size table how proper at_once (error.Wanted m) around there start e =
    tag-wants c outside s k texts element size table around there start how proper at_once m e
tags-are-unvalued c outside s k texts element size table how proper at_once error.Memory around there start e = tt

-- A START THAT SPECIFIES NOTHING
pub starts-are-valued : StartsAreValued
starts-are-valued s k I element table new n how proper at_once told start has =
    is-valued s (start_of k.doctype.syntax k.doctype element table) table new n (specified I None) [] how proper at_once told (here s k element table n start) refl has

no-want : (a : Option Reason) (m : ℕ) → refused a ≡ Some (error.Wanted m) → ⊥
no-want None m e = cc e
no-want (Some r) m e = cc e

pub starts-are-unvalued : StartsAreUnvalued
starts-are-unvalued s k I element table n how proper at_once (error.Refused r) start e =
    is-refused s (start_of k.doctype.syntax k.doctype element table) table n (specified I None) [] how proper at_once r (here s k element table n start) refl e
starts-are-unvalued s k I element table n how proper at_once (error.Wanted m) start e =
    no-want (reason_of_defaults (start_of k.doctype.syntax k.doctype element table) [] 0 (start_of k.doctype.syntax k.doctype element table).definitions) m e
starts-are-unvalued s k I element table n how proper at_once error.Memory start e = tt
