-- What is written of an instance has SGML characters alone.
use Rattle.std.proofs.Common.{◌≡◌, ℕ, Bool, true, false, ◌&&◌, ◌==◌, List, [], ◌∷◌, ◌++◌, flat_map, Some, None, if◌then◌else◌, refl, sym, ap, ◌∙◌, subst, append_assoc, append-nil, arith}
use Rattle.std.specs.Prelude.{decimal, codes}
use Rattle.std.proofs.lemmas.Bool.Decides.{nat_tests}
use Rattle.sgml_theory_writable.specs.sgml_theory_full.text.Characters.{is_sgml_character, all_sgml, is_digit}
use Rattle.sgml_theory_writable.specs.sgml_theory_full.syntax.declared.syntax.Syntax.{Syntax}
use Rattle.sgml_theory_writable.specs.sgml_theory_full.attr.declared.value.AttrValue.{AttrValue}
use Rattle.sgml_theory_writable.specs.sgml_theory_full.attr.declared.value.AttrValue.TheVariants as value
use Rattle.sgml_theory_writable.specs.sgml_theory_full.dtd.Doctypes.{Doctype}
use Rattle.sgml_theory_writable.specs.sgml_theory_full.full.declared.inside.Inside.TheVariants as inside
use Rattle.sgml_theory_writable.specs.sgml_theory_full.full.Full.{after_said}
use Rattle.sgml_theory_writable.specs.sgml_theory_full.full.Spelled.{has_map, is_itself, spelled_byte, number_reference, raw_byte, spelled_value, specification, specification_of, start_tag, end_tag, entity_reference}
use Rattle.sgml_theory_writable.specs.sgml_theory_full.theory_reading.Names.{Name, Text}
use Rattle.sgml_theory_writable.specs.sgml_theory_full.theory_reading.Types.{name_of_entity}
use Rattle.sgml_theory_writable.specs.sgml_theory_full.theory_reading.Pieces.{Piece, Kind, History, Finish, Char, End, Tag}
use Rattle.sgml_theory_writable.specs.sgml_theory_full.theory_reading.Facets.{is_finish, items_of}
use Rattle.sgml_theory_writable.specs.sgml_theory_full.theory_reading.Runs.{after_run}
use Rattle.sgml_theory_writable.specs.sgml_theory_full.theory_reading.Unread.{Input}
use Rattle.sgml_theory_writable.specs.sgml_theory_full.theory_reading.State.{State, state, after_piece}
use Rattle.sgml_theory_writable.specs.sgml_theory_full.theory_reading.Characters.{facts_in}
use Rattle.sgml_theory_writable.specs.sgml_theory_full.theory_reading.Reads.{Attribute, Move, ReadOn, moved_on, after_moves, ends_in_finish, pieces}
use Rattle.sgml_theory_writable.specs.sgml_theory_full.theory_reading.Events.{Event as Said, Started, Ended, Byte, SpecificData, External, Instruction, shown, told_by, events_at, events_of_run}
use Rattle.sgml_theory_writable.specs.sgml_theory_full.theory_reading.Outcome.{state_after}
use Rattle.sgml_theory_writable.proofs.sgml_theory_full.theory_reading.Steps.{state-step}
use Rattle.sgml_theory_writable.specs.sgml_theory_full.theory_spelling.Spelled.{forms}
use Rattle.sgml_theory_writable.specs.sgml_theory_full.Named.{AllAre, IsName, IsGeneralName, ValueIsWritten, AttributeIsWritten, IsWritten}
use Rattle.sgml_theory_writable.specs.sgml_theory_full.Spellings.{Spelling, spelling, line_end, raw, text_of, spellings_of, spellings}
use Rattle.sgml_theory_writable.specs.sgml_theory_full.Raw.{is_raw}
use Rattle.sgml_theory_writable.specs.sgml_theory_full.Conforming.{Within, InContent, AtEnd, InCdata, inside_for, within_after, EventsMayBe, IsOver}
use Rattle.sgml_theory_writable.specs.sgml_theory_full.Following.{Follows, IsReferring, ReadMayBeWritten}
use Rattle.sgml_theory_writable.specs.sgml_theory_full.Instances.{ReadToEnd, all_but_last, InstanceHolds}
use Rattle.sgml_theory_writable.proofs.sgml_theory_full.Plain.{true-false, all-append, all-of, small-number, name-characters, other-is-low}
use Rattle.sgml_theory_writable.proofs.sgml_theory_full.References.{digit-sgml, names-sgml}
use Rattle.sgml_theory_writable.proofs.sgml_theory_full.Literals.{own-tests, bits-sgml}
use Rattle.sgml_theory_writable.proofs.sgml_theory_full.Values.{value_bits, value-text, value-are, itself-is-own}
use Rattle.sgml_theory_writable.proofs.sgml_theory_full.Instances.{read-over, over-written}

-- TEXTS

both-sgml : (xs ys : List ℕ) → all_sgml xs ≡ true → all_sgml ys ≡ true → all_sgml (xs ++ ys) ≡ true
both-sgml xs ys h k = all-append is_sgml_character xs ys h k

name-sgml : (s : Syntax) (fold : Name → Name) (name : Name) → IsName s fold name → all_sgml name ≡ true
name-sgml s fold name h = names-sgml s.names name (name-characters s.names name h.is_name)

reference-sgml : (s : Syntax) (fold : Name → Name) (name : Name) → IsName s fold name → all_sgml (entity_reference name) ≡ true
reference-sgml s fold name h = both-sgml name (59 ∷ []) (name-sgml s fold name h) refl

end-tag-sgml : (s : Syntax) (name : Name) → IsGeneralName s name → all_sgml (end_tag name) ≡ true
end-tag-sgml s name h = both-sgml name (62 ∷ []) (name-sgml s _ name h) refl

-- a character by itself or by its number
itself-sgml : (mapped : Bool) (b : ℕ) (t : Bool) → is_itself mapped b ≡ t → all_sgml (if t then b ∷ [] else number_reference b) ≡ true
itself-sgml mapped b true h = ap (λ t. t && true) (own-tests b (itself-is-own mapped b h)).3
itself-sgml mapped b false h =
    both-sgml (decimal b) (59 ∷ []) (all-of is_digit is_sgml_character digit-sgml (decimal b) (small-number b (other-is-low mapped b h)).digits) refl

byte-sgml : (mapped : Bool) (b : ℕ) → all_sgml (spelled_byte mapped b) ≡ true
byte-sgml mapped b = itself-sgml mapped b (is_itself mapped b) refl

-- a start-tag
literal-sgml : (d : Doctype) (name : Name) (v : AttrValue) → IsGeneralName d.syntax name → ValueIsWritten d v
    → all_sgml (32 ∷ name ++ (codes "=\"" ++ (spelled_value d v ++ 34 ∷ []))) ≡ true
literal-sgml d name v h w =
    both-sgml name (codes "=\"" ++ (spelled_value d v ++ 34 ∷ [])) (name-sgml d.syntax _ name h)
    (both-sgml (spelled_value d v) (34 ∷ [])
    (subst (λ (t : List ℕ). all_sgml t ≡ true) (value-text d v) (bits-sgml d.syntax (value_bits d v) (value-are d v w)))
    refl)

specification-sgml : (d : Doctype) (name : Name) (v : AttrValue) → IsGeneralName d.syntax name → ValueIsWritten d v → all_sgml (specification d name v) ≡ true
specification-sgml d name value.Implied h w = refl
specification-sgml d name (value.Cdata us) h w = literal-sgml d name (value.Cdata us) h w
specification-sgml d name (value.Notation n) h w = literal-sgml d name (value.Notation n) h w
specification-sgml d name (value.Entities es) h w = literal-sgml d name (value.Entities es) h w
specification-sgml d name (value.Tokens ts) h w = literal-sgml d name (value.Tokens ts) h w

specifications-sgml : (d : Doctype) (attributes : List Attribute) → AllAre (AttributeIsWritten d) attributes → all_sgml (flat_map (specification_of d) attributes) ≡ true
specifications-sgml d [] h = refl
specifications-sgml d (a ∷ attributes) h =
    both-sgml (specification_of d a) (flat_map (specification_of d) attributes) (specification-sgml d a.attribute a.value h.0.name h.0.value)
    (specifications-sgml d attributes h.1)

start-tag-sgml : (d : Doctype) (name : Name) (attributes : List Attribute) → IsGeneralName d.syntax name → AllAre (AttributeIsWritten d) attributes → all_sgml (start_tag d name attributes) ≡ true
start-tag-sgml d name attributes h k =
    both-sgml name (flat_map (specification_of d) attributes ++ 62 ∷ []) (name-sgml d.syntax _ name h)
    (both-sgml (flat_map (specification_of d) attributes) (62 ∷ []) (specifications-sgml d attributes k) refl)

-- SPELLINGS

abbrev AreSgml : List Spelling → Type 0
AreSgml xs = all_sgml (text_of xs) ≡ true

text-append : (xs ys : List Spelling) → text_of (xs ++ ys) ≡ text_of xs ++ text_of ys
text-append [] ys = refl
text-append (x ∷ xs) ys = ap (λ t. x.text ++ t) (text-append xs ys) ∙ sym (append_assoc x.text (text_of xs) (text_of ys))

are-both : (xs ys : List Spelling) → AreSgml xs → AreSgml ys → AreSgml (xs ++ ys)
are-both xs ys h k = ap all_sgml (text-append xs ys) ∙ both-sgml (text_of xs) (text_of ys) h k

-- of one alone
one-is : (text : Text) → all_sgml text ≡ true → all_sgml (text ++ []) ≡ true
one-is text h = both-sgml text [] h refl

-- data as it stands
raw-character : (b : ℕ) → is_raw b ≡ true → is_sgml_character b ≡ true
raw-character b h = grind (arith, nat_tests)

raw-are : (b : ℕ) → is_raw b ≡ true → AreSgml (raw b)
raw-are b h = by (raw_byte b == 10)
  where
    by : (t : Bool) → AreSgml (if t then line_end else spelling (Char b) (b ∷ []) ∷ [])
    by true = refl
    by false = one-is (b ∷ []) (ap (λ t. t && true) (raw-character b h))

-- EVENTS where references are recognised
said-are : (d : Doctype) (e : Said) → IsWritten d e → AreSgml (spellings_of d inside.Mixed e)
said-are d (Started name attributes) w = one-is (start_tag d name attributes) (start-tag-sgml d name attributes w.0 w.1)
said-are d (Ended name) w = one-is (end_tag name) (end-tag-sgml d.syntax name w)
said-are d (Byte b) w = one-is (spelled_byte (has_map d) b) (byte-sgml (has_map d) b)
said-are d (SpecificData e text) w = one-is (entity_reference (name_of_entity d e)) (reference-sgml d.syntax _ (name_of_entity d e) w.name)
said-are d (External e) w = one-is (entity_reference (name_of_entity d e)) (reference-sgml d.syntax _ (name_of_entity d e) w.is.name)
said-are d (Instruction text None) w = one-is (codes "<?" ++ (text ++ 62 ∷ [])) (both-sgml text (62 ∷ []) w.sgml refl)
said-are d (Instruction text (Some e)) w = one-is (entity_reference (name_of_entity d e)) (reference-sgml d.syntax _ (name_of_entity d e) w.0.name)

-- ALL OF THEM

end-is : (d : Doctype) (n : Name) → IsGeneralName d.syntax n → AreSgml (spelling (End n Tag) (end_tag n) ∷ [])
end-is d n w = one-is (end_tag n) (end-tag-sgml d.syntax n w)

events-are : (d : Doctype) (w : Within) (s : State) (es : List Said) → AllAre (IsWritten d) es → EventsMayBe d w s es → AreSgml (spellings d (inside_for w) es)
events-are d w s [] a m = refl
events-are d InContent s (e ∷ es) a m =
    are-both (spellings_of d inside.Mixed e) (spellings d (after_said d inside.Mixed e) es) (said-are d e a.0)
    (subst (λ i. AreSgml (spellings d i es)) (sym m.1) (events-are d (within_after d e) _ es a.1 m.2))
events-are d (AtEnd n) s (e ∷ es) a m =
    subst (λ (x : Said). AreSgml (spellings d inside.Nothing (x ∷ es))) (sym m.0) (events-are d InContent s es a.1 m.1)
events-are d (InCdata false) s (Byte b ∷ es) a m =
    are-both (line_end ++ raw b) (spellings d inside.Lines es) (are-both line_end (raw b) refl (raw-are b m.0.character)) (events-are d (InCdata true) _ es a.1 m.1)
events-are d (InCdata true) s (Byte b ∷ es) a m =
    are-both (raw b) (spellings d inside.Lines es) (raw-are b m.0.character) (events-are d (InCdata true) _ es a.1 m.1)
events-are d (InCdata false) s (Ended n ∷ es) a m =
    are-both (spelling (End n Tag) (end_tag n) ∷ []) (spellings d inside.Mixed es) (end-is d n a.0) (events-are d InContent _ es a.1 m.1)
events-are d (InCdata true) s (Ended n ∷ es) a m =
    are-both (line_end ++ spelling (End n Tag) (end_tag n) ∷ []) (spellings d inside.Mixed es) (are-both line_end (spelling (End n Tag) (end_tag n) ∷ []) refl (end-is d n a.0))
    (events-are d InContent _ es a.1 m.1)
events-are d (InCdata begun) s (Started n attributes ∷ es) a m = absurd m
events-are d (InCdata begun) s (SpecificData e text ∷ es) a m = absurd m
events-are d (InCdata begun) s (External e ∷ es) a m = absurd m
events-are d (InCdata begun) s (Instruction text entity ∷ es) a m = absurd m

-- WHERE THE DOCUMENT ENDS: its last piece is the end, which tells nothing, and no element is open before it

state-run : (h : History) (ps : List Piece) (s : State) → state h ≡ s → state (after_run h ps) ≡ state_after s ps
state-run h [] s e = e
state-run h (p ∷ ps) s e = state-run (p ∷ h) ps (after_piece p s) (state-step p h ∙ ap (after_piece p) e)

after-append : (s : State) (ps qs : List Piece) → state_after s (ps ++ qs) ≡ state_after (state_after s ps) qs
after-append s [] qs = refl
after-append s (p ∷ ps) qs = after-append (after_piece p s) ps qs

told-append : (s : State) (ps qs : List Piece) → events_of_run forms s (ps ++ qs) ≡ events_of_run forms s ps ++ events_of_run forms (state_after s ps) qs
told-append s [] qs = refl
told-append s (p ∷ ps) qs =
    ap (λ es. events_at forms s p ++ es) (told-append (after_piece p s) ps qs)
    ∙ sym (append_assoc (events_at forms s p) (events_of_run forms (after_piece p s) ps) (events_of_run forms (state_after (after_piece p s) ps) qs))

finish-tells : (s : State) (k : Kind) → is_finish k ≡ true → told_by (facts_in s.record_ends) (shown forms s k) ≡ []
unfolding shown items_of is_finish
finish-tells s Finish e = refl
finish-tells s _ e = true-false (sym e)

record Ends (s : State) (ps : List Piece) : Type 0 where
  over : IsOver (state_after s (all_but_last ps))
  told : events_of_run forms s (all_but_last ps) ≡ events_of_run forms s ps

but-last : (os : List Piece) (p : Piece) → all_but_last (os ++ p ∷ []) ≡ os
but-last [] p = refl
but-last (o ∷ []) p = refl
but-last (o ∷ q ∷ os) p = ap (λ ps. o ∷ ps) (but-last (q ∷ os) p)

last-ends : (I : Input) (h : History) (m : Move) → ReadOn forms I h (m ∷ []) → is_finish m.visible.kind ≡ true → Ends (state h) (pieces (m ∷ []))
last-ends I h m r f =
    let s = state h in
    let os = m.omitted in
    let none : events_of_run forms (state_after s os) (m.visible ∷ []) ≡ [] = ap (λ es. es ++ []) (finish-tells (state_after s os) m.visible.kind f) in
    record {
      over = subst IsOver (state-run h os s refl ∙ ap (state_after s) (sym (but-last os m.visible))) (read-over I h m r.0 f);
      told =
          ap (events_of_run forms s) (but-last os m.visible)
          ∙ sym (told-append s os (m.visible ∷ []) ∙ (ap (λ es. events_of_run forms s os ++ es) none ∙ append-nil (events_of_run forms s os)));
    }

-- a piece more before them
one-more : (p : Piece) (s : State) (q : Piece) (ps : List Piece) → Ends (after_piece p s) (q ∷ ps) → Ends s (p ∷ q ∷ ps)
one-more p s q ps e = record { over = e.over; told = ap (λ es. events_at forms s p ++ es) e.told }

run-more : (os : List Piece) (s : State) (q : Piece) (ps : List Piece) → Ends (state_after s os) (q ∷ ps) → Ends s (os ++ q ∷ ps)
run-more [] s q ps e = e
run-more (o ∷ []) s q ps e = one-more o s q ps e
run-more (o ∷ x ∷ os) s q ps e = one-more o s x (os ++ q ∷ ps) (run-more (x ∷ os) (after_piece o s) q ps e)

first-of : (m : Move) (ms : List Move) → (p : Piece) × (ps : List Piece) × (pieces (m ∷ ms) ≡ p ∷ ps)
first-of m ms = by m.omitted
  where
    by : (os : List Piece) → (p : Piece) × (ps : List Piece) × (os ++ m.visible ∷ pieces ms ≡ p ∷ ps)
    by [] = (m.visible, pieces ms, refl)
    by (o ∷ os) = (o, os ++ m.visible ∷ pieces ms, refl)

more-ends : (s : State) (m n : Move) (ns : List Move) → Ends (after_piece m.visible (state_after s m.omitted)) (pieces (n ∷ ns)) → Ends s (pieces (m ∷ n ∷ ns))
more-ends s m n ns e =
    let f = first-of n ns in
    run-more m.omitted s m.visible (pieces (n ∷ ns))
    (subst (λ ps. Ends (state_after s m.omitted) (m.visible ∷ ps)) (sym f.2)
    (one-more m.visible (state_after s m.omitted) f.0 f.1 (subst (Ends (after_piece m.visible (state_after s m.omitted))) f.2 e)))

moves-end : (I : Input) (h : History) (m : Move) (ms : List Move) → ReadOn forms I h (m ∷ ms) → ends_in_finish (after_moves h (m ∷ ms)) ≡ true → Ends (state h) (pieces (m ∷ ms))
moves-end I h m [] r f = last-ends I h m r f
moves-end I h m (n ∷ ns) r f =
    let next : state (moved_on h m) ≡ after_piece m.visible (state_after (state h) m.omitted) =
    state-step m.visible (after_run h m.omitted) ∙ ap (after_piece m.visible) (state-run h m.omitted (state h) refl) in
    more-ends (state h) m n ns (subst (λ s. Ends s (pieces (n ∷ ns))) next (moves-end I (moved_on h m) n ns r.1 f))

instance-ends : (I : Input) (h : History) (ms : List Move) → ReadToEnd I h ms → Ends (state h) (pieces ms)
instance-ends I h [] r = true-false (sym r.ends ∙ r.goes_on)
instance-ends I h (m ∷ ms) r = moves-end I h m ms r.reads r.ends

-- WHAT IS WRITTEN of it
pub written-sgml : ReadMayBeWritten → (I : Input) (h : History) (ms : List Move) → ReadToEnd I h ms → InstanceHolds h ms → Follows (state h) (state h) → IsReferring (state h).context
    → all_sgml (text_of (spellings (state h).context.doctype inside.Mixed (events_of_run forms (state h) (pieces ms))) ++ 13 ∷ []) ≡ true
written-sgml may I h ms r holds follows refers =
    let a = state h in
    let d = a.context.doctype in
    let ps = all_but_last (pieces ms) in
    let es = events_of_run forms a ps in
    let ends = instance-ends I h ms r in
    let written : AllAre (IsWritten d) es = subst (AllAre (IsWritten d)) (sym ends.told) holds.written in
    let all = may InContent a a ps (follows, refers) holds.hold written in
    let there = over-written d all.0 (state_after a ps) a all.1 es all.2 all.3 ends.over in
    let events = subst (EventsMayBe d InContent a) (append-nil es) (there.0.may [] refl) in
    let sgml = subst (λ xs. AreSgml (spellings d inside.Mixed xs)) ends.told (events-are d InContent a es written events) in
    both-sgml (text_of (spellings d inside.Mixed (events_of_run forms a (pieces ms)))) (13 ∷ []) sgml refl
