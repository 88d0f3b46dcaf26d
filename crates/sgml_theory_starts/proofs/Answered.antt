-- A literal of a start-tag at the top of the stack is answered as it is spelled.
use Rattle.std.proofs.Common.{◌≡◌, ◌<◌, ◌+◌, ◌-◌, ◌∷◌, ◌++◌, ◌&&◌, ℕ, Bool, true, false, List, [], suc, zero, Option, Some, None, Result, Ok, Err, refl, sym, ap, ◌∙◌, arith, length, drop, take, map, if◌then◌else◌}
use Rattle.std.specs.List.{list_all}
use Rattle.std.proofs.lemmas.List.{drop-drop, take-append-le}
use Rattle.sgml_starts.specs.text.declared.place.Place.{Place}
use Rattle.sgml_starts.specs.text.declared.reason.Reason.{Reason}
use Rattle.sgml_starts.specs.text.declared.reason.Reason.TheVariants as reason
use Rattle.sgml_starts.specs.text.Characters.{is_quote, is_sgml_character, all_sgml}
use Rattle.sgml_starts.specs.syntax.declared.syntax.Syntax.{Syntax}
use Rattle.sgml_starts.specs.markup.declared.kinds.Form.TheVariants as form
use Rattle.sgml_starts.specs.markup.declared.kinds.TokenKind.{TokenKind}
use Rattle.sgml_starts.specs.markup.declared.kinds.TokenKind.TheVariants as kind
use Rattle.sgml_starts.specs.markup.declared.kinds.Part.{Part}
use Rattle.sgml_starts.specs.markup.declared.kinds.PartKind.{PartKind}
use Rattle.sgml_starts.specs.markup.declared.kinds.PartKind.TheVariants as part
use Rattle.sgml_starts.specs.markup.Forms.{judged, judged_form, parts_of_tag}
use Rattle.sgml_starts.specs.entity.declared.kinds.Entity.{Entity}
use Rattle.sgml_starts.specs.entity.Stack.{Stack, moved_to, offset_of}
use Rattle.sgml_starts.specs.decl_parts.declared.ends.Construct.TheVariants.{Literal}
use Rattle.sgml_starts.specs.decl_parts.Ends.{quote_end}
use Rattle.sgml_starts.proofs.decl_parts.Continuing.{end_stays, end_within}
use Rattle.sgml_starts.specs.decl_lexemes.declared.lexeme.Lexeme.{Lexeme}
use Rattle.sgml_starts.specs.decl_lexemes.declared.fault.LexError.{LexError}
use Rattle.sgml_starts.specs.decl_lexemes.declared.fault.LexError.TheVariants as lex
use Rattle.sgml_starts.specs.decl_lexemes.Sources.{text_at, or_empty}
use Rattle.sgml_starts.specs.decl_lexemes.Readings.{entity_of}
use Rattle.sgml_starts.specs.decl_lexemes.Declares.{is_asked, Answers}
use Rattle.sgml_starts.specs.decl_lexemes.Reads.{answer}
use Rattle.sgml_starts.proofs.decl_lexemes.Running.{answer_is}
use Rattle.sgml_starts.proofs.decl_lexemes.Standing.{stands-after}
use Rattle.sgml_starts.specs.Specified.{Input, stack_at}
use Rattle.sgml_starts.proofs.Literals.{moved-some, begun-at}
use Rattle.sgml_starts.proofs.Parts.{IsGood, AreGood, parts-good}
use Rattle.sgml_declared.specs.theory_reading.Names.{Name, Text}
use Rattle.sgml_declared.specs.theory_reading.Unread.{Outside, file_of}
use Rattle.sgml_declared.specs.theory_spelling.Declared.{lexed}
use Rattle.sgml_declared.specs.theory_spelling.References.{missing, missing_file}
use Rattle.sgml_declared.specs.theory_spelling.Tags.{with_spent}
use Rattle.sgml_declared.specs.theory_standing.Kept.{Kept, sources_of}
use Rattle.sgml_theory_starts.specs.Read.{quote_before, literal_asked, literal_bytes, literal_spelled, IsAnsweredSo, IsReadSo, AreReadSo}
use Rattle.sgml_declared.specs.Files.{Choices}
use Rattle.sgml_declared.specs.declared.error.TakeError.TheVariants.{Refused, Wanted}
use Rattle.sgml_declared.specs.Taking.{rest_at_top, stacked_on, Ends, lexed_at, own_text, IsAround}
use Rattle.sgml_declared.proofs.Lexing.{lexemes-read, lexemes-stopped}
use Rattle.sgml_theory_starts.specs.There.{tag_at, IsTagThere, input_at}
use Rattle.sgml_theory_starts.specs.Valued.{LiteralsAreRead}
use Rattle.sgml_theory_starts.proofs.Files.{file-in-each}
use Rattle.sgml_theory_starts.proofs.Quoted.{EndsThere, EndThere, literals-end, drop-taken, end-taken}

-- WHAT IS UNREAD at a place of the tag
rest-moved : (es : List Entity) (texts : List (ℕ × Text)) (from : ℕ) (ps : List Place) → 0 < length ps
    → drop (offset_of (moved_to (offset_of ps + from) ps)) (or_empty (text_at es texts (entity_of (moved_to (offset_of ps + from) ps))))
    ≡ drop from (drop (offset_of ps) (or_empty (text_at es texts (entity_of ps))))
rest-moved es texts from [] some = absurd (omega (arith, some))
rest-moved es texts from (p ∷ ps) some = sym (drop-drop from p.at (or_empty (text_at es texts p.entity)))

entities-moved : (at : ℕ) (ps : List Place) → map (λ (p : Place). p.entity) (moved_to at ps) ≡ map (λ (p : Place). p.entity) ps
entities-moved at [] = refl
entities-moved at (p ∷ ps) = refl

-- its characters
all-dropped : (p : ℕ → Bool) (n : ℕ) (xs : List ℕ) → list_all p xs ≡ true → list_all p (drop n xs) ≡ true
all-dropped p zero xs h = h
all-dropped p (suc n) [] h = h
all-dropped p (suc n) (x ∷ xs) h = all-dropped p n xs (by (p x) h)
  where
    by : (t : Bool) → (t && list_all p xs) ≡ true → list_all p xs ≡ true
    by true e = e
    by false e = absurd (cc e)

all-taken : (p : ℕ → Bool) (n : ℕ) (xs : List ℕ) → list_all p xs ≡ true → list_all p (take n xs) ≡ true
all-taken p zero xs h = refl
all-taken p (suc n) [] h = refl
all-taken p (suc n) (x ∷ xs) h = by (p x) h (all-taken p n xs)
  where
    by : (t : Bool) → (t && list_all p xs) ≡ true → (list_all p xs ≡ true → list_all p (take n xs) ≡ true) → (t && list_all p (take n xs)) ≡ true
    by true e later = later e
    by false e later = absurd (cc e)

tag-characters : (s : Syntax) (tag : Text) (k : TokenKind) → judged s form.StartTag tag ≡ Ok k → all_sgml tag ≡ true
tag-characters s tag k h = by (list_all is_sgml_character tag) h
  where
    by : (t : Bool) → (if t then judged_form s form.StartTag tag else Err reason.NonSgml) ≡ Ok k → t ≡ true
    by true e = refl
    by false e = absurd (cc e)

-- ONE LITERAL
module _ (c : Choices) (outside : Outside) (k : Kept) (texts : List (ℕ × Text)) (size : ℕ)
    (around : IsAround c outside (sources_of k) texts k.stack) (there : IsTagThere k texts size) where
  abbrev tag : Text
  tag = tag_at k texts size

  abbrev I : Input
  I = input_at k texts

  abbrev at-part : ℕ → Part → Stack
  at-part spent x = stack_at I x.from spent

  abbrev left : Part → ℕ
  left x = suc (x.to - x.from)

  module _ (x : Part) (spent : ℕ) (quoted : is_quote (quote_before tag x) ≡ true) (end : quote_end (quote_before tag x) (drop x.from tag) ≡ Some (left x)) where
    abbrev q : ℕ
    q = quote_before tag x

    here : IsAround c outside (sources_of k) texts (at-part spent x)
    here = record { of_options = around.of_options; supplied = around.supplied; levels = around.levels; expand = around.expand }

    unread : rest_at_top k.doctype.entities texts (at-part spent x) ≡ drop x.from (rest_at_top k.doctype.entities texts k.stack)
    unread = rest-moved k.doctype.entities texts x.from k.stack.places there.some

    more : (bytes : Text) × (drop x.from (rest_at_top k.doctype.entities texts k.stack) ≡ drop x.from tag ++ bytes)
    more = drop-taken x.from size (rest_at_top k.doctype.entities texts k.stack)

    goes-on : rest_at_top k.doctype.entities texts (at-part spent x) ≡ drop x.from tag ++ more.0
    goes-on = unread ∙ more.1

    first : take (left x) (rest_at_top k.doctype.entities texts (at-part spent x)) ≡ take (left x) (drop x.from tag)
    first =
        let within = end_within k.doctype.syntax.names (Literal q) (drop x.from tag) (left x) end in
        ap (take (left x)) goes-on ∙ take-append-le (left x) (drop x.from tag) more.0 within.few

    bytes-are : own_text k.doctype texts (at-part spent x) (left x) ≡ literal_bytes tag x
    bytes-are = first ∙ end-taken q (x.to - x.from) (drop x.from tag) end

    begun : is_asked (literal_asked I spent tag x) ≡ true
    begun = begun-at q (at-part spent x).places (moved-some (offset_of k.stack.places + x.from) k.stack.places there.some) quoted

    ends : Ends (Literal q) k.doctype texts (at-part spent x) (left x)
    ends = record {
      begins = begun;
      ends = ap (quote_end q) goes-on ∙ end_stays k.doctype.syntax.names (Literal q) (left x) (drop x.from tag) more.0 end;
      sgml = ap all_sgml first
          ∙ all-taken is_sgml_character (left x) (drop x.from tag) (all-dropped is_sgml_character x.from tag (tag-characters k.doctype.syntax tag kind.StartTag there.form));
    }

    spelled-is : lexed_at (Literal q) outside k.doctype texts (at-part spent x) (left x) ≡ literal_spelled outside k.doctype (stacked_on k.stack) spent tag x
    spelled-is =
        ap (λ ns. lexed (Literal q) outside k.doctype (record { entities = ns; spent = spent }) (own_text k.doctype texts (at-part spent x) (left x)))
        (entities-moved (offset_of k.stack.places + x.from) k.stack.places)
        ∙ ap (lexed (Literal q) outside k.doctype (with_spent (stacked_on k.stack) spent)) bytes-are

    missing-by : (m : ℕ) (t : Stack) (file : Option Name) (r : Reason) → Answers (literal_asked I spent tag x) (Err (lex.Wanted m)) t → file_of outside (sources_of k) m ≡ file
        → missing_file outside file ≡ Some r → lexed_at (Literal q) outside k.doctype texts (at-part spent x) (left x) ≡ Err r
    missing-by m t None r h is gone =
        lexemes-stopped (Literal q) c outside (sources_of k) k.doctype.syntax I.tables texts (at-part spent x) t true (left x) (lex.Wanted m) (Refused reason.Unresolved)
        refl refl h (refl, file-in-each c outside (sources_of k) m None around.of_options is) here ends
        ∙ ap (λ (w : Reason). Err w) (one-reason reason.Unresolved r gone)
      where
        one-reason : (a b : Reason) → Some a ≡ Some b → a ≡ b
        one-reason a b e = cc e
    missing-by m t (Some file) r h is gone =
        let stopped = lexemes-stopped (Literal q) c outside (sources_of k) k.doctype.syntax I.tables texts (at-part spent x) t true (left x) (lex.Wanted m) (Wanted m file)
        refl refl h (refl, file-in-each c outside (sources_of k) m (Some file) around.of_options is) here ends in
        stopped.missing r gone

    by-answer : (a : Result (List Lexeme) LexError × Stack) → answer (literal_asked I spent tag x) ≡ a
        → IsAnsweredSo (missing outside (sources_of k)) a (literal_spelled outside k.doctype (stacked_on k.stack) spent tag x)
    by-answer (Ok ds, t) is =
        let h : Answers (literal_asked I spent tag x) (Ok ds) t = (answer_is (literal_asked I spent tag x) begun (Ok ds) t).1 is in
        let read = lexemes-read (Literal q) c outside (sources_of k) k.doctype.syntax I.tables texts (at-part spent x) t true (left x) ds
        refl refl h (stands-after (literal_asked I spent tag x) ds t begun h) here ends in
        sym spelled-is ∙ read.lexed
    by-answer (Err (lex.Refused r), t) is =
        let h : Answers (literal_asked I spent tag x) (Err (lex.Refused r)) t = (answer_is (literal_asked I spent tag x) begun (Err (lex.Refused r)) t).1 is in
        sym spelled-is
        ∙ lexemes-stopped (Literal q) c outside (sources_of k) k.doctype.syntax I.tables texts (at-part spent x) t true (left x) (lex.Refused r) (Refused r)
        refl refl h refl here ends
    by-answer (Err (lex.Wanted m), t) is = λ r gone.
        let h : Answers (literal_asked I spent tag x) (Err (lex.Wanted m)) t = (answer_is (literal_asked I spent tag x) begun (Err (lex.Wanted m)) t).1 is in
        sym spelled-is ∙ missing-by m t (file_of outside (sources_of k) m) r h refl gone
    by-answer (Err lex.NeedMore, t) is = tt
    by-answer (Err lex.Memory, t) is = tt

  -- ALL OF THEM
  by-kind : (x : Part) (w : PartKind) → x.kind ≡ w → IsGood tag x w → EndsThere tag x w
      → IsReadSo (missing outside (sources_of k)) I outside k.doctype (stacked_on k.stack) tag x
  by-kind x part.Quoted is good end = λ e spent. by-answer x spent good.1 end (answer (literal_asked I spent tag x)) refl
  by-kind x part.ElementName is good end = λ e spent. absurd (never (sym is ∙ e))
    where
      never : part.ElementName ≡ part.Quoted → ⊥
      never e = cc e
  by-kind x part.AttributeName is good end = λ e spent. absurd (never (sym is ∙ e))
    where
      never : part.AttributeName ≡ part.Quoted → ⊥
      never e = cc e
  by-kind x part.Bare is good end = λ e spent. absurd (never (sym is ∙ e))
    where
      never : part.Bare ≡ part.Quoted → ⊥
      never e = cc e

  each : (xs : List Part) → AreGood tag xs → EndThere tag xs → AreReadSo (missing outside (sources_of k)) I outside k.doctype (stacked_on k.stack) tag xs
  each [] good end = tt
  each (x ∷ xs) good end = (by-kind x x.kind refl good.0 end.0, each xs good.1 end.1)

pub literals-are-read : LiteralsAreRead
literals-are-read c outside k texts size around there =
    each c outside k texts size around there (parts_of_tag k.doctype.syntax (tag_at k texts size))
    (parts-good (tag_at k texts size) k.doctype.syntax) (literals-end (tag_at k texts size) k.doctype.syntax)
