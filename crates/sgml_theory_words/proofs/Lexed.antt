-- Of what is read of a declaration the names are words.
use Rattle.std.proofs.Common.{◌≡◌, ℕ, zero, suc, Bool, true, false, not, ◌&&◌, List, [], ◌∷◌, ◌++◌, take, drop, Result, Ok, Err, refl, ◌∙◌, if◌then◌else◌}
use Rattle.std.specs.List.{list_all}
use Rattle.std.proofs.lemmas.List.Folds.{list_all-append}
use Rattle.sgml_event_lines.specs.text.declared.reason.Reason.{Reason}
use Rattle.sgml_event_lines.specs.esis.Grammar.{is_word}
use Rattle.sgml_theory_kinds.specs.delim.declared.delim.Delim.{Delim}
use Rattle.sgml_theory_kinds.specs.delim.declared.delim.Delim.TheVariants as sign
use Rattle.sgml_event_lines.specs.entity.Stack.{Stack}
use Rattle.sgml_event_lines.specs.text.declared.unit.Unit.{Unit as AnyUnit}
use Rattle.sgml_event_lines.specs.decl_parts.declared.form.Form.{Form}
use Rattle.sgml_event_lines.specs.decl_parts.declared.form.Form.TheVariants as f
use Rattle.sgml_event_lines.specs.decl_parts.declared.form.LiteralKind.{LiteralKind}
use Rattle.sgml_event_lines.specs.decl_parts.declared.form.LiteralKind.TheVariants as kind
use Rattle.sgml_event_lines.specs.decl_parts.declared.part.Part.{Part}
use Rattle.sgml_event_lines.specs.decl_parts.declared.part.Part.TheVariants as p
use Rattle.sgml_event_lines.specs.decl_parts.declared.part.PartFault.{PartFault}
use Rattle.sgml_event_lines.specs.decl_parts.Forms.{after_name, after_token, after_reserved, after_sign, literal_kind, is_complete, may_refer}
use Rattle.sgml_event_lines.specs.decl_parts.Parts.{part_at}
use Rattle.sgml_event_lines.specs.decl_parts.declared.ends.Construct.{Construct}
use Rattle.sgml_event_lines.specs.decl_parts.declared.ends.Construct.TheVariants as construct
use Rattle.sgml_event_lines.specs.decl_lexemes.declared.lexeme.Lexeme.{Lexeme}
use Rattle.sgml_event_lines.specs.decl_lexemes.declared.lexeme.Lexeme.TheVariants.{Name, Token, Reserved, Literal, Value, Sign}
use Rattle.sgml_event_lines.specs.decl_lexemes.declared.fault.Fault.{Fault}
use Rattle.sgml_event_lines.specs.decl_lexemes.declared.fault.Reached.{Reached}
use Rattle.sgml_event_lines.specs.decl_lexemes.declared.fault.Reached.TheVariants.{Opens, PutsText, PutsData, Fails}
use Rattle.sgml_event_lines.specs.decl_lexemes.Sources.{Source}
use Rattle.sgml_event_lines.specs.decl_lexemes.Readings.{Reading, State, is_value, literal_of, here, ahead, after, referred, reached_from, kept, is_last, is_literal, judged_form, judged_end, judged_sign, judged_quote, judged_reached, judged, judged_part, next_part, closes, nothing_read, begun, start}
use Rattle.sgml_event_lines.specs.decl_lexemes.Reads.{left, unless_end, with_part, read_on, read_all}
use Rattle.sgml_event_lines.specs.dtd.Doctypes.{Doctype}
use Rattle.sgml_event_lines.specs.theory_reading.Unread.{Outside}
use Rattle.sgml_theory_kinds.specs.theory_spelling.Stacked.{Stacked}
use Rattle.sgml_theory_kinds.specs.theory_spelling.Texts.{stack_of, source_of}
use Rattle.sgml_theory_kinds.specs.theory_spelling.Declared.{Lexed, lexed_by, lexed}
use Rattle.sgml_theory_words.proofs.Bytes.{and}
use Rattle.sgml_theory_words.proofs.Parts.{IsNamed, HasName, part-named}

-- a lexeme that is a name is a word
abbrev pub is_worded : Lexeme → Bool
is_worded (Name n) = is_word n
is_worded _ = true

abbrev pub AreWorded : List Lexeme → Type 0
AreWorded xs = list_all is_worded xs ≡ true

-- THE NEXT PART

form-named : (bytes : List ℕ) (x : Form) (part : Part) → IsNamed bytes part → HasName bytes (judged_form x part)
form-named bytes f.Broken part h = tt
form-named bytes (f.LeftOut r) part h = tt
form-named bytes _ part h = h

if-named : (bytes : List ℕ) (t : Bool) (x y : Result Part Fault) → HasName bytes x → HasName bytes y → HasName bytes (if t then x else y)
if-named bytes true x y h k = h
if-named bytes false x y h k = k

end-named : (bytes : List ℕ) (x : Form) (no_char : Bool) (part : Part) → IsNamed bytes part → HasName bytes (judged_end x no_char part)
end-named bytes x no_char part h = if-named bytes (not (is_complete x)) _ _ tt (if-named bytes no_char _ _ tt h)

sign-named : (bytes : List ℕ) (last : Bool) (r : Reading) (x : Delim) → HasName bytes (judged_sign last r x)
sign-named bytes true r sign.Dso = end-named bytes (after_sign r.form sign.Dso) r.no_char (p.Sign sign.Dso) tt
sign-named bytes false r sign.Dso = tt
sign-named bytes last r x = form-named bytes (after_sign r.form x) (p.Sign x) tt

quote-named : (bytes : List ℕ) (k : LiteralKind) (b : ℕ) → HasName bytes (judged_quote k b)
quote-named bytes kind.NoLiteral b = tt
quote-named bytes _ b = tt

reached-named : (bytes : List ℕ) (I : Source) (r : Reading) (n m : ℕ) (x : Reached) → HasName bytes (judged_reached (kept I r) n m x)
reached-named bytes I r n m (Fails fault) = tt
reached-named bytes I r n m _ = tt

judged-named : (I : Source) (bytes : List ℕ) (t : State) (part : Part) → IsNamed bytes part → HasName bytes (judged I bytes t part)
judged-named I bytes t (p.Name n) h = form-named bytes (after_name t.reading.form (take n bytes)) (p.Name n) h
judged-named I bytes t (p.Token n) h = form-named bytes (after_token t.reading.form) (p.Token n) tt
judged-named I bytes t (p.Reserved n) h = form-named bytes (after_reserved t.reading.form (take n (drop 1 bytes))) (p.Reserved n) tt
judged-named I bytes t (p.Sign x) h = sign-named bytes (is_last I bytes t.stack.places) t.reading x
judged-named I bytes t (p.Quote b) h = quote-named bytes (literal_kind t.reading.form) b
judged-named I bytes t (p.Refer n m) h =
    if-named bytes (may_refer t.reading.form) _ _ (reached-named bytes I t.reading n m (reached_from I bytes t n)) tt
judged-named I bytes t p.EndQuote h = if-named bytes (is_literal I.construct && t.reading.no_char) _ _ tt tt
judged-named I bytes t p.Closing h = end-named bytes t.reading.form t.reading.no_char p.Closing tt
judged-named I bytes t part h = h

part-judged : (I : Source) (bytes : List ℕ) (t : State) (x : Result Part PartFault) → HasName bytes x → HasName bytes (judged_part I bytes t x)
part-judged I bytes t (Err fault) h = tt
part-judged I bytes t (Ok part) h = judged-named I bytes t part h

next-named : (I : Source) (t : State) → HasName (ahead I t) (next_part I t)
next-named I t =
    part-judged I (ahead I t) t (part_at I.syntax.names I.syntax.general_fold (here I t) (ahead I t))
    (part-named I.syntax.names I.syntax.general_fold (here I t) (ahead I t))

-- WHAT IT ADDS

more-worded : (xs : List Lexeme) (x : Lexeme) → AreWorded xs → is_worded x ≡ true → AreWorded (xs ++ x ∷ [])
more-worded xs x h k = list_all-append is_worded xs (x ∷ []) ∙ and (list_all is_worded xs) (is_worded x && true) h (and (is_worded x) true k refl)

literal-worded : (t : Bool) (bytes : List ℕ) (units : List AnyUnit) → is_worded (if t then Value units else Literal bytes) ≡ true
literal-worded true bytes units = refl
literal-worded false bytes units = refl

either-worded : (t : Bool) (x y : Reading) → AreWorded x.lexemes → AreWorded y.lexemes → AreWorded (if t then x else y).lexemes
either-worded true x y h k = h
either-worded false x y h k = k

referred-worded : (I : Source) (m : ℕ) (t : State) (x : Reached) → AreWorded t.reading.lexemes → AreWorded (referred I m t x).reading.lexemes
referred-worded I m t (Opens entity size) h = h
referred-worded I m t (PutsText n) h = either-worded (is_value t.reading.literal) _ _ h h
referred-worded I m t (PutsData n) h = h
referred-worded I m t (Fails fault) h = h

after-worded : (I : Source) (bytes : List ℕ) (x : Part) (t : State) → IsNamed bytes x → AreWorded t.reading.lexemes → AreWorded (after I bytes x t).reading.lexemes
after-worded I bytes (p.Gap n) t h k = k
after-worded I bytes (p.Name n) t h k = more-worded t.reading.lexemes (Name (take n bytes)) k h
after-worded I bytes (p.Token n) t h k = more-worded t.reading.lexemes (Token (take n bytes)) k refl
after-worded I bytes (p.Reserved n) t h k = more-worded t.reading.lexemes (Reserved (take n (drop 1 bytes))) k refl
after-worded I bytes (p.Sign d) t h k = more-worded t.reading.lexemes (Sign d) k refl
after-worded I bytes (p.Quote b) t h k = k
after-worded I bytes p.EndQuote t h k =
    let r = t.reading in more-worded r.lexemes (literal_of r.literal r.bytes r.units) k (literal-worded (is_value r.literal) r.bytes r.units)
after-worded I bytes (p.Data n) t h k = either-worded (is_value t.reading.literal) _ _ k k
after-worded I bytes (p.Char n u) t h k = either-worded (is_value t.reading.literal) _ _ k k
after-worded I bytes (p.NoChar n) t h k = k
after-worded I bytes (p.Refer n m) t h k = referred-worded I m t (reached_from I bytes t n) k
after-worded I bytes p.TextEnd t h k = k
after-worded I bytes p.Closing t h k = k

-- ALL OF IT

abbrev IsRead : Result State Fault → Type 0
IsRead (Ok u) = AreWorded u.reading.lexemes
IsRead (Err fault) = Unit {0}

ended-worded : (t : Bool) (go_on : State → Result State Fault) (u : State) → AreWorded u.reading.lexemes
    → ((v : State) → AreWorded v.reading.lexemes → IsRead (go_on v)) → IsRead (unless_end t go_on u)
ended-worded true go_on u h g = h
ended-worded false go_on u h g = g u h

part-worded : (I : Source) (t : State) (go_on : State → Result State Fault) (x : Result Part Fault) → HasName (ahead I t) x → AreWorded t.reading.lexemes
    → ((v : State) → AreWorded v.reading.lexemes → IsRead (go_on v)) → IsRead (with_part I t go_on x)
part-worded I t go_on (Err fault) n h g = tt
part-worded I t go_on (Ok x) n h g =
    ended-worded (closes I.construct x) go_on (after I (ahead I t) x t) (after-worded I (ahead I t) x t n h) g

on-worded : (n : ℕ) (I : Source) (t : State) → AreWorded t.reading.lexemes → IsRead (read_on n I t)
on-worded zero I t h = tt
on-worded (suc n) I t h = part-worded I t (λ u. read_on n I u) (next_part I t) (next-named I t) h (λ u k. on-worded n I u k)

begun-worded : (c : Construct) (height : ℕ) (r : Reading) → AreWorded r.lexemes → AreWorded (begun c height r).lexemes
begun-worded (construct.Literal quote) height r h = h
begun-worded _ height r h = h

all-worded : (I : Source) (s : Stack) → IsRead (read_all I s)
unfolding read_all
all-worded I s =
    on-worded (suc (left I (start I s).stack)) I (start I s) (begun-worded I.construct _ (nothing_read _) refl)

abbrev pub IsLexed : Result Lexed Reason → Type 0
IsLexed (Ok x) = AreWorded x.lexemes
IsLexed (Err r) = Unit {0}

by-worded : (outside : Outside) (d : Doctype) (x : Result State Fault) → IsRead x → IsLexed (lexed_by outside d x)
by-worded outside d (Ok u) h = h
by-worded outside d (Err fault) h = tt

pub lexed-worded : (c : Construct) (outside : Outside) (d : Doctype) (t : Stacked) (own : List ℕ) → IsLexed (lexed c outside d t own)
unfolding lexed
lexed-worded c outside d t own =
    by-worded outside d (read_all (source_of c outside d t own) (stack_of outside d t)) (all-worded (source_of c outside d t own) (stack_of outside d t))
