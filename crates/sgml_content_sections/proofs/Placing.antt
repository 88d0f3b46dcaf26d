-- Why a declaration has no lexemes that may stand in content.
use Rattle.std.proofs.Common.{◌≡◌, ℕ, Bool, true, false, List, Some, Err, sym, ◌∙◌, ap, subst, refl}
use Rattle.sgml_text.specs.declared.reason.Reason.{Reason}
use Rattle.sgml_text.specs.declared.reason.Reason.TheVariants as reason
use Rattle.sgml_syntax.specs.declared.syntax.Syntax.{Syntax}
use Rattle.sgml_entity.specs.Entities.{Tables}
use Rattle.sgml_entity.specs.Stack.{Stack}
use Rattle.sgml_decl_lexemes.specs.decl_parts.declared.ends.Construct.TheVariants.{Declaration as DeclarationText}
use Rattle.sgml_decl_lexemes.specs.declared.fault.LexError.{LexError}
use Rattle.sgml_decl_lexemes.specs.declared.fault.LexError.TheVariants as lexing
use Rattle.sgml_decl_lexemes.specs.Declares.{asked, AnswersError}
use Rattle.sgml_decl_lexemes.specs.Wholeness.{is_end_reached}
use Rattle.sgml_theory_reading.specs.Names.{Text}
use Rattle.sgml_theory_reading.specs.Unread.{Outside, Sources, Fetched, NotThere, TooLarge, Found}
use Rattle.sgml_declared.specs.theory_spelling.Stacked.{Stacked}
use Rattle.sgml_declared.specs.theory_spelling.References.{missing_fetched}
use Rattle.sgml_declared.specs.theory_spelling.Declared.{is_whole}
use Rattle.sgml_declared.specs.theory_spelling.Content.{placed_reason}
use Rattle.sgml_dtd.specs.Doctypes.{Doctype}
use Rattle.sgml_declared.specs.Files.{Choices}
use Rattle.sgml_declared.specs.declared.error.TakeError.{TakeError}
use Rattle.sgml_declared.specs.declared.error.TakeError.TheVariants as take_error
use Rattle.sgml_declared.specs.Reading.{IsTold}
use Rattle.sgml_declared.specs.Taking.{stacked_on, own_text, lexed_at, Ends, IsAround, IsStopped}
use Rattle.sgml_declared.proofs.Lexing.{lexemes-stopped, whole-reached}
use Rattle.sgml_content_sections.specs.Uses.{is_no_character, no_character_reason, TellsNoCharacter, placed_lexed, placed_at}

some-is : (a b : Reason) → Some a ≡ Some b → a ≡ b
some-is a b e = cc

-- ANOTHER REASON stays as it is
placed-other : (outside : Outside) (d : Doctype) (t : Stacked) (own : Text) (r : Reason) → is_no_character (lexing.Refused r) ≡ false → placed_reason outside d t own r ≡ r
placed-other outside d t own reason.CharNumber e = cc e
placed-other outside d t own _ e = refl

placed-missing : (outside : Outside) (d : Doctype) (t : Stacked) (own : Text) (f : Fetched) (r : Reason) → missing_fetched f ≡ Some r → placed_reason outside d t own r ≡ r
placed-missing outside d t own NotThere r e = subst (λ z. placed_reason outside d t own z ≡ z) (some-is reason.Absent r e) refl
placed-missing outside d t own TooLarge r e = subst (λ z. placed_reason outside d t own z ≡ z) (some-is reason.EntityTooLarge r e) refl
placed-missing outside d t own (Found text) r e = cc e

refused-stays : (outside : Outside) (k : Sources) (texts : List (ℕ × Text)) (s : Stack) (n : ℕ) (r : Reason) → placed_reason outside k.doctype (stacked_on s) (own_text k.doctype texts s n) r ≡ r
    → lexed_at DeclarationText outside k.doctype texts s n ≡ Err r → placed_at outside k.doctype texts s n ≡ Err r
refused-stays outside k texts s n r p h =
    ap (placed_lexed outside k.doctype (stacked_on s) (own_text k.doctype texts s n)) h ∙ ap (λ (z : Reason). Err z) p

-- as it is told
stays-told : (outside : Outside) (k : Sources) (texts : List (ℕ × Text)) (s : Stack) (n : ℕ) (r : Reason) (e : TakeError) → is_no_character (lexing.Refused r) ≡ false → e ≡ take_error.Refused r
    → IsStopped outside k texts s (lexed_at DeclarationText outside k.doctype texts s n) e → IsStopped outside k texts s (placed_at outside k.doctype texts s n) e
stays-told outside k texts s n r e other told h =
    subst (IsStopped outside k texts s (placed_at outside k.doctype texts s n)) (sym told)
    (refused-stays outside k texts s n r (placed-other outside k.doctype (stacked_on s) (own_text k.doctype texts s n) r other)
    (subst (IsStopped outside k texts s (lexed_at DeclarationText outside k.doctype texts s n)) told h))

wants-stays : (outside : Outside) (k : Sources) (texts : List (ℕ × Text)) (s : Stack) (n number : ℕ) (file : Text)
    → IsStopped outside k texts s (lexed_at DeclarationText outside k.doctype texts s n) (take_error.Wanted number file)
    → IsStopped outside k texts s (placed_at outside k.doctype texts s n) (take_error.Wanted number file)
wants-stays outside k texts s n number file h = record {
  high = h.high;
  declared = h.declared;
  unread = h.unread;
  absent = h.absent;
  named = h.named;
  missing = λ r m. refused-stays outside k texts s n r (placed-missing outside k.doctype (stacked_on s) (own_text k.doctype texts s n) (outside.fetched file) r m) (h.missing r m);
}

want-told : (c : Choices) (outside : Outside) (k : Sources) (texts : List (ℕ × Text)) (s : Stack) (n m : ℕ) (e : TakeError) → IsTold c k (lexing.Wanted m) e
    → IsStopped outside k texts s (lexed_at DeclarationText outside k.doctype texts s n) e → IsStopped outside k texts s (placed_at outside k.doctype texts s n) e
want-told c outside k texts s n m (take_error.Refused r) told h =
    stays-told outside k texts s n r (take_error.Refused r) (ap (λ (z : Reason). is_no_character (lexing.Refused z)) told.0) refl h
want-told c outside k texts s n m (take_error.Wanted number file) told h = wants-stays outside k texts s n number file h
want-told c outside k texts s n m take_error.Memory told h = tt

stays : (c : Choices) (outside : Outside) (k : Sources) (texts : List (ℕ × Text)) (s : Stack) (n : ℕ) (error : LexError) (e : TakeError) → is_no_character error ≡ false → IsTold c k error e
    → IsStopped outside k texts s (lexed_at DeclarationText outside k.doctype texts s n) e → IsStopped outside k texts s (placed_at outside k.doctype texts s n) e
stays c outside k texts s n (lexing.Refused r) e other told h = stays-told outside k texts s n r e other told h
stays c outside k texts s n (lexing.Wanted m) e other told h = want-told c outside k texts s n m e told h
stays c outside k texts s n lexing.NeedMore e other told h = stays-told outside k texts s n reason.Unclosed e refl told h
stays c outside k texts s n lexing.Memory e other told h = subst (IsStopped outside k texts s (placed_at outside k.doctype texts s n)) (sym told) tt

pub other-refused : (c : Choices) (outside : Outside) (k : Sources) (syntax : Syntax) (tables : Tables) (texts : List (ℕ × Text)) (s t : Stack) (n : ℕ) (error : LexError) (e : TakeError)
    → syntax ≡ k.doctype.syntax → tables.entities ≡ k.doctype.entities → AnswersError (asked DeclarationText syntax tables texts s true) error t → is_no_character error ≡ false → IsTold c k error e
    → IsAround c outside k texts s → Ends DeclarationText k.doctype texts s n → IsStopped outside k texts s (placed_at outside k.doctype texts s n) e
other-refused c outside k syntax tables texts s t n error e is same h other told a ends =
    stays c outside k texts s n error e other told
    (lexemes-stopped DeclarationText c outside k syntax tables texts s t true n error e is same h told a ends)

-- A REFERENCE TO NO CHARACTER: its end is reached, or isn't
no-character-by : (outside : Outside) (k : Sources) (texts : List (ℕ × Text)) (s : Stack) (n : ℕ) (end : Bool) (e : TakeError) → lexed_at DeclarationText outside k.doctype texts s n ≡ Err reason.CharNumber
    → is_whole outside k.doctype (stacked_on s) (own_text k.doctype texts s n) ≡ end → TellsNoCharacter end e → IsStopped outside k texts s (placed_at outside k.doctype texts s n) e
no-character-by outside k texts s n end (take_error.Refused r) h whole told =
    ap (placed_lexed outside k.doctype (stacked_on s) (own_text k.doctype texts s n)) h
    ∙ ap (λ (b : Bool). Err (no_character_reason b)) whole
    ∙ ap (λ (z : Reason). Err z) (sym told)
no-character-by outside k texts s n end (take_error.Wanted number file) h whole told = absurd told
no-character-by outside k texts s n end take_error.Memory h whole told = tt

pub no-character-refused : (c : Choices) (outside : Outside) (k : Sources) (syntax : Syntax) (tables : Tables) (texts : List (ℕ × Text)) (s t : Stack) (n : ℕ) (error : LexError) (e : TakeError)
    → syntax ≡ k.doctype.syntax → tables.entities ≡ k.doctype.entities → AnswersError (asked DeclarationText syntax tables texts s true) error t → is_no_character error ≡ true
    → TellsNoCharacter (is_end_reached (asked DeclarationText syntax tables texts s true)) e
    → IsAround c outside k texts s → Ends DeclarationText k.doctype texts s n → IsStopped outside k texts s (placed_at outside k.doctype texts s n) e
no-character-refused c outside k syntax tables texts s t n (lexing.Refused reason.CharNumber) e is same h none told a ends =
    no-character-by outside k texts s n (is_end_reached (asked DeclarationText syntax tables texts s true)) e
    (lexemes-stopped DeclarationText c outside k syntax tables texts s t true n (lexing.Refused reason.CharNumber) (take_error.Refused reason.CharNumber) is same h refl a ends)
    (whole-reached c outside k syntax tables texts s t true n reason.CharNumber is same h a ends) told
no-character-refused c outside k syntax tables texts s t n (lexing.Refused _) e is same h none told a ends = cc none
no-character-refused c outside k syntax tables texts s t n (lexing.Wanted m) e is same h none told a ends = cc none
no-character-refused c outside k syntax tables texts s t n lexing.NeedMore e is same h none told a ends = cc none
no-character-refused c outside k syntax tables texts s t n lexing.Memory e is same h none told a ends = cc none
