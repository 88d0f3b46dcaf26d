-- The status of a section start.
use Rattle.std.proofs.Common.{◌≡◌, ℕ, Bool, true, false, ◌&&◌, ◌||◌, ◌-◌, not, List, [], ◌∷◌, length, nat_lt, Ok, Err, refl, sym, ap, ◌∙◌, rules, tests, Option}
use Rattle.std.proofs.lemmas.List.{length-take-le}
use Rattle.sgml_text.specs.declared.reason.Reason.{Reason}
use Rattle.sgml_syntax.specs.declared.syntax.Syntax.{Syntax}
use Rattle.sgml_decl_forms.specs.delim.declared.delim.Delim.{Delim}
use Rattle.sgml_decl_forms.specs.delim.declared.delim.Delim.TheVariants as delim
use Rattle.sgml_names.specs.Naming.{is_long}
use Rattle.sgml_entity.specs.Stack.{Stack, moved}
use Rattle.sgml_marked.specs.declared.status.Status.{Status}
use Rattle.sgml_marked.specs.Keywords.{is_keyword, status_by}
use Rattle.sgml_decl_lexemes.specs.decl_parts.declared.form.Form.TheVariants as f
use Rattle.sgml_decl_lexemes.specs.decl_parts.declared.ends.Construct.TheVariants as construct
use Rattle.sgml_decl_lexemes.proofs.decl_parts.Continuing.{end_within}
use Rattle.sgml_decl_lexemes.specs.declared.lexeme.Lexeme.{Lexeme}
use Rattle.sgml_decl_lexemes.specs.declared.lexeme.Lexeme.TheVariants.{Name, Token, Reserved, Literal, Value, Sign}
use Rattle.sgml_decl_lexemes.specs.Lengths.{has_long_name}
use Rattle.sgml_decl_lexemes.specs.Readings.{first_due}
use Rattle.sgml_dtd.specs.Doctypes.{Doctype}
use Rattle.sgml_theory_standing.specs.theory_reading.Names.{Text}
use Rattle.sgml_theory_standing.specs.theory_reading.Pieces.{Piece, SectionStart}
use Rattle.sgml_theory_standing.specs.theory_reading.Facets.{ExternalSubset, declares}
use Rattle.sgml_theory_standing.specs.theory_reading.Unread.{Outside, Sources}
use Rattle.sgml_theory_standing.specs.theory_spelling.Sized.{sized_spent}
use Rattle.sgml_theory_standing.specs.theory_spelling.Content.{section_by, section_of, section_start, keywords_in}
use Rattle.sgml_declared.specs.Files.{Choices, sources_in}
use Rattle.sgml_declared.specs.declared.error.TakeError.{TakeError}
use Rattle.sgml_declared.specs.Taking.{Ends, rest_at_top, own_text, stacked_on, lexed_at, IsTaken, section_spelled, StatusIsStopped}
use Rattle.sgml_declared.specs.Reading.{AreLexemes, LexemesAreStopped}
use Rattle.sgml_declared.specs.Statuses.{has_long_status}
use Rattle.sgml_declared.proofs.Taken.{grown-by, stopped-so}

-- WORDS THAT ARE TOO LONG

-- after the end, or what can't go on, none is limited
none-broken : (syntax : Syntax) (cdata : Bool) (ds : List Lexeme) → has_long_name syntax (record { form = f.Broken; cdata = cdata }) ds ≡ false
none-broken syntax cdata [] = refl
none-broken syntax cdata (Name n ∷ ds) = none-broken syntax cdata ds
none-broken syntax cdata (Token n ∷ ds) = none-broken syntax cdata ds
none-broken syntax cdata (Reserved n ∷ ds) = none-broken syntax cdata ds
none-broken syntax cdata (Literal n ∷ ds) = none-broken syntax cdata ds
none-broken syntax cdata (Value n ∷ ds) = none-broken syntax cdata ds
none-broken syntax cdata (Sign n ∷ ds) = none-broken syntax cdata ds

none-whole : (syntax : Syntax) (cdata : Bool) (ds : List Lexeme) → has_long_name syntax (record { form = f.Whole; cdata = cdata }) ds ≡ false
none-whole syntax cdata [] = refl
none-whole syntax cdata (Name n ∷ ds) = none-broken syntax cdata ds
none-whole syntax cdata (Token n ∷ ds) = none-broken syntax cdata ds
none-whole syntax cdata (Reserved n ∷ ds) = none-broken syntax cdata ds
none-whole syntax cdata (Literal n ∷ ds) = none-broken syntax cdata ds
none-whole syntax cdata (Value n ∷ ds) = none-broken syntax cdata ds
none-whole syntax cdata (Sign n ∷ ds) = none-broken syntax cdata ds

-- no word is too long that has no byte
never-less : (n : ℕ) → nat_lt n 0 ≡ false
never-less n = search (rules, tests)

empty-short : (syntax : Syntax) (b : Bool) → (not (is_keyword []) && is_long syntax []) || b ≡ b
empty-short syntax b = ap (λ x. (not (is_keyword []) && x) || b) (never-less syntax.quantities.namelen)

sign-none : (syntax : Syntax) (d : Delim) (ds : List Lexeme) → has_long_name syntax (first_due construct.SectionStart) (Sign d ∷ ds) ≡ false
sign-none syntax delim.Dso ds = empty-short syntax (has_long_name syntax (record { form = f.Whole; cdata = false }) ds) ∙ none-whole syntax false ds
sign-none syntax _ ds = empty-short syntax (has_long_name syntax (record { form = f.Broken; cdata = false }) ds) ∙ none-broken syntax false ds

or-false : (a b : Bool) → b ≡ false → (a || b) ≡ a
or-false true b e = refl
or-false false b e = e

pub long_status_is : (syntax : Syntax) (ds : List Lexeme) → has_long_status syntax ds ≡ has_long_name syntax (first_due construct.SectionStart) ds
long_status_is syntax [] = refl
long_status_is syntax (Name n ∷ ds) = ap (λ b. (not (is_keyword n) && is_long syntax n) || b) (long_status_is syntax ds)
long_status_is syntax (Token n ∷ ds) =
    sym (or-false (not (is_keyword n) && is_long syntax n) (has_long_name syntax (record { form = f.Broken; cdata = false }) ds) (none-broken syntax false ds))
long_status_is syntax (Reserved n ∷ ds) =
    sym (empty-short syntax (has_long_name syntax (record { form = f.Broken; cdata = false }) ds) ∙ none-broken syntax false ds)
long_status_is syntax (Literal n ∷ ds) =
    sym (empty-short syntax (has_long_name syntax (record { form = f.Broken; cdata = false }) ds) ∙ none-broken syntax false ds)
long_status_is syntax (Value n ∷ ds) =
    sym (empty-short syntax (has_long_name syntax (record { form = f.Broken; cdata = false }) ds) ∙ none-broken syntax false ds)
long_status_is syntax (Sign d ∷ ds) = sym (sign-none syntax d ds)

-- THE PIECE

own-length : (c : Choices) (outside : Outside) (k : Sources) (texts : List (ℕ × Text)) (s : Stack) (n : ℕ) → Ends construct.SectionStart k.doctype texts s n
    → length (own_text k.doctype texts s n) ≡ n
own-length c outside k texts s n e =
    let end = end_within k.doctype.syntax.names construct.SectionStart (rest_at_top k.doctype.entities texts s) n e.ends in
    length-take-le n (rest_at_top k.doctype.entities texts s) end.few

spelled-as : (outside : Outside) (k : Sources) (texts : List (ℕ × Text)) (s t : Stack) (n : ℕ) (ds : List Lexeme) (in_type : Bool) → AreLexemes construct.SectionStart outside k texts s t n ds
    → section_spelled in_type outside k texts s n
    ≡ section_of k.doctype.syntax ds in_type (length (own_text k.doctype texts s n)) (t.spent - s.spent) (status_by (keywords_in ds))
unfolding section_start
spelled-as outside k texts s t n ds in_type x = ap (section_by k.doctype.syntax (stacked_on s) in_type (length (own_text k.doctype texts s n))) x.lexed

pub status-taken : (c : Choices) (outside : Outside) (k : Sources) (texts : List (ℕ × Text)) (s t : Stack) (n : ℕ) (ds : List Lexeme) (in_type : Bool) (status : Status)
    → ((size spent : ℕ) → section_of k.doctype.syntax ds in_type size spent (status_by (keywords_in ds)) ≡ Ok (sized_spent size spent (SectionStart status)))
    → Ends construct.SectionStart k.doctype texts s n → AreLexemes construct.SectionStart outside k texts s t n ds
    → (p : Piece) × IsTaken (section_spelled in_type outside k texts s n) n p k.doctype k.doctype s t × (p.kind ≡ SectionStart status)
unfolding declares
status-taken c outside k texts s t n ds in_type status told ends x =
    let size = length (own_text k.doctype texts s n) in (
      sized_spent size (t.spent - s.spent) (SectionStart status),
      record {
        spelled = spelled-as outside k texts s t n ds in_type x ∙ told size (t.spent - s.spent);
        size = own-length c outside k texts s n ends;
        declared = refl;
        stack = x.stack ∙ ap (λ z. record s { spent = z; places = moved n s.places }) (grown-by s.spent t.spent x.grown);
      },
      refl,
    )

pub status-stopped : (c : Choices) (d : Doctype) (subset : Option ExternalSubset) (texts : List (ℕ × Text)) (s : Stack) (e : TakeError) (in_type : Bool)
    → LexemesAreStopped construct.SectionStart c d subset texts s e → StatusIsStopped in_type c d subset texts s e
unfolding section_start
status-stopped c d subset texts s e in_type h outside n a ends =
    stopped-so outside (sources_in d subset) texts s (lexed_at construct.SectionStart outside d texts s n) e
    (section_by d.syntax (stacked_on s) in_type (length (own_text d texts s n))) (λ r. refl) (h outside n a ends)

pub status-refused : (outside : Outside) (k : Sources) (texts : List (ℕ × Text)) (s t : Stack) (n : ℕ) (ds : List Lexeme) (in_type : Bool) (r : Reason)
    → ((size spent : ℕ) → section_of k.doctype.syntax ds in_type size spent (status_by (keywords_in ds)) ≡ Err r)
    → AreLexemes construct.SectionStart outside k texts s t n ds → section_spelled in_type outside k texts s n ≡ Err r
status-refused outside k texts s t n ds in_type r told x =
    spelled-as outside k texts s t n ds in_type x ∙ told (length (own_text k.doctype texts s n)) (t.spent - s.spent)
