-- Declarations in content: the use of a map, and why none is taken.
use Rattle.std.proofs.Common.{◌≡◌, ℕ, ◌-◌, ◌≤◌, Bool, true, false, List, [], Option, None, Some, Result, Ok, Err, length, take, refl, sym, ◌∙◌, ap, subst, inl, inr, if◌then◌else◌}
use Rattle.std.specs.Prelude.{reverse, codes}
use Rattle.std.proofs.lemmas.List.{reverse-reverse, length-take-le}
use Rattle.sgml_text.specs.declared.reason.Reason.{Reason}
use Rattle.sgml_text.specs.declared.error.RefusalError.{RefusalError}
use Rattle.sgml_text.specs.declared.error.RefusalError.TheVariants.{Refused, Memory}
use Rattle.sgml_entity.specs.Stack.{Stack}
use Rattle.sgml_theory_reading.specs.records.Items.{Markup}
use Rattle.sgml_scan.specs.markup.declared.kinds.TokenKind.TheVariants as kind
use Rattle.sgml_scan.specs.declared.state.ScanState.{ScanState}
use Rattle.sgml_scan.specs.declared.state.Token.{Token}
use Rattle.sgml_decl_lexemes.specs.decl_parts.declared.ends.Construct.TheVariants as construct
use Rattle.sgml_decl_lexemes.specs.declared.lexeme.Lexeme.{Lexeme}
use Rattle.sgml_decl_forms.specs.declared.declaration.Declaration.{Declaration}
use Rattle.sgml_decl_forms.specs.declared.declaration.Declaration.TheVariants as form
use Rattle.sgml_decl_forms.specs.Declarations.{declaration_at}
use Rattle.sgml_dtd.specs.Doctypes.{Doctype}
use Rattle.sgml_dtd_maps.specs.Tables.{numbered_map}
use Rattle.sgml_theory_reading.specs.Names.{Text}
use Rattle.sgml_theory_reading.specs.Pieces.{Piece, UseMap}
use Rattle.sgml_theory_reading.specs.Facets.{turn, border, declares, subset_named, stage_after, effect, token, is_finish, is_omitted, items_of, map_set}
use Rattle.sgml_theory_reading.specs.Context.{Context}
use Rattle.sgml_theory_reading.specs.Events.{shown}
use Rattle.sgml_theory_reading.specs.Maps.{first_set}
use Rattle.sgml_theory_reading.specs.Sections.{sections_after}
use Rattle.sgml_theory_reading.specs.State.{State}
use Rattle.sgml_theory_reading.specs.Characters.{kind_noted}
use Rattle.sgml_theory_reading.specs.Unread.{Outside}
use Rattle.sgml_declared.specs.theory_spelling.Sized.{sized_spent, spent_ok}
use Rattle.sgml_declared.specs.theory_spelling.SgmlDeclared.{has_keyword, sgml_piece, misplaced}
use Rattle.sgml_declared.specs.theory_spelling.Declared.{Lexed, lexed}
use Rattle.sgml_declared.specs.theory_spelling.Content.{declared_kind, declared_piece, placed_reason, has_open}
use Rattle.sgml_declared.specs.theory_standing.Kept.{Kept, sources_of}
use Rattle.sgml_declared.specs.theory_standing.Held.{Held, state_of, IsSpelledIn}
use Rattle.sgml_content_steps.specs.sgml_infer.Trees.{context_in}
use Rattle.sgml_inside.specs.declared.inside.Inner.{Inner}
use Rattle.sgml_inside.specs.Inside.{noted_in, set_in}
use Rattle.sgml_inside.specs.Laws.{AreInForce}
use Rattle.sgml_inside.proofs.Forced.{noted-is-after, set-is-after, stays}
use Rattle.sgml_declared.specs.Files.{Choices}
use Rattle.sgml_declared.specs.declared.error.TakeError.{TakeError}
use Rattle.sgml_declared.specs.declared.error.TakeError.TheVariants as take_error
use Rattle.sgml_declared.specs.Reading.{AreTheLexemes}
use Rattle.sgml_declared.specs.Taking.{stacked_on, Ends, lexed_at, IsStopped}
use Rattle.sgml_prolog_steps.specs.Found.{rest_in}
use Rattle.sgml_prolog_steps.specs.Steps.{stop_of}
use Rattle.sgml_prolog_steps.specs.declared.stepping.Stop.{Stop}
use Rattle.sgml_prolog_steps.specs.declared.stepping.Stop.TheVariants as stop
use Rattle.sgml_content_steps.specs.Standing.{IsHeld}
use Rattle.sgml_content_steps.specs.Found.{IsTokenThere}
use Rattle.sgml_content_steps.proofs.Pieces.{declarations-are-pieces}
use Rattle.sgml_content_steps.specs.Content.{Content, Holds, IsContent, context_of}
use Rattle.sgml_content_steps.specs.Steps.{IsStep, TakesIn}
use Rattle.sgml_content_sections.specs.Changes.{changed}
use Rattle.sgml_content_sections.specs.Uses.{declared_in, map_set_in, IsUseRead, IsNoUse, placed_lexed, placed_at, LexemesAreRefused, IsRefusedBy, IsNotUsed, TellsUse, stop_for}
use Rattle.sgml_prolog_steps.specs.Misplaced.{sgml_reason}
use Rattle.sgml_content_sections.proofs.Quiet.{IsQuiet, IsInsideAfter, refused-step, memory-step, stopped-step, around}
use Rattle.sgml_content_sections.proofs.Steady.{IsSteady, read_by, steady-step}
use Rattle.sgml_content_sections.proofs.Starting.{over-is}

-- WHAT IS SAID, by the document type and whether an element is open
kind-in : (s : State) (o : Option Declaration) → declared_kind s o ≡ declared_in s.context.doctype (has_open s.context.levels) o
kind-in s None = refl
kind-in s (Some (form.Usemap u)) = refl
kind-in s (Some _) = refl

-- its own bytes
abbrev own_in : Kept → List (ℕ × Text) → Token → Text
own_in k texts t = take t.length (rest_in k texts)

abbrev piece_by : Outside → Held → Kept → List (ℕ × Text) → Token → Result Lexed Reason → Result Piece Reason
piece_by outside x k texts t said = declared_piece outside (state_of x) (stacked_on k.stack) (own_in k texts t) said

-- what the lexemes come to
abbrev lexed_in : Outside → Kept → List (ℕ × Text) → Token → Result Lexed Reason
lexed_in outside k texts t = lexed_at construct.Declaration outside k.doctype texts k.stack t.length

spelled : (st : ScanState) (texts : List (ℕ × Text)) (ended : Bool) (t : Token) (old : Content) (outside : Outside) (x : Held) (b : Bool) → IsTokenThere old.kept st texts ended t → t.kind ≡ kind.Declaration
    → has_keyword old.kept.doctype.syntax.names (codes "SGML") (own_in old.kept texts t) ≡ b → IsHeld old.kept st x
    → IsSpelledIn outside x texts ended (if b then Err (misplaced (sgml_piece (own_in old.kept texts t))) else piece_by outside x old.kept texts t (lexed_in outside old.kept texts t))
spelled st texts ended t old outside x b there k keyword held =
    let own = own_in old.kept texts t in
    let on = stacked_on old.kept.stack in
    let d : x.kept.doctype ≡ old.kept.doctype = ap (λ (z : Kept). z.doctype) held.kept in
    subst (λ (a : Result Piece Reason). IsSpelledIn outside x texts ended a)
    ((λ i. if has_keyword (d i).syntax.names (codes "SGML") own then Err (misplaced (sgml_piece own))
    else declared_piece outside (state_of x) on own (lexed construct.Declaration outside (d i) on own))
    ∙ ap (λ z. if z then Err (misplaced (sgml_piece own)) else piece_by outside x old.kept texts t (lexed_in outside old.kept texts t)) keyword)
    (declarations-are-pieces old.kept st texts ended t there k outside x held)

-- AN SGML DECLARATION
reason-by : (b : Bool) (r s : Reason) → (if b then Some s else None) ≡ Some r → (b ≡ true) × (s ≡ r)
reason-by true r s e = (refl, cc)
reason-by false r s e = cc e

none-by : (b : Bool) (s : Reason) → (if b then Some s else None) ≡ None → b ≡ false
none-by true s e = cc e
none-by false s e = refl

pub sgml-step : (c : Choices) (texts : List (ℕ × Text)) (t : Token) (old : Content) (r : Reason) → IsContent old → t.kind ≡ kind.Declaration
    → sgml_reason old.kept.doctype.syntax.names (own_in old.kept texts t) ≡ Some r → TakesIn c texts t old old [] (Err (stop.Refused r))
sgml-step c texts t old r is k said st ended there =
    let own = own_in old.kept texts t in
    let both = reason-by (has_keyword old.kept.doctype.syntax.names (codes "SGML") own) r (misplaced (sgml_piece own)) said in
    refused-step c st texts ended old r is
    (λ outside x o h held.
    subst (λ z. IsSpelledIn outside x texts ended (Err z)) both.1 (spelled st texts ended t old outside x true there k both.0 held))

pub memory-use : (c : Choices) (texts : List (ℕ × Text)) (t : Token) (old : Content) → IsContent old → TakesIn c texts t old old [] (Err stop.Memory)
memory-use c texts t old is st ended there = memory-step c st texts ended old is

-- WHETHER AN ELEMENT IS OPEN in what is held
open-held : (old : Content) (x : Held) (inside : Bool) → Holds old x → ((d : Doctype) → inside ≡ has_open (context_in d old.tree).levels)
    → has_open (state_of x).context.levels ≡ inside
open-held old x inside h is = ap (λ (z : Context). has_open z.levels) h.context ∙ sym (is old.kept.doctype)

says-held : (old : Content) (x : Held) (inside : Bool) (o : Option Declaration) → x.kept ≡ old.kept → has_open (state_of x).context.levels ≡ inside
    → declared_kind (state_of x) o ≡ declared_in old.kept.doctype inside o
says-held old x inside o e is = kind-in (state_of x) o ∙ (λ i. declared_in (e i).doctype (is i) o)

-- THE USE OF A MAP
quiet : (number : Option ℕ) → IsQuiet (UseMap number)
unfolding token effect is_finish is_omitted kind_noted shown items_of
quiet number = record { is_alone = record { stands = refl; of_content = refl; written = refl; noted = λ s. refl }; tells = λ y n spent. refl; names_none = refl }

steady : (number : Option ℕ) → IsSteady (UseMap number)
unfolding turn declares subset_named stage_after
steady number = record { turn_is = refl; declares_none = λ d. refl; names_none = refl; stays = refl }

same-sections : (k : Kept) (number : Option ℕ) → reverse (sections_after (border (UseMap number)) (length k.stack.places) (reverse k.sections)) ≡ k.sections
unfolding border
same-sections k number = reverse-reverse k.sections

inside-after : (number : Option ℕ) (xs : List Inner) → IsInsideAfter (UseMap number) xs (set_in (numbered_map number) (noted_in Markup xs))
unfolding items_of map_set
inside-after number xs =
    let m = numbered_map number in
    let noted = noted_in Markup xs in record {
      ends = (set-is-after m noted).0 ∙ (noted-is-after Markup xs).0;
      settings = (set-is-after m noted).1 ∙ ap (first_set m) (noted-is-after Markup xs).1;
    }

in-force : (c : Content) (number : Option ℕ) → IsContent c → AreInForce c.kept.doctype (context_of c).levels (set_in (numbered_map number) (noted_in Markup c.inside.elements))
in-force c number is =
    let ls = (context_of c).levels in
    let noted = (stays c.kept.doctype ls c.inside.elements is.maps).noted Markup in
    (stays c.kept.doctype ls (noted_in Markup c.inside.elements) noted).set (numbered_map number)

use-piece : (outside : Outside) (x : Held) (texts : List (ℕ × Text)) (t : Token) (k : Kept) (s : Stack) (ds : List Lexeme) (number : Option ℕ) → t.length ≤ length (rest_in k texts)
    → lexed_in outside k texts t ≡ Ok (record { lexemes = ds; spent = s.spent }) → declared_kind (state_of x) (declaration_at ds) ≡ Ok (UseMap number)
    → piece_by outside x k texts t (lexed_in outside k texts t) ≡ Ok (sized_spent t.length (s.spent - k.stack.spent) (UseMap number))
use-piece outside x texts t k s ds number w e says =
    ap (piece_by outside x k texts t) e
    ∙ (λ i. spent_ok (length-take-le t.length (rest_in k texts) w i) (s.spent - k.stack.spent) (says i))

pub use-step : (c : Choices) (texts : List (ℕ × Text)) (t : Token) (old new : Content) (now : Kept) (inside : Bool) (number : Option ℕ) → IsContent old → t.kind ≡ kind.Declaration
    → sgml_reason old.kept.doctype.syntax.names (own_in old.kept texts t) ≡ None → Ends construct.Declaration old.kept.doctype texts old.kept.stack t.length
    → ((d : Doctype) → inside ≡ has_open (context_in d old.tree).levels)
    → IsUseRead c texts inside old.kept now number
    → new ≡ map_set_in number (record old { kept = now }) → TakesIn c texts t old new [] (Ok tt)
use-step c texts t old new now inside number is k other ends is_open read e st ended there =
    let s = read.stack in
    let n = t.length in
    let at : s ≡ read_by n (s.spent - old.kept.stack.spent) old.kept.stack = over-is n old.kept.stack s (read.over n ends) in
    let xs = set_in (numbered_map number) (noted_in Markup old.inside.elements) in
    let keyword = none-by (has_keyword old.kept.doctype.syntax.names (codes "SGML") (own_in old.kept texts t)) (misplaced (sgml_piece (own_in old.kept texts t))) other in
    let same : new ≡ changed s old.kept.sections xs old = e ∙ ap (λ (z : Kept). map_set_in number (record old { kept = z })) read.kept in
    subst (λ (z : Content). IsStep c st texts ended old z [] (Ok tt)) (sym same)
    (steady-step c st texts ended t old (UseMap number) s old.kept.sections xs (s.spent - old.kept.stack.spent) is there (quiet number) (steady number) (same-sections old.kept number)
    (inside-after number old.inside.elements) (in-force old number is) at
    (λ outside x o h held.
    let lexemes = read.are outside n (around c outside old.kept texts is.instance o) ends in
    let says = says-held old x inside (declaration_at read.lexemes) held.kept (open-held old x inside h is_open) ∙ read.says in (
      sized_spent n (s.spent - old.kept.stack.spent) (UseMap number),
      refl,
      refl,
      at,
      subst (λ (a : Result Piece Reason). IsSpelledIn outside x texts ended a) (use-piece outside x texts t old.kept s read.lexemes number there.within lexemes.lexed says)
          (spelled st texts ended t old outside x false there k keyword held),
    )))

-- WHY NONE IS TAKEN
no-use : (c : Choices) (texts : List (ℕ × Text)) (t : Token) (old : Content) (inside : Bool) (r : Reason) → IsContent old → t.kind ≡ kind.Declaration
    → sgml_reason old.kept.doctype.syntax.names (own_in old.kept texts t) ≡ None → Ends construct.Declaration old.kept.doctype texts old.kept.stack t.length
    → ((d : Doctype) → inside ≡ has_open (context_in d old.tree).levels)
    → IsNoUse c texts inside old.kept r → TakesIn c texts t old old [] (Err (stop.Refused r))
no-use c texts t old inside r is k other ends is_open read st ended there =
    let keyword = none-by (has_keyword old.kept.doctype.syntax.names (codes "SGML") (own_in old.kept texts t)) (misplaced (sgml_piece (own_in old.kept texts t))) other in
    refused-step c st texts ended old r is
    (λ outside x o h held.
    let lexemes = read.are outside t.length (around c outside old.kept texts is.instance o) ends in
    let says = says-held old x inside (declaration_at read.lexemes) held.kept (open-held old x inside h is_open) ∙ read.says in
    subst (λ (a : Result Piece Reason). IsSpelledIn outside x texts ended a)
    (ap (piece_by outside x old.kept texts t) lexemes.lexed
    ∙ ap (spent_ok (length (own_in old.kept texts t)) (read.stack.spent - old.kept.stack.spent)) says)
    (spelled st texts ended t old outside x false there k keyword held))

abbrev lexed-err : Reason → Result Lexed Reason
lexed-err r = Err r

err-is : (a b : Reason) → lexed-err a ≡ lexed-err b → a ≡ b
err-is a b e = cc e

-- the reason against its lexemes is the one against the piece
refused-piece : (outside : Outside) (x : Held) (k : Kept) (texts : List (ℕ × Text)) (t : Token) (r : Reason) (said : Result Lexed Reason) → x.kept ≡ k
    → placed_lexed outside k.doctype (stacked_on k.stack) (own_in k texts t) said ≡ Err r → piece_by outside x k texts t said ≡ Err r
refused-piece outside x k texts t r (Err q) same e =
    ap (λ (z : Kept). Err (placed_reason outside z.doctype (stacked_on k.stack) (own_in k texts t) q)) same
    ∙ ap (λ (z : Reason). Err z) (err-is (placed_reason outside k.doctype (stacked_on k.stack) (own_in k texts t) q) r e)
refused-piece outside x k texts t r (Ok y) same e = cc e

refused-stopped : (outside : Outside) (x : Held) (k : Kept) (texts : List (ℕ × Text)) (t : Token) (e : TakeError) → x.kept ≡ k
    → IsStopped outside (sources_of k) texts k.stack (placed_at outside k.doctype texts k.stack t.length) e
    → IsStopped outside (sources_of k) texts k.stack (piece_by outside x k texts t (lexed_in outside k texts t)) e
refused-stopped outside x k texts t (take_error.Refused r) same h = refused-piece outside x k texts t r (lexed_in outside k texts t) same h
refused-stopped outside x k texts t (take_error.Wanted number file) same h = record {
  high = h.high;
  declared = h.declared;
  unread = h.unread;
  absent = h.absent;
  named = h.named;
  missing = λ r m. refused-piece outside x k texts t r (lexed_in outside k texts t) same (h.missing r m);
}
refused-stopped outside x k texts t take_error.Memory same h = tt

no-lexemes : (c : Choices) (texts : List (ℕ × Text)) (t : Token) (old : Content) (s : Stop) → IsContent old → t.kind ≡ kind.Declaration
    → sgml_reason old.kept.doctype.syntax.names (own_in old.kept texts t) ≡ None → Ends construct.Declaration old.kept.doctype texts old.kept.stack t.length
    → IsRefusedBy c texts old.kept s → TakesIn c texts t old old [] (Err s)
no-lexemes c texts t old s is k other ends by st ended there =
    let keyword = none-by (has_keyword old.kept.doctype.syntax.names (codes "SGML") (own_in old.kept texts t)) (misplaced (sgml_piece (own_in old.kept texts t))) other in
    subst (λ z. IsStep c st texts ended old old [] (Err z)) (sym by.told)
    (stopped-step c st texts ended old by.error (λ outside x. piece_by outside x old.kept texts t (lexed_in outside old.kept texts t)) is
    (λ outside x held. spelled st texts ended t old outside x false there k keyword held)
    (λ outside x o h. refused-stopped outside x old.kept texts t by.error h.kept (by.refused outside t.length (around c outside old.kept texts is.instance o) ends)))

pub unused-step : (c : Choices) (texts : List (ℕ × Text)) (t : Token) (old new : Content) (inside : Bool) (s : Stop) → IsContent old → t.kind ≡ kind.Declaration
    → sgml_reason old.kept.doctype.syntax.names (own_in old.kept texts t) ≡ None → Ends construct.Declaration old.kept.doctype texts old.kept.stack t.length
    → ((d : Doctype) → inside ≡ has_open (context_in d old.tree).levels)
    → IsNotUsed c texts inside old.kept s → new ≡ old → TakesIn c texts t old new [] (Err s)
unused-step c texts t old new inside s is k other ends is_open (inl by) same =
    subst (λ (z : Content). TakesIn c texts t old z [] (Err s)) (sym same) (no-lexemes c texts t old s is k other ends by)
unused-step c texts t old new inside s is k other ends is_open (inr (r, told, read)) same =
    subst (λ (z : Content). TakesIn c texts t old z [] (Err s)) (sym same)
    (subst (λ z. TakesIn c texts t old old [] (Err z)) (sym told) (no-use c texts t old inside r is k other ends is_open read))

-- THE ERROR that is told
pub refused-unused : (c : Choices) (texts : List (ℕ × Text)) (inside : Bool) (k : Kept) (e : TakeError) (s : Stop) → LexemesAreRefused c k.doctype k.subset texts k.stack e → s ≡ stop_of e
    → IsNotUsed c texts inside k s
refused-unused c texts inside k e s h told = inl (record { error = e; told = told; refused = h })

pub said-unused : (c : Choices) (texts : List (ℕ × Text)) (inside : Bool) (k : Kept) (ds : List Lexeme) (s : Stack) (error : RefusalError) (u : Stop)
    → AreTheLexemes construct.Declaration c k.doctype k.subset texts k.stack s ds → TellsUse (declared_in k.doctype inside (declaration_at ds)) (Err error) → u ≡ stop_for error
    → IsNotUsed c texts inside k u
said-unused c texts inside k ds s (Refused r) u are says same = inr (r, same, record { lexemes = ds; stack = s; are = are; says = says })
said-unused c texts inside k ds s Memory u are says same = inl (record { error = take_error.Memory; told = same; refused = λ outside n a ends. tt })
