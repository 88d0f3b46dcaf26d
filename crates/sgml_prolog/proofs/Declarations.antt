-- A declaration that is taken stands next, and why one doesn't.
use Rattle.std.proofs.Common.{◌≡◌, ℕ, ◌+◌, ◌-◌, ◌≤◌, Bool, true, false, not, ◌&&◌, List, [], ◌∷◌, Option, None, Some, Result, Ok, Err, length, take, refl, sym, ◌∙◌, ap, subst, length-take-le, if◌then◌else◌}
use Rattle.std.specs.Prelude.{reverse, codes, IsSome}
use Rattle.std.specs.Option.{option_or}
use Rattle.std.proofs.lemmas.List.{reverse-reverse}
use Rattle.sgml_text.specs.declared.reason.Reason.{Reason}
use Rattle.sgml_entity.specs.Stack.{Stack, moved}
use Rattle.sgml_declared.specs.decl_parts.declared.ends.Construct.TheVariants as construct
use Rattle.sgml_declared.specs.decl_forms.declared.declaration.Declaration.{Declaration}
use Rattle.sgml_declared.specs.decl_forms.declared.declaration.Declaration.TheVariants as form
use Rattle.sgml_scan.specs.markup.declared.kinds.TokenKind.TheVariants as kind
use Rattle.sgml_scan.specs.declared.state.Token.{Token}
use Rattle.sgml_dtd.specs.Doctypes.{Doctype, with_declared}
use Rattle.sgml_declared.specs.theory_reading.Names.{Name, Text}
use Rattle.sgml_declared.specs.theory_reading.Pieces.{Piece, Kind, Declare}
use Rattle.sgml_declared.specs.theory_reading.Facets.{Stage, OpensText, StaysInText, turn, NoBorder, border, declares, subset_named, stage_after, stage_begun}
use Rattle.sgml_declared.specs.theory_reading.Unread.{Outside, turned, opened_length}
use Rattle.sgml_declared.specs.theory_reading.Sections.{sections_after}
use Rattle.sgml_declared.specs.theory_reading.State.{State, sources_in}
use Rattle.sgml_declared.specs.theory_reading.Characters.{kind_noted}
use Rattle.sgml_declared.specs.theory_spelling.Decided.{is_before}
use Rattle.sgml_declared.specs.theory_spelling.Declared.{lexed}
use Rattle.sgml_declared.specs.theory_spelling.SgmlDeclared.{has_keyword, sgml_piece, misplaced}
use Rattle.sgml_declared.specs.theory_spelling.Prolog.{declaration_piece, declared_lexed}
use Rattle.sgml_declared.specs.theory_standing.Kept.{Kept, kept_after, sources_of}
use Rattle.sgml_declared.specs.theory_standing.Prologs.{is_of_prolog, state_in_prolog, is_over}
use Rattle.sgml_declared.specs.theory_standing.Next.{after, text_after, IsThere, IsNext}
use Rattle.sgml_declared.proofs.theory_standing.Entities.{Longer, longer}
use Rattle.sgml_declared.specs.Files.{Choices}
use Rattle.sgml_declared.specs.declared.error.TakeError.{TakeError}
use Rattle.sgml_declared.specs.Taking.{stacked_on, Ends, declaration_spelled, is_declare, DeclarationIsTaken, DeclarationIsStopped}
use Rattle.sgml_declared.specs.Over.{IsOver, IsMore}
use Rattle.sgml_prolog_steps.specs.Standing.{IsKept}
use Rattle.sgml_prolog_steps.specs.Found.{rest_in, mode_of, IsWhole, IsSpelled, IsTokenThere}
use Rattle.sgml_prolog_steps.specs.declared.sort.Sort.TheVariants as sort
use Rattle.sgml_prolog_steps.specs.declared.stepping.Turn.TheVariants as turns
use Rattle.sgml_prolog_steps.specs.declared.stepping.Stop.TheVariants as stop
use Rattle.sgml_prolog_steps.specs.Sorts.{sort_in}
use Rattle.sgml_prolog_steps.specs.Steps.{is_instruction, IsOutside, AreSilentNext, IsStep, stop_of}
use Rattle.sgml_prolog_steps.proofs.Shared.{inside-begun, length-first, add-none, refused, refused-step}
use Rattle.sgml_prolog_steps.proofs.Constructs.{around, stopped-step}
use Rattle.sgml_prolog_steps.specs.Misplaced.{sgml_reason}
use Rattle.sgml_prolog.proofs.Tokens.{is-declaration, spelled-inside, declaration-inside}
use Rattle.sgml_prolog.proofs.Lexing.{read_over, over-is, step-read-over}

-- A PIECE that only declares
record IsDeclaring (x : Kind) : Type 0 where
  turn_is : turn x ≡ StaysInText
  border_is : border x ≡ NoBorder
  names_none : subset_named x ≡ None
  of_prolog : is_of_prolog x ≡ true
  noted : (s : State) → kind_noted s x ≡ x
  stage_is : (g : Stage) → stage_after x g ≡ stage_begun g
  silent : is_instruction x ≡ false
  syntax_stays : (d : Doctype) → (declares x d).syntax ≡ d.syntax
  name_stays : (d : Doctype) → IsSome d.name → IsSome (declares x d).name

declared-syntax : (base : Text) (d : Doctype) (says : Declaration) → (with_declared base d says).syntax ≡ d.syntax
declared-syntax base d (form.Element y) = refl
declared-syntax base d (form.Attlist y) = refl
declared-syntax base d (form.Entity y) = refl
declared-syntax base d (form.Notation y) = refl
declared-syntax base d (form.Shortref y) = refl
declared-syntax base d (form.Usemap y) = refl
declared-syntax base d (form.Doctype y) = refl

declared-name : (base : Text) (d : Doctype) (says : Declaration) → IsSome d.name → IsSome (with_declared base d says).name
declared-name base d (form.Element y) e = e
declared-name base d (form.Attlist y) e = e
declared-name base d (form.Entity y) e = e
declared-name base d (form.Notation y) e = e
declared-name base d (form.Shortref y) e = e
declared-name base d (form.Usemap y) e = e
declared-name base d (form.Doctype y) e = refl

declaring : (x : Kind) → is_declare x ≡ true → IsDeclaring x
unfolding turn border declares subset_named kind_noted stage_after
declaring (Declare lexemes says base) e = record {
  turn_is = refl;
  border_is = refl;
  names_none = refl;
  of_prolog = refl;
  noted = λ s. refl;
  stage_is = λ g. refl;
  silent = refl;
  syntax_stays = λ d. declared-syntax base d says;
  name_stays = λ d. declared-name base d says;
}
declaring _ e = absurd (cc)

-- after it
after-declared : (outside : Outside) (k : Kept) (p : Piece) (n : ℕ) → IsKept k → IsDeclaring p.kind → p.size ≡ n → is_before k.stage ≡ false
    → after outside p k ≡ read_over n p.spent (declares p.kind k.doctype) k
unfolding kept_after
after-declared outside k p n h x s b = λ i. record {
  doctype = declares p.kind k.doctype;
  stack = record {
    levels = (ap (λ y. y.quantities.entlvl) (x.syntax_stays k.doctype) ∙ sym h.levels) i;
    expand = k.stack.expand;
    spent = (ap (λ t. k.stack.spent + (p.spent + opened_length (text_after outside p k) t)) x.turn_is ∙ ap (λ m. k.stack.spent + m) (add-none p.spent)) i;
    places = (ap (λ t. turned t (moved p.size k.stack.places)) x.turn_is ∙ ap (λ m. moved m k.stack.places) s) i;
  };
  sections = (ap (λ b. reverse (sections_after b (length k.stack.places) (reverse k.sections))) x.border_is ∙ reverse-reverse k.sections) i;
  stage = (x.stage_is k.stage ∙ inside-begun k.stage b) i;
  subset = ap (λ o. option_or o k.subset) x.names_none i;
}

no-turn : (n : ℕ) → StaysInText ≡ OpensText n → ⊥
no-turn n e = cc

none-some : {A : Type 0} (a : A) → None ≡ Some a → ⊥
none-some a e = cc

there-declared : (outside : Outside) (k : Kept) (texts : List (ℕ × Text)) (p : Piece) → IsKept k → IsDeclaring p.kind → p.size ≤ length (rest_in k texts) → IsThere outside k texts p
there-declared outside k texts p h x l = record {
  within = subst (λ n. p.size ≤ n) (sym (length-first k texts h)) l;
  opened = λ n e. absurd (no-turn n (sym x.turn_is ∙ e));
  subset = λ named text e g. absurd (none-some named (sym x.names_none ∙ e));
}

next-declared : (outside : Outside) (k : Kept) (texts : List (ℕ × Text)) (ended : Bool) (p : Piece) → IsKept k → is_over k ≡ false → IsDeclaring p.kind
    → p.size ≤ length (rest_in k texts) → IsSpelled outside k texts ended (Ok p) → IsNext outside k texts ended p
next-declared outside k texts ended p h g x l s = record {
  going_on = g;
  of_prolog = x.of_prolog;
  decided = s.decided;
  spelled = s.spelled;
  noted = λ i. record { kind = x.noted (state_in_prolog k) i; size = p.size; spent = p.spent };
  there = there-declared outside k texts p h x l;
}

-- WHAT IS SPELLED
declared-as : (outside : Outside) (k : Kept) (texts : List (ℕ × Text)) (n : ℕ) → n ≤ length (rest_in k texts)
    → sgml_reason k.doctype.syntax.names (take n (rest_in k texts)) ≡ None
    → declaration_piece outside (sources_in (state_in_prolog k)) (stacked_on k.stack) (take n (rest_in k texts)) ≡ declaration_spelled outside (sources_of k) texts k.stack n
unfolding state_in_prolog
declared-as outside k texts n l e =
    by (has_keyword k.doctype.syntax.names (codes "SGML") own) e
    ∙ ap (λ m. declared_lexed outside (sources_of k) (stacked_on k.stack) m (lexed construct.Declaration outside k.doctype (stacked_on k.stack) own)) (length-take-le n (rest_in k texts) l)
  where
    own : Text
    own = take n (rest_in k texts)

    said : Result Piece Reason
    said = declared_lexed outside (sources_of k) (stacked_on k.stack) (length own) (lexed construct.Declaration outside k.doctype (stacked_on k.stack) own)

    by : (b : Bool) → (if b then Some (misplaced (sgml_piece own)) else None) ≡ None → (if b then Err (misplaced (sgml_piece own)) else said) ≡ said
    by true e = absurd (cc)
    by false e = refl

misplaced-as : (outside : Outside) (k : Kept) (texts : List (ℕ × Text)) (n : ℕ) (r : Reason) → sgml_reason k.doctype.syntax.names (take n (rest_in k texts)) ≡ Some r
    → declaration_piece outside (sources_in (state_in_prolog k)) (stacked_on k.stack) (take n (rest_in k texts)) ≡ Err r
unfolding state_in_prolog
misplaced-as outside k texts n r e = by (has_keyword k.doctype.syntax.names (codes "SGML") own) e
  where
    own : Text
    own = take n (rest_in k texts)

    by : (b : Bool) → (if b then Some (misplaced (sgml_piece own)) else None) ≡ Some r
        → (if b then Err (misplaced (sgml_piece own)) else declared_lexed outside (sources_of k) (stacked_on k.stack) (length own) (lexed construct.Declaration outside k.doctype (stacked_on k.stack) own)) ≡ Err r
    by true e = let same : misplaced (sgml_piece own) ≡ r = cc in ap Err same
    by false e = absurd (cc)

spelled-as : (outside : Outside) (k : Kept) (texts : List (ℕ × Text)) (ended : Bool) (x : Token) → sort_in k x.kind ≡ sort.Declaration → IsTokenThere k texts ended x
    → IsSpelled outside k texts ended (declaration_piece outside (sources_in (state_in_prolog k)) (stacked_on k.stack) (take x.length (rest_in k texts)))
spelled-as outside k texts ended x e there =
    let q = is-declaration k x.kind e in
    subst (λ (a : Result Piece Reason). IsSpelled outside k texts ended a)
    (declaration-inside outside (state_in_prolog k) (stacked_on k.stack) (mode_of k) (take x.length (rest_in k texts)))
    (spelled-inside outside k texts ended x kind.Declaration q.0 q.1 refl there)

pub ends-there : (k : Kept) (texts : List (ℕ × Text)) (ended : Bool) (x : Token) → sort_in k x.kind ≡ sort.Declaration → IsTokenThere k texts ended x
    → Ends construct.Declaration k.doctype texts k.stack x.length
ends-there k texts ended x e there = subst (λ y. IsWhole k texts y x.length) (is-declaration k x.kind e).1 there.whole

-- THE STEPS
pub misplaced-step : (c : Choices) (texts : List (ℕ × Text)) (ended : Bool) (asked : Option Name) (x : Token) (k : Kept) (r : Reason) → is_over k ≡ false → sort_in k x.kind ≡ sort.Declaration
    → IsTokenThere k texts ended x → sgml_reason k.doctype.syntax.names (take x.length (rest_in k texts)) ≡ Some r → IsStep c texts ended asked k k (Err (stop.Refused r))
misplaced-step c texts ended asked x k r g e there s =
    refused-step c texts ended asked k k r
    (λ outside o. refused outside k texts ended r g
    (subst (λ (a : Result Piece Reason). IsSpelled outside k texts ended a) (misplaced-as outside k texts x.length r s) (spelled-as outside k texts ended x e there))) refl

spelled-so : (outside : Outside) (k : Kept) (texts : List (ℕ × Text)) (ended : Bool) (x : Token) → sort_in k x.kind ≡ sort.Declaration → IsTokenThere k texts ended x
    → sgml_reason k.doctype.syntax.names (take x.length (rest_in k texts)) ≡ None → IsSpelled outside k texts ended (declaration_spelled outside (sources_of k) texts k.stack x.length)
spelled-so outside k texts ended x e there s =
    subst (λ (a : Result Piece Reason). IsSpelled outside k texts ended a) (declared-as outside k texts x.length there.within s) (spelled-as outside k texts ended x e there)

pub untaken-step : (c : Choices) (texts : List (ℕ × Text)) (ended : Bool) (asked : Option Name) (x : Token) (old new : Kept) (error : TakeError) → IsKept old → is_over old ≡ false
    → sort_in old x.kind ≡ sort.Declaration → IsTokenThere old texts ended x → sgml_reason old.doctype.syntax.names (take x.length (rest_in old texts)) ≡ None
    → DeclarationIsStopped c old.doctype old.subset texts old.stack error → new ≡ old → IsStep c texts ended asked old new (Err (stop_of error))
untaken-step c texts ended asked x old new error h g e there s stopped same =
    stopped-step c texts ended asked old new error (λ outside. declaration_spelled outside (sources_of old) texts old.stack x.length) g
    (λ outside. spelled-so outside old texts ended x e there s)
    (λ outside o. stopped outside x.length (around c outside old texts asked h o) (ends-there old texts ended x e there)) same

silent-declared : (c : Choices) (texts : List (ℕ × Text)) (ended : Bool) (asked : Option Name) (x : Token) (old new : Kept) → IsKept old → is_over old ≡ false
    → sort_in old x.kind ≡ sort.Declaration → IsTokenThere old texts ended x → sgml_reason old.doctype.syntax.names (take x.length (rest_in old texts)) ≡ None
    → DeclarationIsTaken c old.doctype old.subset texts new.doctype old.stack new.stack → new ≡ record old { doctype = new.doctype; stack = new.stack }
    → (outside : Outside) → IsOutside c outside old texts asked → AreSilentNext outside texts ended old new
silent-declared c texts ended asked x old new h g e there s taken same outside o =
    let t = taken outside x.length (around c outside old texts asked h o) (ends-there old texts ended x e there) in
    let p : Piece = t.0 in
    let d = declaring p.kind t.2 in
    let types : Doctype = declares p.kind old.doctype in
    let last : Kept = read_over x.length p.spent types old in
    let is : new ≡ last = same ∙ (λ i. record old { doctype = t.1.declared i; stack = t.1.stack i }) in
    let spelled = subst (λ (a : Result Piece Reason). IsSpelled outside old texts ended a) t.1.spelled (spelled-so outside old texts ended x e there s) in
    let next = next-declared outside old texts ended p h g d (subst (λ n. n ≤ length (rest_in old texts)) (sym t.1.size) there.within) spelled in
    subst (λ (z : Kept). AreSilentNext outside texts ended old z) (sym is)
    (p ∷ [], (next, sym (after-declared outside old p x.length h d t.1.size (is-declaration old x.kind e).0)), ap (λ y. not y && true) d.silent)

pub declared-step : (c : Choices) (texts : List (ℕ × Text)) (ended : Bool) (asked : Option Name) (x : Token) (old new : Kept) → IsKept old → is_over old ≡ false
    → sort_in old x.kind ≡ sort.Declaration → IsTokenThere old texts ended x → sgml_reason old.doctype.syntax.names (take x.length (rest_in old texts)) ≡ None
    → DeclarationIsTaken c old.doctype old.subset texts new.doctype old.stack new.stack → new ≡ record old { doctype = new.doctype; stack = new.stack }
    → IsOver construct.Declaration old.doctype texts old.stack new.stack → IsMore old.doctype new.doctype → IsStep c texts ended asked old new (Ok turns.Silent)
unfolding declares
declared-step c texts ended asked x old new h g e there s taken same over m =
    let at = over-is x.length old.stack new.stack (over x.length (ends-there old texts ended x e there)) in
    step-read-over c texts ended asked old new x.length (new.stack.spent - old.stack.spent) new.doctype h (is-declaration old x.kind e).0 there.some there.within
    (ap (λ (d : Doctype). d.syntax) m.is ∙ declared-syntax m.base old.doctype m.says)
    (subst (λ (d : Doctype). Longer old.doctype.entities d.entities) (sym m.is) (longer (Declare [] m.says m.base) old.doctype))
    (λ i. subst (λ (d : Doctype). IsSome d.name) (sym m.is) (declared-name m.base old.doctype m.says i))
    (same ∙ ap (λ (z : Stack). record old { doctype = new.doctype; stack = z }) at)
    (silent-declared c texts ended asked x old new h g e there s taken same)
