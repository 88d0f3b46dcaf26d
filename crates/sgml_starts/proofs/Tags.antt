-- What the tag of a start specifies, and where the stack stands after it.
use Rattle.std.proofs.Common.{◌≡◌, ◌≢◌, ◌<◌, ◌≤◌, ◌+◌, ◌-◌, ◌^◌, ◌∷◌, ℕ, zero, suc, List, [], Option, Some, None, Result, Ok, Err, refl, sym, ap, ◌∙◌, subst, arith, length, take, drop}
use Rattle.std.specs.Prelude.{OnOk}
use Rattle.sgml_text.specs.declared.place.Place.{Place}
use Rattle.sgml_syntax.specs.declared.syntax.Syntax.{Syntax}
use Rattle.sgml_entity.specs.Entities.{Tables}
use Rattle.sgml_entity.specs.Stack.{Stack, moved_to, offset_of}
use Rattle.sgml_attr.specs.declared.definition.Spec.{Spec}
use Rattle.sgml_markup.specs.declared.kinds.Part.{Part}
use Rattle.sgml_markup.specs.declared.kinds.PartKind.TheVariants as part
use Rattle.sgml_decl_lexemes.specs.declared.lexeme.Lexeme.{Lexeme}
use Rattle.sgml_decl_lexemes.specs.declared.fault.LexError.{LexError}
use Rattle.sgml_decl_lexemes.specs.Sources.{text_at, or_empty}
use Rattle.sgml_decl_lexemes.specs.Readings.{entity_of}
use Rattle.sgml_dtd.specs.Doctypes.{Doctype}
use Rattle.sgml_starts.specs.declared.error.StartError.{StartError}
use Rattle.sgml_starts.specs.declared.error.StartError.TheVariants as error
use Rattle.sgml_starts.specs.declared.reading.Read.{Read}
use Rattle.sgml_starts.specs.Written.{written, written_at, written_from}
use Rattle.sgml_markup.specs.Forms.{parts_of_tag}
use Rattle.sgml_markup.specs.declared.kinds.PartKind.{PartKind}
use Rattle.sgml_starts.specs.Specified.{Input, Specified, rest, specified_from, specified}
use Rattle.sgml_starts.specs.Read.{IsNoLiteral, AnswersSo, IsRead, IsStopped, StandsAlike}
use Rattle.sgml_starts.specs.Starts.{input_of}
use Rattle.sgml_starts.proofs.Walked.{IsReading, asked_at, quoted-stops}
use Rattle.sgml_starts.proofs.Whole.{tables-are}

pub on-ok : {T E A B : Type 0} (r : Result T E) → OnOk r A → (A → B) → OnOk r B
on-ok (Ok x) h f = f h
on-ok (Err e) h f = tt

pub always-ok : {T E A : Type 0} (r : Result T E) → A → OnOk r A
always-ok (Ok x) a = a
always-ok (Err e) a = tt

-- A LITERAL that can't be read
answers-so : (x : Result (List Lexeme) LexError × Stack) (e : StartError) → e ≢ error.Memory → IsNoLiteral x e → AnswersSo x.0 e
answers-so x error.Memory d h = absurd (d refl)
answers-so x (error.Refused r) d h = h
answers-so x (error.Wanted n) d h = h

some-none : (o : Option StartError) (e : StartError) → o ≡ Some e → o ≡ None → ⊥
some-none o e s n = cc (sym s ∙ n)

pub stops : (I : Input) (tag : List ℕ) (name : Option (List ℕ)) (specs : List Spec) (t : Stack) (p : Part) (parts : List Part) → IsReading I tag name specs t (p ∷ parts)
    → (e : StartError) (after : Stack) (read : Read) → p.kind ≡ part.Quoted → IsNoLiteral (asked_at I tag p t) e → IsStopped specs e read
    → IsRead (specified_from I I.stack.spent (written I.syntax tag)) read after
stops I tag name specs t p parts r e after read k none h =
    let is = quoted-stops I tag name specs t p parts r e k (answers-so (asked_at I tag p t) e h.told none) in
    record {
      specs = h.before ∙ ap (λ (a : Specified). a.specs) is;
      stop = h.stop ∙ ap (λ (a : Specified). a.stop) is;
      spent = λ n. absurd (some-none read.stop e h.stop n);
    }

-- WHAT WAS READ is what the tag specifies
pub read-is : (syntax : Syntax) (d : Doctype) (texts : List (ℕ × List ℕ)) (stack : Stack) (size : ℕ) (t : Tables) (unread : List ℕ) (read : Read) (after : Stack)
    → t.entities ≡ d.entities → t.notations ≡ d.notations → unread ≡ drop (offset_of stack.places) (or_empty (text_at t.entities texts (entity_of stack.places)))
    → IsRead (specified_from (record { syntax = syntax; tables = t; texts = texts; stack = stack }) stack.spent (written syntax (take size unread))) read after
    → IsRead (specified (input_of syntax d texts stack) (Some size)) read after
read-is syntax d texts stack size t unread read after e n is h =
    subst (λ (z : Tables). IsRead (specified_from (record { syntax = syntax; tables = z; texts = texts; stack = stack }) stack.spent
    (written syntax (take size (drop (offset_of stack.places) (or_empty (text_at z.entities texts (entity_of stack.places))))))) read after)
    (tables-are d t e n)
    (subst (λ (u : List ℕ). IsRead (specified_from (record { syntax = syntax; tables = t; texts = texts; stack = stack }) stack.spent (written syntax (take size u))) read after) is h)

pub all-is : (all : Specified) (read : Read) (after : Stack) → IsRead all read after → record { specs = read.specs.items; stop = read.stop; spent = all.spent } ≡ all
all-is all read after h =
    ap (λ (ss : List Spec). record { specs = ss; stop = read.stop; spent = all.spent }) h.specs
    ∙ ap (λ (o : Option StartError). record { specs = all.specs; stop = o; spent = all.spent }) h.stop

-- without a tag nothing is read
pub nothing-is : (I : Input) (tag : Option ℕ) (read : Read) → tag ≡ None → read.specs.items ≡ [] → read.stop ≡ None
    → record { specs = read.specs.items; stop = read.stop; spent = I.stack.spent } ≡ specified I tag
nothing-is I tag read e specs stop =
    ap (λ (ss : List Spec). record { specs = ss; stop = read.stop; spent = I.stack.spent }) specs
    ∙ ap (λ (o : Option StartError). record { specs = []; stop = o; spent = I.stack.spent }) stop
    ∙ sym (ap (specified I) e)

pub tag-fits : (syntax : Syntax) (d : Doctype) (texts : List (ℕ × List ℕ)) (stack : Stack) (size at most : ℕ) (t : Tables) (unread : List ℕ) → t.entities ≡ d.entities → t.notations ≡ d.notations
    → unread ≡ drop (offset_of stack.places) (or_empty (text_at t.entities texts (entity_of stack.places))) → at ≡ offset_of stack.places → offset_of stack.places + length unread < most
    → size ≤ length (rest (input_of syntax d texts stack)) → at + size < most
tag-fits syntax d texts stack size at most t unread e n is here fits within =
    let same : unread ≡ rest (input_of syntax d texts stack) =
    is ∙ ap (λ (z : Tables). drop (offset_of stack.places) (or_empty (text_at z.entities texts (entity_of stack.places)))) (tables-are d t e n) in
    let many : length unread ≡ length (rest (input_of syntax d texts stack)) = ap (λ (l : List ℕ). length l) same in
    omega (arith, fits, within, here, many)

-- WHERE THE STACK STANDS
pub alike-both : (s t u : Stack) → StandsAlike s t → StandsAlike t u → StandsAlike s u
alike-both s t u a b = record { levels = b.levels ∙ a.levels; expand = b.expand ∙ a.expand; places = λ x. b.places x ∙ a.places x }

many-moved : (x : ℕ) (ps : List Place) → length (moved_to x ps) ≡ length ps
many-moved x [] = refl
many-moved x (p ∷ ps) = refl

pub as-many : (s t : Stack) → StandsAlike s t → length t.places ≡ length s.places
as-many s t a = sym (many-moved 0 t.places) ∙ ap (λ (ps : List Place). length ps) (a.places 0) ∙ many-moved 0 s.places

moved-nowhere : (at : ℕ) (ps : List Place) → at ≡ offset_of ps → moved_to at ps ≡ ps
moved-nowhere at [] e = refl
moved-nowhere at (p ∷ ps) e = ap (λ (n : ℕ). record { entity = p.entity; at = n } ∷ ps) e

parts-are : (s : Stack) (l x n : ℕ) (ps : List Place) → l ≡ s.levels → x ≡ s.expand → n ≡ s.spent → ps ≡ s.places
    → record { levels = l; expand = x; spent = n; places = ps } ≡ s
parts-are s l x n ps a b c d = rw (a, b, c, d) refl

-- going back to where it stood
pub rewound : (s t u : Stack) (depth at spent : ℕ) → StandsAlike s t → depth + 1 ≡ length s.places → at ≡ offset_of s.places → spent ≡ s.spent
    → u ≡ record t { places = moved_to at (drop (length t.places - (depth + 1)) t.places); spent = spent } → u ≡ s
rewound s t u depth at spent a deep here same is =
    let none : length t.places - (depth + 1) ≡ 0 = omega (arith, deep, as-many s t a) in
    let places : moved_to at (drop (length t.places - (depth + 1)) t.places) ≡ s.places =
    ap (λ (n : ℕ). moved_to at (drop n t.places)) none ∙ a.places at ∙ moved-nowhere at s.places here in
    is ∙ parts-are s t.levels t.expand spent (moved_to at (drop (length t.places - (depth + 1)) t.places)) a.levels a.expand same places

-- a name alone specifies nothing
pub lone-written : (s : Syntax) (tag : List ℕ) (p : Part) → parts_of_tag s tag ≡ p ∷ [] → p.kind ≡ part.ElementName → written s tag ≡ []
lone-written s tag p alone named =
    ap (λ (ps : List Part). written_from tag None ps) alone
    ∙ ap (λ (k : PartKind). written_at tag None p (λ n. written_from tag n []) k) named
