-- The names among the lexemes of a declaration are names (9.3).
use Rattle.std.proofs.Common.{◌≡◌, ℕ, zero, suc, Bool, true, false, not, ◌+◌, ◌==◌, ◌&&◌, ◌||◌, List, [], ◌∷◌, ◌++◌, take, drop, nat_le, Option, Some, None, Result, Ok, Err, refl, subst, if◌then◌else◌}
use Rattle.std.specs.List.{list_all, prefix_len}
use Rattle.sgml_theory_full.specs.text.Characters.{is_separator, is_quote, is_digit}
use Rattle.sgml_theory_full.specs.text.declared.name_set.NameSet.{NameSet}
use Rattle.sgml_theory_full.specs.text.NameCharacters.{is_name_start, is_name_character, is_name_of}
use Rattle.sgml_theory_full.specs.text.declared.unit.Unit.{Unit as AnyUnit}
use Rattle.sgml_theory_full.specs.delim.declared.delim.Delim.{Delim}
use Rattle.sgml_theory_full.specs.delim.declared.delim.Delim.TheVariants as d
use Rattle.sgml_theory_full.specs.entity.Stack.{Stack}
use Rattle.sgml_theory_full.specs.decl_parts.declared.part.Part.{Part}
use Rattle.sgml_theory_full.specs.decl_parts.declared.part.Part.TheVariants as p
use Rattle.sgml_theory_full.specs.decl_parts.declared.part.PartFault.{PartFault}
use Rattle.sgml_theory_full.specs.decl_parts.declared.part.PartFault.TheVariants.{Syntax}
use Rattle.sgml_theory_full.specs.text.declared.unit.Unit.TheVariants as unit
use Rattle.sgml_theory_full.specs.decl_parts.declared.part.Here.{Here}
use Rattle.sgml_theory_full.specs.decl_parts.declared.part.Opened.{Opened}
use Rattle.sgml_theory_full.specs.decl_parts.declared.ends.Construct.{Construct}
use Rattle.sgml_theory_full.specs.decl_parts.declared.ends.Construct.TheVariants as construct
use Rattle.sgml_theory_full.specs.decl_parts.declared.form.Form.{Form}
use Rattle.sgml_theory_full.specs.decl_parts.declared.form.Form.TheVariants as f
use Rattle.sgml_theory_full.specs.decl_parts.Forms.{after_name, after_token, after_reserved, after_sign, literal_kind, is_complete, may_refer}
use Rattle.sgml_theory_full.specs.decl_parts.declared.form.LiteralKind.{LiteralKind}
use Rattle.sgml_theory_full.specs.decl_parts.declared.form.LiteralKind.TheVariants as literal
use Rattle.sgml_theory_full.specs.decl_parts.Bytes.{name_length, begins_name, begins_with, begins_digit, reference_end, number_after}
use Rattle.sgml_theory_full.specs.decl_parts.Parts.{entity_reference, percent_at, hash_at, comment_at, group_sign, outer_sign, or_syntax, common_at, inner_at, closing_at, minus_at, outer_at, function_of, function_reference, function_character, numbered, number_reference, character_at, coded_at, general_at, parameter_at, or_coded, referring_at, or_data, literal_at, end_at, part_in, part_at}
use Rattle.sgml_theory_full.specs.decl_lexemes.declared.lexeme.Lexeme.{Lexeme}
use Rattle.sgml_theory_full.specs.decl_lexemes.declared.lexeme.Lexeme.TheVariants.{Name, Token, Reserved, Literal, Value, Sign}
use Rattle.sgml_theory_full.specs.decl_lexemes.declared.fault.Fault.{Fault}
use Rattle.sgml_theory_full.specs.decl_lexemes.declared.fault.Fault.TheVariants.{Refusing}
use Rattle.sgml_theory_full.specs.text.declared.reason.Reason.TheVariants as reason
use Rattle.sgml_theory_full.specs.decl_lexemes.declared.fault.Reached.{Reached}
use Rattle.sgml_theory_full.specs.decl_lexemes.declared.fault.Reached.TheVariants.{Opens, PutsText, PutsData, Fails}
use Rattle.sgml_theory_full.specs.decl_lexemes.Sources.{Source}
use Rattle.sgml_theory_full.specs.decl_lexemes.Readings.{Reading, State, is_value, literal_of, here, ahead, with_data, with_char, referred, reached_from, after, judged_form, judged_end, judged_sign, judged_quote, is_literal, judged_reached, kept, judged, judged_part, next_part, closes, nothing_read, begun, start}
use Rattle.sgml_theory_full.specs.decl_lexemes.Reads.{unless_end, with_part, read_on, left, read_all}
use Rattle.sgml_theory_again.proofs.Folding.{both, and, front-name}

-- a name that was read is one
abbrev pub is_named : NameSet → Lexeme → Bool
is_named names (Name n) = is_name_of names n
is_named names x = true

abbrev pub AreNamed : NameSet → List Lexeme → Type 0
AreNamed names xs = list_all (is_named names) xs ≡ true

add : (names : NameSet) (xs : List Lexeme) (x : Lexeme) → AreNamed names xs → is_named names x ≡ true → AreNamed names (xs ++ x ∷ [])
add names [] x a e = and (is_named names x) true e refl
add names (y ∷ ys) x a e =
    let q = both (is_named names y) (list_all (is_named names) ys) a in
    and (is_named names y) (list_all (is_named names) (ys ++ x ∷ [])) q.0 (add names ys x q.1 e)

-- A PART that is a name, at the front of the bytes
abbrev PartIs : NameSet → List ℕ → Part → Type 0
PartIs names bytes (p.Name n) = is_name_of names (take n bytes) ≡ true
PartIs names bytes part = Unit {0}

abbrev PartHas : {E : Type 0} → NameSet → List ℕ → Result Part E → Type 0
PartHas names bytes (Ok part) = PartIs names bytes part
PartHas names bytes (Err e) = Unit {0}

if-has : {E : Type 0} (names : NameSet) (bytes : List ℕ) (t : Bool) (x y : Result Part E) → PartHas names bytes x → PartHas names bytes y → PartHas names bytes (if t then x else y)
if-has names bytes true x y a b = a
if-has names bytes false x y a b = b

if-is : (names : NameSet) (bytes : List ℕ) (t : Bool) (x y : Part) → PartIs names bytes x → PartIs names bytes y → PartIs names bytes (if t then x else y)
if-is names bytes true x y a b = a
if-is names bytes false x y a b = b

syntax-has : (names : NameSet) (bytes : List ℕ) (o : Option Delim) → PartHas names bytes (or_syntax o)
syntax-has names bytes (Some s) = tt
syntax-has names bytes None = tt

common-has : (names : NameSet) (s : Option Delim) (b : ℕ) (bytes : List ℕ) → PartHas names (b ∷ bytes) (common_at names s b bytes)
common-has names s b bytes =
    if-has names (b ∷ bytes) (is_separator b) _ _ tt
    (by (is_name_start names b) refl)
  where
    others : PartHas names (b ∷ bytes) (if is_name_character names b then Ok (p.Token (1 + name_length names bytes)) else (if b == 35 then Ok (hash_at names bytes) else (if b == 37 then Ok (percent_at names bytes) else or_syntax s)))
    others =
        if-has names (b ∷ bytes) (is_name_character names b) _ _ tt
        (if-has names (b ∷ bytes) (b == 35) (Ok (hash_at names bytes)) _ (if-is names (b ∷ bytes) (begins_name names bytes) _ _ tt tt)
        (if-has names (b ∷ bytes) (b == 37) (Ok (percent_at names bytes)) _ (if-is names (b ∷ bytes) (begins_name names bytes) _ _ tt tt) (syntax-has names (b ∷ bytes) s)))

    by : (t : Bool) → is_name_start names b ≡ t → PartHas names (b ∷ bytes) (if t then Ok (p.Name (1 + name_length names bytes)) else (if is_name_character names b then Ok (p.Token (1 + name_length names bytes)) else (if b == 35 then Ok (hash_at names bytes) else (if b == 37 then Ok (percent_at names bytes) else or_syntax s))))
    by true e = front-name names b bytes e
    by false e = others

comment-has : (names : NameSet) (bytes : List ℕ) (n : ℕ) (more : List ℕ) → PartHas names bytes (comment_at n more)
comment-has names bytes n [] = tt
comment-has names bytes n (b ∷ more) =
    if-has names bytes ((b == 45) && begins_with 45 more) (Ok (p.Gap (n + 2))) (comment_at (n + 1) more) tt (comment-has names bytes (n + 1) more)

minus-has : (names : NameSet) (bytes more : List ℕ) → PartHas names bytes (minus_at more)
minus-has names bytes [] = tt
minus-has names bytes (b ∷ more) = if-has names bytes (b == 45) (comment_at 2 more) _ (comment-has names bytes 2 more) tt

closing-has : (names : NameSet) (bytes : List ℕ) (at_base : Bool) (more : List ℕ) → PartHas names bytes (closing_at at_base more)
closing-has names bytes at_base [] = if-has names bytes at_base _ _ tt tt
closing-has names bytes at_base (b ∷ more) = tt

outer-has : (names : NameSet) (at_base after_group : Bool) (b : ℕ) (bytes : List ℕ) → PartHas names (b ∷ bytes) (outer_at names at_base after_group b bytes)
outer-has names at_base after_group b bytes =
    if-has names (b ∷ bytes) (b == 45) (minus_at bytes) _ (minus-has names (b ∷ bytes) bytes)
    (if-has names (b ∷ bytes) (is_quote b) _ _ tt
    (if-has names (b ∷ bytes) (b == 62) (closing_at at_base bytes) _ (closing-has names (b ∷ bytes) at_base bytes)
    (common-has names (outer_sign after_group b) b bytes)))

inner-has : (names : NameSet) (b : ℕ) (bytes : List ℕ) → PartHas names (b ∷ bytes) (inner_at names b bytes)
inner-has names b bytes =
    if-has names (b ∷ bytes) ((b == 45) && begins_with 45 bytes) (Err Syntax) (common_at names (group_sign b) b bytes) tt (common-has names (group_sign b) b bytes)

-- in a literal there is none
abbrev OptionIs : NameSet → List ℕ → Option Part → Type 0
OptionIs names bytes (Some part) = PartIs names bytes part
OptionIs names bytes None = Unit {0}

if-option : (names : NameSet) (bytes : List ℕ) (t : Bool) (x y : Option Part) → OptionIs names bytes x → OptionIs names bytes y → OptionIs names bytes (if t then x else y)
if-option names bytes true x y a b = a
if-option names bytes false x y a b = b

function-is : (names : NameSet) (bytes : List ℕ) (size : ℕ) (o : Option ℕ) → PartIs names bytes (function_of size o)
function-is names bytes size None = tt
function-is names bytes size (Some b) = tt

numbered-is : (names : NameSet) (bytes : List ℕ) (size n : ℕ) → PartIs names bytes (numbered size n)
numbered-is names bytes size n = if-is names bytes (nat_le n 255) (p.Char size (unit.Coded n)) (p.NoChar size) tt tt

character-is : (names : NameSet) (bytes : List ℕ) (fold : Bool) (more : List ℕ) → OptionIs names bytes (character_at names fold more)
character-is names bytes fold more =
    let n = name_length names more in
    if-option names bytes (begins_digit more) (Some (number_reference more)) (if begins_name names more then Some (function_reference names fold more) else None)
    (numbered-is names bytes (2 + prefix_len is_digit more + reference_end (drop (prefix_len is_digit more) more)) (number_after 0 (take (prefix_len is_digit more) more)))
    (if-option names bytes (begins_name names more) (Some (function_reference names fold more)) None
    (function-is names bytes (2 + n + reference_end (drop n more)) (function_character fold (take n more))) tt)

coded-is : (names : NameSet) (bytes : List ℕ) (fold : Bool) (more : List ℕ) → OptionIs names bytes (coded_at names fold more)
coded-is names bytes fold [] = tt
coded-is names bytes fold (b ∷ more) = if-option names bytes (b == 35) (character_at names fold more) _ (character-is names bytes fold more) tt

or-coded-is : (names : NameSet) (bytes : List ℕ) (fold : Bool) (b : ℕ) (more : List ℕ) (o : Option Part) → OptionIs names bytes o → OptionIs names bytes (or_coded names fold b more o)
or-coded-is names bytes fold b more (Some part) a = a
or-coded-is names bytes fold b more None a = if-option names bytes (b == 38) (coded_at names fold more) _ (coded-is names bytes fold more) tt

referring-is : (names : NameSet) (bytes : List ℕ) (fold : Bool) (k : LiteralKind) (b : ℕ) (more : List ℕ) → OptionIs names bytes (referring_at names fold k b more)
referring-is names bytes fold literal.Parameter b more =
    or-coded-is names bytes fold b more (parameter_at names b more) (if-option names bytes _ (Some (entity_reference names more)) None tt tt)
referring-is names bytes fold literal.Value b more =
    or-coded-is names bytes fold b more (general_at names b more) (if-option names bytes _ (Some (entity_reference names more)) None tt tt)
referring-is names bytes fold _ b more = tt

or-data-is : (names : NameSet) (bytes : List ℕ) (quote : ℕ) (more : List ℕ) (o : Option Part) → OptionIs names bytes o → PartIs names bytes (or_data quote more o)
or-data-is names bytes quote more (Some part) a = a
or-data-is names bytes quote more None a = tt

literal-is : (names : NameSet) (bytes : List ℕ) (fold : Bool) (o : Opened) (in_its_text : Bool) (b : ℕ) (more : List ℕ) → PartIs names bytes (literal_at names fold o in_its_text b more)
literal-is names bytes fold o in_its_text b more =
    if-is names bytes _ p.EndQuote (or_data o.quote more (referring_at names fold o.kind b more)) tt
    (or-data-is names bytes o.quote more (referring_at names fold o.kind b more) (referring-is names bytes fold o.kind b more))

end-has : (names : NameSet) (bytes : List ℕ) (h : Here) (o : Option Opened) → PartHas names bytes (end_at h o)
end-has names bytes h None = if-has names bytes h.at_base _ _ tt tt
end-has names bytes h (Some o) = if-has names bytes (h.at_base || h.in_its_text) _ _ tt tt

part-has : (names : NameSet) (fold : Bool) (h : Here) (o : Option Opened) (bytes : List ℕ) → PartHas names bytes (part_in names fold h o bytes)
part-has names fold h o [] = end-has names [] h o
part-has names fold h (Some o) (b ∷ bytes) = literal-is names (b ∷ bytes) fold o h.in_its_text b bytes
part-has names fold h None (b ∷ bytes) =
    if-has names (b ∷ bytes) h.in_group (inner_at names b bytes) (outer_at names h.at_base h.after_group b bytes)
    (inner-has names b bytes) (outer-has names h.at_base h.after_group b bytes)

-- JUDGED, a part is the same, or refused
form-has : (names : NameSet) (bytes : List ℕ) (form : Form) (part : Part) → PartIs names bytes part → PartHas names bytes (judged_form form part)
form-has names bytes f.Broken part a = tt
form-has names bytes (f.LeftOut r) part a = tt
form-has names bytes _ part a = a

judged-end-has : (names : NameSet) (bytes : List ℕ) (form : Form) (no_char : Bool) (part : Part) → PartIs names bytes part → PartHas names bytes (judged_end form no_char part)
judged-end-has names bytes form no_char part a =
    if-has names bytes (not (is_complete form)) (Err (Refusing reason.DeclarationSyntax)) (if no_char then Err (Refusing reason.CharNumber) else Ok part) tt
    (if-has names bytes no_char (Err (Refusing reason.CharNumber)) (Ok part) tt a)

judged-sign-has : (names : NameSet) (bytes : List ℕ) (last : Bool) (r : Reading) (x : Delim) → PartHas names bytes (judged_sign last r x)
judged-sign-has names bytes last r d.Dso =
    if-has names bytes last _ _ (judged-end-has names bytes (after_sign r.form d.Dso) r.no_char (p.Sign d.Dso) tt) tt
judged-sign-has names bytes last r x = form-has names bytes (after_sign r.form x) (p.Sign x) tt

judged-quote-has : (names : NameSet) (bytes : List ℕ) (k : LiteralKind) (b : ℕ) → PartHas names bytes (judged_quote k b)
judged-quote-has names bytes literal.NoLiteral b = tt
judged-quote-has names bytes _ b = tt

judged-reached-has : (names : NameSet) (bytes : List ℕ) (I : Source) (r : Reading) (n m : ℕ) (x : Reached) → PartHas names bytes (judged_reached (kept I r) n m x)
judged-reached-has names bytes I r n m (Fails fault) = tt
judged-reached-has names bytes I r n m _ = tt

judged-has : (names : NameSet) (I : Source) (bytes : List ℕ) (t : State) (part : Part) → PartIs names bytes part → PartHas names bytes (judged I bytes t part)
judged-has names I bytes t (p.Name n) a = form-has names bytes (after_name t.reading.form (take n bytes)) (p.Name n) a
judged-has names I bytes t (p.Token n) a = form-has names bytes (after_token t.reading.form) (p.Token n) tt
judged-has names I bytes t (p.Reserved n) a = form-has names bytes (after_reserved t.reading.form (take n (drop 1 bytes))) (p.Reserved n) tt
judged-has names I bytes t (p.Sign x) a = judged-sign-has names bytes _ t.reading x
judged-has names I bytes t (p.Quote b) a = judged-quote-has names bytes (literal_kind t.reading.form) b
judged-has names I bytes t (p.Refer n m) a =
    if-has names bytes (may_refer t.reading.form) (judged_reached (kept I t.reading) n m (reached_from I bytes t n)) (Err (Refusing reason.DeclarationSyntax))
    (judged-reached-has names bytes I t.reading n m (reached_from I bytes t n)) tt
judged-has names I bytes t p.EndQuote a =
    if-has names bytes (is_literal I.construct && t.reading.no_char) (Err (Refusing reason.CharNumber)) (Ok p.EndQuote) tt tt
judged-has names I bytes t p.Closing a = judged-end-has names bytes t.reading.form t.reading.no_char p.Closing tt
judged-has names I bytes t (p.Gap n) a = tt
judged-has names I bytes t (p.Data n) a = tt
judged-has names I bytes t (p.Char n u) a = tt
judged-has names I bytes t (p.NoChar n) a = tt
judged-has names I bytes t p.TextEnd a = tt

judged-part-has : (names : NameSet) (I : Source) (bytes : List ℕ) (t : State) (x : Result Part PartFault) → PartHas names bytes x → PartHas names bytes (judged_part I bytes t x)
judged-part-has names I bytes t (Err e) a = tt
judged-part-has names I bytes t (Ok part) a = judged-has names I bytes t part a

next-has : (I : Source) (t : State) → PartHas I.syntax.names (ahead I t) (next_part I t)
next-has I t =
    judged-part-has I.syntax.names I (ahead I t) t (part_at I.syntax.names I.syntax.general_fold (here I t) (ahead I t))
    (part-has I.syntax.names I.syntax.general_fold (here I t) (here I t).literal (ahead I t))

-- WHAT WAS READ
abbrev Good : NameSet → State → Type 0
Good names t = AreNamed names t.reading.lexemes

if-lexemes : (names : NameSet) (b : Bool) (q r : Reading) → AreNamed names q.lexemes → AreNamed names r.lexemes → AreNamed names (if b then q else r).lexemes
if-lexemes names true q r e f = e
if-lexemes names false q r e f = f

if-lexeme : (names : NameSet) (b : Bool) (x y : Lexeme) → is_named names x ≡ true → is_named names y ≡ true → is_named names (if b then x else y) ≡ true
if-lexeme names true x y e f = e
if-lexeme names false x y e f = f

data-good : (names : NameSet) (bs : List ℕ) (r : Reading) → AreNamed names r.lexemes → AreNamed names (with_data bs r).lexemes
data-good names bs r e = if-lexemes names (is_value r.literal) _ _ e e

char-good : (names : NameSet) (u : AnyUnit) (r : Reading) → AreNamed names r.lexemes → AreNamed names (with_char u r).lexemes
char-good names u r e = if-lexemes names (is_value r.literal) _ _ e e

referred-good : (names : NameSet) (I : Source) (m : ℕ) (t : State) (x : Reached) → Good names t → Good names (referred I m t x)
referred-good names I m t (Opens entity size) e = e
referred-good names I m t (PutsText n) e = data-good names _ t.reading e
referred-good names I m t (PutsData n) e = e
referred-good names I m t (Fails fault) e = e

after-good : (names : NameSet) (I : Source) (bytes : List ℕ) (part : Part) (t : State) → PartIs names bytes part → Good names t → Good names (after I bytes part t)
after-good names I bytes (p.Gap n) t a e = e
after-good names I bytes (p.Name n) t a e = add names t.reading.lexemes (Name (take n bytes)) e a
after-good names I bytes (p.Token n) t a e = add names t.reading.lexemes (Token (take n bytes)) e refl
after-good names I bytes (p.Reserved n) t a e = add names t.reading.lexemes (Reserved (take n (drop 1 bytes))) e refl
after-good names I bytes (p.Sign x) t a e = add names t.reading.lexemes (Sign x) e refl
after-good names I bytes (p.Quote b) t a e = e
after-good names I bytes p.EndQuote t a e =
    add names t.reading.lexemes (literal_of t.reading.literal t.reading.bytes t.reading.units) e
    (if-lexeme names (is_value t.reading.literal) (Value t.reading.units) (Literal t.reading.bytes) refl refl)
after-good names I bytes (p.Data n) t a e = data-good names (take n bytes) t.reading e
after-good names I bytes (p.Char n u) t a e = char-good names u t.reading e
after-good names I bytes (p.NoChar n) t a e = e
after-good names I bytes (p.Refer n m) t a e = referred-good names I m t (reached_from I bytes t n) e
after-good names I bytes p.TextEnd t a e = e
after-good names I bytes p.Closing t a e = e

abbrev ReadGood : NameSet → Result State Fault → Type 0
ReadGood names (Ok u) = Good names u
ReadGood names (Err fault) = Unit {0}

end-good : (names : NameSet) (b : Bool) (go : State → Result State Fault) (u : State) → Good names u → ((v : State) → Good names v → ReadGood names (go v)) → ReadGood names (unless_end b go u)
end-good names true go u e f = e
end-good names false go u e f = f u e

part-good : (I : Source) (t : State) (go : State → Result State Fault) (x : Result Part Fault) → PartHas I.syntax.names (ahead I t) x → Good I.syntax.names t
    → ((v : State) → Good I.syntax.names v → ReadGood I.syntax.names (go v)) → ReadGood I.syntax.names (with_part I t go x)
part-good I t go (Err fault) a e f = tt
part-good I t go (Ok part) a e f =
    end-good I.syntax.names (closes I.construct part) go (after I (ahead I t) part t) (after-good I.syntax.names I (ahead I t) part t a e) f

on-good : (n : ℕ) (I : Source) (t : State) → Good I.syntax.names t → ReadGood I.syntax.names (read_on n I t)
on-good zero I t e = tt
on-good (suc n) I t e = part-good I t (λ u. read_on n I u) (next_part I t) (next-has I t) e (λ v g. on-good n I v g)

begun-good : (names : NameSet) (c : Construct) (height : ℕ) (r : Reading) → AreNamed names r.lexemes → AreNamed names (begun c height r).lexemes
begun-good names (construct.Literal quote) height r e = e
begun-good names _ height r e = e

start-good : (names : NameSet) (I : Source) (s : Stack) → Good names (start I s)
start-good names I s = begun-good names I.construct _ (nothing_read _) refl

all-good : (I : Source) (s : Stack) → ReadGood I.syntax.names (read_all I s)
unfolding read_all
all-good I s = on-good (suc (left I (start I s).stack)) I (start I s) (start-good I.syntax.names I s)

pub read-named : (I : Source) (s : Stack) (u : State) → read_all I s ≡ Ok u → AreNamed I.syntax.names u.reading.lexemes
read-named I s u e = subst (λ (x : Result State Fault). ReadGood I.syntax.names x) e (all-good I s)
