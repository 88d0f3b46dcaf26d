-- The table of what is due in a declaration, and the productions of declarations, are one grammar.
use Rattle.std.proofs.Common.{◌≡◌, ◌<◌, ◌≤◌, ◌+◌, ◌-◌, ◌^◌, ◌==◌, ◌||◌, ℕ, zero, suc, Bool, true, false, List, [], ◌∷◌, ◌++◌, length, Option, None, Some, is_some, option_map, codes, min, map, if◌then◌else◌, refl, sym, ap, ◌∙◌, subst, arith, ne_eqb}
use Rattle.std.specs.Str.{bytes_eq}
use Rattle.std.proofs.Math.Nat.{min-eq_left}
use Rattle.std.proofs.lemmas.Slice.Eq.{bytes_eq-Decides}
use Rattle.sgml_text.specs.Characters.{is_word, upper}
use Rattle.sgml_text.specs.declared.reason.Reason.{Reason}
use Rattle.sgml_text.specs.declared.reason.Reason.TheVariants.{LinkOut, SubdocOut, OtherOut}
use Rattle.sgml_delim.specs.declared.delim.Delim.{Delim}
use Rattle.sgml_delim.specs.declared.delim.Delim.TheVariants.{And, Com, Cro, Dsc, Dso, Ero, Etago, Grpc, Grpo, Lit, Lita, Mdc, Mdo, Minus, Msc, Net, Opt, Or, Pero, Pic, Pio, Plus, Re, Refc, Rep, Rni, Seq, Stago, Tagc, Vi}
use Rattle.sgml_decl_lexemes.specs.sgml_entity.declared.kinds.External.{External}
use Rattle.sgml_decl_lexemes.specs.sgml_entity.declared.kinds.Body.{Body}
use Rattle.sgml_decl_lexemes.specs.decl_parts.declared.form.Form.{Form}
use Rattle.sgml_decl_lexemes.specs.decl_parts.declared.form.Form.TheVariants as f
use Rattle.sgml_decl_lexemes.specs.decl_parts.declared.form.Owner.{Owner}
use Rattle.sgml_decl_lexemes.specs.decl_parts.declared.form.Owner.TheVariants as owner
use Rattle.sgml_decl_lexemes.specs.decl_parts.declared.form.Grouped.{Grouped}
use Rattle.sgml_decl_lexemes.specs.decl_parts.declared.form.Grouped.TheVariants as grouped
use Rattle.sgml_decl_lexemes.specs.decl_parts.Forms.{group, after_name, after_token, after_reserved, after_literal, after_sign, after_group, in_group, connects, is_grpc, token_in, literal_kind, is_complete, external, after_external, data_kind, content as content_form, declared as declared_form, default_word, is_declared_value, is_text_kind, entity_value, in_model, out_of_model}
use Rattle.sgml_decl_lexemes.specs.declared.lexeme.Lexeme.{Lexeme}
use Rattle.sgml_decl_lexemes.specs.declared.lexeme.Lexeme.TheVariants.{Name, Token, Reserved, Literal, Value, Sign}
use Rattle.sgml_model.specs.declared.token.GroupToken.{GroupToken}
use Rattle.sgml_model.specs.declared.token.GroupToken.TheVariants as token
use Rattle.sgml_decl_forms.specs.Words.{◌>>=◌, is_keyword, name_at, literal_at, all_of}
use Rattle.sgml_decl_forms.specs.Groups.{member_of, more_members, name_group_at, token_group_at, names_at, sign_token, token_of, level_after, tokens_at, mark_at, group_at}
use Rattle.sgml_decl_forms.specs.Elements.{omit_at, second_omit, omits_at, content_at, exclusions_at, inclusions_at, may_have_exceptions, exceptions_at, body_at, element_at}
use Rattle.sgml_decl_forms.specs.declared.element.ContentForm.{ContentForm}
use Rattle.sgml_decl_forms.specs.declared.element.ContentForm.TheVariants as content
use Rattle.sgml_decl_forms.specs.declared.element.Omits.{Omits}
use Rattle.sgml_decl_forms.specs.declared.element.ElementBody.{ElementBody}
use Rattle.sgml_decl_forms.specs.Attributes.{value_words, default_words, worded, notations_at, keyword_at, declared_at, value_at, reserved_default, default_at, attribute_at, attributes_at, attlist_at}
use Rattle.sgml_decl_forms.specs.declared.attlist.AttributeForm.{AttributeForm}
use Rattle.sgml_decl_lexemes.specs.sgml_attr.declared.definition.Declared.TheVariants as declared
use Rattle.sgml_decl_lexemes.specs.sgml_attr.declared.definition.Default.TheVariants as default
use Rattle.sgml_decl_forms.specs.Externals.{optional_literal, system_at, public_at, external_at, notation_at}
use Rattle.sgml_decl_forms.specs.Doctypes.{subset_at, or_none, doctype_at}
use Rattle.sgml_decl_forms.specs.Maps.{pairs_at, shortref_at, used_map_at, targets_at, usemap_at}
use Rattle.sgml_decl_forms.specs.declared.map.UsedMap.TheVariants.{Empty}
use Rattle.sgml_decl_forms.specs.EntityForms.{external_body, or_outside, value_at as entity_value_at, entity_at}
use Rattle.sgml_decl_lexemes.specs.sgml_entity.declared.kinds.Space.TheVariants.{General, Parameter}
use Rattle.sgml_decl_lexemes.specs.sgml_entity.declared.kinds.Body.TheVariants as body
use Rattle.sgml_text.specs.declared.data_kind.DataKind.{DataKind}
use Rattle.sgml_text.specs.declared.data_kind.DataKind.TheVariants as data_of
use Rattle.sgml_decl_forms.specs.declared.declaration.Declaration.TheVariants as form_of
use Rattle.sgml_decl_forms.specs.Declarations.{declaration_at}
use Rattle.sgml_decl_forms.specs.Due.{OneGrammar, GoesOn, is_open, after_one, due, has_character, HaveCharacters, AreLexemes}

by_sign : (P : Delim → Type 0) → P And → P Com → P Cro → P Dsc → P Dso → P Ero → P Etago → P Grpc → P Grpo → P Lit → P Lita → P Mdc → P Mdo → P Minus → P Msc → P Net → P Opt → P Or → P Pero → P Pic → P Pio → P Plus → P Re → P Refc → P Rep → P Rni → P Seq → P Stago → P Tagc → P Vi → (d : Delim) → P d
by_sign P x0 x1 x2 x3 x4 x5 x6 x7 x8 x9 x10 x11 x12 x13 x14 x15 x16 x17 x18 x19 x20 x21 x22 x23 x24 x25 x26 x27 x28 x29 And = x0
by_sign P x0 x1 x2 x3 x4 x5 x6 x7 x8 x9 x10 x11 x12 x13 x14 x15 x16 x17 x18 x19 x20 x21 x22 x23 x24 x25 x26 x27 x28 x29 Com = x1
by_sign P x0 x1 x2 x3 x4 x5 x6 x7 x8 x9 x10 x11 x12 x13 x14 x15 x16 x17 x18 x19 x20 x21 x22 x23 x24 x25 x26 x27 x28 x29 Cro = x2
by_sign P x0 x1 x2 x3 x4 x5 x6 x7 x8 x9 x10 x11 x12 x13 x14 x15 x16 x17 x18 x19 x20 x21 x22 x23 x24 x25 x26 x27 x28 x29 Dsc = x3
by_sign P x0 x1 x2 x3 x4 x5 x6 x7 x8 x9 x10 x11 x12 x13 x14 x15 x16 x17 x18 x19 x20 x21 x22 x23 x24 x25 x26 x27 x28 x29 Dso = x4
by_sign P x0 x1 x2 x3 x4 x5 x6 x7 x8 x9 x10 x11 x12 x13 x14 x15 x16 x17 x18 x19 x20 x21 x22 x23 x24 x25 x26 x27 x28 x29 Ero = x5
by_sign P x0 x1 x2 x3 x4 x5 x6 x7 x8 x9 x10 x11 x12 x13 x14 x15 x16 x17 x18 x19 x20 x21 x22 x23 x24 x25 x26 x27 x28 x29 Etago = x6
by_sign P x0 x1 x2 x3 x4 x5 x6 x7 x8 x9 x10 x11 x12 x13 x14 x15 x16 x17 x18 x19 x20 x21 x22 x23 x24 x25 x26 x27 x28 x29 Grpc = x7
by_sign P x0 x1 x2 x3 x4 x5 x6 x7 x8 x9 x10 x11 x12 x13 x14 x15 x16 x17 x18 x19 x20 x21 x22 x23 x24 x25 x26 x27 x28 x29 Grpo = x8
by_sign P x0 x1 x2 x3 x4 x5 x6 x7 x8 x9 x10 x11 x12 x13 x14 x15 x16 x17 x18 x19 x20 x21 x22 x23 x24 x25 x26 x27 x28 x29 Lit = x9
by_sign P x0 x1 x2 x3 x4 x5 x6 x7 x8 x9 x10 x11 x12 x13 x14 x15 x16 x17 x18 x19 x20 x21 x22 x23 x24 x25 x26 x27 x28 x29 Lita = x10
by_sign P x0 x1 x2 x3 x4 x5 x6 x7 x8 x9 x10 x11 x12 x13 x14 x15 x16 x17 x18 x19 x20 x21 x22 x23 x24 x25 x26 x27 x28 x29 Mdc = x11
by_sign P x0 x1 x2 x3 x4 x5 x6 x7 x8 x9 x10 x11 x12 x13 x14 x15 x16 x17 x18 x19 x20 x21 x22 x23 x24 x25 x26 x27 x28 x29 Mdo = x12
by_sign P x0 x1 x2 x3 x4 x5 x6 x7 x8 x9 x10 x11 x12 x13 x14 x15 x16 x17 x18 x19 x20 x21 x22 x23 x24 x25 x26 x27 x28 x29 Minus = x13
by_sign P x0 x1 x2 x3 x4 x5 x6 x7 x8 x9 x10 x11 x12 x13 x14 x15 x16 x17 x18 x19 x20 x21 x22 x23 x24 x25 x26 x27 x28 x29 Msc = x14
by_sign P x0 x1 x2 x3 x4 x5 x6 x7 x8 x9 x10 x11 x12 x13 x14 x15 x16 x17 x18 x19 x20 x21 x22 x23 x24 x25 x26 x27 x28 x29 Net = x15
by_sign P x0 x1 x2 x3 x4 x5 x6 x7 x8 x9 x10 x11 x12 x13 x14 x15 x16 x17 x18 x19 x20 x21 x22 x23 x24 x25 x26 x27 x28 x29 Opt = x16
by_sign P x0 x1 x2 x3 x4 x5 x6 x7 x8 x9 x10 x11 x12 x13 x14 x15 x16 x17 x18 x19 x20 x21 x22 x23 x24 x25 x26 x27 x28 x29 Or = x17
by_sign P x0 x1 x2 x3 x4 x5 x6 x7 x8 x9 x10 x11 x12 x13 x14 x15 x16 x17 x18 x19 x20 x21 x22 x23 x24 x25 x26 x27 x28 x29 Pero = x18
by_sign P x0 x1 x2 x3 x4 x5 x6 x7 x8 x9 x10 x11 x12 x13 x14 x15 x16 x17 x18 x19 x20 x21 x22 x23 x24 x25 x26 x27 x28 x29 Pic = x19
by_sign P x0 x1 x2 x3 x4 x5 x6 x7 x8 x9 x10 x11 x12 x13 x14 x15 x16 x17 x18 x19 x20 x21 x22 x23 x24 x25 x26 x27 x28 x29 Pio = x20
by_sign P x0 x1 x2 x3 x4 x5 x6 x7 x8 x9 x10 x11 x12 x13 x14 x15 x16 x17 x18 x19 x20 x21 x22 x23 x24 x25 x26 x27 x28 x29 Plus = x21
by_sign P x0 x1 x2 x3 x4 x5 x6 x7 x8 x9 x10 x11 x12 x13 x14 x15 x16 x17 x18 x19 x20 x21 x22 x23 x24 x25 x26 x27 x28 x29 Re = x22
by_sign P x0 x1 x2 x3 x4 x5 x6 x7 x8 x9 x10 x11 x12 x13 x14 x15 x16 x17 x18 x19 x20 x21 x22 x23 x24 x25 x26 x27 x28 x29 Refc = x23
by_sign P x0 x1 x2 x3 x4 x5 x6 x7 x8 x9 x10 x11 x12 x13 x14 x15 x16 x17 x18 x19 x20 x21 x22 x23 x24 x25 x26 x27 x28 x29 Rep = x24
by_sign P x0 x1 x2 x3 x4 x5 x6 x7 x8 x9 x10 x11 x12 x13 x14 x15 x16 x17 x18 x19 x20 x21 x22 x23 x24 x25 x26 x27 x28 x29 Rni = x25
by_sign P x0 x1 x2 x3 x4 x5 x6 x7 x8 x9 x10 x11 x12 x13 x14 x15 x16 x17 x18 x19 x20 x21 x22 x23 x24 x25 x26 x27 x28 x29 Seq = x26
by_sign P x0 x1 x2 x3 x4 x5 x6 x7 x8 x9 x10 x11 x12 x13 x14 x15 x16 x17 x18 x19 x20 x21 x22 x23 x24 x25 x26 x27 x28 x29 Stago = x27
by_sign P x0 x1 x2 x3 x4 x5 x6 x7 x8 x9 x10 x11 x12 x13 x14 x15 x16 x17 x18 x19 x20 x21 x22 x23 x24 x25 x26 x27 x28 x29 Tagc = x28
by_sign P x0 x1 x2 x3 x4 x5 x6 x7 x8 x9 x10 x11 x12 x13 x14 x15 x16 x17 x18 x19 x20 x21 x22 x23 x24 x25 x26 x27 x28 x29 Vi = x29

-- what is left of a list of lexemes
record Fits (ds rest : List Lexeme) : Type 0 where
  fewer : length rest ≤ length ds
  characters : HaveCharacters ds → HaveCharacters rest

same : (ds : List Lexeme) → Fits ds ds
same ds = record { fewer = omega arith; characters = (λ h. h) }

behind : (d : Lexeme) (ds rest : List Lexeme) → Fits ds rest → Fits (d ∷ ds) rest
behind d ds rest h = record { fewer = omega (arith, h.fewer); characters = (λ have. h.characters have.1) }

one : (d : Lexeme) (ds : List Lexeme) → Fits (d ∷ ds) ds
one d ds = behind d ds ds (same ds)

on_from : {a b c : List Lexeme} → Fits a b → Fits b c → Fits a c
on_from h k = record { fewer = omega (arith, h.fewer, k.fewer); characters = (λ have. k.characters (h.characters have)) }

-- A production goes from what is due before it to what is due behind it, or the declaration is never complete.
abbrev Goes : {X : Type 0} → Form → Form → Option (X × List Lexeme) → List Lexeme → Type 0
Goes F G None ds = is_complete (due F ds) ≡ false
Goes F G (Some r) ds = (due F ds ≡ due G r.1) × Fits ds r.1

-- The last production ends the declaration, or it is never complete.
abbrev Ends : {X : Type 0} → Form → Option X → List Lexeme → Type 0
Ends F None ds = is_complete (due F ds) ≡ false
Ends F (Some x) ds = is_complete (due F ds) ≡ true

ends_there : {X : Type 0} (F G : Form) (o : Option X) (ds rest : List Lexeme) → due F ds ≡ due G rest → Ends G o rest → Ends F o ds
ends_there F G None ds rest e h = ap is_complete e ∙ h
ends_there F G (Some x) ds rest e h = ap is_complete e ∙ h

goes_there : {X : Type 0} (F G H : Form) (o : Option (X × List Lexeme)) (ds rest : List Lexeme) → due F ds ≡ due G rest → Fits ds rest → Goes G H o rest → Goes F H o ds
goes_there F G H None ds rest e fits h = ap is_complete e ∙ h
goes_there F G H (Some r) ds rest e fits h = (e ∙ h.0, on_from fits h.1)

left_of : {ds rest : List Lexeme} → AreLexemes ds → Fits ds rest → AreLexemes rest
left_of a fits = record { characters = fits.characters a.characters; few = omega (arith, a.few, fits.fewer) }

and_ends : {X Y : Type 0} (F G : Form) (o : Option (X × List Lexeme)) (k : X × List Lexeme → Option Y) (ds : List Lexeme) → AreLexemes ds → Goes F G o ds → ((r : X × List Lexeme) → Fits ds r.1 → AreLexemes r.1 → Ends G (k r) r.1) → Ends F (o >>= k) ds
and_ends F G None k ds a h next = h
and_ends F G (Some r) k ds a h next = ends_there F G (k r) ds r.1 h.0 (next r h.1 (left_of a h.1))

and_goes : {X Y : Type 0} (F G H : Form) (o : Option (X × List Lexeme)) (k : X × List Lexeme → Option (Y × List Lexeme)) (ds : List Lexeme) → AreLexemes ds → Goes F G o ds → ((r : X × List Lexeme) → AreLexemes r.1 → Goes G H (k r) r.1) → Goes F H (o >>= k) ds
and_goes F G H None k ds a h next = h
and_goes F G H (Some r) k ds a h next = goes_there F G H (k r) ds r.1 h.0 h.1 (next r (left_of a h.1))

ends_said : {X Y : Type 0} (F : Form) (o : Option X) (g : X → Y) (ds : List Lexeme) → Ends F o ds → Ends F (o >>= (λ x. Some (g x))) ds
ends_said F None g ds h = h
ends_said F (Some x) g ds h = h

ends_map : {X Y : Type 0} (F : Form) (o : Option X) (g : X → Y) (ds : List Lexeme) → Ends F o ds → Ends F (option_map g o) ds
ends_map F None g ds h = h
ends_map F (Some x) g ds h = h

goes_said : {X Y : Type 0} (F G : Form) (o : Option (X × List Lexeme)) (g : X → Y) (ds : List Lexeme) → Goes F G o ds → Goes F G (o >>= (λ r. Some (g r.0, r.1))) ds
goes_said F G None g ds h = h
goes_said F G (Some r) g ds h = h

-- NO FORM GOES ON SO

broken : (ds : List Lexeme) → due f.Broken ds ≡ f.Broken
broken [] = refl
broken (Name n ∷ ds) = broken ds
broken (Token t ∷ ds) = broken ds
broken (Reserved n ∷ ds) = broken ds
broken (Literal t ∷ ds) = broken ds
broken (Value u ∷ ds) = broken ds
broken (Sign d ∷ ds) = broken ds

never : (ds : List Lexeme) → is_complete (due f.Broken ds) ≡ false
never ds = ap is_complete (broken ds)

left_out : (r : Reason) (ds : List Lexeme) → is_complete (due (f.LeftOut r) ds) ≡ false
left_out r [] = refl
left_out r (Name n ∷ ds) = never ds
left_out r (Token t ∷ ds) = never ds
left_out r (Reserved n ∷ ds) = never ds
left_out r (Literal t ∷ ds) = never ds
left_out r (Value u ∷ ds) = never ds
left_out r (Sign d ∷ ds) = never ds

or_left_out : (b : Bool) (r : Reason) (ds : List Lexeme) → is_complete (due (if b then f.LeftOut r else f.Broken) ds) ≡ false
or_left_out true r ds = left_out r ds
or_left_out false r ds = never ds

-- nothing may follow
whole : {X : Type 0} (x : X) (ds : List Lexeme) → Ends f.Whole (all_of x ds) ds
whole x [] = refl
whole x (Name n ∷ ds) = never ds
whole x (Token t ∷ ds) = never ds
whole x (Reserved n ∷ ds) = never ds
whole x (Literal t ∷ ds) = never ds
whole x (Value u ∷ ds) = never ds
whole x (Sign d ∷ ds) = never ds

-- GROUPS OF NAMES AND OF NAME TOKENS (10.1.3)

by_connector : (close joins tokens : Bool) (g : Grouped) (done : List (List ℕ)) (d : Delim) (ds : List Lexeme)
    → ((e : Option Delim) → Goes (f.Group g true e) (after_group g) (more_members tokens done e true ds) ds)
    → Goes (if close then after_group g else if joins then f.Group g true (Some d) else f.Broken) (after_group g) (if close then Some (done, ds) else ((if joins then Some d else None) >>= (λ e. more_members tokens done (Some e) true ds))) ds
by_connector true joins tokens g done d ds more = (refl, same ds)
by_connector false true tokens g done d ds more = more (Some d)
by_connector false false tokens g done d ds more = never ds

-- one lexeme more was read
further : {X : Type 0} (F G : Form) (o : Option (X × List Lexeme)) (d : Lexeme) (ds : List Lexeme) → Goes (after_one F d) G o ds → Goes F G o (d ∷ ds)
further F G None d ds h = h
further F G (Some r) d ds h = (h.0, behind d ds r.1 h.1)

names_in : (g : Grouped) → ((is_due : Bool) (c : Option Delim) → token_in g is_due c ≡ f.Broken) → (done : List (List ℕ)) (c : Option Delim) (is_due : Bool) (ds : List Lexeme) → Goes (f.Group g is_due c) (after_group g) (more_members false done c is_due ds) ds
names_in g no_token done c true [] = refl
names_in g no_token done c false [] = refl
names_in g no_token done c true (Name n ∷ ds) = further (f.Group g true c) (after_group g) (more_members false (done ++ n ∷ []) c false ds) (Name n) ds (names_in g no_token (done ++ n ∷ []) c false ds)
names_in g no_token done c true (Token t ∷ ds) = ap (λ (x : Form). is_complete (due x ds)) (no_token true c) ∙ never ds
names_in g no_token done c true (Reserved n ∷ ds) = never ds
names_in g no_token done c true (Literal t ∷ ds) = never ds
names_in g no_token done c true (Value u ∷ ds) = never ds
names_in g no_token done c true (Sign d ∷ ds) = never ds
names_in g no_token done c false (Name n ∷ ds) = never ds
names_in g no_token done c false (Token t ∷ ds) = ap (λ (x : Form). is_complete (due x ds)) (no_token false c) ∙ never ds
names_in g no_token done c false (Reserved n ∷ ds) = never ds
names_in g no_token done c false (Literal t ∷ ds) = never ds
names_in g no_token done c false (Value u ∷ ds) = never ds
names_in g no_token done c false (Sign d ∷ ds) =
    further (f.Group g false c) (after_group g) (more_members false done c false (Sign d ∷ ds)) (Sign d) ds (by_connector (is_grpc d) (connects c d) false g done d ds (λ e. names_in g no_token done e true ds))

tokens_in : (done : List (List ℕ)) (c : Option Delim) (is_due : Bool) (ds : List Lexeme) → HaveCharacters ds → Goes (f.Group grouped.Tokens is_due c) f.Default (more_members true done c is_due ds) ds
tokens_in done c true [] have = refl
tokens_in done c false [] have = refl
tokens_in done c true (Name n ∷ ds) have = further (f.Group grouped.Tokens true c) f.Default (more_members true (done ++ n ∷ []) c false ds) (Name n) ds (tokens_in (done ++ n ∷ []) c false ds have.1)
tokens_in done c true (Token [] ∷ ds) have = let never_so : false ≡ true = have.0 in absurd (cc never_so)
tokens_in done c true (Token (b ∷ bs) ∷ ds) have = further (f.Group grouped.Tokens true c) f.Default (more_members true (done ++ (b ∷ bs) ∷ []) c false ds) (Token (b ∷ bs)) ds (tokens_in (done ++ (b ∷ bs) ∷ []) c false ds have.1)
tokens_in done c true (Reserved n ∷ ds) have = never ds
tokens_in done c true (Literal t ∷ ds) have = never ds
tokens_in done c true (Value u ∷ ds) have = never ds
tokens_in done c true (Sign d ∷ ds) have = never ds
tokens_in done c false (Name n ∷ ds) have = never ds
tokens_in done c false (Token t ∷ ds) have = never ds
tokens_in done c false (Reserved n ∷ ds) have = never ds
tokens_in done c false (Literal t ∷ ds) have = never ds
tokens_in done c false (Value u ∷ ds) have = never ds
tokens_in done c false (Sign d ∷ ds) have =
    further (f.Group grouped.Tokens false c) f.Default (more_members true done c false (Sign d ∷ ds)) (Sign d) ds (by_connector (is_grpc d) (connects c d) true grouped.Tokens done d ds (λ e. tokens_in done e true ds have.1))

ends_further : {X : Type 0} (F : Form) (o : Option X) (d : Lexeme) (ds : List Lexeme) → Ends (after_one F d) o ds → Ends F o (d ∷ ds)
ends_further F None d ds h = h
ends_further F (Some x) d ds h = h

ends_joined : {X Y Z : Type 0} (F : Form) (o : Option X) (k : X → Option Y) (l : Y → Option Z) (ds : List Lexeme) → Ends F (o >>= (λ x. k x >>= l)) ds → Ends F ((o >>= k) >>= l) ds
ends_joined F None k l ds h = h
ends_joined F (Some x) k l ds h = h

behind_one : {d : Lexeme} {ds : List Lexeme} → AreLexemes (d ∷ ds) → AreLexemes ds
behind_one a = record { characters = a.characters.1; few = omega (arith, a.few) }

-- a group of names, behind its `(`
group_goes : (g : Grouped) → ((is_due : Bool) (c : Option Delim) → token_in g is_due c ≡ f.Broken) → (ds : List Lexeme) → Goes (group g) (after_group g) (name_group_at ds) ds
group_goes g no_token ds = names_in g no_token [] None true ds

-- MODEL GROUPS (11.2.4)

not_zero : (n : ℕ) → (suc n == 0) ≡ false
not_zero n = ne_eqb (suc n) 0 (λ e. omega (arith, e))

not_one : (n : ℕ) → (suc (suc n) == 1) ≡ false
not_one n = ne_eqb (suc (suc n)) 1 (λ e. omega (arith, e))

one_less : (n : ℕ) → suc (suc n) - 1 ≡ suc n
one_less n = omega arith

up_one : (n : ℕ) → out_of_model (suc (suc n)) ≡ f.Model (suc n)
up_one n = ap (λ (b : Bool). if b then f.AfterModel else f.Model (suc (suc n) - 1)) (not_one n) ∙ ap f.Model (one_less n)

goes_on : (n : ℕ) (done : List GroupToken) (t : GroupToken) (ds : List Lexeme) → 1 ≤ n → Goes (f.Model n) f.AfterModel (tokens_at (done ++ t ∷ []) n ds) ds
    → Goes (f.Model n) f.AfterModel (if n == 0 then Some (done ++ t ∷ [], ds) else tokens_at (done ++ t ∷ []) n ds) ds
goes_on zero done t ds some h = absurd (omega (arith, some))
goes_on (suc n) done t ds some h = rw (not_zero n) h

goes_out : (n : ℕ) (done : List GroupToken) (ds : List Lexeme) → 1 ≤ n → (1 ≤ n - 1 → Goes (f.Model (n - 1)) f.AfterModel (tokens_at (done ++ token.Finish ∷ []) (n - 1) ds) ds)
    → Goes (out_of_model n) f.AfterModel (if n - 1 == 0 then Some (done ++ token.Finish ∷ [], ds) else tokens_at (done ++ token.Finish ∷ []) (n - 1) ds) ds
goes_out zero done ds some h = absurd (omega (arith, some))
goes_out (suc zero) done ds some h = (refl, same ds)
goes_out (suc (suc n)) done ds some h =
    let more : Goes (f.Model (suc n)) f.AfterModel (tokens_at (done ++ token.Finish ∷ []) (suc n) ds) ds = rw (sym (one_less n)) (h (omega arith)) in
    rw (up_one n, one_less n) (rw (not_zero n) more)

by_pcdata : (b : Bool) (level : ℕ) (done : List GroupToken) (ds : List Lexeme) → 1 ≤ level → Goes (f.Model level) f.AfterModel (tokens_at (done ++ token.Pcdata ∷ []) level ds) ds
    → Goes (if b then f.Model level else f.Broken) f.AfterModel ((if b then Some token.Pcdata else None) >>= (λ t. if level_after level t == 0 then Some (done ++ t ∷ [], ds) else tokens_at (done ++ t ∷ []) (level_after level t) ds)) ds
by_pcdata true level done ds some h = goes_on level done token.Pcdata ds some h
by_pcdata false level done ds some h = never ds

deeper : (level : ℕ) (done : List GroupToken) (ds : List Lexeme) → level + 1 ≤ 4294967295 → Goes (f.Model (level + 1)) f.AfterModel (tokens_at (done ++ token.Begin ∷ []) (level + 1) ds) ds
    → Goes (f.Model (min (level + 1) 4294967295)) f.AfterModel (if level + 1 == 0 then Some (done ++ token.Begin ∷ [], ds) else tokens_at (done ++ token.Begin ∷ []) (level + 1) ds) ds
deeper level done ds bound h =
    let least : min (level + 1) 4294967295 ≡ level + 1 = min-eq_left bound in
    rw least (goes_on (level + 1) done token.Begin ds (omega arith) h)

model_in : (done : List GroupToken) (level : ℕ) (ds : List Lexeme) → 1 ≤ level → level + length ds ≤ 4294967295 → Goes (f.Model level) f.AfterModel (tokens_at done level ds) ds
model_in done level [] some bound = refl
model_in done level (Name n ∷ ds) some bound =
    further (f.Model level) f.AfterModel (tokens_at done level (Name n ∷ ds)) (Name n) ds (goes_on level done (token.Name n) ds some (model_in (done ++ token.Name n ∷ []) level ds some (omega (arith, bound))))
model_in done level (Token t ∷ ds) some bound = never ds
model_in done level (Reserved n ∷ ds) some bound =
    further (f.Model level) f.AfterModel (tokens_at done level (Reserved n ∷ ds)) (Reserved n) ds (by_pcdata (is_word (codes "PCDATA") n) level done ds some (model_in (done ++ token.Pcdata ∷ []) level ds some (omega (arith, bound))))
model_in done level (Literal t ∷ ds) some bound = never ds
model_in done level (Value u ∷ ds) some bound = never ds
model_in done level (Sign d ∷ ds) some bound =
    further (f.Model level) f.AfterModel (tokens_at done level (Sign d ∷ ds)) (Sign d) ds
    (by_sign (λ s. Goes (in_model level s) f.AfterModel (sign_token s >>= (λ t. if level_after level t == 0 then Some (done ++ t ∷ [], ds) else tokens_at (done ++ t ∷ []) (level_after level t) ds)) ds) (goes_on level done token.And ds some (model_in (done ++ token.And ∷ []) level ds some (omega (arith, bound)))) (never ds) (never ds) (never ds) (never ds) (never ds) (never ds) (goes_out level done ds some (λ more. model_in (done ++ token.Finish ∷ []) (level - 1) ds more (omega (arith, bound)))) (deeper level done ds (omega (arith, bound)) (model_in (done ++ token.Begin ∷ []) (level + 1) ds (omega arith) (omega (arith, bound)))) (never ds) (never ds) (never ds) (never ds) (never ds) (never ds) (never ds) (goes_on level done token.Opt ds some (model_in (done ++ token.Opt ∷ []) level ds some (omega (arith, bound)))) (goes_on level done token.Or ds some (model_in (done ++ token.Or ∷ []) level ds some (omega (arith, bound)))) (never ds) (never ds) (never ds) (goes_on level done token.Plus ds some (model_in (done ++ token.Plus ∷ []) level ds some (omega (arith, bound)))) (never ds) (never ds) (goes_on level done token.Rep ds some (model_in (done ++ token.Rep ∷ []) level ds some (omega (arith, bound)))) (never ds) (goes_on level done token.Seq ds some (model_in (done ++ token.Seq ∷ []) level ds some (omega (arith, bound)))) (never ds) (never ds) (never ds) d)

-- EXCEPTIONS (11.2.5)

abbrev Excepted : Type 0
Excepted = (List (List ℕ) × List (List ℕ)) × List Lexeme

module _ {X : Type 0} (g : List (List ℕ) → X) where
  inclusions_in : (ds : List Lexeme) → AreLexemes ds → Ends (group grouped.Inclusions) (name_group_at ds >>= (λ i. all_of (g i.0) i.1)) ds
  inclusions_in ds a = and_ends (group grouped.Inclusions) f.Whole (name_group_at ds) (λ i. all_of (g i.0) i.1) ds a (group_goes grouped.Inclusions (λ x c. refl) ds) (λ r fits b. whole (g r.0) r.1)

  -- behind the `+`
  plus : (ds : List Lexeme) → AreLexemes ds → Ends f.Inclusions (inclusions_at (Sign Plus ∷ ds) >>= (λ i. all_of (g i.0) i.1)) ds
  plus [] a = refl
  plus (Name n ∷ ds) a = never ds
  plus (Token t ∷ ds) a = never ds
  plus (Reserved n ∷ ds) a = never ds
  plus (Literal t ∷ ds) a = never ds
  plus (Value u ∷ ds) a = never ds
  plus (Sign d ∷ ds) a =
      ends_further f.Inclusions (inclusions_at (Sign Plus ∷ Sign d ∷ ds) >>= (λ i. all_of (g i.0) i.1)) (Sign d) ds
      (by_sign (λ s. AreLexemes ds → Ends (after_one f.Inclusions (Sign s)) (inclusions_at (Sign Plus ∷ Sign s ∷ ds) >>= (λ i. all_of (g i.0) i.1)) ds) (λ b. never ds) (λ b. never ds) (λ b. never ds) (λ b. never ds) (λ b. never ds) (λ b. never ds) (λ b. never ds) (λ b. never ds) (inclusions_in ds) (λ b. never ds) (λ b. never ds) (λ b. never ds) (λ b. never ds) (λ b. never ds) (λ b. never ds) (λ b. never ds) (λ b. never ds) (λ b. never ds) (λ b. never ds) (λ b. never ds) (λ b. never ds) (λ b. never ds) (λ b. never ds) (λ b. never ds) (λ b. never ds) (λ b. never ds) (λ b. never ds) (λ b. never ds) (λ b. never ds) (λ b. never ds) d (behind_one a))

  may_include : (ds : List Lexeme) → AreLexemes ds → Ends f.AfterExclusions (inclusions_at ds >>= (λ i. all_of (g i.0) i.1)) ds
  may_include [] a = refl
  may_include (Name n ∷ ds) a = never ds
  may_include (Token t ∷ ds) a = never ds
  may_include (Reserved n ∷ ds) a = never ds
  may_include (Literal t ∷ ds) a = never ds
  may_include (Value u ∷ ds) a = never ds
  may_include (Sign d ∷ ds) a =
      ends_further f.AfterExclusions (inclusions_at (Sign d ∷ ds) >>= (λ i. all_of (g i.0) i.1)) (Sign d) ds
      (by_sign (λ s. AreLexemes ds → Ends (after_one f.AfterExclusions (Sign s)) (inclusions_at (Sign s ∷ ds) >>= (λ i. all_of (g i.0) i.1)) ds) (λ b. never ds) (λ b. never ds) (λ b. never ds) (λ b. never ds) (λ b. never ds) (λ b. never ds) (λ b. never ds) (λ b. never ds) (λ b. never ds) (λ b. never ds) (λ b. never ds) (λ b. never ds) (λ b. never ds) (λ b. never ds) (λ b. never ds) (λ b. never ds) (λ b. never ds) (λ b. never ds) (λ b. never ds) (λ b. never ds) (λ b. never ds) (plus ds) (λ b. never ds) (λ b. never ds) (λ b. never ds) (λ b. never ds) (λ b. never ds) (λ b. never ds) (λ b. never ds) (λ b. never ds) d (behind_one a))

module _ {X : Type 0} (g : List (List ℕ) × List (List ℕ) → X) where
  abbrev said : Excepted → Option X
  said x = all_of (g x.0) x.1

  included : (ds before : List Lexeme) (F : Form) → Ends F (inclusions_at before >>= (λ i. said (([], i.0), i.1))) ds → Ends F ((inclusions_at before >>= (λ i. Some (([], i.0), i.1))) >>= said) ds
  included ds before F h = ends_joined F (inclusions_at before) (λ i. Some (([], i.0), i.1)) said ds h

  -- behind the `-`
  minus_group : (ds : List Lexeme) → AreLexemes ds → Ends (group grouped.Exclusions) (exceptions_at (Sign Minus ∷ Sign Grpo ∷ ds) >>= said) ds
  minus_group ds a =
      ends_joined (group grouped.Exclusions) (name_group_at ds) (λ x. inclusions_at x.1 >>= (λ i. Some ((x.0, i.0), i.1))) said ds
      (and_ends (group grouped.Exclusions) f.AfterExclusions (name_group_at ds) (λ x. (inclusions_at x.1 >>= (λ i. Some ((x.0, i.0), i.1))) >>= said) ds a (group_goes grouped.Exclusions (λ x c. refl) ds)
      (λ r fits b. ends_joined f.AfterExclusions (inclusions_at r.1) (λ i. Some ((r.0, i.0), i.1)) said r.1 (may_include (λ i. g (r.0, i)) r.1 b)))

  minus : (ds : List Lexeme) → AreLexemes ds → Ends f.Exclusions (exceptions_at (Sign Minus ∷ ds) >>= said) ds
  minus [] a = refl
  minus (Name n ∷ ds) a = never ds
  minus (Token t ∷ ds) a = never ds
  minus (Reserved n ∷ ds) a = never ds
  minus (Literal t ∷ ds) a = never ds
  minus (Value u ∷ ds) a = never ds
  minus (Sign d ∷ ds) a =
      ends_further f.Exclusions (exceptions_at (Sign Minus ∷ Sign d ∷ ds) >>= said) (Sign d) ds
      (by_sign (λ s. AreLexemes ds → Ends (after_one f.Exclusions (Sign s)) (exceptions_at (Sign Minus ∷ Sign s ∷ ds) >>= said) ds) (λ b. never ds) (λ b. never ds) (λ b. never ds) (λ b. never ds) (λ b. never ds) (λ b. never ds) (λ b. never ds) (λ b. never ds) (minus_group ds) (λ b. never ds) (λ b. never ds) (λ b. never ds) (λ b. never ds) (λ b. never ds) (λ b. never ds) (λ b. never ds) (λ b. never ds) (λ b. never ds) (λ b. never ds) (λ b. never ds) (λ b. never ds) (λ b. never ds) (λ b. never ds) (λ b. never ds) (λ b. never ds) (λ b. never ds) (λ b. never ds) (λ b. never ds) (λ b. never ds) (λ b. never ds) d (behind_one a))

  plus_here : (ds : List Lexeme) → AreLexemes ds → Ends f.Inclusions (exceptions_at (Sign Plus ∷ ds) >>= said) ds
  plus_here ds a = included ds (Sign Plus ∷ ds) f.Inclusions (plus (λ i. g ([], i)) ds a)

  plus_group : (ds : List Lexeme) → AreLexemes ds → Ends (group grouped.Inclusions) (exceptions_at (Sign Plus ∷ Sign Grpo ∷ ds) >>= said) ds
  plus_group ds a = included ds (Sign Plus ∷ Sign Grpo ∷ ds) (group grouped.Inclusions) (inclusions_in (λ i. g ([], i)) ds a)

  after_content_goes : (ds : List Lexeme) → AreLexemes ds → Ends f.AfterContent (exceptions_at ds >>= said) ds
  after_content_goes [] a = refl
  after_content_goes (Name n ∷ ds) a = never ds
  after_content_goes (Token t ∷ ds) a = never ds
  after_content_goes (Reserved n ∷ ds) a = never ds
  after_content_goes (Literal t ∷ ds) a = never ds
  after_content_goes (Value u ∷ ds) a = never ds
  after_content_goes (Sign d ∷ ds) a =
      ends_further f.AfterContent (exceptions_at (Sign d ∷ ds) >>= said) (Sign d) ds
      (by_sign (λ s. AreLexemes ds → Ends (after_one f.AfterContent (Sign s)) (exceptions_at (Sign s ∷ ds) >>= said) ds) (λ b. never ds) (λ b. never ds) (λ b. never ds) (λ b. never ds) (λ b. never ds) (λ b. never ds) (λ b. never ds) (λ b. never ds) (λ b. never ds) (λ b. never ds) (λ b. never ds) (λ b. never ds) (λ b. never ds) (minus ds) (λ b. never ds) (λ b. never ds) (λ b. never ds) (λ b. never ds) (λ b. never ds) (λ b. never ds) (λ b. never ds) (plus_here ds) (λ b. never ds) (λ b. never ds) (λ b. never ds) (λ b. never ds) (λ b. never ds) (λ b. never ds) (λ b. never ds) (λ b. never ds) d (behind_one a))

  -- behind a `+` that is the mark of the model
  marked : (done : List GroupToken) (ds : List Lexeme) → AreLexemes ds → Ends f.AfterModelPlus (exceptions_at (mark_at done (Sign Plus ∷ ds)).1 >>= said) ds
  marked done [] a = refl
  marked done (Name n ∷ ds) a = never ds
  marked done (Token t ∷ ds) a = never ds
  marked done (Reserved n ∷ ds) a = never ds
  marked done (Literal t ∷ ds) a = never ds
  marked done (Value u ∷ ds) a = never ds
  marked done (Sign d ∷ ds) a =
      ends_further f.AfterModelPlus (exceptions_at (mark_at done (Sign Plus ∷ Sign d ∷ ds)).1 >>= said) (Sign d) ds
      (by_sign (λ s. AreLexemes ds → Ends (after_one f.AfterModelPlus (Sign s)) (exceptions_at (mark_at done (Sign Plus ∷ Sign s ∷ ds)).1 >>= said) ds) (λ b. never ds) (λ b. never ds) (λ b. never ds) (λ b. never ds) (λ b. never ds) (λ b. never ds) (λ b. never ds) (λ b. never ds) (plus_group ds) (λ b. never ds) (λ b. never ds) (λ b. never ds) (λ b. never ds) (minus ds) (λ b. never ds) (λ b. never ds) (λ b. never ds) (λ b. never ds) (λ b. never ds) (λ b. never ds) (λ b. never ds) (plus_here ds) (λ b. never ds) (λ b. never ds) (λ b. never ds) (λ b. never ds) (λ b. never ds) (λ b. never ds) (λ b. never ds) (λ b. never ds) d (behind_one a))

  after_model_goes : (done : List GroupToken) (ds : List Lexeme) → AreLexemes ds → Ends f.AfterModel (exceptions_at (mark_at done ds).1 >>= said) ds
  after_model_goes done [] a = refl
  after_model_goes done (Name n ∷ ds) a = never ds
  after_model_goes done (Token t ∷ ds) a = never ds
  after_model_goes done (Reserved n ∷ ds) a = never ds
  after_model_goes done (Literal t ∷ ds) a = never ds
  after_model_goes done (Value u ∷ ds) a = never ds
  after_model_goes done (Sign d ∷ ds) a =
      ends_further f.AfterModel (exceptions_at (mark_at done (Sign d ∷ ds)).1 >>= said) (Sign d) ds
      (by_sign (λ s. AreLexemes ds → Ends (after_one f.AfterModel (Sign s)) (exceptions_at (mark_at done (Sign s ∷ ds)).1 >>= said) ds) (λ b. never ds) (λ b. never ds) (λ b. never ds) (λ b. never ds) (λ b. never ds) (λ b. never ds) (λ b. never ds) (λ b. never ds) (λ b. never ds) (λ b. never ds) (λ b. never ds) (λ b. never ds) (λ b. never ds) (minus ds) (λ b. never ds) (λ b. never ds) (after_content_goes ds) (λ b. never ds) (λ b. never ds) (λ b. never ds) (λ b. never ds) (marked done ds) (λ b. never ds) (λ b. never ds) (after_content_goes ds) (λ b. never ds) (λ b. never ds) (λ b. never ds) (λ b. never ds) (λ b. never ds) d (behind_one a))

-- CONTENT AND OMISSION (11.2.2 to 11.2.4)

abbrev shaped : ContentForm × List Lexeme → Option (ElementBody × List Lexeme)
shaped c =
    if may_have_exceptions c.0 then (exceptions_at c.1 >>= (λ x. Some (record { content = c.0; excluded = x.0.0; included = x.0.1 }, x.1)))
    else Some (record { content = c.0; excluded = []; included = [] }, c.1)

module _ {X : Type 0} (g : ElementBody → X) where
  abbrev ended : ElementBody × List Lexeme → Option X
  ended b = all_of (g b.0) b.1

  any_goes : (ds : List Lexeme) → AreLexemes ds → Ends f.AfterContent (shaped (content.Any, ds) >>= ended) ds
  any_goes ds a =
      ends_joined f.AfterContent (exceptions_at ds) (λ x. Some (record { content = content.Any; excluded = x.0.0; included = x.0.1 }, x.1)) ended ds
      (after_content_goes (λ x. g (record { content = content.Any; excluded = x.0; included = x.1 })) ds a)

  word_goes : (empty cdata rcdata any : Bool) (ds : List Lexeme) → AreLexemes ds
      → Ends (if empty || cdata || rcdata then f.Whole else if any then f.AfterContent else f.Broken)
      (((if empty then Some (content.Empty, ds) else if cdata then Some (content.Cdata, ds) else if rcdata then Some (content.Rcdata, ds) else if any then Some (content.Any, ds) else None) >>= shaped) >>= ended) ds
  word_goes true c r y ds a = whole _ ds
  word_goes false true r y ds a = whole _ ds
  word_goes false false true y ds a = whole _ ds
  word_goes false false false true ds a = any_goes ds a
  word_goes false false false false ds a = never ds

  group_of : (ds : List Lexeme) → AreLexemes (Sign Grpo ∷ ds) → Ends (f.Model 1) ((content_at (Sign Grpo ∷ ds) >>= shaped) >>= ended) ds
  group_of ds a =
      let of_group : Option (List GroupToken × List Lexeme) = tokens_at (token.Begin ∷ []) 1 ds in
      ends_joined (f.Model 1) (content_at (Sign Grpo ∷ ds)) shaped ended ds
      (ends_joined (f.Model 1) (group_at (Sign Grpo ∷ ds)) (λ m. Some (content.Model m.0, m.1)) (λ c. shaped c >>= ended) ds
      (ends_joined (f.Model 1) of_group (λ m. Some (mark_at m.0 m.1)) (λ m. shaped (content.Model m.0, m.1) >>= ended) ds
      (and_ends (f.Model 1) f.AfterModel of_group (λ m. shaped (content.Model (mark_at m.0 m.1).0, (mark_at m.0 m.1).1) >>= ended) ds (behind_one a)
      (model_in (token.Begin ∷ []) 1 ds (omega arith) (omega (arith, a.few)))
      (λ m fits b. ends_joined f.AfterModel (exceptions_at (mark_at m.0 m.1).1) (λ x. Some (record { content = content.Model (mark_at m.0 m.1).0; excluded = x.0.0; included = x.0.1 }, x.1)) ended m.1
      (after_model_goes (λ x. g (record { content = content.Model (mark_at m.0 m.1).0; excluded = x.0; included = x.1 })) m.0 m.1 b)))))

  -- without marks of omission before it
  content_goes : (ds : List Lexeme) → AreLexemes ds → Ends f.Content (body_at ds >>= ended) ds
  content_goes [] a = refl
  content_goes (Name n ∷ ds) a =
      ends_further f.Content (body_at (Name n ∷ ds) >>= ended) (Name n) ds
      (word_goes (is_word (codes "EMPTY") n) (is_word (codes "CDATA") n) (is_word (codes "RCDATA") n) (is_word (codes "ANY") n) ds (behind_one a))
  content_goes (Token t ∷ ds) a = never ds
  content_goes (Reserved n ∷ ds) a = never ds
  content_goes (Literal t ∷ ds) a = never ds
  content_goes (Value u ∷ ds) a = never ds
  content_goes (Sign d ∷ ds) a =
      ends_further f.Content (body_at (Sign d ∷ ds) >>= ended) (Sign d) ds
      (by_sign (λ s. AreLexemes (Sign s ∷ ds) → Ends (after_one f.Content (Sign s)) (body_at (Sign s ∷ ds) >>= ended) ds) (λ b. never ds) (λ b. never ds) (λ b. never ds) (λ b. never ds) (λ b. never ds) (λ b. never ds) (λ b. never ds) (λ b. never ds) (group_of ds) (λ b. never ds) (λ b. never ds) (λ b. never ds) (λ b. never ds) (λ b. never ds) (λ b. never ds) (λ b. never ds) (λ b. never ds) (λ b. never ds) (λ b. never ds) (λ b. never ds) (λ b. never ds) (λ b. never ds) (λ b. never ds) (λ b. never ds) (λ b. never ds) (λ b. never ds) (λ b. never ds) (λ b. never ds) (λ b. never ds) (λ b. never ds) d a)

by_second : (b : Bool) (ds : List Lexeme) → Goes (if b then f.Content else f.Broken) f.Content (if b then Some (true, ds) else None) ds
by_second true ds = (refl, same ds)
by_second false ds = never ds

second_goes : (ds : List Lexeme) → Goes f.EndOmission f.Content (omit_at ds) ds
second_goes [] = refl
second_goes (Name n ∷ ds) = further f.EndOmission f.Content (omit_at (Name n ∷ ds)) (Name n) ds (by_second (is_word (codes "O") n) ds)
second_goes (Token t ∷ ds) = never ds
second_goes (Reserved n ∷ ds) = never ds
second_goes (Literal t ∷ ds) = never ds
second_goes (Value u ∷ ds) = never ds
second_goes (Sign d ∷ ds) =
    further f.EndOmission f.Content (omit_at (Sign d ∷ ds)) (Sign d) ds
    (by_sign (λ s. Goes (after_one f.EndOmission (Sign s)) f.Content (omit_at (Sign s ∷ ds)) ds) (never ds) (never ds) (never ds) (never ds) (never ds) (never ds) (never ds) (never ds) (never ds) (never ds) (never ds) (never ds) (never ds) (refl, same ds) (never ds) (never ds) (never ds) (never ds) (never ds) (never ds) (never ds) (never ds) (never ds) (never ds) (never ds) (never ds) (never ds) (never ds) (never ds) (never ds) d)

module _ {X : Type 0} (g : Omits → ElementBody → X) where
  abbrev with_body : Omits × List Lexeme → Option X
  with_body o = body_at o.1 >>= (λ b. all_of (g o.0 b.0) b.1)

  second : (start : Bool) (ds all : List Lexeme) → AreLexemes ds → Ends f.EndOmission (second_omit all (Some (start, ds)) >>= with_body) ds
  second start ds all a =
      ends_joined f.EndOmission (omit_at ds) (λ e. Some (record { start = start; end = e.0 }, e.1)) with_body ds
      (and_ends f.EndOmission f.Content (omit_at ds) (λ e. with_body (record { start = start; end = e.0 }, e.1)) ds a (second_goes ds) (λ e fits b. content_goes (λ body. g (record { start = start; end = e.0 }) body) e.1 b))

  abbrev neither : Omits
  neither = record { start = false; end = false }

  by_omission : (b : Bool) (n : List ℕ) (ds : List Lexeme) → AreLexemes ds
      → Ends (if b then f.EndOmission else content_form n) (second_omit (Name n ∷ ds) (if b then Some (true, ds) else None) >>= with_body) ds
  by_omission true n ds a = second true ds (Name n ∷ ds) a
  by_omission false n ds a = word_goes (λ body. g neither body) (is_word (codes "EMPTY") n) (is_word (codes "CDATA") n) (is_word (codes "RCDATA") n) (is_word (codes "ANY") n) ds a

  omission_goes : (ds : List Lexeme) → AreLexemes ds → Ends f.StartOmission (omits_at ds >>= with_body) ds
  omission_goes [] a = refl
  omission_goes (Name n ∷ ds) a =
      ends_further f.StartOmission (omits_at (Name n ∷ ds) >>= with_body) (Name n) ds (by_omission (is_word (codes "O") n) n ds (behind_one a))
  omission_goes (Token t ∷ ds) a = never ds
  omission_goes (Reserved n ∷ ds) a = never ds
  omission_goes (Literal t ∷ ds) a = never ds
  omission_goes (Value u ∷ ds) a = never ds
  omission_goes (Sign d ∷ ds) a =
      ends_further f.StartOmission (omits_at (Sign d ∷ ds) >>= with_body) (Sign d) ds
      (by_sign (λ s. AreLexemes (Sign s ∷ ds) → Ends (after_one f.StartOmission (Sign s)) (omits_at (Sign s ∷ ds) >>= with_body) ds) (λ b. never ds) (λ b. never ds) (λ b. never ds) (λ b. never ds) (λ b. never ds) (λ b. never ds) (λ b. never ds) (λ b. never ds) (group_of (λ body. g neither body) ds) (λ b. never ds) (λ b. never ds) (λ b. never ds) (λ b. never ds) (λ b. second false ds (Sign Minus ∷ ds) (behind_one b)) (λ b. never ds) (λ b. never ds) (λ b. never ds) (λ b. never ds) (λ b. never ds) (λ b. never ds) (λ b. never ds) (λ b. never ds) (λ b. never ds) (λ b. never ds) (λ b. never ds) (λ b. never ds) (λ b. never ds) (λ b. never ds) (λ b. never ds) (λ b. never ds) d a)

names_goes_Elements : (ds : List Lexeme) → Goes f.ElementNames (after_group grouped.Elements) (names_at ds) ds
names_goes_Elements [] = refl
names_goes_Elements (Name n ∷ ds) = (refl, one (Name n) ds)
names_goes_Elements (Token t ∷ ds) = never ds
names_goes_Elements (Reserved n ∷ ds) = never ds
names_goes_Elements (Literal t ∷ ds) = never ds
names_goes_Elements (Value u ∷ ds) = never ds
names_goes_Elements (Sign d ∷ ds) =
    further f.ElementNames (after_group grouped.Elements) (names_at (Sign d ∷ ds)) (Sign d) ds
    (by_sign (λ s. Goes (after_one f.ElementNames (Sign s)) (after_group grouped.Elements) (names_at (Sign s ∷ ds)) ds) (never ds) (never ds) (never ds) (never ds) (never ds) (never ds) (never ds) (never ds) (group_goes grouped.Elements (λ x c. refl) ds) (never ds) (never ds) (never ds) (never ds) (never ds) (never ds) (never ds) (never ds) (never ds) (never ds) (never ds) (never ds) (never ds) (never ds) (never ds) (never ds) (never ds) (never ds) (never ds) (never ds) (never ds) d)

names_goes_Lists : (ds : List Lexeme) → Goes f.ListNames (after_group grouped.Lists) (names_at ds) ds
names_goes_Lists [] = refl
names_goes_Lists (Name n ∷ ds) = (refl, one (Name n) ds)
names_goes_Lists (Token t ∷ ds) = never ds
names_goes_Lists (Reserved n ∷ ds) = or_left_out (is_word (codes "NOTATION") n) OtherOut ds
names_goes_Lists (Literal t ∷ ds) = never ds
names_goes_Lists (Value u ∷ ds) = never ds
names_goes_Lists (Sign d ∷ ds) =
    further f.ListNames (after_group grouped.Lists) (names_at (Sign d ∷ ds)) (Sign d) ds
    (by_sign (λ s. Goes (after_one f.ListNames (Sign s)) (after_group grouped.Lists) (names_at (Sign s ∷ ds)) ds) (never ds) (never ds) (never ds) (never ds) (never ds) (never ds) (never ds) (never ds) (group_goes grouped.Lists (λ x c. refl) ds) (never ds) (never ds) (never ds) (never ds) (never ds) (never ds) (never ds) (never ds) (never ds) (never ds) (never ds) (never ds) (never ds) (never ds) (never ds) (never ds) (never ds) (never ds) (never ds) (never ds) (never ds) d)

element_goes : (ds : List Lexeme) → AreLexemes ds → Ends f.ElementNames (element_at ds) ds
unfolding element_at
element_goes ds a =
    and_ends f.ElementNames f.StartOmission (names_at ds) (λ n. omits_at n.1 >>= with_body (λ o b. record { names = n.0; omits = o; body = b })) ds a (names_goes_Elements ds)
    (λ n fits b. omission_goes (λ o body. record { names = n.0; omits = o; body = body }) n.1 b)

-- ATTRIBUTES (11.3)

notation_names : (ds : List Lexeme) → Goes f.Notations f.Default (notations_at ds) ds
notation_names [] = refl
notation_names (Name n ∷ ds) = never ds
notation_names (Token t ∷ ds) = never ds
notation_names (Reserved n ∷ ds) = never ds
notation_names (Literal t ∷ ds) = never ds
notation_names (Value u ∷ ds) = never ds
notation_names (Sign d ∷ ds) = further f.Notations f.Default (notations_at (Sign d ∷ ds)) (Sign d) ds
    (by_sign (λ s. Goes (after_one f.Notations (Sign s)) f.Default (notations_at (Sign s ∷ ds)) ds) (never ds) (never ds) (never ds) (never ds) (never ds) (never ds) (never ds) (never ds) (goes_said (group grouped.Notations) f.Default (name_group_at ds) (λ g. declared.Notation g) ds (group_goes grouped.Notations (λ x c. refl) ds)) (never ds) (never ds) (never ds) (never ds) (never ds) (never ds) (never ds) (never ds) (never ds) (never ds) (never ds) (never ds) (never ds) (never ds) (never ds) (never ds) (never ds) (never ds) (never ds) (never ds) (never ds) d)

value_word : (b0 b1 b2 b3 b4 b5 b6 b7 b8 b9 b10 b11 b12 b13 : Bool) (ds : List Lexeme) → Goes (if b0 || b1 || b2 || b3 || b4 || b5 || b6 || b7 || b8 || b9 || b10 || b11 || b12 || b13 then f.Default else f.Broken) f.Default ((if b0 then Some declared.Cdata else if b1 then Some declared.Entity else if b2 then Some declared.Entities else if b3 then Some declared.Id else if b4 then Some declared.Idref else if b5 then Some declared.Idrefs else if b6 then Some declared.Name else if b7 then Some declared.Names else if b8 then Some declared.Nmtoken else if b9 then Some declared.Nmtokens else if b10 then Some declared.Number else if b11 then Some declared.Numbers else if b12 then Some declared.Nutoken else if b13 then Some declared.Nutokens else None) >>= (λ v. Some (v, ds))) ds
value_word true b1 b2 b3 b4 b5 b6 b7 b8 b9 b10 b11 b12 b13 ds = (refl, same ds)
value_word false true b2 b3 b4 b5 b6 b7 b8 b9 b10 b11 b12 b13 ds = (refl, same ds)
value_word false false true b3 b4 b5 b6 b7 b8 b9 b10 b11 b12 b13 ds = (refl, same ds)
value_word false false false true b4 b5 b6 b7 b8 b9 b10 b11 b12 b13 ds = (refl, same ds)
value_word false false false false true b5 b6 b7 b8 b9 b10 b11 b12 b13 ds = (refl, same ds)
value_word false false false false false true b6 b7 b8 b9 b10 b11 b12 b13 ds = (refl, same ds)
value_word false false false false false false true b7 b8 b9 b10 b11 b12 b13 ds = (refl, same ds)
value_word false false false false false false false true b8 b9 b10 b11 b12 b13 ds = (refl, same ds)
value_word false false false false false false false false true b9 b10 b11 b12 b13 ds = (refl, same ds)
value_word false false false false false false false false false true b10 b11 b12 b13 ds = (refl, same ds)
value_word false false false false false false false false false false true b11 b12 b13 ds = (refl, same ds)
value_word false false false false false false false false false false false true b12 b13 ds = (refl, same ds)
value_word false false false false false false false false false false false false true b13 ds = (refl, same ds)
value_word false false false false false false false false false false false false false true ds = (refl, same ds)
value_word false false false false false false false false false false false false false false ds = never ds

by_notation : (b : Bool) (n : List ℕ) (ds : List Lexeme) → Goes (if b then f.Notations else if is_declared_value n then f.Default else f.Broken) f.Default (if b then notations_at ds else (worded value_words n >>= (λ v. Some (v, ds)))) ds
by_notation true n ds = notation_names ds
by_notation false n ds = value_word (is_word (codes "CDATA") n) (is_word (codes "ENTITY") n) (is_word (codes "ENTITIES") n) (is_word (codes "ID") n) (is_word (codes "IDREF") n) (is_word (codes "IDREFS") n) (is_word (codes "NAME") n) (is_word (codes "NAMES") n) (is_word (codes "NMTOKEN") n) (is_word (codes "NMTOKENS") n) (is_word (codes "NUMBER") n) (is_word (codes "NUMBERS") n) (is_word (codes "NUTOKEN") n) (is_word (codes "NUTOKENS") n) ds

declared_goes : (ds : List Lexeme) → HaveCharacters ds → Goes f.Declared f.Default (declared_at ds) ds
declared_goes [] have = refl
declared_goes (Name n ∷ ds) have = further f.Declared f.Default (declared_at (Name n ∷ ds)) (Name n) ds (by_notation (is_word (codes "NOTATION") n) n ds)
declared_goes (Token t ∷ ds) have = never ds
declared_goes (Reserved n ∷ ds) have = never ds
declared_goes (Literal t ∷ ds) have = never ds
declared_goes (Value u ∷ ds) have = never ds
declared_goes (Sign d ∷ ds) have = further f.Declared f.Default (declared_at (Sign d ∷ ds)) (Sign d) ds
    (by_sign (λ s. Goes (after_one f.Declared (Sign s)) f.Default (declared_at (Sign s ∷ ds)) ds) (never ds) (never ds) (never ds) (never ds) (never ds) (never ds) (never ds) (never ds) (goes_said (group grouped.Tokens) f.Default (token_group_at ds) (λ g. declared.Group g) ds (tokens_in [] None true ds have.1)) (never ds) (never ds) (never ds) (never ds) (never ds) (never ds) (never ds) (never ds) (never ds) (never ds) (never ds) (never ds) (never ds) (never ds) (never ds) (never ds) (never ds) (never ds) (never ds) (never ds) (never ds) d)

fixed_value : (ds : List Lexeme) → Goes f.Fixed f.AttributeOrEnd (value_at ds) ds
fixed_value [] = refl
fixed_value (Name n ∷ ds) = (refl, one (Name n) ds)
fixed_value (Token t ∷ ds) = (refl, one (Token t) ds)
fixed_value (Reserved n ∷ ds) = never ds
fixed_value (Literal t ∷ ds) = never ds
fixed_value (Value u ∷ ds) = (refl, one (Value u) ds)
fixed_value (Sign d ∷ ds) = never ds

default_keyword : (fixed b0 b1 b2 b3 : Bool) (ds : List Lexeme) → Goes (if fixed then f.Fixed else if b0 || b1 || b2 || b3 then f.AttributeOrEnd else f.Broken) f.AttributeOrEnd
    (if fixed then (value_at ds >>= (λ v. Some (default.Fixed v.0, v.1))) else ((if b0 then Some default.Required else if b1 then Some default.Current else if b2 then Some default.Conref else if b3 then Some default.Implied else None) >>= (λ d. Some (d, ds)))) ds
default_keyword true b0 b1 b2 b3 ds = goes_said f.Fixed f.AttributeOrEnd (value_at ds) (λ v. default.Fixed v) ds (fixed_value ds)
default_keyword false true b1 b2 b3 ds = (refl, same ds)
default_keyword false false true b2 b3 ds = (refl, same ds)
default_keyword false false false true b3 ds = (refl, same ds)
default_keyword false false false false true ds = (refl, same ds)
default_keyword false false false false false ds = never ds

default_goes : (ds : List Lexeme) → Goes f.Default f.AttributeOrEnd (default_at ds) ds
default_goes [] = refl
default_goes (Name n ∷ ds) = (refl, one (Name n) ds)
default_goes (Token t ∷ ds) = (refl, one (Token t) ds)
default_goes (Reserved n ∷ ds) = further f.Default f.AttributeOrEnd (default_at (Reserved n ∷ ds)) (Reserved n) ds (default_keyword (is_word (codes "FIXED") n) (is_word (codes "REQUIRED") n) (is_word (codes "CURRENT") n) (is_word (codes "CONREF") n) (is_word (codes "IMPLIED") n) ds)
default_goes (Literal t ∷ ds) = never ds
default_goes (Value u ∷ ds) = (refl, one (Value u) ds)
default_goes (Sign d ∷ ds) = never ds

-- behind the name of an attribute
abbrev defined : List ℕ → List Lexeme → Option (AttributeForm × List Lexeme)
defined n ds = declared_at ds >>= (λ v. default_at v.1 >>= (λ d. Some (record { name = n; declared = v.0; default = d.0 }, d.1)))

definition_goes : (n : List ℕ) (ds : List Lexeme) → AreLexemes ds → Goes f.Declared f.AttributeOrEnd (defined n ds) ds
definition_goes n ds a =
    and_goes f.Declared f.Default f.AttributeOrEnd (declared_at ds) (λ v. default_at v.1 >>= (λ d. Some (record { name = n; declared = v.0; default = d.0 }, d.1))) ds a (declared_goes ds a.characters)
    (λ v b. goes_said f.Default f.AttributeOrEnd (default_at v.1) (λ d. record { name = n; declared = v.0; default = d }) v.1 (default_goes v.1))

attribute_goes : (ds : List Lexeme) → AreLexemes ds → Goes f.Attribute f.AttributeOrEnd (attribute_at ds) ds
unfolding attribute_at
attribute_goes [] a = refl
attribute_goes (Name n ∷ ds) a = further f.Attribute f.AttributeOrEnd (attribute_at (Name n ∷ ds)) (Name n) ds (definition_goes n ds (behind_one a))
attribute_goes (Token t ∷ ds) a = never ds
attribute_goes (Reserved n ∷ ds) a = never ds
attribute_goes (Literal t ∷ ds) a = never ds
attribute_goes (Value u ∷ ds) a = never ds
attribute_goes (Sign d ∷ ds) a = never ds

attributes_goes : (n : ℕ) (done : List AttributeForm) (ds : List Lexeme) → length ds ≤ n → AreLexemes ds → Ends f.AttributeOrEnd (attributes_at n done ds) ds
unfolding attribute_at
attributes_goes zero done [] l a = refl
attributes_goes (suc m) done [] l a = refl
attributes_goes zero done (d ∷ ds) l a = absurd (omega (arith, l))
attributes_goes (suc m) done (Name n ∷ ds) l a =
    let more : AttributeForm × List Lexeme → Option (List AttributeForm) = λ x. attributes_at m (done ++ x.0 ∷ []) x.1 in
    ends_further f.AttributeOrEnd (attribute_at (Name n ∷ ds) >>= more) (Name n) ds
    (and_ends f.Declared f.AttributeOrEnd (defined n ds) more ds (behind_one a) (definition_goes n ds (behind_one a))
    (λ x fits b. attributes_goes m (done ++ x.0 ∷ []) x.1 (omega (arith, l, fits.fewer)) b))
attributes_goes (suc m) done (Token t ∷ ds) l a = never ds
attributes_goes (suc m) done (Reserved n ∷ ds) l a = never ds
attributes_goes (suc m) done (Literal t ∷ ds) l a = never ds
attributes_goes (suc m) done (Value u ∷ ds) l a = never ds
attributes_goes (suc m) done (Sign d ∷ ds) l a = never ds

attlist_goes : (ds : List Lexeme) → AreLexemes ds → Ends f.ListNames (attlist_at ds) ds
unfolding attlist_at
attlist_goes ds a =
    and_ends f.ListNames f.Attribute (names_at ds) (λ n. attribute_at n.1 >>= (λ x. attributes_at (length x.1) (x.0 ∷ []) x.1 >>= (λ more. Some (record { names = n.0; attributes = more })))) ds a (names_goes_Lists ds)
    (λ n fits b. and_ends f.Attribute f.AttributeOrEnd (attribute_at n.1) (λ x. attributes_at (length x.1) (x.0 ∷ []) x.1 >>= (λ more. Some (record { names = n.0; attributes = more }))) n.1 b (attribute_goes n.1 b)
    (λ x inside e. ends_said f.AttributeOrEnd (attributes_at (length x.1) (x.0 ∷ []) x.1) (λ more. record { names = n.0; attributes = more }) x.1 (attributes_goes (length x.1) (x.0 ∷ []) x.1 (omega arith) e)))

-- EXTERNAL IDENTIFIERS (10.1.6)

ends_alike : {X : Type 0} (F G : Form) (o : Option X) (ds : List Lexeme) → is_complete (due F ds) ≡ is_complete (due G ds) → Ends G o ds → Ends F o ds
ends_alike F G None ds e h = e ∙ h
ends_alike F G (Some x) ds e h = e ∙ h

module _ {X : Type 0} (o : Owner) (k : External × List Lexeme → Option X) (goes_behind : (e : External) (ds : List Lexeme) → AreLexemes ds → Ends (f.External o) (k (e, ds)) ds) where
  system_goes : (ds : List Lexeme) → AreLexemes ds → Ends (f.System o) (k (system_at ds)) ds
  system_goes [] a = ends_alike (f.System o) (f.External o) (k ((record { public = None; system = None }), [])) [] refl (goes_behind (record { public = None; system = None }) [] a)
  system_goes (Name n ∷ ds) a = ends_alike (f.System o) (f.External o) (k ((record { public = None; system = None }), Name n ∷ ds)) (Name n ∷ ds) refl (goes_behind (record { public = None; system = None }) (Name n ∷ ds) a)
  system_goes (Token t ∷ ds) a = ends_alike (f.System o) (f.External o) (k ((record { public = None; system = None }), Token t ∷ ds)) (Token t ∷ ds) refl (goes_behind (record { public = None; system = None }) (Token t ∷ ds) a)
  system_goes (Reserved n ∷ ds) a = ends_alike (f.System o) (f.External o) (k ((record { public = None; system = None }), Reserved n ∷ ds)) (Reserved n ∷ ds) refl (goes_behind (record { public = None; system = None }) (Reserved n ∷ ds) a)
  system_goes (Literal t ∷ ds) a = ends_further (f.System o) (k (record { public = None; system = Some t }, ds)) (Literal t) ds (goes_behind (record { public = None; system = Some t }) ds (behind_one a))
  system_goes (Value u ∷ ds) a = ends_alike (f.System o) (f.External o) (k ((record { public = None; system = None }), Value u ∷ ds)) (Value u ∷ ds) refl (goes_behind (record { public = None; system = None }) (Value u ∷ ds) a)
  system_goes (Sign d ∷ ds) a = ends_alike (f.System o) (f.External o) (k ((record { public = None; system = None }), Sign d ∷ ds)) (Sign d ∷ ds) refl (goes_behind (record { public = None; system = None }) (Sign d ∷ ds) a)

  abbrev named_public : List ℕ → List Lexeme → External × List Lexeme
  named_public p ds = (record { public = Some p; system = (optional_literal ds).0 }, (optional_literal ds).1)

  named_goes : (p : List ℕ) (ds : List Lexeme) → AreLexemes ds → Ends (f.PublicNamed o) (k (named_public p ds)) ds
  named_goes p [] a = ends_alike (f.PublicNamed o) (f.External o) (k ((record { public = Some p; system = None }), [])) [] refl (goes_behind (record { public = Some p; system = None }) [] a)
  named_goes p (Name n ∷ ds) a = ends_alike (f.PublicNamed o) (f.External o) (k ((record { public = Some p; system = None }), Name n ∷ ds)) (Name n ∷ ds) refl (goes_behind (record { public = Some p; system = None }) (Name n ∷ ds) a)
  named_goes p (Token t ∷ ds) a = ends_alike (f.PublicNamed o) (f.External o) (k ((record { public = Some p; system = None }), Token t ∷ ds)) (Token t ∷ ds) refl (goes_behind (record { public = Some p; system = None }) (Token t ∷ ds) a)
  named_goes p (Reserved n ∷ ds) a = ends_alike (f.PublicNamed o) (f.External o) (k ((record { public = Some p; system = None }), Reserved n ∷ ds)) (Reserved n ∷ ds) refl (goes_behind (record { public = Some p; system = None }) (Reserved n ∷ ds) a)
  named_goes p (Literal t ∷ ds) a = ends_further (f.PublicNamed o) (k (record { public = Some p; system = Some t }, ds)) (Literal t) ds (goes_behind (record { public = Some p; system = Some t }) ds (behind_one a))
  named_goes p (Value u ∷ ds) a = ends_alike (f.PublicNamed o) (f.External o) (k ((record { public = Some p; system = None }), Value u ∷ ds)) (Value u ∷ ds) refl (goes_behind (record { public = Some p; system = None }) (Value u ∷ ds) a)
  named_goes p (Sign d ∷ ds) a = ends_alike (f.PublicNamed o) (f.External o) (k ((record { public = Some p; system = None }), Sign d ∷ ds)) (Sign d ∷ ds) refl (goes_behind (record { public = Some p; system = None }) (Sign d ∷ ds) a)

  public_goes : (ds : List Lexeme) → AreLexemes ds → Ends (f.Public o) (public_at ds >>= k) ds
  public_goes [] a = refl
  public_goes (Name n ∷ ds) a = never ds
  public_goes (Token t ∷ ds) a = never ds
  public_goes (Reserved n ∷ ds) a = never ds
  public_goes (Literal t ∷ ds) a = ends_further (f.Public o) (k (named_public t ds)) (Literal t) ds (named_goes t ds (behind_one a))
  public_goes (Value u ∷ ds) a = never ds
  public_goes (Sign d ∷ ds) a = never ds

  by_external : (system public : Bool) (ds : List Lexeme) → AreLexemes ds
      → Ends (if system then f.System o else if public then f.Public o else f.Broken) ((if system then Some (system_at ds) else if public then public_at ds else None) >>= k) ds
  by_external true p ds a = system_goes ds a
  by_external false true ds a = public_goes ds a
  by_external false false ds a = never ds

notation_ends : {X : Type 0} (x : X) (ds : List Lexeme) → Ends (f.External owner.Notation) (all_of x ds) ds
notation_ends x [] = refl
notation_ends x (Name n ∷ ds) = never ds
notation_ends x (Token t ∷ ds) = never ds
notation_ends x (Reserved n ∷ ds) = never ds
notation_ends x (Literal t ∷ ds) = never ds
notation_ends x (Value u ∷ ds) = never ds
notation_ends x (Sign d ∷ ds) = never ds

notation_behind : {X : Type 0} (g : External → X) (ds : List Lexeme) → AreLexemes ds → Ends f.NotationNamed (external_at ds >>= (λ e. all_of (g e.0) e.1)) ds
notation_behind g [] a = refl
notation_behind g (Name n ∷ ds) a = ends_further f.NotationNamed (external_at (Name n ∷ ds) >>= (λ e. all_of (g e.0) e.1)) (Name n) ds (by_external owner.Notation (λ e. all_of (g e.0) e.1) (λ e rest b. notation_ends (g e) rest) (is_word (codes "SYSTEM") n) (is_word (codes "PUBLIC") n) ds (behind_one a))
notation_behind g (Token t ∷ ds) a = never ds
notation_behind g (Reserved n ∷ ds) a = never ds
notation_behind g (Literal t ∷ ds) a = never ds
notation_behind g (Value u ∷ ds) a = never ds
notation_behind g (Sign d ∷ ds) a = never ds

notation_name : (ds : List Lexeme) → Goes f.NotationName f.NotationNamed (name_at ds) ds
notation_name [] = refl
notation_name (Name n ∷ ds) = (refl, one (Name n) ds)
notation_name (Token t ∷ ds) = never ds
notation_name (Reserved n ∷ ds) = never ds
notation_name (Literal t ∷ ds) = never ds
notation_name (Value u ∷ ds) = never ds
notation_name (Sign d ∷ ds) = never ds

notation_goes : (ds : List Lexeme) → AreLexemes ds → Ends f.NotationName (notation_at ds) ds
unfolding notation_at
notation_goes ds a =
    and_ends f.NotationName f.NotationNamed (name_at ds) (λ n. external_at n.1 >>= (λ e. all_of (record { name = n.0; external = e.0 }) e.1)) ds a (notation_name ds)
    (λ n fits b. notation_behind (λ e. record { name = n.0; external = e }) n.1 b)

-- DOCUMENT TYPES (11.1)

whole_more : (d : Lexeme) (ds : List Lexeme) → is_complete (due f.Whole (d ∷ ds)) ≡ false
whole_more (Name n) ds = never ds
whole_more (Token t) ds = never ds
whole_more (Reserved n) ds = never ds
whole_more (Literal t) ds = never ds
whole_more (Value u) ds = never ds
whole_more (Sign d) ds = never ds

dso_ends : (ds : List Lexeme) → Ends f.Whole (subset_at (Sign Dso ∷ ds)) ds
dso_ends [] = refl
dso_ends (d ∷ ds) = whole_more d ds

subset_ends : (ds : List Lexeme) → Ends (f.External owner.Doctype) (subset_at ds) ds
subset_ends [] = refl
subset_ends (Name n ∷ ds) = never ds
subset_ends (Token t ∷ ds) = never ds
subset_ends (Reserved n ∷ ds) = never ds
subset_ends (Literal t ∷ ds) = never ds
subset_ends (Value u ∷ ds) = never ds
subset_ends (Sign d ∷ ds) = ends_further (f.External owner.Doctype) (subset_at (Sign d ∷ ds)) (Sign d) ds
    (by_sign (λ s. Ends (after_one (f.External owner.Doctype) (Sign s)) (subset_at (Sign s ∷ ds)) ds) (never ds) (never ds) (never ds) (never ds) (dso_ends ds) (never ds) (never ds) (never ds) (never ds) (never ds) (never ds) (never ds) (never ds) (never ds) (never ds) (never ds) (never ds) (never ds) (never ds) (never ds) (never ds) (never ds) (never ds) (never ds) (never ds) (never ds) (never ds) (never ds) (never ds) (never ds) d)

by_head : (system public : Bool) (n : List ℕ) (ds : List Lexeme) → AreLexemes ds
    → Ends (if system then f.System owner.Doctype else if public then f.Public owner.Doctype else f.Broken) (subset_at (or_none (Name n ∷ ds) (if system then Some (system_at ds) else if public then public_at ds else None)).1) ds
by_head true p n ds a = system_goes owner.Doctype (λ e. subset_at e.1) (λ e rest b. subset_ends rest) ds a
by_head false true n [] a = refl
by_head false true m (Name n ∷ ds) a = never ds
by_head false true n (Token t ∷ ds) a = never ds
by_head false true m (Reserved n ∷ ds) a = never ds
by_head false true n (Literal t ∷ ds) a = ends_further (f.Public owner.Doctype) (subset_at (or_none (Name n ∷ Literal t ∷ ds) (public_at (Literal t ∷ ds))).1) (Literal t) ds (named_goes owner.Doctype (λ e. subset_at e.1) (λ e rest b. subset_ends rest) t ds (behind_one a))
by_head false true n (Value u ∷ ds) a = never ds
by_head false true n (Sign d ∷ ds) a = never ds
by_head false false n ds a = never ds

head_goes : (ds : List Lexeme) → AreLexemes ds → Ends f.DoctypeNamed (subset_at (or_none ds (external_at ds)).1) ds
head_goes [] a = refl
head_goes (Name n ∷ ds) a = ends_further f.DoctypeNamed (subset_at (or_none (Name n ∷ ds) (external_at (Name n ∷ ds))).1) (Name n) ds (by_head (is_word (codes "SYSTEM") n) (is_word (codes "PUBLIC") n) n ds (behind_one a))
head_goes (Token t ∷ ds) a = never ds
head_goes (Reserved n ∷ ds) a = never ds
head_goes (Literal t ∷ ds) a = never ds
head_goes (Value u ∷ ds) a = never ds
head_goes (Sign d ∷ ds) a = ends_further f.DoctypeNamed (subset_at (or_none (Sign d ∷ ds) (external_at (Sign d ∷ ds))).1) (Sign d) ds
    (by_sign (λ s. Ends (after_one f.DoctypeNamed (Sign s)) (subset_at (Sign s ∷ ds)) ds) (never ds) (never ds) (never ds) (never ds) (dso_ends ds) (never ds) (never ds) (never ds) (never ds) (never ds) (never ds) (never ds) (never ds) (never ds) (never ds) (never ds) (never ds) (never ds) (never ds) (never ds) (never ds) (never ds) (never ds) (never ds) (never ds) (never ds) (never ds) (never ds) (never ds) (never ds) d)

doctype_name : (ds : List Lexeme) → Goes f.DoctypeName f.DoctypeNamed (name_at ds) ds
doctype_name [] = refl
doctype_name (Name n ∷ ds) = (refl, one (Name n) ds)
doctype_name (Token t ∷ ds) = never ds
doctype_name (Reserved n ∷ ds) = or_left_out (is_word (codes "IMPLIED") n) OtherOut ds
doctype_name (Literal t ∷ ds) = never ds
doctype_name (Value u ∷ ds) = never ds
doctype_name (Sign d ∷ ds) = never ds

doctype_goes : (ds : List Lexeme) → AreLexemes ds → Ends f.DoctypeName (doctype_at ds) ds
unfolding doctype_at
doctype_goes ds a =
    and_ends f.DoctypeName f.DoctypeNamed (name_at ds) (λ n. subset_at (or_none n.1 (external_at n.1)).1 >>= (λ s. Some (record { name = n.0; external = (or_none n.1 (external_at n.1)).0; subset = s }))) ds a (doctype_name ds)
    (λ n fits b. ends_said f.DoctypeNamed (subset_at (or_none n.1 (external_at n.1)).1) (λ s. record { name = n.0; external = (or_none n.1 (external_at n.1)).0; subset = s }) n.1 (head_goes n.1 b))

-- MAPS (11.5, 11.6)

abbrev pair_form : Option (List ℕ) → Form
pair_form None = f.MapLiteralOrEnd
pair_form (Some t) = f.MapEntity

pairs_goes : (done : List (List ℕ × List ℕ)) (o : Option (List ℕ)) (ds : List Lexeme) → Ends (pair_form o) (pairs_at done o ds) ds
pairs_goes done None [] = refl
pairs_goes done None (Name n ∷ ds) = never ds
pairs_goes done None (Token t ∷ ds) = never ds
pairs_goes done None (Reserved n ∷ ds) = never ds
pairs_goes done None (Literal t ∷ ds) = ends_further f.MapLiteralOrEnd (pairs_at done (Some t) ds) (Literal t) ds (pairs_goes done (Some t) ds)
pairs_goes done None (Value u ∷ ds) = never ds
pairs_goes done None (Sign d ∷ ds) = never ds
pairs_goes done (Some x) [] = refl
pairs_goes done (Some x) (Name n ∷ ds) = ends_further f.MapEntity (pairs_at (done ++ (x, n) ∷ []) None ds) (Name n) ds (pairs_goes (done ++ (x, n) ∷ []) None ds)
pairs_goes done (Some x) (Token t ∷ ds) = never ds
pairs_goes done (Some x) (Reserved n ∷ ds) = never ds
pairs_goes done (Some x) (Literal t ∷ ds) = never ds
pairs_goes done (Some x) (Value u ∷ ds) = never ds
pairs_goes done (Some x) (Sign d ∷ ds) = never ds

map_name : (ds : List Lexeme) → Goes f.MapName f.MapLiteral (name_at ds) ds
map_name [] = refl
map_name (Name n ∷ ds) = (refl, one (Name n) ds)
map_name (Token t ∷ ds) = never ds
map_name (Reserved n ∷ ds) = never ds
map_name (Literal t ∷ ds) = never ds
map_name (Value u ∷ ds) = never ds
map_name (Sign d ∷ ds) = never ds

map_literal : (ds : List Lexeme) → Goes f.MapLiteral f.MapEntity (literal_at ds) ds
map_literal [] = refl
map_literal (Name n ∷ ds) = never ds
map_literal (Token t ∷ ds) = never ds
map_literal (Reserved n ∷ ds) = never ds
map_literal (Literal t ∷ ds) = (refl, one (Literal t) ds)
map_literal (Value u ∷ ds) = never ds
map_literal (Sign d ∷ ds) = never ds

map_entity : (ds : List Lexeme) → Goes f.MapEntity f.MapLiteralOrEnd (name_at ds) ds
map_entity [] = refl
map_entity (Name n ∷ ds) = (refl, one (Name n) ds)
map_entity (Token t ∷ ds) = never ds
map_entity (Reserved n ∷ ds) = never ds
map_entity (Literal t ∷ ds) = never ds
map_entity (Value u ∷ ds) = never ds
map_entity (Sign d ∷ ds) = never ds

shortref_goes : (ds : List Lexeme) → AreLexemes ds → Ends f.MapName (shortref_at ds) ds
unfolding shortref_at
shortref_goes ds a =
    and_ends f.MapName f.MapLiteral (name_at ds) (λ n. literal_at n.1 >>= (λ t. name_at t.1 >>= (λ e. pairs_at ((t.0, e.0) ∷ []) None e.1 >>= (λ more. Some (record { name = n.0; pairs = more }))))) ds a (map_name ds)
    (λ n fits b. and_ends f.MapLiteral f.MapEntity (literal_at n.1) (λ t. name_at t.1 >>= (λ e. pairs_at ((t.0, e.0) ∷ []) None e.1 >>= (λ more. Some (record { name = n.0; pairs = more })))) n.1 b (map_literal n.1)
    (λ t inside c. and_ends f.MapEntity f.MapLiteralOrEnd (name_at t.1) (λ e. pairs_at ((t.0, e.0) ∷ []) None e.1 >>= (λ more. Some (record { name = n.0; pairs = more }))) t.1 c (map_entity t.1)
    (λ e within x. ends_said f.MapLiteralOrEnd (pairs_at ((t.0, e.0) ∷ []) None e.1) (λ more. record { name = n.0; pairs = more }) e.1 (pairs_goes ((t.0, e.0) ∷ []) None e.1))))

by_empty : (b : Bool) (ds : List Lexeme) → Goes (if b then f.MapTargets else f.Broken) f.MapTargets (if b then Some (Empty, ds) else None) ds
by_empty true ds = (refl, same ds)
by_empty false ds = never ds

used_map : (ds : List Lexeme) → Goes f.UsedMap f.MapTargets (used_map_at ds) ds
used_map [] = refl
used_map (Name n ∷ ds) = (refl, one (Name n) ds)
used_map (Token t ∷ ds) = never ds
used_map (Reserved n ∷ ds) = further f.UsedMap f.MapTargets (used_map_at (Reserved n ∷ ds)) (Reserved n) ds (by_empty (is_word (codes "EMPTY") n) ds)
used_map (Literal t ∷ ds) = never ds
used_map (Value u ∷ ds) = never ds
used_map (Sign d ∷ ds) = never ds

names_goes_Mapped : (x : Lexeme) (ds : List Lexeme) → Goes f.MapTargets f.Whole (names_at (x ∷ ds)) (x ∷ ds)
names_goes_Mapped (Name n) ds = (refl, one (Name n) ds)
names_goes_Mapped (Token t) ds = never ds
names_goes_Mapped (Reserved n) ds = never ds
names_goes_Mapped (Literal t) ds = never ds
names_goes_Mapped (Value u) ds = never ds
names_goes_Mapped (Sign d) ds =
    further f.MapTargets f.Whole (names_at (Sign d ∷ ds)) (Sign d) ds
    (by_sign (λ s. Goes (after_one f.MapTargets (Sign s)) f.Whole (names_at (Sign s ∷ ds)) ds) (never ds) (never ds) (never ds) (never ds) (never ds) (never ds) (never ds) (never ds) (group_goes grouped.Mapped (λ x c. refl) ds) (never ds) (never ds) (never ds) (never ds) (never ds) (never ds) (never ds) (never ds) (never ds) (never ds) (never ds) (never ds) (never ds) (never ds) (never ds) (never ds) (never ds) (never ds) (never ds) (never ds) (never ds) d)

targets_goes : (ds : List Lexeme) → AreLexemes ds → Ends f.MapTargets (targets_at ds) ds
targets_goes [] a = refl
targets_goes (d ∷ ds) a = and_ends f.MapTargets f.Whole (names_at (d ∷ ds)) (λ n. all_of (Some n.0) n.1) (d ∷ ds) a (names_goes_Mapped d ds) (λ n fits b. whole (Some n.0) n.1)

usemap_goes : (ds : List Lexeme) → AreLexemes ds → Ends f.UsedMap (usemap_at ds) ds
unfolding usemap_at
usemap_goes ds a =
    and_ends f.UsedMap f.MapTargets (used_map_at ds) (λ m. targets_at m.1 >>= (λ t. Some (record { map = m.0; targets = t }))) ds a (used_map ds)
    (λ m fits b. ends_said f.MapTargets (targets_at m.1) (λ t. record { map = m.0; targets = t }) m.1 (targets_goes m.1 b))

-- ENTITIES (10.5)

data_notation : (ds : List Lexeme) → Goes f.DataNotation f.Whole (name_at ds) ds
data_notation [] = refl
data_notation (Name n ∷ ds) = (refl, one (Name n) ds)
data_notation (Token t ∷ ds) = never ds
data_notation (Reserved n ∷ ds) = never ds
data_notation (Literal t ∷ ds) = never ds
data_notation (Value u ∷ ds) = never ds
data_notation (Sign d ∷ ds) = never ds

data_goes : (kind : DataKind) (e : External) (ds : List Lexeme) → AreLexemes ds → Ends f.DataNotation (name_at ds >>= (λ n. all_of (body.ExternalData kind e n.0) n.1)) ds
data_goes kind e ds a = and_ends f.DataNotation f.Whole (name_at ds) (λ n. all_of (body.ExternalData kind e n.0) n.1) ds a (data_notation ds) (λ n fits b. whole (body.ExternalData kind e n.0) n.1)

by_data : (cdata ndata sdata subdoc : Bool) (e : External) (ds : List Lexeme) → AreLexemes ds
    → Ends (if cdata || ndata || sdata then f.DataNotation else if subdoc then f.LeftOut SubdocOut else f.Broken)
    ((if cdata then Some data_of.Cdata else if ndata then Some data_of.Ndata else if sdata then Some data_of.Sdata else None) >>= (λ k. name_at ds >>= (λ n. all_of (body.ExternalData k e n.0) n.1))) ds
by_data true b c s e ds a = data_goes data_of.Cdata e ds a
by_data false true c s e ds a = data_goes data_of.Ndata e ds a
by_data false false true s e ds a = data_goes data_of.Sdata e ds a
by_data false false false s e ds a = or_left_out s SubdocOut ds

external_ends : (e : External) (ds : List Lexeme) → AreLexemes ds → Ends (f.External owner.Entity) (external_body e ds) ds
external_ends e [] a = refl
external_ends e (Name n ∷ ds) a = ends_further (f.External owner.Entity) (external_body e (Name n ∷ ds)) (Name n) ds (by_data (is_word (codes "CDATA") n) (is_word (codes "NDATA") n) (is_word (codes "SDATA") n) (is_word (codes "SUBDOC") n) e ds (behind_one a))
external_ends e (Token t ∷ ds) a = never ds
external_ends e (Reserved n ∷ ds) a = never ds
external_ends e (Literal t ∷ ds) a = never ds
external_ends e (Value u ∷ ds) a = never ds
external_ends e (Sign d ∷ ds) a = never ds

abbrev outside : Bool → Bool → List Lexeme → Option Body
outside system public ds = (if system then Some (system_at ds) else if public then public_at ds else None) >>= (λ e. external_body e.0 e.1)

outside_goes : (system public : Bool) (ds : List Lexeme) → AreLexemes ds → Ends (if system then f.System owner.Entity else if public then f.Public owner.Entity else f.Broken) (outside system public ds) ds
outside_goes s p ds a = by_external owner.Entity (λ e. external_body e.0 e.1) (λ e rest b. external_ends e rest b) s p ds a

-- a keyword and one literal
text_goes : (b0 b1 b2 b3 b4 b5 b6 : Bool) (n t : List ℕ) → AreLexemes (Literal t ∷ [])
    → Ends (if b0 || b1 || b2 || b3 || b4 || b5 || b6 then f.EntityText else external owner.Entity n) (or_outside (Name n ∷ Literal t ∷ []) (if b0 then Some (body.Cdata t) else if b1 then Some (body.Sdata t) else if b2 then Some (body.Pi t) else if b3 then Some (body.Sgml (codes "<" ++ t ++ codes ">")) else if b4 then Some (body.Sgml (codes "</" ++ t ++ codes ">")) else if b5 then Some (body.Sgml (codes "<![" ++ t ++ codes "]]>")) else if b6 then Some (body.Sgml (codes "<!" ++ t ++ codes ">")) else None)) (Literal t ∷ [])
text_goes true b1 b2 b3 b4 b5 b6 n t a = refl
text_goes false true b2 b3 b4 b5 b6 n t a = refl
text_goes false false true b3 b4 b5 b6 n t a = refl
text_goes false false false true b4 b5 b6 n t a = refl
text_goes false false false false true b5 b6 n t a = refl
text_goes false false false false false true b6 n t a = refl
text_goes false false false false false false true n t a = refl
text_goes false false false false false false false n t a = outside_goes (is_word (codes "SYSTEM") n) (is_word (codes "PUBLIC") n) (Literal t ∷ []) a

-- a keyword and what is no one literal
other_goes : (text system public : Bool) (ds : List Lexeme) → AreLexemes ds → (text ≡ true → (system ≡ false) × (public ≡ false)) → is_complete (due f.EntityText ds) ≡ false
    → Ends (if text then f.EntityText else if system then f.System owner.Entity else if public then f.Public owner.Entity else f.Broken) (outside system public ds) ds
other_goes true true p ds a apart no_text = let never_so : true ≡ false = (apart refl).0 in absurd (cc never_so)
other_goes true false true ds a apart no_text = let never_so : true ≡ false = (apart refl).1 in absurd (cc never_so)
other_goes true false false ds a apart no_text = no_text
other_goes false s p ds a apart no_text = outside_goes s p ds a

-- a word in capitals is not two words
spelled : (word n : List ℕ) → is_word word n ≡ true → map upper n ≡ word
spelled word n is = (bytes_eq-Decides (map upper n) word).0 is

two_words : (word other n : List ℕ) → bytes_eq word other ≡ false → is_word word n ≡ true → is_word other n ≡ false
two_words word other n apart is = ap (λ (x : List ℕ). bytes_eq x other) (spelled word n is) ∙ apart

no_other : (b0 b1 b2 b3 b4 b5 b6 other : Bool) → (b0 ≡ true → other ≡ false) → (b1 ≡ true → other ≡ false) → (b2 ≡ true → other ≡ false) → (b3 ≡ true → other ≡ false) → (b4 ≡ true → other ≡ false) → (b5 ≡ true → other ≡ false) → (b6 ≡ true → other ≡ false) → (b0 || b1 || b2 || b3 || b4 || b5 || b6) ≡ true → other ≡ false
no_other true b1 b2 b3 b4 b5 b6 o h0 h1 h2 h3 h4 h5 h6 is = h0 refl
no_other false true b2 b3 b4 b5 b6 o h0 h1 h2 h3 h4 h5 h6 is = h1 refl
no_other false false true b3 b4 b5 b6 o h0 h1 h2 h3 h4 h5 h6 is = h2 refl
no_other false false false true b4 b5 b6 o h0 h1 h2 h3 h4 h5 h6 is = h3 refl
no_other false false false false true b5 b6 o h0 h1 h2 h3 h4 h5 h6 is = h4 refl
no_other false false false false false true b6 o h0 h1 h2 h3 h4 h5 h6 is = h5 refl
no_other false false false false false false true o h0 h1 h2 h3 h4 h5 h6 is = h6 refl
no_other false false false false false false false o h0 h1 h2 h3 h4 h5 h6 is = let never_so : false ≡ true = is in absurd (cc never_so)

text_is_apart : (n : List ℕ) → is_text_kind n ≡ true → (is_word (codes "SYSTEM") n ≡ false) × (is_word (codes "PUBLIC") n ≡ false)
text_is_apart n is = (
  no_other (is_word (codes "CDATA") n) (is_word (codes "SDATA") n) (is_word (codes "PI") n) (is_word (codes "STARTTAG") n) (is_word (codes "ENDTAG") n) (is_word (codes "MS") n) (is_word (codes "MD") n) (is_word (codes "SYSTEM") n) (two_words (codes "CDATA") (codes "SYSTEM") n refl) (two_words (codes "SDATA") (codes "SYSTEM") n refl) (two_words (codes "PI") (codes "SYSTEM") n refl) (two_words (codes "STARTTAG") (codes "SYSTEM") n refl) (two_words (codes "ENDTAG") (codes "SYSTEM") n refl) (two_words (codes "MS") (codes "SYSTEM") n refl) (two_words (codes "MD") (codes "SYSTEM") n refl) is,
  no_other (is_word (codes "CDATA") n) (is_word (codes "SDATA") n) (is_word (codes "PI") n) (is_word (codes "STARTTAG") n) (is_word (codes "ENDTAG") n) (is_word (codes "MS") n) (is_word (codes "MD") n) (is_word (codes "PUBLIC") n) (two_words (codes "CDATA") (codes "PUBLIC") n refl) (two_words (codes "SDATA") (codes "PUBLIC") n refl) (two_words (codes "PI") (codes "PUBLIC") n refl) (two_words (codes "STARTTAG") (codes "PUBLIC") n refl) (two_words (codes "ENDTAG") (codes "PUBLIC") n refl) (two_words (codes "MS") (codes "PUBLIC") n refl) (two_words (codes "MD") (codes "PUBLIC") n refl) is,
)

value_ends : (ds : List Lexeme) → AreLexemes ds → Ends f.EntityValue (entity_value_at ds) ds
value_ends [] a = refl
value_ends (Name n ∷ []) a =
    ends_further f.EntityValue (entity_value_at (Name n ∷ [])) (Name n) ([]) (other_goes (is_text_kind n) (is_word (codes "SYSTEM") n) (is_word (codes "PUBLIC") n) ([]) (behind_one a) (text_is_apart n) (refl))
value_ends (Name n ∷ Name m ∷ ds) a =
    ends_further f.EntityValue (entity_value_at (Name n ∷ Name m ∷ ds)) (Name n) (Name m ∷ ds) (other_goes (is_text_kind n) (is_word (codes "SYSTEM") n) (is_word (codes "PUBLIC") n) (Name m ∷ ds) (behind_one a) (text_is_apart n) (never ds))
value_ends (Name n ∷ Token t ∷ ds) a =
    ends_further f.EntityValue (entity_value_at (Name n ∷ Token t ∷ ds)) (Name n) (Token t ∷ ds) (other_goes (is_text_kind n) (is_word (codes "SYSTEM") n) (is_word (codes "PUBLIC") n) (Token t ∷ ds) (behind_one a) (text_is_apart n) (never ds))
value_ends (Name n ∷ Reserved m ∷ ds) a =
    ends_further f.EntityValue (entity_value_at (Name n ∷ Reserved m ∷ ds)) (Name n) (Reserved m ∷ ds) (other_goes (is_text_kind n) (is_word (codes "SYSTEM") n) (is_word (codes "PUBLIC") n) (Reserved m ∷ ds) (behind_one a) (text_is_apart n) (never ds))
value_ends (Name n ∷ Literal t ∷ []) a =
    ends_further f.EntityValue (entity_value_at (Name n ∷ Literal t ∷ [])) (Name n) (Literal t ∷ []) (text_goes (is_word (codes "CDATA") n) (is_word (codes "SDATA") n) (is_word (codes "PI") n) (is_word (codes "STARTTAG") n) (is_word (codes "ENDTAG") n) (is_word (codes "MS") n) (is_word (codes "MD") n) n t (behind_one a))
value_ends (Name n ∷ Literal t ∷ d ∷ ds) a =
    ends_further f.EntityValue (entity_value_at (Name n ∷ Literal t ∷ d ∷ ds)) (Name n) (Literal t ∷ d ∷ ds) (other_goes (is_text_kind n) (is_word (codes "SYSTEM") n) (is_word (codes "PUBLIC") n) (Literal t ∷ d ∷ ds) (behind_one a) (text_is_apart n) (whole_more d ds))
value_ends (Name n ∷ Value u ∷ ds) a =
    ends_further f.EntityValue (entity_value_at (Name n ∷ Value u ∷ ds)) (Name n) (Value u ∷ ds) (other_goes (is_text_kind n) (is_word (codes "SYSTEM") n) (is_word (codes "PUBLIC") n) (Value u ∷ ds) (behind_one a) (text_is_apart n) (never ds))
value_ends (Name n ∷ Sign d ∷ ds) a =
    ends_further f.EntityValue (entity_value_at (Name n ∷ Sign d ∷ ds)) (Name n) (Sign d ∷ ds) (other_goes (is_text_kind n) (is_word (codes "SYSTEM") n) (is_word (codes "PUBLIC") n) (Sign d ∷ ds) (behind_one a) (text_is_apart n) (never ds))
value_ends (Token t ∷ []) a = refl
value_ends (Token t ∷ Name m ∷ ds) a = never (Name m ∷ ds)
value_ends (Token t ∷ Token s ∷ ds) a = never (Token s ∷ ds)
value_ends (Token t ∷ Reserved m ∷ ds) a = never (Reserved m ∷ ds)
value_ends (Token t ∷ Literal s ∷ []) a = refl
value_ends (Token t ∷ Literal s ∷ x ∷ ds) a = never (Literal s ∷ x ∷ ds)
value_ends (Token t ∷ Value w ∷ ds) a = never (Value w ∷ ds)
value_ends (Token t ∷ Sign e ∷ ds) a = never (Sign e ∷ ds)
value_ends (Reserved n ∷ []) a = refl
value_ends (Reserved n ∷ Name m ∷ ds) a = never (Name m ∷ ds)
value_ends (Reserved n ∷ Token s ∷ ds) a = never (Token s ∷ ds)
value_ends (Reserved n ∷ Reserved m ∷ ds) a = never (Reserved m ∷ ds)
value_ends (Reserved n ∷ Literal s ∷ []) a = refl
value_ends (Reserved n ∷ Literal s ∷ x ∷ ds) a = never (Literal s ∷ x ∷ ds)
value_ends (Reserved n ∷ Value w ∷ ds) a = never (Value w ∷ ds)
value_ends (Reserved n ∷ Sign e ∷ ds) a = never (Sign e ∷ ds)
value_ends (Literal t ∷ []) a = refl
value_ends (Literal t ∷ Name n ∷ ds) a = never ds
value_ends (Literal t ∷ Token s ∷ ds) a = never ds
value_ends (Literal t ∷ Reserved n ∷ ds) a = never ds
value_ends (Literal t ∷ Literal s ∷ []) a = refl
value_ends (Literal t ∷ Literal s ∷ d ∷ ds) a = never (d ∷ ds)
value_ends (Literal t ∷ Value u ∷ ds) a = never ds
value_ends (Literal t ∷ Sign d ∷ ds) a = never ds
value_ends (Value u ∷ []) a = refl
value_ends (Value u ∷ Name m ∷ ds) a = never (Name m ∷ ds)
value_ends (Value u ∷ Token s ∷ ds) a = never (Token s ∷ ds)
value_ends (Value u ∷ Reserved m ∷ ds) a = never (Reserved m ∷ ds)
value_ends (Value u ∷ Literal s ∷ []) a = refl
value_ends (Value u ∷ Literal s ∷ x ∷ ds) a = never (Literal s ∷ x ∷ ds)
value_ends (Value u ∷ Value w ∷ ds) a = never (Value w ∷ ds)
value_ends (Value u ∷ Sign e ∷ ds) a = never (Sign e ∷ ds)
value_ends (Sign d ∷ []) a = refl
value_ends (Sign d ∷ Name m ∷ ds) a = never (Name m ∷ ds)
value_ends (Sign d ∷ Token s ∷ ds) a = never (Token s ∷ ds)
value_ends (Sign d ∷ Reserved m ∷ ds) a = never (Reserved m ∷ ds)
value_ends (Sign d ∷ Literal s ∷ []) a = refl
value_ends (Sign d ∷ Literal s ∷ x ∷ ds) a = never (Literal s ∷ x ∷ ds)
value_ends (Sign d ∷ Value w ∷ ds) a = never (Value w ∷ ds)
value_ends (Sign d ∷ Sign e ∷ ds) a = never (Sign e ∷ ds)

parameter_name : (ds : List Lexeme) → Goes f.ParameterName f.EntityValue (name_at ds) ds
parameter_name [] = refl
parameter_name (Name n ∷ ds) = (refl, one (Name n) ds)
parameter_name (Token t ∷ ds) = never ds
parameter_name (Reserved n ∷ ds) = never ds
parameter_name (Literal t ∷ ds) = never ds
parameter_name (Value u ∷ ds) = never ds
parameter_name (Sign d ∷ ds) = never ds

module _ {X : Type 0} (g : List ℕ → Body → X) where
  parameter_goes : (ds : List Lexeme) → AreLexemes ds → Ends f.ParameterName (name_at ds >>= (λ n. entity_value_at n.1 >>= (λ b. Some (g n.0 b)))) ds
  parameter_goes ds a =
      and_ends f.ParameterName f.EntityValue (name_at ds) (λ n. entity_value_at n.1 >>= (λ b. Some (g n.0 b))) ds a (parameter_name ds)
      (λ n fits b. ends_said f.EntityValue (entity_value_at n.1) (g n.0) n.1 (value_ends n.1 b))

entity_goes : (ds : List Lexeme) → AreLexemes ds → Ends f.EntityName (entity_at ds) ds
unfolding entity_at
entity_goes [] a = refl
entity_goes (Name n ∷ ds) a = ends_further f.EntityName (entity_at (Name n ∷ ds)) (Name n) ds (ends_said f.EntityValue (entity_value_at ds) (λ b. record { space = General; name = n; body = b }) ds (value_ends ds (behind_one a)))
entity_goes (Token t ∷ ds) a = never ds
entity_goes (Reserved n ∷ ds) a = or_left_out (is_word (codes "DEFAULT") n) OtherOut ds
entity_goes (Literal t ∷ ds) a = never ds
entity_goes (Value u ∷ ds) a = never ds
entity_goes (Sign d ∷ ds) a = ends_further f.EntityName (entity_at (Sign d ∷ ds)) (Sign d) ds
    (by_sign (λ s. AreLexemes ds → Ends (after_one f.EntityName (Sign s)) (entity_at (Sign s ∷ ds)) ds) (λ b. never ds) (λ b. never ds) (λ b. never ds) (λ b. never ds) (λ b. never ds) (λ b. never ds) (λ b. never ds) (λ b. never ds) (λ b. never ds) (λ b. never ds) (λ b. never ds) (λ b. never ds) (λ b. never ds) (λ b. never ds) (λ b. never ds) (λ b. never ds) (λ b. never ds) (λ b. never ds) (parameter_goes (λ n b. record { space = Parameter; name = n; body = b }) ds) (λ b. never ds) (λ b. never ds) (λ b. never ds) (λ b. never ds) (λ b. never ds) (λ b. never ds) (λ b. never ds) (λ b. never ds) (λ b. never ds) (λ b. never ds) (λ b. never ds) d (behind_one a))

-- DECLARATIONS

or_link : (b : Bool) (ds : List Lexeme) → is_complete (due (if b then f.LeftOut LinkOut else f.Broken) ds) ≡ false
or_link b ds = or_left_out b LinkOut ds

by_keyword : (b0 b1 b2 b3 b4 b5 b6 link : Bool) (ds : List Lexeme) → AreLexemes ds → Ends (if b0 then f.ElementNames else if b1 then f.ListNames else if b2 then f.EntityName else if b3 then f.NotationName else if b4 then f.MapName else if b5 then f.UsedMap else if b6 then f.DoctypeName else (if link then f.LeftOut LinkOut else f.Broken)) (if b0 then option_map form_of.Element (element_at ds) else if b1 then option_map form_of.Attlist (attlist_at ds) else if b2 then option_map form_of.Entity (entity_at ds) else if b3 then option_map form_of.Notation (notation_at ds) else if b4 then option_map form_of.Shortref (shortref_at ds) else if b5 then option_map form_of.Usemap (usemap_at ds) else if b6 then option_map form_of.Doctype (doctype_at ds) else None) ds
by_keyword true b1 b2 b3 b4 b5 b6 link ds a = ends_map f.ElementNames (element_at ds) form_of.Element ds (element_goes ds a)
by_keyword false true b2 b3 b4 b5 b6 link ds a = ends_map f.ListNames (attlist_at ds) form_of.Attlist ds (attlist_goes ds a)
by_keyword false false true b3 b4 b5 b6 link ds a = ends_map f.EntityName (entity_at ds) form_of.Entity ds (entity_goes ds a)
by_keyword false false false true b4 b5 b6 link ds a = ends_map f.NotationName (notation_at ds) form_of.Notation ds (notation_goes ds a)
by_keyword false false false false true b5 b6 link ds a = ends_map f.MapName (shortref_at ds) form_of.Shortref ds (shortref_goes ds a)
by_keyword false false false false false true b6 link ds a = ends_map f.UsedMap (usemap_at ds) form_of.Usemap ds (usemap_goes ds a)
by_keyword false false false false false false true link ds a = ends_map f.DoctypeName (doctype_at ds) form_of.Doctype ds (doctype_goes ds a)
by_keyword false false false false false false false link ds a = or_link link ds

declaration_goes : (ds : List Lexeme) → AreLexemes ds → Ends f.Keyword (declaration_at ds) ds
declaration_goes [] a = refl
declaration_goes (Name n ∷ ds) a = ends_further f.Keyword (declaration_at (Name n ∷ ds)) (Name n) ds (by_keyword (is_word (codes "ELEMENT") n) (is_word (codes "ATTLIST") n) (is_word (codes "ENTITY") n) (is_word (codes "NOTATION") n) (is_word (codes "SHORTREF") n) (is_word (codes "USEMAP") n) (is_word (codes "DOCTYPE") n) (is_word (codes "LINKTYPE") n || is_word (codes "LINK") n || is_word (codes "USELINK") n) ds (behind_one a))
declaration_goes (Token t ∷ ds) a = never ds
declaration_goes (Reserved n ∷ ds) a = never ds
declaration_goes (Literal t ∷ ds) a = never ds
declaration_goes (Value u ∷ ds) a = never ds
declaration_goes (Sign d ∷ ds) a = never ds

told : {X : Type 0} (F : Form) (o : Option X) (ds : List Lexeme) → Ends F o ds → is_complete (due F ds) ≡ is_some o
told F None ds h = h
told F (Some x) ds h = h

pub one_grammar : OneGrammar
one_grammar ds a = told f.Keyword (declaration_at ds) ds (declaration_goes ds a)

-- WHAT IS OPEN HAS AN END

due_append : (F : Form) (xs ys : List Lexeme) → due F (xs ++ ys) ≡ due (due F xs) ys
due_append F [] ys = refl
due_append F (x ∷ xs) ys = due_append (after_one F x) xs ys

abbrev Closes : Form → Type 0
Closes F = (rest : List Lexeme) × HaveCharacters rest × (is_complete (due F rest) ≡ true)

close_model : (n : ℕ) → Closes (f.Model (suc n))
close_model zero = (Sign Grpc ∷ [], (refl, _), refl)
close_model (suc n) =
    let more = close_model n in (Sign Grpc ∷ more.0, (refl, more.1), ap (λ (x : Form). is_complete (due x more.0)) (up_one n) ∙ more.2)

closed : (F : Form) → is_open F ≡ true → Closes F
closed f.Broken is = let never_so : false ≡ true = is in absurd (cc never_so)
closed (f.LeftOut r) is = let never_so : false ≡ true = is in absurd (cc never_so)
closed (f.Model zero) is = (Sign Grpo ∷ Sign Grpc ∷ [], (refl, (refl, _)), refl)
closed (f.Model (suc n)) is = close_model n
closed f.Comment is = ([], _, refl)
closed f.Keyword is = (Name (codes "ELEMENT") ∷ Name (codes "A") ∷ Name (codes "EMPTY") ∷ [], (refl, (refl, (refl, _))), refl)
closed f.Whole is = ([], _, refl)
closed f.DoctypeName is = (Name (codes "A") ∷ [], (refl, _), refl)
closed f.DoctypeNamed is = ([], _, refl)
closed f.ElementNames is = (Name (codes "A") ∷ Name (codes "EMPTY") ∷ [], (refl, (refl, _)), refl)
closed f.StartOmission is = (Name (codes "EMPTY") ∷ [], (refl, _), refl)
closed f.EndOmission is = (Sign Minus ∷ Name (codes "EMPTY") ∷ [], (refl, (refl, _)), refl)
closed f.Content is = (Name (codes "EMPTY") ∷ [], (refl, _), refl)
closed f.AfterModel is = ([], _, refl)
closed f.AfterModelPlus is = ([], _, refl)
closed f.AfterContent is = ([], _, refl)
closed f.Exclusions is = (Sign Grpo ∷ Name (codes "A") ∷ Sign Grpc ∷ [], (refl, (refl, (refl, _))), refl)
closed f.AfterExclusions is = ([], _, refl)
closed f.Inclusions is = (Sign Grpo ∷ Name (codes "A") ∷ Sign Grpc ∷ [], (refl, (refl, (refl, _))), refl)
closed f.ListNames is = (Name (codes "A") ∷ Name (codes "A") ∷ Name (codes "CDATA") ∷ Reserved (codes "IMPLIED") ∷ [], (refl, (refl, (refl, (refl, _)))), refl)
closed f.Attribute is = (Name (codes "A") ∷ Name (codes "CDATA") ∷ Reserved (codes "IMPLIED") ∷ [], (refl, (refl, (refl, _))), refl)
closed f.AttributeOrEnd is = ([], _, refl)
closed f.Declared is = (Name (codes "CDATA") ∷ Reserved (codes "IMPLIED") ∷ [], (refl, (refl, _)), refl)
closed f.Notations is = (Sign Grpo ∷ Name (codes "A") ∷ Sign Grpc ∷ Reserved (codes "IMPLIED") ∷ [], (refl, (refl, (refl, (refl, _)))), refl)
closed f.Default is = (Reserved (codes "IMPLIED") ∷ [], (refl, _), refl)
closed f.Fixed is = (Name (codes "A") ∷ [], (refl, _), refl)
closed f.EntityName is = (Name (codes "A") ∷ Literal [] ∷ [], (refl, (refl, _)), refl)
closed f.ParameterName is = (Name (codes "A") ∷ Literal [] ∷ [], (refl, (refl, _)), refl)
closed f.EntityValue is = (Literal [] ∷ [], (refl, _), refl)
closed f.EntityText is = (Literal [] ∷ [], (refl, _), refl)
closed f.DataNotation is = (Name (codes "A") ∷ [], (refl, _), refl)
closed f.NotationName is = (Name (codes "A") ∷ Name (codes "SYSTEM") ∷ [], (refl, (refl, _)), refl)
closed f.NotationNamed is = (Name (codes "SYSTEM") ∷ [], (refl, _), refl)
closed (f.System o) is = ([], _, refl)
closed (f.Public o) is = (Literal [] ∷ [], (refl, _), refl)
closed (f.PublicNamed o) is = ([], _, refl)
closed (f.External o) is = ([], _, refl)
closed f.MapName is = (Name (codes "A") ∷ Literal [] ∷ Name (codes "A") ∷ [], (refl, (refl, (refl, _))), refl)
closed f.MapLiteral is = (Literal [] ∷ Name (codes "A") ∷ [], (refl, (refl, _)), refl)
closed f.MapEntity is = (Name (codes "A") ∷ [], (refl, _), refl)
closed f.MapLiteralOrEnd is = ([], _, refl)
closed f.UsedMap is = (Name (codes "A") ∷ [], (refl, _), refl)
closed f.MapTargets is = ([], _, refl)
closed f.Statuses is = (Sign Dso ∷ [], (refl, _), refl)
closed (f.Group grouped.Elements true c) is = (Name (codes "A") ∷ Sign Grpc ∷ Name (codes "EMPTY") ∷ [], (refl, (refl, (refl, _))), refl)
closed (f.Group grouped.Elements false c) is = (Sign Grpc ∷ Name (codes "EMPTY") ∷ [], (refl, (refl, _)), refl)
closed (f.Group grouped.Lists true c) is = (Name (codes "A") ∷ Sign Grpc ∷ Name (codes "A") ∷ Name (codes "CDATA") ∷ Reserved (codes "IMPLIED") ∷ [], (refl, (refl, (refl, (refl, (refl, _))))), refl)
closed (f.Group grouped.Lists false c) is = (Sign Grpc ∷ Name (codes "A") ∷ Name (codes "CDATA") ∷ Reserved (codes "IMPLIED") ∷ [], (refl, (refl, (refl, (refl, _)))), refl)
closed (f.Group grouped.Notations true c) is = (Name (codes "A") ∷ Sign Grpc ∷ Reserved (codes "IMPLIED") ∷ [], (refl, (refl, (refl, _))), refl)
closed (f.Group grouped.Notations false c) is = (Sign Grpc ∷ Reserved (codes "IMPLIED") ∷ [], (refl, (refl, _)), refl)
closed (f.Group grouped.Tokens true c) is = (Name (codes "A") ∷ Sign Grpc ∷ Reserved (codes "IMPLIED") ∷ [], (refl, (refl, (refl, _))), refl)
closed (f.Group grouped.Tokens false c) is = (Sign Grpc ∷ Reserved (codes "IMPLIED") ∷ [], (refl, (refl, _)), refl)
closed (f.Group grouped.Exclusions true c) is = (Name (codes "A") ∷ Sign Grpc ∷ [], (refl, (refl, _)), refl)
closed (f.Group grouped.Exclusions false c) is = (Sign Grpc ∷ [], (refl, _), refl)
closed (f.Group grouped.Inclusions true c) is = (Name (codes "A") ∷ Sign Grpc ∷ [], (refl, (refl, _)), refl)
closed (f.Group grouped.Inclusions false c) is = (Sign Grpc ∷ [], (refl, _), refl)
closed (f.Group grouped.Mapped true c) is = (Name (codes "A") ∷ Sign Grpc ∷ [], (refl, (refl, _)), refl)
closed (f.Group grouped.Mapped false c) is = (Sign Grpc ∷ [], (refl, _), refl)

open_before : (F : Form) (rest : List Lexeme) → is_complete (due F rest) ≡ true → is_open F ≡ true
open_before f.Broken rest is = let never_so : false ≡ true = sym (never rest) ∙ is in absurd (cc never_so)
open_before (f.LeftOut r) rest is = let never_so : false ≡ true = sym (left_out r rest) ∙ is in absurd (cc never_so)
open_before (f.Model n) rest is = refl
open_before f.Comment rest is = refl
open_before f.Keyword rest is = refl
open_before f.Whole rest is = refl
open_before f.DoctypeName rest is = refl
open_before f.DoctypeNamed rest is = refl
open_before f.ElementNames rest is = refl
open_before f.StartOmission rest is = refl
open_before f.EndOmission rest is = refl
open_before f.Content rest is = refl
open_before f.AfterModel rest is = refl
open_before f.AfterModelPlus rest is = refl
open_before f.AfterContent rest is = refl
open_before f.Exclusions rest is = refl
open_before f.AfterExclusions rest is = refl
open_before f.Inclusions rest is = refl
open_before f.ListNames rest is = refl
open_before f.Attribute rest is = refl
open_before f.AttributeOrEnd rest is = refl
open_before f.Declared rest is = refl
open_before f.Notations rest is = refl
open_before f.Default rest is = refl
open_before f.Fixed rest is = refl
open_before f.EntityName rest is = refl
open_before f.ParameterName rest is = refl
open_before f.EntityValue rest is = refl
open_before f.EntityText rest is = refl
open_before f.DataNotation rest is = refl
open_before f.NotationName rest is = refl
open_before f.NotationNamed rest is = refl
open_before (f.System o) rest is = refl
open_before (f.Public o) rest is = refl
open_before (f.PublicNamed o) rest is = refl
open_before (f.External o) rest is = refl
open_before f.MapName rest is = refl
open_before f.MapLiteral rest is = refl
open_before f.MapEntity rest is = refl
open_before f.MapLiteralOrEnd rest is = refl
open_before f.UsedMap rest is = refl
open_before f.MapTargets rest is = refl
open_before f.Statuses rest is = refl
open_before (f.Group g x c) rest is = refl

pub goes_on_where_open : GoesOn
goes_on_where_open front = (
  (λ is. let it = closed (due f.Keyword front) is in (it.0, it.1, ap is_complete (due_append f.Keyword front it.0) ∙ it.2)),
  (λ it. open_before (due f.Keyword front) it.0 (sym (ap is_complete (due_append f.Keyword front it.0)) ∙ it.2)),
)
