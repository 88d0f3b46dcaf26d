-- The references of literals that are read are of entities that are found by their names.
use Rattle.std.proofs.Common.{◌≡◌, ℕ, zero, suc, Bool, true, false, not, ◌+◌, ◌==◌, ◌&&◌, ◌||◌, List, [], ◌∷◌, ◌++◌, length, take, drop, nat_le, nat_lt, Option, Some, None, option_map, Result, Ok, Err, refl, sym, ap, ◌∙◌, if◌then◌else◌}
use Rattle.std.specs.List.{prefix_len}
use Rattle.sgml_theory_again.specs.text.Characters.{is_separator, is_quote, is_digit, all_sgml}
use Rattle.sgml_theory_again.specs.text.Units.{characters}
use Rattle.sgml_theory_again.specs.text.declared.name_set.NameSet.{NameSet}
use Rattle.sgml_theory_again.specs.text.NameCharacters.{is_name_start, is_name_character}
use Rattle.sgml_theory_again.specs.text.declared.reason.Reason.{Reason}
use Rattle.sgml_theory_again.specs.text.declared.reason.Reason.TheVariants as reason
use Rattle.sgml_theory_again.specs.text.declared.unit.Unit.{Unit as AnyUnit}
use Rattle.sgml_theory_again.specs.text.declared.unit.Unit.TheVariants as unit
use Rattle.sgml_theory_again.specs.delim.declared.delim.Delim.{Delim}
use Rattle.sgml_theory_again.specs.delim.declared.delim.Delim.TheVariants as sign
use Rattle.sgml_theory_again.specs.entity.declared.kinds.Body.{Body}
use Rattle.sgml_theory_again.specs.entity.declared.kinds.Body.TheVariants as body
use Rattle.sgml_theory_again.specs.entity.declared.kinds.Entity.{Entity}
use Rattle.sgml_theory_again.specs.entity.declared.kinds.Space.{Space}
use Rattle.sgml_theory_again.specs.entity.declared.kinds.Space.TheVariants as space
use Rattle.sgml_theory_again.specs.entity.declared.places.StackRefused.{StackRefused}
use Rattle.sgml_theory_again.specs.entity.Entities.{number_of, entity_at}
use Rattle.sgml_theory_again.specs.entity.Stack.{Stack, refusal, is_on}
use Rattle.sgml_theory_again.specs.entity.Texts.{text_of}
use Rattle.sgml_theory_again.specs.attr.declared.definition.Definition.{Definition}
use Rattle.sgml_theory_again.specs.decl_parts.declared.part.Part.{Part}
use Rattle.sgml_theory_again.specs.decl_parts.declared.part.Part.TheVariants as p
use Rattle.sgml_theory_again.specs.decl_parts.declared.part.PartFault.{PartFault}
use Rattle.sgml_theory_again.specs.decl_parts.declared.part.PartFault.TheVariants.{Syntax}
use Rattle.sgml_theory_again.specs.decl_parts.declared.part.Here.{Here}
use Rattle.sgml_theory_again.specs.decl_parts.declared.part.Opened.{Opened}
use Rattle.sgml_theory_again.specs.decl_parts.declared.ends.Construct.{Construct}
use Rattle.sgml_theory_again.specs.decl_parts.declared.ends.Construct.TheVariants as construct
use Rattle.sgml_theory_again.specs.decl_parts.declared.form.Form.{Form}
use Rattle.sgml_theory_again.specs.decl_parts.declared.form.Form.TheVariants as f
use Rattle.sgml_theory_again.specs.decl_parts.Forms.{after_name, after_token, after_reserved, after_sign, literal_kind, is_complete, may_refer}
use Rattle.sgml_theory_again.specs.decl_parts.declared.form.LiteralKind.{LiteralKind}
use Rattle.sgml_theory_again.specs.decl_parts.declared.form.LiteralKind.TheVariants as literal
use Rattle.sgml_theory_again.specs.decl_parts.Bytes.{name_length, begins_name, begins_with, begins_digit, reference_end, number_after}
use Rattle.sgml_theory_again.specs.decl_parts.Parts.{entity_reference, percent_at, hash_at, comment_at, group_sign, outer_sign, or_syntax, common_at, inner_at, closing_at, minus_at, outer_at, function_of, function_reference, function_character, numbered, number_reference, character_at, coded_at, general_at, parameter_at, or_coded, referring_at, or_data, literal_at, end_at, part_in, part_at}
use Rattle.sgml_theory_again.specs.decl_lexemes.declared.lexeme.Lexeme.{Lexeme}
use Rattle.sgml_theory_again.specs.decl_lexemes.declared.lexeme.Lexeme.TheVariants.{Name, Token, Reserved, Literal, Value, Sign}
use Rattle.sgml_theory_again.specs.decl_lexemes.declared.fault.Fault.{Fault}
use Rattle.sgml_theory_again.specs.decl_lexemes.declared.fault.Fault.TheVariants.{Refusing}
use Rattle.sgml_theory_again.specs.decl_lexemes.declared.fault.Reached.{Reached}
use Rattle.sgml_theory_again.specs.decl_lexemes.declared.fault.Reached.TheVariants.{Opens, PutsText, PutsData, Fails}
use Rattle.sgml_theory_again.specs.decl_lexemes.Sources.{Source, folded, opened_by, given_or_wanted, data_for, reach_body, reach_entity, reach_number, reached, cdata_text}
use Rattle.sgml_theory_again.specs.decl_lexemes.Readings.{Reading, State, is_value, literal_of, here, ahead, with_units, with_bytes, with_data, byte_of, with_char, space_in, referred, reached_from, after, judged_form, judged_end, judged_sign, judged_quote, is_literal, judged_reached, kept, judged, judged_part, next_part, closes, nothing_read, begun, start, value_of}
use Rattle.sgml_theory_again.specs.decl_lexemes.Reads.{unless_end, with_part, read_on, left, read_all}
use Rattle.sgml_theory_again.specs.dtd.Doctypes.{Doctype}
use Rattle.sgml_theory_again.specs.theory_reading.Names.{Text}
use Rattle.sgml_theory_again.specs.theory_reading.Types.{entity_number, entity, attributes}
use Rattle.sgml_theory_again.specs.theory_reading.Unread.{Outside}
use Rattle.sgml_theory_again.specs.theory_spelling.Stacked.{Stacked}
use Rattle.sgml_theory_again.specs.theory_spelling.Texts.{source_of, stack_of}
use Rattle.sgml_theory_again.specs.theory_spelling.Declared.{Lexed, lexed_by, lexed}
use Rattle.sgml_theory_again.specs.theory_spelling.Tags.{Written, written_from, units_read, units_of, all_specified, with_spent, element_of, specifications_of}
use Rattle.sgml_theory_again.specs.markup.Forms.{parts_of_tag}
use Rattle.sgml_theory_again.specs.sgml_theory_full.Named.{AllAre}
use Rattle.sgml_theory_writable.specs.Spelled.{UnitRefers, UnitsRefer, LexemeRefers, WrittenRefers, SpecificationRefers}
use Rattle.sgml_theory_writable.proofs.Basics.{either, Gives, all-append}

module _ (d : Doctype) where
  pub characters-refer : (bs : List ℕ) → UnitsRefer d (characters bs)
  characters-refer [] = tt
  characters-refer (b ∷ bs) = (tt, characters-refer bs)

  -- A PART that is a character
  abbrev PartIs : Part → Type 0
  PartIs (p.Char n u) = UnitRefers d u
  PartIs part = Unit {0}

  abbrev PartHas : {E : Type 0} → Result Part E → Type 0
  PartHas (Ok part) = PartIs part
  PartHas (Err e) = Unit {0}

  if-has : {E : Type 0} (t : Bool) (x y : Result Part E) → PartHas x → PartHas y → PartHas (if t then x else y)
  if-has true x y a b = a
  if-has false x y a b = b

  if-is : (t : Bool) (x y : Part) → PartIs x → PartIs y → PartIs (if t then x else y)
  if-is true x y a b = a
  if-is false x y a b = b

  syntax-has : (o : Option Delim) → PartHas (or_syntax o)
  syntax-has (Some s) = tt
  syntax-has None = tt

  common-has : (names : NameSet) (s : Option Delim) (b : ℕ) (bytes : List ℕ) → PartHas (common_at names s b bytes)
  common-has names s b bytes =
      if-has (is_separator b) _ _ tt
      (if-has (is_name_start names b) _ _ tt
      (if-has (is_name_character names b) _ _ tt
      (if-has (b == 35) (Ok (hash_at names bytes)) _ (if-is (begins_name names bytes) _ _ tt tt)
      (if-has (b == 37) (Ok (percent_at names bytes)) _ (if-is (begins_name names bytes) _ _ tt tt) (syntax-has s)))))

  comment-has : (n : ℕ) (more : List ℕ) → PartHas (comment_at n more)
  comment-has n [] = tt
  comment-has n (b ∷ more) = if-has ((b == 45) && begins_with 45 more) (Ok (p.Gap (n + 2))) (comment_at (n + 1) more) tt (comment-has (n + 1) more)

  minus-has : (more : List ℕ) → PartHas (minus_at more)
  minus-has [] = tt
  minus-has (b ∷ more) = if-has (b == 45) (comment_at 2 more) _ (comment-has 2 more) tt

  closing-has : (at_base : Bool) (more : List ℕ) → PartHas (closing_at at_base more)
  closing-has at_base [] = if-has at_base _ _ tt tt
  closing-has at_base (b ∷ more) = tt

  outer-has : (names : NameSet) (at_base after_group : Bool) (b : ℕ) (bytes : List ℕ) → PartHas (outer_at names at_base after_group b bytes)
  outer-has names at_base after_group b bytes =
      if-has (b == 45) (minus_at bytes) _ (minus-has bytes)
      (if-has (is_quote b) _ _ tt
      (if-has (b == 62) (closing_at at_base bytes) _ (closing-has at_base bytes)
      (common-has names (outer_sign after_group b) b bytes)))

  inner-has : (names : NameSet) (b : ℕ) (bytes : List ℕ) → PartHas (inner_at names b bytes)
  inner-has names b bytes =
      if-has ((b == 45) && begins_with 45 bytes) (Err Syntax) (common_at names (group_sign b) b bytes) tt (common-has names (group_sign b) b bytes)

  -- in a literal
  abbrev OptionIs : Option Part → Type 0
  OptionIs (Some part) = PartIs part
  OptionIs None = Unit {0}

  if-option : (t : Bool) (x y : Option Part) → OptionIs x → OptionIs y → OptionIs (if t then x else y)
  if-option true x y a b = a
  if-option false x y a b = b

  function-is : (size : ℕ) (o : Option ℕ) → PartIs (function_of size o)
  function-is size None = tt
  function-is size (Some b) = tt

  numbered-is : (size n : ℕ) → PartIs (numbered size n)
  numbered-is size n = if-is (nat_le n 255) (p.Char size (unit.Coded n)) (p.NoChar size) tt tt

  character-is : (names : NameSet) (fold : Bool) (more : List ℕ) → OptionIs (character_at names fold more)
  character-is names fold more =
      let n = name_length names more in
      if-option (begins_digit more) (Some (number_reference more)) (if begins_name names more then Some (function_reference names fold more) else None)
      (numbered-is (2 + prefix_len is_digit more + reference_end (drop (prefix_len is_digit more) more)) (number_after 0 (take (prefix_len is_digit more) more)))
      (if-option (begins_name names more) (Some (function_reference names fold more)) None
      (function-is (2 + n + reference_end (drop n more)) (function_character fold (take n more))) tt)

  coded-is : (names : NameSet) (fold : Bool) (more : List ℕ) → OptionIs (coded_at names fold more)
  coded-is names fold [] = tt
  coded-is names fold (b ∷ more) = if-option (b == 35) (character_at names fold more) _ (character-is names fold more) tt

  or-coded-is : (names : NameSet) (fold : Bool) (b : ℕ) (more : List ℕ) (o : Option Part) → OptionIs o → OptionIs (or_coded names fold b more o)
  or-coded-is names fold b more (Some part) a = a
  or-coded-is names fold b more None a = if-option (b == 38) (coded_at names fold more) _ (coded-is names fold more) tt

  referring-is : (names : NameSet) (fold : Bool) (k : LiteralKind) (b : ℕ) (more : List ℕ) → OptionIs (referring_at names fold k b more)
  referring-is names fold literal.Parameter b more =
      or-coded-is names fold b more (parameter_at names b more) (if-option _ (Some (entity_reference names more)) None tt tt)
  referring-is names fold literal.Value b more =
      or-coded-is names fold b more (general_at names b more) (if-option _ (Some (entity_reference names more)) None tt tt)
  referring-is names fold _ b more = tt

  or-data-is : (quote : ℕ) (more : List ℕ) (o : Option Part) → OptionIs o → PartIs (or_data quote more o)
  or-data-is quote more (Some part) a = a
  or-data-is quote more None a = tt

  literal-is : (names : NameSet) (fold : Bool) (o : Opened) (in_its_text : Bool) (b : ℕ) (more : List ℕ) → PartIs (literal_at names fold o in_its_text b more)
  literal-is names fold o in_its_text b more =
      if-is _ p.EndQuote (or_data o.quote more (referring_at names fold o.kind b more)) tt
      (or-data-is o.quote more (referring_at names fold o.kind b more) (referring-is names fold o.kind b more))

  end-has : (h : Here) (o : Option Opened) → PartHas (end_at h o)
  end-has h None = if-has h.at_base _ _ tt tt
  end-has h (Some o) = if-has (h.at_base || h.in_its_text) _ _ tt tt

  part-has : (names : NameSet) (fold : Bool) (h : Here) (o : Option Opened) (bytes : List ℕ) → PartHas (part_in names fold h o bytes)
  part-has names fold h o [] = end-has h o
  part-has names fold h (Some o) (b ∷ bytes) = literal-is names fold o h.in_its_text b bytes
  part-has names fold h None (b ∷ bytes) =
      if-has h.in_group (inner_at names b bytes) (outer_at names h.at_base h.after_group b bytes)
      (inner-has names b bytes) (outer-has names h.at_base h.after_group b bytes)

  -- JUDGED, a part is the same, or refused
  form-has : (form : Form) (part : Part) → PartIs part → PartHas (judged_form form part)
  form-has f.Broken part a = tt
  form-has (f.LeftOut r) part a = tt
  form-has _ part a = a

  judged-end-has : (form : Form) (no_char : Bool) (part : Part) → PartIs part → PartHas (judged_end form no_char part)
  judged-end-has form no_char part a =
      if-has (not (is_complete form)) (Err (Refusing reason.DeclarationSyntax)) (if no_char then Err (Refusing reason.CharNumber) else Ok part) tt
      (if-has no_char (Err (Refusing reason.CharNumber)) (Ok part) tt a)

  judged-sign-has : (last : Bool) (r : Reading) (x : Delim) → PartHas (judged_sign last r x)
  judged-sign-has last r sign.Dso = if-has last _ _ (judged-end-has (after_sign r.form sign.Dso) r.no_char (p.Sign sign.Dso) tt) tt
  judged-sign-has last r x = form-has (after_sign r.form x) (p.Sign x) tt

  judged-quote-has : (k : LiteralKind) (b : ℕ) → PartHas (judged_quote k b)
  judged-quote-has literal.NoLiteral b = tt
  judged-quote-has _ b = tt

  judged-reached-has : (I : Source) (r : Reading) (n m : ℕ) (x : Reached) → PartHas (judged_reached (kept I r) n m x)
  judged-reached-has I r n m (Fails fault) = tt
  judged-reached-has I r n m _ = tt

  judged-has : (I : Source) (bytes : List ℕ) (t : State) (part : Part) → PartIs part → PartHas (judged I bytes t part)
  judged-has I bytes t (p.Name n) a = form-has (after_name t.reading.form (take n bytes)) (p.Name n) tt
  judged-has I bytes t (p.Token n) a = form-has (after_token t.reading.form) (p.Token n) tt
  judged-has I bytes t (p.Reserved n) a = form-has (after_reserved t.reading.form (take n (drop 1 bytes))) (p.Reserved n) tt
  judged-has I bytes t (p.Sign x) a = judged-sign-has _ t.reading x
  judged-has I bytes t (p.Quote b) a = judged-quote-has (literal_kind t.reading.form) b
  judged-has I bytes t (p.Refer n m) a =
      if-has (may_refer t.reading.form) (judged_reached (kept I t.reading) n m (reached_from I bytes t n)) (Err (Refusing reason.DeclarationSyntax))
      (judged-reached-has I t.reading n m (reached_from I bytes t n)) tt
  judged-has I bytes t p.EndQuote a = if-has (is_literal I.construct && t.reading.no_char) (Err (Refusing reason.CharNumber)) (Ok p.EndQuote) tt tt
  judged-has I bytes t p.Closing a = judged-end-has t.reading.form t.reading.no_char p.Closing tt
  judged-has I bytes t (p.Gap n) a = tt
  judged-has I bytes t (p.Data n) a = tt
  judged-has I bytes t (p.Char n u) a = a
  judged-has I bytes t (p.NoChar n) a = tt
  judged-has I bytes t p.TextEnd a = tt

  judged-part-has : (I : Source) (bytes : List ℕ) (t : State) (x : Result Part PartFault) → PartHas x → PartHas (judged_part I bytes t x)
  judged-part-has I bytes t (Err e) a = tt
  judged-part-has I bytes t (Ok part) a = judged-has I bytes t part a

  next-has : (I : Source) (t : State) → PartHas (next_part I t)
  next-has I t =
      judged-part-has I (ahead I t) t (part_at I.syntax.names I.syntax.general_fold (here I t) (ahead I t))
      (part-has I.syntax.names I.syntax.general_fold (here I t) (here I t).literal (ahead I t))

  -- WHAT A REFERENCE REACHES, where the entities are those of the document type
  abbrev ReachedRefers : Reached → Type 0
  ReachedRefers (PutsData n) = UnitRefers d (unit.Sdata n)
  ReachedRefers r = Unit {0}

  abbrev body_in : Option Entity → Option Body
  body_in o = option_map (λ (e : Entity). e.body) o

  module _ (I : Source) (same : I.entities ≡ d.entities) where
    opening-refers : (o : Option StackRefused) (n : ℕ) (text : List ℕ) → ReachedRefers (opened_by o n text)
    opening-refers (Some refused) n text = tt
    opening-refers None n text = either ReachedRefers (all_sgml text) _ _ tt tt

    given-refers : (s : Stack) (n : ℕ) (o : Option (List ℕ)) → ReachedRefers (given_or_wanted s n o)
    given-refers s n None = tt
    given-refers s n (Some text) = opening-refers (refusal n (length text) s) n text

    text-refers : (by : Space) (n : ℕ) → ReachedRefers (data_for by (PutsText n))
    text-refers space.General n = tt
    text-refers space.Parameter n = tt

    data-refers : (by : Space) (name : List ℕ) (n : ℕ) (text : List ℕ) → number_of I.entities by name ≡ Some n → body_in (entity_at I.entities n) ≡ Some (body.Sdata text)
        → ReachedRefers (data_for by (PutsData n))
    unfolding entity_number entity
    data-refers space.General name n text e g = (
      text,
      record {
        name = name;
        numbered = sym (ap (λ es. number_of es space.General name) same) ∙ e;
        body_is = sym (ap (λ es. body_in (entity_at es n)) same) ∙ g;
      },
    )
    data-refers space.Parameter name n text e g = tt

    body-refers : (s : Stack) (by : Space) (name : List ℕ) (n : ℕ) (b : Body) → number_of I.entities by name ≡ Some n → body_in (entity_at I.entities n) ≡ Some b
        → ReachedRefers (reach_body I s by n b)
    body-refers s by name n (body.Sgml text) e g = opening-refers (refusal n (length text) s) n text
    body-refers s by name n (body.External x) e g = either ReachedRefers (is_on n s.places) _ _ tt (given-refers s n (text_of I.texts n))
    body-refers s by name n (body.Cdata text) e g = text-refers by n
    body-refers s by name n (body.Sdata text) e g = data-refers by name n text e g
    body-refers s by name n (body.Pi text) e g = tt
    body-refers s by name n (body.ExternalData k x o) e g = tt

    entity-refers : (s : Stack) (by : Space) (name : List ℕ) (n : ℕ) (o : Option Entity) → number_of I.entities by name ≡ Some n → entity_at I.entities n ≡ o
        → ReachedRefers (reach_entity I s by n o)
    entity-refers s by name n None e g = tt
    entity-refers s by name n (Some x) e g = body-refers s by name n x.body e (ap body_in g)

    number-refers : (s : Stack) (by : Space) (name : List ℕ) (o : Option ℕ) → number_of I.entities by name ≡ o → ReachedRefers (reach_number I s by o)
    number-refers s by name None e = tt
    number-refers s by name (Some n) e = entity-refers s by name n (entity_at I.entities n) e refl

    reached-refers : (s : Stack) (by : Space) (name : List ℕ) → ReachedRefers (reached I s by name)
    reached-refers s by name =
        let n = folded I.syntax.entity_fold name in
        either ReachedRefers (nat_lt I.syntax.quantities.namelen (length name)) _ _ tt (number-refers s by n (number_of I.entities by n) refl)

    -- WHAT WAS READ
    abbrev Good : Reading → Type 0
    Good r = AllAre (LexemeRefers d) r.lexemes × UnitsRefer d r.units

    data-good : (bs : List ℕ) (r : Reading) → Good r → Good (with_data bs r)
    data-good bs r g =
        either Good (is_value r.literal) (with_units (characters bs) r) (with_bytes bs r)
        (g.0, all-append (UnitRefers d) r.units (characters bs) g.1 (characters-refer bs)) g

    char-good : (u : AnyUnit) (r : Reading) → UnitRefers d u → Good r → Good (with_char u r)
    char-good u r a g =
        either Good (is_value r.literal) (with_units (u ∷ []) r) (with_bytes (byte_of u) r) (g.0, all-append (UnitRefers d) r.units (u ∷ []) g.1 (a, tt)) g

    referred-good : (m : ℕ) (t : State) (x : Reached) → ReachedRefers x → Good t.reading → Good (referred I m t x).reading
    referred-good m t (Opens entity size) a g = g
    referred-good m t (PutsText n) a g = data-good (cdata_text (entity_at I.entities n)) t.reading g
    referred-good m t (PutsData n) a g = (g.0, all-append (UnitRefers d) t.reading.units (unit.Sdata n ∷ []) g.1 (a, tt))
    referred-good m t (Fails fault) a g = g

    add : (r : Reading) (x : Lexeme) → LexemeRefers d x → Good r → AllAre (LexemeRefers d) (r.lexemes ++ x ∷ [])
    add r x a g = all-append (LexemeRefers d) r.lexemes (x ∷ []) g.0 (a, tt)

    after-good : (bytes : List ℕ) (part : Part) (t : State) → PartIs part → Good t.reading → Good (after I bytes part t).reading
    after-good bytes (p.Gap n) t a g = g
    after-good bytes (p.Name n) t a g = (add t.reading (Name (take n bytes)) tt g, g.1)
    after-good bytes (p.Token n) t a g = (add t.reading (Token (take n bytes)) tt g, g.1)
    after-good bytes (p.Reserved n) t a g = (add t.reading (Reserved (take n (drop 1 bytes))) tt g, g.1)
    after-good bytes (p.Sign x) t a g = (add t.reading (Sign x) tt g, g.1)
    after-good bytes (p.Quote b) t a g = g
    after-good bytes p.EndQuote t a g = (
      add t.reading (literal_of t.reading.literal t.reading.bytes t.reading.units)
          (either (LexemeRefers d) (is_value t.reading.literal) (Value t.reading.units) (Literal t.reading.bytes) g.1 tt) g,
      tt,
    )
    after-good bytes (p.Data n) t a g = data-good (take n bytes) t.reading g
    after-good bytes (p.Char n u) t a g = char-good u t.reading a g
    after-good bytes (p.NoChar n) t a g = g
    after-good bytes (p.Refer n m) t a g =
        referred-good m t (reached_from I bytes t n) (reached-refers t.stack (space_in t.reading) (take n (drop 1 bytes))) g
    after-good bytes p.TextEnd t a g = g
    after-good bytes p.Closing t a g = g

    abbrev ReadGood : Result State Fault → Type 0
    ReadGood (Ok u) = Good u.reading
    ReadGood (Err fault) = Unit {0}

    end-good : (b : Bool) (go : State → Result State Fault) (u : State) → Good u.reading → ((v : State) → Good v.reading → ReadGood (go v)) → ReadGood (unless_end b go u)
    end-good true go u g h = g
    end-good false go u g h = h u g

    part-good : (t : State) (go : State → Result State Fault) (x : Result Part Fault) → PartHas x → Good t.reading → ((v : State) → Good v.reading → ReadGood (go v))
        → ReadGood (with_part I t go x)
    part-good t go (Err fault) a g h = tt
    part-good t go (Ok part) a g h = end-good (closes I.construct part) go (after I (ahead I t) part t) (after-good (ahead I t) part t a g) h

    on-good : (n : ℕ) (t : State) → Good t.reading → ReadGood (read_on n I t)
    on-good zero t g = tt
    on-good (suc n) t g = part-good t (λ u. read_on n I u) (next_part I t) (next-has I t) g (λ v h. on-good n v h)

    begun-good : (c : Construct) (height : ℕ) (r : Reading) → Good r → Good (begun c height r)
    begun-good (construct.Literal quote) height r g = g
    begun-good _ height r g = g

    all-good : (s : Stack) → ReadGood (read_all I s)
    unfolding read_all
    all-good s = on-good (suc (left I (start I s).stack)) (start I s) (begun-good I.construct _ (nothing_read _) (tt, tt))

-- LEXEMES
lexed-by : (outside : Outside) (d : Doctype) (I : Source) (same : I.entities ≡ d.entities) (x : Result State Fault) → ReadGood d I same x
    → Gives (λ (y : Lexed). AllAre (LexemeRefers d) y.lexemes) (lexed_by outside d x)
lexed-by outside d I same (Err fault) g = tt
lexed-by outside d I same (Ok u) g = g.0

its-entities : (c : Construct) (outside : Outside) (d : Doctype) (t : Stacked) (own : Text) → (source_of c outside d t own).entities ≡ d.entities
unfolding source_of
its-entities c outside d t own = refl

pub lexed-refers : (c : Construct) (outside : Outside) (d : Doctype) (t : Stacked) (own : Text)
    → Gives (λ (y : Lexed). AllAre (LexemeRefers d) y.lexemes) (lexed c outside d t own)
unfolding lexed
lexed-refers c outside d t own =
    let I = source_of c outside d t own in
    let same = its-entities c outside d t own in
    lexed-by outside d I same (read_all I (stack_of outside d t)) (all-good d I same (stack_of outside d t))

-- SPECIFICATIONS
value-refers : (d : Doctype) (xs : List Lexeme) → AllAre (LexemeRefers d) xs → UnitsRefer d (value_of xs)
value-refers d [] a = tt
value-refers d (Value us ∷ xs) a = a.0
value-refers d (Name n ∷ xs) a = tt
value-refers d (Token n ∷ xs) a = tt
value-refers d (Reserved n ∷ xs) a = tt
value-refers d (Literal n ∷ xs) a = tt
value-refers d (Sign n ∷ xs) a = tt

read-refers : (d : Doctype) (t : Stacked) (x : Result Lexed Reason) → Gives (λ (y : Lexed). AllAre (LexemeRefers d) y.lexemes) x → WrittenRefers d (units_read t x).units
read-refers d t (Err r) a = tt
read-refers d t (Ok x) a = value-refers d x.lexemes a

units-refer : (outside : Outside) (d : Doctype) (t : Stacked) (bytes : Text) (quote : Option ℕ) → WrittenRefers d (units_of outside d t bytes quote).units
units-refer outside d t bytes None = characters-refer d bytes
units-refer outside d t bytes (Some quote) =
    read-refers d t (lexed (construct.Literal quote) outside d t (bytes ++ quote ∷ [])) (lexed-refers (construct.Literal quote) outside d t (bytes ++ quote ∷ []))

all-refer : (outside : Outside) (d : Doctype) (xs : List Definition) (t : Stacked) (ws : List Written)
    → AllAre (SpecificationRefers d) (all_specified outside d xs t ws).specifications
all-refer outside d xs t [] = tt
all-refer outside d xs t (w ∷ ws) =
    (units-refer outside d t w.bytes w.quote, all-refer outside d xs (with_spent t (units_of outside d t w.bytes w.quote).spent) ws)

pub specifications-refer : (outside : Outside) (d : Doctype) (t : Stacked) (tag : Text) → AllAre (SpecificationRefers d) (specifications_of outside d t tag).specifications
unfolding specifications_of
specifications-refer outside d t tag =
    all-refer outside d (attributes d (element_of d tag)) t (written_from tag None (parts_of_tag d.syntax tag))
