-- What is taken of one specification.
use Rattle.std.proofs.Common.{◌≡◌, ◌<◌, ◌∷◌, ◌++◌, ◌+◌, ◌∙◌, ◌⊎◌, inl, inr, ℕ, Bool, true, List, [], Option, None, Some, Result, Ok, Err, refl, sym, ap, subst, arith, length, length-set, get_or, set, option_map}
use Rattle.std.specs.Prelude.{slice_get, IfOk, IfErr, OnOk}
use Rattle.std.specs.Option.{option_or}
use Rattle.std.proofs.lemmas.List.{append_assoc, append-nil}
use Rattle.sgml_text.specs.Refusals.{first_row}
use Rattle.sgml_text.specs.declared.reason.Reason.{Reason}
use Rattle.sgml_text.specs.declared.reason.Reason.TheVariants as reason
use Rattle.sgml_text.specs.declared.unit.Unit.{Unit as AnyUnit}
use Rattle.sgml_syntax.specs.declared.syntax.Syntax.{Syntax}
use Rattle.sgml_entity.specs.Entities.{Tables}
use Rattle.sgml_attr.specs.declared.definition.Definition.{Definition}
use Rattle.sgml_attr.specs.declared.definition.Spec.{Spec}
use Rattle.sgml_attr.specs.declared.value.AttrValue.{AttrValue}
use Rattle.sgml_attr.specs.Literal.{interpreted}
use Rattle.sgml_attr.specs.Matching.{attribute_of}
use Rattle.sgml_attr.specs.Values.{value}
use Rattle.sgml_starts.specs.declared.error.StartError.{StartError}
use Rattle.sgml_starts.specs.declared.error.StartError.TheVariants as error
use Rattle.sgml_starts.specs.declared.filling.Filled.{Filled}
use Rattle.sgml_starts.specs.Rows.{rows, reason_of_spec, reason_of_specs}
use Rattle.sgml_text.specs.Units.{characters}
use Rattle.sgml_entity.specs.Stack.{Stack, moved_to, offset_of}
use Rattle.sgml_markup.specs.declared.walk.TagWalk.{TagWalk}
use Rattle.sgml_markup.specs.Walks.{parts_left, BeginsTag}
use Rattle.sgml_decl_lexemes.specs.decl_parts.declared.ends.Construct.TheVariants.{Literal}
use Rattle.sgml_decl_lexemes.specs.Declares.{asked}
use Rattle.sgml_decl_lexemes.specs.Reads.{answer}
use Rattle.sgml_markup.specs.declared.kinds.Part.{Part}
use Rattle.sgml_markup.specs.declared.kinds.PartKind.TheVariants as part
use Rattle.sgml_markup.specs.Forms.{parts_of_tag}
use Rattle.sgml_markup.specs.Tags.{bytes_of}
use Rattle.sgml_decl_lexemes.specs.declared.lexeme.Lexeme.{Lexeme}
use Rattle.sgml_decl_lexemes.specs.declared.lexeme.Lexeme.TheVariants.{Value}
use Rattle.sgml_decl_lexemes.specs.declared.fault.LexError.{LexError}
use Rattle.sgml_starts.specs.Written.{written_from, written}
use Rattle.sgml_starts.specs.Specified.{Input, Specified, specified_from}
use Rattle.sgml_starts.specs.Read.{IsNoLiteral, AnswersSo, StandsAlike}
use Rattle.sgml_starts.specs.Values.{Start, refused, unvalued}
use Rattle.sgml_starts.specs.Starts.{IsUnvalued}
use Rattle.sgml_starts.specs.Filled.{AreFilled}
pub use Rattle.sgml_starts.specs.Taken.{input_in}
pub use Rattle.sgml_starts.specs.SoFar.{AreSoFar}
use Rattle.sgml_starts.specs.Taken.{IsPut, Takes, Refuses, TakesAt, RefusesAt, name_in, spec_in, literal_in, TakesLiteral, RefusesLiteral, AreTaken}
use Rattle.sgml_starts.proofs.Added.{at-number, flag-of, reason-is, add-filled, unknown-is}
use Rattle.sgml_starts.proofs.Ranked.{not-twice}
use Rattle.sgml_starts.proofs.Completed.{or-refused, unvalued-specs, unvalued-stop}
use Rattle.sgml_starts.proofs.Walked.{IsReading, with_specs, asked_at, quote_of, element-read, name-read, bare-read, quoted-read, quoted-stops, all-read, begun-reading}

module _ (S : Start) (f : Filled) (number : ℕ) (x : Definition) (twice : Bool) (units : List AnyUnit) (l : number < length S.definitions) (is : x ≡ get_or S.definitions number x)
    (flag : twice ≡ get_or f.specified.items number twice) where
  row-is : (s : Spec) (before : List Spec) → attribute_of S.syntax S.definitions s ≡ Some number → s.value ≡ units → AreFilled S before f
      → reason_of_spec S.syntax S.tables S.definitions before s ≡ first_row (rows S.syntax x S.tables twice (interpreted x.declared units))
  row-is s before named same h =
      let here = at-number S.definitions number x l is in
      reason-is S before s number x twice units named here (flag-of S before f number x twice h here flag) same

  pub refuses-at : (e : StartError) → IsUnvalued (refused (first_row (rows S.syntax x S.tables twice (interpreted x.declared units)))) e → RefusesAt S number units f e
  refuses-at e told s named same before h =
      subst (λ (o : Option Reason). IsUnvalued (refused o) e) (sym (row-is s before named same h)) told

  pub takes-at : (g : Filled) (v : AttrValue) → first_row (rows S.syntax x S.tables twice (interpreted x.declared units)) ≡ None
      → value S.syntax x S.tables None (Some (interpreted x.declared units)) ≡ Ok v → IsPut x number v f g → TakesAt S number units f g
  takes-at g v none gives p s named same before h =
      let here = at-number S.definitions number x l is in (
        row-is s before named same h ∙ none,
        add-filled S before f g s number x h here named v p.values p.specified p.current p.conref
            (ap (λ (xs : List AttrValue). length xs) p.values ∙ length-set f.values.items number v) (ap (λ (xs : List Bool). length xs) p.specified ∙ length-set f.specified.items number true)
            (flag-of S before f number x twice h here flag ∙ not-twice S.syntax x S.tables twice (interpreted x.declared units) none)
            (ap (λ (u : List AnyUnit). value S.syntax x S.tables None (Some (interpreted x.declared u))) same ∙ gives),
      )

-- one that names nothing
pub refuses-unknown : (S : Start) (s : Spec) (f : Filled) → attribute_of S.syntax S.definitions s ≡ None → Refuses S s f (error.Refused reason.UnknownAttribute)
refuses-unknown S s f none before h = ap refused (unknown-is S before s none)

-- ALL OF THEM in order
both-none : {X : Type 0} (a b : Option X) → option_or a b ≡ None → (a ≡ None) × (b ≡ None)
both-none None b e = (refl, e)
both-none (Some x) b e = absurd (cc e)

reasons-from : (S : Start) (before ss more : List Spec) → reason_of_specs S.syntax S.tables S.definitions before ss ≡ None
    → reason_of_specs S.syntax S.tables S.definitions before (ss ++ more) ≡ reason_of_specs S.syntax S.tables S.definitions (before ++ ss) more
reasons-from S before [] more none = ap (λ (b : List Spec). reason_of_specs S.syntax S.tables S.definitions b more) (sym (append-nil before))
reasons-from S before (s ∷ ss) more none =
    let two = both-none (reason_of_spec S.syntax S.tables S.definitions before s) (reason_of_specs S.syntax S.tables S.definitions (before ++ s ∷ []) ss) none in
    ap (λ (o : Option Reason). option_or o (reason_of_specs S.syntax S.tables S.definitions (before ++ s ∷ []) (ss ++ more))) two.0
    ∙ reasons-from S (before ++ s ∷ []) ss more two.1
    ∙ ap (λ (b : List Spec). reason_of_specs S.syntax S.tables S.definitions b more) (append_assoc before (s ∷ []) ss)

module _ (S : Start) (specs : List Spec) (none : reason_of_specs S.syntax S.tables S.definitions [] specs ≡ None) where
  pub none-more : (s : Spec) → reason_of_spec S.syntax S.tables S.definitions specs s ≡ None → reason_of_specs S.syntax S.tables S.definitions [] (specs ++ s ∷ []) ≡ None
  none-more s here = reasons-from S [] specs (s ∷ []) none ∙ ap (λ (o : Option Reason). option_or o None) here

  -- the first that is refused refuses all
  pub refuses-all : (s : Spec) (all more : Specified) (e : StartError) → with_specs (specs ++ s ∷ []) more ≡ all
      → IsUnvalued (refused (reason_of_spec S.syntax S.tables S.definitions specs s)) e → IsUnvalued (unvalued S all) e
  refuses-all s all more e is told =
      let ss : specs ++ s ∷ more.specs ≡ all.specs = sym (append_assoc specs (s ∷ []) more.specs) ∙ ap (λ (a : Specified). a.specs) is in
      unvalued-specs S all e
      (subst (λ (o : Option Reason). IsUnvalued (refused o) e) (sym (reasons-from S [] specs (s ∷ more.specs) none) ∙ ap (reason_of_specs S.syntax S.tables S.definitions []) ss)
      (or-refused (reason_of_spec S.syntax S.tables S.definitions specs s) (reason_of_specs S.syntax S.tables S.definitions (specs ++ s ∷ []) more.specs) e told))

  -- and so does a literal that can't be read
  pub stops-all : (all : Specified) (spent : ℕ) (e : StartError) → record { specs = specs; stop = Some e; spent = spent } ≡ all → IsUnvalued (unvalued S all) e
  stops-all all spent e is = subst (λ (a : Specified). IsUnvalued (unvalued S a) e) is (unvalued-stop S (record { specs = specs; stop = Some e; spent = spent }) e none refl)

pub unless-memory : (x : Result (List Lexeme) LexError × Stack) (o : Option StartError) (e : StartError) → IsNoLiteral x e → (AnswersSo x.0 e → IsUnvalued o e) → IsUnvalued o e
unless-memory x o error.Memory h f = tt
unless-memory x o (error.Refused r) h f = f h
unless-memory x o (error.Wanted n) h f = f h

-- WHAT A TAG SPECIFIES, as far as it was read and filled in
pub none-so-far : (S : Start) (I : Input) (tag : List ℕ) (filled : Filled) (parts : List Part) → parts ≡ parts_of_tag I.syntax tag → AreFilled S [] filled
    → AreSoFar S I tag None filled I.stack parts
none-so-far S I tag filled parts is h = record { specs = []; reading = begun-reading I tag parts is; filled = h; none = refl }

module _ (S : Start) (I : Input) (tag : List ℕ) (name : Option Part) (f : Filled) (t : Stack) (p : Part) (parts : List Part) (h : AreSoFar S I tag name f t (p ∷ parts)) where
  pub element-so-far : p.kind ≡ part.ElementName → AreSoFar S I tag None f t parts
  element-so-far k = record { specs = h.specs; reading = element-read I tag (name_in tag name) h.specs t p parts h.reading k; filled = h.filled; none = h.none }

  pub name-so-far : p.kind ≡ part.AttributeName → AreSoFar S I tag (Some p) f t parts
  name-so-far k = record { specs = h.specs; reading = name-read I tag (name_in tag name) h.specs t p parts h.reading k; filled = h.filled; none = h.none }

  pub bare-so-far : (g : Filled) → p.kind ≡ part.Bare → Takes S (spec_in tag name (characters (bytes_of tag p))) f g → AreSoFar S I tag None g t parts
  bare-so-far g k taken =
      let s : Spec = spec_in tag name (characters (bytes_of tag p)) in
      let two = taken h.specs h.filled in
      record { specs = h.specs ++ s ∷ []; reading = bare-read I tag (name_in tag name) h.specs t p parts h.reading k; filled = two.1; none = none-more S h.specs h.none s two.0 }

  pub bare-refused : (e : StartError) → p.kind ≡ part.Bare → Refuses S (spec_in tag name (characters (bytes_of tag p))) f e
      → IsUnvalued (unvalued S (specified_from I I.stack.spent (written I.syntax tag))) e
  bare-refused e k told =
      let s : Spec = spec_in tag name (characters (bytes_of tag p)) in
      refuses-all S h.specs h.none s (specified_from I I.stack.spent (written I.syntax tag)) (specified_from I t.spent (written_from tag None parts)) e
      (bare-read I tag (name_in tag name) h.specs t p parts h.reading k).is (told h.specs h.filled)

  pub quoted-so-far : (units : List AnyUnit) (after : Stack) (g : Filled) → p.kind ≡ part.Quoted → asked_at I tag p t ≡ (Ok (Value units ∷ []), after) → StandsAlike t after
      → Takes S (spec_in tag name units) f g → AreSoFar S I tag None g after parts
  quoted-so-far units after g k is a taken =
      let s : Spec = spec_in tag name units in
      let two = taken h.specs h.filled in
      record { specs = h.specs ++ s ∷ []; reading = quoted-read I tag (name_in tag name) h.specs t p parts h.reading units after k is a; filled = two.1; none = none-more S h.specs h.none s two.0 }

  pub quoted-refused : (units : List AnyUnit) (after : Stack) (e : StartError) → p.kind ≡ part.Quoted → asked_at I tag p t ≡ (Ok (Value units ∷ []), after) → StandsAlike t after
      → Refuses S (spec_in tag name units) f e → IsUnvalued (unvalued S (specified_from I I.stack.spent (written I.syntax tag))) e
  quoted-refused units after e k is a told =
      let s : Spec = spec_in tag name units in
      refuses-all S h.specs h.none s (specified_from I I.stack.spent (written I.syntax tag)) (specified_from I after.spent (written_from tag None parts)) e
      (quoted-read I tag (name_in tag name) h.specs t p parts h.reading units after k is a).is (told h.specs h.filled)

  pub literal-refused : (e : StartError) → p.kind ≡ part.Quoted → IsNoLiteral (asked_at I tag p t) e → IsUnvalued (unvalued S (specified_from I I.stack.spent (written I.syntax tag))) e
  literal-refused e k unread =
      unless-memory (asked_at I tag p t) (unvalued S (specified_from I I.stack.spent (written I.syntax tag))) e unread
      (λ answers. stops-all S h.specs h.none (specified_from I I.stack.spent (written I.syntax tag)) t.spent e (quoted-stops I tag (name_in tag name) h.specs t p parts h.reading e k answers))

-- the same with the name that stands before it
module _ (S : Start) (I : Input) (tag : List ℕ) (name : Option Part) (f : Filled) (t : Stack) (n p : Part) (parts : List Part) (h : AreSoFar S I tag name f t (n ∷ (p ∷ parts)))
    (named : n.kind ≡ part.AttributeName) where
  pub named-so-far : AreSoFar S I tag (Some n) f t (p ∷ parts)
  named-so-far = name-so-far S I tag name f t n (p ∷ parts) h named

-- the literal is filled in, or refused
literal-here : (S : Start) (texts : List (ℕ × List ℕ)) (stack t : Stack) (tag : List ℕ) (p : Part) (at : ℕ) (x : Result (List Lexeme) LexError × Stack) → at ≡ offset_of stack.places
    → literal_in S texts at tag p t ≡ x → asked_at (input_in S texts stack) tag p t ≡ x
literal-here S texts stack t tag p at x e is =
    ap (λ (m : ℕ). answer (asked (Literal (quote_of tag p)) S.syntax S.tables texts (record t { places = moved_to (m + p.from) t.places }) true)) (sym e) ∙ is

module _ (S : Start) (texts : List (ℕ × List ℕ)) (stack : Stack) (tag : List ℕ) (name : Option Part) (f : Filled) (t : Stack) (p : Part) (parts : List Part)
    (h : AreSoFar S (input_in S texts stack) tag name f t (p ∷ parts)) (at : ℕ) (e : at ≡ offset_of stack.places) (k : p.kind ≡ part.Quoted) where
  pub literal-so-far : (g : Filled) (after : Stack) → StandsAlike t after → TakesLiteral S texts at tag name p f t g after → AreSoFar S (input_in S texts stack) tag None g after parts
  literal-so-far g after a l =
      quoted-so-far S (input_in S texts stack) tag name f t p parts h l.units after g k (literal-here S texts stack t tag p at (Ok (Value l.units ∷ []), after) e l.is) a l.taken

  pub literal-fails : (x : StartError) → RefusesLiteral S texts at tag name p f t x → IsUnvalued (unvalued S (specified_from (input_in S texts stack) stack.spent (written S.syntax tag))) x
  literal-fails x (inl unread) =
      literal-refused S (input_in S texts stack) tag name f t p parts h x k
      (subst (λ (y : Result (List Lexeme) LexError × Stack). IsNoLiteral y x) (sym (literal-here S texts stack t tag p at (literal_in S texts at tag p t) e refl)) unread)
  literal-fails x (inr r) =
      quoted-refused S (input_in S texts stack) tag name f t p parts h r.units r.after x k
      (literal-here S texts stack t tag p at (Ok (Value r.units ∷ []), r.after) e r.is) r.alike r.refused

-- where the walk begins
pub begun-so-far : (S : Start) (I : Input) (tag : List ℕ) (filled : Filled) (w : TagWalk) → I.syntax ≡ S.syntax → BeginsTag S.syntax tag w → AreFilled S [] filled
    → AreSoFar S I tag None filled I.stack (parts_left S.syntax tag w)
begun-so-far S I tag filled w e (inl is) h = none-so-far S I tag filled (parts_left S.syntax tag w) (is ∙ ap (λ (x : Syntax). parts_of_tag x tag) (sym e)) h
begun-so-far S I tag filled w e (inr b) h =
    element-so-far S I tag None filled I.stack b.name (parts_left S.syntax tag w)
    (none-so-far S I tag filled (b.name ∷ parts_left S.syntax tag w) (sym b.is ∙ ap (λ (x : Syntax). parts_of_tag x tag) (sym e)) h) b.named

pub all-taken : (S : Start) (I : Input) (tag : List ℕ) (name : Option Part) (f : Filled) (t : Stack) → AreSoFar S I tag name f t [] → AreTaken S (specified_from I I.stack.spent (written I.syntax tag)) f t
all-taken S I tag name f t h =
    let is = all-read I tag (name_in tag name) h.specs t h.reading in
    record {
      none = ap (λ (a : Specified). reason_of_specs S.syntax S.tables S.definitions [] a.specs) (sym is) ∙ h.none;
      stop = ap (λ (a : Specified). a.stop) (sym is);
      filled = subst (λ (a : Specified). AreFilled S a.specs f) is h.filled;
      spent = ap (λ (a : Specified). a.spent) is;
    }

-- the same start in two places
pub next-left : (T S : Start) → T ≡ S → (tag : List ℕ) (p : Part) (walk next : TagWalk) → parts_left T.syntax tag walk ≡ p ∷ parts_left T.syntax tag next
    → parts_left S.syntax tag walk ≡ p ∷ parts_left S.syntax tag next
next-left T S same tag p walk next h = subst (λ (Z : Start). parts_left Z.syntax tag walk ≡ p ∷ parts_left Z.syntax tag next) same h

pub next-two : (T S : Start) → T ≡ S → (tag : List ℕ) (n p : Part) (walk next : TagWalk) → parts_left T.syntax tag walk ≡ n ∷ (p ∷ parts_left T.syntax tag next)
    → parts_left S.syntax tag walk ≡ n ∷ (p ∷ parts_left S.syntax tag next)
next-two T S same tag n p walk next h = subst (λ (Z : Start). parts_left Z.syntax tag walk ≡ n ∷ (p ∷ parts_left Z.syntax tag next)) same h

pub literal-there : (P : Result (List Lexeme) LexError × Stack → Type 0) (T S : Start) → T ≡ S → (texts : List (ℕ × List ℕ)) (stack t : Stack) (tag : List ℕ) (p : Part) (n : ℕ)
    → n ≡ offset_of stack.places
    → P (answer (asked (Literal (quote_of tag p)) T.syntax T.tables texts (record t { places = moved_to (n + p.from) t.places }) true))
    → P (asked_at (input_in S texts stack) tag p t)
literal-there P T S same texts stack t tag p n at h =
    subst (λ (Z : Start). P (asked_at (input_in Z texts stack) tag p t)) same
    (subst (λ (m : ℕ). P (answer (asked (Literal (quote_of tag p)) T.syntax T.tables texts (record t { places = moved_to (m + p.from) t.places }) true))) at h)
