-- The units of a value are of what was written, or of a default or current value.
use Rattle.std.proofs.Common.{◌≡◌, ℕ, Bool, true, false, ◌||◌, ◌==◌, List, [], ◌∷◌, Option, Some, None, unwrap_or, Result, Ok, Err, refl, sym, ap, ◌∙◌, subst, if◌then◌else◌}
use Rattle.std.specs.List.{flat_map, slice_get}
use Rattle.sgml_theory_again.specs.text.declared.reason.Reason.{Reason}
use Rattle.sgml_theory_again.specs.text.Refusals.{first_row}
use Rattle.sgml_theory_again.specs.text.declared.unit.Unit.{Unit as AnyUnit}
use Rattle.sgml_theory_again.specs.text.declared.unit.Unit.TheVariants as unit
use Rattle.sgml_theory_again.specs.syntax.declared.syntax.Syntax.{Syntax}
use Rattle.sgml_theory_again.specs.entity.declared.kinds.Entity.{Entity}
use Rattle.sgml_theory_again.specs.entity.Entities.{Tables}
use Rattle.sgml_theory_again.specs.attr.declared.definition.Declared.{Declared}
use Rattle.sgml_theory_again.specs.attr.declared.definition.Declared.TheVariants as declared
use Rattle.sgml_theory_again.specs.attr.declared.definition.Default.{Default}
use Rattle.sgml_theory_again.specs.attr.declared.definition.Default.TheVariants as defaults
use Rattle.sgml_theory_again.specs.attr.declared.definition.Definition.{Definition}
use Rattle.sgml_theory_again.specs.attr.declared.error.AttrError.{AttrError}
use Rattle.sgml_theory_again.specs.attr.declared.error.AttrError.TheVariants.{FixedDiffers}
use Rattle.sgml_theory_again.specs.attr.declared.value.AttrValue.{AttrValue}
use Rattle.sgml_theory_again.specs.attr.declared.value.AttrValue.TheVariants as of
use Rattle.sgml_theory_again.specs.attr.Literal.{unit_read, is_cdata, interpreted}
use Rattle.sgml_theory_again.specs.attr.Tokens.{folds, tokens}
use Rattle.sgml_theory_again.specs.attr.Rows.{is_other, value_rows}
use Rattle.sgml_theory_again.specs.attr.Values.{token_value, unless, tokens_give, units_give, fixed_in, current_given, default_gives, value}
use Rattle.sgml_theory_again.specs.dtd_attlists.Interpreted.{default_units}
use Rattle.sgml_theory_again.specs.dtd.Doctypes.{Doctype}
use Rattle.sgml_theory_again.specs.theory_reading.Names.{Name}
use Rattle.sgml_theory_again.specs.theory_reading.Types.{attributes, entity_tables}
use Rattle.sgml_theory_again.specs.theory_reading.Pieces.{Specification}
use Rattle.sgml_theory_again.specs.theory_reading.Currents.{Currents, is_of, if_value, value_written, value_in}
use Rattle.sgml_theory_again.specs.theory_spelling.Attributes.{default_value, given_value, value_of}
use Rattle.sgml_theory_again.specs.sgml_theory_full.Named.{AllAre}
use Rattle.sgml_theory_writable.specs.Spelled.{UnitRefers, UnitsRefer, WrittenRefers, SpecificationRefers, ValueRefers, ValuesRefer}
use Rattle.sgml_theory_writable.proofs.Basics.{true-false, either, all-append}
use Rattle.sgml_theory_writable.proofs.Tokens.{unless-some}

err-ok : {A : Type 0} {P : Type 0} (e : AttrError) (v : A) → Err e ≡ Ok v → P
err-ok e v h = absurd (cc)

one-ok : (v w : AttrValue) → unless None v ≡ Ok w → v ≡ w
one-ok v w h = (unless-some None v w h).1

module _ (d : Doctype) where
  -- INTERPRETED (7.9.3)
  read-refers : (u : AnyUnit) → UnitRefers d u → UnitsRefer d (unit_read u)
  read-refers (unit.Byte b) a =
      either (UnitsRefer d) (b == 10) [] (if (b == 13) || (b == 9) then unit.Byte 32 ∷ [] else unit.Byte b ∷ []) tt
      (either (UnitsRefer d) ((b == 13) || (b == 9)) (unit.Byte 32 ∷ []) (unit.Byte b ∷ []) (tt, tt) (tt, tt))
  read-refers (unit.Coded b) a = (tt, tt)
  read-refers (unit.Sdata e) a = (a, tt)

  flat-refers : (us : List AnyUnit) → UnitsRefer d us → UnitsRefer d (flat_map unit_read us)
  flat-refers [] a = tt
  flat-refers (u ∷ us) a = all-append (UnitRefers d) (unit_read u) (flat_map unit_read us) (read-refers u a.0) (flat-refers us a.1)

  pub interpreted-refers : (x : Declared) (us : List AnyUnit) → is_cdata x ≡ true → UnitsRefer d us → UnitsRefer d (interpreted x us)
  interpreted-refers declared.Cdata us e a = flat-refers us a
  interpreted-refers _ us e a = true-false (sym e)

  -- A VALUE that units give
  token-refers : (x : Declared) (es : List Entity) (ts : List (List ℕ)) → ValueRefers d (token_value x es ts)
  token-refers (declared.Notation names) es ts = tt
  token-refers declared.Entity es ts = tt
  token-refers declared.Entities es ts = tt
  token-refers _ es ts = tt

  give-refers : (s : Syntax) (x : Declared) (tables : Tables) (fixed : Option (List AnyUnit)) (us : List AnyUnit) (v : AttrValue) (b : Bool) → (b ≡ true → UnitsRefer d us)
      → (if b then unless (first_row ((is_other fixed us, FixedDiffers) ∷ [])) (of.Cdata us) else tokens_give s x tables fixed (tokens (folds s x) us)) ≡ Ok v
      → ValueRefers d v
  give-refers s x tables fixed us v true g h =
      subst (ValueRefers d) (unless-some (first_row ((is_other fixed us, FixedDiffers) ∷ [])) (of.Cdata us) v h).1 (g refl)
  give-refers s x tables fixed us v false g h =
      let ts = tokens (folds s x) us in
      subst (ValueRefers d) (unless-some (first_row (value_rows s x tables fixed ts)) (token_value x tables.entities ts) v h).1 (token-refers x tables.entities ts)

  units-give : (x : Declared) (fixed : Option (List AnyUnit)) (us : List AnyUnit) (v : AttrValue) → (is_cdata x ≡ true → UnitsRefer d us)
      → units_give d.syntax x (entity_tables d) fixed us ≡ Ok v → ValueRefers d v
  units-give x fixed us v g h = give-refers d.syntax x (entity_tables d) fixed us v (is_cdata x) g h

  -- BY A SPECIFICATION
  abbrev OptionRefers : Option AttrValue → Type 0
  OptionRefers (Some v) = ValueRefers d v
  OptionRefers None = Unit {0}

  if-refers : (r : Result AttrValue AttrError) → ((v : AttrValue) → r ≡ Ok v → ValueRefers d v) → OptionRefers (if_value r)
  if-refers (Ok v) f = f v refl
  if-refers (Err e) f = tt

  written-refers : (o : Option Definition) (w : Result (List AnyUnit) Reason) → WrittenRefers d w → OptionRefers (value_written d o w)
  written-refers None (Ok us) a = tt
  written-refers None (Err r) a = tt
  written-refers (Some x) (Err r) a = tt
  written-refers (Some x) (Ok us) a =
      if-refers (value d.syntax x (entity_tables d) None (Some (interpreted x.declared us)))
      (λ v h. units-give x.declared (fixed_in x.default) (interpreted x.declared us) v (λ e. interpreted-refers x.declared us e a) h)

  value-in-refers : (o : Option Definition) (a : Name) (ss : List Specification) → AllAre (SpecificationRefers d) ss → OptionRefers (value_in d o a ss)
  value-in-refers o a [] r = tt
  value-in-refers o a (s ∷ ss) r =
      either OptionRefers (is_of a s) (value_written d o s.written) (value_in d o a ss) (written-refers o s.written r.0) (value-in-refers o a ss r.1)

  pub found-refers : (o : Option Definition) (a : Name) (ss : List Specification) (v : AttrValue) → AllAre (SpecificationRefers d) ss
      → value_in d o a ss ≡ Some v → ValueRefers d v
  found-refers o a ss v r e = subst OptionRefers e (value-in-refers o a ss r)

  -- WITHOUT ONE
  given-refers : (r : Result AttrValue AttrError) → ((v : AttrValue) → r ≡ Ok v → ValueRefers d v) → ValueRefers d (given_value r)
  given-refers (Ok v) f = f v refl
  given-refers (Err e) f = tt

  module _ (c : Currents) (refer : ValuesRefer d c) (n : Name) (i : ℕ) (x : Definition) (at : slice_get (attributes d n) i ≡ Some x) where
    current-refers : (o : Option AttrValue) (v : AttrValue) → c n x.name ≡ o → current_given o ≡ Ok v → ValueRefers d v
    current-refers None v e h = err-ok _ v h
    current-refers (Some w) v e h = refer.currents n x.name v (e ∙ ap Some (one-ok w v h))

    default-refers : (how : Default) (v : AttrValue) → x.default ≡ how → default_gives d.syntax x.declared (entity_tables d) (c n x.name) how ≡ Ok v → ValueRefers d v
    default-refers (defaults.Value us) v e h = units-give x.declared None us v (λ k. refer.defaults n i x us at k (ap default_units e)) h
    default-refers (defaults.Fixed us) v e h = units-give x.declared None us v (λ k. refer.defaults n i x us at k (ap default_units e)) h
    default-refers defaults.Required v e h = err-ok _ v h
    default-refers defaults.Current v e h = current-refers (c n x.name) v refl h
    default-refers defaults.Conref v e h = subst (ValueRefers d) (one-ok of.Implied v h) tt
    default-refers defaults.Implied v e h = subst (ValueRefers d) (one-ok of.Implied v h) tt

    unwrap-refers : (o : Option AttrValue) (v : AttrValue) → OptionRefers o → ValueRefers d v → ValueRefers d (unwrap_or o v)
    unwrap-refers None v a b = b
    unwrap-refers (Some w) v a b = a

    pub value-of-refers : (ss : List Specification) → AllAre (SpecificationRefers d) ss → ValueRefers d (value_of d c n ss x)
    value-of-refers ss r =
        unwrap-refers (value_in d (Some x) x.name ss) (given_value (default_value d c n x)) (value-in-refers (Some x) x.name ss r)
        (given-refers (default_value d c n x) (λ v h. default-refers x.default v refl h))
