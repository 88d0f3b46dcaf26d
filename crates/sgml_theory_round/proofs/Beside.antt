-- At the beginning of the instance a state follows itself.
use Rattle.std.proofs.Common.{◌≡◌, Bool, false, List, [], map, sym, ap, ◌∙◌, subst}
use Rattle.sgml_conversion.specs.records.Facts.{Facts}
use Rattle.sgml_conversion.specs.dtd_maps.declared.uses.MapOf.{MapOf}
use Rattle.sgml_conversion.specs.dtd_maps.declared.uses.MapOf.TheVariants as map_of
use Rattle.sgml_conversion.specs.theory_reading.Nest.{without_first}
use Rattle.sgml_conversion.specs.theory_reading.Context.{Level, Context}
use Rattle.sgml_conversion.specs.theory_reading.State.{State}
use Rattle.sgml_conversion.specs.theory_reading.Characters.{facts_in}
use Rattle.sgml_theory_writable.specs.theory_written.Alike.{plain_level}
use Rattle.sgml_theory_writable.specs.sgml_theory_full.Named.{AllAre}
use Rattle.sgml_theory_writable.specs.sgml_theory_full.Conforming.{IsPlain}
use Rattle.sgml_theory_writable.specs.sgml_theory_full.Following.{waits, bared, LikeContexts, Follows, mode_of, AreReferring, IsReferring}
use Rattle.sgml_theory_prologs.specs.Prologs.{IsBeforeInstance}

none-are : {A : Type 0} (P : A → Type 0) (xs : List A) → xs ≡ [] → AllAre P xs
none-are P xs e = subst (AllAre P) (sym e) tt

none-behind : (P : Facts → Type 0) (fs : List Facts) → fs ≡ [] → AllAre P (without_first fs)
none-behind P fs e = subst (λ (gs : List Facts). AllAre P (without_first gs)) (sym e) tt

plain-before : (s : State) → IsBeforeInstance s → IsPlain s
plain-before s b = record {
  over = b.over;
  no_section = b.no_section;
  no_net = none-are (λ (l : Level). l.slash ≡ false) s.context.levels b.no_element;
  no_setting = none-are (λ (m : MapOf). m ≡ map_of.Parent) s.map_settings b.no_setting;
  none_waits = none-are (λ (f : Facts). f.waiting ≡ false) s.record_ends b.none_waits;
}

waits-not : (s : State) → s.record_ends ≡ [] → waits s ≡ false
waits-not s e = ap (λ (fs : List Facts). (facts_in fs).waiting) e

bare-before : (c : Context) → c.levels ≡ [] → c.inferred ≡ false → c ≡ bared c
bare-before c e f =
    let levels : c.levels ≡ map plain_level c.levels = e ∙ sym (ap (map plain_level) e) in
    λ i. record { doctype = c.doctype; levels = levels i; begun = c.begun; inferred = f i }

pub follows-itself : (s : State) → IsBeforeInstance s → Follows s s
follows-itself s b = record {
  plain = plain-before s b;
  quiet = none-behind (λ (f : Facts). f.waiting ≡ false) s.record_ends b.none_waits;
  like = subst (λ (w : Bool). LikeContexts w s s) (sym (waits-not s b.none_waits)) (bare-before s.context b.no_element b.none_inferred);
}

pub refers-before : (c : Context) → c.levels ≡ [] → IsReferring c
refers-before c e = subst (λ (ls : List Level). AreReferring (map (mode_of c.doctype) ls)) (sym e) tt
