-- What is told of an answer to a specification.
use Rattle.std.proofs.Common.{◌≡◌, Bool, List, Option, None, Some, Result, Ok, Err, refl, sym, ap, ◌∙◌, subst}
use Rattle.std.specs.Prelude.{IfOk, IfErr, OnOk}
use Rattle.sgml_text.specs.Refusals.{first_row}
use Rattle.sgml_text.specs.declared.reason.Reason.{Reason}
use Rattle.sgml_text.specs.declared.unit.Unit.{Unit as AnyUnit}
use Rattle.sgml_syntax.specs.declared.syntax.Syntax.{Syntax}
use Rattle.sgml_entity.specs.Entities.{Tables}
use Rattle.sgml_attr.specs.declared.definition.Definition.{Definition}
use Rattle.sgml_attr.specs.declared.error.AttrError.{AttrError}
use Rattle.sgml_attr.specs.declared.value.AttrValue.{AttrValue}
use Rattle.sgml_attr.specs.Values.{value}
use Rattle.sgml_attr.specs.Answers.{IsOrMemory}
use Rattle.sgml_starts.specs.declared.error.StartError.{StartError}
use Rattle.sgml_starts.specs.declared.error.StartError.TheVariants as error
use Rattle.sgml_starts.specs.Rows.{passes_litlen, ranked, rows}
use Rattle.sgml_starts.specs.Told.{told_among, unless_refused, answered}
use Rattle.sgml_starts.specs.Values.{refused}
use Rattle.sgml_starts.specs.Starts.{IsUnvalued}
use Rattle.sgml_starts.proofs.Ranked.{ranked-by, rows-are-ranked, among-is}

-- of a specification that is read so
pub record IsJudged (s : Syntax) (d : Definition) (t : Tables) (twice : Bool) (u : List AnyUnit) (r : Result AttrValue StartError) : Type 0 where
  pub none : OnOk r (first_row (rows s d t twice u) ≡ None)
  pub ok : IfOk r (λ v. value s d t None (Some u) ≡ Ok v)
  pub err : IfErr r (IsUnvalued (refused (first_row (rows s d t twice u))))

module _ (s : Syntax) (d : Definition) (t : Tables) (twice : Bool) (u : List AnyUnit) where
  unless-judged : (v : AttrValue) → value s d t None (Some u) ≡ Ok v → (o : Option Reason) → first_row (rows s d t twice u) ≡ o → IsJudged s d t twice u (unless_refused o v)
  unless-judged v is None none = record { none = none; ok = is; err = tt }
  unless-judged v is (Some r) some = record { none = tt; ok = tt; err = ap refused some }

  pub is-judged : (a : Result AttrValue AttrError) → IsOrMemory (value s d t None (Some u)) a → IsJudged s d t twice u (answered (passes_litlen s u) twice a)
  is-judged (Ok v) h =
      unless-judged v (sym h) (ranked (passes_litlen s u) twice None) (ranked-by s d t twice u (Ok v) (sym h))
  is-judged (Err e) h = record {
    none = tt;
    ok = tt;
    err = subst (λ (o : Option Reason). IsUnvalued (refused o) (told_among (passes_litlen s u) twice e)) (sym (rows-are-ranked s d t twice u))
        (among-is (passes_litlen s u) twice e (value s d t None (Some u)) h);
  }

-- the same where the answer is told
pub judged-so : (s : Syntax) (d : Definition) (t : Tables) (twice : Bool) (read u : List AnyUnit) (long : Bool) (a : Result AttrValue AttrError) (r : Result AttrValue StartError)
    → read ≡ u → long ≡ passes_litlen s u → IsOrMemory (value s d t None (Some u)) a → r ≡ answered long twice a → IsJudged s d t twice read r
judged-so s d t twice read u long a r same is h told =
    subst (λ (x : List AnyUnit). IsJudged s d t twice x r) (sym same)
    (subst (IsJudged s d t twice u) (ap (λ (b : Bool). answered b twice a) (sym is) ∙ sym told) (is-judged s d t twice u a h))
