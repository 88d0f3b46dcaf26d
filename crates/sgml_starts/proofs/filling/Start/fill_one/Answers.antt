use Rattle.std.proofs.Common.{◌≡◌, ◌∙◌, sym, ap, subst, refl, Option, false, length-set}
use Rattle.sgml_text.specs.declared.reason.Reason.{Reason}
use Rattle.sgml_starts.specs.Values.{is_specified, refused}
use Rattle.sgml_starts.specs.Starts.{IsUnvalued}
use Rattle.sgml_starts.proofs.Completed.{flag-at, fill-in, unspecified-reason}
use Rattle.sgml_starts.proofs.filling.Start.fill_one.Goals as goal

pub returns-in-Ok-clause-ok : goal.returns-in-Ok-clause-ok
returns-in-Ok-clause-ok c = λ ss x here h.
    let S = c.args.self.now in
    let f = c.args.filled.now in
    let n = c.args.number in
    let unspecified : is_specified S ss n ≡ false = flag-at S ss n f f x here h c.has.result c.has.ensures ∙ c.if-has.false in
    fill-in S ss n f _ x here h c.in-Ok.value refl refl (length-set f.values.items n c.in-Ok.value) (c.in-Ok.ensures.ok ss x here unspecified)

pub returns-in-Err-clause-err : goal.returns-in-Err-clause-err
returns-in-Err-clause-err c = λ ss x here h.
    let S = c.args.self.now in
    let f = c.args.filled.now in
    let n = c.args.number in
    let unspecified : is_specified S ss n ≡ false = flag-at S ss n f f x here h c.has.result c.has.ensures ∙ c.if-has.false in
    subst (λ (o : Option Reason). IsUnvalued (refused o) c.in-Err.error) (sym (unspecified-reason S ss n f f x here h unspecified)) (c.in-Err.ensures.err ss x here unspecified)
