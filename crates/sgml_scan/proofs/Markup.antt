-- What markup is as a token.
use Rattle.std.proofs.Common.{◌≡◌, ℕ, ◌+◌, Bool, List, Option, None, Some, take, refl, sym, ap}
use Rattle.sgml_syntax.specs.declared.syntax.Syntax.{Syntax}
use Rattle.sgml_markup.specs.declared.kinds.Form.{Form}
use Rattle.sgml_markup.specs.declared.kinds.Markup.{Markup}
use Rattle.sgml_markup.specs.Forms.{before, judged}
use Rattle.sgml_markup.specs.Markup.{ended_markup}
use Rattle.sgml_scan.specs.Tokens.{closed, open_ended, of_judged}

some-is : (p q : Markup) → Some p ≡ Some q → p ≡ q
some-is p q e = cc

none-some : {A : Type 0} (p : Markup) → None ≡ Some p → A
none-some p e = absurd (none-is-not-some e)
  where
    none-is-not-some : None ≡ Some p → ⊥
    none-is-not-some e = cc

pub closed-none : (s : Syntax) (ended : Bool) (bytes : List ℕ) (f : Form) (o : Option ℕ) → ended_markup s f bytes o ≡ None
    → closed s ended bytes f o ≡ open_ended ended bytes
closed-none s ended bytes f None e = refl
closed-none s ended bytes f (Some n) e =
    none-some (record { length = before f + n; judged = judged s f (take (before f + n) bytes) }) (sym e)

pub closed-some : (s : Syntax) (ended : Bool) (bytes : List ℕ) (f : Form) (o : Option ℕ) (p : Markup) → ended_markup s f bytes o ≡ Some p
    → closed s ended bytes f o ≡ of_judged p.length p.judged
closed-some s ended bytes f None p e = none-some p e
closed-some s ended bytes f (Some n) p e =
    ap (λ q. of_judged q.length q.judged)
    (some-is (record { length = before f + n; judged = judged s f (take (before f + n) bytes) }) p e)
