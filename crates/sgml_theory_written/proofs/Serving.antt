-- What a context has to have of another one, so that what stands there stands in it, written.
use Rattle.std.specs.Prelude.{◌≡◌, ℕ, ◌<◌, true}
use Rattle.std.proofs.Common.{sym, ◌∙◌, subst}
use Rattle.sgml_theory_worked.specs.dtd.Doctypes.{Doctype}
use Rattle.sgml_theory_worked.specs.theory_reading.Names.{Name}
use Rattle.sgml_theory_worked.specs.theory_reading.Facets.{Token}
use Rattle.sgml_theory_worked.specs.theory_reading.Context.{Context}
use Rattle.sgml_theory_worked.specs.theory_reading.Omission.{allowed, finished, depth}
use Rattle.sgml_theory_written.specs.Alike.{Alike}
use Rattle.sgml_theory_written.proofs.Plain.{by-plain, allowed-plain, finished-plain, depth-plain, proper-plain, is_proper, inside_of, inside-plain}

pub record Serves (c d : Context) : Type 0 where
  pub doctypes : c.doctype ≡ d.doctype
  pub begun : c.begun ≡ d.begun
  pub depths : depth c ≡ depth d
  pub insides : (n : Name) → inside_of n c ≡ inside_of n d
  pub allows : (k : Token) → allowed c k ≡ true → allowed d k ≡ true
  pub propers : (k : Token) → is_proper k c ≡ true → is_proper k d ≡ true
  pub finishes : finished c ≡ true → finished d ≡ true

pub proper-alike : (c d : Context) (k : Token) → Alike c d → is_proper k c ≡ is_proper k d
proper-alike c d k a = by-plain (is_proper k) (proper-plain k) c d a

pub alike-serves : (c d : Context) → Alike c d → Serves c d
alike-serves c d a = record {
  doctypes = a.doctypes;
  begun = a.begun;
  depths = by-plain (λ s. depth s) depth-plain c d a;
  insides = λ n. by-plain (inside_of n) (inside-plain n) c d a;
  allows = λ k e. sym (by-plain (λ s. allowed s k) (allowed-plain k) c d a) ∙ e;
  propers = λ k e. sym (proper-alike c d k a) ∙ e;
  finishes = λ e. sym (by-plain finished finished-plain c d a) ∙ e;
}

-- fewer than TAGLVL elements are open
abbrev pub Room : Context → Type 0
Room s = depth s < s.doctype.syntax.quantities.taglvl

pub room-serves : (c d : Context) → Serves c d → Room c → Room d
room-serves c d s h =
    subst (λ (e : Doctype). depth d < e.syntax.quantities.taglvl) s.doctypes
    (subst (λ (n : ℕ). n < c.doctype.syntax.quantities.taglvl) s.depths h)
