-- After a piece, and after what is written for it, contexts are alike.
use Rattle.std.specs.Prelude.{◌≡◌, Bool, true, false, ◌||◌, List, [], ◌∷◌}
use Rattle.std.proofs.Common.{refl, sym, ap, ◌∙◌, subst}
use Rattle.sgml_theory_worked.specs.dtd.Doctypes.{Doctype}
use Rattle.sgml_theory_worked.specs.theory_reading.Names.{Name}
use Rattle.sgml_theory_worked.specs.theory_reading.Pieces.{Piece, Kind, Start, End, How, Tag}
use Rattle.sgml_theory_worked.specs.theory_reading.Facets.{Effect, Opens, Closes, Stays, effect, effect_of_start, token, is_start, declares}
use Rattle.sgml_theory_worked.specs.theory_reading.Context.{Level, Context, context_after, levels_with, levels_after, begun_level, token_taken}
use Rattle.sgml_theory_written.specs.Written.{IsWritten}
use Rattle.sgml_theory_written.specs.Alike.{Alike}
use Rattle.sgml_theory_written.proofs.Plain.{plains, context_of, plain, alike-plain, alike-from}

-- with no NET
abbrev pub plain_effect : Effect → Effect
plain_effect (Opens n slash) = Opens n false
plain_effect Closes = Closes
plain_effect Stays = Stays

levels-with-plain : (x : Kind) (ls : List Level) → plains (levels_with x ls) ≡ levels_with x (plains ls)
levels-with-plain x [] = refl
levels-with-plain x (l ∷ ls) = refl

levels-after-plain : (d : Doctype) (e : Effect) (x : Kind) (ls : List Level) → plains (levels_after d e x ls) ≡ levels_after d (plain_effect e) x (plains ls)
levels-after-plain d (Opens n slash) x ls = ap (λ (ks : List Level). begun_level d n false ∷ ks) (levels-with-plain x ls)
levels-after-plain d Closes x [] = refl
levels-after-plain d Closes x (l ∷ ls) = refl
levels-after-plain d Stays x ls = levels-with-plain x ls

pub with-token : (x y : Kind) (ls : List Level) → token x ≡ token y → levels_with x ls ≡ levels_with y ls
with-token x y [] e = refl
with-token x y (l ∷ ls) e = λ i. record { element = l.element; left = token_taken (e i) l.left; slash = l.slash } ∷ ls

after-token : (d : Doctype) (e : Effect) (x y : Kind) (ls : List Level) → token x ≡ token y → levels_after d e x ls ≡ levels_after d e y ls
after-token d (Opens n slash) x y ls t = ap (λ (ks : List Level). begun_level d n slash ∷ ks) (with-token x y ls t)
after-token d Closes x y ls t = refl
after-token d Stays x y ls t = with-token x y ls t

-- two kinds that do the same to what is open
pub record Same (x y : Kind) : Type 0 where
  pub tokens : token x ≡ token y
  pub effects : plain_effect (effect x) ≡ plain_effect (effect y)
  pub starts : is_start x ≡ is_start y
  pub declare : (d : Doctype) → declares x d ≡ declares y d

abbrev stepped : Kind → Context → Context
stepped x s =
    context_of (declares x s.doctype) (levels_after s.doctype (plain_effect (effect x)) x s.levels) (is_start x || s.begun) false

after-plain : (p : Piece) (s : Context) → plain (context_after p s) ≡ stepped p.kind (plain s)
unfolding context_after
after-plain p s =
    ap (λ (ls : List Level). context_of (declares p.kind s.doctype) ls (is_start p.kind || s.begun) false)
    (levels-after-plain s.doctype (effect p.kind) p.kind s.levels)

stepped-same : (x y : Kind) (s : Context) → Same x y → stepped x s ≡ stepped y s
stepped-same x y s m =
    let e = ap (λ (f : Effect). levels_after s.doctype f x s.levels) m.effects ∙ after-token s.doctype (plain_effect (effect y)) x y s.levels m.tokens in
    λ i. context_of (m.declare s.doctype i) (e i) (m.starts i || s.begun) false

pub alike-after : (p q : Piece) (c d : Context) → Same p.kind q.kind → Alike c d → Alike (context_after p c) (context_after q d)
alike-after p q c d m a =
    alike-from (context_after p c) (context_after q d)
    (after-plain p c ∙ (ap (stepped p.kind) (alike-plain c d a) ∙ (stepped-same p.kind q.kind (plain d) m ∙ sym (after-plain q d))))

same-kind : (x : Kind) → Same x x
same-kind x = record { tokens = refl; effects = refl; starts = refl; declare = λ d. refl }

begun-same : (n : Name) (how : How) (at_once : Bool) → plain_effect (effect_of_start n how at_once) ≡ plain_effect (effect_of_start n Tag at_once)
begun-same n how true = refl
begun-same n how false = refl

pub written-same : (d : Doctype) (x y : Kind) → IsWritten d x y → Same x y
unfolding token effect is_start declares
written-same d (Start n ss how proper at_once) y w =
    subst (λ (z : Kind). Same (Start n ss how proper at_once) z) (sym w.2)
    (record { tokens = refl; effects = begun-same n how at_once; starts = refl; declare = λ e. refl })
written-same d (End n how) y w =
    subst (λ (z : Kind). Same (End n how) z) (sym w) (record { tokens = refl; effects = refl; starts = refl; declare = λ e. refl })
written-same d x y w = subst (λ (z : Kind). Same x z) (sym w) (same-kind x)
