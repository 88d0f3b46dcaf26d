-- Written tags enable no NET.
use Rattle.std.specs.Prelude.{◌≡◌, Bool, true, false, List, [], ◌∷◌}
use Rattle.std.specs.List.{list_any}
use Rattle.std.proofs.Common.{refl, ap, ◌∙◌}
use Rattle.std.proofs.lemmas.Bool.{or_from, or_parts}
use Rattle.sgml_theory_worked.specs.dtd.Doctypes.{Doctype}
use Rattle.sgml_theory_worked.specs.theory_reading.Names.{Name}
use Rattle.sgml_theory_worked.specs.theory_reading.Pieces.{Piece, Kind, Start, End, How}
use Rattle.sgml_theory_worked.specs.theory_reading.Facets.{Effect, Opens, Closes, Stays, effect, effect_of_start, is_slash}
use Rattle.sgml_theory_worked.specs.theory_reading.Context.{Level, Context, context_after, levels_with, levels_after}
use Rattle.sgml_theory_worked.specs.theory_reading.ShortTags.{net_in_force}
use Rattle.sgml_theory_written.specs.Written.{IsWritten, enables_net}

pub written-enable-none : (d : Doctype) (x y : Kind) → IsWritten d x y → enables_net y ≡ false
written-enable-none d (Start n ss how p a) y w = ap enables_net w.2
written-enable-none d (End n how) y w = ap enables_net w
written-enable-none d x y w = ap enables_net w

abbrev some_net : List Level → Bool
some_net ls = list_any (λ (l : Level). l.slash) ls

abbrev EnablesNone : Effect → Type 0
EnablesNone (Opens n slash) = slash ≡ false
EnablesNone e = Unit {0}

same-nets : (x : Kind) (ls : List Level) → some_net (levels_with x ls) ≡ some_net ls
same-nets x [] = refl
same-nets x (l ∷ ls) = refl

nets-after : (t : Doctype) (e : Effect) (x : Kind) (ls : List Level) → EnablesNone e → some_net ls ≡ false → some_net (levels_after t e x ls) ≡ false
nets-after t (Opens n slash) x ls f none = or_from slash (some_net (levels_with x ls)) f (same-nets x ls ∙ none)
nets-after t Closes x [] f none = refl
nets-after t Closes x (l ∷ ls) f none = (or_parts l.slash (some_net ls) none).1
nets-after t Stays x ls f none = same-nets x ls ∙ none

start-enables : (n : Name) (how : How) (at_once : Bool) → is_slash how ≡ false → EnablesNone (effect_of_start n how at_once)
start-enables n how true f = tt
start-enables n how false f = f

effect-enables : (x : Kind) → enables_net x ≡ false → EnablesNone (effect x)
unfolding effect
effect-enables (Start n ss how p a) f = start-enables n how a f
effect-enables x f = tt

pub net-stays-out : (c : Context) (p : Piece) → enables_net p.kind ≡ false → net_in_force c ≡ false → net_in_force (context_after p c) ≡ false
unfolding net_in_force context_after
net-stays-out c p f none = nets-after c.doctype (effect p.kind) p.kind c.levels (effect-enables p.kind f) none
