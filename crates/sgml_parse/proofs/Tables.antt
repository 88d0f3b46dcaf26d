-- The tables and the sources that a parser keeps are those of what was read.
use Rattle.std.proofs.Common.{◌≡◌, Bool, true, false, ℕ, List, Some, ap, subst}
use Rattle.sgml_declared.specs.theory_reading.Names.{Text}
use Rattle.sgml_declared.specs.theory_reading.Pieces.{History}
use Rattle.sgml_declared.specs.theory_reading.Nest.{types}
use Rattle.sgml_declared.specs.theory_reading.Unread.{Input, Sources}
use Rattle.sgml_declared.specs.theory_reading.Events.{Event as Said}
use Rattle.sgml_declared.specs.theory_standing.Kept.{Kept, Stands}
use Rattle.sgml_instance.specs.content_steps.Content.{Content}
use Rattle.sgml_instance.specs.Reading.{KeepsUp, KeepsSources}
use Rattle.sgml_parse.specs.There.{Reading}
use Rattle.sgml_parse.specs.There as reading
use Rattle.sgml_parse.specs.Locating.{HasSources}
use Rattle.sgml_parse.specs.Parsing.{Reads, doctype_in, kept_in}

pub stands-sources : (k : Kept) (ts : List (ℕ × Text)) (I : Input) (more : Text) (h : History) → Stands k ts I more h → KeepsSources k ts I h
stands-sources k ts I more h s = record {
  sources_are = λ i. record { doctype = s.doctype_is i; subset = s.subset_is i };
  supplied = s.supplied;
}

keeps-sources : (over : Bool) (x : Content) (ts : List (ℕ × Text)) (I : Input) (more : Text) (h : History) → KeepsUp over x ts I more h → KeepsSources x.kept ts I h
keeps-sources true x ts I more h k = k.1
keeps-sources false x ts I more h k = subst (λ (z : Kept). KeepsSources z ts I h) k.1.kept (stands-sources k.0.kept ts I more h k.2.stands)

pub reads-sources : (there : Reading) (ts : List (ℕ × Text)) (ended : Bool) (I : Input) (more : Text) (h : History) (told : List Said) → Reads there ts ended I more h told → HasSources there ts I h
reads-sources (reading.Prolog r) ts ended I more h told x = stands-sources r.kept ts I more h x.0.stands
reads-sources (reading.Instance r) ts ended I more h told x = keeps-sources r.over r.content ts I more h x.keeps
reads-sources reading.Lost ts ended I more h told x = absurd x

pub sources-tables : (there : Reading) (ts : List (ℕ × Text)) (I : Input) (h : History) → HasSources there ts I h → doctype_in there ≡ types h
sources-tables (reading.Prolog r) ts I h s = ap (λ (z : Sources). z.doctype) s.sources_are
sources-tables (reading.Instance r) ts I h s = ap (λ (z : Sources). z.doctype) s.sources_are
sources-tables reading.Lost ts I h s = absurd s

pub reads-tables : (there : Reading) (ts : List (ℕ × Text)) (ended : Bool) (I : Input) (more : Text) (h : History) (told : List Said) → Reads there ts ended I more h told → doctype_in there ≡ types h
reads-tables there ts ended I more h told x = sources-tables there ts I h (reads-sources there ts ended I more h told x)

-- of what is kept there
some-is : {A : Type 0} (x y : A) → Some x ≡ Some y → x ≡ y
some-is x y e = cc

pub sources-kept : (there : Reading) (k : Kept) (ts : List (ℕ × Text)) (I : Input) (h : History) → kept_in there ≡ Some k → HasSources there ts I h → KeepsSources k ts I h
sources-kept (reading.Prolog r) k ts I h e s = subst (λ (z : Kept). KeepsSources z ts I h) (some-is r.kept k e) s
sources-kept (reading.Instance r) k ts I h e s = subst (λ (z : Kept). KeepsSources z ts I h) (some-is r.content.kept k e) s
sources-kept reading.Lost k ts I h e s = absurd s
