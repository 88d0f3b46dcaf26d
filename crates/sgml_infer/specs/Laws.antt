-- How an accepted start is that which is judged where it stands.
use Rattle.std.specs.Prelude.{◌≡◌, ℕ, Bool, true, false, Some, List}
use Rattle.sgml_theory_reading.specs.Names.{Name}
use Rattle.sgml_theory_reading.specs.Types.{type_of, content_of}
use Rattle.sgml_theory_reading.specs.Pieces.{Kind, Start, How, Specification}
use Rattle.sgml_theory_reading.specs.Facets.{is_start}
use Rattle.sgml_theory_reading.specs.Context.{Context, context_after}
use Rattle.sgml_theory_reading.specs.Characters.{is_void, ends_at_once}
use Rattle.sgml_theory_reading.specs.Reads.{judged, is_proper_in}
use Rattle.sgml_infer.specs.Visibles.{plain, accepted, start_of}

-- a start without NET in which no attribute is specified that stands for the content
abbrev pub AcceptedIsJudged : Type 0
AcceptedIsJudged =
    (s : Context) (n : Name) (specifications : List Specification) (how : How) (proper at_once : Bool) →
    ends_at_once s.doctype n specifications ≡ is_void (content_of (type_of s.doctype n)) →
    judged s (Start n specifications (plain how) proper at_once) ≡ accepted s (Start n specifications how proper at_once)

-- a start that enables NET, after that
abbrev pub EnabledIsJudged : Type 0
EnabledIsJudged =
    (s : Context) (n : Name) (specifications : List Specification) (how : How) (proper at_once ends : Bool) →
    ends_at_once s.doctype n specifications ≡ ends →
    judged s (Start n specifications how proper at_once) ≡ Start n specifications how (is_proper_in s s.levels (Some n)) ends

-- each other piece
abbrev pub OthersAreJudged : Type 0
OthersAreJudged = (s : Context) (k : Kind) → is_start k ≡ false → judged s k ≡ accepted s k

-- one that ends at once changes the open elements alike with NET and without it
abbrev pub PlainAtOnce : Type 0
PlainAtOnce =
    (c : Context) (n : Name) (specifications : List Specification) (how : How) (proper : Bool) (size spent : ℕ) →
    context_after (start_of n specifications how proper true size spent) c
    ≡ context_after (start_of n specifications (plain how) proper true size spent) c
