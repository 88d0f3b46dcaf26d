-- The element types that empty tags have, and where NET is in force (7.4.1, 7.5.1).
use Rattle.std.specs.Prelude.{Bool, Option, Some, None, List, [], ◌∷◌, if◌then◌else◌}
use Rattle.std.specs.Option.{option_or}
use Rattle.std.specs.List.{list_any}
use Rattle.sgml_theory_reading.specs.Names.{Name}
use Rattle.sgml_theory_reading.specs.Context.{Level, Context}

abbrev pub first_type : List Level → Option Name
first_type [] = None
first_type (l ∷ ls) = Some l.element

-- the type that <> has, where `ended` is the type of the element that ended last: that of the
-- innermost open element where OMITTAG is YES, that of the last ended one where it is NO, and
-- the document type's where there is none (7.4.1.1)
unfoldable pub empty_start_type : Context → Option Name → Option Name
empty_start_type s ended = option_or (if s.doctype.syntax.omittag then first_type s.levels else ended) s.doctype.name

-- the type that </> has: that of the innermost open element (7.5.1.1)
unfoldable pub empty_end_type : Context → Option Name
empty_end_type s = first_type s.levels

-- NET is in force where some open element enabled it (7.4.1.3)
unfoldable pub net_in_force : Context → Bool
net_in_force s = list_any (λ (l : Level). l.slash) s.levels

abbrev pub first_enabling : List Level → Option Name
first_enabling [] = None
first_enabling (l ∷ ls) = if l.slash then Some l.element else first_enabling ls

-- the type of the element that NET ends: the innermost that enabled it (7.5.1.3)
unfoldable pub net_type : Context → Option Name
net_type s = first_enabling s.levels
