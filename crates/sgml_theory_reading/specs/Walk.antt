-- The longest run of omitted tags as it is found, one after another (7.3.1).
use Rattle.std.specs.Prelude.{ℕ, zero, suc, Bool, not, ◌&&◌, nat_lt, Option, Some, None, List, [], ◌∷◌, if◌then◌else◌}
use Rattle.std.specs.Option.{option_or}
use Rattle.sgml_dtd.specs.model.Term.{required}
use Rattle.sgml_theory_reading.specs.Names.{Name}
use Rattle.sgml_theory_reading.specs.Types.{type_of, content_of, is_declared, has_declared_content, has_required}
use Rattle.sgml_theory_reading.specs.Pieces.{Piece, Kind}
use Rattle.sgml_theory_reading.specs.Facets.{token}
use Rattle.sgml_theory_reading.specs.Context.{Level, Context, context_after}
use Rattle.sgml_theory_reading.specs.Omission.{left_of, is_excluded, finished, depth, leaves, misfits, omitted_end, omitted_start}
use Rattle.sgml_theory_reading.specs.Runs.{run_bound}

abbrev pub end_is_due : Context → Name → Kind → Bool
end_is_due s n x = s.doctype.syntax.omittag && (finished s && ((type_of s.doctype n).omits.end && leaves s x))

abbrev pub end_due : Context → List Level → Kind → Option Piece
end_due s [] x = None
end_due s (l ∷ ls) x = if end_is_due s l.element x then Some (omitted_end l.element) else None

abbrev pub start_is_due : Context → Name → Kind → Bool
start_is_due s n x =
    s.doctype.syntax.omittag
    && (misfits s (token x)
    && (not (finished s)
    && (is_declared s.doctype n
    && (not (is_excluded s (Some n))
    && ((type_of s.doctype n).omits.start
    && (not (has_required s.doctype n)
    && (not (has_declared_content (content_of (type_of s.doctype n)))
    && nat_lt (depth s) s.doctype.syntax.quantities.taglvl)))))))

abbrev pub start_due : Context → Option Name → Kind → Option Piece
start_due s None x = None
start_due s (Some n) x = if start_is_due s n x then Some (omitted_start n) else None

-- the omitted piece that may stand before x, where one may
unfoldable pub next_omitted : Context → Kind → Option Piece
next_omitted s x = option_or (end_due s s.levels x) (start_due s (required (left_of s)) x)

abbrev pub run_going_on : Option Piece → (Piece → List Piece) → List Piece
run_going_on None go_on = []
run_going_on (Some o) go_on = o ∷ go_on o

-- up to n of them
abbrev pub run_up_to : ℕ → Context → Kind → List Piece
run_up_to zero s x = []
run_up_to (suc n) s x = run_going_on (next_omitted s x) (λ o. run_up_to n (context_after o s) x)

-- the longest run before x
abbrev pub longest_run : Context → Kind → List Piece
longest_run s x = run_up_to (run_bound s x) s x
