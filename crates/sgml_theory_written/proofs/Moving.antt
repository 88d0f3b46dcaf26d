-- The pieces of moves, each written, stand one after another.
use Rattle.std.specs.Prelude.{List, [], ◌∷◌, ◌++◌, map}
use Rattle.std.proofs.Common.{subst}
use Rattle.sgml_theory_worked.specs.dtd.Doctypes.{Doctype}
use Rattle.sgml_theory_worked.specs.theory_reading.Pieces.{Piece, Kind}
use Rattle.sgml_theory_worked.specs.theory_reading.Context.{Context, context_after}
use Rattle.sgml_theory_worked.specs.theory_reading.Omission.{MayStand}
use Rattle.sgml_theory_worked.specs.theory_reading.Runs.{LongestRunFrom, context_after_run}
use Rattle.sgml_theory_worked.specs.theory_reading.Reads.{Move, judged, pieces}
use Rattle.sgml_theory_written.specs.Written.{written, IsWritten}
use Rattle.sgml_theory_written.specs.Alike.{Alike}
use Rattle.sgml_theory_written.specs.Standing.{StandsBy, StandBy, StandAlone, AreWritten, context_moved}
use Rattle.sgml_theory_written.specs.Laws.{StandsFor}
use Rattle.sgml_theory_written.proofs.Serving.{alike-serves}
use Rattle.sgml_theory_written.proofs.Tags.{omitted-is-written, visible-is-written, stands-alone, omitted-stood, visible-stood, alike-keeps, place}
use Rattle.sgml_theory_written.proofs.Steps.{written-same, alike-after}

pub omitted-written : (c d : Context) (o q : Piece) (x : Kind) → MayStand c o x → Alike c d → IsWritten c.doctype o.kind q.kind → StandsFor c d o q
omitted-written c d o q x m a w = record {
  stands = stands-alone d q (omitted-stood c d o q.kind x m (alike-serves c d a) w);
  alike = alike-after o q c d (written-same c.doctype o.kind q.kind w) a;
}

pub visible-written : (c d : Context) (x : Kind) (m : Move) (q : Piece) → StandsBy c x m → Alike (context_after_run c m.omitted) d → IsWritten d.doctype m.visible.kind q.kind → StandsFor (context_after_run c m.omitted) d m.visible q
visible-written c d x m q s a w =
    let e = context_after_run c m.omitted in
    let v : IsWritten d.doctype (judged e x) q.kind = subst (λ (k : Kind). IsWritten d.doctype k q.kind) s.noted w in
    record {
      stands = stands-alone d q (visible-stood e d x q.kind (place c x m s) (alike-serves e d a) (alike-keeps e d x a) v);
      alike = alike-after m.visible q e d (written-same d.doctype m.visible.kind q.kind w) a;
    }

abbrev Comes : Context → Context → List Piece → List Piece → Type 0
Comes c d ps qs = StandAlone d qs × Alike (context_after_run c ps) (context_after_run d qs)

-- what comes of the rest, wherever contexts are alike
abbrev Rest : Context → List Piece → Type 0
Rest c ps = (d : Context) (qs : List Piece) → Alike c d → AreWritten c ps qs → Comes c d ps qs

run-comes : (c d : Context) (x : Kind) (os ps qs : List Piece) → LongestRunFrom c x os → Alike c d → AreWritten c (os ++ ps) qs → Rest (context_after_run c os) ps → Comes c d (os ++ ps) qs
run-comes c d x [] ps qs r a w rest = rest d qs a w
run-comes c d x (o ∷ os) ps [] r a w rest = absurd w
run-comes c d x (o ∷ os) ps (q ∷ qs) r a w rest =
    let one = omitted-written c d o q x r.0 a w.0 in
    let more = run-comes (context_after o c) (context_after q d) x os ps qs r.1 one.alike w.1 rest in
    ((one.stands, more.0), more.1)

visible-comes : (c : Context) (x : Kind) (m : Move) (ps : List Piece) → StandsBy c x m → Rest (context_moved c m) ps → Rest (context_after_run c m.omitted) (m.visible ∷ ps)
visible-comes c x m ps s rest d [] a w = absurd w
visible-comes c x m ps s rest d (q ∷ qs) a w =
    let v : IsWritten d.doctype m.visible.kind q.kind = subst (λ (t : Doctype). IsWritten t m.visible.kind q.kind) a.doctypes w.0 in
    let one = visible-written c d x m q s a v in
    let more = rest (context_after q d) qs one.alike w.1 in
    ((one.stands, more.0), more.1)

-- the context after the pieces of a move, and after more
pub moves-comes : (c : Context) (ms : List Move) → StandBy c ms → Rest c (pieces ms)
moves-comes c [] s d [] a w = (tt, a)
moves-comes c [] s d (q ∷ qs) a w = absurd w
moves-comes c (m ∷ ms) s d qs a w =
    run-comes c d s.0 m.omitted (m.visible ∷ pieces ms) qs s.1.longest a w
    (visible-comes c s.0 m (pieces ms) s.1 (moves-comes (context_moved c m) ms s.2))

pub moves-written : (c d : Context) (ms : List Move) (qs : List Piece) → StandBy c ms → Alike c d → AreWritten c (pieces ms) qs → Comes c d (pieces ms) qs
moves-written c d ms qs s a w = moves-comes c ms s d qs a w

-- with the attributes that are specified in them
run-is-written : (c : Context) (x : Kind) (os ps : List Piece) → LongestRunFrom c x os → AreWritten (context_after_run c os) ps (map written ps) → AreWritten c (os ++ ps) (map written (os ++ ps))
run-is-written c x [] ps r w = w
run-is-written c x (o ∷ os) ps r w = (omitted-is-written c o x r.0, run-is-written (context_after o c) x os ps r.1 w)

pub moves-are-written : (c : Context) (ms : List Move) → StandBy c ms → AreWritten c (pieces ms) (map written (pieces ms))
moves-are-written c [] s = tt
moves-are-written c (m ∷ ms) s =
    run-is-written c s.0 m.omitted (m.visible ∷ pieces ms) s.1.longest
    (visible-is-written c s.0 m s.1, moves-are-written (context_moved c m) ms s.2)
