-- The lines of what was read are those of a parser's events, and what a writer of them has put is a front.
use Rattle.std.proofs.Common.{◌≡◌, ℕ, Bool, true, false, List, ◌++◌, Option, refl, sym, ap, ◌∙◌, subst, append_assoc}
use Rattle.sgml_io.specs.Writes.{AppendsFront, Front-first}
use Rattle.sgml_event_lines.specs.esis.Spelling.{spell_lines}
use Rattle.sgml_event_lines.specs.esis.Writing.{Wrote}
use Rattle.sgml_said.specs.Told.{all_said}
use Rattle.sgml_said.specs.theory_reading.Pieces.{History}
use Rattle.sgml_said.specs.theory_reading.Nest.{types}
use Rattle.sgml_said.specs.theory_reading.Events.{Event as Said, events}
use Rattle.sgml_said.specs.theory_reading.Lines.{Line, lines, lines_of, appinfo_lines, conforming_lines}
use Rattle.sgml_theory_ending.specs.theory_spelling.Spelled.{forms}
use Rattle.sgml_event_lines.specs.Shown.{all_shown}
use Rattle.sgml_event_lines.specs.Lines.{lines_said}
use Rattle.sgml_event_lines.specs.Spelled.{spelled, closing, all_added, opened}
use Rattle.sgml_event_lines.specs.Standing.{nothing_open}
use Rattle.sgml_event_lines.proofs.Joining.{all_added_append}
use Rattle.sgml_event_lines.proofs.Standing.{lines_append, all_spelled}
use Rattle.sgml_conversion.specs.Lines.{bytes_of, conforms, LinesAreThoseOfEvents, PutIsFront}

pub lines-said : (h : History) → lines forms h ≡ lines_said (types h) (events forms h) (conforms h)
unfolding lines
lines-said h = refl

pub said-bytes : (h : History) → bytes_of h ≡ spell_lines (all_shown (lines_said (types h) (events forms h) (conforms h)))
said-bytes h = ap (λ (ls : List Line). spell_lines (all_shown ls)) (lines-said h)

pub lines-are-those-of-events : LinesAreThoseOfEvents
lines-are-those-of-events h es e =
    said-bytes h ∙ ap (λ (z : List Said). spell_lines (all_shown (lines_said (types h) z (conforms h)))) e

-- WHAT WAS PUT is a front of the lines of what was told and of whatever comes
wrote-front : (failed : Bool) (start taken : Option (List ℕ)) (held bytes : List ℕ) → Wrote failed start taken held bytes → AppendsFront start taken bytes
wrote-front false start taken held bytes w = (w.0, held, sym w.2, w.1)
wrote-front true start taken held bytes w = w

pub put-is-front : PutIsFront
put-is-front start count taken faults w d es s = λ more conforming.
    let head = spelled (appinfo_lines d.syntax.appinfo) in
    let ls = lines_of d (all_said d es) in
    let ms = lines_of d more in
    let all : lines_of d (all_said d es ++ more) ≡ ls ++ ms = lines_append d (all_said d es) more in
    let last = closing (opened d nothing_open (lines_of d (all_said d es ++ more))).within ++ spelled (conforming_lines conforming) in
    let front : AppendsFront start taken ((s.bytes ++ spelled (appinfo_lines w.head)) ++ (all_added d (opened d nothing_open ls) ms ++ last)) =
    Front-first start taken _ (all_added d (opened d nothing_open ls) ms ++ last)
    (Front-first start taken s.bytes (spelled (appinfo_lines w.head)) (wrote-front w.pen.held.1 start taken w.pen.held.0 s.bytes s.stands.wrote)) in
    let whole : (s.bytes ++ spelled (appinfo_lines w.head)) ++ (all_added d (opened d nothing_open ls) ms ++ last) ≡ spell_lines (all_shown (lines_said d (all_said d es ++ more) conforming)) =
    ap (λ b. b ++ (all_added d (opened d nothing_open ls) ms ++ last)) s.added
    ∙ sym (append_assoc (head ++ all_added d nothing_open ls) (all_added d (opened d nothing_open ls) ms) last)
    ∙ ap (λ b. b ++ last) (append_assoc head (all_added d nothing_open ls) (all_added d (opened d nothing_open ls) ms)
    ∙ ap (λ b. head ++ b) (sym (all_added_append d nothing_open ls ms) ∙ ap (all_added d nothing_open) (sym all)))
    ∙ all_spelled d (all_said d es ++ more) conforming in
    subst (AppendsFront start taken) whole front
