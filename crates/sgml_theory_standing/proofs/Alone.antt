-- A piece that is no content and no tag stands by itself.
use Rattle.std.specs.Prelude.{◌≡◌, ◌&&◌, ◌||◌, Bool, true, false, Option, Some, None, is_none, List, [], ◌∷◌}
use Rattle.std.specs.Option.{option_or}
use Rattle.std.proofs.Common.{refl, sym, ap, ◌∙◌, inl, inr}
use Rattle.sgml_theory_spelling.proofs.scan.Runs.{apart}
use Rattle.sgml_theory_spelling.specs.theory_reading.Pieces.{Piece, Kind, Start, End, Finish}
use Rattle.sgml_theory_spelling.specs.theory_reading.Facets.{Token, Stays, token, effect, is_start, is_finish, ended_type, specified}
use Rattle.sgml_theory_spelling.specs.theory_reading.Context.{Level, token_taken, levels_with, levels_after, context_after}
use Rattle.sgml_theory_spelling.specs.theory_reading.Omission.{leaves, leaves_as, misfits, NoneMayStand}
use Rattle.sgml_theory_spelling.specs.theory_reading.Reasons.{reason, reason_by_token}
use Rattle.sgml_theory_spelling.specs.theory_reading.Currents.{given}
use Rattle.sgml_theory_spelling.specs.theory_reading.Maps.{settings_after}
use Rattle.sgml_theory_spelling.specs.theory_reading.State.{State, ends_after, after_piece}
use Rattle.sgml_theory_spelling.specs.theory_reading.Reads.{judged, undefined}
use Rattle.sgml_theory_spelling.specs.Attributes.{unvalued}
use Rattle.sgml_theory_standing.specs.Next.{after}
use Rattle.sgml_theory_standing.specs.Moves.{stands_alone, reason_against}
use Rattle.sgml_theory_standing.specs.ContentLaws.{AloneMoves, AloneKeeps}

both : (a b : Bool) → (a && b) ≡ true → (a ≡ true) × (b ≡ true)
both true b e = (refl, e)
both false b e = apart false e refl

no-token : (t : Option Token) → is_none t ≡ true → t ≡ None
no-token None e = refl
no-token (Some k) e = apart false e refl

-- it is no start, no end and not the end of the document
record IsNoTag (s : State) (x : Kind) : Type 0 where
  leaves_none : leaves_as s.context x None ≡ false
  no_reason : reason_by_token s.context x None ≡ None
  no_name : undefined s.context x ≡ None
  no_values : unvalued s x ≡ None
  as_judged : judged s.context x ≡ x

no-tag : (s : State) (x : Kind) → stands_alone x ≡ true → IsNoTag s x
unfolding token effect is_finish unvalued
no-tag s (Start n specifications how proper at_once) e = apart false e refl
no-tag s (End n how) e = apart false e refl
no-tag s Finish e = apart false e refl
no-tag s _ e = record { leaves_none = refl; no_reason = refl; no_name = refl; no_values = refl; as_judged = refl }

no-content : (x : Kind) → stands_alone x ≡ true → token x ≡ None
no-content x e = no-token (token x) (both (is_none (token x)) _ e).0

none-may-stand : (s : State) (x : Kind) → stands_alone x ≡ true → NoneMayStand s.context x
unfolding leaves
none-may-stand s x e o (inl m) =
    apart (leaves s.context x) m.2.before (ap (λ t. leaves_as s.context x t) (no-content x e) ∙ (no-tag s x e).leaves_none)
none-may-stand s x e o (inr m) = apart (misfits s.context (token x)) m.2.before (ap (misfits s.context) (no-content x e))

unopposed : (s : State) (p : Piece) → stands_alone p.kind ≡ true → reason_against s [] p ≡ None
unfolding reason
unopposed s p e =
    let no = no-tag s p.kind e in
    λ i. option_or (no.no_name i) (option_or ((ap (reason_by_token s.context p.kind) (no-content p.kind e) ∙ no.no_reason) i) (option_or None (no.no_values i)))

pub alone-moves : AloneMoves
alone-moves s p e = record {
  longest = none-may-stand s p.kind e;
  visible = let same = sym (no-tag s p.kind e).as_judged in λ i. record { kind = same i; size = p.size; spent = p.spent };
  no_reason = unopposed s p e;
}

-- WHAT IS HELD after it

record StaysInside (x : Kind) : Type 0 where
  stays : effect x ≡ Stays
  no_start : is_start x ≡ false
  ends_none : ended_type x ≡ None
  specifies_none : specified x ≡ None

stays-inside : (x : Kind) → stands_alone x ≡ true → StaysInside x
unfolding token effect is_finish is_start ended_type specified
stays-inside (Start n specifications how proper at_once) e = apart false e refl
stays-inside (End n how) e = apart false e refl
stays-inside Finish e = apart false e refl
stays-inside _ e = record { stays = refl; no_start = refl; ends_none = refl; specifies_none = refl }

levels-alone : (x : Kind) (ls : List Level) → token x ≡ None → levels_with x ls ≡ ls
levels-alone x [] e = refl
levels-alone x (l ∷ ls) e = λ i. record { element = l.element; left = token_taken (e i) l.left; slash = l.slash } ∷ ls

pub alone-keeps : AloneKeeps
unfolding after_piece context_after
alone-keeps outside x p e =
    let in_it = stays-inside p.kind e in
    let d = x.kept.doctype in
    λ i. record {
      kept = after outside p x.kept;
      levels = (ap (λ f. levels_after d f p.kind x.levels) in_it.stays ∙ levels-alone p.kind x.levels (no-content p.kind e)) i;
      begun = in_it.no_start i || x.begun;
      record_ends = ends_after (in_it.stays i) p.kind x.record_ends;
      ended = option_or (in_it.ends_none i) x.ended;
      map_settings = settings_after (in_it.stays i) p.kind x.map_settings;
      currents = λ n a. option_or (given d (in_it.specifies_none i) n a) (x.currents n a);
    }
