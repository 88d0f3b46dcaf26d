-- A piece of the prolog reads with no omitted tag before it, and leaves the elements as they are.
use Rattle.std.specs.Prelude.{◌≡◌, Bool, true, false, ◌&&◌, ◌||◌, None, Result, [], ◌∷◌, map, length}
use Rattle.std.specs.Option.{option_or}
use Rattle.std.proofs.Common.{refl, sym, ap, ◌∙◌, subst, inl, inr}
use Rattle.sgml_theory_spelling.proofs.scan.Runs.{apart}
use Rattle.sgml_theory_spelling.specs.text.declared.reason.Reason.{Reason}
use Rattle.sgml_theory_spelling.specs.theory_reading.Names.{Name}
use Rattle.sgml_theory_spelling.specs.theory_reading.Pieces.{Piece, Kind, Sgml, Head, Declare, SubsetEnd, Sep, Ref, EntityEnd, SectionStart, SectionEnd, Skipped, Pi, Comment, History}
use Rattle.sgml_theory_spelling.specs.theory_reading.Facets.{Stays, effect, token, is_start, is_finish, is_omitted_start, ended_type, specified}
use Rattle.sgml_theory_spelling.specs.theory_reading.Nest.{Open, nest, nest_after}
use Rattle.sgml_theory_spelling.specs.theory_reading.Context.{Context, level_of, any_start, ends_in_omitted_start, context}
use Rattle.sgml_theory_spelling.specs.theory_reading.Omission.{leaves, misfits, NoneMayStand}
use Rattle.sgml_theory_spelling.specs.theory_reading.Reasons.{reason}
use Rattle.sgml_theory_spelling.specs.theory_reading.Unread.{texts}
use Rattle.sgml_theory_spelling.specs.theory_reading.Maps.{map_settings, setting_of_open}
use Rattle.sgml_theory_spelling.specs.theory_reading.Currents.{currents, given}
use Rattle.sgml_theory_spelling.specs.theory_reading.State.{State, state, facts_of_open, record_ends, last_ended}
use Rattle.sgml_theory_spelling.specs.theory_reading.Reads.{judged, undefined, refusal, Moves, MovesTo}
use Rattle.sgml_theory_spelling.proofs.theory_reading.Stack.{length-unread}
use Rattle.sgml_theory_spelling.specs.Attributes.{unvalued}
use Rattle.sgml_theory_spelling.specs.Spelled.{forms}
use Rattle.sgml_theory_standing.specs.Prologs.{is_of_prolog, is_piece_of_prolog, is_in_prolog, state_in_prolog, alone}
use Rattle.sgml_theory_standing.specs.Laws.{StateInProlog, PrologReads}

-- NO TAG is left out before it

no-leaving : (s : Context) (x : Kind) → is_of_prolog x ≡ true → leaves s x ≡ false
unfolding leaves token
no-leaving s (Sgml syntax) e = refl
no-leaving s (Head head base) e = refl
no-leaving s (Declare lexemes says base) e = refl
no-leaving s (SubsetEnd reads) e = refl
no-leaving s (Sep byte) e = refl
no-leaving s (Ref entity) e = refl
no-leaving s EntityEnd e = refl
no-leaving s (SectionStart status) e = refl
no-leaving s SectionEnd e = refl
no-leaving s (Skipped byte) e = refl
no-leaving s (Pi text entity) e = refl
no-leaving s Comment e = refl
no-leaving s _ e = apart false e refl

no-misfit : (s : Context) (x : Kind) → is_of_prolog x ≡ true → misfits s (token x) ≡ false
unfolding token
no-misfit s (Sgml syntax) e = refl
no-misfit s (Head head base) e = refl
no-misfit s (Declare lexemes says base) e = refl
no-misfit s (SubsetEnd reads) e = refl
no-misfit s (Sep byte) e = refl
no-misfit s (Ref entity) e = refl
no-misfit s EntityEnd e = refl
no-misfit s (SectionStart status) e = refl
no-misfit s SectionEnd e = refl
no-misfit s (Skipped byte) e = refl
no-misfit s (Pi text entity) e = refl
no-misfit s Comment e = refl
no-misfit s _ e = apart false e refl

none-may-stand : (s : Context) (x : Kind) → is_of_prolog x ≡ true → NoneMayStand s x
none-may-stand s x e o (inl m) = apart (leaves s x) m.2.before (no-leaving s x e)
none-may-stand s x e o (inr m) = apart (misfits s (token x)) m.2.before (no-misfit s x e)

-- IT READS

no-reason : (c : Context) (s : State) (x : Kind) → is_of_prolog x ≡ true → option_or (undefined c x) (option_or (reason c x) (option_or None (unvalued s x))) ≡ None
unfolding reason unvalued token
no-reason c s (Sgml syntax) e = refl
no-reason c s (Head head base) e = refl
no-reason c s (Declare lexemes says base) e = refl
no-reason c s (SubsetEnd reads) e = refl
no-reason c s (Sep byte) e = refl
no-reason c s (Ref entity) e = refl
no-reason c s EntityEnd e = refl
no-reason c s (SectionStart status) e = refl
no-reason c s SectionEnd e = refl
no-reason c s (Skipped byte) e = refl
no-reason c s (Pi text entity) e = refl
no-reason c s Comment e = refl
no-reason c s _ e = apart false e refl

as-judged : (c : Context) (x : Kind) → is_of_prolog x ≡ true → x ≡ judged c x
as-judged c (Sgml syntax) e = refl
as-judged c (Head head base) e = refl
as-judged c (Declare lexemes says base) e = refl
as-judged c (SubsetEnd reads) e = refl
as-judged c (Sep byte) e = refl
as-judged c (Ref entity) e = refl
as-judged c EntityEnd e = refl
as-judged c (SectionStart status) e = refl
as-judged c SectionEnd e = refl
as-judged c (Skipped byte) e = refl
as-judged c (Pi text entity) e = refl
as-judged c Comment e = refl
as-judged c _ e = apart false e refl

moves-alone : (h : History) (p : Piece) → is_of_prolog p.kind ≡ true → Moves forms h p (alone p)
unfolding refusal
moves-alone h p e = record {
  longest = none-may-stand (context h) p.kind e;
  visible = λ i. record { kind = as-judged (context h) p.kind e i; size = p.size; spent = p.spent };
  no_reason = no-reason (context h) (state h) p.kind e;
}

pub prolog-reads : PrologReads
prolog-reads I h p goes e next = record {
  goes_on = goes;
  moves = subst (λ (r : Result Piece Reason). MovesTo forms h r (alone p)) (sym next) (moves-alone h p e);
}

-- ALL THAT WAS READ leaves no element open

pub both : (a b : Bool) → (a && b) ≡ true → (a ≡ true) × (b ≡ true)
both true true e = (refl, refl)
both true false e = apart false e refl
both false b e = apart false e refl

-- it opens no element, is no start, ends no element and has no attributes
abbrev IsPlain : Kind → Type 0
IsPlain x = (effect x ≡ Stays) × (is_start x ≡ false) × (is_omitted_start x ≡ false) × (ended_type x ≡ None) × (specified x ≡ None) × (is_finish x ≡ false)

pub plain : (x : Kind) → is_of_prolog x ≡ true → IsPlain x
unfolding effect is_start is_omitted_start ended_type specified is_finish
plain (Sgml syntax) e = (refl, refl, refl, refl, refl, refl)
plain (Head head base) e = (refl, refl, refl, refl, refl, refl)
plain (Declare lexemes says base) e = (refl, refl, refl, refl, refl, refl)
plain (SubsetEnd reads) e = (refl, refl, refl, refl, refl, refl)
plain (Sep byte) e = (refl, refl, refl, refl, refl, refl)
plain (Ref entity) e = (refl, refl, refl, refl, refl, refl)
plain EntityEnd e = (refl, refl, refl, refl, refl, refl)
plain (SectionStart status) e = (refl, refl, refl, refl, refl, refl)
plain SectionEnd e = (refl, refl, refl, refl, refl, refl)
plain (Skipped byte) e = (refl, refl, refl, refl, refl, refl)
plain (Pi text entity) e = (refl, refl, refl, refl, refl, refl)
plain Comment e = (refl, refl, refl, refl, refl, refl)
plain _ e = apart false e refl

-- the elements, what ended last and the current values after it
record Untouched (h : History) : Type 0 where
  nest : nest h ≡ []
  begun : any_start h ≡ false
  inferred : ends_in_omitted_start h ≡ false
  ended : last_ended h ≡ None
  currents : currents h ≡ (λ (e : Name) (a : Name). None)

untouched : (h : History) → is_in_prolog h ≡ true → Untouched h
unfolding nest last_ended currents
untouched [] e = record { nest = refl; begun = refl; inferred = refl; ended = refl; currents = refl }
untouched (p ∷ h) e =
    let parts = both (is_piece_of_prolog p) (is_in_prolog h) e in
    let x = plain p.kind parts.0 in
    let before = untouched h parts.1 in record {
      nest = (λ i. nest_after (x.0 i) h p (before.nest i));
      begun = (λ i. x.1 i || before.begun i);
      inferred = x.2;
      ended = (λ i. option_or (x.3 i) (before.ended i));
      currents = (λ i. λ (e : Name) (a : Name). option_or (given (Rattle.sgml_theory_spelling.specs.theory_reading.Nest.types h) (x.4 i) e a) (before.currents i e a));
    }

pub state-in-prolog : StateInProlog
unfolding state context record_ends map_settings state_in_prolog
state-in-prolog k texts I more h s e =
    let u = untouched h e in
    λ i. record {
      context = record {
        doctype = sym s.doctype_is i;
        levels = map level_of (u.nest i);
        begun = u.begun i;
        inferred = u.inferred i;
      };
      record_ends = map facts_of_open (u.nest i);
      ended = u.ended i;
      sections = sym s.sections_are i;
      texts = (sym (length-unread h) ∙ ap length (sym s.places_are)) i;
      map_settings = map setting_of_open (u.nest i);
      currents = u.currents i;
      stage = sym s.stage_is i;
      subset = sym s.subset_is i;
    }
