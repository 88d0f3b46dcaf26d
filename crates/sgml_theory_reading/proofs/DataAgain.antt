-- A data character after another leaves the state.
use Rattle.std.specs.Prelude.{◌≡◌, ℕ, false, IsTrue, Option, Some, None, Result, Ok, List, [], ◌∷◌}
use Rattle.std.specs.Option.{option_or}
use Rattle.std.proofs.Common.{refl, sym, ap, ◌∙◌, subst}
use Rattle.sgml_dtd.specs.text.declared.reason.Reason.{Reason}
use Rattle.sgml_records.specs.Items.{Data}
use Rattle.sgml_records.specs.Facts.{Facts, noted}
use Rattle.sgml_dtd.specs.dtd_maps.declared.uses.MapOf.{MapOf}
use Rattle.sgml_dtd.specs.dtd_maps.declared.uses.MapOf.TheVariants as map_of
use Rattle.sgml_theory_reading.specs.Pieces.{Piece, Kind, Char, History}
use Rattle.sgml_theory_reading.specs.Facets.{Pcdata, is_finish, token, effect, items_of, ended_type, border, turn, map_set, specified, stage_after, Stage, BeforeSyntax, AtBeginning, BeforeDoctype, InSubset, AfterSubset, stage_begun, subset_named}
use Rattle.sgml_theory_reading.specs.Context.{Context, context}
use Rattle.sgml_theory_reading.specs.Omission.{allowed}
use Rattle.sgml_theory_reading.specs.Reasons.{reason, is_inside, DataGoesOn}
use Rattle.sgml_theory_reading.proofs.Contexts.{context-step}
use Rattle.sgml_theory_reading.proofs.Again.{data-leaves, data-goes-on}
use Rattle.sgml_theory_reading.specs.Unread.{Input}
use Rattle.sgml_theory_reading.specs.Reads.{Forms, refusal, undefined, judged_piece, spelled_next, MovesTo, Reads}
use Rattle.sgml_theory_reading.specs.Maps.{first_set}
use Rattle.sgml_theory_reading.specs.State.{State, state, after_piece, first_noted}

pub noted-again : (f : Facts) → noted (noted f Data) Data ≡ noted f Data
unfolding noted
noted-again f = refl

pub none-waits : (f : Facts) → (noted f Data).waiting ≡ false
unfolding noted
none-waits f = refl

ends-again : (fs : List Facts) → first_noted (Data ∷ []) (first_noted (Data ∷ []) fs) ≡ first_noted (Data ∷ []) fs
ends-again [] = refl
ends-again (f ∷ fs) = ap (λ (g : Facts). g ∷ fs) (noted-again f)

begun-again : (s : Stage) → stage_begun (stage_begun s) ≡ stage_begun s
begun-again BeforeSyntax = refl
begun-again AtBeginning = refl
begun-again BeforeDoctype = refl
begun-again InSubset = refl
begun-again AfterSubset = refl

none-set : (ss : List MapOf) → first_set map_of.Parent ss ≡ ss
none-set [] = refl
none-set (s ∷ ss) = refl

abbrev char_of : ℕ → Piece → Piece
char_of a x = record { kind = Char a; size = x.size; spent = x.spent }

two-chars : (s : State) (x y : Piece) (a b : ℕ) → after_piece (char_of b y) (after_piece (char_of a x) s) ≡ after_piece (char_of a x) s
unfolding after_piece token effect items_of ended_type border turn map_set specified stage_after subset_named
two-chars s x y a b = λ i. record {
  context = data-leaves s.context (char_of a x) (char_of b y) refl refl i;
  record_ends = ends-again s.record_ends i;
  ended = s.ended;
  sections = s.sections;
  texts = s.texts;
  map_settings = none-set (first_set map_of.Parent s.map_settings) i;
  currents = s.currents;
  stage = begun-again s.stage i;
  subset = s.subset;
}

is-char : (x : Piece) (a : ℕ) → x.kind ≡ Char a → x ≡ char_of a x
is-char x a e = λ i. record { kind = e i; size = x.size; spent = x.spent }

pub chars-again : (s : State) (x y : Piece) (a b : ℕ) → x.kind ≡ Char a → y.kind ≡ Char b → after_piece y (after_piece x s) ≡ after_piece x s
chars-again s x y a b e f =
    (λ i. after_piece (is-char y b f i) (after_piece (is-char x a e i) s)) ∙ (two-chars s x y a b ∙ ap (λ (p : Piece). after_piece p s) (sym (is-char x a e)))

-- READING DATA

char-token : (k : Kind) (a : ℕ) → k ≡ Char a → token k ≡ Some Pcdata
unfolding token
char-token k a e = ap token e

char-goes-on : (k : Kind) (a : ℕ) → k ≡ Char a → is_finish k ≡ false
unfolding is_finish
char-goes-on k a e = ap is_finish e

first-none : (a b c d : Option Reason) → a ≡ None → b ≡ None → c ≡ None → d ≡ None → option_or a (option_or b (option_or c d)) ≡ None
first-none a b c d p q r s = λ i. option_or (p i) (option_or (q i) (option_or (r i) (s i)))

char-refusal : (forms : Forms) (h : History) (p : Piece) (b : ℕ) → p.kind ≡ Char b → reason (context h) p.kind ≡ None → forms.unvalued (state h) p.kind ≡ None → refusal forms h [] p ≡ None
unfolding refusal
char-refusal forms h p b e r u =
    first-none (undefined (context h) p.kind) (reason (context h) p.kind) None (forms.unvalued (state h) p.kind) (ap (undefined (context h)) e) r refl u

pub reads-on : (forms : Forms) (I : Input) (h : History) (x p : Piece) (a b : ℕ) → x.kind ≡ Char a → IsTrue (allowed (context h) Pcdata) → IsTrue (is_inside (context h)) →
    spelled_next forms I (x ∷ h) ≡ Ok p → p.kind ≡ Char b → forms.unvalued (state (x ∷ h)) p.kind ≡ None → Reads forms I (x ∷ h) (record { omitted = []; visible = p })
reads-on forms I h x p a b e may inside spelled f u =
    let g = data-goes-on (context h) x p (char-token x.kind a e) (char-token p.kind b f) may inside in
    let goes : DataGoesOn (context (x ∷ h)) p.kind = subst (λ (c : Context). DataGoesOn c p.kind) (sym (context-step x h)) g in
    let same : p ≡ judged_piece (context (x ∷ h)) p =
    is-char p b f ∙ sym (ap (judged_piece (context (x ∷ h))) (is-char p b f)) in
    record {
      goes_on = char-goes-on x.kind a e;
      moves = subst (λ (r : Result Piece Reason). MovesTo forms (x ∷ h) r (record { omitted = []; visible = p })) (sym spelled)
          (record { longest = goes.none_omitted; visible = same; no_reason = char-refusal forms (x ∷ h) p b f goes.no_reason u });
    }
