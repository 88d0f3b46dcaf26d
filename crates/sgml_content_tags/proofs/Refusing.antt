-- Why nothing is taken of a start that is spelled.
use Rattle.std.specs.Prelude.{◌≡◌, ℕ, Bool, true, false, List, [], Option, Some, None, Ok, Err}
use Rattle.std.proofs.Common.{refl, sym, ap, ◌∙◌, subst}
use Rattle.sgml_text.specs.declared.reason.Reason.{Reason}
use Rattle.sgml_text.specs.declared.reason.Reason.TheVariants as reason
use Rattle.sgml_entity.specs.Stack.{is_on}
use Rattle.sgml_dtd.specs.dtd_elements.Types.{types}
use Rattle.sgml_dtd.specs.dtd_elements.Laws.{AreDistinct}
use Rattle.sgml_dtd.specs.Doctypes.{Doctype}
use Rattle.sgml_theory_spelling.specs.theory_reading.Names.{Name, Text}
use Rattle.sgml_theory_spelling.specs.theory_reading.Pieces.{Piece, Specification, How}
use Rattle.sgml_theory_spelling.specs.theory_reading.Unread.{Outside, file_of}
use Rattle.sgml_theory_spelling.specs.theory_reading.Reads.{undefined, unless_declared}
use Rattle.sgml_theory_spelling.specs.Attributes.{unvalued}
use Rattle.sgml_theory_spelling.specs.References.{missing, missing_file}
use Rattle.sgml_declared.specs.theory_standing.Kept.{Kept, sources_of}
use Rattle.sgml_content_steps.specs.theory_starts.Starts.{Table}
use Rattle.sgml_declared.specs.theory_standing.Held.{Held, state_of, IsSpelledIn}
use Rattle.sgml_declared.specs.theory_standing.Moves.{IsAgainst, IsRefusedNext}
use Rattle.sgml_starts.specs.declared.error.StartError.{StartError}
use Rattle.sgml_starts.specs.declared.error.StartError.TheVariants as error
use Rattle.sgml_content_steps.specs.theory_starts.Valued.{IsStartOf, HasNone}
use Rattle.sgml_content_steps.proofs.theory_starts.Apart.{attributes-are-apart}
use Rattle.sgml_infer.specs.Tables.{name_in, name_at, IsNumber}
use Rattle.sgml_infer.specs.declared.tree.Tree.{Tree}
use Rattle.sgml_infer.specs.declared.visible.Visible.TheVariants as visible
use Rattle.sgml_infer.specs.Visibles.{IsVisible, IsWritten}
use Rattle.sgml_infer.proofs.Numbers.{found-at}
use Rattle.sgml_declared.specs.Files.{Choices, IsOutsideOf}
use Rattle.sgml_prolog_steps.specs.declared.stepping.Stop.{Stop}
use Rattle.sgml_prolog_steps.specs.declared.stepping.Stop.TheVariants as stop
use Rattle.sgml_content_steps.specs.Content.{Content, Holds, IsContent}
use Rattle.sgml_content_steps.specs.Steps.{IsWanting, StepsBy}
use Rattle.sgml_content_steps.specs.declared.run.Run.{Run}
use Rattle.sgml_content_steps.specs.Runs.{state_left}
use Rattle.sgml_content_steps.specs.Judged.{MayStand, JudgedMayStand, IsRefusedFor, IsJudgedStop}
use Rattle.sgml_content_steps.proofs.Standing.{left-by}
use Rattle.sgml_content_tags.specs.Values.{WantsBy, StopsFor}
use Rattle.sgml_content_tags.proofs.Numbered.{name-declared, defined}
use Rattle.sgml_content_tags.proofs.Still.{start-still, noted-still}
use Rattle.sgml_content_tags.proofs.Stopping.{refused-next}
use Rattle.sgml_content_tags.proofs.Ending.{judged_from, IsJudgedFor}
use Rattle.sgml_content_tags.proofs.Started.{spelled_start}

-- A START OF THIS TYPE is spelled next
pub record IsStartThere (outside : Outside) (x : Held) (texts : List (ℕ × Text)) (more : Bool) (n number : ℕ) (old : Content) : Type 0 where
  pub specifications : List Specification
  pub how : How
  pub paid : ℕ
  pub written : IsWritten how
  pub spelled : IsSpelledIn outside x texts more (Ok (spelled_start old.kept.doctype number specifications how n paid))

pub start-sees : (d : Doctype) (number : ℕ) (ss : List Specification) (how : How) (n paid : ℕ) → IsWritten how → IsVisible d (visible.Start number) (spelled_start d number ss how n paid).kind
start-sees d number ss how n paid w = record { specifications = ss; how = how; proper = true; at_once = false; written = w; is = refl }

-- its type is declared
pub start-defined : (old : Content) (x : Held) (number : ℕ) (ss : List Specification) (how : How) (n paid : ℕ) → AreDistinct old.kept.doctype.elements → IsNumber old.kept.doctype number → Holds old x
    → undefined (state_of x).context (spelled_start old.kept.doctype number ss how n paid).kind ≡ None
start-defined old x number ss how n paid distinct numbered h =
    ap (λ (k : Kept). unless_declared k.doctype (name_at old.kept.doctype number)) h.kept
    ∙ defined old.kept.doctype (name_at old.kept.doctype number) (name-declared old.kept.doctype number distinct numbered)

module _ (outside : Outside) (x : Held) (texts : List (ℕ × Text)) (more : Bool) (n number : ℕ) (old : Content) (s : IsStartThere outside x texts more n number old) where
  abbrev piece : Piece
  piece = spelled_start old.kept.doctype number s.specifications s.how n s.paid

  pub start-against : (r : Reason) → IsAgainst (state_of x) piece r → IsRefusedNext outside x texts more r
  start-against r a =
      refused-next outside x texts more piece r s.spelled
      (noted-still (state_of x) piece (start-still (name_at old.kept.doctype number) s.specifications s.how true false)) a

  -- by what was judged
  pub judged-steps : (new : Content) (e : Stop) → AreDistinct old.kept.doctype.elements → IsNumber old.kept.doctype number → Holds old x → IsJudgedStop e
      → ((r : Reason) → e ≡ stop.Refused r → (y : Held) → Holds old y → IsRefusedFor old.kept.doctype (visible.Start number) (state_of y) r)
      → StepsBy outside texts more x new [] (Err e)
  judged-steps new (stop.Refused r) distinct numbered h judged why =
      start-against r (why r refl x h piece (start-sees old.kept.doctype number s.specifications s.how n s.paid s.written)
      (start-defined old x number s.specifications s.how n s.paid distinct numbered h))
  judged-steps new stop.Memory distinct numbered h judged why = tt
  judged-steps new (stop.Wanted entity file) distinct numbered h judged why = absurd judged
  judged-steps new stop.More distinct numbered h judged why = absurd judged

  -- WITHOUT VALUES
  module _ (tree : Tree) (table : Table) (run : Run) (law : JudgedMayStand) (j : IsJudgedFor old tree table (visible.Start number) run)
      (numbered : IsNumber old.kept.doctype number) (h : Holds old x) where
    pub start-may : MayStand (judged_from old tree table) (visible.Start number) x piece
    start-may =
        law (judged_from old tree table) (visible.Start number) run x piece j.content j.judged (j.holds x h)
        (start-sees old.kept.doctype number s.specifications s.how n s.paid s.written)
        (start-defined old x number s.specifications s.how n s.paid j.content.tree.distinct numbered h)

    pub none-against : (r : Reason) → unvalued (state_left (judged_from old tree table) x) piece.kind ≡ Some r → IsRefusedNext outside x texts more r
    none-against r e = start-against r (start-may.against r e)

    abbrev HasNoneHere : StartError → Type 0
    HasNoneHere e = HasNone outside (state_left (judged_from old tree table) x) old.kept texts piece.kind e

    missing-here : (m : ℕ) (file : Option Name) (r : Reason) → file ≡ file_of outside (sources_of old.kept) m → missing_file outside file ≡ Some r
        → missing outside (sources_of old.kept) m ≡ Some r
    missing-here m file r e f = ap (missing_file outside) (sym e) ∙ f

    wanted-by : (o : Choices) (new : Content) (m : ℕ) (q : Stop) → IsOutsideOf o outside → HasNoneHere (error.Wanted m) → WantsBy o old.kept m q
        → StepsBy outside texts more x new [] (Err q)
    wanted-by o new m (stop.Wanted entity file) options none w =
        subst (λ z. IsWanting outside texts more x z file) (sym w.0) (record {
          not_given = none.absent;
          unread = ap (λ (k : Kept). is_on m k.stack.places) h.kept ∙ none.unread;
          named = ap (λ (k : Kept). file_of outside (sources_of k) m) h.kept ∙ sym (w.1 outside options);
          refused = λ r e. none-against r (none.refused r (missing-here m (Some file) r (w.1 outside options) e));
        })
    wanted-by o new m (stop.Refused r) options none w =
        subst (IsRefusedNext outside x texts more) (sym w.0)
        (none-against reason.Unresolved (none.refused reason.Unresolved (missing-here m None reason.Unresolved (w.1 outside options) refl)))
    wanted-by o new m stop.Memory options none w = tt
    wanted-by o new m stop.More options none w = absurd w

    pub values-steps : (o : Choices) (new : Content) (e : StartError) (q : Stop) → IsOutsideOf o outside → HasNoneHere e → StopsFor o old.kept e q
        → StepsBy outside texts more x new [] (Err q)
    values-steps o new (error.Refused r) q options none w = subst (λ (z : Stop). StepsBy outside texts more x new [] (Err z)) (sym w) (none-against r none)
    values-steps o new (error.Wanted m) q options none w = wanted-by o new m q options none w
    values-steps o new error.Memory q options none w = subst (λ (z : Stop). StepsBy outside texts more x new [] (Err z)) (sym w) tt

-- A START in the state after the run, of a name and by its number
pub start-of-type : (old : Content) (tree : Tree) (table : Table) (x : Held) (number : ℕ) (n : Name) → IsContent (judged_from old tree table) → IsNumber old.kept.doctype number
    → Holds (judged_from old tree table) x → name_at old.kept.doctype number ≡ n → IsStartOf (state_left (judged_from old tree table) x) old.kept number table n
start-of-type old tree table x number n is numbered h e =
    let f = found-at (types old.kept.doctype.elements) number numbered in
    let by = left-by (judged_from old tree table) x h in record {
      doctype = by.doctype;
      type = f.0;
      stands = f.1;
      named = sym (ap name_in f.1) ∙ e;
      apart = attributes-are-apart old.kept.doctype n h.apart;
      currents = by.currents;
    }
