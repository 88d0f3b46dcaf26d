-- An empty start-tag is a start that specifies nothing (7.4.1.1).
use Rattle.std.specs.Prelude.{◌≡◌, ℕ, Bool, true, false, List, [], Option, Some, None, option_and_then}
use Rattle.std.proofs.Common.{refl, sym, ap, ◌∙◌, subst, arith, inl}
use Rattle.sgml_text.specs.declared.reason.Reason.{Reason}
use Rattle.sgml_text.specs.declared.reason.Reason.TheVariants as reason
use Rattle.sgml_scan.specs.declared.state.ScanState.{ScanState}
use Rattle.sgml_scan.specs.declared.state.Token.{Token}
use Rattle.sgml_markup.specs.declared.kinds.TokenKind.TheVariants as kind
use Rattle.sgml_dtd.specs.dtd_elements.Types.{number_of}
use Rattle.sgml_theory_spelling.specs.theory_reading.Names.{Name, Text}
use Rattle.sgml_theory_spelling.specs.theory_reading.Pieces.{Piece, Start, Short}
use Rattle.sgml_theory_spelling.specs.theory_reading.ShortTags.{empty_start_type}
use Rattle.sgml_theory_spelling.specs.theory_reading.Unread.{Outside}
use Rattle.sgml_theory_spelling.specs.theory_reading.Reads.{unless_declared}
use Rattle.sgml_theory_spelling.specs.Sized.{sized, sized_ok}
use Rattle.sgml_theory_spelling.specs.Content.{short_start}
use Rattle.sgml_declared.specs.theory_standing.Kept.{Kept}
use Rattle.sgml_content_steps.specs.theory_starts.Starts.{Table}
use Rattle.sgml_declared.specs.theory_standing.Held.{Held, state_of, IsSpelledIn}
use Rattle.sgml_declared.specs.theory_standing.Moves.{IsRefusedNext}
use Rattle.sgml_starts.specs.declared.error.StartError.TheVariants as error
use Rattle.sgml_starts.specs.declared.starts.StartValues.{StartValues}
use Rattle.sgml_starts.specs.Specified.{specified}
use Rattle.sgml_starts.specs.Starts.{start_of, after, HasValues, IsUnvalued}
use Rattle.sgml_starts.specs.Values.{unvalued}
use Rattle.sgml_content_steps.specs.theory_starts.There.{input_at}
use Rattle.sgml_content_steps.proofs.theory_starts.Pieces.{starts-are-valued, starts-are-unvalued}
use Rattle.sgml_infer.specs.Tables.{name_at, IsNumber}
use Rattle.sgml_infer.specs.declared.tree.Tree.{Tree}
use Rattle.sgml_infer.specs.declared.visible.Visible.TheVariants as visible
use Rattle.sgml_content_steps.specs.Standing.{IsHeld}
use Rattle.sgml_content_steps.specs.Found.{IsTokenThere}
use Rattle.sgml_content_steps.proofs.Pieces.{empty-starts-are-pieces}
use Rattle.sgml_content_steps.specs.Content.{Content, Holds}
use Rattle.sgml_content_steps.specs.declared.run.Run.{Run}
use Rattle.sgml_content_steps.specs.Runs.{state_left}
use Rattle.sgml_content_steps.specs.Judged.{JudgedMayStand}
use Rattle.sgml_content_steps.specs.Taken.{IsJudgedBefore}
use Rattle.sgml_prolog_steps.specs.Found.{moved_on}
use Rattle.sgml_content_tags.specs.Named.{empty_start_of, number_empty}
use Rattle.sgml_content_tags.proofs.Numbered.{none-declared, undefined-name}
use Rattle.sgml_content_tags.proofs.Undefined.{undefined-against}
use Rattle.sgml_content_tags.proofs.Still.{start-still, noted-still}
use Rattle.sgml_content_tags.proofs.Stopping.{refused-next}
use Rattle.sgml_content_tags.proofs.Ending.{judged_from, IsJudgedFor}
use Rattle.sgml_content_tags.proofs.Emptied.{empty-name}
use Rattle.sgml_content_tags.proofs.Started.{IsStartSpelled, valued_from}
use Rattle.sgml_content_tags.proofs.Refusing.{IsStartThere, none-against, start-of-type}

module _ (texts : List (ℕ × Text)) (t : Token) (old : Content) (is_tag : t.kind ≡ kind.EmptyStart) where
  -- by what is known of the open elements and of the one that ended last
  empty-spelled : (o : Option Name) → empty_start_of old ≡ o → (st : ScanState) (more : Bool) → IsTokenThere old.kept st texts more t → (outside : Outside) (x : Held)
      → Holds old x → IsHeld old.kept st x → IsSpelledIn outside x texts more (sized_ok t.length (short_start o))
  empty-spelled o e st more there outside x h held =
      subst (λ (q : Option Name). IsSpelledIn outside x texts more (sized_ok t.length (short_start q)))
      ((λ i. empty_start_type (h.context i) (h.ended i)) ∙ e)
      (empty-starts-are-pieces old.kept st texts more t there is_tag outside x held)

  pub empty-there : (number : ℕ) → Some number ≡ number_empty old → (st : ScanState) (more : Bool) → IsTokenThere old.kept st texts more t → (outside : Outside) (x : Held)
      → Holds old x → IsHeld old.kept st x → IsStartThere outside x texts more t.length number old
  empty-there number e st more there outside x h held = record {
    specifications = [];
    how = Short;
    paid = 0;
    written = tt;
    spelled = empty-spelled (Some (name_at old.kept.doctype number)) (empty-name old number e) st more there outside x h held;
  }

  -- THE TYPE ISN'T DECLARED, or there is none
  none-by : (o : Option Name) → empty_start_of old ≡ o → option_and_then (number_of old.kept.doctype.elements) o ≡ None
      → (st : ScanState) (more : Bool) → IsTokenThere old.kept st texts more t → (outside : Outside) (x : Held) → Holds old x → IsHeld old.kept st x
      → IsRefusedNext outside x texts more reason.Undefined
  none-by None e f st more there outside x h held = inl (empty-spelled None e st more there outside x h held)
  none-by (Some n) e f st more there outside x h held =
      let p : Piece = sized t.length (Start n [] Short true false) in
      refused-next outside x texts more p reason.Undefined (empty-spelled (Some n) e st more there outside x h held)
      (noted-still (state_of x) p (start-still n [] Short true false))
      (undefined-against (state_of x) p
      (ap (λ (k : Kept). unless_declared k.doctype n) h.kept ∙ undefined-name old.kept.doctype n (none-declared old.kept.doctype n f)))

  pub empty-undefined : None ≡ number_empty old → (st : ScanState) (more : Bool) → IsTokenThere old.kept st texts more t → (outside : Outside) (x : Held) → Holds old x
      → IsHeld old.kept st x → IsRefusedNext outside x texts more reason.Undefined
  empty-undefined e = none-by (empty_start_of old) refl (sym e)

  -- ITS VALUES
  module _ (number : ℕ) (found : Some number ≡ number_empty old) (numbered : IsNumber old.kept.doctype number) (tree : Tree) (table : Table) (run : Run)
      (j : IsJudgedFor old tree table (visible.Start number) run) where
    pub empty-refuses : (law : JudgedMayStand) (r : Reason)
        → IsUnvalued (unvalued (start_of old.kept.doctype.syntax old.kept.doctype number table) (specified (input_at old.kept texts) None)) (error.Refused r)
        → (st : ScanState) (more : Bool) → IsTokenThere old.kept st texts more t → (outside : Outside) (x : Held) → Holds old x → IsHeld old.kept st x
        → IsRefusedNext outside x texts more r
    unfolding empty-there
    empty-refuses law r u st more there outside x h held =
        none-against outside x texts more t.length number old (empty-there number found st more there outside x h held) tree table run law j numbered h r
        (starts-are-unvalued (state_left (judged_from old tree table) x) old.kept (input_at old.kept texts) number table (name_at old.kept.doctype number) Short true false (error.Refused r)
        (start-of-type old tree table x number (name_at old.kept.doctype number) j.content numbered (j.holds x h) refl) u)

    pub empty-start : (start : StartValues) (table_after : Table)
        → HasValues (start_of old.kept.doctype.syntax old.kept.doctype number table) (specified (input_at old.kept texts) None) start table_after
        → (st : ScanState) (more : Bool) → IsTokenThere old.kept st texts more t → (outside : Outside) (x : Held) → Holds old x → IsHeld old.kept st x
        → IsStartSpelled outside x texts more t.length number old.kept.stack.spent false old tree table start table_after
    unfolding empty-there
    empty-start start table_after v st more there outside x h held =
        let s = empty-there number found st more there outside x h held in record {
          specifications = [];
          how = Short;
          paid = 0;
          written = tt;
          slash = refl;
          paid_is = omega arith;
          spelled = s.spelled;
          valued = λ proper ends.
              starts-are-valued (state_left (judged_from old tree table) x) old.kept (input_at old.kept texts) number table table_after (name_at old.kept.doctype number) Short proper ends start
              (start-of-type old tree table x number (name_at old.kept.doctype number) j.content numbered (j.holds x h) refl) v;
        }

-- WHAT IS KEPT once the values were taken, and the tag was read over
abbrev valued_on : ℕ → Content → Content → Content
valued_on spent judged w = record judged { kept = record judged.kept { stack = after judged.kept.stack spent None }; currents = w.currents }

abbrev passed : ℕ → Content → Content
passed n w = record w { kept = moved_on n w.kept }

pub passed-before : (judged w mid : Content) (n spent : ℕ) → w ≡ valued_on spent judged w → mid ≡ passed n w → IsJudgedBefore judged mid
passed-before judged w mid n spent v p = record {
  doctype = ap (λ (z : Content). z.kept.doctype) p ∙ ap (λ (z : Content). z.kept.doctype) v;
  tree = ap (λ (z : Content). z.tree) p ∙ ap (λ (z : Content). z.tree) v;
  inside = ap (λ (z : Content). z.inside) p ∙ ap (λ (z : Content). z.inside) v;
}

pub passed-from : (old judged w mid : Content) (n spent : ℕ) → judged ≡ judged_from old judged.tree judged.currents → w ≡ valued_on spent judged w → mid ≡ passed n w
    → mid ≡ valued_from n old.kept.stack.spent old judged.tree mid.currents
passed-from old judged w mid n spent same v p =
    p ∙ (λ i. record {
      kept = moved_on n ((ap (λ (z : Content). z.kept) v ∙ ap (λ (z : Content). z.kept) same) i);
      tree = ap (λ (z : Content). z.tree) v i;
      inside = (ap (λ (z : Content). z.inside) v ∙ ap (λ (z : Content). z.inside) same) i;
      currents = sym (ap (λ (z : Content). z.currents) p) i;
    })
