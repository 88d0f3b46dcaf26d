-- A start-tag is a start with what it specifies (7.4, 7.9).
use Rattle.std.specs.Prelude.{◌≡◌, ℕ, ◌+◌, ◌-◌, ◌≤◌, ◌==◌, Bool, true, false, List, [], Some, None, length, take, Ok, Err, if◌then◌else◌}
use Rattle.std.proofs.Common.{refl, sym, ap, ◌∙◌, subst, arith}
use Rattle.std.proofs.lemmas.List.{length-take}
use Rattle.sgml_text.specs.declared.reason.Reason.TheVariants as reason
use Rattle.sgml_scan.specs.declared.state.ScanState.{ScanState}
use Rattle.sgml_scan.specs.declared.state.Token.{Token}
use Rattle.sgml_markup.specs.declared.kinds.TokenKind.TheVariants as kind
use Rattle.sgml_markup.specs.Forms.{last_byte, parts_of_tag}
use Rattle.sgml_dtd.specs.Doctypes.{Doctype}
use Rattle.sgml_theory_spelling.specs.theory_reading.Names.{Name, Text}
use Rattle.sgml_theory_spelling.specs.theory_reading.Pieces.{Piece, Kind, Start, Specification, Tag, Slash}
use Rattle.sgml_theory_spelling.specs.theory_reading.Facets.{is_slash}
use Rattle.sgml_theory_spelling.specs.theory_reading.Unread.{Outside}
use Rattle.sgml_theory_spelling.specs.theory_reading.State.{State}
use Rattle.sgml_theory_spelling.specs.theory_reading.Reads.{unless_declared}
use Rattle.sgml_theory_spelling.specs.Sized.{sized_spent}
use Rattle.sgml_theory_spelling.specs.Tags.{Specifications, element_of, specifications_of, how_of}
use Rattle.sgml_declared.specs.theory_standing.Kept.{Kept, sources_of}
use Rattle.sgml_content_steps.specs.theory_starts.Starts.{Table}
use Rattle.sgml_declared.specs.theory_standing.Held.{Held, state_of, IsSpelledIn}
use Rattle.sgml_declared.specs.theory_standing.Moves.{IsRefusedNext}
use Rattle.sgml_starts.specs.declared.error.StartError.{StartError}
use Rattle.sgml_starts.specs.declared.starts.StartValues.{StartValues}
use Rattle.sgml_starts.specs.Specified.{specified}
use Rattle.sgml_starts.specs.Starts.{start_of, HasValues, IsUnvalued}
use Rattle.sgml_starts.specs.Values.{unvalued}
use Rattle.sgml_starts.proofs.Parts.{parts-good}
use Rattle.sgml_content_steps.specs.theory_starts.There.{IsTagThere, input_at, tag_piece}
use Rattle.sgml_content_steps.specs.theory_starts.Valued.{IsStartOf, IsValued, HasNone, IsTagValued}
use Rattle.sgml_content_steps.proofs.theory_starts.Pieces.{tags-are-valued, tags-are-unvalued}
use Rattle.sgml_content_steps.proofs.theory_starts.Walked.{grows}
use Rattle.sgml_infer.specs.Tables.{name_at, IsNumber}
use Rattle.sgml_infer.specs.Visibles.{IsWritten}
use Rattle.sgml_infer.specs.declared.tree.Tree.{Tree}
use Rattle.sgml_infer.specs.declared.visible.Visible.TheVariants as visible
use Rattle.sgml_declared.specs.Files.{Choices}
use Rattle.sgml_declared.specs.Taking.{stacked_on, IsAround}
use Rattle.sgml_prolog_steps.specs.Found.{rest_in}
use Rattle.sgml_prolog_steps.specs.declared.stepping.Stop.{Stop}
use Rattle.sgml_prolog_steps.proofs.Shared.{some-places}
use Rattle.sgml_content_steps.specs.Standing.{IsInInstance, IsHeld}
use Rattle.sgml_content_steps.specs.Found.{IsTokenThere}
use Rattle.sgml_content_steps.proofs.Pieces.{start-tags-are-pieces}
use Rattle.sgml_content_steps.specs.Content.{Content, Holds, IsContent}
use Rattle.sgml_content_steps.specs.Steps.{IsOutside, StepsBy}
use Rattle.sgml_content_steps.specs.declared.run.Run.{Run}
use Rattle.sgml_content_steps.specs.Runs.{state_left}
use Rattle.sgml_content_steps.specs.Judged.{JudgedMayStand}
use Rattle.sgml_content_steps.proofs.Standing.{left-by}
use Rattle.sgml_content_tags.specs.Named.{number_named}
use Rattle.sgml_content_tags.specs.Values.{StopsFor}
use Rattle.sgml_content_tags.proofs.Numbered.{name-of-number, none-declared, undefined-name}
use Rattle.sgml_content_tags.proofs.Undefined.{undefined-against}
use Rattle.sgml_content_tags.proofs.Still.{start-still, noted-still, after-still}
use Rattle.sgml_content_tags.proofs.Stopping.{refused-next}
use Rattle.sgml_content_tags.proofs.Tagged.{tag-there}
use Rattle.sgml_content_tags.proofs.Others.{is_tag}
use Rattle.sgml_content_tags.proofs.Ending.{judged_from, IsJudgedFor}
use Rattle.sgml_content_tags.proofs.Started.{spelled_start, IsStartSpelled}
use Rattle.sgml_content_tags.proofs.Refusing.{IsStartThere, values-steps, start-of-type}

-- how a tag is written
written-if : (b : Bool) → IsWritten (if b then Slash else Tag)
written-if true = tt
written-if false = tt

tag-if : (b : Bool) (n : Name) (ss : List Specification) → is_tag (Start n ss (if b then Slash else Tag) true false) ≡ true
tag-if true n ss = refl
tag-if false n ss = refl

own-length : (n : ℕ) (bytes : Text) → n ≤ length bytes → length (take n bytes) ≡ n
own-length n bytes h = let l = length-take n bytes in omega (arith, h, l)

module _ (texts : List (ℕ × Text)) (t : Token) (old : Content) (is_start : t.kind ≡ kind.StartTag) (is : IsContent old) (within : t.length ≤ length (rest_in old.kept texts)) where
  abbrev d : Doctype
  d = old.kept.doctype

  abbrev own : Text
  own = take t.length (rest_in old.kept texts)

  abbrev specs_in : Outside → Doctype → Specifications
  specs_in outside z = specifications_of outside z (stacked_on old.kept.stack) own

  -- the piece by a document type
  abbrev piece_by : Outside → Doctype → Piece
  piece_by outside z =
      sized_spent (length own) ((specs_in outside z).spent - (stacked_on old.kept.stack).spent) (Start (element_of z own) (specs_in outside z).specifications (how_of own) true false)

  spelled-by : (st : ScanState) (more : Bool) → IsTokenThere old.kept st texts more t → (outside : Outside) (x : Held) → Holds old x → IsHeld old.kept st x
      → IsSpelledIn outside x texts more (Ok (piece_by outside d))
  spelled-by st more there outside x h held =
      subst (λ (k : Kept). IsSpelledIn outside x texts more (Ok (piece_by outside k.doctype))) h.kept
      (start-tags-are-pieces old.kept st texts more t there is_start outside x held)

  -- ITS TYPE ISN'T DECLARED
  pub tag-unknown : number_named d own ≡ None → (st : ScanState) (more : Bool) → IsTokenThere old.kept st texts more t → (outside : Outside) (x : Held)
      → Holds old x → IsHeld old.kept st x → IsRefusedNext outside x texts more reason.Undefined
  tag-unknown e st more there outside x h held =
      let p = piece_by outside d in
      refused-next outside x texts more p reason.Undefined (spelled-by st more there outside x h held)
      (noted-still (state_of x) p (start-still (element_of d own) (specs_in outside d).specifications (how_of own) true false))
      (undefined-against (state_of x) p
      (ap (λ (k : Kept). unless_declared k.doctype (element_of d own)) h.kept ∙ undefined-name d (element_of d own) (none-declared d (element_of d own) e)))

  module _ (number : ℕ) (named : number_named d own ≡ Some number) where
    abbrev paid_in : Outside → ℕ
    paid_in outside = (specs_in outside d).spent - old.kept.stack.spent

    name-is : name_at d number ≡ element_of d own
    name-is = name-of-number d (element_of d own) number named

    piece-is : (outside : Outside) → piece_by outside d ≡ spelled_start d number (specs_in outside d).specifications (how_of own) t.length (paid_in outside)
    piece-is outside = λ i.
        sized_spent (own-length t.length (rest_in old.kept texts) within i) (paid_in outside)
        (Start (sym name-is i) (specs_in outside d).specifications (how_of own) true false)

    pub start-there : (st : ScanState) (more : Bool) → IsTokenThere old.kept st texts more t → (outside : Outside) (x : Held) → Holds old x → IsHeld old.kept st x
        → IsStartThere outside x texts more t.length number old
    start-there st more there outside x h held = record {
      specifications = (specs_in outside d).specifications;
      how = how_of own;
      paid = paid_in outside;
      written = written-if (last_byte own == 47);
      spelled = subst (λ (p : Piece). IsSpelledIn outside x texts more (Ok p)) (piece-is outside) (spelled-by st more there outside x h held);
    }

    around : (o : Choices) (outside : Outside) → IsOutside o outside old.kept texts → IsAround o outside (sources_of old.kept) texts old.kept.stack
    around o outside options = record { of_options = options.of_options; supplied = options.supplied; levels = is.instance.levels; expand = options.expand }

    tag-is : (st : ScanState) (more : Bool) → IsTokenThere old.kept st texts more t → (outside : Outside) (x : Held) → Holds old x → IsHeld old.kept st x
        → IsTagThere old.kept texts t.length
    tag-is st more there outside x h held =
        subst (λ (k : Kept). IsTagThere k texts t.length) h.kept
        (tag-there outside x texts more (piece_by outside d) t.length
        (subst (λ (k : Kept). IsInInstance k) (sym h.kept) is.instance) there.some (subst (λ (k : Kept). t.length ≤ length (rest_in k texts)) (sym h.kept) within)
        (spelled-by st more there outside x h held) (tag-if (last_byte own == 47) (element_of d own) (specs_in outside d).specifications)
        (own-length t.length (rest_in old.kept texts) within))

    -- the texts that it opens are no fewer
    pub tag-grows : old.kept.stack.spent ≤ (specified (input_at old.kept texts) (Some t.length)).spent
    tag-grows =
        grows (input_at old.kept texts) own (some-places old.kept.stack.places is.instance.document) (parts_of_tag d.syntax own) (parts-good own d.syntax) None old.kept.stack.spent

    -- ITS VALUES
    module _ (numbered : IsNumber d number) (tree : Tree) (table : Table) (run : Run) (j : IsJudgedFor old tree table (visible.Start number) run) (x : Held) (h : Holds old x) where
      abbrev s : State
      s = state_left (judged_from old tree table) x

      doctype-left : s.context.doctype ≡ d
      doctype-left = (left-by (judged_from old tree table) x (j.holds x h)).doctype

      start-type : IsStartOf s old.kept number table (element_of d own)
      start-type = start-of-type old tree table x number (element_of d own) j.content numbered (j.holds x h) name-is

      abbrev kind_by : Outside → Doctype → Kind
      kind_by outside z = Start (element_of z own) (specs_in outside z).specifications (how_of own) true false

      kind-is : (outside : Outside) → kind_by outside s.context.doctype ≡ (spelled_start d number (specs_in outside d).specifications (how_of own) t.length (paid_in outside)).kind
      kind-is outside = ap (kind_by outside) doctype-left ∙ (λ i. Start (sym name-is i) (specs_in outside d).specifications (how_of own) true false)

      pub tag-stops : (law : JudgedMayStand) (o : Choices) (new : Content) (e : StartError) (q : Stop)
          → IsUnvalued (unvalued (start_of d.syntax d number table) (specified (input_at old.kept texts) (Some t.length))) e → StopsFor o old.kept e q
          → (st : ScanState) (more : Bool) → IsTokenThere old.kept st texts more t → (outside : Outside) → IsOutside o outside old.kept texts → IsHeld old.kept st x
          → StepsBy outside texts more x new [] (Err q)
      unfolding start-there
      tag-stops law o new e q u w st more there outside options held =
          values-steps outside x texts more t.length number old (start-there st more there outside x h held) tree table run law j numbered h o new e q options.of_options
          (subst (λ (k : Kind). HasNone outside s old.kept texts k e) (kind-is outside)
          (tags-are-unvalued o outside s old.kept texts number t.length table (how_of own) true false e (around o outside options) (tag-is st more there outside x h held) start-type u)) w

      module _ (o : Choices) (outside : Outside) (options : IsOutside o outside old.kept texts) (start : StartValues) (table_after : Table)
          (v : HasValues (start_of d.syntax d number table) (specified (input_at old.kept texts) (Some t.length)) start table_after) (tag : IsTagThere old.kept texts t.length) where
        tag-valued : (proper ends : Bool) → IsTagValued outside s old.kept texts t.length (how_of own) proper ends start table_after
        tag-valued proper ends =
            tags-are-valued o outside s old.kept texts number t.length table table_after (how_of own) proper ends start (around o outside options) tag start-type v

        valued-here : (proper ends : Bool) → IsValued s (name_at d number) (specs_in outside d).specifications (how_of own) proper ends start table_after
        valued-here proper ends =
            subst (λ (n : Name). IsValued s n (specs_in outside d).specifications (how_of own) proper ends start table_after) (sym name-is)
            (subst (λ (z : Doctype). IsValued s (element_of z own) (specs_in outside z).specifications (how_of own) proper ends start table_after) doctype-left
            (tag-valued proper ends).valued)

        paid-is : old.kept.stack.spent + paid_in outside ≡ (specified (input_at old.kept texts) (Some t.length)).spent
        paid-is =
            let p = tag_piece outside s (stacked_on old.kept.stack) own (how_of own) true false in
            sym (ap (λ z. z.spent) (tag-valued true false).stack
            ∙ (ap (λ (k : Kept). k.stack.spent) (after-still outside old.kept p is.instance (start-still (element_of s.context.doctype own) (specs_in outside s.context.doctype).specifications (how_of own) true false))
            ∙ ap (λ (z : Doctype). old.kept.stack.spent + ((specs_in outside z).spent - old.kept.stack.spent)) doctype-left))

      pub tag-start : (o : Choices) (start : StartValues) (table_after : Table) (net : Bool) → is_slash (how_of own) ≡ net
          → HasValues (start_of d.syntax d number table) (specified (input_at old.kept texts) (Some t.length)) start table_after
          → (st : ScanState) (more : Bool) → IsTokenThere old.kept st texts more t → (outside : Outside) → IsOutside o outside old.kept texts → IsHeld old.kept st x
          → IsStartSpelled outside x texts more t.length number (specified (input_at old.kept texts) (Some t.length)).spent net old tree table start table_after
      tag-start o start table_after net slash v st more there outside options held =
          let tag = tag-is st more there outside x h held in record {
            specifications = (specs_in outside d).specifications;
            how = how_of own;
            paid = paid_in outside;
            written = written-if (last_byte own == 47);
            slash = slash;
            paid_is = paid-is o outside options start table_after v tag;
            spelled = subst (λ (p : Piece). IsSpelledIn outside x texts more (Ok p)) (piece-is outside) (spelled-by st more there outside x h held);
            valued = valued-here o outside options start table_after v tag;
          }
