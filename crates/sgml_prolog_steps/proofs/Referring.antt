-- References to parameter entities, and texts that are opened.
use Rattle.std.proofs.Common.{◌≡◌, ℕ, suc, ◌+◌, ◌-◌, ◌*◌, ◌<◌, ◌≤◌, ◌==◌, ◌&&◌, ◌||◌, nat_lt, Bool, true, false, List, [], ◌∷◌, Option, None, Some, Result, Ok, Err, length, map, drop, take, refl, sym, ◌∙◌, ap, subst, arith, rules, tests, if◌then◌else◌, eqb-true, inl, zero-add, length-drop}
use Rattle.std.specs.Prelude.{reverse, option_map}
use Rattle.std.specs.List.{list_any}
use Rattle.std.proofs.lemmas.List.{reverse-reverse}
use Rattle.sgml_text.specs.declared.place.Place.{Place}
use Rattle.sgml_text.specs.declared.reason.Reason.{Reason}
use Rattle.sgml_text.specs.declared.reason.Reason.TheVariants as reason
use Rattle.sgml_entity.specs.declared.kinds.Body.{Body}
use Rattle.sgml_entity.specs.declared.kinds.Body.TheVariants as body
use Rattle.sgml_entity.specs.declared.kinds.Entity.{Entity}
use Rattle.sgml_entity.specs.declared.kinds.Space.{Space}
use Rattle.sgml_entity.specs.declared.kinds.Space.{Space}
use Rattle.sgml_entity.specs.declared.places.StackMark.{StackMark}
use Rattle.sgml_entity.specs.Entities.{entity_at, first_entity, number_of}
use Rattle.sgml_delim.specs.syntax.declared.syntax.Syntax.{Syntax}
use Rattle.sgml_names.specs.Naming.{entity_name}
use Rattle.sgml_entity.specs.Stack.{Stack, moved, moved_to, offset_of, opened, refusal, refusal_by, is_on, place_at}
use Rattle.sgml_entity.specs.Texts.{text_of}
use Rattle.sgml_delim.specs.declared.delim.Mode.{Mode}
use Rattle.sgml_delim.specs.declared.delim.Mode.TheVariants as mode
use Rattle.sgml_markup.specs.declared.kinds.TokenKind.{TokenKind}
use Rattle.sgml_markup.specs.declared.kinds.TokenKind.TheVariants as kind
use Rattle.sgml_scan.specs.declared.state.Token.{Token}
use Rattle.sgml_decl_lexemes.specs.Sources.{text_at, or_empty, or_given, internal_text}
use Rattle.sgml_declared.specs.sgml_dtd.Doctypes.{Doctype}
use Rattle.sgml_declared.specs.theory_reading.Names.{Name, Text}
use Rattle.sgml_declared.specs.theory_reading.Types.{entity, body_of, entity_number}
use Rattle.sgml_declared.specs.theory_reading.Pieces.{Piece, Kind, Ref, Pi}
use Rattle.sgml_declared.specs.theory_reading.Facets.{OpensText, StaysInText, turn, border, declares, subset_named, stage_after, stage_begun}
use Rattle.sgml_declared.specs.theory_reading.Unread as reading
use Rattle.sgml_declared.specs.theory_reading.Unread.{Outside, Sources, turned, opened_length}
use Rattle.sgml_declared.specs.theory_reading.State.{State, sources_in}
use Rattle.sgml_declared.specs.theory_reading.Characters.{kind_noted}
use Rattle.sgml_declared.specs.theory_spelling.Stacked.{Stacked}
use Rattle.sgml_declared.specs.theory_spelling.Sized.{sized, sized_ok}
use Rattle.sgml_declared.specs.theory_spelling.Content.{referred_name}
use Rattle.sgml_declared.specs.theory_spelling.Opened.{StackShows}
use Rattle.sgml_declared.specs.theory_spelling.References.{missing, unless, parameter_text, parameter_of_number, parameter_kind}
use Rattle.sgml_declared.specs.theory_spelling.Prolog.{subset_piece}
use Rattle.sgml_declared.specs.theory_spelling.Decided.{is_before}
use Rattle.sgml_declared.specs.theory_standing.Kept.{Kept, sources_of}
use Rattle.sgml_declared.specs.theory_standing.Prologs.{state_in_prolog, is_over}
use Rattle.sgml_declared.specs.Files.{Choices}
use Rattle.sgml_declared.specs.Opening.{absent_by, unopened_of, IsSupplied, Opens, OpensIn, IsPushed}
use Rattle.sgml_declared.specs.declared.opening.OpenError.{OpenError}
use Rattle.sgml_declared.specs.declared.opening.OpenError.TheVariants as opening
use Rattle.sgml_declared.proofs.Opened.{wanted-are-missing}
use Rattle.sgml_declared.specs.Taking.{stacked_on}
use Rattle.sgml_prolog_steps.specs.Standing.{IsKept}
use Rattle.sgml_prolog_steps.specs.Found.{rest_in, moved_on, mode_of, IsSpelled, IsTokenThere, innermost}
use Rattle.sgml_prolog_steps.specs.declared.sort.Sort.TheVariants as sort
use Rattle.sgml_prolog_steps.specs.declared.references.Said.{Said}
use Rattle.sgml_prolog_steps.specs.declared.references.Said.TheVariants as said
use Rattle.sgml_prolog_steps.specs.declared.stepping.Turn.TheVariants as turns
use Rattle.sgml_prolog_steps.specs.declared.stepping.Stop.TheVariants as stop
use Rattle.sgml_prolog_steps.specs.References.{referred_in, said_in, kind_said, gone_back}
use Rattle.sgml_prolog_steps.specs.Sorts.{sort_in, is_ignored}
use Rattle.sgml_prolog_steps.specs.Steps.{TakesIn, IsStep, IsOutside, begun_on}
use Rattle.sgml_declared.specs.theory_standing.Kept.{rest_of, given, kept_after}
use Rattle.sgml_declared.specs.theory_standing.Next.{after, IsNext, unread_length, left_to_read}
use Rattle.sgml_declared.proofs.theory_standing.Entities.{declared-moved, entity-below}
use Rattle.sgml_declared.specs.theory_reading.Reads.{is_after_subset}
use Rattle.sgml_decl_lexemes.specs.Readings.{entity_of}
use Rattle.sgml_prolog_steps.specs.Standing.{LiesUnder, SubsetLiesUnder}
use Rattle.sgml_prolog_steps.proofs.Top.{apart}
use Rattle.sgml_prolog_steps.proofs.Nesting.{raised}
use Rattle.sgml_prolog_steps.proofs.Shared.{length-first, first-length, unread-moved, length-moved, inside-begun, silent-step, kept-begun, pi-plain, next-plain, after-plain, refused, instruction-step, refused-step}
use Rattle.sgml_prolog_steps.proofs.Bytes.{IsOnePiece, sort_by, piece-is, length-own}

-- THE PIECE

reference-inside : (outside : Outside) (s : State) (t : Stacked) (m : Mode) (own : Text) → subset_piece outside s t m kind.ParameterRef own
    ≡ sized_ok (length own) (parameter_kind outside (sources_in s) t (referred_name s.context.doctype (drop 1 own)))
unfolding subset_piece
reference-inside outside s t mode.Ign own = refl
reference-inside outside s t _ own = refl

reference-is : (before ignored : Bool) (x : TokenKind) (outside : Outside) (s : State) (t : Stacked) (m : Mode) → sort_by before ignored x ≡ sort.Reference
    → IsOnePiece before x outside s t m (λ own. sized_ok (length own) (parameter_kind outside (sources_in s) t (referred_name s.context.doctype (drop 1 own))))
reference-is true ignored kind.Separators outside s t m e = absurd (cc)
reference-is true ignored kind.Pi outside s t m e = absurd (cc)
reference-is true ignored kind.Comment outside s t m e = absurd (cc)
reference-is true ignored kind.Declaration outside s t m e = absurd (cc)
reference-is true ignored _ outside s t m e = absurd (cc)
reference-is false ignored kind.ParameterRef outside s t m e = record { each = refl; piece = λ own. reference-inside outside s t m own }
reference-is false true kind.Chars outside s t m e = absurd (cc)
reference-is false false kind.Chars outside s t m e = absurd (cc)
reference-is false ignored _ outside s t m e = absurd (cc)

reference-spelled : (outside : Outside) (k : Kept) (texts : List (ℕ × Text)) (ended : Bool) (x : Token) → sort_in k x.kind ≡ sort.Reference → IsTokenThere k texts ended x
    → IsSpelled outside k texts ended (sized_ok x.length (parameter_kind outside (sources_of k) (stacked_on k.stack) (referred_name k.doctype (drop 1 (take x.length (rest_in k texts))))))
unfolding state_in_prolog
reference-spelled outside k texts ended x e there =
    let n = referred_name k.doctype (drop 1 (take x.length (rest_in k texts))) in
    let is = reference-is (is_before k.stage) (is_ignored (innermost k.sections)) x.kind outside (state_in_prolog k) (stacked_on k.stack) (mode_of k) e in
    subst (λ m. IsSpelled outside k texts ended (sized_ok m (parameter_kind outside (sources_of k) (stacked_on k.stack) n))) (length-own x.length (rest_in k texts) there.within)
    (piece-is k texts ended x (λ own. sized_ok (length own) (parameter_kind outside (sources_of k) (stacked_on k.stack) (referred_name k.doctype (drop 1 own)))) outside is there)

-- what the entity says tells the piece
long-by : (outside : Outside) (k : Sources) (t : Stacked) (number : ℕ) (text : Text) (b : Bool)
    → (if b then Err reason.PiLength else Ok (Pi text (Some number))) ≡ kind_said outside k t number (if b then said.TooLong else said.Instructs text)
long-by outside k t number text true = refl
long-by outside k t number text false = refl

said-kind : (outside : Outside) (k : Sources) (t : Stacked) (number : ℕ) (o : Option Entity) → entity k.doctype number ≡ o
    → parameter_text outside k t number (option_map (λ (e : Entity). e.body) o) ≡ kind_said outside k t number (said_in k.doctype (option_map (λ (e : Entity). e.body) o))
unfolding unopened_of
said-kind outside k t number None e = refl
said-kind outside k t number (Some x) e = by x.body refl
  where
    by : (b : Body) → x.body ≡ b → parameter_text outside k t number (Some b) ≡ kind_said outside k t number (said_in k.doctype (Some b))
    by (body.Sgml text) f =
        ap (λ a. unless (Rattle.sgml_declared.specs.theory_spelling.References.unopened outside k t number a) (Ref number))
        (sym (ap (λ o. absent_by o (missing outside k number)) e ∙ ap (λ b. Rattle.sgml_declared.specs.Opening.absent_of b (missing outside k number)) f))
    by (body.External external) f =
        ap (λ a. unless (Rattle.sgml_declared.specs.theory_spelling.References.unopened outside k t number a) (Ref number))
        (sym (ap (λ o. absent_by o (missing outside k number)) e ∙ ap (λ b. Rattle.sgml_declared.specs.Opening.absent_of b (missing outside k number)) f))
    by (body.Pi text) f = long-by outside k t number text (nat_lt k.doctype.syntax.quantities.pilen (length text))
    by (body.Cdata text) f = refl
    by (body.Sdata text) f = refl
    by (body.ExternalData kind external notation) f = refl

said-spelled : (outside : Outside) (k : Kept) (texts : List (ℕ × Text)) (ended : Bool) (x : Token) (number : ℕ) → sort_in k x.kind ≡ sort.Reference → IsTokenThere k texts ended x
    → referred_in k texts x.length ≡ Some number
    → IsSpelled outside k texts ended (sized_ok x.length (kind_said outside (sources_of k) (stacked_on k.stack) number (said_in k.doctype (body_of k.doctype number))))
unfolding parameter_kind
said-spelled outside k texts ended x number e there named =
    subst (λ (a : Result Kind Reason). IsSpelled outside k texts ended (sized_ok x.length a))
    (ap (parameter_of_number outside (sources_of k) (stacked_on k.stack)) named ∙ said-kind outside (sources_of k) (stacked_on k.stack) number (entity k.doctype number) refl)
    (reference-spelled outside k texts ended x e there)

unnamed-spelled : (outside : Outside) (k : Kept) (texts : List (ℕ × Text)) (ended : Bool) (x : Token) → sort_in k x.kind ≡ sort.Reference → IsTokenThere k texts ended x
    → referred_in k texts x.length ≡ None → IsSpelled outside k texts ended (Err reason.Undeclared)
unfolding parameter_kind
unnamed-spelled outside k texts ended x e there named =
    subst (λ (a : Result Kind Reason). IsSpelled outside k texts ended (sized_ok x.length a))
    (ap (parameter_of_number outside (sources_of k) (stacked_on k.stack)) named) (reference-spelled outside k texts ended x e there)

-- REFUSED

pub unnamed-step : (c : Choices) (texts : List (ℕ × Text)) (x : Token) (old : Kept) → IsKept old → is_over old ≡ false → sort_in old x.kind ≡ sort.Reference
    → referred_in old texts x.length ≡ None → TakesIn c texts x old old (Err (stop.Refused reason.Undeclared))
unnamed-step c texts x old h g e named ended asked there =
    refused-step c texts ended asked old old reason.Undeclared (λ outside o. refused outside old texts ended reason.Undeclared g (unnamed-spelled outside old texts ended x e there named)) refl

abbrev pub reason_said : Said → Option Reason
reason_said said.Nothing = Some reason.Undeclared
reason_said said.TooLong = Some reason.PiLength
reason_said said.Other = Some reason.EntityKind
reason_said _ = None

said-refused : (outside : Outside) (k : Sources) (t : Stacked) (number : ℕ) (s : Said) (r : Reason) → reason_said s ≡ Some r → kind_said outside k t number s ≡ Err r
said-refused outside k t number said.Nothing r e = ap (λ o. Rattle.std.specs.Prelude.unwrap_or (option_map (λ (z : Reason). Err z) o) (Err r)) e
said-refused outside k t number said.TooLong r e = ap (λ o. Rattle.std.specs.Prelude.unwrap_or (option_map (λ (z : Reason). Err z) o) (Err r)) e
said-refused outside k t number said.Other r e = ap (λ o. Rattle.std.specs.Prelude.unwrap_or (option_map (λ (z : Reason). Err z) o) (Err r)) e
said-refused outside k t number said.Reads r e = absurd (cc)
said-refused outside k t number (said.Instructs text) r e = absurd (cc)

pub said-step : (c : Choices) (texts : List (ℕ × Text)) (x : Token) (old : Kept) (number : ℕ) (s : Said) (r : Reason) → IsKept old → is_over old ≡ false → sort_in old x.kind ≡ sort.Reference
    → referred_in old texts x.length ≡ Some number → s ≡ said_in old.doctype (body_of old.doctype number) → reason_said s ≡ Some r → TakesIn c texts x old old (Err (stop.Refused r))
said-step c texts x old number s r h g e named is w ended asked there =
    refused-step c texts ended asked old old r
    (λ outside o. refused outside old texts ended r g
    (subst (λ (a : Result Kind Reason). IsSpelled outside old texts ended (sized_ok x.length a))
    (ap (kind_said outside (sources_of old) (stacked_on old.stack) number) (sym is) ∙ said-refused outside (sources_of old) (stacked_on old.stack) number s r w)
    (said-spelled outside old texts ended x number e there named))) refl

-- AN INSTRUCTION
pub instructs-step : (c : Choices) (texts : List (ℕ × Text)) (x : Token) (old new : Kept) (number : ℕ) (text : Text) → IsKept old → is_over old ≡ false → sort_in old x.kind ≡ sort.Reference
    → referred_in old texts x.length ≡ Some number → said.Instructs text ≡ said_in old.doctype (body_of old.doctype number) → new ≡ begun_on x.length old
    → TakesIn c texts x old new (Ok (turns.Instruction text (Some number)))
unfolding stage_after
instructs-step c texts x old new number text h g e named is n ended asked there =
    subst (λ (z : Kept). IsStep c texts ended asked old z (Ok (turns.Instruction text (Some number)))) (sym n)
    (instruction-step c texts ended asked old (begun_on x.length old) text (Some number)
    (λ outside o.
    let p : Piece = sized x.length (Pi text (Some number)) in
    let s = subst (λ (y : Said). IsSpelled outside old texts ended (sized_ok x.length (kind_said outside (sources_of old) (stacked_on old.stack) number y))) (sym is)
    (said-spelled outside old texts ended x number e there named) in (
      p,
      next-plain outside old texts ended p h g (pi-plain text (Some number)) there.within s,
      refl,
      sym (after-plain outside old p x.length (stage_begun old.stage) h (pi-plain text (Some number)) refl refl refl),
    ))
    (kept-begun x.length old h) refl)

-- THE LOOK-UPS

pub number-is : (s : Space) (d : Doctype) (es : List Entity) (n m : Text) → es ≡ d.entities → n ≡ m → number_of es s n ≡ entity_number d s m
unfolding entity_number
number-is s d es n m e f = λ i. number_of (e i) s (f i)

pub empty-name : (s : Syntax) (own : Text) → length own < 1 → own ≡ entity_name s own
empty-name s [] l = by s.entity_fold
  where
    by : (b : Bool) → [] ≡ Rattle.sgml_names.specs.Naming.cased b []
    by true = refl
    by false = refl
empty-name s (b ∷ own) l = absurd (omega (arith, l))

pub body-is : (d : Doctype) (es : List Entity) (number : ℕ) (o : Option Entity) → es ≡ d.entities → o ≡ entity_at es number → option_map (λ (e : Entity). e.body) o ≡ body_of d number
unfolding entity
body-is d es number o e f = ap (option_map (λ (x : Entity). x.body)) (f ∙ ap (λ es. entity_at es number) e)

-- A TEXT IS OPENED

reads-some : (d : Doctype) (number : ℕ) → said_in d (body_of d number) ≡ said.Reads → (e : Entity) × (entity d number ≡ Some e)
reads-some d number h = by (entity d number) refl h
  where
    by : (o : Option Entity) → entity d number ≡ o → said_in d (option_map (λ (e : Entity). e.body) o) ≡ said.Reads → (e : Entity) × (entity d number ≡ Some e)
    by None f h = absurd (cc)
    by (Some e) f h = (e, f)

from-two : (n : ℕ) → nat_lt n first_entity ≡ false → 1 < n
from-two n e = search (rules, tests)

some-number : (d : Doctype) (number : ℕ) (e : Entity) → entity d number ≡ Some e → 1 < number
unfolding entity
some-number d number e h = by (nat_lt number first_entity) refl h
  where
    by : (t : Bool) → nat_lt number first_entity ≡ t → (if t then None else Rattle.std.specs.List.slice_get d.entities (number - first_entity)) ≡ Some e → 1 < number
    by true f h = absurd (cc)
    by false f h = from-two number f

other-number : (n m : ℕ) → m < n → (n == m) ≡ false
other-number n m l = by (n == m) refl
  where
    by : (t : Bool) → (n == m) ≡ t → (n == m) ≡ false
    by true e = let same : n ≡ m = eqb-true n m e in absurd (omega (arith, l, same))
    by false e = e

pub entities-moved : (n : ℕ) (ps : List Place) → map (λ (p : Place). p.entity) (moved n ps) ≡ map (λ (p : Place). p.entity) ps
entities-moved n [] = refl
entities-moved n (p ∷ ps) = refl

shows : (c : Choices) (outside : Outside) (k : Kept) (texts : List (ℕ × Text)) (asked : Option Name) (n : ℕ) → IsKept k → IsOutside c outside k texts asked
    → StackShows (moved_on n k).stack outside k.doctype (stacked_on k.stack)
shows c outside k texts asked n h o = record { levels = h.levels; expand = o.expand; spent = refl; entities = entities-moved n k.stack.places }

supplied : (c : Choices) (outside : Outside) (k : Kept) (texts : List (ℕ × Text)) (asked : Option Name) (number : ℕ) → 1 < number → IsOutside c outside k texts asked
    → IsSupplied outside (sources_of k) texts number
supplied c outside k texts asked number l o text given =
    o.supplied number text (omega (arith, l)) (ap (λ b. if b then Rattle.std.specs.Prelude.is_some k.subset else true) (other-number number 1 l)) given

reads-spelled : (outside : Outside) (k : Kept) (texts : List (ℕ × Text)) (ended : Bool) (x : Token) (number : ℕ) → sort_in k x.kind ≡ sort.Reference → IsTokenThere k texts ended x
    → referred_in k texts x.length ≡ Some number → said_in k.doctype (body_of k.doctype number) ≡ said.Reads → (o : Option Reason) → unopened_of outside (sources_of k) (stacked_on k.stack) number ≡ o
    → IsSpelled outside k texts ended (sized_ok x.length (unless o (Ref number)))
reads-spelled outside k texts ended x number e there named reads o w =
    subst (λ (a : Result Kind Reason). IsSpelled outside k texts ended (sized_ok x.length a))
    (ap (kind_said outside (sources_of k) (stacked_on k.stack) number) reads ∙ ap (λ z. unless z (Ref number)) w)
    (said-spelled outside k texts ended x number e there named)

-- as it was before
pub back-places : (ps : List Place) (n d at : ℕ) → d + 1 ≡ length ps → at ≡ offset_of ps → moved_to at (drop (length (moved n ps) - (d + 1)) (moved n ps)) ≡ ps
back-places [] n d at e f = absurd (omega (arith, e))
back-places (p ∷ ps) n d at e f =
    let none : length (moved n (p ∷ ps)) - (d + 1) ≡ 0 = omega (arith, e) in
    ap (λ m. moved_to at (drop m (moved n (p ∷ ps)))) none ∙ ap (λ a. place_at p.entity a ∷ ps) f

pub back-is : (m : StackMark) (old mid new : Kept) (n : ℕ) → m.depth + 1 ≡ length old.stack.places → m.at ≡ offset_of old.stack.places → m.spent ≡ old.stack.spent
    → mid ≡ record old { stack = mid.stack } → mid.stack ≡ (moved_on n old).stack → new ≡ gone_back m mid → new ≡ old
back-is m old mid new n d a s r e g =
    g ∙ (ap (gone_back m) (r ∙ ap (λ (t : Stack). record old { stack = t }) e)
    ∙ (λ i. record old { stack = record old.stack { places = back-places old.stack.places n m.depth m.at d a i; spent = s i } }))

pub open-refused-step : (c : Choices) (texts : List (ℕ × Text)) (x : Token) (old new : Kept) (after' : Stack) (number : ℕ) (r : Reason) (f : OpenError) → IsKept old → is_over old ≡ false
    → sort_in old x.kind ≡ sort.Reference → referred_in old texts x.length ≡ Some number → said_in old.doctype (body_of old.doctype number) ≡ said.Reads
    → f ≡ opening.Refused r → Opens c (sources_of old) texts (moved_on x.length old).stack after' number (Err f) → new ≡ old → TakesIn c texts x old new (Err (stop.Refused r))
open-refused-step c texts x old new after' number r f h g e named reads fr opens same ended asked there =
    refused-step c texts ended asked old new r
    (λ outside o.
    let y = reads-some old.doctype number reads in
    let l = some-number old.doctype number y.0 y.1 in
    let why = subst (λ z. OpensIn outside (sources_of old) (stacked_on old.stack) texts (moved_on x.length old).stack after' number (Err z)) fr
    (opens outside (stacked_on old.stack) o.of_options (supplied c outside old texts asked number l o) (shows c outside old texts asked x.length h o)) in
    refused outside old texts ended r g (reads-spelled outside old texts ended x number e there named reads (Some r) why)) same

pub wanting-step : (k : Kept) (texts : List (ℕ × Text)) (number : ℕ) → text_at k.doctype.entities texts number ≡ None → text_of texts number ≡ None
wanting-step k texts number e = by (internal_text (entity_at k.doctype.entities number)) e
  where
    by : (o : Option Text) → or_given o (text_of texts number) ≡ None → text_of texts number ≡ None
    by None e = e
    by (Some text) e = absurd (cc)

-- what is being read is on the stack
on-same : (n : ℕ) (ps : List Place) → list_any (λ m. m == n) (map (λ (p : Place). p.entity) ps) ≡ is_on n ps
on-same n [] = refl
on-same n (p ∷ ps) = ap (λ b. (p.entity == n) || b) (on-same n ps)

pub open-wanted-step : (c : Choices) (texts : List (ℕ × Text)) (x : Token) (old new : Kept) (after' : Stack) (number : ℕ) (file : Text) (f : OpenError) → IsKept old → is_over old ≡ false
    → sort_in old x.kind ≡ sort.Reference → referred_in old texts x.length ≡ Some number → said_in old.doctype (body_of old.doctype number) ≡ said.Reads
    → f ≡ opening.Wanted file → Opens c (sources_of old) texts (moved_on x.length old).stack after' number (Err f) → new ≡ old → TakesIn c texts x old new (Err (stop.Wanted number file))
open-wanted-step c texts x old new after' number file f h g e named reads fr opens same ended asked there = record {
  steps = λ outside o.
      let y = reads-some old.doctype number reads in
      let l = some-number old.doctype number y.0 y.1 in
      let opens' = subst (λ z. Opens c (sources_of old) texts (moved_on x.length old).stack after' number (Err z)) fr opens in
      let s = supplied c outside old texts asked number l o in
      let t = shows c outside old texts asked x.length h o in
      let w = opens' outside (stacked_on old.stack) o.of_options s t in (
        same,
        record {
          unread = sym (on-same number old.stack.places) ∙ w.unread;
          not_given = wanting-step old texts number w.absent;
          named = inl w.named;
          refused = λ r gone. refused outside old texts ended r g (reads-spelled outside old texts ended x number e there named reads (Some r)
              (wanted-are-missing c (sources_of old) texts (moved_on x.length old).stack after' number file outside (stacked_on old.stack) r opens' o.of_options s t gone));
        },
      );
  falls = tt;
  kept = tt;
  expand = tt;
  left = same;
}

-- the text is at the top then
abbrev pub opened_on : ℕ → ℕ → ℕ → Kept → Kept
opened_on number size n k = record k { stack = opened number size (moved_on n k).stack }

pub lies-opened : (number n : ℕ) (ps : List Place) → (number == 0) ≡ false → LiesUnder ps → LiesUnder (place_at number 0 ∷ moved n ps)
lies-opened number n [] e l = absurd l
lies-opened number n (p ∷ []) e l = (e, l)
lies-opened number n (p ∷ q ∷ ps) e l = (e, l)

subset-opened : (number n : ℕ) (ps : List Place) → (length ps == 1) ≡ false → LiesUnder ps → SubsetLiesUnder ps → SubsetLiesUnder (place_at number 0 ∷ moved n ps)
subset-opened number n [] e u l = absurd u
subset-opened number n (p ∷ []) e u l = absurd (cc)
subset-opened number n (p ∷ q ∷ []) e u l = l
subset-opened number n (p ∷ q ∷ r ∷ ps) e u l = l

pub kept-opened : (k : Kept) (number size n : ℕ) (e : Entity) → IsKept k → is_over k ≡ false → is_before k.stage ≡ false → entity k.doctype number ≡ Some e → IsKept (opened_on number size n k)
unfolding entity
kept-opened k number size n e h g b some =
    let l = some-number k.doctype number e some in record {
      levels = h.levels;
      document = lies-opened number n k.stack.places (other-number number 0 (omega (arith, l))) h.document;
      declared = (entity-below k.doctype.entities number e some, declared-moved k.doctype.entities n k.stack.places h.declared);
      nested = raised (length k.stack.places) (suc (length (moved n k.stack.places))) (reverse k.sections) (let m = length-moved n k.stack.places in omega (arith, m)) h.nested;
      after = λ a. subset-opened number n k.stack.places (two-texts a) h.document (h.after a);
      before = λ a. apart (is_before k.stage) a b;
      named = h.named;
    }
  where
    two-texts : is_after_subset k.stage ≡ true → (length k.stack.places == 1) ≡ false
    two-texts a = sym (ap (λ t. t && (length k.stack.places == 1)) a) ∙ g

pub opened-numbers : (es : List Entity) (texts : List (ℕ × Text)) (number n expand spent : ℕ) (text : Text) (ps : List Place) → LiesUnder ps → 0 < n
    → n ≤ length (drop (offset_of ps) (or_empty (text_at es texts (entity_of ps)))) → text_at es texts number ≡ Some text → spent + length text ≤ expand
    → 2 * (unread_length (map (rest_of es texts) (place_at number 0 ∷ moved n ps)) + (expand - (spent + length text))) + length (place_at number 0 ∷ moved n ps)
    < 2 * (unread_length (map (rest_of es texts) ps) + (expand - spent)) + length ps
opened-numbers es texts number n expand spent text ps l some m there few =
    let a = unread-moved es texts n ps (subst (λ x. n ≤ x) (sym (first-length es texts ps l)) m) in
    let b = length-moved n ps in
    let c = length-drop 0 (or_empty (text_at es texts number)) in
    let d = ap (λ o. length (or_empty o)) there in
    omega (arith, some, a, b, c, d, few)

pub few-by : (on full : Bool) (a b : ℕ) → refusal_by on full (nat_lt a b) ≡ None → b ≤ a
few-by true full a b e = absurd (cc)
few-by false true a b e = absurd (cc)
few-by false false a b e = by (nat_lt a b) refl e
  where
    by : (t : Bool) → nat_lt a b ≡ t → refusal_by false false t ≡ None → b ≤ a
    by true f e = absurd (cc)
    by false f e = search (rules, tests)

pub falls-opened : (k : Kept) (texts : List (ℕ × Text)) (number n : ℕ) (text : Text) → IsKept k → 0 < n → n ≤ length (rest_in k texts) → text_at k.doctype.entities texts number ≡ Some text
    → refusal number (length text) (moved_on n k).stack ≡ None → left_to_read (opened_on number (length text) n k) texts < left_to_read k texts
unfolding left_to_read given
falls-opened k texts number n text h some l there allowed =
    opened-numbers k.doctype.entities texts number n k.stack.expand k.stack.spent text k.stack.places h.document some l there
    (few-by (is_on number (moved n k.stack.places)) (nat_lt k.stack.levels (length (moved n k.stack.places))) k.stack.expand (k.stack.spent + length text) allowed)

ref-turn : (number : ℕ) → (number == 0) ≡ false → turn (Ref number) ≡ OpensText number
unfolding turn
ref-turn number e = ap (λ b. if b then StaysInText else OpensText number) e

ref-after : (outside : Outside) (k : Kept) (number n : ℕ) → IsKept k → (number == 0) ≡ false → stage_begun k.stage ≡ k.stage
    → after outside (sized n (Ref number)) k ≡ opened_on number (length (reading.text_of outside (sources_of k) number)) n k
unfolding kept_after border declares subset_named stage_after
ref-after outside k number n h e g =
    let t = ref-turn number e in
    let length' = length (reading.text_of outside (sources_of k) number) in
    λ i. record {
      doctype = k.doctype;
      stack = record {
        levels = sym h.levels i;
        expand = k.stack.expand;
        spent = (ap (λ u. k.stack.spent + (0 + opened_length (reading.text_of outside (sources_of k)) u)) t ∙ ap (λ m. k.stack.spent + m) (zero-add length')) i;
        places = ap (λ u. turned u (moved n k.stack.places)) t i;
      };
      sections = reverse-reverse k.sections i;
      stage = g i;
      subset = k.subset;
    }

one-number : (a b : ℕ) → OpensText a ≡ OpensText b → a ≡ b
one-number a b e = cc

ref-next : (outside : Outside) (k : Kept) (texts : List (ℕ × Text)) (ended : Bool) (number n : ℕ) → IsKept k → is_over k ≡ false → (number == 0) ≡ false → n ≤ length (rest_in k texts)
    → text_at k.doctype.entities texts number ≡ Some (reading.text_of outside (sources_of k) number)
    → IsSpelled outside k texts ended (Ok (sized n (Ref number))) → IsNext outside k texts ended (sized n (Ref number))
unfolding declares subset_named kind_noted
ref-next outside k texts ended number n h g e l there s = record {
  going_on = g;
  of_prolog = refl;
  decided = s.decided;
  spelled = s.spelled;
  noted = refl;
  there = record {
    within = subst (λ m. n ≤ m) (sym (length-first k texts h)) l;
    opened = λ m f.
        let same = one-number number m (sym (ref-turn number e) ∙ f) in
        subst (λ j. text_at k.doctype.entities texts j ≡ Some (reading.text_of outside (sources_of k) j)) same there;
    subset = λ named text f i. absurd (no-subset named f);
  };
}
  where
    no-subset : {A : Type 0} (a : A) → None ≡ Some a → ⊥
    no-subset a e = cc

inside-reference : (before ignored : Bool) (x : TokenKind) → sort_by before ignored x ≡ sort.Reference → before ≡ false
inside-reference true ignored kind.Separators e = absurd (cc)
inside-reference true ignored kind.Pi e = absurd (cc)
inside-reference true ignored kind.Comment e = absurd (cc)
inside-reference true ignored kind.Declaration e = absurd (cc)
inside-reference true ignored _ e = absurd (cc)
inside-reference false ignored x e = refl

same-texts : (a b : Text) → Some a ≡ Some b → a ≡ b
same-texts a b e = cc

pub opened-step : (c : Choices) (texts : List (ℕ × Text)) (x : Token) (old new : Kept) (number : ℕ) → IsKept old → is_over old ≡ false → sort_in old x.kind ≡ sort.Reference
    → referred_in old texts x.length ≡ Some number → said_in old.doctype (body_of old.doctype number) ≡ said.Reads
    → Opens c (sources_of old) texts (moved_on x.length old).stack new.stack number (Ok tt) → IsPushed old.doctype.entities texts (moved_on x.length old).stack new.stack number
    → new ≡ record old { stack = new.stack } → TakesIn c texts x old new (Ok turns.Silent)
opened-step c texts x old new number h g e named reads opens pushed r ended asked there =
    let y = reads-some old.doctype number reads in
    let l = some-number old.doctype number y.0 y.1 in
    let nz = other-number number 0 (omega (arith, l)) in
    let b = inside-reference (is_before old.stage) (is_ignored (innermost old.sections)) x.kind e in
    let is : new ≡ opened_on number (length pushed.text) x.length old = r ∙ ap (λ (s : Stack). record old { stack = s }) pushed.pushed in
    subst (λ (z : Kept). IsStep c texts ended asked old z (Ok turns.Silent)) (sym is)
    (silent-step c texts ended asked old (opened_on number (length pushed.text) x.length old)
    (λ outside o.
    let w = opens outside (stacked_on old.stack) o.of_options (supplied c outside old texts asked number l o) (shows c outside old texts asked x.length h o) in
    let same : reading.text_of outside (sources_of old) number ≡ pushed.text = same-texts _ _ (sym w.there ∙ pushed.there) in
    let p : Piece = sized x.length (Ref number) in (
      p ∷ [],
      (
        ref-next outside old texts ended number x.length h g nz there.within w.there (reads-spelled outside old texts ended x number e there named reads None w.allowed),
        sym (ref-after outside old number x.length h nz (inside-begun old.stage b) ∙ ap (λ (t : Text). opened_on number (length t) x.length old) same),
      ),
      refl,
    ))
    (falls-opened old texts number x.length pushed.text h there.some there.within pushed.there pushed.allowed)
    (kept-opened old number (length pushed.text) x.length y.0 h g b y.1) refl)
