-- What the tags that end elements are spelled as, by the types that they name or that are open.
use Rattle.std.specs.Prelude.{◌≡◌, ℕ, ◌≤◌, Bool, option_map, List, length, take, Option, Some, None, Result, Ok, Err}
use Rattle.std.proofs.Common.{refl, sym, ap, ◌∙◌, subst, inl}
use Rattle.sgml_text.specs.declared.reason.Reason.{Reason}
use Rattle.sgml_text.specs.declared.reason.Reason.TheVariants as reason
use Rattle.sgml_scan.specs.declared.state.ScanState.{ScanState}
use Rattle.sgml_scan.specs.declared.state.Token.{Token}
use Rattle.sgml_markup.specs.declared.kinds.TokenKind.TheVariants as kind
use Rattle.sgml_events.specs.declared.event.Event.{Event}
use Rattle.sgml_theory_spelling.specs.theory_reading.Names.{Name, Text}
use Rattle.sgml_theory_spelling.specs.theory_reading.Pieces.{Piece, End, How, Tag, Short, Net}
use Rattle.sgml_theory_spelling.specs.theory_reading.Context.{Context}
use Rattle.sgml_theory_spelling.specs.theory_reading.ShortTags.{empty_end_type, net_type}
use Rattle.sgml_theory_spelling.specs.theory_reading.Unread.{Outside}
use Rattle.sgml_theory_spelling.specs.theory_reading.Reads.{undefined, unless_declared}
use Rattle.sgml_theory_spelling.specs.Sized.{sized, sized_ok}
use Rattle.sgml_theory_spelling.specs.Tags.{element_of}
use Rattle.sgml_theory_spelling.specs.Content.{ending_of}
use Rattle.sgml_declared.specs.theory_standing.Kept.{Kept}
use Rattle.sgml_declared.specs.theory_standing.Held.{Held, state_of, IsSpelledIn}
use Rattle.sgml_infer.specs.Tables.{name_at}
use Rattle.sgml_infer.specs.declared.visible.Visible.{Visible}
use Rattle.sgml_infer.specs.declared.visible.Visible.TheVariants as visible
use Rattle.sgml_prolog_steps.specs.Found.{rest_in}
use Rattle.sgml_prolog_steps.specs.declared.stepping.Stop.{Stop}
use Rattle.sgml_prolog_steps.specs.declared.stepping.Stop.TheVariants as stop
use Rattle.sgml_content_steps.specs.Standing.{IsHeld, IsSpelledNext}
use Rattle.sgml_content_steps.specs.Modes.{IsInnermost}
use Rattle.sgml_content_steps.specs.Found.{IsTokenThere}
use Rattle.sgml_content_steps.proofs.Pieces.{end-tags-are-pieces, empty-ends-are-pieces, nets-are-pieces}
use Rattle.sgml_content_steps.specs.Content.{Content, Holds, IsContent, context_of}
use Rattle.sgml_content_steps.specs.Steps.{Takes, Tells}
use Rattle.sgml_content_tags.specs.Named.{number_named}
use Rattle.sgml_content_tags.specs.Ends.{IsEndSpelled, TellsEnd}
use Rattle.sgml_content_tags.proofs.Numbered.{name-of-number, none-declared, undefined-name}
use Rattle.sgml_content_tags.proofs.Levels.{innermost-type}
use Rattle.sgml_content_tags.proofs.Undefined.{undefined-against}
use Rattle.sgml_content_tags.proofs.Still.{end-still, noted-still}
use Rattle.sgml_content_tags.proofs.Stopping.{silent, leaves-itself, stop-step, refused-next}

-- A TOKEN that is spelled as the end of an element
pub tag-tells : (texts : List (ℕ × Text)) (t : Token) (visible : Visible) (number : ℕ) (old new : Content) (before after : List Event) (result : Result (Unit {0}) Stop)
    → t.length ≤ length (rest_in old.kept texts)
    → ((st : ScanState) (more : Bool) → IsTokenThere old.kept st texts more t → IsEndSpelled old st texts more t.length visible number)
    → TellsEnd texts t.length visible number old new before after result → Tells texts t old new before after result
tag-tells texts t visible number old new before after result within spelled told = (
  told.0,
  told.1,
  told.2,
  λ c st more there. told.3 c st more there.some within (spelled st more there),
)

-- by what is known of the open elements
by-context : (old : Content) (st : ScanState) (texts : List (ℕ × Text)) (more : Bool) (piece : Option Name → Result Piece Reason) (type : Context → Option Name) (o : Option Name)
    → type (context_of old) ≡ o → IsSpelledNext old.kept st texts more (λ outside s. piece (type s.context))
    → (outside : Outside) (x : Held) → Holds old x → IsHeld old.kept st x → IsSpelledIn outside x texts more (piece o)
by-context old st texts more piece type o e s outside x h held =
    subst (λ (q : Option Name). IsSpelledIn outside x texts more (piece q)) (ap type h.context ∙ e) (s outside x held)

-- none is open that it ends
none-tells : (how : How) (type : Context → Option Name) (texts : List (ℕ × Text)) (t : Token) (old : Content) (told : List Event) → IsContent old → type (context_of old) ≡ None
    → ((st : ScanState) (more : Bool) → IsTokenThere old.kept st texts more t
    → IsSpelledNext old.kept st texts more (λ outside s. sized_ok t.length (ending_of how (type s.context))))
    → Tells texts t old old told told (Err (stop.Refused reason.NotOpen))
none-tells how type texts t old told is e spelled =
    silent (λ told. Takes texts t old old told (Err (stop.Refused reason.NotOpen))) old.kept told told refl
    (λ c st more there. stop-step c st texts more old old (stop.Refused reason.NotOpen)
    (λ outside x options h held. inl (by-context old st texts more (λ o. sized_ok t.length (ending_of how o)) type None e (spelled st more there) outside x h held))
    (leaves-itself old) is)

-- AN END-TAG
module _ (texts : List (ℕ × Text)) (t : Token) (old : Content) (is_tag : t.kind ≡ kind.EndTag) where
  abbrev named : Name
  named = element_of old.kept.doctype (take t.length (rest_in old.kept texts))

  abbrev tag_piece : Name → Piece
  tag_piece n = sized t.length (End n Tag)

  tag-spelled : (st : ScanState) (more : Bool) → IsTokenThere old.kept st texts more t → IsSpelledNext old.kept st texts more (λ outside s. Ok (tag_piece named))
  tag-spelled st more there = end-tags-are-pieces old.kept st texts more t there is_tag

  pub tag-ends : (number : ℕ) → number_named old.kept.doctype (take t.length (rest_in old.kept texts)) ≡ Some number
      → (st : ScanState) (more : Bool) → IsTokenThere old.kept st texts more t → IsEndSpelled old st texts more t.length (visible.EndTag number) number
  tag-ends number e st more there outside x h held =
      subst (λ (n : Name). IsSpelledIn outside x texts more (Ok (tag_piece n))) (sym (name-of-number old.kept.doctype named number e)) (tag-spelled st more there outside x held)

  undeclared-here : number_named old.kept.doctype (take t.length (rest_in old.kept texts)) ≡ None → (x : Held) → Holds old x
      → undefined (state_of x).context (End named Tag) ≡ Some reason.Undefined
  undeclared-here e x h =
      ap (λ (k : Kept). unless_declared k.doctype named) h.kept ∙ undefined-name old.kept.doctype named (none-declared old.kept.doctype named e)

  pub tag-undefined : (told : List Event) → IsContent old → number_named old.kept.doctype (take t.length (rest_in old.kept texts)) ≡ None
      → Tells texts t old old told told (Err (stop.Refused reason.Undefined))
  tag-undefined told is e =
      silent (λ told. Takes texts t old old told (Err (stop.Refused reason.Undefined))) old.kept told told refl
      (λ c st more there. stop-step c st texts more old old (stop.Refused reason.Undefined)
      (λ outside x options h held. refused-next outside x texts more (tag_piece named) reason.Undefined (tag-spelled st more there outside x held)
      (noted-still (state_of x) (tag_piece named) (end-still named Tag))
      (undefined-against (state_of x) (tag_piece named) (undeclared-here e x h)))
      (leaves-itself old) is)

-- AN EMPTY END-TAG
empty-type : (old : Content) (o : Option ℕ) → IsInnermost old.kept.doctype o (context_of old).levels
    → empty_end_type (context_of old) ≡ option_map (name_at old.kept.doctype) o
unfolding empty_end_type
empty-type old o h = sym (innermost-type old.kept.doctype o (context_of old).levels h)

pub empty-ends : (texts : List (ℕ × Text)) (t : Token) (old : Content) (number : ℕ) → t.kind ≡ kind.EmptyEnd → IsInnermost old.kept.doctype (Some number) (context_of old).levels
    → (st : ScanState) (more : Bool) → IsTokenThere old.kept st texts more t → IsEndSpelled old st texts more t.length visible.EndCurrent number
empty-ends texts t old number k e st more there =
    by-context old st texts more (λ o. sized_ok t.length (ending_of Short o)) empty_end_type (Some (name_at old.kept.doctype number))
    (empty-type old (Some number) e) (empty-ends-are-pieces old.kept st texts more t there k)

pub empty-none : (texts : List (ℕ × Text)) (t : Token) (old : Content) (told : List Event) → t.kind ≡ kind.EmptyEnd → IsContent old
    → IsInnermost old.kept.doctype None (context_of old).levels → Tells texts t old old told told (Err (stop.Refused reason.NotOpen))
empty-none texts t old told k is e =
    none-tells Short empty_end_type texts t old told is (empty-type old None e) (λ st more there. empty-ends-are-pieces old.kept st texts more t there k)

-- NET
pub net-ends : (texts : List (ℕ × Text)) (t : Token) (old : Content) (number : ℕ) → t.kind ≡ kind.Net → Some (name_at old.kept.doctype number) ≡ net_type (context_of old)
    → (st : ScanState) (more : Bool) → IsTokenThere old.kept st texts more t → IsEndSpelled old st texts more t.length visible.Net number
net-ends texts t old number k e st more there =
    by-context old st texts more (λ o. sized_ok t.length (ending_of Net o)) net_type (Some (name_at old.kept.doctype number))
    (sym e) (nets-are-pieces old.kept st texts more t there k)

pub net-none : (texts : List (ℕ × Text)) (t : Token) (old : Content) (told : List Event) → t.kind ≡ kind.Net → IsContent old
    → None ≡ net_type (context_of old) → Tells texts t old old told told (Err (stop.Refused reason.NotOpen))
net-none texts t old told k is e =
    none-tells Net net_type texts t old told is (sym e) (λ st more there. nets-are-pieces old.kept st texts more t there k)
