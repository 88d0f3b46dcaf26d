-- A WORKED INSTANCE, in which tags were left out and a record end waits before the end: it is what the laws speak of.
use Rattle.std.specs.Prelude.{◌≡◌, true, false, List, [], ◌∷◌, codes, Some}
use Rattle.sgml_theory_values.specs.syntax.Implied.{implied_syntax}
use Rattle.sgml_theory_values.specs.model.declared.token.GroupToken.TheVariants as token
use Rattle.sgml_theory_values.specs.decl_forms.declared.element.ContentForm.TheVariants as form
use Rattle.sgml_theory_values.specs.dtd.Doctypes.{Doctype, nothing}
use Rattle.sgml_theory_values.specs.theory_reading.Names.{Name}
use Rattle.sgml_theory_values.specs.theory_reading.Pieces.{Piece, Start, End, Char, Re, Omitted}
use Rattle.sgml_theory_values.specs.theory_reading.Context.{piece_of}
use Rattle.sgml_theory_values.specs.theory_reading.State.{State}
use Rattle.sgml_theory_values.specs.theory_reading.Events.{Event as Said, Started, Ended, Byte, events_of_run}
use Rattle.sgml_theory_values.specs.theory_spelling.Spelled.{forms}
use Rattle.sgml_theory_values.specs.full.declared.inside.Inside.TheVariants as inside
use Rattle.sgml_theory_values.specs.Worked.{before_instance}
use Rattle.sgml_theory_full.specs.Named.{AllAre, IsWritten}
use Rattle.sgml_theory_full.specs.Spellings.{text_of, spellings}
use Rattle.sgml_theory_full.specs.Conforming.{IsPlain, InContent, EventsMayBe}
use Rattle.sgml_theory_full.specs.Following.{AllHold, IsReferring, Follows}

abbrev pub D : Name
D = codes "D"

-- the document type D with <!ELEMENT D O O (#PCDATA)>
abbrev pub its_type : Doctype
its_type = record (nothing implied_syntax) {
  name = Some D;
  elements = record {
    names = D ∷ [];
    omits = record { start = true; end = true };
    body = record {
      content = form.Model (token.Begin ∷ token.Pcdata ∷ token.Finish ∷ []);
      excluded = [];
      included = [];
    };
  } ∷ [];
}

-- where its declaration ends
abbrev pub its_border : State
its_border = before_instance its_type

-- what is read there of `x` and a record end, up to the document's end
abbrev pub its_pieces : List Piece
its_pieces =
    piece_of (Start D [] Omitted true false) ∷ piece_of (Char 120) ∷ piece_of (Re true) ∷ piece_of (End D Omitted) ∷ []

abbrev pub its_events : List Said
its_events = Started D [] ∷ Byte 120 ∷ Ended D ∷ []

-- LAW: all that the laws need holds of it
pub record IsWrittenAgain : Type 0 where
  pub plain : IsPlain its_border
  pub follows : Follows its_border its_border
  pub holds : AllHold its_border its_pieces
  pub referring : IsReferring its_border.context
  pub told : events_of_run forms its_border its_pieces ≡ its_events
  pub written : AllAre (IsWritten its_type) its_events
  pub may : EventsMayBe its_type InContent its_border its_events
  pub text : text_of (spellings its_type inside.Mixed its_events) ≡ codes "<D>x</D>"
