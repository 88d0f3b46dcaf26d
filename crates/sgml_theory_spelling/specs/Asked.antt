-- How what `sgml_decl_lexemes` is asked with shows what is unread: the stack of places, the entities, and the
-- texts that were given so far.
use Rattle.std.specs.Prelude.{◌≡◌, ℕ, true, List, [], ◌∷◌, drop, take, None, Some, is_some, Ok, Err}
use Rattle.sgml_scan.specs.text.declared.place.Place.{Place}
use Rattle.sgml_scan.specs.text.declared.reason.Reason.{Reason}
use Rattle.sgml_theory_reading.specs.entity.declared.kinds.Entity.{Entity}
use Rattle.sgml_theory_reading.specs.entity.Entities.{entity_at}
use Rattle.sgml_theory_reading.specs.entity.Stack.{Stack}
use Rattle.sgml_theory_reading.specs.entity.Texts.{text_of}
use Rattle.sgml_scan.specs.text.Characters.{all_sgml}
use Rattle.sgml_theory_reading.specs.decl_parts.Ends.{construct_end}
use Rattle.sgml_theory_reading.specs.decl_parts.declared.ends.Construct.TheVariants.{Declaration as Declaring}
use Rattle.sgml_theory_reading.specs.decl_lexemes.declared.lexeme.Lexeme.{Lexeme}
use Rattle.sgml_theory_reading.specs.decl_lexemes.declared.fault.LexError.TheVariants.{Wanted, Refused}
use Rattle.sgml_theory_reading.specs.decl_lexemes.Sources.{text_at, or_empty}
use Rattle.sgml_theory_reading.specs.decl_lexemes.Declares.{Asked, rest, is_asked, Answers}
use Rattle.sgml_theory_reading.specs.decl_lexemes.Wholeness.{is_end_reached}
use Rattle.sgml_theory_reading.specs.dtd.Doctypes.{Doctype}
use Rattle.sgml_theory_reading.specs.Unread.{Outside, Rest, Standing}
use Rattle.sgml_theory_reading.specs.Reads.{more_of}
use Rattle.sgml_theory_spelling.specs.Stacked.{stacked}
use Rattle.sgml_theory_spelling.specs.Texts.{texts_of, missing_entity}
use Rattle.sgml_theory_spelling.specs.Declared.{lexed, is_whole}

-- each place stands at what is unread of its text, of the document's as far as it was given: `more` is
-- to come
abbrev pub ArePlacesOf : List Entity → List (ℕ × List ℕ) → List ℕ → List Place → List Rest → Type 0
ArePlacesOf es texts more [] [] = Unit {0}
ArePlacesOf es texts more (p ∷ ps) (r ∷ rs) =
    (p.entity ≡ r.entity)
    × (r.bytes ≡ more_of more r.entity (drop p.at (or_empty (text_at es texts p.entity))))
    × ArePlacesOf es texts more ps rs
ArePlacesOf es texts more _ _ = ⊥

pub record ShowsUnread (q : Asked) (outside : Outside) (d : Doctype) (t : Standing) (more : List ℕ) : Type 0 where
  pub syntax : q.syntax ≡ d.syntax
  pub entities : q.entities ≡ d.entities
  -- the texts that were given are those that there are
  pub given : (n : ℕ) (text : List ℕ) → is_some (entity_at q.entities n) ≡ true → text_of q.texts n ≡ Some text → text_of (texts_of outside q.entities) n ≡ Some text
  pub levels : q.stack.levels ≡ d.syntax.quantities.entlvl
  pub expand : q.stack.expand ≡ outside.expand
  pub spent : q.stack.spent ≡ t.spent
  pub places : ArePlacesOf q.entities q.texts more q.stack.places t.rests

-- the first bytes of what is unread
abbrev pub front : ℕ → List Rest → List ℕ
front n [] = []
front n (r ∷ rs) = take n r.bytes

-- What has its end there is answered as it is spelled: its lexemes, or why it has none and whether the end of
-- a declaration is reached there, or the text that is wanted where it isn't there.
pub record AnsweredAsSpelled (q : Asked) (outside : Outside) (d : Doctype) (t : Standing) (n : ℕ) : Type 0 where
  pub lexemes : (ds : List Lexeme) (after : Stack) → Answers q (Ok ds) after → lexed q.construct outside d (stacked t) (front n t.rests) ≡ Ok (record { lexemes = ds; spent = after.spent })
  pub refusal : (r : Reason) (after : Stack) → Answers q (Err (Refused r)) after → lexed q.construct outside d (stacked t) (front n t.rests) ≡ Err r
  pub whole : (r : Reason) (after : Stack) → q.construct ≡ Declaring → Answers q (Err (Refused r)) after → is_whole outside d (stacked t) (front n t.rests) ≡ is_end_reached q
  pub wants : (m : ℕ) (after : Stack) → Answers q (Err (Wanted m)) after → text_of (texts_of outside q.entities) m ≡ None
      → lexed q.construct outside d (stacked t) (front n t.rests) ≡ Err (missing_entity outside d m)

abbrev pub AskedIsSpelled : Type 0
AskedIsSpelled =
    (q : Asked) (outside : Outside) (d : Doctype) (t : Standing) (more : List ℕ) (n : ℕ) → ShowsUnread q outside d t more → is_asked q ≡ true
    → construct_end q.syntax.names q.construct (rest q) ≡ Some n → all_sgml (take n (rest q)) ≡ true → AnsweredAsSpelled q outside d t n
