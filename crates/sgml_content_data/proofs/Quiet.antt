-- Pieces that open and close nothing: neither elements, nor texts, nor marked sections.
use Rattle.std.specs.Prelude.{◌≡◌, ℕ, ◌+◌, ◌≤◌, Bool, true, false, List, [], ◌∷◌, Option, Some, None, length, reverse}
use Rattle.std.specs.Option.{option_or}
use Rattle.std.proofs.Common.{refl, sym, ap, ◌∙◌, subst, arith}
use Rattle.std.proofs.lemmas.List.{reverse-reverse}
use Rattle.sgml_inside.specs.records.Items.{Item, RecordEnd, RecordStart, Data, Markup}
use Rattle.sgml_infer.specs.sgml_dtd.Doctypes.{Doctype}
use Rattle.sgml_infer.specs.sgml_dtd.dtd_maps.declared.uses.MapOf.TheVariants as map_of
use Rattle.sgml_infer.specs.theory_reading.Names.{Text}
use Rattle.sgml_infer.specs.theory_reading.Pieces.{Kind, Char, Re, Rs, Sep, Skipped}
use Rattle.sgml_infer.specs.theory_reading.Facets.{Stays, AfterSubset, effect, items_of, is_omitted, is_omitted_start, is_start, ended_type, specified, turn, OpensText, StaysInText, border, NoBorder, declares, map_set, stage_after, subset_named}
use Rattle.sgml_infer.specs.theory_reading.Unread.{Outside, turned, opened_length}
use Rattle.sgml_infer.specs.theory_reading.Sections.{sections_after}
use Rattle.sgml_infer.specs.theory_reading.Reads.{length_of_first}
use Rattle.sgml_prolog_steps.specs.theory_spelling.Sized.{sized}
use Rattle.sgml_prolog_steps.specs.theory_standing.Kept.{Kept, given, kept_after}
use Rattle.sgml_prolog_steps.specs.theory_standing.Next.{IsThere, after, text_after}
use Rattle.sgml_prolog_steps.specs.theory_standing.Held.{is_of_content}
use Rattle.sgml_prolog_steps.specs.Found.{rest_in, moved_on}
use Rattle.sgml_prolog_steps.proofs.Shared.{first-length}
use Rattle.sgml_entity.specs.Stack.{moved}
use Rattle.sgml_content_steps.specs.Standing.{IsInInstance}

abbrev pub items_with : Option Item → List Item
items_with None = []
items_with (Some i) = i ∷ []

pub record IsQuiet (y : Kind) (it : Option Item) : Type 0 where
  pub turn_is : turn y ≡ StaysInText
  pub border_is : border y ≡ NoBorder
  pub declares_none : (d : Doctype) → declares y d ≡ d
  pub names_none : subset_named y ≡ None
  pub of_content : is_of_content y ≡ true
  pub written : is_omitted y ≡ false
  pub stays : effect y ≡ Stays
  pub no_start : is_start y ≡ false
  pub no_omitted_start : is_omitted_start y ≡ false
  pub ends_none : ended_type y ≡ None
  pub specifies_none : specified y ≡ None
  pub sets_none : map_set y ≡ map_of.Parent
  pub items : items_of y ≡ items_with it
  pub stage : stage_after y AfterSubset ≡ AfterSubset

pub skipped-quiet : (b : ℕ) → IsQuiet (Skipped b) (Some Markup)
unfolding turn border declares subset_named is_omitted effect is_start is_omitted_start ended_type specified map_set items_of stage_after
skipped-quiet b = record {
  turn_is = refl;
  border_is = refl;
  declares_none = λ d. refl;
  names_none = refl;
  of_content = refl;
  written = refl;
  stays = refl;
  no_start = refl;
  no_omitted_start = refl;
  ends_none = refl;
  specifies_none = refl;
  sets_none = refl;
  items = refl;
  stage = refl;
}

pub separator-quiet : (b : ℕ) → IsQuiet (Sep b) None
unfolding turn border declares subset_named is_omitted effect is_start is_omitted_start ended_type specified map_set items_of stage_after
separator-quiet b = record {
  turn_is = refl;
  border_is = refl;
  declares_none = λ d. refl;
  names_none = refl;
  of_content = refl;
  written = refl;
  stays = refl;
  no_start = refl;
  no_omitted_start = refl;
  ends_none = refl;
  specifies_none = refl;
  sets_none = refl;
  items = refl;
  stage = refl;
}

pub character-quiet : (b : ℕ) → IsQuiet (Char b) (Some Data)
unfolding turn border declares subset_named is_omitted effect is_start is_omitted_start ended_type specified map_set items_of stage_after
character-quiet b = record {
  turn_is = refl;
  border_is = refl;
  declares_none = λ d. refl;
  names_none = refl;
  of_content = refl;
  written = refl;
  stays = refl;
  no_start = refl;
  no_omitted_start = refl;
  ends_none = refl;
  specifies_none = refl;
  sets_none = refl;
  items = refl;
  stage = refl;
}

pub end-quiet : (live : Bool) → IsQuiet (Re live) (Some RecordEnd)
unfolding turn border declares subset_named is_omitted effect is_start is_omitted_start ended_type specified map_set items_of stage_after
end-quiet live = record {
  turn_is = refl;
  border_is = refl;
  declares_none = λ d. refl;
  names_none = refl;
  of_content = refl;
  written = refl;
  stays = refl;
  no_start = refl;
  no_omitted_start = refl;
  ends_none = refl;
  specifies_none = refl;
  sets_none = refl;
  items = refl;
  stage = refl;
}

pub start-quiet : IsQuiet Rs (Some RecordStart)
unfolding turn border declares subset_named is_omitted effect is_start is_omitted_start ended_type specified map_set items_of stage_after
start-quiet = record {
  turn_is = refl;
  border_is = refl;
  declares_none = λ d. refl;
  names_none = refl;
  of_content = refl;
  written = refl;
  stays = refl;
  no_start = refl;
  no_omitted_start = refl;
  ends_none = refl;
  specifies_none = refl;
  sets_none = refl;
  items = refl;
  stage = refl;
}

-- WHAT IS KEPT after one of so many bytes: the text at the top is read on

no-turn : (n : ℕ) → StaysInText ≡ OpensText n → ⊥
no-turn n e = cc

none-some : {A : Type 0} (a : A) → None ≡ Some a → ⊥
none-some a e = cc

length-first-in : (k : Kept) (texts : List (ℕ × Text)) → IsInInstance k → length_of_first (given k texts).rests ≡ length (rest_in k texts)
unfolding given
length-first-in k texts h = first-length k.doctype.entities texts k.stack.places h.document

pub quiet-there : (outside : Outside) (k : Kept) (texts : List (ℕ × Text)) (y : Kind) (it : Option Item) (n : ℕ) → IsQuiet y it → IsInInstance k
    → n ≤ length (rest_in k texts) → IsThere outside k texts (sized n y)
quiet-there outside k texts y it n q h l = record {
  within = subst (λ m. n ≤ m) (sym (length-first-in k texts h)) l;
  opened = λ m e. absurd (no-turn m (sym q.turn_is ∙ e));
  subset = λ named text e g. absurd (none-some named (sym q.names_none ∙ e));
}

add-none : (n : ℕ) → n + 0 ≡ n
add-none n = omega arith

pub quiet-after : (outside : Outside) (k : Kept) (y : Kind) (it : Option Item) (n : ℕ) → IsQuiet y it → IsInInstance k → after outside (sized n y) k ≡ moved_on n k
unfolding kept_after
quiet-after outside k y it n q h = λ i. record {
  doctype = q.declares_none k.doctype i;
  stack = record {
    levels = (ap (λ (d : Doctype). d.syntax.quantities.entlvl) (q.declares_none k.doctype) ∙ sym h.levels) i;
    expand = k.stack.expand;
    spent = (ap (λ t. k.stack.spent + (0 + opened_length (text_after outside (sized n y) k) t)) q.turn_is ∙ add-none k.stack.spent) i;
    places = ap (λ t. turned t (moved n k.stack.places)) q.turn_is i;
  };
  sections = (ap (λ b. reverse (sections_after b (length k.stack.places) (reverse k.sections))) q.border_is ∙ reverse-reverse k.sections) i;
  stage = (ap (stage_after y) h.stage ∙ (q.stage ∙ sym h.stage)) i;
  subset = ap (λ o. option_or o k.subset) q.names_none i;
}
