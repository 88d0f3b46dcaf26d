-- A short reference string that has items is as a character or a record start is, but for its items.
use Rattle.std.specs.Prelude.{◌≡◌, ℕ, Bool, true, false, List, [], ◌∷◌, Some, None, Ok, length, ◌≤◌}
use Rattle.std.proofs.Common.{refl, sym, ap, ◌∙◌, subst}
use Rattle.sgml_theory_reading.specs.records.Items.{Item, RecordStart, Data as DataItem}
use Rattle.sgml_theory_reading.specs.records.Facts.{Facts}
use Rattle.sgml_dtd.specs.Doctypes.{Doctype}
use Rattle.sgml_theory_reading.specs.Names.{Text}
use Rattle.sgml_theory_reading.specs.Pieces.{Piece, Kind, Char, Rs, ShortRef, Ordinary}
use Rattle.sgml_theory_reading.specs.Facets.{StaysInText, OpensText, byte_items, effect, items_of, is_omitted, is_omitted_start, is_start, ended_type, specified, turn, border, declares, map_set, stage_after, subset_named, token}
use Rattle.sgml_theory_reading.specs.Context.{Level, context_after, levels_with}
use Rattle.sgml_theory_reading.specs.State.{State, after_piece, first_noted}
use Rattle.sgml_theory_reading.specs.Characters.{kind_noted}
use Rattle.sgml_theory_reading.specs.Unread.{Outside}
use Rattle.sgml_declared.specs.theory_spelling.Sized.{sized}
use Rattle.sgml_declared.specs.theory_standing.Kept.{Kept, kept_after}
use Rattle.sgml_declared.specs.theory_standing.Next.{IsThere, after}
use Rattle.sgml_declared.specs.theory_standing.Held.{Held, state_of, state_after_run, IsSpelledIn}
use Rattle.sgml_declared.specs.theory_standing.Moves.{IsMove, IsNextMove, held_after}
use Rattle.sgml_inside.specs.declared.inside.Inner.{Inner}
use Rattle.sgml_inside.specs.Inside.{ends_in, settings_in, noted_in}
use Rattle.sgml_inside.specs.Laws.{AreInForce}
use Rattle.sgml_inside.proofs.Forced.{noted-is-after, stays}
use Rattle.sgml_prolog_steps.specs.Found.{rest_in}
use Rattle.sgml_content_steps.specs.Standing.{IsInInstance}
use Rattle.sgml_content_steps.proofs.Told.{instance-moved}
use Rattle.sgml_content_steps.specs.Content.{Content, Holds, IsContent, context_of}
use Rattle.sgml_content_data.specs.Taking.{with_item}
use Rattle.sgml_content_data.proofs.Quiet.{IsQuiet, character-quiet, start-quiet, quiet-there}
use Rattle.sgml_content_data.proofs.Holding.{behind}
use Rattle.sgml_content_references.specs.Ordinary.{all_noted_in, with_string}

-- one that is content is as a character, and one that isn't as a record start
abbrev pub plain : Text → Bool → Kind
plain string content = ShortRef string (Ordinary true content)

abbrev pub like : Bool → Kind
like true = Char 0
like false = Rs

abbrev pub item_like : Bool → Item
item_like true = DataItem
item_like false = RecordStart

pub like-quiet : (b : Bool) → IsQuiet (like b) (Some (item_like b))
like-quiet true = character-quiet 0
like-quiet false = start-quiet

after-like : (outside : Outside) (string : Text) (b : Bool) (n : ℕ) (k : Kept) → after outside (sized n (plain string b)) k ≡ after outside (sized n (like b)) k
unfolding kept_after turn border declares subset_named stage_after
after-like outside string true n k = refl
after-like outside string false n k = refl

levels-like : (string : Text) (b : Bool) (ls : List Level) → levels_with (plain string b) ls ≡ levels_with (like b) ls
unfolding token
levels-like string b [] = refl
levels-like string true (l ∷ ls) = refl
levels-like string false (l ∷ ls) = refl

abbrev with_ends : List Facts → State → State
with_ends fs s = record s { record_ends = fs }

state-like : (string : Text) (b : Bool) (n : ℕ) (s : State)
    → after_piece (sized n (plain string b)) s ≡ with_ends (first_noted (byte_items string) s.record_ends) (after_piece (sized n (like b)) s)
unfolding after_piece context_after effect turn border declares subset_named stage_after is_start is_omitted_start ended_type specified map_set items_of
state-like string true n s = λ i. record (with_ends (first_noted (byte_items string) s.record_ends) (after_piece (sized n (Char 0)) s)) {
  context = record { doctype = s.context.doctype; levels = levels-like string true s.context.levels i; begun = s.context.begun; inferred = false };
}
state-like string false n s = λ i. record (with_ends (first_noted (byte_items string) s.record_ends) (after_piece (sized n Rs) s)) {
  context = record { doctype = s.context.doctype; levels = levels-like string false s.context.levels i; begun = s.context.begun; inferred = false };
}

abbrev pub held_with : List Facts → Held → Held
held_with fs x = record x { record_ends = fs }

pub held-like : (outside : Outside) (string : Text) (b : Bool) (n : ℕ) (os : List Piece) (x : Held)
    → held_after outside (behind os n (plain string b)) x
    ≡ held_with (first_noted (byte_items string) (state_after_run os (state_of x)).record_ends) (held_after outside (behind os n (like b)) x)
held-like outside string b n os x =
    let same = state-like string b n (state_after_run os (state_of x)) in
    λ i. record {
      kept = after-like outside string b n x.kept i;
      levels = (same i).context.levels;
      begun = (same i).context.begun;
      record_ends = (same i).record_ends;
      ended = (same i).ended;
      map_settings = (same i).map_settings;
      currents = (same i).currents;
    }

-- WHAT IS KEPT holds what is held after it
settings-one : (i : Item) (xs : List Inner) → settings_in (noted_in i xs) ≡ settings_in xs
settings-one i xs = (noted-is-after i xs).1

settings-all : (is : List Item) (xs : List Inner) → settings_in (all_noted_in is xs) ≡ settings_in xs
settings-all [] xs = refl
settings-all (i ∷ is) xs = settings-all is (noted_in i xs) ∙ settings-one i xs

ends-all : (is : List Item) (xs : List Inner) → first_noted is (ends_in xs) ≡ ends_in (all_noted_in is xs)
ends-all [] [] = refl
ends-all [] (x ∷ xs) = refl
ends-all (i ∷ is) [] = ends-all is []
ends-all (i ∷ is) (x ∷ xs) = ends-all is (noted_in i (x ∷ xs))

pub holds-like : (outside : Outside) (string : Text) (b : Bool) (n : ℕ) (os : List Piece) (x : Held) (c : Content)
    → Holds (with_item n (Some (item_like b)) c) (held_after outside (behind os n (like b)) x) → (state_after_run os (state_of x)).record_ends ≡ ends_in c.inside.elements
    → Holds (with_string n string c) (held_after outside (behind os n (plain string b)) x)
holds-like outside string b n os x c h e =
    let is = byte_items string in
    let xs = c.inside.elements in
    subst (λ (z : Held). Holds (with_string n string c) z) (sym (held-like outside string b n os x)) (record {
      kept = h.kept;
      context = h.context;
      record_ends = ap (first_noted is) e ∙ ends-all is xs;
      map_settings = h.map_settings ∙ (settings-one (item_like b) xs ∙ sym (settings-all is xs));
      ended = h.ended;
      currents = h.currents;
      apart = h.apart;
    })

maps-all : (d : Doctype) (ls : List Level) (is : List Item) (xs : List Inner) → AreInForce d ls xs → AreInForce d ls (all_noted_in is xs)
maps-all d ls [] xs f = f
maps-all d ls (i ∷ is) xs f = maps-all d ls is (noted_in i xs) ((stays d ls xs f).noted i)

pub string-content : (n : ℕ) (string : Text) (c : Content) → IsContent c → IsContent (with_string n string c)
string-content n string c is = record {
  instance = instance-moved n c.kept is.instance;
  tree = is.tree;
  maps = maps-all c.kept.doctype (context_of c).levels (byte_items string) c.inside.elements is.maps;
  room = is.room;
  ended = is.ended;
  lists = is.lists;
}

-- IT IS A MOVE, where it is noted as it is
no-turn : (n : ℕ) → StaysInText ≡ OpensText n → ⊥
no-turn n e = cc

none-some : {A : Type 0} (a : A) → None ≡ Some a → ⊥
none-some a e = cc

plain-turn : (string : Text) (b : Bool) → turn (plain string b) ≡ StaysInText
unfolding turn
plain-turn string b = refl

plain-names : (string : Text) (b : Bool) → subset_named (plain string b) ≡ None
unfolding subset_named
plain-names string b = refl

plain-written : (string : Text) (b : Bool) → is_omitted (plain string b) ≡ false
unfolding is_omitted
plain-written string b = refl

pub plain-next : (outside : Outside) (texts : List (ℕ × Text)) (ended : Bool) (c : Content) (x : Held) (os : List Piece) (string : Text) (b : Bool) (n : ℕ)
    → IsContent c → Holds c x → n ≤ length (rest_in c.kept texts) → IsSpelledIn outside x texts ended (Ok (sized n (plain string b)))
    → kind_noted (state_of x) (plain string b) ≡ plain string b → IsMove (state_of x) (sized n (plain string b)) (behind os n (plain string b))
    → IsNextMove outside x texts ended (behind os n (plain string b))
plain-next outside texts ended c x os string b n is h l s noted m =
    let y = plain string b in
    let there : IsThere outside x.kept texts (sized n (like b)) =
    quiet-there outside x.kept texts (like b) (Some (item_like b)) n (like-quiet b) (subst IsInInstance (sym h.kept) is.instance)
    (subst (λ (k : Kept). n ≤ length (rest_in k texts)) (sym h.kept) l) in
    record {
      piece = sized n y;
      spelled = s;
      moves = subst (λ (z : Kind). IsMove (state_of x) (sized n z) (behind os n y)) (sym noted) m;
      of_content = refl;
      written = plain-written string b;
      there = record {
        within = there.within;
        opened = λ k f. absurd (no-turn k (sym (plain-turn string b) ∙ f));
        subset = λ named text f g. absurd (none-some named (sym (plain-names string b) ∙ f));
      };
    }
