-- The worked instance: each fact of it is computed.
use Rattle.std.proofs.Common.{◌≡◌, ◌<◌, inl, ℕ, Bool, true, false, List, [], ◌∷◌, Some, None, refl, sym, ◌∙◌, ap, subst, append-nil, arith}
use Rattle.std.specs.Prelude.{bytes_eq, slice_get, codes}
use Rattle.sgml_theory_values.specs.model.Reading.{run}
use Rattle.sgml_theory_values.specs.records.Facts.{noted}
use Rattle.sgml_theory_values.specs.attr.declared.definition.Definition.{Definition}
use Rattle.sgml_theory_values.specs.dtd.Doctypes.{Doctype, definitions_for}
use Rattle.sgml_theory_values.specs.theory_reading.Names.{Name}
use Rattle.sgml_theory_values.specs.theory_reading.Types.{is_declared, element_type, attributes, has_conref, has_required, type_of}
use Rattle.sgml_theory_values.specs.theory_reading.Pieces.{Specification, How, Start}
use Rattle.sgml_theory_values.specs.theory_reading.Facets.{effect, is_omitted, is_omitted_start, is_start, is_finish, ended_type, token, items_of, turn, border, map_set, specified, stage_after, declares, subset_named}
use Rattle.sgml_theory_values.specs.theory_reading.Context.{Level, context_after}
use Rattle.sgml_theory_values.specs.theory_reading.Omission.{allowed, finished}
use Rattle.sgml_theory_values.specs.theory_reading.State.{State, after_piece}
use Rattle.sgml_theory_values.specs.theory_reading.Characters.{has_text, kind_noted, ends_at_once}
use Rattle.sgml_theory_values.specs.theory_reading.Events.{shown, events_of_run}
use Rattle.sgml_theory_values.specs.theory_spelling.Attributes.{unvalued, valued}
use Rattle.sgml_theory_values.specs.theory_spelling.Spelled.{forms}
use Rattle.sgml_theory_values.specs.full.declared.inside.Inside.TheVariants as inside
use Rattle.sgml_theory_values.specs.Laws.{HasValues}
use Rattle.sgml_theory_full.specs.Named.{AllAre, IsGeneralName, IsWritten}
use Rattle.sgml_theory_full.specs.Spellings.{text_of, spellings}
use Rattle.sgml_theory_full.specs.Points.{HasEndTags}
use Rattle.sgml_theory_full.specs.Conforming.{IsPlain, mode_in, InContent, EventsMayBe, IsOver}
use Rattle.sgml_theory_full.specs.Following.{EndHolds, AllHold, Follows, ReadMayBeWritten}
use Rattle.sgml_theory_full.specs.Worked.{D, its_type, its_border, its_pieces, its_events, IsWrittenAgain}
use Rattle.sgml_theory_full.proofs.Plain.{true-false}
use Rattle.sgml_theory_full.proofs.Instances.{over-written}
use Rattle.sgml_theory_values.specs.theory_reading.Outcome.{state_after}

-- WHAT HOLDS of a start where no attribute list is declared
none-at : {A : Type 0} (xs : List Definition) (i : ℕ) (x : Definition) → xs ≡ [] → slice_get xs i ≡ Some x → A
none-at [] i x e h = absurd (never h)
  where
    never : None ≡ Some x → ⊥
    never h = cc
none-at (y ∷ ys) i x e h = absurd (never e)
  where
    never : y ∷ ys ≡ [] → ⊥
    never e = cc

no-attributes : (d : Doctype) (n : Name) → d.lists ≡ [] → attributes d n ≡ []
unfolding attributes
no-attributes d n e = ap (λ ls. definitions_for ls n) e

pub no-values : (s : State) (n : Name) (ss : List Specification) (how : How) (proper once : Bool) → s.context.doctype.lists ≡ [] → ((e a : Name) → s.currents e a ≡ None)
    → unvalued s (Start n ss how proper once) ≡ None → HasValues s (Start n ss how proper once)
no-values s n ss how proper once l c u =
    let d = s.context.doctype in record {
      definitions = record { apart = λ m i j x y h k e. none-at (attributes d m) i x (no-attributes d m l) h; defaults = λ m i x h. none-at (attributes d m) i x (no-attributes d m l) h };
      currents = record { given = λ m i x v h k. none-at (attributes d m) i x (no-attributes d m l) h; shared = λ m e a h. c m a ∙ sym (c e a) };
      unopposed = u;
    }

-- of the end of the innermost element
abbrev heads : Name → List Level → Bool
heads n [] = false
heads n (l ∷ ls) = bytes_eq n l.element

pub end-holds : (s : State) (n : Name) → heads n s.context.levels ≡ true → is_declared s.context.doctype n ≡ true → finished s.context ≡ true → HasEndTags (mode_in s) → EndHolds s n
end-holds s n t k f m = by s.context.levels refl t
  where
    by : (ls : List Level) → s.context.levels ≡ ls → heads n ls ≡ true → EndHolds s n
    by [] e t = true-false (sym t)
    by (l ∷ ls) e t = record { stands = record { known = k; innermost = l; outer = ls; levels = e; its = t; done = f }; mode = m }

pub small : 0 < 256
small = omega arith

its-plain : IsPlain its_border
its-plain = record { over = refl; no_section = refl; no_net = tt; no_setting = tt; none_waits = tt }

its-follows : Follows its_border its_border
its-follows = record { plain = its-plain; quiet = tt; like = refl }

all-hold : AllHold its_border its_pieces
unfolding run noted effect is_omitted is_omitted_start is_start is_finish ended_type token items_of turn border map_set specified stage_after declares subset_named element_type attributes has_conref has_required type_of context_after allowed finished has_text kind_noted ends_at_once shown after_piece unvalued valued
all-hold = (
  record {
    stands = record { known = refl; fits = refl; room = small; mode = refl; proper_is = refl; noted = refl };
    has_values = no-values its_border D [] _ true false refl (λ e a. refl) refl;
    quiet = λ e. true-false e;
  },
  (
    inl (record { stands = record { allowed_there = refl; text = refl }; mode = inl refl }),
    (
      (refl, λ e. inl (record { stands = record { allowed_there = refl; text = refl }; mode = inl refl })),
      (end-holds _ _ refl refl refl (inl (inl refl)), tt),
    ),
  ),
)

its-end : IsOver (state_after its_border its_pieces)
unfolding run noted effect is_omitted is_omitted_start is_start is_finish ended_type token items_of turn border map_set specified stage_after declares subset_named element_type attributes has_conref has_required type_of context_after allowed finished has_text kind_noted ends_at_once shown after_piece unvalued valued
its-end = record { closed = refl; begun = refl }

its-told : events_of_run forms its_border its_pieces ≡ its_events
unfolding run noted effect is_omitted is_omitted_start is_start is_finish ended_type token items_of turn border map_set specified stage_after declares subset_named element_type attributes has_conref has_required type_of context_after allowed finished has_text kind_noted ends_at_once shown after_piece unvalued valued
its-told = refl

its-name : IsGeneralName its_type.syntax D
its-name = record { is_name = refl; folded = refl; short = refl }

all-written : AllAre (IsWritten its_type) its_events
all-written = ((its-name, tt), (tt, (its-name, tt)))

its-text : text_of (spellings its_type inside.Mixed its_events) ≡ codes "<D>x</D>"
unfolding run noted effect is_omitted is_omitted_start is_start is_finish ended_type token items_of turn border map_set specified stage_after declares subset_named element_type attributes has_conref has_required type_of context_after allowed finished has_text kind_noted ends_at_once shown after_piece unvalued valued
its-text = refl

pub is-written-again : ReadMayBeWritten → IsWrittenAgain
is-written-again law =
    let all = law InContent its_border its_border its_pieces (its-follows, tt) all-hold (subst (AllAre (IsWritten its_type)) (sym its-told) all-written) in
    let r = over-written its_type all.0 (state_after its_border its_pieces) its_border all.1 (events_of_run forms its_border its_pieces) all.2 all.3 its-end in record {
      plain = its-plain;
      follows = its-follows;
      holds = all-hold;
      referring = tt;
      told = its-told;
      written = all-written;
      may = subst (EventsMayBe its_type InContent its_border) (append-nil (events_of_run forms its_border its_pieces) ∙ its-told) (r.0.may [] refl);
      text = its-text;
    }
