-- The instance begins where the prolog has been read, with nothing open.
use Rattle.std.proofs.Common.{◌≡◌, ℕ, zero, suc, List, [], Option, Some, None, length, replicate, refl, sym, ap, ◌∙◌, subst, append-nil}
use Rattle.std.specs.Prelude.{option_map, true}
use Rattle.std.proofs.lemmas.List.{length-replicate}
use Rattle.sgml_attr.specs.Currents.{current_at}
use Rattle.sgml_dtd.specs.Doctypes.{Doctype}
use Rattle.sgml_declared.specs.theory_reading.Context.{Context, at_start}
use Rattle.sgml_declared.specs.theory_reading.Events.{events}
use Rattle.sgml_declared.specs.theory_reading.Currents.{value_by, definition_number}
use Rattle.sgml_dtd.specs.dtd_attlists.Tables.{list_of}
use Rattle.sgml_content_tags.specs.theory_starts.Starts.{Table}
use Rattle.sgml_declared.specs.theory_spelling.Spelled.{forms}
use Rattle.sgml_declared.specs.theory_standing.Prologs.{is_over}
use Rattle.sgml_content_tags.specs.sgml_infer.Trees.{context_in}
use Rattle.sgml_inside.specs.declared.inside.Inner.{Inner}
use Rattle.sgml_inside.specs.Inside.{ends_in, settings_in}
use Rattle.sgml_inside.specs.Laws.{AreInForce}
use Rattle.sgml_content_tags.specs.sgml_infer.Tables.{name_at, IsNumber}
use Rattle.sgml_prolog_steps.specs.Standing.{IsKept}
use Rattle.sgml_content_tags.specs.sgml_content_steps.Content.{Content, Holds, IsContent}
use Rattle.sgml_content_tags.proofs.sgml_content_steps.Beginning.{instance-begins}
use Rattle.sgml_instance.specs.Stepping.{HasNothing, IsContentOf}
use Rattle.sgml_declared.specs.theory_standing.Kept.{Kept}
use Rattle.sgml_declared.specs.theory_standing.Held.{content_begins, Parses}
use Rattle.sgml_declared.proofs.theory_standing.Parsing.{content-begins-so}
use Rattle.sgml_content_tags.specs.theory_starts.Apart.{HasListsApart}
use Rattle.sgml_content_tags.proofs.theory_starts.Reading.{read-is-apart}
use Rattle.sgml_instance.specs.Laws.{BeginsWithNothing}
use Rattle.sgml_instance.proofs.Placed.{none-wait}

pub begins : BeginsWithNothing
begins c k x e n = λ texts ended I more h o f s p over.
    let apart : HasListsApart x.kept.doctype = subst (λ (z : Kept). HasListsApart z.doctype) (sym e) (read-is-apart k texts I more h s) in
    let parses = content-begins-so k texts I more h s p over in
    record {
      well = refl;
      of_options = o;
      keeps = (content_begins x.kept, n apart, subst (λ (z : Kept). Parses (content_begins z) texts I more h) (sym e) parses);
      follows = f;
      all = sym (append-nil _);
      placed = none-wait h (events forms h) refl;
    }

-- NOTHING IS HELD beside what was kept of the prolog
none-current : (n l a : ℕ) → current_at (replicate n []) l a ≡ None
none-current zero l a = refl
none-current (suc n) zero a = refl
none-current (suc n) (suc l) a = none-current n l a

none-by : (n : ℕ) (list attribute : Option ℕ) → value_by (replicate n []) list attribute ≡ None
none-by n None attribute = refl
none-by n (Some list) None = refl
none-by n (Some list) (Some attribute) = none-current n list attribute

pub record IsEmpty (k : Kept) (x : Content) : Type 0 where
  pub kept : x.kept ≡ k
  pub nothing : HasNothing k.doctype x.tree x.inside x.currents

nothing-held : (k : Kept) (x : Content) → IsEmpty k x → HasListsApart k.doctype → Holds (record x { kept = k }) (content_begins k)
nothing-held k x e apart = record {
  kept = refl;
  context = sym e.nothing.context_is;
  record_ends = ap ends_in (sym e.nothing.none_open);
  map_settings = ap settings_in (sym e.nothing.none_open);
  ended = ap (option_map (name_at k.doctype)) (sym e.nothing.none_ended);
  currents = λ n a. sym (ap (λ (t : Table). value_by t (list_of k.doctype.lists n) (definition_number k.doctype n a)) e.nothing.none_current ∙ none-by (length k.doctype.lists) (list_of k.doctype.lists n) (definition_number k.doctype n a));
  apart = apart;
}

none-in-force : (d : Doctype) (c : Context) (xs : List Inner) → c ≡ at_start d → xs ≡ [] → AreInForce d c.levels xs
none-in-force d c xs e none = subst (λ (z : Context). AreInForce d z.levels xs) (sym e) (subst (AreInForce d []) (sym none) tt)

nothing-is-content : (k : Kept) (x : Content) → IsKept k → is_over k ≡ true → IsEmpty k x → IsContent (record x { kept = k })
nothing-is-content k x h over e = record {
  instance = instance-begins k h over;
  tree = e.nothing.tree_is;
  maps = none-in-force k.doctype (context_in k.doctype x.tree) x.inside.elements e.nothing.context_is e.nothing.none_open;
  room = e.nothing.room;
  ended = none-ended k x.inside.ended e.nothing.none_ended;
  lists = ap length e.nothing.none_current ∙ length-replicate (length k.doctype.lists) [];
}
  where
    none-ended : (k : Kept) (o : Option ℕ) → o ≡ None → Rattle.std.specs.Prelude.IfSome o (IsNumber k.doctype)
    none-ended k None e = tt
    none-ended k (Some n) e = absurd (never e)
      where
        never : Some n ≡ None → ⊥
        never e = cc

pub nothing-more : (k : Kept) (x : Content) → IsKept k → is_over k ≡ true → IsEmpty k x → IsContentOf k x
nothing-more k x h over e =
    let same : record x { kept = k } ≡ x = ap (λ (z : Kept). record x { kept = z }) (sym e.kept) in
    record {
      kept = e.kept;
      content = subst IsContent same (nothing-is-content k x h over e);
      nothing = λ apart.
          let apart-there : HasListsApart k.doctype = subst (λ (z : Kept). HasListsApart z.doctype) e.kept apart in
          subst (λ (z : Content). Holds z (content_begins z.kept)) same (nothing-held k x e apart-there);
    }
