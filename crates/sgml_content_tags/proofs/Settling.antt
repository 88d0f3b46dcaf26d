-- What a start makes of the open elements and of what stands inside them.
use Rattle.std.specs.Prelude.{◌≡◌, ℕ, Bool, true, false, ◌||◌, Option, Some, None, IsSomeAnd, List, [], ◌∷◌, ◌++◌, slice_get}
use Rattle.std.proofs.Common.{sym, ap, ◌∙◌, append_assoc}
use Rattle.sgml_dtd.specs.dtd_maps.declared.uses.MapOf.{MapOf}
use Rattle.sgml_infer.specs.declared.tree.Tree.{Tree}
use Rattle.sgml_infer.specs.Visibles.{plain, EndsAtOnceIn}
use Rattle.sgml_infer.proofs.Growing.{plain-at-once}
use Rattle.sgml_text.specs.declared.place.Place.{Place}
use Rattle.sgml_attr.specs.declared.value.AttrValue.{AttrValue}
use Rattle.sgml_events.specs.declared.event.Event.{Event}
use Rattle.sgml_inside.specs.Inside.{Inside, opened_in}
use Rattle.sgml_content_steps.specs.Content.{Content}
use Rattle.sgml_content_tags.specs.Starts.{is_void_at, begun_with, begin_told, Settles}

-- of a type that is declared EMPTY nothing is begun
pub settles-void : (tree : Tree) (conref net : Bool) → Settles true conref net tree tree
settles-void tree conref net t c n specifications how proper size spent e h = h ∙ sym (plain-at-once n specifications how proper size spent c)

pub settles-conref : (old new : Tree) (net : Bool) → EndsAtOnceIn old new → Settles false true net old new
settles-conref old new net ends t c n specifications how proper size spent e h =
    ends t c n specifications (plain how) proper size spent h ∙ sym (plain-at-once n specifications how proper size spent c)

-- what is told one after another
pub three-told : {A : Type 0} (before released started after ends : List A) (noted : List A) (e : A) → noted ≡ before ++ released → started ≡ noted ++ e ∷ [] → after ≡ started ++ ends
    → after ≡ before ++ (released ++ (e ∷ ends))
three-told before released started after ends noted e n s a =
    a ∙ (ap (λ es. es ++ ends) s
    ∙ (append_assoc noted (e ∷ []) ends
    ∙ (ap (λ es. es ++ (e ∷ ends)) n ∙ append_assoc before released (e ∷ ends))))

pub opens-inside : (number : ℕ) (old new : Inside) (m : MapOf) → new.elements ≡ opened_in m old.elements → new.ended ≡ old.ended → new.room ≡ old.room
    → new ≡ begun_with m number false old
opens-inside number old new m e n r = λ i. record {
  elements = e i;
  ended = n i;
  room = r i;
}

pub told-in : (before after : List Event) (z old : Content) (place : Place) (number : ℕ) (included a void conref : Bool) (values : List AttrValue) → z ≡ old
    → after ≡ before ++ begin_told place z.inside number included a values → a ≡ (void || conref) → void ≡ is_void_at old.kept.doctype number
    → after ≡ before ++ begin_told place old.inside number included (is_void_at old.kept.doctype number || conref) values
told-in before after z old place number included a void conref values e t f v =
    t ∙ (ap (λ (b : Bool). before ++ begin_told place z.inside number included b values) (f ∙ ap (λ (b : Bool). b || conref) v)
    ∙ ap (λ (c : Content). before ++ begin_told place c.inside number included (is_void_at old.kept.doctype number || conref) values) e)
