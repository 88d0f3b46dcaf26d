use Rattle.std.specs.Prelude.{◌≡◌, ℕ, Option, None, Some, is_some, false, slice_get}
use Rattle.std.proofs.Common.{refl, sym, ◌∙◌, subst}
use Rattle.sgml_dtd.specs.Doctypes.{Doctype}
use Rattle.sgml_dtd.specs.dtd_attlists.Tables.{list_of}
use Rattle.sgml_dtd.specs.dtd_elements.Types.{ElementType, types}
use Rattle.sgml_infer.specs.Tables.{name_in}
use Rattle.sgml_infer.specs.Trees.{IsTreeOf}
use Rattle.sgml_starts.specs.Starts.{list_in}
use Rattle.sgml_content_steps.specs.Content.{Content}
use Rattle.sgml_content_tags.proofs.values.is_listless.Goals as goal

none : (o : Option ℕ) → is_some o ≡ false → o ≡ None
none None e = refl
none (Some n) e = cc

listless : (d : Doctype) (o : Option ElementType) → is_some (list_of d.lists (name_in o)) ≡ false → list_in d o ≡ None
listless d None e = refl
listless d (Some t) e = none (list_of d.lists t.name) e

pub returns : goal.returns
returns c = λ is.
    let d = c.args.content.now.kept.doctype in
    listless d (slice_get (types d.elements) c.args.number)
    (sym (c.has_list.ensures d (subst (λ (x : Content). IsTreeOf d x.tree) (sym c.content.view_is) c.requires.content.tree) c.requires.number) ∙ c.if-has_list.false)
