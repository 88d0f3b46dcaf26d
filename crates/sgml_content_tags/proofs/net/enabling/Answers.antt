use Rattle.std.proofs.Common.{sym, ap, ◌∙◌, subst}
use Rattle.sgml_theory_spelling.specs.theory_reading.ShortTags.{net_type}
use Rattle.sgml_infer.specs.Trees.{context_in, HasPlaces}
use Rattle.sgml_content_steps.specs.Content.{Content}
use Rattle.sgml_content_tags.proofs.Levels.{net-within, net-is, net-none}
use Rattle.sgml_content_tags.proofs.net.enabling.Goals as goal

pub path-requires-clause-level : goal.path-requires-clause-level
path-requires-clause-level c =
    net-within c.args.content.now.kept.doctype c.content.inside.tree c.in-Some.level
    (subst HasPlaces (ap (λ (z : Content). z.tree) (sym c.content.view_is)) c.requires.tree.places) (c.in-Some.ensures.context c.args.content.now.kept.doctype)

pub returns-in-Some-clause-named : goal.returns-in-Some-clause-named
returns-in-Some-clause-named c =
    sym (c.path.ensures.context c.args.content.now.kept.doctype)
    ∙ (net-is c.args.content.now.kept.doctype c.content.inside.tree c.in-Some.level
    (subst HasPlaces (ap (λ (z : Content). z.tree) (sym c.content.view_is)) c.requires.tree.places) (c.in-Some.ensures.context c.args.content.now.kept.doctype)
    ∙ ap (λ (z : Content). net_type (context_in c.args.content.now.kept.doctype z.tree)) c.content.view_is)

pub returns-in-None-clause-named : goal.returns-in-None-clause-named
returns-in-None-clause-named c =
    net-none c.args.content.now.kept.doctype c.content.inside.tree (c.in-None.ensures.context c.args.content.now.kept.doctype)
    ∙ ap (λ (z : Content). net_type (context_in c.args.content.now.kept.doctype z.tree)) c.content.view_is
