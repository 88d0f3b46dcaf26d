use Rattle.sgml_infer.specs.declared.visible.Visible.TheVariants as visible
use Rattle.sgml_content_tags.proofs.Tags.{tag-tells, net-ends, net-none}
use Rattle.sgml_content_tags.proofs.ends.take_net.Goals as goal

pub returns-in-Some : goal.returns-in-Some
returns-in-Some c =
    tag-tells c.args.texts.now c.args.token visible.Net c.in-Some.number c.args.content.now c.end_element.new.content c.args.told.now.items c.end_element.new.told.items
    c.end_element.result c.requires.within
    (net-ends c.args.texts.now c.args.token c.args.content.now c.in-Some.number c.requires.kind c.in-Some.ensures.named) c.end_element.ensures

pub returns-in-None : goal.returns-in-None
returns-in-None c = net-none c.args.texts.now c.args.token c.args.content.now c.args.told.now.items c.requires.kind c.requires.content c.in-None.ensures.named
