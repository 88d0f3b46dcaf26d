use Rattle.std.proofs.Common.{map, reverse, sym, ap, ◌∙◌, arith}
use Rattle.std.specs.Prelude.{◌==◌}
use Rattle.std.proofs.lemmas.List.{length-reverse, length-map}
use Rattle.sgml_model.specs.View.{view}
use Rattle.sgml_model.specs.ReaderView.{state_of, open_view}
use Rattle.sgml_model.proofs.Building.{put_small, some_left, none_mapped}
use Rattle.sgml_model.proofs.reader.Reader.put.Goals as goal

pub overflow_add-self : goal.overflow_add-self
overflow_add-self c =
    let reader = c.args.self.now in
    let os = reader.open_groups in
    let len = length-reverse (map open_view os.items) ∙ length-map os.items open_view ∙ sym os.ok.0 in
    let small = put_small (state_of reader) (view c.args.item) c.args.markable c.requires
    (none_mapped view reader.item (sym c.is_some.ensures ∙ c.if-is_some.false))
    (some_left (reverse (map open_view os.items)) (ap (λ n. n == 0) len ∙ sym c.is_empty.ensures ∙ c.if-is_empty.false)) in
    omega (arith, small)
