use Rattle.std.proofs.Common.{[], ◌∷◌, ◌++◌, ap, ◌∙◌}
use Rattle.sgml_esis.proofs.Holding.{puts_then, puts_as}
use Rattle.sgml_event_lines.proofs.Bytes.{external_line}
use Rattle.sgml_esis.specs.Spelling.{spell_kind}
use Rattle.sgml_event_lines.proofs.defining.put_external_line.Goals as goal

pub returns : goal.returns
returns g c = puts_as _ _ _ _ _ _ _ _ (ap (λ v. (69 ∷ c.args.name.now ++ v) ++ (32 ∷ c.items.result.now ++ 10 ∷ [])) c.kind_word.ensures ∙ ap (λ v. (69 ∷ c.args.name.now ++ spell_kind c.args.kind) ++ (32 ∷ v ++ 10 ∷ [])) c.items.ensures.list ∙ external_line c.args.name.now (spell_kind c.args.kind) c.args.notation.now) (puts_then _ _ _ _ _ _ _ _ _ (69 ∷ c.args.name.now ++ c.kind_word.result.now) (32 ∷ c.items.result.now ++ 10 ∷ []) (puts_then _ _ _ _ _ _ _ _ _ (69 ∷ c.args.name.now) c.kind_word.result.now c.put_marked.ensures c.put.ensures) c.put_name_line.ensures)
