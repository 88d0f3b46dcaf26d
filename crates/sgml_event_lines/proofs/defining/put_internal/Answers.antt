use Rattle.std.proofs.Common.{[], ◌∷◌, ◌++◌, ap, ◌∙◌}
use Rattle.sgml_esis.proofs.Holding.{puts_then, puts_as}
use Rattle.sgml_event_lines.specs.Standing.{text_bytes}
use Rattle.sgml_event_lines.proofs.Bytes.{internal_line}
use Rattle.sgml_esis.specs.Spelling.{spell_kind}
use Rattle.sgml_event_lines.proofs.defining.put_internal.Goals as goal

pub returns : goal.returns
returns g c = puts_as _ _ _ _ _ _ _ _ (ap (λ v. (73 ∷ c.args.name.now ++ v) ++ (32 ∷ text_bytes c.items.result.now ++ 10 ∷ [])) c.kind_word.ensures ∙ ap (λ v. (73 ∷ c.args.name.now ++ spell_kind c.args.kind) ++ (32 ∷ text_bytes v ++ 10 ∷ [])) c.items.ensures ∙ internal_line c.args.name.now (spell_kind c.args.kind) c.args.text.now) (puts_then _ _ _ _ _ _ _ _ _ (73 ∷ c.args.name.now ++ c.kind_word.result.now) (32 ∷ text_bytes c.items.result.now ++ 10 ∷ []) (puts_then _ _ _ _ _ _ _ _ _ (73 ∷ c.args.name.now) c.kind_word.result.now c.put_marked.ensures c.put.ensures) c.put_text_line.ensures)
