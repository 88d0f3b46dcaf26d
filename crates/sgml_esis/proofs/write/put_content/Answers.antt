use Rattle.std.proofs.Common.{◌∷◌, ◌++◌, ap, ◌∙◌}
use Rattle.std.specs.Prelude.{codes}
use Rattle.sgml_esis.specs.Spelling.{spell_escaped, spell_names, spell_kind}
use Rattle.sgml_esis.proofs.Holding.{puts_two}
use Rattle.sgml_esis.proofs.write.put_content.Goals as goal

pub returns-in-Cdata : goal.returns-in-Cdata
returns-in-Cdata g c =
    rw c.in-Cdata.is
    (puts_two _ _ _ _ _ _ _ _ _ (65 ∷ c.items-in-Cdata.result.now ++ codes " CDATA ") (spell_escaped c.item.result.now) (65 ∷ c.in-Cdata.name ++ codes " CDATA ") (spell_escaped c.in-Cdata.text) (ap (λ v. 65 ∷ v ++ codes " CDATA ") c.items-in-Cdata.ensures.list) (ap spell_escaped c.item.ensures) c.put_field-in-Cdata.ensures c.put_escaped.ensures)

pub returns-in-Notation : goal.returns-in-Notation
returns-in-Notation g c =
    rw c.in-Notation.is
    (puts_two _ _ _ _ _ _ _ _ _ (65 ∷ c.items-in-Notation.result.now ++ codes " NOTATION ") (c.items-in-Notation-2.result.now) (65 ∷ c.in-Notation.name ++ codes " NOTATION ") (c.in-Notation.notation) (ap (λ v. 65 ∷ v ++ codes " NOTATION ") c.items-in-Notation.ensures.list) (c.items-in-Notation-2.ensures.list ∙ c.item-in-Notation.ensures) c.put_field-in-Notation.ensures c.put.ensures)

pub returns-in-Entity : goal.returns-in-Entity
returns-in-Entity g c =
    rw c.in-Entity.is
    (puts_two _ _ _ _ _ _ _ _ _ (65 ∷ c.items-in-Entity.result.now ++ codes " ENTITY") (spell_names c.items-in-Entity-2.result.now) (65 ∷ c.in-Entity.name ++ codes " ENTITY") (spell_names c.in-Entity.names) (ap (λ v. 65 ∷ v ++ codes " ENTITY") c.items-in-Entity.ensures.list) (ap spell_names (c.items-in-Entity-2.ensures ∙ c.item-in-Entity.ensures)) c.put_field-in-Entity.ensures c.put_names.ensures)

pub returns-in-Token : goal.returns-in-Token
returns-in-Token g c =
    rw c.in-Token.is
    (puts_two _ _ _ _ _ _ _ _ _ (65 ∷ c.items-in-Token.result.now ++ codes " TOKEN") (spell_names c.items-in-Token-2.result.now) (65 ∷ c.in-Token.name ++ codes " TOKEN") (spell_names c.in-Token.tokens) (ap (λ v. 65 ∷ v ++ codes " TOKEN") c.items-in-Token.ensures.list) (ap spell_names (c.items-in-Token-2.ensures ∙ c.item-in-Token.ensures)) c.put_field-in-Token.ensures c.put_names-in-Token.ensures)

pub returns-in-DefineExternal : goal.returns-in-DefineExternal
returns-in-DefineExternal g c =
    rw c.in-DefineExternal.is
    (puts_two _ _ _ _ _ _ _ _ _ (69 ∷ c.items-in-DefineExternal.result.now ++ c.kind_word.result.now) (32 ∷ c.items-in-DefineExternal-2.result.now) (69 ∷ c.in-DefineExternal.name ++ spell_kind c.in-DefineExternal.kind) (32 ∷ c.in-DefineExternal.notation) (ap (λ v. 69 ∷ v ++ c.kind_word.result.now) (c.items-in-DefineExternal.ensures.list ∙ c.item-in-DefineExternal.ensures) ∙ ap (λ v. 69 ∷ c.in-DefineExternal.name ++ v) c.kind_word.ensures) (ap (λ v. 32 ∷ v) (c.items-in-DefineExternal-2.ensures.list ∙ c.item-in-DefineExternal-2.ensures)) c.put_field-in-DefineExternal.ensures c.put_marked-in-DefineExternal.ensures)

pub returns-in-DefineInternal : goal.returns-in-DefineInternal
returns-in-DefineInternal g c =
    rw c.in-DefineInternal.is
    (puts_two _ _ _ _ _ _ _ _ _ (73 ∷ c.items-in-DefineInternal.result.now ++ c.kind_word-in-DefineInternal.result.now) (32 ∷ spell_escaped c.item-in-DefineInternal-2.result.now) (73 ∷ c.in-DefineInternal.name ++ spell_kind c.in-DefineInternal.kind) (32 ∷ spell_escaped c.in-DefineInternal.text) (ap (λ v. 73 ∷ v ++ c.kind_word-in-DefineInternal.result.now) (c.items-in-DefineInternal.ensures.list ∙ c.item-in-DefineInternal.ensures) ∙ ap (λ v. 73 ∷ c.in-DefineInternal.name ++ v) c.kind_word-in-DefineInternal.ensures) (ap (λ v. 32 ∷ spell_escaped v) c.item-in-DefineInternal-2.ensures) c.put_field-in-DefineInternal.ensures c.put_text-in-DefineInternal.ensures)
