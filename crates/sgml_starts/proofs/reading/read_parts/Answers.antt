use Rattle.std.proofs.Common.{◌≡◌, ◌+◌, ◌∷◌, ℕ, sym, subst, true, None, List}
use Rattle.sgml_markup.specs.declared.kinds.Part.{Part}
use Rattle.sgml_markup.specs.Walks.{parts_left}
use Rattle.sgml_starts.specs.Specified.{Input}
use Rattle.sgml_attr.specs.declared.definition.Spec.{Spec}
use Rattle.sgml_entity.specs.Stack.{moved_to}
use Rattle.sgml_decl_lexemes.specs.decl_parts.declared.ends.Construct.TheVariants.{Literal}
use Rattle.sgml_decl_lexemes.specs.Declares.{asked}
use Rattle.sgml_decl_lexemes.specs.Reads.{answer}
use Rattle.sgml_starts.specs.Read.{IsNoLiteral}
use Rattle.sgml_starts.proofs.Numbered.{if-ok}
use Rattle.sgml_starts.proofs.Tags.{stops, alike-both}
use Rattle.sgml_starts.proofs.Walked.{IsReading, begun-reading, quote_of, asked_at}
use Rattle.sgml_starts.proofs.reading.read_parts.Goals as goal

pub parts-init : goal.parts-init
parts-init c = record {
  stands = c.tag_walk-walk.ensures.stands;
  some = c.requires.some;
  reading = subst (λ (specs : List Spec). IsReading (record { syntax = c.args.syntax.now; tables = c.args.entities.now; texts = c.args.texts.now; stack = c.args.stack.now }) c.args.tag.now None specs c.args.stack.now (parts_left c.args.syntax.now c.args.tag.now c.tag_walk-walk.result))
      (sym c.new-specs.ensures.items)
      (begun-reading (record { syntax = c.args.syntax.now; tables = c.args.entities.now; texts = c.args.texts.now; stack = c.args.stack.now }) c.args.tag.now (parts_left c.args.syntax.now c.args.tag.now c.tag_walk-walk.result)
      (c.tag_walk-walk.ensures.parts c.args.syntax.now));
}

pub returns-in-Err-clause-ok : goal.returns-in-Err-clause-ok
returns-in-Err-clause-ok c =
    let I : Input = record { syntax = c.args.syntax.now; tables = c.args.entities.now; texts = c.args.texts.now; stack = c.args.stack.now } in
    let tag : List ℕ = c.args.tag.now in
    let p : Part = c.in-Some.part in
    let left : List Part = parts_left c.args.syntax.now c.args.tag.now c.next_part.new.walk in
    let reading : IsReading I tag c.parts.name c.parts.specs.items c.parts.stack (p ∷ left) =
    subst (IsReading I tag c.parts.name c.parts.specs.items c.parts.stack) c.in-Some.ensures.parts c.parts.invariant.reading in
    let none : IsNoLiteral (asked_at I tag p c.parts.stack) c.in-Err.error =
    subst (λ (n : ℕ). IsNoLiteral (answer (asked (Literal (quote_of tag p)) c.args.syntax.now c.args.entities.now c.args.texts.now
    (record c.parts.stack { places = moved_to (n + p.from) c.parts.stack.places }) true)) c.in-Err.error) c.requires.at c.in-Err.ensures.err in
    if-ok c.stopped.result c.stopped.ensures
    (λ read h. stops I tag c.parts.name c.parts.specs.items c.parts.stack p left reading c.in-Err.error c.literal_at.new.stack read c.in-Quoted.is none h)

pub returns-in-Err-clause-alike : goal.returns-in-Err-clause-alike
returns-in-Err-clause-alike c = alike-both c.args.stack.now c.parts.stack c.literal_at.new.stack c.parts.invariant.reading.alike c.in-Err.ensures.alike
