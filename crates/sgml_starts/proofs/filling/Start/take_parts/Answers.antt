use Rattle.std.proofs.Common.{◌<◌, length, ◌∷◌, ◌∙◌, arith, subst, refl, Some}
use Rattle.sgml_markup.specs.Walks.{parts_left}
use Rattle.sgml_starts.specs.Values.{Start}
use Rattle.sgml_starts.specs.Starts.{list_for}
use Rattle.sgml_starts.proofs.Tags.{as-many}
use Rattle.sgml_starts.proofs.SoFar.{AreSoFar, input_in, bare-so-far, bare-refused, named-so-far, literal-so-far, literal-fails, next-left, next-two}
use Rattle.sgml_starts.proofs.filling.Start.take_parts.Goals as goal

pub parts-init : goal.parts-init
parts-init c = record {
  stands = c.requires.stands;
  some = c.requires.some;
  values = c.requires.values;
  flags = c.requires.flags;
  within = tt;
  so_far = c.requires.so_far;
}

pub returns-in-Err-clause-err : goal.returns-in-Err-clause-err
returns-in-Err-clause-err c =
    let S = c.args.self.now in
    let T : Start = record { syntax = c.self.inside.syntax.now; tables = c.self.inside.entities.now; definitions = c.self.inside.definitions.now; list = list_for c.self.inside.dtd.now c.self.inside.element; currents = c.self.inside.currents.now } in
    let I = input_in S c.args.texts.now c.args.stack.now in
    let n = c.in-Some.next.name in
    let p = c.in-Some.next.value in
    let left = parts_left S.syntax c.args.tag.now c.in-Some.next.behind in
    let two : AreSoFar S I c.args.tag.now c.parts.name c.parts.filled c.parts.stack (n ∷ (p ∷ left)) =
    subst (AreSoFar S I c.args.tag.now c.parts.name c.parts.filled c.parts.stack) (next-two T S c.self.view_is c.args.tag.now n p c.parts.walk c.in-Some.next.behind c.in-Some.ensures.parts)
    c.parts.invariant.so_far in
    let h = named-so-far S I c.args.tag.now c.parts.name c.parts.filled c.parts.stack n p left two c.in-Some.ensures.named in
    bare-refused S I c.args.tag.now (Some n) c.parts.filled c.parts.stack p left h c.in-Err.error c.in-Bare.is c.in-Err.ensures.err

pub parts-preserved-in-Bare : goal.parts-preserved-in-Bare
parts-preserved-in-Bare c =
    let S = c.args.self.now in
    let T : Start = record { syntax = c.self.inside.syntax.now; tables = c.self.inside.entities.now; definitions = c.self.inside.definitions.now; list = list_for c.self.inside.dtd.now c.self.inside.element; currents = c.self.inside.currents.now } in
    let I = input_in S c.args.texts.now c.args.stack.now in
    let n = c.in-Some.next.name in
    let p = c.in-Some.next.value in
    let left = parts_left S.syntax c.args.tag.now c.in-Some.next.behind in
    let two : AreSoFar S I c.args.tag.now c.parts.name c.parts.filled c.parts.stack (n ∷ (p ∷ left)) =
    subst (AreSoFar S I c.args.tag.now c.parts.name c.parts.filled c.parts.stack) (next-two T S c.self.view_is c.args.tag.now n p c.parts.walk c.in-Some.next.behind c.in-Some.ensures.parts)
    c.parts.invariant.so_far in
    let h = named-so-far S I c.args.tag.now c.parts.name c.parts.filled c.parts.stack n p left two c.in-Some.ensures.named in
    let more = bare-so-far S I c.args.tag.now (Some n) c.parts.filled c.parts.stack p left h c.take_bare.new.filled c.in-Bare.is c.in_default-take_bare.ensures.ok in
    record {
      stands = c.resume-walk.ensures.stands;
      some = c.parts.invariant.some;
      values = c.resume-walk.ensures.values ∙ more.filled.as_many;
      flags = c.resume-walk.ensures.flags ∙ more.filled.flags;
      within = tt;
      so_far = c.resume-walk.ensures.fills c.args.texts.now c.args.stack.now c.parts.stack c.parts.invariant.some c.requires.text more;
    }

pub returns-in-Err-take_literal : goal.returns-in-Err-take_literal
returns-in-Err-take_literal c =
    let S = c.args.self.now in
    let T : Start = record { syntax = c.self.inside.syntax.now; tables = c.self.inside.entities.now; definitions = c.self.inside.definitions.now; list = list_for c.self.inside.dtd.now c.self.inside.element; currents = c.self.inside.currents.now } in
    let I = input_in S c.args.texts.now c.args.stack.now in
    let n = c.in-Some.next.name in
    let p = c.in-Some.next.value in
    let left = parts_left S.syntax c.args.tag.now c.in-Some.next.behind in
    let two : AreSoFar S I c.args.tag.now c.parts.name c.parts.filled c.parts.stack (n ∷ (p ∷ left)) =
    subst (AreSoFar S I c.args.tag.now c.parts.name c.parts.filled c.parts.stack) (next-two T S c.self.view_is c.args.tag.now n p c.parts.walk c.in-Some.next.behind c.in-Some.ensures.parts)
    c.parts.invariant.so_far in
    let h = named-so-far S I c.args.tag.now c.parts.name c.parts.filled c.parts.stack n p left two c.in-Some.ensures.named in
    let a = c.in-Err-take_literal.ensures.alike in
    let r = h.reading.alike in
    record {
      ok = tt;
      err = literal-fails S c.args.texts.now c.args.stack.now c.args.tag.now (Some n) c.parts.filled c.parts.stack p left h c.args.at c.requires.at c.in-Quoted.is
          c.in-Err-take_literal.error c.in-Err-take_literal.ensures.err;
      alike = record { levels = a.levels ∙ r.levels; expand = a.expand ∙ r.expand; places = λ x. a.places x ∙ r.places x };
    }

pub parts-preserved-in-Quoted : goal.parts-preserved-in-Quoted
parts-preserved-in-Quoted c =
    let S = c.args.self.now in
    let T : Start = record { syntax = c.self.inside.syntax.now; tables = c.self.inside.entities.now; definitions = c.self.inside.definitions.now; list = list_for c.self.inside.dtd.now c.self.inside.element; currents = c.self.inside.currents.now } in
    let I = input_in S c.args.texts.now c.args.stack.now in
    let n = c.in-Some.next.name in
    let p = c.in-Some.next.value in
    let left = parts_left S.syntax c.args.tag.now c.in-Some.next.behind in
    let two : AreSoFar S I c.args.tag.now c.parts.name c.parts.filled c.parts.stack (n ∷ (p ∷ left)) =
    subst (AreSoFar S I c.args.tag.now c.parts.name c.parts.filled c.parts.stack) (next-two T S c.self.view_is c.args.tag.now n p c.parts.walk c.in-Some.next.behind c.in-Some.ensures.parts)
    c.parts.invariant.so_far in
    let h = named-so-far S I c.args.tag.now c.parts.name c.parts.filled c.parts.stack n p left two c.in-Some.ensures.named in
    let a = c.in_default-take_literal.ensures.alike in
    let more = literal-so-far S c.args.texts.now c.args.stack.now c.args.tag.now (Some n) c.parts.filled c.parts.stack p left h c.args.at c.requires.at c.in-Quoted.is
    c.take_literal.new.filled c.take_literal.new.stack a c.in_default-take_literal.ensures.ok in
    let some : 0 < length c.take_literal.new.stack.places = omega (arith, c.parts.invariant.some, as-many c.parts.stack c.take_literal.new.stack a) in
    record {
      stands = c.resume-walk-in-Quoted.ensures.stands;
      some = some;
      values = c.resume-walk-in-Quoted.ensures.values ∙ more.filled.as_many;
      flags = c.resume-walk-in-Quoted.ensures.flags ∙ more.filled.flags;
      within = tt;
      so_far = c.resume-walk-in-Quoted.ensures.fills c.args.texts.now c.args.stack.now c.take_literal.new.stack some c.requires.text more;
    }

pub returns-in-Err-take_bare-clause-err : goal.returns-in-Err-take_bare-clause-err
returns-in-Err-take_bare-clause-err c =
    let S = c.args.self.now in
    let T : Start = record { syntax = c.self.inside.syntax.now; tables = c.self.inside.entities.now; definitions = c.self.inside.definitions.now; list = list_for c.self.inside.dtd.now c.self.inside.element; currents = c.self.inside.currents.now } in
    let I = input_in S c.args.texts.now c.args.stack.now in
    let p = c.in-Some-next_part.part in
    let left = parts_left S.syntax c.args.tag.now c.next_part.new.walk in
    let h : AreSoFar S I c.args.tag.now c.parts.name c.parts.filled c.parts.stack (p ∷ left) =
    subst (AreSoFar S I c.args.tag.now c.parts.name c.parts.filled c.parts.stack) (next-left T S c.self.view_is c.args.tag.now p c.parts.walk c.next_part.new.walk c.in-Some-next_part.ensures.parts)
    c.parts.invariant.so_far in
    bare-refused S I c.args.tag.now c.parts.name c.parts.filled c.parts.stack p left h c.in-Err-take_bare.error c.in-Bare-kind.is c.in-Err-take_bare.ensures.err

pub parts-preserved-in-Bare-kind : goal.parts-preserved-in-Bare-kind
parts-preserved-in-Bare-kind c =
    let S = c.args.self.now in
    let T : Start = record { syntax = c.self.inside.syntax.now; tables = c.self.inside.entities.now; definitions = c.self.inside.definitions.now; list = list_for c.self.inside.dtd.now c.self.inside.element; currents = c.self.inside.currents.now } in
    let I = input_in S c.args.texts.now c.args.stack.now in
    let p = c.in-Some-next_part.part in
    let left = parts_left S.syntax c.args.tag.now c.next_part.new.walk in
    let h : AreSoFar S I c.args.tag.now c.parts.name c.parts.filled c.parts.stack (p ∷ left) =
    subst (AreSoFar S I c.args.tag.now c.parts.name c.parts.filled c.parts.stack) (next-left T S c.self.view_is c.args.tag.now p c.parts.walk c.next_part.new.walk c.in-Some-next_part.ensures.parts)
    c.parts.invariant.so_far in
    let more = bare-so-far S I c.args.tag.now c.parts.name c.parts.filled c.parts.stack p left h c.take_bare-in-Bare-kind.new.filled c.in-Bare-kind.is c.in_default-take_bare-2.ensures.ok in
    record {
      stands = c.next_part.ensures.stands;
      some = c.parts.invariant.some;
      values = more.filled.as_many;
      flags = more.filled.flags;
      within = tt;
      so_far = more;
    }

pub returns-in-Err-take_literal-2-clause-err : goal.returns-in-Err-take_literal-2-clause-err
returns-in-Err-take_literal-2-clause-err c =
    let S = c.args.self.now in
    let T : Start = record { syntax = c.self.inside.syntax.now; tables = c.self.inside.entities.now; definitions = c.self.inside.definitions.now; list = list_for c.self.inside.dtd.now c.self.inside.element; currents = c.self.inside.currents.now } in
    let I = input_in S c.args.texts.now c.args.stack.now in
    let p = c.in-Some-next_part.part in
    let left = parts_left S.syntax c.args.tag.now c.next_part.new.walk in
    let h : AreSoFar S I c.args.tag.now c.parts.name c.parts.filled c.parts.stack (p ∷ left) =
    subst (AreSoFar S I c.args.tag.now c.parts.name c.parts.filled c.parts.stack) (next-left T S c.self.view_is c.args.tag.now p c.parts.walk c.next_part.new.walk c.in-Some-next_part.ensures.parts)
    c.parts.invariant.so_far in
    literal-fails S c.args.texts.now c.args.stack.now c.args.tag.now c.parts.name c.parts.filled c.parts.stack p left h c.args.at c.requires.at c.in-Quoted-kind.is
    c.in-Err-take_literal-2.error c.in-Err-take_literal-2.ensures.err

pub parts-preserved : goal.parts-preserved
parts-preserved c =
    let S = c.args.self.now in
    let T : Start = record { syntax = c.self.inside.syntax.now; tables = c.self.inside.entities.now; definitions = c.self.inside.definitions.now; list = list_for c.self.inside.dtd.now c.self.inside.element; currents = c.self.inside.currents.now } in
    let I = input_in S c.args.texts.now c.args.stack.now in
    let p = c.in-Some-next_part.part in
    let left = parts_left S.syntax c.args.tag.now c.next_part.new.walk in
    let h : AreSoFar S I c.args.tag.now c.parts.name c.parts.filled c.parts.stack (p ∷ left) =
    subst (AreSoFar S I c.args.tag.now c.parts.name c.parts.filled c.parts.stack) (next-left T S c.self.view_is c.args.tag.now p c.parts.walk c.next_part.new.walk c.in-Some-next_part.ensures.parts)
    c.parts.invariant.so_far in
    let a = c.in_default-take_literal-2.ensures.alike in
    let more = literal-so-far S c.args.texts.now c.args.stack.now c.args.tag.now c.parts.name c.parts.filled c.parts.stack p left h c.args.at c.requires.at c.in-Quoted-kind.is
    c.take_literal-in-Quoted-kind.new.filled c.take_literal-in-Quoted-kind.new.stack a c.in_default-take_literal-2.ensures.ok in
    record {
      stands = c.next_part.ensures.stands;
      some = omega (arith, c.parts.invariant.some, as-many c.parts.stack c.take_literal-in-Quoted-kind.new.stack a);
      values = more.filled.as_many;
      flags = more.filled.flags;
      within = tt;
      so_far = more;
    }
