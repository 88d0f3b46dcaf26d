use Rattle.std.proofs.Common.{◌≡◌, ◌+◌, ◌<◌, ◌^◌, map, refl, sym, ap, ◌∙◌, subst, option_map}
use Rattle.sgml_model.specs.Term.{Term, seq, name}
use Rattle.sgml_model.specs.View.{view, node_view, terms}
use Rattle.sgml_model.specs.declared.term.Term.TheOpen.{Term-F}
use Rattle.sgml_model.specs.declared.term.Term.TheVariants.{rolls-Seq, rolls-Name}
use Rattle.sgml_model.specs.declared.term.Term.TheFolds.{fold-roll-Term}
use Rattle.sgml_automaton.specs.Position.{bits_of}
use Rattle.sgml_automaton.specs.Alike.{equal_shapes, shape, shape_last, core_shape}
use Rattle.sgml_automaton.specs.Cores.{core_view}
use Rattle.sgml_automaton.proofs.OneTerm.{equal_seq, equal_none, bare_is}
use Rattle.sgml_automaton.proofs.Among.{rooms_among, shape_among, group_is, group_rooms_are, found_too_early}
use Rattle.sgml_automaton.specs.Grouped.{must_be_last}
use Rattle.sgml_automaton.proofs.same.+equal.Goals as goal

pub equal-returns-in-Name : goal.equal-returns-in-Name
equal-returns-in-Name t c =
    let e = bits_of c.args.others.now in
    let n : view c.args.term.now ≡ name c.in-Name.field-0 c.in-Name.field-1 =
    ap view c.in-Name.is ∙ ap view (sym (rolls-Name c.in-Name.field-0 c.in-Name.field-1)) ∙ fold-roll-Term Term node_view (Term-F.Name c.in-Name.field-0 c.in-Name.field-1) in
    c.bare.ensures ∙ bare_is (view c.args.other.now) c.args.p c.args.j e
    ∙ sym (ap (λ x. equal_shapes (shape x c.args.o c.args.k (bits_of c.args.bits.now)) (shape (view c.args.other.now) c.args.p c.args.j e)) n)

pub equal-returns-in-None : goal.equal-returns-in-None
equal-returns-in-None t c =
    let e = bits_of c.args.others.now in let b = bits_of c.args.bits.now in let ms = terms (map view c.in-Seq.members.items) in
    let s = shape (view c.args.other.now) c.args.p c.args.j e in
    let n : view c.args.term.now ≡ seq ms =
    ap view c.in-Seq.is ∙ ap view (sym (rolls-Seq c.in-Seq.members)) ∙ fold-roll-Term Term node_view (Term-F.Seq c.in-Seq.members) in
    sym (equal_seq (view c.args.term.now) ms c.args.o c.args.k b s _ n (sym c.peel.ensures.shape ∙ ap (λ r. core_shape (option_map core_view r) c.args.j e) c.in-None.is)
    ∙ equal_none (shape_last ms c.args.o c.args.k b))

pub equal-returns-in-Some : goal.equal-returns-in-Some
equal-returns-in-Some t c =
    let e = bits_of c.args.others.now in let b = bits_of c.args.bits.now in let ms = terms (map view c.deref.result.now) in
    let s = shape (view c.args.other.now) c.args.p c.args.j e in
    let n : view c.args.term.now ≡ seq (terms (map view c.in-Seq.members.items)) =
    ap view c.in-Seq.is ∙ ap view (sym (rolls-Seq c.in-Seq.members)) ∙ fold-roll-Term Term node_view (Term-F.Seq c.in-Seq.members) in
    c.equal_among.ensures
    ∙ sym (equal_seq (view c.args.term.now) ms c.args.o c.args.k b s _ (n ∙ ap (λ l. seq (terms (map view l))) (sym c.deref.ensures.value))
    (sym c.peel.ensures.shape ∙ ap (λ r. core_shape (option_map core_view r) c.args.j e) c.in-Some.is))

pub equal_among-loop-i-init : goal.equal_among-loop-i-init
equal_among-loop-i-init t c =
    let e = bits_of c.args.others.now in let b = bits_of c.args.bits.now in let ms = terms (map view c.args.members.now) in
    let s = shape (view c.args.other.now) c.args.p c.args.j e in (
      ap (λ v. equal_shapes v s) (group_is c.args.grouping ms c.args.o c.args.k b
          ∙ ap (λ w. shape_among w (must_be_last c.args.grouping) ms c.args.o c.args.k b) (sym c.own_bits-own.ensures)
          ∙ ap (λ l. shape_among c.own_bits-own.result l ms c.args.o c.args.k b) (sym c.must_be_last-last.ensures)),
      refl,
      subst (λ n. c.args.o + n < 2 ^ 64) (group_rooms_are c.args.grouping ms ∙ ap (λ w. rooms_among w ms) (sym c.own_bits-own.ensures)) c.requires.first,
    )

pub equal_among-returns-then-i-members : goal.equal_among-returns-then-i-members
equal_among-returns-then-i-members t c =
    let e = bits_of c.args.others.now in let b = bits_of c.args.bits.now in
    let s = shape (view c.args.other.now) c.args.p c.args.j e in
    sym (c.loop-i.invariant.0
    ∙ ap (λ v. equal_shapes v s) (found_too_early c.own_bits-own.result c.must_be_last-last.result c.args.members.now c.loop-i.i c.index-members-i.result c.loop-i.at c.args.k b c.loop-i-test.true c.index-members-i.is (sym c.has.ensures ∙ c.if-has.true) c.if-last.true c.if-i-members.true))
