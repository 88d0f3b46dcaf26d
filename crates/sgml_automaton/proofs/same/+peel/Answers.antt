use Rattle.std.proofs.Common.{◌≡◌, Bool, true, None, map, sym, ap, ◌∙◌, cond}
use Rattle.sgml_model.specs.Term.{Term, seq}
use Rattle.sgml_model.specs.View.{view, node_view, terms}
use Rattle.sgml_model.specs.declared.term.Term.TheOpen.{Term-F}
use Rattle.sgml_model.specs.declared.term.Term.TheVariants.{rolls-Seq}
use Rattle.sgml_model.specs.declared.term.Term.TheFolds.{fold-roll-Term}
use Rattle.sgml_automaton.specs.Position.{bits_of}
use Rattle.sgml_automaton.specs.Alike.{same_bool, shape_last}
use Rattle.sgml_automaton.proofs.OneTerm.{peel_seq}
use Rattle.sgml_automaton.proofs.same.+peel.Goals as goal

pub peel-returns-then-sequence-clause-shape : goal.peel-returns-then-sequence-clause-shape
peel-returns-then-sequence-clause-shape t c =
    let b = bits_of c.args.bits.now in let ms = terms (map view c.deref.result.now) in
    let e : view c.args.term.now ≡ seq (terms (map view c.in-Seq.members.items)) =
    ap view c.in-Seq.is ∙ ap view (sym (rolls-Seq c.in-Seq.members)) ∙ fold-roll-Term Term node_view (Term-F.Seq c.in-Seq.members) in
    c.last_begun.ensures.shape b
    ∙ sym (peel_seq c.args.sequence (view c.args.term.now) ms c.args.o c.args.k b (e ∙ ap (λ l. seq (terms (map view l))) (sym c.deref.ensures.value))
    ∙ ap (λ (w : Bool). cond (same_bool true w) (shape_last ms c.args.o c.args.k b) None) c.if-sequence.true)

pub peel-returns-else-sequence-clause-shape : goal.peel-returns-else-sequence-clause-shape
peel-returns-else-sequence-clause-shape t c =
    let b = bits_of c.args.bits.now in let ms = terms (map view c.in-Seq.members.items) in
    let e : view c.args.term.now ≡ seq ms =
    ap view c.in-Seq.is ∙ ap view (sym (rolls-Seq c.in-Seq.members)) ∙ fold-roll-Term Term node_view (Term-F.Seq c.in-Seq.members) in
    sym (peel_seq c.args.sequence (view c.args.term.now) ms c.args.o c.args.k b e
    ∙ ap (λ (w : Bool). cond (same_bool true w) (shape_last ms c.args.o c.args.k b) None) c.if-sequence.false)
