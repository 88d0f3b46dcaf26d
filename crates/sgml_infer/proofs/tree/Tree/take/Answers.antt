use Rattle.std.proofs.Common.{◌≡◌, ◌<◌, ◌≤◌, ◌-◌, ◌∙◌, ap, sym, subst, refl, List, [], None, Bool, true, take, arith, length}
use Rattle.std.proofs.lemmas.List.{with_items_is}
use Rattle.std.specs.Vec.{with_items}
use Rattle.sgml_theory_reading.specs.Pieces.{Start, Tag, Short, Net}
use Rattle.sgml_infer.specs.Tables.{name_at}
use Rattle.sgml_infer.specs.declared.level.Level.{Level}
use Rattle.sgml_infer.specs.declared.visible.Visible.{Visible}
use Rattle.sgml_infer.specs.Trees.{open_levels, levels_of, taking}
use Rattle.sgml_infer.specs.Visibles.{kind_of, HasRoomFor, IsNumbered}
use Rattle.sgml_infer.proofs.Growing.{after-start, after-void, after-chars, after-end, after-finish, end-written, levels-ended, end-tree}
use Rattle.sgml_infer.proofs.tree.Tree.take.Goals as goal

pub returns-then-is_void-clause-context : goal.returns-then-is_void-clause-context
returns-then-is_void-clause-context c = λ p h.
    let t = c.args.dtd.now in let i = c.in-Start.element in
    after-void t (open_levels c.args.self.now) (open_levels c.take_name.new.self) c.args.self.now.begun p (name_at t i) c.take_name.new.self.begun c.is_void.result
    (h ∙ (ap (kind_of t) c.in-Start.is ∙ ap (λ (v : Bool). Start (name_at t i) [] Tag true v) (sym (c.is_void.ensures t c.requires.tree (subst (IsNumbered t) c.in-Start.is c.requires.number))))) c.if-is_void.true c.take_name.ensures.levels c.take_name.ensures.begun

pub returns-else-is_void-clause-context : goal.returns-else-is_void-clause-context
returns-else-is_void-clause-context c = λ p h.
    let t = c.args.dtd.now in let i = c.in-Start.element in
    after-start t (open_levels c.args.self.now) (open_levels c.begin_inside.new.self) c.args.self.now.begun p (name_at t i) c.begin_inside.new.self.begun c.is_void.result
    (h ∙ (ap (kind_of t) c.in-Start.is ∙ ap (λ (v : Bool). Start (name_at t i) [] Tag true v) (sym (c.is_void.ensures t c.requires.tree (subst (IsNumbered t) c.in-Start.is c.requires.number))))) c.if-is_void.false c.begin_inside.ensures.levels c.begin_inside.ensures.begun

pub returns-in-Chars-clause-context : goal.returns-in-Chars-clause-context
returns-in-Chars-clause-context c = λ p h.
    let t = c.args.dtd.now in let old = c.args.self.now in
    let long : length c.take_token.new.levels ≡ old.levels.len = omega (arith, c.take_token.auto.levels, c.deref_mut.ensures.len) in
    let e = with_items_is old.levels c.take_token.new.levels long in
    let f : levels_of t (take old.depth (with_items old.levels c.take_token.new.levels).items) ≡ taking None (levels_of t (open_levels old)) =
    ap (λ (xs : List Level). levels_of t (take old.depth xs)) e ∙ (c.take_token.ensures.taken ∙ ap (λ (xs : List Level). taking None (levels_of t (take old.depth xs))) c.deref_mut.ensures.value) in
    after-chars t (open_levels old) (take old.depth (with_items old.levels c.take_token.new.levels).items) old.begun p old.begun (h ∙ ap (kind_of t) c.in-Chars.is) f refl

pub returns-in-EndTag-clause-context : goal.returns-in-EndTag-clause-context
returns-in-EndTag-clause-context c = λ p h.
    let t = c.args.dtd.now in let old = c.args.self.now in
    let pos : 0 < old.depth = subst (λ (v : Visible). HasRoomFor t v old.depth) c.in-EndTag.is c.requires.place in
    let s = c.requires.tree.slots in let d = c.requires.tree.depth in
    let within : old.depth ≤ length old.levels.items = omega (arith, s, d) in
    after-end t (open_levels old) (take (old.depth - 1) old.levels.items) old.begun p (name_at t c.in-EndTag.field-0) Tag old.begun (end-written (name_at t c.in-EndTag.field-0) Tag) (h ∙ ap (kind_of t) c.in-EndTag.is) (levels-ended t old.levels.items old.depth pos within) refl

pub returns-in-EndTag-clause-tree : goal.returns-in-EndTag-clause-tree
returns-in-EndTag-clause-tree c = let old = c.args.self.now in end-tree c.args.dtd.now old (old.depth - 1) c.requires.tree (omega arith)

pub returns-in-EndCurrent-clause-context : goal.returns-in-EndCurrent-clause-context
returns-in-EndCurrent-clause-context c = λ p h.
    let t = c.args.dtd.now in let old = c.args.self.now in
    let pos : 0 < old.depth = subst (λ (v : Visible). HasRoomFor t v old.depth) c.in-EndCurrent.is c.requires.place in
    let s = c.requires.tree.slots in let d = c.requires.tree.depth in
    let within : old.depth ≤ length old.levels.items = omega (arith, s, d) in
    after-end t (open_levels old) (take (old.depth - 1) old.levels.items) old.begun p [] Short old.begun (end-written [] Short) (h ∙ ap (kind_of t) c.in-EndCurrent.is) (levels-ended t old.levels.items old.depth pos within) refl

pub returns-in-EndCurrent-clause-tree : goal.returns-in-EndCurrent-clause-tree
returns-in-EndCurrent-clause-tree c = let old = c.args.self.now in end-tree c.args.dtd.now old (old.depth - 1) c.requires.tree (omega arith)

pub returns-in-Net-clause-context : goal.returns-in-Net-clause-context
returns-in-Net-clause-context c = λ p h.
    let t = c.args.dtd.now in let old = c.args.self.now in
    let pos : 0 < old.depth = subst (λ (v : Visible). HasRoomFor t v old.depth) c.in-Net.is c.requires.place in
    let s = c.requires.tree.slots in let d = c.requires.tree.depth in
    let within : old.depth ≤ length old.levels.items = omega (arith, s, d) in
    after-end t (open_levels old) (take (old.depth - 1) old.levels.items) old.begun p [] Net old.begun (end-written [] Net) (h ∙ ap (kind_of t) c.in-Net.is) (levels-ended t old.levels.items old.depth pos within) refl

pub returns-in-Net-clause-tree : goal.returns-in-Net-clause-tree
returns-in-Net-clause-tree c = let old = c.args.self.now in end-tree c.args.dtd.now old (old.depth - 1) c.requires.tree (omega arith)

pub returns-in-EndDocument-clause-context : goal.returns-in-EndDocument-clause-context
returns-in-EndDocument-clause-context c = λ p h.
    let t = c.args.dtd.now in let old = c.args.self.now in
    after-finish t (open_levels old) (open_levels old) old.begun p old.begun (h ∙ ap (kind_of t) c.in-EndDocument.is) refl refl
