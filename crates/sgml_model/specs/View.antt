-- The term that a value of the program stands for.
use Rattle.std.specs.Prelude.{List, [], ◌∷◌}
use Rattle.sgml_model.specs.Term as t
use Rattle.sgml_model.specs.Term.{Terms}
use Rattle.sgml_model.specs.declared.term.Term.{Term}
use Rattle.sgml_model.specs.declared.term.Term.TheOpen.{Term-F}
use Rattle.sgml_model.specs.declared.term.Term.TheFolds.{fold-Term}

abbrev pub terms : List t.Term → Terms
terms [] = t.none
terms (m ∷ ms) = t.more m (terms ms)

abbrev pub node_view : Term-F t.Term → t.Term
node_view Term-F.Empty = t.empty
node_view (Term-F.Name k n) = t.name k n
node_view (Term-F.Pcdata k) = t.pcdata k
node_view (Term-F.Seq ms) = t.seq (terms ms.items)
node_view (Term-F.Or ms) = t.or (terms ms.items)
node_view (Term-F.And ms) = t.and (terms ms.items)
node_view (Term-F.Opt m) = t.opt m.value
node_view (Term-F.Plus m) = t.plus m.value
node_view (Term-F.Rep m) = t.rep m.value
node_view (Term-F.Member r left) = t.member r.value (terms left.items)
node_view (Term-F.Round r m) = t.round r.value m.value

-- the term, without where it lies in memory
abbrev pub view : Term → t.Term
view = fold-Term t.Term node_view
