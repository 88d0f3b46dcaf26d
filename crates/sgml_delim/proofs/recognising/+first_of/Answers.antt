use Rattle.std.proofs.Common.{◌++◌, sym, ◌∙◌, ap, subst, length, drop, slice_index_or}
use Rattle.sgml_delim.specs.declared.delim.Delim.TheVariants.{And}
use Rattle.sgml_delim.specs.Answers.{Answers, Differs, is_first}
use Rattle.sgml_delim.proofs.Deciding.{head-drop, first-holds, first-undecided, answers-next, rest-of, differs-fails}
use Rattle.sgml_delim.proofs.recognising.+first_of.Goals as goal

pub returns-in-Holds : goal.returns-in-Holds
returns-in-Holds t c =
    let xs = c.args.delims.now in
    let x = slice_index_or xs 0 And in (
      ap length c.string_of.ensures,
      λ rest h. ap (λ ys. is_first c.args.syntax.now c.args.mode c.args.net ys (c.args.text.now ++ rest)) (head-drop xs And c.in-len1-up.len_at_least)
          ∙ first-holds c.args.syntax.now c.args.mode c.args.net x (drop 1 xs) (c.args.text.now ++ rest) (c.in-Holds.ensures rest h),
    )

pub returns-in-Undecided : goal.returns-in-Undecided
returns-in-Undecided t c =
    let xs = c.args.delims.now in
    let x = slice_index_or xs 0 And in
    subst (λ ys. Differs c.args.ended (is_first c.args.syntax.now c.args.mode c.args.net ys) c.args.text.now)
    (sym (head-drop xs And c.in-len1-up.len_at_least))
    (first-undecided c.args.ended c.args.syntax.now c.args.mode c.args.net x (drop 1 xs) c.args.text.now c.in-Undecided.ensures)

pub returns-in-Fails : goal.returns-in-Fails
returns-in-Fails t c =
    let xs = c.args.delims.now in
    let x = slice_index_or xs 0 And in
    subst (λ ys. Answers c.args.ended (is_first c.args.syntax.now c.args.mode c.args.net ys) c.args.text.now c.first_of-in-Fails.result)
    (sym (head-drop xs And c.in-len1-up.len_at_least))
    (answers-next c.args.ended c.args.syntax.now c.args.mode c.args.net x (drop 1 xs) c.args.text.now c.first_of-in-Fails.result c.in-Fails.ensures
    (subst (λ ys. Answers c.args.ended (is_first c.args.syntax.now c.args.mode c.args.net ys) c.args.text.now c.first_of-in-Fails.result) (rest-of 1 xs) c.first_of-in-Fails.ensures))

pub returns-in-len1-up : goal.returns-in-len1-up
returns-in-len1-up t c =
    let xs = c.args.delims.now in
    let x = slice_index_or xs 0 And in
    subst (λ ys. Answers c.args.ended (is_first c.args.syntax.now c.args.mode c.args.net ys) c.args.text.now c.first_of.result)
    (sym (head-drop xs And c.in-len1-up.len_at_least))
    (answers-next c.args.ended c.args.syntax.now c.args.mode c.args.net x (drop 1 xs) c.args.text.now c.first_of.result
    (λ rest h. differs-fails c.args.syntax.now c.args.mode c.args.net x c.args.text.now rest (sym c.differs.ensures ∙ c.if-differs.true))
    (subst (λ ys. Answers c.args.ended (is_first c.args.syntax.now c.args.mode c.args.net ys) c.args.text.now c.first_of.result) (rest-of 1 xs) c.first_of.ensures))
