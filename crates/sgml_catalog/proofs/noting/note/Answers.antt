use Rattle.std.proofs.Common.{◌≡◌, ap, sym, ◌∙◌, map, subst}
use Rattle.sgml_text.specs.Characters.{upper}
use Rattle.sgml_catalog.specs.Keys.{Notes, first_name, holds_for, is_sought}
use Rattle.sgml_catalog.proofs.Noted.{noted_both, noted_as, named_twice, named_once, two_names_of, one_name_of}
use Rattle.sgml_catalog.proofs.noting.note.Goals.{then-is_folded+in_ok-folded+in_ok-note_name-2, else-is_folded}
use Rattle.sgml_catalog.proofs.noting.note.Goals as goal

pub returns : goal.returns
returns c =
    let e = c.args.entry.now in
    let n = c.deref.result.now in
    let first : n ≡ first_name e.sort e.name = c.deref.ensures.value ∙ (c.in_ok-first.ensures ∙ ap (first_name e.sort) c.items.ensures) in
    elim c.if-is_folded.branch [
      | then-is_folded+in_ok-folded+in_ok-note_name-2 w ↦
          let m = w.deref-then-is_folded.result.now in
          let second : m ≡ map upper e.name = w.deref-then-is_folded.ensures.value ∙ (w.in_ok-folded.ensures ∙ ap (map upper) w.items-then-is_folded.ensures) in
          let names = two_names_of e n m first (sym c.is_folded.ensures ∙ w.if-is_folded.true) second in
          subst (λ x. Notes c.args.index.now x (λ q. holds_for q e) c.args.number) (sym w.index-is)
          (noted_both c.args.index.now c.note_name.new.index w.note_name-then-is_folded.new.index (is_sought e.sort e.over n) (is_sought e.sort e.over m) (λ q. holds_for q e) c.args.number
          c.in_ok-note_name.ensures w.in_ok-note_name-2.ensures (λ q. named_twice e n m q names))
      | else-is_folded w ↦
          let names = one_name_of e n first (sym c.is_folded.ensures ∙ w.if-is_folded.false) in
          subst (λ x. Notes c.args.index.now x (λ q. holds_for q e) c.args.number) (sym w.index-is)
          (noted_as c.args.index.now c.note_name.new.index (is_sought e.sort e.over n) (λ q. holds_for q e) c.args.number c.in_ok-note_name.ensures (λ q. named_once e n q names))
    ]
