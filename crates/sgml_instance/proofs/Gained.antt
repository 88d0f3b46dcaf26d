-- More texts leave what a reader stands for as it is.
use Rattle.std.proofs.Common.{ℕ, Bool, true, false, List, ◌++◌, sym, subst}
use Rattle.sgml_declared.specs.theory_reading.Names.{Text}
use Rattle.sgml_declared.specs.theory_reading.Pieces.{History}
use Rattle.sgml_declared.specs.theory_reading.Unread.{Input}
use Rattle.sgml_declared.specs.theory_standing.Kept.{Kept}
use Rattle.sgml_declared.specs.theory_standing.Laws.{Gain}
use Rattle.sgml_declared.proofs.theory_standing.Gaining.{texts-are-gained}
use Rattle.sgml_content_tags.specs.sgml_content_steps.Content.{Content}
use Rattle.sgml_instance.specs.Reading.{KeepsUp}
use Rattle.sgml_instance.specs.Laws.{MoreTextsReadOn}

keeps-up : (over : Bool) (x : Content) (old new : List (ℕ × Text)) (I : Input) (bytes more : Text) (h : History) → KeepsUp over x old I (bytes ++ more) h → Gain x.kept I.outside old new bytes
    → KeepsUp over x new I more h
keeps-up true x old new I bytes more h k g = (k.0, record { sources_are = k.1.sources_are; supplied = g.supplied })
keeps-up false x old new I bytes more h k g =
    let gain : Gain k.0.kept I.outside old new bytes = subst (λ (z : Kept). Gain z I.outside old new bytes) (sym k.1.kept) g in (
      k.0,
      k.1,
      record { stands = texts-are-gained k.0.kept old new bytes more I h k.2.stands gain; state_is = k.2.state_is; in_content = k.2.in_content },
    )

pub more-texts-read-on : MoreTextsReadOn
more-texts-read-on r old new was ended I bytes more h told x g f = record {
  well = x.well;
  of_options = x.of_options;
  keeps = keeps-up r.over r.content old new I bytes more h x.keeps g;
  follows = f;
  all = x.all;
  placed = x.placed;
}
