use Rattle.std.proofs.Common.{ap, ◌∙◌, sym, arith, Some}
use Rattle.sgml_names.specs.syntax.declared.syntax.Syntax.{Syntax}
use Rattle.sgml_infer.specs.Visibles.{kind_of}
use Rattle.sgml_theory_reading.specs.Omission.{is_excluded}
use Rattle.sgml_infer.specs.Tables.{name_at}
use Rattle.sgml_infer.specs.Seen.{seen}
use Rattle.sgml_infer.proofs.First.{own-number}
use Rattle.sgml_infer.specs.declared.known.Known.{Known}
use Rattle.sgml_infer.proofs.Knowing.{declared-in}
use Rattle.sgml_infer.proofs.Leaving.{not-omissible, not-without, not-open, not-full, may-start}
use Rattle.sgml_infer.proofs.standing.Standing.omissible_start_of.Goals as goal

pub returns-then-not-known-clause-may : goal.returns-then-not-known-clause-may
returns-then-not-known-clause-may c =
    let s = c.args.self.now in
    not-omissible s c.requires.standing (name_at s.dtd.now c.args.n) (kind_of s.dtd.now c.args.visible) c.requires.required c.args.n (own-number s.dtd.now c.args.n c.requires.standing.distinct c.requires.number)
    (sym (ap (λ (k : Known). k.omits_start) c.known-known.ensures) ∙ c.if-not-known.true)

pub returns-then-known-clause-may : goal.returns-then-known-clause-may
returns-then-known-clause-may c =
    let s = c.args.self.now in
    not-without s c.requires.standing (name_at s.dtd.now c.args.n) (kind_of s.dtd.now c.args.visible) c.requires.required c.args.n (own-number s.dtd.now c.args.n c.requires.standing.distinct c.requires.number) (sym (ap (λ (k : Known). k.has_required) c.known-known.ensures) ∙ c.if-known.true)

pub returns-then-is_declared_content-clause-may : goal.returns-then-is_declared_content-clause-may
returns-then-is_declared_content-clause-may c =
    let s = c.args.self.now in
    not-open s c.requires.standing (name_at s.dtd.now c.args.n) (kind_of s.dtd.now c.args.visible) c.requires.required c.args.n (own-number s.dtd.now c.args.n c.requires.standing.distinct c.requires.number) (declared-in s.dtd.now c.args.n c.known-known.result.now c.known-known.ensures ∙ (sym c.is_declared_content.ensures ∙ c.if-is_declared_content.true))

pub returns-then-depth-syntax-clause-may : goal.returns-then-depth-syntax-clause-may
returns-then-depth-syntax-clause-may c =
    let s = c.args.self.now in
    let e = ap (λ (x : Syntax). x.quantities.taglvl) c.syntax.ensures in
    not-full s c.requires.standing (name_at s.dtd.now c.args.n) (kind_of s.dtd.now c.args.visible) c.requires.required (omega arith)

pub returns-clause-may : goal.returns-clause-may
returns-clause-may c =
    let s = c.args.self.now in
    may-start s c.requires.standing (name_at s.dtd.now c.args.n) (kind_of s.dtd.now c.args.visible) c.requires.required c.args.n (own-number s.dtd.now c.args.n c.requires.standing.distinct c.requires.number)
    c.requires.omits c.requires.misfits c.requires.unfinished (ap (λ (k : Known). is_excluded (seen s) (Some k.name)) (sym c.known-known.ensures) ∙ (sym c.is_excluded.ensures ∙ c.if-is_excluded.false))
    (sym (ap (λ (k : Known). k.omits_start) c.known-known.ensures) ∙ c.if-not-known.false)
    (sym (ap (λ (k : Known). k.has_required) c.known-known.ensures) ∙ c.if-known.false)
    (declared-in s.dtd.now c.args.n c.known-known.result.now c.known-known.ensures ∙ (sym c.is_declared_content.ensures ∙ c.if-is_declared_content.false))
    (let e = ap (λ (x : Syntax). x.quantities.taglvl) c.syntax.ensures in omega arith)
