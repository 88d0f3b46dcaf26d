-- The full document of what is asked so little of is read again.
use Rattle.std.proofs.Common.{◌≡◌, ℕ, List, [], refl, sym, inl, subst}
use Rattle.sgml_conversion.specs.dtd.Doctypes.{Doctype}
use Rattle.sgml_conversion.specs.theory_reading.Names.{Text}
use Rattle.sgml_conversion.specs.theory_reading.Pieces.{History}
use Rattle.sgml_conversion.specs.theory_reading.Facets.{AfterSubset}
use Rattle.sgml_conversion.specs.theory_reading.Context.{Level}
use Rattle.sgml_conversion.specs.theory_reading.Unread.{Input, standing}
use Rattle.sgml_conversion.specs.theory_reading.State.{state}
use Rattle.sgml_conversion.specs.theory_reading.Reads.{Move, read_by}
use Rattle.sgml_theory_prologs.specs.theory_spelling.Stacked.{stacked}
use Rattle.sgml_theory_prologs.specs.theory_spelling.Places.{in_doctype, element_mode}
use Rattle.sgml_theory_writable.specs.sgml_theory_full.Named.{AllAre, IsWritten}
use Rattle.sgml_theory_writable.specs.sgml_theory_full.Points.{HasReferences}
use Rattle.sgml_theory_prologs.specs.Prologs.{at_document, ReadsProlog}
use Rattle.sgml_theory_prologs.specs.Laws.{NothingIsOpen}
use Rattle.sgml_theory_writable.specs.sgml_theory_again.Content.{HasCome}
use Rattle.sgml_theory_writable.specs.sgml_theory_again.Holding.{ReadToEndHolds, ReadToEndIsRaw}
use Rattle.sgml_theory_writable.specs.Laws.{MayBeSpelled, ReadIsWritten}
use Rattle.sgml_theory_round.specs.Parted.{Parted}
use Rattle.sgml_theory_round.specs.Again.{instance_told, FullDocumentsAreReadAgain}
use Rattle.sgml_theory_round.specs.Plain.{DocumentsAreReadAgain}

-- at the end of a prolog the instance begins
has-come : (I : Input) (h : History) (spent : ℕ) (rest : Text) → (state h).stage ≡ AfterSubset → standing I h ≡ at_document spent rest → HasCome I h
has-come I h spent rest over left = λ i. in_doctype (over i) (stacked (left i)).entities

refers-at-first : (d : Doctype) (ls : List Level) → ls ≡ [] → HasReferences (element_mode d ls)
refers-at-first d ls e = subst (λ (ks : List Level). HasReferences (element_mode d ks)) (sym e) (inl refl)

-- what is told of the instance can be written
pub all-written : NothingIsOpen → ReadIsWritten → (I : Input) (ms : List Move) (p : Parted I ms) (prolog rest : Text) → ReadsProlog I p.prolog prolog rest
    → AllAre MayBeSpelled (instance_told I ms p)
    → AllAre (IsWritten (state (read_by I p.prolog)).context.doctype) (instance_told I ms p)
all-written nothing writable I ms p prolog rest reads spelled =
    let b = (nothing I p.prolog p.prolog_reads p.border).1 in
    writable I p.prolog p.instance p.prolog_reads (has-come I (read_by I p.prolog) _ rest b.over reads.left) p.instance_reads spelled

pub documents-are-read-again : NothingIsOpen → ReadToEndHolds → ReadToEndIsRaw → ReadIsWritten → FullDocumentsAreReadAgain → DocumentsAreReadAgain
documents-are-read-again nothing holds raw writable again I J ms p e may spelled f =
    let h = read_by I p.prolog in
    let b = (nothing I p.prolog p.prolog_reads p.border).1 in
    let come : HasCome I h = has-come I h _ f.rest b.over f.reads.left in
    let refers = refers-at-first (state h).context.doctype (state h).context.levels b.no_element in
    again I J ms p e
    (record {
      hold = holds I p.prolog p.instance p.prolog_reads come p.instance_reads may.stay may.strings may.may refers;
      raw = raw I p.prolog p.instance p.prolog_reads come p.instance_reads refers may.cdata_stays;
      written = all-written nothing writable I ms p f.prolog f.rest f.reads spelled;
    })
    f
