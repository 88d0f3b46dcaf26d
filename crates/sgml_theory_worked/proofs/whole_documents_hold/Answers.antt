use Rattle.sgml_theory_worked.proofs.Wholes as wholes
use Rattle.sgml_theory_worked.proofs.whole_documents_hold.Goals as goal

pub returns : goal.returns
returns c = record {
  external_subset_alone = wholes.external-subset-alone;
  subset_by_catalog = wholes.subset-by-catalog;
  both_subsets = wholes.both-subsets;
  cut_document = wholes.cut-document;
  no_document_type = wholes.no-document-type;
}
