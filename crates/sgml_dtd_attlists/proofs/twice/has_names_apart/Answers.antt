use Rattle.std.proofs.Common.{◌≡◌, false, refl, subst, map, [], List, ℕ}
use Rattle.std.proofs.lemmas.Bool.{OnTrue_from, OnTrue_at}
use Rattle.sgml_attr.specs.declared.definition.Definition.{Definition}
use Rattle.sgml_names.specs.Lists.{repeats}
use Rattle.sgml_hashes.specs.Hashes.{hash_of, AllDiffer}
use Rattle.sgml_dtd_attlists.proofs.Hashed.{apart_by_hashes, noted_all}
use Rattle.sgml_dtd_attlists.proofs.twice.has_names_apart.Goals as goal

pub returns : goal.returns
returns c =
    let names : List (List ℕ) = map (λ (d : Definition). d.name) c.args.definitions.now in
    OnTrue_from c.all_differ-apart.result (repeats [] names ≡ false) (λ h.
    apart_by_hashes names
    (subst AllDiffer (noted_all (λ (ds : List Definition). map hash_of (map (λ (d : Definition). d.name) ds)) c.definitions.hashes (map hash_of names) c.definitions.rest.now c.in_default.len_below refl c.definitions.invariant)
    (OnTrue_at h c.all_differ-apart.ensures)))
