use Rattle.std.proofs.Common.{◌≡◌, [], ◌∷◌, length}
use Rattle.sgml_decl_forms.specs.Attributes.{attributes_at}
use Rattle.sgml_decl_forms.proofs.attlist.read_attributes.Given as goal

abbrev pub invariant-attributes : goal.invariant-attributes
invariant-attributes l =
    attributes_at l.left l.attributes.items l.rest ≡ attributes_at (length l.fn.lexemes) (l.fn.first ∷ []) l.fn.lexemes

abbrev pub decreases-attributes : goal.decreases-attributes
decreases-attributes l = l.left
