-- The tokens of the program, as signs.
use Rattle.std.proofs.Common.{◌≡◌, ℕ, ◌<◌, List, map, length, get_or, sym, ap, ◌∙◌}
use Rattle.std.proofs.lemmas.List.{get_or-map}
use Rattle.sgml_model.specs.ReaderView.{sign}
use Rattle.sgml_model.specs.declared.token.GroupToken.{GroupToken}

pub sign_at : (ts : List GroupToken) (i : ℕ) (t : GroupToken) → i < length ts → t ≡ get_or ts i t → sign t ≡ get_or (map sign ts) i (sign t)
sign_at ts i t l is = ap sign is ∙ sym (get_or-map sign ts i t (sign t) l)
