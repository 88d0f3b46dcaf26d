-- Attribute specifications one after another.
use Rattle.std.proofs.Common.{◌≡◌, ℕ, ◌+◌, ◌<◌, Bool, false, Option, List, [], ◌∷◌, ◌++◌, length, drop, get_or, refl, sym, ap, ◌∙◌, append_assoc, append-nil}
use Rattle.std.specs.Prelude.{flat_map, ◌&&◌, ◌||◌}
use Rattle.sgml_esis.specs.Writing.{Puts}
use Rattle.sgml_esis.proofs.Holding.{puts_then, puts_as}
use Rattle.sgml_attr.specs.declared.definition.Definition.{Definition}
use Rattle.sgml_attr.specs.declared.value.AttrValue.{AttrValue}
use Rattle.sgml_dtd.specs.Doctypes.{Doctype}
use Rattle.sgml_said.specs.Told.{attributes_with}
use Rattle.sgml_said.proofs.Paired.{drop_here}
use Rattle.sgml_full.specs.Spelled.{specification, specification_of}
use Rattle.sgml_full.specs.Full.{refers, is_conref, is_given}

-- the specification of one more value
pub specification_put : (d : Doctype) (ds : List Definition) (vs : List AttrValue) (i : ℕ) (a : Definition) (v : AttrValue) (whole : List ℕ) (t u w : Option (List ℕ)) (m n o : ℕ) (h j k : List ℕ × Bool) → i < length ds → i < length vs → a ≡ get_or ds i a → v ≡ get_or vs i v → ((done : List ℕ) × (whole ≡ done ++ flat_map (specification_of d) (attributes_with (drop i ds) (drop i vs))) × Puts t m h u n j done) → Puts u n j w o k (specification d a.name v) → (done : List ℕ) × (whole ≡ done ++ flat_map (specification_of d) (attributes_with (drop (i + 1) ds) (drop (i + 1) vs))) × Puts t m h w o k done
specification_put d ds vs i a v whole t u w m n o h j k lt lu e f inv one =
    let l = specification d a.name v in
    let rest = flat_map (specification_of d) (attributes_with (drop (i + 1) ds) (drop (i + 1) vs)) in
    let step : flat_map (specification_of d) (attributes_with (drop i ds) (drop i vs)) ≡ l ++ rest =
    ap (λ (x : List Definition). flat_map (specification_of d) (attributes_with x (drop i vs))) (drop_here ds i a lt e) ∙ ap (λ (x : List AttrValue). flat_map (specification_of d) (attributes_with (a ∷ drop (i + 1) ds) x)) (drop_here vs i v lu f) in (
      inv.0 ++ l,
      inv.1 ∙ ap (λ x. inv.0 ++ x) step ∙ sym (append_assoc inv.0 l rest),
      puts_then t u w m n o h j k inv.0 l inv.2 one,
    )

-- after the last
pub specifications_done : (d : Doctype) (ds : List Definition) (vs : List AttrValue) (n : ℕ) (t u : Option (List ℕ)) (f g : ℕ) (h j : List ℕ × Bool) → attributes_with (drop n ds) (drop n vs) ≡ [] → ((done : List ℕ) × (flat_map (specification_of d) (attributes_with ds vs) ≡ done ++ flat_map (specification_of d) (attributes_with (drop n ds) (drop n vs))) × Puts t f h u g j done) → Puts t f h u g j (flat_map (specification_of d) (attributes_with ds vs))
specifications_done d ds vs n t u f g h j none inv =
    puts_as t u f g h j inv.0 _ (sym (inv.1 ∙ ap (λ x. inv.0 ++ flat_map (specification_of d) x) none ∙ append-nil inv.0)) inv.2

-- CONTENT REFERENCES
pub no_reference : (ds : List Definition) → refers ds [] ≡ false
no_reference [] = refl
no_reference (d ∷ ds) = refl

pub refers_none : (ds : List Definition) (vs : List AttrValue) → attributes_with ds vs ≡ [] → refers ds vs ≡ false
refers_none [] vs e = refl
refers_none (d ∷ ds) [] e = refl
refers_none (d ∷ ds) (v ∷ vs) e = absurd (cc)

pub refers_at : (ds : List Definition) (vs : List AttrValue) (i : ℕ) (a : Definition) (v : AttrValue) → i < length ds → i < length vs → a ≡ get_or ds i a → v ≡ get_or vs i v → refers (drop i ds) (drop i vs) ≡ ((is_conref a.default && is_given v) || refers (drop (i + 1) ds) (drop (i + 1) vs))
refers_at ds vs i a v lt lu e f =
    ap (λ (x : List Definition). refers x (drop i vs)) (drop_here ds i a lt e) ∙ ap (λ (x : List AttrValue). refers (a ∷ drop (i + 1) ds) x) (drop_here vs i v lu f)
