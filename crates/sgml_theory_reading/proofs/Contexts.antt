-- The context by search is the context by steps.
use Rattle.std.specs.Prelude.{◌≡◌, Option, Some, None, List, [], ◌∷◌, ◌++◌, map, option_to_list}
use Rattle.std.proofs.Common.{refl, ap}
use Rattle.sgml_dtd.specs.model.Term.{Term}
use Rattle.sgml_theory_reading.specs.Types.{type_of, content_of, model_of}
use Rattle.sgml_theory_reading.specs.Pieces.{Piece, History}
use Rattle.sgml_theory_reading.specs.Facets.{Token, Effect, Opens, Closes, Stays, effect, token}
use Rattle.sgml_theory_reading.specs.Nest.{Open, nest, nest_after, with_piece, word, types}
use Rattle.sgml_theory_reading.specs.Context.{context, level_of, level_with, levels_with, levels_after, begun_level, token_taken, token_left, left_after, context_after}

pub left-append : (r : Term) (ks : List Token) (k : Option Token) → left_after r (ks ++ option_to_list k) ≡ token_taken k (left_after r ks)
left-append r [] None = refl
left-append r [] (Some k) = refl
left-append r (j ∷ ks) k = left-append (token_left r j) ks k

pub level-with : (p : Piece) (o : Open) → level_of (record { element = o.element; slash = o.slash; before = o.before; inside = p ∷ o.inside }) ≡ level_with p.kind (level_of o)
level-with p o =
    let e = left-append (model_of (content_of (type_of (types o.before) o.element))) (word o.inside) (token p.kind) in
    λ i. record { element = o.element; left = e i; slash = o.slash }

pub levels-with : (p : Piece) (os : List Open) → map level_of (with_piece p os) ≡ levels_with p.kind (map level_of os)
levels-with p [] = refl
levels-with p (o ∷ os) = ap (λ l. l ∷ map level_of os) (level-with p o)

pub levels-after : (h : History) (p : Piece) (e : Effect) (os : List Open) → map level_of (nest_after e h p os) ≡ levels_after (types h) e p.kind (map level_of os)
levels-after h p (Opens n slash) os = ap (λ ls. begun_level (types h) n slash ∷ ls) (levels-with p os)
levels-after h p Closes [] = refl
levels-after h p Closes (o ∷ os) = refl
levels-after h p Stays os = levels-with p os

-- the context after one piece more
pub context-step : (p : Piece) (h : History) → context (p ∷ h) ≡ context_after p (context h)
unfolding context nest context_after types
context-step p h =
    λ i. record {
      doctype = types (p ∷ h);
      levels = levels-after h p (effect p.kind) (nest h) i;
      begun = (context (p ∷ h)).begun;
      inferred = (context (p ∷ h)).inferred;
    }
