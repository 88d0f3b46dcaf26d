-- Tokens and signs of a group.
use Rattle.std.proofs.Common.{◌≡◌, ℕ, Bool, List, [], ◌∷◌, Some, refl, sym, ap, ◌∙◌, map}
use Rattle.sgml_model.specs.Group.{Sign, begin, finish, text, word, by, mark, in_order, one_of, all_of, once, some_times, any_times, spelling}
use Rattle.sgml_model.specs.Reading.{reading}
use Rattle.sgml_model.specs.ReaderView.{sign}
use Rattle.sgml_model.specs.declared.token.GroupToken.{GroupToken}
use Rattle.sgml_model.specs.declared.token.GroupToken.TheVariants.{Begin, Finish, Name, Pcdata, Seq, Or, And, Opt, Plus, Rep}
use Rattle.sgml_automaton.specs.Automaton.{whole_of}
use Rattle.sgml_automaton.specs.declared.automaton.Automaton.{Automaton}
use Rattle.sgml_dtd_elements.specs.declared.content.Content.{Content}
use Rattle.sgml_dtd_elements.specs.declared.content.Content.TheVariants as kept
use Rattle.sgml_dtd_elements.specs.Kept.{token, form_of, IsRead}
use Rattle.sgml_dtd_elements.specs.Types.{IsContentOf}

token_of_sign : (t : GroupToken) → token (sign t) ≡ t
token_of_sign Begin = refl
token_of_sign Finish = refl
token_of_sign (Name n) = refl
token_of_sign Pcdata = refl
token_of_sign Seq = refl
token_of_sign Or = refl
token_of_sign And = refl
token_of_sign Opt = refl
token_of_sign Plus = refl
token_of_sign Rep = refl

sign_of_token : (s : Sign) → sign (token s) ≡ s
sign_of_token begin = refl
sign_of_token finish = refl
sign_of_token text = refl
sign_of_token (word n) = refl
sign_of_token (by in_order) = refl
sign_of_token (by one_of) = refl
sign_of_token (by all_of) = refl
sign_of_token (mark once) = refl
sign_of_token (mark some_times) = refl
sign_of_token (mark any_times) = refl

-- tokens are those of their signs
pub tokens_of_signs : (ts : List GroupToken) → map token (map sign ts) ≡ ts
tokens_of_signs [] = refl
tokens_of_signs (t ∷ ts) = ap (λ (x : GroupToken). x ∷ map token (map sign ts)) (token_of_sign t) ∙ ap (λ (xs : List GroupToken). t ∷ xs) (tokens_of_signs ts)

pub signs_of_tokens : (ss : List Sign) → map sign (map token ss) ≡ ss
signs_of_tokens [] = refl
signs_of_tokens (s ∷ ss) = ap (λ (x : Sign). x ∷ map sign (map token ss)) (sign_of_token s) ∙ ap (λ (xs : List Sign). s ∷ xs) (signs_of_tokens ss)

-- a content is that of its form
pub content_of_form : (c : Content) → IsRead c → IsContentOf (form_of c) c
content_of_form kept.Empty read = tt
content_of_form kept.Cdata read = tt
content_of_form kept.Rcdata read = tt
content_of_form kept.Any read = tt
content_of_form (kept.Model a) read = ap reading (signs_of_tokens (spelling (whole_of a))) ∙ read
