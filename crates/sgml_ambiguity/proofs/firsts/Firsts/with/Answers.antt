use Rattle.std.proofs.Common.{◌≡◌, ◌<◌, ◌+◌, true, false, [], ◌∷◌, ◌++◌, None, Some, map, take, length, arith, sym, ap, ◌∙◌, subst}
use Rattle.std.specs.Prelude.{is_some}
use Rattle.std.specs.Option.{option_copied}
use Rattle.sgml_model.specs.Term.{Token as Tok}
use Rattle.sgml_ambiguity.specs.Names.{number_in}
use Rattle.sgml_ambiguity.specs.Scan.{token, token_view, first_number}
use Rattle.sgml_ambiguity.proofs.Indexing.{known_on, new_text, new_name, front_and_next, next_within}
use Rattle.sgml_ambiguity.proofs.firsts.Firsts.with.Goals as goal

pub invariant_of-result : goal.invariant_of-result
invariant_of-result c =
    let ts = c.args.self.tokens.items in let bs = map token_view (take c.args.self.known ts) in let t = token_view c.args.token in
    let more : map token_view (take (c.args.self.known + 1) ts) ≡ bs ++ t ∷ [] = front_and_next ts c.args.self.known c.args.token c.requires in
    let known : is_some (first_number bs t.label) ≡ true = sym (c.is_some-is_known.ensures ∙ ap is_some c.number.ensures) ∙ c.if-is_known.true in
    let inside : c.args.self.known < length ts = next_within ts c.args.self.known c.args.token c.requires in
    record {
      indexed = λ l. c.args.self.indexed l ∙ sym (known_on bs t l known) ∙ ap (λ b. first_number b l) (sym more);
      within = omega (arith, inside);
    }

pub invariant_of-result-in-None : goal.invariant_of-result-in-None
invariant_of-result-in-None c =
    let ts = c.args.self.tokens.items in let bs = map token_view (take c.args.self.known ts) in let t = token_view c.args.token in
    let more : map token_view (take (c.args.self.known + 1) ts) ≡ bs ++ t ∷ [] = front_and_next ts c.args.self.known c.args.token c.requires in
    let is : t ≡ token c.args.token.number None = ap (λ o. token c.args.token.number (option_copied o)) c.in-None.is in
    let known : is_some (first_number bs t.label) ≡ false = sym (c.is_some-is_known.ensures ∙ ap is_some c.number.ensures) ∙ c.if-is_known.false in
    let new = subst (λ (u : Tok). is_some (first_number bs u.label) ≡ false) is known in
    let inside : c.args.self.known < length ts = next_within ts c.args.self.known c.args.token c.requires in
    record {
      indexed = λ l. new_text bs c.args.self.names c.args.self.text c.args.self.indexed c.args.token.number new l ∙ ap (λ u. first_number (bs ++ u ∷ []) l) (sym is) ∙ ap (λ b. first_number b l) (sym more);
      within = omega (arith, inside);
    }

pub invariant_of-result-in-Some : goal.invariant_of-result-in-Some
invariant_of-result-in-Some c =
    let ts = c.args.self.tokens.items in let bs = map token_view (take c.args.self.known ts) in let t = token_view c.args.token in
    let more : map token_view (take (c.args.self.known + 1) ts) ≡ bs ++ t ∷ [] = front_and_next ts c.args.self.known c.args.token c.requires in
    let is : t ≡ token c.args.token.number (Some c.in-Some.name.now) = ap (λ o. token c.args.token.number (option_copied o)) c.in-Some.is in
    let added : c.add.new.self ≡ c.args.self.names ++ (c.in-Some.name.now, c.args.token.number) ∷ [] =
    c.in_ok-add-in-Some.ensures.ok ∙ ap (λ n. c.args.self.names ++ (n, c.args.token.number) ∷ []) c.items.ensures.list in
    let inside : c.args.self.known < length ts = next_within ts c.args.self.known c.args.token c.requires in
    record {
      indexed = λ l. ap (λ es. number_in es c.args.self.text l) added
          ∙ new_name bs c.args.self.names c.args.self.text c.args.self.indexed c.in-Some.name.now c.args.token.number l ∙ ap (λ u. first_number (bs ++ u ∷ []) l) (sym is) ∙ ap (λ b. first_number b l) (sym more);
      within = omega (arith, inside);
    }
