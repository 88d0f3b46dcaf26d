-- Data goes on: behind a data character that brought no tags the next ones bring none.
use Rattle.std.specs.Prelude.{◌≡◌, ℕ, suc, ◌==◌, not, Bool, true, false, IsTrue, List, [], ◌∷◌, Option, Some, None, is_some, length}
use Rattle.std.specs.Option.{option_or}
use Rattle.std.proofs.Common.{refl, sym, ap, ◌∙◌, subst, arith}
use Rattle.std.proofs.lemmas.Bool.{and_parts}
use Rattle.std.proofs.lemmas.Bool.Decides.{nat_tests}
use Rattle.sgml_text.specs.declared.reason.Reason.{Reason}
use Rattle.sgml_infer.specs.sgml_dtd.model.Choice.{left_by}
use Rattle.sgml_infer.specs.sgml_dtd.Doctypes.{Doctype}
use Rattle.sgml_infer.specs.theory_reading.Names.{Name}
use Rattle.sgml_infer.specs.theory_reading.Pieces.{Char}
use Rattle.sgml_infer.specs.theory_reading.Facets.{Pcdata}
use Rattle.sgml_infer.specs.theory_reading.Context.{Level, Context, context_after}
use Rattle.sgml_infer.specs.theory_reading.Omission.{document_name, NoneMayStand, allowed}
use Rattle.sgml_infer.specs.theory_reading.Reasons.{reason, Stands, DataGoesOn}
use Rattle.sgml_infer.specs.theory_reading.State.{State, after_piece}
use Rattle.sgml_infer.proofs.theory_reading.Table.{reason-exact}
use Rattle.sgml_infer.proofs.theory_reading.Again.{data-goes-on}
use Rattle.sgml_infer.proofs.theory_reading.DataAgain.{chars-again}
use Rattle.sgml_prolog_steps.specs.theory_spelling.Sized.{sized}
use Rattle.sgml_prolog_steps.specs.theory_standing.Prologs.{alone}
use Rattle.sgml_prolog_steps.specs.theory_standing.Moves.{IsMove}
use Rattle.sgml_content_data.specs.Laws.{character, CharactersGoOn}
use Rattle.sgml_content_data.proofs.Judged.{character-text}

-- WHERE A DATA CHARACTER STANDS with no tag left out before it, data is allowed
pub data-allowed : (s : Context) (b : ℕ) → NoneMayStand s (Char b) → reason s (Char b) ≡ None → IsTrue (allowed s Pcdata)
data-allowed s b none free = (subst (λ t. Stands s (Char b) t) (character-text b).token_is ((reason-exact s (Char b) none).0 free)).0

nothing-before : (o : Option Name) → is_some (left_by (document_name o) None) ≡ false
nothing-before None = refl
nothing-before (Some n) = refl

-- so some element is open
pub some-open : (d : Doctype) (ls : List Level) (begun inferred : Bool) → IsTrue (allowed (record { doctype = d; levels = ls; begun = begun; inferred = inferred }) Pcdata)
    → IsTrue (not (length ls == 0))
unfolding allowed
some-open d [] true inferred e = absurd (never e)
  where
    never : false ≡ true → ⊥
    never e = cc
some-open d [] false inferred e = absurd (never (sym (nothing-before d.name) ∙ (and_parts (is_some (left_by (document_name d.name) None)) _ e).0))
  where
    never : false ≡ true → ⊥
    never e = cc
some-open d (l ∷ ls) begun inferred e = ap not (no-zero (length ls))
  where
    no-zero : (n : ℕ) → (suc n == 0) ≡ false
    no-zero n = grind (arith, nat_tests)

-- THE NEXT ONE is a move by itself
pub data-moves : (s : State) (b : ℕ) → DataGoesOn s.context (Char b) → IsMove s (sized 1 (Char b)) (alone (sized 1 (Char b)))
data-moves s b g = record {
  longest = g.none_omitted;
  visible = refl;
  no_reason = λ i. option_or None (option_or (g.no_reason i) (option_or None ((character-text b).none_unvalued s i)));
}

-- THE LAW

none-first : (o r : Option Reason) → option_or o r ≡ None → o ≡ None
none-first None r e = refl
none-first (Some x) r e = cc

goes-in : (s : State) (a b : ℕ) → IsMove s (character a) (alone (character a)) → DataGoesOn (context_after (character a) s.context) (Char b)
goes-in s a b m =
    let may = data-allowed s.context a m.longest (none-first (reason s.context (Char a)) _ m.no_reason) in
    data-goes-on s.context (character a) (character b) (character-text a).token_is (character-text b).token_is may
    (some-open s.context.doctype s.context.levels s.context.begun s.context.inferred may)

context-in : (s : State) (a : ℕ) → (after_piece (character a) s).context ≡ context_after (character a) s.context
unfolding after_piece
context-in s a = refl

pub characters-go-on : CharactersGoOn
characters-go-on s a b m = record {
  moves = data-moves (after_piece (character a) s) b (subst (λ (c : Context). DataGoesOn c (Char b)) (sym (context-in s a)) (goes-in s a b m));
  same = chars-again s (character a) (character b) a b refl refl;
}
