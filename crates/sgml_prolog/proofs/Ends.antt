-- The end of a document type in another text than the document's is refused.
use Rattle.std.proofs.Common.{◌≡◌, ℕ, false, ◌==◌, List, [], ◌∷◌, Result, Err, length, take, map, refl, ◌∙◌, ap, subst, if◌then◌else◌}
use Rattle.sgml_text.specs.declared.place.Place.{Place}
use Rattle.sgml_text.specs.declared.reason.Reason.{Reason}
use Rattle.sgml_text.specs.declared.reason.Reason.TheVariants as reason
use Rattle.sgml_scan.specs.markup.declared.kinds.TokenKind.TheVariants as kind
use Rattle.sgml_scan.specs.declared.state.Token.{Token}
use Rattle.sgml_declared.specs.decl_parts.declared.ends.Construct.TheVariants as construct
use Rattle.sgml_declared.specs.decl_lexemes.Readings.{entity_of}
use Rattle.sgml_declared.specs.theory_reading.Names.{Text}
use Rattle.sgml_declared.specs.theory_reading.Pieces.{Piece}
use Rattle.sgml_declared.specs.theory_reading.Unread.{Outside}
use Rattle.sgml_declared.specs.theory_reading.State.{State}
use Rattle.sgml_declared.specs.theory_spelling.Stacked.{Stacked}
use Rattle.sgml_declared.specs.theory_spelling.Declared.{lexed}
use Rattle.sgml_declared.specs.theory_spelling.Prolog.{end_piece, end_by, in_document}
use Rattle.sgml_declared.specs.theory_standing.Kept.{Kept}
use Rattle.sgml_declared.specs.theory_standing.Prologs.{state_in_prolog, is_over}
use Rattle.sgml_declared.specs.Taking.{stacked_on}
use Rattle.sgml_prolog_steps.specs.Found.{rest_in, mode_of, IsSpelled}
use Rattle.sgml_prolog_steps.specs.declared.sort.Sort.TheVariants as sort
use Rattle.sgml_prolog_steps.specs.declared.stepping.Stop.TheVariants as stop
use Rattle.sgml_prolog_steps.specs.Sorts.{sort_in}
use Rattle.sgml_prolog_steps.specs.Steps.{Takes}
use Rattle.sgml_prolog_steps.proofs.Shared.{refused, refused-step}
use Rattle.sgml_prolog.proofs.Tokens.{spelled-inside, is-subset-end, subset-end-inside}

elsewhere : (ps : List Place) → (entity_of ps == 0) ≡ false → in_document (map (λ (p : Place). p.entity) ps) ≡ false
elsewhere [] e = refl
elsewhere (p ∷ ps) e = e

misplaced-end : (outside : Outside) (s : State) (t : Stacked) (own : Text) → in_document t.entities ≡ false → end_piece outside s t own ≡ Err reason.DeclarationSyntax
misplaced-end outside s t own e =
    ap (λ b. if b then end_by outside s t (length own) (lexed construct.SubsetEnd outside s.context.doctype t own) else Err reason.DeclarationSyntax) e

pub misplaced-end-step : (texts : List (ℕ × Text)) (x : Token) (old : Kept) → is_over old ≡ false → sort_in old x.kind ≡ sort.SubsetEnd
    → (entity_of old.stack.places == 0) ≡ false → Takes texts x old old (Err (stop.Refused reason.DeclarationSyntax))
misplaced-end-step texts x old g e other c ended asked there =
    let q = is-subset-end old x.kind e in
    let own = take x.length (rest_in old texts) in
    refused-step c texts ended asked old old reason.DeclarationSyntax
    (λ outside o. refused outside old texts ended reason.DeclarationSyntax g
    (subst (λ (a : Result Piece Reason). IsSpelled outside old texts ended a)
    (subset-end-inside outside (state_in_prolog old) (stacked_on old.stack) (mode_of old) own
    ∙ misplaced-end outside (state_in_prolog old) (stacked_on old.stack) own (elsewhere old.stack.places other))
    (spelled-inside outside old texts ended x kind.SubsetEnd q.0 q.1 refl there)))
    refl
