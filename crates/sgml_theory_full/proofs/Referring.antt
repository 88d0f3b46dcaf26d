-- References to entities.
use Rattle.std.proofs.Common.{◌≡◌, Bool, true, false, [], ◌∷◌, ◌++◌, Result, Ok, Err, length, refl, sym, ◌∙◌, ap, subst, arith}
use Rattle.sgml_theory_values.specs.text.declared.reason.Reason.{Reason}
use Rattle.sgml_theory_values.specs.delim.declared.delim.Mode.{Mode}
use Rattle.sgml_theory_values.specs.names.Naming.{entity_name}
use Rattle.sgml_theory_values.specs.markup.declared.kinds.TokenKind.TheVariants as kind
use Rattle.sgml_theory_values.specs.theory_reading.Names.{Name}
use Rattle.sgml_theory_values.specs.theory_reading.Pieces.{Kind, Meaning, Ordinary, ToText, ToData, ToExternalData, ToInstruction, Data, DataRef, Ref, Pi}
use Rattle.sgml_theory_values.specs.theory_reading.State.{State, sources_in}
use Rattle.sgml_theory_values.specs.theory_reading.Characters.{kind_noted}
use Rattle.sgml_theory_values.specs.theory_spelling.Sized.{sized, sized_ok}
use Rattle.sgml_theory_values.specs.theory_spelling.Places.{map_at, is_map}
use Rattle.sgml_theory_values.specs.theory_spelling.References.{meaning_of}
use Rattle.sgml_theory_values.specs.theory_spelling.Content.{content_piece, reference_kind, referred_name, kind_by_meaning, is_rcdata}
use Rattle.sgml_theory_values.specs.full.Spelled.{entity_reference}
use Rattle.sgml_theory_full.specs.Named.{IsEntityName}
use Rattle.sgml_theory_full.specs.Spellings.{spelling}
use Rattle.sgml_theory_full.specs.Points.{Point, stacked_at, doctype_at, IsInContent, HasReferences, IsPieceAt}
use Rattle.sgml_theory_full.proofs.References.{entity-named}
use Rattle.sgml_theory_full.proofs.Scanned.{entity-token}
use Rattle.sgml_theory_full.proofs.Pointed.{spelled-as}

-- nothing more is noted of a reference
abbrev okay : Kind → Result Kind Reason
okay k = Ok k

abbrev failing : Reason → Result Kind Reason
failing r = Err r

ok-same : (a b : Kind) → okay a ≡ okay b → a ≡ b
ok-same a b h = cc

noted-same : (s : State) (a b : Kind) → okay a ≡ okay b → kind_noted s a ≡ a → kind_noted s b ≡ b
noted-same s a b h k = subst (λ x. kind_noted s x ≡ x) (ok-same a b h) k

never-ok : (r : Reason) (b : Kind) {A : Type 0} → failing r ≡ okay b → A
never-ok r b h = absurd (never h)
  where
    never : failing r ≡ okay b → ⊥
    never h = cc

noted : (s : State) (rcdata : Bool) (x : Result Meaning Reason) (k : Kind) → kind_by_meaning rcdata x ≡ Ok k → kind_noted s k ≡ k
unfolding kind_noted
noted s rcdata (Err r) k h = never-ok r k h
noted s rcdata (Ok (ToText n)) k h = noted-same s (Ref n) k h refl
noted s rcdata (Ok (ToData n)) k h = noted-same s (Data n) k h refl
noted s true (Ok (ToExternalData n)) k h = never-ok _ k h
noted s false (Ok (ToExternalData n)) k h = noted-same s (DataRef n) k h refl
noted s true (Ok (ToInstruction n text)) k h = never-ok _ k h
noted s false (Ok (ToInstruction n text)) k h = noted-same s (Pi text _) k h refl
noted s rcdata (Ok (Ordinary has_items content)) k h = never-ok _ k h

reference-piece : (p : Point) (m : Mode) (name : Name) (k : Kind) → IsEntityName (doctype_at p).syntax name → reference_kind p.outside p.state (stacked_at p) m name ≡ Ok k
    → content_piece p.outside p.state (stacked_at p) m kind.EntityRef (entity_reference name) ≡ Ok (sized (length (entity_reference name)) (kind_noted p.state k))
unfolding content_piece
reference-piece p m name k n h =
    let named : referred_name (doctype_at p) (name ++ 59 ∷ []) ≡ name = ap (entity_name (doctype_at p).syntax) (entity-named (doctype_at p).syntax name [] n.is_name) ∙ n.folded in
    let same = noted p.state (is_rcdata m) (meaning_of p.outside (sources_in p.state) (stacked_at p) name) k h in
    ap (λ x. sized_ok (length (entity_reference name)) (reference_kind p.outside p.state (stacked_at p) m x)) named
    ∙ ap (sized_ok (length (entity_reference name))) h
    ∙ ap (λ x. Ok (sized (length (entity_reference name)) x)) (sym same)

pub references-are-spelled : (p : Point) (m : Mode) (name : Name) (k : Kind) → IsInContent p m → HasReferences m → IsEntityName (doctype_at p).syntax name
    → reference_kind p.outside p.state (stacked_at p) m name ≡ Ok k → IsPieceAt p (spelling k (entity_reference name))
references-are-spelled p m name k h r n is rest =
    spelled-as p m h (entity_reference name) rest kind.EntityRef (sized (length (entity_reference name)) (kind_noted p.state k)) (omega arith)
    (entity-token (doctype_at p).syntax m (is_map (map_at p.state)) name rest r n.is_name n.short)
    (reference-piece p m name k n is)
