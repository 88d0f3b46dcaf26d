-- What the reader of SGML declarations answers is the piece that one is.
use Rattle.std.proofs.Common.{◌≡◌, ℕ, Bool, true, false, List, take, Result, Ok, Err, refl, sym, ◌∙◌, ap, if◌then◌else◌}
use Rattle.sgml_text.specs.declared.reason.Reason.TheVariants as reason
use Rattle.sgml_text.specs.Characters.{all_sgml}
use Rattle.sgml_delim.specs.syntax.declared.syntax.Syntax.{Syntax}
use Rattle.sgml_sgmldecl.specs.declared.feature.Feature.{Feature}
use Rattle.sgml_sgmldecl.specs.declared.feature.Feature.TheVariants as feature
use Rattle.sgml_sgmldecl.specs.declared.feature.DeclError.{DeclError}
use Rattle.sgml_sgmldecl.specs.declared.feature.DeclError.TheVariants as errors
use Rattle.sgml_sgmldecl.specs.Machine.{Outcome, bad, whole, run, begin_state}
use Rattle.sgml_sgmldecl.specs.Declaring.{Found, BeginsWithNone}
use Rattle.sgml_sgmldecl.proofs.Whole.{declared_read, read_declared}
use Rattle.sgml_declared.specs.theory_reading.Names.{Text}
use Rattle.sgml_declared.specs.theory_reading.Pieces.{Sgml}
use Rattle.sgml_declared.specs.theory_spelling.Sized.{sized}
use Rattle.sgml_declared.specs.theory_spelling.SgmlDeclared.{feature_reason, sgml_of, sgml_by, sgml_piece, misplaced}

found-piece : (own : Text) (result : Result (Syntax × ℕ) DeclError) → Found own result → sgml_piece own ≡ sgml_of own result
unfolding sgml_piece
found-piece own result f = ap (sgml_by own) (declared_read own f.used f.told f.within f.declares) ∙ ap (sgml_of own) (sym f.answers)

-- one that is of the form
pub placed-ok : (own : Text) (x : Syntax × ℕ) → Found own (Ok x) → reason.DeclarationPlace ≡ misplaced (sgml_piece own)
placed-ok own x f = sym (ap misplaced (found-piece own (Ok x) f) ∙ by (all_sgml (take x.1 own)))
  where
    by : (b : Bool) → misplaced (if b then Ok (sized x.1 (Sgml x.0)) else Err reason.NonSgml) ≡ reason.DeclarationPlace
    by true = refl
    by false = refl

feature-placed : (which : Feature) → misplaced (Err (feature_reason which)) ≡ reason.DeclarationPlace
feature-placed feature.Datatag = refl
feature-placed feature.Rank = refl
feature-placed feature.Link = refl
feature-placed feature.Concur = refl
feature-placed feature.Subdoc = refl
feature-placed feature.Other = refl

pub placed-feature : (own : Text) (which : Feature) (at : ℕ) → Found own (Err (errors.FeatureOut which at)) → reason.DeclarationPlace ≡ misplaced (sgml_piece own)
placed-feature own which at f = sym (ap misplaced (found-piece own (Err (errors.FeatureOut which at)) f) ∙ feature-placed which)

pub placed-quantity : (own : Text) (name : List ℕ) (number at : ℕ) → Found own (Err (errors.QuantityOut name number at)) → reason.DeclarationPlace ≡ misplaced (sgml_piece own)
placed-quantity own name number at f = sym (ap misplaced (found-piece own (Err (errors.QuantityOut name number at)) f))

-- one that isn't
none-piece : (own : Text) → BeginsWithNone own → sgml_piece own ≡ Err reason.BadDeclaration
unfolding sgml_piece
none-piece own none = by (run 0 begin_state own) refl
  where
    by : (o : Outcome) → run 0 begin_state own ≡ o → sgml_by own o ≡ Err reason.BadDeclaration
    by (bad at) e = refl
    by (whole told n) e = let d = read_declared own n told e in absurd (none n told d.0 d.1)

pub of-no-form : (own : Text) → BeginsWithNone own → reason.DeclarationSyntax ≡ misplaced (sgml_piece own)
of-no-form own none = sym (ap misplaced (none-piece own none))
