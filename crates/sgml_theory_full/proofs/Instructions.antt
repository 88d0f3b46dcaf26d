-- Instructions by their own text.
use Rattle.std.proofs.Common.{◌≡◌, ◌-◌, Bool, true, false, not, nat_lt, [], ◌∷◌, ◌++◌, None, Ok, length, refl, sym, ap, length-append, take_at, arith}
use Rattle.std.specs.Prelude.{codes}
use Rattle.sgml_theory_values.specs.delim.declared.delim.Mode.TheVariants as mode
use Rattle.sgml_theory_values.specs.markup.declared.kinds.TokenKind.TheVariants as kind
use Rattle.sgml_theory_values.specs.theory_reading.Names.{Text}
use Rattle.sgml_theory_values.specs.theory_reading.Pieces.{Pi}
use Rattle.sgml_theory_values.specs.theory_reading.Characters.{kind_noted}
use Rattle.sgml_theory_values.specs.theory_spelling.Sized.{sized}
use Rattle.sgml_theory_values.specs.theory_spelling.Places.{map_at, is_map}
use Rattle.sgml_theory_values.specs.theory_spelling.Content.{content_piece, instruction}
use Rattle.sgml_theory_full.specs.Named.{IsWrittenText}
use Rattle.sgml_theory_full.specs.Spellings.{spelling}
use Rattle.sgml_theory_full.specs.Points.{Point, stacked_at, doctype_at, IsInContent, IsPieceAt}
use Rattle.sgml_theory_full.proofs.Plain.{true-false}
use Rattle.sgml_theory_full.proofs.Scanned.{instruction-token}
use Rattle.sgml_theory_full.proofs.Pointed.{spelled-as}

abbrev written : Text → Text
written text = codes "<?" ++ (text ++ 62 ∷ [])

-- what stands between its delimiters
text-within : (text : Text) → instruction (written text) ≡ text
text-within text =
    let l = length-append text (62 ∷ []) in
    let n : length text ≡ length (written text) - 3 = omega (arith, l) in
    take_at text (62 ∷ []) (length (written text) - 3) n

instruction-piece : (p : Point) (text : Text)
    → content_piece p.outside p.state (stacked_at p) mode.Con kind.Pi (written text) ≡ Ok (sized (length (written text)) (kind_noted p.state (Pi text None)))
unfolding content_piece kind_noted
instruction-piece p text = ap (λ t. Ok (sized (length (written text)) (Pi t None))) (text-within text)

not-long : (t : Bool) → not t ≡ true → t ≡ false
not-long true h = true-false (sym h)
not-long false h = refl

pub instructions-are-spelled : (p : Point) (text : Text) → IsInContent p mode.Con → IsWrittenText (doctype_at p).syntax text → IsPieceAt p (spelling (Pi text None) (codes "<?" ++ (text ++ 62 ∷ [])))
instructions-are-spelled p text h w rest =
    spelled-as p mode.Con h (written text) rest kind.Pi (sized (length (written text)) (kind_noted p.state (Pi text None))) (omega arith)
    (instruction-token (doctype_at p).syntax (is_map (map_at p.state)) text rest w.unended w.sgml (not-long (nat_lt (doctype_at p).syntax.quantities.pilen (length text)) w.short))
    (instruction-piece p text)
