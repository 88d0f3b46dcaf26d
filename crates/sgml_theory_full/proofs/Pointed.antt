-- What is spelled at a point of content is told by the token there.
use Rattle.std.proofs.Common.{◌≡◌, ℕ, ◌<◌, false, List, [], ◌∷◌, ◌++◌, Ok, length, take, refl, ◌∙◌, ap, take_at, arith}
use Rattle.sgml_theory_values.specs.delim.declared.delim.Mode.{Mode}
use Rattle.sgml_theory_values.specs.markup.declared.kinds.TokenKind.{TokenKind}
use Rattle.sgml_theory_values.specs.scan.declared.state.ScanState.{ScanState}
use Rattle.sgml_theory_values.specs.scan.Tokens.{token}
use Rattle.sgml_theory_values.specs.theory_reading.Names.{Text}
use Rattle.sgml_theory_values.specs.theory_reading.Pieces.{Piece}
use Rattle.sgml_theory_values.specs.theory_reading.Facets.{Stage, BeforeSyntax, AtBeginning, BeforeDoctype, InSubset, AfterSubset}
use Rattle.sgml_theory_values.specs.theory_reading.ShortTags.{net_in_force}
use Rattle.sgml_theory_values.specs.theory_spelling.Places.{in_doctype, mode_at, map_at, is_map}
use Rattle.sgml_theory_values.specs.theory_spelling.Decided.{is_early_end}
use Rattle.sgml_theory_values.specs.theory_spelling.Content.{content_piece}
use Rattle.sgml_theory_values.specs.theory_spelling.Tokens.{token_at}
use Rattle.sgml_theory_values.specs.theory_spelling.Spelled.{spelled, by_token, by_stage, piece_in, token_here}
use Rattle.sgml_theory_full.specs.Points.{Point, standing_at, entities_at, stacked_at, doctype_at, IsInContent}
use Rattle.sgml_theory_full.proofs.Plain.{true-false, if-false}

-- the document type is over
after-subset : (g : Stage) (es : List ℕ) → in_doctype g es ≡ false → g ≡ AfterSubset
after-subset AfterSubset es h = refl
after-subset BeforeSyntax es h = true-false h
after-subset AtBeginning es h = true-false h
after-subset BeforeDoctype es h = true-false h
after-subset InSubset es h = true-false h

-- what is scanned there
abbrev pub scan_at : Point → Mode → ScanState
scan_at p m = record { mode = m; net = false; maps = is_map (map_at p.state) }

token-here : (p : Point) (m : Mode) → IsInContent p m → (bytes : Text) → token_here p.state (stacked_at p) bytes ≡ token_at (doctype_at p).syntax (scan_at p m) bytes
token-here p m h bytes =
    ap (λ k. token_at (doctype_at p).syntax (record { mode = k; net = net_in_force p.state.context; maps = is_map (map_at p.state) }) bytes) h.mode
    ∙ ap (λ n. token_at (doctype_at p).syntax (record { mode = m; net = n; maps = is_map (map_at p.state) }) bytes) h.no_net

by-the-token : (p : Point) (m : Mode) → IsInContent p m → (b : ℕ) (bytes : Text) (k : TokenKind) (n : ℕ)
    → token_at (doctype_at p).syntax (scan_at p m) (b ∷ bytes) ≡ token k n
    → spelled p.outside p.state (standing_at p (b ∷ bytes)) ≡ content_piece p.outside p.state (stacked_at p) m k (take n (b ∷ bytes))
unfolding spelled
by-the-token p m h b bytes k n is =
    let over = after-subset p.state.stage (entities_at p) h.in_instance in
    if-false (is_early_end p.state.stage b) _ _ (ap (λ g. is_early_end g b) over)
    ∙ ap (by_stage p.outside p.state (stacked_at p) (b ∷ bytes)) over
    ∙ ap (by_token p.outside p.state (stacked_at p) (b ∷ bytes)) (token-here p m h (b ∷ bytes) ∙ is)
    ∙ ap (λ t. piece_in t p.outside p.state (stacked_at p) (mode_at p.state (entities_at p)) k (take n (b ∷ bytes))) h.in_instance
    ∙ ap (λ x. content_piece p.outside p.state (stacked_at p) x k (take n (b ∷ bytes))) h.mode

-- A TEXT THAT IS A TOKEN, whatever follows it, is the piece that this token is
pub spelled-as : (p : Point) (m : Mode) → IsInContent p m → (text rest : Text) (k : TokenKind) (q : Piece) → 0 < length text
    → token_at (doctype_at p).syntax (scan_at p m) (text ++ rest) ≡ token k (length text)
    → content_piece p.outside p.state (stacked_at p) m k text ≡ Ok q → spelled p.outside p.state (standing_at p (text ++ rest)) ≡ Ok q
spelled-as p m h [] rest k q some is piece = absurd (omega (arith, some))
spelled-as p m h (b ∷ bs) rest k q some is piece =
    by-the-token p m h b (bs ++ rest) k (length (b ∷ bs)) is
    ∙ ap (content_piece p.outside p.state (stacked_at p) m k) (take_at (b ∷ bs) rest (length (b ∷ bs)) refl)
    ∙ piece
