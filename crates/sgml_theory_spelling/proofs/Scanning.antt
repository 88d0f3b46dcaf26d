-- What is scanned of a stretch, byte by byte.
use Rattle.std.proofs.Common.{◌≡◌, ℕ, Bool, List, ◌++◌, ◌<◌, drop, ◌∙◌, ap, arith}
use Rattle.std.proofs.lemmas.List.{drop-append-le, length-drop}
use Rattle.sgml_scan.specs.syntax.declared.syntax.Syntax.{Syntax}
use Rattle.sgml_scan.specs.delim.Answers as delimiters
use Rattle.sgml_scan.specs.declared.classes.Run.{Run}
use Rattle.sgml_scan.specs.declared.state.ScanState.{ScanState}
use Rattle.sgml_scan.specs.Classes.{run_kind}
use Rattle.sgml_scan.specs.Tokens.{token, IsScanned}
use Rattle.sgml_scan.proofs.Runs.{scanned-stretch}
use Rattle.sgml_theory_spelling.specs.Tokens.{token_at}
use Rattle.sgml_theory_spelling.proofs.Tokens.{one-token, one-length}

-- each byte of a stretch is a token, however the text goes on
pub scanned-bytes : (s : Syntax) (st : ScanState) (ended : Bool) (bytes more : List ℕ) (q : Run) (n i : ℕ) → delimiters.MayFollow ended more
    → IsScanned s st ended bytes (token (run_kind q) n) → i < n → token_at s st (drop i (bytes ++ more)) ≡ token (run_kind q) 1
scanned-bytes s st ended bytes more q n i f h l =
    let one = (scanned-stretch s st ended bytes q n h).each i l in
    let some = one-length s st ended q (drop i bytes) one in
    let size = length-drop i bytes in
    ap (token_at s st) (drop-append-le i bytes more (omega (arith, some, size))) ∙ one-token s st ended q (drop i bytes) more f one
