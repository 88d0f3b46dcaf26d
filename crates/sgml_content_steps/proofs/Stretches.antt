-- Of a stretch each byte is a token that the text decides, also where a short reference map is in force.
use Rattle.std.proofs.Common.{◌≡◌, ℕ, Bool, true, false, not, List, [], ◌<◌, drop, refl, sym, ◌∙◌, ap, append-nil}
use Rattle.sgml_syntax.specs.declared.syntax.Syntax.{Syntax}
use Rattle.sgml_delim.specs.declared.delim.Recognised.TheVariants as r
use Rattle.sgml_scan.specs.shortref.declared.matching.Matched.TheVariants as matched
use Rattle.sgml_scan.specs.shortref.Matches as strings
use Rattle.sgml_scan.proofs.shortref.Deciding.{answers-one as matched-one}
use Rattle.sgml_scan.specs.declared.classes.Run.{Run}
use Rattle.sgml_scan.specs.declared.state.ScanState.{ScanState}
use Rattle.sgml_scan.specs.Classes.{run_kind}
use Rattle.sgml_scan.specs.Openings.{matches_strings, NoString}
use Rattle.sgml_scan.specs.Tokens.{token, IsScanned, IsOne}
use Rattle.sgml_scan.specs.Decided.{HasMatch, token_decided}
use Rattle.sgml_scan.proofs.Runs.{scanned-stretch}
use Rattle.sgml_scan.proofs.Tested.{decided-is}
use Rattle.sgml_theory_starts.specs.theory_spelling.Tokens.{token_at}
use Rattle.sgml_theory_starts.proofs.theory_spelling.Tokens.{one-token}
use Rattle.sgml_prolog_steps.proofs.Scanned.{Known}

no-match : (maps : Bool) (bytes : List ℕ) → NoString maps false bytes → HasMatch maps bytes
no-match false bytes h = tt
no-match true bytes h = λ need. never (matched-one false strings.answer bytes matched.Plain matched.NeedMore h need)
  where
    never : matched.Plain ≡ matched.NeedMore → ⊥
    never e = cc

one-decided : (s : Syntax) (st : ScanState) (q : Run) (bytes : List ℕ) → IsOne s st false q bytes → token_decided s st bytes ≡ true
one-decided s st q bytes h =
    (decided-is s st bytes).1 (record { recognised = r.Plain; answers = h.delimiter; reaches = no-match (matches_strings st) bytes h.string })

pub stretch-known : (s : Syntax) (st : ScanState) (grows : Bool) (bytes : List ℕ) (q : Run) (n i : ℕ) → IsScanned s st (not grows) bytes (token (run_kind q) n)
    → i < n → Known s st grows (drop i bytes) (token (run_kind q) 1)
stretch-known s st false bytes q n i h l =
    let one = (scanned-stretch s st true bytes q n h).each i l in
    record {
      is = ap (token_at s st) (sym (append-nil (drop i bytes))) ∙ one-token s st true q (drop i bytes) [] (λ t. refl) one;
      decided = λ e. absurd (never e);
    }
  where
    never : false ≡ true → ⊥
    never e = cc
stretch-known s st true bytes q n i h l =
    let one = (scanned-stretch s st false bytes q n h).each i l in
    record {
      is = ap (token_at s st) (sym (append-nil (drop i bytes))) ∙ one-token s st false q (drop i bytes) [] (λ t. absurd (never t)) one;
      decided = λ e. one-decided s st q (drop i bytes) one;
    }
  where
    never : false ≡ true → ⊥
    never e = cc
