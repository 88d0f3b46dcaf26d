use Rattle.sgml_theory_spelling.proofs.Tokens.{scanned-token, stretch-tokens}
use Rattle.sgml_theory_spelling.proofs.Scanning.{scanned-bytes}
use Rattle.sgml_scan.proofs.Tested.{decided-is}
use Rattle.sgml_theory_spelling.proofs.scanned_is_token.Goals as goal

pub returns : goal.returns
returns c = record { token = scanned-token; stretch = stretch-tokens; growing = scanned-bytes; decided = decided-is }
