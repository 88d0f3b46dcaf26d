use Rattle.std.proofs.Common.{◌≡◌, ℕ, inr, List, sym, subst, Option, None, Some, Ok}
use Rattle.std.specs.Prelude.{IfSome, Vec}
use Rattle.std.specs.declared.alloc.Global.{Global}
use Rattle.sgml_io.specs.Files.{file_in, FetchesFrom}
use Rattle.sgml_line_summary.specs.declared.answer.Summarized.{Summarized}
use Rattle.sgml_line_summary.specs.Summary.{IsRead, IsAnswer}
use Rattle.sgml_line_summary.proofs.summarizing.summarize.Goals as goal

-- what was fetched and read is answered
answered : (files : Option (List (List ℕ × List ℕ))) (name : List ℕ) (limit : ℕ) (bytes : Vec ℕ Global) (text : List ℕ) (answer : Summarized)
    → FetchesFrom files name limit (Ok (Some bytes)) → text ≡ bytes.items → IsRead text answer → IfSome files (λ fs. IsAnswer (file_in fs name) limit answer)
answered None name limit bytes text answer f is r = tt
answered (Some files) name limit bytes text answer f is r =
    let A : Option (List ℕ) → Type 0 = λ o. IsAnswer o limit answer in
    let R : List ℕ → Type 0 = λ v. IsRead v answer in
    let a : A (Some bytes.items) = inr (f.1, subst R is r) in
    subst A (sym f.0) a

pub returns-in-Ok-summarize_bytes-clause-answer : goal.returns-in-Ok-summarize_bytes-clause-answer
returns-in-Ok-summarize_bytes-clause-answer g c =
    let fetched = rw (c.in-Some.is) at c.in-Ok.ensures.fetches in
    answered (g.S.Store.files c.args.store.now) c.args.name.now c.args.limit c.in-Some.bytes c.deref.result.now c.in-Ok-summarize_bytes.answer fetched c.deref.ensures.value c.in-Ok-summarize_bytes.ensures.read
