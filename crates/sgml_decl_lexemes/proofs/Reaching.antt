-- A list of parts that is read reaches what the reader reaches.
use Rattle.std.proofs.Common.{◌≡◌, ℕ, Bool, true, false, List, [], ◌∷◌, length, Result, Ok, Err, refl, ◌∙◌, ap, subst, if◌then◌else◌, ◌==◌, ◌&&◌, not}
use Rattle.sgml_text.specs.declared.reason.Reason.TheVariants as reason
use Rattle.sgml_decl_parts.specs.sgml_delim.declared.delim.Delim.{Delim}
use Rattle.sgml_decl_parts.specs.sgml_delim.declared.delim.Delim.TheVariants.{Dso}
use Rattle.sgml_entity.specs.Stack.{Stack}
use Rattle.sgml_decl_parts.specs.declared.form.Form.{Form}
use Rattle.sgml_decl_parts.specs.declared.form.Form.TheVariants as f
use Rattle.sgml_decl_parts.specs.declared.form.LiteralKind.{LiteralKind}
use Rattle.sgml_decl_parts.specs.declared.form.LiteralKind.TheVariants as kind
use Rattle.sgml_decl_parts.specs.declared.part.Part.{Part}
use Rattle.sgml_decl_parts.specs.declared.part.Part.TheVariants as p
use Rattle.sgml_decl_parts.specs.declared.part.PartFault.{PartFault}
use Rattle.sgml_decl_parts.specs.Forms.{after_token, after_sign, literal_kind, is_complete, may_refer}
use Rattle.sgml_decl_parts.specs.Parts.{part_at, Fits}
use Rattle.sgml_decl_parts.proofs.Fitting.{part_fits}
use Rattle.sgml_decl_lexemes.specs.declared.fault.Fault.{Fault}
use Rattle.sgml_decl_lexemes.specs.declared.fault.Fault.TheVariants.{Refusing}
use Rattle.sgml_decl_lexemes.specs.declared.fault.Reached.{Reached}
use Rattle.sgml_decl_lexemes.specs.declared.fault.Reached.TheVariants.{Fails}
use Rattle.sgml_decl_lexemes.specs.declared.reading.KeptFaults.{KeptFaults}
use Rattle.sgml_decl_lexemes.specs.Sources.{Source}
use Rattle.sgml_decl_lexemes.specs.Readings.{State, Reading, ahead, after, here, judged, judged_form, judged_end, judged_sign, judged_quote, judged_reached, kept, judged_part, reached_from, is_last, is_literal, next_part, closes, Goes, start}
use Rattle.sgml_decl_lexemes.specs.Declares.{state, is_closed, ReadsParts, StandsAtStart}
use Rattle.sgml_decl_lexemes.proofs.Going.{SoFar, begun-so-far, goes-on}

abbrev Same : Part → Result Part Fault → Type 0
Same part r = (q : Part) → r ≡ Ok q → part ≡ q

ok-same : (part : Part) → Same part (Ok part)
ok-same part q e = cc e

none-same : (part : Part) (fault : Fault) → Same part (Err fault)
none-same part fault q e = cc

if-same : (t : Bool) (part : Part) (r s : Result Part Fault) → Same part r → Same part s → Same part (if t then r else s)
if-same true part r s h k = h
if-same false part r s h k = k

form-same : (form : Form) (part : Part) → Same part (judged_form form part)
form-same f.Broken part = none-same part (Refusing reason.DeclarationSyntax)
form-same (f.LeftOut r) part = none-same part (Refusing r)
form-same _ part = ok-same part

end-same : (form : Form) (no_char : Bool) (part : Part) → Same part (judged_end form no_char part)
end-same form no_char part =
    if-same (not (is_complete form)) part (Err (Refusing reason.DeclarationSyntax)) (if no_char then Err (Refusing reason.CharNumber) else Ok part) (none-same part (Refusing reason.DeclarationSyntax))
    (if-same no_char part (Err (Refusing reason.CharNumber)) (Ok part) (none-same part (Refusing reason.CharNumber)) (ok-same part))

sign-same : (last : Bool) (r : Reading) (d : Delim) → Same (p.Sign d) (judged_sign last r d)
sign-same last r Dso =
    if-same last (p.Sign Dso) (judged_end (after_sign r.form Dso) r.no_char (p.Sign Dso)) (Err (Refusing reason.DeclarationSyntax)) (end-same (after_sign r.form Dso) r.no_char (p.Sign Dso)) (none-same (p.Sign Dso) (Refusing reason.DeclarationSyntax))
sign-same last r d = form-same (after_sign r.form d) (p.Sign d)

quote-same : (k : LiteralKind) (b : ℕ) → Same (p.Quote b) (judged_quote k b)
quote-same kind.NoLiteral b = none-same (p.Quote b) (Refusing reason.DeclarationSyntax)
quote-same _ b = ok-same (p.Quote b)

reached-same : (k : KeptFaults) (n m : ℕ) (r : Reached) → Same (p.Refer n m) (judged_reached k n m r)
reached-same k n m (Fails fault) = λ q e. cc
reached-same k n m _ = ok-same (p.Refer n m)

judged-same : (I : Source) (bytes : List ℕ) (t : State) (part : Part) → Same part (judged I bytes t part)
judged-same I bytes t (p.Name n) = form-same _ (p.Name n)
judged-same I bytes t (p.Token n) = form-same (after_token t.reading.form) (p.Token n)
judged-same I bytes t (p.Reserved n) = form-same _ (p.Reserved n)
judged-same I bytes t (p.Sign d) = sign-same (is_last I bytes t.stack.places) t.reading d
judged-same I bytes t (p.Quote b) = quote-same (literal_kind t.reading.form) b
judged-same I bytes t (p.Refer n m) =
    if-same (may_refer t.reading.form) (p.Refer n m) (judged_reached (kept I t.reading) n m (reached_from I bytes t n)) (Err (Refusing reason.DeclarationSyntax))
    (reached-same (kept I t.reading) n m (reached_from I bytes t n)) (none-same (p.Refer n m) (Refusing reason.DeclarationSyntax))
judged-same I bytes t p.EndQuote =
    if-same (is_literal I.construct && t.reading.no_char) p.EndQuote (Err (Refusing reason.CharNumber)) (Ok p.EndQuote) (none-same p.EndQuote (Refusing reason.CharNumber)) (ok-same p.EndQuote)
judged-same I bytes t p.Closing = end-same t.reading.form t.reading.no_char p.Closing
judged-same I bytes t part = ok-same part

-- the next part goes on
goes-by : (I : Source) (t : State) (part : Part) (r : Result Part PartFault) → part_at I.syntax.names I.syntax.general_fold (here I t) (ahead I t) ≡ r
    → judged_part I (ahead I t) t r ≡ Ok part → Goes I t (closes I.construct part) (after I (ahead I t) part t)
goes-by I t part (Err fault) found ok = cc ok
goes-by I t part (Ok q) found ok =
    let same : q ≡ part = judged-same I (ahead I t) t q part ok in
    let stands : part_at I.syntax.names I.syntax.general_fold (here I t) (ahead I t) ≡ Ok part = found ∙ ap Ok same in
    let fit = part_fits I.syntax.names I.syntax.general_fold (here I t) (ahead I t) part stands in record {
      part = part;
      fits = fit.0;
      within = fit.1;
      found = stands;
      goes = subst (λ (x : Part). judged I (ahead I t) t x ≡ Ok part) same ok;
      reading_is = refl;
      stack_is = refl;
      done_is = refl;
    }

pub goes-of : (I : Source) (t : State) (part : Part) → next_part I t ≡ Ok part → Goes I t (closes I.construct part) (after I (ahead I t) part t)
goes-of I t part ok = goes-by I t part (part_at I.syntax.names I.syntax.general_fold (here I t) (ahead I t)) refl ok

fits-by : (I : Source) (t : State) (part : Part) (r : Result Part PartFault) → part_at I.syntax.names I.syntax.general_fold (here I t) (ahead I t) ≡ r
    → judged_part I (ahead I t) t r ≡ Ok part → Fits (length t.stack.places == I.height) (ahead I t) part
fits-by I t part (Err fault) found ok = cc ok
fits-by I t part (Ok q) found ok =
    let same : q ≡ part = judged-same I (ahead I t) t q part ok in
    let fit = part_fits I.syntax.names I.syntax.general_fold (here I t) (ahead I t) part (found ∙ ap Ok same) in fit.0

pub fits-of : (I : Source) (t : State) (part : Part) → next_part I t ≡ Ok part → Fits (length t.stack.places == I.height) (ahead I t) part
fits-of I t part ok = fits-by I t part (part_at I.syntax.names I.syntax.general_fold (here I t) (ahead I t)) refl ok

judged-by : (I : Source) (t : State) (part : Part) (r : Result Part PartFault) → judged_part I (ahead I t) t r ≡ Ok part → judged I (ahead I t) t part ≡ Ok part
judged-by I t part (Err fault) ok = cc ok
judged-by I t part (Ok q) ok = subst (λ (x : Part). judged I (ahead I t) t x ≡ Ok part) (judged-same I (ahead I t) t q part ok) ok

pub judged-of : (I : Source) (t : State) (part : Part) → next_part I t ≡ Ok part → judged I (ahead I t) t part ≡ Ok part
judged-of I t part ok = judged-by I t part (part_at I.syntax.names I.syntax.general_fold (here I t) (ahead I t)) ok

pub so-far : (I : Source) (s : Stack) → StandsAtStart I s → (ps : List Part) → ReadsParts I s ps → is_closed I.construct ps ≡ false → SoFar I s (state I s ps)
so-far I s b [] h k = begun-so-far I s (start I s).reading (start I s).stack b.some b.height refl refl b.quote
so-far I s b (part ∷ ps) h k =
    goes-on I s (state I s ps) (state I s (part ∷ ps)) (so-far I s b ps h.0 h.1)
    (subst (λ (d : Bool). Goes I (state I s ps) d (state I s (part ∷ ps))) k (goes-of I (state I s ps) part h.2))
