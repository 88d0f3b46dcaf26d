-- External data of what was read may be written (10.5).
use Rattle.std.proofs.Common.{◌≡◌, ℕ, false, [], ◌∷◌, ◌++◌, Some, refl, sym, ◌∙◌, ap, subst}
use Rattle.sgml_theory_values.specs.delim.declared.delim.Mode.TheVariants as mode
use Rattle.sgml_theory_values.specs.dtd.Doctypes.{Doctype}
use Rattle.sgml_theory_values.specs.theory_reading.Pieces.{Piece, DataRef}
use Rattle.sgml_theory_values.specs.theory_reading.Facets.{Pcdata, items_of, token, effect, declares, is_start, is_omitted_start, is_finish, turn}
use Rattle.sgml_theory_values.specs.theory_reading.Context.{context_after}
use Rattle.sgml_theory_values.specs.theory_reading.State.{State, after_piece}
use Rattle.sgml_theory_values.specs.theory_reading.Characters.{kind_noted, facts_in}
use Rattle.sgml_theory_values.specs.theory_reading.Reads.{judged}
use Rattle.sgml_theory_values.specs.theory_reading.Events.{External, shown, told_by, events_at}
use Rattle.sgml_theory_values.specs.theory_spelling.Attributes.{unvalued}
use Rattle.sgml_theory_values.specs.theory_spelling.Spelled.{forms}
use Rattle.sgml_theory_full.specs.Written.{piece_in}
use Rattle.sgml_theory_full.specs.Conforming.{IsPlain, mode_in, OtherMayBe}
use Rattle.sgml_theory_full.specs.Following.{waits, DataHolds, datum, Follows}
use Rattle.sgml_theory_full.proofs.Conforming.{Plainly, stays-plain, external-plainly}
use Rattle.sgml_theory_full.proofs.Told.{one_of}
use Rattle.sgml_theory_full.proofs.RawParts.{put}
use Rattle.sgml_theory_full.proofs.Following.{Written, Staying, Step, DatumWritten, released, data-may, data-same, as-datum, mode-like, follows-data, told-one, then-written}

pub external-stays : (e : ℕ) → Staying (DataRef e)
unfolding effect declares is_start is_omitted_start
external-stays e = record { stays = refl; types = λ d. refl; no_start = refl; visible = refl }

pub external-token : (e : ℕ) → token (DataRef e) ≡ Some Pcdata
unfolding token
external-token e = refl

external-noted : (b : State) (e : ℕ) → kind_noted b (DataRef e) ≡ DataRef e
unfolding kind_noted
external-noted b e = refl

external-may : (b : State) (e : ℕ) → DataHolds b → mode_in b ≡ mode.Con → OtherMayBe b (DataRef e)
unfolding token unvalued turn is_finish is_start
external-may b e h m = record { mode = m; stands = (data-may b (DataRef e) h refl refl refl refl refl refl).stands }

external-context : (b : State) (p : Piece) (e : ℕ) → p.kind ≡ DataRef e → (after_piece p b).context ≡ context_after datum b.context
unfolding after_piece
external-context b p e k = as-datum p b.context (subst Staying (sym k) (external-stays e)) (ap token k ∙ external-token e)

pub external-written : (d : Doctype) (b : State) (e : ℕ) → IsPlain b → DataHolds b → mode_in b ≡ mode.Con → DatumWritten d b (External e ∷ [])
external-written d b e plain h m =
    let p = piece_in b (one_of d (External e)) in
    let is : p.kind ≡ DataRef e = ap (judged b.context) (external-noted b e) in record {
      after = after_piece p b;
      written = record { may = λ more k. (external-may b e h m, refl, k); state_is = λ more. refl; inside_is = refl };
      plain = stays-plain p b (subst Plainly (sym is) (external-plainly e)) plain;
      context_is = external-context b p e is;
    }

pub external-step : (d : Doctype) (a b : State) (p : Piece) (e : ℕ) → p.kind ≡ DataRef e → Follows a b → DataHolds a → mode_in a ≡ mode.Con → Step d a p b
unfolding shown items_of
external-step d a b p e k f h m =
    let r = released d a b f in
    let one = external-written d r.after e r.plain (data-same a r.after r.context_is h) (mode-like a r.after false r.context_is ∙ m) in
    let told : events_at forms a p ≡ put (waits a) ++ External e ∷ [] = ap (λ k. told_by (facts_in a.record_ends) (shown forms a k)) k ∙ told-one (facts_in a.record_ends) (External e ∷ []) in record {
      after = one.after;
      written = subst (λ es. Written d b es one.after) (sym told) (then-written d b r.after one.after (put (waits a)) (External e ∷ []) r.written one.written);
      follows = follows-data p a one.after (subst Staying (sym k) (external-stays e)) (ap token k ∙ external-token e) (ap items_of k) f.quiet one.plain (one.context_is ∙ ap (context_after datum) r.context_is);
    }
