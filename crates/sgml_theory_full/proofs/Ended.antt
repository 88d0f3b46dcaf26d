-- An instance that is written is read to its end.
use Rattle.std.proofs.Common.{◌≡◌, ℕ, Bool, true, false, not, ◌&&◌, IsFalse, List, [], ◌∷◌, ◌++◌, None, Ok, length, refl, sym, ◌∙◌, ap, subst, append-nil, arith}
use Rattle.sgml_theory_values.specs.delim.declared.delim.Mode.TheVariants as mode
use Rattle.sgml_theory_values.specs.markup.declared.kinds.TokenKind.TheVariants as kind
use Rattle.sgml_theory_values.specs.scan.Tokens.{token}
use Rattle.sgml_theory_values.specs.syntax.declared.syntax.Syntax.{Syntax}
use Rattle.sgml_theory_values.specs.theory_reading.Names.{Text}
use Rattle.sgml_theory_values.specs.theory_reading.Pieces.{Piece, History, Sep, Finish}
use Rattle.sgml_theory_values.specs.theory_reading.Facets.{stage_after, border, map_set, turn, token as content_token, is_finish, is_start, items_of, effect, declares}
use Rattle.sgml_theory_values.specs.theory_reading.Context.{Level, context, context_after, levels_with}
use Rattle.sgml_theory_values.specs.theory_reading.Maps.{map_in_force}
use Rattle.sgml_theory_values.specs.theory_reading.Reasons.{Stands, reason}
use Rattle.sgml_theory_values.specs.theory_reading.Unread.{Outside, Input, standing}
use Rattle.sgml_theory_values.specs.theory_reading.State.{State, state, after_piece}
use Rattle.sgml_theory_values.specs.theory_reading.Characters.{has_text, level_has_text, separator_kind, kind_noted}
use Rattle.sgml_theory_values.specs.theory_reading.Reads.{Move, Moves, MovesTo, Reads, ReadOn, refusal, ends_in_finish, after_moves, moved_on, spelled_next, unless_undecided, answer_noted}
use Rattle.sgml_theory_values.specs.theory_reading.Events.{Event as Said, shown, events, events_at}
use Rattle.sgml_theory_values.proofs.theory_reading.Table.{reason-exact}
use Rattle.sgml_theory_values.proofs.theory_reading.Told.{events-step}
use Rattle.sgml_theory_values.specs.theory_spelling.Sized.{sized}
use Rattle.sgml_theory_values.specs.theory_spelling.Attributes.{unvalued}
use Rattle.sgml_theory_values.specs.theory_spelling.Places.{element_mode, map_at, is_map, in_section}
use Rattle.sgml_theory_values.specs.theory_spelling.Tokens.{token_at, by_delimiter}
use Rattle.sgml_theory_values.specs.theory_spelling.Content.{content_piece}
use Rattle.sgml_theory_values.specs.theory_spelling.Decided.{decided}
use Rattle.sgml_theory_values.specs.theory_spelling.Spelled.{spelled, document_end, forms}
use Rattle.sgml_theory_full.specs.Named.{AllAre, IsWritten}
use Rattle.sgml_theory_full.specs.Spellings.{Spelling, spelling, text_of, spellings}
use Rattle.sgml_theory_values.specs.full.declared.inside.Inside.TheVariants as inside
use Rattle.sgml_theory_full.specs.Points.{stacked_at}
use Rattle.sgml_theory_full.specs.Raw.{AllRawStand}
use Rattle.sgml_theory_full.specs.Written.{StandsThere, at_document, piece_in, IsReadThere, moves_of, state_by}
use Rattle.sgml_theory_full.specs.Conforming.{IsPlain, InContent, EventsMayBe, IsOver, InstanceRead}
use Rattle.sgml_theory_full.proofs.Plain.{if-false}
use Rattle.sgml_theory_full.proofs.Tokens.{no-delimiter}
use Rattle.sgml_theory_full.proofs.Pointed.{spelled-as}
use Rattle.sgml_theory_full.proofs.Written.{none-omitted, written-reads}
use Rattle.sgml_theory_full.proofs.Conforming.{point, in-content, Plainly, stays-plain}
use Rattle.sgml_theory_full.proofs.Told.{events-are-read}

-- THE RECORD END behind the instance is a separator
abbrev last_end : Spelling
last_end = spelling (Sep 13) (13 ∷ [])

end-token-here : (s : Syntax) (rest : Text) → token_at s (record { mode = mode.Con; net = false; maps = false }) (13 ∷ rest) ≡ token kind.Re 1
unfolding token_at
end-token-here s rest = ap (by_delimiter s (record { mode = mode.Con; net = false; maps = false }) (13 ∷ rest)) (no-delimiter s mode.Con false 13 rest refl refl)

no-text : (s : State) → s.context.levels ≡ [] → has_text s ≡ false
unfolding has_text
no-text s h = ap (λ ls. level-text s ls) h
  where
    level-text : State → List Level → Bool
    level-text s ls = level_has_text s.context.doctype ls

end-kind : (s : State) → s.context.levels ≡ [] → separator_kind s 13 ≡ Sep 13
unfolding separator_kind
end-kind s h = if-false (has_text s) _ _ (no-text s h)

end-piece : (outside : Outside) (s : State) (spent : ℕ) → s.context.levels ≡ []
    → content_piece outside s (stacked_at (point outside s spent)) mode.Con kind.Re (13 ∷ []) ≡ Ok (sized 1 (kind_noted s (Sep 13)))
unfolding content_piece kind_noted
end-piece outside s spent h = ap (λ k. Ok (sized 1 k)) (end-kind s h)

no-map-here : (s : State) → s.context.levels ≡ [] → is_map (map_at s) ≡ false
unfolding map_at
no-map-here s h = ap (λ ls. is_map (map_in_force s.context.doctype ls s.map_settings)) h

end-spelled : (outside : Outside) (s : State) (spent : ℕ) (rest : Text) → IsPlain s → s.context.levels ≡ [] → spelled outside s (at_document spent (13 ∷ rest)) ≡ Ok (sized 1 (kind_noted s (Sep 13)))
end-spelled outside s spent rest h e =
    spelled-as (point outside s spent) mode.Con (in-content outside s spent mode.Con h (ap (element_mode s.context.doctype) e)) (13 ∷ []) rest kind.Re (sized 1 (kind_noted s (Sep 13))) (omega arith)
    (ap (λ m. token_at s.context.doctype.syntax (record { mode = mode.Con; net = false; maps = m }) (13 ∷ rest)) (no-map-here s e) ∙ end-token-here s.context.doctype.syntax rest)
    (end-piece outside s spent e)

end-stands : (s : State) → StandsThere s (kind_noted s (Sep 13))
unfolding kind_noted unvalued turn is_finish content_token
end-stands s = record { declared = refl; stands = tt; valued = refl; within = refl; goes_on = refl }

sep-plainly : Plainly (Sep 13)
unfolding stage_after border map_set items_of effect declares
sep-plainly = record { stage = refl; no_border = refl; no_map = refl; quiet = λ f h. h; no_slash = tt; types = λ d. refl }

-- after it nothing has changed
abbrev after_end : State → State
after_end s = after_piece (piece_in s last_end) s

still-plain : (s : State) → IsPlain s → IsPlain (after_end s)
unfolding kind_noted
still-plain s h = stays-plain (piece_in s last_end) s sep-plainly h

still-over : (s : State) → IsOver s → IsOver (after_end s)
unfolding after_piece context_after effect is_start kind_noted
still-over s h = record { closed = ap (levels_with (Sep 13)) h.closed; begun = h.begun }

-- THE END OF THE DOCUMENT
abbrev finish_move : Move
finish_move = record { omitted = []; visible = sized 0 Finish }

finish-spelled : (outside : Outside) (s : State) (spent : ℕ) → IsPlain s → spelled outside s (at_document spent []) ≡ Ok (sized 0 Finish)
unfolding spelled
finish-spelled outside s spent h =
    ap (λ ss. document_end s.stage (in_section s.texts ss)) h.no_section ∙ ap (λ g. document_end g false) h.over

finish-noted : (s : State) → kind_noted s Finish ≡ Finish
unfolding kind_noted
finish-noted s = refl

finish-next : (I : Input) (h : History) (spent : ℕ) → I.was_cut ≡ false → IsPlain (state h) → standing I h ≡ at_document spent [] → spelled_next forms I h ≡ Ok (sized 0 Finish)
finish-next I h spent whole plain at =
    ap (λ c. unless_undecided (c && not (decided I.outside (state h) (standing I h))) (answer_noted (state h) (spelled I.outside (state h) (standing I h)))) whole
    ∙ ap (λ t. answer_noted (state h) (spelled I.outside (state h) t)) at
    ∙ ap (answer_noted (state h)) (finish-spelled I.outside (state h) spent plain)
    ∙ ap (λ k. Ok (sized 0 k)) (finish-noted (state h))

finish-may : (h : History) → IsOver (state h) → Stands (context h) Finish (content_token Finish)
unfolding state content_token
finish-may h o = (ap length o.closed, o.begun)

finish-against : (h : History) → IsOver (state h) → refusal forms h [] (sized 0 Finish) ≡ None
unfolding refusal unvalued
finish-against h o =
    let stands = finish-may h o in
    let none : reason (context h) Finish ≡ None = (reason-exact (context h) Finish (none-omitted (context h) Finish stands)).1 stands in
    rw none refl

finish-moves : (h : History) → IsOver (state h) → Moves forms h (sized 0 Finish) finish_move
finish-moves h o = record { longest = none-omitted (context h) Finish (finish-may h o); visible = refl; no_reason = finish-against h o }

finish-reads : (I : Input) (h : History) (spent : ℕ) → I.was_cut ≡ false → IsFalse (ends_in_finish h) → IsPlain (state h) → IsOver (state h) → standing I h ≡ at_document spent [] → Reads forms I h finish_move
finish-reads I h spent whole goes plain o at = record {
  goes_on = goes;
  moves = subst (λ a. MovesTo forms h a finish_move) (sym (finish-next I h spent whole plain at)) (finish-moves h o);
}

-- ONE AFTER ANOTHER
read-more : (I : Input) (h : History) (ms ns : List Move) → ReadOn forms I h ms → ReadOn forms I (after_moves h ms) ns → ReadOn forms I h (ms ++ ns)
read-more I h [] ns r q = q
read-more I h (m ∷ ms) ns r q = (r.0, read-more I (moved_on h m) ms ns r.1 q)

pub after-more : (h : History) (ms ns : List Move) → after_moves h (ms ++ ns) ≡ after_moves (after_moves h ms) ns
after-more h [] ns = refl
after-more h (m ∷ ms) ns = after-more (moved_on h m) ms ns

abbrev NoneOmitted : List Move → Type 0
NoneOmitted ms = AllAre (λ (m : Move). m.omitted ≡ []) ms

none-in-moves : (s : State) (xs : List Spelling) → NoneOmitted (moves_of s xs)
none-in-moves s [] = tt
none-in-moves s (x ∷ xs) = (refl, none-in-moves (after_piece (piece_in s x) s) xs)

none-in-both : (ms ns : List Move) → NoneOmitted ms → NoneOmitted ns → NoneOmitted (ms ++ ns)
none-in-both [] ns h k = k
none-in-both (m ∷ ms) ns h k = (h.0, none-in-both ms ns h.1 k)

-- the end tells nothing
sep-tells : (s : State) → events_at forms s (piece_in s last_end) ≡ []
unfolding shown kind_noted items_of
sep-tells s = refl

finish-tells : (s : State) → events_at forms s (sized 0 Finish) ≡ []
unfolding shown items_of
finish-tells s = refl

one-more-told : (h : History) (p : Piece) → events_at forms (state h) p ≡ [] → events forms (p ∷ h) ≡ events forms h
one-more-told h p e = events-step forms p h ∙ ap (λ es. events forms h ++ es) e ∙ append-nil (events forms h)

last-finish : (h : History) → ends_in_finish (finish_move.visible ∷ h) ≡ true
unfolding is_finish
last-finish h = refl

finish-told : (h : History) → events forms (finish_move.visible ∷ h) ≡ events forms h
finish-told h = one-more-told h (sized 0 Finish) (finish-tells (state h))

pub instances-are-read : (I : Input) (h : History) (spent : ℕ) (es : List Said) → I.was_cut ≡ false → IsFalse (ends_in_finish h) → IsPlain (state h)
    → AllAre (IsWritten (state h).context.doctype) es → AllRawStand (state h).context.doctype inside.Mixed es → EventsMayBe (state h).context.doctype InContent (state h) es
    → IsOver (state_by (state h) (spellings (state h).context.doctype inside.Mixed es))
    → standing I h ≡ at_document spent (text_of (spellings (state h).context.doctype inside.Mixed es) ++ 13 ∷ [])
    → InstanceRead I h es
instances-are-read I h spent es whole goes plain w r k over at =
    let d = (state h).context.doctype in
    let xs = spellings d inside.Mixed es in
    let first = events-are-read I h spent es (13 ∷ []) whole goes plain w r k at in
    let ms = moves_of (state h) xs in
    let h1 = after_moves h ms in
    let s1 = state_by (state h) xs in
    let is1 : state h1 ≡ s1 = first.written.state_is in
    let sep : IsReadThere I.outside spent (state h1) last_end [] = record {
      spelled_is = subst (λ s. spelled I.outside s (at_document spent (13 ∷ [])) ≡ Ok (sized 1 (kind_noted s (Sep 13)))) (sym is1) (end-spelled I.outside s1 spent [] first.plain over.closed);
      stands = end-stands (state h1);
    } in
    let second = written-reads I h1 spent (last_end ∷ []) [] whole first.written.goes_on first.written.left (sep, tt) in
    let ns = moves_of (state h1) (last_end ∷ []) in
    let h2 = after_moves h1 ns in
    let is2 : state h2 ≡ after_end (state h1) = second.state_is in
    let plain2 : IsPlain (state h2) = subst IsPlain (sym is2) (still-plain (state h1) (subst IsPlain (sym is1) first.plain)) in
    let over2 : IsOver (state h2) = subst IsOver (sym is2) (still-over (state h1) (subst IsOver (sym is1) over)) in
    let third = finish-reads I h2 spent whole second.goes_on plain2 over2 second.left in
    let all = ms ++ (ns ++ finish_move ∷ []) in
    let end : after_moves h all ≡ finish_move.visible ∷ h2 =
    after-more h ms (ns ++ finish_move ∷ []) ∙ after-more h1 ns (finish_move ∷ []) in record {
      moves = all;
      reads = read-more I h ms (ns ++ finish_move ∷ []) first.written.reads (read-more I h1 ns (finish_move ∷ []) second.reads (third, tt));
      over = ap ends_in_finish end ∙ last-finish h2;
      told = ap (events forms) end ∙ finish-told h2 ∙ one-more-told h1 (piece_in (state h1) last_end) (sep-tells (state h1)) ∙ first.told;
      none_omitted = none-in-both ms (ns ++ finish_move ∷ []) (none-in-moves (state h) xs) (none-in-both ns (finish_move ∷ []) (none-in-moves (state h1) (last_end ∷ [])) (refl, tt));
    }
