-- A prolog that was read is read before all SGML characters.
use Rattle.std.proofs.Common.{◌≡◌, ◌≤◌, ◌⊎◌, inl, inr, Bool, true, false, List, [], ◌∷◌, ◌++◌, Ok, length, map, refl, sym, ap, ◌∙◌, subst, arith}
use Rattle.sgml_io.specs.text.Characters.{all_sgml}
use Rattle.sgml_theory_standing.specs.theory_reading.Names.{Text}
use Rattle.sgml_theory_standing.specs.theory_reading.Pieces.{Piece, History}
use Rattle.sgml_theory_standing.specs.theory_reading.State.{state, stage}
use Rattle.sgml_theory_standing.specs.theory_reading.Characters.{piece_noted}
use Rattle.sgml_theory_standing.specs.theory_reading.Unread.{Input, Standing, rests, spent, opening, standing}
use Rattle.sgml_theory_standing.specs.theory_reading.Reads.{Move, MovesTo, Reads, ReadOn, answer_noted, moved_on, read_by, is_after_subset, after_moves, with_more, rest_with_more, standing_with_more, length_of_first, spelled_next}
use Rattle.sgml_theory_standing.specs.theory_spelling.Stacked.{Stacked, stacked}
use Rattle.sgml_theory_standing.specs.theory_spelling.Places.{in_doctype}
use Rattle.sgml_theory_standing.specs.theory_spelling.Prolog.{in_document}
use Rattle.sgml_theory_standing.specs.theory_spelling.Decided.{decided_of, decided}
use Rattle.sgml_theory_standing.specs.theory_spelling.Spelled.{spelled_in, spelled, forms}
use Rattle.sgml_theory_standing.proofs.theory_spelling.Decides.{decides}
use Rattle.sgml_theory_standing.proofs.theory_spelling.Taken.{takes-its-bytes}
use Rattle.sgml_theory_prologs.specs.Prologs.{ReadsProlog, cut_at}
use Rattle.sgml_theory_prologs.specs.Laws.{SamePrologsAreRead}
use Rattle.sgml_theory_prologs.proofs.PieceKinds.{entities_of}
use Rattle.sgml_theory_prologs.proofs.Shapes.{inner-doctype}
use Rattle.sgml_theory_prologs.proofs.SgmlAlike.{LocalAlike, local-alike}
use Rattle.sgml_theory_prologs.proofs.Steps.{document_in, Stands, begins, inner, Step, step-of, FromDocument, FromOther, Taken, step-taken, left_of}
use Rattle.sgml_theory_prologs.proofs.Coming.{ToBorder, moved-stands, document-is-top, document-alone, document-spelled, mode-is}
use Rattle.sgml_theory_prologs.proofs.Longer.{Longer, longer-opening, longer-next, longer-standing, Lie, longer-all, entities-more, alone, other-first, nothing-before}
use Rattle.sgml_theory_prologs.proofs.Deciding.{document-before, InFront, lies, modes, other-decided}
use Rattle.sgml_theory_prologs.proofs.AtBorder.{way, same-input}

-- THE PIECE is decided by what is left of the prolog, or is the same before those characters

abbrev Alike : Input → Text → History → Piece → Type 0
Alike K other h p =
    (decided K.outside (state h) (standing K h) ≡ true)
    ⊎ (spelled K.outside (state h) (standing_with_more other (standing K h)) ≡ Ok p)

front-alike : (K : Input) (more other : Text) (cut : Bool) (h : History) (m : Move) (ms : List Move) → all_sgml other ≡ true → Stands (with_more K more cut) h → ToBorder (with_more K more cut) h (m ∷ ms)
    → left_of (with_more K more cut) (after_moves (moved_on h m) ms) ≡ length more → (f : InFront K more h m (with_more K more cut)) → Alike K other h f.x.piece
unfolding decided spelled state
front-alike K more other cut h m ms sgml s t e f =
    by (local-alike K.outside (state h) u f.z.front more other f.x.piece before d (modes K more cut h m ms s t e f d (mode-is I h s before top)) (lies K more cut h m ms s t e f) sgml there)
  where
    I : Input
    I = with_more K more cut

    u : Stacked
    u = record { entities = 0 ∷ []; spent = spent K.outside h }

    top : in_document (entities_of (rests I h)) ≡ true
    top = document-is-top I h m.visible f.y

    before : is_after_subset (stage h) ≡ false
    before = document-before (stage h) (entities_of (rests I h)) (inner I h s t.0) top

    d : in_doctype (stage h) (0 ∷ []) ≡ true
    d =
        sym (ap (in_doctype (stage h)) (ap entities_of (document-alone I h m.visible f.y)))
        ∙ inner-doctype (stage h) (entities_of (rests I h)) (inner I h s t.0)

    there : spelled_in K.outside (state h) u 0 (f.z.front ++ more) ≡ Ok f.x.piece
    there =
        sym (ap (λ z. spelled_in K.outside (state h) u 0 z) f.z.bytes_are)
        ∙ document-spelled I h m.visible f.x.piece f.y f.x.spelled_is

    by : LocalAlike K.outside (state h) u f.z.front other f.x.piece → Alike K other h f.x.piece
    by (inl x) =
        inl (ap (λ rs. decided_of (state h) (stacked (record { rests = rs; spent = spent K.outside h })) rs) f.z.is ∙ x)
    by (inr x) =
        inr (ap (λ rs. spelled K.outside (state h) (standing_with_more other (record { rests = rs; spent = spent K.outside h }))) f.z.is ∙ x)

-- AND READS there

record ReadsBefore (K : Input) (other : Text) (h : History) (m : Move) : Type 0 where
  reads : Reads forms (with_more K other false) h m
  moved : moved_on h m ≡ m.visible ∷ h
  within : m.visible.size ≤ length_of_first (rests K h)

same-spelled : (K : Input) (more other : Text) (cut : Bool) (h : History) (m : Move) → Longer K more cut h → (x : Step (with_more K more cut) h m) → Alike K other h x.piece
    → spelled K.outside (state h) (standing_with_more other (standing K h)) ≡ Ok x.piece
same-spelled K more other cut h m l x (inl d) =
    decides.same K.outside (state h) (standing K h) other d
    ∙ sym (decides.same K.outside (state h) (standing K h) more d)
    ∙ (sym (ap (spelled K.outside (state h)) (longer-standing K more cut h l)) ∙ x.spelled_is)
same-spelled K more other cut h m l x (inr e) = e

reads-before : (K : Input) (more other : Text) (cut : Bool) (h : History) (m : Move) → Longer K more cut h → Longer K other false h → Reads forms (with_more K more cut) h m
    → (x : Step (with_more K more cut) h m) → Alike K other h x.piece → m.visible.size ≤ length_of_first (rests K h) → ReadsBefore K other h m
reads-before K more other cut h m l n r x a w =
    let next : spelled_next forms (with_more K other false) h ≡ Ok (piece_noted (state h) x.piece) =
    ap (answer_noted (state h)) (ap (spelled K.outside (state h)) (longer-standing K other false h n) ∙ same-spelled K more other cut h m l x a) in
    record {
      reads = record { goes_on = r.goes_on; moves = subst (λ z. MovesTo forms h z m) (sym next) x.moves };
      moved = x.moved;
      within = w;
    }

document-reads : (K : Input) (more other : Text) (cut : Bool) (h : History) (m : Move) (ms : List Move) → all_sgml other ≡ true → Longer K more cut h → Longer K other false h → Stands (with_more K more cut) h
    → ToBorder (with_more K more cut) h (m ∷ ms) → left_of (with_more K more cut) (after_moves (moved_on h m) ms) ≡ length more → Step (with_more K more cut) h m → FromDocument (with_more K more cut) h m.visible → ReadsBefore K other h m
document-reads K more other cut h m ms sgml l n s t e x y =
    let I = with_more K more cut in
    let f : InFront K more h m I = record { x = x; y = y; z = alone more (rests K h) y.rest.bytes (sym l ∙ document-alone I h m.visible y) } in
    let low = (lies K more cut h m ms s t e f).within in
    let first : length_of_first (rests K h) ≡ length f.z.front = ap length_of_first f.z.is in
    reads-before K more other cut h m l n t.1 x (front-alike K more other cut h m ms sgml s t e f) (omega (arith, low, first, x.size_is))

other-reads : (K : Input) (more other : Text) (cut : Bool) (h : History) (m : Move) → Longer K more cut h → Longer K other false h → Reads forms (with_more K more cut) h m → Step (with_more K more cut) h m
    → FromOther (with_more K more cut) h m.visible → ReadsBefore K other h m
unfolding decided
other-reads K more other cut h m l n r x y =
    let I = with_more K more cut in
    let same : entities_of (rests I h) ≡ entities_of (rests K h) = ap entities_of l ∙ entities-more more (rests K h) in
    let apart : in_document (entities_of (rests K h)) ≡ false = sym (ap in_document same) ∙ y.other in
    let low = (takes-its-bytes I.outside (state h) (standing I h) x.piece x.spelled_is).within in
    let first : length_of_first (rests I h) ≡ length_of_first (rests K h) = ap length_of_first l ∙ other-first more (rests K h) apart in
    reads-before K more other cut h m l n r x (inl (other-decided (state h) (stacked (standing K h)) (rests K h) apart)) (omega (arith, low, first, x.size_is))

taken-reads : (K : Input) (more other : Text) (cut : Bool) (h : History) (m : Move) (ms : List Move) → all_sgml other ≡ true → Longer K more cut h → Longer K other false h → Stands (with_more K more cut) h
    → ToBorder (with_more K more cut) h (m ∷ ms) → left_of (with_more K more cut) (after_moves (moved_on h m) ms) ≡ length more → Step (with_more K more cut) h m → Taken (with_more K more cut) h m.visible → ReadsBefore K other h m
taken-reads K more other cut h m ms sgml l n s t e x (inl y) = document-reads K more other cut h m ms sgml l n s t e x y
taken-reads K more other cut h m ms sgml l n s t e x (inr y) = other-reads K more other cut h m l n t.1 x y

all-read : (K : Input) (more other : Text) (cut : Bool) (h : History) (ms : List Move) → all_sgml other ≡ true → Longer K more cut h → Longer K other false h → Stands (with_more K more cut) h
    → ToBorder (with_more K more cut) h ms → left_of (with_more K more cut) (after_moves h ms) ≡ length more → ReadOn forms (with_more K other false) h ms × Lie K h ms
all-read K more other cut h [] sgml l n s t e = (tt, tt)
all-read K more other cut h (m ∷ ms) sgml l n s t e =
    let I = with_more K more cut in
    let x = step-of I h m s t.0 t.1 in
    let there = taken-reads K more other cut h m ms sgml l n s t e x (step-taken I h m s t.0 x) in
    let on : Longer K more cut (moved_on h m) = subst (Longer K more cut) (sym there.moved) (longer-next K more cut m.visible h there.within l) in
    let there_on : Longer K other false (moved_on h m) = subst (Longer K other false) (sym there.moved) (longer-next K other false m.visible h there.within n) in
    let rest = all-read K more other cut (moved_on h m) ms sgml on there_on (moved-stands I h m s t.0 t.1) t.2 e in
    ((there.reads, rest.0), (there.moved, there.within, rest.1))

-- THE PROLOG is read

read-before : (I : Input) (ms : List Move) (prolog rest other : Text) → all_sgml other ≡ true → ReadsProlog I ms prolog rest → ReadsProlog (with_more (cut_at I.outside prolog) other false) ms prolog other
read-before I ms prolog rest other sgml p =
    let h = read_by I ms in
    let K = cut_at I.outside prolog in
    let J = with_more K rest I.was_cut in
    let e : I ≡ J = same-input I prolog rest p.document in
    let reads : ReadOn forms J (opening I.outside) ms = subst (λ (X : Input). ReadOn forms X (opening I.outside) ms) e p.reads in
    let there : rests J h ≡ record { entity = 0; bytes = rest } ∷ [] = sym (ap (λ (X : Input). rests X h) e) ∙ ap (λ (t : Standing). t.rests) p.left in
    let d = all-read K rest other I.was_cut (opening I.outside) ms sgml (longer-opening K rest I.was_cut) (longer-opening K other false) (begins J) (way J ms reads p.first)
    (ap (λ rs. length (document_in rs)) there) in
    let z = alone rest (rests K h) rest (sym (longer-all K rest I.was_cut (opening I.outside) ms d.1 (longer-opening K rest I.was_cut)) ∙ there) in
    let empty = nothing-before z.front rest z.bytes_are in
    let nothing : rests K h ≡ record { entity = 0; bytes = [] } ∷ [] = z.is ∙ (λ i. (record { entity = 0; bytes = empty i }) ∷ []) in
    let left : rests (with_more K other false) h ≡ record { entity = 0; bytes = other } ∷ [] =
    longer-all K other false (opening I.outside) ms d.1 (longer-opening K other false) ∙ ap (map (rest_with_more other)) nothing in
    record {
      reads = d.0;
      first = p.first;
      document = refl;
      left = λ i. record { rests = left i; spent = spent I.outside h };
    }

pub same-prologs-are-read : SamePrologsAreRead
same-prologs-are-read I J ms prolog rest other whole sgml o p e =
    let K = cut_at I.outside prolog in
    let q : J ≡ with_more K other false = λ i. record { document = e i; was_cut = whole i; outside = sym o i } in
    let same : read_by J ms ≡ read_by I ms = ap (λ x. after_moves (opening x) ms) (sym o) in
    record {
      reads = subst (λ (X : Input). ReadsProlog X ms prolog other) (sym q) (read-before I ms prolog rest other sgml p);
      read_same = same;
      state_same = ap state same;
    }
