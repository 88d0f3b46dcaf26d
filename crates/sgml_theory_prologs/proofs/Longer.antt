-- What is unread of a document that goes on behind a prolog.
use Rattle.std.proofs.Common.{◌≡◌, ℕ, suc, ◌≤◌, ◌==◌, Bool, true, false, List, [], ◌∷◌, ◌++◌, Option, None, Some, length, drop, map, refl, sym, ap, ◌∙◌, subst, if◌then◌else◌, arith}
use Rattle.std.proofs.lemmas.List.{drop-append-le, length-append}
use Rattle.sgml_theory_standing.specs.entity.declared.kinds.External.{External}
use Rattle.sgml_theory_standing.specs.theory_reading.Names.{Text}
use Rattle.sgml_theory_standing.specs.theory_reading.Pieces.{Piece, Kind, Head, SubsetEnd, ShortRef, Ref, Meaning, Ordinary, ToText, ToData, ToExternalData, ToInstruction, History}
use Rattle.sgml_theory_standing.specs.theory_reading.Facets.{Turn, OpensText, EndsText, StaysInText, turn, turn_of_end, turn_of_external, turn_of_meaning}
use Rattle.sgml_theory_standing.specs.theory_reading.Unread.{Input, sources, Rest, standing, text_of, rests, rest_moved, rest_turned, spent, opening}
use Rattle.sgml_theory_standing.specs.theory_reading.Reads.{Move, moved_on, after_moves, with_more, more_of, rest_with_more, standing_with_more, length_of_first}
use Rattle.sgml_theory_standing.specs.theory_spelling.Prolog.{in_document}
use Rattle.sgml_theory_prologs.proofs.PieceKinds.{entities_of}

more-moved : (b : Bool) (bytes : List ℕ) (n : ℕ) (bs : List ℕ) → n ≤ length bs → drop n (if b then bs ++ bytes else bs) ≡ (if b then drop n bs ++ bytes else drop n bs)
more-moved true bytes n bs h = drop-append-le n bs bytes h
more-moved false bytes n bs h = refl

moved-more : (bytes : List ℕ) (n : ℕ) (rs : List Rest) → n ≤ length_of_first rs → rest_moved n (map (rest_with_more bytes) rs) ≡ map (rest_with_more bytes) (rest_moved n rs)
moved-more bytes n [] h = refl
moved-more bytes n (r ∷ rs) h = λ i. record { entity = r.entity; bytes = more-moved (r.entity == 0) bytes n r.bytes h i } ∷ map (rest_with_more bytes) rs

-- the document is never opened
abbrev OpensNoDocument : Turn → Type 0
OpensNoDocument t = (e : ℕ) → t ≡ OpensText e → (e == 0) ≡ false

turned-to : (n : ℕ) (b : Bool) → (n == 0) ≡ b → OpensNoDocument (if b then StaysInText else OpensText n)
turned-to n true h e f = absurd (cc)
turned-to n false h e f = let g : n ≡ e = cc in ap (λ (m : ℕ). m == 0) (sym g) ∙ h

subset-opened : (b : Bool) → OpensNoDocument (turn_of_end b)
subset-opened true e f = let g : 1 ≡ e = cc in ap (λ (m : ℕ). m == 0) (sym g)
subset-opened false e f = absurd (cc)

external-opened : (x : Option External) → OpensNoDocument (turn_of_external x)
external-opened None e f = absurd (cc)
external-opened (Some x) e f = let g : 1 ≡ e = cc in ap (λ (m : ℕ). m == 0) (sym g)

head-opened : (b : Bool) (x : Option External) → OpensNoDocument (if b then StaysInText else turn_of_external x)
head-opened true x e f = absurd (cc)
head-opened false x e f = external-opened x e f

meaning-opened : (m : Meaning) → OpensNoDocument (turn_of_meaning m)
meaning-opened (ToText n) e f = turned-to n (n == 0) refl e f
meaning-opened (Ordinary has_items content) e f = absurd (cc)
meaning-opened (ToData n) e f = absurd (cc)
meaning-opened (ToExternalData n) e f = absurd (cc)
meaning-opened (ToInstruction n text) e f = absurd (cc)

none-opened : (k : Kind) → OpensNoDocument (turn k)
unfolding turn
none-opened (Ref n) e f = turned-to n (n == 0) refl e f
none-opened (ShortRef string meaning) e f = meaning-opened meaning e f
none-opened (Head head base) e f = head-opened head.subset head.external e f
none-opened (SubsetEnd reads_external) e f = subset-opened reads_external e f
none-opened _ e f = absurd (cc)

turned-more : (bytes : List ℕ) (text : ℕ → List ℕ) (t : Turn) (rs : List Rest) → OpensNoDocument t → rest_turned text t (map (rest_with_more bytes) rs) ≡ map (rest_with_more bytes) (rest_turned text t rs)
turned-more bytes text (OpensText e) rs h =
    ap (λ (b : Bool). let r : Rest = record { entity = e; bytes = if b then text e ++ bytes else text e } in r ∷ map (rest_with_more bytes) rs) (sym (h e refl))
turned-more bytes text EndsText [] h = refl
turned-more bytes text EndsText (r ∷ rs) h = refl
turned-more bytes text StaysInText rs h = refl

-- what is unread of the longer document is what is unread of the shorter one, with more
abbrev pub Longer : Input → Text → Bool → History → Type 0
Longer K more cut h = rests (with_more K more cut) h ≡ map (rest_with_more more) (rests K h)

pub longer-next : (K : Input) (more : Text) (cut : Bool) (p : Piece) (h : History) → p.size ≤ length_of_first (rests K h) → Longer K more cut h → Longer K more cut (p ∷ h)
unfolding rests
longer-next K more cut p h l e =
    let text = text_of K.outside (sources (p ∷ h)) in
    ap (λ rs. rest_turned text (turn p.kind) (rest_moved p.size rs)) e
    ∙ (ap (rest_turned text (turn p.kind)) (moved-more more p.size (rests K h) l)
    ∙ turned-more more text (turn p.kind) (rest_moved p.size (rests K h)) (none-opened p.kind))

pub longer-opening : (K : Input) (more : Text) (cut : Bool) → Longer K more cut (opening K.outside)
unfolding rests turn
longer-opening K more cut = refl

pub longer-standing : (K : Input) (more : Text) (cut : Bool) (h : History) → Longer K more cut h → standing (with_more K more cut) h ≡ standing_with_more more (standing K h)
longer-standing K more cut h e = λ i. record { rests = e i; spent = spent K.outside h }

-- these moves are of visible pieces alone, each of which lies in the shorter document
abbrev pub Lie : Input → History → List Move → Type 0
Lie K h [] = Unit {0}
Lie K h (m ∷ ms) = (moved_on h m ≡ m.visible ∷ h) × (m.visible.size ≤ length_of_first (rests K h)) × Lie K (moved_on h m) ms

pub longer-all : (K : Input) (more : Text) (cut : Bool) (h : History) (ms : List Move) → Lie K h ms → Longer K more cut h → Longer K more cut (after_moves h ms)
longer-all K more cut h [] l e = e
longer-all K more cut h (m ∷ ms) l e =
    longer-all K more cut (moved_on h m) ms l.2 (subst (Longer K more cut) (sym l.0) (longer-next K more cut m.visible h l.1 e))

pub entities-more : (more : Text) (rs : List Rest) → entities_of (map (rest_with_more more) rs) ≡ entities_of rs
entities-more more [] = refl
entities-more more (r ∷ rs) = ap (λ xs. r.entity ∷ xs) (entities-more more rs)

-- WHERE THE DOCUMENT ALONE IS OPEN in the longer one, so it is in the shorter one
pub record Alone (more : Text) (rs : List Rest) (bytes : Text) : Type 0 where
  pub front : Text
  pub is : rs ≡ record { entity = 0; bytes = front } ∷ []
  pub bytes_are : bytes ≡ front ++ more

abbrev first_entity_of : List Rest → ℕ
first_entity_of [] = 1
first_entity_of (r ∷ rs) = r.entity

abbrev first_bytes_of : List Rest → Text
first_bytes_of [] = []
first_bytes_of (r ∷ rs) = r.bytes

alone-one : (more : Text) (r : Rest) (bytes : Text) → map (rest_with_more more) (r ∷ []) ≡ record { entity = 0; bytes = bytes } ∷ [] → Alone more (r ∷ []) bytes
alone-one more r bytes e =
    let number : r.entity ≡ 0 = ap first_entity_of e in
    record {
      front = r.bytes;
      is = λ i. (record { entity = number i; bytes = r.bytes }) ∷ [];
      bytes_are = sym (ap first_bytes_of e) ∙ ap (λ n. more_of more n r.bytes) number;
    }

pub alone : (more : Text) (rs : List Rest) (bytes : Text) → map (rest_with_more more) rs ≡ record { entity = 0; bytes = bytes } ∷ [] → Alone more rs bytes
alone more [] bytes e = absurd (cc)
alone more (r ∷ []) bytes e = alone-one more r bytes e
alone more (r ∷ s ∷ rs) bytes e = absurd (two (ap length e))
  where
    two : suc (suc (length (map (rest_with_more more) rs))) ≡ 1 → ⊥
    two e = absurd (omega (arith, e))

-- nothing is left before what follows
pub nothing-before : (front more : Text) → more ≡ front ++ more → front ≡ []
nothing-before [] more e = refl
nothing-before (b ∷ front) more e =
    let l = length-append (b ∷ front) more in
    absurd (omega (arith, l, ap length e))

-- the top text that isn't the document is the same in both
pub other-first : (more : Text) (rs : List Rest) → in_document (entities_of rs) ≡ false → length_of_first (map (rest_with_more more) rs) ≡ length_of_first rs
other-first more [] e = refl
other-first more (r ∷ rs) e = ap (λ t. length (if t then r.bytes ++ more else r.bytes)) e
