-- The pieces of moves stand, written, in each context that covers theirs, with data elsewhere or without it.
use Rattle.std.specs.Prelude.{◌≡◌, ◌⊎◌, Bool, true, false, ◌||◌, Option, Some, None, List, [], ◌∷◌, ◌++◌}
use Rattle.std.proofs.Common.{refl, sym, ap, ◌∙◌, inl, inr, subst}
use Rattle.sgml_theory_worked.specs.dtd.Doctypes.{Doctype}
use Rattle.sgml_theory_worked.specs.theory_reading.Names.{Name}
use Rattle.sgml_theory_worked.specs.theory_reading.Pieces.{Piece, Kind, Sgml, Head, Declare, Start, End, Char, Data, DataRef, Re, ShortRef, Meaning, Ordinary, ToText, ToData, ToExternalData, ToInstruction, Finish, How, Specification}
use Rattle.sgml_theory_worked.specs.theory_reading.Facets.{Token, Pcdata, Effect, Stays, effect, token, is_start, is_finish, declares, text_if, token_of_meaning}
use Rattle.sgml_theory_worked.specs.theory_reading.Context.{Level, Context, context_after, levels_with, levels_after, token_left, token_taken}
use Rattle.sgml_theory_worked.specs.theory_reading.Omission.{MayStand}
use Rattle.sgml_theory_worked.specs.theory_reading.Runs.{LongestRunFrom, context_after_run}
use Rattle.sgml_theory_worked.specs.theory_reading.Reasons.{Stands}
use Rattle.sgml_theory_worked.specs.theory_reading.Reads.{Move, judged, undefined, pieces}
use Rattle.sgml_theory_written.specs.Written.{IsWritten}
use Rattle.sgml_theory_written.specs.Standing.{HasItsType, StandBy, StandsAlone, StandAlone, context_moved}
use Rattle.sgml_theory_written.specs.Covering.{is_needed, CoversTerm, CoverLevels, Covers, IsSilent, IsData, CoversDataIn, MayLack, MissIn, MissContent, MissesToo, DataCoversIn, MayHave, AreRewritten, over, piece, lacking, besides}
use Rattle.sgml_theory_written.proofs.Plain.{is_proper}
use Rattle.sgml_theory_written.proofs.Alone.{alone, is_end}
use Rattle.sgml_theory_written.proofs.Tags.{Place, place, stands-alone, omitted-stood, visible-stood, KeepsProper}
use Rattle.sgml_theory_written.proofs.Steps.{written-same}
use Rattle.sgml_theory_written.proofs.Covering.{covers-on, covers-token, covers-serves, covers-after, same-proper}

-- A PIECE STANDS where it was left out, or where it is visible
abbrev StoodAt : Context → Piece → Type 0
StoodAt c p = ((x : Kind) × MayStand c p x) ⊎ ((x : Kind) × Place c x × (p.kind ≡ judged c x))

abbrev AllStood : Context → List Piece → Type 0
AllStood c [] = Unit {0}
AllStood c (p ∷ ps) = StoodAt c p × AllStood (context_after p c) ps

run-stood : (c : Context) (x : Kind) (os ps : List Piece) → LongestRunFrom c x os → AllStood (context_after_run c os) ps → AllStood c (os ++ ps)
run-stood c x [] ps r s = s
run-stood c x (o ∷ os) ps r s = (inl (x, r.0), run-stood (context_after o c) x os ps r.1 s)

moves-stood : (c : Context) (ms : List Move) → StandBy c ms → AllStood c (pieces ms)
moves-stood c [] s = tt
moves-stood c (m ∷ ms) s =
    run-stood c s.0 m.omitted (m.visible ∷ pieces ms) s.1.longest
    (inr (s.0, place c s.0 m s.1, s.1.noted), moves-stood (context_moved c m) ms s.2)

start-token : (n : Name) (ss : List Specification) (how : How) (p a : Bool) → token (Start n ss how p a) ≡ Some (Some n)
unfolding token
start-token n ss how p a = refl

keeps-proper : (c d : Context) (x : Kind) → Covers d c → MissesToo c d (judged c x) → KeepsProper d (judged c x)
unfolding is_proper token
keeps-proper c d (Start n ss how p a) s miss = sym (same-proper c d (Some n) s miss)
keeps-proper c d x s miss = tt

-- what is written for it stands
piece-stood : (c d : Context) (p q : Piece) → StoodAt c p → Covers d c → IsWritten d.doctype p.kind q.kind → MissesToo c d p.kind → StandsAlone d q
piece-stood c d p q (inl s) a w miss =
    let v : IsWritten c.doctype p.kind q.kind = subst (λ (t : Doctype). IsWritten t p.kind q.kind) (sym a.doctypes) w in
    stands-alone d q (omitted-stood c d p q.kind s.0 s.1 (covers-serves c d a) v)
piece-stood c d p q (inr s) a w miss =
    let v : IsWritten d.doctype (judged c s.0) q.kind = subst (λ (k : Kind). IsWritten d.doctype k q.kind) s.2 w in
    let m : MissesToo c d (judged c s.0) = subst (MissesToo c d) s.2 miss in
    stands-alone d q (visible-stood c d s.0 q.kind s.1 (covers-serves c d a) (keeps-proper c d s.0 a m) v)

-- SILENT PIECES AND DATA

-- neither a tag nor the end of the document
pub record IsPlain (x : Kind) : Type 0 where
  pub stays : effect x ≡ Stays
  pub no_start : is_start x ≡ false
  pub declares_nothing : (d : Doctype) → declares x d ≡ d

pub silent-plain : (x : Kind) → IsSilent x → IsPlain x
unfolding token is_start
silent-plain (Start n ss how p a) s = absurd (let e : Some (Some n) ≡ None = s.no_content in cc)
silent-plain x s = record { stays = s.stays; no_start = refl; declares_nothing = s.declares_nothing }

pub data-plain : (x : Kind) → IsData x → IsPlain x
unfolding token effect is_start declares
data-plain (Sgml syntax) e = absurd (cc)
data-plain (Head head base) e = absurd (cc)
data-plain (Declare lexemes says base) e = absurd (cc)
data-plain (Start n ss how p a) e = absurd (cc)
data-plain (End n how) e = absurd (cc)
data-plain x e = record { stays = refl; no_start = refl; declares_nothing = λ d. refl }

pub after-plain-piece : (c : Context) (p : Piece) → IsPlain p.kind → (P : Doctype → List Level → Bool → Type 0) → P c.doctype (levels_with p.kind c.levels) c.begun → P (context_after p c).doctype (context_after p c).levels (context_after p c).begun
unfolding context_after
after-plain-piece c p s P h =
    let e : c.doctype ≡ declares p.kind c.doctype = sym (s.declares_nothing c.doctype) in
    let f : levels_with p.kind c.levels ≡ levels_after c.doctype (effect p.kind) p.kind c.levels =
    sym (ap (λ (u : Effect). levels_after c.doctype u p.kind c.levels) s.stays) in
    let g : c.begun ≡ (is_start p.kind || c.begun) = sym (ap (λ (b : Bool). b || c.begun) s.no_start) in
    subst (λ (t : Doctype). P t (levels_after c.doctype (effect p.kind) p.kind c.levels) (is_start p.kind || c.begun)) e
    (subst (λ (ls : List Level). P c.doctype ls (is_start p.kind || c.begun)) f (subst (λ (b : Bool). P c.doctype (levels_with p.kind c.levels) b) g h))

pub silent-levels : (x : Kind) (ls : List Level) → token x ≡ None → levels_with x ls ≡ ls
silent-levels x [] e = refl
silent-levels x (l ∷ ls) e = λ i. record { element = l.element; left = token_taken (e i) l.left; slash = l.slash } ∷ ls

-- without it
pub lacks-data : (x : Kind) (ls ms : List Level) → IsData x → CoverLevels ms ls → CoversDataIn ls → CoverLevels ms (levels_with x ls)
lacks-data x [] [] e a c = tt
lacks-data x [] (m ∷ ms) e a c = absurd a
lacks-data x (l ∷ ls) [] e a c = absurd a
lacks-data x (l ∷ ls) (m ∷ ms) e a c = (
  record {
    elements = a.0.elements;
    lefts = subst (λ (o : Option Token). CoversTerm m.left (token_taken o l.left)) (sym e) (covers-on m.left l.left (token_left l.left Pcdata) a.0.lefts c);
  },
  a.1,
)

abbrev pub CoversParts : Context → Doctype → List Level → Bool → Type 0
CoversParts d t ls b = (t ≡ d.doctype) × CoverLevels d.levels ls × (b ≡ d.begun)

pub lacks : (c d : Context) (p : Piece) → MayLack c p.kind → Covers d c → Covers d (context_after p c)
lacks c d p s a = record { doctypes = h.0; levels = h.1; begun = h.2 }
  where
    levels : MayLack c p.kind → CoverLevels d.levels (levels_with p.kind c.levels)
    levels (inl s) = subst (CoverLevels d.levels) (sym (silent-levels p.kind c.levels s.no_content)) a.levels
    levels (inr s) = lacks-data p.kind c.levels d.levels s.0 a.levels s.1

    plain : MayLack c p.kind → IsPlain p.kind
    plain (inl s) = silent-plain p.kind s
    plain (inr s) = data-plain p.kind s.0

    h : CoversParts d (context_after p c).doctype (context_after p c).levels (context_after p c).begun
    h = after-plain-piece c p (plain s) (CoversParts d) (a.doctypes, levels s, a.begun)

-- with it
pub has-data : (x : Kind) (ls ms : List Level) → IsData x → CoverLevels ms ls → DataCoversIn ls → MissIn ls ms Pcdata → CoverLevels (levels_with x ms) ls
has-data x [] [] e a c miss = tt
has-data x [] (m ∷ ms) e a c miss = absurd a
has-data x (l ∷ ls) [] e a c miss = absurd a
has-data x (l ∷ ls) (m ∷ ms) e a c miss = (
  record {
    elements = a.0.elements;
    lefts = subst (λ (o : Option Token). CoversTerm (token_taken o m.left) l.left) (sym e) (covers-on (token_left m.left Pcdata) (token_left l.left Pcdata) l.left (covers-token m.left l.left Pcdata a.0.lefts miss) c);
  },
  a.1,
)

abbrev pub PartsCover : Context → Doctype → List Level → Bool → Type 0
PartsCover c t ms b = (c.doctype ≡ t) × CoverLevels ms c.levels × (c.begun ≡ b)

pub has : (c d : Context) (q : Piece) → MayHave c d q.kind → Covers d c → Covers (context_after q d) c
has c d q s a = record { doctypes = h.0; levels = h.1; begun = h.2 }
  where
    levels : MayHave c d q.kind → CoverLevels (levels_with q.kind d.levels) c.levels
    levels (inl s) = subst (λ (ms : List Level). CoverLevels ms c.levels) (sym (silent-levels q.kind d.levels s.no_content)) a.levels
    levels (inr s) = has-data q.kind c.levels d.levels s.0 a.levels s.2 (subst (MissContent c d) s.0 s.3)

    plain : MayHave c d q.kind → IsPlain q.kind
    plain (inl s) = silent-plain q.kind s
    plain (inr s) = data-plain q.kind s.0

    h : PartsCover c (context_after q d).doctype (context_after q d).levels (context_after q d).begun
    h = after-plain-piece d q (plain s) (PartsCover c) (a.doctypes, levels s, a.begun)

-- it stands
record StaysSo (d : Context) (x : Kind) : Type 0 where
  has_its_type : HasItsType d x
  declared : undefined d x ≡ None
  noted : x ≡ judged d x
  no_end : is_end x ≡ false

silent-so : (d : Context) (x : Kind) → IsSilent x → StaysSo d x
unfolding token effect is_end
silent-so d (Start n ss how p a) s = absurd (let e : Some (Some n) ≡ None = s.no_content in cc)
silent-so d (End n how) s = absurd (let e = s.stays in cc)
silent-so d x s = record { has_its_type = tt; declared = refl; noted = refl; no_end = refl }

data-so : (d : Context) (x : Kind) → IsData x → StaysSo d x
unfolding token is_end
data-so d (Start n ss how p a) e = absurd (cc)
data-so d (End n how) e = absurd (cc)
data-so d x e = record { has_its_type = tt; declared = refl; noted = refl; no_end = refl }

stood-so : (d : Context) (q : Piece) (o : Option Token) → token q.kind ≡ o → StaysSo d q.kind → Stands d q.kind o → StandsAlone d q
stood-so d q o e s h =
    stands-alone d q (record { has_its_type = s.has_its_type; declared = s.declared; alone = alone d q.kind o e s.no_end h; noted = s.noted })

-- a silent piece may stand anywhere
silent-stands : (d : Context) (x : Kind) → IsSilent x → Stands d x None
unfolding effect is_finish
silent-stands d (End n how) s = absurd (let e = s.stays in cc)
silent-stands d Finish s = absurd (let e = s.isnt_finish in cc)
silent-stands d x s = tt

false-true : {P : Type 0} → false ≡ true → P
false-true e = absurd (cc)

has-stood : (c d : Context) (q : Piece) → MayHave c d q.kind → Covers d c → StandsAlone d q
has-stood c d q (inl s) a = stood-so d q None s.no_content (silent-so d q.kind s) (silent-stands d q.kind s)
has-stood c d q (inr s) a =
    let plain = data-plain q.kind s.0 in
    stood-so d q (Some Pcdata) s.0 (data-so d q.kind s.0)
    ((covers-serves c d a).allows Pcdata s.1, λ t. false-true (sym plain.no_start ∙ t))

abbrev Comes : Context → Context → List Piece → List Piece → Type 0
Comes c d ps qs = StandAlone d qs × Covers (context_after_run d qs) (context_after_run c ps)

rewritten-comes : (c d : Context) (ps qs : List Piece) → AreRewritten c d ps qs → AllStood c ps → Covers d c → Comes c d ps qs
rewritten-comes c d _ _ (over _ _) s a = (tt, a)
rewritten-comes c d _ _ (piece _ _ p q ps qs w miss r) s a =
    let b = covers-after c d p q (written-same d.doctype p.kind q.kind w) a miss in
    let more = rewritten-comes (context_after p c) (context_after q d) ps qs r s.1 b in
    ((piece-stood c d p q s.0 a w miss, more.0), more.1)
rewritten-comes c d _ _ (lacking _ _ p ps qs l r) s a =
    rewritten-comes (context_after p c) d ps qs r s.1 (lacks c d p l a)
rewritten-comes c d _ _ (besides _ _ q ps qs h r) s a =
    let more = rewritten-comes c (context_after q d) ps qs r s (has c d q h a) in
    ((has-stood c d q h a, more.0), more.1)

pub moves-rewritten : (c d : Context) (ms : List Move) (qs : List Piece) → StandBy c ms → Covers d c → AreRewritten c d (pieces ms) qs → Comes c d (pieces ms) qs
moves-rewritten c d ms qs s a r = rewritten-comes c d (pieces ms) qs r (moves-stood c ms s) a

-- PIECES OF OTHER KINDS
text-part : (b : Bool) → (text_if b ≡ None) ⊎ (text_if b ≡ Some Pcdata)
text-part true = inr refl
text-part false = inl refl

meaning-part : (m : Meaning) → (token_of_meaning m ≡ None) ⊎ (token_of_meaning m ≡ Some Pcdata)
meaning-part (Ordinary items content) = text-part content
meaning-part (ToText e) = inl refl
meaning-part (ToData e) = inr refl
meaning-part (ToExternalData e) = inr refl
meaning-part (ToInstruction e text) = inl refl

pub others-are : (x : Kind) → is_needed x ≡ false → IsSilent x ⊎ IsData x
unfolding token effect declares is_finish
others-are (Sgml syntax) e = absurd (cc)
others-are (Head head base) e = absurd (cc)
others-are (Declare lexemes says base) e = absurd (cc)
others-are (Start n ss how p a) e = absurd (cc)
others-are (End n how) e = absurd (cc)
others-are Finish e = absurd (cc)
others-are (Char b) e = inr refl
others-are (Data n) e = inr refl
others-are (DataRef n) e = inr refl
others-are (Re live) e = go (text-part live)
  where
    go : (text_if live ≡ None) ⊎ (text_if live ≡ Some Pcdata) → IsSilent (Re live) ⊎ IsData (Re live)
    go (inl f) = inl (record { no_content = f; stays = refl; declares_nothing = λ d. refl; isnt_finish = refl })
    go (inr f) = inr f
others-are (ShortRef string m) e = go (meaning-part m)
  where
    go : (token_of_meaning m ≡ None) ⊎ (token_of_meaning m ≡ Some Pcdata) → IsSilent (ShortRef string m) ⊎ IsData (ShortRef string m)
    go (inl f) = inl (record { no_content = f; stays = refl; declares_nothing = λ d. refl; isnt_finish = refl })
    go (inr f) = inr f
others-are x e = inl (record { no_content = refl; stays = refl; declares_nothing = λ d. refl; isnt_finish = refl })
