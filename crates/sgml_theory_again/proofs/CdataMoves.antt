-- What is read in CDATA content, move by move.
use Rattle.std.proofs.Common.{◌≡◌, inl, inr, ℕ, Bool, true, false, List, [], ◌∷◌, ◌++◌, None, drop, refl, sym, ap, ◌∙◌, subst}
use Rattle.sgml_theory_full.specs.syntax.declared.syntax.Syntax.{Syntax}
use Rattle.sgml_theory_full.specs.delim.declared.delim.Mode.TheVariants as mode
use Rattle.sgml_theory_full.specs.scan.Classes.{is_data}
use Rattle.sgml_theory_full.specs.dtd.Doctypes.{Doctype}
use Rattle.sgml_theory_full.specs.theory_reading.Names.{Name, Text}
use Rattle.sgml_theory_full.specs.theory_reading.Pieces.{Piece, Kind, Sgml, Head, Declare, SubsetEnd, Start, End, Char, Data, DataRef, Re, Rs, Sep, ShortRef, Ref, EntityEnd, SectionStart, SectionEnd, Skipped, Pi, Comment, UseMap, Finish, How, History}
use Rattle.sgml_theory_full.specs.theory_reading.Facets.{effect, border, declares, is_start, is_finish, turn}
use Rattle.sgml_theory_full.specs.theory_reading.Nest.{without_first}
use Rattle.sgml_theory_full.specs.theory_reading.Context.{Level, Context, context, context_after, levels_after, levels_with}
use Rattle.sgml_theory_full.specs.theory_reading.Omission.{MayStand, omitted_end, omitted_start}
use Rattle.sgml_theory_full.specs.theory_reading.Runs.{LongestRun, after_run}
use Rattle.sgml_theory_full.specs.theory_reading.Sections.{sections, sections_after}
use Rattle.sgml_theory_full.specs.theory_reading.Unread.{Input, Rest, sources, rests, rest_moved, rest_turned, standing, text_of}
use Rattle.sgml_theory_full.specs.theory_reading.State.{State, state, after_piece}
use Rattle.sgml_theory_full.specs.theory_reading.Characters.{kind_noted}
use Rattle.sgml_theory_full.specs.theory_reading.Reads.{Move, Reads, ReadOn, judged, moved_on, pieces}
use Rattle.sgml_theory_full.proofs.theory_reading.Steps.{state-step}
use Rattle.sgml_theory_full.specs.theory_spelling.Places.{section_mode, element_mode}
use Rattle.sgml_theory_full.specs.theory_spelling.Spelled.{forms}
use Rattle.sgml_theory_full.specs.Raw.{begins_end_tag}
use Rattle.sgml_theory_full.specs.Conforming.{mode_in, IsOver}
use Rattle.sgml_theory_full.specs.Standing.{PieceStands}
use Rattle.sgml_theory_full.specs.ReadRaw.{with_character, characters, is_record_end, EachInCdata, IsReadRaw}
use Rattle.sgml_theory_full.specs.Instances.{all_but_last}
use Rattle.sgml_theory_full.proofs.Instances.{read-over}
use Rattle.sgml_theory_full.proofs.RawParts.{not-con}
use Rattle.sgml_theory_full.proofs.ReadRaw.{Fronts, front-no-tag}
use Rattle.sgml_theory_again.specs.Moves.{Along}
use Rattle.sgml_theory_again.specs.Content.{HasCome, IsOfInstance}
use Rattle.sgml_theory_again.specs.Holding.{StaysInCdata}
use Rattle.sgml_theory_again.proofs.Standing.{EachIs, read-stands}
use Rattle.sgml_theory_again.proofs.Content.{start-section}
use Rattle.sgml_theory_again.proofs.Nested.{IsNested, all-mode, omitted-run-mode, nested-run}
use Rattle.sgml_theory_again.proofs.Instance.{spelt, same-type, read-of-instance, come-run}
use Rattle.sgml_theory_again.proofs.Moving.{lifted}
use Rattle.sgml_theory_again.proofs.Cdata.{KindInCdata, SectionsLet, top, spelled-in-cdata}

-- THE KINDS
abbrev pub Fits : Kind → Type 0
Fits (Char b) = is_data b ≡ true
Fits (Re live) = Unit {0}
Fits Rs = Unit {0}
Fits (End n how) = Unit {0}
Fits EntityEnd = Unit {0}
Fits Finish = Unit {0}
Fits kind = ⊥

kind-fits : (s : Syntax) (bytes : Text) (n : ℕ) (k : Kind) → KindInCdata s bytes n k → Fits k
kind-fits s bytes n (Char b) h = h.3
kind-fits s bytes n (Re live) h = tt
kind-fits s bytes n Rs h = tt
kind-fits s bytes n (End name how) h = tt
kind-fits s bytes n EntityEnd h = tt
kind-fits s bytes n Finish h = tt
kind-fits s bytes n _ h = absurd h

-- what is noted of a piece
noted-in : (x : Syntax) (bytes : Text) (n : ℕ) (s : State) (c : Context) (k : Kind) → KindInCdata x bytes n k → KindInCdata x bytes n (judged c (kind_noted s k))
unfolding kind_noted
noted-in x bytes n s c (Char b) h = h
noted-in x bytes n s c (Re live) h = tt
noted-in x bytes n s c Rs h = tt
noted-in x bytes n s c (End name how) h = tt
noted-in x bytes n s c EntityEnd h = tt
noted-in x bytes n s c Finish h = tt
noted-in x bytes n s c _ h = absurd h

noted-start : (s : State) (c : Context) (k : Kind) → is_start (judged c (kind_noted s k)) ≡ is_start k
unfolding kind_noted is_start
noted-start s c (Start n ss how p b) = refl
noted-start s c (Re live) = refl
noted-start s c (ShortRef string meaning) = refl
noted-start s c (SubsetEnd reads) = refl
noted-start s c k = refl

-- SECTIONS stay where tags are left out
abbrev Sectioned : Piece → Type 0
Sectioned o = (h : History) → (state (o ∷ h)).sections ≡ (state h).sections

end-sectioned : (n : Name) → Sectioned (omitted_end n)
unfolding state sections border
end-sectioned n h = refl

start-sectioned : (n : Name) → Sectioned (omitted_start n)
unfolding state sections border
start-sectioned n h = refl

omitted-sectioned : (c : Context) (o : Piece) (x : Kind) → MayStand c o x → Sectioned o
omitted-sectioned c o x (inl m) = subst Sectioned (sym m.1) (end-sectioned m.0)
omitted-sectioned c o x (inr m) = subst Sectioned (sym m.1) (start-sectioned m.0)

run-sectioned : (h : History) (x : Kind) (os : List Piece) → LongestRun h x os → (state (after_run h os)).sections ≡ (state h).sections
run-sectioned h x [] r = refl
run-sectioned h x (o ∷ os) r = run-sectioned (o ∷ h) x os r.1 ∙ omitted-sectioned (context h) o x r.0 h

-- THE VISIBLE PIECE where the innermost element has CDATA content after the tags left out: there are none
context-is : (h : History) → (state h).context ≡ context h
unfolding state
context-is h = refl

con-mode : (h : History) → element_mode (context h).doctype (context h).levels ≡ mode.Con → mode_in (state h) ≡ mode.Con
con-mode h e = ap (λ (c : Context). element_mode c.doctype c.levels) (context-is h) ∙ e

none-omitted : (h : History) (x : Kind) (os : List Piece) (v : Piece) → LongestRun h x os → EachIs PieceStands h os v → IsNested (context h) → mode_in (state (after_run h os)) ≡ mode.Cdt → os ≡ []
none-omitted h x [] v r e t m = refl
none-omitted h x (o ∷ os) v r e t m = not-con (sym (con-mode (after_run (o ∷ h) os) (omitted-run-mode h x o os v r e t)) ∙ m)

-- what holds of an input and what was read of it, in the instance
pub record InInstance (I : Input) (h : History) : Type 0 where
  pub come : HasCome I h
  pub nested : IsNested (context h)
  pub sections_let : SectionsLet (state h)

abbrev VisibleIn : Input → History → Piece → Type 0
VisibleIn I h v = KindInCdata (state h).context.doctype.syntax (top (rests I h)) v.size v.kind

pub visible-in : (I : Input) (h : History) (m : Move) → Reads forms I h m → InInstance I h → mode_in (state (after_run h m.omitted)) ≡ mode.Cdt → (m.omitted ≡ []) × VisibleIn I h m.visible
visible-in I h m r i e =
    let s = spelt I h m r in
    let none = none-omitted h (kind_noted (state h) s.p.kind) m.omitted m.visible s.longest (read-stands I h m r) i.nested e in
    let syntax = (state h).context.doctype.syntax in
    let k = spelled-in-cdata I.outside (state h) (standing I h) s.p i.come i.sections_let (subst (λ os. mode_in (state (after_run h os)) ≡ mode.Cdt) none e) s.is in
    let noted = noted-in syntax (top (rests I h)) s.p.size (state h) (context (after_run h m.omitted)) s.p.kind k in
    (none, subst (λ n. KindInCdata syntax (top (rests I h)) n m.visible.kind) (sym s.size) (subst (λ k. KindInCdata syntax (top (rests I h)) s.p.size k) (sym s.visible) noted))

-- AFTER A MOVE
sections-kept : (v : Piece) (s : State) (k : Kind) → v.kind ≡ k → border k ≡ border Comment → (after_piece v s).sections ≡ s.sections
unfolding after_piece border
sections-kept v s k e b = ap (λ x. sections_after x s.texts s.sections) (ap border e ∙ b)

mode-kept : (v : Piece) (s : State) (k : Kind) → v.kind ≡ k → effect k ≡ effect Comment → declares k s.context.doctype ≡ s.context.doctype → mode_in (after_piece v s) ≡ mode_in s
unfolding after_piece context_after effect
mode-kept v s k e x d =
    ap (λ k. element_mode (declares k s.context.doctype) (levels_after s.context.doctype (effect k) k s.context.levels)) e
    ∙ ap (λ x. element_mode (declares k s.context.doctype) (levels_after s.context.doctype x k s.context.levels)) x
    ∙ ap (λ y. element_mode y (levels_with k s.context.levels)) d
    ∙ with-mode s.context.doctype s.context.levels
  where
    with-mode : (d : Doctype) (ls : List Level) → element_mode d (levels_with k ls) ≡ element_mode d ls
    with-mode d [] = refl
    with-mode d (l ∷ ls) = refl

mode-outside : (v : Piece) (s : State) (n : Name) (how : How) → v.kind ≡ End n how → IsNested s.context → mode_in (after_piece v s) ≡ mode.Con
unfolding after_piece context_after effect declares
mode-outside v s n how e t =
    ap (λ k. element_mode (declares k s.context.doctype) (levels_after s.context.doctype (effect k) k s.context.levels)) e
    ∙ all-mode s.context.doctype (without_first s.context.levels) t

let-by : (v : Piece) (s : State) (k : Kind) → v.kind ≡ k → effect k ≡ effect Comment → declares k s.context.doctype ≡ s.context.doctype → border k ≡ border Comment
    → (mode_in s ≡ mode.Cdt → (section_mode s.sections ≡ None) × Fits k) → SectionsLet (after_piece v s)
let-by v s k e x d b f m = ap section_mode (sections-kept v s k e b) ∙ (f (sym (mode-kept v s k e x d) ∙ m)).0

never-by : (v : Piece) (s : State) (k : Kind) → v.kind ≡ k → effect k ≡ effect Comment → declares k s.context.doctype ≡ s.context.doctype → (Fits k → ⊥)
    → (mode_in s ≡ mode.Cdt → (section_mode s.sections ≡ None) × Fits k) → SectionsLet (after_piece v s)
never-by v s k e x d none f m = absurd (none (f (sym (mode-kept v s k e x d) ∙ m)).1)

let-after : (v : Piece) (s : State) (k : Kind) → v.kind ≡ k → IsNested s.context → IsOfInstance s k → (is_start k ≡ true → section_mode s.sections ≡ None)
    → (mode_in s ≡ mode.Cdt → (section_mode s.sections ≡ None) × Fits k) → SectionsLet (after_piece v s)
unfolding effect declares border is_start
let-after v s (Start n ss how p b) e t o start f = λ m. ap section_mode (sections-kept v s (Start n ss how p b) e refl) ∙ start refl
let-after v s (End n how) e t o start f = λ m. not-con (sym (mode-outside v s n how e t) ∙ m)
let-after v s (Char b) e t o start f = let-by v s (Char b) e refl refl refl f
let-after v s (Re live) e t o start f = let-by v s (Re live) e refl refl refl f
let-after v s Rs e t o start f = let-by v s Rs e refl refl refl f
let-after v s EntityEnd e t o start f = let-by v s EntityEnd e refl refl refl f
let-after v s Finish e t o start f = let-by v s Finish e refl refl refl f
let-after v s (Data n) e t o start f = never-by v s (Data n) e refl refl (λ x. x) f
let-after v s (DataRef n) e t o start f = never-by v s (DataRef n) e refl refl (λ x. x) f
let-after v s (Ref n) e t o start f = never-by v s (Ref n) e refl refl (λ x. x) f
let-after v s (Sep b) e t o start f = never-by v s (Sep b) e refl refl (λ x. x) f
let-after v s (SectionStart status) e t o start f = never-by v s (SectionStart status) e refl refl (λ x. x) f
let-after v s SectionEnd e t o start f = never-by v s SectionEnd e refl refl (λ x. x) f
let-after v s (Skipped b) e t o start f = never-by v s (Skipped b) e refl refl (λ x. x) f
let-after v s (Pi text n) e t o start f = never-by v s (Pi text n) e refl refl (λ x. x) f
let-after v s Comment e t o start f = never-by v s Comment e refl refl (λ x. x) f
let-after v s (UseMap map) e t o start f = never-by v s (UseMap map) e refl refl (λ x. x) f
let-after v s (ShortRef string meaning) e t o start f = never-by v s (ShortRef string meaning) e refl refl (λ x. x) f
let-after v s (Sgml syntax) e t o start f = absurd o
let-after v s (Head head base) e t o start f = absurd o
let-after v s (Declare lexemes says base) e t o start f = absurd o
let-after v s (SubsetEnd reads) e t o start f = absurd o

-- what was read up to the visible piece
nested-omitted : (h : History) (os : List Piece) (v : Piece) → EachIs PieceStands h os v → IsNested (context h) → IsNested (context (after_run h os))
nested-omitted h [] v e t = t
nested-omitted h (o ∷ os) v e t = nested-omitted (o ∷ h) os v e.1 (nested-run h [] o e.0 t)

last-is : (P : State → Kind → Type 0) (h : History) (os : List Piece) (v : Piece) → EachIs P h os v → P (state (after_run h os)) v.kind
last-is P h [] v e = e
last-is P h (o ∷ os) v e = last-is P (o ∷ h) os v e.1

pub instance-next : (I : Input) (h : History) (m : Move) → Reads forms I h m → InInstance I h → InInstance I (moved_on h m)
instance-next I h m r i =
    let s = spelt I h m r in
    let stands = read-stands I h m r in
    let of = read-of-instance I h m r i.come i.nested in
    let old = state (after_run h m.omitted) in
    let kept = run-sectioned h (kind_noted (state h) s.p.kind) m.omitted s.longest in
    let nested : IsNested old.context = subst IsNested (sym (context-is (after_run h m.omitted))) (nested-omitted h m.omitted m.visible stands i.nested) in
    let start : is_start m.visible.kind ≡ true → section_mode old.sections ≡ None =
    λ e. ap section_mode kept ∙ start-section I.outside (state h) (standing I h) s.p i.come s.is
    (sym (noted-start (state h) (context (after_run h m.omitted)) s.p.kind) ∙ sym (ap is_start s.visible) ∙ e) in
    let inside : mode_in old ≡ mode.Cdt → (section_mode old.sections ≡ None) × Fits m.visible.kind =
    λ e. let v = visible-in I h m r i e in (
      ap section_mode kept ∙ i.sections_let (subst (λ os. mode_in (state (after_run h os)) ≡ mode.Cdt) v.0 e),
      kind-fits (state h).context.doctype.syntax (top (rests I h)) m.visible.size m.visible.kind v.1,
    ) in record {
      come = come-run I h m.omitted m.visible of i.come;
      nested = nested-run h m.omitted m.visible stands i.nested;
      sections_let = subst SectionsLet (sym (state-step m.visible (after_run h m.omitted)))
          (let-after m.visible old m.visible.kind refl nested (last-is IsOfInstance h m.omitted m.visible of) start inside);
    }

-- WHAT EACH PIECE IS there
abbrev pub FitsThere : State → Kind → Type 0
FitsThere s k = mode_in s ≡ mode.Cdt → Fits k

omitted-fits : (s : State) (c : Context) (o : Piece) (x : Kind) → MayStand c o x → PieceStands s o.kind → FitsThere s o.kind
omitted-fits s c o x (inl m) h = subst (λ (p : Piece). FitsThere s p.kind) (sym m.1) (λ e. tt)
omitted-fits s c o x (inr m) h =
    subst (λ (p : Piece). FitsThere s p.kind) (sym m.1) (λ e. not-con (sym (subst (λ (p : Piece). PieceStands s p.kind) m.1 h).mode ∙ e))

each-fits : (h : History) (x : Kind) (os : List Piece) (v : Piece) → LongestRun h x os → EachIs PieceStands h os v → FitsThere (state (after_run h os)) v.kind → EachIs FitsThere h os v
each-fits h x [] v r e f = f
each-fits h x (o ∷ os) v r e f = (omitted-fits (state h) (context h) o x r.0 e.0, each-fits (o ∷ h) x os v r.1 e.1 f)

move-fits : (I : Input) (h : History) (m : Move) → Reads forms I h m → InInstance I h → EachIs FitsThere h m.omitted m.visible
move-fits I h m r i =
    let s = spelt I h m r in
    each-fits h (kind_noted (state h) s.p.kind) m.omitted m.visible s.longest (read-stands I h m r)
    (λ e. kind-fits (state h).context.doctype.syntax (top (rests I h)) m.visible.size m.visible.kind (visible-in I h m r i e).1)

pub all-fit : (I : Input) (h : History) (ns : List Move) → ReadOn forms I h ns → InInstance I h → Along FitsThere (state h) (pieces ns)
all-fit I h [] r i = tt
all-fit I h (m ∷ ns) r i =
    lifted FitsThere h m.omitted m.visible (pieces ns) (move-fits I h m r.0 i) (all-fit I (moved_on h m) ns r.1 (instance-next I h m r.0 i))

-- THE CHARACTERS that are read are the front of what was unread
moved-top : (rs : List Rest) → top (rest_moved 1 rs) ≡ drop 1 (top rs)
moved-top [] = refl
moved-top (r ∷ rs) = refl

after-byte : (I : Input) (h : History) (v : Piece) (b : ℕ) → v.kind ≡ Char b → v.size ≡ 1 → top (rests I (v ∷ h)) ≡ drop 1 (top (rests I h))
unfolding rests turn
after-byte I h v b e n =
    ap (λ k. top (rest_turned (text_of I.outside (sources (v ∷ h))) (turn k) (rest_moved v.size (rests I h)))) e
    ∙ ap (λ i. top (rest_moved i (rests I h))) n
    ∙ moved-top (rests I h)

no-character : (c : Context) (o : Piece) (x : Kind) (text : Text) → MayStand c o x → with_character o.kind text ≡ []
no-character c o x text (inl m) = ap (λ (p : Piece). with_character p.kind text) m.1
no-character c o x text (inr m) = ap (λ (p : Piece). with_character p.kind text) m.1

visible-front : (x : Syntax) (bytes : Text) (n : ℕ) (k : Kind) (text : Text) → KindInCdata x bytes n k → ((b : ℕ) → k ≡ Char b → n ≡ 1 → Fronts text (drop 1 bytes)) → Fronts (with_character k text) bytes
visible-front x bytes n (Char b) text h f =
    subst (Fronts (b ∷ text)) (sym h.1) (refl, subst (λ bs. Fronts text (drop 1 bs)) h.1 (f b refl h.2))
visible-front x bytes n _ text h f = tt

byte-mode : (v : Piece) (s : State) (b : ℕ) → v.kind ≡ Char b → mode_in (after_piece v s) ≡ mode_in s
unfolding effect declares
byte-mode v s b c = mode-kept v s (Char b) c refl refl

next-front : (I : Input) (h : History) (m : Move) (text : Text) → m.omitted ≡ [] → mode_in (state h) ≡ mode.Cdt
    → (mode_in (state (moved_on h m)) ≡ mode.Cdt → Fronts text (top (rests I (moved_on h m))))
    → (b : ℕ) → m.visible.kind ≡ Char b → m.visible.size ≡ 1 → Fronts text (drop 1 (top (rests I h)))
next-front I h m text k e more b c n =
    let same : moved_on h m ≡ m.visible ∷ h = ap (λ os. m.visible ∷ after_run h os) k in
    subst (Fronts text) (ap (λ g. top (rests I g)) same ∙ after-byte I h m.visible b c n)
    (more (ap (λ g. mode_in (state g)) same ∙ ap mode_in (state-step m.visible h) ∙ byte-mode m.visible (state h) b c ∙ e))

read-by : (I : Input) (h : History) (m : Move) (ps : List Piece) (os : List Piece) → m.omitted ≡ os → Reads forms I h m → InInstance I h → mode_in (state h) ≡ mode.Cdt
    → (mode_in (state (moved_on h m)) ≡ mode.Cdt → Fronts (characters ps) (top (rests I (moved_on h m)))) → Fronts (characters (os ++ (m.visible ∷ ps))) (top (rests I h))
read-by I h m ps (o ∷ os) k r i e more =
    let s = spelt I h m r in
    let run = subst (LongestRun h (kind_noted (state h) s.p.kind)) k s.longest in
    subst (λ t. Fronts t (top (rests I h))) (sym (no-character (context h) o (kind_noted (state h) s.p.kind) (characters (os ++ (m.visible ∷ ps))) run.0)) tt
read-by I h m ps [] k r i e more =
    let v = visible-in I h m r i (subst (λ os. mode_in (state (after_run h os)) ≡ mode.Cdt) (sym k) e) in
    visible-front (state h).context.doctype.syntax (top (rests I h)) m.visible.size m.visible.kind (characters ps) v.1
    (next-front I h m (characters ps) k e more)

read-fronts : (I : Input) (h : History) (ns : List Move) → ReadOn forms I h ns → InInstance I h → mode_in (state h) ≡ mode.Cdt → Fronts (characters (pieces ns)) (top (rests I h))
read-fronts I h [] r i e = tt
read-fronts I h (m ∷ ns) r i e =
    read-by I h m (pieces ns) m.omitted refl r.0 i e (λ c. read-fronts I (moved_on h m) ns r.1 (instance-next I h m r.0 i) c)

-- ALL PIECES
not-over : {A : Type 0} (s : State) → IsOver s → mode_in s ≡ mode.Cdt → A
not-over s o e = not-con (sym (ap (λ (ls : List Level). element_mode s.context.doctype ls) o.closed) ∙ e)

finishes : (k : Kind) → k ≡ Finish → is_finish k ≡ true
unfolding is_finish
finishes k e = ap is_finish e

raw-kind : (x : Syntax) (bytes : Text) (n : ℕ) (z : Bool) (text : Text) (k : Kind) → KindInCdata x bytes n k → StaysInCdata x z text k → (k ≡ Finish → ⊥)
    → ((b : ℕ) → k ≡ Char b → n ≡ 1 → Fronts text (drop 1 bytes)) → IsReadRaw x z text k
raw-kind x bytes n z text (Char b) h stays over f =
    let rest : bytes ≡ b ∷ h.0 = h.1 in
    front-no-tag x b text h.0 (subst (λ bs. Fronts text (drop 1 bs)) rest (f b refl h.2)) (subst (λ bs. begins_end_tag x bs ≡ false) rest h.4)
raw-kind x bytes n z text (Re live) h stays over f = tt
raw-kind x bytes n z text Rs h stays over f = stays
raw-kind x bytes n z text (End name how) h stays over f = tt
raw-kind x bytes n z text EntityEnd h stays over f = absurd stays
raw-kind x bytes n z text Finish h stays over f = absurd (over refl)
raw-kind x bytes n z text _ h stays over f = absurd h

omitted-raw : (s : State) (c : Context) (o : Piece) (x : Kind) (z : Bool) (text : Text) → MayStand c o x → PieceStands s o.kind → mode_in s ≡ mode.Cdt → IsReadRaw s.context.doctype.syntax z text o.kind
omitted-raw s c o x z text (inl m) h e = subst (λ (p : Piece). IsReadRaw s.context.doctype.syntax z text p.kind) (sym m.1) tt
omitted-raw s c o x z text (inr m) h e = not-con (sym (subst (λ (p : Piece). PieceStands s p.kind) m.1 h).mode ∙ e)

abbrev Stay : Bool → State → List Piece → Type 0
Stay z s ps = EachInCdata StaysInCdata z s ps

abbrev Raw : Bool → State → List Piece → Type 0
Raw z s ps = EachInCdata IsReadRaw z s ps

raw-run : (h : History) (x : Kind) (z : Bool) (os : List Piece) (v : Piece) (rest : List Piece) → LongestRun h x os → EachIs PieceStands h os v → Stay z (state h) (os ++ (v ∷ rest))
    → ((y : Bool) → mode_in (state (after_run h os)) ≡ mode.Cdt → let d = (state (after_run h os)).context.doctype in
    StaysInCdata d.syntax y (characters rest) v.kind → IsReadRaw d.syntax y (characters rest) v.kind)
    → (Stay (is_record_end v.kind) (state (v ∷ after_run h os)) rest → Raw (is_record_end v.kind) (state (v ∷ after_run h os)) rest)
    → Raw z (state h) (os ++ (v ∷ rest))
raw-run h x z [] v rest r e s f g = (
  λ m. f z m (s.0 m),
  subst (λ t. Raw (is_record_end v.kind) t rest) (state-step v h) (g (subst (λ t. Stay (is_record_end v.kind) t rest) (sym (state-step v h)) s.1)),
)
raw-run h x z (o ∷ os) v rest r e s f g = (
  λ m. omitted-raw (state h) (context h) o x z (characters (os ++ (v ∷ rest))) r.0 e.0 m,
  subst (λ t. Raw (is_record_end o.kind) t (os ++ (v ∷ rest))) (state-step o h)
      (raw-run (o ∷ h) x (is_record_end o.kind) os v rest r.1 e.1 (subst (λ t. Stay (is_record_end o.kind) t (os ++ (v ∷ rest))) (sym (state-step o h)) s.1) f g),
)

visible-raw : (I : Input) (h : History) (m : Move) (ns : List Move) → ReadOn forms I h (m ∷ ns) → InInstance I h → (y : Bool) → mode_in (state (after_run h m.omitted)) ≡ mode.Cdt
    → let d = (state (after_run h m.omitted)).context.doctype in StaysInCdata d.syntax y (characters (pieces ns)) m.visible.kind → IsReadRaw d.syntax y (characters (pieces ns)) m.visible.kind
visible-raw I h m ns r i y e =
    let s = spelt I h m r.0 in
    let v = visible-in I h m r.0 i e in
    let here = subst (λ os. mode_in (state (after_run h os)) ≡ mode.Cdt) v.0 e in
    let text = characters (pieces ns) in
    subst (λ (d : Doctype). StaysInCdata d.syntax y text m.visible.kind → IsReadRaw d.syntax y text m.visible.kind) (sym (same-type h (kind_noted (state h) s.p.kind) m.omitted s.longest))
    (λ stays. raw-kind (state h).context.doctype.syntax (top (rests I h)) m.visible.size y text m.visible.kind v.1 stays
    (λ f. not-over (state (after_run h m.omitted)) (read-over I h m r.0 (finishes m.visible.kind f)) e)
    (next-front I h m text v.0 here (λ c. read-fronts I (moved_on h m) ns r.1 (instance-next I h m r.0 i) c)))

pub all-read-raw : (I : Input) (h : History) (z : Bool) (ns : List Move) → ReadOn forms I h ns → InInstance I h → Stay z (state h) (pieces ns) → Raw z (state h) (pieces ns)
all-read-raw I h z [] r i s = tt
all-read-raw I h z (m ∷ ns) r i s =
    raw-run h (kind_noted (state h) (spelt I h m r.0).p.kind) z m.omitted m.visible (pieces ns) (spelt I h m r.0).longest (read-stands I h m r.0) s
    (visible-raw I h m ns r i)
    (λ t. all-read-raw I (moved_on h m) (is_record_end m.visible.kind) ns r.1 (instance-next I h m r.0 i) t)

-- and of those before the last
with-front : (k : Kind) (xs ys : Text) → Fronts xs ys → Fronts (with_character k xs) (with_character k ys)
with-front (Char b) xs ys f = (refl, f)
with-front _ xs ys f = tt

characters-front : (ps : List Piece) → Fronts (characters (all_but_last ps)) (characters ps)
characters-front [] = tt
characters-front (p ∷ []) = tt
characters-front (p ∷ q ∷ ps) = with-front p.kind (characters (all_but_last (q ∷ ps))) (characters (q ∷ ps)) (characters-front (q ∷ ps))

shorter : (x : Syntax) (z : Bool) (xs ys : Text) (k : Kind) → Fronts xs ys → IsReadRaw x z ys k → IsReadRaw x z xs k
shorter x z xs ys (Char b) f h = front-no-tag x b xs ys f h
shorter x z xs ys (Re live) f h = tt
shorter x z xs ys Rs f h = h
shorter x z xs ys (End n how) f h = tt
shorter x z xs ys _ f h = absurd h

pub raw-front : (z : Bool) (s : State) (ps : List Piece) → Raw z s ps → Raw z s (all_but_last ps)
raw-front z s [] h = tt
raw-front z s (p ∷ []) h = tt
raw-front z s (p ∷ q ∷ ps) h = (
  λ m. shorter s.context.doctype.syntax z (characters (all_but_last (q ∷ ps))) (characters (q ∷ ps)) p.kind (characters-front (q ∷ ps)) (h.0 m),
  raw-front (is_record_end p.kind) (after_piece p s) (q ∷ ps) h.1,
)
