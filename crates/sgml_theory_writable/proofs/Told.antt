-- What is told of the instance can be written.
use Rattle.std.proofs.Common.{◌≡◌, ℕ, Bool, true, false, not, List, [], ◌∷◌, ◌++◌, map, Option, Some, None, refl, sym, ap, ◌∙◌, subst}
use Rattle.sgml_theory_again.specs.records.Items.{Item, Data as DataItem}
use Rattle.sgml_theory_again.specs.records.Facts.{Facts}
use Rattle.sgml_theory_again.specs.entity.declared.kinds.Body.{Body}
use Rattle.sgml_theory_again.specs.entity.declared.kinds.Body.TheVariants as body
use Rattle.sgml_theory_again.specs.dtd.Doctypes.{Doctype}
use Rattle.sgml_theory_again.specs.theory_reading.Names.{Name, Text}
use Rattle.sgml_theory_again.specs.theory_reading.Types.{body_of}
use Rattle.sgml_theory_again.specs.theory_reading.Pieces.{Piece, Meaning, Ordinary, ToText, ToData, ToExternalData, ToInstruction, Kind, Sgml, Head, Declare, SubsetEnd, Start, End, Char, Data, DataRef, ShortRef, Pi, History}
use Rattle.sgml_theory_again.specs.theory_reading.Facets.{byte_item, start_item, items_of, declares}
use Rattle.sgml_theory_again.specs.theory_reading.Context.{context_after}
use Rattle.sgml_theory_again.specs.theory_reading.Runs.{after_run}
use Rattle.sgml_theory_again.specs.theory_reading.Unread.{Input, opening}
use Rattle.sgml_theory_again.specs.theory_reading.State.{State, state, after_piece}
use Rattle.sgml_theory_again.specs.theory_reading.Characters.{facts_in}
use Rattle.sgml_theory_again.specs.theory_reading.Reads.{Move, Reads, ReadOn, ReadsFromStart, moved_on, after_moves, read_by, pieces}
use Rattle.sgml_theory_again.specs.theory_reading.Events.{Byte, External, Instruction, Shown, ended_at_once, body_events, silent, shown_byte, shown_bytes, shown_data, shown_external, shown_instruction, shown_meaning, shown, releases_by, told_item_by, noted_option, told_by, events_at, events_of_run}
use Rattle.sgml_theory_again.proofs.theory_reading.Steps.{state-step}
use Rattle.sgml_theory_again.specs.theory_spelling.Attributes.{valued}
use Rattle.sgml_theory_again.specs.theory_spelling.Spelled.{forms}
use Rattle.sgml_theory_again.specs.sgml_theory_full.Named.{AllAre, IsGeneralName, is_external_data, AttributeIsWritten, IsWritten}
use Rattle.sgml_theory_again.specs.Moves.{Along}
use Rattle.sgml_theory_again.specs.sgml_theory_full.Standing.{PieceStands}
use Rattle.sgml_theory_again.specs.Names.{HasNames}
use Rattle.sgml_theory_again.specs.Content.{HasCome, IsReferred, is_data_body, ReferredIs, IsInstructionOf, IsMapped, IsOfInstance}
use Rattle.sgml_theory_again.specs.Laws.{ReadPiecesStand, ReadIsOfInstance, InstanceGoesOn, ReadHasNames, ReferredIsEntity}
use Rattle.sgml_theory_writable.specs.Spelled.{IsSpelledSo}
use Rattle.sgml_theory_writable.specs.Laws.{ReadAttributesAreWritten, MayBeSpelled, ReadIsWritten}
use Rattle.sgml_theory_writable.proofs.Basics.{either, all-append}
use Rattle.sgml_theory_writable.proofs.Reading.{read-stood}

-- A PIECE of the instance, as it is read
record Ready (s : State) (k : Kind) : Type 0 where
  names : HasNames s.context.doctype
  so : IsSpelledSo s.context.doctype k
  stands : PieceStands s k
  of_instance : IsOfInstance s k
  attributes : AllAre (AttributeIsWritten s.context.doctype) (valued s k)

-- WHAT IT SHOWS
abbrev ShownIsWritten : Doctype → Shown → Type 0
ShownIsWritten d x = AllAre (IsWritten d) x.events

silent-written : (d : Doctype) (is : List Item) → AllAre (ShownIsWritten d) (silent is)
silent-written d [] = tt
silent-written d (i ∷ is) = (tt, silent-written d is)

ended-written : (d : Doctype) (n : Name) (b : Bool) → IsGeneralName d.syntax n → AllAre (IsWritten d) (ended_at_once n b)
ended-written d n true name = (name, tt)
ended-written d n false name = tt

bytes-written : (d : Doctype) (text : Text) → AllAre (IsWritten d) (map (λ b. Byte b) text)
bytes-written d [] = tt
bytes-written d (b ∷ text) = (tt, bytes-written d text)

module _ (entities : ReferredIsEntity) (d : Doctype) (names : HasNames d) where
  body-written : (e : ℕ) (b : Body) → IsReferred d e b → AllAre (IsWritten d) (body_events e (Some b))
  body-written e (body.Cdata text) r = bytes-written d text
  body-written e (body.Sdata text) r = (entities d e (body.Sdata text) names r, tt)
  body-written e (body.Sgml text) r = tt
  body-written e (body.Pi text) r = tt
  body-written e (body.External external) r = tt
  body-written e (body.ExternalData kind external notation) r = tt

  data-written : (e : ℕ) → ReferredIs d e is_data_body → AllAre (IsWritten d) (body_events e (body_of d e))
  data-written e r = subst (λ o. AllAre (IsWritten d) (body_events e o)) (sym r.referred.body_is) (body-written e r.b r.referred)

  external-written : (e : ℕ) → ReferredIs d e is_external_data → IsWritten d (External e)
  external-written e r = record { b = r.b; is = entities d e r.b names r.referred; external = r.passes }

  instruction-written : (text : Text) (e : ℕ) → IsInstructionOf d text e → IsWritten d (Instruction text (Some e))
  instruction-written text e q = (entities d e (body.Pi text) names q.0, ap not q.1)

-- a short reference
byte-written : (d : Doctype) (b : ℕ) (item : Item) → ShownIsWritten d (shown_byte b item)
byte-written d b DataItem = (tt, tt)
byte-written d b _ = tt

string-written : (d : Doctype) (string : Text) → AllAre (ShownIsWritten d) (shown_bytes string)
string-written d [] = tt
string-written d (b ∷ bs) = (byte-written d b (byte_item b), string-written d bs)

behind-start : (d : Doctype) (string : Text) (x : Shown) → ShownIsWritten d x → AllAre (ShownIsWritten d) (silent (start_item string) ++ x ∷ [])
behind-start d string x h =
    all-append (ShownIsWritten d) (silent (start_item string)) (x ∷ []) (silent-written d (start_item string)) (h, tt)

meaning-written : ReferredIsEntity → (d : Doctype) → HasNames d → (string : Text) (meaning : Meaning) → IsMapped d meaning → AllAre (ShownIsWritten d) (shown_meaning d string meaning)
meaning-written entities d names string (Ordinary true content) a = string-written d string
meaning-written entities d names string (Ordinary false content) a = tt
meaning-written entities d names string (ToText e) a = silent-written d (start_item string)
meaning-written entities d names string (ToData e) a = behind-start d string (shown_data d e) (data-written entities d names e a)
meaning-written entities d names string (ToExternalData e) a = behind-start d string (shown_external e) (external-written entities d names e a, tt)
meaning-written entities d names string (ToInstruction e text) a =
    behind-start d string (shown_instruction text (Some e)) (instruction-written entities d names text e a, tt)

shown-written : ReferredIsEntity → (s : State) (k : Kind) → Ready s k → AllAre MayBeSpelled (told_by (facts_in s.record_ends) (shown forms s k))
    → AllAre (ShownIsWritten s.context.doctype) (shown forms s k)
unfolding shown
shown-written entities s (Start n ss how proper at_once) r m =
    let name = r.names.types n r.stands.known in
    (((name, r.attributes), ended-written s.context.doctype n at_once name), tt)
shown-written entities s (End n how) r m = ((r.names.types n r.stands.known, tt), tt)
shown-written entities s (Char b) r m = ((tt, tt), tt)
shown-written entities s (Data e) r m = (data-written entities s.context.doctype r.names e r.of_instance, tt)
shown-written entities s (DataRef e) r m = ((external-written entities s.context.doctype r.names e r.of_instance.1, tt), tt)
shown-written entities s (Pi text None) r m =
    ((record { paired = m.0; unended = r.so.unended; sgml = r.so.sgml; short = r.so.short }, tt), tt)
shown-written entities s (Pi text (Some e)) r m = ((instruction-written entities s.context.doctype r.names text e r.of_instance.1, tt), tt)
shown-written entities s (ShortRef string meaning) r m = meaning-written entities s.context.doctype r.names string meaning r.of_instance.1
shown-written entities s (Sgml syntax) r m = absurd r.of_instance
shown-written entities s (Head head base) r m = absurd r.of_instance
shown-written entities s (Declare lexemes says base) r m = absurd r.of_instance
shown-written entities s (SubsetEnd reads) r m = absurd r.of_instance
shown-written entities s k r m = silent-written s.context.doctype (items_of k)

-- WHAT IT TELLS, with record ends that are put out before
item-written : (d : Doctype) (f : Facts) (o : Option Item) → AllAre (IsWritten d) (told_item_by f o)
item-written d f None = tt
item-written d f (Some item) = either (AllAre (IsWritten d)) (releases_by f item) (Byte 13 ∷ []) [] (tt, tt) tt

told-written : (d : Doctype) (f : Facts) (xs : List Shown) → AllAre (ShownIsWritten d) xs → AllAre (IsWritten d) (told_by f xs)
told-written d f [] a = tt
told-written d f (x ∷ xs) a =
    all-append (IsWritten d) (told_item_by f x.item ++ x.events) (told_by (noted_option f x.item) xs)
    (all-append (IsWritten d) (told_item_by f x.item) x.events (item-written d f x.item) a.0) (told-written d (noted_option f x.item) xs a.1)

all-parts : {A : Type 0} (P : A → Type 0) (xs ys : List A) → AllAre P (xs ++ ys) → AllAre P xs × AllAre P ys
all-parts P [] ys a = (tt, a)
all-parts P (x ∷ xs) ys a = let q = all-parts P xs ys a.1 in ((a.0, q.0), q.1)

-- ALL PIECES: the document type stays
same-declared : (d : Doctype) (s : State) (k : Kind) → IsOfInstance s k → declares k d ≡ d
unfolding declares
same-declared d s (Sgml syntax) a = absurd a
same-declared d s (Head head base) a = absurd a
same-declared d s (Declare lexemes says base) a = absurd a
same-declared d s k a = refl

same-after : (p : Piece) (s : State) → IsOfInstance s p.kind → (after_piece p s).context.doctype ≡ s.context.doctype
unfolding after_piece context_after
same-after p s a = same-declared s.context.doctype s p.kind a

run-written : ReferredIsEntity → (s : State) (ps : List Piece) (d : Doctype) → Along Ready s ps → s.context.doctype ≡ d
    → AllAre MayBeSpelled (events_of_run forms s ps) → AllAre (IsWritten d) (events_of_run forms s ps)
run-written entities s [] d a same m = tt
run-written entities s (p ∷ ps) d a same m =
    let q = all-parts MayBeSpelled (events_at forms s p) (events_of_run forms (after_piece p s) ps) m in
    all-append (IsWritten d) (events_at forms s p) (events_of_run forms (after_piece p s) ps)
    (subst (λ e. AllAre (IsWritten e) (events_at forms s p)) same
    (told-written s.context.doctype (facts_in s.record_ends) (shown forms s p.kind) (shown-written entities s p.kind a.0 q.0)))
    (run-written entities (after_piece p s) ps d a.1 (same-after p s a.0.of_instance ∙ same) q.1)

-- EACH PIECE of the moves
abbrev EachIs : (State → Kind → Type 0) → History → List Piece → Piece → Type 0
EachIs P h [] v = P (state h) v.kind
EachIs P h (o ∷ os) v = P (state h) o.kind × EachIs P (o ∷ h) os v

each-from : (P : State → Kind → Type 0) (h : History) (os : List Piece) (v : Piece)
    → ((before after : List Piece) (p : Piece) → os ++ (v ∷ []) ≡ before ++ (p ∷ after) → P (state (after_run h before)) p.kind) → EachIs P h os v
each-from P h [] v f = f [] [] v refl
each-from P h (o ∷ os) v f =
    (f [] (os ++ (v ∷ [])) o refl, each-from P (o ∷ h) os v (λ before after p e. f (o ∷ before) after p (ap (λ qs. o ∷ qs) e)))

lifted : (P : State → Kind → Type 0) (h : History) (os : List Piece) (v : Piece) (rest : List Piece) → EachIs P h os v → Along P (state (v ∷ after_run h os)) rest
    → Along P (state h) (os ++ (v ∷ rest))
lifted P h [] v rest e a = (e, subst (λ s. Along P s rest) (state-step v h) a)
lifted P h (o ∷ os) v rest e a = (e.0, subst (λ s. Along P s (os ++ (v ∷ rest))) (state-step o h) (lifted P (o ∷ h) os v rest e.1 a))

on-append : (I : Input) (h : History) (ms : List Move) (m : Move) → ReadOn forms I h ms → Reads forms I (after_moves h ms) m → ReadOn forms I h (ms ++ (m ∷ []))
on-append I h [] m a r = (r, tt)
on-append I h (k ∷ ms) m a r = (a.0, on-append I (moved_on h k) ms m a.1 r)

after-append : (h : History) (ms : List Move) (m : Move) → after_moves h (ms ++ (m ∷ [])) ≡ moved_on (after_moves h ms) m
after-append h [] m = refl
after-append h (k ∷ ms) m = after-append (moved_on h k) ms m

-- the laws that it stands on
pub record Laws : Type 0 where
  pub names : ReadHasNames
  pub entities : ReferredIsEntity
  pub stand : ReadPiecesStand
  pub of_instance : ReadIsOfInstance
  pub goes_on : InstanceGoesOn
  pub attributes : ReadAttributesAreWritten

module _ (laws : Laws) where
  ready : (I : Input) (ms : List Move) (m : Move) → ReadsFromStart forms I ms → HasCome I (read_by I ms) → Reads forms I (read_by I ms) m
      → (before after : List Piece) (p : Piece) → m.omitted ++ (m.visible ∷ []) ≡ before ++ (p ∷ after) → Ready (state (after_run (read_by I ms) before)) p.kind
  ready I ms m reads come next before after p is =
      let s = read-stood laws.names I ms m before p reads next (after, is) in
      record {
        names = s.names;
        so = s.so;
        stands = laws.stand I (read_by I ms) m before p next (after, is);
        of_instance = laws.of_instance I ms m before p reads come next (after, is);
        attributes = laws.attributes I ms m before p reads next (after, is);
      }

  all-ready : (I : Input) (ms ns : List Move) → ReadsFromStart forms I ms → HasCome I (read_by I ms) → ReadOn forms I (read_by I ms) ns
      → Along Ready (state (read_by I ms)) (pieces ns)
  all-ready I ms [] reads come on = tt
  all-ready I ms (m ∷ ns) reads come on =
      let h = read_by I ms in
      let is : read_by I (ms ++ (m ∷ [])) ≡ moved_on h m = after-append (opening I.outside) ms m in
      let more : Along Ready (state (read_by I (ms ++ (m ∷ [])))) (pieces ns) =
      all-ready I (ms ++ (m ∷ [])) ns (on-append I (opening I.outside) ms m reads on.0)
      (subst (HasCome I) (sym is) (laws.goes_on I ms m reads come on.0))
      (subst (λ k. ReadOn forms I k ns) (sym is) on.1) in
      lifted Ready h m.omitted m.visible (pieces ns) (each-from Ready h m.omitted m.visible (ready I ms m reads come on.0))
      (subst (λ k. Along Ready (state k) (pieces ns)) is more)

  pub read-is-written : ReadIsWritten
  read-is-written I ms ns reads come on m =
      run-written laws.entities (state (read_by I ms)) (pieces ns) (state (read_by I ms)).context.doctype (all-ready I ms ns reads come on) refl m
