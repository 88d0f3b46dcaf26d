-- From one kind of each visible piece to all of them.
use Rattle.std.proofs.Common.{◌≡◌, ℕ, ◌-◌, ◌<◌, ◌≤◌, ◌++◌, All, map, reverse, drop, length, arith, Bool, true, false, ◌||◌, inl, inr, List, [], ◌∷◌, Option, Some, None, refl, sym, ap, ◌∙◌, subst}
use Rattle.std.proofs.lemmas.List.Elements.{All-map, All-drop}
use Rattle.sgml_text.specs.declared.reason.Reason.{Reason}
use Rattle.sgml_dtd_elements.specs.Types.{ElementType}
use Rattle.sgml_dtd_elements.specs.Laws.{AreDistinct}
use Rattle.sgml_dtd.specs.Doctypes.{Doctype}
use Rattle.sgml_theory_reading.specs.Names.{Name}
use Rattle.sgml_theory_reading.specs.Types.{type_of, content_of}
use Rattle.sgml_theory_reading.specs.Pieces.{Piece, Kind, Sgml, Head, Declare, SubsetEnd, Start, End, Char, Data, DataRef, Re, Rs, Sep, ShortRef, Ref, EntityEnd, SectionStart, SectionEnd, Skipped, Pi, Comment, UseMap, Finish, How, Tag, Short, Slash, Net, Omitted, Specification, History}
use Rattle.sgml_theory_reading.specs.Facets.{Token, Pcdata, token, Stays, effect, effect_of_start, is_slash, is_omitted_how, declares, is_start, is_omitted_start}
use Rattle.sgml_theory_reading.specs.Context.{Level, Context, context, context_after, levels_after, levels_with, begun_level, token_taken}
use Rattle.sgml_theory_reading.specs.Omission.{MayStand, leaves, leaves_as, misfits, inside_of_ended, ended_by, depth}
use Rattle.sgml_theory_reading.specs.Runs.{LongestRun, LongestRunFrom, context_after_run, after_run}
use Rattle.sgml_theory_reading.specs.Reasons.{reason, reason_by_token, content_reason, Stands}
use Rattle.sgml_theory_reading.proofs.Contexts.{context-step}
use Rattle.sgml_theory_reading.proofs.Runs.{run-of-history, context-of-history}
use Rattle.sgml_theory_reading.specs.Characters.{is_void, ends_at_once}
use Rattle.sgml_theory_reading.specs.Reads.{is_proper_in, judged}
use Rattle.sgml_infer.specs.Tables.{name_at, type_at, IsNumber}
use Rattle.sgml_infer.specs.declared.level.Level.{Level as Place}
use Rattle.sgml_infer.specs.declared.visible.Visible.{Visible}
use Rattle.sgml_infer.specs.declared.visible.Visible.TheVariants as visible
use Rattle.sgml_infer.specs.declared.visible.Chain.{Chain}
use Rattle.sgml_infer.specs.declared.tree.Tree.{Tree}
use Rattle.sgml_infer.specs.Trees.{context_in, open_levels, IsLevel, StandsFor}
use Rattle.sgml_infer.specs.Seen.{started, ended, ending, seen_in}
use Rattle.sgml_infer.specs.Visibles.{left_out, after_left_out, after_judged, IsJudged, IsRefusedIn, Accepts, Refuses, HasRoomFor, IsNumbered, IsWritten, IsVisible, plain, accepted, accepted_piece, is_included_start, kind_of}
use Rattle.sgml_infer.proofs.Declared.{said-of}
use Rattle.sgml_infer.proofs.Points.{run-append}
use Rattle.sgml_infer.proofs.Behind.{all-reversed}
use Rattle.sgml_infer.proofs.Running.{ends-are}

abbrev pub at : Doctype → List Level → Bool → Bool → Context
at d ls b i = record { doctype = d; levels = ls; begun = b; inferred = i }

-- THE SAME OF TWO KINDS

-- they ask the same, and they do the same
pub record SameKind (x y : Kind) : Type 0 where
  pub leaves : (s : Context) → leaves s x ≡ leaves s y
  pub misfits : (s : Context) → misfits s (token x) ≡ misfits s (token y)
  pub reason : (s : Context) → reason s x ≡ reason s y

by-tokens : (x y : Kind) (k : Token) → token x ≡ Some k → token y ≡ Some k → is_start x ≡ is_start y → SameKind x y
unfolding leaves reason
by-tokens x y k p q r = record {
  leaves = λ s. ap (leaves_as s x) p ∙ sym (ap (leaves_as s y) q);
  misfits = λ s. ap (misfits s) (p ∙ sym q);
  reason = λ s. ap (reason_by_token s x) p ∙ (ap (content_reason s k) r ∙ sym (ap (reason_by_token s y) q));
}

same-kind : (x : Kind) → SameKind x x
same-kind x = record { leaves = λ s. refl; misfits = λ s. refl; reason = λ s. refl }

by-short : (n m : Name) → SameKind (End n Short) (End m Short)
unfolding leaves reason inside_of_ended token
by-short n m = record { leaves = λ s. refl; misfits = λ s. refl; reason = λ s. refl }

by-net : (n m : Name) → SameKind (End n Net) (End m Net)
unfolding leaves reason inside_of_ended token
by-net n m = record { leaves = λ s. refl; misfits = λ s. refl; reason = λ s. refl }

start-token : (n : Name) (ss : List Specification) (how : How) (p o : Bool) → token (Start n ss how p o) ≡ Some (Some n)
unfolding token
start-token n ss how p o = refl

start-starts : (n : Name) (ss : List Specification) (how : How) (p o : Bool) → is_start (Start n ss how p o) ≡ true
unfolding is_start
start-starts n ss how p o = refl

-- content that is #PCDATA stays where it stands, and begins and declares nothing
pub record IsText (x : Kind) : Type 0 where
  pub stays : effect x ≡ Stays
  pub not_start : is_start x ≡ false
  pub not_omitted : is_omitted_start x ≡ false
  pub nothing : (d : Doctype) → declares x d ≡ d

text-is : (x : Kind) → token x ≡ Some Pcdata → IsText x
unfolding token effect is_start is_omitted_start declares
text-is (Sgml s) h = cc
text-is (Head head base) h = cc
text-is (Declare ls s b) h = cc
text-is (SubsetEnd r) h = cc
text-is (Start n ss how p o) h = cc
text-is (End n how) h = cc
text-is (Char b) h = record { stays = refl; not_start = refl; not_omitted = refl; nothing = λ d. refl }
text-is (Data e) h = record { stays = refl; not_start = refl; not_omitted = refl; nothing = λ d. refl }
text-is (DataRef e) h = record { stays = refl; not_start = refl; not_omitted = refl; nothing = λ d. refl }
text-is (Re live) h = record { stays = refl; not_start = refl; not_omitted = refl; nothing = λ d. refl }
text-is Rs h = cc
text-is (Sep b) h = cc
text-is (ShortRef s m) h = record { stays = refl; not_start = refl; not_omitted = refl; nothing = λ d. refl }
text-is (Ref e) h = cc
text-is EntityEnd h = cc
text-is (SectionStart s) h = cc
text-is SectionEnd h = cc
text-is (Skipped b) h = cc
text-is (Pi t e) h = cc
text-is Comment h = cc
text-is (UseMap m) h = cc
text-is Finish h = cc

char-token : token (Char 0) ≡ Some Pcdata
unfolding token
char-token = refl

char-is : IsText (Char 0)
char-is = text-is (Char 0) char-token

pub visible-same : (t : Doctype) (v : Visible) (x : Kind) → IsVisible t v x → SameKind (kind_of t v) x
visible-same t (visible.Start i) x w =
    subst (SameKind (kind_of t (visible.Start i))) (sym w.is)
    (by-tokens (kind_of t (visible.Start i)) (Start (name_at t i) w.specifications w.how w.proper w.at_once) (Some (name_at t i)) (start-token (name_at t i) [] Tag true (is_void (content_of (type_at t i)))) (start-token (name_at t i) w.specifications w.how w.proper w.at_once)
    (start-starts (name_at t i) [] Tag true (is_void (content_of (type_at t i))) ∙ sym (start-starts (name_at t i) w.specifications w.how w.proper w.at_once)))
visible-same t visible.Chars x w = by-tokens (Char 0) x Pcdata char-token w (char-is.not_start ∙ sym (text-is x w).not_start)
visible-same t (visible.EndTag i) x w = subst (SameKind (End (name_at t i) Tag)) (sym w) (same-kind (End (name_at t i) Tag))
visible-same t visible.EndCurrent x w = subst (SameKind (End [] Short)) (sym w.1) (by-short [] w.0)
visible-same t visible.Net x w = subst (SameKind (End [] Net)) (sym w.1) (by-net [] w.0)
visible-same t visible.EndDocument x w = subst (SameKind Finish) (sym w) (same-kind Finish)

module _ (x y : Kind) (q : SameKind x y) where
  may-kind : (s : Context) (o : Piece) → MayStand s o x → MayStand s o y
  may-kind s o (inl m) = inl (
    m.0,
    m.1,
    record {
      omits = m.2.omits;
      of_innermost = m.2.of_innermost;
      is_finished = m.2.is_finished;
      has_o = m.2.has_o;
      before = sym (q.leaves s) ∙ m.2.before;
    },
  )
  may-kind s o (inr m) = inr (
    m.0,
    m.1,
    record {
      omits = m.2.omits;
      before = sym (q.misfits s) ∙ m.2.before;
      is_unfinished = m.2.is_unfinished;
      is_required = m.2.is_required;
      declared = m.2.declared;
      not_excluded = m.2.not_excluded;
      has_o = m.2.has_o;
      no_required_attribute = m.2.no_required_attribute;
      no_declared_content = m.2.no_declared_content;
      room = m.2.room;
    },
  )

back : (x y : Kind) → SameKind x y → SameKind y x
back x y q = record { leaves = λ s. sym (q.leaves s); misfits = λ s. sym (q.misfits s); reason = λ s. sym (q.reason s) }

run-kind : (x y : Kind) → SameKind x y → (os : List Piece) (s : Context) → LongestRunFrom s x os → LongestRunFrom s y os
run-kind x y q [] s n = λ o m. n o (may-kind y x (back x y q) s o m)
run-kind x y q (o ∷ os) s m = (may-kind x y q s o m.0, run-kind x y q os (context_after o s) m.1)

-- WHAT A VISIBLE PIECE DOES

-- two kinds that do the same to the open elements
does-same : (p q : Piece) (c : Context) → declares p.kind c.doctype ≡ declares q.kind c.doctype →
    levels_after c.doctype (effect p.kind) p.kind c.levels ≡ levels_after c.doctype (effect q.kind) q.kind c.levels → is_start p.kind ≡ is_start q.kind → is_omitted_start p.kind ≡ is_omitted_start q.kind →
    context_after p c ≡ context_after q c
unfolding context_after
does-same p q c u l s o = λ i. record { doctype = u i; levels = l i; begun = s i || c.begun; inferred = o i }

abbrev pub bare : Kind → Piece
bare k = record { kind = k; size = 0; spent = 0 }

module _ (c : Context) where
  text-does : (x y : Kind) → token x ≡ token y → IsText x → IsText y → context_after (bare x) c ≡ context_after (bare y) c
  text-does x y h p q = does-same (bare x) (bare y) c (p.nothing c.doctype ∙ sym (q.nothing c.doctype))
      ((λ i. levels_after c.doctype (p.stays i) x c.levels) ∙ (with-same c.levels ∙ (λ i. levels_after c.doctype (sym q.stays i) y c.levels)))
      (p.not_start ∙ sym q.not_start) (p.not_omitted ∙ sym q.not_omitted)
    where
      with-same : (ls : List Level) → levels_after c.doctype Stays x ls ≡ levels_after c.doctype Stays y ls
      with-same [] = refl
      with-same (l ∷ ls) = ap (λ o. one o) h
        where
          one : Option Token → List Level
          one o = record { element = l.element; left = token_taken o l.left; slash = l.slash } ∷ ls

  with-token : (x y : Kind) (k : Token) → token x ≡ Some k → token y ≡ Some k → (ls : List Level) → levels_with x ls ≡ levels_with y ls
  with-token x y k p q [] = refl
  with-token x y k p q (l ∷ ls) = ap (λ o. one o) (p ∙ sym q)
    where
      one : Option Token → List Level
      one o = record { element = l.element; left = token_taken o l.left; slash = l.slash } ∷ ls

  start-levels : (x y : Kind) (n : Name) (how : How) (o : Bool) → is_slash how ≡ false → levels_with x c.levels ≡ levels_with y c.levels →
      levels_after c.doctype (effect_of_start n Tag o) x c.levels ≡ levels_after c.doctype (effect_of_start n how o) y c.levels
  start-levels x y n how true h w = w
  start-levels x y n how false h w = λ i. begun_level c.doctype n (sym h i) ∷ w i

  start-does : (n : Name) (ss : List Specification) (how : How) (p q o : Bool) → is_slash how ≡ false → is_omitted_how how ≡ false → context_after (bare (Start n [] Tag p o)) c ≡ context_after (bare (Start n ss how q o)) c
  unfolding effect is_start is_omitted_start declares
  start-does n ss how p q o h g =
      does-same (bare (Start n [] Tag p o)) (bare (Start n ss how q o)) c refl
      (start-levels (Start n [] Tag p o) (Start n ss how q o) n how o h (with-token (Start n [] Tag p o) (Start n ss how q o) (Some n) (start-token n [] Tag p o) (start-token n ss how q o) c.levels))
      refl (sym g)

  end-does : (n m : Name) (how : How) → context_after (bare (End n how)) c ≡ context_after (bare (End m how)) c
  unfolding context_after effect is_start is_omitted_start declares
  end-does n m how = refl

plain-slash : (how : How) → IsWritten how → is_slash (plain how) ≡ false
plain-slash Tag w = refl
plain-slash Short w = refl
plain-slash Slash w = refl
plain-slash Net w = refl
plain-slash Omitted w = absurd w

plain-omitted : (how : How) → IsWritten how → is_omitted_how (plain how) ≡ false
plain-omitted Tag w = refl
plain-omitted Short w = refl
plain-omitted Slash w = refl
plain-omitted Net w = refl
plain-omitted Omitted w = absurd w

accepted-other : (s : Context) (k : Kind) → is_start k ≡ false → accepted s k ≡ k
unfolding is_start
accepted-other s (Start n ss how q o) h = cc
accepted-other s _ h = refl

not-included : (s : Context) (k : Kind) → is_start k ≡ false → false ≡ is_included_start s k
unfolding is_start
not-included s (Start n ss how q o) h = cc
not-included s _ h = refl

accepted-text : (s : Context) (x : Kind) → IsText x → accepted s x ≡ x
accepted-text s x p = accepted-other s x p.not_start

-- the visible piece as it is accepted does what the one kind of it does
pub accepted-does : (t : Doctype) (v : Visible) (x : Kind) (d : Doctype) (ls : List Level) (b i : Bool) → IsVisible t v x → ((k : ℕ) → IsNumber t k → type_of d (name_at t k) ≡ type_at t k) → IsNumbered t v →
    context_after (bare (kind_of t v)) (at d ls b i) ≡ context_after (bare (accepted (at d ls b i) x)) (at d ls b i)
accepted-does t (visible.Start j) x d ls b i w f n =
    let c = at d ls b i in
    ap (λ (e : ElementType). context_after (bare (Start (name_at t j) [] Tag true (is_void (content_of e)))) c) (sym (f j n))
    ∙ (start-does c (name_at t j) w.specifications (plain w.how) true (is_proper_in c ls (Some (name_at t j))) (is_void (content_of (type_of d (name_at t j)))) (plain-slash w.how w.written) (plain-omitted w.how w.written)
    ∙ ap (λ (k : Kind). context_after (bare (accepted c k)) c) (sym w.is))
accepted-does t visible.Chars x d ls b i w f n =
    let c = at d ls b i in
    text-does c (Char 0) x (char-token ∙ sym w) char-is (text-is x w) ∙ ap (λ (k : Kind). context_after (bare k) c) (sym (accepted-text c x (text-is x w)))
accepted-does t (visible.EndTag j) x d ls b i w f n = let c = at d ls b i in ap (λ (k : Kind). context_after (bare (accepted c k)) c) (sym w)
accepted-does t visible.EndCurrent x d ls b i w f n = let c = at d ls b i in end-does c [] w.0 Short ∙ ap (λ (k : Kind). context_after (bare (accepted c k)) c) (sym w.1)
accepted-does t visible.Net x d ls b i w f n = let c = at d ls b i in end-does c [] w.0 Net ∙ ap (λ (k : Kind). context_after (bare (accepted c k)) c) (sym w.1)
accepted-does t visible.EndDocument x d ls b i w f n = let c = at d ls b i in ap (λ (k : Kind). context_after (bare (accepted c k)) c) (sym w)

included-same : (t : Doctype) (v : Visible) (x : Kind) (s : Context) → IsVisible t v x → is_included_start s (kind_of t v) ≡ is_included_start s x
included-same t (visible.Start j) x s w = ap (is_included_start s) (sym w.is)
included-same t visible.Chars x s w = not-included s x (text-is x w).not_start
included-same t (visible.EndTag j) x s w = ap (is_included_start s) (sym w)
included-same t visible.EndCurrent x s w = ap (is_included_start s) (sym w.1)
included-same t visible.Net x s w = ap (is_included_start s) (sym w.1)
included-same t visible.EndDocument x s w = ap (is_included_start s) (sym w)

size-free : (p : Piece) (c : Context) → context_after p c ≡ context_after (bare p.kind) c
unfolding context_after
size-free p c = refl

-- the one kind may be the visible piece
pub own-visible : (t : Doctype) (v : Visible) → IsVisible t v (kind_of t v)
own-visible t (visible.Start i) = record { specifications = []; how = Tag; proper = true; at_once = is_void (content_of (type_at t i)); written = tt; is = refl }
own-visible t visible.Chars = char-token
own-visible t (visible.EndTag i) = refl
own-visible t visible.EndCurrent = ([], refl)
own-visible t visible.Net = ([], refl)
own-visible t visible.EndDocument = refl

-- THE RUN, THE REASON AND HOW IT FITS, of each kind that it may be, where s is what is known after the run
module _ (t : Doctype) (v : Visible) (os : List Piece) (c s : Context) (h : context_after_run c os ≡ s) where
  pub longest-of-all : LongestRunFrom c (kind_of t v) os → (k : Kind) → IsVisible t v k → LongestRunFrom c k os
  longest-of-all run k q = run-kind (kind_of t v) k (visible-same t v k q) os c run

  pub reason-of-all : (r : Option Reason) → r ≡ reason s (kind_of t v) → (k : Kind) → IsVisible t v k → reason (context_after_run c os) k ≡ r
  reason-of-all r e k q = ap (λ (x : Context). reason x k) h ∙ sym (e ∙ (visible-same t v k q).reason s)

  pub included-of-all : (r : Bool) → r ≡ is_included_start s (kind_of t v) → (k : Kind) → IsVisible t v k → r ≡ is_included_start (context_after_run c os) k
  included-of-all r e k q = e ∙ (included-same t v k s q ∙ ap (λ (x : Context). is_included_start x k) (sym h))

-- WHAT IT DOES, as it is accepted
pub takes-here : (t : Doctype) (v : Visible) (p : Piece) (s : Context) → IsVisible t v p.kind → AreDistinct t.elements → IsNumbered t v → s.doctype ≡ t →
    context_after (bare (kind_of t v)) s ≡ context_after (accepted_piece s p) s
takes-here t v p s q distinct n e =
    accepted-does t v p.kind s.doctype s.levels s.begun s.inferred q (λ k m. subst (λ (d : Doctype). type_of d (name_at t k) ≡ type_at t k) (sym e) (said-of t k distinct m)) n
    ∙ sym (size-free (accepted_piece s p) s)

-- what is known after the run that a tree has left out
pub left-out-is : (t : Doctype) (tree : Tree) (k : ℕ) → k ≤ length (open_levels tree) → tree.ended.items ≡ ending (open_levels tree) k →
    after_left_out t tree ≡ seen_in t tree k tree.starts.items
left-out-is t tree k h e =
    ap (λ (ns : List ℕ). context_after_run (context_in t tree) (ended t ns ++ started t tree.starts.items)) e
    ∙ (run-append (context_in t tree) (ended t (ending (open_levels tree) k)) (started t tree.starts.items)
    ∙ ap (λ (c : Context). context_after_run c (started t tree.starts.items)) (ends-are t (open_levels tree) tree.begun (length (open_levels tree) - k) k (omega (arith, h))))

-- the elements that end are of the tables
level-numbers : (t : Doctype) (ls : List Place) → All (IsLevel t) ls → All (IsNumber t) (map (λ (l : Place). l.element) ls)
level-numbers t ls a = All-map (IsNumber t) (λ (l : Place). l.element) ls (λ k d h. (a k d h).number)

pub ended-numbers : (t : Doctype) (ls : List Place) (k : ℕ) → All (IsLevel t) ls → All (IsNumber t) (ending ls k)
ended-numbers t ls k a = level-numbers t (reverse (drop k ls)) (all-reversed t (drop k ls) (All-drop (IsLevel t) k ls a))

-- OF WHAT WAS READ
module _ (t : Doctype) (h : History) (old : Tree) (stood : StandsFor t old h) where
  pub accepts-here : (v : Visible) (p : Piece) (chain : Chain) (mid new : Tree) → IsVisible t v p.kind → IsJudged t mid v chain → context_in t mid ≡ context_in t old →
      context_in t new ≡ after_judged t mid p → left_out t new ≡ left_out t mid → Accepts t h p chain new
  accepts-here v p chain mid new q j c e same =
      let os = left_out t mid in
      let stood-mid : context h ≡ context_in t mid = stood ∙ sym c in
      let f : context (after_run h os) ≡ after_left_out t mid = context-of-history h (context_in t mid) os stood-mid in
      record {
        longest = subst (λ (ps : List Piece). LongestRun h p.kind ps) (sym same) (run-of-history h (context_in t mid) p.kind os stood-mid (j.longest p.kind q));
        no_reason = subst (λ (ps : List Piece). reason (context (after_run h ps)) p.kind ≡ None) (sym same) (ap (λ (s : Context). reason s p.kind) f ∙ j.no_reason p.kind q);
        stands = subst (λ (ps : List Piece). StandsFor t new (accepted_piece (context (after_run h ps)) p ∷ after_run h ps)) (sym same)
            (context-step (accepted_piece (context (after_run h os)) p) (after_run h os) ∙ ((λ i. context_after (accepted_piece (f i) p) (f i)) ∙ sym e));
        included = subst (λ (ps : List Piece). chain.included ≡ is_included_start (context (after_run h ps)) p.kind) (sym same) (j.included p.kind q ∙ ap (λ (s : Context). is_included_start s p.kind) (sym f));
      }

  pub refuses-here : (v : Visible) (p : Piece) (r : Reason) → IsVisible t v p.kind → IsRefusedIn t (context_in t old) v r → Refuses h p r
  refuses-here v p r q j = record {
    run = j.run;
    longest = run-of-history h (context_in t old) p.kind j.run stood (j.longest p.kind q);
    because = ap (λ (s : Context). reason s p.kind) (context-of-history h (context_in t old) j.run stood) ∙ j.because p.kind q;
  }

-- THERE IS ROOM for a visible piece that may stand

end-depth : (n : Name) (how : How) (s : Context) → inside_of_ended s (End n how) ≡ Some 0 → 0 < depth s
unfolding inside_of_ended
end-depth n how s h = for-each-way how s.levels h
  where
    for-each-way : (how : How) (ls : List Level) → ended_by n how ls ≡ Some 0 → 0 < length ls
    for-each-way Tag [] h = cc
    for-each-way Short [] h = cc
    for-each-way Slash [] h = cc
    for-each-way Net [] h = cc
    for-each-way Omitted [] h = cc
    for-each-way how (l ∷ ls) h = omega arith

pub place-for : (t : Doctype) (v : Visible) (s : Context) → s.doctype ≡ t → Stands s (kind_of t v) (token (kind_of t v)) → HasRoomFor t v (depth s)
unfolding token is_start
place-for t (visible.Start i) s e h = subst (λ (d : Doctype). depth s < d.syntax.quantities.taglvl) e (h.1 refl)
place-for t visible.Chars s e h = tt
place-for t (visible.EndTag i) s e h = end-depth (name_at t i) Tag s h.0
place-for t visible.EndCurrent s e h = end-depth [] Short s h.0
place-for t visible.Net s e h = end-depth [] Net s h.0
place-for t visible.EndDocument s e h = tt

-- WHAT IS JUDGED

pub start-judged : (s : Context) (n : Name) (ss : List Specification) (how : How) (q o : Bool) → ends_at_once s.doctype n ss ≡ is_void (content_of (type_of s.doctype n)) →
    judged s (Start n ss (plain how) q o) ≡ accepted s (Start n ss how q o)
start-judged s n ss how q o h = ap (λ b. Start n ss (plain how) (is_proper_in s s.levels (Some n)) b) h

pub enabled-judged : (s : Context) (n : Name) (ss : List Specification) (how : How) (q o e : Bool) → ends_at_once s.doctype n ss ≡ e →
    judged s (Start n ss how q o) ≡ Start n ss how (is_proper_in s s.levels (Some n)) e
enabled-judged s n ss how q o e h = ap (λ b. Start n ss how (is_proper_in s s.levels (Some n)) b) h

pub others-judged : (s : Context) (k : Kind) → is_start k ≡ false → judged s k ≡ accepted s k
unfolding is_start
others-judged s (Start n ss how q o) h = cc
others-judged s _ h = refl
