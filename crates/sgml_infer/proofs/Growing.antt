-- The open elements after a piece.
use Rattle.std.proofs.Common.{◌≡◌, ℕ, zero, suc, ◌+◌, ◌-◌, ◌<◌, ◌≤◌, Vec, Bool, true, false, ◌||◌, List, [], ◌∷◌, ◌++◌, Option, Some, None, option_map, map, reverse, length, take, refl, sym, ap, ◌∙◌, subst, arith, All}
use Rattle.std.specs.Prelude.{vec_capacity}
use Rattle.std.specs.List.{slice_get, slice_set}
use Rattle.std.proofs.lemmas.List.{map-append, reverse-append, take_more_set}
use Rattle.std.proofs.lemmas.List.Elements.{All-take, All-push, All-set}
use Rattle.std.proofs.lemmas.Option.{slice_get_within, get_or_from_slice_get}
use Rattle.std.proofs.Math.ListN.{length-set}
use Rattle.std.specs.Global.{Global}
use Rattle.sgml_attr.proofs.Getting.{take-get}
use Rattle.sgml_dtd.specs.Doctypes.{Doctype}
use Rattle.sgml_theory_reading.specs.Names.{Name}
use Rattle.sgml_theory_reading.specs.Pieces.{Piece, Kind, Start, End, Char, Finish, How, Tag, Short, Slash, Net, Omitted, Specification, History}
use Rattle.sgml_theory_reading.specs.Facets.{Token, Pcdata, is_slash, is_omitted_how, token, effect, declares, is_start, is_omitted_start}
use Rattle.sgml_theory_reading.specs.Nest.{without_first}
use Rattle.sgml_theory_reading.specs.Context.{Context, context, context_after, begun_level, levels_with}
use Rattle.sgml_theory_reading.specs.Context as reading
use Rattle.sgml_theory_reading.specs.Omission.{omitted_start}
use Rattle.sgml_theory_reading.specs.Runs.{context_after_run}
use Rattle.sgml_theory_reading.proofs.Contexts.{context-step}
use Rattle.sgml_infer.specs.Tables.{name_at, IsNumber}
use Rattle.sgml_infer.specs.declared.level.Level.{Level}
use Rattle.sgml_infer.specs.declared.tree.Tree.{Tree}
use Rattle.sgml_infer.specs.Links.{AreLinked, KnowNet}
use Rattle.sgml_infer.specs.Known.{AreKnown}
use Rattle.sgml_infer.specs.declared.known.Known.{Known}
use Rattle.sgml_infer.specs.Trees.{level_of, levels_of, taking, context_with, IsLevel, HasRoom, HasRoomIn, IsTreeOf, AreSteps, enabled}
use Rattle.sgml_infer.specs.Seen.{started, context_at, seen_with}
use Rattle.sgml_infer.specs.Visibles.{plain, start_of}
use Rattle.sgml_infer.proofs.Links.{split-last, take-front, taken-length, linked-front, linked-same}
use Rattle.sgml_infer.proofs.Nets.{net-front, net-enabled}
use Rattle.sgml_infer.proofs.Points.{after_start, start-after, run-append, run-doctype, innermost, last-level}

-- ONE START MORE

pub seen-more : (t : Doctype) (ls : List Level) (b : Bool) (ns : List ℕ) (n : ℕ) → seen_with t ls b (ns ++ n ∷ []) ≡ after_start (name_at t n) (seen_with t ls b ns)
seen-more t ls b ns n =
    ap (context_after_run (context_at t ls b)) (map-append (λ m. omitted_start (name_at t m)) ns (n ∷ []))
    ∙ (run-append (context_at t ls b) (started t ns) (omitted_start (name_at t n) ∷ []) ∙ start-after (name_at t n) (seen_with t ls b ns))

pub starts-levels : (t : Doctype) (ls : List Level) (b : Bool) (ns all : List ℕ) (n : ℕ) (old new : List reading.Level) → all ≡ ns ++ n ∷ [] → old ≡ (seen_with t ls b ns).levels →
    new ≡ begun_level t (name_at t n) false ∷ taking (Some (name_at t n)) old → new ≡ (seen_with t ls b all).levels
starts-levels t ls b ns all n old new e p q =
    q ∙ (λ i. begun_level (sym (run-doctype t ns (context_at t ls b)) i) (name_at t n) false ∷ taking (Some (name_at t n)) (p i))
    ∙ sym (ap (λ (c : Context). c.levels) (ap (seen_with t ls b) e ∙ seen-more t ls b ns n))

pub starts-begun : (t : Doctype) (ls : List Level) (b : Bool) (ns all : List ℕ) (n : ℕ) (new : Bool) → all ≡ ns ++ n ∷ [] → new ≡ true → new ≡ (seen_with t ls b all).begun
starts-begun t ls b ns all n new e p = p ∙ sym (ap (λ (c : Context). c.begun) (ap (seen_with t ls b) e ∙ seen-more t ls b ns n))

-- THE VISIBLE PIECE

taking-of : (k : Kind) (x : Token) (ls : List reading.Level) → token k ≡ Some x → levels_with k ls ≡ taking x ls
taking-of k x [] h = refl
taking-of k x (l ∷ ls) h = ap (λ o. levels_with-one o l ls) h
  where
    levels_with-one : Option Token → reading.Level → List reading.Level → List reading.Level
    levels_with-one o l ls = record { element = l.element; left = reading.token_taken o l.left; slash = l.slash } ∷ ls

staying-of : (k : Kind) (ls : List reading.Level) → token k ≡ None → levels_with k ls ≡ ls
staying-of k [] h = refl
staying-of k (l ∷ ls) h = ap (λ o. levels_with-one o l ls) h
  where
    levels_with-one : Option Token → reading.Level → List reading.Level → List reading.Level
    levels_with-one o l ls = record { element = l.element; left = reading.token_taken o l.left; slash = l.slash } ∷ ls

start-token : (n : Name) (ss : List Specification) (how : How) (p o : Bool) → token (Start n ss how p o) ≡ Some (Some n)
unfolding token
start-token n ss how p o = refl

char-token : token (Char 0) ≡ Some Pcdata
unfolding token
char-token = refl

finish-token : token Finish ≡ None
unfolding token
finish-token = refl

by-kind : (p : Piece) (k : Kind) (c : Context) → p.kind ≡ k → context_after p c ≡ context_after (record { kind = k; size = 0; spent = 0 }) c
unfolding context_after
by-kind p k c h = ap (λ (x : Kind). context_after (record { kind = x; size = 0; spent = 0 }) c) h

start-opens : (n : Name) (ss : List Specification) (q : Bool) (c : Context) → context_after (record { kind = Start n ss Tag q false; size = 0; spent = 0 }) c
    ≡ record { doctype = c.doctype; levels = begun_level c.doctype n false ∷ levels_with (Start n ss Tag q false) c.levels; begun = true; inferred = false }
unfolding context_after effect is_start is_omitted_start declares
start-opens n ss q c = refl

start-stays : (n : Name) (ss : List Specification) (q : Bool) (c : Context) → context_after (record { kind = Start n ss Tag q true; size = 0; spent = 0 }) c
    ≡ record { doctype = c.doctype; levels = levels_with (Start n ss Tag q true) c.levels; begun = true; inferred = false }
unfolding context_after effect is_start is_omitted_start declares
start-stays n ss q c = refl

char-stays : (c : Context) → context_after (record { kind = Char 0; size = 0; spent = 0 }) c ≡ record { doctype = c.doctype; levels = levels_with (Char 0) c.levels; begun = c.begun; inferred = false }
unfolding context_after effect is_start is_omitted_start declares
char-stays c = refl

pub end-closes : (n : Name) (how : How) (c : Context) → (is_omitted_start (End n how) ≡ false) → context_after (record { kind = End n how; size = 0; spent = 0 }) c ≡ record { doctype = c.doctype; levels = without_first c.levels; begun = c.begun; inferred = false }
unfolding context_after effect is_start is_omitted_start declares
end-closes n how c h = refl

finish-stays : (c : Context) → context_after (record { kind = Finish; size = 0; spent = 0 }) c ≡ record { doctype = c.doctype; levels = levels_with Finish c.levels; begun = c.begun; inferred = false }
unfolding context_after effect is_start is_omitted_start declares
finish-stays c = refl

module _ (t : Doctype) (old new : List Level) (b : Bool) (p : Piece) where
  pub after-start : (n : Name) (new_begun v : Bool) → p.kind ≡ Start n [] Tag true v → v ≡ false → levels_of t new ≡ begun_level t n false ∷ taking (Some n) (levels_of t old) → new_begun ≡ true →
      context_after p (context_at t old b) ≡ context_at t new new_begun
  after-start n c v h f e q =
      by-kind p (Start n [] Tag true false) (context_at t old b) (h ∙ ap (λ x. Start n [] Tag true x) f)
      ∙ (start-opens n [] true (context_at t old b)
      ∙ (λ i. record { doctype = t; levels = (ap (λ (ls : List reading.Level). begun_level t n false ∷ ls) (taking-of (Start n [] Tag true false) (Some n) (levels_of t old) (start-token n [] Tag true false)) ∙ sym e) i; begun = sym q i; inferred = false }))

  pub after-void : (n : Name) (new_begun v : Bool) → p.kind ≡ Start n [] Tag true v → v ≡ true → levels_of t new ≡ taking (Some n) (levels_of t old) → new_begun ≡ true →
      context_after p (context_at t old b) ≡ context_at t new new_begun
  after-void n c v h f e q =
      by-kind p (Start n [] Tag true true) (context_at t old b) (h ∙ ap (λ x. Start n [] Tag true x) f)
      ∙ (start-stays n [] true (context_at t old b)
      ∙ (λ i. record { doctype = t; levels = (taking-of (Start n [] Tag true true) (Some n) (levels_of t old) (start-token n [] Tag true true) ∙ sym e) i; begun = sym q i; inferred = false }))

  pub after-chars : (new_begun : Bool) → p.kind ≡ Char 0 → levels_of t new ≡ taking Pcdata (levels_of t old) → new_begun ≡ b → context_after p (context_at t old b) ≡ context_at t new new_begun
  after-chars c h e q =
      by-kind p (Char 0) (context_at t old b) h
      ∙ (char-stays (context_at t old b)
      ∙ (λ i. record { doctype = t; levels = (taking-of (Char 0) Pcdata (levels_of t old) char-token ∙ sym e) i; begun = sym q i; inferred = false }))

  pub after-end : (n : Name) (how : How) (new_begun : Bool) → is_omitted_start (End n how) ≡ false → p.kind ≡ End n how → levels_of t new ≡ without_first (levels_of t old) → new_begun ≡ b → context_after p (context_at t old b) ≡ context_at t new new_begun
  after-end n how c o h e q =
      by-kind p (End n how) (context_at t old b) h
      ∙ (end-closes n how (context_at t old b) o
      ∙ (λ i. record { doctype = t; levels = sym e i; begun = sym q i; inferred = false }))

  pub after-finish : (new_begun : Bool) → p.kind ≡ Finish → levels_of t new ≡ levels_of t old → new_begun ≡ b → context_after p (context_at t old b) ≡ context_at t new new_begun
  after-finish c h e q =
      by-kind p Finish (context_at t old b) h
      ∙ (finish-stays (context_at t old b)
      ∙ (λ i. record { doctype = t; levels = (staying-of Finish (levels_of t old) finish-token ∙ sym e) i; begun = sym q i; inferred = false }))

pub end-written : (n : Name) (how : How) → is_omitted_start (End n how) ≡ false
unfolding is_omitted_start
end-written n how = refl

-- THE INNERMOST ELEMENT ENDS

pub levels-ended : (t : Doctype) (xs : List Level) (n : ℕ) → 0 < n → n ≤ length xs → levels_of t (take (n - 1) xs) ≡ without_first (levels_of t (take n xs))
levels-ended t xs n p h =
    let s = split-last xs n p h in
    sym (ap (λ (ys : List Level). without_first (levels_of t ys)) s.1 ∙ ap without_first (innermost t (take (n - 1) xs) s.0))

pub levels-front : (t : Doctype) (m n : ℕ) (xs : List Level) → m ≤ n → All (IsLevel t) (take n xs) → All (IsLevel t) (take m xs)
levels-front t m n xs h a = subst (All (IsLevel t)) (take-front m n xs h) (All-take (IsLevel t) m (take n xs) a)

pub front-of : (m n : ℕ) (xs : List Level) → m ≤ n → take m (take n xs) ≡ take m xs
front-of m n xs h = take-front m n xs h

pub end-tree : (t : Doctype) (tree : Tree) (n : ℕ) → IsTreeOf t tree → n ≤ tree.depth → IsTreeOf t (record tree { depth = n })
end-tree t tree n w h = record {
  distinct = w.distinct;
  few = w.few;
  slots = w.slots;
  depth = let e = w.depth in omega arith;
  levels = levels-front t n tree.depth tree.levels.items h w.levels;
  linked = linked-front t n tree.depth tree.levels.items h w.linked;
  places = record { places = let e = w.places.places in omega (arith, e, h); net = net-front n tree.depth tree.levels.items h w.places.net };
  rooms = w.rooms;
  fresh = w.fresh;
  ended = w.ended;
  starts = w.starts;
  steps = w.steps;
  known = w.known;
}

-- the innermost elements have ended
pub cut-tree : (t : Doctype) (old new : Tree) → IsTreeOf t old → new.levels.items ≡ old.levels.items → new.depth ≤ old.depth → vec_capacity new.ended ≡ vec_capacity old.ended → new.starts ≡ old.starts → new.fresh ≡ old.fresh → new.steps ≡ old.steps → new.known ≡ old.known → IsTreeOf t new
cut-tree t old new w l h e s f u k = record {
  distinct = w.distinct;
  few = w.few;
  slots = ap length l ∙ w.slots;
  depth = let d = w.depth in omega (arith, d, h);
  levels = subst (λ (xs : List Level). All (IsLevel t) (take new.depth xs)) (sym l) (levels-front t new.depth old.depth old.levels.items h w.levels);
  linked = subst (λ (xs : List Level). AreLinked t (take new.depth xs)) (sym l) (linked-front t new.depth old.depth old.levels.items h w.linked);
  places = record {
    places = let e = w.places.places in let g = ap length l in omega (arith, e, g, h);
    net = subst (λ (xs : List Level). KnowNet (take new.depth xs)) (sym l) (net-front new.depth old.depth old.levels.items h w.places.net);
  };
  rooms = subst (All (HasRoomIn t)) (sym l) w.rooms;
  fresh = subst (HasRoom t) (sym f) w.fresh;
  ended = subst (λ (n : ℕ). t.syntax.quantities.taglvl ≤ n) (sym e) w.ended;
  starts = subst (λ (v : Vec ℕ Global). t.syntax.quantities.taglvl ≤ vec_capacity v) (sym s) w.starts;
  steps = subst (AreSteps t) (sym u) w.steps;
  known = subst (λ (v : Vec Known Global). AreKnown t v.items) (sym k) w.known;
}

pub inferred-free : (p : Piece) (c e : Context) → c.doctype ≡ e.doctype → c.levels ≡ e.levels → c.begun ≡ e.begun → context_after p c ≡ context_after p e
unfolding context_after
inferred-free p c e d l b = λ i. record {
  doctype = declares p.kind (d i);
  levels = reading.levels_after (d i) (effect p.kind) p.kind (l i);
  begun = is_start p.kind || b i;
  inferred = is_omitted_start p.kind;
}

-- A START THAT ENDS AT ONCE, OR ENABLES NET

start-after-it : (n : Name) (ss : List Specification) (how : How) (q : Bool) (size spent : ℕ) (c : Context) → context_after (start_of n ss how q false size spent) c
    ≡ record { doctype = c.doctype; levels = record { element = n; left = (begun_level c.doctype n false).left; slash = is_slash how } ∷ levels_with (Start n ss how q false) c.levels; begun = true; inferred = is_omitted_how how }
unfolding context_after effect is_start is_omitted_start declares
start-after-it n ss how q size spent c = refl

once-after-it : (n : Name) (ss : List Specification) (how : How) (q : Bool) (size spent : ℕ) (c : Context) → context_after (start_of n ss how q true size spent) c
    ≡ record { doctype = c.doctype; levels = levels_with (Start n ss how q true) c.levels; begun = true; inferred = is_omitted_how how }
unfolding context_after effect is_start is_omitted_start declares
once-after-it n ss how q size spent c = refl

with-start : (n : Name) (ss : List Specification) (how kow : How) (q o p : Bool) (ls : List reading.Level) → levels_with (Start n ss how q o) ls ≡ levels_with (Start n ss kow q p) ls
with-start n ss how kow q o p ls = taking-of (Start n ss how q o) (Some n) ls (start-token n ss how q o) ∙ sym (taking-of (Start n ss kow q p) (Some n) ls (start-token n ss kow q p))

-- one that ends at once leaves nothing in which NET is enabled
plain-same : (how : How) → is_omitted_how how ≡ is_omitted_how (plain how)
plain-same Tag = refl
plain-same Short = refl
plain-same Slash = refl
plain-same Net = refl
plain-same Omitted = refl

pub plain-at-once : (n : Name) (ss : List Specification) (how : How) (q : Bool) (size spent : ℕ) (c : Context) →
    context_after (start_of n ss how q true size spent) c ≡ context_after (start_of n ss (plain how) q true size spent) c
plain-at-once n ss how q size spent c =
    once-after-it n ss how q size spent c
    ∙ ((λ i. record { doctype = c.doctype; levels = with-start n ss how (plain how) q true true c.levels i; begun = true; inferred = plain-same how i })
    ∙ sym (once-after-it n ss (plain how) q size spent c))

-- where the context before the start was c
module _ (t : Doctype) (c : Context) (n : Name) (ss : List Specification) (how : How) (q : Bool) (size spent : ℕ) (xs : List Level) (k : ℕ) (b : Bool) (pos : 0 < k) (within : k ≤ length xs)
    (stood : context_with t (take k xs) b ≡ context_after (start_of n ss how q false size spent) c) where
  abbrev was : Context
  was = record { doctype = c.doctype; levels = record { element = n; left = (begun_level c.doctype n false).left; slash = is_slash how } ∷ levels_with (Start n ss how q false) c.levels; begun = true; inferred = is_omitted_how how }

  same : was ≡ context_with t (take k xs) b
  same = sym (stood ∙ start-after-it n ss how q size spent c)

  pub ends-in : context_with t (take (k - 1) xs) b ≡ context_after (start_of n ss how q true size spent) c
  ends-in = sym (
      once-after-it n ss how q size spent c
      ∙ (λ i. record {
        doctype = (same i).doctype;
        levels = (with-start n ss how how q true false c.levels ∙ (ap (λ (e : Context). without_first e.levels) same ∙ sym (levels-ended t xs k pos within))) i;
        begun = (same i).begun;
        inferred = (same i).inferred;
      })
      )

  abbrev first-slashed : List reading.Level → List reading.Level
  first-slashed [] = []
  first-slashed (l ∷ ls) = record { element = l.element; left = l.left; slash = true } ∷ ls

  enabled-levels : (l : Level) → slice_get xs (k - 1) ≡ Some l → levels_of t (take k (slice_set xs (k - 1) (enabled l))) ≡ first-slashed (levels_of t (take k xs))
  enabled-levels l g =
      let e : k - 1 + 1 ≡ k = omega arith in
      ap (λ (m : ℕ). levels_of t (take m (slice_set xs (k - 1) (enabled l)))) (sym e)
      ∙ (ap (levels_of t) (take_more_set xs (k - 1) (enabled l) (omega arith))
      ∙ (innermost t (take (k - 1) xs) (enabled l)
      ∙ sym (ap (λ (ys : List Level). first-slashed (levels_of t ys)) (ap (λ (m : ℕ). take m xs) (sym e) ∙ take-get xs (k - 1) l g) ∙ ap first-slashed (innermost t (take (k - 1) xs) l))))

  pub enables-in : (l : Level) → slice_get xs (k - 1) ≡ Some l → context_with t (take k (slice_set xs (k - 1) (enabled l))) b ≡ context_after (start_of n ss Slash q false size spent) c
  enables-in l g = sym (
      start-after-it n ss Slash q size spent c
      ∙ (λ i. record {
        doctype = (same i).doctype;
        levels = (ap (λ (ls : List reading.Level). record { element = n; left = (begun_level c.doctype n false).left; slash = true } ∷ ls) (with-start n ss Slash how q false false c.levels)
            ∙ (ap (λ (e : Context). first-slashed e.levels) same ∙ sym (enabled-levels l g))) i;
        begun = (same i).begun;
        inferred = false;
      })
      )

-- from contexts to what was read
pub stood-after : (p : Piece) (h : History) (c : Context) → context (p ∷ h) ≡ c → c ≡ context_after p (context h)
stood-after p h c e = sym e ∙ context-step p h

pub stands-after : (p : Piece) (h : History) (c : Context) → c ≡ context_after p (context h) → context (p ∷ h) ≡ c
stands-after p h c e = context-step p h ∙ sym e

pub enabled-tree : (t : Doctype) (tree : Tree) (vec : Vec Level Global) (l : Level) → 0 < tree.depth → slice_get tree.levels.items (tree.depth - 1) ≡ Some l → vec.items ≡ slice_set tree.levels.items (tree.depth - 1) (enabled l) →
    IsTreeOf t tree → IsTreeOf t (record tree { levels = vec })
enabled-tree t tree vec l p g e w = record {
  distinct = w.distinct;
  few = w.few;
  slots = ap length e ∙ (length-set tree.levels.items (tree.depth - 1) (enabled l) ∙ w.slots);
  depth = w.depth;
  levels = subst (λ (xs : List Level). All (IsLevel t) (take tree.depth xs)) (sym e) fronts;
  linked = subst (λ (xs : List Level). AreLinked t (take tree.depth xs)) (sym e) (linked-same t tree.levels.items tree.depth l (enabled l) p g refl refl w.linked);
  places = record {
    places = let z : length vec.items ≡ length tree.levels.items = ap length e ∙ length-set tree.levels.items (tree.depth - 1) (enabled l) in let y = w.places.places in omega (arith, z, y);
    net = subst (λ (xs : List Level). KnowNet (take tree.depth xs)) (sym e) (net-enabled tree.levels.items tree.depth l p g w.places.net);
  };
  rooms = subst (All (HasRoomIn t)) (sym e) (All-set (HasRoomIn t) tree.levels.items (tree.depth - 1) (enabled l) own-room w.rooms);
  fresh = w.fresh;
  ended = w.ended;
  starts = w.starts;
  steps = w.steps;
  known = w.known;
}
  where
    back : tree.depth - 1 + 1 ≡ tree.depth
    back = omega arith

    within : tree.depth - 1 < length tree.levels.items
    within = slice_get_within tree.levels.items (tree.depth - 1) l g

    own-level : IsLevel t l
    own-level = last-level t l (take (tree.depth - 1) tree.levels.items)
        (subst (All (IsLevel t)) (ap (λ (m : ℕ). take m tree.levels.items) (sym back) ∙ take-get tree.levels.items (tree.depth - 1) l g) w.levels)

    own-room : HasRoomIn t (enabled l)
    own-room = own-level.room

    fronts : All (IsLevel t) (take tree.depth (slice_set tree.levels.items (tree.depth - 1) (enabled l)))
    fronts =
        subst (All (IsLevel t)) (sym (ap (λ (m : ℕ). take m (slice_set tree.levels.items (tree.depth - 1) (enabled l))) (sym back) ∙ take_more_set tree.levels.items (tree.depth - 1) (enabled l) within))
        (All-push (IsLevel t) (take (tree.depth - 1) tree.levels.items) (enabled l) (levels-front t (tree.depth - 1) tree.depth tree.levels.items (omega arith) w.levels)
        (record { number = own-level.number; state = own-level.state; position = own-level.position; room = own-level.room }))

pub front-length : (k n : ℕ) (xs : List Level) → k ≤ n → n ≤ length xs → length (take k (take n xs)) ≡ k
front-length k n xs h l = ap length (take-front k n xs h) ∙ taken-length k xs (omega arith)

-- WHAT A CALLER SEES

reverse-twice : {A : Type 0} (xs : List A) → reverse (reverse xs) ≡ xs
reverse-twice [] = refl
reverse-twice (x ∷ xs) =
    ap reverse (reverse-append (x ∷ []) xs)
    ∙ (reverse-append (reverse xs) (x ∷ []) ∙ ap (λ ys. x ∷ ys) (reverse-twice xs))

got-mapped : {A B : Type 0} (f : A → B) (xs : List A) (i : ℕ) → slice_get (map f xs) i ≡ option_map f (slice_get xs i)
got-mapped f [] zero = refl
got-mapped f [] (suc i) = refl
got-mapped f (x ∷ xs) zero = refl
got-mapped f (x ∷ xs) (suc i) = got-mapped f xs i

got-front : (n i : ℕ) (xs : List Level) → i < n → slice_get (take n xs) i ≡ slice_get xs i
got-front zero i xs h = absurd (omega arith)
got-front (suc n) zero [] h = refl
got-front (suc n) (suc i) [] h = refl
got-front (suc n) zero (x ∷ xs) h = refl
got-front (suc n) (suc i) (x ∷ xs) h = got-front n i xs (omega arith)

pub path-name : (t : Doctype) (xs : List Level) (n i : ℕ) (l : Level) → i < n → slice_get xs i ≡ Some l →
    option_map (λ (x : reading.Level). x.element) (slice_get (reverse (levels_of t (take n xs))) i) ≡ Some (name_at t l.element)
path-name t xs n i l h g =
    ap (λ (ls : List reading.Level). option_map (λ (x : reading.Level). x.element) (slice_get ls i)) (reverse-twice (map (level_of t) (take n xs)))
    ∙ (ap (option_map (λ (x : reading.Level). x.element)) (got-mapped (level_of t) (take n xs) i ∙ ap (option_map (level_of t)) (got-front n i xs h ∙ g)))

pub path-number : (t : Doctype) (xs : List Level) (n i : ℕ) (l : Level) → i < n → slice_get xs i ≡ Some l → All (IsLevel t) (take n xs) → IsNumber t l.element
path-number t xs n i l h g a =
    let e : slice_get (take n xs) i ≡ Some l = got-front n i xs h ∙ g in
    (subst (IsLevel t) (get_or_from_slice_get (take n xs) i l l e) (a i l (slice_get_within (take n xs) i l e))).number
