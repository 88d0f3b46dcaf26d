-- What was put behind what it names, piece after piece.
use Rattle.std.proofs.Common.{◌≡◌, ℕ, Bool, true, Option, List, [], ◌∷◌, ◌++◌, refl, sym, ap, subst, ◌∙◌, map, length, drop, take, get_or, zero, suc, ◌+◌, ◌<◌, arith, append_assoc, append-nil}
use Rattle.std.specs.Prelude.{IsTrue}
use Rattle.std.specs.List.{list_all}
use Rattle.std.proofs.lemmas.List.{take_more, map-append}
use Rattle.sgml_esis.proofs.Tokens.{both}
use Rattle.sgml_attr.specs.declared.definition.Definition.{Definition}
use Rattle.sgml_attr.specs.declared.value.AttrValue.{AttrValue}
use Rattle.sgml_attr.specs.declared.value.AttrValue.TheVariants as value
use Rattle.sgml_theory_reading.specs.Types.{name_of_entity}
use Rattle.sgml_said.specs.Told.{attributes_with}
use Rattle.sgml_said.proofs.Paired.{drop_here}
use Rattle.sgml_event_lines.proofs.Bytes.{value_alone, name_line, text_line}
use Rattle.sgml_esis.specs.Writing.{Puts}
use Rattle.sgml_esis.proofs.Holding.{puts_nothing, puts_as, puts_then}
use Rattle.sgml_dtd.specs.Doctypes.{Doctype}
use Rattle.sgml_theory_reading.specs.Lines.{Line, StartLine, FinishLine, DataRefLine, PiLine, attribute_lines, value_line, Known, Defined, defined_for, define_entity, define_entities}
use Rattle.sgml_theory_reading.specs.Names.{Name}
use Rattle.sgml_theory_reading.specs.Reads.{Attribute}
use Rattle.sgml_event_lines.specs.declared.pen.Pen.{Pen}
use Rattle.sgml_event_lines.specs.Placed.{Placing, nothing_placed, placed_plain, then_placed, placed_line, placed}
use Rattle.sgml_event_lines.specs.Spelled.{spelled}
use Rattle.sgml_event_lines.specs.Marks.{AreMarks}
use Rattle.sgml_event_lines.specs.Standing.{Defines, SameMarks, text_bytes, value_defined, value_bytes}
use Rattle.sgml_event_lines.proofs.Joining.{spelled_append}

-- nothing
pub defines_nothing : (d : Doctype) (t : Option (List ℕ)) (m : ℕ) (p : Pen) → Defines d nothing_placed t m p t m p
defines_nothing d t m p = record { puts = λ known are. puts_nothing t m p.held; marks = λ known are. are }

-- the same by another name
pub defines_as : (d : Doctype) (f g : Placing) (t : Option (List ℕ)) (m : ℕ) (p : Pen) (u : Option (List ℕ)) (n : ℕ) (q : Pen) → ((known : Known) → f known ≡ g known) → Defines d f t m p u n q → Defines d g t m p u n q
defines_as d f g t m p u n q same x = record {
  puts = λ known are. rw (← same known) (x.puts known are);
  marks = λ known are. rw (← same known) (x.marks known are);
}

-- one and then another
pub defines_then : (d : Doctype) (f g : Placing) (t : Option (List ℕ)) (m : ℕ) (p : Pen) (u : Option (List ℕ)) (n : ℕ) (q : Pen) (v : Option (List ℕ)) (o : ℕ) (r : Pen) → Defines d f t m p u n q → Defines d g u n q v o r → Defines d (then_placed f g) t m p v o r
defines_then d f g t m p u n q v o r x y = record {
  puts = λ known are.
      puts_as _ _ _ _ _ _ (spelled (f known).lines ++ spelled (g (f known).known).lines) (spelled ((f known).lines ++ (g (f known).known).lines)) (sym (spelled_append (f known).lines (g (f known).known).lines))
      (puts_then _ _ _ _ _ _ _ _ _ (spelled (f known).lines) (spelled (g (f known).known).lines) (x.puts known are) (y.puts (f known).known (x.marks known are)));
  marks = λ known are. y.marks (f known).known (x.marks known are);
}

pub marks_kept : (d : Doctype) (known : Known) (p q : Pen) → SameMarks p q → AreMarks d known p.entities.items p.notations.items → AreMarks d known q.entities.items q.notations.items
marks_kept d known p q same are = rw same.entities (rw same.notations are)

-- lines that name nothing
pub defines_lines : (d : Doctype) (ls : List Line) (bytes : List ℕ) (t : Option (List ℕ)) (m : ℕ) (p : Pen) (u : Option (List ℕ)) (n : ℕ) (q : Pen) → spelled ls ≡ bytes → Puts t m p.held u n q.held bytes → SameMarks p q → Defines d (placed_plain ls) t m p u n q
defines_lines d ls bytes t m p u n q is x same = record {
  puts = λ known are. puts_as _ _ _ _ _ _ bytes (spelled ls) (sym is) x;
  marks = λ known are. marks_kept d known p q same are;
}

-- placed lines, one after another
pub placed_append : (d : Doctype) (xs ys : List Line) (known : Known) → then_placed (placed d xs) (placed d ys) known ≡ placed d (xs ++ ys) known
placed_append d [] ys known = refl
placed_append d (x ∷ xs) ys known =
    let first = placed_line d x known in
    let rest = placed d xs first.known in
    ap (λ v. record { lines = v; known = (placed d ys rest.known).known }) (append_assoc first.lines rest.lines (placed d ys rest.known).lines)
    ∙ ap (λ (v : Defined). record { lines = first.lines ++ v.lines; known = v.known }) (placed_append d xs ys first.known)

pub placed_one : (d : Doctype) (l : Line) (known : Known) → placed_line d l known ≡ placed d (l ∷ []) known
placed_one d l known = ap (λ v. record { lines = v; known = (placed_line d l known).known }) (sym (append-nil (placed_line d l known).lines))

pub defines_more : (d : Doctype) (xs ys : List Line) (t : Option (List ℕ)) (m : ℕ) (p : Pen) (u : Option (List ℕ)) (n : ℕ) (q : Pen) (v : Option (List ℕ)) (o : ℕ) (r : Pen) → Defines d (placed d xs) t m p u n q → Defines d (placed d ys) u n q v o r → Defines d (placed d (xs ++ ys)) t m p v o r
defines_more d xs ys t m p u n q v o r x y =
    defines_as d (then_placed (placed d xs) (placed d ys)) (placed d (xs ++ ys)) t m p v o r (placed_append d xs ys) (defines_then d (placed d xs) (placed d ys) t m p u n q v o r x y)

pub defines_one : (d : Doctype) (l : Line) (t : Option (List ℕ)) (m : ℕ) (p : Pen) (u : Option (List ℕ)) (n : ℕ) (q : Pen) → Defines d (placed_line d l) t m p u n q → Defines d (placed d (l ∷ [])) t m p u n q
defines_one d l t m p u n q x = defines_as d (placed_line d l) (placed d (l ∷ [])) t m p u n q (placed_one d l) x

-- definitions of entities, one after another
pub entities_append : (d : Doctype) (xs ys : List Name) (known : Known) → then_placed (λ k. define_entities d k xs) (λ k. define_entities d k ys) known ≡ define_entities d known (xs ++ ys)
entities_append d [] ys known = refl
entities_append d (x ∷ xs) ys known =
    let first = define_entity d known x in
    let rest = define_entities d first.known xs in
    ap (λ v. record { lines = v; known = (define_entities d rest.known ys).known }) (append_assoc first.lines rest.lines (define_entities d rest.known ys).lines)
    ∙ ap (λ (v : Defined). record { lines = first.lines ++ v.lines; known = v.known }) (entities_append d xs ys first.known)

entity_alone : (d : Doctype) (x : Name) (known : Known) → define_entity d known x ≡ define_entities d known (x ∷ [])
entity_alone d x known = ap (λ v. record { lines = v; known = (define_entity d known x).known }) (sym (append-nil (define_entity d known x).lines))

-- one more entity
pub entities_more : (d : Doctype) (xs : List Name) (x : Name) (t : Option (List ℕ)) (m : ℕ) (p : Pen) (u : Option (List ℕ)) (n : ℕ) (q : Pen) (v : Option (List ℕ)) (o : ℕ) (r : Pen) → Defines d (λ k. define_entities d k xs) t m p u n q → Defines d (λ k. define_entity d k x) u n q v o r → Defines d (λ k. define_entities d k (xs ++ x ∷ [])) t m p v o r
entities_more d xs x t m p u n q v o r a b =
    defines_as d (then_placed (λ k. define_entities d k xs) (λ k. define_entities d k (x ∷ []))) (λ k. define_entities d k (xs ++ x ∷ [])) t m p v o r (entities_append d xs (x ∷ []))
    (defines_then d (λ k. define_entities d k xs) (λ k. define_entities d k (x ∷ [])) t m p u n q v o r a
    (defines_as d (λ k. define_entity d k x) (λ k. define_entities d k (x ∷ [])) u n q v o r (entity_alone d x) b))

-- VALUES WITH THEIR DEFINITIONS
-- the line of one more value
pub attribute_put : (d : Doctype) (ds : List Definition) (vs : List AttrValue) (i : ℕ) (a : Definition) (v : AttrValue) (whole : List Line) (t u w : Option (List ℕ)) (m n o : ℕ) (p q r : Pen) → i < length ds → i < length vs → a ≡ get_or ds i a → v ≡ get_or vs i v → ((done : List Line) × (whole ≡ done ++ attribute_lines d (attributes_with (drop i ds) (drop i vs))) × Defines d (placed d done) t m p u n q) → Defines d (placed_line d (value_line d a.name v)) u n q w o r → (done : List Line) × (whole ≡ done ++ attribute_lines d (attributes_with (drop (i + 1) ds) (drop (i + 1) vs))) × Defines d (placed d done) t m p w o r
attribute_put d ds vs i a v whole t u w m n o p q r lt lu e f inv one =
    let l = value_line d a.name v in
    let rest = attribute_lines d (attributes_with (drop (i + 1) ds) (drop (i + 1) vs)) in
    let step : attribute_lines d (attributes_with (drop i ds) (drop i vs)) ≡ l ∷ rest =
    ap (λ (x : List Definition). attribute_lines d (attributes_with x (drop i vs))) (drop_here ds i a lt e) ∙ ap (λ (x : List AttrValue). attribute_lines d (attributes_with (a ∷ drop (i + 1) ds) x)) (drop_here vs i v lu f) in (
      inv.0 ++ l ∷ [],
      inv.1 ∙ ap (λ x. inv.0 ++ x) step ∙ sym (append_assoc inv.0 (l ∷ []) rest),
      defines_more d inv.0 (l ∷ []) t m p u n q w o r inv.2 (defines_one d l u n q w o r one),
    )

all_at : {A : Type 0} (test : A → Bool) (xs : List A) (i : ℕ) (x : A) → list_all test xs ≡ true → i < length xs → x ≡ get_or xs i x → test x ≡ true
all_at test [] i x h m e = absurd (omega (arith, m))
all_at test (y ∷ xs) zero x h m e = ap test e ∙ (both (test y) (list_all test xs) h).0
all_at test (y ∷ xs) (suc i) x h m e = all_at test xs i x (both (test y) (list_all test xs) h).1 (omega (arith, m)) e

pub true_at : {A : Type 0} (test : A → Bool) (xs : List A) (i : ℕ) (x : A) → IsTrue (list_all test xs) → i < length xs → x ≡ get_or xs i x → IsTrue (test x)
true_at test xs i x h m e = all_at test xs i x h m e

pub entity_put : (d : Doctype) (numbers : List ℕ) (i number : ℕ) (t u w : Option (List ℕ)) (m n o : ℕ) (p q r : Pen) → i < length numbers → number ≡ get_or numbers i number → Defines d (λ k. define_entities d k (map (name_of_entity d) (take i numbers))) t m p u n q → Defines d (λ k. define_entity d k (name_of_entity d number)) u n q w o r → Defines d (λ k. define_entities d k (map (name_of_entity d) (take (i + 1) numbers))) t m p w o r
entity_put d numbers i number t u w m n o p q r lt e a b =
    let parts : map (name_of_entity d) (take i numbers) ++ name_of_entity d number ∷ [] ≡ map (name_of_entity d) (take (i + 1) numbers) =
    sym (map-append (name_of_entity d) (take i numbers) (number ∷ [])) ∙ ap (map (name_of_entity d)) (sym (take_more numbers i number lt ∙ ap (λ y. take i numbers ++ y ∷ []) (sym e))) in
    subst (λ x. Defines d (λ k. define_entities d k x) t m p w o r) parts (entities_more d (map (name_of_entity d) (take i numbers)) (name_of_entity d number) t m p u n q w o r a b)

-- LINES BEHIND WHAT THEY NAME
pub line_put : (d : Doctype) (l : Line) (f : Placing) (bytes : List ℕ) (t : Option (List ℕ)) (m : ℕ) (p : Pen) (u : Option (List ℕ)) (n : ℕ) (q : Pen) (w : Option (List ℕ)) (o : ℕ) (r : Pen) → ((known : Known) → f known ≡ defined_for d known l) → spelled (l ∷ []) ≡ bytes → Defines d f t m p u n q → Puts u n q.held w o r.held bytes → SameMarks q r → Defines d (placed_line d l) t m p w o r
line_put d l f bytes t m p u n q w o r names is first puts same =
    defines_as d (then_placed f (placed_plain (l ∷ []))) (placed_line d l) t m p w o r
    (λ known. ap (λ (x : Defined). record { lines = x.lines ++ (l ∷ []); known = x.known }) (names known))
    (defines_then d f (placed_plain (l ∷ [])) t m p u n q w o r first (defines_lines d (l ∷ []) bytes u n q w o r is puts same))

pub plain_put : (d : Doctype) (l : Line) (bytes : List ℕ) (t : Option (List ℕ)) (m : ℕ) (p : Pen) (w : Option (List ℕ)) (o : ℕ) (r : Pen) → ((known : Known) → nothing_placed known ≡ defined_for d known l) → spelled (l ∷ []) ≡ bytes → Puts t m p.held w o r.held bytes → SameMarks p r → Defines d (placed d (l ∷ [])) t m p w o r
plain_put d l bytes t m p w o r names is puts same = defines_one d l t m p w o r (line_put d l nothing_placed bytes t m p t m p w o r names is (defines_nothing d t m p) puts same)

value_named : (d : Doctype) (a : Name) (v : AttrValue) (known : Known) → value_defined d v known ≡ defined_for d known (value_line d a v)
value_named d a value.Implied known = refl
value_named d a (value.Cdata us) known = refl
value_named d a (value.Notation n) known = refl
value_named d a (value.Entities es) known = refl
value_named d a (value.Tokens ts) known = refl

pub value_put : (d : Doctype) (a : Name) (v : AttrValue) (t : Option (List ℕ)) (m : ℕ) (p : Pen) (u : Option (List ℕ)) (n : ℕ) (q : Pen) (w : Option (List ℕ)) (o : ℕ) (r : Pen) → Defines d (value_defined d v) t m p u n q → Puts u n q.held w o r.held ((65 ∷ a) ++ (value_bytes d v ++ 10 ∷ [])) → SameMarks q r → Defines d (placed_line d (value_line d a v)) t m p w o r
value_put d a v t m p u n q w o r first puts same = line_put d (value_line d a v) (value_defined d v) ((65 ∷ a) ++ (value_bytes d v ++ 10 ∷ [])) t m p u n q w o r (value_named d a v) (value_alone d a v) first puts same

pub start_put : (d : Doctype) (ls : List Line) (name : Name) (t : Option (List ℕ)) (m : ℕ) (p : Pen) (u : Option (List ℕ)) (n : ℕ) (q : Pen) (w : Option (List ℕ)) (o : ℕ) (r : Pen) → Defines d (placed d ls) t m p u n q → Puts u n q.held w o r.held (40 ∷ name ++ 10 ∷ []) → SameMarks q r → Defines d (placed d (ls ++ (StartLine name ∷ []))) t m p w o r
start_put d ls name t m p u n q w o r first puts same = defines_more d ls (StartLine name ∷ []) t m p u n q w o r first (plain_put d (StartLine name) (40 ∷ name ++ 10 ∷ []) u n q w o r (λ known. refl) (sym (name_line 40 name)) puts same)

pub reference_put : (d : Doctype) (name : Name) (t : Option (List ℕ)) (m : ℕ) (p : Pen) (u : Option (List ℕ)) (n : ℕ) (q : Pen) (w : Option (List ℕ)) (o : ℕ) (r : Pen) → Defines d (λ known. define_entity d known name) t m p u n q → Puts u n q.held w o r.held (38 ∷ name ++ 10 ∷ []) → SameMarks q r → Defines d (placed_line d (DataRefLine name)) t m p w o r
reference_put d name t m p u n q w o r first puts same = line_put d (DataRefLine name) (λ known. define_entity d known name) (38 ∷ name ++ 10 ∷ []) t m p u n q w o r (λ known. refl) (sym (name_line 38 name)) first puts same

pub finish_put : (d : Doctype) (name : Name) (t : Option (List ℕ)) (m : ℕ) (p : Pen) (w : Option (List ℕ)) (o : ℕ) (r : Pen) → Puts t m p.held w o r.held (41 ∷ name ++ 10 ∷ []) → SameMarks p r → Defines d (placed d (FinishLine name ∷ [])) t m p w o r
finish_put d name t m p w o r puts same = plain_put d (FinishLine name) (41 ∷ name ++ 10 ∷ []) t m p w o r (λ known. refl) (sym (name_line 41 name)) puts same

pub instruction_put : (d : Doctype) (text : List ℕ) (t : Option (List ℕ)) (m : ℕ) (p : Pen) (w : Option (List ℕ)) (o : ℕ) (r : Pen) → Puts t m p.held w o r.held (63 ∷ text_bytes text ++ 10 ∷ []) → SameMarks p r → Defines d (placed d (PiLine text ∷ [])) t m p w o r
instruction_put d text t m p w o r puts same = plain_put d (PiLine text) (63 ∷ text_bytes text ++ 10 ∷ []) t m p w o r (λ known. refl) (sym (text_line 63 text)) puts same
