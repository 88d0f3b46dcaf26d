-- Definitions that were put: of notations and entities, where they weren't known.
use Rattle.std.proofs.Common.{◌≡◌, ℕ, ◌+◌, ◌-◌, Bool, true, false, Option, Some, None, List, [], ◌∷◌, ◌++◌, refl, sym, ap, ◌∙◌, get_or, set, if◌then◌else◌}
use Rattle.std.specs.Prelude.{IsTrue, option_and_then}
use Rattle.sgml_text.specs.declared.data_kind.DataKind.{DataKind}
use Rattle.sgml_text.specs.declared.data_kind.DataKind.TheVariants.{Cdata, Sdata}
use Rattle.sgml_entity.specs.declared.kinds.Space.TheVariants.{General}
use Rattle.sgml_entity.specs.declared.kinds.External.{External}
use Rattle.sgml_entity.specs.declared.kinds.Body.{Body}
use Rattle.sgml_entity.specs.declared.kinds.Body.TheVariants as body
use Rattle.sgml_entity.specs.declared.kinds.Entity.{Entity}
use Rattle.sgml_entity.specs.declared.kinds.Notation.{Notation}
use Rattle.sgml_entity.specs.Entities.{number_of, notation_of, entity_at, external_of}
use Rattle.sgml_esis.specs.Writing.{Puts}
use Rattle.sgml_esis.proofs.Holding.{puts_nothing, puts_as, puts_then}
use Rattle.sgml_dtd.specs.Doctypes.{Doctype}
use Rattle.sgml_theory_reading.specs.Names.{Name}
use Rattle.sgml_theory_reading.specs.Types.{entity, entity_number, entity_named, notation, is_in}
use Rattle.sgml_theory_reading.specs.Lines.{DefineNotation, DefineExternal, DefineInternal, Known, Defined, external_lines, optional_lines, define_notation, define_entity, define_body, define_as, knowing}
use Rattle.sgml_event_lines.specs.declared.pen.Pen.{Pen}
use Rattle.sgml_event_lines.specs.Placed.{Placing, nothing_placed, external_placed}
use Rattle.sgml_event_lines.specs.Spelled.{spelled}
use Rattle.sgml_event_lines.specs.Marks.{AreMarks, is_entity_of, body_has}
use Rattle.sgml_event_lines.specs.Standing.{Defines, SameMarks}
use Rattle.sgml_event_lines.proofs.Joining.{spelled_append}
use Rattle.sgml_event_lines.proofs.Bytes.{name_line}
use Rattle.sgml_event_lines.proofs.Marked.{marked_entity, marked_notation, at_least_two}
use Rattle.sgml_event_lines.proofs.Placing.{marks_kept}

-- one step of a definition at what is known
puts_to : (x y : Defined) (t : Option (List ℕ)) (m : ℕ) (p : Pen) (u : Option (List ℕ)) (n : ℕ) (q : Pen) → x ≡ y → Puts t m p.held u n q.held (spelled x.lines) → Puts t m p.held u n q.held (spelled y.lines)
puts_to x y t m p u n q e puts = rw (← e) puts

marks_to : (d : Doctype) (x y : Defined) (q : Pen) → x ≡ y → AreMarks d x.known q.entities.items q.notations.items → AreMarks d y.known q.entities.items q.notations.items
marks_to d x y q e are = rw (← e) are

-- NOTATIONS
notation_by : (t : Bool) (d : Doctype) (known : Known) (n : Name) → is_in n known.notations ≡ t → define_notation d known n ≡ (if t then record { lines = []; known = known } else record { lines = optional_lines (notation d n) ++ (DefineNotation n ∷ []); known = record { notations = n ∷ known.notations; entities = known.entities } })
notation_by t d known n e = let same : Defined = record { lines = []; known = known } in
    let more : Defined = record { lines = optional_lines (notation d n) ++ (DefineNotation n ∷ []); known = record { notations = n ∷ known.notations; entities = known.entities } } in
    ap (λ (b : Bool). if b then same else more) e

pub notation_known : (d : Doctype) (n : Name) (k : ℕ) (t : Option (List ℕ)) (m : ℕ) (p : Pen) → notation_of d.notations n ≡ Some k → get_or p.notations.items k false ≡ true → Defines d (λ known. define_notation d known n) t m p t m p
notation_known d n k t m p found marked = record {
  puts = λ known are. puts_to _ (define_notation d known n) t m p t m p (sym (notation_by true d known n (sym (are.notation_marks n k found) ∙ marked))) (puts_nothing t m p.held);
  marks = λ known are. marks_to d _ (define_notation d known n) p (sym (notation_by true d known n (sym (are.notation_marks n k found) ∙ marked))) are;
}

marks_set : (d : Doctype) (known : Known) (es ns es' ns' : List Bool) → es' ≡ es → ns' ≡ ns → AreMarks d known es ns → AreMarks d known es' ns'
marks_set d known es ns es' ns' a b are = rw a (rw b are)

pub notation_put : (d : Doctype) (n : Name) (k : ℕ) (t : Option (List ℕ)) (m : ℕ) (p : Pen) (u : Option (List ℕ)) (o : ℕ) (h : List ℕ × Bool) (v : Option (List ℕ)) (q : ℕ) (r : Pen) → notation_of d.notations n ≡ Some k → get_or p.notations.items k false ≡ false → Puts t m p.held u o h (spelled (optional_lines (notation d n))) → Puts u o h v q r.held (78 ∷ n ++ 10 ∷ []) → r.entities.items ≡ p.entities.items → r.notations.items ≡ set p.notations.items k true → Defines d (λ known. define_notation d known n) t m p v q r
notation_put d n k t m p u o h v q r found marked external line same more = record {
  puts = λ known are. puts_to _ (define_notation d known n) t m p v q r (sym (notation_by false d known n (sym (are.notation_marks n k found) ∙ marked))) whole;
  marks = λ known are. marks_to d _ (define_notation d known n) r (sym (notation_by false d known n (sym (are.notation_marks n k found) ∙ marked)))
      (marks_set d _ p.entities.items (set p.notations.items k true) _ _ same more (marked_notation d known p.entities.items p.notations.items n k are found));
}
  where
    whole : Puts t m p.held v q r.held (spelled (optional_lines (notation d n) ++ (DefineNotation n ∷ [])))
    whole = puts_as _ _ _ _ _ _ (spelled (optional_lines (notation d n)) ++ (78 ∷ n ++ 10 ∷ [])) _
        (ap (λ x. spelled (optional_lines (notation d n)) ++ x) (name_line 78 n) ∙ sym (spelled_append (optional_lines (notation d n)) (DefineNotation n ∷ [])))
        (puts_then _ _ _ _ _ _ _ _ _ (spelled (optional_lines (notation d n))) (78 ∷ n ++ 10 ∷ []) external line)

-- EXTERNAL DATA
pub external_put : (d : Doctype) (e : Name) (kind : DataKind) (external : External) (n : Name) (t : Option (List ℕ)) (m : ℕ) (p : Pen) (u : Option (List ℕ)) (o : ℕ) (q : Pen) (v : Option (List ℕ)) (a : ℕ) (h : List ℕ × Bool) (w : Option (List ℕ)) (b : ℕ) (r : Pen) → Defines d (λ known. define_notation d known n) t m p u o q → Puts u o q.held v a h (spelled (external_lines external)) → Puts v a h w b r.held (spelled (DefineExternal e kind n ∷ [])) → SameMarks q r → Defines d (external_placed d e kind external n) t m p w b r
external_put d e kind external n t m p u o q v a h w b r first lines last same = record {
  puts = λ known are. puts_as _ _ _ _ _ _ (spelled (define_notation d known n).lines ++ (spelled (external_lines external) ++ spelled (DefineExternal e kind n ∷ []))) _
      (ap (λ x. spelled (define_notation d known n).lines ++ x) (sym (spelled_append (external_lines external) (DefineExternal e kind n ∷ []))) ∙ sym (spelled_append (define_notation d known n).lines (external_lines external ++ (DefineExternal e kind n ∷ []))))
      (puts_then _ _ _ _ _ _ _ _ _ (spelled (define_notation d known n).lines) (spelled (external_lines external) ++ spelled (DefineExternal e kind n ∷ [])) (first.puts known are)
      (puts_then _ _ _ _ _ _ _ _ _ (spelled (external_lines external)) (spelled (DefineExternal e kind n ∷ [])) lines last));
  marks = λ known are. marks_kept d (define_notation d known n).known q r same (first.marks known are);
}

pub external_marked : (d : Doctype) (e : Name) (kind : DataKind) (external : External) (n : Name) (k : ℕ) (t : Option (List ℕ)) (m : ℕ) (p : Pen) (u : Option (List ℕ)) (o : ℕ) (q r : Pen) → number_of d.entities General e ≡ Some (k + 2) → Defines d (external_placed d e kind external n) t m p u o q → r.held ≡ q.held → r.entities.items ≡ set q.entities.items k true → r.notations.items ≡ q.notations.items → Defines d (λ known. define_as d known e (body.ExternalData kind external n)) t m p u o r
external_marked d e kind external n k t m p u o q r found placed held marked same = record {
  puts = λ known are. rw held (placed.puts known are);
  marks = λ known are. marks_set d _ (set q.entities.items k true) q.notations.items _ _ marked same (marked_entity d (define_notation d known n).known q.entities.items q.notations.items e k (placed.marks known are) found);
}

-- INTERNAL DATA
pub internal_marked : (d : Doctype) (e : Name) (kind : DataKind) (text : List ℕ) (k : ℕ) (t : Option (List ℕ)) (m : ℕ) (p : Pen) (u : Option (List ℕ)) (o : ℕ) (r : Pen) → number_of d.entities General e ≡ Some (k + 2) → Puts t m p.held u o r.held (spelled (DefineInternal e kind text ∷ [])) → r.entities.items ≡ set p.entities.items k true → r.notations.items ≡ p.notations.items → Defines d (λ known. record { lines = DefineInternal e kind text ∷ []; known = knowing e known }) t m p u o r
internal_marked d e kind text k t m p u o r found puts marked same = record {
  puts = λ known are. puts;
  marks = λ known are. marks_set d _ (set p.entities.items k true) p.notations.items _ _ marked same (marked_entity d known p.entities.items p.notations.items e k are found);
}

-- ENTITIES
named_is : (d : Doctype) (e : Name) (found : Option ℕ) → number_of d.entities General e ≡ found → entity_named d General e ≡ option_and_then (entity_at d.entities) found
named_is d e found is = unfold entity in unfold entity_number in ap (option_and_then (entity_at d.entities)) is

entity_by : (t : Bool) (d : Doctype) (known : Known) (e : Name) (x : Option Entity) → is_in e known.entities ≡ t → entity_named d General e ≡ x → define_entity d known e ≡ (if t then record { lines = []; known = known } else define_body d known e x)
entity_by t d known e x is named =
    let same : Defined = record { lines = []; known = known } in
    ap (λ (b : Bool). if b then same else define_body d known e (entity_named d General e)) is ∙ ap (λ (y : Option Entity). if t then same else define_body d known e y) named

nothing_by : (t : Bool) (d : Doctype) (known : Known) (e : Name) → (if t then nothing_placed known else define_body d known e None) ≡ nothing_placed known
nothing_by true d known e = refl
nothing_by false d known e = refl

defines_by : (d : Doctype) (f g : Placing) (t : Option (List ℕ)) (m : ℕ) (p : Pen) (u : Option (List ℕ)) (n : ℕ) (q : Pen) → ((known : Known) → AreMarks d known p.entities.items p.notations.items → f known ≡ g known) → Defines d f t m p u n q → Defines d g t m p u n q
defines_by d f g t m p u n q same x = record {
  puts = λ known are. puts_to (f known) (g known) t m p u n q (same known are) (x.puts known are);
  marks = λ known are. marks_to d (f known) (g known) q (same known are) (x.marks known are);
}

keeps_all : (d : Doctype) (t : Option (List ℕ)) (m : ℕ) (p : Pen) → Defines d nothing_placed t m p t m p
keeps_all d t m p = record { puts = λ known are. puts_nothing t m p.held; marks = λ known are. are }

-- there is no such entity
pub entity_missing : (d : Doctype) (e : Name) (t : Option (List ℕ)) (m : ℕ) (p : Pen) → entity_named d General e ≡ None → Defines d (λ known. define_entity d known e) t m p t m p
entity_missing d e t m p none = defines_by d nothing_placed (λ known. define_entity d known e) t m p t m p (λ known are. sym (entity_by (is_in e known.entities) d known e None refl none ∙ nothing_by (is_in e known.entities) d known e)) (keeps_all d t m p)

pub name_missing : (d : Doctype) (e : Name) (found : Option ℕ) (t : Option (List ℕ)) (m : ℕ) (p : Pen) → found ≡ number_of d.entities General e → found ≡ None → Defines d (λ known. define_entity d known e) t m p t m p
name_missing d e found t m p is none = entity_missing d e t m p (named_is d e None (sym is ∙ none))

pub place_missing : (d : Doctype) (e : Name) (k : ℕ) (t : Option (List ℕ)) (m : ℕ) (p : Pen) → number_of d.entities General e ≡ Some k → entity_at d.entities k ≡ None → Defines d (λ known. define_entity d known e) t m p t m p
place_missing d e k t m p found none = entity_missing d e t m p (named_is d e (Some k) found ∙ none)

-- it is known
pub entity_known : (d : Doctype) (e : Name) (k : ℕ) (t : Option (List ℕ)) (m : ℕ) (p : Pen) → number_of d.entities General e ≡ Some k → get_or p.entities.items (k - 2) false ≡ true → Defines d (λ known. define_entity d known e) t m p t m p
entity_known d e k t m p found marked = defines_by d nothing_placed (λ known. define_entity d known e) t m p t m p (λ known are. sym (entity_by true d known e (entity_named d General e) (sym (are.entity_marks e k found) ∙ marked) refl)) (keeps_all d t m p)

-- it is defined now
pub entity_put : (d : Doctype) (e : Name) (k : ℕ) (x : Entity) (t : Option (List ℕ)) (m : ℕ) (p : Pen) (u : Option (List ℕ)) (n : ℕ) (q : Pen) → number_of d.entities General e ≡ Some k → entity_at d.entities k ≡ Some x → get_or p.entities.items (k - 2) false ≡ false → Defines d (λ known. define_as d known e x.body) t m p u n q → Defines d (λ known. define_entity d known e) t m p u n q
entity_put d e k x t m p u n q found there marked puts = defines_by d (λ known. define_as d known e x.body) (λ known. define_entity d known e) t m p u n q (λ known are. sym (entity_by false d known e (Some x) (sym (are.entity_marks e k found) ∙ marked) (named_is d e (Some k) found ∙ there))) puts

-- a notation of an entity is declared
pub body_declared : (d : Doctype) (e : Name) (k : ℕ) (x : Entity) → number_of d.entities General e ≡ Some k → entity_at d.entities k ≡ Some x → IsTrue (is_entity_of d e) → IsTrue (body_has d x.body)
body_declared d e k x found there h = rw (named_is d e (Some k) found ∙ there) at h

-- a found number is that of a place
pub number_from_two : (d : Doctype) (e : Name) (k : ℕ) → number_of d.entities General e ≡ Some k → number_of d.entities General e ≡ Some ((k - 2) + 2)
number_from_two d e k found = found ∙ ap Some (at_least_two d e k found)

-- the lines of a notation's external identifier
notation_at : (d : Doctype) (n : Name) (found : Option External) → external_of d.notations n ≡ found → notation d n ≡ found
notation_at d n found is = unfold notation in is

pub notation_there : (d : Doctype) (n : Name) (os : List Notation) (found : Option External) → found ≡ external_of os n → os ≡ d.notations → optional_lines (notation d n) ≡ optional_lines found
notation_there d n os found is same = ap optional_lines (notation_at d n found (ap (λ z. external_of z n) (sym same) ∙ sym is))

-- of a body of this kind
pub cdata_as : (d : Doctype) (e : Name) (b : Body) (text : List ℕ) (t : Option (List ℕ)) (m : ℕ) (p : Pen) (u : Option (List ℕ)) (o : ℕ) (r : Pen) → b ≡ body.Cdata text → Defines d (λ known. record { lines = DefineInternal e Cdata text ∷ []; known = knowing e known }) t m p u o r → Defines d (λ known. define_as d known e b) t m p u o r
cdata_as d e b text t m p u o r is x = rw is x

pub sdata_as : (d : Doctype) (e : Name) (b : Body) (text : List ℕ) (t : Option (List ℕ)) (m : ℕ) (p : Pen) (u : Option (List ℕ)) (o : ℕ) (r : Pen) → b ≡ body.Sdata text → Defines d (λ known. record { lines = DefineInternal e Sdata text ∷ []; known = knowing e known }) t m p u o r → Defines d (λ known. define_as d known e b) t m p u o r
sdata_as d e b text t m p u o r is x = rw is x

pub external_as : (d : Doctype) (e : Name) (b : Body) (kind : DataKind) (external : External) (n : Name) (t : Option (List ℕ)) (m : ℕ) (p : Pen) (u : Option (List ℕ)) (o : ℕ) (r : Pen) → b ≡ body.ExternalData kind external n → Defines d (λ known. define_as d known e (body.ExternalData kind external n)) t m p u o r → Defines d (λ known. define_as d known e b) t m p u o r
external_as d e b kind external n t m p u o r is x = rw is x
