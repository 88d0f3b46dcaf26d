-- Marks follow what is defined.
use Rattle.std.proofs.Common.{◌≡◌, ℕ, ◌+◌, ◌-◌, ◌<◌, suc, zero, Bool, true, false, cond, ◌&&◌, Option, Some, List, [], ◌∷◌, ◌++◌, length, get_or, set, refl, sym, ap, ◌∙◌, arith}
use Rattle.std.specs.Str.{bytes_eq}
use Rattle.std.proofs.lemmas.Slice.Eq.{bytes_eq-Decides}
use Rattle.std.proofs.lemmas.List.{length-set, get_or-set_same, get_or-set_other}
use Rattle.sgml_entity.specs.declared.kinds.Space.{Space}
use Rattle.sgml_entity.specs.declared.kinds.Space.TheVariants.{General}
use Rattle.sgml_entity.specs.declared.kinds.Entity.{Entity}
use Rattle.sgml_entity.specs.declared.kinds.Notation.{Notation}
use Rattle.sgml_entity.specs.Entities.{number_from, number_of, notation_from, notation_of, same_space}
use Rattle.sgml_dtd.specs.Doctypes.{Doctype}
use Rattle.sgml_theory_reading.specs.Names.{Name}
use Rattle.sgml_theory_reading.specs.Types.{is_in}
use Rattle.sgml_theory_reading.specs.Lines.{Known, none_known, knowing}
use Rattle.sgml_event_lines.specs.Marks.{AreMarks}

same_name : (a b : Name) → bytes_eq a b ≡ true → a ≡ b
same_name a b h = (bytes_eq-Decides a b).0 h

-- WHAT A NUMBER STANDS FOR
abbrev name_nth : List Entity → ℕ → Name
name_nth [] k = []
name_nth (e ∷ es) zero = e.name
name_nth (e ∷ es) (suc k) = name_nth es k

record Numbered (n : ℕ) (size : ℕ) (name : Name) (number : ℕ) (named : ℕ → Name) : Type 0 where
  pub place : ℕ
  pub is : number ≡ n + place
  pub within : place < size
  pub name_is : name ≡ named place

later : (n size : ℕ) (name : Name) (number : ℕ) (named others : ℕ → Name) → ((k : ℕ) → named (suc k) ≡ others k) → Numbered (n + 1) size name number others → Numbered n (suc size) name number named
later n size name number named others goes x = record {
  place = suc x.place;
  is = omega (arith, x.is);
  within = omega (arith, x.within);
  name_is = x.name_is ∙ sym (goes x.place);
}

both : (a b : Bool) → (a && b) ≡ true → b ≡ true
both true b h = h
both false b h = cc

some_is : (a b : ℕ) → Some a ≡ Some b → a ≡ b
some_is a b h = cc

numbered_here : (t : Bool) (n : ℕ) (e : Entity) (es : List Entity) (space : Space) (name : Name) (number : ℕ) → (same_space space e.space && bytes_eq name e.name) ≡ t → cond t (Some n) (number_from (n + 1) es space name) ≡ Some number → (number_from (n + 1) es space name ≡ Some number → Numbered (n + 1) (length es) name number (name_nth es)) → Numbered n (length (e ∷ es)) name number (name_nth (e ∷ es))
numbered_here true n e es space name number is found again = record {
  place = 0;
  is = omega (arith, some_is n number found);
  within = omega arith;
  name_is = same_name name e.name (both (same_space space e.space) (bytes_eq name e.name) is);
}
numbered_here false n e es space name number is found again = later n (length es) name number (name_nth (e ∷ es)) (name_nth es) (λ k. refl) (again found)

numbered : (n : ℕ) (es : List Entity) (space : Space) (name : Name) (number : ℕ) → number_from n es space name ≡ Some number → Numbered n (length es) name number (name_nth es)
numbered n [] space name number found = cc
numbered n (e ∷ es) space name number found = numbered_here (same_space space e.space && bytes_eq name e.name) n e es space name number refl found (λ rest. numbered (n + 1) es space name number rest)

abbrev notation_nth : List Notation → ℕ → Name
notation_nth [] k = []
notation_nth (o ∷ os) zero = o.name
notation_nth (o ∷ os) (suc k) = notation_nth os k

notations_here : (t : Bool) (n : ℕ) (o : Notation) (os : List Notation) (name : Name) (number : ℕ) → bytes_eq name o.name ≡ t → cond t (Some n) (notation_from (n + 1) os name) ≡ Some number → (notation_from (n + 1) os name ≡ Some number → Numbered (n + 1) (length os) name number (notation_nth os)) → Numbered n (length (o ∷ os)) name number (notation_nth (o ∷ os))
notations_here true n o os name number is found again = record {
  place = 0;
  is = omega (arith, some_is n number found);
  within = omega arith;
  name_is = same_name name o.name is;
}
notations_here false n o os name number is found again = later n (length os) name number (notation_nth (o ∷ os)) (notation_nth os) (λ k. refl) (again found)

notations_numbered : (n : ℕ) (os : List Notation) (name : Name) (number : ℕ) → notation_from n os name ≡ Some number → Numbered n (length os) name number (notation_nth os)
notations_numbered n [] name number found = cc
notations_numbered n (o ∷ os) name number found = notations_here (bytes_eq name o.name) n o os name number refl found (λ rest. notations_numbered (n + 1) os name number rest)

-- names of one number are one
one_name : (n size : ℕ) (a b : Name) (i j : ℕ) (named : ℕ → Name) → Numbered n size a i named → Numbered n size b j named → i ≡ j → a ≡ b
one_name n size a b i j named x y e =
    let places : x.place ≡ y.place = omega (arith, x.is, y.is, e) in
    x.name_is ∙ ap named places ∙ sym y.name_is

-- A MARK MORE, at p, where the same place is the same name
mark_more : (p q : ℕ) (a b : Name) (marks : List Bool) (names : List Name) → (p ≡ q → a ≡ b) → (a ≡ b → p ≡ q) → p < length marks → get_or marks q false ≡ is_in b names → get_or (set marks p true) q false ≡ is_in b (a ∷ names)
mark_more p q a b marks names same other within was = by (bytes_eq b a) refl
  where
    never : false ≡ true → ⊥
    never h = cc

    by : (t : Bool) → bytes_eq b a ≡ t → get_or (set marks p true) q false ≡ is_in b (a ∷ names)
    by true e =
        let eq : p ≡ q = other (sym (same_name b a e)) in
        rw e (rw (← eq) (get_or-set_same marks p true false within))
    by false e =
        rw e (get_or-set_other marks p q true false (λ x. never (sym e ∙ (bytes_eq-Decides b a).1 (sym (same (sym x))))) ∙ was)

some_one : (f : Name → Option ℕ) (a b : Name) (i j : ℕ) → f a ≡ Some i → f b ≡ Some j → a ≡ b → i ≡ j
some_one f a b i j x y e = some_is i j (sym x ∙ ap f e ∙ y)

pub marked_entity : (d : Doctype) (known : Known) (es ns : List Bool) (name : Name) (k : ℕ) → AreMarks d known es ns → number_of d.entities General name ≡ Some (k + 2) → AreMarks d (knowing name known) (set es k true) ns
marked_entity d known es ns name k are found = record {
  entity_count = length-set es k true ∙ are.entity_count;
  notation_count = are.notation_count;
  entity_marks = λ other number there.
      let x = numbered 2 d.entities General name (k + 2) found in
      let y = numbered 2 d.entities General other number there in
      mark_more k (number - 2) name other es known.entities
      (λ e. one_name 2 (length d.entities) name other (k + 2) number (name_nth d.entities) x y (omega (arith, e, y.is)))
      (λ e. let n : k + 2 ≡ number = some_one (number_of d.entities General) name other (k + 2) number found there e in omega (arith, n))
      (omega (arith, x.is, x.within, are.entity_count))
      (are.entity_marks other number there);
  notation_marks = are.notation_marks;
}

pub marked_notation : (d : Doctype) (known : Known) (es ns : List Bool) (name : Name) (k : ℕ) → AreMarks d known es ns → notation_of d.notations name ≡ Some k → AreMarks d (record { notations = name ∷ known.notations; entities = known.entities }) es (set ns k true)
marked_notation d known es ns name k are found = record {
  entity_count = are.entity_count;
  notation_count = length-set ns k true ∙ are.notation_count;
  entity_marks = are.entity_marks;
  notation_marks = λ other number there.
      let x = notations_numbered 0 d.notations name k found in
      let y = notations_numbered 0 d.notations other number there in
      mark_more k number name other ns known.notations
      (λ e. one_name 0 (length d.notations) name other k number (notation_nth d.notations) x y e)
      (λ e. some_one (notation_of d.notations) name other k number found there e)
      (omega (arith, x.is, x.within, are.notation_count))
      (are.notation_marks other number there);
}

-- no mark is set
pub none_marked : (d : Doctype) (es ns : List Bool) → length es ≡ length d.entities → length ns ≡ length d.notations → ((i : ℕ) → get_or es i false ≡ false) → ((i : ℕ) → get_or ns i false ≡ false) → AreMarks d none_known es ns
none_marked d es ns a b x y = record {
  entity_count = a;
  notation_count = b;
  entity_marks = λ name number found. x (number - 2);
  notation_marks = λ name number found. y number;
}

-- one more mark that isn't set
pub unset_more : (xs : List Bool) → ((i : ℕ) → get_or xs i false ≡ false) → (i : ℕ) → get_or (xs ++ false ∷ []) i false ≡ false
unset_more [] none zero = refl
unset_more [] none (suc i) = refl
unset_more (x ∷ xs) none zero = none 0
unset_more (x ∷ xs) none (suc i) = unset_more xs (λ j. none (suc j)) i

-- entities are numbered from 2 on
pub at_least_two : (d : Doctype) (name : Name) (k : ℕ) → number_of d.entities General name ≡ Some k → k ≡ (k - 2) + 2
at_least_two d name k found =
    let x = numbered 2 d.entities General name k found in
    omega (arith, x.is)
