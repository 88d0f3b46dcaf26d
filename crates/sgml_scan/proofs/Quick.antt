-- Tags and references with names, which the table need not be asked about.
use Rattle.std.proofs.Common.{◌≡◌, ℕ, Bool, true, false, List, [], ◌∷◌, ◌++◌, Some, refl, sym, ◌∙◌, ap, ◌==◌, arith}
use Rattle.std.proofs.lemmas.Bool.{eqb-true}
use Rattle.sgml_text.specs.declared.name_set.NameSet.{NameSet}
use Rattle.sgml_text.specs.NameCharacters.{is_name_start, is_marked}
use Rattle.sgml_syntax.specs.declared.syntax.Syntax.{Syntax}
use Rattle.sgml_delim.specs.declared.delim.Delim.TheVariants as d
use Rattle.sgml_delim.specs.declared.delim.Mode.{Mode}
use Rattle.sgml_delim.specs.declared.delim.Mode.TheVariants as m
use Rattle.sgml_delim.specs.declared.delim.Recognised.TheVariants.{Found}
use Rattle.sgml_delim.specs.Tables.{stands}
use Rattle.sgml_delim.specs.Answers.{Answers, answer}
use Rattle.sgml_delim.proofs.Deciding.{true-false}
use Rattle.sgml_scan.specs.Openings.{is_con}
use Rattle.sgml_scan.specs.Sure.{BeginsStart, BeginsEnd, BeginsReference}

unmarked-slash : (marks : List Bool) → is_marked marks 47 ≡ false
unmarked-slash [] = refl
unmarked-slash (a ∷ []) = refl
unmarked-slash (a ∷ b ∷ []) = refl
unmarked-slash (a ∷ b ∷ c ∷ []) = refl
unmarked-slash (a ∷ b ∷ c ∷ e ∷ []) = refl
unmarked-slash (a ∷ b ∷ c ∷ e ∷ f ∷ more) = refl

unmarked-mark : (marks : List Bool) → is_marked marks 33 ≡ false
unmarked-mark [] = refl
unmarked-mark (a ∷ []) = refl
unmarked-mark (a ∷ b ∷ []) = refl
unmarked-mark (a ∷ b ∷ c ∷ []) = refl
unmarked-mark (a ∷ b ∷ c ∷ e ∷ []) = refl
unmarked-mark (a ∷ b ∷ c ∷ e ∷ f ∷ more) = refl

unmarked-query : (marks : List Bool) → is_marked marks 63 ≡ false
unmarked-query [] = refl
unmarked-query (a ∷ []) = refl
unmarked-query (a ∷ b ∷ []) = refl
unmarked-query (a ∷ b ∷ c ∷ []) = refl
unmarked-query (a ∷ b ∷ c ∷ e ∷ []) = refl
unmarked-query (a ∷ b ∷ c ∷ e ∷ f ∷ more) = refl

unmarked-number : (marks : List Bool) → is_marked marks 35 ≡ false
unmarked-number [] = refl
unmarked-number (a ∷ []) = refl
unmarked-number (a ∷ b ∷ []) = refl
unmarked-number (a ∷ b ∷ c ∷ []) = refl
unmarked-number (a ∷ b ∷ c ∷ e ∷ []) = refl
unmarked-number (a ∷ b ∷ c ∷ e ∷ f ∷ more) = refl

-- a name start character isn't this one
not-start : (names : NameSet) (c b : ℕ) → is_name_start names c ≡ false → is_name_start names b ≡ true → (c == b) ≡ false
not-start names c b f e = from (c == b) refl
  where
    from : (t : Bool) → (c == b) ≡ t → (c == b) ≡ false
    from false p = p
    from true p = absurd (true-false (sym f ∙ ap (is_name_start names) (eqb-true c b p) ∙ e))

start-answer : (s : Syntax) (net : Bool) (c : ℕ) (rest : List ℕ) → is_name_start s.names c ≡ true
    → (47 == c) ≡ false → (33 == c) ≡ false → (63 == c) ≡ false → answer s m.Con net (60 ∷ c ∷ rest) ≡ Some d.Stago
unfolding stands
start-answer s net c rest e f g h = rw (f, g, h, e) refl

end-answer : (s : Syntax) (net : Bool) (c : ℕ) (rest : List ℕ) → is_name_start s.names c ≡ true
    → answer s m.Con net (60 ∷ 47 ∷ c ∷ rest) ≡ Some d.Etago
unfolding stands
end-answer s net c rest e = rw e refl

start-of : (s : Syntax) (net : Bool) (c : ℕ) (rest : List ℕ) → is_name_start s.names c ≡ true
    → answer s m.Con net (60 ∷ c ∷ rest) ≡ Some d.Stago
start-of s net c rest e =
    start-answer s net c rest e (not-start s.names 47 c (unmarked-slash s.names.start) e)
    (not-start s.names 33 c (unmarked-mark s.names.start) e) (not-start s.names 63 c (unmarked-query s.names.start) e)

by-con : (P : Mode → Type 0) (mode : Mode) → is_con mode ≡ true → P m.Con → P mode
by-con P m.Con e h = h
by-con P _ e h = absurd (true-false e)

pub start-found : (s : Syntax) (mode : Mode) (net ended : Bool) (text : List ℕ) → BeginsStart s mode text
    → Answers ended (answer s mode net) text (Found d.Stago 1)
start-found s mode net ended [] h = absurd (let l = h.long in omega (arith, l))
start-found s mode net ended (b ∷ []) h = absurd (let l = h.long in omega (arith, l))
start-found s mode net ended (b ∷ c ∷ rest) h =
    by-con (λ k. Answers ended (answer s k net) (b ∷ c ∷ rest) (Found d.Stago 1)) mode h.con
    (refl, λ more f. ap (λ x. answer s m.Con net (x ∷ c ∷ (rest ++ more))) h.stago ∙ start-of s net c (rest ++ more) h.name)

pub end-found : (s : Syntax) (mode : Mode) (net ended : Bool) (text : List ℕ) → BeginsEnd s mode text
    → Answers ended (answer s mode net) text (Found d.Etago 2)
end-found s mode net ended [] h = absurd (let l = h.long in omega (arith, l))
end-found s mode net ended (b ∷ []) h = absurd (let l = h.long in omega (arith, l))
end-found s mode net ended (b ∷ c ∷ []) h = absurd (let l = h.long in omega (arith, l))
end-found s mode net ended (b ∷ c ∷ e ∷ rest) h =
    by-con (λ k. Answers ended (answer s k net) (b ∷ c ∷ e ∷ rest) (Found d.Etago 2)) mode h.con (
      refl,
      λ more f.
          ap (λ x. answer s m.Con net (x ∷ c ∷ e ∷ (rest ++ more))) h.stago
          ∙ ap (λ x. answer s m.Con net (60 ∷ x ∷ e ∷ (rest ++ more))) h.slash
          ∙ end-answer s net e (rest ++ more) h.name,
    )

reference-answer : (s : Syntax) (net : Bool) (c : ℕ) (rest : List ℕ) → is_name_start s.names c ≡ true → (35 == c) ≡ false
    → answer s m.Con net (38 ∷ c ∷ rest) ≡ Some d.Ero
unfolding stands
reference-answer s net c rest e f = rw (f, e) refl

pub reference-found : (s : Syntax) (mode : Mode) (net ended : Bool) (text : List ℕ) → BeginsReference s mode text
    → Answers ended (answer s mode net) text (Found d.Ero 1)
reference-found s mode net ended [] h = absurd (let l = h.long in omega (arith, l))
reference-found s mode net ended (b ∷ []) h = absurd (let l = h.long in omega (arith, l))
reference-found s mode net ended (b ∷ c ∷ rest) h =
    by-con (λ k. Answers ended (answer s k net) (b ∷ c ∷ rest) (Found d.Ero 1)) mode h.con (
      refl,
      λ more f.
          ap (λ x. answer s m.Con net (x ∷ c ∷ (rest ++ more))) h.ero
          ∙ reference-answer s net c (rest ++ more) h.name (not-start s.names 35 c (unmarked-number s.names.start) h.name),
    )
