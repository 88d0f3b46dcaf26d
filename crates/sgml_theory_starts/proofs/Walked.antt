-- What is known of the literals of a tag as they are read one after another: the sum of what was opened never
-- falls, and a text that is wanted isn't there.
use Rattle.std.proofs.Common.{◌≡◌, ◌<◌, ◌≤◌, ◌+◌, ◌∷◌, ℕ, true, false, List, [], Option, Some, None, Result, Ok, Err, is_some, refl, sym, ◌∙◌, subst, arith, length}
use Rattle.sgml_starts.specs.text.Characters.{is_quote}
use Rattle.sgml_starts.specs.text.declared.place.Place.{Place}
use Rattle.sgml_starts.specs.entity.Entities.{entity_at}
use Rattle.sgml_starts.specs.entity.Stack.{is_on, moved_to, offset_of, Stack}
use Rattle.sgml_starts.specs.entity.Texts.{text_of}
use Rattle.sgml_starts.specs.markup.declared.kinds.Part.{Part}
use Rattle.sgml_starts.specs.markup.declared.kinds.PartKind.{PartKind}
use Rattle.sgml_starts.specs.markup.declared.kinds.PartKind.TheVariants as part
use Rattle.sgml_starts.specs.markup.Tags.{bytes_of}
use Rattle.sgml_starts.specs.decl_lexemes.declared.lexeme.Lexeme.{Lexeme}
use Rattle.sgml_starts.specs.decl_lexemes.declared.fault.LexError.{LexError}
use Rattle.sgml_starts.specs.decl_lexemes.declared.fault.LexError.TheVariants as lex
use Rattle.sgml_starts.specs.decl_lexemes.Declares.{is_asked}
use Rattle.sgml_starts.specs.decl_lexemes.Reads.{answer}
use Rattle.sgml_starts.proofs.decl_lexemes.Running.{answer_is}
use Rattle.sgml_starts.specs.declared.error.StartError.TheVariants as error
use Rattle.sgml_starts.specs.Specified.{Input, Specified, specified_from, with_literal}
use Rattle.sgml_starts.specs.Written.{written_from, written_at}
use Rattle.sgml_starts.proofs.Literals.{moved-some, begun-at}
use Rattle.sgml_starts.proofs.Parts.{IsGood, AreGood}
use Rattle.sgml_declared.specs.theory_reading.Names.{Text}
use Rattle.sgml_theory_starts.specs.Read.{literal_asked, quote_before}
use Rattle.sgml_declared.proofs.Stacks.{over}
use Rattle.sgml_declared.proofs.Wanting.{wants}

-- the text of a declared entity that isn't being read isn't there
pub record IsLacking (I : Input) (m : ℕ) : Type 0 where
  pub declared : is_some (entity_at I.tables.entities m) ≡ true
  pub unread : is_on m I.stack.places ≡ false
  pub absent : text_of I.texts m ≡ None

on-moved : (m at : ℕ) (ps : List Place) → is_on m (moved_to at ps) ≡ is_on m ps
on-moved m at [] = refl
on-moved m at (p ∷ ps) = refl

module _ (I : Input) (tag : Text) (some : 0 < length I.stack.places) where
  begun : (x : Part) (spent : ℕ) → is_quote (quote_before tag x) ≡ true → is_asked (literal_asked I spent tag x) ≡ true
  begun x spent quoted = begun-at (quote_before tag x) (moved_to (offset_of I.stack.places + x.from) I.stack.places) (moved-some (offset_of I.stack.places + x.from) I.stack.places some) quoted

  -- THE SUM
  abbrev Grows : (ℕ → Specified) → Type 0
  Grows more = (n : ℕ) → n ≤ (more n).spent

  grows-by : (x : Part) (name : Option Text) (spent : ℕ) (more : ℕ → Specified) → is_quote (quote_before tag x) ≡ true → Grows more
      → (a : Result (List Lexeme) LexError × Stack) → answer (literal_asked I spent tag x) ≡ a → spent ≤ (with_literal name spent more a).spent
  grows-by x name spent more quoted later (Ok ds, t) is =
      let summed = over (literal_asked I spent tag x) ds t (begun x spent quoted) ((answer_is (literal_asked I spent tag x) (begun x spent quoted) (Ok ds) t).1 is) in
      let one : spent ≤ t.spent = summed.spent in
      let two : t.spent ≤ (more t.spent).spent = later t.spent in
      omega (arith, one, two)
  grows-by x name spent more quoted later (Err e, t) is = omega arith

  abbrev GrowsOn : List Part → Type 0
  GrowsOn xs = (name : Option Text) → Grows (λ n. specified_from I n (written_from tag name xs))

  grows-kind : (k : PartKind) (x : Part) (xs : List Part) (name : Option Text) (spent : ℕ) → IsGood tag x k → GrowsOn xs
      → spent ≤ (specified_from I spent (written_at tag name x (λ m. written_from tag m xs) k)).spent
  grows-kind part.ElementName x xs name spent good later = later None spent
  grows-kind part.AttributeName x xs name spent good later = later (Some (bytes_of tag x)) spent
  grows-kind part.Bare x xs name spent good later = later None spent
  grows-kind part.Quoted x xs name spent good later =
      grows-by x name spent (λ n. specified_from I n (written_from tag None xs)) good.1 (later None) (answer (literal_asked I spent tag x)) refl

  pub grows : (xs : List Part) → AreGood tag xs → GrowsOn xs
  grows [] good name spent = omega arith
  grows (x ∷ xs) good name spent = grows-kind x.kind x xs name spent good.0 (grows xs good.1)

  -- A TEXT THAT IS WANTED
  same-number : (m n : ℕ) → Some (error.Wanted m) ≡ Some (error.Wanted n) → m ≡ n
  same-number m n e = cc e

  lacks-by : (x : Part) (name : Option Text) (spent m : ℕ) (more : ℕ → Specified) → is_quote (quote_before tag x) ≡ true
      → ((n : ℕ) → (more n).stop ≡ Some (error.Wanted m) → IsLacking I m)
      → (a : Result (List Lexeme) LexError × Stack) → answer (literal_asked I spent tag x) ≡ a → (with_literal name spent more a).stop ≡ Some (error.Wanted m) → IsLacking I m
  lacks-by x name spent m more quoted later (Ok ds, t) is e = later t.spent e
  lacks-by x name spent m more quoted later (Err (lex.Wanted n), t) is e =
      let w = wants (literal_asked I spent tag x) n t (begun x spent quoted) ((answer_is (literal_asked I spent tag x) (begun x spent quoted) (Err (lex.Wanted n)) t).1 is) in
      subst (IsLacking I) (same-number n m e) (record {
        declared = w.declared;
        unread = sym (on-moved n (offset_of I.stack.places + x.from) I.stack.places) ∙ w.unread;
        absent = w.absent;
      })
  lacks-by x name spent m more quoted later (Err (lex.Refused r), t) is e = absurd (cc e)
  lacks-by x name spent m more quoted later (Err lex.NeedMore, t) is e = absurd (cc e)
  lacks-by x name spent m more quoted later (Err lex.Memory, t) is e = absurd (cc e)

  abbrev LacksIn : ℕ → List Part → Type 0
  LacksIn m xs = (name : Option Text) (n : ℕ) → (specified_from I n (written_from tag name xs)).stop ≡ Some (error.Wanted m) → IsLacking I m

  lacks-kind : (m : ℕ) (k : PartKind) (x : Part) (xs : List Part) (name : Option Text) (spent : ℕ) → IsGood tag x k → LacksIn m xs
      → (specified_from I spent (written_at tag name x (λ w. written_from tag w xs) k)).stop ≡ Some (error.Wanted m) → IsLacking I m
  lacks-kind m part.ElementName x xs name spent good later e = later None spent e
  lacks-kind m part.AttributeName x xs name spent good later e = later (Some (bytes_of tag x)) spent e
  lacks-kind m part.Bare x xs name spent good later e = later None spent e
  lacks-kind m part.Quoted x xs name spent good later e =
      lacks-by x name spent m (λ n. specified_from I n (written_from tag None xs)) good.1 (later None) (answer (literal_asked I spent tag x)) refl e

  no-want : (m : ℕ) → None ≡ Some (error.Wanted m) → ⊥
  no-want m e = cc e

  pub lacks : (m : ℕ) (xs : List Part) → AreGood tag xs → LacksIn m xs
  lacks m [] good name spent e = absurd (no-want m e)
  lacks m (x ∷ xs) good name spent e = lacks-kind m x.kind x xs name spent good.0 (lacks m xs good.1) e
