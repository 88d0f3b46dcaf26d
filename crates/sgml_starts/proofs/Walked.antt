-- The specifications of a tag as they are read, one after another.
use Rattle.std.proofs.Common.{◌≡◌, ◌<◌, ◌+◌, ◌-◌, ◌∷◌, ◌++◌, ℕ, true, List, [], Option, Some, None, Result, Ok, Err, refl, sym, ap, ◌∙◌, subst, length, slice_index_or}
use Rattle.std.proofs.lemmas.List.{append_assoc, append-nil}
use Rattle.sgml_text.specs.Units.{characters}
use Rattle.sgml_text.specs.declared.unit.Unit.{Unit as AnyUnit}
use Rattle.sgml_entity.specs.Stack.{Stack, moved_to, offset_of}
use Rattle.sgml_attr.specs.declared.definition.Spec.{Spec}
use Rattle.sgml_markup.specs.declared.kinds.Part.{Part}
use Rattle.sgml_markup.specs.declared.kinds.PartKind.{PartKind}
use Rattle.sgml_markup.specs.declared.kinds.PartKind.TheVariants as part
use Rattle.sgml_markup.specs.Tags.{bytes_of}
use Rattle.sgml_decl_lexemes.specs.decl_parts.declared.ends.Construct.TheVariants.{Literal}
use Rattle.sgml_decl_lexemes.specs.declared.lexeme.Lexeme.{Lexeme}
use Rattle.sgml_decl_lexemes.specs.declared.lexeme.Lexeme.TheVariants.{Value}
use Rattle.sgml_decl_lexemes.specs.declared.fault.LexError.{LexError}
use Rattle.sgml_decl_lexemes.specs.Declares.{asked}
use Rattle.sgml_decl_lexemes.specs.Reads.{answer}
use Rattle.sgml_starts.specs.declared.error.StartError.{StartError}
use Rattle.sgml_starts.specs.Written.{written_at, written_from, written}
use Rattle.sgml_starts.specs.Specified.{Input, Specified, stack_at, error_of, specified_as, with_literal, with_value, specified_from}
use Rattle.sgml_starts.specs.Read.{StandsAlike, AnswersSo}
use Rattle.sgml_markup.specs.Forms.{parts_of_tag}
pub use Rattle.sgml_starts.specs.SoFar.{with_specs, IsReading}
use Rattle.sgml_starts.proofs.Parts.{AreGood, parts-good}

abbrev pub spec_of : Option (List ℕ) → List AnyUnit → Spec
spec_of name units = record { name = name; value = units }

module _ (I : Input) (tag : List ℕ) (name : Option (List ℕ)) (specs : List Spec) (t : Stack) (p : Part) (parts : List Part) (r : IsReading I tag name specs t (p ∷ parts)) where
  kind-is : (k : PartKind) → p.kind ≡ k → with_specs specs (specified_from I t.spent (written_at tag name p (λ n. written_from tag n parts) k)) ≡ specified_from I I.stack.spent (written I.syntax tag)
  kind-is k e = ap (λ (x : PartKind). with_specs specs (specified_from I t.spent (written_at tag name p (λ n. written_from tag n parts) x))) (sym e) ∙ r.is

  pub element-read : p.kind ≡ part.ElementName → IsReading I tag None specs t parts
  element-read e = record { alike = r.alike; good = r.good.1; is = kind-is part.ElementName e }

  pub name-read : p.kind ≡ part.AttributeName → IsReading I tag (Some (bytes_of tag p)) specs t parts
  name-read e = record { alike = r.alike; good = r.good.1; is = kind-is part.AttributeName e }

  one-more : (units : List AnyUnit) (all : Specified) → with_specs (specs ++ spec_of name units ∷ []) all ≡ with_specs specs (specified_as name units all)
  one-more units all = ap (λ (ss : List Spec). record all { specs = ss }) (append_assoc specs (spec_of name units ∷ []) all.specs)

  pub bare-read : p.kind ≡ part.Bare → IsReading I tag None (specs ++ spec_of name (characters (bytes_of tag p)) ∷ []) t parts
  bare-read e = record {
    alike = r.alike;
    good = r.good.1;
    is = one-more (characters (bytes_of tag p)) (specified_from I t.spent (written_from tag None parts)) ∙ kind-is part.Bare e;
  }

abbrev pub quote_of : List ℕ → Part → ℕ
quote_of tag p = slice_index_or tag (p.from - 1) 0

-- the literal is asked where the stack was moved to
pub stack-is : (I : Input) (t : Stack) (from : ℕ) → StandsAlike I.stack t
    → record t { places = moved_to (offset_of I.stack.places + from) t.places } ≡ stack_at I from t.spent
stack-is I t from a = rw (a.levels, a.expand, a.places (offset_of I.stack.places + from)) refl

abbrev pub asked_at : Input → List ℕ → Part → Stack → Result (List Lexeme) LexError × Stack
asked_at I tag p t = answer (asked (Literal (quote_of tag p)) I.syntax I.tables I.texts (record t { places = moved_to (offset_of I.stack.places + p.from) t.places }) true)

module _ (I : Input) (tag : List ℕ) (name : Option (List ℕ)) (specs : List Spec) (t : Stack) (p : Part) (parts : List Part) (r : IsReading I tag name specs t (p ∷ parts)) where
  quoted-is : (x : Result (List Lexeme) LexError × Stack) → p.kind ≡ part.Quoted → asked_at I tag p t ≡ x
      → with_specs specs (with_literal name t.spent (λ n. specified_from I n (written_from tag None parts)) x) ≡ specified_from I I.stack.spent (written I.syntax tag)
  quoted-is x e is =
      ap (λ (y : Result (List Lexeme) LexError × Stack). with_specs specs (with_literal name t.spent (λ n. specified_from I n (written_from tag None parts)) y))
      (sym is ∙ ap (λ (s : Stack). answer (asked (Literal (quote_of tag p)) I.syntax I.tables I.texts s true)) (stack-is I t p.from r.alike))
      ∙ kind-is I tag name specs t p parts r part.Quoted e

  pub quoted-read : (units : List AnyUnit) (after : Stack) → p.kind ≡ part.Quoted → asked_at I tag p t ≡ (Ok (Value units ∷ []), after) → StandsAlike t after
      → IsReading I tag None (specs ++ spec_of name units ∷ []) after parts
  quoted-read units after e is a = record {
    alike = record { levels = a.levels ∙ r.alike.levels; expand = a.expand ∙ r.alike.expand; places = λ x. a.places x ∙ r.alike.places x };
    good = r.good.1;
    is = one-more I tag name specs t p parts r units (specified_from I after.spent (written_from tag None parts)) ∙ quoted-is (Ok (Value units ∷ []), after) e is;
  }

  stopped-by : (x : Result (List Lexeme) LexError × Stack) (e : StartError) → AnswersSo x.0 e
      → with_literal name t.spent (λ n. specified_from I n (written_from tag None parts)) x ≡ record { specs = []; stop = Some e; spent = t.spent }
  stopped-by (Ok ds, after) e h = absurd h
  stopped-by (Err l, after) e h = ap (λ (x : StartError). record { specs = []; stop = Some x; spent = t.spent }) h

  pub quoted-stops : (e : StartError) → p.kind ≡ part.Quoted → AnswersSo (asked_at I tag p t).0 e
      → record { specs = specs; stop = Some e; spent = t.spent } ≡ specified_from I I.stack.spent (written I.syntax tag)
  quoted-stops e k h =
      ap (λ (ss : List Spec). record { specs = ss; stop = Some e; spent = t.spent }) (sym (append-nil specs))
      ∙ ap (with_specs specs) (sym (stopped-by (asked_at I tag p t) e h))
      ∙ quoted-is (asked_at I tag p t) k refl

pub all-read : (I : Input) (tag : List ℕ) (name : Option (List ℕ)) (specs : List Spec) (t : Stack) → IsReading I tag name specs t []
    → record { specs = specs; stop = None; spent = t.spent } ≡ specified_from I I.stack.spent (written I.syntax tag)
all-read I tag name specs t r = ap (λ (ss : List Spec). record { specs = ss; stop = None; spent = t.spent }) (sym (append-nil specs)) ∙ r.is

-- at the first part
pub begun-reading : (I : Input) (tag : List ℕ) (parts : List Part) → parts ≡ parts_of_tag I.syntax tag → IsReading I tag None [] I.stack parts
begun-reading I tag parts e = record {
  alike = record { levels = refl; expand = refl; places = λ x. refl };
  good = subst (AreGood tag) (sym e) (parts-good tag I.syntax);
  is = ap (λ (ps : List Part). specified_from I I.stack.spent (written_from tag None ps)) e;
}
