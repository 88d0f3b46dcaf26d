-- A literal is read bit by bit: a run of characters is one part of it, and each reference is one.
use Rattle.std.proofs.Common.{◌≡◌, ℕ, suc, ◌+◌, ◌<◌, Bool, true, false, ◌==◌, nat_lt, List, [], ◌∷◌, ◌++◌, map, Some, Result, Ok, length, take, drop, refl, sym, ◌∙◌, ap, subst, append_assoc, append-nil, length-append, drop-drop, take_at, drop_at, eq-eqb, arith}
use Rattle.std.specs.Prelude.{decimal}
use Rattle.std.specs.List.{list_all}
use Rattle.std.proofs.lemmas.List.{map-append}
use Rattle.sgml_theory_values.specs.text.declared.place.Place.{Place}
use Rattle.sgml_theory_values.specs.text.declared.unit.Unit.{Unit as AnyUnit}
use Rattle.sgml_theory_values.specs.text.declared.unit.Unit.TheVariants as unit
use Rattle.sgml_theory_values.specs.syntax.declared.syntax.Syntax.{Syntax}
use Rattle.sgml_theory_values.specs.entity.declared.kinds.Body.TheVariants.{Sdata}
use Rattle.sgml_theory_values.specs.entity.declared.kinds.Entity.{Entity as AnyEntity}
use Rattle.sgml_theory_values.specs.entity.declared.kinds.Space.TheVariants.{General}
use Rattle.sgml_theory_values.specs.entity.Entities.{number_of, entity_at}
use Rattle.sgml_theory_values.specs.entity.Stack.{Stack, place_at}
use Rattle.sgml_theory_values.specs.decl_parts.declared.ends.Construct.TheVariants.{Literal}
use Rattle.sgml_theory_values.specs.decl_parts.declared.form.Form.TheVariants as f
use Rattle.sgml_theory_values.specs.decl_parts.declared.part.Part.{Part}
use Rattle.sgml_theory_values.specs.decl_parts.declared.part.Part.TheVariants as p
use Rattle.sgml_theory_values.specs.decl_parts.Parts.{part_at, is_ordinary}
use Rattle.sgml_theory_values.specs.decl_lexemes.declared.lexeme.Lexeme.TheVariants.{Value}
use Rattle.sgml_theory_values.specs.decl_lexemes.declared.fault.Fault.{Fault}
use Rattle.sgml_theory_values.specs.decl_lexemes.declared.fault.Reached.TheVariants.{PutsData}
use Rattle.sgml_theory_values.specs.decl_lexemes.Sources.{Source, folded, reached, reach_number, reach_entity, reach_body}
use Rattle.sgml_theory_values.specs.decl_lexemes.Readings.{Reading, State, ahead, after, next_part, judged_part, judged, closes, start, here, reached_from, referred, read_as, with_units, judged_reached, kept}
use Rattle.sgml_theory_values.specs.decl_lexemes.Declares.{ReadsParts, is_closed, state, HasLexemes}
use Rattle.sgml_theory_full.proofs.Plain.{and-true, if-false, all-append}
use Rattle.sgml_theory_full.proofs.Literals.{Bit, Bit.Own, Bit.Number, Bit.Entity, bits_text, bit_unit, is_own, AreBits, IsReferred}
use Rattle.sgml_theory_full.proofs.LiteralParts.{at_quote, own-part, number-part, entity-part}

-- A REFERENCE stands for the specific data of an entity of this name (9.4.4, 10.5)
pub record IsSpecific (s : Syntax) (es : List AnyEntity) (word : List ℕ) (number : ℕ) : Type 0 where
  pub short : nat_lt s.quantities.namelen (length word) ≡ false
  pub numbered : number_of es General (folded s.entity_fold word) ≡ Some number
  pub e : AnyEntity
  pub is : entity_at es number ≡ Some e
  pub text : List ℕ
  pub body : e.body ≡ Sdata text

abbrev pub IsKnown : Syntax → List AnyEntity → Bit → Type 0
IsKnown s es (Own b) = Unit {0}
IsKnown s es (Number b) = Unit {0}
IsKnown s es (Entity word n) = IsSpecific s es word n

abbrev pub AreKnown : Syntax → List AnyEntity → List Bit → Type 0
AreKnown s es [] = Unit {0}
AreKnown s es (x ∷ xs) = IsKnown s es x × AreKnown s es xs

-- READING IT

module _ (s : Syntax) (es : List AnyEntity) (texts : List (ℕ × List ℕ)) (own : List ℕ) (levels expand spent entity from : ℕ) (below : List Place) where
  -- the literal is read with these texts, and on this stack
  abbrev pub source : Source
  source = record { construct = Literal 34; syntax = s; entities = es; texts = texts; own = own; height = suc (length below) }

  abbrev pub stack_at : ℕ → Stack
  stack_at at = record { levels = levels; expand = expand; spent = spent; places = place_at entity at ∷ below }

  -- after these units
  abbrev reading : List AnyUnit → Reading
  reading us = record {
    form = f.Default;
    lexemes = [];
    literal = Some (at_quote (suc (length below)));
    bytes = [];
    units = us;
    after_group = false;
    no_char = false;
  }

  abbrev read_to : List AnyUnit → ℕ → State
  read_to us at = record { reading = reading us; stack = stack_at at }

  pub record IsRead (ps : List Part) (t : State) : Type 0 where
    pub state_is : state source (stack_at from) ps ≡ t
    pub reads : ReadsParts source (stack_at from) ps
    pub unclosed : is_closed (Literal 34) ps ≡ false

  one-more : (ps : List Part) (t u : State) (x : Part) → IsRead ps t → next_part source t ≡ Ok x → closes (Literal 34) x ≡ false → after source (ahead source t) x t ≡ u → IsRead (x ∷ ps) u
  one-more ps t u x r is closed to = record {
    state_is = ap (λ t. after source (ahead source t) x t) r.state_is ∙ to;
    reads = (r.reads, r.unclosed, ap (next_part source) r.state_is ∙ is);
    unclosed = closed;
  }

  same : (n : ℕ) → (n == n) ≡ true
  same n = eq-eqb n n refl

  ahead-is : (us : List AnyUnit) (at : ℕ) (bytes : List ℕ) → drop at own ≡ bytes → ahead source (read_to us at) ≡ bytes
  ahead-is us at bytes h = rw (same (suc (length below))) h

  -- by the bytes that are ahead
  abbrev part_for : List AnyUnit → ℕ → List ℕ → Result Part Fault
  part_for us at bytes = judged_part source bytes (read_to us at) (part_at s.names s.general_fold (here source (read_to us at)) bytes)

  next-is : (us : List AnyUnit) (at : ℕ) (bytes : List ℕ) (x : Part) → drop at own ≡ bytes → part_for us at bytes ≡ Ok x → next_part source (read_to us at) ≡ Ok x
  next-is us at bytes x h is = ap (part_for us at) (ahead-is us at bytes h) ∙ is

  abbrev its : Bool
  its = suc (length below) == suc (length below)

  -- what is left after so many bytes
  later-is : (at n : ℕ) (word more : List ℕ) → drop at own ≡ word ++ more → n ≡ length word → drop (at + n) own ≡ more
  later-is at n word more h size = sym (drop-drop n at own) ∙ ap (drop n) h ∙ drop_at word more n (sym size)

  -- A RUN OF CHARACTERS
  data-part : (us : List AnyUnit) (at b : ℕ) (ws : List ℕ) (c : ℕ) (more : List ℕ) → list_all is_own (b ∷ ws) ≡ true → is_ordinary 34 c ≡ false → drop at own ≡ b ∷ (ws ++ c ∷ more)
      → next_part source (read_to us at) ≡ Ok (p.Data (length (b ∷ ws)))
  data-part us at b ws c more h k is =
      next-is us at (b ∷ (ws ++ c ∷ more)) (p.Data (length (b ∷ ws))) is
      (ap (λ x. judged source (b ∷ (ws ++ c ∷ more)) (read_to us at) x) (own-part s (suc (length below)) its b ws c more h k))

  data-after : (us : List AnyUnit) (at b : ℕ) (ws more : List ℕ) → drop at own ≡ b ∷ (ws ++ more)
      → after source (ahead source (read_to us at)) (p.Data (length (b ∷ ws))) (read_to us at) ≡ read_to (us ++ map unit.Byte (b ∷ ws)) (at + length (b ∷ ws))
  data-after us at b ws more is =
      ap (λ bytes. read_as (with_units (map unit.Byte (take (length (b ∷ ws)) bytes)) (reading us)) (length (b ∷ ws)) (read_to us at))
      (ahead-is us at (b ∷ (ws ++ more)) is)
      ∙ ap (λ bytes. read_as (with_units (map unit.Byte bytes) (reading us)) (length (b ∷ ws)) (read_to us at)) (take_at (b ∷ ws) more (length (b ∷ ws)) refl)

  -- so far
  pub record IsAt (us : List AnyUnit) (more : List ℕ) : Type 0 where
    pub parts : List Part
    pub at : ℕ
    pub is : IsRead parts (read_to us at)
    pub left : drop at own ≡ more

  flushed : (us : List AnyUnit) (ws : List ℕ) (c : ℕ) (more : List ℕ) → list_all is_own ws ≡ true → is_ordinary 34 c ≡ false → IsAt us (ws ++ c ∷ more)
      → IsAt (us ++ map unit.Byte ws) (c ∷ more)
  flushed us [] c more h k r = subst (λ v. IsAt v (c ∷ more)) (sym (append-nil us)) r
  flushed us (b ∷ ws) c more h k r = record {
    parts = p.Data (length (b ∷ ws)) ∷ r.parts;
    at = r.at + length (b ∷ ws);
    is = one-more r.parts (read_to us r.at) (read_to (us ++ map unit.Byte (b ∷ ws)) (r.at + length (b ∷ ws))) (p.Data (length (b ∷ ws))) r.is
        (data-part us r.at b ws c more h k r.left) refl (data-after us r.at b ws (c ∷ more) r.left);
    left = later-is r.at (length (b ∷ ws)) (b ∷ ws) (c ∷ more) r.left refl;
  }

  -- A CHARACTER BY ITS NUMBER
  abbrev number_size : ℕ → ℕ
  number_size n = 2 + length (decimal n) + 1

  numbered-next : (us : List AnyUnit) (n : ℕ) (more : List ℕ) → n < 128 → IsAt us (38 ∷ 35 ∷ (decimal n ++ 59 ∷ more)) → IsAt (us ++ unit.Coded n ∷ []) more
  numbered-next us n more lt r =
      let l = length-append (decimal n) (59 ∷ []) in record {
        parts = p.Char (number_size n) (unit.Coded n) ∷ r.parts;
        at = r.at + number_size n;
        is = one-more r.parts (read_to us r.at) (read_to (us ++ unit.Coded n ∷ []) (r.at + number_size n)) (p.Char (number_size n) (unit.Coded n)) r.is
            (next-is us r.at (38 ∷ 35 ∷ (decimal n ++ 59 ∷ more)) (p.Char (number_size n) (unit.Coded n)) r.left
            (ap (λ x. judged source (38 ∷ 35 ∷ (decimal n ++ 59 ∷ more)) (read_to us r.at) x) (number-part s (suc (length below)) its n more lt)))
            refl refl;
        left = later-is r.at (number_size n) (38 ∷ 35 ∷ (decimal n ++ 59 ∷ [])) more
            (r.left ∙ ap (λ t. 38 ∷ 35 ∷ t) (sym (append_assoc (decimal n) (59 ∷ []) more))) (omega (arith, l));
      }

  -- A REFERENCE
  abbrev name_size : List ℕ → ℕ
  name_size word = 1 + length word + 1

  reaches : (us : List AnyUnit) (at : ℕ) (word : List ℕ) (n : ℕ) → IsSpecific s es word n → reached source (stack_at at) General word ≡ PutsData n
  reaches us at word n k =
      if-false (nat_lt s.quantities.namelen (length word)) _ _ k.short
      ∙ ap (reach_number source (stack_at at) General) k.numbered
      ∙ ap (reach_entity source (stack_at at) General n) k.is
      ∙ body k.e.body k.body
    where
      body : (b : _) → b ≡ Sdata k.text → reach_body source (stack_at at) General n b ≡ PutsData n
      body b e = ap (reach_body source (stack_at at) General n) e

  reached-is : (us : List AnyUnit) (at : ℕ) (word more : List ℕ) (n : ℕ) → IsSpecific s es word n
      → reached_from source (38 ∷ (word ++ more)) (read_to us at) (length word) ≡ PutsData n
  reached-is us at word more n k = ap (reached source (stack_at at) General) (take_at word more (length word) refl) ∙ reaches us at word n k

  referred-next : (us : List AnyUnit) (word : List ℕ) (n : ℕ) (more : List ℕ) → IsReferred s word → IsSpecific s es word n → IsAt us (38 ∷ (word ++ 59 ∷ more))
      → IsAt (us ++ unit.Sdata n ∷ []) more
  referred-next us word n more h k r =
      let l = length-append word (59 ∷ []) in
      let to = reached-is us r.at word (59 ∷ more) n k in record {
        parts = p.Refer (length word) (name_size word) ∷ r.parts;
        at = r.at + name_size word;
        is = one-more r.parts (read_to us r.at) (read_to (us ++ unit.Sdata n ∷ []) (r.at + name_size word)) (p.Refer (length word) (name_size word)) r.is
            (next-is us r.at (38 ∷ (word ++ 59 ∷ more)) (p.Refer (length word) (name_size word)) r.left
            (ap (λ x. judged source (38 ∷ (word ++ 59 ∷ more)) (read_to us r.at) x) (entity-part s (suc (length below)) its word more h.named)
            ∙ ap (judged_reached (kept source (reading us)) (length word) (name_size word)) to))
            refl
            (ap (λ bytes. referred source (name_size word) (read_to us r.at) (reached_from source bytes (read_to us r.at) (length word))) (ahead-is us r.at (38 ∷ (word ++ 59 ∷ more)) r.left)
            ∙ ap (referred source (name_size word) (read_to us r.at)) to);
        left = later-is r.at (name_size word) (38 ∷ (word ++ 59 ∷ [])) more
            (r.left ∙ ap (λ t. 38 ∷ t) (sym (append_assoc word (59 ∷ []) more))) (omega (arith, l));
      }

  -- ALL OF THEM, up to the quote
  all-read : (us : List AnyUnit) (ws : List ℕ) (xs : List Bit) → list_all is_own ws ≡ true → AreBits s xs → AreKnown s es xs
      → IsAt us (ws ++ (bits_text xs ++ 34 ∷ [])) → IsAt (us ++ (map unit.Byte ws ++ map bit_unit xs)) (34 ∷ [])
  all-read us ws [] h k n r = subst (λ v. IsAt (us ++ v) (34 ∷ [])) (sym (append-nil (map unit.Byte ws))) (flushed us ws 34 [] h refl r)
  all-read us ws (Own b ∷ xs) h k n r =
      let e : map unit.Byte (ws ++ b ∷ []) ++ map bit_unit xs ≡ map unit.Byte ws ++ (unit.Byte b ∷ map bit_unit xs) =
      ap (λ v. v ++ map bit_unit xs) (map-append unit.Byte ws (b ∷ [])) ∙ append_assoc (map unit.Byte ws) (unit.Byte b ∷ []) (map bit_unit xs) in
      subst (λ v. IsAt (us ++ v) (34 ∷ [])) e
      (all-read us (ws ++ b ∷ []) xs (all-append is_own ws (b ∷ []) h (and-true (is_own b) true k.0 refl)) k.1 n.1
      (subst (IsAt us) (sym (append_assoc ws (b ∷ []) (bits_text xs ++ 34 ∷ []))) r))
  all-read us ws (Number b ∷ xs) h k n r =
      let one = flushed us ws 38 (35 ∷ (decimal b ++ 59 ∷ (bits_text xs ++ 34 ∷ []))) h refl
      (subst (IsAt us) (ap (λ t. ws ++ (38 ∷ 35 ∷ t)) (ap (λ t. t ++ 34 ∷ []) (append_assoc (decimal b) (59 ∷ []) (bits_text xs)) ∙ append_assoc (decimal b) (59 ∷ bits_text xs) (34 ∷ []))) r) in
      let two = numbered-next (us ++ map unit.Byte ws) b (bits_text xs ++ 34 ∷ []) k.0 one in
      subst (λ v. IsAt v (34 ∷ []))
      (append_assoc (us ++ map unit.Byte ws) (unit.Coded b ∷ []) (map bit_unit xs) ∙ append_assoc us (map unit.Byte ws) (unit.Coded b ∷ map bit_unit xs))
      (all-read ((us ++ map unit.Byte ws) ++ unit.Coded b ∷ []) [] xs refl k.1 n.1 two)
  all-read us ws (Entity word m ∷ xs) h k n r =
      let one = flushed us ws 38 (word ++ 59 ∷ (bits_text xs ++ 34 ∷ [])) h refl
      (subst (IsAt us) (ap (λ t. ws ++ (38 ∷ t)) (ap (λ t. t ++ 34 ∷ []) (append_assoc word (59 ∷ []) (bits_text xs)) ∙ append_assoc word (59 ∷ bits_text xs) (34 ∷ []))) r) in
      let two = referred-next (us ++ map unit.Byte ws) word m (bits_text xs ++ 34 ∷ []) k.0 n.0 one in
      subst (λ v. IsAt v (34 ∷ []))
      (append_assoc (us ++ map unit.Byte ws) (unit.Sdata m ∷ []) (map bit_unit xs) ∙ append_assoc us (map unit.Byte ws) (unit.Sdata m ∷ map bit_unit xs))
      (all-read ((us ++ map unit.Byte ws) ++ unit.Sdata m ∷ []) [] xs refl k.1 n.1 two)

  -- THE QUOTE, and what was read
  quote-next : (us : List AnyUnit) (at : ℕ) → drop at own ≡ 34 ∷ [] → next_part source (read_to us at) ≡ Ok p.EndQuote
  quote-next us at is = next-is us at (34 ∷ []) p.EndQuote is (rw (same (suc (length below))) refl)

  pub record Lexes (us : List AnyUnit) : Type 0 where
    pub stack : Stack
    pub lexemes : HasLexemes source (stack_at from) (Value us ∷ []) stack
    pub spent_is : stack.spent ≡ spent

  closed-read : (us : List AnyUnit) → IsAt us (34 ∷ []) → Lexes us
  closed-read us r =
      let after_quote : after source (ahead source (state source (stack_at from) r.parts)) p.EndQuote (state source (stack_at from) r.parts)
      ≡ after source (ahead source (read_to us r.at)) p.EndQuote (read_to us r.at) = ap (λ t. after source (ahead source t) p.EndQuote t) r.is.state_is in record {
        stack = stack_at (r.at + 1);
        lexemes = record {
          parts = p.EndQuote ∷ r.parts;
          reads = (r.is.reads, r.is.unclosed, ap (next_part source) r.is.state_is ∙ quote-next us r.at r.left);
          whole = refl;
          lexemes_are = sym (ap (λ (t : State). t.reading.lexemes) after_quote);
          stack_is = sym (ap (λ (t : State). t.stack) after_quote);
        };
        spent_is = refl;
      }

  pub bits-read : (xs : List Bit) → AreBits s xs → AreKnown s es xs → start source (stack_at from) ≡ read_to [] from → drop from own ≡ bits_text xs ++ 34 ∷ [] → Lexes (map bit_unit xs)
  bits-read xs k n begins is =
      closed-read (map bit_unit xs)
      (all-read [] [] xs refl k n (record { parts = []; at = from; is = record { state_is = begins; reads = tt; unclosed = refl }; left = is }))
