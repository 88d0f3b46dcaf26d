-- What is taken into the tables is what is spelled.
use Rattle.std.proofs.Common.{◌≡◌, ℕ, true, ◌<◌, ◌≤◌, ◌+◌, ◌-◌, List, [], ◌∷◌, length, drop, Result, Err, refl, ap, ◌∙◌, subst, arith, Option, Some, None}
use Rattle.sgml_text.specs.declared.place.Place.{Place}
use Rattle.sgml_text.specs.declared.reason.Reason.{Reason}
use Rattle.sgml_entity.specs.Stack.{Stack, moved, moved_to, offset_of}
use Rattle.sgml_entity.specs.declared.places.StackMark.{StackMark}
use Rattle.sgml_decl_lexemes.specs.decl_parts.declared.ends.Construct.TheVariants.{Declaration}
use Rattle.sgml_decl_lexemes.specs.declared.lexeme.Lexeme.{Lexeme}
use Rattle.sgml_decl_forms.specs.declared.declaration.Declaration.{Declaration as Said}
use Rattle.sgml_decl_forms.specs.Declarations.{declaration_at}
use Rattle.sgml_dtd.specs.Doctypes.{Doctype}
use Rattle.sgml_dtd.specs.Errors.{IsAdded, IsAgainst}
use Rattle.sgml_theory_standing.specs.theory_reading.Names.{Name, Text}
use Rattle.sgml_theory_standing.specs.theory_reading.Pieces.{Piece, Declare}
use Rattle.sgml_theory_standing.specs.theory_reading.Facets.{ExternalSubset}
use Rattle.sgml_theory_standing.specs.theory_reading.Unread.{Outside, Sources, base_in}
use Rattle.sgml_theory_standing.specs.theory_spelling.Sized.{sized_spent}
use Rattle.sgml_theory_standing.specs.theory_spelling.Declared.{Lexed}
use Rattle.sgml_theory_standing.specs.theory_spelling.Prolog.{declared_lexed}
use Rattle.sgml_theory_standing.proofs.theory_spelling.Judged.{added-is-spelled, refused-is-spelled}
use Rattle.sgml_declared.specs.Files.{Choices, InEach, base_at, sources_in}
use Rattle.sgml_declared.specs.declared.error.TakeError.{TakeError}
use Rattle.sgml_declared.specs.declared.error.TakeError.TheVariants.{Refused, Wanted, Memory}
use Rattle.sgml_declared.specs.Taking.{stacked_on, lexed_at, IsAround, IsStopped, IsTaken, declaration_spelled, is_declare, DeclarationIsStopped}
use Rattle.sgml_declared.specs.Over.{IsMore}
use Rattle.sgml_declared.specs.Reading.{IsAhead, IsMarkOf, AreLexemes, LexemesAreStopped}

-- GOING BACK

rest-same : (at b : ℕ) (ps : List Place) (k : ℕ) → k ≡ 0 → moved_to (offset_of ps) (drop k (moved_to at ps)) ≡ ps
rest-same at b [] k e = ap (λ n. moved_to 0 (drop n [])) e
rest-same at b (p ∷ ps) k e = ap (λ n. moved_to p.at (drop n (moved_to at (p ∷ ps)))) e

moved-length : (at : ℕ) (ps : List Place) → length (moved_to at ps) ≡ length ps
moved-length at [] = refl
moved-length at (p ∷ ps) = refl

same-stack : (x y : Stack) → x.levels ≡ y.levels → x.expand ≡ y.expand → x.spent ≡ y.spent → x.places ≡ y.places → x ≡ y
same-stack x y a b c d =
    ap (λ (n : ℕ). record x { levels = n }) a
    ∙ ap (λ (n : ℕ). record x { levels = y.levels; expand = n }) b
    ∙ ap (λ (n : ℕ). record x { levels = y.levels; expand = y.expand; spent = n }) c
    ∙ ap (λ (n : List Place). record y { places = n }) d

pub gone-back : (s t : Stack) (m : StackMark) → IsMarkOf m s → IsAhead s t
    → (record t { places = moved_to m.at (drop (length t.places - (m.depth + 1)) t.places); spent = m.spent }) ≡ s
gone-back s t m k a =
    let count : length t.places ≡ length s.places = ap length a.places ∙ moved-length a.at s.places in
    let none : length t.places - (m.depth + 1) ≡ 0 = omega (arith, count, k.depth) in
    same-stack (record t { places = moved_to m.at (drop (length t.places - (m.depth + 1)) t.places); spent = m.spent }) s
    a.levels a.expand k.spent
    ((λ i. moved_to (k.at i) (drop (length t.places - (m.depth + 1)) (a.places i))) ∙ rest-same a.at 0 s.places (length t.places - (m.depth + 1)) none)

pub deep : (s t : Stack) (m : StackMark) → IsMarkOf m s → IsAhead s t → m.depth < length t.places
deep s t m k a =
    let count : length t.places ≡ length s.places = ap length a.places ∙ moved-length a.at s.places in
    omega (arith, count, k.depth)

pub within : (s t : Stack) (m : StackMark) → IsMarkOf m s → IsAhead s t → m.spent ≤ t.expand
within s t m k a = omega (arith, k.within, a.expand)

-- A DECLARATION

pub grown-by : (a b : ℕ) → a ≤ b → b ≡ a + (b - a)
grown-by a b l = omega (arith, l)

pub declaration-taken : (c : Choices) (outside : Outside) (k : Sources) (texts : List (ℕ × Text)) (base : Name) (ds : List Lexeme) (e : Doctype) (s t : Stack) (n : ℕ)
    → InEach c (λ outside. base_at outside k s) base → IsAdded base ds k.doctype e (declaration_at ds) → IsAround c outside k texts s → AreLexemes Declaration outside k texts s t n ds
    → (p : Piece) × IsTaken (declaration_spelled outside k texts s n) n p k.doctype e s t × (is_declare p.kind ≡ true)
declaration-taken c outside k texts base ds e s t n base_is added a x =
    let is = base_is outside a.of_options in
    let x' : Lexed = record { lexemes = ds; spent = t.spent } in
    let added-as = added-is-spelled outside k (stacked_on s) n x' e (subst (λ b. IsAdded b ds k.doctype e (declaration_at ds)) is added) in
    let p = sized_spent n (t.spent - s.spent) (Declare ds added-as.says (base_in outside k (stacked_on s).entities)) in (
      p,
      record {
        spelled = ap (declared_lexed outside k (stacked_on s) n) x.lexed ∙ added-as.spelled;
        size = refl;
        declared = added-as.types;
        stack = x.stack ∙ ap (λ z. record s { spent = z; places = moved n s.places }) (grown-by s.spent t.spent x.grown);
      },
      refl,
    )

pub added-more : (base : Name) (ds : List Lexeme) (d e : Doctype) (o : Option Said) → IsAdded base ds d e o → IsMore d e
added-more base ds d e None h = absurd h
added-more base ds d e (Some said) h = record { base = base; says = said; is = h.is }

pub declaration-refused : (outside : Outside) (k : Sources) (texts : List (ℕ × Text)) (ds : List Lexeme) (s t : Stack) (n : ℕ) (r : Reason)
    → IsAgainst ds k.doctype r (declaration_at ds) → AreLexemes Declaration outside k texts s t n ds → declaration_spelled outside k texts s n ≡ Err r
declaration-refused outside k texts ds s t n r against x =
    ap (declared_lexed outside k (stacked_on s) n) x.lexed ∙ refused-is-spelled outside k (stacked_on s) n (record { lexemes = ds; spent = t.spent }) r against

-- what has no lexemes isn't taken
pub stopped-so : {A : Type 0} (outside : Outside) (k : Sources) (texts : List (ℕ × Text)) (s : Stack) (said : Result Lexed Reason) (e : TakeError) (f : Result Lexed Reason → Result A Reason)
    → ((r : Reason) → f (Err r) ≡ Err r) → IsStopped outside k texts s said e → IsStopped outside k texts s (f said) e
stopped-so outside k texts s said (Refused r) f errs h = ap f h ∙ errs r
stopped-so outside k texts s said (Wanted number file) f errs h = record {
  high = h.high;
  declared = h.declared;
  unread = h.unread;
  absent = h.absent;
  named = h.named;
  missing = λ r m. ap f (h.missing r m) ∙ errs r;
}
stopped-so outside k texts s said Memory f errs h = tt

pub declaration-stopped : (c : Choices) (d : Doctype) (subset : Option ExternalSubset) (texts : List (ℕ × Text)) (s : Stack) (e : TakeError)
    → LexemesAreStopped Declaration c d subset texts s e → DeclarationIsStopped c d subset texts s e
declaration-stopped c d subset texts s e h outside n a ends =
    let k = sources_in d subset in
    stopped-so outside k texts s (lexed_at Declaration outside d texts s n) e (declared_lexed outside k (stacked_on s) n) (λ r. refl) (h outside n a ends)
