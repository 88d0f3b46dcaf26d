-- Which status the keywords of a section start give.
use Rattle.std.proofs.Common.{◌≡◌, ℕ, ◌+◌, ◌-◌, suc, Bool, IsFalse, List, [], ◌∷◌, ◌++◌, length, Option, Some, None, option_map, Ok, Err, refl, sym, ap, ◌∙◌, if◌then◌else◌, arith}
use Rattle.sgml_scan.specs.text.declared.reason.Reason.TheVariants as reason
use Rattle.sgml_theory_reading.specs.marked.Keywords.{is_keyword, highest, first_unknown, status_unless, AllKnown, IsFirstUnknown}
use Rattle.sgml_theory_reading.specs.decl_parts.declared.ends.Construct.TheVariants as construct
use Rattle.sgml_theory_reading.specs.dtd.Doctypes.{Doctype}
use Rattle.sgml_theory_reading.specs.Names.{Text}
use Rattle.sgml_theory_reading.specs.Pieces.{SectionStart}
use Rattle.sgml_theory_reading.specs.Unread.{Outside}
use Rattle.sgml_theory_spelling.specs.Stacked.{Stacked}
use Rattle.sgml_theory_spelling.specs.Sized.{sized_spent}
use Rattle.sgml_theory_spelling.specs.Declared.{Lexed, lexed}
use Rattle.sgml_theory_spelling.specs.Content.{keywords_in, section_of, section_by, section_start}
use Rattle.sgml_theory_spelling.specs.Statuses.{KeywordsGiveStatus}

-- THE FIRST UNKNOWN WORD

first-after : (known : List (List ℕ)) (word : List ℕ) (later : List (List ℕ)) → AllKnown known → IsFalse (is_keyword word)
    → first_unknown (known ++ (word ∷ later)) ≡ Some (length known)
first-after [] word later a f = ap (λ t. if t then option_map (λ i. i + 1) (first_unknown later) else Some 0) f
first-after (k ∷ ks) word later a f =
    let one : length ks + 1 ≡ suc (length ks) = omega arith in
    ap (λ t. if t then option_map (λ i. i + 1) (first_unknown (ks ++ (word ∷ later))) else Some 0) a.0
    ∙ (ap (λ o. option_map (λ i. i + 1) o) (first-after ks word later a.1 f) ∙ ap Some one)

told-unknown : (ks : List (List ℕ)) (i : ℕ) → IsFirstUnknown ks i → first_unknown ks ≡ Some i
told-unknown ks i h = ap first_unknown h.are ∙ (first-after h.known h.unknown h.later h.all_known h.is_unknown ∙ ap Some (sym h.place))

all-known : (ks : List (List ℕ)) → AllKnown ks → first_unknown ks ≡ None
all-known [] a = refl
all-known (k ∷ ks) a =
    ap (λ t. if t then option_map (λ i. i + 1) (first_unknown ks) else Some 0) a.0 ∙ ap (λ o. option_map (λ i. i + 1) o) (all-known ks a.1)

-- WHAT A SECTION START IS, by it

of-unknown : (outside : Outside) (d : Doctype) (t : Stacked) (in_type : Bool) (own : Text) (x : Lexed) (o : Option ℕ)
    → lexed construct.SectionStart outside d t own ≡ Ok x → first_unknown (keywords_in x.lexemes) ≡ o
    → section_start outside d t in_type own ≡ section_of d.syntax x.lexemes in_type (length own) (x.spent - t.spent) (status_unless (highest (keywords_in x.lexemes)) o)
unfolding section_start
of-unknown outside d t in_type own x o e f =
    ap (section_by d.syntax t in_type (length own)) e
    ∙ ap (λ p. section_of d.syntax x.lexemes in_type (length own) (x.spent - t.spent) (status_unless (highest (keywords_in x.lexemes)) p)) f

pub keywords-give-status : KeywordsGiveStatus
keywords-give-status outside d t in_type own x e =
    let status = highest (keywords_in x.lexemes) in
    let piece = sized_spent (length own) (x.spent - t.spent) (SectionStart status) in record {
      unknown = λ i h. of-unknown outside d t in_type own x (Some i) e (told-unknown (keywords_in x.lexemes) i h);
      misplaced = λ a p. of-unknown outside d t in_type own x None e (all-known (keywords_in x.lexemes) a)
          ∙ ap (λ u. if u then Err reason.DeclarationPlace else Ok piece) p;
      told = λ a p. of-unknown outside d t in_type own x None e (all-known (keywords_in x.lexemes) a)
          ∙ ap (λ u. if u then Err reason.DeclarationPlace else Ok piece) p;
    }
