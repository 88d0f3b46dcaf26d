-- What a context says of tags it says without NET and without what was left out.
use Rattle.std.specs.Prelude.{◌≡◌, ℕ, Bool, false, not, ◌&&◌, ◌||◌, bytes_eq, Option, is_some, nat_le, suc, List, [], ◌∷◌, map, length}
use Rattle.std.specs.List.{list_any}
use Rattle.std.proofs.Common.{refl, sym, ap, ◌∙◌}
use Rattle.sgml_theory_worked.specs.model.Choice.{left_by}
use Rattle.sgml_theory_worked.specs.dtd.Doctypes.{Doctype}
use Rattle.sgml_theory_worked.specs.theory_reading.Names.{Name}
use Rattle.sgml_theory_worked.specs.theory_reading.Types.{type_of, content_of, Content, Model, Any, Cdata, Rcdata, Void}
use Rattle.sgml_theory_worked.specs.theory_reading.Facets.{Token}
use Rattle.sgml_theory_worked.specs.theory_reading.Context.{Level, Context}
use Rattle.sgml_theory_worked.specs.theory_reading.Omission.{allowed, fits, fits_content, is_included, is_excluded, is_excluded_in, is_token_in, finished, depth, counted, inside_of_first}
use Rattle.sgml_theory_worked.specs.theory_reading.Reasons.{is_full}
use Rattle.sgml_theory_worked.specs.theory_reading.Reads.{is_proper_in, is_proper_for}
use Rattle.sgml_theory_written.specs.Alike.{plain_level, Alike}

abbrev pub plains : List Level → List Level
plains ls = map plain_level ls

abbrev pub context_of : Doctype → List Level → Bool → Bool → Context
context_of d ls b i = record { doctype = d; levels = ls; begun = b; inferred = i }

-- without NET, and with nothing left out
abbrev pub plain : Context → Context
plain s = context_of s.doctype (plains s.levels) s.begun false

pub alike-plain : (c d : Context) → Alike c d → plain c ≡ plain d
alike-plain c d a = λ i. context_of (a.doctypes i) (a.levels i) (a.begun i) false

pub alike-from : (c d : Context) → plain c ≡ plain d → Alike c d
alike-from c d e = record {
  doctypes = ap (λ (s : Context). s.doctype) e;
  levels = ap (λ (s : Context). s.levels) e;
  begun = ap (λ (s : Context). s.begun) e;
}

-- what is told of the plain context is told of each that is alike
pub by-plain : {A : Type 0} (f : Context → A) → ((s : Context) → f (plain s) ≡ f s) → (c d : Context) → Alike c d → f c ≡ f d
by-plain f h c d a = sym (h c) ∙ (ap f (alike-plain c d a) ∙ h d)

any-plain : (f : Level → Bool) → ((l : Level) → f (plain_level l) ≡ f l) → (ls : List Level) → list_any f (plains ls) ≡ list_any f ls
any-plain f h [] = refl
any-plain f h (l ∷ ls) = λ i. h l i || any-plain f h ls i

included-plain : (d : Doctype) (ls : List Level) (k : Token) → is_included d (plains ls) k ≡ is_included d ls k
included-plain d ls k = any-plain (λ l. is_token_in k (type_of d l.element).body.included) (λ l. refl) ls

excluded-in : (d : Doctype) (ls : List Level) (k : Token) → is_excluded_in d (plains ls) k ≡ is_excluded_in d ls k
excluded-in d ls k = any-plain (λ l. is_token_in k (type_of d l.element).body.excluded) (λ l. refl) ls

content-at : (d : Doctype) (l : Level) (ls : List Level) (b i : Bool) (k : Token) (content : Content) → fits_content (context_of d (plains (l ∷ ls)) b false) content k ≡ fits_content (context_of d (l ∷ ls) b i) content k
content-at d l ls b i k (Model term) = ap (λ x. is_some (left_by l.left k) || x) (included-plain d (l ∷ ls) k)
content-at d l ls b i k Any = refl
content-at d l ls b i k Cdata = refl
content-at d l ls b i k Rcdata = refl
content-at d l ls b i k Void = refl

fits-at : (d : Doctype) (ls : List Level) (b i : Bool) (k : Token) → fits (context_of d (plains ls) b false) k ≡ fits (context_of d ls b i) k
fits-at d [] b i k = refl
fits-at d (l ∷ ls) b i k = content-at d l ls b i k (content_of (type_of d l.element))

pub excluded-plain : (k : Token) (s : Context) → is_excluded (plain s) k ≡ is_excluded s k
excluded-plain k s = excluded-in s.doctype s.levels k

pub allowed-plain : (k : Token) (s : Context) → allowed (plain s) k ≡ allowed s k
unfolding allowed
allowed-plain k s =
    let f : fits (plain s) k ≡ fits s k = fits-at s.doctype s.levels s.begun s.inferred k in
    let e : is_excluded (plain s) k ≡ is_excluded s k = excluded-plain k s in
    λ i. f i && not (e i)

finished-at : (d : Doctype) (ls : List Level) (b i : Bool) → finished (context_of d (plains ls) b false) ≡ finished (context_of d ls b i)
unfolding finished
finished-at d [] b i = refl
finished-at d (l ∷ ls) b i = refl

pub finished-plain : (s : Context) → finished (plain s) ≡ finished s
finished-plain s = finished-at s.doctype s.levels s.begun s.inferred

length-plain : (ls : List Level) → length (plains ls) ≡ length ls
length-plain [] = refl
length-plain (l ∷ ls) = ap suc (length-plain ls)

pub depth-plain : (s : Context) → depth (plain s) ≡ depth s
depth-plain s = length-plain s.levels

pub full-plain : (s : Context) → is_full (plain s) ≡ is_full s
full-plain s = ap (λ n. nat_le s.doctype.syntax.quantities.taglvl n) (depth-plain s)

proper-in : (d : Doctype) (l : Level) (ls : List Level) (b i : Bool) (k : Token) (content : Content) → is_proper_for (context_of d (plains (l ∷ ls)) b false) content k ≡ is_proper_for (context_of d (l ∷ ls) b i) content k
proper-in d l ls b i k (Model term) = refl
proper-in d l ls b i k Any = refl
proper-in d l ls b i k Cdata = refl
proper-in d l ls b i k Rcdata = refl
proper-in d l ls b i k Void = refl

proper-at : (d : Doctype) (ls : List Level) (b i : Bool) (k : Token) → is_proper_in (context_of d (plains ls) b false) (plains ls) k ≡ is_proper_in (context_of d ls b i) ls k
proper-at d [] b i k = refl
proper-at d (l ∷ ls) b i k = proper-in d l ls b i k (content_of (type_of d l.element))

unfoldable pub is_proper : Token → Context → Bool
is_proper k s = is_proper_in s s.levels k

pub proper-plain : (k : Token) (s : Context) → is_proper k (plain s) ≡ is_proper k s
unfolding is_proper
proper-plain k s = proper-at s.doctype s.levels s.begun s.inferred k

inside-at : (n : Name) (ls : List Level) → inside_of_first (λ l. bytes_eq n l.element) (plains ls) ≡ inside_of_first (λ l. bytes_eq n l.element) ls
inside-at n [] = refl
inside-at n (l ∷ ls) = ap (counted (bytes_eq n l.element)) (inside-at n ls)

-- how many elements stand inside the innermost one of a type
unfoldable pub inside_of : Name → Context → Option ℕ
inside_of n s = inside_of_first (λ l. bytes_eq n l.element) s.levels

pub inside-plain : (n : Name) (s : Context) → inside_of n (plain s) ≡ inside_of n s
unfolding inside_of
inside-plain n s = inside-at n s.levels
