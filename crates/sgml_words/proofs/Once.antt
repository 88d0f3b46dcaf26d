-- Uses that stand once, and the law of the grammar.
use Rattle.std.proofs.Common.{◌≡◌, ◌∙◌, ◌≢◌, ◌<◌, ◌||◌, ◌↔◌, ℕ, zero, suc, Bool, true, false, cond, refl, sym, ap, subst, arith, List, [], ◌∷◌, ◌++◌, length, codes, Option, Some, None, option_and_then, true≢false, bytes_eq, get_or, AllPairs, append-nil, append_assoc, length-append}
use Rattle.std.specs.Option.{unwrap_or}
use Rattle.std.proofs.lemmas.Slice.Eq.{bytes_eq-Decides}
use Rattle.std.proofs.lemmas.List.Quantifiers.{all_pairs_push}
use Rattle.std.proofs.lemmas.List.{get_or_append_left}
use Rattle.std.proofs.Math.Seq.{get_or-append_seam}
use Rattle.sgml_words.specs.Words.{Text, Use, value_in}
use Rattle.sgml_words.specs.Uses.{command_of, has, kept, uses_of}
use Rattle.sgml_words.specs.Says.{AreOnce, IsOf}
use Rattle.sgml_words.specs.Told.{told}
use Rattle.sgml_words.specs.declared.command.Command.{Command}
use Rattle.sgml_words.proofs.Grammar.{says_uses, uses_say}
use Rattle.sgml_words.proofs.Truth.{or_false}

abbrev differ : Use → Use → Type 0
differ u v = u.0 ≢ v.0

same_name : (a : Text) → bytes_eq a a ≡ true
same_name a = (bytes_eq-Decides a a).1 refl

-- each name there is another
others : (name : Text) (us : List Use) → has name us ≡ false → (k : ℕ) (d : Use) → k < length us
    → (get_or us k d).0 ≢ name
others name [] e k d lt same = absurd (omega (arith, lt))
others name (u ∷ us) e zero d lt same =
    let parts = or_false (bytes_eq u.0 name) (has name us) e in
    true≢false (sym (ap (λ n. bytes_eq n name) same ∙ same_name name) ∙ parts.0)
others name (u ∷ us) e (suc k) d lt same =
    let parts = or_false (bytes_eq u.0 name) (has name us) e in
    others name us parts.1 k d (omega (arith, lt)) same

record There (name : Text) (us : List Use) (d : Use) : Type 0 where
  k : ℕ
  below : k < length us
  is : (get_or us k d).0 ≡ name

there_step : (name : Text) (u : Use) (us : List Use) (d : Use) (b : Bool) → bytes_eq u.0 name ≡ b
    → has name (u ∷ us) ≡ true → (has name us ≡ true → There name us d) → There name (u ∷ us) d
there_step name u us d true e any ih = record { k = 0; below = omega arith; is = (bytes_eq-Decides u.0 name).0 e }
there_step name u us d false e any ih =
    let t = ih (sym (ap (λ b. b || has name us) e) ∙ any) in
    record { k = suc t.k; below = omega (arith, t.below); is = t.is }

there : (name : Text) (us : List Use) (d : Use) → has name us ≡ true → There name us d
there name [] d any = absurd (true≢false (sym any))
there name (u ∷ us) d any = there_step name u us d (bytes_eq u.0 name) refl any (there name us d)

abbrev FILE : Text
FILE = codes "FILE"

-- ---- from `kept`

record Kept (seen us r : List Use) : Type 0 where
  is : r ≡ seen ++ us
  once : AllPairs differ (seen ++ us)

kept_end : (seen r : List Use) (b : Bool) → cond b (Some seen) None ≡ Some r → r ≡ seen
kept_end seen r true e = sym (ap (λ (x : Option (List Use)). unwrap_or x []) e)
kept_end seen r false e = cc

kept_step : (seen : List Use) (u : Use) (us r : List Use) (b : Bool) → has u.0 seen ≡ b
    → cond b None (kept (seen ++ u ∷ []) us) ≡ Some r → AllPairs differ seen
    → ((e : kept (seen ++ u ∷ []) us ≡ Some r) → AllPairs differ (seen ++ u ∷ []) → Kept (seen ++ u ∷ []) us r)
    → Kept seen (u ∷ us) r
kept_step seen u us r true h e once ih = cc
kept_step seen u us r false h e once ih =
    let k = ih e (all_pairs_push differ seen u once (others u.0 seen h)) in
    let same : (seen ++ u ∷ []) ++ us ≡ seen ++ (u ∷ us) = append_assoc seen (u ∷ []) us in
    record { is = k.is ∙ same; once = subst (AllPairs differ) same k.once }

kept_tells : (us seen r : List Use) → kept seen us ≡ Some r → AllPairs differ seen → Kept seen us r
kept_tells [] seen r e once =
    let same = sym (append-nil seen) in
    record { is = kept_end seen r (has FILE seen) e ∙ same; once = subst (AllPairs differ) same once }
kept_tells (u ∷ us) seen r e once = kept_step seen u us r (has u.0 seen) refl e once (kept_tells us (seen ++ u ∷ []) r)

-- ---- to `kept`

fresh : (seen : List Use) (u : Use) (us : List Use) (b : Bool) → has u.0 seen ≡ b → AllPairs differ (seen ++ (u ∷ us))
    → b ≡ false
fresh seen u us false h once = refl
fresh seen u us true h once =
    let t = there u.0 seen u h in
    let apart = once t.k (length seen) u t.below (omega (arith, length-append seen (u ∷ us))) in
    let there_is : (get_or (seen ++ (u ∷ us)) t.k u).0 ≡ u.0 =
    ap (λ (v : Use). v.0) (get_or_append_left seen (u ∷ us) u t.k t.below) ∙ t.is in
    absurd (apart (there_is ∙ sym (ap (λ (v : Use). v.0) (get_or-append_seam seen u us u))))

keeps : (us seen : List Use) → AllPairs differ (seen ++ us) → has FILE (seen ++ us) ≡ true
    → kept seen us ≡ Some (seen ++ us)
keeps [] seen once file =
    let same = append-nil seen in
    ap (λ b. cond b (Some seen) None) (ap (has FILE) (sym same) ∙ file) ∙ ap (λ (xs : List Use). Some xs) (sym same)
keeps (u ∷ us) seen once file =
    let same : (seen ++ u ∷ []) ++ us ≡ seen ++ (u ∷ us) = append_assoc seen (u ∷ []) us in
    ap (λ b. cond b None (kept (seen ++ u ∷ []) us)) (fresh seen u us (has u.0 seen) refl once)
    ∙ keeps us (seen ++ u ∷ []) (subst (AllPairs differ) (sym same) once) (ap (has FILE) same ∙ file)
    ∙ ap (λ (xs : List Use). Some xs) same

-- ---- FILE is there

no_value_step : (name : Text) (u : Use) (us : List Use) (b : Bool) → bytes_eq u.0 name ≡ b → (b || has name us) ≡ false
    → (has name us ≡ false → value_in us name ≡ None) → value_in (u ∷ us) name ≡ None
no_value_step name u us true e none ih = absurd (true≢false none)
no_value_step name u us false e none ih = rw e (ih none)

no_value : (name : Text) (us : List Use) → has name us ≡ false → value_in us name ≡ None
no_value name [] e = refl
no_value name (u ∷ us) e = no_value_step name u us (bytes_eq u.0 name) refl e (no_value name us)

told_none : (value : Text → Option Text) → value FILE ≡ None → told value ≡ None
unfolding told
told_none value e = rw e refl

told_file : (us : List Use) (c : Command) (b : Bool) → has FILE us ≡ b → told (value_in us) ≡ Some c → b ≡ true
told_file us c true h e = refl
told_file us c false h e =
    let bad : ◌≡◌ {A = Option Command} None (Some c) = sym (told_none (value_in us) (no_value FILE us h)) ∙ e in cc

-- ---- the law

record Given (words : List Text) (c : Command) : Type 0 where
  uses : List Use
  said : uses_of None words ≡ Some uses
  once : AreOnce uses
  tells : told (value_in uses) ≡ Some c

from_kept : (words : List Text) (us : List Use) (o : Option (List Use)) (c : Command) → uses_of None words ≡ Some us
    → kept [] us ≡ o → option_and_then (λ uses. told (value_in uses)) o ≡ Some c
    → Given words c
from_kept words us None c said k e = cc
from_kept words us (Some r) c said k e =
    let h = kept_tells us [] r k (λ i j d before below. absurd (omega (arith, below))) in
    record { uses = us; said = said; once = h.once; tells = ap (λ uses. told (value_in uses)) (sym h.is) ∙ e }

from_uses : (words : List Text) (o : Option (List Use)) (c : Command) → uses_of None words ≡ o
    → option_and_then (λ uses. told (value_in uses)) (option_and_then (kept []) o) ≡ Some c → Given words c
from_uses words None c said e = cc
from_uses words (Some us) c said e = from_kept words us (kept [] us) c said refl e

pub law : (words : List Text) (c : Command) → (command_of words ≡ Some c) ↔ IsOf words c
law words c = (
  λ e. let g = from_uses words (uses_of None words) c refl e in
      record { uses = g.uses; says = uses_say words g.uses g.said; once = g.once; tells = g.tells },
  λ h. let said = says_uses words h.uses h.says in
      let file = told_file h.uses c (has FILE h.uses) refl h.tells in
      ap (λ o. option_and_then (λ uses. told (value_in uses)) (option_and_then (kept []) o)) said
      ∙ ap (option_and_then (λ uses. told (value_in uses))) (keeps h.uses [] h.once file) ∙ h.tells,
)
