-- A start-tag that needs no second look is the token that stands there, and TAGC closes it.
use Rattle.std.proofs.Common.{◌≡◌, ℕ, suc, ◌+◌, ◌≤◌, Bool, true, false, List, [], ◌∷◌, ◌++◌, length, take, drop, refl, sym, ◌∙◌, ap, subst, if◌then◌else◌, Ok, arith, length-append, append_assoc, append-nil, slice_index_or, inl}
use Rattle.sgml_syntax.specs.declared.syntax.Syntax.{Syntax}
use Rattle.sgml_delim.specs.declared.delim.Delim.TheVariants as d
use Rattle.sgml_delim.specs.declared.delim.Recognised.TheVariants.{Found}
use Rattle.sgml_markup.specs.declared.kinds.Form.TheVariants as form
use Rattle.sgml_markup.specs.declared.kinds.TokenKind.TheVariants as kind
use Rattle.sgml_markup.specs.Ends.{end_of}
use Rattle.sgml_markup.specs.Forms.{last_byte, begins_tagc, begins_slash, parts_of, parts_of_tag}
use Rattle.sgml_markup.specs.TagForm.{spell_all, places, SpellsForm}
use Rattle.sgml_markup.specs.QuickTags.{IsQuickTag, BeginsName, EndsQuickly}
use Rattle.sgml_markup.proofs.Bytes.{take-past, last-is}
use Rattle.sgml_markup.proofs.FormMarkup.{name-all, form-parts}
use Rattle.sgml_markup.proofs.QuickMarkup.{quick-markup}
use Rattle.sgml_scan.specs.StartTags.{start_name, IsStartTag}
use Rattle.sgml_scan.proofs.LoneTags.{name-some, first-starts, no-tagc, no-slash, some-length}
use Rattle.sgml_scan.proofs.Quick.{start-found}
use Rattle.sgml_scan.proofs.Markup.{closed-some}

one-more : (n : ℕ) → 1 + n ≡ suc n
one-more n = omega arith

-- a name at the head of a text, specifications and TAGC
pub record Begins (s : Syntax) (text : List ℕ) (name n : ℕ) : Type 0 where
  pub named : BeginsName s text name
  pub ends : EndsQuickly s (drop name text) n

past : (xs ys : List ℕ) → drop (length xs) (xs ++ ys) ≡ ys
past [] ys = refl
past (x ∷ xs) ys = past xs ys

rest-is : {s : Syntax} {text : List ℕ} {name n : ℕ} (h : Begins s text name n) → h.named.rest ≡ drop name text
rest-is {text = text} h =
    sym (past h.named.name h.named.rest) ∙ ap (λ (k : ℕ). drop k (h.named.name ++ h.named.rest)) (sym h.named.size) ∙ ap (drop _) (sym h.named.is)

quick-tag : {s : Syntax} {text : List ℕ} {name n : ℕ} → Begins s text name n → IsQuickTag s false text (name + n)
quick-tag {s = s} {text = text} {name = name} {n = n} h = record {
  name = h.named.name;
  after = drop name text;
  size = n;
  named = name-all s h.named.name h.named.stands;
  some = name-some s h.named.name h.named.stands;
  short = h.named.short;
  ends = h.ends;
  alone = λ e. absurd (cc);
  is = h.named.is ∙ ap (λ (xs : List ℕ). h.named.name ++ xs) (rest-is h);
  adds = ap (λ (k : ℕ). k + n) h.named.size;
}

-- its bytes between STAGO and TAGC
abbrev body-of : {s : Syntax} {text : List ℕ} {name n : ℕ} → Begins s text name n → List ℕ
body-of h = h.named.name ++ spell_all h.ends.specifications

text-is : {s : Syntax} {text : List ℕ} {name n : ℕ} (h : Begins s text name n) → text ≡ body-of h ++ 62 ∷ h.ends.rest
text-is h =
    h.named.is ∙ ap (λ (xs : List ℕ). h.named.name ++ xs) (rest-is h ∙ h.ends.is) ∙ sym (append_assoc h.named.name (spell_all h.ends.specifications) (62 ∷ h.ends.rest))

size-is : {s : Syntax} {text : List ℕ} {name n : ℕ} (h : Begins s text name n) → name + n ≡ suc (length (body-of h))
size-is h =
    let name = h.named.size in let ends = h.ends.size in let len = length-append h.named.name (spell_all h.ends.specifications) in omega (arith, name, ends, len)

tag-taken : {s : Syntax} {text : List ℕ} {name n : ℕ} (h : Begins s text name n) → take (name + n) text ≡ body-of h ++ 62 ∷ []
tag-taken {text = text} h =
    ap (λ (k : ℕ). take k text) (size-is h) ∙ ap (take (suc (length (body-of h)))) (text-is h) ∙ take-past (body-of h) h.ends.rest 62

text-length : {s : Syntax} {text : List ℕ} {name n : ℕ} (h : Begins s text name n) → name + n ≤ length text
text-length h =
    let is = ap length (text-is h) in let len = length-append (body-of h) (62 ∷ h.ends.rest) in let size = size-is h in omega (arith, is, len, size)

begun-length : {s : Syntax} {text : List ℕ} {name n : ℕ} (h : Begins s text name n) → 2 ≤ suc (length text)
begun-length {s = s} h =
    let l = text-length h in let size = size-is h in let len = length-append h.named.name (spell_all h.ends.specifications) in
    let some = some-length s h.named.name h.named.stands in omega (arith, l, size, len, some)

-- its form, behind STAGO
spelled : {s : Syntax} {text : List ℕ} {name n : ℕ} (h : Begins s text name n) → SpellsForm s false 1 (60 ∷ (body-of h ++ 62 ∷ []))
spelled {s = s} h = record {
  delimiter = 60 ∷ [];
  text = body-of h;
  close = 62 ∷ [];
  body = record {
    name = h.named.name;
    specifications = h.ends.specifications;
    last = [];
    named = name-all s h.named.name h.named.stands;
    stand = h.ends.stand;
    separators = refl;
    alone = λ e. absurd (cc);
    is = ap (λ (xs : List ℕ). h.named.name ++ xs) (sym (append-nil (spell_all h.ends.specifications)));
  };
  begins = refl;
  closes = inl refl;
  is = refl;
}

-- its parts, of which the first is the name
tag-parts : {s : Syntax} {text : List ℕ} {name n : ℕ} (h : Begins s text name n)
    → parts_of_tag s (60 ∷ (body-of h ++ 62 ∷ [])) ≡ start_name name ∷ places h.ends.specifications (1 + length h.named.name)
unfolding spelled
tag-parts {s = s} {name = name} h =
    ap (λ (t : Bool). if t then [] else if begins_slash tag then (if begins_tagc (drop 1 tag) then [] else parts_of s true 2 (60 ∷ tag)) else parts_of s false 1 (60 ∷ tag))
    (ap begins_tagc is ∙ no-tagc s h.named.name behind h.named.stands)
    ∙ ap (λ (t : Bool). if t then (if begins_tagc (drop 1 tag) then [] else parts_of s true 2 (60 ∷ tag)) else parts_of s false 1 (60 ∷ tag))
    (ap begins_slash is ∙ no-slash s h.named.name behind h.named.stands)
    ∙ form-parts s false 1 (60 ∷ tag) (spelled h)
    ∙ ap (λ (k : ℕ). start_name k ∷ places h.ends.specifications (1 + length h.named.name)) (sym h.named.size)
  where
    tag : List ℕ
    tag = body-of h ++ 62 ∷ []

    behind : List ℕ
    behind = spell_all h.ends.specifications ++ 62 ∷ []

    is : tag ≡ h.named.name ++ behind
    is = append_assoc h.named.name (spell_all h.ends.specifications) (62 ∷ [])

begins-there : (s : Syntax) (b : ℕ) (text : List ℕ) (name n : ℕ) → b ≡ 60 → Begins s text name n → IsStartTag s (b ∷ text) (record { name = name; length = 1 + (name + n) })
begins-there s b text name n is h = subst (λ (x : ℕ). IsStartTag s (x ∷ text) (record { name = name; length = 1 + (name + n) })) (sym is) (record {
  scanned = λ st ended con. record {
    recognised = Found d.Stago 1;
    answers = start-found s st.mode st.net ended (60 ∷ text) (record {
      con = con;
      long = begun-length h;
      stago = refl;
      name = first-starts s text h.named.name h.named.rest h.named.stands h.named.is;
    });
    token = sym (closed-some s ended (60 ∷ text) form.StartTag (end_of s form.StartTag ended text) (record { length = 1 + (name + n); judged = Ok kind.StartTag })
        (quick-markup s false ended (60 ∷ text) (1 + (name + n)) (omega arith) (record { after = name + n; sgml = refl; tag = quick-tag h; adds = refl })));
  };
  others = places h.ends.specifications (1 + length h.named.name);
  parts = ap (λ (k : ℕ). parts_of_tag s (take k (60 ∷ text))) (one-more (name + n)) ∙ ap (λ (xs : List ℕ). parts_of_tag s (60 ∷ xs)) (tag-taken h) ∙ tag-parts h;
  some = let size = h.named.size in let some = some-length s h.named.name h.named.stands in omega (arith, size, some);
  named = omega arith;
  within = let l = text-length h in omega (arith, l);
  closed = ap (λ (k : ℕ). last_byte (take k (60 ∷ text))) (one-more (name + n)) ∙ ap (λ (xs : List ℕ). last_byte (60 ∷ xs)) (tag-taken h) ∙ last-is (60 ∷ body-of h) 62;
})

-- A START-TAG, by the bytes at the head of a text
pub start-tag-at : (s : Syntax) (text : List ℕ) (name n : ℕ) → 1 ≤ length text → slice_index_or text 0 0 ≡ 60 → BeginsName s (drop 1 text) name → EndsQuickly s (drop name (drop 1 text)) n
    → IsStartTag s text (record { name = name; length = 1 + (name + n) })
start-tag-at s [] name n l is named ends = absurd (omega (arith, l))
start-tag-at s (b ∷ text) name n l is named ends = begins-there s b text name n is (record { named = named; ends = ends })
